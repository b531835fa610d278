-- How a run ends at EBREAK: the check's number is in register 10, the site's in register 11.
use Rattle.std.specs.Prelude.{◌==◌, List, Option, Some, None, slice_get, if◌then◌else◌}
use Rattle.odc_text.specs.Check.{number_of}
use Rattle.rv_table.specs.State.{State, register}
use Rattle.rv_table.specs.Run.{Site}
use Rattle.rv_machine.specs.declared.stop.Stop.{Stop}
use Rattle.rv_machine.specs.declared.stop.Stop.TheVariants.{Checked, Trapped}

abbrev pub stop_at : State → Option Site → Stop
stop_at s None = Trapped s.pc
stop_at s (Some site) = if number_of site.0 == register s 10 then Checked site.0 site.1 else Trapped s.pc

abbrev pub check_stop : List Site → State → Stop
check_stop sites s = stop_at s (slice_get sites (register s 11))
