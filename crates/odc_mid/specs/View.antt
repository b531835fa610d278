-- What the definitions see of a Rust value.
use Rattle.std.specs.Prelude.{map, string_bytes}
use Rattle.odc_mid.specs.declared.tree.MidProcedure.{MidProcedure}
use Rattle.odc_mid.specs.declared.tree.MidProgram.{MidProgram}
use Rattle.odc_mid.specs.Tree.{Proc, Whole}

abbrev pub proc : MidProcedure → Proc
proc p = record {
  name = string_bytes p.name;
  at = p.at;
  parameters = p.parameters;
  variables = p.variables.items;
  frame = p.frame;
  temporaries = p.temporaries;
  steps = p.steps.items;
}

abbrev pub program : MidProgram → Whole
program p = record {
  procedures = map proc p.procedures.items;
  addresses = p.addresses.items;
  store = p.store.items;
  store_size = p.store_size;
  main = p.main;
}
