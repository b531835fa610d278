use Rattle.std.proofs.Common.{subst, sym}
use Rattle.rv_sites.specs.Sections.{name_bytes, IsShortName}
use Rattle.rv_sites.proofs.Counted.{piece_next}
use Rattle.rv_sites.proofs.section.write.push_names.Goals as goal

pub push_name-requires : goal.push_name-requires
push_name-requires c = subst IsShortName (sym c.name-item.is) (c.requires.short c.loop-name.name-index c.name-item.result c.loop-name-test.true)

pub loop-name-preserved : goal.loop-name-preserved
loop-name-preserved c = piece_next name_bytes c.loop-name.out.items _ _ c.args.names.now c.loop-name.name-index c.name-item.result c.loop-name-test.true c.name-item.is c.loop-name.invariant c.in_ok-push_name.ensures
