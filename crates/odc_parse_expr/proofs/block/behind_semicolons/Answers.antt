use Rattle.std.proofs.Common.{arith, ap, length}
use Rattle.odc_lookahead.specs.stmts.Runs.{none}
use Rattle.odc_lookahead.proofs.stmts.RunExits.{skips_one}
use Rattle.odc_parse_expr.proofs.block.behind_semicolons.Goals as goal

pub skip-init : goal.skip-init
skip-init c = record { skips = λ at k. k; short = omega arith }

pub skip-preserved : goal.skip-preserved
skip-preserved c = record {
  skips = λ at k. c.skip.invariant.skips at (skips_one c.skip.rest.now c.in-Some.behind.now at c.in-Some._semicolon c.in-Some.ensures.is c.in-Some.ensures.kind k);
  short = let longer = ap length c.in-Some.ensures.is in let before = c.skip.invariant.short in omega (arith, longer, before);
}

pub returns-clause-skips : goal.returns-clause-skips
returns-clause-skips c = c.skip.invariant.skips c.skip.rest.now (none c.skip.rest.now c.in_default.ensures.none)
