use Rattle.std.proofs.Common.{◌≡◌, ◌+◌, ◌-◌, true, arith}
use Rattle.odc_carried.specs.Carried.{is_loud}
use Rattle.odc_carried.proofs.emitting.Sources.{until_here, behind_until}
use Rattle.odc_carried.proofs.operands.loud_until.Goals as goal

pub returns-then-is_loud-clause-before : goal.returns-then-is_loud-clause-before
returns-then-is_loud-clause-before c =
    let before : c.loop-until.until - 1 + 1 ≡ c.loop-until.until = omega (arith, c.loop-until-test.true) in
    let loud : is_loud c.index-es-until.result ≡ true = cc in
    until_here c.args.es.now c.loop-until.until (c.loop-until.until - 1) c.index-es-until.result before (omega (arith, c.loop-until-test.true, c.loop-until.invariant.inside)) c.index-es-until.is loud

pub returns-then-is_loud-clause-behind : goal.returns-then-is_loud-clause-behind
returns-then-is_loud-clause-behind c = behind_until c.args.es.now c.loop-until.until c.loop-until.invariant.quiet

pub returns-clause-behind : goal.returns-clause-behind
returns-clause-behind c = λ i h. behind_until c.args.es.now c.loop-until.until c.loop-until.invariant.quiet i (omega (arith, c.loop-until-test.false))
