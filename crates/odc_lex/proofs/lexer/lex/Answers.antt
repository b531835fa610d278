use Rattle.std.proofs.Common.{refl, ◌+◌, false}
use Rattle.odc_lex.specs.declared.state.Ending.TheVariants.{Never}
use Rattle.odc_lex.proofs.LexLemmas.{stands_start, next_over_slices, stuck_over_slices}
use Rattle.odc_lex.proofs.lexer.lex.Goals as goal

pub loop-state-init : goal.loop-state-init
loop-state-init c =
    stands_start c.args.file c.args.text.now
    (record {
      tokens = c.new.result;
      «open» = c.new-2.result;
      ending = Never;
      at = record { file = c.args.file; line = 1; column = 1 + c.mark_len-mark.result };
      from = c.mark_len-mark.result;
      behind_number = false;
    })
    c.mark_len-mark.ensures
    (λ i. record { file = c.args.file; line = 1; column = 1 + c.mark_len-mark.ensures i })
    c.new.ensures.items
    c.new-2.ensures.items
    refl
    refl

pub loop-state-preserved : goal.loop-state-preserved
loop-state-preserved c =
    next_over_slices c.args.file c.args.text.now c.loop-state.state c.pass.new.self _ c.in-Some.found.len c.loop-state.invariant c.in-Some.ensures c.in_ok-pass-in-Some.ensures

pub returns-in-None-clause-fault : goal.returns-in-None-clause-fault
returns-in-None-clause-fault c =
    stuck_over_slices c.args.file c.args.text.now c.loop-state.state c.loop-state.invariant c.loop-state-test.true c.in-None.ensures
