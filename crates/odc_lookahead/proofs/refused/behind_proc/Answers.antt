use Rattle.std.proofs.Common.{true, false, ◌≡◌}
use Rattle.odc_lookahead.specs.RefusedForms.{group}
use Rattle.odc_lookahead.proofs.faults.RefusedLemmas.{some_of, none_of, behind_text, nothing_behind_proc}
use Rattle.odc_lookahead.proofs.refused.behind_proc.Goals as goal

pub returns-then-stands-clause-some : goal.returns-then-stands-clause-some
returns-then-stands-clause-some c = group (c.stands.ensures.0 c.if-stands.true)

pub returns-else-stands-clause-some : goal.returns-else-stands-clause-some
returns-else-stands-clause-some c =
    some_of c.code_if.result c.code_if.ensures.some (λ k h. behind_text c.args.tokens.now c.args.at c.unconventional.result k c.unconventional.ensures.0 h)

pub returns-else-stands-clause-none : goal.returns-else-stands-clause-none
returns-else-stands-clause-none c =
    none_of c.code_if.result c.code_if.ensures.none
    (λ f k. nothing_behind_proc c.args.tokens.now c.args.at k (λ s. let e : c.stands.result ≡ true = c.stands.ensures.1 s in let n : c.stands.result ≡ false = c.if-stands.false in cc) (λ u. f (c.unconventional.ensures.1 u)))
