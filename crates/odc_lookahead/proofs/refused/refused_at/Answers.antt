use Rattle.std.proofs.Common.{◌≡◌, Some, None, slice_get, subst, sym, arith}
use Rattle.std.proofs.lemmas.Grind.{common_steps}
use Rattle.std.proofs.lemmas.Option.{slice_get_past}
use Rattle.odc_lookahead.specs.RefusedForms.{Refuses}
use Rattle.odc_lookahead.specs.declared.refused.RefusedForm.{RefusedForm}
use Rattle.odc_lookahead.proofs.faults.RefusedLemmas.{found_at, some_of, none_of, begins_refused, is_refused, none_past_end}
use Rattle.odc_lookahead.proofs.refused.refused_at.Goals as goal

pub returns-in-Some-clause-some : goal.returns-in-Some-clause-some
returns-in-Some-clause-some c =
    let e : slice_get c.args.tokens.now c.args.at ≡ Some c.in-Some.token.now = found_at c.args.tokens.now c.args.at c.in-Some.token.now c.in-Some.ensures.lookup.0 c.in-Some.ensures.lookup.1 in
    some_of c.code_of.result c.code_of.ensures.some
    (λ k r. begins_refused c.args.tokens.now c.args.at c.in-Some.token.now k e (subst (λ (f : RefusedForm). Refuses c.args.tokens.now c.args.at f k) c.refused_form.ensures r))

pub returns-in-Some-clause-none : goal.returns-in-Some-clause-none
returns-in-Some-clause-none c =
    let e : slice_get c.args.tokens.now c.args.at ≡ Some c.in-Some.token.now = found_at c.args.tokens.now c.args.at c.in-Some.token.now c.in-Some.ensures.lookup.0 c.in-Some.ensures.lookup.1 in
    none_of c.code_of.result c.code_of.ensures.none
    (λ n k r. n k (subst (λ (f : RefusedForm). Refuses c.args.tokens.now c.args.at f k) (sym c.refused_form.ensures) (is_refused c.args.tokens.now c.args.at c.in-Some.token.now k e r)))

pub returns-in-None-clause-none : goal.returns-in-None-clause-none
returns-in-None-clause-none c =
    let e : slice_get c.args.tokens.now c.args.at ≡ None = grind (arith, common_steps, slice_get_past) in
    none_past_end c.args.tokens.now c.args.at e
