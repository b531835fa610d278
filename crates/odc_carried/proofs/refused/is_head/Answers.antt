use Rattle.std.proofs.Common.{◌≡◌, ◌≤◌, List, true, false, map, length, ap, ◌∙◌, sym, refl, arith, append_assoc}
use Rattle.std.specs.Prelude.{nat_le}
use Rattle.odc_program.specs.declared.program.Local.{Local}
use Rattle.odc_program.specs.Views.Instances.{local}
use Rattle.odc_program.specs.Views.ProgramView.{program}
use Rattle.odc_carried.specs.Carried.{are_ints}
use Rattle.odc_carried.specs.TableView.{head_in}
use Rattle.odc_carried.proofs.emitting.Refusals.{head_is, head_fails, head_holds, few_results}
use Rattle.odc_carried.proofs.refused.is_head.Goals as goal

pub returns-then-not-are_ints : goal.returns-then-not-are_ints
returns-then-not-are_ints c =
    let p = c.args.p.now in
    let t = (program c.args.w.now).tables in
    let first : are_ints t (map local p.params.items) ≡ false = sym (c.are_ints.ensures ∙ ap (λ (ls : List Local). are_ints t (map local ls)) c.deref.ensures.value) ∙ c.if-not-are_ints.true in
    sym (head_is t (head_in c.args.w.now.procedures.items p) (map local p.params.items) (map local p.results.items) (map local p.locals.items) (append_assoc (map local p.params.items) (map local p.results.items) (map local p.locals.items)) refl refl ∙ head_fails (nat_le (length (map local p.results.items)) 1) (are_ints t (map local p.params.items)) (are_ints t (map local p.results.items)) first)

pub returns : goal.returns
returns c =
    let p = c.args.p.now in
    let t = (program c.args.w.now).tables in
    let first : are_ints t (map local p.params.items) ≡ true = sym (c.are_ints.ensures ∙ ap (λ (ls : List Local). are_ints t (map local ls)) c.deref.ensures.value) ∙ c.if-not-are_ints.false in
    let few : length p.results.items ≤ 1 = omega (arith, c.if-len-gt1.false, c.len.ensures) in
    c.are_ints-2.ensures ∙ ap (λ (ls : List Local). are_ints t (map local ls)) c.deref-2.ensures.value
    ∙ sym (head_is t (head_in c.args.w.now.procedures.items p) (map local p.params.items) (map local p.results.items) (map local p.locals.items) (append_assoc (map local p.params.items) (map local p.results.items) (map local p.locals.items)) refl refl ∙ head_holds (nat_le (length (map local p.results.items)) 1) (are_ints t (map local p.params.items)) (are_ints t (map local p.results.items)) (few_results p.results.items few) first)
