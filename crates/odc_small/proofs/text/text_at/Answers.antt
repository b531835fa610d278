use Rattle.std.proofs.Common.{◌≡◌, ◌++◌, ◌∷◌, [], ◌∙◌, List, ap, map}
use Rattle.std.proofs.lemmas.List.{map-append}
use Rattle.odc_typed.specs.View.{proc}
use Rattle.odc_small.specs.Grammar.{LineAt}
use Rattle.odc_small.specs.Text.{MainAt, ReadsMain}
use Rattle.odc_small.specs.View.{callable as callable_tree}
use Rattle.odc_small.proofs.TextLemmas.{text_none_head, text_none_main, text_read}
use Rattle.odc_small.proofs.text.text_at.Goals as goal

pub returns-in_default : goal.returns-in_default
returns-in_default c = text_none_head (callable_tree c.args.callable.now) c.args.bytes.now c.in_default.ensures

pub returns-in_default-2 : goal.returns-in_default-2
returns-in_default-2 c =
    let none : (ls : List (LineAt 7)) → MainAt (callable_tree c.args.callable.now) c.in_ok-procedures.rest.now ls → ⊥ = rw c.in_default-2.is at c.in_ok-main.ensures in
    text_none_main (callable_tree c.args.callable.now) c.args.bytes.now c.in-Some.body.now c.in_ok-procedures.rest.now c.in_ok-procedures.line (map proc c.in_ok-procedures.procedures.items) c.in_ok-procedures.signatures.items
    c.in-Some.ensures c.in_ok-procedures.ensures none

pub returns : goal.returns
returns c =
    let main : ReadsMain (callable_tree c.args.callable.now) c.in_ok-procedures.line c.in_ok-procedures.rest.now (proc c.in-Some-2.main) = rw c.in-Some-2.is at c.in_ok-main.ensures in
    text_read (callable_tree c.args.callable.now) c.args.bytes.now c.in-Some.body.now c.in_ok-procedures.rest.now c.in_ok-procedures.line (map proc c.in_ok-procedures.procedures.items) _ c.in_ok-procedures.signatures.items (proc c.in-Some-2.main)
    c.in-Some.ensures c.in_ok-procedures.ensures main (ap (map proc) c.in_ok-push.ensures.items ∙ map-append proc c.in_ok-procedures.procedures.items (c.in-Some-2.main ∷ []))
