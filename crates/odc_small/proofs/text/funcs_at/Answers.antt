use Rattle.std.proofs.Common.{◌≡◌, ◌++◌, ◌∷◌, [], ◌∙◌, List, ap, map}
use Rattle.std.proofs.lemmas.List.{map-append}
use Rattle.odc_typed.specs.View.{proc}
use Rattle.odc_small.specs.Text.{ReadsFunc}
use Rattle.odc_small.specs.View.{callable as callable_tree}
use Rattle.odc_small.proofs.TextLemmas.{func_more}
use Rattle.odc_small.proofs.text.funcs_at.Goals as goal

pub procedures-preserved : goal.procedures-preserved
procedures-preserved c =
    let here : ReadsFunc (callable_tree c.args.callable.now) c.procedures.line c.in-Some.next c.procedures.rest.now c.in-Some.after.now (proc c.in-Some.procedure) c.in-Some.signature = rw c.in-Some.is at c.in_ok-procedure.ensures in
    func_more (callable_tree c.args.callable.now) c.procedures.line c.in-Some.next c.args.bytes.now c.procedures.rest.now c.in-Some.after.now (map proc c.procedures.procedures.items) _ c.procedures.signatures.items _
    (proc c.in-Some.procedure) c.in-Some.signature c.procedures.invariant here
    (ap (map proc) c.in_ok-push.ensures.items ∙ map-append proc c.procedures.procedures.items (c.in-Some.procedure ∷ [])) c.in_ok-push-2.ensures.items
