use Rattle.std.proofs.Common.{◌∷◌, ◌++◌, [], ◌∙◌, ap}
use Rattle.odc_small.specs.Text.{parameters}
use Rattle.odc_small.specs.Reading.{nexts_of}
use Rattle.odc_small.proofs.FormLemmas.{one_more, none_yet, all_found}
use Rattle.odc_small.proofs.funcs.more_at.Goals as goal

pub names-init : goal.names-init
names-init c = record { others = []; are = c.in_ok-names.ensures.items; so_far = none_yet (nexts_of parameters) c.args.bytes.now tt }

pub names-preserved : goal.names-preserved
names-preserved c = record {
  others = c.names.invariant.others ++ c.in-Some.name ∷ [];
  are = c.in_ok-push.ensures.items ∙ ap (λ z. z ++ c.in-Some.name ∷ []) c.names.invariant.are;
  so_far = one_more (nexts_of parameters) c.args.bytes.now c.names.invariant.others c.names.rest.now c.in-Some.name c.in-Some.after.now c.names.invariant.so_far c.in-Some.ensures;
}

pub returns : goal.returns
returns c = record {
  others = c.names.invariant.others;
  are = c.names.invariant.are;
  found = all_found (nexts_of parameters) c.args.bytes.now c.names.invariant.others c.names.rest.now c.names.invariant.so_far c.in_default.ensures;
}
