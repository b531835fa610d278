use Rattle.std.proofs.Common.{◌+◌, ◌∙◌, ℕ, ap}
use Rattle.odc_typed.specs.View.{expr}
use Rattle.odc_small.specs.Forms.{NoneAt}
use Rattle.odc_small.specs.Progress.{known_values}
use Rattle.odc_small.specs.Reading.{ReadsAt}
use Rattle.odc_small.specs.Typing.{value_at, at}
use Rattle.odc_small.specs.View.{callable as callable_tree}
use Rattle.odc_small.proofs.LineLemmas.{condition_none_left, condition_none_relation, condition_none_right, condition_none_brace, condition_read}
use Rattle.odc_small.proofs.lines.condition_at.Goals as goal

pub returns-in_default : goal.returns-in_default
returns-in_default c =
    let none : NoneAt (known_values (callable_tree c.args.callable.now) c.args.names.now) c.args.bytes.now = rw c.in_default.is at c.in_ok-left.ensures in
    condition_none_left (callable_tree c.args.callable.now) c.args.names.now c.args.bytes.now none

pub returns-in_default-relation_at : goal.returns-in_default-relation_at
returns-in_default-relation_at c =
    let left : ReadsAt (known_values (callable_tree c.args.callable.now) c.args.names.now) (value_at (callable_tree c.args.callable.now) c.args.names.now c.args.line) c.args.origin c.args.bytes.now c.in-Some.behind.now (expr c.in-Some.left) = rw c.in-Some.is at c.in_ok-left.ensures in
    condition_none_relation (callable_tree c.args.callable.now) c.args.names.now c.args.line c.args.origin c.args.bytes.now c.in-Some.behind.now (expr c.in-Some.left) left c.in_default-relation_at.ensures

pub returns-in_default-2 : goal.returns-in_default-2
returns-in_default-2 c =
    let left : ReadsAt (known_values (callable_tree c.args.callable.now) c.args.names.now) (value_at (callable_tree c.args.callable.now) c.args.names.now c.args.line) c.args.origin c.args.bytes.now c.in-Some.behind.now (expr c.in-Some.left) = rw c.in-Some.is at c.in_ok-left.ensures in
    let none : NoneAt (known_values (callable_tree c.args.callable.now) c.args.names.now) c.in-Some-relation_at.rest.now = rw c.in_default-2.is at c.in_ok-right.ensures in
    condition_none_right (callable_tree c.args.callable.now) c.args.names.now c.args.line c.args.origin c.args.bytes.now c.in-Some.behind.now c.in-Some-relation_at.rest.now (expr c.in-Some.left) c.in-Some-relation_at.relation left c.in-Some-relation_at.ensures none

pub returns-in_default-strip : goal.returns-in_default-strip
returns-in_default-strip c =
    let left : ReadsAt (known_values (callable_tree c.args.callable.now) c.args.names.now) (value_at (callable_tree c.args.callable.now) c.args.names.now c.args.line) c.args.origin c.args.bytes.now c.in-Some.behind.now (expr c.in-Some.left) = rw c.in-Some.is at c.in_ok-left.ensures in
    let right : ReadsAt (known_values (callable_tree c.args.callable.now) c.args.names.now) (value_at (callable_tree c.args.callable.now) c.args.names.now c.args.line) c.args.origin c.in-Some-relation_at.rest.now c.in-Some-2.rest.now (expr c.in-Some-2.right) = rw c.in-Some-2.is at c.in_ok-right.ensures in
    condition_none_brace (callable_tree c.args.callable.now) c.args.names.now c.args.line c.args.origin c.args.bytes.now c.in-Some.behind.now c.in-Some-relation_at.rest.now c.in-Some-2.rest.now (expr c.in-Some.left) (expr c.in-Some-2.right)
    c.in-Some-relation_at.relation left c.in-Some-relation_at.ensures right c.in_default-strip.ensures

pub returns : goal.returns
returns c =
    let left : ReadsAt (known_values (callable_tree c.args.callable.now) c.args.names.now) (value_at (callable_tree c.args.callable.now) c.args.names.now c.args.line) c.args.origin c.args.bytes.now c.in-Some.behind.now (expr c.in-Some.left) = rw c.in-Some.is at c.in_ok-left.ensures in
    let right : ReadsAt (known_values (callable_tree c.args.callable.now) c.args.names.now) (value_at (callable_tree c.args.callable.now) c.args.names.now c.args.line) c.args.origin c.in-Some-relation_at.rest.now c.in-Some-2.rest.now (expr c.in-Some-2.right) = rw c.in-Some-2.is at c.in_ok-right.ensures in
    condition_read (callable_tree c.args.callable.now) c.args.names.now c.args.line c.args.origin c.args.bytes.now c.in-Some.behind.now c.in-Some-relation_at.rest.now c.in-Some-2.rest.now c.in-Some-strip.rest.now (expr c.in-Some.left) (expr c.in-Some-2.right)
    (expr c.in_ok-whole.whole) c.in-Some-relation_at.relation c.at-place.result left c.in-Some-relation_at.ensures right c.in-Some-strip.ensures c.requires.within
    (c.at-place.ensures ∙ ap (λ (k : ℕ). at c.args.line (k + 1)) c.column.ensures) c.in_ok-whole.ensures
