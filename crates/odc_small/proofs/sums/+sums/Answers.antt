use Rattle.std.proofs.Common.{◌≡◌, ◌<◌, ◌+◌, ℕ, ◌∙◌, ap, sym, subst, arith, codes, length, true}
use Rattle.odc_text.specs.declared.place.Place.{Place}
use Rattle.odc_typed.specs.declared.tree.BinaryOp.{BinaryOp}
use Rattle.odc_typed.specs.Tree.{Exprs, binary}
use Rattle.odc_typed.specs.View.{expr, exprs}
use Rattle.odc_small.specs.Forms.{NoneAt}
use Rattle.odc_small.specs.Grammar.{muls_over}
use Rattle.odc_small.specs.Names.{IsCallable}
use Rattle.odc_small.specs.Reading.{column_at, known_atoms, known_calls, known_factors, known_arguments, nexts_of, lists_of, closed_by, ReadsAt, ReadsFactor, ReadsTerm, items_told, list_told, next_told, call_told, mul_told}
use Rattle.odc_small.specs.Typing.{argument_expr, added_by}
use Rattle.odc_small.specs.Typing.{joined as joined_at}
use Rattle.odc_small.specs.Typing.{at as place_at}
use Rattle.odc_small.specs.Typing.{atom_at as atom_expr}
use Rattle.odc_small.specs.View.{callable as callable_tree}
use Rattle.odc_small.proofs.AtomLemmas.{list_none, known_arguments_unique, known_comma}
use Rattle.odc_small.proofs.ReadLemmas.{ListSoFar, fold_none, found_within, list_first, list_next, list_done, exprs_push}
use Rattle.odc_small.proofs.CallLemmas.{known_terms, sum_step, argument_found, argument_off, name_read, number_read, called_read, no_atom, call_unknown, call_unended, call_read, closed_off, closed_read, closed_open, factor_off_zero, mul_off_first, mul_next, mul_read, mul_off_lead, mul_is_small, term_is_small, sum_off_first, sum_next, sum_read, sum_off_long, joined_small, small_weaker}
use Rattle.odc_small.proofs.sums.+sums.Goals as goal

pub argument_at-returns-in-Some : goal.argument_at-returns-in-Some
argument_at-returns-in-Some t c =
    let deep : 0 < c.args.depth = omega (arith, c.if-depth-eq0.false) in
    argument_found (callable_tree c.args.callable.now) c.args.names.now c.args.line c.args.depth c.args.origin c.args.bytes.now c.in-Some.rest.now (expr c.in-Some.value) deep (rw c.in-Some.is at c.in_ok-value.ensures)

pub argument_at-returns-in-None : goal.argument_at-returns-in-None
argument_at-returns-in-None t c =
    let deep : 0 < c.args.depth = omega (arith, c.if-depth-eq0.false) in
    argument_off (callable_tree c.args.callable.now) c.args.names.now c.args.line c.args.depth c.args.bytes.now deep (rw c.in-None.is at c.in_ok-value.ensures)

pub atom_at-returns-in-Some : goal.atom_at-returns-in-Some
atom_at-returns-in-Some t c = name_read (callable_tree c.args.callable.now) c.args.names.now c.args.line c.args.depth c.args.origin c.args.bytes.now c.in-Some.rest.now (expr c.in-Some.value) c.in-Some.ensures

pub atom_at-returns-in-Some-number_at : goal.atom_at-returns-in-Some-number_at
atom_at-returns-in-Some-number_at t c = number_read (callable_tree c.args.callable.now) c.args.names.now c.args.line c.args.depth c.args.origin c.args.bytes.now c.in-Some-number_at.rest.now (expr c.in-Some-number_at.value) c.in-Some-number_at.ensures

pub call_at-returns-in_default-procedure_at : goal.call_at-returns-in_default-procedure_at
call_at-returns-in_default-procedure_at t c =
    let inner : ReadsAt (closed_by (codes ")") (known_arguments (callable_tree c.args.callable.now) c.args.names.now c.args.depth)) (items_told (callable_tree c.args.callable.now) c.args.names.now c.args.line c.args.depth) c.args.origin c.in-Some-strip.rest.now c.in-Some-2.rest.now (exprs c.in-Some-2.values.items)
    = rw c.in-Some-2.is at c.in_ok-values.ensures in
    call_unknown (callable_tree c.args.callable.now) c.args.names.now c.args.line c.args.depth c.args.origin c.args.bytes.now c.in-Some.rest.now c.in-Some-strip.rest.now c.in-Some-2.rest.now c.in-Some.name c.in-Some-2.values.items c.in-Some.ensures c.in-Some-strip.ensures inner
    (λ known. let n : length c.in-Some-2.values.items ≡ c.len.result = omega (arith, c.len.ensures, c.in-Some-2.values.ok.0) in
    c.in_default-procedure_at.ensures (subst (IsCallable (callable_tree c.args.callable.now) c.in-Some.name) n known))

pub call_at-returns-then-not-begins_without_digit : goal.call_at-returns-then-not-begins_without_digit
call_at-returns-then-not-begins_without_digit t c =
    let inner : ReadsAt (closed_by (codes ")") (known_arguments (callable_tree c.args.callable.now) c.args.names.now c.args.depth)) (items_told (callable_tree c.args.callable.now) c.args.names.now c.args.line c.args.depth) c.args.origin c.in-Some-strip.rest.now c.in-Some-2.rest.now (exprs c.in-Some-2.values.items)
    = rw c.in-Some-2.is at c.in_ok-values.ensures in
    call_unended (callable_tree c.args.callable.now) c.args.names.now c.args.line c.args.depth c.args.origin c.args.bytes.now c.in-Some.rest.now c.in-Some-strip.rest.now c.in-Some-2.rest.now c.in-Some.name c.in-Some-2.values.items c.in-Some.ensures c.in-Some-strip.ensures inner
    (λ ends. let e : c.begins_without_digit.result ≡ true = c.begins_without_digit.ensures.1 ends in let f = c.if-not-begins_without_digit.true in cc)

pub call_at-returns : goal.call_at-returns
call_at-returns t c =
    let inner : ReadsAt (closed_by (codes ")") (known_arguments (callable_tree c.args.callable.now) c.args.names.now c.args.depth)) (items_told (callable_tree c.args.callable.now) c.args.names.now c.args.line c.args.depth) c.args.origin c.in-Some-strip.rest.now c.in-Some-2.rest.now (exprs c.in-Some-2.values.items)
    = rw c.in-Some-2.is at c.in_ok-values.ensures in
    let n : c.len.result ≡ length c.in-Some-2.values.items = omega (arith, c.len.ensures, c.in-Some-2.values.ok.0) in
    call_read (callable_tree c.args.callable.now) c.args.names.now c.args.line c.args.depth c.args.origin c.args.bytes.now c.in-Some.rest.now c.in-Some-strip.rest.now c.in-Some-2.rest.now c.in-Some.name c.in-Some-procedure_at.procedure c.at.result c.in-Some-2.values
    (omega (arith, c.if-depth-eq0.false)) c.in-Some.ensures c.in-Some-strip.ensures inner
    (subst (IsCallable (callable_tree c.args.callable.now) c.in-Some.name) n c.in-Some-procedure_at.ensures.0) c.in-Some-procedure_at.ensures.1
    (c.begins_without_digit.ensures.0 c.if-not-begins_without_digit.false) (c.at.ensures ∙ ap (λ (k : ℕ). place_at c.args.line k) c.column.ensures) c.requires.within

pub closed_at-returns-in_default-2 : goal.closed_at-returns-in_default-2
closed_at-returns-in_default-2 t c =
    closed_off (callable_tree c.args.callable.now) c.args.names.now c.args.line c.args.depth c.args.origin c.args.bytes.now c.in_default.ensures (rw c.in_default-2.is at c.in_ok-values.ensures)

pub closed_at-returns-in-Some-strip : goal.closed_at-returns-in-Some-strip
closed_at-returns-in-Some-strip t c =
    let inner : ReadsAt (lists_of (known_arguments (callable_tree c.args.callable.now) c.args.names.now c.args.depth)) (list_told (callable_tree c.args.callable.now) c.args.names.now c.args.line c.args.depth) c.args.origin c.args.bytes.now c.in-Some-2.rest.now (exprs c.in-Some-2.values.items)
    = rw c.in-Some-2.is at c.in_ok-values.ensures in
    closed_read (callable_tree c.args.callable.now) c.args.names.now c.args.line c.args.depth c.args.origin c.args.bytes.now c.in-Some-2.rest.now c.in-Some-strip.rest.now (exprs c.in-Some-2.values.items) inner c.in-Some-strip.ensures

pub closed_at-returns-in-None : goal.closed_at-returns-in-None
closed_at-returns-in-None t c =
    let inner : ReadsAt (lists_of (known_arguments (callable_tree c.args.callable.now) c.args.names.now c.args.depth)) (list_told (callable_tree c.args.callable.now) c.args.names.now c.args.line c.args.depth) c.args.origin c.args.bytes.now c.in-Some-2.rest.now (exprs c.in-Some-2.values.items)
    = rw c.in-Some-2.is at c.in_ok-values.ensures in
    closed_open (callable_tree c.args.callable.now) c.args.names.now c.args.line c.args.depth c.args.origin c.args.bytes.now c.in-Some-2.rest.now (exprs c.in-Some-2.values.items) c.in_default.ensures inner c.in-None.ensures

pub factor_at-returns : goal.factor_at-returns
factor_at-returns t c =
    let inner : ReadsAt (known_atoms (callable_tree c.args.callable.now) c.args.names.now c.args.depth) (atom_expr (callable_tree c.args.callable.now) c.args.names.now c.args.line c.args.depth) c.args.origin c.in-Some.rest.now c.in-Some-2.rest.now (expr c.in-Some-2.right)
    = rw c.in-Some-2.is at c.in_ok-right.ensures in
    factor_off_zero (callable_tree c.args.callable.now) c.args.names.now c.args.line c.args.depth c.args.origin c.args.bytes.now c.in-Some.rest.now c.in-Some-2.rest.now c.in-Some.scale (expr c.in-Some-2.right) c.in-Some.ensures inner
    (λ may. let e : c.may_scale.result ≡ true = c.may_scale.ensures.1 may in let f = c.if-may_scale.false in cc)

pub items_at-returns-in_default : goal.items_at-returns-in_default
items_at-returns-in_default t c =
    list_none (known_arguments (callable_tree c.args.callable.now) c.args.names.now c.args.depth) (known_arguments_unique (callable_tree c.args.callable.now) c.args.names.now c.args.depth) (known_comma (callable_tree c.args.callable.now) c.args.names.now c.args.depth) c.args.bytes.now (rw c.in_default.is at c.in_ok-first.ensures)

pub items_at-items-init : goal.items_at-items-init
items_at-items-init t c =
    let first : ReadsAt (known_arguments (callable_tree c.args.callable.now) c.args.names.now c.args.depth) (argument_expr (callable_tree c.args.callable.now) c.args.names.now c.args.line c.args.depth) c.args.origin c.args.bytes.now c.in-Some.after.now (expr c.in-Some.first) = rw c.in-Some.is at c.in_ok-first.ensures in
    let P : Exprs → Type 0 = λ es. ListSoFar (known_arguments (callable_tree c.args.callable.now) c.args.names.now c.args.depth) (argument_expr (callable_tree c.args.callable.now) c.args.names.now c.args.line c.args.depth) c.args.origin c.args.bytes.now c.in-Some.after.now es in
    subst P (sym (ap exprs c.in_ok-values.ensures.items)) (list_first (known_arguments (callable_tree c.args.callable.now) c.args.names.now c.args.depth) (argument_expr (callable_tree c.args.callable.now) c.args.names.now c.args.line c.args.depth) c.args.origin c.args.bytes.now c.in-Some.after.now (expr c.in-Some.first) first)

pub items_at-items-preserved : goal.items_at-items-preserved
items_at-items-preserved t c =
    let next : ReadsAt (nexts_of (known_arguments (callable_tree c.args.callable.now) c.args.names.now c.args.depth)) (next_told (callable_tree c.args.callable.now) c.args.names.now c.args.line c.args.depth) c.args.origin c.items.rest.now c.in-Some-2.after.now (expr c.in-Some-2.value) = rw c.in-Some-2.is at c.in_ok-value.ensures in
    let P : Exprs → Type 0 = λ es. ListSoFar (known_arguments (callable_tree c.args.callable.now) c.args.names.now c.args.depth) (argument_expr (callable_tree c.args.callable.now) c.args.names.now c.args.line c.args.depth) c.args.origin c.args.bytes.now c.in-Some-2.after.now es in
    subst P (sym (ap exprs c.in_ok-push.ensures.items ∙ exprs_push c.items.values.items c.in-Some-2.value))
    (list_next (known_arguments (callable_tree c.args.callable.now) c.args.names.now c.args.depth) (argument_expr (callable_tree c.args.callable.now) c.args.names.now c.args.line c.args.depth) c.args.origin c.args.bytes.now c.items.rest.now c.in-Some-2.after.now (exprs c.items.values.items) (expr c.in-Some-2.value)
    c.items.invariant next c.requires.within)

pub items_at-returns : goal.items_at-returns
items_at-returns t c =
    let none : NoneAt (nexts_of (known_arguments (callable_tree c.args.callable.now) c.args.names.now c.args.depth)) c.items.rest.now = rw c.in_default-2.is at c.in_ok-value.ensures in
    list_done (known_arguments (callable_tree c.args.callable.now) c.args.names.now c.args.depth) (argument_expr (callable_tree c.args.callable.now) c.args.names.now c.args.line c.args.depth) c.args.origin c.args.bytes.now c.items.rest.now (exprs c.items.values.items) c.items.invariant none

pub atom_at-returns-in-Some-2 : goal.atom_at-returns-in-Some-2
atom_at-returns-in-Some-2 t c =
    let inner : ReadsAt (known_calls (callable_tree c.args.callable.now) c.args.names.now c.args.depth) (call_told (callable_tree c.args.callable.now) c.args.names.now c.args.line c.args.depth) c.args.origin c.args.bytes.now c.in-Some-2.rest.now (expr c.in-Some-2.value) = rw c.in-Some-2.is at c.in_ok-value.ensures in
    called_read (callable_tree c.args.callable.now) c.args.names.now c.args.line c.args.depth c.args.origin c.args.bytes.now c.in-Some-2.rest.now (expr c.in-Some-2.value) inner

pub atom_at-returns-in-None : goal.atom_at-returns-in-None
atom_at-returns-in-None t c =
    let inner : NoneAt (known_calls (callable_tree c.args.callable.now) c.args.names.now c.args.depth) c.args.bytes.now = rw c.in-None.is at c.in_ok-value.ensures in
    no_atom (callable_tree c.args.callable.now) c.args.names.now c.args.line c.args.depth c.args.origin c.args.bytes.now c.in_default.ensures c.in_default-number_at.ensures inner

pub mul_at-returns-in_default : goal.mul_at-returns-in_default
mul_at-returns-in_default t c = mul_off_first (callable_tree c.args.callable.now) c.args.names.now c.args.line c.args.depth c.args.origin c.args.bytes.now (rw c.in_default.is at c.in_ok-first.ensures)

pub mul_at-factors-preserved : goal.mul_at-factors-preserved
mul_at-factors-preserved t c =
    let right : ReadsFactor (known_atoms (callable_tree c.args.callable.now) c.args.names.now c.args.depth) (atom_expr (callable_tree c.args.callable.now) c.args.names.now c.args.line c.args.depth) c.args.origin c.factors.rest.now c.in-Some-2.after.now c.in-Some-2.scale (expr c.in-Some-2.right) = rw c.in-Some-2.is at c.in_ok-scale.ensures in
    let left = expr c.factors.left in
    let e = expr c.in-Some-2.right in
    record {
      fold = mul_next (callable_tree c.args.callable.now) c.args.names.now c.args.line c.args.depth c.args.origin c.in-Some.after.now c.factors.rest.now c.in-Some-2.after.now (expr c.in-Some.first) left e (expr c.in_ok-left.left) c.factors.count c.in-Some-2.scale
          c.factors.invariant.fold right c.factors.invariant.inside
          (c.in_ok-left.ensures
          ∙ ap (λ (p : Place). binary p c.scaled.result left e) (c.at.ensures ∙ ap (λ (k : ℕ). place_at c.args.line (k + 1)) c.column.ensures)
          ∙ ap (λ (o : BinaryOp). binary (place_at c.args.line (column_at c.args.origin c.factors.rest.now + 1)) o left e) c.scaled.ensures);
      inside = c.factors.invariant.inside;
    }

pub mul_at-returns-then-may_end : goal.mul_at-returns-then-may_end
mul_at-returns-then-may_end t c =
    let first : ReadsAt (known_atoms (callable_tree c.args.callable.now) c.args.names.now c.args.depth) (atom_expr (callable_tree c.args.callable.now) c.args.names.now c.args.line c.args.depth) c.args.origin c.args.bytes.now c.in-Some.after.now (expr c.in-Some.first) = rw c.in-Some.is at c.in_ok-first.ensures in
    let none : NoneAt (known_factors (callable_tree c.args.callable.now) c.args.names.now c.args.depth) c.factors.rest.now = rw c.in_default-2.is at c.in_ok-scale.ensures in
    mul_read (callable_tree c.args.callable.now) c.args.names.now c.args.line c.args.depth c.args.origin c.args.bytes.now c.in-Some.after.now c.factors.rest.now (expr c.in-Some.first) (expr c.factors.left) c.factors.count first c.factors.invariant.fold none
    c.is_constant-alone.result c.is_constant-alone.ensures (c.may_end.ensures.0 c.if-may_end.true) c.requires.within

pub mul_at-returns-else-may_end : goal.mul_at-returns-else-may_end
mul_at-returns-else-may_end t c =
    let first : ReadsAt (known_atoms (callable_tree c.args.callable.now) c.args.names.now c.args.depth) (atom_expr (callable_tree c.args.callable.now) c.args.names.now c.args.line c.args.depth) c.args.origin c.args.bytes.now c.in-Some.after.now (expr c.in-Some.first) = rw c.in-Some.is at c.in_ok-first.ensures in
    let none : NoneAt (known_factors (callable_tree c.args.callable.now) c.args.names.now c.args.depth) c.factors.rest.now = rw c.in_default-2.is at c.in_ok-scale.ensures in
    mul_off_lead (callable_tree c.args.callable.now) c.args.names.now c.args.line c.args.depth c.args.origin c.args.bytes.now c.in-Some.after.now c.factors.rest.now (expr c.in-Some.first) (expr c.factors.left) c.factors.count first c.factors.invariant.fold none
    c.is_constant-alone.result c.is_constant-alone.ensures (λ may. let e : c.may_end.result ≡ true = c.may_end.ensures.1 may in let f = c.if-may_end.false in cc)

pub sum_at-returns-in_default : goal.sum_at-returns-in_default
sum_at-returns-in_default t c = sum_off_first (callable_tree c.args.callable.now) c.args.names.now c.args.line c.args.depth c.args.origin c.args.bytes.now (rw c.in_default.is at c.in_ok-first.ensures)

pub sum_at-terms-init : goal.sum_at-terms-init
sum_at-terms-init t c =
    let first : ReadsAt (muls_over (known_atoms (callable_tree c.args.callable.now) c.args.names.now c.args.depth)) (mul_told (callable_tree c.args.callable.now) c.args.names.now c.args.line c.args.depth) c.args.origin c.args.bytes.now c.in-Some.after.now (expr c.in-Some.first) = rw c.in-Some.is at c.in_ok-first.ensures in
    record {
      fold = fold_none (known_terms (callable_tree c.args.callable.now) c.args.names.now c.args.line c.args.depth) (sum_step (callable_tree c.args.callable.now) c.args.names.now c.args.line c.args.depth c.args.origin) c.args.origin c.in-Some.after.now (expr c.in-Some.first) first.found.ends;
      inside = omega (arith, found_within (muls_over (known_atoms (callable_tree c.args.callable.now) c.args.names.now c.args.depth)) c.args.bytes.now c.in-Some.after.now first.tree first.found, c.requires.within);
      small = mul_is_small (callable_tree c.args.callable.now) c.args.names.now c.args.line c.args.depth c.args.origin c.args.bytes.now c.in-Some.after.now (expr c.in-Some.first) first;
    }

pub sum_at-joined-requires-clause-left : goal.sum_at-joined-requires-clause-left
sum_at-joined-requires-clause-left t c =
    small_weaker (c.terms.count + 1) 4294967296 (expr c.terms.left) (omega (arith, c.terms.invariant.fold.within, c.terms.invariant.inside, c.requires.bounded)) c.terms.invariant.small

pub sum_at-joined-requires-clause-right : goal.sum_at-joined-requires-clause-right
sum_at-joined-requires-clause-right t c =
    let right : ReadsTerm (known_atoms (callable_tree c.args.callable.now) c.args.names.now c.args.depth) (mul_told (callable_tree c.args.callable.now) c.args.names.now c.args.line c.args.depth) c.args.origin c.terms.rest.now c.in-Some-2.after.now c.in-Some-2.sign (expr c.in-Some-2.right) = rw c.in-Some-2.is at c.in_ok-sign.ensures in
    term_is_small (callable_tree c.args.callable.now) c.args.names.now c.args.line c.args.depth c.args.origin c.terms.rest.now c.in-Some-2.after.now c.in-Some-2.sign (expr c.in-Some-2.right) right

pub sum_at-terms-preserved : goal.sum_at-terms-preserved
sum_at-terms-preserved t c =
    let right : ReadsTerm (known_atoms (callable_tree c.args.callable.now) c.args.names.now c.args.depth) (mul_told (callable_tree c.args.callable.now) c.args.names.now c.args.line c.args.depth) c.args.origin c.terms.rest.now c.in-Some-2.after.now c.in-Some-2.sign (expr c.in-Some-2.right) = rw c.in-Some-2.is at c.in_ok-sign.ensures in
    let left = expr c.terms.left in
    let e = expr c.in-Some-2.right in
    let place = place_at c.args.line (column_at c.args.origin c.terms.rest.now + 1) in
    let next : expr c.in_ok-left.left ≡ joined_at place (added_by c.in-Some-2.sign) left e =
    c.in_ok-left.ensures ∙ ap (λ (p : Place). joined_at p (added_by c.in-Some-2.sign) left e) (c.at.ensures ∙ ap (λ (k : ℕ). place_at c.args.line (k + 1)) c.column.ensures) in
    record {
      fold = sum_next (callable_tree c.args.callable.now) c.args.names.now c.args.line c.args.depth c.args.origin c.in-Some.after.now c.terms.rest.now c.in-Some-2.after.now (expr c.in-Some.first) left e (expr c.in_ok-left.left) c.terms.count c.in-Some-2.sign
          c.terms.invariant.fold right c.terms.invariant.inside next;
      inside = c.terms.invariant.inside;
      small = joined_small (c.terms.count + 1) place c.in-Some-2.sign left e (expr c.in_ok-left.left) next c.terms.invariant.small
          (term_is_small (callable_tree c.args.callable.now) c.args.names.now c.args.line c.args.depth c.args.origin c.terms.rest.now c.in-Some-2.after.now c.in-Some-2.sign e right);
    }

pub sum_at-returns-then-count-gt7 : goal.sum_at-returns-then-count-gt7
sum_at-returns-then-count-gt7 t c =
    let first : ReadsAt (muls_over (known_atoms (callable_tree c.args.callable.now) c.args.names.now c.args.depth)) (mul_told (callable_tree c.args.callable.now) c.args.names.now c.args.line c.args.depth) c.args.origin c.args.bytes.now c.in-Some.after.now (expr c.in-Some.first) = rw c.in-Some.is at c.in_ok-first.ensures in
    let none : NoneAt (known_terms (callable_tree c.args.callable.now) c.args.names.now c.args.line c.args.depth) c.terms.rest.now = rw c.in_default-2.is at c.in_ok-sign.ensures in
    sum_off_long (callable_tree c.args.callable.now) c.args.names.now c.args.line c.args.depth c.args.origin c.args.bytes.now c.in-Some.after.now c.terms.rest.now (expr c.in-Some.first) (expr c.terms.left) c.terms.count first c.terms.invariant.fold none c.if-count-gt7.true

pub sum_at-returns-else-count-gt7 : goal.sum_at-returns-else-count-gt7
sum_at-returns-else-count-gt7 t c =
    let first : ReadsAt (muls_over (known_atoms (callable_tree c.args.callable.now) c.args.names.now c.args.depth)) (mul_told (callable_tree c.args.callable.now) c.args.names.now c.args.line c.args.depth) c.args.origin c.args.bytes.now c.in-Some.after.now (expr c.in-Some.first) = rw c.in-Some.is at c.in_ok-first.ensures in
    let none : NoneAt (known_terms (callable_tree c.args.callable.now) c.args.names.now c.args.line c.args.depth) c.terms.rest.now = rw c.in_default-2.is at c.in_ok-sign.ensures in
    sum_read (callable_tree c.args.callable.now) c.args.names.now c.args.line c.args.depth c.args.origin c.args.bytes.now c.in-Some.after.now c.terms.rest.now (expr c.in-Some.first) (expr c.terms.left) c.terms.count first c.terms.invariant.fold none c.if-count-gt7.false c.requires.within
