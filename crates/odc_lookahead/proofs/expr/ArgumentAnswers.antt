-- Arguments between commas: the answers of the list, by those of its items.
use Rattle.std.proofs.Common.{◌≡◌, ℕ, ◌<◌, ◌≤◌, max, Bool, false, List, [], ◌∷◌, ◌++◌, refl, sym, ◌∙◌, ap, subst, inl, inr, Option, Some, None, IfSome, IfNone}
use Rattle.odc_syntax.specs.declared.token.Token.{Token}
use Rattle.odc_syntax.specs.declared.token.TokenKind.{TokenKind}
use Rattle.odc_syntax.specs.declared.tree.Arg.{Arg}
use Rattle.odc_syntax.specs.Tree.{Expr, Args}
use Rattle.odc_syntax.specs.Tree as tree
use Rattle.odc_syntax.specs.View.{expr, args}
use Rattle.odc_syntax.specs.Grammar.{Sym, tok, Rule}
use Rattle.odc_syntax.specs.Grammar as g
use Rattle.odc_syntax.specs.Derives.{StartsWithout}
use Rattle.odc_lookahead.specs.declared.stop.Stop.{Stop}
use Rattle.odc_lookahead.specs.Exact.{Clear, Exact, Found}
use Rattle.odc_lookahead.specs.Lists.{Ended, Again, NotGoing}
use Rattle.odc_lookahead.specs.Parts.{arg_item, arguments, ClosesArguments}
use Rattle.odc_lookahead.specs.Read.{refused}
use Rattle.odc_lookahead.specs.Sets.{continues_argument, nothing_continues}
use Rattle.odc_lookahead.proofs.reading.Leading.{same_depth, Led, led_done}
use Rattle.odc_lookahead.proofs.reading.Answering.{answer_is}
use Rattle.odc_lookahead.proofs.separated.ListLemmas.{led_parts, parts_refused, left_clear, list_ended, list_again, list_refused}
use Rattle.odc_lookahead.proofs.separated.ListRules.{arg_cons, args_listed}
use Rattle.odc_lookahead.proofs.expr.ArgsLemmas.{Closes, paren_closes, brace_closes, arg_closes, left_of_arguments, next_argument, args_open, args_empty}
use Rattle.odc_lookahead.proofs.reading.Samples as sample
use Rattle.odc_lookahead.specs.declared.tokens.Fit.{Fit}
use Rattle.odc_lookahead.specs.declared.tokens.Fit.TheVariants as fit

pub closes_of : (close : TokenKind) → ClosesArguments close → Closes close
closes_of close (inl e) = subst (λ (k : TokenKind). Closes k) (sym e) paren_closes
closes_of close (inr e) = subst (λ (k : TokenKind). Closes k) (sym e) brace_closes

-- arguments that were read, in front of others
abbrev pub onto : List Arg → Args → Args
onto [] l = l
onto (x ∷ xs) l = tree.more_args x.name (expr x.value) (onto xs l)

pub onto_last : (xs : List Arg) (x : Arg) (l : Args) → onto (xs ++ x ∷ []) l ≡ onto xs (tree.more_args x.name (expr x.value) l)
onto_last [] x l = refl
onto_last (y ∷ xs) x l = ap (tree.more_args y.name (expr y.value)) (onto_last xs x l)

pub onto_none : (xs : List Arg) → onto xs tree.no_args ≡ args xs
onto_none [] = refl
onto_none (x ∷ xs) = ap (tree.more_args x.name (expr x.value)) (onto_none xs)

abbrev pub with_read : List Arg → (Option Token × Expr) × (Args × (Token × Unit {0})) → Args × (Token × Unit {0})
with_read xs u = (onto xs (arg_cons u.0 u.1.0), u.1.1)

-- what has been read of a list of arguments
abbrev pub ArgumentsAt : TokenKind → ℕ → List Token → List Arg → ℕ → List Token → Type 0
ArgumentsAt close b ts xs n rest = Led (arguments close) nothing_continues (λ n. n) b ts (next_argument close) (with_read xs) n rest

pub arguments_start : (close : TokenKind) → ClosesArguments close → (b : ℕ) (ts : List Token) (xs : List Arg) → xs ≡ [] → StartsWithout close ts → ArgumentsAt close b ts xs 0 ts
arguments_start close k b ts xs e open' = subst (λ (l : List Arg). ArgumentsAt close b ts l 0 ts) (sym e) (args_open close (closes_of close k) b ts open')

pub arguments_none : (close : TokenKind) → ClosesArguments close → (b : ℕ) (t : Token) (ts us : List Token) (xs : List Arg) → xs ≡ [] → ts ≡ t ∷ us → t.kind ≡ close → Found (arguments close) nothing_continues b ts (args xs, (t, tt)) 0 us
arguments_none close k b t ts us xs none is e =
    answer_is (ap (λ (l : List Arg). (args l, (t, tt))) (sym none)) refl
    (subst (λ (l : List Token). Found (arguments close) nothing_continues b l (tree.no_args, (t, tt)) 0 us) (sym is) (led_done same_depth (args_empty close (closes_of close k) b t us e)))

ends_argument : (close : TokenKind) → ClosesArguments close → continues_argument close ≡ false
ends_argument close (inl e) = ap continues_argument e
ends_argument close (inr e) = ap continues_argument e

left_stops : (close : TokenKind) → ClosesArguments close → (c : ℕ) (u : Args × (Token × Unit {0})) (s : List Sym) → Clear continues_argument (left_of_arguments close c u ++ s)
left_stops close k c u s =
    left_clear arg_item g.args g.more_args tree.no_args arg_cons args_listed (None, sample.expr) close (closes_of close k).no_comma (arg_closes close (closes_of close k)) continues_argument (λ i. false) (ends_argument close k) c u s

pub argument_refused : (close : TokenKind) → ClosesArguments close → (b : ℕ) (ts : List Token) (xs : List Arg) (n : ℕ) (rest : List Token) (stop : Stop) → ArgumentsAt close b ts xs n rest → n ≤ b →
    Exact arg_item continues_argument b rest (refused stop) → Exact (arguments close) nothing_continues b ts (refused stop)
argument_refused close k b ts xs n rest stop led within h = parts_refused continues_argument arg_item (left_of_arguments close) stop led within h (left_stops close k)

abbrev pub ItemRead : TokenKind → ℕ → List Token → List Arg → Option Token × Expr → ℕ → List Token → Type 0
ItemRead close b ts xs v n rest = Led (arguments close) nothing_continues (λ n. n) b ts (left_of_arguments close) (λ u. with_read xs (v, u)) n rest

pub argument_read : (close : TokenKind) → ClosesArguments close → (b : ℕ) (ts : List Token) (xs : List Arg) (n : ℕ) (rest : List Token) (v : Option Token × Expr) (m : ℕ) (after : List Token) → ArgumentsAt close b ts xs n rest → n ≤ b →
    Found arg_item continues_argument b rest v m after → ItemRead close b ts xs v (max n m) after
argument_read close k b ts xs n rest v m after led within found = led_parts led within found (left_stops close k)

-- the same at the depth that the function counts
pub item_read : (close : TokenKind) → ClosesArguments close → (b : ℕ) (ts : List Token) (xs : List Arg) (n : ℕ) (rest : List Token) (v : Option Token × Expr) (m top : ℕ) (after : List Token) → ArgumentsAt close b ts xs n rest → n ≤ b →
    Found arg_item continues_argument b rest v m after → top ≡ max n m → ItemRead close b ts xs v top after
item_read close k b ts xs n rest v m top after led within found high = subst (λ (h : ℕ). ItemRead close b ts xs v h after) (sym high) (argument_read close k b ts xs n rest v m after led within found)

-- how the list goes on, by what stands behind the item
pub ended_of : (close : TokenKind) (ts : List Token) (o : Option Token) (t : Token) (rest : List Token) → o ≡ Some t → IfSome o (λ t. Ended close ts t rest) → Ended close ts t rest
ended_of close ts o t rest is h = subst (λ (o : Option Token). IfSome o (λ t. Ended close ts t rest)) is h

pub again_of : (close : TokenKind) (ts : List Token) (o : Option Token) (rest : List Token) → o ≡ None → IfNone o (Again close ts rest) → Again close ts rest
again_of close ts o rest is h = subst (λ (o : Option Token). IfNone o (Again close ts rest)) is h

pub arguments_answer : (close : TokenKind) → ClosesArguments close → (b : ℕ) (ts : List Token) (xs ys : List Arg) (x : Arg) (n : ℕ) (after : List Token) (t : Token) (us : List Token) →
    ItemRead close b ts xs (x.name, expr x.value) n after → ys ≡ xs ++ x ∷ [] → n ≤ b → Ended close after t us → Found (arguments close) nothing_continues b ts (args ys, (t, tt)) n us
arguments_answer close k b ts xs ys x n after t us led more within ended =
    answer_is
    (ap (λ (l : Args). (l, (t, tt))) (sym (onto_last xs x tree.no_args) ∙ onto_none (xs ++ x ∷ []) ∙ ap args (sym more)))
    refl
    (led_done same_depth (list_ended arg_item g.args g.more_args tree.no_args arg_cons args_listed (None, sample.expr) close (closes_of close k).no_comma (arg_closes close (closes_of close k)) t us ended within led))

pub arguments_again : (close : TokenKind) → ClosesArguments close → (b : ℕ) (ts : List Token) (xs ys : List Arg) (x : Arg) (n : ℕ) (after us : List Token) →
    ItemRead close b ts xs (x.name, expr x.value) n after → ys ≡ xs ++ x ∷ [] → n ≤ b → Again close after us → ArgumentsAt close b ts ys n us
arguments_again close k b ts xs ys x n after us led more within again =
    subst (λ (l : List Arg). ArgumentsAt close b ts l n us) (sym more)
    (subst (λ (f : (Option Token × Expr) × (Args × (Token × Unit {0})) → Args × (Token × Unit {0})). Led (arguments close) nothing_continues (λ n. n) b ts (next_argument close) f n us)
    (λ i. λ u. ((sym (onto_last xs x (arg_cons u.0 u.1.0))) i, u.1.1))
    (list_again arg_item g.args g.more_args tree.no_args arg_cons args_listed (None, sample.expr) close (closes_of close k).no_comma (arg_closes close (closes_of close k)) us again within led))

pub arguments_refused : (close : TokenKind) → ClosesArguments close → (b : ℕ) (ts : List Token) (xs : List Arg) (v : Option Token × Expr) (n : ℕ) (after : List Token) (stop : Stop) (within : Fit) →
    ItemRead close b ts xs v n after → NotGoing close within after stop → (within ≡ fit.Over → b < n) → Exact (arguments close) nothing_continues b ts (refused stop)
arguments_refused close k b ts xs v n after stop within led h over =
    list_refused arg_item g.args g.more_args tree.no_args arg_cons args_listed (None, sample.expr) close (closes_of close k).no_comma (arg_closes close (closes_of close k)) stop within h over led
