-- Worked cases: what some tokens derive, and what they don't.
use Rattle.std.proofs.Common.{◌≡◌, ℕ, suc, ◌*◌, ◌≤◌, Bool, true, false, List, [], ◌∷◌, length, refl, sym, ◌∙◌, ap, subst, arith, Some}
use Rattle.odc_syntax.specs.declared.token.Token.{Token}
use Rattle.odc_syntax.specs.declared.token.TokenKind.{TokenKind}
use Rattle.odc_syntax.specs.declared.token.TokenKind.TheVariants as kind
use Rattle.odc_syntax.specs.declared.grammar.Mode.TheVariants.{Free}
use Rattle.odc_syntax.specs.declared.grammar.Level.{Level}
use Rattle.odc_syntax.specs.declared.grammar.Level.TheVariants.{Or, And, Comparison, Sum, Product}
use Rattle.odc_syntax.specs.declared.tree.BinaryOp.{BinaryOp}
use Rattle.odc_syntax.specs.declared.tree.BinaryOp.TheVariants as binary
use Rattle.odc_syntax.specs.Operators.{operator_of, level_of}
use Rattle.odc_syntax.specs.Tree.{Expr}
use Rattle.odc_syntax.specs.Grammar.{Sym, chain, operated, expression}
use Rattle.odc_syntax.specs.Grammar as g
use Rattle.odc_syntax.specs.Derives.{Reach, here, Derives, DerivesBefore}
use Rattle.odc_lookahead.specs.Exact.{size, Clear, one, Found, Yes}
use Rattle.odc_lookahead.specs.Worked.{named, Compared, compared, Subtracted, minus}
use Rattle.odc_lookahead.specs.Read.{NoOperator, unary_form}
use Rattle.odc_lookahead.specs.Sets.{starts_suffix, continues, continues_item}
use Rattle.odc_lookahead.proofs.expr.PostfixLemmas.{NoSuffix, suffixes_first, suffix_none}
use Rattle.odc_lookahead.proofs.expr.OperandLemmas.{name_found}
use Rattle.odc_lookahead.proofs.expr.UnaryLemmas.{operand_same}
use Rattle.odc_lookahead.proofs.reading.Nesting.{Never, once_chained}
use Rattle.odc_lookahead.proofs.expr.BinaryLemmas.{many_clear, never_clear}
use Rattle.odc_lookahead.proofs.expr.ChainLemmas.{Operators, Comparisons, Stands, operators_first, operators_chained, operator_more, operator_none, comparison_first, comparison_done, product_item}

-- a name is a sum by itself, where neither a suffix nor an operator of a sum or product follows
name_unary : (b : ℕ) (t : Token) (us : List Token) → t.kind ≡ kind.Name → NoSuffix Free us → Found (one (g.unary Free)) (starts_suffix Free) (suc b) (t ∷ us) (named t) 1 us
name_unary b t us e none =
    operand_same Free (suc b) (t ∷ us) t us (Yes (named t) 1 us) refl (ap unary_form e)
    (suffix_none Free (suc b) (t ∷ us) (named t) 1 us (suffixes_first Free (suc b) (t ∷ us) (named t) 1 us (name_found Free b t us e)) none)

alone : (l : Level) → g.chains l ≡ true → (b : ℕ) (ts : List Token) (v : Expr) (n : ℕ) (us : List Token) → Found (one (g.item l Free)) (continues_item l Free) b ts v n us → NoOperator l us →
    Found (one (chain l Free)) (continues l Free) b ts v n us
alone l e b ts v n us found none =
    operator_none l Free (Operators l Free) (Operators l Free) (operators_chained l Free e) (many_clear l Free e) b ts v n us (operators_first l Free e b ts v n us found) none

name_sum : (b : ℕ) (t : Token) (us : List Token) → t.kind ≡ kind.Name → NoSuffix Free us → NoOperator Product us → NoOperator Sum us → Found (one (chain Sum Free)) (continues Sum Free) (suc b) (t ∷ us) (named t) 1 us
name_sum b t us e none product sum =
    alone Sum refl (suc b) (t ∷ us) (named t) 1 us
    (alone Product refl (suc b) (t ∷ us) (named t) 1 us (product_item Product Free (suc b) (t ∷ us) (Yes (named t) 1 us) refl (name_unary b t us e none)) product) sum

not_true : false ≡ true → ⊥
not_true e = let f : Unit {0} ≡ ⊥ = ap (λ (b : Bool). elim b [ true ↦ ⊥ | false ↦ Unit {0} ]) e in subst (λ (A : Type 0). A) f tt

-- behind `<` there is neither a suffix nor another operator
less_no_suffix : (y : Token) (us : List Token) → y.kind ≡ kind.Less → NoSuffix Free (y ∷ us)
less_no_suffix y us e h = let bad : starts_suffix Free kind.Less ≡ true = sym (ap (starts_suffix Free) e) ∙ h in not_true bad

less_level : (op : BinaryOp) → Some binary.Less ≡ Some op → level_of op ≡ Comparison
less_level op e = ap level_of (sym (let f : binary.Less ≡ op = cc in f))

less_no_operator : (l : Level) → (Comparison ≡ l → ⊥) → (y : Token) (us : List Token) → y.kind ≡ kind.Less → NoOperator l (y ∷ us)
less_no_operator l apart y us e op f g = apart (sym (less_level op (sym (ap operator_of e) ∙ f)) ∙ g)

end_no_suffix : NoSuffix Free []
end_no_suffix h = h

two_compared : (a x b y c : Token) → Compared a x b y c → Found (one (expression Free)) (continues Or Free) 3 (a ∷ x ∷ b ∷ y ∷ c ∷ []) (compared a x b) 2 (y ∷ c ∷ [])
two_compared a x b y c is =
    let us = y ∷ c ∷ [] in
    let ts = a ∷ x ∷ b ∷ us in
    let left = name_sum 2 a (x ∷ b ∷ us) is.a_is (less_no_suffix x (b ∷ us) is.x_is) (less_no_operator Product (λ e. cc) x (b ∷ us) is.x_is) (less_no_operator Sum (λ e. cc) x (b ∷ us) is.x_is) in
    let right = name_sum 1 b us is.b_is (less_no_suffix y (c ∷ []) is.y_is) (less_no_operator Product (λ e. cc) y (c ∷ []) is.y_is) (less_no_operator Sum (λ e. cc) y (c ∷ []) is.y_is) in
    let stands : Stands Comparison (x ∷ b ∷ us) binary.Less x (b ∷ us) = record { is = refl; op_is = ap operator_of is.x_is; level_is = refl } in
    let whole = comparison_done Free 3 ts (compared a x b) 2 us
    (operator_more Comparison Free (Comparisons Free) Never (once_chained Free) (never_clear Free) Free 3 2 ts (named a) 1 (x ∷ b ∷ us) binary.Less x (b ∷ us) (named b) 1 us (compared a x b) 2
    refl refl (comparison_first Free 3 ts (named a) 1 (x ∷ b ∷ us) left) (omega arith) stands right (omega arith) refl refl) in
    alone Or refl 3 ts (compared a x b) 2 us (alone And refl 3 ts (compared a x b) 2 us whole (less_no_operator And (λ e. cc) y (c ∷ []) is.y_is)) (less_no_operator Or (λ e. cc) y (c ∷ []) is.y_is)

at_once : (t : Token) (us : List Token) (s' : List Sym) (ts' : List Token) → Reach s' ts' [] (t ∷ us) → size s' ts' ≤ suc (2 * length us) → ⊥
at_once t us _ _ here h = omega (arith, h)

nothing_clear : (cont : TokenKind → Bool) → Clear cont []
nothing_clear cont = record { stops = λ t us s' ts' on r h. at_once t us s' ts' r h }

-- `a < b < c` is no expression
pub comparisons_do_not_chain : (a x b y c : Token) → Compared a x b y c → (n : ℕ) (e : Expr) → Derives (expression Free n e) (a ∷ x ∷ b ∷ y ∷ c ∷ []) → ⊥
comparisons_do_not_chain a x b y c is n e d =
    let found = two_compared a x b y c is in
    let z = found.only n e [] [] [] (nothing_clear (continues Or Free)) d (omega arith) in
    at_once y (c ∷ []) [] [] z.reach (omega arith)

-- what it begins with is one
pub two_compare : (a x b y c : Token) → Compared a x b y c → DerivesBefore (expression Free 2 (compared a x b)) (y ∷ c ∷ []) (a ∷ x ∷ b ∷ y ∷ c ∷ [])
two_compare a x b y c is = (two_compared a x b y c is).reads 2 (omega arith) []

-- behind `-` there is neither a suffix nor an operator that binds tighter
minus_no_suffix : (y : Token) (us : List Token) → y.kind ≡ kind.Minus → NoSuffix Free (y ∷ us)
minus_no_suffix y us e h = let bad : starts_suffix Free kind.Minus ≡ true = sym (ap (starts_suffix Free) e) ∙ h in not_true bad

minus_level : (op : BinaryOp) → Some binary.Subtract ≡ Some op → level_of op ≡ Sum
minus_level op e = ap level_of (sym (let f : binary.Subtract ≡ op = cc in f))

minus_no_operator : (l : Level) → (Sum ≡ l → ⊥) → (y : Token) (us : List Token) → y.kind ≡ kind.Minus → NoOperator l (y ∷ us)
minus_no_operator l apart y us e op f g = apart (sym (minus_level op (sym (ap operator_of e) ∙ f)) ∙ g)

name_product : (b : ℕ) (t : Token) (us : List Token) → t.kind ≡ kind.Name → NoSuffix Free us → NoOperator Product us → Found (one (chain Product Free)) (continues Product Free) (suc b) (t ∷ us) (named t) 1 us
name_product b t us e none product = alone Product refl (suc b) (t ∷ us) (named t) 1 us (product_item Product Free (suc b) (t ∷ us) (Yes (named t) 1 us) refl (name_unary b t us e none)) product

subtracted : (a x b y c : Token) → Subtracted a x b y c → Found (one (expression Free)) (continues Or Free) 4 (a ∷ x ∷ b ∷ y ∷ c ∷ []) (minus (minus (named a) x b) y c) 3 []
subtracted a x b y c is =
    let us = y ∷ c ∷ [] in
    let ts = a ∷ x ∷ b ∷ us in
    let ab = minus (named a) x b in
    let abc = minus ab y c in
    let operators = Operators Sum Free in
    let first = operators_first Sum Free refl 4 ts (named a) 1 (x ∷ b ∷ us) (name_product 3 a (x ∷ b ∷ us) is.a_is (minus_no_suffix x (b ∷ us) is.x_is) (minus_no_operator Product (λ e. cc) x (b ∷ us) is.x_is)) in
    let second = operator_more Sum Free operators operators (operators_chained Sum Free refl) (many_clear Sum Free refl) Free 4 3 ts (named a) 1 (x ∷ b ∷ us) binary.Subtract x (b ∷ us) (named b) 1 us ab 2
    refl refl first (omega arith) (record { is = refl; op_is = ap operator_of is.x_is; level_is = refl })
    (name_product 2 b us is.b_is (minus_no_suffix y (c ∷ []) is.y_is) (minus_no_operator Product (λ e. cc) y (c ∷ []) is.y_is)) (omega arith) refl refl in
    let third = operator_more Sum Free operators operators (operators_chained Sum Free refl) (many_clear Sum Free refl) Free 4 3 ts ab 2 us binary.Subtract y (c ∷ []) (named c) 1 [] abc 3
    refl refl second (omega arith) (record { is = refl; op_is = ap operator_of is.y_is; level_is = refl })
    (name_product 2 c [] is.c_is (λ h. h) tt) (omega arith) refl refl in
    let sum = operator_none Sum Free operators operators (operators_chained Sum Free refl) (many_clear Sum Free refl) 4 ts abc 3 [] third tt in
    let comparison = operator_none Comparison Free (Comparisons Free) Never (once_chained Free) (never_clear Free) 4 ts abc 3 [] (comparison_first Free 4 ts abc 3 [] sum) tt in
    alone Or refl 4 ts abc 3 [] (alone And refl 4 ts abc 3 [] comparison tt) tt

-- `a - b - c` is `(a - b) - c` alone
pub differences_group_to_the_left : (a x b y c : Token) → Subtracted a x b y c → (n : ℕ) (e : Expr) → Derives (expression Free n e) (a ∷ x ∷ b ∷ y ∷ c ∷ []) → e ≡ minus (minus (named a) x b) y c
differences_group_to_the_left a x b y c is n e d = ((subtracted a x b y c is).only n e [] [] [] (nothing_clear (continues Or Free)) d (omega arith)).value

pub differences_derive : (a x b y c : Token) → Subtracted a x b y c → Derives (expression Free 3 (minus (minus (named a) x b) y c)) (a ∷ x ∷ b ∷ y ∷ c ∷ [])
differences_derive a x b y c is = (subtracted a x b y c is).reads 3 (omega arith) []
