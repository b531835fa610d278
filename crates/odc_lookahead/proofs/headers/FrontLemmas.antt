-- A name, or `&` and a name, as the first expression of a header.
use Rattle.std.proofs.Common.{◌≡◌, ℕ, suc, ◌-◌, ◌*◌, ◌≤◌, Bool, true, false, ◌||◌, List, ◌∷◌, length, refl, sym, ◌∙◌, ap, subst, arith, Option, Some, None}
use Rattle.odc_syntax.specs.declared.token.Token.{Token}
use Rattle.odc_syntax.specs.declared.token.TokenKind.TheVariants as kind
use Rattle.odc_syntax.specs.declared.grammar.Mode.TheVariants.{Header}
use Rattle.odc_syntax.specs.declared.grammar.Level.TheVariants.{Or}
use Rattle.odc_syntax.specs.declared.tree.BinaryOp.{BinaryOp}
use Rattle.odc_syntax.specs.declared.tree.UnaryOp.TheVariants.{Address}
use Rattle.odc_syntax.specs.Operators.{operator_of}
use Rattle.odc_syntax.specs.Tree.{Expr, expr}
use Rattle.odc_syntax.specs.Tree as tree
use Rattle.odc_syntax.specs.Grammar.{Sym}
use Rattle.odc_syntax.specs.Grammar as g
use Rattle.odc_syntax.specs.Derives.{Reach, here, read, write}
use Rattle.odc_lookahead.specs.declared.stop.Stop.TheVariants as stop
use Rattle.odc_lookahead.specs.Exact.{size, one, Exact, Found, TooDeep, ComesAt}
use Rattle.odc_lookahead.specs.Exact as exact
use Rattle.odc_lookahead.specs.stmts.LoopStarts.{Signed, plain, signed, cost}
use Rattle.odc_lookahead.specs.Read.{unary_form}
use Rattle.odc_lookahead.specs.Sets.{has_rank_from, starts_suffix, continues}
use Rattle.odc_lookahead.proofs.reading.Opening.{First}
use Rattle.odc_lookahead.proofs.reading.Answering.{at_start}
use Rattle.odc_lookahead.proofs.expr.PostfixLemmas.{suffix_deep, suffix_none}
use Rattle.odc_lookahead.proofs.expr.UnaryLemmas.{sign_found, sign_refused}
use Rattle.odc_lookahead.proofs.expr.WholeLemmas.{Ends, name_whole, name_deep, name_postfix, as_unary, whole_found, whole_refused, whole_over, ends_no_suffix, ends_no_operator, costs_unary, costs_expression}
use Rattle.odc_lookahead.proofs.stmts.RunLemmas.{reads_name}
use Rattle.odc_lookahead.proofs.reading.Samples as sample

abbrev pub name_of : Token → Expr
name_of v = expr v.at v.at (tree.name v)

abbrev pub address_of : Token → Token → Expr
address_of t v = expr t.at t.at (tree.unary Address (name_of v))

pub reads_address : (t v : Token) (us : List Token) → t.kind ≡ kind.Ampersand → v.kind ≡ kind.Name → (c : ℕ) (s : List Sym) → Reach s us (g.expression Header (suc (suc c)) (address_of t v) ∷ s) (t ∷ v ∷ us)
reads_address t v us e f c s =
    write _ g.chain_one (write _ g.chain_one (write _ g.chain_one (write _ g.chain_one (write _ g.chain_one (write _ (g.unary_sign {k = kind.Ampersand} {t = t} {op = Address} refl) (read e (write _ g.unary_one (write _ g.postfix_one (write _ g.operand_name (read f here))))))))))

name_unary : (v : Token) (us : List Token) → v.kind ≡ kind.Name → (First (starts_suffix Header) us → ⊥) → Found (one (g.unary Header)) (starts_suffix Header) 1 (v ∷ us) (name_of v) 1 us
name_unary v us f none = as_unary Header v us (exact.Yes (name_of v) 1 us) f (suffix_none Header 1 (v ∷ us) (name_of v) 1 us (name_postfix Header v us f) none)

sign_unary : (t v : Token) (us : List Token) → t.kind ≡ kind.Ampersand → v.kind ≡ kind.Name → (First (starts_suffix Header) us → ⊥) → Found (one (g.unary Header)) (starts_suffix Header) 2 (t ∷ v ∷ us) (address_of t v) 2 us
sign_unary t v us e f none = sign_found Header Header 2 1 (t ∷ v ∷ us) t (v ∷ us) Address (name_of v) (address_of t v) 1 us refl refl refl (ap unary_form e) (name_unary v us f none) refl

address_whole : (t v : Token) (us : List Token) → t.kind ≡ kind.Ampersand → v.kind ≡ kind.Name → Ends Header us → Found (one (g.expression Header)) (continues Or Header) 2 (t ∷ v ∷ us) (address_of t v) 2 us
address_whole t v us e f none = whole_found Header 2 (t ∷ v ∷ us) (address_of t v) 2 us (ends_no_operator Header us none) (sign_unary t v us e f (ends_no_suffix Header us none))

deep_by : (t v x : Token) (us : List Token) → t.kind ≡ kind.Ampersand → v.kind ≡ kind.Name → (a : Bool) (o : Option BinaryOp) → starts_suffix Header x.kind ≡ a → operator_of x.kind ≡ o → (a || has_rank_from 0 o) ≡ true →
    TooDeep (one (g.expression Header)) (continues Or Header) 2 (t ∷ v ∷ x ∷ us) (length us)
deep_by t v x us e f true o s i on =
    whole_refused Header 2 (t ∷ v ∷ x ∷ us) (stop.Deep (length us))
    (sign_refused Header Header 2 1 (t ∷ v ∷ x ∷ us) t (v ∷ x ∷ us) Address (stop.Deep (length us)) refl refl refl (ap unary_form e)
    (as_unary Header v (x ∷ us) (exact.Deep (length us)) f (suffix_deep Header 1 (v ∷ x ∷ us) (name_of v) 1 (x ∷ us) x us (name_postfix Header v (x ∷ us) f) (omega arith) refl s)))
deep_by t v x us e f false (Some op) s i on =
    let none : First (starts_suffix Header) (x ∷ us) → ⊥ = λ h. let bad : true ≡ false = sym h ∙ s in cc in
    whole_over Header 2 (t ∷ v ∷ x ∷ us) (address_of t v) 2 (x ∷ us) op x us (sign_unary t v (x ∷ us) e f none) (omega arith) refl i
deep_by t v x us e f false None s i on = cc

-- a name after `&` costs more than one level
name_zero : (v : Token) (us : List Token) → v.kind ≡ kind.Name → TooDeep (one (g.unary Header)) (starts_suffix Header) 0 (v ∷ us) (length us)
name_zero v us f = record {
  short = omega arith;
  comes = at_start (g.unary Header) 0 (v ∷ us) sample.expr;
  deep = λ c w s s' ts' clear r h. costs_unary Header c w s s' (v ∷ us) ts' r (omega (arith, h));
  depth = 1;
  deeper = record {
    at = λ c h.
        let e : suc (c - 1) ≡ c = omega (arith, h) in
        subst (λ (d : ℕ). ComesAt (one (g.unary Header)) d (v ∷ us) (length us)) e (record { value = name_of v; before = λ s. record { pending = s; rest = us; rest_is = refl; reach = write _ g.unary_one (write _ g.postfix_one (write _ g.operand_name (read f here))) } });
  };
}

pub address_zero : (t v : Token) (us : List Token) → t.kind ≡ kind.Ampersand → v.kind ≡ kind.Name → TooDeep (one (g.expression Header)) (continues Or Header) 1 (t ∷ v ∷ us) (length us)
address_zero t v us e f = whole_refused Header 1 (t ∷ v ∷ us) (stop.Deep (length us)) (sign_refused Header Header 1 0 (t ∷ v ∷ us) t (v ∷ us) Address (stop.Deep (length us)) refl refl refl (ap unary_form e) (name_zero v us f))

-- the expression
abbrev pub value_of : {r : Bool} {ts us : List Token} → Signed r ts us → Token → Expr
value_of (plain ts f) v = name_of v
value_of (signed t ts e) v = address_of t v

pub front_found : {r : Bool} {ts : List Token} (v : Token) (us : List Token) → (z : Signed r ts (v ∷ us)) → v.kind ≡ kind.Name → Ends Header us → Found (one (g.expression Header)) (continues Or Header) (cost r) ts (value_of z v) (cost r) us
front_found v us (plain ts f) e ends = name_whole Header v us e ends
front_found v us (signed t ts k) e ends = address_whole t v us k e ends

pub front_deep : {r : Bool} {ts : List Token} (v x : Token) (us : List Token) → Signed r ts (v ∷ x ∷ us) → v.kind ≡ kind.Name → continues Or Header x.kind ≡ true → TooDeep (one (g.expression Header)) (continues Or Header) (cost r) ts (length us)
front_deep v x us (plain ts f) e on = name_deep Header v x us e on
front_deep v x us (signed t ts k) e on = deep_by t v x us k e (starts_suffix Header x.kind) (operator_of x.kind) refl refl on

pub front_reads : {r : Bool} {ts : List Token} (v : Token) (us : List Token) → (z : Signed r ts (v ∷ us)) → v.kind ≡ kind.Name → (c : ℕ) → cost r ≤ c → (s : List Sym) → Reach s us (g.expression Header c (value_of z v) ∷ s) ts
front_reads v us (plain ts f) e c h s = let i : suc (c - 1) ≡ c = omega (arith, h) in subst (λ (d : ℕ). Reach s us (g.expression Header d (name_of v) ∷ s) (v ∷ us)) i (reads_name Header v us e (c - 1) s)
front_reads v us (signed t ts k) e c h s = let i : suc (suc (c - 2)) ≡ c = omega (arith, h) in subst (λ (d : ℕ). Reach s us (g.expression Header d (address_of t v) ∷ s) (t ∷ v ∷ us)) i (reads_address t v us k e (c - 2) s)

pub front_costs : {r : Bool} {ts : List Token} (v : Token) (us : List Token) → Signed r ts (v ∷ us) → v.kind ≡ kind.Name → {s' : List Sym} {ts' : List Token} (c : ℕ) (e : Expr) (s : List Sym) → exact.Clear (continues Or Header) s → Reach s' ts' (g.expression Header c e ∷ s) ts → size s' ts' ≤ suc (2 * length us) → cost r ≤ c
front_costs v us (plain ts f) k {s'} {ts'} c e s clear r h = costs_expression Header c e s s' (v ∷ us) ts' r (omega (arith, h))
front_costs v us (signed t ts i) k {s'} {ts'} c e s clear r h = (address_zero t v us i k).deep c e s s' ts' clear r h
