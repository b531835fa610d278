-- The answers of parameters and of procedures in the words of the functions' results.
use Rattle.std.proofs.Common.{◌≡◌, ℕ, suc, ◌<◌, ◌≤◌, max, Bool, List, [], ◌∷◌, length, refl, sym, ◌∙◌, subst, arith, ◌⊎◌, inl, inr}
use Rattle.std.proofs.lemmas.Bool.{cases_lt}
use Rattle.odc_syntax.specs.declared.token.Token.{Token}
use Rattle.odc_syntax.specs.declared.token.TokenKind.{TokenKind}
use Rattle.odc_syntax.specs.declared.token.TokenKind.TheVariants as kind
use Rattle.odc_syntax.specs.declared.grammar.Mode.{Mode}
use Rattle.odc_syntax.specs.declared.grammar.Mode.TheVariants.{Free}
use Rattle.odc_syntax.specs.declared.grammar.Use.{Use}
use Rattle.odc_syntax.specs.declared.grammar.Use.TheVariants.{Parameter, Operand}
use Rattle.odc_syntax.specs.Tree.{Expr, Param, Signature, Stmts}
use Rattle.odc_syntax.specs.Grammar.{inside, later, operand, proc_literal}
use Rattle.odc_syntax.specs.Grammar as g
use Rattle.odc_syntax.specs.Derives.{StartsWithout}
use Rattle.odc_lookahead.specs.declared.stop.Stop.{Stop}
use Rattle.odc_lookahead.specs.declared.stop.Stop.TheVariants as stop
use Rattle.odc_lookahead.specs.Exact.{Part, one, Exact, Answer, Found, Broken}
use Rattle.odc_lookahead.specs.Read.{refused, StartsWith}
use Rattle.odc_lookahead.specs.ParamForms.{Front, Crossed}
use Rattle.odc_lookahead.specs.stmts.Runs.{Undeclared}
use Rattle.odc_lookahead.specs.Sets.{continues_argument, nothing_continues}
use Rattle.odc_lookahead.specs.TypeParts.{params_line, bare_line}
use Rattle.odc_lookahead.proofs.params.ParamsCrossed.{crossed_past, crossed_broken, crossed_deep, broken_near, deep_near}
use Rattle.odc_lookahead.proofs.types.ProcedureAnswers.{body_answer, body_refused}

-- where `$` may stand is told by where the list stands
pub front_at : (u u' : Use) (ts us : List Token) → u' ≡ inside u → Front u' ts us → Front (inside u) ts us
front_at u u' ts us same f = subst (λ (x : Use). Front x ts us) same f

pub dollar_named : (u u' : Use) (b : ℕ) (ts : List Token) (t : Token) (us : List Token) (r : Answer Param) → u' ≡ inside u → u' ≡ Parameter → ts ≡ t ∷ us → Exact (one (g.named_param Parameter)) continues_argument b (t ∷ us) r →
    Exact (one (g.named_param (inside u))) continues_argument b ts r
dollar_named u u' b ts t us r same is_parameter is h =
    subst (λ (x : Use). Exact (one (g.named_param x)) continues_argument b ts r) (sym is_parameter ∙ same)
    (subst (λ (l : List Token). Exact (one (g.named_param Parameter)) continues_argument b l r) (sym is) h)

-- a bound that leaves no node
pub at_none : {V : Type 0} (p : Part V) (cont : TokenKind → Bool) (d : ℕ) (ts : List Token) (r : Answer V) → d ≡ 0 → Exact p cont 0 ts r → Exact p cont d ts r
at_none p cont d ts r none h = subst (λ (n : ℕ). Exact p cont n ts r) (sym none) h

-- names in front where no type may stand
crossed_by : {ts us at' : List Token} (u : Use) → g.behind_name u ≡ g.not_next kind.Dot → Front u ts us → Undeclared us at' → length at' < length ts → (left : ℕ) (f : Stop) → (left < length at') ⊎ (length at' ≤ left) → Crossed (length at') (stop.Syntax left) f →
    Broken (bare_line u) nothing_continues 1 ts left → Exact (params_line u) nothing_continues 0 ts (refused f)
crossed_by {ts} u look f b less left e (inl before) crossed broken = subst (λ (x : Stop). Exact (params_line u) nothing_continues 0 ts (refused x)) (sym (crossed.0 before)) (crossed_past u left f b less broken before)
crossed_by {ts} u look f b less left e (inr behind) crossed broken =
    let near = broken_near u look left f b broken in
    subst (λ (x : Stop). Exact (params_line u) nothing_continues 0 ts (refused x)) (sym (crossed.1 behind)) (crossed_broken u left f b less broken (omega (arith, near, behind)))

pub crossed_refused : {ts us at' : List Token} (u : Use) → g.behind_name u ≡ g.not_next kind.Dot → Front u ts us → Undeclared us at' → length at' < length ts → (e f : Stop) → Crossed (length at') e f → Exact (bare_line u) nothing_continues 1 ts (refused e) →
    Exact (params_line u) nothing_continues 0 ts (refused f)
crossed_refused {ts} {us} {at'} u look f b less (stop.Syntax left) e crossed h = crossed_by u look f b less left e (cases_lt left (length at')) crossed h
crossed_refused {ts} u look f b less (stop.Deep left) e crossed h =
    subst (λ (x : Stop). Exact (params_line u) nothing_continues 0 ts (refused x)) (sym crossed) (crossed_deep u left f b less h (deep_near u look left f b h))
crossed_refused {ts} u look f b less stop.Memory e crossed h = subst (λ (x : Stop). Exact (params_line u) nothing_continues 0 ts (refused x)) (sym crossed) tt

-- what stands first
pub stands : (k : TokenKind) (ts : List Token) → StartsWith k ts → StartsWithout k ts → ⊥
stands k [] on none = on
stands k (t ∷ ts) on none = none on

pub stands_at : (k : TokenKind) (t : Token) (ts us : List Token) → ts ≡ t ∷ us → t.kind ≡ k → StartsWith k ts
stands_at k t ts us is e = subst (λ (l : List Token). StartsWith k l) (sym is) e

pub brace_no_dot : (t : Token) (ts us : List Token) → ts ≡ t ∷ us → t.kind ≡ kind.OpenBrace → StartsWithout kind.Dot ts
brace_no_dot t ts us is e = subst (λ (l : List Token). StartsWithout kind.Dot l) (sym is) (λ d. let bad : kind.OpenBrace ≡ kind.Dot = sym e ∙ d in cc)

-- a signature and the body behind it
pub bodied : (m : Mode) → later m ≡ Free → (b : ℕ) (ts : List Token) (v : Signature) (n : ℕ) (rest : List Token) (ss : Stmts) (k : ℕ) (last : List Token) (w : Expr) (top : ℕ) → StartsWith kind.Proc ts →
    Found (one (g.sig Operand)) nothing_continues b ts v n rest → n ≤ b → StartsWith kind.OpenBrace rest → Found (one (g.block_ Free)) nothing_continues b rest ss k last → w ≡ proc_literal v ss → top ≡ suc (max n k) →
    Found (one (operand m)) nothing_continues (suc b) ts w top last
bodied m free b [] v n rest ss k last w top proc found within brace body made high = absurd proc
bodied m free b (t ∷ us) v n [] ss k last w top proc found within brace body made high = absurd brace
bodied m free b (t ∷ us) v n (o ∷ inner) ss k last w top proc found within brace body made high = body_answer m free b t us v n o inner (o ∷ inner) ss k last w top proc found within refl brace body made high

pub body_stopped : (m : Mode) → later m ≡ Free → (b : ℕ) (ts : List Token) (v : Signature) (n : ℕ) (rest : List Token) (e : Stop) → StartsWith kind.Proc ts → Found (one (g.sig Operand)) nothing_continues b ts v n rest → n ≤ b → StartsWith kind.OpenBrace rest →
    Exact (one (g.block_ Free)) nothing_continues b rest (refused e) → Exact (one (operand m)) nothing_continues (suc b) ts (refused e)
body_stopped m free b [] v n rest e proc found within brace h = absurd proc
body_stopped m free b (t ∷ us) v n [] e proc found within brace h = absurd brace
body_stopped m free b (t ∷ us) v n (o ∷ inner) e proc found within brace h = body_refused m free b t us v n o inner (o ∷ inner) e proc found within refl brace h
