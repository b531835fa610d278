-- The answers of types in the words of the functions' results.
use Rattle.std.proofs.Common.{◌≡◌, ℕ, suc, max, List, ◌∷◌, refl, sym, subst, arith, Option, Some, None}
use Rattle.odc_syntax.specs.declared.token.Token.{Token}
use Rattle.odc_syntax.specs.declared.token.TokenKind.{TokenKind}
use Rattle.odc_syntax.specs.declared.grammar.Use.{Use}
use Rattle.odc_syntax.specs.declared.grammar.Use.TheVariants.{Plain, Parameter, Operand, OperandEnd}
use Rattle.odc_syntax.specs.Tree.{Type_}
use Rattle.odc_syntax.specs.Grammar.{type_, constructed, inside}
use Rattle.odc_lookahead.specs.declared.end.End.{End}
use Rattle.odc_lookahead.specs.declared.stop.Stop.{Stop}
use Rattle.odc_lookahead.specs.declared.stop.Stop.TheVariants as stop
use Rattle.odc_lookahead.specs.Exact.{Part, one, Exact, Answer, Yes, Syntax, Deep, NoMemory, Found}
use Rattle.odc_lookahead.specs.Ends.{FoundAs, ExactAs}
use Rattle.odc_lookahead.specs.Read.{refused}
use Rattle.odc_lookahead.specs.Sets.{nothing_continues}
use Rattle.odc_lookahead.specs.TypeForms.{own_form}
use Rattle.std.specs.Prelude.{IfSome, IfNone}
use Rattle.odc_lookahead.specs.Lists.{Ended, Again}
use Rattle.odc_lookahead.proofs.reading.Leading.{same_depth}
use Rattle.odc_lookahead.proofs.reading.Answering.{led_rest_refused}
use Rattle.odc_lookahead.proofs.reading.EndLemmas.{same_as, as_refused}
use Rattle.odc_lookahead.proofs.types.TypeAnswers.{as_answer}
use Rattle.odc_lookahead.proofs.expr.TypeStarts.{built_led}

-- the reason that is given is the one that was found
pub because_as : {V : Type 0} (u : Use) (p : Part V) (b : ℕ) (ts : List Token) (e f : Stop) → f ≡ e → ExactAs u p nothing_continues b ts (refused e) → ExactAs u p nothing_continues b ts (refused f)
because_as u p b ts e f same h = subst (λ (x : Stop). ExactAs u p nothing_continues b ts (refused x)) (sym same) h

-- a first token, and a bound that leaves a node
pub front_as : {V : Type 0} (u : Use) (p : Part V) (d b : ℕ) (ts : List Token) (t : Token) (us : List Token) (r : Answer (V × End)) → d ≡ suc b → ts ≡ t ∷ us → ExactAs u p nothing_continues (suc b) (t ∷ us) r → ExactAs u p nothing_continues d ts r
front_as u p d b ts t us r deeper is h =
    subst (λ (n : ℕ). ExactAs u p nothing_continues n ts r) (sym deeper) (subst (λ (l : List Token). ExactAs u p nothing_continues (suc b) l r) (sym is) h)

-- in brackets, a type ends for sure
inside_by : (u : Use) (b : ℕ) (ts : List Token) (v : Type_) (n : ℕ) (rest : List Token) (end : End) → FoundAs (inside u) (one (type_ (inside u))) nothing_continues b ts v n rest end → Found (one (type_ (inside u))) nothing_continues b ts v n rest
inside_by Plain b ts v n rest end f = f
inside_by Parameter b ts v n rest end f = f
inside_by Operand b ts v n rest end f = f
inside_by OperandEnd b ts v n rest end f = f

pub inside_found : (u u' : Use) (b : ℕ) (ts : List Token) (v : Type_) (n : ℕ) (rest : List Token) (end : End) → u' ≡ inside u → FoundAs u' (one (type_ u')) nothing_continues b ts v n rest end → Found (one (type_ (inside u))) nothing_continues b ts v n rest
inside_found u u' b ts v n rest end same f = inside_by u b ts v n rest end (subst (λ (x : Use). FoundAs x (one (type_ x)) nothing_continues b ts v n rest end) same f)

pub inside_refused : (u u' : Use) (b : ℕ) (ts : List Token) (e : Stop) → u' ≡ inside u → ExactAs u' (one (type_ u')) nothing_continues b ts (refused e) → Exact (one (type_ (inside u))) nothing_continues b ts (refused e)
inside_refused u u' b ts e same h =
    as_refused (one (type_ (inside u))) nothing_continues b ts (inside u) e (subst (λ (x : Use). ExactAs x (one (type_ x)) nothing_continues b ts (refused e)) same h)

-- a type that is built of others is a type
pub built_same : (u : Use) (b : ℕ) (t : Token) (ts us : List Token) (r : Answer (Type_ × End)) → ts ≡ t ∷ us → own_form t.kind ≡ None → ExactAs u (one (constructed u)) nothing_continues b ts r → ExactAs u (one (type_ u)) nothing_continues b ts r
built_same u b t ts us (Yes v n rest) is none h =
    as_answer u (one (type_ u)) nothing_continues b ts v.0 v.0 (max 0 n) n rest v.1 refl (omega arith) (same_as u v.0 n rest v.1 same_depth (built_led u b t ts us is none) (omega arith) h)
built_same u b t ts us (Syntax left) is none h = led_rest_refused (stop.Syntax left) same_depth (built_led u b t ts us is none) (omega arith) h
built_same u b t ts us (Deep left) is none h = led_rest_refused (stop.Deep left) same_depth (built_led u b t ts us is none) (omega arith) h
built_same u b t ts us NoMemory is none h = tt

-- a token that must stand next doesn't, where a part of several tokens begins with it
pub at_tokens : {V : Type 0} (u : Use) (p : Part V) (b : ℕ) (ts us : List Token) (r : Answer (V × End)) → ts ≡ us → ExactAs u p nothing_continues b us r → ExactAs u p nothing_continues b ts r
at_tokens u p b ts us r is h = subst (λ (l : List Token). ExactAs u p nothing_continues b l r) (sym is) h

-- how a list goes on, from a result that may have a closing token
pub ended_by : (close : TokenKind) (ts : List Token) (o : Option Token) (t : Token) (rest : List Token) → o ≡ Some t → IfSome o (λ t. Ended close ts t rest) → Ended close ts t rest
ended_by close ts o t rest is h = subst (λ (o : Option Token). IfSome o (λ t. Ended close ts t rest)) is h

pub again_by : (close : TokenKind) (ts : List Token) (o : Option Token) (rest : List Token) → o ≡ None → IfNone o (Again close ts rest) → Again close ts rest
again_by close ts o rest is h = subst (λ (o : Option Token). IfNone o (Again close ts rest)) is h
