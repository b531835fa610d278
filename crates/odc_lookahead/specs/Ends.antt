-- What a function answers that reads an operand, or a type that is one, and when that answer is right. A
-- name that is a type ends before a `.` that no name follows; but as far as the `.` the tokens begin a name
-- of a package, too. So one token more may have to be read until there is one reading.
use Rattle.std.specs.Prelude.{◌≡◌, ℕ, ◌-◌, ◌*◌, ◌≤◌, Bool, true, false, List, ◌∷◌, ◌++◌, length, Result, Ok, Err}
use Rattle.odc_syntax.specs.declared.token.Token.{Token}
use Rattle.odc_syntax.specs.declared.token.TokenKind.{TokenKind}
use Rattle.odc_syntax.specs.declared.token.TokenKind.TheVariants.{Dot, Name, OpenParen}
use Rattle.odc_syntax.specs.declared.grammar.Use.{Use}
use Rattle.odc_syntax.specs.declared.grammar.Use.TheVariants.{Plain, Parameter, Operand, OperandEnd}
use Rattle.odc_syntax.specs.Grammar.{Sym}
use Rattle.odc_syntax.specs.Derives.{Reach, StartsWithout}
use Rattle.odc_lookahead.specs.declared.end.End.{End}
use Rattle.odc_lookahead.specs.declared.end.End.TheVariants.{Sure, BeforeDot}
use Rattle.odc_lookahead.specs.declared.read.Closed.{Closed}
use Rattle.odc_lookahead.specs.declared.read.Read.{Read}
use Rattle.odc_lookahead.specs.declared.read.ReadTo.{ReadTo}
use Rattle.odc_lookahead.specs.declared.stop.Stop.{Stop}
use Rattle.odc_lookahead.specs.declared.stop.Stop.TheVariants as stop
use Rattle.odc_lookahead.specs.Exact.{size, Clear, Part, Comes, Remains, Found, Broken, TooDeep, Answer, Yes, Syntax, Deep, NoMemory}
use Rattle.odc_lookahead.specs.Read.{refused, NotExpected}
use Rattle.odc_lookahead.specs.declared.tokens.Fit.TheVariants as fit

-- these tokens begin with a `.` that no name follows
pub record AtDot (ts : List Token) : Type 0 where
  pub dot : Token
  pub behind : List Token
  pub is : ts ≡ dot ∷ behind
  pub kind : dot.kind ≡ Dot
  pub no_name : StartsWithout Name behind

-- what follows what ends so
abbrev pub Follows : End → List Token → Type 0
Follows Sure rest = Unit {0}
Follows BeforeDot rest = AtDot rest

-- how many tokens are left where there is one reading
abbrev pub sure : End → List Token → ℕ
sure Sure rest = length rest
sure BeforeDot rest = length rest - 1

-- `Found`, of what goes past the place where there is one reading
pub record FoundTo {V : Type 0} (p : Part V) (cont : TokenKind → Bool) (b : ℕ) (ts : List Token) (v : V) (n : ℕ) (rest : List Token) (end : End) : Type 0 where
  pub short : length rest ≤ length ts
  pub follows : Follows end rest
  pub comes : Comes p b ts (sure end rest)
  pub reads : (c : ℕ) → n ≤ c → (s : List Sym) → Reach s rest (p c v ++ s) ts
  pub only : (c : ℕ) (w : V) (s s' : List Sym) (ts' : List Token) → Clear cont s → Reach s' ts' (p c w ++ s) ts →
      size s' ts' ≤ 2 * sure end rest → Remains v n rest c w s s' ts'

abbrev pub ExactTo : {V : Type 0} → Part V → (TokenKind → Bool) → ℕ → List Token → Answer (V × End) → Type 0
ExactTo p cont b ts (Yes v n rest) = FoundTo p cont b ts v.0 n rest v.1
ExactTo p cont b ts (Syntax left) = Broken p cont b ts left
ExactTo p cont b ts (Deep left) = TooDeep p cont b ts left
ExactTo p cont b ts NoMemory = Unit {0}

-- a type ends for sure where no expression may stand
abbrev pub FoundAs : {V : Type 0} → Use → Part V → (TokenKind → Bool) → ℕ → List Token → V → ℕ → List Token → End → Type 0
FoundAs Plain p cont b ts v n rest end = Found p cont b ts v n rest
FoundAs Parameter p cont b ts v n rest end = Found p cont b ts v n rest
FoundAs Operand p cont b ts v n rest end = FoundTo p cont b ts v n rest end
FoundAs OperandEnd p cont b ts v n rest end = FoundTo p cont b ts v n rest end

abbrev pub ExactAs : {V : Type 0} → Use → Part V → (TokenKind → Bool) → ℕ → List Token → Answer (V × End) → Type 0
ExactAs u p cont b ts (Yes v n rest) = FoundAs u p cont b ts v.0 n rest v.1
ExactAs u p cont b ts (Syntax left) = Broken p cont b ts left
ExactAs u p cont b ts (Deep left) = TooDeep p cont b ts left
ExactAs u p cont b ts NoMemory = Unit {0}

-- what is read, or why nothing is, as an answer, with how it ends
abbrev pub seen_to : {A V : Type 0} → (A → V) → Result (ReadTo A) Stop → Answer (V × End)
seen_to view (Ok r) = Yes (view r.tree, r.end) r.height r.rest.now
seen_to view (Err e) = refused e

-- why no suffix is read behind what ends so, whose first token stands before these, where none may follow:
-- behind a `.` that may still be read with what stands before it, the next token tells
abbrev pub Over : End → List Token → Stop → Type 0
Over Sure behind e = e ≡ stop.Deep (length behind)
Over BeforeDot behind e = NotExpected OpenParen fit.Over behind e

-- the type is an operand, or its end
abbrev pub ends_operand : Use → Bool
ends_operand Plain = false
ends_operand Parameter = false
ends_operand Operand = true
ends_operand OperandEnd = true

-- what is read up to a closing token, or why it isn't, as an answer
abbrev pub closed_by : {A V : Type 0} → (A → V) → Result (Read (Closed A)) Stop → Answer (V × (Token × Unit {0}))
closed_by view (Ok r) = Yes (view r.tree.part, (r.tree.close, tt)) r.height r.rest.now
closed_by view (Err e) = refused e
