-- The clean forms of what is read of a loop, and what the functions on loops have read.
use Rattle.std.specs.Prelude.{◌≡◌, ℕ, suc, ◌<◌, ◌≤◌, Bool, true, false, List, ◌∷◌, length, ◌⊎◌}
use Rattle.odc_text.specs.declared.place.Place.{Place}
use Rattle.odc_syntax.specs.declared.token.Token.{Token}
use Rattle.odc_syntax.specs.declared.token.TokenKind.TheVariants as kind
use Rattle.odc_syntax.specs.declared.grammar.Mode.TheVariants.{Header}
use Rattle.odc_syntax.specs.declared.grammar.Level.TheVariants.{Or}
use Rattle.odc_syntax.specs.Derives.{StartsWithout}
use Rattle.odc_syntax.specs.Grammar as g
use Rattle.odc_syntax.specs.Tree as tree
use Rattle.odc_syntax.specs.View.{expr, stmts, maybe_expr, maybe_stmt, header_of, span_of}
use Rattle.odc_parse_expr.specs.declared.loops.Front.{Front}
use Rattle.odc_parse_expr.specs.declared.loops.Front.TheVariants as front
use Rattle.odc_parse_expr.specs.declared.loops.Sign.{Sign}
use Rattle.odc_parse_expr.specs.declared.loops.Sign.TheVariants as sign
use Rattle.odc_parse_expr.specs.declared.loops.Loop.{Loop}
use Rattle.odc_parse_expr.specs.declared.loops.Loop.TheVariants as l
use Rattle.odc_parse_expr.specs.declared.loops.LoopEnd.{LoopEnd}
use Rattle.odc_parse_expr.specs.declared.loops.LoopSteps.{LoopSteps}
use Rattle.odc_lookahead.specs.Exact.{Found, Broken, one}
use Rattle.odc_lookahead.specs.stmts.Headers.{ClosedFrom, HeadExpression}
use Rattle.odc_lookahead.specs.stmts.Loops.{Steps}
use Rattle.odc_lookahead.specs.stmts.LoopStarts.{Signed, Ranged, OneName, MoreNames, Unranged, asks}
use Rattle.odc_lookahead.specs.Sets.{continues}
use Rattle.odc_lookahead.specs.stmts.StatementSets.{continues_simple}

abbrev pub end_of : LoopEnd → tree.MaybeStmt × tree.Stmts
end_of e = (maybe_stmt e.step, stmts e.body.items)

abbrev pub steps_of : LoopSteps → Steps
steps_of s = (maybe_expr s.condition, (s.semicolon, end_of s.end))

abbrev pub loop_of : Place → Loop → Place × g.Labelled
loop_of at (l.Ever body) = (at, g.loop tree.no_header tree.no_expr tree.no_stmt (stmts body.items))
loop_of at (l.While e body) = (at, g.loop tree.no_header (tree.some_expr (expr e)) tree.no_stmt (stmts body.items))
loop_of at (l.Steps h s) = (at, g.loop (header_of h) (maybe_expr s.condition) (maybe_stmt s.end.step) (stmts s.end.body.items))
loop_of at (l.Range names s body) = (at, g.range names (span_of s) (stmts body.items))

-- whether a body stands first
pub record BodyFirst (ts : List Token) : Type 0 where
  pub first : Token
  pub rest : List Token
  pub is : ts ≡ first ∷ rest
  pub kind : (first.kind ≡ kind.OpenBrace) ⊎ (first.kind ≡ kind.Do)

abbrev pub BeginsBody : List Token → Bool → Type 0
BeginsBody ts true = BodyFirst ts
BeginsBody ts false = StartsWithout kind.OpenBrace ts × StartsWithout kind.Do ts

-- whether it is `&`
abbrev pub refers : Sign → Bool
refers sign.Plain = false
refers sign.Reference = true

-- what stands behind `for`, as far as variables go
abbrev pub FrontIs : List Token → Front → List Token → Type 0
FrontIs ts (front.Range names) rest = Ranged ts names rest
FrontIs ts (front.One s) rest = OneName (refers s) ts rest
FrontIs ts (front.More s) last = MoreNames (refers s) ts last
FrontIs ts front.Address rest = Signed true ts rest × StartsWithout kind.Name rest
FrontIs ts front.Other rest = StartsWithout kind.Name ts × StartsWithout kind.Ampersand ts

-- a loop that begins with neither a body nor `;`, nor with variables and `in`
pub record LoopStart (t : Token) (ts place : List Token) : Type 0 where
  pub is_for : t.kind ≡ kind.For
  pub no_brace : StartsWithout kind.OpenBrace ts
  pub no_do : StartsWithout kind.Do ts
  pub no_semicolon : StartsWithout kind.Semicolon ts
  pub unranged : Unranged ts place

-- what must be followed by `;` is read
pub data LoopClosed (b : ℕ) (ts place : List Token) (z : Unranged ts place) : tree.Header → ℕ → List Token → Type 0 where
  from : (h : tree.Header) (n : ℕ) (rest : List Token) → asks z ≤ b → asks z ≤ 2 → ClosedFrom b ts h n rest → LoopClosed b ts place z h n rest
  signs : (last : List Token) (x : tree.Stmt) (n : ℕ) (rest : List Token) → 2 < b → MoreNames true ts last → Found (one (g.simple Header)) (continues_simple Header) b ts x n rest → LoopClosed b ts place z (tree.simple_header x) n rest

-- with its `;`
pub data LoopCondition (b : ℕ) (ts place : List Token) (z : Unranged ts place) : tree.Header → ℕ → List Token → Type 0 where
  closed : (h : tree.Header) (n : ℕ) (rest : List Token) (t : Token) (us : List Token) → LoopClosed b ts place z h n rest → n ≤ b → rest ≡ t ∷ us → t.kind ≡ kind.Semicolon → LoopCondition b ts place z h n us
  evaluated : (d : ℕ) (p : List Token) (v : tree.Expr) (n : ℕ) (rest : List Token) (t : Token) (us : List Token) → asks z ≤ b → asks z ≤ 2 → b ≡ suc d → HeadExpression b ts p v n rest → n ≤ d → rest ≡ t ∷ us → t.kind ≡ kind.Semicolon →
      LoopCondition b ts place z (tree.simple_header (tree.stmt (tree.first_of v) (tree.eval (tree.more_exprs v tree.no_exprs)))) (suc n) us

-- the condition of a loop is read, or there is none
pub data ConditionRead (b : ℕ) (ts : List Token) : tree.MaybeExpr → ℕ → List Token → Type 0 where
  none : Broken (one (g.expression Header)) (continues Or Header) b ts (length ts) → ConditionRead b ts tree.no_expr 0 ts
  some : (v : tree.Expr) (n : ℕ) (rest : List Token) → Found (one (g.expression Header)) (continues Or Header) b ts v n rest → length rest < length ts → ConditionRead b ts (tree.some_expr v) n rest
