-- Statements, blocks and `if`: answers in the words of the functions' results.
use Rattle.std.specs.Prelude.{Result, Ok, Err, IfOk}
use Rattle.std.proofs.Common.{◌≡◌, ℕ, suc, ◌<◌, ◌≤◌, arith, true, List, [], ◌∷◌, length, refl, sym, ◌∙◌, ap, subst, ◌⊎◌, inl, inr}
use Rattle.odc_text.specs.declared.place.Place.{Place}
use Rattle.odc_syntax.specs.declared.token.Token.{Token}
use Rattle.odc_syntax.specs.declared.token.TokenKind.{TokenKind}
use Rattle.odc_syntax.specs.declared.token.TokenKind.TheVariants as kind
use Rattle.odc_syntax.specs.declared.grammar.Mode.TheVariants.{Free, Start}
use Rattle.odc_syntax.specs.Tree.{Expr, Header, Stmt, stmt, StmtKind, Stmts}
use Rattle.odc_syntax.specs.Tree as tree
use Rattle.odc_syntax.specs.Grammar as g
use Rattle.odc_syntax.specs.Derives.{StartsWithout}
use Rattle.odc_lookahead.specs.declared.read.Read.{Read}
use Rattle.odc_lookahead.specs.declared.stop.Stop.{Stop}
use Rattle.odc_lookahead.specs.declared.stop.Stop.TheVariants as stop
use Rattle.odc_parse_expr.specs.Blocks.{BodyOver}
use Rattle.odc_parse_expr.specs.Conditionals.{IfRead}
use Rattle.odc_lookahead.specs.Exact.{one, then_, done, Exact, Answer, Yes, Syntax, Deep, NoMemory, Broken, TooDeep}
use Rattle.odc_lookahead.specs.Read.{refused}
use Rattle.odc_lookahead.specs.stmts.Runs.{Undeclared}
use Rattle.odc_lookahead.specs.Sets.{nothing_continues}
use Rattle.odc_lookahead.specs.stmts.StatementSets.{continues_simple, continues_statement}
use Rattle.odc_lookahead.proofs.reading.Opening.{reach_opens, First, is_body, is_brace}
use Rattle.odc_lookahead.proofs.reading.Answering.{stuck_broken, led_stuck}
use Rattle.odc_lookahead.proofs.stmts.NamedLemmas.{undeclared_answer, undeclared_refused}
use Rattle.odc_lookahead.proofs.stmts.BlockLemmas.{no_body_first}
use Rattle.odc_lookahead.proofs.headers.IfLemmas.{HeadRead, if_head_read, BodyRead, if_body_read, if_body_over}

-- names that are not declared begin an assignment or expressions
pub undeclared_exact : (b : ℕ) (ts rest : List Token) (t : Token) (us : List Token) (r : Answer Stmt) → 1 < b → Undeclared ts rest → ts ≡ t ∷ us → t.kind ≡ kind.Name → Exact (one (g.simple Start)) (continues_simple Start) b ts r →
    Exact (one g.statement) continues_statement b ts r
undeclared_exact b ts rest t us (Yes v n after) some d is k h = undeclared_answer b ts rest t us v n after some d is k h
undeclared_exact b ts rest t us (Syntax left) some d is k h = undeclared_refused b ts rest t us (stop.Syntax left) some d is k h
undeclared_exact b ts rest t us (Deep left) some d is k h = undeclared_refused b ts rest t us (stop.Deep left) some d is k h
undeclared_exact b ts rest t us NoMemory some d is k h = tt

-- no block
opens_brace : (k : TokenKind) → is_brace true k ≡ true → k ≡ kind.OpenBrace
opens_brace kind.OpenBrace e = refl
opens_brace _ e = cc

no_brace_first : (ts : List Token) → StartsWithout kind.OpenBrace ts → First (is_brace true) ts → ⊥
no_brace_first [] f h = h
no_brace_first (t ∷ ts) f h = f (opens_brace t.kind h)

pub no_block : (b : ℕ) (ts : List Token) → StartsWithout kind.OpenBrace ts → Broken (one (g.block_ Free)) nothing_continues b ts (length ts)
no_block b ts f = stuck_broken (g.block_ Free) tree.no_stmts (λ c v h. no_brace_first ts f h)

-- an `if` up to its body, behind which nothing is read
if_no_body : (b : ℕ) (ts : List Token) (t : Token) (h : Header) (e : Expr) (n : ℕ) (rest : List Token) → HeadRead b ts t h e n rest → StartsWithout kind.OpenBrace rest → StartsWithout kind.Do rest →
    Broken (one g.if_statement) continues_statement (suc b) ts (length rest)
unfolding then_ done
if_no_body b ts t h e n rest led f k = led_stuck (λ c u s s' ts' clear r q. no_body_first rest f k (reach_opens r q)) led

body_kind : (k : TokenKind) → (k ≡ kind.OpenBrace) ⊎ (k ≡ kind.Do) → is_body k ≡ true
body_kind k (inl e) = ap is_body e
body_kind k (inr e) = ap is_body e

pub if_over : (b : ℕ) (ts : List Token) (t : Token) (h : Header) (e : Expr) (n : ℕ) (rest : List Token) (w : Stop) → HeadRead b ts t h e n rest → b < n → BodyOver rest w → Exact (one g.if_statement) continues_statement (suc b) ts (refused w)
if_over b ts t h e n rest (stop.Syntax left) led over z = subst (λ (k : ℕ). Broken (one g.if_statement) continues_statement (suc b) ts k) (sym z.0) (if_no_body b ts t h e n rest led z.1.0 z.1.1)
if_over b ts t h e n rest (stop.Deep left) led over z =
    subst (λ (k : ℕ). TooDeep (one g.if_statement) continues_statement (suc b) ts k) (sym z.left_is) (if_body_over b ts t h e n rest z.first z.rest led over z.is (body_kind z.first.kind z.kind))
if_over b ts t h e n rest stop.Memory led over z = absurd z

-- an `if` with its body
pub if_read : (b : ℕ) (ts : List Token) (at : Place) (head : Header × (Expr × Unit {0})) (block : Stmts) (height : ℕ) (us : List Token) → (z : IfRead b ts at head block height us) → BodyRead b ts z.first head.0 head.1.0 block height us
if_read b ts at head block height us z = if_body_read b ts z.first head.0 head.1.0 z.n z.body block z.m height us (if_head_read b ts z.first z.behind head.0 head.1.0 z.n z.body z.is z.kind z.head_found) z.within z.body_found z.height_is

-- a statement, and its place
pub placed_so : (p q : Place) (k : StmtKind) (w : Stmt) → p ≡ q → w ≡ stmt p k → stmt q k ≡ w
placed_so p q k w e f = ap (λ (x : Place). stmt x k) (sym e) ∙ sym f

-- what is shorter than the tokens behind the first is shorter than all
pub shorter_by : {A : Type 0} (r : Result (Read A) Stop) (us ts : List Token) → length us < length ts → IfOk r (λ x. length x.rest.now ≤ length us) → IfOk r (λ x. length x.rest.now < length ts)
shorter_by (Ok x) us ts h k = omega (arith, h, k)
shorter_by (Err e) us ts h k = tt
