-- The arguments of a call and the elements of a literal.
use Rattle.std.proofs.Common.{◌≡◌, ℕ, true, false, List, ◌∷◌, ◌++◌, sym, ◌∙◌, ap, Option, None}
use Rattle.odc_syntax.specs.declared.token.Token.{Token}
use Rattle.odc_syntax.specs.declared.token.TokenKind.{TokenKind}
use Rattle.odc_syntax.specs.declared.token.TokenKind.TheVariants as kind
use Rattle.odc_syntax.specs.declared.grammar.Mode.TheVariants.{Free}
use Rattle.odc_syntax.specs.declared.grammar.Level.TheVariants.{Or}
use Rattle.odc_syntax.specs.Tree.{Expr, Args}
use Rattle.odc_syntax.specs.Tree as tree
use Rattle.odc_syntax.specs.Grammar.{Sym}
use Rattle.odc_syntax.specs.Grammar as g
use Rattle.odc_syntax.specs.Derives.{StartsWithout}
use Rattle.odc_lookahead.specs.Exact.{Part, then_, done, token, behind}
use Rattle.odc_lookahead.specs.Parts.{arg_item, arguments}
use Rattle.odc_lookahead.specs.Sets.{starts_expression, continues, nothing_continues}
use Rattle.odc_lookahead.proofs.reading.Opening.{OpensAll}
use Rattle.odc_lookahead.proofs.reading.Leading.{Led}
use Rattle.odc_lookahead.proofs.separated.ListLemmas.{list_open, list_empty}
use Rattle.odc_lookahead.proofs.separated.ListRules.{arg_cons, args_listed}
use Rattle.odc_lookahead.proofs.reading.Samples as sample

-- a token that closes a list of arguments
pub record Closes (close : TokenKind) : Type 0 where
  pub no_comma : kind.Comma ≡ close → ⊥
  pub no_start : starts_expression Free close ≡ false
  pub goes_nowhere : continues Or Free close ≡ false

pub paren_closes : Closes kind.CloseParen
paren_closes = record { no_comma = λ e. cc; no_start = λ i. false; goes_nowhere = λ i. false }

pub brace_closes : Closes kind.CloseBrace
brace_closes = record { no_comma = λ e. cc; no_start = λ i. false; goes_nowhere = λ i. false }

pub arg_closes : (close : TokenKind) → Closes close → (c : ℕ) (v : _) (s : List Sym) (t : Token) (us : List Token) → t.kind ≡ close → OpensAll (arg_item c v ++ s) (t ∷ us) → ⊥
arg_closes close closes c v s t us e o = let bad : false ≡ true = sym closes.no_start ∙ sym (ap (starts_expression Free) e) ∙ o in cc

-- an argument with what is left of the list
abbrev pub left_of_arguments : TokenKind → Part (Args × (Token × Unit {0}))
left_of_arguments close = then_ g.more_args (then_ (token close) done)

abbrev pub next_argument : TokenKind → Part ((Option Token × Expr) × (Args × (Token × Unit {0})))
next_argument close = behind arg_item (left_of_arguments close)

abbrev pub with_argument : (Option Token × Expr) × (Args × (Token × Unit {0})) → Args × (Token × Unit {0})
with_argument u = (arg_cons u.0 u.1.0, u.1.1)

-- a first argument, and no argument
pub args_open : (close : TokenKind) → Closes close → (b : ℕ) (ts : List Token) → StartsWithout close ts → Led (arguments close) nothing_continues (λ n. n) b ts (next_argument close) with_argument 0 ts
args_open close closes b ts e = list_open arg_item g.args g.more_args tree.no_args arg_cons args_listed (None, sample.expr) close closes.no_comma (arg_closes close closes) nothing_continues b ts tree.no_args e

pub args_empty : (close : TokenKind) → Closes close → (b : ℕ) (t : Token) (us : List Token) → t.kind ≡ close → Led (arguments close) nothing_continues (λ n. n) b (t ∷ us) done (λ u. (tree.no_args, (t, tt))) 0 us
args_empty close closes b t us e = list_empty arg_item g.args g.more_args tree.no_args arg_cons args_listed (None, sample.expr) close closes.no_comma (arg_closes close closes) nothing_continues b t us e
