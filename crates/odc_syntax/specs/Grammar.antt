-- The grammar: one rule for each production. A symbol is a token, what must or must not come next, or a
-- part of the language with its flags, a bound on its depth, and the tree that it gives. A rule says
-- what a symbol may be written as. A node costs one level of depth, and so does a pair of parentheses
-- that only groups; a list costs nothing.
use Rattle.std.specs.Prelude.{◌≡◌, ℕ, suc, Bool, true, false, List, [], ◌∷◌, Option, Some, None}
use Rattle.odc_text.specs.declared.place.Place.{Place}
use Rattle.odc_syntax.specs.declared.token.Token.{Token}
use Rattle.odc_syntax.specs.declared.token.TokenKind.{TokenKind}
use Rattle.odc_syntax.specs.declared.token.TokenKind.TheVariants as kind
use Rattle.odc_syntax.specs.declared.token.Word.{Word}
use Rattle.odc_syntax.specs.declared.token.Word.TheVariants as word
use Rattle.odc_syntax.specs.declared.grammar.Mode.{Mode}
use Rattle.odc_syntax.specs.declared.grammar.Mode.TheVariants.{Free, Header, Start}
use Rattle.odc_syntax.specs.declared.grammar.Use.{Use}
use Rattle.odc_syntax.specs.declared.grammar.Use.TheVariants.{Plain, Parameter, Operand, OperandEnd}
use Rattle.odc_syntax.specs.declared.grammar.Level.{Level}
use Rattle.odc_syntax.specs.declared.grammar.Level.TheVariants as level
use Rattle.odc_syntax.specs.declared.tree.BinaryOp.{BinaryOp}
use Rattle.odc_syntax.specs.declared.tree.RangeNames.{RangeNames}
use Rattle.odc_syntax.specs.declared.tree.SwitchWord.{SwitchWord}
use Rattle.odc_syntax.specs.Tree.{Expr, expr, MaybeExpr, Exprs, Args, Type_, type, MaybeType, Types, Length, Fields, Enumerators, Signature, signature, Results, Params, Param, param, Stmt, stmt, MaybeStmt, Stmts, Header as HeaderTree, Else, Span, span, SpanEnd, Spans, Cases, Decl, decl, Initial, Decls, first_of}
use Rattle.odc_syntax.specs.Tree as tree
use Rattle.odc_syntax.specs.Operators.{prefix_of, operator_of, level_of, assignment_of}

-- behind the first token of an expression
abbrev pub later : Mode → Mode
later Free = Free
later Header = Header
later Start = Free

-- between the brackets of a type
abbrev pub inside : Use → Use
inside Plain = Plain
inside Parameter = Parameter
inside Operand = Plain
inside OperandEnd = Plain

-- at the end of a type
abbrev pub at_end : Use → Use
at_end Plain = Plain
at_end Parameter = Parameter
at_end Operand = OperandEnd
at_end OperandEnd = OperandEnd

-- the type that is an operand: a literal may follow it where braces may stand
abbrev pub operand_use : Mode → Use
operand_use Free = Operand
operand_use Header = OperandEnd
operand_use Start = Operand

-- an operator with its right operand
pub record Operation : Type 0 where
  pub at : Place
  pub op : BinaryOp
  pub right : Expr

abbrev pub operated : Expr → Operation → Expr
operated a o = expr (first_of a) o.at (tree.binary o.op a o.right)

-- what may stand behind an operand
pub data Suffix : Type 0 where
  select : (at : Place) (t : Token) → Suffix
  assert : (at : Place) (t : Type_) → Suffix
  deref : (at : Place) → Suffix
  index : (at : Place) (i : Expr) → Suffix
  cut : (at : Place) (low high : MaybeExpr) → Suffix
  call : (args : Args) → Suffix
  or_return : Suffix
  literal : (args : Args) → Suffix

abbrev pub suffixed : Expr → Suffix → Expr
suffixed e (select at t) = expr (first_of e) at (tree.select e t)
suffixed e (assert at t) = expr (first_of e) at (tree.assert e t)
suffixed e (deref at) = expr (first_of e) at (tree.deref e)
suffixed e (index at i) = expr (first_of e) at (tree.index e i)
suffixed e (cut at low high) = expr (first_of e) at (tree.cut e low high)
suffixed e (call args) = expr (first_of e) (first_of e) (tree.call e args)
suffixed e or_return = expr (first_of e) (first_of e) (tree.or_return e)
suffixed e (literal args) = expr (first_of e) (first_of e) (tree.literal (tree.some_expr e) args)

-- an expression in parentheses that only group
abbrev pub opened : Place → Expr → Expr
opened first (expr inner at k) = expr first at k

-- the operators of this level may be chained
abbrev pub chains : Level → Bool
chains level.Comparison = false
chains _ = true

-- the kinds of statement that a label may stand before
pub data Labelled : Type 0 where
  block : (body : Stmts) → Labelled
  loop : (header : HeaderTree) (condition : MaybeExpr) (step : MaybeStmt) (body : Stmts) → Labelled
  range : (names : RangeNames) (over : Span) (body : Stmts) → Labelled
  switch : (word : SwitchWord) (header : HeaderTree) (value : MaybeExpr) (cases : Cases) → Labelled
  type_switch : (word : SwitchWord) (name : Token) (value : Expr) (cases : Cases) → Labelled

abbrev pub labelled : Option Token → Labelled → tree.StmtKind
labelled l (block body) = tree.block l body
labelled l (loop header condition step body) = tree.loop l header condition step body
labelled l (range names over body) = tree.range l names over body
labelled l (switch w header value cases) = tree.switch l w header value cases
labelled l (type_switch w name value cases) = tree.type_switch l w name value cases

-- a statement with a label stands at it
abbrev pub placed : Option Token → Place → Place
placed None at = at
placed (Some t) at = t.at

-- a declaration as a statement
abbrev pub declared_stmt : tree.Decl → tree.Stmt
declared_stmt (tree.decl at k) = tree.stmt at (tree.declare (tree.decl at k))

-- an expression alone as a header
abbrev pub evaluated_header : Expr → HeaderTree
evaluated_header e = tree.simple_header (tree.stmt (first_of e) (tree.eval (tree.more_exprs e tree.no_exprs)))

-- a type as an operand
abbrev pub type_operand : tree.Type_ → Expr
type_operand (tree.type at k) = expr at at (tree.type_tree (tree.type at k))

-- a procedure's type as an operand, and a procedure with its body
abbrev pub proc_type : tree.Signature → Expr
proc_type (tree.signature at n ps r) = expr at at (tree.type_tree (tree.type at (tree.proc (tree.signature at n ps r))))

abbrev pub proc_literal : tree.Signature → Stmts → Expr
proc_literal (tree.signature at n ps r) ss = expr at at (tree.proc_lit (tree.signature at n ps r) ss)

pub data Sym : Type 0 where
  -- a token of this kind; a token of this kind that says this
  tok : (k : TokenKind) (t : Token) → Sym
  said : (k : TokenKind) (w : Word) (t : Token) → Sym
  -- what comes next is of this kind; is not of this kind; is not `.` and a name
  next : (k : TokenKind) → Sym
  not_next : (k : TokenKind) → Sym
  not_member : Sym
  -- what no tokens are
  nothing : Sym
  names : (ts : List Token) → Sym
  maybe_token : (k : TokenKind) (t : Option Token) → Sym
  -- expressions
  chain : (l : Level) (m : Mode) (b : ℕ) (e : Expr) → Sym
  operation : (l : Level) (m : Mode) (b : ℕ) (o : Operation) → Sym
  unary : (m : Mode) (b : ℕ) (e : Expr) → Sym
  postfix : (m : Mode) (b : ℕ) (e : Expr) → Sym
  suffix : (m : Mode) (b : ℕ) (s : Suffix) → Sym
  operand : (m : Mode) (b : ℕ) (e : Expr) → Sym
  maybe_expr : (m : Mode) (b : ℕ) (e : MaybeExpr) → Sym
  exprs : (m : Mode) (b : ℕ) (es : Exprs) → Sym
  more_exprs : (m : Mode) (b : ℕ) (es : Exprs) → Sym
  args : (b : ℕ) (xs : Args) → Sym
  more_args : (b : ℕ) (xs : Args) → Sym
  arg : (b : ℕ) (name : Option Token) (e : Expr) → Sym
  braces : (m : Mode) (b : ℕ) (xs : Args) → Sym
  -- types
  type_ : (u : Use) (b : ℕ) (t : Type_) → Sym
  constructed : (u : Use) (b : ℕ) (t : Type_) → Sym
  length : (u : Use) (b : ℕ) (l : Length) → Sym
  maybe_type : (u : Use) (b : ℕ) (t : MaybeType) → Sym
  fields : (u : Use) (b : ℕ) (fs : Fields) → Sym
  more_fields : (u : Use) (b : ℕ) (fs : Fields) → Sym
  types : (u : Use) (b : ℕ) (ts : Types) → Sym
  more_types : (u : Use) (b : ℕ) (ts : Types) → Sym
  enumerators : (b : ℕ) (es : Enumerators) → Sym
  more_enumerators : (b : ℕ) (es : Enumerators) → Sym
  given : (b : ℕ) (e : MaybeExpr) → Sym
  sig : (u : Use) (b : ℕ) (s : Signature) → Sym
  results : (u : Use) (b : ℕ) (r : Results) → Sym
  params : (u : Use) (b : ℕ) (ps : Params) → Sym
  named_param : (u : Use) (b : ℕ) (p : Param) → Sym
  more_named : (u : Use) (b : ℕ) (ps : Params) → Sym
  bare_param : (u : Use) (b : ℕ) (p : Param) → Sym
  more_bare : (u : Use) (b : ℕ) (ps : Params) → Sym
  -- statements
  stmts : (b : ℕ) (ss : Stmts) → Sym
  block_ : (m : Mode) (b : ℕ) (ss : Stmts) → Sym
  body : (b : ℕ) (ss : Stmts) → Sym
  statement : (b : ℕ) (s : Stmt) → Sym
  simple : (m : Mode) (b : ℕ) (s : Stmt) → Sym
  if_statement : (b : ℕ) (s : Stmt) → Sym
  else_ : (b : ℕ) (e : Else) → Sym
  header : (b : ℕ) (h : HeaderTree) → Sym
  steps : (b : ℕ) (h : HeaderTree) → Sym
  variables : (vs : RangeNames) → Sym
  switch_word : (at : Place) (w : SwitchWord) → Sym
  labelled_ : (b : ℕ) (at : Place) (s : Labelled) → Sym
  maybe_simple : (b : ℕ) (s : MaybeStmt) → Sym
  span_ : (m : Mode) (b : ℕ) (s : Span) → Sym
  span_end : (m : Mode) (b : ℕ) (e : SpanEnd) → Sym
  cases : (b : ℕ) (cs : Cases) → Sym
  items : (b : ℕ) (ss : Spans) → Sym
  more_items : (b : ℕ) (ss : Spans) → Sym
  -- declarations
  declaration : (m : Mode) (b : ℕ) (d : Decl) → Sym
  import_ : (b : ℕ) (d : Decl) → Sym
  initial : (m : Mode) (b : ℕ) (i : Initial) → Sym
  decls : (b : ℕ) (ds : Decls) → Sym
  file : (b : ℕ) (name : Token) (ds : Decls) → Sym

-- an expression of any kind
abbrev pub expression : Mode → ℕ → Expr → Sym
expression m b e = chain level.Or m b e

-- what the operators of a level stand between
abbrev pub item : Level → Mode → ℕ → Expr → Sym
item level.Or m b e = chain level.And m b e
item level.And m b e = chain level.Comparison m b e
item level.Comparison m b e = chain level.Sum m b e
item level.Sum m b e = chain level.Product m b e
item level.Product m b e = unary m b e

-- A name that is a type takes a further `.` and name with it. Where a type is an operand, `.` may
-- begin what follows the operand.
abbrev pub behind_name : Use → Sym
behind_name Plain = not_next kind.Dot
behind_name Parameter = not_next kind.Dot
behind_name Operand = not_member
behind_name OperandEnd = not_member

-- `[?]` stands before a literal alone
abbrev pub behind_counted : Use → Sym
behind_counted Plain = nothing
behind_counted Parameter = nothing
behind_counted Operand = next kind.OpenBrace
behind_counted OperandEnd = nothing

-- what a symbol may be written as
pub data Rule : Sym → List Sym → Type 0 where
  names_one : {t : Token} → Rule (names (t ∷ [])) (tok kind.Name t ∷ [])
  names_more : {t c u : Token} {ts : List Token} → Rule (names (t ∷ u ∷ ts)) (tok kind.Name t ∷ tok kind.Comma c ∷ names (u ∷ ts) ∷ [])
  no_token : {k : TokenKind} → Rule (maybe_token k None) []
  a_token : {k : TokenKind} {t : Token} → Rule (maybe_token k (Some t)) (tok k t ∷ [])
  -- binary operators
  chain_one : {l : Level} {m : Mode} {b : ℕ} {e : Expr} → Rule (chain l m b e) (item l m b e ∷ [])
  chain_more : {l : Level} {m : Mode} {b : ℕ} {e : Expr} {o : Operation} → chains l ≡ true →
      Rule (chain l m (suc b) (operated e o)) (chain l m b e ∷ operation l m b o ∷ [])
  chain_twice : {m : Mode} {b : ℕ} {e : Expr} {o : Operation} →
      Rule (chain level.Comparison m (suc b) (operated e o)) (item level.Comparison m b e ∷ operation level.Comparison m b o ∷ [])
  operation_ : {l : Level} {m : Mode} {b : ℕ} {k : TokenKind} {t : Token} {op : BinaryOp} {e : Expr} → operator_of k ≡ Some op → level_of op ≡ l →
      Rule (operation l m b (record { at = t.at; op = op; right = e })) (tok k t ∷ item l (later m) b e ∷ [])
  -- prefix operators
  unary_one : {m : Mode} {b : ℕ} {e : Expr} → Rule (unary m b e) (postfix m b e ∷ [])
  unary_sign : {m : Mode} {b : ℕ} {k : TokenKind} {t : Token} {op : _} {e : Expr} → prefix_of k ≡ Some op →
      Rule (unary m (suc b) (expr t.at t.at (tree.unary op e))) (tok k t ∷ unary (later m) b e ∷ [])
  unary_cast : {m : Mode} {b : ℕ} {t o c : Token} {ty : Type_} {e : Expr} →
      Rule (unary m (suc b) (expr t.at t.at (tree.cast ty e))) (tok kind.Cast t ∷ tok kind.OpenParen o ∷ type_ Plain b ty ∷ tok kind.CloseParen c ∷ unary (later m) b e ∷ [])
  -- what stands behind an operand
  postfix_one : {m : Mode} {b : ℕ} {e : Expr} → Rule (postfix m b e) (operand m b e ∷ [])
  postfix_more : {m : Mode} {b : ℕ} {e : Expr} {s : Suffix} → Rule (postfix m (suc b) (suffixed e s)) (postfix m b e ∷ suffix m b s ∷ [])
  suffix_select : {m : Mode} {b : ℕ} {t n : Token} → Rule (suffix m b (select t.at n)) (tok kind.Dot t ∷ tok kind.Name n ∷ [])
  suffix_assert : {m : Mode} {b : ℕ} {t o c : Token} {ty : Type_} →
      Rule (suffix m b (assert t.at ty)) (tok kind.Dot t ∷ tok kind.OpenParen o ∷ type_ Plain b ty ∷ tok kind.CloseParen c ∷ [])
  suffix_deref : {m : Mode} {b : ℕ} {t : Token} → Rule (suffix m b (deref t.at)) (tok kind.Caret t ∷ [])
  suffix_index : {m : Mode} {b : ℕ} {t c : Token} {i : Expr} →
      Rule (suffix m b (index t.at i)) (tok kind.OpenBracket t ∷ expression Free b i ∷ tok kind.CloseBracket c ∷ [])
  suffix_cut : {m : Mode} {b : ℕ} {t d c : Token} {low high : MaybeExpr} →
      Rule (suffix m b (cut t.at low high)) (tok kind.OpenBracket t ∷ maybe_expr Free b low ∷ tok kind.Colon d ∷ maybe_expr Free b high ∷ tok kind.CloseBracket c ∷ [])
  suffix_call : {m : Mode} {b : ℕ} {o c : Token} {xs : Args} →
      Rule (suffix m b (call xs)) (tok kind.OpenParen o ∷ args b xs ∷ tok kind.CloseParen c ∷ [])
  suffix_or_return : {m : Mode} {b : ℕ} {t : Token} → Rule (suffix m b or_return) (tok kind.OrReturn t ∷ [])
  suffix_literal : {m : Mode} {b : ℕ} {xs : Args} → Rule (suffix m b (literal xs)) (braces (later m) b xs ∷ [])
  braces_ : {b : ℕ} {o c : Token} {xs : Args} → Rule (braces Free b xs) (tok kind.OpenBrace o ∷ args b xs ∷ tok kind.CloseBrace c ∷ [])
  -- operands
  operand_name : {m : Mode} {b : ℕ} {t : Token} → Rule (operand m (suc b) (expr t.at t.at (tree.name t))) (tok kind.Name t ∷ [])
  operand_int : {m : Mode} {b : ℕ} {t : Token} → Rule (operand m (suc b) (expr t.at t.at (tree.int t))) (tok kind.Int t ∷ [])
  operand_rune : {m : Mode} {b : ℕ} {t : Token} → Rule (operand m (suc b) (expr t.at t.at (tree.rune t))) (tok kind.Rune t ∷ [])
  operand_text : {m : Mode} {b : ℕ} {t : Token} → Rule (operand m (suc b) (expr t.at t.at (tree.text t))) (tok kind.Text t ∷ [])
  operand_context : {m : Mode} {b : ℕ} {t : Token} → Rule (operand m (suc b) (expr t.at t.at tree.context)) (tok kind.Context t ∷ [])
  operand_location : {m : Mode} {b : ℕ} {t : Token} → Rule (operand m (suc b) (expr t.at t.at tree.location)) (said kind.Directive word.CallerLocation t ∷ [])
  operand_dot : {m : Mode} {b : ℕ} {t n : Token} → Rule (operand m (suc b) (expr t.at t.at (tree.dot n))) (tok kind.Dot t ∷ tok kind.Name n ∷ [])
  operand_literal : {b : ℕ} {t c : Token} {xs : Args} →
      Rule (operand Free (suc b) (expr t.at t.at (tree.literal tree.no_expr xs))) (tok kind.OpenBrace t ∷ args b xs ∷ tok kind.CloseBrace c ∷ [])
  operand_group : {m : Mode} {b : ℕ} {t c : Token} {e : Expr} →
      Rule (operand m (suc b) (opened t.at e)) (tok kind.OpenParen t ∷ expression Free b e ∷ tok kind.CloseParen c ∷ [])
  operand_type : {m : Mode} {b : ℕ} {at : Place} {k : tree.TypeKind} →
      Rule (operand m (suc b) (expr at at (tree.type_tree (type at k)))) (constructed (operand_use m) b (type at k) ∷ [])
  operand_proc_type : {m : Mode} {b : ℕ} {at : Place} {n : Option Token} {ps : Params} {r : Results} →
      Rule (operand m (suc (suc b)) (expr at at (tree.type_tree (type at (tree.proc (signature at n ps r)))))) (sig Operand b (signature at n ps r) ∷ not_next kind.OpenBrace ∷ [])
  operand_proc : {m : Mode} {b : ℕ} {at : Place} {n : Option Token} {ps : Params} {r : Results} {ss : Stmts} →
      Rule (operand m (suc b) (expr at at (tree.proc_lit (signature at n ps r) ss))) (sig Operand b (signature at n ps r) ∷ block_ (later m) b ss ∷ [])
  -- lists of expressions and arguments
  no_expr : {m : Mode} {b : ℕ} → Rule (maybe_expr m b tree.no_expr) []
  an_expr : {m : Mode} {b : ℕ} {e : Expr} → Rule (maybe_expr m b (tree.some_expr e)) (expression m b e ∷ [])
  exprs_ : {m : Mode} {b : ℕ} {e : Expr} {es : Exprs} → Rule (exprs m b (tree.more_exprs e es)) (expression m b e ∷ more_exprs (later m) b es ∷ [])
  exprs_end : {m : Mode} {b : ℕ} → Rule (more_exprs m b tree.no_exprs) []
  exprs_more : {m : Mode} {b : ℕ} {t : Token} {e : Expr} {es : Exprs} →
      Rule (more_exprs m b (tree.more_exprs e es)) (tok kind.Comma t ∷ expression m b e ∷ more_exprs m b es ∷ [])
  args_none : {b : ℕ} → Rule (args b tree.no_args) []
  args_some : {b : ℕ} {n : Option Token} {e : Expr} {xs : Args} → Rule (args b (tree.more_args n e xs)) (arg b n e ∷ more_args b xs ∷ [])
  args_end : {b : ℕ} → Rule (more_args b tree.no_args) []
  args_comma : {b : ℕ} {t : Token} → Rule (more_args b tree.no_args) (tok kind.Comma t ∷ [])
  args_more : {b : ℕ} {t : Token} {n : Option Token} {e : Expr} {xs : Args} →
      Rule (more_args b (tree.more_args n e xs)) (tok kind.Comma t ∷ arg b n e ∷ more_args b xs ∷ [])
  arg_value : {b : ℕ} {e : Expr} → Rule (arg b None e) (expression Free b e ∷ [])
  arg_named : {b : ℕ} {t a : Token} {e : Expr} → Rule (arg b (Some t) e) (tok kind.Name t ∷ tok kind.Assign a ∷ expression Free b e ∷ [])
  -- types
  type_named : {u : Use} {b : ℕ} {t : Token} → Rule (type_ u (suc b) (type t.at (tree.named t))) (tok kind.Name t ∷ behind_name u ∷ [])
  type_member : {u : Use} {b : ℕ} {t d n : Token} →
      Rule (type_ u (suc b) (type t.at (tree.member t n))) (tok kind.Name t ∷ tok kind.Dot d ∷ tok kind.Name n ∷ [])
  type_group : {u : Use} {b : ℕ} {o c : Token} {ty : Type_} →
      Rule (type_ u (suc b) ty) (tok kind.OpenParen o ∷ type_ (inside u) b ty ∷ tok kind.CloseParen c ∷ [])
  type_proc : {u : Use} {b : ℕ} {at : Place} {n : Option Token} {ps : Params} {r : Results} →
      Rule (type_ u (suc b) (type at (tree.proc (signature at n ps r)))) (sig u b (signature at n ps r) ∷ [])
  type_constructed : {u : Use} {b : ℕ} {ty : Type_} → Rule (type_ u b ty) (constructed u b ty ∷ [])
  type_pointer : {u : Use} {b : ℕ} {t : Token} {ty : Type_} →
      Rule (constructed u (suc b) (type t.at (tree.pointer ty))) (tok kind.Caret t ∷ type_ (at_end u) b ty ∷ [])
  type_distinct : {u : Use} {b : ℕ} {t : Token} {ty : Type_} →
      Rule (constructed u (suc b) (type t.at (tree.distinct ty))) (tok kind.Distinct t ∷ type_ (at_end u) b ty ∷ [])
  type_dollar : {b : ℕ} {t n : Token} → Rule (constructed Parameter (suc b) (type t.at (tree.dollar n))) (tok kind.Dollar t ∷ tok kind.Name n ∷ [])
  type_word_proc : {u : Use} {b : ℕ} {t : Token} {s : Signature} →
      Rule (constructed u (suc b) (type t.at (tree.proc s))) (said kind.Directive word.Type t ∷ sig u b s ∷ [])
  type_array : {u : Use} {b : ℕ} {t c : Token} {n : Length} {ty : Type_} →
      Rule (constructed u (suc b) (type t.at (tree.array n ty))) (tok kind.OpenBracket t ∷ length u b n ∷ tok kind.CloseBracket c ∷ type_ (at_end u) b ty ∷ [])
  type_counted : {u : Use} {b : ℕ} {t q c : Token} {ty : Type_} →
      Rule (constructed u (suc b) (type t.at (tree.array tree.counted ty)))
      (tok kind.OpenBracket t ∷ tok kind.Question q ∷ tok kind.CloseBracket c ∷ type_ (inside u) b ty ∷ behind_counted u ∷ [])
  type_soa : {u : Use} {b : ℕ} {t o c : Token} {n : Length} {ty : Type_} →
      Rule (constructed u (suc b) (type t.at (tree.soa n ty)))
      (said kind.Directive word.Soa t ∷ tok kind.OpenBracket o ∷ length u b n ∷ tok kind.CloseBracket c ∷ type_ (at_end u) b ty ∷ [])
  type_soa_counted : {u : Use} {b : ℕ} {t o q c : Token} {ty : Type_} →
      Rule (constructed u (suc b) (type t.at (tree.soa tree.counted ty)))
      (said kind.Directive word.Soa t ∷ tok kind.OpenBracket o ∷ tok kind.Question q ∷ tok kind.CloseBracket c ∷ type_ (inside u) b ty ∷ behind_counted u ∷ [])
  type_struct : {u : Use} {b : ℕ} {t o c : Token} {fs : Fields} →
      Rule (constructed u (suc b) (type t.at (tree.struct fs))) (tok kind.Struct t ∷ tok kind.OpenBrace o ∷ fields (inside u) b fs ∷ tok kind.CloseBrace c ∷ [])
  type_union : {u : Use} {b : ℕ} {t o c : Token} {ts : Types} →
      Rule (constructed u (suc b) (type t.at (tree.union ts))) (tok kind.Union t ∷ tok kind.OpenBrace o ∷ types (inside u) b ts ∷ tok kind.CloseBrace c ∷ [])
  type_enum : {u : Use} {b : ℕ} {t o c : Token} {ty : MaybeType} {es : Enumerators} →
      Rule (constructed u (suc b) (type t.at (tree.enum ty es)))
      (tok kind.Enum t ∷ maybe_type (inside u) b ty ∷ tok kind.OpenBrace o ∷ enumerators b es ∷ tok kind.CloseBrace c ∷ [])
  no_type : {u : Use} {b : ℕ} → Rule (maybe_type u b tree.no_type) []
  a_type : {u : Use} {b : ℕ} {ty : Type_} → Rule (maybe_type u b (tree.some_type ty)) (type_ u b ty ∷ [])
  length_slice : {u : Use} {b : ℕ} → Rule (length u b tree.slice) []
  length_dynamic : {u : Use} {b : ℕ} {t : Token} → Rule (length u b tree.dynamic) (tok kind.Dynamic t ∷ [])
  length_dollar : {b : ℕ} {t n : Token} → Rule (length Parameter b (tree.parametric n)) (tok kind.Dollar t ∷ tok kind.Name n ∷ [])
  length_fixed : {u : Use} {b : ℕ} {e : Expr} → Rule (length u b (tree.fixed e)) (expression Free b e ∷ [])
  -- the parts of structs, unions and enums
  fields_none : {u : Use} {b : ℕ} → Rule (fields u b tree.no_fields) []
  fields_some : {u : Use} {b : ℕ} {ns : List Token} {c : Token} {ty : Type_} {fs : Fields} →
      Rule (fields u b (tree.more_fields ns ty fs)) (names ns ∷ tok kind.Colon c ∷ type_ u b ty ∷ more_fields u b fs ∷ [])
  fields_end : {u : Use} {b : ℕ} → Rule (more_fields u b tree.no_fields) []
  fields_comma : {u : Use} {b : ℕ} {t : Token} → Rule (more_fields u b tree.no_fields) (tok kind.Comma t ∷ [])
  fields_more : {u : Use} {b : ℕ} {t : Token} {ns : List Token} {c : Token} {ty : Type_} {fs : Fields} →
      Rule (more_fields u b (tree.more_fields ns ty fs)) (tok kind.Comma t ∷ names ns ∷ tok kind.Colon c ∷ type_ u b ty ∷ more_fields u b fs ∷ [])
  types_none : {u : Use} {b : ℕ} → Rule (types u b tree.no_types) []
  types_some : {u : Use} {b : ℕ} {ty : Type_} {ts : Types} → Rule (types u b (tree.more_types ty ts)) (type_ u b ty ∷ more_types u b ts ∷ [])
  types_end : {u : Use} {b : ℕ} → Rule (more_types u b tree.no_types) []
  types_comma : {u : Use} {b : ℕ} {t : Token} → Rule (more_types u b tree.no_types) (tok kind.Comma t ∷ [])
  types_more : {u : Use} {b : ℕ} {t : Token} {ty : Type_} {ts : Types} →
      Rule (more_types u b (tree.more_types ty ts)) (tok kind.Comma t ∷ type_ u b ty ∷ more_types u b ts ∷ [])
  enumerators_none : {b : ℕ} → Rule (enumerators b tree.no_enumerators) []
  enumerators_some : {b : ℕ} {n : Token} {v : MaybeExpr} {es : Enumerators} →
      Rule (enumerators b (tree.more_enumerators n v es)) (tok kind.Name n ∷ given b v ∷ more_enumerators b es ∷ [])
  enumerators_end : {b : ℕ} → Rule (more_enumerators b tree.no_enumerators) []
  enumerators_comma : {b : ℕ} {t : Token} → Rule (more_enumerators b tree.no_enumerators) (tok kind.Comma t ∷ [])
  enumerators_more : {b : ℕ} {t n : Token} {v : MaybeExpr} {es : Enumerators} →
      Rule (more_enumerators b (tree.more_enumerators n v es)) (tok kind.Comma t ∷ tok kind.Name n ∷ given b v ∷ more_enumerators b es ∷ [])
  not_given : {b : ℕ} → Rule (given b tree.no_expr) []
  is_given : {b : ℕ} {t : Token} {e : Expr} → Rule (given b (tree.some_expr e)) (tok kind.Assign t ∷ expression Free b e ∷ [])
  -- the types of procedures
  sig_ : {u : Use} {b : ℕ} {t o c : Token} {n : Option Token} {ps : Params} {r : Results} →
      Rule (sig u b (signature t.at n ps r))
      (tok kind.Proc t ∷ maybe_token kind.Text n ∷ tok kind.OpenParen o ∷ params Parameter b ps ∷ tok kind.CloseParen c ∷ results u b r ∷ [])
  results_none : {u : Use} {b : ℕ} → Rule (results u b tree.no_results) (not_next kind.Arrow ∷ [])
  results_one : {u : Use} {b : ℕ} {t : Token} {ty : Type_} →
      Rule (results u b (tree.one_result ty)) (tok kind.Arrow t ∷ not_next kind.OpenParen ∷ type_ (at_end u) b ty ∷ [])
  results_list : {u : Use} {b : ℕ} {t o c : Token} {ps : Params} →
      Rule (results u b (tree.list_results ps)) (tok kind.Arrow t ∷ tok kind.OpenParen o ∷ not_next kind.CloseParen ∷ params (inside u) b ps ∷ tok kind.CloseParen c ∷ [])
  -- all parameters have names, or none has
  params_none : {u : Use} {b : ℕ} → Rule (params u b tree.no_params) []
  params_named : {u : Use} {b : ℕ} {p : Param} {ps : Params} → Rule (params u b (tree.more_params p ps)) (named_param u b p ∷ more_named u b ps ∷ [])
  params_bare : {u : Use} {b : ℕ} {p : Param} {ps : Params} → Rule (params u b (tree.more_params p ps)) (bare_param u b p ∷ more_bare u b ps ∷ [])
  named_end : {u : Use} {b : ℕ} → Rule (more_named u b tree.no_params) []
  named_comma : {u : Use} {b : ℕ} {t : Token} → Rule (more_named u b tree.no_params) (tok kind.Comma t ∷ [])
  named_more : {u : Use} {b : ℕ} {t : Token} {p : Param} {ps : Params} →
      Rule (more_named u b (tree.more_params p ps)) (tok kind.Comma t ∷ named_param u b p ∷ more_named u b ps ∷ [])
  bare_end : {u : Use} {b : ℕ} → Rule (more_bare u b tree.no_params) []
  bare_comma : {u : Use} {b : ℕ} {t : Token} → Rule (more_bare u b tree.no_params) (tok kind.Comma t ∷ [])
  bare_more : {u : Use} {b : ℕ} {t : Token} {p : Param} {ps : Params} →
      Rule (more_bare u b (tree.more_params p ps)) (tok kind.Comma t ∷ bare_param u b p ∷ more_bare u b ps ∷ [])
  bare_type : {u : Use} {b : ℕ} {ty : Type_} → Rule (bare_param u b (param false [] (tree.of_type ty) tree.no_expr)) (type_ u b ty ∷ [])
  named_typed : {u : Use} {b : ℕ} {ns : List Token} {c : Token} {ty : Type_} {d : MaybeExpr} →
      Rule (named_param u b (param false ns (tree.of_type ty) d)) (names ns ∷ tok kind.Colon c ∷ type_ u b ty ∷ given b d ∷ [])
  named_typeid : {u : Use} {b : ℕ} {ns : List Token} {c t : Token} {d : MaybeExpr} →
      Rule (named_param u b (param false ns tree.typeid d)) (names ns ∷ tok kind.Colon c ∷ tok kind.Typeid t ∷ given b d ∷ [])
  named_inferred : {u : Use} {b : ℕ} {ns : List Token} {c t : Token} {e : Expr} →
      Rule (named_param u b (param false ns tree.inferred (tree.some_expr e))) (names ns ∷ tok kind.Colon c ∷ tok kind.Assign t ∷ expression Free b e ∷ [])
  dollar_typeid : {b : ℕ} {ns : List Token} {o c t : Token} {d : MaybeExpr} →
      Rule (named_param Parameter b (param true ns tree.typeid d)) (tok kind.Dollar o ∷ names ns ∷ tok kind.Colon c ∷ tok kind.Typeid t ∷ given b d ∷ [])
  dollar_int : {b : ℕ} {ns : List Token} {o c t : Token} {d : MaybeExpr} →
      Rule (named_param Parameter (suc b) (param true ns (tree.of_type (type t.at (tree.named t))) d))
      (tok kind.Dollar o ∷ names ns ∷ tok kind.Colon c ∷ said kind.Name word.Int t ∷ given (suc b) d ∷ [])
  -- statements
  stmts_none : {b : ℕ} → Rule (stmts b tree.no_stmts) []
  stmts_skip : {b : ℕ} {t : Token} {ss : Stmts} → Rule (stmts b ss) (tok kind.Semicolon t ∷ stmts b ss ∷ [])
  stmts_last : {b : ℕ} {s : Stmt} → Rule (stmts b (tree.more_stmts s tree.no_stmts)) (statement b s ∷ [])
  stmts_more : {b : ℕ} {t : Token} {s : Stmt} {ss : Stmts} →
      Rule (stmts b (tree.more_stmts s ss)) (statement b s ∷ tok kind.Semicolon t ∷ stmts b ss ∷ [])
  block_braces : {b : ℕ} {o c : Token} {ss : Stmts} → Rule (block_ Free b ss) (tok kind.OpenBrace o ∷ stmts b ss ∷ tok kind.CloseBrace c ∷ [])
  body_braces : {b : ℕ} {o c : Token} {ss : Stmts} → Rule (body b ss) (tok kind.OpenBrace o ∷ stmts b ss ∷ tok kind.CloseBrace c ∷ [])
  body_do : {b : ℕ} {t : Token} {s : Stmt} → Rule (body b (tree.more_stmts s tree.no_stmts)) (tok kind.Do t ∷ statement b s ∷ [])
  statement_declare : {b : ℕ} {at : Place} {k : tree.DeclKind} →
      Rule (statement (suc b) (stmt at (tree.declare (decl at k)))) (declaration Free b (decl at k) ∷ [])
  statement_simple : {b : ℕ} {s : Stmt} → Rule (statement b s) (simple Start b s ∷ [])
  statement_if : {b : ℕ} {s : Stmt} → Rule (statement b s) (if_statement b s ∷ [])
  statement_bare : {b : ℕ} {at : Place} {s : Labelled} → Rule (statement (suc b) (stmt at (labelled None s))) (labelled_ b at s ∷ [])
  statement_labelled : {b : ℕ} {t c : Token} {at : Place} {s : Labelled} →
      Rule (statement (suc b) (stmt t.at (labelled (Some t) s))) (tok kind.Name t ∷ tok kind.Colon c ∷ labelled_ b at s ∷ [])
  statement_defer : {b : ℕ} {t : Token} {s : Stmt} → Rule (statement (suc b) (stmt t.at (tree.defer s))) (tok kind.Defer t ∷ statement b s ∷ [])
  statement_return : {b : ℕ} {t : Token} → Rule (statement (suc b) (stmt t.at (tree.return tree.no_exprs))) (tok kind.Return t ∷ [])
  statement_return_values : {b : ℕ} {t : Token} {es : Exprs} → Rule (statement (suc b) (stmt t.at (tree.return es))) (tok kind.Return t ∷ exprs Free b es ∷ [])
  statement_break : {b : ℕ} {t : Token} {l : Option Token} → Rule (statement (suc b) (stmt t.at (tree.break l))) (tok kind.Break t ∷ maybe_token kind.Name l ∷ [])
  statement_continue : {b : ℕ} {t : Token} {l : Option Token} →
      Rule (statement (suc b) (stmt t.at (tree.continue l))) (tok kind.Continue t ∷ maybe_token kind.Name l ∷ [])
  statement_fallthrough : {b : ℕ} {t : Token} → Rule (statement (suc b) (stmt t.at tree.fallthrough)) (tok kind.Fallthrough t ∷ [])
  simple_eval : {m : Mode} {b : ℕ} {e : Expr} {es : Exprs} →
      Rule (simple m (suc b) (stmt (first_of e) (tree.eval (tree.more_exprs e es)))) (exprs m b (tree.more_exprs e es) ∷ [])
  simple_assign : {m : Mode} {b : ℕ} {places values : Exprs} {k : TokenKind} {t : Token} {op : _} → assignment_of k ≡ Some op →
      Rule (simple m (suc b) (stmt t.at (tree.assign places op values))) (exprs m b places ∷ tok k t ∷ exprs (later m) b values ∷ [])
  no_simple : {b : ℕ} → Rule (maybe_simple b tree.no_stmt) []
  a_simple : {b : ℕ} {s : Stmt} → Rule (maybe_simple b (tree.some_stmt s)) (simple Header b s ∷ [])
  -- `if` and what stands in headers
  if_ : {b : ℕ} {t : Token} {h : HeaderTree} {e : Expr} {ss : Stmts} {other : Else} →
      Rule (if_statement (suc b) (stmt t.at (tree.if_ h e ss other))) (tok kind.If t ∷ header b h ∷ expression Header b e ∷ body b ss ∷ else_ b other ∷ [])
  else_none : {b : ℕ} → Rule (else_ b tree.no_else) (not_next kind.Else ∷ [])
  else_if : {b : ℕ} {t : Token} {s : Stmt} → Rule (else_ b (tree.else_if s)) (tok kind.Else t ∷ if_statement b s ∷ [])
  else_body : {b : ℕ} {t : Token} {ss : Stmts} → Rule (else_ b (tree.else_body ss)) (tok kind.Else t ∷ body b ss ∷ [])
  header_none : {b : ℕ} → Rule (header b tree.no_header) []
  header_decl : {b : ℕ} {t : Token} {d : Decl} → Rule (header b (tree.decl_header d)) (declaration Header b d ∷ tok kind.Semicolon t ∷ [])
  header_simple : {b : ℕ} {t : Token} {s : Stmt} → Rule (header b (tree.simple_header s)) (simple Header b s ∷ tok kind.Semicolon t ∷ [])
  steps_none : {b : ℕ} {t : Token} → Rule (steps b tree.no_header) (tok kind.Semicolon t ∷ [])
  steps_decl : {b : ℕ} {t : Token} {d : Decl} → Rule (steps b (tree.decl_header d)) (declaration Header b d ∷ tok kind.Semicolon t ∷ [])
  steps_simple : {b : ℕ} {t : Token} {s : Stmt} → Rule (steps b (tree.simple_header s)) (simple Header b s ∷ tok kind.Semicolon t ∷ [])
  -- blocks, loops and switches
  block_alone : {b : ℕ} {t c : Token} {ss : Stmts} → Rule (labelled_ b t.at (block ss)) (tok kind.OpenBrace t ∷ stmts b ss ∷ tok kind.CloseBrace c ∷ [])
  for_ever : {b : ℕ} {t : Token} {ss : Stmts} → Rule (labelled_ b t.at (loop tree.no_header tree.no_expr tree.no_stmt ss)) (tok kind.For t ∷ body b ss ∷ [])
  for_while : {b : ℕ} {t : Token} {e : Expr} {ss : Stmts} →
      Rule (labelled_ b t.at (loop tree.no_header (tree.some_expr e) tree.no_stmt ss)) (tok kind.For t ∷ expression Header b e ∷ body b ss ∷ [])
  for_steps : {b : ℕ} {t c : Token} {h : HeaderTree} {e : MaybeExpr} {s : MaybeStmt} {ss : Stmts} →
      Rule (labelled_ b t.at (loop h e s ss))
      (tok kind.For t ∷ steps b h ∷ maybe_expr Header b e ∷ tok kind.Semicolon c ∷ maybe_simple b s ∷ body b ss ∷ [])
  for_range : {b : ℕ} {t i : Token} {vs : RangeNames} {s : Span} {ss : Stmts} →
      Rule (labelled_ b t.at (range vs s ss)) (tok kind.For t ∷ variables vs ∷ tok kind.In i ∷ span_ Header b s ∷ body b ss ∷ [])
  variables_one : {v : Token} → Rule (variables (record { by_reference = false; first = v; second = None })) (tok kind.Name v ∷ [])
  variables_two : {v c w : Token} →
      Rule (variables (record { by_reference = false; first = v; second = Some w })) (tok kind.Name v ∷ tok kind.Comma c ∷ tok kind.Name w ∷ [])
  references_one : {a v : Token} →
      Rule (variables (record { by_reference = true; first = v; second = None })) (tok kind.Ampersand a ∷ tok kind.Name v ∷ [])
  references_two : {a v c w : Token} →
      Rule (variables (record { by_reference = true; first = v; second = Some w })) (tok kind.Ampersand a ∷ tok kind.Name v ∷ tok kind.Comma c ∷ tok kind.Name w ∷ [])
  span_from : {m : Mode} {b : ℕ} {e : Expr} {s : SpanEnd} → Rule (span_ m b (span e s)) (expression m b e ∷ span_end m b s ∷ [])
  span_alone : {m : Mode} {b : ℕ} → Rule (span_end m b tree.alone) []
  span_through : {m : Mode} {b : ℕ} {t : Token} {e : Expr} → Rule (span_end m b (tree.through e)) (tok kind.DotDotEqual t ∷ expression m b e ∷ [])
  span_below : {m : Mode} {b : ℕ} {t : Token} {e : Expr} → Rule (span_end m b (tree.below e)) (tok kind.DotDotLess t ∷ expression m b e ∷ [])
  switch_plain : {t : Token} → Rule (switch_word t.at (record { at = t.at; partial = false })) (tok kind.Switch t ∷ [])
  switch_partial : {p t : Token} →
      Rule (switch_word p.at (record { at = t.at; partial = true })) (said kind.Directive word.Partial p ∷ tok kind.Switch t ∷ [])
  switch_value : {b : ℕ} {at : Place} {w : SwitchWord} {h : HeaderTree} {e : MaybeExpr} {o c : Token} {cs : Cases} →
      Rule (labelled_ b at (switch w h e cs)) (switch_word at w ∷ header b h ∷ maybe_expr Header b e ∷ tok kind.OpenBrace o ∷ cases b cs ∷ tok kind.CloseBrace c ∷ [])
  switch_type : {b : ℕ} {at : Place} {w : SwitchWord} {n i : Token} {e : Expr} {o c : Token} {cs : Cases} →
      Rule (labelled_ b at (type_switch w n e cs))
      (switch_word at w ∷ tok kind.Name n ∷ tok kind.In i ∷ expression Header b e ∷ tok kind.OpenBrace o ∷ cases b cs ∷ tok kind.CloseBrace c ∷ [])
  cases_none : {b : ℕ} → Rule (cases b tree.no_cases) []
  cases_more : {b : ℕ} {t c : Token} {ss : Spans} {body' : Stmts} {cs : Cases} →
      Rule (cases b (tree.more_cases t.at ss body' cs)) (tok kind.Case t ∷ items b ss ∷ tok kind.Colon c ∷ stmts b body' ∷ cases b cs ∷ [])
  items_none : {b : ℕ} → Rule (items b tree.no_spans) []
  items_some : {b : ℕ} {s : Span} {ss : Spans} → Rule (items b (tree.more_spans s ss)) (span_ Free b s ∷ more_items b ss ∷ [])
  items_end : {b : ℕ} → Rule (more_items b tree.no_spans) []
  items_more : {b : ℕ} {t : Token} {s : Span} {ss : Spans} → Rule (more_items b (tree.more_spans s ss)) (tok kind.Comma t ∷ span_ Free b s ∷ more_items b ss ∷ [])
  -- declarations and files
  declare_constant : {m : Mode} {b : ℕ} {n c d : Token} {ns : List Token} {ty : MaybeType} {es : Exprs} →
      Rule (declaration m (suc b) (decl n.at (tree.constant (n ∷ ns) ty es)))
      (names (n ∷ ns) ∷ tok kind.Colon c ∷ maybe_type Plain b ty ∷ tok kind.Colon d ∷ exprs m b es ∷ [])
  declare_inferred : {m : Mode} {b : ℕ} {n c a : Token} {ns : List Token} {es : Exprs} →
      Rule (declaration m (suc b) (decl n.at (tree.variable (n ∷ ns) tree.no_type (tree.values es))))
      (names (n ∷ ns) ∷ tok kind.Colon c ∷ tok kind.Assign a ∷ exprs m b es ∷ [])
  declare_typed : {m : Mode} {b : ℕ} {n c : Token} {ns : List Token} {ty : Type_} {i : Initial} →
      Rule (declaration m (suc b) (decl n.at (tree.variable (n ∷ ns) (tree.some_type ty) i)))
      (names (n ∷ ns) ∷ tok kind.Colon c ∷ type_ Plain b ty ∷ initial m b i ∷ [])
  initial_zeros : {m : Mode} {b : ℕ} → Rule (initial m b tree.zeros) []
  initial_dashes : {m : Mode} {b : ℕ} {a t : Token} → Rule (initial m b tree.dashes) (tok kind.Assign a ∷ tok kind.Dashes t ∷ [])
  initial_values : {m : Mode} {b : ℕ} {a : Token} {es : Exprs} → Rule (initial m b (tree.values es)) (tok kind.Assign a ∷ exprs m b es ∷ [])
  import_path : {b : ℕ} {t p : Token} {n : Option Token} →
      Rule (import_ (suc b) (decl t.at (tree.import n p))) (tok kind.Import t ∷ maybe_token kind.Name n ∷ tok kind.Text p ∷ [])
  decls_none : {b : ℕ} → Rule (decls b tree.no_decls) []
  decls_import : {b : ℕ} {t : Token} {d : Decl} {ds : Decls} → Rule (decls b (tree.more_decls d ds)) (import_ b d ∷ tok kind.Semicolon t ∷ decls b ds ∷ [])
  decls_more : {b : ℕ} {t : Token} {d : Decl} {ds : Decls} → Rule (decls b (tree.more_decls d ds)) (declaration Free b d ∷ tok kind.Semicolon t ∷ decls b ds ∷ [])
  file_ : {b : ℕ} {p n s : Token} {ds : Decls} → Rule (file b n ds) (tok kind.Package p ∷ tok kind.Name n ∷ tok kind.Semicolon s ∷ decls b ds ∷ [])
