-- The program of a text of the small grammar. Each node stands at its first token, one of two operands
-- and an assignment at their operator; lines and columns count from 1.
use Rattle.std.specs.Prelude.{ℕ, zero, suc, ◌+◌, ◌-◌, Bool, int_lt, ℤ, pos, List, [], ◌∷◌, ◌++◌, length, codes, Option, Some, None}
use Rattle.std.specs.Ordering.{int_eq}
use Rattle.odc_text.specs.declared.place.Place.{Place}
use Rattle.odc_typed.specs.declared.tree.BinaryOp.{BinaryOp}
use Rattle.odc_typed.specs.declared.tree.BinaryOp.TheVariants.{Add, Subtract, Multiply, Divide, Remainder, Equal, Less as Under}
use Rattle.odc_typed.specs.declared.tree.Constant.{Constant}
use Rattle.odc_typed.specs.declared.tree.Constant.TheVariants.{Int, Bool as Truth}
use Rattle.odc_typed.specs.declared.tree.Builtin.TheVariants.{Println}
use Rattle.odc_typed.specs.declared.tree.Local.{Local}
use Rattle.odc_typed.specs.Source.{exact}
use Rattle.odc_typed.specs.Tree.{Expr, const, local, binary, builtin, call as calls, Exprs, none, more, Stmt, Stmts, finish, follow, eval, choose, repeat, answer, Proc, Whole}
use Rattle.odc_typed.specs.Tree.{declare as declares, assign as assigns}
use Rattle.odc_small.specs.Forms.{Form}
use Rattle.odc_small.specs.declared.grammar.Sign.{Sign}
use Rattle.odc_small.specs.declared.grammar.Sign.TheVariants.{Plus, Minus}
use Rattle.odc_small.specs.declared.grammar.Scale.{Scale}
use Rattle.odc_small.specs.declared.grammar.Scale.TheVariants.{Times, Over, Rest}
use Rattle.odc_small.specs.declared.grammar.Relation.{Relation}
use Rattle.odc_small.specs.declared.grammar.Relation.TheVariants.{Less, Same}
use Rattle.odc_small.specs.declared.grammar.Keyword.{Keyword}
use Rattle.odc_small.specs.declared.grammar.Keyword.TheVariants.{If, For}
use Rattle.odc_small.specs.Grammar.{Factor, Mul, Term, Sum, Atom, name, number, call, ArgumentAt, AtomAt, SumAt, Value, Line, declare, assign, print, nest, BodyAt, LineAt, Func, Tree, factor_spelling, mul_spelling, term_spelling, arguments, atoms, values, keyword_spelling, relation_spelling, list_spelling, parameter_spelling}
use Rattle.odc_small.specs.Names.{Callable, Names, variable_of, or_zero, procedure_of, sum_of, body_variables, variables_at, names_behind, names_after, parameter_names, callable_in}

-- a place of the only file
abbrev pub at : ℕ → ℕ → Place
at line column = record { file = record { number = 0 }; line = line; column = column }

-- ---- sums on a line, by the column of their first token, over atoms that have an expression

-- a product so far, and its further factors from a column on: each is behind a sign and two spaces
abbrev pub scaled_by : Scale → BinaryOp
scaled_by Times = Multiply
scaled_by Over = Divide
scaled_by Rest = Remainder

abbrev pub mul_from : {S : Type 0} → Form (Atom S) → (ℕ → Atom S → Expr) → (line column : ℕ) → Expr → List (Factor (Atom S)) → Expr
mul_from atoms expr line column left [] = left
mul_from atoms expr line column left (f ∷ rest) =
    mul_from atoms expr line (column + length (factor_spelling atoms f))
    (binary (at line (column + 1)) (scaled_by f.scale) left (expr (column + 3) f.atom)) rest

-- products are nested to the left
abbrev pub mul_expr : {S : Type 0} → Form (Atom S) → (ℕ → Atom S → Expr) → (line column : ℕ) → Mul (Atom S) → Expr
mul_expr atoms expr line column m = mul_from atoms expr line (column + length (atoms.spelling m.first)) (expr column m.first) m.more

abbrev pub added_by : Sign → BinaryOp
added_by Plus = Add
added_by Minus = Subtract

-- the value of a constant
abbrev pub constant_value : Constant → Option ℤ
constant_value (Int value) = Some value
constant_value (Truth value) = None

abbrev pub constant_of : Expr → Option ℤ
constant_of (const place value) = constant_value value
constant_of (local place x) = None
constant_of (binary place op left right) = None
constant_of (calls place f arguments) = None
constant_of (builtin place which arguments) = None

abbrev pub folded : Place → BinaryOp → Expr → Expr → Option ℤ → Option ℤ → Expr
folded place op left right (Some y) (Some z) = const place (Int (exact op y z))
folded place op left right _ _ = binary place op left right

-- two operands; where both are constants, they are one
abbrev pub joined : Place → BinaryOp → Expr → Expr → Expr
joined place op left right = folded place op left right (constant_of left) (constant_of right)

-- a sum so far, and its further products from a column on
abbrev pub sum_from : {S : Type 0} → Form (Atom S) → (ℕ → Atom S → Expr) → (line column : ℕ) → Expr → List (Term (Atom S)) → Expr
sum_from atoms expr line column left [] = left
sum_from atoms expr line column left (t ∷ ts) =
    sum_from atoms expr line (column + length (term_spelling atoms t))
    (joined (at line (column + 1)) (added_by t.sign) left (mul_expr atoms expr line (column + 3) t.mul)) ts

-- sums are nested to the left
abbrev pub sum_expr : {S : Type 0} → Form (Atom S) → (ℕ → Atom S → Expr) → (line column : ℕ) → Sum (Atom S) → Expr
sum_expr atoms expr line column s =
    sum_from atoms expr line (column + length (mul_spelling atoms s.first)) (mul_expr atoms expr line column s.first) s.more

-- ---- atoms and lists of sums, where these procedures and names are

-- items from a column on, parted by a comma and a space
abbrev pub list_exprs : {T : Type 0} → Form T → (ℕ → T → Expr) → (column : ℕ) → List T → Exprs
list_exprs form expr column [] = none
list_exprs form expr column (t ∷ ts) = more (expr column t) (list_exprs form expr (column + length (form.spelling t) + 2) ts)

abbrev pub atom_expr : {S : Type 0} → Callable → Names → Form S → (ℕ → S → Expr) → (line column : ℕ) → Atom S → Expr
atom_expr callable names form expr line column (name c) = local (at line column) (or_zero (variable_of c names))
atom_expr callable names form expr line column (number n) = const (at line column) (Int (pos n))
atom_expr callable names form expr line column (call f items) =
    calls (at line column) (procedure_of f callable) (list_exprs form expr (column + 2) items)

abbrev pub argument_expr : Callable → Names → (line n column : ℕ) → ArgumentAt n → Expr
argument_expr callable names line zero column s = const (at line column) (Int (pos 0))
argument_expr callable names line (suc n) column s =
    sum_expr (atoms n) (atom_expr callable names (arguments n) (argument_expr callable names line n) line) line column s

abbrev pub atom_at : Callable → Names → (line n column : ℕ) → AtomAt n → Expr
atom_at callable names line n column a = atom_expr callable names (arguments n) (argument_expr callable names line n) line column a

abbrev pub sum_at : Callable → Names → (line n column : ℕ) → SumAt n → Expr
sum_at callable names line n column s = sum_expr (atoms n) (atom_at callable names line n) line column s

abbrev pub value_at : Callable → Names → (line column : ℕ) → Value → Expr
value_at callable names line column s = sum_at callable names line 4 column s

-- ---- conditions: a comparison stands at its sign

abbrev pub related_by : Relation → BinaryOp
related_by Less = Under
related_by Same = Equal

abbrev pub holds : Relation → ℤ → ℤ → Bool
holds Less y z = int_lt y z
holds Same y z = int_eq y z

-- where both sides are constants, they are one
abbrev pub compared_by : Place → Relation → Expr → Expr → Option ℤ → Option ℤ → Expr
compared_by place relation left right (Some y) (Some z) = const place (Truth (holds relation y z))
compared_by place relation left right _ _ = binary place (related_by relation) left right

abbrev pub compared : Place → Relation → Expr → Expr → Expr
compared place relation left right = compared_by place relation left right (constant_of left) (constant_of right)

-- a comparison from a column on
abbrev pub condition_at : Callable → Names → (line column : ℕ) → Value → Relation → Value → Expr
condition_at callable names line column left relation right =
    compared (at line (column + length (values.spelling left) + 1)) relation (value_at callable names line column left)
    (value_at callable names line (column + length (values.spelling left) + length (relation_spelling relation)) right)

-- ---- lines, behind so many tabs, where so many variables were declared before

-- how many lines of the text a line is
abbrev pub line_height : {B : Type 0} → (List B → ℕ) → Line B → ℕ
line_height inner (declare c value) = 1
line_height inner (assign c value) = 1
line_height inner (print first rest) = 1
line_height inner (nest keyword left relation right body) = inner body + 2

abbrev pub body_height : (k : ℕ) → BodyAt k → ℕ
body_height zero l = 0
body_height (suc k) l = line_height (sum_of (body_height k)) l

abbrev pub height_at : (k : ℕ) → LineAt k → ℕ
height_at k l = body_height (suc k) l

-- what a line with a body becomes
abbrev pub nested : Keyword → Place → Expr → Stmts → Stmt
nested If place condition body = choose place condition body
nested For place condition body = repeat place condition body

-- A declared value begins behind a name of one letter and four characters, an assigned one behind a name
-- and three, arguments behind twelve. The body begins on the next line.
abbrev pub line_stmt : {B : Type 0} → Callable → (ℕ → Names → ℕ → List B → Stmts) → (d next : ℕ) → Names → (line : ℕ) → Line B → Stmt
line_stmt callable inner d next names line (declare c value) = declares (at line (d + 1)) next (value_at callable names line (d + 6) value)
line_stmt callable inner d next names line (assign c value) =
    assigns (at line (d + 3)) (local (at line (d + 1)) (or_zero (variable_of c names))) (value_at callable names line (d + 5) value)
line_stmt callable inner d next names line (print first rest) =
    eval (at line (d + 1)) (builtin (at line (d + 1)) Println (list_exprs values (value_at callable names line) (d + 13) (first ∷ rest)))
line_stmt callable inner d next names line (nest keyword left relation right body) =
    nested keyword (at line (d + 1)) (condition_at callable names line (d + 1 + length (keyword_spelling keyword)) left relation right)
    (inner next names (line + 1) body)

-- lines one after another
abbrev pub all_stmts : {B : Type 0} → (Line B → ℕ) → (Line B → ℕ) → (ℕ → Names → ℕ → Line B → Stmt) → ℕ → Names → ℕ → List (Line B) → Stmts
all_stmts variables height stmt next names line [] = finish
all_stmts variables height stmt next names line (l ∷ ls) =
    follow (stmt next names line l) (all_stmts variables height stmt (next + variables l) (names_behind next names l) (line + height l) ls)

-- lines with room for so many depths inside stand at depth 8 less these
abbrev pub body_stmts : Callable → (k : ℕ) → ℕ → Names → ℕ → List (BodyAt k) → Stmts
body_stmts callable zero next names line ls = finish
body_stmts callable (suc k) next names line ls =
    all_stmts (body_variables (suc k)) (body_height (suc k)) (line_stmt callable (body_stmts callable k) (8 - k)) next names line ls

abbrev pub lines_stmts : Callable → (k : ℕ) → ℕ → Names → ℕ → List (LineAt k) → Stmts
lines_stmts callable k next names line ls = body_stmts callable (suc k) next names line ls

-- the variables that lines declare, in the order of the text, each at its name
abbrev pub line_locals : {B : Type 0} → (ℕ → List B → List Local) → (d line : ℕ) → Line B → List Local
line_locals inner d line (declare c value) = record { at = at line (d + 1) } ∷ []
line_locals inner d line (assign c value) = []
line_locals inner d line (print first rest) = []
line_locals inner d line (nest keyword left relation right body) = inner (line + 1) body

abbrev pub all_locals : {B : Type 0} → (B → ℕ) → (ℕ → B → List Local) → ℕ → List B → List Local
all_locals height locals line [] = []
all_locals height locals line (l ∷ ls) = locals line l ++ all_locals height locals (line + height l) ls

abbrev pub body_locals : (k : ℕ) → ℕ → BodyAt k → List Local
body_locals zero line l = []
body_locals (suc k) line l = line_locals (all_locals (body_height k) (body_locals k)) (8 - k) line l

abbrev pub locals_at : (k : ℕ) → ℕ → LineAt k → List Local
locals_at k line l = body_locals (suc k) line l

-- ---- procedures; a first line, the body's, the answer and the end

-- the parameters of a procedure, from a column on
abbrev pub parameters_at : (line column : ℕ) → List ℕ → List Local
parameters_at line column [] = []
parameters_at line column (c ∷ cs) = record { at = at line column } ∷ parameters_at line (column + 8) cs

abbrev pub lines_height : List (LineAt 7) → ℕ
lines_height = sum_of (height_at 7)

abbrev pub func_height : Func → ℕ
func_height f = lines_height f.body + 3

-- statements, and then a last one
abbrev pub ending_with : Stmts → Stmt → Stmts
ending_with finish last = follow last finish
ending_with (follow s ss) last = follow s (ending_with ss last)

abbrev pub names_at_end : Func → Names
names_at_end f = names_after (variables_at 7) (length f.parameters + 1) (parameter_names 0 f.parameters) f.body

-- the result stands at its type
abbrev pub func_proc : Callable → ℕ → Func → Proc
func_proc callable line f = record {
  name = codes "main." ++ f.name ∷ [];
  at = at line 6;
  parameters = parameters_at line 11 f.parameters;
  results = record { at = at line (16 + length (list_spelling parameter_spelling f.parameters)) } ∷ [];
  locals = all_locals (height_at 7) (locals_at 7) (line + 1) f.body;
  body = ending_with (lines_stmts callable 7 (length f.parameters + 1) (parameter_names 0 f.parameters) (line + 1) f.body)
      (answer (at (line + 1 + lines_height f.body) 2) (value_at callable (names_at_end f) (line + 1 + lines_height f.body) 9 f.answer));
}

abbrev pub func_procs : Callable → ℕ → List Func → List Proc
func_procs callable line [] = []
func_procs callable line (f ∷ fs) = func_proc callable line f ∷ func_procs callable (line + func_height f) fs

abbrev pub main_proc : Callable → ℕ → List (LineAt 7) → Proc
main_proc callable line ls = record {
  name = codes "main.main";
  at = at line 9;
  parameters = [];
  results = [];
  locals = all_locals (height_at 7) (locals_at 7) (line + 1) ls;
  body = lines_stmts callable 7 0 [] (line + 1) ls;
}

-- the procedures in the order of the text, `main` last
abbrev pub typed : Tree → Whole
typed tree = record {
  procedures = func_procs (callable_in tree) 3 tree.funcs ++ main_proc (callable_in tree) (3 + sum_of func_height tree.funcs) tree.main ∷ [];
  main = length tree.funcs;
}
