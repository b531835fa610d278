-- The nodes of the program of a text stand in its only file, and its names are short.
use Rattle.std.proofs.Common.{◌≡◌, ℕ, zero, suc, ◌+◌, ◌-◌, ◌<◌, ◌^◌, ℤ, List, [], ◌∷◌, ◌++◌, length, lit<, lit≤, arith, subst, sym}
use Rattle.std.specs.Prelude.{Option, Some, None, All}
use Rattle.std.proofs.lemmas.List.Elements.{All-nil, All-cons}
use Rattle.odc_text.specs.declared.place.Place.{Place}
use Rattle.odc_typed.specs.declared.tree.BinaryOp.{BinaryOp}
use Rattle.odc_typed.specs.Tree.{Expr, Exprs, Stmt, Stmts, finish, follow, answer, Proc, Whole}
use Rattle.odc_small.specs.declared.grammar.Keyword.{Keyword}
use Rattle.odc_small.specs.declared.grammar.Keyword.TheVariants.{If, For}
use Rattle.odc_small.specs.declared.grammar.Relation.{Relation}
use Rattle.odc_small.specs.Forms.{Form}
use Rattle.odc_small.specs.Grammar.{Factor, Mul, Term, Sum, Atom, name, number, call, ArgumentAt, SumAt, Value, Line, declare, assign, print, nest, BodyAt, LineAt, Func, Tree, factor_spelling, mul_spelling, term_spelling, arguments, atoms, values, keyword_spelling, relation_spelling}
use Rattle.odc_small.specs.Names.{Callable, Names, callable_in, names_behind, body_variables, parameter_names, sum_of}
use Rattle.odc_small.specs.Typing.{at, scaled_by, added_by, mul_from, mul_expr, constant_of, folded, joined, sum_from, sum_expr, list_exprs, atom_expr, argument_expr, atom_at, value_at, related_by, compared_by, compared, condition_at, nested, line_stmt, all_stmts, body_stmts, body_height, lines_stmts, ending_with, names_at_end, func_proc, func_procs, main_proc, func_height, lines_height, typed}
use Rattle.rv_sites.specs.Sections.{IsShortText}
use Rattle.odc_build.specs.Files.{IsInFiles, ExprIn, ExprsIn, StmtIn, StmtsIn, ProcIn, AllIn, AreShortNames, CanList}
use Rattle.odc_tool.specs.Verdict.{main_name}
use Rattle.odc_tool.specs.Headline.{paths_of}
use Rattle.odc_tool.specs.Gather.{IsTypedOf}

here : (line column : ℕ) → IsInFiles 1 (at line column)
here line column = lit< tt

-- ---- sums

module _ {S : Type 0} (form : Form (Atom S)) (expr : ℕ → Atom S → Expr) (line : ℕ) (each : (column : ℕ) (a : Atom S) → ExprIn 1 (expr column a)) where
  mul_from_in : (column : ℕ) (left : Expr) (fs : List (Factor (Atom S))) → ExprIn 1 left → ExprIn 1 (mul_from form expr line column left fs)
  mul_from_in column left [] h = h
  mul_from_in column left (f ∷ fs) h = mul_from_in (column + length (factor_spelling form f)) _ fs (here line (column + 1), (h, each (column + 3) f.atom))

  mul_in : (column : ℕ) (m : Mul (Atom S)) → ExprIn 1 (mul_expr form expr line column m)
  mul_in column m = mul_from_in (column + length (form.spelling m.first)) (expr column m.first) m.more (each column m.first)

folded_in : (place : Place) (op : BinaryOp) (left right : Expr) (a b : Option ℤ) → IsInFiles 1 place → ExprIn 1 left → ExprIn 1 right → ExprIn 1 (folded place op left right a b)
folded_in place op left right (Some y) (Some z) h p q = h
folded_in place op left right (Some y) None h p q = (h, (p, q))
folded_in place op left right None b h p q = (h, (p, q))

module _ {S : Type 0} (form : Form (Atom S)) (expr : ℕ → Atom S → Expr) (line : ℕ) (each : (column : ℕ) (a : Atom S) → ExprIn 1 (expr column a)) where
  sum_from_in : (column : ℕ) (left : Expr) (ts : List (Term (Atom S))) → ExprIn 1 left → ExprIn 1 (sum_from form expr line column left ts)
  sum_from_in column left [] h = h
  sum_from_in column left (t ∷ ts) h =
      let right : Expr = mul_expr form expr line (column + 3) t.mul in
      sum_from_in (column + length (term_spelling form t)) _ ts
      (folded_in (at line (column + 1)) (added_by t.sign) left right (constant_of left) (constant_of right) (here line (column + 1)) h (mul_in form expr line each (column + 3) t.mul))

  sum_in : (column : ℕ) (s : Sum (Atom S)) → ExprIn 1 (sum_expr form expr line column s)
  sum_in column s = sum_from_in (column + length (mul_spelling form s.first)) (mul_expr form expr line column s.first) s.more (mul_in form expr line each column s.first)

-- ---- atoms and lists

list_in : {T : Type 0} (form : Form T) (expr : ℕ → T → Expr) → ((column : ℕ) (t : T) → ExprIn 1 (expr column t)) → (column : ℕ) (ts : List T) → ExprsIn 1 (list_exprs form expr column ts)
list_in form expr each column [] = tt
list_in form expr each column (t ∷ ts) = (each column t, list_in form expr each (column + length (form.spelling t) + 2) ts)

atom_in : {S : Type 0} (callable : Callable) (names : Names) (form : Form S) (expr : ℕ → S → Expr) (line : ℕ) → ((column : ℕ) (s : S) → ExprIn 1 (expr column s)) → (column : ℕ) (a : Atom S) →
    ExprIn 1 (atom_expr callable names form expr line column a)
atom_in callable names form expr line each column (name c) = here line column
atom_in callable names form expr line each column (number n) = here line column
atom_in callable names form expr line each column (call f items) = (here line column, list_in form expr each (column + 2) items)

argument_in : (callable : Callable) (names : Names) (line n column : ℕ) (s : ArgumentAt n) → ExprIn 1 (argument_expr callable names line n column s)
argument_in callable names line zero column s = here line column
argument_in callable names line (suc n) column s =
    sum_in (atoms n) (atom_expr callable names (arguments n) (argument_expr callable names line n) line) line
    (λ k a. atom_in callable names (arguments n) (argument_expr callable names line n) line (λ j t. argument_in callable names line n j t) k a) column s

value_in : (callable : Callable) (names : Names) (line column : ℕ) (s : Value) → ExprIn 1 (value_at callable names line column s)
value_in callable names line column s =
    sum_in (atoms 4) (atom_at callable names line 4) line
    (λ k a. atom_in callable names (arguments 4) (argument_expr callable names line 4) line (λ j t. argument_in callable names line 4 j t) k a) column s

compared_in : (place : Place) (relation : Relation) (left right : Expr) (a b : Option ℤ) → IsInFiles 1 place → ExprIn 1 left → ExprIn 1 right → ExprIn 1 (compared_by place relation left right a b)
compared_in place relation left right (Some y) (Some z) h p q = h
compared_in place relation left right (Some y) None h p q = (h, (p, q))
compared_in place relation left right None b h p q = (h, (p, q))

condition_in : (callable : Callable) (names : Names) (line column : ℕ) (left : Value) (relation : Relation) (right : Value) → ExprIn 1 (condition_at callable names line column left relation right)
condition_in callable names line column left relation right =
    let l : Expr = value_at callable names line column left in
    let next : ℕ = column + length (values.spelling left) + length (relation_spelling relation) in
    let r : Expr = value_at callable names line next right in
    compared_in (at line (column + length (values.spelling left) + 1)) relation l r (constant_of l) (constant_of r) (here line (column + length (values.spelling left) + 1))
    (value_in callable names line column left) (value_in callable names line next right)

-- ---- lines

nested_in : (keyword : Keyword) (place : Place) (condition : Expr) (body : Stmts) → IsInFiles 1 place → ExprIn 1 condition → StmtsIn 1 body → StmtIn 1 (nested keyword place condition body)
nested_in If place condition body h p q = (h, (p, q))
nested_in For place condition body h p q = (h, (p, q))

module _ {B : Type 0} (callable : Callable) (inner : ℕ → Names → ℕ → List B → Stmts) (d : ℕ) (each : (next : ℕ) (names : Names) (line : ℕ) (bs : List B) → StmtsIn 1 (inner next names line bs)) where
  line_in : (next : ℕ) (names : Names) (line : ℕ) (l : Line B) → StmtIn 1 (line_stmt callable inner d next names line l)
  line_in next names line (declare c value) = (here line (d + 1), value_in callable names line (d + 6) value)
  line_in next names line (assign c value) = (here line (d + 3), (here line (d + 1), value_in callable names line (d + 5) value))
  line_in next names line (print first rest) =
      (here line (d + 1), (here line (d + 1), list_in values (value_at callable names line) (λ k v. value_in callable names line k v) (d + 13) (first ∷ rest)))
  line_in next names line (nest keyword left relation right body) =
      nested_in keyword (at line (d + 1)) (condition_at callable names line (d + 1 + length (keyword_spelling keyword)) left relation right) (inner next names (line + 1) body) (here line (d + 1))
      (condition_in callable names line (d + 1 + length (keyword_spelling keyword)) left relation right) (each next names (line + 1) body)

all_in : {B : Type 0} (variables height : Line B → ℕ) (stmt : ℕ → Names → ℕ → Line B → Stmt) → ((next : ℕ) (names : Names) (line : ℕ) (l : Line B) → StmtIn 1 (stmt next names line l)) →
    (next : ℕ) (names : Names) (line : ℕ) (ls : List (Line B)) → StmtsIn 1 (all_stmts variables height stmt next names line ls)
all_in variables height stmt each next names line [] = tt
all_in variables height stmt each next names line (l ∷ ls) =
    (each next names line l, all_in variables height stmt each (next + variables l) (names_behind next names l) (line + height l) ls)

body_in : (callable : Callable) (k next : ℕ) (names : Names) (line : ℕ) (ls : List (BodyAt k)) → StmtsIn 1 (body_stmts callable k next names line ls)
body_in callable zero next names line ls = tt
body_in callable (suc k) next names line ls =
    all_in (body_variables (suc k)) (body_height (suc k)) (line_stmt callable (body_stmts callable k) (8 - k))
    (λ n ns i l. line_in callable (body_stmts callable k) (8 - k) (λ m ms j bs. body_in callable k m ms j bs) n ns i l) next names line ls

-- ---- procedures

ending_in : (ss : Stmts) (last : Stmt) → StmtsIn 1 ss → StmtIn 1 last → StmtsIn 1 (ending_with ss last)
ending_in finish last h p = (p, tt)
ending_in (follow s ss) last h p = (h.0, ending_in ss last h.1 p)

func_in : (callable : Callable) (line : ℕ) (f : Func) → ProcIn 1 (func_proc callable line f)
func_in callable line f =
    let last : ℕ = line + 1 + lines_height f.body in
    let ss : Stmts = lines_stmts callable 7 (length f.parameters + 1) (parameter_names 0 f.parameters) (line + 1) f.body in (
      here line 6,
      ending_in ss (answer (at last 2) (value_at callable (names_at_end f) last 9 f.answer)) (body_in callable 8 (length f.parameters + 1) (parameter_names 0 f.parameters) (line + 1) f.body)
          (here last 2, value_in callable (names_at_end f) last 9 f.answer),
    )

procs_in : (callable : Callable) (line : ℕ) (fs : List Func) (k : ℕ) (ls : List (LineAt 7)) → AllIn 1 (func_procs callable line fs ++ main_proc callable k ls ∷ [])
procs_in callable line [] k ls = ((here k 9, body_in callable 8 0 [] (k + 1) ls), tt)
procs_in callable line (f ∷ fs) k ls = (func_in callable line f, procs_in callable (line + func_height f) fs k ls)

names_short : (callable : Callable) (line : ℕ) (fs : List Func) (k : ℕ) (ls : List (LineAt 7)) → AreShortNames (func_procs callable line fs ++ main_proc callable k ls ∷ [])
names_short callable line [] k ls = (lit< tt, tt)
names_short callable line (f ∷ fs) k ls = (lit< tt, names_short callable (line + func_height f) fs k ls)

typed_listed : (tree : Tree) → CanList (typed tree) paths_of
typed_listed tree =
    let callable : Callable = callable_in tree in
    let k : ℕ = 3 + sum_of func_height tree.funcs in
    record {
      few = lit< tt;
      texts = All-cons IsShortText main_name [] (lit< tt) (All-nil IsShortText);
      places = procs_in callable 3 tree.funcs k tree.main;
      names = names_short callable 3 tree.funcs k tree.main;
    }

-- the program of a folder
pub gathered_listed : (Holds : Tree → Type 0) (p : Whole) (paths : List (List ℕ)) → paths ≡ paths_of → IsTypedOf Holds p → CanList p paths
gathered_listed Holds p paths e t =
    subst (λ (w : Whole). CanList w paths) (sym t.same) (subst (λ (f : List (List ℕ)). CanList (typed t.tree) f) (sym e) (typed_listed t.tree))
