-- The program of a text has fewer nodes than the text has characters, so it is within the limits.
use Rattle.std.proofs.Common.{◌≡◌, ◌≢◌, ℕ, zero, suc, ◌+◌, ◌-◌, ◌*◌, ◌<◌, ◌≤◌, ◌^◌, List, [], ◌∷◌, ◌++◌, length, map, arith, ap, ◌∙◌, sym, subst, refl, lit≤, lit<, length-append, codes}
use Rattle.std.specs.Prelude.{ℤ, Option, Some, None}
use Rattle.std.specs.Fmt.{decimal}
use Rattle.std.specs.List.{AllByRecursion}
use Rattle.std.proofs.lemmas.Fmt.{decimal_nonempty}
use Rattle.odc_text.specs.declared.place.Place.{Place}
use Rattle.odc_typed.specs.declared.tree.BinaryOp.{BinaryOp}
use Rattle.odc_typed.specs.declared.tree.BinaryOp.TheVariants.{Add, Subtract, Multiply, Divide, Remainder, Equal, Less as Under}
use Rattle.odc_typed.specs.declared.tree.Builtin.TheVariants.{Println}
use Rattle.odc_typed.specs.declared.tree.Constant.TheVariants.{Int, Bool as Truth}
use Rattle.odc_typed.specs.Tree.{Expr, const, local, binary, builtin, Exprs, none, more, Stmt, eval, choose, repeat, answer, Stmts, finish, follow, Proc, Whole}
use Rattle.odc_typed.specs.Tree.{call as calls, declare as declares, assign as assigns}
use Rattle.odc_typed.specs.Frame.{frame, variables, expr_room, exprs_room, place_room, stmt_room, stmts_room, operation_size, rounded, FramesFit}
use Rattle.odc_typed.specs.Nodes.{expr_nodes, exprs_nodes, stmt_nodes, stmts_nodes, nodes, NodesFit, all_nodes}
use Rattle.odc_small.specs.declared.grammar.Sign.{Sign}
use Rattle.odc_small.specs.declared.grammar.Sign.TheVariants.{Plus, Minus}
use Rattle.odc_small.specs.declared.grammar.Scale.{Scale}
use Rattle.odc_small.specs.declared.grammar.Scale.TheVariants.{Times, Over, Rest}
use Rattle.odc_small.specs.declared.grammar.Relation.{Relation}
use Rattle.odc_small.specs.declared.grammar.Relation.TheVariants.{Less, Same}
use Rattle.odc_small.specs.declared.grammar.Keyword.{Keyword}
use Rattle.odc_small.specs.declared.grammar.Keyword.TheVariants.{If, For}
use Rattle.odc_small.specs.Forms.{Form, spellings, never}
use Rattle.odc_small.specs.Grammar.{Factor, Mul, Term, Sum, Atom, name, number, call, ArgumentAt, AtomAt, SumAt, Value, Line, declare, assign, print, nest, BodyAt, LineAt, Func, Tree, IsAtom, IsFactor, IsMul, IsTerm, IsSum, IsLine, IsFunc, IsTree, factor_spelling, mul_spelling, term_spelling, sum_spelling, scale_spelling, sign_spelling, list_spelling, next_spelling, relation_spelling, keyword_spelling, head_spelling, inner_spelling, line_spelling, parameter_spelling, func_head_spelling, func_foot_spelling, func_spelling, atoms_over, arguments, atoms, sums, values, bodies, lines, tabs, newline, head, main_head, foot, text_spelling}
use Rattle.odc_small.specs.Names.{Callable, Names, line_variables, sum_of, body_variables, variables_at, names_behind, parameter_names, callable_in, IsText}
use Rattle.odc_small.specs.Typing.{at, scaled_by, mul_from, mul_expr, added_by, constant_of, folded, joined, sum_from, sum_expr, list_exprs, atom_expr, argument_expr, atom_at, sum_at, value_at, compared_by, compared, condition_at, line_stmt, all_stmts, body_stmts, body_height, height_at, all_locals, locals_at, nested, ending_with, lines_height, func_height, names_at_end, func_proc, func_procs, main_proc, typed}
use Rattle.odc_small.proofs.WellLemmas.{locals_length, parameters_length}

-- ---- each node has room of 144 bytes at most

eight : (op : BinaryOp) → rounded (operation_size op) ≤ 8
eight Add = lit≤ tt
eight Subtract = lit≤ tt
eight Multiply = lit≤ tt
eight Divide = lit≤ tt
eight Remainder = lit≤ tt
eight Under = lit≤ tt
eight Equal = lit≤ tt

mutual
  room_of : (e : Expr) → expr_room e ≤ 144 * expr_nodes e
  room_of (const place (Int z)) = lit≤ tt
  room_of (const place (Truth b)) = lit≤ tt
  room_of (local place x) = lit≤ tt
  room_of (binary place op left right) = omega (arith, eight op, room_of left, room_of right)
  room_of (calls place f items) = omega (arith, rooms_of items)
  room_of (builtin place Println items) = omega (arith, rooms_of items)

  rooms_of : (es : Exprs) → exprs_room es ≤ 144 * exprs_nodes es
  rooms_of none = lit≤ tt
  rooms_of (more e es) = omega (arith, room_of e, rooms_of es)

place_of : (e : Expr) → place_room e ≤ 144 * expr_nodes e
place_of (const place value) = room_of (const place value)
place_of (local place x) = lit≤ tt
place_of (binary place op left right) = room_of (binary place op left right)
place_of (calls place f items) = room_of (calls place f items)
place_of (builtin place which items) = room_of (builtin place which items)

mutual
  stmt_room_of : (s : Stmt) → stmt_room s ≤ 144 * stmt_nodes s
  stmt_room_of (eval place value) = omega (arith, room_of value)
  stmt_room_of (declares place x value) = omega (arith, room_of value)
  stmt_room_of (assigns place target value) = omega (arith, place_of target, room_of value)
  stmt_room_of (choose place condition body) = omega (arith, room_of condition, stmts_room_of body)
  stmt_room_of (repeat place condition body) = omega (arith, room_of condition, stmts_room_of body)
  stmt_room_of (answer place value) = omega (arith, room_of value)

  stmts_room_of : (ss : Stmts) → stmts_room ss ≤ 144 * stmts_nodes ss
  stmts_room_of finish = lit≤ tt
  stmts_room_of (follow s ss) = omega (arith, stmt_room_of s, stmts_room_of ss)

frame_small : (p : Proc) → frame p ≤ 271 + 144 * nodes p
frame_small p = omega (arith, stmts_room_of p.body)

-- ---- sums, over atoms with at most as many nodes as characters

scale_length : (s : Scale) → length (scale_spelling s) ≡ 3
scale_length Times = refl
scale_length Over = refl
scale_length Rest = refl

sign_length : (s : Sign) → length (sign_spelling s) ≡ 3
sign_length Plus = refl
sign_length Minus = refl

module _ {S : Type 0} (form : Form (Atom S)) (expr : ℕ → Atom S → Expr) (line : ℕ) (small : (column : ℕ) (a : Atom S) → form.Is a → expr_nodes (expr column a) ≤ length (form.spelling a)) where
  product_nodes : (column : ℕ) (left : Expr) (fs : List (Factor (Atom S))) → AllByRecursion (IsFactor form) fs → expr_nodes (mul_from form expr line column left fs) ≤ expr_nodes left + length (spellings (factor_spelling form) fs)
  product_nodes column left [] is = omega arith
  product_nodes column left (f ∷ rest) is =
      let next : Expr = binary (at line (column + 1)) (scaled_by f.scale) left (expr (column + 3) f.atom) in
      omega (
        arith,
        product_nodes (column + length (factor_spelling form f)) next rest is.1,
        small (column + 3) f.atom is.0.0,
        scale_length f.scale,
        length-append (scale_spelling f.scale) (form.spelling f.atom),
        length-append (factor_spelling form f) (spellings (factor_spelling form) rest),
      )

  mul_nodes : (column : ℕ) (m : Mul (Atom S)) → IsMul form m → expr_nodes (mul_expr form expr line column m) ≤ length (mul_spelling form m)
  mul_nodes column m is =
      omega (
        arith,
        product_nodes (column + length (form.spelling m.first)) (expr column m.first) m.more is.more,
        small column m.first is.first,
        length-append (form.spelling m.first) (spellings (factor_spelling form) m.more),
      )

  folded_nodes : (place : Place) (op : BinaryOp) (left right : Expr) (y z : Option ℤ) → expr_nodes (folded place op left right y z) ≤ expr_nodes left + expr_nodes right + 1
  folded_nodes place op left right (Some y) (Some z) = omega arith
  folded_nodes place op left right (Some y) None = omega arith
  folded_nodes place op left right None (Some z) = omega arith
  folded_nodes place op left right None None = omega arith

  rest_nodes : (column : ℕ) (left : Expr) (ts : List (Term (Atom S))) → AllByRecursion (IsTerm form) ts → expr_nodes (sum_from form expr line column left ts) ≤ expr_nodes left + length (spellings (term_spelling form) ts)
  rest_nodes column left [] is = omega arith
  rest_nodes column left (t ∷ ts) is =
      let right : Expr = mul_expr form expr line (column + 3) t.mul in
      let next : Expr = joined (at line (column + 1)) (added_by t.sign) left right in
      omega (
        arith,
        rest_nodes (column + length (term_spelling form t)) next ts is.1,
        folded_nodes (at line (column + 1)) (added_by t.sign) left right (constant_of left) (constant_of right),
        mul_nodes (column + 3) t.mul is.0,
        sign_length t.sign,
        length-append (sign_spelling t.sign) (mul_spelling form t.mul),
        length-append (term_spelling form t) (spellings (term_spelling form) ts),
      )

  sum_nodes : (column : ℕ) (s : Sum (Atom S)) → IsSum form s → expr_nodes (sum_expr form expr line column s) ≤ length (sum_spelling form s)
  sum_nodes column s is =
      omega (
        arith,
        rest_nodes (column + length (mul_spelling form s.first)) (mul_expr form expr line column s.first) s.more is.more,
        mul_nodes column s.first is.first,
        length-append (mul_spelling form s.first) (spellings (term_spelling form) s.more),
      )

-- ---- lists

module _ {T : Type 0} (form : Form T) (expr : ℕ → T → Expr) (small : (column : ℕ) (t : T) → form.Is t → expr_nodes (expr column t) ≤ length (form.spelling t)) where
  more_nodes : (column : ℕ) (ts : List T) → AllByRecursion form.Is ts → exprs_nodes (list_exprs form expr column ts) ≤ length (spellings (next_spelling form.spelling) ts)
  more_nodes column [] is = lit≤ tt
  more_nodes column (t ∷ ts) is =
      omega (
        arith,
        small column t is.0,
        more_nodes (column + length (form.spelling t) + 2) ts is.1,
        length-append (codes ", ") (form.spelling t),
        length-append (next_spelling form.spelling t) (spellings (next_spelling form.spelling) ts),
      )

  list_nodes : (column : ℕ) (ts : List T) → AllByRecursion form.Is ts → exprs_nodes (list_exprs form expr column ts) ≤ length (list_spelling form.spelling ts)
  list_nodes column [] is = lit≤ tt
  list_nodes column (t ∷ ts) is =
      omega (
        arith,
        small column t is.0,
        more_nodes (column + length (form.spelling t) + 2) ts is.1,
        length-append (form.spelling t) (spellings (next_spelling form.spelling) ts),
      )

-- ---- atoms and sums at each depth

module _ (callable : Callable) (names : Names) (line : ℕ) where
  atom_nodes : {S : Type 0} (allowed : Type 0) (form : Form S) (expr : ℕ → S → Expr) → ((column : ℕ) (s : S) → form.Is s → expr_nodes (expr column s) ≤ length (form.spelling s)) →
      (column : ℕ) (a : Atom S) → (atoms_over allowed form).Is a → expr_nodes (atom_expr callable names form expr line column a) ≤ length ((atoms_over allowed form).spelling a)
  atom_nodes allowed form expr small column (name c) is = lit≤ tt
  atom_nodes allowed form expr small column (number n) is = decimal_nonempty n (omega (arith, is))
  atom_nodes allowed form expr small column (call f items) is =
      omega (
        arith,
        list_nodes form expr small (column + 2) items is.1.1,
        length-append (list_spelling form.spelling items) (codes ")"),
        length-append (codes "(") (list_spelling form.spelling items ++ codes ")"),
      )

  argument_nodes : (n column : ℕ) (s : ArgumentAt n) → (arguments n).Is s → expr_nodes (argument_expr callable names line n column s) ≤ length ((arguments n).spelling s)
  argument_nodes zero column s is = absurd is
  argument_nodes (suc n) column s is =
      sum_nodes (atoms n) (atom_expr callable names (arguments n) (argument_expr callable names line n) line) line
      (atom_nodes (0 < n) (arguments n) (argument_expr callable names line n) (argument_nodes n)) column s is

  value_nodes : (column : ℕ) (s : Value) → values.Is s → expr_nodes (value_at callable names line column s) ≤ length (values.spelling s)
  value_nodes column s is = argument_nodes 5 column s is

  compared_nodes : (place : Place) (relation : Relation) (left right : Expr) (y z : Option ℤ) → expr_nodes (compared_by place relation left right y z) ≤ expr_nodes left + expr_nodes right + 1
  compared_nodes place relation left right (Some y) (Some z) = omega arith
  compared_nodes place relation left right (Some y) None = omega arith
  compared_nodes place relation left right None (Some z) = omega arith
  compared_nodes place relation left right None None = omega arith

  condition_nodes : (column : ℕ) (left : Value) (relation : Relation) (right : Value) → values.Is left → values.Is right →
      expr_nodes (condition_at callable names line column left relation right) ≤ length (values.spelling left) + length (values.spelling right) + 1
  condition_nodes column left relation right is also =
      let a : Expr = value_at callable names line column left in
      let b : Expr = value_at callable names line (column + length (values.spelling left) + length (relation_spelling relation)) right in
      omega (
        arith,
        compared_nodes (at line (column + length (values.spelling left) + 1)) relation a b (constant_of a) (constant_of b),
        value_nodes column left is,
        value_nodes (column + length (values.spelling left) + length (relation_spelling relation)) right also,
      )

-- ---- lines

head_length : (keyword : Keyword) (left : Value) (relation : Relation) (right : Value) → length (values.spelling left) + length (values.spelling right) + 3 ≤ length (head_spelling keyword left relation right)
head_length keyword left relation right =
    let a : length (codes " {" ++ newline) ≡ 3 = refl in
    omega (
      arith,
      a,
      length-append (values.spelling right) (codes " {" ++ newline),
      length-append (relation_spelling relation) (values.spelling right ++ (codes " {" ++ newline)),
      length-append (values.spelling left) (relation_spelling relation ++ (values.spelling right ++ (codes " {" ++ newline))),
      length-append (keyword_spelling keyword) (values.spelling left ++ (relation_spelling relation ++ (values.spelling right ++ (codes " {" ++ newline)))),
    )

nested_nodes : (keyword : Keyword) (place : Place) (condition : Expr) (body : Stmts) → stmt_nodes (nested keyword place condition body) ≡ expr_nodes condition + stmts_nodes body + 1
nested_nodes If place condition body = refl
nested_nodes For place condition body = refl

module _ {B : Type 0} (callable : Callable) (Is : B → Type 0) (inner : ℕ → Names → ℕ → List B → Stmts) (count : List B → ℕ) (spelling : B → List ℕ) (d : ℕ)
    (small : (next : ℕ) (names : Names) (line : ℕ) (bs : List B) → AllByRecursion Is bs → stmts_nodes (inner next names line bs) + count bs ≤ length (spellings spelling bs)) where
  line_nodes : (next : ℕ) (names : Names) (line : ℕ) (l : Line B) → IsLine Is l → stmt_nodes (line_stmt callable inner d next names line l) + line_variables count l ≤ length (line_spelling d spelling l)
  line_nodes next names line (declare c value) is =
      omega (
        arith,
        value_nodes callable names line (d + 6) value is.1,
        length-append (values.spelling value) newline,
        length-append (codes " := ") (values.spelling value ++ newline),
        length-append (tabs d) (inner_spelling d spelling (declare c value)),
      )
  line_nodes next names line (assign c value) is =
      omega (
        arith,
        value_nodes callable names line (d + 5) value is.1,
        length-append (values.spelling value) newline,
        length-append (codes " = ") (values.spelling value ++ newline),
        length-append (tabs d) (inner_spelling d spelling (assign c value)),
      )
  line_nodes next names line (print first rest) is =
      omega (
        arith,
        list_nodes values (value_at callable names line) (value_nodes callable names line) (d + 13) (first ∷ rest) is,
        length-append (list_spelling values.spelling (first ∷ rest)) (codes ")" ++ newline),
        length-append (codes "fmt.println(") (list_spelling values.spelling (first ∷ rest) ++ (codes ")" ++ newline)),
        length-append (tabs d) (inner_spelling d spelling (print first rest)),
      )
  line_nodes next names line (nest keyword left relation right body) is =
      let condition : Expr = condition_at callable names line (d + 1 + length (keyword_spelling keyword)) left relation right in
      omega (
        arith,
        nested_nodes keyword (at line (d + 1)) condition (inner next names (line + 1) body),
        condition_nodes callable names line (d + 1 + length (keyword_spelling keyword)) left relation right is.0 is.1.0,
        small next names (line + 1) body is.1.1,
        head_length keyword left relation right,
        length-append (tabs d) (codes "}" ++ newline),
        length-append (spellings spelling body) (tabs d ++ (codes "}" ++ newline)),
        length-append (head_spelling keyword left relation right) (spellings spelling body ++ (tabs d ++ (codes "}" ++ newline))),
        length-append (tabs d) (inner_spelling d spelling (nest keyword left relation right body)),
      )

  module _ (height : Line B → ℕ) where
    all_line_nodes : (next : ℕ) (names : Names) (line : ℕ) (ls : List (Line B)) → AllByRecursion (IsLine Is) ls →
        stmts_nodes (all_stmts (line_variables count) height (line_stmt callable inner d) next names line ls) + sum_of (line_variables count) ls ≤ length (spellings (line_spelling d spelling) ls)
    all_line_nodes next names line [] is = lit≤ tt
    all_line_nodes next names line (l ∷ ls) is =
        omega (
          arith,
          line_nodes next names line l is.0,
          all_line_nodes (next + line_variables count l) (names_behind next names l) (line + height l) ls is.1,
          length-append (line_spelling d spelling l) (spellings (line_spelling d spelling) ls),
        )

no_lines : (ls : List ⊥) → sum_of (body_variables 0) ls ≡ 0
no_lines [] = refl
no_lines (l ∷ ls) = absurd l

body_nodes : (callable : Callable) (k next : ℕ) (names : Names) (line : ℕ) (ls : List (BodyAt k)) → AllByRecursion (bodies k).Is ls →
    stmts_nodes (body_stmts callable k next names line ls) + sum_of (body_variables k) ls ≤ length (spellings (bodies k).spelling ls)
body_nodes callable zero next names line ls is = omega (arith, no_lines ls)
body_nodes callable (suc k) next names line ls is =
    all_line_nodes callable (bodies k).Is (body_stmts callable k) (sum_of (body_variables k)) (bodies k).spelling (8 - k) (body_nodes callable k) (body_height (suc k)) next names line ls is

-- ---- procedures

ending_nodes : (ss : Stmts) (last : Stmt) → stmts_nodes (ending_with ss last) ≡ stmts_nodes ss + stmt_nodes last
ending_nodes finish last = omega arith
ending_nodes (follow s ss) last = omega (arith, ending_nodes ss last)

more_parameters : (cs : List ℕ) → length cs ≤ length (spellings (next_spelling parameter_spelling) cs)
more_parameters [] = lit≤ tt
more_parameters (c ∷ cs) =
    omega (arith, more_parameters cs, length-append (codes ", ") (parameter_spelling c), length-append (next_spelling parameter_spelling c) (spellings (next_spelling parameter_spelling) cs))

parameters_small : (cs : List ℕ) → length cs ≤ length (list_spelling parameter_spelling cs)
parameters_small [] = lit≤ tt
parameters_small (c ∷ cs) = omega (arith, more_parameters cs, length-append (parameter_spelling c) (spellings (next_spelling parameter_spelling) cs))

func_nodes : (callable : Callable) (line : ℕ) (f : Func) → IsFunc f → nodes (func_proc callable line f) + 1 ≤ length (func_spelling f)
func_nodes callable line f is =
    let n : ℕ = length f.parameters in
    let ss : Stmts = body_stmts callable 8 (n + 1) (parameter_names 0 f.parameters) (line + 1) f.body in
    let last_line : ℕ = line + 1 + lines_height f.body in
    let last : Stmt = answer (at last_line 2) (value_at callable (names_at_end f) last_line 9 f.answer) in
    let body : List ℕ = spellings (lines 7).spelling f.body in
    let closed : List ℕ = newline ++ (codes "}" ++ newline) in
    let ends : List ℕ = codes ") -> int {" ++ newline in
    let ends_length : length ends ≡ 11 = refl in
    let closed_length : length closed ≡ 3 = refl in
    omega (
      arith,
      ending_nodes ss last,
      body_nodes callable 8 (n + 1) (parameter_names 0 f.parameters) (line + 1) f.body is.body,
      value_nodes callable (names_at_end f) last_line 9 f.answer is.answer,
      parameters_length line 11 f.parameters,
      locals_length (line + 1) f.body,
      parameters_small f.parameters,
      ends_length,
      closed_length,
      length-append (list_spelling parameter_spelling f.parameters) ends,
      length-append (codes " :: proc(") (list_spelling parameter_spelling f.parameters ++ ends),
      length-append (func_head_spelling f) (body ++ func_foot_spelling f),
      length-append body (func_foot_spelling f),
      length-append (codes "return ") (values.spelling f.answer ++ closed),
      length-append (values.spelling f.answer) closed,
    )

main_nodes : (callable : Callable) (line : ℕ) (ls : List (LineAt 7)) → AllByRecursion (lines 7).Is ls → nodes (main_proc callable line ls) ≤ length (spellings (lines 7).spelling ls)
main_nodes callable line ls is = omega (arith, body_nodes callable 8 0 [] (line + 1) ls is, locals_length (line + 1) ls)

-- ---- programs

pub record AreFew (n : ℕ) (ps : List Proc) : Type 0 where
  pub all : all_nodes ps + length ps ≤ n

funcs_few : (callable : Callable) (line : ℕ) (fs : List Func) (last : Proc) → AllByRecursion IsFunc fs → all_nodes (func_procs callable line fs ++ last ∷ []) + length (func_procs callable line fs ++ last ∷ []) ≤ length (spellings func_spelling fs) + nodes last + 1
funcs_few callable line [] last is = omega arith
funcs_few callable line (f ∷ fs) last is =
    omega (arith, func_nodes callable line f is.0, funcs_few callable (line + func_height f) fs last is.1, length-append (func_spelling f) (spellings func_spelling fs))

nodes_fit : (ps : List Proc) → all_nodes ps ≤ 16384 → NodesFit ps
nodes_fit [] h = tt
nodes_fit (p ∷ ps) h = (omega (arith, h), nodes_fit ps (omega (arith, h)))

frames_fit : (ps : List Proc) → all_nodes ps ≤ 16384 → FramesFit ps
frames_fit [] h = tt
frames_fit (p ∷ ps) h = (omega (arith, frame_small p, h), frames_fit ps (omega (arith, h)))

text_length : (tree : Tree) → length (text_spelling tree) ≡ length head + length (spellings func_spelling tree.funcs) + 17 + length (spellings (lines 7).spelling tree.main) + 2
text_length tree =
    let opened : length main_head ≡ 17 = refl in
    let closed : length foot ≡ 2 = refl in
    omega (
      arith,
      opened,
      closed,
      length-append head (spellings func_spelling tree.funcs ++ (main_head ++ (spellings (lines 7).spelling tree.main ++ foot))),
      length-append (spellings func_spelling tree.funcs) (main_head ++ (spellings (lines 7).spelling tree.main ++ foot)),
      length-append main_head (spellings (lines 7).spelling tree.main ++ foot),
      length-append (spellings (lines 7).spelling tree.main) foot,
    )

-- nodes and procedures are at most as many as characters
pub typed_few : (tree : Tree) → IsText tree → all_nodes (typed tree).procedures + length (typed tree).procedures ≤ length (text_spelling tree)
typed_few tree h =
    let callable : Callable = callable_in tree in
    let k : ℕ = 3 + sum_of func_height tree.funcs in
    let main : Proc = main_proc callable k tree.main in
    omega (arith, funcs_few callable 3 tree.funcs main h.is.funcs, main_nodes callable k tree.main h.is.main, text_length tree)

pub typed_nodes : (tree : Tree) → IsText tree → length (text_spelling tree) ≤ 16384 → NodesFit (typed tree).procedures
typed_nodes tree h short = nodes_fit (typed tree).procedures (omega (arith, typed_few tree h, short))

pub typed_frames : (tree : Tree) → IsText tree → length (text_spelling tree) ≤ 16384 → FramesFit (typed tree).procedures
typed_frames tree h short = frames_fit (typed tree).procedures (omega (arith, typed_few tree h, short))
