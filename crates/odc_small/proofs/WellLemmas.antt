-- The program of a text is well.
use Rattle.std.proofs.Common.{◌≡◌, ◌≢◌, ◌⊎◌, inl, inr, ℕ, zero, suc, ◌+◌, ◌-◌, ◌*◌, ◌<◌, ◌≤◌, ◌==◌, Bool, true, false, List, [], ◌∷◌, ◌++◌, length, map, arith, ap, ◌∙◌, sym, subst, refl, lit≤, lit<, length-append}
use Rattle.std.specs.Prelude.{Option, Some, None, slice_get}
use Rattle.std.specs.List.{AllByRecursion}
use Rattle.odc_text.specs.declared.place.Place.{Place}
use Rattle.odc_typed.specs.declared.tree.Local.{Local}
use Rattle.odc_typed.specs.Tree.{Expr, Exprs, Stmt, Stmts, finish, follow, answer, Proc, Whole}
use Rattle.odc_typed.specs.Frame.{variables}
use Rattle.odc_typed.specs.Well.{Scope, InScope, IsWellStmt, AreWell, scope_after, first_scope, signatures, IsWellProc, AllWell, IsMain, IsWell}
use Rattle.odc_typed.specs.Well.{Signature as Shape, Around as Setting, around as setting}
use Rattle.odc_small.specs.declared.scope.Binding.{Binding}
use Rattle.odc_small.specs.declared.scope.Signature.{Signature}
use Rattle.odc_small.specs.declared.grammar.Keyword.{Keyword}
use Rattle.odc_small.specs.declared.grammar.Keyword.TheVariants.{If, For}
use Rattle.odc_small.specs.Forms.{Form}
use Rattle.odc_small.specs.Grammar.{Value, Line, declare, assign, print, nest, BodyAt, LineAt, Func, Tree, IsLine, IsFunc, IsTree, bodies, lines, values, keyword_spelling}
use Rattle.odc_small.specs.Names.{Callable, listed, IsCallable, position_of, arity_of, procedure_of, signature_of, Names, variable_of, or_zero, IsDeclared, bound, Around, KnowsLine, KnowsAll, KnowsBody, KnowsFunc, MayAssign, line_variables, sum_of, body_variables, names_behind, names_after, parameter_names, around_func, around_main, callable_in, variables_at, IsText}
use Rattle.odc_small.specs.Typing.{at, value_at, line_stmt, all_stmts, body_stmts, body_height, height_at, all_locals, body_locals, line_locals, locals_at, nested, parameters_at, lines_height, func_height, ending_with, names_at_end, func_proc, func_procs, main_proc, typed, condition_at}
use Rattle.odc_small.proofs.ValueLemmas.{Covers, Serves, value_int, values_int, condition_well}

-- ---- names

-- behind the names, one more
variable_push : (c : ℕ) (names : Names) (b : Binding) → (variable_of c (names ++ b ∷ []) ≡ variable_of c names) ⊎ (variable_of c (names ++ b ∷ []) ≡ variable_of c (b ∷ []))
variable_push c [] b = inr refl
variable_push c (x ∷ xs) b = by (variable_push c xs b) (c == x.name) refl
  where
    by : (variable_of c (xs ++ b ∷ []) ≡ variable_of c xs) ⊎ (variable_of c (xs ++ b ∷ []) ≡ variable_of c (b ∷ [])) → (t : Bool) → (c == x.name) ≡ t →
        (variable_of c ((x ∷ xs) ++ b ∷ []) ≡ variable_of c (x ∷ xs)) ⊎ (variable_of c ((x ∷ xs) ++ b ∷ []) ≡ variable_of c (b ∷ []))
    by rest true e = inl (rw e refl)
    by (inl h) false e = inl (rw e h)
    by (inr h) false e = inr (rw e h)

-- a single name
one_name : (c d x : ℕ) → IsDeclared (bound d x ∷ []) c → or_zero (variable_of c (bound d x ∷ [])) ≡ x
one_name c d x is = by (c == d) refl
  where
    by : (t : Bool) → (c == d) ≡ t → or_zero (variable_of c (bound d x ∷ [])) ≡ x
    by true e = rw e refl
    by false e = absurd (is (rw e refl))

covers_push : (names : Names) (scope : Scope) (c x : ℕ) → Covers names scope → Covers (names ++ bound c x ∷ []) (x ∷ scope)
covers_push names scope c x covers = record {
  by = λ d is. elim (variable_push d names (bound c x)) [
    | inl e ↦ inr (subst (λ (o : Option ℕ). InScope scope (or_zero o)) (sym e) (covers.by d (subst (λ (o : Option ℕ). o ≢ None) e is)))
    | inr e ↦ inl (ap or_zero e ∙ one_name d c x (subst (λ (o : Option ℕ). o ≢ None) e is))
  ];
}

may_be_there : (parameters c : ℕ) (names : Names) → MayAssign parameters (variable_of c names) → IsDeclared names c
may_be_there parameters c names may e = subst (MayAssign parameters) e may

-- ---- lines

module _ (around : Around) (a : Setting) (serves : Serves around.callable a.signatures) where
  -- what a line is well by, and what stands behind it
  nested_well : (keyword : Keyword) (place : Place) (condition : Expr) (body : Stmts) (scope : Scope) → Rattle.odc_typed.specs.Well.IsCondition a.signatures scope condition → AreWell a scope body →
      IsWellStmt a scope (nested keyword place condition body)
  nested_well If place condition body scope h i = (h, i)
  nested_well For place condition body scope h i = (h, i)

  nested_scope : (keyword : Keyword) (place : Place) (condition : Expr) (body : Stmts) (scope : Scope) → scope_after scope (nested keyword place condition body) ≡ scope
  nested_scope If place condition body scope = refl
  nested_scope For place condition body scope = refl

  module _ {B : Type 0} (Is : B → Type 0) (Knows : ℕ → Names → List B → Type 0) (inner : ℕ → Names → ℕ → List B → Stmts) (count : List B → ℕ) (d : ℕ)
      (inner_well : (next : ℕ) (names : Names) (scope : Scope) (line : ℕ) (bs : List B) → AllByRecursion Is bs → Knows next names bs → Covers names scope → a.parameters + a.results ≤ next → next + count bs ≤ a.variables → AreWell a scope (inner next names line bs)) where
    line_well : (next : ℕ) (names : Names) (scope : Scope) (line : ℕ) (l : Line B) → IsLine Is l → KnowsLine around Knows next names l → Covers names scope → a.parameters + a.results ≤ next → next + line_variables count l ≤ a.variables →
        IsWellStmt a scope (line_stmt around.callable inner d next names line l)
    line_well next names scope line (declare c value) is knows covers low high =
        ((low, omega (arith, high)), value_int around.callable names line a.signatures scope covers serves (d + 6) value is.1 knows.1)
    line_well next names scope line (assign c value) is knows covers low high =
        (covers.by c (may_be_there around.parameters c names knows.0), value_int around.callable names line a.signatures scope covers serves (d + 5) value is.1 knows.1)
    line_well next names scope line (print first rest) is knows covers low high =
        values_int around.callable names line a.signatures scope covers serves (d + 13) (first ∷ rest) is knows
    line_well next names scope line (nest keyword left relation right body) is knows covers low high =
        nested_well keyword (at line (d + 1)) (condition_at around.callable names line (d + 1 + length (keyword_spelling keyword)) left relation right) (inner next names (line + 1) body) scope
        (condition_well around.callable names line a.signatures scope covers serves (d + 1 + length (keyword_spelling keyword)) left relation right is.0 is.1.0 knows.0 knows.1.0)
        (inner_well next names scope (line + 1) body is.1.1 knows.1.1 covers low high)

    line_covers : (next : ℕ) (names : Names) (scope : Scope) (line : ℕ) (l : Line B) → Covers names scope → Covers (names_behind next names l) (scope_after scope (line_stmt around.callable inner d next names line l))
    line_covers next names scope line (declare c value) covers = covers_push names scope c next covers
    line_covers next names scope line (assign c value) covers = record { by = covers.by }
    line_covers next names scope line (print first rest) covers = record { by = covers.by }
    line_covers next names scope line (nest keyword left relation right body) covers =
        subst (Covers names) (sym (nested_scope keyword (at line (d + 1)) (condition_at around.callable names line (d + 1 + length (keyword_spelling keyword)) left relation right) (inner next names (line + 1) body) scope)) covers

    module _ (height : Line B → ℕ) where
      all_well : (next : ℕ) (names : Names) (scope : Scope) (line : ℕ) (ls : List (Line B)) → AllByRecursion (IsLine Is) ls → KnowsAll (line_variables count) (KnowsLine around Knows) next names ls → Covers names scope →
          a.parameters + a.results ≤ next → next + sum_of (line_variables count) ls ≤ a.variables → AreWell a scope (all_stmts (line_variables count) height (line_stmt around.callable inner d) next names line ls)
      all_well next names scope line [] is knows covers low high = tt
      all_well next names scope line (l ∷ ls) is knows covers low high = (
        line_well next names scope line l is.0 knows.0 covers low (omega (arith, high)),
        all_well (next + line_variables count l) (names_behind next names l) (scope_after scope (line_stmt around.callable inner d next names line l)) (line + height l) ls is.1 knows.1
            (line_covers next names scope line l covers) (omega (arith, low)) (omega (arith, high)),
      )

      -- with a last statement behind them
      all_well_and : (last : Stmt) (next : ℕ) (names : Names) (scope : Scope) (line : ℕ) (ls : List (Line B)) → AllByRecursion (IsLine Is) ls → KnowsAll (line_variables count) (KnowsLine around Knows) next names ls → Covers names scope →
          a.parameters + a.results ≤ next → next + sum_of (line_variables count) ls ≤ a.variables → ((scope' : Scope) → Covers (names_after (line_variables count) next names ls) scope' → IsWellStmt a scope' last) →
          AreWell a scope (ending_with (all_stmts (line_variables count) height (line_stmt around.callable inner d) next names line ls) last)
      all_well_and last next names scope line [] is knows covers low high ends = (ends scope covers, tt)
      all_well_and last next names scope line (l ∷ ls) is knows covers low high ends = (
        line_well next names scope line l is.0 knows.0 covers low (omega (arith, high)),
        all_well_and last (next + line_variables count l) (names_behind next names l) (scope_after scope (line_stmt around.callable inner d next names line l)) (line + height l) ls is.1 knows.1
            (line_covers next names scope line l covers) (omega (arith, low)) (omega (arith, high)) ends,
      )

  body_well : (k next : ℕ) (names : Names) (scope : Scope) (line : ℕ) (ls : List (BodyAt k)) → AllByRecursion (bodies k).Is ls → KnowsBody around k next names ls → Covers names scope →
      a.parameters + a.results ≤ next → next + sum_of (body_variables k) ls ≤ a.variables → AreWell a scope (body_stmts around.callable k next names line ls)
  body_well zero next names scope line ls is knows covers low high = tt
  body_well (suc k) next names scope line ls is knows covers low high =
      all_well (bodies k).Is (KnowsBody around k) (body_stmts around.callable k) (sum_of (body_variables k)) (8 - k) (body_well k) (body_height (suc k)) next names scope line ls is knows covers low high

  pub lines_well_and : (last : Stmt) (next : ℕ) (names : Names) (scope : Scope) (line : ℕ) (ls : List (LineAt 7)) → AllByRecursion (lines 7).Is ls → KnowsBody around 8 next names ls → Covers names scope →
      a.parameters + a.results ≤ next → next + sum_of (variables_at 7) ls ≤ a.variables → ((scope' : Scope) → Covers (names_after (variables_at 7) next names ls) scope' → IsWellStmt a scope' last) →
      AreWell a scope (ending_with (body_stmts around.callable 8 next names line ls) last)
  lines_well_and last next names scope line ls is knows covers low high ends =
      all_well_and (bodies 7).Is (KnowsBody around 7) (body_stmts around.callable 7) (sum_of (body_variables 7)) 1 (body_well 7) (body_height 8) last next names scope line ls is knows covers low high ends

-- ---- the variables that lines declare

line_locals_length : {B : Type 0} (inner : ℕ → List B → List Local) (count : List B → ℕ) → ((line : ℕ) (bs : List B) → length (inner line bs) ≡ count bs) → (d line : ℕ) (l : Line B) → length (line_locals inner d line l) ≡ line_variables count l
line_locals_length inner count same d line (declare c value) = refl
line_locals_length inner count same d line (assign c value) = refl
line_locals_length inner count same d line (print first rest) = refl
line_locals_length inner count same d line (nest keyword left relation right body) = same (line + 1) body

all_locals_length : {B : Type 0} (height count : B → ℕ) (locals : ℕ → B → List Local) → ((line : ℕ) (b : B) → length (locals line b) ≡ count b) → (line : ℕ) (bs : List B) → length (all_locals height locals line bs) ≡ sum_of count bs
all_locals_length height count locals same line [] = refl
all_locals_length height count locals same line (b ∷ bs) =
    omega (arith, length-append (locals line b) (all_locals height locals (line + height b) bs), same line b, all_locals_length height count locals same (line + height b) bs)

body_locals_length : (k line : ℕ) (l : BodyAt k) → length (body_locals k line l) ≡ body_variables k l
body_locals_length zero line l = refl
body_locals_length (suc k) line l =
    line_locals_length (all_locals (body_height k) (body_locals k)) (sum_of (body_variables k)) (all_locals_length (body_height k) (body_variables k) (body_locals k) (body_locals_length k)) (8 - k) line l

pub locals_length : (line : ℕ) (ls : List (LineAt 7)) → length (all_locals (height_at 7) (locals_at 7) line ls) ≡ sum_of (variables_at 7) ls
locals_length line ls = all_locals_length (height_at 7) (variables_at 7) (locals_at 7) (body_locals_length 8) line ls

-- ---- parameters

pub parameters_length : (line column : ℕ) (cs : List ℕ) → length (parameters_at line column cs) ≡ length cs
parameters_length line column [] = refl
parameters_length line column (c ∷ cs) = ap suc (parameters_length line (column + 8) cs)

in_first : (n x : ℕ) → x < n → InScope (first_scope n) x
in_first zero x h = absurd (omega (arith, h))
in_first (suc n) x h = by (in_first n x) (x == n) refl
  where
    by : (x < n → InScope (first_scope n) x) → (t : Bool) → (x == n) ≡ t → InScope (first_scope (suc n)) x
    by rest true e = inl (grind (arith, e))
    by rest false e = inr (rest (grind (arith, e, h)))

parameter_below : (c x : ℕ) (cs : List ℕ) → IsDeclared (parameter_names x cs) c → or_zero (variable_of c (parameter_names x cs)) < x + length cs
parameter_below c x [] is = absurd (is refl)
parameter_below c x (d ∷ ds) is = by (parameter_below c (suc x) ds) (c == d) refl
  where
    by : (IsDeclared (parameter_names (suc x) ds) c → or_zero (variable_of c (parameter_names (suc x) ds)) < suc x + length ds) → (t : Bool) → (c == d) ≡ t →
        or_zero (variable_of c (parameter_names x (d ∷ ds))) < x + length (d ∷ ds)
    by below true e = rw e (omega arith)
    by below false e = let rest : or_zero (variable_of c (parameter_names (suc x) ds)) < suc x + length ds = below (λ h. is (rw e h)) in rw e (omega (arith, rest))

covers_parameters : (cs : List ℕ) → Covers (parameter_names 0 cs) (first_scope (length cs))
covers_parameters cs = record { by = λ c is. in_first (length cs) (or_zero (variable_of c (parameter_names 0 cs))) (omega (arith, parameter_below c 0 cs is)) }

covers_nothing : Covers [] []
covers_nothing = record { by = λ c is. absurd (is refl) }

-- ---- procedures

func_well : (callable : Callable) (ss : List Shape) (line : ℕ) (f : Func) → Serves callable ss → IsFunc f → KnowsFunc callable f → IsWellProc ss (func_proc callable line f)
func_well callable ss line f serves is knows =
    let p : Proc = func_proc callable line f in
    let a : Setting = setting ss p in
    let n : ℕ = length f.parameters in
    let last_line : ℕ = line + 1 + lines_height f.body in
    let last : Stmt = answer (at last_line 2) (value_at callable (names_at_end f) last_line 9 f.answer) in
    let same : length (parameters_at line 11 f.parameters) ≡ n = parameters_length line 11 f.parameters in
    let many : length (all_locals (height_at 7) (locals_at 7) (line + 1) f.body) ≡ sum_of (variables_at 7) f.body = locals_length (line + 1) f.body in
    let S : ℕ → Type 0 = λ k. AreWell a (first_scope k) p.body in
    let body : AreWell a (first_scope n) p.body =
    lines_well_and (around_func callable f) a serves last (n + 1) (parameter_names 0 f.parameters) (first_scope n) (line + 1) f.body is.body knows.body (covers_parameters f.parameters)
    (omega (arith, same)) (omega (arith, same, many))
    (λ scope covers. (lit< tt, value_int callable (names_at_end f) last_line ss scope covers serves 9 f.answer is.answer knows.answer)) in
    record { body = subst S (sym same) body; results = lit≤ tt }

main_well : (callable : Callable) (ss : List Shape) (line : ℕ) (ls : List (LineAt 7)) → Serves callable ss → AllByRecursion (lines 7).Is ls → KnowsBody (around_main callable) 8 0 [] ls → IsWellProc ss (main_proc callable line ls)
main_well callable ss line ls serves is knows =
    let p : Proc = main_proc callable line ls in
    let many : length (all_locals (height_at 7) (locals_at 7) (line + 1) ls) ≡ sum_of (variables_at 7) ls = locals_length (line + 1) ls in
    record { body = body_well (around_main callable) (setting ss p) serves 8 0 [] [] (line + 1) ls is knows covers_nothing (lit≤ tt) (omega (arith, many)); results = lit≤ tt }

-- ---- programs

-- what the signatures are of
abbrev shape_of : Func → Shape
shape_of f = record { parameters = length f.parameters; results = 1 }

abbrev main_shape : Shape
main_shape = record { parameters = 0; results = 0 }

typed_signatures : (callable : Callable) (line : ℕ) (fs : List Func) (k : ℕ) (ls : List (LineAt 7)) → signatures (func_procs callable line fs ++ main_proc callable k ls ∷ []) ≡ map shape_of fs ++ main_shape ∷ []
typed_signatures callable line [] k ls = refl
typed_signatures callable line (f ∷ fs) k ls =
    let here : length (parameters_at line 11 f.parameters) ≡ length f.parameters = parameters_length line 11 f.parameters in
    ap (λ (n : ℕ). record { parameters = n; results = 1 } ∷ signatures (func_procs callable (line + func_height f) fs ++ main_proc callable k ls ∷ [])) here
    ∙ ap (λ (xs : List Shape). shape_of f ∷ xs) (typed_signatures callable (line + func_height f) fs k ls)

found : (f n : ℕ) (fs : List Func) (rest : List Shape) → arity_of f (map signature_of fs) ≡ Some n → slice_get (map shape_of fs ++ rest) (position_of f (map signature_of fs)) ≡ Some (record { parameters = n; results = 1 })
found f n [] rest e = cc
found f n (g ∷ gs) rest e = by (found f n gs rest) (f == g.name) refl
  where
    by : (arity_of f (map signature_of gs) ≡ Some n → slice_get (map shape_of gs ++ rest) (position_of f (map signature_of gs)) ≡ Some (record { parameters = n; results = 1 })) → (t : Bool) → (f == g.name) ≡ t →
        slice_get (map shape_of (g ∷ gs) ++ rest) (position_of f (map signature_of (g ∷ gs))) ≡ Some (record { parameters = n; results = 1 })
    by there true h =
        let here : Some (length g.parameters) ≡ Some n = rw h at e in
        let same : length g.parameters ≡ n = cc in
        rw h (ap (λ (k : ℕ). Some (record { parameters = k; results = 1 })) same)
    by there false h = rw h (there (rw h at e))

serves_all : (fs : List Func) (ss : List Shape) → ss ≡ map shape_of fs ++ main_shape ∷ [] → Serves (listed (map signature_of fs)) ss
serves_all fs ss e = record { by = λ f n is. subst (λ (xs : List Shape). slice_get xs (position_of f (map signature_of fs)) ≡ Some (record { parameters = n; results = 1 })) (sym e) (found f n fs (main_shape ∷ []) is) }

all_procs_well : (callable : Callable) (ss : List Shape) (line : ℕ) (fs : List Func) (last : Proc) → Serves callable ss → AllByRecursion IsFunc fs → AllByRecursion (KnowsFunc callable) fs → IsWellProc ss last →
    AllWell ss (func_procs callable line fs ++ last ∷ [])
all_procs_well callable ss line [] last serves is knows well = (well, tt)
all_procs_well callable ss line (f ∷ fs) last serves is knows well =
    (func_well callable ss line f serves is.0 knows.0, all_procs_well callable ss (line + func_height f) fs last serves is.1 knows.1 well)

main_is_last : (callable : Callable) (line : ℕ) (fs : List Func) (last : Proc) → slice_get (func_procs callable line fs ++ last ∷ []) (length fs) ≡ Some last
main_is_last callable line [] last = refl
main_is_last callable line (f ∷ fs) last = main_is_last callable (line + func_height f) fs last

pub typed_well : (tree : Tree) → IsText tree → IsWell (typed tree)
typed_well tree h =
    let callable : Callable = callable_in tree in
    let k : ℕ = 3 + sum_of func_height tree.funcs in
    let main : Proc = main_proc callable k tree.main in
    let ps : List Proc = func_procs callable 3 tree.funcs ++ main ∷ [] in
    let serves : Serves callable (signatures ps) = serves_all tree.funcs (signatures ps) (typed_signatures callable 3 tree.funcs k tree.main) in
    record {
      procedures = all_procs_well callable (signatures ps) 3 tree.funcs main serves h.is.funcs h.funcs (main_well callable (signatures ps) k tree.main serves h.is.main h.main);
      main = subst IsMain (sym (main_is_last callable 3 tree.funcs main)) (refl, refl);
    }
