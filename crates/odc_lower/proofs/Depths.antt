-- The steps that are given are well: each temporary is set before it is read. At each position the
-- temporaries below a depth are known, and the depths of a form are a list beside its steps.
use Rattle.std.proofs.Common.{◌≡◌, ℕ, zero, suc, ◌+◌, ◌-◌, ◌*◌, ◌^◌, ◌<◌, ◌≤◌, ◌⊎◌, inl, inr, Bool, true, false, List, [], ◌∷◌, ◌++◌, length, map, get_or, ap, ◌∙◌, sym, subst, refl, arith, length-append}
use Rattle.std.specs.Prelude.{Option, Some, None, slice_get, nat_lt, nat_le, max}
use Rattle.std.proofs.lemmas.Bool.Decides.{nat_tests}
use Rattle.odc_core.specs.Tree.{Expr, const, slot, address, procedure, load, unary, binary, compare, call, call_value, Exprs, none, more, Stmt, eval, store, copy, zero_bytes, choose, repeat, leave, answer, check, read, write, exit, Stmts, finish, follow}
use Rattle.odc_core.specs.Well.{count}
use Rattle.odc_mid.specs.declared.tree.SystemCall.TheVariants.{Read, Write, Exit}
use Rattle.odc_mid.specs.declared.tree.MidStep.{MidStep}
use Rattle.odc_mid.specs.declared.tree.MidStep.TheVariants.{Const, Address, Move, Unary, Binary, Compare, Load, Store, Jump, Branch, Call, CallValue, Return, Check as Checks, System}
use Rattle.odc_mid.specs.Well.{Names, read_by, set_by, ways_of, IsNamed, IsStep, AllBelow, SetBelow, IsSet, Known, AreKnown, AllLead, IsStepAt, AreSteps}
use Rattle.odc_lower.specs.Plain.{Step, const_step, address_step, move_step, unary_step, binary_step, compare_step, load_step, store_step, jump_step, branch_step, call_step, call_value_step, return_step, check_step, system_step, plain}
use Rattle.odc_lower.specs.Size.{expr_nodes, exprs_nodes, stmt_size, stmts_size}
use Rattle.odc_lower.specs.Code.{temps_from}

-- ---- plain steps

abbrev pub reads_of : Step → List ℕ
reads_of (const_step to word) = []
reads_of (address_step to of) = []
reads_of (move_step to from) = from ∷ []
reads_of (unary_step to op operand) = operand ∷ []
reads_of (binary_step to op left right) = left ∷ right ∷ []
reads_of (compare_step to op left right) = left ∷ right ∷ []
reads_of (load_step to width a) = a ∷ []
reads_of (store_step width a value) = a ∷ value ∷ []
reads_of (jump_step label) = []
reads_of (branch_step condition label) = condition ∷ []
reads_of (call_step to f arguments) = arguments
reads_of (call_value_step to target arguments marked) = target ∷ arguments
reads_of (return_step value) = value ∷ []
reads_of (check_step condition which place) = condition ∷ []
reads_of (system_step (Read to a n)) = a ∷ n ∷ []
reads_of (system_step (Write d a n)) = a ∷ n ∷ []
reads_of (system_step (Exit code)) = code ∷ []

abbrev pub sets_of : Step → Option ℕ
sets_of (const_step to word) = Some to
sets_of (address_step to of) = Some to
sets_of (move_step to from) = Some to
sets_of (unary_step to op operand) = Some to
sets_of (binary_step to op left right) = Some to
sets_of (compare_step to op left right) = Some to
sets_of (load_step to width a) = Some to
sets_of (call_step to f arguments) = Some to
sets_of (call_value_step to target arguments marked) = Some to
sets_of (system_step (Read to a n)) = Some to
sets_of _ = None

abbrev pub ways_from : ℕ → Step → List ℕ
ways_from i (jump_step label) = label ∷ []
ways_from i (branch_step condition label) = suc i ∷ label ∷ []
ways_from i (return_step value) = []
ways_from i (system_step (Exit code)) = []
ways_from i _ = suc i ∷ []

abbrev pub IsNamedStep : Names → Step → Type 0
IsNamedStep names (const_step to word) = word < 2 ^ 64
IsNamedStep names (address_step to of) = IsNamed names of
IsNamedStep names (call_step to f arguments) = slice_get names.parameters f ≡ Some (length arguments)
IsNamedStep names _ = Unit {0}

reads_same : (s : MidStep) → reads_of (plain s) ≡ read_by s
reads_same (Const to word) = refl
reads_same (Address to of) = refl
reads_same (Move to from) = refl
reads_same (Unary to op operand) = refl
reads_same (Binary to op left right) = refl
reads_same (Compare to op left right) = refl
reads_same (Load to width a) = refl
reads_same (Store width a value) = refl
reads_same (Jump label) = refl
reads_same (Branch condition label) = refl
reads_same (Call to f arguments) = refl
reads_same (CallValue to target arguments marked) = refl
reads_same (Return value) = refl
reads_same (Checks condition which place) = refl
reads_same (System (Read to a n)) = refl
reads_same (System (Write d a n)) = refl
reads_same (System (Exit code)) = refl

sets_same : (s : MidStep) → sets_of (plain s) ≡ set_by s
sets_same (Const to word) = refl
sets_same (Address to of) = refl
sets_same (Move to from) = refl
sets_same (Unary to op operand) = refl
sets_same (Binary to op left right) = refl
sets_same (Compare to op left right) = refl
sets_same (Load to width a) = refl
sets_same (Store width a value) = refl
sets_same (Jump label) = refl
sets_same (Branch condition label) = refl
sets_same (Call to f arguments) = refl
sets_same (CallValue to target arguments marked) = refl
sets_same (Return value) = refl
sets_same (Checks condition which place) = refl
sets_same (System (Read to a n)) = refl
sets_same (System (Write d a n)) = refl
sets_same (System (Exit code)) = refl

ways_same : (i : ℕ) (s : MidStep) → ways_from i (plain s) ≡ ways_of i s
ways_same i (Const to word) = refl
ways_same i (Address to of) = refl
ways_same i (Move to from) = refl
ways_same i (Unary to op operand) = refl
ways_same i (Binary to op left right) = refl
ways_same i (Compare to op left right) = refl
ways_same i (Load to width a) = refl
ways_same i (Store width a value) = refl
ways_same i (Jump label) = refl
ways_same i (Branch condition label) = refl
ways_same i (Call to f arguments) = refl
ways_same i (CallValue to target arguments marked) = refl
ways_same i (Return value) = refl
ways_same i (Checks condition which place) = refl
ways_same i (System (Read to a n)) = refl
ways_same i (System (Write d a n)) = refl
ways_same i (System (Exit code)) = refl

named_same : (names : Names) (s : MidStep) → IsNamedStep names (plain s) → IsStep names s
named_same names (Const to word) h = h
named_same names (Address to of) h = h
named_same names (Move to from) h = h
named_same names (Unary to op operand) h = h
named_same names (Binary to op left right) h = h
named_same names (Compare to op left right) h = h
named_same names (Load to width a) h = h
named_same names (Store width a value) h = h
named_same names (Jump label) h = h
named_same names (Branch condition label) h = h
named_same names (Call to f arguments) h = h
named_same names (CallValue to target arguments marked) h = h
named_same names (Return value) h = h
named_same names (Checks condition which place) h = h
named_same names (System (Read to a n)) h = h
named_same names (System (Write d a n)) h = h
named_same names (System (Exit code)) h = h

-- ---- depths

abbrev pub depth_at : List ℕ → ℕ → ℕ
depth_at ds i = get_or ds i 0

abbrev pub known_by : List ℕ → Known
known_by ds i t = nat_lt t (depth_at ds i)

-- what is known behind a step was known before it, or is set by it
pub record Reaches (ds : List ℕ) (i : ℕ) (x : Step) (j : ℕ) : Type 0 where
  pub by : (depth_at ds j ≤ depth_at ds i) ⊎ ((depth_at ds j ≡ depth_at ds i + 1) × IsSet (sets_of x) (depth_at ds i))

abbrev pub AllReach : Names → List ℕ → ℕ → Step → List ℕ → Type 0
AllReach names ds i x [] = Unit {0}
AllReach names ds i x (j ∷ js) = ((j < names.steps) × Reaches ds i x j) × AllReach names ds i x js

pub record Fit (names : Names) (ds : List ℕ) (i : ℕ) (x : Step) : Type 0 where
  pub named : IsNamedStep names x
  pub reads : AllBelow (depth_at ds i) (reads_of x)
  pub room : depth_at ds i ≤ names.temporaries
  pub sets : SetBelow names.temporaries (sets_of x)
  pub ways : AllReach names ds i x (ways_from i x)

abbrev pub Fits : Names → List ℕ → ℕ → List Step → Type 0
Fits names ds i [] = Unit {0}
Fits names ds i (x ∷ xs) = Fit names ds i x × Fits names ds (i + 1) xs

below_weaker : (n m : ℕ) (ts : List ℕ) → n ≤ m → AllBelow n ts → AllBelow m ts
below_weaker n m [] le h = tt
below_weaker n m (t ∷ ts) le h = (omega (arith, h.0), below_weaker n m ts le h.1)

known_all : (ds : List ℕ) (i : ℕ) (ts : List ℕ) → AllBelow (depth_at ds i) ts → AreKnown (known_by ds) i ts
known_all ds i [] h = tt
known_all ds i (t ∷ ts) h = (known_one t (depth_at ds i) h.0, known_all ds i ts h.1)
  where
    known_one : (t n : ℕ) → t < n → nat_lt t n ≡ true
    known_one t n low = grind (arith, nat_tests)

ways_below : (names : Names) (ds : List ℕ) (i : ℕ) (x : Step) (js : List ℕ) → AllReach names ds i x js → AllBelow names.steps js
ways_below names ds i x [] h = tt
ways_below names ds i x (j ∷ js) h = (h.0.0, ways_below names ds i x js h.1)

leads_by : (ds : List ℕ) (i j t : ℕ) (x : Step) (o : Option ℕ) → sets_of x ≡ o → Reaches ds i x j → nat_lt t (depth_at ds j) ≡ true → (nat_lt t (depth_at ds i) ≡ true) ⊎ IsSet o t
leads_by ds i j t x o same r known = elim r.by [
  | inl less ↦ inl (grind (arith, nat_tests))
  | inr one ↦ by_test (nat_lt t (depth_at ds i)) refl one.0 (subst (λ (y : Option ℕ). IsSet y (depth_at ds i)) same one.1)
]
  where
    by_test : (b : Bool) → nat_lt t (depth_at ds i) ≡ b → depth_at ds j ≡ depth_at ds i + 1 → IsSet o (depth_at ds i) → (nat_lt t (depth_at ds i) ≡ true) ⊎ IsSet o t
    by_test true e deep set = inl e
    by_test false e deep set = inr (let last : depth_at ds i ≡ t = grind (arith, nat_tests) in subst (λ (y : ℕ). IsSet o y) last set)

leads_all : (names : Names) (ds : List ℕ) (i : ℕ) (s : MidStep) (js : List ℕ) → AllReach names ds i (plain s) js → AllLead (known_by ds) i s js
leads_all names ds i s [] h = tt
leads_all names ds i s (j ∷ js) h = (record { by = λ t known. leads_by ds i j t (plain s) (set_by s) (sets_same s) h.0.1 known }, leads_all names ds i s js h.1)

well_step : (names : Names) (ds : List ℕ) (i : ℕ) (s : MidStep) → Fit names ds i (plain s) → IsStepAt names (known_by ds) i s
well_step names ds i s h =
    let ways : AllReach names ds i (plain s) (ways_of i s) = subst (λ (js : List ℕ). AllReach names ds i (plain s) js) (ways_same i s) h.ways in
    let reads : AllBelow (depth_at ds i) (read_by s) = subst (λ (ts : List ℕ). AllBelow (depth_at ds i) ts) (reads_same s) h.reads in
    record {
      named = named_same names s h.named;
      reads = below_weaker (depth_at ds i) names.temporaries (read_by s) h.room reads;
      sets = subst (λ (o : Option ℕ). SetBelow names.temporaries o) (sets_same s) h.sets;
      ready = known_all ds i (read_by s) reads;
      ways = ways_below names ds i (plain s) (ways_of i s) ways;
      leads = leads_all names ds i s (ways_of i s) ways;
    }

pub well_steps : (names : Names) (ds : List ℕ) (i : ℕ) (steps : List MidStep) → Fits names ds i (map plain steps) → AreSteps names (known_by ds) i steps
well_steps names ds i [] h = tt
well_steps names ds i (s ∷ steps) h =
    let next : i + 1 ≡ suc i = omega arith in
    (well_step names ds i s h.0, subst (λ (k : ℕ). AreSteps names (known_by ds) k steps) next (well_steps names ds (i + 1) steps h.1))

-- ---- lists beside each other

-- these depths stand from one position on
abbrev pub Along : List ℕ → ℕ → List ℕ → Type 0
Along ds i [] = Unit {0}
Along ds i (x ∷ xs) = (depth_at ds i ≡ x) × Along ds (i + 1) xs

pub along_first : (ds : List ℕ) (i : ℕ) (xs ys : List ℕ) → Along ds i (xs ++ ys) → Along ds i xs
along_first ds i [] ys h = tt
along_first ds i (x ∷ xs) ys h = (h.0, along_first ds (i + 1) xs ys h.1)

pub along_second : (ds : List ℕ) (i n : ℕ) (xs ys : List ℕ) → length xs ≡ n → Along ds i (xs ++ ys) → Along ds (i + n) ys
along_second ds i n [] ys e h = let same : i ≡ i + n = omega (arith, e) in subst (λ (k : ℕ). Along ds k ys) same h
along_second ds i n (x ∷ xs) ys e h =
    let rest : length xs ≡ n - 1 = omega (arith, e) in
    let same : i + 1 + (n - 1) ≡ i + n = omega (arith, e) in
    subst (λ (k : ℕ). Along ds k ys) same (along_second ds (i + 1) (n - 1) xs ys rest h.1)

pub fits_join : (names : Names) (ds : List ℕ) (i n : ℕ) (xs ys : List Step) → length xs ≡ n → Fits names ds i xs → Fits names ds (i + n) ys → Fits names ds i (xs ++ ys)
fits_join names ds i n [] ys e f g = let same : i + n ≡ i = omega (arith, e) in subst (λ (k : ℕ). Fits names ds k ys) same g
fits_join names ds i n (x ∷ xs) ys e f g =
    let rest : length xs ≡ n - 1 = omega (arith, e) in
    let same : i + n ≡ i + 1 + (n - 1) = omega (arith, e) in
    (f.0, fits_join names ds (i + 1) (n - 1) xs ys rest f.1 (subst (λ (k : ℕ). Fits names ds k ys) same g))

pub temps_below : (d n m : ℕ) → d + n ≤ m → AllBelow m (temps_from d n)
temps_below d zero m h = tt
temps_below d (suc n) m h = (omega arith, temps_below (d + 1) n m (omega arith))

pub temps_length : (d n : ℕ) → length (temps_from d n) ≡ n
temps_length d zero = refl
temps_length d (suc n) = ap suc (temps_length (d + 1) n)

-- ---- the depths of each form

abbrev mutual
  pub expr_depths : ℕ → Expr → List ℕ
  expr_depths d (const word) = d ∷ []
  expr_depths d (slot x) = d ∷ []
  expr_depths d (address n) = d ∷ []
  expr_depths d (procedure f) = d ∷ []
  expr_depths d (load width e) = expr_depths d e ++ ((d + 1) ∷ [])
  expr_depths d (unary op e) = expr_depths d e ++ ((d + 1) ∷ [])
  expr_depths d (binary op a b) = expr_depths d a ++ (expr_depths (d + 1) b ++ ((d + 2) ∷ []))
  expr_depths d (compare op a b) = expr_depths d a ++ (expr_depths (d + 1) b ++ ((d + 2) ∷ []))
  expr_depths d (call f es) = exprs_depths d es ++ ((d + count es) ∷ [])
  expr_depths d (call_value e es marked) = expr_depths d e ++ (exprs_depths (d + 1) es ++ ((d + 1 + count es) ∷ []))

  pub exprs_depths : ℕ → Exprs → List ℕ
  exprs_depths d none = []
  exprs_depths d (more e es) = expr_depths d e ++ exprs_depths (d + 1) es

pub joined : (a b : List ℕ) (m n : ℕ) → length a ≡ m → length b ≡ n → length (a ++ b) ≡ m + n
joined a b m n p q = omega (arith, length-append a b, p, q)

mutual
  pub depths_length : (e : Expr) (d : ℕ) → length (expr_depths d e) ≡ expr_nodes e
  depths_length (const word) d = refl
  depths_length (slot x) d = refl
  depths_length (address n) d = refl
  depths_length (procedure f) d = refl
  depths_length (load width e) d = joined (expr_depths d e) ((d + 1) ∷ []) (expr_nodes e) 1 (depths_length e d) refl
  depths_length (unary op e) d = joined (expr_depths d e) ((d + 1) ∷ []) (expr_nodes e) 1 (depths_length e d) refl
  depths_length (binary op a b) d =
      let back = joined (expr_depths (d + 1) b) ((d + 2) ∷ []) (expr_nodes b) 1 (depths_length b (d + 1)) refl in
      let all = joined (expr_depths d a) (expr_depths (d + 1) b ++ ((d + 2) ∷ [])) (expr_nodes a) (expr_nodes b + 1) (depths_length a d) back in
      omega (arith, all)
  depths_length (compare op a b) d =
      let back = joined (expr_depths (d + 1) b) ((d + 2) ∷ []) (expr_nodes b) 1 (depths_length b (d + 1)) refl in
      let all = joined (expr_depths d a) (expr_depths (d + 1) b ++ ((d + 2) ∷ [])) (expr_nodes a) (expr_nodes b + 1) (depths_length a d) back in
      omega (arith, all)
  depths_length (call f es) d = joined (exprs_depths d es) ((d + count es) ∷ []) (exprs_nodes es) 1 (exprs_depths_length es d) refl
  depths_length (call_value e es marked) d =
      let back = joined (exprs_depths (d + 1) es) ((d + 1 + count es) ∷ []) (exprs_nodes es) 1 (exprs_depths_length es (d + 1)) refl in
      let all = joined (expr_depths d e) (exprs_depths (d + 1) es ++ ((d + 1 + count es) ∷ [])) (expr_nodes e) (exprs_nodes es + 1) (depths_length e d) back in
      omega (arith, all)

  pub exprs_depths_length : (es : Exprs) (d : ℕ) → length (exprs_depths d es) ≡ exprs_nodes es
  exprs_depths_length none d = refl
  exprs_depths_length (more e es) d = joined (expr_depths d e) (exprs_depths (d + 1) es) (expr_nodes e) (exprs_nodes es) (depths_length e d) (exprs_depths_length es (d + 1))

-- the loops over bytes
abbrev pub piece_depths : ℕ → ℕ → ℕ → List ℕ
piece_depths d c0 c1 = c0 ∷ c1 ∷ (d + 6) ∷ (d + 6) ∷ (d + 6) ∷ (d + 6) ∷ (d + 6) ∷ (d + 6) ∷ (d + 6) ∷ (d + 6) ∷ []

abbrev pub clear_depths : ℕ → ℕ → ℕ → List ℕ
clear_depths d c0 c1 = c0 ∷ c1 ∷ (d + 5) ∷ (d + 5) ∷ (d + 5) ∷ (d + 5) ∷ (d + 5) ∷ (d + 6) ∷ []

abbrev pub copy_depths : ℕ → List ℕ
copy_depths d =
    (d + 3) ∷ (d + 4) ∷ (piece_depths d (d + 4) (d + 5) ++ (piece_depths d (d + 6) (d + 6) ++ ((d + 6) ∷ (d + 4) ∷ (d + 4) ∷ (piece_depths d (d + 4) (d + 5) ++ piece_depths d (d + 6) (d + 6)))))

abbrev pub zero_depths : ℕ → List ℕ
zero_depths d = (d + 2) ∷ (clear_depths d (d + 3) (d + 4) ++ clear_depths d (d + 5) (d + 5))

abbrev mutual
  pub stmt_depths : ℕ → Stmt → List ℕ
  stmt_depths d (eval value) = expr_depths d value
  stmt_depths d (store width to value) = expr_depths d to ++ (expr_depths (d + 1) value ++ ((d + 2) ∷ []))
  stmt_depths d (copy to from size) = expr_depths d to ++ (expr_depths (d + 1) from ++ (expr_depths (d + 2) size ++ copy_depths d))
  stmt_depths d (zero_bytes to size) = expr_depths d to ++ (expr_depths (d + 1) size ++ zero_depths d)
  stmt_depths d (choose condition first second) = expr_depths d condition ++ ((d + 1) ∷ (stmts_depths d second ++ (d ∷ stmts_depths d first)))
  stmt_depths d (repeat body) = d ∷ (stmts_depths d body ++ (d ∷ []))
  stmt_depths d (leave depth) = d ∷ []
  stmt_depths d (answer value) = expr_depths d value ++ ((d + 1) ∷ [])
  stmt_depths d (check condition which place) = expr_depths d condition ++ ((d + 1) ∷ [])
  stmt_depths d (read to size taken) = expr_depths d to ++ (expr_depths (d + 1) size ++ (expr_depths (d + 2) taken ++ ((d + 3) ∷ (d + 4) ∷ [])))
  stmt_depths d (write descriptor from size) = expr_depths d from ++ (expr_depths (d + 1) size ++ ((d + 2) ∷ []))
  stmt_depths d (exit code) = expr_depths d code ++ ((d + 1) ∷ [])

  pub stmts_depths : ℕ → Stmts → List ℕ
  stmts_depths d finish = []
  stmts_depths d (follow s ss) = stmt_depths d s ++ stmts_depths d ss

joined_three : (a b c : List ℕ) (m n k : ℕ) → length a ≡ m → length b ≡ n → length c ≡ k → length (a ++ (b ++ c)) ≡ m + n + k
joined_three a b c m n k p q r = omega (arith, length-append a (b ++ c), length-append b c, p, q, r)

mutual
  pub stmt_depths_length : (s : Stmt) (d : ℕ) → length (stmt_depths d s) ≡ stmt_size s
  stmt_depths_length (eval value) d = depths_length value d
  stmt_depths_length (store width to value) d = joined_three (expr_depths d to) (expr_depths (d + 1) value) ((d + 2) ∷ []) (expr_nodes to) (expr_nodes value) 1 (depths_length to d) (depths_length value (d + 1)) refl
  stmt_depths_length (copy to from size) d =
      let back = joined_three (expr_depths (d + 1) from) (expr_depths (d + 2) size) (copy_depths d) (expr_nodes from) (expr_nodes size) 45 (depths_length from (d + 1)) (depths_length size (d + 2)) refl in
      let all = joined (expr_depths d to) (expr_depths (d + 1) from ++ (expr_depths (d + 2) size ++ copy_depths d)) (expr_nodes to) (expr_nodes from + expr_nodes size + 45) (depths_length to d) back in
      omega (arith, all)
  stmt_depths_length (zero_bytes to size) d = joined_three (expr_depths d to) (expr_depths (d + 1) size) (zero_depths d) (expr_nodes to) (expr_nodes size) 17 (depths_length to d) (depths_length size (d + 1)) refl
  stmt_depths_length (choose condition first second) d =
      let one = stmts_depths_length first d in
      let back = joined (stmts_depths d second) (d ∷ stmts_depths d first) (stmts_size second) (stmts_size first + 1) (stmts_depths_length second d) (omega (arith, one)) in
      let all = joined (expr_depths d condition) ((d + 1) ∷ (stmts_depths d second ++ (d ∷ stmts_depths d first))) (expr_nodes condition) (stmts_size second + (stmts_size first + 1) + 1) (depths_length condition d) (omega (arith, back)) in
      omega (arith, all)
  stmt_depths_length (repeat body) d = let all = joined (stmts_depths d body) (d ∷ []) (stmts_size body) 1 (stmts_depths_length body d) refl in omega (arith, all)
  stmt_depths_length (leave depth) d = refl
  stmt_depths_length (answer value) d = joined (expr_depths d value) ((d + 1) ∷ []) (expr_nodes value) 1 (depths_length value d) refl
  stmt_depths_length (check condition which place) d = joined (expr_depths d condition) ((d + 1) ∷ []) (expr_nodes condition) 1 (depths_length condition d) refl
  stmt_depths_length (read to size taken) d =
      let back = joined_three (expr_depths (d + 1) size) (expr_depths (d + 2) taken) ((d + 3) ∷ (d + 4) ∷ []) (expr_nodes size) (expr_nodes taken) 2 (depths_length size (d + 1)) (depths_length taken (d + 2)) refl in
      let all = joined (expr_depths d to) (expr_depths (d + 1) size ++ (expr_depths (d + 2) taken ++ ((d + 3) ∷ (d + 4) ∷ []))) (expr_nodes to) (expr_nodes size + expr_nodes taken + 2) (depths_length to d) back in
      omega (arith, all)
  stmt_depths_length (write descriptor from size) d = joined_three (expr_depths d from) (expr_depths (d + 1) size) ((d + 2) ∷ []) (expr_nodes from) (expr_nodes size) 1 (depths_length from d) (depths_length size (d + 1)) refl
  stmt_depths_length (exit code) d = joined (expr_depths d code) ((d + 1) ∷ []) (expr_nodes code) 1 (depths_length code d) refl

  pub stmts_depths_length : (ss : Stmts) (d : ℕ) → length (stmts_depths d ss) ≡ stmts_size ss
  stmts_depths_length finish d = refl
  stmts_depths_length (follow s ss) d = joined (stmt_depths d s) (stmts_depths d ss) (stmt_size s) (stmts_size ss) (stmt_depths_length s d) (stmts_depths_length ss d)

abbrev pub parameters_depths : ℕ → ℕ → List ℕ
parameters_depths d zero = []
parameters_depths d (suc n) = d ∷ (d + 1) ∷ parameters_depths d n

pub parameters_depths_length : (d n : ℕ) → length (parameters_depths d n) ≡ 2 * n
parameters_depths_length d zero = refl
parameters_depths_length d (suc n) = omega (arith, parameters_depths_length d n)

-- an expression begins at its own depth
pub expr_begins : (ds : List ℕ) (e : Expr) (d i : ℕ) → Along ds i (expr_depths d e) → depth_at ds i ≡ d
expr_begins ds (const word) d i h = h.0
expr_begins ds (slot x) d i h = h.0
expr_begins ds (address n) d i h = h.0
expr_begins ds (procedure f) d i h = h.0
expr_begins ds (load width e) d i h = expr_begins ds e d i (along_first ds i (expr_depths d e) ((d + 1) ∷ []) h)
expr_begins ds (unary op e) d i h = expr_begins ds e d i (along_first ds i (expr_depths d e) ((d + 1) ∷ []) h)
expr_begins ds (binary op a b) d i h = expr_begins ds a d i (along_first ds i (expr_depths d a) (expr_depths (d + 1) b ++ ((d + 2) ∷ [])) h)
expr_begins ds (compare op a b) d i h = expr_begins ds a d i (along_first ds i (expr_depths d a) (expr_depths (d + 1) b ++ ((d + 2) ∷ [])) h)
expr_begins ds (call f none) d i h = omega (arith, h.0)
expr_begins ds (call f (more e es)) d i h =
    expr_begins ds e d i (along_first ds i (expr_depths d e) (exprs_depths (d + 1) es) (along_first ds i (expr_depths d e ++ exprs_depths (d + 1) es) ((d + suc (count es)) ∷ []) h))
expr_begins ds (call_value e es marked) d i h = expr_begins ds e d i (along_first ds i (expr_depths d e) (exprs_depths (d + 1) es ++ ((d + 1 + count es) ∷ [])) h)

-- ---- single steps

module _ (names : Names) (ds : List ℕ) where
  -- a step that sets a temporary and goes on
  pub wide_fit : (x : Step) (i n depth to : ℕ) → depth_at ds i ≡ depth → i + 1 ≡ n → n < names.steps → depth_at ds n ≤ max (to + 1) depth → to ≤ depth → IsNamedStep names x → AllBelow depth (reads_of x) →
      depth ≤ names.temporaries → to < names.temporaries → sets_of x ≡ Some to → ways_from i x ≡ suc i ∷ [] → Fit names ds i x
  wide_fit x i n depth to here next inside deep low named reads room fits sets ways =
      let same : i + 1 ≡ suc i = omega arith in
      let n_is : n ≡ suc i = sym next ∙ same in
      record {
        named = named;
        reads = subst (λ (y : ℕ). AllBelow y (reads_of x)) (sym here) reads;
        room = omega (arith, here);
        sets = subst (λ (o : Option ℕ). SetBelow names.temporaries o) (sym sets) fits;
        ways = subst (λ (js : List ℕ). AllReach names ds i x js) (sym ways) (subst (λ (j : ℕ). (j < names.steps) × Reaches ds i x j) n_is (inside, record { by = by_depth (nat_le (depth_at ds n) (depth_at ds i)) refl }), tt);
      }
    where
      by_depth : (b : Bool) → nat_le (depth_at ds n) (depth_at ds i) ≡ b → (depth_at ds n ≤ depth_at ds i) ⊎ ((depth_at ds n ≡ depth_at ds i + 1) × IsSet (sets_of x) (depth_at ds i))
      by_depth true e = inl (grind (arith, nat_tests))
      by_depth false e =
          let above : depth_at ds i < depth_at ds n = grind (arith, nat_tests) in
          let one : depth_at ds n ≡ depth_at ds i + 1 = omega (arith, here) in
          let last : to ≡ depth_at ds i = omega (arith, here) in
          inr (one, subst (λ (o : Option ℕ). IsSet o (depth_at ds i)) (sym sets) last)

  pub set_fit : (x : Step) (i n depth to : ℕ) → depth_at ds i ≡ depth → i + 1 ≡ n → n < names.steps → depth_at ds n ≤ to + 1 → to ≤ depth → IsNamedStep names x → AllBelow depth (reads_of x) →
      depth ≤ names.temporaries → to < names.temporaries → sets_of x ≡ Some to → ways_from i x ≡ suc i ∷ [] → Fit names ds i x
  set_fit x i n depth to here next inside deep low named reads room fits sets ways = wide_fit x i n depth to here next inside (omega arith) low named reads room fits sets ways

  pub reach : (x : Step) (i j depth : ℕ) → depth_at ds i ≡ depth → j < names.steps → depth_at ds j ≤ depth → (j < names.steps) × Reaches ds i x j
  reach x i j depth here inside deep = (inside, record { by = inl (omega (arith, here)) })

  -- a step that sets nothing, by its ways
  pub flow_fit : (x : Step) (i depth : ℕ) → depth_at ds i ≡ depth → IsNamedStep names x → AllBelow depth (reads_of x) → depth ≤ names.temporaries → sets_of x ≡ None → AllReach names ds i x (ways_from i x) → Fit names ds i x
  flow_fit x i depth here named reads room sets ways = record {
    named = named;
    reads = subst (λ (y : ℕ). AllBelow y (reads_of x)) (sym here) reads;
    room = omega (arith, here);
    sets = subst (λ (o : Option ℕ). SetBelow names.temporaries o) (sym sets) tt;
    ways = ways;
  }

  -- a step that sets nothing and goes on
  pub pass_fit : (x : Step) (i n depth : ℕ) → depth_at ds i ≡ depth → i + 1 ≡ n → n < names.steps → depth_at ds n ≤ depth → IsNamedStep names x → AllBelow depth (reads_of x) → depth ≤ names.temporaries →
      sets_of x ≡ None → ways_from i x ≡ suc i ∷ [] → Fit names ds i x
  pass_fit x i n depth here next inside deep named reads room sets ways =
      let same : n ≡ suc i = omega (arith, next) in
      flow_fit x i depth here named reads room sets
      (subst (λ (js : List ℕ). AllReach names ds i x js) (sym ways) (subst (λ (j : ℕ). (j < names.steps) × Reaches ds i x j) same (reach x i n depth here inside deep), tt))

  pub jump_fit : (i label depth : ℕ) → depth_at ds i ≡ depth → label < names.steps → depth_at ds label ≤ depth → depth ≤ names.temporaries → Fit names ds i (jump_step label)
  jump_fit i label depth here inside deep room = flow_fit (jump_step label) i depth here tt tt room refl (reach (jump_step label) i label depth here inside deep, tt)

  pub branch_fit : (i n label condition depth : ℕ) → depth_at ds i ≡ depth → i + 1 ≡ n → n < names.steps → depth_at ds n ≤ depth → label < names.steps → depth_at ds label ≤ depth → condition < depth →
      depth ≤ names.temporaries → Fit names ds i (branch_step condition label)
  branch_fit i n label condition depth here next inside deep inside_label deep_label low room =
      let same : n ≡ suc i = omega (arith, next) in
      flow_fit (branch_step condition label) i depth here tt (low, tt) room refl (
        subst (λ (j : ℕ). (j < names.steps) × Reaches ds i (branch_step condition label) j) same (reach (branch_step condition label) i n depth here inside deep),
        (reach (branch_step condition label) i label depth here inside_label deep_label, tt),
      )

pub along_at : (ds : List ℕ) (i : ℕ) (xs : List ℕ) (k q v : ℕ) → Along ds i xs → slice_get xs k ≡ Some v → i + k ≡ q → depth_at ds q ≡ v
along_at ds i [] k q v h at e = absurd (cc)
along_at ds i (x ∷ xs) zero q v h at e = let same : x ≡ v = cc in let place : i ≡ q = omega arith in subst (λ (j : ℕ). depth_at ds j ≡ v) place (h.0 ∙ same)
along_at ds i (x ∷ xs) (suc k) q v h at e = along_at ds (i + 1) xs k q v h.1 at (omega arith)

get_behind : (front : List ℕ) (x : ℕ) (rest : List ℕ) → get_or (front ++ (x ∷ rest)) (length front) 0 ≡ x
get_behind [] x rest = refl
get_behind (y ∷ front) x rest = get_behind front x rest

append_one : (front : List ℕ) (x : ℕ) (rest : List ℕ) → (front ++ (x ∷ [])) ++ rest ≡ front ++ (x ∷ rest)
append_one [] x rest = refl
append_one (y ∷ front) x rest = ap (λ (zs : List ℕ). y ∷ zs) (append_one front x rest)

along_behind : (front xs all : List ℕ) → all ≡ front ++ xs → Along all (length front) xs
along_behind front [] all e = tt
along_behind front (x ∷ xs) all e =
    let more : length (front ++ (x ∷ [])) ≡ length front + 1 = omega (arith, length-append front (x ∷ [])) in (
      ap (λ (ys : List ℕ). get_or ys (length front) 0) e ∙ get_behind front x xs,
      subst (λ (k : ℕ). Along all k xs) more (along_behind (front ++ (x ∷ [])) xs all (e ∙ sym (append_one front x xs))),
    )

-- a list stands in itself
pub along_whole : (xs : List ℕ) → Along xs 0 xs
along_whole xs = along_behind [] xs xs refl
