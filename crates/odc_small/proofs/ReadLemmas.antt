-- What loops have read so far: a fold over items from front to back, and a list of expressions.
use Rattle.std.proofs.Common.{◌≡◌, ◌<◌, ◌≤◌, ◌+◌, ℕ, suc, List, [], ◌∷◌, ◌++◌, length, refl, sym, ◌∙◌, ap, arith, codes, length-append}
use Rattle.odc_typed.specs.declared.tree.TExpr.{TExpr}
use Rattle.odc_typed.specs.Tree.{Expr, Exprs, none, more}
use Rattle.odc_typed.specs.View.{expr, exprs}
use Rattle.odc_small.specs.Forms.{Form, FoundAt, NoneAt, spellings, many}
use Rattle.odc_small.specs.Grammar.{next_spelling}
use Rattle.odc_small.specs.Reading.{column_at, nexts_of, lists_of, ReadsAt}
use Rattle.odc_small.specs.Typing.{list_exprs}
use Rattle.odc_small.proofs.FormLemmas.{SoFar, none_yet, one_more, all_found, shorter, both_found}

-- ---- columns

pub column_after : (origin : ℕ) (bytes text rest : List ℕ) → bytes ≡ text ++ rest → length bytes ≤ origin → column_at origin rest ≡ column_at origin bytes + length text
column_after origin bytes text rest e h = omega (arith, ap length e, length-append text rest)

pub rest_within : (bytes text rest : List ℕ) → bytes ≡ text ++ rest → length rest ≤ length bytes
rest_within bytes text rest e = omega (arith, ap length e, length-append text rest)

pub found_within : {T : Type 0} (form : Form T) (bytes rest : List ℕ) (t : T) → FoundAt form bytes t rest → length rest ≤ length bytes
found_within form bytes rest t f = rest_within bytes (form.spelling t) rest f.whole

-- ---- folds

-- what items make of a value, by the column at which each begins
abbrev pub fold_from : {T R : Type 0} → (T → List ℕ) → (ℕ → R → T → R) → ℕ → R → List T → R
fold_from spelling step column left [] = left
fold_from spelling step column left (t ∷ ts) = fold_from spelling step (column + length (spelling t)) (step column left t) ts

pub fold_push : {T R : Type 0} (spelling : T → List ℕ) (step : ℕ → R → T → R) (column : ℕ) (left : R) (ts : List T) (t : T)
    → fold_from spelling step column left (ts ++ t ∷ []) ≡ step (column + length (spellings spelling ts)) (fold_from spelling step column left ts) t
fold_push {R = R} spelling step column left [] t =
    let e : column ≡ column + 0 = omega arith in
    ap (λ (k : ℕ). step k left t) e
fold_push spelling step column left (u ∷ ts) t =
    let e : column + length (spelling u) + length (spellings spelling ts) ≡ column + length (spelling u ++ spellings spelling ts) =
    omega (arith, length-append (spelling u) (spellings spelling ts)) in
    fold_push spelling step (column + length (spelling u)) (step column left u) ts t
    ∙ ap (λ (k : ℕ). step k (fold_from spelling step (column + length (spelling u)) (step column left u) ts) t) e

pub record FoldSoFar {T R : Type 0} (form : Form T) (step : ℕ → R → T → R) (origin : ℕ) (mid rest : List ℕ) (start left : R) (count : ℕ) : Type 0 where
  pub items : List T
  pub so_far : SoFar form mid items rest
  pub gives : left ≡ fold_from form.spelling step (column_at origin mid) start items
  pub count_is : length items ≡ count
  pub within : count + length rest ≤ length mid

module _ {T R : Type 0} (form : Form T) (step : ℕ → R → T → R) (origin : ℕ) where
  pub fold_none : (mid : List ℕ) (start : R) → form.Ends mid → FoldSoFar form step origin mid mid start start 0
  fold_none mid start ends = record { items = []; so_far = none_yet form mid ends; gives = refl; count_is = refl; within = omega arith }

  pub fold_next : (mid rest after : List ℕ) (start left next : R) (count : ℕ) (t : T) → FoldSoFar form step origin mid rest start left count
      → FoundAt form rest t after → 0 < length (form.spelling t) → length mid ≤ origin → next ≡ step (column_at origin rest) left t
      → FoldSoFar form step origin mid after start next (count + 1)
  fold_next mid rest after start left next count t s f some h e = record {
    items = s.items ++ t ∷ [];
    so_far = one_more form mid s.items rest t after s.so_far f;
    gives = e
        ∙ ap (λ (k : ℕ). step k left t) (column_after origin mid (spellings form.spelling s.items) rest s.so_far.whole h)
        ∙ ap (λ (l : R). step (column_at origin mid + length (spellings form.spelling s.items)) l t) s.gives
        ∙ sym (fold_push form.spelling step (column_at origin mid) start s.items t);
    count_is = length-append s.items (t ∷ []) ∙ ap (λ k. k + 1) s.count_is;
    within = omega (arith, s.within, shorter form rest t after f some);
  }

  pub fold_all : (mid rest : List ℕ) (start left : R) (count : ℕ) → (s : FoldSoFar form step origin mid rest start left count) → NoneAt form rest → FoundAt (many form) mid s.items rest
  fold_all mid rest start left count s off = all_found form mid s.items rest s.so_far off

-- ---- lists of expressions

abbrev pub push : Exprs → Expr → Exprs
push none e = more e none
push (more f r) e = more f (push r e)

pub exprs_push : (es : List TExpr) (e : TExpr) → exprs (es ++ e ∷ []) ≡ push (exprs es) (expr e)
exprs_push [] e = refl
exprs_push (f ∷ es) e = ap (more (expr f)) (exprs_push es e)

abbrev pub count_of : Exprs → ℕ
count_of none = 0
count_of (more f r) = suc (count_of r)

pub count_exprs : (es : List TExpr) → count_of (exprs es) ≡ length es
count_exprs [] = refl
count_exprs (e ∷ es) = ap (λ k. suc k) (count_exprs es)

module _ {T : Type 0} (items : Form T) (told : ℕ → T → Expr) where
  -- the width of items with a comma and a space behind each
  abbrev pub width : List T → ℕ
  width [] = 0
  width (t ∷ ts) = length (items.spelling t) + 2 + width ts

  pub width_push : (ts : List T) (t : T) → width (ts ++ t ∷ []) ≡ width ts + length (items.spelling t) + 2
  width_push [] t = omega arith
  width_push (u ∷ ts) t = omega (arith, width_push ts t)

  pub count_list : (column : ℕ) (ts : List T) → count_of (list_exprs items told column ts) ≡ length ts
  count_list column [] = refl
  count_list column (t ∷ ts) = ap (λ k. suc k) (count_list (column + length (items.spelling t) + 2) ts)

  pub list_push : (column : ℕ) (ts : List T) (t : T) → list_exprs items told column (ts ++ t ∷ []) ≡ push (list_exprs items told column ts) (told (column + width ts) t)
  list_push column [] t =
      let e : column ≡ column + 0 = omega arith in
      ap (λ (k : ℕ). more (told k t) none) e
  list_push column (u ∷ ts) t =
      let e : column + length (items.spelling u) + 2 + width ts ≡ column + (length (items.spelling u) + 2 + width ts) = omega arith in
      ap (more (told column u))
      (list_push (column + length (items.spelling u) + 2) ts t
      ∙ ap (λ (k : ℕ). push (list_exprs items told (column + length (items.spelling u) + 2) ts) (told k t)) e)

  -- a list so far
  pub record ListSoFar (origin : ℕ) (bytes rest : List ℕ) (es : Exprs) : Type 0 where
    pub first : T
    pub others : List T
    pub mid : List ℕ
    pub found : FoundAt items bytes first mid
    pub so_far : SoFar (nexts_of items) mid others rest
    pub gives : es ≡ list_exprs items told (column_at origin bytes) (first ∷ others)
    pub spaced : length bytes + 2 ≡ width (first ∷ others) + length rest
    pub within : length rest ≤ length bytes

  pub list_first : (origin : ℕ) (bytes rest : List ℕ) (e : Expr) → ReadsAt items told origin bytes rest e → ListSoFar origin bytes rest (more e none)
  list_first origin bytes rest e r = record {
    first = r.tree;
    others = [];
    mid = rest;
    found = r.found;
    so_far = none_yet (nexts_of items) rest r.found.ends;
    gives = ap (λ (v : Expr). more v none) r.gives;
    spaced = omega (arith, ap length r.found.whole, length-append (items.spelling r.tree) rest);
    within = found_within items bytes rest r.tree r.found;
  }

  pub list_next : (origin : ℕ) (bytes rest after : List ℕ) (es : Exprs) (e : Expr) → ListSoFar origin bytes rest es
      → ReadsAt (nexts_of items) (λ column t. told (column + 2) t) origin rest after e → length bytes ≤ origin → ListSoFar origin bytes after (push es e)
  list_next origin bytes rest after es e s r h =
      let next : length rest ≡ 2 + length (items.spelling r.tree) + length after =
      omega (arith, ap length r.found.whole, length-append (next_spelling items.spelling r.tree) after, length-append (codes ", ") (items.spelling r.tree)) in
      let here : column_at origin rest + 2 ≡ column_at origin bytes + width (s.first ∷ s.others) = omega (arith, s.spaced, s.within) in
      record {
        first = s.first;
        others = s.others ++ r.tree ∷ [];
        mid = s.mid;
        found = s.found;
        so_far = one_more (nexts_of items) s.mid s.others rest r.tree after s.so_far r.found;
        gives = ap (λ (v : Expr). push es v) (r.gives ∙ ap (λ (k : ℕ). told k r.tree) here)
            ∙ ap (λ (v : Exprs). push v (told (column_at origin bytes + width (s.first ∷ s.others)) r.tree)) s.gives
            ∙ sym (list_push (column_at origin bytes) (s.first ∷ s.others) r.tree);
        spaced = omega (arith, next, s.spaced, width_push s.others r.tree);
        within = omega (arith, next, s.within);
      }

  pub list_done : (origin : ℕ) (bytes rest : List ℕ) (es : Exprs) → ListSoFar origin bytes rest es → NoneAt (nexts_of items) rest
      → ReadsAt (lists_of items) (λ column p. list_exprs items told column (p.0 ∷ p.1)) origin bytes rest es
  list_done origin bytes rest es s off = record {
    tree = (s.first, s.others);
    found = both_found items (many (nexts_of items)) bytes s.mid rest s.first s.others s.found (all_found (nexts_of items) s.mid s.others rest s.so_far off);
    gives = s.gives;
  }
