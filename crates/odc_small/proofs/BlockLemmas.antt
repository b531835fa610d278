-- What the functions that read lines find, and what the lines become.
use Rattle.std.proofs.Common.{◌≡◌, ◌≢◌, ◌<◌, ◌≤◌, ◌+◌, ◌-◌, ℕ, zero, suc, List, [], ◌∷◌, ◌++◌, length, take, refl, sym, ◌∙◌, ap, subst, append_assoc, arith, codes, length-append, add_assoc, Option, Some, None}
use Rattle.std.specs.List.{AllByRecursion}
use Rattle.std.proofs.lemmas.List.{append-nil}
use Rattle.std.proofs.Math.Seq.{take-append_seam}
use Rattle.std.proofs.Math.ListN.{length-replicate}
use Rattle.odc_typed.specs.declared.tree.Local.{Local}
use Rattle.odc_typed.specs.declared.tree.TStmt.{TStmt}
use Rattle.odc_typed.specs.declared.tree.Builtin.TheVariants.{Println}
use Rattle.odc_typed.specs.Tree.{Expr, Exprs, builtin, local, Stmt, Stmts, finish, follow, eval}
use Rattle.odc_typed.specs.Tree.{declare as declares, assign as assigns}
use Rattle.odc_typed.specs.View.{stmt, stmts}
use Rattle.odc_small.specs.declared.grammar.Keyword.{Keyword}
use Rattle.odc_small.specs.declared.grammar.Relation.{Relation}
use Rattle.odc_small.specs.Forms.{FoundAt, NoneAt, spellings}
use Rattle.odc_small.specs.Grammar.{Value, declare, assign, print, nest, BodyAt, LineAt, bodies, lines, newline, tabs, keyword_spelling, inner_spelling}
use Rattle.odc_small.specs.Names.{Callable, Around, Names, MayAssign, IsDeclared, bound, or_zero, variable_of, KnowsLine, KnowsBody, sum_of, body_variables, names_behind, names_after}
use Rattle.odc_small.specs.Reading.{column_at, ReadsAt, list_told}
use Rattle.odc_small.specs.Progress.{keywords, Setting, settings, declarations, assignments, assigned_told, setting_told, prints, printing_told, Condition, conditions, condition_told, Reached, after_body, after_all, InnerAt, NoInner, NoNest, NoOuter, Moves, ReadsInner, ReadsOuter, NoBody, ReadsBody}
use Rattle.odc_small.specs.Typing.{at, value_at, nested, body_height, body_locals, all_locals, body_stmts, line_stmt, ending_with}
use Rattle.odc_small.proofs.FormLemmas.{spellings_push, both_found, both_unique, none_first, none_second}
use Rattle.odc_small.proofs.KnownLemmas.{value_split, all_split}
use Rattle.odc_small.proofs.LineLemmas.{keywords_unique, settings_unique, conditions_unique}
use Rattle.odc_small.proofs.ReadLemmas.{column_after, found_within, rest_within}
use Rattle.odc_small.proofs.BodyLemmas.{as_declare, as_assign, as_print, as_head, body_unique, no_body, tabs_cut}

abbrev pair_with : ℕ → Expr → ℕ × Expr
pair_with d v = (d, v)

-- ---- lists of statements

pub stmts_push : (ss : List TStmt) (s : TStmt) → stmts (ss ++ s ∷ []) ≡ ending_with (stmts ss) (stmt s)
stmts_push [] s = refl
stmts_push (t ∷ ss) s = ap (follow (stmt t)) (stmts_push ss s)

all_push : {T : Type 0} (P : T → Type 0) (ts : List T) (t : T) → AllByRecursion P ts → P t → AllByRecursion P (ts ++ t ∷ [])
all_push P [] t all is = (is, tt)
all_push P (u ∷ ts) t all is = (all.0, all_push P ts t all.1 is)

pub moves_on : (a b c : Reached) (x y z : List ℕ) → Moves a b x y → Moves b c y z → Moves a c x z
moves_on a b c x y z p q = record { next = omega (arith, p.next, q.next); line = omega (arith, p.line, q.line); shorter = omega (arith, p.shorter, q.shorter) }

-- ---- what has been read behind lines

after_push : (k : ℕ) (old : Reached) (ls : List (BodyAt k)) (l : BodyAt k) → after_all k old (ls ++ l ∷ []) ≡ after_body k (after_all k old ls) l
after_push k old [] l = refl
after_push k old (m ∷ ls) l = after_push k (after_body k old m) ls l

pub after_line_is : (k : ℕ) (old : Reached) (ls : List (BodyAt k)) → (after_all k old ls).line ≡ old.line + sum_of (body_height k) ls
after_line_is k old [] = omega arith
after_line_is zero old (l ∷ ls) = absurd l
after_line_is (suc j) old (l ∷ ls) = after_line_is (suc j) (after_body (suc j) old l) ls ∙ add_assoc old.line (body_height (suc j) l) (sum_of (body_height (suc j)) ls)

pub after_next_is : (k : ℕ) (old : Reached) (ls : List (BodyAt k)) → (after_all k old ls).next ≡ old.next + sum_of (body_variables k) ls
after_next_is k old [] = omega arith
after_next_is zero old (l ∷ ls) = absurd l
after_next_is (suc j) old (l ∷ ls) = after_next_is (suc j) (after_body (suc j) old l) ls ∙ add_assoc old.next (body_variables (suc j) l) (sum_of (body_variables (suc j)) ls)

pub after_locals_are : (k : ℕ) (old : Reached) (ls : List (BodyAt k)) → (after_all k old ls).locals ≡ old.locals ++ all_locals (body_height k) (body_locals k) old.line ls
after_locals_are k old [] = sym (append-nil old.locals)
after_locals_are zero old (l ∷ ls) = absurd l
after_locals_are (suc j) old (l ∷ ls) =
    after_locals_are (suc j) (after_body (suc j) old l) ls
    ∙ append_assoc old.locals (body_locals (suc j) old.line l) (all_locals (body_height (suc j)) (body_locals (suc j)) (old.line + body_height (suc j) l) ls)

pub after_names_are : (j : ℕ) (old : Reached) (ls : List (LineAt j)) → (after_all (suc j) old ls).names ≡ names_after (body_variables (suc j)) old.next old.names ls
after_names_are j old [] = refl
after_names_are j old (l ∷ ls) = after_names_are j (after_body (suc j) old l) ls

-- the names that were there stay in front
behind_keeps : (j next : ℕ) (names : Names) (l : LineAt j) → (more : Names) × (names_behind next names l ≡ names ++ more)
behind_keeps j next names (declare c v) = (bound c next ∷ [], refl)
behind_keeps j next names (assign c v) = ([], sym (append-nil names))
behind_keeps j next names (print v vs) = ([], sym (append-nil names))
behind_keeps j next names (nest w left x right body) = ([], sym (append-nil names))

all_keep : (k : ℕ) (old : Reached) (ls : List (BodyAt k)) → (more : Names) × ((after_all k old ls).names ≡ old.names ++ more)
all_keep k old [] = ([], sym (append-nil old.names))
all_keep zero old (l ∷ ls) = absurd l
all_keep (suc j) old (l ∷ ls) =
    let first = behind_keeps j old.next old.names l in
    let others = all_keep (suc j) (after_body (suc j) old l) ls in
    (first.0 ++ others.0, others.1 ∙ ap (λ z. z ++ others.0) first.1 ∙ append_assoc old.names first.0 others.0)

pub names_stay : (k : ℕ) (old : Reached) (ls : List (BodyAt k)) → take (length old.names) (after_all k old ls).names ≡ old.names
names_stay k old ls =
    let kept = all_keep k old ls in
    ap (take (length old.names)) kept.1 ∙ take-append_seam old.names kept.0

pub locals_stay : (k : ℕ) (old : Reached) (ls : List (BodyAt k)) → take (length old.locals) (after_all k old ls).locals ≡ old.locals
locals_stay k old ls = ap (take (length old.locals)) (after_locals_are k old ls) ∙ take-append_seam old.locals (all_locals (body_height k) (body_locals k) old.line ls)

moved_by : (old new : Reached) (bytes text rest : List ℕ) → bytes ≡ text ++ rest → new.next ≤ old.next + length text → new.line ≤ old.line + length text → Moves old new bytes rest
moved_by old new bytes text rest e h i =
    let total : length bytes ≡ length text + length rest = ap length e ∙ length-append text rest in
    record { next = omega (arith, total, h); line = omega (arith, total, i); shorter = omega (arith, total) }

module _ (around : Around) where
  knows_push : (j : ℕ) (old : Reached) (ls : List (LineAt j)) (l : LineAt j) → KnowsBody around (suc j) old.next old.names ls
      → KnowsLine around (KnowsBody around j) (after_all (suc j) old ls).next (after_all (suc j) old ls).names l → KnowsBody around (suc j) old.next old.names (ls ++ l ∷ [])
  knows_push j old [] l knows here = (here, tt)
  knows_push j old (m ∷ ls) l knows here = (knows.0, knows_push j (after_body (suc j) old m) ls l knows.1 here)

  body_push : (j : ℕ) (old : Reached) (ls : List (LineAt j)) (l : LineAt j)
      → body_stmts around.callable (suc j) old.next old.names old.line (ls ++ l ∷ [])
      ≡ ending_with (body_stmts around.callable (suc j) old.next old.names old.line ls)
      (line_stmt around.callable (body_stmts around.callable j) (8 - j) (after_all (suc j) old ls).next (after_all (suc j) old ls).names (after_all (suc j) old ls).line l)
  body_push j old [] l = refl
  body_push j old (m ∷ ls) l =
      ap (follow (line_stmt around.callable (body_stmts around.callable j) (8 - j) old.next old.names old.line m)) (body_push j (after_body (suc j) old m) ls l)

  -- ---- lines so far

  pub record LinesSoFar (j : ℕ) (old new : Reached) (bytes rest : List ℕ) (ss : Stmts) : Type 0 where
    pub trees : List (LineAt j)
    pub is : AllByRecursion (lines j).Is trees
    pub knows : KnowsBody around (suc j) old.next old.names trees
    pub whole : bytes ≡ spellings (lines j).spelling trees ++ rest
    pub gives : ss ≡ body_stmts around.callable (suc j) old.next old.names old.line trees
    pub after : new ≡ after_all (suc j) old trees
    pub moves : Moves old new bytes rest

  pub lines_none : (j : ℕ) (old : Reached) (bytes : List ℕ) → LinesSoFar j old old bytes bytes finish
  lines_none j old bytes = record {
    trees = [];
    is = tt;
    knows = tt;
    whole = refl;
    gives = refl;
    after = refl;
    moves = record { next = omega arith; line = omega arith; shorter = omega arith };
  }

  pub lines_next : (j : ℕ) (old now new : Reached) (bytes rest behind : List ℕ) (ss : Stmts) (s : Stmt) → LinesSoFar j old now bytes rest ss → ReadsOuter around j now new rest behind s
      → LinesSoFar j old new bytes behind (ending_with ss s)
  lines_next j old now new bytes rest behind ss s f r =
      let l = r.tree in
      let there = after_all (suc j) old f.trees in
      let K : Reached → Type 0 = λ z. KnowsLine around (KnowsBody around j) z.next z.names l in
      let S : Reached → Stmt = λ z. line_stmt around.callable (body_stmts around.callable j) (8 - j) z.next z.names z.line l in
      record {
        trees = f.trees ++ l ∷ [];
        is = all_push (lines j).Is f.trees l f.is r.found.is;
        knows = knows_push j old f.trees l f.knows (subst K f.after r.found.knows);
        whole = f.whole ∙ ap (λ z. spellings (lines j).spelling f.trees ++ z) r.found.whole
            ∙ sym (append_assoc (spellings (lines j).spelling f.trees) ((lines j).spelling l) behind)
            ∙ ap (λ z. z ++ behind) (sym (spellings_push (lines j) f.trees l));
        gives = ap (ending_with ss) (r.gives ∙ ap S f.after) ∙ ap (λ z. ending_with z (S there)) f.gives ∙ sym (body_push j old f.trees l);
        after = r.after ∙ ap (λ z. after_body (suc j) z l) f.after ∙ sym (after_push (suc j) old f.trees l);
        moves = moves_on old now new bytes rest behind f.moves r.moves;
      }

  pub lines_all : (j : ℕ) (old new : Reached) (bytes rest : List ℕ) (ss : Stmts) → LinesSoFar j old new bytes rest ss → NoOuter around j new rest → ReadsBody around (suc j) old new bytes rest ss
  lines_all j old new bytes rest ss f off = record {
    trees = f.trees;
    is = f.is;
    knows = f.knows;
    whole = f.whole;
    off = off;
    gives = f.gives;
    after = f.after;
    moves = f.moves;
  }

  -- ---- bodies

  pub body_empty : (k : ℕ) (old : Reached) (bytes : List ℕ) → k ≡ 0 → ReadsBody around k old old bytes bytes finish
  body_empty zero old bytes e = record {
    trees = [];
    is = tt;
    knows = tt;
    whole = refl;
    off = tt;
    gives = refl;
    after = refl;
    moves = record { next = omega arith; line = omega arith; shorter = omega arith };
  }
  body_empty (suc j) old bytes e = absurd (omega (arith, e))

  pub body_of : (k : ℕ) (old new : Reached) (bytes rest : List ℕ) (ss : Stmts) → 0 < k → ReadsBody around (suc (k - 1)) old new bytes rest ss → ReadsBody around k old new bytes rest ss
  body_of zero old new bytes rest ss h r = absurd (omega (arith, h))
  body_of (suc j) old new bytes rest ss h r =
      let e : suc j - 1 ≡ j = omega arith in
      subst (λ (i : ℕ). ReadsBody around (suc i) old new bytes rest ss) e r

  -- ---- one line

  module _ (k : ℕ) (old : Reached) where
    abbrev column_of : ℕ
    column_of = 8 - k + 1

    -- behind a line that declares nothing
    plain_after : (let z : Reached = record { names = old.names; locals = old.locals; next = old.next; line = old.line + 1 } in z)
        ≡ record { names = old.names; locals = old.locals ++ []; next = old.next + 0; line = old.line + 1 }
    plain_after =
        let e : old.next ≡ old.next + 0 = omega arith in
        ap (λ (v : List Local). let z : Reached = record { names = old.names; locals = v; next = old.next; line = old.line + 1 } in z) (sym (append-nil old.locals))
        ∙ ap (λ (n : ℕ). let z : Reached = record { names = old.names; locals = old.locals ++ []; next = n; line = old.line + 1 } in z) e

    abbrev locals_then : List (BodyAt k) → List Local
    locals_then ls = old.locals ++ all_locals (body_height k) (body_locals k) (old.line + 1) ls

    end_longer : 2 ≤ length (tabs (8 - k) ++ (codes "}" ++ newline))
    end_longer = omega (arith, length-append (tabs (8 - k)) (codes "}" ++ newline))

    condition_longer : (t : Condition) (b1 b2 : List ℕ) → b1 ≡ (conditions around.callable old.names).spelling t ++ b2 → length b2 ≤ length b1
    condition_longer t b1 b2 e = rest_within b1 ((conditions around.callable old.names).spelling t) b2 e

    pub declare_read : (origin : ℕ) (bytes rest : List ℕ) (c : ℕ) (e : Expr) (new : Reached) (s : Stmt)
        → ReadsAt (declarations around.callable old.names) (setting_told around.callable old.names old.line 4) origin bytes rest (c, e)
        → column_at origin bytes ≡ 8 - k + 1 → s ≡ declares (at old.line (8 - k + 1)) old.next e
        → new ≡ record { names = old.names ++ bound c old.next ∷ []; locals = old.locals ++ record { at = at old.line (8 - k + 1) } ∷ []; next = old.next + 1; line = old.line + 1 }
        → ReadsInner around k old new bytes rest s
    declare_read origin bytes rest c e new s r begins is after =
        let v = r.tree.1.1.0 in
        let same : c ≡ r.tree.0 = ap (λ (p : ℕ × Expr). p.0) r.gives in
        let split = value_split around old.names v r.found.is.0.1.1.0 in
        let column : column_at origin bytes + 1 + 4 ≡ 8 - k + 6 = omega (arith, begins) in
        record {
          tree = declare r.tree.0 v;
          found = record { is = (r.found.is.0.0, split.0); knows = (r.found.is.1, split.1); whole = r.found.whole };
          gives = is ∙ ap (declares (at old.line (8 - k + 1)) old.next) (ap (λ (p : ℕ × Expr). p.1) r.gives ∙ ap (λ (i : ℕ). value_at around.callable old.names old.line i v) column);
          after = after ∙ ap (λ (d : ℕ). let z : Reached = record { names = old.names ++ bound d old.next ∷ []; locals = old.locals ++ record { at = at old.line (8 - k + 1) } ∷ []; next = old.next + 1; line = old.line + 1 } in z) same;
          moves = moved_by old new bytes ((declarations around.callable old.names).spelling r.tree) rest r.found.whole
              (omega (arith, ap (λ (z : Reached). z.next) after)) (omega (arith, ap (λ (z : Reached). z.line) after));
          consumed = omega (arith, ap length r.found.whole, length-append ((declarations around.callable old.names).spelling r.tree) rest);
        }

    pub assign_read : (origin x : ℕ) (bytes rest : List ℕ) (e : Expr) (new : Reached) (s : Stmt)
        → ReadsAt (assignments around.callable around.parameters old.names) (assigned_told around.callable old.names old.line) origin bytes rest (x, e)
        → column_at origin bytes ≡ 8 - k + 1 → s ≡ assigns (at old.line (8 - k + 3)) (local (at old.line (8 - k + 1)) x) e
        → new ≡ record { names = old.names; locals = old.locals; next = old.next; line = old.line + 1 } → ReadsInner around k old new bytes rest s
    assign_read origin x bytes rest e new s r begins is after =
        let v = r.tree.1.1.0 in
        let same : x ≡ or_zero (variable_of r.tree.0 old.names) = ap (λ (p : ℕ × Expr). p.0) r.gives in
        let split = value_split around old.names v r.found.is.0.1.1.0 in
        let column : column_at origin bytes + 4 ≡ 8 - k + 5 = omega (arith, begins) in
        let place = at old.line (8 - k + 1) in
        let sign = at old.line (8 - k + 3) in
        record {
          tree = assign r.tree.0 v;
          found = record { is = (r.found.is.0.0, split.0); knows = (r.found.is.1, split.1); whole = r.found.whole };
          gives = is ∙ ap (assigns sign (local place x)) (ap (λ (p : ℕ × Expr). p.1) r.gives ∙ ap (λ (i : ℕ). value_at around.callable old.names old.line i v) column)
              ∙ ap (λ (y : ℕ). assigns sign (local place y) (value_at around.callable old.names old.line (8 - k + 5) v)) same;
          after = after ∙ plain_after;
          moves = moved_by old new bytes ((settings around.callable old.names (codes " = ")).spelling r.tree) rest r.found.whole
              (omega (arith, ap (λ (z : Reached). z.next) after)) (omega (arith, ap (λ (z : Reached). z.line) after));
          consumed = omega (arith, ap length r.found.whole, length-append ((settings around.callable old.names (codes " = ")).spelling r.tree) rest);
        }

    pub print_line_read : (origin : ℕ) (bytes rest : List ℕ) (es : Exprs) (new : Reached) (s : Stmt) → ReadsAt (prints around.callable old.names) (printing_told around.callable old.names old.line) origin bytes rest es
        → column_at origin bytes ≡ 8 - k + 1 → s ≡ eval (at old.line (8 - k + 1)) (builtin (at old.line (8 - k + 1)) Println es)
        → new ≡ record { names = old.names; locals = old.locals; next = old.next; line = old.line + 1 } → ReadsInner around k old new bytes rest s
    print_line_read origin bytes rest es new s r begins is after =
        let v = r.tree.1.0.0 in
        let vs = r.tree.1.0.1 in
        let place = at old.line (8 - k + 1) in
        let first = value_split around old.names v r.found.is.1.0.0 in
        let others = all_split _ _ _ (value_split around old.names) vs r.found.is.1.0.1 in
        let column : column_at origin bytes + 12 ≡ 8 - k + 13 = omega (arith, begins) in
        record {
          tree = print v vs;
          found = record { is = (first.0, others.0); knows = (first.1, others.1); whole = r.found.whole };
          gives = is ∙ ap (λ (z : Exprs). eval place (builtin place Println z))
              (r.gives ∙ ap (λ (i : ℕ). list_told around.callable old.names old.line 5 i (v, vs)) column);
          after = after ∙ plain_after;
          moves = moved_by old new bytes ((prints around.callable old.names).spelling r.tree) rest r.found.whole
              (omega (arith, ap (λ (z : Reached). z.next) after)) (omega (arith, ap (λ (z : Reached). z.line) after));
          consumed = omega (arith, ap length r.found.whole, length-append ((prints around.callable old.names).spelling r.tree) rest);
        }

    -- ---- a line with a body

    abbrev pub lower : Reached
    lower = record { names = old.names; locals = old.locals; next = old.next; line = old.line + 1 }

    abbrev end_of : List ℕ
    end_of = tabs (8 - k) ++ (codes "}" ++ newline)

    abbrev ReadsHead : ℕ → List ℕ → List ℕ → Expr → Type 0
    ReadsHead origin bytes rest e = ReadsAt (conditions around.callable old.names) (condition_told around.callable old.names old.line) origin bytes rest e

    pub nest_read : (origin : ℕ) (bytes b1 b2 b3 rest : List ℕ) (w : Keyword) (e : Expr) (ss : Stmts) (mid new : Reached) (s : Stmt) → FoundAt keywords bytes w b1 → ReadsHead origin b1 b2 e
        → ReadsBody around k lower mid b2 b3 ss → b3 ≡ (tabs (8 - k) ++ (codes "}" ++ newline)) ++ rest → column_at origin bytes ≡ 8 - k + 1 → length bytes ≤ origin
        → s ≡ nested w (at old.line (8 - k + 1)) e ss → new ≡ record { names = old.names; locals = mid.locals; next = mid.next; line = mid.line + 1 } → ReadsInner around k old new bytes rest s
    nest_read origin bytes b1 b2 b3 rest w e ss mid new s f r body close begins within is after =
        let t = r.tree in
        let left = value_split around old.names t.0 r.found.is.0 in
        let right = value_split around old.names t.1.1.0 r.found.is.1.1.0 in
        let column : column_at origin b1 ≡ 8 - k + 1 + length (keyword_spelling w) = column_after origin bytes (keyword_spelling w) b1 f.whole within ∙ ap (λ i. i + length (keyword_spelling w)) begins in
        let H = keyword_spelling w ++ (conditions around.callable old.names).spelling t in
        let B = spellings (bodies k).spelling body.trees in
        let total : bytes ≡ H ++ (B ++ (end_of ++ rest)) =
        f.whole ∙ ap (λ z. keyword_spelling w ++ z) (r.found.whole ∙ ap (λ z. (conditions around.callable old.names).spelling t ++ z) (body.whole ∙ ap (λ z. B ++ z) close))
        ∙ sym (append_assoc (keyword_spelling w) ((conditions around.callable old.names).spelling t) (B ++ (end_of ++ rest))) in
        let place = at old.line (8 - k + 1) in
        let lines_of = ap (λ (z : Reached). z.line) body.after ∙ after_line_is k lower body.trees in
        let next_of = ap (λ (z : Reached). z.next) body.after ∙ after_next_is k lower body.trees in
        let locals_of = ap (λ (z : Reached). z.locals) body.after ∙ after_locals_are k lower body.trees in
        let height : mid.line + 1 ≡ old.line + (sum_of (body_height k) body.trees + 2) = omega (arith, lines_of) in
        record {
          tree = nest w t.0 t.1.0 t.1.1.0 body.trees;
          found = record {
            is = (left.0, (right.0, body.is));
            knows = (left.1, (right.1, body.knows));
            whole = total ∙ ap (λ z. H ++ z) (sym (append_assoc B end_of rest)) ∙ sym (append_assoc H (B ++ end_of) rest);
          };
          gives = is ∙ ap (λ (z : Expr). nested w place z ss) (r.gives ∙ ap (λ (i : ℕ). condition_told around.callable old.names old.line i t) column)
              ∙ ap (nested w place (condition_told around.callable old.names old.line (8 - k + 1 + length (keyword_spelling w)) t)) body.gives;
          after = after
              ∙ ap (λ (z : List Local). let q : Reached = record { names = old.names; locals = z; next = mid.next; line = mid.line + 1 } in q) locals_of
              ∙ ap (λ (z : ℕ). let q : Reached = record { names = old.names; locals = locals_then body.trees; next = z; line = mid.line + 1 } in q) next_of
              ∙ ap (λ (z : ℕ). let q : Reached = record { names = old.names; locals = locals_then body.trees; next = old.next + sum_of (body_variables k) body.trees; line = z } in q) height;
          moves = record {
            next = omega (arith, ap (λ (z : Reached). z.next) after, body.moves.next, found_within keywords bytes b1 w f, found_within (conditions around.callable old.names) b1 b2 t r.found, ap length close, length-append end_of rest);
            line = omega (arith, ap (λ (z : Reached). z.line) after, body.moves.line, found_within keywords bytes b1 w f, condition_longer t b1 b2 r.found.whole, ap length close, length-append end_of rest, end_longer);
            shorter = omega (arith, body.moves.shorter, found_within keywords bytes b1 w f, found_within (conditions around.callable old.names) b1 b2 t r.found, ap length close, length-append end_of rest);
          };
          consumed = omega (arith, body.moves.shorter, found_within keywords bytes b1 w f, found_within (conditions around.callable old.names) b1 b2 t r.found, ap length close, length-append end_of rest, end_longer);
        }

    -- ---- no line

    pub nest_none_keyword : (bytes : List ℕ) → NoneAt keywords bytes → NoNest around k old bytes
    nest_none_keyword bytes off w left x right body rest f =
        none_first keywords (conditions around.callable old.names) (λ _ _ _ _. tt) bytes off _ _ (as_head around k old bytes rest w left x right body f)

    pub nest_none_head : (bytes b1 : List ℕ) (w : Keyword) → FoundAt keywords bytes w b1 → NoneAt (conditions around.callable old.names) b1 → NoNest around k old bytes
    nest_none_head bytes b1 w g off w' left x right body rest f =
        none_second keywords (conditions around.callable old.names) (λ _ _ _ _. tt) keywords_unique bytes b1 w g off _ _ (as_head around k old bytes rest w' left x right body f)

    pub nest_none_end : (origin : ℕ) (bytes b1 b2 b3 : List ℕ) (w : Keyword) (e : Expr) (ss : Stmts) (mid : Reached) → k ≤ 8 → FoundAt keywords bytes w b1 → ReadsHead origin b1 b2 e
        → ReadsBody around k lower mid b2 b3 ss → ((rest : List ℕ) → b3 ≢ (tabs (8 - k) ++ (codes "}" ++ newline)) ++ rest) → NoNest around k old bytes
    nest_none_end origin bytes b1 b2 b3 w e ss mid h g r body off w' left x right ms rest f =
        let same = both_unique keywords (conditions around.callable old.names) (λ _ _ _ _. tt) keywords_unique (conditions_unique around.callable old.names) bytes
        (w, r.tree) (w', (left, (x, (right, tt)))) b2 (spellings (bodies k).spelling ms ++ (end_of ++ rest))
        (both_found keywords (conditions around.callable old.names) bytes b1 b2 w r.tree g r.found) (as_head around k old bytes rest w' left x right ms f) in
        let away : NoBody around k (after_all k lower ms) (end_of ++ rest) =
        subst (NoBody around k (after_all k lower ms)) (sym (append_assoc (tabs (8 - k)) (codes "}" ++ newline) rest)) (no_body around k (after_all k lower ms) 125 (10 ∷ rest) h (λ z. omega (arith, z))) in
        let inside = body_unique around k h lower body.trees ms b3 (end_of ++ rest) body.is body.knows f.is.1.1 f.knows.1.1 (sym body.whole ∙ same.1)
        (subst (λ (z : Reached). NoBody around k z b3) body.after body.off) away in
        off rest inside.1

    pub no_inner : (bytes : List ℕ) → NoneAt (declarations around.callable old.names) bytes → NoneAt (assignments around.callable around.parameters old.names) bytes
        → NoneAt (prints around.callable old.names) bytes → NoNest around k old bytes → NoInner around k old bytes
    no_inner bytes p q r t (declare c v) rest f =
        let g = as_declare around k old bytes rest c v f in
        p (c, (tt, (v, tt))) rest (record { is = (g.is, f.knows.0); ends = tt; whole = g.whole })
    no_inner bytes p q r t (assign c v) rest f =
        let g = as_assign around k old bytes rest c v f in
        q (c, (tt, (v, tt))) rest (record { is = (g.is, f.knows.0); ends = tt; whole = g.whole })
    no_inner bytes p q r t (print v vs) rest f = r (tt, ((v, vs), tt)) rest (as_print around k old bytes rest v vs f)
    no_inner bytes p q r t (nest w left x right body) rest f = t w left x right body rest f

    -- ---- behind the tabs

    pub outer_read : (bytes inner rest : List ℕ) (new : Reached) (s : Stmt) → bytes ≡ tabs (8 - k) ++ inner → ReadsInner around k old new inner rest s → ReadsOuter around k old new bytes rest s
    outer_read bytes inner rest new s e r = record {
      tree = r.tree;
      found = record {
        is = r.found.is;
        knows = r.found.knows;
        whole = e ∙ ap (λ z. tabs (8 - k) ++ z) r.found.whole ∙ sym (append_assoc (tabs (8 - k)) (inner_spelling (8 - k) (bodies k).spelling r.tree) rest);
      };
      gives = r.gives;
      after = r.after;
      moves = record {
        next = omega (arith, r.moves.next, rest_within bytes (tabs (8 - k)) inner e);
        line = omega (arith, r.moves.line, rest_within bytes (tabs (8 - k)) inner e);
        shorter = omega (arith, r.moves.shorter, rest_within bytes (tabs (8 - k)) inner e);
      };
      consumed = omega (arith, r.consumed, rest_within bytes (tabs (8 - k)) inner e);
    }

    pub outer_none_tabs : (bytes : List ℕ) → ((rest : List ℕ) → bytes ≢ tabs (8 - k) ++ rest) → NoOuter around k old bytes
    outer_none_tabs bytes off l rest f = off _ (f.whole ∙ append_assoc (tabs (8 - k)) (inner_spelling (8 - k) (bodies k).spelling l) rest)

    pub outer_none : (bytes inner : List ℕ) → bytes ≡ tabs (8 - k) ++ inner → NoInner around k old inner → NoOuter around k old bytes
    outer_none bytes inner e off l rest f =
        let cut = tabs_cut (8 - k) inner _ (sym e ∙ f.whole ∙ append_assoc (tabs (8 - k)) (inner_spelling (8 - k) (bodies k).spelling l) rest) in
        off l rest (record { is = f.is; knows = f.knows; whole = cut })

    pub column_behind : (bytes inner : List ℕ) → bytes ≡ tabs (8 - k) ++ inner → column_at (length bytes + 1) inner ≡ 8 - k + 1
    column_behind bytes inner e =
        let tab : ℕ = 9 in
        omega (arith, ap length e, length-append (tabs (8 - k)) inner, length-replicate (8 - k) tab)

-- ---- settings whose names may stand

pub free_read : (callable : Callable) (names : Names) (line origin : ℕ) (bytes rest : List ℕ) (c : ℕ) (e : Expr)
    → ReadsAt (settings callable names (codes " := ")) (setting_told callable names line 4) origin bytes rest (c, e) → variable_of c names ≡ None
    → ReadsAt (declarations callable names) (setting_told callable names line 4) origin bytes rest (c, e)
free_read callable names line origin bytes rest c e r free =
    let same : c ≡ r.tree.0 = ap (λ (p : ℕ × Expr). p.0) r.gives in
    record {
      tree = r.tree;
      found = record { is = (r.found.is, λ declared. declared (ap (λ (d : ℕ). variable_of d names) (sym same) ∙ free)); ends = tt; whole = r.found.whole };
      gives = r.gives;
    }

pub free_none : (callable : Callable) (names : Names) (bytes : List ℕ) → NoneAt (settings callable names (codes " := ")) bytes → NoneAt (declarations callable names) bytes
free_none callable names bytes off t rest f = off t rest (record { is = f.is.0; ends = tt; whole = f.whole })

pub taken_none : (callable : Callable) (names : Names) (line origin : ℕ) (bytes rest : List ℕ) (c : ℕ) (e : Expr)
    → ReadsAt (settings callable names (codes " := ")) (setting_told callable names line 4) origin bytes rest (c, e) → variable_of c names ≢ None
    → NoneAt (declarations callable names) bytes
taken_none callable names line origin bytes rest c e r off t behind f =
    let same = settings_unique callable names (codes " := ") bytes r.tree t rest behind r.found (record { is = f.is.0; ends = tt; whole = f.whole }) in
    let name : c ≡ t.0 = ap (λ (p : ℕ × Expr). p.0) r.gives ∙ ap (λ (p : Setting). p.0) same.0 in
    f.is.1 (subst (IsDeclared names) name off)

pub assigned_read : (callable : Callable) (parameters : ℕ) (names : Names) (line origin x : ℕ) (bytes rest : List ℕ) (c : ℕ) (e : Expr)
    → ReadsAt (settings callable names (codes " = ")) (setting_told callable names line 3) origin bytes rest (c, e) → variable_of c names ≡ Some x → parameters ≤ x
    → ReadsAt (assignments callable parameters names) (assigned_told callable names line) origin bytes rest (x, e)
assigned_read callable parameters names line origin x bytes rest c e r known may =
    let same : c ≡ r.tree.0 = ap (λ (p : ℕ × Expr). p.0) r.gives in
    let here : variable_of r.tree.0 names ≡ Some x = ap (λ (d : ℕ). variable_of d names) (sym same) ∙ known in
    let column : column_at origin bytes + 1 + 3 ≡ column_at origin bytes + 4 = omega arith in
    record {
      tree = r.tree;
      found = record { is = (r.found.is, subst (MayAssign parameters) (sym here) may); ends = tt; whole = r.found.whole };
      gives = ap (pair_with x) (ap (λ (p : ℕ × Expr). p.1) r.gives ∙ ap (λ (i : ℕ). value_at callable names line i r.tree.1.1.0) column)
          ∙ ap (λ (y : Option ℕ). pair_with (or_zero y) (value_at callable names line (column_at origin bytes + 4) r.tree.1.1.0)) (sym here);
    }

pub assigned_none : (callable : Callable) (parameters : ℕ) (names : Names) (bytes : List ℕ) → NoneAt (settings callable names (codes " = ")) bytes → NoneAt (assignments callable parameters names) bytes
assigned_none callable parameters names bytes off t rest f = off t rest (record { is = f.is.0; ends = tt; whole = f.whole })

pub barred_none : (callable : Callable) (parameters : ℕ) (names : Names) (line origin : ℕ) (bytes rest : List ℕ) (c : ℕ) (e : Expr)
    → ReadsAt (settings callable names (codes " = ")) (setting_told callable names line 3) origin bytes rest (c, e) → ¬ MayAssign parameters (variable_of c names)
    → NoneAt (assignments callable parameters names) bytes
barred_none callable parameters names line origin bytes rest c e r off t behind f =
    let same = settings_unique callable names (codes " = ") bytes r.tree t rest behind r.found (record { is = f.is.0; ends = tt; whole = f.whole }) in
    let name : c ≡ t.0 = ap (λ (p : ℕ × Expr). p.0) r.gives ∙ ap (λ (p : Setting). p.0) same.0 in
    off (subst (λ (i : ℕ). MayAssign parameters (variable_of i names)) (sym name) f.is.1)

-- ---- the end of a body

pub end_found : (d : ℕ) (bytes mid rest : List ℕ) → bytes ≡ tabs d ++ mid → mid ≡ codes "}" ++ newline ++ rest → bytes ≡ (tabs d ++ (codes "}" ++ newline)) ++ rest
end_found d bytes mid rest e f = e ∙ ap (λ z. tabs d ++ z) f ∙ sym (append_assoc (tabs d) (codes "}" ++ newline) rest)

pub end_none_tabs : (d : ℕ) (bytes : List ℕ) → ((rest : List ℕ) → bytes ≢ tabs d ++ rest) → (rest : List ℕ) → bytes ≢ (tabs d ++ (codes "}" ++ newline)) ++ rest
end_none_tabs d bytes off rest e = off ((codes "}" ++ newline) ++ rest) (e ∙ append_assoc (tabs d) (codes "}" ++ newline) rest)

pub end_none_brace : (d : ℕ) (bytes mid : List ℕ) → bytes ≡ tabs d ++ mid → ((rest : List ℕ) → mid ≢ codes "}" ++ newline ++ rest) → (rest : List ℕ) → bytes ≢ (tabs d ++ (codes "}" ++ newline)) ++ rest
end_none_brace d bytes mid e off rest f = off rest (tabs_cut d mid _ (sym e ∙ f ∙ append_assoc (tabs d) (codes "}" ++ newline) rest))
