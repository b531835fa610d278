-- What the functions that read sums find: the parts of a sum whose names may stand, and what they become.
use Rattle.std.proofs.Common.{◌≡◌, ◌≢◌, ◌<◌, ◌≤◌, ◌+◌, ◌-◌, ◌*◌, ℕ, zero, suc, List, [], ◌∷◌, ◌++◌, length, refl, sym, ◌∙◌, ap, subst, arith, codes, Option, Some, None, is_some, Bool, true, length-append}
use Rattle.std.specs.Prelude.{ℤ, pos, option_map}
use Rattle.std.proofs.lemmas.Int.{ints as integers}
use mathlib.Core.Former.{Count}
use Rattle.std.specs.declared.alloc.Global.{Global}
use Rattle.std.specs.Prelude.{Vec}
use Rattle.odc_text.specs.declared.place.Place.{Place}
use Rattle.odc_typed.specs.declared.tree.TExpr.{TExpr}
use Rattle.odc_typed.specs.declared.tree.ExprKind.{ExprKind, Row_of-TExpr, end_of-TExpr, more_of-TExpr, items-the_row-TExpr, items_hidden-the_row-TExpr-0}
use Rattle.odc_typed.specs.declared.tree.ExprKind.TheVariants.{Call', Builtin'}
use Rattle.odc_typed.specs.declared.tree.ExprKind.TheViews.{Call}
use Rattle.odc_typed.specs.Source.{exact}
use Rattle.odc_typed.specs.Tree.{Expr, Exprs, more, binary, call as calls}
use Rattle.odc_typed.specs.View.{expr_kind, exprs, row}
use Rattle.odc_small.specs.declared.grammar.Sign.{Sign}
use Rattle.odc_small.specs.declared.grammar.Sign.TheVariants.{Plus, Minus}
use Rattle.odc_small.specs.declared.grammar.Scale.{Scale}
use Rattle.odc_small.specs.declared.grammar.Scale.TheVariants.{Times, Over, Rest}
use Rattle.odc_small.specs.Forms.{Form, FoundAt, NoneAt, NoDigitFirst, both, mark}
use Rattle.odc_small.specs.Grammar.{Factor, Mul, Term, name, number, call, ArgumentAt, AtomAt, Leads, MayScale, IsMul, number_of, factor_spelling, mul_spelling, term_spelling, scale_spelling, sign_spelling, arguments, atoms, muls_over, terms_over}
use Rattle.odc_small.specs.Names.{Callable, Names, IsCallable, procedure_of}
use Rattle.odc_small.specs.Reading.{ints, uppers, scales, signs, nexts_of, lists_of, closed_by, known_arguments, known_atoms, known_factors, known_sums, known_names, known_calls, column_at, ReadsAt, ReadsFactor, ReadsTerm, name_told, int_told, items_told, list_told, next_told, call_told, mul_told}
use Rattle.odc_small.specs.Small.{Below, ValueBelow, IsSmall, MayScaleBy}
use Rattle.odc_small.specs.Typing.{at, added_by, scaled_by, constant_of, folded, joined, mul_from, sum_from, argument_expr, atom_at, sum_at}
use Rattle.odc_small.proofs.FormLemmas.{Unique, mark_found, mark_none, mark_unique, both_found, none_first, none_second}
use Rattle.odc_small.proofs.PieceLemmas.{uppers_unique}
use Rattle.odc_small.proofs.AtomLemmas.{called, called_unique, known_arguments_unique, known_atoms_unique, known_both, known_comma, known_shut, next_found, closed_found, closed_none_list, closed_none_mark}
use Rattle.odc_small.proofs.SumLemmas.{factor_found, factor_none_scale, factor_none_atom, factor_none_zero, mul_found, mul_none_first, mul_none_lead, term_found, term_none_sign, term_none_mul, sum_found, sum_none_first, sum_none_long}
use Rattle.odc_small.proofs.ReadLemmas.{column_after, found_within, fold_from, FoldSoFar, fold_next, fold_all, count_of, count_exprs, count_list}

-- ---- a call as the definitions see it

exprs_row : (n : _) (r : Row_of-TExpr n) → row r ≡ exprs (items-the_row-TExpr n r)
exprs_row n end_of-TExpr = refl
exprs_row n (more_of-TExpr at k r) = ap (more (expr_kind k at)) (exprs_row _ r)

abbrev row_of : ExprKind → (n : Count) × Row_of-TExpr n
row_of (Call' f s r) = (_, r)
row_of (Builtin' which s r) = (_, r)
row_of _ = (_, end_of-TExpr)

pub expr_kind-Call : (f : ℕ) (xs : Vec TExpr Global) (at : Place) → expr_kind (Call f xs) at ≡ calls at f (exprs xs.items)
expr_kind-Call f xs at = let r = row_of (Call f xs) in ap (calls at f) (exprs_row r.0 r.1 ∙ ap exprs (items_hidden-the_row-TExpr-0 xs))

-- ---- signs

scale_length : (s : Scale) → length (scale_spelling s) ≡ 3
scale_length Times = refl
scale_length Over = refl
scale_length Rest = refl

sign_length : (s : Sign) → length (sign_spelling s) ≡ 3
sign_length Plus = refl
sign_length Minus = refl

-- the column of what is behind three bytes
behind_three : (origin : ℕ) (bytes text rest : List ℕ) → bytes ≡ text ++ rest → length text ≡ 3 → length bytes ≤ origin → column_at origin rest ≡ column_at origin bytes + 3
behind_three origin bytes text rest e three h = column_after origin bytes text rest e h ∙ ap (λ k. column_at origin bytes + k) three

module _ (callable : Callable) (bindings : Names) (line : ℕ) where
  abbrev pub known_terms : (n : ℕ) → Form (Term (AtomAt n))
  known_terms n = terms_over (known_atoms callable bindings n)

  -- ---- arguments

  pub argument_none : (n : ℕ) (bytes : List ℕ) → n ≡ 0 → NoneAt (known_arguments callable bindings n) bytes
  argument_none zero bytes e t rest f = absurd t
  argument_none (suc n) bytes e t rest f = omega (arith, e)

  argument_is : (n : ℕ) → suc n - 1 ≡ n
  argument_is n = omega arith

  pub argument_found : (n origin : ℕ) (bytes rest : List ℕ) (e : Expr) → 0 < n → ReadsAt (known_sums callable bindings (n - 1)) (sum_at callable bindings line (n - 1)) origin bytes rest e
      → ReadsAt (known_arguments callable bindings n) (argument_expr callable bindings line n) origin bytes rest e
  argument_found zero origin bytes rest e h r = absurd (omega (arith, h))
  argument_found (suc n) origin bytes rest e h r =
      let s = subst (λ (m : ℕ). ReadsAt (known_sums callable bindings m) (sum_at callable bindings line m) origin bytes rest e) (argument_is n) r in
      record { tree = s.tree; found = record { is = s.found.is; ends = s.found.ends; whole = s.found.whole }; gives = s.gives }

  pub argument_off : (n : ℕ) (bytes : List ℕ) → 0 < n → NoneAt (known_sums callable bindings (n - 1)) bytes → NoneAt (known_arguments callable bindings n) bytes
  argument_off zero bytes h off t rest f = absurd t
  argument_off (suc n) bytes h off t rest f =
      let none = subst (λ (m : ℕ). NoneAt (known_sums callable bindings m) bytes) (argument_is n) off in
      none t rest (record { is = f.is; ends = f.ends; whole = f.whole })

  module _ (n origin : ℕ) where
    abbrev items : Form (ArgumentAt n)
    items = known_arguments callable bindings n

    pub next_read : (bytes mid rest : List ℕ) (e : Expr) → bytes ≡ codes ", " ++ mid → length bytes ≤ origin
        → ReadsAt items (argument_expr callable bindings line n) origin mid rest e → ReadsAt (nexts_of items) (next_told callable bindings line n) origin bytes rest e
    next_read bytes mid rest e m h r = record {
      tree = r.tree;
      found = next_found items bytes mid rest r.tree m r.found;
      gives = r.gives ∙ ap (λ (k : ℕ). argument_expr callable bindings line n k r.tree) (column_after origin bytes (codes ", ") mid m h);
    }

    -- ---- the arguments of a call

    abbrev closed : Form (List (ArgumentAt n))
    closed = closed_by (codes ")") items

    pub closed_read : (bytes mid rest : List ℕ) (es : Exprs) → ReadsAt (lists_of items) (list_told callable bindings line n) origin bytes mid es → mid ≡ codes ")" ++ rest
        → ReadsAt closed (items_told callable bindings line n) origin bytes rest es
    closed_read bytes mid rest es r e = record {
      tree = r.tree.0 ∷ r.tree.1;
      found = closed_found items (known_arguments_unique callable bindings n) (known_comma callable bindings n) [] (known_shut callable bindings n) bytes mid rest r.tree.0 r.tree.1 r.found e;
      gives = r.gives;
    }

    pub closed_off : (bytes : List ℕ) → ((rest : List ℕ) → bytes ≢ codes ")" ++ rest) → NoneAt (lists_of items) bytes → NoneAt closed bytes
    closed_off bytes off none = closed_none_list items (known_arguments_unique callable bindings n) (known_comma callable bindings n) [] (known_shut callable bindings n) bytes off none

    pub closed_open : (bytes mid : List ℕ) (es : Exprs) → ((rest : List ℕ) → bytes ≢ codes ")" ++ rest)
        → ReadsAt (lists_of items) (list_told callable bindings line n) origin bytes mid es → ((rest : List ℕ) → mid ≢ codes ")" ++ rest) → NoneAt closed bytes
    closed_open bytes mid es off r none =
        closed_none_mark items (known_arguments_unique callable bindings n) (known_comma callable bindings n) [] (known_shut callable bindings n) bytes mid r.tree.0 r.tree.1 off r.found none

    -- ---- calls

    abbrev Called : Type 0
    Called = ℕ × (Unit {0} × List (ArgumentAt n))

    abbrev parts : Form Called
    parts = called (0 < n) items

    as_parts : (bytes rest : List ℕ) (p : ℕ × List (ArgumentAt n)) → FoundAt (known_calls callable bindings n) bytes p rest → FoundAt parts bytes (p.0, (tt, p.1)) rest
    as_parts bytes rest p f = record { is = (f.is.1.0.0, (tt, f.is.1.0.1)); ends = tt; whole = f.whole }

    parts_unique : Unique parts
    parts_unique = called_unique (0 < n) items (known_arguments_unique callable bindings n) (known_comma callable bindings n) (known_shut callable bindings n) (known_both callable bindings n).1

    pub call_shallow : (bytes : List ℕ) → n ≡ 0 → NoneAt (known_calls callable bindings n) bytes
    call_shallow bytes e p rest f = omega (arith, e, f.is.0)

    pub call_none_upper : (bytes : List ℕ) → NoneAt uppers bytes → NoneAt (known_calls callable bindings n) bytes
    call_none_upper bytes off p rest f = none_first uppers (both (mark (codes "(")) closed) (λ _ _ _ _. tt) bytes off (p.0, (tt, p.1)) rest (as_parts bytes rest p f)

    pub call_none_open : (bytes mid : List ℕ) (g : ℕ) → FoundAt uppers bytes g mid → ((rest : List ℕ) → mid ≢ codes "(" ++ rest) → NoneAt (known_calls callable bindings n) bytes
    call_none_open bytes mid g u off p rest f =
        none_second uppers (both (mark (codes "(")) closed) (λ _ _ _ _. tt) uppers_unique bytes mid g u
        (none_first (mark (codes "(")) closed (λ _ _ _ _. tt) mid (mark_none (codes "(") mid off)) (p.0, (tt, p.1)) rest (as_parts bytes rest p f)

    pub call_none_closed : (bytes mid inner : List ℕ) (g : ℕ) → FoundAt uppers bytes g mid → mid ≡ codes "(" ++ inner → NoneAt closed inner → NoneAt (known_calls callable bindings n) bytes
    call_none_closed bytes mid inner g u e off p rest f =
        none_second uppers (both (mark (codes "(")) closed) (λ _ _ _ _. tt) uppers_unique bytes mid g u
        (none_second (mark (codes "(")) closed (λ _ _ _ _. tt) (mark_unique (codes "(")) mid inner tt (mark_found (codes "(") mid inner e) off) (p.0, (tt, p.1)) rest (as_parts bytes rest p f)

    parts_found : (bytes mid inner rest : List ℕ) (g : ℕ) (ts : List (ArgumentAt n)) → FoundAt uppers bytes g mid → mid ≡ codes "(" ++ inner → FoundAt closed inner ts rest
        → FoundAt parts bytes (g, (tt, ts)) rest
    parts_found bytes mid inner rest g ts u e f =
        both_found uppers (both (mark (codes "(")) closed) bytes mid rest g (tt, ts) u (both_found (mark (codes "(")) closed mid inner rest tt ts (mark_found (codes "(") mid inner e) f)

    same_count : (column : ℕ) (es : List TExpr) (ts : List (ArgumentAt n)) → exprs es ≡ items_told callable bindings line n column ts → length es ≡ length ts
    same_count column es ts e = sym (count_exprs es) ∙ ap count_of e ∙ count_list (arguments n) (argument_expr callable bindings line n) column ts

    pub call_unknown : (bytes mid inner rest : List ℕ) (g : ℕ) (es : List TExpr) → FoundAt uppers bytes g mid → mid ≡ codes "(" ++ inner
        → ReadsAt closed (items_told callable bindings line n) origin inner rest (exprs es) → ¬ IsCallable callable g (length es) → NoneAt (known_calls callable bindings n) bytes
    call_unknown bytes mid inner rest g es u e r off p after f =
        let same = parts_unique bytes (g, (tt, r.tree)) (p.0, (tt, p.1)) rest after (parts_found bytes mid inner rest g r.tree u e r.found) (as_parts bytes after p f) in
        let P : Called → Type 0 = λ q. IsCallable callable q.0 (length q.1.1) in
        off (subst (IsCallable callable g) (sym (same_count (column_at origin inner) es r.tree r.gives)) (subst P (sym same.0) f.is.1.1))

    pub call_unended : (bytes mid inner rest : List ℕ) (g : ℕ) (es : List TExpr) → FoundAt uppers bytes g mid → mid ≡ codes "(" ++ inner
        → ReadsAt closed (items_told callable bindings line n) origin inner rest (exprs es) → ¬ NoDigitFirst rest → NoneAt (known_calls callable bindings n) bytes
    call_unended bytes mid inner rest g es u e r off p after f =
        let same = parts_unique bytes (g, (tt, r.tree)) (p.0, (tt, p.1)) rest after (parts_found bytes mid inner rest g r.tree u e r.found) (as_parts bytes after p f) in
        off (subst NoDigitFirst (sym same.1) f.ends)

    pub call_read : (bytes mid inner rest : List ℕ) (g x : ℕ) (place : Place) (es : Vec TExpr Global) → 0 < n → FoundAt uppers bytes g mid → mid ≡ codes "(" ++ inner
        → ReadsAt closed (items_told callable bindings line n) origin inner rest (exprs es.items) → IsCallable callable g (length es.items) → x ≡ procedure_of g callable → NoDigitFirst rest
        → place ≡ at line (column_at origin bytes) → length bytes ≤ origin
        → ReadsAt (known_calls callable bindings n) (call_told callable bindings line n) origin bytes rest (expr_kind (Call x es) place)
    call_read bytes mid inner rest g x place es deep u e r known numbered ends p h =
        let found = parts_found bytes mid inner rest g r.tree u e r.found in
        let two : column_at origin inner ≡ column_at origin bytes + 2 =
        column_after origin mid (codes "(") inner e (omega (arith, found_within uppers bytes mid g u, h)) ∙ ap (λ k. k + 1) (column_after origin bytes (g ∷ []) mid u.whole h) ∙ omega arith in
        record {
          tree = (g, r.tree);
          found = record {
            is = (deep, ((u.is, r.found.is), subst (IsCallable callable g) (same_count (column_at origin inner) es.items r.tree r.gives) known));
            ends = ends;
            whole = found.whole;
          };
          gives = expr_kind-Call x es place
              ∙ ap (λ (q : Place). calls q x (exprs es.items)) p
              ∙ ap (λ (y : ℕ). calls (at line (column_at origin bytes)) y (exprs es.items)) numbered
              ∙ ap (calls (at line (column_at origin bytes)) (procedure_of g callable))
              (r.gives ∙ ap (λ (k : ℕ). items_told callable bindings line n k r.tree) two);
        }

    -- ---- atoms

    abbrev those : Form (AtomAt n)
    those = known_atoms callable bindings n

    abbrev told : ℕ → AtomAt n → Expr
    told = atom_at callable bindings line n

    pub name_read : (bytes rest : List ℕ) (e : Expr) → ReadsAt (known_names bindings) (name_told bindings line) origin bytes rest e → ReadsAt those told origin bytes rest e
    name_read bytes rest e r = record { tree = name r.tree; found = record { is = (r.found.is.0, r.found.is.1); ends = r.found.ends; whole = r.found.whole }; gives = r.gives }

    pub number_read : (bytes rest : List ℕ) (e : Expr) → ReadsAt ints (int_told line) origin bytes rest e → ReadsAt those told origin bytes rest e
    number_read bytes rest e r = record { tree = number r.tree; found = record { is = (r.found.is, tt); ends = r.found.ends; whole = r.found.whole }; gives = r.gives }

    pub called_read : (bytes rest : List ℕ) (e : Expr) → ReadsAt (known_calls callable bindings n) (call_told callable bindings line n) origin bytes rest e → ReadsAt those told origin bytes rest e
    called_read bytes rest e r = record {
      tree = call r.tree.0 r.tree.1;
      found = record { is = ((r.found.is.0, r.found.is.1.0), r.found.is.1.1); ends = r.found.ends; whole = r.found.whole };
      gives = r.gives;
    }

    pub no_atom : (bytes : List ℕ) → NoneAt (known_names bindings) bytes → NoneAt ints bytes → NoneAt (known_calls callable bindings n) bytes → NoneAt those bytes
    no_atom bytes p q r (name c) rest f = p c rest (record { is = (f.is.0, f.is.1); ends = f.ends; whole = f.whole })
    no_atom bytes p q r (number k) rest f = q k rest (record { is = f.is.0; ends = f.ends; whole = f.whole })
    no_atom bytes p q r (call g ts) rest f = r (g, ts) rest (record { is = (f.is.0.0, (f.is.0.1, f.is.1)); ends = f.ends; whole = f.whole })

    -- ---- factors

    constant_atom : (column : ℕ) (a : AtomAt n) → constant_of (told column a) ≡ option_map pos (number_of a)
    constant_atom column (name c) = refl
    constant_atom column (number k) = refl
    constant_atom column (call g ts) = refl

    pos_zero : (v : Option ℕ) → option_map pos v ≢ Some (pos 0) → v ≢ Some 0
    pos_zero v off e = off (ap (option_map pos) e)

    zero_pos : (v : Option ℕ) → v ≢ Some 0 → option_map pos v ≢ Some (pos 0)
    zero_pos None off e = absurd (cc)
    zero_pos (Some k) off e = off (ap (λ (z : ℕ). Some z) (pos_injective k 0 (some_injective (pos k) (pos 0) e)))
      where
        some_injective : (y z : ℤ) → Some y ≡ Some z → y ≡ z
        some_injective y z h = cc

        pos_injective : (j i : ℕ) → pos j ≡ pos i → j ≡ i
        pos_injective j i h = cc

    may_scale : (scale : Scale) (v : Option ℕ) → MayScaleBy scale (option_map pos v) → MayScale scale v
    may_scale Times v h = tt
    may_scale Over v h = pos_zero v h
    may_scale Rest v h = pos_zero v h

    scale_may : (scale : Scale) (v : Option ℕ) → MayScale scale v → MayScaleBy scale (option_map pos v)
    scale_may Times v h = tt
    scale_may Over v h = zero_pos v h
    scale_may Rest v h = zero_pos v h

    constant_read : (bytes rest : List ℕ) (e : Expr) (r : ReadsAt those told origin bytes rest e) → constant_of e ≡ option_map pos (number_of r.tree)
    constant_read bytes rest e r = ap constant_of r.gives ∙ constant_atom (column_at origin bytes) r.tree

    pub factor_read : (bytes mid rest : List ℕ) (scale : Scale) (e : Expr) → FoundAt scales bytes scale mid → length bytes ≤ origin → ReadsAt those told origin mid rest e
        → MayScaleBy scale (constant_of e) → ReadsFactor those told origin bytes rest scale e
    factor_read bytes mid rest scale e f h r may = record {
      atom = r.tree;
      found = factor_found those.spelling those.Is bytes mid rest scale r.tree f r.found
          (may_scale scale (number_of r.tree) (subst (MayScaleBy scale) (constant_read mid rest e r) may));
      gives = r.gives ∙ ap (λ (k : ℕ). told k r.tree) (behind_three origin bytes (scale_spelling scale) mid f.whole (scale_length scale) h);
    }

    pub factor_off_scale : (bytes : List ℕ) → NoneAt scales bytes → NoneAt (known_factors callable bindings n) bytes
    factor_off_scale = factor_none_scale those.spelling those.Is

    pub factor_off_atom : (bytes mid : List ℕ) (scale : Scale) → FoundAt scales bytes scale mid → NoneAt those mid → NoneAt (known_factors callable bindings n) bytes
    factor_off_atom = factor_none_atom those.spelling those.Is

    pub factor_off_zero : (bytes mid rest : List ℕ) (scale : Scale) (e : Expr) → FoundAt scales bytes scale mid → ReadsAt those told origin mid rest e
        → ¬ MayScaleBy scale (constant_of e) → NoneAt (known_factors callable bindings n) bytes
    factor_off_zero bytes mid rest scale e f r off =
        factor_none_zero those.spelling those.Is (known_atoms_unique callable bindings n) bytes mid rest scale r.tree f r.found
        (λ may. off (subst (MayScaleBy scale) (sym (constant_read mid rest e r)) (scale_may scale (number_of r.tree) may)))

    -- ---- products

    abbrev pub mul_step : ℕ → Expr → Factor (AtomAt n) → Expr
    mul_step column left f = binary (at line (column + 1)) (scaled_by f.scale) left (told (column + 3) f.atom)

    mul_from-fold : (column : ℕ) (left : Expr) (fs : List (Factor (AtomAt n)))
        → fold_from (factor_spelling those) mul_step column left fs ≡ mul_from (atoms n) told line column left fs
    mul_from-fold column left [] = refl
    mul_from-fold column left (f ∷ fs) = mul_from-fold (column + length (factor_spelling those f)) (mul_step column left f) fs

    abbrev Muls : ℕ → List ℕ → List ℕ → Expr → Expr → ℕ → Type 0
    Muls k mid rest start left count = FoldSoFar (known_factors callable bindings n) mul_step k mid rest start left count

    -- a product so far, and one more factor
    pub mul_next : (mid rest after : List ℕ) (start left right next : Expr) (count : ℕ) (scale : Scale) → Muls origin mid rest start left count
        → ReadsFactor those told origin rest after scale right → length mid ≤ origin
        → next ≡ binary (at line (column_at origin rest + 1)) (scaled_by scale) left right → Muls origin mid after start next (count + 1)
    mul_next mid rest after start left right next count scale s r h e =
        let f : Factor (AtomAt n) = record { scale = scale; atom = r.atom } in
        fold_next (known_factors callable bindings n) mul_step origin mid rest after start left next count f s r.found
        (omega (arith, length-append (scale_spelling scale) (those.spelling r.atom), scale_length scale)) h
        (e ∙ ap (λ (v : Expr). binary (at line (column_at origin rest + 1)) (scaled_by scale) left v) r.gives)

    abbrev AreLed : Option ℤ → ℕ → Type 0
    AreLed None count = Unit {0}
    AreLed (Some z) count = count ≡ 0

    led_to : (v : Option ℕ) (fs : List (Factor (AtomAt n))) (count : ℕ) → length fs ≡ count → AreLed (option_map pos v) count → Leads v fs
    led_to None fs count e h = tt
    led_to (Some k) fs count e h = e ∙ h

    led_from : (v : Option ℕ) (fs : List (Factor (AtomAt n))) (count : ℕ) → length fs ≡ count → Leads v fs → AreLed (option_map pos v) count
    led_from None fs count e h = tt
    led_from (Some k) fs count e h = sym e ∙ h

    led_by : (v : Option ℤ) (count : ℕ) → (is_some v ≡ true → count ≡ 0) → AreLed v count
    led_by None count h = tt
    led_by (Some z) count h = h refl

    by_led : (v : Option ℤ) (count : ℕ) → AreLed v count → is_some v ≡ true → count ≡ 0
    by_led None count h e = absurd (cc)
    by_led (Some z) count h e = h

    pub mul_read : (bytes mid rest : List ℕ) (start left : Expr) (count : ℕ) → ReadsAt those told origin bytes mid start → Muls origin mid rest start left count
        → NoneAt (known_factors callable bindings n) rest → (alone : Bool) → alone ≡ is_some (constant_of start) → (count ≤ 7) × (alone ≡ true → count ≡ 0) → length bytes ≤ origin
        → ReadsAt (muls_over those) (mul_told callable bindings line n) origin bytes rest left
    mul_read bytes mid rest start left count r s off alone e may h = record {
      tree = record { first = r.tree; more = s.items };
      found = mul_found those.spelling those.Is (known_atoms_unique callable bindings n) bytes mid rest r.tree s.items r.found
          (fold_all (known_factors callable bindings n) mul_step origin mid rest start left count s off)
          (led_to (number_of r.tree) s.items count s.count_is (subst (λ (v : Option ℤ). AreLed v count) (constant_read bytes mid start r) (led_by (constant_of start) count (λ some. may.1 (e ∙ some)))))
          (omega (arith, s.count_is, may.0));
      gives = s.gives ∙ mul_from-fold (column_at origin mid) start s.items
          ∙ ap (λ (e : Expr). mul_from (atoms n) told line (column_at origin mid) e s.items) r.gives
          ∙ ap (λ (k : ℕ). mul_from (atoms n) told line k (told (column_at origin bytes) r.tree) s.items) (column_after origin bytes ((atoms n).spelling r.tree) mid r.found.whole h);
    }

    pub mul_off_first : (bytes : List ℕ) → NoneAt those bytes → NoneAt (muls_over those) bytes
    mul_off_first = mul_none_first those.spelling those.Is (known_atoms_unique callable bindings n)

    pub mul_off_lead : (bytes mid rest : List ℕ) (start left : Expr) (count : ℕ) → ReadsAt those told origin bytes mid start → Muls origin mid rest start left count
        → NoneAt (known_factors callable bindings n) rest → (alone : Bool) → alone ≡ is_some (constant_of start) → ¬ ((count ≤ 7) × (alone ≡ true → count ≡ 0)) → NoneAt (muls_over those) bytes
    mul_off_lead bytes mid rest start left count r s none alone e off =
        mul_none_lead those.spelling those.Is (known_atoms_unique callable bindings n) bytes mid rest r.tree s.items r.found
        (fold_all (known_factors callable bindings n) mul_step origin mid rest start left count s none)
        (λ leads short. off (
          omega (arith, s.count_is, short),
          λ some. by_led (constant_of start) count (subst (λ (v : Option ℤ). AreLed v count) (sym (constant_read bytes mid start r)) (led_from (number_of r.tree) s.items count s.count_is leads)) (sym e ∙ some),
        ))

    -- ---- constants are small

    no_constant : (column : ℕ) (left : Expr) (fs : List (Factor (AtomAt n))) → constant_of left ≡ None → constant_of (mul_from (atoms n) told line column left fs) ≡ None
    no_constant column left [] e = e
    no_constant column left (f ∷ fs) e = no_constant (column + length (factor_spelling (atoms n) f)) (mul_step column left f) fs refl

    product_small : (column start : ℕ) (first : AtomAt n) (fs : List (Factor (AtomAt n))) → those.Is first → Leads (number_of first) fs
        → IsSmall 1 (mul_from (atoms n) told line start (told column first) fs)
    product_small column start (name c) fs is leads = record { below = subst (ValueBelow (1 * 1000000000)) (sym (no_constant start (told column (name c)) fs refl)) tt }
    product_small column start (call g ts) fs is leads = record { below = subst (ValueBelow (1 * 1000000000)) (sym (no_constant start (told column (call g ts)) fs refl)) tt }
    product_small column start (number k) [] is leads = record { below = (omega (arith, integers, is.0), omega (arith, integers, is.0)) }
    product_small column start (number k) (f ∷ fs) is leads = absurd (omega (arith, leads))

    mul_small : (column : ℕ) (m : Mul (AtomAt n)) → IsMul those m → IsSmall 1 (mul_told callable bindings line n column m)
    mul_small column m is = product_small column (column + length ((atoms n).spelling m.first)) m.first m.more is.first is.leads

    pub mul_is_small : (bytes rest : List ℕ) (e : Expr) → ReadsAt (muls_over those) (mul_told callable bindings line n) origin bytes rest e → IsSmall 1 e
    mul_is_small bytes rest e r = subst (IsSmall 1) (sym r.gives) (mul_small (column_at origin bytes) r.tree r.found.is)

    pub term_is_small : (bytes rest : List ℕ) (sign : Sign) (e : Expr) → ReadsTerm those (mul_told callable bindings line n) origin bytes rest sign e → IsSmall 1 e
    term_is_small bytes rest sign e r = subst (IsSmall 1) (sym r.gives) (mul_small (column_at origin bytes + 3) r.mul r.found.is)

    -- ---- further products

    pub term_read : (bytes mid rest : List ℕ) (sign : Sign) (e : Expr) → FoundAt signs bytes sign mid → length bytes ≤ origin
        → ReadsAt (muls_over those) (mul_told callable bindings line n) origin mid rest e → ReadsTerm those (mul_told callable bindings line n) origin bytes rest sign e
    term_read bytes mid rest sign e f h r = record {
      mul = r.tree;
      found = term_found those.spelling those.Is (known_atoms_unique callable bindings n) bytes mid rest sign r.tree f r.found;
      gives = r.gives ∙ ap (λ (k : ℕ). mul_told callable bindings line n k r.tree) (behind_three origin bytes (sign_spelling sign) mid f.whole (sign_length sign) h);
    }

    pub term_off_sign : (bytes : List ℕ) → NoneAt signs bytes → NoneAt (known_terms n) bytes
    term_off_sign = term_none_sign those.spelling those.Is (known_atoms_unique callable bindings n)

    pub term_off_mul : (bytes mid : List ℕ) (sign : Sign) → FoundAt signs bytes sign mid → NoneAt (muls_over those) mid → NoneAt (known_terms n) bytes
    term_off_mul = term_none_mul those.spelling those.Is (known_atoms_unique callable bindings n)

    -- ---- sums

    abbrev pub sum_step : ℕ → Expr → Term (AtomAt n) → Expr
    sum_step column left t = joined (at line (column + 1)) (added_by t.sign) left (mul_told callable bindings line n (column + 3) t.mul)

    sum_from-fold : (column : ℕ) (left : Expr) (ts : List (Term (AtomAt n)))
        → fold_from (term_spelling those) sum_step column left ts ≡ sum_from (atoms n) told line column left ts
    sum_from-fold column left [] = refl
    sum_from-fold column left (t ∷ ts) = sum_from-fold (column + length (term_spelling those t)) (sum_step column left t) ts

    abbrev Sums : ℕ → List ℕ → List ℕ → Expr → Expr → ℕ → Type 0
    Sums k mid rest start left count = FoldSoFar (known_terms n) sum_step k mid rest start left count

    pub sum_next : (mid rest after : List ℕ) (start left right next : Expr) (count : ℕ) (sign : Sign) → Sums origin mid rest start left count
        → ReadsTerm those (mul_told callable bindings line n) origin rest after sign right → length mid ≤ origin
        → next ≡ joined (at line (column_at origin rest + 1)) (added_by sign) left right → Sums origin mid after start next (count + 1)
    sum_next mid rest after start left right next count sign s r h e =
        let t : Term (AtomAt n) = record { sign = sign; mul = r.mul } in
        fold_next (known_terms n) sum_step origin mid rest after start left next count t s r.found
        (omega (arith, length-append (sign_spelling sign) (mul_spelling those r.mul), sign_length sign)) h
        (e ∙ ap (λ (v : Expr). joined (at line (column_at origin rest + 1)) (added_by sign) left v) r.gives)

    pub sum_read : (bytes mid rest : List ℕ) (start left : Expr) (count : ℕ) → ReadsAt (muls_over those) (mul_told callable bindings line n) origin bytes mid start
        → Sums origin mid rest start left count → NoneAt (known_terms n) rest → count ≤ 7 → length bytes ≤ origin
        → ReadsAt (known_sums callable bindings n) (sum_at callable bindings line n) origin bytes rest left
    sum_read bytes mid rest start left count r s off short h = record {
      tree = record { first = r.tree; more = s.items };
      found = sum_found those.spelling those.Is (known_atoms_unique callable bindings n) bytes mid rest r.tree s.items r.found
          (fold_all (known_terms n) sum_step origin mid rest start left count s off) (omega (arith, s.count_is, short));
      gives = s.gives ∙ sum_from-fold (column_at origin mid) start s.items
          ∙ ap (λ (e : Expr). sum_from (atoms n) told line (column_at origin mid) e s.items) r.gives
          ∙ ap (λ (k : ℕ). sum_from (atoms n) told line k (mul_told callable bindings line n (column_at origin bytes) r.tree) s.items)
          (column_after origin bytes (mul_spelling (atoms n) r.tree) mid r.found.whole h);
    }

    pub sum_off_first : (bytes : List ℕ) → NoneAt (muls_over those) bytes → NoneAt (known_sums callable bindings n) bytes
    sum_off_first = sum_none_first those.spelling those.Is (known_atoms_unique callable bindings n)

    pub sum_off_long : (bytes mid rest : List ℕ) (start left : Expr) (count : ℕ) → ReadsAt (muls_over those) (mul_told callable bindings line n) origin bytes mid start
        → Sums origin mid rest start left count → NoneAt (known_terms n) rest → 7 < count → NoneAt (known_sums callable bindings n) bytes
    sum_off_long bytes mid rest start left count r s off long =
        sum_none_long those.spelling those.Is (known_atoms_unique callable bindings n) bytes mid rest r.tree s.items r.found
        (fold_all (known_terms n) sum_step origin mid rest start left count s off) (omega (arith, s.count_is, long))

-- ---- sums of small constants

weaker_value : (a b : ℕ) (v : Option ℤ) → a ≤ b → ValueBelow a v → ValueBelow b v
weaker_value a b (Some z) h (p, q) = (omega (arith, integers), omega (arith, integers))
weaker_value a b None h p = tt

pub small_weaker : (j k : ℕ) (e : Expr) → j ≤ k → IsSmall j e → IsSmall k e
small_weaker j k e h s = record { below = weaker_value (j * 1000000000) (k * 1000000000) (constant_of e) (omega arith) s.below }

below_sum : (a b : ℕ) (y z : ℤ) (sign : Sign) → Below a y → Below b z → Below (a + b) (exact (added_by sign) y z)
below_sum a b y z Plus (p, q) (r, s) = (omega (arith, integers), omega (arith, integers))
below_sum a b y z Minus (p, q) (r, s) = (omega (arith, integers), omega (arith, integers))

joined_value : (a b : ℕ) (place : Place) (sign : Sign) (left right : Expr) (y z : Option ℤ) → ValueBelow a y → ValueBelow b z
    → ValueBelow (a + b) (constant_of (folded place (added_by sign) left right y z))
joined_value a b place sign left right (Some y) (Some z) p q = below_sum a b y z sign p q
joined_value a b place sign left right (Some y) None p q = tt
joined_value a b place sign left right None (Some z) p q = tt
joined_value a b place sign left right None None p q = tt

pub joined_small : (k : ℕ) (place : Place) (sign : Sign) (left right next : Expr) → next ≡ joined place (added_by sign) left right → IsSmall k left → IsSmall 1 right → IsSmall (k + 1) next
joined_small k place sign left right next e p q =
    let sum : k * 1000000000 + 1 * 1000000000 ≡ (k + 1) * 1000000000 = omega arith in
    subst (IsSmall (k + 1)) (sym e)
    (record {
      below = subst (λ (b : ℕ). ValueBelow b (constant_of (joined place (added_by sign) left right))) sum
          (joined_value (k * 1000000000) (1 * 1000000000) place sign left right (constant_of left) (constant_of right) p.below q.below);
    })
