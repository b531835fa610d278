-- Words in core memory, and the variables of a frame that may be touched.
use Rattle.std.proofs.Common.{◌≡◌, ℕ, zero, suc, ◌+◌, ◌*◌, ◌/◌, ◌%◌, ◌^◌, ◌<◌, ◌≤◌, ◌⊎◌, Bool, true, false, List, [], ◌∷◌, ◌++◌, length, map, arith, ap, ◌∙◌, sym, subst, refl}
use Rattle.std.specs.Prelude.{Option, Some, None, option_map, slice_get, ◌&&◌, ◌||◌, if◌then◌else◌}
use Rattle.std.proofs.lemmas.Bool.Decides.{nat_tests}
use Rattle.std.proofs.Math.Nat.{zero-add}
use Rattle.rv_table.specs.Bytes.{run}
use Rattle.rv_table.proofs.Bytes.{run_written, run_same, written_out}
use Rattle.odc_core.specs.declared.tree.Variable.{Variable}
use Rattle.odc_core.specs.Words.{number_of, bytes_of}
use Rattle.odc_core.specs.Memory.{Memory, all_in, bytes_at, before, loaded, put, lies}
use Rattle.odc_core.specs.Frames.{in_variables, touched_in, variable_address}
use Rattle.odc_context.specs.Code.{Own, word_at, words_from, printing, buffer, pointer, number, variables_of, buffer_at, pointer_at, number_at}

-- ---- bytes

pub bytes_run : (m : Memory) (a : ℕ) (bs : List ℕ) → run m a (length bs) ≡ map Some bs → bytes_at m a (length bs) ≡ Some bs
bytes_run m a [] e = refl
bytes_run m a (b ∷ bs) e =
    let head : List (Option ℕ) → Option ℕ = λ xs. get_first xs in
    let first : m a ≡ Some b = ap head e in
    let rest : run m (a + 1) (length bs) ≡ map Some bs = ap drop_first e in
    ap (λ (o : Option ℕ). before o (bytes_at m (a + 1) (length bs))) first ∙ ap (before (Some b)) (bytes_run m (a + 1) bs rest)
  where
    get_first : List (Option ℕ) → Option ℕ
    get_first [] = None
    get_first (x ∷ xs) = x

    drop_first : List (Option ℕ) → List (Option ℕ)
    drop_first [] = []
    drop_first (x ∷ xs) = xs

-- eight bytes are a word
abbrev IsBytes : ℕ → ℕ → Type 0
IsBytes zero w = w ≡ 0
IsBytes (suc n) w = IsBytes n (w / 256)

bytes_number : (n w : ℕ) → IsBytes n w → number_of (bytes_of n w) ≡ w
bytes_number zero w h = sym h
bytes_number (suc n) w h =
    let whole : w % 256 + 256 * (w / 256) ≡ w = omega arith in
    ap (λ (x : ℕ). w % 256 + 256 * x) (bytes_number n (w / 256) h) ∙ whole

pub word_number : (w : ℕ) → w < 2 ^ 64 → number_of (bytes_of 8 w) ≡ w
word_number w h = bytes_number 8 w (omega arith)

-- the word stands there
abbrev pub WordAt : Memory → ℕ → ℕ → Type 0
WordAt m a w = run m a 8 ≡ map Some (bytes_of 8 w)

pub loaded_word : (touched : ℕ → Bool) (m : Memory) (a w : ℕ) → all_in touched a 8 ≡ true → WordAt m a w → loaded touched m a 8 ≡ Some (bytes_of 8 w)
loaded_word touched m a w t e = ap (λ (b : Bool). if b then bytes_at m a 8 else None) t ∙ bytes_run m a (bytes_of 8 w) e

pub put_word : (m : Memory) (a w : ℕ) → WordAt (put m a (bytes_of 8 w)) a w
put_word m a w = run_written m a (map Some (bytes_of 8 w))

pub put_away : (m : Memory) (a w x : ℕ) → (x < a) ⊎ (a + 8 ≤ x) → put m a (bytes_of 8 w) x ≡ m x
put_away m a w x h = written_out m a (map Some (bytes_of 8 w)) x h

pub word_apart : (m m' : Memory) (a w : ℕ) → ((x : ℕ) → a ≤ x → x < a + 8 → m' x ≡ m x) → WordAt m a w → WordAt m' a w
word_apart m m' a w h e = run_same m' m a 8 h ∙ e

-- ---- variables

slice_front : (vs ws : List Variable) (x : ℕ) (v : Variable) → slice_get vs x ≡ Some v → slice_get (vs ++ ws) x ≡ Some v
slice_front [] ws x v e = cc
slice_front (u ∷ vs) ws zero v e = e
slice_front (u ∷ vs) ws (suc x) v e = slice_front vs ws x v e

slice_behind : (vs ws : List Variable) (x : ℕ) → slice_get (vs ++ ws) (length vs + x) ≡ slice_get ws x
slice_behind [] ws x = ap (slice_get ws) (zero-add x)
slice_behind (u ∷ vs) ws x = let next : suc (length vs) + x ≡ suc (length vs + x) = omega arith in ap (slice_get ((u ∷ vs) ++ ws)) next ∙ slice_behind vs ws x

words_get : (y n x : ℕ) → x < n → slice_get (words_from y n) x ≡ Some (word_at (y + x))
words_get y zero x h = absurd (omega arith)
words_get y (suc n) zero h = let same : y ≡ y + 0 = omega arith in ap (λ (k : ℕ). Some (word_at k)) same
words_get y (suc n) (suc x) h = let same : y + 1 + x ≡ y + suc x = omega arith in words_get (y + 1) n x (omega arith) ∙ ap (λ (k : ℕ). Some (word_at k)) same

words_length : (y n : ℕ) → length (words_from y n) ≡ n
words_length y zero = refl
words_length y (suc n) = ap suc (words_length (y + 1) n)

pub word_variable : (o : Own) (x : ℕ) → x < o.first + o.waiting → slice_get (variables_of o) x ≡ Some (word_at x)
word_variable o x h = slice_front (words_from 0 (o.first + o.waiting)) printing x (word_at x) (words_get 0 (o.first + o.waiting) x h ∙ (let same : 0 + x ≡ x = omega arith in ap (λ (k : ℕ). Some (word_at k)) same))

printing_variable : (o : Own) (x : ℕ) → slice_get (variables_of o) (o.first + o.waiting + x) ≡ slice_get printing x
printing_variable o x =
    ap (λ (n : ℕ). slice_get (variables_of o) (n + x)) (sym (words_length 0 (o.first + o.waiting)))
    ∙ slice_behind (words_from 0 (o.first + o.waiting)) printing x

pub buffer_variable : (o : Own) → slice_get (variables_of o) (buffer_at o) ≡ Some buffer
buffer_variable o = let same : o.first + o.waiting ≡ o.first + o.waiting + 0 = omega arith in ap (slice_get (variables_of o)) same ∙ printing_variable o 0

pub pointer_variable : (o : Own) → slice_get (variables_of o) (pointer_at o) ≡ Some pointer
pointer_variable o = printing_variable o 1

pub number_variable : (o : Own) → slice_get (variables_of o) (number_at o) ≡ Some number
number_variable o = printing_variable o 2

-- ---- what may be touched

or_left : (a b : Bool) → a ≡ true → (a || b) ≡ true
or_left a b e = ap (λ (x : Bool). x || b) e

or_right : (a b : Bool) → b ≡ true → (a || b) ≡ true
or_right true b e = refl
or_right false b e = e

lies_in : (a n x : ℕ) → a ≤ x → x < a + n → lies a n x ≡ true
lies_in a n x low high = grind (arith, nat_tests)

in_variable : (low : ℕ) (vs : List Variable) (i : ℕ) (v : Variable) (x : ℕ) → slice_get vs i ≡ Some v → low + v.offset ≤ x → x < low + v.offset + v.size → in_variables low vs x ≡ true
in_variable low [] i v x e from to = cc
in_variable low (u ∷ vs) zero v x e from to =
    let same : u ≡ v = cc in
    let P : Variable → Type 0 = λ y. (lies (low + y.offset) y.size x || in_variables low vs x) ≡ true in
    subst P (sym same) (or_left (lies (low + v.offset) v.size x) (in_variables low vs x) (lies_in (low + v.offset) v.size x from to))
in_variable low (u ∷ vs) (suc i) v x e from to = or_right (lies (low + u.offset) u.size x) (in_variables low vs x) (in_variable low vs i v x e from to)

all_touched : (touched : ℕ → Bool) (a n : ℕ) → ((x : ℕ) → a ≤ x → x < a + n → touched x ≡ true) → all_in touched a n ≡ true
all_touched touched a zero h = refl
all_touched touched a (suc n) h =
    let first : touched a ≡ true = h a (omega arith) (omega arith) in
    let rest : all_in touched (a + 1) n ≡ true = all_touched touched (a + 1) n (λ x l u. h x (omega arith) (omega arith)) in
    ap (λ (b : Bool). b && all_in touched (a + 1) n) first ∙ rest

-- a part of a variable may be touched
pub part_touched : (outer : ℕ → Bool) (low : ℕ) (vs : List Variable) (i : ℕ) (v : Variable) (a n : ℕ) → slice_get vs i ≡ Some v → low + v.offset ≤ a → a + n ≤ low + v.offset + v.size →
    all_in (touched_in outer low vs) a n ≡ true
part_touched outer low vs i v a n e from to =
    all_touched (touched_in outer low vs) a n (λ x l u. or_left (in_variables low vs x) (outer x) (in_variable low vs i v x e (omega arith) (omega arith)))

pub address_found : (low : ℕ) (vs : List Variable) (i : ℕ) (v : Variable) → slice_get vs i ≡ Some v → variable_address low vs i ≡ Some (low + v.offset)
address_found low vs i v e = ap (option_map (λ (u : Variable). low + u.offset)) e
