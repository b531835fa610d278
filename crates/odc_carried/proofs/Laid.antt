-- How the variables of a core procedure are laid: those of the program as it says, and behind them the compiler's own.
use Rattle.std.proofs.Common.{◌≡◌, ℕ, zero, suc, ◌+◌, ◌*◌, ◌%◌, ◌<◌, ◌≤◌, inl, true, List, [], ◌∷◌, ◌++◌, length, map, take, arith, lit≤, ap, refl}
use Rattle.odc_program.specs.Trees.Program.{Local, Head, Tables, Body}
use Rattle.odc_program.specs.Typing.Frames.{rounded, framed_procedure, placed, frame_of}
use Rattle.odc_core.specs.declared.tree.Variable.{Variable}
use Rattle.odc_core.specs.Well.{ApartFrom, AreLaid, AreParameters}
use Rattle.odc_carried.specs.Carried.{is_int, are_ints}
use Rattle.odc_carried.specs.Code.{variable_of, highest, own_low, locals_of, own_variables, waits_from, wait_variable, buffer, pointer, number, stmts_depth}
use Rattle.odc_carried.specs.Tied.{size_of}
use Rattle.odc_carried.proofs.Quiet.{and_true, int_type}
use Rattle.odc_carried.proofs.Rooms.{env, placed_here, has_room, are_placed, frame_is}

-- ---- apart from all of two lists
apart_all : (v : Variable) (vs ws : List Variable) → ApartFrom v vs → ApartFrom v ws → ApartFrom v (vs ++ ws)
apart_all v [] ws h k = k
apart_all v (u ∷ vs) ws h k = (h.0, apart_all v vs ws h.1 k)

-- ---- the compiler's own
wait_apart : (low d e n : ℕ) → d < e → ApartFrom (wait_variable low d) (waits_from low e n)
wait_apart low d e zero less = tt
wait_apart low d e (suc n) less = (inl (omega (arith, less)), wait_apart low d (e + 1) n (omega (arith, less)))

below_waits : (v : Variable) (low e n : ℕ) → v.offset + v.size + 8 ≤ low + 80 → ApartFrom v (waits_from low e n)
below_waits v low e zero less = tt
below_waits v low e (suc n) less = (inl (omega (arith, less)), below_waits v low (e + 1) n less)

waits_laid : (frame low d n : ℕ) → low + (80 + 16 * (d + n)) ≤ frame → AreLaid frame (waits_from low d n)
waits_laid frame low d zero room = tt
waits_laid frame low d (suc n) room = ((omega arith, omega (arith, room)), (wait_apart low d (d + 1) n (omega arith), waits_laid frame low (d + 1) n (omega (arith, room))))

own_laid : (frame low n : ℕ) → 8 ≤ low → low + (80 + 16 * n) ≤ frame → AreLaid frame (own_variables low n)
own_laid frame low n far room = (
  (far, omega (arith, room)),
  (
    (inl (omega arith), (inl (omega arith), below_waits (buffer low) low 0 n (omega arith))),
    (
      (omega arith, omega (arith, room)),
      (
        (inl (omega arith), below_waits (pointer low) low 0 n (omega arith)),
        (
          (omega arith, omega (arith, room)),
          (below_waits (number low) low 0 n (omega arith), waits_laid frame low 0 n (omega (arith, room))),
        ),
      ),
    ),
  ),
)

-- what ends before them is apart from them
below_own : (v : Variable) (low n : ℕ) → v.offset + v.size + 8 ≤ low → ApartFrom v (own_variables low n)
below_own v low n less = (inl (omega (arith, less)), (inl (omega (arith, less)), (inl (omega (arith, less)), below_waits v low 0 n (omega (arith, less)))))

waits_length : (low d n : ℕ) → length (waits_from low d n) ≡ n
waits_length low d zero = refl
waits_length low d (suc n) = ap suc (waits_length low (d + 1) n)

length_both : (vs ws : List Variable) → length (vs ++ ws) ≡ length vs + length ws
length_both [] ws = omega arith
length_both (v ∷ vs) ws = let rest : length (vs ++ ws) ≡ length vs + length ws = length_both vs ws in omega (arith, rest)

pub variables_length : (vs : List Variable) (low n : ℕ) → length (vs ++ own_variables low n) ≡ length vs + (3 + n)
variables_length vs low n = let one = length_both vs (own_variables low n) in let two = waits_length low 0 n in omega (arith, one, two)

pub locals_length : (tables : Tables) (ls : List Local) → length (map (variable_of tables) ls) ≡ length ls
locals_length tables [] = refl
locals_length tables (l ∷ ls) = ap suc (locals_length tables ls)

-- ---- all variables of a procedure
module _ (tables : Tables) (p : Head) where
  behind_one : (v : Variable) (at : ℕ) (ls : List Local) → v.offset + v.size + 8 ≤ at → placed (env tables p) at ls ≡ true → ApartFrom v (map (variable_of tables) ls)
  behind_one v at [] less e = tt
  behind_one v at (l ∷ ls) less e =
      let here = placed_here tables p at l ls e in
      (inl (omega (arith, less, here.0)), behind_one v (at + rounded (size_of tables l) + 8) ls (omega (arith, less)) here.1)

  all_laid : (frame at low n : ℕ) (ls : List Local) → 8 ≤ at → highest (map (variable_of tables) ls) ≤ low → low + (80 + 16 * n) ≤ frame → placed (env tables p) at ls ≡ true → AreLaid frame (map (variable_of tables) ls ++ own_variables low n)
  all_laid frame at low n [] far high room e = own_laid frame low n (omega (arith, high)) room
  all_laid frame at low n (l ∷ ls) far high room e =
      let here = placed_here tables p at l ls e in
      let v : Variable = variable_of tables l in (
        (omega (arith, far, here.0), omega (arith, high, room)),
        (
          apart_all v (map (variable_of tables) ls) (own_variables low n) (behind_one v (at + rounded (size_of tables l) + 8) ls (omega (arith, here.0)) here.1) (below_own v low n (omega (arith, high))),
          all_laid frame (at + rounded (size_of tables l) + 8) low n ls (omega (arith, far)) (omega (arith, high)) room here.1,
        ),
      )

  pub variables_laid : (q : Body) → framed_procedure (env tables p) p q.stmts ≡ true → AreLaid p.frame (locals_of tables p ++ own_variables (own_low (locals_of tables p)) (stmts_depth q.stmts))
  variables_laid q e = all_laid p.frame 128 (own_low (locals_of tables p)) (stmts_depth q.stmts) p.locals (lit≤ tt) (omega arith) (has_room tables p q e) (are_placed tables p q e)

  pub frame_even : (q : Body) → framed_procedure (env tables p) p q.stmts ≡ true → p.frame % 16 ≡ 0
  frame_even q e = let is : p.frame ≡ frame_of (env tables p) p q.stmts = frame_is tables p q e in omega (arith, is)

-- the parameters are words
pub parameters_words : (tables : Tables) (n k : ℕ) (ls : List Local) (own : List Variable) → n ≤ k → k ≤ length ls → are_ints tables (take k ls) ≡ true → AreParameters n (map (variable_of tables) ls ++ own)
parameters_words tables zero k ls own few some e = tt
parameters_words tables (suc n) zero ls own few some e = absurd (omega (arith, few))
parameters_words tables (suc n) (suc k) [] own few some e = absurd (omega (arith, some))
parameters_words tables (suc n) (suc k) (l ∷ ls) own few some e =
    let both = and_true (is_int tables l.ty) (are_ints tables (take k ls)) e in
    ((int_type tables l.ty both.0).size, parameters_words tables n k ls own (omega (arith, few)) (omega (arith, some)) both.1)
