-- What a plain step does, and where plain steps stand among those of a procedure.
use Rattle.std.proofs.Common.{◌≡◌, ℕ, suc, ◌+◌, List, [], ◌∷◌, ◌++◌, length, map, ap, ◌∙◌, sym, subst, refl, arith, length-append}
use Rattle.std.specs.Prelude.{Option, Some, option_map, slice_get, ◌==◌, if◌then◌else◌}
use Rattle.odc_text.specs.Run.{checked}
use Rattle.odc_text.specs.Steps.{After, over}
use Rattle.odc_core.specs.Words.{width_size, unary_word, binary_word, compare_words, number_of, bytes_of}
use Rattle.odc_core.specs.Memory.{loaded, stored}
use Rattle.odc_core.specs.Program.{called_by}
use Rattle.odc_mid.specs.declared.tree.MidStep.{MidStep}
use Rattle.odc_mid.specs.declared.tree.MidStep.TheVariants.{Const, Address, Move, Unary, Binary, Compare, Load, Store, Jump, Branch, Call, CallValue, Return, Check as Checks, System}
use Rattle.odc_mid.specs.Run.{World, Config, temp, go_on, go_to, gives, gives_found, with_memory, named, calls, calls_found, returns, asks, carried, carried_at, act}
use Rattle.odc_lower.specs.Plain.{Step, const_step, address_step, move_step, unary_step, binary_step, compare_step, load_step, store_step, jump_step, branch_step, call_step, call_value_step, return_step, check_step, system_step, plain}

-- ---- what a step does

abbrev pub carried_plainly : World → Step → Config → After Config
carried_plainly world (const_step to word) c = gives to word c
carried_plainly world (address_step to of) c = gives_found to (named world c.here of) c
carried_plainly world (move_step to from) c = gives to (temp c from) c
carried_plainly world (unary_step to op operand) c = gives to (unary_word op (temp c operand)) c
carried_plainly world (binary_step to op left right) c = gives to (binary_word op (temp c left) (temp c right)) c
carried_plainly world (compare_step to op left right) c = gives to (compare_words op (temp c left) (temp c right)) c
carried_plainly world (load_step to width a) c = gives_found to (option_map number_of (loaded c.here.touched c.memory (temp c a) (width_size width))) c
carried_plainly world (store_step width a value) c = with_memory (stored c.here.touched c.memory (temp c a) (bytes_of (width_size width) (temp c value))) c
carried_plainly world (jump_step label) c = go_to label c
carried_plainly world (branch_step condition label) c = if temp c condition == 0 then go_on c else go_to label c
carried_plainly world (call_step to f arguments) c = calls to (slice_get world.procedures f) (map (temp c) arguments) c
carried_plainly world (call_value_step to target arguments marked) c =
    calls_found world to (temp c target) (map (temp c) arguments) marked (called_by world.entries 0 world.procedures (temp c target)) c
carried_plainly world (return_step value) c = returns (temp c value) c.callers c
carried_plainly world (check_step condition which place) c = if temp c condition == 0 then over (checked which place) c else go_on c
carried_plainly world (system_step call) c = asks call c

pub carried_is : (world : World) (step : MidStep) (c : Config) → carried world step c ≡ carried_plainly world (plain step) c
carried_is world (Const to word) c = refl
carried_is world (Address to of) c = refl
carried_is world (Move to from) c = refl
carried_is world (Unary to op operand) c = refl
carried_is world (Binary to op left right) c = refl
carried_is world (Compare to op left right) c = refl
carried_is world (Load to width a) c = refl
carried_is world (Store width a value) c = refl
carried_is world (Jump label) c = refl
carried_is world (Branch condition label) c = refl
carried_is world (Call to f arguments) c = refl
carried_is world (CallValue to target arguments marked) c = refl
carried_is world (Return value) c = refl
carried_is world (Checks condition which place) c = refl
carried_is world (System call) c = refl

-- ---- where steps stand

-- this step stands at this position
pub record Has (steps : List MidStep) (pc : ℕ) (x : Step) : Type 0 where
  pub step : MidStep
  pub here : slice_get steps pc ≡ Some step
  pub is : plain step ≡ x

pub acts : (world : World) (c : Config) (x : Step) → Has c.here.steps c.here.next x → act world c ≡ carried_plainly world x c
acts world c x h =
    ap (λ (o : Option MidStep). carried_at world o c) h.here ∙ carried_is world h.step c ∙ ap (λ (y : Step). carried_plainly world y c) h.is

-- these steps stand from one position up to another
abbrev pub Stands : List MidStep → ℕ → List Step → ℕ → Type 0
Stands steps pc [] end = pc ≡ end
Stands steps pc (x ∷ xs) end = Has steps pc x × Stands steps (pc + 1) xs end

pub record Parts (steps : List MidStep) (pc : ℕ) (xs ys : List Step) (end : ℕ) : Type 0 where
  pub middle : ℕ
  pub front : Stands steps pc xs middle
  pub back : Stands steps middle ys end

pub parts : (steps : List MidStep) (pc : ℕ) (xs ys : List Step) (end : ℕ) → Stands steps pc (xs ++ ys) end → Parts steps pc xs ys end
parts steps pc [] ys end h = record { middle = pc; front = refl; back = h }
parts steps pc (x ∷ xs) ys end h =
    let rest : Parts steps (pc + 1) xs ys end = parts steps (pc + 1) xs ys end h.1 in
    record { middle = rest.middle; front = (h.0, rest.front); back = rest.back }

pub stands_length : (steps : List MidStep) (pc : ℕ) (xs : List Step) (end : ℕ) → Stands steps pc xs end → end ≡ pc + length xs
stands_length steps pc [] end h = omega arith
stands_length steps pc (x ∷ xs) end h = let e : end ≡ pc + 1 + length xs = stands_length steps (pc + 1) xs end h.1 in omega arith

-- a list of steps stands in itself, behind what is in front of it
get_behind : {A : Type 0} (front : List A) (x : A) (rest : List A) → slice_get (front ++ (x ∷ rest)) (length front) ≡ Some x
get_behind [] x rest = refl
get_behind (y ∷ front) x rest = get_behind front x rest

append_one : {A : Type 0} (front : List A) (x : A) (rest : List A) → (front ++ (x ∷ [])) ++ rest ≡ front ++ (x ∷ rest)
append_one [] x rest = refl
append_one (y ∷ front) x rest = ap (λ zs. y ∷ zs) (append_one front x rest)

stands_behind : (front rest all : List MidStep) → all ≡ front ++ rest → Stands all (length front) (map plain rest) (length front + length rest)
stands_behind front [] all e = omega arith
stands_behind front (s ∷ rest) all e =
    let more : length (front ++ (s ∷ [])) ≡ length front + 1 = omega (arith, length-append front (s ∷ [])) in
    let end : length (front ++ (s ∷ [])) + length rest ≡ length front + suc (length rest) = omega (arith, more) in
    let P : ℕ → Type 0 = λ p. Stands all p (map plain rest) (length front + suc (length rest)) in
    let Q : ℕ → Type 0 = λ q. Stands all (length (front ++ (s ∷ []))) (map plain rest) q in (
      record { step = s; here = ap (λ (xs : List MidStep). slice_get xs (length front)) e ∙ get_behind front s rest; is = refl },
      subst P more (subst Q end (stands_behind (front ++ (s ∷ [])) rest all (e ∙ sym (append_one front s rest)))),
    )

pub stands_whole : (steps : List MidStep) (code : List Step) → map plain steps ≡ code → Stands steps 0 code (length steps)
stands_whole steps code e =
    let P : List Step → Type 0 = λ xs. Stands steps 0 xs (length steps) in
    let Q : ℕ → Type 0 = λ n. Stands steps 0 (map plain steps) n in
    let zero_first : 0 + length steps ≡ length steps = omega arith in
    subst P e (subst Q zero_first (stands_behind [] steps steps refl))
