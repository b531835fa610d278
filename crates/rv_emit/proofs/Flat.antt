-- The machine over flat memory: registers and memory as functions. Where instructions stand, one
-- configuration reaches another in an exact number of steps.
use Rattle.std.proofs.Common.{◌≡◌, ℕ, zero, suc, ◌+◌, ◌*◌, ◌%◌, ◌^◌, ◌<◌, ◌≤◌, ◌⊎◌, inl, inr, Bool, true, false, cond, List, [], ◌∷◌, ◌++◌, length, map, arith, ap, ◌∙◌, sym, subst, refl, lit<}
use Rattle.std.specs.Prelude.{Some, slice_get, slice_index, slice_set, ◌==◌, ◌&&◌, if◌then◌else◌}
use Rattle.std.proofs.lemmas.Bool.Decides.{nat_tests}
use Rattle.std.proofs.lemmas.List.{get_or-set_same, get_or-set_other, length-set}
use Rattle.std.proofs.Math.Nat.{mod-eq_of_lt}
use Rattle.odc_text.specs.Run.{exited, out, err, Log}
use Rattle.odc_text.specs.Steps.{After, on, over, Stand, stood_after, stood}
use Rattle.rv_table.specs.Bytes.{run, written}
use Rattle.rv_table.specs.State.{State, Step, register, with_register, next_pc, effect_of, applied, executed, put, put_loaded, kept, branched, loaded, load_size, load_value, store_bytes, fetched, jumps_by_x5, listed, aligned}
use Rattle.rv_table.specs.Run.{Config, act, ran, answer, written_bytes, system_called, read_called, write_called, wrote, refused, trap}
use Rattle.rv_table.specs.Areas.{Shows, Shape, shape, has, AreApart, Filled}
use Rattle.rv_table.specs.Standing.{StandsAt, StandFrom}
use Rattle.rv_table.specs.declared.inst.Inst.{Inst}
use Rattle.rv_table.specs.declared.effect.Access.TheVariants.{Read, Write, Execute}
use Rattle.rv_table.specs.declared.effect.Effect.{Effect}
use Rattle.rv_table.specs.declared.effect.Effect.TheVariants.{Put, Load, Store, Branch, Link}
use Rattle.rv_table.specs.declared.effect.LoadKind.{LoadKind}
use Rattle.rv_table.specs.declared.effect.StoreKind.{StoreKind}
use Rattle.rv_table.specs.declared.effect.Event.TheVariants.{Next, Trap}
use Rattle.rv_table.specs.declared.inst.Inst.TheVariants.{Ecall}
use Rattle.rv_table.proofs.Bytes.{length_run}
use Rattle.rv_table.proofs.Areas.{loaded_shown, stored_shown}
use Rattle.rv_table.proofs.Fetch.{fetched_shown, act_next, act_system, stand_kept, stands_at}
use Rattle.rv_emit.specs.Code.{text_start}
use Rattle.odc_core.specs.declared.tree.Descriptor.{Descriptor}
use Rattle.odc_core.specs.declared.tree.Descriptor.TheVariants.{Out, Err}
use Rattle.odc_core.specs.Run.{entry_to}
use Rattle.rv_emit.specs.Code.{descriptor_number}
use Rattle.odc_text.specs.Run.{End, checked, Call, call}
use Rattle.odc_text.specs.Check.{number_of}
use Rattle.odc_text.specs.declared.check.Check.{Check}
use Rattle.odc_text.specs.declared.place.Place.{Place}
use Rattle.std.specs.Int.{w64, cast_signed}
use Rattle.std.specs.Prelude.{ℕ, ◌/◌, pos, take, drop, Option}
use Rattle.rv_table.specs.State.{Area, filled, address_from}
use Rattle.rv_table.specs.Run.{Site, call_made, reading, read_areas, took, stopped_at}
use Rattle.rv_table.specs.declared.inst.Inst.TheVariants.{Ebreak, Jalr}
use Rattle.rv_table.proofs.Areas.{filled_shown}
use Rattle.rv_table.proofs.Fetch.{act_call, act_break, write_away}

-- ---- the ranges

abbrev pub shape_at : ℕ → ℕ → Shape
shape_at start size = record { start = start; size = size; readable = true; writable = true; executable = false }

abbrev pub layout : ℕ → ℕ → List Shape
layout size store =
    record { start = text_start; size = size; readable = true; writable = false; executable = true } ∷
    shape_at 0x5000_0000 store ∷
    shape_at 0x6000_0000 (16 * 2 ^ 20) ∷
    shape_at 0x6800_0000 (2 ^ 20) ∷
    shape_at 0x7800_0000 (2 ^ 27) ∷
    []

pub layout_apart : (size store : ℕ) → size ≤ 0x4fff_0000 → store ≤ 0x0fff_0000 → AreApart (layout size store)
layout_apart size store h k = (
  (inl (omega arith), (inl (omega arith), (inl (omega arith), (inl (omega arith), tt)))),
  (
    (inl (omega arith), (inl (omega arith), (inl (omega arith), tt))),
    (
      (inl (omega arith), (inl (omega arith), tt)),
      (
        (inl (omega arith), tt),
        (tt, tt),
      ),
    ),
  ),
)

pub has_stack_write : (size store a n : ℕ) → 0x7800_0000 ≤ a → a + n ≤ 2 ^ 31 → has Write a n (layout size store) ≡ true
has_stack_write size store a n low high = grind (arith, nat_tests)

pub has_stack_read : (size store a n : ℕ) → 0x7800_0000 ≤ a → a + n ≤ 2 ^ 31 → has Read a n (layout size store) ≡ true
has_stack_read size store a n low high = grind (arith, nat_tests)

pub has_text : (size store a : ℕ) → text_start ≤ a → a + 4 ≤ text_start + size → has Execute a 4 (layout size store) ≡ true
has_text size store a low high = grind (arith, nat_tests)

-- ---- registers and memory as functions

-- a register by its number; register 0 is 0
abbrev pub reg : (ℕ → ℕ) → ℕ → ℕ
reg g r = if r == 0 then 0 else g r

abbrev pub set : (ℕ → ℕ) → ℕ → ℕ → ℕ → ℕ
set g rd v r = if r == rd then v else g r

pub record Flat : Type 0 where
  pub regs : ℕ → ℕ
  pub mem : ℕ → ℕ
  pub log : Log ℕ ℕ
  pub input : List ℕ
  pub taken : ℕ

-- the registers of a state are these
pub record Regs (s : State) (g : ℕ → ℕ) : Type 0 where
  pub count : length s.registers ≡ 32
  pub each : (r : ℕ) → r < 32 → slice_index s.registers r ≡ reg g r

one_set : (xs : List ℕ) (rd v : ℕ) (g : ℕ → ℕ) (r : ℕ) (t : Bool) → (rd == 0) ≡ t → rd < length xs → slice_index xs r ≡ reg g r →
    slice_index (cond t xs (slice_set xs rd v)) r ≡ reg (set g rd v) r
one_set xs rd v g r true e h is = grind (arith, nat_tests)
one_set xs rd v g r false e h is = grind (arith, nat_tests, get_or-set_same xs rd v 0, get_or-set_other xs rd r v 0)

count_set : (xs : List ℕ) (rd v : ℕ) (t : Bool) → length (cond t xs (slice_set xs rd v)) ≡ length xs
count_set xs rd v true = refl
count_set xs rd v false = length-set xs rd v

pub regs_put : (s : State) (g : ℕ → ℕ) (rd v : ℕ) → rd < 32 → Regs s g → Regs (record s { registers = with_register s.registers rd v }) (set g rd v)
regs_put s g rd v h is = record {
  count = count_set s.registers rd v (rd == 0) ∙ is.count;
  each = λ r small. one_set s.registers rd v g r (rd == 0) refl (omega arith) (is.each r small);
}

pub slice_get_below : {A : Type 0} (xs : List A) (i : ℕ) (x : A) → slice_get xs i ≡ Some x → i < length xs
slice_get_below [] i x e = cc
slice_get_below (y ∷ ys) zero x e = omega arith
slice_get_below (y ∷ ys) (suc i) x e = let rest : i < length ys = slice_get_below ys i x e in omega arith

pub regs_alike : (s : State) (g h : ℕ → ℕ) → ((r : ℕ) → g r ≡ h r) → Regs s g → Regs s h
regs_alike s g h same is = record { count = is.count; each = λ r small. is.each r small ∙ ap (λ (v : ℕ). if r == 0 then 0 else v) (same r) }

-- ---- an instruction at a place, and instructions from one place to another

pub record At (code : List Inst) (pc : ℕ) (inst : Inst) : Type 0 where
  pub position : ℕ
  pub place : pc ≡ text_start + 4 * position
  pub here : slice_get code position ≡ Some inst

abbrev pub Stands : List Inst → ℕ → List Inst → ℕ → Type 0
Stands code pc [] end = pc ≡ end
Stands code pc (inst ∷ rest) end = At code pc inst × Stands code (pc + 4) rest end

pub stands_parts : (code : List Inst) (pc : ℕ) (a b : List Inst) (end : ℕ) → Stands code pc (a ++ b) end → (middle : ℕ) × Stands code pc a middle × Stands code middle b end
stands_parts code pc [] b end h = (pc, refl, h)
stands_parts code pc (i ∷ a) b end h =
    let rest = stands_parts code (pc + 4) a b end h.1 in
    (rest.0, (h.0, rest.1), rest.2)

pub stands_join : (code : List Inst) (p : ℕ) (x y : List Inst) (q r : ℕ) → Stands code p x q → Stands code q y r → Stands code p (x ++ y) r
stands_join code p [] y q r h k = let P : ℕ → Type 0 = λ n. Stands code n y r in subst P (sym h) k
stands_join code p (i ∷ x) y q r h k = (h.0, stands_join code (p + 4) x y q r h.1 k)

-- ---- one configuration leads to another in so many steps

abbrev pub later : ℕ → Stand Config → Stand Config
later d s = record { end = s.end; last = s.last; steps = s.steps + d }

same_steps : (s : Stand Config) (m n : ℕ) → m ≡ n → (λ (k : ℕ). let r : Stand Config = record { end = s.end; last = s.last; steps = k } in r) m ≡ (λ (k : ℕ). let r : Stand Config = record { end = s.end; last = s.last; steps = k } in r) n
same_steps s m n e = ap (λ (k : ℕ). let r : Stand Config = record { end = s.end; last = s.last; steps = k } in r) e

module _ (sites : List Site) (calls : List ℕ) where
  pub record Leads (c : Config) (d : ℕ) (c' : Config) : Type 0 where
    pub by : (k j : ℕ) → j ≡ k + d → ran sites calls j c ≡ later d (ran sites calls k c')

  pub none_leads : (c : Config) → Leads c 0 c
  none_leads c = record {
    by = λ k j e.
        let same : j ≡ k = omega arith in
        ap (λ (n : ℕ). ran sites calls n c) same ∙ same_steps (ran sites calls k c) (ran sites calls k c).steps ((ran sites calls k c).steps + 0) (omega arith);
  }

  pub one_leads : (c c' : Config) → act sites calls c ≡ on c' → Leads c 1 c'
  one_leads c c' e = record {
    by = λ k j q.
        let same : j ≡ suc k = omega arith in
        ap (λ (n : ℕ). ran sites calls n c) same ∙ ap (λ (a : After Config). stood_after (stood (act sites calls) k) a) e;
  }

  pub leads_on : (c : Config) (d : ℕ) (c' : Config) (e : ℕ) (c'' : Config) → Leads c d c' → Leads c' e c'' → Leads c (d + e) c''
  leads_on c d c' e c'' a b = record {
    by = λ k j q.
        a.by (k + e) j (omega arith) ∙ ap (later d) (b.by k (k + e) refl) ∙ same_steps (ran sites calls k c'') ((ran sites calls k c'').steps + e + d) ((ran sites calls k c'').steps + (d + e)) (omega arith);
  }

-- ---- an image: its instructions, where each procedure begins, the size of its store, its sites and calls

pub record Setting : Type 0 where
  pub code : List Inst
  pub entries : ℕ → ℕ
  pub store_size : ℕ
  pub sites : List Site
  pub calls : List ℕ
  pub short : 4 * length code ≤ 0x4fff_0000
  pub low : store_size ≤ 0x0fff_0000

-- ---- calls of the system

some_test : (n : ℕ) → (suc n == 0) ≡ false
some_test n = grind (arith, nat_tests)

written_at : (s : State) (address size : ℕ) (f : ℕ → ℕ) → register s 11 ≡ address → register s 12 ≡ size → (0 < size → loaded s.areas Read address size ≡ Some (run f address size)) →
    written_bytes s ≡ Some (run f address size)
written_at s address zero f from count read = ap (λ (n : ℕ). if n == 0 then Some [] else loaded s.areas Read (register s 11) (register s 12)) count
written_at s address (suc size) f from count read =
    ap (λ (n : ℕ). if n == 0 then Some [] else loaded s.areas Read (register s 11) n) count
    ∙ ap (λ (b : Bool). if b then Some [] else loaded s.areas Read (register s 11) (suc size)) (some_test size)
    ∙ ap (λ (a : ℕ). loaded s.areas Read a (suc size)) from
    ∙ read (omega arith)

wrote_to : (c : Config) (d : Descriptor) (o : Option (List ℕ)) →
    (if descriptor_number d == 1 then wrote c out o else (if descriptor_number d == 2 then wrote c err o else refused c)) ≡ wrote c (entry_to d) o
wrote_to c Out o = refl
wrote_to c Err o = refl

system_writes : (c : Config) (d : Descriptor) (bytes : List ℕ) → register c.state 17 ≡ 64 → register c.state 10 ≡ descriptor_number d → written_bytes c.state ≡ Some bytes →
    system_called c ≡ on (record c { state = answer c.state (length bytes); log = c.log ++ map (entry_to d) bytes })
system_writes c d bytes number descriptor given =
    ap (λ (n : ℕ). if n == 63 then read_called c else (if n == 64 then write_called c else (if n == 93 then over (exited (register c.state 10 % 2 ^ 8)) c else trap c))) number
    ∙ ap (λ (n : ℕ). if n == 1 then wrote c out (written_bytes c.state) else (if n == 2 then wrote c err (written_bytes c.state) else refused c)) descriptor
    ∙ wrote_to c d (written_bytes c.state)
    ∙ ap (wrote c (entry_to d)) given

system_exits : (c : Config) → register c.state 17 ≡ 93 → (code : ℕ) → register c.state 10 ≡ code → system_called c ≡ over (exited (code % 2 ^ 8)) c
system_exits c number code is =
    ap (λ (n : ℕ). if n == 63 then read_called c else (if n == 64 then write_called c else (if n == 93 then over (exited (register c.state 10 % 2 ^ 8)) c else trap c))) number
    ∙ ap (λ (n : ℕ). let r : After Config = over (exited (n % 2 ^ 8)) c in r) is

system_reads : (c : Config) (bytes : List ℕ) (areas : List Area) → register c.state 17 ≡ 63 → register c.state 10 ≡ 0 → take (register c.state 12) c.input ≡ bytes → read_areas c.state bytes ≡ Some areas →
    system_called c ≡ on (record c { state = answer (record c.state { areas = areas }) (length bytes); input = drop (length bytes) c.input; taken = c.taken + length bytes })
system_reads c bytes areas number descriptor given into =
    ap (λ (n : ℕ). if n == 63 then read_called c else (if n == 64 then write_called c else (if n == 93 then over (exited (register c.state 10 % 2 ^ 8)) c else trap c))) number
    ∙ ap (λ (n : ℕ). if n == 0 then reading c else refused c) descriptor
    ∙ ap (λ (bs : List ℕ). took c (length bs) (read_areas c.state bs)) given
    ∙ ap (took c (length bytes)) into

record Input (s : State) (address size : ℕ) (f : ℕ → ℕ) (bytes : List ℕ) : Type 0 where
  after : List Area
  is : read_areas s bytes ≡ Some after
  shows : Shows after (written f address bytes)
  shapes : map shape after ≡ map shape s.areas

no_bytes : (bytes : List ℕ) → length bytes ≤ 0 → bytes ≡ []
no_bytes [] h = refl
no_bytes (b ∷ bs) h = absurd (omega arith)

read_into : (s : State) (address size : ℕ) (f : ℕ → ℕ) (bytes : List ℕ) → register s 11 ≡ address → register s 12 ≡ size → (0 < size → Filled s.areas f address size bytes) → Shows s.areas f → length bytes ≤ size →
    Input s address size f bytes
read_into s address zero f bytes from count fills shows few = record {
  after = s.areas;
  is = ap (λ (n : ℕ). if n == 0 then Some s.areas else filled s.areas (register s 11) (register s 12) bytes) count;
  shows = (let P : List ℕ → Type 0 = λ bs. Shows s.areas (written f address bs) in subst P (sym (no_bytes bytes few)) shows);
  shapes = refl;
}
read_into s address (suc size) f bytes from count fills shows few =
    let x : Filled s.areas f address (suc size) bytes = fills (omega arith) in
    record {
      after = x.after;
      is =
          ap (λ (n : ℕ). if n == 0 then Some s.areas else filled s.areas (register s 11) n bytes) count
          ∙ ap (λ (b : Bool). if b then Some s.areas else filled s.areas (register s 11) (suc size) bytes) (some_test size)
          ∙ ap (λ (a : ℕ). filled s.areas a (suc size) bytes) from
          ∙ x.is;
      shows = x.shows;
      shapes = x.shapes;
    }

pub length_take : {A : Type 0} (n : ℕ) (xs : List A) → length (take n xs) ≤ n
length_take zero xs = omega arith
length_take (suc n) [] = omega arith
length_take (suc n) (x ∷ xs) = let rest : length (take n xs) ≤ n = length_take n xs in omega arith

stops : (c : Config) (which : Check) (source : Place) → register c.state 10 ≡ number_of which → stopped_at c (Some (which, source)) ≡ over (checked which source) c
stops c which source is =
    let same : (number_of which == register c.state 10) ≡ true = grind (arith, nat_tests, is) in
    ap (λ (b : Bool). if b then over (checked which source) c else trap c) same

-- the call that the registers tell
abbrev pub flat_call : (ℕ → ℕ) → Call ℕ ℕ
flat_call g = record {
  procedure = reg g 5;
  given = reg g 10;
  mode = cast_signed w64 (reg g 11);
  size = cast_signed w64 (reg g 12);
  align = cast_signed w64 (reg g 13);
  old = reg g 14;
  old_size = cast_signed w64 (reg g 15);
}

made_is : (s : State) (g : ℕ → ℕ) → Regs s g → call_made s ≡ flat_call g
made_is s g is =
    let five : register s 5 ≡ reg g 5 = is.each 5 (lit< tt) in
    let ten : register s 10 ≡ reg g 10 = is.each 10 (lit< tt) in
    let eleven : register s 11 ≡ reg g 11 = is.each 11 (lit< tt) in
    let twelve : register s 12 ≡ reg g 12 = is.each 12 (lit< tt) in
    let thirteen : register s 13 ≡ reg g 13 = is.each 13 (lit< tt) in
    let fourteen : register s 14 ≡ reg g 14 = is.each 14 (lit< tt) in
    let fifteen : register s 15 ≡ reg g 15 = is.each 15 (lit< tt) in
    let make : ℕ → ℕ → ℕ → ℕ → ℕ → ℕ → ℕ → Call ℕ ℕ =
    λ p q r t u v w. record { procedure = p; given = q; mode = cast_signed w64 r; size = cast_signed w64 t; align = cast_signed w64 u; old = v; old_size = cast_signed w64 w } in
    ap (λ (x : ℕ). make x (register s 10) (register s 11) (register s 12) (register s 13) (register s 14) (register s 15)) five
    ∙ ap (λ (x : ℕ). make (reg g 5) x (register s 11) (register s 12) (register s 13) (register s 14) (register s 15)) ten
    ∙ ap (λ (x : ℕ). make (reg g 5) (reg g 10) x (register s 12) (register s 13) (register s 14) (register s 15)) eleven
    ∙ ap (λ (x : ℕ). make (reg g 5) (reg g 10) (reg g 11) x (register s 13) (register s 14) (register s 15)) twelve
    ∙ ap (λ (x : ℕ). make (reg g 5) (reg g 10) (reg g 11) (reg g 12) x (register s 14) (register s 15)) thirteen
    ∙ ap (λ (x : ℕ). make (reg g 5) (reg g 10) (reg g 11) (reg g 12) (reg g 13) x (register s 15)) fourteen
    ∙ ap (λ (x : ℕ). make (reg g 5) (reg g 10) (reg g 11) (reg g 12) (reg g 13) (reg g 14) x) fifteen

-- what may be written lies away from the text
pub text_away : (rs : List Area) (m : Setting) (address size : ℕ) → AreApart (map shape rs) → map shape rs ≡ layout (4 * length m.code) m.store_size → has Write address size (map shape rs) ≡ true →
    (address + size ≤ text_start) ⊎ (text_start + 4 * length m.code ≤ address)
text_away rs m address size apart shapes held =
    let r : Shape = record { start = text_start; size = 4 * length m.code; readable = true; writable = false; executable = true } in
    let first : slice_get (map shape rs) 0 ≡ Some r = ap (λ (ss : List Shape). slice_get ss 0) shapes in
    write_away rs r 0 address size apart first refl held

-- ---- a configuration over flat memory

module _ (m : Setting) where
  pub record Is (c : Config) (place : ℕ) (a : Flat) : Type 0 where
    pub pc : c.state.pc ≡ place
    pub regs : Regs c.state a.regs
    pub shows : Shows c.state.areas a.mem
    pub shapes : map shape c.state.areas ≡ layout (4 * length m.code) m.store_size
    pub text : StandFrom a.mem text_start m.code
    pub log : c.log ≡ a.log
    pub input : c.input ≡ a.input
    pub taken : c.taken ≡ a.taken

  pub record There (c : Config) (d place : ℕ) (a : Flat) : Type 0 where
    pub last : Config
    pub leads : Leads m.sites m.calls c d last
    pub is : Is last place a

  -- whatever stands so leads in d steps to one that stands so
  pub record Reaches (place : ℕ) (a : Flat) (d place' : ℕ) (a' : Flat) : Type 0 where
    pub by : (c : Config) → Is c place a → There c d place' a'

  pub stays : (place : ℕ) (a : Flat) → Reaches place a 0 place a
  stays place a = record { by = λ c is. record { last = c; leads = none_leads m.sites m.calls c; is = is } }

  pub reaches_on : (p : ℕ) (a : Flat) (d p' : ℕ) (a' : Flat) (k p'' : ℕ) (a'' : Flat) → Reaches p a d p' a' → Reaches p' a' k p'' a'' → Reaches p a (d + k) p'' a''
  reaches_on p a d p' a' k p'' a'' f g = record {
    by = λ c is.
        let first = f.by c is in
        let second = g.by first.last first.is in
        record { last = second.last; leads = leads_on m.sites m.calls c d first.last k second.last first.leads second.leads; is = second.is };
  }

  -- the instruction at the place is fetched
  fetches : (c : Config) (place : ℕ) (a : Flat) (inst : Inst) → At m.code place inst → Is c place a → fetched c.state ≡ Some inst
  fetches c place a inst at is =
      let small : at.position < length m.code = slice_get_below m.code at.position inst at.here in
      let low : text_start ≤ c.state.pc = omega (arith, is.pc, at.place) in
      let high : c.state.pc + 4 ≤ text_start + 4 * length m.code = omega (arith, is.pc, at.place) in
      let held : has Execute c.state.pc 4 (map shape c.state.areas) ≡ true = ap (has Execute c.state.pc 4) is.shapes ∙ has_text (4 * length m.code) m.store_size c.state.pc low high in
      let P : ℕ → Type 0 = λ x. StandsAt a.mem x inst in
      fetched_shown c.state a.mem inst is.shows held (subst P (sym at.place ∙ sym is.pc) (stands_at a.mem text_start m.code at.position inst is.text at.here))

  -- the program counter of a place in the code, and the next one
  next_is : (c : Config) (place : ℕ) (a : Flat) (inst : Inst) → At m.code place inst → Is c place a → next_pc c.state ≡ place + 4
  next_is c place a inst at is =
      let small : at.position < length m.code = slice_get_below m.code at.position inst at.here in
      let low : place + 4 < 2 ^ 64 = omega (arith, at.place) in
      ap (λ (x : ℕ). (x + 4) % 2 ^ 64) is.pc ∙ mod-eq_of_lt low

  -- an instruction that goes on to another state
  goes : (place place' : ℕ) (a a' : Flat) (inst : Inst) (c : Config) (s : State) → At m.code place inst → jumps_by_x5 inst ≡ false → Is c place a →
      executed inst c.state ≡ (Next, s) → Is (record c { state = s }) place' a' → There c 1 place' a'
  goes place place' a a' inst c s at plain is e is' =
      let unlisted : jumps_by_x5 inst && listed m.calls c.state.pc ≡ false = ap (λ (b : Bool). b && listed m.calls c.state.pc) plain in
      record { last = record c { state = s }; leads = one_leads m.sites m.calls c (record c { state = s }) (act_next m.sites m.calls c inst (fetches c place a inst at is) s unlisted e); is = is' }

  -- an instruction that puts a value into a register, which may depend on where it stands
  pub puts_here : (place : ℕ) (a : Flat) (inst : Inst) (rd v : ℕ) → At m.code place inst → jumps_by_x5 inst ≡ false → rd < 32 →
      ((s : State) → Regs s a.regs → s.pc ≡ place → effect_of inst s ≡ Put rd v) → Reaches place a 1 (place + 4) (record a { regs = set a.regs rd v })
  unfolding executed
  puts_here place a inst rd v at plain small effect = record {
    by = λ c is.
        goes place (place + 4) a (record a { regs = set a.regs rd v }) inst c (put c.state rd v).1 at plain is (ap (λ (e : Effect). applied e c.state) (effect c.state is.regs is.pc))
        (record {
          pc = next_is c place a inst at is;
          regs = (let r = regs_put c.state a.regs rd v small is.regs in record { count = r.count; each = r.each });
          shows = is.shows;
          shapes = is.shapes;
          text = is.text;
          log = is.log;
          input = is.input;
          taken = is.taken;
        });
  }

  pub puts : (place : ℕ) (a : Flat) (inst : Inst) (rd v : ℕ) → At m.code place inst → jumps_by_x5 inst ≡ false → rd < 32 →
      ((s : State) → Regs s a.regs → effect_of inst s ≡ Put rd v) → Reaches place a 1 (place + 4) (record a { regs = set a.regs rd v })
  puts place a inst rd v at plain small effect = puts_here place a inst rd v at plain small (λ s r q. effect s r)

  -- a load
  pub loads : (place : ℕ) (a : Flat) (inst : Inst) (rd address value : ℕ) (kind : LoadKind) → At m.code place inst → jumps_by_x5 inst ≡ false → rd < 32 →
      ((s : State) → Regs s a.regs → effect_of inst s ≡ Load rd address kind) → load_value kind (run a.mem address (load_size kind)) ≡ value →
      has Read address (load_size kind) (layout (4 * length m.code) m.store_size) ≡ true → Reaches place a 1 (place + 4) (record a { regs = set a.regs rd value })
  unfolding executed
  loads place a inst rd address value kind at plain small effect e within = record {
    by = λ c is.
        let held : has Read address (load_size kind) (map shape c.state.areas) ≡ true =
        ap (has Read address (load_size kind)) is.shapes ∙ within in
        let read : loaded c.state.areas Read address (load_size kind) ≡ Some (run a.mem address (load_size kind)) =
        loaded_shown c.state.areas a.mem Read address (load_size kind) is.shows held in
        goes place (place + 4) a (record a { regs = set a.regs rd value }) inst c (put c.state rd value).1 at plain is
        (ap (λ (f : Effect). applied f c.state) (effect c.state is.regs) ∙ ap (put_loaded c.state rd kind) read ∙ ap (put c.state rd) e)
        (record {
          pc = next_is c place a inst at is;
          regs = (let r = regs_put c.state a.regs rd value small is.regs in record { count = r.count; each = r.each });
          shows = is.shows;
          shapes = is.shapes;
          text = is.text;
          log = is.log;
          input = is.input;
          taken = is.taken;
        });
  }

  -- a store
  pub stores : (place : ℕ) (a : Flat) (inst : Inst) (address value : ℕ) (kind : StoreKind) → At m.code place inst → jumps_by_x5 inst ≡ false →
      ((s : State) → Regs s a.regs → effect_of inst s ≡ Store address kind value) →
      has Write address (length (store_bytes kind value)) (layout (4 * length m.code) m.store_size) ≡ true →
      Reaches place a 1 (place + 4) (record a { mem = written a.mem address (store_bytes kind value) })
  unfolding executed
  stores place a inst address value kind at plain effect within = record {
    by = λ c is.
        let bytes = store_bytes kind value in
        let apart : AreApart (map shape c.state.areas) = subst AreApart (sym is.shapes) (layout_apart (4 * length m.code) m.store_size m.short m.low) in
        let held : has Write address (length bytes) (map shape c.state.areas) ≡ true =
        ap (has Write address (length bytes)) is.shapes ∙ within in
        let filled : Filled c.state.areas a.mem address (length bytes) bytes = stored_shown c.state.areas a.mem address bytes is.shows apart held in
        let away : (address + length bytes ≤ text_start) ⊎ (text_start + 4 * length m.code ≤ address) = text_away c.state.areas m address (length bytes) apart is.shapes held in
        let s : State = record c.state { areas = filled.after; pc = next_pc c.state } in
        goes place (place + 4) a (record a { mem = written a.mem address bytes }) inst c s at plain is
        (ap (λ (e : Effect). applied e c.state) (effect c.state is.regs) ∙ ap (kept c.state) filled.is)
        (record {
          pc = next_is c place a inst at is;
          regs = record { count = is.regs.count; each = is.regs.each };
          shows = filled.shows;
          shapes = filled.shapes ∙ is.shapes;
          text = stand_kept a.mem text_start m.code address bytes away is.text;
          log = is.log;
          input = is.input;
          taken = is.taken;
        });
  }

  -- a branch that is taken, and one that isn't
  pub branches : (place : ℕ) (a : Flat) (inst : Inst) (taken : Bool) (target : ℕ) → At m.code place inst → jumps_by_x5 inst ≡ false →
      ((s : State) → Regs s a.regs → s.pc ≡ place → effect_of inst s ≡ Branch taken target) → target % 4 ≡ 0 →
      Reaches place a 1 (if taken then target else place + 4) a
  unfolding executed
  branches place a inst taken target at plain effect even = record { by = λ c is. by_test c is taken refl }
    where
      by_test : (c : Config) → Is c place a → (t : Bool) → taken ≡ t → There c 1 (if t then target else place + 4) a
      by_test c is true e =
          let level : aligned target ≡ true = ap (λ (x : ℕ). x == 0) even in
          let s : State = record c.state { pc = target } in
          goes place target a a inst c s at plain is
          (ap (λ (f : Effect). applied f c.state) (effect c.state is.regs is.pc)
          ∙ ap (λ (b : Bool). branched c.state b target) e
          ∙ ap (λ (b : Bool). if b then (Next, s) else (Trap, c.state)) level)
          (record {
            pc = refl;
            regs = record { count = is.regs.count; each = is.regs.each };
            shows = is.shows;
            shapes = is.shapes;
            text = is.text;
            log = is.log;
            input = is.input;
            taken = is.taken;
          })
      by_test c is false e =
          let s : State = record c.state { pc = next_pc c.state } in
          goes place (place + 4) a a inst c s at plain is
          (ap (λ (f : Effect). applied f c.state) (effect c.state is.regs is.pc) ∙ ap (λ (b : Bool). branched c.state b target) e)
          (record {
            pc = next_is c place a inst at is;
            regs = record { count = is.regs.count; each = is.regs.each };
            shows = is.shows;
            shapes = is.shapes;
            text = is.text;
            log = is.log;
            input = is.input;
            taken = is.taken;
          })

  -- a jump that keeps where it came from
  pub links : (place : ℕ) (a : Flat) (inst : Inst) (rd target : ℕ) → At m.code place inst → jumps_by_x5 inst ≡ false → rd < 32 →
      ((s : State) → Regs s a.regs → effect_of inst s ≡ Link rd target) → target % 4 ≡ 0 →
      Reaches place a 1 target (record a { regs = set a.regs rd (place + 4) })
  unfolding executed
  links place a inst rd target at plain small effect even = record {
    by = λ c is.
        let level : aligned target ≡ true = ap (λ (x : ℕ). x == 0) even in
        let s : State = record c.state { registers = with_register c.state.registers rd (place + 4); pc = target } in
        let from : next_pc c.state ≡ place + 4 = next_is c place a inst at is in
        goes place target a (record a { regs = set a.regs rd (place + 4) }) inst c s at plain is
        (ap (λ (f : Effect). applied f c.state) (effect c.state is.regs)
        ∙ ap (λ (n : ℕ). if aligned target then (let t : Step = (Next, record c.state { registers = with_register c.state.registers rd n; pc = target }) in t) else (Trap, c.state)) from
        ∙ ap (λ (b : Bool). if b then (Next, s) else (Trap, c.state)) level)
        (record {
          pc = refl;
          regs = (let r = regs_put c.state a.regs rd (place + 4) small is.regs in record { count = r.count; each = r.each });
          shows = is.shows;
          shapes = is.shapes;
          text = is.text;
          log = is.log;
          input = is.input;
          taken = is.taken;
        });
  }

  -- an instruction that ends the run
  pub record Ends (place : ℕ) (a : Flat) (end : End) : Type 0 where
    pub by : (c : Config) → Is c place a → act m.sites m.calls c ≡ over end c

  -- ---- calls of the system

  pub exits : (place : ℕ) (a : Flat) → At m.code place Ecall → reg a.regs 17 ≡ 93 → Ends place a (exited (reg a.regs 10 % 2 ^ 8))
  exits place a at number = record {
    by = λ c is.
        let r17 : register c.state 17 ≡ 93 = is.regs.each 17 (lit< tt) ∙ number in
        act_system m.sites m.calls c (fetches c place a Ecall at is) ∙ system_exits c r17 (reg a.regs 10) (is.regs.each 10 (lit< tt));
  }

  -- the call that writes bytes to a descriptor
  pub writes : (place : ℕ) (a : Flat) (d : Descriptor) (address size : ℕ) → At m.code place Ecall →
      reg a.regs 17 ≡ 64 → reg a.regs 10 ≡ descriptor_number d → reg a.regs 11 ≡ address → reg a.regs 12 ≡ size →
      (0 < size → has Read address size (layout (4 * length m.code) m.store_size) ≡ true) →
      Reaches place a 1 (place + 4) (record a { regs = set a.regs 10 size; log = a.log ++ map (entry_to d) (run a.mem address size) })
  writes place a d address size at number descriptor from count within = record {
    by = λ c is.
        let bytes = run a.mem address size in
        let r17 : register c.state 17 ≡ 64 = is.regs.each 17 (lit< tt) ∙ number in
        let r10 : register c.state 10 ≡ descriptor_number d = is.regs.each 10 (lit< tt) ∙ descriptor in
        let r11 : register c.state 11 ≡ address = is.regs.each 11 (lit< tt) ∙ from in
        let r12 : register c.state 12 ≡ size = is.regs.each 12 (lit< tt) ∙ count in
        let given_bytes : written_bytes c.state ≡ Some bytes =
        written_at c.state address size a.mem r11 r12 (λ some. loaded_shown c.state.areas a.mem Read address size is.shows (ap (has Read address size) is.shapes ∙ within some)) in
        let next : Config = record c { state = answer c.state (length bytes); log = c.log ++ map (entry_to d) bytes } in
        let does : act m.sites m.calls c ≡ on next =
        act_system m.sites m.calls c (fetches c place a Ecall at is) ∙ system_writes c d bytes r17 r10 given_bytes in
        let size_is : length bytes ≡ size = length_run a.mem address size in
        let regs : Regs next.state (set a.regs 10 size) =
        (let r = regs_put c.state a.regs 10 size (lit< tt) is.regs in
        let P : ℕ → Type 0 = λ n. Regs (answer c.state n) (set a.regs 10 size) in
        subst P (sym size_is) (record { count = r.count; each = r.each })) in
        record {
          last = next;
          leads = one_leads m.sites m.calls c next does;
          is = record {
            pc = next_is c place a Ecall at is;
            regs = regs;
            shows = is.shows;
            shapes = is.shapes;
            text = is.text;
            log = ap (λ (l : Log ℕ ℕ). l ++ map (entry_to d) bytes) is.log;
            input = is.input;
            taken = is.taken;
          };
        };
  }

  -- the call that reads input into memory
  pub reads : (place : ℕ) (a : Flat) (address size : ℕ) → At m.code place Ecall →
      reg a.regs 17 ≡ 63 → reg a.regs 10 ≡ 0 → reg a.regs 11 ≡ address → reg a.regs 12 ≡ size →
      (0 < size → has Write address size (layout (4 * length m.code) m.store_size) ≡ true) →
      Reaches place a 1 (place + 4) (record a { regs = set a.regs 10 (length (take size a.input)); mem = written a.mem address (take size a.input); input = drop (length (take size a.input)) a.input; taken = a.taken + length (take size a.input) })
  reads place a address size at number descriptor from count within = record {
    by = λ c is.
        let bytes = take size a.input in
        let r17 : register c.state 17 ≡ 63 = is.regs.each 17 (lit< tt) ∙ number in
        let r10 : register c.state 10 ≡ 0 = is.regs.each 10 (lit< tt) ∙ descriptor in
        let r11 : register c.state 11 ≡ address = is.regs.each 11 (lit< tt) ∙ from in
        let r12 : register c.state 12 ≡ size = is.regs.each 12 (lit< tt) ∙ count in
        let apart : AreApart (map shape c.state.areas) = subst AreApart (sym is.shapes) (layout_apart (4 * length m.code) m.store_size m.short m.low) in
        let held : 0 < size → has Write address size (map shape c.state.areas) ≡ true = λ some. ap (has Write address size) is.shapes ∙ within some in
        let all : Input c.state address size a.mem bytes =
        read_into c.state address size a.mem bytes r11 r12 (λ some. filled_shown c.state.areas a.mem address size bytes (length_take size a.input) is.shows apart (held some)) is.shows (length_take size a.input) in
        let next : Config = record c { state = answer (record c.state { areas = all.after }) (length bytes); input = drop (length bytes) c.input; taken = c.taken + length bytes } in
        let given_is : take (register c.state 12) c.input ≡ bytes = ap (λ (k : ℕ). take k c.input) r12 ∙ ap (take size) is.input in
        let does : act m.sites m.calls c ≡ on next =
        act_system m.sites m.calls c (fetches c place a Ecall at is) ∙ system_reads c bytes all.after r17 r10 given_is all.is in
        record {
          last = next;
          leads = one_leads m.sites m.calls c next does;
          is = record {
            pc = next_is c place a Ecall at is;
            regs = (let r = regs_put c.state a.regs 10 (length bytes) (lit< tt) is.regs in record { count = r.count; each = r.each });
            shows = all.shows;
            shapes = all.shapes ∙ is.shapes;
            text = text_stays c place a address size bytes (length_take size a.input) is held apart;
            log = is.log;
            input = ap (drop (length bytes)) is.input;
            taken = ap (λ (k : ℕ). k + length bytes) is.taken;
          };
        };
  }
    where
      text_stays : (c : Config) (place : ℕ) (a : Flat) (address size : ℕ) (bytes : List ℕ) → length bytes ≤ size → Is c place a → (0 < size → has Write address size (map shape c.state.areas) ≡ true) →
          AreApart (map shape c.state.areas) → StandFrom (written a.mem address bytes) text_start m.code
      text_stays c place a address zero bytes few is held apart =
          let P : List ℕ → Type 0 = λ bs. StandFrom (written a.mem address bs) text_start m.code in subst P (sym (no_bytes bytes few)) is.text
      text_stays c place a address (suc size) bytes few is held apart =
          let away : (address + suc size ≤ text_start) ⊎ (text_start + 4 * length m.code ≤ address) = text_away c.state.areas m address (suc size) apart is.shapes (held (omega arith)) in
          let short : (address + length bytes ≤ text_start) ⊎ (text_start + 4 * length m.code ≤ address) = elim away [ inl l ↦ inl (omega arith) | inr l ↦ inr (omega arith) ] in
          stand_kept a.mem text_start m.code address bytes short is.text

  -- ---- checks

  pub breaks : (place : ℕ) (a : Flat) (number : ℕ) (which : Check) (source : Place) → At m.code place Ebreak →
      reg a.regs 10 ≡ number_of which → reg a.regs 11 ≡ number → slice_get m.sites number ≡ Some (which, source) → Ends place a (checked which source)
  breaks place a number which source at code_is number_is site = record {
    by = λ c is.
        let r10 : register c.state 10 ≡ number_of which = is.regs.each 10 (lit< tt) ∙ code_is in
        let r11 : register c.state 11 ≡ number = is.regs.each 11 (lit< tt) ∙ number_is in
        act_break m.sites m.calls c (fetches c place a Ebreak at is) ∙ ap (λ (k : ℕ). stopped_at c (slice_get m.sites k)) r11 ∙ ap (stopped_at c) site ∙ stops c which source r10;
  }

  -- ---- a listed call of an allocator by register 5

  pub calls_allocator : (place : ℕ) (a : Flat) (target : ℕ) → At m.code place (Jalr 1 5 (pos 0)) → listed m.calls place ≡ true →
      address_from (reg a.regs 5) (pos 0) / 2 * 2 ≡ target → target % 4 ≡ 0 →
      Reaches place a 1 target (record a { regs = set a.regs 1 (place + 4); log = a.log ++ call (flat_call a.regs) ∷ [] })
  unfolding executed
  calls_allocator place a target at listed_is to even = record {
    by = λ c is.
        let level : aligned target ≡ true = ap (λ (x : ℕ). x == 0) even in
        let s : State = record c.state { registers = with_register c.state.registers 1 (place + 4); pc = target } in
        let from : next_pc c.state ≡ place + 4 = next_is c place a (Jalr 1 5 (pos 0)) at is in
        let effect : effect_of (Jalr 1 5 (pos 0)) c.state ≡ Link 1 target = ap (λ (x : ℕ). Link 1 (address_from x (pos 0) / 2 * 2)) (is.regs.each 5 (lit< tt)) ∙ ap (Link 1) to in
        let runs : executed (Jalr 1 5 (pos 0)) c.state ≡ (Next, s) =
        ap (λ (f : Effect). applied f c.state) effect
        ∙ ap (λ (n : ℕ). if aligned target then (let t : Step = (Next, record c.state { registers = with_register c.state.registers 1 n; pc = target }) in t) else (Trap, c.state)) from
        ∙ ap (λ (b : Bool). if b then (Next, s) else (Trap, c.state)) level in
        let next : Config = record c { state = s; log = c.log ++ call (call_made c.state) ∷ [] } in
        let told : listed m.calls c.state.pc ≡ true = ap (listed m.calls) is.pc ∙ listed_is in
        record {
          last = next;
          leads = one_leads m.sites m.calls c next (act_call m.sites m.calls c (Jalr 1 5 (pos 0)) (fetches c place a (Jalr 1 5 (pos 0)) at is) s told runs);
          is = record {
            pc = refl;
            regs = (let r = regs_put c.state a.regs 1 (place + 4) (lit< tt) is.regs in record { count = r.count; each = r.each });
            shows = is.shows;
            shapes = is.shapes;
            text = is.text;
            log = ap (λ (l : Log ℕ ℕ). l ++ call (call_made c.state) ∷ []) is.log ∙ ap (λ (x : Call ℕ ℕ). a.log ++ call x ∷ []) (made_is c.state a.regs is.regs);
            input = is.input;
            taken = is.taken;
          };
        };
  }
