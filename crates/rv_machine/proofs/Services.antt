-- The services of the system, whatever the log so far and whatever input follows.
use Rattle.std.proofs.Common.{◌≡◌, ℕ, ◌+◌, ◌-◌, ◌%◌, ◌^◌, ◌<◌, ◌≤◌, Bool, true, false, cond, ◌⊎◌, inl, inr, List, [], ◌∷◌, ◌++◌, length, take, drop, map, min, eqb, ltb, Some, None, Option, Ok, Err, Result, arith, ap, ◌∙◌, sym, subst, refl}
use Rattle.std.proofs.lemmas.Bool.Decides.{nat_tests}
use Rattle.std.proofs.lemmas.Grind.{common_steps}
use Rattle.std.proofs.lemmas.List.{length-append, length-take, append-nil}
use Rattle.std.proofs.Math.Seq.{take-append_seam, drop-append_seam}
use Rattle.odc_io.specs.Streams.{grown, GrewByFront}
use Rattle.odc_io.specs.declared.traits.Failed.{Failed}
use Rattle.odc_text.specs.Run.{Entry, trapped, exited, Log, out, err}
use Rattle.odc_text.specs.Steps.{After, on, over}
use Rattle.rv_table.specs.State.{Area, State, register, filled, loaded}
use Rattle.rv_table.specs.Run.{Config, answer, took, reading, refused, read_called, written_bytes, wrote, write_called, system_called}
use Rattle.rv_table.specs.declared.effect.Access.TheVariants.{Read}
use Rattle.rv_machine.specs.Outside.{Told, told, Took, out_bytes, err_bytes}
use Rattle.rv_machine.specs.Runs.{at}
use Rattle.rv_machine.specs.Turns.{FetchedAll, FetchedPart, Wrote, after_write, Went, Broke, Turned}
use Rattle.rv_machine.specs.declared.stop.Stop.{Stop}
use Rattle.rv_machine.specs.declared.stop.Stop.TheVariants.{Exited, Checked, Trapped, StepsOut, ReadFault, WriteFault}
use Rattle.rv_machine.proofs.Pieces.{took_none}

pub grown_none : (o : Option (List ℕ)) → o ≡ grown o []
grown_none None = refl
grown_none (Some w) = ap (λ (x : List ℕ). Some x) (sym (append-nil w))

at_same : (s : State) (log : Log ℕ ℕ) (input : List ℕ) (taken : ℕ) → on (at s log input taken) ≡ on (at s (log ++ []) input (taken + 0))
at_same s log input taken =
    let more : taken ≡ taken + 0 = omega arith in
    ap (λ (l : Log ℕ ℕ). on (at s l input taken)) (sym (append-nil log)) ∙ ap (λ (n : ℕ). on (at s (log ++ []) input n)) more

-- an instruction that takes and gives nothing
pub went_quietly : (f : Config → After Config) (old new : State) (ended : Bool) (t : Told) →
    ((log : Log ℕ ℕ) (rest : List ℕ) (taken : ℕ) → f (at old log rest taken) ≡ on (at new log rest taken)) → Went f old new ended ended t t
went_quietly f old new ended t step = record {
  got = [];
  gave = [];
  is = λ log rest taken allowed. step log rest taken ∙ at_same new log rest taken;
  took = took_none t.input;
  stays = λ h. (refl, h);
  out = grown_none t.out;
  err = grown_none t.err;
}

broke_as : (f g : Config → After Config) (old : State) (ended ended' : Bool) (t t' : Told) →
    ((log : Log ℕ ℕ) (rest : List ℕ) (taken : ℕ) → g (at old log rest taken) ≡ f (at old log rest taken)) → Broke f old ended ended' t t' → Broke g old ended ended' t t'
broke_as f g old ended ended' t t' same h = record {
  got = h.got;
  gave = h.gave;
  is = λ log rest taken. (let s = h.is log rest taken in record { next = s.next; is = same log (h.got ++ rest) taken ∙ s.is; left = s.left; took = s.took });
  took = h.took;
  stays = h.stays;
  out = h.out;
  err = h.err;
}

-- what is said of one description of the instruction holds of another that agrees with it
pub turned_as : (f g : Config → After Config) (r : Option Stop) (old new : State) (ended ended' : Bool) (t t' : Told) →
    ((log : Log ℕ ℕ) (rest : List ℕ) (taken : ℕ) → g (at old log rest taken) ≡ f (at old log rest taken)) → Turned f r old new ended ended' t t' → Turned g r old new ended ended' t t'
turned_as f g None old new ended ended' t t' same h = record {
  got = h.got;
  gave = h.gave;
  is = λ log rest taken allowed. same log (h.got ++ rest) taken ∙ h.is log rest taken allowed;
  took = h.took;
  stays = h.stays;
  out = h.out;
  err = h.err;
}
turned_as f g (Some (Exited code)) old new ended ended' t t' same h = record { is = λ log rest taken. same log rest taken ∙ h.is log rest taken; state = h.state; told = h.told }
turned_as f g (Some (Checked check place)) old new ended ended' t t' same h = record { is = λ log rest taken. same log rest taken ∙ h.is log rest taken; state = h.state; told = h.told }
turned_as f g (Some (Trapped pc)) old new ended ended' t t' same h = record { is = λ log rest taken. same log rest taken ∙ h.is log rest taken; state = h.state; told = h.told }
turned_as f g (Some StepsOut) old new ended ended' t t' same h = h
turned_as f g (Some ReadFault) old new ended ended' t t' same h = broke_as f g old ended ended' t t' same h
turned_as f g (Some WriteFault) old new ended ended' t t' same h = broke_as f g old ended ended' t t' same h

-- ---- reading

split : (a b : ℕ) → a ≤ b → (a < b) ⊎ (a ≡ b)
split a b h = by_test (ltb a b) refl
  where
    by_test : (z : Bool) → ltb a b ≡ z → (a < b) ⊎ (a ≡ b)
    by_test true e = inl (grind (arith, nat_tests))
    by_test false e = inr (grind (arith, nat_tests))

take_whole : (xs : List ℕ) (n : ℕ) → length xs ≤ n → take n xs ≡ xs
take_whole xs n h = grind (arith, common_steps)

first_bytes : (got rest : List ℕ) (size : ℕ) → length got ≤ size → (length got < size → rest ≡ []) → take size (got ++ rest) ≡ got
first_bytes got rest size fits all =
    elim (split (length got) size fits) [
      | inl less ↦ ap (λ (xs : List ℕ). take size (got ++ xs)) (all less) ∙ ap (take size) (append-nil got) ∙ take_whole got size fits
      | inr same ↦ ap (λ (k : ℕ). take k (got ++ rest)) (sym same) ∙ take-append_seam got rest
    ]

-- the definition's read with the number of bytes and the test of it apart
reading_by : Config → ℕ → Bool → After Config
reading_by c size empty = let bytes = take size c.input in took c (length bytes) (cond empty (Some c.state.areas) (filled c.state.areas (register c.state 11) size bytes))

reading_is : (c : Config) → reading c ≡ reading_by c (register c.state 12) (eqb (register c.state 12) 0)
unfolding reading_by
reading_is c = refl

pub read_nothing : (old new : State) (size : ℕ) (ended : Bool) (t : Told) → size ≡ register old 12 → size ≡ 0 → new ≡ answer old 0 → Went reading old new ended ended t t
unfolding reading_by
read_nothing old new size ended t is none now = went_quietly reading old new ended t (λ log rest taken.
    let c = at old log rest taken in
    let zero : register old 12 ≡ 0 = sym is ∙ none in
    let left : drop 0 rest ≡ rest = grind (arith, common_steps) in
    let more : taken + 0 ≡ taken = omega arith in
    reading_is c ∙ ap (λ (k : ℕ). reading_by c k (eqb k 0)) zero
    ∙ ap (λ (xs : List ℕ). on (at (answer old 0) log xs (taken + 0))) left
    ∙ ap (λ (n : ℕ). on (at (answer old 0) log rest n)) more
    ∙ ap (λ (s : State). on (at s log rest taken)) (sym now))

module _ (s : State) (source source' : Option (List ℕ)) (ended ended' : Bool) (some : eqb (register s 12) 0 ≡ false) where
  fetched_went : (after : List Area) (n : ℕ) → FetchedAll (register s 11) (register s 12) s.areas after source source' ended ended' n → (o e : Option (List ℕ)) →
      Went reading s (answer (record s { areas = after }) n) ended ended' (told source o e) (told source' o e)
  unfolding reading_by
  fetched_went after n h o e = record {
    got = h.got;
    gave = [];
    is = λ log rest taken allowed.
        let c = at s log (h.got ++ rest) taken in
        let bytes : take (register s 12) (h.got ++ rest) ≡ h.got = first_bytes h.got rest (register s 12) h.fits (λ less. allowed (h.all less)) in
        let size = register s 12 in
        let memory : filled s.areas (register s 11) size h.got ≡ Some after = h.memory in
        let new = answer (record s { areas = after }) in
        reading_is c
        ∙ ap (λ (b : Bool). reading_by c size b) some
        ∙ ap (λ (bs : List ℕ). took c (length bs) (filled s.areas (register s 11) size bs)) bytes
        ∙ ap (λ (m : Option (List Area)). took c (length h.got) m) memory
        ∙ ap (λ (xs : List ℕ). on (at (new (length h.got)) log xs (taken + length h.got))) (drop-append_seam h.got rest)
        ∙ ap (λ (k : ℕ). on (at (new k) log rest (taken + length h.got))) (sym h.count)
        ∙ ap (λ (l : Log ℕ ℕ). on (at (new n) l rest (taken + length h.got))) (sym (append-nil log));
    took = h.took;
    stays = h.stays;
    out = grown_none o;
    err = grown_none e;
  }

  fetched_broke : FetchedPart (register s 11) (register s 12) s.areas source source' ended ended' → (o e : Option (List ℕ)) →
      Broke reading s ended ended' (told source o e) (told source' o e)
  unfolding reading_by
  fetched_broke h o e = record {
    got = h.got;
    gave = [];
    is = λ log rest taken.
        let c = at s log (h.got ++ rest) taken in
        let size = register s 12 in
        let bytes = take size (h.got ++ rest) in
        let found = h.memory bytes in
        let memory : filled s.areas (register s 11) size bytes ≡ Some found.0 = found.1 in
        let all : length (h.got ++ rest) ≡ length h.got + length rest = length-append h.got rest in
        let many : length bytes ≡ min size (length (h.got ++ rest)) = length-take size (h.got ++ rest) in
        let fits : length h.got ≤ size = h.fits in
        record {
          next = record c { state = answer (record s { areas = found.0 }) (length bytes); input = drop (length bytes) (h.got ++ rest); taken = taken + length bytes };
          is = reading_is c ∙ ap (λ (b : Bool). reading_by c size b) some ∙ ap (λ (m : Option (List Area)). took c (length bytes) m) memory;
          left = sym (append-nil log);
          took = omega arith;
        };
    took = h.took;
    stays = h.stays;
    out = (0, omega arith, grown_none o);
    err = (0, omega arith, grown_none e);
  }

-- the same, where memory is read from the fields that the state is the view of
pub all_fetched : (old inner new : State) → inner ≡ old → (address size : ℕ) → address ≡ register old 11 → size ≡ register old 12 → eqb size 0 ≡ false →
    (after : List Area) (source source' : Option (List ℕ)) (ended ended' : Bool) (n : ℕ) → FetchedAll address size inner.areas after source source' ended ended' n → new ≡ answer (record inner { areas = after }) n →
    (o e : Option (List ℕ)) → Went reading old new ended ended' (told source o e) (told source' o e)
all_fetched old inner new v address size a b some after source source' ended ended' n h now o e =
    let P : State → Type 0 = λ s. address ≡ register s 11 → size ≡ register s 12 → Went reading s (answer (record inner { areas = after }) n) ended ended' (told source o e) (told source' o e) in
    let F : ℕ → ℕ → Type 0 = λ x y. FetchedAll x y inner.areas after source source' ended ended' n in
    let at_inner : P inner = λ a' b'.
    fetched_went inner source source' ended ended' (ap (λ (k : ℕ). eqb k 0) (sym b') ∙ some) after n (subst (λ (y : ℕ). F (register inner 11) y) b' (subst (λ (x : ℕ). F x size) a' h)) o e in
    let Q : State → Type 0 = λ s. Went reading old s ended ended' (told source o e) (told source' o e) in
    subst Q (sym now) (subst P v at_inner a b)

pub part_fetched : (old inner : State) → inner ≡ old → (address size : ℕ) → address ≡ register old 11 → size ≡ register old 12 → eqb size 0 ≡ false →
    (source source' : Option (List ℕ)) (ended ended' : Bool) → FetchedPart address size inner.areas source source' ended ended' →
    (o e : Option (List ℕ)) → Broke reading old ended ended' (told source o e) (told source' o e)
part_fetched old inner v address size a b some source source' ended ended' h o e =
    let P : State → Type 0 = λ s. address ≡ register s 11 → size ≡ register s 12 → Broke reading s ended ended' (told source o e) (told source' o e) in
    let F : ℕ → ℕ → Type 0 = λ x y. FetchedPart x y inner.areas source source' ended ended' in
    let at_inner : P inner = λ a' b'.
    fetched_broke inner source source' ended ended' (ap (λ (k : ℕ). eqb k 0) (sym b') ∙ some) (subst (λ (y : ℕ). F (register inner 11) y) b' (subst (λ (x : ℕ). F x size) a' h)) o e in
    subst P v at_inner a b

-- ---- writing

bytes_out : (bytes : List ℕ) → out_bytes (map (λ (b : ℕ). out b) bytes) ≡ bytes
bytes_out [] = refl
bytes_out (b ∷ bytes) = ap (λ (bs : List ℕ). b ∷ bs) (bytes_out bytes)

bytes_out_err : (bytes : List ℕ) → err_bytes (map (λ (b : ℕ). out b) bytes) ≡ []
bytes_out_err [] = refl
bytes_out_err (b ∷ bytes) = bytes_out_err bytes

bytes_err : (bytes : List ℕ) → err_bytes (map (λ (b : ℕ). err b) bytes) ≡ bytes
bytes_err [] = refl
bytes_err (b ∷ bytes) = ap (λ (bs : List ℕ). b ∷ bs) (bytes_err bytes)

bytes_err_out : (bytes : List ℕ) → out_bytes (map (λ (b : ℕ). err b) bytes) ≡ []
bytes_err_out [] = refl
bytes_err_out (b ∷ bytes) = bytes_err_out bytes

-- `f` writes by these entries
abbrev Writes : (Config → After Config) → State → (ℕ → Entry ℕ ℕ) → Type 0
Writes f old entry = (log : Log ℕ ℕ) (rest : List ℕ) (taken : ℕ) → f (at old log rest taken) ≡ wrote (at old log rest taken) entry (written_bytes old)

module _ (f : Config → After Config) (old : State) (entry : ℕ → Entry ℕ ℕ) (step : Writes f old entry) (bytes : List ℕ) (are : written_bytes old ≡ Some bytes) where
  goes_on : (log : Log ℕ ℕ) (rest : List ℕ) (taken : ℕ) → f (at old log rest taken) ≡ on (at (answer old (length bytes)) (log ++ map entry bytes) rest taken)
  goes_on log rest taken = step log rest taken ∙ ap (wrote (at old log rest taken) entry) are

  wrote_went : (new : State) (ended : Bool) (t t' : Told) → new ≡ answer old (length bytes) → t'.input ≡ t.input → t'.out ≡ grown t.out (out_bytes (map entry bytes)) → t'.err ≡ grown t.err (err_bytes (map entry bytes)) →
      Went f old new ended ended t t'
  wrote_went new ended t t' now kept o e = record {
    got = [];
    gave = map entry bytes;
    is = λ log rest taken allowed.
        let more : taken ≡ taken + 0 = omega arith in
        goes_on log rest taken ∙ ap (λ (s : State). on (at s (log ++ map entry bytes) rest taken)) (sym now) ∙ ap (λ (n : ℕ). on (at new (log ++ map entry bytes) rest n)) more;
    took = subst (λ (i : Option (List ℕ)). Took t.input i []) (sym kept) (took_none t.input);
    stays = λ h. (refl, h);
    out = o;
    err = e;
  }

  wrote_broke : (ended : Bool) (t t' : Told) → t'.input ≡ t.input → GrewByFront t.out t'.out (out_bytes (map entry bytes)) → GrewByFront t.err t'.err (err_bytes (map entry bytes)) →
      Broke f old ended ended t t'
  wrote_broke ended t t' kept o e = record {
    got = [];
    gave = map entry bytes;
    is = λ log rest taken. record { next = at (answer old (length bytes)) (log ++ map entry bytes) rest taken; is = goes_on log rest taken; left = refl; took = omega arith };
    took = subst (λ (i : Option (List ℕ)). Took t.input i []) (sym kept) (took_none t.input);
    stays = λ h. (refl, h);
    out = o;
    err = e;
  }

grew_none : (o : Option (List ℕ)) (bytes : List ℕ) → GrewByFront o o bytes
grew_none o bytes = (0, omega arith, grown_none o)

pub wrote_out : (f : Config → After Config) (old new : State) (ended : Bool) (s o o' e : Option (List ℕ)) (done : Result Bool Failed) → Writes f old (λ b. out b) → Wrote old new o o' done →
    Turned f (after_write new.pc done) old new ended ended (told s o e) (told s o' e)
wrote_out f old new ended s o o' e (Ok true) step h =
    wrote_went f old (λ b. out b) step h.bytes h.are new ended (told s o e) (told s o' e) h.state refl (h.grew ∙ ap (grown o) (sym (bytes_out h.bytes))) (grown_none e ∙ ap (grown e) (sym (bytes_out_err h.bytes)))
wrote_out f old new ended s o o' e (Ok false) step h = record {
  is = λ log rest taken. step log rest taken ∙ ap (wrote (at old log rest taken) (λ b. out b)) h.are ∙ ap (λ (x : State). over (trapped x.pc) (at old log rest taken)) (sym h.state);
  state = h.state;
  told = ap (λ (x : Option (List ℕ)). told s x e) h.same;
}
wrote_out f old new ended s o o' e (Err x) step h =
    wrote_broke f old (λ b. out b) step h.bytes h.are ended (told s o e) (told s o' e) refl (subst (GrewByFront o o') (sym (bytes_out h.bytes)) h.grew) (grew_none e (err_bytes (map (λ (b : ℕ). out b) h.bytes)))

pub wrote_err : (f : Config → After Config) (old new : State) (ended : Bool) (s o e e' : Option (List ℕ)) (done : Result Bool Failed) → Writes f old (λ b. err b) → Wrote old new e e' done →
    Turned f (after_write new.pc done) old new ended ended (told s o e) (told s o e')
wrote_err f old new ended s o e e' (Ok true) step h =
    wrote_went f old (λ b. err b) step h.bytes h.are new ended (told s o e) (told s o e') h.state refl (grown_none o ∙ ap (grown o) (sym (bytes_err_out h.bytes))) (h.grew ∙ ap (grown e) (sym (bytes_err h.bytes)))
wrote_err f old new ended s o e e' (Ok false) step h = record {
  is = λ log rest taken. step log rest taken ∙ ap (wrote (at old log rest taken) (λ b. err b)) h.are ∙ ap (λ (x : State). over (trapped x.pc) (at old log rest taken)) (sym h.state);
  state = h.state;
  told = ap (λ (x : Option (List ℕ)). told s o x) h.same;
}
wrote_err f old new ended s o e e' (Err x) step h =
    wrote_broke f old (λ b. err b) step h.bytes h.are ended (told s o e) (told s o e') refl (grew_none o (out_bytes (map (λ (b : ℕ). err b) h.bytes))) (subst (GrewByFront e e') (sym (bytes_err h.bytes)) h.grew)

-- ---- the choice of the service

pub reads_0 : (s : State) → register s 10 ≡ 0 → (log : Log ℕ ℕ) (rest : List ℕ) (taken : ℕ) → read_called (at s log rest taken) ≡ reading (at s log rest taken)
reads_0 s h log rest taken = ap (λ (k : ℕ). cond (eqb k 0) (reading (at s log rest taken)) (refused (at s log rest taken))) h

pub reads_other : (s : State) → eqb (register s 10) 0 ≡ false → (log : Log ℕ ℕ) (rest : List ℕ) (taken : ℕ) → read_called (at s log rest taken) ≡ refused (at s log rest taken)
reads_other s h log rest taken = ap (λ (b : Bool). cond b (reading (at s log rest taken)) (refused (at s log rest taken))) h

pub writes_1 : (s : State) → register s 10 ≡ 1 → Writes write_called s (λ b. out b)
writes_1 s h log rest taken =
    let c = at s log rest taken in
    ap (λ (k : ℕ). cond (eqb k 1) (wrote c (λ b. out b) (written_bytes s)) (cond (eqb k 2) (wrote c (λ b. err b) (written_bytes s)) (refused c))) h

pub writes_2 : (s : State) → register s 10 ≡ 2 → Writes write_called s (λ b. err b)
writes_2 s h log rest taken =
    let c = at s log rest taken in
    ap (λ (k : ℕ). cond (eqb k 1) (wrote c (λ b. out b) (written_bytes s)) (cond (eqb k 2) (wrote c (λ b. err b) (written_bytes s)) (refused c))) h

pub writes_other : (s : State) → eqb (register s 10) 1 ≡ false → eqb (register s 10) 2 ≡ false → (log : Log ℕ ℕ) (rest : List ℕ) (taken : ℕ) → write_called (at s log rest taken) ≡ refused (at s log rest taken)
writes_other s h k log rest taken =
    let c = at s log rest taken in
    ap (λ (b : Bool). cond b (wrote c (λ b. out b) (written_bytes s)) (cond (eqb (register s 10) 2) (wrote c (λ b. err b) (written_bytes s)) (refused c))) h
    ∙ ap (λ (b : Bool). cond b (wrote c (λ b. err b) (written_bytes s)) (refused c)) k

pub refused_went : (f : Config → After Config) (old new : State) (ended : Bool) (t : Told) → ((log : Log ℕ ℕ) (rest : List ℕ) (taken : ℕ) → f (at old log rest taken) ≡ refused (at old log rest taken)) →
    new ≡ answer old (2 ^ 64 - 9) → Went f old new ended ended t t
refused_went f old new ended t step now = went_quietly f old new ended t (λ log rest taken. step log rest taken ∙ ap (λ (s : State). on (at s log rest taken)) (sym now))

pub calls_read : (s : State) → register s 17 ≡ 63 → (log : Log ℕ ℕ) (rest : List ℕ) (taken : ℕ) → system_called (at s log rest taken) ≡ read_called (at s log rest taken)
calls_read s h log rest taken =
    let c = at s log rest taken in
    let rest_of : ℕ → After Config = λ k. cond (eqb k 64) (write_called c) (cond (eqb k 93) (over (exited (register s 10 % 2 ^ 8)) c) (over (trapped s.pc) c)) in
    ap (λ (k : ℕ). cond (eqb k 63) (read_called c) (rest_of k)) h

pub calls_write : (s : State) → register s 17 ≡ 64 → (log : Log ℕ ℕ) (rest : List ℕ) (taken : ℕ) → system_called (at s log rest taken) ≡ write_called (at s log rest taken)
calls_write s h log rest taken =
    let c = at s log rest taken in
    let rest_of : ℕ → After Config = λ k. cond (eqb k 64) (write_called c) (cond (eqb k 93) (over (exited (register s 10 % 2 ^ 8)) c) (over (trapped s.pc) c)) in
    ap (λ (k : ℕ). cond (eqb k 63) (read_called c) (rest_of k)) h

-- the bytes of a buffer that a range holds
pub bytes_at : (old inner : State) → inner ≡ old → (address size : ℕ) (bytes : List ℕ) → address ≡ register old 11 → size ≡ register old 12 → eqb size 0 ≡ false → loaded inner.areas Read address size ≡ Some bytes →
    written_bytes old ≡ Some bytes
bytes_at old inner v address size bytes a b some e =
    let none : eqb (register old 12) 0 ≡ false = ap (λ (k : ℕ). eqb k 0) (sym b) ∙ some in
    let P : State → Type 0 = λ s. loaded s.areas Read address size ≡ Some bytes in
    let here : loaded old.areas Read address size ≡ Some bytes = subst P v e in
    ap (λ (z : Bool). cond z (Some []) (loaded old.areas Read (register old 11) (register old 12))) none
    ∙ ap (λ (k : ℕ). loaded old.areas Read k (register old 12)) (sym a) ∙ ap (λ (k : ℕ). loaded old.areas Read address k) (sym b) ∙ here
