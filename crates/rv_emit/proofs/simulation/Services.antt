-- Calls of the system.
use Rattle.std.proofs.Common.{◌≡◌, ℕ, zero, suc, ◌+◌, ◌*◌, ◌%◌, ◌^◌, ◌<◌, ◌≤◌, Bool, true, false, List, [], ◌∷◌, ◌++◌, length, map, take, drop, arith, ap, ◌∙◌, sym, subst, refl, lit<, lit≤}
use Rattle.std.specs.Prelude.{pos, ◌&&◌, Option, Some, None, slice_get, if◌then◌else◌}
use Rattle.odc_text.specs.Run.{exited}
use Rattle.odc_text.specs.Steps.{over}
use Rattle.rv_table.specs.Bytes.{run, written}
use Rattle.rv_table.specs.declared.inst.Inst.{Inst}
use Rattle.rv_table.specs.declared.inst.Inst.TheVariants.{Addi, Ecall}
use Rattle.odc_core.specs.Memory.{all_in, loaded, put}
use Rattle.odc_core.specs.Well.{AreBytes}
use Rattle.odc_mid.specs.declared.tree.MidStep.{MidStep}
use Rattle.odc_mid.specs.declared.tree.MidStep.TheVariants.{System}
use Rattle.odc_mid.specs.Tree.{Whole}
use Rattle.odc_mid.specs.Run.{Config, gives, go_on, strays}
use Rattle.rv_emit.specs.Code.{load_slot, store_slot}
use Rattle.rv_emit.proofs.Flat.{Setting, Flat, set, At, Stands, stands_parts, Reaches}
use Rattle.rv_emit.proofs.Steps.{putting, plus_small, adds}
use Rattle.rv_emit.proofs.Ranges.{Row, row_of, row_has_read, row_has_write, Loaded, loaded_parts, bytes_run}
use Rattle.rv_emit.proofs.simulation.Ties.{Built, place_of, known_in, Tied, tied_put}
use Rattle.rv_emit.proofs.simulation.Sims.{Sim, joined, strays_sim, Here, here_step, temp_sim, temp_small, give, pass, next_leads}
use Rattle.std.proofs.Math.Nat.{zero-add}
use Rattle.odc_core.specs.declared.tree.Descriptor.{Descriptor}
use Rattle.odc_core.specs.declared.tree.Descriptor.TheVariants.{Out, Err}
use Rattle.odc_core.specs.Run.{entry_to}
use Rattle.odc_mid.specs.declared.tree.SystemCall.{SystemCall}
use Rattle.odc_mid.specs.declared.tree.SystemCall.TheVariants.{Read, Write, Exit}
use Rattle.odc_mid.specs.Run.{asks, reads as reads_step, writes as writes_step}
use Rattle.rv_emit.specs.Code.{descriptor_number}
use Rattle.rv_emit.proofs.Flat.{reads, writes, exits}
use Rattle.rv_emit.proofs.simulation.Ties.{tied_log, tied_input}

and_first : (x y : Bool) → x && y ≡ true → x ≡ true
and_first true y h = refl
and_first false y h = cc

and_second : (x y : Bool) → x && y ≡ true → y ≡ true
and_second true y h = h
and_second false y h = cc

all_of_fewer : (touched : ℕ → Bool) (a n k : ℕ) → all_in touched a n ≡ true → k ≤ n → all_in touched a k ≡ true
all_of_fewer touched a n zero h l = refl
all_of_fewer touched a zero (suc k) h l = absurd (omega arith)
all_of_fewer touched a (suc n) (suc k) h l =
    let here : touched a ≡ true = and_first (touched a) (all_in touched (a + 1) n) h in
    let rest : all_in touched (a + 1) k ≡ true = all_of_fewer touched (a + 1) n k (and_second (touched a) (all_in touched (a + 1) n) h) (omega arith) in
    ap (λ (x : Bool). x && all_in touched (a + 1) k) here ∙ rest

fewer_taken : (n : ℕ) (xs : List ℕ) → length (take n xs) ≤ n
fewer_taken zero xs = omega arith
fewer_taken (suc n) [] = omega arith
fewer_taken (suc n) (x ∷ xs) = let rest : length (take n xs) ≤ n = fewer_taken n xs in omega arith

bytes_taken : (n : ℕ) (xs : List ℕ) → AreBytes xs → AreBytes (take n xs)
bytes_taken zero xs h = tt
bytes_taken (suc n) [] h = tt
bytes_taken (suc n) (x ∷ xs) h = (h.0, bytes_taken n xs h.1)

descriptor_small : (d : Descriptor) → descriptor_number d < 2 ^ 31
descriptor_small Out = lit< tt
descriptor_small Err = lit< tt

module _ (m : Setting) (w : Whole) (b : Built m w) where
  -- a row of bytes that may be touched
  row_read : (c : Config) (place : ℕ) (a : Flat) (t : Tied m w b c place a) (address n : ℕ) → all_in c.here.touched address n ≡ true → 0 < n → Row m.store_size address n
  row_read c place a t address n all some = row_of m.store_size c.here.touched address n m.low t.act.region all some

  -- two temporaries into registers 11 and 12
  both_sim : (c : Config) (place : ℕ) (a : Flat) (t : Tied m w b c place a) (q end u v : ℕ) → Stands m.code place (load_slot t.p.frame 11 u) q → Stands m.code q (load_slot t.p.frame 12 v) end →
      known_in m w b t.f t.p t.act.found c.here.next u ≡ true → known_in m w b t.f t.p t.act.found c.here.next v ≡ true →
      Reaches m place a 12 end (record a { regs = set (set a.regs 11 (c.here.temps u)) 12 (c.here.temps v) })
  both_sim c place a t q end u v first second known known' =
      joined m w b (temp_sim m w b c place a t place q a.regs 11 u first refl (lit< tt) (lit< tt) refl known)
      (temp_sim m w b c place a t q end (set a.regs 11 (c.here.temps u)) 12 v second refl (lit< tt) (lit< tt) refl known')

  constant : (q : ℕ) (a : Flat) (rd n : ℕ) → At m.code q (Addi rd 0 (pos n)) → rd < 32 → n < 2 ^ 31 → Reaches m q a 1 (q + 4) (putting a rd n)
  constant q a rd n at small fits = adds m q a rd 0 (pos n) n at small (lit< tt) (plus_small 0 n (omega arith) ∙ zero-add n)

  -- ---- exits

  exit_sim : (c : Config) (place : ℕ) (a : Flat) (t : Tied m w b c place a) (u : ℕ) → slice_get c.here.steps c.here.next ≡ Some (System (Exit u)) →
      Sim m w b 32 place a (over (exited (c.here.temps u % 2 ^ 8)) c)
  exit_sim c place a t u e =
      let s : MidStep = System (Exit u) in
      let x : Here m w b c place a t s = here_step m w b c place a t s e in
      let q = stands_parts m.code place (load_slot t.p.frame 10 u) (Addi 17 0 (pos 93) ∷ Ecall ∷ []) (place_of m w b t.f t.p (c.here.next + 1)) x.has.code in
      let b0 : Flat = putting a 10 (c.here.temps u) in
      let b1 : Flat = putting b0 17 93 in
      record {
        by = record {
          to = q.0 + 4;
          flat = b1;
          steps = 7;
          few = lit≤ tt;
          reaches =
              joined m w b (temp_sim m w b c place a t place q.0 a.regs 10 u q.1 refl (lit< tt) (lit< tt) refl x.well.ready.0) (constant q.0 b0 17 93 q.2.0 (lit< tt) (lit< tt));
          ends = exits m (q.0 + 4) b1 q.2.1.0 refl;
          log = t.log;
          taken = t.taken;
        };
      }

  -- ---- writes

  write_found : (c : Config) (place : ℕ) (a : Flat) (t : Tied m w b c place a) (d : Descriptor) (u v : ℕ) (bytes : List ℕ) → slice_get c.here.steps c.here.next ≡ Some (System (Write d u v)) →
      Loaded c.here.touched c.memory (c.here.temps u) (c.here.temps v) bytes → Sim m w b 32 place a (go_on (record c { log = c.log ++ map (entry_to d) bytes }))
  write_found c place a t d u v bytes e l =
      let s : MidStep = System (Write d u v) in
      let x : Here m w b c place a t s = here_step m w b c place a t s e in
      let end : ℕ = place_of m w b t.f t.p (c.here.next + 1) in
      let last : List Inst = Addi 10 0 (pos (descriptor_number d)) ∷ Addi 17 0 (pos 64) ∷ Ecall ∷ [] in
      let q = stands_parts m.code place (load_slot t.p.frame 11 u) (load_slot t.p.frame 12 v ++ last) end x.has.code in
      let r = stands_parts m.code q.0 (load_slot t.p.frame 12 v) last end q.2 in
      let address : ℕ = c.here.temps u in
      let n : ℕ = c.here.temps v in
      let b0 : Flat = record a { regs = set (set a.regs 11 address) 12 n } in
      let b1 : Flat = putting b0 10 (descriptor_number d) in
      let b2 : Flat = putting b1 17 64 in
      let shown : run a.mem address n ≡ bytes = bytes_run c.here.touched c.memory a.mem address n bytes t.shows l in
      let one : Reaches m (r.0 + 4 + 4) b2 1 (r.0 + 4 + 4 + 4) (record b2 { regs = set b2.regs 10 n; log = a.log ++ map (entry_to d) (run a.mem address n) }) =
      writes m (r.0 + 4 + 4) b2 d address n r.2.1.1.0 refl refl refl refl (λ some. row_has_read (4 * length m.code) m.store_size address n (row_read c place a t address n l.all some)) in
      let R : List ℕ → Type 0 = λ bs. Reaches m (r.0 + 4 + 4) b2 1 (r.0 + 4 + 4 + 4) (record b2 { regs = set b2.regs 10 n; log = a.log ++ map (entry_to d) bs }) in
      let E : ℕ → Type 0 = λ p. Reaches m (r.0 + 4 + 4) b2 1 p (record b2 { regs = set b2.regs 10 n; log = a.log ++ map (entry_to d) bytes }) in
      let all : Reaches m place a 15 end (record a { regs = set b2.regs 10 n; log = a.log ++ map (entry_to d) bytes }) =
      joined m w b (joined m w b (joined m w b (both_sim c place a t q.0 r.0 u v q.1 r.1 x.well.ready.0 x.well.ready.1.0) (constant r.0 b0 10 (descriptor_number d) r.2.0 (lit< tt) (descriptor_small d)))
      (constant (r.0 + 4) b1 17 64 r.2.1.0 (lit< tt) (lit< tt))) (subst E r.2.1.1.1 (subst R shown one)) in
      let c' : Config = record c { log = c.log ++ map (entry_to d) bytes } in
      let a' : Flat = record a { log = a.log ++ map (entry_to d) bytes } in
      let t' : Tied m w b c' place a' = tied_log m w b c place a (map (entry_to d) bytes) t in
      pass m w b 32 place a c' place a' t' s (c.here.next + 1) e refl (next_leads m w b (known_in m w b t.f t.p t.act.found) c.here.next s x.well.leads.0) 15 (set b2.regs 10 n) all refl (lit< tt) (lit≤ tt)

  write_sim : (c : Config) (place : ℕ) (a : Flat) (t : Tied m w b c place a) (d : Descriptor) (u v : ℕ) → slice_get c.here.steps c.here.next ≡ Some (System (Write d u v)) →
      Sim m w b 32 place a (writes_step (entry_to d) (loaded c.here.touched c.memory (c.here.temps u) (c.here.temps v)) c)
  write_sim c place a t d u v e = by (loaded c.here.touched c.memory (c.here.temps u) (c.here.temps v)) refl
    where
      by : (o : Option (List ℕ)) → loaded c.here.touched c.memory (c.here.temps u) (c.here.temps v) ≡ o → Sim m w b 32 place a (writes_step (entry_to d) o c)
      by None q = strays_sim m w b 32 c place a t
      by (Some bytes) q = write_found c place a t d u v bytes e (loaded_parts c.here.touched c.memory (c.here.temps u) (c.here.temps v) bytes q)

  -- ---- reads

  read_found : (c : Config) (place : ℕ) (a : Flat) (t : Tied m w b c place a) (to u v : ℕ) → slice_get c.here.steps c.here.next ≡ Some (System (Read to u v)) →
      all_in c.here.touched (c.here.temps u) (c.here.temps v) ≡ true →
      Sim m w b 32 place a (gives to (length (take (c.here.temps v) c.input)) (record c {
        memory = put c.memory (c.here.temps u) (take (c.here.temps v) c.input);
        input = drop (c.here.temps v) c.input;
        taken = c.taken + length (take (c.here.temps v) c.input);
      }))
  read_found c place a t to u v e all =
      let s : MidStep = System (Read to u v) in
      let x : Here m w b c place a t s = here_step m w b c place a t s e in
      let end : ℕ = place_of m w b t.f t.p (c.here.next + 1) in
      let last : List Inst = Addi 10 0 (pos 0) ∷ Addi 17 0 (pos 63) ∷ Ecall ∷ store_slot t.p.frame 10 to in
      let q = stands_parts m.code place (load_slot t.p.frame 11 u) (load_slot t.p.frame 12 v ++ last) end x.has.code in
      let r = stands_parts m.code q.0 (load_slot t.p.frame 12 v) last end q.2 in
      let address : ℕ = c.here.temps u in
      let n : ℕ = c.here.temps v in
      let bytes : List ℕ = take n c.input in
      let b0 : Flat = record a { regs = set (set a.regs 11 address) 12 n } in
      let b1 : Flat = putting b0 10 0 in
      let b2 : Flat = putting b1 17 63 in
      let R : List ℕ → Type 0 =
      λ xs. Reaches m (r.0 + 4 + 4) b2 1 (r.0 + 4 + 4 + 4)
      (record b2 { regs = set b2.regs 10 (length (take n xs)); mem = written a.mem address (take n xs); input = drop (length (take n xs)) a.input; taken = a.taken + length (take n xs) }) in
      let one : R c.input =
      subst R (sym t.input) (reads m (r.0 + 4 + 4) b2 address n r.2.1.1.0 refl refl refl refl (λ some. row_has_write (4 * length m.code) m.store_size address n (row_read c place a t address n all some))) in
      let g : ℕ → ℕ = set b2.regs 10 (length bytes) in
      let a1 : Flat = record a { mem = written a.mem address bytes } in
      let c1 : Config = record c { memory = put c.memory address bytes } in
      let t1 : Tied m w b c1 place a1 =
      tied_put m w b c place a address bytes t (all_of_fewer c.here.touched address n (length bytes) all (fewer_taken n c.input)) (bytes_taken n c.input t.given) in
      let a2 : Flat = record a1 { input = drop (length bytes) a.input; taken = a.taken + length bytes } in
      let c2 : Config = record c1 { input = drop n c.input; taken = c.taken + length bytes } in
      let t2 : Tied m w b c2 place a2 = tied_input m w b c1 place a1 n t1 in
      let small : length bytes < 2 ^ 64 = omega (arith, fewer_taken n c.input, temp_small m w b c place a t v x.well.ready.1.0) in
      let way : Reaches m place a 15 (r.0 + 4 + 4 + 4) (record a2 { regs = g }) =
      joined m w b (joined m w b (joined m w b (both_sim c place a t q.0 r.0 u v q.1 r.1 x.well.ready.0 x.well.ready.1.0) (constant r.0 b0 10 0 r.2.0 (lit< tt) (lit< tt)))
      (constant (r.0 + 4) b1 17 63 r.2.1.0 (lit< tt) (lit< tt))) one in
      give m w b 32 place a c2 place a2 t2 s to (length bytes) 10 e refl refl small (r.0 + 4 + 4 + 4) 15 g way refl refl refl (lit< tt) r.2.1.1.1 (lit≤ tt)

  read_sim : (c : Config) (place : ℕ) (a : Flat) (t : Tied m w b c place a) (to u v : ℕ) → slice_get c.here.steps c.here.next ≡ Some (System (Read to u v)) →
      Sim m w b 32 place a (reads_step to (c.here.temps u) (c.here.temps v) c)
  read_sim c place a t to u v e = by (all_in c.here.touched (c.here.temps u) (c.here.temps v)) refl
    where
      by : (z : Bool) → all_in c.here.touched (c.here.temps u) (c.here.temps v) ≡ z →
          Sim m w b 32 place a (if z then gives to (length (take (c.here.temps v) c.input)) (record c {
            memory = put c.memory (c.here.temps u) (take (c.here.temps v) c.input);
            input = drop (c.here.temps v) c.input;
            taken = c.taken + length (take (c.here.temps v) c.input);
          }) else strays c)
      by true q = read_found c place a t to u v e q
      by false q = strays_sim m w b 32 c place a t

  pub system_sim : (c : Config) (place : ℕ) (a : Flat) (t : Tied m w b c place a) (call : SystemCall) → slice_get c.here.steps c.here.next ≡ Some (System call) → Sim m w b 32 place a (asks call c)
  system_sim c place a t (Read to u v) e = read_sim c place a t to u v e
  system_sim c place a t (Write d u v) e = write_sim c place a t d u v e
  system_sim c place a t (Exit u) e = exit_sim c place a t u e
