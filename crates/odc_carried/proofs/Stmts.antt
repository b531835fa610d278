-- Declarations, assignments and returns.
use Rattle.std.proofs.Common.{◌≡◌, ℕ, zero, suc, ◌+◌, ◌/◌, ◌%◌, ◌<◌, ◌≤◌, inl, inr, true, List, [], ◌∷◌, length, arith, ap, ◌∙◌, sym, subst, refl}
use Rattle.std.specs.Prelude.{Option, Some, None, slice_get}
use Rattle.odc_program.specs.States.Bytes.{Block, variable, Value}
use Rattle.odc_program.specs.States.Memory.{Memory, load, put, open_block, at_block}
use Rattle.odc_program.specs.States.Run.{ok}
use Rattle.odc_program.specs.States.State.{State, Context}
use Rattle.odc_program.specs.Runs.Statements.{Left}
use Rattle.odc_program.specs.Runs.Statements.{Flow as LeftFlow, falls as left_falls, returns}
use Rattle.odc_program.specs.Trees.Program.{Local}
use Rattle.odc_core.specs.Tree.{Expr as CoreExpr}
use Rattle.odc_core.specs.Words.{bytes_of as numbers_of}
use Rattle.odc_core.specs.Memory.{put as flat_put}
use Rattle.odc_core.specs.Run.{Flow, falls, answers}
use Rattle.odc_carried.specs.Carried.{is_int_local, names_int}
use Rattle.odc_carried.specs.Code.{one, put as set, variable_of}
use Rattle.odc_carried.specs.Places.{byte_at, bytes_at}
use Rattle.odc_carried.specs.Tied.{size_of, Site}
use Rattle.odc_carried.proofs.Runs.{Face, with_memory, Runs}
use Rattle.odc_carried.proofs.Sims.{Told, Sim, sim_runs}
use Rattle.odc_carried.proofs.Values.{Val}
use Rattle.odc_carried.proofs.Ties.{Facts, Now, block, at_self, at_other, same_tells, AreSane}
use Rattle.odc_carried.proofs.Writes.{name, now_put, now_open}
use Rattle.odc_carried.proofs.Frame.{put_away, local_variable, ex1, ex, r_set, r_one}
use Rattle.odc_carried.proofs.Quiet.{Quiet, IntType, int_type}
use Rattle.odc_carried.proofs.Codes.{Ready}

-- a value of eight bytes has sane ones
head_of : List ℕ → ℕ
head_of [] = 0
head_of (y ∷ ys) = y

tail_of : List ℕ → List ℕ
tail_of [] = []
tail_of (y ∷ ys) = ys

pub sane_of : (entries : ℕ → ℕ) (v : Value) (n w : ℕ) → bytes_at entries v ≡ numbers_of n w → AreSane entries v
unfolding head_of tail_of
sane_of entries [] n w e = tt
sane_of entries (x ∷ v) zero w e = absurd (cc)
sane_of entries (x ∷ v) (suc n) w e =
    let first : byte_at entries x ≡ w % 256 = ap head_of e in
    (omega (arith, first), sane_of entries v n (w / 256) (ap tail_of e))

-- ---- a local of this type
pub record IntLocal (S : Site) (x : ℕ) : Type 0 where
  pub l : Local
  pub found : slice_get S.proc.locals x ≡ Some l
  pub size : size_of S.tables l ≡ 8
  pub kind : IntType S.tables l.ty

pub int_local : (S : Site) (x : ℕ) → names_int S.tables S.proc x ≡ true → IntLocal S x
int_local S x e = by (slice_get S.proc.locals x) refl e
  where
    by : (l : Option Local) → slice_get S.proc.locals x ≡ l → is_int_local S.tables l ≡ true → IntLocal S x
    by (Some l) f g = record { l = l; found = f; size = (int_type S.tables l.ty g).size; kind = int_type S.tables l.ty g }
    by None f g = absurd (cc)

index_of : Block → ℕ
index_of (variable f serial at x) = x
index_of _ = 0

local_same : (l k : Local) → (let q : Option Local = Some l in q) ≡ Some k → l ≡ k
local_same l k e = cc

-- a live variable has the size of its type
pub own_size : (S : Site) (F : Facts S) (src : Memory) (next : ℕ) (m : _) (x : ℕ) (i : IntLocal S x) (s : ℕ) → Now S src next m → src.size (name S x i.l) ≡ Some s → s ≡ 8
unfolding index_of
own_size S F src next m x i s t e = elim (t.since (name S x i.l) s tt e) [
  | inl old ↦ (let older : S.serial < S.serial = F.floor.older (name S x i.l) s tt old in absurd (omega arith))
  | inr own ↦ (let both : 0 + x ≡ 0 + own.x = ap index_of own.is in
      let equal : x ≡ own.x = omega (arith, both) in
      let found : slice_get S.proc.locals own.x ≡ Some i.l = ap (slice_get S.proc.locals) (sym equal) ∙ i.found in
      let is_l : own.l ≡ i.l = local_same own.l i.l (sym own.found ∙ found) in
      own.size ∙ ap (size_of S.tables) is_l ∙ i.size)
]

module _ (S : Site) (F : Facts S) where
  -- the result, where a procedure has one
  pub record Results : Type 0 where
    pub few : S.proc.results ≤ 1
    pub is_int : S.proc.results ≡ 1 → IntLocal S S.proc.parameters

  -- ---- how a statement is left
  -- the result, where there is one
  pub record Gave (w : ℕ) (t : State) : Type 0 where
    pub value : Value
    pub there : S.proc.results ≡ 1 → load t.memory (block S S.proc.parameters) 0 8 ≡ Some value
    pub is : S.proc.results ≡ 1 → Val S.entries 8 value w

  abbrev pub AreLeft : LeftFlow → Flow → State → Type 0
  AreLeft left_falls falls t = Unit {0}
  AreLeft returns (answers w) t = Gave w t
  AreLeft _ _ t = ⊥

  pub record Done (h0 : Face) (v : Left) (t : State) (flow : Flow) (h : Face) : Type 0 where
    pub left : AreLeft v.flow flow t
    pub ready : Ready S F t h
    pub above : (i : ℕ) → S.low + S.proc.frame ≤ i → h.memory i ≡ h0.memory i

  -- ---- a word into a variable
  abbrev pub stored : ℕ → ℕ → Face → Face
  stored a w h = with_memory h (flat_put h.memory a (numbers_of 8 w))

  module _ (x : ℕ) (i : IntLocal S x) (v : Value) (w : ℕ) (val : Val S.entries 8 v w) where
    -- the same bytes
    same_put : (h : Face) → flat_put h.memory (S.low + i.l.place) (bytes_at S.entries v) ≡ flat_put h.memory (S.low + i.l.place) (numbers_of 8 w)
    same_put h = ap (flat_put h.memory (S.low + i.l.place)) val.is

    pub stays_above : (h : Face) (k : ℕ) → S.low + S.proc.frame ≤ k → (stored (S.low + i.l.place) w h).memory k ≡ h.memory k
    stays_above h k far = let end : i.l.place + size_of S.tables i.l + 8 ≤ S.proc.frame = F.laid.high x i.l i.found in put_away h.memory (S.low + i.l.place) w k (inr (omega (arith, end, i.size)))

    -- it begins
    pub opened : (t : State) (h : Face) (k : ℕ) → Ready S F t h → Ready S F (record t { memory = open_block t.memory (name S x i.l) v; cost = k }) (stored (S.low + i.l.place) w h)
    opened t h k r = record {
      now = let P : _ → Type 0 = λ m. Now S (open_block t.memory (name S x i.l) v) t.serial m in subst P (same_put h) (now_open S F t.memory t.serial h.memory x i.l i.found v (sane_of S.entries v 8 w val.is) r.now (val.long ∙ sym i.size) r.newer);
      newer = r.newer;
      few = r.few;
      told = record { logs = r.told.logs; input = r.told.input; taken = r.told.taken };
      answer = λ one. elim (same_tells S.number S.serial (S.low + i.l.place) (0 + x) (block S S.proc.parameters)) [
        | inl same ↦ (let P : Block → Type 0 = λ b. at_block (name S x i.l) (Some (length v)) t.memory.size b ≡ Some 8 in
            subst P (sym same.1) (at_self (name S x i.l) (Some (length v)) t.memory.size ∙ ap (λ (n : ℕ). Some n) val.long))
        | inr other ↦ at_other (name S x i.l) (block S S.proc.parameters) (Some (length v)) t.memory.size other ∙ r.answer one
      ];
    }

    -- it gets another word
    pub changed : (t : State) (h : Face) (s k : ℕ) → t.memory.size (name S x i.l) ≡ Some s → Ready S F t h → Ready S F (record t { memory = put t.memory (name S x i.l) 0 v; cost = k }) (stored (S.low + i.l.place) w h)
    changed t h s k live r =
        let eight : s ≡ 8 = own_size S F t.memory t.serial h.memory x i s r.now live in
        record {
          now = let P : _ → Type 0 = λ m. Now S (put t.memory (name S x i.l) 0 v) t.serial m in subst P (same_put h) (now_put S F t.memory t.serial h.memory x i.l i.found v (sane_of S.entries v 8 w val.is) r.now s live (omega (arith, eight, val.long)) (omega (arith, eight, i.size)));
          newer = r.newer;
          few = r.few;
          told = record { logs = r.told.logs; input = r.told.input; taken = r.told.taken };
          answer = r.answer;
        }

  -- ---- the code that stores
  module _ (x : ℕ) (i : IntLocal S x) (j : ℕ) (h0 h : Face) (e : CoreExpr) (w L : ℕ) (q : Quiet S e h w L) where
    set_runs : Runs j (ex1 S (set x e)) h (q.budget + 2) (q.cost + 3) falls (stored (S.low + i.l.place) w h)
    set_runs = r_set S j x (variable_of S.tables i.l) e (local_variable S x i.l i.found) (omega (arith, i.size)) (q.runs j)

    pub set_sim : (c : Context) (t : State) → Told S.entries t h → Ready S F t (stored (S.low + i.l.place) w h) → ((k : ℕ) → S.low + S.proc.frame ≤ k → h.memory k ≡ h0.memory k) → (v : Value) → Val S.entries 8 v w →
        Sim S.entries (Done h0) j (L + 8) 0 (ex S (one (set x e))) t h (ok (record { flow = left_falls; context = c }) t)
    set_sim c t told ready above v val =
        sim_runs S.entries (Done h0) j (L + 8) 0 (ex S (one (set x e))) t h (stored (S.low + i.l.place) w h) (record { flow = left_falls; context = c }) (q.budget + 2) (q.cost + 3) falls
        (r_one S j (set x e) set_runs) told ready.told (omega (arith, q.cheap)) (record { left = tt; ready = ready; above = λ k far. stays_above x i v w val h k far ∙ above k far })
