-- A program within the limits stays within those of each pass.
use Rattle.std.proofs.Common.{◌≡◌, ℕ, zero, suc, ◌+◌, ◌*◌, ◌≤◌, List, [], ◌∷◌, ◌++◌, length, map, refl, sym, arith, ap, subst, lit≤}
use Rattle.odc_typed.specs.Tree.{Proc}
use Rattle.odc_typed.specs.Well.{Signature, signatures, IsWellProc, AllWell}
use Rattle.odc_typed.specs.Nodes.{nodes, NodesFit, all_nodes}
use Rattle.odc_context.specs.Code.{crossed, body_code}
use Rattle.odc_lower.specs.Size.{AreCountable}
use Rattle.odc_lower.specs.Plain.{Step, PlainProc, plain, plain_proc, const_step, return_step}
use Rattle.odc_lower.specs.Code.{parameters_code, procedure_code}
use Rattle.odc_lower.specs.Code.{stmts_code as stmts_steps}
use Rattle.odc_lower.specs.Lowered.{lowered}
use Rattle.odc_mid.specs.Tree.{Proc as MidProc}
use Rattle.rv_emit.specs.Code.{proc_size, procs_size}
use Rattle.rv_emit.specs.Layout.{AllHaveSlots, steps_width, procs_width}
use Rattle.odc_build.specs.Kept.{widest}
use Rattle.odc_build.specs.Weight.{plain_sizes, stmts_weight}
use Rattle.odc_build.proofs.Weights.{sizes_join, same_sizes, stmts_weigh, stmts_nodes_weigh}
use Rattle.odc_build.proofs.Forms.{proc_weight}
use Rattle.odc_build.proofs.Rooms.{slots}
use Rattle.odc_build.proofs.Widths.{AtMost, AreNarrow, narrow_steps, proc_narrow, body_narrow}

-- ---- a procedure for each

abbrev pub AllBecome : List MidProc → List Proc → Type 0
AllBecome [] [] = Unit {0}
AllBecome (q ∷ qs) (p ∷ ps) = (plain_proc q ≡ lowered (crossed p)) × AllBecome qs ps
AllBecome _ _ = ⊥

-- a list's first, if it has one
abbrev first_or : {X : Type 0} → X → List X → X
first_or x [] = x
first_or x (y ∷ ys) = y

abbrev behind : {X : Type 0} → List X → List X
behind [] = []
behind (y ∷ ys) = ys

pub all_become : (qs : List MidProc) (ps : List Proc) → map plain_proc qs ≡ map lowered (map crossed ps) → AllBecome qs ps
all_become [] [] e = tt
all_become [] (p ∷ ps) e = absurd (omega (arith, ap length e))
all_become (q ∷ qs) [] e = absurd (omega (arith, ap length e))
all_become (q ∷ qs) (p ∷ ps) e = (ap (first_or (plain_proc q)) e, all_become qs ps (ap behind e))

pub all_slots : (qs : List MidProc) (ps : List Proc) → AllBecome qs ps → AllHaveSlots qs
all_slots [] [] h = tt
all_slots [] (p ∷ ps) h = absurd h
all_slots (q ∷ qs) [] h = absurd h
all_slots (q ∷ qs) (p ∷ ps) h = (slots p q h.0, all_slots qs ps h.1)

-- ---- nodes of core code

pub countable : (ss : List Signature) (ps : List Proc) → AllWell ss ps → NodesFit ps → AreCountable (map crossed ps)
countable ss [] well fit = tt
countable ss (p ∷ ps) well fit =
    ((omega (arith, proc_weight ss p well.0, stmts_nodes_weigh (body_code p), fit.0), omega (arith, fit.0)), countable ss ps well.1 fit.1)

-- ---- instructions

parameters_size : (d i k : ℕ) → plain_sizes (parameters_code d i k) ≡ 24 * k
parameters_size d i zero = refl
parameters_size d i (suc k) = omega (arith, parameters_size d (i + 1) k)

small : (ss : List Signature) (p : Proc) (q : MidProc) → IsWellProc ss p → plain_proc q ≡ lowered (crossed p) → proc_size q ≤ 1240 * nodes p + 126
small ss p q well e =
    let k : ℕ = length p.parameters in
    let last : List Step = const_step k 0 ∷ return_step k ∷ [] in
    let body : List Step = stmts_steps k [] (2 * k) (body_code p) in
    let steps : plain_sizes (map plain q.steps) ≡ plain_sizes (parameters_code k 0 k ++ (body ++ last)) = ap (λ (x : PlainProc). plain_sizes x.steps) e in
    let a : plain_sizes (parameters_code k 0 k ++ (body ++ last)) ≡ plain_sizes (parameters_code k 0 k) + plain_sizes (body ++ last) = sizes_join (parameters_code k 0 k) (body ++ last) in
    let b : plain_sizes (body ++ last) ≡ plain_sizes body + plain_sizes last = sizes_join body last in
    let c : plain_sizes last ≡ 29 = refl in
    let d : plain_sizes body ≤ stmts_weight (body_code p) = stmts_weigh (body_code p) k [] (2 * k) in
    omega (arith, same_sizes q.steps, steps, a, b, c, d, parameters_size k 0 k, proc_weight ss p well)

pub all_small : (ss : List Signature) (qs : List MidProc) (ps : List Proc) → AllWell ss ps → AllBecome qs ps → procs_size qs ≤ 1240 * all_nodes ps + 126 * length ps
all_small ss [] [] well h = lit≤ tt
all_small ss [] (p ∷ ps) well h = absurd h
all_small ss (q ∷ qs) [] well h = absurd h
all_small ss (q ∷ qs) (p ∷ ps) well h = omega (arith, small ss p q well.0 h.0, all_small ss qs ps well.1 h.1)

-- ---- arguments

pub widest_at_most : (n : ℕ) (ps : List Proc) → widest ps ≤ n → AtMost n (signatures ps)
widest_at_most n [] h = tt
widest_at_most n (p ∷ ps) h = (omega (arith, h), widest_at_most n ps (omega (arith, h)))

narrow : (n : ℕ) (ss : List Signature) (p : Proc) (q : MidProc) → AtMost n ss → IsWellProc ss p → plain_proc q ≡ lowered (crossed p) → steps_width q.steps ≤ n
narrow n ss p q most well e =
    let k : ℕ = length p.parameters in
    let steps : map plain q.steps ≡ procedure_code (crossed p) = ap (λ (x : PlainProc). x.steps) e in
    narrow_steps n q.steps (subst (AreNarrow n) (sym steps) (proc_narrow n (body_code p) k k [] (2 * k) (body_narrow n ss p most well)))

pub all_narrow : (n : ℕ) (ss : List Signature) (qs : List MidProc) (ps : List Proc) → AtMost n ss → AllWell ss ps → AllBecome qs ps → procs_width qs ≤ n
all_narrow n ss [] [] most well h = omega arith
all_narrow n ss [] (p ∷ ps) most well h = absurd h
all_narrow n ss (q ∷ qs) [] most well h = absurd h
all_narrow n ss (q ∷ qs) (p ∷ ps) most well h = omega (arith, narrow n ss p q most well.0 h.0, all_narrow n ss qs ps most well.1 h.1)
