-- What surrounds a core run and the mid run that follows it.
use Rattle.std.proofs.Common.{◌≡◌, ℕ, zero, suc, ◌+◌, ◌*◌, ◌^◌, ◌<◌, ◌≤◌, true, List, [], ◌∷◌, ◌++◌, length, refl}
use Rattle.std.specs.Prelude.{Option, Some, None, slice_get}
use Rattle.odc_text.specs.Run.{Entry, Log}
use Rattle.odc_core.specs.Tree.{Proc}
use Rattle.odc_core.specs.Well.{parameters_of}
use Rattle.odc_core.specs.Run.{World, Env, State, Res, calls_of}
use Rattle.odc_mid.specs.Tree.{Proc as MidProc}
use Rattle.odc_mid.specs.Run.{World as MidWorld, act, calls, set}
use Rattle.odc_lower.proofs.simulation.Sims.{Frame, stand, Sim}

-- all that may be touched lies below the end of the stack, and so does the frame
pub record IsFrame (f : Frame) : Type 0 where
  pub touched : (x : ℕ) → f.touched x ≡ true → x < 2 ^ 31
  pub low : f.low ≤ 2 ^ 31

-- a state whose log has one more entry, where there is one
abbrev pub with_told : Option (Entry ℕ ℕ) → Log ℕ ℕ → Log ℕ ℕ
with_told None log = log
with_told (Some e) log = log ++ (e ∷ [])

abbrev pub told : Option (Entry ℕ ℕ) → State → State
told e s = record s { log = with_told e s.log }

-- ---- where a value has been made: its word is in the temporary `d`, and those below it are as they were

pub record IsValue (end d : ℕ) (temps : ℕ → ℕ) (v place : ℕ) (temps' : ℕ → ℕ) : Type 0 where
  pub at : place ≡ end
  pub word : temps' d ≡ v
  pub kept : (t : ℕ) → t < d → temps' t ≡ temps t

-- where a call has been answered
pub record IsAnswered (pc to : ℕ) (temps : ℕ → ℕ) (v place : ℕ) (temps' : ℕ → ℕ) : Type 0 where
  pub at : place ≡ pc + 1
  pub is : temps' ≡ set to v temps

pub parameters_at : (ps : List Proc) (f n : ℕ) → slice_get (parameters_of ps) f ≡ Some n → (p : Proc) × (slice_get ps f ≡ Some p) × (p.parameters ≡ n)
parameters_at [] f n h = absurd (cc)
parameters_at (p ∷ ps) zero n h = (p, refl, cc)
parameters_at (p ∷ ps) (suc f) n h = parameters_at ps f n h

module _ (entries : ℕ → ℕ) (ps : List Proc) (qs : List MidProc) (addresses : List ℕ) where
  abbrev pub core_world : World
  core_world = record { entries = entries; procedures = ps; addresses = addresses }

  abbrev pub mid_world : MidWorld
  mid_world = record { entries = entries; procedures = qs; addresses = addresses }

  abbrev pub env_of : Frame → Env
  env_of f = record { world = core_world; at = f.at; low = f.low; variables = f.variables; touched = f.touched }

  abbrev pub Follow : {A : Type 0} → Frame → ℕ → ℕ → ℕ → ℕ → (ℕ → ℕ) → State → Res A → (A → ℕ → (ℕ → ℕ) → Type 0) → Type 0
  Follow f before behind gain pc temps s r goal = Sim mid_world f before behind gain (stand f pc temps s) s r goal

  -- each call is followed, from its step on
  pub record CallsFollow (n : ℕ) : Type 0 where
    pub by : (f : Frame) → IsFrame f → (pc : ℕ) (temps : ℕ → ℕ) (s : State) (to g : ℕ) (vs : List ℕ) (e : Option (Entry ℕ ℕ)) (p : Proc) → s.left ≤ n →
        slice_get ps g ≡ Some p → p.parameters ≡ length vs →
        act mid_world (stand f pc temps s) ≡ calls to (slice_get qs g) vs (stand f pc temps (told e s)) →
        Follow f (1 + 2 * length vs) 1 2 pc temps s (calls_of core_world n e g vs f.touched f.low s) (IsAnswered pc to temps)
