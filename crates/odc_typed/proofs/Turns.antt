-- What takes a turn in the source run.
use Rattle.std.proofs.Common.{◌≡◌, ℕ, zero, suc, ◌+◌, Bool, true, List, ap, ◌∙◌, refl}
use Rattle.std.specs.Prelude.{slice_get, if◌then◌else◌}
use Rattle.odc_text.specs.Run.{going}
use Rattle.odc_typed.specs.Tree.{Proc}
use Rattle.odc_typed.specs.Bytes.{Value}
use Rattle.odc_typed.specs.Source.{State, Res, Act, Flow, falls, ok, stop, then_by, pure, turn, turn_from, after, enter, calls_of, turns_while}

pub call_waits : (ps : List Proc) (n f : ℕ) (vs : List Value) (base : ℕ) (s : State) → s.left ≡ 0 → calls_of ps n f vs base s ≡ stop going s
call_waits ps zero f vs base s e = refl
call_waits ps (suc n) f vs base s e = ap (λ (k : ℕ). turn_from k (enter n (calls_of ps n) (slice_get ps f) vs base) s) e

pub call_takes : (ps : List Proc) (n f left : ℕ) (vs : List Value) (base : ℕ) (s : State) → s.left ≡ suc left →
    calls_of ps (suc n) f vs base s ≡ enter n (calls_of ps n) (slice_get ps f) vs base (record s { left = left; cost = s.cost + 1 })
call_takes ps n f left vs base s e = ap (λ (k : ℕ). turn_from k (enter n (calls_of ps n) (slice_get ps f) vs base) s) e

-- a turn of a loop, whose condition was found true
abbrev begun : ℕ → Act Bool → Act Flow → Act Flow
begun n test body s = then_by (body s) (λ flow. after flow (turns_while n test body))

pub loop_waits : (n : ℕ) (test : Act Bool) (body : Act Flow) (s t : State) → test s ≡ ok true t → t.left ≡ 0 → turns_while n test body s ≡ stop going t
loop_waits zero test body s t found e = ap (λ (r : Res Bool). then_by r (λ b. if b then (λ u. stop going u) else pure falls)) found
loop_waits (suc n) test body s t found e =
    ap (λ (r : Res Bool). then_by r (λ b. if b then turn (begun n test body) else pure falls)) found
    ∙ ap (λ (k : ℕ). turn_from k (begun n test body) t) e

pub loop_takes : (n left : ℕ) (test : Act Bool) (body : Act Flow) (s t : State) → test s ≡ ok true t → t.left ≡ suc left →
    turns_while (suc n) test body s ≡ then_by (body (record t { left = left; cost = t.cost + 1 })) (λ flow. after flow (turns_while n test body))
loop_takes n left test body s t found e =
    ap (λ (r : Res Bool). then_by r (λ b. if b then turn (begun n test body) else pure falls)) found
    ∙ ap (λ (k : ℕ). turn_from k (begun n test body) t) e
