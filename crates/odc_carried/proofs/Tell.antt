-- The laws, from the lemmas.
use Rattle.std.proofs.Common.{◌≡◌, ℕ, inl, inr, Bool, true, false, arith, ap, ◌∙◌, sym, refl, length}
use Rattle.odc_program.specs.States.Bytes.{Value, truth_bytes}
use Rattle.odc_program.specs.States.Run.{Res}
use Rattle.odc_program.specs.States.State.{State, Leave}
use Rattle.odc_core.specs.Run.{State as CoreState}
use Rattle.odc_core.specs.Tree.{Expr as CoreExpr}
use Rattle.odc_core.specs.Words.{bytes_of}
use Rattle.rv_table.specs.Words.{flag}
use Rattle.odc_carried.specs.Places.{bytes_at}
use Rattle.odc_carried.specs.Tied.{Site}
use Rattle.odc_carried.specs.Kept.{IsSame, QuietIntegers, QuietTruths}
use Rattle.odc_carried.proofs.Runs.{Face}
use Rattle.odc_carried.proofs.Values.{Val}
use Rattle.odc_carried.proofs.Quiet.{Evaluated, IsTruth}
use Rattle.odc_carried.proofs.Evals.{quiet_int, quiet_truth}

abbrev face : CoreState → Face
face t = record { memory = t.memory; log = t.log; input = t.input; taken = t.taken }

same_of : (S : Site) (Is : Value → ℕ → Type 0) (code : CoreExpr) (s : State) (t : CoreState) (r : Res Leave State Value) → ((v : Value) (w : ℕ) → Is v w → bytes_at S.entries v ≡ bytes_of (length v) w) → Evaluated S Is code s (face t) r → IsSame S code s t r
same_of S Is code s t r bytes (inl x) = inl (record {
  value = x.value;
  word = x.word;
  cost = x.cost;
  is = x.is;
  bytes = bytes x.value x.word x.holds;
  budget = x.quiet.budget;
  paid = x.quiet.cost;
  runs = λ n left h. (x.quiet.runs 0).is n left t.cost (omega arith);
  cheap = omega (arith, x.quiet.cheap, x.enough);
})
same_of S Is code s t r bytes (inr x) = inr (record { place = x.place; cost = x.cost; is = x.is })

pub quiet_integers : QuietIntegers
quiet_integers S context calls e d s t r q tied =
    same_of S (Val S.entries 8) _ s t _ (λ v w x. x.is ∙ ap (λ (n : ℕ). bytes_of n w) (sym x.long)) (quiet_int S context calls e d s (face t) r q (record { byte = tied.byte; sane = tied.sane }))

truth_flag : (S : Site) (v : Value) (w : ℕ) → IsTruth v w → bytes_at S.entries v ≡ bytes_of (length v) w
truth_flag S v w x = ap (bytes_at S.entries) x.value ∙ by x.b ∙ ap (λ (u : Value). bytes_of (length u) (flag x.b)) (sym x.value) ∙ ap (bytes_of (length v)) (sym x.word)
  where
    by : (b : Bool) → bytes_at S.entries (truth_bytes b) ≡ bytes_of (length (truth_bytes b)) (flag b)
    by true = refl
    by false = refl

pub quiet_truths : QuietTruths
quiet_truths S context calls e d s t r q tied = same_of S IsTruth _ s t _ (truth_flag S) (quiet_truth S context calls e d s (face t) r q (record { byte = tied.byte; sane = tied.sane }))
