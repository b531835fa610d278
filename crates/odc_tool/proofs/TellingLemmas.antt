-- Lines on the error output, and what stands there when one of them fails.
use Rattle.std.proofs.Common.{◌≡◌, ℕ, ◌≤◌, List, [], take, arith, ap, ◌∙◌, sym, subst, refl}
use Rattle.std.specs.Prelude.{Option, Some, None}
use Rattle.std.proofs.lemmas.List.{append-nil}
use Rattle.odc_io.specs.Counts.{Rose}
use Rattle.odc_io.specs.Streams.{grown, GrewByFront}
use Rattle.odc_io.proofs.GrownLemmas.{grown_twice}
use Rattle.odc_tool.specs.declared.status.Status.{Status}
use Rattle.odc_tool.specs.declared.run.Failure.{Failure}
use Rattle.odc_tool.specs.declared.run.Failure.TheVariants.{Read, Write, NoMemory}
use Rattle.odc_tool.specs.Status.{line_of}
use Rattle.odc_tool.specs.Telling.{IsFailure, status_of, TellsFront}

pub is_failure : (failure : Failure) → IsFailure (status_of failure)
is_failure Read = tt
is_failure Write = tt
is_failure NoMemory = tt

pub grown_nothing : (o : Option (List ℕ)) → o ≡ grown o []
grown_nothing None = refl
grown_nothing (Some bytes) = ap (λ (b : List ℕ). Some b) (sym (append-nil bytes))

pub no_front : (o : Option (List ℕ)) (bytes : List ℕ) → GrewByFront o o bytes
no_front o bytes = (0, omega arith, grown_nothing o)

-- a front of the line, and then the failure's
pub tells_front : (text : List ℕ) (failure : Failure) (answered : Status) (old middle new : Option (List ℕ)) → answered ≡ status_of failure →
    GrewByFront old middle text → GrewByFront middle new (line_of (status_of failure) [] []) → TellsFront text answered old new
tells_front text failure answered old middle new e f g =
    let P : Status → Type 0 = λ s. TellsFront text s old new in
    subst P (sym e) (record {
      failed = is_failure failure;
      part = f.0;
      part_fits = f.1;
      line = g.0;
      line_fits = g.1;
      is = g.2 ∙ ap (λ (o : Option (List ℕ)). grown o (take g.0 (line_of (status_of failure) [] []))) f.2 ∙ grown_twice old (take f.0 text) (take g.0 (line_of (status_of failure) [] []));
    })

-- a count that rose stays so, and one that rises later has risen
pub rose_on : (old middle new : ℕ) → Rose old middle → middle ≤ new → Rose old new
rose_on old middle new rose more = omega (arith, rose)

pub rose_later : (old middle new : ℕ) → old ≤ middle → Rose middle new → Rose old new
rose_later old middle new more rose = omega (arith, rose)
