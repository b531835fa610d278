-- From what the parts of a command tell to what the command answers.
use Rattle.std.proofs.Common.{◌≡◌, ℕ, ◌+◌, ◌≤◌, inl, inr, List, [], ◌++◌, length, take, get_or, arith, ap, ◌∙◌, sym, subst, refl, lit≤, append_assoc, length-append}
use Rattle.std.specs.Prelude.{Option, Some, None, IfSome}
use Rattle.std.proofs.Math.Seq.{take-length, take-append-add}
use Rattle.std.proofs.lemmas.List.{take-append-le}
use Rattle.odc_text.specs.declared.check.Check.{Check}
use Rattle.odc_text.specs.declared.place.Place.{Place}
use Rattle.odc_text.specs.declared.code.Fault.{Fault}
use Rattle.odc_text.specs.Run.{End, exited, checked, strayed, trapped, going}
use Rattle.odc_text.specs.Steps.{Stand}
use Rattle.odc_io.specs.Streams.{grown, shrunk, GrewByFront}
use Rattle.odc_io.proofs.GrownLemmas.{grown_twice}
use Rattle.rv_table.specs.State.{State}
use Rattle.rv_table.specs.Run.{Config, ran, started}
use Rattle.rv_machine.specs.Machine.{Loaded, loaded_from}
use Rattle.rv_machine.specs.Outside.{Told, out_bytes, err_bytes}
use Rattle.rv_machine.specs.Runs.{Whole, Part, Ends, begun}
use Rattle.elf_file.specs.Rules.{Image}
use Rattle.elf_file.specs.declared.read.BadImage.{BadImage as Broken}
use Rattle.odc_build.specs.Kept.{loaded}
use Rattle.odc_tool.specs.declared.status.Status.{Status}
use Rattle.odc_tool.specs.declared.status.Status.TheVariants.{Done, Exited, Refused, Usage, Stopped, StepsOut, Trapped, Strayed, BadImage, FolderFault, ReadFault, WriteFault, Memory, TurnsOut}
use Rattle.odc_tool.specs.declared.run.Failure.{Failure}
use Rattle.odc_tool.specs.Status.{line_of}
use Rattle.odc_tool.specs.Telling.{status_of, Tells, TellsBy}
use Rattle.odc_tool.specs.Headline.{line_in, Given, told_alone, IsStatusOf, RunOf, Answers, GaveNothing, ImageAnswers, Causes, CauseBy}
use Rattle.odc_tool.proofs.TellingLemmas.{is_failure, grown_nothing}
use Rattle.odc_tool.proofs.NeverStrays.{IsSound, ran_sound}

-- ---- what is told at two moments

pub shrunk_nothing : (o : Option (List ℕ)) → o ≡ shrunk o 0
shrunk_nothing None = refl
shrunk_nothing (Some rest) = refl

pub all_front : (o : Option (List ℕ)) (bytes : List ℕ) → GrewByFront o (grown o bytes) bytes
all_front o bytes = (length bytes, omega arith, ap (grown o) (sym (take-length bytes)))

-- ---- a status that comes before any run

pub alone_answers : (status answered : Status) (path word : List ℕ) (old new : Told) → Tells status (line_of status path word) answered old.err new.err → new.out ≡ old.out → new.input ≡ old.input →
    Answers (told_alone status path word) answered old new
alone_answers status answered path word old new (inl told) out input = inl (record {
  status = told.0;
  out = out ∙ grown_nothing old.out;
  err = told.1;
  input = input ∙ shrunk_nothing old.input;
})
alone_answers status answered path word old new (inr front) out input = inr (record {
  failed = front.failed;
  out = (0, lit≤ tt, out ∙ grown_nothing old.out);
  part = front.part;
  part_fits = front.part_fits;
  line = front.line;
  line_fits = front.line_fits;
  err = front.is;
  taken = 0;
  taken_fits = lit≤ tt;
  input = input ∙ shrunk_nothing old.input;
})

-- a failure before any run, whatever would have been given
pub failed_answers : (g : Given) (failure : Failure) (answered : Status) (old new : Told) → answered ≡ status_of failure →
    GrewByFront old.err new.err (line_of (status_of failure) [] []) → new.out ≡ old.out → new.input ≡ old.input → Answers g answered old new
failed_answers g failure answered old new e front out input =
    let P : Status → Type 0 = λ s. Answers g s old new in
    subst P (sym e) (inr (record {
      failed = is_failure failure;
      out = (0, omega arith, out ∙ grown_nothing old.out);
      part = 0;
      part_fits = omega arith;
      line = front.0;
      line_fits = front.1;
      err = front.2;
      taken = 0;
      taken_fits = omega arith;
      input = input ∙ shrunk_nothing old.input;
    }))

-- ---- a machine run

-- what the run gives, whatever the failures
abbrev given_by : List (List ℕ) → Stand Config → Status → Given
given_by paths s status = record { status = status; out = out_bytes s.last.log; err = err_bytes s.last.log ++ line_in paths status; taken = s.last.taken }

whole_answers : (paths : List (List ℕ)) (s : Stand Config) (status answered : Status) (old middle new : Told) (after : State) → Whole s old middle after →
    Tells status (line_in paths status) answered middle.err new.err → new.out ≡ middle.out → new.input ≡ middle.input → Answers (given_by paths s status) answered old new
whole_answers paths s status answered old middle new after w (inl told) out input = inl (record {
  status = told.0;
  out = out ∙ w.out;
  err = told.1 ∙ ap (λ (o : Option (List ℕ)). grown o (line_in paths status)) w.err ∙ grown_twice old.err (err_bytes s.last.log) (line_in paths status);
  input = input ∙ w.input;
})
whole_answers paths s status answered old middle new after w (inr front) out input =
    let bytes : List ℕ = err_bytes s.last.log in
    let text : List ℕ = line_in paths status in
    let more : List ℕ = take front.line (line_of answered [] []) in
    let P : Option (List ℕ) → Type 0 = λ o. GrewByFront old.out o (out_bytes s.last.log) in
    inr (record {
      failed = front.failed;
      out = subst P (sym (out ∙ w.out)) (all_front old.out (out_bytes s.last.log));
      part = length bytes + front.part;
      part_fits = omega (arith, front.part_fits, length-append bytes text);
      line = front.line;
      line_fits = front.line_fits;
      err = front.is ∙ ap (λ (o : Option (List ℕ)). grown o (take front.part text ++ more)) w.err ∙ grown_twice old.err bytes (take front.part text ++ more)
          ∙ ap (grown old.err) (sym (append_assoc bytes (take front.part text) more) ∙ ap (λ (b : List ℕ). b ++ more) (sym (take-append-add bytes text front.part)));
      taken = s.last.taken;
      taken_fits = omega arith;
      input = input ∙ w.input;
    })

part_answers : (paths : List (List ℕ)) (s : Stand Config) (status : Status) (failure : Failure) (answered : Status) (old middle new : Told) → Part s old middle → answered ≡ status_of failure →
    GrewByFront middle.err new.err (line_of (status_of failure) [] []) → new.out ≡ middle.out → new.input ≡ middle.input → Answers (given_by paths s status) answered old new
part_answers paths s status failure answered old middle new p e front out input =
    let bytes : List ℕ = err_bytes s.last.log in
    let text : List ℕ = line_in paths status in
    let more : List ℕ = take front.0 (line_of (status_of failure) [] []) in
    let n : ℕ = p.err.0 in
    let P : Option (List ℕ) → Type 0 = λ o. GrewByFront old.out o (out_bytes s.last.log) in
    let Q : Status → Type 0 = λ a. Answers (given_by paths s status) a old new in
    let front_of : take n (bytes ++ text) ≡ take n bytes = take-append-le n bytes text p.err.1 in
    subst Q (sym e) (inr (record {
      failed = is_failure failure;
      out = subst P (sym out) p.out;
      part = n;
      part_fits = omega (arith, p.err.1, length-append bytes text);
      line = front.0;
      line_fits = front.1;
      err = front.2 ∙ ap (λ (o : Option (List ℕ)). grown o more) p.err.2 ∙ grown_twice old.err (take n bytes) more ∙ ap (λ (b : List ℕ). grown old.err (b ++ more)) (sym front_of);
      taken = p.taken;
      taken_fits = p.at_most;
      input = input ∙ p.input;
    }))

-- every end of a machine run has its status
end_status : (n : ℕ) (e : End) → IsSound e → (status : Status) × IsStatusOf n e status
end_status n (exited code) h = (Exited code, refl)
end_status n (checked check at) h = (Stopped check at, refl)
end_status n (trapped pc) h = (Trapped pc, refl)
end_status n going h = (StepsOut n, refl)
end_status n (strayed at) h = absurd h

module _ (n : ℕ) (image : Image) (m : Loaded) (is_loaded : m ≡ loaded_from (loaded image)) where
  -- the definition's run
  abbrev runs : List ℕ → Stand Config
  runs given = ran m.sites m.calls n (begun m.state given)

  same_run : (given : List ℕ) → runs given ≡ ran image.lists.checks image.lists.calls n (started (loaded image) given)
  same_run given = ap (λ (l : Loaded). ran l.sites l.calls n (begun l.state given)) is_loaded

  gives : (given : List ℕ) (status : Status) → IsStatusOf n (runs given).end status → RunOf image n given (given_by image.lists.paths (runs given) status)
  gives given status h =
      let e : runs given ≡ ran image.lists.checks image.lists.calls n (started (loaded image) given) = same_run given in
      let P : Stand Config → Type 0 = λ s. IsStatusOf n s.end status in
      record {
        status = subst P e h;
        out = ap (λ (s : Stand Config). out_bytes s.last.log) e;
        err = ap (λ (s : Stand Config). err_bytes s.last.log ++ line_in image.lists.paths status) e;
        taken = ap (λ (s : Stand Config). s.last.taken) e;
      }

-- what is given on the run's own input is given on the told one
on_told : (n : ℕ) (image : Image) (answered : Status) (old new : Told) (given : List ℕ) → IfSome old.input (λ r. r ≡ given) → ((g : Given) × RunOf image n given g × Answers g answered old new) →
    ImageAnswers image n answered old new
on_told n image answered old new given h x = inr (given, h, x)

-- a run that was carried out
pub ended_answers : (n : ℕ) (image : Image) (m : Loaded) (old middle new : Told) (after : State) (given : List ℕ) (end : End) (status answered : Status) → m ≡ loaded_from (loaded image) →
    IfSome old.input (λ r. r ≡ given) → Ends end (ran m.sites m.calls n (begun m.state given)) old middle after → IsStatusOf n end status →
    Tells status (line_in image.lists.paths status) answered middle.err new.err → new.out ≡ middle.out → new.input ≡ middle.input → ImageAnswers image n answered old new
ended_answers n image m old middle new after given end status answered is_loaded h e is told out input =
    let s : Stand Config = ran m.sites m.calls n (begun m.state given) in
    let paths : List (List ℕ) = image.lists.paths in
    let P : End → Type 0 = λ x. IsStatusOf n x status in
    on_told n image answered old new given h
    (given_by paths s status, gives n image m is_loaded given status (subst P (sym e.end) is), whole_answers paths s status answered old middle new after e.whole told out input)

-- the same, where the line is told to be this one
pub ended_line_answers : (n : ℕ) (image : Image) (m : Loaded) (old middle new : Told) (after : State) (given : List ℕ) (end : End) (status answered : Status) (line : List ℕ) → line ≡ line_in image.lists.paths status → m ≡ loaded_from (loaded image) →
    IfSome old.input (λ r. r ≡ given) → Ends end (ran m.sites m.calls n (begun m.state given)) old middle after → IsStatusOf n end status →
    Tells status line answered middle.err new.err → new.out ≡ middle.out → new.input ≡ middle.input → ImageAnswers image n answered old new
ended_line_answers n image m old middle new after given end status answered line same is_loaded h e is told out input =
    ended_answers n image m old middle new after given end status answered is_loaded h e is (subst (λ (l : List ℕ). Tells status l answered middle.err new.err) same told) out input

-- a run that was broken off
pub broken_answers : (n : ℕ) (image : Image) (m : Loaded) (old middle new : Told) (given : List ℕ) (failure : Failure) (answered : Status) → m ≡ loaded_from (loaded image) →
    IfSome old.input (λ r. r ≡ given) → Part (ran m.sites m.calls n (begun m.state given)) old middle → answered ≡ status_of failure →
    GrewByFront middle.err new.err (line_of (status_of failure) [] []) → new.out ≡ middle.out → new.input ≡ middle.input → ImageAnswers image n answered old new
broken_answers n image m old middle new given failure answered is_loaded h p e front out input =
    let s : Stand Config = ran m.sites m.calls n (begun m.state given) in
    let paths : List (List ℕ) = image.lists.paths in
    let status = end_status n s.end (ran_sound m.sites m.calls n (begun m.state given)) in
    on_told n image answered old new given h
    (given_by paths s status.0, gives n image m is_loaded given status.0 status.1, part_answers paths s status.0 failure answered old middle new p e front out input)

-- the path that a stop tells is the listed one
pub stopped_line : (paths listed : List (List ℕ)) (check : Check) (at : Place) (path : List ℕ) → paths ≡ listed → path ≡ get_or paths at.file.number [] → line_of (Stopped check at) path [] ≡ line_in listed (Stopped check at)
stopped_line paths listed check at path same is =
    ap (λ (p : List ℕ). line_of (Stopped check at) p []) (is ∙ ap (λ (l : List (List ℕ)). get_or l at.file.number []) same)

-- ---- causes

-- the cause of a status is that of the answer which tells it
pub told_cause : (c : Causes) (n : ℕ) (rose : Type 0) (status answered : Status) → CauseBy c n status → TellsBy status rose answered → (rose → c.output) → CauseBy c n answered
told_cause c n rose status answered h (inl e) f = subst (CauseBy c n) (sym e) h
told_cause c n rose status answered h (inr (inl p)) f = subst (CauseBy c n) (sym p.0) (f p.1)
told_cause c n rose status answered h (inr (inr e)) f = subst (CauseBy c n) (sym e) tt

-- the causes of one kind are some of another
pub record Implies (a b : Causes) : Type 0 where
  pub done : a.done → b.done
  pub refused : (fault : Fault) → a.refused fault → b.refused fault
  pub runs : a.runs → b.runs
  pub breaks : (broken : Broken) → a.breaks broken → b.breaks broken
  pub folder : a.folder → b.folder
  pub input : a.input → b.input
  pub output : a.output → b.output

pub cause_weaker : (a b : Causes) (n : ℕ) (status : Status) → Implies a b → CauseBy a n status → CauseBy b n status
cause_weaker a b n Done i h = i.done h
cause_weaker a b n (Exited code) i h = i.runs h
cause_weaker a b n (Refused fault) i h = i.refused fault h
cause_weaker a b n (Usage k) i h = h
cause_weaker a b n (Stopped check at) i h = i.runs h
cause_weaker a b n (StepsOut steps) i h = (i.runs h.0, h.1)
cause_weaker a b n (Trapped pc) i h = i.runs h
cause_weaker a b n (Strayed at) i h = h
cause_weaker a b n (BadImage rule offset) i h = i.breaks (record { rule = rule; offset = offset }) h
cause_weaker a b n FolderFault i h = i.folder h
cause_weaker a b n ReadFault i h = i.input h
cause_weaker a b n WriteFault i h = i.output h
cause_weaker a b n Memory i h = tt
cause_weaker a b n (TurnsOut turns) i h = h

-- memory ran out before a run
pub nothing : (answered : Status) (old new : Told) → answered ≡ Memory → GrewByFront old.err new.err (line_of Memory [] []) → new.out ≡ old.out → new.input ≡ old.input → GaveNothing answered old new
nothing answered old new e front out input = record { status = e; out = out; err = front; input = input }
