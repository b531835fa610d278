-- What is answered for a package, for a file and for words, from what the parts of a command tell.
use Rattle.std.proofs.Common.{◌≡◌, ◌≢◌, ◌⊎◌, inl, inr, ℕ, ◌+◌, ◌<◌, ◌≤◌, ◌^◌, true, false, List, [], ◌∷◌, ◌++◌, length, take, drop, arith, ap, ◌∙◌, sym, subst, refl, lit≤, take-take, take-append-drop, append_assoc, codes}
use Rattle.std.specs.Prelude.{Option, Some, None, IfSome, Bool, vec_len, if◌then◌else◌}
use Rattle.std.specs.Str.{bytes_eq}
use Rattle.std.proofs.Math.Dec.{leb}
use Rattle.std.proofs.lemmas.Bool.{le-leb}
use Rattle.std.proofs.lemmas.Bool.Decides.{leb_tells}
use Rattle.std.proofs.lemmas.List.{length-take, take_all}
use Rattle.std.proofs.lemmas.Slice.Eq.{bytes_eq-Decides}
use Rattle.std.specs.declared.vec.Vec.{Vec}
use Rattle.std.specs.declared.alloc.Global.{Global}
use Rattle.odc_text.specs.declared.code.Fault.{Fault}
use Rattle.odc_io.specs.Streams.{GrewByFront}
use Rattle.odc_io.specs.declared.traits.FolderError.{FolderError}
use Rattle.odc_io.specs.declared.traits.FolderError.TheVariants.{Failed as CallFailed, Memory as CallMemory}
use Rattle.odc_io.specs.Trees.{ReadsFront, SameBut, with_file}
use Rattle.odc_io.specs.Trees.{Tree as Files}
use Rattle.rv_table.specs.Run.{Range}
use Rattle.rv_sites.specs.Sections.{Listing}
use Rattle.rv_machine.specs.Outside.{Told}
use Rattle.elf_file.specs.Rules.{Image, Denotes}
use Rattle.elf_file.specs.Rules.{refused as refused_file}
use Rattle.elf_file.specs.declared.read.BadImage.{BadImage as Broken}
use Rattle.odc_typed.specs.Tree.{Whole as Program}
use Rattle.odc_small.specs.Grammar.{Tree}
use Rattle.odc_small.specs.Typing.{typed}
use Rattle.odc_build.specs.Kept.{IsBuilt}
use Rattle.odc_tool.specs.Verdict.{Verdict, taken, refused}
use Rattle.odc_tool.specs.Gather.{IfRefused, IsTypedOf}
use Rattle.odc_tool.specs.Errors.{gather_error}
use Rattle.odc_tool.specs.declared.folder.GatherError.{GatherError}
use Rattle.odc_tool.specs.declared.folder.GatherError.TheVariants.{FolderFault as GatherFault, Refused as GatherRefused, Memory as OutOfMemory}
use Rattle.odc_tool.specs.Words.{Verb, running, executing, word_of, Command, start, build, words_of, IsCommand, Begins, BadWord, word_at, steps_words, steps_number, IsStart, Asked, run, exec, make, Ask, asked_by}
use Rattle.odc_tool.specs.declared.words.Command.{Command as Read}
use Rattle.odc_tool.specs.declared.status.Status.{Status}
use Rattle.odc_tool.specs.declared.status.Status.TheVariants.{Done, Exited, Refused, Usage, Stopped, StepsOut, Trapped, Strayed, BadImage, FolderFault, ReadFault, WriteFault, Memory, TurnsOut}
use Rattle.odc_tool.specs.declared.run.Failure.TheVariants.{NoMemory}
use Rattle.odc_tool.specs.Status.{line_of}
use Rattle.odc_tool.specs.Telling.{Tells, TellsBy, TellsError, ErrorTellsBy}
use Rattle.odc_tool.specs.Headline.{bad_words, refusal, bad_image, folder_fault, Answers, Failed, ImageAnswers, Ran, Made, RunAnswers, BuildAnswers, ExecAnswers, file_limit, no_file, broken, IsImage, paths_of, Causes, CauseBy, IsPackage, run_causes, build_causes, exec_causes, AskedAnswers, AskedCause, HasCause}
use Rattle.odc_tool.specs.Loading.{BytesAnswer, FileAnswer, ProgramAnswers, WriteAnswers, program_causes, bytes_causes, file_causes, write_causes}
use Rattle.odc_tool.proofs.OneVerdict.{one_verdict}
use Rattle.odc_tool.proofs.WordLemmas.{verb_no_build}
use Rattle.odc_tool.proofs.Answering.{alone_answers, failed_answers, nothing, told_cause, Implies, cause_weaker}

in_folder : (o : Option Files) (P Q : Files → Type 0) → ((files : Files) → P files → Q files) → IfSome o P → IfSome o Q
in_folder None P Q f h = tt
in_folder (Some files) P Q f h = f files h

-- ---- the bytes of a file

abbrev seen : List Range → ℕ → Listing → Image
seen ranges entry lists = record { ranges = ranges; entry = entry; lists = lists }

-- bytes denote one image
one_image : (bytes : List ℕ) (a b : Image) → Denotes bytes a → Denotes bytes b → a ≡ b
one_image bytes a b p q =
    ap (λ (r : List Range). seen r a.entry a.lists) (p.all_ranges ∙ sym q.all_ranges)
    ∙ ap (λ (n : ℕ). seen b.ranges n a.lists) (p.first ∙ sym q.first)
    ∙ ap (λ (l : Listing). seen b.ranges b.entry l) (p.all_lists ∙ sym q.all_lists)

broken_same : (a b : Broken) → Some a ≡ Some b → a ≡ b
broken_same a b e = cc

-- bytes that break a rule
pub bytes_refused : (bytes : List ℕ) (n : ℕ) (b : Broken) (answered : Status) (old new : Told) → refused_file bytes ≡ Some b →
    Tells (BadImage b.rule b.offset) (line_of (BadImage b.rule b.offset) [] []) answered old.err new.err → new.out ≡ old.out → new.input ≡ old.input → BytesAnswer bytes n answered old new
bytes_refused bytes n b answered old new e told out input =
    let alone : Answers (bad_image b) answered old new = alone_answers (BadImage b.rule b.offset) answered [] [] old new told out input in
    record {
      refused_where = λ c f. subst (λ (x : Broken). Answers (bad_image x) answered old new) (broken_same b c (sym e ∙ f)) alone;
      runs_where = λ image f denotes. (let apart : Some b ≡ None = sym e ∙ f in cc);
    }

-- bytes whose image is run
pub bytes_run : (bytes : List ℕ) (n : ℕ) (image : Image) (answered : Status) (old new : Told) → refused_file bytes ≡ None → Denotes bytes image → ImageAnswers image n answered old new → BytesAnswer bytes n answered old new
bytes_run bytes n image answered old new e denotes answers = record {
  refused_where = λ b f. (let apart : Some b ≡ None = sym f ∙ e in cc);
  runs_where = λ other f d. subst (λ (i : Image). ImageAnswers i n answered old new) (one_image bytes image other denotes d) answers;
}

pub bytes_cause : (bytes : List ℕ) (n : ℕ) (ir or : Type 0) (status : Status) → refused_file bytes ≡ None → CauseBy (program_causes ir or) n status → CauseBy (bytes_causes bytes ir or) n status
bytes_cause bytes n ir or status e c =
    cause_weaker (program_causes ir or) (bytes_causes bytes ir or) n status
    (record { done = λ x. x; refused = λ fault x. x; runs = λ x. e; breaks = λ b x. absurd x; folder = λ x. x; input = λ x. x; output = λ x. x }) c

pub program_cause : (bytes : List ℕ) (n : ℕ) (ir or : Type 0) (status : Status) → refused_file bytes ≡ None → CauseBy (bytes_causes bytes ir or) n status → CauseBy (program_causes ir or) n status
program_cause bytes n ir or status e c =
    cause_weaker (bytes_causes bytes ir or) (program_causes ir or) n status
    (record { done = λ x. x; refused = λ fault x. x; runs = λ x. tt; breaks = λ b x. (let apart : Some b ≡ None = sym x ∙ e in cc); folder = λ x. x; input = λ x. x; output = λ x. x }) c

-- ---- programs

-- the file of a program was built and run
pub program_ran : (p : Program) (files : List (List ℕ)) (n : ℕ) (bytes slice : List ℕ) (answered : Status) (image : List ℕ) (old new : Told) → files ≡ paths_of → IsBuilt p files bytes → slice ≡ bytes → BytesAnswer slice n answered old new →
    ProgramAnswers p n answered image bytes old new
program_ran p files n bytes slice answered image old new e built same answers =
    let b : IsBuilt p paths_of bytes = subst (λ (f : List (List ℕ)). IsBuilt p f bytes) e built in
    let a : BytesAnswer bytes n answered old new = subst (λ (x : List ℕ). BytesAnswer x n answered old new) same answers in
    inr (record { built = b; answers = a.runs_where b.image b.accepted b.denotes })

pub ran_cause : (p : Program) (files : List (List ℕ)) (n : ℕ) (bytes slice : List ℕ) (ir or : Type 0) (status : Status) → IsBuilt p files bytes → slice ≡ bytes → CauseBy (bytes_causes slice ir or) n status → CauseBy (program_causes ir or) n status
ran_cause p files n bytes slice ir or status built same c = program_cause slice n ir or status (ap refused_file same ∙ built.accepted) c

-- ---- packages

tree_same : {t u : Tree} → taken t ≡ taken u → t ≡ u
tree_same e = cc

module _ (o : Option Files) (dir : List ℕ) where
  abbrev IsTaken : Tree → Type 0
  IsTaken tree = IfSome o (λ files. Verdict files dir (taken tree))

  abbrev IsFault : Fault → List ℕ → Type 0
  IsFault fault path = IfSome o (λ files. Verdict files dir (refused fault path))

  -- a package that breaks no rule is run
  taken_runs : (n : ℕ) (rose : Type 0) (tree : Tree) (answered : Status) (image image' : List ℕ) (old new : Told) → IsTaken tree → ProgramAnswers (typed tree) n answered image image' old new →
      IfSome o (λ files. RunAnswers files dir n rose answered image image' old new)
  taken_runs n rose tree answered image image' old new v ran_so =
      in_folder o (λ files. Verdict files dir (taken tree)) (λ files. RunAnswers files dir n rose answered image image' old new) (λ files is. record {
        refused_where = λ fault path other. (let apart : taken tree ≡ refused fault path = one_verdict files dir (taken tree) (refused fault path) is other in cc);
        runs_where = λ tree' other.
            (let same : tree ≡ tree' = tree_same (one_verdict files dir (taken tree) (taken tree') is other) in
            with_memory tree' (subst (λ t. ProgramAnswers (typed t) n answered image image' old new) same ran_so));
      }) v
    where
      with_memory : (t : Tree) → ProgramAnswers (typed t) n answered image image' old new → ((image' ≡ image) × Failed rose answered old new) ⊎ Ran (typed t) n image' answered old new
      with_memory t (inl (e, g)) = inl (e, inr g)
      with_memory t (inr r) = inr r

  -- its file is written
  taken_builds : (file : List ℕ) (rose : Type 0) (tree : Tree) (answered : Status) (tree' : Option Files) (image image' : List ℕ) (old new : Told) → IsTaken tree →
      WriteAnswers (typed tree) file rose answered o tree' image image' old new → IfSome o (λ files. BuildAnswers files dir file rose answered tree' image image' old new)
  taken_builds file rose tree answered tree' image image' old new v wrote_so = by o v wrote_so
    where
      by : (u : Option Files) → IfSome u (λ files. Verdict files dir (taken tree)) → WriteAnswers (typed tree) file rose answered u tree' image image' old new →
          IfSome u (λ files. BuildAnswers files dir file rose answered tree' image image' old new)
      by None is w = tt
      by (Some files) is w = record {
        refused_where = λ fault path other. (let apart : taken tree ≡ refused fault path = one_verdict files dir (taken tree) (refused fault path) is other in cc);
        builds_where = λ t other.
            (let same : tree ≡ t = tree_same (one_verdict files dir (taken tree) (taken t) is other) in
            subst (λ x. WriteAnswers (typed x) file rose answered (Some files) tree' image image' old new) same w);
      }

  abbrev OfFault : (rose : Type 0) → Fault → List ℕ → Status → Told → Told → Type 0
  OfFault rose fault path answered old new = (rose × Answers folder_fault answered old new) ⊎ Answers (refusal fault path) answered old new

  -- the verdict on a package is one
  same_fault : (files : Files) (rose : Type 0) (f g : Fault) (p q : List ℕ) (answered : Status) (old new : Told) → Verdict files dir (refused f p) → Verdict files dir (refused g q) →
      Answers (refusal f p) answered old new → Answers (refusal g q) answered old new
  same_fault files rose f g p q answered old new a b alone =
      let same : refused f p ≡ refused g q = one_verdict files dir (refused f p) (refused g q) a b in
      let first : f ≡ g = cc in
      let second : p ≡ q = cc in
      subst (λ (x : Fault). Answers (refusal x q) answered old new) first (subst (λ (x : List ℕ). Answers (refusal f x) answered old new) second alone)

  -- a folder that gives no program
  pub error_runs : (n : ℕ) (rose : Type 0) (error : GatherError) (answered : Status) (image : List ℕ) (old new : Told) → IfSome o (λ files. IfRefused error (Verdict files dir)) →
      (error ≡ GatherFault → rose) → TellsError error answered old.err new.err → new.out ≡ old.out → new.input ≡ old.input → IfSome o (λ files. RunAnswers files dir n rose answered image image old new)
  error_runs n rose (GatherRefused fault path) answered image old new v f told out input =
      let alone : Answers (refusal fault path) answered old new = alone_answers (Refused fault) answered path [] old new told out input in
      in_folder o (λ files. Verdict files dir (refused fault path)) (λ files. RunAnswers files dir n rose answered image image old new) (λ files is. record {
        refused_where = λ g q other. (refl, inr (same_fault files rose fault g path q answered old new is other alone));
        runs_where = λ tree other. (let apart : refused fault path ≡ taken tree = one_verdict files dir (refused fault path) (taken tree) is other in cc);
      }) v
  error_runs n rose GatherFault answered image old new v f told out input =
      let alone : Answers folder_fault answered old new = alone_answers FolderFault answered [] [] old new told out input in
      in_folder o _ (λ files. RunAnswers files dir n rose answered image image old new)
      (λ files is. record { refused_where = λ g q other. (refl, inl (f refl, alone)); runs_where = λ tree other. inl (refl, inl (f refl, alone)) }) v
  error_runs n rose OutOfMemory answered image old new v f told out input =
      in_folder o _ (λ files. RunAnswers files dir n rose answered image image old new)
      (λ files is. record {
        refused_where = λ g q other. (refl, inr (failed_answers (refusal g q) NoMemory answered old new told.0 told.1 out input));
        runs_where = λ tree other. inl (refl, inr (nothing answered old new told.0 told.1 out input));
      }) v

  -- the same of the program of a folder
  pub gathered_runs : (n : ℕ) (rose : Type 0) (p : Program) (answered : Status) (image image' : List ℕ) (old new : Told) → IsTypedOf IsTaken p → ProgramAnswers p n answered image image' old new →
      IfSome o (λ files. RunAnswers files dir n rose answered image image' old new)
  gathered_runs n rose p answered image image' old new t ran_so =
      taken_runs n rose t.tree answered image image' old new t.holds (subst (λ (q : Program). ProgramAnswers q n answered image image' old new) t.same ran_so)

  pub gathered_builds : (file : List ℕ) (rose : Type 0) (p : Program) (answered : Status) (tree' : Option Files) (image image' : List ℕ) (old new : Told) → IsTypedOf IsTaken p →
      WriteAnswers p file rose answered o tree' image image' old new → IfSome o (λ files. BuildAnswers files dir file rose answered tree' image image' old new)
  gathered_builds file rose p answered tree' image image' old new t wrote_so =
      taken_builds file rose t.tree answered tree' image image' old new t.holds (subst (λ (q : Program). WriteAnswers q file rose answered o tree' image image' old new) t.same wrote_so)

  is_package : (tree : Tree) → IsTaken tree → IsPackage dir o
  is_package tree v = in_folder o (λ files. Verdict files dir (taken tree)) _ (λ files is. (tree, is)) v

  pub taken_run_cause : (n : ℕ) (tree : Tree) (fr ir or : Type 0) (status : Status) → IsTaken tree → CauseBy (program_causes ir or) n status → CauseBy (run_causes dir o fr ir or) n status
  taken_run_cause n tree fr ir or status v c =
      cause_weaker (program_causes ir or) (run_causes dir o fr ir or) n status
      (record { done = λ x. x; refused = λ fault x. absurd x; runs = λ x. is_package tree v; breaks = λ b x. x; folder = λ x. absurd x; input = λ x. x; output = λ x. x }) c

  pub taken_build_cause : (tree : Tree) (fr fr' or : Type 0) (status : Status) → IsTaken tree → (fr → fr') → CauseBy (write_causes fr or) 0 status → CauseBy (build_causes dir o fr' or) 0 status
  taken_build_cause tree fr fr' or status v f c =
      cause_weaker (write_causes fr or) (build_causes dir o fr' or) 0 status
      (record { done = λ x. is_package tree v; refused = λ fault x. absurd x; runs = λ x. x; breaks = λ b x. x; folder = f; input = λ x. x; output = λ x. x }) c

  pub error_cause : (c : Causes) (n : ℕ) (rose : Type 0) (error : GatherError) (answered : Status) → IfSome o (λ files. IfRefused error (Verdict files dir)) →
      ((fault : Fault) → IfSome o (λ f. (path : List ℕ) × Verdict f dir (refused fault path)) → c.refused fault) → (error ≡ GatherFault → c.folder) → ErrorTellsBy error rose answered → (rose → c.output) → CauseBy c n answered
  error_cause c n rose (GatherRefused fault path) answered v r f told g =
      told_cause c n rose (Refused fault) answered (r fault (in_folder o (λ files. Verdict files dir (refused fault path)) _ (λ files is. (path, is)) v)) told g
  error_cause c n rose GatherFault answered v r f told g = told_cause c n rose FolderFault answered (f refl) told g
  error_cause c n rose OutOfMemory answered v r f told g = subst (CauseBy c n) (sym told) tt

pub error_builds : (o : Option Files) (dir file : List ℕ) (rose : Type 0) (error : GatherError) (answered : Status) (tree' : Option Files) (image : List ℕ) (old new : Told) → tree' ≡ o →
    IfSome o (λ files. IfRefused error (Verdict files dir)) → (error ≡ GatherFault → rose) → TellsError error answered old.err new.err → new.out ≡ old.out → new.input ≡ old.input →
    IfSome o (λ files. BuildAnswers files dir file rose answered tree' image image old new)
error_builds None dir file rose error answered tree' image old new same v f told out input = tt
error_builds (Some files) dir file rose (GatherRefused fault path) answered tree' image old new same v f told out input =
    let alone : Answers (refusal fault path) answered old new = alone_answers (Refused fault) answered path [] old new told out input in
    record {
      refused_where = λ g q other. (refl, (same, inr (same_fault (Some files) dir files rose fault g path q answered old new v other alone)));
      builds_where = λ tree other. (let apart : refused fault path ≡ taken tree = one_verdict files dir (refused fault path) (taken tree) v other in cc);
    }
error_builds (Some files) dir file rose GatherFault answered tree' image old new same v f told out input =
    let alone : Answers folder_fault answered old new = alone_answers FolderFault answered [] [] old new told out input in
    record { refused_where = λ g q other. (refl, (same, inl (f refl, alone))); builds_where = λ tree other. inl (refl, inl (f refl, alone)) }
error_builds (Some files) dir file rose OutOfMemory answered tree' image old new same v f told out input =
    record {
      refused_where = λ g q other. (refl, (same, inr (failed_answers (refusal g q) NoMemory answered old new told.0 told.1 out input)));
      builds_where = λ tree other. inl (refl, inr (nothing answered old new told.0 told.1 out input));
    }

-- ---- a folder that fails

-- a failed call, or memory that ran out in one
failed_call : (error : FolderError) (rose : Type 0) (answered : Status) (old new : Told) → (error ≡ CallFailed → rose) → TellsError (gather_error error) answered old.err new.err → new.out ≡ old.out → new.input ≡ old.input →
    Failed rose answered old new
failed_call CallFailed rose answered old new f told out input = inl (f refl, alone_answers FolderFault answered [] [] old new told out input)
failed_call CallMemory rose answered old new f told out input = inr (nothing answered old new told.0 told.1 out input)

pub folder_failed : (error : FolderError) (from : GatherError) (rose : Type 0) (answered : Status) (old new : Told) → from ≡ gather_error error → (error ≡ CallFailed → rose) → TellsError from answered old.err new.err →
    new.out ≡ old.out → new.input ≡ old.input → Failed rose answered old new
folder_failed error from rose answered old new e f told out input =
    failed_call error rose answered old new f (subst (λ (x : GatherError). TellsError x answered old.err new.err) e told) out input

call_cause : (c : Causes) (n : ℕ) (rose : Type 0) (error : FolderError) (answered : Status) → (error ≡ CallFailed → c.folder) → ErrorTellsBy (gather_error error) rose answered → (rose → c.output) → CauseBy c n answered
call_cause c n rose CallFailed answered f told g = told_cause c n rose FolderFault answered (f refl) told g
call_cause c n rose CallMemory answered f told g = subst (CauseBy c n) (sym told) tt

pub folder_cause : (c : Causes) (n : ℕ) (rose : Type 0) (error : FolderError) (from : GatherError) (answered : Status) → from ≡ gather_error error → (error ≡ CallFailed → c.folder) → ErrorTellsBy from rose answered → (rose → c.output) →
    CauseBy c n answered
folder_cause c n rose error from answered e f told g = call_cause c n rose error answered f (subst (λ (x : GatherError). ErrorTellsBy x rose answered) e told) g

-- ---- a file that is written

pub program_made : (p : Program) (files : List (List ℕ)) (file : List ℕ) (rose : Type 0) (tree tree' : Option Files) (image bytes : List ℕ) (old : Told) → files ≡ paths_of → IsBuilt p files bytes → tree' ≡ with_file tree file bytes →
    WriteAnswers p file rose Done tree tree' image bytes old old
program_made p files file rose tree tree' image bytes old e built written =
    inr (record { done = refl; built = subst (λ (f : List (List ℕ)). IsBuilt p f bytes) e built; written = written; quiet = refl })

pub same_but_nothing : (path : List ℕ) (o : Option Files) → SameBut path o o
same_but_nothing path None = refl
same_but_nothing path (Some files) = λ p off. refl

same_but_file : (path bytes : List ℕ) (files : Files) (p : List ℕ) → p ≢ path → (if bytes_eq p path then Some bytes else files p) ≡ files p
same_but_file path bytes files p off = by (bytes_eq p path) refl
  where
    by : (t : Bool) → bytes_eq p path ≡ t → (if bytes_eq p path then Some bytes else files p) ≡ files p
    by true e = absurd (off ((bytes_eq-Decides p path).0 e))
    by false e = rw e refl

pub same_but_written : (path bytes : List ℕ) (o o' : Option Files) → o' ≡ with_file o path bytes → SameBut path o o'
same_but_written path bytes None o' e = e
same_but_written path bytes (Some files) o' e =
    let P : Option Files → Type 0 = λ x. SameBut path (Some files) x in
    subst P (sym e) (λ p off. same_but_file path bytes files p off)

pub same_but_later : (path : List ℕ) (o o' o'' : Option Files) → o' ≡ o → SameBut path o' o'' → SameBut path o o''
same_but_later path o o' o'' e h = subst (λ (x : Option Files). SameBut path x o'') e h

pub same_but_same : (path : List ℕ) (o o' : Option Files) → o' ≡ o → SameBut path o o'
same_but_same path o o' e = subst (λ (x : Option Files). SameBut path o x) (sym e) (same_but_nothing path o)

pub write_later : (p : Program) (file : List ℕ) (rose' rose : Type 0) (answered : Status) (o' o tree' : Option Files) (image image' : List ℕ) (old new : Told) → o' ≡ o → (rose' → rose) →
    WriteAnswers p file rose' answered o' tree' image image' old new → WriteAnswers p file rose answered o tree' image image' old new
write_later p file rose' rose answered o' o tree' image image' old new e f w = subst (λ (x : Option Files). WriteAnswers p file rose answered x tree' image image' old new) e (weaker w)
  where
    weaker : WriteAnswers p file rose' answered o' tree' image image' old new → WriteAnswers p file rose answered o' tree' image image' old new
    weaker (inl (same, inl (r, a))) = inl (same, inl (f r, a))
    weaker (inl (same, inr g)) = inl (same, inr g)
    weaker (inr m) = inr m

-- ---- a file that is read

pub broken_missing : (file : Option (List ℕ)) → ReadsFront file file_limit None → broken file ≡ Some no_file
broken_missing None h = refl
broken_missing (Some bytes) h = absurd h

limited : (bytes : List ℕ) → length bytes ≤ file_limit → broken (Some bytes) ≡ refused_file bytes
limited bytes h = rw (le-leb (length bytes) file_limit h) refl

unlimited : (bytes : List ℕ) → file_limit < length bytes → broken (Some bytes) ≡ Some no_file
unlimited bytes h = by (leb_tells (length bytes) file_limit)
  where
    by : ((leb (length bytes) file_limit ≡ true) × (length bytes ≤ file_limit)) ⊎ ((leb (length bytes) file_limit ≡ false) × (file_limit < length bytes)) → broken (Some bytes) ≡ Some no_file
    by (inl (e, le)) = absurd (omega (arith, h, le))
    by (inr (e, lt)) = rw e refl

pub broken_long : (file : Option (List ℕ)) (front : Vec ℕ Global) → ReadsFront file file_limit (Some front) → file_limit < length front.items → broken file ≡ Some no_file
broken_long None front h long = cc
broken_long (Some bytes) front h long = unlimited bytes (omega (arith, long, ap length h, length-take (file_limit + 1) bytes))

-- a file of which no more bytes were read
pub record IsRead (file : Option (List ℕ)) (bytes : List ℕ) : Type 0 where
  pub there : file ≡ Some bytes
  pub rules : broken file ≡ refused_file bytes

pub is_read : (file : Option (List ℕ)) (front : Vec ℕ Global) → ReadsFront file file_limit (Some front) → length front.items ≤ file_limit → IsRead file front.items
is_read None front h short = cc
is_read (Some bytes) front h short =
    let all : length bytes ≤ file_limit + 1 = omega (arith, short, ap length h, length-take (file_limit + 1) bytes) in
    let same : front.items ≡ bytes = h ∙ take_all (file_limit + 1) bytes all in
    record { there = ap (λ (b : List ℕ). Some b) (sym same); rules = limited bytes (omega (arith, short, ap length same)) ∙ ap refused_file (sym same) }

-- what a rule of the tool refuses
pub file_refused : (file : Option (List ℕ)) (n : ℕ) (answered : Status) (old new : Told) → broken file ≡ Some no_file →
    Tells (BadImage 0 0) (line_of (BadImage 0 0) [] []) answered old.err new.err → new.out ≡ old.out → new.input ≡ old.input → FileAnswer file n answered old new
file_refused file n answered old new e told out input =
    let alone : Answers (bad_image no_file) answered old new = alone_answers (BadImage 0 0) answered [] [] old new told out input in
    record {
      refused_where = λ b f. subst (λ (x : Broken). Answers (bad_image x) answered old new) (broken_same no_file b (sym e ∙ f)) alone;
      runs_where = λ image is. (let apart : Some no_file ≡ None = sym e ∙ is.accepted in cc);
    }

-- what is answered for its bytes is answered for the file
read_so : (file : Option (List ℕ)) (bytes : List ℕ) (n : ℕ) (answered : Status) (old new : Told) → IsRead file bytes → BytesAnswer bytes n answered old new → FileAnswer file n answered old new
read_so file bytes n answered old new r a = record {
  refused_where = λ b e. a.refused_where b (sym r.rules ∙ e);
  runs_where = λ image is.
      (let both : Some is.bytes ≡ Some bytes = sym is.there ∙ r.there in
      let same : is.bytes ≡ bytes = cc in
      a.runs_where image (sym r.rules ∙ is.accepted) (subst (λ (b : List ℕ). Denotes b image) same is.denotes));
}

pub file_read : (file : Option (List ℕ)) (bytes slice : List ℕ) (n : ℕ) (answered : Status) (old new : Told) → slice ≡ bytes → IsRead file bytes → BytesAnswer slice n answered old new → FileAnswer file n answered old new
file_read file bytes slice n answered old new e r a =
    read_so file slice n answered old new (subst (λ (b : List ℕ). IsRead file b) (sym e) r) a

pub file_cause : (file : Option (List ℕ)) (bytes slice : List ℕ) (n : ℕ) (ir or : Type 0) (status : Status) → slice ≡ bytes → IsRead file bytes → CauseBy (bytes_causes slice ir or) n status → CauseBy (file_causes file ir or) n status
file_cause file bytes slice n ir or status e r c =
    let rules : broken file ≡ refused_file slice = r.rules ∙ ap refused_file (sym e) in
    cause_weaker (bytes_causes slice ir or) (file_causes file ir or) n status
    (record { done = λ x. x; refused = λ fault x. x; runs = λ x. rules ∙ x; breaks = λ b x. rules ∙ x; folder = λ x. x; input = λ x. x; output = λ x. x }) c

pub file_refused_cause : (file : Option (List ℕ)) (n : ℕ) (ir or rose : Type 0) (answered : Status) → broken file ≡ Some no_file → TellsBy (BadImage 0 0) rose answered → (rose → or) → CauseBy (file_causes file ir or) n answered
file_refused_cause file n ir or rose answered e told f = told_cause (file_causes file ir or) n rose (BadImage 0 0) answered e told f

-- a folder that was read
pub exec_answers : (o : Option Files) (path : List ℕ) (content : Option (Vec ℕ Global)) (n : ℕ) (rose : Type 0) (answered : Status) (old new : Told) → IfSome o (λ t. ReadsFront (t path) file_limit content) →
    ((file : Option (List ℕ)) → ReadsFront file file_limit content → FileAnswer file n answered old new) → IfSome o (λ files. ExecAnswers (files path) n rose answered old new)
exec_answers o path content n rose answered old new read a =
    in_folder o (λ t. ReadsFront (t path) file_limit content) (λ files. ExecAnswers (files path) n rose answered old new) (λ files h. of_file files (a (files path) h)) read
  where
    of_file : (files : Files) → FileAnswer (files path) n answered old new → ExecAnswers (files path) n rose answered old new
    of_file files f = record { refused_where = λ b e. inr (f.refused_where b e); runs_where = λ image is. inr (f.runs_where image is) }

pub exec_failed : (o : Option Files) (path : List ℕ) (n : ℕ) (rose : Type 0) (answered : Status) (old new : Told) → Failed rose answered old new → IfSome o (λ files. ExecAnswers (files path) n rose answered old new)
exec_failed None path n rose answered old new f = tt
exec_failed (Some files) path n rose answered old new (inl f) = record { refused_where = λ b e. inl f; runs_where = λ image is. inl f }
exec_failed (Some files) path n rose answered old new (inr g) = record {
  refused_where = λ b e. inr (failed_answers (bad_image b) NoMemory answered old new g.status g.err g.out g.input);
  runs_where = λ image is. inr (inl g);
}

-- some file that reads so
some_file : (content : Option (Vec ℕ Global)) → IfSome content (λ v. vec_len v ≤ file_limit + 1) → (file : Option (List ℕ)) × ReadsFront file file_limit content
some_file None h = (None, refl)
some_file (Some v) h = (Some v.items, sym (take_all (file_limit + 1) v.items (omega (arith, h, v.ok))))

pub exec_cause : (o : Option Files) (path : List ℕ) (content : Option (Vec ℕ Global)) (n : ℕ) (fr ir or : Type 0) (status : Status) → IfSome o (λ t. ReadsFront (t path) file_limit content) →
    IfSome content (λ v. vec_len v ≤ file_limit + 1) → ((file : Option (List ℕ)) → ReadsFront file file_limit content → CauseBy (file_causes file ir or) n status) → CauseBy (exec_causes path o fr ir or) n status
exec_cause None path content n fr ir or status read within c =
    let f = some_file content within in
    cause_weaker (file_causes f.0 ir or) (exec_causes path None fr ir or) n status
    (record { done = λ x. x; refused = λ fault x. x; runs = λ x. tt; breaks = λ b x. tt; folder = λ x. absurd x; input = λ x. x; output = λ x. x }) (c f.0 f.1)
exec_cause (Some files) path content n fr ir or status read within c =
    cause_weaker (file_causes (files path) ir or) (exec_causes path (Some files) fr ir or) n status
    (record { done = λ x. x; refused = λ fault x. x; runs = λ x. x; breaks = λ b x. x; folder = λ x. absurd x; input = λ x. x; output = λ x. x }) (c (files path) read)

-- ---- the words

pub usage_cause : (words : List (List ℕ)) (o : Option Files) (fr ir or rose : Type 0) (i : ℕ) (answered : Status) → BadWord words i → TellsBy (Usage i) rose answered → (rose → or) → HasCause words o fr ir or answered
usage_cause words o fr ir or rose i answered bad (inl e) f = subst (HasCause words o fr ir or) (sym e) bad
usage_cause words o fr ir or rose i answered bad (inr (inl p)) f = subst (HasCause words o fr ir or) (sym p.0) (f p.1)
usage_cause words o fr ir or rose i answered bad (inr (inr e)) f = subst (HasCause words o fr ir or) (sym e) tt

no_usage : (asked : Asked) (o : Option Files) (fr ir or : Type 0) (i : ℕ) → AskedCause asked o fr ir or (Usage i) → ⊥
no_usage (run dir n) o fr ir or i c = c
no_usage (exec file n) o fr ir or i c = c
no_usage (make dir file) o fr ir or i c = c

a_write_fault : (asked : Asked) (o : Option Files) (fr ir or : Type 0) → AskedCause asked o fr ir or WriteFault → or
a_write_fault (run dir n) o fr ir or c = c
a_write_fault (exec file n) o fr ir or c = c
a_write_fault (make dir file) o fr ir or c = c

pub asked_cause : (words : List (List ℕ)) (asked : Asked) (o : Option Files) (fr ir or : Type 0) (status : Status) → Ask words asked → AskedCause asked o fr ir or status → HasCause words o fr ir or status
asked_cause words asked o fr ir or Done is c = (asked, is, c)
asked_cause words asked o fr ir or (Exited code) is c = (asked, is, c)
asked_cause words asked o fr ir or (Refused fault) is c = (asked, is, c)
asked_cause words asked o fr ir or (Usage i) is c = absurd (no_usage asked o fr ir or i c)
asked_cause words asked o fr ir or (Stopped check at) is c = (asked, is, c)
asked_cause words asked o fr ir or (StepsOut steps) is c = (asked, is, c)
asked_cause words asked o fr ir or (Trapped pc) is c = (asked, is, c)
asked_cause words asked o fr ir or (Strayed at) is c = (asked, is, c)
asked_cause words asked o fr ir or (BadImage rule offset) is c = (asked, is, c)
asked_cause words asked o fr ir or FolderFault is c = (asked, is, c)
asked_cause words asked o fr ir or ReadFault is c = (asked, is, c)
asked_cause words asked o fr ir or WriteFault is c = a_write_fault asked o fr ir or c
asked_cause words asked o fr ir or Memory is c = tt
asked_cause words asked o fr ir or (TurnsOut turns) is c = (asked, is, c)

pub build_cause_weaker : (dir : List ℕ) (o : Option Files) (fr or or' : Type 0) (status : Status) → (or → or') → CauseBy (build_causes dir o fr or) 0 status → CauseBy (build_causes dir o fr or') 0 status
build_cause_weaker dir o fr or or' status f c =
    cause_weaker (build_causes dir o fr or) (build_causes dir o fr or') 0 status
    (record { done = λ x. x; refused = λ fault x. x; runs = λ x. x; breaks = λ b x. x; folder = λ x. x; input = λ x. x; output = f }) c

-- words that ask for something are no bad ones
pub no_bad_word : (words : List (List ℕ)) (asked : Asked) (i : ℕ) → Ask words asked → BadWord words i → ⊥
no_bad_word words (run dir n) i (steps, are, is, e) bad = bad.none (start running dir steps) are (sym is)
no_bad_word words (exec file n) i (steps, are, is, e) bad = bad.none (start executing file steps) are (sym is)
no_bad_word words (make dir file) i is bad = bad.none (build dir file) tt (sym is)

-- words that a command begins with, and fewer of them
fewer_begin : (words : List (List ℕ)) (i j : ℕ) → i ≤ j → Begins (take j words) → Begins (take i words)
fewer_begin words i j less b =
    let parts : take i words ++ drop i (take j words) ≡ take j words =
    ap (λ (front : List (List ℕ)). front ++ drop i (take j words)) (sym (take-take i j words less)) ∙ take-append-drop i (take j words) in
    (b.0, b.1, drop i (take j words) ++ b.2, b.3 ∙ ap (λ (front : List (List ℕ)). front ++ b.2) (sym parts) ∙ append_assoc (take i words) (drop i (take j words)) b.2)

-- bad words have one first index
not_before : (words : List (List ℕ)) (i j : ℕ) → BadWord words i → BadWord words j → i < j → ⊥
not_before words i j a b less = a.bad (omega (arith, b.within)) (fewer_begin words (i + 1) j (omega arith) b.before)

one_bad_word : (words : List (List ℕ)) (i j : ℕ) → BadWord words i → BadWord words j → i ≡ j
one_bad_word words i j a b =
    let p : i < j → ⊥ = not_before words i j a b in
    let q : j < i → ⊥ = not_before words j i b a in
    omega (arith, p, q)

-- the line of bad words
pub bad_word_answers : (words : List (List ℕ)) (i j : ℕ) (answered : Status) (word : List ℕ) (old new : Told) → BadWord words i → BadWord words j → word ≡ word_at words i →
    Tells (Usage i) (line_of (Usage i) [] word) answered old.err new.err → new.out ≡ old.out → new.input ≡ old.input → Answers (bad_words words j) answered old new
bad_word_answers words i j answered word old new a b e told out input =
    let P : ℕ → Type 0 = λ k. Answers (bad_words words k) answered old new in
    let Q : List ℕ → Type 0 = λ w. Tells (Usage i) (line_of (Usage i) [] w) answered old.err new.err in
    subst P (one_bad_word words i j a b) (alone_answers (Usage i) answered [] (word_at words i) old new (subst Q e told) out input)

-- ---- words ask for one thing

steps_same : (s t : Option (List ℕ)) → steps_words s ≡ steps_words t → steps_number s ≡ steps_number t
steps_same None None e = refl
steps_same None (Some d) e = cc
steps_same (Some d) None e = cc
steps_same (Some c) (Some d) e = let same : c ≡ d = cc in ap (λ (x : List ℕ). steps_number (Some x)) same

start_same : (v : Verb) (words : List (List ℕ)) (a b : List ℕ) (n m : ℕ) → IsStart v words a n → IsStart v words b m → (a ≡ b) × (n ≡ m)
start_same v words a b n m (s, are, is, e) (t, are', is', f) =
    let both : word_of v ∷ a ∷ steps_words s ≡ word_of v ∷ b ∷ steps_words t = sym is ∙ is' in
    let whats : a ≡ b = cc in
    let ends : steps_words s ≡ steps_words t = cc in
    (whats, e ∙ steps_same s t ends ∙ sym f)

verbs_apart : (words : List (List ℕ)) (a b : List ℕ) (n m : ℕ) → IsStart running words a n → IsStart executing words b m → ⊥
verbs_apart words a b n m (s, are, is, e) (t, are', is', f) =
    let both : codes "run" ∷ a ∷ steps_words s ≡ codes "exec" ∷ b ∷ steps_words t = sym is ∙ is' in
    let first : codes "run" ≡ codes "exec" = cc in
    cc

no_build : (v : Verb) (words : List (List ℕ)) (a dir file : List ℕ) (n : ℕ) → IsStart v words a n → words ≡ words_of (build dir file) → ⊥
no_build v words a dir file n (s, are, is, e) f =
    let both : word_of v ∷ a ∷ steps_words s ≡ codes "build" ∷ dir ∷ file ∷ [] = sym is ∙ f in
    let first : word_of v ≡ codes "build" = cc in
    verb_no_build v first

pub one_asked : (words : List (List ℕ)) (a b : Asked) → Ask words a → Ask words b → a ≡ b
one_asked words (run dir n) (run dir' m) a b = let s = start_same running words dir dir' n m a b in ap (λ (d : List ℕ). run d n) s.0 ∙ ap (run dir') s.1
one_asked words (run dir n) (exec file m) a b = absurd (verbs_apart words dir file n m a b)
one_asked words (run dir n) (make d f) a b = absurd (no_build running words dir d f n a b)
one_asked words (exec file n) (run dir m) a b = absurd (verbs_apart words dir file m n b a)
one_asked words (exec file n) (exec file' m) a b = let s = start_same executing words file file' n m a b in ap (λ (d : List ℕ). exec d n) s.0 ∙ ap (exec file') s.1
one_asked words (exec file n) (make d f) a b = absurd (no_build executing words file d f n a b)
one_asked words (make d f) (run dir n) a b = absurd (no_build running words dir d f n b a)
one_asked words (make d f) (exec file n) a b = absurd (no_build executing words file d f n b a)
one_asked words (make d f) (make d' f') a b =
    let both : codes "build" ∷ d ∷ f ∷ [] ≡ codes "build" ∷ d' ∷ f' ∷ [] = sym a ∙ b in
    let dirs : d ≡ d' = cc in
    let files : f ≡ f' = cc in
    ap (λ (x : List ℕ). make x f) dirs ∙ ap (make d') files

-- what is answered for what the words ask for, however it is named
pub asked_anew : (words : List (List ℕ)) (a b : Asked) (rose : Type 0) (answered : Status) (tree tree' : Option Files) (image image' : List ℕ) (old new : Told) → Ask words a → Ask words b →
    AskedAnswers a rose answered tree tree' image image' old new → AskedAnswers b rose answered tree tree' image image' old new
asked_anew words a b rose answered tree tree' image image' old new p q h = subst (λ (x : Asked). AskedAnswers x rose answered tree tree' image image' old new) (one_asked words a b p q) h

-- what is answered for a command that was read
pub command_answers : (command is : Read) (rose : Type 0) (answered : Status) (tree tree' : Option Files) (image image' : List ℕ) (old new : Told) → command ≡ is →
    AskedAnswers (asked_by is) rose answered tree tree' image image' old new → AskedAnswers (asked_by command) rose answered tree tree' image image' old new
command_answers command is rose answered tree tree' image image' old new e h = subst (λ (x : Read). AskedAnswers (asked_by x) rose answered tree tree' image image' old new) (sym e) h

pub command_cause : (command is : Read) (o : Option Files) (fr ir or : Type 0) (status : Status) → command ≡ is → AskedCause (asked_by is) o fr ir or status → AskedCause (asked_by command) o fr ir or status
command_cause command is o fr ir or status e h = subst (λ (x : Read). AskedCause (asked_by x) o fr ir or status) (sym e) h
