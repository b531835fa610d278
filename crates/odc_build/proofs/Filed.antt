-- What the image of a program lists, that its file can be written, and what that file promises.
use Rattle.std.proofs.Common.{◌≡◌, ℕ, zero, suc, ◌+◌, ◌*◌, ◌%◌, ◌<◌, ◌≤◌, ◌^◌, true, false, List, [], ◌∷◌, ◌++◌, length, map, refl, arith, ap, ◌∙◌, sym, subst, lit≤, length-append}
use Rattle.std.specs.Prelude.{None, All}
use Rattle.std.proofs.lemmas.List.{length-map}
use Rattle.std.proofs.lemmas.List.Elements.{All-nil, All-cons}
use Rattle.rv_table.specs.Run.{Site, Range, Image as MachineImage}
use Rattle.odc_typed.specs.Tree.{Proc, Whole}
use Rattle.odc_typed.specs.Well.{IsWell}
use Rattle.odc_mid.specs.declared.tree.MidStep.{MidStep}
use Rattle.odc_mid.specs.declared.tree.MidStep.TheVariants.{Const, Address, Move, Unary, Binary, Compare, Load, Store, Jump, Branch, Call, CallValue, Return, Check, System}
use Rattle.odc_mid.specs.Tree.{Proc as MidProc, Whole as MidWhole}
use Rattle.odc_context.specs.Code.{crossed, crossed_program}
use Rattle.odc_lower.specs.Plain.{PlainProc, plain_proc}
use Rattle.odc_lower.specs.Lowered.{lowered, IsLowered}
use Rattle.rv_emit.specs.Code.{text_start, start_size, start_code, entry_of, code_of, sites_of, calls_of, proc_size, procs_size, procs_before, procs_code, steps_size, step_size, step_calls, steps_calls, procs_calls, enter_size}
use Rattle.rv_emit.specs.Layout.{text_range, memory_ranges, image_of, IsShort}
use Rattle.rv_emit.specs.Encoded.{IsEncoded}
use Rattle.rv_emit.specs.Emitted.{IsEmitted}
use Rattle.rv_emit.specs.Blocks.{Block, Unlinked, block_of, blocks_of, bare_code, linked_code, all_sites, all_calls}
use Rattle.rv_emit.proofs.Placed.{block_long}
use Rattle.rv_emit.proofs.simulation.Begin.{length_encoded}
use Rattle.rv_emit.proofs.Blocks.{emitted}
use Rattle.rv_emit.proofs.Linking.{linked_is, told_is, called_is}
use Rattle.rv_sites.specs.Sections.{Listing, IsShortText, IsListing}
use Rattle.rv_sites.specs.Listed.{listed}
use Rattle.rv_sites.specs.declared.sites.ProcedureName.{ProcedureName}
use Rattle.rv_sites.specs.declared.image.Image.{Image as ToWrite}
use Rattle.rv_link.specs.Linked.{names_from, first_block, IsInFiles, CanList}
use Rattle.rv_link.specs.Linked.{AreShortNames as AreShort}
use Rattle.elf_file.specs.Rules.{Image as FileImage, Denotes, refused}
use Rattle.elf_file.specs.Written.{CanWrite}
use Rattle.elf_file.specs.Written.{image_of as image_written}
use Rattle.odc_build.specs.Files.{AllIn, AreShortNames}
use Rattle.odc_build.specs.Files.{CanList as CanListProgram}
use Rattle.odc_build.specs.Linking.{IsImageOf}
use Rattle.odc_build.specs.Kept.{KeepsAll, FollowsAll, loaded, procedures_from, IsBuilt, IsMade}
use Rattle.odc_build.proofs.Limits.{AllBecome, all_become}
use Rattle.odc_build.proofs.Files.{SitesIn, all_in}
use Rattle.odc_build.proofs.Whole.{all_kept, all_followed}

-- ---- calls of allocators

few_step : (at : ℕ) (s : MidStep) → length (step_calls at s) ≤ step_size s
few_step at (Const to word) = omega arith
few_step at (Address to of) = omega arith
few_step at (Move to from) = omega arith
few_step at (Unary to op operand) = omega arith
few_step at (Binary to op left right) = omega arith
few_step at (Compare to op left right) = omega arith
few_step at (Load to width a) = omega arith
few_step at (Store width a value) = omega arith
few_step at (Jump label) = omega arith
few_step at (Branch condition label) = omega arith
few_step at (Call to f arguments) = omega arith
few_step at (CallValue to target arguments true) = omega arith
few_step at (CallValue to target arguments false) = omega arith
few_step at (Return value) = omega arith
few_step at (Check condition which place) = omega arith
few_step at (System asked) = omega arith

few_steps : (at : ℕ) (ss : List MidStep) → length (steps_calls at ss) ≤ steps_size ss
few_steps at [] = omega arith
few_steps at (s ∷ ss) =
    omega (arith, few_step at s, few_steps (at + 4 * step_size s) ss, length-append (step_calls at s) (steps_calls (at + 4 * step_size s) ss))

few_calls : (at : ℕ) (ps : List MidProc) → length (procs_calls at ps) ≤ procs_size ps
few_calls at [] = omega arith
few_calls at (p ∷ ps) =
    omega (arith, few_steps (at + 4 * enter_size) p.steps, few_calls (at + 4 * proc_size p) ps, length-append (steps_calls (at + 4 * enter_size) p.steps) (procs_calls (at + 4 * proc_size p) ps))

-- ---- procedures with their names

block_size : (q : MidProc) → length (bare_code q) ≡ proc_size q
block_size q = block_long (λ _. 0) [] 0 0 q

one_more : (a b : ProcedureName) (xs ys : List ProcedureName) → a ≡ b → xs ≡ ys → a ∷ xs ≡ b ∷ ys
one_more a b xs ys p q = ap (λ (x : ProcedureName). x ∷ xs) p ∙ ap (λ (l : List ProcedureName). b ∷ l) q

abbrev named : ℕ → List ℕ → ProcedureName
named at name = record { entry = at; name = name }

same_name : (a b : ℕ) (x y : List ℕ) → a ≡ b → x ≡ y → named a x ≡ named b y
same_name a b x y p q = ap (λ (n : ℕ). named n x) p ∙ ap (λ (t : List ℕ). named b t) q

name_is : (q : MidProc) (p : Proc) → plain_proc q ≡ lowered (crossed p) → q.name ≡ p.name
name_is q p e = ap (λ (x : PlainProc). x.name) e

-- the blocks begin at the entries
names_are : (e : ℕ → ℕ) (at n k : ℕ) (qs : List MidProc) (ps : List Proc) → AllBecome qs ps → at ≡ text_start + 4 * (start_size + n) →
    ((j i : ℕ) → i ≡ k + j → e i ≡ text_start + 4 * (start_size + (n + procs_before qs j))) → names_from at (map block_of qs) ≡ procedures_from e k ps
names_are e at n k [] [] h here entries = refl
names_are e at n k [] (p ∷ ps) h here entries = absurd h
names_are e at n k (q ∷ qs) [] h here entries = absurd h
names_are e at n k (q ∷ qs) (p ∷ ps) h here entries =
    let first : at ≡ e k = omega (arith, here, entries 0 k (omega arith)) in
    let next : at + 4 * length (bare_code q) ≡ text_start + 4 * (start_size + (n + proc_size q)) = omega (arith, here, block_size q) in
    let rest : names_from (at + 4 * length (bare_code q)) (map block_of qs) ≡ procedures_from e (k + 1) ps =
    names_are e (at + 4 * length (bare_code q)) (n + proc_size q) (k + 1) qs ps h.1 next (λ j i same. omega (arith, entries (suc j) i (omega (arith, same)))) in
    one_more (named at q.name) (named (e k) p.name) (names_from (at + 4 * length (bare_code q)) (map block_of qs)) (procedures_from e (k + 1) ps)
    (same_name at (e k) q.name p.name first (name_is q p h.0)) rest

short_names : (qs : List MidProc) (ps : List Proc) → AreShortNames ps → AllBecome qs ps → AreShort (map block_of qs)
short_names [] [] short h = tt
short_names [] (p ∷ ps) short h = absurd h
short_names (q ∷ qs) [] short h = absurd h
short_names (q ∷ qs) (p ∷ ps) short h =
    (omega (arith, short.0, ap length (name_is q p h.0)), short_names qs ps short.1 h.1)

-- ---- sites

all_sites_in : (n : ℕ) (sites : List Site) → SitesIn n sites → All (IsInFiles n) sites
all_sites_in n [] h = All-nil (IsInFiles n)
all_sites_in n (s ∷ ss) h = All-cons (IsInFiles n) s ss h.0 (all_sites_in n ss h.1)

-- ---- what `link` asks for

pub can_list : (w : Whole) (q : MidWhole) (paths : List (List ℕ)) → IsLowered (crossed_program w) q → CanListProgram w paths → IsShort q → CanList (blocks_of q) paths
can_list w q paths lowered can short =
    let become : AllBecome q.procedures w.procedures = all_become q.procedures w.procedures lowered.procedures in
    let sites : SitesIn (length paths) (sites_of q) = all_in (length paths) q.procedures w.procedures can.places become in
    record {
      paths = can.few;
      texts = can.texts;
      sites = all_sites_in (length paths) (all_sites (blocks_of q).list) (subst (SitesIn (length paths)) (sym (told_is q)) sites);
      blocks = omega (arith, few_blocks q.procedures, length-map q.procedures block_of, short);
      names = short_names q.procedures w.procedures can.names become;
      calls = omega (arith, ap length (called_is q), few_calls (text_start + 4 * start_size) q.procedures, short);
    }
  where
    few_blocks : (qs : List MidProc) → length qs ≤ procs_size qs
    few_blocks [] = omega arith
    few_blocks (q ∷ qs) = omega (arith, few_blocks qs)

-- ---- what `write_elf` asks for

module _ (w : Whole) (q : MidWhole) (i : ToWrite) (short : IsShort q) (code : IsEncoded i.text.items (linked_code (blocks_of q))) where
  pub text_means : IsEncoded i.text.items (code_of q)
  text_means = subst (IsEncoded i.text.items) (linked_is q) code

  text_begins : 40 ≤ length i.text.items
  text_begins =
      let rest : List _ = procs_code q (text_start + 4 * start_size) 0 q.procedures in
      omega (arith, length_encoded i.text.items (code_of q) text_means, length-append (start_code (entry_of q q.main)) rest)

  text_ends : length i.text.items ≤ 0x4fff_0000
  text_ends =
      let all : IsEmitted q (entry_of q) i.text.items (sites_of q) (calls_of q) = emitted q short i.text.items (sites_of q) (calls_of q) text_means refl refl in
      omega (arith, length_encoded i.text.items all.code all.encoded, all.short)

  pub can_write : IsLowered (crossed_program w) q → i.entry ≡ text_start → i.store.items ≡ q.store → i.store_size ≡ q.store_size → IsListing (listed i.sites) → CanWrite i
  can_write lowered entry store size lists = record {
    aligned = ap (λ (n : ℕ). n % 4) entry;
    behind = omega (arith, entry);
    inside = omega (arith, entry, text_begins);
    text = omega (arith, text_ends);
    given = omega (arith, ap length store, ap length lowered.store);
    store = omega (arith, size, lowered.store_size);
    lists = lists;
  }

-- ---- what the file promises

abbrev seen : List Range → ℕ → List Site → List ℕ → MachineImage
seen ranges entry sites calls = record { ranges = ranges; entry = entry; sites = sites; calls = calls }

-- the machine loads the image of the mid program
same_loaded : (w : Whole) (paths : List (List ℕ)) (i : ToWrite) (m : IsImageOf w paths i) → loaded (image_written i) ≡ image_of m.mid i.text.items
same_loaded w paths i m =
    let text : List ℕ = i.text.items in
    let q : MidWhole = m.mid in
    ap (λ (s : List ℕ). seen (text_range text ∷ memory_ranges s i.store_size) i.entry i.sites.checks.items i.sites.calls.items) m.store
    ∙ ap (λ (n : ℕ). seen (text_range text ∷ memory_ranges q.store n) i.entry i.sites.checks.items i.sites.calls.items) m.store_size
    ∙ ap (λ (n : ℕ). seen (text_range text ∷ memory_ranges q.store q.store_size) n i.sites.checks.items i.sites.calls.items) m.entry
    ∙ ap (λ (s : List Site). seen (text_range text ∷ memory_ranges q.store q.store_size) text_start s i.sites.calls.items) (m.checks ∙ told_is q)
    ∙ ap (λ (c : List ℕ). seen (text_range text ∷ memory_ranges q.store q.store_size) text_start (sites_of q) c) (m.calls ∙ called_is q)

pub is_built : (w : Whole) (paths : List (List ℕ)) (i : ToWrite) (out : List ℕ) → IsWell w → IsImageOf w paths i → refused out ≡ None → Denotes out (image_written i) → IsBuilt w paths out
is_built w paths i out well m accepted denotes =
    let q : MidWhole = m.mid in
    let entries : ℕ → ℕ = entry_of q in
    let kept : KeepsAll entries w (loaded (image_written i)) =
    subst (λ (x : MachineImage). KeepsAll entries w x) (sym (same_loaded w paths i m)) (all_kept w q m.pieces well i.text.items m.kept m.machine) in
    let become : AllBecome q.procedures w.procedures = all_become q.procedures w.procedures m.pieces.procedures in
    record {
      image = image_written i;
      denotes = denotes;
      accepted = accepted;
      entry_of = entries;
      kept = kept;
      followed = all_followed entries w (loaded (image_written i)) kept;
      files = m.paths;
      names = m.names ∙ names_are entries first_block 0 0 q.procedures w.procedures become (omega arith) (λ j k same. (let here : k ≡ j = omega (arith, same) in ap entries here ∙ omega arith));
    }

pub is_made : (w : Whole) (paths : List (List ℕ)) (i : ToWrite) (out : List ℕ) → IsImageOf w paths i → Denotes out (image_written i) → IsMade w out
is_made w paths i out m denotes =
    let q : MidWhole = m.mid in
    let text : List ℕ = i.text.items in
    record {
      mid = q;
      pieces = m.pieces;
      text = text;
      code = m.code;
      image = image_written i;
      denotes = denotes;
      ranges = ap (λ (s : List ℕ). text_range text ∷ memory_ranges s i.store_size) m.store ∙ ap (λ (n : ℕ). text_range text ∷ memory_ranges q.store n) m.store_size;
      entry = m.entry;
      checks = m.checks;
      names = m.names;
      calls = m.calls;
    }
