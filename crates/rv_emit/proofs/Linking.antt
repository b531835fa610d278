-- The blocks of a program make its text, sites and calls; and blocks that can be linked make a text whose
-- numbers fit.
use Rattle.std.proofs.Common.{◌≡◌, ℕ, zero, suc, ◌+◌, ◌-◌, ◌*◌, ◌^◌, ◌<◌, ◌≤◌, true, false, List, [], ◌∷◌, ◌++◌, length, map, take, drop, arith, ap, ◌∙◌, sym, subst, refl, lit<, append_assoc, length-append}
use Rattle.std.specs.Prelude.{get_or}
use Rattle.std.proofs.lemmas.List.{length-map}
use Rattle.std.proofs.Math.Path.{fun_ext}
use Rattle.rv_table.specs.Run.{Site}
use Rattle.rv_table.specs.declared.inst.Inst.{Inst}
use Rattle.odc_core.specs.Well.{AreInStore}
use Rattle.odc_mid.specs.declared.tree.Named.TheVariants.{Variable as OfVariable, Stored, Procedure as OfProcedure}
use Rattle.odc_mid.specs.declared.tree.MidStep.{MidStep}
use Rattle.odc_mid.specs.declared.tree.MidStep.TheVariants.{Const, Address as AddressStep, Move, Unary, Binary, Compare, Load, Store, Jump, Branch, Call, CallValue, Return, Check as CheckStep, System}
use Rattle.odc_mid.specs.Tree.{Proc, Whole}
use Rattle.rv_emit.specs.Code.{text_start, start_size, start_code, enter_size, entry_of, number_code, block_code, registers_size, step_size, step_sites, step_calls, steps_size, steps_sites, steps_calls, proc_size, proc_sites, procs_size, procs_before, procs_code, procs_sites, procs_calls, code_of, sites_of, calls_of}
use Rattle.rv_emit.specs.Encoded.{AllFit}
use Rattle.rv_emit.specs.Blocks.{Block, Unlinked, block_of, blocks_of, bare, bare_code, step_holes, steps_holes, proc_holes, step_marks, steps_marks, hole_sites, holes_sites, hole_value, hole_register, filled, size_in_front, size_of_all, entry_in, all_code, all_sites, all_calls, addresses_of, linked_code}
use Rattle.rv_emit.specs.declared.unlinked.Hole.{Hole}
use Rattle.rv_emit.specs.declared.unlinked.HoleKind.TheVariants as hole
use Rattle.odc_text.specs.declared.check.Check.TheVariants.{Stack}
use Rattle.rv_emit.proofs.Placed.{block_long}
use Rattle.rv_emit.proofs.Filling.{block_filled}

-- ---- sites

holes_sites_parts : (xs ys : List Hole) → holes_sites (xs ++ ys) ≡ holes_sites xs ++ holes_sites ys
holes_sites_parts [] ys = refl
holes_sites_parts (x ∷ xs) ys = ap (λ zs. hole_sites x ++ zs) (holes_sites_parts xs ys) ∙ sym (append_assoc (hole_sites x) (holes_sites xs) (holes_sites ys))

step_told : (at : ℕ) (s : MidStep) → holes_sites (step_holes at s) ≡ step_sites s
step_told at (Const to v) = refl
step_told at (AddressStep to (OfVariable x)) = refl
step_told at (AddressStep to (Stored n)) = refl
step_told at (AddressStep to (OfProcedure f)) = refl
step_told at (Move to u) = refl
step_told at (Unary to op u) = refl
step_told at (Binary to op u v) = refl
step_told at (Compare to op u v) = refl
step_told at (Load to width u) = refl
step_told at (Store width u v) = refl
step_told at (Jump label) = refl
step_told at (Branch u label) = refl
step_told at (Call to f arguments) = refl
step_told at (CallValue to target arguments true) = refl
step_told at (CallValue to target arguments false) = refl
step_told at (Return u) = refl
step_told at (CheckStep u which source) = refl
step_told at (System asked) = refl

steps_told : (at : ℕ) (ss : List MidStep) → holes_sites (steps_holes at ss) ≡ steps_sites ss
steps_told at [] = refl
steps_told at (s ∷ ss) =
    holes_sites_parts (step_holes at s) (steps_holes (at + step_size s) ss)
    ∙ ap (λ zs. zs ++ holes_sites (steps_holes (at + step_size s) ss)) (step_told at s)
    ∙ ap (λ zs. step_sites s ++ zs) (steps_told (at + step_size s) ss)

pub proc_told : (p : Proc) → holes_sites (proc_holes p) ≡ proc_sites p
proc_told p = ap (λ (zs : List Site). hole_sites (slice_first p) ++ zs) (steps_told enter_size p.steps)
  where
    slice_first : Proc → Hole
    slice_first q = record { at = 6; kind = hole.Site q.at.line q.at.column Stack; own = q.at.file.number }

-- ---- calls of allocators

addresses_parts : (at : ℕ) (xs ys : List ℕ) → addresses_of at (xs ++ ys) ≡ addresses_of at xs ++ addresses_of at ys
addresses_parts at [] ys = refl
addresses_parts at (x ∷ xs) ys = ap (λ zs. (at + 4 * x) ∷ zs) (addresses_parts at xs ys)

step_called : (base at : ℕ) (s : MidStep) → addresses_of base (step_marks at s) ≡ step_calls (base + 4 * at) s
step_called base at (Const to v) = refl
step_called base at (AddressStep to of) = refl
step_called base at (Move to u) = refl
step_called base at (Unary to op u) = refl
step_called base at (Binary to op u v) = refl
step_called base at (Compare to op u v) = refl
step_called base at (Load to width u) = refl
step_called base at (Store width u v) = refl
step_called base at (Jump label) = refl
step_called base at (Branch u label) = refl
step_called base at (Call to f arguments) = refl
step_called base at (CallValue to target arguments true) = let same : base + 4 * (at + far arguments.items) ≡ base + 4 * at + 4 * far arguments.items = omega arith in ap (λ (n : ℕ). n ∷ []) same
  where
    far : List ℕ → ℕ
    far ts = 6 + (registers_size ts + (13 + 8 * length ts))
step_called base at (CallValue to target arguments false) = refl
step_called base at (Return u) = refl
step_called base at (CheckStep u which source) = refl
step_called base at (System asked) = refl

pub steps_called : (base at : ℕ) (ss : List MidStep) → addresses_of base (steps_marks at ss) ≡ steps_calls (base + 4 * at) ss
steps_called base at [] = refl
steps_called base at (s ∷ ss) =
    let next : base + 4 * (at + step_size s) ≡ base + 4 * at + 4 * step_size s = omega arith in
    addresses_parts base (step_marks at s) (steps_marks (at + step_size s) ss)
    ∙ ap (λ zs. zs ++ addresses_of base (steps_marks (at + step_size s) ss)) (step_called base at s)
    ∙ ap (λ zs. step_calls (base + 4 * at) s ++ zs) (steps_called base (at + step_size s) ss ∙ ap (λ (n : ℕ). steps_calls n ss) next)

-- ---- all blocks

bare_long : (p : Proc) → length (bare_code p) ≡ proc_size p
bare_long p = block_long (λ _. 0) [] 0 0 p

pub front_is : (ps : List Proc) (f : ℕ) → size_in_front (map block_of ps) f ≡ procs_before ps f
front_is ps zero = refl
front_is [] (suc f) = refl
front_is (p ∷ ps) (suc f) = ap (λ (n : ℕ). n + size_in_front (map block_of ps) f) (bare_long p) ∙ ap (λ (n : ℕ). proc_size p + n) (front_is ps f)

pub all_is : (ps : List Proc) → size_of_all (map block_of ps) ≡ procs_size ps
all_is [] = refl
all_is (p ∷ ps) = ap (λ (n : ℕ). n + size_of_all (map block_of ps)) (bare_long p) ∙ ap (λ (n : ℕ). proc_size p + n) (all_is ps)

code_is : (w : Whole) (at site : ℕ) (ps : List Proc) → all_code (entry_of w) w.addresses site (map block_of ps) ≡ procs_code w at site ps
code_is w at site [] = refl
code_is w at site (p ∷ ps) =
    let more : ℕ → List Inst = λ n. all_code (entry_of w) w.addresses (site + n) (map block_of ps) in
    ap (λ zs. zs ++ more (length (holes_sites (proc_holes p)))) (block_filled (entry_of w) w.addresses at p site)
    ∙ ap (λ (zs : List Site). block_code (entry_of w) w.addresses at site p ++ more (length zs)) (proc_told p)
    ∙ ap (λ zs. block_code (entry_of w) w.addresses at site p ++ zs) (code_is w (at + 4 * proc_size p) (site + length (proc_sites p)) ps)

sites_are : (ps : List Proc) → all_sites (map block_of ps) ≡ procs_sites ps
sites_are [] = refl
sites_are (p ∷ ps) = ap (λ zs. zs ++ all_sites (map block_of ps)) (proc_told p) ∙ ap (λ zs. proc_sites p ++ zs) (sites_are ps)

calls_are : (at : ℕ) (ps : List Proc) → all_calls at (map block_of ps) ≡ procs_calls at ps
calls_are at [] = refl
calls_are at (p ∷ ps) =
    ap (λ zs. zs ++ all_calls (at + 4 * length (bare_code p)) (map block_of ps)) (steps_called at enter_size p.steps)
    ∙ ap (λ (n : ℕ). steps_calls (at + 4 * enter_size) p.steps ++ all_calls (at + 4 * n) (map block_of ps)) (bare_long p)
    ∙ ap (λ zs. steps_calls (at + 4 * enter_size) p.steps ++ zs) (calls_are (at + 4 * proc_size p) ps)

pub entry_is : (w : Whole) (f : ℕ) → entry_in (blocks_of w).list f ≡ entry_of w f
entry_is w f = ap (λ (n : ℕ). text_start + 4 * (start_size + n)) (front_is w.procedures f)

entries_are : (w : Whole) → entry_in (blocks_of w).list ≡ entry_of w
entries_are w = fun_ext (entry_is w)

-- the text that the blocks of a program make is the program's text
pub linked_is : (w : Whole) → linked_code (blocks_of w) ≡ code_of w
linked_is w =
    let C : (ℕ → ℕ) → List Inst = λ e. start_code (e w.main) ++ all_code e w.addresses 0 (blocks_of w).list in
    ap C (entries_are w) ∙ ap (λ zs. start_code (entry_of w w.main) ++ zs) (code_is w (text_start + 4 * start_size) 0 w.procedures)

pub told_is : (w : Whole) → all_sites (blocks_of w).list ≡ sites_of w
told_is w = sites_are w.procedures

pub called_is : (w : Whole) → all_calls (text_start + 4 * start_size) (blocks_of w).list ≡ calls_of w
called_is w = calls_are (text_start + 4 * start_size) w.procedures
