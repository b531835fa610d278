-- The blocks of a sane program can be linked, and the instructions of linked blocks have fields of their
-- widths.
use Rattle.std.proofs.Common.{◌≡◌, ℕ, zero, suc, ◌+◌, ◌-◌, ◌*◌, ◌^◌, ◌<◌, ◌≤◌, true, false, List, [], ◌∷◌, ◌++◌, length, map, take, drop, arith, ap, ◌∙◌, sym, subst, refl, lit<, length-append}
use Rattle.std.specs.Prelude.{Some, slice_get, slice_index, get_or}
use Rattle.std.proofs.lemmas.Option.{slice_get_within}
use Rattle.std.proofs.lemmas.List.{length-map}
use Rattle.std.proofs.lemmas.Grind.{get_or_default_zero}
use Rattle.rv_table.specs.declared.inst.Inst.{Inst}
use Rattle.odc_core.specs.Well.{AreInStore}
use Rattle.odc_mid.specs.declared.tree.Named.TheVariants.{Variable as OfVariable, Stored, Procedure as OfProcedure}
use Rattle.odc_mid.specs.declared.tree.MidStep.{MidStep}
use Rattle.odc_mid.specs.declared.tree.MidStep.TheVariants.{Const, Address as AddressStep, Move, Unary, Binary, Compare, Load, Store, Jump, Branch, Call, CallValue, Return, Check as CheckStep, System}
use Rattle.odc_mid.specs.Tree.{Proc, Whole}
use Rattle.odc_mid.specs.Well.{IsWell, IsWellProc, IsMain, AllWell, IsStep, AreSteps, Known, Names, names_in, parameters_of}
use Rattle.rv_emit.specs.Code.{text_start, start_size, start_code, enter_size, number_code, step_size, steps_size, proc_size, procs_size, registers_size}
use Rattle.rv_emit.specs.Encoded.{AllFit}
use Rattle.rv_emit.specs.Layout.{HasSlots, AllHaveSlots, IsShort}
use Rattle.rv_emit.specs.Blocks.{Block, Unlinked, block, blocks, block_of, blocks_of, bare_code, step_holes, steps_holes, proc_holes, step_marks, steps_marks, kind_sites, hole_sites, holes_sites, kind_value, hole_value, hole_register, filled, size_in_front, size_of_all, entry_in, all_code, all_sites, linked_code, AreHoles, IsKindIn, IsNamedIn, AllNamedIn, AllBelow, IsBlock, AreBlocks, CanLink}
use Rattle.rv_emit.specs.Tables.{IsTable}
use Rattle.rv_emit.specs.declared.unlinked.Hole.{Hole}
use Rattle.rv_emit.specs.declared.unlinked.HoleKind.{HoleKind}
use Rattle.rv_emit.specs.declared.unlinked.Block.{Block as BlockType}
use Rattle.rv_emit.specs.declared.unlinked.Blocks.{Blocks as BlocksType}
use Rattle.rv_emit.specs.declared.unlinked.HoleKind.TheVariants.{Procedure, Address, Site as SiteHole}
use Rattle.rv_emit.proofs.Placed.{block_long}
use Rattle.rv_emit.proofs.Fitting.{fit_both, number_fit, start_fit, bare_fit}
use Rattle.rv_emit.proofs.Linking.{all_is}

-- ---- fields of filled code

take_fit : (n : ℕ) (xs : List Inst) → AllFit xs → AllFit (take n xs)
take_fit zero xs h = tt
take_fit (suc n) [] h = tt
take_fit (suc n) (x ∷ xs) h = (h.0, take_fit n xs h.1)

drop_fit : (n : ℕ) (xs : List Inst) → AllFit xs → AllFit (drop n xs)
drop_fit zero xs h = h
drop_fit (suc n) [] h = tt
drop_fit (suc n) (x ∷ xs) h = drop_fit n xs h.1

register_small : (k : HoleKind) → hole_register k < 32
register_small Procedure = lit< tt
register_small Address = lit< tt
register_small (SiteHole line column which) = lit< tt

one_site : (own : ℕ) (k : HoleKind) → length (kind_sites own k) ≤ 1
one_site own Procedure = omega arith
one_site own Address = omega arith
one_site own (SiteHole line column which) = omega arith

few_sites : (hs : List Hole) → length (holes_sites hs) ≤ length hs
few_sites [] = omega arith
few_sites (h ∷ hs) = let rest : length (holes_sites hs) ≤ length hs = few_sites hs in omega (arith, rest, one_site h.own h.kind, length-append (hole_sites h) (holes_sites hs))

-- each hole takes four instructions
few_holes : (next size : ℕ) (hs : List Hole) → AreHoles next size hs → next + 4 * length hs ≤ size
few_holes next size [] h = omega (arith, h)
few_holes next size (x ∷ hs) h = let rest : x.at + 4 + 4 * length hs ≤ size = few_holes (x.at + 4) size hs h.1 in omega (arith, rest, h.0.0)

pub few_block_sites : (b : Block) → AreHoles 0 (length b.code) b.holes → length (holes_sites b.holes) ≤ length b.code
few_block_sites b h = omega (arith, few_sites b.holes, few_holes 0 (length b.code) b.holes h)

pub few_all_sites : (count n : ℕ) (bs : List Block) → AreBlocks count n bs → length (all_sites bs) ≤ size_of_all bs
few_all_sites count n [] h = omega arith
few_all_sites count n (b ∷ bs) h =
    let rest : length (all_sites bs) ≤ size_of_all bs = few_all_sites count n bs h.1 in
    omega (arith, rest, few_block_sites b h.0.holes, length-append (holes_sites b.holes) (all_sites bs))

module _ (entries : ℕ → ℕ) (addresses : List ℕ) (low_entries : (f : ℕ) → entries f < 2 ^ 31) (low_addresses : (n : ℕ) → get_or addresses n 0 < 2 ^ 31) where
  value_small : (site own : ℕ) (k : HoleKind) → site + length (kind_sites own k) ≤ 2 ^ 31 → kind_value entries addresses site own k < 2 ^ 31
  value_small site own Procedure h = low_entries own
  value_small site own Address h = low_addresses own
  value_small site own (SiteHole line column which) h = omega (arith, h)

  filled_fit : (next site : ℕ) (hs : List Hole) (code : List Inst) → AllFit code → site + length (holes_sites hs) ≤ 2 ^ 31 → AllFit (filled entries addresses next site hs code)
  filled_fit next site [] code fit few = fit
  filled_fit next site (h ∷ hs) code fit few =
      let behind : ℕ = site + length (hole_sites h) in
      let rest : List Inst = filled entries addresses (h.at + 4) behind hs (drop (h.at + 4 - next) code) in
      let number : List Inst = number_code (hole_register h.kind) (hole_value entries addresses site h) in
      let count : length (holes_sites (h ∷ hs)) ≡ length (hole_sites h) + length (holes_sites hs) = length-append (hole_sites h) (holes_sites hs) in
      fit_both (take (h.at - next) code) (number ++ rest) (take_fit (h.at - next) code fit)
      (fit_both number rest (number_fit (hole_register h.kind) (hole_value entries addresses site h) (register_small h.kind) (value_small site h.own h.kind (omega (arith, few, count))))
      (filled_fit (h.at + 4) behind hs (drop (h.at + 4 - next) code) (drop_fit (h.at + 4 - next) code fit) (omega (arith, few, count))))

  all_fit : (count n site : ℕ) (bs : List Block) → AreBlocks count n bs → site + length (all_sites bs) ≤ 2 ^ 31 → AllFit (all_code entries addresses site bs)
  all_fit count n site [] h few = tt
  all_fit count n site (b ∷ bs) h few =
      let parts : length (all_sites (b ∷ bs)) ≡ length (holes_sites b.holes) + length (all_sites bs) = length-append (holes_sites b.holes) (all_sites bs) in
      fit_both (filled entries addresses 0 site b.holes b.code) (all_code entries addresses (site + length (holes_sites b.holes)) bs)
      (filled_fit 0 site b.holes b.code h.0.fit (omega (arith, few, parts)))
      (all_fit count n (site + length (holes_sites b.holes)) bs h.1 (omega (arith, few, parts)))

front_small : (bs : List Block) (f : ℕ) → size_in_front bs f ≤ size_of_all bs
front_small bs zero = omega arith
front_small [] (suc f) = omega arith
front_small (b ∷ bs) (suc f) = let rest : size_in_front bs f ≤ size_of_all bs = front_small bs f in omega (arith, rest)

pub entry_small : (u : Unlinked) → CanLink u → (f : ℕ) → entry_in u.list f < 2 ^ 31
entry_small u can f = omega (arith, can.short, front_small u.list f)

below_small : (n : ℕ) (xs : List ℕ) (i : ℕ) → n ≤ 2 ^ 31 → 0 < n → AllBelow n xs → get_or xs i 0 < 2 ^ 31
below_small n [] i h some all = lit< tt
below_small n (x ∷ xs) zero h some all = omega (arith, all.0)
below_small n (x ∷ xs) (suc i) h some all = below_small n xs i h some all.1

pub address_small : (u : Unlinked) → CanLink u → (n : ℕ) → get_or u.addresses n 0 < 2 ^ 31
address_small u can n = below_small 0x6000_0000 u.addresses n (omega arith) (lit< tt) can.addresses

-- what fills a hole is small
pub entry_fits : (u : Unlinked) → CanLink u → (n m : ℕ) (entries : List ℕ) → IsTable entries n (entry_in u.list) → (own : ℕ) (k : HoleKind) → k ≡ Procedure → IsKindIn n m own k → slice_index entries own < 2 ^ 31
entry_fits u can n m entries table own k is named =
    let P : HoleKind → Type 0 = λ j. IsKindIn n m own j in
    let inside : own < n = subst P is named in
    omega (arith, table.each own inside, entry_small u can own)

pub address_fits : (u : Unlinked) → CanLink u → (n own : ℕ) (k : HoleKind) → k ≡ Address → IsKindIn n (length u.addresses) own k → (v : ℕ) → v ≡ get_or u.addresses own v → v < 2 ^ 31
address_fits u can n own k is named v e =
    let P : HoleKind → Type 0 = λ j. IsKindIn n (length u.addresses) own j in
    let inside : own < length u.addresses = subst P is named in
    let same : v ≡ get_or u.addresses own 0 = e ∙ get_or_default_zero u.addresses own v inside in
    omega (arith, same, address_small u can own)

-- the entry of the block that is called first
pub main_is : (b : BlocksType) → CanLink (blocks b) → (items : List BlockType) → items ≡ b.list.items → (entries : List ℕ) → IsTable entries (length items) (entry_in (map block items)) → (v : ℕ) →
    v ≡ get_or entries b.main v → v ≡ entry_in (blocks b).list b.main
main_is b can items same entries table v e =
    let P : List BlockType → Type 0 = λ xs. IsTable entries (length xs) (entry_in (map block xs)) in
    let t = subst P same table in
    let inside : b.main < length b.list.items = omega (arith, can.main, length-map b.list.items block) in
    e ∙ get_or_default_zero entries b.main v (omega (arith, inside, t.count)) ∙ t.each b.main inside

pub blocks_counted : (items : List BlockType) (n : ℕ) → AreBlocks (length (map block items)) n (map block items) → AreBlocks (length items) n (map block items)
blocks_counted items n h = let P : ℕ → Type 0 = λ k. AreBlocks k n (map block items) in subst P (length-map items block) h

pub linked_fit : (u : Unlinked) → CanLink u → AllFit (linked_code u)
linked_fit u can =
    fit_both (start_code (entry_in u.list u.main)) (all_code (entry_in u.list) u.addresses 0 u.list) (start_fit (entry_in u.list u.main) (entry_small u can u.main))
    (all_fit (entry_in u.list) u.addresses (entry_small u can) (address_small u can) (length u.list) (length u.addresses) 0 u.list can.blocks (omega (arith, can.short, few_all_sites (length u.list) (length u.addresses) u.list can.blocks)))

-- ---- the blocks of a program

holes_earlier : (n k size : ℕ) (hs : List Hole) → n ≤ k → AreHoles k size hs → AreHoles n size hs
holes_earlier n k size [] l h = omega (arith, l, h)
holes_earlier n k size (x ∷ hs) l h = ((omega (arith, l, h.0.0), h.0.1), h.1)

holes_end : (n size : ℕ) (hs : List Hole) → AreHoles n size hs → n ≤ size
holes_end n size [] h = h
holes_end n size (x ∷ hs) h = omega (arith, h.0.0, h.0.1)

step_holes_there : (at size : ℕ) (s : MidStep) (hs : List Hole) → AreHoles (at + step_size s) size hs → AreHoles at size (step_holes at s ++ hs)
step_holes_there at size (AddressStep to (Stored n)) hs h = ((omega arith, omega (arith, holes_end (at + step_size (AddressStep to (Stored n))) size hs h)), holes_earlier (at + 4) (at + step_size (AddressStep to (Stored n))) size hs (omega arith) h)
step_holes_there at size (AddressStep to (OfProcedure f)) hs h = ((omega arith, omega (arith, holes_end (at + step_size (AddressStep to (OfProcedure f))) size hs h)), holes_earlier (at + 4) (at + step_size (AddressStep to (OfProcedure f))) size hs (omega arith) h)
step_holes_there at size (Call to f arguments) hs h =
    ((omega arith, omega (arith, holes_end (at + step_size (Call to f arguments)) size hs h)), holes_earlier (at + (13 + 8 * length arguments.items) + 4) (at + step_size (Call to f arguments)) size hs (omega arith) h)
step_holes_there at size (CheckStep u which source) hs h = ((omega arith, omega (arith, holes_end (at + step_size (CheckStep u which source)) size hs h)), holes_earlier (at + 8 + 4) (at + step_size (CheckStep u which source)) size hs (omega arith) h)
step_holes_there at size (Const to v) hs h = holes_earlier at (at + step_size (Const to v)) size hs (omega arith) h
step_holes_there at size (AddressStep to (OfVariable x)) hs h = holes_earlier at (at + step_size (AddressStep to (OfVariable x))) size hs (omega arith) h
step_holes_there at size (Move to u) hs h = holes_earlier at (at + step_size (Move to u)) size hs (omega arith) h
step_holes_there at size (Unary to op u) hs h = holes_earlier at (at + step_size (Unary to op u)) size hs (omega arith) h
step_holes_there at size (Binary to op u v) hs h = holes_earlier at (at + step_size (Binary to op u v)) size hs (omega arith) h
step_holes_there at size (Compare to op u v) hs h = holes_earlier at (at + step_size (Compare to op u v)) size hs (omega arith) h
step_holes_there at size (Load to width u) hs h = holes_earlier at (at + step_size (Load to width u)) size hs (omega arith) h
step_holes_there at size (Store width u v) hs h = holes_earlier at (at + step_size (Store width u v)) size hs (omega arith) h
step_holes_there at size (Jump label) hs h = holes_earlier at (at + step_size (Jump label)) size hs (omega arith) h
step_holes_there at size (Branch u label) hs h = holes_earlier at (at + step_size (Branch u label)) size hs (omega arith) h
step_holes_there at size (CallValue to target arguments marked) hs h = holes_earlier at (at + step_size (CallValue to target arguments marked)) size hs (omega arith) h
step_holes_there at size (Return u) hs h = holes_earlier at (at + step_size (Return u)) size hs (omega arith) h
step_holes_there at size (System asked) hs h = holes_earlier at (at + step_size (System asked)) size hs (omega arith) h

steps_holes_there : (at size : ℕ) (ss : List MidStep) → at + steps_size ss ≤ size → AreHoles at size (steps_holes at ss)
steps_holes_there at size [] h = omega (arith, h)
steps_holes_there at size (s ∷ ss) h = step_holes_there at size s (steps_holes (at + step_size s) ss) (steps_holes_there (at + step_size s) size ss (omega (arith, h)))

named_parts : (count n : ℕ) (xs ys : List Hole) → AllNamedIn count n xs → AllNamedIn count n ys → AllNamedIn count n (xs ++ ys)
named_parts count n [] ys h k = k
named_parts count n (x ∷ xs) ys h k = (h.0, named_parts count n xs ys h.1 k)

step_named : (names : Names) (at : ℕ) (s : MidStep) → IsStep names s → AllNamedIn (length names.parameters) names.addresses (step_holes at s)
step_named names at (AddressStep to (Stored n)) h = (h, tt)
step_named names at (AddressStep to (OfProcedure f)) h = (h, tt)
step_named names at (Call to f arguments) h = (slice_get_within names.parameters f (length arguments.items) h, tt)
step_named names at (CheckStep u which source) h = (tt, tt)
step_named names at (Const to v) h = tt
step_named names at (AddressStep to (OfVariable x)) h = tt
step_named names at (Move to u) h = tt
step_named names at (Unary to op u) h = tt
step_named names at (Binary to op u v) h = tt
step_named names at (Compare to op u v) h = tt
step_named names at (Load to width u) h = tt
step_named names at (Store width u v) h = tt
step_named names at (Jump label) h = tt
step_named names at (Branch u label) h = tt
step_named names at (CallValue to target arguments marked) h = tt
step_named names at (Return u) h = tt
step_named names at (System asked) h = tt

steps_named : (names : Names) (known : Known) (i at : ℕ) (ss : List MidStep) → AreSteps names known i ss → AllNamedIn (length names.parameters) names.addresses (steps_holes at ss)
steps_named names known i at [] h = tt
steps_named names known i at (s ∷ ss) h =
    named_parts (length names.parameters) names.addresses (step_holes at s) (steps_holes (at + step_size s) ss) (step_named names at s h.0.named) (steps_named names known (suc i) (at + step_size s) ss h.1)

below_parts : (n : ℕ) (xs ys : List ℕ) → AllBelow n xs → AllBelow n ys → AllBelow n (xs ++ ys)
below_parts n [] ys h k = k
below_parts n (x ∷ xs) ys h k = (h.0, below_parts n xs ys h.1 k)

step_marked : (at size : ℕ) (s : MidStep) → at + step_size s ≤ size → AllBelow size (step_marks at s)
step_marked at size (CallValue to target arguments true) h = (omega (arith, h), tt)
step_marked at size (CallValue to target arguments false) h = tt
step_marked at size (Const to v) h = tt
step_marked at size (AddressStep to of) h = tt
step_marked at size (Move to u) h = tt
step_marked at size (Unary to op u) h = tt
step_marked at size (Binary to op u v) h = tt
step_marked at size (Compare to op u v) h = tt
step_marked at size (Load to width u) h = tt
step_marked at size (Store width u v) h = tt
step_marked at size (Jump label) h = tt
step_marked at size (Branch u label) h = tt
step_marked at size (Call to f arguments) h = tt
step_marked at size (Return u) h = tt
step_marked at size (CheckStep u which source) h = tt
step_marked at size (System asked) h = tt

steps_marked : (at size : ℕ) (ss : List MidStep) → at + steps_size ss ≤ size → AllBelow size (steps_marks at ss)
steps_marked at size [] h = tt
steps_marked at size (s ∷ ss) h = below_parts size (step_marks at s) (steps_marks (at + step_size s) ss) (step_marked at size s (omega (arith, h))) (steps_marked (at + step_size s) size ss (omega (arith, h)))

count_parameters : (ps : List Proc) → length (parameters_of ps) ≡ length ps
count_parameters [] = refl
count_parameters (p ∷ ps) = ap suc (count_parameters ps)

pub is_block : (w : Whole) (p : Proc) → IsWellProc w p → HasSlots p → 4 * proc_size p < 2 ^ 31 → IsBlock (length w.procedures) (length w.addresses) (block_of p)
is_block w p sane slots low =
    let long : length (bare_code p) ≡ proc_size p = block_long (λ _. 0) [] 0 0 p in
    let P : ℕ → Type 0 = λ n. AllNamedIn n (length w.addresses) (proc_holes p) in
    record {
      fit = bare_fit w p sane slots low;
      holes = ((omega arith, omega (arith, long)), holes_earlier 10 enter_size (length (bare_code p)) (steps_holes enter_size p.steps) (omega arith) (steps_holes_there enter_size (length (bare_code p)) p.steps (omega (arith, long))));
      named = subst P (count_parameters w.procedures) (tt, steps_named (names_in w p) sane.known 0 enter_size p.steps sane.steps);
      calls = steps_marked enter_size (length (bare_code p)) p.steps (omega (arith, long));
    }

are_blocks : (w : Whole) (ps : List Proc) → AllWell w ps → AllHaveSlots ps → 4 * procs_size ps < 2 ^ 31 → AreBlocks (length w.procedures) (length w.addresses) (map block_of ps)
are_blocks w [] sane slots low = tt
are_blocks w (p ∷ ps) sane slots low = (is_block w p sane.0 slots.0 (omega (arith, low)), are_blocks w ps sane.1 slots.1 (omega (arith, low)))

in_store : (size : ℕ) (xs : List ℕ) → size ≤ 0x0fff_0000 → AreInStore size xs → AllBelow 0x6000_0000 xs
in_store size [] small h = tt
in_store size (x ∷ xs) small h = (omega (arith, h.0, small), in_store size xs small h.1)

main_inside : (ps : List Proc) (f : ℕ) → IsMain (slice_get ps f) → f < length ps
main_inside [] f h = absurd h
main_inside (x ∷ ps) zero h = omega arith
main_inside (x ∷ ps) (suc f) h = let rest : f < length ps = main_inside ps f h in omega (arith, rest)

pub can_link : (w : Whole) → IsWell w → AllHaveSlots w.procedures → IsShort w → CanLink (blocks_of w)
can_link w well slots short =
    let count : length (map block_of w.procedures) ≡ length w.procedures = length-map w.procedures block_of in
    let P : ℕ → Type 0 = λ n. AreBlocks n (length w.addresses) (map block_of w.procedures) in
    record {
      blocks = subst P (sym count) (are_blocks w w.procedures well.procedures slots (omega (arith, short)));
      addresses = in_store w.store_size w.addresses well.low well.addresses;
      main = omega (arith, count, main_inside w.procedures w.main well.main);
      short = omega (arith, short, all_is w.procedures);
    }
