-- The list of procedures, block by block, and lists that can be written.
use Rattle.std.proofs.Common.{◌≡◌, ℕ, zero, suc, ◌+◌, ◌*◌, ◌<◌, ◌≤◌, ◌^◌, List, [], ◌∷◌, ◌++◌, length, drop, get_or, map, arith, ap, ◌∙◌, sym, subst, refl, append_assoc, drop-cons, add-one, string_bytes}
use Rattle.std.specs.Prelude.{All, slice_index_or}
use Rattle.std.proofs.lemmas.List.Elements.{All-push}
use Rattle.rv_table.specs.Run.{Site}
use Rattle.rv_sites.specs.Sections.{IsShortName, IsSiteOf, IsListing}
use Rattle.rv_sites.specs.declared.sites.ProcedureName.{ProcedureName}
use Rattle.rv_emit.specs.Blocks.{Block, block, size_of_all}
use Rattle.rv_emit.specs.declared.unlinked.Block.{Block as BlockType}
use Rattle.rv_link.specs.Linked.{names_from, AreShortNames, HasSmallNumbers, IsInFiles}

-- the name of one of the blocks
pub short_at : (bs : List BlockType) (i : ℕ) (b : BlockType) → i < length bs → b ≡ get_or bs i b → AreShortNames (map block bs) → length (string_bytes b.name) < 2 ^ 32
short_at [] i b h is short = absurd (omega (arith, h))
short_at (x ∷ xs) zero b h is short = omega (arith, ap (λ (y : BlockType). length (string_bytes y.name)) is, short.0)
short_at (x ∷ xs) (suc i) b h is short = short_at xs i b (omega (arith, h)) is short.1

-- what is left is the block and what is left behind it
left : (bs : List BlockType) (i : ℕ) (b : BlockType) → i < length bs → b ≡ get_or bs i b → drop i bs ≡ b ∷ drop (i + 1) bs
left bs i b h is =
    let one : drop i bs ≡ b ∷ drop (suc i) bs = drop-cons bs i b h ∙ ap (λ (y : BlockType). y ∷ drop (suc i) bs) (sym is) in
    rw add-one one

pub named_next : (out after total : List ProcedureName) (at next : ℕ) (bs : List BlockType) (i : ℕ) (b : BlockType) → i < length bs → b ≡ get_or bs i b → next ≡ at + 4 * length b.code.items →
    out ++ names_from at (map block (drop i bs)) ≡ total → after ≡ out ++ record { entry = at; name = string_bytes b.name } ∷ [] → after ++ names_from next (map block (drop (i + 1) bs)) ≡ total
named_next out after total at next bs i b h is e listed pushed =
    let back : out ++ names_from at (map block (b ∷ drop (i + 1) bs)) ≡ total = ap (λ (l : List BlockType). out ++ names_from at (map block l)) (sym (left bs i b h is)) ∙ listed in
    rw (pushed, e, append_assoc) back

pub below_next : (at next : ℕ) (bs : List BlockType) (i : ℕ) (b : BlockType) → i < length bs → b ≡ get_or bs i b → next ≡ at + 4 * length b.code.items → at + 4 * size_of_all (map block (drop i bs)) ≤ 0x5000_0000 →
    next + 4 * size_of_all (map block (drop (i + 1) bs)) ≤ 0x5000_0000
below_next at next bs i b h is e below =
    omega (arith, e, below, ap (λ (l : List BlockType). size_of_all (map block l)) (left bs i b h is))

pub short_next : (out after : List ProcedureName) (at : ℕ) (name : List ℕ) → All IsShortName out → at < 2 ^ 64 → length name < 2 ^ 32 → after ≡ out ++ record { entry = at; name = name } ∷ [] → All IsShortName after
short_next out after at name short low few pushed =
    subst (λ (l : List ProcedureName). All IsShortName l) (sym pushed) (All-push IsShortName out (record { entry = at; name = name }) short (low, few))

-- sites in files, with their numbers
pub sites_of : (n : ℕ) (sites others : List Site) → sites ≡ others → All (IsInFiles n) others → All HasSmallNumbers sites → All (IsSiteOf n) sites
sites_of n sites others same files numbers =
    let P : List Site → Type 0 = λ l. All (IsInFiles n) l in
    let here : All (IsInFiles n) sites = subst P (sym same) files in
    λ k d h. ((here k d h, (numbers k d h).0), (numbers k d h).1)

pub names_length : (at : ℕ) (bs : List Block) → length (names_from at bs) ≡ length bs
names_length at [] = refl
names_length at (b ∷ bs) = ap suc (names_length (at + 4 * length b.code) bs)
