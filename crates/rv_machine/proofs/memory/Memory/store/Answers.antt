-- The bytes of each kind fill a buffer of their number.
use Rattle.std.proofs.Common.{◌≡◌, ℕ, List, ap, ◌∙◌, sym}
use Rattle.rv_table.specs.State.{filled, stored, store_bytes}
use Rattle.rv_table.specs.declared.effect.StoreKind.{StoreKind}
use Rattle.rv_table.specs.declared.effect.StoreKind.TheVariants.{Byte, Half, Word, Double}
use Rattle.rv_machine.proofs.memory.Memory.store.Goals as goal

pub returns-in-Byte-clause-is : goal.returns-in-Byte-clause-is
returns-in-Byte-clause-is c =
    let kind : c.args.kind ≡ Byte = c.in-Byte.is in
    let bytes : store_bytes Byte c.args.value ≡ c.to_le_bytes.result = sym c.to_le_bytes.ensures in
    let by_kind = ap (λ (k : StoreKind). stored c.args.self.now c.args.address (store_bytes k c.args.value)) kind in
    by_kind ∙ ap (λ (bs : List ℕ). filled c.args.self.now c.args.address 1 bs) bytes ∙ c.fill.ensures.is

pub returns-in-Half-clause-is : goal.returns-in-Half-clause-is
returns-in-Half-clause-is c =
    let kind : c.args.kind ≡ Half = c.in-Half.is in
    let bytes : store_bytes Half c.args.value ≡ c.to_le_bytes-in-Half.result = sym c.to_le_bytes-in-Half.ensures in
    let by_kind = ap (λ (k : StoreKind). stored c.args.self.now c.args.address (store_bytes k c.args.value)) kind in
    by_kind ∙ ap (λ (bs : List ℕ). filled c.args.self.now c.args.address 2 bs) bytes ∙ c.fill-in-Half.ensures.is

pub returns-in-Word-clause-is : goal.returns-in-Word-clause-is
returns-in-Word-clause-is c =
    let kind : c.args.kind ≡ Word = c.in-Word.is in
    let bytes : store_bytes Word c.args.value ≡ c.to_le_bytes-in-Word.result = sym c.to_le_bytes-in-Word.ensures in
    let by_kind = ap (λ (k : StoreKind). stored c.args.self.now c.args.address (store_bytes k c.args.value)) kind in
    by_kind ∙ ap (λ (bs : List ℕ). filled c.args.self.now c.args.address 4 bs) bytes ∙ c.fill-in-Word.ensures.is

pub returns-in-Double-clause-is : goal.returns-in-Double-clause-is
returns-in-Double-clause-is c =
    let kind : c.args.kind ≡ Double = c.in-Double.is in
    let bytes : store_bytes Double c.args.value ≡ c.to_le_bytes-in-Double.result = sym c.to_le_bytes-in-Double.ensures in
    let by_kind = ap (λ (k : StoreKind). stored c.args.self.now c.args.address (store_bytes k c.args.value)) kind in
    by_kind ∙ ap (λ (bs : List ℕ). filled c.args.self.now c.args.address 8 bs) bytes ∙ c.fill-in-Double.ensures.is
