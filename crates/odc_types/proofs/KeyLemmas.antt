-- The key of a type tells its root: whoever has the key has the root back.
use Rattle.std.proofs.Common.{◌≡◌, ℕ, ℤ, pos, negsuc, nat_eq, if◌then◌else◌, List, [], ◌∷◌, ◌++◌, Some, refl, sym, ◌∙◌, ap, length, slice_get, zero, suc}
use Rattle.odc_types.specs.declared.width.Width.{Width}
use Rattle.odc_types.specs.declared.width.Width.TheVariants.{Int, Uint, I8, I16, I32, I64, U8, U16, U32, U64}
use Rattle.odc_types.specs.declared.ty.Convention.TheVariants.{Odin, Contextless}
use Rattle.odc_types.specs.declared.ty.SoaForm.TheVariants.{Fixed, Slice, Dyn}
use Rattle.odc_types.specs.declared.key.Kind.{Kind}
use Rattle.odc_types.specs.declared.key.Kind.TheVariants as kind
use Rattle.odc_types.specs.declared.key.Key.{Key}
use Rattle.odc_types.specs.Nodes.{Node}
use Rattle.odc_types.specs.Identity.{Root, truth, integer, rune, text, rawptr, pointer, array, slice, dynamic, soa, named, procedure, root_of, counted}
use Rattle.odc_types.specs.Interned.{AreKeysOf, HaveOneKey}
use Rattle.odc_types.specs.Keys.{kind_of, numbers_of, width_number, IsKeyOf, IsSameKey}

-- a number that isn't negative
abbrev size_of_int : ℤ → ℕ
size_of_int (pos n) = n
size_of_int (negsuc n) = 0

abbrev width_from : ℕ → Width
width_from n =
    if nat_eq n 0 then Int else if nat_eq n 1 then Uint else if nat_eq n 2 then I8 else if nat_eq n 3 then I16 else if nat_eq n 4 then I32 else
    if nat_eq n 5 then I64 else if nat_eq n 6 then U8 else if nat_eq n 7 then U16 else if nat_eq n 8 then U32 else U64

width_back : (w : Width) → width_from (size_of_int (width_number w)) ≡ w
width_back Int = refl
width_back Uint = refl
width_back I8 = refl
width_back I16 = refl
width_back I32 = refl
width_back I64 = refl
width_back U8 = refl
width_back U16 = refl
width_back U32 = refl
width_back U64 = refl

abbrev first : List ℤ → ℕ
first [] = 0
first (z ∷ zs) = size_of_int z

abbrev rest : List ℤ → List ℤ
rest [] = []
rest (z ∷ zs) = zs

abbrev root_from : Kind → List ℤ → Root
root_from kind.Bool ns = truth
root_from kind.Int ns = integer (width_from (first ns))
root_from kind.Rune ns = rune
root_from kind.Text ns = text
root_from kind.RawPtr ns = rawptr
root_from kind.Ptr ns = pointer
root_from kind.Array ns = array (first ns)
root_from kind.Slice ns = slice
root_from kind.Dyn ns = dynamic
root_from kind.SoaFixed ns = soa (Fixed (first ns))
root_from kind.SoaSlice ns = soa Slice
root_from kind.SoaDyn ns = soa Dyn
root_from kind.Named ns = named (record { file = first ns; line = first (rest ns); column = first (rest (rest ns)) }) (rest (rest (rest ns)))
root_from kind.Proc ns = procedure Odin (first ns)
root_from kind.Contextless ns = procedure Contextless (first ns)

root_back : (r : Root) → root_from (kind_of r) (numbers_of r) ≡ r
root_back truth = refl
root_back (integer w) = ap integer (width_back w)
root_back rune = refl
root_back text = refl
root_back rawptr = refl
root_back pointer = refl
root_back (array n) = refl
root_back slice = refl
root_back dynamic = refl
root_back (soa (Fixed n)) = refl
root_back (soa Slice) = refl
root_back (soa Dyn) = refl
root_back (named at ns) = refl
root_back (procedure Odin n) = refl
root_back (procedure Contextless n) = refl

-- one kind and the same numbers: one root
pub root_same : (r s : Root) → kind_of r ≡ kind_of s → numbers_of r ≡ numbers_of s → r ≡ s
root_same r s k n = sym (root_back r) ∙ ap (λ x. root_from x (numbers_of r)) k ∙ ap (λ x. root_from (kind_of s) x) n ∙ root_back s

pub one_key : (a b : Key) (m n : Node) → IsKeyOf a m → IsKeyOf b n → IsSameKey a b → HaveOneKey m n
one_key a b m n ka kb same = record {
  root = root_same (root_of m) (root_of n) (sym ka.kind ∙ same.kind ∙ kb.kind) (sym ka.numbers ∙ same.numbers ∙ kb.numbers);
  parts = sym ka.parts ∙ same.parts ∙ kb.parts;
}

pub same_key : (a b : Key) (m n : Node) → IsKeyOf a m → IsKeyOf b n → HaveOneKey m n → IsSameKey a b
same_key a b m n ka kb one = record {
  kind = ka.kind ∙ ap kind_of one.root ∙ sym kb.kind;
  numbers = ka.numbers ∙ ap numbers_of one.root ∙ sym kb.numbers;
  parts = ka.parts ∙ one.parts ∙ sym kb.parts;
}

pub same_count : (ks : List Key) (ns : List Node) → AreKeysOf ks ns → length ks ≡ length ns
same_count [] [] h = refl
same_count [] (n ∷ ns) h = absurd h
same_count (k ∷ ks) [] h = absurd h
same_count (k ∷ ks) (n ∷ ns) h = ap (λ x. suc x) (same_count ks ns h.1)

-- where a type stands, its key stands
pub key_at : (ks : List Key) (ns : List Node) → AreKeysOf ks ns → (i : ℕ) (n : Node) → slice_get ns i ≡ Some n → (k : Key) × (slice_get ks i ≡ Some k) × IsKeyOf k n
key_at [] [] h i n e = cc
key_at [] (m ∷ ns) h i n e = absurd h
key_at (k ∷ ks) [] h i n e = absurd h
key_at (k ∷ ks) (m ∷ ns) h zero n e = (k, refl, (let same : m ≡ n = cc in subst_key k m n same h.0))
  where
    subst_key : (k : Key) (m n : Node) → m ≡ n → IsKeyOf k m → IsKeyOf k n
    subst_key k m n same h = record { kind = h.kind ∙ ap (λ x. kind_of (root_of x)) same; numbers = h.numbers ∙ ap (λ x. numbers_of (root_of x)) same; parts = h.parts ∙ ap counted same }
key_at (k ∷ ks) (m ∷ ns) h (suc i) n e = key_at ks ns h.1 i n e

-- and where a key stands, its type stands
pub type_at_key : (ks : List Key) (ns : List Node) → AreKeysOf ks ns → (i : ℕ) (k : Key) → slice_get ks i ≡ Some k → (n : Node) × (slice_get ns i ≡ Some n) × IsKeyOf k n
type_at_key [] [] h i k e = cc
type_at_key [] (m ∷ ns) h i k e = absurd h
type_at_key (j ∷ ks) [] h i k e = absurd h
type_at_key (j ∷ ks) (m ∷ ns) h zero k e = (m, refl, (let same : j ≡ k = cc in subst_key j k m same h.0))
  where
    subst_key : (j k : Key) (m : Node) → j ≡ k → IsKeyOf j m → IsKeyOf k m
    subst_key j k m same h = record { kind = ap (λ (x : Key). x.kind) (sym same) ∙ h.kind; numbers = ap (λ (x : Key). x.numbers.items) (sym same) ∙ h.numbers; parts = ap (λ (x : Key). x.parts.items) (sym same) ∙ h.parts }
type_at_key (j ∷ ks) (m ∷ ns) h (suc i) k e = type_at_key ks ns h.1 i k e

pub keys_added : (ks : List Key) (ns : List Node) (k : Key) (n : Node) → AreKeysOf ks ns → IsKeyOf k n → AreKeysOf (ks ++ (k ∷ [])) (ns ++ (n ∷ []))
keys_added [] [] k n h is = (is, tt)
keys_added [] (m ∷ ns) k n h is = absurd h
keys_added (j ∷ ks) [] k n h is = absurd h
keys_added (j ∷ ks) (m ∷ ns) k n h is = (h.0, keys_added ks ns k n h.1 is)
