-- In a table that has each type once, two types of one identity are one type by number.
use Rattle.std.proofs.Common.{Result, Ok, Err, IfOk, OnOk, OnErr, get_or, ◌≡◌, ℕ, zero, suc, ◌<◌, ◌≤◌, List, [], ◌∷◌, ◌++◌, Option, Some, None, length, slice_get, slice_set, refl, sym, ◌∙◌, ap, subst, arith, All, inl, inr, ◌⊎◌, map}
use Rattle.std.proofs.lemmas.List.{length-append, length-set, length-map}
use Rattle.std.proofs.lemmas.List.Elements.{All-head, All-tail, All-weaker}
use Rattle.std.proofs.lemmas.Option.{slice_get_within, slice_get-map, slice_get-get_or}
use Rattle.std.specs.Option.{option_map}
use Rattle.std.specs.declared.alloc.AllocError.{AllocError}
use Rattle.odc_types.specs.declared.ty.Ty.{Ty}
use Rattle.odc_types.specs.declared.ty.TyId.{TyId}
use Rattle.odc_types.specs.declared.key.Key.{Key}
use Rattle.odc_types.specs.Nodes.{Node, Name, node, nodes as nodes_of}
use Rattle.odc_types.specs.Nodes as nodes
use Rattle.odc_types.specs.declared.ty.Field.{Field}
use Rattle.odc_types.specs.declared.ty.Param.{Param}
use Rattle.odc_types.specs.Identity.{Root, named, Identity, Identities, tree, unknown, none, more, root_of, all_of, identity_at, identity_of, identity_of_node, IsWhole, IsWholeTable, counted}
use Rattle.odc_types.specs.Parts.{HasPartsBelow, IsUndefined, IsSameName}
use Rattle.odc_types.specs.Below.{AreBelow}
use Rattle.odc_types.specs.Keys.{IsKeyOf, IsSameKey, kind_of, numbers_of}
use Rattle.odc_types.specs.Interned.{HaveOneKey, IsFresh, IsAt, AreKeysOf, IsInterned}
use Rattle.odc_types.proofs.KeyLemmas.{one_key, same_key, key_at, type_at_key, keys_added}
use Rattle.odc_types.proofs.IdentityLaws.{identity_deeper, identity_added, whole_added, whole_defined, get_end}

-- the identity of a type is that of its node over the identities of its parts
pub unfolds : (types : List Node) → IsWholeTable types → (t : ℕ) (n : Node) → slice_get types t ≡ Some n → identity_of types t ≡ identity_of_node (identity_of types) n
unfolds types table t n e =
    sym (identity_deeper types (length types) t (table.whole t (slice_get_within types t n e))) ∙ ap (λ o. identity_at (identity_of types) o) e

pub some_type : (types : List Node) (t : ℕ) → t < length types → (n : Node) × (slice_get types t ≡ Some n)
some_type [] t h = absurd (omega arith)
some_type (n ∷ ns) zero h = (n, refl)
some_type (n ∷ ns) (suc t) h = some_type ns t (omega arith)

tree_root : (r s : Root) (ps qs : Identities) → tree r ps ≡ tree s qs → r ≡ s
tree_root r s ps qs e = cc

tree_parts : (r s : Root) (ps qs : Identities) → tree r ps ≡ tree s qs → ps ≡ qs
tree_parts r s ps qs e = cc

all_below : (n : ℕ) (ts : List TyId) → All (λ (t : TyId). t.index < n) ts → AreBelow n ts
all_below n [] h = tt
all_below n (t ∷ ts) h = (All-head (λ (t : TyId). t.index < n) t ts h, all_below n ts (All-tail (λ (t : TyId). t.index < n) t ts h))

signature_below : (n : ℕ) (ps : List Param) (rs : List TyId) → All (λ (p : Param). p.ty.index < n) ps → All (λ (t : TyId). t.index < n) rs → AreBelow n (map (λ p. p.ty) ps ++ rs)
signature_below n [] rs hp hr = all_below n rs hr
signature_below n (p ∷ ps) rs hp hr = (All-head (λ (p : Param). p.ty.index < n) p ps hp, signature_below n ps rs (All-tail (λ (p : Param). p.ty.index < n) p ps hp) hr)

pub counted_below : (n : ℕ) (node : Node) → HasPartsBelow n node → AreBelow n (counted node)
counted_below n (nodes.pointer to) h = (h, tt)
counted_below n (nodes.array count of) h = (h, tt)
counted_below n (nodes.slice of) h = (h, tt)
counted_below n (nodes.dynamic of) h = (h, tt)
counted_below n (nodes.soa form of) h = (h, tt)
counted_below n (nodes.struct name None) h = all_below n name.types h
counted_below n (nodes.struct name (Some fs)) h = all_below n name.types h.0
counted_below n (nodes.union name None) h = all_below n name.types h
counted_below n (nodes.union name (Some vs)) h = all_below n name.types h.0
counted_below n (nodes.enum name base es) h = all_below n name.types h
counted_below n (nodes.distinct name None) h = all_below n name.types h
counted_below n (nodes.distinct name (Some b)) h = all_below n name.types h.0
counted_below n (nodes.procedure convention ps rs) h = signature_below n ps rs h.0 h.1
counted_below n nodes.truth h = tt
counted_below n (nodes.integer w) h = tt
counted_below n nodes.rune h = tt
counted_below n nodes.text h = tt
counted_below n nodes.rawptr h = tt

mutual
  -- two numbers of one identity are equal
  pub one_id : (keys : List Key) (types : List Node) → IsInterned keys types → (i : Identity) (a b : ℕ) → a < length types → b < length types → identity_of types a ≡ i → identity_of types b ≡ i → a ≡ b
  one_id keys types t unknown a b ha hb ea eb = absurd (subst IsWhole ea (t.whole.whole a ha))
  one_id keys types t (tree root parts) a b ha hb ea eb =
      let m = some_type types a ha in
      let n = some_type types b hb in
      let left : tree (root_of m.0) (all_of (identity_of types) (counted m.0)) ≡ tree root parts = sym (unfolds types t.whole a m.0 m.1) ∙ ea in
      let right : tree (root_of n.0) (all_of (identity_of types) (counted n.0)) ≡ tree root parts = sym (unfolds types t.whole b n.0 n.1) ∙ eb in
      let same : HaveOneKey m.0 n.0 = record {
        root = tree_root _ _ _ _ left ∙ sym (tree_root _ _ _ _ right);
        parts = one_ids keys types t parts (counted m.0) (counted n.0) (counted_below (length types) m.0 (t.parts a m.0 m.1)) (counted_below (length types) n.0 (t.parts b n.0 n.1)) (tree_parts _ _ _ _ left) (tree_parts _ _ _ _ right);
      } in
      t.apart a b m.0 n.0 m.1 n.1 same

  one_ids : (keys : List Key) (types : List Node) → IsInterned keys types → (is : Identities) (xs ys : List TyId) → AreBelow (length types) xs → AreBelow (length types) ys → all_of (identity_of types) xs ≡ is → all_of (identity_of types) ys ≡ is → xs ≡ ys
  one_ids keys types t none [] [] hx hy ex ey = refl
  one_ids keys types t none (x ∷ xs) ys hx hy ex ey = cc
  one_ids keys types t none [] (y ∷ ys) hx hy ex ey = cc
  one_ids keys types t (more i is) [] ys hx hy ex ey = cc
  one_ids keys types t (more i is) (x ∷ xs) [] hx hy ex ey = cc
  one_ids keys types t (more i is) (x ∷ xs) (y ∷ ys) hx hy ex ey =
      let first_x : identity_of types x.index ≡ i = cc in
      let first_y : identity_of types y.index ≡ i = cc in
      let rest_x : all_of (identity_of types) xs ≡ is = cc in
      let rest_y : all_of (identity_of types) ys ≡ is = cc in
      let first : x.index ≡ y.index = one_id keys types t i x.index y.index hx.0 hy.0 first_x first_y in
      let rest : xs ≡ ys = one_ids keys types t is xs ys hx.1 hy.1 rest_x rest_y in
      ap (λ n. (let z : TyId = record { index = n } in z) ∷ xs) first ∙ ap (λ zs. y ∷ zs) rest

-- equal lists of parts
pub same_instance : (keys : List Key) (types : List Node) → IsInterned keys types → (xs ys : List TyId) → All (λ (t : TyId). t.index < length types) xs → All (λ (t : TyId). t.index < length types) ys →
    all_of (identity_of types) xs ≡ all_of (identity_of types) ys → xs ≡ ys
same_instance keys types t xs ys hx hy e = one_ids keys types t (all_of (identity_of types) ys) xs ys (all_below (length types) xs hx) (all_below (length types) ys hy) e refl

-- the identity of a type that isn't in the table
pub at_has_identity : (keys : List Key) (types : List Node) → IsInterned keys types → (i : ℕ) (n : Node) → IsAt types i n → identity_of types i ≡ identity_of_node (identity_of types) n
at_has_identity keys types t i n at =
    unfolds types t.whole i at.node at.at ∙ ap (λ r. tree r (all_of (identity_of types) (counted at.node))) at.one.root ∙ ap (λ ts. tree (root_of n) (all_of (identity_of types) ts)) at.one.parts

pub fresh_has_none : (keys : List Key) (types : List Node) → IsInterned keys types → (n : Node) → IsFresh types n → HasPartsBelow (length types) n → (u : ℕ) → u < length types → identity_of types u ≡ identity_of_node (identity_of types) n → ⊥
fresh_has_none keys types t n fresh below u h e =
    let m = some_type types u h in
    let is : tree (root_of m.0) (all_of (identity_of types) (counted m.0)) ≡ tree (root_of n) (all_of (identity_of types) (counted n)) = sym (unfolds types t.whole u m.0 m.1) ∙ e in
    fresh.none u m.0 m.1 (record {
      root = tree_root _ _ _ _ is;
      parts = one_ids keys types t (all_of (identity_of types) (counted n)) (counted m.0) (counted n) (counted_below (length types) m.0 (t.parts u m.0 m.1)) (counted_below (length types) n below) (tree_parts _ _ _ _ is) refl;
    })

ids_more : (m n : ℕ) → m ≤ n → (ts : List TyId) → All (λ (t : TyId). t.index < m) ts → All (λ (t : TyId). t.index < n) ts
ids_more m n h ts all = All-weaker (λ (t : TyId). t.index < m) (λ (t : TyId). t.index < n) (λ t less. omega arith) ts all

pub below_more_types : (m n : ℕ) → m ≤ n → (node : Node) → HasPartsBelow m node → HasPartsBelow n node
below_more_types m n le (nodes.pointer to) h = omega arith
below_more_types m n le (nodes.array count of) h = omega arith
below_more_types m n le (nodes.slice of) h = omega arith
below_more_types m n le (nodes.dynamic of) h = omega arith
below_more_types m n le (nodes.soa form of) h = omega arith
below_more_types m n le (nodes.struct name None) h = ids_more m n le name.types h
below_more_types m n le (nodes.struct name (Some fs)) h = (ids_more m n le name.types h.0, All-weaker (λ (f : Field). f.ty.index < m) (λ (f : Field). f.ty.index < n) (λ f less. omega arith) fs h.1)
below_more_types m n le (nodes.union name None) h = ids_more m n le name.types h
below_more_types m n le (nodes.union name (Some vs)) h = (ids_more m n le name.types h.0, ids_more m n le vs h.1)
below_more_types m n le (nodes.enum name base es) h = ids_more m n le name.types h
below_more_types m n le (nodes.distinct name None) h = ids_more m n le name.types h
below_more_types m n le (nodes.distinct name (Some b)) h = (ids_more m n le name.types h.0, (let less = h.1 in omega arith))
below_more_types m n le (nodes.procedure convention ps rs) h = (All-weaker (λ (p : Param). p.ty.index < m) (λ (p : Param). p.ty.index < n) (λ p less. omega arith) ps h.0, ids_more m n le rs h.1)
below_more_types m n le nodes.truth h = h
below_more_types m n le (nodes.integer w) h = h
below_more_types m n le nodes.rune h = h
below_more_types m n le nodes.text h = h
below_more_types m n le nodes.rawptr h = h

pub get_last : {A : Type 0} (xs : List A) (x y : A) (i : ℕ) → slice_get (xs ++ (x ∷ [])) i ≡ Some y → (slice_get xs i ≡ Some y) ⊎ ((i ≡ length xs) × (x ≡ y))
get_last [] x y zero e = inr (refl, cc)
get_last [] x y (suc i) e = cc
get_last (z ∷ xs) x y zero e = inl e
get_last (z ∷ xs) x y (suc i) e = elim (get_last xs x y i e) [ inl here ↦ inl here | inr last ↦ inr (ap (λ k. suc k) last.0, last.1) ]

turned : (m n : Node) → HaveOneKey m n → HaveOneKey n m
turned m n h = record { root = sym h.root; parts = sym h.parts }

replaced : (m n n' : Node) → n ≡ n' → HaveOneKey m n' → HaveOneKey m n
replaced m n n' e h = record { root = h.root ∙ ap root_of (sym e); parts = h.parts ∙ ap counted (sym e) }

-- one more type, which the table didn't have
pub interned_added : (keys : List Key) (types : List Node) (k : Key) (n : Node) → IsInterned keys types → IsKeyOf k n → HasPartsBelow (length types) n → IsFresh types n → IsInterned (keys ++ (k ∷ [])) (types ++ (n ∷ []))
interned_added keys types k n t is below fresh =
    let longer : length types ≤ length (types ++ (n ∷ [])) = omega (arith, length-append types (n ∷ [])) in
    record {
      whole = whole_added types n t.whole below;
      parts = λ i m e. elim (get_last types n m i e) [
        | inl here ↦ below_more_types (length types) (length (types ++ (n ∷ []))) longer m (t.parts i m here)
        | inr last ↦ subst (HasPartsBelow (length (types ++ (n ∷ [])))) last.1 (below_more_types (length types) (length (types ++ (n ∷ []))) longer n below)
      ];
      apart = λ i j a b ea eb same. elim (get_last types n a i ea) [
        | inl here ↦ elim (get_last types n b j eb) [
          | inl there ↦ t.apart i j a b here there same
          | inr last ↦ absurd (fresh.none i a here (replaced a n b last.1 same))
        ]
        | inr last ↦ elim (get_last types n b j eb) [
          | inl there ↦ absurd (fresh.none j b there (replaced b n a last.1 (turned a b same)))
          | inr also ↦ last.0 ∙ sym also.0
        ]
      ];
      keyed = keys_added keys types k n t.keyed is;
    }

-- no type has a key that isn't kept
pub absent_key : (keys : List Key) (types : List Node) (k : Key) (n : Node) → IsInterned keys types → IsKeyOf k n → IsFresh types n → (i : ℕ) (j : Key) → slice_get keys i ≡ Some j → IsSameKey j k → ⊥
absent_key keys types k n t is fresh i j e same =
    let m = type_at_key keys types t.keyed i j e in
    fresh.none i m.0 m.1 (one_key j k m.0 n m.2 is same)

pub no_key : (keys : List Key) (types : List Node) (k : Key) → IsInterned keys types → ((i : ℕ) (j : Key) → slice_get keys i ≡ Some j → IsSameKey j k → ⊥) → (n : Node) → IsKeyOf k n → IsFresh types n
no_key keys types k t absent n is = record {
  none = λ i m e one. (let j = key_at keys types t.keyed i m e in absent i j.0 j.1 (same_key j.0 k m n j.2 is one));
}

pub some_key : (keys : List Key) (types : List Node) (k : Key) (i : ℕ) (j : Key) → IsInterned keys types → slice_get keys i ≡ Some j → IsSameKey j k → (n : Node) → IsKeyOf k n → IsAt types i n
some_key keys types k i j t e same n is =
    let m = type_at_key keys types t.keyed i j e in
    record { node = m.0; at = m.1; one = one_key j k m.0 n m.2 is same }

name_below : (n : ℕ) (a : Name) → All (λ (t : TyId). t.index < n) a.types → All (λ (t : TyId). t.index < n) a.types
name_below n a h = h

-- what a named type gets as its parts has its key
names_key : (keys : List Key) (types : List Node) → IsInterned keys types → (a b : Name) → All (λ (t : TyId). t.index < length types) a.types → All (λ (t : TyId). t.index < length types) b.types → IsSameName types a b →
    (named a.at a.numbers ≡ named b.at b.numbers) × (a.types ≡ b.types)
names_key keys types t a b ha hb s = (ap (λ at. named at a.numbers) s.place ∙ ap (λ ns. named b.at ns) s.numbers, same_instance keys types t a.types b.types ha hb s.instance)

pub defined_key : (keys : List Key) (types : List Node) → IsInterned keys types → (n again : Node) → HasPartsBelow (length types) n → HasPartsBelow (length types) again → IsUndefined types (Some n) again → HaveOneKey n again
defined_key keys types t (nodes.struct a None) (nodes.struct b None) hn hb u = let k = names_key keys types t a b hn hb u in record { root = k.0; parts = k.1 }
defined_key keys types t (nodes.struct a None) (nodes.struct b (Some fs)) hn hb u = let k = names_key keys types t a b hn hb.0 u in record { root = k.0; parts = k.1 }
defined_key keys types t (nodes.union a None) (nodes.union b None) hn hb u = let k = names_key keys types t a b hn hb u in record { root = k.0; parts = k.1 }
defined_key keys types t (nodes.union a None) (nodes.union b (Some vs)) hn hb u = let k = names_key keys types t a b hn hb.0 u in record { root = k.0; parts = k.1 }
defined_key keys types t (nodes.enum a base None) (nodes.enum b underlying es) hn hb u = let k = names_key keys types t a b hn hb u in record { root = k.0; parts = k.1 }
defined_key keys types t (nodes.distinct a None) (nodes.distinct b None) hn hb u = let k = names_key keys types t a b hn hb u in record { root = k.0; parts = k.1 }
defined_key keys types t (nodes.distinct a None) (nodes.distinct b (Some c)) hn hb u = let k = names_key keys types t a b hn hb.0 u in record { root = k.0; parts = k.1 }
defined_key keys types t n again hn hb u = absurd u

pub get_set : {A : Type 0} (xs : List A) (i j : ℕ) (x y z : A) → slice_get xs i ≡ Some x → slice_get (slice_set xs i y) j ≡ Some z → ((i ≡ j) × (y ≡ z)) ⊎ (slice_get xs j ≡ Some z)
get_set [] i j x y z e h = cc
get_set (w ∷ xs) zero zero x y z e h = inl (refl, cc)
get_set (w ∷ xs) zero (suc j) x y z e h = inr h
get_set (w ∷ xs) (suc i) zero x y z e h = inr h
get_set (w ∷ xs) (suc i) (suc j) x y z e h = elim (get_set xs i j x y z e h) [ inl here ↦ inl (ap (λ k. suc k) here.0, here.1) | inr there ↦ inr there ]

key_moves : (k : Key) (m n : Node) → HaveOneKey m n → IsKeyOf k m → IsKeyOf k n
key_moves k m n one is = record { kind = is.kind ∙ ap kind_of one.root; numbers = is.numbers ∙ ap numbers_of one.root; parts = is.parts ∙ one.parts }

keys_set : (keys : List Key) (types : List Node) (i : ℕ) (n again : Node) → AreKeysOf keys types → slice_get types i ≡ Some n → HaveOneKey n again → AreKeysOf keys (slice_set types i again)
keys_set [] [] i n again h e one = cc
keys_set [] (m ∷ ns) i n again h e one = absurd h
keys_set (k ∷ ks) [] i n again h e one = absurd h
keys_set (k ∷ ks) (m ∷ ns) zero n again h e one = (key_moves k n again one (subst (IsKeyOf k) (let same : m ≡ n = cc in same) h.0), h.1)
keys_set (k ∷ ks) (m ∷ ns) (suc i) n again h e one = (h.0, keys_set ks ns i n again h.1 e one)

transitive : (a b c : Node) → HaveOneKey a b → HaveOneKey b c → HaveOneKey a c
transitive a b c h g = record { root = h.root ∙ g.root; parts = h.parts ∙ g.parts }

-- a named type gets its parts
pub interned_defined : (keys : List Key) (types : List Node) (i : ℕ) (again : Node) → IsInterned keys types → HasPartsBelow (length types) again → IsUndefined types (slice_get types i) again → IsInterned keys (slice_set types i again)
interned_defined keys types i again t below u = by (slice_get types i) refl u
  where
    by : (o : Option Node) → slice_get types i ≡ o → IsUndefined types o again → IsInterned keys (slice_set types i again)
    by None e u = absurd u
    by (Some n) e u =
        let one : HaveOneKey n again = defined_key keys types t n again (t.parts i n e) below u in
        let same : length (slice_set types i again) ≡ length types = length-set types i again in
        record {
          whole = whole_defined types i again t.whole (subst (λ o. IsUndefined types o again) (sym e) u);
          parts = λ j m h. elim (get_set types i j n again m e h) [
            | inl here ↦ subst (λ k. HasPartsBelow k m) (sym same) (subst (HasPartsBelow (length types)) here.1 below)
            | inr there ↦ subst (λ k. HasPartsBelow k m) (sym same) (t.parts j m there)
          ];
          apart = λ j k a b ea eb both. elim (get_set types i j n again a e ea) [
            | inl here ↦ elim (get_set types i k n again b e eb) [
              | inl also ↦ sym here.0 ∙ also.0
              | inr there ↦ sym here.0 ∙ t.apart i k n b e there (transitive n again b one (transitive again a b (replaced again a again (sym here.1) (self again)) both))
            ]
            | inr there ↦ elim (get_set types i k n again b e eb) [
              | inl also ↦ t.apart j i a n there e (transitive a again n (replaced a again b also.1 both) (turned n again one)) ∙ also.0
              | inr too ↦ t.apart j k a b there too both
            ]
          ];
          keyed = keys_set keys types i n again t.keyed e one;
        }
      where
        self : (n : Node) → HaveOneKey n n
        self n = record { root = refl; parts = refl }

-- the node of the type at an index
pub node_at : (ts : List Ty) (i : ℕ) (x : Ty) → i < length (nodes_of ts) → x ≡ get_or ts i x → slice_get (nodes_of ts) i ≡ Some (node x)
node_at ts i x h e =
    let within : i < length ts = (let same = length-map ts node in omega arith) in
    slice_get-map node ts i ∙ ap (λ o. option_map node o) (slice_get-get_or ts i x within ∙ ap Some (sym e))

-- what is said of the number that a call gives
pub ok_at : (r : Result TyId AllocError) (i : ℕ) (P : ℕ → Type 0) → IfOk r (λ id. id.index ≡ i) → P i → IfOk r (λ id. P id.index)
ok_at (Ok id) i P e p = subst P (sym e) p
ok_at (Err e) i P h p = tt

-- what holds whether or not the table changed
pub either_way : {B : Type 0} (r : Result B AllocError) (new a b : List Node) → OnOk r (new ≡ a) → OnErr r (new ≡ b) → (P : List Node → Type 0) → P a → P b → P new
either_way (Ok x) new a b ok err P pa pb = subst P (sym ok) pa
either_way (Err x) new a b ok err P pa pb = subst P (sym err) pb

-- the identity that a fresh type has once it is added
pub added_identity : (keys : List Key) (types : List Node) (k : Key) (n : Node) → IsInterned keys types → IsKeyOf k n → HasPartsBelow (length types) n → IsFresh types n → identity_of (types ++ (n ∷ [])) (length types) ≡ identity_of_node (identity_of types) n
added_identity keys types k n t is below fresh =
    let more = interned_added keys types k n t is below fresh in
    unfolds (types ++ (n ∷ [])) more.whole (length types) n (get_end types n) ∙ ap (λ is. tree (root_of n) is) (all_kept types n t.whole (counted n) (counted_below (length types) n below))
  where
    all_kept : (types : List Node) (n : Node) → IsWholeTable types → (ts : List TyId) → AreBelow (length types) ts → all_of (identity_of (types ++ (n ∷ []))) ts ≡ all_of (identity_of types) ts
    all_kept types n w [] h = refl
    all_kept types n w (t ∷ ts) h = ap (λ i. more i (all_of (identity_of (types ++ (n ∷ []))) ts)) (identity_added types n w t.index h.0) ∙ ap (λ is. more (identity_of types t.index) is) (all_kept types n w ts h.1)

pub ok_added : (r : Result TyId AllocError) (new a : List Node) → OnOk r (new ≡ a) → (n : ℕ) → IfOk r (λ id. id.index ≡ n) → (P : ℕ → List Node → Type 0) → P n a → IfOk r (λ id. P id.index new)
ok_added (Ok id) new a ok n number P p = subst (λ i. P i new) (sym number) (subst (P n) (sym ok) p)
ok_added (Err e) new a ok n number P p = tt
