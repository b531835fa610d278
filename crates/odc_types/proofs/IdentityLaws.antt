-- An identity stays: once it is whole, with more levels and with more types in the table; and where a named type gets its parts.
use Rattle.std.proofs.Common.{◌≡◌, ℕ, zero, suc, ◌<◌, ◌≤◌, List, [], ◌∷◌, ◌++◌, Option, Some, None, length, slice_get, slice_set, refl, sym, ◌∙◌, ap, subst, arith, map, All, inl, inr}
use Rattle.std.proofs.lemmas.Bool.{cases_lt, cases_eq}
use Rattle.odc_types.specs.declared.ty.TyId.{TyId}
use Rattle.odc_types.specs.Nodes as nodes
use Rattle.odc_types.specs.Nodes.{Node, Name}
use Rattle.odc_types.specs.Identity.{Identity, Identities, tree, unknown, none, more, root_of, all_of, identity, identity_at, identity_of, identity_of_node, named, IsWhole, AreWhole, IsWholeTable}
use Rattle.odc_types.specs.Identity as identity
use Rattle.odc_types.specs.declared.ty.Param.{Param}
use Rattle.std.proofs.lemmas.List.{length-append, length-set}
use Rattle.std.proofs.lemmas.List.Elements.{All-head, All-tail}
use Rattle.odc_types.specs.Parts.{IsUndefined, IsSameName, HasPartsBelow}
use Rattle.odc_types.proofs.Lists.{get_front, get_elsewhere}

all_same : (f g : ℕ → Identity) (ts : List TyId) → AreWhole (all_of f ts) → ((t : ℕ) → IsWhole (f t) → g t ≡ f t) → all_of g ts ≡ all_of f ts
all_same f g [] w h = refl
all_same f g (t ∷ ts) w h = ap (λ i. more i (all_of g ts)) (h t.index w.0) ∙ ap (λ is. more (f t.index) is) (all_same f g ts w.1 h)

node_same : (f g : ℕ → Identity) (o o' : Option Node) → ((n : Node) → o ≡ Some n → o' ≡ Some n) → IsWhole (identity_at f o) → ((t : ℕ) → IsWhole (f t) → g t ≡ f t) → identity_at g o' ≡ identity_at f o
node_same f g None o' k w h = absurd w
node_same f g (Some n) o' k w h = ap (λ o. identity_at g o) (k n refl) ∙ ap (λ is. tree (root_of n) is) (all_same f g (identity.counted n) w h)

-- one more level changes no whole identity
pub identity_deeper : (types : List Node) (k t : ℕ) → IsWhole (identity types k t) → identity types (suc k) t ≡ identity types k t
identity_deeper types zero t w = absurd w
identity_deeper types (suc k) t w = node_same (identity types k) (identity types (suc k)) (slice_get types t) (slice_get types t) (λ n e. e) w (identity_deeper types k)

-- nor do more types
pub identity_front : (types rest : List Node) (k t : ℕ) → IsWhole (identity types k t) → identity (types ++ rest) k t ≡ identity types k t
identity_front types rest zero t w = refl
identity_front types rest (suc k) t w = node_same (identity types k) (identity (types ++ rest) k) (slice_get types t) (slice_get (types ++ rest) t) (λ n e. get_front types rest t n e) w (identity_front types rest k)

-- an identity cut off at a depth
abbrev mutual
  pub cut : ℕ → Identity → Identity
  cut k unknown = unknown
  cut zero (tree root parts) = unknown
  cut (suc k) (tree root parts) = tree root (cuts k parts)

  pub cuts : ℕ → Identities → Identities
  cuts k none = none
  cuts k (more i is) = more (cut k i) (cuts k is)

cut_all : (f g : ℕ → Identity) (k : ℕ) (ts : List TyId) → ((t : ℕ) → f t ≡ cut k (g t)) → all_of f ts ≡ cuts k (all_of g ts)
cut_all f g k [] h = refl
cut_all f g k (t ∷ ts) h = ap (λ i. more i (all_of f ts)) (h t.index) ∙ ap (λ is. more (cut k (g t.index)) is) (cut_all f g k ts h)

cut_node : (f g : ℕ → Identity) (k : ℕ) (o : Option Node) → ((t : ℕ) → f t ≡ cut k (g t)) → identity_at f o ≡ cut (suc k) (identity_at g o)
cut_node f g k None h = refl
cut_node f g k (Some n) h = ap (λ is. tree (root_of n) is) (cut_all f g k (identity.counted n) h)

cut_zero : (i : Identity) → unknown ≡ cut zero i
cut_zero unknown = refl
cut_zero (tree root parts) = refl

-- fewer levels show the identity cut off
pub fewer : (types : List Node) (k j t : ℕ) → k ≤ j → identity types k t ≡ cut k (identity types j t)
fewer types zero j t h = cut_zero (identity types j t)
fewer types (suc k) zero t h = absurd (omega arith)
fewer types (suc k) (suc j) t h = cut_node (identity types k) (identity types j) k (slice_get types t) (λ u. fewer types k j u (omega arith))

get_changed : {A : Type 0} (xs : List A) (i : ℕ) (x y : A) → slice_get xs i ≡ Some x → slice_get (slice_set xs i y) i ≡ Some y
get_changed [] i x y e = cc
get_changed (z ∷ xs) zero x y e = refl
get_changed (z ∷ xs) (suc i) x y e = get_changed xs i x y e

pointwise : (f g : ℕ → Identity) (ts : List TyId) → ((t : ℕ) → g t ≡ f t) → all_of g ts ≡ all_of f ts
pointwise f g [] h = refl
pointwise f g (t ∷ ts) h = ap (λ i. more i (all_of g ts)) (h t.index) ∙ ap (λ is. more (f t.index) is) (pointwise f g ts h)

-- names of one place and instance, at fewer levels too
same_name : (types : List Node) (a b : Name) (k : ℕ) (g : ℕ → Identity) → k ≤ length types → IsSameName types a b → ((t : ℕ) → g t ≡ identity types k t) →
    tree (named b.at b.numbers) (all_of g b.types) ≡ tree (named a.at a.numbers) (all_of (identity types k) a.types)
same_name types a b k g h s same =
    let down = λ (ts : List TyId). cut_all (identity types k) (identity types (length types)) k ts (λ t. fewer types k (length types) t h) in
    let parts : all_of g b.types ≡ all_of (identity types k) a.types =
    pointwise (identity types k) g b.types same ∙ down b.types ∙ ap (λ is. cuts k is) (sym s.instance) ∙ sym (down a.types) in
    ap (λ is. tree (named b.at b.numbers) is) parts ∙ ap (λ at. tree (named at b.numbers) (all_of (identity types k) a.types)) (sym s.place) ∙ ap (λ ns. tree (named a.at ns) (all_of (identity types k) a.types)) (sym s.numbers)

by_kind : (types : List Node) (k : ℕ) (g : ℕ → Identity) (n again : Node) → k ≤ length types → IsUndefined types (Some n) again → ((t : ℕ) → g t ≡ identity types k t) →
    identity_of_node g again ≡ identity_of_node (identity types k) n
by_kind types k g (nodes.struct a None) (nodes.struct b fields) h u same = same_name types a b k g h u same
by_kind types k g (nodes.union a None) (nodes.union b variants) h u same = same_name types a b k g h u same
by_kind types k g (nodes.enum a base None) (nodes.enum b underlying enumerators) h u same = same_name types a b k g h u same
by_kind types k g (nodes.distinct a None) (nodes.distinct b base) h u same = same_name types a b k g h u same
by_kind types k g n again h u same = absurd u

-- a type that gets its parts keeps its identity, and all others keep theirs
pub identity_parts : (types : List Node) (i : ℕ) (again : Node) → IsUndefined types (slice_get types i) again → (k : ℕ) → k ≤ length types → (t : ℕ) → identity (slice_set types i again) k t ≡ identity types k t
identity_parts types i again u zero h t = refl
identity_parts types i again u (suc k) h t = at_by (slice_get types i) refl u (identity_parts types i again u k (omega arith))
  where
    at_by : (o : Option Node) → slice_get types i ≡ o → IsUndefined types o again → ((t : ℕ) → identity (slice_set types i again) k t ≡ identity types k t) → identity (slice_set types i again) (suc k) t ≡ identity types (suc k) t
    at_by None e u same = absurd u
    at_by (Some n) e u same = elim (cases_eq t i) [
      | inl here ↦ (
          let after : slice_get (slice_set types i again) t ≡ Some again = ap (λ x. slice_get (slice_set types i again) x) here ∙ get_changed types i n again e in
          let before : slice_get types t ≡ Some n = ap (λ x. slice_get types x) here ∙ e in
          ap (λ o. identity_at (identity (slice_set types i again) k) o) after ∙ by_kind types k (identity (slice_set types i again) k) n again (omega arith) u same ∙ ap (λ o. identity_at (identity types k) o) (sym before))
      | inr elsewhere ↦ ap (λ o. identity_at (identity (slice_set types i again) k) o) (get_elsewhere types i t again elsewhere) ∙ at_same (slice_get types t) same
    ]
      where
        at_same : (o : Option Node) → ((t : ℕ) → identity (slice_set types i again) k t ≡ identity types k t) → identity_at (identity (slice_set types i again) k) o ≡ identity_at (identity types k) o
        at_same None same = refl
        at_same (Some m) same = ap (λ is. tree (root_of m) is) (pointwise (identity types k) (identity (slice_set types i again) k) (identity.counted m) same)

all_whole : (f : ℕ → Identity) (n : ℕ) (ts : List TyId) → ((t : ℕ) → t < n → IsWhole (f t)) → All (λ (t : TyId). t.index < n) ts → AreWhole (all_of f ts)
all_whole f n [] h below = tt
all_whole f n (t ∷ ts) h below = (h t.index (All-head (λ (t : TyId). t.index < n) t ts below), all_whole f n ts h (All-tail (λ (t : TyId). t.index < n) t ts below))

signature_whole : (f : ℕ → Identity) (n : ℕ) (ps : List Param) (rs : List TyId) → ((t : ℕ) → t < n → IsWhole (f t)) → All (λ (p : Param). p.ty.index < n) ps → All (λ (t : TyId). t.index < n) rs → AreWhole (all_of f (map (λ p. p.ty) ps ++ rs))
signature_whole f n [] rs h ps below = all_whole f n rs h below
signature_whole f n (p ∷ ps) rs h belows below = (h p.ty.index (All-head (λ (p : Param). p.ty.index < n) p ps belows), signature_whole f n ps rs h (All-tail (λ (p : Param). p.ty.index < n) p ps belows) below)

node_whole : (f : ℕ → Identity) (n : ℕ) (node : Node) → ((t : ℕ) → t < n → IsWhole (f t)) → HasPartsBelow n node → AreWhole (all_of f (identity.counted node))
node_whole f n (nodes.pointer to) h below = (h to.index below, tt)
node_whole f n (nodes.array count of) h below = (h of.index below, tt)
node_whole f n (nodes.slice of) h below = (h of.index below, tt)
node_whole f n (nodes.dynamic of) h below = (h of.index below, tt)
node_whole f n (nodes.soa form of) h below = (h of.index below, tt)
node_whole f n (nodes.struct name None) h below = all_whole f n name.types h below
node_whole f n (nodes.struct name (Some fs)) h below = all_whole f n name.types h below.0
node_whole f n (nodes.union name None) h below = all_whole f n name.types h below
node_whole f n (nodes.union name (Some vs)) h below = all_whole f n name.types h below.0
node_whole f n (nodes.enum name base es) h below = all_whole f n name.types h below
node_whole f n (nodes.distinct name None) h below = all_whole f n name.types h below
node_whole f n (nodes.distinct name (Some b)) h below = all_whole f n name.types h below.0
node_whole f n (nodes.procedure convention ps rs) h below = signature_whole f n ps rs h below.0 below.1
node_whole f n nodes.truth h below = tt
node_whole f n (nodes.integer w) h below = tt
node_whole f n nodes.rune h below = tt
node_whole f n nodes.text h below = tt
node_whole f n nodes.rawptr h below = tt

pub get_end : {A : Type 0} (xs : List A) (x : A) → slice_get (xs ++ (x ∷ [])) (length xs) ≡ Some x
get_end [] x = refl
get_end (y ∷ xs) x = get_end xs x

one_longer : (types : List Node) (n : Node) → length (types ++ (n ∷ [])) ≡ suc (length types)
one_longer types n = length-append types (n ∷ []) ∙ omega arith

front_whole : (types : List Node) (n : Node) (t : ℕ) → IsWhole (identity_of types t) → IsWhole (identity (types ++ (n ∷ [])) (length types) t)
front_whole types n t w = subst IsWhole (sym (identity_front types (n ∷ []) (length types) t w)) w

-- one more type leaves the identities of the others
pub identity_added : (types : List Node) (n : Node) → IsWholeTable types → (t : ℕ) → t < length types → identity_of (types ++ (n ∷ [])) t ≡ identity_of types t
identity_added types n table t h =
    let w = table.whole t h in
    ap (λ k. identity (types ++ (n ∷ [])) k t) (one_longer types n) ∙ identity_deeper (types ++ (n ∷ [])) (length types) t (front_whole types n t w) ∙ identity_front types (n ∷ []) (length types) t w

pub whole_added : (types : List Node) (n : Node) → IsWholeTable types → HasPartsBelow (length types) n → IsWholeTable (types ++ (n ∷ []))
whole_added types n table below = record {
  whole = λ t h. elim (cases_lt t (length types)) [
    | inl before ↦ subst IsWhole (sym (identity_added types n table t before)) (table.whole t before)
    | inr after ↦ (
        let longer = one_longer types n in
        let last : t ≡ length types = omega arith in
        let found : slice_get (types ++ (n ∷ [])) t ≡ Some n = ap (λ x. slice_get (types ++ (n ∷ [])) x) last ∙ get_end types n in
        let is : identity_of (types ++ (n ∷ [])) t ≡ identity_of_node (identity (types ++ (n ∷ [])) (length types)) n =
        ap (λ k. identity (types ++ (n ∷ [])) k t) longer ∙ ap (λ o. identity_at (identity (types ++ (n ∷ [])) (length types)) o) found in
        subst IsWhole (sym is) (node_whole (identity (types ++ (n ∷ [])) (length types)) (length types) n (λ p less. front_whole types n p (table.whole p less)) below))
  ];
}

-- parts leave all identities
pub identity_defined : (types : List Node) (i : ℕ) (again : Node) → IsUndefined types (slice_get types i) again → (t : ℕ) → identity_of (slice_set types i again) t ≡ identity_of types t
identity_defined types i again u t =
    ap (λ k. identity (slice_set types i again) k t) (length-set types i again) ∙ identity_parts types i again u (length types) (omega arith) t

pub whole_defined : (types : List Node) (i : ℕ) (again : Node) → IsWholeTable types → IsUndefined types (slice_get types i) again → IsWholeTable (slice_set types i again)
whole_defined types i again table u = record { whole = λ t h. subst IsWhole (sym (identity_defined types i again u t)) (table.whole t (let same = length-set types i again in omega arith)) }

pub whole_empty : IsWholeTable []
whole_empty = record { whole = λ t h. absurd (omega arith) }
