use Rattle.std.proofs.Common.{◌≡◌, refl, subst, length, ℕ, ◌<◌, ◌++◌, ◌∷◌, [], ◌⊎◌, inl}
use Rattle.std.proofs.lemmas.Option.{slice_get_within}
use Rattle.odc_types.specs.Nodes.{node}
use Rattle.odc_types.specs.Identity.{identity_of, identity_of_node}
use Rattle.odc_types.specs.Layout.{HasSize, layout_of}
use Rattle.odc_types.specs.Interned.{IsInterned, IsAt, IsFresh}
use Rattle.odc_types.proofs.InternedLaws.{at_has_identity, fresh_has_none, one_id, ok_at, either_way, added_identity, ok_added}
use Rattle.odc_types.proofs.IdentityLaws.{identity_added}
use Rattle.odc_types.proofs.LayoutLaws.{keeps_layout, grows_at_end}
use Rattle.odc_types.proofs.table.TypeTable.add.Goals as goal

pub returns-in-Some-clause-identity : goal.returns-in-Some-clause-identity
returns-in-Some-clause-identity c =
    let keys = c.self.inside.keys.keys in
    let table : IsInterned keys c.args.self.now = subst (IsInterned keys) c.self.view_is c.self.invariant.interned in
    let at : IsAt c.args.self.now c.in-Some.index (node c.args.t) = c.in-Some.ensures.some (node c.args.t) c.in_ok-key.ensures in
    ok_at c.numbered.result c.in-Some.index (λ i. identity_of c.args.self.now i ≡ identity_of_node (identity_of c.args.self.now) (node c.args.t)) c.numbered.ensures
    (at_has_identity keys c.args.self.now table c.in-Some.index (node c.args.t) at)

pub returns-in-Some-clause-within : goal.returns-in-Some-clause-within
returns-in-Some-clause-within c =
    let at : IsAt c.args.self.now c.in-Some.index (node c.args.t) = c.in-Some.ensures.some (node c.args.t) c.in_ok-key.ensures in
    ok_at c.numbered.result c.in-Some.index (λ i. i < length c.args.self.now) c.numbered.ensures (slice_get_within c.args.self.now c.in-Some.index at.node at.at)

pub returns-in-Some-clause-added : goal.returns-in-Some-clause-added
returns-in-Some-clause-added c =
    let at : IsAt c.args.self.now c.in-Some.index (node c.args.t) = c.in-Some.ensures.some (node c.args.t) c.in_ok-key.ensures in
    ok_at c.numbered.result c.in-Some.index (λ i. (i < length c.args.self.now × (c.args.self.now ≡ c.args.self.now)) ⊎ ((i ≡ length c.args.self.now) × (c.args.self.now ≡ c.args.self.now ++ (node c.args.t ∷ [])))) c.numbered.ensures
    (inl (slice_get_within c.args.self.now c.in-Some.index at.node at.at, refl))

pub returns-in-Some-clause-known : goal.returns-in-Some-clause-known
returns-in-Some-clause-known c =
    let keys = c.self.inside.keys.keys in
    let table : IsInterned keys c.args.self.now = subst (IsInterned keys) c.self.view_is c.self.invariant.interned in
    let at : IsAt c.args.self.now c.in-Some.index (node c.args.t) = c.in-Some.ensures.some (node c.args.t) c.in_ok-key.ensures in
    ok_at c.numbered.result c.in-Some.index (λ i. (u : ℕ) → u < length c.args.self.now → identity_of c.args.self.now u ≡ identity_of_node (identity_of c.args.self.now) (node c.args.t) → (i ≡ u) × (c.args.self.now ≡ c.args.self.now)) c.numbered.ensures
    (λ u h e. (one_id keys c.args.self.now table (identity_of_node (identity_of c.args.self.now) (node c.args.t)) c.in-Some.index u (slice_get_within c.args.self.now c.in-Some.index at.node at.at) h (at_has_identity keys c.args.self.now table c.in-Some.index (node c.args.t) at) e, refl))

pub returns-in-None-clause-identity : goal.returns-in-None-clause-identity
returns-in-None-clause-identity c =
    let keys = c.self.inside.keys.keys in
    let table : IsInterned keys c.args.self.now = subst (IsInterned keys) c.self.view_is c.self.invariant.interned in
    let fresh : IsFresh c.args.self.now (node c.args.t) = c.in-None.ensures.none (node c.args.t) c.in_ok-key.ensures in
    ok_added c.append.result c.append.new.self (c.args.self.now ++ (node c.args.t ∷ [])) c.append.ensures.ok (length c.args.self.now) c.append.ensures.number
    (λ i ns. identity_of ns i ≡ identity_of_node (identity_of c.args.self.now) (node c.args.t))
    (added_identity keys c.args.self.now c.in_ok-key.key (node c.args.t) table c.in_ok-key.ensures c.requires fresh)

pub returns-in-None-clause-known : goal.returns-in-None-clause-known
returns-in-None-clause-known c =
    let keys = c.self.inside.keys.keys in
    let table : IsInterned keys c.args.self.now = subst (IsInterned keys) c.self.view_is c.self.invariant.interned in
    let fresh : IsFresh c.args.self.now (node c.args.t) = c.in-None.ensures.none (node c.args.t) c.in_ok-key.ensures in
    ok_added c.append.result c.append.new.self (c.args.self.now ++ (node c.args.t ∷ [])) c.append.ensures.ok (length c.args.self.now) c.append.ensures.number
    (λ i ns. (u : ℕ) → u < length c.args.self.now → identity_of c.args.self.now u ≡ identity_of_node (identity_of c.args.self.now) (node c.args.t) → (i ≡ u) × (ns ≡ c.args.self.now))
    (λ u h e. absurd (fresh_has_none keys c.args.self.now table (node c.args.t) fresh c.requires u h e))

pub returns-in-None-clause-identities : goal.returns-in-None-clause-identities
returns-in-None-clause-identities c =
    let keys = c.self.inside.keys.keys in
    let table : IsInterned keys c.args.self.now = subst (IsInterned keys) c.self.view_is c.self.invariant.interned in
    either_way c.append.result c.append.new.self (c.args.self.now ++ (node c.args.t ∷ [])) c.args.self.now c.append.ensures.ok c.append.ensures.err
    (λ ns. (u : ℕ) → u < length c.args.self.now → identity_of ns u ≡ identity_of c.args.self.now u)
    (λ u h. identity_added c.args.self.now (node c.args.t) table.whole u h) (λ u h. refl)

pub returns-in-None-clause-layouts : goal.returns-in-None-clause-layouts
returns-in-None-clause-layouts c =
    either_way c.append.result c.append.new.self (c.args.self.now ++ (node c.args.t ∷ [])) c.args.self.now c.append.ensures.ok c.append.ensures.err
    (λ ns. (u : ℕ) → HasSize c.args.self.now u → layout_of ns u ≡ layout_of c.args.self.now u)
    (λ u h. keeps_layout c.args.self.now (c.args.self.now ++ (node c.args.t ∷ [])) (grows_at_end c.self.inside.keys.keys c.args.self.now (node c.args.t) (subst (IsInterned c.self.inside.keys.keys) c.self.view_is c.self.invariant.interned)) u h) (λ u h. refl)
