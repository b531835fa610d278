use Rattle.std.proofs.Common.{ap, sym, ◌∙◌, subst, length, ◌≡◌, ◌++◌, ◌∷◌, [], ◌+◌, refl}
use Rattle.std.proofs.lemmas.List.{map-append, length-map}
use Rattle.std.specs.Vec.{vec_len}
use Rattle.odc_types.specs.Nodes.{node, nodes}
use Rattle.odc_types.specs.Parts.{HasPartsBelow}
use Rattle.odc_types.specs.Heights.{AreHeights}
use Rattle.odc_types.specs.Interned.{IsInterned, IsFresh}
use Rattle.odc_types.specs.Measured.{IsTable, extent_in}
use Rattle.odc_types.proofs.InternedLaws.{absent_key}
use Rattle.odc_types.proofs.MeasuredLaws.{taken_off}
use Rattle.odc_types.proofs.TableLaws.{found_as, found_within, table_again, table_added}
use Rattle.odc_types.proofs.table.TypeTable.append.Goals as goal

pub push-requires-clause-within : goal.push-requires-clause-within
push-requires-clause-within c =
    let types = nodes c.self.inside.types.items in
    let t = c.self.invariant in
    let n = node c.args.t in
    let below = subst (λ ns. HasPartsBelow (length ns) n) (sym c.self.view_is) c.requires.below in
    let seen = ap nodes c.as_slice-2.ensures.value in
    let number : c.in_ok-id.id.index ≡ length types = c.in_ok-id.ensures ∙ c.len.ensures ∙ sym c.as_slice-2.ensures.len ∙ sym (length-map c.as_slice-2.result.now node) ∙ ap (λ ns. length ns) seen in
    found_within c.self.inside.keys.keys types (nodes c.as_slice-2.result.now) c.self.inside.kept.extents.items c.as_slice-3.result.now n c.in_ok-id.id.index (length c.self.inside.kept.waiters.items) c.measured-found.result seen c.as_slice-3.ensures.value number t.measured.lists t.interned below c.measured-found.ensures.err

pub invariant_of-self : goal.invariant_of-self
invariant_of-self c =
    let kept = c.self.inside.kept in
    let same = c.in_err-push.ensures.err in
    table_again c.self.inside.keys.keys (nodes c.self.inside.types.items) kept.heights.items c.push.new.self.heights.items kept.extents.items c.push.new.self.extents.items kept.waiters.items c.push.new.self.waiters.items c.self.invariant same.0 same.1 same.2 c.in_err-push.ensures.longer

pub invariant_of-self-in-Err : goal.invariant_of-self-in-Err
invariant_of-self-in-Err c =
    let keys = c.self.inside.keys.keys in
    let kept = c.self.inside.kept in
    let pushed = c.in_ok-push.ensures in
    let lists = c.pop.ensures.waiters kept.waiters.items pushed.longer pushed.len in
    subst (λ ns. IsTable keys ns c.pop.new.self.heights.items c.pop.new.self.extents.items c.pop.new.self.waiters.items) (sym (ap nodes c.in-Err.ensures.items))
    (table_again keys (nodes c.self.inside.types.items) kept.heights.items c.pop.new.self.heights.items kept.extents.items c.pop.new.self.extents.items kept.waiters.items c.pop.new.self.waiters.items c.self.invariant
    (c.pop.ensures.heights kept.heights.items c.height_of-height.result pushed.heights) (c.pop.ensures.extents kept.extents.items (extent_in c.measured-found.result) pushed.extents) lists.1 lists.0)

pub put-requires : goal.put-requires
put-requires c =
    let table : IsInterned c.self.inside.keys.keys c.args.self.now = subst (IsInterned c.self.inside.keys.keys) c.self.view_is c.self.invariant.interned in
    absent_key c.self.inside.keys.keys c.args.self.now c.args.key (node c.args.t) table c.requires.key c.requires.fresh

pub invariant_of-self-in-Err-put : goal.invariant_of-self-in-Err-put
invariant_of-self-in-Err-put c =
    let keys = c.self.inside.keys.keys in
    let types = c.self.inside.types.items in
    let kept = c.self.inside.kept in
    let pushed = c.in_ok-push.ensures in
    let popped = c.pop-in-Err-put-2.ensures in
    let after = c.pop-in-Err-put-2.new.self in
    let lists = popped.waiters kept.waiters.items pushed.longer pushed.len in
    let count : vec_len c.push-2.new.self ≡ length types + 1 = c.in_default.ensures.len ∙ ap (λ k. k + 1) (sym c.as_slice-2.ensures.len ∙ ap (λ ts. length ts) c.as_slice-2.ensures.value) in
    let back = ap nodes (taken_off types c.push-2.new.self.items c.pop-in-Err-put.new.self.items c.args.t (vec_len c.push-2.new.self) c.in_default.ensures.items c.pop-in-Err-put.ensures.rest count) in
    subst (λ ks. IsTable ks (nodes c.pop-in-Err-put.new.self.items) after.heights.items after.extents.items after.waiters.items) (sym c.in-Err-put.ensures.err)
    (subst (λ ns. IsTable keys ns after.heights.items after.extents.items after.waiters.items) (sym back)
    (table_again keys (nodes types) kept.heights.items after.heights.items kept.extents.items after.extents.items kept.waiters.items after.waiters.items c.self.invariant
    (popped.heights kept.heights.items c.height_of-height.result pushed.heights) (popped.extents kept.extents.items (extent_in c.measured-found.result) pushed.extents) lists.1 lists.0))

pub invariant_of-self-in_default-put : goal.invariant_of-self-in_default-put
invariant_of-self-in_default-put c =
    let keys = c.self.inside.keys.keys in
    let types = nodes c.self.inside.types.items in
    let kept = c.self.inside.kept in
    let t = c.self.invariant in
    let n = node c.args.t in
    let found = c.measured-found.result in
    let pushed = c.in_ok-push.ensures in
    let vs = c.push.new.self.waiters.items in
    let now : c.args.self.now ≡ types = sym c.self.view_is in
    let seen = ap nodes c.as_slice-2.ensures.value in
    let number : c.in_ok-id.id.index ≡ length types = c.in_ok-id.ensures ∙ c.len.ensures ∙ sym c.as_slice-2.ensures.len ∙ sym (length-map c.as_slice-2.result.now node) ∙ ap (λ ns. length ns) seen in
    let below = subst (λ ns. HasPartsBelow (length ns) n) now c.requires.below in
    let fresh = subst (λ ns. IsFresh ns n) now c.requires.fresh in
    let is_found = found_as types (nodes c.as_slice-2.result.now) kept.extents.items c.as_slice-3.result.now vs n c.in_ok-id.id.index found seen c.as_slice-3.ensures.value number t.measured.kept c.measured-found.ensures.ok c.measured-found.ensures.err pushed.waits in
    let high = c.height_of-height.ensures types n (subst (λ hs. AreHeights types hs) (sym c.as_slice.ensures.value) t.high) below c.requires.key in
    let all = table_added keys types kept.heights.items kept.extents.items kept.waiters.items vs c.args.key n c.height_of-height.result found t c.requires.key below fresh high is_found pushed.longer pushed.len in
    let grown : nodes c.push-2.new.self.items ≡ types ++ (n ∷ []) = ap nodes c.in_default.ensures.items ∙ map-append node c.self.inside.types.items (c.args.t ∷ []) in
    subst (λ ks. IsTable ks (nodes c.push-2.new.self.items) c.push.new.self.heights.items c.push.new.self.extents.items vs) (sym c.in_default-put.ensures.ok)
    (subst (λ ns. IsTable (keys ++ (c.args.key ∷ [])) ns c.push.new.self.heights.items c.push.new.self.extents.items vs) (sym grown)
    (subst (λ hs. IsTable (keys ++ (c.args.key ∷ [])) (types ++ (n ∷ [])) hs c.push.new.self.extents.items vs) (sym pushed.heights)
    (subst (λ es. IsTable (keys ++ (c.args.key ∷ [])) (types ++ (n ∷ [])) (kept.heights.items ++ (c.height_of-height.result ∷ [])) es vs) (sym pushed.extents) all)))
