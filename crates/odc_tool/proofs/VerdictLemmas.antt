-- From what a folder shows to its outcome.
use Rattle.std.proofs.Common.{◌≡◌, ◌≢◌, ◌⊎◌, inl, inr, ℕ, ◌≤◌, Bool, true, false, List, length, take, Some, None, Option, IsSome, refl, sym, ◌∙◌, ap, subst, arith, codes, length-take}
use Rattle.std.specs.declared.vec.Vec.{Vec}
use Rattle.std.specs.declared.alloc.Global.{Global}
use Rattle.std.specs.List.{Contains}
use Rattle.std.specs.Str.{bytes_eq}
use Rattle.std.proofs.lemmas.Slice.Eq.{bytes_eq-Decides}
use Rattle.std.proofs.lemmas.List.{take_all}
use Rattle.odc_io.specs.Trees.{joined, IsListing, HasFilesUnder, ReadsFront}
use Rattle.odc_io.specs.Trees.{Tree as Files}
use Rattle.odc_small.specs.Grammar.{Tree, text_spelling}
use Rattle.odc_small.specs.Text.{Spells}
use Rattle.odc_tool.specs.Verdict.{Outcome, refused, taken, main_name, IsSourceName, HasSource, IsTaken, IsFirstSource, NotAfter, no_source, Verdict}
use Rattle.odc_tool.specs.Gather.{IsOther, IsLeast, IsMain, Shows, lesser}
use Rattle.odc_tool.proofs.OrderLemmas.{not_after_self, not_after_through, lesser_cases}

main_by : (n : List ℕ) (t : Bool) → bytes_eq n main_name ≡ t → (n ≡ main_name) ⊎ (n ≢ main_name)
main_by n true e = inl ((bytes_eq-Decides n main_name).0 e)
main_by n false e = inr (λ same. let h : bytes_eq n main_name ≡ true = (bytes_eq-Decides n main_name).1 same in cc)

main_or_not : (n : List ℕ) → (n ≡ main_name) ⊎ (n ≢ main_name)
main_or_not n = main_by n (bytes_eq n main_name) refl

pub main_is_source : IsSourceName main_name
main_is_source = (codes "main", refl)

read_none : (o : Option (List ℕ)) (limit : ℕ) → ReadsFront o limit None → IsSome o → ⊥
read_none None limit r s = cc
read_none (Some b) limit r s = r

pub record Front (o : Option (List ℕ)) (v : Vec ℕ Global) : Type 0 where
  pub bytes : List ℕ
  pub whole : o ≡ Some bytes
  pub front : v.items ≡ take 16385 bytes

read_some : (o : Option (List ℕ)) (v : Vec ℕ Global) → ReadsFront o 16384 (Some v) → Front o v
read_some None v r = absurd (cc)
read_some (Some b) v r = record { bytes = b; whole = refl; front = r }

-- a text within the limit was read whole
whole_by : (b : List ℕ) → length (take 16385 b) ≤ 16384 → take 16385 b ≡ b
whole_by b h = take_all 16385 b (omega (arith, h, length-take 16385 b))

module _ (files : Files) (dir : List ℕ) (names : List (List ℕ)) (listing : IsListing files dir names) where
  source_of : (n : List ℕ) → Contains names n → IsSourceName n → HasSource files dir n
  source_of n h is = (listing.each n h, is)

  other_of : (n : List ℕ) → HasSource files dir n → n ≢ main_name → IsOther n
  other_of n h off = (h.1, h.0.0, off)

  no_main : IsMain files dir names None → ¬ Contains names main_name
  no_main (inl (c, r)) = λ _. read_none (files (joined dir main_name)) 16384 r (listing.each main_name c).1
  no_main (inr (off, e)) = off

  main_front : (v : Vec ℕ Global) → IsMain files dir names (Some v) → Contains names main_name × Front (files (joined dir main_name)) v
  main_front v (inl (c, r)) = (c, read_some (files (joined dir main_name)) v r)
  main_front v (inr (off, e)) = absurd (cc)

  -- no other name: each source is `main.odin`
  only_main : IsLeast names None → (n : List ℕ) → HasSource files dir n → n ≡ main_name
  only_main least n h = elim (main_or_not n) [ inl e ↦ e | inr off ↦ absurd (least n (listing.all n h.0) (other_of n h off)) ]

  nothing : IsMain files dir names None → IsLeast names None → (n : List ℕ) → ¬ HasSource files dir n
  nothing main least n h = no_main main (subst (Contains names) (only_main least n h) (listing.all n h.0))

  -- another name: no text is taken
  not_taken : (other : List ℕ) → IsLeast names (Some other) → (tree : Tree) → ¬ IsTaken files dir tree
  not_taken other least tree t = least.1.2 (t.only other (source_of other least.0 least.1.0))

  first_other : (other : List ℕ) → IsMain files dir names None → IsLeast names (Some other) → IsFirstSource files dir other
  first_other other main least = (
    source_of other least.0 least.1.0,
    λ m h. elim (main_or_not m) [
      | inl e ↦ absurd (no_main main (subst (Contains names) e (listing.all m h.0)))
      | inr off ↦ least.2 m (listing.all m h.0) (other_of m h off)
    ],
  )

  first_of_two : (other : List ℕ) → Contains names main_name → IsLeast names (Some other) → IsFirstSource files dir (lesser other main_name)
  first_of_two other has least =
      elim (lesser_cases other main_name) [
        | inl (e, less) ↦ subst (IsFirstSource files dir) (sym e) (
          source_of main_name has main_is_source,
          λ m h. elim (main_or_not m) [
            | inl same ↦ subst (NotAfter main_name) (sym same) (not_after_self main_name)
            | inr off ↦ not_after_through main_name other m less (least.2 m (listing.all m h.0) (other_of m h off))
          ],
        )
        | inr (e, later) ↦ subst (IsFirstSource files dir) (sym e) (
          source_of other least.0 least.1.0,
          λ m h. elim (main_or_not m) [
            | inl same ↦ subst (NotAfter other) (sym same) later
            | inr off ↦ least.2 m (listing.all m h.0) (other_of m h off)
          ],
        )
      ]

  first_main : Contains names main_name → IsLeast names None → IsFirstSource files dir main_name
  first_main has least =
      (source_of main_name has main_is_source, λ m h. subst (NotAfter main_name) (sym (only_main least m h)) (not_after_self main_name))

  text_taken : (v : Vec ℕ Global) (tree : Tree) → IsMain files dir names (Some v) → IsLeast names None → Spells v.items tree → IsTaken files dir tree
  text_taken v tree main least spells =
      let f = (main_front v main).1 in
      let all : take 16385 f.bytes ≡ f.bytes = whole_by f.bytes (subst (λ z. length z ≤ 16384) f.front spells.short) in
      record {
        only = only_main least;
        whole = f.whole ∙ ap (λ z. Some z) (sym all ∙ sym f.front ∙ spells.whole);
        is = spells.is;
        short = subst (λ z. length z ≤ 16384) spells.whole spells.short;
      }

  none_taken : (v : Vec ℕ Global) → IsMain files dir names (Some v) → ((tree : Tree) → ¬ Spells v.items tree) → (tree : Tree) → ¬ IsTaken files dir tree
  none_taken v main off tree t =
      let f = (main_front v main).1 in
      let here : f.bytes ≡ text_spelling tree = (let e : Some f.bytes ≡ Some (text_spelling tree) = sym f.whole ∙ t.whole in cc) in
      let same : v.items ≡ text_spelling tree
      = f.front ∙ ap (take 16385) here ∙ take_all 16385 (text_spelling tree) (omega (arith, t.short)) in
      off tree (record { is = t.is; whole = same; short = subst (λ z. length z ≤ 16384) (sym same) t.short })

  pub verdict_from : (main : Option (Vec ℕ Global)) (other : Option (List ℕ)) (outcome : Outcome)
      → IsMain files dir names main → IsLeast names other → Shows main other dir outcome → Verdict files dir outcome
  verdict_from None None outcome m l s = subst (Verdict files dir) (sym s) (inl (refl, refl, nothing m l))
  verdict_from None (Some o) outcome m l s = subst (Verdict files dir) (sym s) (inr (refl, first_other o m l, not_taken o l))
  verdict_from (Some v) (Some o) outcome m l s = subst (Verdict files dir) (sym s) (inr (refl, first_of_two o (main_front v m).0 l, not_taken o l))
  verdict_from (Some v) None (taken tree) m l s = text_taken v tree m l s
  verdict_from (Some v) None (refused fault path) m l s =
      subst (Verdict files dir) (sym s.0) (inr (refl, first_main (main_front v m).0 l, none_taken v m s.1))

-- nothing under the folder
pub verdict_of_nothing : (files : Files) (dir : List ℕ) → ¬ HasFilesUnder files dir → Verdict files dir (refused no_source dir)
verdict_of_nothing files dir off = inl (refl, refl, λ name h. off (name, h.0.1))
