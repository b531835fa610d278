-- A folder has one outcome at most.
use Rattle.std.proofs.Common.{◌≡◌, inl, inr, ℕ, true, List, Some, sym, ◌∙◌, ap, is_some}
use Rattle.std.specs.List.{Contains, list_any}
use Rattle.std.specs.Prelude.{nat_eq}
use Rattle.odc_text.specs.declared.code.Fault.{Fault}
use Rattle.odc_io.specs.Trees.{Tree as Files}
use Rattle.odc_small.specs.Grammar.{Tree, text_spelling}
use Rattle.odc_tool.specs.Verdict.{Outcome, refused, taken, main_name, HasSource, IsTaken, Verdict}
use Rattle.odc_small.proofs.TextLemmas.{one_tree}
use Rattle.odc_tool.proofs.OrderLemmas.{neither_after}
use Rattle.odc_tool.proofs.VerdictLemmas.{main_is_source}
use Rattle.std.proofs.lemmas.Map.Views.{list_any-from_Contains}
use Rattle.std.proofs.lemmas.Cmp.{nat_eq_equiv}

no_slash : ¬ Contains main_name 47
no_slash h = let found : list_any (nat_eq 47) main_name ≡ true = list_any-from_Contains nat_eq_equiv 47 main_name h in cc

module _ (files : Files) (dir : List ℕ) where
  main_there : (tree : Tree) → IsTaken files dir tree → HasSource files dir main_name
  main_there tree t = ((no_slash, ap is_some t.whole), main_is_source)

  same_text : (t u : Tree) → IsTaken files dir t → IsTaken files dir u → t ≡ u
  same_text t u a b =
      let e : Some (text_spelling t) ≡ Some (text_spelling u) = sym a.whole ∙ b.whole in
      let same : text_spelling t ≡ text_spelling u = cc in
      one_tree t u a.is b.is same

  same_refusal : (f g : Fault) (p q : List ℕ) → Verdict files dir (refused f p) → Verdict files dir (refused g q) → refused f p ≡ refused g q
  same_refusal f g p q (inl (a, b, c)) (inl (d, e, h)) = let faults : f ≡ g = a ∙ sym d in let paths : p ≡ q = b ∙ sym e in cc
  same_refusal f g p q (inl (a, b, c)) (inr (d, e, h)) = absurd (c q e.0)
  same_refusal f g p q (inr (a, b, c)) (inl (d, e, h)) = absurd (h p b.0)
  same_refusal f g p q (inr (a, b, c)) (inr (d, e, h)) =
      let faults : f ≡ g = a ∙ sym d in
      let paths : p ≡ q = neither_after p q (b.1 q e.0) (e.1 p b.0) in
      cc

  not_both : (t : Tree) (f : Fault) (p : List ℕ) → IsTaken files dir t → Verdict files dir (refused f p) → ⊥
  not_both t f p a (inl (b, c, none)) = none main_name (main_there t a)
  not_both t f p a (inr (b, c, none)) = none t a

  pub one_verdict : (a b : Outcome) → Verdict files dir a → Verdict files dir b → a ≡ b
  one_verdict (taken t) (taken u) a b = ap taken (same_text t u a b)
  one_verdict (taken t) (refused g q) a b = absurd (not_both t g q a b)
  one_verdict (refused f p) (taken u) a b = absurd (not_both u f p b a)
  one_verdict (refused f p) (refused g q) a b = same_refusal f g p q a b
