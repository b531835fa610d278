-- The laws of kept runs: what a second pass keeps is kept by both, a run that is kept is followed,
-- and endings agree in steps.
use Rattle.std.specs.Prelude.{◌≡◌, ℕ, ◌+◌, ◌*◌, ◌≤◌, List, [], ◌∷◌, map, refl}
use Rattle.std.proofs.Common.{sym, ◌∙◌, ap, arith}
use Rattle.std.proofs.Math.Nat.{mul_assoc, mul-le-mul_left, mul-add}
use Rattle.odc_text.specs.Run.{End, exited, checked, strayed, trapped, going, Entry, Ending, Run, Agree, EndsAgree, HasEnded}
use Rattle.odc_text.specs.Follow.{FollowsOn, KeepsOn}

pub ends_agree : (a b c : End) → EndsAgree a b → EndsAgree b c → EndsAgree a c
ends_agree (exited a) (exited b) (exited c) p q = p ∙ q
ends_agree (exited a) (exited b) _ p q = absurd q
ends_agree (exited a) _ _ p q = absurd p
ends_agree (checked a s) (checked b t) (checked c u) p q = (p.0 ∙ q.0, p.1 ∙ q.1)
ends_agree (checked a s) (checked b t) _ p q = absurd q
ends_agree (checked a s) _ _ p q = absurd p
ends_agree (strayed a) (strayed b) (strayed c) p q = tt
ends_agree (strayed a) (strayed b) going p q = tt
ends_agree (strayed a) (strayed b) _ p q = absurd q
ends_agree (strayed a) going going p q = tt
ends_agree (strayed a) going _ p q = absurd q
ends_agree (strayed a) _ _ p q = absurd p
ends_agree (trapped a) _ _ p q = absurd p
ends_agree going going going p q = tt
ends_agree going going _ p q = absurd q
ends_agree going _ _ p q = absurd p

pub map_twice : {A B C : Type 0} (f : A → B) (g : B → C) (xs : List A) → map g (map f xs) ≡ map (λ x. g (f x)) xs
map_twice f g [] = refl
map_twice f g (x ∷ xs) = ap (λ ys. g (f x) ∷ ys) (map_twice f g xs)

pub agree_composes : {A P B Q C R : Type 0} (f : Entry A P → Entry B Q) (g : Entry B Q → Entry C R) (s : Ending A P) (t : Ending B Q) (u : Ending C R)
    → Agree f s t → Agree g t u → Agree (λ e. g (f e)) s u
agree_composes f g s t u a b = record {
  ends = ends_agree s.end t.end u.end a.ends b.ends;
  logs = sym (map_twice f g s.log) ∙ ap (map g) a.logs ∙ b.logs;
  taken = a.taken ∙ b.taken;
}

pub ended_agrees : (a b : End) → EndsAgree a b → HasEnded a → HasEnded b
ended_agrees (exited a) (exited b) p e = tt
ended_agrees (checked a s) (checked b t) p e = tt
ended_agrees (exited a) _ p e = absurd p
ended_agrees (checked a s) _ p e = absurd p
ended_agrees _ _ p e = absurd e

costs_compose : (k1 c1 k2 c2 x y z : ℕ) → y ≤ k1 * x + c1 → z ≤ k2 * y + c2 → z ≤ k2 * k1 * x + (k2 * c1 + c2)
costs_compose k1 c1 k2 c2 x y z p q =
    let more : k2 * y ≤ k2 * (k1 * x + c1) = mul-le-mul_left k2 p in
    let parts : k2 * (k1 * x + c1) ≡ k2 * k1 * x + k2 * c1 = mul-add k2 (k1 * x) c1 ∙ ap (λ v. v + k2 * c1) (sym (mul_assoc k2 k1 x)) in
    omega arith

pub keeps_on_composes : {A P B Q C R : Type 0} (k1 c1 k2 c2 : ℕ) (f : Entry A P → Entry B Q) (g : Entry B Q → Entry C R) (p : Run A P) (q : Run B Q) (r : Run C R) (input : List ℕ)
    → KeepsOn k1 c1 f p q input → KeepsOn k2 c2 g q r input → KeepsOn (k2 * k1) (k2 * c1 + c2) (λ e. g (f e)) p r input
keeps_on_composes k1 c1 k2 c2 f g p q r input a b = record {
  goes = λ n.
      let first = a.goes n in
      let second = b.goes first.0 in
      (second.0, agree_composes f g _ _ _ first.1 second.1);
  far = λ never m.
      let second = b.far (a.sound never) m in
      let first = a.far never second.0 in (
        first.0,
        λ n reached.
            let here = first.1 n reached in
            let there = second.1 here.0 here.1 in
            (there.0, there.1, agree_composes f g _ _ _ here.2 there.2),
      );
  sound = λ never. b.sound (a.sound never);
  cheap = λ n ended.
      let first = a.cheap n ended in
      let second = b.cheap first.0 (ended_agrees _ _ first.1.ends ended) in
      (second.0, agree_composes f g _ _ _ first.1 second.1, costs_compose k1 c1 k2 c2 _ _ _ first.2 second.2);
}

pub keeps_follows_on : {A P B Q : Type 0} (k c : ℕ) (f : Entry A P → Entry B Q) (p : Run A P) (q : Run B Q) (input : List ℕ)
    → KeepsOn k c f p q input → FollowsOn f p q input
keeps_follows_on k c f p q input a = record {
  there = a.goes;
  back = λ never m.
      let far = a.far never m in
      let here = far.1 far.0 (omega arith) in
      (here.0, here.1, (far.0, here.2));
}
