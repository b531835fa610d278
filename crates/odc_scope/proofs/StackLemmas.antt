-- What the positions of a stack tell of the scopes that it stands for.
use Rattle.std.proofs.Common.{◌≡◌, ◌≢◌, ℕ, ◌+◌, ◌<◌, ◌≤◌, suc, List, [], ◌∷◌, ◌++◌, Option, Some, None, Bool, true, false, nat_eq, length, reverse, refl, sym, ◌∙◌, ap, arith, is_some, get_or, if◌then◌else◌, IsSome}
use Rattle.std.proofs.lemmas.List.{reverse-append, length-reverse, get_or_append_left}
use Rattle.std.proofs.lemmas.Grind.{common_steps}
use Rattle.std.proofs.lemmas.Bool.Decides.{nat_tests}
use Rattle.std.proofs.Math.Seq.{get_or-append_seam}
use Rattle.odc_scope.specs.declared.Entry.{Entry}
use Rattle.odc_scope.specs.declared.Entry.TheVariants.{Opening, Binding}
use Rattle.odc_scope.specs.Scopes.{innermost_item, item_in, first_scope, with_binding}
use Rattle.odc_scope.specs.Stack.{scopes_of, newest, opened_at, is_inside, IsLinked, IsSound}

within_by : (b : Bool) (len k : ℕ) (rest : Option ℕ) → (rest ≡ Some k → k < len) → (if b then Some len else rest) ≡ Some k → k < suc len
within_by true len k rest h e = let same : len ≡ k = cc in omega arith
within_by false len k rest h e = let below : k < len = h e in omega arith

-- a position that is found lies on the stack
pub newest_within : {I : Type 0} (name : ℕ) (stack : List (Entry I)) (k : ℕ) → newest name stack ≡ Some k → k < length stack
newest_within name [] k e = cc
newest_within name (Opening outer ∷ older) k e = let h : k < length older = newest_within name older k e in omega arith
newest_within name (Binding bound item hidden ∷ older) k e = within_by (nat_eq name bound) _ _ _ (newest_within name older k) e

opened_within : {I : Type 0} (stack : List (Entry I)) → opened_at stack ≤ length stack
opened_within [] = omega arith
opened_within (Opening outer ∷ older) = omega arith
opened_within (Binding bound item hidden ∷ older) = let h = opened_within older in omega arith

-- a new binding is what its name finds
bound_here : {I : Type 0} (name bound : ℕ) (item : I) (scopes : List (List (ℕ × I))) → scopes ≢ [] → nat_eq name bound ≡ true →
    innermost_item name (with_binding bound item scopes) ≡ Some item
bound_here name bound item [] stands_in e = absurd (stands_in refl)
bound_here name bound item (s ∷ ss) stands_in e = rw e refl

-- and another name finds what it found before
bound_elsewhere : {I : Type 0} (name bound : ℕ) (item : I) (scopes : List (List (ℕ × I))) → nat_eq name bound ≡ false →
    innermost_item name (with_binding bound item scopes) ≡ innermost_item name scopes
bound_elsewhere name bound item [] e = refl
bound_elsewhere name bound item (s ∷ ss) e = rw e refl

missing_by : {I : Type 0} (b : Bool) (name bound : ℕ) (item : I) (older : List (Entry I)) → nat_eq name bound ≡ b →
    (newest name older ≡ None → innermost_item name (scopes_of older) ≡ None) → (if b then Some (length older) else newest name older) ≡ None →
    innermost_item name (with_binding bound item (scopes_of older)) ≡ None
missing_by true name bound item older same h e = cc
missing_by false name bound item older other h e = bound_elsewhere name bound item (scopes_of older) other ∙ h e

-- a name without a binding is in no scope
pub missing : {I : Type 0} (name : ℕ) (stack : List (Entry I)) → newest name stack ≡ None → innermost_item name (scopes_of stack) ≡ None
missing name [] e = refl
missing name (Opening outer ∷ older) e = missing name older e
missing name (Binding bound item hidden ∷ older) e = missing_by (nat_eq name bound) name bound item older refl (missing name older) e

-- at a position stands a binding of the item that the name finds
pub record IsFoundAt {I : Type 0} (name k : ℕ) (stack : List (Entry I)) : Type 0 where
  pub bound : ℕ
  pub item : I
  pub hidden : Option ℕ
  pub stands : (d : Entry I) → get_or (reverse stack) k d ≡ Binding bound item hidden
  pub seen : innermost_item name (scopes_of stack) ≡ Some item

reversed_below : {I : Type 0} (top d : Entry I) (older : List (Entry I)) (k : ℕ) → k < length older → get_or (reverse (top ∷ older)) k d ≡ get_or (reverse older) k d
reversed_below {I} top d older k h =
    let within : k < length (reverse older) = omega (arith, length-reverse older) in
    ap (λ (l : List (Entry I)). get_or l k d) (reverse-append (top ∷ []) older) ∙ get_or_append_left (reverse older) (top ∷ []) d k within

reversed_top : {I : Type 0} (top d : Entry I) (older : List (Entry I)) → get_or (reverse (top ∷ older)) (length older) d ≡ top
reversed_top {I} top d older =
    ap (λ (l : List (Entry I)). get_or l (length older) d) (reverse-append (top ∷ []) older)
    ∙ ap (λ n. get_or (reverse older ++ (top ∷ [])) n d) (sym (length-reverse older))
    ∙ get_or-append_seam (reverse older) top [] d

found_by : {I : Type 0} (b : Bool) (name bound : ℕ) (item : I) (hidden : Option ℕ) (older : List (Entry I)) (k : ℕ) → nat_eq name bound ≡ b → scopes_of older ≢ [] →
    (newest name older ≡ Some k → IsFoundAt name k older) → (if b then Some (length older) else newest name older) ≡ Some k →
    IsFoundAt name k (Binding bound item hidden ∷ older)
found_by true name bound item hidden older k same stands_in h e = record {
  bound = bound;
  item = item;
  hidden = hidden;
  stands = λ d. let at : k ≡ length older = cc in rw at (reversed_top (Binding bound item hidden) d older);
  seen = bound_here name bound item (scopes_of older) stands_in same;
}
found_by false name bound item hidden older k other stands_in h e = let f : IsFoundAt name k older = h e in record {
  bound = f.bound;
  item = f.item;
  hidden = f.hidden;
  stands = λ d. reversed_below (Binding bound item hidden) d older k (newest_within name older k e) ∙ f.stands d;
  seen = bound_elsewhere name bound item (scopes_of older) other ∙ f.seen;
}

pub found : {I : Type 0} (name : ℕ) (stack : List (Entry I)) → IsLinked stack → (k : ℕ) → newest name stack ≡ Some k → IsFoundAt name k stack
found name [] linked k e = cc
found name (Opening outer ∷ older) linked k e = let f : IsFoundAt name k older = found name older linked.1 k e in record {
  bound = f.bound;
  item = f.item;
  hidden = f.hidden;
  stands = λ d. reversed_below (Opening outer) d older k (newest_within name older k e) ∙ f.stands d;
  seen = f.seen;
}
found name (Binding bound item hidden ∷ older) linked k e =
    found_by (nat_eq name bound) name bound item hidden older k refl linked.1 (found name older linked.2 k) e

outside_by : (older : ℕ) (o : Option ℕ) → ((k : ℕ) → o ≡ Some k → k < older) → is_inside (older + 1) o ≡ false
outside_by older None h = refl
outside_by older (Some k) h = let below : k < older = h k refl in grind (arith, nat_tests)

scopes_by : {I : Type 0} (b : Bool) (name bound : ℕ) (item : I) (scopes : List (List (ℕ × I))) (opened older : ℕ) (rest : Option ℕ) → nat_eq name bound ≡ b → scopes ≢ [] → opened ≤ older →
    is_some (item_in name (first_scope scopes)) ≡ is_inside opened rest →
    is_some (item_in name (first_scope (with_binding bound item scopes))) ≡ is_inside opened (if b then Some older else rest)
scopes_by b name bound item [] opened older rest e stands_in within h = absurd (stands_in refl)
scopes_by true name bound item (s ∷ ss) opened older rest e stands_in within h = rw e (grind (arith, nat_tests))
scopes_by false name bound item (s ∷ ss) opened older rest e stands_in within h = rw e h

inside_by : {I : Type 0} (b : Bool) (name bound : ℕ) (item : I) (older : List (Entry I)) → nat_eq name bound ≡ b → scopes_of older ≢ [] →
    is_some (item_in name (first_scope (scopes_of older))) ≡ is_inside (opened_at older) (newest name older) →
    is_some (item_in name (first_scope (with_binding bound item (scopes_of older)))) ≡ is_inside (opened_at older) (if b then Some (length older) else newest name older)
inside_by b name bound item older e stands_in h = scopes_by b name bound item (scopes_of older) (opened_at older) (length older) (newest name older) e stands_in (opened_within older) h

-- a name is in the innermost scope where its newest binding is no older than the newest opening
pub inside : {I : Type 0} (name : ℕ) (stack : List (Entry I)) → IsLinked stack →
    is_some (item_in name (first_scope (scopes_of stack))) ≡ is_inside (opened_at stack) (newest name stack)
inside name [] linked = refl
inside name (Opening outer ∷ older) linked = sym (outside_by (length older) (newest name older) (newest_within name older))
inside name (Binding bound item hidden ∷ older) linked = inside_by (nat_eq name bound) name bound item older refl linked.1 (inside name older linked.2)

pub taken_is : {I : Type 0} (name : ℕ) (stack : List (Entry I)) (latest : ℕ → Option ℕ) (opened : ℕ) → IsSound stack latest opened →
    (hidden : Option ℕ) (b : Bool) → hidden ≡ latest name → b ≡ is_inside opened hidden → is_some (item_in name (first_scope (scopes_of stack))) ≡ b
taken_is name stack latest opened sound hidden b h e =
    inside name stack sound.linked ∙ ap (λ o. is_inside (opened_at stack) o) (sym (h ∙ sound.tracked name)) ∙ ap (λ n. is_inside n hidden) (sym sound.opened) ∙ sym e

pub some_is : {I : Type 0} (o : Option I) → is_some o ≡ true → (Unit {0} → IsSome o) × (IsSome o → Unit {0})
some_is o e = grind (arith, common_steps)

pub none_is : {I : Type 0} (o : Option I) → is_some o ≡ false → (⊥ → IsSome o) × (IsSome o → ⊥)
none_is o e = grind (arith, common_steps)

abbrev pub outer_scopes : {I : Type 0} → List (List (ℕ × I)) → List (List (ℕ × I))
outer_scopes [] = []
outer_scopes (scope ∷ outer) = outer

-- a scope is being closed: some of its bindings are gone, and what lies around it is as it was
pub record IsClosing {I : Type 0} (stack first : List (Entry I)) (latest : ℕ → Option ℕ) (innermost : ℕ) : Type 0 where
  pub sound : IsSound stack latest innermost
  pub stands_in : scopes_of stack ≢ []
  pub around : outer_scopes (scopes_of stack) ≡ outer_scopes (scopes_of first)
