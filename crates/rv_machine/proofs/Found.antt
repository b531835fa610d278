-- What the first range that covers an access says.
use Rattle.std.proofs.Common.{◌≡◌, ℕ, suc, ◌+◌, ◌-◌, Bool, true, false, List, [], ◌∷◌, length, set, get_or, ap, ◌∙◌, sym, subst, refl}
use Rattle.std.specs.Prelude.{nat_le, ◌&&◌, Option, Some, None, option_map, option_and_then, position, slice_get, slice_range}
use Rattle.rv_table.specs.State.{Area, allows, covers, overwritten, filled}
use Rattle.rv_table.specs.declared.effect.Access.{Access}
use Rattle.rv_table.specs.declared.effect.Access.TheVariants.{Write}
use Rattle.rv_table.proofs.Areas.{position_here, position_on, Inside, inside}
use Rattle.std.specs.Prelude.{Result, Ok, Err}
use Rattle.odc_io.specs.declared.traits.Failed.{Failed}
use Rattle.rv_machine.specs.Memory.{Holds}
use Rattle.rv_machine.specs.Turns.{Received, Fetched}

-- the element at the first index that passes
pub record Passes (p : Area → Bool) (areas : List Area) (i : ℕ) (x : Area) : Type 0 where
  pub passes : p x ≡ true
  pub at : slice_get areas i ≡ Some x

passing : (p : Area → Bool) (areas : List Area) (i : ℕ) (d : Area) → position p areas ≡ Some i → Passes p areas i (get_or areas i d)
passing p [] i d e = cc
passing p (x ∷ xs) i d e = by_test (λ k f. passing p xs k d f) (p x) refl
  where
    later : ((k : ℕ) → position p xs ≡ Some k → Passes p xs k (get_or xs k d)) → (o : Option ℕ) → position p xs ≡ o → option_map suc o ≡ Some i → Passes p (x ∷ xs) i (get_or (x ∷ xs) i d)
    later rest None f h = cc
    later rest (Some k) f h =
        let same : suc k ≡ i = cc in
        let r : Passes p xs k (get_or xs k d) = rest k f in
        let Q : ℕ → Type 0 = λ n. Passes p (x ∷ xs) n (get_or (x ∷ xs) n d) in
        subst Q same (record { passes = r.passes; at = r.at })

    by_test : ((k : ℕ) → position p xs ≡ Some k → Passes p xs k (get_or xs k d)) → (b : Bool) → p x ≡ b → Passes p (x ∷ xs) i (get_or (x ∷ xs) i d)
    by_test rest true f =
        let same : 0 ≡ i = cc (position_here p x xs f) in
        let Q : ℕ → Type 0 = λ n. Passes p (x ∷ xs) n (get_or (x ∷ xs) n d) in
        subst Q same (record { passes = f; at = refl })
    by_test rest false f = later rest (position p xs) refl (sym (position_on p x xs f) ∙ e)

first_of : (a b c : Bool) → (a && b && c) ≡ true → a ≡ true
first_of true b c h = refl
first_of false b c h = cc

module _ (areas : List Area) (access : Access) (address size i : ℕ) (x : Area) (e : Some i ≡ position (covers access address size) areas) (is : x ≡ get_or areas i x) where
  found : Passes (covers access address size) areas i x
  found = let Q : Area → Type 0 = λ y. Passes (covers access address size) areas i y in subst Q (sym is) (passing (covers access address size) areas i x (sym e))

  held_there : Holds areas access address size x
  held_there =
      let within : Inside x address size = inside x access address size found.passes in
      record {
        allowed = first_of (allows access x) (nat_le x.start address) (nat_le (address + size) (x.start + length x.bytes)) found.passes;
        start = within.low;
        end = within.high;
        loads = ap (option_and_then (λ k. option_map (λ area. slice_range area.bytes (address - area.start) (address - area.start + size)) (slice_get areas k))) (sym e)
            ∙ ap (option_map (λ (area : Area). slice_range area.bytes (address - area.start) (address - area.start + size))) found.at;
      }

fills_there : (areas : List Area) (address size i : ℕ) (x : Area) (bytes : List ℕ) → Some i ≡ position (covers Write address size) areas → x ≡ get_or areas i x →
    filled areas address size bytes ≡ Some (set areas i (overwritten x address bytes))
fills_there areas address size i x bytes e is =
    ap (option_and_then (λ k. option_map (λ (area : Area). set areas k (overwritten area address bytes)) (slice_get areas k))) (sym e)
    ∙ ap (option_map (λ (area : Area). set areas i (overwritten area address bytes))) (found areas Write address size i x e is).at

-- the same, where the elements are read from the field that the ranges are the view of
pub held : (items areas : List Area) → items ≡ areas → (access : Access) (address size i : ℕ) (x : Area) → Some i ≡ position (covers access address size) areas → x ≡ get_or items i x → Holds areas access address size x
held items areas v access address size i x e is = held_there areas access address size i x e (is ∙ ap (λ (rs : List Area). get_or rs i x) v)

-- the element at an index that was found
pub found_in : (items areas : List Area) → items ≡ areas → (access : Access) (address size i : ℕ) (x : Area) → Some i ≡ position (covers access address size) areas → x ≡ get_or items i x → Passes (covers access address size) items i x
found_in items areas v access address size i x e is = found items access address size i x (e ∙ ap (position (covers access address size)) (sym v)) is

pub fills : (items areas : List Area) → items ≡ areas → (address size i : ℕ) (x y : Area) (bytes : List ℕ) → Some i ≡ position (covers Write address size) areas → x ≡ get_or items i x →
    y ≡ overwritten x address bytes → filled areas address size bytes ≡ Some (set items i y)
fills items areas v address size i x y bytes e is new =
    fills_there areas address size i x bytes e (is ∙ ap (λ (rs : List Area). get_or rs i x) v)
    ∙ ap (λ (rs : List Area). Some (set rs i (overwritten x address bytes))) (sym v) ∙ ap (λ (z : Area). Some (set items i z)) (sym new)

-- ---- reads into the range that was found

pub as_option : Result ℕ Failed → Result (Option ℕ) Failed
as_option (Ok n) = Ok (Some n)
as_option (Err e) = Err e

pub fetched_of : (items areas : List Area) → items ≡ areas → (address size i : ℕ) (x y : Area) → Some i ≡ position (covers Write address size) areas → x ≡ get_or items i x →
    (source source' : Option (List ℕ)) (ended ended' : Bool) (result : Result ℕ Failed) → Received address size x y source source' ended ended' result →
    Fetched address size areas (set items i y) source source' ended ended' (as_option result)
unfolding as_option
fetched_of items areas v address size i x y e is source source' ended ended' (Ok n) r = record {
  got = r.got;
  fits = r.fits;
  took = r.took;
  stays = r.stays;
  count = r.whole.0;
  memory = fills items areas v address size i x y r.got e is r.whole.1;
  all = r.whole.2;
}
fetched_of items areas v address size i x y e is source source' ended ended' (Err f) r = record {
  got = r.got;
  fits = r.fits;
  took = r.took;
  stays = r.stays;
  memory = λ bytes. (set items i (overwritten x address bytes), fills items areas v address size i x (overwritten x address bytes) bytes e is refl);
}

pub as_option_ok : (result : Result ℕ Failed) (n : ℕ) → result ≡ Ok n → Ok (Some n) ≡ as_option result
unfolding as_option
as_option_ok result n e = sym (ap as_option e)

pub as_option_err : (result : Result ℕ Failed) (f : Failed) → result ≡ Err f → Err f ≡ as_option result
unfolding as_option
as_option_err result f e = sym (ap as_option e)
