-- Variables that lie one behind another.
use Rattle.std.proofs.Common.{◌≡◌, ℕ, ◌+◌, ◌<◌, ◌^◌, ◌==◌, ◌&&◌, Bool, true, false, List, [], ◌∷◌, ◌++◌, refl, sym, ap, ◌∙◌, subst, arith, eq-eqb}
use Rattle.std.proofs.lemmas.List.{map-append}
use Rattle.std.specs.Prelude.{map}
use Rattle.odc_types.specs.declared.ty.TyId.{TyId}
use Rattle.odc_program.specs.declared.program.Local.{Local as RustLocal}
use Rattle.odc_program.specs.declared.program.TypeRow.{TypeRow}
use Rattle.odc_program.specs.Trees.Program.{Local}
use Rattle.odc_program.specs.States.State.{Env, size_of}
use Rattle.odc_program.specs.Typing.Frames.{rounded, placed}
use Rattle.odc_program.specs.Views.Instances.{local}
use Rattle.odc_program.specs.Views.ProgramView.{ty}
use Rattle.odc_limits.specs.Sized.{capped, table}
use Rattle.odc_limits.specs.Placed.{behind, types_of_locals}
use Rattle.odc_limits.proofs.Frames.{size_same}

pub types_listed : (ls : List RustLocal) → types_of_locals (map local ls) ≡ map (λ (t : TyId). t.index) (map (λ (l : RustLocal). l.ty) ls)
types_listed [] = refl
types_listed (l ∷ ls) = ap (λ ts. l.ty.index ∷ ts) (types_listed ls)

pub follow : (env : Env) (at : ℕ) (xs ys : List Local) → placed env at (xs ++ ys) ≡ (placed env at xs && placed env (behind env at (types_of_locals xs)) ys)
follow env at [] ys = refl
follow env at (x ∷ xs) ys = by (x.place == at) (placed env at' xs) (placed env (behind env at' (types_of_locals xs)) ys) (follow env at' xs ys)
  where
    at' : ℕ
    at' = at + rounded (size_of env x.ty) + 8

    by : (a b c : Bool) {d : Bool} → d ≡ (b && c) → (a && d) ≡ ((a && b) && c)
    by true b c h = h
    by false b c h = refl

behind_more : (env : Env) (at : ℕ) (xs : List Local) (y : Local) → behind env at (types_of_locals (xs ++ y ∷ [])) ≡ behind env at (types_of_locals xs) + rounded (size_of env y.ty) + 8
behind_more env at [] y = refl
behind_more env at (x ∷ xs) y = behind_more env (at + rounded (size_of env x.ty) + 8) xs y

-- what is so of the variables so far
pub record Lie (env : Env) (at end : ℕ) (xs : List Local) : Type 0 where
  pub ends : end ≡ capped (behind env at (types_of_locals xs))
  pub lie : behind env at (types_of_locals xs) < 2 ^ 64 → placed env at xs ≡ true

pub none_yet : (env : Env) (at : ℕ) → at < 2 ^ 64 → Lie env at at []
none_yet env at small = record { ends = omega (arith, small); lie = λ h. refl }

pub one_more : (env : Env) (rows : List TypeRow) (at end next : ℕ) (xs : List Local) (y : Local) → env.tables.types ≡ map ty rows → y.place ≡ end → next ≡ capped (end + rounded (size_of (table rows) y.ty) + 8) → Lie env at end xs → Lie env at next (xs ++ y ∷ [])
one_more env rows at end next xs y types here after so = record {
  ends = omega (arith, after, so.ends, behind_more env at xs y, ap rounded (size_same env rows types y.ty));
  lie = λ h. follow env at xs (y ∷ []) ∙ both (so.lie (before h)) (eq-eqb y.place (behind env at (types_of_locals xs)) (omega (arith, here, so.ends, before h)));
}
  where
    before : behind env at (types_of_locals (xs ++ y ∷ [])) < 2 ^ 64 → behind env at (types_of_locals xs) < 2 ^ 64
    before h = omega (arith, h, behind_more env at xs y)

    both : {a b : Bool} → a ≡ true → b ≡ true → (a && (b && true)) ≡ true
    both h k = rw h (rw k refl)

-- the whole of it, by the types that the variables have
pub all_lie : (env : Env) (at end : ℕ) (xs : List RustLocal) (ts : List TyId) → map (λ (l : RustLocal). l.ty) xs ≡ ts → Lie env at end (map local xs) →
    (end ≡ capped (behind env at (map (λ (t : TyId). t.index) ts))) × (behind env at (map (λ (t : TyId). t.index) ts) < 2 ^ 64 → placed env at (map local xs) ≡ true)
all_lie env at end xs ts h so = subst (λ ns. (end ≡ capped (behind env at ns)) × (behind env at ns < 2 ^ 64 → placed env at (map local xs) ≡ true)) (types_listed xs ∙ ap (map (λ (t : TyId). t.index)) h) (so.ends, so.lie)

pub one_further : (env : Env) (rows : List TypeRow) (at end next : ℕ) (xs ys : List RustLocal) (t : TyId) → env.tables.types ≡ map ty rows → ys ≡ xs ++ record { ty = t; place = end } ∷ [] →
    next ≡ capped (end + rounded (size_of (table rows) t.index) + 8) → Lie env at end (map local xs) → Lie env at next (map local ys)
one_further env rows at end next xs ys t types more after so = subst (Lie env at next) (sym (ap (map local) more ∙ map-append local xs (record { ty = t; place = end } ∷ [])))
    (one_more env rows at end next (map local xs) (record { ty = t.index; place = end }) types refl after so)
