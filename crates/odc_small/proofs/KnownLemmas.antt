-- A sum whose names may stand is one of the grammar that knows its names, and the other way round.
use Rattle.std.proofs.Common.{ℕ, zero, suc, List, [], ◌∷◌}
use Rattle.std.specs.List.{AllByRecursion}
use Rattle.odc_small.specs.Forms.{Form}
use Rattle.odc_small.specs.Grammar.{Mul, Sum, Atom, name, number, call, ArgumentAt, AtomAt, Value, IsFactor, IsMul, IsTerm, IsSum, arguments, atoms, values}
use Rattle.odc_small.specs.Names.{Callable, Names, Around, KnowsAtom, KnowsFactor, KnowsMul, KnowsTerm, KnowsSum, KnowsArgument, KnowsValue}
use Rattle.odc_small.specs.Reading.{IsKnown, known_atoms}

-- what holds of all, in two parts
pub all_split : {T : Type 0} (P Q R : T → Type 0) → ((t : T) → P t → Q t × R t) → (ts : List T) → AllByRecursion P ts → AllByRecursion Q ts × AllByRecursion R ts
all_split P Q R f [] all = (tt, tt)
all_split P Q R f (t ∷ ts) all =
    let here = f t all.0 in
    let behind = all_split P Q R f ts all.1 in
    ((here.0, behind.0), (here.1, behind.1))

pub all_join : {T : Type 0} (P Q R : T → Type 0) → ((t : T) → Q t → R t → P t) → (ts : List T) → AllByRecursion Q ts → AllByRecursion R ts → AllByRecursion P ts
all_join P Q R f [] q r = tt
all_join P Q R f (t ∷ ts) q r = (f t q.0 r.0, all_join P Q R f ts q.1 r.1)

module _ {S : Type 0} (known plain : Form (Atom S)) (Knows : Atom S → Type 0) where
  module _ (split : (a : Atom S) → known.Is a → plain.Is a × Knows a) where
    mul_split : (m : Mul (Atom S)) → IsMul known m → IsMul plain m × KnowsMul Knows m
    mul_split m is =
        let first = split m.first is.first in
        let more = all_split (IsFactor known) (IsFactor plain) (KnowsFactor Knows) (λ f g. (((split f.atom g.0).0, g.1), (split f.atom g.0).1)) m.more is.more in
        (record { first = first.0; more = more.0; leads = is.leads; short = is.short }, (first.1, more.1))

    pub sum_split : (s : Sum (Atom S)) → IsSum known s → IsSum plain s × KnowsSum Knows s
    sum_split s is =
        let first = mul_split s.first is.first in
        let more = all_split (IsTerm known) (IsTerm plain) (KnowsTerm Knows) (λ t g. mul_split t.mul g) s.more is.more in
        (record { first = first.0; more = more.0; short = is.short }, (first.1, more.1))

  module _ (join : (a : Atom S) → plain.Is a → Knows a → known.Is a) where
    mul_join : (m : Mul (Atom S)) → IsMul plain m → KnowsMul Knows m → IsMul known m
    mul_join m is knows = record {
      first = join m.first is.first knows.0;
      more = all_join (IsFactor known) (IsFactor plain) (KnowsFactor Knows) (λ f g h. (join f.atom g.0 h, g.1)) m.more is.more knows.1;
      leads = is.leads;
      short = is.short;
    }

    pub sum_join : (s : Sum (Atom S)) → IsSum plain s → KnowsSum Knows s → IsSum known s
    sum_join s is knows = record {
      first = mul_join s.first is.first knows.0;
      more = all_join (IsTerm known) (IsTerm plain) (KnowsTerm Knows) (λ t g h. mul_join t.mul g h) s.more is.more knows.1;
      short = is.short;
    }

module _ (callable : Callable) (bindings : Names) where
  atom_split : (n : ℕ) → ((t : ArgumentAt n) → IsKnown callable bindings n t → (arguments n).Is t × KnowsArgument callable bindings n t)
      → (a : AtomAt n) → (known_atoms callable bindings n).Is a → (atoms n).Is a × KnowsAtom callable bindings (KnowsArgument callable bindings n) a
  atom_split n f (name c) is = (is.0, is.1)
  atom_split n f (number k) is = (is.0, tt)
  atom_split n f (call g ts) is =
      let all = all_split (IsKnown callable bindings n) (arguments n).Is (KnowsArgument callable bindings n) f ts is.0.1.1 in
      ((is.0.0, (is.0.1.0, all.0)), (is.1, all.1))

  atom_join : (n : ℕ) → ((t : ArgumentAt n) → (arguments n).Is t → KnowsArgument callable bindings n t → IsKnown callable bindings n t)
      → (a : AtomAt n) → (atoms n).Is a → KnowsAtom callable bindings (KnowsArgument callable bindings n) a → (known_atoms callable bindings n).Is a
  atom_join n f (name c) is knows = (is, knows)
  atom_join n f (number k) is knows = (is, tt)
  atom_join n f (call g ts) is knows =
      ((is.0, (is.1.0, all_join (IsKnown callable bindings n) (arguments n).Is (KnowsArgument callable bindings n) f ts is.1.1 knows.1)), knows.0)

  argument_split : (n : ℕ) (t : ArgumentAt n) → IsKnown callable bindings n t → (arguments n).Is t × KnowsArgument callable bindings n t
  argument_split zero t is = absurd t
  argument_split (suc n) t is =
      sum_split (known_atoms callable bindings n) (atoms n) (KnowsAtom callable bindings (KnowsArgument callable bindings n)) (atom_split n (argument_split n)) t is

  argument_join : (n : ℕ) (t : ArgumentAt n) → (arguments n).Is t → KnowsArgument callable bindings n t → IsKnown callable bindings n t
  argument_join zero t is knows = absurd t
  argument_join (suc n) t is knows =
      sum_join (known_atoms callable bindings n) (atoms n) (KnowsAtom callable bindings (KnowsArgument callable bindings n)) (atom_join n (argument_join n)) t is knows

pub value_split : (around : Around) (bindings : Names) (v : Value) → IsKnown around.callable bindings 5 v → values.Is v × KnowsValue around bindings v
value_split around bindings v is = argument_split around.callable bindings 5 v is

pub value_join : (around : Around) (bindings : Names) (v : Value) → values.Is v → KnowsValue around bindings v → IsKnown around.callable bindings 5 v
value_join around bindings v is knows = argument_join around.callable bindings 5 v is knows
