-- Where names may stand with the procedures of a list, they may stand with any.
use Rattle.std.proofs.Common.{ℕ, zero, suc, ◌+◌, List, [], ◌∷◌, length}
use Rattle.std.specs.List.{AllByRecursion}
use Rattle.odc_small.specs.Grammar.{Factor, Mul, Term, Sum, Atom, name, number, call, ArgumentAt, AtomAt, Value, Line, declare, assign, print, nest, BodyAt, LineAt, Func}
use Rattle.odc_small.specs.Names.{Callable, any, Names, Around, KnowsAtom, KnowsFactor, KnowsMul, KnowsTerm, KnowsSum, KnowsArgument, KnowsValue, KnowsLine, KnowsAll, KnowsBody, KnowsFunc, line_variables, body_variables, names_behind, around_func, around_main}

pub all_on : {T : Type 0} (P Q : T → Type 0) → ((t : T) → P t → Q t) → (ts : List T) → AllByRecursion P ts → AllByRecursion Q ts
all_on P Q f [] all = tt
all_on P Q f (t ∷ ts) all = (f t all.0, all_on P Q f ts all.1)

module _ {A : Type 0} (P Q : A → Type 0) (f : (a : A) → P a → Q a) where
  mul_on : (m : Mul A) → KnowsMul P m → KnowsMul Q m
  mul_on m knows = (f m.first knows.0, all_on (KnowsFactor P) (KnowsFactor Q) (λ (g : Factor A) h. f g.atom h) m.more knows.1)

  sum_on : (s : Sum A) → KnowsSum P s → KnowsSum Q s
  sum_on s knows = (mul_on s.first knows.0, all_on (KnowsTerm P) (KnowsTerm Q) (λ (t : Term A) h. mul_on t.mul h) s.more knows.1)

module _ (callable : Callable) (names : Names) where
  atom_on : {S : Type 0} (P Q : S → Type 0) → ((s : S) → P s → Q s) → (a : Atom S) → KnowsAtom callable names P a → KnowsAtom any names Q a
  atom_on P Q f (name c) knows = knows
  atom_on P Q f (number n) knows = tt
  atom_on P Q f (call g ts) knows = (tt, all_on P Q f ts knows.1)

  argument_on : (n : ℕ) (s : ArgumentAt n) → KnowsArgument callable names n s → KnowsArgument any names n s
  argument_on zero s knows = knows
  argument_on (suc n) s knows =
      sum_on (KnowsAtom callable names (KnowsArgument callable names n)) (KnowsAtom any names (KnowsArgument any names n))
      (atom_on (KnowsArgument callable names n) (KnowsArgument any names n) (argument_on n)) s knows

abbrev freed : Around → Around
freed around = record { callable = any; parameters = around.parameters }

value_on : (around : Around) (names : Names) (v : Value) → KnowsValue around names v → KnowsValue (freed around) names v
value_on around names v knows = argument_on around.callable names 5 v knows

module _ (around : Around) {B : Type 0} (P Q : ℕ → Names → List B → Type 0) (f : (next : ℕ) (names : Names) (bs : List B) → P next names bs → Q next names bs) where
  line_on : (next : ℕ) (names : Names) (l : Line B) → KnowsLine around P next names l → KnowsLine (freed around) Q next names l
  line_on next names (declare c v) knows = (knows.0, value_on around names v knows.1)
  line_on next names (assign c v) knows = (knows.0, value_on around names v knows.1)
  line_on next names (print v vs) knows = (value_on around names v knows.0, all_on (KnowsValue around names) (KnowsValue (freed around) names) (value_on around names) vs knows.1)
  line_on next names (nest keyword left relation right body) knows = (value_on around names left knows.0, (value_on around names right knows.1.0, f next names body knows.1.1))

  module _ (variables : Line B → ℕ) where
    lines_on : (next : ℕ) (names : Names) (ls : List (Line B)) → KnowsAll variables (KnowsLine around P) next names ls → KnowsAll variables (KnowsLine (freed around) Q) next names ls
    lines_on next names [] knows = tt
    lines_on next names (l ∷ ls) knows = (line_on next names l knows.0, lines_on (next + variables l) (names_behind next names l) ls knows.1)

pub body_on : (around : Around) (k next : ℕ) (names : Names) (ls : List (BodyAt k)) → KnowsBody around k next names ls → KnowsBody (freed around) k next names ls
body_on around zero next names ls knows = tt
body_on around (suc k) next names ls knows = lines_on around (KnowsBody around k) (KnowsBody (freed around) k) (body_on around k) (body_variables (suc k)) next names ls knows

pub func_on : (callable : Callable) (f : Func) → KnowsFunc callable f → KnowsFunc any f
func_on callable f knows = record {
  different = knows.different;
  body = body_on (around_func callable f) 8 _ _ f.body knows.body;
  answer = value_on (around_func callable f) _ f.answer knows.answer;
}

pub main_on : (callable : Callable) (ls : List (LineAt 7)) → KnowsBody (around_main callable) 8 0 [] ls → KnowsBody (around_main any) 8 0 [] ls
main_on callable ls knows = body_on (around_main callable) 8 0 [] ls knows
