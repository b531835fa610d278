-- The pieces of the grammar as forms, and sums whose names may stand: the parts of a text that reading
-- functions find.
use Rattle.std.specs.Prelude.{◌≡◌, ℕ, zero, suc, ◌+◌, ◌-◌, ◌<◌, List, [], ◌∷◌, ◌++◌, length, codes, pos}
use Rattle.std.specs.Fmt.{decimal}
use Rattle.std.specs.List.{AllByRecursion}
use Rattle.odc_small.specs.Forms.{Form, FoundAt, NoDigitFirst, many, both}
use Rattle.odc_small.specs.declared.grammar.Sign.{Sign}
use Rattle.odc_small.specs.declared.grammar.Scale.{Scale}
use Rattle.odc_small.specs.declared.grammar.Relation.{Relation}
use Rattle.odc_typed.specs.declared.tree.Constant.TheVariants.{Int}
use Rattle.odc_typed.specs.Tree.{Expr, const, local, call as calls, Exprs}
use Rattle.odc_small.specs.Grammar.{Factor, Mul, Atom, name, number, call, ArgumentAt, AtomAt, SumAt, IsInt, IsName, IsUpper, IsSum, IsAtom, scale_spelling, sign_spelling, relation_spelling, next_spelling, list_spelling, arguments, atoms, sums_over, factors_over, terms_over}
use Rattle.odc_small.specs.Names.{Callable, Names, IsCallable, IsDeclared, or_zero, procedure_of, variable_of}
use Rattle.odc_small.specs.Typing.{at, list_exprs, argument_expr, atom_at, mul_expr}

abbrev pub ints : Form ℕ
ints = record { spelling = decimal; Is = IsInt; Ends = NoDigitFirst }

abbrev pub names : Form ℕ
names = record { spelling = λ c. c ∷ []; Is = IsName; Ends = λ _. Unit {0} }

abbrev pub uppers : Form ℕ
uppers = record { spelling = λ c. c ∷ []; Is = IsUpper; Ends = λ _. Unit {0} }

abbrev pub scales : Form Scale
scales = record { spelling = scale_spelling; Is = λ _. Unit {0}; Ends = λ _. Unit {0} }

abbrev pub signs : Form Sign
signs = record { spelling = sign_spelling; Is = λ _. Unit {0}; Ends = λ _. Unit {0} }

abbrev pub relations : Form Relation
relations = record { spelling = relation_spelling; Is = λ _. Unit {0}; Ends = λ _. Unit {0} }

-- ---- atoms and sums of the grammar whose names may stand

abbrev pub MayStand : {S : Type 0} → Callable → Names → Atom S → Type 0
MayStand callable bindings (name c) = IsDeclared bindings c
MayStand callable bindings (number n) = Unit {0}
MayStand callable bindings (call f items) = IsCallable callable f (length items)

abbrev pub IsKnownAtom : {S : Type 0} → Callable → Names → Type 0 → (S → Type 0) → Atom S → Type 0
IsKnownAtom callable bindings nested Is a = IsAtom nested Is a × MayStand callable bindings a

abbrev pub IsKnown : Callable → Names → (n : ℕ) → ArgumentAt n → Type 0
IsKnown callable bindings zero s = ⊥
IsKnown callable bindings (suc n) s =
    IsSum (record { spelling = (atoms n).spelling; Is = IsKnownAtom callable bindings (0 < n) (IsKnown callable bindings n); Ends = NoDigitFirst }) s

abbrev pub known_atoms : Callable → Names → (n : ℕ) → Form (AtomAt n)
known_atoms callable bindings n = record {
  spelling = (atoms n).spelling;
  Is = IsKnownAtom callable bindings (0 < n) (IsKnown callable bindings n);
  Ends = NoDigitFirst;
}

abbrev pub known_factors : Callable → Names → (n : ℕ) → Form (Factor (AtomAt n))
known_factors callable bindings n = factors_over (known_atoms callable bindings n)

abbrev pub known_sums : Callable → Names → (n : ℕ) → Form (SumAt n)
known_sums callable bindings n = sums_over (known_atoms callable bindings n)

-- ---- columns: a line of text has its last column so far behind its first

-- the column at which these bytes begin
abbrev pub column_at : ℕ → List ℕ → ℕ
column_at origin bytes = origin - length bytes

-- ---- lists

-- a further item, behind its comma
abbrev pub nexts_of : {T : Type 0} → Form T → Form T
nexts_of items = record { spelling = next_spelling items.spelling; Is = items.Is; Ends = items.Ends }

-- at least one item
abbrev pub lists_of : {T : Type 0} → Form T → Form (T × List T)
lists_of items = both items (many (nexts_of items))

-- any items up to a mark
abbrev pub closed_by : {T : Type 0} → List ℕ → Form T → Form (List T)
closed_by close items = record {
  spelling = λ ts. list_spelling items.spelling ts ++ close;
  Is = AllByRecursion items.Is;
  Ends = λ _. Unit {0};
}

-- ---- what is read of atoms

abbrev pub KnownEnds : Callable → Names → ℕ → List ℕ → Type 0
KnownEnds callable bindings zero rest = Unit {0}
KnownEnds callable bindings (suc n) rest = (known_sums callable bindings n).Ends rest

-- arguments of calls whose names may stand
abbrev pub known_arguments : Callable → Names → (n : ℕ) → Form (ArgumentAt n)
known_arguments callable bindings n = record {
  spelling = (arguments n).spelling;
  Is = IsKnown callable bindings n;
  Ends = KnownEnds callable bindings n;
}

-- names of variables
abbrev pub known_names : Names → Form ℕ
known_names bindings = record { spelling = λ c. c ∷ []; Is = λ c. IsName c × IsDeclared bindings c; Ends = NoDigitFirst }

-- calls of procedures
abbrev pub known_calls : Callable → Names → (n : ℕ) → Form (ℕ × List (ArgumentAt n))
known_calls callable bindings n = record {
  spelling = λ p. p.0 ∷ codes "(" ++ (list_spelling (arguments n).spelling p.1 ++ codes ")");
  Is = λ p. (0 < n) × ((IsUpper p.0 × AllByRecursion (IsKnown callable bindings n) p.1) × IsCallable callable p.0 (length p.1));
  Ends = NoDigitFirst;
}

-- ---- what is read, by the column at which it begins

pub record ReadsAt {T R : Type 0} (form : Form T) (told : ℕ → T → R) (origin : ℕ) (bytes rest : List ℕ) (e : R) : Type 0 where
  pub tree : T
  pub found : FoundAt form bytes tree rest
  pub gives : e ≡ told (column_at origin bytes) tree

-- a further factor, its atom behind a sign of three bytes
pub record ReadsFactor {S : Type 0} (form : Form (Atom S)) (told : ℕ → Atom S → Expr) (origin : ℕ) (bytes rest : List ℕ) (scale : Scale) (e : Expr) : Type 0 where
  pub atom : Atom S
  pub found : FoundAt (factors_over form) bytes (record { scale = scale; atom = atom }) rest
  pub gives : e ≡ told (column_at origin bytes + 3) atom

-- a further product, behind a sign of three bytes
pub record ReadsTerm {S : Type 0} (form : Form (Atom S)) (told : ℕ → Mul (Atom S) → Expr) (origin : ℕ) (bytes rest : List ℕ) (sign : Sign) (e : Expr) : Type 0 where
  pub mul : Mul (Atom S)
  pub found : FoundAt (terms_over form) bytes (record { sign = sign; mul = mul }) rest
  pub gives : e ≡ told (column_at origin bytes + 3) mul

-- ---- what the parts of sums become, on a line

abbrev pub name_told : Names → ℕ → ℕ → ℕ → Expr
name_told bindings line column c = local (at line column) (or_zero (variable_of c bindings))

abbrev pub int_told : ℕ → ℕ → ℕ → Expr
int_told line column n = const (at line column) (Int (pos n))

abbrev pub items_told : Callable → Names → (line n : ℕ) → ℕ → List (ArgumentAt n) → Exprs
items_told callable bindings line n column items = list_exprs (arguments n) (argument_expr callable bindings line n) column items

abbrev pub list_told : Callable → Names → (line n : ℕ) → ℕ → ArgumentAt n × List (ArgumentAt n) → Exprs
list_told callable bindings line n column p = items_told callable bindings line n column (p.0 ∷ p.1)

abbrev pub next_told : Callable → Names → (line n : ℕ) → ℕ → ArgumentAt n → Expr
next_told callable bindings line n column item = argument_expr callable bindings line n (column + 2) item

abbrev pub call_told : Callable → Names → (line n : ℕ) → ℕ → ℕ × List (ArgumentAt n) → Expr
call_told callable bindings line n column p = calls (at line column) (procedure_of p.0 callable) (items_told callable bindings line n (column + 2) p.1)

abbrev pub mul_told : Callable → Names → (line n : ℕ) → ℕ → Mul (AtomAt n) → Expr
mul_told callable bindings line n column m = mul_expr (atoms n) (atom_at callable bindings line n) line column m
