-- The names of a text: which variable and which procedure each one is, and when a name may stand.
use Rattle.std.specs.Prelude.{◌≡◌, ◌≢◌, ℕ, zero, suc, ◌+◌, ◌==◌, ◌≤◌, List, [], ◌∷◌, ◌++◌, length, map, Option, Some, None, if◌then◌else◌}
use Rattle.std.specs.List.{AllByRecursion, Contains}
use Rattle.odc_small.specs.declared.scope.Binding.{Binding}
use Rattle.odc_small.specs.declared.scope.Signature.{Signature}
use Rattle.odc_small.specs.Grammar.{Factor, Mul, Term, Sum, Atom, name, number, call, ArgumentAt, AtomAt, SumAt, Value, Line, declare, assign, print, nest, BodyAt, LineAt, Func, Tree, IsTree}

-- ---- procedures

-- the procedures that may be called: those of a list, in its order, or any
pub data Callable : Type 0 where
  any : Callable
  listed : (signatures : List Signature) → Callable

-- the position of a procedure among these; their number where it is none of them
abbrev pub position_of : ℕ → List Signature → ℕ
position_of f [] = 0
position_of f (s ∷ ss) = if f == s.name then 0 else suc (position_of f ss)

abbrev pub procedure_of : ℕ → Callable → ℕ
procedure_of f any = 0
procedure_of f (listed ss) = position_of f ss

-- how many parameters it has
abbrev pub arity_of : ℕ → List Signature → Option ℕ
arity_of f [] = None
arity_of f (s ∷ ss) = if f == s.name then Some s.parameters else arity_of f ss

-- a procedure is there, and takes so many arguments
abbrev pub IsCallable : Callable → ℕ → ℕ → Type 0
IsCallable any f n = Unit {0}
IsCallable (listed ss) f n = arity_of f ss ≡ Some n

abbrev pub signature_of : Func → Signature
signature_of f = record { name = f.name; parameters = length f.parameters }

abbrev pub names_of : List Signature → List ℕ
names_of ss = map (λ (s : Signature). s.name) ss

-- no two procedures have one name
abbrev pub AreDifferent : List ℕ → Type 0
AreDifferent [] = Unit {0}
AreDifferent (n ∷ ns) = ¬ Contains ns n × AreDifferent ns

-- ---- variables

-- the names of the open blocks, the oldest first
abbrev pub Names : Type 0
Names = List Binding

abbrev pub variable_of : ℕ → Names → Option ℕ
variable_of c [] = None
variable_of c (b ∷ bs) = if c == b.name then Some b.variable else variable_of c bs

-- the number of a name's variable, where there is one
abbrev pub or_zero : Option ℕ → ℕ
or_zero None = 0
or_zero (Some x) = x

abbrev pub IsDeclared : Names → ℕ → Type 0
IsDeclared names c = variable_of c names ≢ None

abbrev pub bound : ℕ → ℕ → Binding
bound c x = record { name = c; variable = x }

-- ---- what surrounds a part

pub record Around : Type 0 where
  pub callable : Callable
  -- the first variables, which can't be assigned to
  pub parameters : ℕ

-- ---- sums

abbrev pub KnowsAtom : {S : Type 0} → Callable → Names → (S → Type 0) → Atom S → Type 0
KnowsAtom callable names Knows (name c) = IsDeclared names c
KnowsAtom callable names Knows (number n) = Unit {0}
KnowsAtom callable names Knows (call f arguments) = IsCallable callable f (length arguments) × AllByRecursion Knows arguments

abbrev pub KnowsFactor : {A : Type 0} → (A → Type 0) → Factor A → Type 0
KnowsFactor Knows f = Knows f.atom

abbrev pub KnowsMul : {A : Type 0} → (A → Type 0) → Mul A → Type 0
KnowsMul Knows m = Knows m.first × AllByRecursion (KnowsFactor Knows) m.more

abbrev pub KnowsTerm : {A : Type 0} → (A → Type 0) → Term A → Type 0
KnowsTerm Knows t = KnowsMul Knows t.mul

abbrev pub KnowsSum : {A : Type 0} → (A → Type 0) → Sum A → Type 0
KnowsSum Knows s = KnowsMul Knows s.first × AllByRecursion (KnowsTerm Knows) s.more

abbrev pub KnowsArgument : Callable → Names → (n : ℕ) → ArgumentAt n → Type 0
KnowsArgument callable names zero s = ⊥
KnowsArgument callable names (suc n) s = KnowsSum (KnowsAtom callable names (KnowsArgument callable names n)) s

abbrev pub KnowsAtomAt : Callable → Names → (n : ℕ) → AtomAt n → Type 0
KnowsAtomAt callable names n a = KnowsAtom callable names (KnowsArgument callable names n) a

abbrev pub KnowsSumAt : Callable → Names → (n : ℕ) → SumAt n → Type 0
KnowsSumAt callable names n s = KnowsSum (KnowsAtomAt callable names n) s

abbrev pub KnowsValue : Around → Names → Value → Type 0
KnowsValue around names value = KnowsSumAt around.callable names 4 value

-- ---- lines: where these names stand in open blocks, and so many variables were declared before

-- a parameter isn't assigned to
abbrev pub MayAssign : ℕ → Option ℕ → Type 0
MayAssign parameters None = ⊥
MayAssign parameters (Some x) = parameters ≤ x

-- how many variables a line declares, its body's among them
abbrev pub line_variables : {B : Type 0} → (List B → ℕ) → Line B → ℕ
line_variables inner (declare c value) = 1
line_variables inner (assign c value) = 0
line_variables inner (print first more) = 0
line_variables inner (nest keyword left relation right body) = inner body

abbrev pub sum_of : {B : Type 0} → (B → ℕ) → List B → ℕ
sum_of f [] = 0
sum_of f (b ∷ bs) = f b + sum_of f bs

abbrev pub body_variables : (k : ℕ) → BodyAt k → ℕ
body_variables zero l = 0
body_variables (suc k) l = line_variables (sum_of (body_variables k)) l

abbrev pub variables_at : (k : ℕ) → LineAt k → ℕ
variables_at k l = body_variables (suc k) l

-- the names behind a line
abbrev pub names_behind : {B : Type 0} → ℕ → Names → Line B → Names
names_behind next names (declare c value) = names ++ bound c next ∷ []
names_behind next names (assign c value) = names
names_behind next names (print first more) = names
names_behind next names (nest keyword left relation right body) = names

abbrev pub KnowsLine : {B : Type 0} → Around → (ℕ → Names → List B → Type 0) → ℕ → Names → Line B → Type 0
KnowsLine around Knows next names (declare c value) = ¬ IsDeclared names c × KnowsValue around names value
KnowsLine around Knows next names (assign c value) = MayAssign around.parameters (variable_of c names) × KnowsValue around names value
KnowsLine around Knows next names (print first more) = KnowsValue around names first × AllByRecursion (KnowsValue around names) more
KnowsLine around Knows next names (nest keyword left relation right body) =
    KnowsValue around names left × (KnowsValue around names right × Knows next names body)

-- lines one after another, each behind what the ones before it declare
abbrev pub KnowsAll : {B : Type 0} → (Line B → ℕ) → (ℕ → Names → Line B → Type 0) → ℕ → Names → List (Line B) → Type 0
KnowsAll variables Knows next names [] = Unit {0}
KnowsAll variables Knows next names (l ∷ ls) =
    Knows next names l × KnowsAll variables Knows (next + variables l) (names_behind next names l) ls

abbrev pub KnowsBody : Around → (k : ℕ) → ℕ → Names → List (BodyAt k) → Type 0
KnowsBody around zero next names ls = Unit {0}
KnowsBody around (suc k) next names ls = KnowsAll (body_variables (suc k)) (KnowsLine around (KnowsBody around k)) next names ls

abbrev pub KnowsLines : Around → (k : ℕ) → ℕ → Names → List (LineAt k) → Type 0
KnowsLines around k next names ls = KnowsBody around (suc k) next names ls

-- ---- procedures and texts

-- the parameters are the first variables
abbrev pub parameter_names : ℕ → List ℕ → Names
parameter_names x [] = []
parameter_names x (c ∷ cs) = bound c x ∷ parameter_names (suc x) cs

abbrev pub around_func : Callable → Func → Around
around_func callable f = record { callable = callable; parameters = length f.parameters }

-- the names at the end of a procedure's lines: those of its outermost block
abbrev pub names_after : {B : Type 0} → (Line B → ℕ) → ℕ → Names → List (Line B) → Names
names_after variables next names [] = names
names_after variables next names (l ∷ ls) = names_after variables (next + variables l) (names_behind next names l) ls

pub record KnowsFunc (callable : Callable) (f : Func) : Type 0 where
  pub different : AreDifferent f.parameters
  pub body : KnowsLines (around_func callable f) 7 (length f.parameters + 1) (parameter_names 0 f.parameters) f.body
  pub answer :
      KnowsValue (around_func callable f) (names_after (variables_at 7) (length f.parameters + 1) (parameter_names 0 f.parameters) f.body) f.answer

abbrev pub around_main : Callable → Around
around_main callable = record { callable = callable; parameters = 0 }

abbrev pub callable_in : Tree → Callable
callable_in tree = listed (map signature_of tree.funcs)

-- a text of the grammar whose names are right
pub record IsText (tree : Tree) : Type 0 where
  pub is : IsTree tree
  pub different : AreDifferent (map (λ (f : Func). f.name) tree.funcs)
  pub funcs : AllByRecursion (KnowsFunc (callable_in tree)) tree.funcs
  pub main : KnowsLines (around_main (callable_in tree)) 7 0 [] tree.main
