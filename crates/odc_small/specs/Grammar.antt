-- The small grammar: its trees, how each is spelled, and which of them belong to it. A text belongs to
-- the grammar exactly where it is the spelling of such a tree whose names are right (`Names`). 9 is a
-- tab and 10 a newline.
use Rattle.std.specs.Prelude.{◌≡◌, ◌≢◌, ℕ, zero, suc, ◌-◌, ◌<◌, ◌≤◌, List, [], ◌∷◌, ◌++◌, length, codes, replicate, Option, Some, None}
use Rattle.std.specs.Char.{IsAsciiLowercase, IsAsciiUppercase}
use Rattle.std.specs.Fmt.{decimal}
use Rattle.std.specs.List.{AllByRecursion}
use Rattle.odc_small.specs.Forms.{Form, NoDigitFirst, spellings, many, never}
use Rattle.odc_small.specs.declared.grammar.Sign.{Sign}
use Rattle.odc_small.specs.declared.grammar.Sign.TheVariants.{Plus, Minus}
use Rattle.odc_small.specs.declared.grammar.Scale.{Scale}
use Rattle.odc_small.specs.declared.grammar.Scale.TheVariants.{Times, Over, Rest}
use Rattle.odc_small.specs.declared.grammar.Relation.{Relation}
use Rattle.odc_small.specs.declared.grammar.Relation.TheVariants.{Less, Same}
use Rattle.odc_small.specs.declared.grammar.Keyword.{Keyword}
use Rattle.odc_small.specs.declared.grammar.Keyword.TheVariants.{If, For}

-- ---- sums over atoms of some kind

pub record Factor (A : Type 0) : Type 0 where
  pub scale : Scale
  pub atom : A

-- the factors of a product
pub record Mul (A : Type 0) : Type 0 where
  pub first : A
  pub more : List (Factor A)

-- a further product of a sum, behind its sign
pub record Term (A : Type 0) : Type 0 where
  pub sign : Sign
  pub mul : Mul A

pub record Sum (A : Type 0) : Type 0 where
  pub first : Mul A
  pub more : List (Term A)

-- ---- atoms: calls nest so deep at most

-- a variable by its letter, an integer, or a call of a procedure by its letter
pub data Atom (S : Type 0) : Type 0 where
  name : (c : ℕ) → Atom S
  number : (n : ℕ) → Atom S
  call : (f : ℕ) (arguments : List S) → Atom S

-- the arguments of calls that may nest so deep
abbrev pub ArgumentAt : ℕ → Type 0
ArgumentAt zero = ⊥
ArgumentAt (suc n) = Sum (Atom (ArgumentAt n))

abbrev pub AtomAt : ℕ → Type 0
AtomAt n = Atom (ArgumentAt n)

abbrev pub SumAt : ℕ → Type 0
SumAt n = Sum (AtomAt n)

-- ---- lines: bodies nest so deep at most

abbrev pub Value : Type 0
Value = SumAt 4

pub data Line (B : Type 0) : Type 0 where
  declare : (c : ℕ) (value : Value) → Line B
  assign : (c : ℕ) (value : Value) → Line B
  print : (first : Value) (more : List Value) → Line B
  nest : (keyword : Keyword) (left : Value) (relation : Relation) (right : Value) (body : List B) → Line B

-- the lines of a body in which lines may nest so deep
abbrev pub BodyAt : ℕ → Type 0
BodyAt zero = ⊥
BodyAt (suc k) = Line (BodyAt k)

-- a line with room for so many further depths inside
abbrev pub LineAt : ℕ → Type 0
LineAt k = Line (BodyAt k)

-- ---- procedures and texts

pub record Func : Type 0 where
  pub name : ℕ
  pub parameters : List ℕ
  pub body : List (LineAt 7)
  pub answer : Value

pub record Tree : Type 0 where
  pub funcs : List Func
  pub main : List (LineAt 7)

-- ---- pieces

abbrev pub IsName : ℕ → Type 0
IsName = IsAsciiLowercase

abbrev pub IsUpper : ℕ → Type 0
IsUpper = IsAsciiUppercase

-- at most nine digits, with no needless zero
abbrev pub IsInt : ℕ → Type 0
IsInt n = n < 1000000000

-- so many items, each behind a comma but the first
abbrev pub next_spelling : {T : Type 0} → (T → List ℕ) → T → List ℕ
next_spelling spelling t = codes ", " ++ spelling t

abbrev pub list_spelling : {T : Type 0} → (T → List ℕ) → List T → List ℕ
list_spelling spelling [] = []
list_spelling spelling (t ∷ ts) = spelling t ++ spellings (next_spelling spelling) ts

-- ---- how sums are spelled, and which belong to the grammar

abbrev pub scale_spelling : Scale → List ℕ
scale_spelling Times = codes " * "
scale_spelling Over = codes " / "
scale_spelling Rest = codes " % "

abbrev pub sign_spelling : Sign → List ℕ
sign_spelling Plus = codes " + "
sign_spelling Minus = codes " - "

-- the integer that an atom is
abbrev pub number_of : {S : Type 0} → Atom S → Option ℕ
number_of (name c) = None
number_of (number n) = Some n
number_of (call f arguments) = None

-- an integer that comes first stands alone
abbrev pub Leads : {T : Type 0} → Option ℕ → List T → Type 0
Leads None more = Unit {0}
Leads (Some n) more = length more ≡ 0

-- an integer that divides isn't 0
abbrev pub MayScale : Scale → Option ℕ → Type 0
MayScale Times n = Unit {0}
MayScale Over n = n ≢ Some 0
MayScale Rest n = n ≢ Some 0

-- atoms over arguments of some form
abbrev pub atom_spelling : {S : Type 0} → (S → List ℕ) → Atom S → List ℕ
atom_spelling spelling (name c) = c ∷ []
atom_spelling spelling (number n) = decimal n
atom_spelling spelling (call f arguments) = f ∷ codes "(" ++ (list_spelling spelling arguments ++ codes ")")

-- the innermost calls hold no calls: there an atom is none
abbrev pub IsAtom : {S : Type 0} → (calls : Type 0) → (S → Type 0) → Atom S → Type 0
IsAtom calls Is (name c) = IsName c
IsAtom calls Is (number n) = IsInt n
IsAtom calls Is (call f arguments) = calls × (IsUpper f × AllByRecursion Is arguments)

abbrev pub factor_spelling : {S : Type 0} → Form (Atom S) → Factor (Atom S) → List ℕ
factor_spelling atoms f = scale_spelling f.scale ++ atoms.spelling f.atom

abbrev pub mul_spelling : {S : Type 0} → Form (Atom S) → Mul (Atom S) → List ℕ
mul_spelling atoms m = atoms.spelling m.first ++ spellings (factor_spelling atoms) m.more

abbrev pub term_spelling : {S : Type 0} → Form (Atom S) → Term (Atom S) → List ℕ
term_spelling atoms t = sign_spelling t.sign ++ mul_spelling atoms t.mul

abbrev pub sum_spelling : {S : Type 0} → Form (Atom S) → Sum (Atom S) → List ℕ
sum_spelling atoms s = mul_spelling atoms s.first ++ spellings (term_spelling atoms) s.more

abbrev pub IsFactor : {S : Type 0} → Form (Atom S) → Factor (Atom S) → Type 0
IsFactor atoms f = atoms.Is f.atom × MayScale f.scale (number_of f.atom)

-- at most eight factors
pub record IsMul {S : Type 0} (atoms : Form (Atom S)) (m : Mul (Atom S)) : Type 0 where
  pub first : atoms.Is m.first
  pub more : AllByRecursion (IsFactor atoms) m.more
  pub leads : Leads (number_of m.first) m.more
  pub short : length m.more ≤ 7

abbrev pub IsTerm : {S : Type 0} → Form (Atom S) → Term (Atom S) → Type 0
IsTerm atoms t = IsMul atoms t.mul

-- at most eight products
pub record IsSum {S : Type 0} (atoms : Form (Atom S)) (s : Sum (Atom S)) : Type 0 where
  pub first : IsMul atoms s.first
  pub more : AllByRecursion (IsTerm atoms) s.more
  pub short : length s.more ≤ 7

-- ---- sums as forms: each ends where no more of it follows

abbrev pub atoms_over : {S : Type 0} → Type 0 → Form S → Form (Atom S)
atoms_over calls arguments = record {
  spelling = atom_spelling arguments.spelling;
  Is = IsAtom calls arguments.Is;
  Ends = NoDigitFirst;
}

abbrev pub factors_over : {S : Type 0} → Form (Atom S) → Form (Factor (Atom S))
factors_over atoms = record { spelling = factor_spelling atoms; Is = IsFactor atoms; Ends = atoms.Ends }

abbrev pub muls_over : {S : Type 0} → Form (Atom S) → Form (Mul (Atom S))
muls_over atoms = record { spelling = mul_spelling atoms; Is = IsMul atoms; Ends = (many (factors_over atoms)).Ends }

abbrev pub terms_over : {S : Type 0} → Form (Atom S) → Form (Term (Atom S))
terms_over atoms = record { spelling = term_spelling atoms; Is = IsTerm atoms; Ends = (muls_over atoms).Ends }

abbrev pub sums_over : {S : Type 0} → Form (Atom S) → Form (Sum (Atom S))
sums_over atoms = record { spelling = sum_spelling atoms; Is = IsSum atoms; Ends = (many (terms_over atoms)).Ends }

-- calls nest at most so deep
abbrev pub arguments : (n : ℕ) → Form (ArgumentAt n)
arguments zero = never
arguments (suc n) = sums_over (atoms_over (0 < n) (arguments n))

abbrev pub atoms : (n : ℕ) → Form (AtomAt n)
atoms n = atoms_over (0 < n) (arguments n)

abbrev pub sums : (n : ℕ) → Form (SumAt n)
sums n = sums_over (atoms n)

abbrev pub values : Form Value
values = sums 4

-- ---- lines

abbrev pub newline : List ℕ
newline = 10 ∷ []

abbrev pub tabs : ℕ → List ℕ
tabs d = replicate d 9

abbrev pub keyword_spelling : Keyword → List ℕ
keyword_spelling If = codes "if "
keyword_spelling For = codes "for "

abbrev pub relation_spelling : Relation → List ℕ
relation_spelling Less = codes " < "
relation_spelling Same = codes " == "

abbrev pub head_spelling : Keyword → Value → Relation → Value → List ℕ
head_spelling keyword left relation right =
    keyword_spelling keyword ++ (values.spelling left ++ (relation_spelling relation ++ (values.spelling right ++ (codes " {" ++ newline))))

-- a line behind its tabs, over lines of its body with their tabs; the body's end has the line's own tabs
abbrev pub inner_spelling : {B : Type 0} → ℕ → (B → List ℕ) → Line B → List ℕ
inner_spelling d spelling (declare c value) = c ∷ codes " := " ++ (values.spelling value ++ newline)
inner_spelling d spelling (assign c value) = c ∷ codes " = " ++ (values.spelling value ++ newline)
inner_spelling d spelling (print first more) = codes "fmt.println(" ++ (list_spelling values.spelling (first ∷ more) ++ (codes ")" ++ newline))
inner_spelling d spelling (nest keyword left relation right body) =
    head_spelling keyword left relation right ++ (spellings spelling body ++ (tabs d ++ (codes "}" ++ newline)))

abbrev pub line_spelling : {B : Type 0} → ℕ → (B → List ℕ) → Line B → List ℕ
line_spelling d spelling l = tabs d ++ inner_spelling d spelling l

abbrev pub IsLine : {B : Type 0} → (B → Type 0) → Line B → Type 0
IsLine Is (declare c value) = IsName c × values.Is value
IsLine Is (assign c value) = IsName c × values.Is value
IsLine Is (print first more) = values.Is first × AllByRecursion values.Is more
IsLine Is (nest keyword left relation right body) = values.Is left × (values.Is right × AllByRecursion Is body)

abbrev pub lines_over : {B : Type 0} → ℕ → Form B → Form (Line B)
lines_over d inner = record { spelling = line_spelling d inner.spelling; Is = IsLine inner.Is; Ends = λ _. Unit {0} }

-- a line with room for so many depths inside stands at depth 8 less these
abbrev pub bodies : (k : ℕ) → Form (BodyAt k)
bodies zero = never
bodies (suc k) = lines_over (8 - k) (bodies k)

abbrev pub lines : (k : ℕ) → Form (LineAt k)
lines k = lines_over (8 - k) (bodies k)

-- ---- procedures

abbrev pub parameter_spelling : ℕ → List ℕ
parameter_spelling c = c ∷ codes ": int"

-- from the name to the end of the first line
abbrev pub func_head_spelling : Func → List ℕ
func_head_spelling f = f.name ∷ codes " :: proc(" ++ (list_spelling parameter_spelling f.parameters ++ (codes ") -> int {" ++ newline))

-- the last lines: the answer, and the end of the body
abbrev pub func_foot_spelling : Func → List ℕ
func_foot_spelling f = 9 ∷ codes "return " ++ (values.spelling f.answer ++ (newline ++ (codes "}" ++ newline)))

abbrev pub func_spelling : Func → List ℕ
func_spelling f = func_head_spelling f ++ (spellings (lines 7).spelling f.body ++ func_foot_spelling f)

pub record IsFunc (f : Func) : Type 0 where
  pub name : IsUpper f.name
  pub parameters : AllByRecursion IsName f.parameters
  pub body : AllByRecursion (lines 7).Is f.body
  pub answer : values.Is f.answer

abbrev pub funcs : Form Func
funcs = record { spelling = func_spelling; Is = IsFunc; Ends = λ _. Unit {0} }

-- ---- texts, beside their names

abbrev pub head : List ℕ
head = codes "package main" ++ 10 ∷ codes "import \"core:fmt\"" ++ 10 ∷ []

abbrev pub main_head : List ℕ
main_head = codes "main :: proc() {" ++ newline

abbrev pub foot : List ℕ
foot = codes "}" ++ newline

abbrev pub text_spelling : Tree → List ℕ
text_spelling tree = head ++ (spellings func_spelling tree.funcs ++ (main_head ++ (spellings (lines 7).spelling tree.main ++ foot)))

pub record IsTree (tree : Tree) : Type 0 where
  pub funcs : AllByRecursion IsFunc tree.funcs
  pub main : AllByRecursion (lines 7).Is tree.main
