-- What has been read of the lines of a procedure, and what one more line makes of it.
use Rattle.std.specs.Prelude.{◌≡◌, ℕ, zero, suc, ◌+◌, ◌-◌, ◌<◌, ◌≤◌, List, [], ◌∷◌, ◌++◌, length, codes}
use Rattle.std.specs.List.{AllByRecursion}
use Rattle.odc_text.specs.declared.place.Place.{Place}
use Rattle.odc_typed.specs.declared.tree.Local.{Local}
use Rattle.odc_typed.specs.Tree.{Expr, Exprs, Stmt, Stmts}
use Rattle.odc_small.specs.declared.grammar.Keyword.{Keyword}
use Rattle.odc_small.specs.declared.grammar.Relation.{Relation}
use Rattle.odc_small.specs.declared.lines.Progress.{Progress}
use Rattle.odc_small.specs.Forms.{NoneAt, Form, spellings, mark, both}
use Rattle.odc_small.specs.Grammar.{Value, nest, BodyAt, LineAt, SumAt, IsLine, keyword_spelling, relation_spelling, inner_spelling, bodies, lines, newline, values}
use Rattle.odc_small.specs.Names.{Around, Callable, Names, IsDeclared, MayAssign, bound, or_zero, variable_of, KnowsLine, KnowsBody, body_variables, names_behind}
use Rattle.odc_small.specs.Reading.{names, relations, known_sums, lists_of, list_told}
use Rattle.odc_small.specs.Typing.{at, compared, value_at, body_height, body_locals, body_stmts, line_stmt}

-- ---- parts of lines whose names may stand

abbrev pub known_values : Callable → Names → Form (SumAt 4)
known_values callable bindings = known_sums callable bindings 4

abbrev pub keywords : Form Keyword
keywords = record { spelling = keyword_spelling; Is = λ _. Unit {0}; Ends = λ _. Unit {0} }

-- a name, a sign, and a value to the end of the line
abbrev pub Setting : Type 0
Setting = ℕ × (Unit {0} × (Value × Unit {0}))

abbrev pub settings : Callable → Names → List ℕ → Form Setting
settings callable bindings sign = both names (both (mark sign) (both (known_values callable bindings) (mark newline)))

abbrev pub setting_told : Callable → Names → (line width : ℕ) → ℕ → Setting → ℕ × Expr
setting_told callable bindings line width column t = (t.0, value_at callable bindings line (column + 1 + width) t.1.1.0)

-- a name that is free begins with a value
abbrev pub declarations : Callable → Names → Form Setting
declarations callable bindings = record {
  spelling = (settings callable bindings (codes " := ")).spelling;
  Is = λ t. (settings callable bindings (codes " := ")).Is t × ¬ IsDeclared bindings t.0;
  Ends = λ _. Unit {0};
}

-- a variable that may be assigned to gets a value
abbrev pub assignments : Callable → ℕ → Names → Form Setting
assignments callable parameters bindings = record {
  spelling = (settings callable bindings (codes " = ")).spelling;
  Is = λ t. (settings callable bindings (codes " = ")).Is t × MayAssign parameters (variable_of t.0 bindings);
  Ends = λ _. Unit {0};
}

abbrev pub assigned_told : Callable → Names → (line : ℕ) → ℕ → Setting → ℕ × Expr
assigned_told callable bindings line column t = (or_zero (variable_of t.0 bindings), value_at callable bindings line (column + 4) t.1.1.0)

-- values behind the printing procedure's name
abbrev pub Printing : Type 0
Printing = Unit {0} × ((Value × List Value) × Unit {0})

abbrev pub prints : Callable → Names → Form Printing
prints callable bindings = both (mark (codes "fmt.println(")) (both (lists_of (known_values callable bindings)) (mark (codes ")" ++ newline)))

abbrev pub printing_told : Callable → Names → (line : ℕ) → ℕ → Printing → Exprs
printing_told callable bindings line column t = list_told callable bindings line 5 (column + 12) t.1.0

-- two values, and the brace that opens a body
abbrev pub Condition : Type 0
Condition = Value × (Relation × (Value × Unit {0}))

abbrev pub conditions : Callable → Names → Form Condition
conditions callable bindings =
    both (known_values callable bindings) (both relations (both (known_values callable bindings) (mark (codes " {" ++ newline))))

abbrev pub condition_told : Callable → Names → (line : ℕ) → ℕ → Condition → Expr
condition_told callable bindings line column t =
    compared (at line (column + length (values.spelling t.0) + 1)) t.1.0 (value_at callable bindings line column t.0)
    (value_at callable bindings line (column + length (values.spelling t.0) + length (relation_spelling t.1.0)) t.1.1.0)

-- ---- what has been read

pub record Reached : Type 0 where
  -- the names of the open blocks, the oldest first
  pub names : Names
  pub locals : List Local
  -- the number of the next variable
  pub next : ℕ
  pub line : ℕ

abbrev pub reached : Progress → Reached
reached p = record { names = p.names.items; locals = p.locals.items; next = p.next; line = p.line }

-- behind a line that declares a name at this place
abbrev pub begun : Reached → ℕ → Place → Reached
begun r c place = record {
  names = r.names ++ bound c r.next ∷ [];
  locals = r.locals ++ record { at = place } ∷ [];
  next = r.next + 1;
  line = r.line + 1;
}

-- behind a line
abbrev pub after_body : (k : ℕ) → Reached → BodyAt k → Reached
after_body zero r l = r
after_body (suc k) r l = record {
  names = names_behind r.next r.names l;
  locals = r.locals ++ body_locals (suc k) r.line l;
  next = r.next + body_variables (suc k) l;
  line = r.line + body_height (suc k) l;
}

abbrev pub after_line : (k : ℕ) → Reached → LineAt k → Reached
after_line k r l = after_body (suc k) r l

-- behind lines one after another
abbrev pub after_all : (k : ℕ) → Reached → List (BodyAt k) → Reached
after_all k r [] = r
after_all k r (l ∷ ls) = after_all k (after_body k r l) ls

-- ---- lines that stand where so much has been read

-- behind its tabs a line begins
pub record InnerAt (around : Around) (k : ℕ) (old : Reached) (bytes : List ℕ) (l : LineAt k) (rest : List ℕ) : Type 0 where
  pub is : IsLine (bodies k).Is l
  pub knows : KnowsLine around (KnowsBody around k) old.next old.names l
  pub whole : bytes ≡ inner_spelling (8 - k) (bodies k).spelling l ++ rest

-- no line with a body stands here
abbrev pub NoNest : Around → (k : ℕ) → Reached → List ℕ → Type 0
NoNest around k old bytes =
    (w : Keyword) (left : Value) (x : Relation) (right : Value) (body : List (BodyAt k)) (rest : List ℕ) → InnerAt around k old bytes (nest w left x right body) rest → ⊥

abbrev pub NoInner : Around → (k : ℕ) → Reached → List ℕ → Type 0
NoInner around k old bytes = (l : LineAt k) (rest : List ℕ) → InnerAt around k old bytes l rest → ⊥

-- with its tabs
pub record OuterAt (around : Around) (k : ℕ) (old : Reached) (bytes : List ℕ) (l : LineAt k) (rest : List ℕ) : Type 0 where
  pub is : IsLine (bodies k).Is l
  pub knows : KnowsLine around (KnowsBody around k) old.next old.names l
  pub whole : bytes ≡ (lines k).spelling l ++ rest

abbrev pub NoOuter : Around → (k : ℕ) → Reached → List ℕ → Type 0
NoOuter around k old bytes = (l : LineAt k) (rest : List ℕ) → OuterAt around k old bytes l rest → ⊥

-- neither lines nor variables are more than bytes
pub record Moves (old new : Reached) (bytes rest : List ℕ) : Type 0 where
  pub next : new.next + length rest ≤ old.next + length bytes
  pub line : new.line + length rest ≤ old.line + length bytes
  pub shorter : length rest ≤ length bytes

-- a line is read, and what it becomes
pub record ReadsInner (around : Around) (k : ℕ) (old new : Reached) (bytes rest : List ℕ) (s : Stmt) : Type 0 where
  pub tree : LineAt k
  pub found : InnerAt around k old bytes tree rest
  pub gives : s ≡ line_stmt around.callable (body_stmts around.callable k) (8 - k) old.next old.names old.line tree
  pub after : new ≡ after_line k old tree
  pub moves : Moves old new bytes rest
  pub consumed : length rest < length bytes

pub record ReadsOuter (around : Around) (k : ℕ) (old new : Reached) (bytes rest : List ℕ) (s : Stmt) : Type 0 where
  pub tree : LineAt k
  pub found : OuterAt around k old bytes tree rest
  pub gives : s ≡ line_stmt around.callable (body_stmts around.callable k) (8 - k) old.next old.names old.line tree
  pub after : new ≡ after_line k old tree
  pub moves : Moves old new bytes rest
  pub consumed : length rest < length bytes

-- ---- bodies

-- no line of a body stands here
abbrev pub NoBody : Around → (k : ℕ) → Reached → List ℕ → Type 0
NoBody around zero old bytes = Unit {0}
NoBody around (suc k) old bytes = NoOuter around k old bytes

-- all lines that stand here are read
pub record ReadsBody (around : Around) (k : ℕ) (old new : Reached) (bytes rest : List ℕ) (ss : Stmts) : Type 0 where
  pub trees : List (BodyAt k)
  pub is : AllByRecursion (bodies k).Is trees
  pub knows : KnowsBody around k old.next old.names trees
  pub whole : bytes ≡ spellings (bodies k).spelling trees ++ rest
  pub off : NoBody around k new rest
  pub gives : ss ≡ body_stmts around.callable k old.next old.names old.line trees
  pub after : new ≡ after_all k old trees
  pub moves : Moves old new bytes rest

-- ---- what surrounds lines

abbrev pub around_by : Callable → ℕ → Around
around_by callable parameters = record { callable = callable; parameters = parameters }

-- no line without a body stands here, and nothing has changed
pub record NoSimple (around : Around) (old new : Reached) (bytes : List ℕ) : Type 0 where
  pub declares : NoneAt (declarations around.callable old.names) bytes
  pub assigns : NoneAt (assignments around.callable around.parameters old.names) bytes
  pub prints_none : NoneAt (prints around.callable old.names) bytes
  pub same : new ≡ old

-- no line stands here, and nothing has changed
pub record NoLine (around : Around) (k : ℕ) (old new : Reached) (bytes : List ℕ) : Type 0 where
  pub none : NoOuter around k old bytes
  pub same : new ≡ old

pub record NoBlock (around : Around) (k : ℕ) (old new : Reached) (bytes : List ℕ) : Type 0 where
  pub none : NoNest around k old bytes
  pub same : new ≡ old
