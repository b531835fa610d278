-- What stands first behind `for`, by names, `&`, a comma and `in`.
use Rattle.std.specs.Prelude.{◌≡◌, ℕ, Bool, true, false, List, [], ◌∷◌, length, Some, None}
use Rattle.odc_syntax.specs.declared.token.Token.{Token}
use Rattle.odc_syntax.specs.declared.token.TokenKind.{TokenKind}
use Rattle.odc_syntax.specs.declared.token.TokenKind.TheVariants as kind
use Rattle.odc_syntax.specs.declared.tree.RangeNames.{RangeNames}
use Rattle.odc_syntax.specs.Derives.{StartsWithout}
use Rattle.odc_lookahead.specs.declared.stop.Stop.{Stop}
use Rattle.odc_lookahead.specs.declared.stop.Stop.TheVariants as stop
use Rattle.odc_lookahead.specs.stmts.RunBounds.{continues_closed, LastOver}

-- `&` stands first, or it does not
pub data Signed : Bool → List Token → List Token → Type 0 where
  plain : (ts : List Token) → StartsWithout kind.Ampersand ts → Signed false ts ts
  signed : (t : Token) (ts : List Token) → t.kind ≡ kind.Ampersand → Signed true (t ∷ ts) ts

-- variables and `in`
pub data Ranged (ts : List Token) : RangeNames → List Token → Type 0 where
  one : (r : Bool) (v i : Token) (rest : List Token) → Signed r ts (v ∷ i ∷ rest) → v.kind ≡ kind.Name → i.kind ≡ kind.In → Ranged ts (record { by_reference = r; first = v; second = None }) rest
  two : (r : Bool) (v c w i : Token) (rest : List Token) → Signed r ts (v ∷ c ∷ w ∷ i ∷ rest) → v.kind ≡ kind.Name → c.kind ≡ kind.Comma → w.kind ≡ kind.Name → i.kind ≡ kind.In → Ranged ts (record { by_reference = r; first = v; second = Some w }) rest

-- one name, behind which neither a comma nor `in` stands
pub record OneName (r : Bool) (ts rest : List Token) : Type 0 where
  pub name : Token
  pub signed : Signed r ts (name ∷ rest)
  pub is_name : name.kind ≡ kind.Name
  pub no_comma : StartsWithout kind.Comma rest
  pub no_in : StartsWithout kind.In rest

-- a name and a comma, behind which no name with `in` stands
pub record MoreNames (r : Bool) (ts last : List Token) : Type 0 where
  pub name : Token
  pub comma : Token
  pub signed : Signed r ts (name ∷ comma ∷ last)
  pub is_name : name.kind ≡ kind.Name
  pub is_comma : comma.kind ≡ kind.Comma
  pub no_in : (w i : Token) (us : List Token) → last ≡ w ∷ i ∷ us → w.kind ≡ kind.Name → i.kind ≡ kind.In → ⊥

-- There is no `in` behind variables: from the place on, none can stand.
pub data Unranged (ts : List Token) : List Token → Type 0 where
  other : StartsWithout kind.Name ts → StartsWithout kind.Ampersand ts → Unranged ts ts
  address : (rest : List Token) → Signed true ts rest → StartsWithout kind.Name rest → Unranged ts rest
  one_name : (r : Bool) (rest : List Token) → OneName r ts rest → Unranged ts rest
  more : (r : Bool) (last : List Token) → MoreNames r ts last → StartsWithout kind.Name last → Unranged ts last
  pair : (r : Bool) (t : Token) (rest : List Token) → MoreNames r ts (t ∷ rest) → t.kind ≡ kind.Name → StartsWithout kind.In rest → Unranged ts rest

-- what a name, or `&` and a name, costs as an expression; what clauses cost with it and a comma
abbrev pub cost : Bool → ℕ
cost false = 1
cost true = 2

abbrev pub list_cost : Bool → ℕ
list_cost false = 1
list_cost true = 3

-- what clauses cost that come to the place
abbrev pub asks : {ts place : List Token} → Unranged ts place → ℕ
asks (other f k) = 1
asks (address rest z f) = 1
asks (one_name r rest z) = cost r
asks (more r last z f) = list_cost r
asks (pair r t rest z e f) = list_cost r

-- what may stand behind one name, or `&` and a name, at the start of a loop's header
abbrev pub unsigned : Bool → Bool
unsigned false = true
unsigned true = false

abbrev pub goes_one : Bool → TokenKind → Bool
goes_one r kind.Colon = unsigned r
goes_one r kind.OpenBrace = true
goes_one r kind.Do = true
goes_one r k = continues_closed k

abbrev pub EndsOne : Bool → List Token → Type 0
EndsOne r [] = Unit {0}
EndsOne r (t ∷ ts) = goes_one r t.kind ≡ false

-- why nothing is read behind one, where too few levels are left for it as an expression
pub data OneOver (r : Bool) (rest : List Token) : Stop → Type 0 where
  over : (x : Token) (us : List Token) → rest ≡ x ∷ us → goes_one r x.kind ≡ true → OneOver r rest (stop.Deep (length us))
  ended : EndsOne r rest → OneOver r rest (stop.Syntax (length rest))

-- a name stands before a token of this kind
pub record NameBefore (k : TokenKind) (ts : List Token) (t : Token) (rest : List Token) : Type 0 where
  pub next : Token
  pub is : ts ≡ t ∷ next ∷ rest
  pub is_name : t.kind ≡ kind.Name
  pub is_next : next.kind ≡ k

abbrev pub NoNameBefore : TokenKind → List Token → Type 0
NoNameBefore k ts = (t c : Token) (us : List Token) → ts ≡ t ∷ c ∷ us → t.kind ≡ kind.Name → c.kind ≡ k → ⊥

-- the same behind a comma
abbrev pub NoColon : List Token → Type 0
NoColon last = NoNameBefore kind.Colon last

pub data MoreOver (r : Bool) (last : List Token) : Stop → Type 0 where
  closed : (e : Stop) → (r ≡ false → NoColon last) → LastOver last e → MoreOver r last e
  colon : (t x : Token) (us : List Token) → r ≡ false → last ≡ t ∷ x ∷ us → t.kind ≡ kind.Name → x.kind ≡ kind.Colon → MoreOver r last (stop.Deep (length us))
