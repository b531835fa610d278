-- How lists between commas go on behind an item.
use Rattle.std.specs.Prelude.{◌≡◌, ℕ, Bool, false, List, ◌∷◌, length, ◌⊎◌}
use Rattle.odc_syntax.specs.declared.token.Token.{Token}
use Rattle.odc_syntax.specs.declared.token.TokenKind.{TokenKind}
use Rattle.odc_syntax.specs.declared.token.TokenKind.TheVariants.{Comma}
use Rattle.odc_syntax.specs.Derives.{StartsWithout}
use Rattle.odc_lookahead.specs.declared.stop.Stop.{Stop}
use Rattle.odc_lookahead.specs.declared.stop.Stop.TheVariants as stop
use Rattle.odc_lookahead.specs.declared.tokens.Fit.{Fit}
use Rattle.odc_lookahead.specs.declared.tokens.Fit.TheVariants as fit

-- the closing token stands first
pub record Closed (close : TokenKind) (ts : List Token) (t : Token) (rest : List Token) : Type 0 where
  pub is : ts ≡ t ∷ rest
  pub kind : t.kind ≡ close

-- it does not
pub record Open (close : TokenKind) (ts rest : List Token) : Type 0 where
  pub is : rest ≡ ts
  pub open_ : StartsWithout close ts

-- a comma stands first
pub record Parted (ts us : List Token) : Type 0 where
  pub comma : Token
  pub is : ts ≡ comma ∷ us
  pub kind : comma.kind ≡ Comma

-- the list ends with its closing token, before which a comma may stand
pub data Ended (close : TokenKind) (ts : List Token) (t : Token) (rest : List Token) : Type 0 where
  at_once : Closed close ts t rest → Ended close ts t rest
  trailing : (us : List Token) → Parted ts us → Closed close us t rest → Ended close ts t rest

-- a further item follows a comma
pub record Again (close : TokenKind) (ts rest : List Token) : Type 0 where
  pub parted : Parted ts rest
  pub open_ : StartsWithout close rest

-- a comma or the closing token stands first
pub record Goes (close : TokenKind) (ts : List Token) (left : ℕ) : Type 0 where
  pub first : Token
  pub rest : List Token
  pub is : ts ≡ first ∷ rest
  pub kind : (first.kind ≡ Comma) ⊎ (first.kind ≡ close)
  pub left_is : left ≡ length rest

-- why a list does not go on: neither a comma nor the closing token stands first, or one does and nothing
-- may follow the item
pub record Stuck (close : TokenKind) (ts : List Token) (left : ℕ) : Type 0 where
  pub left_is : left ≡ length ts
  pub comma : StartsWithout Comma ts
  pub closing : StartsWithout close ts

abbrev pub NotGoing : TokenKind → Fit → List Token → Stop → Type 0
NotGoing close w ts (stop.Syntax left) = Stuck close ts left
NotGoing close w ts (stop.Deep left) = Goes close ts left × (w ≡ fit.Over)
NotGoing close w ts stop.Memory = ⊥
