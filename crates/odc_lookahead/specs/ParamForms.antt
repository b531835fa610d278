-- Whether parameters have names: all have, or none has, and the names in front tell by what stands behind
-- them.
use Rattle.std.specs.Prelude.{◌≡◌, ℕ, ◌-◌, ◌<◌, ◌≤◌, List, ◌∷◌}
use Rattle.odc_syntax.specs.declared.token.Token.{Token}
use Rattle.odc_syntax.specs.declared.token.TokenKind.TheVariants.{Dollar}
use Rattle.odc_syntax.specs.declared.grammar.Use.{Use}
use Rattle.odc_syntax.specs.declared.grammar.Use.TheVariants.{Parameter}
use Rattle.odc_syntax.specs.Derives.{StartsWithout}
use Rattle.odc_lookahead.specs.declared.stop.Stop.{Stop}
use Rattle.odc_lookahead.specs.declared.stop.Stop.TheVariants as stop

-- `$` may stand in front of names, and these tokens behind it
pub data Front : Use → List Token → List Token → Type 0 where
  plain : {u : Use} {ts : List Token} → (u ≡ Parameter → StartsWithout Dollar ts) → Front u ts ts
  dollar : {u : Use} {t : Token} {us : List Token} → u ≡ Parameter → t.kind ≡ Dollar → Front u (t ∷ us) us

-- why parameters with names in front are not read where no type may stand, if this is why they are not read
-- as types at a bound of one; behind the names so many tokens are left
abbrev pub Crossed : ℕ → Stop → Stop → Type 0
Crossed at (stop.Syntax left) e = (left < at → e ≡ stop.Deep (at - 1)) × (at ≤ left → e ≡ stop.Syntax left)
Crossed at (stop.Deep left) e = e ≡ stop.Deep (at - 1)
Crossed at stop.Memory e = e ≡ stop.Memory
