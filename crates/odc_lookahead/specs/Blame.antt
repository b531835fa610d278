-- Which fault is answered.
use Rattle.std.specs.Prelude.{◌≡◌, ℕ, ◌+◌, ◌-◌, ◌<◌, ◌≤◌, List, length}
use Rattle.odc_text.specs.declared.place.Place.{Place}
use Rattle.odc_text.specs.declared.code.Code.{Code}
use Rattle.odc_text.specs.declared.code.Code.TheVariants.{G01, L05}
use Rattle.odc_text.specs.declared.code.Fault as faults
use Rattle.odc_syntax.specs.declared.token.Token.{Token}
use Rattle.odc_lookahead.specs.Refused.{FirstRefused, NoneRefused}
use Rattle.odc_lookahead.specs.declared.stop.Stop.{Stop}
use Rattle.odc_lookahead.specs.declared.stop.Stop.TheVariants as stop
use Rattle.odc_lookahead.specs.declared.error.ParseError.{ParseError}
use Rattle.odc_lookahead.specs.declared.error.ParseError.TheVariants.{Fault, Memory}
use Rattle.odc_lookahead.specs.Law.{Kind, IsNotRead, place_of}

-- of the first refused form from `from` on and before `upto`, or else this code at this position
pub data Blamed (ts : List Token) (end : Place) (from upto at : ℕ) (code : Code) (fault : faults.Fault) : Type 0 where
  clean : NoneRefused ts from upto → fault ≡ record { code = code; at = place_of ts end at } → Blamed ts end from upto at code fault
  first : (i : ℕ) (c : Code) → FirstRefused ts from upto i c → fault ≡ record { code = c; at = place_of ts end i } → Blamed ts end from upto at code fault

-- of what was read up to `next`: it is too deep, or a refused form begins in it
pub data Cut (ts : List Token) (end : Place) (from depth next : ℕ) (fault : faults.Fault) : Type 0 where
  too_deep : 200 < depth → Blamed ts end from (next + 1) next G01 fault → Cut ts end from depth next fault
  inside_it : (i : ℕ) (c : Code) → depth ≤ 200 → FirstRefused ts from next i c → fault ≡ record { code = c; at = place_of ts end i } → Cut ts end from depth next fault

abbrev pub OfFault : (faults.Fault → Type 0) → ParseError → Type 0
OfFault p (Fault f) = p f
OfFault p Memory = ⊥

abbrev pub Stopped : List Token → Place → ℕ → Stop → ParseError → Type 0
Stopped ts end from (stop.Syntax left) e = OfFault (Blamed ts end from ((length ts - left) + 1) (length ts - left) G01) e
Stopped ts end from (stop.Deep left) e = OfFault (Blamed ts end from (((length ts - left) - 1) + 1) ((length ts - left) - 1) L05) e
Stopped ts end from stop.Memory e = e ≡ Memory

-- why a public call gives no tree
abbrev pub NotRead : {V : Type 0} → Kind V → List Token → Place → ℕ → ParseError → Type 0
NotRead x ts end from (Fault f) = IsNotRead x ts end from f
NotRead x ts end from Memory = Unit {0}
