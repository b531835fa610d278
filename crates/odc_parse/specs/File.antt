-- What `parse_file` answers. Where no tree is allowed, the fault stands at the first token such that no
-- file of a depth of at most 200 begins with the tokens up to and including it; the end of the tokens counts
-- as a last token.
use Rattle.std.specs.Prelude.{◌≡◌, ℕ, ◌+◌, ◌≤◌, List, length}
use Rattle.odc_text.specs.declared.place.Place.{Place}
use Rattle.odc_text.specs.declared.code.Code.{Code}
use Rattle.odc_text.specs.declared.code.Code.TheVariants.{G01, L05}
use Rattle.odc_text.specs.declared.code.Fault as faults
use Rattle.odc_syntax.specs.declared.token.Token.{Token}
use Rattle.odc_syntax.specs.Tree.{Decls}
use Rattle.odc_syntax.specs.Grammar.{file}
use Rattle.odc_syntax.specs.Derives.{Derives}
use Rattle.odc_lookahead.specs.Refused.{FirstRefused, NoneRefused}
use Rattle.odc_lookahead.specs.declared.error.ParseError.{ParseError}
use Rattle.odc_lookahead.specs.declared.error.ParseError.TheVariants.{Fault, Memory}
use Rattle.odc_lookahead.specs.Law.{Kind, BeginsWith, place_of}

-- a file, by its package's name and its declarations
abbrev pub file_of : Kind (Token × Decls)
file_of b v = file b v.0 v.1

-- Some file with a tree of a depth of at most b begins with the first n tokens. With all and the end they
-- are a file.
pub data Begun (b : ℕ) (ts : List Token) (n : ℕ) : Type 0 where
  front : BeginsWith file_of b ts n → Begun b ts n
  whole : (v : Token × Decls) → Derives (file_of b v) ts → n ≡ length ts + 1 → Begun b ts n

-- The token at this position, or the end, is the first such that no file of a depth of at most 200 begins
-- with the tokens up to and including it.
pub record IsFirstBad (ts : List Token) (at : ℕ) : Type 0 where
  pub within : at ≤ length ts
  pub before : (n : ℕ) → n ≤ at → Begun 200 ts n
  pub bad : Begun 200 ts (at + 1) → ⊥

-- The tokens are a file with no refused form, and this is its tree, the only one whatever the depth.
pub record IsFile (ts : List Token) (name : Token) (ds : Decls) : Type 0 where
  pub clean : NoneRefused ts 0 (length ts)
  pub tree : Derives (file_of 200 (name, ds)) ts
  pub only : (b : ℕ) (v : Token × Decls) → Derives (file_of b v) ts → v ≡ (name, ds)

-- Why they are none: a form is refused, nothing of any depth goes on with the first bad token, or only
-- something deeper does.
pub data IsNoFile (ts : List Token) (end : Place) (fault : faults.Fault) : Type 0 where
  refused : (at : ℕ) (code : Code) → FirstRefused ts 0 (length ts) at code → fault ≡ record { code = code; at = place_of ts end at } → IsNoFile ts end fault
  syntax : (at : ℕ) → NoneRefused ts 0 (length ts) → IsFirstBad ts at → ((b : ℕ) → Begun b ts (at + 1) → ⊥) →
      fault ≡ record { code = G01; at = place_of ts end at } → IsNoFile ts end fault
  deep : (at : ℕ) → NoneRefused ts 0 (length ts) → IsFirstBad ts at → (b : ℕ) → Begun b ts (at + 1) →
      fault ≡ record { code = L05; at = place_of ts end at } → IsNoFile ts end fault

abbrev pub NoFile : List Token → Place → ParseError → Type 0
NoFile ts end (Fault f) = IsNoFile ts end f
NoFile ts end Memory = Unit {0}
