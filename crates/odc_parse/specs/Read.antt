-- What the functions read that stand below `parse_file`.
use Rattle.std.specs.Prelude.{◌≡◌, ℕ, ◌-◌, length, Vec, Bool, true, false, List, [], ◌∷◌, Option, Some, None}
use Rattle.odc_syntax.specs.declared.token.Token.{Token}
use Rattle.odc_syntax.specs.declared.token.TokenKind.{TokenKind}
use Rattle.odc_syntax.specs.declared.token.TokenKind.TheVariants.{Name, Import, Package, Semicolon}
use Rattle.odc_syntax.specs.declared.grammar.Mode.TheVariants.{Free}
use Rattle.std.specs.declared.alloc.Global.{Global}
use Rattle.odc_text.specs.declared.place.Place.{Place}
use Rattle.odc_text.specs.declared.code.Code.TheVariants.{G01, L05}
use Rattle.odc_syntax.specs.declared.tree.Decl as decl
use Rattle.odc_syntax.specs.View.{decls}
use Rattle.odc_lookahead.specs.declared.stop.Stop.{Stop}
use Rattle.odc_lookahead.specs.declared.stop.Stop.TheVariants as stop
use Rattle.odc_lookahead.specs.declared.error.ParseError.{ParseError}
use Rattle.odc_lookahead.specs.declared.error.ParseError.TheVariants.{Fault, Memory}
use Rattle.odc_lookahead.specs.Law.{place_of}
use Rattle.odc_syntax.specs.Tree.{Decl, Decls}
use Rattle.odc_parse.specs.declared.file.Contents.{Contents}
use Rattle.odc_syntax.specs.Grammar.{import_, declaration}
use Rattle.odc_syntax.specs.Derives.{StartsWithout}
use Rattle.odc_lookahead.specs.Exact.{Answer, Exact, one}
use Rattle.odc_lookahead.specs.stmts.StatementSets.{continues_declaration}

-- what an import or a declaration begins with
abbrev pub starts_item : TokenKind → Bool
starts_item Name = true
starts_item Import = true
starts_item _ = false

abbrev pub BeginsItem : List Token → Type 0
BeginsItem [] = ⊥
BeginsItem (t ∷ ts) = starts_item t.kind ≡ true

abbrev pub nothing_follows : TokenKind → Bool
nothing_follows k = false

-- an import or a declaration is read, by the first token
pub data ItemRead (ts : List Token) (a : Answer Decl) : Type 0 where
  imported : (t : Token) (us : List Token) → ts ≡ t ∷ us → t.kind ≡ Import → Exact (one import_) nothing_follows 200 ts a → ItemRead ts a
  declared : (t : Token) (us : List Token) → ts ≡ t ∷ us → t.kind ≡ Name → Exact (one (declaration Free)) (continues_declaration Free) 200 ts a → ItemRead ts a

-- a name that may be left out is read
pub data NameRead (ts : List Token) : Option Token → List Token → Type 0 where
  there : (t : Token) {rest : List Token} → ts ≡ t ∷ rest → t.kind ≡ Name → NameRead ts (Some t) rest
  missing : StartsWithout Name ts → NameRead ts None ts

-- the package's name and the declarations that were read
abbrev pub file_view : Contents → Token × Decls
file_view c = (c.package, decls c.decls.items)

-- the fault where a file isn't read
abbrev pub Unread : List Token → Place → Stop → ParseError → Type 0
Unread ts end (stop.Syntax left) (Fault f) = f ≡ record { code = G01; at = place_of ts end (length ts - left) }
Unread ts end (stop.Deep left) (Fault f) = f ≡ record { code = L05; at = place_of ts end ((length ts - left) - 1) }
Unread ts end stop.Memory (Fault f) = ⊥
Unread ts end (stop.Syntax left) Memory = ⊥
Unread ts end (stop.Deep left) Memory = ⊥
Unread ts end stop.Memory Memory = Unit {0}

abbrev pub list_view : Vec decl.Decl Global → Decls
list_view l = decls l.items

-- `package`, a name and a semicolon are read
pub record HeadRead (ts : List Token) (n : Token) (rest : List Token) : Type 0 where
  pub word : Token
  pub behind : List Token
  pub after : List Token
  pub end : Token
  pub word_is : ts ≡ word ∷ behind
  pub word_kind : word.kind ≡ Package
  pub name_is : behind ≡ n ∷ after
  pub name_kind : n.kind ≡ Name
  pub end_is : after ≡ end ∷ rest
  pub end_kind : end.kind ≡ Semicolon
