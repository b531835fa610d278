-- What the bytes of a token say, where a rule of the grammar asks for more than the kind.
use Rattle.std.specs.Prelude.{ℕ, List, codes, bytes_eq, if◌then◌else◌}
use Rattle.odc_syntax.specs.lexical.Value.{text_value}
use Rattle.odc_syntax.specs.declared.token.TokenKind.{TokenKind}
use Rattle.odc_syntax.specs.declared.token.TokenKind.TheVariants.{Name, Text, Directive}
use Rattle.odc_syntax.specs.declared.token.Word.{Word}
use Rattle.odc_syntax.specs.declared.token.Word.TheVariants.{Plain, Int, Soa, Partial, CallerLocation, Odin, Contextless}
use Rattle.odc_syntax.specs.declared.token.Word.TheVariants as word

abbrev pub name_word : List ℕ → Word
name_word w = if bytes_eq w (codes "int") then Int else Plain

abbrev pub directive_word : List ℕ → Word
directive_word w =
    if bytes_eq w (codes "#soa") then Soa
    else (if bytes_eq w (codes "#partial") then Partial
    else (if bytes_eq w (codes "#type") then word.Type
    else (if bytes_eq w (codes "#caller_location") then CallerLocation
    else Plain)))

-- by the value of the string, in either kind of quotes: an escape may write a letter of it
abbrev pub value_word : List ℕ → Word
value_word v =
    if bytes_eq v (codes "odin") then Odin
    else (if bytes_eq v (codes "contextless") then Contextless
    else Plain)

abbrev pub text_word : List ℕ → Word
text_word w = value_word (text_value w)

abbrev pub word_of : TokenKind → List ℕ → Word
word_of Name w = name_word w
word_of Directive w = directive_word w
word_of Text w = text_word w
word_of _ w = Plain
