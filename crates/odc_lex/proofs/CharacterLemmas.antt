-- Characters at the front of a text.
use Rattle.std.proofs.Common.{Bool, false, take-append-drop, ◌≡◌, ℕ, List, ◌++◌, length, take, drop, Some, None, sym, ◌∙◌, ap, arith, length-append}
use Rattle.std.proofs.lemmas.List.{take_at}
use Rattle.std.specs.Char.{encode_utf8}
use Rattle.std.proofs.lemmas.Str.{encode_same}
use Rattle.std.proofs.lemmas.Bool.{false≢true}
use Rattle.bstr.specs.Utf8.{decoded, Decoded}
use Rattle.bstr.proofs.lemmas.SoundLemmas.{SpellsChar-decoded}
use Rattle.bstr.proofs.lemmas.EncodeLemmas.{decoded-encode}
use Rattle.odc_syntax.specs.lexical.Words.{IsCharacter}
use Rattle.odc_syntax.specs.lexical.Longest.{Absent}
use Rattle.odc_syntax.specs.lexical.Comments.{is_any}
use Rattle.odc_lex.specs.declared.character.Character.{Character}
use Rattle.odc_lex.specs.Character.{IsFirstCharacter}

pub first_found : (text : List ℕ) (c n : ℕ) → Some c ≡ (decoded text).char → n ≡ (decoded text).size → IsFirstCharacter text (record { code = c; len = n })
first_found text c n found size =
    let spells = SpellsChar-decoded text c (sym found) in
    let width : length (encode_utf8 c) ≡ n = spells.width ∙ sym size in record {
      within = omega (arith, ap length spells.bytes, length-append (encode_utf8 c) (drop (decoded text).size text));
      scalar = spells.scalar;
      bytes = ap (take n) spells.bytes ∙ take_at (encode_utf8 c) (drop (decoded text).size text) n width;
    }

pub first_absent : (text : List ℕ) → None ≡ (decoded text).char → Absent (IsCharacter is_any) text
first_absent text none v s is e =
    let read = decoded-encode is.code s is.scalar in
    let spelled : encode_utf8 is.code ++ s ≡ text = ap (λ x. x ++ s) (sym is.bytes) ∙ e in
    let found : Some is.code ≡ None = sym (ap (λ (d : Decoded). d.char) read) ∙ ap (λ t. (decoded t).char) spelled ∙ sym none in
    cc

-- the first character is of no class whose test it fails
pub character_absent : (p : ℕ → Bool) (text : List ℕ) (c : Character) → IsFirstCharacter text c → p c.code ≡ false → Absent (IsCharacter p) text
character_absent p text c first fails v s is e =
    let spelled : encode_utf8 is.code ++ s ≡ encode_utf8 c.code ++ drop c.len text =
    ap (λ x. x ++ s) (sym is.bytes) ∙ e ∙ sym (take-append-drop c.len text) ∙ ap (λ x. x ++ drop c.len text) first.bytes in
    let same = (encode_same is.code c.code s (drop c.len text) spelled).0 in
    false≢true (sym fails ∙ ap p (sym same) ∙ is.passed)
