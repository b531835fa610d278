use Rattle.std.proofs.Common.{◌≡◌, ◌<◌, ◌∙◌, length, codes, string_bytes, sym, ap, arith}
use Rattle.odc_tool.specs.Words.{running, executing}
use Rattle.odc_tool.specs.Reading.{text_of}
use Rattle.odc_tool.specs.declared.words.Name.TheVariants.{Run, Exec, Build}
use Rattle.odc_tool.proofs.WordLemmas.{none_bad, first_bad, first_is}
use Rattle.odc_tool.proofs.words.read_command.Goals as goal

pub returns-then-is_empty : goal.returns-then-is_empty
returns-then-is_empty c =
    let list = c.as_slice-words.result.now in
    let h : length list ≡ 0 = grind (arith, c.is_empty.ensures, c.if-is_empty.true) in
    rw (sym c.as_slice-words.ensures.value) (none_bad list h)

pub returns-in_default : goal.returns-in_default
returns-in_default c =
    let list = c.as_slice-words.result.now in
    let h : 0 < length list = grind (arith, c.is_empty.ensures, c.if-is_empty.false) in
    let none = c.in_default.ensures.none in
    rw (sym c.as_slice-words.ensures.value)
    (first_bad list c.index-words-0.result h c.index-words-0.is (λ r. none Run (sym (c.as_str.ensures.value ∙ r))) (λ r. none Exec (sym (c.as_str.ensures.value ∙ r)))
    (λ r. none Build (sym (c.as_str.ensures.value ∙ r))))

pub returns-in-Ok : goal.returns-in-Ok
returns-in-Ok c =
    let list = c.as_slice-words.result.now in
    let h : 0 < length list = grind (arith, c.is_empty.ensures, c.if-is_empty.false) in
    let named : string_bytes c.index-words-0.result ≡ codes "run" = sym c.as_str.ensures.value ∙ sym c.in-Some.ensures.some ∙ ap text_of c.in-Run.is in
    rw (sym c.as_slice-words.ensures.value) (c.in-Ok.ensures running (first_is list c.index-words-0.result (codes "run") h c.index-words-0.is named))

pub returns-in-Err : goal.returns-in-Err
returns-in-Err c =
    let list = c.as_slice-words.result.now in
    let h : 0 < length list = grind (arith, c.is_empty.ensures, c.if-is_empty.false) in
    let named : string_bytes c.index-words-0.result ≡ codes "run" = sym c.as_str.ensures.value ∙ sym c.in-Some.ensures.some ∙ ap text_of c.in-Run.is in
    rw (sym c.as_slice-words.ensures.value) (c.in-Err.ensures running (first_is list c.index-words-0.result (codes "run") h c.index-words-0.is named))

pub returns-in-Ok-read_start : goal.returns-in-Ok-read_start
returns-in-Ok-read_start c =
    let list = c.as_slice-words.result.now in
    let h : 0 < length list = grind (arith, c.is_empty.ensures, c.if-is_empty.false) in
    let named : string_bytes c.index-words-0.result ≡ codes "exec" = sym c.as_str.ensures.value ∙ sym c.in-Some.ensures.some ∙ ap text_of c.in-Exec.is in
    rw (sym c.as_slice-words.ensures.value) (c.in-Ok-read_start.ensures executing (first_is list c.index-words-0.result (codes "exec") h c.index-words-0.is named))

pub returns-in-Err-read_start : goal.returns-in-Err-read_start
returns-in-Err-read_start c =
    let list = c.as_slice-words.result.now in
    let h : 0 < length list = grind (arith, c.is_empty.ensures, c.if-is_empty.false) in
    let named : string_bytes c.index-words-0.result ≡ codes "exec" = sym c.as_str.ensures.value ∙ sym c.in-Some.ensures.some ∙ ap text_of c.in-Exec.is in
    rw (sym c.as_slice-words.ensures.value) (c.in-Err-read_start.ensures executing (first_is list c.index-words-0.result (codes "exec") h c.index-words-0.is named))
