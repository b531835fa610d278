use Rattle.std.proofs.Common.{◌≡◌, ◌<◌, ◌≤◌, length, arith}
use Rattle.odc_tool.proofs.WordLemmas.{folder_bad, file_bad, more_bad, three_words}
use Rattle.odc_tool.proofs.words.read_build.Goals as goal

pub returns-then-words-lt2 : goal.returns-then-words-lt2
returns-then-words-lt2 c = λ named.
    let list = c.args.words.now in
    let i : length list < 2 = omega arith in
    folder_bad list named i

pub returns-then-words-lt3 : goal.returns-then-words-lt3
returns-then-words-lt3 c = λ named.
    let list = c.args.words.now in
    let h : 2 ≤ length list = omega arith in
    let i : length list < 3 = omega arith in
    file_bad list named h i

pub returns-then-words-gt3 : goal.returns-then-words-gt3
returns-then-words-gt3 c = λ named.
    let list = c.args.words.now in
    let h : 3 < length list = omega arith in
    more_bad list named h

pub returns : goal.returns
returns c = λ named.
    let list = c.args.words.now in
    let h : 3 ≤ length list = omega arith in
    let i : length list ≤ 3 = omega arith in
    rw (c.as_str.ensures.value, c.as_str-2.ensures.value)
    (three_words list c.index-words-1.result c.index-words-2.result named h i c.index-words-1.is c.index-words-2.is)
