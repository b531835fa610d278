use Rattle.std.proofs.Common.{◌≡◌, ◌≢◌, ◌<◌, ◌≤◌, length, codes, arith}
use Rattle.odc_tool.proofs.WordLemmas.{second_bad, third_bad, missing_bad, fourth_bad, fifth_bad, two_words, four_words, other_text, same_text}
use Rattle.odc_tool.proofs.words.read_start.Goals as goal

pub returns-then-words-lt2 : goal.returns-then-words-lt2
returns-then-words-lt2 c = λ v named.
    let list = c.args.words.now in
    let i : length list < 2 = omega arith in
    second_bad v list named i

pub returns-then-words-eq2 : goal.returns-then-words-eq2
returns-then-words-eq2 c = λ v named.
    let list = c.args.words.now in
    let h : length list ≡ 2 = omega arith in
    rw c.as_str-what.ensures.value (two_words v list c.index-words-1.result named h c.index-words-1.is)

pub returns-then-ne : goal.returns-then-ne
returns-then-ne c = λ v named.
    let list = c.args.words.now in
    let h : 2 ≤ length list = omega arith in
    let i : length list ≢ 2 = λ e. omega (arith, e) in
    let off = other_text c.as_str.result.now (codes "--steps") c.ne.result c.ne.ensures c.if-ne.true in
    third_bad v list c.index-words-2.result named h i c.index-words-2.is (rw c.as_str.ensures.value at off)

pub returns-then-words-lt4 : goal.returns-then-words-lt4
returns-then-words-lt4 c = λ v named.
    let list = c.args.words.now in
    let h : 2 ≤ length list = omega arith in
    let i : length list ≢ 2 = λ e. omega (arith, e) in
    let j : length list < 4 = omega arith in
    let third = same_text c.as_str.result.now (codes "--steps") c.ne.result c.ne.ensures c.if-ne.false in
    missing_bad v list c.index-words-2.result named h i j c.index-words-2.is (rw c.as_str.ensures.value at third)

pub returns-in_default : goal.returns-in_default
returns-in_default c = λ v named.
    let list = c.args.words.now in
    let h : 4 ≤ length list = omega arith in
    let third = same_text c.as_str.result.now (codes "--steps") c.ne.result c.ne.ensures c.if-ne.false in
    fourth_bad v list c.index-words-2.result c.index-words-3.result named h c.index-words-2.is (rw c.as_str.ensures.value at third)
    c.index-words-3.is (rw c.as_str-2.ensures.value at c.in_default.ensures)

pub returns-then-words-gt4 : goal.returns-then-words-gt4
returns-then-words-gt4 c = λ v named.
    let list = c.args.words.now in
    let h : 4 < length list = omega arith in
    let third = same_text c.as_str.result.now (codes "--steps") c.ne.result c.ne.ensures c.if-ne.false in
    fifth_bad v list c.index-words-2.result c.index-words-3.result named h c.index-words-2.is (rw c.as_str.ensures.value at third)
    c.index-words-3.is (rw c.as_str-2.ensures.value at c.in-Some.ensures.0)

pub returns : goal.returns
returns c = λ v named.
    let list = c.args.words.now in
    let h : 4 ≤ length list = omega arith in
    let i : length list ≤ 4 = omega arith in
    let third = same_text c.as_str.result.now (codes "--steps") c.ne.result c.ne.ensures c.if-ne.false in
    rw c.as_str-what.ensures.value
    (four_words v list c.index-words-1.result c.index-words-2.result c.index-words-3.result c.in-Some.steps named h i c.index-words-1.is c.index-words-2.is c.index-words-3.is
    (rw c.as_str.ensures.value at third) (rw c.as_str-2.ensures.value at c.in-Some.ensures.0) (rw c.as_str-2.ensures.value at c.in-Some.ensures.1))
