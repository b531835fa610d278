use Rattle.std.proofs.Common.{false, sym}
use Rattle.std.specs.Prelude.{◌≡◌, ◌==◌}
use Rattle.std.proofs.lemmas.Bool.{ne_eqb}
use Rattle.odc_syntax.specs.lexical.Names.{keywords}
use Rattle.odc_lex.proofs.table.keywords_with.Goals as goal

pub returns-then-first-eq97 : goal.returns-then-first-eq97
unfolding keywords
returns-then-first-eq97 c w = rw c.if-first-eq97.true

pub returns-then-first-eq98 : goal.returns-then-first-eq98
unfolding keywords
returns-then-first-eq98 c w = rw c.if-first-eq98.true

pub returns-then-first-eq99 : goal.returns-then-first-eq99
unfolding keywords
returns-then-first-eq99 c w = rw c.if-first-eq99.true

pub returns-then-first-eq100 : goal.returns-then-first-eq100
unfolding keywords
returns-then-first-eq100 c w = rw c.if-first-eq100.true

pub returns-then-first-eq101 : goal.returns-then-first-eq101
unfolding keywords
returns-then-first-eq101 c w = rw c.if-first-eq101.true

pub returns-then-first-eq102 : goal.returns-then-first-eq102
unfolding keywords
returns-then-first-eq102 c w = rw c.if-first-eq102.true

pub returns-then-first-eq105 : goal.returns-then-first-eq105
unfolding keywords
returns-then-first-eq105 c w = rw c.if-first-eq105.true

pub returns-then-first-eq109 : goal.returns-then-first-eq109
unfolding keywords
returns-then-first-eq109 c w = rw c.if-first-eq109.true

pub returns-then-first-eq110 : goal.returns-then-first-eq110
unfolding keywords
returns-then-first-eq110 c w = rw c.if-first-eq110.true

pub returns-then-first-eq111 : goal.returns-then-first-eq111
unfolding keywords
returns-then-first-eq111 c w = rw c.if-first-eq111.true

pub returns-then-first-eq112 : goal.returns-then-first-eq112
unfolding keywords
returns-then-first-eq112 c w = rw c.if-first-eq112.true

pub returns-then-first-eq114 : goal.returns-then-first-eq114
unfolding keywords
returns-then-first-eq114 c w = rw c.if-first-eq114.true

pub returns-then-first-eq115 : goal.returns-then-first-eq115
unfolding keywords
returns-then-first-eq115 c w = rw c.if-first-eq115.true

pub returns-then-first-eq116 : goal.returns-then-first-eq116
unfolding keywords
returns-then-first-eq116 c w = rw c.if-first-eq116.true

pub returns-then-first-eq117 : goal.returns-then-first-eq117
unfolding keywords
returns-then-first-eq117 c w = rw c.if-first-eq117.true

pub returns-then-first-eq119 : goal.returns-then-first-eq119
unfolding keywords
returns-then-first-eq119 c w = rw c.if-first-eq119.true

pub returns-else-first-eq119 : goal.returns-else-first-eq119
unfolding keywords
returns-else-first-eq119 c w =
    let e97 : (97 == c.args.first) ≡ false = ne_eqb 97 c.args.first (λ e. c.if-first-eq97.false (sym e)) in
    let e98 : (98 == c.args.first) ≡ false = ne_eqb 98 c.args.first (λ e. c.if-first-eq98.false (sym e)) in
    let e99 : (99 == c.args.first) ≡ false = ne_eqb 99 c.args.first (λ e. c.if-first-eq99.false (sym e)) in
    let e100 : (100 == c.args.first) ≡ false = ne_eqb 100 c.args.first (λ e. c.if-first-eq100.false (sym e)) in
    let e101 : (101 == c.args.first) ≡ false = ne_eqb 101 c.args.first (λ e. c.if-first-eq101.false (sym e)) in
    let e102 : (102 == c.args.first) ≡ false = ne_eqb 102 c.args.first (λ e. c.if-first-eq102.false (sym e)) in
    let e105 : (105 == c.args.first) ≡ false = ne_eqb 105 c.args.first (λ e. c.if-first-eq105.false (sym e)) in
    let e109 : (109 == c.args.first) ≡ false = ne_eqb 109 c.args.first (λ e. c.if-first-eq109.false (sym e)) in
    let e110 : (110 == c.args.first) ≡ false = ne_eqb 110 c.args.first (λ e. c.if-first-eq110.false (sym e)) in
    let e111 : (111 == c.args.first) ≡ false = ne_eqb 111 c.args.first (λ e. c.if-first-eq111.false (sym e)) in
    let e112 : (112 == c.args.first) ≡ false = ne_eqb 112 c.args.first (λ e. c.if-first-eq112.false (sym e)) in
    let e114 : (114 == c.args.first) ≡ false = ne_eqb 114 c.args.first (λ e. c.if-first-eq114.false (sym e)) in
    let e115 : (115 == c.args.first) ≡ false = ne_eqb 115 c.args.first (λ e. c.if-first-eq115.false (sym e)) in
    let e116 : (116 == c.args.first) ≡ false = ne_eqb 116 c.args.first (λ e. c.if-first-eq116.false (sym e)) in
    let e117 : (117 == c.args.first) ≡ false = ne_eqb 117 c.args.first (λ e. c.if-first-eq117.false (sym e)) in
    let e119 : (119 == c.args.first) ≡ false = ne_eqb 119 c.args.first (λ e. c.if-first-eq119.false (sym e)) in
    simp (e97, e98, e99, e100, e101, e102, e105, e109, e110, e111, e112, e114, e115, e116, e117, e119)
