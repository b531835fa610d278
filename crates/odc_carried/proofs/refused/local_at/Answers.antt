use Rattle.std.proofs.Common.{◌≡◌, List, map, length, ap, ◌∙◌, sym, arith, append_assoc}
use Rattle.std.specs.Prelude.{slice_get}
use Rattle.odc_program.specs.Trees.Program.{Local}
use Rattle.odc_program.specs.Views.Instances.{local}
use Rattle.odc_carried.proofs.emitting.Refusals.{third_at, third_past}
use Rattle.odc_carried.proofs.refused.local_at.Goals as goal

pub returns-then-x-len : goal.returns-then-x-len
returns-then-x-len c =
    let p = c.args.p.now in
    let a : c.len-results.result ≡ length p.params.items = omega (arith, c.len-results.ensures) in
    let b : c.len-locals.result ≡ length p.results.items = omega (arith, c.len-locals.ensures) in
    sym
    (ap (λ (ls : List Local). slice_get ls c.args.x) (append_assoc (map local p.params.items) (map local p.results.items) (map local p.locals.items))
    ∙ third_at p.params.items p.results.items p.locals.items c.args.x c.len-results.result c.len-locals.result a b c.if-x-results.false c.if-x-locals.false c.index-then-x-len.result.now (omega (arith, c.if-x-len.true, c.len.ensures)) c.index-then-x-len.ensures)

pub returns : goal.returns
returns c =
    let p = c.args.p.now in
    let a : c.len-results.result ≡ length p.params.items = omega (arith, c.len-results.ensures) in
    let b : c.len-locals.result ≡ length p.results.items = omega (arith, c.len-locals.ensures) in
    sym
    (ap (λ (ls : List Local). slice_get ls c.args.x) (append_assoc (map local p.params.items) (map local p.results.items) (map local p.locals.items))
    ∙ third_past p.params.items p.results.items p.locals.items c.args.x c.len-results.result c.len-locals.result a b c.if-x-results.false c.if-x-locals.false (omega (arith, c.if-x-len.false, c.len.ensures)))
