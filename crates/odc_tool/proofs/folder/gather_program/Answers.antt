use Rattle.std.proofs.Common.{Some, IfSome}
use Rattle.std.specs.Option.{option_copied}
use Rattle.std.proofs.lemmas.Result.{IfOk-weaker, IfErr-weaker}
use Rattle.odc_io.specs.Trees.{texts, ListsFiles}
use Rattle.odc_typed.specs.View.{program}
use Rattle.odc_small.specs.Grammar.{Tree}
use Rattle.odc_tool.specs.Verdict.{Verdict, taken}
use Rattle.odc_tool.specs.Gather.{IsMain, IsTypedOf, Shows, IfRefused}
use Rattle.odc_tool.proofs.NameLemmas.{told_both}
use Rattle.odc_tool.proofs.GatherLemmas.{refused_told}
use Rattle.odc_tool.proofs.VerdictLemmas.{verdict_from}
use Rattle.odc_tool.proofs.folder.gather_program.Goals as goal

pub returns-clause-taken : goal.returns-clause-taken
returns-clause-taken g c =
    let dir = c.args.dir.now in
    let names = c.in-Some.names in
    let tree = g.F.Folder.tree c.args.folder.now in
    let listed : IfSome tree (λ files. ListsFiles files dir (Some names)) = rw c.in-Some.is at c.in_ok-names.ensures.found in
    let main : IfSome tree (λ files. IsMain files dir (texts names) c.in_ok-main.main) = rw c.names.ensures.same at c.in_ok-main.ensures.found in
    IfOk-weaker c.decide.result (λ p. IsTypedOf (λ (t : Tree). Shows c.in_ok-main.main (option_copied c.least_other.result) dir (taken t)) (program p)) _
    (λ p shown. record {
      tree = shown.tree;
      within = shown.within;
      same = shown.same;
      holds = told_both tree (λ files. ListsFiles files dir (Some names)) (λ files. IsMain files dir (texts names) c.in_ok-main.main)
          (λ files. Verdict files dir (taken shown.tree))
          (λ files l m. verdict_from files dir (texts names) l.1 c.in_ok-main.main (option_copied c.least_other.result) (taken shown.tree) m c.least_other.ensures shown.holds)
          listed main;
    })
    c.decide.ensures.ok

pub returns-clause-refused : goal.returns-clause-refused
returns-clause-refused g c =
    let dir = c.args.dir.now in
    let names = c.in-Some.names in
    let tree = g.F.Folder.tree c.args.folder.now in
    let listed : IfSome tree (λ files. ListsFiles files dir (Some names)) = rw c.in-Some.is at c.in_ok-names.ensures.found in
    let main : IfSome tree (λ files. IsMain files dir (texts names) c.in_ok-main.main) = rw c.names.ensures.same at c.in_ok-main.ensures.found in
    let shown = Shows c.in_ok-main.main (option_copied c.least_other.result) dir in
    IfErr-weaker c.decide.result (λ e. IfRefused e shown) (λ e. IfSome tree (λ files. IfRefused e (Verdict files dir)))
    (λ e r. refused_told e tree shown (λ files. Verdict files dir)
    (λ outcome shows. told_both tree (λ files. ListsFiles files dir (Some names)) (λ files. IsMain files dir (texts names) c.in_ok-main.main)
    (λ files. Verdict files dir outcome)
    (λ files l m. verdict_from files dir (texts names) l.1 c.in_ok-main.main (option_copied c.least_other.result) outcome m c.least_other.ensures shows)
    listed main)
    r)
    c.decide.ensures.err
