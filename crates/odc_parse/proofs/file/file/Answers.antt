use Rattle.std.proofs.lemmas.Result.{err_from_is_err_and}
use Rattle.odc_syntax.specs.View.{decls}
use Rattle.odc_parse.proofs.FileLemmas.{head_refused, head_answer}
use Rattle.odc_parse.proofs.file.file.Goals as goal

pub returns-in_err-package-clause-exact : goal.returns-in_err-package-clause-exact
returns-in_err-package-clause-exact c =
    let p = err_from_is_err_and c.from_residual.result c.from_residual.ensures.1 in rw (p.1, p.2) c.in_err-package.ensures.refused

pub returns-in_err-decls-clause-exact : goal.returns-in_err-decls-clause-exact
returns-in_err-decls-clause-exact c =
    let p = err_from_is_err_and c.from_residual-in_err-decls.result c.from_residual-in_err-decls.ensures.1 in
    rw (p.1, p.2) (head_refused c.args.tokens.now c.in_ok-package.behind.now c.in_ok-package.package c.in_err-decls.field-0.0 c.in_ok-package.ensures.read c.in_err-decls.ensures.exact)

pub returns-clause-exact : goal.returns-clause-exact
returns-clause-exact c =
    head_answer c.args.tokens.now c.in_ok-package.behind.now c.in_ok-decls.field-0.rest.now c.in_ok-package.package (decls c.in_ok-decls.field-0.tree.items) c.in_ok-decls.field-0.height c.in_ok-package.ensures.read c.in_ok-decls.ensures.exact
