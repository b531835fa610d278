use Rattle.std.proofs.lemmas.Result.{err_from_is_err_and}
use Rattle.odc_parse.proofs.FileLemmas.{package_refused, package_name_refused, package_end_refused}
use Rattle.odc_parse.proofs.file.head.Goals as goal

pub returns-in_err-_package-clause-refused : goal.returns-in_err-_package-clause-refused
returns-in_err-_package-clause-refused c =
    let p = err_from_is_err_and c.from_residual.result c.from_residual.ensures.1 in rw (p.1, p.2) (package_refused c.args.tokens.now c.in_err-_package.field-0.0 c.in_err-_package.ensures.refused)

pub returns-in_err-name-clause-refused : goal.returns-in_err-name-clause-refused
returns-in_err-name-clause-refused c =
    let p = err_from_is_err_and c.from_residual-in_err-name.result c.from_residual-in_err-name.ensures.1 in
    rw (p.1, p.2)
    (package_name_refused c.args.tokens.now c.in_ok-_package.behind.now c.in_ok-_package._package c.in_err-name.field-0.0 c.in_ok-_package.ensures.is c.in_ok-_package.ensures.kind c.in_err-name.ensures.refused)

pub returns-in_err-_semicolon-clause-refused : goal.returns-in_err-_semicolon-clause-refused
returns-in_err-_semicolon-clause-refused c =
    let p = err_from_is_err_and c.from_residual-in_err-_semicolon.result c.from_residual-in_err-_semicolon.ensures.1 in
    rw (p.1, p.2)
    (package_end_refused c.args.tokens.now c.in_ok-name.after.now c.in_ok-_package._package c.in_ok-name.name c.in_err-_semicolon.field-0.0
    (record { behind = c.in_ok-_package.behind.now; package_is = c.in_ok-_package.ensures.is; package_kind = c.in_ok-_package.ensures.kind; name_is = c.in_ok-name.ensures.is; name_kind = c.in_ok-name.ensures.kind })
    c.in_err-_semicolon.ensures.refused)

pub returns-clause-read : goal.returns-clause-read
returns-clause-read c = record {
  word = c.in_ok-_package._package;
  behind = c.in_ok-_package.behind.now;
  after = c.in_ok-name.after.now;
  end = c.in_ok-_semicolon._semicolon;
  word_is = c.in_ok-_package.ensures.is;
  word_kind = c.in_ok-_package.ensures.kind;
  name_is = c.in_ok-name.ensures.is;
  name_kind = c.in_ok-name.ensures.kind;
  end_is = c.in_ok-_semicolon.ensures.is;
  end_kind = c.in_ok-_semicolon.ensures.kind;
}
