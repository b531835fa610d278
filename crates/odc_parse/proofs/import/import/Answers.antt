use Rattle.std.proofs.Common.{refl, sym}
use Rattle.std.proofs.lemmas.Result.{err_from_is_err_and}
use Rattle.odc_lookahead.proofs.reading.Answering.{answer_is}
use Rattle.odc_parse.proofs.ItemLemmas.{import_word_refused, import_named, import_path_refused, import_answer}
use Rattle.odc_parse.proofs.import.import.Goals as goal

pub returns-in_err-word-clause-exact : goal.returns-in_err-word-clause-exact
returns-in_err-word-clause-exact c =
    let p = err_from_is_err_and c.from_residual.result c.from_residual.ensures.1 in rw (p.1, p.2) (import_word_refused c.args.tokens.now c.in_err-word.field-0.0 c.in_err-word.ensures.refused)

pub returns-clause-exact : goal.returns-clause-exact
returns-clause-exact c =
    answer_is (sym c.in_ok-import_of.ensures) refl
    (import_answer c.args.tokens.now c.optional_name-name.result.1.now c.in_ok-path.rest.now c.in_ok-word.word c.in_ok-path.path c.optional_name-name.result.0
    (import_named c.args.tokens.now c.in_ok-word.behind.now c.optional_name-name.result.1.now c.in_ok-word.word c.optional_name-name.result.0 c.in_ok-word.ensures.is c.in_ok-word.ensures.kind c.optional_name-name.ensures.read)
    c.in_ok-path.ensures.is c.in_ok-path.ensures.kind)

pub returns-in_err-path-clause-exact : goal.returns-in_err-path-clause-exact
returns-in_err-path-clause-exact c =
    let p = err_from_is_err_and c.from_residual-in_err-path.result c.from_residual-in_err-path.ensures.1 in
    rw (p.1, p.2)
    (import_path_refused c.args.tokens.now c.optional_name-name.result.1.now c.in_ok-word.word c.optional_name-name.result.0 c.in_err-path.field-0.0
    (import_named c.args.tokens.now c.in_ok-word.behind.now c.optional_name-name.result.1.now c.in_ok-word.word c.optional_name-name.result.0 c.in_ok-word.ensures.is c.in_ok-word.ensures.kind c.optional_name-name.ensures.read)
    c.in_err-path.ensures.refused)
