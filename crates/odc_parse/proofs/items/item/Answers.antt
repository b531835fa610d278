use Rattle.odc_parse.proofs.FileLemmas.{import_read, declaration_read}
use Rattle.odc_parse.proofs.items.item.Goals as goal

pub returns-then-begins_import-clause-exact : goal.returns-then-begins_import-clause-exact
returns-then-begins_import-clause-exact c = λ b. import_read c.args.tokens.now _ (c.begins_import.ensures.is c.if-begins_import.true) c.import.ensures.exact

pub returns-else-begins_import-clause-exact : goal.returns-else-begins_import-clause-exact
returns-else-begins_import-clause-exact c = λ b. declaration_read c.args.tokens.now _ b (c.begins_import.ensures.not c.if-begins_import.false) c.declaration.ensures.exact
