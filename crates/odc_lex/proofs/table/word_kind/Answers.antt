use Rattle.std.proofs.Common.{sym, ap}
use Rattle.odc_syntax.specs.lexical.Names.{keywords, word_kind}
use Rattle.odc_lex.proofs.TableLemmas.{no_word, word_told}
use Rattle.odc_lex.proofs.table.word_kind.Goals as goal

pub returns-then-is_empty : goal.returns-then-is_empty
unfolding keywords
returns-then-is_empty c = sym (ap word_kind (no_word _ c.if-is_empty.true c.is_empty.ensures))

pub returns : goal.returns
returns c = word_told _ _ _ c.if-is_empty.false c.is_empty.ensures c.keywords_with.ensures c.kind_among.ensures
