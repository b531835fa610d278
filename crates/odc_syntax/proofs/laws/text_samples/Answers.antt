use Rattle.std.proofs.Common.{refl}
use Rattle.std.specs.Char.{encode_utf8}
use Rattle.odc_syntax.proofs.laws.text_samples.Goals as goal

pub returns-clause-escapes : goal.returns-clause-escapes
unfolding encode_utf8
returns-clause-escapes c = refl
