use Rattle.std.proofs.Common.{refl}
use Rattle.std.specs.Str.{chars}
use Rattle.odc_syntax.proofs.laws.rune_samples.Goals as goal

pub returns-clause-wide : goal.returns-clause-wide
unfolding chars
returns-clause-wide c = refl
