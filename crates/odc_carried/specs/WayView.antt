-- What the definitions see of how operands come together.
use Rattle.odc_carried.specs.declared.operands.Way.{Way as RustWay}
use Rattle.odc_carried.specs.declared.operands.Way.TheVariants as w
use Rattle.odc_carried.specs.Code.{Way, nested, waiting, checking, both, either}

abbrev pub shown_way : RustWay → Way
shown_way w.Nested = nested
shown_way w.Waiting = waiting
shown_way w.Checking = checking
shown_way w.Both = both
shown_way w.Either = either
