use Rattle.odc_limits.proofs.Following.{follow}
use Rattle.odc_limits.proofs.places.places_follow.Goals as goal

pub returns : goal.returns
returns c = follow
