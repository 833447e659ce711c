use Rattle.std.proofs.Common.{refl}
use Rattle.oss_creations.proofs.linking.info_of.Goals as goal

pub returns : goal.returns
returns c = record { mode_is = refl; strong_is = refl; parent = c.parent_of.ensures; task = refl; depth = c.depth_of.ensures }
