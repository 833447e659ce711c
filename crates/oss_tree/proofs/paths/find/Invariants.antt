use Rattle.std.proofs.Common.{◌∷◌, take}
use Rattle.oss_tree.specs.Tasks.{HasPoint}
use Rattle.oss_tree.proofs.paths.find.Given as goal

abbrev pub invariant-loop-place : goal.invariant-loop-place
invariant-loop-place l = HasPoint l.tasks l.at.0 (0 ∷ take l.place-index l.rest)
