use Rattle.std.proofs.Common.{◌≡◌, ◌++◌, get_or, take}
use Rattle.std.specs.Fmt.{decimal}
use Rattle.std.specs.List.{flat_map}
use Rattle.oss_model.specs.Points.{with_dot}
use Rattle.oss_model.proofs.point.point_text.Given as goal

-- the first number, and as many of the others as were written
abbrev pub invariant-loop-n : goal.invariant-loop-n
invariant-loop-n l = l.text.items ≡ decimal (get_or l.p 0 0) ++ flat_map with_dot (take l.n-index l.more)
