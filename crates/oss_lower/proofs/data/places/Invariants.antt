use Rattle.std.proofs.Common.{◌≡◌, ◌++◌, drop}
use Rattle.oss_meaning.specs.Pointers.{extents_from, extents_of}
use Rattle.oss_code.specs.Globals.{extents_in}
use Rattle.oss_lower.proofs.data.places.Given as goal

-- where the globals so far lie, and those of the items left
abbrev pub invariant-loop-item : goal.invariant-loop-item
invariant-loop-item l = extents_in l.places.items ++ extents_from l.start (drop l.item-index l.items) ≡ extents_of l.items
