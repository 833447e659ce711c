use Rattle.oss_fragments.proofs.OpenLemmas.{AreOpenedTo}
use Rattle.oss_fragments.proofs.opening.open_all.Given as goal

-- the accesses so far are added
abbrev pub invariant-loop-access : goal.invariant-loop-access
invariant-loop-access l = AreOpenedTo l.number l.parent l.map.pieces l.accesses l.access-index l.fn.fragments.items l.fragments.items
