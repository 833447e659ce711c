use Rattle.std.proofs.Common.{◌≡◌, ◌≤◌, ◌++◌, ◌∷◌, length, reverse, take}
use Rattle.oss_explain.specs.Ways.{links_to}
use Rattle.oss_explain.proofs.who.chain_of.Given as goal

-- what is left goes behind what is there
abbrev pub invariant-loop-left : goal.invariant-loop-left
invariant-loop-left l = record {
  within : l.left ≤ length l.above;
  told : l.links.items ++ links_to (reverse (take l.left l.above)) ≡ links_to (l.ledger.top ∷ reverse l.ledger.above);
}

abbrev pub decreases-loop-left : goal.decreases-loop-left
decreases-loop-left l = l.left
