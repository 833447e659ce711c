use Rattle.std.proofs.Common.{◌≡◌, ◌||◌, ℕ, drop}
use Rattle.oss_pieces.specs.CellSets.{has}
use Rattle.oss_task_edges.specs.Parts.{any_strong, in_parts}
use Rattle.oss_task_edges.proofs.edges.gather.Given as goal

-- with what is left, all parts are in
abbrev pub invariant-loop-part : goal.invariant-loop-part
invariant-loop-part l = ((c : ℕ) → (in_parts (drop l.part-index l.parts) c || has l.set c) ≡ (in_parts l.parts c || has l.fn.set c))
    × ((any_strong (drop l.part-index l.parts) || l.strong) ≡ any_strong l.parts)
