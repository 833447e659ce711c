use Rattle.std.proofs.Common.{◌-◌, ◌≡◌, ◌≤◌, ◌<◌, ℕ, length}
use Rattle.std.specs.Prelude.{slice_index_or}
use Rattle.oss_task_edges.specs.declared.part.Part.{Part}
use Rattle.oss_task_edges.proofs.edges.run_end.Given as goal

-- the parts so far have one earlier child
abbrev pub invariant-loop-end : goal.invariant-loop-end
invariant-loop-end l = (l.at < l.end) × (l.end ≤ length l.parts) × ((i : ℕ) (d : Part) → l.at ≤ i → i < l.end → (slice_index_or l.parts i d).from ≡ l.from)

abbrev pub decreases-loop-end : goal.decreases-loop-end
decreases-loop-end l = length l.parts - l.end
