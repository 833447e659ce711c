use Rattle.std.proofs.Common.{◌≡◌, ℕ, drop}
use Rattle.std.specs.Prelude.{◌||◌}
use Rattle.oss_deps.specs.Seen.{is_access_end}
use Rattle.oss_fragments.specs.Kept.{is_cut_by}
use Rattle.oss_fragments.specs.Changes.{AreSameButAsked}
use Rattle.oss_fragments.proofs.cutting.ask_all.Given as goal

-- the ends so far are cuts
abbrev pub invariant-loop-access : goal.invariant-loop-access
invariant-loop-access l = record {
  same : AreSameButAsked l.fn.fragments.items l.fragments.items;
  cuts : (k : ℕ) → (is_cut_by l.fragments.items l.ended k || is_access_end (drop l.access-index l.accesses) k) ≡ (is_cut_by l.fn.fragments.items l.fn.ended k || is_access_end l.accesses k);
}
