use Rattle.std.proofs.Common.{◌≡◌, ℕ, drop}
use Rattle.std.specs.Prelude.{◌||◌}
use Rattle.oss_deps.specs.Seen.{is_access_end}
use Rattle.oss_deps.specs.Kept.{is_cut}
use Rattle.oss_deps.specs.Columns.{AreSameButAsked}
use Rattle.oss_deps.proofs.cutting.ask_all.Given as goal

-- the ends so far are cuts
abbrev pub invariant-loop-access : goal.invariant-loop-access
invariant-loop-access l = record {
  same : AreSameButAsked l.fn.columns.items l.columns.items;
  cuts : (k : ℕ) → (is_cut l.columns.items l.ended k || is_access_end (drop l.access-index l.accesses) k) ≡ (is_cut l.fn.columns.items l.fn.ended k || is_access_end l.accesses k);
}
