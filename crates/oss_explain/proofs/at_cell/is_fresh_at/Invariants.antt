use Rattle.std.proofs.Common.{◌≡◌, drop}
use Rattle.oss_model.specs.Rights.{is_fresh}
use Rattle.oss_explain.proofs.at_cell.is_fresh_at.Given as goal

-- the accesses so far are so
abbrev pub invariant-loop-access : goal.invariant-loop-access
invariant-loop-access l = is_fresh (drop l.access-index l.accesses) l.cell ≡ is_fresh l.accesses l.cell
