use Rattle.std.proofs.Common.{◌≡◌, drop}
use Rattle.oss_model.specs.Context.{in_clauses}
use Rattle.oss_explain.proofs.releases.names.Given as goal

-- no access so far names the cell
abbrev pub invariant-loop-access : goal.invariant-loop-access
invariant-loop-access l = in_clauses (drop l.access-index l.accesses) l.cell ≡ in_clauses l.accesses l.cell
