use Rattle.std.proofs.Common.{◌≡◌, drop, true}
use Rattle.oss_model.specs.Context.{in_clauses}
use Rattle.oss_model.specs.Order.{IsIn}
use Rattle.oss_explain.specs.declared.begun.ReleasedAt.{ReleasedAt}
use Rattle.oss_explain.proofs.releases.line_of.Given as goal

-- no release so far names the cell
abbrev pub invariant-loop-release : goal.invariant-loop-release
invariant-loop-release l = (r : ReleasedAt) → IsIn r l.released → in_clauses r.clauses l.cell ≡ true → IsIn r (drop l.release-index l.released)
