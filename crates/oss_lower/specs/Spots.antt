-- The spot of a statement, by the places of the pieces to which its jumps lead.
-- Read against: what begins at the place 9, with the piece of `break` at 3 and that of `continue` at 5, begins 6 and 4 behind them.
use Rattle.std.specs.Prelude.{◌≤◌, ℕ, ◌-◌, List, Option, Some, None}
use Rattle.oss_syntax.specs.declared.tree.program.Kind.{Kind}
use Rattle.oss_syntax.specs.declared.tree.program.Local.{Local}
use Rattle.oss_meaning.specs.declared.names.Target.{Target}
use Rattle.oss_meaning.specs.declared.names.Target.TheVariants as target
use Rattle.oss_lower.specs.declared.around.Around.{Around}
use Rattle.oss_lower_laws.specs.StatementCode.{Spot}

-- the spot of what begins at a place
abbrev pub spot_at : Around → List Local → ℕ → Spot
spot_at a scope at = record { scope = scope; result = a.result; pads = record { stop = at - a.stop; again = at - a.again } }

-- the pieces stand before this place
pub record IsBehind (a : Around) (at : ℕ) : Type 0 where
  pub stop : a.stop ≤ at
  pub again : a.again ≤ at

-- the local that an expression designates, if it designates one
abbrev pub local_in : Target → Option (ℕ × Kind)
local_in (target.Local slot k) = Some (slot, k)
local_in _ = None
