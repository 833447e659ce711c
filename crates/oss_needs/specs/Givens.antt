-- What the clauses of a task say of each cell.
-- Read against: under `in(x) out(x) out(y)` a task may read and write x, which is not written first, since not each clause that names it is `out`; and y is written first. Under `in(x) reduction(+: x)`
-- x is mixed. Of a final task `weakin(x)` counts as `in(x)`.
use Rattle.std.specs.Prelude.{ℕ, Bool, ◌&&◌, ◌||◌, if◌then◌else◌, List, Option, Some, None}
use Rattle.oss_syntax.specs.declared.access.Access.{Access}
use Rattle.oss_syntax.specs.declared.access.Mode.{Mode}
use Rattle.oss_model.specs.Rights.{Holds, Right, is_fresh, is_mixed, joined_mode, right_from}
use Rattle.oss_needs.specs.declared.clause.Clause.{Clause}
use Rattle.oss_needs.specs.declared.clause.Given.{Given}
use Rattle.oss_needs.specs.declared.clause.Given.TheVariants as given

-- What one clause says of the cells that it names. Of a final task a weak one counts as strong.
abbrev pub clause_by : Bool → Access → Clause
clause_by final a = record { mode = a.mode; strong = final || a.strong; fresh = a.fresh }

-- What gives this right, by clauses by which the cell is written first or not.
abbrev pub said_by : Right → Bool → Given
said_by (Holds m strong) fresh = given.Says (record { mode = m; strong = strong; fresh = fresh })
said_by _ fresh = given.Nothing

-- What the clauses of a task say of a cell.
abbrev pub given_of : Bool → List Access → ℕ → Given
given_of final clauses c = if is_mixed final clauses c then given.Mixed else said_by (right_from final clauses c) (is_fresh clauses c)

-- Two clauses, whose modes are joined to this one, if they can be.
abbrev pub says_both : Option Mode → Clause → Clause → Given
says_both (Some m) c d = given.Says (record { mode = m; strong = c.strong || d.strong; fresh = c.fresh && d.fresh })
says_both None c d = given.Mixed

-- What clauses say with one more.
abbrev pub with_clause : Clause → Given → Given
with_clause c given.Nothing = given.Says c
with_clause c given.Mixed = given.Mixed
with_clause c (given.Says d) = says_both (joined_mode c.mode d.mode) c d
