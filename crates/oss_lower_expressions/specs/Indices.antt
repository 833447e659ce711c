-- What stands under an index.
-- Read against: with `long m[3][4];` an array of two dimensions stands under the index of `m[1]`, its row under the second one of `m[1][2]`, and
-- under that of `p[1]` a pointer.
use Rattle.oss_meaning.specs.declared.names.Target.{Target}
use Rattle.oss_meaning.specs.declared.names.Target.TheVariants as target
use Rattle.oss_lower_expressions.specs.declared.expressions.Under.{Under}
use Rattle.oss_lower_expressions.specs.declared.expressions.Under.TheVariants as under

-- what an expression that designates this is under an index
abbrev pub under_of : Target → Under
under_of (target.Grid g n) = under.Grid g n
under_of (target.Row g n) = under.Row g n
under_of _ = under.Pointer
