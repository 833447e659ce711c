-- Each way from an instruction of a sound code leads to one, and so does the body of a task that is created. So their places are below the number
-- of instructions.
use Rattle.std.proofs.Common.{◌≡◌, ℕ, ◌+◌, ◌<◌, length, Some, arith, get_or}
use Rattle.std.proofs.lemmas.Option.{slice_get-get_or, slice_get_within}
use Rattle.std.specs.Prelude.{slice_get}
use Rattle.oss_code.specs.Shapes.{leads}
use Rattle.oss_code.specs.Soundness.{AreWays, IsSound, IsWay}
use Rattle.oss_code.specs.declared.code.CodeParts.{CodeParts}
use Rattle.oss_code.specs.declared.instr.Instr.TheVariants as i
use Rattle.oss_code.specs.declared.ways.Way.{Way}
use Rattle.oss_code.specs.declared.ways.Way.TheVariants as way
use Rattle.oss_code.specs.declared.ways.Ways.{Ways}
use Rattle.oss_code.specs.declared.ways.Ways.TheVariants as ways
use Rattle.oss_lower_bounds.specs.Bounds.{AreInside, IsInside, TaskEntriesFit, WaysStayInside}

entry_within : (code : CodeParts) → IsSound code → (at passed : ℕ) → slice_get code.instrs at ≡ Some (i.Create passed) → at + 1 + passed < length code.instrs
entry_within code sound at passed is =
    let here = slice_get_within code.instrs at (i.Create passed) is in
    let depth : slice_get code.depths at ≡ Some (get_or code.depths at 0) = slice_get-get_or code.depths at 0 (omega (arith, here, sound.deep)) in
    let entered : slice_get code.depths (at + 1 + passed) ≡ Some 0 = (sound.each at (get_or code.depths at 0) (i.Create passed) is depth).entered in
    omega (arith, sound.deep, slice_get_within code.depths (at + 1 + passed) 0 entered)

pub task_entries_fit : TaskEntriesFit
task_entries_fit code sound few at passed is = omega (arith, few, entry_within code sound at passed is)

-- Ways

module _ (code : CodeParts) (deep : length code.depths ≡ length code.instrs) (at depth : ℕ) where
  way_inside : (w : Way) → IsWay code at depth w → IsInside code at w
  way_inside (way.Ahead n) is = omega (arith, deep, slice_get_within code.depths (at + 1 + n) depth is)
  way_inside (way.Back n) is = is.0

  ways_inside : (ws : Ways) → AreWays code at depth ws → AreInside code at ws
  ways_inside ways.End are = tt
  ways_inside (ways.One w) are = way_inside w are
  ways_inside (ways.Two v w) are = (way_inside v are.0, way_inside w are.1)

pub ways_stay_inside : WaysStayInside
ways_stay_inside code sound at instr is =
    let here = slice_get_within code.instrs at instr is in
    let depth : slice_get code.depths at ≡ Some (get_or code.depths at 0) = slice_get-get_or code.depths at 0 (omega (arith, here, sound.deep)) in
    ways_inside code sound.deep at _ (leads instr) (sound.each at (get_or code.depths at 0) instr is depth).ways
