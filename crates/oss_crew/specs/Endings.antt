-- How a stretch of work leaves a seat.
-- Read against: a worker whose stretch ends with More has its number still in hand. After Rest or Stop it has nothing in hand.
use Rattle.oss_crew.specs.declared.shift.Ending.{Ending}
use Rattle.oss_crew.specs.declared.shift.Ending.TheVariants.{More, Rest, Stop}

-- The seat works if there is more to do at once, and rests otherwise.
abbrev pub Leaves : Ending → Type 0 → Type 0 → Type 0
Leaves More works rests = works
Leaves Rest works rests = rests
Leaves Stop works rests = rests
