-- The task that acts in a body: its own, or one that is included.
-- Read against: at the start of a body it is the body's own task; after the creation of a task that is included it is that one, until that one ends.
use Rattle.std.specs.Prelude.{ℕ, List}
use Rattle.oss_model.specs.Bodies.{Frame, Program, Start, stack_from, top_frame}

-- The task that acts next in a body after these answers.
abbrev pub acting : {S : Type 0} → Program S → Start S → List ℕ → Frame S
acting P b past = top_frame (stack_from P b past).base (stack_from P b past).inner
