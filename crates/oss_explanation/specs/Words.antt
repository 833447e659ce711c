-- How tasks and the words of clauses are written.
-- Read against: the point `0` is main, and `0.3.1` is `task 0.3.1`; at the beginning of a sentence they are `Main` and `Task 0.3.1`. A weak reduction with `^` is `weakreduction(^)`.
use Rattle.std.specs.Prelude.{ℕ, Bool, true, false, if◌then◌else◌, List, [], ◌++◌, take, length, ◌-◌, nat_lt, codes}
use Rattle.oss_syntax.specs.declared.access.Op.{Op}
use Rattle.oss_syntax.specs.declared.access.Op.TheVariants as op
use Rattle.oss_model.specs.Points.{text_of}
use Rattle.oss_explanation.specs.declared.explained.Use.{Use}
use Rattle.oss_explanation.specs.declared.explained.Use.TheVariants as uses
use Rattle.oss_explanation.specs.declared.explained.Word.{Word}

-- The point is that of a task other than main: main has one number alone.
abbrev pub is_child : List ℕ → Bool
is_child p = nat_lt 1 (length p)

-- a task within a sentence
abbrev pub task_text : List ℕ → List ℕ
task_text p = if is_child p then codes "task " ++ text_of p else codes "main"

-- a task at the beginning of a sentence
abbrev pub who_text : List ℕ → List ℕ
who_text p = if is_child p then codes "Task " ++ text_of p else codes "Main"

-- the point of the creator
abbrev pub above : List ℕ → List ℕ
above p = take (length p - 1) p

-- an operator of a reduction
abbrev pub op_text : Op → List ℕ
op_text op.Add = codes "+"
op_text op.And = codes "&"
op_text op.Or = codes "|"
op_text op.Xor = codes "^"

-- what a clause says, weak or not
abbrev pub use_text : Use → List ℕ
use_text uses.In = codes "in"
use_text uses.Out = codes "out"
use_text uses.Inout = codes "inout"
use_text (uses.Reduction o) = codes "reduction(" ++ op_text o ++ codes ")"

-- what stands before it
abbrev pub strength_text : Bool → List ℕ
strength_text true = []
strength_text false = codes "weak"

-- a word of a clause
abbrev pub word_text : Word → List ℕ
word_text w = strength_text w.strong ++ use_text w.named
