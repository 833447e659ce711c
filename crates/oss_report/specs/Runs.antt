-- The lines that tell of the tasks of a run by workers: which worker began each, and in which order they began.
-- Read against: of the tasks 0 and 0.1 that the worker 3 began they are `who 0 3` and `who 0.1 3`. Of an order in which main comes first, and its second child before its first, they are `order 0`,
-- `order 0.1` and `order 0.0`.
use Rattle.std.specs.Prelude.{ℕ, List, [], ◌∷◌, ◌++◌, codes}
use Rattle.std.specs.Fmt.{decimal}
use Rattle.std.specs.List.{flat_map}
use Rattle.oss_model.specs.Points.{text_of}

-- `order POINT` and a newline, of the task at this point
abbrev pub order_line : List ℕ → List ℕ
order_line point = codes "order " ++ text_of point ++ 10 ∷ []

-- the lines of tasks, in this order
abbrev pub order_text : List (List ℕ) → List ℕ
order_text points = flat_map order_line points

-- `who POINT WORKER` and a newline, of the task at this point, which this worker began
abbrev pub who_line : ℕ → List ℕ → List ℕ
who_line worker point = codes "who " ++ text_of point ++ 32 ∷ decimal worker ++ 10 ∷ []

-- the lines of tasks that one worker began, in this order
abbrev pub who_text : ℕ → List (List ℕ) → List ℕ
who_text worker points = flat_map (who_line worker) points
