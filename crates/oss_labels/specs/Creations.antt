-- The creations that stand in a code, and the labels of the tasks that they create, in one order: that in which they stand.
-- Read against: the code `Tick, Begin, Create 4, Skip 7, ..` from place 10 on has a creation at 12, which leads to 17. Of a task function with the label `f` and
-- a task statement in it without one the labels are `f` and none. The entries 17 and 30 with the labels none and `two` give the list of `two` at 30.
use Rattle.std.specs.Prelude.{ℕ, ◌+◌, List, [], ◌∷◌, ◌++◌, Option, Some, None}
use Rattle.oss_syntax.specs.declared.tree.pragma.TaskMark.{TaskMark}
use Rattle.oss_syntax.specs.declared.tree.program.Function.{Function}
use Rattle.oss_code.specs.declared.instr.Instr.{Instr}
use Rattle.oss_code.specs.declared.instr.Instr.TheVariants as i
use Rattle.oss_labels.specs.declared.labels.Labelled.{Labelled}
use Rattle.oss_labels.specs.Labels.{body_labels, label_in}

-- where the body begins of the task that an instruction creates which stands here
abbrev pub created_at : ℕ → Instr → List ℕ
created_at at (i.Create passed) = (at + 1 + passed) ∷ []
created_at at _ = []

-- where those begin that instructions create, the first of which stands here
abbrev pub creations : ℕ → List Instr → List ℕ
creations at [] = []
creations at (what ∷ rest) = created_at at what ++ creations (at + 1) rest

-- the label of a pragma, if it stands there
abbrev pub marked : Option TaskMark → List (Option (List ℕ))
marked None = []
marked (Some mark) = label_in mark.clauses ∷ []

-- the labels of the tasks of functions, in the order in which their creations stand in the code
abbrev pub labels_in_code : List Function → List (Option (List ℕ))
labels_in_code [] = []
labels_in_code (f ∷ rest) = marked f.mark ++ ((body_labels f.body).in_code ++ labels_in_code rest)

-- a label that is there, with this entry
abbrev pub joined_one : ℕ → Option (List ℕ) → List Labelled
joined_one entry None = []
joined_one entry (Some text) = record { entry = entry; label = text } ∷ []

-- the labels that are there, each with the entry at its place
abbrev pub joined : List ℕ → List (Option (List ℕ)) → List Labelled
joined [] labels = []
joined entries [] = []
joined (e ∷ entries) (l ∷ labels) = joined_one e l ++ joined entries labels
