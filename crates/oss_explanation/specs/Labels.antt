-- The label of a task that was created, as it stands behind its name.
-- Read against: the label `relax` is told as ` (relax)`, and an empty one as ` ()`; of a task without one nothing is told. A label with `say "a"`, a tab, `or \b` and a newline is told as ` (say \"a\"\tor \\b\n)`, which is one line.
use Rattle.std.specs.Prelude.{ℕ, ◌==◌, ◌||◌, if◌then◌else◌, List, [], ◌∷◌, ◌++◌, Option, Some, None, codes}
use Rattle.std.specs.List.{flat_map}

-- What is seen of the labels of a program: that of the task whose body begins with this instruction, if it has one.
abbrev pub LabelsSeen : Type 0
LabelsSeen = ℕ → Option (List ℕ)

-- A byte of a label: a newline is written `\n` and a tab `\t`, and a quote and a backslash have a backslash before them. So a line stays one line.
abbrev pub told_byte : ℕ → List ℕ
told_byte b = if b == 10 then codes "\\n" else (if b == 9 then codes "\\t" else (if b == 34 || b == 92 then 92 ∷ b ∷ [] else b ∷ []))

-- the label of a pragma, behind the name of its task
abbrev pub label_text : Option (List ℕ) → List ℕ
label_text None = []
label_text (Some bytes) = codes " (" ++ flat_map told_byte bytes ++ codes ")"
