-- The texts of generated programs: `main` creates so many tasks, each on some cells of one array of 16, and waits for them; then it prints what the tasks have
-- summed, and what the cells sum to. Which cells a task has, and what it adds, comes from a number from 0 to 255, and each number from the one before it. So two
-- numbers, the start and the size, give one text, the same wherever it is written.
-- Read against: from 7 on, the numbers of nine tasks are 38, 193, 200, 235, 154, 5, 28, 143 and 206. Their cells begin at 12, 11, 5, 1, 11, 5, 2, 0 and 11, and
-- they have 1, 4, 4, 4, 3, 1, 1, 3 and 4 of them. The first task is that of the lines
--   #pragma oss task inout(a[12;1])
--   for (long i = 12; i < 13; i++) a[i] = a[i] * 3 + 38;
use Rattle.std.specs.Prelude.{ℕ, ◌+◌, ◌*◌, ◌/◌, ◌%◌, ◌==◌, if◌then◌else◌, zero, suc, List, [], ◌++◌, codes}
use Rattle.std.specs.Fmt.{decimal}

-- The number behind this one: 38 behind 7, and 193 behind 38.
unfoldable pub next_number : ℕ → ℕ
next_number number = (5 * number + 3) % 256

-- The first cell of a task: of the number 38 it is 12.
unfoldable pub first_cell : ℕ → ℕ
first_cell number = number % 13

-- How many cells a task has, 1 to 4: of the number 193 there are 4.
unfoldable pub cell_count : ℕ → ℕ
cell_count number = 1 + number / 64

-- The cell behind those of a task, at most 16: of the number 193, which has 4 from 11 on, it is 15.
unfoldable pub cell_behind : ℕ → ℕ
cell_behind number = first_cell number + cell_count number

-- The cells of a task, as a section: `a[12;1]`.
unfoldable pub section_text : ℕ → List ℕ
section_text number = codes "a[" ++ decimal (first_cell number) ++ codes ";" ++ decimal (cell_count number) ++ codes "]"

-- The head of a loop over the cells of a task, with a blank at its end: `for (long i = 12; i < 13; i++) `.
unfoldable pub loop_text : ℕ → List ℕ
loop_text number = codes "for (long i = " ++ decimal (first_cell number) ++ codes "; i < " ++ decimal (cell_behind number) ++ codes "; i++) "

-- A task that triples each of its cells and adds its number.
unfoldable pub tripling_text : ℕ → List ℕ
tripling_text number = codes "#pragma oss task inout(" ++ section_text number ++ codes ")\n" ++ loop_text number ++ codes "a[i] = a[i] * 3 + " ++ decimal number ++ codes ";\n"

-- A task that touches no cell itself, and creates a task for each, which adds the number to it.
unfoldable pub nesting_text : ℕ → List ℕ
nesting_text number = codes "#pragma oss task weakinout(" ++ section_text number ++ codes ")\n" ++ loop_text number ++ codes "{\n#pragma oss task inout(a[i])\na[i] += " ++ decimal number ++ codes ";\n}\n"

-- A task that adds each of its cells to the sum.
unfoldable pub summing_text : ℕ → List ℕ
summing_text number = codes "#pragma oss task in(" ++ section_text number ++ codes ") reduction(+: s)\n" ++ loop_text number ++ codes "s += a[i];\n"

-- The task that has so many before it: the first triples, the second nests, the third sums, the fourth triples again.
unfoldable pub task_text : ℕ → ℕ → List ℕ
task_text before number = if before % 3 == 0 then tripling_text number else (if before % 3 == 1 then nesting_text number else summing_text number)

-- So many tasks, with so many before them, where this is the number of the last of these.
abbrev pub tasks_text : ℕ → ℕ → ℕ → List ℕ
tasks_text zero before number = []
tasks_text (suc more) before number = task_text before (next_number number) ++ tasks_text more (before + 1) (next_number number)

-- The lines before the tasks.
unfoldable pub head_text : List ℕ
head_text = codes "long a[16], s, t;\nint main() {\n"

-- The lines behind the tasks.
unfoldable pub end_text : List ℕ
end_text = codes "#pragma oss taskwait\nfor (long i = 0; i < 16; i++) t += a[i];\nprintf(\"%ld %ld\\n\", s, t);\n}\n"

-- The program from this start on, with so many tasks that `main` creates.
abbrev pub generated_text : ℕ → ℕ → List ℕ
generated_text start size = head_text ++ tasks_text size 0 (start % 256) ++ end_text
