-- Rows worked by hand: the nine tasks from 7 on, and the text of three of them.
use Rattle.std.proofs.Common.{◌≡◌, ℕ, List, refl}
use Rattle.std.specs.Prelude.{codes, ◌++◌, ◌∷◌, [], map}
use Rattle.std.specs.Fmt.{digits}
use Rattle.oss_gen.specs.Generated.{cell_behind, cell_count, end_text, first_cell, generated_text, head_text, loop_text, nesting_text, next_number, section_text, summing_text, task_text, tripling_text}

-- the numbers of the nine tasks
nine : List ℕ
nine = 38 ∷ 193 ∷ 200 ∷ 235 ∷ 154 ∷ 5 ∷ 28 ∷ 143 ∷ 206 ∷ []

nine_follow : map next_number (7 ∷ 38 ∷ 193 ∷ 200 ∷ 235 ∷ 154 ∷ 5 ∷ 28 ∷ 143 ∷ []) ≡ nine
unfolding nine next_number
nine_follow = refl

nine_begin : map first_cell nine ≡ 12 ∷ 11 ∷ 5 ∷ 1 ∷ 11 ∷ 5 ∷ 2 ∷ 0 ∷ 11 ∷ []
unfolding nine first_cell
nine_begin = refl

nine_count : map cell_count nine ≡ 1 ∷ 4 ∷ 4 ∷ 4 ∷ 3 ∷ 1 ∷ 1 ∷ 3 ∷ 4 ∷ []
unfolding nine cell_count
nine_count = refl

nine_end : map cell_behind nine ≡ 13 ∷ 15 ∷ 9 ∷ 5 ∷ 14 ∷ 6 ∷ 3 ∷ 3 ∷ 15 ∷ []
unfolding nine cell_behind cell_count first_cell
nine_end = refl

-- the first three tasks
first_task : task_text 0 38 ≡ codes "#pragma oss task inout(a[12;1])\nfor (long i = 12; i < 13; i++) a[i] = a[i] * 3 + 38;\n"
unfolding task_text tripling_text section_text loop_text cell_behind cell_count first_cell digits
first_task = refl

second_task : task_text 1 193 ≡ codes "#pragma oss task weakinout(a[11;4])\nfor (long i = 11; i < 15; i++) {\n#pragma oss task inout(a[i])\na[i] += 193;\n}\n"
unfolding task_text nesting_text section_text loop_text cell_behind cell_count first_cell digits
second_task = refl

third_task : task_text 2 200 ≡ codes "#pragma oss task in(a[5;4]) reduction(+: s)\nfor (long i = 5; i < 9; i++) s += a[i];\n"
unfolding task_text summing_text section_text loop_text cell_behind cell_count first_cell digits
third_task = refl

-- the program with these three tasks
three_tasks : generated_text 7 3 ≡ codes "long a[16], s, t;\nint main() {\n" ++ task_text 0 38 ++ task_text 1 193 ++ task_text 2 200
    ++ codes "#pragma oss taskwait\nfor (long i = 0; i < 16; i++) t += a[i];\nprintf(\"%ld %ld\\n\", s, t);\n}\n"
unfolding head_text end_text next_number task_text tripling_text nesting_text summing_text section_text loop_text cell_behind cell_count first_cell digits
three_tasks = refl
