-- Tasks one behind the other.
use Rattle.std.proofs.Common.{◌≡◌, ℕ, suc, ◌+◌, ◌-◌, ◌<◌, List, ◌++◌, sym, ap, ◌∙◌, append_assoc, arith}
use Rattle.std.specs.Prelude.{codes}
use Rattle.std.specs.Fmt.{decimal}
use Rattle.oss_gen.specs.Generated.{cell_behind, first_cell, loop_text, next_number, task_text, tasks_text}

-- the texts of the tasks that are left, behind one more that is written
pub one_more : (text written : List ℕ) (size before number next : ℕ) → before < size → next ≡ next_number number → written ≡ text ++ task_text before next
    → written ++ tasks_text (size - (before + 1)) (before + 1) next ≡ text ++ tasks_text (size - before) before number
one_more text written size before number next more is own =
    let left : size - before ≡ suc (size - (before + 1)) = omega (arith, more) in
    let behind : List ℕ = tasks_text (size - (before + 1)) (before + 1) next in
    ap (λ xs. xs ++ behind) own ∙ append_assoc text (task_text before next) behind
    ∙ ap (λ n. text ++ (task_text before n ++ tasks_text (size - (before + 1)) (before + 1) n)) is ∙ ap (λ n. text ++ tasks_text n before number) (sym left)

-- texts that were written one behind the other
in_turn : (text first second third a b c d e : List ℕ) → first ≡ text ++ a ++ b → second ≡ first ++ c ++ d → third ≡ second ++ e → third ≡ text ++ (a ++ b ++ c ++ d ++ e)
in_turn text first second third a b c d e f g h = grind (arith, append_assoc, f, g, h)

-- the head of a loop, written in three parts
pub loop_written : (text first second third : List ℕ) (number from behind : ℕ) → from ≡ first_cell number → behind ≡ cell_behind number
    → first ≡ text ++ codes "for (long i = " ++ decimal from → second ≡ first ++ codes "; i < " ++ decimal behind → third ≡ second ++ codes "; i++) "
    → third ≡ text ++ loop_text number
unfolding loop_text
loop_written text first second third number from behind is are f g h =
    in_turn text first second third (codes "for (long i = ") (decimal (first_cell number)) (codes "; i < ") (decimal (cell_behind number)) (codes "; i++) ")
    (f ∙ ap (λ n. text ++ codes "for (long i = " ++ decimal n) is) (g ∙ ap (λ n. first ++ codes "; i < " ++ decimal n) are) h
