-- What is made of tasks and of their lines, task by task.
use Rattle.std.proofs.Common.{◌≡◌, ◌≤◌, ℕ, zero, suc, ◌+◌, sym, subst, ap, ◌∙◌, refl, List, [], ◌∷◌, ◌++◌, length, drop, arith}
use Rattle.std.specs.Prelude.{reverse}
use Rattle.std.proofs.lemmas.List.{reverse-append}
use Rattle.oss_pieces.specs.Rows.{Grid}
use Rattle.oss_missing_lines.specs.declared.missing.Late.{Late}
use Rattle.oss_missing_lines.specs.declared.missing.TaskMissing.{TaskMissing}
use Rattle.oss_lacks.specs.declared.lacks.TaskLacks.{TaskLacks}
use Rattle.oss_missing.specs.Making.{AddsMade, AreMade, IsMade, first_lines, others}

-- the last item of a list is the first from its end on

pub last_is_first : (old new : List (List Late)) (ls : List Late) → old ≡ new ++ ls ∷ [] → ls ≡ first_lines (reverse old)
last_is_first old new ls e = sym (ap first_lines (ap reverse e ∙ reverse-append new (ls ∷ [])))

pub rest_behind : (old new : List (List Late)) (ls : List Late) → old ≡ new ++ ls ∷ [] → reverse new ≡ others (reverse old)
rest_behind old new ls e = sym (ap others (ap reverse e ∙ reverse-append new (ls ∷ [])))

pub all_dropped : {A : Type 0} (xs : List A) (n : ℕ) → length xs ≤ n → drop n xs ≡ []
all_dropped [] zero l = refl
all_dropped [] (suc n) l = refl
all_dropped (y ∷ xs) zero l = absurd (omega (arith, l))
all_dropped (y ∷ xs) (suc n) l = all_dropped xs n (omega (arith, l))

pub drop_none : {A : Type 0} (xs : List A) → drop 0 xs ≡ xs
drop_none [] = refl
drop_none (x ∷ xs) = refl

-- where no task is left, nothing is
pub none_left : (grids : List Grid) (ts : List TaskLacks) (n : ℕ) (lines : List (List Late)) → length ts ≤ n → AreMade grids (drop n ts) lines []
none_left grids ts n lines l = subst (λ (ys : List TaskLacks). AreMade grids ys lines []) (sym (all_dropped ts n l)) tt

-- one task more
pub one_more : (grids : List Grid) (ts : List TaskLacks) (i : ℕ) (t : TaskLacks) (lines left : List (List Late)) (late : List Late) (k : TaskMissing) (rest : List TaskMissing)
    → drop i ts ≡ t ∷ drop (suc i) ts → late ≡ first_lines lines → left ≡ others lines → IsMade grids t late k → AreMade grids (drop (i + 1) ts) left rest
    → AreMade grids (drop i ts) lines (k ∷ rest)
one_more grids ts i t lines left late k rest split first behind made are =
    let next : i + 1 ≡ suc i = omega arith in
    subst (λ (ys : List TaskLacks). AreMade grids ys lines (k ∷ rest)) (sym split) (
      subst (λ (ls : List Late). IsMade grids t ls k) first made,
      subst (λ (ms : List (List Late)). AreMade grids (drop (suc i) ts) ms rest) behind (subst (λ (n : ℕ). AreMade grids (drop n ts) left rest) next are),
    )

pub with_one : (xs rest : List TaskMissing) (k : TaskMissing) → xs ++ k ∷ rest ≡ (xs ++ k ∷ []) ++ rest
with_one [] rest k = refl
with_one (x ∷ xs) rest k = ap (λ (ys : List TaskMissing). x ∷ ys) (with_one xs rest k)

-- lists that are one
pub made_as : (grids : List Grid) (ts : List TaskLacks) (lines : List (List Late)) (old new other : List TaskMissing) → new ≡ other → AddsMade grids ts lines old new → AddsMade grids ts lines old other
made_as grids ts lines old new other e h = subst (λ (ks : List TaskMissing). AddsMade grids ts lines old ks) e h
