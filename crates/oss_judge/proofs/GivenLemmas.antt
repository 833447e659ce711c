-- What clauses give to a new task, by ranges.
use Rattle.std.proofs.Common.{◌≡◌, ℕ, ◌≤◌, refl, sym, ap, ◌∙◌, List, ◌∷◌, arith, Bool, true, false, None, if◌then◌else◌}
use Rattle.std.specs.Prelude.{◌&&◌, ◌||◌, nat_lt}
use Rattle.std.proofs.lemmas.Bool.Decides.{nat_tests}
use Rattle.oss_syntax.specs.declared.access.Access.{Access}
use Rattle.oss_syntax.specs.declared.access.Mode.{Mode}
use Rattle.oss_syntax.specs.declared.access.Mode.TheVariants.{Fold, Read, Write}
use Rattle.oss_ranges.specs.Cells.{is_within, value_at}
use Rattle.oss_ranges.specs.declared.piece.Piece.{Piece}
use Rattle.oss_model.specs.Rights as model
use Rattle.oss_model.specs.Rights.{Holds, NoRight, Released, Written, first_mark, joined_right, right_from}
use Rattle.oss_judge.specs.Seen.{right_at, right_told}
use Rattle.oss_judge.specs.declared.right.Right.{Right}

-- a clause was joined to the rights to the cells from `lo` up to `hi`
abbrev pub Joins : Mode → Bool → ℕ → ℕ → List (Piece Right) → List (Piece Right) → Type 0
Joins mode strong lo hi old new = (c : ℕ) → right_at new c ≡ (if is_within lo hi c then joined_right mode strong (right_at old c) else right_at old c)

-- the rights that one clause more gives
pub gives-more : (final : Bool) (a : Access) (rest : List Access) (old new : List (Piece Right)) → ((c : ℕ) → right_at old c ≡ right_from final rest c)
    → Joins a.mode (final || a.strong) a.range.lo a.range.hi old new → (c : ℕ) → right_at new c ≡ right_from final (a ∷ rest) c
gives-more final a rest old new before now c =
    now c ∙ ap (λ r. if is_within a.range.lo a.range.hi c then joined_right a.mode (final || a.strong) r else r) (before c)

-- behind the last cell there is no right, and so no mark
pub marks-past : (from c : ℕ) (rights : List (Piece Right)) (none : Bool) → 1048576 ≤ from → ((c : ℕ) → 1048576 ≤ c → value_at rights c ≡ None)
    → (if nat_lt c from then first_mark (right_at rights c) none else Written) ≡ first_mark (right_at rights c) none
marks-past from c rights none end past = by (nat_lt c from) refl
  where
    by : (b : Bool) → nat_lt c from ≡ b → (if b then first_mark (right_at rights c) none else Written) ≡ first_mark (right_at rights c) none
    by true e = refl
    by false e = sym (ap (λ v. first_mark (right_told v) none) (past c (grind (arith, nat_tests))))

-- the marks before any clause was taken into them
pub first-all : (right : model.Right) (fresh : Bool) → (if fresh then first_mark right true else Written) ≡ first_mark right fresh
first-all right true = refl
first-all NoRight false = refl
first-all Released false = refl
first-all (Holds Read strong) false = refl
first-all (Holds Write strong) false = refl
first-all (Holds (Fold op) strong) false = refl

-- one clause is taken into the marks, of which some are left
pub marks-more : (inside fresh rest : Bool) (old : model.Mark)
    → (if rest then (if inside then (if fresh then old else Written) else old) else Written) ≡ (if (if inside then fresh && rest else rest) then old else Written)
marks-more true true rest old = refl
marks-more true false true old = refl
marks-more true false false old = refl
marks-more false fresh rest old = refl
