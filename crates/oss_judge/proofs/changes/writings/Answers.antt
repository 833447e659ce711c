use Rattle.std.proofs.Common.{◌≡◌, ℕ, true, false, refl, sym, ap, ◌∙◌, arith, Option}
use Rattle.oss_ranges.specs.Cells.{value_at}
use Rattle.oss_judge.proofs.ChangeLemmas.{along_more, along_skip}
use Rattle.oss_judge.specs.Parts.{is_write}
use Rattle.oss_judge.specs.Seen.{mark_at, mark_told, right_at, right_told}
use Rattle.oss_judge.specs.declared.mark.Mark.{Mark}
use Rattle.oss_model.specs.Context.{made_mark}
use Rattle.oss_model.specs.Rights as model
use Rattle.oss_model.specs.Rights.{NoRight, Released, Holds, Written}
use Rattle.oss_syntax.specs.declared.access.Mode.TheVariants.{Read, Write, Fold}
use Rattle.oss_judge.proofs.changes.writings.Goals as goal

-- what a creation makes of the mark of a cell
abbrev IsMade : (ℕ → model.Right) → (ℕ → model.Mark) → ℕ → Option Mark → Type 0
IsMade given marks cell value = mark_told value ≡ made_mark (given cell) (marks cell)

not_made : (r : model.Right) (m : model.Mark) → is_write r ≡ false → m ≡ made_mark r m
not_made NoRight m e = refl
not_made Released m e = refl
not_made (Holds Read strong) m e = refl
not_made (Holds (Fold op) strong) m e = refl
not_made (Holds Write strong) m e = cc

is_made : (r : model.Right) (m : model.Mark) → is_write r ≡ true → Written ≡ made_mark r m
is_made (Holds Write strong) m e = refl
is_made NoRight m e = cc
is_made Released m e = cc
is_made (Holds Read strong) m e = cc
is_made (Holds (Fold op) strong) m e = cc

pub runs-preserved-then-not-is_write : goal.runs-preserved-then-not-is_write
runs-preserved-then-not-is_write c =
    let some = c.run_from-wanted.ensures.some in (
      c.run_from-wanted.ensures.within,
      along_skip (IsMade (right_at c.args.given.now.pieces) (mark_at c.args.marks.now.pieces)) (value_at c.args.marks.now.pieces) c.runs.from c.run_from-wanted.result.1 c.runs.changes.items c.runs.invariant.1 (omega arith)
          (λ cell low high. not_made (right_at c.args.given.now.pieces cell) (mark_at c.args.marks.now.pieces cell)
          (ap (λ v. is_write (right_told v)) (c.run_from-wanted.ensures.alike cell low high) ∙ sym (ap is_write c.told.ensures) ∙ sym c.is_write.ensures ∙ c.if-not-is_write.true)),
    )

pub runs-preserved-in_ok-push : goal.runs-preserved-in_ok-push
runs-preserved-in_ok-push c =
    let within = c.run_from-mark.ensures.within in
    let inside = c.run_from-wanted.ensures.within in
    let some = c.run_from-mark.ensures.some in (
      omega arith,
      rw c.in_ok-push.ensures.items
          (along_more (IsMade (right_at c.args.given.now.pieces) (mark_at c.args.marks.now.pieces)) (value_at c.args.marks.now.pieces) c.runs.from c.run_from-mark.result.1 c.runs.changes.items _ c.runs.invariant.1 refl refl some
          (λ cell low high. is_made (right_at c.args.given.now.pieces cell) (mark_at c.args.marks.now.pieces cell)
          (ap (λ v. is_write (right_told v)) (c.run_from-wanted.ensures.alike cell low (omega arith)) ∙ sym (ap is_write c.told.ensures) ∙ sym c.is_write.ensures ∙ c.if-not-is_write.false))),
    )
