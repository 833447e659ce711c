use Rattle.std.proofs.Common.{◌≡◌, ◌+◌, ℕ, refl, sym, ap, ◌∙◌, arith, Bool, true, false, None, if◌then◌else◌}
use Rattle.std.specs.Prelude.{◌==◌}
use Rattle.std.proofs.lemmas.Bool.Decides.{nat_tests}
use Rattle.oss_judge.proofs.ViewLemmas.{marks_changed}
use Rattle.oss_judge.specs.Seen.{mark_at, mark_told}
use Rattle.oss_model.specs.Context.{Context, wrote}
use Rattle.oss_model.specs.Rights.{Written}
use Rattle.oss_ranges.specs.Cells.{value_at}
use Rattle.oss_judge.proofs.context.Context.is_written.Goals as goal

-- a cell that is written, or is none, stays as it is
stays : (cell c : ℕ) (marks : _) → (cell ≡ c → mark_at marks c ≡ Written) → mark_at marks c ≡ (if c == cell then Written else mark_at marks c)
stays cell c marks h = by (c == cell) refl where
  by : (t : Bool) → (c == cell) ≡ t → mark_at marks c ≡ (if t then Written else mark_at marks c)
  by true e = h (grind (arith, nat_tests))
  by false e = refl

pub returns-then-cell-self : goal.returns-then-cell-self
returns-then-cell-self c = λ _.
    let same : c.args.self.now ≡ wrote c.args.cell c.args.self.now = rw (← c.self.view_is) (marks_changed c.self.inside.cells c.self.inside.rights.pieces c.self.inside.lent.pieces c.self.inside.marks.pieces (record { ticks = c.self.inside.ticks; fuel = c.self.inside.fuel; created = c.self.inside.created; depth = c.self.inside.depth; final = c.self.inside.is_final }) c.self.invariant.2 c.self.invariant.3 c.self.invariant.4 c.self.inside.marks.pieces (λ cell mark. if cell == c.args.cell then Written else mark)
    (λ cell low. stays c.args.cell cell c.self.inside.marks.pieces (λ e. absurd (let high = c.if-cell-self.true in omega arith)))) in
    sym same

pub returns-in-None : goal.returns-in-None
returns-in-None c = λ _.
    let same : c.args.self.now ≡ wrote c.args.cell c.args.self.now = rw (← c.self.view_is) (marks_changed c.self.inside.cells c.self.inside.rights.pieces c.self.inside.lent.pieces c.self.inside.marks.pieces (record { ticks = c.self.inside.ticks; fuel = c.self.inside.fuel; created = c.self.inside.created; depth = c.self.inside.depth; final = c.self.inside.is_final }) c.self.invariant.2 c.self.invariant.3 c.self.invariant.4 c.self.inside.marks.pieces (λ cell mark. if cell == c.args.cell then Written else mark)
    (λ cell low. stays c.args.cell cell c.self.inside.marks.pieces (λ e. ap mark_told (ap (value_at c.self.inside.marks.pieces) (sym e) ∙ sym c.get.ensures ∙ c.in-None.is)))) in
    sym same
