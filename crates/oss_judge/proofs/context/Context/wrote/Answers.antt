use Rattle.std.proofs.Common.{◌≡◌, ◌+◌, ℕ, refl, sym, ap, ◌∙◌, arith, Bool, true, false, None, if◌then◌else◌}
use Rattle.std.specs.Prelude.{◌==◌}
use Rattle.std.proofs.lemmas.Bool.Decides.{nat_tests}
use Rattle.oss_judge.proofs.ViewLemmas.{marks_changed}
use Rattle.oss_judge.specs.Seen.{mark_at, mark_told}
use Rattle.oss_model.specs.Rights.{Written}
use Rattle.oss_ranges.specs.Cells.{is_within, value_at}
use Rattle.oss_judge.proofs.context.Context.wrote.Goals as goal

-- a cell that is written, or is none, stays as it is
stays : (cells cell c : ℕ) (marks : _) → (cell ≡ c → mark_at marks c ≡ Written) → mark_at marks c ≡ (if c == cell then Written else mark_at marks c)
stays cells cell c marks h = by (c == cell) refl where
  by : (t : Bool) → (c == cell) ≡ t → mark_at marks c ≡ (if t then Written else mark_at marks c)
  by true e = h (grind (arith, nat_tests))
  by false e = refl

pub returns-then-cell-self-clause-ok : goal.returns-then-cell-self-clause-ok
returns-then-cell-self-clause-ok c = rw (← c.self.view_is) (marks_changed c.self.inside.cells c.self.inside.rights.pieces c.self.inside.lent.pieces c.self.inside.marks.pieces (record { ticks = c.self.inside.ticks; fuel = c.self.inside.fuel; created = c.self.inside.created; depth = c.self.inside.depth; final = c.self.inside.is_final }) c.self.invariant.2 c.self.invariant.3 c.self.invariant.4 c.self.inside.marks.pieces (λ cell mark. if cell == c.args.cell then Written else mark)
    (λ cell low. stays c.self.inside.cells c.args.cell cell c.self.inside.marks.pieces (λ e. absurd (let high = c.if-cell-self.true in omega arith))))

pub returns-in-None-clause-ok : goal.returns-in-None-clause-ok
returns-in-None-clause-ok c = rw (← c.self.view_is) (marks_changed c.self.inside.cells c.self.inside.rights.pieces c.self.inside.lent.pieces c.self.inside.marks.pieces (record { ticks = c.self.inside.ticks; fuel = c.self.inside.fuel; created = c.self.inside.created; depth = c.self.inside.depth; final = c.self.inside.is_final }) c.self.invariant.2 c.self.invariant.3 c.self.invariant.4 c.self.inside.marks.pieces (λ cell mark. if cell == c.args.cell then Written else mark)
    (λ cell low. stays c.self.inside.cells c.args.cell cell c.self.inside.marks.pieces (λ e. ap mark_told (ap (value_at c.self.inside.marks.pieces) (sym e) ∙ sym c.get.ensures ∙ c.in-None.is))))

-- the one cell of a range
one_cell : (cell c : ℕ) → is_within cell (cell + 1) c ≡ (c == cell)
one_cell cell c = grind (arith, nat_tests)

pub returns-in_ok-clear-in-Some-clause-ok : goal.returns-in_ok-clear-in-Some-clause-ok
returns-in_ok-clear-in-Some-clause-ok c = rw (← c.self.view_is) (marks_changed c.self.inside.cells c.self.inside.rights.pieces c.self.inside.lent.pieces c.self.inside.marks.pieces (record { ticks = c.self.inside.ticks; fuel = c.self.inside.fuel; created = c.self.inside.created; depth = c.self.inside.depth; final = c.self.inside.is_final }) c.self.invariant.2 c.self.invariant.3 c.self.invariant.4 c.clear.new.self.pieces (λ cell mark. if cell == c.args.cell then Written else mark)
    (λ cell low. ap mark_told (c.in_ok-clear-in-Some.ensures.map cell) ∙ told (is_within c.args.cell (c.args.cell + 1) cell) (cell == c.args.cell) (value_at c.self.inside.marks.pieces cell) (one_cell c.args.cell cell))) where
      told : (s t : Bool) (v : _) → s ≡ t → mark_told (if s then None else v) ≡ (if t then Written else mark_told v)
      told true true v e = refl
      told false false v e = refl
      told true false v e = cc
      told false true v e = cc
