use Rattle.std.proofs.Common.{◌≡◌, ◌<◌, ℕ, true, false, inl, refl, ap, sym, subst, ◌∙◌, arith}
use Rattle.oss_deps.specs.Opens.{AreChildrenDone}
use Rattle.oss_word_deps.specs.Booked.{IsBooked}
use Rattle.oss_word_deps.specs.Ledger.{Ledger, last_of, ledger_of}
use Rattle.oss_word_deps.specs.Shelved.{Shelved}
use Rattle.oss_word_deps.specs.Sound.{IsSound}
use Rattle.oss_word_deps.proofs.QueryLemmas.{done_is, last_within, main_last, next_case}
use Rattle.oss_word_deps.proofs.words.Words.main_is_done.Goals as goal

pub are_done-requires : goal.are_done-requires
are_done-requires c =
    let r = c.requires in
    let same = ap (λ (s : Shelved). s.ledger) c.self.view_is in
    let booked = subst (λ (s : Shelved). IsBooked r.0 s.ledger) (sym c.loop-cell.invariant.same) r.1 in
    let sound = subst IsSound same c.self.invariant.1 in
    let less : c.loop-cell.cell < 1048576 = (let t = c.loop-cell-test.true in omega (arith, t, c.args.range.within)) in
    let last = main_last (ledger_of c.self.inside.book) c.self.invariant.1 c.loop-cell.cell c.index-last.result.now less c.index-last.ensures ∙ ap (λ (l : Ledger). last_of l c.loop-cell.cell 0) same in
    last_within r.0 c.loop-cell.self.ledger sound booked c.loop-cell.cell 0 0 (inl (refl, refl)) c.index-last.result.now last

pub returns-then-not-are_done-clause-done : goal.returns-then-not-are_done-clause-done
returns-then-not-are_done-clause-done c = λ s booked. (
  λ h. absurd (let q : false ≡ true = h in cc),
  λ all.
      let same = ap (λ (s : Shelved). s.ledger) c.self.view_is in
      let held = subst (λ (x : Shelved). IsBooked s x.ledger) (sym c.loop-cell.invariant.same) booked in
      let sound = subst IsSound same c.self.invariant.1 in
      let less : c.loop-cell.cell < 1048576 = (let t = c.loop-cell-test.true in omega (arith, t, c.args.range.within)) in
      let last = main_last (ledger_of c.self.inside.book) c.self.invariant.1 c.loop-cell.cell c.index-last.result.now less c.index-last.ensures ∙ ap (λ (l : Ledger). last_of l c.loop-cell.cell 0) same in
      let d = done_is s c.loop-cell.self.ledger sound held c.loop-cell.cell 0 0 (inl (refl, refl)) c.index-last.result.now last c.are_done.result c.are_done.ensures.none c.are_done.ensures.done in
      absurd (let a : c.are_done.result ≡ true = d.1 (all c.loop-cell.cell c.loop-cell.auto.cell c.loop-cell-test.true) in let b : c.are_done.result ≡ false = c.if-not-are_done.true in cc),
)

pub loop-cell-preserved : goal.loop-cell-preserved
loop-cell-preserved c = record {
  done = λ s booked k from less.
      let same = ap (λ (s : Shelved). s.ledger) c.self.view_is in
      let held = subst (λ (x : Shelved). IsBooked s x.ledger) (sym c.loop-cell.invariant.same) booked in
      let sound = subst IsSound same c.self.invariant.1 in
      let bound : c.loop-cell.cell < 1048576 = (let t = c.loop-cell-test.true in omega (arith, t, c.args.range.within)) in
      let last = main_last (ledger_of c.self.inside.book) c.self.invariant.1 c.loop-cell.cell c.index-last.result.now bound c.index-last.ensures ∙ ap (λ (l : Ledger). last_of l c.loop-cell.cell 0) same in
      let d = done_is s c.loop-cell.self.ledger sound held c.loop-cell.cell 0 0 (inl (refl, refl)) c.index-last.result.now last c.are_done.result c.are_done.ensures.none c.are_done.ensures.done in
      next_case k c.loop-cell.cell (AreChildrenDone s.opens s.given 0 k) less (λ h. c.loop-cell.invariant.done s booked k from h) (λ h. subst (λ (x : ℕ). AreChildrenDone s.opens s.given 0 x) (sym h) (d.0 c.if-not-are_done.false));
  same = c.are_done.ensures.same ∙ c.loop-cell.invariant.same;
}
