use Rattle.std.proofs.Common.{◌≡◌, ℕ, ◌<◌, ◌≤◌, ◌⊎◌, inl, inr, refl, sym, subst, ◌∙◌, arith, true, Some}
use Rattle.std.specs.Prelude.{slice_get}
use Rattle.oss_ranges.specs.Cells.{value_at}
use Rattle.oss_kept_tasks.specs.declared.held.Held.{Held}
use Rattle.oss_kept_tasks.specs.declared.held.Owed.TheVariants as owed
use Rattle.oss_enabled_moves.specs.Enabled.{IsThrough}
use Rattle.oss_core.specs.Cores.{kept_of}
use Rattle.oss_core.specs.Passing.{lets}
use Rattle.oss_core.proofs.AddedLemmas.{holds_range, lets_may, owes_less}
use Rattle.oss_core.proofs.GoingLemmas.{read_is}
use Rattle.oss_core.proofs.KeepLemmas.{some_is}
use Rattle.oss_core.proofs.machine.Core.pass_lets.Goals as goal

pub let_range-requires-clause-owes : goal.let_range-requires-clause-owes
let_range-requires-clause-owes g c = owes_less c.args.self.now.tasks.items c.args.task.0 c.args.range.lo c.args.range.hi c.released_run-released.result.1 c.requires.owes c.released_run-released.ensures.within

pub let_range-requires-clause-holds : goal.let_range-requires-clause-holds
let_range-requires-clause-holds g c = holds_range c.requires.running.1 c.args.task.0 c.args.range.lo c.args.range.hi c.released_run-released.result.1 c.requires.owes c.released_run-released.ensures.within

pub returns-clause-passed : goal.returns-clause-passed
returns-clause-passed g c = λ code.
    lets
    (lets_may (kept_of g.D.Deps.seen c.args.self.now) c.args.task.0 c.args.range.lo c.released_run-released.result.1 c.index.result.now read owes c.released_run-released.result.0 (λ k low high. c.released_run-released.ensures.alike k low high) gone)
    c.in_ok-let_range.ensures
    (_, record { task = refl; lo_is = refl; hi_is = refl; joined_is = refl }, c.in_ok-note.ensures)
  where
    read : slice_get c.args.self.now.tasks.items c.args.task.0 ≡ Some c.index.result.now
    read = read_is c.args.self.now.tasks.items c.args.task.0 c.index.result.now c.requires.owes.held c.requires.owes.is c.index.ensures

    owes : (k : ℕ) → c.args.range.lo ≤ k → k < c.released_run-released.result.1 → value_at c.index.result.now.owed.pieces k ≡ Some owed.Let
    owes k low high =
        let w = c.released_run-released.ensures.within in
        subst (λ (h : Held). value_at h.owed.pieces k ≡ Some owed.Let) (some_is (sym c.requires.owes.is ∙ read)) (c.requires.owes.owes k low (omega (arith, high, w)))

    by : (c.released_run-released.result.0 ≡ true) ⊎ (c.is_through-through.result ≡ true) → (c.released_run-released.result.0 ≡ true) ⊎ IsThrough c.args.self.now.tree.tasks c.args.task.0 c.index.result.now.body
    by (inl e) = inl e
    by (inr e) = inr (c.is_through-through.ensures.0 e)

    gone : (c.released_run-released.result.0 ≡ true) ⊎ IsThrough c.args.self.now.tree.tasks c.args.task.0 c.index.result.now.body
    gone = by (c.is_given.ensures.0 c.if-not-is_given.false)
