use Rattle.std.proofs.Common.{◌≡◌, ℕ, refl, sym, ap, ◌∙◌, arith, Option}
use Rattle.oss_ranges.specs.Cells.{value_at}
use Rattle.oss_judge.proofs.ChangeLemmas.{along_more, along_skip}
use Rattle.oss_judge.specs.Seen.{lending_told, lent_at, right_at, right_told, right_seen}
use Rattle.oss_judge.specs.declared.lending.Lending.{Lending}
use Rattle.oss_model.specs.Context.{lend_cell}
use Rattle.oss_model.specs.Rights as model
use Rattle.oss_judge.proofs.changes.lendings.Goals as goal

-- what a creation makes of what is lent of a cell
abbrev IsLent : (ℕ → model.Right) → (ℕ → model.Lending) → ℕ → Option Lending → Type 0
IsLent given lent cell value = lending_told value ≡ lend_cell (given cell) (lent cell)

pub runs-init : goal.runs-init
runs-init c = (omega arith, rw c.new-changes.ensures.items (record { few = omega arith; here = λ cell low. absurd (omega arith); past = λ cell value low. refl }))

pub runs-preserved-in-None : goal.runs-preserved-in-None
runs-preserved-in-None c =
    let some = c.run_from-wanted.ensures.some in (
      c.run_from-wanted.ensures.within,
      along_skip (IsLent (right_at c.args.given.now.pieces) (lent_at c.args.lent.now.pieces)) (value_at c.args.lent.now.pieces) c.runs.from c.run_from-wanted.result.1 c.runs.changes.items c.runs.invariant.1 (omega arith)
          (λ cell low high. sym (ap (λ v. lend_cell (right_told v) (lent_at c.args.lent.now.pieces cell)) (c.run_from-wanted.ensures.alike cell low high ∙ c.in-None.is))),
    )

pub runs-preserved : goal.runs-preserved
runs-preserved c =
    let within = c.run_from-own.ensures.within in
    let inside = c.run_from-wanted.ensures.within in
    let some = c.run_from-own.ensures.some in (
      omega arith,
      rw c.in_ok-push-in-Some.ensures.items
          (along_more (IsLent (right_at c.args.given.now.pieces) (lent_at c.args.lent.now.pieces)) (value_at c.args.lent.now.pieces) c.runs.from c.run_from-own.result.1 c.runs.changes.items _ c.runs.invariant.1 refl refl some
          (λ cell low high.
          c.lent_to.ensures ∙ ap (λ l. lend_cell (right_seen c.in-Some.wanted) l) (c.told.ensures ∙ ap lending_told (sym (c.run_from-own.ensures.alike cell low high)))
          ∙ ap (λ v. lend_cell (right_told v) (lent_at c.args.lent.now.pieces cell)) (sym (c.run_from-wanted.ensures.alike cell low (omega arith) ∙ c.in-Some.is)))),
    )

pub returns-clause-few : goal.returns-clause-few
returns-clause-few c = let few = c.runs.invariant.1.few in let all = c.runs.invariant.0 in omega arith

pub returns-clause-here : goal.returns-clause-here
returns-clause-here c = λ cell low. let all = c.runs-test.false in c.runs.invariant.1.here cell (omega arith)

pub returns-clause-past : goal.returns-clause-past
returns-clause-past c = λ cell value low. let all = c.runs.invariant.0 in c.runs.invariant.1.past cell value (omega arith)
