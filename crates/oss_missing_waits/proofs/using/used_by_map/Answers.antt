use Rattle.std.proofs.Common.{◌≡◌, ◌∙◌, ℕ, subst, arith}
use Rattle.oss_missing_waits.specs.Kept.{AreReleased}
use Rattle.oss_missing_waits.proofs.UsingLemmas.{said_all, said_before, said_none, said_past, said_run}
use Rattle.oss_missing_waits.proofs.using.used_by_map.Goals as goal

pub loop-from-init : goal.loop-from-init
loop-from-init c = record { high = omega arith; released = said_none c.args.clauses.now.pieces c.args.released.now c.new-used.result c.new-used.ensures }

pub loop-from-preserved-in_ok-add_released : goal.loop-from-preserved-in_ok-add_released
loop-from-preserved-in_ok-add_released c =
    let some = c.run_from-clause.ensures.some in
    record {
      high = c.run_from-clause.ensures.within;
      released =
          said_run c.args.clauses.now.pieces c.in-Some._clause c.loop-from.from c.run_from-clause.result.1 c.args.released.now c.loop-from.used c.add_released.new.used (omega (arith, some)) (λ e l h. c.run_from-clause.ensures.alike e l h ∙ c.in-Some.is)
          c.in_ok-add_released.ensures c.loop-from.invariant.released;
    }

pub loop-from-preserved : goal.loop-from-preserved
loop-from-preserved c =
    let some = c.run_from-clause.ensures.some in
    record {
      high = c.run_from-clause.ensures.within;
      released =
          said_past c.args.clauses.now.pieces c.loop-from.from c.run_from-clause.result.1 c.args.released.now c.loop-from.used (omega (arith, some)) (λ e l h. c.run_from-clause.ensures.alike e l h ∙ c.in_default.is) c.loop-from.invariant.released;
    }

pub returns : goal.returns
returns c =
    let high = c.loop-from.invariant.high in
    let test = c.loop-from-test.false in
    let at : c.loop-from.from ≡ 1048576 = omega (arith, high, test) in
    said_all c.args.clauses.now.pieces 1048576 c.args.released.now c.loop-from.used c.run_from-past.ensures.past
    (subst (λ (n : ℕ). AreReleased (said_before c.args.clauses.now.pieces n) c.args.released.now c.loop-from.used) at c.loop-from.invariant.released)
