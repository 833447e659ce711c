use Rattle.std.proofs.Common.{◌≡◌, false, arith, ◌∙◌, subst, ℕ}
use Rattle.oss_audit.specs.Runs.{HasRuns}
use Rattle.oss_audit.proofs.RunLemmas.{added, passed}
use Rattle.oss_audit.proofs.runs.unused_runs.Goals as goal

pub runs-preserved-in_ok-tell : goal.runs-preserved-in_ok-tell
runs-preserved-in_ok-tell c =
    let gone : c.left_run-left.result.0 ≡ false = c.if-over.true in (
      omega arith,
      omega arith,
      passed c.args.point.now c.args.declared.now c.args.touched.now c.runs.start c.runs.from c.runs.told.items c.tell.new.told.items c.runs.invariant.2 c.runs.invariant.0 c.runs.invariant.3 c.in_ok-tell.ensures
          c.left_run-left.result.1 c.left_run-left.ensures.some (λ k l m. c.left_run-left.ensures.alike k l m ∙ gone),
      λ k l m. absurd (omega (arith, l, m)),
    )

pub returns : goal.returns
returns c =
    let e : c.runs.from ≡ 1048576 = omega (arith, c.runs-test.false, c.runs.invariant.1) in
    subst (λ (n : ℕ). HasRuns c.args.point.now c.args.declared.now c.args.touched.now n c.tell-2.new.told.items) e
    (added c.args.point.now c.args.declared.now c.args.touched.now c.runs.start c.runs.from c.runs.told.items c.tell-2.new.told.items c.runs.invariant.2 c.runs.invariant.0 c.runs.invariant.3 c.in_ok-tell-2.ensures)
