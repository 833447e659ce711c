use Rattle.std.proofs.Common.{◌≡◌, ℕ, ◌<◌, ◌+◌, ◌⊎◌, inl, inr, sym, subst, arith, length}
use Rattle.oss_kept_tasks.specs.FirstFault.{IsKeyedAt, IsLeastTo}
use Rattle.oss_kept_tasks.proofs.LeastLemmas.{all_keyed, which}
use Rattle.oss_kept_tasks.proofs.faults.least_fault.Goals as goal

pub returns-clause-least : goal.returns-clause-least
returns-clause-least c =
    let e : c.loop-at.at ≡ length c.args.tasks.now = omega (arith, c.loop-at.auto.at-end, c.loop-at-test.false) in
    subst (λ (n : ℕ). IsLeastTo c.args.tasks.now n c.loop-at.least) e c.loop-at.invariant.told

pub returns-clause-keyed : goal.returns-clause-keyed
returns-clause-keyed c = all_keyed c.args.tasks.now (λ v l. c.loop-at.invariant.keyed v (omega (arith, l, c.loop-at-test.false)))

pub loop-at-preserved : goal.loop-at-preserved
loop-at-preserved c = record { told = c.least_of-least.ensures.told; keyed = λ v l. keyed v (which v c.loop-at.at) l }
  where
    keyed : (v : ℕ) → (v ≡ c.loop-at.at) ⊎ (v ≡ c.loop-at.at → ⊥) → v < c.loop-at.at + 1 → IsKeyedAt c.args.tasks.now v
    keyed v (inl e) l = subst (λ (n : ℕ). IsKeyedAt c.args.tasks.now n) (sym e) c.least_of-least.ensures.keyed
    keyed v (inr n) l = c.loop-at.invariant.keyed v (grind (arith, l, n))
