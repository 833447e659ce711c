use Rattle.std.proofs.Common.{◌≡◌, ◌≤◌, ◌<◌, ℕ, List, Some, subst}
use Rattle.oss_syntax.specs.declared.access.Access.{Access}
use Rattle.oss_deps.specs.Opens.{access_at}
use Rattle.oss_deps_tests.proofs.ToldLemmas.{mode_over}
use Rattle.oss_deps_tests.proofs.told.mode_over.Goals as goal

pub returns-in-Some-first_over : goal.returns-in-Some-first_over
returns-in-Some-first_over c = mode_over c.args.opens.now c.in-Some.number c.args.task c.args.range.lo c.args.range.hi c.index-opens-number.result c.in-Some-first_over.access c.in-Some.ensures.found c.if-number-eq0.false
    (subst (λ (xs : List Access). (k : ℕ) → c.args.range.lo ≤ k → k < c.args.range.hi → access_at xs k ≡ Some c.in-Some-first_over.access) c.as_slice.ensures c.in-Some-first_over.ensures)
