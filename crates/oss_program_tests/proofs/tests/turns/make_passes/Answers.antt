use Rattle.std.proofs.Common.{◌≡◌, ◌∙◌, ℕ, [], ap, arith, length, vec_len}
use Rattle.std.specs.Prelude.{◌==◌}
use Rattle.oss_core.specs.Cores.{kept_of}
use Rattle.oss_wakeups.specs.Watches.{HasNoLet}
use Rattle.oss_program_tests.proofs.TrialLemmas.{nothing_in}
use Rattle.oss_program_tests.proofs.tests.turns.make_passes.Goals as goal

pub returns-then-is_empty-clause-quiet : goal.returns-then-is_empty-clause-quiet
returns-then-is_empty-clause-quiet g c =
    let quiet : c.expect-passed.result.items ≡ [] → HasNoLet (kept_of g.D.Deps.seen c.pass_once.new.core) = rw c.expect-passed.ensures at c.pass_once.ensures.quiet in
    let l : vec_len c.expect-passed.result ≡ length c.expect-passed.result.items = omega (arith, c.expect-passed.result.ok.0) in
    quiet (nothing_in c.expect-passed.result.items c.is_empty.result (c.is_empty.ensures ∙ ap (λ (n : ℕ). n == 0) l) c.if-is_empty.true)
