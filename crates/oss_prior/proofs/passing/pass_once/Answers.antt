use Rattle.std.proofs.Common.{◌≡◌, ◌∙◌, arith, length, subst, sym, List, vec_len, ℕ}
use Rattle.std.specs.Prelude.{◌==◌}
use Rattle.oss_core.specs.Awake.{HaveGivers}
use Rattle.oss_core.specs.Cores.{kept_of}
use Rattle.oss_core.specs.declared.passing.Passed.{Passed}
use Rattle.oss_model.specs.declared.task_no.TaskNo.{TaskNo}
use Rattle.oss_wakeups.specs.Asides.{StoodAside}
use Rattle.oss_wakeups.specs.Watches.{IsPassOf}
use Rattle.oss_wakeups.proofs.AsideLemmas.{aside_givers}
use Rattle.oss_prior.proofs.PassingLemmas.{given_bodies, given_keeps, made_there, none_in, pass_made, pass_of, passed_running}
use Rattle.oss_prior.proofs.passing.pass_once.Goals as goal

pub pass-requires-clause-asked : goal.pass-requires-clause-asked
pass-requires-clause-asked g c =
    subst (λ (ts : List TaskNo). HaveGivers (kept_of g.D.Deps.seen c.args.core.now) ts) (sym c.awake.ensures) (aside_givers (StoodAside c.requires.watch.0 c.requires.watch.1) (kept_of g.D.Deps.seen c.args.core.now) c.args.watch.now c.requires.watch.2)

pub after_gifts-requires-clause-running : goal.after_gifts-requires-clause-running
after_gifts-requires-clause-running g c =
    (c.args.code.now, passed_running c.args.code.now (kept_of g.D.Deps.seen c.args.core.now) (kept_of g.D.Deps.seen c.pass.new.self) c.in_ok-passed.passed.items c.requires.running c.in_ok-passed.ensures.passed)

pub after_gifts-requires-clause-apart : goal.after_gifts-requires-clause-apart
after_gifts-requires-clause-apart g c = c.requires.watch.2.apart

pub after_gifts-requires-clause-size : goal.after_gifts-requires-clause-size
after_gifts-requires-clause-size g c = c.requires.watch.2.size ∙ sym c.in_ok-passed.ensures.tasks.size

pub after_gifts-requires-clause-there : goal.after_gifts-requires-clause-there
after_gifts-requires-clause-there g c = λ at one e.
    made_there c.args.code.now (kept_of g.D.Deps.seen c.args.core.now) (kept_of g.D.Deps.seen c.pass.new.self) c.in_ok-passed.passed.items c.requires.running c.in_ok-passed.ensures.passed c.in_ok-passed.ensures.tasks at one (rw (sym c.as_slice.ensures.value) e)

pub returns-clause-watch : goal.returns-clause-watch
returns-clause-watch g c = λ from task was.
    c.in_ok-after_gifts.ensures c.args.code.now (kept_of g.D.Deps.seen c.args.core.now) from task c.requires.running was
    (subst (λ (ts : List Passed). IsPassOf ts (kept_of g.D.Deps.seen c.args.core.now) (kept_of g.D.Deps.seen c.pass.new.self)) (sym c.as_slice.ensures.value) (pass_of (kept_of g.D.Deps.seen c.args.core.now) (kept_of g.D.Deps.seen c.pass.new.self) c.in_ok-passed.passed.items c.in_ok-passed.ensures.given_up c.in_ok-passed.ensures.tasks))

pub returns-clause-bodies : goal.returns-clause-bodies
returns-clause-bodies g c = given_bodies (kept_of g.D.Deps.seen c.args.core.now) (kept_of g.D.Deps.seen c.pass.new.self) c.in_ok-passed.passed.items c.in_ok-passed.ensures.given_up

pub returns-clause-pass : goal.returns-clause-pass
returns-clause-pass g c =
    let l : vec_len c.in_ok-passed.passed ≡ length c.in_ok-passed.passed.items = omega (arith, c.in_ok-passed.passed.ok.0) in
    pass_made c.args.code.now (kept_of g.D.Deps.seen c.args.core.now) (kept_of g.D.Deps.seen c.pass.new.self) c.in_ok-passed.passed.items _ c.in_ok-passed.ensures.passed
    (none_in c.in_ok-passed.passed.items c.is_empty.result (subst (λ (n : ℕ). c.is_empty.result ≡ (n == 0)) l c.is_empty.ensures))

pub returns-clause-keeps : goal.returns-clause-keeps
returns-clause-keeps g c = given_keeps c.args.core.now.tree.tasks c.pass.new.self.tree.tasks c.in_ok-passed.ensures.tasks
