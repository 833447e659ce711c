use Rattle.std.proofs.Common.{length, subst, sym, ◌<◌, List, Option, ℕ}
use Rattle.oss_model.specs.declared.task_no.TaskNo.{TaskNo}
use Rattle.oss_tree.specs.Tasks.{number}
use Rattle.oss_core.specs.Cores.{kept_of}
use Rattle.oss_core.specs.Kept.{IsRunning, Kept}
use Rattle.oss_prior.specs.Turning.{HasTakenTurn, HaveTurnsGone}
use Rattle.oss_prior.proofs.RunLemmas.{first_turn, gone_running, main_there, next_there, next_turn, none_left, turn_falls, turns_made}
use Rattle.oss_prior.proofs.turns.take_turns.Goals as goal

pub take_turn-requires-clause-running : goal.take_turn-requires-clause-running
take_turn-requires-clause-running g c κs within = subst (λ (k : Kept). IsRunning c.args.code.now k) (sym c.in_ok-queue.ensures.same) c.requires.running

pub take_turn-requires-clause-there : goal.take_turn-requires-clause-there
take_turn-requires-clause-there g c κs within = subst (λ (k : Kept). 0 < length k.tree.tasks) (sym c.in_ok-queue.ensures.same) (main_there c.requires.running.core)

pub turns-init : goal.turns-init
turns-init g c = record {
  gone = first_turn c.args.code.now (kept_of g.D.Deps.seen c.args.core.now) (kept_of g.D.Deps.seen c.take_turn.new.core) c.take_turn.new.order c.in_ok-next.next
      (subst (λ (xs : List (List ℕ)). HasTakenTurn c.args.code.now (number 0) (kept_of g.D.Deps.seen c.args.core.now) (kept_of g.D.Deps.seen c.take_turn.new.core) xs c.take_turn.new.order c.in_ok-next.next) c.new-order.ensures
      (subst (λ (k : Kept). HasTakenTurn c.args.code.now (number 0) k (kept_of g.D.Deps.seen c.take_turn.new.core) c.new-order.result c.take_turn.new.order c.in_ok-next.next) c.in_ok-queue.ensures.same c.in_ok-next.ensures.taken));
  watch = c.in_ok-next.ensures.watch;
  queue = c.in_ok-next.ensures.queue;
}

pub take_turn-requires-in-Some-clause-running : goal.take_turn-requires-in-Some-clause-running
take_turn-requires-in-Some-clause-running g c κs within = gone_running c.args.code.now (kept_of g.D.Deps.seen c.args.core.now) (kept_of g.D.Deps.seen c.turns.core) c.turns.order c.turns.next c.requires.running c.turns.invariant.gone

pub take_turn-requires-in-Some-clause-there : goal.take_turn-requires-in-Some-clause-there
take_turn-requires-in-Some-clause-there g c κs within =
    next_there c.args.code.now (kept_of g.D.Deps.seen c.args.core.now) (kept_of g.D.Deps.seen c.turns.core) c.turns.order c.in-Some.task c.requires.running
    (subst (λ (o : Option TaskNo). HaveTurnsGone c.args.code.now (kept_of g.D.Deps.seen c.args.core.now) (kept_of g.D.Deps.seen c.turns.core) c.turns.order o) c.in-Some.is c.turns.invariant.gone)

pub turns-smaller : goal.turns-smaller
turns-smaller g c =
    turn_falls c.args.code.now (kept_of g.D.Deps.seen c.args.core.now) (kept_of g.D.Deps.seen c.turns.core) (kept_of g.D.Deps.seen c.take_turn-in-Some.new.core) c.turns.order c.take_turn-in-Some.new.order c.in-Some.task c.in_ok-next-2.next c.requires.running
    (subst (λ (o : Option TaskNo). HaveTurnsGone c.args.code.now (kept_of g.D.Deps.seen c.args.core.now) (kept_of g.D.Deps.seen c.turns.core) c.turns.order o) c.in-Some.is c.turns.invariant.gone) c.in_ok-next-2.ensures.taken

pub turns-preserved : goal.turns-preserved
turns-preserved g c = record {
  gone = next_turn c.args.code.now (kept_of g.D.Deps.seen c.args.core.now) (kept_of g.D.Deps.seen c.turns.core) (kept_of g.D.Deps.seen c.take_turn-in-Some.new.core) c.turns.order c.take_turn-in-Some.new.order c.in-Some.task c.in_ok-next-2.next
      (subst (λ (o : Option TaskNo). HaveTurnsGone c.args.code.now (kept_of g.D.Deps.seen c.args.core.now) (kept_of g.D.Deps.seen c.turns.core) c.turns.order o) c.in-Some.is c.turns.invariant.gone) c.in_ok-next-2.ensures.taken;
  watch = c.in_ok-next-2.ensures.watch;
  queue = c.in_ok-next-2.ensures.queue;
}

pub returns : goal.returns
returns g c = turns_made c.args.code.now (kept_of g.D.Deps.seen c.args.core.now) (kept_of g.D.Deps.seen c.turns.core) c.turns.order c.turns.next (none_left c.turns.next c.in_default.not-Some) c.turns.invariant.gone
