use Rattle.std.proofs.Common.{subst}
use Rattle.oss_open_needs.specs.declared.open_task.OpenTask.{OpenTask}
use Rattle.oss_open_needs.specs.Opening.{AsksFor, IsMendingOf}
use Rattle.oss_open_needs.proofs.OpenLemmas.{closed}
use Rattle.oss_open_needs.proofs.open_needs.OpenNeeds.close.Goals as goal

pub returns-in_ok-ask_for-in-Some : goal.returns-in_ok-ask_for-in-Some
returns-in_ok-ask_for-in-Some c =
    closed c.args.self.now (record { alloc = c.args.self.now.alloc; current = c.ask_for.new.self; above = c.pop.new.self }) c.in-Some.creator c.in_ok-mending-in-Some.mending c.in-Some.ensures (subst (λ (k : OpenTask). IsMendingOf k c.in_ok-mending-in-Some.mending) c.replace-ended.ensures.value c.in_ok-mending-in-Some.ensures) (subst (λ (k : OpenTask). AsksFor c.in_ok-mending-in-Some.mending.clauses.pieces k c.ask_for.new.self) c.replace-ended.ensures.after c.in_ok-ask_for-in-Some.ensures)
