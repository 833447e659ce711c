use Rattle.std.proofs.Common.{refl, subst, Option}
use Rattle.oss_task_needs.specs.declared.mending.Mending.{Mending}
use Rattle.oss_open_needs.specs.Stacks.{Closes}
use Rattle.oss_lacks.proofs.KeptLemmas.{closed_none, closed_some}
use Rattle.oss_lacks.proofs.following.Following.close.Goals as goal

pub returns-in-Some : goal.returns-in-Some
returns-in-Some c =
    closed_some c.in-Some.mending c.args.self.now (record { alloc = c.args.self.now.alloc; needs = c.close.new.self; current = c.args.self.now.current; above = c.args.self.now.above; tasks = c.args.self.now.tasks }) c.go_back.new.self c.go_back.result refl refl refl
    (subst (λ (x : Option Mending). Closes c.args.self.now.needs c.close.new.self x) c.in-Some.is c.in_ok-mending.ensures) c.go_back.ensures

pub returns-in-None : goal.returns-in-None
returns-in-None c =
    closed_none c.args.self.now (record { alloc = c.args.self.now.alloc; needs = c.close.new.self; current = c.args.self.now.current; above = c.args.self.now.above; tasks = c.args.self.now.tasks }) refl refl refl
    (subst (λ (x : Option Mending). Closes c.args.self.now.needs c.close.new.self x) c.in-None.is c.in_ok-mending.ensures)
