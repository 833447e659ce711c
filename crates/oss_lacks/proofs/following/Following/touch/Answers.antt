use Rattle.std.proofs.Common.{◌+◌, refl}
use Rattle.oss_task_needs.specs.Asking.{asks}
use Rattle.oss_lacks.proofs.KeptLemmas.{asked_more, on_ok}
use Rattle.oss_lacks.proofs.following.Following.touch.Goals as goal

pub returns : goal.returns
returns c = on_ok c.ask.result (λ goes. asked_more (asks c.args.demand c.args.cell (c.args.cell + 1)) c.args.self.now (record { alloc = c.args.self.now.alloc; needs = c.ask.new.self; current = c.args.self.now.current; above = c.args.self.now.above; tasks = c.args.self.now.tasks }) goes refl refl refl) c.ask.ensures
