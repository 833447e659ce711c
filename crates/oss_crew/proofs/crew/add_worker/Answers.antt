use Rattle.std.proofs.Common.{rules, ◌≡◌, length}
use Rattle.oss_crew.specs.declared.work.Worker.{Worker}
use Rattle.oss_crew.proofs.Homes.{numbered_more}
use Rattle.oss_crew.proofs.crew.add_worker.Goals as goal

pub returns-clause-numbers : goal.returns-clause-numbers
returns-clause-numbers g c =
    let own : c.len-number.result ≡ length c.args.workers.now.items = search rules in
    numbered_more {J = Worker g.row.S.Denot} (λ w. w.number) c.args.workers.now.items c.push.new.self.items _ c.in_ok-push.ensures.items own c.requires.numbers
