use Rattle.std.proofs.Common.{refl, ◌∙◌}
use Rattle.oss_core.specs.Cores.{kept_of}
use Rattle.oss_core.specs.Passing.{stays}
use Rattle.oss_core.proofs.AddedLemmas.{neither_way, none_owed, read_there}
use Rattle.oss_core.proofs.CallLemmas.{if_ok}
use Rattle.oss_core.proofs.machine.Core.pass_run.Goals as goal

pub pass_lets-requires-clause-owes : goal.pass_lets-requires-clause-owes
pass_lets-requires-clause-owes g c = record {
  held = c.index.result.now;
  is = read_there c.args.self.now.tasks.items c.args.task.0 c.index.result.now c.requires.there c.index.ensures;
  owes = λ k low high. c.run_from-owed.ensures.alike k low high ∙ c.is_let.ensures.0 c.if-is_let.true;
}

pub pass_join-requires-clause-owes : goal.pass_join-requires-clause-owes
pass_join-requires-clause-owes g c = (
  c.index.result.now,
  read_there c.args.self.now.tasks.items c.args.task.0 c.index.result.now c.requires.there c.index.ensures,
  (λ k low high. c.run_from-owed.ensures.alike k low high ∙ c.in-Some.ensures),
)

pub returns-then-is_let-clause-passed : goal.returns-then-is_let-clause-passed
returns-then-is_let-clause-passed g c = if_ok c.pass_lets.result (λ to f. f c.args.code.now) c.pass_lets.ensures.passed

pub returns-in-None-clause-passed : goal.returns-in-None-clause-passed
returns-in-None-clause-passed g c =
    stays
    (none_owed (kept_of g.D.Deps.seen c.args.self.now) c.args.task.0 c.args.from c.run_from-owed.result.1 c.index.result.now
    (read_there c.args.self.now.tasks.items c.args.task.0 c.index.result.now c.requires.there c.index.ensures)
    (λ k low high. c.run_from-owed.ensures.alike k low high ∙ neither_way c.run_from-owed.result.0 (λ e. let t = c.is_let.ensures.1 e in let f = c.if-is_let.false in cc) c.in-None.ensures))
    refl refl
