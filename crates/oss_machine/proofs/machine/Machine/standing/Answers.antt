use Rattle.std.proofs.Common.{◌∙◌, ap, sym}
use Rattle.oss_machine.specs.declared.running.body.Reach.{Reach}
use Rattle.oss_machine.specs.Activations.{no_base}
use Rattle.oss_machine.specs.Machines.{Poised}
use Rattle.oss_machine.specs.Reaches.{stands_in}
use Rattle.oss_machine.proofs.machine.Machine.standing.Goals as goal

pub returns-in-Unused : goal.returns-in-Unused
returns-in-Unused c =
    (no_base, sym (ap (λ (r : Reach). (stands_in r c.self.inside.still c.self.inside.run).frame) c.in-Unused.is) ∙ ap (λ (z : Poised). z.stands.config.frame) c.self.view_is)

pub returns-in-Ahead : goal.returns-in-Ahead
returns-in-Ahead c =
    (no_base, sym (ap (λ (r : Reach). (stands_in r c.self.inside.still c.self.inside.run).frame) c.in-Ahead.is) ∙ ap (λ (z : Poised). z.stands.config.frame) c.self.view_is)
