-- The reply to a soak: how many tasks the run of a generated program had, and its output.
-- Read against: of a program whose main creates three tasks, the second of which creates two more, there are six tasks, so the reply has the line `tasks 6` before the output, whether it ran one task
-- after the other or by waves. Where it runs into a fault there is no such line.
use Rattle.std.specs.Prelude.{◌≡◌}
use Rattle.oss_syntax.specs.declared.tree.program.Program.{Program}
use Rattle.oss_meaning.specs.Results.{IsOutcomeOf, Outcome}
use Rattle.oss_command.specs.declared.options.Options.{Options}
use Rattle.oss_top.specs.Forms.{soak_reply}
use Rattle.oss_top.specs.declared.reply.Reply.{Reply}

-- The reply to a soak of a program that breaks no rule, with these options: that of the answer of its sequential run, and of the number of its tasks. It is the same in each mode.
pub record IsSoakReply (options : Options) (program : Program) (reply : Reply) : Type 0 where
  pub outcome : Outcome
  pub is_outcome : IsOutcomeOf program.items options.fuel outcome
  pub is_reply : reply ≡ soak_reply outcome.tasks outcome.answer
