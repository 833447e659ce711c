-- The reply that tells all that a program's clauses lack.
-- Read against: where main has `task in(x) y = x;` on the lines 3 and 4 and prints y on line 5, the reply is Done; the output has `Main lacks a taskwait before it reads y at line 5: task 0.0 (line 3) has y by out.` and `Task 0.0 (line 3) lacks out(y).` Where it then divides by 0 on line 6, it
-- is Fault: the output has the same lines, and the error output DivideByZero with line 6. What the program prints is not told.
use Rattle.std.specs.Prelude.{◌≡◌, ℕ, List, Option, Some, None}
use Rattle.oss_syntax.specs.declared.tree.program.Program.{Program}
use Rattle.oss_model.specs.Texts.{fault_line}
use Rattle.oss_code.specs.declared.code.CodeParts.{CodeParts}
use Rattle.oss_lower_laws.specs.Lowered.{IsLowered}
use Rattle.oss_missing_lines.specs.declared.missing.Missing.{Missing}
use Rattle.oss_missing_lines.specs.declared.missing.RunFault.{RunFault}
use Rattle.oss_missing_text.specs.Text.{missing_text}
use Rattle.oss_missing.specs.Missing.{IsMissing}
use Rattle.oss_top.specs.Forms.{done_reply, fault_reply}
use Rattle.oss_top.specs.declared.reply.Reply.{Reply}

-- All that is missing of a program, each task with so much fuel, by the code that it becomes.
pub record IsMissingOfProgram (fuel : ℕ) (program : Program) (m : Missing) : Type 0 where
  pub code : CodeParts
  pub lowered : IsLowered program.items code
  pub is : IsMissing code fuel program.items m

-- the reply with this text to a run that came to its end, or to this fault
abbrev pub missed_reply : List ℕ → Option RunFault → Reply
missed_reply text None = done_reply text
missed_reply text (Some f) = fault_reply text (fault_line f.kind f.line)

-- The reply for a program that breaks no rule: the lines of what is missing, and that of the fault to which its free run comes, if it comes to one.
pub record IsMissingReply (fuel : ℕ) (program : Program) (reply : Reply) : Type 0 where
  pub missing : Missing
  pub is_missing : IsMissingOfProgram fuel program missing
  pub is_reply : reply ≡ missed_reply (missing_text program.items missing) missing.fault
