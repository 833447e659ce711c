-- The reply to an audit of a program: the text of what its tasks' clauses name and none of them touches.
-- Read against: in `long a[2]; int main() { }` with a task `out(a)` in main that writes a[0] alone, cell 1 is named and not touched: the reply is Done with `unused 0.0 1 1` and
-- `# unused 1`. With `a[0] = 1 / a[1];` in the task the reply is Fault with nothing on the output and DivideByZero.
use Rattle.std.specs.Prelude.{◌≡◌, ℕ, List}
use Rattle.oss_syntax.specs.declared.tree.program.Program.{Program}
use Rattle.oss_model.specs.declared.answer.Answer.{Answer}
use Rattle.oss_audit.specs.Reply.{IsAuditTextOf}
use Rattle.oss_top.specs.Forms.{told_reply}
use Rattle.oss_top.specs.declared.reply.Reply.{Reply}

-- The reply to an audit of a program that breaks no rule, each task with so much fuel: the text of the audit where its sequential run comes to its end, and else the fault alone.
pub record IsAuditReply (fuel : ℕ) (program : Program) (reply : Reply) : Type 0 where
  pub answer : Answer
  pub text : List ℕ
  pub audited : IsAuditTextOf program.items fuel answer text
  pub is_reply : reply ≡ told_reply text answer
