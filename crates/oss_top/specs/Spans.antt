-- The reply that tells how parallel a program can be at best.
-- Read against: of `int x; int main() { x = 1; }` the reply is Done: main's one tick is its only one, so `work 1` and `span 1`, and a longest chain has main's first act. With `int i; int main() { i = 1 / i; }` the reply is Fault with
-- nothing on the output and DivideByZero.
use Rattle.std.specs.Prelude.{◌≡◌, ℕ, List}
use Rattle.oss_syntax.specs.declared.tree.program.Program.{Program}
use Rattle.oss_model.specs.declared.answer.Answer.{Answer}
use Rattle.oss_span.specs.Reply.{IsSpanTextOf}
use Rattle.oss_top.specs.Forms.{told_reply}
use Rattle.oss_top.specs.declared.reply.Reply.{Reply}

-- The reply for a program that breaks no rule, each task with so much fuel: its ticks and a longest chain where its sequential run comes to its end, and else the fault alone.
pub record IsSpanReply (fuel : ℕ) (program : Program) (reply : Reply) : Type 0 where
  pub answer : Answer
  pub text : List ℕ
  pub told : IsSpanTextOf program.items fuel answer text
  pub is_reply : reply ≡ told_reply text answer
