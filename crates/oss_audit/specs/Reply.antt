-- What the audit of a program tells, and its text.
-- Read against: `long a[10]; int main() { }` with a task `out(a)` in main that writes a[0] and has a task `out(a[5])`, which writes a[5]: the text has the lines `unused 0.0 1 4`, `unused 0.0 6 4`
-- and `# unused 8`. A program without tasks has `# unused 0` alone, and one that comes to a fault has no text of its own.
use Rattle.std.specs.Prelude.{◌≡◌, ℕ, List}
use Rattle.oss_syntax.specs.declared.tree.program.Item.{Item}
use Rattle.oss_model.specs.declared.answer.Answer.{Answer}
use Rattle.oss_meaning.specs.Meaning.{asks_of}
use Rattle.oss_meaning.specs.Results.{first_cells, main_of}
use Rattle.oss_audit.specs.declared.unused.Unused.{Unused}
use Rattle.oss_audit.specs.Lines.{audit_text}
use Rattle.oss_audit.specs.Unused.{IsAudited}

-- The audit of the program, with so much fuel for each task, tells this: it is that of its sequential run, from main and with its cells as they are at the start.
abbrev pub IsAuditedOf : List Item → ℕ → Answer → List Unused → Type 0
IsAuditedOf all fuel answer us = IsAudited (asks_of all) (main_of all fuel) (first_cells all) answer us

-- The program has this answer, and its audit this text.
pub record IsAuditTextOf (all : List Item) (fuel : ℕ) (answer : Answer) (text : List ℕ) : Type 0 where
  pub unused : List Unused
  pub audited : IsAuditedOf all fuel answer unused
  pub text_is : text ≡ audit_text unused
