-- The audit of a program is that of its code: a code asks as its program does, and the orders of its tasks differ in what runs alone, so the two make the same acts and name the same cells.
-- Read against: `long x; int main() { }` with a task `out(x)` that does nothing has the unused cell 0 of the task 0.0; so has each code of it.
use Rattle.std.specs.Prelude.{◌≡◌, ◌↔◌, ℕ, List}
use Rattle.oss_syntax.specs.declared.tree.program.Item.{Item}
use Rattle.oss_model.specs.Agreement.{AreWords}
use Rattle.oss_model.specs.Bodies.{Program, Start}
use Rattle.oss_model.specs.declared.answer.Answer.{Answer}
use Rattle.oss_code.specs.declared.code.CodeParts.{CodeParts}
use Rattle.oss_machine.specs.Machines.{asks}
use Rattle.oss_body.specs.Mains.{code_main}
use Rattle.oss_lower_laws.specs.Programs.{IsCodeOf}
use Rattle.oss_audit.specs.declared.unused.Unused.{Unused}
use Rattle.oss_audit.specs.Reply.{IsAuditedOf}
use Rattle.oss_audit.specs.Unused.{IsAudited}

-- What the audit of a code tells, that of its program tells, and the other way round, where the cells begin with numbers of 64 bits.
abbrev pub AuditsAlike : Type 0
AuditsAlike = (all : List Item) (code : CodeParts) → IsCodeOf all code → AreWords code.first → (fuel : ℕ) (a : Answer) (us : List Unused)
    → IsAuditedOf all fuel a us ↔ IsAudited (asks code) (code_main code fuel) code.first a us

-- A program has at most one audit, whatever main and the cells are: one answer, and one list of unused cells.
-- Read against: of `long a[5]; int main() { }` with a task `out(a)` that writes a[2], the list has 0.0 with the cells from 0 up to 2, and 0.0 with those from 3 up to 5.
-- No other list tells so: the items rise, so they have this order; the cells 0 and 1 are neighbours, so they are in one item; and each item has a cell of a task.
abbrev pub AuditsAreOne : Type 0 → Type 0
AuditsAreOne S = (P : Program S) (main : Start S) (first : List ℕ) (a b : Answer) (us vs : List Unused) → IsAudited P main first a us → IsAudited P main first b vs → (a ≡ b) × (us ≡ vs)
