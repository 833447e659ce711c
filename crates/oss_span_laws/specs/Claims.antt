-- How parallel a program can be at best is told by its code: a code asks as its program does, so the two make the same acts, these wait for the same, and a chain of the one is a chain of
-- the other, with as many ticks.
-- Read against: `long x; int main() { }` with a task `out(x)` that stores 5: a longest chain of the program goes from main's first act over the creation and the acts of the task to its
-- giving of cell 0; so does one of each code of it, with the same numbers of acts.
use Rattle.std.specs.Prelude.{◌≡◌, ◌↔◌, ℕ, List}
use Rattle.oss_syntax.specs.declared.tree.program.Item.{Item}
use Rattle.oss_model.specs.Agreement.{AreWords}
use Rattle.oss_model.specs.Bodies.{Program, Start}
use Rattle.oss_model.specs.declared.answer.Answer.{Answer}
use Rattle.oss_code.specs.declared.code.CodeParts.{CodeParts}
use Rattle.oss_machine.specs.Machines.{asks}
use Rattle.oss_body.specs.Mains.{code_main}
use Rattle.oss_lower_laws.specs.Programs.{IsCodeOf}
use Rattle.oss_span.specs.Reply.{IsSpannedOf}
use Rattle.oss_span.specs.Spans.{Spans}
use Rattle.oss_span.specs.declared.link.Link.{Link}

-- What is told of a program is what is told of its code, where the cells begin with numbers of 64 bits.
abbrev pub SpansAlike : Type 0
SpansAlike = (all : List Item) (code : CodeParts) → IsCodeOf all code → AreWords code.first → (fuel : ℕ) (a : Answer) (work span : ℕ) (chain : List Link)
    → IsSpannedOf all fuel a work span chain ↔ Spans (asks code) (code_main code fuel) code.first a work span chain

-- Whatever is told of a program, the answer is one, and so are its ticks and those of a longest chain. Which chain that is may differ.
-- Read against: of two tasks that wait for nothing and have one tick each, either may stand in a longest chain with main's first act; each chain has as many ticks.
abbrev pub SpansAgree : Type 0 → Type 0
SpansAgree S = (P : Program S) (main : Start S) (first : List ℕ) (a b : Answer) (work other span least : ℕ) (chain links : List Link)
    → Spans P main first a work span chain → Spans P main first b other least links → (a ≡ b) × (work ≡ other) × (span ≡ least)
