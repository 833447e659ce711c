-- Which texts are accepted as programs, and why the others are refused: the grammar is asked first, with its tokens and limits, and
-- then the static rules.
-- Read against: the empty text is a program of the grammar and refused as NoMain at line 1; `int main() { x = 1; }` is refused as
-- UnknownName at line 1, and with `int x;` before it accepted; `int main() { x = ; }` is refused as Syntax, and not for its `x`.
-- With a task loop in `main` a text is accepted as the program with the loop, and known as the program with its block.
use Rattle.std.specs.Prelude.{◌≡◌, ℕ, List, [], Some, Result, Ok, Err}
use Rattle.oss_syntax.specs.declared.tree.program.Program.{Program}
use Rattle.oss_syntax.specs.declared.refusal.Refusal.{Refusal}
use Rattle.oss_syntax.specs.declared.refusal.Refusal.TheVariants as refusal
use Rattle.oss_syntax.specs.declared.refusal.Refused.{Refused}
use Rattle.oss_grammar.specs.Parsing.{IsProgramText, IsTextRefusal}
use Rattle.oss_grammar.specs.ProgramRules.{program_rules, refusal_of}
use Rattle.oss_grammar.specs.TaskLoops.{program_written}

-- the text is accepted as this program
pub record Accepts (text : List ℕ) (program : Program) : Type 0 where
  pub is_text : IsProgramText text program
  pub obeys : program_rules program ≡ []

-- the text is refused so: it is no program of the grammar, or the first static rule that its program breaks is this
pub data Refuses (text : List ℕ) (refused : Refused) : Type 0 where
  by_grammar : IsTextRefusal text refused → Refuses text refused
  by_rules : (program : Program) → IsProgramText text program → refusal_of program ≡ Some refused → Refuses text refused

-- the text is accepted, and this is its program with each task loop written out
pub record IsWrittenText (text : List ℕ) (written : Program) : Type 0 where
  pub program : Program
  pub accepts : Accepts text program
  pub is_of : written ≡ program_written program

-- what reading a text and checking its rules tells; want of memory says nothing
abbrev pub IsKnown : List ℕ → Result Program Refusal → Type 0
IsKnown text (Ok written) = IsWrittenText text written
IsKnown text (Err (refusal.Refused refused)) = Refuses text refused
IsKnown text (Err (refusal.Memory e)) = Unit {0}
