-- What the check of a program tells: that it breaks no rule, and then the program with each task loop written out, and where its
-- globals lie; or the first rule that it breaks.
-- Read against: `long x, a[3]; int main() { }` is accepted as it stands, with the bounds 0, 1, 4; with a task loop in `main` it is
-- accepted, with the block of that loop in its place and the same bounds; of `long x, x;` NoMain is not told, since DuplicateName
-- comes first.
use Rattle.std.specs.Prelude.{◌≡◌, ℕ, ◌+◌, List, [], ◌∷◌, Some, Result, Ok, Err}
use Rattle.std.specs.Global.{Vec}
use Rattle.oss_syntax.specs.declared.tree.program.Program.{Program}
use Rattle.oss_syntax.specs.declared.refusal.Refusal.{Refusal}
use Rattle.oss_syntax.specs.declared.refusal.Refusal.TheVariants as refusal
use Rattle.oss_grammar.specs.Layout.{sizes_of}
use Rattle.oss_grammar.specs.ProgramRules.{program_rules, refusal_of}
use Rattle.oss_grammar.specs.TaskLoops.{program_written}

-- the first cell of each global, and at the end the number of all cells: of the sizes 1, 3 and 1 it is 0, 1, 4, 5
abbrev pub bounds_of : ℕ → List ℕ → List ℕ
bounds_of before [] = before ∷ []
bounds_of before (size ∷ rest) = before ∷ bounds_of (before + size) rest

-- the program is one that breaks no rule, with each task loop in it written out
pub record IsWrittenOut (written : Program) : Type 0 where
  pub source : Program
  pub obeys : program_rules source ≡ []
  pub is_of : written ≡ program_written source

-- A program is accepted exactly where it breaks no rule as it stands, and else refused for the first that it breaks. What is known of
-- one that is accepted is the program with each task loop written out. Want of memory says nothing.
abbrev pub IsResolved : Program → Result Program Refusal → Type 0
IsResolved p (Ok known) = (program_rules p ≡ []) × (known ≡ program_written p)
IsResolved p (Err (refusal.Refused r)) = refusal_of p ≡ Some r
IsResolved p (Err (refusal.Memory e)) = Unit {0}

-- the same of the bounds of its globals
abbrev pub IsChecked : Program → Result (Vec ℕ) Refusal → Type 0
IsChecked p (Ok bounds) = (program_rules p ≡ []) × (bounds.items ≡ bounds_of 0 (sizes_of p.items))
IsChecked p (Err (refusal.Refused r)) = refusal_of p ≡ Some r
IsChecked p (Err (refusal.Memory e)) = Unit {0}
