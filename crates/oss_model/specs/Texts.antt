-- Texts: the lines that tell of a fault or a refusal.
-- Read against: the fault Lent at line 8 is told as `fault: Lent at line 8`, the refusal of the empty text as `refused: NoMain at line 1`.
use Rattle.std.specs.Prelude.{ℕ, List, [], ◌∷◌, ◌++◌, codes}
use Rattle.std.specs.Fmt.{decimal}
use Rattle.oss_syntax.specs.declared.fault.FaultKind.{FaultKind}
use Rattle.oss_syntax.specs.declared.fault.FaultKind.TheVariants as fault
use Rattle.oss_syntax.specs.declared.refusal.RefusedKind.{RefusedKind}
use Rattle.oss_syntax.specs.declared.refusal.RefusedKind.TheVariants as refused

-- the word for a kind of fault
abbrev pub fault_word : FaultKind → List ℕ
fault_word fault.OutOfFuel = codes "OutOfFuel"
fault_word fault.TooDeep = codes "TooDeep"
fault_word fault.TooManyTasks = codes "TooManyTasks"
fault_word fault.DivideByZero = codes "DivideByZero"
fault_word fault.ShiftRange = codes "ShiftRange"
fault_word fault.OutOfRange = codes "OutOfRange"
fault_word fault.MixedAccess = codes "MixedAccess"
fault_word fault.Released = codes "Released"
fault_word fault.NoRight = codes "NoRight"
fault_word fault.NotCovered = codes "NotCovered"
fault_word fault.BadReduction = codes "BadReduction"
fault_word fault.Lent = codes "Lent"
fault_word fault.Unwritten = codes "Unwritten"

-- the word for a kind of refusal
abbrev pub refused_word : RefusedKind → List ℕ
refused_word refused.Lexical = codes "Lexical"
refused_word refused.Syntax = codes "Syntax"
refused_word refused.BadPragma = codes "BadPragma"
refused_word refused.Unsupported = codes "Unsupported"
refused_word refused.TooLarge = codes "TooLarge"
refused_word refused.UnknownName = codes "UnknownName"
refused_word refused.DuplicateName = codes "DuplicateName"
refused_word refused.WrongKind = codes "WrongKind"
refused_word refused.WrongCount = codes "WrongCount"
refused_word refused.BadJump = codes "BadJump"
refused_word refused.NoMain = codes "NoMain"

-- `WHAT: KIND at line N` and a newline
abbrev pub placed_line : List ℕ → List ℕ → ℕ → List ℕ
placed_line what kind line = what ++ kind ++ codes " at line " ++ decimal line ++ 10 ∷ []

-- the line that tells of a fault
abbrev pub fault_line : FaultKind → ℕ → List ℕ
fault_line kind line = placed_line (codes "fault: ") (fault_word kind) line

-- the line that tells of a refused program text
abbrev pub refusal_line : RefusedKind → ℕ → List ℕ
refusal_line kind line = placed_line (codes "refused: ") (refused_word kind) line
