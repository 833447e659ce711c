-- A refusal has its cause: it tells the fault, or memory is wanting.
use Rattle.std.specs.Prelude.{◌≡◌, Option, Some}
use Rattle.oss_syntax.specs.declared.fault.FaultKind.{FaultKind}
use Rattle.oss_judge.specs.declared.refused.JudgeRefused.{JudgeRefused}
use Rattle.oss_judge.specs.declared.refused.JudgeRefused.TheVariants.{Fault, Memory}

-- the refusal is this fault, or want of memory
abbrev pub IsRefusal : Option FaultKind → JudgeRefused → Type 0
IsRefusal fault (Fault kind) = fault ≡ Some kind
IsRefusal fault (Memory full) = Unit {0}
