-- The audit of a code: of its sequential run, from its first instruction and with the cells of the code, each task with so much fuel.
-- Read against: of `Push 0, Return` alone the answer is Done with no output, and no cells are told; the same of each code without tasks.
use Rattle.std.specs.Prelude.{ℕ}
use Rattle.oss_code.specs.declared.code.CodeParts.{CodeParts}
use Rattle.oss_machine.specs.Machines.{asks}
use Rattle.oss_body.specs.Mains.{code_main}
use Rattle.oss_audit.specs.declared.unused.AuditRun.{AuditRun}
use Rattle.oss_audit.specs.Unused.{IsAudited}

-- The audit of the code, with this much fuel for each task, tells this.
abbrev pub IsAuditOf : CodeParts → ℕ → AuditRun → Type 0
IsAuditOf code fuel run = IsAudited (asks code) (code_main code fuel) code.first run.answer run.unused
