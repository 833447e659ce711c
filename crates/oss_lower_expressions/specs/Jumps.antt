-- Jumps whose length is told once what they pass is written.
-- Read against: a jump that is made always and passes 3 instructions is `Skip 3`.
use Rattle.std.specs.Prelude.{ℕ}
use Rattle.oss_code.specs.declared.instr.Instr.{Instr}
use Rattle.oss_code.specs.declared.instr.Instr.TheVariants as i
use Rattle.oss_lower_expressions.specs.declared.listing.Jump.{Jump}
use Rattle.oss_lower_expressions.specs.declared.listing.Jump.TheVariants as jump

-- the jump that passes so many
abbrev pub jump_by : Jump → ℕ → Instr
jump_by jump.Always n = i.Skip n
jump_by jump.Unless n = i.SkipUnless n
jump_by jump.NoTurn n = i.Turns n
