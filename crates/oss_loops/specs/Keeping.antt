-- What writing out task loops keeps: the globals.
-- Read against: with `long x, a[3];` before a `main` with a task loop the names are `x` and `a`, and the sizes 1 and 3, before and
-- behind.
use Rattle.std.specs.Prelude.{◌≡◌}
use Rattle.oss_syntax.specs.declared.tree.program.Program.{Program}
use Rattle.oss_grammar.specs.Layout.{names_of, sizes_of}
use Rattle.oss_grammar.specs.TaskLoops.{program_written}

-- what of this program stays
pub record Keeps (p : Program) : Type 0 where
  pub names : names_of (program_written p).items ≡ names_of p.items
  pub sizes : sizes_of (program_written p).items ≡ sizes_of p.items
