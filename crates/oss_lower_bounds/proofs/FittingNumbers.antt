-- The numbers of the code of a program of a text are below 2^32.
use Rattle.std.proofs.Common.{◌+◌, ◌*◌, ◌≤◌, List, length, arith}
use Rattle.oss_syntax.specs.declared.tree.program.Item.{Item}
use Rattle.oss_grammar.specs.TaskLoops.{program_written}
use Rattle.oss_meaning.specs.Names.{functions_of}
use Rattle.oss_lower_laws.specs.Lowered.{first_entry, function_codes}
use Rattle.oss_lower_bounds.specs.Bounds.{FitsNumbers, TextsFitNumbers}
use Rattle.oss_lower_bounds.specs.Sizes.{items_size}
use Rattle.oss_lower_bounds.proofs.CountedLocals.{items_few, locals_within}
use Rattle.oss_lower_bounds.proofs.ShortPrograms.{bodies_within, codes_are_short, entries_within}
use Rattle.oss_lower_bounds.proofs.TextPrograms.{texts_are_small}

-- those of a program of this size
fitting : (all : List Item) → items_size all ≤ 4194304 → FitsNumbers all
fitting all few = record {
  instructions = omega (arith, few, (codes_are_short all).short);
  depths = λ k d less. omega (arith, few, (codes_are_short all).shallow k d less);
  functions = λ k d less. omega (arith, few, whole, entries_within all (functions_of all) first_entry k d less);
  bodies = λ k d less. omega (arith, few, whole, bodies_within all (functions_of all) first_entry k d less);
  items = omega (arith, few, items_few all);
  locals = λ k d less. omega (arith, few, locals_within all k d less);
}
  where
    whole : first_entry + length (function_codes all (functions_of all)) ≤ 16 * items_size all + 3
    whole = omega (arith, (codes_are_short all).short)

pub texts_fit_numbers : TextsFitNumbers
texts_fit_numbers text p short is = fitting (program_written p).items (omega (arith, short, texts_are_small text p is))
