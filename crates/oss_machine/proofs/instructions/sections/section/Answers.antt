use Rattle.std.proofs.Common.{◌≡◌, Ok, map, reverse, take}
use Rattle.oss_grammar.specs.SectionCells.{section_cells}
use Rattle.oss_meaning.specs.Pointers.{number_in}
use Rattle.oss_sections.specs.RangeCells.{cells_of}
use Rattle.oss_machine.specs.Steps.{base_at, extent_from}
use Rattle.oss_machine.proofs.RangeLemmas.{ranges_apart}
use Rattle.oss_machine.proofs.instructions.sections.section.Goals as goal

pub returns-in-Ok : goal.returns-in-Ok
returns-in-Ok c =
    let old = c.args.frame.now in
    let found : section_cells (base_at c.args.code.now c.args.base old.locals.items) (extent_from c.args.form (map number_in (reverse (take c.args.taken (reverse old.stack.items))))) ≡ Ok (cells_of c.in-Ok.ranges) = rw (← c.as_slice.ensures.value, ← c.arguments-values.ensures, ← c.as_slice-2.ensures.value) c.in-Ok.ensures.0 in
    λ accesses ranges. rw found (rw (ranges_apart c.in-Ok.ranges c.in-Ok.ensures.1) (c.add_section.ensures accesses ranges))
