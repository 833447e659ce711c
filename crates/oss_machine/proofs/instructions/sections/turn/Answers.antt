use Rattle.std.proofs.Common.{◌≡◌, Ok, map, reverse, take}
use Rattle.oss_grammar.specs.SectionCells.{place_cells}
use Rattle.oss_meaning.specs.Pointers.{number_in}
use Rattle.oss_sections.specs.RangeCells.{cells_of}
use Rattle.oss_machine.specs.Steps.{base_at, place_from}
use Rattle.oss_machine.proofs.instructions.sections.turn.Goals as goal

pub returns-in-Ok : goal.returns-in-Ok
returns-in-Ok c =
    let old = c.args.frame.now in
    let b = base_at c.args.code.now c.args.base old.locals.items in
    let found : place_cells b b.columns (place_from c.args.indices (map number_in (reverse (take c.args.taken (reverse old.stack.items))))) ≡ Ok (cells_of c.in-Ok.ranges) = rw (← c.as_slice.ensures.value, ← c.arguments-values.ensures, ← c.as_slice-2.ensures.value) c.in-Ok.ensures.0 in
    λ accesses ranges. rw found (c.add_turn.ensures accesses ranges)
