use Rattle.oss_gen.proofs.TaskLemmas.{loop_written}
use Rattle.oss_gen.proofs.tasks.write_loop.Goals as goal

pub returns : goal.returns
returns c =
    loop_written c.args.text.now.items c.write_with_number.new.text.items c.write_with_number-2.new.text.items c.extend_from_slice.new.self.items c.args.number c.first_cell.result c.cell_behind.result
    c.first_cell.ensures c.cell_behind.ensures c.in_ok-write_with_number.ensures c.in_ok-write_with_number-2.ensures c.in_ok-extend_from_slice.ensures.items
