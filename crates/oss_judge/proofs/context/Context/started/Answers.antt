use Rattle.std.proofs.Common.{sym, ap, subst, arith}
use Rattle.oss_ranges.specs.Cells.{value_at}
use Rattle.oss_model.proofs.ContextLemmas.{length-table_from}
use Rattle.oss_judge.proofs.ViewLemmas.{own_length, seen, start_is}
use Rattle.oss_judge.specs.Seen.{entry_at}
use Rattle.oss_judge.specs.View.{EndsBefore}
use Rattle.oss_judge.proofs.context.Context.started.Goals as goal

pub returns : goal.returns
returns c = rw (← c.self.view_is)
    (start_is c.self.inside.cells c.args.rights.pieces c.new.result.pieces c.args.marks.pieces (seen c.self.inside.cells c.self.inside.rights.pieces c.self.inside.lent.pieces c.self.inside.marks.pieces (record { ticks = c.self.inside.ticks; fuel = c.self.inside.fuel; created = c.self.inside.created; depth = c.self.inside.depth; final = c.self.inside.is_final })) c.args.is_final
    (sym (length-table_from (entry_at c.self.inside.rights.pieces c.self.inside.lent.pieces c.self.inside.marks.pieces) 0 c.self.inside.cells)) c.new.ensures)

pub invariant_of-result : goal.invariant_of-result
invariant_of-result c =
    let size = sym (own_length c.self.inside.cells c.self.inside.rights.pieces c.self.inside.lent.pieces c.self.inside.marks.pieces (record { ticks = c.self.inside.ticks; fuel = c.self.inside.fuel; created = c.self.inside.created; depth = c.self.inside.depth; final = c.self.inside.is_final }) c.args.self.now c.self.view_is) in
    (c.self.invariant.0, omega arith, subst (λ n. EndsBefore n c.args.rights.pieces) size c.requires.rights, (λ cell low. ap (λ ps. value_at ps cell) c.new.ensures), subst (λ n. EndsBefore n c.args.marks.pieces) size c.requires.marks)
