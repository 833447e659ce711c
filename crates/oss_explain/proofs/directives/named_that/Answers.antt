use Rattle.oss_model.specs.Context.{right_of}
use Rattle.oss_pieces.specs.CellSets.{SetOfCells, has}
use Rattle.oss_explain.specs.Failures.{passes}
use Rattle.oss_explain.proofs.DirectiveLemmas.{if_ok_both, named_so}
use Rattle.oss_explain.proofs.directives.named_that.Goals as goal

pub returns : goal.returns
returns c =
    if_ok_both c.cells_that.result
    (λ (found : SetOfCells) low past. named_so c.args.named.now (λ k. passes c.args.test (right_of c.args.context.now k)) (λ k. has c.in_ok-cells.cells k) (λ k. has found k) c.in_ok-cells.ensures low past)
    c.cells_that.ensures.cells c.cells_that.ensures.past
