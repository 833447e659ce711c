use Rattle.oss_lower.proofs.FewCells.{few_cells, if_ok}
use Rattle.oss_lower.proofs.program.lower.Goals as goal

pub returns-clause-few : goal.returns-clause-few
returns-clause-few c =
    if_ok c.lower_program.result (λ code is. few_cells c.program.result.now code.first c.program.ensures.accepted is.first) c.lower_program.ensures.lowered
