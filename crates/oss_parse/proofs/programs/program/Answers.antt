use Rattle.oss_expressions.proofs.ExpressionLoops.{reads_as_err}
use Rattle.oss_parse.proofs.ProgramLoops.{program_fail, program_ok}
use Rattle.oss_parse.proofs.programs.program.Goals as goal

pub returns-in-Ok : goal.returns-in-Ok
returns-in-Ok c = program_ok c.args.tokens.now c.program_items.new.tokens c.in-Ok.items c.in-Ok.ensures

pub returns-in-Err : goal.returns-in-Err
returns-in-Err c = reads_as_err _ _ c.in-Err.unread _ c.in-Err.ensures (λ why e. program_fail c.args.tokens.now why e)
