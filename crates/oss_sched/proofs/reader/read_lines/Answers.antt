use Rattle.oss_sched.proofs.Walk.{left_end, left_step, left_wrong}
use Rattle.oss_sched.proofs.reader.read_lines.Goals as goal

pub lines-preserved : goal.lines-preserved
lines-preserved c =
    left_step _ _ _ _ _ _ _ c.lines.invariant c.in-Some.ensures.lines c.in-Some.ensures.shorter c.in-Ok.ensures.taken

pub returns-in-Err-clause-refused : goal.returns-in-Err-clause-refused
returns-in-Err-clause-refused c =
    left_wrong _ _ _ _ _ c.in-Some.after.now _ c.lines.invariant c.in-Some.ensures.lines c.in-Err.ensures.refused

pub returns-clause-read : goal.returns-clause-read
returns-clause-read c = left_end _ _ _ _ c.lines.invariant c.in_default.ensures.lines
