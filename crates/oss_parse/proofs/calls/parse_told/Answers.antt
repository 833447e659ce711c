use Rattle.std.proofs.Common.{arith}
use Rattle.oss_parse.proofs.TextLoops.{few_tokens, parsed_by, unread_by}
use Rattle.oss_parse.proofs.calls.parse_told.Goals as goal

pub told-requires-clause-counted : goal.told-requires-clause-counted
told-requires-clause-counted c = rw c.as_slice.ensures (omega (arith, few_tokens c.in-Ok.ensures.reading, c.requires))

pub returns-in-Ok : goal.returns-in-Ok
returns-in-Ok c = parsed_by c.args.text.now _ _ c.in-Ok.ensures.reading (rw c.as_slice.ensures at c.told.ensures)

pub returns-in-Err : goal.returns-in-Err
returns-in-Err c = unread_by c.args.text.now _ c.in-Err.ensures.reading
