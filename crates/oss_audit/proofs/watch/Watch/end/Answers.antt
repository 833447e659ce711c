use Rattle.std.proofs.Common.{inl}
use Rattle.oss_audit.proofs.ResultLemmas.{on_ok}
use Rattle.oss_audit.proofs.watch.Watch.end.Goals as goal

pub returns-in-Some : goal.returns-in-Some
returns-in-Some c = on_ok c.take-taken.result (λ t. inl (c.in-Some.creator, c.in-Some.ensures, t)) c.take-taken.ensures
