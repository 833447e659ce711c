use Rattle.std.proofs.Common.{List, subst}
use Rattle.oss_kept_tasks.specs.declared.held.Held.{Held}
use Rattle.oss_kept_tasks.specs.FirstFault.{AreKeyed, IsFaultless, IsFirstFault}
use Rattle.oss_core.proofs.CallLemmas.{if_ok}
use Rattle.oss_core.proofs.machine.Core.answer_now.Goals as goal

pub fault_answer-requires : goal.fault_answer-requires
fault_answer-requires g c = subst (λ (xs : List Held). IsFirstFault xs c.in-Some.seen.kind c.in-Some.seen.line c.in-Some.seen.key.now) c.as_slice.ensures.value c.in-Some.ensures.first

pub done_answer-requires : goal.done_answer-requires
done_answer-requires g c = subst IsFaultless c.as_slice.ensures.value c.in-None.ensures.first

pub returns-in-Some : goal.returns-in-Some
returns-in-Some g c = if_ok c.fault_answer.result (λ a is. (is, subst AreKeyed c.as_slice.ensures.value c.first_fault.ensures.keyed)) c.fault_answer.ensures

pub returns-in-None : goal.returns-in-None
returns-in-None g c = if_ok c.done_answer.result (λ a is. (is, subst AreKeyed c.as_slice.ensures.value c.first_fault.ensures.keyed)) c.done_answer.ensures
