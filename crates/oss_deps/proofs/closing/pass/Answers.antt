use Rattle.std.proofs.Common.{get_or, sym, ap, ◌∙◌, refl, Some, None}
use Rattle.std.proofs.lemmas.Option.{slice_get-get_or}
use Rattle.oss_deps.proofs.Basics.{some_is, some_none, clash}
use Rattle.oss_deps.specs.Places.{blank}
use Rattle.oss_deps.proofs.CloseLemmas.{pass_stays, moved_marked, moved_closed, moved_given, read_closed, up_some, up_behind}
use Rattle.oss_deps.proofs.closing.pass.Goals as goal

pub returns-then-first-done-clause-marked : goal.returns-then-first-done-clause-marked
returns-then-first-done-clause-marked c = pass_stays c.args.frames.now c.args.marks.now c.requires.linked c.args.done c.requires.marked c.requires.within c.requires.closed (λ e. c.if-first-done.true (some_is (sym c.in-Some.is ∙ e)))

pub returns-in-None-clause-marked : goal.returns-in-None-clause-marked
returns-in-None-clause-marked c = pass_stays c.args.frames.now c.args.marks.now c.requires.linked c.args.done c.requires.marked c.requires.within c.requires.closed (λ e. some_none (sym e ∙ c.in-None.is))

pub returns-then-is_closed-clause-marked : goal.returns-then-is_closed-clause-marked
returns-then-is_closed-clause-marked c = moved_marked c.args.frames.now c.args.marks.now c.requires.linked c.args.done c.requires.marked c.requires.within c.requires.closed (c.in-Some.is ∙ ap Some c.if-first-done.false) c.next_open-next.result (c.next_open-next.ensures (get_or c.args.frames.now c.args.done blank) (slice_get-get_or c.args.frames.now c.args.done blank c.requires.within.1)) (Some (get_or c.args.frames.now c.args.done blank).up) (λ h. refl)

pub returns-then-is_closed-clause-above : goal.returns-then-is_closed-clause-above
returns-then-is_closed-clause-above c = (up_some c.args.frames.now c.args.marks.now c.requires.linked c.args.done c.requires.marked c.requires.within c.requires.closed (c.in-Some.is ∙ ap Some c.if-first-done.false) c.next_open-next.result (c.next_open-next.ensures (get_or c.args.frames.now c.args.done blank) (slice_get-get_or c.args.frames.now c.args.done blank c.requires.within.1)) (sym (read_closed c.args.frames.now c.args.marks.now c.requires.linked c.args.done c.requires.marked c.requires.within c.requires.closed (c.in-Some.is ∙ ap Some c.if-first-done.false) c.next_open-next.result (c.next_open-next.ensures (get_or c.args.frames.now c.args.done blank) (slice_get-get_or c.args.frames.now c.args.done blank c.requires.within.1))) ∙ sym c.is_closed.ensures ∙ c.if-is_closed.true), up_behind c.args.frames.now c.args.marks.now c.requires.linked c.args.done c.requires.marked c.requires.within c.requires.closed, moved_closed c.args.frames.now c.args.marks.now c.requires.linked c.args.done c.requires.marked c.requires.within c.requires.closed (c.in-Some.is ∙ ap Some c.if-first-done.false) c.next_open-next.result (c.next_open-next.ensures (get_or c.args.frames.now c.args.done blank) (slice_get-get_or c.args.frames.now c.args.done blank c.requires.within.1)) ∙ sym (read_closed c.args.frames.now c.args.marks.now c.requires.linked c.args.done c.requires.marked c.requires.within c.requires.closed (c.in-Some.is ∙ ap Some c.if-first-done.false) c.next_open-next.result (c.next_open-next.ensures (get_or c.args.frames.now c.args.done blank) (slice_get-get_or c.args.frames.now c.args.done blank c.requires.within.1))) ∙ sym c.is_closed.ensures ∙ c.if-is_closed.true)

pub returns-then-is_closed-clause-given : goal.returns-then-is_closed-clause-given
returns-then-is_closed-clause-given c = λ t. moved_given c.args.frames.now c.args.marks.now c.requires.linked c.args.done c.requires.marked c.requires.within c.requires.closed (c.in-Some.is ∙ ap Some c.if-first-done.false) c.next_open-next.result (c.next_open-next.ensures (get_or c.args.frames.now c.args.done blank) (slice_get-get_or c.args.frames.now c.args.done blank c.requires.within.1)) t

pub returns-else-is_closed-clause-marked : goal.returns-else-is_closed-clause-marked
returns-else-is_closed-clause-marked c = moved_marked c.args.frames.now c.args.marks.now c.requires.linked c.args.done c.requires.marked c.requires.within c.requires.closed (c.in-Some.is ∙ ap Some c.if-first-done.false) c.next_open-next.result (c.next_open-next.ensures (get_or c.args.frames.now c.args.done blank) (slice_get-get_or c.args.frames.now c.args.done blank c.requires.within.1)) None (λ h. clash c.is_closed.result (c.is_closed.ensures ∙ read_closed c.args.frames.now c.args.marks.now c.requires.linked c.args.done c.requires.marked c.requires.within c.requires.closed (c.in-Some.is ∙ ap Some c.if-first-done.false) c.next_open-next.result (c.next_open-next.ensures (get_or c.args.frames.now c.args.done blank) (slice_get-get_or c.args.frames.now c.args.done blank c.requires.within.1)) ∙ sym (moved_closed c.args.frames.now c.args.marks.now c.requires.linked c.args.done c.requires.marked c.requires.within c.requires.closed (c.in-Some.is ∙ ap Some c.if-first-done.false) c.next_open-next.result (c.next_open-next.ensures (get_or c.args.frames.now c.args.done blank) (slice_get-get_or c.args.frames.now c.args.done blank c.requires.within.1))) ∙ h) c.if-is_closed.false)

pub returns-else-is_closed-clause-given : goal.returns-else-is_closed-clause-given
returns-else-is_closed-clause-given c = λ t. moved_given c.args.frames.now c.args.marks.now c.requires.linked c.args.done c.requires.marked c.requires.within c.requires.closed (c.in-Some.is ∙ ap Some c.if-first-done.false) c.next_open-next.result (c.next_open-next.ensures (get_or c.args.frames.now c.args.done blank) (slice_get-get_or c.args.frames.now c.args.done blank c.requires.within.1)) t
