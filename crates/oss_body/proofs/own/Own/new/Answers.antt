use Rattle.std.proofs.Common.{ap, ◌∙◌, List, None}
use Rattle.oss_syntax.specs.declared.access.Access.{Access}
use Rattle.oss_judge.specs.Joined.{held_right}
use Rattle.oss_body.specs.Slots.{slot_from}
use Rattle.oss_body.proofs.SlotLemmas.{rising_slot}
use Rattle.oss_body.proofs.own.Own.new.Goals as goal

pub returns-clause-slots : goal.returns-clause-slots
returns-clause-slots c = λ k op right.
    c.in_ok-slots.ensures k ∙ ap (λ (xs : List Access). slot_from xs k None) c.as_slice.ensures
    ∙ rising_slot c.in_ok-accesses.accesses k op None c.in_ok-accesses.ensures.rising (c.in_ok-accesses.ensures.rights k ∙ ap held_right right)
