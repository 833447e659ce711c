use Rattle.std.proofs.Common.{◌≡◌, Bor, drop, map}
use Rattle.oss_explain.specs.declared.begun.Child.{Child}
use Rattle.oss_explain.specs.Noting.{hindering, hindering_from}
use Rattle.oss_explain.specs.Reasons.{touch_seen}
use Rattle.oss_explain.proofs.holders.holders.Given as goal

-- what is left goes on behind the children so far
abbrev pub invariant-loop-note : goal.invariant-loop-note
invariant-loop-note l = hindering_from l.cell (touch_seen l.touch) (map (λ (k : Bor Child). k.now) l.held.items) (drop l.note-index l.notes) ≡ hindering l.cell (touch_seen l.touch) l.notes
