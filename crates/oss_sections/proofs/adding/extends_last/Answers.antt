use Rattle.std.proofs.Common.{◌≢◌, refl}
use Rattle.oss_sections.proofs.RangeLemmas.{cells_of-longer, joined_longer, last_push}
use Rattle.oss_sections.proofs.adding.extends_last.Goals as goal

pub returns-then-last-range-clause-cells : goal.returns-then-last-range-clause-cells
returns-then-last-range-clause-cells c =
    rw (c.push_reserved.ensures.items, c.in-Some.ensures.items)
    (cells_of-longer c.pop.new.self.items c.in-Some.last c.args.range _ c.if-last-range.true refl refl)

pub returns-then-last-range-clause-joined : goal.returns-then-last-range-clause-joined
returns-then-last-range-clause-joined c =
    rw (c.push_reserved.ensures.items, c.in-Some.ensures.items)
    (joined_longer c.pop.new.self.items c.in-Some.last _ refl)

pub returns-else-last-range-clause-apart : goal.returns-else-last-range-clause-apart
returns-else-last-range-clause-apart c =
    rw c.in-Some.ensures.items
    (last_push (λ last. last.hi ≢ c.args.range.lo) c.pop.new.self.items c.in-Some.last c.if-last-range.false)
