use Rattle.std.proofs.Common.{◌≡◌, Some, None, sym, ◌∙◌, arith}
use Rattle.oss_ranges.specs.Cells.{next_of}
use Rattle.oss_ranges.specs.Stores.{kept_of}
use Rattle.oss_ranges.proofs.ClipLemmas.{clip_first, clip_none, clip_stop}
use Rattle.oss_ranges.proofs.pieces.PiecesIterator.next.Goals as goal

pub returns-in-None-clause-steps : goal.returns-in-None-clause-steps
returns-in-None-clause-steps g c =
    let found : next_of c.self.inside.from (kept_of c.self.inside.store.now).pieces ≡ None = sym c.next.ensures.found ∙ c.in-None.is in
    let none = sym c.self.view_is ∙ clip_none c.self.inside.from c.self.inside.to (kept_of c.self.inside.store.now).pieces found in
    (none, none)

pub returns-else-lo-hi-clause-steps : goal.returns-else-lo-hi-clause-steps
returns-else-lo-hi-clause-steps g c =
    let found : next_of c.self.inside.from (kept_of c.self.inside.store.now).pieces ≡ Some c.in-Some.piece = sym c.next.ensures.found ∙ c.in-Some.is in
    let none = sym c.self.view_is ∙ clip_stop 0 1048576 c.self.inside.from c.self.inside.to c.in-Some.piece (kept_of c.self.inside.store.now).pieces c.self.invariant.0 found (rw (← c.max-lo.ensures, ← c.min-hi.ensures) c.if-lo-hi.false) in
    (none, none)

pub returns-then-lo-hi-clause-steps : goal.returns-then-lo-hi-clause-steps
returns-then-lo-hi-clause-steps g c =
    let found : next_of c.self.inside.from (kept_of c.self.inside.store.now).pieces ≡ Some c.in-Some.piece = sym c.next.ensures.found ∙ c.in-Some.is in
    rw (c.max-lo.ensures, c.min-hi.ensures) (sym c.self.view_is ∙ clip_first 0 1048576 c.self.inside.from c.self.inside.to c.in-Some.piece (kept_of c.self.inside.store.now).pieces c.self.invariant.0 found (rw (← c.max-lo.ensures, ← c.min-hi.ensures) c.if-lo-hi.true))

pub returns-then-lo-hi-clause-goes : goal.returns-then-lo-hi-clause-goes
returns-then-lo-hi-clause-goes g c =
    let steps = returns-then-lo-hi-clause-steps g c in
    record { on = λ finite. (tt, tt, rw steps (omega arith)); keeps = tt; rests = λ finite. tt }
