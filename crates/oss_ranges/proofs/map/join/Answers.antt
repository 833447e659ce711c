use Rattle.std.proofs.Common.{◌≡◌, Some, None, sym, ◌∙◌, ◌-◌}
use Rattle.oss_ranges.specs.Cells.{next_of, union_of}
use Rattle.oss_ranges.specs.Stores.{kept_of}
use Rattle.oss_ranges.proofs.JoinLemmas.{joined_is, joined_rises, next_again, union_from}
use Rattle.oss_ranges.proofs.map.join.Goals as goal

pub unite-requires-clause-rising : goal.unite-requires-clause-rising
unite-requires-clause-rising g c =
    let made : union_of g.T.PartialEq.eq c.args.cell (next_of (c.args.cell - 1) (kept_of c.args.store.now).pieces) (next_of c.args.cell (kept_of c.args.store.now).pieces) ≡ Some c.in-Some.whole = rw (← c.saturating_sub.ensures, ← c.next-front.ensures.found, ← c.next.ensures.found) (sym c.union.ensures ∙ c.in-Some.is) in
    let is = rw made at (joined_is g.T.PartialEq.eq 0 1048576 c.args.cell (kept_of c.args.store.now).pieces c.next.ensures.rising) in
    rw is (joined_rises g.T.PartialEq.eq 0 1048576 c.args.cell (kept_of c.args.store.now).pieces c.next.ensures.rising)

pub unite-requires-clause-found : goal.unite-requires-clause-found
unite-requires-clause-found g c =
    let made : union_of g.T.PartialEq.eq c.args.cell (next_of (c.args.cell - 1) (kept_of c.args.store.now).pieces) (next_of c.args.cell (kept_of c.args.store.now).pieces) ≡ Some c.in-Some.whole = rw (← c.saturating_sub.ensures, ← c.next-front.ensures.found, ← c.next.ensures.found) (sym c.union.ensures ∙ c.in-Some.is) in
    let from = union_from g.T.PartialEq.eq c.args.cell (next_of (c.args.cell - 1) (kept_of c.args.store.now).pieces) (next_of c.args.cell (kept_of c.args.store.now).pieces) c.in-Some.whole made in
    rw from.2 (next_again g.T.PartialEq.eq 0 1048576 (c.args.cell - 1) from.0 (kept_of c.args.store.now).pieces c.next.ensures.rising from.1)

pub returns-in-Some-clause-pieces : goal.returns-in-Some-clause-pieces
returns-in-Some-clause-pieces g c =
    let made : union_of g.T.PartialEq.eq c.args.cell (next_of (c.args.cell - 1) (kept_of c.args.store.now).pieces) (next_of c.args.cell (kept_of c.args.store.now).pieces) ≡ Some c.in-Some.whole = rw (← c.saturating_sub.ensures, ← c.next-front.ensures.found, ← c.next.ensures.found) (sym c.union.ensures ∙ c.in-Some.is) in
    let is = rw made at (joined_is g.T.PartialEq.eq 0 1048576 c.args.cell (kept_of c.args.store.now).pieces c.next.ensures.rising) in
    c.unite.ensures.pieces ∙ is

pub returns-in-Some-clause-rising : goal.returns-in-Some-clause-rising
returns-in-Some-clause-rising g c =
    let made : union_of g.T.PartialEq.eq c.args.cell (next_of (c.args.cell - 1) (kept_of c.args.store.now).pieces) (next_of c.args.cell (kept_of c.args.store.now).pieces) ≡ Some c.in-Some.whole = rw (← c.saturating_sub.ensures, ← c.next-front.ensures.found, ← c.next.ensures.found) (sym c.union.ensures ∙ c.in-Some.is) in
    let is = rw made at (joined_is g.T.PartialEq.eq 0 1048576 c.args.cell (kept_of c.args.store.now).pieces c.next.ensures.rising) in
    rw (c.unite.ensures.pieces, is) (joined_rises g.T.PartialEq.eq 0 1048576 c.args.cell (kept_of c.args.store.now).pieces c.next.ensures.rising)

pub returns-in-None-clause-pieces : goal.returns-in-None-clause-pieces
returns-in-None-clause-pieces g c =
    let made : union_of g.T.PartialEq.eq c.args.cell (next_of (c.args.cell - 1) (kept_of c.args.store.now).pieces) (next_of c.args.cell (kept_of c.args.store.now).pieces) ≡ None = rw (← c.saturating_sub.ensures, ← c.next-front.ensures.found, ← c.next.ensures.found) (sym c.union.ensures ∙ c.in-None.is) in
    rw made at (joined_is g.T.PartialEq.eq 0 1048576 c.args.cell (kept_of c.args.store.now).pieces c.next.ensures.rising)
