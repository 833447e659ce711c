use Rattle.std.proofs.Common.{◌≡◌, false, sym, ◌∙◌, ap, subst}
use Rattle.oss_ranges.proofs.AssignLemmas.{emptied_none, placed_rises}
use Rattle.oss_ranges.specs.Cells.{inserted, is_before, next_of, Rises}
use Rattle.oss_ranges.proofs.map.RangeMap.put_between.Goals as goal

pub insert-requires-clause-rising : goal.insert-requires-clause-rising
insert-requires-clause-rising g c =
    let fits = placed_rises c.args.range.lo c.args.range.hi c.args.piece c.args.self.now.pieces c.requires.rising c.requires.begins c.requires.ends c.args.range.ordered c.args.range.within in
    rw (c.empty.ensures.pieces, c.in_ok-prepare.ensures.same) fits

pub insert-requires-else-begins_before-clause-rising : goal.insert-requires-else-begins_before-clause-rising
insert-requires-else-begins_before-clause-rising g c =
    let none : is_before (next_of c.args.range.lo c.args.self.now.pieces) c.args.range.hi ≡ false = ap (λ o. is_before o c.args.range.hi) (sym c.requires.next) ∙ sym c.begins_before.ensures ∙ c.if-begins_before.false in
    let same = emptied_none c.args.range.lo c.args.range.hi c.args.self.now.pieces c.requires.rising c.args.range.ordered none in
    let fits = placed_rises c.args.range.lo c.args.range.hi c.args.piece c.args.self.now.pieces c.requires.rising c.requires.begins c.requires.ends c.args.range.ordered c.args.range.within in
    subst (λ xs. Rises 0 (inserted c.args.piece xs) 1048576) (same ∙ sym c.in_ok-prepare-2.ensures.same) fits

pub returns-in_ok-prepare-2-clause-pieces : goal.returns-in_ok-prepare-2-clause-pieces
returns-in_ok-prepare-2-clause-pieces g c =
    let none : is_before (next_of c.args.range.lo c.args.self.now.pieces) c.args.range.hi ≡ false = ap (λ o. is_before o c.args.range.hi) (sym c.requires.next) ∙ sym c.begins_before.ensures ∙ c.if-begins_before.false in
    let same = emptied_none c.args.range.lo c.args.range.hi c.args.self.now.pieces c.requires.rising c.args.range.ordered none in
    c.insert-else-begins_before.ensures.pieces ∙ ap (inserted c.args.piece) (c.in_ok-prepare-2.ensures.same ∙ sym same)
