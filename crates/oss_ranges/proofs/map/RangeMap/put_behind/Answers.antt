use Rattle.std.proofs.Common.{ap, subst, sym, ◌∙◌}
use Rattle.oss_ranges.proofs.AssignLemmas.{emptied_rises, emptied_short, placed_rises}
use Rattle.oss_ranges.specs.Cells.{Begins, inserted, next_of, removed, Rises}
use Rattle.oss_ranges.proofs.map.RangeMap.put_behind.Goals as goal

pub replace-requires-clause-found : goal.replace-requires-clause-found
replace-requires-clause-found g c =
    let pieces = c.args.self.now.pieces in
    let rising : Rises 0 pieces 1048576 = subst (λ xs. Rises 0 xs 1048576) c.in_ok-prepare.ensures.same c.in_ok-prepare.ensures.rising in
    let short = emptied_short c.args.range.lo c.args.range.hi c.args.front pieces rising c.requires.front in
    subst (λ xs. Begins c.args.front.lo (next_of c.args.front.lo xs)) (sym c.in_ok-prepare.ensures.same) short.0

pub replace-requires-clause-rising : goal.replace-requires-clause-rising
replace-requires-clause-rising g c =
    let pieces = c.args.self.now.pieces in
    let rising : Rises 0 pieces 1048576 = subst (λ xs. Rises 0 xs 1048576) c.in_ok-prepare.ensures.same c.in_ok-prepare.ensures.rising in
    let short = emptied_short c.args.range.lo c.args.range.hi c.args.front pieces rising c.requires.front in
    let all = emptied_rises c.args.range.lo c.args.range.hi pieces rising in
    subst (λ xs. Rises 0 (inserted c.args.front (removed c.args.front.lo xs)) 1048576) (sym c.in_ok-prepare.ensures.same) (subst (λ xs. Rises 0 xs 1048576) short.1 all)

pub insert-requires-clause-rising : goal.insert-requires-clause-rising
insert-requires-clause-rising g c =
    let pieces = c.args.self.now.pieces in
    let rising : Rises 0 pieces 1048576 = subst (λ xs. Rises 0 xs 1048576) c.in_ok-prepare.ensures.same c.in_ok-prepare.ensures.rising in
    let short = emptied_short c.args.range.lo c.args.range.hi c.args.front pieces rising c.requires.front in
    let fits = placed_rises c.args.range.lo c.args.range.hi c.args.piece pieces rising c.requires.begins c.requires.ends c.args.range.ordered c.args.range.within in
    let made = c.replace.ensures.pieces ∙ ap (λ xs. inserted c.args.front (removed c.args.front.lo xs)) c.in_ok-prepare.ensures.same ∙ sym short.1 in
    subst (λ xs. Rises 0 (inserted c.args.piece xs) 1048576) (sym made) fits

pub returns-clause-pieces : goal.returns-clause-pieces
returns-clause-pieces g c =
    let pieces = c.args.self.now.pieces in
    let rising : Rises 0 pieces 1048576 = subst (λ xs. Rises 0 xs 1048576) c.in_ok-prepare.ensures.same c.in_ok-prepare.ensures.rising in
    let short = emptied_short c.args.range.lo c.args.range.hi c.args.front pieces rising c.requires.front in
    let made = c.replace.ensures.pieces ∙ ap (λ xs. inserted c.args.front (removed c.args.front.lo xs)) c.in_ok-prepare.ensures.same ∙ sym short.1 in
    c.insert.ensures.pieces ∙ ap (inserted c.args.piece) made
