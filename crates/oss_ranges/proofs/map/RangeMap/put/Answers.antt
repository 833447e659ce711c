use Rattle.std.proofs.Common.{ℕ, sym, ◌∙◌, ap, subst}
use Rattle.oss_ranges.proofs.AssignLemmas.{emptied_exact, placed_rises}
use Rattle.oss_ranges.specs.Cells.{inserted, IsExactly, removed, Rises}
use Rattle.oss_ranges.proofs.map.RangeMap.put.Goals as goal

pub replace-requires-clause-rising : goal.replace-requires-clause-rising
replace-requires-clause-rising g c =
    let same = (emptied_exact c.args.range.lo c.args.range.hi c.args.self.now.pieces c.next-next.ensures.rising (subst (λ o. IsExactly c.args.range.lo c.args.range.hi o) c.next-next.ensures.found (c.is_exactly.ensures c.if-is_exactly.true))).1 in
    let fits = placed_rises c.args.range.lo c.args.range.hi c.args.piece c.args.self.now.pieces c.next-next.ensures.rising c.requires.begins c.requires.ends c.args.range.ordered c.args.range.within in
    subst (λ (at : ℕ). Rises 0 (inserted c.args.piece (removed at c.args.self.now.pieces)) 1048576) (sym c.requires.begins) (subst (λ xs. Rises 0 (inserted c.args.piece xs) 1048576) same fits)

pub returns-then-is_exactly-clause-pieces : goal.returns-then-is_exactly-clause-pieces
returns-then-is_exactly-clause-pieces g c =
    let same = (emptied_exact c.args.range.lo c.args.range.hi c.args.self.now.pieces c.next-next.ensures.rising (subst (λ o. IsExactly c.args.range.lo c.args.range.hi o) c.next-next.ensures.found (c.is_exactly.ensures c.if-is_exactly.true))).1 in
    c.replace.ensures.pieces ∙ ap (λ (at : ℕ). inserted c.args.piece (removed at c.args.self.now.pieces)) c.requires.begins ∙ ap (inserted c.args.piece) (sym same)
