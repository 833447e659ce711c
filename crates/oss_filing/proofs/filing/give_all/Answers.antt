use Rattle.std.proofs.Common.{◌≡◌, ◌+◌, ℕ, List, [], length, arith, sym, ap, ◌∙◌, subst}
use Rattle.oss_filing.specs.declared.row.Row.{Row}
use Rattle.oss_filing.specs.Owned.{HasGiven, HasLinked, IsAlone, Owned}
use Rattle.oss_filing.specs.Rows.{given_in}
use Rattle.oss_filing.proofs.FollowLemmas.{alone_kept, given_on, given_past, read_row, row_read, linked_frees, may_release, not_given}
use Rattle.oss_filing.proofs.filing.give_all.Goals.{else-rows-at, then-rows-at}
use Rattle.oss_filing.proofs.filing.give_all.Goals as goal

pub give-requires : goal.give-requires
give-requires c =
    let i = c.loop-at.invariant in
    let less = c.loop-at-test.true in
    let row = read_row c.args.rows.now c.loop-at.at in
    let is = row_read c.args.rows.now c.loop-at.at less in
    may_release c.args.rows.now c.loop-at.net.known c.loop-at.net.size (length c.args.rows.now) (c.loop-at.at + 1) row i.alone i.empty i.linked (omega (arith, less)) (omega (arith, less, c.requires.inside.0, i.size)) is
    (not_given c.args.rows.now c.loop-at.net.known c.loop-at.at (c.loop-at.at + 1) i.given (omega arith))

-- what the loop keeps
abbrev pub Keeping : List Row → ℕ → ℕ → Owned → Type 0
Keeping rows n size o = record {
  alone : IsAlone o.known o.size;
  empty : o.known.view.held ≡ [];
  linked : HasLinked o.known rows (length rows);
  given : HasGiven o.known rows n;
  size : o.size ≡ size;
}

pub loop-at-preserved : goal.loop-at-preserved
loop-at-preserved c =
    let i = c.loop-at.invariant in
    let less = c.loop-at-test.true in
    let given = ap given_in (row_read c.args.rows.now c.loop-at.at less) in
    elim c.if-rows-at.branch [
      | then-rows-at w ↦
          let f = w.give.ensures.frees in
          subst (Keeping c.args.rows.now (c.loop-at.at + 1) c.args.net.now.size) (sym w.net-is) (record {
            alone = subst (λ (n : ℕ). IsAlone w.give.new.self.known n) (sym w.give.ensures.size) (alone_kept c.loop-at.net.known w.give.new.self.known c.loop-at.net.size f.keeps i.alone);
            empty = f.empty;
            linked = linked_frees c.args.rows.now c.loop-at.net.known w.give.new.self.known (length c.args.rows.now) (c.loop-at.at + 1) i.linked f;
            given = given_on c.args.rows.now c.loop-at.net.known w.give.new.self.known c.loop-at.at i.given (given ∙ w.if-rows-at.true) f;
            size = w.give.ensures.size ∙ i.size;
          })
      | else-rows-at w ↦
          subst (Keeping c.args.rows.now (c.loop-at.at + 1) c.args.net.now.size) (sym w.net-is) (record {
            alone = i.alone;
            empty = i.empty;
            linked = i.linked;
            given = given_past c.args.rows.now c.loop-at.net.known c.loop-at.at i.given (given ∙ w.if-rows-at.false);
            size = i.size;
          })
    ]
