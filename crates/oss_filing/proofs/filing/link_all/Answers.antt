use Rattle.std.proofs.Common.{◌+◌, ℕ, List, arith, sym, ◌∙◌, subst, refl}
use Rattle.oss_words.specs.Views.{Among}
use Rattle.oss_filing.specs.Owned.{IsAlone}
use Rattle.oss_filing.proofs.FollowLemmas.{alone_kept, read_row, row_read, linked_on, may_hang, nothing_among}
use Rattle.oss_filing.proofs.filing.link_all.Goals as goal

pub link-requires : goal.link-requires
link-requires c =
    let i = c.loop-at.invariant in
    let less = c.loop-at-test.true in
    let row = read_row c.args.rows.now c.loop-at.at in
    let is = row_read c.args.rows.now c.loop-at.at less in
    may_hang c.args.rows.now c.requires.sound c.loop-at.net.known c.loop-at.at i.linked c.loop-at.net.size (c.loop-at.at + 1) row i.alone i.empty refl is
    (λ m. nothing_among row.info.parent (subst (λ (xs : List ℕ). Among row.info.parent xs) i.gives m)) (omega (arith, c.requires.inside.0, i.size))

pub loop-at-preserved : goal.loop-at-preserved
loop-at-preserved c =
    let i = c.loop-at.invariant in
    let less = c.loop-at-test.true in
    let row = read_row c.args.rows.now c.loop-at.at in
    let is = row_read c.args.rows.now c.loop-at.at less in
    let a = c.link.ensures.adds in
    record {
      alone = subst (λ (n : ℕ). IsAlone c.link.new.self.known n) (sym c.link.ensures.size) (alone_kept c.loop-at.net.known c.link.new.self.known c.loop-at.net.size a.keeps i.alone);
      empty = a.empty;
      linked = linked_on c.args.rows.now c.loop-at.net.known c.link.new.self.known c.loop-at.at (c.loop-at.at + 1) row i.linked refl is a;
      gives = a.gives ∙ i.gives;
      size = c.link.ensures.size ∙ i.size;
    }
