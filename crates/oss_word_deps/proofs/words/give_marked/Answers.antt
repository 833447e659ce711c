use Rattle.std.proofs.Common.{◌≡◌, ◌+◌, ◌<◌, ◌≤◌, ℕ, List, [], length, arith, rules, sym, ap, ◌∙◌, subst}
use Rattle.oss_word_deps.specs.declared.entry.Entry.{Entry}
use Rattle.oss_word_deps.specs.declared.entry.Mark.{Mark}
use Rattle.oss_word_deps.specs.Known.{HasGiven, HasLinked, IsAlone, Owned}
use Rattle.oss_word_deps.proofs.FollowLemmas.{alone_kept, given_on, given_past, item_mark, linked_frees, may_release, not_given}
use Rattle.oss_word_deps.proofs.LedgerLemmas.{entry_there}
use Rattle.oss_word_deps.proofs.words.give_marked.Goals.{else-index, then-index}
use Rattle.oss_word_deps.proofs.words.give_marked.Goals as goal

pub give-requires : goal.give-requires
give-requires c =
    let i = c.loop-at.invariant in
    let less : c.loop-at.at < length c.args.book.now.marks.items = search rules in
    let within : c.loop-at.at + 1 ≤ length c.args.book.now.entries.items = omega (arith, less, c.requires.sound.marks) in
    let e = entry_there c.args.book.now.entries.items (c.loop-at.at + 1) (omega arith) within in
    may_release c.args.book.now.entries.items c.loop-at.net.known c.loop-at.net.size (length c.args.book.now.entries.items) (c.loop-at.at + 1) e.0 i.alone i.empty i.linked within (omega (arith, within, c.requires.inside.0, i.size)) e.1
    (not_given c.args.book.now.marks.items c.loop-at.net.known c.loop-at.at (c.loop-at.at + 1) i.given (omega arith))

-- what the loop keeps
abbrev pub Keeping : List Entry → List Mark → ℕ → ℕ → Owned → Type 0
Keeping entries marks n size o = record {
  alone : IsAlone o.known o.size;
  empty : o.known.view.held ≡ [];
  linked : HasLinked o.known entries (length entries);
  given : HasGiven o.known marks n;
  size : o.size ≡ size;
}

pub loop-at-preserved : goal.loop-at-preserved
loop-at-preserved c =
    let i = c.loop-at.invariant in
    let less : c.loop-at.at < length c.args.book.now.marks.items = search rules in
    let mark = ap (λ (m : Mark). m.given) (item_mark c.args.book.now.marks.items c.loop-at.at c.index.result.now less c.index.ensures) in
    elim c.if-index.branch [
      | then-index w ↦
          let f = w.give.ensures.frees in
          subst (Keeping c.args.book.now.entries.items c.args.book.now.marks.items (c.loop-at.at + 1) c.args.net.now.size) (sym w.net-is) (record {
            alone = subst (λ (n : ℕ). IsAlone w.give.new.self.known n) (sym w.give.ensures.size) (alone_kept c.loop-at.net.known w.give.new.self.known c.loop-at.net.size f.keeps i.alone);
            empty = f.empty;
            linked = linked_frees c.args.book.now.entries.items c.loop-at.net.known w.give.new.self.known (length c.args.book.now.entries.items) (c.loop-at.at + 1) i.linked f;
            given = given_on c.args.book.now.marks.items c.loop-at.net.known w.give.new.self.known c.loop-at.at i.given (mark ∙ w.if-index.true) f;
            size = w.give.ensures.size ∙ i.size;
          })
      | else-index w ↦
          subst (Keeping c.args.book.now.entries.items c.args.book.now.marks.items (c.loop-at.at + 1) c.args.net.now.size) (sym w.net-is) (record {
            alone = i.alone;
            empty = i.empty;
            linked = i.linked;
            given = given_past c.args.book.now.marks.items c.loop-at.net.known c.loop-at.at i.given (mark ∙ w.if-index.false);
            size = i.size;
          })
    ]
