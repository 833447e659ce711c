use Rattle.std.proofs.Common.{◌+◌, ◌<◌, ℕ, List, length, arith, rules, sym, ◌∙◌, subst, refl}
use Rattle.oss_words.specs.Views.{Among}
use Rattle.oss_word_deps.proofs.FollowLemmas.{alone_kept, item_entry, linked_on, may_hang}
use Rattle.oss_word_deps.proofs.words.link_from.Goals as goal

pub link-requires : goal.link-requires
link-requires c =
    let i = c.loop-at.invariant in
    let less : c.loop-at.at < length c.args.book.now.entries.items = search rules in
    let is = item_entry c.args.book.now.entries.items c.loop-at.at c.index.result.now less c.index.ensures in
    may_hang c.args.book.now.entries.items c.requires.sound.fits c.loop-at.net.known c.loop-at.at i.linked c.loop-at.net.size (c.loop-at.at + 1) c.index.result.now i.alone i.empty refl is
    (λ m. c.requires.free (c.loop-at.at + 1) c.index.result.now (omega (arith, c.loop-at.auto.at)) is (subst (λ (xs : List ℕ). Among c.index.result.now.info.parent xs) i.gives m)) (omega (arith, c.requires.inside.1, i.size))

pub loop-at-preserved : goal.loop-at-preserved
loop-at-preserved c =
    let i = c.loop-at.invariant in
    let less : c.loop-at.at < length c.args.book.now.entries.items = search rules in
    let is = item_entry c.args.book.now.entries.items c.loop-at.at c.index.result.now less c.index.ensures in
    let a = c.link.ensures.adds in
    record {
      alone = subst (λ (n : ℕ). Rattle.oss_word_deps.specs.Known.IsAlone c.link.new.self.known n) (sym c.link.ensures.size) (alone_kept c.loop-at.net.known c.link.new.self.known c.loop-at.net.size a.keeps i.alone);
      empty = a.empty;
      linked = linked_on c.args.book.now.entries.items c.loop-at.net.known c.link.new.self.known c.loop-at.at (c.loop-at.at + 1) c.index.result.now i.linked refl is a;
      gives = a.gives ∙ i.gives;
      size = c.link.ensures.size ∙ i.size;
    }
