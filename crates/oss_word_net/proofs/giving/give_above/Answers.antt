use Rattle.std.proofs.Common.{sym, subst, ap, List}
use Rattle.oss_words.specs.Bits.{info_at}
use Rattle.oss_words.specs.Views.{Among}
use Rattle.oss_words.specs.declared.entry.EntryInfo.{EntryInfo}
use Rattle.oss_word_net.specs.Known.{Known, Told, eldest}
use Rattle.oss_word_net.proofs.ReleaseLemmas.{watches_info, told_now, kin_hangs, above_released, above_sent}
use Rattle.oss_word_net.proofs.giving.give_above.Goals as goal

pub last_child-last-requires-clause-child : goal.last_child-last-requires-clause-child
last_child-last-requires-clause-child c = (eldest c.requires.child.0, c.requires.child.1)

pub read_info-word-requires-clause-hangs : goal.read_info-word-requires-clause-hangs
read_info-word-requires-clause-hangs c = kin_hangs c.args.place.now.me.0.known c.last_child-last.new.place.me.0.known c.args.entry c.last_child-last.result c.last_child-last.ensures.watches c.last_child-last.ensures.child.0

pub link_last-found-requires-clause-told : goal.link_last-found-requires-clause-told
link_last-found-requires-clause-told c =
    subst (λ (i : EntryInfo). Among (record { entry = c.last_child-last.result; info = i }) c.begin_give.new.seat.me.0.known.told) (sym c.info_of-info.ensures)
    (subst (λ (z : List Told). Among (record { entry = c.last_child-last.result; info = info_at c.read_info-word.result }) z) (sym (ap (λ (k : Known). k.told) c.begin_give.ensures.known))
    (told_now c.last_child-last.new.place.me.0.known c.read_info-word.new.seat.me.0.known c.last_child-last.result c.read_info-word.result c.read_info-word.ensures.known))

pub returns-clause-released : goal.returns-clause-released
returns-clause-released c =
    let a : Known = c.args.place.now.me.0.known in
    let w = watches_info a c.last_child-last.new.place.me.0.known c.read_info-word.new.seat.me.0.known c.last_child-last.result c.read_info-word.result c.last_child-last.ensures.watches c.read_info-word.ensures.known in
    above_released c.args.words.now.key a c.read_info-word.new.seat.me.0.known c.args.entry c.requires.idle c.requires.may w c.begin_give.new.seat.me.0.known c.link_last-found.new.seat.me.0.known c.last_child-last.result c.begin_give.result c.link_last-found.result c.info_of-info.result
    c.begin_give.ensures.known c.link_last-found.ensures.known
    (subst (λ (i : EntryInfo). Among (record { entry = c.last_child-last.result; info = i }) c.read_info-word.new.seat.me.0.known.told) (sym c.info_of-info.ensures)
    (told_now c.last_child-last.new.place.me.0.known c.read_info-word.new.seat.me.0.known c.last_child-last.result c.read_info-word.result c.read_info-word.ensures.known))
    c.last_child-last.ensures.child.0 c.last_child-last.ensures.last

pub returns-clause-sent : goal.returns-clause-sent
returns-clause-sent c =
    let a : Known = c.args.place.now.me.0.known in
    let w = watches_info a c.last_child-last.new.place.me.0.known c.read_info-word.new.seat.me.0.known c.last_child-last.result c.read_info-word.result c.last_child-last.ensures.watches c.read_info-word.ensures.known in
    above_sent c.args.words.now.key a c.read_info-word.new.seat.me.0.known c.args.entry c.requires.idle c.requires.may w c.begin_give.new.seat.me.0.known c.link_last-found.new.seat.me.0.known c.last_child-last.result c.begin_give.result c.link_last-found.result c.info_of-info.result
    c.begin_give.ensures.known c.link_last-found.ensures.known c.send.result.items c.read_info-word.result c.send.ensures c.info_of-info.ensures c.link_last-found.ensures.sums.1
