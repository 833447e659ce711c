use Rattle.std.proofs.Common.{sym, subst, ◌∙◌}
use Rattle.oss_words.specs.declared.entry.EntryInfo.{EntryInfo}
use Rattle.oss_words.specs.Bits.{info_at}
use Rattle.oss_words.specs.Net.{after}
use Rattle.oss_word_net.specs.Asks.{by_told, MayFollow}
use Rattle.oss_word_net.specs.Moves.{filled_info, linked_at, next_mask}
use Rattle.oss_word_net.proofs.CallLemmas.{next_link, next_follow, next_hung, link_sent}
use Rattle.oss_word_net.proofs.linking.extend_list.Goals as goal

pub read_info-word-requires-clause-hangs : goal.read_info-word-requires-clause-hangs
read_info-word-requires-clause-hangs c = by_told c.requires.may.stands.0 c.requires.may.stands.1

pub link_behind-found-requires-clause-may : goal.link_behind-found-requires-clause-may
link_behind-found-requires-clause-may c = next_link c.args.words.now.key c.args.place.now.me.0.known c.args.entry c.read_info-word.result c.args.sibling c.args.info.now c.requires.may c.requires.idle c.read_info-word.ensures.again
    c.fill_info.new.seat.me.0.known (c.fill_info.ensures.known ∙ (λ k. filled_info c.args.entry (c.word_of_info.ensures k) (c.read_info-word.ensures.known k)))

pub link_behind-found-requires-clause-how : goal.link_behind-found-requires-clause-how
link_behind-found-requires-clause-how c = subst (λ (z : EntryInfo). MayFollow c.fill_info.new.seat.me.0.known c.args.entry c.args.info.now c.args.sibling z) (sym c.info_of-before.ensures)
    (next_follow c.args.words.now.key c.args.place.now.me.0.known c.args.entry c.read_info-word.result c.args.sibling c.args.info.now c.requires.may c.requires.idle c.read_info-word.ensures.again
    c.fill_info.new.seat.me.0.known (c.fill_info.ensures.known ∙ (λ k. filled_info c.args.entry (c.word_of_info.ensures k) (c.read_info-word.ensures.known k))))

pub returns-clause-hung : goal.returns-clause-hung
returns-clause-hung c = next_hung c.args.words.now.key c.args.place.now.me.0.known c.args.entry c.read_info-word.result c.args.sibling c.args.info.now c.requires.may c.requires.idle c.read_info-word.ensures.again
    c.link_behind-found.new.seat.me.0.known c.link_behind-found.result
    (c.link_behind-found.ensures.known
    ∙ (λ k. linked_at c.args.entry c.args.info.now (after c.args.sibling) c.args.sibling (c.info_of-before.ensures k) (next_mask c.args.entry (c.info_of-before.ensures k).mode c.args.info.now.mode) c.link_behind-found.result (c.fill_info.ensures.known k))
    ∙ (λ k. linked_at c.args.entry c.args.info.now (after c.args.sibling) c.args.sibling (info_at c.read_info-word.result) (next_mask c.args.entry (info_at c.read_info-word.result).mode c.args.info.now.mode) c.link_behind-found.result (filled_info c.args.entry (c.word_of_info.ensures k) (c.read_info-word.ensures.known k))))

pub returns-clause-sent : goal.returns-clause-sent
returns-clause-sent c = link_sent c.fill_info.new.seat.me.0.known c.link_behind-found.new.seat.me.0.known c.send.result.items c.args.entry c.args.sibling c.link_behind-found.result c.mask_of_next.result (next_mask c.args.entry c.info_of-before.result.mode c.args.info.now.mode) c.read_info-word.result c.args.info.now c.info_of-before.result (after c.args.sibling)
    c.send.ensures c.mask_of_next.ensures c.info_of-before.ensures c.link_behind-found.ensures.sums.1 c.link_behind-found.ensures.known
