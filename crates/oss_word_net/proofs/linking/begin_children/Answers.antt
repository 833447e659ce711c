use Rattle.std.proofs.Common.{sym, subst, ◌∙◌, ap}
use Rattle.oss_words.specs.declared.entry.EntryInfo.{EntryInfo}
use Rattle.oss_words.specs.Bits.{info_at}
use Rattle.oss_words.specs.Net.{first}
use Rattle.oss_word_net.specs.Asks.{by_told, MayHead}
use Rattle.oss_word_net.specs.Known.{Known}
use Rattle.oss_word_net.specs.Moves.{filled_info, filled_state, linked_at, child_mask}
use Rattle.oss_word_net.proofs.CallLemmas.{child_start, child_link, child_head, child_hung, linked_idle, link_sent}
use Rattle.oss_word_net.proofs.linking.begin_children.Goals as goal

pub read_info-word-requires-clause-hangs : goal.read_info-word-requires-clause-hangs
read_info-word-requires-clause-hangs c = by_told c.requires.may.stands.1 c.requires.may.stands.2

pub fill_state-requires-clause-may : goal.fill_state-requires-clause-may
fill_state-requires-clause-may c = child_start c.args.words.now.key c.args.place.now.me.0.known c.args.entry c.read_info-word.result c.args.info.now c.requires.may c.requires.idle c.read_info-word.ensures.again
    c.fill_info.new.seat.me.0.known (c.fill_info.ensures.known ∙ (λ k. filled_info c.args.entry (c.word_of_info.ensures k) (c.read_info-word.ensures.known k)))

pub link_below-found-requires-clause-may : goal.link_below-found-requires-clause-may
link_below-found-requires-clause-may c = child_link c.args.words.now.key c.args.place.now.me.0.known c.args.entry c.read_info-word.result c.args.info.now c.requires.may c.requires.idle c.read_info-word.ensures.again
    c.fill_state.new.seat.me.0.known (c.fill_state.ensures.known ∙ (λ k. filled_state c.args.entry 32 c.args.info.now (c.fill_info.ensures.known k)) ∙ (λ k. filled_state c.args.entry 32 c.args.info.now (filled_info c.args.entry (c.word_of_info.ensures k) (c.read_info-word.ensures.known k))))

pub link_below-found-requires-clause-how : goal.link_below-found-requires-clause-how
link_below-found-requires-clause-how c = subst (λ (z : EntryInfo). MayHead c.fill_state.new.seat.me.0.known c.args.info.now z) (sym c.info_of-above.ensures)
    (child_head c.args.words.now.key c.args.place.now.me.0.known c.args.entry c.read_info-word.result c.args.info.now c.requires.may c.requires.idle c.read_info-word.ensures.again
    c.fill_state.new.seat.me.0.known (c.fill_state.ensures.known ∙ (λ k. filled_state c.args.entry 32 c.args.info.now (c.fill_info.ensures.known k)) ∙ (λ k. filled_state c.args.entry 32 c.args.info.now (filled_info c.args.entry (c.word_of_info.ensures k) (c.read_info-word.ensures.known k)))))

pub returns-clause-idle : goal.returns-clause-idle
returns-clause-idle c =
    let q = c.fill_state.ensures.known ∙ (λ k. filled_state c.args.entry 32 c.args.info.now (c.fill_info.ensures.known k)) ∙ (λ k. filled_state c.args.entry 32 c.args.info.now (filled_info c.args.entry c.word_of_info.result (c.read_info-word.ensures.known k))) in
    linked_idle c.args.words.now.key c.args.place.now.me.0.known c.fill_state.new.seat.me.0.known c.link_below-found.new.seat.me.0.known c.args.entry c.args.info.now.parent (child_mask c.args.entry c.info_of-above.result.mode c.args.info.now.mode) c.link_below-found.result c.args.info.now c.info_of-above.result (first c.args.info.now.parent)
    c.requires.idle (ap (λ (z : Known). z.view.half) q) (ap (λ (z : Known). z.view.parts) q) (ap (λ (z : Known). z.view.owned) q) (ap (λ (z : Known). z.entries) q) c.link_below-found.ensures.known c.link_below-found.ensures.bounded

pub returns-clause-hung : goal.returns-clause-hung
returns-clause-hung c = child_hung c.args.words.now.key c.args.place.now.me.0.known c.args.entry c.read_info-word.result c.args.info.now c.requires.may c.requires.idle c.read_info-word.ensures.again
    c.link_below-found.new.seat.me.0.known c.link_below-found.result
    (c.link_below-found.ensures.known
    ∙ (λ k. linked_at c.args.entry c.args.info.now (first c.args.info.now.parent) c.args.info.now.parent (c.info_of-above.ensures k) (child_mask c.args.entry (c.info_of-above.ensures k).mode c.args.info.now.mode) c.link_below-found.result (c.fill_state.ensures.known k))
    ∙ (λ k. linked_at c.args.entry c.args.info.now (first c.args.info.now.parent) c.args.info.now.parent (info_at c.read_info-word.result) (child_mask c.args.entry (info_at c.read_info-word.result).mode c.args.info.now.mode) c.link_below-found.result (filled_state c.args.entry 32 c.args.info.now (c.fill_info.ensures.known k)))
    ∙ (λ k. linked_at c.args.entry c.args.info.now (first c.args.info.now.parent) c.args.info.now.parent (info_at c.read_info-word.result) (child_mask c.args.entry (info_at c.read_info-word.result).mode c.args.info.now.mode) c.link_below-found.result (filled_state c.args.entry 32 c.args.info.now (filled_info c.args.entry (c.word_of_info.ensures k) (c.read_info-word.ensures.known k)))))

pub returns-clause-sent : goal.returns-clause-sent
returns-clause-sent c = link_sent c.fill_state.new.seat.me.0.known c.link_below-found.new.seat.me.0.known c.send.result.items c.args.entry c.args.info.now.parent c.link_below-found.result c.mask_of_child.result (child_mask c.args.entry c.info_of-above.result.mode c.args.info.now.mode) c.read_info-word.result c.args.info.now c.info_of-above.result (first c.args.info.now.parent)
    c.send.ensures c.mask_of_child.ensures c.info_of-above.ensures c.link_below-found.ensures.sums.1 c.link_below-found.ensures.known
