use Rattle.std.proofs.Common.{sym, subst, ◌∙◌, ap, List}
use Rattle.oss_words.specs.Views.{Among, Hung}
use Rattle.oss_words.specs.declared.entry.EntryInfo.{EntryInfo}
use Rattle.oss_word_net.specs.Asks.{by_link}
use Rattle.oss_word_net.specs.Known.{Known}
use Rattle.oss_word_net.proofs.FamilyLemmas.{watches_none, watches_more}
use Rattle.oss_word_net.proofs.ReleaseLemmas.{watches_info, told_now, released_from, whole_released, whole_sent}
use Rattle.oss_word_net.proofs.giving.give_up.Goals as goal

pub returns-then-state-clause-released : goal.returns-then-state-clause-released
returns-then-state-clause-released c =
    let a : Known = c.args.place.now.me.0.known in
    released_from a c.read_state.new.seat.me.0.known c.give_above.new.place.me.0.known c.args.entry (watches_more a a c.read_state.new.seat.me.0.known c.args.entry c.read_state.result (watches_none a) c.read_state.ensures.known) c.give_above.ensures.released

pub read_info-word-requires-clause-hangs : goal.read_info-word-requires-clause-hangs
read_info-word-requires-clause-hangs c = by_link c.requires.may.linked.0 (subst (λ (z : List Hung). Among (record { entry = c.args.entry; place = c.requires.may.linked.0 }) z) (sym (ap (λ (k : Known). k.view.links) c.read_state.ensures.known)) c.requires.may.linked.1)

pub give_whole-found-requires-clause-told : goal.give_whole-found-requires-clause-told
give_whole-found-requires-clause-told c =
    subst (λ (i : EntryInfo). Among (record { entry = c.args.entry; info = i }) c.read_info-word.new.seat.me.0.known.told) (sym c.info_of-info.ensures)
    (told_now c.read_state.new.seat.me.0.known c.read_info-word.new.seat.me.0.known c.args.entry c.read_info-word.result c.read_info-word.ensures.known)

pub returns-clause-released : goal.returns-clause-released
returns-clause-released c =
    let a : Known = c.args.place.now.me.0.known in
    let w = watches_info a c.read_state.new.seat.me.0.known c.read_info-word.new.seat.me.0.known c.args.entry c.read_info-word.result (watches_more a a c.read_state.new.seat.me.0.known c.args.entry c.read_state.result (watches_none a) c.read_state.ensures.known) c.read_info-word.ensures.known in
    whole_released c.args.words.now.key a c.read_info-word.new.seat.me.0.known c.args.entry c.requires.idle c.requires.may w c.give_whole-found.new.seat.me.0.known c.give_whole-found.result c.info_of-info.result c.give_whole-found.ensures.known
    (subst (λ (i : EntryInfo). Among (record { entry = c.args.entry; info = i }) c.read_info-word.new.seat.me.0.known.told) (sym c.info_of-info.ensures)
    (told_now c.read_state.new.seat.me.0.known c.read_info-word.new.seat.me.0.known c.args.entry c.read_info-word.result c.read_info-word.ensures.known))
    (c.read_state.ensures.family.unheaded c.requires.may.own (sym (ap (λ s. s.headed) c.state_of-state.ensures) ∙ c.if-state.false))

pub returns-clause-sent : goal.returns-clause-sent
returns-clause-sent c = whole_sent c.read_info-word.new.seat.me.0.known c.give_whole-found.new.seat.me.0.known c.args.entry c.give_whole-found.result c.read_info-word.result c.info_of-info.result c.send.result.items c.send.ensures c.info_of-info.ensures c.give_whole-found.ensures.sums.1 c.give_whole-found.ensures.known
