use Rattle.std.proofs.Common.{sym, subst, ℕ}
use Rattle.std.specs.Slots.{slots_items}
use Rattle.oss_words.specs.Bits.{state_at}
use Rattle.oss_word_net.specs.Known.{Rests}
use Rattle.oss_word_net.proofs.CloseLemmas.{closed_rests}
use Rattle.oss_word_net.proofs.closing.close_table.Goals as goal

pub returns-clause-rests : goal.returns-clause-rests
returns-clause-rests c e inside =
    let k = c.args.place.me.0 in
    subst (λ (w : ℕ). Rests k.known e (state_at w)) (sym (c.copy_states.ensures.words e inside))
    (closed_rests c.args.table.shared.key c.args.place.id k (slots_items c.close_with-closed.result.words) (slots_items c.close_with-closed.result.slots) c.close_with-closed.ensures.values.2 c.requires.all.0 c.requires.all.1 c.requires.all.2 e)
