use Rattle.std.proofs.Common.{subst, ℕ}
use Rattle.std.specs.Slots.{slots_items}
use Rattle.atomic_table.specs.Table.{State, Final, Seen}
use Rattle.oss_word_net.specs.declared.sight.Sight.{Sight}
use Rattle.oss_word_net.specs.Table.{Stands}
use Rattle.oss_word_net.proofs.EndLemmas.{table_ends}
use Rattle.oss_word_net.proofs.closing.end_table.Goals as goal

pub returns : goal.returns
returns c =
    let k = c.args.place.me.0 in
    let ws = slots_items c.close_with-closed.result.words in
    let xs = slots_items c.close_with-closed.result.slots in
    let final = subst (λ (n : ℕ). Final (Seen (λ (t : State ℕ Sight). Stands n t.words t.views) c.args.place.id k) ws xs) c.requires.key.0 c.close_with-closed.ensures.values.2 in
    let first = subst (λ (id : ℕ). Final (Seen (λ (t : State ℕ Sight). Stands c.args.entries t.words t.views) id k) ws xs) c.requires.alone.0 final in
    table_ends c.args.entries k ws xs c.copy_words.new.words.items first c.requires.alone.1 c.requires.idle.0 c.requires.idle.1 c.requires.idle.2 c.copy_words.ensures.size c.copy_words.ensures.words
