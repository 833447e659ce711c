use Rattle.oss_field.proofs.SpentLemmas.{lives}
use Rattle.oss_field.proofs.making_words.hold_word.Goals as goal

pub store-requires : goal.store-requires
store-requires g c =
    let key = c.args.words.now.key in
    let me = c.args.seat.now.me in (
      c.requires.table,
      c.requires.inside,
      lives key.code.value key.fuel key.entries c.args.words.now.table_id.slots c.args.seat.now.id c.args.word me (λ _. c.args.value) (λ _ w. g.T.TellsSlots.tells c.args.value me w) c.requires.live c.requires.keeps,
    )
