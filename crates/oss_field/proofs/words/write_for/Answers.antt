use Rattle.oss_field.proofs.SpentLemmas.{allowed}
use Rattle.oss_field.proofs.words.write_for.Goals as goal

pub store-requires : goal.store-requires
store-requires g c =
    let key = c.args.words.now.key in
    let me = c.args.seat.now.me in (
      c.requires.table,
      c.requires.inside,
      allowed key.code.value key.fuel key.entries c.args.words.now.table_id.slots c.args.seat.now.id c.args.word me (λ n. c.args.value) (λ n l. g.T.Tells.tells c.args.value me.0.known l) c.requires.live c.requires.keeps,
    )
