use Rattle.std.specs.Prelude.{bit_xor}
use Rattle.oss_field.proofs.SpentLemmas.{allowed}
use Rattle.oss_field.proofs.combining.fold_xor.Goals as goal

pub fetch_xor-requires : goal.fetch_xor-requires
fetch_xor-requires g c =
    let key = c.args.words.now.key in
    let me = c.args.seat.now.me in (
      c.requires.table,
      c.requires.inside,
      allowed key.code.value key.fuel key.entries c.args.words.now.table_id.slots c.args.seat.now.id c.args.word me (λ n. bit_xor n c.args.value) (λ n l. g.T.Tells.tells n me.0.known l) c.requires.live c.requires.keeps,
    )
