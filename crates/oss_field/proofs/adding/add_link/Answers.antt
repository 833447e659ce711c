use Rattle.std.proofs.Common.{◌+◌, ◌%◌, ◌^◌}
use Rattle.oss_field.proofs.SpentLemmas.{allowed}
use Rattle.oss_field.proofs.adding.add_link.Goals as goal

pub fetch_add-requires : goal.fetch_add-requires
fetch_add-requires g c =
    let key = c.args.words.now.key in
    let me = c.args.seat.now.me in (
      c.requires.table,
      c.requires.inside,
      allowed key.code.value key.fuel key.entries c.args.words.now.table_id.slots c.args.seat.now.id c.args.word me (λ n. (n + c.args.by) % 2 ^ 64) (λ n l. g.T.Tells.tells n me.0.known l) c.requires.live c.requires.keeps,
    )
