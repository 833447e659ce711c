use Rattle.std.proofs.Common.{◌==◌}
use prog.Atomic.{either}
use Rattle.oss_field.proofs.SpentLemmas.{lives}
use Rattle.oss_field.proofs.words.exchange_word.Goals as goal

pub compare_exchange-requires : goal.compare_exchange-requires
compare_exchange-requires g c =
    let key = c.args.words.now.key in
    let me = c.args.seat.now.me in (
      c.requires.table,
      c.requires.inside,
      lives key.code.value key.fuel key.entries c.args.words.now.table_id.slots c.args.seat.now.id c.args.word me (λ n. either (n == c.args.old) c.args.new n) (λ n w. g.T.TellsSlots.tells n me w) c.requires.live c.requires.keeps,
    )
