use Rattle.std.proofs.Common.{arith}
use Rattle.oss_field.proofs.JoinLemmas.{joins}
use Rattle.oss_field.proofs.SpentLemmas.{parts_go}
use Rattle.oss_field.proofs.seats.merge.Goals as goal

pub join_seat-requires : goal.join_seat-requires
join_seat-requires c =
    let key = c.args.words.now.key in
    let w = c.requires.on.0.words in (
      c.requires.on.0.table,
      c.requires.on.1.table,
      c.requires.slots,
      omega (arith, w),
      parts_go key.code.value key.fuel key.entries c.args.seat.now.id c.args.seat.now.me.0 c.args.other.id c.args.other.me.0 c.requires.on.0.live
          (joins key.code.value key.fuel key.entries c.args.seat.now.id c.args.seat.now.me.0 c.args.other.id c.args.other.me.0 c.requires.idle),
    )
