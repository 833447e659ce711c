use Rattle.std.proofs.Common.{sym, ap, ◌∙◌, arith}
use Rattle.oss_word_net.specs.Known.{Known}
use Rattle.oss_word_net.proofs.NetLemmas.{join_settled}
use Rattle.oss_word_net.proofs.SeatLemmas.{joins}
use Rattle.oss_word_net.proofs.seats.merge.Goals as goal

pub join_seat-requires : goal.join_seat-requires
join_seat-requires c =
    let w = c.requires.on.0.words in (
      c.requires.on.0.table,
      c.requires.on.1.table,
      c.requires.on.1.bare,
      omega (arith, w),
      joins c.args.words.now.key c.args.seat.now.id c.args.seat.now.me.0 c.args.other.id c.args.other.me.0 c.requires.other c.requires.settled.0.idle.live c.requires.empty c.requires.idle.whole c.requires.idle.idle c.requires.settled.1,
    )

pub returns-clause-settled : goal.returns-clause-settled
returns-clause-settled c =
    let q = ap (λ m. m.0.known) c.join_seat.ensures.2 in (
      join_settled c.args._held.now.items c.args.seat.now.me.0.known c.join_seat.new.seat.me.0.known c.args.other.me.0.known c.requires.settled.0 (c.requires.idle.size ∙ sym c.requires.settled.1)
          (λ e m. let l = c.requires.idle.owned e m in let s = c.requires.idle.size in omega (arith, l, s)) q,
      ap (λ (k : Known). k.entries) q,
    )
