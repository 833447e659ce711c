use Rattle.std.proofs.Common.{sym, subst, ℕ, arith, List}
use Rattle.atomic_table.specs.Table.{State, Splits}
use Rattle.oss_words.specs.Views.{Among}
use Rattle.oss_word_net.specs.declared.sight.Sight.{Sight}
use Rattle.oss_word_net.specs.Moves.{keeping, handed}
use Rattle.oss_word_net.specs.Table.{Stands}
use Rattle.oss_word_net.proofs.SeatLemmas.{splits}
use Rattle.oss_word_net.proofs.seats.split_by.Goals as goal

pub split_seat-requires : goal.split_seat-requires
split_seat-requires g c =
    let s : Sight = c.args.seat.now.me.0 in
    let n : ℕ = c.args.words.now.key in
    let hand : List ℕ = g.H.Handing.hand in
    let w = c.requires.on.words in (
      c.requires.on.table,
      omega (arith, w),
      subst (λ (i : ℕ). Splits (λ (z : State ℕ Sight). Stands n z.words z.views) i s (record { known = keeping hand s.known }) (record { known = handed hand s.known })) (sym c.requires.first)
          (splits n s hand c.requires.few c.requires.idle.0 c.requires.idle.1 (subst (λ (z : List ℕ). (e : ℕ) → Among e z → Among e s.known.view.owned) (sym c.requires.hand) c.requires.own)),
    )
