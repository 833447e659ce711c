use Rattle.std.proofs.Common.{sym, subst, ℕ, arith}
use Rattle.atomic_table.specs.Table.{State, Splits}
use Rattle.oss_field.specs.declared.view.SeatView.{SeatView}
use Rattle.oss_field.specs.Seats.{new_known, parted}
use Rattle.oss_field.specs.Spent.{Rules}
use Rattle.oss_field.specs.Table.{Slot}
use Rattle.oss_field.proofs.SeatLemmas.{splits}
use Rattle.oss_field.proofs.SpentLemmas.{parts_stay}
use Rattle.oss_field.proofs.seats.part.Goals as goal

pub split_seat-requires : goal.split_seat-requires
split_seat-requires c =
    let key = c.args.words.now.key in
    let v : SeatView = c.args.seat.now.me.0 in
    let w = c.requires.on.words in (
      c.requires.on.table,
      omega (arith, w),
      subst (λ (i : ℕ). Splits (λ (z : State Slot SeatView). Rules key.code.value key.fuel key.entries z.words z.homes z.views) i v (record { known = parted v.known }) (record { known = new_known })) (sym c.requires.first.0)
          (parts_stay key.code.value key.fuel key.entries v c.requires.first.1 (splits key.code.value key.fuel key.entries v c.requires.first.1 c.requires.few)),
    )
