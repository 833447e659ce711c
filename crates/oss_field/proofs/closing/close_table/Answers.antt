use Rattle.std.proofs.Common.{sym, subst, List, ℕ}
use Rattle.std.specs.Slots.{slots_items}
use Rattle.oss_field.specs.Spent.{IsApart}
use Rattle.oss_field.specs.Table.{Slot}
use Rattle.oss_field.proofs.ApartLemmas.{apart}
use Rattle.oss_field.proofs.closing.close_table.Goals as goal

pub returns : goal.returns
returns c =
    let key = c.args.table.shared.key in
    let closed = c.close_with-closed.result in
    record {
      apart =
          subst (λ (z : List ℕ). IsApart key.code.value key.fuel key.entries z c.move_jobs.new.slots.items) (sym c.move_words.ensures.words)
          (subst (λ (z : List Slot). IsApart key.code.value key.fuel key.entries (slots_items closed.words) z) (sym c.move_jobs.ensures.slots)
          (apart key.code.value key.fuel key.entries c.args.place.id c.args.place.me.0 (slots_items closed.words) (slots_items closed.slots) c.close_with-closed.ensures.values.2 c.requires.few.0 c.requires.few.1 c.requires.all.0 c.requires.all.1));
    }
