use Rattle.std.proofs.Common.{◌≡◌, ◌≤◌}
use Rattle.oss_field.specs.Standing.{slots_at_start}
use Rattle.oss_field.proofs.start.first_slots.Given as goal

abbrev pub invariant-loop : goal.invariant-loop
invariant-loop l = (1 ≤ l.counter) × (l.slots.items ≡ slots_at_start l.fn.job l.counter)
