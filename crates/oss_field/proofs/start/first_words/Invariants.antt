use Rattle.std.proofs.Common.{◌≡◌, ◌≤◌}
use Rattle.oss_field.specs.Standing.{words_at_start}
use Rattle.oss_field.proofs.start.first_words.Given as goal

abbrev pub invariant-loop : goal.invariant-loop
invariant-loop l = (1 ≤ l.counter) × (l.words.items ≡ words_at_start l.fn.cells l.counter)
