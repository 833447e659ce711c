use Rattle.std.proofs.Common.{◌≡◌, ◌<◌, map, length, All}
use Rattle.oss_crew.proofs.crew.enter.Given as goal

-- a worker for each seat so far, each with a number below how many there are
abbrev pub invariant-loop-seat : goal.invariant-loop-seat
invariant-loop-seat g l = record {
  seats : map (λ w. w.seat) l.workers.items ≡ l.yielded;
  numbers : All (λ w. w.number < length l.workers.items) l.workers.items;
}
