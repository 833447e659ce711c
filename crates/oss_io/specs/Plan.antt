-- Planned failures: the calls of a shelf or a sink in memory are counted from 1, and some of them are to fail.
use Rattle.std.specs.Prelude.{ℕ, ◌+◌, ◌-◌, ◌^◌, min, Bool, ◌==◌, List}
use Rattle.std.specs.List.{list_any}

-- the number of the next call, after this many; it stops at the last number
abbrev pub next_call : ℕ → ℕ
next_call calls = min (calls + 1) (2 ^ 32 - 1)

-- the next call, after this many, is among those that are to fail
abbrev pub is_planned : List ℕ → ℕ → Bool
is_planned planned calls = list_any (λ call. call == next_call calls) planned
