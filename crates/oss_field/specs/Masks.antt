-- What a link adds to the state word of the entry from which it leads: the flag that it is set, what is told beside it of the entry to which it leads, and that entry's number.
-- Read against: entry 12 is linked behind 8. If 12 is a read, 64 + 65536 * 12 is added to the state word of 8, which is 786496. If both are reductions by +, it is 1536 more: 512, since
-- 12 is a reduction, and 1024, since it is the one that 8 is.
use Rattle.std.specs.Prelude.{◌+◌, ◌*◌, ℕ, Bool, ◌==◌, ◌&&◌}
use Rattle.oss_syntax.specs.declared.access.Mode.{Mode}
use Rattle.oss_words.specs.Bits.{mode_number}
use Rattle.oss_words.specs.Causes.{is_fold}
use Rattle.oss_words.specs.Sums.{num}

-- The second mode is the reduction that the first is.
abbrev pub same_fold : Mode → Mode → Bool
same_fold a b = is_fold b && (mode_number a == mode_number b)

-- What is added for a link from an entry of mode a to the entry e of mode b, which goes behind it; and for one to its first child.
abbrev pub next_mask : ℕ → Mode → Mode → ℕ
next_mask e a b = 64 + 512 * num (is_fold b) + 1024 * num (same_fold a b) + 65536 * e

abbrev pub child_mask : ℕ → Mode → Mode → ℕ
child_mask e a b = 128 + 2048 * num (is_fold b) + 4096 * num (same_fold a b) + 1099511627776 * e
