-- State words and info words as numbers.
-- Read against: an entry with reads and clear, linked to its sibling 3 and with no child, has the state word 1 + 32 + 64 + 3 * 65536, which
-- is 196705; taken apart, 196705 gives these flags and next 3 again. A strong reduction by ^ of depth 2, below entry 1, of task 5, has the
-- info word 2 + 12 + 16 + 512 + 65536 + 5 * 2^40, which is 5497558204958.
use Rattle.std.specs.Prelude.{◌≡◌, ◌⊎◌, ◌<◌, ◌+◌, ◌*◌, ◌/◌, ◌%◌, ◌^◌, ◌==◌, ℕ, Bool, true, false, if◌then◌else◌}
use Rattle.oss_syntax.specs.declared.access.Mode.{Mode}
use Rattle.oss_syntax.specs.declared.access.Op.{Op}
use Rattle.oss_syntax.specs.declared.access.Op.TheVariants.{Add, And, Or, Xor}
use Rattle.oss_syntax.specs.declared.access.Mode.TheVariants.{Read, Write, Fold}
use Rattle.oss_words.specs.declared.entry.EntryState.{EntryState}
use Rattle.oss_words.specs.declared.entry.EntryInfo.{EntryInfo}
use Rattle.std.specs.Int.Bits.{bit_or}
use Rattle.oss_words.specs.Causes.{Sets}
use Rattle.oss_words.specs.Sums.{num}

-- The bit of this weight is set.
abbrev pub is_bit : ℕ → ℕ → Bool
is_bit w k = w / k % 2 == 1

-- The state word taken apart. Bits 0 to 12 are the flags, from 16 on stands the next link, and from 40 on the child link.
abbrev pub state_at : ℕ → EntryState
state_at w = record {
  reads = is_bit w 1;
  folds = is_bit w 2;
  writes = is_bit w 4;
  given = is_bit w 8;
  done = is_bit w 16;
  clear = is_bit w 32;
  linked = is_bit w 64;
  headed = is_bit w 128;
  left = is_bit w 256;
  next_folds = is_bit w 512;
  next_same = is_bit w 1024;
  child_folds = is_bit w 2048;
  child_same = is_bit w 4096;
  next = w / 65536 % 16777216;
  child = w / 1099511627776 % 16777216;
}

-- And put together.
abbrev pub low_bits : EntryState → ℕ
low_bits c = num c.reads + 2 * num c.folds + 4 * num c.writes + 8 * num c.given + 16 * num c.done + 32 * num c.clear + 64 * num c.linked + 128 * num c.headed + 256 * num c.left + 512 * num c.next_folds + 1024 * num c.next_same + 2048 * num c.child_folds + 4096 * num c.child_same

abbrev pub state_word : EntryState → ℕ
state_word c = low_bits c + 65536 * c.next + 1099511627776 * c.child

-- The links fit into the word.
pub record FitsWord (c : EntryState) : Type 0 where
  pub next : c.next < 16777216
  pub child : c.child < 16777216

-- A word of 64 bits in which the bits without a meaning are 0.
pub record IsStateWord (w : ℕ) : Type 0 where
  pub fits : w < 2 ^ 64
  pub unused : w / 8192 % 8 ≡ 0

abbrev pub op_at : ℕ → Op
op_at k = if k == 0 then Add else (if k == 1 then And else (if k == 2 then Or else Xor))

abbrev pub mode_at : ℕ → ℕ → Mode
mode_at k op = if k == 1 then Write else (if k == 2 then Fold (op_at op) else Read)

-- The info word taken apart: bits 0 and 1 are the mode, 2 and 3 the operator of a reduction, 4 strong, 8 to 14 the depth, from 16 on stands
-- the parent, and from 40 on the task.
abbrev pub info_at : ℕ → EntryInfo
info_at w = record {
  mode = mode_at (w % 4) (w / 4 % 4);
  strong = is_bit w 16;
  depth = w / 256 % 128;
  parent = w / 65536 % 16777216;
  task = w / 1099511627776 % 16777216;
}

abbrev pub op_number : Op → ℕ
op_number Add = 0
op_number And = 1
op_number Or = 2
op_number Xor = 3

-- Bits 0 to 3: 0 a read, 1 a write, 2 and four times the operator a reduction.
abbrev pub mode_number : Mode → ℕ
mode_number Read = 0
mode_number Write = 1
mode_number (Fold op) = 2 + 4 * op_number op

abbrev pub info_word : EntryInfo → ℕ
info_word i = mode_number i.mode + 16 * num i.strong + 256 * i.depth + 65536 * i.parent + 1099511627776 * i.task

pub record FitsInfo (i : EntryInfo) : Type 0 where
  pub depth : i.depth < 128
  pub parent : i.parent < 16777216
  pub task : i.task < 16777216

pub record IsInfoWord (w : ℕ) : Type 0 where
  pub fits : w < 2 ^ 64
  pub mode : (w % 4 ≡ 2) ⊎ ((w % 4 < 2) × (w / 4 % 4 ≡ 0))
  pub unused : (w / 32 % 8 ≡ 0) × (w / 32768 % 2 ≡ 0)

-- Both ways: no word is read as another state, and no state is read from two words.
abbrev pub StatesAreRead : Type 0
StatesAreRead = (c : EntryState) → FitsWord c → state_at (state_word c) ≡ c

abbrev pub StateWordsAreRead : Type 0
StateWordsAreRead = (w : ℕ) → IsStateWord w → state_word (state_at w) ≡ w

abbrev pub InfosAreRead : Type 0
InfosAreRead = (i : EntryInfo) → FitsInfo i → info_at (info_word i) ≡ i

abbrev pub InfoWordsAreRead : Type 0
InfoWordsAreRead = (w : ℕ) → IsInfoWord w → info_word (info_at w) ≡ w

-- What the flag of this number weighs in a state word.
abbrev pub weight : ℕ → ℕ
weight f = if f == 1 then 16 else (if f == 2 then 2 else (if f == 3 then 1 else (if f == 4 then 4 else 32)))

-- A delivery is one operation on the word: the bit of a flag that does not stand is set, and nothing else changes.
abbrev pub FlagsAreBits : Type 0
FlagsAreBits = (a c : EntryState) (f : ℕ) → FitsWord a → Sets a c f → bit_or (state_word a) (weight f) ≡ state_word c
