-- What contracts see of a shelf in memory.
use Rattle.std.specs.Prelude.{ℕ, ◌+◌, ◌-◌, ◌^◌, min, if◌then◌else◌, List, Option, None, Some, option_map, find, Result, Ok, Err, length, nat_lt}
use Rattle.std.specs.Str.{bytes_eq}
use Rattle.oss_io.specs.Plan.{next_call, is_planned}
use Rattle.oss_io.specs.declared.shelf.ShelfFault.{ShelfFault}
use Rattle.oss_io.specs.declared.shelf.ShelfFault.TheVariants.{Failed, TooLong}

-- names with their bytes, the last put first; the calls that are to fail; how many calls there were; the count of
-- faults; and the name of the last fault
pub record ShelfView : Type 0 where
  pub files : List (List ℕ × List ℕ)
  pub planned : List ℕ
  pub calls : ℕ
  pub faults : ℕ
  pub last : List ℕ

-- the bytes that were last put under a name
abbrev pub bytes_under : List (List ℕ × List ℕ) → List ℕ → Option (List ℕ)
bytes_under files name = option_map (λ file. file.1) (find (λ file. bytes_eq file.0 name) files)

-- what a read under a limit answers to the bytes of a name
abbrev pub answer_to : Option (List ℕ) → ℕ → Result Unit ShelfFault
answer_to None limit = Err Failed
answer_to (Some bytes) limit = if nat_lt limit (length bytes) then Err TooLong else Ok tt

-- what the next read of a name answers where memory is there
abbrev pub answer_of : ShelfView → List ℕ → ℕ → Result Unit ShelfFault
answer_of shelf name limit =
    if is_planned shelf.planned shelf.calls then Err Failed else answer_to (bytes_under shelf.files name) limit

-- the shelf after a call that failed on a name
abbrev pub after_fault : ShelfView → List ℕ → ShelfView
after_fault shelf name = record shelf {
  calls = next_call shelf.calls;
  faults = min (shelf.faults + 1) (2 ^ 64 - 1);
  last = name;
}
