-- What contracts see of a sink in memory.
use Rattle.std.specs.Prelude.{ℕ, ◌-◌, min, ◌==◌, if◌then◌else◌, List, Result, Ok, Err, length}
use Rattle.oss_io.specs.Plan.{is_planned}
use Rattle.oss_io.specs.declared.sink.SinkFault.{SinkFault}
use Rattle.oss_io.specs.declared.sink.SinkFault.TheVariants.{Failed}

-- the bytes that were taken; how many it has room for; the most that one call takes; the calls that are to fail; how
-- many calls there were; and the count of faults
pub record SinkView : Type 0 where
  pub bytes : List ℕ
  pub room : ℕ
  pub piece : ℕ
  pub planned : List ℕ
  pub calls : ℕ
  pub faults : ℕ

-- how many bytes the next write takes of a piece of this length, if it does not fail by plan
abbrev pub count_of : SinkView → ℕ → ℕ
count_of sink len = min (min len sink.piece) (sink.room - length sink.bytes)

-- what the next write answers to a piece
abbrev pub answer_of : SinkView → List ℕ → Result ℕ SinkFault
answer_of sink bytes =
    if length bytes == 0 then Ok 0
    else if count_of sink (length bytes) == 0 then Err Failed
    else if is_planned sink.planned sink.calls then Err Failed
    else Ok (count_of sink (length bytes))
