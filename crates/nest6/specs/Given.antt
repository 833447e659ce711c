-- The words of a call, the name of the program first: those of the command line where they were read; none, so that they are refused,
-- where a word is not UTF-8 or the command line cannot be had; and nothing at all where memory was wanting.
-- Read against: of `nest6 run a.c` they are `nest6`, `run` and `a.c`; of `nest6 run` and a byte 255 there are none, and the status
-- is 2.
use Rattle.std.specs.Prelude.{◌≡◌, ◌≢◌, [], Option, Some, None, Result, Ok, Err}
use Rattle.std.specs.Prelude.{String}
use Rattle.std.specs.Global.{Global, Vec}
use Rattle.std.specs.IoError.{error_kind}
use Rattle.std.specs.declared.io.Error.{Error}
use Rattle.std.specs.declared.io.ErrorKind.TheVariants.{OutOfMemory}

abbrev pub IsGiven : Result (Vec (String Global)) Error → Option (Vec (String Global)) → Type 0
IsGiven (Ok words) (Some given) = given ≡ words
IsGiven (Ok words) None = ⊥
IsGiven (Err e) (Some given) = (error_kind e ≢ OutOfMemory) × (given.items ≡ [])
IsGiven (Err e) None = error_kind e ≡ OutOfMemory
