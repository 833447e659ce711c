-- The number of each status, with which a call of the program ends.
-- Read against: a check that accepts its file and a program that ran to its end are 0, a program that ran into a fault is 1, words
-- that are no command are 2, and a schedule with a move that is not enabled is 7.
use Rattle.std.specs.Prelude.{ℕ}
use Rattle.oss_top.specs.declared.status.Status.{Status}
use Rattle.oss_top.specs.declared.status.Status.TheVariants as status

abbrev pub number_of : Status → ℕ
number_of status.Done = 0
number_of status.Fault = 1
number_of status.WordsRefused = 2
number_of status.TextRefused = 3
number_of status.Unread = 4
number_of status.Unwritten = 5
number_of status.OutOfMemory = 6
number_of status.NotReplayed = 7
