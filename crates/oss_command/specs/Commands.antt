-- The words of the command line, behind the name of the program: a command, its operands and its options, in any order behind the command. A word that begins
-- with `--` is an option; an operand is not empty and does not begin with `-`. What is not listed for the command is refused, and so is an option that stands
-- twice, by its name, or whose value is out of form.
-- Read against: no words, `run`, `run a.c b.c`, `run -a`, `run a.c --fuel=0`, `run a.c --fuel=01`, `run a.c --fuel=5 --fuel=5`, `run a.c --dump=1`, and `check a.c --fuel=5` are
-- refused; `run --dump a.c --workers=64` asks to run the file `a.c` by waves with a dump, 64 workers and fuel for 1,000,000 ticks a task. `run a.c --deps=plain` and
-- `run a.c --mode=serial` are runs by waves, over the plain lists, and one task after the other; both options together are refused, and so is `run a.c --deps=lists`.
-- `trace a.c --deps=words` and `soak 7 9 --deps=words` are by waves, over words, and `soak 7 9 --mode=serial --deps=words` is refused.
-- `run a.c --mode=workers --workers=1 --who --order` is a run by one worker, with lines that tell which worker began each task, and in which order they began. `run a.c --mode=workers` and
-- `run a.c --mode=workers --workers=2` are refused, since more workers are not built yet, and so are `run a.c --who`, `run a.c --order --workers=1` and
-- `run a.c --mode=workers --workers=1 --deps=plain`.
-- And: `replay a.c s.txt` asks to replay the schedule in the file `s.txt` on the program in `a.c`, with fuel for 1,000,000 ticks a task, and `replay --fuel=5 a.c s.txt` with fuel for 5;
-- `replay a.c`, `replay a.c s.txt t.txt`, `replay a.c s.txt --dump` and `replay a.c --fuel=0 s.txt` are refused.
-- And: `trace a.c --fuel=5` asks for the trace of the run by waves of `a.c`, and `trace a.c --mode=waves`, `trace a.c --dump` and `trace a.c --workers=4` are refused. `soak 7 9` asks
-- to run the generated program from 7 on with 9 tasks; `soak 18446744073709551615 9000 --mode=serial` is one too, and `soak 7`, `soak 07 9`, `soak 7 0`, `soak 7 9001`, `soak 7 9 --fuel=5`
-- and `soak 18446744073709551616 9` are refused.
-- And: `audit a.c` asks for what the tasks of the program in `a.c` name and never touch, with fuel for 1,000,000 ticks a task, and `audit --fuel=5 a.c` with fuel for 5; `audit`, `audit a.c b.c`,
-- `audit a.c --dump` and `audit a.c --fuel=0` are refused. `span`, `explain`, `graph` and `missing` take the same words: `span a.c` asks how parallel the program in `a.c` can be at best, `explain a.c` for
-- the explanation of its fault, `graph a.c` for the graph of its tasks, and `missing a.c` for all that its clauses lack.
use Rattle.std.specs.Prelude.{◌≡◌, ◌<◌, ℕ, Bool, true, false, not, ◌&&◌, ◌||◌, ◌==◌, if◌then◌else◌, nat_le, List, [], ◌∷◌, ◌++◌, length, take, drop, Option, Some, None, Result, Ok, Err, codes, option_map}
use Rattle.std.specs.Str.{bytes_eq}
use Rattle.oss_sched.specs.Reading.{number_in}
use Rattle.oss_command.specs.declared.options.Options.{Options}
use Rattle.oss_command.specs.declared.options.RunMode.{RunMode}
use Rattle.oss_command.specs.declared.options.RunMode.TheVariants as mode
use Rattle.oss_command.specs.declared.options.DepsKind.{DepsKind}
use Rattle.oss_command.specs.declared.options.DepsKind.TheVariants as deps
use Rattle.oss_command.specs.declared.command.Command.{Command as Told}
use Rattle.oss_command.specs.declared.command.Command.TheVariants as told
use Rattle.oss_command.specs.declared.command.WordsRefused.{WordsRefused}

-- What is asked for, of the program in the file of this name. A replay is of the schedule in a second file, and each task in it has so much fuel. A soak is a run of a program without a
-- file: the generated one from a number on, of so many tasks. An audit is what its tasks name and never touch, a span how parallel it can be at best, to explain it is to tell why it comes to
-- its fault, its graph has its tasks and what they wait for, and what is missing is all that its clauses lack, where each task has so much fuel.
pub data Command : Type 0 where
  run : (file : List ℕ) (options : Options) → Command
  check : (file : List ℕ) → Command
  trace : (file : List ℕ) (options : Options) → Command
  replay : (file schedule : List ℕ) (fuel : ℕ) → Command
  soak : (number size : ℕ) (options : Options) → Command
  audit : (file : List ℕ) (fuel : ℕ) → Command
  span : (file : List ℕ) (fuel : ℕ) → Command
  explain : (file : List ℕ) (fuel : ℕ) → Command
  graph : (file : List ℕ) (fuel : ℕ) → Command
  missing : (file : List ℕ) (fuel : ℕ) → Command

-- the name of the file with its program, where it has one
abbrev pub file_of : Command → Option (List ℕ)
file_of (run file options) = Some file
file_of (check file) = Some file
file_of (trace file options) = Some file
file_of (replay file schedule fuel) = Some file
file_of (soak number size options) = None
file_of (audit file fuel) = Some file
file_of (span file fuel) = Some file
file_of (explain file fuel) = Some file
file_of (graph file fuel) = Some file
file_of (missing file fuel) = Some file

-- the name of the file with its schedule, where it has one
abbrev pub schedule_of : Command → Option (List ℕ)
schedule_of (run file options) = None
schedule_of (check file) = None
schedule_of (trace file options) = None
schedule_of (replay file schedule fuel) = Some schedule
schedule_of (soak number size options) = None
schedule_of (audit file fuel) = None
schedule_of (span file fuel) = None
schedule_of (explain file fuel) = None
schedule_of (graph file fuel) = None
schedule_of (missing file fuel) = None

-- Operands

-- a word that may be an operand
abbrev pub is_operand : List ℕ → Bool
is_operand [] = false
is_operand (b ∷ more) = not (b == 45)

-- the operands among words
abbrev pub operands_in : List (List ℕ) → List (List ℕ)
operands_in [] = []
operands_in (w ∷ ws) = if is_operand w then w ∷ operands_in ws else operands_in ws

-- the one word of a list that has one
abbrev pub the_one : List (List ℕ) → Option (List ℕ)
the_one (w ∷ []) = Some w
the_one _ = None

-- the two words of a list that has two, in their order
abbrev pub the_two : List (List ℕ) → Option (List ℕ × List ℕ)
the_two (v ∷ w ∷ []) = Some (v, w)
the_two _ = None

-- Options

-- what stands behind this front of a word, where it begins so: behind `--fuel=` in `--fuel=5` stands `5`
abbrev pub behind : List ℕ → List ℕ → Option (List ℕ)
behind front word = if nat_le (length front) (length word) && bytes_eq (take (length front) word) front then Some (drop (length front) word) else None

-- a word begins so
abbrev pub is_there : Option (List ℕ) → Bool
is_there None = false
is_there (Some v) = true

-- a value in front of others, where it is there
abbrev pub with_value : Option (List ℕ) → List (List ℕ) → List (List ℕ)
with_value None values = values
with_value (Some v) values = v ∷ values

-- the values that these words give to the option with this name, in their order
abbrev pub values_of : List ℕ → List (List ℕ) → List (List ℕ)
values_of name [] = []
values_of name (w ∷ ws) = with_value (behind name w) (values_of name ws)

-- How an option stands among words: not at all, once with a value, or more often.
pub data Standing : Type 0 where
  absent : Standing
  once : (value : List ℕ) → Standing
  again : Standing

abbrev pub standing : List (List ℕ) → Standing
standing [] = absent
standing (v ∷ []) = once v
standing (v ∷ w ∷ more) = again

-- the number that an option gives, between these two: its default where it does not stand
abbrev pub number_by : ℕ → ℕ → ℕ → Standing → Option ℕ
number_by least most default absent = Some default
number_by least most default (once v) = number_in least most v
number_by least most default again = None

-- The mode of a run: by waves where nothing is said.
abbrev pub mode_by : Standing → Option RunMode
mode_by absent = Some mode.Waves
mode_by (once v) = if bytes_eq v (codes "serial") then Some mode.Serial else if bytes_eq v (codes "waves") then Some mode.Waves else if bytes_eq v (codes "workers") then Some mode.Workers else None
mode_by again = None

-- The dependency system with this name.
abbrev pub system_by : List ℕ → Option DepsKind
system_by v = if bytes_eq v (codes "regions") then Some deps.Regions else if bytes_eq v (codes "plain") then Some deps.Plain else if bytes_eq v (codes "words") then Some deps.Words else None

-- The dependency system of a run in this mode: there is one, regions where nothing is said, and it may be named where the run is by waves.
abbrev pub deps_by : RunMode → Standing → Option DepsKind
deps_by mode.Waves (once v) = system_by v
deps_by mode.Serial (once v) = None
deps_by mode.Workers (once v) = None
deps_by m absent = Some deps.Regions
deps_by m again = None

-- one, and no other number
abbrev pub one_alone : ℕ → Option ℕ
one_alone n = if n == 1 then Some n else None

-- The number of workers of a run in this mode, if they are so many: a run by workers has one, since no other is built yet.
abbrev pub workers_by : RunMode → Option ℕ → Option ℕ
workers_by mode.Workers (Some n) = one_alone n
workers_by mode.Waves (Some n) = Some n
workers_by mode.Serial (Some n) = Some n
workers_by m None = None

-- an option without a value: whether it stands
abbrev pub flag_by : Standing → Option Bool
flag_by absent = Some false
flag_by (once v) = Some true
flag_by again = None

-- an option that may not stand
abbrev pub no_flag_by : Standing → Option Bool
no_flag_by absent = Some false
no_flag_by (once v) = None
no_flag_by again = None

-- Whether it is told which worker began each task: this may be asked of a run by workers.
abbrev pub who_by : RunMode → Standing → Option Bool
who_by mode.Workers told = flag_by told
who_by mode.Waves told = no_flag_by told
who_by mode.Serial told = no_flag_by told

-- an option without a value that only a run by one worker has
abbrev pub flag_for_one_by : ℕ → Standing → Option Bool
flag_for_one_by n told = if n == 1 then flag_by told else no_flag_by told

-- Whether it is told in which order the tasks began: this may be asked of a run by one worker.
abbrev pub order_by : RunMode → ℕ → Standing → Option Bool
order_by mode.Workers n told = flag_for_one_by n told
order_by mode.Waves n told = no_flag_by told
order_by mode.Serial n told = no_flag_by told

abbrev pub mode_name : List ℕ
mode_name = codes "--mode="

abbrev pub deps_name : List ℕ
deps_name = codes "--deps="

abbrev pub workers_name : List ℕ
workers_name = codes "--workers="

abbrev pub fuel_name : List ℕ
fuel_name = codes "--fuel="

abbrev pub dump_name : List ℕ
dump_name = codes "--dump"

abbrev pub who_name : List ℕ
who_name = codes "--who"

abbrev pub order_name : List ℕ
order_name = codes "--order"

-- an option without a value
abbrev pub is_flag_word : List ℕ → Bool
is_flag_word w = bytes_eq w dump_name || bytes_eq w who_name || bytes_eq w order_name

-- a word that `run` may have
abbrev pub is_listed : List ℕ → Bool
is_listed w = is_operand w || is_there (behind mode_name w) || is_there (behind deps_name w) || is_there (behind workers_name w) || is_there (behind fuel_name w) || is_flag_word w

-- a word that `trace` may have
abbrev pub is_trace_word : List ℕ → Bool
is_trace_word w = is_operand w || is_there (behind deps_name w) || is_there (behind fuel_name w)

-- a word that `soak` may have
abbrev pub is_soak_word : List ℕ → Bool
is_soak_word w = is_operand w || is_there (behind mode_name w) || is_there (behind deps_name w) || is_there (behind workers_name w)

-- a word that `replay`, `span`, `audit`, `explain`, `graph` and `missing` may have
abbrev pub is_fuel_word : List ℕ → Bool
is_fuel_word w = is_operand w || is_there (behind fuel_name w)

-- the fuel of each task: for 1 to 1,000,000,000 ticks, and for 1,000,000 where nothing is said
abbrev pub fuel_in : List (List ℕ) → Option ℕ
fuel_in words = number_by 1 1000000000 1000000 (standing (values_of fuel_name words))

-- the mode that words say
abbrev pub mode_in : List (List ℕ) → Option RunMode
mode_in words = mode_by (standing (values_of mode_name words))

-- how the option of this name stands among words
abbrev pub said : List ℕ → List (List ℕ) → Standing
said name words = standing (values_of name words)

-- What the options say, in this mode and with so many workers.
abbrev pub options_with : RunMode → ℕ → Option DepsKind → Option ℕ → Option Bool → Option Bool → Option Bool → Option Options
options_with mode workers (Some deps) (Some fuel) (Some dump) (Some who) (Some order) = Some (record { mode = mode; deps = deps; workers = workers; fuel = fuel; dump = dump; who = who; order = order })
options_with mode workers _ _ _ _ _ = None

-- The same of words, in which an option stands once at most, has a value in form, and may stand in this mode with so many workers.
abbrev pub options_for : RunMode → Option ℕ → List (List ℕ) → Option Options
options_for mode (Some workers) words = options_with mode workers (deps_by mode (said deps_name words)) (fuel_in words) (flag_by (said dump_name words)) (who_by mode (said who_name words)) (order_by mode workers (said order_name words))
options_for mode None words = None

-- The same in the mode that the words say.
abbrev pub options_in_mode : Option RunMode → List (List ℕ) → Option Options
options_in_mode (Some mode) words = options_for mode (workers_by mode (number_by 1 64 4 (said workers_name words))) words
options_in_mode None words = None

-- The options of a run: where nothing is said, it is by waves, over regions, with 4 workers, of 1 to 64, with fuel for 1,000,000 ticks a task, without a dump, and without lines that tell of
-- workers or of the order.
abbrev pub options_in : List (List ℕ) → Option Options
options_in words = options_in_mode (mode_in words) words

-- Commands

-- a run of a file with options, if both are there
abbrev pub run_of : Option (List ℕ) → Option Options → Option Command
run_of (Some file) (Some options) = Some (run file options)
run_of _ _ = None

-- a replay of a schedule on a file, if both are there and the fuel is
abbrev pub replay_of : Option (List ℕ × List ℕ) → Option ℕ → Option Command
replay_of (Some (file, schedule)) (Some fuel) = Some (replay file schedule fuel)
replay_of _ _ = None

-- a file with the fuel, if both are there
abbrev pub with_fuel : Option (List ℕ) → Option ℕ → Option (List ℕ × ℕ)
with_fuel (Some file) (Some fuel) = Some (file, fuel)
with_fuel _ _ = None

-- a trace of a file with options, if both are there
abbrev pub trace_of : Option (List ℕ) → Option Options → Option Command
trace_of (Some file) (Some options) = Some (trace file options)
trace_of _ _ = None

-- a soak by two numbers with options, if each is there
abbrev pub soak_by : Option ℕ → Option ℕ → Option Options → Option Command
soak_by (Some number) (Some size) (Some options) = Some (soak number size options)
soak_by _ _ _ = None

-- The same by two words: the first is a number of 64 bits, and the second one from 1 to 9,000.
abbrev pub soak_of : Option (List ℕ × List ℕ) → Option Options → Option Command
soak_of (Some (number, size)) options = soak_by (number_in 0 18446744073709551615 number) (number_in 1 9000 size) options
soak_of None options = None

-- each of the words passes the test
abbrev pub all_by : (List ℕ → Bool) → List (List ℕ) → Bool
all_by test [] = true
all_by test (w ∷ ws) = test w && all_by test ws

-- what is asked for by the words behind a command
abbrev pub run_asked : List (List ℕ) → Option Command
run_asked words = if all_by is_listed words then run_of (the_one (operands_in words)) (options_in words) else None

abbrev pub check_asked : List (List ℕ) → Option Command
check_asked words = if all_by is_operand words then option_map (λ file. check file) (the_one words) else None

abbrev pub replay_asked : List (List ℕ) → Option Command
replay_asked words = if all_by is_fuel_word words then replay_of (the_two (operands_in words)) (fuel_in words) else None

abbrev pub file_and_fuel_in : List (List ℕ) → Option (List ℕ × ℕ)
file_and_fuel_in words = if all_by is_fuel_word words then with_fuel (the_one (operands_in words)) (fuel_in words) else None

abbrev pub audit_asked : List (List ℕ) → Option Command
audit_asked words = option_map (λ asked. audit asked.0 asked.1) (file_and_fuel_in words)

abbrev pub span_asked : List (List ℕ) → Option Command
span_asked words = option_map (λ asked. span asked.0 asked.1) (file_and_fuel_in words)

abbrev pub explain_asked : List (List ℕ) → Option Command
explain_asked words = option_map (λ asked. explain asked.0 asked.1) (file_and_fuel_in words)

abbrev pub graph_asked : List (List ℕ) → Option Command
graph_asked words = option_map (λ asked. graph asked.0 asked.1) (file_and_fuel_in words)

abbrev pub missing_asked : List (List ℕ) → Option Command
missing_asked words = option_map (λ asked. missing asked.0 asked.1) (file_and_fuel_in words)

abbrev pub trace_asked : List (List ℕ) → Option Command
trace_asked words = if all_by is_trace_word words then trace_of (the_one (operands_in words)) (options_in words) else None

abbrev pub soak_asked : List (List ℕ) → Option Command
soak_asked words = if all_by is_soak_word words then soak_of (the_two (operands_in words)) (options_in words) else None

abbrev pub asked_by : List ℕ → List (List ℕ) → Option Command
asked_by word rest = if bytes_eq word (codes "run") then run_asked rest else if bytes_eq word (codes "check") then check_asked rest
    else if bytes_eq word (codes "trace") then trace_asked rest else if bytes_eq word (codes "replay") then replay_asked rest
    else if bytes_eq word (codes "soak") then soak_asked rest else if bytes_eq word (codes "span") then span_asked rest
    else if bytes_eq word (codes "audit") then audit_asked rest else if bytes_eq word (codes "explain") then explain_asked rest
    else if bytes_eq word (codes "graph") then graph_asked rest else if bytes_eq word (codes "missing") then missing_asked rest else None

-- what the words ask for; none where they are refused
abbrev pub asked_of : List (List ℕ) → Option Command
asked_of [] = None
asked_of (word ∷ rest) = asked_by word rest

-- the command that a reader of words tells
abbrev pub meant : Told → Command
meant (told.Run file options) = run file.now options
meant (told.Check file) = check file.now
meant (told.Trace file options) = trace file.now options
meant (told.Replay asked) = replay asked.file.now asked.schedule.now asked.fuel
meant (told.Soak asked) = soak asked.number asked.size asked.options
meant (told.Audit file fuel) = audit file.now fuel
meant (told.Span file fuel) = span file.now fuel
meant (told.Explain file fuel) = explain file.now fuel
meant (told.Graph file fuel) = graph file.now fuel
meant (told.Missing file fuel) = missing file.now fuel

-- the mode is that of workers
abbrev pub is_by_workers : RunMode → Bool
is_by_workers mode.Serial = false
is_by_workers mode.Waves = false
is_by_workers mode.Workers = true

-- the command runs a program by workers
abbrev pub runs_by_workers : Command → Bool
runs_by_workers (run file options) = is_by_workers options.mode
runs_by_workers (check file) = false
runs_by_workers (trace file options) = false
runs_by_workers (replay file schedule fuel) = false
runs_by_workers (soak number size options) = is_by_workers options.mode
runs_by_workers (audit file fuel) = false
runs_by_workers (span file fuel) = false
runs_by_workers (explain file fuel) = false
runs_by_workers (graph file fuel) = false
runs_by_workers (missing file fuel) = false

-- A run in another mode has no lines that tell of workers or of the order.
abbrev pub HasLinesFor : RunMode → Bool → Bool → Type 0
HasLinesFor mode.Serial who order = (who ≡ false) × (order ≡ false)
HasLinesFor mode.Waves who order = (who ≡ false) × (order ≡ false)
HasLinesFor mode.Workers who order = Unit {0}

-- There is a worker at least, and no lines are asked for that the mode has not.
pub record AreFit (options : Options) : Type 0 where
  pub some : 0 < options.workers
  pub lines : HasLinesFor options.mode options.who options.order

-- The options of a command fit each other.
abbrev pub IsFit : Command → Type 0
IsFit (run file options) = AreFit options
IsFit (check file) = Unit {0}
IsFit (trace file options) = AreFit options
IsFit (replay file schedule fuel) = Unit {0}
IsFit (soak number size options) = AreFit options
IsFit (audit file fuel) = Unit {0}
IsFit (span file fuel) = Unit {0}
IsFit (explain file fuel) = Unit {0}
IsFit (graph file fuel) = Unit {0}
IsFit (missing file fuel) = Unit {0}

abbrev pub IsAskedBy : Option Command → Result Told WordsRefused → Type 0
IsAskedBy command (Ok t) = command ≡ Some (meant t)
IsAskedBy command (Err e) = command ≡ None

abbrev pub IsAsked : List (List ℕ) → Result Told WordsRefused → Type 0
IsAsked words told = IsAskedBy (asked_of words) told

-- What is told of words that are refused. The line names the commands that it named before there were `explain`, `graph` and `missing`.
abbrev pub usage_line : List ℕ
usage_line = codes "usage: nest6 run FILE | check FILE | trace FILE | replay FILE SCHEDULE | soak NUMBER SIZE | span FILE | audit FILE" ++ 10 ∷ []
