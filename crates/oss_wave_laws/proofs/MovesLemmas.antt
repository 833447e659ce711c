-- Waves, passes and rounds are made of moves.
use Rattle.std.proofs.Common.{ℕ, zero, suc, List, [], ◌∷◌, ◌++◌}
use Rattle.oss_model.specs.Bodies.{Program}
use Rattle.oss_model.specs.Machine.{State}
use Rattle.oss_model.specs.Moves.{steps, lets, joins, opening, opens, moves}
use Rattle.oss_model.specs.Answers.{IsStopped}
use Rattle.oss_model.proofs.AgreementTheorem.{every_state_agrees}
use Rattle.oss_model.proofs.ResultTheorem.{every_answer_is_the_result, every_result_is_the_answer}
use Rattle.oss_wave_laws.specs.Alone.{Runs, stays, moves as runs_on}
use Rattle.oss_wave_laws.specs.Waves.{Turn, Takes, takes_none, takes_more, TakeTurns, no_turns, turn_first}
use Rattle.oss_wave_laws.specs.Passes.{Place, GivenUp, Visits, visits_none, keeps, gives, merges, Passes, idles, passes}
use Rattle.oss_wave_laws.specs.Rounds.{Round, IsRound, Rounds, stopped, follows}
use Rattle.oss_wave_laws.specs.Claims.{RunsGoOn, WaveMoves, PassMoves, RoundMoves, RoundsStop, ResultIsTheAnswer, AnswerIsTheResult}

pub runs_trans : {S : Type 0} {P : Program S} {s m n : State S} → Runs P s m → Runs P m n → Runs P s n
runs_trans h stays = h
runs_trans h (runs_on k m) = runs_on (runs_trans h k) m

pub takes_runs : {S : Type 0} {P : Program S} {p : List ℕ} {s n : State S} (k : ℕ) → Takes P p s k n → Runs P s n
takes_runs zero takes_none = stays
takes_runs (suc k) (takes_more r can step) = runs_on (takes_runs k r) (steps can step)

pub turns_run : {S : Type 0} {P : Program S} {s n : State S} (turns : List Turn) → TakeTurns P s turns n → Runs P s n
turns_run [] no_turns = stays
turns_run (k ∷ rest) (turn_first r more) = runs_trans (takes_runs k.acts r) (turns_run rest more)

pub visits_run : {S : Type 0} {P : Program S} {s n : State S} {places : List Place} {done : List GivenUp} → Visits P s places done n → Runs P s n
visits_run visits_none = stays
visits_run (keeps k v) = visits_run v
visits_run (gives can go v) = runs_trans (runs_on stays (lets can go)) (visits_run v)
visits_run (merges can go v) = runs_trans (runs_on stays (joins can go)) (visits_run v)

pub passes_run : {S : Type 0} {P : Program S} {s n : State S} {done : List (List GivenUp)} → Passes P s done n → Runs P s n
passes_run (idles p) = visits_run p.visits
passes_run (passes p q) = runs_trans (visits_run p.visits) (passes_run q)

pub round_runs : {S : Type 0} {P : Program S} {s n : State S} (round : Round) → IsRound P s round n → Runs P s n
round_runs round r = runs_trans (turns_run round.turns r.wave.acts) (passes_run r.behind)

pub rounds_run : {S : Type 0} {P : Program S} {s n : State S} (rounds : List Round) → Rounds P s rounds n → Runs P s n
rounds_run [] (stopped h) = stays
rounds_run (round ∷ rest) (follows h r more) = runs_trans (round_runs round r) (rounds_run rest more)

pub rounds_end : {S : Type 0} {P : Program S} {s n : State S} (rounds : List Round) → Rounds P s rounds n → IsStopped P n
rounds_end [] (stopped h) = h
rounds_end (round ∷ rest) (follows h r more) = rounds_end rest more

pub runs_go_on : (S : Type 0) → RunsGoOn S
runs_go_on S P main cells s n h stays = h
runs_go_on S P main cells s n h (runs_on {m = m} r k) = moves (runs_go_on S P main cells s m h r) k

pub wave_moves : (S : Type 0) → WaveMoves S
wave_moves S P s n turns w = turns_run turns w.acts

pub pass_moves : (S : Type 0) → PassMoves S
pass_moves S P s n done p = visits_run p.visits

pub round_moves : (S : Type 0) → RoundMoves S
round_moves S P s n round r = round_runs round r

pub rounds_stop : (S : Type 0) → RoundsStop S
rounds_stop S P main cells rounds n r = (runs_go_on S P main cells (opening main cells) n opens (rounds_run rounds r), rounds_end rounds r)

pub result_is_the_answer : (S : Type 0) → ResultIsTheAnswer S
result_is_the_answer S P main cells rounds n b set_ r result =
    let e = rounds_stop S P main cells rounds n r in
    every_result_is_the_answer S P main cells n b set_ (λ z run. every_state_agrees S P main cells z n set_ run e.0) e.1 result

pub answer_is_the_result : (S : Type 0) → AnswerIsTheResult S
answer_is_the_result S P main cells rounds n a b set_ r answer result =
    let e = rounds_stop S P main cells rounds n r in
    every_answer_is_the_result S P main cells n a b set_ (λ z run. every_state_agrees S P main cells z n set_ run e.0) e.1 answer result

-- one more turn behind others
pub turns_last : {S : Type 0} {P : Program S} {s m n : State S} (turns : List Turn) (k : Turn) → TakeTurns P s turns m → Takes P k.path m k.acts n → TakeTurns P s (turns ++ k ∷ []) n
turns_last turns k no_turns r = turn_first r no_turns
turns_last turns k (turn_first {turn = j} {rest = rest} q more) r = turn_first q (turns_last rest k more r)
