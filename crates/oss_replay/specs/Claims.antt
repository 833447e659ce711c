-- What holds of each replay of a code, whatever its schedule is.
use Rattle.std.specs.Prelude.{◌≡◌, ℕ, List}
use Rattle.oss_model.specs.Agreement.{AreWords}
use Rattle.oss_model.specs.Answers.{IsResult}
use Rattle.oss_model.specs.declared.answer.Answer.{Answer}
use Rattle.oss_code.specs.declared.code.CodeParts.{CodeParts}
use Rattle.oss_machine.specs.Machines.{asks}
use Rattle.oss_body.specs.Mains.{code_main}
use Rattle.oss_sched.specs.declared.moves.TextMove.{TextMove}
use Rattle.oss_replay.specs.declared.replayed.Replayed.{Replayed}
use Rattle.oss_replay.specs.declared.replayed.Replayed.TheVariants.{Answered}
use Rattle.oss_replay.specs.Replays.{IsReplayed}

-- One thing at most comes of the moves of a schedule.
abbrev pub AReplayHasOneEnd : Type 0
AReplayHasOneEnd = (code : CodeParts) (fuel : ℕ) (moves : List TextMove) (a b : Replayed) → AreWords code.first → IsReplayed code fuel moves a → IsReplayed code fuel moves b → a ≡ b

-- Where it is an answer, it is that of the sequential run.
abbrev pub AnAnsweredReplayIsTheRun : Type 0
AnAnsweredReplayIsTheRun =
    (code : CodeParts) (fuel : ℕ) (moves : List TextMove) (answer : Answer) → AreWords code.first → IsReplayed code fuel moves (Answered answer)
    → IsResult (asks code) (code_main code fuel) code.first answer
