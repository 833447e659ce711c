use Rattle.std.proofs.Common.{◌≡◌, ◌+◌, drop}
use Rattle.oss_core.specs.Cores.{kept_of}
use Rattle.oss_core.specs.Kept.{IsRunning}
use Rattle.oss_replay.specs.Making.{HasReplayed}
use Rattle.oss_replay.proofs.playing.play.Given as goal

-- so many moves were made, and those behind them are left
abbrev pub invariant-moves : goal.invariant-moves
invariant-moves g l =
    (l.number ≡ l.what-index + 1) × IsRunning l.code (kept_of g.D.Deps.seen l.core)
    × HasReplayed l.code (kept_of g.D.Deps.seen l.fn.core) 1 l.moves (kept_of g.D.Deps.seen l.core) l.number (drop l.what-index l.moves)
