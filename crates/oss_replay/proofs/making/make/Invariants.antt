use Rattle.oss_core.specs.Cores.{kept_of}
use Rattle.oss_core.specs.Kept.{IsRunning}
use Rattle.oss_replay.specs.Making.{MakesParts}
use Rattle.oss_replay.proofs.making.make.Given as goal

-- the core stands for states to which so many parts lead
abbrev pub invariant-parts : goal.invariant-parts
invariant-parts g l = IsRunning l.code (kept_of g.D.Deps.seen l.core) × MakesParts l.code (kept_of g.D.Deps.seen l.fn.core) (kept_of g.D.Deps.seen l.core) l.what l.k
