use Rattle.std.proofs.Common.{◌≡◌, length}
use Rattle.std.specs.Vec.Iter.{into_iter_items, into_iter_len}
use Rattle.oss_core.specs.Cores.{kept_of}
use Rattle.oss_core.proofs.WavingLemmas.{ArePut}
use Rattle.oss_core.proofs.machine.Core.put_all.Given as goal

-- the parts so far are put in
abbrev pub invariant-loop-part : goal.invariant-loop-part
invariant-loop-part g l = record {
  put : ArePut l.steppers l.fn.parts.items (kept_of g.D.Deps.seen l.initial.self) l.at (into_iter_items l.part-iterator) l.turns.items (kept_of g.D.Deps.seen l.self);
  counted : into_iter_len l.part-iterator ≡ length (into_iter_items l.part-iterator);
}
