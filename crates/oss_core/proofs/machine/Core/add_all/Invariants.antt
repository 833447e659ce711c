use Rattle.std.proofs.Common.{◌≡◌, length}
use Rattle.std.specs.Vec.Iter.{into_iter_items, into_iter_len}
use Rattle.oss_core.specs.Cores.{kept_of}
use Rattle.oss_core.proofs.AddLemmas.{IsAdding}
use Rattle.oss_core.proofs.machine.Core.add_all.Given as goal

-- those that are left may be added, and with them all are
abbrev pub invariant-loop-newborn : goal.invariant-loop-newborn
invariant-loop-newborn g l = record {
  adding : IsAdding l.creator.0 l.fn.newborns.items (kept_of g.D.Deps.seen l.initial.self) (into_iter_items l.newborn-iterator) (kept_of g.D.Deps.seen l.self);
  counted : into_iter_len l.newborn-iterator ≡ length (into_iter_items l.newborn-iterator);
}
