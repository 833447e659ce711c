use Rattle.std.proofs.Common.{◌≡◌, drop}
use Rattle.oss_creations.proofs.LoopLemmas.{IsLinking}
use Rattle.oss_creations.proofs.linking.link_accesses.Given as goal

abbrev pub invariant-loop-access : goal.invariant-loop-access
invariant-loop-access l = record {
  same : (l.seat.field ≡ l.fn.seat.field) × (l.seat.id ≡ l.fn.seat.id);
  linking : IsLinking l.field.code l.job l.task l.accesses l.next (drop l.access-index l.accesses) l.fn.seat.known l.seat.known;
}
