use Rattle.std.proofs.Common.{drop, ◌⊎◌}
use Rattle.oss_syntax.specs.declared.access.Access.{Access}
use Rattle.oss_model.specs.Order.{IsIn}
use Rattle.oss_fragments.specs.Stretches.{IsReady}
use Rattle.oss_fragments.specs.Changes.{IsFiner}
use Rattle.oss_fragments.proofs.reserving.make_ready.Given as goal

-- the accesses so far may be added
abbrev pub invariant-loop-access : goal.invariant-loop-access
invariant-loop-access l = record {
  finer : IsFiner l.fn.map.pieces l.fn.fragments.items l.map.pieces l.fragments.items;
  ready : (a : Access) → IsIn a l.accesses → IsIn a (drop l.access-index l.accesses) ⊎ IsReady l.fragments.items a.range.lo a.range.hi;
}
