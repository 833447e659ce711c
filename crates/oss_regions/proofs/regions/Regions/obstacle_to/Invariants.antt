use Rattle.std.proofs.Common.{drop, ◌⊎◌}
use Rattle.oss_syntax.specs.declared.access.Access.{Access}
use Rattle.oss_model.specs.Order.{IsIn}
use Rattle.oss_deps.specs.declared.opened.Open.{Open}
use Rattle.oss_deps.specs.Columns.{IsNumber}
use Rattle.oss_regions.specs.Kept.{IsAccessMet}
use Rattle.oss_regions.proofs.regions.Regions.obstacle_to.Given as goal

-- what the accesses so far wait for has come
abbrev pub invariant-loop-access : goal.invariant-loop-access
invariant-loop-access l = (o : Open) → IsNumber l.self.opens l.number o → (a : Access) → IsIn a o.accesses → IsIn a (drop l.access-index l.access-items) ⊎ IsAccessMet l.self o a
