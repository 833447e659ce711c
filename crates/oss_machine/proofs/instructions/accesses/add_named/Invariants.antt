use Rattle.std.proofs.Common.{◌≡◌, ◌++◌, map, take}
use Rattle.oss_syntax.specs.declared.access.Access.{Access}
use Rattle.oss_machine.proofs.instructions.accesses.add_named.Given as goal

-- the ranges of the accesses so far are added
abbrev pub invariant-loop-access : goal.invariant-loop-access
invariant-loop-access l = l.named.items ≡ l.fn.named.items ++ map (λ (a : Access). a.range) (take l.access-index l.accesses)
