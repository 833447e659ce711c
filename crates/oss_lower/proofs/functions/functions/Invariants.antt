use Rattle.std.proofs.Common.{◌≡◌, ◌++◌, drop, length, map}
use Rattle.oss_lower_laws.specs.Lowered.{bodies_from, entries_from, function_codes}
use Rattle.oss_lower.proofs.functions.functions.Given as goal

-- what is written and what is left are the instructions of all functions, and so are their beginnings
abbrev pub invariant-loop-one : goal.invariant-loop-one
invariant-loop-one l = record {
  entries : l.functions.items ++ entries_from l.names (length l.out) (map (λ f. f.now) (drop l.one-index l.list)) ≡ entries_from l.names (length l.fn.out) (map (λ f. f.now) l.list);
  bodies : l.bodies.items ++ bodies_from l.names (length l.out) (map (λ f. f.now) (drop l.one-index l.list)) ≡ bodies_from l.names (length l.fn.out) (map (λ f. f.now) l.list);
  code : l.out ++ function_codes l.names (map (λ f. f.now) (drop l.one-index l.list)) ≡ l.fn.out ++ function_codes l.names (map (λ f. f.now) l.list);
}
