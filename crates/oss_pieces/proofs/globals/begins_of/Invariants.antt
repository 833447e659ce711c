use Rattle.std.proofs.Common.{◌≡◌, ◌++◌, drop, map}
use Rattle.oss_pieces.specs.Begins.{begins_from}
use Rattle.oss_pieces.proofs.globals.begins_of.Given as goal

-- those of the globals that are left go behind those so far
abbrev pub invariant-loop-global : goal.invariant-loop-global
invariant-loop-global l = l.begins.items ++ begins_from l.begin (map (λ d. d.now) (drop l.global-index l.list)) ≡ begins_from 0 (map (λ d. d.now) l.list)
