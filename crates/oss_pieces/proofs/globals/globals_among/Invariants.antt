use Rattle.std.proofs.Common.{◌≡◌, ◌++◌, drop, map}
use Rattle.oss_pieces.specs.Numbered.{globals_of}
use Rattle.oss_pieces.proofs.globals.globals_among.Given as goal

-- those of the items that are left go behind those so far
abbrev pub invariant-loop-item : goal.invariant-loop-item
invariant-loop-item l = map (λ d. d.now) l.list.items ++ globals_of (drop l.item-index l.items) ≡ globals_of l.items
