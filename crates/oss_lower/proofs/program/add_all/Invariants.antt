use Rattle.std.proofs.Common.{◌≡◌, ◌++◌, length, map}
use Rattle.std.specs.Vec.Iter.{into_iter_items, into_iter_len}
use Rattle.oss_lower.proofs.program.add_all.Given as goal

-- those taken apart and those left are all
abbrev pub invariant-loop-one : goal.invariant-loop-one
invariant-loop-one l = record {
  instrs : l.instrs.items ++ map (λ x. x.what) (into_iter_items l.one-iterator) ≡ l.fn.instrs.items ++ map (λ x. x.what) l.fn.code.items;
  lines : l.lines.items ++ map (λ x. x.line) (into_iter_items l.one-iterator) ≡ l.fn.lines.items ++ map (λ x. x.line) l.fn.code.items;
  depths : l.depths.items ++ map (λ x. x.depth) (into_iter_items l.one-iterator) ≡ l.fn.depths.items ++ map (λ x. x.depth) l.fn.code.items;
  counted : into_iter_len l.one-iterator ≡ length (into_iter_items l.one-iterator);
}
