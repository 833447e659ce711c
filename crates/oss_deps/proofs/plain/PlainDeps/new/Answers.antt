use Rattle.std.specs.Prelude.{vec_capacity}
use Rattle.oss_deps.proofs.PlainLemmas.{right_new}
use Rattle.oss_deps.proofs.plain.PlainDeps.new.Goals as goal

pub invariant_of-result : goal.invariant_of-result
invariant_of-result c = right_new c.new.result.items (vec_capacity c.new.result) c.new-2.result.pieces c.new-3.result.items c.new.ensures.items c.new-2.ensures c.new-3.ensures.items
