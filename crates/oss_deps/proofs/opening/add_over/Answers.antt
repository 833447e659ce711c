use Rattle.std.proofs.Common.{◌≤◌, ◌⊎◌, ℕ, sym, subst, ◌∙◌, arith}
use Rattle.oss_deps.specs.Adding.{AreGrownTo}
use Rattle.oss_deps.proofs.AskLemmas.{column_read}
use Rattle.oss_deps.proofs.AddLemmas.{grow_begins, grow_gap, grow_within, grow_in, grow_end, grow_addable, grow_goes, grow_divides}
use Rattle.oss_deps.proofs.opening.add_over.Goals as goal

pub stretches-init : goal.stretches-init
stretches-init c = record { grown = grow_begins c.args.number c.args.task c.args.parent c.args.access.mode c.args.access.range.lo c.args.columns.now.items; from = omega arith; upto = omega (arith, c.args.access.range.ordered); divided = c.requires.begins }

pub index_mut-column-requires : goal.index_mut-column-requires
index_mut-column-requires c = omega (arith, grow_within c.args.number c.args.task c.args.parent c.args.map.now.pieces c.args.columns.now.items c.stretches.columns.items c.args.access.mode c.args.access.range.lo c.args.access.range.hi c.stretches.cell c.requires c.stretches.invariant.grown c.stretches.invariant.from c.stretches-test.true c.args.access.range.within c.stretches.invariant.divided c.in-Some.at (sym c.get.ensures ∙ c.in-Some.is), c.stretches.columns.ok.0)

pub add_in-requires : goal.add_in-requires
add_in-requires c = grow_addable c.args.number c.args.task c.args.parent c.args.map.now.pieces c.args.columns.now.items c.stretches.columns.items c.args.access.mode c.args.access.range.lo c.args.access.range.hi c.stretches.cell c.requires c.stretches.invariant.grown c.stretches.invariant.from c.stretches-test.true c.args.access.range.within c.stretches.invariant.divided c.in-Some.at (sym c.get.ensures ∙ c.in-Some.is) c.index_mut-column.result.now (column_read c.stretches.columns.items c.in-Some.at c.index_mut-column.result.now (grow_within c.args.number c.args.task c.args.parent c.args.map.now.pieces c.args.columns.now.items c.stretches.columns.items c.args.access.mode c.args.access.range.lo c.args.access.range.hi c.stretches.cell c.requires c.stretches.invariant.grown c.stretches.invariant.from c.stretches-test.true c.args.access.range.within c.stretches.invariant.divided c.in-Some.at (sym c.get.ensures ∙ c.in-Some.is)) c.index_mut-column.ensures.value)

pub stretches-smaller : goal.stretches-smaller
stretches-smaller c = omega (arith, (grow_in c.args.number c.args.task c.args.parent c.args.map.now.pieces c.args.columns.now.items c.stretches.columns.items c.args.access.mode c.args.access.range.lo c.args.access.range.hi c.stretches.cell c.requires c.stretches.invariant.grown c.stretches.invariant.from c.stretches-test.true c.args.access.range.within c.stretches.invariant.divided c.in-Some.at (sym c.get.ensures ∙ c.in-Some.is) c.index_mut-column.result.now (column_read c.stretches.columns.items c.in-Some.at c.index_mut-column.result.now (grow_within c.args.number c.args.task c.args.parent c.args.map.now.pieces c.args.columns.now.items c.stretches.columns.items c.args.access.mode c.args.access.range.lo c.args.access.range.hi c.stretches.cell c.requires c.stretches.invariant.grown c.stretches.invariant.from c.stretches-test.true c.args.access.range.within c.stretches.invariant.divided c.in-Some.at (sym c.get.ensures ∙ c.in-Some.is)) c.index_mut-column.ensures.value)).1, c.add_in.ensures.hi, c.stretches-test.true)

pub stretches-preserved : goal.stretches-preserved
stretches-preserved c = record {
  grown = grow_goes c.args.number c.args.task c.args.parent c.args.map.now.pieces c.args.columns.now.items c.stretches.columns.items c.args.access.mode c.args.access.range.lo c.args.access.range.hi c.stretches.cell c.requires c.stretches.invariant.grown c.stretches.invariant.from c.stretches-test.true c.args.access.range.within c.stretches.invariant.divided c.in-Some.at (sym c.get.ensures ∙ c.in-Some.is) c.index_mut-column.result.now (column_read c.stretches.columns.items c.in-Some.at c.index_mut-column.result.now (grow_within c.args.number c.args.task c.args.parent c.args.map.now.pieces c.args.columns.now.items c.stretches.columns.items c.args.access.mode c.args.access.range.lo c.args.access.range.hi c.stretches.cell c.requires c.stretches.invariant.grown c.stretches.invariant.from c.stretches-test.true c.args.access.range.within c.stretches.invariant.divided c.in-Some.at (sym c.get.ensures ∙ c.in-Some.is)) c.index_mut-column.ensures.value) c.add_in.new.column c.add_in.ensures;
  from = omega (arith, (grow_in c.args.number c.args.task c.args.parent c.args.map.now.pieces c.args.columns.now.items c.stretches.columns.items c.args.access.mode c.args.access.range.lo c.args.access.range.hi c.stretches.cell c.requires c.stretches.invariant.grown c.stretches.invariant.from c.stretches-test.true c.args.access.range.within c.stretches.invariant.divided c.in-Some.at (sym c.get.ensures ∙ c.in-Some.is) c.index_mut-column.result.now (column_read c.stretches.columns.items c.in-Some.at c.index_mut-column.result.now (grow_within c.args.number c.args.task c.args.parent c.args.map.now.pieces c.args.columns.now.items c.stretches.columns.items c.args.access.mode c.args.access.range.lo c.args.access.range.hi c.stretches.cell c.requires c.stretches.invariant.grown c.stretches.invariant.from c.stretches-test.true c.args.access.range.within c.stretches.invariant.divided c.in-Some.at (sym c.get.ensures ∙ c.in-Some.is)) c.index_mut-column.ensures.value)).1, c.add_in.ensures.hi, c.stretches.invariant.from);
  upto = omega (arith, grow_end c.args.number c.args.task c.args.parent c.args.map.now.pieces c.args.columns.now.items c.stretches.columns.items c.args.access.mode c.args.access.range.lo c.args.access.range.hi c.stretches.cell c.requires c.stretches.invariant.grown c.stretches.invariant.from c.stretches-test.true c.args.access.range.within c.stretches.invariant.divided c.in-Some.at (sym c.get.ensures ∙ c.in-Some.is) c.index_mut-column.result.now (column_read c.stretches.columns.items c.in-Some.at c.index_mut-column.result.now (grow_within c.args.number c.args.task c.args.parent c.args.map.now.pieces c.args.columns.now.items c.stretches.columns.items c.args.access.mode c.args.access.range.lo c.args.access.range.hi c.stretches.cell c.requires c.stretches.invariant.grown c.stretches.invariant.from c.stretches-test.true c.args.access.range.within c.stretches.invariant.divided c.in-Some.at (sym c.get.ensures ∙ c.in-Some.is)) c.index_mut-column.ensures.value), c.add_in.ensures.hi);
  divided = λ i a e. subst (λ (x : ℕ). (x ≤ a.lo) ⊎ (a.hi ≤ x)) (sym c.add_in.ensures.hi) (grow_divides c.args.number c.args.task c.args.parent c.args.map.now.pieces c.args.columns.now.items c.stretches.columns.items c.args.access.mode c.args.access.range.lo c.args.access.range.hi c.stretches.cell c.requires c.stretches.invariant.grown c.stretches.invariant.from c.stretches-test.true c.args.access.range.within c.stretches.invariant.divided c.in-Some.at (sym c.get.ensures ∙ c.in-Some.is) c.index_mut-column.result.now (column_read c.stretches.columns.items c.in-Some.at c.index_mut-column.result.now (grow_within c.args.number c.args.task c.args.parent c.args.map.now.pieces c.args.columns.now.items c.stretches.columns.items c.args.access.mode c.args.access.range.lo c.args.access.range.hi c.stretches.cell c.requires c.stretches.invariant.grown c.stretches.invariant.from c.stretches-test.true c.args.access.range.within c.stretches.invariant.divided c.in-Some.at (sym c.get.ensures ∙ c.in-Some.is)) c.index_mut-column.ensures.value) i a e);
}

pub unreachable-requires : goal.unreachable-requires
unreachable-requires c = grow_gap c.args.number c.args.task c.args.parent c.args.map.now.pieces c.args.columns.now.items c.stretches.columns.items c.args.access.mode c.args.access.range.lo c.args.access.range.hi c.stretches.cell c.requires c.stretches.invariant.grown c.stretches.invariant.from c.stretches-test.true c.args.access.range.within c.stretches.invariant.divided (sym c.get.ensures ∙ c.in-None.is)

pub returns : goal.returns
returns c = subst (λ (x : ℕ). AreGrownTo c.args.number c.args.task c.args.parent c.args.access.mode c.args.access.range.lo x c.args.columns.now.items c.stretches.columns.items) (omega (arith, c.stretches.invariant.upto, c.stretches-test.false)) c.stretches.invariant.grown
