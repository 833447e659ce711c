use Rattle.std.proofs.Common.{ℕ, sym, subst, ◌∙◌, arith, ◌≤◌, ◌⊎◌, set}
use Rattle.oss_deps.proofs.AskLemmas.{column_read}
use Rattle.oss_deps.proofs.GiveLemmas.{IsGivenTo, give_begins, give_gap, give_within, give_in_here, give_end, give_right, give_shown, give_goes, give_divides, give_ends, given_columns, given_asked, given_ready}
use Rattle.oss_deps.proofs.giving.give_over.Goals as goal

pub stretches-init : goal.stretches-init
stretches-init c = record { given = give_begins c.args.task c.args.range.lo c.args.columns.now.items; from = omega arith; upto = omega (arith, c.args.range.ordered); divided = c.requires.begins }

pub index_mut-column-requires : goal.index_mut-column-requires
index_mut-column-requires c = omega (arith, give_within c.args.opens.now c.args.map.now.pieces c.args.columns.now.items c.stretches.columns.items c.requires.opens c.requires.columns c.args.task c.in-Some.number c.args.range.lo c.args.range.hi c.stretches.cell c.in-Some.ensures.found c.requires.named c.stretches.invariant.given c.stretches.invariant.from c.stretches-test.true c.stretches.invariant.divided c.requires.ends c.in-Some-get.at (sym c.get.ensures ∙ c.in-Some-get.is), c.stretches.columns.ok.0)

pub give_in-requires-clause-linked : goal.give_in-requires-clause-linked
give_in-requires-clause-linked c = (give_right c.args.opens.now c.args.map.now.pieces c.args.columns.now.items c.stretches.columns.items c.requires.opens c.requires.columns c.args.task c.in-Some.number c.args.range.lo c.args.range.hi c.stretches.cell c.in-Some.ensures.found c.requires.named c.stretches.invariant.given c.stretches.invariant.from c.stretches-test.true c.stretches.invariant.divided c.requires.ends c.in-Some-get.at (sym c.get.ensures ∙ c.in-Some-get.is) c.index_mut-column.result.now (column_read c.stretches.columns.items c.in-Some-get.at c.index_mut-column.result.now (give_within c.args.opens.now c.args.map.now.pieces c.args.columns.now.items c.stretches.columns.items c.requires.opens c.requires.columns c.args.task c.in-Some.number c.args.range.lo c.args.range.hi c.stretches.cell c.in-Some.ensures.found c.requires.named c.stretches.invariant.given c.stretches.invariant.from c.stretches-test.true c.stretches.invariant.divided c.requires.ends c.in-Some-get.at (sym c.get.ensures ∙ c.in-Some-get.is)) c.index_mut-column.ensures.value)).linked

pub give_in-requires-clause-marked : goal.give_in-requires-clause-marked
give_in-requires-clause-marked c = (give_right c.args.opens.now c.args.map.now.pieces c.args.columns.now.items c.stretches.columns.items c.requires.opens c.requires.columns c.args.task c.in-Some.number c.args.range.lo c.args.range.hi c.stretches.cell c.in-Some.ensures.found c.requires.named c.stretches.invariant.given c.stretches.invariant.from c.stretches-test.true c.stretches.invariant.divided c.requires.ends c.in-Some-get.at (sym c.get.ensures ∙ c.in-Some-get.is) c.index_mut-column.result.now (column_read c.stretches.columns.items c.in-Some-get.at c.index_mut-column.result.now (give_within c.args.opens.now c.args.map.now.pieces c.args.columns.now.items c.stretches.columns.items c.requires.opens c.requires.columns c.args.task c.in-Some.number c.args.range.lo c.args.range.hi c.stretches.cell c.in-Some.ensures.found c.requires.named c.stretches.invariant.given c.stretches.invariant.from c.stretches-test.true c.stretches.invariant.divided c.requires.ends c.in-Some-get.at (sym c.get.ensures ∙ c.in-Some-get.is)) c.index_mut-column.ensures.value)).marked

pub give_in-requires-clause-shown : goal.give_in-requires-clause-shown
give_in-requires-clause-shown c = give_shown c.args.opens.now c.args.map.now.pieces c.args.columns.now.items c.stretches.columns.items c.requires.opens c.requires.columns c.args.task c.in-Some.number c.args.range.lo c.args.range.hi c.stretches.cell c.in-Some.ensures.found c.requires.named c.stretches.invariant.given c.stretches.invariant.from c.stretches-test.true c.stretches.invariant.divided c.requires.ends c.in-Some-get.at (sym c.get.ensures ∙ c.in-Some-get.is) c.index_mut-column.result.now (column_read c.stretches.columns.items c.in-Some-get.at c.index_mut-column.result.now (give_within c.args.opens.now c.args.map.now.pieces c.args.columns.now.items c.stretches.columns.items c.requires.opens c.requires.columns c.args.task c.in-Some.number c.args.range.lo c.args.range.hi c.stretches.cell c.in-Some.ensures.found c.requires.named c.stretches.invariant.given c.stretches.invariant.from c.stretches-test.true c.stretches.invariant.divided c.requires.ends c.in-Some-get.at (sym c.get.ensures ∙ c.in-Some-get.is)) c.index_mut-column.ensures.value)

pub stretches-smaller : goal.stretches-smaller
stretches-smaller c = omega (arith, (give_in_here c.args.opens.now c.args.map.now.pieces c.args.columns.now.items c.stretches.columns.items c.requires.opens c.requires.columns c.args.task c.in-Some.number c.args.range.lo c.args.range.hi c.stretches.cell c.in-Some.ensures.found c.requires.named c.stretches.invariant.given c.stretches.invariant.from c.stretches-test.true c.stretches.invariant.divided c.requires.ends c.in-Some-get.at (sym c.get.ensures ∙ c.in-Some-get.is) c.index_mut-column.result.now (column_read c.stretches.columns.items c.in-Some-get.at c.index_mut-column.result.now (give_within c.args.opens.now c.args.map.now.pieces c.args.columns.now.items c.stretches.columns.items c.requires.opens c.requires.columns c.args.task c.in-Some.number c.args.range.lo c.args.range.hi c.stretches.cell c.in-Some.ensures.found c.requires.named c.stretches.invariant.given c.stretches.invariant.from c.stretches-test.true c.stretches.invariant.divided c.requires.ends c.in-Some-get.at (sym c.get.ensures ∙ c.in-Some-get.is)) c.index_mut-column.ensures.value)).1, c.give_in.ensures.hi, c.stretches-test.true)

pub stretches-preserved : goal.stretches-preserved
stretches-preserved c = record {
  given = subst (λ (x : ℕ). IsGivenTo c.args.task c.args.range.lo x c.args.columns.now.items (set c.stretches.columns.items c.in-Some-get.at c.give_in.new.column)) (sym c.give_in.ensures.hi) (give_goes c.args.opens.now c.args.map.now.pieces c.args.columns.now.items c.stretches.columns.items c.requires.opens c.requires.columns c.args.task c.in-Some.number c.args.range.lo c.args.range.hi c.stretches.cell c.in-Some.ensures.found c.requires.named c.stretches.invariant.given c.stretches.invariant.from c.stretches-test.true c.stretches.invariant.divided c.requires.ends c.in-Some-get.at (sym c.get.ensures ∙ c.in-Some-get.is) c.index_mut-column.result.now (column_read c.stretches.columns.items c.in-Some-get.at c.index_mut-column.result.now (give_within c.args.opens.now c.args.map.now.pieces c.args.columns.now.items c.stretches.columns.items c.requires.opens c.requires.columns c.args.task c.in-Some.number c.args.range.lo c.args.range.hi c.stretches.cell c.in-Some.ensures.found c.requires.named c.stretches.invariant.given c.stretches.invariant.from c.stretches-test.true c.stretches.invariant.divided c.requires.ends c.in-Some-get.at (sym c.get.ensures ∙ c.in-Some-get.is)) c.index_mut-column.ensures.value) c.give_in.new.column c.give_in.ensures.lo c.give_in.ensures.hi c.give_in.ensures.asked c.give_in.ensures.frames c.give_in.ensures.marked c.give_in.ensures.room c.give_in.ensures.given);
  from = omega (arith, (give_in_here c.args.opens.now c.args.map.now.pieces c.args.columns.now.items c.stretches.columns.items c.requires.opens c.requires.columns c.args.task c.in-Some.number c.args.range.lo c.args.range.hi c.stretches.cell c.in-Some.ensures.found c.requires.named c.stretches.invariant.given c.stretches.invariant.from c.stretches-test.true c.stretches.invariant.divided c.requires.ends c.in-Some-get.at (sym c.get.ensures ∙ c.in-Some-get.is) c.index_mut-column.result.now (column_read c.stretches.columns.items c.in-Some-get.at c.index_mut-column.result.now (give_within c.args.opens.now c.args.map.now.pieces c.args.columns.now.items c.stretches.columns.items c.requires.opens c.requires.columns c.args.task c.in-Some.number c.args.range.lo c.args.range.hi c.stretches.cell c.in-Some.ensures.found c.requires.named c.stretches.invariant.given c.stretches.invariant.from c.stretches-test.true c.stretches.invariant.divided c.requires.ends c.in-Some-get.at (sym c.get.ensures ∙ c.in-Some-get.is)) c.index_mut-column.ensures.value)).1, c.give_in.ensures.hi, c.stretches.invariant.from);
  upto = omega (arith, give_end c.args.opens.now c.args.map.now.pieces c.args.columns.now.items c.stretches.columns.items c.requires.opens c.requires.columns c.args.task c.in-Some.number c.args.range.lo c.args.range.hi c.stretches.cell c.in-Some.ensures.found c.requires.named c.stretches.invariant.given c.stretches.invariant.from c.stretches-test.true c.stretches.invariant.divided c.requires.ends c.in-Some-get.at (sym c.get.ensures ∙ c.in-Some-get.is) c.index_mut-column.result.now (column_read c.stretches.columns.items c.in-Some-get.at c.index_mut-column.result.now (give_within c.args.opens.now c.args.map.now.pieces c.args.columns.now.items c.stretches.columns.items c.requires.opens c.requires.columns c.args.task c.in-Some.number c.args.range.lo c.args.range.hi c.stretches.cell c.in-Some.ensures.found c.requires.named c.stretches.invariant.given c.stretches.invariant.from c.stretches-test.true c.stretches.invariant.divided c.requires.ends c.in-Some-get.at (sym c.get.ensures ∙ c.in-Some-get.is)) c.index_mut-column.ensures.value), c.give_in.ensures.hi);
  divided = λ i a e. subst (λ (x : ℕ). (x ≤ a.lo) ⊎ (a.hi ≤ x)) (sym c.give_in.ensures.hi) (give_divides c.args.opens.now c.args.map.now.pieces c.args.columns.now.items c.stretches.columns.items c.requires.opens c.requires.columns c.args.task c.in-Some.number c.args.range.lo c.args.range.hi c.stretches.cell c.in-Some.ensures.found c.requires.named c.stretches.invariant.given c.stretches.invariant.from c.stretches-test.true c.stretches.invariant.divided c.requires.ends c.in-Some-get.at (sym c.get.ensures ∙ c.in-Some-get.is) c.index_mut-column.result.now (column_read c.stretches.columns.items c.in-Some-get.at c.index_mut-column.result.now (give_within c.args.opens.now c.args.map.now.pieces c.args.columns.now.items c.stretches.columns.items c.requires.opens c.requires.columns c.args.task c.in-Some.number c.args.range.lo c.args.range.hi c.stretches.cell c.in-Some.ensures.found c.requires.named c.stretches.invariant.given c.stretches.invariant.from c.stretches-test.true c.stretches.invariant.divided c.requires.ends c.in-Some-get.at (sym c.get.ensures ∙ c.in-Some-get.is)) c.index_mut-column.ensures.value) c.give_in.new.column c.give_in.ensures.lo c.give_in.ensures.hi c.give_in.ensures.asked c.give_in.ensures.frames c.give_in.ensures.marked c.give_in.ensures.room c.give_in.ensures.given i a e);
}

pub unreachable-requires : goal.unreachable-requires
unreachable-requires c = give_gap c.args.opens.now c.args.map.now.pieces c.args.columns.now.items c.stretches.columns.items c.requires.opens c.requires.columns c.args.task c.in-Some.number c.args.range.lo c.args.range.hi c.stretches.cell c.in-Some.ensures.found c.requires.named c.stretches.invariant.given c.stretches.invariant.from c.stretches-test.true c.stretches.invariant.divided c.requires.ends (sym c.get.ensures ∙ c.in-None-get.is)

pub returns-clause-columns : goal.returns-clause-columns
returns-clause-columns c = given_columns c.args.task c.args.range.lo c.stretches.cell c.args.opens.now c.args.map.now.pieces c.args.columns.now.items c.stretches.columns.items c.stretches.invariant.given c.requires.columns

pub returns-clause-given : goal.returns-clause-given
returns-clause-given c = λ t k. give_ends c.args.opens.now c.args.map.now.pieces c.args.columns.now.items c.stretches.columns.items c.requires.opens c.requires.columns c.args.task c.args.range.lo c.args.range.hi c.requires.named c.requires.begins c.requires.ends (subst (λ (x : ℕ). IsGivenTo c.args.task c.args.range.lo x c.args.columns.now.items c.stretches.columns.items) (omega (arith, c.stretches.invariant.upto, c.stretches-test.false)) c.stretches.invariant.given) t k

pub returns-clause-asked : goal.returns-clause-asked
returns-clause-asked c = λ k. given_asked c.args.task c.args.range.lo c.stretches.cell c.args.columns.now.items c.stretches.columns.items c.stretches.invariant.given k

pub returns-clause-ready : goal.returns-clause-ready
returns-clause-ready c = λ reserved r. given_ready c.args.task c.args.range.lo c.stretches.cell c.args.columns.now.items c.stretches.columns.items c.stretches.invariant.given reserved r
