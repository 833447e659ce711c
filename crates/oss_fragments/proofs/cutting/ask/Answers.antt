use Rattle.std.proofs.Common.{sym, ◌∙◌, arith}
use Rattle.oss_fragments.proofs.StretchLemmas.{fragment_read}
use Rattle.oss_fragments.proofs.StretchLemmas.{inside_within}
use Rattle.oss_fragments.proofs.CutLemmas.{asked_begins, asked_set, ask_begin, ask_gap, cut_asked, cut_ended}
use Rattle.oss_fragments.proofs.cutting.ask.Goals as goal

pub returns-then-cell-ge-CELLS-clause-same : goal.returns-then-cell-ge-CELLS-clause-same
returns-then-cell-ge-CELLS-clause-same c = asked_begins c.args.fragments.now.items

pub returns-then-cell-ge-CELLS-clause-cuts : goal.returns-then-cell-ge-CELLS-clause-cuts
returns-then-cell-ge-CELLS-clause-cuts c = λ k. cut_ended c.args.fragments.now.items c.args.ended.now c.args.cell k (omega (arith, c.requires.bound, c.if-cell-ge-CELLS.true))

pub returns-clause-same : goal.returns-clause-same
returns-clause-same c = asked_set c.args.fragments.now.items c.in-Some.at c.index_mut.result.now (fragment_read c.args.fragments.now.items c.in-Some.at c.index_mut.result.now (inside_within c.args.map.now.pieces c.args.fragments.now.items c.in-Some.at c.args.cell c.requires.are (sym c.get.ensures ∙ c.in-Some.is)) c.index_mut.ensures.value)

pub returns-clause-cuts : goal.returns-clause-cuts
returns-clause-cuts c = λ k. cut_asked c.args.fragments.now.items c.args.ended.now c.in-Some.at c.index_mut.result.now c.args.cell k (fragment_read c.args.fragments.now.items c.in-Some.at c.index_mut.result.now (inside_within c.args.map.now.pieces c.args.fragments.now.items c.in-Some.at c.args.cell c.requires.are (sym c.get.ensures ∙ c.in-Some.is)) c.index_mut.ensures.value) (ask_begin c.args.map.now.pieces c.args.fragments.now.items c.in-Some.at c.args.cell c.index_mut.result.now c.requires.are c.requires.divided (sym c.get.ensures ∙ c.in-Some.is) (fragment_read c.args.fragments.now.items c.in-Some.at c.index_mut.result.now (inside_within c.args.map.now.pieces c.args.fragments.now.items c.in-Some.at c.args.cell c.requires.are (sym c.get.ensures ∙ c.in-Some.is)) c.index_mut.ensures.value))

pub unreachable-requires : goal.unreachable-requires
unreachable-requires c = ask_gap c.args.map.now.pieces c.args.fragments.now.items c.args.cell c.requires.are c.requires.some c.if-cell-ge-CELLS.false (sym c.get.ensures ∙ c.in-None.is)
