use Rattle.std.proofs.Common.{ap, ◌∙◌, [], ◌∷◌, length, length-append, arith}
use Rattle.oss_word_deps.specs.Growing.{new_entry}
use Rattle.oss_word_deps.specs.Ledger.{Ledger, ledger_of}
use Rattle.oss_word_deps.proofs.WritingLemmas.{cell_added, may_on}
use Rattle.oss_word_deps.proofs.growing.add_over.Goals as goal

pub parent_at-parent-requires : goal.parent_at-parent-requires
parent_at-parent-requires c =
    let r = c.requires.may in
    let i = c.loop-cell.invariant in
    let g = i.grown r.0 r.1 r.2 r.3 in
    (r.0, r.1, c.args.depth, c.args.first, c.args.access, may_on r.0 r.1 c.args.depth c.args.first c.args.access.range.lo c.loop-cell.cell c.args.creator c.args.access (ledger_of c.args.book.now) (ledger_of c.loop-cell.book) r.2 g.0 g.1 i.from c.loop-cell-test.true)

pub add-requires-clause-parent : goal.add-requires-clause-parent
add-requires-clause-parent c =
    let r = c.requires.may in
    let i = c.loop-cell.invariant in
    let g = i.grown r.0 r.1 r.2 r.3 in (
      r.1.parent,
      c.parent_at-parent.ensures r.0 r.1 c.args.depth c.args.first c.args.access
          (may_on r.0 r.1 c.args.depth c.args.first c.args.access.range.lo c.loop-cell.cell c.args.creator c.args.access (ledger_of c.args.book.now) (ledger_of c.loop-cell.book) r.2 g.0 g.1 i.from c.loop-cell-test.true),
    )

pub loop-cell-preserved : goal.loop-cell-preserved
loop-cell-preserved c =
    let i = c.loop-cell.invariant in
    record {
      grown = λ s o may same.
          let g = i.grown s o may same in
          let on = may_on s o c.args.depth c.args.first c.args.access.range.lo c.loop-cell.cell c.args.creator c.args.access (ledger_of c.args.book.now) (ledger_of c.loop-cell.book) may g.0 g.1 i.from c.loop-cell-test.true in
          cell_added s o c.args.depth c.args.first c.loop-cell.cell c.args.task c.args.creator c.args.access (ledger_of c.args.book.now) (ledger_of c.loop-cell.book) (ledger_of c.add.new.book) c.parent_at-parent.result may same i.from c.loop-cell-test.true g
          (c.parent_at-parent.ensures s o c.args.depth c.args.first c.args.access on) c.add.ensures.grown;
      count = (let a = ap (λ (l : Ledger). length l.entries) c.add.ensures.grown in let b = length-append c.loop-cell.book.entries.items (new_entry (ledger_of c.loop-cell.book) c.args.task c.args.depth c.parent_at-parent.result c.args.first c.args.access c.loop-cell.cell ∷ []) in omega (arith, a, b, i.count));
      same = record { entries = c.add.ensures.room.0 ∙ i.same.entries; marks = c.add.ensures.room.1 ∙ i.same.marks; jobs = c.add.ensures.room.2 ∙ i.same.jobs };
      from = omega (arith, i.from);
      upto = omega (arith, c.loop-cell-test.true);
    }
