use Rattle.std.proofs.Common.{◌≡◌, ◌≤◌, ◌+◌, [], arith, sym}
use Rattle.std.proofs.lemmas.List.{append-nil}
use Rattle.oss_pieces.specs.CellSets.{has}
use Rattle.oss_pieces.specs.Rows.{Grid, grid}
use Rattle.oss_pieces.proofs.RunLemmas.{between_at_start}
use Rattle.oss_pieces.proofs.StepLemmas.{no_pieces, with_run, without_more}
use Rattle.oss_pieces.proofs.WholeRowLemmas.{between_past, pieces_past}
use Rattle.oss_pieces.proofs.finding.add_pieces_of.Goals as goal

pub loop-at-init : goal.loop-at-init
loop-at-init c = (omega arith, omega arith, between_at_start (grid c.args.shape) (has c.args.set.now), ([], no_pieces (grid c.args.shape) c.args.number (has c.args.set.now), sym (append-nil _)))

pub loop-at-preserved : goal.loop-at-preserved
loop-at-preserved c =
    let s : Grid = grid c.args.shape in
    let inv = c.loop-at.invariant in
    let added = c.in_ok-to.ensures in
    let run = added.run in
    let past = c.past_whole_rows-at.ensures in
    let from : c.loop-at.at ≤ c.next_cell-begin.result = c.next_cell-begin.ensures.from in
    let more = with_run s c.args.number (has c.args.set.now) c.loop-at.at c.next_cell-begin.result c.in_ok-to.to c.args.found.now.items inv.3.0 c.loop-at.found.items c.add_piece_at.new.found.items
    inv.0 from c.next_cell-begin.ensures.none inv.3.1 inv.3.2 added in (
      omega (arith, run.some, past.next_is, from, inv.0),
      past.within,
      between_past s (has c.args.set.now) c.args.shape.some c.args.number more.0 c.next_cell-begin.result c.in_ok-to.to c.past_whole_rows-at.result c.loop-at.found.items c.add_piece_at.new.found.items added past,
      (
        more.0,
        pieces_past s (has c.args.set.now) c.args.shape.some c.args.number more.0 c.next_cell-begin.result c.in_ok-to.to c.past_whole_rows-at.result c.loop-at.found.items c.add_piece_at.new.found.items added past more.1,
        more.2,
      ),
    )

pub returns-then-begin-end : goal.returns-then-begin-end
returns-then-begin-end c =
    let s : Grid = grid c.args.shape in
    let inv = c.loop-at.invariant in
    let e : c.next_cell-begin.result ≡ s.start + s.cells = omega arith in (
      inv.3.0,
      without_more s c.args.number (has c.args.set.now) c.loop-at.at (s.start + s.cells) inv.3.0 inv.3.1 inv.1
          (λ k from below. c.next_cell-begin.ensures.none k from (omega arith)),
      inv.3.2,
    )
