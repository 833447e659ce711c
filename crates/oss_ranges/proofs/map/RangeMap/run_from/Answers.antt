use Rattle.std.proofs.Common.{◌≡◌, Some, None, sym, ◌∙◌, arith}
use Rattle.oss_ranges.proofs.CutLemmas.{next_within}
use Rattle.oss_ranges.proofs.EdgeLemmas.{edge_least, edges_next}
use Rattle.oss_ranges.proofs.MapLemmas.{none_past, run_gap, run_none, run_value}
use Rattle.oss_ranges.specs.Cells.{next_of}
use Rattle.oss_ranges.proofs.map.RangeMap.run_from.Goals as goal

pub returns-then-piece-from-clause-alike : goal.returns-then-piece-from-clause-alike
returns-then-piece-from-clause-alike g c = λ cell low high.
    let found : next_of c.args.from c.args.self.now.pieces ≡ Some c.in-Some.piece = sym c.next.ensures.found ∙ c.in-Some.is in
    let least = c.min.ensures in
    run_value 1048576 c.args.from cell c.in-Some.piece c.args.self.now.pieces c.next.ensures.rising found c.if-piece-from.true low (omega arith)

pub returns-then-piece-from-clause-some : goal.returns-then-piece-from-clause-some
returns-then-piece-from-clause-some g c =
    let found : next_of c.args.from c.args.self.now.pieces ≡ Some c.in-Some.piece = sym c.next.ensures.found ∙ c.in-Some.is in
    let at = next_within 0 1048576 c.args.from c.in-Some.piece c.args.self.now.pieces c.next.ensures.rising found in
    let high = at.3 in let least = c.min.ensures in let asked = c.requires in
    omega arith

pub returns-else-piece-from-clause-alike : goal.returns-else-piece-from-clause-alike
returns-else-piece-from-clause-alike g c = λ cell low high.
    let found : next_of c.args.from c.args.self.now.pieces ≡ Some c.in-Some.piece = sym c.next.ensures.found ∙ c.in-Some.is in
    let at = next_within 0 1048576 c.args.from c.in-Some.piece c.args.self.now.pieces c.next.ensures.rising found in
    let least = c.min-else-piece-from.ensures in
    run_gap 1048576 c.args.from cell c.in-Some.piece c.args.self.now.pieces c.next.ensures.rising found low (omega arith) at.1

pub returns-in-None-clause-alike : goal.returns-in-None-clause-alike
returns-in-None-clause-alike g c = λ cell low high.
    let found : next_of c.args.from c.args.self.now.pieces ≡ None = sym c.next.ensures.found ∙ c.in-None.is in
    run_none 1048576 c.args.from cell c.args.self.now.pieces c.next.ensures.rising found low

pub returns-then-piece-from-clause-past : goal.returns-then-piece-from-clause-past
returns-then-piece-from-clause-past g c = λ cell far.
    none_past 0 1048576 cell c.args.self.now.pieces c.next.ensures.rising far

pub returns-else-piece-from-clause-past : goal.returns-else-piece-from-clause-past
returns-else-piece-from-clause-past g c = λ cell far.
    none_past 0 1048576 cell c.args.self.now.pieces c.next.ensures.rising far

pub returns-in-None-clause-past : goal.returns-in-None-clause-past
returns-in-None-clause-past g c = λ cell far.
    none_past 0 1048576 cell c.args.self.now.pieces c.next.ensures.rising far

pub returns-then-piece-from-clause-whole : goal.returns-then-piece-from-clause-whole
returns-then-piece-from-clause-whole g c =
    let found : next_of c.args.from c.args.self.now.pieces ≡ Some c.in-Some.piece = sym c.next.ensures.found ∙ c.in-Some.is in
    let edges = edges_next c.args.from c.in-Some.piece c.args.self.now.pieces found in
    rw c.min.ensures (edge_least c.in-Some.piece.hi c.args.to c.args.self.now.pieces edges.1)

pub returns-else-piece-from-clause-whole : goal.returns-else-piece-from-clause-whole
returns-else-piece-from-clause-whole g c =
    let found : next_of c.args.from c.args.self.now.pieces ≡ Some c.in-Some.piece = sym c.next.ensures.found ∙ c.in-Some.is in
    let edges = edges_next c.args.from c.in-Some.piece c.args.self.now.pieces found in
    rw c.min-else-piece-from.ensures (edge_least c.in-Some.piece.lo c.args.to c.args.self.now.pieces edges.0)
