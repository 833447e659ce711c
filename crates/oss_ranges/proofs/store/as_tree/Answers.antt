use Rattle.std.proofs.Common.{◌≡◌, Some, sym, ap, subst, ◌∙◌, arith}
use Rattle.oss_ranges.proofs.CopyLemmas.{front_all, front_more, front_none, front_rises}
use Rattle.oss_ranges.proofs.CutLemmas.{next_within}
use Rattle.oss_ranges.specs.Cells.{inserted, next_of, Rises}
use Rattle.oss_ranges.specs.Stores.{kept_of}
use Rattle.oss_ranges.proofs.store.as_tree.Goals as goal

pub pieces-init : goal.pieces-init
pieces-init g c = (c.new-tree.ensures ∙ sym (front_none 0 1048576 0 (kept_of c.args.store.now).pieces c.requires (omega arith)), omega arith)

pub insert-requires-clause-rising : goal.insert-requires-clause-rising
insert-requires-clause-rising g c =
    let found : next_of c.pieces.from (kept_of c.args.store.now).pieces ≡ Some c.in-Some.piece = sym c.next.ensures.found ∙ c.in-Some.is in
    let so_far = c.in_ok-prepare.ensures.same ∙ c.pieces.invariant.0 in
    subst (λ xs. Rises 0 xs 1048576) (sym (ap (inserted c.in-Some.piece) so_far ∙ front_more 0 1048576 c.pieces.from c.in-Some.piece (kept_of c.args.store.now).pieces c.requires found))
    (front_rises 0 1048576 c.in-Some.piece.hi (kept_of c.args.store.now).pieces c.requires)

pub pieces-smaller : goal.pieces-smaller
pieces-smaller g c =
    let found : next_of c.pieces.from (kept_of c.args.store.now).pieces ≡ Some c.in-Some.piece = sym c.next.ensures.found ∙ c.in-Some.is in
    let at = next_within 0 1048576 c.pieces.from c.in-Some.piece (kept_of c.args.store.now).pieces c.requires found in
    let high = at.3 in let within = at.2 in
    omega arith

pub pieces-preserved : goal.pieces-preserved
pieces-preserved g c =
    let found : next_of c.pieces.from (kept_of c.args.store.now).pieces ≡ Some c.in-Some.piece = sym c.next.ensures.found ∙ c.in-Some.is in
    let at = next_within 0 1048576 c.pieces.from c.in-Some.piece (kept_of c.args.store.now).pieces c.requires found in
    let so_far = c.in_ok-prepare.ensures.same ∙ c.pieces.invariant.0 in
    (c.insert.ensures.pieces ∙ ap (inserted c.in-Some.piece) so_far ∙ front_more 0 1048576 c.pieces.from c.in-Some.piece (kept_of c.args.store.now).pieces c.requires found, at.2)

pub returns : goal.returns
returns g c =
    let all = c.pieces.invariant.0 ∙ front_all c.pieces.from (kept_of c.args.store.now).pieces (sym c.next.ensures.found ∙ c.in_default.is) in
    rw c.in_ok-tree.ensures.ok (c.in_ok-prepare-2.ensures.same ∙ all, c.in_ok-prepare-2.ensures.ready)
