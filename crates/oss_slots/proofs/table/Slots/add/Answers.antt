use Rattle.std.proofs.Common.{◌≡◌, ◌++◌, ◌-◌, List, ℕ, Result, Ok, Err, Some, replicate, length, refl, arith}
use Rattle.std.specs.Prelude.{OnErr, OnOk}
use Rattle.std.proofs.lemmas.List.{length-replicate}
use Rattle.std.specs.declared.alloc.AllocError.{AllocError}
use Rattle.oss_ranges.specs.Cells.{Assigns}
use Rattle.oss_ranges.specs.declared.piece.Piece.{Piece}
use Rattle.oss_slots.specs.Slots.{IsHoused}
use Rattle.oss_slots.specs.declared.home.Home.{Home}
use Rattle.oss_slots.proofs.SlotLemmas.{housed_added, housed_longer}
use Rattle.oss_slots.proofs.table.Slots.add.Goals as goal

-- whether or not the range got its home
either : (result : Result (Unit {0}) AllocError) (old new : List (Piece Home)) (values more : List ℕ) (lo hi : ℕ) (home : Home) → OnOk result (Assigns lo hi (Some home) old new) → OnErr result (new ≡ old)
    → (Assigns lo hi (Some home) old new → IsHoused new (values ++ more)) → IsHoused old (values ++ more) → IsHoused new (values ++ more)
either (Ok done) old new values more lo hi home ok err here there = here ok
either (Err e) old new values more lo hi home ok err here there = rw err there

pub invariant_of-self-2 : goal.invariant_of-self-2
invariant_of-self-2 c =
    let homes = c.self.inside.homes.pieces in
    let values = c.self.inside.values.items in
    let more = replicate (c.args.range.hi - c.args.range.lo) c.neutral.result in
    let home : Home = record { op = c.args.op; lo = c.args.range.lo; first = c.len-first.result } in
    let new = c.assign.new.self.pieces in
    let mid = c.reserve.new.self.pieces in
    let same : mid ≡ homes = c.in_ok-reserve.ensures.same in
    let housed : IsHoused mid values = rw same c.self.invariant in
    let first : c.len-first.result ≡ length values = omega arith in
    rw c.in_ok-fill.ensures.filled
    (either c.assign.result mid new values more c.args.range.lo c.args.range.hi home c.assign.ensures.map c.assign.ensures.refused
    (λ assigns. housed_added values more c.args.range.lo c.args.range.hi home refl first (length-replicate _ _) mid new assigns housed)
    (housed_longer mid values more housed))
