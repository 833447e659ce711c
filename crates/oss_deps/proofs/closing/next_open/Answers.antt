use Rattle.std.proofs.Common.{◌≡◌, ◌<◌, ℕ, rules, arith, length, get_or, sym, ap, subst, ◌∙◌, Option, None, Some}
use Rattle.std.proofs.lemmas.Option.{slice_get-get_or}
use Rattle.std.specs.Prelude.{false}
use Rattle.oss_deps.specs.declared.frame.Frame.{Frame}
use Rattle.oss_deps.specs.Places.{IsNextOpen, closed_at, closed_mark}
use Rattle.oss_deps.proofs.Basics.{same_at}
use Rattle.oss_deps.specs.Places.{blank, unmarked}
use Rattle.oss_deps.proofs.CloseLemmas.{IsNextLeft, next_begins, next_within, next_stops, next_goes, next_falls}
use Rattle.oss_deps.proofs.closing.next_open.Goals as goal

pub siblings-init : goal.siblings-init
siblings-init c = next_begins c.args.frames.now c.args.marks.now c.requires.linked c.args.at c.requires.within

pub offset_bounds-marks-one : goal.offset_bounds-marks-one
offset_bounds-marks-one c =
    let w = next_within c.args.frames.now c.args.marks.now c.requires.linked c.args.at c.requires.within c.siblings.next c.in-Some.one c.in-Some.is c.siblings.invariant in
    let h : c.in-Some.one < length c.args.marks.now = omega (arith, w.1, c.requires.same) in
    search rules

pub bounds-marks-one : goal.bounds-marks-one
bounds-marks-one c = let w = next_within c.args.frames.now c.args.marks.now c.requires.linked c.args.at c.requires.within c.siblings.next c.in-Some.one c.in-Some.is c.siblings.invariant in omega (arith, w.1, c.requires.same)

pub returns-then-not-is_closed : goal.returns-then-not-is_closed
returns-then-not-is_closed c = λ f is.
    let w = next_within c.args.frames.now c.args.marks.now c.requires.linked c.args.at c.requires.within c.siblings.next c.in-Some.one c.in-Some.is c.siblings.invariant in
    let m : closed_at c.args.marks.now c.in-Some.one ≡ false = ap closed_mark (slice_get-get_or c.args.marks.now c.in-Some.one unmarked (omega (arith, w.1, c.requires.same))) ∙ sym c.is_closed.ensures ∙ c.if-not-is_closed.true in
    subst (λ (x : Frame). IsNextOpen c.args.frames.now c.args.marks.now x.up c.args.at (Some c.in-Some.one)) (same_at (slice_get-get_or c.args.frames.now c.args.at blank c.requires.within.1) is)
    (next_stops c.args.frames.now c.args.marks.now c.requires.linked c.args.at c.requires.within c.siblings.next c.in-Some.one c.in-Some.is c.siblings.invariant m)

pub siblings-smaller : goal.siblings-smaller
siblings-smaller c = next_falls c.args.frames.now c.args.marks.now c.requires.linked c.args.at c.requires.within c.siblings.next c.in-Some.one c.in-Some.is c.siblings.invariant

pub siblings-preserved : goal.siblings-preserved
siblings-preserved c =
    let w = next_within c.args.frames.now c.args.marks.now c.requires.linked c.args.at c.requires.within c.siblings.next c.in-Some.one c.in-Some.is c.siblings.invariant in
    next_goes c.args.frames.now c.args.marks.now c.requires.linked c.args.at c.requires.within c.siblings.next c.in-Some.one c.in-Some.is c.siblings.invariant (ap closed_mark (slice_get-get_or c.args.marks.now c.in-Some.one unmarked (omega (arith, w.1, c.requires.same))) ∙ sym c.is_closed.ensures ∙ c.if-not-is_closed.false)

pub returns : goal.returns
returns c = λ f is.
    subst (λ (x : Frame). IsNextOpen c.args.frames.now c.args.marks.now x.up c.args.at None) (same_at (slice_get-get_or c.args.frames.now c.args.at blank c.requires.within.1) is)
    (subst (λ (o : Option ℕ). IsNextLeft c.args.frames.now c.args.marks.now (get_or c.args.frames.now c.args.at blank).up c.args.at o) c.in_default.is c.siblings.invariant)
