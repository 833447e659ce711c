use Rattle.std.proofs.Common.{◌≡◌, ℕ, ◌<◌, sym, ap, subst, arith, length, true}
use Rattle.std.proofs.lemmas.Option.{slice_get-get_or}
use Rattle.oss_syntax.specs.declared.access.Mode.{Mode}
use Rattle.oss_model.specs.Rights.{covers}
use Rattle.oss_access_lists.specs.declared.hang.Hang.{Hang}
use Rattle.oss_access_lists.specs.Tables.{hang_at, wires_of}
use Rattle.oss_retire.specs.Copies.{at_}
use Rattle.oss_retire.proofs.CopyLemmas.{below_rises, holds_on, kept_on, place_covers, place_within}
use Rattle.oss_retire.proofs.copying.Copy.keep.Goals as goal

pub place_of-above-requires : goal.place_of-above-requires
place_of-above-requires c =
    let rises = below_rises (wires_of c.args.line.now.hangs) c.is_settled-settled.ensures.wired c.args.owner c.args.at c.requires.below in
    let placed = c.requires.copied.placed in
    omega (arith, rises, placed)

pub hang-requires-2-clause-within : goal.hang-requires-2-clause-within
hang-requires-2-clause-within c =
    subst (λ (x : ℕ). x < length c.args.self.now.line.hangs) (sym c.place_of-above.ensures.place)
    (place_within c.args.line.now.hangs c.args.line.now.stand c.args.numbers.now c.args.self.now.line.hangs c.args.self.now.numbers.items c.args.self.now.places.items c.args.self.now.owners.items c.args.at c.requires.copied
    (c.is_settled-settled.ensures.rest c.requires.settled) c.is_settled-settled.ensures.listed c.requires.within.1 c.args.owner c.requires.below c.requires.not_spent)

pub hang-requires-2-clause-covered : goal.hang-requires-2-clause-covered
hang-requires-2-clause-covered c =
    subst (λ (x : ℕ). covers (hang_at c.args.self.now.line.hangs x).mode c.hang.result.mode ≡ true) (sym c.place_of-above.ensures.place)
    (subst (λ (m : Mode). covers (hang_at c.args.self.now.line.hangs (at_ c.args.self.now.places.items c.args.owner)).mode m ≡ true) (sym (ap (λ (h : Hang). h.mode) c.hang.ensures))
    (place_covers c.args.line.now.hangs c.args.line.now.stand c.args.numbers.now c.args.self.now.line.hangs c.args.self.now.numbers.items c.args.self.now.places.items c.args.self.now.owners.items c.args.at c.requires.copied
    (c.is_settled-settled.ensures.rest c.requires.settled) c.is_settled-settled.ensures.listed c.requires.within.1 c.args.owner c.requires.below c.requires.not_spent c.place_of-above.ensures.wired))

pub returns-clause-copied : goal.returns-clause-copied
returns-clause-copied c =
    let size = c.requires.size in
    let last = c.requires.within.1 in
    let number : ℕ = at_ c.args.numbers.now c.args.at in
    kept_on c.args.line.now.hangs c.args.line.now.stand c.args.numbers.now c.args.self.now.line.hangs c.args.self.now.numbers.items c.args.self.now.places.items c.args.self.now.owners.items c.args.at c.requires.copied c.in_ok-place.place c.args.owner
    c.requires.within.0 c.requires.below c.is_settled-settled.ensures.wired c.place_of-above.ensures.wired c.place_of-above.result c.place_of-above.ensures.place c.hang.result.mode (ap (λ (h : Hang). h.mode) c.hang.ensures)
    c.hang-2.new.self.line.hangs c.in_ok-place.ensures.hangs c.in_ok-place.ensures.hung c.in_ok-place.ensures.place number (slice_get-get_or c.args.numbers.now c.args.at 0 (omega (arith, size, last))) c.requires.not_spent
    c.hang-2.new.self.numbers.items c.hang-2.new.self.places.items c.hang-2.new.self.owners.items c.in_ok-place.ensures.numbers c.in_ok-place.ensures.rest.0 c.in_ok-place.ensures.rest.1

pub returns-clause-holding : goal.returns-clause-holding
returns-clause-holding c =
    let size = c.requires.size in
    let last = c.requires.within.1 in
    let number : ℕ = at_ c.args.numbers.now c.args.at in
    holds_on c.args.line.now.hangs c.args.line.now.stand c.args.numbers.now c.args.self.now.line.hangs c.args.self.now.numbers.items c.args.self.now.places.items c.args.self.now.owners.items c.args.at c.requires.copied c.in_ok-place.place c.args.owner
    c.requires.within.0 c.requires.below c.is_settled-settled.ensures.wired c.place_of-above.ensures.wired c.place_of-above.result c.place_of-above.ensures.place c.hang.result.mode (ap (λ (h : Hang). h.mode) c.hang.ensures)
    c.hang-2.new.self.line.hangs c.in_ok-place.ensures.hangs c.in_ok-place.ensures.hung c.in_ok-place.ensures.place number (slice_get-get_or c.args.numbers.now c.args.at 0 (omega (arith, size, last))) c.requires.not_spent c.requires.holding
