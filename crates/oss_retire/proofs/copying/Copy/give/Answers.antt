use Rattle.std.proofs.Common.{ℕ, ◌<◌, sym, subst, ◌∙◌, length}
use Rattle.oss_retire.proofs.GiveLemmas.{given_here, given_out, kept_of, still_copied}
use Rattle.oss_retire.proofs.copying.Copy.give.Goals as goal

pub give-requires-clause-within : goal.give-requires-clause-within
give-requires-clause-within c =
    let place = c.place_of-place.ensures.place in
    subst (λ (x : ℕ). x < length c.args.self.now.line.hangs) (sym place)
    (c.requires.copied.kept c.args.at (kept_of c.args.line.now.hangs c.args.line.now.stand c.args._numbers.now c.args.self.now.line.hangs c.args.self.now.numbers.items c.args.self.now.places.items c.args.self.now.owners.items c.requires.copied c.args.at c.requires.within.0 c.requires.within.1 (λ z. c.if-place-ne0.true (place ∙ z)))).within

pub returns-then-place-ne0-clause-copied : goal.returns-then-place-ne0-clause-copied
returns-then-place-ne0-clause-copied c =
    still_copied c.args.line.now.hangs c.args.line.now.stand c.args._numbers.now c.args.self.now.line.hangs c.args.self.now.numbers.items c.args.self.now.places.items c.args.self.now.owners.items c.requires.copied c.place_of-place.result c.give.new.self.hangs c.give.ensures.gave c.give.ensures.given

pub returns-then-place-ne0-clause-given : goal.returns-then-place-ne0-clause-given
returns-then-place-ne0-clause-given c =
    given_here c.args.line.now.hangs c.args.line.now.stand c.args._numbers.now c.args.self.now.line.hangs c.args.self.now.numbers.items c.args.self.now.places.items c.args.self.now.owners.items c.requires.copied c.place_of-place.result c.give.new.self.hangs c.give.ensures.gave c.give.ensures.given c.args.at c.requires.within.0 c.requires.within.1 (sym c.place_of-place.ensures.place) c.requires.gave c.requires.given

pub returns-else-place-ne0-clause-given : goal.returns-else-place-ne0-clause-given
returns-else-place-ne0-clause-given c =
    given_out c.args.line.now.hangs c.args.line.now.stand c.args._numbers.now c.args.self.now.line.hangs c.args.self.now.numbers.items c.args.self.now.places.items c.args.self.now.owners.items c.requires.copied c.args.at c.requires.within.1 (sym c.place_of-place.ensures.place ∙ c.if-place-ne0.false) c.requires.given
