use Rattle.std.proofs.Common.{subst, ap, ◌∙◌, arith, List, length}
use Rattle.oss_field.specs.declared.held.Held.{Held}
use Rattle.oss_field.specs.Folding.{FindsJoin}
use Rattle.oss_field.proofs.FoldedLemmas.{all_folded, first_midway, join_there, midway_joined}
use Rattle.oss_field.proofs.folding.fold_first.Goals as goal

pub swap_remove-first-requires : goal.swap_remove-first-requires
swap_remove-first-requires c =
    let there = join_there c.args.held.now.items c.args.words.now.key.entries c.args.place.now.me.0.known c.args.entry c.join_place.result (record { entry = 0; flag = 0; info = 0 }) c.requires.settled c.requires.first (subst (λ (xs : List Held). FindsJoin xs c.args.entry (length xs) c.join_place.result) c.as_slice.ensures.value c.join_place.ensures.found) in
    let l = there.0 in
    let o = c.args.held.now.ok in
    omega (arith, l, o)

pub join_value-requires-clause-inside : goal.join_value-requires-clause-inside
join_value-requires-clause-inside c =
    let there = join_there c.args.held.now.items c.args.words.now.key.entries c.args.place.now.me.0.known c.args.entry c.join_place.result c.swap_remove-first.result c.requires.settled c.requires.first (subst (λ (xs : List Held). FindsJoin xs c.args.entry (length xs) c.join_place.result) c.as_slice.ensures.value c.join_place.ensures.found) in
    (first_midway c.args.held.now.items c.args.words.now.key.entries c.args.place.now.me.0.known c.args.entry c.join_place.result c.swap_remove-first.result c.requires.settled c.requires.first there.0 c.swap_remove-first.ensures.value (ap (λ (z : Held). z.entry) c.swap_remove-first.ensures.value ∙ there.1) (ap (λ (z : Held). z.flag) c.swap_remove-first.ensures.value ∙ there.2) c.swap_remove-first.new.self.items c.swap_remove-first.ensures.items).inside

pub join_value-requires-clause-held : goal.join_value-requires-clause-held
join_value-requires-clause-held c =
    let there = join_there c.args.held.now.items c.args.words.now.key.entries c.args.place.now.me.0.known c.args.entry c.join_place.result c.swap_remove-first.result c.requires.settled c.requires.first (subst (λ (xs : List Held). FindsJoin xs c.args.entry (length xs) c.join_place.result) c.as_slice.ensures.value c.join_place.ensures.found) in
    (first_midway c.args.held.now.items c.args.words.now.key.entries c.args.place.now.me.0.known c.args.entry c.join_place.result c.swap_remove-first.result c.requires.settled c.requires.first there.0 c.swap_remove-first.ensures.value (ap (λ (z : Held). z.entry) c.swap_remove-first.ensures.value ∙ there.1) (ap (λ (z : Held). z.flag) c.swap_remove-first.ensures.value ∙ there.2) c.swap_remove-first.new.self.items c.swap_remove-first.ensures.items).held

pub join_value-requires-clause-told : goal.join_value-requires-clause-told
join_value-requires-clause-told c =
    let there = join_there c.args.held.now.items c.args.words.now.key.entries c.args.place.now.me.0.known c.args.entry c.join_place.result c.swap_remove-first.result c.requires.settled c.requires.first (subst (λ (xs : List Held). FindsJoin xs c.args.entry (length xs) c.join_place.result) c.as_slice.ensures.value c.join_place.ensures.found) in
    (first_midway c.args.held.now.items c.args.words.now.key.entries c.args.place.now.me.0.known c.args.entry c.join_place.result c.swap_remove-first.result c.requires.settled c.requires.first there.0 c.swap_remove-first.ensures.value (ap (λ (z : Held). z.entry) c.swap_remove-first.ensures.value ∙ there.1) (ap (λ (z : Held). z.flag) c.swap_remove-first.ensures.value ∙ there.2) c.swap_remove-first.new.self.items c.swap_remove-first.ensures.items).told

pub join_value-requires-clause-unjoined : goal.join_value-requires-clause-unjoined
join_value-requires-clause-unjoined c =
    let there = join_there c.args.held.now.items c.args.words.now.key.entries c.args.place.now.me.0.known c.args.entry c.join_place.result c.swap_remove-first.result c.requires.settled c.requires.first (subst (λ (xs : List Held). FindsJoin xs c.args.entry (length xs) c.join_place.result) c.as_slice.ensures.value c.join_place.ensures.found) in
    (first_midway c.args.held.now.items c.args.words.now.key.entries c.args.place.now.me.0.known c.args.entry c.join_place.result c.swap_remove-first.result c.requires.settled c.requires.first there.0 c.swap_remove-first.ensures.value (ap (λ (z : Held). z.entry) c.swap_remove-first.ensures.value ∙ there.1) (ap (λ (z : Held). z.flag) c.swap_remove-first.ensures.value ∙ there.2) c.swap_remove-first.new.self.items c.swap_remove-first.ensures.items).joined

pub give_folded-requires-clause-midway : goal.give_folded-requires-clause-midway
give_folded-requires-clause-midway c =
    let there = join_there c.args.held.now.items c.args.words.now.key.entries c.args.place.now.me.0.known c.args.entry c.join_place.result c.swap_remove-first.result c.requires.settled c.requires.first (subst (λ (xs : List Held). FindsJoin xs c.args.entry (length xs) c.join_place.result) c.as_slice.ensures.value c.join_place.ensures.found) in
    midway_joined c.swap_remove-first.new.self.items c.args.words.now.key.entries c.args.entry c.swap_remove-first.result.info c.args.place.now.me.0.known c.join_value.new.place.me.0.known (first_midway c.args.held.now.items c.args.words.now.key.entries c.args.place.now.me.0.known c.args.entry c.join_place.result c.swap_remove-first.result c.requires.settled c.requires.first there.0 c.swap_remove-first.ensures.value (ap (λ (z : Held). z.entry) c.swap_remove-first.ensures.value ∙ there.1) (ap (λ (z : Held). z.flag) c.swap_remove-first.ensures.value ∙ there.2) c.swap_remove-first.new.self.items c.swap_remove-first.ensures.items) c.join_value.ensures.joined

pub returns-clause-folded : goal.returns-clause-folded
returns-clause-folded c =
    let there = join_there c.args.held.now.items c.args.words.now.key.entries c.args.place.now.me.0.known c.args.entry c.join_place.result c.swap_remove-first.result c.requires.settled c.requires.first (subst (λ (xs : List Held). FindsJoin xs c.args.entry (length xs) c.join_place.result) c.as_slice.ensures.value c.join_place.ensures.found) in
    all_folded c.args.held.now.items c.args.words.now.key.entries c.args.place.now.me.0.known c.args.entry c.join_place.result c.swap_remove-first.result c.requires.settled c.requires.first there.0 c.swap_remove-first.ensures.value (ap (λ (z : Held). z.entry) c.swap_remove-first.ensures.value ∙ there.1) (ap (λ (z : Held). z.flag) c.swap_remove-first.ensures.value ∙ there.2) c.join_value.new.place.me.0.known c.give_folded.new.place.me.0.known c.join_value.ensures.joined c.give_folded.ensures.gives
