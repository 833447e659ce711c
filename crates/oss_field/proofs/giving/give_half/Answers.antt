use Rattle.std.proofs.Common.{sym, subst, ℕ, ◌+◌, ◌%◌, ◌^◌, arith}
use Rattle.oss_field.specs.Giving.{HasGivenHalf}
use Rattle.oss_field.specs.Layout.{state_word_of}
use Rattle.oss_field.specs.Steps.{Steps}
use Rattle.oss_field.proofs.GivenLemmas.{steps_half}
use Rattle.oss_field.proofs.giving.give_half.Goals as goal

pub add_given-requires-clause-inside : goal.add_given-requires-clause-inside
add_given-requires-clause-inside c = let i = c.state_place.ensures in let w = c.requires.on.words in let m = c.requires.cells in let l = c.requires.may.inside in omega (arith, i, w, m, l)

pub add_given-requires-clause-keeps : goal.add_given-requires-clause-keeps
add_given-requires-clause-keeps c =
    let key = c.args.words.now.key in
    let id = c.args.seat.now.id in
    let v = c.args.seat.now.me.0 in
    subst (λ (i : ℕ). Steps key.code.value key.fuel key.entries id v i (λ x. (x + 8) % 2 ^ 64) (λ x l. HasGivenHalf key.code.value c.args.job.now c.args.cells c.args.cell c.args.entry c.args.last x v.known l)) (sym c.state_place.ensures)
    (subst (λ (m : ℕ). Steps key.code.value key.fuel key.entries id v (state_word_of m c.args.entry) (λ x. (x + 8) % 2 ^ 64) (λ x l. HasGivenHalf key.code.value c.args.job.now m c.args.cell c.args.entry c.args.last x v.known l)) (sym c.requires.cells)
    (steps_half key.code.value key.fuel key.entries id v c.args.job.now c.args.cell c.args.entry c.args.last c.requires.may))
