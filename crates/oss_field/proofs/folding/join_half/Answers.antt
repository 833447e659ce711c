use Rattle.std.proofs.Common.{sym, subst, ℕ, ◌+◌, ◌%◌, ◌^◌, arith}
use Rattle.oss_field.specs.Folding.{JoinsHalf}
use Rattle.oss_field.specs.Layout.{state_word_of}
use Rattle.oss_field.specs.Steps.{Steps}
use Rattle.oss_field.proofs.FoldFlagLemmas.{joins_half}
use Rattle.oss_field.proofs.folding.join_half.Goals as goal

pub add_flag-requires-clause-inside : goal.add_flag-requires-clause-inside
add_flag-requires-clause-inside c = let i = c.state_place.ensures in let w = c.requires.on.words in let m = c.requires.cells in let l = c.requires.combined.inside in omega (arith, i, w, m, l)

pub add_flag-requires-clause-keeps : goal.add_flag-requires-clause-keeps
add_flag-requires-clause-keeps c =
    let key = c.args.words.now.key in
    let id = c.args.seat.now.id in
    let v = c.args.seat.now.me.0 in
    subst (λ (i : ℕ). Steps key.code.value key.fuel key.entries id v i (λ x. (x + 8) % 2 ^ 64) (λ x l. JoinsHalf key.entries c.args.cells c.args.entry c.args.info x v.known l)) (sym c.state_place.ensures)
    (subst (λ (m : ℕ). Steps key.code.value key.fuel key.entries id v (state_word_of m c.args.entry) (λ x. (x + 8) % 2 ^ 64) (λ x l. JoinsHalf key.entries m c.args.entry c.args.info x v.known l)) (sym c.requires.cells)
    (joins_half key.code.value key.fuel key.entries id v c.args.entry c.args.info c.requires.combined c.args._last c.requires.last))
