use Rattle.std.proofs.Common.{sym, subst, ℕ, arith}
use Rattle.oss_field.specs.Layout.{value_word_of}
use Rattle.oss_field.specs.Leaving.{WroteValue}
use Rattle.oss_field.specs.Steps.{Steps}
use Rattle.oss_field.proofs.LeaveLemmas.{steps_write}
use Rattle.oss_field.proofs.leaving.write_value.Goals as goal

pub write_beside-requires-clause-inside : goal.write_beside-requires-clause-inside
write_beside-requires-clause-inside c = let i = c.value_place-word.ensures in let w = c.requires.on.words in let m = c.requires.cells in let l = c.requires.may.inside in omega (arith, i, w, m, l)

pub write_beside-requires-clause-keeps : goal.write_beside-requires-clause-keeps
write_beside-requires-clause-keeps c =
    let key = c.args.words.now.key in
    let id = c.args.seat.now.id in
    let v = c.args.seat.now.me.0 in
    subst (λ (i : ℕ). Steps key.code.value key.fuel key.entries id v i (λ x. c.args.value) (λ x l. WroteValue key.code.value c.args.job.now c.args.cells c.args.cell c.args.value c.args.entry v.known l)) (sym c.value_place-word.ensures)
    (subst (λ (m : ℕ). Steps key.code.value key.fuel key.entries id v (value_word_of m c.args.entry) (λ x. c.args.value) (λ x l. WroteValue key.code.value c.args.job.now m c.args.cell c.args.value c.args.entry v.known l)) (sym c.requires.cells)
    (steps_write key.code.value key.fuel key.entries id v c.args.job.now c.args.cell c.args.value c.args.entry c.requires.may))
