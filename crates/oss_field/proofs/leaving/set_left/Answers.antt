use Rattle.std.proofs.Common.{sym, subst, ℕ, ◌+◌, ◌%◌, ◌^◌, arith}
use Rattle.oss_field.specs.Layout.{state_word_of}
use Rattle.oss_field.specs.Leaving.{SetsLeft}
use Rattle.oss_field.specs.Steps.{Steps}
use Rattle.oss_field.proofs.LeaveLemmas.{steps_left}
use Rattle.oss_field.proofs.leaving.set_left.Goals as goal

pub add_left-requires-clause-inside : goal.add_left-requires-clause-inside
add_left-requires-clause-inside c = let i = c.state_place.ensures in let w = c.requires.on.words in let m = c.requires.cells in let l = c.requires.inside in omega (arith, i, w, m, l)

pub add_left-requires-clause-keeps : goal.add_left-requires-clause-keeps
add_left-requires-clause-keeps c =
    let key = c.args.words.now.key in
    let id = c.args.seat.now.id in
    let v = c.args.seat.now.me.0 in
    subst (λ (i : ℕ). Steps key.code.value key.fuel key.entries id v i (λ x. (x + 256) % 2 ^ 64) (λ x l. SetsLeft key.entries c.args.cells c.args.entry x v.known l)) (sym c.state_place.ensures)
    (subst (λ (m : ℕ). Steps key.code.value key.fuel key.entries id v (state_word_of m c.args.entry) (λ x. (x + 256) % 2 ^ 64) (λ x l. SetsLeft key.entries m c.args.entry x v.known l)) (sym c.requires.cells)
    (steps_left key.code.value key.fuel key.entries id v c.args._cell c.args._value c.args.entry c.requires.written))
