use Rattle.std.proofs.Common.{sym, subst, ℕ, ◌+◌, ◌%◌, ◌^◌, arith}
use Rattle.oss_words.specs.Bits.{weight}
use Rattle.oss_field.specs.Layout.{state_word_of}
use Rattle.oss_field.specs.Messages.{Passes}
use Rattle.oss_field.specs.Steps.{Steps}
use Rattle.oss_field.proofs.PassLemmas.{passes}
use Rattle.oss_field.proofs.delivering.set_flag.Goals as goal

pub add_flag-requires-clause-inside : goal.add_flag-requires-clause-inside
add_flag-requires-clause-inside c = let i = c.state_place.ensures in let w = c.requires.on.words in let m = c.requires.cells in let l = c.requires.may.inside in omega (arith, i, w, m, l)

pub add_flag-requires-clause-keeps : goal.add_flag-requires-clause-keeps
add_flag-requires-clause-keeps c =
    let key = c.args.words.now.key in
    let id = c.args.seat.now.id in
    let v = c.args.seat.now.me.0 in
    let a = c.args.message in
    subst (λ (i : ℕ). Steps key.code.value key.fuel key.entries id v i (λ x. (x + c.weight_of.result) % 2 ^ 64) (λ x l. Passes key.entries c.args.cells a c.args.info x v.known l)) (sym c.state_place.ensures)
    (subst (λ (y : ℕ). Steps key.code.value key.fuel key.entries id v (state_word_of c.args.cells a.entry) (λ x. (x + y) % 2 ^ 64) (λ x l. Passes key.entries c.args.cells a c.args.info x v.known l)) (sym c.weight_of.ensures)
    (subst (λ (m : ℕ). Steps key.code.value key.fuel key.entries id v (state_word_of m a.entry) (λ x. (x + weight a.flag) % 2 ^ 64) (λ x l. Passes key.entries m a c.args.info x v.known l)) (sym c.requires.cells)
    (passes key.code.value key.fuel key.entries id v a c.args.info c.requires.may)))
