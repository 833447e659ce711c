use Rattle.std.proofs.Common.{sym, subst, ℕ, ◌+◌, ◌-◌, ◌%◌, ◌^◌, arith}
use Rattle.oss_words.specs.Bits.{info_at}
use Rattle.oss_field.specs.Layout.{count_word_of}
use Rattle.oss_field.specs.Messages.{Lowers}
use Rattle.oss_field.specs.Steps.{Steps}
use Rattle.oss_field.proofs.LowerLemmas.{lowers}
use Rattle.oss_field.proofs.delivering.lower_count.Goals as goal

pub lower_word-requires-clause-inside : goal.lower_word-requires-clause-inside
lower_word-requires-clause-inside c = let i = c.count_place.ensures in let w = c.requires.on.words in let m = c.requires.cells in let l = c.requires.inside in omega (arith, i, w, m, l)

pub lower_word-requires-clause-keeps : goal.lower_word-requires-clause-keeps
lower_word-requires-clause-keeps c =
    let key = c.args.words.now.key in
    let id = c.args.seat.now.id in
    let v = c.args.seat.now.me.0 in
    subst (λ (i : ℕ). Steps key.code.value key.fuel key.entries id v i (λ x. (x + (2 ^ 64 - 1)) % 2 ^ 64) (λ x l. Lowers c.args.cells c.args.task x v.known l)) (sym c.count_place.ensures)
    (subst (λ (m : ℕ). Steps key.code.value key.fuel key.entries id v (count_word_of m c.args.task) (λ x. (x + (2 ^ 64 - 1)) % 2 ^ 64) (λ x l. Lowers m c.args.task x v.known l)) (sym c.requires.cells)
    (lowers key.code.value key.fuel key.entries id v c.args._entry (info_at c.args._info) c.requires.told c.args.task c.requires.task c.requires.owes c.requires.inside))
