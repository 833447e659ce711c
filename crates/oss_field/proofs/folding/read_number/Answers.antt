use Rattle.std.proofs.Common.{sym, subst, ℕ, arith}
use Rattle.oss_field.specs.Folding.{ReadsNumber}
use Rattle.oss_field.specs.Layout.{number_word_of}
use Rattle.oss_field.specs.Steps.{Steps}
use Rattle.oss_field.proofs.FoldReadLemmas.{reads_number}
use Rattle.oss_field.proofs.folding.read_number.Goals as goal

pub read_word-requires-clause-inside : goal.read_word-requires-clause-inside
read_word-requires-clause-inside c = let i = c.number_place.ensures in let w = c.requires.on.words in let m = c.requires.cells in let l = c.requires.inside in omega (arith, i, w, m, l)

pub read_word-requires-clause-keeps : goal.read_word-requires-clause-keeps
read_word-requires-clause-keeps c =
    let key = c.args.words.now.key in
    let id = c.args.seat.now.id in
    let v = c.args.seat.now.me.0 in
    subst (λ (i : ℕ). Steps key.code.value key.fuel key.entries id v i (λ x. x) (λ x l. ReadsNumber c.args.cells c.args.entry x v.known l)) (sym c.number_place.ensures)
    (subst (λ (m : ℕ). Steps key.code.value key.fuel key.entries id v (number_word_of m c.args.entry) (λ x. x) (λ x l. ReadsNumber m c.args.entry x v.known l)) (sym c.requires.cells)
    (reads_number key.code.value key.fuel key.entries id v c.args.entry c.requires.held))
