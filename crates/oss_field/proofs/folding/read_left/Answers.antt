use Rattle.std.proofs.Common.{◌≡◌, sym, subst, ℕ, arith}
use Rattle.oss_field.specs.Folding.{read_value}
use Rattle.oss_field.specs.Layout.{value_word_of}
use Rattle.oss_field.specs.Steps.{Steps}
use Rattle.oss_field.proofs.FoldReadLemmas.{reads_value}
use Rattle.oss_field.proofs.folding.read_left.Goals as goal

pub read_word-requires-clause-inside : goal.read_word-requires-clause-inside
read_word-requires-clause-inside c = let i = c.value_place.ensures in let w = c.requires.on.words in let m = c.requires.cells in let l = c.requires.inside in omega (arith, i, w, m, l)

pub read_word-requires-clause-keeps : goal.read_word-requires-clause-keeps
read_word-requires-clause-keeps c =
    let key = c.args.words.now.key in
    let id = c.args.seat.now.id in
    let v = c.args.seat.now.me.0 in
    subst (λ (i : ℕ). Steps key.code.value key.fuel key.entries id v i (λ x. x) (λ x l. l ≡ read_value c.args.cells c.args.entry x v.known)) (sym c.value_place.ensures)
    (subst (λ (m : ℕ). Steps key.code.value key.fuel key.entries id v (value_word_of m c.args.entry) (λ x. x) (λ x l. l ≡ read_value m c.args.entry x v.known)) (sym c.requires.cells)
    (reads_value key.code.value key.fuel key.entries id v c.args.entry c.requires.held))
