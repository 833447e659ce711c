use Rattle.std.proofs.Common.{sym, subst, ℕ, arith}
use Rattle.oss_field.specs.Folding.{ReadsChild}
use Rattle.oss_field.specs.Layout.{state_word_of}
use Rattle.oss_field.specs.Steps.{Steps}
use Rattle.oss_field.proofs.FoldReadLemmas.{reads_child}
use Rattle.oss_field.proofs.folding.read_child.Goals as goal

pub read_below_word-requires-clause-inside : goal.read_below_word-requires-clause-inside
read_below_word-requires-clause-inside c = let i = c.state_place.ensures in let w = c.requires.on.words in let m = c.requires.cells in let l = c.requires.inside in omega (arith, i, w, m, l)

pub read_below_word-requires-clause-keeps : goal.read_below_word-requires-clause-keeps
read_below_word-requires-clause-keeps c =
    let key = c.args.words.now.key in
    let id = c.args.seat.now.id in
    let v = c.args.seat.now.me.0 in
    subst (λ (i : ℕ). Steps key.code.value key.fuel key.entries id v i (λ x. x) (λ x l. ReadsChild key.entries c.args.cells c.args.entry c.args.child x v.known l)) (sym c.state_place.ensures)
    (subst (λ (m : ℕ). Steps key.code.value key.fuel key.entries id v (state_word_of m c.args.child) (λ x. x) (λ x l. ReadsChild key.entries m c.args.entry c.args.child x v.known l)) (sym c.requires.cells)
    (reads_child key.code.value key.fuel key.entries id v c.args.entry c.requires.held c.args.child c.requires.child))
