use Rattle.std.proofs.Common.{◌≡◌, ◌∷◌, ◌+◌, ◌++◌, ℕ, suc, sym, ap, ◌∙◌, drop, arith, List}
use Rattle.std.proofs.Math.Seq.{drop-cons}
use Rattle.oss_syntax.specs.declared.access.Access.{Access}
use Rattle.oss_explanation.specs.Held.{once}
use Rattle.oss_pieces.specs.CellSets.{has}
use Rattle.oss_lack_words.specs.Told.{words_for}
use Rattle.oss_lack_words.proofs.WordLemmas.{clause_next}
use Rattle.oss_lack_words.proofs.old_words.old_words.Goals as goal

pub loop-clause-preserved : goal.loop-clause-preserved
loop-clause-preserved c =
    let xs = c.args.clauses.now in
    let i = c.loop-clause.clause-index in
    let a = c.clause-item.result in
    let split : drop i xs ≡ a ∷ drop (suc i) xs = drop-cons xs i a c.loop-clause-test.true ∙ ap (λ y. y ∷ drop (suc i) xs) (sym c.clause-item.is) in
    let next : suc i ≡ i + 1 = omega arith in
    let now = c.add_word_of.new.words.items in
    ap (λ (k : ℕ). now ++ once now (words_for (has c.args.set.now) c.args.is_final (drop k xs))) (sym next) ∙ clause_next (has c.args.set.now) c.args.is_final a (drop (suc i) xs) c.loop-clause.words.items now c.in_ok-add_word_of.ensures
    ∙ ap (λ (ys : List Access). c.loop-clause.words.items ++ once c.loop-clause.words.items (words_for (has c.args.set.now) c.args.is_final ys)) (sym split) ∙ c.loop-clause.invariant
