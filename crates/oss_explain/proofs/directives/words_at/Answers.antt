use Rattle.std.proofs.Common.{◌≡◌, ◌∷◌, ◌+◌, ◌++◌, ℕ, suc, sym, ap, ◌∙◌, drop, arith, List}
use Rattle.std.proofs.Math.Seq.{drop-cons}
use Rattle.std.proofs.lemmas.List.{append-nil}
use Rattle.oss_syntax.specs.declared.access.Access.{Access}
use Rattle.oss_explanation.specs.Held.{clause_words, once}
use Rattle.oss_explain.proofs.DirectiveLemmas.{all_dropped, clause_next}
use Rattle.oss_explain.proofs.directives.words_at.Goals as goal

pub loop-clause-preserved : goal.loop-clause-preserved
loop-clause-preserved c =
    let xs = c.args.clauses.now in
    let i = c.loop-clause.clause-index in
    let a = c.clause-item.result in
    let split : drop i xs ≡ a ∷ drop (suc i) xs = drop-cons xs i a c.loop-clause-test.true ∙ ap (λ y. y ∷ drop (suc i) xs) (sym c.clause-item.is) in
    let next : suc i ≡ i + 1 = omega arith in
    let now = c.add_word_at.new.words.items in
    ap (λ (k : ℕ). now ++ once now (clause_words c.args.is_final (drop k xs) c.args.cell)) (sym next) ∙ clause_next c.args.is_final a (drop (suc i) xs) c.args.cell c.loop-clause.words.items now c.in_ok-add_word_at.ensures
    ∙ ap (λ (ys : List Access). c.loop-clause.words.items ++ once c.loop-clause.words.items (clause_words c.args.is_final ys c.args.cell)) (sym split) ∙ c.loop-clause.invariant

pub returns : goal.returns
returns c =
    let words = c.loop-clause.words.items in
    c.from_vec.ensures ∙ sym (append-nil words)
    ∙ ap (λ (ys : List Access). words ++ once words (clause_words c.args.is_final ys c.args.cell)) (sym (all_dropped c.args.clauses.now c.loop-clause.clause-index c.loop-clause-test.false)) ∙ c.loop-clause.invariant
