use Rattle.std.proofs.Common.{[], ℕ, List, subst, sym, take}
use Rattle.std.proofs.lemmas.List.{take_more}
use Rattle.oss_ranges.specs.Cells.{value_at}
use Rattle.oss_explanation.specs.declared.explained.Held.{Held}
use Rattle.oss_explanation.specs.declared.explained.Word.{Word}
use Rattle.oss_explanation.specs.Held.{AreHeld}
use Rattle.oss_explanation.specs.Held.AreHeld.{none}
use Rattle.oss_lack_words.specs.Told.{added}
use Rattle.oss_lack_words.proofs.TellLemmas.{take_whole}
use Rattle.oss_lack_words.proofs.adding.held_by.Goals as goal

pub loop-word-init : goal.loop-word-init
loop-word-init c = λ all laid.
    subst (λ (hs : List Held). AreHeld all (λ (k : ℕ). added (value_at c.args.lacks.now.pieces k)) [] hs) (sym c.new-held.ensures.items) none

pub loop-word-preserved : goal.loop-word-preserved
loop-word-preserved c = λ all laid.
    let xs : List Word = c.args.words.now in
    let i = c.loop-word.word-index in
    subst (λ (ws : List Word). AreHeld all (λ (k : ℕ). added (value_at c.args.lacks.now.pieces k)) ws c.add_held.new.held.items) (sym (take_more xs i _ c.loop-word-test.true))
    (c.in_ok-add_held.ensures all laid (take i xs) (c.loop-word.invariant all laid))

pub returns : goal.returns
returns c = λ all laid.
    let xs : List Word = c.args.words.now in
    let words = λ (k : ℕ). added (value_at c.args.lacks.now.pieces k) in
    subst (λ (hs : List Held). AreHeld all words xs hs) (sym c.from_vec.ensures)
    (subst (λ (ws : List Word). AreHeld all words ws c.loop-word.held.items) (take_whole xs c.loop-word.word-index c.loop-word-test.false) (c.loop-word.invariant all laid))
