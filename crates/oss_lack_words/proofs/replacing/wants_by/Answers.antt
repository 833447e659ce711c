use Rattle.std.proofs.Common.{[], ℕ, List, subst, sym, take}
use Rattle.std.proofs.lemmas.List.{take_more}
use Rattle.oss_ranges.specs.Cells.{value_at}
use Rattle.oss_explanation.specs.declared.explained.Word.{Word}
use Rattle.oss_missing_lines.specs.declared.missing.Wanting.{Wanting}
use Rattle.oss_lack_words.specs.Told.{AreWantingOf, replacing}
use Rattle.oss_lack_words.specs.Told.AreWantingOf.{none}
use Rattle.oss_lack_words.proofs.TellLemmas.{take_whole}
use Rattle.oss_lack_words.proofs.replacing.wants_by.Goals as goal

pub loop-word-init : goal.loop-word-init
loop-word-init c = λ all laid.
    subst (λ (ks : List Wanting). AreWantingOf all (λ (k : ℕ). replacing (value_at c.args.lacks.now.pieces k)) c.args.is_final c.args.clauses.now [] ks) (sym c.new-wants.ensures.items) none

pub loop-word-preserved : goal.loop-word-preserved
loop-word-preserved c = λ all laid.
    let xs : List Word = c.args.words.now in
    let i = c.loop-word.word-index in
    subst (λ (ws : List Word). AreWantingOf all (λ (k : ℕ). replacing (value_at c.args.lacks.now.pieces k)) c.args.is_final c.args.clauses.now ws c.add_wanting.new.wants.items) (sym (take_more xs i _ c.loop-word-test.true))
    (c.in_ok-add_wanting.ensures all laid (take i xs) (c.loop-word.invariant all laid))

pub returns : goal.returns
returns c = λ all laid.
    let xs : List Word = c.args.words.now in
    let words = λ (k : ℕ). replacing (value_at c.args.lacks.now.pieces k) in
    subst (λ (ks : List Wanting). AreWantingOf all words c.args.is_final c.args.clauses.now xs ks) (sym c.from_vec.ensures)
    (subst (λ (ws : List Word). AreWantingOf all words c.args.is_final c.args.clauses.now ws c.loop-word.wants.items) (take_whole xs c.loop-word.word-index c.loop-word-test.false)
    (c.loop-word.invariant all laid))
