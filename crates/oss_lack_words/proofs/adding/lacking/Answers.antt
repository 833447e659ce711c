use Rattle.std.proofs.Common.{ℕ, List, Option, ap, subst, sym}
use Rattle.oss_explanation.specs.declared.explained.Word.{Word}
use Rattle.oss_ranges.specs.Cells.{value_at}
use Rattle.oss_needs.specs.declared.lack.Lack.{Lack}
use Rattle.oss_explanation.specs.declared.explained.Held.{Held}
use Rattle.oss_explanation.specs.Held.{AreHeld, all_words}
use Rattle.oss_lack_words.specs.Told.{added}
use Rattle.oss_lack_words.proofs.TellLemmas.{if_ok_as, nothing_held}
use Rattle.oss_lack_words.proofs.adding.lacking.Goals as goal

pub returns-else-is_any : goal.returns-else-is_any
returns-else-is_any c = λ all laid.
    let words = λ (k : ℕ). added (value_at c.args.lacks.now.pieces k) in
    subst (λ (hs : List Held). AreHeld all words all_words hs) (sym c.new.ensures)
    (nothing_held all words all_words (λ k. ap (λ (v : Option Lack). added v) (c.is_any.ensures.none c.if-is_any.false k)))

pub returns-then-is_any : goal.returns-then-is_any
returns-then-is_any c =
    let words = λ (k : ℕ). added (value_at c.args.lacks.now.pieces k) in
    if_ok_as c.held_by.result (λ hs h all laid. subst (λ (ws : List Word). AreHeld all words ws hs) c.all_words.ensures (h all laid)) c.held_by.ensures
