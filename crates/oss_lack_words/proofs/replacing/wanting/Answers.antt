use Rattle.std.proofs.Common.{ℕ, List, Option, ap, subst, sym}
use Rattle.oss_explanation.specs.declared.explained.Word.{Word}
use Rattle.oss_ranges.specs.Cells.{value_at}
use Rattle.oss_needs.specs.declared.lack.Lack.{Lack}
use Rattle.oss_explanation.specs.Held.{all_words}
use Rattle.oss_missing_lines.specs.declared.missing.Wanting.{Wanting}
use Rattle.oss_lack_words.specs.Told.{AreWantingOf, replacing}
use Rattle.oss_lack_words.proofs.TellLemmas.{if_ok_as, nothing_wanted}
use Rattle.oss_lack_words.proofs.replacing.wanting.Goals as goal

pub returns-else-is_any : goal.returns-else-is_any
returns-else-is_any c = λ all laid.
    let words = λ (k : ℕ). replacing (value_at c.args.lacks.now.pieces k) in
    subst (λ (ks : List Wanting). AreWantingOf all words c.args.is_final c.args.clauses.now all_words ks) (sym c.new.ensures)
    (nothing_wanted all words c.args.is_final c.args.clauses.now all_words (λ k. ap (λ (v : Option Lack). replacing v) (c.is_any.ensures.none c.if-is_any.false k)))

pub returns-then-is_any : goal.returns-then-is_any
returns-then-is_any c =
    let words = λ (k : ℕ). replacing (value_at c.args.lacks.now.pieces k) in
    if_ok_as c.wants_by.result (λ ks h all laid. subst (λ (ws : List Word). AreWantingOf all words c.args.is_final c.args.clauses.now ws ks) c.all_words.ensures (h all laid)) c.wants_by.ensures
