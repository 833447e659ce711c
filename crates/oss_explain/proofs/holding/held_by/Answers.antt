use Rattle.std.proofs.Common.{sym, subst, List, [], true}
use Rattle.oss_explanation.specs.declared.explained.Held.{Held}
use Rattle.oss_explanation.specs.Held.{AreHeld, all_words, words_so}
use Rattle.oss_explanation.specs.Held.AreHeld.{none}
use Rattle.oss_explain.specs.Owned.{own_of}
use Rattle.oss_explain.proofs.holding.held_by.Goals as goal

pub returns : goal.returns
returns c =
    subst (λ (hs : List Held). AreHeld c.args.program.now.items (own_of c.args.accesses.now) all_words hs) (sym c.from_vec.ensures)
    (c.in_ok-add_words-2.ensures (words_so true) (c.in_ok-add_words.ensures [] (subst (λ (hs : List Held). AreHeld c.args.program.now.items (own_of c.args.accesses.now) [] hs) (sym c.new-held.ensures.items) none)))
