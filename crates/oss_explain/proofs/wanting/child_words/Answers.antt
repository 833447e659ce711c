use Rattle.std.proofs.Common.{ℕ, List, subst, sym, Option}
use Rattle.oss_syntax.specs.declared.access.Access.{Access}
use Rattle.oss_explanation.specs.declared.explained.Held.{Held}
use Rattle.oss_explanation.specs.declared.explained.Word.{Word}
use Rattle.oss_explanation.specs.Held.{AreHeld, all_words}
use Rattle.oss_judge.specs.Joined.{IsRising}
use Rattle.oss_model.specs.Context.{child_context}
use Rattle.oss_explain.specs.Owned.{own_of}
use Rattle.oss_explain.proofs.HoldingLemmas.{if_ok_as}
use Rattle.oss_explain.proofs.WantingLemmas.{words_same}
use Rattle.oss_explain.proofs.wanting.child_words.Goals as goal

pub held_by-requires-clause-rising : goal.held_by-requires-clause-rising
held_by-requires-clause-rising c = subst (λ (xs : List Access). IsRising xs) (sym c.as_slice.ensures) c.in_ok-accesses.ensures.rising

pub returns : goal.returns
returns c =
    if_ok_as c.held_by.result
    (λ (hs : List Held) h.
    subst (λ (w : ℕ → Option Word). AreHeld c.args.program.now.items w all_words hs) (words_same c.in_ok-accesses.accesses (child_context c.args.context.now c.args.order.now.accesses c.args.order.now.last) c.in_ok-accesses.ensures)
    (subst (λ (xs : List Access). AreHeld c.args.program.now.items (own_of xs) all_words hs) c.as_slice.ensures h)) c.held_by.ensures
