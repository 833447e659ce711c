use Rattle.oss_syntax.specs.declared.access.Op.TheVariants.{Add, And, Or, Xor}
use Rattle.oss_audit.proofs.ResultLemmas.{on_ok}
use Rattle.oss_explanation.specs.declared.explained.Use.{Use}
use Rattle.oss_explanation.specs.declared.explained.Use.TheVariants as uses
use Rattle.oss_explanation.specs.declared.explained.Word.{Word}
use Rattle.oss_explain.specs.Owned.{own_of}
use Rattle.oss_explain.proofs.HoldingLemmas.{seven_held}
use Rattle.oss_explain.proofs.holding.add_words.Goals as goal

pub returns : goal.returns
returns c =
    let w : Use → Word = λ u. record { named = u; strong = c.args.strong } in
    on_ok c.add_word-7.result
    (λ h ws a.
    seven_held c.args.program.now.items (own_of c.args.accesses.now) ws (w uses.In) (w uses.Out) (w uses.Inout) (w (uses.Reduction Add)) (w (uses.Reduction And)) (w (uses.Reduction Or)) (w (uses.Reduction Xor))
    (h _ (c.in_ok-add_word-6.ensures _ (c.in_ok-add_word-5.ensures _ (c.in_ok-add_word-4.ensures _ (c.in_ok-add_word-3.ensures _ (c.in_ok-add_word-2.ensures _ (c.in_ok-add_word.ensures ws a))))))))
    c.add_word-7.ensures
