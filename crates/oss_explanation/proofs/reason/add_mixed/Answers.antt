use Rattle.std.proofs.Common.{◌++◌, codes}
use Rattle.oss_explanation.specs.Sentences.{failing_text, mixed_words}
use Rattle.oss_explanation.specs.declared.deed.Are.TheVariants as are
use Rattle.oss_explanation.proofs.TextLemmas.{on_ok, then}
use Rattle.oss_explanation.proofs.reason.add_mixed.Goals as goal

pub returns : goal.returns
returns c = on_ok c.add.result (λ last. then _ _ _ (mixed_words c.args.program.now.items c.args.next.now c.args.words.now c.args.cells.now.first ++ failing_text c.args.program.now.items are.Mixed c.args.cells.now.all) (codes "A reduction goes with no other mode or operator on one cell.\n") (then _ _ _ (mixed_words c.args.program.now.items c.args.next.now c.args.words.now c.args.cells.now.first) (failing_text c.args.program.now.items are.Mixed c.args.cells.now.all) (c.in_ok-add_mixed_words.ensures) c.in_ok-add_failing.ensures) last) c.add.ensures
