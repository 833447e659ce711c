use Rattle.std.proofs.Common.{◌++◌, codes}
use Rattle.oss_pieces.specs.Names.{cell_name}
use Rattle.oss_explanation.specs.Sentences.{stop, words_text}
use Rattle.oss_explanation.specs.Words.{task_text}
use Rattle.oss_explanation.proofs.TextLemmas.{on_ok, then}
use Rattle.oss_explanation.proofs.reason.add_mixed_words.Goals as goal

pub returns : goal.returns
returns c = on_ok c.add-4.result (λ last. then _ _ _ (codes "The clauses of " ++ task_text c.args.next.now ++ codes " name " ++ cell_name c.args.program.now.items c.args.cell ++ codes " by " ++ words_text c.args.words.now) (stop) (then _ _ _ (codes "The clauses of " ++ task_text c.args.next.now ++ codes " name " ++ cell_name c.args.program.now.items c.args.cell ++ codes " by ") (words_text c.args.words.now) (then _ _ _ (codes "The clauses of " ++ task_text c.args.next.now ++ codes " name " ++ cell_name c.args.program.now.items c.args.cell) (codes " by ") (then _ _ _ (codes "The clauses of " ++ task_text c.args.next.now ++ codes " name ") (cell_name c.args.program.now.items c.args.cell) (then _ _ _ (codes "The clauses of " ++ task_text c.args.next.now) (codes " name ") (then _ _ _ (codes "The clauses of ") (task_text c.args.next.now) (c.in_ok-add.ensures) c.in_ok-add_task.ensures) c.in_ok-add-2.ensures) c.in_ok-add_cell_name.ensures) c.in_ok-add-3.ensures) c.in_ok-add_words.ensures) last) c.add-4.ensures
