use Rattle.oss_explanation.proofs.TextLemmas.{on_ok, then}
use Rattle.oss_explanation.proofs.reason.add_fold_text.Goals as goal

pub returns : goal.returns
returns c = on_ok c.add-2.result (λ last. then _ _ _ _ _ (then _ _ _ _ _ (then _ _ _ _ _ c.in_ok-add_cell_name.ensures c.in_ok-add.ensures) c.in_ok-add_op.ensures) last) c.add-2.ensures
