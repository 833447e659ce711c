use Rattle.std.proofs.Common.{◌++◌, codes}
use Rattle.oss_pieces.specs.Names.{cell_name}
use Rattle.oss_explanation.specs.Sentences.{fold_text}
use Rattle.oss_explanation.specs.Words.{op_text}
use Rattle.oss_explanation.proofs.TextLemmas.{on_ok, then}
use Rattle.oss_explanation.proofs.reason.add_reduction_rule.Goals as goal

pub returns : goal.returns
returns c = on_ok c.add_fold_text.result (λ last. then _ _ _ (codes "Under reduction(" ++ op_text c.args.op ++ codes ") a task touches " ++ cell_name c.args.program.now.items c.args.cell ++ codes " by ") (fold_text c.args.program.now.items c.args.cell c.args.op) (then _ _ _ (codes "Under reduction(" ++ op_text c.args.op ++ codes ") a task touches " ++ cell_name c.args.program.now.items c.args.cell) (codes " by ") (then _ _ _ (codes "Under reduction(" ++ op_text c.args.op ++ codes ") a task touches ") (cell_name c.args.program.now.items c.args.cell) (then _ _ _ (codes "Under reduction(" ++ op_text c.args.op) (codes ") a task touches ") (then _ _ _ (codes "Under reduction(") (op_text c.args.op) (c.in_ok-add.ensures) c.in_ok-add_op.ensures) c.in_ok-add-2.ensures) c.in_ok-add_cell_name.ensures) c.in_ok-add-3.ensures) last) c.add_fold_text.ensures
