use Rattle.oss_graph_text.proofs.OrderLemmas.{boxes_hold}
use Rattle.oss_graph_text.proofs.laws.boxes_hold_all_below.Goals as goal

pub returns : goal.returns
returns c = λ front rest n m o i e. boxes_hold front rest n m o i e
