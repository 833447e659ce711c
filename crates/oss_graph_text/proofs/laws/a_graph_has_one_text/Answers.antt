use Rattle.oss_graph_text.proofs.OneLemmas.{one_text}
use Rattle.oss_graph_text.proofs.laws.a_graph_has_one_text.Goals as goal

pub returns : goal.returns
returns c = λ all labels g text other a b. one_text all labels g text other a b
