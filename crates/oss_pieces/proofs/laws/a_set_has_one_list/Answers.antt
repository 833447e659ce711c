use Rattle.oss_pieces.proofs.OneListLemmas.{one_list}
use Rattle.oss_pieces.proofs.laws.a_set_has_one_list.Goals as goal

pub returns : goal.returns
returns c = λ test all ps qs a b. one_list test all 0 0 ps qs a b
