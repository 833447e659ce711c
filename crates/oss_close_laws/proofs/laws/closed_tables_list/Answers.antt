use Rattle.oss_close_laws.proofs.TabledLaw.{closed_tables_list}
use Rattle.oss_close_laws.proofs.laws.closed_tables_list.Goals as goal

pub returns : goal.returns
returns c = closed_tables_list
