use Rattle.std.proofs.Common.{refl}
use Rattle.oss_core.proofs.ClearLemmas.{cleared_is}
use Rattle.oss_core.proofs.GoingLemmas.{read_is}
use Rattle.oss_core.proofs.giving.clear.Goals as goal

pub returns : goal.returns
returns c =
    cleared_is c.args.tasks.now.items c.args.at c.args.cell.lo c.args.cell.hi c.index_mut-held.result.now (record { body = c.index_mut-held.result.now.body; owed = c.clear.new.self }) c.is_empty.result
    (read_is c.args.tasks.now.items c.args.at c.index_mut-held.result.now c.requires.owes.held c.requires.owes.is c.index_mut-held.ensures.value) refl c.requires.one c.in_ok-clear.ensures.map c.is_empty.ensures
