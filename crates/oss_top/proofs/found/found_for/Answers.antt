use Rattle.std.proofs.Common.{sym}
use Rattle.oss_command.specs.Commands.{meant}
use Rattle.oss_top.proofs.FormLemmas.{if_ok, unfiled_replies}
use Rattle.oss_top.proofs.FoundLemmas.{found_more}
use Rattle.oss_top.proofs.found.found_for.Goals as goal

pub returns-in-None : goal.returns-in-None
returns-in-None g c = if_ok c.found_by_text.result (λ found is. found_more (meant c.args.command) _ _ (λ reply told. unfiled_replies _ (meant c.args.command) reply (sym c.in-None.ensures) told) found is) c.found_by_text.ensures
