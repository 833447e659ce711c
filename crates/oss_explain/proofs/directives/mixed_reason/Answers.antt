use Rattle.std.proofs.Common.{List, ap}
use Rattle.oss_explanation.specs.declared.explained.Reason.TheVariants as reasons
use Rattle.oss_explanation.specs.declared.explained.Word.{Word}
use Rattle.oss_explain.proofs.directives.mixed_reason.Goals as goal

pub mixed-requires-clause-some : goal.mixed-requires-clause-some
mixed-requires-clause-some c = (c.args.is_final, c.requires.some)

pub returns-in-Ok : goal.returns-in-Ok
returns-in-Ok c = record { cells = c.in_ok-cells.cells; failing = c.in_ok-cells.ensures c.args.is_final; is = ap (λ (ws : List Word). reasons.MixedAccess ws c.in_ok-cells.cells) c.in-Ok.ensures }
