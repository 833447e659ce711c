use Rattle.std.proofs.Common.{ap, ◌∙◌}
use Rattle.oss_body.specs.Places.{Placed}
use Rattle.oss_body.proofs.Advancing.{point_is}
use Rattle.oss_body.proofs.body.Body.point.Goals as goal

pub returns : goal.returns
returns c = λ code start found is. c.path.ensures ∙ ap (λ (p : Placed). p.path) c.own_place.ensures ∙ point_is code start found c.args.self.now is
