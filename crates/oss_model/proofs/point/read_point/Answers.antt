use Rattle.std.proofs.Common.{◌≡◌, Some, None, sym, ap, ◌∙◌}
use Rattle.oss_model.specs.Points.{kept_point, numbers_from}
use Rattle.oss_model.proofs.PointLemmas.{point_read}
use Rattle.oss_model.proofs.point.read_point.Goals as goal

pub returns-in_default : goal.returns-in_default
returns-in_default c p =
    let is : kept_point (numbers_from None c.args.text.now) ≡ None = sym (c.kept.ensures ∙ ap kept_point c.in_ok-numbers_of.ensures) ∙ c.in_default.is in
    rw is at (point_read c.args.text.now p)

pub returns : goal.returns
returns c p =
    let is : kept_point (numbers_from None c.args.text.now) ≡ Some c.in-Some.numbers = sym (c.kept.ensures ∙ ap kept_point c.in_ok-numbers_of.ensures) ∙ c.in-Some.is in
    rw c.in_ok-numbers.ensures (rw is at (point_read c.args.text.now p))

pub invariant_of-result : goal.invariant_of-result
invariant_of-result c =
    let is : kept_point (numbers_from None c.args.text.now) ≡ Some c.in-Some.numbers = sym (c.kept.ensures ∙ ap kept_point c.in_ok-numbers_of.ensures) ∙ c.in-Some.is in
    rw c.in_ok-numbers.ensures (((point_read c.args.text.now c.in-Some.numbers).0 is).0.0)
