use Rattle.std.proofs.Common.{◌≡◌, ◌∙◌, [], sym}
use Rattle.oss_grammar.specs.Levels.{is_operator}
use Rattle.oss_expressions.proofs.SightLemmas.{over_none, over_some}
use Rattle.oss_expressions.proofs.limits.over.Goals as goal

pub returns-then-is_empty : goal.returns-then-is_empty
returns-then-is_empty c =
    let end : c.args.seen.now.seen ≡ [] = c.is_at_end.ensures.0 c.if-not-is_at_end.false in
    rw end (over_none is_operator c.args.operators c.args.all.now c.excess-place.result.now (sym c.excess-place.ensures) (sym c.is_empty.ensures ∙ c.if-is_empty.true))

pub returns : goal.returns
returns c =
    let end : c.args.seen.now.seen ≡ [] = c.is_at_end.ensures.0 c.if-not-is_at_end.false in (
      rw end (over_some is_operator c.args.operators c.args.all.now c.excess-place.result.now (sym c.excess-place.ensures) (sym c.is_empty.ensures ∙ c.if-is_empty.false)),
      c.excess-place.ensures,
    )
