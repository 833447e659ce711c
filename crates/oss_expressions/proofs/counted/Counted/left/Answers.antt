use Rattle.std.proofs.Common.{◌++◌, ◌∙◌, ap}
use Rattle.oss_grammar.specs.Levels.{is_operator}
use Rattle.oss_expressions.specs.Sights.{Sight}
use Rattle.oss_expressions.proofs.SightLemmas.{all_shown}
use Rattle.oss_expressions.proofs.counted.Counted.left.Goals as goal

pub returns : goal.returns
returns c = all_shown is_operator c.self.inside.operators c.self.inside.left.now ∙ ap (λ (s : Sight). s.seen ++ s.behind) c.self.view_is
