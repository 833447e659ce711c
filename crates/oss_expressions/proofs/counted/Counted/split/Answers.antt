use Rattle.std.proofs.Common.{◌≡◌, ◌∙◌, ap, sym, arith}
use Rattle.oss_grammar.specs.Levels.{is_operator}
use Rattle.oss_expressions.specs.Sights.{Sight}
use Rattle.oss_expressions.proofs.SightLemmas.{shown_none}
use Rattle.oss_expressions.proofs.counted.Counted.split.Goals as goal

pub returns-then-self-eq0 : goal.returns-then-self-eq0
returns-then-self-eq0 c =
    let none : c.self.inside.operators ≡ 0 = omega arith in
    ap (λ (s : Sight). s.seen) (sym c.self.view_is) ∙ rw none (shown_none is_operator c.self.inside.left.now)
