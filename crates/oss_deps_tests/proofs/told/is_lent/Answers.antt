use Rattle.std.proofs.Common.{inr, ◌∙◌, sym}
use Rattle.oss_deps_tests.proofs.told.is_lent.Goals as goal

pub returns-then-covers : goal.returns-then-covers
returns-then-covers c = λ e. inr (c.in-Some.mode, c.in-Some.ensures, sym c.covers.ensures ∙ c.if-covers.true, c.is_kept.ensures e)
