use Rattle.std.proofs.Common.{ℕ, refl, sym, subst}
use Rattle.oss_deps.specs.Opens.{IsMet}
use Rattle.oss_links.proofs.MetLemmas.{main_is_met}
use Rattle.oss_word_deps.proofs.words.Words.is_met.Goals as goal

pub returns-in-None-clause-met : goal.returns-in-None-clause-met
returns-in-None-clause-met c = λ s booked known. (λ h. subst (λ (t : ℕ). IsMet s.opens s.given t) (sym c.in-None.ensures) (main_is_met s.opens s.given booked.opens_are.ordered), λ h. refl)
