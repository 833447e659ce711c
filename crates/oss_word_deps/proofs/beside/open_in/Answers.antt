use Rattle.std.proofs.Common.{subst}
use Rattle.oss_deps.proofs.Basics.{some_is}
use Rattle.oss_word_deps.specs.Booked.{IsBooked}
use Rattle.oss_word_deps.specs.Shelved.{Shelved}
use Rattle.oss_word_deps.proofs.beside.open_in.Goals as goal

pub open-requires-clause-may : goal.open-requires-clause-may
open-requires-clause-may c = let r = c.requires.may in (r.0, r.1, r.2 c.in-Some.words c.in-Some.is)

pub returns-in-Some-clause-booked : goal.returns-in-Some-clause-booked
returns-in-Some-clause-booked c = λ s t o may now w h. subst (λ (x : Shelved). IsBooked t x.ledger) (some_is h) (c.open.ensures.booked s t o (may c.in-Some.words c.in-Some.is) now)
