use Rattle.std.proofs.Common.{subst}
use Rattle.oss_deps.proofs.Basics.{some_is}
use Rattle.oss_word_deps.specs.Booked.{IsBooked}
use Rattle.oss_word_deps.specs.Shelved.{Shelved}
use Rattle.oss_word_deps.proofs.beside.give_in.Goals as goal

pub give-requires : goal.give-requires
give-requires c = let r = c.requires.may in record { may = (r.0, r.1 c.in-Some.words c.in-Some.is, r.2) }

pub returns-in-Some-clause-booked : goal.returns-in-Some-clause-booked
returns-in-Some-clause-booked c = λ s t booked can gives w h. subst (λ (x : Shelved). IsBooked t x.ledger) (some_is h) (c.give.ensures.booked s t (booked c.in-Some.words c.in-Some.is) can gives)
