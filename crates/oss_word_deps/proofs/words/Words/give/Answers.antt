use Rattle.std.proofs.Common.{ℕ, sym, subst}
use Rattle.oss_deps.specs.Seen.{CanGive, Gives}
use Rattle.oss_word_deps.proofs.SystemLemmas.{giver_not_main}
use Rattle.oss_word_deps.proofs.words.Words.give.Goals as goal

pub unreachable-requires : goal.unreachable-requires
unreachable-requires c = let r = c.requires.may in giver_not_main r.0 c.args.self.now.ledger c.args.task c.args.range r.1 r.2 c.in-None.ensures

pub returns-clause-booked : goal.returns-clause-booked
returns-clause-booked c = λ s t booked can gives.
    let job = c.in-Some.ensures in
    c.give_over.ensures.booked s t (record { booked = booked; can = subst (λ (x : ℕ). CanGive x c.args.range s) (sym job.2) can; is_job = job.3 }) (subst (λ (x : ℕ). Gives x c.args.range s t) (sym job.2) gives)
