-- However the clauses of creations group their cells, the sequential run has one outcome.
use Rattle.std.proofs.Common.{refl, subst}
use Rattle.oss_model.specs.Bodies.{Ask, Program}
use Rattle.oss_model.specs.Bodies.Ask.{Await, Begin, Create, End, Fails, Fold, Print, Read, Release, Tick, Wait, WaitOn, Write}
use Rattle.oss_meaning.specs.Results.{IsOutcome}
use Rattle.oss_lower_laws.proofs.OutcomeLemmas.{one_outcome}
use Rattle.oss_multidependency_laws.specs.Claims.{GroupingsHaveOneOutcome}
use Rattle.oss_multidependency_laws.specs.Grouping.{plain_asked}
use Rattle.oss_multidependency_laws.proofs.PlainBodies.{AskAlike, IsGoodAsk}
use Rattle.oss_multidependency_laws.proofs.PlainRuns.{outcome_alike}

-- each script is good
pub any_ask : {S : Type 0} (a : Ask S) → IsGoodAsk (λ s. Unit {0}) a
any_ask Begin = tt
any_ask Tick = tt
any_ask (Read cell) = tt
any_ask (Write cell v) = tt
any_ask (Fold cell o v) = tt
any_ask (Create o) = tt
any_ask Await = tt
any_ask Wait = tt
any_ask (WaitOn named) = tt
any_ask (Release clauses) = tt
any_ask (Print text) = tt
any_ask End = tt
any_ask (Fails kind) = tt

pub groupings_have_one_outcome : (S : Type 0) → GroupingsHaveOneOutcome S
groupings_have_one_outcome S P Q same main other start cells o p left right =
    let N : Program S = λ s answers. plain_asked (Q s answers) in
    let from_left : AskAlike P N = record { Good = λ s. Unit {0}; alike = λ s h answers. same s answers; stays = λ s h answers. any_ask (P s answers).ask } in
    let from_right : AskAlike Q N = record { Good = λ s. Unit {0}; alike = λ s h answers. refl; stays = λ s h answers. any_ask (Q s answers).ask } in
    one_outcome N o p
    (subst (λ b. IsOutcome N b cells o) start (outcome_alike P N from_left o tt left))
    (outcome_alike Q N from_right p tt right)
