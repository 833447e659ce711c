-- A wait that the seat has seen to be met is done.
use Rattle.std.proofs.Common.{◌≡◌, refl, sym, subst, ap, ◌∙◌, ℕ, false, List, Option, None}
use lib.ListN.{get_elem?}
use Rattle.std.specs.Prelude.{OnErr, Result, Ok, Err}
use Rattle.oss_body.specs.declared.act.Act.TheVariants as acts
use Rattle.oss_body.specs.Acts.{act_seen, answer_to}
use Rattle.oss_body.specs.Relation.{is_over, pending_of}
use Rattle.oss_code.specs.declared.code.CodeParts.{CodeParts}
use Rattle.oss_jobs.specs.declared.job.Job.{Job}
use Rattle.oss_jobs.specs.Jobs.{IsJob, body_of}
use Rattle.oss_machine.specs.Frames.{CodeScript}
use Rattle.oss_machine.specs.Machines.{asks}
use Rattle.oss_model.specs.Bodies.{Act, Body}
use Rattle.oss_model.specs.Bodies.Act.{Awaited, Waited}
use Rattle.oss_model.specs.Moves.{act_now}
use Rattle.oss_roles.specs.Alone.{IsOwnAct, with_answer}
use Rattle.oss_roles.specs.Passing.{AllDone, MayPass, NewestDone, last_done, newest_done, no_child, no_task, went_on}
use Rattle.oss_roles.specs.Roles.{Site, itself}
use Rattle.oss_field.specs.Known.{Known, bearing_of, last_of, sight_of}
use Rattle.oss_acts.specs.Working.{HasActed, Works}
use Rattle.oss_acts.proofs.TouchLemmas.{Advances}
use Rattle.oss_acts.proofs.WorkLemmas.{program_on}
use Rattle.oss_endings.specs.Ending.{AreDone, IsNewestDone, newest_seen, no_newest, none_there, seen_done}
use Rattle.oss_endings.specs.Letting.{Looks}
use Rattle.oss_endings.proofs.LookLemmas.{last_is}
use Rattle.oss_field.proofs.MeetLemmas.{go_on}

-- what is so anyway is so of an error
pub of_error : {A E X : Type 0} (r : Result A E) → X → OnErr r X
of_error (Ok v) x = tt
of_error (Err e) x = x

-- What a job that stays tells: it is a job of the same task as before.
abbrev pub StaysJob : Job → Job → Type 0
StaysJob job job' = (parts : CodeParts) (before : List ℕ) (t : ℕ) (b : Body CodeScript) (last : Site → Option ℕ) → IsJob parts before job t b last → IsJob parts before job' t b last

pub stays_works : (code : CodeParts) (job job' : Job) (x : Body CodeScript) (k : Known) → StaysJob job job' → Works code job x k → Works code job' x k
stays_works code job job' x k stays w = record {
  holding = w.holding;
  bears = w.bears;
  given = record { holds = w.given.holds; may = w.given.may; is = stays code w.holding.before w.holding.number x (last_of w.holding) w.given.is };
  of_program = w.of_program;
  makes = w.makes;
  plans = w.plans;
  unlinked = w.unlinked;
}

module _ (code : CodeParts) (job job' : Job) (x : Body CodeScript) (k l : Known) (w : Works code job x k) (running : is_over (body_of job) ≡ false) (looks : Looks k l) (advance : Advances code job job' 0) where
  acted : (act : Act CodeScript) → act_seen (pending_of (body_of job)) ≡ act → IsOwnAct act → answer_to act 0 ≡ 0 → MayPass (sight_of l) (bearing_of w.holding) act → HasActed code job job' 0 k l
  acted act next own none pass =
      let is : act_now (asks code) x ≡ act = sym (w.given.is.body.act running) ∙ next in record {
        body = x;
        before = w;
        after = record {
          holding = w.holding;
          bears = ap (λ (z : Known). z.bears) looks.same ∙ w.bears;
          given = record {
            holds = ap (λ (z : Known). get_elem? z.bears 0) looks.same ∙ w.given.holds;
            may = went_on (go_on (sight_of k) (sight_of l) (bearing_of w.holding) looks.seen (asks code) x w.given.may) (subst (λ (a : Act CodeScript). IsOwnAct a) (sym is) own) (subst (λ (a : Act CodeScript). MayPass (sight_of l) (bearing_of w.holding) a) (sym is) pass);
            is = subst (λ (v : ℕ). IsJob code w.holding.before job' w.holding.number (with_answer v x) (last_of w.holding)) (ap (λ (a : Act CodeScript). answer_to a 0) next ∙ none) (advance w.holding.before w.holding.number x (last_of w.holding) w.given.is);
          };
          of_program = program_on code x (with_answer 0 x) refl w.of_program;
          makes = ap (λ (z : Known). z.makes) looks.same ∙ w.makes;
          plans = ap (λ (z : Known). z.plans) looks.same ∙ w.plans;
          unlinked = ap (λ (z : Known). z.unlinked) looks.same ∙ w.unlinked;
        };
      }

  all_are : AreDone job l None → AllDone (sight_of l) (bearing_of w.holding) itself
  all_are (none_there none) = no_child (sym (last_is code job x k w None) ∙ none)
  all_are (seen_done y last among clear done) = last_done y (sym (last_is code job x k w None) ∙ last) among clear done

  newest_is : IsNewestDone job l → NewestDone (sight_of l) (bearing_of w.holding)
  newest_is (no_newest none) = no_task (sym (last_is code job x k w None) ∙ none)
  newest_is (newest_seen y last among done) = newest_done y (sym (last_is code job x k w None) ∙ last) among done

  pub waited : pending_of (body_of job) ≡ acts.Wait → AreDone job l None → HasActed code job job' 0 k l
  waited is done = acted Waited (ap act_seen is) tt refl (all_are done)

  pub awaited : pending_of (body_of job) ≡ acts.Await → IsNewestDone job l → HasActed code job job' 0 k l
  awaited is done = acted Awaited (ap act_seen is) tt refl (newest_is done)
