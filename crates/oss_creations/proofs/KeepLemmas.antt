-- A seat works with a job whatever else it knows.
use Rattle.std.proofs.Common.{◌≡◌, refl, sym, subst, ◌∙◌, ℕ, ◌+◌, ◌<◌, List, Option, Some, None}
use mathlib.Core.Option as maybe
use lib.ListN.{get_elem?}
use Rattle.oss_body.specs.declared.body.Body.{Body as Kept}
use Rattle.oss_body.specs.Relation.{IsBody}
use Rattle.oss_code.specs.declared.code.CodeParts.{CodeParts}
use Rattle.oss_jobs.specs.declared.job.Job.{Job}
use Rattle.oss_jobs.specs.Jobs.{HasCells, IsJob, SameJob}
use Rattle.oss_machine.specs.Frames.{CodeScript}
use Rattle.oss_machine.specs.Machines.{asks}
use Rattle.oss_model.specs.Bodies.{Act, Body, Program}
use Rattle.oss_model.specs.Bodies.Act.{Ticked, Load, Store, Folded, Created, Awaited, Waited, WaitedOn, Releases, Printed, Ended, Fault, Over}
use Rattle.oss_model.specs.Context.{right_of}
use Rattle.oss_model.specs.Moves.{act_now}
use Rattle.oss_words.specs.Views.{Among, Seen}
use Rattle.oss_roles.specs.Passing.{AllDone, MayGo, MayPass, NewestDone, last_done, newest_done, no_child, no_task, still_there, went_on}
use Rattle.oss_roles.specs.Roles.{Site, itself, on}
use Rattle.oss_roles.specs.Sights.{Bearing, Sight}
use Rattle.oss_field.specs.Known.{Holding, Known, bearing_of, sight_of}
use Rattle.oss_acts.specs.Working.{SameWork, Works}
use Rattle.oss_model.specs.Rights.{Right}
use Rattle.oss_creations.specs.Creating.{OfNew}
use Rattle.oss_creations.specs.Keeping.{HasMade, HasStayed, IsCreation, KeepsWork}

-- what a job may have done by itself is no less, if as much was seen
module _ (v w : Sight CodeScript) (b : Bearing CodeScript) (more : (y : Seen) → Among y v.seen → Among y w.seen) where
  all_on : (y : Site) → AllDone v b y → AllDone w b y
  all_on y (no_child none) = no_child none
  all_on y (last_done x is among clear done) = last_done x is (more x among) clear done

  newest_on : NewestDone v b → NewestDone w b
  newest_on (no_task none) = no_task none
  newest_on (newest_done x is among done) = newest_done x is (more x among) done

  pass_on : (a : Act CodeScript) → MayPass v b a → MayPass w b a
  pass_on Ticked m = m
  pass_on (Load c) m = m
  pass_on (Store c x) m = m
  pass_on (Folded c o x s) m = m
  pass_on (Created o i) m = m
  pass_on Awaited m = newest_on m
  pass_on Waited m = all_on itself m
  pass_on (WaitedOn named) m = λ c q. all_on (on c) (m c q)
  pass_on (Releases l i) m = m
  pass_on (Printed k t) m = m
  pass_on Ended m = m
  pass_on (Fault f l k) m = m
  pass_on Over m = m

  pub go_on : (P : Program CodeScript) (x : Body CodeScript) → MayGo P v b x → MayGo P w b x
  go_on P x still_there = still_there
  go_on P x (went_on {x = y} m own pass) = went_on (go_on P y m) own (pass_on (act_now P y) pass)

pub kept_of : (k l : Known) → SameWork k l → KeepsWork k l
kept_of k l s = record { bears = s.bears; makes = s.makes; plans = s.plans; unlinked = s.unlinked; seen = s.seen }

pub kept_back : (k l : Known) → KeepsWork k l → KeepsWork l k
kept_back k l s = record { bears = sym s.bears; makes = sym s.makes; plans = sym s.plans; unlinked = sym s.unlinked; seen = sym s.seen }

pub kept_more : (k l m : Known) → KeepsWork k l → KeepsWork l m → KeepsWork k m
kept_more k l m a b = record { bears = b.bears ∙ a.bears; makes = b.makes ∙ a.makes; plans = b.plans ∙ a.plans; unlinked = b.unlinked ∙ a.unlinked; seen = b.seen ∙ a.seen }

pub works_still : (code : CodeParts) (j : Job) (x : Body CodeScript) (k l : Known) → KeepsWork k l → (w : Works code j x k) → (y : Works code j x l) × (y.holding ≡ w.holding)
works_still code j x k l s w = (
  record {
    holding = w.holding;
    bears = s.bears ∙ w.bears;
    given = record {
      holds = subst (λ (z : List Holding). get_elem? z 0 ≡ maybe.some w.holding) (sym s.bears) w.given.holds;
      may = go_on (sight_of k) (sight_of l) (bearing_of w.holding) (λ y a. subst (λ (z : List Seen). Among y z) (sym s.seen) a) (asks code) x w.given.may;
      is = w.given.is;
    };
    of_program = w.of_program;
    makes = s.makes ∙ w.makes;
    plans = s.plans ∙ w.plans;
    unlinked = s.unlinked ∙ w.unlinked;
  },
  refl,
)

pub works_on : (code : CodeParts) (j : Job) (x : Body CodeScript) (k l : Known) → KeepsWork k l → Works code j x k → Works code j x l
works_on code j x k l s w = (works_still code j x k l s w).0

-- a job that tells the same is that of the same task
pub job_on : (code : CodeParts) (before : List ℕ) (i j : Job) (t : ℕ) (b : Body CodeScript) (last : Site → Option ℕ) → SameJob i j → IsJob code before i t b last → IsJob code before j t b last
job_on code before i j t b last s is = record {
  task = s.beside.task ∙ is.task;
  body = subst (λ (x : Kept). IsBody code b.start b.found x) (sym s.body) is.body;
  since = is.since;
  found = is.found;
  prints = s.prints ∙ is.prints;
  cells = subst (λ (n : ℕ). HasCells n (right_of b.start.context)) (sym s.beside.cells) is.cells;
  numbers = subst (λ (n : ℕ). t + n < 16777216) (sym s.beside.cells) is.numbers;
  entries = λ c. s.beside.entries c ∙ is.entries c;
  lasts = λ c. s.beside.last.lasts c ∙ is.lasts c;
  last_child = s.beside.last.last_child ∙ is.last_child;
}

pub job_back : (code : CodeParts) (before : List ℕ) (i j : Job) (t : ℕ) (b : Body CodeScript) (last : Site → Option ℕ) → SameJob i j → IsJob code before j t b last → IsJob code before i t b last
job_back code before i j t b last s is = record {
  task = sym s.beside.task ∙ is.task;
  body = subst (λ (x : Kept). IsBody code b.start b.found x) s.body is.body;
  since = is.since;
  found = is.found;
  prints = sym s.prints ∙ is.prints;
  cells = subst (λ (n : ℕ). HasCells n (right_of b.start.context)) s.beside.cells is.cells;
  numbers = subst (λ (n : ℕ). t + n < 16777216) s.beside.cells is.numbers;
  entries = λ c. sym (s.beside.entries c) ∙ is.entries c;
  lasts = λ c. sym (s.beside.last.lasts c) ∙ is.lasts c;
  last_child = sym s.beside.last.last_child ∙ is.last_child;
}

with_job : (code : CodeParts) (i j : Job) (x : Body CodeScript) (k : Known) (w : Works code i x k) → IsJob code w.holding.before j w.holding.number x (bearing_of w.holding).last → Works code j x k
with_job code i j x k w is = record {
  holding = w.holding;
  bears = w.bears;
  given = record { holds = w.given.holds; may = w.given.may; is = is };
  of_program = w.of_program;
  makes = w.makes;
  plans = w.plans;
  unlinked = w.unlinked;
}

pub works_same : (code : CodeParts) (i j : Job) (x : Body CodeScript) (k : Known) → SameJob i j → Works code i x k → Works code j x k
works_same code i j x k s w = with_job code i j x k w (job_on code w.holding.before i j w.holding.number x (bearing_of w.holding).last s w.given.is)

pub works_back : (code : CodeParts) (i j : Job) (x : Body CodeScript) (k : Known) → SameJob i j → Works code j x k → Works code i x k
works_back code i j x k s w = with_job code j i x k w (job_back code w.holding.before i j w.holding.number x (bearing_of w.holding).last s w.given.is)

-- what happened before the act is what the seat knew
pub made_from : (code : CodeParts) (i j j' : Job) (k l m : Known) → SameJob i j → KeepsWork k l → HasMade code j j' l m → HasMade code i j' k m
made_from code i j j' k l m s e a = record { body = a.body; before = works_on code i a.body l k (kept_back k l e) (works_back code i j a.body l s a.before); after = a.after }

pub stayed_from : (code : CodeParts) (i j j' : Job) (k l m : Known) → SameJob i j → KeepsWork k l → HasStayed code j j' l m → HasStayed code i j' k m
stayed_from code i j j' k l m s e a = record { body = a.body; before = works_on code i a.body l k (kept_back k l e) (works_back code i j a.body l s a.before); after = a.after }

pub job_itself : (j : Job) → SameJob j j
job_itself j = record { beside = record { task = refl; cells = refl; entries = λ c. refl; last = record { lasts = λ c. refl; last_child = refl; room = λ accesses enough. enough } }; body = refl; prints = refl }

pub kept_itself : (k : Known) → KeepsWork k k
kept_itself k = record { bears = refl; makes = refl; plans = refl; unlinked = refl; seen = refl }

-- the seat works with the job as before
pub stays : (code : CodeParts) (i j : Job) (k l : Known) → SameJob i j → KeepsWork k l → (x : Body CodeScript) × Works code i x k → HasStayed code i j k l
stays code i j k l s e w = record { body = w.0; before = w.1; after = works_same code i j w.0 l s (works_on code i w.0 k l e w.1) }

-- a creation whose job was made ready before it
pub creation_from : (code : CodeParts) (i j j' : Job) (k l m : Known) (r : Option ℕ) → SameJob i j → KeepsWork k l → IsCreation code j j' l m r → IsCreation code i j' k m r
creation_from code i j j' k l m (Some t) s e c = (made_from code i j j' k l m s e c.0, c.1)
creation_from code i j j' k l m None s e c = (stayed_from code i j j' k l m s e c.0, c.1)

-- what a job tells of the task whose creation stands next, it tells as long as its body is the same
pub new_on : (code : CodeParts) (i j : Job) (P : (ℕ → Right) → Type 0) → SameJob i j → OfNew code i P → OfNew code j P
new_on code i j P s new start found order is act = new start found order (subst (λ (b : Kept). IsBody code start found b) s.body is) act
