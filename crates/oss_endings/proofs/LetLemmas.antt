-- What a give and a leave of a job that a seat works with ask for, and what they leave.
use Rattle.std.proofs.Common.{◌≡◌, ◌≢◌, refl, sym, subst, ap, ◌∙◌, ℕ, ◌<◌, ◌+◌, arith, Bool, true, false, ◌==◌, List, [], ◌∷◌, ◌++◌, length, set, Option, Some, None}
use Rattle.std.specs.Prelude.{not}
use lib.ListN.{get_elem?}
use Rattle.oss_body.specs.Places.{Placed}
use Rattle.oss_body.specs.Relation.{is_over, released_by}
use Rattle.oss_code.specs.declared.code.CodeParts.{CodeParts}
use Rattle.oss_jobs.specs.declared.job.Job.{Job}
use Rattle.oss_jobs.specs.Jobs.{body_of, task_of}
use Rattle.oss_machine.specs.Frames.{CodeScript}
use Rattle.oss_machine.specs.Machines.{asks}
use Rattle.oss_model.specs.Bodies.{Body, Start, stack_from}
use Rattle.oss_model.specs.Context.{right_of}
use Rattle.oss_model.specs.Moves.{is_ended, slot_of}
use Rattle.oss_model.specs.Rights.{Right, NoRight, Released, Holds, is_released}
use Rattle.oss_syntax.specs.declared.access.Mode.{Mode}
use Rattle.oss_syntax.specs.declared.access.Mode.TheVariants.{Fold}
use Rattle.oss_syntax.specs.declared.access.Op.{Op}
use Rattle.oss_words.specs.Bits.{state_at}
use Rattle.oss_words.specs.Views.{Among, Seen, among_first}
use Rattle.oss_words.proofs.SeatLemmas.{among_none}
use Rattle.oss_roles.specs.JobSteps.{MayEnd, MayGive, ended, released}
use Rattle.oss_roles.specs.Numbers.{cells_below}
use Rattle.oss_roles.specs.Passing.{AllDone, last_done, no_child, still_there}
use Rattle.oss_roles.specs.Roles.{itself}
use Rattle.oss_roles.specs.Sights.{Making}
use Rattle.oss_field.specs.Asks.{IsGiven}
use Rattle.oss_field.specs.Giving.{Gave, IsSeenGiven, IsStillOpen, StandsToGive, gives_cell, gives_own}
use Rattle.oss_field.specs.Known.{Holding, Known, bearing_of, sight_of}
use Rattle.oss_field.specs.Leaving.{HasLeft, IsStillUnleft, StandsToLeave}
use Rattle.oss_field.specs.Moves.{with_body}
use Rattle.oss_field.specs.Owning.{HasEntry, entry_of}
use Rattle.oss_field.specs.Reading.{after_flags, is_entry_of, is_own, kept_still}
use Rattle.oss_field.proofs.MeetLemmas.{both_are, in_range, not_zero, own_is}
use Rattle.oss_field.proofs.MeetLemmas as meet
use Rattle.oss_acts.specs.Working.{SameWork, Works}
use Rattle.oss_acts.proofs.WorkLemmas.{go_start, program_on, set_one, the_place}
use Rattle.oss_endings.specs.Ending.{AllGiven, AreDone, IsWaitMet, MayLetGo, entry_there, has_ended, has_released, none_there, right_there, seen_done}
use Rattle.oss_endings.specs.Letting.{Lets, Looks, looked_more, nothing_yet}
use Rattle.oss_endings.proofs.LookLemmas.{entry_is, last_is, looks_one, looks_work, number_is, right_is, start_is}

-- deliveries
pub same_work : (code : CodeParts) (job : Job) (x : Body CodeScript) (k l : Known) → SameWork k l → Works code job x k → Works code job x l
same_work code job x k l s w = record {
  holding = w.holding;
  bears = s.bears ∙ w.bears;
  given = record {
    holds = ap (λ (z : List Holding). get_elem? z 0) s.bears ∙ w.given.holds;
    may = meet.go_on (sight_of k) (sight_of l) (bearing_of w.holding) (λ y a. subst (λ (z : List Seen). Among y z) (sym s.seen) a) (asks code) x w.given.may;
    is = w.given.is;
  };
  of_program = w.of_program;
  makes = s.makes ∙ w.makes;
  plans = s.plans ∙ w.plans;
  unlinked = s.unlinked ∙ w.unlinked;
}

-- after a call that is given the job, which has gone on to the body y, the seat works with it at that body
works_at : (code : CodeParts) (job : Job) (x y : Body CodeScript) (k l : Known) (place : ℕ) (h : Holding) → Works code job x k → IsGiven code job k place h y
    → l.bears ≡ set k.bears place (with_body y h) → l.makes ≡ k.makes → l.plans ≡ k.plans → l.unlinked ≡ k.unlinked → Works code job y l
works_at code job x y k l place h w given bears makes plans unlinked =
    let p = the_place k.bears w.holding h place w.bears given.holds in
    let one = bears ∙ set_one k.bears w.holding (with_body y h) place w.bears p.0 in record {
      holding = with_body y h;
      bears = one;
      given = record {
        holds = ap (λ (z : List Holding). get_elem? z 0) one;
        may = still_there;
        is = given.is;
      };
      of_program = program_on code x y (start_is code job x k w ∙ (ap (λ (z : Holding). z.body.start) (sym p.1) ∙ sym (go_start (asks code) (sight_of k) (bearing_of h) y given.may))) w.of_program;
      makes = makes ∙ w.makes;
      plans = plans ∙ w.plans;
      unlinked = unlinked ∙ w.unlinked;
    }

pub gave_works : (code : CodeParts) (job : Job) (x : Body CodeScript) (k l : Known) (cell : Option ℕ) → Works code job x k → Gave code job cell k l → (y : Body CodeScript) × Works code job y l
gave_works code job x k l cell w g = (
  g.may.body,
  works_at code job x g.may.body k l g.may.place g.may.holding w g.may.given
      (ap (λ (z : Known). z.bears) g.known) (ap (λ (z : Known). z.makes) g.known) (ap (λ (z : Known). z.plans) g.known) (ap (λ (z : Known). z.unlinked) g.known),
)

pub left_works : (code : CodeParts) (job : Job) (x : Body CodeScript) (k l : Known) (cell value : ℕ) → Works code job x k → HasLeft code job cell value k l → (y : Body CodeScript) × Works code job y l
left_works code job x k l cell value w g = (
  g.may.body,
  works_at code job x g.may.body k l g.may.place g.may.holding w g.may.given
      (ap (λ (z : Known). z.bears) g.known) (ap (λ (z : Known). z.makes) g.known) (ap (λ (z : Known). z.plans) g.known) (ap (λ (z : Known). z.unlinked) g.known),
)

-- the job in its hand, seen as the task that it is of
module _ (code : CodeParts) (job : Job) (x : Body CodeScript) (k : Known) (w : Works code job x k) where
  over_is : is_over (body_of job) ≡ true → is_ended (asks code) x ≡ true
  over_is over = sym w.given.is.body.ended ∙ over

  released_is : (c : ℕ) → released_by (body_of job) c ≡ true → right_of (stack_from (asks code) x.start x.found).base.context c ≡ Released
  released_is c is = go (right_of (stack_from (asks code) x.start x.found).base.context c) (sym (ap (λ (z : Placed). is_released (right_of z.context c)) w.given.is.body.place) ∙ is)
    where
      go : (r : Right) → is_released r ≡ true → r ≡ Released
      go Released e = refl
      go NoRight e = absurd (let bad : ⊥ = cc in bad)
      go (Holds mode strong) e = absurd (let bad : ⊥ = cc in bad)

  done_is : AreDone job k None → AllDone (sight_of k) (bearing_of w.holding) itself
  done_is (none_there none) = no_child (sym (last_is code job x k w None) ∙ none)
  done_is (seen_done y last among clear done) = last_done y (sym (last_is code job x k w None) ∙ last) among clear done

  wait_is : IsWaitMet job k → MayEnd (sight_of k) (bearing_of w.holding) x
  wait_is met asks_ = done_is (met (w.given.is.body.wait ∙ asks_))

  may_is : (c : ℕ) → MayLetGo job k c → MayGive (asks code) (sight_of k) (bearing_of w.holding) x c
  may_is c (has_released is) = released (released_is c is)
  may_is c (has_ended over met) = ended (over_is over) (wait_is met)

  pub below_is : task_of job ≢ 0 → w.holding.number ≢ 0
  below_is below e = below (number_is code job x k w ∙ e)

  no_makes : (a : Making) → Among a k.makes → a.by ≢ w.holding.number
  no_makes a among = absurd (let bad : ⊥ = among_none a (subst (λ (z : List Making). Among a z) w.makes among) in bad)

  pub own_right : (c : ℕ) (r : Right) → right_there job c ≡ r → right_of x.start.context c ≡ r
  own_right c r e = sym (ap (λ z. right_of z c) w.given.is.body.context) ∙ e

  right_held : (c : ℕ) (r : Right) → right_there job c ≡ r → right_of w.holding.body.start.context c ≡ r
  right_held c r e = sym (right_is code job x k w c) ∙ e

  pub stands_cell : (c : ℕ) (mode : Mode) (strong : Bool) → task_of job ≢ 0 → right_there job c ≡ Holds mode strong → ((op : Op) → right_there job c ≢ Holds (Fold op) true) → MayLetGo job k c
      → IsStillOpen k (entry_there job (Some c)) → k.words.held ≡ [] → StandsToGive code job k (Some c)
  stands_cell c mode strong below right plain may still empty = record {
    place = 0;
    holding = w.holding;
    body = x;
    given = w.given;
    below_main = below_is below;
    makes = no_makes;
    still = subst (λ (z : ℕ). IsStillOpen k z) (entry_is code job x k w (Some c) (mode, strong, right_held c (Holds mode strong) right)) still;
    may = gives_cell c mode strong (right_held c (Holds mode strong) right) (λ op e. plain op (right_is code job x k w c ∙ e)) (may_is c may);
    empty = empty;
  }

  pub stands_own : task_of job ≢ 0 → is_over (body_of job) ≡ true → AllGiven job k → IsStillOpen k (entry_there job None) → k.words.held ≡ [] → StandsToGive code job k None
  stands_own below over all still empty = record {
    place = 0;
    holding = w.holding;
    body = x;
    given = w.given;
    below_main = below_is below;
    makes = no_makes;
    still = subst (λ (z : ℕ). IsStillOpen k z) (number_is code job x k w) still;
    may = gives_own (over_is over) (λ d mode strong right. subst (λ (z : ℕ). IsSeenGiven k z) (entry_is code job x k w (Some d) (mode, strong, right)) (all d mode strong (right_is code job x k w d ∙ right)));
    empty = empty;
  }

  pub stands_left : (c value : ℕ) (op : Op) → task_of job ≢ 0 → right_there job c ≡ Holds (Fold op) true → is_over (body_of job) ≡ true → IsWaitMet job k
      → value ≡ slot_of (asks code) x.start c op x.found → IsStillUnleft k (entry_there job (Some c)) → k.words.held ≡ [] → StandsToLeave code job k c value
  stands_left c value op below right over met value_is still empty = record {
    place = 0;
    holding = w.holding;
    body = x;
    given = w.given;
    below_main = below_is below;
    op = op;
    right = right_held c (Holds (Fold op) true) right;
    ended = over_is over;
    wait = wait_is met;
    value_is = value_is;
    still = subst (λ (z : ℕ). IsStillUnleft k z) (entry_is code job x k w (Some c) (Fold op, true, right_held c (Holds (Fold op) true) right)) still;
    empty = empty;
  }

  -- what flags of an entry of its own keep
  pub own_entry : (m : ℕ) → task_of job ≢ 0 → is_entry_of m w.holding (entry_of w.holding None) ≡ true
  own_entry m below = both_are (not (w.holding.number == 0)) _ (not_zero w.holding.number (below_is below))
      (in_range w.holding.number (w.holding.number + 1 + cells_below (right_of w.holding.body.start.context) m) w.holding.number (omega arith) (omega arith))

  pub still_after : (m : ℕ) (cell : Option ℕ) (word : ℕ) (l : Known) → l ≡ after_flags m (entry_there job cell) word k → task_of job ≢ 0 → HasEntry w.holding cell
      → is_entry_of m w.holding (entry_of w.holding cell) ≡ true → Among (record { entry = entry_there job cell; state = state_at word; value = None }) l.still
  still_after m cell word l known below has own =
      let e = entry_there job cell in
      let it : is_own m k.bears e ≡ true = own_is m k.bears 0 w.holding e w.given.holds (ap (λ (z : ℕ). is_entry_of m w.holding z) (entry_is code job x k w cell has) ∙ own) in
      subst (λ (z : Known). Among (record { entry = e; state = state_at word; value = None }) z.still) (sym known)
      (subst (λ (b : Bool). Among (record { entry = e; state = state_at word; value = None }) (kept_still b e (state_at word) k.still)) (sym it) (among_first refl))

-- what the seat had seen for a wait it has seen still
done_on : (job : Job) (k l : Known) (cell : Option ℕ) → Looks k l → AreDone job k cell → AreDone job l cell
done_on job k l cell looks (none_there none) = none_there none
done_on job k l cell looks (seen_done y last among clear done) = seen_done y last (looks.seen y among) clear done

wait_on : (job : Job) (k l : Known) → Looks k l → IsWaitMet job k → IsWaitMet job l
wait_on job k l looks met = λ asks_. done_on job k l None looks (met asks_)

let_on : (job : Job) (k l : Known) (c : ℕ) → Looks k l → MayLetGo job k c → MayLetGo job l c
let_on job k l c looks (has_released is) = has_released is
let_on job k l c looks (has_ended over met) = has_ended over (wait_on job k l looks met)

given_on : (job : Job) (k l : Known) → Looks k l → AllGiven job k → AllGiven job l
given_on job k l looks all = λ c mode strong right. let y = all c mode strong right in record { it = y.it; among = looks.seen y.it y.among; entry = y.entry; given = y.given }

held_on : (k l : Known) → Looks k l → k.words.held ≡ [] → l.words.held ≡ []
held_on k l looks empty = ap (λ (z : Known). z.words.held) looks.same ∙ empty

module _ (code : CodeParts) (job : Job) (x : Body CodeScript) (k l : Known) (w : Works code job x k) (cell : Option ℕ) (word : ℕ) (known : l ≡ after_flags (length code.first) (entry_there job cell) word k) (below : task_of job ≢ 0) (empty : k.words.held ≡ []) where
  looks : Looks k l
  looks = looks_one (length code.first) (entry_there job cell) word k l known

  on : Works code job x l
  on = looks_work code job x k l looks w

  held_right : (c : ℕ) (mode : Mode) (strong : Bool) → right_there job c ≡ Holds mode strong → right_of w.holding.body.start.context c ≡ Holds mode strong
  held_right c mode strong right = sym (right_is code job x k w c) ∙ right

  low : (c : ℕ) (mode : Mode) (strong : Bool) → right_there job c ≡ Holds mode strong → c < length code.first
  low c mode strong right = w.of_program.inside c mode strong (ap (λ (z : Start CodeScript). right_of z.context c) (start_is code job x k w) ∙ held_right c mode strong right)

  cell_still : (c : ℕ) (mode : Mode) (strong : Bool) → cell ≡ Some c → right_there job c ≡ Holds mode strong → Among (record { entry = entry_there job cell; state = state_at word; value = None }) l.still
  cell_still c mode strong is right = still_after code job x k w (length code.first) cell word l known below
      (subst (λ (z : Option ℕ). HasEntry w.holding z) (sym is) (mode, strong, held_right c mode strong right))
      (subst (λ (z : Option ℕ). is_entry_of (length code.first) w.holding (entry_of w.holding z) ≡ true) (sym is)
      (meet.entry_is (length code.first) w.holding c mode strong (below_is code job x k w below) (low c mode strong right) (held_right c mode strong right)))

  pub may_give_cell : (c : ℕ) (mode : Mode) (strong : Bool) → cell ≡ Some c → right_there job c ≡ Holds mode strong → ((op : Op) → right_there job c ≢ Holds (Fold op) true) → MayLetGo job k c → (state_at word).given ≡ false → StandsToGive code job l (Some c)
  may_give_cell c mode strong is right plain may open_yet = stands_cell code job x l on c mode strong below right plain (let_on job k l c looks may)
      (record { it = record { entry = entry_there job cell; state = state_at word; value = None }; among = cell_still c mode strong is right; entry = ap (λ (z : Option ℕ). entry_there job z) is; open_yet = open_yet })
      (held_on k l looks empty)

  pub may_give_own : cell ≡ None → is_over (body_of job) ≡ true → AllGiven job k → (state_at word).given ≡ false → StandsToGive code job l None
  may_give_own is over all open_yet = stands_own code job x l on below over (given_on job k l looks all)
      (record {
        it = record { entry = entry_there job cell; state = state_at word; value = None };
        among = still_after code job x k w (length code.first) cell word l known below (subst (λ (z : Option ℕ). HasEntry w.holding z) (sym is) tt)
            (subst (λ (z : Option ℕ). is_entry_of (length code.first) w.holding (entry_of w.holding z) ≡ true) (sym is) (own_entry code job x k w (length code.first) below));
        entry = ap (λ (z : Option ℕ). entry_there job z) is;
        open_yet = open_yet;
      })
      (held_on k l looks empty)

  pub may_leave_cell : (c value : ℕ) (op : Op) → cell ≡ Some c → right_there job c ≡ Holds (Fold op) true → is_over (body_of job) ≡ true → IsWaitMet job k → value ≡ slot_of (asks code) x.start c op x.found
      → (state_at word).left ≡ false → (state_at word).given ≡ false → StandsToLeave code job l c value
  may_leave_cell c value op is right over met value_is unleft open_yet = stands_left code job x l on c value op below right over (wait_on job k l looks met) value_is
      (record { it = record { entry = entry_there job cell; state = state_at word; value = None }; among = cell_still c (Fold op) true is right; entry = ap (λ (z : Option ℕ). entry_there job z) is; unleft = unleft; open_yet = open_yet })
      (held_on k l looks empty)

-- what a seat does while it lets go, in its order
append_none : (xs : List ℕ) → xs ++ [] ≡ xs
append_none [] = refl
append_none (x ∷ xs) = ap (λ (z : List ℕ). x ∷ z) (append_none xs)

pub lets_look : (code : CodeParts) (job : Job) (k l : Known) → Looks k l → Lets code job k l []
lets_look code job k l looks = looked_more (nothing_yet refl refl) looks
