-- What a look at flags leaves: the seat works with its job as before, and the entries of the job are entries of the field.
use Rattle.std.proofs.Common.{◌≡◌, ◌≢◌, refl, sym, subst, ap, ◌∙◌, ℕ, ◌<◌, arith, Bool, true, false, ◌&&◌, List, Option, Some, None}
use Rattle.std.specs.Prelude.{if◌then◌else◌}
use lib.ListN.{get_elem?}
use Rattle.atomic_table.specs.Seated.{TableId}
use Rattle.oss_code.specs.declared.code.CodeParts.{CodeParts}
use Rattle.oss_jobs.specs.declared.job.Job.{Job}
use Rattle.oss_jobs.specs.Entries.{or_zero}
use Rattle.oss_jobs.specs.Jobs.{entry_at, last_child_of, task_of}
use Rattle.oss_machine.specs.Frames.{CodeScript}
use Rattle.oss_machine.specs.Machines.{asks}
use Rattle.oss_model.specs.Bodies.{Body, Start}
use Rattle.oss_model.specs.Context.{right_of}
use Rattle.oss_model.specs.Rights.{Right, NoRight, Released, Holds}
use Rattle.oss_syntax.specs.declared.access.Mode.{Mode}
use Rattle.oss_words.specs.Bits.{state_at}
use Rattle.oss_words.specs.Views.{Among, among_first, among_later}
use Rattle.oss_roles.specs.Numbers.{entry_on, entry_number, has_cell}
use Rattle.oss_roles.specs.Sights.{Fixed}
use Rattle.oss_field.specs.Asks.{AreInside, IsInside}
use Rattle.oss_field.specs.Known.{Holding, Known, bearing_of, last_of, sight_of}
use Rattle.oss_field.specs.Owning.{HasEntry, entry_of, site_of}
use Rattle.oss_field.specs.Reading.{after_flags, is_own, kept_still}
use Rattle.oss_field.proofs.MeetLemmas.{go_on}
use Rattle.oss_acts.specs.Working.{Works}
use Rattle.oss_acts.proofs.WorkLemmas.{go_start}
use Rattle.oss_endings.specs.Ending.{AreDone, IsNewestDone, IsNewestUndone, IsUndone, entry_there, last_there, newest_seen, right_there, seen_done}
use Rattle.oss_endings.specs.Letting.{Looks}

still_more : (own : Bool) (e word : ℕ) (fs : List Fixed) (y : Fixed) → Among y fs → Among y (kept_still own e (state_at word) fs)
still_more true e word fs y among = among_later among
still_more false e word fs y among = among

pub looks_none : (k : Known) → Looks k k
looks_none k = record { same = refl; seen = λ y a. a; still = λ y a. a }

pub looks_one : (m e word : ℕ) (k l : Known) → l ≡ after_flags m e word k → Looks k l
looks_one m e word k l known = subst (λ (z : Known). Looks k z) (sym known) (record {
  same = refl;
  seen = λ y a. among_later a;
  still = λ y a. still_more (is_own m k.bears e) e word k.still y a;
})

-- the seat works on
pub looks_work : (code : CodeParts) (job : Job) (x : Body CodeScript) (k l : Known) → Looks k l → Works code job x k → Works code job x l
looks_work code job x k l looks w = record {
  holding = w.holding;
  bears = ap (λ (z : Known). z.bears) looks.same ∙ w.bears;
  given = record {
    holds = ap (λ (z : Known). get_elem? z.bears 0) looks.same ∙ w.given.holds;
    may = go_on (sight_of k) (sight_of l) (bearing_of w.holding) looks.seen (asks code) x w.given.may;
    is = w.given.is;
  };
  of_program = w.of_program;
  makes = ap (λ (z : Known). z.makes) looks.same ∙ w.makes;
  plans = ap (λ (z : Known). z.plans) looks.same ∙ w.plans;
  unlinked = ap (λ (z : Known). z.unlinked) looks.same ∙ w.unlinked;
}

-- the entry on a cell, by the right to it
held_number : (t : ℕ) (own : ℕ → Right) (c : ℕ) (mode : Mode) (strong : Bool) → own c ≡ Holds mode strong → or_zero (entry_on t own c) ≡ entry_number t own c
held_number t own c mode strong is = ap (λ (b : Bool). or_zero (if b then Some (entry_number t own c) else None)) (ap has_cell is)

no_number : (t : ℕ) (own : ℕ → Right) (c : ℕ) → has_cell (own c) ≡ false → or_zero (entry_on t own c) ≡ 0
no_number t own c is = ap (λ (b : Bool). or_zero (if b then Some (entry_number t own c) else None)) is

-- what a job tells is so of the task that is held
module _ (code : CodeParts) (job : Job) (x : Body CodeScript) (k : Known) (w : Works code job x k) where
  pub start_is : x.start ≡ w.holding.body.start
  start_is = go_start (asks code) (sight_of k) (bearing_of w.holding) x w.given.may

  pub right_is : (c : ℕ) → right_there job c ≡ right_of w.holding.body.start.context c
  right_is c = ap (λ z. right_of z c) w.given.is.body.context ∙ ap (λ (z : Start CodeScript). right_of z.context c) start_is

  pub last_is : (cell : Option ℕ) → last_there job cell ≡ last_of w.holding (site_of cell)
  last_is None = w.given.is.last_child
  last_is (Some c) = w.given.is.lasts c

  pub number_is : task_of job ≡ w.holding.number
  number_is = w.given.is.task

  told_entry : (c : ℕ) → entry_at job c ≡ entry_on w.holding.number (right_of w.holding.body.start.context) c
  told_entry c = w.given.is.entries c ∙ ap (λ (z : Start CodeScript). entry_on w.holding.number (right_of z.context) c) start_is

  pub entry_is : (cell : Option ℕ) → HasEntry w.holding cell → entry_there job cell ≡ entry_of w.holding cell
  entry_is None has = number_is
  entry_is (Some c) has = ap or_zero (told_entry c) ∙ held_number w.holding.number (right_of w.holding.body.start.context) c has.0 has.1 has.2

  at_first : (h : Holding) → h ≡ w.holding → Among h k.bears
  at_first h e = subst (λ (z : List Holding). Among h z) (sym w.bears) (among_first (sym e))

  inside_it : (d : TableId) → AreInside d k.bears → IsInside d w.holding
  inside_it d all = all w.holding (at_first w.holding refl)

  pub last_inside : (d : TableId) (n : ℕ) → AreInside d k.bears → d.slots ≡ n → (cell : Option ℕ) (e : ℕ) → last_there job cell ≡ Some e → e < n
  last_inside d n all size cell e is = subst (λ (z : ℕ). e < z) size ((inside_it d all).lasts (site_of cell) e (sym (last_is cell) ∙ is))

  cell_inside : (d : TableId) → IsInside d w.holding → w.holding.number ≢ 0 → (c : ℕ) (r : Right) → right_of w.holding.body.start.context c ≡ r → or_zero (entry_on w.holding.number (right_of w.holding.body.start.context) c) < d.slots
  cell_inside d i below c (Holds mode strong) is =
      subst (λ (z : ℕ). z < d.slots) (sym (held_number w.holding.number (right_of w.holding.body.start.context) c mode strong is)) (i.entries below c mode strong is)
  cell_inside d i below c NoRight is = let z = no_number w.holding.number (right_of w.holding.body.start.context) c (ap has_cell is) in let n = i.number in omega (arith, z, n)
  cell_inside d i below c Released is = let z = no_number w.holding.number (right_of w.holding.body.start.context) c (ap has_cell is) in let n = i.number in omega (arith, z, n)

  pub entry_inside : (d : TableId) (n : ℕ) → AreInside d k.bears → d.slots ≡ n → task_of job ≢ 0 → (cell : Option ℕ) → entry_there job cell < n
  entry_inside d n all size below None = subst (λ (z : ℕ). z < n) (sym number_is) (subst (λ (z : ℕ). w.holding.number < z) size (inside_it d all).number)
  entry_inside d n all size below (Some c) = subst (λ (z : ℕ). z < n) (ap or_zero (sym (told_entry c)))
      (subst (λ (z : ℕ). or_zero (entry_on w.holding.number (right_of w.holding.body.start.context) c) < z) size
      (cell_inside d (inside_it d all) (λ e. below (number_is ∙ e)) c (right_of w.holding.body.start.context c) refl))

-- what the flags of the last child tell
and_true : (a b : Bool) → (a && b) ≡ true → (a ≡ true) × (b ≡ true)
and_true true b e = (refl, e)
and_true false b e = absurd (let bad : ⊥ = cc in bad)

pub seen_after : (m e word : ℕ) (k l : Known) → l ≡ after_flags m e word k → Among (record { entry = e; state = state_at word }) l.seen
seen_after m e word k l known = subst (λ (z : Known). Among (record { entry = e; state = state_at word }) z.seen) (sym known) (among_first refl)

pub done_after : (m e word : ℕ) (job : Job) (k l : Known) (cell : Option ℕ) → l ≡ after_flags m e word k → last_there job cell ≡ Some e → ((state_at word).clear && (state_at word).done) ≡ true → AreDone job l cell
done_after m e word job k l cell known last both = let b = and_true (state_at word).clear (state_at word).done both in seen_done (record { entry = e; state = state_at word }) last (seen_after m e word k l known) b.0 b.1

pub undone_after : (m e word : ℕ) (job : Job) (k l : Known) (cell : Option ℕ) → l ≡ after_flags m e word k → last_there job cell ≡ Some e → ((state_at word).clear && (state_at word).done) ≡ false → IsUndone job l cell
undone_after m e word job k l cell known last both = record { it = record { entry = e; state = state_at word }; last = last; among = seen_after m e word k l known; undone = both }

pub newest_after : (m e word : ℕ) (job : Job) (k l : Known) → l ≡ after_flags m e word k → last_child_of job ≡ Some e → (state_at word).done ≡ true → IsNewestDone job l
newest_after m e word job k l known last done = newest_seen (record { entry = e; state = state_at word }) last (seen_after m e word k l known) done

pub newest_undone_after : (m e word : ℕ) (job : Job) (k l : Known) → l ≡ after_flags m e word k → last_child_of job ≡ Some e → (state_at word).done ≡ false → IsNewestUndone job l
newest_undone_after m e word job k l known last undone = record { it = record { entry = e; state = state_at word }; last = last; among = seen_after m e word k l known; undone = undone }
