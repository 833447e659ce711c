-- What the trials know after each call.
use Rattle.std.proofs.Common.{◌≡◌, ◌≢◌, sym, subst, refl, ◌∙◌, ap, ℕ, zero, suc, ◌<◌, ◌≤◌, ◌+◌, Bool, true, false, List, [], ◌∷◌, set}
use Rattle.std.specs.Prelude.{Option, Some, None, IfNone, IfSome}
use mathlib.Core.Option as maybe
use lib.ListN.{get_elem?}
use Rattle.oss_body.specs.declared.act.Act.{Act as Pending}
use Rattle.oss_body.specs.declared.act.Act.TheVariants as acts
use Rattle.oss_body.specs.Acts.{act_seen, answer_to}
use Rattle.oss_body.specs.Relation.{is_over, pending_of}
use Rattle.oss_code.specs.declared.code.CodeParts.{CodeParts}
use Rattle.oss_jobs.specs.declared.job.Job.{Job}
use Rattle.oss_jobs.specs.Jobs.{IsJob, body_of}
use Rattle.oss_machine.specs.Frames.{CodeScript}
use Rattle.oss_machine.specs.Machines.{asks}
use Rattle.oss_model.specs.Bodies.{Act, Body, word_of}
use Rattle.oss_model.specs.Bodies.Act.{Load, Store, Folded}
use Rattle.oss_model.specs.Moves.{act_now}
use Rattle.oss_syntax.specs.declared.access.Op.{Op}
use Rattle.oss_words.specs.Views.{Among}
use Rattle.oss_roles.specs.Alone.{with_answer}
use Rattle.oss_roles.specs.Passing.{still_there}
use Rattle.oss_roles.specs.Roles.{Site}
use Rattle.oss_roles.specs.Sights.{Making}
use Rattle.oss_field.specs.Asks.{HoldsOnce, IsGiven, IsLoaded, IsStored, MayLoad, MayStore, StandsBefore, to_load, to_store, has_loaded, has_noted, has_stored, has_folded}
use Rattle.oss_field.specs.Known.{Holding, Known, last_of}
use Rattle.oss_field.specs.Drawing.{IsAboveAll, drew, missed}
use Rattle.oss_field.specs.Moves.{answered, touched, with_body}
use Rattle.oss_field.specs.Seats.{IsIdle, new_known}
use Rattle.oss_field.specs.Taking.{IsPut, IsTaken, MayPut, after_count, after_take}
use Rattle.oss_field_tests.specs.Trials.{Idles, Works}

none_of : {A : Type 0} (a : A) → Among a [] → ⊥
none_of a h = elim h [ ]

-- a job that was taken by an idle seat
pub taken : (code : CodeParts) (fuel t m : ℕ) (job : Job) (h : Holding) (k l : Known) → IsTaken code fuel t job h → Idles k → l ≡ after_take m t h (after_count m t 0 k) → Works code job l
taken code fuel t m job h k l is idle known = subst (λ (z : Known). Works code job z) (sym known) (record {
  may = record {
    holding = h;
    others = k.bears;
    bears = refl;
    body = h.body;
    given = record { holds = refl; may = still_there; is = subst (λ (n : ℕ). IsJob code h.before job n h.body (last_of h)) (sym is.number) is.is };
    makes = λ a among. absurd (none_of a (subst (λ (z : List Making). Among a z) idle.makes among));
  };
  alone = idle.bears;
  makes = idle.makes;
})

-- and one that was put
pub rests_again : (code : CodeParts) (job : Job) (m : ℕ) (k l : Known) → Works code job k → IsPut code job m k l → Idles l
rests_again code job m k l w p = subst (λ (z : Known). Idles z) (sym p.known) (record {
  bears = ap tail_of (sym p.may.bears ∙ w.may.bears) ∙ w.alone;
  makes = w.makes;
})
  where
    tail_of : List Holding → List Holding
    tail_of [] = []
    tail_of (h ∷ hs) = hs

module _ (code : CodeParts) (job : Job) (k : Known) (w : Works code job k) (running : is_over (body_of job) ≡ false) where
  stands : (act : Act CodeScript) → act_seen (pending_of (body_of job)) ≡ act → StandsBefore code job k act
  stands act is = record { place = 0; holding = w.may.holding; body = w.may.body; given = w.may.given; act = sym (w.may.given.is.body.act running) ∙ is }

  pub may_load : (c : ℕ) → pending_of (body_of job) ≡ acts.Load c → MayLoad code job c k
  may_load c is = to_load (stands (Load c) (ap act_seen is))

  pub may_store : (c v : ℕ) → word_of v ≡ v → pending_of (body_of job) ≡ acts.Store c v → MayStore code job c v k
  may_store c v small is = to_store (stands (Store c v) (ap act_seen is ∙ ap (λ (z : ℕ). Store c z) small))

  -- after the act, with this answer
  goes_on : (job' : Job) (l : Known) (act : Act CodeScript) (answer word found : ℕ) (at : StandsBefore code job k act) → HoldsOnce k at.holding.number at.place
      → l ≡ touched word found (answered at.place at.holding at.body answer k)
      → ((before : List ℕ) (t : ℕ) (b : Body CodeScript) (last : Site → Option ℕ) → IsJob code before job t b last → IsJob code before job' t (with_answer answer b) last)
      → Works code job' l
  goes_on job' l act answer word found at once known advance =
      let number : w.may.holding.number ≡ at.holding.number = sym w.may.given.is.task ∙ at.given.is.task in
      let place : 0 ≡ at.place = once 0 w.may.holding w.may.given.holds number in
      let same : w.may.holding ≡ at.holding = maybe.some-injective w.may.holding at.holding (sym w.may.given.holds ∙ (ap (λ (z : ℕ). get_elem? k.bears z) place ∙ at.given.holds)) in
      let h : Holding = with_body (with_answer answer at.body) at.holding in
      let bears : set k.bears at.place h ≡ h ∷ w.may.others = ap (λ (z : ℕ). set k.bears z h) (sym place) ∙ ap (λ (z : List Holding). set z 0 h) w.may.bears in
      subst (λ (z : Known). Works code job' z) (sym known) (record {
        may = record {
          holding = h;
          others = w.may.others;
          bears = bears;
          body = h.body;
          given = record { holds = ap (λ (z : List Holding). get_elem? z 0) bears; may = still_there; is = advance at.holding.before at.holding.number at.body (last_of at.holding) at.given.is };
          makes = λ a among. absurd (none_of a (subst (λ (z : List Making). Among a z) w.makes among));
        };
        alone = w.alone;
        makes = w.makes;
      })

  abbrev Advances : Job → ℕ → Type 0
  Advances job' found = (before : List ℕ) (t : ℕ) (b : Body CodeScript) (last : Site → Option ℕ) → IsJob code before job t b last → IsJob code before job' t (with_answer (answer_to (act_seen (pending_of (body_of job))) found) b) last

  answers : (job' : Job) (a : Pending) (found : ℕ) → pending_of (body_of job) ≡ a → Advances job' found
      → (before : List ℕ) (t : ℕ) (b : Body CodeScript) (last : Site → Option ℕ) → IsJob code before job t b last → IsJob code before job' t (with_answer (answer_to (act_seen a) found) b) last
  answers job' a found is advance = subst (λ (z : Pending). (before : List ℕ) (t : ℕ) (b : Body CodeScript) (last : Site → Option ℕ) → IsJob code before job t b last → IsJob code before job' t (with_answer (answer_to (act_seen z) found) b) last) is advance

  load_no_fold : (c : ℕ) (op : Op) (v : ℕ) → ◌≡◌ {A = Act CodeScript} (Load c) (Folded c op v false) → ⊥
  load_no_fold c op v e = cc

  store_no_fold : (c x : ℕ) (op : Op) (v : ℕ) → ◌≡◌ {A = Act CodeScript} (Store c x) (Folded c op v false) → ⊥
  store_no_fold c x op v e = cc

  pub loaded : (job' : Job) (l : Known) (c found : ℕ) → pending_of (body_of job) ≡ acts.Load c → IsLoaded code job c found k l → Advances job' found → Works code job' l
  loaded job' l c found is (has_loaded r) advance = goes_on job' l (Load c) found _ found r.at_load r.once r.known (answers job' (acts.Load c) found is advance)
  loaded job' l c found is (has_noted op v r) advance = absurd (load_no_fold c op v (sym (ap act_seen is) ∙ (r.at_fold.given.is.body.act running ∙ r.at_fold.act)))

  pub stored : (job' : Job) (l : Known) (c v : ℕ) → pending_of (body_of job) ≡ acts.Store c v → IsStored code job c v k l → Advances job' 0 → Works code job' l
  stored job' l c v is (has_stored r) advance = goes_on job' l (Store c v) 0 _ v r.at_store r.once r.known (answers job' (acts.Store c v) 0 is advance)
  stored job' l c v is (has_folded op x r) advance = absurd (store_no_fold c (word_of v) op x (sym (ap act_seen is) ∙ (r.before.at_fold.given.is.body.act running ∙ r.before.at_fold.act)))

-- a new seat has nothing left to do, and so it is after a draw
pub new_idle : (k : Known) → k ≡ new_known → IsIdle k
new_idle k is = subst (λ (z : Known). IsIdle z) (sym is) (record { held = refl; half = refl; unsplit = refl; bears = refl; makes = refl; joined = refl; owes = refl; plans = refl; unlinked = refl })

pub drawn_idle : (entries count : ℕ) (found : Option ℕ) (k l : Known) → IsIdle k → IfSome found (λ e. (e + count ≤ entries) × IsAboveAll e k × (l ≡ touched 0 e (drew count e k)))
    → IfNone found ((n : ℕ) × (entries < n + count) × (l ≡ touched 0 n (missed k))) → IsIdle l
drawn_idle entries count (Some e) k l i some none = subst (λ (z : Known). IsIdle z) (sym some.2) (record { held = i.held; half = i.half; unsplit = i.unsplit; bears = i.bears; makes = i.makes; joined = i.joined; owes = i.owes; plans = i.plans; unlinked = i.unlinked })
drawn_idle entries count None k l i some none = subst (λ (z : Known). IsIdle z) (sym none.2) (record { held = i.held; half = i.half; unsplit = i.unsplit; bears = i.bears; makes = i.makes; joined = i.joined; owes = i.owes; plans = i.plans; unlinked = i.unlinked })
