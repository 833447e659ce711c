-- The steps that are given a job keep the rule, as `specs/JobSteps` tells them.
use Rattle.std.proofs.Common.{◌≡◌, ◌≢◌, inl, inr, sym, subst, refl, ◌∙◌, ap, ℕ, Bool, true, false, List, set}
use Rattle.std.specs.Prelude.{slice_index}
use mathlib.Core.Option as maybe
use lib.ListN.{get_elem?}
use Rattle.atomic_table.proofs.Lists.{set_else}
use Rattle.oss_syntax.specs.declared.access.Mode.{Mode}
use Rattle.oss_syntax.specs.declared.access.Op.{Op}
use Rattle.oss_model.specs.Bodies.{Program, Start, Body}
use Rattle.oss_model.specs.Bodies.Act.{Folded}
use Rattle.oss_model.specs.Context.{right_of}
use Rattle.oss_model.specs.Moves.{act_now, is_ended, IsGone, IsClosed, WaitClause}
use Rattle.oss_model.specs.Rights.{Holds}
use Rattle.oss_words.specs.declared.entry.EntryState.{EntryState}
use Rattle.oss_words.specs.Net.{apart}
use Rattle.oss_words.specs.Rule.{Kept}
use Rattle.oss_words.specs.Steps.{GivesUp}
use Rattle.oss_words.specs.Views.{Among}
use Rattle.oss_words.proofs.KeptLaw.{at_here}
use Rattle.oss_roles.specs.Alone.{GoesAlone}
use Rattle.oss_roles.specs.Claims.{LoadsKeep, StoresKeep, OwnActsKeep, GivesKeep, OwnGivesKeep, ValuesKeep, LeavesKeep}
use Rattle.oss_roles.specs.Field.{Field, Parts, Sits, words_of, IsBorne, IsPending}
use Rattle.oss_roles.specs.JobSteps.{MayEnd, MayGive, released, ended, StaysLoaded, of_other, of_this, GivesWord, at_once, begins, HasSeenGiven}
use Rattle.oss_roles.specs.Passing.{MayGo}
use Rattle.oss_roles.specs.Sights.{Bearing, Noted, Sight, Telling}
use Rattle.oss_roles.specs.Steps.{JobGoes}
use Rattle.oss_roles.proofs.CallLemmas.{may_go, free_ended, closed_seen}
use Rattle.oss_roles.proofs.GiveLaw.{GivesWord as WordGives, give_field, give_own_field}
use Rattle.oss_roles.proofs.HoldLemmas.{number_one}
use Rattle.oss_roles.proofs.JobLaw.{caught_up, write_alone, load_field, write_field, run_field}
use Rattle.oss_roles.proofs.LeaveLaw.{gives_word, begins_word, give_words, begin_words}
use Rattle.oss_roles.proofs.LeftLaw.{value_field, leave_field}
use Rattle.oss_roles.proofs.WaitLaw.{clause_met}

module _ {S J : Type 0} (P : Program S) (main : Start S) (first : List ℕ) (is_job : Telling S J) (n : ℕ) (k : Parts J) (sights : List (Sight S)) (f : Field P main first is_job n k sights)
    (id : ℕ) (v w : Sight S) (at : Sits sights id v) (i : ℕ) (b c : Bearing S) (step : JobGoes v w i b c) where
  abbrev mine : IsBorne f.state sights f.net f.role b
  mine = f.borne id v at i b step.has

  -- what was loaded for the fold of another job is still there, if no such fold finds its cell changed
  others_pending : (cells' : List ℕ) → ((d : Bearing S) (cell : ℕ) (op : Op) (z : ℕ) → d.path ≢ b.path → IsBorne f.state sights f.net f.role d → act_now P d.body ≡ Folded cell op z false → slice_index cells' cell ≡ slice_index k.cells cell)
      → (y : Noted) → Among y v.loaded → y.name ≢ b.number → IsPending P cells' w y
  others_pending cells' same y among ne =
      let g = f.loaded id v at y among in
      let far : g.bearing.number ≢ b.number = λ q. ne (sym g.number ∙ q) in
      let borne = f.borne id v at g.place g.bearing g.held in
      let other : g.bearing.path ≢ b.path = λ q. far (number_one f.net k.infos f.role f.roles g.bearing.number b.number g.bearing.path b.path borne.number mine.number q) in
      let elsewhere : g.place ≢ i = λ q. far (ap (λ (z : Bearing S). z.number) (maybe.some-injective g.bearing b (sym g.held ∙ ap (λ (z : ℕ). get_elem? v.bears z) q ∙ step.has))) in
      record {
        bearing = g.bearing;
        place = g.place;
        held = ap (λ (z : List (Bearing S)). get_elem? z g.place) step.bears ∙ set_else v.bears i g.place c elsewhere ∙ g.held;
        number = g.number;
        cell = g.cell;
        op = g.op;
        operand = g.operand;
        act = g.act;
        value = same g.bearing g.cell g.op g.operand other borne g.act ∙ g.value;
      }

  -- the same, and of the job itself
  stays_pending : (x : Body S) → c.body ≡ x → (y : Noted) → StaysLoaded P k.cells v b x y → IsPending P k.cells w y
  stays_pending x now y (of_other among ne) = others_pending k.cells (λ d cell op z far borne act. refl) y among ne
  stays_pending x now y (of_this name cell op operand act value) =
      record {
        bearing = c;
        place = i;
        held = ap (λ (z : List (Bearing S)). get_elem? z i) step.bears ∙ at_here v.bears i b c step.has;
        number = step.number ∙ sym name;
        cell = cell;
        op = op;
        operand = operand;
        act = subst (λ (z : Body S). act_now P z ≡ Folded cell op operand false) (sym now) act;
        value = value;
      }

  module _ (x : Body S) (alone : MayGo P v b x) where
    run : GoesAlone P f.state b.path b.body x
    run = may_go P main first is_job n k sights f id i v b at step.has x alone

    -- the clause wait of a task that has ended is met
    wait_met : is_ended P x ≡ true → MayEnd v b x → WaitClause P f.state b.path (record { body = x; given = mine.task.given })
    wait_met over wait =
        λ q. clause_met P main first is_job n k sights f id v at i b step.has (free_ended P main first is_job n k sights f id i v b at step.has x alone over) (wait q) (record { body = x; given = mine.task.given }) q

    gone : (cell : ℕ) → MayGive P v b x cell → IsGone P f.state b.path cell (record { body = x; given = mine.task.given })
    gone cell (released h) = inl h
    gone cell (ended over wait) = inr (over, wait_met over wait)

    starts_same : x.start ≡ b.body.start
    starts_same = (caught_up P main first is_job n k sights f id v w at i b c step x run).3 ∙ ap (λ (z : Body S). z.start) mine.body

    closed : is_ended P x ≡ true → ((d : ℕ) (mode : Mode) (strong : Bool) → right_of b.body.start.context d ≡ Holds mode strong → HasSeenGiven f id v w b d) → IsClosed P b.path (record { body = x; given = mine.task.given })
    closed over cells =
        closed_seen P main first is_job n k sights f id i v b at step.has (record { body = x; given = mine.task.given }) starts_same (λ d h. h) over
        (λ d mode strong right. let h = cells d mode strong right in (h.it, h.among, h.given, h.role, h.is, h.hangs, h.path, h.site)) b.path refl

  -- what a give does to the words
  record WordGiven (e : ℕ) (states' : ℕ → EntryState) (gave' : ℕ → Bool) : Type 0 where
    word : WordGives (k.states e) (states' e)
    others : (j : ℕ) → j ≢ e → states' j ≡ k.states j
    words : Kept n f.net gave' states' k.infos (words_of (set sights id w))

  word_given : (e : ℕ) (states' : ℕ → EntryState) (gave' : ℕ → Bool) → f.net.place e ≢ apart → GivesUp f.gave gave' e → (k.states e).given ≡ false → GivesWord f id v w e states' → WordGiven e states' gave'
  word_given e states' gave' hangs up ungiven (at_once d) =
      record {
        word = subst (λ (z : EntryState). WordGives (k.states e) z) (sym d.sets) (gives_word (k.states e));
        others = d.others;
        words = give_words P main first is_job n k sights f id v w at states' gave' e hangs up d;
      }
  word_given e states' gave' hangs up ungiven (begins headed d) =
      record {
        word = subst (λ (z : EntryState). WordGives (k.states e) z) (sym d.sets) (begins_word (k.states e));
        others = d.others;
        words = begin_words P main first is_job n k sights f id v w at states' gave' e hangs up headed ungiven d;
      }

pub loads_keep : (S J : Type 0) (is_job : Telling S J) → LoadsKeep S J is_job
loads_keep S J is_job P main first n k sights f id v w i b c x cell d =
    let g = d.with_job in
    load_field P main first is_job n k sights f id v w g.sits i b c g.job d.same.words d.same.owes d.same.seen d.same.still x (run P main first is_job n k sights f id v w g.sits i b c g.job x g.alone) cell d.act d.body
    (λ y among. let o = d.loaded y among in others_pending P main first is_job n k sights f id v w g.sits i b c g.job k.cells (λ e cell op z far borne act. refl) y o.0 o.1)

pub stores_keep : (S J : Type 0) (is_job : Telling S J) → StoresKeep S J is_job
stores_keep S J is_job P main first n k sights f id v w i b c x cells' d =
    let g = d.with_job in
    write_field P main first is_job n k sights f id v w g.sits i b c g.job d.same.words d.same.owes d.same.seen d.same.still x (run P main first is_job n k sights f id v w g.sits i b c g.job x g.alone) cells' d.writes d.body
    (λ y among. let o = d.loaded y among in others_pending P main first is_job n k sights f id v w g.sits i b c g.job cells' (write_alone P main first is_job n k sights f id v w g.sits i b c g.job x (run P main first is_job n k sights f id v w g.sits i b c g.job x g.alone) cells' d.writes) y o.0 o.1)

pub own_acts_keep : (S J : Type 0) (is_job : Telling S J) → OwnActsKeep S J is_job
own_acts_keep S J is_job P main first n k sights f id v w i b c x d =
    let g = d.with_job in
    run_field P main first is_job n k sights f id v w g.sits i b c g.job d.same.words d.same.owes d.same.seen d.same.still x (run P main first is_job n k sights f id v w g.sits i b c g.job x g.alone) d.body
    (λ y among. stays_pending P main first is_job n k sights f id v w g.sits i b c g.job x d.body y (d.loaded y among))

pub gives_keep : (S J : Type 0) (is_job : Telling S J) → GivesKeep S J is_job
gives_keep S J is_job P main first n k sights f id v w i b c x e r states' gave' cell mode strong d =
    let a = d.up in
    let h = a.entry in
    let g = h.with_job in
    let word = word_given P main first is_job n k sights f id v w g.sits i b c g.job e states' gave' a.hangs a.gives a.ungiven a.word in
    give_field P main first is_job n k sights f id v w g.sits i b c g.job x (run P main first is_job n k sights f id v w g.sits i b c g.job x g.alone) h.body e r h.is h.path a.hangs states' gave' a.gives word.word word.others a.ungiven word.words h.owes h.none h.seen a.still cell d.site mode strong d.right d.no_fold
    (gone P main first is_job n k sights f id v w g.sits i b c g.job x g.alone cell d.may) (λ y among. stays_pending P main first is_job n k sights f id v w g.sits i b c g.job x h.body y (h.loaded y among))

pub own_gives_keep : (S J : Type 0) (is_job : Telling S J) → OwnGivesKeep S J is_job
own_gives_keep S J is_job P main first n k sights f id v w i b c x e r states' gave' d =
    let a = d.up in
    let h = a.entry in
    let g = h.with_job in
    let word = word_given P main first is_job n k sights f id v w g.sits i b c g.job e states' gave' a.hangs a.gives a.ungiven a.word in
    give_own_field P main first is_job n k sights f id v w g.sits i b c g.job x (run P main first is_job n k sights f id v w g.sits i b c g.job x g.alone) h.body e r h.is h.path a.hangs states' gave' a.gives word.word word.others a.ungiven word.words h.owes h.none h.seen a.still d.site
    (closed P main first is_job n k sights f id v w g.sits i b c g.job x g.alone d.ended d.cells) (λ y among. stays_pending P main first is_job n k sights f id v w g.sits i b c g.job x h.body y (h.loaded y among))

pub values_keep : (S J : Type 0) (is_job : Telling S J) → ValuesKeep S J is_job
values_keep S J is_job P main first n k sights f id v w i b c x e r value values' d =
    let h = d.entry in
    let g = h.with_job in
    value_field P main first is_job n k sights f id v w g.sits i b c g.job x (run P main first is_job n k sights f id v w g.sits i b c g.job x g.alone) h.body e r h.is h.path h.owes h.none h.seen (λ y among. stays_pending P main first is_job n k sights f id v w g.sits i b c g.job x h.body y (h.loaded y among))
    d.words d.unleft value values' d.value_is d.others d.still

pub leaves_keep : (S J : Type 0) (is_job : Telling S J) → LeavesKeep S J is_job
leaves_keep S J is_job P main first n k sights f id v w i b c x e r states' cell op d =
    let h = d.entry in
    let g = h.with_job in
    leave_field P main first is_job n k sights f id v w g.sits i b c g.job x (run P main first is_job n k sights f id v w g.sits i b c g.job x g.alone) h.body e r h.is h.path h.owes h.none h.seen (λ y among. stays_pending P main first is_job n k sights f id v w g.sits i b c g.job x h.body y (h.loaded y among))
    d.hangs states' d.word cell d.site op d.right d.ended (wait_met P main first is_job n k sights f id v w g.sits i b c g.job x g.alone d.ended d.wait) d.value d.still
