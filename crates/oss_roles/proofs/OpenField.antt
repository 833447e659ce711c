-- The count down that opens a new task, and the rule after it: the machine's step of the creation.
use Rattle.std.proofs.Common.{◌≡◌, ◌≢◌, ◌⊎◌, inl, inr, sym, subst, refl, ◌∙◌, ap, ℕ, zero, suc, ◌<◌, ◌+◌, arith, Bool, true, false, List, [], ◌∷◌, set, Option, Some, None}
use Rattle.std.specs.Prelude.{◌==◌}
use mathlib.Core.Option as maybe
use lib.ListN.{get_elem?}
use Rattle.std.proofs.lemmas.Bool.Decides.{eqb_tells}
use Rattle.atomic_table.proofs.Lists.{at_set, at_map, set_else}
use Rattle.oss_model.specs.Agreement.{Agrees}
use Rattle.oss_model.specs.Bodies.{Order, Program, Act, Start, Body, stage_created, stage_act}
use Rattle.oss_model.specs.Bodies.Act.{Created, Folded, Over}
use Rattle.oss_model.specs.Context.{right_of}
use Rattle.oss_model.specs.Machine.{Task, State, At, IsReady}
use Rattle.oss_model.specs.Moves.{act_now, created_now, is_ended, cells_after, found_by, after_answer, new_task, TaskStep}
use Rattle.oss_model.specs.Order.{IsSuffix, whole, longer}
use Rattle.oss_model.proofs.GrowLemmas.{Grown, ready_stays, clause_stays}
use Rattle.oss_model.proofs.MoveLemmas.{StepView, own as view_own, new as view_new, old as view_old}
use Rattle.oss_model.proofs.StageLemmas.{created_grows, creation_counts}
use Rattle.oss_model.proofs.TreeLemmas.{at_same, over_stops, task_above}
use Rattle.oss_words.specs.Grown.{Grown as WordGrown}
use Rattle.oss_words.specs.Members.{Has}
use Rattle.oss_words.specs.Net.{apart}
use Rattle.oss_words.specs.Rule.{Kept}
use Rattle.oss_words.specs.Sums.{total, num}
use Rattle.oss_words.specs.Views.{View, Seen, Among}
use Rattle.oss_words.proofs.KeptLaw.{at_here}
use Rattle.oss_words.proofs.SumLemmas.{same_number, total_at}
use Rattle.oss_roles.specs.Field.{Field, FieldAt, Parts, Sits, Bears, times, numbers_of, held_by_all, owed_by_all, IsJoined, IsMaking, is_making, IsNumberOf, of_main, of_entry, AreLast, IsSomewhere, at_home, is_out, IsBorne, IsPut, not_put, going, is_put, IsMade, IsLeft, IsPending, IsStill, IsTaken}
use Rattle.oss_roles.specs.Numbers.{entry_number}
use Rattle.oss_roles.specs.Roles.{Role, Site, itself, AreGiven}
use Rattle.oss_roles.specs.Sights.{Bearing, Making, Noted, Fixed, Sight, Telling}
use Rattle.oss_roles.specs.Alone.{with_answer}
use Rattle.oss_roles.proofs.GoesLaw.{one_holder}
use Rattle.oss_roles.proofs.HoldLemmas.{times_one, held_same, numbers_same, number_one}
use Rattle.oss_roles.proofs.JobLaw.{words_same, owed_same, counts_owed, joined_forth}
use Rattle.oss_roles.proofs.MoveLaw.{agrees, beginning}
use Rattle.oss_roles.proofs.OpenLaw.{opened_state, made_step, opened_reached, not_there, view, grown, still, HasEntries, opened_filed, opened_given, opened_counts}

total_none : {A : Type 0} (g : A → ℕ) (l : List A) → ((j : ℕ) (x : A) → get_elem? l j ≡ maybe.some x → g x ≡ 0) → total g l ≡ 0
total_none g [] none = refl
total_none g (x ∷ l) none = let a = none 0 x refl in let b = total_none g l (λ j y h. none (suc j) y h) in omega (arith, a, b)

times_none : (t : ℕ) (xs : List ℕ) → ((j : ℕ) → get_elem? xs j ≡ maybe.some t → ⊥) → times t xs ≡ 0
times_none t [] none = refl
times_none t (x ∷ xs) none =
    let a : num (x == t) ≡ 0 = elim (eqb_tells x t) [ inl h ↦ absurd (none 0 (ap (λ (z : ℕ). maybe.some z) h.1)) | inr h ↦ rw h.0 refl ] in
    let b = times_none t xs (λ j h. none (suc j) h) in omega (arith, a, b)

-- if a number stands in a list of numbers, there is a job
number_at : {S : Type 0} (l : List (Bearing S)) (j t : ℕ) → get_elem? (numbers_of l) j ≡ maybe.some t → (b : Bearing S) × (get_elem? l j ≡ maybe.some b) × (b.number ≡ t)
number_at [] j t h = absurd (maybe.some-ne-none t (sym h))
number_at (b ∷ l) zero t h = (b, refl, maybe.some-injective b.number t h)
number_at (b ∷ l) (suc j) t h = number_at l j t h

module _ {S J : Type 0} (P : Program S) (main : Start S) (first : List ℕ) (is_job : Telling S J) (n : ℕ) (k : Parts J) (sights : List (Sight S)) (f : Field P main first is_job n k sights)
    (id : ℕ) (v w : Sight S) (at : Sits sights id v) (mk : Making) (among : Among mk v.makes) (put : mk.stage ≡ 2) (pos : mk.task ≢ 0) where
  abbrev g : IsMade P is_job k f.net f.role f.opened v mk
  g = f.made id v at mk among

  abbrev b : Bearing S
  b = g.creator

  abbrev mine : IsBorne f.state sights f.net f.role b
  mine = f.borne id v at g.place b g.held

  abbrev agree : Agrees P main first (beginning P main first) f.state
  agree = agrees P main first f.state f.setting f.reached

  -- the creator, whose body is that of the view
  abbrev t : Task S
  t = record { body = b.body; given = mine.task.given }

  abbrev there : At f.state b.path t
  there = subst (λ (z : Body S). At f.state b.path (record { body = z; given = mine.task.given })) mine.body mine.at_

  abbrev m : State S
  m = opened_state P main first f.state b.path t agree.made agree.started there g.order g.act

  abbrev path : List ℕ
  path = created_now P b.body ∷ b.path

  abbrev answer : ℕ
  answer = found_by (act_now P b.body) f.state.cells

  answer_is : answer ≡ 0
  answer_is = ap (λ (a : Act S). found_by a f.state.cells) g.act

  cells_same : cells_after (act_now P b.body) f.state.cells ≡ f.state.cells
  cells_same = ap (λ (a : Act S). cells_after a f.state.cells) g.act

  step : TaskStep P f.state b.path t answer m
  step = made_step P main first f.state b.path t agree.made agree.started there g.order g.act

  fresh : (u : Task S) → At f.state path u → ⊥
  fresh = not_there P main first f.state b.path t agree.made agree.started there g.order g.act

  more : Grown P f.state m
  more = grown P main first f.state b.path t agree.made agree.started there g.order g.act

  ends_stay : (q : List ℕ) (u y : Task S) → At f.state q u → At m q y → is_ended P u.body ≡ true → is_ended P y.body ≡ true
  ends_stay = still P main first f.state b.path t agree.made agree.started there g.order g.act

  -- a task of the state other than the creator is as it was
  other_task : (q : List ℕ) (u : Task S) → q ≢ b.path → At f.state q u → At m q u
  other_task q u ne h = step.others q ne (λ o a same. fresh u (subst (λ (z : List ℕ). At f.state z u) same h)) ∙ h

  head_tail : (i j : ℕ) (a d : List ℕ) → i ∷ a ≡ j ∷ d → (i ≡ j) × (a ≡ d)
  head_tail i j a d h = (cc, cc)

  -- the roles of the new task
  role_path : (e : ℕ) (r : Role) → f.role e ≡ Some r → r.task ≡ mk.task → r.path ≡ path
  role_path e r is same =
      let q = f.roles.number e r is in
      let o = g.own in
      let one : q.0 ≡ o.0 = let z : Some q.0 ≡ Some o.0 = sym q.1 ∙ ap (λ (y : ℕ). f.role y) same ∙ o.1 in cc in
      sym q.2 ∙ ap (λ (y : Role). y.path) one ∙ o.2

  path_task : (e : ℕ) (r : Role) → f.role e ≡ Some r → r.path ≡ path → r.task ≡ mk.task
  path_task e r is same =
      let q = f.roles.number e r is in
      let o = g.own in
      f.roles.one r.task mk.task q.0 o.0 q.1 o.1 (q.2 ∙ same ∙ sym o.2) (q.3 ∙ sym o.3)

  -- whoever makes a task of this number is this seat
  one_maker : (j : ℕ) (x : Sight S) → Sits sights j x → (a : Making) → Among a x.makes → a.task ≡ mk.task → (y : IsMade P is_job k f.net f.role f.opened x a) → y.creator.path ≡ b.path
  one_maker j x sits a am same y =
      let o = y.own in
      let z = role_path a.task o.0 o.1 (o.4 ∙ same) in
      (head_tail (created_now P y.creator.body) (created_now P b.body) y.creator.path b.path (sym o.2 ∙ z)).1

  module _ (hung : (e : ℕ) (r : Role) → f.role e ≡ Some r → r.task ≡ mk.task → f.net.place e ≢ apart)
      (c : Bearing S) (bears : w.bears ≡ set v.bears g.place c) (number : c.number ≡ b.number) (cpath : c.path ≡ b.path) (cbody : c.body ≡ with_answer 0 b.body)
      (last : (y : Site) → ((o : ℕ) × (r : Role) × (f.role o ≡ Some r) × (r.task ≡ mk.task) × (r.site ≡ y) × (c.last y ≡ Some o)) ⊎ (((o : ℕ) (r : Role) → f.role o ≡ Some r → r.task ≡ mk.task → r.site ≢ y) × (c.last y ≡ b.last y)))
      (makes : (a : Making) → Among a w.makes → Among a v.makes × (a.task ≢ mk.task)) (kept : (a : Making) → Among a v.makes → a.task ≢ mk.task → Among a w.makes) where
    abbrev sights' : List (Sight S)
    sights' = set sights id w

    here : Sits sights' id w
    here = at_here sights id v w at

    making_still : (q : ℕ) → q ≢ mk.task → IsMaking sights q → IsMaking sights' q
    making_still q ne (is_making j x sits a am is) = elim (same_number j id) [
      | inl e ↦
          let one : x ≡ v = maybe.some-injective x v (sym sits ∙ ap (λ (z : ℕ). get_elem? sights z) e ∙ at) in
          is_making id w here a (kept a (subst (λ (z : Sight S). Among a z.makes) one am) (λ z. ne (sym is ∙ z))) is
      | inr nj ↦ is_making j x (set_else sights id j w nj ∙ sits) a am is
    ]

    making_only : (q : ℕ) → IsMaking sights' q → (q ≢ mk.task) × IsMaking sights q
    making_only q (is_making j x sits a am is) = elim (at_set sights id j w x sits) [
      | inl h ↦ let old = makes a (subst (λ (z : Sight S). Among a z.makes) (sym h.1) am) in ((λ z. old.1 (is ∙ z)), is_making id v at a old.0 is)
      | inr h ↦ (
        (λ z.
            let y = f.made j x h.1 a am in
            let same = one_maker j x h.1 a am (is ∙ z) y in
            h.0 (sym (one_holder P main first is_job n k sights f id j g.place y.place v x b y.creator at g.held h.1 y.held (sym same)).0)),
        is_making j x h.1 a am is,
      )
    ]

    last_other : (p : List ℕ) (l : Site → Option ℕ) → p ≢ b.path → AreLast sights f.net f.role p l → AreLast sights' f.net f.role p l
    last_other p l ne a =
        record {
          some = λ y o is.
              let x = a.some y o is in
              (x.0, x.1, x.2, x.3, x.4, x.5, (λ e q j eis h epath site free. x.6 e q j eis h epath site (λ z. free (making_still q.task (other_number e q j eis epath) z))));
          none = λ y is e q j eis h epath site. making_still q.task (other_number e q j eis epath) (a.none y is e q j eis h epath site);
        }
      where
        other_number : (e : ℕ) (q : Role) (j : ℕ) → f.role e ≡ Some q → q.path ≡ j ∷ p → q.task ≢ mk.task
        other_number e q j eis epath z = ne (head_tail j (created_now P b.body) p b.path (sym epath ∙ role_path e q eis z)).1

    -- nothing hangs below the new task
    last_new : AreLast sights' f.net f.role path (λ y. None)
    last_new =
        record {
          some = λ y o is. let z : None ≡ Some o = is in absurd (let bad : ⊥ = cc in bad);
          none = λ y is e q j eis h epath site. absurd (nothing e q j epath (f.planned e q eis) eis);
        }
      where
        nothing : (e : ℕ) (q : Role) (j : ℕ) → q.path ≡ j ∷ path → ((u : Task S) × At f.state q.path u) ⊎ IsMaking sights q.task → f.role e ≡ Some q → ⊥
        nothing e q j epath (inl u) eis =
            let above = task_above P main f.state path u.0 agree.made (longer whole) (subst (λ (z : List ℕ). At f.state z u.0) epath u.1) in
            fresh above.0 above.1
        nothing e q j epath (inr (is_making i x sits a am is)) eis =
            let y = f.made i x sits a am in
            let o = y.own in
            let num = f.roles.number e q eis in
            let one : num.0 ≡ o.0 = let z : Some num.0 ≡ Some o.0 = sym num.1 ∙ ap (λ (z : ℕ). f.role z) (sym is) ∙ o.1 in cc in
            let tails = (head_tail j (created_now P y.creator.body) path y.creator.path (sym epath ∙ sym num.2 ∙ ap (λ (z : Role). z.path) one ∙ o.2)).1 in
            let creator = f.borne i x sits y.place y.creator y.held in
            fresh creator.task (subst (λ (z : List ℕ). At f.state z creator.task) (sym tails) creator.at_)

    -- a child of the creator that is there was made before
    made_before : (j : ℕ) (u : Task S) → At f.state (j ∷ b.path) u → j < created_now P b.body
    made_before j u h =
        let x = agree.made.child j b.path u h in
        let same = at_same f.state b.path x.creator t x.at_ there in
        let happened : IsSuffix (x.answer ∷ x.past) b.body.found = subst (λ (z : Task S). IsSuffix (x.answer ∷ x.past) z.body.found) same x.happened in
        let num : stage_created P b.body.start x.past ≡ j = subst (λ (z : Task S). stage_created P z.body.start x.past ≡ j) same x.number in
        let act : stage_act P b.body.start x.past ≡ Created x.order false = subst (λ (z : Task S). stage_act P z.body.start x.past ≡ Created x.order false) same x.act in
        let one = creation_counts P b.body.start x.answer x.past x.order act in
        let less = created_grows P b.body.start happened in
        omega (arith, one, less, num)

    abbrev Of : Site → ℕ → Type 0
    Of y o = (r : Role) × (j : ℕ) × (f.role o ≡ Some r) × (f.net.place o ≢ apart) × (r.path ≡ j ∷ b.path) × (r.site ≡ y)
        × ((e : ℕ) (q : Role) (i : ℕ) → f.role e ≡ Some q → f.net.place e ≢ apart → q.path ≡ i ∷ b.path → q.site ≡ y → (IsMaking sights' q.task → ⊥) → (e ≡ o) ⊎ (i < j))

    last_mine : AreLast sights' f.net f.role b.path c.last
    last_mine =
        record {
          some = λ y o is. some_of y o is (last y);
          none = λ y is e q j eis h epath site. none_of y is e q j eis h epath site (last y);
        }
      where
        behind : (y : Site) (o : ℕ) (r : Role) → f.role o ≡ Some r → r.task ≡ mk.task → r.site ≡ y → (e : ℕ) (q : Role) (i : ℕ) → f.role e ≡ Some q → q.path ≡ i ∷ b.path → q.site ≡ y → (IsMaking sights' q.task → ⊥)
            → ((u : Task S) × At f.state q.path u) ⊎ IsMaking sights q.task → (e ≡ o) ⊎ (i < created_now P b.body)
        behind y o r ris rtask rsite e q i eis epath site free (inl u) = inr (made_before i u.0 (subst (λ (z : List ℕ). At f.state z u.0) epath u.1))
        behind y o r ris rtask rsite e q i eis epath site free (inr mm) = elim (same_number q.task mk.task) [
          | inl same ↦ inl (f.roles.one e o q r eis ris (role_path e q eis same ∙ sym (role_path o r ris rtask)) (site ∙ sym rsite))
          | inr ne ↦ absurd (free (making_still q.task ne mm))
        ]

        some_of : (y : Site) (o : ℕ) → c.last y ≡ Some o → ((o : ℕ) × (r : Role) × (f.role o ≡ Some r) × (r.task ≡ mk.task) × (r.site ≡ y) × (c.last y ≡ Some o)) ⊎ (((o : ℕ) (r : Role) → f.role o ≡ Some r → r.task ≡ mk.task → r.site ≢ y) × (c.last y ≡ b.last y)) → Of y o
        some_of y o is (inl h) =
            let same : h.0 ≡ o = let z : Some h.0 ≡ Some o = sym h.5 ∙ is in cc in
            subst (λ (z : ℕ). Of y z) same (
              h.1,
              created_now P b.body,
              h.2,
              hung h.0 h.1 h.2 h.3,
              role_path h.0 h.1 h.2 h.3,
              h.4,
              (λ e q i eis he epath site free. behind y h.0 h.1 h.2 h.3 h.4 e q i eis epath site free (f.planned e q eis)),
            )
        some_of y o is (inr h) =
            let x = mine.last.some y o (sym h.1 ∙ is) in
            (x.0, x.1, x.2, x.3, x.4, x.5, (λ e q i eis he epath site free. x.6 e q i eis he epath site (λ z. free (making_still q.task (λ same. h.0 e q eis same site) z))))

        none_of : (y : Site) → c.last y ≡ None → (e : ℕ) (q : Role) (j : ℕ) → f.role e ≡ Some q → f.net.place e ≢ apart → q.path ≡ j ∷ b.path → q.site ≡ y
            → ((o : ℕ) × (r : Role) × (f.role o ≡ Some r) × (r.task ≡ mk.task) × (r.site ≡ y) × (c.last y ≡ Some o)) ⊎ (((o : ℕ) (r : Role) → f.role o ≡ Some r → r.task ≡ mk.task → r.site ≢ y) × (c.last y ≡ b.last y)) → IsMaking sights' q.task
        none_of y is e q j eis he epath site (inl h) = let z : None ≡ Some h.0 = sym is ∙ h.5 in absurd (let bad : ⊥ = cc in bad)
        none_of y is e q j eis he epath site (inr h) = making_still q.task (λ same. h.0 e q eis same site) (mine.last.none y (sym h.1 ∙ is) e q j eis he epath site)

    held_is : (q : ℕ) → held_by_all sights' q ≡ held_by_all sights q
    held_is = held_same sights id v w at (ap (λ (z : List (Bearing S)). numbers_of z) bears ∙ numbers_same v.bears g.place b c g.held number)

    -- nobody holds the job of the new task
    unheld : held_by_all sights mk.task ≡ 0
    unheld = total_none (λ (x : Sight S). times mk.task (numbers_of x.bears)) sights (λ j x sits. times_none mk.task (numbers_of x.bears) (λ i h.
        let d = number_at x.bears i mk.task h in
        let y = f.borne j x sits i d.0 d.1 in
        let o = g.own in
        fresh y.task (subst (λ (z : List ℕ). At f.state z y.task) (path_of d.0.number d.0.path y.number (d.2) o) y.at_)))
      where
        path_of : (q : ℕ) (p : List ℕ) → IsNumberOf f.role q p → q ≡ mk.task → (o : (r : Role) × (f.role mk.task ≡ Some r) × (r.path ≡ path) × (r.site ≡ itself) × (r.task ≡ mk.task)) → p ≡ path
        path_of q p of_main same o = absurd (pos (sym same))
        path_of q p (of_entry r is at_ rpath) same o =
            let one : r ≡ o.0 = let z : Some r ≡ Some o.0 = sym is ∙ ap (λ (y : ℕ). f.role y) same ∙ o.1 in cc in
            sym rpath ∙ ap (λ (y : Role). y.path) one ∙ o.2

    module _ (opened' : ℕ → Bool) (counts' : ℕ → ℕ) (now : opened' mk.task ≡ true) (down : counts' mk.task + 1 ≡ k.counts mk.task) (others : (j : ℕ) → j ≢ mk.task → (opened' j ≡ f.opened j) × (counts' j ≡ k.counts j))
        (words : w.words ≡ v.words) (owes : w.owes ≡ v.owes) (joined : w.joined ≡ v.joined) (ready : w.ready ≡ v.ready) (loaded : w.loaded ≡ v.loaded) (seen : w.seen ≡ v.seen) (still_same : w.still ≡ v.still) where
      abbrev k' : Parts J
      k' = record k { counts = counts' }

      abbrev entries : HasEntries P main first f.state b.path t agree.made agree.started there g.order g.act f.net f.role
      entries =
          record {
            access = λ d mode strong right.
                let x = g.access d mode strong right in (
                  record { entry = x.0; it = x.1; is = x.2; hangs = hung x.0 x.1 x.2 x.5; path = x.3; site = x.4 },
                  x.6,
                  x.7,
                  x.8 ∙ ap (λ (z : ℕ). entry_number z (right_of (new_task P b.body g.order).body.start.context) d) (sym x.5),
                );
            task = let o = g.own in record { entry = mk.task; it = o.0; is = o.1; hangs = hung mk.task o.0 o.1 o.4; path = o.2; site = o.3 };
          }

      somewhere_view : (p : List ℕ) (u : Task S) → StepView P f.state b.path t answer p u → (q : ℕ) → IsNumberOf f.role q p → IsSomewhere is_job k' sights' f.net f.role q p u.body
      somewhere_view p u view_own q num = out (f.somewhere q b.path t num there)
        where
          out : IsSomewhere is_job k sights f.net f.role q b.path b.body → IsSomewhere is_job k' sights' f.net f.role q b.path (after_answer answer t).body
          out (at_home j l one is job a none) =
              let same : b.number ≡ q = number_one f.net k.infos f.role f.roles b.number q b.path b.path mine.number num refl in
              let x = times_one b.number (numbers_of v.bears) g.place (at_map (λ (z : Bearing S). z.number) v.bears g.place b g.held) in
              let y = total_at (λ (z : Sight S). times b.number (numbers_of z.bears)) sights id v at in
              let e : held_by_all sights b.number ≡ 0 = ap (λ (z : ℕ). held_by_all sights z) same ∙ none in
              absurd (omega (arith, x, y, e))
          out (is_out two is one) = is_out two is (held_is q ∙ one)
      somewhere_view p u (view_new o a) q num =
          let same : o ≡ g.order = let z : Created o false ≡ Created g.order false = sym a ∙ g.act in cc in
          subst (λ (z : Order S). IsSomewhere is_job k' sights' f.net f.role q path (new_task P b.body z).body) (sym same) (home g.job)
        where
          is_it : q ≡ mk.task
          is_it = let o = g.own in number_one f.net k.infos f.role f.roles q mk.task path path num (of_entry o.0 o.1 o.3 o.2) refl

          home : IsPut is_job k mk (new_task P b.body g.order).body → IsSomewhere is_job k' sights' f.net f.role q path (new_task P b.body g.order).body
          home (not_put one two none) = absurd (omega (arith, put, one))
          home (going one two none) = absurd (omega (arith, put, one))
          home (is_put j one two is job) =
              at_home j (λ y. None) (ap (λ (z : ℕ). k.bodies z) is_it ∙ two) (ap (λ (z : ℕ). k.jobs z) is_it ∙ is) (subst (λ (z : ℕ). is_job j z (new_task P b.body g.order).body (λ y. None)) (sym is_it) job) last_new (held_is q ∙ ap (λ (z : ℕ). held_by_all sights z) is_it ∙ unheld)
      somewhere_view p u (view_old ne h) q num = elsewhere (f.somewhere q p u num h)
        where
          elsewhere : IsSomewhere is_job k sights f.net f.role q p u.body → IsSomewhere is_job k' sights' f.net f.role q p u.body
          elsewhere (at_home j l one is job a none) = at_home j l one is job (last_other p l ne a) (held_is q ∙ none)
          elsewhere (is_out two is one) = is_out two is (held_is q ∙ one)

      ready_now : (p : List ℕ) (u : Task S) → At f.state p u → IsReady f.state p u.body.start.context → (y : Task S) × At m p y × IsReady m p y.body.start.context
      ready_now p u h r =
          let y = more.keeps p u h in
          (y.0, y.1, subst (λ (z : Start S). IsReady m p z.context) (sym y.2.start) (ready_stays P main f.state m agree.made agree.started more p u.body.start.context r))

      borne_other : (d : Bearing S) → d.path ≢ b.path → IsBorne f.state sights f.net f.role d → IsBorne m sights' f.net f.role d
      borne_other d ne x =
          record {
            number = x.number;
            task = x.task;
            at_ = other_task d.path x.task ne x.at_;
            body = x.body;
            ready = ready_stays P main f.state m agree.made agree.started more d.path d.body.start.context x.ready;
            last = last_other d.path d.last ne x.last;
          }

      borne_mine : IsBorne m sights' f.net f.role c
      borne_mine =
          record {
            number = subst (λ (z : ℕ). IsNumberOf f.role z c.path) (sym number) (subst (λ (z : List ℕ). IsNumberOf f.role b.number z) (sym cpath) mine.number);
            task = after_answer answer t;
            at_ = subst (λ (z : List ℕ). At m z (after_answer answer t)) (sym cpath) step.own;
            body = ap (λ (z : ℕ). with_answer z b.body) answer_is ∙ sym cbody;
            ready = subst (λ (z : List ℕ). IsReady m z c.body.start.context) (sym cpath)
                (subst (λ (z : Body S). IsReady m b.path z.start.context) (sym cbody) (ready_stays P main f.state m agree.made agree.started more b.path b.body.start.context mine.ready));
            last = subst (λ (z : List ℕ). AreLast sights' f.net f.role z c.last) (sym cpath) last_mine;
          }

      borne_now : (j : ℕ) (x : Sight S) → Sits sights' j x → (i : ℕ) (d : Bearing S) → Bears x i d → IsBorne m sights' f.net f.role d
      borne_now j x sits i d has = elim (at_set sights id j w x sits) [
        | inl h ↦
            let old : get_elem? (set v.bears g.place c) i ≡ maybe.some d = ap (λ (z : List (Bearing S)). get_elem? z i) (sym bears) ∙ subst (λ (z : Sight S). get_elem? z.bears i ≡ maybe.some d) (sym h.1) has in
            elim (at_set v.bears g.place i c d old) [
              | inl y ↦ subst (λ (z : Bearing S). IsBorne m sights' f.net f.role z) y.1 borne_mine
              | inr y ↦ borne_other d (λ same. y.0 (sym (one_holder P main first is_job n k sights f id id g.place i v v b d at g.held at y.1 (sym same)).1)) (f.borne id v at i d y.1)
            ]
        | inr h ↦ borne_other d (λ same. h.0 (sym (one_holder P main first is_job n k sights f id j g.place i v x b d at g.held h.1 has (sym same)).0)) (f.borne j x h.1 i d has)
      ]

      made_now : (j : ℕ) (x : Sight S) → Sits sights' j x → (a : Making) → Among a x.makes → IsMade P is_job k' f.net f.role opened' x a
      made_now j x sits a am = elim (at_set sights id j w x sits) [
        | inl h ↦
            let old = makes a (subst (λ (z : Sight S). Among a z.makes) (sym h.1) am) in
            let y = f.made id v at a old.0 in
            let ne : y.place ≢ g.place = λ same.
            let one : y.creator ≡ b = maybe.some-injective y.creator b (sym y.held ∙ ap (λ (z : ℕ). get_elem? v.bears z) same ∙ g.held) in
            let o = y.own in
            old.1 (sym o.4 ∙ path_task a.task o.0 o.1 (o.2 ∙ ap (λ (z : Bearing S). created_now P z.body ∷ z.path) one)) in
            subst (λ (z : Sight S). IsMade P is_job k' f.net f.role opened' z a) h.1 (again v w y (ap (λ (z : List (Bearing S)). get_elem? z y.place) bears ∙ set_else v.bears g.place y.place c ne ∙ y.held) old.1)
        | inr h ↦
            let y = f.made j x h.1 a am in
            again x x y y.held (λ same. h.0 (sym (one_holder P main first is_job n k sights f id j g.place y.place v x b y.creator at g.held h.1 y.held (sym (one_maker j x h.1 a am same y))).0))
      ]
        where
          put_on : (z : Body S) (a : Making) → IsPut is_job k a z → IsPut is_job k' a z
          put_on z a (not_put one two none) = not_put one two none
          put_on z a (going one two none) = going one two none
          put_on z a (is_put x one two is job) = is_put x one two is job

          again : (o u : Sight S) → (y : IsMade P is_job k f.net f.role f.opened o a) → Bears u y.place y.creator → a.task ≢ mk.task → IsMade P is_job k' f.net f.role opened' u a
          again o u y held ne =
              record {
                creator = y.creator;
                place = y.place;
                held = held;
                by = y.by;
                order = y.order;
                act = y.act;
                closed = (others a.task ne).0 ∙ y.closed;
                own = y.own;
                access = y.access;
                job = put_on (new_task P y.creator.body y.order).body a y.job;
              }

      pending_now : (j : ℕ) (x : Sight S) → Sits sights' j x → (a : Noted) → Among a x.loaded → IsPending P k.cells x a
      pending_now j x sits a am = elim (at_set sights id j w x sits) [
        | inl h ↦
            let y = f.loaded id v at a (subst (λ (l : List Noted). Among a l) loaded (subst (λ (z : Sight S). Among a z.loaded) (sym h.1) am)) in
            let ne : y.place ≢ g.place = λ same.
            let one : y.bearing ≡ b = maybe.some-injective y.bearing b (sym y.held ∙ ap (λ (z : ℕ). get_elem? v.bears z) same ∙ g.held) in
            let z : Folded y.cell y.op y.operand false ≡ Created g.order false = sym y.act ∙ ap (λ (z : Bearing S). act_now P z.body) one ∙ g.act in cc in
            subst (λ (z : Sight S). IsPending P k.cells z a) h.1 (record {
              bearing = y.bearing;
              place = y.place;
              held = ap (λ (z : List (Bearing S)). get_elem? z y.place) bears ∙ set_else v.bears g.place y.place c ne ∙ y.held;
              number = y.number;
              cell = y.cell;
              op = y.op;
              operand = y.operand;
              act = y.act;
              value = y.value;
            })
        | inr h ↦ f.loaded j x h.1 a am
      ]

      left_now : (e : ℕ) (r : Role) → IsLeft P f.state k.values e r → IsLeft P m k.values e r
      left_now e r l =
          let ne : r.path ≢ b.path = λ same.
          let one = at_same f.state b.path l.task t (subst (λ (z : List ℕ). At f.state z l.task) same l.at_) there in
          let over : act_now P b.body ≡ Over = over_stops P b.body.start b.body.found (subst (λ (z : Task S). is_ended P z.body ≡ true) one l.ended) in
          let z : Created g.order false ≡ Over = sym g.act ∙ over in cc in
          record {
            cell = l.cell;
            site = l.site;
            op = l.op;
            task = l.task;
            at_ = other_task r.path l.task ne l.at_;
            right = l.right;
            ended = l.ended;
            wait = clause_stays P main f.state m agree.made agree.started more ends_stay r.path l.task l.task l.at_ refl l.ended l.wait;
            value = l.value;
          }

      still_now : (j : ℕ) (x : Sight S) → Sits sights' j x → (a : Fixed) → Among a x.still → IsStill f.role k.states k.values x a
      still_now j x sits a am = elim (at_set sights id j w x sits) [
        | inl h ↦ subst (λ (z : Sight S). IsStill f.role k.states k.values z a) h.1 (again (f.still id v at a (subst (λ (l : List Fixed). Among a l) still_same (subst (λ (z : Sight S). Among a z.still) (sym h.1) am))))
        | inr h ↦ f.still j x h.1 a am
      ]
        where
          again : IsStill f.role k.states k.values v a → IsStill f.role k.states k.values w a
          again y = elim (same_number y.place g.place) [
            | inl same ↦
                let one : y.bearing ≡ b = maybe.some-injective y.bearing b (sym y.held ∙ ap (λ (z : ℕ). get_elem? v.bears z) same ∙ g.held) in
                record {
                  bearing = c;
                  place = g.place;
                  held = ap (λ (z : List (Bearing S)). get_elem? z g.place) bears ∙ at_here v.bears g.place b c g.held;
                  it = y.it;
                  is = y.is;
                  path = y.path ∙ ap (λ (z : Bearing S). z.path) one ∙ sym cpath;
                  left = y.left;
                  given = y.given;
                  value = y.value;
                }
            | inr ne ↦ record {
              bearing = y.bearing;
              place = y.place;
              held = ap (λ (z : List (Bearing S)). get_elem? z y.place) bears ∙ set_else v.bears g.place y.place c ne ∙ y.held;
              it = y.it;
              is = y.is;
              path = y.path;
              left = y.left;
              given = y.given;
              value = y.value;
            }
          ]

      joined_has : (j : ℕ) (x : Sight S) → Sits sights' j x → (e : ℕ) → Among e x.joined → Has (record { entry = e; flag = 0 }) x.words.held
      joined_has j x sits e am = elim (at_set sights id j w x sits) [
        | inl h ↦ subst (λ (z : Sight S). Has (record { entry = e; flag = 0 }) z.words.held) h.1 (subst (λ (z : View). Has (record { entry = e; flag = 0 }) z.held) (sym words) (f.joined id v at e (subst (λ (l : List ℕ). Among e l) joined (subst (λ (z : Sight S). Among e z.joined) (sym h.1) am))))
        | inr h ↦ f.joined j x h.1 e am
      ]

      taken_now : (e : ℕ) → IsTaken f.state f.role e → IsTaken m f.role e
      taken_now e x =
          let y = more.keeps x.it.path x.given.task x.given.at_ in
          record { it = x.it; is = x.is; cell = x.cell; site = x.site; given = record { task = y.0; at_ = y.1; given = y.2.given x.cell x.given.given } }

      seen_now : (j : ℕ) (x : Sight S) → Sits sights' j x → (a : Seen) → Among a x.seen → WordGrown a.state (k.states a.entry)
      seen_now j x sits a am = elim (at_set sights id j w x sits) [
        | inl h ↦ f.seen id v at a (subst (λ (l : List Seen). Among a l) seen (subst (λ (z : Sight S). Among a z.seen) (sym h.1) am))
        | inr h ↦ f.seen j x h.1 a am
      ]

      -- after the count down that opens the task
      pub open_field : FieldAt P main first is_job n f.net f.gave f.role k' sights'
      open_field =
          record {
            field = record {
              net = f.net;
              gave = f.gave;
              role = f.role;
              opened = opened';
              state = m;
              words = subst (λ (z : List View). Kept n f.net f.gave k.states k.infos z) (sym (words_same sights id v w at words)) f.words;
              gave_hangs = f.gave_hangs;
              unused = f.unused;
              roles = f.roles;
              filed = opened_filed P main first f.state b.path t agree.made agree.started there g.order g.act f.net f.role f.filed entries;
              given = joined_given (opened_given P main first f.state b.path t agree.made agree.started there g.order g.act f.net f.role f.filed entries f.gave (IsJoined sights) f.given);
              counts = counts_owed m n f.net f.role k.states opened' (owed_by_all sights) (owed_by_all sights') counts' (owed_same sights id v w at owes)
                  (opened_counts P main first f.state b.path t agree.made agree.started there g.order g.act f.net f.role f.filed entries n k.states f.opened opened' (owed_by_all sights) k.counts counts' (entries.task.it, entries.task.is) f.counts g.closed now down others pos f.roles.one);
              cells = cells_same ∙ f.cells;
              planned = λ e r is. elim (f.planned e r is) [
                | inl u ↦ let y = more.keeps r.path u.0 u.1 in inl (y.0, y.1)
                | inr mm ↦ elim (same_number r.task mk.task) [
                  | inl same ↦ inl (new_task P b.body g.order, subst (λ (z : List ℕ). At m z (new_task P b.body g.order)) (sym (role_path e r is same)) (step.made g.order g.act))
                  | inr ne ↦ inr (making_still r.task ne mm)
                ]
              ];
              somewhere = λ q p u num h. somewhere_view p u (view P main first f.state b.path t agree.made agree.started there g.order g.act p u h) q num;
              borne = borne_now;
              made = made_now;
              left = λ e r is l. left_now e r (f.left e r is l);
              numbered = f.numbered;
              loaded = pending_now;
              joined = joined_has;
              joined_given = λ j x sits e am. elim (at_set sights id j w x sits) [
                | inl h ↦ taken_now e (f.joined_given id v at e (subst (λ (l : List ℕ). Among e l) joined (subst (λ (z : Sight S). Among e z.joined) (sym h.1) am)))
                | inr h ↦ taken_now e (f.joined_given j x h.1 e am)
              ];
              ready = λ j x sits q am. elim (at_set sights id j w x sits) [
                | inl h ↦ ready_on (f.ready id v at q (subst (λ (l : List ℕ). Among q l) ready (subst (λ (z : Sight S). Among q z.ready) (sym h.1) am)))
                | inr h ↦ ready_on (f.ready j x h.1 q am)
              ];
              seen = seen_now;
              still = still_now;
              setting = f.setting;
              reached = opened_reached P main first f.state b.path t agree.made agree.started there g.order g.act f.reached mine.ready;
            };
            same_net = refl;
            same_gave = refl;
            same_role = refl;
          }
        where
          joined_given : AreGiven P m f.net f.role f.gave (IsJoined sights) → AreGiven P m f.net f.role f.gave (IsJoined sights')
          joined_given x = record {
            cell = x.cell;
            own = x.own;
            back = λ e c r is site h. elim (x.back e c r is site h) [ inl y ↦ inl y | inr y ↦ inr (joined_forth sights id v w at joined e y) ];
          }

          ready_on : {q : ℕ} → ((p : List ℕ) × (u : Task S) × IsNumberOf f.role q p × At f.state p u × IsReady f.state p u.body.start.context) → (p : List ℕ) × (u : Task S) × IsNumberOf f.role q p × At m p u × IsReady m p u.body.start.context
          ready_on h = let y = ready_now h.0 h.1 h.3 h.4 in (h.0, y.0, h.2, y.1, y.2)
