-- The steps that make a task keep the rule, and those of slots, as `specs/MakeSteps` and `specs/SlotSteps` tell them.
use Rattle.std.proofs.Common.{◌≡◌, ◌≢◌, inl, inr, sym, subst, refl, ◌∙◌, ap, ℕ, Bool, true, false, List, ◌∷◌, set, Some, None}
use Rattle.std.specs.Prelude.{◌==◌, cond}
use mathlib.Core.Option as maybe
use lib.ListN.{get_elem?}
use Rattle.std.proofs.lemmas.Bool.Decides.{eqb_tells}
use Rattle.oss_model.specs.Bodies.{Order, Program, Start}
use Rattle.oss_model.specs.Bodies.Act.{Created}
use Rattle.oss_model.specs.Moves.{act_now, created_now, new_task}
use Rattle.oss_words.specs.declared.entry.EntryState.{EntryState}
use Rattle.oss_words.specs.declared.message.Message.{Message}
use Rattle.oss_words.specs.Members.{Has}
use Rattle.oss_words.specs.Net.{Net, Adds}
use Rattle.oss_words.specs.Rule.{Kept}
use Rattle.oss_words.specs.Views.{View, Among}
use Rattle.oss_words.proofs.PlaceLaw.{looked_kept}
use Rattle.oss_roles.specs.Alone.{with_answer}
use Rattle.oss_roles.specs.Claims.{TakesKeep, PutsKeep, FirstPutsKeep, PlansKeep, FillsKeep, LinksKeep, OpeningsKeep}
use Rattle.oss_roles.specs.Field.{Field, Parts, Sits, Bears, words_of, IsNumberOf, IsPut, IsMade}
use Rattle.oss_roles.specs.MakeSteps.{IsLinked, after_last, below_creator, begins_list}
use Rattle.oss_roles.specs.Roles.{Role, Hanging}
use Rattle.oss_roles.specs.Sights.{Bearing, Making, Sight, Telling}
use Rattle.oss_roles.proofs.CallLemmas.{sole_maker}
use Rattle.oss_roles.proofs.FillField.{fill_field, begun_words}
use Rattle.oss_roles.proofs.GoesLaw.{one_holder}
use Rattle.oss_roles.proofs.LinkField.{LeavesFlags, leaves_same, link_field, link_words, link_leaves, link_joined, new_path, hangs_behind, hangs_under, hangs_first}
use Rattle.oss_roles.proofs.OpenField.{open_field}
use Rattle.oss_roles.proofs.OtherLaw.{at_words, words_set}
use Rattle.oss_roles.proofs.PlanField.{plan_field}
use Rattle.oss_roles.proofs.SeatLaw.{stage_field}
use Rattle.oss_roles.proofs.TakeLaw.{path_one, take_field, put_field}

order_same : {S : Type 0} (x y : Order S) → Created x false ≡ Created y false → x ≡ y
order_same x y h = cc

opened_now : (opened : ℕ → Bool) (t : ℕ) → cond (t == t) true (opened t) ≡ true
opened_now opened t = elim (eqb_tells t t) [ inl h ↦ rw h.0 refl | inr h ↦ absurd (h.1 refl) ]

opened_else : (opened : ℕ → Bool) (t j : ℕ) → j ≢ t → cond (j == t) true (opened j) ≡ opened j
opened_else opened t j ne = elim (eqb_tells j t) [ inl h ↦ absurd (ne h.1) | inr h ↦ rw h.0 refl ]

-- the maker of a task is the job that is borne under its creator's number
module _ {S J : Type 0} (P : Program S) (main : Start S) (first : List ℕ) (is_job : Telling S J) (n : ℕ) (k : Parts J) (sights : List (Sight S)) (f : Field P main first is_job n k sights)
    (id : ℕ) (v : Sight S) (at : Sits sights id v) (m : Making) (among : Among m v.makes) (i : ℕ) (b : Bearing S) (has : Bears v i b) (by : b.number ≡ m.by) where
  abbrev g : IsMade P is_job k f.net f.role f.opened v m
  g = f.made id v at m among

  creator_at : (g.place ≡ i) × (g.creator ≡ b)
  creator_at =
      let c = f.borne id v at g.place g.creator g.held in
      let d = f.borne id v at i b has in
      let path : g.creator.path ≡ b.path = path_one P main first is_job n k sights f b.number g.creator.path b.path (subst (λ (z : ℕ). IsNumberOf f.role z g.creator.path) (g.by ∙ sym by) c.number) d.number in
      let h = one_holder P main first is_job n k sights f id id g.place i v v g.creator b at g.held at has path in
      (h.1, maybe.some-injective g.creator b (sym g.held ∙ ap (λ (z : ℕ). get_elem? v.bears z) h.1 ∙ has))

  -- the creation is the one that the job stands before
  order_is : (order : Order S) → act_now P b.body ≡ Created order false → g.order ≡ order
  order_is order act = order_same g.order order (sym g.act ∙ ap (λ (z : Bearing S). act_now P z.body) creator_at.1 ∙ act)

  put_is : (order : Order S) → act_now P b.body ≡ Created order false → (k' : Parts J) (m' : Making) → IsPut is_job k' m' (new_task P b.body order).body → IsPut is_job k' m' (new_task P g.creator.body g.order).body
  put_is order act k' m' put =
      subst (λ (z : Bearing S). IsPut is_job k' m' (new_task P z.body g.order).body) (sym creator_at.1)
      (subst (λ (z : Order S). IsPut is_job k' m' (new_task P b.body z).body) (sym (order_is order act)) put)

  -- it is not main
  not_main : m.task ≢ 0
  not_main q = let o = g.own in let z : None ≡ Some o.0 = sym f.roles.main ∙ ap (λ (y : ℕ). f.role y) (sym q) ∙ o.1 in cc

  -- how an entry of the new task is linked, and what that leaves
  module _ (w : Sight S) (e : ℕ) (r : Role) (is : f.role e ≡ Some r) (task : r.task ≡ m.task) (net' : Net) (states' : ℕ → EntryState) where
    record Linked : Type 0 where
      adds : Adds f.net net' e
      words : Kept n net' f.gave states' k.infos (words_of (set sights id w))
      leaves : (x : ℕ) → LeavesFlags (k.states x) (states' x)
      joined : (z : ℕ) → Among z v.joined → Has (record { entry = z; flag = 0 }) w.words.held
      path : r.path ≡ created_now P g.creator.body ∷ g.creator.path
      hanging : Hanging f.net net' f.role e r (created_now P g.creator.body) g.creator.path

    linked : IsLinked f id v w b e r net' states' → Linked
    linked (after_last o last place d) =
        record {
          adds = d.adds;
          words = link_words P main first is_job n k sights f id v w at net' states' o e d;
          leaves = link_leaves P main first is_job n k sights f id v w at net' states' o e d;
          joined = link_joined P main first is_job n k sights f id v w at net' states' o e d;
          path = new_path P main first is_job n k sights f id v at m among e r is task d.adds.fresh;
          hanging = hangs_behind P main first is_job n k sights f id v at m among e r is task d.adds.fresh net' o (ap (λ (z : Bearing S). z.last r.site) creator_at.1 ∙ last) place;
        }
    linked (below_creator up last place d) =
        record {
          adds = d.adds;
          words = link_words P main first is_job n k sights f id v w at net' states' up.entry e d;
          leaves = link_leaves P main first is_job n k sights f id v w at net' states' up.entry e d;
          joined = link_joined P main first is_job n k sights f id v w at net' states' up.entry e d;
          path = new_path P main first is_job n k sights f id v at m among e r is task d.adds.fresh;
          hanging = hangs_under P main first is_job n k sights f id v at m among e r is task d.adds.fresh net' (ap (λ (z : Bearing S). z.last r.site) creator_at.1 ∙ last)
              (record { entry = up.entry; it = up.it; is = up.is; hangs = up.hangs; path = up.path ∙ ap (λ (z : Bearing S). z.path) (sym creator_at.1); site = up.site }) place;
        }
    linked (begins_list nil last d same held half) =
        record {
          adds = d.adds;
          words = subst (λ (z : ℕ → EntryState). Kept n net' f.gave z k.infos (words_of (set sights id w))) (sym same)
              (subst (λ (z : List View). Kept n net' f.gave k.states k.infos z) (sym (words_set sights id w))
              (looked_kept n net' f.gave k.states k.infos (words_of sights) (begun_words n f.net net' f.gave k.states k.infos (words_of sights) e f.words d) id v.words w.words (at_words sights id v at) held half));
          leaves = λ x. subst (λ (z : ℕ → EntryState). LeavesFlags (k.states x) (z x)) (sym same) (leaves_same (k.states x));
          joined = λ z in_. subst (λ (l : List Message). Has (record { entry = z; flag = 0 }) l) (sym held) (f.joined id v at z in_);
          path = new_path P main first is_job n k sights f id v at m among e r is task d.adds.fresh;
          hanging = hangs_first P main first is_job n k sights f id v at m among e r is task d.adds.fresh net' (ap (λ (z : Bearing S). z.last r.site) creator_at.1 ∙ last)
              (ap (λ (z : Bearing S). z.path) creator_at.1 ∙ nil) d.begins;
        }

pub takes_keep : (S J : Type 0) (is_job : Telling S J) → TakesKeep S J is_job
takes_keep S J is_job P main first n k sights f id v t bodies' jobs' d =
    let h = take_field P main first is_job n k sights f id v d.sits t d.found d.one bodies' jobs' d.out d.empty d.other_bodies d.other_jobs in
    record { job = h.0; bearing = h.1; number = h.2; stood = h.3; is = h.4; keeps = h.5 }

pub puts_keep : (S J : Type 0) (is_job : Telling S J) → PutsKeep S J is_job
puts_keep S J is_job P main first n k sights f id v w b j bodies' jobs' d =
    put_field P main first is_job n k sights f id v w d.sits d.same b d.bears j d.is bodies' jobs' d.home d.full d.other_bodies d.other_jobs d.makes d.loaded d.still

pub first_puts_keep : (S J : Type 0) (is_job : Telling S J) → FirstPutsKeep S J is_job
first_puts_keep S J is_job P main first n k sights f id v w i b order m m' bodies' jobs' d =
    stage_field P main first is_job n k sights f id v w d.sits m m' d.among d.among_now d.task d.maker d.others d.kept bodies' jobs' d.other_bodies d.other_jobs
    (put_is P main first is_job n k sights f id v d.sits m d.among i b d.has d.by order d.act (record k { bodies = bodies'; jobs = jobs' }) m' d.put)
    d.same.words d.bears d.same.joined d.same.owes d.same.ready d.same.loaded d.same.seen d.same.still (sole_maker P main first is_job n k sights f id v d.sits m d.among)

pub plans_keep : (S J : Type 0) (is_job : Telling S J) → PlansKeep S J is_job
plans_keep S J is_job P main first n k sights f id v w i b order t role' m counts' d =
    plan_field P main first is_job n k sights f id v w d.sits i b d.has order d.act t role' d.plans d.inside
    (λ q. let o = d.plans.own in let z : None ≡ Some o.0 = sym d.plans.not_main ∙ ap (λ (y : ℕ). role' y) (sym q) ∙ o.1 in let bad : ⊥ = cc in bad)
    m d.by d.task d.stage d.access d.strongly counts' d.filled d.others d.bears d.makes d.same.words d.same.owes d.same.joined d.same.ready d.same.loaded d.same.seen d.same.still

pub fills_keep : (S J : Type 0) (is_job : Telling S J) → FillsKeep S J is_job
fills_keep S J is_job P main first n k sights f e states' infos' cell_of' d =
    fill_field P main first is_job n k sights f e states' infos' cell_of' d.fills d.cells d.flags

pub links_keep : (S J : Type 0) (is_job : Telling S J) → LinksKeep S J is_job
links_keep S J is_job P main first n k sights f id v w i b m e r net' states' d =
    let g = f.made id v d.sits m d.among in
    let l = linked P main first is_job n k sights f id v d.sits m d.among i b d.has d.by w e r d.is d.task net' states' d.linked in
    link_field P main first is_job n k sights f id v w d.sits d.same d.owes m d.among e r d.is d.task net' states' l.adds l.words l.leaves l.joined
    (created_now P g.creator.body) g.creator.path l.path d.told l.hanging d.starts d.cell

pub openings_keep : (S J : Type 0) (is_job : Telling S J) → OpeningsKeep S J is_job
openings_keep S J is_job P main first n k sights f id v w i b c m counts' d =
    let g = f.made id v d.sits m d.among in
    let at = creator_at P main first is_job n k sights f id v d.sits m d.among i b d.has d.by in
    open_field P main first is_job n k sights f id v w d.sits m d.among d.put (not_main P main first is_job n k sights f id v d.sits m d.among i b d.has d.by) d.hung c
    (d.bears ∙ ap (λ (z : ℕ). set v.bears z c) (sym at.0)) (d.number ∙ ap (λ (z : Bearing S). z.number) (sym at.1)) (d.path ∙ ap (λ (z : Bearing S). z.path) (sym at.1)) (d.body ∙ ap (λ (z : Bearing S). with_answer 0 z.body) (sym at.1))
    (λ y. elim (d.last y) [ inl h ↦ inl h | inr h ↦ inr (h.0, h.1 ∙ ap (λ (z : Bearing S). z.last y) (sym at.1)) ]) d.makes d.kept
    (λ j. cond (j == m.task) true (f.opened j)) counts' (opened_now f.opened m.task) d.down
    (λ j ne. (opened_else f.opened m.task j ne, d.others j ne))
    d.same.words d.same.owes d.same.joined d.same.ready d.same.loaded d.same.seen d.same.still
