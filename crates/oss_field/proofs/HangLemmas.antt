-- What the table tells of a new entry that is to be linked: its role, its creator, the creator's entry there, and where it hangs.
use Rattle.std.proofs.Common.{◌≡◌, ◌≢◌, ◌⊎◌, inl, inr, sym, subst, refl, ◌∙◌, ap, ℕ, suc, ◌<◌, ◌≤◌, ◌+◌, arith, Bool, true, false, List, [], ◌∷◌, length, Option, Some, None}
use Rattle.std.specs.Global.{Box}
use mathlib.Core.Option as maybe
use lib.ListN.{get_elem?}
use Rattle.atomic_table.proofs.Lists.{at_map}
use Rattle.oss_body.specs.Mains.{code_main}
use Rattle.oss_code.specs.declared.code.CodeParts.{CodeParts}
use Rattle.oss_jobs.specs.declared.job.Job.{Job}
use Rattle.oss_machine.specs.Frames.{CodeScript}
use Rattle.oss_machine.specs.Machines.{asks}
use Rattle.oss_model.specs.Bodies.{Body}
use Rattle.oss_model.specs.Context.{right_of}
use Rattle.oss_model.specs.Moves.{created_now}
use Rattle.oss_syntax.specs.declared.access.Mode.{Mode}
use Rattle.oss_syntax.specs.declared.access.Mode.TheVariants.{Read, Write, Fold}
use Rattle.oss_syntax.specs.declared.access.Op.{Op}
use Rattle.oss_words.specs.declared.entry.EntryInfo.{EntryInfo}
use Rattle.oss_words.specs.declared.entry.EntryState.{EntryState}
use Rattle.oss_words.specs.Net.{Net, Child, apart, first as first_place, after}
use Rattle.oss_words.specs.Views.{Among}
use Rattle.oss_words.proofs.NetLemmas.{child_parent}
use Rattle.oss_words.proofs.SumLemmas.{same_number}
use Rattle.oss_roles.specs.Field.{Bears, Field, IsBorne, IsMade, IsNumberOf, of_entry, of_main, Parts, Sits}
use Rattle.oss_roles.specs.Numbers.{cells_below}
use Rattle.oss_roles.specs.Roles.{Filed, Role, Site}
use Rattle.oss_roles.specs.Sights.{Bearing, Making}
use Rattle.oss_roles.proofs.GoesLaw.{one_holder}
use Rattle.oss_roles.proofs.LinkField.{hangs_behind, hangs_under}
use Rattle.oss_roles.proofs.MoveLaw.{agrees}
use Rattle.oss_roles.proofs.TakeLaw.{path_one}
use Rattle.oss_roles.proofs.WordClaims.{creators_are_open, parents_are_open}
use Rattle.oss_field.specs.declared.view.SeatView.{SeatView}
use Rattle.oss_field.specs.Known.{Holding, Known, Plan, Unlinked, bearing_of, last_of, sight_of}
use Rattle.oss_field.specs.Layout.{parts_of}
use Rattle.oss_field.specs.Linking.{IsEntryFor, MayLink, cell_entry, own_entry}
use Rattle.oss_field.specs.Owning.{HasEntry, entry_of, site_of}
use Rattle.oss_field.specs.Plans.{IsLoose, new_rights, planned_of}
use Rattle.oss_field.specs.Table.{Slot, is_job_of, sights_of, Stands}
use Rattle.oss_field.proofs.BeginLemmas.{put, put_here}
use Rattle.oss_field.proofs.DepthLemmas.{covers_is, creator_right, path_depth}
use Rattle.oss_field.proofs.ElderLemmas.{Elder, elder_of, no_later, none_of, some_behind, top_parent}
use Rattle.oss_field.proofs.OwnLemmas.{cell_filed, child_path, own_filed}
use Rattle.oss_field.proofs.PlanLemmas.{right_held}
use Rattle.oss_field.proofs.ReadLemmas.{cell_of_number}
use Rattle.oss_field.proofs.RoleFacts.{RoleFacts, role_facts}
use Rattle.oss_field.proofs.TableLemmas.{sits_at}
use Rattle.oss_field.proofs.UnleftLemmas.{creator_unleft}
use Rattle.oss_words.proofs.CauseLemmas.{clash}

-- the creator has an entry there
pub has_entry : (code : CodeParts) (e : ℕ) (i : EntryInfo) (cell : Option ℕ) (k : Known) (may : MayLink code e i cell k) → HasEntry may.holding cell
has_entry code e i cell k may = go cell may.entry
  where
    go : (o : Option ℕ) → IsEntryFor code may.holding may.order e i o → HasEntry may.holding o
    go None x = tt
    go (Some _) (cell_entry c right number) = let w = creator_right (asks code) may.holding.body may.order may.act c i.mode i.strong right in (w.mode, w.strong, w.holds)

own_mode : (m : Mode) → ((op : Op) → m ≢ Fold op) → (m ≡ Write) ⊎ (m ≡ Read)
own_mode Read never = inr refl
own_mode Write never = inl refl
own_mode (Fold op) never = absurd (never op refl)

below_or : (a b : ℕ) → (a < b) ⊎ (b ≤ a)
below_or a b = grind arith

-- no path is its own tail
no_tail : (k : ℕ) (p : List ℕ) → p ≡ k ∷ p → ⊥
no_tail k p q = let z = ap (λ (l : List ℕ). length l) q in let one : length (k ∷ p) ≡ suc (length p) = refl in omega (arith, z, one)

module _ (code : CodeParts) (fuel n id : ℕ) (v : SeatView) (e : ℕ) (i : EntryInfo) (cell : Option ℕ) (may : MayLink code e i cell v.known) (c0 : EntryState)
    (loose : Among (record { task = i.task; entry = e; state = c0; info = Some i; cell = cell }) v.known.unlinked) where
  abbrev pub y : Unlinked
  y = record { task = i.task; entry = e; state = c0; info = Some i; cell = cell }

  abbrev h : Holding
  h = may.holding

  abbrev plan : Plan
  plan = record { task = i.task; holding = may.holding; order = may.order }

  abbrev pub making : Making
  making = record { by = may.holding.number; task = i.task; stage = may.stage }

  module _ (ws : List ℕ) (homes : List (maybe.Option Slot)) (views : List SeatView) (stands : Stands code fuel n ws homes views) (sits : get_elem? views id ≡ maybe.some v) where
    abbrev k : Parts (Box Job)
    k = parts_of (length code.first) ws homes stands.cells

    abbrev f : Field (asks code) (code_main code fuel) code.first (is_job_of code stands.before) n k (sights_of views)
    f = stands.rule.field

    pub lies : IsLoose stands.net stands.role k.states k.infos k.cell_of v.known.plans (record { task = i.task; entry = e; state = c0; info = Some i; cell = cell })
    lies = stands.planned.loose id (planned_of v.known) (at_map (λ (z : SeatView). planned_of z.known) views id v sits) y loose

    pub low : e < n
    low = stands.planned.inside e lies.it lies.is

    pub at : Sits (sights_of views) id (sight_of v.known)
    at = sits_at views id v sits

    pub has : Bears (sight_of v.known) may.place (bearing_of may.holding)
    has = at_map bearing_of v.known.bears may.place may.holding may.holds

    pub facts : RoleFacts may.holding i cell lies.it
    facts = role_facts code plan e i refl lies.it cell may.entry
        (stands.planned.roles id (planned_of v.known) (at_map (λ (z : SeatView). planned_of z.known) views id v sits) plan may.plan e lies.it lies.is lies.of_task)

    pub is_role : f.role e ≡ Some lies.it
    is_role = ap (λ (z : ℕ → Option Role). z e) stands.rule.same_role ∙ lies.is

    loose_now : f.net.place e ≡ apart
    loose_now = ap (λ (z : Net). z.place e) stands.rule.same_net ∙ lies.loose

    pub not_main : e ≢ 0
    not_main q = let z : None ≡ Some lies.it = sym f.roles.main ∙ (ap f.role (sym q) ∙ is_role) in cc

    borne : IsBorne f.state (sights_of views) f.net f.role (bearing_of may.holding)
    borne = f.borne id (sight_of v.known) at may.place (bearing_of may.holding) has

    made : IsMade (asks code) (is_job_of code stands.before) k f.net f.role f.opened (sight_of v.known) making
    made = f.made id (sight_of v.known) at making may.among

    -- who makes the task is the job that the seat holds
    creator : made.creator ≡ bearing_of may.holding
    creator =
        let c = f.borne id (sight_of v.known) at made.place made.creator made.held in
        let path : made.creator.path ≡ may.holding.path = path_one (asks code) (code_main code fuel) code.first (is_job_of code stands.before) n k (sights_of views) f may.holding.number made.creator.path may.holding.path
        (subst (λ (z : ℕ). IsNumberOf f.role z made.creator.path) made.by c.number) borne.number in
        let w = one_holder (asks code) (code_main code fuel) code.first (is_job_of code stands.before) n k (sights_of views) f id id made.place may.place (sight_of v.known) (sight_of v.known) made.creator (bearing_of may.holding) at made.held at has path in
        maybe.some-injective made.creator (bearing_of may.holding) (sym made.held ∙ (ap (λ (z : ℕ). get_elem? (sight_of v.known).bears z) w.1 ∙ has))

    -- the role of a number is one
    role_same : (x : ℕ) (r q : Role) → f.role x ≡ Some r → f.role x ≡ Some q → r ≡ q
    role_same x r q a b = let z : Some r ≡ Some q = sym a ∙ b in cc

    -- main's path
    at_main : (t : ℕ) (p : List ℕ) → IsNumberOf f.role t p → t ≡ 0 → p ≡ []
    at_main t p of_main zero_is = refl
    at_main t p (of_entry r is site path) zero_is = absurd (let z : None ≡ Some r = sym f.roles.main ∙ (ap f.role (sym zero_is) ∙ is) in let bad : ⊥ = cc in bad)

    -- how deep the creator stands
    deep : may.holding.body.start.context.depth ≡ length may.holding.path
    deep =
        let d = path_depth (asks code) (code_main code fuel) f.state (agrees (asks code) (code_main code fuel) code.first f.state f.setting f.reached).made refl may.holding.path borne.task borne.at_ in
        ap (λ (z : Body CodeScript). z.start.context.depth) (sym borne.body) ∙ d

    pub depth_is : i.depth ≡ suc (length may.holding.path)
    depth_is = may.depth ∙ ap (λ (z : ℕ). suc z) deep

    main_open : (k.states 0).given ≡ false
    main_open = f.words.given 0 (let j = low in omega (arith, j)) ∙ ungiven (f.gave 0) refl
      where
        ungiven : (b : Bool) → f.gave 0 ≡ b → f.gave 0 ≡ false
        ungiven true q = absurd (f.gave_hangs 0 q f.words.flow.words.shaped.main.0)
        ungiven false q = q

    -- The creator's entry there, if it is not main: it is not given up, and its mode covers that of the new one.
    pub record Above (o : Option ℕ) (p : ℕ) : Type 0 where
      pub up : Filed f.net f.role may.holding.path (site_of o)
      pub entry : up.entry ≡ p
      pub open_yet : (k.states p).given ≡ false
      pub mode : (f.net.mode p ≡ Write) ⊎ (f.net.mode p ≡ i.mode)

    above_at : (o : Option ℕ) → IsEntryFor code may.holding may.order e i o → may.holding.number ≢ 0 → Above o (entry_of may.holding o)
    above_at None (own_entry own mode strong) number =
        let x = own_filed code n k (sights_of views) f id v.known at may.place may.holding may.holds number in
        let told = (f.roles.told x.0.entry x.0.it x.0.is x.0.hangs).0 in
        let kind = own_mode x.0.it.mode (λ op. stands.selves x.0.entry x.0.it (ap (λ (z : ℕ → Option Role). z x.0.entry) (sym stands.rule.same_role) ∙ x.0.is) x.0.site op) in
        record {
          up = x.0;
          entry = x.1;
          open_yet = subst (λ (z : ℕ). (k.states z).given ≡ false) x.1
              (creators_are_open CodeScript (Box Job) (is_job_of code stands.before) (asks code) (code_main code fuel) code.first n k (sights_of views) f id may.place (sight_of v.known) (bearing_of may.holding) may.order at has may.act x.0);
          mode = subst (λ (z : ℕ). (f.net.mode z ≡ Write) ⊎ (f.net.mode z ≡ i.mode)) x.1 (elim kind [ inl q ↦ inl (told ∙ q) | inr q ↦ inr (told ∙ (q ∙ sym mode)) ]);
        }
    above_at (Some _) (cell_entry c right number_is) number =
        let w = creator_right (asks code) may.holding.body may.order may.act c i.mode i.strong right in
        let x = cell_filed code n k (sights_of views) f id v.known at may.place may.holding may.holds number c w.mode w.strong w.holds in
        let told = (f.roles.told x.0.entry x.0.it x.0.is x.0.hangs).0 in
        record {
          up = x.0;
          entry = x.3;
          open_yet = subst (λ (z : ℕ). (k.states z).given ≡ false) x.3
              (parents_are_open CodeScript (Box Job) (is_job_of code stands.before) (asks code) (code_main code fuel) code.first n k (sights_of views) f id may.place (sight_of v.known) (bearing_of may.holding) may.order c i.mode i.strong at has may.act right x.0);
          mode = subst (λ (z : ℕ). (f.net.mode z ≡ Write) ⊎ (f.net.mode z ≡ i.mode)) x.3 (elim (covers_is w.mode i.mode w.covers) [ inl q ↦ inl (told ∙ (x.1 ∙ q)) | inr q ↦ inr (told ∙ (x.1 ∙ q)) ]);
        }

    pub above : may.holding.number ≢ 0 → Above cell i.parent
    above number = subst (λ (z : ℕ). Above cell z) (sym (may.of_task number)) (above_at cell may.entry number)

    -- so it is of the entry's parent, which may be main
    pub parent_open : (k.states i.parent).given ≡ false
    parent_open = elim (same_number may.holding.number 0) [
      | inl z ↦ ap (λ (p : ℕ). (k.states p).given) (may.of_main z) ∙ main_open
      | inr ne ↦ (above ne).open_yet
    ]

    -- its value is not left, since its task stands before a creation, and has not ended
    pub parent_unleft : may.holding.number ≢ 0 → (k.states i.parent).left ≡ false
    parent_unleft ne =
        let a = above ne in
        subst (λ (z : ℕ). (k.states z).left ≡ false) a.entry (creator_unleft code n k (sights_of views) f id v.known at may.place may.holding may.holds may.order may.act a.up.entry a.up.it a.up.is a.up.path)

    -- what hangs, and has its value left, is not the parent
    pub not_parent : (j : ℕ) → f.net.place j ≢ apart → (k.states j).left ≡ true → j ≢ i.parent
    not_parent j hangs left q = elim (same_number may.holding.number 0) [
      | inl z ↦ hangs (ap (λ (p : ℕ). f.net.place p) (q ∙ may.of_main z) ∙ f.words.flow.words.shaped.main.0)
      | inr ne ↦ clash (ap (λ (p : ℕ). (k.states p).left) (sym q) ∙ left) (parent_unleft ne)
    ]

    pub covered : i.parent ≢ 0 → (f.net.mode i.parent ≡ Write) ⊎ (f.net.mode i.parent ≡ i.mode)
    covered np = elim (same_number may.holding.number 0) [
      | inl z ↦ absurd (np (may.of_main z))
      | inr ne ↦ (above ne).mode
    ]

    -- the entry's number is at least that of its task
    from_task : (o : Option ℕ) → IsEntryFor code may.holding may.order e i o → i.task ≤ e
    from_task None (own_entry own mode strong) = omega (arith, own)
    from_task (Some _) (cell_entry c right number) = let z : e ≡ i.task + 1 + cells_below (new_rights code may.holding.body may.order) c = number in omega (arith, z)

    pub task_low : i.task ≤ e
    task_low = from_task cell may.entry

    past_task : (o : Option ℕ) → o ≢ None → IsEntryFor code may.holding may.order e i o → i.task < e
    past_task None ne x = absurd (ne refl)
    past_task (Some _) ne (cell_entry c right number) = let z : e ≡ i.task + 1 + cells_below (new_rights code may.holding.body may.order) c = number in omega (arith, z)

    -- the number of the new task is that of no entry of its creator
    not_of_creator : may.holding.number ≢ 0 → (c : ℕ) → i.task ≤ may.holding.number + cells_below (right_of may.holding.body.start.context) c → ⊥
    not_of_creator number c most =
        let g = cell_of_number may.holding.number (right_of may.holding.body.start.context) c i.task may.above.number most in
        let right = right_held (right_of may.holding.body.start.context g.cell) g.has in
        let x = cell_filed code n k (sights_of views) f id v.known at may.place may.holding may.holds number g.cell right.0 right.1 right.2 in
        let own = made.own in
        let same : i.task ≡ x.0.entry = g.number ∙ sym x.3 in
        let one = role_same i.task own.0 x.0.it own.1 (ap f.role same ∙ x.0.is) in
        no_tail (created_now (asks code) made.creator.body) may.holding.path
        (sym x.0.path ∙ (ap (λ (z : Role). z.path) (sym one) ∙ (own.2 ∙ ap (λ (b : Bearing CodeScript). created_now (asks code) made.creator.body ∷ b.path) creator)))

    -- the creator's entry there has a lower number
    before_task : (o : Option ℕ) → IsEntryFor code may.holding may.order e i o → may.holding.number ≢ 0 → entry_of may.holding o < e
    before_task None (own_entry own mode strong) number = let l = may.above.number in omega (arith, l, own)
    before_task (Some _) (cell_entry c right number_is) number = elim (below_or (may.holding.number + 1 + cells_below (right_of may.holding.body.start.context) c) e) [
      | inl l ↦ l
      | inr l ↦ absurd (let z : e ≡ i.task + 1 + cells_below (new_rights code may.holding.body may.order) c = number_is in not_of_creator number c (omega (arith, l, z)))
    ]

    -- behind an elder sibling
    module _ (o : ℕ) (last : last_of may.holding (site_of cell) ≡ Some o) where
      elder : Elder f.net f.role o may.holding.path lies.it.site
      unfolding made
      elder =
          let net2 : Net = record stands.net { place = put stands.net.place e (after o) } in
          subst (λ (b : Bearing CodeScript). Elder f.net f.role o b.path lies.it.site) creator
          (elder_of (hangs_behind (asks code) (code_main code fuel) code.first (is_job_of code stands.before) n k (sights_of views) f id (sight_of v.known) at making may.among e lies.it is_role lies.of_task loose_now net2 o
          (ap (λ (b : Bearing CodeScript). b.last lies.it.site) creator ∙ (ap (λ (z : Site). last_of may.holding z) facts.site ∙ last)) (put_here stands.net.place e (after o))) o (put_here stands.net.place e (after o)))

      pub elder_hangs : f.net.place o ≢ apart
      elder_hangs = elder.hangs

      pub none_behind : (x : ℕ) → f.net.place x ≢ after o
      none_behind = no_later f.net f.role k.infos f.roles o may.holding.path lies.it.site elder

      pub elder_depth : f.net.depth o ≡ i.depth
      elder_depth = f.roles.depth o elder.it elder.is elder.hangs ∙ (ap (λ (l : List ℕ). length l) elder.path ∙ sym depth_is)

      child : (a : Above cell i.parent) → Child f.net.place a.up.entry o
      child a = f.roles.below a.up.entry o a.up.it elder.it elder.number a.up.is elder.is a.up.hangs elder.hangs (elder.path ∙ ap (λ (l : List ℕ). elder.number ∷ l) (sym a.up.path)) (elder.site ∙ (facts.site ∙ sym a.up.site))

      pub elder_parent : f.net.parent o ≡ i.parent
      elder_parent = elim (same_number may.holding.number 0) [
        | inl z ↦ top_parent f.net f.words.flow.words.shaped o (elder_depth ∙ (depth_is ∙ ap (λ (l : List ℕ). suc (length l)) (at_main may.holding.number may.holding.path borne.number z))) ∙ sym (may.of_main z)
        | inr ne ↦ let a = above ne in child_parent f.net f.words.flow.words.shaped a.up.entry o (child a) ∙ a.entry
      ]

      pub elder_last : f.net.parent o ≢ 0 → f.net.last (f.net.parent o) ≡ o
      elder_last np = elim (same_number may.holding.number 0) [
        | inl z ↦ absurd (np (elder_parent ∙ may.of_main z))
        | inr ne ↦
            let a = above ne in
            elim (f.words.flow.words.shaped.youngest a.up.entry o (child a)) [
              | inl q ↦ ap (λ (z : ℕ). f.net.last z) (elder_parent ∙ sym a.entry) ∙ sym q
              | inr r ↦ let b = some_behind f.net.place o (f.net.last a.up.entry) r in absurd (none_behind b.0 b.1)
            ]
      ]

      pub elder_below : o < e
      elder_below = let l = may.above.lasts (site_of cell) o last in let t = task_low in omega (arith, l, t)

    -- as the first below its parent
    module _ (number : may.holding.number ≢ 0) (none : last_of may.holding (site_of cell) ≡ None) where
      none_at : (x : ℕ) (q : Role) (m : ℕ) → f.role x ≡ Some q → f.net.place x ≢ apart → q.path ≡ m ∷ may.holding.path → q.site ≡ lies.it.site → ⊥
      unfolding made
      none_at =
          let a = above number in
          let net2 : Net = record stands.net { place = put stands.net.place e (first_place a.up.entry) } in
          let up : Filed f.net f.role made.creator.path lies.it.site = record { entry = a.up.entry; it = a.up.it; is = a.up.is; hangs = a.up.hangs; path = a.up.path ∙ ap (λ (b : Bearing CodeScript). b.path) (sym creator); site = a.up.site ∙ sym facts.site } in
          subst (λ (b : Bearing CodeScript). (x : ℕ) (q : Role) (m : ℕ) → f.role x ≡ Some q → f.net.place x ≢ apart → q.path ≡ m ∷ b.path → q.site ≡ lies.it.site → ⊥) creator
          (none_of (hangs_under (asks code) (code_main code fuel) code.first (is_job_of code stands.before) n k (sights_of views) f id (sight_of v.known) at making may.among e lies.it is_role lies.of_task loose_now net2
          (ap (λ (b : Bearing CodeScript). b.last lies.it.site) creator ∙ (ap (λ (z : Site). last_of may.holding z) facts.site ∙ none)) up (put_here stands.net.place e (first_place a.up.entry))) a.up.entry (put_here stands.net.place e (first_place a.up.entry)))

      pub none_below : (x : ℕ) → f.net.place x ≢ first_place i.parent
      none_below x at_ =
          let a = above number in
          let there : f.net.place x ≢ apart = λ z. (let bad : first_place i.parent ≡ apart = sym at_ ∙ z in cc) in
          let q = f.roles.hung x there in
          let c = child_path code n k (sights_of views) f id v.known at may.place may.holding may.holds a.up.entry x a.up.it q.0 a.up.is q.1 (at_ ∙ ap first_place (sym a.entry)) in
          none_at x q.0 c.0 q.1 there (c.1 ∙ ap (λ (l : List ℕ). c.0 ∷ l) a.up.path) (c.2 ∙ (a.up.site ∙ sym facts.site))

      pub parent_hangs : f.net.place i.parent ≢ apart
      parent_hangs = let a = above number in subst (λ (z : ℕ). f.net.place z ≢ apart) a.entry a.up.hangs

      pub parent_depth : f.net.depth i.parent ≡ length may.holding.path
      parent_depth = let a = above number in subst (λ (z : ℕ). f.net.depth z ≡ length may.holding.path) a.entry (f.roles.depth a.up.entry a.up.it a.up.is a.up.hangs ∙ ap (λ (l : List ℕ). length l) a.up.path)

      pub parent_below : i.parent < e
      parent_below = subst (λ (z : ℕ). z < e) (sym (may.of_task number)) (before_task cell may.entry number)
