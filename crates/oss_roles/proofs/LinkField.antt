-- The link of an entry of a new task: the rule after it. No move.
use Rattle.std.proofs.Common.{◌≡◌, ◌≢◌, ◌⊎◌, inl, inr, sym, subst, refl, ◌∙◌, ap, ℕ, ◌<◌, arith, true, false, List, [], ◌∷◌, set, Option, Some, None}
use mathlib.Core.Option as maybe
use lib.ListN.{get_elem?}
use Rattle.atomic_table.proofs.Lists.{at_set}
use Rattle.oss_model.specs.Bodies.{Program, Start, Body, stage_created, stage_act}
use Rattle.oss_model.specs.Bodies.Act.{Created}
use Rattle.oss_model.specs.Machine.{Task, At}
use Rattle.oss_model.specs.Moves.{created_now, new_task}
use Rattle.oss_model.specs.Order.{IsSuffix}
use Rattle.oss_model.proofs.StageLemmas.{created_grows, creation_counts}
use Rattle.oss_model.proofs.TreeLemmas.{at_same}
use Rattle.oss_words.specs.declared.entry.EntryState.{EntryState}
use Rattle.oss_words.specs.declared.message.Message.{Message}
use Rattle.oss_words.specs.Grown.{Grown}
use Rattle.oss_words.specs.Members.{Has}
use Rattle.oss_words.specs.Net.{Net, Adds, apart, top, first as first_place, after}
use Rattle.oss_words.specs.Rule.{Kept}
use Rattle.oss_words.specs.Steps.{Links, Linking, to_sibling, to_child}
use Rattle.oss_words.specs.Sums.{num}
use Rattle.oss_words.specs.Views.{View, Seen, Among}
use Rattle.oss_words.proofs.GrowLaw.{links_kept}
use Rattle.oss_words.proofs.NetLemmas.{still_hangs}
use Rattle.oss_words.proofs.StillLemmas.{grown_on, grown_same, sibling_grown, child_grown}
use Rattle.oss_words.proofs.SumLemmas.{same_number}
use Rattle.oss_roles.specs.Counting.{stands, AreCounts}
use Rattle.oss_roles.specs.Field.{Field, FieldAt, Parts, Sits, Bears, words_of, numbers_of, held_by_all, owed_by_all, IsMaking, is_making, AreLast, IsSomewhere, at_home, is_out, IsBorne, IsPut, not_put, going, is_put, IsMade}
use Rattle.oss_roles.specs.Roles.{Role, Site, on, Filed, Hanging, behind, under, first_top}
use Rattle.oss_roles.specs.Sights.{Bearing, Making, Noted, Fixed, Sight, Telling}
use Rattle.oss_roles.proofs.CountLaw as counting
use Rattle.oss_roles.proofs.GoesLaw.{one_holder, making_on}
use Rattle.oss_roles.proofs.HangLaw.{hung_roles, hung_filed}
use Rattle.oss_roles.proofs.HoldLemmas.{held_same}
use Rattle.oss_roles.proofs.JobLaw.{joined_forth, counts_owed, owed_same}
use Rattle.oss_roles.proofs.MoveLaw.{agrees}
use Rattle.oss_roles.proofs.OtherLaw.{at_words, words_set}
use Rattle.oss_roles.specs.Steps.{SameJobs}

-- what a link leaves of the word in which it is set
pub record LeavesFlags (a c : EntryState) : Type 0 where
  pub reads : c.reads ≡ a.reads
  pub writes : c.writes ≡ a.writes
  pub left : c.left ≡ a.left
  pub given : c.given ≡ a.given
  pub grown : Grown a c

pub leaves_same : (a : EntryState) → LeavesFlags a a
leaves_same a = record { reads = refl; writes = refl; left = refl; given = refl; grown = grown_same a a refl }

pub linking_leaves : (net' : Net) (states states' : ℕ → EntryState) (o e : ℕ) → Linking net' states states' o e → LeavesFlags (states o) (states' o)
linking_leaves net' states states' o e (to_sibling at free x y sets) =
    subst (λ (z : EntryState). LeavesFlags (states o) z) (sym sets) (record { reads = refl; writes = refl; left = refl; given = refl; grown = sibling_grown e x y (states o) free })
linking_leaves net' states states' o e (to_child at free undone x y sets) =
    subst (λ (z : EntryState). LeavesFlags (states o) z) (sym sets) (record { reads = refl; writes = refl; left = refl; given = refl; grown = child_grown e x y (states o) free })

module _ {S J : Type 0} (P : Program S) (main : Start S) (first : List ℕ) (is_job : Telling S J) (n : ℕ) (k : Parts J) (sights : List (Sight S)) (f : Field P main first is_job n k sights)
    (id : ℕ) (v w : Sight S) (at : Sits sights id v) (same : SameJobs v w) (owes : w.owes ≡ v.owes) (mk : Making) (among : Among mk v.makes)
    (e : ℕ) (r : Role) (is : f.role e ≡ Some r) (task : r.task ≡ mk.task) (net' : Net) (states' : ℕ → EntryState) (adds : Adds f.net net' e) (words : Kept n net' f.gave states' k.infos (words_of (set sights id w))) (leaves : (x : ℕ) → LeavesFlags (k.states x) (states' x))
    (joined_still : (z : ℕ) → Among z v.joined → Has (record { entry = z; flag = 0 }) w.words.held)
    (j : ℕ) (p : List ℕ) (path : r.path ≡ j ∷ p) (told : (net'.mode e ≡ r.mode) × ((k.infos e).strong ≡ r.strong) × ((k.infos e).task ≡ r.task)) (hanging : Hanging f.net net' f.role e r j p)
    (starts : r.counts ≡ false → r.strong ≡ true → stands r.mode (states' e) ≡ true) (cell : (c : ℕ) → r.site ≡ on c → k.cell_of e ≡ c) where
  abbrev sights' : List (Sight S)
  sights' = set sights id w

  abbrev k' : Parts J
  k' = record k { states = states' }

  making_mine : IsMaking sights r.task
  making_mine = is_making id v at mk among (sym task)

  -- what hangs now hung before, or it is this entry
  hung_now : (x : ℕ) → net'.place x ≢ apart → (x ≡ e) ⊎ (f.net.place x ≢ apart)
  hung_now x h = elim (same_number x e) [ inl q ↦ inl q | inr ne ↦ inr (λ z. h (adds.place x ne ∙ z)) ]

  still_hung : (x : ℕ) → f.net.place x ≢ apart → net'.place x ≢ apart
  still_hung = still_hangs f.net net' e f.words.flow.words.shaped adds

  last_on : (q : List ℕ) (last : Site → Option ℕ) → AreLast sights f.net f.role q last → AreLast sights' net' f.role q last
  last_on q last l =
      record {
        some = λ y z zs.
            let a = l.some y z zs in (
              a.0,
              a.1,
              a.2,
              still_hung z a.3,
              a.4,
              a.5,
              (λ x s i xis hx xpath site free. elim (hung_now x hx) [
                | inl here ↦ absurd (free (making_on sights id v w at same.makes s.task (subst (λ (u : Role). IsMaking sights u.task) (role_one x s xis here) making_mine)))
                | inr old ↦ a.6 x s i xis old xpath site (λ u. free (making_on sights id v w at same.makes s.task u))
              ]),
            );
        none = λ y zs x s i xis hx xpath site. elim (hung_now x hx) [
          | inl here ↦ making_on sights id v w at same.makes s.task (subst (λ (u : Role). IsMaking sights u.task) (role_one x s xis here) making_mine)
          | inr old ↦ making_on sights id v w at same.makes s.task (l.none y zs x s i xis old xpath site)
        ];
      }
    where
      role_one : (x : ℕ) (s : Role) → f.role x ≡ Some s → x ≡ e → r ≡ s
      role_one x s xis here = let z : Some r ≡ Some s = sym is ∙ ap (λ (u : ℕ). f.role u) (sym here) ∙ xis in cc

  held_is : (q : ℕ) → held_by_all sights' q ≡ held_by_all sights q
  held_is = held_same sights id v w at (ap (λ (z : List (Bearing S)). numbers_of z) same.bears)

  somewhere_on : (q : ℕ) (a : List ℕ) (y : Body S) → IsSomewhere is_job k sights f.net f.role q a y → IsSomewhere is_job k' sights' net' f.role q a y
  somewhere_on q a y (at_home g last one stands job l none) = at_home g last one stands job (last_on a last l) (held_is q ∙ none)
  somewhere_on q a y (is_out two stands one) = is_out two stands (held_is q ∙ one)

  before : (i : ℕ) (x : Sight S) → Sits sights' i x → (y : Sight S) × Sits sights i y × (x.bears ≡ y.bears) × (x.makes ≡ y.makes) × (x.ready ≡ y.ready) × (x.loaded ≡ y.loaded) × (x.joined ≡ y.joined) × (x.seen ≡ y.seen) × (x.still ≡ y.still)
  before i x sits = elim (at_set sights id i w x sits) [
    | inl h ↦ (
      v,
      ap (λ (z : ℕ). get_elem? sights z) h.0 ∙ at,
      ap (λ (z : Sight S). z.bears) (sym h.1) ∙ same.bears,
      ap (λ (z : Sight S). z.makes) (sym h.1) ∙ same.makes,
      ap (λ (z : Sight S). z.ready) (sym h.1) ∙ same.ready,
      ap (λ (z : Sight S). z.loaded) (sym h.1) ∙ same.loaded,
      ap (λ (z : Sight S). z.joined) (sym h.1) ∙ same.joined,
      ap (λ (z : Sight S). z.seen) (sym h.1) ∙ same.seen,
      ap (λ (z : Sight S). z.still) (sym h.1) ∙ same.still,
    )
    | inr h ↦ (x, h.1, refl, refl, refl, refl, refl, refl, refl)
  ]

  put_on : (y : Body S) (a : Making) → IsPut is_job k a y → IsPut is_job k' a y
  put_on y a (not_put one two none) = not_put one two none
  put_on y a (going one two none) = going one two none
  put_on y a (is_put x one two stands job) = is_put x one two stands job

  counts_now : AreCounts f.state n net' f.role states' f.opened (owed_by_all sights') k.counts
  counts_now =
      let c = counts_owed f.state n f.net f.role states' f.opened (owed_by_all sights) (owed_by_all sights') k.counts (owed_same sights id v w at owes)
      (counting.same_counts f.state n f.net k.infos f.role k.states states' f.opened (owed_by_all sights) k.counts f.roles f.counts (λ x. ((leaves x).reads, (leaves x).writes))) in
      record {
        sum = c.sum;
        blank = c.blank;
        main = c.main;
        opened_is = c.opened_is;
        open_start = λ x q xis h off strong. elim (hung_now x h) [
          | inl here ↦
              let one : r ≡ q = let z : Some r ≡ Some q = sym is ∙ ap (λ (u : ℕ). f.role u) (sym here) ∙ xis in cc in
              subst (λ (z : ℕ). stands q.mode (states' z) ≡ true) (sym here)
              (subst (λ (u : Role). stands u.mode (states' e) ≡ true) one (starts (ap (λ (u : Role). u.counts) one ∙ off) (ap (λ (u : Role). u.strong) one ∙ strong)))
          | inr old ↦ c.open_start x q xis old off strong
        ];
        strong = c.strong;
      }

  pub link_field : FieldAt P main first is_job n net' f.gave f.role k' sights'
  link_field =
      record {
        field = record {
          net = net';
          gave = f.gave;
          role = f.role;
          opened = f.opened;
          state = f.state;
          words = words;
          gave_hangs = λ x h. still_hung x (f.gave_hangs x h);
          unused = f.unused;
          roles = hung_roles f.net net' e f.words.flow.words.shaped adds f.role k.infos f.roles r is j p path told hanging;
          filed = hung_filed f.net net' e f.words.flow.words.shaped adds f.role k.infos f.roles r is j p path told hanging f.state f.filed;
          given = record {
            cell = f.given.cell;
            own = f.given.own;
            back = λ x c q xis site h. elim (f.given.back x c q xis site h) [ inl g ↦ inl g | inr g ↦ inr (joined_forth sights id v w at same.joined x g) ];
          };
          counts = counts_now;
          cells = f.cells;
          planned = λ x q xis. elim (f.planned x q xis) [ inl u ↦ inl u | inr m ↦ inr (making_on sights id v w at same.makes q.task m) ];
          somewhere = λ q a u num h. somewhere_on q a u.body (f.somewhere q a u num h);
          borne = λ i x sits m b has.
              let y = before i x sits in
              let g = f.borne i y.0 y.1 m b (ap (λ (z : List (Bearing S)). get_elem? z m) (sym y.2) ∙ has) in
              record { number = g.number; task = g.task; at_ = g.at_; body = g.body; ready = g.ready; last = last_on b.path b.last g.last };
          made = λ i x sits a am.
              let y = before i x sits in
              let g = f.made i y.0 y.1 a (subst (λ (l : List Making). Among a l) y.3 am) in
              record {
                creator = g.creator;
                place = g.place;
                held = ap (λ (z : List (Bearing S)). get_elem? z g.place) y.2 ∙ g.held;
                by = g.by;
                order = g.order;
                act = g.act;
                closed = g.closed;
                own = g.own;
                access = g.access;
                job = put_on (new_task P g.creator.body g.order).body a g.job;
              };
          left = λ x q xis l. f.left x q xis (sym (leaves x).left ∙ l);
          numbered = λ x c q xis h site. elim (hung_now x h) [
            | inl here ↦
                let one : r ≡ q = let z : Some r ≡ Some q = sym is ∙ ap (λ (u : ℕ). f.role u) (sym here) ∙ xis in cc in
                ap (λ (z : ℕ). k.cell_of z) here ∙ cell c (ap (λ (u : Role). u.site) one ∙ site)
            | inr old ↦ f.numbered x c q xis old site
          ];
          loaded = λ i x sits a am.
              let y = before i x sits in
              let g = f.loaded i y.0 y.1 a (subst (λ (l : List Noted). Among a l) y.5 am) in
              record { bearing = g.bearing; place = g.place; held = ap (λ (z : List (Bearing S)). get_elem? z g.place) y.2 ∙ g.held; number = g.number; cell = g.cell; op = g.op; operand = g.operand; act = g.act; value = g.value };
          joined = λ i x sits z am. elim (at_set sights id i w x sits) [
            | inl h ↦ subst (λ (u : Sight S). Has (record { entry = z; flag = 0 }) u.words.held) h.1 (joined_still z (subst (λ (l : List ℕ). Among z l) same.joined (subst (λ (u : Sight S). Among z u.joined) (sym h.1) am)))
            | inr h ↦ f.joined i x h.1 z am
          ];
          joined_given = λ i x sits z am. let y = before i x sits in f.joined_given i y.0 y.1 z (subst (λ (l : List ℕ). Among z l) y.6 am);
          ready = λ i x sits q am. let y = before i x sits in f.ready i y.0 y.1 q (subst (λ (l : List ℕ). Among q l) y.4 am);
          seen = λ i x sits a am. let y = before i x sits in grown_on a.state (k.states a.entry) (states' a.entry) (f.seen i y.0 y.1 a (subst (λ (l : List Seen). Among a l) y.7 am)) (leaves a.entry).grown;
          still = λ i x sits a am.
              let y = before i x sits in
              let g = f.still i y.0 y.1 a (subst (λ (l : List Fixed). Among a l) y.8 am) in
              record {
                bearing = g.bearing;
                place = g.place;
                held = ap (λ (z : List (Bearing S)). get_elem? z g.place) y.2 ∙ g.held;
                it = g.it;
                is = g.is;
                path = g.path;
                left = (leaves a.entry).left ∙ g.left;
                given = λ other. (leaves a.entry).given ∙ g.given other;
                value = g.value;
              };
          setting = f.setting;
          reached = f.reached;
        };
        same_net = refl;
        same_gave = refl;
        same_role = refl;
      }

-- what a link behind a sibling or below a parent tells of the words
module _ {S J : Type 0} (P : Program S) (main : Start S) (first : List ℕ) (is_job : Telling S J) (n : ℕ) (k : Parts J) (sights : List (Sight S)) (f : Field P main first is_job n k sights)
    (id : ℕ) (v w : Sight S) (at : Sits sights id v) (net' : Net) (states' : ℕ → EntryState) (o e : ℕ) (d : Links n f.net net' k.states states' k.infos o e v.words w.words) where
  pub link_words : Kept n net' f.gave states' k.infos (words_of (set sights id w))
  link_words = subst (λ (z : List View). Kept n net' f.gave states' k.infos z) (sym (words_set sights id w))
      (links_kept n f.net net' f.gave k.states states' k.infos (words_of sights) id v.words w.words o e f.words (at_words sights id v at) d)

  pub link_leaves : (x : ℕ) → LeavesFlags (k.states x) (states' x)
  link_leaves x = elim (same_number x o) [
    | inl q ↦ subst (λ (z : ℕ). LeavesFlags (k.states z) (states' z)) (sym q) (linking_leaves net' k.states states' o e d.links)
    | inr ne ↦ subst (λ (z : EntryState). LeavesFlags (k.states x) z) (sym (d.others x ne)) (leaves_same (k.states x))
  ]

  pub link_joined : (z : ℕ) → Among z v.joined → Has (record { entry = z; flag = 0 }) w.words.held
  link_joined z among = nothing (subst (λ (l : List Message). Has (record { entry = z; flag = 0 }) l) d.empty (f.joined id v at z among))
    where
      nothing : {A : Type 0} → Has (record { entry = z; flag = 0 }) [] → A
      nothing h = elim h [ ]

-- where a new entry hangs is told by the job's last children
module _ {S J : Type 0} (P : Program S) (main : Start S) (first : List ℕ) (is_job : Telling S J) (n : ℕ) (k : Parts J) (sights : List (Sight S)) (f : Field P main first is_job n k sights)
    (id : ℕ) (v : Sight S) (at : Sits sights id v) (mk : Making) (among : Among mk v.makes) (e : ℕ) (r : Role) (is : f.role e ≡ Some r) (task : r.task ≡ mk.task) (loose : f.net.place e ≡ apart) where
  abbrev g : IsMade P is_job k f.net f.role f.opened v mk
  g = f.made id v at mk among

  abbrev b : Bearing S
  b = g.creator

  abbrev mine : IsBorne f.state sights f.net f.role b
  mine = f.borne id v at g.place b g.held

  head_tail : (i j : ℕ) (a c : List ℕ) → i ∷ a ≡ j ∷ c → (i ≡ j) × (a ≡ c)
  head_tail i j a c h = (cc, cc)

  -- a task of that number has the path of the new one
  path_of : (x : ℕ) (q : Role) → f.role x ≡ Some q → q.task ≡ mk.task → q.path ≡ created_now P b.body ∷ b.path
  path_of x q xis same =
      let num = f.roles.number x q xis in
      let o = g.own in
      let one : num.0 ≡ o.0 = let z : Some num.0 ≡ Some o.0 = sym num.1 ∙ ap (λ (y : ℕ). f.role y) same ∙ o.1 in cc in
      sym num.2 ∙ ap (λ (y : Role). y.path) one ∙ o.2

  pub new_path : r.path ≡ created_now P b.body ∷ b.path
  new_path = path_of e r is task

  -- nothing of the new task hangs on this site
  not_mine : (x : ℕ) (q : Role) → f.role x ≡ Some q → f.net.place x ≢ apart → q.site ≡ r.site → q.task ≢ mk.task
  not_mine x q xis h site same =
      let one : x ≡ e = f.roles.one x e q r xis is (path_of x q xis same ∙ sym new_path) site in
      h (ap (λ (z : ℕ). f.net.place z) one ∙ loose)

  -- a child of the creator that hangs and is not this task's was made before
  settled : (x : ℕ) (q : Role) (i : ℕ) → f.role x ≡ Some q → q.path ≡ i ∷ b.path → q.task ≢ mk.task → (IsMaking sights q.task → ⊥) × (i < created_now P b.body)
  settled x q i xis path ne = elim (f.planned x q xis) [
    | inl u ↦ (not_making, below u.0 (subst (λ (z : List ℕ). At f.state z u.0) path u.1))
    | inr m ↦ absurd (not_making m)
  ]
    where
      not_making : IsMaking sights q.task → ⊥
      not_making (is_making y s sits a am num) =
          let m = f.made y s sits a am in
          let o = m.own in
          let num' = f.roles.number x q xis in
          let one : num'.0 ≡ o.0 = let z : Some num'.0 ≡ Some o.0 = sym num'.1 ∙ ap (λ (z : ℕ). f.role z) (sym num) ∙ o.1 in cc in
          let tails = head_tail i (created_now P m.creator.body) b.path m.creator.path (sym path ∙ sym num'.2 ∙ ap (λ (z : Role). z.path) one ∙ o.2) in
          let holder = one_holder P main first is_job n k sights f id y g.place m.place v s b m.creator at g.held sits m.held tails.1 in
          let seat : s ≡ v = maybe.some-injective s v (sym sits ∙ ap (λ (z : ℕ). get_elem? sights z) (sym holder.0) ∙ at) in
          let creator : m.creator ≡ b = maybe.some-injective m.creator b (sym (subst (λ (z : Sight S). Bears z m.place m.creator) seat m.held) ∙ ap (λ (z : ℕ). get_elem? v.bears z) (sym holder.1) ∙ g.held) in
          let o2 = g.own in
          let same_path : q.path ≡ created_now P b.body ∷ b.path = sym num'.2 ∙ ap (λ (z : Role). z.path) one ∙ o.2 ∙ ap (λ (z : Bearing S). created_now P z.body ∷ z.path) creator in
          ne (f.roles.one q.task mk.task num'.0 o2.0 num'.1 o2.1 (num'.2 ∙ same_path ∙ sym o2.2) (num'.3 ∙ sym o2.3))

      below : (u : Task S) → At f.state (i ∷ b.path) u → i < created_now P b.body
      below u h =
          let x = (agrees P main first f.state f.setting f.reached).made.child i b.path u h in
          let same : x.creator.body ≡ b.body = ap (λ (z : Task S). z.body) (at_same f.state b.path x.creator mine.task x.at_ mine.at_) ∙ mine.body in
          let happened : IsSuffix (x.answer ∷ x.past) b.body.found = subst (λ (z : Body S). IsSuffix (x.answer ∷ x.past) z.found) same x.happened in
          let num : stage_created P b.body.start x.past ≡ i = subst (λ (z : Body S). stage_created P z.start x.past ≡ i) same x.number in
          let act : stage_act P b.body.start x.past ≡ Created x.order false = subst (λ (z : Body S). stage_act P z.start x.past ≡ Created x.order false) same x.act in
          let one = creation_counts P b.body.start x.answer x.past x.order act in
          let less = created_grows P b.body.start happened in
          omega (arith, one, less, num)

  -- behind the last child there
  pub hangs_behind : (net' : Net) (o : ℕ) → b.last r.site ≡ Some o → net'.place e ≡ after o → Hanging f.net net' f.role e r (created_now P b.body) b.path
  hangs_behind net' o last at_ =
      let a = mine.last.some r.site o last in
      behind o a.0 a.1 at_ a.2 a.3 a.4 a.5 (settled o a.0 a.1 a.2 a.4 (not_mine o a.0 a.2 a.3 a.5)).1
      (λ x q i xis h path site. a.6 x q i xis h path site (settled x q i xis path (not_mine x q xis h site)).0)

  -- or as the first
  none_there : b.last r.site ≡ None → (x : ℕ) (q : Role) (i : ℕ) → f.role x ≡ Some q → f.net.place x ≢ apart → q.path ≡ i ∷ b.path → q.site ≡ r.site → ⊥
  none_there last x q i xis h path site = (settled x q i xis path (not_mine x q xis h site)).0 (mine.last.none r.site last x q i xis h path site)

  pub hangs_under : (net' : Net) → b.last r.site ≡ None → (up : Filed f.net f.role b.path r.site) → net'.place e ≡ first_place up.entry → Hanging f.net net' f.role e r (created_now P b.body) b.path
  hangs_under net' last up at_ = under up.entry up.it at_ up.is up.hangs up.path up.site (none_there last)

  pub hangs_first : (net' : Net) → b.last r.site ≡ None → b.path ≡ [] → net'.place e ≡ top → Hanging f.net net' f.role e r (created_now P b.body) b.path
  hangs_first net' last nil at_ = first_top at_ nil (none_there last)
