-- What the acts of the run so far tell is so at its stage.
use Rattle.std.proofs.Common.{◌≡◌, ℕ, ◌⊎◌, inl, inr, refl, sym, subst, ap, ◌∙◌, List, [], ◌∷◌, arith, Bool, true, false}
use Rattle.std.specs.Prelude.{◌==◌}
use Rattle.std.proofs.lemmas.Bool.Decides.{nat_tests}
use Rattle.oss_model.specs.Order.{IsSuffix, whole, longer}
use Rattle.oss_model.specs.Bodies.{Order, Program, Act, Start, stage_act, Touches, load, store, folded}
use Rattle.oss_model.specs.Bodies.Act.{Created, Awaited, Waited, WaitedOn, Over, Ticked, Load, Store, Folded, Releases, Printed, Ended, Fault}
use Rattle.oss_model.specs.Context.{in_clauses}
use Rattle.oss_model.specs.Machine.{Task, At}
use Rattle.oss_model.specs.Moves.{act_now, found_by, after_answer, opening}
use Rattle.oss_model.specs.Memory.{Event, Happened}
use Rattle.oss_model.specs.Agreement.{MainStarts}
use Rattle.oss_model.specs.Rights.{Touch, Reads, Writes, Folds}
use Rattle.oss_model.specs.Sequence.{Running, RunsOn}
use Rattle.oss_model.proofs.MoveLemmas.{others_forth, which_path}
use Rattle.oss_model.proofs.TreeLemmas.{at_same, path_found}
use Rattle.oss_model.proofs.SequenceLemmas.{Stands, seq_event, event_back, opening_at, stands_on}
use Rattle.oss_audit.specs.Auditing.{Follows, place_in}
use Rattle.oss_audit.specs.Unused.{HasDeclared, HasTouched}
use Rattle.oss_body.specs.Acting.{acting}
use Rattle.oss_audit.specs.Trails.{Declared, Declares, Place, Touched, place_of, place_next, touches}
use Rattle.oss_audit.proofs.PlaceLemmas.{place_first}
use Rattle.oss_audit.proofs.ActingLemmas.{acting_next}

-- Touches

same_is : (m n : ℕ) → (m == n) ≡ true → m ≡ n
same_is m n h = grind (arith, nat_tests)

is_same : (n : ℕ) → (n == n) ≡ true
is_same n = grind (arith, nat_tests)

pub touch_of : {S : Type 0} (a : Act S) (c : ℕ) → touches a c ≡ true → (t : Touch) × (slot : Bool) × Touches a c t slot
touch_of {S = S} (Load d) c h = let e = same_is d c h in (Reads, false, subst (λ (x : ℕ). Touches {S = S} (Load d) x Reads false) e load)
touch_of {S = S} (Store d v) c h = let e = same_is d c h in (Writes, false, subst (λ (x : ℕ). Touches {S = S} (Store d v) x Writes false) e store)
touch_of {S = S} (Folded d op v b) c h = let e = same_is d c h in (Folds op, b, subst (λ (x : ℕ). Touches {S = S} (Folded d op v b) x (Folds op) b) e folded)
touch_of Ticked c h = cc
touch_of (Created o b) c h = cc
touch_of Awaited c h = cc
touch_of Waited c h = cc
touch_of (WaitedOn named) c h = cc
touch_of (Releases clauses b) c h = cc
touch_of (Printed key text) c h = cc
touch_of Ended c h = cc
touch_of (Fault kind line key) c h = cc
touch_of Over c h = cc

pub of_touch : {S : Type 0} {a : Act S} {c : ℕ} {t : Touch} {slot : Bool} → Touches a c t slot → touches a c ≡ true
of_touch (load {c = c}) = is_same c
of_touch (store {c = c}) = is_same c
of_touch (folded {c = c}) = is_same c

-- Creations

-- an act that creates
pub record Creates {S : Type 0} (a : Act S) (at : Place) (q : List ℕ) (c : ℕ) : Type 0 where
  pub order : Order S
  pub included : Bool
  pub is : a ≡ Created order included
  pub path : q ≡ at.created ∷ at.path
  pub named : in_clauses order.clauses c ≡ true

pub creation_of : {S : Type 0} (a : Act S) (at : Place) (q : List ℕ) (c : ℕ) → Declares a at q c → Creates a at q c
creation_of (Created o b) at q c h = record { order = o; included = b; is = refl; path = h.0; named = h.1 }
creation_of (Load d) at q c h = absurd h
creation_of (Store d v) at q c h = absurd h
creation_of (Folded d op v b) at q c h = absurd h
creation_of Ticked at q c h = absurd h
creation_of Awaited at q c h = absurd h
creation_of Waited at q c h = absurd h
creation_of (WaitedOn named) at q c h = absurd h
creation_of (Releases clauses b) at q c h = absurd h
creation_of (Printed key text) at q c h = absurd h
creation_of Ended at q c h = absurd h
creation_of (Fault kind line key) at q c h = absurd h
creation_of Over at q c h = absurd h

pub of_creation : {S : Type 0} (a : Act S) (at : Place) (q : List ℕ) (c : ℕ) (o : Order S) (included : Bool) → a ≡ Created o included → q ≡ at.created ∷ at.path → in_clauses o.clauses c ≡ true → Declares a at q c
of_creation a at q c o included e path named = subst (λ x. Declares x at q c) (sym e) (path, named)

module _ {S : Type 0} (P : Program S) where
  module _ (main : Start S) (ms : MainStarts main) (cells : List ℕ) where
    -- at the beginning nothing has happened
    pub follows_first : Follows P (record { state = opening main cells; active = []; printed = [] }) []
    follows_first =
        record {
          place = λ t h. start t (opening_at main cells [] t ms.path h).1;
          touched = λ q c h. absurd h;
          all_touched = λ q c h. none h.event h.happened;
          declared = λ q c h. absurd h;
          all_declared = λ q c h. none h.event h.happened;
        }
      where
        nothing : (e : Event S) → IsSuffix (e.answer ∷ e.past) [] → ⊥
        nothing e h = elim h [ ]

        none : (e : Event S) → Happened (opening main cells) e → ⊥
        none e g = nothing e (subst (λ (x : Task S). IsSuffix (e.answer ∷ e.past) x.body.found) (opening_at main cells e.start.path g.task ms.path g.at_).1 g.found)

        start : (t : Task S) → t ≡ record { body = record { start = main; found = [] }; given = [] } → place_in (acting P t.body.start t.body.found) ≡ record { path = []; created = 0 }
        start t e = ap (λ (x : Task S). place_in (acting P x.body.start x.body.found)) e ∙ place_first P main ∙ (λ i. record { path = ms.path i; created = ms.created i })

  module _ (main : Start S) (ms : MainStarts main) (z y : Running S) (st : Stands P main z) (r : RunsOn P z y) where
    -- what has happened stays
    pub stays_happened : (e : Event S) → Happened z.state e → Happened y.state e
    stays_happened e h = go (which_path e.start.path z.active)
      where
        go : (e.start.path ≡ z.active) ⊎ (e.start.path ≡ z.active → ⊥) → Happened y.state e
        go (inl q) =
            let k = subst (λ (p : List ℕ). At z.state p h.task) q h.at_ in
            let t : h.task ≡ r.task = at_same z.state z.active h.task r.task k r.at_ in
            record {
              task = after_answer (found_by (act_now P r.task.body) z.state.cells) r.task;
              at_ = subst (λ (p : List ℕ). At y.state p (after_answer (found_by (act_now P r.task.body) z.state.cells) r.task)) (sym q) r.tasks.own;
              start = ap (λ (x : Task S). x.body.start) (sym t) ∙ h.start;
              found = longer (subst (λ (x : Task S). IsSuffix (e.answer ∷ e.past) x.body.found) t h.found);
            }
        go (inr ne) = record { task = h.task; at_ = others_forth P main z.state y.state z.active r.task (found_by (act_now P r.task.body) z.state.cells) st.made r.at_ r.goes r.tasks e.start.path h.task ne h.at_; start = h.start; found = h.found }

    abbrev pub ev : Event S
    ev = seq_event P main z y ms st r

    pub ev_happened : Happened y.state ev
    ev_happened =
        let q = path_found z.state.tasks z.active r.task r.at_ in
        record { task = after_answer (found_by (act_now P r.task.body) z.state.cells) r.task; at_ = subst (λ (p : List ℕ). At y.state p (after_answer (found_by (act_now P r.task.body) z.state.cells) r.task)) (sym q) r.tasks.own; start = refl; found = whole }

    module _ (trail : List (Act S)) (f : Follows P z trail) where
      here : place_in (acting P r.task.body.start r.task.body.found) ≡ place_of trail
      here = f.place r.task r.at_

      touched_next : (q : List ℕ) (c : ℕ) → Touched (act_now P r.task.body ∷ trail) q c → HasTouched P y.state q c
      touched_next q c (inl (h, b)) =
          let x = touch_of (act_now P r.task.body) c h in
          record { event = ev; happened = ev_happened; touch = x.0; slot = x.1; touches = x.2; below = subst (λ (p : Place). IsSuffix q p.path) (sym here) b }
      touched_next q c (inr h) =
          let t = f.touched q c h in
          record { event = t.event; happened = stays_happened t.event t.happened; touch = t.touch; slot = t.slot; touches = t.touches; below = t.below }

      all_touched_next : (q : List ℕ) (c : ℕ) → HasTouched P y.state q c → Touched (act_now P r.task.body ∷ trail) q c
      all_touched_next q c h = go (event_back P main z y ms st r h.event h.happened)
        where
          go : Happened z.state h.event ⊎ (h.event ≡ ev) → Touched (act_now P r.task.body ∷ trail) q c
          go (inl k) = inr (f.all_touched q c (record { event = h.event; happened = k; touch = h.touch; slot = h.slot; touches = h.touches; below = h.below }))
          go (inr e) = inl (
            of_touch (subst (λ (g : Event S). Touches (stage_act P g.start g.past) c h.touch h.slot) e h.touches),
            subst (λ (p : Place). IsSuffix q p.path) here (subst (λ (g : Event S). IsSuffix q (acting P g.start g.past).path) e h.below),
          )

      declared_next : (q : List ℕ) (c : ℕ) → Declared (act_now P r.task.body ∷ trail) q c → HasDeclared P y.state q c
      declared_next q c (inl h) =
          let x = creation_of (act_now P r.task.body) (place_of trail) q c h in
          record { event = ev; happened = ev_happened; order = x.order; included = x.included; creates = x.is; path = subst (λ (p : Place). q ≡ p.created ∷ p.path) (sym here) x.path; named = x.named }
      declared_next q c (inr h) =
          let t = f.declared q c h in
          record { event = t.event; happened = stays_happened t.event t.happened; order = t.order; included = t.included; creates = t.creates; path = t.path; named = t.named }

      all_declared_next : (q : List ℕ) (c : ℕ) → HasDeclared P y.state q c → Declared (act_now P r.task.body ∷ trail) q c
      all_declared_next q c h = go (event_back P main z y ms st r h.event h.happened)
        where
          go : Happened z.state h.event ⊎ (h.event ≡ ev) → Declared (act_now P r.task.body ∷ trail) q c
          go (inl k) = inr (f.all_declared q c (record { event = h.event; happened = k; order = h.order; included = h.included; creates = h.creates; path = h.path; named = h.named }))
          go (inr e) =
              inl (of_creation (act_now P r.task.body) (place_of trail) q c h.order h.included
              (subst (λ (g : Event S). stage_act P g.start g.past ≡ Created h.order h.included) e h.creates)
              (subst (λ (p : Place). q ≡ p.created ∷ p.path) here (subst (λ (g : Event S). q ≡ (acting P g.start g.past).context.created ∷ (acting P g.start g.past).path) e h.path)) h.named)

      -- behind one more act
      pub follows_next : Follows P y (act_now P r.task.body ∷ trail)
      follows_next =
          record {
            place = λ u h. acting_next P main ms z y st r (stands_on P main z y ms st r).made u h ∙ ap (λ (p : Place). place_next (act_now P r.task.body) p) here;
            touched = touched_next;
            all_touched = all_touched_next;
            declared = declared_next;
            all_declared = all_declared_next;
          }
