-- What a seat has seen of the last children says that a wait is met; and a count that it finds to be 0 that the task is ready.
use Rattle.std.proofs.Common.{◌≡◌, ◌≢◌, ◌⊎◌, inl, inr, sym, subst, refl, ◌∙◌, ap, ℕ, ◌<◌, ◌+◌, arith, List, ◌∷◌, Some}
use Rattle.oss_model.specs.Bodies.{Program, Act, Start}
use Rattle.oss_model.specs.Bodies.Act.{Awaited, Waited, WaitedOn}
use Rattle.oss_model.specs.Forest.{IsDone}
use Rattle.oss_model.specs.Machine.{Task, At, accesses, IsReady, IsComplete, IsWaitMet}
use Rattle.oss_model.specs.Moves.{WaitClause}
use Rattle.oss_words.specs.Grown.{Grown}
use Rattle.oss_words.specs.Net.{forest}
use Rattle.oss_words.specs.Views.{Seen, Among}
use Rattle.oss_roles.specs.Field.{Field, Parts, Sits, Bears, IsMaking, IsNumberOf, of_main, of_entry, AreLast, IsJoined, owed_by_all}
use Rattle.oss_roles.specs.Passing.{AllDone, no_child, last_done, NewestDone, no_task, newest_done, MayPass}
use Rattle.oss_roles.specs.Roles.{Role, Site, itself, on, Filed}
use Rattle.oss_roles.specs.Sights.{Bearing, Sight, Telling}
use Rattle.oss_roles.proofs.CarryLemmas.{done_carries, complete_carries, siblings_done}
use Rattle.oss_roles.proofs.MoveLaw.{agrees}
use Rattle.oss_roles.proofs.ReadyLemmas.{counted_ready}

module _ {S J : Type 0} (P : Program S) (main : Start S) (first : List ℕ) (is_job : Telling S J) (n : ℕ) (k : Parts J) (sights : List (Sight S)) (f : Field P main first is_job n k sights) where
  -- a task whose count is 0 is there and ready
  pub ready_of : (t : ℕ) (p : List ℕ) → IsNumberOf f.role t p → k.counts t ≡ 0 → (u : Task S) × At f.state p u × IsReady f.state p u.body.start.context
  ready_of t p of_main spent = let m = (agrees P main first f.state f.setting f.reached).made in (m.main_task, m.main_at, tt)
  ready_of t p (of_entry q is at path) spent =
      let r = counted_ready P main f.state (agrees P main first f.state f.setting f.reached).made n f.net f.gave k.states k.infos f.role (IsJoined sights) f.roles f.filed f.given f.words.flow.words.inside f.words.truth f.opened (owed_by_all sights) k.counts f.counts t q is at spent in
      (r.0, subst (λ (z : List ℕ). At f.state z r.0) path r.1, subst (λ (z : List ℕ). IsReady f.state z r.0.body.start.context) path r.2)

  module _ (id : ℕ) (v : Sight S) (at : Sits sights id v) (i : ℕ) (b : Bearing S) (has : Bears v i b) (free : (q : ℕ) → IsMaking sights q → (e : ℕ) (r : Role) (j : ℕ) → f.role e ≡ Some r → r.path ≡ j ∷ b.path → r.task ≢ q) where
    last : AreLast sights f.net f.role b.path b.last
    last = (f.borne id v at i b has).last

    -- of a task that is not being made
    settled : (e : ℕ) (r : Role) (j : ℕ) → f.role e ≡ Some r → r.path ≡ j ∷ b.path → IsMaking sights r.task → ⊥
    settled e r j is path m = free r.task m e r j is path refl

    grown : (x : Seen) → Among x v.seen → Grown x.state (k.states x.entry)
    grown x among = f.seen id v at x among

    -- all children there are done
    all_done : (y : Site) → AllDone v b y → (j : ℕ) (x : Filed f.net f.role (j ∷ b.path) y) → IsDone (forest f.net f.gave) x.entry
    all_done y (no_child none) j x = absurd (settled x.entry x.it j x.is x.path (last.none y none x.entry x.it j x.is x.hangs x.path x.site))
    all_done y (last_done z is among clear done) j x =
        let l = last.some y z.entry is in
        let g = grown z among in
        let inside = f.words.flow.words.inside z.entry l.3 in
        let holds = f.words.truth z.entry inside l.3 in
        let order : (j ≡ l.1) ⊎ (j < l.1) = elim (l.6 x.entry x.it j x.is x.hangs x.path x.site (settled x.entry x.it j x.is x.path)) [
          | inl e ↦ inl (same_number x.it l.0 (let u : Some x.it ≡ Some l.0 = sym x.is ∙ ap (λ (o : ℕ). f.role o) e ∙ l.2 in cc) x.path l.4)
          | inr less ↦ inr less
        ] in
        let x' : Filed f.net f.role (j ∷ b.path) l.0.site = record { entry = x.entry; it = x.it; is = x.is; hangs = x.hangs; path = x.path; site = x.site ∙ sym l.5 } in
        siblings_done P main f.state (agrees P main first f.state f.setting f.reached).made f.net f.gave k.infos f.role (IsJoined sights) f.roles f.filed f.given z.entry l.0 l.1 b.path l.2 l.3 l.4 (holds.done (g.done done)) (holds.clear (g.clear clear)) j order x'
      where
        same_number : (q r : Role) → q ≡ r → {u w : ℕ} → q.path ≡ u ∷ b.path → r.path ≡ w ∷ b.path → u ≡ w
        same_number q r e {u} {w} h g = let z : u ∷ b.path ≡ w ∷ b.path = sym h ∙ ap (λ (o : Role). o.path) e ∙ g in cc

    complete_child : AllDone v b itself → (j : ℕ) (u : Task S) → At f.state (j ∷ b.path) u → IsComplete P f.state (j ∷ b.path)
    complete_child d j u h =
        let x = f.filed.task j b.path u h in
        subst (λ (z : List ℕ). IsComplete P f.state z) x.path (complete_carries P main f.state (agrees P main first f.state f.setting f.reached).made f.net f.gave k.infos f.role (IsJoined sights) f.roles f.filed f.given x.entry x.it x.is x.hangs x.site (all_done itself d j x))

    -- the clause wait of the job's task is met
    pub clause_met : AllDone v b itself → (t : Task S) → WaitClause P f.state b.path t
    clause_met d t = λ wait j u h. complete_child d j u h

    -- a waiting act is passed
    pub wait_passes : (created : ℕ) (act : Act S) → ((j : ℕ) → (x : Filed f.net f.role (j ∷ b.path) itself) → j < created) → MayPass v b act → IsWaitMet P f.state b.path created act
    wait_passes created Waited less d = λ j u l h. complete_child d j u h
    wait_passes created Awaited less d = λ j u same h. newest d j u same h
      where
        newest : NewestDone v b → (j : ℕ) (u : Task S) → j + 1 ≡ created → At f.state (j ∷ b.path) u → IsComplete P f.state (j ∷ b.path)
        newest (no_task none) j u same h =
            let x = f.filed.task j b.path u h in
            absurd (settled x.entry x.it j x.is x.path (last.none itself none x.entry x.it j x.is x.hangs x.path x.site))
        newest (newest_done z is among done) j u same h =
            let x = f.filed.task j b.path u h in
            let l = last.some itself z.entry is in
            let g = grown z among in
            let holds = f.words.truth z.entry (f.words.flow.words.inside z.entry l.3) l.3 in
            let top = less l.1 (record { entry = z.entry; it = l.0; is = l.2; hangs = l.3; path = l.4; site = l.5 }) in
            elim (l.6 x.entry x.it j x.is x.hangs x.path x.site (settled x.entry x.it j x.is x.path)) [
              | inl e ↦
                  let d : IsDone (forest f.net f.gave) x.entry = subst (λ (o : ℕ). IsDone (forest f.net f.gave) o) (sym e) (holds.done (g.done done)) in
                  subst (λ (q : List ℕ). IsComplete P f.state q) x.path (complete_carries P main f.state (agrees P main first f.state f.setting f.reached).made f.net f.gave k.infos f.role (IsJoined sights) f.roles f.filed f.given x.entry x.it x.is x.hangs x.site d)
              | inr low ↦ absurd (omega (arith, low, top, same))
            ]
    wait_passes created (WaitedOn named) less d = λ j c l within a.
        let x = (f.filed.access j c b.path a).0 in
        subst (λ (z : List ℕ). IsDone (accesses f.state c) z) x.path
        (done_carries P main f.state (agrees P main first f.state f.setting f.reached).made f.net f.gave k.infos f.role (IsJoined sights) f.roles f.filed f.given c x.entry x.it x.is x.hangs x.site (all_done (on c) (d c within) j x))
    wait_passes created _ less d = tt
