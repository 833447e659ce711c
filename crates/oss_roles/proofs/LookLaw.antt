-- What a seat reads: a count of 0 tells that the task is ready, and a word what stands there. No move.
use Rattle.std.proofs.Common.{◌≡◌, ◌⊎◌, inl, inr, sym, subst, refl, ◌∙◌, ap, ℕ, List, ◌∷◌, set, Some, None}
use lib.ListN.{get_elem?}
use Rattle.atomic_table.proofs.Lists.{at_set}
use Rattle.oss_model.specs.Bodies.{Program, Start}
use Rattle.oss_model.specs.Machine.{Task, At, IsReady}
use Rattle.oss_words.specs.Grown.{Grown}
use Rattle.oss_words.specs.Members.{Has}
use Rattle.oss_words.specs.Rule.{Kept}
use Rattle.oss_words.specs.Views.{View, Seen, Among, among_first, among_later}
use Rattle.oss_words.proofs.StillLemmas.{grown_same}
use Rattle.oss_roles.specs.Field.{Field, FieldAt, Parts, Sits, Bears, owed_by_all, IsNumberOf, IsStill}
use Rattle.oss_roles.specs.Roles.{Role}
use Rattle.oss_roles.specs.Sights.{Bearing, Noted, Fixed, Sight, Telling}
use Rattle.oss_roles.proofs.JobLaw.{counts_owed, owed_same, words_same}
use Rattle.oss_roles.proofs.OtherLaw.{same_bodies, other_field, given_still}
use Rattle.oss_roles.proofs.WaitLaw.{ready_of}
use Rattle.oss_roles.specs.Steps.{SameButRead}

module _ {S J : Type 0} (P : Program S) (main : Start S) (first : List ℕ) (is_job : Telling S J) (n : ℕ) (k : Parts J) (sights : List (Sight S)) (f : Field P main first is_job n k sights)
    (id : ℕ) (v w : Sight S) (at : Sits sights id v) (same : SameButRead v w) where
  abbrev sights' : List (Sight S)
  sights' = set sights id w

  abbrev Ready : ℕ → Type 0
  Ready t = (p : List ℕ) × (u : Task S) × IsNumberOf f.role t p × At f.state p u × IsReady f.state p u.body.start.context

  look : ((t : ℕ) → Among t w.ready → Ready t) → ((a : Seen) → Among a w.seen → Grown a.state (k.states a.entry)) → ((a : Fixed) → Among a w.still → IsStill f.role k.states k.values w a)
      → FieldAt P main first is_job n f.net f.gave f.role (record k { states = k.states; counts = k.counts; cells = k.cells }) sights'
  look ready seen still =
      other_field P main first is_job n k sights f id v w at same.bears same.makes k.states k.counts k.cells f.state (same_bodies P f.state) f.gave (record {
        words = subst (λ (z : List View). Kept n f.net f.gave k.states k.infos z) (sym (words_same sights id v w at same.words)) f.words;
        gave_hangs = f.gave_hangs;
        given = given_still P main first is_job n k sights f id v w at same.bears same.makes k.states k.counts k.cells f.state (same_bodies P f.state) refl same.joined;
        counts = counts_owed f.state n f.net f.role k.states f.opened (owed_by_all sights) (owed_by_all sights') k.counts (owed_same sights id v w at same.owes) f.counts;
        cells = f.cells;
        reached = f.reached;
        left = λ e. refl;
        grown = λ e. grown_same (k.states e) (k.states e) refl;
        alone = λ j y sits b i has cell op z act. refl;
        loaded = λ a among. subst (λ (z : List Noted). Among a z) same.loaded among;
        ready = ready;
        seen = seen;
        still = λ j y sits a among. elim (at_set sights id j w y sits) [
          | inl h ↦ subst (λ (z : Sight S). IsStill f.role k.states k.values z a) h.1 (still a (subst (λ (z : Sight S). Among a z.still) (sym h.1) among))
          | inr h ↦ f.still j y h.1 a among
        ];
        joined = λ j y sits e among. elim (at_set sights id j w y sits) [
          | inl h ↦ subst (λ (z : Sight S). Has (record { entry = e; flag = 0 }) z.words.held) h.1 (subst (λ (z : View). Has (record { entry = e; flag = 0 }) z.held) (sym same.words) (f.joined id v at e (subst (λ (l : List ℕ). Among e l) same.joined (subst (λ (z : Sight S). Among e z.joined) (sym h.1) among))))
          | inr h ↦ f.joined j y h.1 e among
        ];
        joined_given = λ e among. f.joined_given id v at e (subst (λ (l : List ℕ). Among e l) same.joined among);
      })

  mine_still : (a : Fixed) → IsStill f.role k.states k.values v a → IsStill f.role k.states k.values w a
  mine_still a g = record { bearing = g.bearing; place = g.place; held = ap (λ (z : List (Bearing S)). get_elem? z g.place) same.bears ∙ g.held; it = g.it; is = g.is; path = g.path; left = g.left; given = g.given; value = g.value }

  -- the count of a task was read, and it is 0
  pub ready_field : (t : ℕ) (p : List ℕ) → IsNumberOf f.role t p → k.counts t ≡ 0 → w.ready ≡ t ∷ v.ready → w.seen ≡ v.seen → w.still ≡ v.still → FieldAt P main first is_job n f.net f.gave f.role (record k { states = k.states; counts = k.counts; cells = k.cells }) sights'
  ready_field t p number spent ready seen still =
      look (λ q among. now q (subst (λ (z : List ℕ). Among q z) ready among)) (λ a among. f.seen id v at a (subst (λ (z : List Seen). Among a z) seen among)) (λ a among. mine_still a (f.still id v at a (subst (λ (z : List Fixed). Among a z) still among)))
    where
      now : (q : ℕ) → Among q (t ∷ v.ready) → Ready q
      now q (among_first e) = let r = ready_of P main first is_job n k sights f t p number spent in subst Ready e (p, r.0, number, r.1, r.2)
      now q (among_later h) = f.ready id v at q h

  -- a state word was read, of an entry of a job that the seat holds or of another
  pub read_field : (e : ℕ) → w.ready ≡ v.ready → w.seen ≡ record { entry = e; state = k.states e } ∷ v.seen
      → (w.still ≡ v.still) ⊎ ((i : ℕ) × (b : Bearing S) × Bears v i b × (r : Role) × (f.role e ≡ Some r) × (r.path ≡ b.path) × (w.still ≡ record { entry = e; state = k.states e; value = None } ∷ v.still))
      → FieldAt P main first is_job n f.net f.gave f.role (record k { states = k.states; counts = k.counts; cells = k.cells }) sights'
  read_field e ready seen still =
      look (λ q among. f.ready id v at q (subst (λ (z : List ℕ). Among q z) ready among)) (λ a among. seen_now a (subst (λ (z : List Seen). Among a z) seen among)) still_now
    where
      seen_now : (a : Seen) → Among a (record { entry = e; state = k.states e } ∷ v.seen) → Grown a.state (k.states a.entry)
      seen_now a (among_first q) = subst (λ (z : Seen). Grown z.state (k.states z.entry)) q (grown_same (k.states e) (k.states e) refl)
      seen_now a (among_later h) = f.seen id v at a h

      still_now : (a : Fixed) → Among a w.still → IsStill f.role k.states k.values w a
      still_now a among = elim still [
        | inl q ↦ mine_still a (f.still id v at a (subst (λ (z : List Fixed). Among a z) q among))
        | inr x ↦ more x.0 x.1 x.2 x.3 x.4 x.5 a (subst (λ (z : List Fixed). Among a z) x.6 among)
      ]
        where
          none_some : {A : Type 0} (x : A) → None ≡ Some x → ⊥
          none_some x h = cc

          more : (i : ℕ) (b : Bearing S) → Bears v i b → (r : Role) → f.role e ≡ Some r → r.path ≡ b.path → (a : Fixed) → Among a (record { entry = e; state = k.states e; value = None } ∷ v.still) → IsStill f.role k.states k.values w a
          more i b has r is path a (among_first q) =
              subst (λ (z : Fixed). IsStill f.role k.states k.values w z) q
              (record { bearing = b; place = i; held = ap (λ (z : List (Bearing S)). get_elem? z i) same.bears ∙ has; it = r; is = is; path = path; left = refl; given = λ other. refl; value = λ z h. absurd (none_some z h) })
          more i b has r is path a (among_later h) = mine_still a (f.still id v at a h)
