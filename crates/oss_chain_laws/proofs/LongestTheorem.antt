-- Every run to the end has a longest chain of events: of each event the longest chain up to it is found along what it waits for.
use Rattle.std.proofs.Common.{◌≡◌, ◌≤◌, ℕ, ◌⊎◌, inl, inr, refl, sym, subst, ap, ◌∙◌, arith, List, [], ◌∷◌}
use Rattle.std.specs.Prelude.{reverse}
use Rattle.oss_model.specs.Order.{IsIn, here, there}
use Rattle.oss_model.specs.Bodies.{Program, Start}
use Rattle.oss_model.specs.Machine.{State}
use Rattle.oss_model.specs.History.{IsMade}
use Rattle.oss_model.proofs.SequenceLemmas.{stands}
use Rattle.oss_wave_laws.proofs.DecideLemmas.{Decided, both}
use Rattle.oss_chain_laws.specs.Chains.{Best, IsMost, IsTrail, Settled, more, no_chain, none, one, one_more, settled, ticks_in}
use Rattle.oss_chain_laws.specs.Claims.{EveryRunHasASpan}
use Rattle.oss_chain_laws.specs.Happenings.{Happening, IsEvent, WaitsFor}
use Rattle.oss_chain_laws.specs.Runs.{IsEventChain, IsLongestBy}
use Rattle.oss_chain_laws.proofs.ChainLemmas.{greatest, most_each, most_none, most_same, most_step}
use Rattle.oss_chain_laws.proofs.EventLemmas.{all_listed, happenings, is_event}
use Rattle.oss_chain_laws.proofs.ReverseLemmas.{in_reverse, no_ticks_in, ticks_reverse, twice}
use Rattle.oss_chain_laws.proofs.SettleLemmas.{every_settled}
use Rattle.oss_chain_laws.proofs.WaitDecides.{waits_for}

-- where all is in a list, what waits can be told, and no way back goes on for ever
module _ {E : Type 0} (W : E → E → Type 0) (weight : E → ℕ) (es : List E) (listed : (e f : E) → W e f → IsIn f es) (decide : (e f : E) → Decided (W e f)) where
  -- the best of those of a list that have a property, where it is known of each
  chosen : (Q : E → Type 0) (x : E) → Decided (Q x) → (Q x → (b : Best E) × IsMost W weight (λ f. f ≡ x) b) → (b : Best E) × IsMost W weight (λ f. Q x × (f ≡ x)) b
  chosen Q x (inl q) again = let r = again q in (r.0, most_same W weight (λ f. f ≡ x) (λ f. Q x × (f ≡ x)) r.0 (λ f e. (q, e)) (λ f h. h.1) r.1)
  chosen Q x (inr not_so) again = (no_chain, most_none W weight (λ f. Q x × (f ≡ x)) (λ f h. not_so h.0))

  best_of : (Q : E → Type 0) → ((f : E) → Q f → IsIn f es) → ((x : E) → (b : Best E) × IsMost W weight (λ f. Q x × (f ≡ x)) b) → (b : Best E) × IsMost W weight Q b
  best_of Q within values = (
    greatest (λ x. (values x).0) es,
    most_same W weight (λ f. (x : E) × IsIn x es × (Q x × (f ≡ x))) Q (greatest (λ x. (values x).0) es) (λ f h. subst Q (sym h.2.1) h.2.0) (λ f q. (f, within f q, (q, refl)))
        (most_each W weight (λ x f. Q x × (f ≡ x)) (λ x. (values x).0) es (λ x i. (values x).1)),
  )

  step : (e : E) → (b : Best E) × IsMost W weight (W e) b → (b : Best E) × IsMost W weight (λ f. f ≡ e) b
  step e r = (one_more weight e r.0, most_step W weight e r.0 r.1)

  -- the longest chain that ends in an event
  best_at : (e : E) → Settled W e → (b : Best E) × IsMost W weight (λ f. f ≡ e) b
  best_at e (settled down) = step e (best_of (W e) (listed e) (λ x. chosen (W e) x (decide e x) (λ w. best_at x (down x w))))

  -- and in one with a property
  pub best : (Q : E → Type 0) → ((f : E) → Q f → IsIn f es) → ((e : E) → Decided (Q e)) → ((e : E) → Settled W e) → (b : Best E) × IsMost W weight Q b
  best Q within holds settles = best_of Q within (λ x. chosen Q x (holds x) (λ q. best_at x (settles x)))

-- a relation that asks for more is settled where the other is
fewer : {E : Type 0} (V W : E → E → Type 0) → ((e f : E) → V e f → W e f) → (e : E) → Settled W e → Settled V e
fewer V W h e (settled down) = settled (λ f v. fewer V W h f (down f (h e f v)))

module _ {S : Type 0} (P : Program S) (s : State S) (weight : Happening → ℕ) where
  -- it waits for the event
  abbrev Before : Happening → Happening → Type 0
  Before e f = WaitsFor P s e f × IsEvent P s f

  trail_waits : (es : List Happening) → IsTrail Before es → IsTrail (WaitsFor P s) es
  trail_waits [] none = none
  trail_waits (e ∷ []) one = one
  trail_waits (e ∷ f ∷ es) (more w t) = more w.0 (trail_waits (f ∷ es) t)

  trail_events : (e f : Happening) (es : List Happening) → IsEvent P s f → IsTrail Before (f ∷ es) → IsIn e (f ∷ es) → IsEvent P s e
  trail_events e f es v t here = v
  trail_events e f [] v t (there i) = elim i [ ]
  trail_events e f (g ∷ es) v (more w t) (there i) = trail_events e g es w.1 t i

  events_trail : (es : List Happening) → ((e : Happening) → IsIn e es → IsEvent P s e) → IsTrail (WaitsFor P s) es → IsTrail Before es
  events_trail [] all none = none
  events_trail (e ∷ []) all one = one
  events_trail (e ∷ f ∷ es) all (more w t) = more (w, all f (there here)) (events_trail (f ∷ es) (λ g i. all g (there i)) t)

  -- the best chain that ends in an event is a longest chain of events
  module _ (b : Best Happening) (m : IsMost Before weight (IsEvent P s) b) where
    abbrev IsReached : Type 0
    IsReached = ((b.ticks ≡ 0) × (b.chain ≡ [])) ⊎ ((f : Happening) × IsEvent P s f × (es : List Happening) × (b.chain ≡ f ∷ es) × IsTrail Before (f ∷ es) × (ticks_in weight (f ∷ es) ≡ b.ticks))

    trail : IsTrail (WaitsFor P s) b.chain
    trail = go m.reached
      where
        go : IsReached → IsTrail (WaitsFor P s) b.chain
        go (inl z) = subst (λ (xs : List Happening). IsTrail (WaitsFor P s) xs) (sym z.1) none
        go (inr (f, v, es, c, t, e)) = subst (λ (xs : List Happening). IsTrail (WaitsFor P s) xs) (sym c) (trail_waits (f ∷ es) t)

    each_event : (e : Happening) → IsIn e b.chain → IsEvent P s e
    each_event e i = go m.reached
      where
        go : IsReached → IsEvent P s e
        go (inl z) = let h : IsIn e [] = subst (λ (xs : List Happening). IsIn e xs) z.1 i in elim h [ ]
        go (inr (f, v, es, c, t, q)) = trail_events e f es v t (subst (λ (xs : List Happening). IsIn e xs) c i)

    ticks_are : ticks_in weight (reverse b.chain) ≡ b.ticks
    ticks_are = go m.reached
      where
        go : IsReached → ticks_in weight (reverse b.chain) ≡ b.ticks
        go (inl z) = ticks_reverse weight b.chain ∙ (ap (λ (xs : List Happening). ticks_in weight xs) z.1 ∙ (no_ticks_in weight ∙ sym z.0))
        go (inr (f, v, es, c, t, e)) = ticks_reverse weight b.chain ∙ (ap (λ (xs : List Happening). ticks_in weight xs) c ∙ e)

    no_longer : (other : List Happening) → IsEventChain P s other → ticks_in weight other ≤ b.ticks
    no_longer other c = go (reverse other) refl
      where
        turned : (xs : List Happening) → reverse other ≡ xs → ticks_in weight other ≡ ticks_in weight xs
        turned xs q = sym (ticks_reverse weight other) ∙ ap (λ (ys : List Happening). ticks_in weight ys) q

        of_turned : (xs : List Happening) → reverse other ≡ xs → (e : Happening) → IsIn e xs → IsEvent P s e
        of_turned xs q e i = c.happen e (in_reverse other (subst (λ (ys : List Happening). IsIn e ys) (sym q) i))

        go : (xs : List Happening) → reverse other ≡ xs → ticks_in weight other ≤ b.ticks
        go [] q = let e : ticks_in weight other ≡ 0 = turned [] q ∙ no_ticks_in weight in omega (arith, e)
        go (f ∷ es) q =
            let t = events_trail (f ∷ es) (of_turned (f ∷ es) q) (subst (λ (ys : List Happening). IsTrail (WaitsFor P s) ys) q c.waits) in
            let l = m.most f (of_turned (f ∷ es) q f here) es t in
            let e = turned (f ∷ es) q in
            omega (arith, e, l)

    longest : IsLongestBy P s weight (reverse b.chain)
    longest = record {
      is_chain = record { happen = λ e i. each_event e (in_reverse b.chain i); waits = subst (λ (xs : List Happening). IsTrail (WaitsFor P s) xs) (sym (twice b.chain)) trail };
      most = λ other c. let l = no_longer other c in let e = ticks_are in omega (arith, l, e);
    }

  -- a state that is reached has a longest chain
  pub some_longest : (main : Start S) → IsMade P main s → (chain : List Happening) × IsLongestBy P s weight chain
  some_longest main made = (reverse found.0.chain, longest found.0 found.1)
    where
      found : (b : Best Happening) × IsMost Before weight (IsEvent P s) b
      found =
          best Before weight (happenings P s) (λ e f w. all_listed P s f w.1.happens) (λ e f. both (waits_for P main s made e f) (is_event P s f))
          (IsEvent P s) (λ f v. all_listed P s f v.happens) (is_event P s) (λ e. fewer Before (WaitsFor P s) (λ x y w. w.0) e (every_settled P main s made e))

pub every_run_has_a_span : (S : Type 0) → EveryRunHasASpan S
every_run_has_a_span S P main cells z end_ weight ms run over = some_longest P z.state weight main (stands P main cells ms z run).made
