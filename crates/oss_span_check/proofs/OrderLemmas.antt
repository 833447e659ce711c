-- Chains read from their first event on.
use Rattle.std.proofs.Common.{◌≡◌, sym, subst, ap, ◌∙◌, List, [], ◌∷◌, ◌++◌, reverse, append_assoc}
use Rattle.std.proofs.lemmas.List.{reverse-append}
use Rattle.oss_model.specs.Order.{IsIn, here, there}
use Rattle.oss_chain_laws.specs.Chains.{IsTrail, one, more}

-- behind this event each waits for the one before it
abbrev pub Goes : {E : Type 0} → (E → E → Type 0) → E → List E → Type 0
Goes W e [] = Unit {0}
Goes W e (f ∷ fs) = W f e × Goes W f fs

-- each of them is so
abbrev pub Each : {E : Type 0} → (E → Type 0) → List E → Type 0
Each Q [] = Unit {0}
Each Q (e ∷ es) = Q e × Each Q es

pub each_in : {E : Type 0} (Q : E → Type 0) (es : List E) → Each Q es → (e : E) → IsIn e es → Q e
each_in Q [] h e i = elim i [ ]
each_in Q (x ∷ es) h e here = h.0
each_in Q (x ∷ es) h e (there i) = each_in Q es h.1 e i

pub in_each : {E : Type 0} (Q : E → Type 0) (es : List E) → ((e : E) → IsIn e es → Q e) → Each Q es
in_each Q [] h = tt
in_each Q (e ∷ es) h = (h e here, in_each Q es (λ x i. h x (there i)))

turned : {E : Type 0} (e f : E) (fs acc : List E) → reverse (f ∷ fs) ++ e ∷ acc ≡ reverse fs ++ f ∷ e ∷ acc
turned {E = E} e f fs acc = ap (λ (xs : List E). xs ++ e ∷ acc) (reverse-append (f ∷ []) fs) ∙ append_assoc (reverse fs) (f ∷ []) (e ∷ acc)

goes_trail : {E : Type 0} (W : E → E → Type 0) (e : E) (es acc : List E) → IsTrail W (e ∷ acc) → Goes W e es → IsTrail W (reverse es ++ e ∷ acc)
goes_trail W e [] acc t g = t
goes_trail {E = E} W e (f ∷ fs) acc t g = subst (λ (xs : List E). IsTrail W xs) (sym (turned e f fs acc)) (goes_trail W f fs (e ∷ acc) (more g.0 t) g.1)

first_waits : {E : Type 0} (W : E → E → Type 0) (f e : E) (acc : List E) → IsTrail W (f ∷ e ∷ acc) → W f e × IsTrail W (e ∷ acc)
first_waits W f e acc (more w t) = (w, t)

trail_goes : {E : Type 0} (W : E → E → Type 0) (e : E) (es acc : List E) → IsTrail W (reverse es ++ e ∷ acc) → Goes W e es × IsTrail W (e ∷ acc)
trail_goes W e [] acc t = (tt, t)
trail_goes {E = E} W e (f ∷ fs) acc t =
    let r = trail_goes W f fs (e ∷ acc) (subst (λ (xs : List E). IsTrail W xs) (turned e f fs acc) t) in
    let w = first_waits W f e acc r.1 in
    ((w.0, r.0), w.1)

last_first : {E : Type 0} (e : E) (es : List E) → reverse (e ∷ es) ≡ reverse es ++ e ∷ []
last_first e es = reverse-append (e ∷ []) es

pub goes_chain : {E : Type 0} (W : E → E → Type 0) (e : E) (es : List E) → Goes W e es → IsTrail W (reverse (e ∷ es))
goes_chain {E = E} W e es g = subst (λ (xs : List E). IsTrail W xs) (sym (last_first e es)) (goes_trail W e es [] one g)

pub chain_goes : {E : Type 0} (W : E → E → Type 0) (e : E) (es : List E) → IsTrail W (reverse (e ∷ es)) → Goes W e es
chain_goes {E = E} W e es t = (trail_goes W e es [] (subst (λ (xs : List E). IsTrail W xs) (last_first e es) t)).0
