-- The rule at a state in the middle of a run, if nobody holds a job: with it a field is opened from what another left.
use Rattle.std.proofs.Common.{◌≡◌, inl, inr, sym, subst, refl, ◌∙◌, ℕ, zero, suc, arith, Bool, true, false, List, [], ◌∷◌, Option, ap, Some}
use mathlib.Core.Option as maybe
use lib.ListN.{get_elem?}
use Rattle.oss_model.specs.Agreement.{Setting}
use Rattle.oss_model.specs.Bodies.{Program, Start, Body}
use Rattle.oss_model.specs.Machine.{State, Task, At}
use Rattle.oss_model.specs.Moves.{Reached}
use Rattle.oss_words.specs.Net.{Net}
use Rattle.oss_words.specs.Views.{View, Among}
use Rattle.oss_roles.specs.Field.{FieldAt, Parts, Sits, at_home, Field, IsSomewhere, is_out, IsJoined, is_joined, IsMaking, is_making, held_by_all, owed_by_all}
use Rattle.oss_roles.specs.Roles.{Role}
use Rattle.oss_roles.specs.Sights.{Sight, Telling}
use Rattle.oss_roles.specs.Rest.{idle, AtRest, IsHome}
use Rattle.std.specs.Prelude.{not}
use Rattle.oss_words.specs.Sums.{num}

module _ {S J : Type 0} (P : Program S) (main : Start S) (first : List ℕ) (is_job : Telling S J) (setting : Setting main first)
    (n : ℕ) (net : Net) (gave : ℕ → Bool) (role : ℕ → Option Role) (k : Parts J) (v : View) (s : State S) (reached : Reached P main first s) (rest : AtRest P is_job n net gave role k v s) where
  abbrev sights : List (Sight S)
  sights = idle v ∷ []

  the_seat : (id : ℕ) (w : Sight S) → Sits sights id w → idle v ≡ w
  the_seat zero w h = maybe.some-injective (idle v) w h
  the_seat (suc id) w h = absurd (maybe.some-ne-none w (sym h))

  nothing : {A B : Type 0} (x : A) → Among x [] → B
  nothing x h = elim h [ ]

  pub rest_field : FieldAt P main first is_job n net gave role k sights
  rest_field =
      record {
        field = record {
          net = net;
          gave = gave;
          role = role;
          opened = λ t. true;
          state = s;
          words = rest.words;
          gave_hangs = rest.gave_hangs;
          unused = rest.unused;
          roles = rest.roles;
          filed = rest.filed;
          given = record {
            cell = rest.given.cell;
            own = rest.given.own;
            back = λ e c r is at h. elim (rest.given.back e c r is at h) [ inl g ↦ inl g | inr b ↦ absurd b ];
          };
          counts = record {
            sum = λ t q is at. let c = rest.counted t q is at in omega (arith, c);
            blank = λ t ne low none. (rest.uncounted t ne low none, refl);
            main = rest.main;
            opened_is = λ t q is at. ((λ h. rest.there t q is), (λ h. refl));
            open_start = rest.open_start;
            strong = rest.strong;
          };
          cells = rest.cells;
          planned = λ e r is. inl (rest.there e r is);
          somewhere = λ t p u number at. let h = rest.home t p u number at in at_home h.job h.last h.one h.stands_there h.is h.lasts refl;
          borne = λ id w sits i b has. absurd (maybe.some-ne-none b (sym (subst (λ (z : Sight S). get_elem? z.bears i ≡ maybe.some b) (sym (the_seat id w sits)) has)));
          made = λ id w sits m among. nothing m (subst (λ (z : Sight S). Among m z.makes) (sym (the_seat id w sits)) among);
          left = λ e r is h. let z : false ≡ true = sym (rest.left e) ∙ h in absurd (let bad : ⊥ = cc in bad);
          numbered = rest.numbered;
          loaded = λ id w sits x among. nothing x (subst (λ (z : Sight S). Among x z.loaded) (sym (the_seat id w sits)) among);
          joined = λ id w sits e among. nothing e (subst (λ (z : Sight S). Among e z.joined) (sym (the_seat id w sits)) among);
          joined_given = λ id w sits e among. nothing e (subst (λ (z : Sight S). Among e z.joined) (sym (the_seat id w sits)) among);
          ready = λ id w sits t among. nothing t (subst (λ (z : Sight S). Among t z.ready) (sym (the_seat id w sits)) among);
          seen = λ id w sits x among. nothing x (subst (λ (z : Sight S). Among x z.seen) (sym (the_seat id w sits)) among);
          still = λ id w sits x among. nothing x (subst (λ (z : Sight S). Among x z.still) (sym (the_seat id w sits)) among);
          setting = setting;
          reached = reached;
        };
        same_net = refl;
        same_gave = refl;
        same_role = refl;
      }

-- and the other way round: a field whose one seat knows of nothing but the words is at rest
module _ {S J : Type 0} (P : Program S) (main : Start S) (first : List ℕ) (is_job : Telling S J) (n : ℕ) (k : Parts J) (v : View) (f : Field P main first is_job n k (idle v ∷ [])) where
  one_seat : (id : ℕ) (w : Sight S) → Sits (idle v ∷ []) id w → idle v ≡ w
  one_seat zero w h = maybe.some-injective (idle v) w h
  one_seat (suc id) w h = absurd (maybe.some-ne-none w (sym h))

  none_among : {A B : Type 0} (x : A) → Among x [] → B
  none_among x h = elim h [ ]

  not_joined : (e : ℕ) → IsJoined (idle {S = S} v ∷ []) e → ⊥
  not_joined e (is_joined id w sits among) = none_among e (subst (λ (z : Sight S). Among e z.joined) (sym (one_seat id w sits)) among)

  not_making : (t : ℕ) → IsMaking (idle {S = S} v ∷ []) t → ⊥
  not_making t (is_making id w sits m among is) = none_among m (subst (λ (z : Sight S). Among m z.makes) (sym (one_seat id w sits)) among)

  there : (e : ℕ) (r : Role) → f.role e ≡ Some r → (u : Task S) × At f.state r.path u
  there e r is = elim (f.planned e r is) [ inl u ↦ u | inr m ↦ absurd (not_making r.task m) ]

  at_rest : (t : ℕ) (p : List ℕ) (b : Body S) → IsSomewhere is_job k (idle v ∷ []) f.net f.role t p b → IsHome is_job k (idle v ∷ []) f.net f.role t p b
  at_rest t p b (at_home j last one is job l none) = record { job = j; last = last; one = one; stands_there = is; is = job; lasts = l }
  at_rest t p b (is_out two is one) = let none : held_by_all (idle {S = S} v ∷ []) t ≡ 0 = refl in absurd (omega (arith, none, one))

  pub idle_rest : ((e : ℕ) → (k.states e).left ≡ false) → AtRest P is_job n f.net f.gave f.role k v f.state
  idle_rest unleft =
      record {
        words = f.words;
        gave_hangs = f.gave_hangs;
        roles = f.roles;
        filed = f.filed;
        given = record {
          cell = f.given.cell;
          own = f.given.own;
          back = λ e c r is site h. elim (f.given.back e c r is site h) [ inl g ↦ inl g | inr j ↦ absurd (not_joined e j) ];
        };
        cells = f.cells;
        there = there;
        home = λ t p u number at. at_rest t p u.body (f.somewhere t p u number at);
        unused = f.unused;
        counted = λ t q is site.
            let u = there t q is in
            let o : f.opened t ≡ true = (f.counts.opened_is t q is site).1 u in
            let a = f.counts.sum t q is site in
            let b : num (not (f.opened t)) ≡ 0 = ap (λ (z : Bool). num (not z)) o in
            let c : owed_by_all (idle {S = S} v ∷ []) t ≡ 0 = refl in
            omega (arith, a, b, c);
        uncounted = λ t ne low none. (f.counts.blank t ne low none).0;
        main = f.counts.main;
        open_start = f.counts.open_start;
        strong = f.counts.strong;
        left = unleft;
        numbered = f.numbered;
      }
