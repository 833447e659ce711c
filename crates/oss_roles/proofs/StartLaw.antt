-- The rule at the start; and what it says if no seat holds a job or makes a task.
use Rattle.std.proofs.Common.{◌≡◌, ◌≢◌, inl, inr, sym, subst, refl, ℕ, zero, suc, ◌<◌, ◌≤◌, arith, true, false, List, [], ◌∷◌, Option, Some, None}
use Rattle.std.specs.Prelude.{◌==◌, cond}
use mathlib.Core.Option as maybe
use lib.ListN.{get_elem?}
use Rattle.std.proofs.lemmas.Bool.Decides.{eqb_tells}
use Rattle.oss_model.specs.Agreement.{Setting}
use Rattle.oss_model.specs.Bodies.{Program, Start}
use Rattle.oss_model.specs.Machine.{Task, At}
use Rattle.oss_model.specs.Moves.{opening, opens}
use Rattle.oss_model.proofs.SequenceLemmas.{opening_at}
use Rattle.oss_words.specs.declared.entry.EntryInfo.{EntryInfo}
use Rattle.oss_words.specs.declared.entry.EntryState.{EntryState}
use Rattle.oss_words.specs.Net.{apart, bare}
use Rattle.oss_words.specs.Rule.{Kept}
use Rattle.oss_words.specs.Steps.{no_flags}
use Rattle.oss_words.specs.Views.{Among}
use Rattle.oss_words.proofs.RestLaw.{rule_opening}
use Rattle.oss_roles.specs.Field.{Field, FieldAt, Parts, words_of, Sits, held_by_all, IsNumberOf, of_main, of_entry, IsSomewhere, at_home, is_out}
use Rattle.oss_roles.specs.Roles.{Role}
use Rattle.oss_roles.specs.Sights.{Sight, Telling}
use Rattle.oss_roles.specs.Rest.{StandsAtHome}
use Rattle.oss_roles.specs.Starts.{IsFirst, first_sight}

none_some : {A : Type 0} (x : A) → None ≡ Some x → ⊥
none_some x h = cc

module _ {S J : Type 0} (P : Program S) (main : Start S) (first : List ℕ) (is_job : Telling S J) (setting : Setting main first)
    (n : ℕ) (low : 0 < n) (high : n ≤ 16777216) (j : J) (job : is_job j 0 (record { start = main; found = [] }) (λ y. None)) (k : Parts J) (begins : IsFirst n k j first) where
  abbrev sights : List (Sight S)
  sights = first_sight ∷ []

  states_all : (λ (e : ℕ). no_flags) ≡ k.states
  states_all = λ i e. sym (begins.states e) i

  abbrev role : ℕ → Option Role
  role e = None

  no_role : {A : Type 0} (e : ℕ) (r : Role) → role e ≡ Some r → A
  no_role e r h = absurd (none_some r h)

  hangs_not : (e : ℕ) → bare.place e ≢ apart → ⊥
  hangs_not e h = h refl

  main_alone : (p : List ℕ) (t : Task S) → At (opening main first) p t → (p ≡ []) × (t ≡ record { body = record { start = main; found = [] }; given = [] })
  main_alone p t h = opening_at main first p t setting.starts.path h

  no_child : (i : ℕ) (p : List ℕ) (t : Task S) → At (opening main first) (i ∷ p) t → ⊥
  no_child i p t h = let m = main_alone (i ∷ p) t h in let z : i ∷ p ≡ [] = m.0 in cc

  the_seat : (id : ℕ) (v : Sight S) → Sits sights id v → first_sight ≡ v
  the_seat zero v h = maybe.some-injective first_sight v h
  the_seat (suc id) v h = absurd (maybe.some-ne-none v (sym h))

  nothing : {A B : Type 0} (x : A) → Among x [] → B
  nothing x h = elim h [ ]

  not_main : (t : ℕ) → t ≢ 0 → (t == 0) ≡ false
  not_main t ne = elim (eqb_tells t 0) [ inl h ↦ absurd (ne h.1) | inr h ↦ h.0 ]

  home : (t : ℕ) (p : List ℕ) (u : Task S) → IsNumberOf role t p → At (opening main first) p u → IsSomewhere is_job k sights bare role t p u.body
  home t p u of_main at_ =
      let m = main_alone [] u at_ in
      subst (λ (z : Task S). IsSomewhere is_job k sights bare role 0 [] z.body) (sym m.1) (at_home j (λ y. None) begins.body begins.job job
      (record { some = λ y o is. absurd (none_some o is); none = λ y is f q i fis h path site. absurd (hangs_not f h) }) refl)
  home t p u (of_entry r is at path) at_ = absurd (none_some r is)

  pub start_at : FieldAt P main first is_job n bare (λ e. false) role k sights
  start_at =
      record {
        field = record {
          net = bare;
          gave = λ e. false;
          role = role;
          opened = λ t. true;
          state = opening main first;
          words = subst (λ (z : ℕ → EntryState). Kept n bare (λ e. false) z k.infos (words_of sights)) states_all (rule_opening n k.infos low high).kept;
          gave_hangs = λ e h. let z : false ≡ true = h in absurd (let bad : ⊥ = cc in bad);
          unused = λ e ne none. (begins.bodies e ne, begins.jobs e ne);
          roles = record {
            hung = λ e h. absurd (hangs_not e h);
            one = λ e f r q is. no_role e r is;
            number = λ e r is. no_role e r is;
            below_main = λ e r is. no_role e r is;
            main = refl;
            told = λ e r is. no_role e r is;
            depth = λ e r is. no_role e r is;
            parent = λ e r a b p is. no_role e r is;
            behind_is = λ e o r q is. no_role e r is;
            topmost = λ e r a is. no_role e r is;
            below = λ e f r q a is. no_role e r is;
            order = λ e f r q a b p is. no_role e r is;
          };
          filed = record {
            access = λ i c p a. absurd (no_child i p a.task a.at_);
            task = λ i p t h. absurd (no_child i p t h);
          };
          given = record {
            cell = λ e c r is. no_role e r is;
            own = λ e r is. no_role e r is;
            back = λ e c r is. no_role e r is;
          };
          counts = record {
            sum = λ t q is. no_role t q is;
            blank = λ t ne low none. (begins.counts t ne low, refl);
            main = begins.spent;
            opened_is = λ t q is. no_role t q is;
            open_start = λ e r is. no_role e r is;
            strong = λ e r is. no_role e r is;
          };
          cells = sym begins.cells;
          planned = λ e r is. no_role e r is;
          somewhere = home;
          borne = λ id v sits i b has. absurd (maybe.some-ne-none b (sym (subst (λ (z : Sight S). get_elem? z.bears i ≡ maybe.some b) (sym (the_seat id v sits)) has)));
          made = λ id v sits m among. nothing m (subst (λ (z : Sight S). Among m z.makes) (sym (the_seat id v sits)) among);
          left = λ e r is. no_role e r is;
          numbered = λ e c r is. no_role e r is;
          loaded = λ id v sits x among. nothing x (subst (λ (z : Sight S). Among x z.loaded) (sym (the_seat id v sits)) among);
          joined = λ id v sits e among. nothing e (subst (λ (z : Sight S). Among e z.joined) (sym (the_seat id v sits)) among);
          joined_given = λ id v sits e among. nothing e (subst (λ (z : Sight S). Among e z.joined) (sym (the_seat id v sits)) among);
          ready = λ id v sits t among. nothing t (subst (λ (z : Sight S). Among t z.ready) (sym (the_seat id v sits)) among);
          seen = λ id v sits x among. nothing x (subst (λ (z : Sight S). Among x z.seen) (sym (the_seat id v sits)) among);
          still = λ id v sits x among. nothing x (subst (λ (z : Sight S). Among x z.still) (sym (the_seat id v sits)) among);
          setting = setting;
          reached = opens;
        };
        same_net = refl;
        same_gave = refl;
        same_role = refl;
      }

-- the plainest such words
abbrev pub first_parts : {J : Type 0} → J → (ℕ → EntryInfo) → (ℕ → ℕ) → (ℕ → ℕ) → List ℕ → Parts J
first_parts j infos values cell_of first = record {
  states = λ e. no_flags;
  infos = infos;
  values = values;
  cell_of = cell_of;
  counts = λ t. cond (t == 0) 0 18446744073709551615;
  bodies = λ t. cond (t == 0) 1 0;
  jobs = λ t. cond (t == 0) (Some j) None;
  cells = first;
}

not_zero : (t : ℕ) → t ≢ 0 → (t == 0) ≡ false
not_zero t ne = elim (eqb_tells t 0) [ inl h ↦ absurd (ne h.1) | inr h ↦ h.0 ]

module _ {S J : Type 0} (P : Program S) (main : Start S) (first : List ℕ) (is_job : Telling S J) (setting : Setting main first)
    (n : ℕ) (low : 0 < n) (high : n ≤ 16777216) (j : J) (infos : ℕ → EntryInfo) (values cell_of : ℕ → ℕ) (job : is_job j 0 (record { start = main; found = [] }) (λ y. None)) where
  pub start_field : FieldAt P main first is_job n bare (λ e. false) (λ e. None) (first_parts j infos values cell_of first) (first_sight ∷ [])
  start_field =
      start_at P main first is_job setting n low high j job (first_parts j infos values cell_of first)
      (record { states = λ e. refl; spent = refl; counts = λ t ne small. rw (not_zero t ne) refl; body = refl; bodies = λ e ne. rw (not_zero e ne) refl; job = refl; jobs = λ e ne. rw (not_zero e ne) refl; cells = refl })

module _ {S J : Type 0} (P : Program S) (main : Start S) (first : List ℕ) (is_job : Telling S J) (n : ℕ) (k : Parts J) (sights : List (Sight S)) (f : Field P main first is_job n k sights)
    (idle : (t : ℕ) → held_by_all sights t ≡ 0) where
  number_of : (p : List ℕ) (u : Task S) → At f.state p u → (t : ℕ) × IsNumberOf f.role t p
  number_of [] u h = (0, of_main)
  number_of (i ∷ p) u h =
      let x = f.filed.task i p u h in
      (x.entry, of_entry x.it x.is x.site x.path)

  pub all_home : (p : List ℕ) (u : Task S) → At f.state p u → StandsAtHome is_job k f.role p u
  all_home p u h =
      let t = number_of p u h in
      go t.0 t.1 (f.somewhere t.0 p u t.1 h)
    where
      go : (t : ℕ) → IsNumberOf f.role t p → IsSomewhere is_job k sights f.net f.role t p u.body → StandsAtHome is_job k f.role p u
      go t num (at_home j last one is job l none) = record { number = t; is = num; job = j; last = last; stands = is; one = one; tells = job }
      go t num (is_out two is one) = let z = idle t in absurd (omega (arith, z, one))
