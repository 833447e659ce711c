-- The words after each form of a give; the link of the last child, which is its second step; and the give of a reduction that was joined.
use Rattle.std.proofs.Common.{◌≡◌, ◌≢◌, ◌⊎◌, inl, inr, sym, subst, refl, ◌∙◌, ap, ℕ, Bool, true, false, List, [], ◌∷◌, set, Some}
use mathlib.Core.Option as maybe
use lib.ListN.{get_elem?}
use Rattle.atomic_table.proofs.Lists.{at_set, set_else}
use Rattle.oss_syntax.specs.declared.access.Mode.TheVariants.{Fold}
use Rattle.oss_syntax.specs.declared.access.Op.{Op}
use Rattle.oss_model.specs.Bodies.{Program, Start}
use Rattle.oss_model.specs.Machine.{HasGiven}
use Rattle.oss_words.specs.declared.entry.EntryState.{EntryState}
use Rattle.oss_words.specs.declared.message.Message.{Message}
use Rattle.oss_words.specs.Grown.{Grown}
use Rattle.oss_words.specs.Net.{apart}
use Rattle.oss_words.specs.Rule.{Kept}
use Rattle.oss_words.specs.Steps.{GivesUp, Gives, Begins, Rises, JoinsGives, JoinsBegins}
use Rattle.oss_words.specs.Views.{View, Seen, Among, among_first, among_later}
use Rattle.oss_words.proofs.KeptLaw.{rises_kept, gives_kept, begins_kept, joins_gives_kept, joins_begins_kept}
use Rattle.oss_words.proofs.StillLemmas.{grown_same, given_grown, begun_grown, risen_grown_word}
use Rattle.oss_words.proofs.SumLemmas.{same_number}
use Rattle.oss_roles.specs.Field.{Field, FieldAt, Parts, Sits, words_of, owed_by_all, IsJoined, is_joined, IsStill, IsTaken}
use Rattle.oss_roles.specs.Roles.{Role, itself, on, AreGiven}
use Rattle.oss_roles.specs.Sights.{Bearing, Noted, Fixed, Sight, Telling}
use Rattle.oss_roles.proofs.CountLaw.{same_counts}
use Rattle.oss_roles.proofs.FoldLaw.{cause, joined_mode}
use Rattle.oss_roles.proofs.GiveLaw.{GivesWord}
use Rattle.oss_roles.proofs.JobLaw.{counts_owed, owed_same}
use Rattle.oss_roles.proofs.OtherLaw.{same_bodies, other_field, still_on, given_still, at_words, words_set}
use Rattle.oss_roles.specs.Steps.{SameJobs}

-- what the gives of the words change
pub gives_word : (a : EntryState) → GivesWord a (record a { given = true; done = true })
gives_word a = record { reads = refl; writes = refl; left = refl; grown = given_grown a }

pub begins_word : (a : EntryState) → GivesWord a (record a { given = true })
begins_word a = record { reads = refl; writes = refl; left = refl; grown = begun_grown a }

module _ {S J : Type 0} (P : Program S) (main : Start S) (first : List ℕ) (is_job : Telling S J) (n : ℕ) (k : Parts J) (sights : List (Sight S)) (f : Field P main first is_job n k sights)
    (id : ℕ) (v w : Sight S) (at : Sits sights id v) where
  abbrev sights' : List (Sight S)
  sights' = set sights id w

  -- the words after the steps of a give, as GiveLaw takes them
  pub give_words : (states' : ℕ → EntryState) (gave' : ℕ → Bool) (e : ℕ) → f.net.place e ≢ apart → GivesUp f.gave gave' e → Gives k.states states' k.infos e v.words w.words → Kept n f.net gave' states' k.infos (words_of sights')
  give_words states' gave' e h up d = subst (λ (z : List View). Kept n f.net gave' states' k.infos z) (sym (words_set sights id w))
      (gives_kept n f.net f.gave k.states states' k.infos (words_of sights) id v.words w.words f.words (at_words sights id v at) gave' e (f.words.flow.words.inside e h) up h d)

  pub begin_words : (states' : ℕ → EntryState) (gave' : ℕ → Bool) (e : ℕ) → f.net.place e ≢ apart → GivesUp f.gave gave' e → (k.states e).headed ≡ true → (k.states e).given ≡ false → Begins k.states states' e v.words w.words → Kept n f.net gave' states' k.infos (words_of sights')
  begin_words states' gave' e h up x y d = subst (λ (z : List View). Kept n f.net gave' states' k.infos z) (sym (words_set sights id w))
      (begins_kept n f.net f.gave k.states states' k.infos (words_of sights) id v.words w.words f.words (at_words sights id v at) gave' e (f.words.flow.words.inside e h) up h x y d)

  -- and after those of the give of a reduction that was joined
  pub join_give_words : (states' : ℕ → EntryState) (gave' : ℕ → Bool) (e : ℕ) → f.net.place e ≢ apart → GivesUp f.gave gave' e → (rest : List Message) → JoinsGives f.net k.states states' k.infos e rest v.words w.words → Kept n f.net gave' states' k.infos (words_of sights')
  join_give_words states' gave' e h up rest d = subst (λ (z : List View). Kept n f.net gave' states' k.infos z) (sym (words_set sights id w))
      (joins_gives_kept n f.net f.gave k.states states' k.infos (words_of sights) id v.words w.words f.words (at_words sights id v at) gave' e (f.words.flow.words.inside e h) up rest d)

  pub join_begin_words : (states' : ℕ → EntryState) (gave' : ℕ → Bool) (e : ℕ) → f.net.place e ≢ apart → GivesUp f.gave gave' e → (k.states e).headed ≡ true → (k.states e).given ≡ false → (rest : List Message) → JoinsBegins f.net k.states states' e rest v.words w.words → Kept n f.net gave' states' k.infos (words_of sights')
  join_begin_words states' gave' e h up x y rest d = subst (λ (z : List View). Kept n f.net gave' states' k.infos z) (sym (words_set sights id w))
      (joins_begins_kept n f.net f.gave k.states states' k.infos (words_of sights) id v.words w.words f.words (at_words sights id v at) gave' e (f.words.flow.words.inside e h) up h x y rest d)

  -- the last child is linked upwards: no move
  pub rise_field : SameJobs v w → w.owes ≡ v.owes → v.joined ≡ [] → (states' : ℕ → EntryState) (e : ℕ) → Rises f.net k.states states' k.infos e v.words w.words → (k.states (f.net.last e)).linked ≡ false
      → FieldAt P main first is_job n f.net f.gave f.role (record k { states = states'; counts = k.counts; cells = k.cells }) sights'
  rise_field same owes none states' e d unlinked =
      other_field P main first is_job n k sights f id v w at same.bears same.makes states' k.counts k.cells f.state (same_bodies P f.state) f.gave (record {
        words = subst (λ (z : List View). Kept n f.net f.gave states' k.infos z) (sym (words_set sights id w)) (rises_kept n f.net f.gave k.states states' k.infos (words_of sights) id v.words w.words f.words (at_words sights id v at) e d);
        gave_hangs = f.gave_hangs;
        given = given_still P main first is_job n k sights f id v w at same.bears same.makes states' k.counts k.cells f.state (same_bodies P f.state) refl same.joined;
        counts = counts_owed f.state n f.net f.role states' f.opened (owed_by_all sights) (owed_by_all sights') k.counts (owed_same sights id v w at owes)
            (same_counts f.state n f.net k.infos f.role k.states states' f.opened (owed_by_all sights) k.counts f.roles f.counts
            (each (λ (a c : EntryState). (c.reads ≡ a.reads) × (c.writes ≡ a.writes)) (λ a. (refl, refl)) (ap (λ (z : EntryState). z.reads) d.sets, ap (λ (z : EntryState). z.writes) d.sets)));
        cells = f.cells;
        reached = f.reached;
        left = each (λ (a c : EntryState). c.left ≡ a.left) (λ a. refl) (ap (λ (z : EntryState). z.left) d.sets);
        grown = each Grown (λ a. grown_same a a refl) (subst (λ (z : EntryState). Grown (k.states (f.net.last e)) z) (sym d.sets) (risen_grown_word e (k.states (f.net.last e)) unlinked));
        alone = λ j y sits b i has cell op z act. refl;
        loaded = λ a among. subst (λ (z : List Noted). Among a z) same.loaded among;
        ready = λ t among. f.ready id v at t (subst (λ (z : List ℕ). Among t z) same.ready among);
        seen = λ a among. f.seen id v at a (subst (λ (z : List Seen). Among a z) same.seen among);
        still = still_on P main first is_job n k sights f id v w at same.bears same.makes states' k.counts k.cells f.state (same_bodies P f.state) same.still
            (each (λ (a c : EntryState). c.left ≡ a.left) (λ a. refl) (ap (λ (z : EntryState). z.left) d.sets)) (each (λ (a c : EntryState). c.given ≡ a.given) (λ a. refl) (ap (λ (z : EntryState). z.given) d.sets));
        joined = λ j y sits z among. elim (at_set sights id j w y sits) [
          | inl h ↦ absurd (nothing z (subst (λ (l : List ℕ). Among z l) (same.joined ∙ none) (subst (λ (u : Sight S). Among z u.joined) (sym h.1) among)))
          | inr h ↦ f.joined j y h.1 z among
        ];
        joined_given = λ z among. f.joined_given id v at z (subst (λ (l : List ℕ). Among z l) same.joined among);
      })
    where
      nothing : (z : ℕ) → Among z [] → ⊥
      nothing z h = elim h [ ]

      each : (R : EntryState → EntryState → Type 0) → ((a : EntryState) → R a a) → R (k.states (f.net.last e)) (states' (f.net.last e)) → (j : ℕ) → R (k.states j) (states' j)
      each R self one j = elim (same_number j (f.net.last e)) [
        | inl q ↦ subst (λ (z : ℕ). R (k.states z) (states' z)) (sym q) one
        | inr ne ↦ subst (λ (z : EntryState). R (k.states j) z) (sym (d.others j ne)) (self (k.states j))
      ]

  -- a reduction that was joined is given up, in one step or in the first of two: no move
  module _ (same : SameJobs v (record w { joined = v.joined })) (owes : w.owes ≡ v.owes) (e : ℕ) (joined : v.joined ≡ e ∷ []) (empty : w.joined ≡ []) (states' : ℕ → EntryState) (gave' : ℕ → Bool) (gives : GivesUp f.gave gave' e)
      (word : GivesWord (k.states e) (states' e)) (others : (j : ℕ) → j ≢ e → states' j ≡ k.states j) (words : Kept n f.net gave' states' k.infos (words_of sights')) where
    each_of : (R : EntryState → EntryState → Type 0) → ((a : EntryState) → R a a) → R (k.states e) (states' e) → (j : ℕ) → R (k.states j) (states' j)
    each_of R self one j = elim (same_number j e) [
      | inl q ↦ subst (λ (z : ℕ). R (k.states z) (states' z)) (sym q) one
      | inr ne ↦ subst (λ (z : EntryState). R (k.states j) z) (sym (others j ne)) (self (k.states j))
    ]

    among_here : Among e v.joined
    among_here = subst (λ (l : List ℕ). Among e l) (sym joined) (among_first refl)

    hangs_here : f.net.place e ≢ apart
    hangs_here = (cause P main first is_job n k sights f id v at e (f.joined id v at e among_here)).1

    taken : IsTaken f.state f.role e
    taken = f.joined_given id v at e among_here

    still_gave : (z : ℕ) → f.gave z ≡ true → gave' z ≡ true
    still_gave z h = elim (same_number z e) [ inl q ↦ ap gave' q ∙ gives.now | inr ne ↦ gives.same z ne ∙ h ]

    -- what was joined is given up now, or still joined
    joined_still : (z : ℕ) → IsJoined sights z → (gave' z ≡ true) ⊎ IsJoined sights' z
    joined_still z (is_joined j x sits among) = elim (same_number j id) [
      | inl q ↦
          let one : x ≡ v = maybe.some-injective x v (sym sits ∙ ap (λ (y : ℕ). get_elem? sights y) q ∙ at) in
          inl (only_one z (subst (λ (l : List ℕ). Among z l) joined (subst (λ (y : Sight S). Among z y.joined) one among)))
      | inr ne ↦ inr (is_joined j x (set_else sights id j w ne ∙ sits) among)
    ]
      where
        none_left : (z : ℕ) → Among z [] → ⊥
        none_left z h = elim h [ ]

        only_one : (z : ℕ) → Among z (e ∷ []) → gave' z ≡ true
        only_one z (among_first q) = ap gave' (sym q) ∙ gives.now
        only_one z (among_later h) = absurd (none_left z h)

    given_now : AreGiven P f.state f.net f.role gave' (IsJoined sights')
    given_now =
        record {
          cell = λ z c r is site h. elim (same_number z e) [
            | inl q ↦
                let one : taken.it ≡ r = let u : Some taken.it ≡ Some r = sym taken.is ∙ ap (λ (y : ℕ). f.role y) (sym q) ∙ is in cc in
                let cell_is : taken.cell ≡ c = let u : on taken.cell ≡ on c = sym taken.site ∙ ap (λ (y : Role). y.site) one ∙ site in cc in
                subst (λ (y : ℕ). HasGiven f.state y r.path) cell_is (subst (λ (y : Role). HasGiven f.state taken.cell y.path) one taken.given)
            | inr ne ↦ f.given.cell z c r is site (sym (gives.same z ne) ∙ h)
          ];
          own = λ z r is site h. elim (same_number z e) [
            | inl q ↦
                let one : taken.it ≡ r = let u : Some taken.it ≡ Some r = sym taken.is ∙ ap (λ (y : ℕ). f.role y) (sym q) ∙ is in cc in
                let bad : on taken.cell ≡ itself = sym taken.site ∙ ap (λ (y : Role). y.site) one ∙ site in absurd (let worse : ⊥ = cc in worse)
            | inr ne ↦ f.given.own z r is site (sym (gives.same z ne) ∙ h)
          ];
          back = λ z c r is site h. elim (f.given.back z c r is site h) [ inl g ↦ inl (still_gave z g) | inr j ↦ joined_still z j ];
        }

    pub joined_give_field : FieldAt P main first is_job n f.net gave' f.role (record k { states = states'; counts = k.counts; cells = k.cells }) sights'
    joined_give_field =
        other_field P main first is_job n k sights f id v w at same.bears same.makes states' k.counts k.cells f.state (same_bodies P f.state) gave' (record {
          words = words;
          gave_hangs = λ z h. elim (same_number z e) [
            | inl q ↦ subst (λ (y : ℕ). f.net.place y ≢ apart) (sym q) hangs_here
            | inr ne ↦ f.gave_hangs z (sym (gives.same z ne) ∙ h)
          ];
          given = given_now;
          counts = counts_owed f.state n f.net f.role states' f.opened (owed_by_all sights) (owed_by_all sights') k.counts (owed_same sights id v w at owes)
              (same_counts f.state n f.net k.infos f.role k.states states' f.opened (owed_by_all sights) k.counts f.roles f.counts
              (each_of (λ (a c : EntryState). (c.reads ≡ a.reads) × (c.writes ≡ a.writes)) (λ a. (refl, refl)) (word.reads, word.writes)));
          cells = f.cells;
          reached = f.reached;
          left = each_of (λ (a c : EntryState). c.left ≡ a.left) (λ a. refl) word.left;
          grown = each_of Grown (λ a. grown_same a a refl) word.grown;
          alone = λ j y sits b i has cell op z act. refl;
          loaded = λ a among. subst (λ (z : List Noted). Among a z) same.loaded among;
          ready = λ t among. f.ready id v at t (subst (λ (z : List ℕ). Among t z) same.ready among);
          seen = λ a among. f.seen id v at a (subst (λ (z : List Seen). Among a z) same.seen among);
          still = λ j y sits a among. elim (at_set sights id j w y sits) [
            | inl h ↦ subst (λ (z : Sight S). IsStill f.role states' k.values z a) h.1 (again v w same.bears (f.still id v at a (subst (λ (z : List Fixed). Among a z) same.still (subst (λ (z : Sight S). Among a z.still) (sym h.1) among))))
            | inr h ↦ again y y refl (f.still j y h.1 a among)
          ];
          joined = λ j y sits z among. elim (at_set sights id j w y sits) [
            | inl h ↦ absurd (nothing z (subst (λ (l : List ℕ). Among z l) empty (subst (λ (u : Sight S). Among z u.joined) (sym h.1) among)))
            | inr h ↦ f.joined j y h.1 z among
          ];
          joined_given = λ z among. absurd (nothing z (subst (λ (l : List ℕ). Among z l) empty among));
        })
      where
        nothing : (z : ℕ) → Among z [] → ⊥
        nothing z h = elim h [ ]

        left_here : (k.states e).left ≡ true
        left_here = (cause P main first is_job n k sights f id v at e (f.joined id v at e among_here)).3

        -- the entry is that of a strong reduction that is left, of whose give nothing is kept
        again : (o u : Sight S) → u.bears ≡ o.bears → {a : Fixed} → IsStill f.role k.states k.values o a → IsStill f.role states' k.values u a
        again o u bears {a} g =
            record {
              bearing = g.bearing;
              place = g.place;
              held = ap (λ (z : List (Bearing S)). get_elem? z g.place) bears ∙ g.held;
              it = g.it;
              is = g.is;
              path = g.path;
              left = each_of (λ (x c : EntryState). c.left ≡ x.left) (λ x. refl) word.left a.entry ∙ g.left;
              value = g.value;
              given = λ no. elim (same_number a.entry e) [
                | inl q ↦ absurd (no_fold g.it (ap (λ (z : ℕ). f.role z) (sym q) ∙ g.is) (λ op mode strong. no op mode strong (sym g.left ∙ (ap (λ (z : ℕ). (k.states z).left) q ∙ left_here))))
                | inr ne ↦ ap (λ (z : EntryState). z.given) (others a.entry ne) ∙ g.given no
              ];
            }
          where
            no_fold : (r : Role) → f.role e ≡ Some r → ((op : Op) → r.mode ≡ Fold op → r.strong ≡ true → ⊥) → ⊥
            no_fold r is other =
                let m = joined_mode P main first is_job n k sights f id v at e (f.joined id v at e among_here) r is in
                other m.0 m.1 m.2
