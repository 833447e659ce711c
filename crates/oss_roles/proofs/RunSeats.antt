-- A run of seats that draw, split and join: the first draws 1 and 2 and is split, and hands over 2; the new seat draws 3 and takes main's count; it
-- is joined to the first again, which has drawn all three then and takes main's job.
use Rattle.std.proofs.Common.{◌≡◌, ◌⊎◌, inl, inr, sym, subst, refl, ◌∙◌, ℕ, zero, suc, arith, false, List, [], ◌∷◌, Option, Some, None}
use Rattle.std.specs.Prelude.{◌==◌, cond, set}
use mathlib.Core.Option as maybe
use Rattle.oss_model.specs.Agreement.{Setting}
use Rattle.oss_model.specs.Bodies.{Program, Start, Body}
use Rattle.oss_words.specs.declared.entry.EntryInfo.{EntryInfo}
use Rattle.oss_words.specs.Net.{bare}
use Rattle.oss_words.specs.SeatSteps.{Draws, Splits, Joins, enough}
use Rattle.oss_words.specs.Views.{View, first_view, Among, among_first, among_later}
use Rattle.oss_roles.specs.Drawing.{AreDrawn, IsFree}
use Rattle.oss_roles.specs.Field.{FieldAt, Parts, Sits}
use Rattle.oss_roles.specs.Roles.{Role}
use Rattle.oss_roles.specs.Sights.{Bearing, Sight}
use Rattle.oss_roles.specs.Starts.{first_sight}
use Rattle.oss_roles.proofs.DrawLaw.{draws_keep, new_seats_draw, nothing_is_drawn}
use Rattle.oss_roles.proofs.MakeClaims.{takes_keep}
use Rattle.oss_roles.proofs.RunWrite.{Job, IsJob, else_, apart_from}
use Rattle.oss_roles.proofs.StartLaw.{start_field, first_parts}
use Rattle.oss_roles.proofs.WordClaims.{new_seats_keep, quiet_steps_keep, count_reads_keep}

among_two : (e a b : ℕ) → Among e (a ∷ b ∷ []) → (a ≡ e) ⊎ (b ≡ e)
among_two e a b (among_first q) = inl q
among_two e a b (among_later (among_first q)) = inr q
among_two e a b (among_later (among_later x)) = elim x [ ]

among_one : (e a : ℕ) → Among e (a ∷ []) → a ≡ e
among_one e a (among_first q) = q
among_one e a (among_later x) = elim x [ ]

module _ {S : Type 0} (P : Program S) (main : Start S) (first : List ℕ) (setting : Setting main first) (infos : ℕ → EntryInfo) (values cell_of : ℕ → ℕ) where
  abbrev none : ℕ → Option Role
  none e = None

  abbrev b0 : Body S
  b0 = record { start = main; found = [] }

  abbrev j0 : Job S
  j0 = record { task = 0; body = b0; last = λ y. None }

  abbrev k0 : Parts (Job S)
  k0 = first_parts j0 infos values cell_of first

  abbrev Rule : Parts (Job S) → List (Sight S) → Type 0
  Rule k sights = FieldAt P main first IsJob 8 bare (λ e. false) none k sights

  -- what each seat has, of words and of what is drawn
  abbrev seat : View → List ℕ → Sight S
  seat words drawn = record first_sight { words = words; drawn = drawn }

  quiet : (sights : List (Sight S)) → Rule k0 sights → (id : ℕ) (words now : View) (drawn then_ : List ℕ) → Sits sights id (seat words drawn) → now.held ≡ words.held → now.half ≡ words.half
      → Rule k0 (set sights id (seat now then_))
  quiet sights f id words now drawn then_ sits held half =
      let g = quiet_steps_keep S (Job S) IsJob P main first 8 k0 sights f.field id (seat words drawn) (seat now then_) sits (record {
        held = held;
        half = half;
        bears = refl;
        makes = refl;
        joined = refl;
        owes = refl;
        ready = λ a h. h;
        loaded = λ a h. h;
        seen = λ a h. h;
        still = λ a h. h;
      }) in
      record { field = g.field; same_net = g.same_net ∙ f.same_net; same_gave = g.same_gave ∙ f.same_gave; same_role = g.same_role ∙ f.same_role }

  -- of two seats, which one has drawn an entry
  drawn_in : (e j : ℕ) (a b : View) (l m : List ℕ) (x : Sight S) → Sits (seat a l ∷ seat b m ∷ []) j x → Among e x.drawn → Among e l ⊎ Among e m
  drawn_in e zero a b l m x sits h = inl (subst (λ (z : Sight S). Among e z.drawn) (sym (maybe.some-injective (seat a l) x sits)) h)
  drawn_in e (suc zero) a b l m x sits h = inr (subst (λ (z : Sight S). Among e z.drawn) (sym (maybe.some-injective (seat b m) x sits)) h)
  drawn_in e (suc (suc j)) a b l m x sits h = absurd (maybe.some-ne-none x (sym sits))

  drawn_of_one : (e j : ℕ) (a : View) (l : List ℕ) (x : Sight S) → Sits (seat a l ∷ []) j x → Among e x.drawn → Among e l
  drawn_of_one e zero a l x sits h = subst (λ (z : Sight S). Among e z.drawn) (sym (maybe.some-injective (seat a l) x sits)) h
  drawn_of_one e (suc j) a l x sits h = absurd (maybe.some-ne-none x (sym sits))

  f0 : Rule k0 (seat first_view [] ∷ [])
  f0 = start_field P main first IsJob setting 8 (omega (arith)) (omega (arith)) j0 infos values cell_of (record { task = refl; body = refl; last = λ y. refl })

  d0 : AreDrawn none (seat first_view [] ∷ [])
  d0 = nothing_is_drawn S none (seat first_view []) refl

  -- the first seat draws 1 and 2
  abbrev a1 : View
  a1 = record first_view { owned = 1 ∷ 2 ∷ 0 ∷ [] }

  draws1 : Draws 8 1 3 2 first_view a1
  draws1 = record {
    most = omega (arith);
    may = refl;
    live = omega (arith);
    adds = refl;
    found = enough (omega (arith)) refl refl;
    held = refl;
    half = refl;
    links = refl;
    gives = refl;
    seen = refl;
    delivered = refl;
    parts = refl;
    splits = refl;
  }

  f1 : Rule k0 (seat a1 (1 ∷ 2 ∷ []) ∷ [])
  f1 = quiet (seat first_view [] ∷ []) f0 0 first_view a1 [] (1 ∷ 2 ∷ []) refl refl refl

  d1 : AreDrawn none (seat a1 (1 ∷ 2 ∷ []) ∷ [])
  d1 = draws_keep S none (seat first_view [] ∷ []) 0 (seat first_view []) (seat a1 (1 ∷ 2 ∷ [])) refl (λ e h. inr (record { none = refl; undrawn = λ j x sits b. elim (drawn_of_one e j first_view [] x sits b) [ ] })) d0

  -- it is split, and hands over 2
  abbrev a2 : View
  a2 = record first_view { owned = 1 ∷ 0 ∷ []; parts = 65536; splits = 1 }

  abbrev b2 : View
  b2 = record first_view { owned = 2 ∷ []; parts = 1 }

  splits2 : Splits a1 a2 b2
  splits2 = record {
    more = omega (arith);
    held = refl;
    half = refl;
    stay = λ e h. elim (among_two e 1 0 h) [ inl q ↦ among_first q | inr q ↦ among_later (among_later (among_first q)) ];
    hand = λ e h. among_later (among_first (among_one e 2 h));
    apart_own = λ e h g. let two = among_one e 2 g in elim (among_two e 1 0 h) [ inl q ↦ omega (arith, q, two) | inr q ↦ omega (arith, q, two) ];
    links = refl;
    gives = refl;
    seen = refl;
    delivered = refl;
    parts = refl;
    splits = refl;
    failed = refl;
    new_held = refl;
    new_half = refl;
    new_links = refl;
    new_gives = refl;
    new_seen = refl;
    new_delivered = refl;
    new_parts = refl;
    new_splits = refl;
    new_failed = refl;
  }

  f2 : Rule k0 (seat a2 (1 ∷ []) ∷ [])
  f2 = quiet (seat a1 (1 ∷ 2 ∷ []) ∷ []) f1 0 a1 a2 (1 ∷ 2 ∷ []) (1 ∷ []) refl refl refl

  d2 : AreDrawn none (seat a2 (1 ∷ []) ∷ [])
  d2 = draws_keep S none (seat a1 (1 ∷ 2 ∷ []) ∷ []) 0 (seat a1 (1 ∷ 2 ∷ [])) (seat a2 (1 ∷ [])) refl (λ e h. inl (among_first (among_one e 1 h))) d1

  f3 : Rule k0 (seat a2 (1 ∷ []) ∷ seat b2 [] ∷ [])
  f3 =
      let g = new_seats_keep S (Job S) IsJob P main first 8 k0 (seat a2 (1 ∷ []) ∷ []) f2.field (seat b2 []) (record { held = refl; half = refl; bears = refl; makes = refl; joined = refl; owes = refl; ready = refl; loaded = refl; seen = refl; still = refl }) in
      record { field = g.field; same_net = g.same_net ∙ f2.same_net; same_gave = g.same_gave ∙ f2.same_gave; same_role = g.same_role ∙ f2.same_role }

  d3 : AreDrawn none (seat a2 (1 ∷ []) ∷ seat b2 [] ∷ [])
  d3 = new_seats_draw S none (seat a2 (1 ∷ []) ∷ []) (seat b2 []) refl d2

  f4 : Rule k0 (seat a2 (1 ∷ []) ∷ seat b2 (2 ∷ []) ∷ [])
  f4 = quiet (seat a2 (1 ∷ []) ∷ seat b2 [] ∷ []) f3 1 b2 b2 [] (2 ∷ []) refl refl refl

  d4 : AreDrawn none (seat a2 (1 ∷ []) ∷ seat b2 (2 ∷ []) ∷ [])
  d4 = draws_keep S none (seat a2 (1 ∷ []) ∷ seat b2 [] ∷ []) 1 (seat b2 []) (seat b2 (2 ∷ [])) refl (λ e h. inr (record {
    none = refl;
    undrawn = λ j x sits b. elim (drawn_in e j a2 b2 (1 ∷ []) [] x sits b) [
      | inl p ↦ (let one = among_one e 1 p in let two = among_one e 2 h in omega (arith, one, two))
      | inr p ↦ elim p [ ]
    ];
  })) d3

  -- the new seat draws 3
  abbrev b5 : View
  b5 = record b2 { owned = 3 ∷ 2 ∷ [] }

  draws5 : Draws 8 3 4 1 b2 b5
  draws5 = record {
    most = omega (arith);
    may = refl;
    live = omega (arith);
    adds = refl;
    found = enough (omega (arith)) refl refl;
    held = refl;
    half = refl;
    links = refl;
    gives = refl;
    seen = refl;
    delivered = refl;
    parts = refl;
    splits = refl;
  }

  f5 : Rule k0 (seat a2 (1 ∷ []) ∷ seat b5 (3 ∷ 2 ∷ []) ∷ [])
  f5 = quiet (seat a2 (1 ∷ []) ∷ seat b2 (2 ∷ []) ∷ []) f4 1 b2 b5 (2 ∷ []) (3 ∷ 2 ∷ []) refl refl refl

  d5 : AreDrawn none (seat a2 (1 ∷ []) ∷ seat b5 (3 ∷ 2 ∷ []) ∷ [])
  d5 = draws_keep S none (seat a2 (1 ∷ []) ∷ seat b2 (2 ∷ []) ∷ []) 1 (seat b2 (2 ∷ [])) (seat b5 (3 ∷ 2 ∷ [])) refl drawn d4
    where
      free : (e : ℕ) → 3 ≡ e → IsFree none (seat a2 (1 ∷ []) ∷ seat b2 (2 ∷ []) ∷ []) e
      free e q = record {
        none = refl;
        undrawn = λ j x sits b. elim (drawn_in e j a2 b2 (1 ∷ []) (2 ∷ []) x sits b) [
          | inl p ↦ (let one = among_one e 1 p in omega (arith, one, q))
          | inr p ↦ (let two = among_one e 2 p in omega (arith, two, q))
        ];
      }

      drawn : (e : ℕ) → Among e (3 ∷ 2 ∷ []) → Among e (2 ∷ []) ⊎ IsFree none (seat a2 (1 ∷ []) ∷ seat b2 (2 ∷ []) ∷ []) e
      drawn e (among_first q) = inr (free e q)
      drawn e (among_later h) = inl h

  -- it is joined to the first: it has nothing then, and the first has all that was drawn
  abbrev gone : View
  gone = record { held = []; half = []; owned = []; links = []; gives = []; seen = []; delivered = 0; parts = 0; splits = 0; failed = 1 }

  abbrev a6 : View
  a6 = record a2 { owned = 1 ∷ 0 ∷ 3 ∷ 2 ∷ []; parts = 65537 }

  joins6 : Joins a2 b5 a6 gone
  joins6 = record {
    live = omega (arith);
    held = refl;
    half = refl;
    empty = refl;
    whole = refl;
    owned = refl;
    links = refl;
    gives = refl;
    seen = refl;
    delivered = refl;
    parts = refl;
    splits = refl;
    failed = refl;
    spent = refl;
  }

  f6 : Rule k0 (seat a2 (1 ∷ []) ∷ seat gone [] ∷ [])
  f6 = quiet (seat a2 (1 ∷ []) ∷ seat b5 (3 ∷ 2 ∷ []) ∷ []) f5 1 b5 gone (3 ∷ 2 ∷ []) [] refl refl refl

  d6 : AreDrawn none (seat a2 (1 ∷ []) ∷ seat gone [] ∷ [])
  d6 = draws_keep S none (seat a2 (1 ∷ []) ∷ seat b5 (3 ∷ 2 ∷ []) ∷ []) 1 (seat b5 (3 ∷ 2 ∷ [])) (seat gone []) refl (λ e h. elim h [ ]) d5

  f7 : Rule k0 (seat a6 (1 ∷ 3 ∷ 2 ∷ []) ∷ seat gone [] ∷ [])
  f7 = quiet (seat a2 (1 ∷ []) ∷ seat gone [] ∷ []) f6 0 a2 a6 (1 ∷ []) (1 ∷ 3 ∷ 2 ∷ []) refl refl refl

  d7 : AreDrawn none (seat a6 (1 ∷ 3 ∷ 2 ∷ []) ∷ seat gone [] ∷ [])
  d7 = draws_keep S none (seat a2 (1 ∷ []) ∷ seat gone [] ∷ []) 0 (seat a2 (1 ∷ [])) (seat a6 (1 ∷ 3 ∷ 2 ∷ [])) refl drawn d6
    where
      free : (e : ℕ) → (3 ≡ e) ⊎ (2 ≡ e) → IsFree none (seat a2 (1 ∷ []) ∷ seat gone [] ∷ []) e
      free e q = record {
        none = refl;
        undrawn = λ j x sits b. elim (drawn_in e j a2 gone (1 ∷ []) [] x sits b) [
          | inl p ↦ (let one = among_one e 1 p in elim q [ inl r ↦ omega (arith, one, r) | inr r ↦ omega (arith, one, r) ])
          | inr p ↦ elim p [ ]
        ];
      }

      drawn : (e : ℕ) → Among e (1 ∷ 3 ∷ 2 ∷ []) → Among e (1 ∷ []) ⊎ IsFree none (seat a2 (1 ∷ []) ∷ seat gone [] ∷ []) e
      drawn e (among_first q) = inl (among_first q)
      drawn e (among_later h) = inr (free e (among_two e 3 2 h))

  -- the first reads main's count and takes its job
  abbrev v8 : Sight S
  v8 = record (seat a6 (1 ∷ 3 ∷ 2 ∷ [])) { ready = 0 ∷ [] }

  f8 : Rule k0 (v8 ∷ seat gone [] ∷ [])
  f8 =
      let g = count_reads_keep S (Job S) IsJob P main first 8 k0 (seat a6 (1 ∷ 3 ∷ 2 ∷ []) ∷ seat gone [] ∷ []) f7.field 0 (seat a6 (1 ∷ 3 ∷ 2 ∷ [])) v8 0 (record { sits = refl; inside = omega (arith); spent = refl; ready = refl; seen = refl; still = refl; same = record { words = refl; bears = refl; makes = refl; loaded = refl; joined = refl; owes = refl } }) in
      record { field = g.field; same_net = g.same_net ∙ f7.same_net; same_gave = g.same_gave ∙ f7.same_gave; same_role = g.same_role ∙ f7.same_role }

  abbrev k9 : Parts (Job S)
  k9 = record k0 { bodies = λ t. cond (t == 0) 2 0; jobs = λ t. None }

  f9 : (d : Bearing S) × Rule k9 (record v8 { bears = d ∷ [] } ∷ seat gone [] ∷ [])
  f9 =
      let t = takes_keep S (Job S) IsJob P main first 8 k0 (v8 ∷ seat gone [] ∷ []) f8.field 0 v8 0 k9.bodies k9.jobs (record {
        sits = refl;
        found = among_first refl;
        one = refl;
        out = refl;
        empty = refl;
        other_bodies = λ j ne. else_ (j == 0) 2 0 (apart_from j 0 ne) ∙ sym (else_ (j == 0) 1 0 (apart_from j 0 ne));
        other_jobs = λ j ne. sym (else_ (j == 0) (Some j0) None (apart_from j 0 ne));
      }) in
      let g = t.keeps (record v8 { bears = t.bearing ∷ [] }) (record { words = refl; makes = refl; ready = refl; joined = refl; owes = refl; seen = refl }) refl refl refl in
      (t.bearing, record { field = g.field; same_net = g.same_net ∙ f8.same_net; same_gave = g.same_gave ∙ f8.same_gave; same_role = g.same_role ∙ f8.same_role })
