-- Seats that are split and joined, and a table at its start.
use Rattle.std.proofs.Common.{◌≡◌, ◌≢◌, ◌⊎◌, inl, inr, sym, subst, refl, ◌∙◌, ap, ℕ, zero, suc, ◌<◌, ◌≤◌, ◌+◌, ◌*◌, arith, Bool, true, false, ◌||◌, ◌==◌, cond, List, [], ◌∷◌, ◌++◌, length, set}
use Rattle.std.specs.Prelude.{slice_index}
use Rattle.std.proofs.lemmas.Bool.Decides.{eqb_tells}
use mathlib.Core.Option as maybe
use lib.ListN.{get_elem?}
use Rattle.atomic_table.specs.Table.{State, Splits as SeatSplits, Joins as SeatJoins}
use Rattle.atomic_table.proofs.Lists.{at_set, at_snoc, at_longer, set_else}
use Rattle.oss_words.specs.declared.entry.EntryState.{EntryState}
use Rattle.oss_words.specs.Bits.{state_at, state_word}
use Rattle.oss_words.specs.Net.{bare}
use Rattle.oss_words.specs.Rule.{Rule}
use Rattle.oss_words.specs.SeatSteps.{Splits, Joins}
use Rattle.oss_words.specs.Steps.{no_flags}
use Rattle.oss_words.specs.Views.{View, Among, among_first, among_later, At, first_view}
use Rattle.oss_words.proofs.CauseLemmas.{clash}
use Rattle.oss_words.proofs.RestLaw.{rule_opening}
use Rattle.oss_words.proofs.RuleLaw.{rule_split, rule_join}
use Rattle.oss_words.proofs.SeatLemmas.{among_none, among_left, among_append}
use Rattle.oss_words.proofs.SumLemmas.{same_number}
use Rattle.oss_word_net.specs.declared.sight.Sight.{Sight}
use Rattle.oss_word_net.specs.Known.{Known, first_known}
use Rattle.oss_word_net.specs.Moves.{is_in, left_over, keeping, handed, joined, spent}
use Rattle.oss_word_net.specs.Table.{states_of, infos_of, views_of, Sits, Neat, Knows, filled, Stands}
use Rattle.oss_word_net.proofs.TableLemmas.{view_at, at_here, views_set}

-- what is in a list of numbers
pub in_among : (e : ℕ) (xs : List ℕ) → is_in e xs ≡ true → Among e xs
in_among e [] q = absurd (clash q refl)
in_among e (x ∷ xs) q = go (x == e) (eqb_tells x e) (λ r. in_among e xs r) q
  where
    go : (b : Bool) → ((b ≡ true) × (x ≡ e)) ⊎ ((b ≡ false) × (x ≢ e)) → (is_in e xs ≡ true → Among e xs) → (b || is_in e xs) ≡ true → Among e (x ∷ xs)
    go true (inl t) f r = among_first t.1
    go true (inr t) f r = absurd (clash refl t.0)
    go false t f r = among_later (f r)

pub not_in : (e : ℕ) (xs : List ℕ) → is_in e xs ≡ false → Among e xs → ⊥
not_in e [] q a = elim a [ ]
not_in e (x ∷ xs) q a = go (x == e) (eqb_tells x e) (λ r. not_in e xs r) q a
  where
    go : (b : Bool) → ((b ≡ true) × (x ≡ e)) ⊎ ((b ≡ false) × (x ≢ e)) → (is_in e xs ≡ false → Among e xs → ⊥) → (b || is_in e xs) ≡ false → Among e (x ∷ xs) → ⊥
    go true t f r a = clash refl r
    go false (inl t) f r a = clash t.0 refl
    go false (inr t) f r a = elim a [ among_first p ↦ t.1 p | among_later k ↦ f r k ]

-- what is left over was there, and is not in the hand
pub left_is : (hand xs : List ℕ) (e : ℕ) → Among e (left_over hand xs) → Among e xs × (Among e hand → ⊥)
left_is hand [] e a = elim a [ ]
left_is hand (x ∷ xs) e a = go (is_in x hand) refl (λ k. left_is hand xs e k) a
  where
    go : (b : Bool) → is_in x hand ≡ b → (Among e (left_over hand xs) → Among e xs × (Among e hand → ⊥)) → Among e (cond b (left_over hand xs) (x ∷ left_over hand xs)) → Among e (x ∷ xs) × (Among e hand → ⊥)
    go true q f a = let r = f a in (among_later r.0, r.1)
    go false q f a = elim a [
      | among_first p ↦ (among_first p, λ h. not_in x hand q (subst (λ (z : ℕ). Among z hand) (sym p) h))
      | among_later k ↦ let r = f k in (among_later r.0, r.1)
    ]

map_snoc : (xs : List Sight) (x : Sight) → views_of (xs ++ x ∷ []) ≡ views_of xs ++ x.known.view ∷ []
map_snoc [] x = refl
map_snoc (y ∷ xs) x = ap (λ (z : List View). y.known.view ∷ z) (map_snoc xs x)

abbrev pub with : Known → Sight
with k = record { known = k }

pub splits : (n : ℕ) (s : Sight) (hand : List ℕ) → s.known.view.splits < 65536 → s.known.filling ≡ [] → s.known.view.parts ≢ 0 → ((e : ℕ) → Among e hand → Among e s.known.view.owned)
    → SeatSplits (λ (z : State ℕ Sight). Stands n z.words z.views) 0 s (with (keeping hand s.known)) (with (handed hand s.known))
splits n s hand few idle live mine z stands at =
    let ws = z.words in
    let sights = z.views in
    let l : Sight = with (keeping hand s.known) in
    let r : Sight = with (handed hand s.known) in
    let first = stands.first s at in
    let cut : Splits s.known.view l.known.view r.known.view = record {
      more = (let a = first.1 in omega (arith, a, few));
      held = refl;
      half = refl;
      stay = λ e a. (left_is hand s.known.view.owned e a).0;
      hand = mine;
      apart_own = λ e a b. (left_is hand s.known.view.owned e a).1 b;
      links = refl;
      gives = refl;
      seen = refl;
      delivered = refl;
      parts = (let a = first.1 in omega (arith, a, few));
      splits = refl;
      failed = refl;
      new_held = refl;
      new_half = refl;
      new_links = refl;
      new_gives = refl;
      new_seen = refl;
      new_delivered = refl;
      new_parts = refl;
      new_splits = refl;
      new_failed = refl;
    } in
    let rule = rule_split n stands.net stands.gave (states_of ws) (infos_of ws) (slice_index ws 0) (views_of sights) stands.rule s.known.view l.known.view r.known.view (view_at sights 0 s at) cut in
    let now : List Sight = set sights 0 l ++ r ∷ [] in
    let here : Sits now 0 l = at_longer (set sights 0 l) (r ∷ []) 0 l (at_here sights 0 s l at) in
    let old = stands.knows 0 s at in
    record {
      net = stands.net;
      gave = stands.gave;
      size = stands.size;
      rule = subst (λ (v : List View). Rule n stands.net stands.gave (states_of ws) (infos_of ws) (slice_index ws 0) v) (sym (map_snoc (set sights 0 l) r ∙ ap (λ (v : List View). v ++ r.known.view ∷ []) (views_set sights 0 l))) rule;
      whole = stands.whole;
      neat = stands.neat;
      knows = λ j t sits. elim (at_snoc (set sights 0 l) r t j sits) [
        | inl q ↦ elim (at_set sights 0 j l t q) [
          | inl h ↦ subst (λ (x : Sight). Knows n stands.net (states_of ws) (infos_of ws) x.known) h.1 record {
            told = old.told;
            filling = λ f fs p. let c : f ∷ fs ≡ [] = sym p ∙ idle in absurd (cc);
            entries = λ ne. old.entries live;
            spent = λ p. absurd (let a = first.1 in omega (arith, a, few, p));
          }
          | inr h ↦ stands.knows j t h.1
        ]
        | inr q ↦ subst (λ (x : Sight). Knows n stands.net (states_of ws) (infos_of ws) x.known) q record {
          told = old.told;
          filling = λ f fs p. let c : f ∷ fs ≡ [] = sym p in absurd (cc);
          entries = λ ne. old.entries live;
          spent = λ p. absurd (omega (arith, p));
        }
      ];
      first = λ t sits.
          let is : l ≡ t = maybe.some-injective l t (sym here ∙ sits) in
          subst (λ (x : Sight). (x.known.view.splits ≤ 65536) × (65537 ≤ x.known.view.parts + x.known.view.splits)) is (omega (arith, few), (let a = first.1 in omega (arith, a, few)));
      blank = λ e a. elim (stands.blank e a) [
        | inl q ↦ inl q
        | inr f ↦ inr (elim f [
          | filled j t sits g gs q is ↦ elim (same_number j 0) [
            | inl h ↦
                let same : t ≡ s = maybe.some-injective t s (sym sits ∙ (ap (λ (k : ℕ). get_elem? sights k) h ∙ at)) in
                let c : g ∷ gs ≡ [] = sym q ∙ (ap (λ (x : Sight). x.known.filling) same ∙ idle) in absurd (cc)
            | inr h ↦ filled j t (at_longer (set sights 0 l) (r ∷ []) j t (set_else sights 0 j l h ∙ sits)) g gs q is
          ]
        ])
      ];
    }

at_inside : {A : Type 0} (l : List A) (i : ℕ) (a : A) → get_elem? l i ≡ maybe.some a → i < length l
at_inside [] i a e = absurd (maybe.some-ne-none a (sym e))
at_inside (x ∷ l) zero a e = omega arith
at_inside (x ∷ l) (suc i) a e = let r = at_inside l i a e in omega (arith, r)

pub joins : (n id : ℕ) (s : Sight) (other : ℕ) (x : Sight) → x.known.view.splits ≡ 0 → s.known.view.parts ≢ 0 → x.known.view.held ≡ [] → x.known.view.half ≡ [] → x.known.filling ≡ [] → s.known.entries ≡ n
    → SeatJoins (λ (z : State ℕ Sight). Stands n z.words z.views) id s other x (with (joined s.known x.known)) (with spent)
joins n id s other x unsplit live empty whole idle size z stands at differ there =
    let ws = z.words in
    let sights = z.views in
    let b : Sight = with (joined s.known x.known) in
    let y : Sight = with spent in
    let bt : Sits sights other x = sym (set_else sights id other b differ) ∙ there in
    let not_first : other ≢ 0 = λ q.
    let l = stands.rule.seats.seats x.known.view (subst (λ (j : ℕ). At (views_of sights) j x.known.view) q (view_at sights other x bt)) in
    let i = at_inside (views_of sights) id s.known.view (view_at sights id s at) in
    differ (omega (arith, q, l, i, unsplit)) in
    let join : Joins s.known.view x.known.view b.known.view y.known.view = record {
      live = grind (arith, live);
      held = refl;
      half = refl;
      empty = empty;
      whole = whole;
      owned = refl;
      links = refl;
      gives = refl;
      seen = refl;
      delivered = refl;
      parts = refl;
      splits = refl;
      failed = refl;
      spent = refl;
    } in
    let rule = rule_join n stands.net stands.gave (states_of ws) (infos_of ws) (slice_index ws 0) (views_of sights) stands.rule id other s.known.view x.known.view b.known.view y.known.view (λ q. differ (sym q)) not_first (view_at sights id s at) (view_at sights other x bt) join in
    let old = stands.knows id s at in
    let theirs = stands.knows other x bt in
    record {
      net = stands.net;
      gave = stands.gave;
      size = stands.size;
      rule = subst (λ (v : List View). Rule n stands.net stands.gave (states_of ws) (infos_of ws) (slice_index ws 0) v) (sym (views_set (set sights id b) other y ∙ ap (λ (v : List View). set v other y.known.view) (views_set sights id b))) rule;
      whole = stands.whole;
      neat = stands.neat;
      knows = λ j t sits. elim (at_set (set sights id b) other j y t sits) [
        | inl h ↦ subst (λ (u : Sight). Knows n stands.net (states_of ws) (infos_of ws) u.known) h.1 record {
          told = λ u m. among_none u m;
          filling = λ f fs p. let c : f ∷ fs ≡ [] = sym p in absurd (cc);
          entries = λ ne. absurd (ne refl);
          spent = λ p. (refl, refl, refl);
        }
        | inr h ↦ elim (at_set sights id j b t h.1) [
          | inl k ↦ subst (λ (u : Sight). Knows n stands.net (states_of ws) (infos_of ws) u.known) k.1 record {
            told = λ u m. elim (among_append u s.known.told x.known.told m) [ inl a ↦ old.told u a | inr a ↦ theirs.told u a ];
            filling = λ f fs p. let q = old.filling f fs p in (q.0, among_left f.entry s.known.view.owned x.known.view.owned q.1, q.2, q.3);
            entries = λ ne. size;
            spent = λ p. absurd (live (omega (arith, p)));
          }
          | inr k ↦ stands.knows j t k.1
        ]
      ];
      first = λ t sits. elim (at_set (set sights id b) other 0 y t sits) [
        | inl h ↦ absurd (not_first (sym h.0))
        | inr h ↦ elim (at_set sights id 0 b t h.1) [
          | inl k ↦
              let o = stands.first s (ap (λ (j : ℕ). get_elem? sights j) k.0 ∙ at) in
              subst (λ (u : Sight). (u.known.view.splits ≤ 65536) × (65537 ≤ u.known.view.parts + u.known.view.splits)) k.1 (o.0, (let a = o.1 in omega (arith, a)))
          | inr k ↦ stands.first t k.1
        ]
      ];
      blank = λ e a. elim (stands.blank e a) [
        | inl q ↦ inl q
        | inr f ↦ inr (elim f [
          | filled j t sits g gs q is ↦ elim (same_number j other) [
            | inl h ↦
                let same : t ≡ x = maybe.some-injective t x (sym sits ∙ (ap (λ (k : ℕ). get_elem? sights k) h ∙ bt)) in
                let c : g ∷ gs ≡ [] = sym q ∙ (ap (λ (u : Sight). u.known.filling) same ∙ idle) in absurd (cc)
            | inr h ↦ elim (same_number j id) [
              | inl k ↦
                  let same : t ≡ s = maybe.some-injective t s (sym sits ∙ (ap (λ (i : ℕ). get_elem? sights i) k ∙ at)) in
                  filled id b (set_else (set sights id b) other id y (λ p. differ (sym p)) ∙ at_here sights id s b at) g gs (sym (ap (λ (u : Sight). u.known.filling) same) ∙ q) is
              | inr k ↦ filled j t (set_else (set sights id b) other j y h ∙ (set_else sights id j b k ∙ sits)) g gs q is
            ]
          ]
        ])
      ];
    }

-- a table of which the first word is 1 and each other is 0
pub opening : (n : ℕ) (ws : List ℕ) → 0 < n → n ≤ 16777216 → length ws ≡ 1 + 2 * n → slice_index ws 0 ≡ 1 → ((k : ℕ) → 0 < k → slice_index ws k ≡ 0) → Stands n ws (with (first_known n) ∷ [])
opening n ws some small size one zeros =
    record {
      net = bare;
      gave = λ e. false;
      size = size;
      rule = subst (λ (d : ℕ). Rule n bare (λ e. false) (states_of ws) (infos_of ws) d (first_view ∷ [])) (sym one)
          (subst (λ (f : ℕ → EntryState). Rule n bare (λ e. false) f (infos_of ws) 1 (first_view ∷ [])) (sym (flags_are ws zeros)) (rule_opening n (infos_of ws) some small));
      whole = λ e. zeros (1 + 2 * e) (omega arith) ∙ sym (ap state_word (λ i. flags_are ws zeros i e));
      neat = λ e. subst Neat (sym (λ i. flags_are ws zeros i e)) (record { next = λ q. (refl, refl, refl); child = λ q. (refl, refl, refl); left = refl });
      knows = λ j t sits. subst (λ (x : Sight). Knows n bare (states_of ws) (infos_of ws) x.known) (only j t sits) record {
        told = λ u m. among_none u m;
        filling = λ f fs p. let c : f ∷ fs ≡ [] = sym p in absurd (cc);
        entries = λ ne. refl;
        spent = λ p. absurd (omega (arith, p));
      };
      first = λ t sits. subst (λ (x : Sight). (x.known.view.splits ≤ 65536) × (65537 ≤ x.known.view.parts + x.known.view.splits)) (only 0 t sits) (omega arith, omega arith);
      blank = λ e a. inl (λ i. flags_are ws zeros i e);
    }
  where
    flags_are : (ws : List ℕ) → ((k : ℕ) → 0 < k → slice_index ws k ≡ 0) → states_of ws ≡ (λ (e : ℕ). no_flags)
    flags_are ws zeros = λ i e. state_at (zeros (1 + 2 * e) (omega arith) i)

    only : (j : ℕ) (t : Sight) → Sits (with (first_known n) ∷ []) j t → with (first_known n) ≡ t
    only zero t sits = maybe.some-injective (with (first_known n)) t sits
    only (suc j) t sits = absurd (maybe.some-ne-none t (sym sits))
