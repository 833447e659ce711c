-- A draw of entries.
use Rattle.std.proofs.Common.{◌≡◌, ◌≢◌, inl, inr, sym, subst, refl, ◌∙◌, ap, ℕ, ◌<◌, ◌≤◌, ◌+◌, ◌*◌, ◌%◌, ◌^◌, suc, arith, List, [], ◌∷◌, length, set, lt_of_not-le}
use Rattle.std.proofs.Math.Nat.{mod-eq_of_lt}
use Rattle.oss_words.proofs.SeatLemmas.{among_right}
use Rattle.std.specs.Prelude.{slice_index}
use Rattle.std.proofs.lemmas.List.{get_or-set_same, get_or-set_other, length-set}
use Rattle.atomic_table.specs.Table.{step}
use mathlib.Core.Option as maybe
use mathlib.Core.Logic.{dite}
use native.Mathlib.Decide.{dec_le}
use Rattle.oss_words.specs.declared.entry.EntryState.{EntryState}
use Rattle.oss_words.specs.declared.entry.EntryInfo.{EntryInfo}
use Rattle.oss_words.specs.Bits.{state_at, state_word, info_at}
use Rattle.oss_words.specs.Rule.{Rule}
use Rattle.oss_words.specs.SeatSteps.{Draws, Drawing, enough, too_few, numbers}
use Rattle.oss_words.specs.Sums.{total}
use Rattle.oss_words.specs.Net.{Place}
use Rattle.oss_words.specs.Views.{View, Among, At}
use Rattle.oss_words.proofs.RuleLaw.{rule_draw}
use Rattle.oss_word_net.specs.declared.sight.Sight.{Sight}
use Rattle.oss_word_net.specs.Moves.{drew, missed}
use Rattle.oss_word_net.specs.Plays as plays
use Rattle.oss_word_net.specs.Table.{states_of, infos_of, views_of, Sits, Neat, Knows, Stands}
use Rattle.oss_word_net.proofs.TableLemmas.{view_at, views_set, others_know, still_filled, first_stays, Steps}

-- all views have failed at most once each, and there are at most 65,537
failed_few : (views : List View) → ((id : ℕ) (v : View) → At views id v → v.failed ≤ 1) → total (λ (v : View). v.failed) views ≤ length views
failed_few [] h = omega arith
failed_few (v ∷ views) h = let a = h 0 v refl in let b = failed_few views (λ id w at. h (suc id) w at) in omega (arith, a, b)

module _ (n : ℕ) (ws : List ℕ) (sights : List Sight) (stands : Stands n ws sights) (id : ℕ) (s s' : Sight) (at : Sits sights id s) (count : ℕ) where
  abbrev pub x : ℕ
  x = slice_index ws 0

  abbrev pub after : List ℕ
  after = set ws 0 (x + count)

  states_stay : states_of after ≡ states_of ws
  states_stay = λ i e. state_at (get_or-set_other ws 0 (1 + 2 * e) (x + count) 0 (λ q. absurd (omega (arith, q))) i)

  infos_stay : infos_of after ≡ infos_of ws
  infos_stay = λ i e. info_at (get_or-set_other ws 0 (2 + 2 * e) (x + count) 0 (λ q. absurd (omega (arith, q))) i)

  draw_here : slice_index after 0 ≡ x + count
  draw_here = get_or-set_same ws 0 (x + count) 0 (let q = stands.size in omega (arith, q))

  pub drawn_stands : Rule n stands.net stands.gave (states_of ws) (infos_of ws) (x + count) (set (views_of sights) id s'.known.view)
      → Knows n stands.net (states_of ws) (infos_of ws) s'.known → s'.known.filling ≡ s.known.filling → s'.known.view.parts ≡ s.known.view.parts → s'.known.view.splits ≡ s.known.view.splits → Stands n after (set sights id s')
  drawn_stands rule knows same parts splits = record {
    first = first_stays n ws sights stands id s s' at parts splits;
    net = stands.net;
    gave = stands.gave;
    size = length-set ws 0 (x + count) ∙ stands.size;
    rule = subst (λ (z : List View). Rule n stands.net stands.gave (states_of after) (infos_of after) (slice_index after 0) z) (sym (views_set sights id s'))
        (subst (λ (z : ℕ). Rule n stands.net stands.gave (states_of after) (infos_of after) z (set (views_of sights) id s'.known.view)) (sym draw_here)
        (subst (λ (g : ℕ → EntryInfo). Rule n stands.net stands.gave (states_of after) g (x + count) (set (views_of sights) id s'.known.view)) (sym infos_stay)
        (subst (λ (f : ℕ → EntryState). Rule n stands.net stands.gave f (infos_of ws) (x + count) (set (views_of sights) id s'.known.view)) (sym states_stay) rule)));
    whole = λ e. get_or-set_other ws 0 (1 + 2 * e) (x + count) 0 (λ q. absurd (omega (arith, q))) ∙ stands.whole e ∙ ap (λ (f : ℕ → EntryState). state_word (f e)) (sym states_stay);
    neat = λ e. subst (λ (f : ℕ → EntryState). Neat (f e)) (sym states_stay) (stands.neat e);
    knows = λ j t sits. subst (λ (f : ℕ → EntryState). Knows n stands.net f (infos_of after) t.known) (sym states_stay)
        (subst (λ (g : ℕ → EntryInfo). Knows n stands.net (states_of ws) g t.known) (sym infos_stay)
        (others_know n stands.net stands.net stands.gave (states_of ws) (states_of ws) (infos_of ws) (infos_of ws) x sights id s s' stands.rule at stands.knows (λ e h. (h, refl)) (λ e a m. (a, refl, refl)) knows j t sits));
    blank = λ e a. elim (stands.blank e a) [
      | inl q ↦ inl (ap (λ (f : ℕ → EntryState). f e) states_stay ∙ q)
      | inr f ↦ inr (still_filled sights id s s' e at f (λ g gs q is. (g, gs, same ∙ q, is)))
    ];
  }

-- the draw word stays below 2 ^ 41
pub draw_small : (n : ℕ) (ws : List ℕ) (sights : List Sight) → Stands n ws sights → (id : ℕ) (s : Sight) → Sits sights id s → slice_index ws 0 ≤ 1099545182208
draw_small n ws [] stands id s at = absurd (maybe.some-ne-none s (sym at))
draw_small n ws (z ∷ sights) stands id s at =
    let seats = stands.rule.seats in
    let few = failed_few (views_of (z ∷ sights)) seats.failed in
    let long = seats.seats z.known.view refl in
    let most = (stands.first z refl).0 in
    let d = seats.drawn in
    omega (arith, few, long, most, d)

mod_small : (x m : ℕ) → x < m → x % m ≡ x
mod_small x m h = mod-eq_of_lt h

pub draws : (n id : ℕ) (s : Sight) (count : ℕ) → count ≤ 16777216 → s.known.view.failed ≡ 0 → s.known.view.parts ≢ 0 → s.known.entries ≡ n
    → Steps n id s 0 (λ x. (x + count) % 2 ^ 64) (plays.Draws (step 0 0 count 0 maybe.none) (s, []))
draws n id s count most may live size ws sights stands at =
    let x : ℕ = slice_index ws 0 in
    let low : x ≤ 1099545182208 = draw_small n ws sights stands id s at in
    let word : (x + count) % 2 ^ 64 ≡ x + count = mod_small (x + count) (2 ^ 64) (omega (arith, low, most)) in
    let old = stands.knows id s at in
    let seats = stands.rule.seats in
    let owns : (e : ℕ) → Among e s.known.view.owned → e < x = (λ e m. (seats.owned_drawn id s.known.view (view_at sights id s at) e m).0) in
    let linked : (e : ℕ) (p : Place) → Among (record { entry = e; place = p }) s.known.view.links → e < x =
    (λ e p m. let r = seats.named_link id s.known.view (view_at sights id s at) (record { entry = e; place = p }) m in seats.hung_drawn e (λ q. r.1 (sym r.0 ∙ q))) in
    subst (λ (y : ℕ). (s' : Sight) × Stands n (set ws 0 y) (set sights id s') × plays.Draws (step 0 0 count 0 maybe.none) (s, []) x (s', [])) (sym word) (dite (dec_le (x + count) n)
    (λ le.
    let s' : Sight = record { known = drew count x s.known } in
    let knows : Knows n stands.net (states_of ws) (infos_of ws) s'.known = record {
      told = old.told;
      filling = λ f fs q. let k = old.filling f fs q in (k.0, among_right f.entry (numbers x count) s.known.view.owned k.1, k.2, k.3);
      entries = old.entries;
      spent = old.spent;
    } in
    let found : Drawing n x count s.known.view s'.known.view = enough le refl refl in
    let step_is : Draws n x (x + count) count s.known.view s'.known.view = record { most = most; may = may; live = grind (arith, live); adds = refl; found = found; held = refl; half = refl; links = refl; gives = refl; seen = refl; delivered = refl; parts = refl; splits = refl } in
    let rule = rule_draw n stands.net stands.gave (states_of ws) (infos_of ws) x (views_of sights) stands.rule (x + count) count id s.known.view s'.known.view (view_at sights id s at) step_is in
    (s', drawn_stands n ws sights stands id s s' at count rule knows refl refl refl, (refl, omega (arith, low), owns, seats.main_drawn, linked, (λ _. refl), (λ lt. absurd (omega (arith, lt, le, size))))))
    (λ gt.
    let more : n < x + count = lt_of_not-le gt in
    let s' : Sight = record { known = missed x s.known } in
    let knows : Knows n stands.net (states_of ws) (infos_of ws) s'.known = record { told = old.told; filling = old.filling; entries = old.entries; spent = old.spent } in
    let found : Drawing n x count s.known.view s'.known.view = too_few more refl refl in
    let step_is : Draws n x (x + count) count s.known.view s'.known.view = record { most = most; may = may; live = grind (arith, live); adds = refl; found = found; held = refl; half = refl; links = refl; gives = refl; seen = refl; delivered = refl; parts = refl; splits = refl } in
    let rule = rule_draw n stands.net stands.gave (states_of ws) (infos_of ws) x (views_of sights) stands.rule (x + count) count id s.known.view s'.known.view (view_at sights id s at) step_is in
    (s', drawn_stands n ws sights stands id s s' at count rule knows refl refl refl, (refl, omega (arith, low), owns, seats.main_drawn, linked, (λ le. absurd (omega (arith, le, more, size))), (λ _. refl)))))
