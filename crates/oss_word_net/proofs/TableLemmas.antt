-- The words of a table behind a change of one of them, what the other seats know then, and what a step of a table with no slot asks.
use Rattle.std.proofs.Common.{◌≡◌, ◌≢◌, inl, inr, sym, subst, refl, ◌∙◌, ap, ℕ, zero, suc, ◌<◌, ◌≤◌, ◌+◌, ◌*◌, ◌%◌, ◌^◌, arith, Bool, List, [], ◌∷◌, length, set}
use Rattle.std.specs.Prelude.{slice_index}
use mathlib.Core.Option as maybe
use lib.ListN.{get_elem?}
use Rattle.std.proofs.lemmas.List.{get_or-set_same, get_or-set_other, length-set, set-get_or}
use Rattle.std.proofs.Math.Seq.{map-set}
use Rattle.atomic_table.specs.Table.{State, Me, Step, step, Allows, keeps}
use Rattle.atomic_table.proofs.Lists.{at_set, at_map, set_again, set_else}
use Rattle.oss_words.proofs.SumLemmas.{same_number}
use Rattle.oss_words.specs.declared.entry.EntryState.{EntryState}
use Rattle.oss_words.specs.declared.entry.EntryInfo.{EntryInfo}
use Rattle.oss_words.specs.Bits.{state_at, info_at}
use Rattle.oss_words.specs.Net.{Net, apart}
use Rattle.oss_words.specs.Rule.{Rule}
use Rattle.oss_words.specs.Views.{View, Among, At}
use Rattle.oss_word_net.specs.declared.sight.Sight.{Sight}
use Rattle.oss_word_net.specs.Known.{Filling, OneInfo}
use Rattle.oss_word_net.specs.Table.{states_of, infos_of, views_of, Sits, Knows, Filled, filled, Stands}

-- the view of a seat among the views
pub view_at : (sights : List Sight) (id : ℕ) (s : Sight) → Sits sights id s → At (views_of sights) id s.known.view
view_at sights id s at = at_map (λ (s : Sight). s.known.view) sights id s at

-- what a seat was told of an entry is what its info word says
pub one_info : (n : ℕ) (ws : List ℕ) (sights : List Sight) → Stands n ws sights → (id : ℕ) (s : Sight) → Sits sights id s → OneInfo s.known
one_info n ws sights stands id s at e i j a b =
    let knows = stands.knows id s at in
    sym (knows.told (record { entry = e; info = i }) a).1 ∙ (knows.told (record { entry = e; info = j }) b).1

-- a seat that is changed stands where it stood
pub at_here : (sights : List Sight) (id : ℕ) (s s' : Sight) → Sits sights id s → Sits (set sights id s') id s'
at_here [] id s s' at = absurd (maybe.some-ne-none s (sym at))
at_here (x ∷ xs) zero s s' at = refl
at_here (x ∷ xs) (suc id) s s' at = at_here xs id s s' at

-- and back: a view among the views is that of a seat
pub sight_at : (sights : List Sight) (id : ℕ) (v : View) → At (views_of sights) id v → (s : Sight) × Sits sights id s × (s.known.view ≡ v)
sight_at [] id v at = absurd (maybe.some-ne-none v (sym at))
sight_at (s ∷ sights) zero v at = (s, refl, maybe.some-injective s.known.view v at)
sight_at (s ∷ sights) (suc id) v at = sight_at sights id v at

module _ (ws : List ℕ) (o : ℕ) (x : ℕ) (inside : 1 + 2 * o < length ws) where
  abbrev after : List ℕ
  after = set ws (1 + 2 * o) x

  pub state_here : (c : EntryState) → state_at x ≡ c → states_of after o ≡ c
  state_here c is = ap state_at (get_or-set_same ws (1 + 2 * o) x 0 inside) ∙ is

  pub state_else : (j : ℕ) → j ≢ o → states_of after j ≡ states_of ws j
  state_else j ne = ap state_at (get_or-set_other ws (1 + 2 * o) (1 + 2 * j) x 0 (λ q. ne (omega (arith, q))))

  pub infos_stay : infos_of after ≡ infos_of ws
  infos_stay = λ i e. info_at (get_or-set_other ws (1 + 2 * o) (2 + 2 * e) x 0 (λ q. absurd (omega (arith, q))) i)

  pub draw_stays : slice_index after 0 ≡ slice_index ws 0
  draw_stays = get_or-set_other ws (1 + 2 * o) 0 x 0 (λ q. absurd (omega (arith, q)))

  pub length_stays : (n : ℕ) → length ws ≡ 1 + 2 * n → length after ≡ 1 + 2 * n
  length_stays n size = length-set ws (1 + 2 * o) x ∙ size

-- what the other seats know stays so, where their entries and those that hang stay as they were
pub others_know : (n : ℕ) (net net' : Net) (gave : ℕ → Bool) (states states' : ℕ → EntryState) (infos infos' : ℕ → EntryInfo) (draw : ℕ) (sights : List Sight) (id : ℕ) (s s' : Sight)
    → Rule n net gave states infos draw (views_of sights) → Sits sights id s → ((j : ℕ) (t : Sight) → Sits sights j t → Knows n net states infos t.known)
    → ((e : ℕ) → net.place e ≢ apart → (net'.place e ≢ apart) × (infos' e ≡ infos e))
    → ((e : ℕ) → net.place e ≡ apart → (Among e s.known.view.owned → ⊥) → (net'.place e ≡ apart) × (states' e ≡ states e) × (infos' e ≡ infos e))
    → Knows n net' states' infos' s'.known
    → (j : ℕ) (t : Sight) → Sits (set sights id s') j t → Knows n net' states' infos' t.known
others_know n net net' gave states states' infos infos' draw sights id s s' rule at knows hung loose mine j t sits = elim (at_set sights id j s' t sits) [
  | inl h ↦ subst (λ (z : Sight). Knows n net' states' infos' z.known) h.1 mine
  | inr h ↦
      let k = knows j t h.1 in record {
        told = λ u m. let old = k.told u m in let new = hung u.entry old.0 in (new.0, new.1 ∙ old.1);
        filling = λ f fs q.
            let old = k.filling f fs q in
            let new = loose f.entry old.0 (λ own. h.0 (rule.seats.one_owner j id t.known.view s.known.view (view_at sights j t h.1) (view_at sights id s at) f.entry old.1 own)) in
            (new.0, old.1, new.1 ∙ old.2, new.2 ∙ old.3);
        spent = k.spent;
        entries = k.entries;
      }
]

-- an entry that another seat is filling is still being filled
pub still_filled : (sights : List Sight) (id : ℕ) (s s' : Sight) (e : ℕ) → Sits sights id s → Filled sights e → ((f : Filling) (fs : List Filling) → s.known.filling ≡ f ∷ fs → f.entry ≡ e → (g : Filling) × (gs : List Filling) × (s'.known.filling ≡ g ∷ gs) × (g.entry ≡ e)) → Filled (set sights id s') e
still_filled sights id s s' e at (filled j t sits f fs q is) mine = elim (same_number j id) [
  | inl h ↦
      let here : t ≡ s = maybe.some-injective t s (sym sits ∙ (ap (λ (k : ℕ). get_elem? sights k) h ∙ at)) in
      let g = mine f fs (subst (λ (z : Sight). z.known.filling ≡ f ∷ fs) here q) is in
      filled id s' (at_here sights id s s' at) g.0 g.1 g.2 g.3
  | inr h ↦ filled j t (set_else sights id j s' h ∙ sits) f fs q is
]

-- the first seat was split as often, and has as many parts
pub first_stays : (n : ℕ) (ws : List ℕ) (sights : List Sight) → Stands n ws sights → (id : ℕ) (s s' : Sight) → Sits sights id s → s'.known.view.parts ≡ s.known.view.parts → s'.known.view.splits ≡ s.known.view.splits
    → (t : Sight) → Sits (set sights id s') 0 t → (t.known.view.splits ≤ 65536) × (65537 ≤ t.known.view.parts + t.known.view.splits)
first_stays n ws sights stands id s s' at parts splits t sits = elim (at_set sights id 0 s' t sits) [
  | inl h ↦
      let k = stands.first s (ap (λ (j : ℕ). get_elem? sights j) h.0 ∙ at) in
      subst (λ (z : Sight). (z.known.view.splits ≤ 65536) × (65537 ≤ z.known.view.parts + z.known.view.splits)) h.1 ((let a = k.0 in omega (arith, a, splits)), (let b = k.1 in omega (arith, b, parts, splits)))
  | inr h ↦ stands.first t h.1
]

-- what a step of a seat on one word of a table with no slot asks
abbrev pub Steps : ℕ → ℕ → Sight → ℕ → (ℕ → ℕ) → (ℕ → Me ℕ Sight → Type 0) → Type 0
Steps n id s i f then = (ws : List ℕ) (sights : List Sight) → Stands n ws sights → Sits sights id s → (s' : Sight) × Stands n (set ws i (f (slice_index ws i))) (set sights id s') × then (slice_index ws i) (s', [])

pub allowed : (n slots id : ℕ) (s : Sight) (i : ℕ) (f : ℕ → ℕ) (then : ℕ → Me ℕ Sight → Type 0) → Steps n id s i f then → Allows (λ (z : State ℕ Sight). Stands n z.words z.views) slots id (s, []) i f then
allowed n slots id s i f then h z stands size at small = let r = h z.words z.views stands at in (r.0, keeps, tt, r.1, r.2)

-- the views behind a change of one seat
pub views_set : (sights : List Sight) (id : ℕ) (s' : Sight) → views_of (set sights id s') ≡ set (views_of sights) id s'.known.view
views_set sights id s' = map-set (λ (s : Sight). s.known.view) sights id s'

module _ (n : ℕ) (ws : List ℕ) (sights : List Sight) (stands : Stands n ws sights) (id : ℕ) (s s' : Sight) (at : Sits sights id s) where
  -- a step that changes no word, and of the views its own alone
  pub views_change : Rule n stands.net stands.gave (states_of ws) (infos_of ws) (slice_index ws 0) (set (views_of sights) id s'.known.view)
      → Knows n stands.net (states_of ws) (infos_of ws) s'.known → s'.known.filling ≡ s.known.filling → s'.known.view.parts ≡ s.known.view.parts → s'.known.view.splits ≡ s.known.view.splits → Stands n ws (set sights id s')
  views_change rule knows same parts splits = record {
    first = first_stays n ws sights stands id s s' at parts splits;
    net = stands.net;
    gave = stands.gave;
    size = stands.size;
    rule = subst (λ (z : List View). Rule n stands.net stands.gave (states_of ws) (infos_of ws) (slice_index ws 0) z) (sym (views_set sights id s')) rule;
    whole = stands.whole;
    neat = stands.neat;
    knows = others_know n stands.net stands.net stands.gave (states_of ws) (states_of ws) (infos_of ws) (infos_of ws) (slice_index ws 0) sights id s s' stands.rule at stands.knows (λ e h. (h, refl)) (λ e a m. (a, refl, refl)) knows;
    blank = λ e a. elim (stands.blank e a) [
      | inl q ↦ inl q
      | inr f ↦ inr (still_filled sights id s s' e at f (λ g gs q is. (g, gs, same ∙ q, is)))
    ];
  }

  -- the same, where the view is as it was
  pub view_stays : s'.known.view ≡ s.known.view → Knows n stands.net (states_of ws) (infos_of ws) s'.known → s'.known.filling ≡ s.known.filling → Stands n ws (set sights id s')
  view_stays view knows same = views_change
      (subst (λ (z : List View). Rule n stands.net stands.gave (states_of ws) (infos_of ws) (slice_index ws 0) z) (sym (ap (λ (v : View). set (views_of sights) id v) view ∙ set_again (views_of sights) id s.known.view (view_at sights id s at))) stands.rule)
      knows same (ap (λ (v : View). v.parts) view) (ap (λ (v : View). v.splits) view)

-- a word that was read is as it was
pub read_stands : (n i : ℕ) (ws : List ℕ) (sights : List Sight) → Stands n ws sights → Stands n (set ws i (slice_index ws i)) sights
read_stands n i ws sights stands = subst (λ (z : List ℕ). Stands n z sights) (sym (set-get_or ws i 0)) stands

-- the same, as a step of the table asks it
pub allow : (tell : Step ℕ → Me ℕ Sight → ℕ → Me ℕ Sight → Type 0) (n slots id i j a b : ℕ) (me : Me ℕ Sight) (f : ℕ → ℕ) → me.1 ≡ [] → i ≡ j
    → Steps n id me.0 j f (tell (step slots j a b maybe.none) (me.0, [])) → Allows (λ (z : State ℕ Sight). Stands n z.words z.views) slots id me i f (tell (step slots i a b maybe.none) me)
allow tell n slots id i j a b me f bare same h =
    let one : (me.0, []) ≡ me = λ k. (me.0, sym bare k) in
    subst (λ (z : Me ℕ Sight). Allows (λ (z : State ℕ Sight). Stands n z.words z.views) slots id z i f (tell (step slots i a b maybe.none) z)) one
    (subst (λ (z : ℕ). Allows (λ (z : State ℕ Sight). Stands n z.words z.views) slots id (me.0, []) z f (tell (step slots z a b maybe.none) (me.0, []))) (sym same)
    (allowed n slots id me.0 j f (tell (step slots j a b maybe.none) (me.0, [])) h))

-- the same for a store
pub allow_store : (tell : Step ℕ → Me ℕ Sight → ℕ → Me ℕ Sight → Type 0) (n slots id i j x y : ℕ) (me : Me ℕ Sight) → me.1 ≡ [] → i ≡ j → x ≡ y
    → Steps n id me.0 j (λ _. y) (λ _. tell (step slots j y 0 maybe.none) (me.0, []) y) → Allows (λ (z : State ℕ Sight). Stands n z.words z.views) slots id me i (λ _. x) (λ _. tell (step slots i x 0 maybe.none) me x)
allow_store tell n slots id i j x y me bare same value h =
    let one : (me.0, []) ≡ me = λ k. (me.0, sym bare k) in
    subst (λ (u : ℕ). Allows (λ (z : State ℕ Sight). Stands n z.words z.views) slots id me i (λ _. u) (λ _. tell (step slots i u 0 maybe.none) me u)) (sym value)
    (subst (λ (z : Me ℕ Sight). Allows (λ (z : State ℕ Sight). Stands n z.words z.views) slots id z i (λ _. y) (λ _. tell (step slots i y 0 maybe.none) z y)) one
    (subst (λ (z : ℕ). Allows (λ (z : State ℕ Sight). Stands n z.words z.views) slots id (me.0, []) z (λ _. y) (λ _. tell (step slots z y 0 maybe.none) (me.0, []) y)) (sym same)
    (allowed n slots id me.0 j (λ _. y) (λ _. tell (step slots j y 0 maybe.none) (me.0, []) y) h)))

-- and for a sum
pub allow_add : (tell : Step ℕ → Me ℕ Sight → ℕ → Me ℕ Sight → Type 0) (n slots id i j x y : ℕ) (me : Me ℕ Sight) → me.1 ≡ [] → i ≡ j → x ≡ y
    → Steps n id me.0 j (λ k. (k + y) % 2 ^ 64) (tell (step slots j y 0 maybe.none) (me.0, [])) → Allows (λ (z : State ℕ Sight). Stands n z.words z.views) slots id me i (λ k. (k + x) % 2 ^ 64) (tell (step slots i x 0 maybe.none) me)
allow_add tell n slots id i j x y me bare same value h =
    subst (λ (u : ℕ). Allows (λ (z : State ℕ Sight). Stands n z.words z.views) slots id me i (λ k. (k + u) % 2 ^ 64) (tell (step slots i u 0 maybe.none) me)) (sym value) (allow tell n slots id i j y 0 me (λ k. (k + y) % 2 ^ 64) bare same h)
