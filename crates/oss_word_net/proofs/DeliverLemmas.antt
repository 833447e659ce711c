-- A delivery.
use Rattle.std.proofs.Common.{◌≡◌, ◌≢◌, ◌⊎◌, inl, inr, sym, subst, refl, ◌∙◌, ap, ℕ, ◌≤◌, ◌+◌, ◌*◌, ◌%◌, ◌^◌, arith, Bool, true, false, ◌&&◌, ◌==◌, cond, List, [], ◌∷◌, ◌++◌, set}
use Rattle.std.specs.Prelude.{slice_index}
use Rattle.std.proofs.lemmas.Bool.Decides.{eqb_tells}
use Rattle.atomic_table.specs.Table.{step}
use mathlib.Core.Option as maybe
use Rattle.oss_words.specs.declared.message.Message.{Message}
use Rattle.oss_words.specs.declared.entry.EntryState.{EntryState}
use Rattle.oss_words.specs.declared.entry.EntryInfo.{EntryInfo}
use Rattle.oss_words.specs.Bits.{state_word, weight}
use Rattle.oss_words.specs.Causes.{sent, Sets}
use Rattle.oss_words.specs.Members.{Has, head, tail, only}
use Rattle.oss_words.specs.Room.{Behind}
use Rattle.oss_words.specs.SeatSteps.{NotesDelivery}
use Rattle.oss_words.specs.Steps.{Delivers}
use Rattle.oss_words.specs.Sums.{total}
use Rattle.oss_words.specs.Flow.{message}
use Rattle.oss_words.specs.Views.{View, Among}
use Rattle.oss_words.proofs.BoundLemmas.{room_bound}
use Rattle.oss_words.proofs.CauseLemmas.{clash, only_is, has_total, total_has}
use Rattle.oss_words.proofs.CountLemmas.{held_once}
use Rattle.oss_words.proofs.FirstLemmas.{held_unset}
use Rattle.oss_words.proofs.RuleLaw.{rule_deliver}
use Rattle.oss_words.proofs.SumLemmas.{same_number, total_at}
use Rattle.oss_words.proofs.WorkLemmas.{work_bounded}
use Rattle.oss_word_net.specs.declared.sight.Sight.{Sight}
use Rattle.oss_word_net.specs.Asks.{Later, later}
use Rattle.oss_word_net.specs.Moves.{without, passed}
use Rattle.oss_word_net.specs.Plays.{Bounded, Passes}
use Rattle.oss_word_net.specs.Table.{states_of, infos_of, views_of, Sits, Stands}
use Rattle.oss_word_net.proofs.ReadLemmas.{held_names}
use Rattle.oss_word_net.proofs.TableLemmas.{view_at, at_here, Steps, one_info}
use Rattle.oss_word_net.proofs.WordLemmas.{parts_fit, added, with_flag, flag_sets, flag_adds, flag_fits, flag_neat, one_weight, after, here, apart_from, hung_stands, knows_on}

same_message : (a b : Message) → a.entry ≡ b.entry → a.flag ≡ b.flag → a ≡ b
same_message a b p q = λ i. record { entry = p i; flag = q i }

-- a message that is in a list and what is left without it make up the list
pub without_one : (m : Message) (xs : List Message) → Has m xs → (h : Message → ℕ) → total h xs ≡ h m + total h (without m xs)
without_one m [] k h = elim k [ ]
without_one m (x ∷ xs) k h = go (λ l. without_one m xs l h) (x.entry == m.entry) (x.flag == m.flag) (eqb_tells x.entry m.entry) (eqb_tells x.flag m.flag)
  where
    later : (x.entry ≢ m.entry) ⊎ (x.flag ≢ m.flag) → Has m xs
    later ne = elim k [ head p q ↦ elim ne [ inl u ↦ absurd (u p) | inr u ↦ absurd (u q) ] | tail l ↦ l ]

    past : (Has m xs → total h xs ≡ h m + total h (without m xs)) → (x.entry ≢ m.entry) ⊎ (x.flag ≢ m.flag) → h x + total h xs ≡ h m + (h x + total h (without m xs))
    past f ne = let r = f (later ne) in omega (arith, r)

    go : (Has m xs → total h xs ≡ h m + total h (without m xs)) → (a b : Bool) → ((a ≡ true) × (x.entry ≡ m.entry)) ⊎ ((a ≡ false) × (x.entry ≢ m.entry)) → ((b ≡ true) × (x.flag ≡ m.flag)) ⊎ ((b ≡ false) × (x.flag ≢ m.flag)) → h x + total h xs ≡ h m + total h (cond (a && b) xs (x ∷ without m xs))
    go f true true (inl u) (inl v) = let e : h x ≡ h m = ap h (same_message x m u.1 v.1) in omega (arith, e)
    go f true true (inr u) v = absurd (clash refl u.0)
    go f true true (inl u) (inr v) = absurd (clash refl v.0)
    go f true false u (inr v) = past f (inr v.1)
    go f true false u (inl v) = absurd (clash v.0 refl)
    go f false b (inr u) v = past f (inl u.1)
    go f false b (inl u) v = absurd (clash u.0 refl)

-- what a seat holds behind any step
pub bounded : (n : ℕ) (ws : List ℕ) (sights : List Sight) → Stands n ws sights → (id : ℕ) (s : Sight) → Sits sights id s → s.known.entries ≡ n → Bounded s.known
bounded n ws sights stands id s at size =
    let flow = stands.rule.kept.flow in record {
      room = room_bound n stands.net (states_of ws) (infos_of ws) (views_of sights) flow id s.known.view (view_at sights id s at) stands.rule.kept.modes.shallow;
      names = λ m h. let k = held_names n ws sights stands id s at m h in ((let a = k.0 in omega (arith, a, size)), k.2, k.3);
    }

-- and how much it has delivered
work_of : (n : ℕ) (ws : List ℕ) (sights : List Sight) → Stands n ws sights → (id : ℕ) (s : Sight) → Sits sights id s → s.known.view.delivered ≤ 6 * n
work_of n ws sights stands id s at =
    let a = work_bounded n stands.net stands.gave (states_of ws) (infos_of ws) (slice_index ws 0) (views_of sights) stands.rule in
    let b = total_at (λ (v : View). v.delivered) (views_of sights) id s.known.view (view_at sights id s at) in
    omega (arith, a, b)

module _ (n id : ℕ) (s : Sight) (m : Message) (i : EntryInfo) (held : Has m s.known.view.held) (told : Among (record { entry = m.entry; info = i }) s.known.told)
    (last : (b : Message) → Has b (without m s.known.view.held) → Later s.known m i b) (whole : s.known.view.half ≡ []) (live : s.known.view.parts ≢ 0) (size : s.known.entries ≡ n) where
  module _ (ws : List ℕ) (sights : List Sight) (stands : Stands n ws sights) (at : Sits sights id s) where
    depth_of : (e : ℕ) (j : EntryInfo) → Among (record { entry = e; info = j }) s.known.told → j.depth ≡ stands.net.depth e
    depth_of e j t = let k = (stands.knows id s at).told (record { entry = e; info = j }) t in sym (ap (λ (z : EntryInfo). z.depth) k.1) ∙ stands.rule.kept.modes.depth e k.0

    -- it is one of the others
    again : (b : Message) → Has b (without m s.known.view.held) → b.entry ≡ m.entry → b.flag ≡ m.flag → ⊥
    again b h p q =
        let once = held_once n stands.net (states_of ws) (infos_of ws) (views_of sights) stands.rule.kept.flow.words id s.known.view (view_at sights id s at) m in
        let sum = without_one m s.known.view.held held (only m) in
        let one = only_is m m refl refl in
        let k : Has m (without m s.known.view.held) = subst (λ (z : Message). Has z (without m s.known.view.held)) (same_message b m p q) h in
        let two = has_total m (without m s.known.view.held) k in
        omega (arith, once, sum, one, two)

    behind : (b : Message) → Has b (without m s.known.view.held) → Behind stands.net m.entry m.flag b
    behind b h = elim (last b h) [
      | later j t (inl l) ↦ let x = depth_of b.entry j t in let y = depth_of m.entry i told in inl (omega (arith, x, y, l))
      | later j t (inr r) ↦
          let x = depth_of b.entry j t in let y = depth_of m.entry i told in let z = r.0 in let w = r.1 in
          let level : stands.net.depth b.entry ≡ stands.net.depth m.entry = omega (arith, x, y, z) in
          elim (same_number b.flag m.flag) [
            | inl q ↦
                let kept : Has b s.known.view.held = total_has b s.known.view.held (let sum = without_one m s.known.view.held held (only b) in let two = has_total b (without m s.known.view.held) h in omega (arith, sum, two)) in
                absurd (again b h ((stands.rule.kept.flow.room id s.known.view (view_at sights id s at) b m (message kept) (message held)).alike q level) q)
            | inr ne ↦ inr (level, omega (arith, w, ne))
          ]
    ]

  pub delivers : Steps n id s (1 + 2 * m.entry) (λ x. (x + weight m.flag) % 2 ^ 64) (Passes (step 0 (1 + 2 * m.entry) (weight m.flag) 0 maybe.none) (s, []))
  delivers ws sights stands at =
      let x : ℕ = slice_index ws (1 + 2 * m.entry) in
      let names = held_names n ws sights stands id s at m held in
      let a : EntryState = states_of ws m.entry in
      let c : EntryState = with_flag a m.flag in
      let unset = held_unset n stands.net (states_of ws) (infos_of ws) (views_of sights) stands.rule.kept.flow id s.known.view (view_at sights id s at) m held in
      let fits = flag_fits a m.flag names.2 names.3 (parts_fit x) in
      let neat = flag_neat a m.flag names.2 names.3 (stands.neat m.entry) in
      let sum = added a c x (weight m.flag) (stands.whole m.entry) (flag_adds a m.flag names.2 names.3 unset) fits in
      let s' : Sight = record { known = passed m i (weight m.flag) x s.known } in
      let is = (stands.knows id s at).told (record { entry = m.entry; info = i }) told in
      let hung = names.1 in
      let step_is : Delivers stands.net (states_of ws) (states_of (after n ws sights stands id s s' at m.entry names.0 c fits neat)) (infos_of ws) m (without m s.known.view.held) s.known.view s'.known.view = record {
        took = without_one m s.known.view.held held;
        first = behind ws sights stands at;
        full = whole;
        sets = subst (λ (z : EntryState). Sets a z m.flag) (sym (here n ws sights stands id s s' at m.entry names.0 c fits neat)) (flag_sets a m.flag names.2 names.3 unset);
        others = apart_from n ws sights stands id s s' at m.entry names.0 c fits neat;
        sends = ap (λ z. without m s.known.view.held ++ z) (λ k. sent m.entry a ((sum.1 ∙ sym (here n ws sights stands id s s' at m.entry names.0 c fits neat)) k) (sym is.1 k));
        whole = whole;
      } in
      let notes : NotesDelivery s.known.view s'.known.view = record { owned = refl; links = refl; gives = refl; seen = refl; delivered = refl; parts = refl; splits = refl; failed = refl } in
      let rule = rule_deliver n stands.net stands.gave (states_of ws) (states_of (after n ws sights stands id s s' at m.entry names.0 c fits neat)) (infos_of ws) (slice_index ws 0) (views_of sights) id s.known.view s'.known.view stands.rule (view_at sights id s at) m (without m s.known.view.held) step_is notes in
      let knows = knows_on n ws sights stands id s s' at m.entry names.0 c fits neat hung refl refl refl refl refl (λ z. absurd (live z)) in
      let new = hung_stands n ws sights stands id s s' at m.entry names.0 c fits neat stands.gave rule hung knows refl refl refl in (
        s',
        subst (λ (y : ℕ). Stands n (set ws (1 + 2 * m.entry) y) (set sights id s')) (sym sum.0) new,
        (
          refl,
          bounded n (set ws (1 + 2 * m.entry) (state_word c)) (set sights id s') new id s' (at_here sights id s s' at) size,
          (sum.2, ap (λ (z : EntryState). z.left) sum.1 ∙ neat.left),
          (let w = work_of n (set ws (1 + 2 * m.entry) (state_word c)) (set sights id s') new id s' (at_here sights id s s' at) in omega (arith, w, size)),
          (λ b j l h p q t.
              let f = one_weight m.flag b.flag names.2 names.3 l h q in
              let e : m.entry ≡ b.entry = omega (arith, p) in
              let same = same_message m b e f in
              let info : i ≡ j = sym is.1 ∙ ap (λ (z : ℕ). infos_of ws z) e ∙ ((stands.knows id s at).told (record { entry = b.entry; info = j }) t).1 in
              λ k. passed (same k) (info k) (weight m.flag) x s.known),
          one_info n ws sights stands id s at,
        ),
      )
