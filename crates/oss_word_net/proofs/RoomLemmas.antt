-- The message that is delivered first, and those that are left.
use Rattle.std.proofs.Common.{◌≡◌, ◌⊎◌, inl, inr, sym, subst, refl, ap, ℕ, zero, suc, ◌<◌, ◌≤◌, ◌+◌, ◌-◌, ◌*◌, arith, List, [], ◌∷◌, map, length, get_or, set, take}
use Rattle.std.specs.List.{swap_remove}
use Rattle.std.specs.Prelude.{sum_by}
use Rattle.std.proofs.lemmas.List.Sums.{sum_by-swap_remove, sum_by-cons}
use Rattle.oss_words.specs.declared.message.Message.{Message}
use Rattle.oss_words.specs.declared.entry.EntryInfo.{EntryInfo}
use Rattle.oss_words.specs.Bits.{state_at, info_at, weight}
use Rattle.oss_words.specs.Causes.{sent}
use Rattle.oss_words.specs.Members.{Has, head, tail, only}
use Rattle.oss_words.specs.Sums.{total}
use Rattle.oss_words.specs.Views.{Among, among_first, among_later}
use Rattle.oss_words.proofs.CauseLemmas.{has_total, total_has}
use Rattle.oss_words.proofs.SumLemmas.{total_append}
use Rattle.oss_word_net.specs.declared.held.Held.{Held}
use Rattle.oss_word_net.specs.Asks.{Later, later}
use Rattle.oss_word_net.specs.Calls.{Before, deeper, Delivered}
use Rattle.oss_word_net.specs.Known.{Known}
use Rattle.oss_word_net.specs.Moves.{without, passed}
use Rattle.oss_word_net.specs.Plays.{Bounded}
use Rattle.oss_word_net.specs.Standing.{Ready, NoneBefore, rank, message_of}
use Rattle.oss_word_net.proofs.DeliverLemmas.{without_one}

-- an element at its place is in the list
pub at_among : (xs : List Held) (k : ℕ) (d : Held) → k < length xs → Among (get_or xs k d) xs
at_among [] k d h = absurd (omega (arith, h))
at_among (x ∷ xs) zero d h = among_first refl
at_among (x ∷ xs) (suc k) d h = among_later (at_among xs k d (omega (arith, h)))

-- a message of the list stands at a place
pub has_at : (xs : List Held) (m : Message) (d : Held) → Has m (map message_of xs) → (k : ℕ) × (k < length xs) × ((get_or xs k d).entry ≡ m.entry) × ((get_or xs k d).flag ≡ m.flag)
has_at [] m d h = elim h [ ]
has_at (x ∷ xs) m d h = elim h [
  | head p q ↦ (0, omega arith, p, q)
  | tail t ↦ let r = has_at xs m d t in (suc r.0, (let l = r.1 in omega (arith, l)), r.2, r.3)
]

among_has : (xs : List Held) (x : Held) → Among x xs → Has (message_of x) (map message_of xs)
among_has [] x m = elim m [ ]
among_has (y ∷ xs) x (among_first q) = head (ap (λ (z : Held). z.entry) q) (ap (λ (z : Held). z.flag) q)
among_has (y ∷ xs) x (among_later t) = tail (among_has xs x t)

-- a ready message is held
pub ready_held : (held : List Held) (k : Known) → Ready held [] k → (x : Held) → Among x held → Has (message_of x) k.view.held
ready_held held k ready x m =
    let a = has_total (message_of x) (map message_of held) (among_has held x m) in
    let b = ready.same (only (message_of x)) in
    total_has (message_of x) k.view.held (omega (arith, a, b))

-- and one that is held is ready
pub held_ready : (held : List Held) (k : Known) (d : Held) → Ready held [] k → (m : Message) → Has m k.view.held → (j : ℕ) × (j < length held) × ((get_or held j d).entry ≡ m.entry) × ((get_or held j d).flag ≡ m.flag)
held_ready held k d ready m h =
    let a = has_total m k.view.held h in
    let b = ready.same (only m) in
    has_at held m d (total_has m (map message_of held) (omega (arith, a, b)))

-- flags are at most 5
pub flags_small : (held : List Held) (k : Known) → Ready held [] k → Bounded k → (j : ℕ) (d : Held) → j < length held → (get_or held j d).flag ≤ 5
flags_small held k ready bound j d inside = (bound.names (message_of (get_or held j d)) (ready_held held k ready (get_or held j d) (at_among held j d inside))).2

module _ (held : List Held) (k : Known) (ready : Ready held [] k) (bound : Bounded k) (best : ℕ) (x : Held) (inside : best < length held) (is : x ≡ get_or held best x) (none : NoneBefore held (length held) best) where
  here : Among x held
  here = subst (λ (z : Held). Among z held) (sym is) (at_among held best x inside)

  pub first_held : Has (message_of x) k.view.held
  first_held = ready_held held k ready x here

  pub first_names : (x.entry < k.entries) × (1 ≤ x.flag) × (x.flag ≤ 5)
  first_names = bound.names (message_of x) first_held

  pub first_told : Among (record { entry = x.entry; info = info_at x.info }) k.told
  first_told = ready.told x here

  pub order : (b : Message) → Has b k.view.held → (j : EntryInfo) × Among (record { entry = b.entry; info = j }) k.told × ((j.depth < (info_at x.info).depth) ⊎ ((j.depth ≡ (info_at x.info).depth) × (x.flag ≤ b.flag)))
  order b h =
      let r = held_ready held k x ready b h in
      let y : Held = get_or held r.0 x in
      let told = ready.told y (at_among held r.0 x r.1) in
      let rank_is : rank y ≤ rank x = (let a = none r.0 x r.1 in let q : rank (get_or held best x) ≡ rank x = ap rank (sym is) in omega (arith, a, q)) in
      let small = first_names.2 in
      let small_too = (bound.names b h).2 in
      let same : y.flag ≡ b.flag = r.3 in
      (info_at y.info, subst (λ (e : ℕ). Among (record { entry = e; info = info_at y.info }) k.told) r.2 told, compare (info_at y.info).depth (info_at x.info).depth y.flag x.flag b.flag rank_is small small_too same)
    where
      compare : (p q f g h : ℕ) → 8 * p + (7 - f) ≤ 8 * q + (7 - g) → g ≤ 5 → h ≤ 5 → f ≡ h → (p < q) ⊎ ((p ≡ q) × (g ≤ h))
      compare p q f g h r s t e = grind (arith, r, s, t, e)

  kept : (b : Message) → Has b (without (message_of x) k.view.held) → Has b k.view.held
  kept b h = let a = without_one (message_of x) k.view.held first_held (only b) in let c = has_total b (without (message_of x) k.view.held) h in total_has b k.view.held (omega (arith, a, c))

  pub all_later : (b : Message) → Has b (without (message_of x) k.view.held) → Later k (message_of x) (info_at x.info) b
  all_later b h = let o = order b (kept b h) in later o.0 o.1 o.2

  pub all_before : (b : Message) → Has b (without (message_of x) k.view.held) → Before k (message_of x) b
  all_before b h = let o = order b (kept b h) in deeper (info_at x.info) o.0 first_told o.1 o.2

  pub delivered_is : (c : Known) (n : ℕ) → c ≡ passed (message_of x) (info_at x.info) (weight x.flag) n k → Delivered k c
  delivered_is c n q = subst (λ (z : Known). Delivered k z) (sym q) record {
    carries = record { entries = refl; owned = refl; parts = refl; splits = refl; failed = refl; told = λ t h. h; seen = λ s h. h };
    links = refl;
    gives = refl;
    delivered = refl;
    message = message_of x;
    info = info_at x.info;
    told = first_told;
    found = n;
    step = refl;
    held = first_held;
    first = all_before;
    sends = refl;
  }

  -- what is left, and what is sent
  pub left_ready : (c : Known) (items : List Message) (n : ℕ) → c ≡ passed (message_of x) (info_at x.info) (weight x.flag) n k → items ≡ sent x.entry (state_at n) (state_at (n + weight x.flag)) (info_at x.info)
      → Ready (swap_remove held best x) items c
  left_ready c items n q is_sent = subst (λ (z : Known). Ready (swap_remove held best x) items z) (sym q) record {
    same = λ h.
        let a = ready.same h in
        let b = without_one (message_of x) k.view.held first_held h in
        let s = sum_by-swap_remove (λ (z : Held). h (message_of z)) held best x inside in
        let t : h (message_of (get_or held best x)) ≡ h (message_of x) = ap (λ (z : Held). h (message_of z)) (sym is) in
        let u = total_map h held in
        let v = total_map h (swap_remove held best x) in
        let w = total_append h (without (message_of x) k.view.held) (sent x.entry (state_at n) (state_at (n + weight x.flag)) (info_at x.info)) in
        let y : total h items ≡ total h (sent x.entry (state_at n) (state_at (n + weight x.flag)) (info_at x.info)) = ap (λ z. total h z) is_sent in
        omega (arith, a, b, s, t, u, v, w, y);
    told = λ y m. ready.told y (among_swap held best x y (omega (arith, inside)) m);
  }
    where
      total_map : (h : Message → ℕ) (xs : List Held) → total h (map message_of xs) ≡ sum_by (λ (z : Held). h (message_of z)) xs
      total_map h [] = refl
      total_map h (z ∷ xs) = let a = total_map h xs in let b = sum_by-cons (λ (y : Held). h (message_of y)) z xs in omega (arith, a, b)

      among_take : (n : ℕ) (xs : List Held) (y : Held) → Among y (take n xs) → Among y xs
      among_take zero xs y m = elim m [ ]
      among_take (suc n) [] y m = elim m [ ]
      among_take (suc n) (z ∷ xs) y m = elim m [ among_first q ↦ among_first q | among_later t ↦ among_later (among_take n xs y t) ]

      among_set : (xs : List Held) (i : ℕ) (z y : Held) → Among y (set xs i z) → (y ≡ z) ⊎ Among y xs
      among_set [] i z y m = elim m [ ]
      among_set (u ∷ xs) zero z y m = elim m [ among_first q ↦ inl (sym q) | among_later t ↦ inr (among_later t) ]
      among_set (u ∷ xs) (suc i) z y m = elim m [ among_first q ↦ inr (among_first q) | among_later t ↦ elim (among_set xs i z y t) [ inl q ↦ inl q | inr r ↦ inr (among_later r) ] ]

      among_swap : (xs : List Held) (i : ℕ) (d y : Held) → 0 < length xs → Among y (swap_remove xs i d) → Among y xs
      among_swap xs i d y some m = elim (among_set xs i (get_or xs (length xs - 1) d) y (among_take (length xs - 1) (set xs i (get_or xs (length xs - 1) d)) y m)) [
        | inl q ↦ subst (λ (z : Held). Among z xs) (sym q) (at_among xs (length xs - 1) d (omega (arith, some)))
        | inr r ↦ r
      ]
