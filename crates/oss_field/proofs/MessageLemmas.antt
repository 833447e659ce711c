-- The messages that a seat has ready, those that its view tells of, and which comes first.
use Rattle.std.proofs.Common.{◌≡◌, ◌≢◌, ◌⊎◌, inl, inr, sym, subst, refl, ◌∙◌, ap, ℕ, zero, suc, ◌<◌, ◌≤◌, ◌+◌, ◌-◌, ◌*◌, arith, Bool, true, false, ◌&&◌, ◌==◌, cond, List, [], ◌∷◌, ◌++◌, map, drop, length, get_or, set, take}
use Rattle.std.specs.List.{swap_remove}
use Rattle.std.specs.Prelude.{sum_by}
use Rattle.std.proofs.lemmas.Bool.Decides.{eqb_tells}
use Rattle.std.proofs.lemmas.List.Sums.{sum_by-swap_remove, sum_by-cons}
use Rattle.oss_words.specs.declared.entry.EntryInfo.{EntryInfo}
use Rattle.oss_words.specs.declared.message.Message.{Message}
use Rattle.oss_words.specs.Bits.{info_at}
use Rattle.oss_words.specs.Members.{Has, head, tail, only}
use Rattle.oss_words.specs.Sums.{total}
use Rattle.oss_words.specs.Views.{Among, among_first, among_later}
use Rattle.oss_words.proofs.CauseLemmas.{clash, has_total, total_has, only_is}
use Rattle.oss_words.proofs.SeatLemmas.{among_append}
use Rattle.oss_words.proofs.SumLemmas.{total_append}
use Rattle.oss_field.specs.declared.held.Held.{Held}
use Rattle.oss_field.specs.Heard.{Told}
use Rattle.oss_field.specs.Known.{Known}
use Rattle.oss_field.specs.Messages.{Bounded, IsFirst, Learns, Later, later, NoneBefore, OneInfo, Ready, SameMessages, Settled, informed, message_of, rank, without}

pub ones : {A : Type 0} (xs : List A) → total (λ (x : A). 1) xs ≡ length xs
ones [] = refl
ones (x ∷ xs) = let a = ones xs in omega (arith, a)

length_map : (xs : List Held) → length (map message_of xs) ≡ length xs
length_map [] = refl
length_map (x ∷ xs) = ap suc (length_map xs)

-- as many are ready as are held, but for those that are not yet
pub few : (held : List Held) (rest : List Message) (k : Known) (n : ℕ) → Ready held rest k → Bounded n k → length held ≤ 390
few held rest k n ready bound =
    let a = ready.same (λ m. 1) in let b = ones (map message_of held) in let c = length_map held in let d = ones k.words.held in let e = bound.room in
    omega (arith, a, b, c, d, e)

pub as_many : (held : List Held) (k : Known) → Ready held [] k → length held ≡ length k.words.held
as_many held k ready =
    let a = ready.same (λ m. 1) in let b = ones (map message_of held) in let c = length_map held in let d = ones k.words.held in
    omega (arith, a, b, c, d)

pub none_held : (xs : List Message) → length xs ≡ 0 → xs ≡ []
none_held [] q = refl
none_held (x ∷ xs) q = absurd (omega (arith, q))

drop_is : {A : Type 0} (xs : List A) (i : ℕ) (d : A) → i < length xs → drop i xs ≡ get_or xs i d ∷ drop (i + 1) xs
drop_is [] i d h = absurd (omega (arith, h))
drop_is (x ∷ xs) zero d h = refl
drop_is (x ∷ xs) (suc i) d h = let q : suc (i + 1) ≡ suc i + 1 = omega arith in drop_is xs i d (omega (arith, h)) ∙ ap (λ (k : ℕ). get_or xs i d ∷ drop k (x ∷ xs)) q

-- a message that is not ready yet is held
pub waits : (held : List Held) (messages : List Message) (at : ℕ) (d : Message) (k : Known) → at < length messages → Ready held (drop at messages) k → Has (get_or messages at d) k.words.held
waits held messages at d k inside ready =
    let m : Message = get_or messages at d in
    let a = ready.same (only m) in
    let b : total (only m) (drop at messages) ≡ only m m + total (only m) (drop (at + 1) messages) = ap (λ xs. total (only m) xs) (drop_is messages at d inside) in
    let c = only_is m m refl refl in
    total_has m k.words.held (omega (arith, a, b, c))

sums : (h : Message → ℕ) (xs : List Held) (x : Held) → total h (map message_of (xs ++ x ∷ [])) ≡ total h (map message_of xs) + h (message_of x)
sums h [] x = omega arith
sums h (y ∷ xs) x = let a = sums h xs x in omega (arith, a)

-- one more is ready
pub one_more : (m : ℕ) (held : List Held) (messages : List Message) (at : ℕ) (d : Message) (k : Known) (w : ℕ) → at < length messages → Ready held (drop at messages) k
    → Ready (held ++ record { entry = (get_or messages at d).entry; flag = (get_or messages at d).flag; info = w } ∷ []) (drop (at + 1) messages) (informed m (get_or messages at d).entry w k)
one_more m held messages at d k w inside ready =
    let a : Message = get_or messages at d in
    let one : Held = record { entry = a.entry; flag = a.flag; info = w } in record {
      same = λ h.
          let r = ready.same h in
          let b : total h (drop at messages) ≡ h a + total h (drop (at + 1) messages) = ap (λ xs. total h xs) (drop_is messages at d inside) in
          let c = sums h held one in
          omega (arith, r, b, c);
      told = λ x among. elim (among_append x held (one ∷ []) among) [
        | inl k ↦ among_later (ready.told x k)
        | inr k ↦ elim k [
          | among_first q ↦ among_first (λ i. record { entry = (q i).entry; info = info_at ((q i).info) })
          | among_later l ↦ elim l [ ]
        ]
      ];
    }

-- a message whose info is known already becomes ready
pub one_ready : (held : List Held) (x : Held) (rest all : List Message) (k : Known) → ((h : Message → ℕ) → total h all ≡ total h rest + h (message_of x)) → Among (record { entry = x.entry; info = info_at x.info }) k.told
    → Ready held all k → Ready (held ++ x ∷ []) rest k
one_ready held x rest all k splits told ready = record {
  same = λ h. let r = ready.same h in let b = splits h in let c = sums h held x in omega (arith, r, b, c);
  told = λ y among. elim (among_append y held (x ∷ []) among) [
    | inl l ↦ ready.told y l
    | inr l ↦ elim l [
      | among_first q ↦ subst (λ (z : Held). Among (record { entry = z.entry; info = info_at z.info }) k.told) q told
      | among_later b ↦ elim b [ ]
    ]
  ];
}

pub learns_one : (m : ℕ) (k : Known) (e w : ℕ) → ((j : EntryInfo) → Among (record { entry = e; info = j }) k.told → info_at w ≡ j) → Learns k (informed m e w k)
learns_one m k e w again = record { same = refl; told = λ t a. among_later a; one = λ one f i j a b. go one f i j a b }
  where
    parts_of_told : (f : ℕ) (i : EntryInfo) → ◌≡◌ {A = Told} (record { entry = e; info = info_at w }) (record { entry = f; info = i }) → (e ≡ f) × (info_at w ≡ i)
    parts_of_told f i q = (ap (λ (z : Told). z.entry) q, ap (λ (z : Told). z.info) q)

    go : OneInfo k → (f : ℕ) (i j : EntryInfo) → Among (record { entry = f; info = i }) (record { entry = e; info = info_at w } ∷ k.told) → Among (record { entry = f; info = j }) (record { entry = e; info = info_at w } ∷ k.told) → i ≡ j
    go one f i j (among_first p) (among_first q) = sym (parts_of_told f i p).1 ∙ (parts_of_told f j q).1
    go one f i j (among_first p) (among_later b) = let r = parts_of_told f i p in sym r.1 ∙ again j (subst (λ (z : ℕ). Among (record { entry = z; info = j }) k.told) (sym r.0) b)
    go one f i j (among_later a) (among_first q) = let r = parts_of_told f j q in sym (again i (subst (λ (z : ℕ). Among (record { entry = z; info = i }) k.told) (sym r.0) a)) ∙ r.1
    go one f i j (among_later a) (among_later b) = one f i j a b

pub learns_none : (k : Known) → Learns k k
learns_none k = record { same = refl; told = λ t a. a; one = λ o. o }

pub learns_more : (a b c : Known) → Learns a b → Learns b c → Learns a c
learns_more a b c f g = record { same = g.same ∙ (λ i. record (f.same i) { told = c.told; word = c.word; found = c.found }); told = λ t m. g.told t (f.told t m); one = λ o. g.one (f.one o) }

-- what is bounded stays so
pub still_bounded : (n : ℕ) (a b : Known) → Learns a b → Bounded n a → Bounded n b
still_bounded n a b f bound = record {
  room = (let x = bound.room in let y = ap (λ (z : Known). length z.words.held) f.same in omega (arith, x, y));
  names = λ m h. bound.names m (subst (λ (z : Known). Has m z.words.held) f.same h);
}

-- what a seat holds between two calls stays, if it knows of messages what it knew
pub settled_on : (held : List Held) (n : ℕ) (a b : Known) → SameMessages a b → Settled held n a → Settled held n b
settled_on held n a b s old = record {
  ready = record {
    same = λ h. old.ready.same h ∙ ap (λ (z : List Message). total h z) (sym s.held);
    told = λ x among. subst (λ z. Among (record { entry = x.entry; info = info_at x.info }) z) (sym s.told) (old.ready.told x among);
  };
  bounded = record {
    room = subst (λ (z : List Message). length z ≤ 390) (sym s.held) old.bounded.room;
    names = λ m h. old.bounded.names m (subst (λ (z : List Message). Has m z) s.held h);
  };
  whole = s.half ∙ old.whole;
  unjoined = s.joined ∙ old.unjoined;
  unowed = s.owes ∙ old.unowed;
  one = λ e i j x y. old.one e i j (subst (λ z. Among (record { entry = e; info = i }) z) s.told x) (subst (λ z. Among (record { entry = e; info = j }) z) s.told y);
}

same_message : (a b : Message) → a.entry ≡ b.entry → a.flag ≡ b.flag → a ≡ b
same_message a b p q = λ i. record { entry = p i; flag = q i }

-- a message that is in a list and what is left without it make up the list
pub without_one : (m : Message) (xs : List Message) → Has m xs → (h : Message → ℕ) → total h xs ≡ h m + total h (without m xs)
without_one m [] k h = elim k [ ]
without_one m (x ∷ xs) k h = go (λ l. without_one m xs l h) (x.entry == m.entry) (x.flag == m.flag) (eqb_tells x.entry m.entry) (eqb_tells x.flag m.flag)
  where
    later_on : (x.entry ≢ m.entry) ⊎ (x.flag ≢ m.flag) → Has m xs
    later_on ne = elim k [ head p q ↦ elim ne [ inl u ↦ absurd (u p) | inr u ↦ absurd (u q) ] | tail l ↦ l ]

    past : (Has m xs → total h xs ≡ h m + total h (without m xs)) → (x.entry ≢ m.entry) ⊎ (x.flag ≢ m.flag) → h x + total h xs ≡ h m + (h x + total h (without m xs))
    past f ne = let r = f (later_on ne) in omega (arith, r)

    go : (Has m xs → total h xs ≡ h m + total h (without m xs)) → (a b : Bool) → ((a ≡ true) × (x.entry ≡ m.entry)) ⊎ ((a ≡ false) × (x.entry ≢ m.entry)) → ((b ≡ true) × (x.flag ≡ m.flag)) ⊎ ((b ≡ false) × (x.flag ≢ m.flag)) → h x + total h xs ≡ h m + total h (cond (a && b) xs (x ∷ without m xs))
    go f true true (inl u) (inl v) = let e : h x ≡ h m = ap h (same_message x m u.1 v.1) in omega (arith, e)
    go f true true (inr u) v = absurd (clash refl u.0)
    go f true true (inl u) (inr v) = absurd (clash refl v.0)
    go f true false u (inr v) = past f (inr v.1)
    go f true false u (inl v) = absurd (clash v.0 refl)
    go f false b (inr u) v = past f (inl u.1)
    go f false b (inl u) v = absurd (clash u.0 refl)

-- what is left was there
pub without_has : (m : Message) (xs : List Message) → Has m xs → (b : Message) → Has b (without m xs) → Has b xs
without_has m xs has b h = let a = without_one m xs has (only b) in let c = has_total b (without m xs) h in total_has b xs (omega (arith, a, c))

-- an element at its place is in the list
pub at_among : (xs : List Held) (k : ℕ) (d : Held) → k < length xs → Among (get_or xs k d) xs
at_among [] k d h = absurd (omega (arith, h))
at_among (x ∷ xs) zero d h = among_first refl
at_among (x ∷ xs) (suc k) d h = among_later (at_among xs k d (omega (arith, h)))

-- a message of the list stands at a place
has_at : (xs : List Held) (m : Message) (d : Held) → Has m (map message_of xs) → (k : ℕ) × (k < length xs) × ((get_or xs k d).entry ≡ m.entry) × ((get_or xs k d).flag ≡ m.flag)
has_at [] m d h = elim h [ ]
has_at (x ∷ xs) m d h = elim h [
  | head p q ↦ (0, omega arith, p, q)
  | tail t ↦ let r = has_at xs m d t in (suc r.0, (let l = r.1 in omega (arith, l)), r.2, r.3)
]

among_has : (xs : List Held) (x : Held) → Among x xs → Has (message_of x) (map message_of xs)
among_has [] x m = elim m [ ]
among_has (y ∷ xs) x (among_first q) = head (ap (λ (z : Held). z.entry) q) (ap (λ (z : Held). z.flag) q)
among_has (y ∷ xs) x (among_later t) = tail (among_has xs x t)

-- a ready message is held
pub ready_held : (held : List Held) (k : Known) → Ready held [] k → (x : Held) → Among x held → Has (message_of x) k.words.held
ready_held held k ready x m =
    let a = has_total (message_of x) (map message_of held) (among_has held x m) in
    let b = ready.same (only (message_of x)) in
    total_has (message_of x) k.words.held (omega (arith, a, b))

-- and one that is held is ready
pub held_ready : (held : List Held) (k : Known) (d : Held) → Ready held [] k → (m : Message) → Has m k.words.held → (j : ℕ) × (j < length held) × ((get_or held j d).entry ≡ m.entry) × ((get_or held j d).flag ≡ m.flag)
held_ready held k d ready m h =
    let a = has_total m k.words.held h in
    let b = ready.same (only m) in
    has_at held m d (total_has m (map message_of held) (omega (arith, a, b)))

-- flags are at most 5
pub flags_small : (held : List Held) (n : ℕ) (k : Known) → Ready held [] k → Bounded n k → (j : ℕ) (d : Held) → j < length held → (get_or held j d).flag ≤ 5
flags_small held n k ready bound j d inside = (bound.names (message_of (get_or held j d)) (ready_held held k ready (get_or held j d) (at_among held j d inside))).1

module _ (held : List Held) (n : ℕ) (k : Known) (ready : Ready held [] k) (bound : Bounded n k) (best : ℕ) (x : Held) (inside : best < length held) (is : x ≡ get_or held best x) (none : NoneBefore held (length held) best) where
  here : Among x held
  here = subst (λ (z : Held). Among z held) (sym is) (at_among held best x inside)

  pub first_held : Has (message_of x) k.words.held
  first_held = ready_held held k ready x here

  pub first_names : (x.entry < n) × (x.flag ≤ 5)
  first_names = bound.names (message_of x) first_held

  pub first_told : Among (record { entry = x.entry; info = info_at x.info }) k.told
  first_told = ready.told x here

  pub first_later : (b : Message) → Has b k.words.held → Later k (message_of x) (info_at x.info) b
  first_later b h =
      let r = held_ready held k x ready b h in
      let y : Held = get_or held r.0 x in
      let told = ready.told y (at_among held r.0 x r.1) in
      let rank_is : rank y ≤ rank x = (let a = none r.0 x r.1 in let q : rank (get_or held best x) ≡ rank x = ap rank (sym is) in omega (arith, a, q)) in
      let small = first_names.1 in
      let small_too = (bound.names b h).1 in
      let same : y.flag ≡ b.flag = r.3 in
      later (info_at y.info) (subst (λ (e : ℕ). Among (record { entry = e; info = info_at y.info }) k.told) r.2 told) (compare (info_at y.info).depth (info_at x.info).depth y.flag x.flag b.flag rank_is small small_too same)
    where
      compare : (p q f g h : ℕ) → 8 * p + (7 - f) ≤ 8 * q + (7 - g) → g ≤ 5 → h ≤ 5 → f ≡ h → (p < q) ⊎ ((p ≡ q) × (g ≤ h))
      compare p q f g h r s t e = grind (arith, r, s, t, e)

  pub first_is : IsFirst k (message_of x)
  first_is = record { held = first_held; info = info_at x.info; told = first_told; later = first_later }

  -- if a join comes first, it is a join
  pub first_join : OneInfo k → (m : Message) → IsFirst k m → m.flag ≡ 0 → x.flag ≡ 0
  first_join one m first zero_is = go (first.later (message_of x) first_held) (first_later m first.held)
    where
      go : Later k m first.info (message_of x) → Later k (message_of x) (info_at x.info) m → x.flag ≡ 0
      go (later j a rest) (later i b more) =
          let p = ap (λ (z : EntryInfo). z.depth) (one x.entry j (info_at x.info) a first_told) in
          let q = ap (λ (z : EntryInfo). z.depth) (one m.entry i first.info b first.told) in
          elim rest [
            | inl less ↦ elim more [ inl low ↦ absurd (omega (arith, p, q, less, low)) | inr r ↦ let s = r.0 in absurd (omega (arith, p, q, less, s)) ]
            | inr r ↦ elim more [ inl low ↦ let s = r.0 in absurd (omega (arith, p, q, low, s)) | inr s ↦ let t = s.1 in omega (arith, t, zero_is) ]
          ]

  -- what is left of what is ready, if all that a step sends is not ready yet
  pub left_ready : (c : Known) (items : List Message) → c.words.held ≡ without (message_of x) k.words.held ++ items → c.told ≡ k.told → Ready (swap_remove held best x) items c
  left_ready c items q told = record {
    same = λ h.
        let a = ready.same h in
        let b = without_one (message_of x) k.words.held first_held h in
        let s = sum_by-swap_remove (λ (z : Held). h (message_of z)) held best x inside in
        let t : h (message_of (get_or held best x)) ≡ h (message_of x) = ap (λ (z : Held). h (message_of z)) (sym is) in
        let u = total_map h held in
        let v = total_map h (swap_remove held best x) in
        let w = total_append h (without (message_of x) k.words.held) items in
        let y : total h c.words.held ≡ total h (without (message_of x) k.words.held ++ items) = ap (λ z. total h z) q in
        omega (arith, a, b, s, t, u, v, w, y);
    told = λ y m. subst (λ z. Among (record { entry = y.entry; info = info_at y.info }) z) (sym told) (ready.told y (among_swap held best x y (omega (arith, inside)) m));
  }
    where
      total_map : (h : Message → ℕ) (xs : List Held) → total h (map message_of xs) ≡ sum_by (λ (z : Held). h (message_of z)) xs
      total_map h [] = refl
      total_map h (z ∷ xs) = let a = total_map h xs in let b = sum_by-cons (λ (y : Held). h (message_of y)) z xs in omega (arith, a, b)

      among_take : (n : ℕ) (xs : List Held) (y : Held) → Among y (take n xs) → Among y xs
      among_take zero xs y m = elim m [ ]
      among_take (suc n) [] y m = elim m [ ]
      among_take (suc n) (z ∷ xs) y m = elim m [ among_first q ↦ among_first q | among_later t ↦ among_later (among_take n xs y t) ]

      among_put : (xs : List Held) (i : ℕ) (z y : Held) → Among y (set xs i z) → (y ≡ z) ⊎ Among y xs
      among_put [] i z y m = elim m [ ]
      among_put (u ∷ xs) zero z y m = elim m [ among_first q ↦ inl (sym q) | among_later t ↦ inr (among_later t) ]
      among_put (u ∷ xs) (suc i) z y m = elim m [ among_first q ↦ inr (among_first q) | among_later t ↦ elim (among_put xs i z y t) [ inl q ↦ inl q | inr r ↦ inr (among_later r) ] ]

      among_swap : (xs : List Held) (i : ℕ) (d y : Held) → 0 < length xs → Among y (swap_remove xs i d) → Among y xs
      among_swap xs i d y some m = elim (among_put xs i (get_or xs (length xs - 1) d) y (among_take (length xs - 1) (set xs i (get_or xs (length xs - 1) d)) y m)) [
        | inl q ↦ subst (λ (z : Held). Among z xs) (sym q) (at_among xs (length xs - 1) d (omega (arith, some)))
        | inr r ↦ r
      ]
