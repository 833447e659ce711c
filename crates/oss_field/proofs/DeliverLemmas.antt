-- A delivery as a call of several steps: what the seat knows between them and after them.
use Rattle.std.proofs.Common.{◌≡◌, ◌≢◌, ◌⊎◌, inl, inr, sym, subst, refl, ◌∙◌, ap, ℕ, zero, suc, ◌<◌, ◌≤◌, ◌+◌, ◌*◌, arith, Bool, true, false, not, ◌&&◌, ◌==◌, List, [], ◌∷◌, length}
use Rattle.std.specs.List.{swap_remove}
use Rattle.std.specs.Prelude.{if◌then◌else◌, MatchBool, Option, Some, None, IfSome, IfNone, slice_index_or}
use Rattle.std.proofs.lemmas.Bool.Decides.{eqb_tells}
use Rattle.oss_words.specs.declared.message.Message.{Message}
use Rattle.oss_words.specs.Bits.{info_at, state_at, weight}
use Rattle.oss_words.specs.Causes.{sent}
use Rattle.oss_words.specs.Members.{Has}
use Rattle.oss_words.specs.Views.{Among}
use Rattle.oss_words.proofs.CauseLemmas.{clash}
use Rattle.oss_field.specs.declared.held.Held.{Held}
use Rattle.oss_field.specs.declared.touched.Touched.{Touched}
use Rattle.oss_field.specs.Heard.{Told, Lowered}
use Rattle.oss_field.specs.Known.{Known, first_known}
use Rattle.oss_field.specs.Messages.{Bounded, Delivered, IsFirst, IsPaid, JoinFirst, Learns, MayDeliver, NoJoinFirst, NoneBefore, Passes, Ready, Settled, delivered, is_due, lowered_after, lowered_by, message_of, owes_after}
use Rattle.oss_field.specs.Seats.{new_known}
use Rattle.oss_field.proofs.MessageLemmas.{as_many, first_held, first_is, first_join, first_later, first_names, first_told, left_ready, none_held, still_bounded}

-- what is paid if nothing waits for the flag
pub nothing_paid : (i f : ℕ) (k : Known) → is_due (info_at i) f ≡ false → k.owes ≡ owes_after (info_at i) f [] → IsPaid i f k k None
nothing_paid i f k off owes = record {
  count = 0;
  known = go (is_due (info_at i) f) off owes;
  freed_is = sym (ap (λ (b : Bool). if b && (0 == 1) then Some (info_at i).task else None) off);
}
  where
    go : (b : Bool) → b ≡ false → k.owes ≡ (if b then (info_at i).task ∷ [] else []) → k ≡ record k { owes = []; lowered = if b then record { task = (info_at i).task; found = 0 } else k.lowered; word = k.word; found = k.found }
    go true e o = absurd (clash refl e)
    go false e o = λ j. record k { owes = o j }

-- and if something does
pub count_paid : (m i f found : ℕ) (k l : Known) (r : Option ℕ) → is_due (info_at i) f ≡ true → l ≡ lowered_by m (info_at i).task found k → r ≡ (if found == 1 then Some (info_at i).task else None) → IsPaid i f k l r
count_paid m i f found k l r on known is = record {
  count = found;
  known = known ∙ (λ j. record k { owes = []; lowered = at_once (is_due (info_at i) f) on j; word = (known' j).word; found = (known' j).found });
  freed_is = is ∙ sym (ap (λ (b : Bool). if b && (found == 1) then Some (info_at i).task else None) on);
}
  where
    at_once : (b : Bool) → b ≡ true → ◌≡◌ {A = Lowered} (record { task = (info_at i).task; found = found }) (if b then record { task = (info_at i).task; found = found } else k.lowered)
    at_once true e = refl
    at_once false e = absurd (clash e refl)

    known' : lowered_by m (info_at i).task found k ≡ l
    known' = sym known

-- what the seat owes once the flag is set
pub owes_is : (i f : ℕ) (owes : List ℕ) → is_due (info_at i) f ≡ true → owes ≡ owes_after (info_at i) f [] → owes ≡ (info_at i).task ∷ []
owes_is i f owes on is = is ∙ ap (λ (b : Bool). if b then (info_at i).task ∷ [] else []) on

module _ (held : List Held) (n : ℕ) (k : Known) (s : Settled held n k) (best : ℕ) (x : Held) (inside : best < length held) (is : x ≡ slice_index_or held best x) (none : NoneBefore held (length held) best) where
  -- the message that comes first may be delivered, if no join comes first
  pub may_deliver : NoJoinFirst k → MayDeliver n k (message_of x) x.info
  may_deliver unjoined = record {
    held = first_held held n k s.ready s.bounded best x inside is none;
    flag = above x.flag (unjoined (message_of x) (first_is held n k s.ready s.bounded best x inside is none));
    told = first_told held n k s.ready s.bounded best x inside is none;
    later = first_later held n k s.ready s.bounded best x inside is none;
    inside = (first_names held n k s.ready s.bounded best x inside is none).0;
    whole = s.whole;
    unjoined = s.unjoined;
  }
    where
      above : (z : ℕ) → z ≢ 0 → 1 ≤ z
      above zero ne = absurd (ne refl)
      above (suc z) ne = omega arith

  -- what the seat knows after the flag is set, after it has paid, and after it has read the info words of what was sent
  module _ (m found : ℕ) (k1 k2 k3 : Known) (r : Option ℕ) (p : Passes n m (message_of x) x.info found k k1) (paid : IsPaid x.info x.flag k1 k2 r) (learns : Learns k2 k3) where
    pub pays : k1.owes ≡ owes_after (info_at x.info) x.flag []
    pays = ap (λ (z : Known). z.owes) p.known ∙ ap (λ (z : List ℕ). owes_after (info_at x.info) x.flag z) s.unowed

    told_same : k2.told ≡ k.told
    told_same = ap (λ (z : Known). z.told) paid.known ∙ ap (λ (z : Known). z.told) p.known

    held_same : k2.words.held ≡ k1.words.held
    held_same = ap (λ (z : Known). z.words.held) paid.known

    pub paid_bounded : Bounded n k2
    paid_bounded = record {
      room = subst (λ (z : List Message). length z ≤ 390) (sym held_same) p.bounded.room;
      names = λ b h. p.bounded.names b (subst (λ (z : List Message). Has b z) held_same h);
    }

    pub paid_told : Among (record { entry = x.entry; info = info_at x.info }) k2.told
    paid_told = subst (λ (z : List Told). Among (record { entry = x.entry; info = info_at x.info }) z) (sym told_same) (first_told held n k s.ready s.bounded best x inside is none)

    pub paid_ready : (left : List Held) → left ≡ swap_remove held best x → Ready left (sent x.entry (state_at found) (state_at (found + weight x.flag)) (info_at x.info)) k2
    paid_ready left q = subst (λ (z : List Held). Ready z (sent x.entry (state_at found) (state_at (found + weight x.flag)) (info_at x.info)) k2) (sym q)
        (left_ready held n k s.ready s.bounded best x inside is none k2 (sent x.entry (state_at found) (state_at (found + weight x.flag)) (info_at x.info)) (held_same ∙ ap (λ (z : Known). z.words.held) p.known) told_same)

    pub all_settled : (left : List Held) → Ready left [] k3 → Settled left n k3
    all_settled left ready = record {
      ready = ready;
      bounded = still_bounded n k2 k3 learns paid_bounded;
      whole = ap (λ (z : Known). z.words.half) learns.same ∙ (ap (λ (z : Known). z.words.half) paid.known ∙ (ap (λ (z : Known). z.words.half) p.known ∙ s.whole));
      unjoined = ap (λ (z : Known). z.joined) learns.same ∙ (ap (λ (z : Known). z.joined) paid.known ∙ (ap (λ (z : Known). z.joined) p.known ∙ s.unjoined));
      unowed = ap (λ (z : Known). z.owes) learns.same ∙ ap (λ (z : Known). z.owes) paid.known;
      one = learns.one (λ e i j a b. s.one e i j (subst (λ (z : List Told). Among (record { entry = e; info = i }) z) told_same a) (subst (λ (z : List Told). Among (record { entry = e; info = j }) z) told_same b));
    }

    known_is : k3 ≡ record (delivered (message_of x) x.info found paid.count k) { told = k3.told; word = k3.word; found = k3.found }
    known_is =
        learns.same
        ∙ ((λ j. record (paid.known j) { told = k3.told; word = k3.word; found = k3.found })
        ∙ ((λ j. record (p.known j) { owes = []; lowered = lowered_after (info_at x.info) x.flag paid.count (p.known j).lowered; told = k3.told; word = k3.word; found = k3.found })
        ∙ (λ j. record (delivered (message_of x) x.info found paid.count k) { owes = sym s.unowed j; told = k3.told; word = k3.word; found = k3.found })))

    pub delivered_is : Delivered k k3 r
    delivered_is = record {
      message = message_of x;
      first = first_is held n k s.ready s.bounded best x inside is none;
      info = x.info;
      told = first_told held n k s.ready s.bounded best x inside is none;
      one = s.one;
      found = found;
      count = paid.count;
      known = known_is;
      kept = λ t a. learns.told t (subst (λ (z : List Told). Among t z) (sym told_same) a);
      freed_is = paid.freed_is;
    }

    pub last_is : ◌≡◌ {A = Touched} (record { entry = x.entry; state = found + weight x.flag; info = x.info }) k3.last
    last_is = sym (ap (λ (z : Known). z.last) known_is)

    pub all_work : k1.words.delivered ≤ 6 * n → k3.words.delivered ≤ 6 * n
    all_work w = let a = ap (λ (z : Known). z.words.delivered) learns.same in let b = ap (λ (z : Known). z.words.delivered) paid.known in omega (arith, w, a, b)

-- Calls of a seat that take no step

pub holds_is : (held : List Held) (k : Known) (len : ℕ) → Ready held [] k → length held ≡ len → MatchBool (not (len == 0)) (k.words.held ≢ []) (k.words.held ≡ [])
holds_is held k len ready size = go (len == 0) (eqb_tells len 0)
  where
    go : (b : Bool) → ((b ≡ true) × (len ≡ 0)) ⊎ ((b ≡ false) × (len ≢ 0)) → MatchBool (not b) (k.words.held ≢ []) (k.words.held ≡ [])
    go true (inl t) = none_held k.words.held (let a = as_many held k ready in let z = t.1 in omega (arith, a, size, z))
    go true (inr t) = absurd (clash refl t.0)
    go false (inl t) = absurd (clash t.0 refl)
    go false (inr t) = λ q. t.1 (let a = as_many held k ready in let z = ap (λ (xs : List Message). length xs) q in omega (arith, a, size, z))

-- a seat that holds a message has one ready
pub some_ready : (held : List Held) (k : Known) → Ready held [] k → k.words.held ≢ [] → 0 < length held
some_ready held k ready some = elim (some_or held) [
  | inl p ↦ p
  | inr z ↦ absurd (some (none_held k.words.held (sym (as_many held k ready) ∙ z)))
]
  where
    some_or : {A : Type 0} (xs : List A) → (0 < length xs) ⊎ (length xs ≡ 0)
    some_or xs = grind arith

module _ (held : List Held) (n : ℕ) (k : Known) (s : Settled held n k) where
  pub some_join : (r : Option ℕ) → IfSome r (λ e. (at : ℕ) × (x : Held) × (at < length held) × (x ≡ slice_index_or held at x) × NoneBefore held (length held) at × (x.flag ≡ 0) × (x.entry ≡ e)) → IfSome r (λ e. JoinFirst k e)
  some_join None h = tt
  some_join (Some e) h =
      let first = first_is held n k s.ready s.bounded h.0 h.1 h.2 h.3 h.4 in
      subst (λ (m : Message). IsFirst k m) (λ j. record { entry = h.6 j; flag = h.5 j }) first

  pub no_join : (r : Option ℕ) → IfNone r ((length held ≡ 0) ⊎ ((at : ℕ) × (x : Held) × (at < length held) × (x ≡ slice_index_or held at x) × NoneBefore held (length held) at × (x.flag ≢ 0))) → IfNone r (NoJoinFirst k)
  no_join (Some e) h = tt
  no_join None h = elim h [
    | inl z ↦ λ m first q. nothing m (subst (λ (l : List Message). Has m l) (none_held k.words.held (sym (as_many held k s.ready) ∙ z)) first.held)
    | inr x ↦ λ m first q. x.5 (first_join held n k s.ready s.bounded x.0 x.1 x.2 x.3 x.4 s.one m first q)
  ]
    where
      nothing : (m : Message) → Has m [] → ⊥
      nothing m h = elim h [ ]

-- the seat with which a field is made
pub first_settled : (held : List Held) (n : ℕ) (k : Known) → held ≡ [] → k ≡ first_known → Settled held n k
first_settled held n k none known = subst (λ (z : Known). Settled held n z) (sym known) (subst (λ (xs : List Held). Settled xs n first_known) (sym none) (record {
  ready = record { same = λ h. refl; told = λ x a. elim a [ ] };
  bounded = record { room = omega arith; names = λ m h. elim h [ ] };
  whole = refl;
  unjoined = refl;
  unowed = refl;
  one = λ e i j a b. elim a [ ];
}))

-- a seat that was split off
pub new_settled : (held : List Held) (n : ℕ) (k : Known) → held ≡ [] → k ≡ new_known → Settled held n k
new_settled held n k none known = subst (λ (z : Known). Settled held n z) (sym known) (subst (λ (xs : List Held). Settled xs n new_known) (sym none) (record {
  ready = record { same = λ h. refl; told = λ x a. elim a [ ] };
  bounded = record { room = omega arith; names = λ m h. elim h [ ] };
  whole = refl;
  unjoined = refl;
  unowed = refl;
  one = λ e i j a b. elim a [ ];
}))
