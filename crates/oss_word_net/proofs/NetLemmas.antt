-- The calls of a net over what holds of a seat between two calls.
use Rattle.std.proofs.Common.{◌≡◌, ◌≢◌, ◌⊎◌, inl, inr, sym, subst, refl, ◌∙◌, ap, ℕ, zero, suc, ◌<◌, ◌≤◌, ◌+◌, ◌*◌, arith, Bool, true, false, not, ◌==◌, List, [], ◌∷◌, map, length}
use Rattle.std.specs.Prelude.{MatchBool}
use Rattle.std.proofs.lemmas.Bool.Decides.{eqb_tells}
use Rattle.oss_words.proofs.CauseLemmas.{clash}
use Rattle.oss_words.specs.declared.message.Message.{Message}
use Rattle.oss_words.specs.declared.entry.EntryInfo.{EntryInfo}
use Rattle.oss_words.specs.declared.entry.After.{After}
use Rattle.oss_words.specs.declared.entry.After.TheVariants.{FirstOf, FirstOfMain, Sibling}
use Rattle.oss_words.specs.Bits.{info_at}
use Rattle.oss_words.specs.Sums.{total}
use Rattle.oss_words.specs.SeatSteps.{numbers}
use Rattle.oss_words.specs.Views.{Among, among_first, among_later, View, Seen}
use Rattle.oss_words.proofs.SeatLemmas.{among_append, among_left}
use Rattle.oss_word_net.specs.declared.held.Held.{Held}
use Rattle.oss_word_net.specs.Calls.{Carries, Completed, Hung, Released, Delivered, LinkSends, with_none, with_last}
use Rattle.oss_word_net.specs.Known.{Known, Told, first_known}
use Rattle.oss_word_net.specs.Moves.{drew, missed, keeping, handed, joined, next_mask, child_mask}
use Rattle.oss_word_net.specs.Standing.{Idle, Ready, Settled, Learns, message_of}
use Rattle.oss_word_net.proofs.HoldLemmas.{ones, still_bounded}
use Rattle.oss_word_net.proofs.SeatLemmas.{left_is}

pub idle_of : (held : List Held) (k : Known) (n : ℕ) → Settled held k → k.entries ≡ n → Idle n k
idle_of held k n s q = subst (λ (z : ℕ). Idle z k) q s.idle

pub settled_of : (held : List Held) (k : Known) (n : ℕ) → Idle n k → Ready held [] k → Settled held k
settled_of held k n idle ready = record { idle = subst (λ (z : ℕ). Idle z k) (sym idle.size) idle; ready = ready }

numbers_below : (a k e : ℕ) → Among e (numbers a k) → e < a + k
numbers_below a zero e m = elim m [ ]
numbers_below a (suc k) e m = elim m [ among_first q ↦ omega (arith, q) | among_later t ↦ let r = numbers_below (suc a) k e t in omega (arith, r) ]

pub drew_settled : (held : List Held) (k b : Known) (count n : ℕ) → Settled held k → n + count ≤ k.entries → b ≡ drew count n k → Settled held b
drew_settled held k b count n s most q = subst (λ (z : Known). Settled held z) (sym q) record {
  idle = record {
    bounded = record { room = s.idle.bounded.room; names = s.idle.bounded.names };
    whole = s.idle.whole;
    idle = s.idle.idle;
    live = s.idle.live;
    size = refl;
    some = s.idle.some;
    owned = λ e m. elim (among_append e (numbers n count) k.view.owned m) [ inl a ↦ (let r = numbers_below n count e a in omega (arith, r, most)) | inr a ↦ s.idle.owned e a ];
  };
  ready = record { same = s.ready.same; told = s.ready.told };
}

pub missed_settled : (held : List Held) (k b : Known) (n : ℕ) → Settled held k → b ≡ missed n k → Settled held b
missed_settled held k b n s q = subst (λ (z : Known). Settled held z) (sym q) record {
  idle = record {
    bounded = record { room = s.idle.bounded.room; names = s.idle.bounded.names };
    whole = s.idle.whole;
    idle = s.idle.idle;
    live = s.idle.live;
    size = refl;
    some = s.idle.some;
    owned = s.idle.owned;
  };
  ready = record { same = s.ready.same; told = s.ready.told };
}

-- as many are ready as are held
pub as_many : (held : List Held) (k : Known) → Ready held [] k → length held ≡ length k.view.held
as_many held k ready =
    let a = ready.same (λ m. 1) in let b = ones (map message_of held) in let c = length_map held in let d = ones k.view.held in
    omega (arith, a, b, c, d)
  where
    length_map : (xs : List Held) → length (map message_of xs) ≡ length xs
    length_map [] = refl
    length_map (x ∷ xs) = ap suc (length_map xs)

pub none_held : (xs : List Message) → length xs ≡ 0 → xs ≡ []
none_held [] q = refl
none_held (x ∷ xs) q = absurd (omega (arith, q))

-- where nothing was held, what a step has sent is what is not ready
pub ready_after : (held : List Held) (items : List Message) (a b : Known) → Ready held [] a → a.view.held ≡ [] → items ≡ b.view.held → ((t : Told) → Among t a.told → Among t b.told) → Ready held items b
ready_after held items a b ready none is told = record {
  same = λ h. let x = ready.same h in let y = ap (λ z. total h z) none in let z = ap (λ z. total h z) is in omega (arith, x, y, z);
  told = λ x m. told (record { entry = x.entry; info = info_at x.info }) (ready.told x m);
}

pub learnt_idle : (n : ℕ) (a b : Known) → Idle n a → Learns a b → Idle n b
learnt_idle n a b i l = record {
  bounded = still_bounded a b l i.bounded;
  whole = ap (λ (v : View). v.half) l.view ∙ i.whole;
  idle = l.filling ∙ i.idle;
  live = λ z. i.live (sym (ap (λ (v : View). v.parts) l.view) ∙ z);
  size = l.entries ∙ i.size;
  some = i.some;
  owned = λ e m. i.owned e (subst (λ (z : List ℕ). Among e z) (ap (λ (v : View). v.owned) l.view) m);
}

carried : (a b d : Known) → Carries a b → Learns b d → Carries a d
carried a b d c l = record {
  entries = l.entries ∙ c.entries;
  owned = ap (λ (v : View). v.owned) l.view ∙ c.owned;
  parts = ap (λ (v : View). v.parts) l.view ∙ c.parts;
  splits = ap (λ (v : View). v.splits) l.view ∙ c.splits;
  failed = ap (λ (v : View). v.failed) l.view ∙ c.failed;
  told = λ t h. l.told t (c.told t h);
  seen = λ s h. subst (λ (z : List Seen). Among s z) (sym (ap (λ (v : View). v.seen) l.view)) (c.seen s h);
}

-- reads behind a step leave what it completed, and the word that it found
completed_learns : (b d : Known) (e : ℕ) (i : EntryInfo) (x : ℕ) → Completed b e i x → Learns b d → Completed d e i x
completed_learns b d e i x c l = record { found = c.found; step = l.added ∙ c.step; messages = ap (λ (v : View). v.held) l.view ∙ c.messages }

link_learns : (a b d : Known) (e : ℕ) (i : EntryInfo) (p : After) → LinkSends a b e i p → Learns b d → LinkSends a d e i p
link_learns a b d e i FirstOfMain s l = ap (λ (v : View). v.held) l.view ∙ s
link_learns a b d e i (FirstOf p) s l = (s.0, s.1, completed_learns b d p s.0 (child_mask e s.0.mode i.mode) s.2 l)
link_learns a b d e i (Sibling o) s l = (s.0, s.1, completed_learns b d o s.0 (next_mask e s.0.mode i.mode) s.2 l)

pub hung_learns : (a b d : Known) (e : ℕ) (i : EntryInfo) (p : After) → Hung a b e i p → Learns b d → Hung a d e i p
hung_learns a b d e i p h l = record {
  carries = carried a b d h.carries l;
  links = ap (λ (v : View). v.links) l.view ∙ h.links;
  gives = ap (λ (v : View). v.gives) l.view ∙ h.gives;
  delivered = ap (λ (v : View). v.delivered) l.view ∙ h.delivered;
  told = l.told (record { entry = e; info = i }) h.told;
  sends = link_learns a b d e i p h.sends l;
}

pub released_learns : (a b d : Known) (e : ℕ) → Released a b e → Learns b d → Released a d e
released_learns a b d e h l = record {
  carries = carried a b d h.carries l;
  links = ap (λ (v : View). v.links) l.view ∙ h.links;
  gives = ap (λ (v : View). v.gives) l.view ∙ h.gives;
  delivered = ap (λ (v : View). v.delivered) l.view ∙ h.delivered;
  sends = elim h.sends [
    | with_none i t none x ↦ with_none i (l.told (record { entry = e; info = i }) t) none (completed_learns b d e i 24 x l)
    | with_last j i t kin none x ↦ with_last j i (l.told (record { entry = j; info = i }) t) kin none (completed_learns b d j i (64 + 65536 * e) x l)
  ];
}

pub delivered_learns : (a b d : Known) → Delivered a b → Learns b d → Delivered a d
delivered_learns a b d h l = record {
  carries = carried a b d h.carries l;
  links = ap (λ (v : View). v.links) l.view ∙ h.links;
  gives = ap (λ (v : View). v.gives) l.view ∙ h.gives;
  delivered = ap (λ (v : View). v.delivered) l.view ∙ h.delivered;
  message = h.message;
  info = h.info;
  told = h.told;
  found = h.found;
  step = l.added ∙ h.step;
  held = h.held;
  first = h.first;
  sends = ap (λ (v : View). v.held) l.view ∙ h.sends;
}

-- the seat that was split, and the new one
pub keep_settled : (held : List Held) (k b : Known) (hand : List ℕ) → Settled held k → 1 < k.view.parts → b ≡ keeping hand k → Settled held b
keep_settled held k b hand s more q = subst (λ (z : Known). Settled held z) (sym q) record {
  idle = record {
    bounded = record { room = s.idle.bounded.room; names = s.idle.bounded.names };
    whole = s.idle.whole;
    idle = s.idle.idle;
    live = λ z. omega (arith, more, z);
    size = refl;
    some = s.idle.some;
    owned = λ e m. s.idle.owned e (left_is hand k.view.owned e m).0;
  };
  ready = record { same = s.ready.same; told = s.ready.told };
}

pub hand_settled : (held : List Held) (k b : Known) (hand : List ℕ) → held ≡ [] → Settled [] (handed hand k) → b ≡ handed hand k → Settled held b
hand_settled held k b hand none s q = subst (λ (z : List Held). Settled z b) (sym none) (subst (λ (z : Known). Settled [] z) (sym q) s)

pub handed_settled : (held : List Held) (k : Known) (hand : List ℕ) → Settled held k → ((e : ℕ) → Among e hand → Among e k.view.owned) → Settled [] (handed hand k)
handed_settled held k hand s own = record {
  idle = record {
    bounded = record { room = omega arith; names = λ m h. elim h [ ] };
    whole = refl;
    idle = refl;
    live = λ z. omega (arith, z);
    size = refl;
    some = s.idle.some;
    owned = λ e m. s.idle.owned e (own e m);
  };
  ready = record { same = λ h. refl; told = λ x m. elim m [ ] };
}

pub first_settled : (n : ℕ) → 0 < n → n ≤ 16777216 → Settled [] (first_known n)
first_settled n some most = record {
  idle = record {
    bounded = record { room = omega arith; names = λ m h. elim h [ ] };
    whole = refl;
    idle = refl;
    live = λ z. omega (arith, z);
    size = refl;
    some = (some, most);
    owned = λ e m. elim m [ among_first q ↦ omega (arith, q, some) | among_later t ↦ elim t [ ] ];
  };
  ready = record { same = λ h. refl; told = λ x m. elim m [ ] };
}

pub join_settled : (held : List Held) (k b x : Known) → Settled held k → x.entries ≡ k.entries → ((e : ℕ) → Among e x.view.owned → e < x.entries) → b ≡ joined k x → Settled held b
join_settled held k b x s size owned q = subst (λ (z : Known). Settled held z) (sym q) record {
  idle = record {
    bounded = record { room = s.idle.bounded.room; names = s.idle.bounded.names };
    whole = s.idle.whole;
    idle = s.idle.idle;
    live = λ z. s.idle.live (omega (arith, z));
    size = refl;
    some = s.idle.some;
    owned = λ e m. elim (among_append e k.view.owned x.view.owned m) [ inl a ↦ s.idle.owned e a | inr a ↦ (let r = owned e a in omega (arith, r, size)) ];
  };
  ready = record { same = s.ready.same; told = λ y m. among_left (record { entry = y.entry; info = info_at y.info }) k.told x.told (s.ready.told y m) };
}

-- whether anything is held
pub holds_is : (held : List Held) (k : Known) (len : ℕ) → Ready held [] k → length held ≡ len → MatchBool (not (len == 0)) (k.view.held ≢ []) (k.view.held ≡ [])
holds_is held k len ready size = go (len == 0) (eqb_tells len 0)
  where
    go : (b : Bool) → ((b ≡ true) × (len ≡ 0)) ⊎ ((b ≡ false) × (len ≢ 0)) → MatchBool (not b) (k.view.held ≢ []) (k.view.held ≡ [])
    go true (inl t) = none_held k.view.held (let a = as_many held k ready in let z = t.1 in omega (arith, a, size, z))
    go true (inr t) = absurd (clash refl t.0)
    go false (inl t) = absurd (clash t.0 refl)
    go false (inr t) = λ q. t.1 (let a = as_many held k ready in let z = ap (λ (xs : List Message). length xs) q in omega (arith, a, size, z))
