-- A give of several steps.
use Rattle.std.proofs.Common.{◌≡◌, sym, subst, refl, ◌∙◌, ap, ℕ, ◌+◌, ◌*◌, false, List, [], ◌∷◌, ◌++◌}
use Rattle.oss_words.specs.declared.message.Message.{Message}
use Rattle.oss_words.specs.declared.entry.EntryInfo.{EntryInfo}
use Rattle.oss_words.specs.Bits.{state_at, info_at}
use Rattle.oss_words.specs.Causes.{sent, posted}
use Rattle.oss_words.specs.Net.{first, after}
use Rattle.oss_words.specs.Views.{Hung, Seen, Among, among_first, among_later}
use Rattle.oss_word_net.specs.Asks.{MayGive, Hangs, by_link}
use Rattle.oss_word_net.specs.Calls.{Carries, MayRelease, Released, with_none, with_last}
use Rattle.oss_word_net.specs.Known.{Known, Told, Kin, eldest, younger}
use Rattle.oss_word_net.specs.Moves.{informed, gave_up, half_gave, rose}
use Rattle.oss_word_net.specs.Plays.{Bounded}
use Rattle.oss_word_net.specs.Standing.{Idle, Watches}
use Rattle.oss_word_net.proofs.CallLemmas.{posted_sent}

-- an info word was read too
pub watches_info : (a k b : Known) (e w : ℕ) → Watches a k → b ≡ informed e w k → Watches a b
watches_info a k b e w f q = subst (λ (z : Known). Watches a z) (sym q) record {
  held = f.held;
  half = f.half;
  links = f.links;
  gives = f.gives;
  delivered = f.delivered;
  filling = f.filling;
  carries = record { entries = f.carries.entries; owned = f.carries.owned; parts = f.carries.parts; splits = f.carries.splits; failed = f.carries.failed; told = λ t h. among_later (f.carries.told t h); seen = f.carries.seen };
}

pub told_now : (k b : Known) (e w : ℕ) → b ≡ informed e w k → Among (record { entry = e; info = info_at w }) b.told
told_now k b e w q = subst (λ (z : Known). Among (record { entry = e; info = info_at w }) z.told) (sym q) (among_first refl)

pub still_idle : (n : ℕ) (a b : Known) → Idle n a → Watches a b → Bounded b → Idle n b
still_idle n a b i w bound = record {
  bounded = bound;
  whole = w.half ∙ i.whole;
  idle = w.filling ∙ i.idle;
  live = λ z. i.live (sym w.carries.parts ∙ z);
  size = w.carries.entries ∙ i.size;
  some = i.some;
  owned = λ e m. i.owned e (subst (λ (z : List ℕ). Among e z) w.carries.owned m);
}

module _ (n : ℕ) (a b : Known) (e : ℕ) (idle : Idle n a) (may : MayRelease a e) (w : Watches a b) where
  pub may_give : MayGive n b e
  may_give = record {
    empty = w.held ∙ may.empty;
    whole = w.half ∙ idle.whole;
    own = subst (λ (z : List ℕ). Among e z) (sym w.carries.owned) may.own;
    place = may.linked.0;
    linked = subst (λ (z : List Hung). Among (record { entry = e; place = may.linked.0 }) z) (sym w.links) may.linked.1;
    ungiven = λ g. may.ungiven (subst (λ (z : List ℕ). Among e z) w.gives g);
    live = λ z. idle.live (sym w.carries.parts ∙ z);
    size = w.carries.entries ∙ idle.size;
  }

  carries_on : (c : Known) → c.entries ≡ b.entries → c.view.owned ≡ b.view.owned → c.view.parts ≡ b.view.parts → c.view.splits ≡ b.view.splits → c.view.failed ≡ b.view.failed → c.told ≡ b.told → c.view.seen ≡ b.view.seen → Carries a c
  carries_on c entries owned parts splits failed told seen = record {
    entries = entries ∙ w.carries.entries;
    owned = owned ∙ w.carries.owned;
    parts = parts ∙ w.carries.parts;
    splits = splits ∙ w.carries.splits;
    failed = failed ∙ w.carries.failed;
    told = λ t h. subst (λ (z : List Told). Among t z) (sym told) (w.carries.told t h);
    seen = λ s h. subst (λ (z : List Seen). Among s z) (sym seen) (w.carries.seen s h);
  }

  idle_on : (c : Known) → Bounded c → c.view.half ≡ [] → c.filling ≡ b.filling → c.view.parts ≡ b.view.parts → c.entries ≡ b.entries → c.view.owned ≡ b.view.owned → Idle n c
  idle_on c bound half filling parts entries owned = record {
    bounded = bound;
    whole = half;
    idle = filling ∙ w.filling ∙ idle.idle;
    live = λ z. idle.live (sym (parts ∙ w.carries.parts) ∙ z);
    size = entries ∙ w.carries.entries ∙ idle.size;
    some = idle.some;
    owned = λ u m. idle.owned u (subst (λ (z : List ℕ). Among u z) (owned ∙ w.carries.owned) m);
  }

  -- with no child
  module _ (c : Known) (x : ℕ) (i : EntryInfo) (q : c ≡ gave_up e i x b) where
    pub whole_released : Among (record { entry = e; info = i }) b.told → ((j : ℕ) → Among (record { entry = j; place = first e }) a.view.links → ⊥) → Released a c e
    whole_released told none = subst (λ (z : Known). Released a z e) (sym q) record {
      carries = carries_on (gave_up e i x b) refl refl refl refl refl refl refl;
      links = w.links;
      gives = ap (λ (z : List ℕ). e ∷ z) w.gives;
      delivered = w.delivered;
      sends = with_none i told none record { found = x; step = refl; messages = refl };
    }

    pub whole_idle : Bounded c → Idle n c
    whole_idle bound = idle_on c bound (ap (λ (z : Known). z.view.half) q ∙ w.half ∙ idle.whole) (ap (λ (z : Known). z.filling) q) (ap (λ (z : Known). z.view.parts) q) (ap (λ (z : Known). z.entries) q) (ap (λ (z : Known). z.view.owned) q)

  -- with children
  module _ (d c : Known) (l x y : ℕ) (i : EntryInfo) (p : d ≡ half_gave e x b) (q : c ≡ rose e l i y d) where
    both : c ≡ rose e l i y (half_gave e x b)
    both = q ∙ ap (λ (z : Known). rose e l i y z) p

    pub above_released : Among (record { entry = l; info = i }) b.told → Kin a.view.links e l → ((j : ℕ) → Among (record { entry = j; place = after l }) a.view.links → ⊥) → Released a c e
    above_released told kin none = subst (λ (z : Known). Released a z e) (sym both) record {
      carries = carries_on (rose e l i y (half_gave e x b)) refl refl refl refl refl refl refl;
      links = w.links;
      gives = ap (λ (z : List ℕ). e ∷ z) w.gives;
      delivered = w.delivered;
      sends = with_last l i told kin none record { found = y; step = refl; messages = ap (λ (z : List Message). z ++ sent l (state_at y) (state_at (y + (64 + 65536 * e))) i) (w.held ∙ may.empty) };
    }

    pub above_idle : Bounded c → Idle n c
    above_idle bound = idle_on c bound (ap (λ (z : Known). z.view.half) both) (ap (λ (z : Known). z.filling) both) (ap (λ (z : Known). z.view.parts) both) (ap (λ (z : Known). z.entries) both) (ap (λ (z : Known). z.view.owned) both)

    pub above_sent : (items : List Message) (u : ℕ) → items ≡ posted (state_at y) (state_at (y + (64 + 65536 * e))) (info_at u) → i ≡ info_at u → (state_at (y + (64 + 65536 * e))).left ≡ false → items ≡ c.view.held
    above_sent items u is info left =
        is ∙ (λ k. posted (state_at y) (state_at (y + (64 + 65536 * e))) (sym info k)) ∙ posted_sent l y (64 + 65536 * e) i left
        ∙ sym (ap (λ (z : Known). z.view.held) both ∙ ap (λ (z : List Message). z ++ sent l (state_at y) (state_at (y + (64 + 65536 * e))) i) (w.held ∙ may.empty))

-- a child of which the links tell may be read
pub kin_hangs : (a b : Known) (p e : ℕ) → Watches a b → Kin a.view.links p e → Hangs b e
kin_hangs a b p e w (eldest m) = by_link (first p) (subst (λ (z : List Hung). Among (record { entry = e; place = first p }) z) (sym w.links) m)
kin_hangs a b p e w (younger {e = c} k m) = by_link (after c) (subst (λ (z : List Hung). Among (record { entry = e; place = after c }) z) (sym w.links) m)

-- a give behind reads
pub released_from : (a b c : Known) (e : ℕ) → Watches a b → Released b c e → Released a c e
released_from a b c e w r = record {
  carries = record {
    entries = r.carries.entries ∙ w.carries.entries;
    owned = r.carries.owned ∙ w.carries.owned;
    parts = r.carries.parts ∙ w.carries.parts;
    splits = r.carries.splits ∙ w.carries.splits;
    failed = r.carries.failed ∙ w.carries.failed;
    told = λ t h. r.carries.told t (w.carries.told t h);
    seen = λ s h. r.carries.seen s (w.carries.seen s h);
  };
  links = r.links ∙ w.links;
  gives = r.gives ∙ ap (λ (z : List ℕ). e ∷ z) w.gives;
  delivered = r.delivered ∙ w.delivered;
  sends = elim r.sends [
    | with_none i t none m ↦ with_none i t (λ j h. none j (subst (λ (z : List Hung). Among (record { entry = j; place = first e }) z) (sym w.links) h)) m
    | with_last l i t kin none m ↦ with_last l i t (subst (λ (z : List Hung). Kin z e l) w.links kin) (λ j h. none j (subst (λ (z : List Hung). Among (record { entry = j; place = after l }) z) (sym w.links) h)) m
  ];
}

pub whole_sent : (b c : Known) (e x u : ℕ) (i : EntryInfo) (items : List Message) → items ≡ posted (state_at x) (state_at (x + 24)) (info_at u) → i ≡ info_at u → (state_at (x + 24)).left ≡ false → c ≡ gave_up e i x b → items ≡ c.view.held
whole_sent b c e x u i items is info left q = is ∙ (λ k. posted (state_at x) (state_at (x + 24)) (sym info k)) ∙ posted_sent e x 24 i left ∙ sym (ap (λ (z : Known). z.view.held) q)
