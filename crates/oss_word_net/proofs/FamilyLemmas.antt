-- What state words tell of the links that an owner has made.
use Rattle.std.proofs.Common.{◌≡◌, sym, subst, refl, ℕ, ◌<◌, true, false, List}
use Rattle.oss_words.specs.declared.entry.EntryState.{EntryState}
use Rattle.oss_words.specs.Bits.{state_at}
use Rattle.oss_words.specs.Net.{after}
use Rattle.oss_words.specs.Views.{Hung, Among, among_later}
use Rattle.oss_word_net.specs.Known.{Known, Kin, Family}
use Rattle.oss_word_net.specs.Moves.{looked}
use Rattle.oss_word_net.specs.Standing.{Watches}

pub watches_none : (k : Known) → Watches k k
watches_none k = record {
  held = refl;
  half = refl;
  links = refl;
  gives = refl;
  delivered = refl;
  filling = refl;
  carries = record { entries = refl; owned = refl; parts = refl; splits = refl; failed = refl; told = λ t h. h; seen = λ s h. h };
}

-- one more state word was read
pub watches_more : (a k b : Known) (e n : ℕ) → Watches a k → b ≡ looked e n k → Watches a b
watches_more a k b e n w q = subst (λ (z : Known). Watches a z) (sym q) record {
  held = w.held;
  half = w.half;
  links = w.links;
  gives = w.gives;
  delivered = w.delivered;
  filling = w.filling;
  carries = record { entries = w.carries.entries; owned = w.carries.owned; parts = w.carries.parts; splits = w.carries.splits; failed = w.carries.failed; told = w.carries.told; seen = λ s h. among_later (w.carries.seen s h) };
}

pub next_of : (a k : Known) (p e : ℕ) (c : EntryState) → Watches a k → Family k e c → Kin a.view.links p e → Among p a.view.owned → (Among p a.view.gives → ⊥)
    → c.linked ≡ true → Among (record { entry = c.next; place = after e }) a.view.links × (e < c.next)
next_of a k p e c w f kin own open_yet l =
    let r = f.linked p (subst (λ (z : List Hung). Kin z p e) (sym w.links) kin) (subst (λ (z : List ℕ). Among p z) (sym w.carries.owned) own) (λ g. open_yet (subst (λ (z : List ℕ). Among p z) w.gives g)) l in
    (subst (λ (z : List Hung). Among (record { entry = c.next; place = after e }) z) w.links r.0, r.1)

pub none_behind : (a k : Known) (p e : ℕ) (c : EntryState) → Watches a k → Family k e c → Kin a.view.links p e → c.linked ≡ false → (j : ℕ) → Among (record { entry = j; place = after e }) a.view.links → ⊥
none_behind a k p e c w f kin l j m = f.unlinked p (subst (λ (z : List Hung). Kin z p e) (sym w.links) kin) l j (subst (λ (z : List Hung). Among (record { entry = j; place = after e }) z) (sym w.links) m)

-- What is kept while the list of a parent's children is gone along: e is one of them, and c is its state.
pub record Along (n : ℕ) (a k : Known) (p e : ℕ) (c : EntryState) : Type 0 where
  pub watches : Watches a k
  pub linked : c.linked ≡ true → Among (record { entry = c.next; place = after e }) a.view.links × (e < c.next) × (c.next < n)
  pub unlinked : c.linked ≡ false → (j : ℕ) → Among (record { entry = j; place = after e }) a.view.links → ⊥

-- behind one more read
pub along : (n : ℕ) (a k b : Known) (p e w : ℕ) (c : EntryState) → Watches a k → Kin a.view.links p e → Among p a.view.owned → (Among p a.view.gives → ⊥) → b ≡ looked e w k → Family k e (state_at w)
    → ((state_at w).linked ≡ true → (state_at w).next < n) → c ≡ state_at w → Along n a b p e c
along n a k b p e w c watches kin own open_yet q family inside is = subst (λ (z : EntryState). Along n a b p e z) (sym is) record {
  watches = watches_more a k b e w watches q;
  linked = λ l. let r = next_of a k p e (state_at w) watches family kin own open_yet l in (r.0, r.1, inside l);
  unlinked = none_behind a k p e (state_at w) watches family kin;
}
