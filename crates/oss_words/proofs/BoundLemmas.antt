-- A seat never holds more than 390 messages: one for each of the depths up to 64 and each of 6 flags.
use Rattle.std.proofs.Common.{◌≡◌, ◌≢◌, ◌⊎◌, inl, inr, sym, refl, ◌∙◌, ℕ, zero, suc, ◌<◌, ◌≤◌, ◌+◌, ◌*◌, arith, Bool, true, false, ◌&&◌, ◌==◌, List, [], ◌∷◌, length}
use mathlib.Core.Option as maybe
use lib.ListN.{get_elem?}
use Rattle.std.proofs.lemmas.Bool.Decides.{eqb_tells}
use Rattle.oss_words.specs.declared.message.Message.{Message}
use Rattle.oss_words.specs.declared.entry.EntryState.{EntryState}
use Rattle.oss_words.specs.declared.entry.EntryInfo.{EntryInfo}
use Rattle.oss_words.specs.Sums.{total, below, num}
use Rattle.oss_words.specs.Net.{Net}
use Rattle.oss_words.specs.Members.{Has, head, tail, only}
use Rattle.oss_words.specs.Views.{View}
use Rattle.oss_words.specs.Flow.{Flow, message}
use Rattle.oss_words.proofs.SumLemmas.{below_at}
use Rattle.oss_words.proofs.CauseLemmas.{clash, only_is}
use Rattle.oss_words.proofs.CountLemmas.{held_once, held_due}
use Rattle.oss_words.proofs.DeliverLemmas.{small}

-- 1 for the messages of this depth and flag
abbrev slot : Net → ℕ → ℕ → Message → ℕ
slot net d f m = num ((net.depth m.entry == d) && (m.flag == f))

slot_is : (net : Net) (d f : ℕ) (m : Message) → net.depth m.entry ≡ d → m.flag ≡ f → slot net d f m ≡ 1
slot_is net d f m p q = go (net.depth m.entry == d) (m.flag == f) (eqb_tells (net.depth m.entry) d) (eqb_tells m.flag f)
  where
    go : (a b : Bool) → ((a ≡ true) × (net.depth m.entry ≡ d)) ⊎ ((a ≡ false) × (net.depth m.entry ≢ d)) → ((b ≡ true) × (m.flag ≡ f)) ⊎ ((b ≡ false) × (m.flag ≢ f)) → num (a && b) ≡ 1
    go true true x y = refl
    go true false x (inl y) = absurd (clash y.0 refl)
    go true false x (inr y) = absurd (y.1 q)
    go false b (inl x) y = absurd (clash x.0 refl)
    go false b (inr x) y = absurd (x.1 p)

slot_so : (net : Net) (d f : ℕ) (m : Message) → 0 < slot net d f m → (net.depth m.entry ≡ d) × (m.flag ≡ f)
slot_so net d f m h = go (net.depth m.entry == d) (m.flag == f) (eqb_tells (net.depth m.entry) d) (eqb_tells m.flag f) h
  where
    go : (a b : Bool) → ((a ≡ true) × (net.depth m.entry ≡ d)) ⊎ ((a ≡ false) × (net.depth m.entry ≢ d)) → ((b ≡ true) × (m.flag ≡ f)) ⊎ ((b ≡ false) × (m.flag ≢ f)) → 0 < num (a && b) → (net.depth m.entry ≡ d) × (m.flag ≡ f)
    go true true (inl x) (inl y) h = (x.1, y.1)
    go true true (inl x) (inr y) h = absurd (clash refl y.0)
    go true true (inr x) y h = absurd (clash refl x.0)
    go true false x y h = absurd (omega (arith, h))
    go false b x y h = absurd (omega (arith, h))

slot_small : (net : Net) (d f : ℕ) (m : Message) → slot net d f m ≤ 1
slot_small net d f m = go ((net.depth m.entry == d) && (m.flag == f))
  where
    go : (b : Bool) → num b ≤ 1
    go true = omega arith
    go false = omega arith

positive : (k : ℕ) → (k ≡ 0) ⊎ (0 < k)
positive k = grind arith

total_le : (f g : Message → ℕ) (xs : List Message) → ((x : Message) → Has x xs → f x ≤ g x) → total f xs ≤ total g xs
total_le f g [] h = omega arith
total_le f g (x ∷ xs) h = let a = h x (head refl refl) in let b = total_le f g xs (λ y k. h y (tail k)) in omega (arith, a, b)

-- some element that counts
some_counts : (f : Message → ℕ) (xs : List Message) → 0 < total f xs → (x : Message) × Has x xs × (0 < f x)
some_counts f [] h = absurd (omega (arith, h))
some_counts f (x ∷ xs) h = elim (positive (f x)) [
  | inl z ↦ let r = some_counts f xs (omega (arith, h, z)) in (r.0, tail r.1, r.2)
  | inr p ↦ (x, head refl refl, p)
]

below_add : (f g : ℕ → ℕ) (n : ℕ) → below (λ i. f i + g i) n ≡ below f n + below g n
below_add f g zero = refl
below_add f g (suc n) = let a = below_add f g n in omega (arith, a)

below_same : (f g : ℕ → ℕ) (n : ℕ) → ((i : ℕ) → f i ≡ g i) → below f n ≡ below g n
below_same f g zero h = refl
below_same f g (suc n) h = let a = below_same f g n h in let b = h n in omega (arith, a, b)

pub below_le : (f : ℕ → ℕ) (n k : ℕ) → ((i : ℕ) → f i ≤ k) → below f n ≤ n * k
below_le f zero k h = omega arith
below_le f (suc n) k h = let a = below_le f n k h in let b = h n in grind (arith, a, b)

all_slots : (net : Net) (depths flags : ℕ) (xs : List Message) → ((x : Message) → Has x xs → (net.depth x.entry < depths) × (x.flag < flags)) → length xs ≤ below (λ d. below (λ f. total (slot net d f) xs) flags) depths
all_slots net depths flags [] h = omega arith
all_slots net depths flags (x ∷ xs) h =
    let r = all_slots net depths flags xs (λ y k. h y (tail k)) in
    let b = h x (head refl refl) in
    let one = slot_is net (net.depth x.entry) x.flag x refl refl in
    let inner = below_at (λ f. slot net (net.depth x.entry) f x) flags x.flag b.1 in
    let outer = below_at (λ d. below (λ f. slot net d f x) flags) depths (net.depth x.entry) b.0 in
    let split = below_same (λ d. below (λ f. slot net d f x + total (slot net d f) xs) flags) (λ d. below (λ f. slot net d f x) flags + below (λ f. total (slot net d f) xs) flags) depths (λ d. below_add (λ f. slot net d f x) (λ f. total (slot net d f) xs) flags) in
    let sum = below_add (λ d. below (λ f. slot net d f x) flags) (λ d. below (λ f. total (slot net d f) xs) flags) depths in
    omega (arith, r, one, inner, outer, split, sum)

module _ (n : ℕ) (net : Net) (states : ℕ → EntryState) (infos : ℕ → EntryInfo) (views : List View) (flow : Flow n net states infos views) (id : ℕ) (v : View) (at : get_elem? views id ≡ maybe.some v) where
  slot_once : (d f : ℕ) → total (slot net d f) v.held ≤ 1
  slot_once d f = elim (positive (total (slot net d f) v.held)) [
    | inl z ↦ omega (arith, z)
    | inr p ↦
        let s = some_counts (slot net d f) v.held p in
        let k = slot_so net d f s.0 s.2 in
        let o = held_once n net states infos views flow.words id v at s.0 in
        let l = total_le (slot net d f) (only s.0) v.held (λ x h. elim (positive (slot net d f x)) [
          | inl z ↦ omega (arith, z)
          | inr y ↦
              let j = slot_so net d f x y in
              let e = (flow.room id v at x s.0 (message h) (message s.1)).alike (j.1 ∙ sym k.1) (j.0 ∙ sym k.0) in
              let u = only_is s.0 x e (j.1 ∙ sym k.1) in
              let w = slot_small net d f x in
              omega (arith, u, w)
        ]) in
        omega (arith, o, l)
  ]

  bound : (depths flags : ℕ) → ((x : Message) → Has x v.held → (net.depth x.entry < depths) × (x.flag < flags)) → length v.held ≤ depths * (flags * 1)
  bound depths flags h =
      let a = all_slots net depths flags v.held h in
      let b = below_le (λ d. below (λ f. total (slot net d f) v.held) flags) depths (flags * 1) (λ d. below_le (λ f. total (slot net d f) v.held) flags 1 (λ f. slot_once d f)) in
      omega (arith, a, b)

  -- where no entry lies deeper than 64
  pub room_bound : ((e : ℕ) → net.depth e ≤ 64) → length v.held ≤ 390
  room_bound deep = bound 65 6 (λ x h. let s = flag_small x h in let k = deep x.entry in (omega (arith, k), omega (arith, s)))
    where
      flag_small : (x : Message) → Has x v.held → x.flag ≤ 5
      flag_small x h = let d = held_due n net states infos views flow.words id v at x h in small d.0 (states d.0) (infos d.0) x d.2
