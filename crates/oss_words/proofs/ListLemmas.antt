-- Siblings are in one order, and of reads, writes and clear one message waits in a list.
use Rattle.std.proofs.Common.{◌≡◌, ◌⊎◌, inl, inr, sym, subst, refl, ◌∙◌, ap, ℕ, zero, suc, ◌<◌, ◌≤◌, arith, Bool, false, List}
use mathlib.Core.Option as maybe
use lib.ListN.{get_elem?}
use Rattle.oss_words.specs.declared.message.Message.{Message}
use Rattle.oss_words.specs.declared.entry.EntryState.{EntryState}
use Rattle.oss_words.specs.declared.entry.EntryInfo.{EntryInfo}
use Rattle.oss_words.specs.Net.{Net, Shaped, Place, apart, top, first, after, Earlier, next, back}
use Rattle.oss_words.specs.Causes.{got, Due}
use Rattle.oss_words.specs.Members.{Has}
use Rattle.oss_words.specs.Views.{View}
use Rattle.oss_words.specs.Flow.{Wired, Words}
use Rattle.oss_words.proofs.CountLemmas.{from_before, from_above, from_last, from_self, origin, held_due, held_new, came_due}

data Order (x y : ℕ) : Type 0 where
  less : x < y → Order x y
  equal : x ≡ y → Order x y
  more : y < x → Order x y

ordered : (x y : ℕ) → Order x y
ordered x y = elim (which x y) [ inl h ↦ less h | inr k ↦ elim k [ inl e ↦ equal e | inr h ↦ more h ] ]
  where
    which : (x y : ℕ) → (x < y) ⊎ ((x ≡ y) ⊎ (y < x))
    which x y = grind arith

module _ (net : Net) (s : Shaped net) where
  -- what a place says
  pub data Stands (e : ℕ) : Type 0 where
    leads : net.lead e ≡ e → Stands e
    follows : (t : ℕ) → net.place e ≡ after t → Stands e

  pub stands : (e : ℕ) → Stands e
  stands e = go (net.place e) refl
    where
      go : (p : Place) → net.place e ≡ p → Stands e
      go apart q = leads (s.heads e (λ t h. let r : apart ≡ after t = sym q ∙ h in absurd (cc)))
      go top q = leads (s.heads e (λ t h. let r : top ≡ after t = sym q ∙ h in absurd (cc)))
      go (first p) q = leads (s.heads e (λ t h. let r : first p ≡ after t = sym q ∙ h in absurd (cc)))
      go (after t) q = follows t q

  lead_low : (k e : ℕ) → e < k → net.lead e ≤ e
  lead_low zero e h = absurd (omega (arith, h))
  lead_low (suc k) e h = elim (stands e) [
    | leads l ↦ omega (arith, l)
    | follows t p ↦ let r = s.rises t e p in let i = lead_low k t (omega (arith, h, r)) in let b = s.behind t e p in omega (arith, r, i, b)
  ]

  -- the step behind an earlier sibling
  step : (x y : ℕ) → Earlier net.place x y → (z : ℕ) × (net.place z ≡ after x) × (z ≤ y)
  step x y (next p) = (y, p, omega arith)
  step x y (back {t = t} p e) = let r = step x t e in let l = r.2 in let q = s.rises t y p in (r.0, r.1, omega (arith, l, q))

  pub in_order : (k a b : ℕ) → b < k → a < b → net.lead a ≡ net.lead b → Earlier net.place a b
  in_order zero a b h l e = absurd (omega (arith, h))
  in_order (suc k) a b h l e = elim (stands b) [
    | leads m ↦ let i = lead_low b a l in absurd (omega (arith, i, e, m, l))
    | follows t p ↦
        let r = s.rises t b p in
        let m = s.behind t b p in
        elim (ordered a t) [
          | less q ↦ back p (in_order k a t (omega (arith, r, h)) q (e ∙ m))
          | equal q ↦ next (subst (λ (x : ℕ). net.place b ≡ after x) (sym q) p)
          | more q ↦
              let z = step t a (in_order k t a (omega (arith, l, h)) q (sym m ∙ sym e)) in
              let w = s.one_next t z.0 b z.1 p in
              let u = z.2 in
              absurd (omega (arith, w, u, l))
        ]
  ]

module _ (n : ℕ) (net : Net) (states : ℕ → EntryState) (infos : ℕ → EntryInfo) (views : List View) (r : Words n net states infos views) where
  behind_is : (m : Message) (t d : ℕ) → net.place m.entry ≡ after t → d < n → Due d (states d) (infos d) m → 2 ≤ m.flag → t ≡ d
  behind_is m t d p l u f = elim (origin net d (states d) (infos d) m (r.wired d l) u) [
    | from_before q g ↦ let e : after t ≡ after d = sym p ∙ q in cc
    | from_above q g k ↦ let e : after t ≡ first d = sym p ∙ q in absurd (cc)
    | from_last q g ↦ absurd (omega (arith, f, g))
    | from_self q g ↦ absurd (omega (arith, f, g))
  ]

  -- a flag that goes along a list: where it stands behind a sibling, it stands there too
  module _ (g : ℕ) (two : 2 ≤ g) (Flag : EntryState → Type 0) (starts : Place → Bool)
      (along : (e : ℕ) (c : EntryState) (i : EntryInfo) (m : Message) → Due e c i m → m.flag ≡ g → net.place m.entry ≡ after e → Flag c)
      (came : (p : Place) (e : ℕ) (c : EntryState) → Flag c → starts p ≡ false → Has (record { entry = e; flag = g }) (got p e c))
      (starts_not : (t : ℕ) → starts (after t) ≡ false)
      (waits : (e : ℕ) (c : EntryState) (i : EntryInfo) (m : Message) → Wired net e c i → Due e c i m → m.flag ≡ g → starts (net.place m.entry) ≡ false) where
    -- of a target the one before
    before : (t y : ℕ) (p : net.place y ≡ after t) (d : ℕ) → d < n → Due d (states d) (infos d) (record { entry = y; flag = g }) → (t < n) × Flag (states t)
    before t y p d l u =
        let e = behind_is (record { entry = y; flag = g }) t d p l u two in
        (omega (arith, e, l), subst (λ (x : ℕ). Flag (states x)) (sym e) (along d (states d) (infos d) (record { entry = y; flag = g }) u refl (p ∙ ap (λ x. after x) e)))

    walk : (x y : ℕ) → Earlier net.place x y → y < n → Flag (states y) → (x < n) × Flag (states x)
    walk x y (next p) l f =
        let c = came_due n net states infos views r (record { entry = y; flag = g }) y l (came (net.place y) y (states y) f (ap starts p ∙ starts_not x)) in
        before x y p c.0 c.1 c.2
    walk x y (back {t = t} p e) l f =
        let c = came_due n net states infos views r (record { entry = y; flag = g }) y l (came (net.place y) y (states y) f (ap starts p ∙ starts_not t)) in
        let b = before t y p c.0 c.1 c.2 in
        walk x t e b.0 b.1

    module _ (id : ℕ) (v : View) (at : get_elem? views id ≡ maybe.some v) where
      not_earlier : (x y : ℕ) → Has (record { entry = x; flag = g }) v.held → Has (record { entry = y; flag = g }) v.held → Earlier net.place x y → ⊥
      not_earlier x y hx hy e =
          let dx = held_due n net states infos views r id v at (record { entry = x; flag = g }) hx in
          let dy = held_due n net states infos views r id v at (record { entry = y; flag = g }) hy in
          let w = waits dx.0 (states dx.0) (infos dx.0) (record { entry = x; flag = g }) (r.wired dx.0 dx.1) dx.2 refl in
          let f = ahead e dy.0 dy.1 dy.2 in
          held_new n net states infos views r id v at (record { entry = x; flag = g }) hx x f.0 (came (net.place x) x (states x) f.1 w)
        where
          ahead : Earlier net.place x y → (d : ℕ) → d < n → Due d (states d) (infos d) (record { entry = y; flag = g }) → (x < n) × Flag (states x)
          ahead (next p) d l u = before x y p d l u
          ahead (back {t = t} p e) d l u = let b = before t y p d l u in walk x t e b.0 b.1

      pub one_waits : (x y : ℕ) → Has (record { entry = x; flag = g }) v.held → Has (record { entry = y; flag = g }) v.held → net.lead x ≡ net.lead y → x ≡ y
      one_waits x y hx hy e = elim (ordered x y) [
        | less l ↦ absurd (not_earlier x y hx hy (in_order net r.shaped (suc y) x y (omega arith) l e))
        | equal q ↦ q
        | more l ↦ absurd (not_earlier y x hy hx (in_order net r.shaped (suc x) y x (omega arith) l (sym e)))
      ]
