-- What the count says of the messages that a seat holds.
use Rattle.std.proofs.Common.{◌≡◌, ◌≢◌, ◌⊎◌, inl, inr, sym, subst, ◌∙◌, ap, ℕ, ◌<◌, ◌≤◌, arith, true, cond, ◌&&◌, ◌||◌, List}
use mathlib.Core.Option as maybe
use lib.ListN.{get_elem?}
use Rattle.oss_words.specs.declared.message.Message.{Message}
use Rattle.oss_words.specs.declared.entry.EntryState.{EntryState}
use Rattle.oss_words.specs.declared.entry.EntryInfo.{EntryInfo}
use Rattle.oss_words.specs.Sums.{total, below}
use Rattle.oss_words.specs.Net.{Net, first, after}
use Rattle.oss_words.specs.Causes.{due, got, has_sibling, is_last, only_reads, Due, due_reads, due_writes, due_folds, due_clear, due_done, due_first_reads, due_first_writes, due_first_folds, due_join}
use Rattle.oss_words.specs.Members.{Has, only}
use Rattle.oss_words.specs.Views.{View}
use Rattle.oss_words.specs.Flow.{Wired, Words}
use Rattle.oss_words.proofs.SumLemmas.{total_at, below_at, below_one, below_some}
use Rattle.oss_words.proofs.CauseLemmas.{and_true, due_is, due_once, total_has, has_total}

-- where a message comes from
pub data Origin (net : Net) (m : Message) (e : ℕ) : Type 0 where
  from_before : net.place m.entry ≡ after e → 2 ≤ m.flag → Origin net m e
  from_above : net.place m.entry ≡ first e → 2 ≤ m.flag → m.flag ≢ 5 → Origin net m e
  from_last : net.last m.entry ≡ e → m.flag ≡ 1 → Origin net m e
  from_self : m.entry ≡ e → m.flag ≡ 0 → Origin net m e

pub origin : (net : Net) (e : ℕ) (c : EntryState) (i : EntryInfo) (m : Message) → Wired net e c i → Due e c i m → Origin net m e
origin net e c i m w (due_reads b y f) = from_before (subst (λ (x : ℕ). net.place x ≡ after e) y (w.sibling (and_true (has_sibling c i) (c.reads && (only_reads i.mode || (c.given && c.done))) b).0)) (omega (arith, f))
origin net e c i m w (due_writes b y f) = from_before (subst (λ (x : ℕ). net.place x ≡ after e) y (w.sibling (and_true (has_sibling c i) (c.writes && (c.given && c.done)) b).0)) (omega (arith, f))
origin net e c i m w (due_folds b y f) = from_before (subst (λ (x : ℕ). net.place x ≡ after e) y (w.sibling (and_true (has_sibling c i) (c.next_folds && cond c.next_same c.folds (c.writes && (c.given && c.done))) b).0)) (omega (arith, f))
origin net e c i m w (due_clear b y f) = from_before (subst (λ (x : ℕ). net.place x ≡ after e) y (w.sibling (and_true (has_sibling c i) (c.clear && (c.given && c.done)) b).0)) (omega (arith, f))
origin net e c i m w (due_done b y f) = from_last (ap (λ x. net.last x) (sym y) ∙ (w.rising (and_true (is_last c i) (c.clear && (c.given && c.done)) b).0).0) (sym f)
origin net e c i m w (due_first_reads b y f) = from_above (subst (λ (x : ℕ). net.place x ≡ first e) y (w.child (and_true c.headed c.reads b).0)) (omega (arith, f)) (λ q. omega (arith, f, q))
origin net e c i m w (due_first_writes b y f) = from_above (subst (λ (x : ℕ). net.place x ≡ first e) y (w.child (and_true c.headed c.writes b).0)) (omega (arith, f)) (λ q. omega (arith, f, q))
origin net e c i m w (due_first_folds b y f) = from_above (subst (λ (x : ℕ). net.place x ≡ first e) y (w.child (and_true c.headed (c.child_folds && cond c.child_same c.folds c.writes) b).0)) (omega (arith, f)) (λ q. omega (arith, f, q))
origin net e c i m w (due_join b y f) = from_self (sym y) (sym f)

pub origin_one : (net : Net) (m : Message) (d e : ℕ) → Origin net m d → Origin net m e → d ≡ e
origin_one net m d e (from_before p f) (from_before q g) = let r : after d ≡ after e = sym p ∙ q in cc
origin_one net m d e (from_before p f) (from_above q g k) = let r : after d ≡ first e = sym p ∙ q in absurd (cc)
origin_one net m d e (from_above p f k) (from_before q g) = let r : first d ≡ after e = sym p ∙ q in absurd (cc)
origin_one net m d e (from_above p f k) (from_above q g l) = let r : first d ≡ first e = sym p ∙ q in cc
origin_one net m d e (from_last p f) (from_last q g) = sym p ∙ q
origin_one net m d e (from_self p f) (from_self q g) = sym p ∙ q
origin_one net m d e (from_before p f) (from_last q g) = absurd (omega (arith, f, g))
origin_one net m d e (from_before p f) (from_self q g) = absurd (omega (arith, f, g))
origin_one net m d e (from_above p f k) (from_last q g) = absurd (omega (arith, f, g))
origin_one net m d e (from_above p f k) (from_self q g) = absurd (omega (arith, f, g))
origin_one net m d e (from_last q g) (from_before p f) = absurd (omega (arith, f, g))
origin_one net m d e (from_self q g) (from_before p f) = absurd (omega (arith, f, g))
origin_one net m d e (from_last q g) (from_above p f k) = absurd (omega (arith, f, g))
origin_one net m d e (from_self q g) (from_above p f k) = absurd (omega (arith, f, g))
origin_one net m d e (from_last p f) (from_self q g) = absurd (omega (arith, f, g))
origin_one net m d e (from_self p f) (from_last q g) = absurd (omega (arith, f, g))

positive : (k : ℕ) → (k ≡ 0) ⊎ (0 < k)
positive k = grind arith

module _ (n : ℕ) (net : Net) (states : ℕ → EntryState) (infos : ℕ → EntryInfo) (views : List View) (r : Words n net states infos views) where
  -- the links of one word lead apart
  links_apart : (e : ℕ) → e < n → has_sibling (states e) (infos e) ≡ true → (states e).headed ≡ true → (states e).next ≢ (states e).child
  links_apart e l a b q =
      let w = r.wired e l in
      let p : after e ≡ first e = sym (w.sibling a) ∙ ap (λ x. net.place x) q ∙ w.child b in absurd (cc)

  -- each message is due once
  pub due_one : (m : Message) → below (λ e. total (only m) (due e (states e) (infos e))) n ≤ 1
  due_one m = elim (positive (below (λ e. total (only m) (due e (states e) (infos e))) n)) [
    | inl z ↦ omega (arith, z)
    | inr p ↦
        let s = below_some (λ e. total (only m) (due e (states e) (infos e))) n p in
        below_one (λ e. total (only m) (due e (states e) (infos e))) n s.0 (due_once s.0 (states s.0) (infos s.0) m (links_apart s.0 s.1))
        (λ j l ne. elim (positive (total (only m) (due j (states j) (infos j)))) [
          | inl z ↦ z
          | inr q ↦ absurd (ne (origin_one net m j s.0 (origin net j (states j) (infos j) m (r.wired j l) (due_is j (states j) (infos j) m (total_has m (due j (states j) (infos j)) q))) (origin net s.0 (states s.0) (infos s.0) m (r.wired s.0 s.1) (due_is s.0 (states s.0) (infos s.0) m (total_has m (due s.0 (states s.0) (infos s.0)) s.2)))))
        ])
  ]

  module _ (id : ℕ) (v : View) (at : get_elem? views id ≡ maybe.some v) where
    held_below : (m : Message) → total (only m) v.held ≤ total (λ v. total (only m) v.held) views
    held_below m = total_at (λ v. total (only m) v.held) views id v at

    -- no message is held twice
    pub held_once : (m : Message) → total (only m) v.held ≤ 1
    held_once m = let a = held_below m in let b = r.count (only m) in let c = due_one m in omega (arith, a, b, c)

    -- a message that is held has its cause
    pub held_due : (m : Message) → Has m v.held → (e : ℕ) × (e < n) × Due e (states e) (infos e) m
    held_due m h =
        let a = held_below m in let b = r.count (only m) in let p = has_total m v.held h in
        let s = below_some (λ e. total (only m) (due e (states e) (infos e))) n (omega (arith, a, b, p)) in
        (s.0, s.1, due_is s.0 (states s.0) (infos s.0) m (total_has m (due s.0 (states s.0) (infos s.0)) s.2))

    -- and did not come yet
    pub held_new : (m : Message) → Has m v.held → (e : ℕ) → e < n → Has m (got (net.place e) e (states e)) → ⊥
    held_new m h e l g =
        let a = held_below m in let b = r.count (only m) in let c = due_one m in let p = has_total m v.held h in
        let q = has_total m (got (net.place e) e (states e)) g in
        let s = below_at (λ e. total (only m) (got (net.place e) e (states e))) n e l in
        omega (arith, a, b, c, p, q, s)

  -- a message that came had its cause
  pub came_due : (m : Message) (e : ℕ) → e < n → Has m (got (net.place e) e (states e)) → (d : ℕ) × (d < n) × Due d (states d) (infos d) m
  came_due m e l g =
      let b = r.count (only m) in
      let q = has_total m (got (net.place e) e (states e)) g in
      let t = below_at (λ e. total (only m) (got (net.place e) e (states e))) n e l in
      let s = below_some (λ e. total (only m) (due e (states e) (infos e))) n (omega (arith, b, q, t)) in
      (s.0, s.1, due_is s.0 (states s.0) (infos s.0) m (total_has m (due s.0 (states s.0) (infos s.0)) s.2))
