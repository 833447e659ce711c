-- The flow after a message was delivered.
use Rattle.std.proofs.Common.{◌≡◌, ◌≢◌, inl, inr, sym, subst, refl, ◌∙◌, ap, ℕ, ◌<◌, ◌≤◌, arith, Bool, true, false, not, cond, ◌&&◌, ◌||◌, ◌==◌, List, ◌++◌}
use mathlib.Core.Option as maybe
use lib.ListN.{get_elem?}
use Rattle.oss_words.specs.declared.message.Message.{Message}
use Rattle.oss_words.specs.declared.entry.EntryState.{EntryState}
use Rattle.oss_words.specs.declared.entry.EntryInfo.{EntryInfo}
use Rattle.oss_words.specs.Net.{Net, Place, apart, first, after}
use Rattle.oss_words.specs.Causes.{part, got, has_sibling, is_last, only_reads, Due, due_reads, due_writes, due_folds, due_clear, due_done, due_first_reads, due_first_writes, due_first_folds, due_join, starts_open, starts_clear}
use Rattle.oss_words.specs.Members.{Has, head}
use Rattle.oss_words.specs.Views.{View}
use Rattle.oss_words.specs.Flow.{Wired, Words, Holding, message, pending}
use Rattle.oss_words.proofs.SumLemmas.{same_number}
use Rattle.oss_words.proofs.CauseLemmas.{and_true, clash, has_left, has_right}
use Rattle.oss_words.proofs.CountLemmas.{Origin, from_before, from_above, from_last, from_self, origin, held_due, held_new}
use Rattle.oss_words.proofs.ListLemmas.{one_waits}
use Rattle.oss_words.proofs.StepLemmas.{MayCome}

pub part_has : (b : Bool) (y f : ℕ) → b ≡ true → Has (record { entry = y; flag = f }) (part b y f)
part_has true y f e = head refl refl
part_has false y f e = absurd (cc)

pub and_both : (a b : Bool) → a ≡ true → b ≡ false → (a && not b) ≡ true
and_both true true e f = absurd (cc)
and_both true false e f = refl
and_both false b e f = absurd (cc)

pub and_and : (a b : Bool) → a ≡ true → b ≡ true → (a && b) ≡ true
and_and true b e f = f
and_and false b e f = absurd (cc)

-- of each row of what came, that it is there
came_reads : (p : Place) (e : ℕ) (c : EntryState) → c.reads ≡ true → starts_open p ≡ false → Has (record { entry = e; flag = 3 }) (got p e c)
came_reads p e c x s = has_right (record { entry = e; flag = 3 }) (part (c.done && c.headed) e 1) ((part (c.folds && not (starts_open p)) e 2 ++ (part (c.reads && not (starts_open p)) e 3 ++ (part (c.writes && not (starts_open p)) e 4 ++ (part (c.clear && not (starts_clear p)) e 5 ++ part (c.given && c.left) e 0))))) (has_right (record { entry = e; flag = 3 }) (part (c.folds && not (starts_open p)) e 2) ((part (c.reads && not (starts_open p)) e 3 ++ (part (c.writes && not (starts_open p)) e 4 ++ (part (c.clear && not (starts_clear p)) e 5 ++ part (c.given && c.left) e 0)))) (has_left (record { entry = e; flag = 3 }) (part (c.reads && not (starts_open p)) e 3) ((part (c.writes && not (starts_open p)) e 4 ++ (part (c.clear && not (starts_clear p)) e 5 ++ part (c.given && c.left) e 0))) (part_has (c.reads && not (starts_open p)) e 3 (and_both c.reads (starts_open p) x s))))

came_writes : (p : Place) (e : ℕ) (c : EntryState) → c.writes ≡ true → starts_open p ≡ false → Has (record { entry = e; flag = 4 }) (got p e c)
came_writes p e c x s = has_right (record { entry = e; flag = 4 }) (part (c.done && c.headed) e 1) ((part (c.folds && not (starts_open p)) e 2 ++ (part (c.reads && not (starts_open p)) e 3 ++ (part (c.writes && not (starts_open p)) e 4 ++ (part (c.clear && not (starts_clear p)) e 5 ++ part (c.given && c.left) e 0))))) (has_right (record { entry = e; flag = 4 }) (part (c.folds && not (starts_open p)) e 2) ((part (c.reads && not (starts_open p)) e 3 ++ (part (c.writes && not (starts_open p)) e 4 ++ (part (c.clear && not (starts_clear p)) e 5 ++ part (c.given && c.left) e 0)))) (has_right (record { entry = e; flag = 4 }) (part (c.reads && not (starts_open p)) e 3) ((part (c.writes && not (starts_open p)) e 4 ++ (part (c.clear && not (starts_clear p)) e 5 ++ part (c.given && c.left) e 0))) (has_left (record { entry = e; flag = 4 }) (part (c.writes && not (starts_open p)) e 4) ((part (c.clear && not (starts_clear p)) e 5 ++ part (c.given && c.left) e 0)) (part_has (c.writes && not (starts_open p)) e 4 (and_both c.writes (starts_open p) x s)))))

came_clear : (p : Place) (e : ℕ) (c : EntryState) → c.clear ≡ true → starts_clear p ≡ false → Has (record { entry = e; flag = 5 }) (got p e c)
came_clear p e c x s = has_right (record { entry = e; flag = 5 }) (part (c.done && c.headed) e 1) ((part (c.folds && not (starts_open p)) e 2 ++ (part (c.reads && not (starts_open p)) e 3 ++ (part (c.writes && not (starts_open p)) e 4 ++ (part (c.clear && not (starts_clear p)) e 5 ++ part (c.given && c.left) e 0))))) (has_right (record { entry = e; flag = 5 }) (part (c.folds && not (starts_open p)) e 2) ((part (c.reads && not (starts_open p)) e 3 ++ (part (c.writes && not (starts_open p)) e 4 ++ (part (c.clear && not (starts_clear p)) e 5 ++ part (c.given && c.left) e 0)))) (has_right (record { entry = e; flag = 5 }) (part (c.reads && not (starts_open p)) e 3) ((part (c.writes && not (starts_open p)) e 4 ++ (part (c.clear && not (starts_clear p)) e 5 ++ part (c.given && c.left) e 0))) (has_right (record { entry = e; flag = 5 }) (part (c.writes && not (starts_open p)) e 4) ((part (c.clear && not (starts_clear p)) e 5 ++ part (c.given && c.left) e 0)) (has_left (record { entry = e; flag = 5 }) (part (c.clear && not (starts_clear p)) e 5) (part (c.given && c.left) e 0) (part_has (c.clear && not (starts_clear p)) e 5 (and_both c.clear (starts_clear p) x s))))))

pub came_join : (p : Place) (e : ℕ) (c : EntryState) → c.given ≡ true → c.left ≡ true → Has (record { entry = e; flag = 0 }) (got p e c)
came_join p e c x s = has_right (record { entry = e; flag = 0 }) (part (c.done && c.headed) e 1) ((part (c.folds && not (starts_open p)) e 2 ++ (part (c.reads && not (starts_open p)) e 3 ++ (part (c.writes && not (starts_open p)) e 4 ++ (part (c.clear && not (starts_clear p)) e 5 ++ part (c.given && c.left) e 0))))) (has_right (record { entry = e; flag = 0 }) (part (c.folds && not (starts_open p)) e 2) ((part (c.reads && not (starts_open p)) e 3 ++ (part (c.writes && not (starts_open p)) e 4 ++ (part (c.clear && not (starts_clear p)) e 5 ++ part (c.given && c.left) e 0)))) (has_right (record { entry = e; flag = 0 }) (part (c.reads && not (starts_open p)) e 3) ((part (c.writes && not (starts_open p)) e 4 ++ (part (c.clear && not (starts_clear p)) e 5 ++ part (c.given && c.left) e 0))) (has_right (record { entry = e; flag = 0 }) (part (c.writes && not (starts_open p)) e 4) ((part (c.clear && not (starts_clear p)) e 5 ++ part (c.given && c.left) e 0)) (has_right (record { entry = e; flag = 0 }) (part (c.clear && not (starts_clear p)) e 5) (part (c.given && c.left) e 0) (part_has (c.given && c.left) e 0 (and_and c.given c.left x s))))))

along_reads : (net : Net) (e : ℕ) (c : EntryState) (i : EntryInfo) (m : Message) → Due e c i m → m.flag ≡ 3 → net.place m.entry ≡ after e → c.reads ≡ true
along_reads net e c i m (due_reads b y f) k p = (and_true c.reads (only_reads i.mode || (c.given && c.done)) (and_true (has_sibling c i) (c.reads && (only_reads i.mode || (c.given && c.done))) b).1).0
along_reads net e c i m (due_writes b y f) k p = absurd (omega (arith, f, k))
along_reads net e c i m (due_folds b y f) k p = absurd (omega (arith, f, k))
along_reads net e c i m (due_clear b y f) k p = absurd (omega (arith, f, k))
along_reads net e c i m (due_done b y f) k p = absurd (omega (arith, f, k))
along_reads net e c i m (due_first_reads b y f) k p = (and_true c.headed c.reads b).1
along_reads net e c i m (due_first_writes b y f) k p = absurd (omega (arith, f, k))
along_reads net e c i m (due_first_folds b y f) k p = absurd (omega (arith, f, k))
along_reads net e c i m (due_join b y f) k p = absurd (omega (arith, f, k))

waits_reads : (net : Net) (e : ℕ) (c : EntryState) (i : EntryInfo) (m : Message) → Wired net e c i → Due e c i m → m.flag ≡ 3 → starts_open (net.place m.entry) ≡ false
waits_reads net e c i m w d k = elim (origin net e c i m w d) [
  | from_before p f ↦ ap starts_open p
  | from_above p f n ↦ ap starts_open p
  | from_last p f ↦ absurd (omega (arith, f, k))
  | from_self p f ↦ absurd (omega (arith, f, k))
]

along_writes : (net : Net) (e : ℕ) (c : EntryState) (i : EntryInfo) (m : Message) → Due e c i m → m.flag ≡ 4 → net.place m.entry ≡ after e → c.writes ≡ true
along_writes net e c i m (due_reads b y f) k p = absurd (omega (arith, f, k))
along_writes net e c i m (due_writes b y f) k p = (and_true c.writes (c.given && c.done) (and_true (has_sibling c i) (c.writes && (c.given && c.done)) b).1).0
along_writes net e c i m (due_folds b y f) k p = absurd (omega (arith, f, k))
along_writes net e c i m (due_clear b y f) k p = absurd (omega (arith, f, k))
along_writes net e c i m (due_done b y f) k p = absurd (omega (arith, f, k))
along_writes net e c i m (due_first_reads b y f) k p = absurd (omega (arith, f, k))
along_writes net e c i m (due_first_writes b y f) k p = (and_true c.headed c.writes b).1
along_writes net e c i m (due_first_folds b y f) k p = absurd (omega (arith, f, k))
along_writes net e c i m (due_join b y f) k p = absurd (omega (arith, f, k))

waits_writes : (net : Net) (e : ℕ) (c : EntryState) (i : EntryInfo) (m : Message) → Wired net e c i → Due e c i m → m.flag ≡ 4 → starts_open (net.place m.entry) ≡ false
waits_writes net e c i m w d k = elim (origin net e c i m w d) [
  | from_before p f ↦ ap starts_open p
  | from_above p f n ↦ ap starts_open p
  | from_last p f ↦ absurd (omega (arith, f, k))
  | from_self p f ↦ absurd (omega (arith, f, k))
]

along_clear : (net : Net) (e : ℕ) (c : EntryState) (i : EntryInfo) (m : Message) → Due e c i m → m.flag ≡ 5 → net.place m.entry ≡ after e → c.clear ≡ true
along_clear net e c i m (due_reads b y f) k p = absurd (omega (arith, f, k))
along_clear net e c i m (due_writes b y f) k p = absurd (omega (arith, f, k))
along_clear net e c i m (due_folds b y f) k p = absurd (omega (arith, f, k))
along_clear net e c i m (due_clear b y f) k p = (and_true c.clear (c.given && c.done) (and_true (has_sibling c i) (c.clear && (c.given && c.done)) b).1).0
along_clear net e c i m (due_done b y f) k p = absurd (omega (arith, f, k))
along_clear net e c i m (due_first_reads b y f) k p = absurd (omega (arith, f, k))
along_clear net e c i m (due_first_writes b y f) k p = absurd (omega (arith, f, k))
along_clear net e c i m (due_first_folds b y f) k p = absurd (omega (arith, f, k))
along_clear net e c i m (due_join b y f) k p = absurd (omega (arith, f, k))

waits_clear : (net : Net) (e : ℕ) (c : EntryState) (i : EntryInfo) (m : Message) → Wired net e c i → Due e c i m → m.flag ≡ 5 → starts_clear (net.place m.entry) ≡ false
waits_clear net e c i m w d k = elim (origin net e c i m w d) [
  | from_before p f ↦ ap starts_clear p
  | from_above p f n ↦ absurd (n k)
  | from_last p f ↦ absurd (omega (arith, f, k))
  | from_self p f ↦ absurd (omega (arith, f, k))
]

pub small : (e : ℕ) (c : EntryState) (i : EntryInfo) (m : Message) → Due e c i m → m.flag ≤ 5
small e c i m (due_reads b y f) = omega (arith, f)
small e c i m (due_writes b y f) = omega (arith, f)
small e c i m (due_folds b y f) = omega (arith, f)
small e c i m (due_clear b y f) = omega (arith, f)
small e c i m (due_done b y f) = omega (arith, f)
small e c i m (due_first_reads b y f) = omega (arith, f)
small e c i m (due_first_writes b y f) = omega (arith, f)
small e c i m (due_first_folds b y f) = omega (arith, f)
small e c i m (due_join b y f) = omega (arith, f)

module _ (n : ℕ) (net : Net) (states : ℕ → EntryState) (infos : ℕ → EntryInfo) (views : List View) (r : Words n net states infos views) where
  -- a message has its target in the table
  pub target_in : (e : ℕ) → e < n → (m : Message) → Due e (states e) (infos e) m → m.entry < n
  target_in e l m (due_reads b y f) = let q = r.nexts e l (and_true (has_sibling (states e) (infos e)) ((states e).reads && (only_reads (infos e).mode || ((states e).given && (states e).done))) b).0 in omega (arith, q, y)
  target_in e l m (due_writes b y f) = let q = r.nexts e l (and_true (has_sibling (states e) (infos e)) ((states e).writes && ((states e).given && (states e).done)) b).0 in omega (arith, q, y)
  target_in e l m (due_folds b y f) = let q = r.nexts e l (and_true (has_sibling (states e) (infos e)) ((states e).next_folds && cond (states e).next_same (states e).folds ((states e).writes && ((states e).given && (states e).done))) b).0 in omega (arith, q, y)
  target_in e l m (due_clear b y f) = let q = r.nexts e l (and_true (has_sibling (states e) (infos e)) ((states e).clear && ((states e).given && (states e).done)) b).0 in omega (arith, q, y)
  target_in e l m (due_done b y f) = let q = (r.parents e l (and_true (is_last (states e) (infos e)) ((states e).clear && ((states e).given && (states e).done)) b).0).0 in omega (arith, q, y)
  target_in e l m (due_first_reads b y f) = let q = r.firsts e l (and_true (states e).headed (states e).reads b).0 in omega (arith, q, y)
  target_in e l m (due_first_writes b y f) = let q = r.firsts e l (and_true (states e).headed (states e).writes b).0 in omega (arith, q, y)
  target_in e l m (due_first_folds b y f) = let q = r.firsts e l (and_true (states e).headed ((states e).child_folds && cond (states e).child_same (states e).folds (states e).writes) b).0 in omega (arith, q, y)
  target_in e l m (due_join b y f) = omega (arith, l, y)

  -- and hangs
  pub target_hangs : (e : ℕ) → e < n → (m : Message) → Due e (states e) (infos e) m → net.place m.entry ≢ apart
  target_hangs e l m (due_reads b y f) = λ q. let z : after e ≡ apart = sym ((r.wired e l).sibling (and_true (has_sibling (states e) (infos e)) ((states e).reads && (only_reads (infos e).mode || ((states e).given && (states e).done))) b).0) ∙ ap (λ x. net.place x) y ∙ q in absurd (cc)
  target_hangs e l m (due_writes b y f) = λ q. let z : after e ≡ apart = sym ((r.wired e l).sibling (and_true (has_sibling (states e) (infos e)) ((states e).writes && ((states e).given && (states e).done)) b).0) ∙ ap (λ x. net.place x) y ∙ q in absurd (cc)
  target_hangs e l m (due_folds b y f) = λ q. let z : after e ≡ apart = sym ((r.wired e l).sibling (and_true (has_sibling (states e) (infos e)) ((states e).next_folds && cond (states e).next_same (states e).folds ((states e).writes && ((states e).given && (states e).done))) b).0) ∙ ap (λ x. net.place x) y ∙ q in absurd (cc)
  target_hangs e l m (due_clear b y f) = λ q. let z : after e ≡ apart = sym ((r.wired e l).sibling (and_true (has_sibling (states e) (infos e)) ((states e).clear && ((states e).given && (states e).done)) b).0) ∙ ap (λ x. net.place x) y ∙ q in absurd (cc)
  target_hangs e l m (due_done b y f) = λ q. ((r.wired e l).rising (and_true (is_last (states e) (infos e)) ((states e).clear && ((states e).given && (states e).done)) b).0).1 (ap (λ x. net.place x) y ∙ q)
  target_hangs e l m (due_first_reads b y f) = λ q. let z : first e ≡ apart = sym ((r.wired e l).child (and_true (states e).headed (states e).reads b).0) ∙ ap (λ x. net.place x) y ∙ q in absurd (cc)
  target_hangs e l m (due_first_writes b y f) = λ q. let z : first e ≡ apart = sym ((r.wired e l).child (and_true (states e).headed (states e).writes b).0) ∙ ap (λ x. net.place x) y ∙ q in absurd (cc)
  target_hangs e l m (due_first_folds b y f) = λ q. let z : first e ≡ apart = sym ((r.wired e l).child (and_true (states e).headed ((states e).child_folds && cond (states e).child_same (states e).folds (states e).writes) b).0) ∙ ap (λ x. net.place x) y ∙ q in absurd (cc)
  target_hangs e l m (due_join b y f) = λ q. (r.wired e l).leaving (and_true (states e).folds (states e).left b).1 (ap (λ x. net.place x) y ∙ q)

  -- and may come there
  pub may_come : (e : ℕ) → e < n → (m : Message) → Due e (states e) (infos e) m → MayCome (net.place m.entry) (states m.entry) m.flag
  may_come e l m d =
      let o = origin net e (states e) (infos e) m (r.wired e l) d in
      ((λ f. headed d f), (λ f g. opens o f g), (λ f. clears o f))
    where
      headed : Due e (states e) (infos e) m → m.flag ≡ 1 → (states m.entry).headed ≡ true
      headed (due_done b y f) k = subst (λ (x : ℕ). (states x).headed ≡ true) y (r.parents e l (and_true (is_last (states e) (infos e)) ((states e).clear && ((states e).given && (states e).done)) b).0).1
      headed (due_reads b y f) k = absurd (omega (arith, f, k))
      headed (due_writes b y f) k = absurd (omega (arith, f, k))
      headed (due_folds b y f) k = absurd (omega (arith, f, k))
      headed (due_clear b y f) k = absurd (omega (arith, f, k))
      headed (due_first_reads b y f) k = absurd (omega (arith, f, k))
      headed (due_first_writes b y f) k = absurd (omega (arith, f, k))
      headed (due_first_folds b y f) k = absurd (omega (arith, f, k))
      headed (due_join b y f) k = absurd (omega (arith, f, k))

      opens : Origin net m e → 2 ≤ m.flag → m.flag ≤ 4 → starts_open (net.place m.entry) ≡ false
      opens (from_before p f) g h = ap starts_open p
      opens (from_above p f k) g h = ap starts_open p
      opens (from_last p f) g h = absurd (omega (arith, f, g))
      opens (from_self p f) g h = absurd (omega (arith, f, g))

      clears : Origin net m e → m.flag ≡ 5 → starts_clear (net.place m.entry) ≡ false
      clears (from_before p f) g = ap starts_clear p
      clears (from_above p f k) g = absurd (k g)
      clears (from_last p f) g = absurd (omega (arith, f, g))
      clears (from_self p f) g = absurd (omega (arith, f, g))

  module _ (id : ℕ) (v : View) (at : get_elem? views id ≡ maybe.some v) where
    -- of reads, writes and clear one message waits in a list
    pub alone : (a b : Message) → Has a v.held → Has b v.held → 3 ≤ a.flag → a.flag ≡ b.flag → net.lead a.entry ≡ net.lead b.entry → a.entry ≡ b.entry
    alone a b ha hb big f e = elim (same_number a.flag 3) [
      | inl q ↦ one_waits n net states infos views r 3 (omega arith) (λ c. c.reads ≡ true) starts_open (along_reads net) came_reads (λ t. refl) (waits_reads net) id v at a.entry b.entry (of a 3 q ha) (of b 3 (sym f ∙ q) hb) e
      | inr n3 ↦ elim (same_number a.flag 4) [
        | inl q ↦ one_waits n net states infos views r 4 (omega arith) (λ c. c.writes ≡ true) starts_open (along_writes net) came_writes (λ t. refl) (waits_writes net) id v at a.entry b.entry (of a 4 q ha) (of b 4 (sym f ∙ q) hb) e
        | inr n4 ↦ elim (same_number a.flag 5) [
          | inl q ↦ one_waits n net states infos views r 5 (omega arith) (λ c. c.clear ≡ true) starts_clear (along_clear net) came_clear (λ t. refl) (waits_clear net) id v at a.entry b.entry (of a 5 q ha) (of b 5 (sym f ∙ q) hb) e
          | inr n5 ↦
              let d = held_due n net states infos views r id v at a ha in
              let s = small d.0 (states d.0) (infos d.0) a d.2 in
              absurd (grind (arith, big, n3, n4, n5, s))
        ]
      ]
    ]
      where
        of : (x : Message) (k : ℕ) → x.flag ≡ k → Has x v.held → Has (record { entry = x.entry; flag = k }) v.held
        of x k q h = subst (λ (z : ℕ). Has (record { entry = x.entry; flag = z }) v.held) q h

    -- a done and a join of one entry are never held by a seat at once
    pub opened : (a b : Message) → Has a v.held → Holding v b → a.flag ≡ 1 → b.flag ≡ 0 → a.entry ≡ b.entry → ⊥
    opened a b ha hb f g e =
        let d = held_due n net states infos views r id v at a ha in
        from_done d.0 d.1 d.2 hb
      where
        given_at : (e0 : ℕ) → e0 < n → is_last (states e0) (infos e0) ≡ true → (infos e0).parent ≡ a.entry → Holding v b → ⊥
        given_at e0 l last y (message h) =
            let p : b.entry < n = (let q = (r.parents e0 l last).0 in omega (arith, q, y, e)) in
            let t : (states b.entry).given ≡ true = subst (λ (x : ℕ). (states x).given ≡ true) (y ∙ e) (r.parents e0 l last).2 in
            let j = held_due n net states infos views r id v at b h in
            joined j.0 j.1 j.2 (λ e1 l1 given left. held_new n net states infos views r id v at b h e1 l1 given) p t
          where
            joined : (d : ℕ) → d < n → Due d (states d) (infos d) b → ((e1 : ℕ) → e1 < n → Has b (got (net.place e1) e1 (states e1)) → (states e1).left ≡ true → ⊥) → b.entry < n → (states b.entry).given ≡ true → ⊥
            joined d l1 (due_join c y1 f1) k p t =
                let left = (and_true (states d).folds (states d).left c).1 in
                let left' : (states b.entry).left ≡ true = subst (λ (x : ℕ). (states x).left ≡ true) y1 left in
                k b.entry p (subst (λ (x : ℕ). Has (record { entry = b.entry; flag = x }) (got (net.place b.entry) b.entry (states b.entry))) (sym g) (came_join (net.place b.entry) b.entry (states b.entry) t left')) left'
            joined d l1 (due_reads c y1 f1) k p t = omega (arith, f1, g)
            joined d l1 (due_writes c y1 f1) k p t = omega (arith, f1, g)
            joined d l1 (due_folds c y1 f1) k p t = omega (arith, f1, g)
            joined d l1 (due_clear c y1 f1) k p t = omega (arith, f1, g)
            joined d l1 (due_done c y1 f1) k p t = omega (arith, f1, g)
            joined d l1 (due_first_reads c y1 f1) k p t = omega (arith, f1, g)
            joined d l1 (due_first_writes c y1 f1) k p t = omega (arith, f1, g)
            joined d l1 (due_first_folds c y1 f1) k p t = omega (arith, f1, g)
        given_at e0 l last y (pending xs h k) =
            let w = r.wired e0 l in
            let q : net.last b.entry ≡ e0 = ap (λ x. net.last x) (sym e ∙ sym y) ∙ (w.rising last).0 in
            let no_link = (r.halves id v at b.entry xs h).unlinked in
            let linked = (and_true (states e0).linked ((states e0).next == (infos e0).parent) last).0 in
            clash linked (subst (λ (x : ℕ). (states x).linked ≡ false) q no_link)

        from_done : (d : ℕ) → d < n → Due d (states d) (infos d) a → Holding v b → ⊥
        from_done d l (due_done c y k) h = given_at d l (and_true (is_last (states d) (infos d)) ((states d).clear && ((states d).given && (states d).done)) c).0 y h
        from_done d l (due_reads c y k) h = omega (arith, k, f)
        from_done d l (due_writes c y k) h = omega (arith, k, f)
        from_done d l (due_folds c y k) h = omega (arith, k, f)
        from_done d l (due_clear c y k) h = omega (arith, k, f)
        from_done d l (due_first_reads c y k) h = omega (arith, k, f)
        from_done d l (due_first_writes c y k) h = omega (arith, k, f)
        from_done d l (due_first_folds c y k) h = omega (arith, k, f)
        from_done d l (due_join c y k) h = omega (arith, k, f)
