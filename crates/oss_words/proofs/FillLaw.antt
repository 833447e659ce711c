-- A fill of the words of an entry that hangs nowhere keeps the flow; so does the last one of an entry that begins a
-- list of main, by which it hangs.
use Rattle.std.proofs.Common.{◌≡◌, ◌≢◌, inl, inr, sym, subst, refl, ◌∙◌, ap, ℕ, ◌<◌, arith, Bool, true, false, not, cond, ◌&&◌, ◌||◌, ◌==◌, List, ◌++◌}
use mathlib.Core.Option as maybe
use lib.ListN.{get_elem?}
use Rattle.oss_words.specs.declared.message.Message.{Message}
use Rattle.oss_words.specs.declared.entry.EntryState.{EntryState}
use Rattle.oss_words.specs.declared.entry.EntryInfo.{EntryInfo}
use Rattle.oss_words.specs.Sums.{total}
use Rattle.oss_words.specs.Net.{Net, Place, apart, top, first, after, Adds}
use Rattle.oss_words.specs.Causes.{part, due, got, has_sibling, is_last, only_reads, tells_reads, tells_writes, tells_folds, tells_clear, tells_done, heads_reads, heads_writes, heads_folds, joins}
use Rattle.oss_words.specs.Members.{Has}
use Rattle.oss_words.specs.Views.{View}
use Rattle.oss_words.specs.Flow.{Counted, Wired, Words, Half, Holding, message, pending, Flow}
use Rattle.oss_words.specs.Steps.{Blank, Fills, Begun}
use Rattle.oss_words.proofs.SumLemmas.{total_append, below_change, same_number}
use Rattle.oss_words.proofs.CauseLemmas.{and_true, clash}
use Rattle.oss_words.proofs.CountLemmas.{held_due}
use Rattle.oss_words.proofs.StepLemmas.{part_off}
use Rattle.oss_words.proofs.DeliverLemmas.{target_hangs}
use Rattle.oss_words.proofs.LinkLaw.{blank_got, blank_apart}
use Rattle.oss_words.proofs.NetLemmas.{other, shaped, still_hangs, new_fits, new_late}

false_l : (x b : Bool) → x ≡ false → (x && b) ≡ false
false_l true b e = absurd (clash refl e)
false_l false b e = refl

false_r : (x b : Bool) → b ≡ false → (x && b) ≡ false
false_r true b e = e
false_r false b e = refl

-- nothing is due at an entry whose word is blank
blank_due : (h : Message → ℕ) (p : Place) (e : ℕ) (a : EntryState) (i : EntryInfo) → Blank p a → total h (due e a i) ≡ 0
blank_due h p e a i b =
    let m0 = total_append h (part (tells_reads a i) a.next 3) ((part (tells_writes a i) a.next 4 ++ (part (tells_folds a i) a.next 2 ++ (part (tells_clear a i) a.next 5 ++ (part (tells_done a i) i.parent 1 ++ (part (heads_reads a) a.child 3 ++ (part (heads_writes a) a.child 4 ++ (part (heads_folds a) a.child 2 ++ part (joins a) e 0)))))))) in
    let m1 = total_append h (part (tells_writes a i) a.next 4) ((part (tells_folds a i) a.next 2 ++ (part (tells_clear a i) a.next 5 ++ (part (tells_done a i) i.parent 1 ++ (part (heads_reads a) a.child 3 ++ (part (heads_writes a) a.child 4 ++ (part (heads_folds a) a.child 2 ++ part (joins a) e 0))))))) in
    let m2 = total_append h (part (tells_folds a i) a.next 2) ((part (tells_clear a i) a.next 5 ++ (part (tells_done a i) i.parent 1 ++ (part (heads_reads a) a.child 3 ++ (part (heads_writes a) a.child 4 ++ (part (heads_folds a) a.child 2 ++ part (joins a) e 0)))))) in
    let m3 = total_append h (part (tells_clear a i) a.next 5) ((part (tells_done a i) i.parent 1 ++ (part (heads_reads a) a.child 3 ++ (part (heads_writes a) a.child 4 ++ (part (heads_folds a) a.child 2 ++ part (joins a) e 0))))) in
    let m4 = total_append h (part (tells_done a i) i.parent 1) ((part (heads_reads a) a.child 3 ++ (part (heads_writes a) a.child 4 ++ (part (heads_folds a) a.child 2 ++ part (joins a) e 0)))) in
    let m5 = total_append h (part (heads_reads a) a.child 3) ((part (heads_writes a) a.child 4 ++ (part (heads_folds a) a.child 2 ++ part (joins a) e 0))) in
    let m6 = total_append h (part (heads_writes a) a.child 4) ((part (heads_folds a) a.child 2 ++ part (joins a) e 0)) in
    let m7 = total_append h (part (heads_folds a) a.child 2) (part (joins a) e 0) in
    let x0 = part_off h (tells_reads a i) (a.next) 3 (false_l (has_sibling a i) (a.reads && (only_reads i.mode || (a.given && a.done))) (false_l a.linked (not (a.next == i.parent)) b.linked)) in
    let x1 = part_off h (tells_writes a i) (a.next) 4 (false_l (has_sibling a i) (a.writes && (a.given && a.done)) (false_l a.linked (not (a.next == i.parent)) b.linked)) in
    let x2 = part_off h (tells_folds a i) (a.next) 2 (false_l (has_sibling a i) (a.next_folds && cond a.next_same a.folds (a.writes && (a.given && a.done))) (false_l a.linked (not (a.next == i.parent)) b.linked)) in
    let x3 = part_off h (tells_clear a i) (a.next) 5 (false_l (has_sibling a i) (a.clear && (a.given && a.done)) (false_l a.linked (not (a.next == i.parent)) b.linked)) in
    let x4 = part_off h (tells_done a i) (i.parent) 1 (false_l (is_last a i) (a.clear && (a.given && a.done)) (false_l a.linked (a.next == i.parent) b.linked)) in
    let x5 = part_off h (heads_reads a) (a.child) 3 (false_l a.headed a.reads b.headed) in
    let x6 = part_off h (heads_writes a) (a.child) 4 (false_l a.headed a.writes b.headed) in
    let x7 = part_off h (heads_folds a) (a.child) 2 (false_l a.headed (a.child_folds && cond a.child_same a.folds a.writes) b.headed) in
    let x8 = part_off h (joins a) (e) 0 (false_r a.folds a.left b.left) in
    omega (arith, m0, m1, m2, m3, m4, m5, m6, m7, x0, x1, x2, x3, x4, x5, x6, x7, x8)

module _ (n : ℕ) (net : Net) (states states' : ℕ → EntryState) (infos infos' : ℕ → EntryInfo) (views : List View) (e : ℕ) (flow : Flow n net states infos views) (d : Fills n net states states' infos infos' e) where
  r : Words n net states infos views
  r = flow.words

  -- what hangs is not the entry
  apart_from : (j : ℕ) → net.place j ≢ apart → j ≢ e
  apart_from j h q = h (ap (λ x. net.place x) q ∙ d.loose)

  blank_wired : Wired net e (states' e) (infos' e)
  blank_wired = record {
    sibling = λ b. absurd (clash (and_true (states' e).linked (not ((states' e).next == (infos' e).parent)) b).0 d.blank_now.linked);
    rising = λ b. absurd (clash (and_true (states' e).linked ((states' e).next == (infos' e).parent) b).0 d.blank_now.linked);
    child = λ b. absurd (clash b d.blank_now.headed);
    leaving = λ b. absurd (clash b d.blank_now.left);
  }

  carry : (P : EntryState → EntryInfo → Type 0) (j : ℕ) → j ≢ e → P (states j) (infos j) → P (states' j) (infos' j)
  carry P j ne p = subst (λ (z : EntryState). P z (infos' j)) (sym (d.others j ne)) (subst (λ (y : EntryInfo). P (states j) y) (sym (d.other_infos j ne)) p)

  carry_word : (P : EntryState → Type 0) (j : ℕ) → j ≢ e → P (states j) → P (states' j)
  carry_word P j ne p = subst (λ (z : EntryState). P z) (sym (d.others j ne)) p

  -- a given or headed entry is another one
  parent_other : (j : ℕ) → j < n → is_last (states j) (infos j) ≡ true → (infos j).parent ≢ e
  parent_other j l b q = clash (subst (λ (x : ℕ). (states x).headed ≡ true) q (r.parents j l b).1) d.blank_before.headed

  parents_now : (j : ℕ) → j < n → j ≢ e → is_last (states j) (infos j) ≡ true → ((infos j).parent < n) × ((states' (infos j).parent).headed ≡ true) × ((states' (infos j).parent).given ≡ true)
  parents_now j l ne b = let p = r.parents j l b in let o = parent_other j l b in (p.0, carry_word (λ z. z.headed ≡ true) (infos j).parent o p.1, carry_word (λ z. z.given ≡ true) (infos j).parent o p.2)

  half_now : (y : View) (x : ℕ) → Half n net states infos x y → Half n net states' infos' x y
  half_now y x h =
      let o = apart_from x h.hangs in let u = apart_from (net.last x) h.hangs_last in
      record {
        inside = h.inside;
        inside_last = h.inside_last;
        given = carry_word (λ z. z.given ≡ true) x o h.given;
        headed = carry_word (λ z. z.headed ≡ true) x o h.headed;
        unlinked = carry_word (λ z. z.linked ≡ false) (net.last x) u h.unlinked;
        child = h.child;
        told = ap (λ (i : EntryInfo). i.parent) (d.other_infos (net.last x) u) ∙ h.told;
        hangs = h.hangs;
        hangs_last = h.hangs_last;
        late = h.late;
      }

  counted : Counted n net.place states' infos' views
  counted h =
      let c = r.count h in
      let g = below_change (λ j. total h (got (net.place j) j (states' j))) (λ j. total h (got (net.place j) j (states j))) n e d.inside (λ j ne. ap (λ (z : EntryState). total h (got (net.place j) j z)) (d.others j ne)) in
      let u = below_change (λ j. total h (due j (states' j) (infos' j))) (λ j. total h (due j (states j) (infos j))) n e d.inside (λ j ne. ap (λ (z : EntryState). total h (due j z (infos' j))) (d.others j ne) ∙ ap (λ (i : EntryInfo). total h (due j (states j) i)) (d.other_infos j ne)) in
      let a : total h (got (net.place e) e (states' e)) ≡ 0 = ap (λ (p : Place). total h (got p e (states' e))) d.loose ∙ blank_got h apart e (states' e) d.blank_now in
      let b : total h (got (net.place e) e (states e)) ≡ 0 = ap (λ (p : Place). total h (got p e (states e))) d.loose ∙ blank_got h apart e (states e) d.blank_before in
      let x = blank_due h apart e (states' e) (infos' e) d.blank_now in
      let y = blank_due h apart e (states e) (infos e) d.blank_before in
      omega (arith, c, g, u, a, b, x, y)

  -- the law of fill
  pub filled : Flow n net states' infos' views
  filled = record {
    words = record {
      shaped = r.shaped;
      wired = λ j l. elim (same_number j e) [
        | inl q ↦ subst (λ (x : ℕ). Wired net x (states' x) (infos' x)) (sym q) blank_wired
        | inr ne ↦ carry (λ c i. Wired net j c i) j ne (r.wired j l)
      ];
      parents = λ j l. elim (same_number j e) [
        | inl q ↦ subst (λ (x : ℕ). is_last (states' x) (infos' x) ≡ true → ((infos' x).parent < n) × ((states' (infos' x).parent).headed ≡ true) × ((states' (infos' x).parent).given ≡ true)) (sym q)
            (λ b. absurd (clash (and_true (states' e).linked ((states' e).next == (infos' e).parent) b).0 d.blank_now.linked))
        | inr ne ↦ carry (λ c i. is_last c i ≡ true → (i.parent < n) × ((states' i.parent).headed ≡ true) × ((states' i.parent).given ≡ true)) j ne (parents_now j l ne)
      ];
      nexts = λ j l. elim (same_number j e) [
        | inl q ↦ subst (λ (x : ℕ). has_sibling (states' x) (infos' x) ≡ true → (states' x).next < n) (sym q)
            (λ b. absurd (clash (and_true (states' e).linked (not ((states' e).next == (infos' e).parent)) b).0 d.blank_now.linked))
        | inr ne ↦ carry (λ c i. has_sibling c i ≡ true → c.next < n) j ne (r.nexts j l)
      ];
      firsts = λ j l. elim (same_number j e) [
        | inl q ↦ subst (λ (x : ℕ). (states' x).headed ≡ true → (states' x).child < n) (sym q) (λ b. absurd (clash b d.blank_now.headed))
        | inr ne ↦ carry_word (λ c. c.headed ≡ true → c.child < n) j ne (r.firsts j l)
      ];
      hung_next = λ s j p. let k = r.hung_next s j p in (k.0, carry_word (λ z. z.linked ≡ true) s (apart_from s (r.shaped.hung s j (inl p))) k.1);
      hung_first = λ s j p. let k = r.hung_first s j p in (k.0, carry_word (λ z. z.headed ≡ true) s (apart_from s (r.shaped.hung s j (inr p))) k.1);
      told = λ j h. ap (λ (i : EntryInfo). i.parent) (d.other_infos j (apart_from j h)) ∙ r.told j h;
      inside = r.inside;
      finished = λ j l. elim (same_number j e) [
        | inl q ↦ subst (λ (x : ℕ). (states' x).done ≡ true → (states' x).given ≡ true) (sym q) (λ b. absurd (clash b d.undone))
        | inr ne ↦ carry_word (λ c. c.done ≡ true → c.given ≡ true) j ne (r.finished j l)
      ];
      count = counted;
      halves = λ id v a x xs h. half_now v x (r.halves id v a x xs h);
      sole = r.sole;
    };
    room = flow.room;
  }

-- the entry hangs as the first of a list of main
module _ (n : ℕ) (net net' : Net) (states : ℕ → EntryState) (infos : ℕ → EntryInfo) (views : List View) (e : ℕ) (flow : Flow n net states infos views) (d : Begun n net net' states infos e) where
  w : Words n net states infos views
  w = flow.words

  a : Adds net net' e
  a = d.adds

  held_other : (j : ℕ) (y : View) → get_elem? views j ≡ maybe.some y → (m : Message) → Has m y.held → m.entry ≢ e
  held_other j y q m h =
      let c = held_due n net states infos views w j y q m h in
      other net net' e w.shaped a m.entry (target_hangs n net states infos views w c.0 c.1 m c.2)

  not_parent : (p : ℕ) → (states p).given ≡ true → p ≢ net'.parent e
  not_parent p g q = clash (subst (λ (x : ℕ). (states x).given ≡ true) q g) d.open_yet

  place_now : (j : ℕ) (p : Place) → net.place j ≡ p → p ≢ apart → net'.place j ≡ p
  place_now j p q ne = a.place j (other net net' e w.shaped a j (λ z. ne (sym q ∙ z))) ∙ q

  half_new : (j : ℕ) (y : View) → get_elem? views j ≡ maybe.some y → (x : ℕ) → Half n net states infos x y → Half n net' states infos x y
  half_new j y q x h =
      let nx = other net net' e w.shaped a x h.hangs in
      let nl = other net net' e w.shaped a (net.last x) h.hangs_last in
      let l : net'.last x ≡ net.last x = a.last x (not_parent x h.given) in
      record {
        inside = h.inside;
        inside_last = subst (λ (z : ℕ). z < n) (sym l) h.inside_last;
        given = h.given;
        headed = h.headed;
        unlinked = subst (λ (z : ℕ). (states z).linked ≡ false) (sym l) h.unlinked;
        child = ap (λ z. net'.parent z) l ∙ a.parent (net.last x) nl ∙ h.child;
        told = subst (λ (z : ℕ). (infos z).parent ≡ x) (sym l) h.told;
        hangs = still_hangs net net' e w.shaped a x h.hangs;
        hangs_last = subst (λ (z : ℕ). net'.place z ≢ apart) (sym l) (still_hangs net net' e w.shaped a (net.last x) h.hangs_last);
        late = λ b k. new_late net net' e w.shaped a x 0 b nx (held_other j y q b k) (h.late b k);
      }

  counted_top : Counted n net'.place states infos views
  counted_top h =
      let c = w.count h in
      let g = below_change (λ j. total h (got (net'.place j) j (states j))) (λ j. total h (got (net.place j) j (states j))) n e d.inside (λ j ne. ap (λ (p : Place). total h (got p j (states j))) (a.place j ne)) in
      let x = blank_got h (net'.place e) e (states e) d.blank in
      let y : total h (got (net.place e) e (states e)) ≡ 0 = ap (λ (p : Place). total h (got p e (states e))) a.fresh ∙ blank_got h apart e (states e) (blank_apart (net'.place e) (states e) d.blank) in
      omega (arith, c, g, x, y)

  holding_other : (j : ℕ) (y : View) → get_elem? views j ≡ maybe.some y → (m : Message) → Holding y m → m.entry ≢ e
  holding_other j y q m (message h) = held_other j y q m h
  holding_other j y q m (pending xs h f) = other net net' e w.shaped a m.entry (w.halves j y q m.entry xs h).hangs

  pub begun : Flow n net' states infos views
  begun = record {
    words = record {
      shaped = shaped net net' e w.shaped a;
      wired = λ j l. elim (same_number j e) [
        | inl q ↦ subst (λ (x : ℕ). Wired net' x (states x) (infos x)) (sym q) (record {
          sibling = λ b. absurd (clash (and_true (states e).linked (not ((states e).next == (infos e).parent)) b).0 d.blank.linked);
          rising = λ b. absurd (clash (and_true (states e).linked ((states e).next == (infos e).parent) b).0 d.blank.linked);
          child = λ b. absurd (clash b d.blank.headed);
          leaving = λ b. absurd (clash b d.blank.left);
        })
        | inr ne ↦ let k = w.wired j l in record {
          sibling = λ b. place_now (states j).next (after j) (k.sibling b) (λ z. cc);
          rising = λ b. (a.last (infos j).parent (not_parent (infos j).parent (w.parents j l b).2) ∙ (k.rising b).0, still_hangs net net' e w.shaped a (infos j).parent (k.rising b).1, (k.rising b).2 ∙ sym (a.parent j ne));
          child = λ b. place_now (states j).child (first j) (k.child b) (λ z. cc);
          leaving = λ b. still_hangs net net' e w.shaped a j (k.leaving b);
        }
      ];
      parents = w.parents;
      nexts = w.nexts;
      firsts = w.firsts;
      hung_next = λ s j p. elim (same_number j e) [
        | inl q ↦ let z : top ≡ after s = sym d.begins ∙ ap (λ x. net'.place x) (sym q) ∙ p in absurd (cc)
        | inr ne ↦ w.hung_next s j (sym (a.place j ne) ∙ p)
      ];
      hung_first = λ s j p. elim (same_number j e) [
        | inl q ↦ let z : top ≡ first s = sym d.begins ∙ ap (λ x. net'.place x) (sym q) ∙ p in absurd (cc)
        | inr ne ↦ w.hung_first s j (sym (a.place j ne) ∙ p)
      ];
      told = λ j p. elim (same_number j e) [
        | inl q ↦ subst (λ (x : ℕ). (infos x).parent ≡ net'.parent x) (sym q) d.info
        | inr ne ↦ w.told j (λ z. p (a.place j ne ∙ z)) ∙ sym (a.parent j ne)
      ];
      inside = λ j p. elim (same_number j e) [
        | inl q ↦ subst (λ (x : ℕ). x < n) (sym q) d.inside
        | inr ne ↦ w.inside j (λ z. p (a.place j ne ∙ z))
      ];
      finished = w.finished;
      count = counted_top;
      halves = λ j y q x xs h. half_new j y q x (w.halves j y q x xs h);
      sole = w.sole;
    };
    room = λ j y q x z hx hz. new_fits net net' e w.shaped a x z (holding_other j y q x hx) (holding_other j y q z hz) (flow.room j y q x z hx hz);
  }
