-- A link of a new entry keeps the flow.
use Rattle.std.proofs.Common.{◌≡◌, ◌≢◌, ◌⊎◌, inl, inr, sym, subst, refl, ◌∙◌, ap, ℕ, ◌<◌, arith, Bool, true, false, not, cond, ◌&&◌, ◌||◌, ◌==◌, List, [], ◌∷◌, ◌++◌, set}
use mathlib.Core.Option as maybe
use lib.ListN.{get_elem?}
use Rattle.oss_words.specs.declared.message.Message.{Message}
use Rattle.oss_words.specs.declared.entry.EntryState.{EntryState}
use Rattle.oss_words.specs.declared.entry.EntryInfo.{EntryInfo}
use Rattle.oss_words.specs.Sums.{total}
use Rattle.oss_words.specs.Net.{Net, Place, apart, top, first, after}
use Rattle.oss_words.specs.Causes.{part, due, sent, got, has_sibling, is_last, only_reads, starts_open, starts_clear}
use Rattle.oss_words.specs.Members.{Has}
use Rattle.atomic_table.proofs.Lists.{at_set}
use Rattle.std.proofs.lemmas.Bool.{and_right}
use Rattle.std.proofs.lemmas.Bool.Decides.{eqb_tells}
use Rattle.oss_words.specs.Net.{Adds, How, behind_last, below_parent, first_of_main}
use Rattle.oss_words.specs.Room.{Room}
use Rattle.oss_words.specs.Views.{View}
use Rattle.oss_words.specs.Flow.{Counted, Wired, Words, Half, Holding, message, pending, Flow}
use Rattle.oss_words.specs.Steps.{Links, to_sibling, to_child, Blank}
use Rattle.oss_words.proofs.SumLemmas.{total_append, total_set, below_change, same_number}
use Rattle.oss_words.proofs.CauseLemmas.{and_true, clash, sent_is}
use Rattle.oss_words.proofs.CountLemmas.{held_due}
use Rattle.oss_words.proofs.StepLemmas.{Grows, sent_law, part_off}
use Rattle.oss_words.proofs.DeliverLemmas.{target_hangs}
use Rattle.oss_words.proofs.DeliverLaw.{sole_step, room_step}
use Rattle.oss_words.proofs.OwnerLaw.{own_sends}
use Rattle.oss_words.proofs.NetLemmas.{other, parent_other, shaped, still_hangs, new_fits, new_late}

-- nothing came to an entry whose word is blank
pub blank_got : (h : Message → ℕ) (p : Place) (e : ℕ) (a : EntryState) → Blank p a → total h (got p e a) ≡ 0
blank_got h p e a b =
    let m0 = total_append h (part (a.done && a.headed) e 1) ((part (a.folds && not (starts_open p)) e 2 ++ (part (a.reads && not (starts_open p)) e 3 ++ (part (a.writes && not (starts_open p)) e 4 ++ (part (a.clear && not (starts_clear p)) e 5 ++ part (a.given && a.left) e 0))))) in
    let m1 = total_append h (part (a.folds && not (starts_open p)) e 2) ((part (a.reads && not (starts_open p)) e 3 ++ (part (a.writes && not (starts_open p)) e 4 ++ (part (a.clear && not (starts_clear p)) e 5 ++ part (a.given && a.left) e 0)))) in
    let m2 = total_append h (part (a.reads && not (starts_open p)) e 3) ((part (a.writes && not (starts_open p)) e 4 ++ (part (a.clear && not (starts_clear p)) e 5 ++ part (a.given && a.left) e 0))) in
    let m3 = total_append h (part (a.writes && not (starts_open p)) e 4) ((part (a.clear && not (starts_clear p)) e 5 ++ part (a.given && a.left) e 0)) in
    let m4 = total_append h (part (a.clear && not (starts_clear p)) e 5) (part (a.given && a.left) e 0) in
    let x0 = part_off h (a.done && a.headed) e 1 (and_right a.done a.headed b.headed) in
    let x1 = part_off h (a.folds && not (starts_open p)) e 2 b.folds in
    let x2 = part_off h (a.reads && not (starts_open p)) e 3 b.reads in
    let x3 = part_off h (a.writes && not (starts_open p)) e 4 b.writes in
    let x4 = part_off h (a.clear && not (starts_clear p)) e 5 b.clear in
    let x5 = part_off h (a.given && a.left) e 0 (and_right a.given a.left b.left) in
    omega (arith, m0, m1, m2, m3, m4, x0, x1, x2, x3, x4, x5)

pub blank_apart : (p : Place) (a : EntryState) → Blank p a → Blank apart a
blank_apart p a b = record {
  linked = b.linked;
  headed = b.headed;
  left = b.left;
  folds = and_right a.folds false refl;
  reads = and_right a.reads false refl;
  writes = and_right a.writes false refl;
  clear = and_right a.clear false refl;
}

child_got : (h : Message → ℕ) (p : Place) (e o : ℕ) (x y : Bool) (a : EntryState) → a.done ≡ false → total h (got p e (record a { headed = true; child = o; child_folds = x; child_same = y })) ≡ total h (got p e a)
child_got h p e o x y a d =
    let n0 = total_append h (part (a.done && true) e 1) ((part (a.folds && not (starts_open p)) e 2 ++ (part (a.reads && not (starts_open p)) e 3 ++ (part (a.writes && not (starts_open p)) e 4 ++ (part (a.clear && not (starts_clear p)) e 5 ++ part (a.given && a.left) e 0))))) in
    let m0 = total_append h (part (a.done && a.headed) e 1) ((part (a.folds && not (starts_open p)) e 2 ++ (part (a.reads && not (starts_open p)) e 3 ++ (part (a.writes && not (starts_open p)) e 4 ++ (part (a.clear && not (starts_clear p)) e 5 ++ part (a.given && a.left) e 0))))) in
    let n1 = total_append h (part (a.folds && not (starts_open p)) e 2) ((part (a.reads && not (starts_open p)) e 3 ++ (part (a.writes && not (starts_open p)) e 4 ++ (part (a.clear && not (starts_clear p)) e 5 ++ part (a.given && a.left) e 0)))) in
    let m1 = total_append h (part (a.folds && not (starts_open p)) e 2) ((part (a.reads && not (starts_open p)) e 3 ++ (part (a.writes && not (starts_open p)) e 4 ++ (part (a.clear && not (starts_clear p)) e 5 ++ part (a.given && a.left) e 0)))) in
    let n2 = total_append h (part (a.reads && not (starts_open p)) e 3) ((part (a.writes && not (starts_open p)) e 4 ++ (part (a.clear && not (starts_clear p)) e 5 ++ part (a.given && a.left) e 0))) in
    let m2 = total_append h (part (a.reads && not (starts_open p)) e 3) ((part (a.writes && not (starts_open p)) e 4 ++ (part (a.clear && not (starts_clear p)) e 5 ++ part (a.given && a.left) e 0))) in
    let n3 = total_append h (part (a.writes && not (starts_open p)) e 4) ((part (a.clear && not (starts_clear p)) e 5 ++ part (a.given && a.left) e 0)) in
    let m3 = total_append h (part (a.writes && not (starts_open p)) e 4) ((part (a.clear && not (starts_clear p)) e 5 ++ part (a.given && a.left) e 0)) in
    let n4 = total_append h (part (a.clear && not (starts_clear p)) e 5) (part (a.given && a.left) e 0) in
    let m4 = total_append h (part (a.clear && not (starts_clear p)) e 5) (part (a.given && a.left) e 0) in
    let x0 = part_off h (a.done && true) e 1 (off a.done true d) in
    let y0 = part_off h (a.done && a.headed) e 1 (off a.done a.headed d) in
    omega (arith, n0, m0, n1, m1, n2, m2, n3, m3, n4, m4, x0, y0)
  where
    off : (x b : Bool) → x ≡ false → (x && b) ≡ false
    off true b e = absurd (cc)
    off false b e = refl

sibling_grows : (o e : ℕ) (x y : Bool) (a : EntryState) (i : EntryInfo) → a.linked ≡ false → Grows o a (record a { linked = true; next = e; next_folds = x; next_same = y }) i
sibling_grows o e x y a i u = record {
  row_reads = λ b. absurd (clash (and_true a.linked (not (a.next == i.parent)) (and_true (has_sibling a i) (a.reads && (only_reads i.mode || (a.given && a.done))) b).0).0 u);
  row_writes = λ b. absurd (clash (and_true a.linked (not (a.next == i.parent)) (and_true (has_sibling a i) (a.writes && (a.given && a.done)) b).0).0 u);
  row_folds = λ b. absurd (clash (and_true a.linked (not (a.next == i.parent)) (and_true (has_sibling a i) (a.next_folds && cond a.next_same a.folds (a.writes && (a.given && a.done))) b).0).0 u);
  row_clear = λ b. absurd (clash (and_true a.linked (not (a.next == i.parent)) (and_true (has_sibling a i) (a.clear && (a.given && a.done)) b).0).0 u);
  row_done = λ b. absurd (clash (and_true a.linked (a.next == i.parent) (and_true (is_last a i) (a.clear && (a.given && a.done)) b).0).0 u);
  row_first_reads = λ b. (b, refl);
  row_first_writes = λ b. (b, refl);
  row_first_folds = λ b. (b, refl);
  row_join = λ b. (b, refl);
}

child_grows : (o e : ℕ) (x y : Bool) (a : EntryState) (i : EntryInfo) → a.headed ≡ false → Grows o a (record a { headed = true; child = e; child_folds = x; child_same = y }) i
child_grows o e x y a i u = record {
  row_reads = λ b. (b, refl);
  row_writes = λ b. (b, refl);
  row_folds = λ b. (b, refl);
  row_clear = λ b. (b, refl);
  row_done = λ b. (b, refl);
  row_join = λ b. (b, refl);
  row_first_reads = λ b. absurd (clash (and_true a.headed a.reads b).0 u);
  row_first_writes = λ b. absurd (clash (and_true a.headed a.writes b).0 u);
  row_first_folds = λ b. absurd (clash (and_true a.headed (a.child_folds && cond a.child_same a.folds a.writes) b).0 u);
}

-- the new link does not lead to the parent
never_last : (o e : ℕ) (x y : Bool) (a : EntryState) (i : EntryInfo) → e ≢ i.parent → is_last (record a { linked = true; next = e; next_folds = x; next_same = y }) i ≡ true → ⊥
never_last o e x y a i ne b = elim (eqb_tells e i.parent) [
  | inl p ↦ ne p.1
  | inr p ↦ clash b p.0
]

module _ (n : ℕ) (net net' : Net) (states states' : ℕ → EntryState) (infos : ℕ → EntryInfo) (views : List View) (id : ℕ) (v w : View) (o e : ℕ)
    (flow : Flow n net states infos views) (at : get_elem? views id ≡ maybe.some v) (d : Links n net net' states states' infos o e v w) where
  r : Words n net states infos views
  r = flow.words

  a : Adds net net' e
  a = d.adds

  -- the entry whose word gains the link
  pub place_o : (net'.place e ≡ after o) ⊎ (net'.place e ≡ first o)
  place_o = elim d.links [ to_sibling p u x y q ↦ inl p | to_child p u k x y q ↦ inr p ]

  pub hangs_o : net.place o ≢ apart
  hangs_o = go a.how place_o
    where
      go : How net net' e → (net'.place e ≡ after o) ⊎ (net'.place e ≡ first o) → net.place o ≢ apart
      go (behind_last t p x l g c h bare z) (inl q) = let u : after t ≡ after o = sym p ∙ q in let y : t ≡ o = cc in subst (λ (k : ℕ). net.place k ≢ apart) y h
      go (behind_last t p x l g c h bare z) (inr q) = let u : after t ≡ first o = sym p ∙ q in absurd (cc)
      go (below_parent t p x l g c h bare) (inl q) = let u : first t ≡ after o = sym p ∙ q in absurd (cc)
      go (below_parent t p x l g c h bare) (inr q) = let u : first t ≡ first o = sym p ∙ q in let y : t ≡ o = cc in subst (λ (k : ℕ). net.place k ≢ apart) y h
      go (first_of_main p x l g) (inl q) = let u : top ≡ after o = sym p ∙ q in absurd (cc)
      go (first_of_main p x l g) (inr q) = let u : top ≡ first o = sym p ∙ q in absurd (cc)

  pub other_o : o ≢ e
  other_o = other net net' e r.shaped a o hangs_o

  pub parent_o : net'.place e ≡ after o → net'.parent e ≡ net.parent o
  parent_o q = go a.how
    where
      go : How net net' e → net'.parent e ≡ net.parent o
      go (behind_last t p x l g c h bare z) = let u : after t ≡ after o = sym p ∙ q in let y : t ≡ o = cc in x ∙ ap (λ k. net.parent k) y
      go (below_parent t p x l g c h bare) = let u : first t ≡ after o = sym p ∙ q in absurd (cc)
      go (first_of_main p x l g) = let u : top ≡ after o = sym p ∙ q in absurd (cc)

  pub still_e : states' e ≡ states e
  still_e = d.others e (λ q. other_o (sym q))

  -- what only grows
  grown : (f : EntryState → Bool) → (f (states o) ≡ true → f (states' o) ≡ true) → (j : ℕ) → f (states j) ≡ true → f (states' j) ≡ true
  grown f k j h = elim (same_number j o) [
    | inl q ↦ subst (λ (x : ℕ). f (states x) ≡ true → f (states' x) ≡ true) (sym q) k h
    | inr ne ↦ ap f (d.others j ne) ∙ h
  ]

  headed_o : (states o).headed ≡ true → (states' o).headed ≡ true
  headed_o g = elim d.links [ to_sibling p u x y q ↦ ap (λ (z : EntryState). z.headed) q ∙ g | to_child p u k x y q ↦ ap (λ (z : EntryState). z.headed) q ]

  linked_o : (states o).linked ≡ true → (states' o).linked ≡ true
  linked_o g = elim d.links [ to_sibling p u x y q ↦ ap (λ (z : EntryState). z.linked) q | to_child p u k x y q ↦ ap (λ (z : EntryState). z.linked) q ∙ g ]

  given_o : (states o).given ≡ true → (states' o).given ≡ true
  given_o g = elim d.links [ to_sibling p u x y q ↦ ap (λ (z : EntryState). z.given) q ∙ g | to_child p u k x y q ↦ ap (λ (z : EntryState). z.given) q ∙ g ]

  -- a parent that is given up is not that of the new entry
  pub not_parent : (p : ℕ) → (states p).given ≡ true → p ≢ net'.parent e
  not_parent p g q = clash (subst (λ (x : ℕ). (states x).given ≡ true) q g) d.open_yet

  place_now : (j : ℕ) → (p : Place) → net.place j ≡ p → p ≢ apart → net'.place j ≡ p
  place_now j p q ne = a.place j (other net net' e r.shaped a j (λ z. ne (sym q ∙ z))) ∙ q

  -- the links of an old word
  wired_old : (j : ℕ) → j < n → (c : EntryState) → c ≡ states j → (is_last c (infos j) ≡ true → (infos j).parent ≢ net'.parent e) → j ≢ e → Wired net' j c (infos j)
  wired_old j l c q far ne =
      let k = subst (λ (z : EntryState). Wired net j z (infos j)) (sym q) (r.wired j l) in
      record {
        sibling = λ b. place_now c.next (after j) (k.sibling b) (λ z. cc);
        rising = λ b. (a.last (infos j).parent (far b) ∙ (k.rising b).0, still_hangs net net' e r.shaped a (infos j).parent (k.rising b).1, (k.rising b).2 ∙ sym (a.parent j ne));
        child = λ b. place_now c.child (first j) (k.child b) (λ z. cc);
        leaving = λ b. still_hangs net net' e r.shaped a j (k.leaving b);
      }

  far_off : (j : ℕ) → j < n → is_last (states j) (infos j) ≡ true → (infos j).parent ≢ net'.parent e
  far_off j l b = not_parent (infos j).parent (r.parents j l b).2

  pub told_o : e ≢ (infos o).parent
  told_o q = parent_other net net' e r.shaped a o (sym (r.told o hangs_o) ∙ sym q)

  wired_o : Wired net' o (states' o) (infos o)
  wired_o = elim d.links [
    | to_sibling p u x y q ↦
        let k = wired_old o d.inside (states o) refl (far_off o d.inside) other_o in
        subst (λ (z : EntryState). Wired net' o z (infos o)) (sym q) (record {
          sibling = λ b. p;
          rising = λ b. absurd (never_last o e x y (states o) (infos o) told_o b);
          child = k.child;
          leaving = k.leaving;
        })
    | to_child p u m x y q ↦
        let k = wired_old o d.inside (states o) refl (far_off o d.inside) other_o in
        subst (λ (z : EntryState). Wired net' o z (infos o)) (sym q) (record {
          sibling = k.sibling;
          rising = k.rising;
          child = λ b. p;
          leaving = k.leaving;
        })
  ]

  wired_e : Wired net' e (states' e) (infos e)
  wired_e = subst (λ (z : EntryState). Wired net' e z (infos e)) (sym still_e) (record {
    sibling = λ b. absurd (clash (and_true (states e).linked (not ((states e).next == (infos e).parent)) b).0 d.blank.linked);
    rising = λ b. absurd (clash (and_true (states e).linked ((states e).next == (infos e).parent) b).0 d.blank.linked);
    child = λ b. absurd (clash b d.blank.headed);
    leaving = λ b. absurd (clash b d.blank.left);
  })

  last_o : is_last (states' o) (infos o) ≡ true → is_last (states o) (infos o) ≡ true
  last_o b = elim d.links [
    | to_sibling p u x y q ↦ absurd (never_last o e x y (states o) (infos o) told_o (subst (λ (z : EntryState). is_last z (infos o) ≡ true) q b))
    | to_child p u k x y q ↦ subst (λ (z : EntryState). is_last z (infos o) ≡ true) q b
  ]

  grows : Grows o (states o) (states' o) (infos o)
  grows = elim d.links [
    | to_sibling p u x y q ↦ subst (λ (z : EntryState). Grows o (states o) z (infos o)) (sym q) (sibling_grows o e x y (states o) (infos o) u)
    | to_child p u k x y q ↦ subst (λ (z : EntryState). Grows o (states o) z (infos o)) (sym q) (child_grows o e x y (states o) (infos o) u)
  ]

  got_o : (h : Message → ℕ) (p : Place) → total h (got p o (states' o)) ≡ total h (got p o (states o))
  got_o h p = elim d.links [
    | to_sibling u k x y q ↦ ap (λ (z : EntryState). total h (got p o z)) q
    | to_child u k m x y q ↦ ap (λ (z : EntryState). total h (got p o z)) q ∙ child_got h p o e x y (states o) m
  ]

  counted : Counted n net'.place states' infos (set views id w)
  counted h =
      let c = r.count h in
      let g = below_change (λ j. total h (got (net'.place j) j (states' j))) (λ j. total h (got (net.place j) j (states j))) n o d.inside came in
      let u = below_change (λ j. total h (due j (states' j) (infos j))) (λ j. total h (due j (states j) (infos j))) n o d.inside (λ j ne. ap (λ (z : EntryState). total h (due j z (infos j))) (d.others j ne)) in
      let x = total_set (λ (y : View). total h y.held) views id v w at in
      let k = sent_law h o (states o) (states' o) (infos o) grows in
      let b : total h (got (net'.place o) o (states' o)) ≡ total h (got (net.place o) o (states o)) = ap (λ (p : Place). total h (got p o (states' o))) (a.place o other_o) ∙ got_o h (net.place o) in
      let y : total h v.held ≡ 0 = ap (λ z. total h z) d.empty in
      let z : total h w.held ≡ total h (sent o (states o) (states' o) (infos o)) = ap (λ z. total h z) d.sends in
      omega (arith, c, g, u, x, k, b, y, z)
    where
      came : (j : ℕ) → j ≢ o → total h (got (net'.place j) j (states' j)) ≡ total h (got (net.place j) j (states j))
      came j ne = elim (same_number j e) [
        | inl q ↦ subst (λ (x : ℕ). total h (got (net'.place x) x (states' x)) ≡ total h (got (net.place x) x (states x))) (sym q)
            (ap (λ (z : EntryState). total h (got (net'.place e) e z)) still_e ∙ blank_got h (net'.place e) e (states e) d.blank ∙ sym (ap (λ (p : Place). total h (got p e (states e))) a.fresh ∙ blank_got h apart e (states e) (blank_apart (net'.place e) (states e) d.blank)))
        | inr nj ↦ ap (λ (z : EntryState). total h (got (net'.place j) j z)) (d.others j ne) ∙ ap (λ (p : Place). total h (got p j (states j))) (a.place j nj)
      ]

  -- what is held by a seat hangs
  held_other : (j : ℕ) (y : View) → get_elem? views j ≡ maybe.some y → (m : Message) → Has m y.held → m.entry ≢ e
  held_other j y q m h =
      let c = held_due n net states infos views r j y q m h in
      other net net' e r.shaped a m.entry (target_hangs n net states infos views r c.0 c.1 m c.2)

  half_new : (j : ℕ) (y : View) → get_elem? views j ≡ maybe.some y → (x : ℕ) → Half n net states infos x y → Half n net' states' infos x y
  half_new j y q x h =
      let nx = other net net' e r.shaped a x h.hangs in
      let nl = other net net' e r.shaped a (net.last x) h.hangs_last in
      let l : net'.last x ≡ net.last x = a.last x (not_parent x h.given) in
      record {
        inside = h.inside;
        inside_last = subst (λ (z : ℕ). z < n) (sym l) h.inside_last;
        given = grown (λ z. z.given) given_o x h.given;
        headed = grown (λ z. z.headed) headed_o x h.headed;
        unlinked = subst (λ (z : ℕ). (states' z).linked ≡ false) (sym l) (bare (same_number (net.last x) o));
        child = ap (λ z. net'.parent z) l ∙ a.parent (net.last x) nl ∙ h.child;
        told = subst (λ (z : ℕ). (infos z).parent ≡ x) (sym l) h.told;
        hangs = still_hangs net net' e r.shaped a x h.hangs;
        hangs_last = subst (λ (z : ℕ). net'.place z ≢ apart) (sym l) (still_hangs net net' e r.shaped a (net.last x) h.hangs_last);
        late = λ b k. new_late net net' e r.shaped a x 0 b nx (held_other j y q b k) (h.late b k);
      }
    where
      bare : (net.last x ≡ o) ⊎ (net.last x ≢ o) → (states' (net.last x)).linked ≡ false
      bare (inl u) = elim d.links [
        | to_sibling p k s t z ↦ absurd (not_parent x h.given (sym h.child ∙ ap (λ g. net.parent g) u ∙ sym (parent_o p)))
        | to_child p k m s t z ↦ subst (λ (g : ℕ). (states g).linked ≡ false → (states' g).linked ≡ false) (sym u) (λ g. ap (λ (c : EntryState). c.linked) z ∙ g) h.unlinked
      ]
      bare (inr ne) = ap (λ (z : EntryState). z.linked) (d.others (net.last x) ne) ∙ h.unlinked

  words : Words n net' states' infos (set views id w)
  words = record {
    shaped = shaped net net' e r.shaped a;
    wired = λ j l. elim (same_number j o) [
      | inl q ↦ subst (λ (x : ℕ). Wired net' x (states' x) (infos x)) (sym q) wired_o
      | inr no_o ↦ elim (same_number j e) [
        | inl q ↦ subst (λ (x : ℕ). Wired net' x (states' x) (infos x)) (sym q) wired_e
        | inr ne ↦ wired_old j l (states' j) (d.others j no_o) (λ b. far_off j l (subst (λ (z : EntryState). is_last z (infos j) ≡ true) (d.others j no_o) b)) ne
      ]
    ];
    parents = λ j l b.
        let b' : is_last (states j) (infos j) ≡ true = elim (same_number j o) [
          | inl q ↦ subst (λ (x : ℕ). is_last (states' x) (infos x) ≡ true → is_last (states x) (infos x) ≡ true) (sym q) last_o b
          | inr ne ↦ subst (λ (z : EntryState). is_last z (infos j) ≡ true) (d.others j ne) b
        ] in
        let p = r.parents j l b' in
        (p.0, grown (λ z. z.headed) headed_o (infos j).parent p.1, grown (λ z. z.given) given_o (infos j).parent p.2);
    nexts = λ j l b. elim (same_number j o) [
      | inl q ↦ subst (λ (x : ℕ). has_sibling (states' x) (infos x) ≡ true → (states' x).next < n) (sym q) next_o b
      | inr ne ↦ subst (λ (z : EntryState). has_sibling z (infos j) ≡ true → z.next < n) (sym (d.others j ne)) (r.nexts j l) b
    ];
    firsts = λ j l b. elim (same_number j o) [
      | inl q ↦ subst (λ (x : ℕ). (states' x).headed ≡ true → (states' x).child < n) (sym q) first_o b
      | inr ne ↦ subst (λ (z : EntryState). z.headed ≡ true → z.child < n) (sym (d.others j ne)) (r.firsts j l) b
    ];
    hung_next = λ s j p. elim (same_number j e) [
      | inl q ↦ behind_new s (ap (λ z. net'.place z) (sym q) ∙ p)
      | inr ne ↦ let k = r.hung_next s j (sym (a.place j ne) ∙ p) in (k.0, grown (λ z. z.linked) linked_o s k.1)
    ];
    hung_first = λ s j p. elim (same_number j e) [
      | inl q ↦ below_new s (ap (λ z. net'.place z) (sym q) ∙ p)
      | inr ne ↦ let k = r.hung_first s j (sym (a.place j ne) ∙ p) in (k.0, grown (λ z. z.headed) headed_o s k.1)
    ];
    told = λ j p. elim (same_number j e) [
      | inl q ↦ subst (λ (x : ℕ). (infos x).parent ≡ net'.parent x) (sym q) d.info
      | inr ne ↦ r.told j (λ z. p (a.place j ne ∙ z)) ∙ sym (a.parent j ne)
    ];
    inside = λ j p. elim (same_number j e) [
      | inl q ↦ subst (λ (x : ℕ). x < n) (sym q) d.inside_new
      | inr ne ↦ r.inside j (λ z. p (a.place j ne ∙ z))
    ];
    finished = λ j l b. elim (same_number j o) [
      | inl q ↦ subst (λ (x : ℕ). (states' x).done ≡ true → (states' x).given ≡ true) (sym q) finished_o b
      | inr ne ↦ subst (λ (z : EntryState). z.done ≡ true → z.given ≡ true) (sym (d.others j ne)) (r.finished j l) b
    ];
    count = counted;
    halves = λ j y q x xs h. elim (at_set views id j w y q) [
      | inl u ↦ let z : [] ≡ x ∷ xs = sym d.whole ∙ ap (λ (k : View). k.half) u.1 ∙ h in absurd (cc)
      | inr u ↦ half_new j y u.1 x (r.halves j y u.1 x xs h)
    ];
    sole = sole_step n net states infos views r id w (λ x xs h. let z : [] ≡ x ∷ xs = sym d.whole ∙ h in absurd (cc));
  }
    where
      finished_o : (states' o).done ≡ true → (states' o).given ≡ true
      finished_o = elim d.links [
        | to_sibling p u x y q ↦ subst (λ (z : EntryState). z.done ≡ true → z.given ≡ true) (sym q) (r.finished o d.inside)
        | to_child p u k x y q ↦ subst (λ (z : EntryState). z.done ≡ true → z.given ≡ true) (sym q) (r.finished o d.inside)
      ]

      next_o : has_sibling (states' o) (infos o) ≡ true → (states' o).next < n
      next_o = elim d.links [
        | to_sibling p u x y q ↦ subst (λ (z : EntryState). has_sibling z (infos o) ≡ true → z.next < n) (sym q) (λ b. d.inside_new)
        | to_child p u k x y q ↦ subst (λ (z : EntryState). has_sibling z (infos o) ≡ true → z.next < n) (sym q) (r.nexts o d.inside)
      ]

      first_o : (states' o).headed ≡ true → (states' o).child < n
      first_o = elim d.links [
        | to_sibling p u x y q ↦ subst (λ (z : EntryState). z.headed ≡ true → z.child < n) (sym q) (r.firsts o d.inside)
        | to_child p u k x y q ↦ subst (λ (z : EntryState). z.headed ≡ true → z.child < n) (sym q) (λ b. d.inside_new)
      ]

      behind_new : (s : ℕ) → net'.place e ≡ after s → (s < n) × ((states' s).linked ≡ true)
      behind_new s p = elim d.links [
        | to_sibling q u x y z ↦ let k : after o ≡ after s = sym q ∙ p in let m : o ≡ s = cc in subst (λ (g : ℕ). (g < n) × ((states' g).linked ≡ true)) m (d.inside, ap (λ (c : EntryState). c.linked) z)
        | to_child q u k x y z ↦ let m : first o ≡ after s = sym q ∙ p in absurd (cc)
      ]

      below_new : (s : ℕ) → net'.place e ≡ first s → (s < n) × ((states' s).headed ≡ true)
      below_new s p = elim d.links [
        | to_sibling q u x y z ↦ let k : after o ≡ first s = sym q ∙ p in absurd (cc)
        | to_child q u k x y z ↦ let g : first o ≡ first s = sym q ∙ p in let m : o ≡ s = cc in subst (λ (g : ℕ). (g < n) × ((states' g).headed ≡ true)) m (d.inside, ap (λ (c : EntryState). c.headed) z)
      ]

  holding_other : (j : ℕ) (y : View) → get_elem? views j ≡ maybe.some y → (m : Message) → Holding y m → m.entry ≢ e
  holding_other j y q m (message h) = held_other j y q m h
  holding_other j y q m (pending xs h f) = other net net' e r.shaped a m.entry (r.halves j y q m.entry xs h).hangs

  empty_at : {A : Type 0} (b : Message) → Has b [] → A
  empty_at b h = elim h [ ]

  -- The law of link: the flow is kept
  pub linked : Flow n net' states' infos (set views id w)
  linked = record {
    words = words;
    room = λ j y q. elim (at_set views id j w y q) [
      | inl u ↦ subst (λ (z : View). Room net' (Holding z)) u.1 (own (subst (λ (i : ℕ). get_elem? (set views id w) i ≡ maybe.some w) u.0 (q ∙ ap (λ (z : View). maybe.some z) (sym u.1))))
      | inr u ↦ λ x z hx hz. new_fits net net' e r.shaped a x z (holding_other j y u.1 x hx) (holding_other j y u.1 z hz) (flow.room j y u.1 x z hx hz)
    ];
  }
    where
      own : get_elem? (set views id w) id ≡ maybe.some w → Room net' (Holding w)
      own q = room_step n net' states' infos (set views id w) words id w q [] (sent o (states o) (states' o) (infos o)) d.sends d.whole o 6 ((shaped net net' e r.shaped a).hangs o (still_hangs net net' e r.shaped a o hangs_o))
          (λ x z hx hz. empty_at x hx) (λ x hx. empty_at x hx)
          (λ x hx. own_sends net' o (states o) (states' o) (infos o) x wired_o (sent_is o (states o) (states' o) (infos o) x hx))
