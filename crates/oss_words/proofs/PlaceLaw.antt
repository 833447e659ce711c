-- What the words keep at a fill, when an entry begins a list of main, and at the steps that change views alone; and the words at the start.
use Rattle.std.proofs.Common.{◌≡◌, ◌≢◌, ◌⊎◌, inl, inr, sym, subst, refl, ◌∙◌, ap, ℕ, zero, suc, ◌<◌, ◌≤◌, arith, Bool, true, false, not, ◌&&◌, ◌==◌, List, [], ◌∷◌, ◌++◌, set}
use mathlib.Core.Option as maybe
use mathlib.Core.Option.{some-ne-none}
use lib.ListN.{get_elem?}
use Rattle.oss_syntax.specs.declared.access.Op.{Op}
use Rattle.oss_syntax.specs.declared.access.Mode.TheVariants.{Write, Fold}
use Rattle.oss_words.specs.declared.entry.EntryState.{EntryState}
use Rattle.oss_words.specs.declared.entry.EntryInfo.{EntryInfo}
use Rattle.oss_words.specs.Net.{Net, Shaped, Place, apart, top, first, after, Child, Adds, How, behind_last, below_parent, first_of_main}
use Rattle.oss_words.specs.Causes.{has_sibling, is_last, is_fold}
use Rattle.oss_words.specs.Grown.{Grown}
use Rattle.oss_words.specs.Modes.{Modes, Starts, Closed, risen, rising}
use Rattle.oss_words.specs.Truth.{Holds, Truth}
use Rattle.oss_words.specs.Flow.{Flow, Words}
use Rattle.oss_words.specs.Rule.{Kept}
use Rattle.oss_words.specs.Views.{View, At}
use Rattle.oss_words.specs.Steps.{Fills, Begun, Tells, no_flags}
use Rattle.oss_words.proofs.SumLemmas.{same_number}
use Rattle.oss_words.proofs.CauseLemmas.{clash, and_true}
use Rattle.oss_words.proofs.NetLemmas.{other, still_hangs, old_after, old_first}
use Rattle.oss_words.proofs.TruthSteps.{truth_linked}
use Rattle.oss_words.proofs.FillLaw.{filled, begun}
use Rattle.oss_words.proofs.ViewLaw.{looked, joined_by, opening}
use Rattle.oss_words.proofs.KeptLaw.{at_here, at_other}
use Rattle.oss_words.proofs.GrowLaw.{mode_of, covers_on}

-- an entry begins a list of main: no word changes
module _ (n : ℕ) (net net' : Net) (gave : ℕ → Bool) (states : ℕ → EntryState) (infos : ℕ → EntryInfo) (views : List View) (e : ℕ)
    (kept : Kept n net gave states infos views) (d : Begun n net net' states infos e) where
  r : Words n net states infos views
  r = kept.flow.words

  a : Adds net net' e
  a = d.adds

  m : Modes n net states infos
  m = kept.modes

  st : Starts n net states infos views
  st = kept.starts

  flow_now : Flow n net' states infos views
  flow_now = begun n net net' states infos views e kept.flow d

  s' : Shaped net'
  s' = flow_now.words.shaped

  mode_on : (j : ℕ) → net.place j ≢ apart → net'.mode j ≡ net.mode j
  mode_on = mode_of n net net' e r.shaped a

  next_mode : (j : ℕ) → j < n → has_sibling (states j) (infos j) ≡ true → net'.mode (states j).next ≡ net.mode (states j).next
  next_mode j l b = mode_on (states j).next (λ z. let y : after j ≡ apart = sym ((r.wired j l).sibling b) ∙ z in absurd (cc))

  child_mode : (j : ℕ) → j < n → (states j).headed ≡ true → net'.mode (states j).child ≡ net.mode (states j).child
  child_mode j l b = mode_on (states j).child (λ z. let y : first j ≡ apart = sym ((r.wired j l).child b) ∙ z in absurd (cc))

  own_next : (j : ℕ) → j < n → has_sibling (states j) (infos j) ≡ true → net'.mode j ≡ net.mode j
  own_next j l b = mode_on j (m.sources j l (inl (and_true (states j).linked (not ((states j).next == (infos j).parent)) b).0))

  own_child : (j : ℕ) → j < n → (states j).headed ≡ true → net'.mode j ≡ net.mode j
  own_child j l b = mode_on j (m.sources j l (inr b))

  not_below : net'.parent e ≡ 0
  not_below = go d.adds.how
    where
      go : How net net' e → net'.parent e ≡ 0
      go (behind_last o p x l g c h b z) = let y : after o ≡ top = sym p ∙ d.begins in absurd (cc)
      go (below_parent o p x l g c h b) = let y : first o ≡ top = sym p ∙ d.begins in absurd (cc)
      go (first_of_main p x l g) = x

  far : (p : ℕ) → (states p).given ≡ true → p ≢ net'.parent e
  far p g q = clash (subst (λ (x : ℕ). (states x).given ≡ true) q g) d.open_yet

  modes_now : Modes n net' states infos
  modes_now = record {
    mode = λ j h. elim (same_number j e) [
      | inl q ↦ subst (λ (x : ℕ). (infos x).mode ≡ net'.mode x) (sym q) d.tells.mode
      | inr ne ↦ m.mode j (λ z. h (a.place j ne ∙ z)) ∙ sym (a.mode j ne)
    ];
    depth = λ j h. elim (same_number j e) [
      | inl q ↦ subst (λ (x : ℕ). (infos x).depth ≡ net'.depth x) (sym q) d.tells.depth
      | inr ne ↦ m.depth j (λ z. h (a.place j ne ∙ z)) ∙ sym (a.depth j ne)
    ];
    shallow = λ j. elim (same_number j e) [
      | inl q ↦ subst (λ (x : ℕ). net'.depth x ≤ 64) (sym q) d.tells.shallow
      | inr ne ↦ let y = a.depth j ne in let z = m.shallow j in omega (arith, y, z)
    ];
    next_folds = λ j l b. m.next_folds j l b ∙ ap is_fold (sym (next_mode j l b));
    next_same = λ j l b t. next_mode j l b ∙ m.next_same j l b t ∙ sym (own_next j l b);
    next_other = λ j l b t op f k. m.next_other j l b t op (sym (next_mode j l b) ∙ f) (sym (next_mode j l b) ∙ k ∙ own_next j l b);
    child_folds = λ j l b. m.child_folds j l b ∙ ap is_fold (sym (child_mode j l b));
    child_same = λ j l b t. child_mode j l b ∙ m.child_same j l b t ∙ sym (own_child j l b);
    child_other = λ j l b t op f k. m.child_other j l b t op (sym (child_mode j l b) ∙ f) (sym (child_mode j l b) ∙ k ∙ own_child j l b);
    covers = covers_on n net net' e r.shaped a s' (λ ne. absurd (ne not_below)) m.covers;
    sources = λ j l k. still_hangs net net' e r.shaped a j (m.sources j l k);
  }

  flag_now : (f : EntryState → Bool) → f (states e) ≡ true → ((j : ℕ) → net.place j ≡ top → f (states j) ≡ true) → (j : ℕ) → net'.place j ≡ top → f (states j) ≡ true
  flag_now f here old j p = elim (same_number j e) [
    | inl q ↦ subst (λ (x : ℕ). f (states x) ≡ true) (sym q) here
    | inr ne ↦ old j (sym (a.place j ne) ∙ p)
  ]

  not_first : (p j : ℕ) → net'.place j ≡ first p → j ≢ e
  not_first p j z q = let y : first p ≡ top = sym z ∙ ap (λ x. net'.place x) q ∙ d.begins in cc

  not_after : (p j : ℕ) → net'.place j ≡ after p → j ≢ e
  not_after p j z q = let y : after p ≡ top = sym z ∙ ap (λ x. net'.place x) q ∙ d.begins in cc

  starts_now : Starts n net' states infos views
  starts_now = record {
    above = λ p j z. st.above p j (old_first net net' e r.shaped a p j (not_first p j z) z);
    top_reads = flag_now (λ c. c.reads) d.reads st.top_reads;
    top_writes = flag_now (λ c. c.writes) d.writes st.top_writes;
    top_folds = flag_now (λ c. c.folds) d.folds st.top_folds;
    top_clear = flag_now (λ c. c.clear) d.clear st.top_clear;
    first_clear = λ p j z. st.first_clear p j (old_first net net' e r.shaped a p j (not_first p j z) z);
    childless = st.childless;
    closed = λ j l g h. closed_now j g (st.closed j l g h);
    next_is = λ x j z. st.next_is x j (old_after net net' e r.shaped a x j (not_after x j z) z);
    first_is = λ x j z. st.first_is x j (old_first net net' e r.shaped a x j (not_first x j z) z);
  }
    where
      closed_now : (j : ℕ) → (states j).given ≡ true → Closed n net states infos views j → Closed n net' states infos views j
      closed_now j g (risen l b) = let q = a.last j (far j g) in risen (subst (λ (x : ℕ). x < n) (sym q) l) (subst (λ (x : ℕ). is_last (states x) (infos x) ≡ true) (sym q) b)
      closed_now j g (rising i y k xs h) = rising i y k xs h

  pub begun_kept : Kept n net' gave states infos views
  begun_kept = record {
    flow = flow_now;
    modes = modes_now;
    starts = starts_now;
    truth = truth_linked n net net' gave states e r.shaped a (sym (kept.given (net'.parent e) zero_in) ∙ d.open_yet) s' kept.truth states (λ j h. h) d.blank d.undone (kept.given e d.inside);
    given = kept.given;
  }
    where
      zero_in : net'.parent e < n
      zero_in = let l = d.inside in let q = not_below in omega (arith, l, q)

-- a fill of words of an entry that hangs nowhere
module _ (n : ℕ) (net : Net) (gave : ℕ → Bool) (states states' : ℕ → EntryState) (infos infos' : ℕ → EntryInfo) (views : List View) (e : ℕ)
    (kept : Kept n net gave states infos views) (d : Fills n net states states' infos infos' e) where
  away : (j : ℕ) → net.place j ≢ apart → j ≢ e
  away j h q = h (ap (λ x. net.place x) q ∙ d.loose)

  both : (P : EntryState → EntryInfo → Type 0) (j : ℕ) → j ≢ e → P (states j) (infos j) → P (states' j) (infos' j)
  both P j ne p = subst (λ (z : EntryState). P z (infos' j)) (sym (d.others j ne)) (subst (λ (y : EntryInfo). P (states j) y) (sym (d.other_infos j ne)) p)

  word : (P : EntryState → Type 0) (j : ℕ) → j ≢ e → P (states j) → P (states' j)
  word P j ne p = subst (λ (z : EntryState). P z) (sym (d.others j ne)) p

  -- what a word says of a sibling or of a child, it says of a word other than the one that is filled
  at_next : (P : EntryState → Type 0) (j : ℕ) → (has_sibling (states j) (infos j) ≡ true → P (states j)) → has_sibling (states' j) (infos' j) ≡ true → P (states' j)
  at_next P j old b = elim (same_number j e) [
    | inl q ↦ absurd (clash (and_true (states' e).linked (not ((states' e).next == (infos' e).parent)) (subst (λ (x : ℕ). has_sibling (states' x) (infos' x) ≡ true) q b)).0 d.blank_now.linked)
    | inr ne ↦ both (λ c i. has_sibling c i ≡ true → P c) j ne old b
  ]

  at_child : (P : EntryState → Type 0) (j : ℕ) → ((states j).headed ≡ true → P (states j)) → (states' j).headed ≡ true → P (states' j)
  at_child P j old b = elim (same_number j e) [
    | inl q ↦ absurd (clash (subst (λ (x : ℕ). (states' x).headed ≡ true) q b) d.blank_now.headed)
    | inr ne ↦ word (λ c. c.headed ≡ true → P c) j ne old b
  ]

  hangs_first : (p j : ℕ) → net.place j ≡ first p → net.place j ≢ apart
  hangs_first p j z y = let k : first p ≡ apart = sym z ∙ y in cc

  hangs_top : (j : ℕ) → net.place j ≡ top → net.place j ≢ apart
  hangs_top j z y = let k : top ≡ apart = sym z ∙ y in cc

  pub fills_kept : Kept n net gave states' infos' views
  fills_kept = record {
    flow = filled n net states states' infos infos' views e kept.flow d;
    modes = let m = kept.modes in record {
      mode = λ j h. ap (λ (i : EntryInfo). i.mode) (d.other_infos j (away j h)) ∙ m.mode j h;
      depth = λ j h. ap (λ (i : EntryInfo). i.depth) (d.other_infos j (away j h)) ∙ m.depth j h;
      shallow = m.shallow;
      next_folds = λ j l. at_next (λ c. c.next_folds ≡ is_fold (net.mode c.next)) j (m.next_folds j l);
      next_same = λ j l. at_next (λ c. c.next_same ≡ true → net.mode c.next ≡ net.mode j) j (m.next_same j l);
      next_other = λ j l. at_next (λ c. c.next_same ≡ false → (op : Op) → net.mode c.next ≡ Fold op → net.mode c.next ≢ net.mode j) j (m.next_other j l);
      child_folds = λ j l. at_child (λ c. c.child_folds ≡ is_fold (net.mode c.child)) j (m.child_folds j l);
      child_same = λ j l. at_child (λ c. c.child_same ≡ true → net.mode c.child ≡ net.mode j) j (m.child_same j l);
      child_other = λ j l. at_child (λ c. c.child_same ≡ false → (op : Op) → net.mode c.child ≡ Fold op → net.mode c.child ≢ net.mode j) j (m.child_other j l);
      covers = m.covers;
      sources = λ j l. elim (same_number j e) [
        | inl q ↦ (λ k. absurd (subst (λ (x : ℕ). (states' x).linked ≡ true ⊎ (states' x).headed ≡ true → ⊥) (sym q) (λ y. elim y [ inl b ↦ clash b d.blank_now.linked | inr b ↦ clash b d.blank_now.headed ]) k))
        | inr ne ↦ word (λ c. (c.linked ≡ true) ⊎ (c.headed ≡ true) → net.place j ≢ apart) j ne (m.sources j l)
      ];
    };
    starts = let s = kept.starts in record {
      above = s.above;
      top_reads = λ j p. word (λ c. c.reads ≡ true) j (away j (hangs_top j p)) (s.top_reads j p);
      top_writes = λ j p. word (λ c. c.writes ≡ true) j (away j (hangs_top j p)) (s.top_writes j p);
      top_folds = λ j p. word (λ c. c.folds ≡ true) j (away j (hangs_top j p)) (s.top_folds j p);
      top_clear = λ j p. word (λ c. c.clear ≡ true) j (away j (hangs_top j p)) (s.top_clear j p);
      first_clear = λ p j q. word (λ c. c.clear ≡ true) j (away j (hangs_first p j q)) (s.first_clear p j q);
      childless = λ j l. elim (same_number j e) [
        | inl q ↦ (λ g h. absurd (clash (subst (λ (x : ℕ). (states' x).given ≡ true) q g) d.ungiven))
        | inr ne ↦ word (λ c. c.given ≡ true → c.headed ≡ false → c.done ≡ true) j ne (s.childless j l)
      ];
      closed = λ j l g h. elim (same_number j e) [
        | inl q ↦ absurd (clash (subst (λ (x : ℕ). (states' x).given ≡ true) q g) d.ungiven)
        | inr ne ↦ closed_now j (s.closed j l (ap (λ (c : EntryState). c.given) (sym (d.others j ne)) ∙ g) (ap (λ (c : EntryState). c.headed) (sym (d.others j ne)) ∙ h))
      ];
      next_is = λ x j p. let o = away x (kept.flow.words.shaped.hung x j (inl p)) in both (λ c i. (has_sibling c i ≡ true) × (c.next ≡ j)) x o (s.next_is x j p);
      first_is = λ x j p. let o = away x (kept.flow.words.shaped.hung x j (inr p)) in word (λ c. (c.headed ≡ true) × (c.child ≡ j)) x o (s.first_is x j p);
    };
    truth = λ j l h. word (λ c. Holds net gave j c) j (away j h) (kept.truth j l h);
    given = λ j l. elim (same_number j e) [
      | inl q ↦ subst (λ (x : ℕ). (states' x).given ≡ gave x) (sym q) (d.ungiven ∙ sym d.ungiven_before ∙ kept.given e d.inside)
      | inr ne ↦ word (λ c. c.given ≡ gave j) j ne (kept.given j l)
    ];
  }
    where
      closed_now : (j : ℕ) → Closed n net states infos views j → Closed n net states' infos' views j
      closed_now j (rising i y k xs h) = rising i y k xs h
      closed_now j (risen l b) = risen l (elim (same_number (net.last j) e) [
        | inl q ↦ absurd (clash (and_true (states e).linked ((states e).next == (infos e).parent) (subst (λ (x : ℕ). is_last (states x) (infos x) ≡ true) q b)).0 d.blank_before.linked)
        | inr ne ↦ both (λ c i. is_last c i ≡ true) (net.last j) ne b
      ])

-- steps that change views alone
module _ (n : ℕ) (net : Net) (gave : ℕ → Bool) (states : ℕ → EntryState) (infos : ℕ → EntryInfo) (views : List View) (kept : Kept n net gave states infos views) where
  starts_views : (views' : List View) → ((e : ℕ) → Closed n net states infos views e → Closed n net states infos views' e) → Starts n net states infos views'
  starts_views views' f = let s = kept.starts in record {
    above = s.above;
    top_reads = s.top_reads;
    top_writes = s.top_writes;
    top_folds = s.top_folds;
    top_clear = s.top_clear;
    first_clear = s.first_clear;
    childless = s.childless;
    closed = λ e l g h. f e (s.closed e l g h);
    next_is = s.next_is;
    first_is = s.first_is;
  }

  -- of a seat whose view keeps what it holds
  pub looked_kept : (id : ℕ) (v w : View) → At views id v → w.held ≡ v.held → w.half ≡ v.half → Kept n net gave states infos (set views id w)
  looked_kept id v w at q k = record {
    flow = looked n net states infos views kept.flow id v w at q k;
    modes = kept.modes;
    starts = starts_views (set views id w) closed_now;
    truth = kept.truth;
    given = kept.given;
  }
    where
      closed_now : (e : ℕ) → Closed n net states infos views e → Closed n net states infos (set views id w) e
      closed_now e (risen l b) = risen l b
      closed_now e (rising j y a xs h) = elim (same_number j id) [
        | inl z ↦ rising id w (at_here views id v w at) xs (k ∙ ap (λ (x : View). x.half) (one_view (subst (λ (x : ℕ). get_elem? views x ≡ maybe.some y) z a)) ∙ h)
        | inr ne ↦ rising j y (at_other views id j w y ne a) xs h
      ]
        where
          one_view : get_elem? views id ≡ maybe.some y → v ≡ y
          one_view b = let z : maybe.some v ≡ maybe.some y = sym at ∙ b in cc

  -- a new seat, which holds nothing
  pub joined_kept : (w : View) → w.held ≡ [] → w.half ≡ [] → Kept n net gave states infos (views ++ w ∷ [])
  joined_kept w q k = record {
    flow = joined_by n net states infos views kept.flow w q k;
    modes = kept.modes;
    starts = starts_views (views ++ w ∷ []) closed_now;
    truth = kept.truth;
    given = kept.given;
  }
    where
      at_front : (l : List View) (j : ℕ) (y : View) → get_elem? l j ≡ maybe.some y → get_elem? (l ++ w ∷ []) j ≡ maybe.some y
      at_front [] j y e = absurd (some-ne-none y (sym e))
      at_front (x ∷ l) zero y e = e
      at_front (x ∷ l) (suc j) y e = at_front l j y e

      closed_now : (e : ℕ) → Closed n net states infos views e → Closed n net states infos (views ++ w ∷ []) e
      closed_now e (risen l b) = risen l b
      closed_now e (rising j y a xs h) = rising j y (at_front views j y a) xs h
