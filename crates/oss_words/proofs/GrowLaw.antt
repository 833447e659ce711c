-- What the words keep when a new entry is linked: what they know of modes and places, and that flags are true.
use Rattle.std.proofs.Common.{◌≡◌, ◌≢◌, ◌⊎◌, inl, inr, sym, subst, refl, ◌∙◌, ap, ℕ, ◌<◌, ◌≤◌, arith, Bool, true, false, not, ◌&&◌, ◌==◌, List, [], ◌∷◌, set}
use Rattle.std.proofs.lemmas.Bool.Decides.{eqb_tells}
use Rattle.oss_syntax.specs.declared.access.Op.{Op}
use Rattle.oss_syntax.specs.declared.access.Mode.TheVariants.{Write, Fold}
use Rattle.oss_words.specs.declared.entry.EntryState.{EntryState}
use Rattle.oss_words.specs.declared.entry.EntryInfo.{EntryInfo}
use Rattle.oss_words.specs.Net.{Net, Shaped, Place, apart, top, first, after, Child, Adds}
use Rattle.oss_words.specs.Causes.{has_sibling, is_last, is_fold}
use Rattle.oss_words.specs.Grown.{Grown}
use Rattle.oss_words.specs.Modes.{Modes, Starts, Closed, risen, rising}
use Rattle.oss_words.specs.Truth.{Holds, Truth}
use Rattle.oss_words.specs.Flow.{Flow, Words}
use Rattle.oss_words.specs.Rule.{Kept}
use Rattle.oss_words.specs.Views.{View, At}
use Rattle.oss_words.specs.Steps.{Links, Linking, to_sibling, to_child, Tells, Begun}
use Rattle.oss_words.proofs.SumLemmas.{same_number}
use Rattle.oss_words.proofs.CauseLemmas.{clash, and_true}
use Rattle.oss_words.proofs.NetLemmas.{other, still_hangs, old_after, old_first, child_parent, child_hangs, parent_hangs}
use Rattle.oss_words.proofs.TruthSteps.{truth_linked, old_child}
use Rattle.oss_words.proofs.LinkLaw.{linked, hangs_o, other_o, still_e, not_parent, told_o}
use Rattle.oss_words.proofs.FillLaw.{begun}
use Rattle.oss_words.proofs.KeptLaw.{at_other, closed_on, same_flags}
use Rattle.oss_words.proofs.StillLemmas.{SameBelow, SameBeside, sibling_below, child_beside, grown_same, all_of, sibling_grown, child_grown}

beside_sibling : (a c : EntryState) (i : EntryInfo) → SameBeside a c → has_sibling c i ≡ has_sibling a i
beside_sibling a c i s = let l = s.linked in let x = s.next in cc

beside_last : (a c : EntryState) (i : EntryInfo) → SameBeside a c → is_last c i ≡ is_last a i
beside_last a c i s = let l = s.linked in let x = s.next in cc

and_not : (x y : Bool) → x ≡ true → y ≡ false → (x && not y) ≡ true
and_not true true e f = absurd (cc)
and_not true false e f = refl
and_not false y e f = absurd (cc)

-- what the net with the new entry keeps of modes
module _ (n : ℕ) (net net' : Net) (e : ℕ) (s : Shaped net) (a : Adds net net' e) where
  pub mode_of : (j : ℕ) → net.place j ≢ apart → net'.mode j ≡ net.mode j
  mode_of j h = a.mode j (other net net' e s a j h)

  pub covers_on : (s' : Shaped net') → (net'.parent e ≢ 0 → (net'.mode (net'.parent e) ≡ Write) ⊎ (net'.mode (net'.parent e) ≡ net'.mode e))
      → ((p c : ℕ) → Child net.place p c → (net.mode p ≡ Write) ⊎ (net.mode p ≡ net.mode c))
      → (p c : ℕ) → Child net'.place p c → (net'.mode p ≡ Write) ⊎ (net'.mode p ≡ net'.mode c)
  covers_on s' new old p c k = elim (same_number c e) [
    | inl q ↦
        let k' = subst (λ (x : ℕ). Child net'.place p x) q k in
        let u = child_parent net' s' p e k' in
        let z = new (λ y. parent_hangs net' s' p e k' (ap (λ x. net'.place x) (sym u ∙ y) ∙ s'.main.0)) in
        subst (λ (x : ℕ). (net'.mode p ≡ Write) ⊎ (net'.mode p ≡ net'.mode x)) (sym q) (subst (λ (x : ℕ). (net'.mode x ≡ Write) ⊎ (net'.mode x ≡ net'.mode e)) u z)
    | inr ne ↦
        let k' = old_child n net net' (λ x. false) (λ x. blank_state) e s a refl s' p c ne k in
        let mp = mode_of p (parent_hangs net s p c k') in
        let mc = mode_of c (child_hangs net p c k') in
        elim (old p c k') [ inl w ↦ inl (mp ∙ w) | inr w ↦ inr (mp ∙ w ∙ sym mc) ]
  ]
    where
      blank_state : EntryState
      blank_state = record { reads = false; folds = false; writes = false; given = false; done = false; clear = false; linked = false; headed = false; left = false; next_folds = false; next_same = false; child_folds = false; child_same = false; next = 0; child = 0 }

module _ (n : ℕ) (net net' : Net) (gave : ℕ → Bool) (states states' : ℕ → EntryState) (infos : ℕ → EntryInfo) (views : List View) (id : ℕ) (v w : View) (o e : ℕ)
    (kept : Kept n net gave states infos views) (at : At views id v) (d : Links n net net' states states' infos o e v w) where
  r : Words n net states infos views
  r = kept.flow.words

  a : Adds net net' e
  a = d.adds

  m : Modes n net states infos
  m = kept.modes

  st : Starts n net states infos views
  st = kept.starts

  flow_now : Flow n net' states' infos (set views id w)
  flow_now = linked n net net' states states' infos views id v w o e kept.flow at d

  s' : Shaped net'
  s' = flow_now.words.shaped

  o_hangs : net.place o ≢ apart
  o_hangs = hangs_o n net net' states states' infos views id v w o e kept.flow at d

  e_same : states' e ≡ states e
  e_same = still_e n net net' states states' infos views id v w o e kept.flow at d

  far : (p : ℕ) → (states p).given ≡ true → p ≢ net'.parent e
  far = not_parent n net net' states states' infos views id v w o e kept.flow at d

  still : (j : ℕ) → net.place j ≢ apart → net'.place j ≢ apart
  still = still_hangs net net' e r.shaped a

  mode_on : (j : ℕ) → net.place j ≢ apart → net'.mode j ≡ net.mode j
  mode_on = mode_of n net net' e r.shaped a

  -- a link of a word: the new one, or one that was there
  data NextCase (j : ℕ) : Type 0 where
    next_new : j ≡ o → net'.place e ≡ after o → (states' j).next ≡ e → NextCase j
    next_old : has_sibling (states j) (infos j) ≡ true → (states' j).next ≡ (states j).next → (states' j).next_folds ≡ (states j).next_folds → (states' j).next_same ≡ (states j).next_same → NextCase j

  data ChildCase (j : ℕ) : Type 0 where
    child_new : j ≡ o → net'.place e ≡ first o → (states' j).child ≡ e → ChildCase j
    child_old : (states j).headed ≡ true → (states' j).child ≡ (states j).child → (states' j).child_folds ≡ (states j).child_folds → (states' j).child_same ≡ (states j).child_same → ChildCase j

  next_case : (j : ℕ) → has_sibling (states' j) (infos j) ≡ true → NextCase j
  next_case j b = elim (same_number j o) [
    | inl q ↦ at_o q d.links
    | inr ne ↦ let u = d.others j ne in next_old (subst (λ (z : EntryState). has_sibling z (infos j) ≡ true) u b) (ap (λ (z : EntryState). z.next) u) (ap (λ (z : EntryState). z.next_folds) u) (ap (λ (z : EntryState). z.next_same) u)
  ]
    where
      at_o : j ≡ o → Linking net' states states' o e → NextCase j
      at_o q (to_sibling p u x y z) = next_new q p (ap (λ (g : ℕ). (states' g).next) q ∙ ap (λ (c : EntryState). c.next) z)
      at_o q (to_child p u k x y z) =
          let g : SameBeside (states j) (states' j) = subst (λ (i : ℕ). SameBeside (states i) (states' i)) (sym q) (subst (λ (c : EntryState). SameBeside (states o) c) (sym z) (child_beside e x y (states o))) in
          next_old (sym (beside_sibling (states j) (states' j) (infos j) g) ∙ b) g.next g.next_folds g.next_same

  child_case : (j : ℕ) → (states' j).headed ≡ true → ChildCase j
  child_case j b = elim (same_number j o) [
    | inl q ↦ at_o q d.links
    | inr ne ↦ let u = d.others j ne in child_old (ap (λ (z : EntryState). z.headed) (sym u) ∙ b) (ap (λ (z : EntryState). z.child) u) (ap (λ (z : EntryState). z.child_folds) u) (ap (λ (z : EntryState). z.child_same) u)
  ]
    where
      at_o : j ≡ o → Linking net' states states' o e → ChildCase j
      at_o q (to_child p u k x y z) = child_new q p (ap (λ (g : ℕ). (states' g).child) q ∙ ap (λ (c : EntryState). c.child) z)
      at_o q (to_sibling p u x y z) =
          let g : SameBelow (states j) (states' j) = subst (λ (i : ℕ). SameBelow (states i) (states' i)) (sym q) (subst (λ (c : EntryState). SameBelow (states o) c) (sym z) (sibling_below e x y (states o))) in
          child_old (sym g.headed ∙ b) g.child g.child_folds g.child_same

  next_mode : (j : ℕ) → j < n → has_sibling (states j) (infos j) ≡ true → (states' j).next ≡ (states j).next → net'.mode (states' j).next ≡ net.mode (states j).next
  next_mode j l b q = ap (λ x. net'.mode x) q ∙ mode_on (states j).next (λ z. let y : after j ≡ apart = sym ((r.wired j l).sibling b) ∙ z in absurd (cc))

  child_mode : (j : ℕ) → j < n → (states j).headed ≡ true → (states' j).child ≡ (states j).child → net'.mode (states' j).child ≡ net.mode (states j).child
  child_mode j l b q = ap (λ x. net'.mode x) q ∙ mode_on (states j).child (λ z. let y : first j ≡ apart = sym ((r.wired j l).child b) ∙ z in absurd (cc))

  own_next : (j : ℕ) → j < n → has_sibling (states j) (infos j) ≡ true → net'.mode j ≡ net.mode j
  own_next j l b = mode_on j (m.sources j l (inl (and_true (states j).linked (not ((states j).next == (infos j).parent)) b).0))

  own_child : (j : ℕ) → j < n → (states j).headed ≡ true → net'.mode j ≡ net.mode j
  own_child j l b = mode_on j (m.sources j l (inr b))

  modes_now : Modes n net' states' infos
  modes_now = record {
    mode = λ j h. elim (same_number j e) [
      | inl q ↦ subst (λ (x : ℕ). (infos x).mode ≡ net'.mode x) (sym q) d.tells.mode
      | inr ne ↦ m.mode j (λ z. h (a.place j ne ∙ z)) ∙ sym (a.mode j ne)
    ];
    depth = λ j h. elim (same_number j e) [
      | inl q ↦ subst (λ (x : ℕ). (infos x).depth ≡ net'.depth x) (sym q) d.tells.depth
      | inr ne ↦ m.depth j (λ z. h (a.place j ne ∙ z)) ∙ sym (a.depth j ne)
    ];
    shallow = λ j. elim (same_number j e) [
      | inl q ↦ subst (λ (x : ℕ). net'.depth x ≤ 64) (sym q) d.tells.shallow
      | inr ne ↦ let y = a.depth j ne in let z = m.shallow j in omega (arith, y, z)
    ];
    next_folds = λ j l b. elim (next_case j b) [
      | next_new q p z ↦ ap (λ (x : ℕ). (states' x).next_folds) q ∙ (d.sibling_bits p).folds ∙ ap (λ x. is_fold (net'.mode x)) (sym z)
      | next_old g x y u ↦ y ∙ m.next_folds j l g ∙ ap is_fold (sym (next_mode j l g x))
    ];
    next_same = λ j l b t. elim (next_case j b) [
      | next_new q p z ↦ ap (λ x. net'.mode x) z ∙ (d.sibling_bits p).alike (ap (λ (x : ℕ). (states' x).next_same) (sym q) ∙ t) ∙ ap (λ x. net'.mode x) (sym q)
      | next_old g x y u ↦ next_mode j l g x ∙ m.next_same j l g (sym u ∙ t) ∙ sym (own_next j l g)
    ];
    next_other = λ j l b t op f k. elim (next_case j b) [
      | next_new q p z ↦ (d.sibling_bits p).unlike (ap (λ (x : ℕ). (states' x).next_same) (sym q) ∙ t) op (ap (λ x. net'.mode x) (sym z) ∙ f) (ap (λ x. net'.mode x) (sym z) ∙ k ∙ ap (λ x. net'.mode x) q)
      | next_old g x y u ↦ m.next_other j l g (sym u ∙ t) op (sym (next_mode j l g x) ∙ f) (sym (next_mode j l g x) ∙ k ∙ own_next j l g)
    ];
    child_folds = λ j l b. elim (child_case j b) [
      | child_new q p z ↦ ap (λ (x : ℕ). (states' x).child_folds) q ∙ (d.child_bits p).folds ∙ ap (λ x. is_fold (net'.mode x)) (sym z)
      | child_old g x y u ↦ y ∙ m.child_folds j l g ∙ ap is_fold (sym (child_mode j l g x))
    ];
    child_same = λ j l b t. elim (child_case j b) [
      | child_new q p z ↦ ap (λ x. net'.mode x) z ∙ (d.child_bits p).alike (ap (λ (x : ℕ). (states' x).child_same) (sym q) ∙ t) ∙ ap (λ x. net'.mode x) (sym q)
      | child_old g x y u ↦ child_mode j l g x ∙ m.child_same j l g (sym u ∙ t) ∙ sym (own_child j l g)
    ];
    child_other = λ j l b t op f k. elim (child_case j b) [
      | child_new q p z ↦ (d.child_bits p).unlike (ap (λ (x : ℕ). (states' x).child_same) (sym q) ∙ t) op (ap (λ x. net'.mode x) (sym z) ∙ f) (ap (λ x. net'.mode x) (sym z) ∙ k ∙ ap (λ x. net'.mode x) q)
      | child_old g x y u ↦ m.child_other j l g (sym u ∙ t) op (sym (child_mode j l g x) ∙ f) (sym (child_mode j l g x) ∙ k ∙ own_child j l g)
    ];
    covers = covers_on n net net' e r.shaped a s' d.covers m.covers;
    sources = λ j l k. elim (same_number j o) [
      | inl q ↦ subst (λ (x : ℕ). net'.place x ≢ apart) (sym q) (still o o_hangs)
      | inr ne ↦ still j (m.sources j l (subst (λ (z : EntryState). (z.linked ≡ true) ⊎ (z.headed ≡ true)) (d.others j ne) k))
    ];
  }

  -- where the new entry hangs
  not_top : net'.place e ≢ top
  not_top z = elim d.links [
    | to_sibling p u x y q ↦ let k : after o ≡ top = sym p ∙ z in absurd (cc)
    | to_child p u k x y q ↦ let g : first o ≡ top = sym p ∙ z in absurd (cc)
  ]

  first_is_o : (p : ℕ) → net'.place e ≡ first p → o ≡ p
  first_is_o p z = elim d.links [
    | to_sibling q u x y k ↦ let g : after o ≡ first p = sym q ∙ z in absurd (cc)
    | to_child q u k x y g ↦ let h : first o ≡ first p = sym q ∙ z in cc
  ]

  after_is_o : (p : ℕ) → net'.place e ≡ after p → o ≡ p
  after_is_o p z = elim d.links [
    | to_sibling q u x y k ↦ let g : after o ≡ after p = sym q ∙ z in cc
    | to_child q u k x y g ↦ let h : first o ≡ after p = sym q ∙ z in absurd (cc)
  ]

  pub grown : (j : ℕ) → Grown (states j) (states' j)
  grown = all_of Grown grown_same states states' o d.others (elim d.links [
    | to_sibling p u x y q ↦ subst (λ (z : EntryState). Grown (states o) z) (sym q) (sibling_grown e x y (states o) u)
    | to_child p u k x y q ↦ subst (λ (z : EntryState). Grown (states o) z) (sym q) (child_grown e x y (states o) u)
  ])

  given_same : (j : ℕ) → (states' j).given ≡ (states j).given
  given_same = all_of (λ x y. y.given ≡ x.given) (λ x y q. ap (λ (z : EntryState). z.given) q) states states' o d.others (elim d.links [ to_sibling p u x y q ↦ ap (λ (z : EntryState). z.given) q | to_child p u k x y q ↦ ap (λ (z : EntryState). z.given) q ])

  top_flag : (f : EntryState → Bool) → ((j : ℕ) → net.place j ≡ top → f (states j) ≡ true) → ((j : ℕ) → f (states j) ≡ true → f (states' j) ≡ true) → (j : ℕ) → net'.place j ≡ top → f (states' j) ≡ true
  top_flag f old grow j p = elim (same_number j e) [
    | inl q ↦ absurd (not_top (ap (λ x. net'.place x) (sym q) ∙ p))
    | inr ne ↦ grow j (old j (sym (a.place j ne) ∙ p))
  ]

  -- what has no child now had none, and the entry of which the new one is the first child was not given up
  unheaded : (j : ℕ) → (states' j).headed ≡ false → (states j).headed ≡ false
  unheaded j h = elim (same_number j o) [
    | inl q ↦ subst (λ (x : ℕ). (states' x).headed ≡ false → (states x).headed ≡ false) (sym q) (elim d.links [ to_sibling p u x y z ↦ (λ g. ap (λ (c : EntryState). c.headed) (sym z) ∙ g) | to_child p u k x y z ↦ (λ g. u) ]) h
    | inr ne ↦ ap (λ (c : EntryState). c.headed) (sym (d.others j ne)) ∙ h
  ]

  had_child : (j : ℕ) → j < n → (states j).given ≡ true → (states' j).headed ≡ true → (states j).headed ≡ true
  had_child j l g h = elim (same_number j o) [
    | inl q ↦ subst (λ (x : ℕ). (states x).given ≡ true → (states' x).headed ≡ true → (states x).headed ≡ true) (sym q) (elim d.links [
      | to_sibling p u x y z ↦ (λ b k. ap (λ (c : EntryState). c.headed) (sym z) ∙ k)
      | to_child p u k x y z ↦ (λ b t. absurd (clash (st.childless o d.inside b u) k))
    ]) g h
    | inr ne ↦ ap (λ (c : EntryState). c.headed) (sym (d.others j ne)) ∙ h
  ]

  last_on : (j : ℕ) → is_last (states j) (infos j) ≡ true → is_last (states' j) (infos j) ≡ true
  last_on j b = elim (same_number j o) [
    | inl q ↦ subst (λ (x : ℕ). is_last (states x) (infos x) ≡ true → is_last (states' x) (infos x) ≡ true) (sym q) (elim d.links [
      | to_sibling p u x y z ↦ (λ k. absurd (clash (and_true (states o).linked ((states o).next == (infos o).parent) k).0 u))
      | to_child p u g x y z ↦ (λ k. beside_last (states o) (states' o) (infos o) (subst (λ (c : EntryState). SameBeside (states o) c) (sym z) (child_beside e x y (states o))) ∙ k)
    ]) b
    | inr ne ↦ subst (λ (z : EntryState). is_last z (infos j) ≡ true) (sym (d.others j ne)) b
  ]

  closed_now : (j : ℕ) → (states j).given ≡ true → Closed n net states infos views j → Closed n net' states' infos (set views id w) j
  closed_now j g (risen l b) =
      let q = a.last j (far j g) in
      risen (subst (λ (x : ℕ). x < n) (sym q) l) (subst (λ (x : ℕ). is_last (states' x) (infos x) ≡ true) (sym q) (last_on (net.last j) b))
  closed_now j g (rising i y k xs h) = elim (same_number i id) [
    | inl q ↦
        let z : v ≡ y = (let u : At views id y = subst (λ (x : ℕ). At views x y) q k in one_view u) in
        let f : [] ≡ j ∷ xs = sym d.full ∙ ap (λ (x : View). x.half) z ∙ h in absurd (cc)
    | inr ne ↦ rising i y (at_other views id i w y ne k) xs h
  ]
    where
      one_view : At views id y → v ≡ y
      one_view u = let z = sym at ∙ u in cc

  next_now : (x j : ℕ) → net'.place j ≡ after x → (has_sibling (states' x) (infos x) ≡ true) × ((states' x).next ≡ j)
  next_now x j p = elim (same_number j e) [
    | inl q ↦
        let p' = ap (λ g. net'.place g) (sym q) ∙ p in
        let u = after_is_o x p' in
        subst (λ (g : ℕ). (has_sibling (states' g) (infos g) ≡ true) × ((states' g).next ≡ j)) u (new (ap (λ g. net'.place g) (sym q) ∙ p ∙ ap (λ g. after g) (sym u)) (sym q))
    | inr ne ↦ old (old_after net net' e r.shaped a x j ne p)
  ]
    where
      new : net'.place e ≡ after o → e ≡ j → (has_sibling (states' o) (infos o) ≡ true) × ((states' o).next ≡ j)
      new z q = elim d.links [
        | to_sibling k u f g h ↦ (subst (λ (c : EntryState). has_sibling c (infos o) ≡ true) (sym h) (and_not true (e == (infos o).parent) refl (differs (eqb_tells e (infos o).parent))), ap (λ (c : EntryState). c.next) h ∙ q)
        | to_child k u f g h i ↦ let y : first o ≡ after o = sym k ∙ z in absurd (cc)
      ]
        where
          differs : (((e == (infos o).parent) ≡ true) × (e ≡ (infos o).parent)) ⊎ (((e == (infos o).parent) ≡ false) × (e ≢ (infos o).parent)) → (e == (infos o).parent) ≡ false
          differs (inl k) = absurd (told_o n net net' states states' infos views id v w o e kept.flow at d k.1)
          differs (inr k) = k.0

      old : net.place j ≡ after x → (has_sibling (states' x) (infos x) ≡ true) × ((states' x).next ≡ j)
      old z = let k = st.next_is x j z in elim (same_number x o) [
        | inl q ↦ subst (λ (g : ℕ). (has_sibling (states g) (infos g) ≡ true) × ((states g).next ≡ j) → (has_sibling (states' g) (infos g) ≡ true) × ((states' g).next ≡ j)) (sym q) (elim d.links [
          | to_sibling p' u f g h ↦ (λ y. absurd (clash (and_true (states o).linked (not ((states o).next == (infos o).parent)) y.0).0 u))
          | to_child p' u t f g h ↦ (λ y. let b = subst (λ (c : EntryState). SameBeside (states o) c) (sym h) (child_beside e f g (states o)) in (beside_sibling (states o) (states' o) (infos o) b ∙ y.0, b.next ∙ y.1))
        ]) k
        | inr ne ↦ subst (λ (c : EntryState). (has_sibling c (infos x) ≡ true) × (c.next ≡ j)) (sym (d.others x ne)) k
      ]

  first_now : (x j : ℕ) → net'.place j ≡ first x → ((states' x).headed ≡ true) × ((states' x).child ≡ j)
  first_now x j p = elim (same_number j e) [
    | inl q ↦
        let p' = ap (λ g. net'.place g) (sym q) ∙ p in
        let u = first_is_o x p' in
        subst (λ (g : ℕ). ((states' g).headed ≡ true) × ((states' g).child ≡ j)) u (new (p' ∙ ap (λ g. first g) (sym u)) (sym q))
    | inr ne ↦ old (old_first net net' e r.shaped a x j ne p)
  ]
    where
      new : net'.place e ≡ first o → e ≡ j → ((states' o).headed ≡ true) × ((states' o).child ≡ j)
      new z q = elim d.links [
        | to_sibling k u f g h ↦ let y : after o ≡ first o = sym k ∙ z in absurd (cc)
        | to_child k u f g h i ↦ (ap (λ (c : EntryState). c.headed) i, ap (λ (c : EntryState). c.child) i ∙ q)
      ]

      old : net.place j ≡ first x → ((states' x).headed ≡ true) × ((states' x).child ≡ j)
      old z = let k = st.first_is x j z in ((grown x).headed k.0, (grown x).child k.0 ∙ k.1)

  starts_now : Starts n net' states' infos (set views id w)
  starts_now = record {
    above = λ p j z. elim (same_number j e) [
      | inl q ↦
          let z' = ap (λ g. net'.place g) (sym q) ∙ z in
          let u = first_is_o p z' in
          let k = d.above (z' ∙ ap (λ g. first g) (sym u)) in
          omega (arith, u, k, q)
      | inr ne ↦ st.above p j (old_first net net' e r.shaped a p j ne z)
    ];
    top_reads = top_flag (λ c. c.reads) st.top_reads (λ j. (grown j).reads);
    top_writes = top_flag (λ c. c.writes) st.top_writes (λ j. (grown j).writes);
    top_folds = top_flag (λ c. c.folds) st.top_folds (λ j. (grown j).folds);
    top_clear = top_flag (λ c. c.clear) st.top_clear (λ j. (grown j).clear);
    first_clear = λ p j z. elim (same_number j e) [
      | inl q ↦
          let z' = ap (λ g. net'.place g) (sym q) ∙ z in
          let u = first_is_o p z' in
          subst (λ (x : ℕ). (states' x).clear ≡ true) (sym q) ((grown e).clear (d.clears (z' ∙ ap (λ g. first g) (sym u))))
      | inr ne ↦ (grown j).clear (st.first_clear p j (old_first net net' e r.shaped a p j ne z))
    ];
    childless = λ j l g h. (grown j).done (st.childless j l (sym (given_same j) ∙ g) (unheaded j h));
    closed = λ j l g h. let k = sym (given_same j) ∙ g in closed_now j k (st.closed j l k (had_child j l k h));
    next_is = next_now;
    first_is = first_now;
  }

  parent_gave : gave (net'.parent e) ≡ false
  parent_gave = sym (kept.given (net'.parent e) inside_parent) ∙ d.open_yet
    where
      inside_parent : net'.parent e < n
      inside_parent = elim (s'.parent_is e) [
        | inl q ↦ let l = d.inside_new in omega (arith, q, l)
        | inr h ↦ flow_now.words.inside (net'.parent e) h
      ]

  -- the link of an entry behind another one or below it
  pub links_kept : Kept n net' gave states' infos (set views id w)
  links_kept = record {
    flow = flow_now;
    modes = modes_now;
    starts = starts_now;
    truth = truth_linked n net net' gave states e r.shaped a parent_gave s' kept.truth states'
        (λ j h. elim (same_number j o) [
          | inl q ↦ subst (λ (x : ℕ). Holds net' gave x (states x) → Holds net' gave x (states' x)) (sym q) holds_o h
          | inr ne ↦ subst (λ (z : EntryState). Holds net' gave j z) (sym (d.others j ne)) h
        ])
        d.blank d.undone (kept.given e d.inside_new);
    given = λ j l. given_same j ∙ kept.given j l;
  }
    where
      holds_o : Holds net' gave o (states o) → Holds net' gave o (states' o)
      holds_o h = elim d.links [
        | to_sibling p u x y q ↦ subst (λ (z : EntryState). Holds net' gave o z) (sym q) (same_flags net' gave o (states o) (record (states o) { linked = true; next = e; next_folds = x; next_same = y }) refl refl refl refl refl refl h)
        | to_child p u k x y q ↦ subst (λ (z : EntryState). Holds net' gave o z) (sym q) (same_flags net' gave o (states o) (record (states o) { headed = true; child = e; child_folds = x; child_same = y }) refl refl refl refl refl refl h)
      ]
