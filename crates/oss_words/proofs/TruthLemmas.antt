-- A flag that is delivered says what is so of its entry.
use Rattle.std.proofs.Common.{◌≡◌, ◌≢◌, ◌⊎◌, inl, inr, sym, subst, refl, ◌∙◌, ap, ℕ, ◌<◌, arith, Bool, true, false, not, cond, ◌&&◌, ◌||◌, ◌==◌, List}
use Rattle.oss_words.specs.declared.message.Message.{Message}
use Rattle.oss_words.specs.declared.entry.EntryState.{EntryState}
use Rattle.oss_words.specs.declared.entry.EntryInfo.{EntryInfo}
use Rattle.oss_words.specs.Net.{Net, Shaped, apart, first, after, Earlier, next, back}
use Rattle.oss_words.specs.Causes.{has_sibling, is_last, only_reads, Due, due_reads, due_writes, due_folds, due_clear, due_done, due_first_reads, due_first_writes, due_first_folds, due_join, Sets, sets_done, sets_folds, sets_reads, sets_writes, sets_clear}
use Rattle.oss_syntax.specs.declared.access.Mode.{Mode}
use Rattle.oss_syntax.specs.declared.access.Op.{Op}
use Rattle.oss_syntax.specs.declared.access.Mode.TheVariants.{Read, Write, Fold}
use Rattle.oss_model.specs.Forest.{Forest, IsDone, IsWriteSatisfied, IsReadSatisfied, IsJoinSatisfied, IsRead, InRun, done, write_top, write_child, read_top, read_child, join_top, join_below_fold, join_below_write}
use Rattle.oss_words.specs.Net.{Child, eldest, younger, top_after, forest}
use Rattle.oss_words.specs.Modes.{Modes}
use Rattle.oss_words.specs.Truth.{Holds, Truth}
use Rattle.oss_words.specs.Views.{View}
use Rattle.oss_words.specs.Flow.{Words}
use Rattle.oss_words.proofs.SumLemmas.{same_number}
use Rattle.oss_words.proofs.CauseLemmas.{and_true, bools}

module _ (net : Net) (gave : ℕ → Bool) (s : Shaped net) where
  abbrev F : Forest ℕ
  F = forest net gave

  none_before : (p t u : ℕ) → net.place t ≡ first p → Earlier net.place u t → ⊥
  none_before p t u q (next k) = let z : first p ≡ after u = sym q ∙ k in cc
  none_before p t u q (back {t = x} k e) = let z : first p ≡ after x = sym q ∙ k in cc

  -- what is earlier than the one behind j is j or earlier than j
  data Step (j u : ℕ) : Type 0 where
    that : u ≡ j → Step j u
    more : Earlier net.place u j → Step j u

  step_back : (j t u : ℕ) → net.place t ≡ after j → Earlier net.place u t → Step j u
  step_back j t u p (next k) = that (let z : after j ≡ after u = sym p ∙ k in cc)
  step_back j t u p (back {t = x} k e) = let z : after j ≡ after x = sym p ∙ k in let y : x ≡ j = cc in more (subst (λ (v : ℕ). Earlier net.place u v) y e)

  pub earlier_less : (x y : ℕ) → Earlier net.place x y → x < y
  earlier_less x y (next p) = s.rises x y p
  earlier_less x y (back {t = t} p e) = let a = s.rises t y p in let b = earlier_less x t e in omega (arith, a, b)

  done_all : (j t : ℕ) → net.place t ≡ after j → IsDone F j → ((u : ℕ) → Earlier net.place u j → IsDone F u) → (u : ℕ) → Earlier net.place u t → IsDone F u
  done_all j t p d f u e = elim (step_back j t u p e) [ that q ↦ subst (λ (x : ℕ). IsDone F x) (sym q) d | more k ↦ f u k ]

  unread_all : (j t : ℕ) → net.place t ≡ after j → IsRead (net.mode j) ⊎ IsDone F j → ((u : ℕ) → Earlier net.place u j → (IsRead (net.mode u) → ⊥) → IsDone F u) → (u : ℕ) → Earlier net.place u t → (IsRead (net.mode u) → ⊥) → IsDone F u
  unread_all j t p d f u e n = elim (step_back j t u p e) [
    | that q ↦ elim d [
      | inl r ↦ absurd (n (subst (λ (x : ℕ). IsRead (net.mode x)) (sym q) r))
      | inr k ↦ subst (λ (x : ℕ). IsDone F x) (sym q) k
    ]
    | more k ↦ f u k n
  ]

  pub reads_after : (j t : ℕ) → net.place t ≡ after j → IsReadSatisfied F j → IsRead (net.mode j) ⊎ IsDone F j → IsReadSatisfied F t
  reads_after j t p (read_top h e) d = read_top (top_after p h) (unread_all j t p d e)
  reads_after j t p (read_child c k e) d = read_child (younger p c) k (unread_all j t p d e)

  pub reads_first : (p t : ℕ) → net.place t ≡ first p → IsReadSatisfied F p → IsReadSatisfied F t
  reads_first p t q k = read_child (eldest q) k (λ u e n. absurd (none_before p t u q e))

  pub writes_after : (j t : ℕ) → net.place t ≡ after j → IsWriteSatisfied F j → IsDone F j → IsWriteSatisfied F t
  writes_after j t p (write_top h e) d = write_top (top_after p h) (done_all j t p d e)
  writes_after j t p (write_child c k e) d = write_child (younger p c) k (done_all j t p d e)

  pub writes_first : (p t : ℕ) → net.place t ≡ first p → IsWriteSatisfied F p → IsWriteSatisfied F t
  writes_first p t q k = write_child (eldest q) k (λ u e. absurd (none_before p t u q e))

  -- a run of folds goes on
  run_on : (op : Op) (j t : ℕ) → net.place t ≡ after j → net.mode j ≡ Fold op → ((u : ℕ) → Earlier net.place u j → InRun F op u j ⊎ IsDone F u) → (u : ℕ) → Earlier net.place u t → InRun F op u t ⊎ IsDone F u
  run_on op j t p m f u e = elim (step_back j t u p e) [
    | that q ↦ inl (record {
      first = ap (λ x. net.mode x) q ∙ m;
      between = λ w x y. elim (step_back j t w p y) [
        | that z ↦ ap (λ x. net.mode x) z ∙ m
        | more z ↦ let a = earlier_less u w x in let b = earlier_less w j z in absurd (omega (arith, a, b, q))
      ];
    })
    | more k ↦ elim (f u k) [
      | inl r ↦ inl (record {
        first = r.first;
        between = λ w x y. elim (step_back j t w p y) [
          | that z ↦ ap (λ x. net.mode x) z ∙ m
          | more z ↦ r.between w x z
        ];
      })
      | inr d ↦ inr d
    ]
  ]

  pub folds_along : (op : Op) (j t : ℕ) → net.place t ≡ after j → net.mode j ≡ Fold op → IsJoinSatisfied F op j → IsJoinSatisfied F op t
  folds_along op j t p m (join_top h e) = join_top (top_after p h) (run_on op j t p m e)
  folds_along op j t p m (join_below_fold c q k e) = join_below_fold (younger p c) q k (run_on op j t p m e)
  folds_along op j t p m (join_below_write c q k e) = join_below_write (younger p c) q k (run_on op j t p m e)

  module _ (covers : (p e : ℕ) → Child net.place p e → (net.mode p ≡ Write) ⊎ (net.mode p ≡ net.mode e)) where
    -- below a fold all accesses are that fold
    pub folds_after : (op : Op) (j t : ℕ) → net.place t ≡ after j → net.mode t ≡ Fold op → net.mode t ≢ net.mode j → IsWriteSatisfied F j → IsDone F j → IsJoinSatisfied F op t
    folds_after op j t p m ne (write_top h e) d = join_top (top_after p h) (λ u k. inr (done_all j t p d e u k))
    folds_after op j t p m ne (write_child {p = q} c k e) d = elim (covers q t (younger p c)) [
      | inl w ↦ join_below_write (younger p c) w k (λ u x. inr (done_all j t p d e u x))
      | inr same ↦ elim (covers q j c) [
        | inl w ↦ let z : Write ≡ Fold op = sym w ∙ same ∙ m in absurd (cc)
        | inr other ↦ absurd (ne (sym same ∙ other))
      ]
    ]

    pub folds_first : (op : Op) (p t : ℕ) → net.place t ≡ first p → net.mode t ≡ Fold op → net.mode t ≢ net.mode p → IsWriteSatisfied F p → IsJoinSatisfied F op t
    folds_first op p t q m ne k = elim (covers p t (eldest q)) [
      | inl w ↦ join_below_write (eldest q) w k (λ u e. absurd (none_before p t u q e))
      | inr same ↦ absurd (ne (sym same))
    ]

  pub folds_below : (op : Op) (p t : ℕ) → net.place t ≡ first p → net.mode p ≡ Fold op → IsJoinSatisfied F op p → IsJoinSatisfied F op t
  folds_below op p t q m k = join_below_fold (eldest q) m k (λ u e. absurd (none_before p t u q e))

  pub done_up : (p j : ℕ) → net.last p ≡ j → gave p ≡ true → IsDone F j → ((u : ℕ) → Earlier net.place u j → IsDone F u) → IsDone F p
  done_up p j l g d f = done g (λ v c. elim (s.youngest p v c) [
    | inl q ↦ subst (λ (x : ℕ). IsDone F x) (sym (q ∙ l)) d
    | inr e ↦ f v (subst (λ (x : ℕ). Earlier net.place v x) l e)
  ])

only_read : (m : Mode) → only_reads m ≡ true → IsRead m
only_read Read e = tt
only_read Write e = absurd (cc)
only_read (Fold op) e = absurd (cc)

or_true : (a b : Bool) → (a || b) ≡ true → (a ≡ true) ⊎ (b ≡ true)
or_true true b e = inl refl
or_true false b e = inr e

module _ (n : ℕ) (net : Net) (gave : ℕ → Bool) (states states' : ℕ → EntryState) (infos : ℕ → EntryInfo) (views : List View)
    (r : Words n net states infos views) (modes : Modes n net states infos) (truth : Truth n net gave states) where
  abbrev G : Forest ℕ
  G = forest net gave

  sib_hangs : (j : ℕ) → j < n → has_sibling (states j) (infos j) ≡ true → net.place j ≢ apart
  sib_hangs j l b = modes.sources j l (inl (and_true (states j).linked (not ((states j).next == (infos j).parent)) b).0)

  last_hangs : (j : ℕ) → j < n → is_last (states j) (infos j) ≡ true → net.place j ≢ apart
  last_hangs j l b = modes.sources j l (inl (and_true (states j).linked ((states j).next == (infos j).parent) b).0)

  -- what the flag of a message that is due says of its target
  pub data Says (m : Message) : Type 0 where
    says_reads : m.flag ≡ 3 → IsReadSatisfied G m.entry → Says m
    says_writes : m.flag ≡ 4 → IsWriteSatisfied G m.entry → Says m
    says_folds : m.flag ≡ 2 → ((op : Op) → net.mode m.entry ≡ Fold op → IsJoinSatisfied G op m.entry) → Says m
    says_clear : m.flag ≡ 5 → ((u : ℕ) → Earlier net.place u m.entry → IsDone G u) → Says m
    says_done : m.flag ≡ 1 → IsDone G m.entry → Says m
    says_join : m.flag ≡ 0 → Says m

  pub says : (j : ℕ) → j < n → (m : Message) → Due j (states j) (infos j) m → Says m
  says j l m (due_reads b y f) =
      let p = and_true (has_sibling (states j) (infos j)) ((states j).reads && (only_reads (infos j).mode || ((states j).given && (states j).done))) b in
      let q = and_true (states j).reads (only_reads (infos j).mode || ((states j).given && (states j).done)) p.1 in
      let h = truth j l (sib_hangs j l p.0) in
      let w : net.place m.entry ≡ after j = ap (λ x. net.place x) (sym y) ∙ (r.wired j l).sibling p.0 in
      says_reads (sym f) (reads_after net gave r.shaped j m.entry w (h.reads q.0) (elim (or_true (only_reads (infos j).mode) ((states j).given && (states j).done) q.1) [
        | inl k ↦ inl (subst (λ (z : Mode). IsRead z) (modes.mode j (sib_hangs j l p.0)) (only_read (infos j).mode k))
        | inr k ↦ inr (h.done (and_true (states j).given (states j).done k).1)
      ]))
  says j l m (due_writes b y f) =
      let p = and_true (has_sibling (states j) (infos j)) ((states j).writes && ((states j).given && (states j).done)) b in
      let q = and_true (states j).writes ((states j).given && (states j).done) p.1 in
      let h = truth j l (sib_hangs j l p.0) in
      let w : net.place m.entry ≡ after j = ap (λ x. net.place x) (sym y) ∙ (r.wired j l).sibling p.0 in
      says_writes (sym f) (writes_after net gave r.shaped j m.entry w (h.writes q.0) (h.done (and_true (states j).given (states j).done q.1).1))
  says j l m (due_clear b y f) =
      let p = and_true (has_sibling (states j) (infos j)) ((states j).clear && ((states j).given && (states j).done)) b in
      let q = and_true (states j).clear ((states j).given && (states j).done) p.1 in
      let h = truth j l (sib_hangs j l p.0) in
      let w : net.place m.entry ≡ after j = ap (λ x. net.place x) (sym y) ∙ (r.wired j l).sibling p.0 in
      says_clear (sym f) (done_all net gave r.shaped j m.entry w (h.done (and_true (states j).given (states j).done q.1).1) (h.clear q.0))
  says j l m (due_folds b y f) =
      let p = and_true (has_sibling (states j) (infos j)) ((states j).next_folds && cond (states j).next_same (states j).folds ((states j).writes && ((states j).given && (states j).done))) b in
      let q = and_true (states j).next_folds (cond (states j).next_same (states j).folds ((states j).writes && ((states j).given && (states j).done))) p.1 in
      let h = truth j l (sib_hangs j l p.0) in
      let w : net.place m.entry ≡ after j = ap (λ x. net.place x) (sym y) ∙ (r.wired j l).sibling p.0 in
      says_folds (sym f) (λ op mo. elim (bools (states j).next_same) [
        | inl s ↦
            let same = modes.next_same j l p.0 s in
            let mj : net.mode j ≡ Fold op = sym same ∙ ap (λ x. net.mode x) y ∙ mo in
            folds_along net gave r.shaped op j m.entry w mj (h.folds (subst (λ (z : Bool). cond z (states j).folds ((states j).writes && ((states j).given && (states j).done)) ≡ true) s q.1) op mj)
        | inr s ↦
            let k = and_true (states j).writes ((states j).given && (states j).done) (subst (λ (z : Bool). cond z (states j).folds ((states j).writes && ((states j).given && (states j).done)) ≡ true) s q.1) in
            folds_after net gave r.shaped modes.covers op j m.entry w mo (λ z. modes.next_other j l p.0 s op (ap (λ x. net.mode x) y ∙ mo) (ap (λ x. net.mode x) y ∙ z)) (h.writes k.0) (h.done (and_true (states j).given (states j).done k.1).1)
      ])
  says j l m (due_done b y f) =
      let p = and_true (is_last (states j) (infos j)) ((states j).clear && ((states j).given && (states j).done)) b in
      let q = and_true (states j).clear ((states j).given && (states j).done) p.1 in
      let h = truth j l (last_hangs j l p.0) in
      let k = (r.wired j l).rising p.0 in
      let g = (r.parents j l p.0).2 in
      let hp = truth (infos j).parent (r.parents j l p.0).0 k.1 in
      says_done (sym f) (subst (λ (x : ℕ). IsDone G x) y (done_up net gave r.shaped (infos j).parent j k.0 (sym hp.given ∙ g) (h.done (and_true (states j).given (states j).done q.1).1) (h.clear q.0)))
  says j l m (due_first_reads b y f) =
      let p = and_true (states j).headed (states j).reads b in
      let h = truth j l (modes.sources j l (inr p.0)) in
      says_reads (sym f) (reads_first net gave r.shaped j m.entry (ap (λ x. net.place x) (sym y) ∙ (r.wired j l).child p.0) (h.reads p.1))
  says j l m (due_first_writes b y f) =
      let p = and_true (states j).headed (states j).writes b in
      let h = truth j l (modes.sources j l (inr p.0)) in
      says_writes (sym f) (writes_first net gave r.shaped j m.entry (ap (λ x. net.place x) (sym y) ∙ (r.wired j l).child p.0) (h.writes p.1))
  says j l m (due_first_folds b y f) =
      let p = and_true (states j).headed ((states j).child_folds && cond (states j).child_same (states j).folds (states j).writes) b in
      let q = and_true (states j).child_folds (cond (states j).child_same (states j).folds (states j).writes) p.1 in
      let h = truth j l (modes.sources j l (inr p.0)) in
      let w : net.place m.entry ≡ first j = ap (λ x. net.place x) (sym y) ∙ (r.wired j l).child p.0 in
      says_folds (sym f) (λ op mo. elim (bools (states j).child_same) [
        | inl s ↦
            let same = modes.child_same j l p.0 s in
            let mj : net.mode j ≡ Fold op = sym same ∙ ap (λ x. net.mode x) y ∙ mo in
            folds_below net gave r.shaped op j m.entry w mj (h.folds (subst (λ (z : Bool). cond z (states j).folds (states j).writes ≡ true) s q.1) op mj)
        | inr s ↦ folds_first net gave r.shaped modes.covers op j m.entry w mo (λ z. modes.child_other j l p.0 s op (ap (λ x. net.mode x) y ∙ mo) (ap (λ x. net.mode x) y ∙ z)) (h.writes (subst (λ (z : Bool). cond z (states j).folds (states j).writes ≡ true) s q.1))
      ])
  says j l m (due_join b y f) = says_join (sym f)

  told_reads : {m : Message} → Says m → m.flag ≡ 3 → IsReadSatisfied G m.entry
  told_reads (says_reads f x) e = x
  told_reads (says_writes f x) e = absurd (omega (arith, e, f))
  told_reads (says_folds f x) e = absurd (omega (arith, e, f))
  told_reads (says_clear f x) e = absurd (omega (arith, e, f))
  told_reads (says_done f x) e = absurd (omega (arith, e, f))
  told_reads (says_join f) e = absurd (omega (arith, e, f))

  told_writes : {m : Message} → Says m → m.flag ≡ 4 → IsWriteSatisfied G m.entry
  told_writes (says_reads f x) e = absurd (omega (arith, e, f))
  told_writes (says_writes f x) e = x
  told_writes (says_folds f x) e = absurd (omega (arith, e, f))
  told_writes (says_clear f x) e = absurd (omega (arith, e, f))
  told_writes (says_done f x) e = absurd (omega (arith, e, f))
  told_writes (says_join f) e = absurd (omega (arith, e, f))

  told_folds : {m : Message} → Says m → m.flag ≡ 2 → (op : Op) → net.mode m.entry ≡ Fold op → IsJoinSatisfied G op m.entry
  told_folds (says_reads f x) e = absurd (omega (arith, e, f))
  told_folds (says_writes f x) e = absurd (omega (arith, e, f))
  told_folds (says_folds f x) e = x
  told_folds (says_clear f x) e = absurd (omega (arith, e, f))
  told_folds (says_done f x) e = absurd (omega (arith, e, f))
  told_folds (says_join f) e = absurd (omega (arith, e, f))

  told_clear : {m : Message} → Says m → m.flag ≡ 5 → (u : ℕ) → Earlier net.place u m.entry → IsDone G u
  told_clear (says_reads f x) e = absurd (omega (arith, e, f))
  told_clear (says_writes f x) e = absurd (omega (arith, e, f))
  told_clear (says_folds f x) e = absurd (omega (arith, e, f))
  told_clear (says_clear f x) e = x
  told_clear (says_done f x) e = absurd (omega (arith, e, f))
  told_clear (says_join f) e = absurd (omega (arith, e, f))

  told_done : {m : Message} → Says m → m.flag ≡ 1 → IsDone G m.entry
  told_done (says_reads f x) e = absurd (omega (arith, e, f))
  told_done (says_writes f x) e = absurd (omega (arith, e, f))
  told_done (says_folds f x) e = absurd (omega (arith, e, f))
  told_done (says_clear f x) e = absurd (omega (arith, e, f))
  told_done (says_done f x) e = x
  told_done (says_join f) e = absurd (omega (arith, e, f))

  -- a delivery keeps what the flags say
  pub truth_delivered : (m : Message) → Says m → Sets (states m.entry) (states' m.entry) m.flag → ((j : ℕ) → j ≢ m.entry → states' j ≡ states j) → Truth n net gave states'
  truth_delivered m y q others e l h = elim (same_number e m.entry) [
    | inl u ↦ subst (λ (x : ℕ). Holds net gave x (states' x)) (sym u) (set_one y q (subst (λ (x : ℕ). Holds net gave x (states x)) u (truth e l h)))
    | inr ne ↦ subst (λ (z : EntryState). Holds net gave e z) (sym (others e ne)) (truth e l h)
  ]
    where
      set_one : Says m → Sets (states m.entry) (states' m.entry) m.flag → Holds net gave m.entry (states m.entry) → Holds net gave m.entry (states' m.entry)
      set_one y q h = go (states m.entry) (states' m.entry) m.flag refl y q h
        where
          go : (a c : EntryState) (f : ℕ) → m.flag ≡ f → Says m → Sets a c f → Holds net gave m.entry a → Holds net gave m.entry c
          go a c f e y (sets_reads o q) h = subst (λ (z : EntryState). Holds net gave m.entry z) (sym q) (record {
            reads = λ b. told_reads y e;
            writes = h.writes;
            folds = h.folds;
            clear = h.clear;
            done = h.done;
            given = h.given;
          })
          go a c f e y (sets_writes o q) h = subst (λ (z : EntryState). Holds net gave m.entry z) (sym q) (record {
            reads = h.reads;
            writes = λ b. told_writes y e;
            folds = h.folds;
            clear = h.clear;
            done = h.done;
            given = h.given;
          })
          go a c f e y (sets_folds o q) h = subst (λ (z : EntryState). Holds net gave m.entry z) (sym q) (record {
            reads = h.reads;
            writes = h.writes;
            folds = λ b. told_folds y e;
            clear = h.clear;
            done = h.done;
            given = h.given;
          })
          go a c f e y (sets_clear o q) h = subst (λ (z : EntryState). Holds net gave m.entry z) (sym q) (record {
            reads = h.reads;
            writes = h.writes;
            folds = h.folds;
            clear = λ b. told_clear y e;
            done = h.done;
            given = h.given;
          })
          go a c f e y (sets_done o q) h = subst (λ (z : EntryState). Holds net gave m.entry z) (sym q) (record {
            reads = h.reads;
            writes = h.writes;
            folds = h.folds;
            clear = h.clear;
            done = λ b. told_done y e;
            given = h.given;
          })
