-- What the words keep at a delivery, a give, and the leaving of a reduction: how messages flow, modes, places, and that flags are true.
use Rattle.std.proofs.Common.{◌≡◌, ◌≢◌, ◌⊎◌, inl, inr, sym, subst, refl, ◌∙◌, ap, ℕ, zero, suc, ◌<◌, Bool, true, false, not, ◌&&◌, ◌==◌, List, [], ◌∷◌, set}
use mathlib.Core.Option as maybe
use mathlib.Core.Option.{some-ne-none}
use lib.ListN.{get_elem?}
use Rattle.atomic_table.proofs.Lists.{at_set}
use Rattle.oss_syntax.specs.declared.access.Op.{Op}
use Rattle.oss_syntax.specs.declared.access.Mode.TheVariants.{Fold}
use Rattle.oss_words.specs.declared.message.Message.{Message}
use Rattle.oss_words.specs.declared.entry.EntryState.{EntryState}
use Rattle.oss_words.specs.declared.entry.EntryInfo.{EntryInfo}
use Rattle.oss_words.specs.Net.{Net, apart, first, after}
use Rattle.oss_words.specs.Causes.{has_sibling, is_last, is_fold, Sets, sets_done, sets_folds, sets_reads, sets_writes, sets_clear}
use Rattle.oss_words.specs.Grown.{Grown}
use Rattle.oss_words.specs.Modes.{Modes, Starts, Closed, risen, rising}
use Rattle.oss_words.specs.Truth.{Holds, Truth}
use Rattle.oss_words.specs.Flow.{Flow, Half}
use Rattle.oss_words.specs.Rule.{Kept}
use Rattle.oss_words.specs.Views.{View, At}
use Rattle.oss_words.specs.Steps.{Delivers, Gives, Begins, Rises, Leaves, JoinsGives, JoinsBegins, GivesUp, Parent}
use Rattle.oss_words.proofs.SumLemmas.{same_number}
use Rattle.oss_words.proofs.CauseLemmas.{clash, bools, and_true}
use Rattle.oss_words.proofs.CountLemmas.{held_due}
use Rattle.oss_words.proofs.DeliverLaw.{delivered, taken}
use Rattle.oss_words.proofs.OwnerLaw.{gives, begins, rises, leaves, joins_gives, joins_begins, no_sibling, self_eq}
use Rattle.oss_words.proofs.ParentLemmas.{parent_facts}
use Rattle.oss_words.proofs.TruthLemmas.{says, truth_delivered}
use Rattle.oss_words.proofs.TruthSteps.{truth_gives, truth_begins}
use Rattle.oss_words.proofs.StillLemmas.{SameWires, wires_same, grown_same, all_of, sets_grown, sets_wires, sets_given, last_kept, modes_still, starts_still, given_grown, given_wires, begun_grown, begun_wires, left_grown, left_wires, risen_grown_word, SameBelow, below_same, risen_below}

pub at_here : {A : Type 0} (l : List A) (i : ℕ) (v w : A) → get_elem? l i ≡ maybe.some v → get_elem? (set l i w) i ≡ maybe.some w
at_here [] i v w e = absurd (some-ne-none v (sym e))
at_here (x ∷ l) zero v w e = refl
at_here (x ∷ l) (suc i) v w e = at_here l i v w e

pub at_other : {A : Type 0} (l : List A) (i j : ℕ) (w y : A) → j ≢ i → get_elem? l j ≡ maybe.some y → get_elem? (set l i w) j ≡ maybe.some y
at_other [] i j w y ne e = absurd (some-ne-none y (sym e))
at_other (x ∷ l) zero zero w y ne e = absurd (ne refl)
at_other (x ∷ l) zero (suc j) w y ne e = e
at_other (x ∷ l) (suc i) zero w y ne e = e
at_other (x ∷ l) (suc i) (suc j) w y ne e = at_other l i j w y (λ q. ne (ap (λ z. suc z) q)) e

-- who is between a give and its link stays so, but for the seat that steps
pub closed_on : (n : ℕ) (net : Net) (states states' : ℕ → EntryState) (infos : ℕ → EntryInfo) (views : List View) (id : ℕ) (v w : View) → At views id v → (e : ℕ)
    → (is_last (states (net.last e)) (infos (net.last e)) ≡ true → is_last (states' (net.last e)) (infos (net.last e)) ≡ true)
    → ((xs : List ℕ) → v.half ≡ e ∷ xs → Closed n net states' infos (set views id w) e)
    → Closed n net states infos views e → Closed n net states' infos (set views id w) e
closed_on n net states states' infos views id v w at e same own (risen l b) = risen l (same b)
closed_on n net states states' infos views id v w at e same own (rising j y a xs h) = elim (same_number j id) [
  | inl q ↦ own xs (ap (λ (z : View). z.half) (one_view (subst (λ (x : ℕ). get_elem? views x ≡ maybe.some y) q a)) ∙ h)
  | inr ne ↦ rising j y (at_other views id j w y ne a) xs h
]
  where
    one_view : get_elem? views id ≡ maybe.some y → v ≡ y
    one_view b = let z : maybe.some v ≡ maybe.some y = sym at ∙ b in cc

-- what flags say, where no flag of them changes
pub same_flags : (net : Net) (gave : ℕ → Bool) (e : ℕ) (a c : EntryState) → c.reads ≡ a.reads → c.writes ≡ a.writes → c.folds ≡ a.folds → c.clear ≡ a.clear → c.given ≡ a.given → c.done ≡ a.done → Holds net gave e a → Holds net gave e c
same_flags net gave e a c r x f u g d h = record {
  reads = λ b. h.reads (sym r ∙ b);
  writes = λ b. h.writes (sym x ∙ b);
  folds = λ b. h.folds (sym f ∙ b);
  clear = λ b. h.clear (sym u ∙ b);
  done = λ b. h.done (sym d ∙ b);
  given = g ∙ h.given;
}

module _ (n : ℕ) (net : Net) (gave : ℕ → Bool) (states states' : ℕ → EntryState) (infos : ℕ → EntryInfo) (views : List View) (id : ℕ) (v w : View)
    (kept : Kept n net gave states infos views) (at : At views id v) where
  no_half : {A : Type 0} (e : ℕ) → v.half ≡ [] → (xs : List ℕ) → v.half ≡ e ∷ xs → A
  no_half e q xs h = let z : [] ≡ e ∷ xs = sym q ∙ h in absurd (cc)

  -- a message is delivered
  pub deliver_kept : (m : Message) (rest : List Message) → Delivers net states states' infos m rest v w → Kept n net gave states' infos (set views id w)
  deliver_kept m rest d = record {
    flow = delivered n net states states' infos views m rest id v w kept.flow at d;
    modes = modes_still n net states states' infos wires kept.modes;
    starts = starts_still n net states states' infos views (set views id w) wires grown
        (λ e l g h. (grown e).done (kept.starts.childless e l (sym (given_same e) ∙ g) (sym (wires e).headed ∙ h)))
        (λ e l g h. closed_on n net states states' infos views id v w at e (λ b. last_kept (states (net.last e)) (states' (net.last e)) (infos (net.last e)) (wires (net.last e)) ∙ b) (no_half e d.full) (kept.starts.closed e l (sym (given_same e) ∙ g) (sym (wires e).headed ∙ h)))
        kept.starts;
    truth = let c = held_due n net states infos views kept.flow.words id v at m (taken n net states states' infos views m rest id v w kept.flow at d) in
        truth_delivered n net gave states states' infos views kept.flow.words kept.modes kept.truth m (says n net gave states states' infos views kept.flow.words kept.modes kept.truth c.0 c.1 m c.2) d.sets d.others;
    given = λ e l. given_same e ∙ kept.given e l;
  }
    where
      wires : (j : ℕ) → SameWires (states j) (states' j)
      wires = all_of SameWires wires_same states states' m.entry d.others (sets_wires m.flag (states m.entry) (states' m.entry) d.sets)

      grown : (j : ℕ) → Grown (states j) (states' j)
      grown = all_of Grown grown_same states states' m.entry d.others (sets_grown m.flag (states m.entry) (states' m.entry) d.sets)

      given_same : (j : ℕ) → (states' j).given ≡ (states j).given
      given_same = all_of (λ a c. c.given ≡ a.given) (λ a c q. ap (λ (z : EntryState). z.given) q) states states' m.entry d.others (sets_given m.flag (states m.entry) (states' m.entry) d.sets)

  module _ (gave' : ℕ → Bool) (e : ℕ) (inside : e < n) (up : GivesUp gave gave' e) where
    given_now : ((j : ℕ) → j ≢ e → states' j ≡ states j) → (states' e).given ≡ true → (j : ℕ) → j < n → (states' j).given ≡ gave' j
    given_now others here j l = elim (same_number j e) [
      | inl q ↦ subst (λ (x : ℕ). (states' x).given ≡ gave' x) (sym q) (here ∙ sym up.now)
      | inr ne ↦ ap (λ (z : EntryState). z.given) (others j ne) ∙ kept.given j l ∙ sym (up.same j ne)
    ]

    -- no children: given and done are set in one step
    whole_give : Flow n net states' infos (set views id w) → (states e).headed ≡ false → states' e ≡ record (states e) { given = true; done = true } → ((j : ℕ) → j ≢ e → states' j ≡ states j) → v.half ≡ []
        → Kept n net gave' states' infos (set views id w)
    whole_give flow childless sets others full = record {
      flow = flow;
      modes = modes_still n net states states' infos wires kept.modes;
      starts = starts_still n net states states' infos views (set views id w) wires grown
          (λ j l g h. elim (same_number j e) [
            | inl q ↦ subst (λ (x : ℕ). (states' x).done ≡ true) (sym q) (ap (λ (z : EntryState). z.done) sets)
            | inr ne ↦ (grown j).done (kept.starts.childless j l (ap (λ (z : EntryState). z.given) (sym (others j ne)) ∙ g) (sym (wires j).headed ∙ h))
          ])
          (λ j l g h. elim (same_number j e) [
            | inl q ↦ absurd (clash (sym (wires j).headed ∙ h) (ap (λ (x : ℕ). (states x).headed) q ∙ childless))
            | inr ne ↦ closed_on n net states states' infos views id v w at j (λ b. last_kept (states (net.last j)) (states' (net.last j)) (infos (net.last j)) (wires (net.last j)) ∙ b) (no_half j full) (kept.starts.closed j l (ap (λ (z : EntryState). z.given) (sym (others j ne)) ∙ g) (sym (wires j).headed ∙ h))
          ])
          kept.starts;
      truth = truth_gives n net gave gave' states states' e kept.truth up.now up.same others (λ j p. clash (kept.flow.words.hung_first e j p).1 childless) sets;
      given = given_now others (ap (λ (z : EntryState). z.given) sets);
    }
      where
        wires : (j : ℕ) → SameWires (states j) (states' j)
        wires = all_of SameWires wires_same states states' e others (subst (λ (z : EntryState). SameWires (states e) z) (sym sets) (given_wires (states e)))

        grown : (j : ℕ) → Grown (states j) (states' j)
        grown = all_of Grown grown_same states states' e others (subst (λ (z : EntryState). Grown (states e) z) (sym sets) (given_grown (states e)))

    -- with children: given alone is set, and the seat is between the give and the link of the last child
    half_give : Flow n net states' infos (set views id w) → (states e).headed ≡ true → states' e ≡ record (states e) { given = true } → ((j : ℕ) → j ≢ e → states' j ≡ states j) → v.half ≡ [] → w.half ≡ e ∷ []
        → Kept n net gave' states' infos (set views id w)
    half_give flow headed sets others full half = record {
      flow = flow;
      modes = modes_still n net states states' infos wires kept.modes;
      starts = starts_still n net states states' infos views (set views id w) wires grown
          (λ j l g h. elim (same_number j e) [
            | inl q ↦ absurd (clash (ap (λ (x : ℕ). (states x).headed) q ∙ headed) (sym (wires j).headed ∙ h))
            | inr ne ↦ (grown j).done (kept.starts.childless j l (ap (λ (z : EntryState). z.given) (sym (others j ne)) ∙ g) (sym (wires j).headed ∙ h))
          ])
          (λ j l g h. elim (same_number j e) [
            | inl q ↦ rising id w (at_here views id v w at) [] (half ∙ ap (λ x. x ∷ []) (sym q))
            | inr ne ↦ closed_on n net states states' infos views id v w at j (λ b. last_kept (states (net.last j)) (states' (net.last j)) (infos (net.last j)) (wires (net.last j)) ∙ b) (no_half j full) (kept.starts.closed j l (ap (λ (z : EntryState). z.given) (sym (others j ne)) ∙ g) (sym (wires j).headed ∙ h))
          ])
          kept.starts;
      truth = truth_begins n net gave gave' states states' e kept.truth up.now up.same others sets;
      given = given_now others (ap (λ (z : EntryState). z.given) sets);
    }
      where
        wires : (j : ℕ) → SameWires (states j) (states' j)
        wires = all_of SameWires wires_same states states' e others (subst (λ (z : EntryState). SameWires (states e) z) (sym sets) (begun_wires (states e)))

        grown : (j : ℕ) → Grown (states j) (states' j)
        grown = all_of Grown grown_same states states' e others (subst (λ (z : EntryState). Grown (states e) z) (sym sets) (begun_grown (states e)))

    pub gives_kept : net.place e ≢ apart → Gives states states' infos e v w → Kept n net gave' states' infos (set views id w)
    gives_kept hangs d = whole_give (gives n net states states' infos views id v w e kept.flow at inside hangs d) d.childless d.sets d.others d.full

    pub begins_kept : net.place e ≢ apart → (states e).headed ≡ true → (states e).given ≡ false → Begins states states' e v w → Kept n net gave' states' infos (set views id w)
    begins_kept hangs headed ungiven d = half_give (begins n net states states' infos views id v w e kept.flow at inside (parent_facts n net states infos views kept.flow.words e inside hangs headed ungiven) d) headed d.sets d.others d.full d.whole

    pub joins_gives_kept : (rest : List Message) → JoinsGives net states states' infos e rest v w → Kept n net gave' states' infos (set views id w)
    joins_gives_kept rest d = whole_give (joins_gives n net states states' infos views id v w e kept.flow at inside rest d) d.childless d.sets d.others d.full

    pub joins_begins_kept : net.place e ≢ apart → (states e).headed ≡ true → (states e).given ≡ false → (rest : List Message) → JoinsBegins net states states' e rest v w → Kept n net gave' states' infos (set views id w)
    joins_begins_kept hangs headed ungiven rest d = half_give (joins_begins n net states states' infos views id v w e kept.flow at inside (parent_facts n net states infos views kept.flow.words e inside hangs headed ungiven) rest d) headed d.sets d.others d.full d.whole

  -- a value to be joined is left
  pub leaves_kept : (e : ℕ) → e < n → net.place e ≢ apart → Leaves states states' infos e v w → Kept n net gave states' infos (set views id w)
  leaves_kept e inside hangs d = record {
    flow = leaves n net states states' infos views id v w e kept.flow at inside hangs d;
    modes = modes_still n net states states' infos wires kept.modes;
    starts = starts_still n net states states' infos views (set views id w) wires grown
        (λ j l g h. (grown j).done (kept.starts.childless j l (sym (given_same j) ∙ g) (sym (wires j).headed ∙ h)))
        (λ j l g h. closed_on n net states states' infos views id v w at j (λ b. last_kept (states (net.last j)) (states' (net.last j)) (infos (net.last j)) (wires (net.last j)) ∙ b) (no_half j d.full) (kept.starts.closed j l (sym (given_same j) ∙ g) (sym (wires j).headed ∙ h)))
        kept.starts;
    truth = λ j l h. elim (same_number j e) [
      | inl q ↦ subst (λ (x : ℕ). Holds net gave x (states' x)) (sym q) (subst (λ (z : EntryState). Holds net gave e z) (sym d.sets) (same_flags net gave e (states e) (record (states e) { left = true }) refl refl refl refl refl refl (kept.truth e inside hangs)))
      | inr ne ↦ subst (λ (z : EntryState). Holds net gave j z) (sym (d.others j ne)) (kept.truth j l h)
    ];
    given = λ j l. given_same j ∙ kept.given j l;
  }
    where
      wires : (j : ℕ) → SameWires (states j) (states' j)
      wires = all_of SameWires wires_same states states' e d.others (subst (λ (z : EntryState). SameWires (states e) z) (sym d.sets) (left_wires (states e)))

      grown : (j : ℕ) → Grown (states j) (states' j)
      grown = all_of Grown grown_same states states' e d.others (subst (λ (z : EntryState). Grown (states e) z) (sym d.sets) (left_grown (states e)))

      given_same : (j : ℕ) → (states' j).given ≡ (states j).given
      given_same = all_of (λ a c. c.given ≡ a.given) (λ a c q. ap (λ (z : EntryState). z.given) q) states states' e d.others (ap (λ (z : EntryState). z.given) d.sets)

  -- the last child is linked to the entry that was given up
  pub rises_kept : (e : ℕ) → Rises net states states' infos e v w → Kept n net gave states' infos (set views id w)
  rises_kept e d = record {
    flow = rises n net states states' infos views id v w e kept.flow at k.inside d;
    modes = record {
      mode = m.mode;
      depth = m.depth;
      shallow = m.shallow;
      next_folds = λ j i b. carry (λ c. has_sibling c (infos j) ≡ true → c.next_folds ≡ is_fold (net.mode c.next)) j (not_last j b) (m.next_folds j i) b;
      next_same = λ j i b. carry (λ c. has_sibling c (infos j) ≡ true → c.next_same ≡ true → net.mode c.next ≡ net.mode j) j (not_last j b) (m.next_same j i) b;
      next_other = λ j i b. carry (λ c. has_sibling c (infos j) ≡ true → c.next_same ≡ false → (op : Op) → net.mode c.next ≡ Fold op → net.mode c.next ≢ net.mode j) j (not_last j b) (m.next_other j i) b;
      child_folds = λ j i b. (below j).child_folds ∙ m.child_folds j i (sym (below j).headed ∙ b) ∙ ap (λ x. is_fold (net.mode x)) (sym (below j).child);
      child_same = λ j i b t. ap (λ x. net.mode x) (below j).child ∙ m.child_same j i (sym (below j).headed ∙ b) (sym (below j).child_same ∙ t);
      child_other = λ j i b t op x y. m.child_other j i (sym (below j).headed ∙ b) (sym (below j).child_same ∙ t) op (ap (λ x. net.mode x) (sym (below j).child) ∙ x) (ap (λ x. net.mode x) (sym (below j).child) ∙ y);
      covers = m.covers;
      sources = λ j i o. elim (same_number j l) [
        | inl q ↦ subst (λ (x : ℕ). net.place x ≢ apart) (sym q) k.hangs_last
        | inr ne ↦ m.sources j i (elim o [ inl x ↦ inl (ap (λ (z : EntryState). z.linked) (sym (d.others j ne)) ∙ x) | inr x ↦ inr (sym (below j).headed ∙ x) ])
      ];
    };
    starts = record {
      above = s.above;
      top_reads = λ j p. (grown j).reads (s.top_reads j p);
      top_writes = λ j p. (grown j).writes (s.top_writes j p);
      top_folds = λ j p. (grown j).folds (s.top_folds j p);
      top_clear = λ j p. (grown j).clear (s.top_clear j p);
      first_clear = λ p j q. (grown j).clear (s.first_clear p j q);
      childless = λ j i g h. (grown j).done (s.childless j i (sym (below j).given ∙ g) (sym (below j).headed ∙ h));
      closed = λ j i g h. closed_on n net states states' infos views id v w at j
          (λ b. elim (same_number (net.last j) l) [
            | inl q ↦ subst (λ (x : ℕ). is_last (states' x) (infos x) ≡ true) (sym q) last_now
            | inr ne ↦ subst (λ (z : EntryState). is_last z (infos (net.last j)) ≡ true) (sym (d.others (net.last j) ne)) b
          ])
          (λ xs y. let z : e ∷ [] ≡ j ∷ xs = sym d.full ∙ y in let u : e ≡ j = cc in subst (λ (x : ℕ). Closed n net states' infos (set views id w) x) u (risen k.inside_last last_now))
          (s.closed j i (sym (below j).given ∙ g) (sym (below j).headed ∙ h));
      next_is = λ x j p. elim (same_number x l) [
        | inl q ↦ absurd (clash (kept.flow.words.hung_next x j p).1 (ap (λ (y : ℕ). (states y).linked) q ∙ k.unlinked))
        | inr ne ↦ subst (λ (z : EntryState). (has_sibling z (infos x) ≡ true) × (z.next ≡ j)) (sym (d.others x ne)) (s.next_is x j p)
      ];
      first_is = λ x j p. let y = s.first_is x j p in ((below x).headed ∙ y.0, (below x).child ∙ y.1);
    };
    truth = λ j i h. same_flags net gave j (states j) (states' j) (below j).reads (below j).writes (below j).folds (below j).clear (below j).given (below j).done (kept.truth j i h);
    given = λ j i. (below j).given ∙ kept.given j i;
  }
    where
      m : Modes n net states infos
      m = kept.modes

      s : Starts n net states infos views
      s = kept.starts

      l : ℕ
      l = net.last e

      k : Half n net states infos e v
      k = kept.flow.words.halves id v at e [] d.full

      sets : states' l ≡ record (states l) { linked = true; next = (infos l).parent }
      sets = d.sets ∙ ap (λ z. record (states l) { linked = true; next = z }) (sym k.told)

      last_now : is_last (states' l) (infos l) ≡ true
      last_now = ap (λ (z : EntryState). is_last z (infos l)) sets ∙ self_eq (infos l).parent

      not_last : (j : ℕ) → has_sibling (states' j) (infos j) ≡ true → j ≢ l
      not_last j b q = no_sibling (states l) (infos l) (subst (λ (z : EntryState). has_sibling z (infos l) ≡ true) sets (subst (λ (x : ℕ). has_sibling (states' x) (infos x) ≡ true) q b))

      carry : (P : EntryState → Type 0) (j : ℕ) → j ≢ l → P (states j) → P (states' j)
      carry P j ne p = subst (λ (z : EntryState). P z) (sym (d.others j ne)) p

      below : (j : ℕ) → SameBelow (states j) (states' j)
      below = all_of SameBelow below_same states states' l d.others (subst (λ (z : EntryState). SameBelow (states l) z) (sym sets) (risen_below (infos l).parent (states l)))

      grown : (j : ℕ) → Grown (states j) (states' j)
      grown = all_of Grown grown_same states states' l d.others (subst (λ (z : EntryState). Grown (states l) z) (sym sets) (risen_grown_word (infos l).parent (states l) k.unlinked))
