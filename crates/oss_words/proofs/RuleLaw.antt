-- The whole rule, kept by the steps of a seat on words.
use Rattle.std.proofs.Common.{◌≡◌, ◌≢◌, ◌⊎◌, inl, inr, sym, subst, refl, ◌∙◌, ap, ℕ, ◌<◌, ◌≤◌, ◌+◌, arith, Bool, true, false, List, [], ◌∷◌, ◌++◌, set}
use Rattle.oss_words.specs.declared.message.Message.{Message}
use Rattle.oss_words.specs.declared.entry.EntryState.{EntryState}
use Rattle.oss_words.specs.declared.entry.EntryInfo.{EntryInfo}
use Rattle.oss_words.specs.Sums.{total, below}
use Rattle.oss_words.specs.Net.{Net, Place, apart, top, first, after, Adds}
use Rattle.oss_words.specs.Causes.{got}
use Rattle.oss_words.specs.Members.{Has}
use Rattle.oss_words.specs.Grown.{Grown}
use Rattle.oss_words.specs.Flow.{Half}
use Rattle.oss_words.specs.Rule.{Kept, Rule}
use Rattle.oss_words.specs.Seats.{Seats, came}
use Rattle.oss_words.specs.SeatSteps.{NotesNothing, NotesDelivery, NotesGive, NotesLink, Reads, Draws, Splits, Joins}
use Rattle.oss_words.specs.Steps.{Delivers, Gives, Begins, Rises, GivesUp, Links, to_sibling, to_child, Fills, Begun, no_flags}
use Rattle.oss_words.specs.Views.{View, Hung, Seen, Among, among_first, among_later, At}
use Rattle.oss_words.proofs.SumLemmas.{same_number, total_append}
use Rattle.oss_words.proofs.CauseLemmas.{clash, total_has, only_is}
use Rattle.oss_words.proofs.NetLemmas.{other}
use Rattle.oss_words.proofs.LinkLaw.{blank_got, blank_apart}
use Rattle.oss_words.proofs.DeliverLaw.{taken, came_one}
use Rattle.oss_words.proofs.StillLemmas.{grown_same, all_of, sets_grown, given_grown, begun_grown, risen_grown_word, grown_on}
use Rattle.oss_words.proofs.KeptLaw.{deliver_kept, gives_kept, begins_kept, rises_kept, at_other}
use Rattle.oss_words.proofs.GrowLaw.{links_kept, grown}
use Rattle.oss_words.proofs.PlaceLaw.{begun_kept, fills_kept, looked_kept, joined_kept}
use Rattle.oss_words.proofs.SeatLemmas.{below_more, got_more, came_more, among_none, SeatStep, seats_step}
use Rattle.oss_words.proofs.DrawLaw.{draws_seats}
use Rattle.oss_words.proofs.SplitLaw.{splits_seats}
use Rattle.oss_words.proofs.JoinLaw.{joins_seats}

-- an entry in front of the list
ahead : {A : Type 0} (x y : A) (ys zs : List A) → zs ≡ y ∷ ys → Among x zs → (y ≡ x) ⊎ Among x ys
ahead x y ys zs q h = elim (subst (λ (l : List _). Among x l) q h) [ among_first e ↦ inl e | among_later k ↦ inr k ]

-- a step that changes neither net nor gives
plain_step : (n : ℕ) (net : Net) (gave : ℕ → Bool) (states states' : ℕ → EntryState) (v w : View) → v.parts ≢ 0 → ((j : ℕ) → Grown (states j) (states' j)) → w.delivered + came n net.place states ≤ v.delivered + came n net.place states'
    → w.owned ≡ v.owned → w.links ≡ v.links → w.gives ≡ v.gives → ((s : Seen) → Among s w.seen → Among s v.seen ⊎ Grown s.state (states' s.entry)) → w.parts ≡ v.parts → w.splits ≡ v.splits → w.failed ≡ v.failed
    → SeatStep n net net gave gave states states' v w
plain_step n net gave states states' v w live grown work owned links gives seen parts splits failed = record {
  live = live;
  grown = grown;
  work = work;
  place_old = λ e h. refl;
  parent_old = λ e h. refl;
  place_new = λ e h. inl h;
  links_on = λ l h. subst (λ (z : List Hung). Among l z) (sym links) h;
  links_new = λ l h. inl (subst (λ (z : List Hung). Among l z) links h);
  gave_old = λ e g. g;
  gave_new = λ e g. inl g;
  gives_on = λ e h. subst (λ (z : List ℕ). Among e z) (sym gives) h;
  gives_new = λ e h. inl (subst (λ (z : List ℕ). Among e z) gives h);
  seen_new = seen;
  owned = owned;
  parts = parts;
  splits = splits;
  failed = failed;
}

module _ (n : ℕ) (net : Net) (gave : ℕ → Bool) (states states' : ℕ → EntryState) (infos : ℕ → EntryInfo) (draw : ℕ) (views : List View) (id : ℕ) (v w : View)
    (rule : Rule n net gave states infos draw views) (at : At views id v) where
  holds_live : (m : Message) → Has m v.held → v.parts ≢ 0
  holds_live m h z = let k = subst (λ (l : List Message). Has m l) (rule.seats.spent id v at z).0 h in elim k [ ]

  half_live : (e : ℕ) → v.half ≡ e ∷ [] → v.parts ≢ 0
  half_live e q z = let k : [] ≡ e ∷ [] = sym (rule.seats.spent id v at z).1 ∙ q in absurd (cc)

  own_live : (e : ℕ) → Among e v.owned → v.parts ≢ 0
  own_live e h z = among_none e (subst (λ (l : List ℕ). Among e l) (rule.seats.spent id v at z).2 h)

  pub rule_deliver : (m : Message) (rest : List Message) → Delivers net states states' infos m rest v w → NotesDelivery v w → Rule n net gave states' infos draw (set views id w)
  rule_deliver m rest d t = record {
    kept = deliver_kept n net gave states states' infos views id v w rule.kept at m rest d;
    seats = seats_step n net net gave gave states states' draw views id v w rule.seats at (plain_step n net gave states states' v w
        (holds_live m (taken n net states states' infos views m rest id v w rule.kept.flow at d))
        (all_of Grown grown_same states states' m.entry d.others (sets_grown m.flag (states m.entry) (states' m.entry) d.sets))
        (let a = came_one n net states states' infos views m rest id v w rule.kept.flow at d (λ x. 1) in let b = t.delivered in omega (arith, a, b))
        t.owned t.links t.gives (λ s h. inl (subst (λ (z : List Seen). Among s z) t.seen h)) t.parts t.splits t.failed);
  }

  -- the view of a give
  give_step : (gave' : ℕ → Bool) (e : ℕ) → GivesUp gave gave' e → ((j : ℕ) → Grown (states j) (states' j)) → NotesGive e v w → SeatStep n net net gave gave' states states' v w
  give_step gave' e up grown t = record {
    live = own_live e t.own;
    grown = grown;
    work = let a = came_more n net.place states states' grown in let b = t.delivered in omega (arith, a, b);
    place_old = λ e h. refl;
    parent_old = λ e h. refl;
    place_new = λ e h. inl h;
    links_on = λ l h. subst (λ (z : List Hung). Among l z) (sym t.links) h;
    links_new = λ l h. inl (subst (λ (z : List Hung). Among l z) t.links h);
    gave_old = λ j g. elim (same_number j e) [ inl q ↦ ap gave' q ∙ up.now | inr ne ↦ up.same j ne ∙ g ];
    gave_new = λ j g. elim (same_number j e) [
      | inl q ↦ inr (subst (λ (z : List ℕ). Among j z) (sym t.gives) (among_first (sym q)), subst (λ (x : ℕ). Among x v.owned) (sym q) t.own)
      | inr ne ↦ inl (sym (up.same j ne) ∙ g)
    ];
    gives_on = λ j h. subst (λ (z : List ℕ). Among j z) (sym t.gives) (among_later h);
    gives_new = λ j h. elim (ahead j e v.gives w.gives t.gives h) [ inl q ↦ inr (ap gave' (sym q) ∙ up.now) | inr k ↦ inl k ];
    seen_new = λ s h. inl (subst (λ (z : List Seen). Among s z) t.seen h);
    owned = t.owned;
    parts = t.parts;
    splits = t.splits;
    failed = t.failed;
  }

  module _ (gave' : ℕ → Bool) (e : ℕ) (inside : e < n) (up : GivesUp gave gave' e) (t : NotesGive e v w) where
    whole_grown : states' e ≡ record (states e) { given = true; done = true } → ((j : ℕ) → j ≢ e → states' j ≡ states j) → (j : ℕ) → Grown (states j) (states' j)
    whole_grown sets others = all_of Grown grown_same states states' e others (subst (λ (z : EntryState). Grown (states e) z) (sym sets) (given_grown (states e)))

    half_grown : states' e ≡ record (states e) { given = true } → ((j : ℕ) → j ≢ e → states' j ≡ states j) → (j : ℕ) → Grown (states j) (states' j)
    half_grown sets others = all_of Grown grown_same states states' e others (subst (λ (z : EntryState). Grown (states e) z) (sym sets) (begun_grown (states e)))

    pub rule_give : net.place e ≢ apart → Gives states states' infos e v w → Rule n net gave' states' infos draw (set views id w)
    rule_give hangs d = record {
      kept = gives_kept n net gave states states' infos views id v w rule.kept at gave' e inside up hangs d;
      seats = seats_step n net net gave gave' states states' draw views id v w rule.seats at (give_step gave' e up (whole_grown d.sets d.others) t);
    }

    pub rule_begin : net.place e ≢ apart → (states e).headed ≡ true → (states e).given ≡ false → Begins states states' e v w → Rule n net gave' states' infos draw (set views id w)
    rule_begin hangs headed ungiven d = record {
      kept = begins_kept n net gave states states' infos views id v w rule.kept at gave' e inside up hangs headed ungiven d;
      seats = seats_step n net net gave gave' states states' draw views id v w rule.seats at (give_step gave' e up (half_grown d.sets d.others) t);
    }

  nothing_step : v.parts ≢ 0 → ((j : ℕ) → Grown (states j) (states' j)) → NotesNothing v w → SeatStep n net net gave gave states states' v w
  nothing_step live grown t = plain_step n net gave states states' v w live grown (let a = came_more n net.place states states' grown in let b = t.delivered in omega (arith, a, b))
      t.owned t.links t.gives (λ s h. inl (subst (λ (z : List Seen). Among s z) t.seen h)) t.parts t.splits t.failed

  pub rule_rise : (e : ℕ) → Rises net states states' infos e v w → NotesNothing v w → Rule n net gave states' infos draw (set views id w)
  rule_rise e d t = record {
    kept = rises_kept n net gave states states' infos views id v w rule.kept at e d;
    seats = seats_step n net net gave gave states states' draw views id v w rule.seats at (nothing_step (half_live e d.full)
        (all_of Grown grown_same states states' (net.last e) d.others (subst (λ (z : EntryState). Grown (states (net.last e)) z) (sym d.sets) (risen_grown_word e (states (net.last e)) unlinked)))
        t);
  }
    where
      unlinked : (states (net.last e)).linked ≡ false
      unlinked = (rule.kept.flow.words.halves id v at e [] d.full).unlinked

-- the view of a link
link_step : (n : ℕ) (net net' : Net) (gave : ℕ → Bool) (states states' : ℕ → EntryState) (v w : View) (e : ℕ) → v.parts ≢ 0 → ((j : ℕ) → net.place j ≢ apart → j ≢ e) → Adds net net' e → net'.place e ≢ apart
    → ((j : ℕ) → Grown (states j) (states' j)) → came n net.place states ≤ came n net'.place states' → NotesLink net' e v w → SeatStep n net net' gave gave states states' v w
link_step n net net' gave states states' v w e live other_one a hangs grown came_on t = record {
  live = live;
  grown = grown;
  work = let b = t.delivered in omega (arith, came_on, b);
  place_old = λ j h. a.place j (other_one j h);
  parent_old = λ j h. a.parent j (other_one j h);
  place_new = λ j h. elim (same_number j e) [
    | inl q ↦ inr (subst (λ (x : ℕ). Among (record { entry = x; place = net'.place x }) w.links × Among x v.owned × Among (net'.parent x) v.owned) (sym q)
        (subst (λ (z : List Hung). Among (record { entry = e; place = net'.place e }) z) (sym t.links) (among_first refl), t.own, t.own_parent))
    | inr ne ↦ inl (λ z. h (a.place j ne ∙ z))
  ];
  links_on = λ l h. subst (λ (z : List Hung). Among l z) (sym t.links) (among_later h);
  links_new = λ l h. elim (ahead l (record { entry = e; place = net'.place e }) v.links w.links t.links h) [
    | inl q ↦ inr (
      ap (λ (x : Hung). net'.place x.entry) (sym q) ∙ ap (λ (x : Hung). x.place) q,
      (λ z. hangs (ap (λ (x : Hung). x.place) q ∙ z)),
    )
    | inr k ↦ inl k
  ];
  gave_old = λ j g. g;
  gave_new = λ j g. inl g;
  gives_on = λ j h. subst (λ (z : List ℕ). Among j z) (sym t.gives) h;
  gives_new = λ j h. inl (subst (λ (z : List ℕ). Among j z) t.gives h);
  seen_new = λ s h. inl (subst (λ (z : List Seen). Among s z) t.seen h);
  owned = t.owned;
  parts = t.parts;
  splits = t.splits;
  failed = t.failed;
}

module _ (n : ℕ) (net net' : Net) (gave : ℕ → Bool) (states states' : ℕ → EntryState) (infos : ℕ → EntryInfo) (draw : ℕ) (views : List View) (id : ℕ) (v w : View) (o e : ℕ)
    (rule : Rule n net gave states infos draw views) (at : At views id v) where
  pub rule_link : Links n net net' states states' infos o e v w → NotesLink net' e v w → Rule n net' gave states' infos draw (set views id w)
  rule_link d t = record {
    kept = now;
    seats = seats_step n net net' gave gave states states' draw views id v w rule.seats at (link_step n net net' gave states states' v w e
        (λ z. among_none e (subst (λ (l : List ℕ). Among e l) (rule.seats.spent id v at z).2 t.own))
        (other net net' e rule.kept.flow.words.shaped d.adds) d.adds hangs grows
        (below_more (λ j. total (λ (m : Message). 1) (got (net.place j) j (states j))) (λ j. total (λ (m : Message). 1) (got (net'.place j) j (states' j))) came_on n) t);
  }
    where
      now : Kept n net' gave states' infos (set views id w)
      now = links_kept n net net' gave states states' infos views id v w o e rule.kept at d

      grows : (j : ℕ) → Grown (states j) (states' j)
      grows = grown n net net' gave states states' infos views id v w o e rule.kept at d

      hangs : net'.place e ≢ apart
      hangs z = elim d.links [
        | to_sibling p u x y q ↦ let k : after o ≡ apart = sym p ∙ z in absurd (cc)
        | to_child p u k x y q ↦ let g : first o ≡ apart = sym p ∙ z in absurd (cc)
      ]

      came_on : (j : ℕ) → total (λ (m : Message). 1) (got (net.place j) j (states j)) ≤ total (λ (m : Message). 1) (got (net'.place j) j (states' j))
      came_on j = elim (same_number j e) [
        | inl q ↦
            let b : total (λ (m : Message). 1) (got (net.place e) e (states e)) ≡ 0 = ap (λ (p : Place). total (λ (m : Message). 1) (got p e (states e))) d.adds.fresh ∙ blank_got (λ m. 1) apart e (states e) (blank_apart (net'.place e) (states e) d.blank) in
            subst (λ (x : ℕ). total (λ (m : Message). 1) (got (net.place x) x (states x)) ≤ total (λ (m : Message). 1) (got (net'.place x) x (states' x))) (sym q) (omega (arith, b))
        | inr ne ↦
            let b : total (λ (m : Message). 1) (got (net.place j) j (states j)) ≤ total (λ (m : Message). 1) (got (net.place j) j (states' j)) = got_more (net.place j) j (states j) (states' j) (grows j) in
            subst (λ (p : Place). total (λ (m : Message). 1) (got (net.place j) j (states j)) ≤ total (λ (m : Message). 1) (got p j (states' j))) (sym (d.adds.place j ne)) b
      ]

-- a fill of words of an entry that hangs nowhere
module _ (n : ℕ) (net : Net) (gave : ℕ → Bool) (states states' : ℕ → EntryState) (infos infos' : ℕ → EntryInfo) (draw : ℕ) (views : List View) (e : ℕ)
    (rule : Rule n net gave states infos draw views) (d : Fills n net states states' infos infos' e) where
  from_nothing : states e ≡ no_flags → Grown (states e) (states' e)
  from_nothing q = subst (λ (z : EntryState). Grown z (states' e)) (sym q) (record {
    reads = λ b. absurd (clash b refl);
    folds = λ b. absurd (clash b refl);
    writes = λ b. absurd (clash b refl);
    given = λ b. absurd (clash b refl);
    done = λ b. absurd (clash b refl);
    clear = λ b. absurd (clash b refl);
    left = λ b. absurd (clash b refl);
    linked = λ b. absurd (clash b refl);
    next = λ b. absurd (clash b refl);
    headed = λ b. absurd (clash b refl);
    child = λ b. absurd (clash b refl);
  })

  fill_grown : (j : ℕ) → Grown (states j) (states' j)
  fill_grown = all_of Grown grown_same states states' e d.others (elim d.once [ inl q ↦ grown_same (states e) (states' e) q | inr q ↦ from_nothing q ])

  pub rule_fill : Rule n net gave states' infos' draw views
  rule_fill = record {
    kept = fills_kept n net gave states states' infos infos' views e rule.kept d;
    seats = let s = rule.seats in record {
      size = s.size;
      work = let a = s.work in let b = came_more n net.place states states' fill_grown in omega (arith, a, b);
      drawn = s.drawn;
      failed = s.failed;
      seats = s.seats;
      parts = s.parts;
      spent = s.spent;
      main_drawn = s.main_drawn;
      hung_drawn = s.hung_drawn;
      gave_drawn = s.gave_drawn;
      owned_drawn = s.owned_drawn;
      one_owner = s.one_owner;
      own_link = s.own_link;
      own_children = s.own_children;
      own_give = s.own_give;
      seen = λ j y a x h. grown_on x.state (states x.entry) (states' x.entry) (s.seen j y a x h) (fill_grown x.entry);
      link_named = s.link_named;
      named_link = s.named_link;
      give_named = s.give_named;
      named_give = s.named_give;
    };
  }

-- an entry begins a list of main by its last fill
module _ (n : ℕ) (net net' : Net) (gave : ℕ → Bool) (states : ℕ → EntryState) (infos : ℕ → EntryInfo) (draw : ℕ) (views : List View) (id : ℕ) (v w : View) (e : ℕ)
    (rule : Rule n net gave states infos draw views) (at : At views id v) (d : Begun n net net' states infos e) where
  pub rule_first : w.held ≡ v.held → w.half ≡ v.half → NotesLink net' e v w → Rule n net' gave states infos draw (set views id w)
  rule_first same_held same_half t = record {
    kept = looked_kept n net' gave states infos views (begun_kept n net net' gave states infos views e rule.kept d) id v w at same_held same_half;
    seats = seats_step n net net' gave gave states states draw views id v w rule.seats at (link_step n net net' gave states states v w e
        (λ z. among_none e (subst (λ (l : List ℕ). Among e l) (rule.seats.spent id v at z).2 t.own))
        (other net net' e rule.kept.flow.words.shaped d.adds) d.adds
        (λ z. let k : top ≡ apart = sym d.begins ∙ z in absurd (cc))
        (λ j. grown_same (states j) (states j) refl)
        (below_more (λ j. total (λ (m : Message). 1) (got (net.place j) j (states j))) (λ j. total (λ (m : Message). 1) (got (net'.place j) j (states j))) came_on n) t);
  }
    where
      came_on : (j : ℕ) → total (λ (m : Message). 1) (got (net.place j) j (states j)) ≤ total (λ (m : Message). 1) (got (net'.place j) j (states j))
      came_on j = elim (same_number j e) [
        | inl q ↦
            let b : total (λ (m : Message). 1) (got (net.place e) e (states e)) ≡ 0 = ap (λ (p : Place). total (λ (m : Message). 1) (got p e (states e))) d.adds.fresh ∙ blank_got (λ m. 1) apart e (states e) (blank_apart (net'.place e) (states e) d.blank) in
            subst (λ (x : ℕ). total (λ (m : Message). 1) (got (net.place x) x (states x)) ≤ total (λ (m : Message). 1) (got (net'.place x) x (states x))) (sym q) (omega (arith, b))
        | inr ne ↦ subst (λ (p : Place). total (λ (m : Message). 1) (got (net.place j) j (states j)) ≤ total (λ (m : Message). 1) (got p j (states j))) (sym (d.adds.place j ne)) (omega arith)
      ]

-- steps that change views alone
module _ (n : ℕ) (net : Net) (gave : ℕ → Bool) (states : ℕ → EntryState) (infos : ℕ → EntryInfo) (draw : ℕ) (views : List View) (rule : Rule n net gave states infos draw views) where
  pub rule_read : (id : ℕ) (v w : View) (e : ℕ) → At views id v → v.parts ≢ 0 → Reads states e v w → Rule n net gave states infos draw (set views id w)
  rule_read id v w e at live d = record {
    kept = looked_kept n net gave states infos views rule.kept id v w at d.held d.half;
    seats = seats_step n net net gave gave states states draw views id v w rule.seats at (plain_step n net gave states states v w live
        (λ j. grown_same (states j) (states j) refl)
        (let b = d.delivered in omega (arith, b))
        d.owned d.links d.gives
        (λ s h. elim (ahead s (record { entry = e; state = states e }) v.seen w.seen d.seen h) [
          | inl q ↦ inr (subst (λ (z : Seen). Grown z.state (states z.entry)) q (grown_same (states e) (states e) refl))
          | inr k ↦ inl k
        ])
        d.parts d.splits d.failed);
  }

  pub rule_draw : (draw' k id : ℕ) (v w : View) → At views id v → Draws n draw draw' k v w → Rule n net gave states infos draw' (set views id w)
  rule_draw draw' k id v w at d = record {
    kept = looked_kept n net gave states infos views rule.kept id v w at d.held d.half;
    seats = draws_seats n net gave states draw draw' k views id v w rule.kept.flow.words.shaped rule.seats at d;
  }

  pub rule_split : (v w x : View) → At views 0 v → Splits v w x → Rule n net gave states infos draw (set views 0 w ++ x ∷ [])
  rule_split v w x at d = record {
    kept = joined_kept n net gave states infos (set views 0 w) (looked_kept n net gave states infos views rule.kept 0 v w at d.held d.half) x d.new_held d.new_half;
    seats = splits_seats n net gave states draw views v w x rule.seats at d;
  }

  pub rule_join : (id j : ℕ) (v x w y : View) → id ≢ j → j ≢ 0 → At views id v → At views j x → Joins v x w y → Rule n net gave states infos draw (set (set views id w) j y)
  rule_join id j v x w y differ not_first at bt d = record {
    kept = looked_kept n net gave states infos (set views id w) (looked_kept n net gave states infos views rule.kept id v w at d.held d.half) j x y
        (at_other views id j w x (λ q. differ (sym q)) bt)
        (ap (λ (z : View). z.held) d.spent ∙ sym d.empty) (ap (λ (z : View). z.half) d.spent ∙ sym d.whole);
    seats = joins_seats n net gave states draw views id j v x w y rule.seats differ not_first at bt d;
  }
