-- The steps of an owner that link no new entry keep the flow: give, leave, and the give of a fold that was joined.
use Rattle.std.proofs.Common.{◌≡◌, ◌≢◌, inl, inr, sym, subst, refl, ◌∙◌, ap, ℕ, ◌<◌, ◌+◌, arith, Bool, true, false, not, cond, ◌&&◌, ◌||◌, ◌==◌, List, [], ◌∷◌, ◌++◌, set}
use mathlib.Core.Option as maybe
use lib.ListN.{get_elem?}
use Rattle.oss_words.specs.declared.message.Message.{Message}
use Rattle.oss_words.specs.declared.entry.EntryState.{EntryState}
use Rattle.oss_words.specs.declared.entry.EntryInfo.{EntryInfo}
use Rattle.oss_words.specs.Sums.{total}
use Rattle.oss_words.specs.Net.{Net, Place, apart, first, after}
use Rattle.oss_words.specs.Causes.{part, due, sent, got, has_sibling, is_last, only_reads, Due, due_reads, due_writes, due_folds, due_clear, due_done, due_first_reads, due_first_writes, due_first_folds, due_join, Completes, new_reads, new_writes, new_folds, new_clear, new_done, new_first_reads, new_first_writes, new_first_folds, new_join, starts_open, starts_clear}
use Rattle.oss_words.specs.Members.{Has, head, only}
use Rattle.atomic_table.proofs.Lists.{at_set}
use Rattle.std.proofs.lemmas.Bool.{and_right}
use Rattle.std.proofs.lemmas.Bool.Decides.{eqb_tells}
use Rattle.oss_words.specs.Room.{here as same_list, Fits, Behind, Sends, along, down, up, self, back as from_child}
use Rattle.oss_words.specs.Views.{View}
use Rattle.oss_words.specs.Flow.{Wired, Words, Half, Holding, message, pending, Flow}
use Rattle.oss_words.specs.Steps.{Gives, Begins, Rises, Leaves, JoinsGives, JoinsBegins, Parent}
use Rattle.oss_words.proofs.SumLemmas.{total_append, total_set, below_change, same_number}
use Rattle.oss_words.proofs.CauseLemmas.{and_true, clash, bools, total_has, has_total, sent_is, only_is}
use Rattle.oss_words.proofs.CountLemmas.{held_due, held_new}
use Rattle.oss_words.proofs.StepLemmas.{Grows, sent_law, and_l, and_r, or_r, cond_f, part_on, part_off}
use Rattle.oss_words.proofs.DeliverLemmas.{target_hangs, came_join}
use Rattle.oss_words.proofs.DeliverLaw.{has_same, sole_step, room_step, flow_step}

pub none : (h : Message → ℕ) (xs : List Message) → ((m : Message) → Has m xs → ⊥) → total h xs ≡ 0
none h [] f = refl
none h (x ∷ xs) f = absurd (f x (head refl refl))

-- what an owner that held nothing may send
pub own_sends : (net : Net) (e : ℕ) (a c : EntryState) (i : EntryInfo) (m : Message) → Wired net e c i → Completes e a c i m → Sends net e 6 m
own_sends net e a c i m w (new_reads b o y f) = along (subst (λ (x : ℕ). net.place x ≡ after e) y (w.sibling (and_true (has_sibling c i) (c.reads && (only_reads i.mode || (c.given && c.done))) b).0)) (omega (arith, f))
own_sends net e a c i m w (new_writes b o y f) = along (subst (λ (x : ℕ). net.place x ≡ after e) y (w.sibling (and_true (has_sibling c i) (c.writes && (c.given && c.done)) b).0)) (omega (arith, f))
own_sends net e a c i m w (new_folds b o y f) = along (subst (λ (x : ℕ). net.place x ≡ after e) y (w.sibling (and_true (has_sibling c i) (c.next_folds && cond c.next_same c.folds (c.writes && (c.given && c.done))) b).0)) (omega (arith, f))
own_sends net e a c i m w (new_clear b o y f) = along (subst (λ (x : ℕ). net.place x ≡ after e) y (w.sibling (and_true (has_sibling c i) (c.clear && (c.given && c.done)) b).0)) (omega (arith, f))
own_sends net e a c i m w (new_done b o y f) = up (sym y ∙ (w.rising (and_true (is_last c i) (c.clear && (c.given && c.done)) b).0).2) (sym f)
own_sends net e a c i m w (new_first_reads b o y f) = down (subst (λ (x : ℕ). net.place x ≡ first e) y (w.child (and_true c.headed c.reads b).0)) (omega (arith, f)) (omega arith)
own_sends net e a c i m w (new_first_writes b o y f) = down (subst (λ (x : ℕ). net.place x ≡ first e) y (w.child (and_true c.headed c.writes b).0)) (omega (arith, f)) (omega arith)
own_sends net e a c i m w (new_first_folds b o y f) = down (subst (λ (x : ℕ). net.place x ≡ first e) y (w.child (and_true c.headed (c.child_folds && cond c.child_same c.folds c.writes) b).0)) (omega (arith, f)) (omega arith)
own_sends net e a c i m w (new_join b o y f) = self (sym y) (sym f) (inr refl)

-- one word of the table changes, and the net stays
pub record WordStep (n : ℕ) (net : Net) (states states' : ℕ → EntryState) (infos : ℕ → EntryInfo) (views : List View) (id : ℕ) (v w : View) (e : ℕ) : Type 0 where
  pub inside : e < n
  pub others : (j : ℕ) → j ≢ e → states' j ≡ states j
  pub grows : Grows e (states e) (states' e) (infos e)
  pub wired : Wired net e (states' e) (infos e)
  pub given : (states e).given ≡ true → (states' e).given ≡ true
  pub headed : (states e).headed ≡ true → (states' e).headed ≡ true
  pub linked : (states e).linked ≡ true → (states' e).linked ≡ true
  pub parents : is_last (states' e) (infos e) ≡ true → ((infos e).parent < n) × ((states' (infos e).parent).headed ≡ true) × ((states' (infos e).parent).given ≡ true)
  pub finished : (states' e).done ≡ true → (states' e).given ≡ true
  pub nexts : has_sibling (states' e) (infos e) ≡ true → (states' e).next < n
  pub firsts : (states' e).headed ≡ true → (states' e).child < n
  pub balance : (h : Message → ℕ) → total h (got (net.place e) e (states' e)) + total h w.held ≡ total h (got (net.place e) e (states e)) + total h v.held + total h (sent e (states e) (states' e) (infos e))
  pub half : (x : ℕ) (xs : List ℕ) → w.half ≡ x ∷ xs → Half n net states' infos x w
  pub unlinked : (x : ℕ) (j : ℕ) (y : View) → j ≢ id → get_elem? views j ≡ maybe.some y → (xs : List ℕ) → y.half ≡ x ∷ xs → (states' (net.last x)).linked ≡ false
  pub sole : (x : ℕ) (xs : List ℕ) → w.half ≡ x ∷ xs → (j : ℕ) (y : View) → j ≢ id → get_elem? views j ≡ maybe.some y → (ys : List ℕ) → y.half ≡ x ∷ ys → ⊥

pub words_step : (n : ℕ) (net : Net) (states states' : ℕ → EntryState) (infos : ℕ → EntryInfo) (views : List View) (id : ℕ) (v w : View) (e : ℕ)
    → Words n net states infos views → get_elem? views id ≡ maybe.some v → WordStep n net states states' infos views id v w e → Words n net states' infos (set views id w)
words_step n net states states' infos views id v w e r at s = record {
  shaped = r.shaped;
  wired = λ j l. elim (same_number j e) [
    | inl q ↦ subst (λ (x : ℕ). Wired net x (states' x) (infos x)) (sym q) s.wired
    | inr ne ↦ subst (λ (z : EntryState). Wired net j z (infos j)) (sym (s.others j ne)) (r.wired j l)
  ];
  parents = λ j l b. elim (same_number j e) [
    | inl q ↦ subst (λ (x : ℕ). is_last (states' x) (infos x) ≡ true → ((infos x).parent < n) × ((states' (infos x).parent).headed ≡ true) × ((states' (infos x).parent).given ≡ true)) (sym q) s.parents b
    | inr ne ↦ let p = r.parents j l (subst (λ (z : EntryState). is_last z (infos j) ≡ true) (s.others j ne) b) in (p.0, mono_headed (infos j).parent p.1, mono_given (infos j).parent p.2)
  ];
  nexts = λ j l b. elim (same_number j e) [
    | inl q ↦ subst (λ (x : ℕ). has_sibling (states' x) (infos x) ≡ true → (states' x).next < n) (sym q) s.nexts b
    | inr ne ↦ subst (λ (z : EntryState). has_sibling z (infos j) ≡ true → z.next < n) (sym (s.others j ne)) (r.nexts j l) b
  ];
  firsts = λ j l b. elim (same_number j e) [
    | inl q ↦ subst (λ (x : ℕ). (states' x).headed ≡ true → (states' x).child < n) (sym q) s.firsts b
    | inr ne ↦ subst (λ (z : EntryState). z.headed ≡ true → z.child < n) (sym (s.others j ne)) (r.firsts j l) b
  ];
  hung_next = λ x j p. let k = r.hung_next x j p in (k.0, mono_linked x k.1);
  hung_first = λ x j p. let k = r.hung_first x j p in (k.0, mono_headed x k.1);
  told = r.told;
  inside = r.inside;
  finished = λ j l b. elim (same_number j e) [
    | inl q ↦ subst (λ (x : ℕ). (states' x).done ≡ true → (states' x).given ≡ true) (sym q) s.finished b
    | inr ne ↦ subst (λ (z : EntryState). z.done ≡ true → z.given ≡ true) (sym (s.others j ne)) (r.finished j l) b
  ];
  count = λ h.
      let c = r.count h in
      let g = below_change (λ e. total h (got (net.place e) e (states' e))) (λ e. total h (got (net.place e) e (states e))) n e s.inside (λ j ne. ap (λ (z : EntryState). total h (got (net.place j) j z)) (s.others j ne)) in
      let u = below_change (λ e. total h (due e (states' e) (infos e))) (λ e. total h (due e (states e) (infos e))) n e s.inside (λ j ne. ap (λ (z : EntryState). total h (due j z (infos j))) (s.others j ne)) in
      let x = total_set (λ (y : View). total h y.held) views id v w at in
      let k = sent_law h e (states e) (states' e) (infos e) s.grows in
      let b = s.balance h in
      omega (arith, c, g, u, x, k, b);
  halves = λ j y a x xs h. elim (at_set views id j w y a) [
    | inl q ↦ subst (λ (z : View). Half n net states' infos x z) q.1 (s.half x xs (ap (λ (k : View). k.half) q.1 ∙ h))
    | inr q ↦ let k = r.halves j y q.1 x xs h in record {
      inside = k.inside;
      inside_last = k.inside_last;
      given = mono_given x k.given;
      headed = mono_headed x k.headed;
      unlinked = s.unlinked x j y q.0 q.1 xs h;
      child = k.child;
      told = k.told;
      hangs = k.hangs;
      hangs_last = k.hangs_last;
      late = k.late;
    }
  ];
  sole = sole_step n net states infos views r id w s.sole;
}
  where
    mono_headed : (p : ℕ) → (states p).headed ≡ true → (states' p).headed ≡ true
    mono_headed p h = elim (same_number p e) [
      | inl q ↦ subst (λ (x : ℕ). (states x).headed ≡ true → (states' x).headed ≡ true) (sym q) s.headed h
      | inr ne ↦ ap (λ (z : EntryState). z.headed) (s.others p ne) ∙ h
    ]

    mono_linked : (p : ℕ) → (states p).linked ≡ true → (states' p).linked ≡ true
    mono_linked p h = elim (same_number p e) [
      | inl q ↦ subst (λ (x : ℕ). (states x).linked ≡ true → (states' x).linked ≡ true) (sym q) s.linked h
      | inr ne ↦ ap (λ (z : EntryState). z.linked) (s.others p ne) ∙ h
    ]

    mono_given : (p : ℕ) → (states p).given ≡ true → (states' p).given ≡ true
    mono_given p h = elim (same_number p e) [
      | inl q ↦ subst (λ (x : ℕ). (states x).given ≡ true → (states' x).given ≡ true) (sym q) s.given h
      | inr ne ↦ ap (λ (z : EntryState). z.given) (s.others p ne) ∙ h
    ]

given_grows : (e : ℕ) (a : EntryState) (i : EntryInfo) → Grows e a (record a { given = true; done = true }) i
given_grows e a i = record {
  row_reads = λ b. (and_r (has_sibling a i) (a.reads && (only_reads i.mode || (a.given && a.done))) (a.reads && (only_reads i.mode || (true && true))) (and_r a.reads (only_reads i.mode || (a.given && a.done)) (only_reads i.mode || (true && true)) (or_r (only_reads i.mode) (a.given && a.done) (true && true) (λ q. refl))) b, refl);
  row_writes = λ b. (and_r (has_sibling a i) (a.writes && (a.given && a.done)) (a.writes && (true && true)) (and_r a.writes (a.given && a.done) (true && true) (λ q. refl)) b, refl);
  row_folds = λ b. (and_r (has_sibling a i) (a.next_folds && cond a.next_same a.folds (a.writes && (a.given && a.done))) (a.next_folds && cond a.next_same a.folds (a.writes && (true && true))) (and_r a.next_folds (cond a.next_same a.folds (a.writes && (a.given && a.done))) (cond a.next_same a.folds (a.writes && (true && true))) (cond_f a.next_same (a.writes && (a.given && a.done)) (a.writes && (true && true)) a.folds (and_r a.writes (a.given && a.done) (true && true) (λ q. refl)))) b, refl);
  row_clear = λ b. (and_r (has_sibling a i) (a.clear && (a.given && a.done)) (a.clear && (true && true)) (and_r a.clear (a.given && a.done) (true && true) (λ q. refl)) b, refl);
  row_done = λ b. (and_r (is_last a i) (a.clear && (a.given && a.done)) (a.clear && (true && true)) (and_r a.clear (a.given && a.done) (true && true) (λ q. refl)) b, refl);
  row_first_reads = λ b. (b, refl);
  row_first_writes = λ b. (b, refl);
  row_first_folds = λ b. (b, refl);
  row_join = λ b. (b, refl);
}

begun_grows : (e : ℕ) (a : EntryState) (i : EntryInfo) → Grows e a (record a { given = true }) i
begun_grows e a i = record {
  row_reads = λ b. (and_r (has_sibling a i) (a.reads && (only_reads i.mode || (a.given && a.done))) (a.reads && (only_reads i.mode || (true && a.done))) (and_r a.reads (only_reads i.mode || (a.given && a.done)) (only_reads i.mode || (true && a.done)) (or_r (only_reads i.mode) (a.given && a.done) (true && a.done) (and_l a.given true a.done (λ q. refl)))) b, refl);
  row_writes = λ b. (and_r (has_sibling a i) (a.writes && (a.given && a.done)) (a.writes && (true && a.done)) (and_r a.writes (a.given && a.done) (true && a.done) (and_l a.given true a.done (λ q. refl))) b, refl);
  row_folds = λ b. (and_r (has_sibling a i) (a.next_folds && cond a.next_same a.folds (a.writes && (a.given && a.done))) (a.next_folds && cond a.next_same a.folds (a.writes && (true && a.done))) (and_r a.next_folds (cond a.next_same a.folds (a.writes && (a.given && a.done))) (cond a.next_same a.folds (a.writes && (true && a.done))) (cond_f a.next_same (a.writes && (a.given && a.done)) (a.writes && (true && a.done)) a.folds (and_r a.writes (a.given && a.done) (true && a.done) (and_l a.given true a.done (λ q. refl))))) b, refl);
  row_clear = λ b. (and_r (has_sibling a i) (a.clear && (a.given && a.done)) (a.clear && (true && a.done)) (and_r a.clear (a.given && a.done) (true && a.done) (and_l a.given true a.done (λ q. refl))) b, refl);
  row_done = λ b. (and_r (is_last a i) (a.clear && (a.given && a.done)) (a.clear && (true && a.done)) (and_r a.clear (a.given && a.done) (true && a.done) (and_l a.given true a.done (λ q. refl))) b, refl);
  row_first_reads = λ b. (b, refl);
  row_first_writes = λ b. (b, refl);
  row_first_folds = λ b. (b, refl);
  row_join = λ b. (b, refl);
}

left_grows : (e : ℕ) (a : EntryState) (i : EntryInfo) → Grows e a (record a { left = true }) i
left_grows e a i = record {
  row_reads = λ b. (b, refl);
  row_writes = λ b. (b, refl);
  row_folds = λ b. (b, refl);
  row_clear = λ b. (b, refl);
  row_done = λ b. (b, refl);
  row_first_reads = λ b. (b, refl);
  row_first_writes = λ b. (b, refl);
  row_first_folds = λ b. (b, refl);
  row_join = λ b. (and_r a.folds a.left true (λ q. refl) b, refl);
}

given_wired : (net : Net) (e : ℕ) (a : EntryState) (i : EntryInfo) → Wired net e a i → Wired net e (record a { given = true; done = true }) i
given_wired net e a i w = record { sibling = w.sibling; rising = w.rising; child = w.child; leaving = w.leaving }

begun_wired : (net : Net) (e : ℕ) (a : EntryState) (i : EntryInfo) → Wired net e a i → Wired net e (record a { given = true }) i
begun_wired net e a i w = record { sibling = w.sibling; rising = w.rising; child = w.child; leaving = w.leaving }

left_wired : (net : Net) (e : ℕ) (a : EntryState) (i : EntryInfo) → net.place e ≢ apart → Wired net e a i → Wired net e (record a { left = true }) i
left_wired net e a i k w = record { sibling = w.sibling; rising = w.rising; child = w.child; leaving = λ b. k }

false_r : (x b : Bool) → b ≡ false → (x && b) ≡ false
false_r x b e = and_right x b e

false_l : (x b : Bool) → x ≡ false → (x && b) ≡ false
false_l true b e = absurd (cc)
false_l false b e = refl

given_got : (h : Message → ℕ) (p : Place) (e : ℕ) (a : EntryState) → a.headed ≡ false → a.left ≡ false → total h (got p e (record a { given = true; done = true })) ≡ total h (got p e a)
given_got h p e a hd lf =
    let n0 = total_append h (part (true && a.headed) e 1) ((part (a.folds && not (starts_open p)) e 2 ++ (part (a.reads && not (starts_open p)) e 3 ++ (part (a.writes && not (starts_open p)) e 4 ++ (part (a.clear && not (starts_clear p)) e 5 ++ part (true && a.left) e 0))))) in
    let m0 = total_append h (part (a.done && a.headed) e 1) ((part (a.folds && not (starts_open p)) e 2 ++ (part (a.reads && not (starts_open p)) e 3 ++ (part (a.writes && not (starts_open p)) e 4 ++ (part (a.clear && not (starts_clear p)) e 5 ++ part (a.given && a.left) e 0))))) in
    let n1 = total_append h (part (a.folds && not (starts_open p)) e 2) ((part (a.reads && not (starts_open p)) e 3 ++ (part (a.writes && not (starts_open p)) e 4 ++ (part (a.clear && not (starts_clear p)) e 5 ++ part (true && a.left) e 0)))) in
    let m1 = total_append h (part (a.folds && not (starts_open p)) e 2) ((part (a.reads && not (starts_open p)) e 3 ++ (part (a.writes && not (starts_open p)) e 4 ++ (part (a.clear && not (starts_clear p)) e 5 ++ part (a.given && a.left) e 0)))) in
    let n2 = total_append h (part (a.reads && not (starts_open p)) e 3) ((part (a.writes && not (starts_open p)) e 4 ++ (part (a.clear && not (starts_clear p)) e 5 ++ part (true && a.left) e 0))) in
    let m2 = total_append h (part (a.reads && not (starts_open p)) e 3) ((part (a.writes && not (starts_open p)) e 4 ++ (part (a.clear && not (starts_clear p)) e 5 ++ part (a.given && a.left) e 0))) in
    let n3 = total_append h (part (a.writes && not (starts_open p)) e 4) ((part (a.clear && not (starts_clear p)) e 5 ++ part (true && a.left) e 0)) in
    let m3 = total_append h (part (a.writes && not (starts_open p)) e 4) ((part (a.clear && not (starts_clear p)) e 5 ++ part (a.given && a.left) e 0)) in
    let n4 = total_append h (part (a.clear && not (starts_clear p)) e 5) (part (true && a.left) e 0) in
    let m4 = total_append h (part (a.clear && not (starts_clear p)) e 5) (part (a.given && a.left) e 0) in
    let x1 = part_off h (true && a.headed) e 1 (false_r true a.headed hd) in
    let x2 = part_off h (a.done && a.headed) e 1 (false_r a.done a.headed hd) in
    let x3 = part_off h (true && a.left) e 0 (false_r true a.left lf) in
    let x4 = part_off h (a.given && a.left) e 0 (false_r a.given a.left lf) in
    omega (arith, n0, m0, n1, m1, n2, m2, n3, m3, n4, m4, x1, x2, x3, x4)

begun_got : (h : Message → ℕ) (p : Place) (e : ℕ) (a : EntryState) → a.left ≡ false → total h (got p e (record a { given = true })) ≡ total h (got p e a)
begun_got h p e a lf =
    let n0 = total_append h (part (a.done && a.headed) e 1) ((part (a.folds && not (starts_open p)) e 2 ++ (part (a.reads && not (starts_open p)) e 3 ++ (part (a.writes && not (starts_open p)) e 4 ++ (part (a.clear && not (starts_clear p)) e 5 ++ part (true && a.left) e 0))))) in
    let m0 = total_append h (part (a.done && a.headed) e 1) ((part (a.folds && not (starts_open p)) e 2 ++ (part (a.reads && not (starts_open p)) e 3 ++ (part (a.writes && not (starts_open p)) e 4 ++ (part (a.clear && not (starts_clear p)) e 5 ++ part (a.given && a.left) e 0))))) in
    let n1 = total_append h (part (a.folds && not (starts_open p)) e 2) ((part (a.reads && not (starts_open p)) e 3 ++ (part (a.writes && not (starts_open p)) e 4 ++ (part (a.clear && not (starts_clear p)) e 5 ++ part (true && a.left) e 0)))) in
    let m1 = total_append h (part (a.folds && not (starts_open p)) e 2) ((part (a.reads && not (starts_open p)) e 3 ++ (part (a.writes && not (starts_open p)) e 4 ++ (part (a.clear && not (starts_clear p)) e 5 ++ part (a.given && a.left) e 0)))) in
    let n2 = total_append h (part (a.reads && not (starts_open p)) e 3) ((part (a.writes && not (starts_open p)) e 4 ++ (part (a.clear && not (starts_clear p)) e 5 ++ part (true && a.left) e 0))) in
    let m2 = total_append h (part (a.reads && not (starts_open p)) e 3) ((part (a.writes && not (starts_open p)) e 4 ++ (part (a.clear && not (starts_clear p)) e 5 ++ part (a.given && a.left) e 0))) in
    let n3 = total_append h (part (a.writes && not (starts_open p)) e 4) ((part (a.clear && not (starts_clear p)) e 5 ++ part (true && a.left) e 0)) in
    let m3 = total_append h (part (a.writes && not (starts_open p)) e 4) ((part (a.clear && not (starts_clear p)) e 5 ++ part (a.given && a.left) e 0)) in
    let n4 = total_append h (part (a.clear && not (starts_clear p)) e 5) (part (true && a.left) e 0) in
    let m4 = total_append h (part (a.clear && not (starts_clear p)) e 5) (part (a.given && a.left) e 0) in
    let x3 = part_off h (true && a.left) e 0 (false_r true a.left lf) in
    let x4 = part_off h (a.given && a.left) e 0 (false_r a.given a.left lf) in
    omega (arith, n0, m0, n1, m1, n2, m2, n3, m3, n4, m4, x3, x4)

left_got : (h : Message → ℕ) (p : Place) (e : ℕ) (a : EntryState) → a.given ≡ false → total h (got p e (record a { left = true })) ≡ total h (got p e a)
left_got h p e a gv =
    let n0 = total_append h (part (a.done && a.headed) e 1) ((part (a.folds && not (starts_open p)) e 2 ++ (part (a.reads && not (starts_open p)) e 3 ++ (part (a.writes && not (starts_open p)) e 4 ++ (part (a.clear && not (starts_clear p)) e 5 ++ part (a.given && true) e 0))))) in
    let m0 = total_append h (part (a.done && a.headed) e 1) ((part (a.folds && not (starts_open p)) e 2 ++ (part (a.reads && not (starts_open p)) e 3 ++ (part (a.writes && not (starts_open p)) e 4 ++ (part (a.clear && not (starts_clear p)) e 5 ++ part (a.given && a.left) e 0))))) in
    let n1 = total_append h (part (a.folds && not (starts_open p)) e 2) ((part (a.reads && not (starts_open p)) e 3 ++ (part (a.writes && not (starts_open p)) e 4 ++ (part (a.clear && not (starts_clear p)) e 5 ++ part (a.given && true) e 0)))) in
    let m1 = total_append h (part (a.folds && not (starts_open p)) e 2) ((part (a.reads && not (starts_open p)) e 3 ++ (part (a.writes && not (starts_open p)) e 4 ++ (part (a.clear && not (starts_clear p)) e 5 ++ part (a.given && a.left) e 0)))) in
    let n2 = total_append h (part (a.reads && not (starts_open p)) e 3) ((part (a.writes && not (starts_open p)) e 4 ++ (part (a.clear && not (starts_clear p)) e 5 ++ part (a.given && true) e 0))) in
    let m2 = total_append h (part (a.reads && not (starts_open p)) e 3) ((part (a.writes && not (starts_open p)) e 4 ++ (part (a.clear && not (starts_clear p)) e 5 ++ part (a.given && a.left) e 0))) in
    let n3 = total_append h (part (a.writes && not (starts_open p)) e 4) ((part (a.clear && not (starts_clear p)) e 5 ++ part (a.given && true) e 0)) in
    let m3 = total_append h (part (a.writes && not (starts_open p)) e 4) ((part (a.clear && not (starts_clear p)) e 5 ++ part (a.given && a.left) e 0)) in
    let n4 = total_append h (part (a.clear && not (starts_clear p)) e 5) (part (a.given && true) e 0) in
    let m4 = total_append h (part (a.clear && not (starts_clear p)) e 5) (part (a.given && a.left) e 0) in
    let x3 = part_off h (a.given && true) e 0 (false_l a.given true gv) in
    let x4 = part_off h (a.given && a.left) e 0 (false_l a.given a.left gv) in
    omega (arith, n0, m0, n1, m1, n2, m2, n3, m3, n4, m4, x3, x4)

joined_got : (h : Message → ℕ) (p : Place) (e : ℕ) (a : EntryState) → a.headed ≡ false → a.left ≡ true → a.given ≡ false → total h (got p e (record a { given = true; done = true })) ≡ total h (got p e a) + h (record { entry = e; flag = 0 })
joined_got h p e a hd lf gv =
    let n0 = total_append h (part (true && a.headed) e 1) ((part (a.folds && not (starts_open p)) e 2 ++ (part (a.reads && not (starts_open p)) e 3 ++ (part (a.writes && not (starts_open p)) e 4 ++ (part (a.clear && not (starts_clear p)) e 5 ++ part (true && a.left) e 0))))) in
    let m0 = total_append h (part (a.done && a.headed) e 1) ((part (a.folds && not (starts_open p)) e 2 ++ (part (a.reads && not (starts_open p)) e 3 ++ (part (a.writes && not (starts_open p)) e 4 ++ (part (a.clear && not (starts_clear p)) e 5 ++ part (a.given && a.left) e 0))))) in
    let n1 = total_append h (part (a.folds && not (starts_open p)) e 2) ((part (a.reads && not (starts_open p)) e 3 ++ (part (a.writes && not (starts_open p)) e 4 ++ (part (a.clear && not (starts_clear p)) e 5 ++ part (true && a.left) e 0)))) in
    let m1 = total_append h (part (a.folds && not (starts_open p)) e 2) ((part (a.reads && not (starts_open p)) e 3 ++ (part (a.writes && not (starts_open p)) e 4 ++ (part (a.clear && not (starts_clear p)) e 5 ++ part (a.given && a.left) e 0)))) in
    let n2 = total_append h (part (a.reads && not (starts_open p)) e 3) ((part (a.writes && not (starts_open p)) e 4 ++ (part (a.clear && not (starts_clear p)) e 5 ++ part (true && a.left) e 0))) in
    let m2 = total_append h (part (a.reads && not (starts_open p)) e 3) ((part (a.writes && not (starts_open p)) e 4 ++ (part (a.clear && not (starts_clear p)) e 5 ++ part (a.given && a.left) e 0))) in
    let n3 = total_append h (part (a.writes && not (starts_open p)) e 4) ((part (a.clear && not (starts_clear p)) e 5 ++ part (true && a.left) e 0)) in
    let m3 = total_append h (part (a.writes && not (starts_open p)) e 4) ((part (a.clear && not (starts_clear p)) e 5 ++ part (a.given && a.left) e 0)) in
    let n4 = total_append h (part (a.clear && not (starts_clear p)) e 5) (part (true && a.left) e 0) in
    let m4 = total_append h (part (a.clear && not (starts_clear p)) e 5) (part (a.given && a.left) e 0) in
    let x1 = part_off h (true && a.headed) e 1 (false_r true a.headed hd) in
    let x2 = part_off h (a.done && a.headed) e 1 (false_r a.done a.headed hd) in
    let x3 = part_on h (true && a.left) e 0 lf in
    let x4 = part_off h (a.given && a.left) e 0 (false_l a.given a.left gv) in
    omega (arith, n0, m0, n1, m1, n2, m2, n3, m3, n4, m4, x1, x2, x3, x4)

joined_begun_got : (h : Message → ℕ) (p : Place) (e : ℕ) (a : EntryState) → a.left ≡ true → a.given ≡ false → total h (got p e (record a { given = true })) ≡ total h (got p e a) + h (record { entry = e; flag = 0 })
joined_begun_got h p e a lf gv =
    let n0 = total_append h (part (a.done && a.headed) e 1) ((part (a.folds && not (starts_open p)) e 2 ++ (part (a.reads && not (starts_open p)) e 3 ++ (part (a.writes && not (starts_open p)) e 4 ++ (part (a.clear && not (starts_clear p)) e 5 ++ part (true && a.left) e 0))))) in
    let m0 = total_append h (part (a.done && a.headed) e 1) ((part (a.folds && not (starts_open p)) e 2 ++ (part (a.reads && not (starts_open p)) e 3 ++ (part (a.writes && not (starts_open p)) e 4 ++ (part (a.clear && not (starts_clear p)) e 5 ++ part (a.given && a.left) e 0))))) in
    let n1 = total_append h (part (a.folds && not (starts_open p)) e 2) ((part (a.reads && not (starts_open p)) e 3 ++ (part (a.writes && not (starts_open p)) e 4 ++ (part (a.clear && not (starts_clear p)) e 5 ++ part (true && a.left) e 0)))) in
    let m1 = total_append h (part (a.folds && not (starts_open p)) e 2) ((part (a.reads && not (starts_open p)) e 3 ++ (part (a.writes && not (starts_open p)) e 4 ++ (part (a.clear && not (starts_clear p)) e 5 ++ part (a.given && a.left) e 0)))) in
    let n2 = total_append h (part (a.reads && not (starts_open p)) e 3) ((part (a.writes && not (starts_open p)) e 4 ++ (part (a.clear && not (starts_clear p)) e 5 ++ part (true && a.left) e 0))) in
    let m2 = total_append h (part (a.reads && not (starts_open p)) e 3) ((part (a.writes && not (starts_open p)) e 4 ++ (part (a.clear && not (starts_clear p)) e 5 ++ part (a.given && a.left) e 0))) in
    let n3 = total_append h (part (a.writes && not (starts_open p)) e 4) ((part (a.clear && not (starts_clear p)) e 5 ++ part (true && a.left) e 0)) in
    let m3 = total_append h (part (a.writes && not (starts_open p)) e 4) ((part (a.clear && not (starts_clear p)) e 5 ++ part (a.given && a.left) e 0)) in
    let n4 = total_append h (part (a.clear && not (starts_clear p)) e 5) (part (true && a.left) e 0) in
    let m4 = total_append h (part (a.clear && not (starts_clear p)) e 5) (part (a.given && a.left) e 0) in
    let x3 = part_on h (true && a.left) e 0 lf in
    let x4 = part_off h (a.given && a.left) e 0 (false_l a.given a.left gv) in
    omega (arith, n0, m0, n1, m1, n2, m2, n3, m3, n4, m4, x3, x4)

begun_silent : (e : ℕ) (a : EntryState) (i : EntryInfo) (m : Message) → a.done ≡ false → Completes e a (record a { given = true }) i m → ⊥
begun_silent e a i m u (new_reads b o y f) = clash b (ap (λ (z : Bool). has_sibling a i && (a.reads && (only_reads i.mode || z))) (u ∙ sym (and_right a.given a.done u)) ∙ o)
begun_silent e a i m u (new_writes b o y f) = clash b (ap (λ (z : Bool). has_sibling a i && (a.writes && z)) (u ∙ sym (and_right a.given a.done u)) ∙ o)
begun_silent e a i m u (new_folds b o y f) = clash b (ap (λ (z : Bool). has_sibling a i && (a.next_folds && cond a.next_same a.folds (a.writes && z))) (u ∙ sym (and_right a.given a.done u)) ∙ o)
begun_silent e a i m u (new_clear b o y f) = clash b (ap (λ (z : Bool). has_sibling a i && (a.clear && z)) (u ∙ sym (and_right a.given a.done u)) ∙ o)
begun_silent e a i m u (new_done b o y f) = clash b (ap (λ (z : Bool). is_last a i && (a.clear && z)) (u ∙ sym (and_right a.given a.done u)) ∙ o)
begun_silent e a i m u (new_first_reads b o y f) = clash b o
begun_silent e a i m u (new_first_writes b o y f) = clash b o
begun_silent e a i m u (new_first_folds b o y f) = clash b o
begun_silent e a i m u (new_join b o y f) = clash b o

joined_sends : (net : Net) (e : ℕ) (a : EntryState) (i : EntryInfo) (m : Message) → Wired net e a i → Completes e a (record a { given = true; done = true }) i m → Sends net e 0 m
joined_sends net e a i m w (new_reads b o y f) = along (subst (λ (x : ℕ). net.place x ≡ after e) y (w.sibling (and_true (has_sibling a i) (a.reads && (only_reads i.mode || (true && true))) b).0)) (omega (arith, f))
joined_sends net e a i m w (new_writes b o y f) = along (subst (λ (x : ℕ). net.place x ≡ after e) y (w.sibling (and_true (has_sibling a i) (a.writes && (true && true)) b).0)) (omega (arith, f))
joined_sends net e a i m w (new_folds b o y f) = along (subst (λ (x : ℕ). net.place x ≡ after e) y (w.sibling (and_true (has_sibling a i) (a.next_folds && cond a.next_same a.folds (a.writes && (true && true))) b).0)) (omega (arith, f))
joined_sends net e a i m w (new_clear b o y f) = along (subst (λ (x : ℕ). net.place x ≡ after e) y (w.sibling (and_true (has_sibling a i) (a.clear && (true && true)) b).0)) (omega (arith, f))
joined_sends net e a i m w (new_done b o y f) = up (sym y ∙ (w.rising (and_true (is_last a i) (a.clear && (true && true)) b).0).2) (sym f)
joined_sends net e a i m w (new_first_reads b o y f) = absurd (clash b o)
joined_sends net e a i m w (new_first_writes b o y f) = absurd (clash b o)
joined_sends net e a i m w (new_first_folds b o y f) = absurd (clash b o)
joined_sends net e a i m w (new_join b o y f) = absurd (clash b o)

risen_grows : (e : ℕ) (a : EntryState) (i : EntryInfo) → a.linked ≡ false → Grows e a (record a { linked = true; next = i.parent }) i
risen_grows e a i u = record {
  row_reads = λ b. absurd (clash (and_true a.linked (not (a.next == i.parent)) (and_true (has_sibling a i) (a.reads && (only_reads i.mode || (a.given && a.done))) b).0).0 u);
  row_writes = λ b. absurd (clash (and_true a.linked (not (a.next == i.parent)) (and_true (has_sibling a i) (a.writes && (a.given && a.done)) b).0).0 u);
  row_folds = λ b. absurd (clash (and_true a.linked (not (a.next == i.parent)) (and_true (has_sibling a i) (a.next_folds && cond a.next_same a.folds (a.writes && (a.given && a.done))) b).0).0 u);
  row_clear = λ b. absurd (clash (and_true a.linked (not (a.next == i.parent)) (and_true (has_sibling a i) (a.clear && (a.given && a.done)) b).0).0 u);
  row_done = λ b. absurd (clash (and_true a.linked (a.next == i.parent) (and_true (is_last a i) (a.clear && (a.given && a.done)) b).0).0 u);
  row_first_reads = λ b. (b, refl);
  row_first_writes = λ b. (b, refl);
  row_first_folds = λ b. (b, refl);
  row_join = λ b. (b, refl);
}

pub self_eq : (x : ℕ) → (x == x) ≡ true
self_eq x = elim (eqb_tells x x) [ inl p ↦ p.0 | inr p ↦ absurd (p.1 refl) ]

pub no_sibling : (a : EntryState) (i : EntryInfo) → has_sibling (record a { linked = true; next = i.parent }) i ≡ true → ⊥
no_sibling a i b = clash (self_eq i.parent) (not_one (i.parent == i.parent) b)
  where
    not_one : (x : Bool) → (true && not x) ≡ true → x ≡ false
    not_one true e = absurd (cc)
    not_one false e = refl

risen_sends : (net : Net) (e : ℕ) (a : EntryState) (i : EntryInfo) (m : Message) → Completes e a (record a { linked = true; next = i.parent }) i m → Sends net i.parent 0 m
risen_sends net e a i m (new_reads b o y f) = absurd (no_sibling a i (and_true (has_sibling (record a { linked = true; next = i.parent }) i) (a.reads && (only_reads i.mode || (a.given && a.done))) b).0)
risen_sends net e a i m (new_writes b o y f) = absurd (no_sibling a i (and_true (has_sibling (record a { linked = true; next = i.parent }) i) (a.writes && (a.given && a.done)) b).0)
risen_sends net e a i m (new_folds b o y f) = absurd (no_sibling a i (and_true (has_sibling (record a { linked = true; next = i.parent }) i) (a.next_folds && cond a.next_same a.folds (a.writes && (a.given && a.done))) b).0)
risen_sends net e a i m (new_clear b o y f) = absurd (no_sibling a i (and_true (has_sibling (record a { linked = true; next = i.parent }) i) (a.clear && (a.given && a.done)) b).0)
risen_sends net e a i m (new_done b o y f) = from_child (sym y) (sym f) refl
risen_sends net e a i m (new_first_reads b o y f) = absurd (clash b o)
risen_sends net e a i m (new_first_writes b o y f) = absurd (clash b o)
risen_sends net e a i m (new_first_folds b o y f) = absurd (clash b o)
risen_sends net e a i m (new_join b o y f) = absurd (clash b o)

module _ (n : ℕ) (net : Net) (states states' : ℕ → EntryState) (infos : ℕ → EntryInfo) (views : List View) (id : ℕ) (v w : View) (e : ℕ)
    (flow : Flow n net states infos views) (at : get_elem? views id ≡ maybe.some v) (inside : e < n) where
  r : Words n net states infos views
  r = flow.words

  empty_fits : {A : Type 0} (b : Message) → Has b [] → A
  empty_fits b h = elim h [ ]

  -- of an entry whose links stay
  parents_stay : (c : EntryState) → states' e ≡ c → is_last c (infos e) ≡ is_last (states e) (infos e) → ((j : ℕ) → (states j).headed ≡ true → (states' j).headed ≡ true) → ((j : ℕ) → (states j).given ≡ true → (states' j).given ≡ true)
      → is_last (states' e) (infos e) ≡ true → ((infos e).parent < n) × ((states' (infos e).parent).headed ≡ true) × ((states' (infos e).parent).given ≡ true)
  parents_stay c q s mh mg b =
      let p = r.parents e inside (sym s ∙ subst (λ (z : EntryState). is_last z (infos e) ≡ true) q b) in
      (p.0, mh (infos e).parent p.1, mg (infos e).parent p.2)

  mono : (f : EntryState → Bool) → ((j : ℕ) → j ≢ e → states' j ≡ states j) → (f (states e) ≡ true → f (states' e) ≡ true) → (j : ℕ) → f (states j) ≡ true → f (states' j) ≡ true
  mono f others here j h = elim (same_number j e) [
    | inl q ↦ subst (λ (x : ℕ). f (states x) ≡ true → f (states' x) ≡ true) (sym q) here h
    | inr ne ↦ ap f (others j ne) ∙ h
  ]

  -- other seats' halves, where no link is set
  still : ((j : ℕ) → j ≢ e → states' j ≡ states j) → (states' e).linked ≡ (states e).linked → (x : ℕ) (j : ℕ) (y : View) → j ≢ id → get_elem? views j ≡ maybe.some y → (xs : List ℕ) → y.half ≡ x ∷ xs → (states' (net.last x)).linked ≡ false
  still others s x j y ne a xs h =
      let k = (r.halves j y a x xs h).unlinked in
      elim (same_number (net.last x) e) [
        | inl q ↦ subst (λ (z : ℕ). (states z).linked ≡ false → (states' z).linked ≡ false) (sym q) (λ u. s ∙ u) k
        | inr nl ↦ ap (λ (z : EntryState). z.linked) (others (net.last x) nl) ∙ k
      ]

  -- a give of an entry with no children
  pub gives : net.place e ≢ apart → Gives states states' infos e v w → Flow n net states' infos (set views id w)
  gives hangs d = flow_step n net states states' infos views id w flow words (λ here.
      room_step n net states' infos (set views id w) words id w here [] (sent e (states e) (states' e) (infos e)) d.sends d.whole e 6 (r.shaped.hangs e hangs)
      (λ a b ha hb. empty_fits a ha) (λ b hb. empty_fits b hb)
      (λ a ha. own_sends net e (states e) (states' e) (infos e) a wired (sent_is e (states e) (states' e) (infos e) a ha)))
    where
      wired : Wired net e (states' e) (infos e)
      wired = subst (λ (z : EntryState). Wired net e z (infos e)) (sym d.sets) (given_wired net e (states e) (infos e) (r.wired e inside))

      mg : (states e).given ≡ true → (states' e).given ≡ true
      mg g = ap (λ (z : EntryState). z.given) d.sets

      mh : (states e).headed ≡ true → (states' e).headed ≡ true
      mh g = ap (λ (z : EntryState). z.headed) d.sets ∙ g

      words : Words n net states' infos (set views id w)
      words = words_step n net states states' infos views id v w e r at (record {
        inside = inside;
        others = d.others;
        grows = subst (λ (z : EntryState). Grows e (states e) z (infos e)) (sym d.sets) (given_grows e (states e) (infos e));
        wired = wired;
        given = mg;
        headed = mh;
        linked = λ g. ap (λ (z : EntryState). z.linked) d.sets ∙ g;
        finished = λ b. ap (λ (z : EntryState). z.given) d.sets;
        parents = parents_stay (record (states e) { given = true; done = true }) d.sets refl (mono (λ z. z.headed) d.others mh) (mono (λ z. z.given) d.others mg);
        nexts = subst (λ (z : EntryState). has_sibling z (infos e) ≡ true → z.next < n) (sym d.sets) (r.nexts e inside);
        firsts = subst (λ (z : EntryState). z.headed ≡ true → z.child < n) (sym d.sets) (r.firsts e inside);
        balance = λ h.
            let g : total h (got (net.place e) e (states' e)) ≡ total h (got (net.place e) e (states e)) = ap (λ (z : EntryState). total h (got (net.place e) e z)) d.sets ∙ given_got h (net.place e) e (states e) d.childless d.stays in
            let x : total h v.held ≡ 0 = ap (λ z. total h z) d.empty in
            let y : total h w.held ≡ total h (sent e (states e) (states' e) (infos e)) = ap (λ z. total h z) d.sends in
            omega (arith, g, x, y);
        half = λ x xs h. let z : [] ≡ x ∷ xs = sym d.whole ∙ h in absurd (cc);
        unlinked = still d.others (ap (λ (z : EntryState). z.linked) d.sets);
        sole = λ x xs h. let z : [] ≡ x ∷ xs = sym d.whole ∙ h in absurd (cc);
      })

  -- a fold is left with its value
  pub leaves : net.place e ≢ apart → Leaves states states' infos e v w → Flow n net states' infos (set views id w)
  leaves hangs d = flow_step n net states states' infos views id w flow words (λ here.
      room_step n net states' infos (set views id w) words id w here [] (sent e (states e) (states' e) (infos e)) d.sends d.whole e 6 (r.shaped.hangs e hangs)
      (λ a b ha hb. empty_fits a ha) (λ b hb. empty_fits b hb)
      (λ a ha. own_sends net e (states e) (states' e) (infos e) a wired (sent_is e (states e) (states' e) (infos e) a ha)))
    where
      wired : Wired net e (states' e) (infos e)
      wired = subst (λ (z : EntryState). Wired net e z (infos e)) (sym d.sets) (left_wired net e (states e) (infos e) hangs (r.wired e inside))

      mg : (states e).given ≡ true → (states' e).given ≡ true
      mg g = ap (λ (z : EntryState). z.given) d.sets ∙ g

      mh : (states e).headed ≡ true → (states' e).headed ≡ true
      mh g = ap (λ (z : EntryState). z.headed) d.sets ∙ g

      words : Words n net states' infos (set views id w)
      words = words_step n net states states' infos views id v w e r at (record {
        inside = inside;
        others = d.others;
        grows = subst (λ (z : EntryState). Grows e (states e) z (infos e)) (sym d.sets) (left_grows e (states e) (infos e));
        wired = wired;
        given = mg;
        headed = mh;
        linked = λ g. ap (λ (z : EntryState). z.linked) d.sets ∙ g;
        finished = subst (λ (z : EntryState). z.done ≡ true → z.given ≡ true) (sym d.sets) (r.finished e inside);
        parents = parents_stay (record (states e) { left = true }) d.sets refl (mono (λ z. z.headed) d.others mh) (mono (λ z. z.given) d.others mg);
        nexts = subst (λ (z : EntryState). has_sibling z (infos e) ≡ true → z.next < n) (sym d.sets) (r.nexts e inside);
        firsts = subst (λ (z : EntryState). z.headed ≡ true → z.child < n) (sym d.sets) (r.firsts e inside);
        balance = λ h.
            let g : total h (got (net.place e) e (states' e)) ≡ total h (got (net.place e) e (states e)) = ap (λ (z : EntryState). total h (got (net.place e) e z)) d.sets ∙ left_got h (net.place e) e (states e) d.keeps in
            let x : total h v.held ≡ 0 = ap (λ z. total h z) d.empty in
            let y : total h w.held ≡ total h (sent e (states e) (states' e) (infos e)) = ap (λ z. total h z) d.sends in
            omega (arith, g, x, y);
        half = λ x xs h. let z : [] ≡ x ∷ xs = sym d.whole ∙ h in absurd (cc);
        unlinked = still d.others (ap (λ (z : EntryState). z.linked) d.sets);
        sole = λ x xs h. let z : [] ≡ x ∷ xs = sym d.whole ∙ h in absurd (cc);
      })

  fits_self : (a b : Message) → a.entry ≡ b.entry → a.flag ≡ 0 → b.flag ≡ 0 → Fits net a b
  fits_self a b q f g = let k : net.depth a.entry ≡ net.depth b.entry = ap (λ x. net.depth x) q in record {
    path = λ h. same_list (ap (λ x. net.lead x) q);
    above = λ h l. absurd (omega (arith, k, l));
    across = λ h l. absurd (omega (arith, k, l));
    joint = λ h l o. absurd (omega (arith, g, l));
    never = λ h l o. omega (arith, f, h);
    alike = λ h l. q;
  }

  module _ (p : Parent n net states infos e) where
    begun_wired_now : states' e ≡ record (states e) { given = true } → Wired net e (states' e) (infos e)
    begun_wired_now s = subst (λ (z : EntryState). Wired net e z (infos e)) (sym s) (begun_wired net e (states e) (infos e) (r.wired e inside))

    -- the step itself, with what came and what is held
    begun_words : states' e ≡ record (states e) { given = true } → ((j : ℕ) → j ≢ e → states' j ≡ states j) → w.half ≡ e ∷ [] → ((b : Message) → Has b w.held → Behind net e 0 b)
        → ((h : Message → ℕ) → total h (got (net.place e) e (states' e)) + total h w.held ≡ total h (got (net.place e) e (states e)) + total h v.held)
        → Words n net states' infos (set views id w)
    begun_words s others whole late same = words_step n net states states' infos views id v w e r at (record {
      inside = inside;
      others = others;
      grows = subst (λ (z : EntryState). Grows e (states e) z (infos e)) (sym s) (begun_grows e (states e) (infos e));
      wired = begun_wired_now s;
      given = mg;
      headed = mh;
      linked = λ g. ap (λ (z : EntryState). z.linked) s ∙ g;
      finished = λ b. ap (λ (z : EntryState). z.given) s;
      parents = parents_stay (record (states e) { given = true }) s refl (mono (λ z. z.headed) others mh) (mono (λ z. z.given) others mg);
      nexts = subst (λ (z : EntryState). has_sibling z (infos e) ≡ true → z.next < n) (sym s) (r.nexts e inside);
      firsts = subst (λ (z : EntryState). z.headed ≡ true → z.child < n) (sym s) (r.firsts e inside);
      balance = λ h.
          let k = same h in
          let q : total h (sent e (states e) (states' e) (infos e)) ≡ 0 = none h (sent e (states e) (states' e) (infos e)) (λ m hm. begun_silent e (states e) (infos e) m p.undone (subst (λ (z : EntryState). Completes e (states e) z (infos e) m) s (sent_is e (states e) (states' e) (infos e) m hm))) in
          omega (arith, k, q);
      half = λ x xs h. let q : e ∷ [] ≡ x ∷ xs = sym whole ∙ h in let u : e ≡ x = cc in subst (λ (y : ℕ). Half n net states' infos y w) u here_half;
      unlinked = still others (ap (λ (z : EntryState). z.linked) s);
      sole = λ x xs h j y ne a ys hy.
          let q : e ∷ [] ≡ x ∷ xs = sym whole ∙ h in
          let u : e ≡ x = cc in
          clash (subst (λ (z : ℕ). (states z).given ≡ true) (sym u) (r.halves j y a x ys hy).given) p.open_yet;
    })
      where
        mg : (states e).given ≡ true → (states' e).given ≡ true
        mg g = ap (λ (z : EntryState). z.given) s

        mh : (states e).headed ≡ true → (states' e).headed ≡ true
        mh g = ap (λ (z : EntryState). z.headed) s ∙ g

        last_linked : (states' (net.last e)).linked ≡ false
        last_linked = elim (same_number (net.last e) e) [
          | inl q ↦ subst (λ (z : ℕ). (states z).linked ≡ false → (states' z).linked ≡ false) (sym q) (λ u. ap (λ (z : EntryState). z.linked) s ∙ u) p.unlinked
          | inr nl ↦ ap (λ (z : EntryState). z.linked) (others (net.last e) nl) ∙ p.unlinked
        ]

        here_half : Half n net states' infos e w
        here_half = record {
          inside = inside;
          inside_last = p.inside_last;
          given = ap (λ (z : EntryState). z.given) s;
          headed = mh p.headed;
          unlinked = last_linked;
          child = p.child;
          told = p.told;
          hangs = p.hangs;
          hangs_last = p.hangs_last;
          late = late;
        }

    -- the first step of a give of an entry with children
    pub begins : Begins states states' e v w → Flow n net states' infos (set views id w)
    begins d = flow_step n net states states' infos views id w flow
        (begun_words d.sets d.others d.whole (λ b h. empty_fits b (subst (λ (z : List Message). Has b z) d.sends h))
        (λ h.
        let g : total h (got (net.place e) e (states' e)) ≡ total h (got (net.place e) e (states e)) = ap (λ (z : EntryState). total h (got (net.place e) e z)) d.sets ∙ begun_got h (net.place e) e (states e) d.stays in
        let x : total h v.held ≡ 0 = ap (λ z. total h z) d.empty in
        let y : total h w.held ≡ 0 = ap (λ z. total h z) d.sends in
        omega (arith, g, x, y)))
        (λ here a b ha hb. let x = of a ha in let y = of b hb in fits_self a b (x.0 ∙ sym y.0) x.1 y.1)
      where
        of : (a : Message) → Holding w a → (a.entry ≡ e) × (a.flag ≡ 0)
        of a (message h) = empty_fits a (subst (λ (z : List Message). Has a z) d.sends h)
        of a (pending xs h k) = let q : e ∷ [] ≡ a.entry ∷ xs = sym d.whole ∙ h in let u : a.entry ≡ e = cc in (u, k)

  -- a join that the seat holds
  module _ (rest : List Message) (took : (h : Message → ℕ) → total h v.held ≡ h (record { entry = e; flag = 0 }) + total h rest) where
    join_held : Has (record { entry = e; flag = 0 }) v.held
    join_held = let t = took (only (record { entry = e; flag = 0 })) in let o = only_is (record { entry = e; flag = 0 }) (record { entry = e; flag = 0 }) refl refl in total_has (record { entry = e; flag = 0 }) v.held (omega (arith, t, o))

    rest_held : (b : Message) → Has b rest → Has b v.held
    rest_held b h = let t = took (only b) in let o = has_total b rest h in total_has b v.held (omega (arith, t, o))

    join_cause : (d : ℕ) × (d < n) × Due d (states d) (infos d) (record { entry = e; flag = 0 })
    join_cause = held_due n net states infos views r id v at (record { entry = e; flag = 0 }) join_held

    join_hangs : net.place e ≢ apart
    join_hangs = target_hangs n net states infos views r join_cause.0 join_cause.1 (record { entry = e; flag = 0 }) join_cause.2

    join_left : (d : ℕ) → Due d (states d) (infos d) (record { entry = e; flag = 0 }) → (states e).left ≡ true
    join_left d (due_join b y f) = subst (λ (x : ℕ). (states x).left ≡ true) y (and_true (states d).folds (states d).left b).1
    join_left d (due_reads b y f) = absurd (omega (arith, f))
    join_left d (due_writes b y f) = absurd (omega (arith, f))
    join_left d (due_folds b y f) = absurd (omega (arith, f))
    join_left d (due_clear b y f) = absurd (omega (arith, f))
    join_left d (due_done b y f) = absurd (omega (arith, f))
    join_left d (due_first_reads b y f) = absurd (omega (arith, f))
    join_left d (due_first_writes b y f) = absurd (omega (arith, f))
    join_left d (due_first_folds b y f) = absurd (omega (arith, f))

    join_open : (states e).given ≡ false
    join_open = elim (bools (states e).given) [
      | inl g ↦ absurd (held_new n net states infos views r id v at (record { entry = e; flag = 0 }) join_held e inside (came_join (net.place e) e (states e) g (join_left join_cause.0 join_cause.2)))
      | inr g ↦ g
    ]

  -- the give of a fold that was joined, with no children
  pub joins_gives : (rest : List Message) → JoinsGives net states states' infos e rest v w → Flow n net states' infos (set views id w)
  joins_gives rest d = flow_step n net states states' infos views id w flow words (λ here.
      room_step n net states' infos (set views id w) words id w here rest (sent e (states e) (states' e) (infos e)) d.sends d.whole e 0 (r.shaped.hangs e (join_hangs rest d.took))
      (λ x y hx hy. flow.room id v at x y (message (rest_held rest d.took x hx)) (message (rest_held rest d.took y hy)))
      (λ x hx. record { from = flow.room id v at (record { entry = e; flag = 0 }) x (message (join_held rest d.took)) (message (rest_held rest d.took x hx)); to = flow.room id v at x (record { entry = e; flag = 0 }) (message (rest_held rest d.took x hx)) (message (join_held rest d.took)); late = d.first x hx })
      (λ a ha. joined_sends net e (states e) (infos e) a (r.wired e inside) (subst (λ (z : EntryState). Completes e (states e) z (infos e) a) d.sets (sent_is e (states e) (states' e) (infos e) a ha))))
    where
      mg : (states e).given ≡ true → (states' e).given ≡ true
      mg g = ap (λ (z : EntryState). z.given) d.sets

      mh : (states e).headed ≡ true → (states' e).headed ≡ true
      mh g = ap (λ (z : EntryState). z.headed) d.sets ∙ g

      words : Words n net states' infos (set views id w)
      words = words_step n net states states' infos views id v w e r at (record {
        inside = inside;
        others = d.others;
        grows = subst (λ (z : EntryState). Grows e (states e) z (infos e)) (sym d.sets) (given_grows e (states e) (infos e));
        wired = subst (λ (z : EntryState). Wired net e z (infos e)) (sym d.sets) (given_wired net e (states e) (infos e) (r.wired e inside));
        given = mg;
        headed = mh;
        linked = λ g. ap (λ (z : EntryState). z.linked) d.sets ∙ g;
        finished = λ b. ap (λ (z : EntryState). z.given) d.sets;
        parents = parents_stay (record (states e) { given = true; done = true }) d.sets refl (mono (λ z. z.headed) d.others mh) (mono (λ z. z.given) d.others mg);
        nexts = subst (λ (z : EntryState). has_sibling z (infos e) ≡ true → z.next < n) (sym d.sets) (r.nexts e inside);
        firsts = subst (λ (z : EntryState). z.headed ≡ true → z.child < n) (sym d.sets) (r.firsts e inside);
        balance = λ h.
            let g : total h (got (net.place e) e (states' e)) ≡ total h (got (net.place e) e (states e)) + h (record { entry = e; flag = 0 }) = ap (λ (z : EntryState). total h (got (net.place e) e z)) d.sets ∙ joined_got h (net.place e) e (states e) d.childless (join_left rest d.took (join_cause rest d.took).0 (join_cause rest d.took).2) (join_open rest d.took) in
            let x = d.took h in
            let y : total h w.held ≡ total h rest + total h (sent e (states e) (states' e) (infos e)) = ap (λ z. total h z) d.sends ∙ total_append h rest (sent e (states e) (states' e) (infos e)) in
            omega (arith, g, x, y);
        half = λ x xs h. let z : [] ≡ x ∷ xs = sym d.whole ∙ h in absurd (cc);
        unlinked = still d.others (ap (λ (z : EntryState). z.linked) d.sets);
        sole = λ x xs h. let z : [] ≡ x ∷ xs = sym d.whole ∙ h in absurd (cc);
      })

  -- the first step of the give of a fold that was joined, with children
  pub joins_begins : Parent n net states infos e → (rest : List Message) → JoinsBegins net states states' e rest v w → Flow n net states' infos (set views id w)
  joins_begins p rest d = flow_step n net states states' infos views id w flow
      (begun_words p d.sets d.others d.whole (λ b h. d.first b (subst (λ (z : List Message). Has b z) d.sends h))
      (λ h.
      let g : total h (got (net.place e) e (states' e)) ≡ total h (got (net.place e) e (states e)) + h (record { entry = e; flag = 0 }) = ap (λ (z : EntryState). total h (got (net.place e) e z)) d.sets ∙ joined_begun_got h (net.place e) e (states e) (join_left rest d.took (join_cause rest d.took).0 (join_cause rest d.took).2) (join_open rest d.took) in
      let x = d.took h in
      let y : total h w.held ≡ total h rest = ap (λ z. total h z) d.sends in
      omega (arith, g, x, y)))
      (λ here a b ha hb. flow.room id v at a b (before a ha) (before b hb))
    where
      before : (a : Message) → Holding w a → Holding v a
      before a (message h) = message (rest_held rest d.took a (subst (λ (z : List Message). Has a z) d.sends h))
      before a (pending xs h k) = let q : e ∷ [] ≡ a.entry ∷ xs = sym d.whole ∙ h in let u : a.entry ≡ e = cc in message (has_same a (record { entry = e; flag = 0 }) v.held u k (join_held rest d.took))

  -- the last child is linked to the entry that was given up
  pub rises : Rises net states states' infos e v w → Flow n net states' infos (set views id w)
  rises d = flow_step n net states states' infos views id w flow words (λ here.
      room_step n net states' infos (set views id w) words id w here v.held (sent l (states l) (states' l) (infos l)) d.sends d.whole e 0 (r.shaped.hangs e k.hangs)
      (λ x y hx hy. flow.room id v at x y (message hx) (message hy))
      (λ x hx. record { from = flow.room id v at (record { entry = e; flag = 0 }) x (pending [] d.full refl) (message hx); to = flow.room id v at x (record { entry = e; flag = 0 }) (message hx) (pending [] d.full refl); late = k.late x hx })
      (λ a ha. subst (λ (z : ℕ). Sends net z 0 a) k.told (risen_sends net l (states l) (infos l) a (subst (λ (z : EntryState). Completes l (states l) z (infos l) a) sets (sent_is l (states l) (states' l) (infos l) a ha)))))
    where
      l : ℕ
      l = net.last e

      k : Half n net states infos e v
      k = r.halves id v at e [] d.full

      sets : states' l ≡ record (states l) { linked = true; next = (infos l).parent }
      sets = d.sets ∙ ap (λ z. record (states l) { linked = true; next = z }) (sym k.told)

      mono_l : (f : EntryState → Bool) → (f (states l) ≡ true → f (states' l) ≡ true) → (j : ℕ) → f (states j) ≡ true → f (states' j) ≡ true
      mono_l f here j h = elim (same_number j l) [
        | inl q ↦ subst (λ (x : ℕ). f (states x) ≡ true → f (states' x) ≡ true) (sym q) here h
        | inr ne ↦ ap f (d.others j ne) ∙ h
      ]

      mg : (states l).given ≡ true → (states' l).given ≡ true
      mg g = ap (λ (z : EntryState). z.given) sets ∙ g

      mh : (states l).headed ≡ true → (states' l).headed ≡ true
      mh g = ap (λ (z : EntryState). z.headed) sets ∙ g

      wired : Wired net l (record (states l) { linked = true; next = (infos l).parent }) (infos l)
      wired = record {
        sibling = λ b. absurd (no_sibling (states l) (infos l) b);
        rising = λ b. (ap (λ x. net.last x) k.told, (λ q. k.hangs (ap (λ x. net.place x) (sym k.told) ∙ q)), k.told ∙ sym k.child);
        child = (r.wired l k.inside_last).child;
        leaving = (r.wired l k.inside_last).leaving;
      }

      words : Words n net states' infos (set views id w)
      words = words_step n net states states' infos views id v w l r at (record {
        inside = k.inside_last;
        others = d.others;
        grows = subst (λ (z : EntryState). Grows l (states l) z (infos l)) (sym sets) (risen_grows l (states l) (infos l) k.unlinked);
        wired = subst (λ (z : EntryState). Wired net l z (infos l)) (sym sets) wired;
        given = mg;
        headed = mh;
        linked = λ g. ap (λ (z : EntryState). z.linked) sets;
        finished = subst (λ (z : EntryState). z.done ≡ true → z.given ≡ true) (sym sets) (r.finished l k.inside_last);
        parents = λ b. subst (λ (x : ℕ). (x < n) × ((states' x).headed ≡ true) × ((states' x).given ≡ true)) (sym k.told) (k.inside, mono_l (λ z. z.headed) mh e k.headed, mono_l (λ z. z.given) mg e k.given);
        nexts = λ b. absurd (no_sibling (states l) (infos l) (subst (λ (z : EntryState). has_sibling z (infos l) ≡ true) sets b));
        firsts = subst (λ (z : EntryState). z.headed ≡ true → z.child < n) (sym sets) (r.firsts l k.inside_last);
        balance = λ h.
            let g : total h (got (net.place l) l (states' l)) ≡ total h (got (net.place l) l (states l)) = ap (λ (z : EntryState). total h (got (net.place l) l z)) sets in
            let y : total h w.held ≡ total h v.held + total h (sent l (states l) (states' l) (infos l)) = ap (λ z. total h z) d.sends ∙ total_append h v.held (sent l (states l) (states' l) (infos l)) in
            omega (arith, g, y);
        half = λ x xs h. let z : [] ≡ x ∷ xs = sym d.whole ∙ h in absurd (cc);
        unlinked = λ x j y ne a xs h.
            let o = r.halves j y a x xs h in
            elim (same_number (net.last x) l) [
              | inl q ↦
                  let u : x ≡ e = sym o.child ∙ ap (λ z. net.parent z) q ∙ k.child in
                  absurd (ne (sym (r.sole id j v y at a e [] xs d.full (h ∙ ap (λ z. z ∷ xs) u))))
              | inr nl ↦ ap (λ (z : EntryState). z.linked) (d.others (net.last x) nl) ∙ o.unlinked
            ];
        sole = λ x xs h. let z : [] ≡ x ∷ xs = sym d.whole ∙ h in absurd (cc);
      })
