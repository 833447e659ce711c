-- What holds of empty lists, of lists that are alike, and of lists in which a task gives up the cell.
use Rattle.std.proofs.Common.{◌≡◌, ℕ, refl, sym, subst, ap, ◌∙◌, ◌⊎◌, inl, inr, Bool, true, false, List, [], Option, Some, None, eq-eqb, eqb-true}
use Rattle.std.specs.Prelude.{◌==◌, ◌||◌, if◌then◌else◌}
use Rattle.oss_deps.specs.declared.opened.Open.{Open}
use Rattle.oss_access_lists.specs.Wires.{Wires, IsBelow, head, tail}
use Rattle.oss_access_lists.specs.Steps.{IsGift}
use Rattle.oss_access_lists.proofs.GiftLemmas.{same_wires}
use Rattle.oss_access_lists.proofs.SoundLemmas.{bools}
use Rattle.oss_access_lists.proofs.StepLemmas.{same_or}
use Rattle.oss_links.specs.Held.{AreAlike, AreEmpty, AreHeld, IsAccessOf, IsAdded, IsUnder, new, old, under_main, under_task, with_task}

-- the first access, and each other one
pub empty_holds : (given : ℕ → ℕ → Bool) (c : ℕ) (w : Wires) (entry : ℕ → ℕ → Type 0) → AreEmpty w → ((t v : ℕ) → entry t v → ⊥) → AreHeld [] given c w entry
empty_holds given c w entry empty no_entry = record {
  wired = record {
    behind = λ u v e. absurd (let h = sym (empty.places v) ∙ e in cc);
    below = λ p v e. absurd (let h = sym (empty.places v) ∙ e in cc);
    not_main = λ v e. let h = sym (empty.places v) ∙ e in cc;
    empty = λ p v e b. nowhere p v b;
    listed = λ p v e n. absurd (n (sym e ∙ empty.lasts p));
    all_before = λ p u v e b. absurd (nowhere p u b);
    covered = λ p v b. absurd (nowhere p v b);
    main_writes = empty.main_mode;
    main_holds = empty.main_holds;
  };
  opened = λ t v r. absurd (no_entry t v r);
  one_number = λ t u v r s. absurd (no_entry t u r);
  one_task = λ t s v r q. absurd (no_entry t v r);
  held = λ t h. absurd (elim h.listed [ ]);
  not_main = λ t v r. absurd (no_entry t v r);
  hung = λ p v b. absurd (nowhere p v b);
  under = λ o v i n r. absurd (no_entry o.task v r);
  order = λ a b u v q k n n' r s. absurd (no_entry a.task u r);
  mode = λ t v r. absurd (no_entry t v r);
  gave = λ t v r. absurd (no_entry t v r);
}
  where
    nowhere : (p v : ℕ) → IsBelow w.place p v → ⊥
    nowhere p v (head e) = let h = sym (empty.places v) ∙ e in cc
    nowhere p v (tail e b) = let h = sym (empty.places v) ∙ e in cc

-- other accesses of tasks, that are the same
pub held_renamed : (opens : List Open) (given : ℕ → ℕ → Bool) (c : ℕ) (w : Wires) (entry other : ℕ → ℕ → Type 0) → ((t v : ℕ) → entry t v → other t v) → ((t v : ℕ) → other t v → entry t v)
    → AreHeld opens given c w entry → AreHeld opens given c w other
held_renamed opens given c w entry other forth back are = record {
  wired = are.wired;
  opened = λ t v r. are.opened t v (back t v r);
  one_number = λ t u v r s. are.one_number t u v (back t u r) (back t v s);
  one_task = λ t s v r q. are.one_task t s v (back t v r) (back s v q);
  held = λ t h. let r = are.held t h in (r.0, forth t r.0 r.1);
  not_main = λ t v r. are.not_main t v (back t v r);
  hung = λ p v b. let r = are.hung p v b in (r.0, forth r.0 v r.1);
  under = λ o v i n r. under_of o v (are.under o v i n (back o.task v r));
  order = λ a b u v q k n n' r s. are.order a b u v q k n n' (back a.task u r) (back b.task v s);
  mode = λ t v r. are.mode t v (back t v r);
  gave = λ t v r. are.gave t v (back t v r);
}
  where
    under_of : (o : Open) (v : ℕ) → IsUnder entry w o.parent v → IsUnder other w o.parent v
    under_of o v (under_main e b) = under_main e b
    under_of o v (under_task p q b) = under_task p (forth o.parent p q) b

-- other gifts, that are the same at this cell
pub held_told : (opens : List Open) (given later : ℕ → ℕ → Bool) (c : ℕ) (w : Wires) (entry : ℕ → ℕ → Type 0) → ((t : ℕ) → later t c ≡ given t c) → AreHeld opens given c w entry → AreHeld opens later c w entry
held_told opens given later c w entry same are = record {
  wired = are.wired;
  opened = are.opened;
  one_number = are.one_number;
  one_task = are.one_task;
  held = are.held;
  not_main = are.not_main;
  hung = are.hung;
  under = are.under;
  order = are.order;
  mode = are.mode;
  gave = λ t v r. same t ∙ are.gave t v r;
}

pub held_alike : (opens : List Open) (given : ℕ → ℕ → Bool) (c : ℕ) (w n : Wires) (entry : ℕ → ℕ → Type 0) → AreAlike w n → AreHeld opens given c w entry → AreHeld opens given c n entry
held_alike opens given c w n entry alike are =
    subst (λ (y : Wires). AreHeld opens given c y entry) (same_wires w n alike.places alike.lasts alike.modes alike.gave) are

-- the lists with other gifts
abbrev given_wires : Wires → (ℕ → Bool) → Wires
given_wires w gave = record { place = w.place; last = w.last; mode = w.mode; gave = gave }

held_gave : (opens : List Open) (given later : ℕ → ℕ → Bool) (c : ℕ) (w : Wires) (gave : ℕ → Bool) (entry : ℕ → ℕ → Type 0) → AreHeld opens given c w entry → gave 0 ≡ false → ((t v : ℕ) → entry t v → later t c ≡ gave v)
    → AreHeld opens later c (given_wires w gave) entry
held_gave opens given later c w gave entry are main same = record {
  wired = record {
    behind = are.wired.behind;
    below = are.wired.below;
    not_main = are.wired.not_main;
    empty = are.wired.empty;
    listed = are.wired.listed;
    all_before = are.wired.all_before;
    covered = are.wired.covered;
    main_writes = are.wired.main_writes;
    main_holds = main;
  };
  opened = are.opened;
  one_number = are.one_number;
  one_task = are.one_task;
  held = are.held;
  not_main = are.not_main;
  hung = are.hung;
  under = λ o v i n r. under_of o v (are.under o v i n r);
  order = are.order;
  mode = are.mode;
  gave = same;
}
  where
    under_of : (o : Open) (v : ℕ) → IsUnder entry w o.parent v → IsUnder entry (given_wires w gave) o.parent v
    under_of o v (under_main e b) = under_main e b
    under_of o v (under_task p q b) = under_task p q b

or_true : (b : Bool) → (b || true) ≡ true
or_true true = refl
or_true false = refl

or_false : (b : Bool) → (b || false) ≡ b
or_false true = refl
or_false false = refl

-- the task t, whose access is g, gives up the cell
pub held_given : (opens : List Open) (given later : ℕ → ℕ → Bool) (c : ℕ) (w n : Wires) (entry : ℕ → ℕ → Type 0) (t g : ℕ) → AreHeld opens given c w entry → IsGift w n g → entry t g
    → ((s : ℕ) → later s c ≡ (given s c || (t == s))) → AreHeld opens later c n entry
held_given opens given later c w n entry t g are gift access tells =
    held_alike opens later c (given_wires w n.gave) n entry
    (record { places = λ v. sym (gift.places v); lasts = λ v. sym (gift.lasts v); modes = λ v. sym (gift.modes v); gave = λ v. refl })
    (held_gave opens given later c w n.gave entry are (gift.others 0 (λ e. gift.not_main (sym e)) ∙ are.wired.main_holds) (λ s v r. same s v r (same_or v g)))
  where
    not_same : (s : ℕ) → (t ≡ s → ⊥) → (b : Bool) → (t == s) ≡ b → b ≡ false
    not_same s k true e = absurd (k (eqb-true t s e))
    not_same s k false e = refl

    same : (s v : ℕ) → entry s v → (v ≡ g) ⊎ (v ≡ g → ⊥) → later s c ≡ n.gave v
    same s v r (inl e) =
        let k : t ≡ s = are.one_task t s g access (subst (λ y. entry s y) e r) in
        tells s ∙ (ap (λ b. given s c || b) (eq-eqb t s k) ∙ (or_true (given s c) ∙ (sym gift.given ∙ ap n.gave (sym e))))
    same s v r (inr k) =
        let k' : t ≡ s → ⊥ = λ h. k (are.one_number t v g (subst (λ y. entry y v) (sym h) r) access) in
        tells s ∙ (ap (λ b. given s c || b) (not_same s k' (t == s) refl) ∙ (or_false (given s c) ∙ (are.gave s v r ∙ sym (gift.others v k))))

-- a function of tasks with one more tells of the accesses with one more
module _ (task_of : ℕ → Option ℕ) (t e : ℕ) (free : task_of e ≡ None) where
  differ : (v : ℕ) → (v ≡ e → ⊥) → (v == e) ≡ false
  differ v n = go (bools (v == e))
    where
      go : ((v == e) ≡ true) ⊎ ((v == e) ≡ false) → (v == e) ≡ false
      go (inl h) = absurd (n (eqb-true v e h))
      go (inr h) = h

  pub added_is : (s v : ℕ) → IsAdded (IsAccessOf task_of) t e s v → IsAccessOf (with_task task_of t e) s v
  added_is s v (old r) = rw (differ v (λ k. let h = sym r ∙ (ap task_of k ∙ free) in cc)) r
  added_is s v (new k l) = rw (eq-eqb v e l) (ap (λ (x : ℕ). Some x) (sym k))

  some_is : {a b : ℕ} → Some a ≡ Some b → a ≡ b
  some_is {a} {b} h = cc

  pub is_added : (s v : ℕ) → IsAccessOf (with_task task_of t e) s v → IsAdded (IsAccessOf task_of) t e s v
  is_added s v r = go (same_or v e)
    where
      go : (v ≡ e) ⊎ (v ≡ e → ⊥) → IsAdded (IsAccessOf task_of) t e s v
      go (inl h) = new (sym (some_is (subst (λ (b : Bool). (if b then Some t else task_of v) ≡ Some s) (eq-eqb v e h) r))) h
      go (inr n) = old (subst (λ (b : Bool). (if b then Some t else task_of v) ≡ Some s) (differ v n) r)
