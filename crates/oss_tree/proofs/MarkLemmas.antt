-- Marks tell which tasks are complete, and stay so when they are moved.
use Rattle.std.proofs.Common.{◌≡◌, ℕ, zero, suc, ◌<◌, ◌≤◌, ◌+◌, ◌⊎◌, inl, inr, refl, sym, ap, ◌∙◌, Bool, true, false, List, [], ◌∷◌, Option, Some, None, length, arith, eqb-true, eq-eqb, ◌↔◌}
use Rattle.std.specs.Prelude.{slice_get, slice_index, ◌&&◌, ◌==◌, MatchOption}
use Rattle.std.proofs.lemmas.Option.{slice_get_within, slice_get_past}
use Rattle.oss_tree.specs.declared.task.Task.{Task}
use Rattle.oss_model.specs.declared.task_no.TaskNo.{TaskNo}
use Rattle.oss_tree.specs.Tasks.{AreChildrenComplete, IsFirstUnfinished, IsClosed, IsComplete, IsTree, complete, number}
use Rattle.oss_tree.specs.Marks.{AreMarked, IsMarked, Nobody, is_settled, settles}
use Rattle.oss_tree.proofs.ListLemmas.{none_some, some_is, there_is}

both : (a b : Bool) → (a && b) ≡ true → (a ≡ true) × (b ≡ true)
both true b e = (refl, e)
both false b e = cc

both_of : (a b : Bool) → a ≡ true → b ≡ true → (a && b) ≡ true
both_of true b e f = f
both_of false b e f = cc

true_or_false : (b : Bool) → (b ≡ true) ⊎ (b ≡ false)
true_or_false true = inl refl
true_or_false false = inr refl

-- what a settled task has

pub record Settled (one : Task) (mark : ℕ) : Type 0 where
  pub closed : IsClosed one
  pub whole : mark ≡ length one.children

settled_parts : (one : Task) (mark : ℕ) → settles (Some one) mark ≡ true → Settled one mark
settled_parts one mark e =
    let p = both (one.ended && one.gave_all) (mark == length one.children) e in
    let q = both one.ended one.gave_all p.0 in
    record { closed = (q.0, q.1); whole = eqb-true mark (length one.children) p.1 }

settled_whole : (one : Task) (mark : ℕ) → IsClosed one → mark ≡ length one.children → settles (Some one) mark ≡ true
settled_whole one mark c e = both_of (one.ended && one.gave_all) (mark == length one.children) (both_of one.ended one.gave_all c.0 c.1) (eq-eqb mark (length one.children) e)

some_settles : (o : Option Task) (mark : ℕ) → settles o mark ≡ true → (one : Task) × (o ≡ Some one) × Settled one mark
some_settles None mark e = cc
some_settles (Some one) mark e = (one, refl, settled_parts one mark e)

module _ (tasks : List Task) (marks : List ℕ) where
  pub settled_is : (t : ℕ) (one : Task) → slice_get tasks t ≡ Some one → is_settled tasks marks t ≡ true → Settled one (slice_index marks t)
  settled_is t one e s = settled_parts one (slice_index marks t) (ap (λ (o : Option Task). settles o (slice_index marks t)) (sym e) ∙ s)

  pub settled_if : (t : ℕ) (one : Task) → slice_get tasks t ≡ Some one → IsClosed one → slice_index marks t ≡ length one.children → is_settled tasks marks t ≡ true
  settled_if t one e c w = ap (λ (o : Option Task). settles o (slice_index marks t)) e ∙ settled_whole one (slice_index marks t) c w

  pub not_settled : (t : ℕ) (one : Task) → slice_get tasks t ≡ Some one → slice_index marks t < length one.children → is_settled tasks marks t ≡ false
  not_settled t one e l = go (true_or_false (is_settled tasks marks t))
    where
      go : (is_settled tasks marks t ≡ true) ⊎ (is_settled tasks marks t ≡ false) → is_settled tasks marks t ≡ false
      go (inl s) = let w = (settled_is t one e s).whole in absurd (omega (arith, w, l))
      go (inr s) = s

none_from : {A : Type 0} (xs : List A) (i : ℕ) → slice_get xs i ≡ None → length xs ≤ i
none_from [] i g = omega arith
none_from (x ∷ xs) zero g = cc
none_from (x ∷ xs) (suc i) g = let l = none_from xs i g in omega (arith, l)

pub true_not : true ≡ false → ⊥
true_not e = cc

-- with all marks in their places a task is settled just where it is complete

pub sure : {P : Type 0} → P ⊎ ⊥ → P
sure (inl p) = p
sure (inr n) = absurd n

module _ {tasks : List Task} {marks : List ℕ} (tree : IsTree tasks) (m : AreMarked tasks marks) where
  settled_complete : (n t : ℕ) → length tasks ≤ t + n → is_settled tasks marks t ≡ true → IsComplete tasks t
  settled_complete zero t l s =
      let one = some_settles (slice_get tasks t) (slice_index marks t) s in
      absurd (none_some (slice_get_past tasks t (omega arith)) one.1)
  settled_complete (suc n) t l s =
      let one = some_settles (slice_get tasks t) (slice_index marks t) s in
      complete one.0 one.1 one.2.closed
      (λ k c e. let child = tree.children t one.0 one.1 k c e in
      let within = slice_get_within one.0.children k (number c) e in
      let whole = one.2.whole in
      settled_complete n c (omega (arith, child.later)) (sure ((m.marked t one.0 one.1).behind k c (omega (arith, within, whole)) e)))

  pub complete_if : (t : ℕ) → is_settled tasks marks t ≡ true → IsComplete tasks t
  complete_if t s = settled_complete (length tasks) t (omega arith) s

  at_mark : (t : ℕ) (one : Task) → slice_get tasks t ≡ Some one → ((k c : ℕ) → slice_get one.children k ≡ Some (number c) → is_settled tasks marks c ≡ true) → slice_index marks t ≡ length one.children
  at_mark t one e each = go (within_or (slice_index marks t) (length one.children) marked.within)
    where
      within_or : (a b : ℕ) → a ≤ b → (a ≡ b) ⊎ (a < b)
      within_or a b l = grind arith

      marked : IsMarked tasks marks Nobody Nobody t one
      marked = m.marked t one e

      go : (slice_index marks t ≡ length one.children) ⊎ (slice_index marks t < length one.children) → slice_index marks t ≡ length one.children
      go (inl w) = w
      go (inr l) =
          let child = there_is one.children (slice_index marks t) l in
          let s : is_settled tasks marks child.0.0 ≡ true = each (slice_index marks t) child.0.0 child.1 in
          let n : is_settled tasks marks child.0.0 ≡ false = sure (marked.before child.0.0 child.1) in
          cc

  pub settled_when : {t : ℕ} → IsComplete tasks t → is_settled tasks marks t ≡ true
  settled_when (complete {t = t} one e closed each) = settled_if tasks marks t one e closed (at_mark t one e (λ k c f. settled_when (each k c f)))

  pub settled_complete_is : (t : ℕ) → (is_settled tasks marks t ≡ true) ↔ IsComplete tasks t
  settled_complete_is t = (complete_if t, settled_when)

  behind_mark : (t : ℕ) (one : Task) → slice_get tasks t ≡ Some one → (k c : ℕ) → k < slice_index marks t → slice_get one.children k ≡ Some (number c) → IsComplete tasks c
  behind_mark t one e k c l f = complete_if c (sure ((m.marked t one e).behind k c l f))

  -- what stands at the mark of a task is its first child that is left
  pub first_left : (t : ℕ) (one : Task) → slice_get tasks t ≡ Some one → (mark : ℕ) → mark ≡ slice_index marks t → (r : Option TaskNo) → r ≡ slice_get one.children mark → MatchOption r (AreChildrenComplete tasks t) (λ child. IsFirstUnfinished tasks t child.0)
  first_left t one e mark w None f = λ other g k c h.
      let here : slice_get one.children k ≡ Some (number c) = ap (λ (x : Task). slice_get x.children k) (some_is e g) ∙ h in
      let past = none_from one.children mark (sym f) in
      let within = slice_get_within one.children k (number c) here in
      behind_mark t one e k c (omega (arith, past, within, w)) here
  first_left t one e mark w (Some child) f =
      record {
        creator = one;
        at_ = e;
        place = mark;
        is = sym f;
        left = λ h. let s : is_settled tasks marks child.0 ≡ true = settled_when h in
            let n : is_settled tasks marks child.0 ≡ false = sure ((m.marked t one e).before child.0 (ap (slice_get one.children) (sym w) ∙ sym f)) in
            true_not (sym s ∙ n);
        first = λ k c l g. behind_mark t one e k c (omega (arith, w, l)) g;
      }
