-- By the notes of a run one event waits for another just where it does in the run.
use Rattle.std.proofs.Common.{◌≡◌, ◌<◌, ◌⊎◌, inl, inr, refl, sym, subst, ap, ◌∙◌, ℕ, suc, true, false, List, ◌∷◌, Option, Some, None, arith}
use Rattle.std.specs.Prelude.{nat_eq, not, ◌||◌, ◌&&◌}
use Rattle.std.proofs.lemmas.Bool.Decides.{nat_tests}
use Rattle.oss_syntax.specs.declared.access.Access.{Access}
use Rattle.oss_syntax.specs.declared.access.Mode.{Mode}
use Rattle.oss_syntax.specs.declared.access.Mode.TheVariants.{Read, Write, Fold}
use Rattle.oss_syntax.specs.declared.access.Op.{Op}
use Rattle.oss_syntax.specs.declared.access.Op.TheVariants.{Add, And, Or, Xor}
use Rattle.oss_model.specs.Agreement.{MainStarts}
use Rattle.oss_model.specs.Bodies.{Act, Order, Program, Start}
use Rattle.oss_model.specs.Bodies.Act.{Awaited, Created, Waited}
use Rattle.oss_model.specs.Forest.{IsRead}
use Rattle.oss_model.specs.History.{IsMade}
use Rattle.oss_model.specs.Machine.{At, State, Task}
use Rattle.oss_model.specs.Order.{IsSuffix, written}
use Rattle.oss_model.specs.Rights.{op_eq}
use Rattle.oss_model.proofs.JudgeLemmas.{op_eq_is}
use Rattle.oss_model.proofs.TreeLemmas.{task_above}
use Rattle.oss_chain_laws.specs.Happenings.{Happening, Acting, Does, EndsWith, IsLeft, last_act, WaitsFor, follows, begins, waits, awaits}
use Rattle.oss_span_check.specs.declared.note.Made.{Made}
use Rattle.oss_span_check.specs.declared.record.Record.{Record}
use Rattle.oss_span_check.specs.declared.sought.Sought.TheVariants as sought
use Rattle.oss_span_check.specs.Points.{below, same_point}
use Rattle.oss_span_check.specs.Queries.{has_at, is_child, is_last, made_of, was_made_before}
use Rattle.oss_span_check.specs.Records.{IsRecord}
use Rattle.oss_span_check.specs.Waiting.{act_waits_act, child_on_way, creates, follows as follows_test, is_change, is_fold, is_folded, is_joined_by, is_made_at, is_newest, is_number, is_read, is_some_fold, is_unfolded, waits_below, waits_for_child}
use Rattle.oss_span_check.proofs.ListLemmas.{and_both, and_parts, give, given, or_left, or_parts, or_right}
use Rattle.oss_span_check.proofs.MadeLemmas.{Begun, HoldsBy, RightAt, access_back, access_child, access_forth, before_back, before_forth, begun, made_back, made_forth, mode_of_right, newest_back, newest_forth, right_back, right_forth}
use Rattle.oss_span_check.proofs.NoteLemmas.{Found, at_found, found_at, is_last_back, is_last_forth}
use Rattle.oss_span_check.proofs.PointLemmas.{below_path, child_is, is_child_of, path_below, same_is, same_self, take_child, written_same}

pub nothing : Happening → ℕ
nothing e = 0

pub read_is : (m : Mode) → not (is_read m) ≡ true → IsRead m → ⊥
read_is Read h k = cc
read_is Write h k = k
read_is (Fold op) h k = k

pub is_no_read : (m : Mode) → (IsRead m → ⊥) → not (is_read m) ≡ true
is_no_read Read h = absurd (h tt)
is_no_read Write h = refl
is_no_read (Fold op) h = refl

op_self : (op : Op) → op_eq op op ≡ true
op_self Add = refl
op_self And = refl
op_self Or = refl
op_self Xor = refl

pub fold_is : (op : Op) (m : Mode) → is_fold op m ≡ true → m ≡ Fold op
fold_is op (Fold other) h = ap (λ (x : Op). Fold x) (sym (op_eq_is op other h))
fold_is op Read h = absurd cc
fold_is op Write h = absurd cc

pub is_the_fold : (op : Op) (m : Mode) → m ≡ Fold op → is_fold op m ≡ true
is_the_fold op m e = ap (λ (x : Mode). is_fold op x) e ∙ op_self op

pub folded_is : (op : Op) (o : Option Access) → is_folded op o ≡ true → (a : Access) × (o ≡ Some a) × (a.mode ≡ Fold op)
folded_is op None h = absurd cc
folded_is op (Some a) h = (a, refl, fold_is op a.mode h)

pub unfolded_is : (op : Op) (o : Option Access) → is_unfolded op o ≡ true → (a : Access) × (o ≡ Some a) × (not (is_fold op a.mode) ≡ true)
unfolded_is op None h = absurd cc
unfolded_is op (Some a) h = (a, refl, h)

some_fold_is : (m : Mode) → is_some_fold m ≡ true → (op : Op) × (m ≡ Fold op)
some_fold_is (Fold op) h = (op, refl)
some_fold_is Read h = absurd cc
some_fold_is Write h = absurd cc

pub joined_is : (o : Option Access) → is_joined_by o ≡ true → (a : Access) × (op : Op) × (o ≡ Some a) × (a.strong ≡ true) × (a.mode ≡ Fold op)
joined_is None h = absurd cc
joined_is (Some a) h = let g = and_parts a.strong (is_some_fold a.mode) h in let m = some_fold_is a.mode g.1 in (a, m.0, refl, g.0, m.1)

pub change_is : (o : Option Access) → is_change o ≡ true → (a : Access) × (o ≡ Some a) × (not (is_read a.mode) ≡ true)
change_is None h = absurd cc
change_is (Some a) h = (a, refl, h)

pub is_same : (x y : ℕ) → nat_eq x y ≡ true → x ≡ y
is_same x y e = grind (arith, nat_tests)

pub same_eq : (x y : ℕ) → x ≡ y → nat_eq x y ≡ true
same_eq x y e = grind (arith, nat_tests)

pub number_is : (o : Option ℕ) (d : ℕ) → is_number o d ≡ true → o ≡ Some d
number_is None d h = absurd cc
number_is (Some m) d h = ap (λ (x : ℕ). Some x) (is_same m d h)

pub is_the_number : (o : Option ℕ) (d : ℕ) → o ≡ Some d → is_number o d ≡ true
is_the_number o d e = ap (λ (x : Option ℕ). is_number x d) e ∙ same_eq d d refl

module _ {S : Type 0} (P : Program S) (main : Start S) (s : State S) (ms : MainStarts main) (made : IsMade P main s) (ended : (p : List ℕ) (u : Task S) → At s p u → (n : ℕ) × EndsWith P s p n) (r : Record) (so : IsRecord P s r) where
  pub found_of : (kind : _) (p : List ℕ) (n : ℕ) → has_at r.notes kind (written p) n ≡ true → Found P main s made ended r so kind p n
  found_of kind p n e = at_found P main s made ended r so kind p n e

  -- waits for tasks below

  -- the act waits for the child and all below it
  pub data WaitsForChild (p : List ℕ) (n i : ℕ) : Type 0 where
    by_wait : {k : ℕ} → Does P s p n k Waited → i < k → WaitsForChild p n i
    by_await : Does P s p n (suc i) Awaited → WaitsForChild p n i

  child_forth : (p : List ℕ) (n i : ℕ) → waits_for_child r (written p) n (written (i ∷ p)) ≡ true → WaitsForChild p n i
  child_forth p n i h = go (or_parts (has_at r.notes sought.Wait (written p) n) (has_at r.notes sought.Await (written p) n && is_newest r.made (written p) (written (i ∷ p)) n) g.1)
    where
      g : (was_made_before r.made (written (i ∷ p)) n ≡ true) × ((has_at r.notes sought.Wait (written p) n || (has_at r.notes sought.Await (written p) n && is_newest r.made (written p) (written (i ∷ p)) n)) ≡ true)
      g = and_parts _ _ h

      go : (has_at r.notes sought.Wait (written p) n ≡ true) ⊎ ((has_at r.notes sought.Await (written p) n && is_newest r.made (written p) (written (i ∷ p)) n) ≡ true) → WaitsForChild p n i
      go (inl e) =
          let f = found_of sought.Wait p n e in
          by_wait (subst (λ (a : Act S). Does P s p n f.created a) f.sense f.does) (before_forth P main s ms made r so i f.does g.0).0
      go (inr e) =
          let x = and_parts (has_at r.notes sought.Await (written p) n) (is_newest r.made (written p) (written (i ∷ p)) n) e in
          let f = found_of sought.Await p n x.0 in
          let l = (before_forth P main s ms made r so i f.does g.0).0 in
          by_await (subst (λ (k : ℕ). Does P s p n k Awaited) (newest_forth P main s ms made r so i f.does l x.1) (subst (λ (a : Act S). Does P s p n f.created a) f.sense f.does))

  child_back : (p : List ℕ) (n i : ℕ) (t : Task S) → At s (i ∷ p) t → WaitsForChild p n i → waits_for_child r (written p) n (written (i ∷ p)) ≡ true
  child_back p n i t h (by_wait {k = k} d l) =
      and_both (before_back P main s ms made r so i t d h l) (or_left (has_at r.notes sought.Await (written p) n && is_newest r.made (written p) (written (i ∷ p)) n) (found_at P main s made ended r so sought.Wait p n (record { created = k; act = Waited; does = d; sense = refl })))
  child_back p n i t h (by_await d) =
      and_both (before_back P main s ms made r so i t d h (omega arith))
      (or_right (has_at r.notes sought.Wait (written p) n) (and_both (found_at P main s made ended r so sought.Await p n (record { created = suc i; act = Awaited; does = d; sense = refl })) (newest_back P main s ms made r so t h d)))

  pub record WaitsBelow (p : List ℕ) (n : ℕ) (q : List ℕ) : Type 0 where
    pub child : ℕ
    pub below_it : IsSuffix (child ∷ p) q
    pub waits_for : WaitsForChild p n child

  pub below_forth : (p : List ℕ) (n : ℕ) (q : List ℕ) → waits_below r (written p) n (written q) ≡ true → WaitsBelow p n q
  below_forth p n q h =
      let g = and_parts (below (written p) (written q)) (waits_for_child r (written p) n (child_on_way (written p) (written q))) h in
      let b = below_path p q g.0 in
      record { child = b.number; below_it = b.below; waits_for = child_forth p n b.number (sym (ap (λ (x : List ℕ). waits_for_child r (written p) n x) b.child) ∙ g.1) }

  pub below_back : (p : List ℕ) (n : ℕ) (q : List ℕ) (u : Task S) → At s q u → WaitsBelow p n q → waits_below r (written p) n (written q) ≡ true
  below_back p n q u h w =
      let t = task_above P main s (w.child ∷ p) u made w.below_it h in
      and_both (path_below w.child p w.below_it) (ap (λ (x : List ℕ). waits_for_child r (written p) n x) (take_child w.child p w.below_it) ∙ child_back p n w.child t.0 t.1 w.waits_for)

  pub left_waits : {p q : List ℕ} {n : ℕ} {f : Happening} → WaitsBelow p n q → IsLeft P s q f → WaitsFor P s (Acting p n) f
  left_waits {p = p} {q = q} {n = n} {f = f} w k = go w.waits_for w.below_it
    where
      go : {i : ℕ} → WaitsForChild p n i → IsSuffix (i ∷ p) q → WaitsFor P s (Acting p n) f
      go (by_wait d l) b = waits d l b k
      go (by_await d) b = awaits d b k

  -- an act for an act

  follows_forth : (p : List ℕ) (n : ℕ) (q : List ℕ) (m k : ℕ) (a : Act S) → Does P s p n k a → follows_test (written p) n (written q) m ≡ true → WaitsFor P s (Acting p n) (Acting q m)
  follows_forth p n q m k a d h =
      let g = and_parts (same_point (written p) (written q)) (nat_eq n (suc m)) h in
      let e : p ≡ q = written_same p q (same_is {p = written p} {q = written q} g.0) in
      let l : n ≡ suc m = is_same n (suc m) g.1 in
      subst (λ (x : List ℕ). WaitsFor P s (Acting p n) (Acting x m)) e (subst (λ (x : ℕ). WaitsFor P s (Acting p x) (Acting p m)) (sym l) (follows (subst (λ (x : ℕ). Does P s p x k a) l d)))

  begins_forth : (p : List ℕ) (q : List ℕ) (m k : ℕ) (a : Act S) → Does P s p 0 k a → creates r (written p) (written q) m ≡ true → WaitsFor P s (Acting p 0) (Acting q m)
  begins_forth p q m k a d h =
      let x = made_forth P main s ms made r so p b.0 b.1 in
      on x.told.number x.told.path x.told.order x.path_is (subst (λ (i : ℕ). Does P s x.told.path i x.told.number (Created x.told.order false)) (is_same b.0.number m b.2) x.told.does)
    where
      g : (is_child (written q) (written p) ≡ true) × (is_made_at r.made (written p) m ≡ true)
      g = and_parts _ _ h

      b : (y : Made) × (made_of r.made (written p) ≡ Some y) × (nat_eq y.number m ≡ true)
      b = given (made_of r.made (written p)) (λ y. nat_eq y.number m) g.1

      on : (j : ℕ) (o : List ℕ) (order : Order S) → p ≡ j ∷ o → Does P s o m j (Created order false) → WaitsFor P s (Acting p 0) (Acting q m)
      on j o order e c =
          let f : q ≡ o = is_child_of j q o (ap (λ (x : List ℕ). is_child (written q) (written x)) (sym e) ∙ g.0) in
          subst (λ (x : List ℕ). WaitsFor P s (Acting x 0) (Acting q m)) (sym e)
          (subst (λ (x : List ℕ). WaitsFor P s (Acting (j ∷ o) 0) (Acting x m)) (sym f) (begins c (subst (λ (x : List ℕ). Does P s x 0 k a) e d)))

  pub act_act_forth : (p : List ℕ) (n : ℕ) (q : List ℕ) (m k : ℕ) (a : Act S) → Does P s p n k a → act_waits_act r (written p) n (written q) m ≡ true → WaitsFor P s (Acting p n) (Acting q m)
  act_act_forth p n q m k a d h = go (or_parts _ _ h)
    where
      last : ((nat_eq n 0 && creates r (written p) (written q) m) ≡ true) ⊎ ((waits_below r (written p) n (written q) && is_last r.notes (written q) m) ≡ true) → WaitsFor P s (Acting p n) (Acting q m)
      last (inl e) =
          let g = and_parts (nat_eq n 0) (creates r (written p) (written q) m) e in
          let z = is_same n 0 g.0 in
          subst (λ (x : ℕ). WaitsFor P s (Acting p x) (Acting q m)) (sym z) (begins_forth p q m k a (subst (λ (x : ℕ). Does P s p x k a) z d) g.1)
      last (inr e) =
          let g = and_parts (waits_below r (written p) n (written q)) (is_last r.notes (written q) m) e in
          left_waits (below_forth p n q g.0) (last_act (is_last_forth P main s made ended r so q m g.1))

      go : (follows_test (written p) n (written q) m ≡ true) ⊎ (((nat_eq n 0 && creates r (written p) (written q) m) || (waits_below r (written p) n (written q) && is_last r.notes (written q) m)) ≡ true) → WaitsFor P s (Acting p n) (Acting q m)
      go (inl e) = follows_forth p n q m k a d e
      go (inr e) = last (or_parts _ _ e)

  last_waits : (p : List ℕ) (n : ℕ) (q : List ℕ) (m : ℕ) → WaitsBelow p n q → EndsWith P s q m → act_waits_act r (written p) n (written q) m ≡ true
  last_waits p n q m w e =
      or_right (follows_test (written p) n (written q) m) (or_right (nat_eq n 0 && creates r (written p) (written q) m)
      (and_both (below_back p n q e.task e.at_ w) (is_last_back P main s made ended r so q m e)))

  pub act_act_back : (p : List ℕ) (n : ℕ) (q : List ℕ) (m : ℕ) → WaitsFor P s (Acting p n) (Acting q m) → act_waits_act r (written p) n (written q) m ≡ true
  act_act_back p n q m (follows d) = or_left _ (and_both (same_self (written p)) (same_eq n (suc m) refl))
  act_act_back p n q m (begins {k = k} {o = o} d b) =
      let x = made_back P main s ms made r so k q b.task b.at_ in
      let y = begun P main s ms made r so k q x.0 x.1 in
      or_right (follows_test (written (k ∷ q)) 0 (written q) m) (or_left _
      (and_both (same_eq 0 0 refl) (and_both (child_is k q) (give (made_of r.made (written (k ∷ q))) (λ z. nat_eq z.number m) x.0 x.1 (same_eq x.0.number m (one_creation y.does d))))))
    where
      one_creation : {i j l : ℕ} {o u : Order S} → Does P s q i l (Created o false) → Does P s q j l (Created u false) → i ≡ j
      one_creation {i = i} {j = j} c e = go (which i j)
        where
          which : (a b : ℕ) → (a < b) ⊎ (a ≡ b) ⊎ (b < a)
          which a b = grind arith

          go : (i < j) ⊎ (i ≡ j) ⊎ (j < i) → i ≡ j
          go (inl l) = let x = Rattle.oss_span_check.proofs.MadeLemmas.created_less P main s ms made r so c e l in absurd (omega (arith, x))
          go (inr (inl e)) = e
          go (inr (inr l)) = let x = Rattle.oss_span_check.proofs.MadeLemmas.created_less P main s ms made r so e c l in absurd (omega (arith, x))
  act_act_back p n q m (waits {i = i} d l b (last_act e)) = last_waits p n q m (record { child = i; below_it = b; waits_for = by_wait d l }) e
  act_act_back p n q m (awaits {i = i} d b (last_act e)) = last_waits p n q m (record { child = i; below_it = b; waits_for = by_await d }) e
