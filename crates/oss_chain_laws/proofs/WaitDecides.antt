-- Whether one event waits for another can be found out of the tasks of a state that is reached.
use Rattle.std.proofs.Common.{◌≡◌, ◌≢◌, ℕ, zero, suc, ◌<◌, ◌≤◌, ◌⊎◌, inl, inr, refl, sym, subst, ap, ◌∙◌, arith, List, [], ◌∷◌, length, Bool, true, false, None}
use Rattle.oss_syntax.specs.declared.access.Op.{Op}
use Rattle.oss_syntax.specs.declared.access.Mode.{Mode}
use Rattle.oss_syntax.specs.declared.access.Mode.TheVariants.{Read, Write, Fold}
use Rattle.oss_model.specs.Order.{IsSuffix, whole, longer}
use Rattle.oss_model.specs.Forest.{IsRead}
use Rattle.oss_model.specs.Rights.{Right, NoRight, Released, Holds}
use Rattle.oss_model.specs.Context.{in_clauses, right_of}
use Rattle.oss_model.specs.Bodies.{Order, Program, Act, Start, stage_act, stage_created}
use Rattle.oss_model.specs.Bodies.Act.{Created, Awaited, Waited, WaitedOn, Over, Ticked, Load, Store, Folded, Releases, Printed, Ended, Fault}
use Rattle.oss_model.specs.Machine.{Task, State, At, find, HasAccess, mode_in}
use Rattle.oss_model.specs.History.{IsMade}
use Rattle.oss_model.specs.Moves.{created_now, is_ended}
use Rattle.oss_model.proofs.MoveLemmas.{which_path, is_creation}
use Rattle.oss_model.proofs.OrderLemmas.{suffix_length, which}
use Rattle.oss_model.proofs.TreeLemmas.{at_same, mode_is}
use Rattle.oss_wave_laws.proofs.DecideLemmas.{Decided, below, both, by_iff, either, has_access, if_not, if_then, is_it, is_less, is_mode, is_number, is_right, is_there, not_there}
use Rattle.oss_chain_laws.specs.Happenings.{Happening, Acting, Giving, Does, StartsWith, EndsWith, IsLeft, last_act, last_cell, Frees, WaitsFor, follows, begins, reads, writes, waits, awaits, waits_on, released, ends, ends_below, joins}
use Rattle.oss_chain_laws.specs.Pass.{is_fold_of}
use Rattle.oss_chain_laws.specs.Tables.{GivenWith, given_with, GivenBelow, given_below, ChangedBelow, changed_below, LeftWith, left_with, LeftBelow, left_below, InWriteWay, in_write_way, InReadWay, in_read_way, InJoinWay, InActWay, JustBefore, act_before, creation_before, InTurnWay, turn_way, read_way, write_way, InFreeWay, in_free_way, InEndWay, in_end_way, InKeepWay, end_way, wait_way, join_way, BeforeRun, before_run}
use Rattle.oss_chain_laws.proofs.CheckLemmas.{at_or_below}
use Rattle.oss_chain_laws.proofs.PassTheorem.{above_access, above_mode, fold_above}
use Rattle.oss_chain_laws.proofs.RunTableLemmas.{IsRunFrom, join_top_forth, join_top_back, join_fold_forth, join_fold_back, join_write_forth, join_write_back}
use Rattle.oss_chain_laws.proofs.TableLemmas.{act_back, act_forth, free_back, free_forth, keep_back, keep_forth, read_back, read_forth, read_top_back, read_top_forth, write_back, write_forth, write_top_back, write_top_forth}
use Rattle.oss_chain_laws.proofs.ValueLemmas.{Releasing, releasing}
use Rattle.oss_chain_laws.proofs.WaitLemmas.{does_same, under}

-- where a second claim can be told once the first one holds
pub both_then : {A B : Type 0} → Decided A → (A → Decided B) → Decided (A × B)
both_then (inl a) d = by_iff (λ b. (a, b)) (λ x. x.1) (d a)
both_then (inr h) d = inr (λ x. h x.0)

-- a claim of some number below one
last_number : (i n : ℕ) → i < suc n → (i < n) ⊎ (i ≡ n)
last_number i n l = grind (arith, l)

some_below : (F : ℕ → Type 0) (n : ℕ) → ((i : ℕ) → Decided (F i)) → Decided ((i : ℕ) × (i < n) × F i)
some_below F zero d = inr (λ h. let l = h.1 in omega (arith, l))
some_below F (suc n) d = by_iff forth (λ h. back h.0 (last_number h.0 n h.1) h.2) (either (some_below F n d) (d n))
  where
    forth : ((i : ℕ) × (i < n) × F i) ⊎ F n → (i : ℕ) × (i < suc n) × F i
    forth (inl h) = let l = h.1 in (h.0, omega (arith, l), h.2)
    forth (inr f) = (n, omega arith, f)

    back : (i : ℕ) → (i < n) ⊎ (i ≡ n) → F i → ((i : ℕ) × (i < n) × F i) ⊎ F n
    back i (inl l) f = inl (i, l, f)
    back i (inr e) f = inr (subst F e f)

-- whether a list is the end of another
pub suffix_cases : (xs ys : List ℕ) (y : ℕ) → IsSuffix xs (y ∷ ys) → (xs ≡ y ∷ ys) ⊎ IsSuffix xs ys
suffix_cases xs ys y whole = inl refl
suffix_cases xs ys y (longer h) = inr h

pub suffix_none : (xs : List ℕ) → IsSuffix xs [] → xs ≡ []
suffix_none xs whole = refl

pub is_suffix : (xs ys : List ℕ) → Decided (IsSuffix xs ys)
is_suffix xs [] = by_iff (λ e. subst (λ (zs : List ℕ). IsSuffix zs []) (sym e) whole) (suffix_none xs) (which_path xs [])
is_suffix xs (y ∷ ys) = by_iff forth (suffix_cases xs ys y) (either (which_path xs (y ∷ ys)) (is_suffix xs ys))
  where
    forth : (xs ≡ y ∷ ys) ⊎ IsSuffix xs ys → IsSuffix xs (y ∷ ys)
    forth (inl e) = subst (λ (zs : List ℕ). IsSuffix zs (y ∷ ys)) (sym e) whole
    forth (inr h) = longer h

is_read : (m : Mode) → Decided (IsRead m)
is_read Read = inl tt
is_read Write = inr (λ h. h)
is_read (Fold op) = inr (λ h. h)

-- the answers behind so many
record Past (n : ℕ) (xs : List ℕ) : Type 0 where
  pub answer : ℕ
  pub past : List ℕ
  pub done_ : IsSuffix (answer ∷ past) xs
  pub number_is : length past ≡ n

past_of : (n : ℕ) (xs : List ℕ) → Past n xs ⊎ (length xs ≤ n)
past_of n [] = inr (omega arith)
past_of n (v ∷ xs) = go (which (length xs) n) (past_of n xs)
  where
    go : (length xs < n) ⊎ (length xs ≡ n) ⊎ (n < length xs) → Past n xs ⊎ (length xs ≤ n) → Past n (v ∷ xs) ⊎ (length (v ∷ xs) ≤ n)
    go (inl l) r = inr (omega (arith, l))
    go (inr (inl e)) r = inl (record { answer = v; past = xs; done_ = whole; number_is = e })
    go (inr (inr l)) (inl h) = inl (record { answer = h.answer; past = h.past; done_ = longer h.done_; number_is = h.number_is })
    go (inr (inr l)) (inr m) = absurd (omega (arith, l, m))

-- the task of what is left
path_of : Happening → List ℕ
path_of (Acting p n) = p
path_of (Giving p c) = p

module _ {S : Type 0} (P : Program S) (s : State S) where
  -- an act has its number below that of the answers
  pub does_below : (p : List ℕ) (n k : ℕ) (a : Act S) (t : Task S) → At s p t → Does P s p n k a → n < length t.body.found
  does_below p n k a t h d =
      let e : length d.task.body.found ≡ length t.body.found = ap (λ (u : Task S). length u.body.found) (at_same s p d.task t d.at_ h) in
      let l = suffix_length d.done_ in
      let m = d.number_is in
      omega (arith, l, m, e)

  -- the act with a number, if there is one
  pub done_act : (p : List ℕ) (n : ℕ) → ((k : ℕ) × (a : Act S) × Does P s p n k a) ⊎ ((k : ℕ) (a : Act S) → Does P s p n k a → ⊥)
  done_act p n = go (is_there P s p)
    where
      by_past : (t : Task S) → At s p t → Past n t.body.found ⊎ (length t.body.found ≤ n) → ((k : ℕ) × (a : Act S) × Does P s p n k a) ⊎ ((k : ℕ) (a : Act S) → Does P s p n k a → ⊥)
      by_past t h (inl x) = inl (
        stage_created P t.body.start x.past,
        stage_act P t.body.start x.past,
        record { task = t; at_ = h; past = x.past; answer = x.answer; done_ = x.done_; number_is = x.number_is; created_is = refl; act_is = refl },
      )
      by_past t h (inr m) = inr (λ k a d. let l = does_below p n k a t h d in omega (arith, l, m))

      go : ((t : Task S) × At s p t) ⊎ (find s.tasks p ≡ None) → ((k : ℕ) × (a : Act S) × Does P s p n k a) ⊎ ((k : ℕ) (a : Act S) → Does P s p n k a → ⊥)
      go (inl t) = by_past t.0 t.1 (past_of n t.0.body.found)
      go (inr e) = inr (λ k a d. not_there P s p d.task e d.at_)

  starts_with : (p : List ℕ) (c : ℕ) (m : Mode) (strong : Bool) → Decided (StartsWith s p c (Holds m strong))
  starts_with p c m strong = go (is_there P s p)
    where
      go : ((t : Task S) × At s p t) ⊎ (find s.tasks p ≡ None) → Decided (StartsWith s p c (Holds m strong))
      go (inl t) =
          by_iff (λ e. record { task = t.0; at_ = t.1; right_is = e }) (λ r. subst (λ (u : Task S). right_of u.body.start.context c ≡ Holds m strong) (at_same s p r.task t.0 r.at_ t.1) r.right_is)
          (is_right (right_of t.0.body.start.context c) m strong)
      go (inr e) = inr (λ r. not_there P s p r.task e r.at_)

  starts_access : {p : List ℕ} {c : ℕ} {m : Mode} {strong : Bool} → StartsWith s p c (Holds m strong) → HasAccess s c p
  starts_access {m = m} {strong = strong} r = record { task = r.task; at_ = r.at_; mode = m; strong = strong; right = r.right_is }

  starts_mode : {p : List ℕ} {c : ℕ} {m : Mode} {strong : Bool} → StartsWith s p c (Holds m strong) → mode_in (find s.tasks p) c ≡ m
  starts_mode {p = p} {c = c} {m = m} {strong = strong} r = mode_is s c p m (record { task = r.task; at_ = r.at_; strong = strong; right = r.right_is })

  -- and whether with that of some strong reduction
  one_fold : {p : List ℕ} {c : ℕ} {op other : Op} → StartsWith s p c (Holds (Fold op) true) → StartsWith s p c (Holds (Fold other) true) → op ≡ other
  one_fold {p = p} {c = c} {op = op} {other = other} x y = fold_op op other (sym (subst (λ (u : Task S). right_of u.body.start.context c ≡ Holds (Fold op) true) (at_same s p x.task y.task x.at_ y.at_) x.right_is) ∙ y.right_is)
    where
      fold_op : (a b : Op) → Holds (Fold a) true ≡ Holds (Fold b) true → a ≡ b
      fold_op a b e = cc

  pub starts_fold : (p : List ℕ) (c : ℕ) → Decided ((op : Op) × StartsWith s p c (Holds (Fold op) true))
  starts_fold p c = go (is_there P s p)
    where
      right_is : (t : Task S) → At s p t → (op : Op) → StartsWith s p c (Holds (Fold op) true) → right_of t.body.start.context c ≡ Holds (Fold op) true
      right_is t h op x = subst (λ (u : Task S). right_of u.body.start.context c ≡ Holds (Fold op) true) (at_same s p x.task t x.at_ h) x.right_is

      none : (t : Task S) → At s p t → (r : Right) → right_of t.body.start.context c ≡ r → ((op : Op) → r ≢ Holds (Fold op) true) → Decided ((op : Op) × StartsWith s p c (Holds (Fold op) true))
      none t h r e other = inr (λ x. other x.0 (sym e ∙ right_is t h x.0 x.1))

      told : (t : Task S) → At s p t → (r : Right) → right_of t.body.start.context c ≡ r → Decided ((op : Op) × StartsWith s p c (Holds (Fold op) true))
      told t h NoRight e = none t h NoRight e (λ op i. cc)
      told t h Released e = none t h Released e (λ op i. cc)
      told t h (Holds Read b) e = none t h (Holds Read b) e (λ op i. cc)
      told t h (Holds Write b) e = none t h (Holds Write b) e (λ op i. cc)
      told t h (Holds (Fold op) false) e = none t h (Holds (Fold op) false) e (λ q i. cc)
      told t h (Holds (Fold op) true) e = inl (op, record { task = t; at_ = h; right_is = e })

      go : ((t : Task S) × At s p t) ⊎ (find s.tasks p ≡ None) → Decided ((op : Op) × StartsWith s p c (Holds (Fold op) true))
      go (inl t) = told t.0 t.1 (right_of t.0.body.start.context c) refl
      go (inr e) = inr (λ x. not_there P s p x.1.task e x.1.at_)

  ends_with : (p : List ℕ) (n : ℕ) → Decided (EndsWith P s p n)
  ends_with p n = go (is_there P s p)
    where
      parts : (t : Task S) → At s p t → EndsWith P s p n → (is_ended P t.body ≡ true) × (length t.body.found ≡ suc n)
      parts t h e = let q = at_same s p e.task t e.at_ h in (subst (λ (u : Task S). is_ended P u.body ≡ true) q e.ended, subst (λ (u : Task S). length u.body.found ≡ suc n) q e.number_is)

      go : ((t : Task S) × At s p t) ⊎ (find s.tasks p ≡ None) → Decided (EndsWith P s p n)
      go (inl t) = by_iff (λ k. record { task = t.0; at_ = t.1; ended = k.0; number_is = k.1 }) (λ e. parts t.0 t.1 e) (both (is_it (is_ended P t.0.body) true) (is_number (length t.0.body.found) (suc n)))
      go (inr e) = inr (λ r. not_there P s p r.task e r.at_)

  -- what tasks leave
  left_act : {q p : List ℕ} {n : ℕ} → IsLeft P s q (Acting p n) → EndsWith P s p n
  left_act (last_act e) = e

  left_cell : {q p : List ℕ} {c : ℕ} → IsLeft P s q (Giving p c) → HasAccess s c p
  left_cell (last_cell a) = a

  own_left : (f : Happening) → Decided (IsLeft P s (path_of f) f)
  unfolding path_of
  own_left (Acting p n) = by_iff (λ e. last_act e) (λ h. left_act h) (ends_with p n)
  own_left (Giving p c) = by_iff (λ a. last_cell a) (λ h. left_cell h) (has_access P s c p)

  left_path : {w : List ℕ} {f : Happening} → IsLeft P s w f → w ≡ path_of f
  unfolding path_of
  left_path (last_act e) = refl
  left_path (last_cell a) = refl

  is_left_with : (u : List ℕ) (f : Happening) → Decided (LeftWith P s u f)
  is_left_with u f = by_iff (λ h. left_with h.0 h.1) (λ h. parts h) (both (is_suffix u (path_of f)) (own_left f))
    where
      parts : LeftWith P s u f → IsSuffix u (path_of f) × IsLeft P s (path_of f) f
      parts (left_with b left) = let e = left_path left in (subst (λ (w : List ℕ). IsSuffix u w) e b, subst (λ (w : List ℕ). IsLeft P s w f) e left)

  is_left_below : (q : List ℕ) (m : ℕ) (f : Happening) → Decided (LeftBelow P s q m f)
  is_left_below q m f = by_iff (λ h. left_below h.0 h.1 h.2) (λ h. parts h) (some_below (λ i. LeftWith P s (i ∷ q) f) m (λ i. is_left_with (i ∷ q) f))
    where
      parts : LeftBelow P s q m f → (i : ℕ) × (i < m) × LeftWith P s (i ∷ q) f
      parts (left_below i l h) = (i, l, h)

  -- a release
  is_freed_by : (p : List ℕ) (c n : ℕ) → Decided (Frees P s p c n)
  is_freed_by p c n = go (done_act p n)
    where
      by_test : Releasing P s (λ e. 0) p n → Decided (Frees P s p c n)
      by_test r = told (is_it (r.test c) true)
        where
          other : (b : Bool) → (b ≡ true → ⊥) → b ≡ false
          other true h = absurd (h refl)
          other false h = refl

          told : Decided (r.test c ≡ true) → Decided (Frees P s p c n)
          told (inl e) = inl (r.frees c e)
          told (inr h) = inr (r.keeps c (other (r.test c) h))

      go : ((k : ℕ) × (a : Act S) × Does P s p n k a) ⊎ ((k : ℕ) (a : Act S) → Does P s p n k a → ⊥) → Decided (Frees P s p c n)
      go (inl (k, a, d)) = by_test (releasing P s (λ e. 0) p n k a d)
      go (inr none) = inr (λ f. none f.created (Releases f.clauses false) f.does)

  some_free : (p : List ℕ) (c : ℕ) → ((n : ℕ) × Frees P s p c n) ⊎ ((n : ℕ) → Frees P s p c n → ⊥)
  some_free p c = go (is_there P s p)
    where
      told : (t : Task S) → At s p t → Decided ((n : ℕ) × (n < length t.body.found) × Frees P s p c n) → ((n : ℕ) × Frees P s p c n) ⊎ ((n : ℕ) → Frees P s p c n → ⊥)
      told t h (inl x) = inl (x.0, x.2)
      told t h (inr none) = inr (λ n f. none (n, does_below p n f.created (Releases f.clauses false) t h f.does, f))

      go : ((t : Task S) × At s p t) ⊎ (find s.tasks p ≡ None) → ((n : ℕ) × Frees P s p c n) ⊎ ((n : ℕ) → Frees P s p c n → ⊥)
      go (inl t) = told t.0 t.1 (some_below (λ n. Frees P s p c n) (length t.0.body.found) (λ n. is_freed_by p c n))
      go (inr e) = inr (λ n f. not_there P s p f.does.task e f.does.at_)

  free_parts : {p q : List ℕ} {c n : ℕ} → InFreeWay P s p c (Acting q n) → (p ≡ q) × Frees P s p c n
  free_parts (in_free_way d) = (refl, d)

  is_in_free_way : (p : List ℕ) (c : ℕ) (f : Happening) → Decided (InFreeWay P s p c f)
  is_in_free_way p c (Acting q n) = by_iff (λ h. subst (λ (w : List ℕ). InFreeWay P s p c (Acting w n)) h.0 (in_free_way h.1)) (λ h. free_parts h) (both (which_path p q) (is_freed_by p c n))
  is_in_free_way p c (Giving q d) = inr (λ h. elim h [ ])

  end_parts : {p q : List ℕ} {n : ℕ} → InEndWay P s p (Acting q n) → (p ≡ q) × EndsWith P s p n
  end_parts (in_end_way d) = (refl, d)

  is_in_end_way : (p : List ℕ) (f : Happening) → Decided (InEndWay P s p f)
  is_in_end_way p (Acting q n) = by_iff (λ h. subst (λ (w : List ℕ). InEndWay P s p (Acting w n)) h.0 (in_end_way h.1)) (λ h. end_parts h) (both (which_path p q) (ends_with p n))
  is_in_end_way p (Giving q d) = inr (λ h. elim h [ ])

  -- the creation of a task
  is_made_by : (k : ℕ) (p : List ℕ) (n : ℕ) → Decided ((o : Order S) × Does P s p n k (Created o false))
  is_made_by k p n = go (done_act p n)
    where
      by_act : (j : ℕ) (a : Act S) → Does P s p n j a → ((o : Order S) × (a ≡ Created o false)) ⊎ ((o : Order S) → a ≢ Created o false) → Decided ((o : Order S) × Does P s p n k (Created o false))
      by_act j a d (inl (o, e)) = by_iff (λ q. (o, subst (λ (z : ℕ). Does P s p n z (Created o false)) q (subst (λ (z : Act S). Does P s p n j z) e d))) (λ h. (does_same P s d h.1).0) (is_number j k)
      by_act j a d (inr none) = inr (λ h. none h.0 (does_same P s d h.1).1)

      go : ((j : ℕ) × (a : Act S) × Does P s p n j a) ⊎ ((j : ℕ) (a : Act S) → Does P s p n j a → ⊥) → Decided ((o : Order S) × Does P s p n k (Created o false))
      go (inl (j, a, d)) = by_act j a d (is_creation a)
      go (inr none) = inr (λ h. none k (Created h.0 false) h.1)

  later_parts : {p q : List ℕ} {n m : ℕ} → JustBefore P s p (suc n) (Acting q m) → (p ≡ q) × (n ≡ m)
  later_parts act_before = (refl, refl)

  first_parts : {k : ℕ} {p q : List ℕ} {m : ℕ} → JustBefore P s (k ∷ p) zero (Acting q m) → (p ≡ q) × ((o : Order S) × Does P s p m k (Created o false))
  first_parts (creation_before o d) = (refl, (o, d))

  is_just_before : (p : List ℕ) (n : ℕ) (f : Happening) → Decided (JustBefore P s p n f)
  is_just_before p (suc n) (Acting q m) = by_iff (λ e. forth e.0 e.1) (λ h. later_parts h) (both (which_path p q) (is_number n m))
    where
      forth : p ≡ q → n ≡ m → JustBefore P s p (suc n) (Acting q m)
      forth e f = subst (λ (w : List ℕ). JustBefore P s p (suc n) (Acting w m)) e (subst (λ (z : ℕ). JustBefore P s p (suc n) (Acting p z)) f act_before)
  is_just_before (k ∷ p) zero (Acting q m) = by_iff (λ e. subst (λ (w : List ℕ). JustBefore P s (k ∷ p) zero (Acting w m)) e.0 (creation_before e.1.0 e.1.1)) (λ h. first_parts h) (both (which_path p q) (is_made_by k p m))
  is_just_before [] zero (Acting q m) = inr (λ h. elim h [ ])
  is_just_before [] zero (Giving q c) = inr (λ h. elim h [ ])
  is_just_before (k ∷ p) zero (Giving q c) = inr (λ h. elim h [ ])
  is_just_before [] (suc n) (Giving q c) = inr (λ h. elim h [ ])
  is_just_before (k ∷ p) (suc n) (Giving q c) = inr (λ h. elim h [ ])

module _ {S : Type 0} (P : Program S) (main : Start S) (s : State S) (made : IsMade P main s) where
  creator_access : (c k : ℕ) (p : List ℕ) → HasAccess s c (k ∷ p) → HasAccess s c p
  creator_access c k p a = above_access P main s made (λ e. 0) c k p a

  -- what tasks give up of a cell
  given_parts : {c : ℕ} {u w : List ℕ} {d : ℕ} → GivenWith s c u (Giving w d) → (c ≡ d) × (HasAccess s c u × (IsSuffix u w × HasAccess s c w))
  given_parts {c = c} (given_with a b) = let r = under P s c b a in (refl, (a, (r.0, r.1)))

  is_given_with : (c i : ℕ) (q : List ℕ) (f : Happening) → Decided (GivenWith s c (i ∷ q) f)
  is_given_with c i q (Acting w n) = inr (λ h. elim h [ ])
  is_given_with c i q (Giving w d) =
      by_iff (λ h. subst (λ (z : ℕ). GivenWith s c (i ∷ q) (Giving w z)) h.0 (given_with h.1.0 (at_or_below P main s made (λ e. 0) c i q h.1.1.0 h.1.1.1))) (λ h. given_parts h)
      (both (is_number c d) (both (has_access P s c (i ∷ q)) (both (is_suffix (i ∷ q) w) (has_access P s c w))))

  is_given_below : (c : ℕ) (q : List ℕ) (m : ℕ) (f : Happening) → Decided (GivenBelow s c q m f)
  is_given_below c q m f = by_iff (λ h. given_below h.0 h.1 h.2) (λ h. parts h) (some_below (λ i. GivenWith s c (i ∷ q) f) m (λ i. is_given_with c i q f))
    where
      parts : GivenBelow s c q m f → (i : ℕ) × (i < m) × GivenWith s c (i ∷ q) f
      parts (given_below i l h) = (i, l, h)

  given_cell : {c d : ℕ} {p q : List ℕ} {m : ℕ} → GivenBelow s c p m (Giving q d) → c ≡ d
  given_cell (given_below i l h) = (given_parts h).0

  is_changed_below : (c : ℕ) (q : List ℕ) (m : ℕ) (f : Happening) → Decided (ChangedBelow s c q m f)
  is_changed_below c q m f =
      by_iff (λ h. changed_below h.0 h.1 h.2.0 h.2.1) (λ h. parts h)
      (some_below (λ i. (IsRead (mode_in (find s.tasks (i ∷ q)) c) → ⊥) × GivenWith s c (i ∷ q) f) m (λ i. both (if_not (is_read (mode_in (find s.tasks (i ∷ q)) c))) (is_given_with c i q f)))
    where
      parts : ChangedBelow s c q m f → (i : ℕ) × (i < m) × ((IsRead (mode_in (find s.tasks (i ∷ q)) c) → ⊥) × GivenWith s c (i ∷ q) f)
      parts (changed_below i l r h) = (i, l, (r, h))

  is_run_from : (c : ℕ) (op : Op) (q : List ℕ) (i m : ℕ) → Decided (IsRunFrom s c op q i m)
  is_run_from c op q i m =
      by_iff (λ f j l k a. f j k l a) (λ f j k l a. f j l k a)
      (below (λ j. i ≤ j → HasAccess s c (j ∷ q) → mode_in (find s.tasks (j ∷ q)) c ≡ Fold op) m (λ j. if_then (is_at_most j) (if_then (has_access P s c (j ∷ q)) (is_mode (mode_in (find s.tasks (j ∷ q)) c) (Fold op)))))
    where
      is_at_most : (j : ℕ) → Decided (i ≤ j)
      is_at_most j = by_iff (λ l. omega (arith, l)) (λ l. omega (arith, l)) (is_less i (suc j))

  is_before_run : (c : ℕ) (op : Op) (q : List ℕ) (m : ℕ) (f : Happening) → Decided (BeforeRun s c op q m f)
  is_before_run c op q m f =
      by_iff (λ h. before_run h.0 h.1 h.2.0 h.2.1) (λ h. parts h) (some_below (λ i. (IsRunFrom s c op q i m → ⊥) × GivenWith s c (i ∷ q) f) m (λ i. both (if_not (is_run_from c op q i m)) (is_given_with c i q f)))
    where
      parts : BeforeRun s c op q m f → (i : ℕ) × (i < m) × ((IsRunFrom s c op q i m → ⊥) × GivenWith s c (i ∷ q) f)
      parts (before_run i l out g) = (i, l, (out, g))

  -- what stands in the way of an access of a task
  is_in_write_way : (c k : ℕ) (p : List ℕ) → HasAccess s c (k ∷ p) → (f : Happening) → Decided (InWriteWay s c (k ∷ p) f)
  is_in_write_way c k [] a f = by_iff (λ h. write_top_back P s c k f h) (λ h. write_top_forth P s c k f h) (is_given_below c [] k f)
  is_in_write_way c k (j ∷ p) a f =
      let u = creator_access c k (j ∷ p) a in
      by_iff (λ h. write_back P s c k j p f u a h) (λ h. write_forth P s c k j p f h) (either (is_given_below c (j ∷ p) k f) (is_in_write_way c j p u f))

  is_in_read_way : (c k : ℕ) (p : List ℕ) → HasAccess s c (k ∷ p) → (f : Happening) → Decided (InReadWay s c (k ∷ p) f)
  is_in_read_way c k [] a f = by_iff (λ h. read_top_back P s c k f h) (λ h. read_top_forth P s c k f h) (is_changed_below c [] k f)
  is_in_read_way c k (j ∷ p) a f =
      let u = creator_access c k (j ∷ p) a in
      by_iff (λ h. read_back P s c k j p f u a h) (λ h. read_forth P s c k j p f h) (either (is_changed_below c (j ∷ p) k f) (is_in_read_way c j p u f))

  is_in_join_way : (c : ℕ) (op : Op) (k : ℕ) (p : List ℕ) → HasAccess s c (k ∷ p) → mode_in (find s.tasks (k ∷ p)) c ≡ Fold op → (f : Happening) → Decided (InJoinWay s c op (k ∷ p) f)
  is_in_join_way c op k [] a m f = by_iff (λ h. join_top_back s c op k f h) (λ h. join_top_forth s c op k f h) (is_before_run c op [] k f)
  is_in_join_way c op k (j ∷ p) a m f = go (fold_above op (mode_in (find s.tasks (j ∷ p)) c) (above_mode P main s made (λ e. 0) c k (j ∷ p) (Fold op) a m)) (λ e. is_in_join_way c op j p (creator_access c k (j ∷ p) a) e f)
    where
      go : ((is_fold_of op (mode_in (find s.tasks (j ∷ p)) c) ≡ true) × (mode_in (find s.tasks (j ∷ p)) c ≡ Fold op)) ⊎ ((is_fold_of op (mode_in (find s.tasks (j ∷ p)) c) ≡ false) × (mode_in (find s.tasks (j ∷ p)) c ≡ Write)) → (mode_in (find s.tasks (j ∷ p)) c ≡ Fold op → Decided (InJoinWay s c op (j ∷ p) f)) → Decided (InJoinWay s c op (k ∷ j ∷ p) f)
      go (inl e) again =
          let u = creator_access c k (j ∷ p) a in
          by_iff (λ h. join_fold_back s c op k j p f u a e.1 h) (λ h. join_fold_forth s c op k j p f e.1 h) (either (is_before_run c op (j ∷ p) k f) (again e.1))
      go (inr e) again =
          let u = creator_access c k (j ∷ p) a in
          by_iff (λ h. join_write_back s c op k j p f u a e.1 h) (λ h. join_write_forth s c op k j p f e.1 h) (either (is_before_run c op (j ∷ p) k f) (is_in_write_way c j p u f))

  -- what an act waits for by its number
  read_cell : {c d : ℕ} {p q : List ℕ} → InReadWay s c p (Giving q d) → c ≡ d
  read_cell (in_read_way n) = refl

  write_cell : {c d : ℕ} {p q : List ℕ} → InWriteWay s c p (Giving q d) → c ≡ d
  write_cell (in_write_way n) = refl

  later_turn : {p : List ℕ} {n : ℕ} {f : Happening} → InTurnWay P s p (suc n) f → JustBefore P s p (suc n) f
  later_turn (turn_way h) = h

  main_turn : {f : Happening} → InTurnWay P s [] zero f → JustBefore P s [] zero f
  main_turn (turn_way h) = h

  first_turn : {p q : List ℕ} {m : ℕ} → InTurnWay P s p zero (Acting q m) → JustBefore P s p zero (Acting q m)
  first_turn (turn_way h) = h
  first_turn (read_way c r w) = elim w [ ]
  first_turn (write_way c r w) = elim w [ ]

  is_in_turn_way : (p : List ℕ) (n : ℕ) (f : Happening) → Decided (InTurnWay P s p n f)
  is_in_turn_way p (suc n) f = by_iff (λ h. turn_way h) (λ h. later_turn h) (is_just_before P s p (suc n) f)
  is_in_turn_way [] zero f = by_iff (λ h. turn_way h) (λ h. main_turn h) (is_just_before P s [] zero f)
  is_in_turn_way (k ∷ p) zero (Acting q m) = by_iff (λ h. turn_way h) (λ h. first_turn h) (is_just_before P s (k ∷ p) zero (Acting q m))
  is_in_turn_way (k ∷ p) zero (Giving q d) =
      by_iff (λ h. forth h) (λ h. parts h)
      (either (both_then (starts_with P s (k ∷ p) d Read true) (λ r. is_in_read_way d k p (starts_access P s r) (Giving q d))) (both_then (starts_with P s (k ∷ p) d Write true) (λ r. is_in_write_way d k p (starts_access P s r) (Giving q d))))
    where
      forth : (StartsWith s (k ∷ p) d (Holds Read true) × InReadWay s d (k ∷ p) (Giving q d)) ⊎ (StartsWith s (k ∷ p) d (Holds Write true) × InWriteWay s d (k ∷ p) (Giving q d)) → InTurnWay P s (k ∷ p) zero (Giving q d)
      forth (inl h) = read_way d h.0 h.1
      forth (inr h) = write_way d h.0 h.1

      parts : InTurnWay P s (k ∷ p) zero (Giving q d) → (StartsWith s (k ∷ p) d (Holds Read true) × InReadWay s d (k ∷ p) (Giving q d)) ⊎ (StartsWith s (k ∷ p) d (Holds Write true) × InWriteWay s d (k ∷ p) (Giving q d))
      parts (turn_way h) = elim h [ ]
      parts (read_way c r w) = let e = read_cell w in inl (subst (λ (z : ℕ). StartsWith s (k ∷ p) z (Holds Read true)) e r, subst (λ (z : ℕ). InReadWay s z (k ∷ p) (Giving q d)) e w)
      parts (write_way c r w) = let e = write_cell w in inr (subst (λ (z : ℕ). StartsWith s (k ∷ p) z (Holds Write true)) e r, subst (λ (z : ℕ). InWriteWay s z (k ∷ p) (Giving q d)) e w)

  -- and as the act that it is
  is_in_act_way : (p : List ℕ) (k : ℕ) (a : Act S) (f : Happening) → Decided (InActWay P s p k a f)
  is_in_act_way p k Waited f = is_left_below P s p k f
  is_in_act_way p zero Awaited f = inr (λ h. let e = h.1 in omega (arith, e))
  is_in_act_way p (suc i) Awaited f = by_iff (λ h. (i, refl, h)) (λ h. parts h.0 h.1 h.2) (is_left_with P s (i ∷ p) f)
    where
      parts : (j : ℕ) → suc i ≡ suc j → LeftWith P s (j ∷ p) f → LeftWith P s (i ∷ p) f
      parts j e h = let g : j ≡ i = omega (arith, e) in subst (λ (z : ℕ). LeftWith P s (z ∷ p) f) g h
  is_in_act_way p k (WaitedOn named) (Acting q m) = inr (λ h. none h.0 h.2)
    where
      none : (c : ℕ) → GivenBelow s c p k (Acting q m) → ⊥
      none c (given_below i l h) = elim h [ ]
  is_in_act_way p k (WaitedOn named) (Giving q d) = by_iff (λ h. (d, h.0, h.1)) (λ h. parts h.0 h.1 h.2) (both (is_it (in_clauses named d) true) (is_given_below d p k (Giving q d)))
    where
      parts : (c : ℕ) → in_clauses named c ≡ true → GivenBelow s c p k (Giving q d) → (in_clauses named d ≡ true) × GivenBelow s d p k (Giving q d)
      parts c m h = let e = given_cell h in (subst (λ (z : ℕ). in_clauses named z ≡ true) e m, subst (λ (z : ℕ). GivenBelow s z p k (Giving q d)) e h)
  is_in_act_way p k Ticked f = inr (λ h. h)
  is_in_act_way p k (Load c) f = inr (λ h. h)
  is_in_act_way p k (Store c v) f = inr (λ h. h)
  is_in_act_way p k (Folded c op v slot) f = inr (λ h. h)
  is_in_act_way p k (Created o included) f = inr (λ h. h)
  is_in_act_way p k (Releases clauses included) f = inr (λ h. h)
  is_in_act_way p k (Printed key text) f = inr (λ h. h)
  is_in_act_way p k Ended f = inr (λ h. h)
  is_in_act_way p k (Fault kind line key) f = inr (λ h. h)
  is_in_act_way p k Over f = inr (λ h. h)

  -- what a cell waits for that a task keeps to its end
  OwnJoin : List ℕ → ℕ → Happening → Type 0
  OwnJoin p c f = (op : Op) × StartsWith s p c (Holds (Fold op) true) × InJoinWay s c op p f

  is_in_own_join : (k : ℕ) (p : List ℕ) (c : ℕ) → HasAccess s c (k ∷ p) → (f : Happening) → Decided (OwnJoin (k ∷ p) c f)
  unfolding OwnJoin
  is_in_own_join k p c a f = go (starts_fold P s (k ∷ p) c)
    where
      go : Decided ((op : Op) × StartsWith s (k ∷ p) c (Holds (Fold op) true)) → Decided (OwnJoin (k ∷ p) c f)
      go (inl (op, x)) = by_iff (λ h. (op, x, h)) (λ h. subst (λ (z : Op). InJoinWay s c z (k ∷ p) f) (one_fold P s h.1 x) h.2) (is_in_join_way c op k p a (starts_mode P s x) f)
      go (inr none) = inr (λ h. none (h.0, h.1))

  is_in_keep_way : (j : ℕ) (p : List ℕ) (c k : ℕ) (wait : Bool) → HasAccess s c (j ∷ p) → (f : Happening) → Decided (InKeepWay P s (j ∷ p) c k wait f)
  unfolding OwnJoin
  is_in_keep_way j p c k wait a f = by_iff (λ h. forth h) (λ h. parts h) (either (is_in_end_way P s (j ∷ p) f) (either (both (is_it wait true) (is_left_below P s (j ∷ p) k f)) (is_in_own_join j p c a f)))
    where
      forth : InEndWay P s (j ∷ p) f ⊎ (((wait ≡ true) × LeftBelow P s (j ∷ p) k f) ⊎ OwnJoin (j ∷ p) c f) → InKeepWay P s (j ∷ p) c k wait f
      forth (inl h) = end_way h
      forth (inr (inl h)) = wait_way h.0 h.1
      forth (inr (inr h)) = join_way h.0 h.1 h.2

      parts : InKeepWay P s (j ∷ p) c k wait f → InEndWay P s (j ∷ p) f ⊎ (((wait ≡ true) × LeftBelow P s (j ∷ p) k f) ⊎ OwnJoin (j ∷ p) c f)
      parts (end_way h) = inl h
      parts (wait_way e h) = inr (inl (e, h))
      parts (join_way op r h) = inr (inr (op, r, h))

  -- an act that waits is there, and so is a cell
  waiting_act : (p : List ℕ) (n : ℕ) (f : Happening) → WaitsFor P s (Acting p n) f → (k : ℕ) × (a : Act S) × Does P s p n k a
  waiting_act p n f (follows d) = (_, _, d)
  waiting_act p n f (begins m d) = (_, _, d)
  waiting_act p n f (reads d r w) = (_, _, d)
  waiting_act p n f (writes d r w) = (_, _, d)
  waiting_act p n f (waits d l b left) = (_, _, d)
  waiting_act p n f (awaits d b left) = (_, _, d)
  waiting_act p n f (waits_on d l m h b) = (_, _, d)

  waiting_cell : (p : List ℕ) (c : ℕ) (f : Happening) → WaitsFor P s (Giving p c) f → HasAccess s c p
  waiting_cell p c f (released a d) = a
  waiting_cell p c f (ends k d) = k.access
  waiting_cell p c f (ends_below k b left) = k.access
  waiting_cell p c f (joins r w) = starts_access P s r

  pub waits_for : (e f : Happening) → Decided (WaitsFor P s e f)
  waits_for (Acting p n) f = go (done_act P s p n)
    where
      go : ((k : ℕ) × (a : Act S) × Does P s p n k a) ⊎ ((k : ℕ) (a : Act S) → Does P s p n k a → ⊥) → Decided (WaitsFor P s (Acting p n) f)
      go (inl (k, a, d)) = by_iff (λ h. act_back P s p n k a f d h) (λ h. act_forth P s p n k a f d h) (either (is_in_turn_way p n f) (is_in_act_way p k a f))
      go (inr none) = inr (λ w. let d = waiting_act p n f w in none d.0 d.1 d.2)
  waits_for (Giving [] c) f = inr (λ w. elim w [ ])
  waits_for (Giving (j ∷ p) c) f = go (has_access P s c (j ∷ p))
    where
      by_free : HasAccess s c (j ∷ p) → ((n : ℕ) × Frees P s (j ∷ p) c n) ⊎ ((n : ℕ) → Frees P s (j ∷ p) c n → ⊥) → Decided (WaitsFor P s (Giving (j ∷ p) c) f)
      by_free a (inl (n, d)) = by_iff (λ h. free_back P s main made j p c f a h) (λ h. free_forth P s main made j p c n f d h) (is_in_free_way P s (j ∷ p) c f)
      by_free a (inr none) =
          by_iff (λ h. keep_back P s main made j p c a.task f a.at_ a none h) (λ h. keep_forth P s main made j p c a.task f a.at_ none h)
          (is_in_keep_way j p c (created_now P a.task.body) a.task.body.start.order.wait a f)

      go : Decided (HasAccess s c (j ∷ p)) → Decided (WaitsFor P s (Giving (j ∷ p) c) f)
      go (inl a) = by_free a (some_free P s (j ∷ p) c)
      go (inr none) = inr (λ w. none (waiting_cell (j ∷ p) c f w))
