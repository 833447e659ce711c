-- What is kept of a task that is created, of its creator when it has ended, and the longest chain of all.
use Rattle.std.proofs.Common.{◌≡◌, ℕ, suc, ◌⊎◌, inl, inr, refl, sym, subst, ap, ◌∙◌, List, [], ◌∷◌, arith, Bool, true, false}
use Rattle.std.specs.Prelude.{if◌then◌else◌}
use Rattle.oss_syntax.specs.declared.access.Op.{Op}
use Rattle.oss_syntax.specs.declared.access.Op.TheVariants.{Add, And, Or, Xor}
use Rattle.oss_syntax.specs.declared.access.Mode.{Mode}
use Rattle.oss_syntax.specs.declared.access.Mode.TheVariants.{Read, Write, Fold}
use Rattle.oss_model.specs.Forest.{IsRead}
use Rattle.oss_model.specs.Rights.{op_eq, covers}
use Rattle.oss_model.specs.Bodies.{Order, Program, Start}
use Rattle.oss_model.specs.Bodies.Act.{Created}
use Rattle.oss_model.specs.Machine.{State, find, HasAccess, mode_in}
use Rattle.oss_model.specs.History.{IsMade}
use Rattle.oss_model.proofs.JudgeLemmas.{op_eq_is}
use Rattle.oss_model.proofs.TreeLemmas.{AccessOf, access_up, mode_is, has_access}
use Rattle.oss_chain_laws.specs.Happenings.{Happening, Acting, Does}
use Rattle.oss_chain_laws.specs.Tables.{GivenWith, given_with, GivenBelow, ChangedBelow, LeftWith, LeftBelow, InWriteWay, InReadWay, InJoinWay, JustBefore, act_before, creation_before, BeforeRun, FreedBefore}
use Rattle.oss_chain_laws.specs.Chains.{Best, better}
use Rattle.oss_chain_laws.specs.Pass.{Kept, IsKept, is_fold_of, is_read, opened, closed}
use Rattle.oss_chain_laws.proofs.TableLemmas.{none_given, none_changed, none_left, given_forth, given_back, changed_forth, changed_back, left_forth, left_back, write_top_forth, write_top_back, write_forth, write_back, read_top_forth, read_top_back, read_forth, read_back}
use Rattle.oss_chain_laws.proofs.RunTableLemmas.{run_forth, run_back, stop_forth, stop_back, join_top_forth, join_top_back, join_fold_forth, join_fold_back, join_write_forth, join_write_back}
use Rattle.oss_chain_laws.proofs.PassLemmas.{Most, same, either_most, no_most, none_freed, none_before, not_nil, act_only, one_creation}

op_self : (op : Op) → op_eq op op ≡ true
op_self Add = refl
op_self And = refl
op_self Or = refl
op_self Xor = refl

-- the mode of an access above one of a fold
pub fold_above : (op : Op) (m : Mode) → covers m (Fold op) ≡ true → ((is_fold_of op m ≡ true) × (m ≡ Fold op)) ⊎ ((is_fold_of op m ≡ false) × (m ≡ Write))
fold_above op Read h = cc
fold_above op Write h = inr (refl, refl)
fold_above op (Fold other) h = let e = op_eq_is other op h in inl (subst (λ (z : Op). op_eq op z ≡ true) (sym e) (op_self op), ap Fold e)

is_fold_true : (op : Op) (m : Mode) → is_fold_of op m ≡ true → m ≡ Fold op
is_fold_true op Read h = cc
is_fold_true op Write h = cc
is_fold_true op (Fold other) h = ap Fold (sym (op_eq_is op other h))

is_fold_false : (op : Op) (m : Mode) → is_fold_of op m ≡ false → m ≡ Fold op → ⊥
is_fold_false op m h e = let k : is_fold_of op (Fold op) ≡ false = subst (λ (z : Mode). is_fold_of op z ≡ false) e h in let g = op_self op in cc

is_read_true : (m : Mode) → is_read m ≡ true → IsRead m
is_read_true Read h = tt
is_read_true Write h = cc
is_read_true (Fold op) h = cc

is_read_false : (m : Mode) → is_read m ≡ false → IsRead m → ⊥
is_read_false Read h r = cc
is_read_false Write h r = r
is_read_false (Fold op) h r = r

module _ {S : Type 0} (P : Program S) (main : Start S) (s : State S) (made : IsMade P main s) (weight : Happening → ℕ) where
  -- a creator has the accesses of its child
  pub above_access : (c k : ℕ) (p : List ℕ) → HasAccess s c (k ∷ p) → HasAccess s c p
  above_access c k p a = has_access (access_up P main s c k p a.mode made (record { task = a.task; at_ = a.at_; strong = a.strong; right = a.right })).access

  pub above_mode : (c k : ℕ) (p : List ℕ) (m : Mode) → HasAccess s c (k ∷ p) → mode_in (find s.tasks (k ∷ p)) c ≡ m → covers (mode_in (find s.tasks p) c) m ≡ true
  above_mode c k p m a e =
      let x : AccessOf s c (k ∷ p) a.mode = record { task = a.task; at_ = a.at_; strong = a.strong; right = a.right } in
      let u = access_up P main s c k p a.mode made x in
      let f : a.mode ≡ m = sym (mode_is s c (k ∷ p) a.mode x) ∙ e in
      subst (λ (z : Mode). covers z m ≡ true) (sym (mode_is s c p u.mode u.access)) (subst (λ (z : Mode). covers u.mode z ≡ true) f u.covers)

  -- a task that is created
  module _ (p : List ℕ) (n k : ℕ) (o : Order S) (t : Kept) (mode : ℕ → Mode) (kept : IsKept P s weight p (suc n) k t) (made_here : Does P s p n k (Created o false)) where
    creation_forth : (f : Happening) → JustBefore P s p (suc n) f → JustBefore P s (k ∷ p) 0 f
    creation_forth f h = subst (λ (z : Happening). JustBefore P s (k ∷ p) 0 z) (sym (act_only P s weight p n f h)) (creation_before o made_here)

    creation_number : (i : ℕ) (r : Order S) → Does P s p i k (Created r false) → JustBefore P s p (suc n) (Acting p i)
    creation_number i r d = subst (λ (z : ℕ). JustBefore P s p (suc n) (Acting p z)) (one_creation P s weight p k n i o r made_here d) act_before

  creation_act : (k : ℕ) (p : List ℕ) (f : Happening) → JustBefore P s (k ∷ p) 0 f → (i : ℕ) × (r : Order S) × Does P s p i k (Created r false) × (f ≡ Acting p i)
  creation_act k p f (creation_before {n = i} r d) = (i, r, d, refl)

  module _ (p : List ℕ) (n k : ℕ) (o : Order S) (t : Kept) (mode : ℕ → Mode) (kept : IsKept P s weight p (suc n) k t) (made_here : Does P s p n k (Created o false)) where
    creation_back : (f : Happening) → JustBefore P s (k ∷ p) 0 f → JustBefore P s p (suc n) f
    creation_back f h = let a = creation_act k p f h in subst (λ (z : Happening). JustBefore P s p (suc n) z) (sym a.3) (creation_number p n k o t mode kept made_here a.0 a.1 a.2)

    last_opened : Most P s weight (JustBefore P s (k ∷ p) 0) t.last
    last_opened = same P s weight (JustBefore P s p (suc n)) (JustBefore P s (k ∷ p) 0) t.last (creation_forth p n k o t mode kept made_here) creation_back kept.last

  pub opened_top : (n k : ℕ) (o : Order S) (t : Kept) (mode : ℕ → Mode) → IsKept P s weight [] (suc n) k t → Does P s [] n k (Created o false) → IsKept P s weight (k ∷ []) 0 0 (opened true mode t)
  opened_top n k o t mode kept d = record {
    last = last_opened [] n k o t mode kept d;
    left = no_most P s weight (LeftBelow P s (k ∷ []) 0) (none_left P s (k ∷ []));
    newest = λ i e. absurd (omega (arith, e));
    given = λ c. no_most P s weight (GivenBelow s c (k ∷ []) 0) (none_given P s c (k ∷ []));
    changed = λ c. no_most P s weight (ChangedBelow s c (k ∷ []) 0) (none_changed P s c (k ∷ []));
    before = λ op c. no_most P s weight (BeforeRun s c op (k ∷ []) 0) (none_before P s weight c op (k ∷ []));
    freed = λ c. no_most P s weight (FreedBefore P s (k ∷ []) c 0) (none_freed P s weight (k ∷ []) c);
    is_freed = λ c e. cc;
    not_freed = λ c e i l q. omega (arith, l);
    write_way = λ c ne a. same P s weight (GivenBelow s c [] k) (InWriteWay s c (k ∷ [])) (t.given c) (write_top_back P s c k) (write_top_forth P s c k) (kept.given c);
    read_way = λ c ne a. same P s weight (ChangedBelow s c [] k) (InReadWay s c (k ∷ [])) (t.changed c) (read_top_back P s c k) (read_top_forth P s c k) (kept.changed c);
    join_way = λ op c ne a m. same P s weight (BeforeRun s c op [] k) (InJoinWay s c op (k ∷ [])) (t.before op c) (join_top_back s c op k) (join_top_forth s c op k) (kept.before op c);
  }

  module _ (j : ℕ) (q : List ℕ) (n k : ℕ) (o : Order S) (t : Kept) (mode : ℕ → Mode) (kept : IsKept P s weight (j ∷ q) (suc n) k t) (made_here : Does P s (j ∷ q) n k (Created o false)) (modes : (c : ℕ) → mode c ≡ mode_in (find s.tasks (j ∷ q)) c) where
    write_opened : (c : ℕ) → HasAccess s c (k ∷ j ∷ q) → Most P s weight (InWriteWay s c (k ∷ j ∷ q)) (better (t.given c) (t.write_way c))
    write_opened c a =
        let u = above_access c k (j ∷ q) a in
        same P s weight (λ f. GivenBelow s c (j ∷ q) k f ⊎ InWriteWay s c (j ∷ q) f) (InWriteWay s c (k ∷ j ∷ q)) (better (t.given c) (t.write_way c)) (λ f h. write_back P s c k j q f u a h) (write_forth P s c k j q)
        (either_most P s weight (GivenBelow s c (j ∷ q) k) (InWriteWay s c (j ∷ q)) (t.given c) (t.write_way c) (kept.given c) (kept.write_way c not_nil u))

    read_opened : (c : ℕ) → HasAccess s c (k ∷ j ∷ q) → Most P s weight (InReadWay s c (k ∷ j ∷ q)) (better (t.changed c) (t.read_way c))
    read_opened c a =
        let u = above_access c k (j ∷ q) a in
        same P s weight (λ f. ChangedBelow s c (j ∷ q) k f ⊎ InReadWay s c (j ∷ q) f) (InReadWay s c (k ∷ j ∷ q)) (better (t.changed c) (t.read_way c)) (λ f h. read_back P s c k j q f u a h) (read_forth P s c k j q)
        (either_most P s weight (ChangedBelow s c (j ∷ q) k) (InReadWay s c (j ∷ q)) (t.changed c) (t.read_way c) (kept.changed c) (kept.read_way c not_nil u))

    join_opened : (op : Op) (c : ℕ) → HasAccess s c (k ∷ j ∷ q) → ((is_fold_of op (mode c) ≡ true) × (mode_in (find s.tasks (j ∷ q)) c ≡ Fold op)) ⊎ ((is_fold_of op (mode c) ≡ false) × (mode_in (find s.tasks (j ∷ q)) c ≡ Write))
        → Most P s weight (InJoinWay s c op (k ∷ j ∷ q)) (better (t.before op c) (if is_fold_of op (mode c) then t.join_way op c else t.write_way c))
    join_opened op c a (inl m) =
        let u = above_access c k (j ∷ q) a in
        rw m.0
        (same P s weight (λ f. BeforeRun s c op (j ∷ q) k f ⊎ InJoinWay s c op (j ∷ q) f) (InJoinWay s c op (k ∷ j ∷ q)) (better (t.before op c) (t.join_way op c)) (λ f h. join_fold_back s c op k j q f u a m.1 h) (λ f h. join_fold_forth s c op k j q f m.1 h)
        (either_most P s weight (BeforeRun s c op (j ∷ q) k) (InJoinWay s c op (j ∷ q)) (t.before op c) (t.join_way op c) (kept.before op c) (kept.join_way op c not_nil u m.1)))
    join_opened op c a (inr m) =
        let u = above_access c k (j ∷ q) a in
        rw m.0
        (same P s weight (λ f. BeforeRun s c op (j ∷ q) k f ⊎ InWriteWay s c (j ∷ q) f) (InJoinWay s c op (k ∷ j ∷ q)) (better (t.before op c) (t.write_way c)) (λ f h. join_write_back s c op k j q f u a m.1 h) (λ f h. join_write_forth s c op k j q f m.1 h)
        (either_most P s weight (BeforeRun s c op (j ∷ q) k) (InWriteWay s c (j ∷ q)) (t.before op c) (t.write_way c) (kept.before op c) (kept.write_way c not_nil u)))

    which_above : (op : Op) (c : ℕ) → HasAccess s c (k ∷ j ∷ q) → mode_in (find s.tasks (k ∷ j ∷ q)) c ≡ Fold op
        → ((is_fold_of op (mode c) ≡ true) × (mode_in (find s.tasks (j ∷ q)) c ≡ Fold op)) ⊎ ((is_fold_of op (mode c) ≡ false) × (mode_in (find s.tasks (j ∷ q)) c ≡ Write))
    which_above op c a e = rw (modes c) (fold_above op (mode_in (find s.tasks (j ∷ q)) c) (above_mode c k (j ∷ q) (Fold op) a e))

    pub opened_below : IsKept P s weight (k ∷ j ∷ q) 0 0 (opened false mode t)
    opened_below = record {
      last = last_opened (j ∷ q) n k o t mode kept made_here;
      left = no_most P s weight (LeftBelow P s (k ∷ j ∷ q) 0) (none_left P s (k ∷ j ∷ q));
      newest = λ i e. absurd (omega (arith, e));
      given = λ c. no_most P s weight (GivenBelow s c (k ∷ j ∷ q) 0) (none_given P s c (k ∷ j ∷ q));
      changed = λ c. no_most P s weight (ChangedBelow s c (k ∷ j ∷ q) 0) (none_changed P s c (k ∷ j ∷ q));
      before = λ op c. no_most P s weight (BeforeRun s c op (k ∷ j ∷ q) 0) (none_before P s weight c op (k ∷ j ∷ q));
      freed = λ c. no_most P s weight (FreedBefore P s (k ∷ j ∷ q) c 0) (none_freed P s weight (k ∷ j ∷ q) c);
      is_freed = λ c e. cc;
      not_freed = λ c e i l x. omega (arith, l);
      write_way = λ c ne a. write_opened c a;
      read_way = λ c ne a. read_opened c a;
      join_way = λ op c ne a m. join_opened op c a (which_above op c a m);
    }

  -- a creator of which one more child has ended
  module _ (p : List ℕ) (n m : ℕ) (t : Kept) (has : ℕ → Bool) (mode : ℕ → Mode) (gave : ℕ → Best Happening) (left : Best Happening) (kept : IsKept P s weight p n m t)
      (has_it : (c : ℕ) → has c ≡ true → HasAccess s c (m ∷ p)) (has_not : (c : ℕ) → has c ≡ false → HasAccess s c (m ∷ p) → ⊥) (modes : (c : ℕ) → mode c ≡ mode_in (find s.tasks (m ∷ p)) c)
      (gives : (c : ℕ) → has c ≡ true → Most P s weight (GivenWith s c (m ∷ p)) (gave c)) (leaves : Most P s weight (LeftWith P s (m ∷ p)) left) where
    no_giving : (c : ℕ) → has c ≡ false → (f : Happening) → GivenWith s c (m ∷ p) f → ⊥
    no_giving c h f (given_with a b) = has_not c h a

    either_forth : {A B C : Type 0} → A ⊎ B → (A → C) → (B → C) → C
    either_forth (inl a) f g = f a
    either_forth (inr b) f g = g b

    all_given : (c : ℕ) → has c ≡ true → Most P s weight (GivenBelow s c p (suc m)) (better (t.given c) (gave c))
    all_given c h = same P s weight (λ f. GivenBelow s c p m f ⊎ GivenWith s c (m ∷ p) f) (GivenBelow s c p (suc m)) (better (t.given c) (gave c)) (given_back P s c p m) (given_forth P s c p m) (either_most P s weight (GivenBelow s c p m) (GivenWith s c (m ∷ p)) (t.given c) (gave c) (kept.given c) (gives c h))

    given_closed : (c : ℕ) (b : Bool) → has c ≡ b → Most P s weight (GivenBelow s c p (suc m)) (if b then better (t.given c) (gave c) else t.given c)
    given_closed c true h = all_given c h
    given_closed c false h = same P s weight (GivenBelow s c p m) (GivenBelow s c p (suc m)) (t.given c) (λ f x. given_back P s c p m f (inl x)) (λ f x. either_forth (given_forth P s c p m f x) (λ y. y) (λ y. absurd (no_giving c h f y))) (kept.given c)

    changed_closed : (c : ℕ) (b r : Bool) → has c ≡ b → is_read (mode c) ≡ r → Most P s weight (ChangedBelow s c p (suc m)) (if b then (if r then t.changed c else better (t.changed c) (gave c)) else t.changed c)
    changed_closed c false r h e = same P s weight (ChangedBelow s c p m) (ChangedBelow s c p (suc m)) (t.changed c) (λ f x. changed_back P s c p m f (inl x)) (λ f x. either_forth (changed_forth P s c p m f x) (λ y. y) (λ y. absurd (no_giving c h f y.1))) (kept.changed c)
    changed_closed c true true h e =
        let r : IsRead (mode_in (find s.tasks (m ∷ p)) c) = subst IsRead (modes c) (is_read_true (mode c) e) in
        same P s weight (ChangedBelow s c p m) (ChangedBelow s c p (suc m)) (t.changed c) (λ f x. changed_back P s c p m f (inl x)) (λ f x. either_forth (changed_forth P s c p m f x) (λ y. y) (λ y. absurd (y.0 r))) (kept.changed c)
    changed_closed c true false h e =
        let r : IsRead (mode_in (find s.tasks (m ∷ p)) c) → ⊥ = λ x. is_read_false (mode c) e (subst IsRead (sym (modes c)) x) in
        same P s weight (λ f. ChangedBelow s c p m f ⊎ GivenWith s c (m ∷ p) f) (ChangedBelow s c p (suc m)) (better (t.changed c) (gave c))
        (λ f x. changed_back P s c p m f (either_forth x (λ y. inl y) (λ y. inr (r, y)))) (λ f x. either_forth (changed_forth P s c p m f x) (λ y. inl y) (λ y. inr y.1))
        (either_most P s weight (ChangedBelow s c p m) (GivenWith s c (m ∷ p)) (t.changed c) (gave c) (kept.changed c) (gives c h))

    before_closed : (op : Op) (c : ℕ) (b r : Bool) → has c ≡ b → is_fold_of op (mode c) ≡ r → Most P s weight (BeforeRun s c op p (suc m)) (if b then (if r then t.before op c else better (t.given c) (gave c)) else t.before op c)
    before_closed op c false r h e = same P s weight (BeforeRun s c op p m) (BeforeRun s c op p (suc m)) (t.before op c) (run_back s c op p m) (λ f x. run_forth s c op p m f (λ a. absurd (has_not c h a)) x) (kept.before op c)
    before_closed op c true true h e = same P s weight (BeforeRun s c op p m) (BeforeRun s c op p (suc m)) (t.before op c) (run_back s c op p m) (λ f x. run_forth s c op p m f (λ a. sym (modes c) ∙ is_fold_true op (mode c) e) x) (kept.before op c)
    before_closed op c true false h e =
        same P s weight (GivenBelow s c p (suc m)) (BeforeRun s c op p (suc m)) (better (t.given c) (gave c))
        (λ f x. stop_back s c op p m f (has_it c h) (λ y. is_fold_false op (mode c) e (modes c ∙ y)) x) (stop_forth s c op p (suc m)) (all_given c h)

    pub closed_kept : IsKept P s weight p n (suc m) (closed has mode gave left t)
    closed_kept = record {
      last = kept.last;
      left = same P s weight (λ f. LeftBelow P s p m f ⊎ LeftWith P s (m ∷ p) f) (LeftBelow P s p (suc m)) (better t.left left) (left_back P s p m) (left_forth P s p m) (either_most P s weight (LeftBelow P s p m) (LeftWith P s (m ∷ p)) t.left left kept.left leaves);
      newest = λ i e. let q : m ≡ i = omega (arith, e) in subst (λ (z : ℕ). Most P s weight (LeftWith P s (z ∷ p)) left) q leaves;
      given = λ c. given_closed c (has c) refl;
      changed = λ c. changed_closed c (has c) (is_read (mode c)) refl refl;
      before = λ op c. before_closed op c (has c) (is_fold_of op (mode c)) refl refl;
      freed = kept.freed;
      is_freed = kept.is_freed;
      not_freed = kept.not_freed;
      write_way = kept.write_way;
      read_way = kept.read_way;
      join_way = kept.join_way;
    }
