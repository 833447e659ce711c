-- What the flags of the words say of the entries is so of the tasks and accesses of the state.
use Rattle.std.proofs.Common.{◌≡◌, ◌≢◌, ◌⊎◌, inl, inr, sym, subst, refl, ◌∙◌, ap, ℕ, ◌<◌, arith, Bool, List, [], ◌∷◌, Option, Some}
use Rattle.oss_syntax.specs.declared.access.Mode.TheVariants.{Write, Fold}
use Rattle.oss_syntax.specs.declared.access.Op.{Op}
use Rattle.oss_model.specs.Forest.{Forest, IsDone, IsWriteSatisfied, IsReadSatisfied, IsJoinSatisfied, IsRead, InRun, done, write_top, write_child, read_top, read_child, join_top, join_below_fold, join_below_write}
use Rattle.oss_model.specs.Machine.{State, find, HasAccess, accesses, is_top, IsChild, is_child, IsEarlier, is_earlier, mode_in, IsComplete, complete}
use Rattle.oss_model.specs.Bodies.{Program, Start}
use Rattle.oss_model.specs.History.{IsMade}
use Rattle.oss_model.proofs.TreeLemmas.{has_access, access_up, mode_is}
use Rattle.oss_words.specs.declared.entry.EntryInfo.{EntryInfo}
use Rattle.oss_words.specs.Net.{Net, apart, Child, Earlier, forest}
use Rattle.oss_roles.specs.Roles.{Role, itself, on, Filed, AreRoles, AreFiled, AreGiven}
use Rattle.oss_roles.proofs.PlaceFacts.{top_not_child, child_one}

which : (x y : ℕ) → (x ≡ y) ⊎ (x ≢ y)
which x y = grind arith

module _ (net : Net) (gave : ℕ → Bool) where
  abbrev F : Forest ℕ
  F = forest net gave

  pub write_before : (v : ℕ) → IsWriteSatisfied F v → (u : ℕ) → Earlier net.place u v → IsDone F u
  write_before v (write_top t e) = e
  write_before v (write_child c w e) = e

  pub write_above : (q v : ℕ) → IsWriteSatisfied F v → Child net.place q v → IsWriteSatisfied F q
  write_above q v (write_top t e) c = absurd (top_not_child net.place q v t c)
  write_above q v (write_child {p = p} d w e) c = subst (λ (x : ℕ). IsWriteSatisfied F x) (child_one net.place p q v d c) w

  pub read_before : (v : ℕ) → IsReadSatisfied F v → (u : ℕ) → Earlier net.place u v → (IsRead (net.mode u) → ⊥) → IsDone F u
  read_before v (read_top t e) = e
  read_before v (read_child c w e) = e

  pub read_above : (q v : ℕ) → IsReadSatisfied F v → Child net.place q v → IsReadSatisfied F q
  read_above q v (read_top t e) c = absurd (top_not_child net.place q v t c)
  read_above q v (read_child {p = p} d w e) c = subst (λ (x : ℕ). IsReadSatisfied F x) (child_one net.place p q v d c) w

  pub join_before : (op : Op) (v : ℕ) → IsJoinSatisfied F op v → (u : ℕ) → Earlier net.place u v → InRun F op u v ⊎ IsDone F u
  join_before op v (join_top t e) = e
  join_before op v (join_below_fold c m w e) = e
  join_before op v (join_below_write c m w e) = e

  -- what a join waits for above
  pub data Above (op : Op) (q : ℕ) : Type 0 where
    fold_above : net.mode q ≡ Fold op → IsJoinSatisfied F op q → Above op q
    write_over : net.mode q ≡ Write → IsWriteSatisfied F q → Above op q

  pub join_above : (op : Op) (q v : ℕ) → IsJoinSatisfied F op v → Child net.place q v → Above op q
  join_above op q v (join_top t e) c = absurd (top_not_child net.place q v t c)
  join_above op q v (join_below_fold {p = p} d m w e) c = subst (λ (x : ℕ). Above op x) (child_one net.place p q v d c) (fold_above m w)
  join_above op q v (join_below_write {p = p} d m w e) c = subst (λ (x : ℕ). Above op x) (child_one net.place p q v d c) (write_over m w)

module _ {S : Type 0} (P : Program S) (main : Start S) (s : State S) (made : IsMade P main s)
    (net : Net) (gave : ℕ → Bool) (infos : ℕ → EntryInfo) (role : ℕ → Option Role) (joined : ℕ → Type 0)
    (roles : AreRoles net infos role) (filed : AreFiled s net role) (given : AreGiven P s net role gave joined) where
  abbrev N : Forest ℕ
  N = forest net gave

  abbrev M : ℕ → Forest (List ℕ)
  M c = accesses s c

  -- what a done access needs of the children
  child_done : (c e : ℕ) (r : Role) → role e ≡ Some r → net.place e ≢ apart → r.site ≡ on c
      → ((f : ℕ) (q : Role) → role f ≡ Some q → net.place f ≢ apart → q.site ≡ on c → Child net.place e f → IsDone (M c) q.path)
      → (x v : List ℕ) → IsChild s c x v → x ≡ r.path → IsDone (M c) v
  child_done c e r is h at rec x v (is_child {k = k} {i = i} {p = p} a b) same =
      let y = (filed.access k c (i ∷ p) b).0 in
      subst (λ (z : List ℕ). IsDone (M c) z) y.path
      (rec y.entry y.it y.is y.hangs y.site (roles.below e y.entry r y.it k is y.is h y.hangs (y.path ∙ ap (λ (z : List ℕ). k ∷ z) same) (y.site ∙ sym at)))

  pub done_carries : (c e : ℕ) (r : Role) → role e ≡ Some r → net.place e ≢ apart → r.site ≡ on c → IsDone N e → IsDone (M c) r.path
  done_carries c e r is h at (done g below) =
      done (given.cell e c r is at g) (λ v k. child_done c e r is h at (λ f q fis fh fat ch. done_carries c f q fis fh fat (below f ch)) r.path v k refl)

  -- an access that is earlier is that of an earlier entry
  record Before (c e : ℕ) (v : List ℕ) : Type 0 where
    entry : ℕ
    it : Role
    is : role entry ≡ Some it
    hangs : net.place entry ≢ apart
    site : it.site ≡ on c
    path : it.path ≡ v
    earlier : Earlier net.place entry e
    mode : mode_in (find s.tasks v) c ≡ net.mode entry

  -- the mode of an access is that of its entry
  mode_filed : (c k : ℕ) (p : List ℕ) → (a : HasAccess s c (k ∷ p)) → (y : Filed net role (k ∷ p) (on c)) × (mode_in (find s.tasks (k ∷ p)) c ≡ net.mode y.entry)
  mode_filed c k p a =
      let y = filed.access k c p a in
      let told = roles.told y.0.entry y.0.it y.0.is y.0.hangs in
      (y.0, mode_is s c (k ∷ p) a.mode (record { task = a.task; at_ = a.at_; strong = a.strong; right = a.right }) ∙ sym y.1 ∙ sym told.0)

  earlier_filed : (c e : ℕ) (r : Role) → role e ≡ Some r → net.place e ≢ apart → r.site ≡ on c → (v w : List ℕ) → r.path ≡ w → IsEarlier s c v w → Before c e v
  earlier_filed c e r is h at v w path (is_earlier {i = i} {k = k} {p = p} l a) =
      let y = mode_filed c i p a in
      record {
        entry = y.0.entry;
        it = y.0.it;
        is = y.0.is;
        hangs = y.0.hangs;
        site = y.0.site;
        path = y.0.path;
        earlier = roles.order y.0.entry e y.0.it r i k p y.0.is is y.0.hangs h y.0.path path (y.0.site ∙ sym at) l;
        mode = y.1;
      }

  all_done : (c e : ℕ) (r : Role) → role e ≡ Some r → net.place e ≢ apart → r.site ≡ on c → (w : List ℕ) → r.path ≡ w → ((u : ℕ) → Earlier net.place u e → IsDone N u) → (v : List ℕ) → IsEarlier s c v w → IsDone (M c) v
  all_done c e r is h at w path f v b =
      let y = earlier_filed c e r is h at v w path b in
      subst (λ (z : List ℕ). IsDone (M c) z) y.path (done_carries c y.entry y.it y.is y.hangs y.site (f y.entry y.earlier))

  -- the parent of an access, and its entry
  record Parent (c e : ℕ) (p : List ℕ) : Type 0 where
    access : HasAccess s c p
    entry : ℕ
    it : Role
    is : role entry ≡ Some it
    hangs : net.place entry ≢ apart
    path : it.path ≡ p
    site : it.site ≡ on c
    child : Child net.place entry e
    mode : mode_in (find s.tasks p) c ≡ net.mode entry

  parent_of : (c e : ℕ) (r : Role) → role e ≡ Some r → net.place e ≢ apart → r.site ≡ on c → (k i : ℕ) (p : List ℕ) → r.path ≡ k ∷ i ∷ p → HasAccess s c (k ∷ i ∷ p) → Parent c e (i ∷ p)
  parent_of c e r is h at k i p path a =
      let up = access_up P main s c k (i ∷ p) a.mode made (record { task = a.task; at_ = a.at_; strong = a.strong; right = a.right }) in
      let b = has_access up.access in
      let y = mode_filed c i p b in
      record {
        access = b;
        entry = y.0.entry;
        it = y.0.it;
        is = y.0.is;
        hangs = y.0.hangs;
        path = y.0.path;
        site = y.0.site;
        child = roles.below y.0.entry e y.0.it r k y.0.is is y.0.hangs h (path ∙ ap (λ (z : List ℕ). k ∷ z) (sym y.0.path)) (at ∙ sym y.0.site);
        mode = y.1;
      }

  not_main : (e : ℕ) (r : Role) → role e ≡ Some r → r.path ≡ [] → ⊥
  not_main e r is q = let m = roles.below_main e r is in let z : m.0 ∷ m.1 ≡ [] = sym m.2 ∙ q in cc

  pub write_carries : (p : List ℕ) (c e : ℕ) (r : Role) → role e ≡ Some r → net.place e ≢ apart → r.site ≡ on c → r.path ≡ p → HasAccess s c p → IsWriteSatisfied N e → IsWriteSatisfied (M c) p
  write_carries [] c e r is h at path a w = absurd (not_main e r is path)
  write_carries (k ∷ []) c e r is h at path a w = write_top (is_top a) (all_done c e r is h at (k ∷ []) path (write_before net gave e w))
  write_carries (k ∷ i ∷ p) c e r is h at path a w =
      let y = parent_of c e r is h at k i p path a in
      write_child (is_child y.access a) (write_carries (i ∷ p) c y.entry y.it y.is y.hangs y.site y.path y.access (write_above net gave y.entry e w y.child)) (all_done c e r is h at (k ∷ i ∷ p) path (write_before net gave e w))

  unread_done : (c e : ℕ) (r : Role) → role e ≡ Some r → net.place e ≢ apart → r.site ≡ on c → (w : List ℕ) → r.path ≡ w → ((u : ℕ) → Earlier net.place u e → (IsRead (net.mode u) → ⊥) → IsDone N u)
      → (v : List ℕ) → IsEarlier s c v w → (IsRead (mode_in (find s.tasks v) c) → ⊥) → IsDone (M c) v
  unread_done c e r is h at w path f v b n =
      let y = earlier_filed c e r is h at v w path b in
      subst (λ (z : List ℕ). IsDone (M c) z) y.path (done_carries c y.entry y.it y.is y.hangs y.site (f y.entry y.earlier (λ m. n (subst IsRead (sym y.mode) m))))

  pub read_carries : (p : List ℕ) (c e : ℕ) (r : Role) → role e ≡ Some r → net.place e ≢ apart → r.site ≡ on c → r.path ≡ p → HasAccess s c p → IsReadSatisfied N e → IsReadSatisfied (M c) p
  read_carries [] c e r is h at path a w = absurd (not_main e r is path)
  read_carries (k ∷ []) c e r is h at path a w = read_top (is_top a) (unread_done c e r is h at (k ∷ []) path (read_before net gave e w))
  read_carries (k ∷ i ∷ p) c e r is h at path a w =
      let y = parent_of c e r is h at k i p path a in
      read_child (is_child y.access a) (read_carries (i ∷ p) c y.entry y.it y.is y.hangs y.site y.path y.access (read_above net gave y.entry e w y.child)) (unread_done c e r is h at (k ∷ i ∷ p) path (read_before net gave e w))

  -- a run of folds, if the accesses between two are entries between
  run_carries : (c e : ℕ) (r : Role) → role e ≡ Some r → net.place e ≢ apart → r.site ≡ on c → (w : List ℕ) → r.path ≡ w → (op : Op) (v : List ℕ) → (y : Before c e v) → InRun N op y.entry e → InRun (M c) op v w
  run_carries c e r is h at w path op v y run =
      record {
        first = y.mode ∙ run.first;
        between = λ x b k. between x k b;
      }
    where
      between : (x : List ℕ) → IsEarlier s c x w → IsEarlier s c v x → mode_in (find s.tasks x) c ≡ Fold op
      between x k b =
          let z = earlier_filed c e r is h at x w path k in
          let u = earlier_filed c z.entry z.it z.is z.hangs z.site v x z.path b in
          let same : u.entry ≡ y.entry = roles.one u.entry y.entry u.it y.it u.is y.is (u.path ∙ sym y.path) (u.site ∙ sym y.site) in
          z.mode ∙ run.between z.entry (subst (λ (o : ℕ). Earlier net.place o z.entry) same u.earlier) z.earlier

  run_or_done : (c e : ℕ) (r : Role) → role e ≡ Some r → net.place e ≢ apart → r.site ≡ on c → (w : List ℕ) → r.path ≡ w → (op : Op) → ((u : ℕ) → Earlier net.place u e → InRun N op u e ⊎ IsDone N u)
      → (v : List ℕ) → IsEarlier s c v w → InRun (M c) op v w ⊎ IsDone (M c) v
  run_or_done c e r is h at w path op f v b =
      let y = earlier_filed c e r is h at v w path b in
      elim (f y.entry y.earlier) [
        | inl run ↦ inl (run_carries c e r is h at w path op v y run)
        | inr d ↦ inr (subst (λ (z : List ℕ). IsDone (M c) z) y.path (done_carries c y.entry y.it y.is y.hangs y.site d))
      ]

  pub join_carries : (p : List ℕ) (op : Op) (c e : ℕ) (r : Role) → role e ≡ Some r → net.place e ≢ apart → r.site ≡ on c → r.path ≡ p → HasAccess s c p → IsJoinSatisfied N op e → IsJoinSatisfied (M c) op p
  join_carries [] op c e r is h at path a w = absurd (not_main e r is path)
  join_carries (k ∷ []) op c e r is h at path a w = join_top (is_top a) (run_or_done c e r is h at (k ∷ []) path op (join_before net gave op e w))
  join_carries (k ∷ i ∷ p) op c e r is h at path a w =
      let y = parent_of c e r is h at k i p path a in
      over y (λ m u. join_carries (i ∷ p) op c y.entry y.it y.is y.hangs y.site y.path y.access u) (join_above net gave op y.entry e w y.child)
    where
      over : (y : Parent c e (i ∷ p)) → (net.mode y.entry ≡ Fold op → IsJoinSatisfied N op y.entry → IsJoinSatisfied (M c) op (i ∷ p)) → Above net gave op y.entry → IsJoinSatisfied (M c) op (k ∷ i ∷ p)
      over y rec (fold_above m u) = join_below_fold (is_child y.access a) (y.mode ∙ m) (rec m u) (run_or_done c e r is h at (k ∷ i ∷ p) path op (join_before net gave op e w))
      over y rec (write_over m u) =
          join_below_write (is_child y.access a) (y.mode ∙ m) (write_carries (i ∷ p) c y.entry y.it y.is y.hangs y.site y.path y.access u) (run_or_done c e r is h at (k ∷ i ∷ p) path op (join_before net gave op e w))

  -- a task whose own entry is done is complete
  pub complete_carries : (e : ℕ) (r : Role) → role e ≡ Some r → net.place e ≢ apart → r.site ≡ itself → IsDone N e → IsComplete P s r.path
  complete_carries e r is h at (done g below) =
      let k = given.own e r is at g in
      complete k.1 k.2.ended k.2.given (λ j u a.
      let y = filed.task j r.path u a in
      subst (λ (z : List ℕ). IsComplete P s z) y.path (complete_carries y.entry y.it y.is y.hangs y.site (below y.entry (roles.below e y.entry r y.it j is y.is h y.hangs y.path (y.site ∙ sym at)))))

  -- all accesses of siblings up to one are done, if it is and all before it are
  pub siblings_done : (o : ℕ) (q : Role) (k : ℕ) (p : List ℕ) → role o ≡ Some q → net.place o ≢ apart → q.path ≡ k ∷ p → IsDone N o → ((u : ℕ) → Earlier net.place u o → IsDone N u)
      → (j : ℕ) → (j ≡ k) ⊎ (j < k) → (x : Filed net role (j ∷ p) q.site) → IsDone N x.entry
  siblings_done o q k p is h path d f j (inl e) x = subst (λ (z : ℕ). IsDone N z) (sym (roles.one x.entry o x.it q x.is is (x.path ∙ ap (λ (z : ℕ). z ∷ p) e ∙ sym path) x.site)) d
  siblings_done o q k p is h path d f j (inr l) x = f x.entry (roles.order x.entry o x.it q j k p x.is is x.hangs h x.path path x.site l)
