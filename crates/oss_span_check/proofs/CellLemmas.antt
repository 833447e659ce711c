-- By the notes of a run an act waits for a cell, and a cell for an act or a cell, just where it does in the run.
use Rattle.std.proofs.Common.{◌≡◌, ◌⊎◌, inl, inr, refl, sym, subst, ap, ◌∙◌, ℕ, suc, Bool, true, false, List, [], ◌∷◌, length, take, Option, Some}
use Rattle.std.specs.Prelude.{nat_eq, not, ◌||◌, ◌&&◌}
use Rattle.oss_syntax.specs.declared.access.Access.{Access}
use Rattle.oss_syntax.specs.declared.access.Mode.{Mode}
use Rattle.oss_syntax.specs.declared.access.Mode.TheVariants.{Read, Write, Fold}
use Rattle.oss_model.specs.Agreement.{MainStarts}
use Rattle.oss_model.specs.Bodies.{Act, Program, Start}
use Rattle.oss_model.specs.Bodies.Act.{WaitedOn}
use Rattle.oss_model.specs.Forest.{IsRead}
use Rattle.oss_model.specs.History.{IsMade}
use Rattle.oss_model.specs.Machine.{At, HasAccess, State, Task, find as find_task, mode_in}
use Rattle.oss_model.specs.Order.{IsSuffix, written}
use Rattle.oss_model.specs.Rights.{Holds}
use Rattle.oss_chain_laws.specs.Happenings.{Acting, Giving, Does, EndsWith, last_cell, StartsWith, WaitsFor, reads, writes, waits, awaits, waits_on}
use Rattle.oss_chain_laws.proofs.WaitLemmas.{IsAhead, under, write_ahead}
use Rattle.oss_chain_laws.proofs.CheckLemmas.{above_all, ahead_read, ahead_write, at_or_below, IsChangedAhead, read_changed}
use Rattle.oss_span_check.specs.declared.record.Record.{Record}
use Rattle.oss_span_check.specs.declared.sought.Sought.TheVariants as sought
use Rattle.oss_span_check.specs.Points.{below, parted}
use Rattle.oss_span_check.specs.Queries.{access_of, has_access, has_at, was_made_before}
use Rattle.oss_span_check.specs.Records.{IsRecord}
use Rattle.oss_span_check.specs.Waiting.{act_waits_cell, begins_behind, child_on_way, is_change, is_read, starts_behind, waits_below, waits_on as waits_on_test}
use Rattle.oss_span_check.proofs.ListLemmas.{and_both, and_parts, give, given, or_left, or_parts, or_right}
use Rattle.oss_span_check.proofs.MadeLemmas.{HoldsBy, RightAt, access_back, access_forth, before_back, before_forth, mode_of_right, right_back, right_forth}
use Rattle.oss_span_check.proofs.NoteLemmas.{found_at}
use Rattle.oss_span_check.proofs.PointLemmas.{Parts, below_path, parted_paths, path_below, paths_parted, take_child}
use Rattle.oss_span_check.proofs.WaitingLemmas.{WaitsBelow, below_back, below_forth, by_await, by_wait, change_is, found_of, is_no_read, is_same, left_waits, nothing, read_is, same_eq}

module _ {S : Type 0} (P : Program S) (main : Start S) (s : State S) (ms : MainStarts main) (made : IsMade P main s) (ended : (p : List ℕ) (u : Task S) → At s p u → (n : ℕ) × EndsWith P s p n) (r : Record) (so : IsRecord P s r) where
  pub right_in : (p : List ℕ) (c : ℕ) (a : Access) → access_of r.made (written p) c ≡ Some a → RightAt P main s ms made r so p c a
  right_in p c a e = right_forth P main s ms made r so p c a e

  pub mode_at : (p : List ℕ) (c : ℕ) (a : Access) → access_of r.made (written p) c ≡ Some a → mode_in (find_task s.tasks p) c ≡ a.mode
  mode_at p c a e = mode_of_right P main s ms made r so (right_in p c a e)

  pub has_right : (p : List ℕ) (c : ℕ) (a : Access) → access_of r.made (written p) c ≡ Some a → HasAccess s c p
  has_right p c a e = let x = right_in p c a e in record { task = x.task; at_ = x.at_; mode = a.mode; strong = a.strong; right = x.right }

  pub starts_with : (p : List ℕ) (c : ℕ) (a : Access) (m : Mode) → access_of r.made (written p) c ≡ Some a → a.strong ≡ true → a.mode ≡ m → StartsWith s p c (Holds m true)
  starts_with p c a m e k q =
      let x = right_in p c a e in
      record { task = x.task; at_ = x.at_; right_is = x.right ∙ (ap (λ (y : Mode). Holds y a.strong) q ∙ ap (λ (y : Bool). Holds m y) k) }

  pub access_with : (k : ℕ) (p : List ℕ) (c : ℕ) (m : Mode) → StartsWith s (k ∷ p) c (Holds m true) → HoldsBy P main s ms made r so (k ∷ p) c m true
  access_with k p c m x = right_back P main s ms made r so k p x.task c m true x.at_ x.right_is

  access_by : (k : ℕ) (p : List ℕ) (c : ℕ) (h : HasAccess s c (k ∷ p)) → HoldsBy P main s ms made r so (k ∷ p) c h.mode h.strong
  access_by k p c h = right_back P main s ms made r so k p h.task c h.mode h.strong h.at_ h.right

  -- the access of a task whose mode is known
  pub access_mode : (k : ℕ) (p : List ℕ) (c : ℕ) → HasAccess s c (k ∷ p) → (a : Access) × (access_of r.made (written (k ∷ p)) c ≡ Some a) × (mode_in (find_task s.tasks (k ∷ p)) c ≡ a.mode)
  access_mode k p c h = let x = access_by k p c h in (x.access, x.found, mode_at (k ∷ p) c x.access x.found)

  -- what stands before a beginning

  ahead_of : (p q : List ℕ) (c d : ℕ) → HasAccess s c q → parted 0 (written p) (written q) ≡ Some d → IsAhead P s c p q
  ahead_of p q c d h e =
      let x = parted_paths p q d e in
      record { path = x.path; first = x.first; second = x.second; less = x.less; below_first = x.below_first; below_second = x.below_second; access = h }

  pub take_first : {p q : List ℕ} {d : ℕ} (x : Parts p q d) → take (suc d) (written q) ≡ written (x.first ∷ x.path)
  take_first {q = q} x = ap (λ (n : ℕ). take (suc n) (written q)) x.place ∙ take_child x.first x.path x.below_first

  pub take_second : {p q : List ℕ} {d : ℕ} (x : Parts p q d) → take (suc d) (written p) ≡ written (x.second ∷ x.path)
  take_second {p = p} x = ap (λ (n : ℕ). take (suc n) (written p)) x.place ∙ take_child x.second x.path x.below_second

  starts_forth : (k : ℕ) (p q : List ℕ) (c j : ℕ) (b : Act S) → Does P s (k ∷ p) 0 j b → HasAccess s c q → starts_behind r (written (k ∷ p)) (written q) c ≡ true → WaitsFor P s (Acting (k ∷ p) 0) (Giving q c)
  starts_forth k p q c j b d h e = by_mode g.0.mode refl x.1
    where
      g : (a : Access) × (access_of r.made (written (k ∷ p)) c ≡ Some a) × ((a.strong && begins_behind r a.mode (written (k ∷ p)) (written q) c) ≡ true)
      g = given (access_of r.made (written (k ∷ p)) c) (λ a. a.strong && begins_behind r a.mode (written (k ∷ p)) (written q) c) e

      x : (g.0.strong ≡ true) × (begins_behind r g.0.mode (written (k ∷ p)) (written q) c ≡ true)
      x = and_parts g.0.strong (begins_behind r g.0.mode (written (k ∷ p)) (written q) c) g.2

      own : HasAccess s c (k ∷ p)
      own = has_right (k ∷ p) c g.0 g.1

      by_mode : (m : Mode) → g.0.mode ≡ m → begins_behind r m (written (k ∷ p)) (written q) c ≡ true → WaitsFor P s (Acting (k ∷ p) 0) (Giving q c)
      by_mode Write m t =
          let n = given (parted 0 (written (k ∷ p)) (written q)) (λ n. true) t in
          writes d (starts_with (k ∷ p) c g.0 Write g.1 x.0 m) (ahead_write P main s made nothing c own (ahead_of (k ∷ p) q c n.0 h n.1))
      by_mode Read m t =
          let n = given (parted 0 (written (k ∷ p)) (written q)) (λ n. is_change (access_of r.made (take (suc n) (written q)) c)) t in
          let y = parted_paths (k ∷ p) q n.0 n.1 in
          let f = change_is (access_of r.made (take (suc n.0) (written q)) c) n.2 in
          let i : access_of r.made (written (y.first ∷ y.path)) c ≡ Some f.0 = sym (ap (λ (z : List ℕ). access_of r.made z c) (take_first y)) ∙ f.1 in
          let v = mode_at (y.first ∷ y.path) c f.0 i in
          reads d (starts_with (k ∷ p) c g.0 Read g.1 x.0 m) (ahead_read P main s made nothing c own
          (record { ahead = record { path = y.path; first = y.first; second = y.second; less = y.less; below_first = y.below_first; below_second = y.below_second; access = h }; changed = λ u. read_is f.0.mode f.2 (subst IsRead v u) }))
      by_mode (Fold op) m t = absurd (let w : false ≡ true = t in cc)

  pub ahead_test : {p q : List ℕ} {c : ℕ} (a : IsAhead P s c p q) → parted 0 (written p) (written q) ≡ Some (length (written a.path))
  ahead_test a = paths_parted a.first a.second a.path a.less a.below_first a.below_second

  writes_back : (k : ℕ) (p q : List ℕ) (c : ℕ) → StartsWith s (k ∷ p) c (Holds Write true) → IsAhead P s c (k ∷ p) q → starts_behind r (written (k ∷ p)) (written q) c ≡ true
  writes_back k p q c x a =
      let y = access_with k p c Write x in
      give (access_of r.made (written (k ∷ p)) c) (λ b. b.strong && begins_behind r b.mode (written (k ∷ p)) (written q) c) y.access y.found
      (and_both y.strong_ (ap (λ (m : Mode). begins_behind r m (written (k ∷ p)) (written q) c) y.mode ∙ give (parted 0 (written (k ∷ p)) (written q)) (λ n. true) (length (written a.path)) (ahead_test a) refl))

  some_change : (o : Option Access) (a : Access) → o ≡ Some a → not (is_read a.mode) ≡ true → is_change o ≡ true
  some_change o a e h = ap is_change e ∙ h

  reads_back : (k : ℕ) (p q : List ℕ) (c : ℕ) → StartsWith s (k ∷ p) c (Holds Read true) → IsChangedAhead P main s made nothing c (k ∷ p) q → starts_behind r (written (k ∷ p)) (written q) c ≡ true
  reads_back k p q c x d =
      let a = d.ahead in
      let y = access_with k p c Read x in
      let f = access_mode a.first a.path c (above_all P main s made nothing c a.first a.path a.below_first a.access) in
      let t : take (suc (length (written a.path))) (written q) ≡ written (a.first ∷ a.path) = take_child a.first a.path a.below_first in
      let i : access_of r.made (take (suc (length (written a.path))) (written q)) c ≡ Some f.0 = ap (λ (z : List ℕ). access_of r.made z c) t ∙ f.1 in
      give (access_of r.made (written (k ∷ p)) c) (λ b. b.strong && begins_behind r b.mode (written (k ∷ p)) (written q) c) y.access y.found
      (and_both y.strong_ (ap (λ (m : Mode). begins_behind r m (written (k ∷ p)) (written q) c) y.mode
      ∙ give (parted 0 (written (k ∷ p)) (written q)) (λ n. is_change (access_of r.made (take (suc n) (written q)) c)) (length (written a.path)) (ahead_test a)
      (some_change _ f.0 i (is_no_read f.0.mode (λ u. d.changed (subst IsRead (sym f.2) u))))))

  -- an act for a cell

  on_forth : (p : List ℕ) (n : ℕ) (q : List ℕ) (c : ℕ) → HasAccess s c q → waits_on_test r (written p) n (written q) c ≡ true → WaitsFor P s (Acting p n) (Giving q c)
  on_forth p n q c h e =
      let g = and_parts (below (written p) (written q)) (was_made_before r.made (child_on_way (written p) (written q)) n && has_at r.notes (sought.Names c) (written p) n) e in
      let b = below_path p q g.0 in
      let f = and_parts (was_made_before r.made (child_on_way (written p) (written q)) n) (has_at r.notes (sought.Names c) (written p) n) g.1 in
      let x = found_of P main s ms made ended r so (sought.Names c) p n f.1 in
      let m : was_made_before r.made (written (b.number ∷ p)) n ≡ true = sym (ap (λ (z : List ℕ). was_made_before r.made z n) b.child) ∙ f.0 in
      let l = (before_forth P main s ms made r so b.number x.does m).0 in
      waits_on (subst (λ (a : Act S). Does P s p n x.created a) x.sense.1 x.does) l x.sense.2 (above_all P main s made nothing c b.number p b.below h) (at_or_below P main s made nothing c b.number p b.below h)

  pub act_cell_forth : (p : List ℕ) (n : ℕ) (q : List ℕ) (c k : ℕ) (a : Act S) → Does P s p n k a → act_waits_cell r (written p) n (written q) c ≡ true → WaitsFor P s (Acting p n) (Giving q c)
  act_cell_forth p n q c k a d h = go (or_parts _ _ g.1)
    where
      g : (has_access r.made (written q) c ≡ true) × (((nat_eq n 0 && starts_behind r (written p) (written q) c) || (waits_below r (written p) n (written q) || waits_on_test r (written p) n (written q) c)) ≡ true)
      g = and_parts _ _ h

      acc : HasAccess s c q
      acc = access_forth P main s ms made r so q c g.0

      first : (o : List ℕ) → p ≡ o → n ≡ 0 → starts_behind r (written o) (written q) c ≡ true → WaitsFor P s (Acting p n) (Giving q c)
      first [] e z t =
          let x = given (access_of r.made (written []) c) (λ b. b.strong && begins_behind r b.mode (written []) (written q) c) t in
          let y = right_in [] c x.0 x.1 in
          absurd (empty y.number y.path y.path_is)
        where
          empty : (j : ℕ) (o : List ℕ) → [] ≡ j ∷ o → ⊥
          empty j o i = cc
      first (j ∷ o) e z t =
          subst (λ (x : List ℕ). WaitsFor P s (Acting x n) (Giving q c)) (sym e) (subst (λ (i : ℕ). WaitsFor P s (Acting (j ∷ o) i) (Giving q c)) (sym z)
          (starts_forth j o q c k a (subst (λ (x : List ℕ). Does P s x 0 k a) e (subst (λ (i : ℕ). Does P s p i k a) z d)) acc t))

      rest : (waits_below r (written p) n (written q) ≡ true) ⊎ (waits_on_test r (written p) n (written q) c ≡ true) → WaitsFor P s (Acting p n) (Giving q c)
      rest (inl e) = left_waits P main s ms made ended r so (below_forth P main s ms made ended r so p n q e) (last_cell acc)
      rest (inr e) = on_forth p n q c acc e

      go : ((nat_eq n 0 && starts_behind r (written p) (written q) c) ≡ true) ⊎ ((waits_below r (written p) n (written q) || waits_on_test r (written p) n (written q) c) ≡ true) → WaitsFor P s (Acting p n) (Giving q c)
      go (inl e) = let f = and_parts (nat_eq n 0) (starts_behind r (written p) (written q) c) e in first p refl (is_same n 0 f.0) f.1
      go (inr e) = rest (or_parts _ _ e)

  -- a cell of a task below another is one of a task that was created
  pub cell_below : (i : ℕ) (p q : List ℕ) (c : ℕ) → IsSuffix (i ∷ p) q → HasAccess s c q → has_access r.made (written q) c ≡ true
  cell_below i p [] c b h = elim b [ ]
  cell_below i p (k ∷ q) c b h = access_back P main s ms made r so k q c h

  left_test : (p : List ℕ) (n : ℕ) (q : List ℕ) (c : ℕ) → HasAccess s c q → WaitsBelow P main s ms made ended r so p n q → act_waits_cell r (written p) n (written q) c ≡ true
  left_test p n q c h w =
      and_both (cell_below w.child p q c w.below_it h) (or_right (nat_eq n 0 && starts_behind r (written p) (written q) c)
      (or_left (waits_on_test r (written p) n (written q) c) (below_back P main s ms made ended r so p n q h.task h.at_ w)))

  first_test : (k : ℕ) (p q : List ℕ) (c : ℕ) → IsAhead P s c (k ∷ p) q → starts_behind r (written (k ∷ p)) (written q) c ≡ true → act_waits_cell r (written (k ∷ p)) 0 (written q) c ≡ true
  first_test k p q c a e = and_both (cell_below a.first a.path q c a.below_first a.access) (or_left (waits_below r (written (k ∷ p)) 0 (written q) || waits_on_test r (written (k ∷ p)) 0 (written q) c) (and_both (same_eq 0 0 refl) e))

  pub act_cell_back : (p : List ℕ) (n : ℕ) (q : List ℕ) (c : ℕ) → WaitsFor P s (Acting p n) (Giving q c) → act_waits_cell r (written p) n (written q) c ≡ true
  act_cell_back p n q c (reads {p = o} {k = k} d x m) = let f = read_changed P main s made nothing c m in first_test k o q c f.ahead (reads_back k o q c x f)
  act_cell_back p n q c (writes {p = o} {k = k} d x m) = let f = write_ahead P s c m in first_test k o q c f (writes_back k o q c x f)
  act_cell_back p n q c (waits {i = i} d l b (last_cell h)) = left_test p n q c h (record { child = i; below_it = b; waits_for = by_wait d l })
  act_cell_back p n q c (awaits {i = i} d b (last_cell h)) = left_test p n q c h (record { child = i; below_it = b; waits_for = by_await d })
  act_cell_back p n q c (waits_on {k = k} {i = i} {named = named} d l m a b) =
      let u = under P s c b a in
      and_both (cell_below i p q c u.0 u.1) (or_right (nat_eq n 0 && starts_behind r (written p) (written q) c) (or_right (waits_below r (written p) n (written q))
      (and_both (path_below i p u.0) (and_both (ap (λ (z : List ℕ). was_made_before r.made z n) (take_child i p u.0) ∙ before_back P main s ms made r so i a.task d a.at_ l)
      (found_at P main s made ended r so (sought.Names c) p n (record { created = k; act = WaitedOn named; does = d; sense = (named, refl, m) }))))))
