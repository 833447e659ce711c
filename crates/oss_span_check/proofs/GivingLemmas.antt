-- By the notes of a run a cell that is given up waits for an act, or for a cell, just where it does in the run.
use Rattle.std.proofs.Common.{◌≡◌, ◌<◌, ◌⊎◌, inl, inr, refl, sym, subst, ap, ◌∙◌, ℕ, suc, true, false, List, [], ◌∷◌, length, Option, Some, arith}
use Rattle.std.specs.Prelude.{nat_eq, not, ◌||◌, ◌&&◌}
use Rattle.std.specs.List.{list_any}
use Rattle.oss_syntax.specs.declared.access.Access.{Access}
use Rattle.oss_syntax.specs.declared.access.Mode.{Mode}
use Rattle.oss_syntax.specs.declared.access.Mode.TheVariants.{Read, Write, Fold}
use Rattle.oss_syntax.specs.declared.access.Op.{Op}
use Rattle.oss_model.specs.Agreement.{MainStarts}
use Rattle.oss_model.specs.Bodies.{Act, Program, Start}
use Rattle.oss_model.specs.Bodies.Act.{Releases}
use Rattle.oss_model.specs.Context.{right_of}
use Rattle.oss_model.specs.Forest.{InRun}
use Rattle.oss_model.specs.History.{IsMade}
use Rattle.oss_model.specs.Machine.{At, HasAccess, State, Task, accesses, find as find_task, IsEarlier, is_earlier, mode_in}
use Rattle.oss_model.specs.Order.{IsIn, IsSuffix, whole, written}
use Rattle.oss_model.specs.Rights.{Right, Holds}
use Rattle.oss_model.proofs.TreeLemmas.{at_same, mode_is}
use Rattle.oss_chain_laws.specs.Happenings.{Happening, Acting, Giving, Does, EndsWith, Frees, IsLeft, last_act, last_cell, KeepsCell, StartsWith, WaitsFor, released, ends, ends_below, joins}
use Rattle.oss_chain_laws.specs.Named.{JoinNames}
use Rattle.oss_chain_laws.proofs.WaitLemmas.{IsAhead}
use Rattle.oss_chain_laws.proofs.CheckLemmas.{above_all}
use Rattle.oss_chain_laws.proofs.CheckJoinLemmas.{IsFoldedAhead, folded_join, join_folded}
use Rattle.oss_span_check.specs.declared.note.Made.{Made}
use Rattle.oss_span_check.specs.declared.record.Record.{Record}
use Rattle.oss_span_check.specs.declared.sought.Sought.TheVariants as sought
use Rattle.oss_span_check.specs.Points.{below, parted, same_point}
use Rattle.oss_span_check.specs.Queries.{access_in, access_of, has_access, has_at, has_some, has_wait, is_last, made_of}
use Rattle.oss_span_check.specs.Records.{IsRecord}
use Rattle.oss_span_check.specs.Waiting.{breaks, cell_waits_act, cell_waits_cell, frees_at, in_run, is_fold, is_folded, is_folded_at, is_freed, is_join, is_joined_by, is_number, is_some_fold, is_unfolded, joins_behind, keeps_for, mode_joins_behind}
use Rattle.oss_span_check.proofs.ListLemmas.{and_both, and_parts, any_in, bools, give, given, in_any, not_true, or_left, or_parts, or_right, true_not}
use Rattle.oss_span_check.proofs.MadeLemmas.{Begun, HoldsBy, RightAt, access_back, access_child, access_forth, before_back, before_forth, begun, made_back, made_forth, mode_of_right, newest_back, newest_forth, right_back, right_forth}
use Rattle.oss_span_check.proofs.NoteLemmas.{Found, found_at, found_some, is_last_back, is_last_forth, some_found}
use Rattle.oss_span_check.proofs.PointLemmas.{Below, Parts, below_path, child_is, is_child_of, parted_paths, path_below, paths_parted, same_is, same_level, same_self, take_child, written_same}
use Rattle.oss_span_check.proofs.WaitingLemmas.{fold_is, folded_is, found_of, is_same, is_the_fold, is_the_number, joined_is, nothing, number_is, same_eq, unfolded_is}
use Rattle.oss_span_check.proofs.CellLemmas.{access_mode, access_with, ahead_test, cell_below, has_right, mode_at, starts_with}

-- the number of a child
abbrev number_of : List ℕ → ℕ
number_of [] = 0
number_of (k ∷ p) = k

unfolded_when : (op : Op) (o : Option Access) (a : Access) → o ≡ Some a → is_fold op a.mode ≡ false → is_unfolded op o ≡ true
unfolded_when op o a e h = ap (λ (x : Option Access). is_unfolded op x) e ∙ ap not h

folded_when : (op : Op) (o : Option Access) (a : Access) → o ≡ Some a → a.mode ≡ Fold op → is_folded op o ≡ true
folded_when op o a e h = ap (λ (x : Option Access). is_folded op x) e ∙ is_the_fold op a.mode h

joined_when : (op : Op) (o : Option Access) (a : Access) → o ≡ Some a → a.strong ≡ true → a.mode ≡ Fold op → is_joined_by o ≡ true
joined_when op o a e k h = ap is_joined_by e ∙ and_both k (ap is_some_fold h)

module _ {S : Type 0} (P : Program S) (main : Start S) (s : State S) (ms : MainStarts main) (made : IsMade P main s) (ended : (p : List ℕ) (u : Task S) → At s p u → (n : ℕ) × EndsWith P s p n) (r : Record) (so : IsRecord P s r) where
  -- the runs of reductions

  earlier_less : (c : ℕ) (u v : List ℕ) → IsEarlier s c u v → number_of u < number_of v
  earlier_less c u v (is_earlier l h) = l

  earlier_access : (c : ℕ) (u v : List ℕ) → IsEarlier s c u v → HasAccess s c u
  earlier_access c u v (is_earlier l h) = h

  -- a task that was created, as a sibling of two others on one level
  record Between (c : ℕ) (a : List ℕ) (i j : ℕ) (m : Made) : Type 0 where
    number : ℕ
    point : m.point ≡ written (number ∷ a)
    more : i < number
    less : number < j
    listed : IsIn m r.made

  between : (op : Op) (c : ℕ) (p q : List ℕ) (a : List ℕ) (i j : ℕ) (m : Made) → IsIn m r.made → IsSuffix (i ∷ a) q → IsSuffix (j ∷ a) p → breaks op (length (written a)) (written p) (written q) c m ≡ true → Between c a i j m × (is_unfolded op (access_in m.accesses c) ≡ true)
  between op c p q a i j m l b d h = (record { number = t.number; point = t.point ∙ ap (λ (x : List ℕ). written (t.number ∷ x)) level.1; more = more; less = less; listed = l }, z.1)
    where
      x : (nat_eq (length m.point) (suc (length (written a))) ≡ true) × ((is_number (parted 0 m.point (written q)) (length (written a)) && (is_number (parted 0 (written p) m.point) (length (written a)) && is_unfolded op (access_in m.accesses c))) ≡ true)
      x = and_parts _ _ h

      y : (is_number (parted 0 m.point (written q)) (length (written a)) ≡ true) × ((is_number (parted 0 (written p) m.point) (length (written a)) && is_unfolded op (access_in m.accesses c)) ≡ true)
      y = and_parts _ _ x.1

      z : (is_number (parted 0 (written p) m.point) (length (written a)) ≡ true) × (is_unfolded op (access_in m.accesses c) ≡ true)
      z = and_parts _ _ y.1

      t : Rattle.oss_span_check.specs.Records.IsMadeSo P s m
      t = so.made_so m l

      long : length (written t.path) ≡ length (written a)
      long =
          let e : length m.point ≡ suc (length (written a)) = is_same (length m.point) (suc (length (written a))) x.0 in
          let f : length m.point ≡ length (written (t.number ∷ t.path)) = ap (λ (v : List ℕ). length v) t.point in
          let g = Rattle.oss_span_check.proofs.PointLemmas.length_child t.path t.number in
          omega (arith, e, f, g)

      first : Parts (t.number ∷ t.path) q (length (written a))
      first = parted_paths (t.number ∷ t.path) q (length (written a)) (ap (λ (v : List ℕ). parted 0 v (written q)) (sym t.point) ∙ number_is (parted 0 m.point (written q)) (length (written a)) y.0)

      second : Parts p (t.number ∷ t.path) (length (written a))
      second = parted_paths p (t.number ∷ t.path) (length (written a)) (ap (λ (v : List ℕ). parted 0 (written p) v) (sym t.point) ∙ number_is (parted 0 (written p) m.point) (length (written a)) z.0)

      -- both part from it at its own number
      one : (first.first ≡ i) × (first.path ≡ a)
      one = same_level first.first i first.path a first.below_first b (sym first.place)

      own : (first.second ≡ t.number) × (first.path ≡ t.path)
      own = same_level {q = t.number ∷ t.path} first.second t.number first.path t.path first.below_second whole (sym first.place ∙ sym long)

      other : (second.second ≡ j) × (second.path ≡ a)
      other = same_level second.second j second.path a second.below_second d (sym second.place)

      same : (second.first ≡ t.number) × (second.path ≡ t.path)
      same = same_level {q = t.number ∷ t.path} second.first t.number second.path t.path second.below_first whole (sym second.place ∙ sym long)

      level : (first.second ≡ t.number) × (t.path ≡ a)
      level = (own.0, sym own.1 ∙ one.1)

      more : i < t.number
      more = let e = first.less in let f = one.0 in let g = own.0 in omega (arith, e, f, g)

      less : t.number < j
      less = let e = second.less in let f = other.0 in let g = same.0 in omega (arith, e, f, g)

  -- a sibling between them that is not in the run
  breaks_when : (op : Op) (c : ℕ) (p q : List ℕ) (a : List ℕ) (i n j : ℕ) (m : Made) → m.point ≡ written (n ∷ a) → i < n → n < j → IsSuffix (i ∷ a) q → IsSuffix (j ∷ a) p → is_unfolded op (access_in m.accesses c) ≡ true → breaks op (length (written a)) (written p) (written q) c m ≡ true
  breaks_when op c p q a i n j m e l k b d u =
      and_both (same_eq (length m.point) (suc (length (written a))) (ap (λ (v : List ℕ). length v) e ∙ Rattle.oss_span_check.proofs.PointLemmas.length_child a n))
      (and_both (is_the_number (parted 0 m.point (written q)) (length (written a)) (ap (λ (v : List ℕ). parted 0 v (written q)) e ∙ paths_parted i n a {p = n ∷ a} {q = q} l b whole))
      (and_both (is_the_number (parted 0 (written p) m.point) (length (written a)) (ap (λ (v : List ℕ). parted 0 (written p) v) e ∙ paths_parted n j a {p = p} {q = n ∷ a} k whole d)) u))

  -- the right of a task by what is noted of it
  access_noted : (n : ℕ) (a : List ℕ) (m : Made) (c : ℕ) → IsIn m r.made → m.point ≡ written (n ∷ a) → HasAccess s c (n ∷ a) → (b : Access) × (access_in m.accesses c ≡ Some b) × (mode_in (find_task s.tasks (n ∷ a)) c ≡ b.mode)
  access_noted n a m c l e h =
      let t = so.made_so m l in
      let q : n ∷ a ≡ t.number ∷ t.path = written_same (n ∷ a) (t.number ∷ t.path) (sym e ∙ t.point) in
      let u : h.task ≡ t.task = at_same s (n ∷ a) h.task t.task h.at_ (subst (λ (x : List ℕ). At s x t.task) (sym q) t.at_) in
      let i = subst (λ (w : Task S). Rattle.oss_span_check.specs.Records.IsRight (right_of w.body.start.context c) (access_in m.accesses c)) (sym u) (t.rights c) in
      let x = Rattle.oss_span_check.proofs.MadeLemmas.access_held (access_in m.accesses c) h.mode h.strong (subst (λ (z : Right). Rattle.oss_span_check.specs.Records.IsRight z (access_in m.accesses c)) h.right i) in
      (x.0, x.1, mode_is s c (n ∷ a) h.mode (record { task = h.task; at_ = h.at_; strong = h.strong; right = h.right }) ∙ sym x.2)

  noted_access : (n : ℕ) (a : List ℕ) (m : Made) (c : ℕ) (b : Access) → IsIn m r.made → m.point ≡ written (n ∷ a) → access_in m.accesses c ≡ Some b → HasAccess s c (n ∷ a) × (mode_in (find_task s.tasks (n ∷ a)) c ≡ b.mode)
  noted_access n a m c b l e f =
      let t = so.made_so m l in
      let q : n ∷ a ≡ t.number ∷ t.path = written_same (n ∷ a) (t.number ∷ t.path) (sym e ∙ t.point) in
      let k = Rattle.oss_span_check.proofs.MadeLemmas.held_of (right_of t.task.body.start.context c) b (subst (λ (o : Option Access). Rattle.oss_span_check.specs.Records.IsRight (right_of t.task.body.start.context c) o) f (t.rights c)) in
      let at = subst (λ (x : List ℕ). At s x t.task) (sym q) t.at_ in
      (record { task = t.task; at_ = at; mode = b.mode; strong = b.strong; right = k }, mode_is s c (n ∷ a) b.mode (record { task = t.task; at_ = at; strong = b.strong; right = k }))

  run_test : (op : Op) (p q : List ℕ) (c : ℕ) → HasAccess s c p → (a : IsAhead P s c p q) → mode_in (find_task s.tasks (a.second ∷ a.path)) c ≡ Fold op → InRun (accesses s c) op (a.first ∷ a.path) (a.second ∷ a.path) → in_run r op (length (written a.path)) (written p) (written q) c ≡ true
  run_test op p q c h a e run =
      let x = access_mode P main s ms made ended r so a.second a.path c (above_all P main s made nothing c a.second a.path a.below_second h) in
      let y = access_mode P main s ms made ended r so a.first a.path c (above_all P main s made nothing c a.first a.path a.below_first a.access) in
      and_both (ap (λ (z : List ℕ). is_folded op (access_of r.made z c)) (take_child a.second a.path a.below_second) ∙ folded_when op (access_of r.made (written (a.second ∷ a.path)) c) x.0 x.1 (sym x.2 ∙ e))
      (and_both (ap (λ (z : List ℕ). is_folded op (access_of r.made z c)) (take_child a.first a.path a.below_first) ∙ folded_when op (access_of r.made (written (a.first ∷ a.path)) c) y.0 y.1 (sym y.2 ∙ run.first))
      (true_not (list_any (λ m. breaks op (length (written a.path)) (written p) (written q) c m) r.made) none))
    where
      none : list_any (λ m. breaks op (length (written a.path)) (written p) (written q) c m) r.made ≡ true → ⊥
      none t =
          let m = any_in (λ m. breaks op (length (written a.path)) (written p) (written q) c m) r.made t in
          let b = between op c p q a.path a.first a.second m.0 m.1 a.below_first a.below_second m.2 in
          let f = unfolded_is op (access_in m.0.accesses c) b.1 in
          let g = noted_access b.0.number a.path m.0 c f.0 m.1 b.0.point f.1 in
          let w = run.between (b.0.number ∷ a.path) (is_earlier b.0.more (above_all P main s made nothing c a.first a.path a.below_first a.access)) (is_earlier b.0.less g.0) in
          not_true (is_fold op f.0.mode) f.2 (is_the_fold op f.0.mode (sym g.1 ∙ w))

  run_is : (op : Op) (p q : List ℕ) (c : ℕ) (a : IsAhead P s c p q) → in_run r op (length (written a.path)) (written p) (written q) c ≡ true → (mode_in (find_task s.tasks (a.second ∷ a.path)) c ≡ Fold op) × InRun (accesses s c) op (a.first ∷ a.path) (a.second ∷ a.path)
  run_is op p q c a t =
      let second = folded_is op (access_of r.made (written (a.second ∷ a.path)) c) (ap (λ (z : List ℕ). is_folded op (access_of r.made z c)) (sym (take_child a.second a.path a.below_second)) ∙ g.0) in
      let first = folded_is op (access_of r.made (written (a.first ∷ a.path)) c) (ap (λ (z : List ℕ). is_folded op (access_of r.made z c)) (sym (take_child a.first a.path a.below_first)) ∙ f.0) in
      (mode_at P main s ms made ended r so (a.second ∷ a.path) c second.0 second.1 ∙ second.2, record { first = mode_at P main s ms made ended r so (a.first ∷ a.path) c first.0 first.1 ∙ first.2; between = each })
    where
      g : (is_folded_at r.made op (written p) (length (written a.path)) c ≡ true) × ((is_folded_at r.made op (written q) (length (written a.path)) c && not (list_any (λ m. breaks op (length (written a.path)) (written p) (written q) c m) r.made)) ≡ true)
      g = and_parts _ _ t

      f : (is_folded_at r.made op (written q) (length (written a.path)) c ≡ true) × (not (list_any (λ m. breaks op (length (written a.path)) (written p) (written q) c m) r.made) ≡ true)
      f = and_parts _ _ g.1

      one : (n : ℕ) → a.first < n → n < a.second → HasAccess s c (n ∷ a.path) → mode_in (find_task s.tasks (n ∷ a.path)) c ≡ Fold op
      one n l k h = go (bools (is_fold op b.0.mode))
        where
          m : Rattle.oss_span_check.specs.Records.HasMade r.made (n ∷ a.path)
          m = so.made n a.path h.task h.at_

          b : (x : Access) × (access_in m.item.accesses c ≡ Some x) × (mode_in (find_task s.tasks (n ∷ a.path)) c ≡ x.mode)
          b = access_noted n a.path m.item c m.listed m.point h

          go : (is_fold op b.0.mode ≡ true) ⊎ (is_fold op b.0.mode ≡ false) → mode_in (find_task s.tasks (n ∷ a.path)) c ≡ Fold op
          go (inl e) = b.2 ∙ fold_is op b.0.mode e
          go (inr e) =
              absurd (not_true (list_any (λ m. breaks op (length (written a.path)) (written p) (written q) c m) r.made) f.1
              (in_any (λ m. breaks op (length (written a.path)) (written p) (written q) c m) r.made m.item m.listed
              (breaks_when op c p q a.path a.first n a.second m.item m.point l k a.below_first a.below_second (unfolded_when op (access_in m.item.accesses c) b.0 b.1 e))))

      each : (w : List ℕ) → (accesses s c).Earlier (a.first ∷ a.path) w → (accesses s c).Earlier w (a.second ∷ a.path) → mode_in (find_task s.tasks w) c ≡ Fold op
      each w (is_earlier {k = n} l h) u = one n l (earlier_less c (n ∷ a.path) (a.second ∷ a.path) u) (earlier_access c (n ∷ a.path) (a.second ∷ a.path) u)

  -- joins

  joins_forth : (p q : List ℕ) (c : ℕ) → HasAccess s c q → joins_behind r (written p) (written q) c ≡ true → (op : Op) × StartsWith s p c (Holds (Fold op) true) × JoinNames (accesses s c) op p q
  joins_forth p q c h e = by_mode g.0.mode refl x.1
    where
      g : (a : Access) × (access_of r.made (written p) c ≡ Some a) × ((a.strong && mode_joins_behind r a.mode (written p) (written q) c) ≡ true)
      g = given (access_of r.made (written p) c) (λ a. a.strong && mode_joins_behind r a.mode (written p) (written q) c) e

      x : (g.0.strong ≡ true) × (mode_joins_behind r g.0.mode (written p) (written q) c ≡ true)
      x = and_parts g.0.strong (mode_joins_behind r g.0.mode (written p) (written q) c) g.2

      own : HasAccess s c p
      own = has_right P main s ms made ended r so p c g.0 g.1

      by_mode : (m : Mode) → g.0.mode ≡ m → mode_joins_behind r m (written p) (written q) c ≡ true → (op : Op) × StartsWith s p c (Holds (Fold op) true) × JoinNames (accesses s c) op p q
      by_mode Read m t = absurd (let w : false ≡ true = t in cc)
      by_mode Write m t = absurd (let w : false ≡ true = t in cc)
      by_mode (Fold op) m t =
          let n = given (parted 0 (written p) (written q)) (λ n. not (in_run r op n (written p) (written q) c)) t in
          let y = parted_paths p q n.0 n.1 in
          let a : IsAhead P s c p q = record { path = y.path; first = y.first; second = y.second; less = y.less; below_first = y.below_first; below_second = y.below_second; access = h } in
          let v : not (in_run r op (length (written y.path)) (written p) (written q) c) ≡ true = ap (λ (d : ℕ). not (in_run r op d (written p) (written q) c)) (sym y.place) ∙ n.2 in (
            op,
            starts_with P main s ms made ended r so p c g.0 (Fold op) g.1 x.0 m,
            folded_join P main s made nothing c op own (mode_at P main s ms made ended r so p c g.0 g.1 ∙ m)
                (record { ahead = record { path = y.path; first = y.first; second = y.second; less = y.less; below_first = y.below_first; below_second = y.below_second; access = h }; outside = λ i run. not_true (in_run r op (length (written y.path)) (written p) (written q) c) v (run_test op p q c own a i run) }),
          )

  joins_back : (k : ℕ) (p q : List ℕ) (c : ℕ) (op : Op) → StartsWith s (k ∷ p) c (Holds (Fold op) true) → IsFoldedAhead P main s made nothing c op (k ∷ p) q → joins_behind r (written (k ∷ p)) (written q) c ≡ true
  joins_back k p q c op x d =
      let a = d.ahead in
      let y = access_with P main s ms made ended r so k p c (Fold op) x in
      give (access_of r.made (written (k ∷ p)) c) (λ b. b.strong && mode_joins_behind r b.mode (written (k ∷ p)) (written q) c) y.access y.found
      (and_both y.strong_ (ap (λ (m : Mode). mode_joins_behind r m (written (k ∷ p)) (written q) c) y.mode
      ∙ give (parted 0 (written (k ∷ p)) (written q)) (λ n. not (in_run r op n (written (k ∷ p)) (written q) c)) (length (written a.path)) (ahead_test P main s ms made ended r so a)
      (true_not (in_run r op (length (written a.path)) (written (k ∷ p)) (written q) c) (λ t. let i = run_is op (k ∷ p) q c a t in d.outside i.0 i.1))))

  -- releases

  pub join_forth : (p : List ℕ) (c : ℕ) → is_join r (written p) c ≡ true → (op : Op) × StartsWith s p c (Holds (Fold op) true)
  join_forth p c h =
      let x = joined_is (access_of r.made (written p) c) h in
      (x.1, starts_with P main s ms made ended r so p c x.0 (Fold x.1) x.2 x.3 x.4)

  pub join_back : (k : ℕ) (p : List ℕ) (c : ℕ) (op : Op) → StartsWith s (k ∷ p) c (Holds (Fold op) true) → is_join r (written (k ∷ p)) c ≡ true
  join_back k p c op x = let y = access_with P main s ms made ended r so k p c (Fold op) x in joined_when op (access_of r.made (written (k ∷ p)) c) y.access y.found y.strong_ y.mode

  frees_of : (k : ℕ) (p : List ℕ) (c n : ℕ) → Found P main s made ended r so (sought.Frees c) (k ∷ p) n → not (is_join r (written (k ∷ p)) c) ≡ true → Frees P s (k ∷ p) c n
  frees_of k p c n f h = record {
    created = f.created;
    clauses = f.sense.0;
    does = subst (λ (a : Act S). Does P s (k ∷ p) n f.created a) f.sense.1 f.does;
    named = f.sense.2;
    plain = λ op x. not_true (is_join r (written (k ∷ p)) c) h (join_back k p c op x);
  }

  of_frees : (p : List ℕ) (c n : ℕ) → Frees P s p c n → Found P main s made ended r so (sought.Frees c) p n × (not (is_join r (written p) c) ≡ true)
  of_frees p c n f = (record { created = f.created; act = Releases f.clauses false; does = f.does; sense = (f.clauses, refl, f.named) }, true_not (is_join r (written p) c) (λ h. let x = join_forth p c h in f.plain x.0 x.1))

  kept_forth : (k : ℕ) (p : List ℕ) (c : ℕ) → not (is_freed r (written (k ∷ p)) c) ≡ true → (n : ℕ) → Frees P s (k ∷ p) c n → ⊥
  kept_forth k p c h n f =
      let x = of_frees (k ∷ p) c n f in
      not_true (is_freed r (written (k ∷ p)) c) h (and_both (found_some P main s made ended r so (sought.Frees c) (k ∷ p) n x.0) x.1)

  kept_back : (k : ℕ) (p : List ℕ) (c : ℕ) → ((n : ℕ) → Frees P s (k ∷ p) c n → ⊥) → not (is_freed r (written (k ∷ p)) c) ≡ true
  kept_back k p c none = true_not (is_freed r (written (k ∷ p)) c) go
    where
      go : is_freed r (written (k ∷ p)) c ≡ true → ⊥
      go h =
          let g = and_parts (has_some r.notes (sought.Frees c) (written (k ∷ p))) (not (is_join r (written (k ∷ p)) c)) h in
          let f = some_found P main s made ended r so (sought.Frees c) (k ∷ p) g.0 in
          none f.0 (frees_of k p c f.0 f.1 g.1)

  wait_forth : (k : ℕ) (p : List ℕ) (u : Task S) → At s (k ∷ p) u → has_wait r.made (written (k ∷ p)) ≡ true → u.body.start.order.wait ≡ true
  wait_forth k p u h e =
      let g = given (made_of r.made (written (k ∷ p))) (λ m. m.wait) e in
      let b = begun P main s ms made r so k p g.0 g.1 in
      ap (λ (t : Task S). t.body.start.order.wait) (at_same s (k ∷ p) u b.task h b.at_) ∙ (sym b.wait ∙ g.2)

  wait_back : (k : ℕ) (p : List ℕ) (u : Task S) → At s (k ∷ p) u → u.body.start.order.wait ≡ true → has_wait r.made (written (k ∷ p)) ≡ true
  wait_back k p u h e =
      let m = made_back P main s ms made r so k p u h in
      let b = begun P main s ms made r so k p m.0 m.1 in
      give (made_of r.made (written (k ∷ p))) (λ m. m.wait) m.0 m.1 (b.wait ∙ (ap (λ (t : Task S). t.body.start.order.wait) (at_same s (k ∷ p) b.task u b.at_ h) ∙ e))

  keeps_forth : (k : ℕ) (p : List ℕ) (c : ℕ) (q : List ℕ) (f : Happening) → HasAccess s c (k ∷ p) → IsLeft P s q f → keeps_for r (written (k ∷ p)) c (written q) ≡ true → WaitsFor P s (Giving (k ∷ p) c) f
  keeps_forth k p c q f h l e =
      let g = and_parts (not (is_freed r (written (k ∷ p)) c)) (has_wait r.made (written (k ∷ p)) && below (written (k ∷ p)) (written q)) e in
      let i = and_parts (has_wait r.made (written (k ∷ p))) (below (written (k ∷ p)) (written q)) g.1 in
      let b = below_path (k ∷ p) q i.1 in
      ends_below (record { task = h.task; at_ = h.at_; access = h; kept = kept_forth k p c g.0; wait_is = wait_forth k p h.task h.at_ i.0 }) b.below l

  keeps_back : (k : ℕ) (p : List ℕ) (c i : ℕ) (q : List ℕ) → KeepsCell P s (k ∷ p) c true → IsSuffix (i ∷ k ∷ p) q → keeps_for r (written (k ∷ p)) c (written q) ≡ true
  keeps_back k p c i q x b = and_both (kept_back k p c x.kept) (and_both (wait_back k p x.task x.at_ x.wait_is) (path_below i (k ∷ p) b))

  -- a cell for an act

  cell_act_at : (k : ℕ) (p : List ℕ) (c : ℕ) (q : List ℕ) (m : ℕ) → cell_waits_act r (written (k ∷ p)) c (written q) m ≡ true → WaitsFor P s (Giving (k ∷ p) c) (Acting q m)
  cell_act_at k p c q m h = go (or_parts _ _ g.1)
    where
      g : (has_access r.made (written (k ∷ p)) c ≡ true) × (((same_point (written (k ∷ p)) (written q) && frees_at r (written (k ∷ p)) c m) || (is_last r.notes (written q) m && ((same_point (written (k ∷ p)) (written q) && not (is_freed r (written (k ∷ p)) c)) || keeps_for r (written (k ∷ p)) c (written q)))) ≡ true)
      g = and_parts _ _ h

      acc : HasAccess s c (k ∷ p)
      acc = access_forth P main s ms made r so (k ∷ p) c g.0

      path_is : same_point (written (k ∷ p)) (written q) ≡ true → k ∷ p ≡ q
      path_is e = written_same (k ∷ p) q (same_is {p = written (k ∷ p)} {q = written q} e)

      rest : EndsWith P s q m → ((same_point (written (k ∷ p)) (written q) && not (is_freed r (written (k ∷ p)) c)) ≡ true) ⊎ (keeps_for r (written (k ∷ p)) c (written q) ≡ true) → WaitsFor P s (Giving (k ∷ p) c) (Acting q m)
      rest end (inl e) =
          let f = and_parts (same_point (written (k ∷ p)) (written q)) (not (is_freed r (written (k ∷ p)) c)) e in
          let i = path_is f.0 in
          subst (λ (x : List ℕ). WaitsFor P s (Giving (k ∷ p) c) (Acting x m)) i
          (ends (record { task = acc.task; at_ = acc.at_; access = acc; kept = kept_forth k p c f.1; wait_is = refl }) (subst (λ (x : List ℕ). EndsWith P s x m) (sym i) end))
      rest end (inr e) = keeps_forth k p c q (Acting q m) acc (last_act end) e

      go : ((same_point (written (k ∷ p)) (written q) && frees_at r (written (k ∷ p)) c m) ≡ true) ⊎ ((is_last r.notes (written q) m && ((same_point (written (k ∷ p)) (written q) && not (is_freed r (written (k ∷ p)) c)) || keeps_for r (written (k ∷ p)) c (written q))) ≡ true) → WaitsFor P s (Giving (k ∷ p) c) (Acting q m)
      go (inl e) =
          let f = and_parts (same_point (written (k ∷ p)) (written q)) (frees_at r (written (k ∷ p)) c m) e in
          let i = and_parts (has_at r.notes (sought.Frees c) (written (k ∷ p)) m) (not (is_join r (written (k ∷ p)) c)) f.1 in
          let x = found_of P main s ms made ended r so (sought.Frees c) (k ∷ p) m i.0 in
          subst (λ (x : List ℕ). WaitsFor P s (Giving (k ∷ p) c) (Acting x m)) (path_is f.0) (released acc (frees_of k p c m x i.1))
      go (inr e) =
          let f = and_parts (is_last r.notes (written q) m) ((same_point (written (k ∷ p)) (written q) && not (is_freed r (written (k ∷ p)) c)) || keeps_for r (written (k ∷ p)) c (written q)) e in
          rest (is_last_forth P main s made ended r so q m f.0) (or_parts _ _ f.1)

  pub cell_act_forth : (p : List ℕ) (c : ℕ) (q : List ℕ) (m : ℕ) → cell_waits_act r (written p) c (written q) m ≡ true → WaitsFor P s (Giving p c) (Acting q m)
  cell_act_forth p c q m h =
      let g = and_parts (has_access r.made (written p) c) ((same_point (written p) (written q) && frees_at r (written p) c m) || (is_last r.notes (written q) m && ((same_point (written p) (written q) && not (is_freed r (written p) c)) || keeps_for r (written p) c (written q)))) h in
      let x = access_child P main s ms made r so p c g.0 in
      subst (λ (y : List ℕ). WaitsFor P s (Giving y c) (Acting q m)) (sym x.2) (cell_act_at x.0 x.1 c q m (ap (λ (y : List ℕ). cell_waits_act r (written y) c (written q) m) (sym x.2) ∙ h))

  pub cell_act_back : (p : List ℕ) (c : ℕ) (q : List ℕ) (m : ℕ) → WaitsFor P s (Giving p c) (Acting q m) → cell_waits_act r (written p) c (written q) m ≡ true
  cell_act_back p c q m (released {p = o} {j = j} acc f) =
      let x = of_frees (j ∷ o) c m f in
      and_both (access_back P main s ms made r so j o c acc)
      (or_left (is_last r.notes (written (j ∷ o)) m && ((same_point (written (j ∷ o)) (written (j ∷ o)) && not (is_freed r (written (j ∷ o)) c)) || keeps_for r (written (j ∷ o)) c (written (j ∷ o))))
      (and_both (same_self (written (j ∷ o))) (and_both (found_at P main s made ended r so (sought.Frees c) (j ∷ o) m x.0) x.1)))
  cell_act_back p c q m (ends {p = o} {j = j} x e) =
      and_both (access_back P main s ms made r so j o c x.access)
      (or_right (same_point (written (j ∷ o)) (written (j ∷ o)) && frees_at r (written (j ∷ o)) c m)
      (and_both (is_last_back P main s made ended r so (j ∷ o) m e) (or_left (keeps_for r (written (j ∷ o)) c (written (j ∷ o))) (and_both (same_self (written (j ∷ o))) (kept_back j o c x.kept)))))
  cell_act_back p c q m (ends_below {p = o} {i = i} {j = j} x b (last_act e)) =
      and_both (access_back P main s ms made r so j o c x.access)
      (or_right (same_point (written (j ∷ o)) (written q) && frees_at r (written (j ∷ o)) c m)
      (and_both (is_last_back P main s made ended r so q m e) (or_right (same_point (written (j ∷ o)) (written q) && not (is_freed r (written (j ∷ o)) c)) (keeps_back j o c i q x b))))

  -- a cell for a cell

  cell_cell_at : (k : ℕ) (p : List ℕ) (c : ℕ) (q : List ℕ) (d : ℕ) → cell_waits_cell r (written (k ∷ p)) c (written q) d ≡ true → WaitsFor P s (Giving (k ∷ p) c) (Giving q d)
  cell_cell_at k p c q d h = go (or_parts _ _ f.1)
    where
      g : (has_access r.made (written (k ∷ p)) c ≡ true) × ((has_access r.made (written q) d && (keeps_for r (written (k ∷ p)) c (written q) || (nat_eq c d && joins_behind r (written (k ∷ p)) (written q) c))) ≡ true)
      g = and_parts _ _ h

      f : (has_access r.made (written q) d ≡ true) × ((keeps_for r (written (k ∷ p)) c (written q) || (nat_eq c d && joins_behind r (written (k ∷ p)) (written q) c)) ≡ true)
      f = and_parts _ _ g.1

      other : HasAccess s d q
      other = access_forth P main s ms made r so q d f.0

      go : (keeps_for r (written (k ∷ p)) c (written q) ≡ true) ⊎ ((nat_eq c d && joins_behind r (written (k ∷ p)) (written q) c) ≡ true) → WaitsFor P s (Giving (k ∷ p) c) (Giving q d)
      go (inl e) = keeps_forth k p c q (Giving q d) (access_forth P main s ms made r so (k ∷ p) c g.0) (last_cell other) e
      go (inr e) =
          let i = and_parts (nat_eq c d) (joins_behind r (written (k ∷ p)) (written q) c) e in
          let z : c ≡ d = is_same c d i.0 in
          let x = joins_forth (k ∷ p) q c (subst (λ (y : ℕ). HasAccess s y q) (sym z) other) i.1 in
          subst (λ (y : ℕ). WaitsFor P s (Giving (k ∷ p) c) (Giving q y)) z (joins x.1 x.2)

  pub cell_cell_forth : (p : List ℕ) (c : ℕ) (q : List ℕ) (d : ℕ) → cell_waits_cell r (written p) c (written q) d ≡ true → WaitsFor P s (Giving p c) (Giving q d)
  cell_cell_forth p c q d h =
      let g = and_parts (has_access r.made (written p) c) (has_access r.made (written q) d && (keeps_for r (written p) c (written q) || (nat_eq c d && joins_behind r (written p) (written q) c))) h in
      let x = access_child P main s ms made r so p c g.0 in
      subst (λ (y : List ℕ). WaitsFor P s (Giving y c) (Giving q d)) (sym x.2) (cell_cell_at x.0 x.1 c q d (ap (λ (y : List ℕ). cell_waits_cell r (written y) c (written q) d) (sym x.2) ∙ h))

  pub cell_cell_back : (p : List ℕ) (c : ℕ) (q : List ℕ) (d : ℕ) → WaitsFor P s (Giving p c) (Giving q d) → cell_waits_cell r (written p) c (written q) d ≡ true
  cell_cell_back p c q d (ends_below {p = o} {i = i} {j = j} x b (last_cell h)) =
      and_both (access_back P main s ms made r so j o c x.access)
      (and_both (cell_below P main s ms made ended r so i (j ∷ o) q d b h) (or_left (nat_eq c d && joins_behind r (written (j ∷ o)) (written q) c) (keeps_back j o c i q x b)))
  cell_cell_back p c q d (joins {p = o} {j = j} {op = op} x n) =
      let acc : HasAccess s c (j ∷ o) = record { task = x.task; at_ = x.at_; mode = Fold op; strong = true; right = x.right_is } in
      let f = join_folded P main s made nothing c op acc n in
      and_both (access_back P main s ms made r so j o c acc)
      (and_both (cell_below P main s ms made ended r so f.ahead.first f.ahead.path q c f.ahead.below_first f.ahead.access) (or_right (keeps_for r (written (j ∷ o)) c (written q)) (and_both (same_eq c c refl) (joins_back j o q c op x f))))
