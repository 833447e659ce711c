-- A pass, task by task: the tasks that are asked are visited in point order, and at the places of all others nothing may be given up.
use Rattle.std.proofs.Common.{◌≡◌, ℕ, zero, suc, ◌+◌, ◌<◌, ◌≤◌, ◌⊎◌, inl, inr, refl, sym, subst, ap, ◌∙◌, arith, List, [], ◌∷◌, ◌++◌, length, reverse, Bool, true, false, Some, get_or}
use Rattle.std.specs.Prelude.{if◌then◌else◌, slice_get}
use Rattle.std.proofs.lemmas.Option.{slice_get-get_or, slice_get_within}
use Rattle.oss_syntax.specs.declared.access.Mode.TheVariants.{Fold, Write}
use Rattle.oss_syntax.specs.declared.access.Op.{Op}
use Rattle.oss_model.specs.Order.{IsBefore, IsEarlierKey, IsIn, here, there, less, same, written}
use Rattle.oss_model.specs.Rights.{Holds}
use Rattle.oss_model.specs.Context.{right_of}
use Rattle.oss_model.specs.Bodies.{Start}
use Rattle.oss_model.specs.Machine.{State, Task, At}
use Rattle.oss_model.specs.Moves.{CanJoin, CanLet}
use Rattle.oss_model.specs.declared.task_no.TaskNo.{TaskNo}
use Rattle.oss_model.proofs.OrderLemmas.{Compared, before_not, compare}
use Rattle.oss_model.proofs.SortLemmas.{reverse_same}
use Rattle.oss_model.proofs.TreeLemmas.{at_same}
use Rattle.oss_wave_laws.specs.Passes.{ArePlaces, GivenUp, IsEarlierPlace, IsKept, IsPass, IsPlace, Place}
use Rattle.oss_wave_laws.specs.Rounds.{Span, goes_on_from, in_front, span_of, spans}
use Rattle.oss_wave_laws.proofs.ExistLemmas.{places_are}
use Rattle.oss_wave_laws.proofs.FallLemmas.{all_kept}
use Rattle.oss_wave_laws.proofs.GatherLemmas.{never_both, places_through}
use Rattle.oss_wave_laws.proofs.SumLemmas.{in_none}
use Rattle.oss_code.specs.declared.code.CodeParts.{CodeParts}
use Rattle.oss_machine.specs.Frames.{CodeScript}
use Rattle.oss_machine.specs.Machines.{asks}
use Rattle.oss_tree.specs.declared.task.Task.{Task as TreeTask}
use Rattle.oss_tree.specs.Tasks.{HasPoint, number}
use Rattle.oss_tree.proofs.ListLemmas.{there_is}
use Rattle.oss_enabled_moves.proofs.CallLemmas.{in_list}
use Rattle.oss_core.specs.declared.passing.Passed.{Passed}
use Rattle.oss_core.specs.Awake.{HaveGivers, IsStill}
use Rattle.oss_core.specs.Kept.{IsCore, Kept}
use Rattle.oss_core.specs.Leaving.{HaveGivenUp}
use Rattle.oss_core.specs.PointOrder.{AreInPointOrder}
use Rattle.oss_core.specs.Passing.{CellsPassed, HasPassed, HaveGiven, MayNothing, OwesNoneFrom, RunPassed, TaskPassed, TasksPassed, TellsOf, more_cells, more_tasks, no_cells, no_tasks}
use Rattle.oss_core.proofs.AwakeLemmas.{still_after, still_nothing}
use Rattle.oss_core.proofs.KeepLemmas.{some_is}
use Rattle.oss_core.proofs.LeavingLemmas.{nothing_given, run_leaves}
use Rattle.oss_core.proofs.RunsLemmas.{cell_kept, given_itself, given_then, point_after, run_made}
use Rattle.oss_core.proofs.TreeFacts.{core_made, one_path, point_of_path}
use Rattle.oss_core.proofs.WalkLemmas as walks
use Rattle.oss_core.proofs.WalkLemmas.{cells_below, place, visits_idle}

-- points in order are those of paths in order
pub path_before : (p q : List ℕ) → IsBefore (written p) (written q) → IsEarlierKey p q
path_before p q (less l) = absurd (omega (arith, l))
path_before p q (same h) = h

-- a task of the list is one of the tree
pub is_asked : (k : Kept) (left : List TaskNo) → HaveGivers k left → (i : ℕ) (d : TaskNo) → i < length left → (get_or left i d).0 < length k.tree.tasks
is_asked k left are i d l = are.there (get_or left i d) (in_list left i (get_or left i d) (slice_get-get_or left i d l))

-- two tasks of a list in point order
pub in_order : (tasks : List TreeTask) (left : List TaskNo) → AreInPointOrder tasks left → (i j : ℕ) → i < j → (v w : TaskNo) → slice_get left i ≡ Some v → slice_get left j ≡ Some w → (p q : List ℕ) → HasPoint tasks v.0 p → HasPoint tasks w.0 q → IsBefore p q
in_order tasks [] o i j l v w e f p q hp hq = absurd cc
in_order tasks (x ∷ rest) o zero zero l v w e f p q hp hq = absurd (omega (arith, l))
in_order tasks (x ∷ rest) o zero (suc j) l v w e f p q hp hq = let same : x ≡ v = some_is e in o.0 w (in_list rest j w f) p q (subst (λ (t : TaskNo). HasPoint tasks t.0 p) (sym same) hp) hq
in_order tasks (x ∷ rest) o (suc i) zero l v w e f p q hp hq = absurd (omega (arith, l))
in_order tasks (x ∷ rest) o (suc i) (suc j) l v w e f p q hp hq = in_order tasks rest o.1 i j (omega (arith, l)) v w e f p q hp hq

-- where a member of a list stands
pub in_at : {A : Type 0} (x : A) (xs : List A) → IsIn x xs → (j : ℕ) × (slice_get xs j ≡ Some x)
in_at {A = A} x [] h = absurd (in_none h)
in_at x (y ∷ xs) here = (0, refl)
in_at x (y ∷ xs) (there h) = let k = in_at x xs h in (suc k.0, k.1)

-- a place from one cell of a task on, before a later one
pub cell_from : (a : Place) (p : List ℕ) (lo hi : ℕ) → (IsEarlierPlace a (place p lo) → ⊥) → IsEarlierPlace a (place p hi) → (a.path ≡ p) × (lo ≤ a.cell)
cell_from a p lo hi f (inl h) = absurd (f (inl h))
cell_from a p lo hi f (inr (e, l)) = (e, go (below_or a.cell lo))
  where
    below_or : (m n : ℕ) → (m < n) ⊎ (n ≤ m)
    below_or m n = grind arith

    go : (a.cell < lo) ⊎ (lo ≤ a.cell) → lo ≤ a.cell
    go (inl m) = absurd (f (inr (e, m)))
    go (inr m) = m

-- main has no slot
main_folds_none : {code : CodeParts} {main : Start CodeScript} {first : List ℕ} {k : Kept} {s : State CodeScript} (core : IsCore code main first k s) → (u : Task CodeScript) (d : ℕ) (o : Op) → At s [] u → right_of u.body.start.context d ≡ Holds (Fold o) true → ⊥
main_folds_none {main = main} {s = s} core u d o h r =
    let made = core_made core in
    let start : u.body.start ≡ main = ap (λ (x : Task CodeScript). x.body.start) (at_same s [] u made.main_task h made.main_at) ∙ made.main_start in
    let e : Fold o ≡ Write = core.setting.writes d (Fold o) true (ap (λ (x : Start CodeScript). right_of x.context d) (sym start) ∙ r) in
    cc

-- of cells that a task does not owe nothing may be given up
none_past : (k : Kept) (v lo hi : ℕ) → OwesNoneFrom k v lo → MayNothing k v lo hi
none_past k v lo hi past = record {
  no_let = λ c low high may. let a = past may.held may.is c low in let b = may.gives.owes in absurd cc;
  no_join = λ c op low high may. let a = past may.held may.is c low in let b = may.folds.owes in absurd cc;
}

-- what is told of a pass that gave up nothing
pub none_told : (tasks : List TreeTask) (list : List GivenUp) → TellsOf tasks [] (spans list) → list ≡ []
none_told tasks [] t = refl
none_told tasks (g ∷ list) t = absurd (front (spans list) t)
  where
    either : (x y : Span) (rest more : List Span) (b : Bool) → TellsOf tasks [] (if b then x ∷ rest else y ∷ more) → ⊥
    either x y rest more true h = h
    either x y rest more false h = h

    front : (ss : List Span) → TellsOf tasks [] (in_front g ss) → ⊥
    front [] h = h
    front (x ∷ rest) h = either (record { path = g.path; first = g.cell; count = x.count + 1; joined = g.joined }) (span_of g) rest (x ∷ rest) (goes_on_from g x) h

-- a state in which a pass gives up nothing
pub record IsIdle (code : CodeParts) (s n : State CodeScript) : Type 0 where
  pub no_let : (p : List ℕ) (c : ℕ) (t : Task CodeScript) → CanLet (asks code) s p c t → ⊥
  pub no_join : (p : List ℕ) (c : ℕ) (op : Op) (t : Task CodeScript) → CanJoin (asks code) s p c op t → ⊥
  pub same_state : n ≡ s

-- there no cell may be given up, and no slot joined
pub idle_pass : {code : CodeParts} {main : Start CodeScript} {first : List ℕ} {k : Kept} {s : State CodeScript} (core : IsCore code main first k s) (n : State CodeScript) → IsPass (asks code) s [] n → IsIdle code s n
idle_pass {code = code} {s = s} core n pass = record {
  no_let = λ p c t can. (all_kept (asks code) s pass.places pass.visits (place p c) (pass.places_are.all (place p c) (walks.let_place (asks code) s pass.places pass.places_are (λ q u h. (u, h, refl)) can))).no_let t can;
  no_join = λ p c op t can. (all_kept (asks code) s pass.places pass.visits (place p c) (pass.places_are.all (place p c) (walks.join_place (asks code) s pass.places pass.places_are (main_folds_none core) (λ q u h. (u, h, refl)) can))).no_join op t can;
  same_state = visits_idle (asks code) pass.places pass.visits;
}

module _ (code : CodeParts) (main : Start CodeScript) (first : List ℕ) (old : Kept) (s : State CodeScript) (core : IsCore code main first old s) (places : List Place) (are : ArePlaces s places) where
  abbrev Walk : Place → List GivenUp → State CodeScript → Type 0
  Walk = walks.Walk (asks code) s places are

  -- what was passed so far: the places before one were visited, and what was told are the spans of what was given up
  pub record Stood (k : Kept) (to : Place) (told : List Passed) : Type 0 where
    pub state : State CodeScript
    pub list : List GivenUp
    pub walk : Walk to list state
    pub now : IsCore code main first k state
    pub tells : TellsOf old.tree.tasks told (spans list)
    pub given : HaveGiven old.tree.tasks k.tree.tasks
    pub leaves : HaveGivenUp told old k

  -- behind every cell of a place
  abbrev pub top : ℕ
  top = suc (1048576 + (cells_below places).0)

  below_top : (a : Place) → IsPlace s a → a.cell < top
  below_top a is = let l = (cells_below places).1 a (are.all a is) in omega (arith, l)

  pub run_stood : (v lo hi : ℕ) (p : List ℕ) (k new : Kept) (told after : List Passed) → HasPoint old.tree.tasks v (written p) → lo < hi → Stood k (place p lo) told → RunPassed code v lo hi k new told after → Stood new (place p hi) after
  run_stood v lo hi p k new told after point l x run =
      let r = run_made code main first v p lo hi k new told after x.state x.now (point_after x.given v (written p) point) l run in
      record {
        state = r.state;
        list = x.list ++ r.more;
        walk = subst (λ (c : ℕ). Walk (place p c) (x.list ++ r.more) r.state) r.count_is (walks.walk_row (asks code) s places are (main_folds_none core) (suc r.count) p lo x.walk r.visits);
        now = r.core;
        tells = r.told old.tree.tasks core.known.tree_is point x.list x.tells;
        given = given_then x.given r.given;
        leaves = run_leaves x.leaves run;
      }

  pub cells_stood : (v : ℕ) (p : List ℕ) (k : Kept) (told : List Passed) → HasPoint old.tree.tasks v (written p) → Stood k (place p 0) told → {hi : ℕ} {new : Kept} {after : List Passed} → CellsPassed code v k told hi new after → Stood new (place p hi) after
  cells_stood v p k told point x no_cells = x
  cells_stood v p k told point x (more_cells {lo = lo} {hi = hi} {mid = mid} {new = new} {told = before} {after = after} c l r) = run_stood v lo hi p mid new before after point l (cells_stood v p k told point x c) r

  pub task_stood : (v : ℕ) (p : List ℕ) (k new : Kept) (told after : List Passed) → HasPoint old.tree.tasks v (written p) → Stood k (place p 0) told → TaskPassed code v k new told after → Stood new (place p top) after
  task_stood v p k new told after point x t =
      let y = cells_stood v p k told point x t.cells in
      let l : 1048576 < top = omega arith in
      record {
        state = y.state;
        list = y.list;
        walk = walks.walk_past (asks code) s places are y.walk
            (λ a h. places_through a (place p 1048576) (place p top) h (inr (refl, l)))
            (λ a is f h.
            let w = cell_from a p 1048576 top f h in
            subst (λ (q : List ℕ). IsKept (asks code) y.state (place q a.cell)) (sym w.0) (cell_kept y.now v 1048576 top p (point_after y.given v (written p) point) (none_past new v 1048576 top t.past) a.cell w.1 (below_top a is)));
        now = y.now;
        tells = y.tells;
        given = y.given;
        leaves = y.leaves;
      }

  -- at the places of a task that was still nothing may be given up
  still_kept : (w : ℕ) (k : Kept) (to : Place) (told : List Passed) (x : Stood k to told) → IsStill old w → (a : Place) → HasPoint old.tree.tasks w (written a.path) → IsKept (asks code) x.state a
  still_kept w k to told x still a point =
      cell_kept x.now w 0 (suc a.cell) a.path (point_after x.given w (written a.path) point) (still_nothing k w 0 (suc a.cell) (still_after told old k w x.leaves still)) a.cell (omega arith) (omega arith)

  module _ (left : List TaskNo) (are_left : HaveGivers old left) where
    -- so many tasks of the list were passed: each task of the tree is one of the others, was still, or lies behind
    pub record Halfway (i : ℕ) (k : Kept) (told : List Passed) : Type 0 where
      pub to : Place
      pub stood : Stood k to told
      pub rest : (w : ℕ) (p : List ℕ) → HasPoint old.tree.tasks w (written p) → ((j : ℕ) × (i ≤ j) × (slice_get left j ≡ Some (number w))) ⊎ (IsStill old w ⊎ ((c : ℕ) → c < top → IsEarlierPlace (place p c) to))
      pub ahead : (j : ℕ) (w : TaskNo) (p : List ℕ) → i ≤ j → slice_get left j ≡ Some w → HasPoint old.tree.tasks w.0 (written p) → (to ≡ place p 0) ⊎ IsEarlierPlace to (place p 0)

    begins : Halfway 0 old []
    begins = record {
      to = place [] 0;
      stood = record {
        state = s;
        list = [];
        walk = walks.walk_begins (asks code) s places are (place [] 0) (λ a is h. none a h);
        now = core;
        tells = tt;
        given = given_itself old.tree.tasks;
        leaves = nothing_given old;
      };
      rest = λ w p point. rest w p (are_left.all w (slice_get_within old.tree.tasks w point.task point.at_));
      ahead = λ j w p l e point. ahead p (compare (reverse []) (reverse p));
    }
      where
        never : (xs : List ℕ) → IsBefore xs [] → ⊥
        never xs h = elim h [ ]

        none : (a : Place) → IsEarlierPlace a (place [] 0) → ⊥
        none a (inl h) = never (reverse a.path) h
        none a (inr (e, l)) = omega (arith, l)

        rest : (w : ℕ) (p : List ℕ) → IsIn (number w) left ⊎ IsStill old w → ((j : ℕ) × (0 ≤ j) × (slice_get left j ≡ Some (number w))) ⊎ (IsStill old w ⊎ ((c : ℕ) → c < top → IsEarlierPlace (place p c) (place [] 0)))
        rest w p (inl i) = let k = in_at (number w) left i in inl (k.0, omega arith, k.1)
        rest w p (inr still) = inr (inl still)

        ahead : (p : List ℕ) → Compared (reverse []) (reverse p) → (place [] 0 ≡ place p 0) ⊎ IsEarlierPlace (place [] 0) (place p 0)
        ahead p (Compared.before h) = inr (inl h)
        ahead p (Compared.equal e) = inl (ap (λ (q : List ℕ). place q 0) (reverse_same [] p e))
        ahead p (Compared.after h) = absurd (never (reverse p) h)

    module _ (i : ℕ) (k : Kept) (told : List Passed) (x : Halfway i k told) (v : TaskNo) (is_next : slice_get left i ≡ Some v) (p : List ℕ) (point : HasPoint old.tree.tasks v.0 (written p)) where
      -- places before the next task come before its first cell
      up_to : (a : Place) → IsEarlierPlace a x.to → IsEarlierPlace a (place p 0)
      up_to a h = go (x.ahead i v p (omega arith) is_next point)
        where
          go : (x.to ≡ place p 0) ⊎ IsEarlierPlace x.to (place p 0) → IsEarlierPlace a (place p 0)
          go (inl e) = subst (λ (b : Place). IsEarlierPlace a b) e h
          go (inr l) = places_through a x.to (place p 0) h l

      same_or_later : (j : ℕ) → i ≤ j → (j ≡ i) ⊎ (i < j)
      same_or_later j l = grind (arith, l)

      -- a task of the list from this one on is it, or stands behind it
      next_or_behind : (j w : ℕ) (q : List ℕ) → i ≤ j → slice_get left j ≡ Some (number w) → HasPoint old.tree.tasks w (written q) → (q ≡ p) ⊎ IsEarlierKey p q
      next_or_behind j w q l e h = go (same_or_later j l)
        where
          go : (j ≡ i) ⊎ (i < j) → (q ≡ p) ⊎ IsEarlierKey p q
          go (inl f) =
              let same_task : number w ≡ v = some_is (sym e ∙ ap (λ (n : ℕ). slice_get left n) f ∙ is_next) in
              let at_ : slice_get old.tree.tasks w ≡ slice_get old.tree.tasks v.0 = ap (λ (t : TaskNo). slice_get old.tree.tasks t.0) same_task in
              inl (one_path q p (sym h.point ∙ ap (λ (o : TreeTask). o.point) (some_is (sym h.at_ ∙ at_ ∙ point.at_)) ∙ point.point))
          go (inr m) = inr (path_before p q (in_order old.tree.tasks left are_left.ordered i j m v (number w) is_next e (written p) (written q) point h))

      -- nothing may be given up between
      kept : (a : Place) → IsPlace s a → (IsEarlierPlace a x.to → ⊥) → IsEarlierPlace a (place p 0) → IsKept (asks code) x.stood.state a
      kept a is f h =
          let w = core.stands.back a.path is.task is.at_ in
          let has = point_of_path core w.0 a.path w.1 in
          go w.0 has (x.rest w.0 a.path has)
        where
          not_behind : IsEarlierPlace a (place p 0) → (a.path ≡ p) ⊎ IsEarlierKey p a.path → ⊥
          not_behind (inl l) (inl e) = before_not l (ap reverse e)
          not_behind (inl l) (inr m) = never_both (reverse a.path) (reverse p) l m
          not_behind (inr (e, l)) c = omega (arith, l)

          go : (w : ℕ) → HasPoint old.tree.tasks w (written a.path) → ((j : ℕ) × (i ≤ j) × (slice_get left j ≡ Some (number w))) ⊎ (IsStill old w ⊎ ((c : ℕ) → c < top → IsEarlierPlace (place a.path c) x.to)) → IsKept (asks code) x.stood.state a
          go w has (inl (j, l, e)) = absurd (not_behind h (next_or_behind j w a.path l e has))
          go w has (inr (inl g)) = still_kept w k x.to told x.stood g a has
          go w has (inr (inr b)) = absurd (f (b a.cell (below_top a is)))

      -- the next task
      comes : Stood k (place p 0) told
      comes = record {
        state = x.stood.state;
        list = x.stood.list;
        walk = walks.walk_past (asks code) s places are x.stood.walk up_to kept;
        now = x.stood.now;
        tells = x.stood.tells;
        given = x.stood.given;
        leaves = x.stood.leaves;
      }

      -- and behind it
      pub goes_on : (new : Kept) (after : List Passed) → TaskPassed code v.0 k new told after → Halfway (suc i) new after
      goes_on new after t = record {
        to = place p top;
        stood = task_stood v.0 p k new told after point comes t;
        rest = λ w q h. rest w q h (x.rest w q h);
        ahead = λ j w q l e h. ahead (next_or_behind j w.0 q (omega (arith, l)) e h) j w q l e h;
      }
        where
          behind_it : (q : List ℕ) → q ≡ p → (c : ℕ) → c < top → IsEarlierPlace (place q c) (place p top)
          behind_it q e c l = inr (e, l)

          rest : (w : ℕ) (q : List ℕ) → HasPoint old.tree.tasks w (written q) → ((j : ℕ) × (i ≤ j) × (slice_get left j ≡ Some (number w))) ⊎ (IsStill old w ⊎ ((c : ℕ) → c < top → IsEarlierPlace (place q c) x.to))
              → ((j : ℕ) × (suc i ≤ j) × (slice_get left j ≡ Some (number w))) ⊎ (IsStill old w ⊎ ((c : ℕ) → c < top → IsEarlierPlace (place q c) (place p top)))
          rest w q h (inl (j, l, e)) = by (same_or_later j l)
            where
              by : (j ≡ i) ⊎ (i < j) → ((j : ℕ) × (suc i ≤ j) × (slice_get left j ≡ Some (number w))) ⊎ (IsStill old w ⊎ ((c : ℕ) → c < top → IsEarlierPlace (place q c) (place p top)))
              by (inl f) =
                  let same_task : number w ≡ v = some_is (sym e ∙ ap (λ (n : ℕ). slice_get left n) f ∙ is_next) in
                  let at_ : slice_get old.tree.tasks w ≡ slice_get old.tree.tasks v.0 = ap (λ (t : TaskNo). slice_get old.tree.tasks t.0) same_task in
                  inr (inr (behind_it q (one_path q p (sym h.point ∙ ap (λ (o : TreeTask). o.point) (some_is (sym h.at_ ∙ at_ ∙ point.at_)) ∙ point.point))))
              by (inr m) = inl (j, omega (arith, m), e)
          rest w q h (inr (inl g)) = inr (inl g)
          rest w q h (inr (inr b)) = inr (inr (λ c l. places_through (place q c) (place p 0) (place p top) (up_to (place q c) (b c l)) (inr (refl, omega arith))))

          ahead : {q : List ℕ} → (q ≡ p) ⊎ IsEarlierKey p q → (j : ℕ) (w : TaskNo) (r : List ℕ) → suc i ≤ j → slice_get left j ≡ Some w → HasPoint old.tree.tasks w.0 (written r) → (place p top ≡ place r 0) ⊎ IsEarlierPlace (place p top) (place r 0)
          ahead c j w r l e h = inr (inl (path_before p r (in_order old.tree.tasks left are_left.ordered i j (omega (arith, l)) v w is_next e (written p) (written r) point h)))

    -- task by task
    pub halfway : {i : ℕ} {k : Kept} {told : List Passed} → TasksPassed code left old i k told → Halfway i k told
    halfway no_tasks = begins
    halfway (more_tasks {i = i} {mid = mid} {new = new} {told = told} {after = after} {task = task} t e done) = step (halfway t)
      where
        within : task.0 < length old.tree.tasks
        within = are_left.there task (in_list left i task e)

        step : Halfway i mid told → Halfway (suc i) new after
        step x =
            let z = core.known.size in
            let b = there_number (omega (arith, within, z)) in
            goes_on i mid told x task e b.0 b.1 new after done
          where
            there_number : task.0 < length core.bodies → (p : List ℕ) × HasPoint old.tree.tasks task.0 (written p)
            there_number l = let y = body_there l in (y.0.start.path, point_of_path core task.0 y.0.start.path (record { one = y.0; is = y.1; path = refl }))
              where
                body_there : task.0 < length core.bodies → (b : _) × (slice_get core.bodies task.0 ≡ Some b)
                body_there m = there_is core.bodies task.0 m

    -- behind the last of them the pass was made
    pub pass_made : (new : Kept) (told : List Passed) → TasksPassed code left old (length left) new told → (n : State CodeScript) × (list : List GivenUp) × IsPass (asks code) s list n × TellsOf old.tree.tasks told (spans list) × IsCore code main first new n
    pass_made new told t =
        let x = halfway t in
        (x.stood.state, x.stood.list, walks.walk_ends (asks code) s places are x.stood.walk (λ a is f. kept_at x a is f), x.stood.tells, x.stood.now)
      where
        kept_at : (x : Halfway (length left) new told) (a : Place) → IsPlace s a → (IsEarlierPlace a x.to → ⊥) → IsKept (asks code) x.stood.state a
        kept_at x a is f =
            let w = core.stands.back a.path is.task is.at_ in
            let has = point_of_path core w.0 a.path w.1 in
            go w.0 has (x.rest w.0 a.path has)
          where
            go : (w : ℕ) → HasPoint old.tree.tasks w (written a.path) → ((j : ℕ) × (length left ≤ j) × (slice_get left j ≡ Some (number w))) ⊎ (IsStill old w ⊎ ((c : ℕ) → c < top → IsEarlierPlace (place a.path c) x.to)) → IsKept (asks code) x.stood.state a
            go w has (inl (j, l, e)) = let m = slice_get_within left j (number w) e in absurd (omega (arith, l, m))
            go w has (inr (inl g)) = still_kept w new x.to told x.stood g a has
            go w has (inr (inr b)) = absurd (f (b a.cell (below_top a is)))

-- where nothing is told of a pass, no cell may be given up and no slot joined, and the core stands for the same state
pub idle_told : {code : CodeParts} {main : Start CodeScript} {first : List ℕ} {old new : Kept} {s : State CodeScript} → HasPassed code old new [] → (core : IsCore code main first old s) → IsIdle code s s × IsCore code main first new s
idle_told {code = code} {main = main} {first = first} {old = old} {new = new} {s = s} passed core =
    let made = passed main first s core in
    let idle = idle_pass core made.0 (subst (λ (list : List GivenUp). IsPass (asks code) s list made.0) (none_told old.tree.tasks made.1 made.3) made.2) in
    (subst (λ (n : State CodeScript). IsIdle code s n) idle.same_state idle, subst (λ (n : State CodeScript). IsCore code main first new n) idle.same_state made.4)

-- all tasks were passed: so a pass was made, from each state
pub has_passed : (code : CodeParts) (old new : Kept) (left : List TaskNo) (told : List Passed) → HaveGivers old left → TasksPassed code left old (length left) new told → HasPassed code old new told
has_passed code old new left told are_left t main first s core =
    let places = places_are (asks code) s in
    pass_made code main first old s core places.0 places.1 left are_left new told t
