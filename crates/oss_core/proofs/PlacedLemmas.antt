-- Tasks with their points, and the order in which a stable sort by these puts them.
use Rattle.std.proofs.Common.{◌≡◌, ℕ, zero, suc, ◌+◌, ◌<◌, ◌≤◌, ◌⊎◌, inl, inr, refl, sym, subst, ap, ◌∙◌, arith, List, [], ◌∷◌, ◌++◌, length, take, map, get_or, Bool, true, false}
use Rattle.std.specs.Prelude.{◌&&◌, not, cond}
use Rattle.std.specs.List.{filter}
use Rattle.std.specs.List.Sorted.{IsStableBy, ties}
use Rattle.std.specs.Cmp.{IsStrictWeakOrder}
use Rattle.std.specs.Cmp.Lexicographic.{slice_cmp}
use Rattle.std.specs.Ordering.{MatchOrdering, is_lt, nat_cmp}
use Rattle.std.specs.declared.cmp.Ordering.{Ordering}
use Rattle.std.specs.declared.cmp.Ordering.TheVariants.{Less, Equal, Greater}
use Rattle.std.proofs.lemmas.Cmp.{nat_list_cmp_total}
use Rattle.std.proofs.lemmas.List.{map-append, take_all, take_more}
use Rattle.std.proofs.lemmas.List.MinMax.{ranks_by}
use Rattle.std.proofs.lemmas.List.Sorted.{sorted_far}
use Rattle.oss_model.specs.Order.{IsBefore, IsIn, here, there}
use Rattle.oss_model.specs.declared.task_no.TaskNo.{TaskNo}
use Rattle.oss_model.proofs.OrderLemmas.{before_not}
use Rattle.oss_model.proofs.PointLemmas.{ordered}
use Rattle.oss_tree.specs.declared.task.Task.{Task}
use Rattle.oss_tree.specs.Tasks.{HasPoint, IsTree, number}
use Rattle.oss_tree.proofs.ListLemmas.{some_is}
use Rattle.oss_tree.proofs.OutputLemmas.{before_told, told_before}
use Rattle.oss_tree.proofs.TreeLemmas.{one_point}
use Rattle.oss_core.specs.declared.ordering.Placed.{Placed}
use Rattle.oss_core.specs.PointOrder.{AreInPointOrder}
use Rattle.oss_core.specs.Ordering.{AreInOrder, AreOnce, AreSorted, comes_before}
use Rattle.oss_core.proofs.SteppersLemmas.{in_cases, in_either}

-- points order tasks
pub ranks : IsStrictWeakOrder comes_before
ranks = ranks_by nat_list_cmp_total (λ (x : Placed). x.point.now)

-- a test is true or not
either_test : (b : Bool) → (b ≡ true) ⊎ (b ≡ false)
either_test true = inl refl
either_test false = inr refl

not_before_itself : (p : List ℕ) → is_lt (slice_cmp nat_cmp p p) ≡ false
not_before_itself p = go (slice_cmp nat_cmp p p) refl
  where
    go : (r : Ordering) → slice_cmp nat_cmp p p ≡ r → is_lt r ≡ false
    go Less e = absurd (before_not (told_before p p e) refl)
    go Equal e = refl
    go Greater e = refl

-- of two points the first is before the second, or is the second, where the second is not before it
not_after : (p q : List ℕ) → is_lt (slice_cmp nat_cmp q p) ≡ false → IsBefore p q ⊎ (p ≡ q)
not_after p q f = go (slice_cmp nat_cmp p q) (ordered p q)
  where
    go : (r : Ordering) → MatchOrdering r (IsBefore p q) (p ≡ q) (IsBefore q p) → IsBefore p q ⊎ (p ≡ q)
    go Less g = inl g
    go Equal g = inr g
    go Greater g = let e = ap is_lt (before_told q p g) in absurd cc

-- tasks tie just where they have one point

tied : (x y : Placed) → x.point.now ≡ y.point.now → ties comes_before x y ≡ true
tied x y e =
    ap (λ (p : List ℕ). not (is_lt (slice_cmp nat_cmp p y.point.now)) && not (is_lt (slice_cmp nat_cmp y.point.now p))) e
    ∙ ap (λ (b : Bool). not b && not b) (not_before_itself y.point.now)

one_place : (x y : Placed) → ties comes_before x y ≡ true → x.point.now ≡ y.point.now
one_place x y e = go (comes_before x y) refl (comes_before y x) refl
  where
    both : (a b : Bool) → (not a && not b) ≡ true → (a ≡ false) × (b ≡ false)
    both true b f = cc
    both false true f = cc
    both false false f = (refl, refl)

    last : IsBefore x.point.now y.point.now ⊎ (x.point.now ≡ y.point.now) → comes_before x y ≡ false → x.point.now ≡ y.point.now
    last (inl h) f = let g = ap is_lt (before_told x.point.now y.point.now h) in absurd cc
    last (inr h) f = h

    go : (a : Bool) → comes_before x y ≡ a → (b : Bool) → comes_before y x ≡ b → x.point.now ≡ y.point.now
    go a f b g = let h = both (comes_before x y) (comes_before y x) e in last (not_after x.point.now y.point.now h.1) h.0

-- what passes a test, of a list

cond_rest : {A : Type 0} {z : A} (b : Bool) (x : A) (xs : List A) → IsIn z xs → IsIn z (cond b (x ∷ xs) xs)
cond_rest true x xs i = there i
cond_rest false x xs i = i

cond_cases : {A : Type 0} {z : A} (b : Bool) (x : A) (xs : List A) → IsIn z (cond b (x ∷ xs) xs) → ((z ≡ x) × (b ≡ true)) ⊎ IsIn z xs
cond_cases true x xs here = inl (refl, refl)
cond_cases true x xs (there i) = inr i
cond_cases false x xs i = inr i

cond_length : {A : Type 0} (b : Bool) (x : A) (xs : List A) → length xs ≤ length (cond b (x ∷ xs) xs)
cond_length true x xs = omega arith
cond_length false x xs = omega arith

in_filter : (f : Placed → Bool) {z : Placed} (xs : List Placed) → IsIn z xs → f z ≡ true → IsIn z (filter f xs)
in_filter f [] i e = elim i [ ]
in_filter f {z = z} (x ∷ xs) here e = subst (λ (b : Bool). IsIn z (cond b (z ∷ filter f xs) (filter f xs))) (sym e) here
in_filter f {z = z} (x ∷ xs) (there i) e = cond_rest (f x) x (filter f xs) (in_filter f xs i e)

of_filter : (f : Placed → Bool) {z : Placed} (xs : List Placed) → IsIn z (filter f xs) → IsIn z xs × (f z ≡ true)
of_filter f [] i = elim i [ ]
of_filter f {z = z} (x ∷ xs) i = go (cond_cases (f x) x (filter f xs) i) (λ j. of_filter f xs j)
  where
    go : ((z ≡ x) × (f x ≡ true)) ⊎ IsIn z (filter f xs) → (IsIn z (filter f xs) → IsIn z xs × (f z ≡ true)) → IsIn z (x ∷ xs) × (f z ≡ true)
    go (inl (e, t)) h = (subst (λ (y : Placed). IsIn y (x ∷ xs)) (sym e) here, ap f e ∙ t)
    go (inr j) h = let k = h j in (there k.0, k.1)

some_length : {A : Type 0} {z : A} (xs : List A) → IsIn z xs → 1 ≤ length xs
some_length [] i = elim i [ ]
some_length (x ∷ xs) i = omega arith

no_length : {A : Type 0} (xs : List A) → ((z : A) → IsIn z xs → ⊥) → length xs ≤ 0
no_length [] h = omega arith
no_length (x ∷ xs) h = absurd (h x here)

-- No two have one point.
abbrev AreApart : List Placed → Type 0
AreApart [] = Unit {0}
AreApart (x ∷ xs) = ((y : Placed) → IsIn y xs → x.point.now ≡ y.point.now → ⊥) × AreApart xs

-- so no more than one ties with each
few_tie : (xs : List Placed) → AreApart xs → (x : Placed) → length (filter (ties comes_before x) xs) ≤ 1
few_tie [] a x = omega arith
few_tie (y ∷ xs) a x = go (either_test (ties comes_before x y)) (few_tie xs a.1 x)
  where
    none : ties comes_before x y ≡ true → (z : Placed) → IsIn z (filter (ties comes_before x) xs) → ⊥
    none e z i = let k = of_filter (ties comes_before x) xs i in a.0 z k.0 (sym (one_place x y e) ∙ one_place x z k.1)

    at : (b : Bool) → ties comes_before x y ≡ b → length (cond b (y ∷ filter (ties comes_before x) xs) (filter (ties comes_before x) xs)) ≤ 1 → length (filter (ties comes_before x) (y ∷ xs)) ≤ 1
    at b e = subst (λ (c : Bool). length (cond c (y ∷ filter (ties comes_before x) xs) (filter (ties comes_before x) xs)) ≤ 1) (sym e)

    go : (ties comes_before x y ≡ true) ⊎ (ties comes_before x y ≡ false) → length (filter (ties comes_before x) xs) ≤ 1 → length (filter (ties comes_before x) (y ∷ xs)) ≤ 1
    go (inl e) l = let n = no_length (filter (ties comes_before x) xs) (none e) in at true e (omega (arith, n))
    go (inr e) l = at false e l

-- None stands behind one that it comes before.
abbrev NoneFalls : List Placed → Type 0
NoneFalls [] = Unit {0}
NoneFalls (y ∷ ys) = ((z : Placed) → IsIn z ys → comes_before z y ≡ false) × NoneFalls ys

-- where a member of a list stands
where_is : {A : Type 0} {z : A} (xs : List A) → IsIn z xs → (j : ℕ) × (j < length xs) × ((d : A) → get_or xs j d ≡ z)
where_is [] i = elim i [ ]
where_is (x ∷ xs) here = (0, omega arith, λ d. refl)
where_is (x ∷ xs) (there i) = let k = where_is xs i in let l = k.1 in (suc k.0, omega (arith, l), k.2)

none_falls : (ys : List Placed) → ((i j : ℕ) (d : Placed) → i ≤ j → j < length ys → comes_before (get_or ys j d) (get_or ys i d) ≡ false) → NoneFalls ys
none_falls [] h = tt
none_falls (y ∷ ys) h = (later, none_falls ys (λ i j d l m. h (suc i) (suc j) d (omega (arith, l)) (omega (arith, m))))
  where
    later : (z : Placed) → IsIn z ys → comes_before z y ≡ false
    later z i = let k = where_is ys i in let l = k.1 in ap (λ (x : Placed). comes_before x y) (sym (k.2 y)) ∙ h 0 (suc k.0) y (omega arith) (omega (arith, l))

-- The points rise.
abbrev AreRising : List Placed → Type 0
AreRising [] = Unit {0}
AreRising (y ∷ ys) = ((z : Placed) → IsIn z ys → IsBefore y.point.now z.point.now) × AreRising ys

rising : (ys : List Placed) → NoneFalls ys → ((x : Placed) → length (filter (ties comes_before x) ys) ≤ 1) → AreRising ys
rising [] n few = tt
rising (y ∷ ys) n few = (later, rising ys n.1 (λ x. let l = few x in let m = cond_length (ties comes_before x y) y (filter (ties comes_before x) ys) in omega (arith, l, m)))
  where
    two : (z : Placed) → IsIn z ys → y.point.now ≡ z.point.now → ⊥
    two z i e =
        let l : length (y ∷ filter (ties comes_before y) ys) ≤ 1 = subst (λ (b : Bool). length (cond b (y ∷ filter (ties comes_before y) ys) (filter (ties comes_before y) ys)) ≤ 1) (tied y y refl) (few y) in
        let m = some_length (filter (ties comes_before y) ys) (in_filter (ties comes_before y) ys i (tied y z e)) in
        omega (arith, l, m)

    go : (z : Placed) → IsIn z ys → IsBefore y.point.now z.point.now ⊎ (y.point.now ≡ z.point.now) → IsBefore y.point.now z.point.now
    go z i (inl h) = h
    go z i (inr e) = absurd (two z i e)

    later : (z : Placed) → IsIn z ys → IsBefore y.point.now z.point.now
    later z i = go z i (not_after y.point.now z.point.now (n.0 z i))

-- a stable sort keeps the members

kept_in : (xs ys : List Placed) → IsStableBy comes_before xs ys → (z : Placed) → IsIn z xs → IsIn z ys
kept_in xs ys stable z i = (of_filter (ties comes_before z) ys (subst (IsIn z) (sym (stable z)) (in_filter (ties comes_before z) xs i (tied z z refl)))).0

was_in : (xs ys : List Placed) → IsStableBy comes_before xs ys → (z : Placed) → IsIn z ys → IsIn z xs
was_in xs ys stable z i = (of_filter (ties comes_before z) xs (subst (IsIn z) (stable z) (in_filter (ties comes_before z) ys i (tied z z refl)))).0

-- the tasks of such a list

abbrev task_of : Placed → TaskNo
task_of x = x.task

in_tasks : {z : Placed} (xs : List Placed) → IsIn z xs → IsIn z.task (map task_of xs)
in_tasks [] i = elim i [ ]
in_tasks (x ∷ xs) here = here
in_tasks (x ∷ xs) (there i) = there (in_tasks xs i)

of_tasks : {w : TaskNo} (xs : List Placed) → IsIn w (map task_of xs) → (z : Placed) × IsIn z xs × (z.task ≡ w)
of_tasks [] i = elim i [ ]
of_tasks (x ∷ xs) here = (x, here, refl)
of_tasks (x ∷ xs) (there i) = let k = of_tasks xs i in (k.0, there k.1, k.2)

-- a member of the list, by its place
pub at_in : (left : List TaskNo) (i : ℕ) (d : TaskNo) → i < length left → IsIn (get_or left i d) left
at_in [] i d l = absurd (omega (arith, l))
at_in (x ∷ xs) zero d l = here
at_in (x ∷ xs) (suc i) d l = there (at_in xs i d (omega (arith, l)))

-- The list has these tasks with their points.
pub record ArePlaced (tasks : List Task) (left : List TaskNo) (placed : List Placed) : Type 0 where
  pub tasks_are : map (λ (x : Placed). x.task) placed ≡ left
  pub points : (x : Placed) → IsIn x placed → HasPoint tasks x.task.0 x.point.now

-- a task has one point
pub same_point : (tasks : List Task) (v : ℕ) (p q : List ℕ) → HasPoint tasks v p → HasPoint tasks v q → p ≡ q
same_point tasks v p q h g = sym h.point ∙ ap (λ (o : Task). o.point) (some_is h.at_ g.at_) ∙ g.point

module _ (tasks : List Task) (tree : IsTree tasks) where
  apart : (placed : List Placed) → AreOnce (map task_of placed) → ((x : Placed) → IsIn x placed → HasPoint tasks x.task.0 x.point.now) → AreApart placed
  apart [] once points = tt
  apart (x ∷ xs) once points = (other, apart xs once.1 (λ y i. points y (there i)))
    where
      other : (y : Placed) → IsIn y xs → x.point.now ≡ y.point.now → ⊥
      other y i e =
          let h = points x here in
          let g = points y (there i) in
          let same : x.task.0 ≡ y.task.0 = one_point tree x.task.0 y.task.0 h.task g.task h.at_ g.at_ (h.point ∙ e ∙ sym g.point) in
          let tasks_same : x.task ≡ y.task = ap number same in
          once.0 (subst (λ (t : TaskNo). IsIn t (map task_of xs)) (sym tasks_same) (in_tasks xs i))

  in_point_order : (shown : List Placed) → AreRising shown → ((x : Placed) → IsIn x shown → HasPoint tasks x.task.0 x.point.now) → AreInPointOrder tasks (map task_of shown)
  in_point_order [] r points = tt
  in_point_order (x ∷ xs) r points = (later, in_point_order xs r.1 (λ y i. points y (there i)))
    where
      later : (w : TaskNo) → IsIn w (map task_of xs) → (p q : List ℕ) → HasPoint tasks x.task.0 p → HasPoint tasks w.0 q → IsBefore p q
      later w i p q hp hq =
          let k = of_tasks xs i in
          let first = same_point tasks x.task.0 x.point.now p (points x here) hp in
          let second = same_point tasks w.0 k.0.point.now q (subst (λ (t : TaskNo). HasPoint tasks t.0 k.0.point.now) k.2 (points k.0 (there k.1))) hq in
          subst (λ (a : List ℕ). IsBefore a q) first (subst (λ (b : List ℕ). IsBefore x.point.now b) second (r.0 k.0 k.1))

  -- sorted by their points, tasks stand in point order
  pub sorted_all : (list : List TaskNo) (placed : List Placed) (now : List TaskNo) → AreOnce list → ArePlaced tasks list placed → AreSorted placed now → AreInOrder tasks list now
  sorted_all list placed now once in_place s = subst (AreInOrder tasks list) (sym s.tasks_are) (record { ordered = in_point_order s.shown rises points; all = λ v i. all_in v i; only = λ v i. only_in v i })
    where
      points : (x : Placed) → IsIn x s.shown → HasPoint tasks x.task.0 x.point.now
      points x i = in_place.points x (was_in placed s.shown s.stable x i)

      rises : AreRising s.shown
      rises =
          let few = few_tie placed (apart placed (subst AreOnce (sym in_place.tasks_are) once) in_place.points) in
          rising s.shown (none_falls s.shown (λ i j d l m. sorted_far comes_before ranks s.shown s.sorted i j d l m)) (λ x. subst (λ (xs : List Placed). length xs ≤ 1) (sym (s.stable x)) (few x))

      only_in : (v : TaskNo) → IsIn v (map task_of s.shown) → IsIn v list
      only_in v i = let k = of_tasks s.shown i in subst (IsIn v) in_place.tasks_are (subst (λ (t : TaskNo). IsIn t (map task_of placed)) k.2 (in_tasks placed (was_in placed s.shown s.stable k.0 k.1)))

      all_in : (v : TaskNo) → IsIn v list → IsIn v (map task_of s.shown)
      all_in v i =
          let k = of_tasks placed (subst (IsIn v) (sym in_place.tasks_are) i) in
          subst (λ (t : TaskNo). IsIn t (map task_of s.shown)) k.2 (in_tasks s.shown (kept_in placed s.shown s.stable k.0 k.1))

-- one task more, with its point

pub placed_begins : (tasks : List Task) (left : List TaskNo) (placed : List Placed) → placed ≡ [] → ArePlaced tasks (take 0 left) placed
placed_begins tasks left placed e = subst (ArePlaced tasks []) (sym e) (record { tasks_are = refl; points = λ x i. elim i [ ] })

pub placed_next : (tasks : List Task) (left : List TaskNo) (placed new : List Placed) (i : ℕ) (d : TaskNo) (p : List ℕ) (x : Placed) → i < length left → new ≡ placed ++ x ∷ [] → x.task ≡ get_or left i d → x.point.now ≡ p → HasPoint tasks (get_or left i d).0 p
    → ArePlaced tasks (take i left) placed → ArePlaced tasks (take (i + 1) left) new
placed_next tasks left placed new i d p x l e t q h are = subst (ArePlaced tasks (take (i + 1) left)) (sym e) (record {
  tasks_are = map-append task_of placed (x ∷ []) ∙ ap (λ (xs : List TaskNo). xs ++ x.task ∷ []) are.tasks_are ∙ ap (λ (y : TaskNo). take i left ++ y ∷ []) t ∙ sym (take_more left i d l);
  points = λ y j. point_in y (in_either placed (x ∷ []) j);
})
  where
    here_is : HasPoint tasks x.task.0 x.point.now
    here_is = subst (λ (y : TaskNo). HasPoint tasks y.0 x.point.now) (sym t) (subst (HasPoint tasks (get_or left i d).0) (sym q) h)

    last : (y : Placed) → (y ≡ x) ⊎ IsIn y [] → HasPoint tasks y.task.0 y.point.now
    last y (inl f) = subst (λ (z : Placed). HasPoint tasks z.task.0 z.point.now) (sym f) here_is
    last y (inr j) = elim j [ ]

    point_in : (y : Placed) → IsIn y placed ⊎ IsIn y (x ∷ []) → HasPoint tasks y.task.0 y.point.now
    point_in y (inl j) = are.points y j
    point_in y (inr j) = last y (in_cases j)

pub placed_done : (tasks : List Task) (left : List TaskNo) (placed : List Placed) (i : ℕ) → length left ≤ i → ArePlaced tasks (take i left) placed → ArePlaced tasks left placed
placed_done tasks left placed i l are = subst (λ (xs : List TaskNo). ArePlaced tasks xs placed) (take_all i left l) are
