-- What is asked of a range, one stretch after the other.
use Rattle.std.proofs.Common.{◌≡◌, ℕ, ◌+◌, ◌-◌, ◌<◌, ◌≤◌, zero, suc, refl, sym, ap, subst, ◌∙◌, List, [], ◌∷◌, ◌⊎◌, inl, inr, Bool, true, false, Option, Some, None, arith, length, get_or, drop, ◌↔◌, IsTrue}
use Rattle.std.proofs.lemmas.Option.{slice_get_within, slice_get_read, get_or_from_slice_get}
use Rattle.std.proofs.lemmas.List.{drop_more, drop_all}
use Rattle.std.specs.Prelude.{MatchOption, slice_get}
use Rattle.oss_syntax.specs.declared.access.Access.{Access}
use Rattle.oss_syntax.specs.declared.access.Mode.{Mode}
use Rattle.oss_syntax.specs.declared.access.Mode.TheVariants.{Read, Write, Fold}
use Rattle.oss_syntax.specs.declared.access.Op.{Op}
use Rattle.oss_model.specs.Order.{IsIn, here, there}
use Rattle.oss_model.specs.Forest.{IsJoinSatisfied}
use Rattle.oss_model.specs.declared.task_no.TaskNo.{TaskNo}
use Rattle.oss_ranges.specs.Cells.{value_at}
use Rattle.oss_deps.specs.declared.opened.Open.{Open}
use Rattle.oss_deps.specs.declared.column.Column.{Column}
use Rattle.oss_deps.specs.declared.want.Want.{Want}
use Rattle.oss_deps.specs.declared.want.Want.TheVariants.{ToWrite, ToRead, ToJoin}
use Rattle.oss_deps.specs.Opens.{access_at, names, mode_at, mode_in, is_some_access, Asks, AreChildrenDone, HasOpened, IsFolding, IsMet, HasCover, opened_forest}
use Rattle.oss_deps.specs.Kept.{Kept, given_at}
use Rattle.oss_deps.specs.Places.{IsFirstOf, first_at, mode_at_place, place_forest, AreLinked, AreMarked, AreModesCovered}
use Rattle.oss_deps.specs.Wants.{IsBarOf, IsSatisfied}
use Rattle.oss_deps.specs.Columns.{IsNumber, IsNumberOf, IsPlaceOf, IsShown, IsColumn, IsPlain, AreRight, IsNamedOver}
use Rattle.oss_deps.specs.Met.{AreClear, IsAccessMet, AreAccessesMet, IsBarredOver, IsStanding}
use Rattle.oss_deps.specs.Hindrances.{HasUndoneChild, Hinders}
use Rattle.oss_deps.proofs.HindranceLemmas.{read_hinders, write_hinders}
use Rattle.oss_deps.proofs.BarLemmas.{barred_here, child_here}
use Rattle.oss_deps.proofs.Basics.{some_none, same_at, compared}
use Rattle.oss_deps.proofs.OpenLemmas.{get_in, one_entry, mode_is, not_main, access_found, in_bounds, bounds_in, named_at}
use Rattle.oss_deps.proofs.LookupLemmas.{look_at}
use Rattle.oss_deps.proofs.StretchLemmas.{one_number, exact, shown_here, mode_here, children_exact, covered_here, first_cell, right_at}

pub named_access : (o : Open) (c : ℕ) → names c o ≡ true → (a : Access) × (access_at o.accesses c ≡ Some a)
named_access o c h = go (access_at o.accesses c) refl
  where
    go : (x : Option Access) → access_at o.accesses c ≡ x → (a : Access) × (access_at o.accesses c ≡ Some a)
    go (Some a) e = (a, e)
    go None e = let k : true ≡ false = sym h ∙ ap is_some_access e in absurd cc

-- a cell that an entry names is one of the program
pub named_within : (o : Open) (c : ℕ) → names c o ≡ true → c < 1048576
named_within o c h =
    let a = named_access o c h in
    let k = access_found o.accesses c a.0 a.1 in
    omega (arith, (in_bounds a.0 c k.1).1, a.0.range.within)

-- the value that a read of a list gives
pub column_read : (columns : List Column) (at : ℕ) (column : Column) → at < length columns → column ≡ get_or columns at column → slice_get columns at ≡ Some column
column_read columns at column l e = slice_get_read columns (length columns) at column refl l e

module _ (kept : Kept) (standing : IsStanding kept) (n lo hi : ℕ) (named : IsNamedOver kept.opens n lo hi) (cell : ℕ) (from : lo ≤ cell) (before : cell < hi) where
  pub no_gap : value_at kept.pieces cell ≡ None → ⊥
  no_gap e = go standing.columns_are.stretches.whole
    where
      go : (kept.columns ≡ []) ⊎ ((c : ℕ) → c < 1048576 → (i : ℕ) × (value_at kept.pieces c ≡ Some i)) → ⊥
      go (inl z) = let h : None ≡ Some named.entry = ap (λ (xs : List Open). slice_get xs named.is.0) (sym (standing.columns_are.none z)) ∙ named.is.2 in absurd cc
      go (inr f) = let i = f cell (named_within named.entry cell (named.named cell from before)) in some_none (sym i.1 ∙ e)

  module _ (at : ℕ) (here : value_at kept.pieces cell ≡ Some at) where
    pub at_within : at < length kept.columns
    at_within = let s = standing.columns_are.stretches.here cell at here in slice_get_within kept.columns at s.0 s.1

    module _ (column : Column) (is : slice_get kept.columns at ≡ Some column) where
      pub cell_in : (column.lo ≤ cell) × (cell < column.hi)
      cell_in = let s = standing.columns_are.stretches.here cell at here in let e = same_at s.1 is in subst (λ (x : Column). (x.lo ≤ cell) × (cell < x.hi)) e (s.2, s.3)

      pub column_linked : AreLinked column.frames.items
      column_linked = (first_cell kept.opens kept.pieces kept.columns standing.opens_are standing.columns_are at column is).linked

      pub column_marked : AreMarked column.frames.items column.marks.items None
      column_marked = (first_cell kept.opens kept.pieces kept.columns standing.opens_are standing.columns_are at column is).marked

      pub column_covered : AreModesCovered column.frames.items
      column_covered = covered_here kept.opens kept.pieces kept.columns standing.opens_are standing.columns_are at column is

      pub column_shown : IsShown column.frames.items n
      column_shown = shown_here kept.opens kept.pieces kept.columns standing.opens_are standing.columns_are at column is cell cell_in.0 cell_in.1 n named.entry named.is (named.named cell from before)

      place : IsPlaceOf column.frames.items n column_shown.place
      place = (column_shown.frame, column_shown.is, column_shown.number)

      same_entry : (o : Open) → IsNumber kept.opens n o → named.entry ≡ o
      same_entry o number = one_number kept.opens n named.entry o named.is number

      module _ (want : Want) (result : Option TaskNo) (tells : (k : ℕ) → IsPlaceOf column.frames.items n k → MatchOption result (IsSatisfied (place_forest column.frames.items column.marks.items) want k) (λ t. IsBarOf column.frames.items column.marks.items want k t.0)) where
        pub bar_stops : IsPlain want → (u : TaskNo) → result ≡ Some u → (o : Open) → IsNumber kept.opens n o → IsBarredOver kept want o lo hi u.0
        bar_stops plain u e o number = record {
          cell = cell;
          from = from;
          within = before;
          barred =
              barred_here kept.opens kept.pieces kept.columns standing.opens_are standing.columns_are at column is cell cell_in.0 cell_in.1 n o number column_shown.place place want plain u.0
              (subst (λ (r : Option TaskNo). MatchOption r (IsSatisfied (place_forest column.frames.items column.marks.items) want column_shown.place) (λ t. IsBarOf column.frames.items column.marks.items want column_shown.place t.0)) e (tells column_shown.place place));
        }

        clear_at_cell : result ≡ None → (c : ℕ) → column.lo ≤ c → c < column.hi → (o : Open) → IsNumber kept.opens n o → IsSatisfied (opened_forest kept.opens (given_at kept.pieces kept.columns) c) want o.task
        clear_at_cell e c l h o number =
            (exact kept.opens kept.pieces kept.columns standing.opens_are standing.columns_are at column is c l h n o number column_shown.place place want).0
            (subst (λ (r : Option TaskNo). MatchOption r (IsSatisfied (place_forest column.frames.items column.marks.items) want column_shown.place) (λ t. IsBarOf column.frames.items column.marks.items want column_shown.place t.0)) e (tells column_shown.place place))

        pub bar_goes : result ≡ None → (o : Open) → IsNumber kept.opens n o → AreClear kept want o lo cell → AreClear kept want o lo column.hi
        bar_goes e o number f c l h = go (compared c cell)
          where
            go : (c < cell) ⊎ ((c ≡ cell) ⊎ (cell < c)) → IsSatisfied (opened_forest kept.opens (given_at kept.pieces kept.columns) c) want o.task
            go (inl m) = f c l m
            go (inr (inl m)) = clear_at_cell e c (omega (arith, cell_in.0, m)) h o number
            go (inr (inr m)) = clear_at_cell e c (omega (arith, cell_in.0, m)) h o number

      -- the same of the join of a reduction at the cell
      pub join_exact : (result : Bool) → ((k : ℕ) (op : Op) → IsPlaceOf column.frames.items n k → mode_at_place column.frames.items k ≡ Fold op → (IsTrue result ↔ IsSatisfied (place_forest column.frames.items column.marks.items) (ToJoin op) k))
          → (o : Open) (op : Op) → IsNumber kept.opens n o → mode_at cell o ≡ Fold op → (IsTrue result ↔ IsJoinSatisfied (opened_forest kept.opens (given_at kept.pieces kept.columns) cell) op o.task)
      join_exact result tells o op number m =
          let mode = mode_here kept.opens kept.pieces kept.columns standing.opens_are standing.columns_are at column is cell cell_in.0 cell_in.1 n o number column_shown.place place ∙ m in
          let a = tells column_shown.place op place mode in
          let b = exact kept.opens kept.pieces kept.columns standing.opens_are standing.columns_are at column is cell cell_in.0 cell_in.1 n o number column_shown.place place (ToJoin op) in
          (λ e. b.0 (a.0 e), λ s. a.1 (b.1 s))

-- What the accesses of an entry wait for is what its task waits for.
module _ (kept : Kept) (standing : IsStanding kept) (n : ℕ) (o : Open) (number : IsNumber kept.opens n o) where
  pub listed : IsIn o kept.opens
  listed = get_in kept.opens number.0 o number.2

  pub access_named : (a : Access) → IsIn a o.accesses → IsNamedOver kept.opens n a.range.lo a.range.hi
  access_named a i = record { entry = o; is = number; named = λ c l h. named_at o c a (standing.opens_are.once o listed a c i (bounds_in a c l h)) }

  asked : (m : Mode) (c : ℕ) (asks : Asks kept.opens o.task c m) → access_at o.accesses c ≡ Some asks.access
  asked m c asks = ap (λ (x : Open). access_at x.accesses c) (one_entry standing.opens_are.ordered o asks.entry listed asks.listed (sym asks.number)) ∙ asks.at_

  pub met_exact : AreAccessesMet kept o ↔ IsMet kept.opens (given_at kept.pieces kept.columns) o.task
  met_exact = (
    λ f. record {
      reads = λ c asks. let e = asked Read c asks in let k = access_found o.accesses c asks.access e in let b = in_bounds asks.access c k.1 in (f asks.access k.0).reads asks.strong asks.mode_is c b.0 b.1;
      writes = λ c asks. let e = asked Write c asks in let k = access_found o.accesses c asks.access e in let b = in_bounds asks.access c k.1 in (f asks.access k.0).writes asks.strong asks.mode_is c b.0 b.1;
    },
    λ m a i. record {
      reads = λ strong mode c l h. m.reads c (record { entry = o; listed = listed; number = refl; access = a; at_ = standing.opens_are.once o listed a c i (bounds_in a c l h); mode_is = mode; strong = strong });
      writes = λ strong mode c l h. m.writes c (record { entry = o; listed = listed; number = refl; access = a; at_ = standing.opens_are.once o listed a c i (bounds_in a c l h); mode_is = mode; strong = strong });
    },
  )

-- What is known of the fields is known of what contracts see of them.
pub standing_of : (view seen : Kept) (capacity : ℕ) → view ≡ seen → AreRight view.opens capacity view.pieces view.columns view.reserved → IsStanding seen
standing_of view seen capacity e r = subst IsStanding e (record { opens_are = r.opens_are; columns_are = r.columns_are })

pub here_of : (view seen : Kept) → view ≡ seen → (cell at : ℕ) (r : Option ℕ) → r ≡ value_at view.pieces cell → r ≡ Some at → value_at seen.pieces cell ≡ Some at
here_of view seen e cell at r told is = ap (λ (k : Kept). value_at k.pieces cell) (sym e) ∙ sym told ∙ is

pub gap_of : (view seen : Kept) → view ≡ seen → (cell : ℕ) (r : Option ℕ) → r ≡ value_at view.pieces cell → r ≡ None → value_at seen.pieces cell ≡ None
gap_of view seen e cell r told is = ap (λ (k : Kept). value_at k.pieces cell) (sym e) ∙ sym told ∙ is

pub column_of : (view seen : Kept) → view ≡ seen → (at : ℕ) (column : Column) → at < length seen.columns → column ≡ get_or view.columns at column → slice_get seen.columns at ≡ Some column
column_of view seen e at column l is = ap (λ (k : Kept). slice_get k.columns at) (sym e) ∙ column_read view.columns at column (omega (arith, l, ap (λ (k : Kept). length k.columns) e)) is

-- The children's accesses over a range.
module _ (kept : Kept) (standing : IsStanding kept) (n cell at : ℕ) (here : value_at kept.pieces cell ≡ Some at) where
  pub done_within : at < length kept.columns
  done_within = let s = standing.columns_are.stretches.here cell at here in slice_get_within kept.columns at s.0 s.1

  module _ (column : Column) (is : slice_get kept.columns at ≡ Some column) where
    pub done_in : (column.lo ≤ cell) × (cell < column.hi)
    done_in = let s = standing.columns_are.stretches.here cell at here in let e = same_at s.1 is in subst (λ (x : Column). (x.lo ≤ cell) × (cell < x.hi)) e (s.2, s.3)

    pub done_linked : AreLinked column.frames.items
    done_linked = (first_cell kept.opens kept.pieces kept.columns standing.opens_are standing.columns_are at column is).linked

    pub done_marked : AreMarked column.frames.items column.marks.items None
    done_marked = (first_cell kept.opens kept.pieces kept.columns standing.opens_are standing.columns_are at column is).marked

    module _ (result : Option TaskNo) (some : (k : ℕ) → IsPlaceOf column.frames.items n k → MatchOption result (first_at column.marks.items k ≡ None) (λ t. IsFirstOf column.frames.items column.marks.items k t.0)) (none : ((k : ℕ) → IsPlaceOf column.frames.items n k → ⊥) → result ≡ None) where
      -- where a task has no access, no child has one
      no_child : (c : ℕ) → column.lo ≤ c → c < column.hi → (t : ℕ) → IsNumberOf kept.opens n t → ((k : ℕ) → IsPlaceOf column.frames.items n k → ⊥) → AreChildrenDone kept.opens (given_at kept.pieces kept.columns) t c
      no_child c l h t number nowhere o i parent named = absurd (go number (standing.opens_are.covered c o i named))
        where
          r : IsColumn kept.opens c column
          r = right_at kept.opens kept.pieces kept.columns standing.opens_are standing.columns_are at column is c l h

          main_at : (n ≡ 0) → ⊥
          main_at z = nowhere 0 (r.linked.main.0, r.linked.main.1, r.linked.main.2 ∙ sym z)

          above_at : HasCover kept.opens c o → IsNumberOf kept.opens n t → ⊥
          above_at cover (inl (z, e)) = main_at z
          above_at cover (inr (q, is_, e)) =
              let same : cover.above.entry ≡ q = one_entry standing.opens_are.ordered cover.above.entry q cover.above.listed (get_in kept.opens is_.0 q is_.2) (cover.above.number ∙ parent ∙ sym e) in
              let s = r.shown.all q n is_ (subst (λ (x : Open). names c x ≡ true) same cover.above.named) in
              nowhere s.place (s.frame, s.is, s.number)

          go : IsNumberOf kept.opens n t → (o.parent ≡ 0) ⊎ HasCover kept.opens c o → ⊥
          go num (inr cover) = above_at cover num
          go (inl (z, e)) (inl y) = main_at z
          go (inr (q, is_, e)) (inl y) = not_main standing.opens_are.ordered q (get_in kept.opens is_.0 q is_.2) (e ∙ sym parent ∙ y)

      pub child_stops : (u : TaskNo) → result ≡ Some u → (lo hi : ℕ) → lo ≤ cell → cell < hi → (t : ℕ) → IsNumberOf kept.opens n t → HasUndoneChild kept.opens (given_at kept.pieces kept.columns) t lo hi u.0
      child_stops u e lo hi from before t number = go (look_at column.frames.items n)
        where
          go : ((k : ℕ) × IsPlaceOf column.frames.items n k) ⊎ ((k : ℕ) → IsPlaceOf column.frames.items n k → ⊥) → HasUndoneChild kept.opens (given_at kept.pieces kept.columns) t lo hi u.0
          go (inr nowhere) = absurd (some_none (sym e ∙ none nowhere))
          go (inl (k, p)) =
              child_here kept.opens kept.pieces kept.columns standing.opens_are standing.columns_are at column is cell done_in.0 done_in.1 n t number k p u.0
              (subst (λ (r : Option TaskNo). MatchOption r (first_at column.marks.items k ≡ None) (λ t. IsFirstOf column.frames.items column.marks.items k t.0)) e (some k p)) lo hi from before

      pub child_goes : result ≡ None → (lo t : ℕ) → IsNumberOf kept.opens n t → ((c : ℕ) → lo ≤ c → c < cell → AreChildrenDone kept.opens (given_at kept.pieces kept.columns) t c)
          → (c : ℕ) → lo ≤ c → c < column.hi → AreChildrenDone kept.opens (given_at kept.pieces kept.columns) t c
      child_goes e lo t number f c l h = in_three (compared c cell)
        where
          no_first : (k : ℕ) → IsPlaceOf column.frames.items n k → first_at column.marks.items k ≡ None
          no_first k p = subst (λ (r : Option TaskNo). MatchOption r (first_at column.marks.items k ≡ None) (λ t. IsFirstOf column.frames.items column.marks.items k t.0)) e (some k p)

          new : column.lo ≤ c → ((k : ℕ) × IsPlaceOf column.frames.items n k) ⊎ ((k : ℕ) → IsPlaceOf column.frames.items n k → ⊥) → AreChildrenDone kept.opens (given_at kept.pieces kept.columns) t c
          new from (inr nowhere) = no_child c from h t number nowhere
          new from (inl (k, p)) = (children_exact kept.opens kept.pieces kept.columns standing.opens_are standing.columns_are at column is c from h n t number k p).0 (no_first k p)

          in_three : (c < cell) ⊎ ((c ≡ cell) ⊎ (cell < c)) → AreChildrenDone kept.opens (given_at kept.pieces kept.columns) t c
          in_three (inl m) = f c l m
          in_three (inr (inl m)) = new (omega (arith, m, done_in.0)) (look_at column.frames.items n)
          in_three (inr (inr m)) = new (omega (arith, m, done_in.0)) (look_at column.frames.items n)

pub nothing_opened : (kept : Kept) → IsStanding kept → (cell : ℕ) → cell < 1048576 → value_at kept.pieces cell ≡ None → kept.opens ≡ []
nothing_opened kept standing cell l e = go standing.columns_are.stretches.whole
  where
    go : (kept.columns ≡ []) ⊎ ((c : ℕ) → c < 1048576 → (i : ℕ) × (value_at kept.pieces c ≡ Some i)) → kept.opens ≡ []
    go (inl z) = standing.columns_are.none z
    go (inr f) = let i = f cell l in absurd (some_none (sym i.1 ∙ e))

pub none_done : (kept : Kept) → kept.opens ≡ [] → (t c : ℕ) → AreChildrenDone kept.opens (given_at kept.pieces kept.columns) t c
none_done kept e t c o i = absurd (nowhere (subst (λ (xs : List Open). IsIn o xs) e i))
  where
    nowhere : {x : Open} → IsIn x [] → ⊥
    nowhere j = elim j [ ]

-- The entry that the code reads.
pub entry_of : (view seen : Kept) → view ≡ seen → (n : ℕ) (o entry : Open) → IsNumber seen.opens n o → entry ≡ get_or view.opens (n - 1) entry → entry ≡ o
entry_of view seen e n o entry is read =
    let i : n - 1 ≡ is.0 = omega (arith, is.1) in
    read ∙ ap (λ (j : ℕ). get_or view.opens j entry) i ∙ ap (λ (k : Kept). get_or k.opens is.0 entry) e ∙ get_or_from_slice_get seen.opens is.0 o entry is.2

pub in_drop : {A : Type 0} {x : A} (i : ℕ) (xs : List A) → IsIn x (drop i xs) → IsIn x xs
in_drop zero xs h = h
in_drop (suc i) [] h = h
in_drop (suc i) (y ∷ xs) h = there (in_drop i xs h)

first_or_later : {A : Type 0} {x y : A} {xs : List A} → IsIn x (y ∷ xs) → (x ≡ y) ⊎ IsIn x xs
first_or_later here = inl refl
first_or_later (there i) = inr i

pub next_item : {A : Type 0} (xs : List A) (i : ℕ) (item x : A) → i < length xs → item ≡ get_or xs i item → IsIn x (drop i xs) → (x ≡ item) ⊎ IsIn x (drop (i + 1) xs)
next_item xs i item x l e h = first_or_later (subst (λ ys. IsIn x ys) (drop_more xs i item l ∙ ap (λ y. y ∷ drop (i + 1) xs) (sym e)) h)

pub item_in : {A : Type 0} (xs : List A) (i : ℕ) (item : A) → i < length xs → item ≡ get_or xs i item → IsIn item xs
item_in xs i item l e = in_drop i xs (subst (λ ys. IsIn item ys) (sym (drop_more xs i item l ∙ ap (λ y. y ∷ drop (i + 1) xs) (sym e))) here)

pub none_left : {A : Type 0} (xs : List A) (i : ℕ) (x : A) → length xs ≤ i → IsIn x (drop i xs) → ⊥
none_left xs i x l h = nowhere (subst (λ ys. IsIn x ys) (drop_all i xs l) h)
  where
    nowhere : {A : Type 0} {y : A} → IsIn y [] → ⊥
    nowhere j = elim j [ ]

not_write : Read ≡ Write → ⊥
not_write e = absurd cc

not_read : Write ≡ Read → ⊥
not_read e = absurd cc

-- the access of an entry is one of each entry with its number
pub same_access : (kept : Kept) (n : ℕ) (o q : Open) → IsNumber kept.opens n o → IsNumber kept.opens n q → (a : Access) → IsIn a o.accesses → IsIn a q.accesses
same_access kept n o q number other a i = subst (λ (x : Open). IsIn a x.accesses) (one_number kept.opens n o q number other) i

-- A strong read or write that waits hinders its task.
module _ (kept : Kept) (standing : IsStanding kept) (n : ℕ) (o : Open) (number : IsNumber kept.opens n o) (a : Access) (i : IsIn a o.accesses) (strong : a.strong ≡ true) where
  asks_at : (m : Mode) → a.mode ≡ m → (c : ℕ) → a.range.lo ≤ c → c < a.range.hi → Asks kept.opens o.task c m
  asks_at m e c l h = record { entry = o; listed = listed kept standing n o number; number = refl; access = a; at_ = standing.opens_are.once o (listed kept standing n o number) a c i (bounds_in a c l h); mode_is = e; strong = strong }

  pub read_obstacle : a.mode ≡ Read → (r : Option TaskNo) → MatchOption r (AreClear kept ToRead o a.range.lo a.range.hi) (λ u. IsBarredOver kept ToRead o a.range.lo a.range.hi u.0) → MatchOption r (IsAccessMet kept o a) (λ u. Hinders kept.opens (given_at kept.pieces kept.columns) o.task u.0)
  read_obstacle m None f = record { reads = λ x y. f; writes = λ x y. absurd (not_write (sym m ∙ y)) }
  read_obstacle m (Some u) b = read_hinders kept.opens (given_at kept.pieces kept.columns) b.cell o.task u.0 (asks_at Read m b.cell b.from b.within) b.barred

  pub write_obstacle : a.mode ≡ Write → (r : Option TaskNo) → MatchOption r (AreClear kept ToWrite o a.range.lo a.range.hi) (λ u. IsBarredOver kept ToWrite o a.range.lo a.range.hi u.0) → MatchOption r (IsAccessMet kept o a) (λ u. Hinders kept.opens (given_at kept.pieces kept.columns) o.task u.0)
  write_obstacle m None f = record { reads = λ x y. absurd (not_read (sym m ∙ y)); writes = λ x y. f }
  write_obstacle m (Some u) b = write_hinders kept.opens (given_at kept.pieces kept.columns) b.cell o.task u.0 (asks_at Write m b.cell b.from b.within) b.barred

pub main_met : (kept : Kept) → IsStanding kept → (n t : ℕ) → IsNumberOf kept.opens n t → n ≡ 0 → IsMet kept.opens (given_at kept.pieces kept.columns) t
main_met kept standing n t number z = record { reads = λ c asks. absurd (none Read c asks (is_main number)); writes = λ c asks. absurd (none Write c asks (is_main number)) }
  where
    is_main : IsNumberOf kept.opens n t → t ≡ 0
    is_main (inl (y, e)) = e
    is_main (inr (o, is, e)) = absurd (omega (arith, is.1, z))

    none : (m : Mode) (c : ℕ) → Asks kept.opens t c m → t ≡ 0 → ⊥
    none m c asks e = not_main standing.opens_are.ordered asks.entry asks.listed (asks.number ∙ e)

pub entry_number : (kept : Kept) (n t : ℕ) → IsNumberOf kept.opens n t → (n ≡ 0 → ⊥) → (o : Open) × IsNumber kept.opens n o
entry_number kept n t (inl (z, e)) h = absurd (h z)
entry_number kept n t (inr (o, is, e)) h = (o, is)

pub task_obstacle : (kept : Kept) → IsStanding kept → (n t : ℕ) → IsNumberOf kept.opens n t → (n ≡ 0 → ⊥) → (r : Option TaskNo) → ((o : Open) → IsNumber kept.opens n o → MatchOption r (AreAccessesMet kept o) (λ u. Hinders kept.opens (given_at kept.pieces kept.columns) o.task u.0))
    → MatchOption r (IsMet kept.opens (given_at kept.pieces kept.columns) t) (λ u. Hinders kept.opens (given_at kept.pieces kept.columns) t u.0)
task_obstacle kept standing n t (inl (z, e)) h r tells = absurd (h z)
task_obstacle kept standing n t (inr (o, is, e)) h None tells = subst (λ (x : ℕ). IsMet kept.opens (given_at kept.pieces kept.columns) x) e ((met_exact kept standing n o is).0 (tells o is))
task_obstacle kept standing n t (inr (o, is, e)) h (Some u) tells = subst (λ (x : ℕ). Hinders kept.opens (given_at kept.pieces kept.columns) x u.0) e (tells o is)

pub folding_entry : (kept : Kept) → IsStanding kept → (n t c : ℕ) → IsNumberOf kept.opens n t → HasOpened kept.opens c t → (o : Open) × IsNumber kept.opens n o × (o.task ≡ t) × (names c o ≡ true)
folding_entry kept standing n t c (inl (z, e)) h = absurd (not_main standing.opens_are.ordered h.entry h.listed (h.number ∙ e))
folding_entry kept standing n t c (inr (o, is, e)) h =
    (o, is, e, subst (λ (x : Open). names c x ≡ true) (one_entry standing.opens_are.ordered h.entry o h.listed (get_in kept.opens is.0 o is.2) (h.number ∙ sym e)) h.named)

pub folding_named : (kept : Kept) → IsStanding kept → (n t c : ℕ) → IsNumberOf kept.opens n t → IsFolding kept.opens t c → IsNamedOver kept.opens n c (c + 1)
folding_named kept standing n t c number f =
    let o = folding_entry kept standing n t c number f.opened in
    record { entry = o.0; is = o.1; named = λ d l h. subst (λ (x : ℕ). names x o.0 ≡ true) (omega (arith, l, h)) o.3 }

pub join_told : (kept : Kept) → IsStanding kept → (n t c : ℕ) → IsNumberOf kept.opens n t → IsFolding kept.opens t c → (result : Bool)
    → ((o : Open) (op : Op) → IsNumber kept.opens n o → mode_at c o ≡ Fold op → (IsTrue result ↔ IsJoinSatisfied (opened_forest kept.opens (given_at kept.pieces kept.columns) c) op o.task))
    → (op : Op) → mode_in kept.opens c t ≡ Fold op → IsTrue result ↔ IsJoinSatisfied (opened_forest kept.opens (given_at kept.pieces kept.columns) c) op t
join_told kept standing n t c number f result tells op m =
    let o = folding_entry kept standing n t c number f.opened in
    let mode : mode_at c o.0 ≡ Fold op = sym (mode_is c standing.opens_are.ordered o.0 (get_in kept.opens o.1.0 o.0 o.1.2)) ∙ ap (λ (x : ℕ). mode_in kept.opens c x) o.2 ∙ m in
    let a = tells o.0 op o.1 mode in
    (λ r. subst (λ (x : ℕ). IsJoinSatisfied (opened_forest kept.opens (given_at kept.pieces kept.columns) c) op x) o.2 (a.0 r), λ s. a.1 (subst (λ (x : ℕ). IsJoinSatisfied (opened_forest kept.opens (given_at kept.pieces kept.columns) c) op x) (sym o.2) s))
