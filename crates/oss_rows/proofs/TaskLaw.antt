-- Rows of tasks of a state, and of their accesses, are added to a book.
use Rattle.std.proofs.Common.{◌≡◌, ◌⊎◌, inl, inr, ℕ, ◌<◌, ◌+◌, ◌↔◌, refl, sym, ap, subst, ◌∙◌, Bool, true, false, List, [], ◌∷◌, ◌++◌, length, Option, Some, arith}
use Rattle.oss_syntax.specs.declared.access.Mode.{Mode}
use Rattle.oss_syntax.specs.declared.access.Mode.TheVariants.{Read, Write, Fold}
use Rattle.oss_syntax.specs.declared.access.Op.{Op}
use Rattle.oss_syntax.specs.declared.access.Op.TheVariants.{Add, And, Or, Xor}
use Rattle.oss_model.specs.Bodies.{Program, Start}
use Rattle.oss_model.specs.Context.{right_of}
use Rattle.oss_model.specs.History.{IsMade}
use Rattle.oss_model.specs.Machine.{Task, State, At, HasAccess, HasGiven}
use Rattle.oss_model.specs.Moves.{IsClosed}
use Rattle.oss_model.specs.Rights.{covers, op_eq, Holds}
use Rattle.oss_model.proofs.TreeLemmas.{access_up}
use Rattle.oss_roles.specs.Field.{IsNumberOf, of_main as main_number, of_entry}
use Rattle.oss_roles.specs.Numbers.{entry_number}
use Rattle.oss_roles.specs.Roles.{Role, Site, itself, on}
use Rattle.oss_filing.specs.declared.row.Row.{Row}
use Rattle.oss_filing.specs.Planned.{IsAbove, of_main, of_task, waits}
use Rattle.oss_filing.specs.Rows.{given_in, row_of}
use Rattle.oss_filing.proofs.Basics.{none_some, some_is}
use Rattle.oss_filing.proofs.FollowLemmas.{row_within}
use Rattle.oss_rows.specs.declared.book.NewRow.{NewRow}
use Rattle.oss_rows.specs.Booked.{Contents, IsNew, own as own_task, other as other_task, and_role, grown, row_for, site_for}
use Rattle.oss_rows.specs.OfTasks.{AllRowsAreOfState, AreOfTasks, CellRowsAreAdded, HasRole, IsCellRow, IsTaskRow, NewBooksAreOfNone, TaskRowsAreAdded}
use Rattle.oss_rows.proofs.BookLaw.{grown_booked}
use Rattle.oss_rows.proofs.GrowLaw.{role_old, role_split, row_new, row_old}

apart_sites : {A : Type 0} {c : ℕ} → itself ≡ on c → A
apart_sites h = absurd (let bad : ⊥ = cc in bad)

-- what covers a mode is a write, or that mode
same_op : (a b : Op) → op_eq a b ≡ true → a ≡ b
same_op Add Add h = refl
same_op Add And h = cc
same_op Add Or h = cc
same_op Add Xor h = cc
same_op And Add h = cc
same_op And And h = refl
same_op And Or h = cc
same_op And Xor h = cc
same_op Or Add h = cc
same_op Or And h = cc
same_op Or Or h = refl
same_op Or Xor h = cc
same_op Xor Add h = cc
same_op Xor And h = cc
same_op Xor Or h = cc
same_op Xor Xor h = refl

cover_cases : (a b : Mode) → covers a b ≡ true → (a ≡ Write) ⊎ (a ≡ b)
cover_cases Write b h = inl refl
cover_cases Read Read h = inr refl
cover_cases Read Write h = absurd cc
cover_cases Read (Fold y) h = absurd cc
cover_cases (Fold x) (Fold y) h = inr (ap Fold (same_op x y h))
cover_cases (Fold x) Read h = absurd cc
cover_cases (Fold x) Write h = absurd cc

module _ {S : Type 0} (P : Program S) (s : State S) (b : Contents) (role : ℕ → Option Role) (of : AreOfTasks P s b role) (w : NewRow) where
  abbrev e : ℕ
  e = 1 + length b.rows

  -- the number of a task is below the next one
  number_less : (t : ℕ) (p : List ℕ) → IsNumberOf role t p → t < e
  number_less t p main_number = omega arith
  number_less t p (of_entry q is site path) = let v = of.booked.planned.row t q is in let l = (row_within b.rows t v.0 v.1).1 in omega (arith, l)

  -- the row of an old role is as it was
  row_still : (f : ℕ) (x : Role) → role f ≡ Some x → row_of (b.rows ++ row_for b w ∷ []) f ≡ row_of b.rows f
  row_still f x is = let v = of.booked.planned.row f x is in row_old b.rows (row_for b w) f v.0 v.1 ∙ sym v.1

  module _ (k : ℕ) (p : List ℕ) (row : IsTaskRow P s b role w k p) where
    abbrev r : Role
    r = record { path = k ∷ p; site = itself; task = e; mode = Read; strong = false; counts = false }

    above_own : IsNumberOf role w.parent p → (o : ℕ) → o ≡ w.parent → IsAbove role e r p o
    above_own n o same = go w.parent p n same
      where
        go : (t : ℕ) (a : List ℕ) → IsNumberOf role t a → o ≡ t → IsAbove role e r a o
        go t a main_number z = of_main refl z
        go t a (of_entry q is site path) z = of_task q (ap role z ∙ is) path site (inr (of.own t q is site).1) (let l = number_less t a (of_entry q is site path) in omega (arith, l, z))

    own_new : IsNew b role w r
    own_new = record {
      index = k;
      above_path = p;
      path = refl;
      site = sym (ap site_for row.cell);
      mode = row.mode;
      strong = row.strong;
      task = row.number;
      depth = row.depth;
      shallow = row.shallow;
      counts = sym (strong_off w.strong row.strong);
      cell = λ c h. none_some (sym row.cell ∙ h);
      later = λ f x j is path site. row.later j (record { entry = f; it = x; is = is; path = path; site = site });
      above = above_own row.creator w.parent refl;
      of_task = own_task refl refl;
    }
      where
        strong_off : (z : Bool) → z ≡ false → waits (record (row_for b w) { info = record (row_for b w).info { strong = z } }) ≡ false
        strong_off false h = refl
        strong_off true h = absurd (let bad : ⊥ = cc in bad)

    abbrev role' : ℕ → Option Role
    role' = and_role role e r

    split : (f : ℕ) (x : Role) → role' f ≡ Some x → ((f ≡ e) × (r ≡ x)) ⊎ (role f ≡ Some x)
    split f x is = role_split b role of.booked w r own_new f x is

    given_new : given_in (row_of (b.rows ++ row_for b w ∷ []) e) ≡ w.given
    given_new = ap given_in (row_new b.rows (row_for b w))

    own_added : AreOfTasks P s (grown b w) role'
    own_added = record {
      booked = grown_booked b role of.booked w r own_new;
      own = λ f x is site. elim (split f x is) [
        | inl h ↦ subst (λ (y : Role). ((u : Task S) × At s y.path u) × (y.mode ≡ Read)) h.1 ((row.task, row.at_), refl)
        | inr h ↦ of.own f x h site
      ];
      cell = λ f c x is site. elim (split f x is) [
        | inl h ↦ apart_sites (ap (λ (y : Role). y.site) h.1 ∙ site)
        | inr h ↦ of.cell f c x h site
      ];
      given = λ f c x is site. elim (split f x is) [
        | inl h ↦ apart_sites (ap (λ (y : Role). y.site) h.1 ∙ site)
        | inr h ↦ subst (λ (z : Option Row). ((given_in z ≡ true) ↔ HasGiven s c x.path)) (sym (row_still f x h)) (of.given f c x h site)
      ];
      closed = λ f x is site g. elim (split f x is) [
        | inl h ↦ subst (λ (y : Role). (t : Task S) × At s y.path t × IsClosed P y.path t) h.1 (row.task, row.at_, row.closed (sym given_new ∙ (ap (λ (z : ℕ). given_in (row_of (b.rows ++ row_for b w ∷ []) z)) (sym h.0) ∙ g)))
        | inr h ↦ of.closed f x h site (ap given_in (sym (row_still f x h)) ∙ g)
      ];
    }

  module _ (main : Start S) (made : IsMade P main s) (k c : ℕ) where
    -- the role of the new row
    abbrev cell_role : List ℕ → Mode → Bool → Role
    cell_role p mode strong = record { path = k ∷ p; site = on c; task = w.task; mode = mode; strong = strong; counts = waits (row_for b w) }

    creator_own : (t i : ℕ) (a : List ℕ) → IsNumberOf role t (i ∷ a) → (q : Role) × (role t ≡ Some q) × (q.path ≡ i ∷ a) × (q.site ≡ itself)
    creator_own t i a (of_entry q is site path) = (q, is, path, site)

    -- the entry above is that of the creator's access
    above_cell : (p : List ℕ) (row : IsCellRow s b role w k p c) → IsAbove role e (cell_role p row.access.mode row.access.strong) p w.parent
    above_cell [] row = of_main refl row.parent
    above_cell (i ∷ a) row =
        let up = access_up P main s c k (i ∷ a) row.access.mode made (record { task = row.access.task; at_ = row.access.at_; strong = row.access.strong; right = row.access.right }) in
        let x = row.above (λ nil. let y : i ∷ a ≡ [] = nil in let bad : ⊥ = cc in bad) in
        let o = of.cell x.entry c x.it x.is x.site in
        let n = of.booked.planned.number x.entry x.it x.is in
        let q = creator_own row.creator i a row.creator_is in
        let number : x.it.task ≡ row.creator = of.booked.planned.one x.it.task row.creator n.0 q.0 n.1 q.1 (n.2 ∙ (x.path ∙ sym q.2)) (n.3 ∙ sym q.3) in
        let at : At s (i ∷ a) o.0.task = subst (λ (z : List ℕ). At s z o.0.task) x.path o.0.at_ in
        let task : o.0.task ≡ row.creator_task = some_is (sym at ∙ row.creator_at) in
        let same : up.access.task ≡ o.0.task = some_is (sym up.access.at_ ∙ at) in
        let right : Holds up.mode up.access.strong ≡ Holds o.0.mode o.0.strong = sym up.access.right ∙ (ap (λ (t : Task S). right_of t.body.start.context c) same ∙ o.0.right) in
        let mode : x.it.mode ≡ up.mode = o.1 ∙ (let z : up.mode ≡ o.0.mode = cc in sym z) in
        let entry : x.entry ≡ w.parent = o.3 ∙ (ap (λ (t : ℕ). entry_number t (right_of o.0.task.body.start.context) c) number ∙ (ap (λ (t : Task S). entry_number row.creator (right_of t.body.start.context) c) task ∙ sym row.parent)) in
        let v = of.booked.planned.row x.entry x.it x.is in
        let l = (row_within b.rows x.entry v.0 v.1).1 in
        of_task x.it (ap role (sym entry) ∙ x.is) x.path x.site (elim (cover_cases up.mode row.access.mode up.covers) [ inl z ↦ inl (mode ∙ z) | inr z ↦ inr (mode ∙ z) ]) (omega (arith, l, entry))

    module _ (p : List ℕ) (row : IsCellRow s b role w k p c) where
      abbrev r2 : Role
      r2 = cell_role p row.access.mode row.access.strong

      some_cell : (d : ℕ) → w.cell ≡ Some d → d < length b.mains
      some_cell d h = let same : c ≡ d = some_is (sym row.cell ∙ h) in let l = row.inside in omega (arith, l, same)

      cell_new : IsNew b role w r2
      cell_new = record {
        index = k;
        above_path = p;
        path = refl;
        site = sym (ap site_for row.cell);
        mode = row.mode;
        strong = row.strong;
        task = refl;
        depth = row.depth;
        shallow = row.shallow;
        counts = refl;
        cell = some_cell;
        later = λ f x j is path site. row.later j (record { entry = f; it = x; is = is; path = path; site = site });
        above = above_cell p row;
        of_task = other_task row.own.0 row.own.1 row.own.2 row.own.3;
      }

      abbrev role2 : ℕ → Option Role
      role2 = and_role role e r2

      split2 : (f : ℕ) (x : Role) → role2 f ≡ Some x → ((f ≡ e) × (r2 ≡ x)) ⊎ (role f ≡ Some x)
      split2 f x is = role_split b role of.booked w r2 cell_new f x is

      old2 : (f : ℕ) (x : Role) → role f ≡ Some x → role2 f ≡ Some x
      old2 f x is = role_old b role of.booked w r2 cell_new f x is

      given2 : (f : ℕ) → f ≡ e → given_in (row_of (b.rows ++ row_for b w ∷ []) f) ≡ w.given
      given2 f h = ap (λ (z : ℕ). given_in (row_of (b.rows ++ row_for b w ∷ []) z)) h ∙ ap given_in (row_new b.rows (row_for b w))

      -- the role of an entry is that of an access on this cell
      abbrev CellAt : ℕ → ℕ → Role → Type 0
      CellAt f d x = (a : HasAccess s d x.path) × (x.mode ≡ a.mode) × (x.strong ≡ a.strong) × (f ≡ entry_number x.task (right_of a.task.body.start.context) d)

      cell_site : (d : ℕ) (x : Role) → r2 ≡ x → x.site ≡ on d → c ≡ d
      cell_site d x h site = let z : on c ≡ on d = ap (λ (y : Role). y.site) h ∙ site in cc

      cell_added : AreOfTasks P s (grown b w) role2
      cell_added = record {
        booked = grown_booked b role of.booked w r2 cell_new;
        own = λ f x is site. elim (split2 f x is) [
          | inl h ↦ apart_sites (sym site ∙ ap (λ (y : Role). y.site) (sym h.1))
          | inr h ↦ of.own f x h site
        ];
        cell = λ f d x is site. elim (split2 f x is) [
          | inl h ↦ (let same = cell_site d x h.1 site in subst (λ (z : ℕ). CellAt f z x) same (subst (λ (y : Role). CellAt f c y) h.1 (row.access, refl, refl, h.0 ∙ row.number)))
          | inr h ↦ of.cell f d x h site
        ];
        given = λ f d x is site. elim (split2 f x is) [
          | inl h ↦
              let same = cell_site d x h.1 site in
              subst (λ (z : ℕ). ((given_in (row_of (b.rows ++ row_for b w ∷ []) f) ≡ true) ↔ HasGiven s z x.path)) same
              (subst (λ (q : List ℕ). ((given_in (row_of (b.rows ++ row_for b w ∷ []) f) ≡ true) ↔ HasGiven s c q)) (ap (λ (y : Role). y.path) h.1)
              (subst (λ (z : Bool). ((z ≡ true) ↔ HasGiven s c (k ∷ p))) (sym (given2 f h.0)) row.given))
          | inr h ↦ subst (λ (z : Option Row). ((given_in z ≡ true) ↔ HasGiven s d x.path)) (sym (row_still f x h)) (of.given f d x h site)
        ];
        closed = λ f x is site g. elim (split2 f x is) [
          | inl h ↦ apart_sites (sym site ∙ ap (λ (y : Role). y.site) (sym h.1))
          | inr h ↦ of.closed f x h site (ap given_in (sym (row_still f x h)) ∙ g)
        ];
      }

pub task_rows_are_added : (S : Type 0) → TaskRowsAreAdded S
task_rows_are_added S P s b role w k p of row = (r P s b role of w k p row, refl, refl, own_new P s b role of w k p row, own_added P s b role of w k p row)

pub cell_rows_are_added : (S : Type 0) → CellRowsAreAdded S
cell_rows_are_added S P main s b role w k p c made of row = (r2 P s b role of w main made k c p row, refl, refl, cell_new P s b role of w main made k c p row, cell_added P s b role of w main made k c p row)

pub all_rows_are_of_state : (S : Type 0) → AllRowsAreOfState S
all_rows_are_of_state S P s b role of all_tasks all_cells = record {
  planned = of.booked.planned;
  task = λ k p t at. let x = all_tasks k p t at in (x.entry, x.it, x.is, x.path, x.site);
  access = λ k c p a. access_of k c p a (all_cells k c p a);
  there = λ e r is. there_by e r is r.site refl;
  given = of.given;
  closed = of.closed;
}
  where
    there_by : (e : ℕ) (r : Role) → role e ≡ Some r → (y : Site) → r.site ≡ y → (u : Task S) × At s r.path u
    there_by e r is itself site = (of.own e r is site).0
    there_by e r is (on c) site = let a = (of.cell e c r is site).0 in (a.task, a.at_)

    access_of : (k c : ℕ) (p : List ℕ) (a : HasAccess s c (k ∷ p)) → HasRole role (k ∷ p) (on c)
        → (e : ℕ) × (r : Role) × (role e ≡ Some r) × (r.path ≡ k ∷ p) × (r.site ≡ on c) × (r.mode ≡ a.mode) × (r.strong ≡ a.strong) × (e ≡ entry_number r.task (right_of a.task.body.start.context) c)
    access_of k c p a x =
        let o = of.cell x.entry c x.it x.is x.site in
        let task : o.0.task ≡ a.task = some_is (sym (subst (λ (z : List ℕ). At s z o.0.task) x.path o.0.at_) ∙ a.at_) in
        let right : Holds o.0.mode o.0.strong ≡ Holds a.mode a.strong = sym o.0.right ∙ (ap (λ (t : Task S). right_of t.body.start.context c) task ∙ a.right) in (
          x.entry,
          x.it,
          x.is,
          x.path,
          x.site,
          o.1 ∙ (let z : o.0.mode ≡ a.mode = cc in z),
          o.2 ∙ (let z : o.0.strong ≡ a.strong = cc in z),
          o.3 ∙ ap (λ (t : Task S). entry_number x.it.task (right_of t.body.start.context) c) task,
        )

pub new_books_are_of_none : (S : Type 0) → NewBooksAreOfNone S
new_books_are_of_none S P s b booked = record {
  booked = booked;
  own = λ e r is. none_some is;
  cell = λ e c r is. none_some is;
  given = λ e c r is. none_some is;
  closed = λ e r is. none_some is;
}
