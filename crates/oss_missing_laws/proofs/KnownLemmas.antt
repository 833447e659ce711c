-- A context of which the walks know each entry: what acts make of it.
use Rattle.std.proofs.Common.{◌≡◌, refl, sym, ap, ◌∙◌, ℕ, ◌+◌, ◌<◌, ◌⊎◌, inl, inr, Bool, true, false, List, ◌∷◌, length, arith, Option, Some, None}
use Rattle.std.specs.Prelude.{◌&&◌, ◌||◌, ◌==◌, if◌then◌else◌, nat_le, nat_lt, slice_index_or}
use Rattle.std.proofs.lemmas.Bool.Decides.{nat_tests}
use Rattle.oss_syntax.specs.declared.access.Access.{Access}
use Rattle.oss_syntax.specs.declared.access.Mode.TheVariants.{Write}
use Rattle.oss_ranges.specs.Cells.{is_within}
use Rattle.oss_model.specs.Context.{Context, Entry, child_context, in_clauses, lend, lend_cell, lent_of, made, made_mark, main_context, mark_of, no_entry, release, right_of, table_from, waited, waited_on, with_entries, wrote}
use Rattle.oss_model.specs.Rights.{Free, Holds, Lending, Mark, Released, Right, Written, is_mixed, mark_from, right_from}
use Rattle.oss_model.proofs.ContextLemmas.{length-table_from, tabled_at}
use Rattle.oss_needs.specs.declared.clause.Clause.{Clause}
use Rattle.oss_needs.specs.declared.demand.Demand.{Demand}
use Rattle.oss_needs.specs.Claims.{said}
use Rattle.oss_needs.specs.Demands.{gives_value, has_value}
use Rattle.oss_needs.specs.Givens.{given_of}
use Rattle.oss_needs.specs.Meeting.{mark_behind, mark_by, right_by}
use Rattle.oss_needs.proofs.GivenLemmas.{given_is}
use Rattle.oss_task_needs.specs.Asking.{Asked, asks, asks_for, nothing_asked}
use Rattle.oss_lent_cells.specs.Lent.{LentCells, lends, nothing_lent, waited_for}
use Rattle.oss_missing_laws.specs.Entries.{entry_by, lending_of, right_now}
use Rattle.oss_missing_laws.proofs.EntryLemmas.{lending, makes_mark, marks}

-- a row of the table
abbrev entry : Right → Lending → Mark → Entry
entry r l m = record { right = r; lent = l; mark = m }

-- Of each of n cells the judge holds what clauses, demands, releases and lending tell.
pub record IsKnown (n : ℕ) (given : ℕ → Option Clause) (asked : Asked) (released : ℕ → Bool) (lent : LentCells) (x : Context) : Type 0 where
  pub size : length x.entries ≡ n
  pub entry_at : (c : ℕ) → c < n → slice_index_or x.entries c no_entry ≡ entry_by (given c) (asked c) (released c) (lent c)

module _ (n : ℕ) (given : ℕ → Option Clause) where
  tabled_known : (f : ℕ → Entry) (asked : Asked) (released : ℕ → Bool) (lent : LentCells) (x : Context) (m : ℕ) → m ≡ n → x.entries ≡ table_from f 0 m → ((c : ℕ) → c < n → f c ≡ entry_by (given c) (asked c) (released c) (lent c)) → IsKnown n given asked released lent x
  tabled_known f asked released lent x m e t h = record {
    size = ap (λ (xs : List Entry). length xs) t ∙ length-table_from f 0 m ∙ e;
    entry_at = λ c l. ap (λ (xs : List Entry). slice_index_or xs c no_entry) t ∙ ap (λ (k : ℕ). slice_index_or (table_from f 0 k) c no_entry) e ∙ tabled_at f n c no_entry l ∙ h c l;
  }

  with_known : (f : ℕ → Entry) (asked more : Asked) (released gone : ℕ → Bool) (lent held : LentCells) (x : Context) → IsKnown n given asked released lent x
      → ((c : ℕ) → slice_index_or x.entries c no_entry ≡ entry_by (given c) (asked c) (released c) (lent c) → f c ≡ entry_by (given c) (more c) (gone c) (held c)) → IsKnown n given more gone held (with_entries f x)
  with_known f asked more released gone lent held x k h = tabled_known f more gone held (with_entries f x) (length x.entries) k.size refl (λ c l. h c (k.entry_at c l))

  -- of what is asked only the value counts
  pub asked_known : (asked more : Asked) (released : ℕ → Bool) (lent : LentCells) (x : Context) → ((c : ℕ) → c < n → has_value (more c) ≡ has_value (asked c)) → IsKnown n given asked released lent x → IsKnown n given more released lent x
  asked_known asked more released lent x h k = record {
    size = k.size;
    entry_at = λ c l. k.entry_at c l ∙ ap (λ (b : Bool). entry (right_now (released c) (right_by (given c))) (lending_of (lent c)) (if b then Written else mark_by (given c))) (sym (h c l));
  }

  pub counted_known : (asked : Asked) (released : ℕ → Bool) (lent : LentCells) (x y : Context) → y.entries ≡ x.entries → IsKnown n given asked released lent x → IsKnown n given asked released lent y
  counted_known asked released lent x y e k = record {
    size = ap (λ (xs : List Entry). length xs) e ∙ k.size;
    entry_at = λ c l. ap (λ (xs : List Entry). slice_index_or xs c no_entry) e ∙ k.entry_at c l;
  }

  one_cell : (cell c : ℕ) → (c == cell) ≡ is_within cell (cell + 1) c
  one_cell cell c = go (which c)
    where
      which : (c : ℕ) → (c ≡ cell) ⊎ (cell < c) ⊎ (c < cell)
      which c = grind arith

      go : (c ≡ cell) ⊎ (cell < c) ⊎ (c < cell) → (c == cell) ≡ is_within cell (cell + 1) c
      go (inl e) = let a : nat_le cell c ≡ true = grind (arith, nat_tests) in let b : nat_lt c (cell + 1) ≡ true = grind (arith, nat_tests) in let d : (c == cell) ≡ true = grind (arith, nat_tests) in d ∙ sym (ap (λ (x : Bool). x && nat_lt c (cell + 1)) a ∙ b)
      go (inr (inl l)) = let a : nat_le cell c ≡ true = grind (arith, nat_tests) in let b : nat_lt c (cell + 1) ≡ false = grind (arith, nat_tests) in let d : (c == cell) ≡ false = grind (arith, nat_tests) in d ∙ sym (ap (λ (x : Bool). x && nat_lt c (cell + 1)) a ∙ b)
      go (inr (inr l)) = let a : nat_le cell c ≡ false = grind (arith, nat_tests) in let d : (c == cell) ≡ false = grind (arith, nat_tests) in d ∙ sym (ap (λ (x : Bool). x && nat_lt c (cell + 1)) a)

  module _ (asked : Asked) (released : ℕ → Bool) (lent : LentCells) (x : Context) (k : IsKnown n given asked released lent x) where
    pub wrote_known : (d : Demand) (cell : ℕ) → gives_value d ≡ true → IsKnown n given (asks d cell (cell + 1) asked) released lent (wrote cell x)
    wrote_known d cell v =
        with_known (λ c. entry (right_of x c) (lent_of x c) (if c == cell then Written else mark_of x c)) asked (asks d cell (cell + 1) asked) released released lent lent x k
        (λ c e. ap (λ (y : Entry). entry y.right y.lent (if c == cell then Written else y.mark)) e ∙ ap (λ (b : Bool). entry (right_now (released c) (right_by (given c))) (lending_of (lent c)) (if b then Written else mark_behind (mark_by (given c)) (asked c))) (one_cell cell c)
        ∙ by c (is_within cell (cell + 1) c))
      where
        by : (c : ℕ) (b : Bool) → entry (right_now (released c) (right_by (given c))) (lending_of (lent c)) (if b then Written else mark_behind (mark_by (given c)) (asked c)) ≡ entry_by (given c) (if b then d ∷ asked c else asked c) (released c) (lent c)
        by c true = ap (λ (m : Mark). entry (right_now (released c) (right_by (given c))) (lending_of (lent c)) m) (sym (marks.gives (mark_by (given c)) d (asked c) v))
        by c false = refl

    pub made_known : (rights : ℕ → Right) (child : ℕ → Option Clause) → ((c : ℕ) → c < n → rights c ≡ right_by (child c)) → IsKnown n given (asks_for child asked) released lent (made rights x)
    made_known rights child h =
        tabled_known (λ c. entry (right_of x c) (lent_of x c) (made_mark (rights c) (mark_of x c))) (asks_for child asked) released lent (made rights x) (length x.entries) k.size refl
        (λ c l. ap (λ (y : Entry). entry y.right y.lent (made_mark (rights c) y.mark)) (k.entry_at c l)
        ∙ ap (λ (r : Right). entry (right_now (released c) (right_by (given c))) (lending_of (lent c)) (made_mark r (mark_behind (mark_by (given c)) (asked c)))) (h c l)
        ∙ ap (λ (m : Mark). entry (right_now (released c) (right_by (given c))) (lending_of (lent c)) m) (sym (makes_mark (mark_by (given c)) (child c) (asked c))))

    pub lend_known : (rights : ℕ → Right) (number line : ℕ) (child : ℕ → Option Clause) → ((c : ℕ) → c < n → rights c ≡ right_by (child c)) → IsKnown n given asked released (lends number line child lent) (lend rights x)
    lend_known rights number line child h =
        tabled_known (λ c. entry (right_of x c) (lend_cell (rights c) (lent_of x c)) (mark_of x c)) asked released (lends number line child lent) (lend rights x) (length x.entries) k.size refl
        (λ c l. ap (λ (y : Entry). entry y.right (lend_cell (rights c) y.lent) y.mark) (k.entry_at c l)
        ∙ ap (λ (r : Right). entry (right_now (released c) (right_by (given c))) (lend_cell r (lending_of (lent c))) (mark_behind (mark_by (given c)) (asked c))) (h c l)
        ∙ ap (λ (m : Lending). entry (right_now (released c) (right_by (given c))) m (mark_behind (mark_by (given c)) (asked c))) (sym (lending number line (child c) (lent c))))

    pub waited_known : IsKnown n given asked released nothing_lent (waited x)
    waited_known = with_known (λ c. entry (right_of x c) Free (mark_of x c)) asked asked released released lent nothing_lent x k (λ c e. ap (λ (y : Entry). entry y.right Free y.mark) e)

    pub waited_on_known : (named : List Access) → IsKnown n given asked released (waited_for (in_clauses named) lent) (waited_on named x)
    waited_on_known named =
        with_known (λ c. entry (right_of x c) (if in_clauses named c then Free else lent_of x c) (mark_of x c)) asked asked released released lent (waited_for (in_clauses named) lent) x k
        (λ c e. ap (λ (y : Entry). entry y.right (if in_clauses named c then Free else y.lent) y.mark) e ∙ by c (in_clauses named c))
      where
        by : (c : ℕ) (b : Bool) → entry (right_now (released c) (right_by (given c))) (if b then Free else lending_of (lent c)) (mark_behind (mark_by (given c)) (asked c)) ≡ entry_by (given c) (asked c) (released c) (if b then None else lent c)
        by c true = refl
        by c false = refl

    pub release_known : (clauses : List Access) → IsKnown n given asked (λ c. in_clauses clauses c || released c) lent (release clauses x)
    release_known clauses =
        with_known (λ c. entry (if in_clauses clauses c then Released else right_of x c) (lent_of x c) (mark_of x c)) asked asked released (λ c. in_clauses clauses c || released c) lent lent x k
        (λ c e. ap (λ (y : Entry). entry (if in_clauses clauses c then Released else y.right) y.lent y.mark) e ∙ by c (in_clauses clauses c))
      where
        by : (c : ℕ) (b : Bool) → entry (if b then Released else right_now (released c) (right_by (given c))) (lending_of (lent c)) (mark_behind (mark_by (given c)) (asked c)) ≡ entry_by (given c) (asked c) (b || released c) (lent c)
        by c true = refl
        by c false = refl

-- a new task
pub child_rights : (n : ℕ) (x : Context) (clauses : List Access) (last : Bool) → length x.entries ≡ n → (c : ℕ) → c < n → is_mixed (x.final || last) clauses c ≡ false
    → right_of (child_context x clauses last) c ≡ right_by (said (given_of (x.final || last) clauses c))
child_rights n x clauses last e c l m =
    let f : ℕ → Entry = λ (d : ℕ). entry (right_from (x.final || last) clauses d) Free (mark_from (x.final || last) clauses d) in
    ap (λ (k : ℕ). (slice_index_or (table_from f 0 k) c no_entry).right) e ∙ ap (λ (y : Entry). y.right) (tabled_at f n c no_entry l) ∙ sym ((given_is (x.final || last) clauses c).right m)

pub child_known : (n : ℕ) (x : Context) (clauses : List Access) (last : Bool) → length x.entries ≡ n → ((c : ℕ) → c < n → is_mixed (x.final || last) clauses c ≡ false)
    → IsKnown n (λ c. said (given_of (x.final || last) clauses c)) nothing_asked (λ c. false) nothing_lent (child_context x clauses last)
child_known n x clauses last e m =
    let g = λ (c : ℕ). given_is (x.final || last) clauses c in
    tabled_known n (λ c. said (given_of (x.final || last) clauses c)) (λ d. entry (right_from (x.final || last) clauses d) Free (mark_from (x.final || last) clauses d)) nothing_asked (λ c. false) nothing_lent (child_context x clauses last) (length x.entries) e refl
    (λ c l. ap (λ (r : Right). entry r Free (mark_from (x.final || last) clauses c)) (sym ((g c).right (m c l))) ∙ ap (λ (k : Mark). entry (right_by (said (given_of (x.final || last) clauses c))) Free k) (sym ((g c).mark (m c l))))

-- main may write each cell
abbrev pub whole_clause : Option Clause
whole_clause = Some (record { mode = Write; strong = true; fresh = false })

pub main_known : (n fuel : ℕ) → IsKnown n (λ c. whole_clause) nothing_asked (λ c. false) nothing_lent (main_context n fuel)
main_known n fuel = tabled_known n (λ c. whole_clause) (λ c. entry (Holds Write true) Free Written) nothing_asked (λ c. false) nothing_lent (main_context n fuel) n refl refl (λ c l. refl)
