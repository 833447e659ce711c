-- A context by the maps that it keeps.
use Rattle.std.proofs.Common.{◌≡◌, ◌≤◌, ◌<◌, ◌+◌, ℕ, zero, suc, ◌⊎◌, inl, inr, refl, sym, ap, ◌∙◌, List, [], ◌∷◌, length, get_or, arith, Bool, None}
use Rattle.std.specs.Prelude.{◌||◌}
use Rattle.oss_ranges.specs.Cells.{value_at}
use Rattle.oss_ranges.specs.declared.piece.Piece.{Piece}
use Rattle.oss_judge.specs.Seen.{entry_at, lent_at, mark_at, right_at}
use Rattle.oss_judge.specs.View.{EndsBefore, start_context}
use Rattle.oss_judge.specs.declared.right.Right.{Right}
use Rattle.oss_judge.specs.declared.lending.Lending.{Lending}
use Rattle.oss_judge.specs.declared.mark.Mark.{Mark}
use Rattle.oss_model.proofs.ContextLemmas.{length-table_from, tabled_at, tabled_past}
use Rattle.oss_model.specs.Context.{Context, Entry, child_context, lend, lend_cell, lent_of, made, made_mark, mark_of, no_entry, right_of, table_from, with_entries}
use Rattle.oss_model.specs.Rights as model
use Rattle.oss_model.specs.Rights.{Free, Written, first_mark, is_fresh, mark_from, right_from}
use Rattle.oss_syntax.specs.declared.access.Access.{Access}

below_or : (m n : ℕ) → (m < n) ⊎ (n ≤ m)
below_or m n = grind arith

-- tables of functions that agree on their cells
same_from : (f g : ℕ → Entry) (k n : ℕ) → ((c : ℕ) → k ≤ c → c < k + n → f c ≡ g c) → table_from f k n ≡ table_from g k n
unfolding table_from
same_from f g k zero h = refl
same_from f g k (suc n) h =
    ap (λ e. e ∷ table_from f (suc k) n) (h k (omega arith) (omega arith))
    ∙ ap (λ es. g k ∷ es) (same_from f g (suc k) n (λ c low high. h c (omega arith) (omega arith)))

pub same_table : (f g : ℕ → Entry) (n : ℕ) → ((c : ℕ) → c < n → f c ≡ g c) → table_from f 0 n ≡ table_from g 0 n
same_table f g n h = same_from f g 0 n (λ c low high. h c (omega arith))

-- the counts of a context, beside its entries
pub record Counts : Type 0 where
  pub ticks : ℕ
  pub fuel : ℕ
  pub created : ℕ
  pub depth : ℕ
  pub final : Bool

module _ (cells : ℕ) (rights : List (Piece Right)) (lent : List (Piece Lending)) (marks : List (Piece Mark)) (n : Counts) where
  -- the context of these maps
  abbrev pub seen : Context
  seen = record { entries = table_from (entry_at rights lent marks) 0 cells; ticks = n.ticks; fuel = n.fuel; created = n.created; depth = n.depth; final = n.final }

  pub seen_entry : EndsBefore cells rights → EndsBefore cells lent → EndsBefore cells marks → (c : ℕ) → get_or (table_from (entry_at rights lent marks) 0 cells) c no_entry ≡ entry_at rights lent marks c
  seen_entry r l m c = by (below_or c cells) where
    by : (c < cells) ⊎ (cells ≤ c) → get_or (table_from (entry_at rights lent marks) 0 cells) c no_entry ≡ entry_at rights lent marks c
    by (inl low) = tabled_at (entry_at rights lent marks) cells c no_entry low
    by (inr high) = tabled_past (entry_at rights lent marks) cells c no_entry high ∙ past (r c high) (l c high) (m c high) where
      past : value_at rights c ≡ None → value_at lent c ≡ None → value_at marks c ≡ None → no_entry ≡ entry_at rights lent marks c
      past e f g = rw (e, f, g) refl

  pub seen_right : EndsBefore cells rights → EndsBefore cells lent → EndsBefore cells marks → (c : ℕ) → right_of seen c ≡ right_at rights c
  seen_right r l m c = ap (λ (e : Entry). e.right) (seen_entry r l m c)

  pub seen_lent : EndsBefore cells rights → EndsBefore cells lent → EndsBefore cells marks → (c : ℕ) → lent_of seen c ≡ lent_at lent c
  seen_lent r l m c = ap (λ (e : Entry). e.lent) (seen_entry r l m c)

  pub seen_mark : EndsBefore cells rights → EndsBefore cells lent → EndsBefore cells marks → (c : ℕ) → mark_of seen c ≡ mark_at marks c
  seen_mark r l m c = ap (λ (e : Entry). e.mark) (seen_entry r l m c)

  -- other entries in their place
  pub seen_with : (f : ℕ → Entry) (table : List Entry) → table ≡ table_from f 0 cells → record seen { entries = table } ≡ with_entries f seen
  seen_with f table e = ap (λ es. record seen { entries = es }) (e ∙ ap (table_from f 0) (sym (length-table_from (entry_at rights lent marks) 0 cells)))

-- what the maps of a context tell of a cell is what the context has of it
pub own_right : (cells : ℕ) (rights : List (Piece Right)) (lent : List (Piece Lending)) (marks : List (Piece Mark)) (n : Counts) → EndsBefore cells rights → EndsBefore cells lent → EndsBefore cells marks
    → (x : Context) → seen cells rights lent marks n ≡ x → (c : ℕ) → right_at rights c ≡ right_of x c
own_right cells rights lent marks n r l m x view c = sym (seen_right cells rights lent marks n r l m c) ∙ ap (λ y. right_of y c) view

pub own_mark : (cells : ℕ) (rights : List (Piece Right)) (lent : List (Piece Lending)) (marks : List (Piece Mark)) (n : Counts) → EndsBefore cells rights → EndsBefore cells lent → EndsBefore cells marks
    → (x : Context) → seen cells rights lent marks n ≡ x → (c : ℕ) → mark_at marks c ≡ mark_of x c
own_mark cells rights lent marks n r l m x view c = sym (seen_mark cells rights lent marks n r l m c) ∙ ap (λ y. mark_of y c) view

-- how many cells a context has
pub own_length : (cells : ℕ) (rights : List (Piece Right)) (lent : List (Piece Lending)) (marks : List (Piece Mark)) (n : Counts) → (x : Context) → seen cells rights lent marks n ≡ x → cells ≡ length x.entries
own_length cells rights lent marks n x view = sym (length-table_from (entry_at rights lent marks) 0 cells) ∙ ap (λ (y : Context). length y.entries) view

-- the maps of a context after a change, whose entries are those of a function
pub seen_is : (cells : ℕ) (rights : List (Piece Right)) (lent : List (Piece Lending)) (marks : List (Piece Mark)) (r : List (Piece Right)) (l : List (Piece Lending)) (m : List (Piece Mark)) (n : Counts) (f : ℕ → Entry)
    → ((c : ℕ) → c < cells → entry_at r l m c ≡ f c) → seen cells r l m n ≡ with_entries f (seen cells rights lent marks n)
seen_is cells rights lent marks r l m n f h = seen_with cells rights lent marks n f (table_from (entry_at r l m) 0 cells) (same_table (entry_at r l m) f cells h)

pub entry_is : (r s : model.Right) (l k : model.Lending) (m o : model.Mark) → r ≡ s → l ≡ k → m ≡ o → ◌≡◌ {A = Entry} (record { right = r; lent = l; mark = m }) (record { right = s; lent = k; mark = o })
entry_is r s l k m o e f g = rw (e, f, g) refl

module _ (cells : ℕ) (rights : List (Piece Right)) (lent : List (Piece Lending)) (marks : List (Piece Mark)) (n : Counts) (r : EndsBefore cells rights) (l : EndsBefore cells lent) (m : EndsBefore cells marks) where
  -- the context before a change
  abbrev before : Context
  before = seen cells rights lent marks n

  -- a change of the rights, of what is lent, and of the marks alone
  pub rights_changed : (now : List (Piece Right)) (f : ℕ → model.Right → model.Right) → ((c : ℕ) → c < cells → right_at now c ≡ f c (right_at rights c))
      → seen cells now lent marks n ≡ with_entries (λ c. record { right = f c (right_of before c); lent = lent_of before c; mark = mark_of before c }) before
  rights_changed now f h = seen_is cells rights lent marks now lent marks n _ (λ c low.
      entry_is (right_at now c) (f c (right_of before c)) (lent_at lent c) (lent_of before c) (mark_at marks c) (mark_of before c)
      (h c low ∙ ap (f c) (sym (seen_right cells rights lent marks n r l m c))) (sym (seen_lent cells rights lent marks n r l m c)) (sym (seen_mark cells rights lent marks n r l m c)))

  pub lent_changed : (now : List (Piece Lending)) (f : ℕ → model.Lending → model.Lending) → ((c : ℕ) → c < cells → lent_at now c ≡ f c (lent_at lent c))
      → seen cells rights now marks n ≡ with_entries (λ c. record { right = right_of before c; lent = f c (lent_of before c); mark = mark_of before c }) before
  lent_changed now f h = seen_is cells rights lent marks rights now marks n _ (λ c low.
      entry_is (right_at rights c) (right_of before c) (lent_at now c) (f c (lent_of before c)) (mark_at marks c) (mark_of before c)
      (sym (seen_right cells rights lent marks n r l m c)) (h c low ∙ ap (f c) (sym (seen_lent cells rights lent marks n r l m c))) (sym (seen_mark cells rights lent marks n r l m c)))

  pub marks_changed : (now : List (Piece Mark)) (f : ℕ → model.Mark → model.Mark) → ((c : ℕ) → c < cells → mark_at now c ≡ f c (mark_at marks c))
      → seen cells rights lent now n ≡ with_entries (λ c. record { right = right_of before c; lent = lent_of before c; mark = f c (mark_of before c) }) before
  marks_changed now f h = seen_is cells rights lent marks rights lent now n _ (λ c low.
      entry_is (right_at rights c) (right_of before c) (lent_at lent c) (lent_of before c) (mark_at now c) (f c (mark_of before c))
      (sym (seen_right cells rights lent marks n r l m c)) (sym (seen_lent cells rights lent marks n r l m c)) (h c low ∙ ap (f c) (sym (seen_mark cells rights lent marks n r l m c))))

-- a change of what is lent and of the marks together, as a creation makes it
pub both_changed : (cells : ℕ) (rights : List (Piece Right)) (lent : List (Piece Lending)) (marks : List (Piece Mark)) (n : Counts) → EndsBefore cells rights → EndsBefore cells lent → EndsBefore cells marks
    → (given : ℕ → model.Right) (lending : List (Piece Lending)) (marked : List (Piece Mark)) → EndsBefore cells lending
    → ((c : ℕ) → c < cells → lent_at lending c ≡ lend_cell (given c) (lent_at lent c)) → ((c : ℕ) → c < cells → mark_at marked c ≡ made_mark (given c) (mark_at marks c))
    → seen cells rights lending marked n ≡ made given (lend given (seen cells rights lent marks n))
both_changed cells rights lent marks n r l m given lending marked past lends marks_it =
    marks_changed cells rights lending marks n r past m marked (λ c mark. made_mark (given c) mark) marks_it
    ∙ ap (made given) (lent_changed cells rights lent marks n r l m lending (λ c lent. lend_cell (given c) lent) lends)

-- a creation lends and marks by the rights alone, however they are told
pub lend_same : (f g : ℕ → model.Right) (x : Context) → ((c : ℕ) → f c ≡ g c) → lend f x ≡ lend g x
lend_same f g x h = ap (λ es. record x { entries = es })
    (same_table (λ c. record { right = right_of x c; lent = lend_cell (f c) (lent_of x c); mark = mark_of x c }) (λ c. record { right = right_of x c; lent = lend_cell (g c) (lent_of x c); mark = mark_of x c }) (length x.entries)
    (λ c low. ap (λ r. record { right = right_of x c; lent = lend_cell r (lent_of x c); mark = mark_of x c }) (h c)))

pub made_same : (f g : ℕ → model.Right) (x : Context) → ((c : ℕ) → f c ≡ g c) → made f x ≡ made g x
made_same f g x h = ap (λ es. record x { entries = es })
    (same_table (λ c. record { right = right_of x c; lent = lent_of x c; mark = made_mark (f c) (mark_of x c) }) (λ c. record { right = right_of x c; lent = lent_of x c; mark = made_mark (g c) (mark_of x c) }) (length x.entries)
    (λ c low. ap (λ r. record { right = right_of x c; lent = lent_of x c; mark = made_mark r (mark_of x c) }) (h c)))

-- a new task by its rights and marks, which are those of its clauses
pub child_is : (x : Context) (clauses : List Access) (last : Bool) (final : Bool) (right : ℕ → model.Right) (mark : ℕ → model.Mark) → final ≡ (x.final || last)
    → ((c : ℕ) → c < length x.entries → right c ≡ right_from (x.final || last) clauses c) → ((c : ℕ) → c < length x.entries → mark c ≡ mark_from (x.final || last) clauses c)
    → start_context x right mark final ≡ child_context x clauses last
child_is x clauses last final right mark kept same like =
    ap (λ es. record { entries = es; ticks = 0; fuel = x.fuel; created = 0; depth = x.depth + 1; final = final })
    (same_table (λ c. record { right = right c; lent = Free; mark = mark c }) (λ c. record { right = right_from (x.final || last) clauses c; lent = Free; mark = mark_from (x.final || last) clauses c }) (length x.entries)
    (λ c low. entry_is (right c) (right_from (x.final || last) clauses c) Free Free (mark c) (mark_from (x.final || last) clauses c) (same c low) refl (like c low)))
    ∙ ap (λ f. record { entries = table_from (λ c. record { right = right_from (x.final || last) clauses c; lent = Free; mark = mark_from (x.final || last) clauses c }) 0 (length x.entries); ticks = 0; fuel = x.fuel; created = 0; depth = x.depth + 1; final = f }) kept

-- the maps with which a new task starts
pub start_is : (cells : ℕ) (rights : List (Piece Right)) (lent : List (Piece Lending)) (marks : List (Piece Mark)) (x : Context) (final : Bool) → cells ≡ length x.entries → lent ≡ []
    → seen cells rights lent marks (record { ticks = 0; fuel = x.fuel; created = 0; depth = x.depth + 1; final = final }) ≡ start_context x (right_at rights) (mark_at marks) final
start_is cells rights lent marks x final size none =
    ap (λ es. record { entries = es; ticks = 0; fuel = x.fuel; created = 0; depth = x.depth + 1; final = final })
    (same_table (entry_at rights lent marks) (λ c. record { right = right_at rights c; lent = Free; mark = mark_at marks c }) cells
    (λ c low. entry_is (right_at rights c) (right_at rights c) (lent_at lent c) Free (mark_at marks c) (mark_at marks c) refl (ap (λ ps. lent_at ps c) none) refl)
    ∙ ap (table_from (λ c. record { right = right_at rights c; lent = Free; mark = mark_at marks c }) 0) size)
