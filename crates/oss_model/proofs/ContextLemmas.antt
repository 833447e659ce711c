-- The entries of a context after a change.
use Rattle.std.proofs.Common.{◌≡◌, ℕ, zero, suc, ◌+◌, ◌<◌, ◌≤◌, ◌⊎◌, inl, inr, refl, sym, ap, ◌∙◌, List, length, arith, Bool, true, get_or}
use Rattle.oss_syntax.specs.declared.access.Access.{Access}
use Rattle.oss_syntax.specs.declared.access.Mode.{Mode}
use Rattle.oss_syntax.specs.declared.access.Mode.TheVariants.{Write}
use Rattle.std.specs.Prelude.{◌||◌, ◌==◌, if◌then◌else◌}
use Rattle.std.proofs.lemmas.List.{get_or_past}
use Rattle.oss_model.specs.Rights.{Right, NoRight, Holds, Free, Written, right_from, mark_from}
use Rattle.oss_model.specs.Context.{Entry, Context, no_entry, right_of, lent_of, mark_of, table_from, with_entries, child_context, main_context, made, made_mark, wrote}

pub tabled_in : {A : Type 0} (f : ℕ → A) (k n c : ℕ) (d : A) → c < n → get_or (table_from f k n) c d ≡ f (k + c)
unfolding table_from
tabled_in f k zero c d l = absurd (omega arith)
tabled_in f k (suc n) zero d l = ap f (omega arith)
tabled_in f k (suc n) (suc c) d l = tabled_in f (suc k) n c d (omega arith) ∙ ap f (omega arith)

pub length-table_from : {A : Type 0} (f : ℕ → A) (k n : ℕ) → length (table_from f k n) ≡ n
unfolding table_from
length-table_from f k zero = refl
length-table_from f k (suc n) = ap suc (length-table_from f (suc k) n)

pub tabled_at : {A : Type 0} (f : ℕ → A) (n c : ℕ) (d : A) → c < n → get_or (table_from f 0 n) c d ≡ f c
tabled_at f n c d l = tabled_in f 0 n c d l ∙ ap f (omega arith)

pub tabled_past : {A : Type 0} (f : ℕ → A) (n c : ℕ) (d : A) → n ≤ c → get_or (table_from f 0 n) c d ≡ d
tabled_past f n c d l = get_or_past (table_from f 0 n) c d (let k = length-table_from f 0 n in omega arith)

le_or : (m n : ℕ) → (m < n) ⊎ (n ≤ m)
le_or m n = grind arith

-- a cell has an entry, or no right before and after
pub entry_cases : (f : ℕ → Entry) (x : Context) (c : ℕ) → (right_of (with_entries f x) c ≡ (f c).right) ⊎ ((right_of (with_entries f x) c ≡ NoRight) × (right_of x c ≡ NoRight))
entry_cases f x c = go (le_or c (length x.entries))
  where
    go : (c < length x.entries) ⊎ (length x.entries ≤ c) → (right_of (with_entries f x) c ≡ (f c).right) ⊎ ((right_of (with_entries f x) c ≡ NoRight) × (right_of x c ≡ NoRight))
    go (inl l) = inl (ap (λ (e : Entry). e.right) (tabled_at f (length x.entries) c no_entry l))
    go (inr l) = inr (ap (λ (e : Entry). e.right) (tabled_past f (length x.entries) c no_entry l), ap (λ (e : Entry). e.right) (get_or_past x.entries c no_entry l))

pub same_right : (f : ℕ → Entry) (x : Context) (c : ℕ) → (f c).right ≡ right_of x c → right_of (with_entries f x) c ≡ right_of x c
same_right f x c h = go (entry_cases f x c)
  where
    go : (right_of (with_entries f x) c ≡ (f c).right) ⊎ ((right_of (with_entries f x) c ≡ NoRight) × (right_of x c ≡ NoRight)) → right_of (with_entries f x) c ≡ right_of x c
    go (inl e) = e ∙ h
    go (inr e) = e.0 ∙ sym e.1

-- a mark that a creation or a write sets leaves each right as it is
pub made_right : (given : ℕ → Right) (x : Context) (c : ℕ) → right_of (made given x) c ≡ right_of x c
made_right given x c = same_right (λ d. record { right = right_of x d; lent = lent_of x d; mark = made_mark (given d) (mark_of x d) }) x c refl

pub wrote_right : (cell : ℕ) (x : Context) (c : ℕ) → right_of (wrote cell x) c ≡ right_of x c
wrote_right cell x c = same_right (λ d. record { right = right_of x d; lent = lent_of x d; mark = if d == cell then Written else mark_of x d }) x c refl

pub new_lent : (f : ℕ → Entry) (x : Context) (c : ℕ) → c < length x.entries → lent_of (with_entries f x) c ≡ (f c).lent
new_lent f x c l = ap (λ (e : Entry). e.lent) (tabled_at f (length x.entries) c no_entry l)

-- a cell with a right, or with a lending, is in the table
pub right_within : (x : Context) (c : ℕ) (m : Mode) (strong : Bool) → right_of x c ≡ Holds m strong → c < length x.entries
right_within x c m strong h = go (le_or c (length x.entries))
  where
    go : (c < length x.entries) ⊎ (length x.entries ≤ c) → c < length x.entries
    go (inl l) = l
    go (inr l) = let e : right_of x c ≡ NoRight = ap (λ (e : Entry). e.right) (get_or_past x.entries c no_entry l) in let f : NoRight ≡ Holds m strong = sym e ∙ h in cc

pub lent_past : (x : Context) (c : ℕ) → (c < length x.entries) ⊎ (lent_of x c ≡ Free)
lent_past x c = go (le_or c (length x.entries))
  where
    go : (c < length x.entries) ⊎ (length x.entries ≤ c) → (c < length x.entries) ⊎ (lent_of x c ≡ Free)
    go (inl l) = inl l
    go (inr l) = inr (ap (λ (e : Entry). e.lent) (get_or_past x.entries c no_entry l))

child_entry : Context → List Access → Bool → ℕ → Entry
child_entry x clauses last c = record { right = right_from (x.final || last) clauses c; lent = Free; mark = mark_from (x.final || last) clauses c }

-- the rights of a new task are those of its clauses
pub child_right : (x : Context) (clauses : List Access) (last : Bool) (c : ℕ) (m : Mode) (strong : Bool) → right_of (child_context x clauses last) c ≡ Holds m strong → (right_from (x.final || last) clauses c ≡ Holds m strong) × (c < length x.entries)
unfolding child_entry
child_right x clauses last c m strong h =
    let k = right_within (child_context x clauses last) c m strong h in
    let n : length (table_from (child_entry x clauses last) 0 (length x.entries)) ≡ length x.entries = length-table_from (child_entry x clauses last) 0 (length x.entries) in
    let l : c < length x.entries = omega arith in
    (sym (ap (λ (e : Entry). e.right) (tabled_at (child_entry x clauses last) (length x.entries) c no_entry l)) ∙ h, l)

main_entry : ℕ → Entry
main_entry c = record { right = Holds Write true; lent = Free; mark = Written }

-- main has a strong write on each cell, and on no other
pub main_right : (cells fuel c : ℕ) (m : Mode) (strong : Bool) → right_of (main_context cells fuel) c ≡ Holds m strong → (c < cells) × (m ≡ Write)
unfolding main_entry
main_right cells fuel c m strong h =
    let k = right_within (main_context cells fuel) c m strong h in
    let n : length (table_from main_entry 0 cells) ≡ cells = length-table_from main_entry 0 cells in
    let l : c < cells = omega arith in
    let e : Holds Write true ≡ Holds m strong = sym (ap (λ (e : Entry). e.right) (tabled_at main_entry cells c no_entry l)) ∙ h in
    (l, cc (e))

-- and what is lent
same_lent : (f : ℕ → Entry) (x : Context) (c : ℕ) → (f c).lent ≡ lent_of x c → lent_of (with_entries f x) c ≡ lent_of x c
same_lent f x c h = go (le_or c (length x.entries))
  where
    go : (c < length x.entries) ⊎ (length x.entries ≤ c) → lent_of (with_entries f x) c ≡ lent_of x c
    go (inl l) = new_lent f x c l ∙ h
    go (inr l) = ap (λ (e : Entry). e.lent) (tabled_past f (length x.entries) c no_entry l) ∙ sym (ap (λ (e : Entry). e.lent) (get_or_past x.entries c no_entry l))

pub made_lent : (given : ℕ → Right) (x : Context) (c : ℕ) → lent_of (made given x) c ≡ lent_of x c
made_lent given x c = same_lent (λ d. record { right = right_of x d; lent = lent_of x d; mark = made_mark (given d) (mark_of x d) }) x c refl

pub wrote_lent : (cell : ℕ) (x : Context) (c : ℕ) → lent_of (wrote cell x) c ≡ lent_of x c
wrote_lent cell x c = same_lent (λ d. record { right = right_of x d; lent = lent_of x d; mark = if d == cell then Written else mark_of x d }) x c refl
