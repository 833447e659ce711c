-- A context in which a task may write each cell, has lent none, and has each written: what a creation, a wait and a write make of it.
use Rattle.std.proofs.Common.{◌≡◌, ℕ, zero, suc, ◌+◌, ◌-◌, ◌<◌, ◌≤◌, refl, sym, subst, ap, ◌∙◌, [], length, arith, Bool, true, false, Some, None}
use Rattle.std.specs.Prelude.{◌==◌, ◌&&◌, ◌||◌, if◌then◌else◌, min, nat_le, nat_lt, slice_index_or}
use Rattle.std.proofs.Math.Nat.{min-eq_left}
use Rattle.std.proofs.lemmas.Bool.Decides.{nat_tests}
use Rattle.oss_syntax.specs.declared.access.Mode.TheVariants.{Write}
use Rattle.oss_syntax.specs.declared.fault.FaultKind.TheVariants as fault
use Rattle.oss_model.specs.Rights.{Right, NoRight, Holds, Lending, Free, Mark, Written, right_from, is_fresh, first_mark, mark_from, is_mixed, is_released, holds_uncovered, any_from, any_cell}
use Rattle.oss_model.specs.Context.{Entry, Context, no_entry, right_of, lent_of, mark_of, table_from, with_entries, main_context, child_context, clause_fault, made, made_mark, wrote, waited, waited_on, release}
use Rattle.oss_model.proofs.ContextLemmas.{tabled_at, length-table_from}
use Rattle.oss_freed.specs.Freed.{all_cells}

-- what a task may do with each cell
abbrev entry : Right → Lending → Mark → Entry
entry r l m = record { right = r; lent = l; mark = m }

abbrev pub whole_entry : Entry
whole_entry = entry (Holds Write true) Free Written

pub record IsWhole (n : ℕ) (x : Context) : Type 0 where
  pub size : length x.entries ≡ n
  pub entry_at : (c : ℕ) → c < n → slice_index_or x.entries c no_entry ≡ whole_entry

tabled_whole : (f : ℕ → Entry) (n c : ℕ) → c < n → f c ≡ whole_entry → slice_index_or (table_from f 0 n) c no_entry ≡ whole_entry
tabled_whole f n c l e = tabled_at f n c no_entry l ∙ e

pub main_whole : (n fuel : ℕ) → IsWhole n (main_context n fuel)
main_whole n fuel = record {
  size = length-table_from (λ c. whole_entry) 0 n;
  entry_at = λ c l. tabled_whole (λ c. whole_entry) n c l refl;
}

with_whole : (n : ℕ) (f : ℕ → Entry) (x : Context) → IsWhole n x → ((c : ℕ) → slice_index_or x.entries c no_entry ≡ whole_entry → f c ≡ whole_entry) → IsWhole n (with_entries f x)
with_whole n f x w h = record {
  size = length-table_from f 0 (length x.entries) ∙ w.size;
  entry_at = λ c l. subst (λ (k : ℕ). slice_index_or (table_from f 0 k) c no_entry ≡ whole_entry) (sym w.size) (tabled_whole f n c l (h c (w.entry_at c l)));
}

marked_still : (b : Bool) → (if b then Written else Written) ≡ Written
marked_still true = refl
marked_still false = refl

pub wrote_whole : (n cell : ℕ) (x : Context) → IsWhole n x → IsWhole n (wrote cell x)
wrote_whole n cell x w =
    with_whole n (λ c. entry (right_of x c) (lent_of x c) (if c == cell then Written else mark_of x c)) x w
    (λ c e. ap (λ (y : Entry). entry y.right y.lent (if c == cell then Written else y.mark)) e ∙ ap (λ (m : Mark). entry (Holds Write true) Free m) (marked_still (c == cell)))

made_written : (r : Right) → made_mark r Written ≡ Written
made_written (Holds Write strong) = refl
made_written _ = refl

pub made_whole : (n : ℕ) (given : ℕ → Right) (x : Context) → IsWhole n x → IsWhole n (made given x)
made_whole n given x w =
    with_whole n (λ c. entry (right_of x c) (lent_of x c) (made_mark (given c) (mark_of x c))) x w
    (λ c e. ap (λ (y : Entry). entry y.right y.lent (made_mark (given c) y.mark)) e ∙ ap (λ (m : Mark). entry (Holds Write true) Free m) (made_written (given c)))

pub waited_whole : (n : ℕ) (x : Context) → IsWhole n x → IsWhole n (waited x)
waited_whole n x w = with_whole n (λ c. entry (right_of x c) Free (mark_of x c)) x w (λ c e. ap (λ (y : Entry). entry y.right Free y.mark) e)

same_whole : (n : ℕ) (x : Context) → IsWhole n x → IsWhole n (with_entries (λ c. entry (right_of x c) (lent_of x c) (mark_of x c)) x)
same_whole n x w = with_whole n (λ c. entry (right_of x c) (lent_of x c) (mark_of x c)) x w (λ c e. ap (λ (y : Entry). entry y.right y.lent y.mark) e)

pub waited_on_whole : (n : ℕ) (x : Context) → IsWhole n x → IsWhole n (waited_on [] x)
waited_on_whole n x w = same_whole n x w

pub release_whole : (n : ℕ) (x : Context) → IsWhole n x → IsWhole n (release [] x)
release_whole n x w = same_whole n x w

-- the clause names each of the cells
no_more : (n : ℕ) → n ≤ 1048575 → min n 1048575 ≡ n
no_more n h = min-eq_left h

both : (a b : Bool) → a ≡ true → b ≡ true → (a && b) ≡ true
both a b h k = rw h (rw k refl)

named_cell : (n c : ℕ) → n ≤ 1048575 → c < suc n → (nat_le 0 c && nat_lt c (min n 1048575 + 1)) ≡ true
named_cell n c h l =
    let m = no_more n h in
    let a : nat_le 0 c ≡ true = grind (arith, nat_tests) in
    let d : c < n + 1 = omega arith in
    let b : nat_lt c (n + 1) ≡ true = grind (arith, nat_tests, d) in
    both (nat_le 0 c) (nat_lt c (min n 1048575 + 1)) a (ap (λ (k : ℕ). nat_lt c (k + 1)) m ∙ b)

strong_either : (b : Bool) → (b || true) ≡ true
strong_either true = refl
strong_either false = refl

all_right : (n : ℕ) (last : Bool) (c : ℕ) → n ≤ 1048576 → c < n → right_from last (all_cells n) c ≡ Holds Write true
all_right zero last c h l = absurd (omega arith)
all_right (suc n) last c h l = ap (λ (b : Bool). if b then Holds Write (last || true) else NoRight) (named_cell n c (omega arith) l) ∙ ap (λ (s : Bool). Holds Write s) (strong_either last)

all_old : (n : ℕ) (c : ℕ) → n ≤ 1048576 → c < n → is_fresh (all_cells n) c ≡ false
all_old zero c h l = absurd (omega arith)
all_old (suc n) c h l = ap (λ (b : Bool). if b then false else true) (named_cell n c (omega arith) l)

all_marked : (n : ℕ) (last : Bool) (c : ℕ) → n ≤ 1048576 → c < n → mark_from last (all_cells n) c ≡ Written
all_marked n last c h l = ap (λ (r : Right). first_mark r (is_fresh (all_cells n) c)) (all_right n last c h l) ∙ ap (λ (b : Bool). first_mark (Holds Write true) b) (all_old n c h l)

abbrev child_entry : ℕ → Bool → ℕ → Entry
child_entry n last c = entry (right_from last (all_cells n) c) Free (mark_from last (all_cells n) c)

child_each : (n : ℕ) (last : Bool) (c : ℕ) → n ≤ 1048576 → c < n → child_entry n last c ≡ whole_entry
child_each n last c h l =
    ap (λ (r : Right). entry r Free (mark_from last (all_cells n) c)) (all_right n last c h l) ∙ ap (λ (m : Mark). entry (Holds Write true) Free m) (all_marked n last c h l)

-- a new task may write each cell too
pub child_whole : (n : ℕ) (x : Context) (last : Bool) → n ≤ 1048576 → IsWhole n x → IsWhole n (child_context x (all_cells n) last)
child_whole n x last h w = record {
  size = length-table_from (child_entry n (x.final || last)) 0 (length x.entries) ∙ w.size;
  entry_at = λ c l. subst (λ (k : ℕ). slice_index_or (table_from (child_entry n (x.final || last)) 0 k) c no_entry ≡ whole_entry) (sym w.size) (tabled_whole (child_entry n (x.final || last)) n c l (child_each n (x.final || last) c h l));
}

-- none of the cells of a range passes a test
none_from : (test : ℕ → Bool) (low n : ℕ) → ((c : ℕ) → c < low + n → test c ≡ false) → any_from test low n ≡ false
none_from test low zero h = refl
none_from test low (suc n) h = ap (λ (b : Bool). b || any_from test (low + 1) n) (h low (omega arith)) ∙ none_from test (low + 1) n (λ c l. h c (omega arith))

none_all : (test : ℕ → Bool) (n : ℕ) → n ≤ 1048576 → ((c : ℕ) → c < n → test c ≡ false) → any_cell test (all_cells n) ≡ false
none_all test zero h k = refl
none_all test (suc n) h k =
    let m = no_more n (omega arith) in
    let e : (min n 1048575 + 1) - 0 ≡ suc n = omega arith in
    ap (λ (d : ℕ). any_from test 0 d || false) e ∙ ap (λ (b : Bool). b || false) (none_from test 0 (suc n) (λ c l. k c (omega arith)))

neither : (b : Bool) → (b && false) ≡ false
neither true = refl
neither false = refl

-- one clause is never mixed
never_mixed : (n : ℕ) (last : Bool) (c : ℕ) → is_mixed last (all_cells n) c ≡ false
never_mixed zero last c = refl
never_mixed (suc n) last c = neither (nat_le 0 c && nat_lt c (min n 1048575 + 1))

not_released : (n : ℕ) (x : Context) (c : ℕ) → IsWhole n x → c < n → is_released (right_of x c) ≡ false
not_released n x c w l = ap (λ (y : Entry). is_released y.right) (w.entry_at c l)

covered : (r : Right) → holds_uncovered (Holds Write true) r ≡ false
covered (Holds m strong) = refl
covered _ = refl

always_covered : (n : ℕ) (x : Context) (last : Bool) (c : ℕ) → IsWhole n x → c < n → holds_uncovered (right_of x c) (right_from last (all_cells n) c) ≡ false
always_covered n x last c w l = ap (λ (y : Entry). holds_uncovered y.right (right_from last (all_cells n) c)) (w.entry_at c l) ∙ covered (right_from last (all_cells n) c)

no_test : (a b c : Bool) → a ≡ false → b ≡ false → c ≡ false → (if a then Some fault.MixedAccess else if b then Some fault.Released else if c then Some fault.NotCovered else None) ≡ None
no_test a b c h k l = rw h (rw k (rw l refl))

-- the judge finds no fault in the clause
pub no_clause_fault : (n : ℕ) (x : Context) (last : Bool) → n ≤ 1048576 → IsWhole n x → clause_fault x (all_cells n) last ≡ None
no_clause_fault n x last h w =
    no_test (any_cell (is_mixed last (all_cells n)) (all_cells n)) (any_cell (λ c. is_released (right_of x c)) (all_cells n)) (any_cell (λ c. holds_uncovered (right_of x c) (right_from last (all_cells n) c)) (all_cells n))
    (none_all (is_mixed last (all_cells n)) n h (λ c l. never_mixed n last c))
    (none_all (λ c. is_released (right_of x c)) n h (λ c l. not_released n x c w l))
    (none_all (λ c. holds_uncovered (right_of x c) (right_from last (all_cells n) c)) n h (λ c l. always_covered n x last c w l))
