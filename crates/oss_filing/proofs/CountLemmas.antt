-- Counts of the tasks of rows.
use Rattle.std.proofs.Common.{◌≡◌, ◌≢◌, ◌⊎◌, inl, inr, ℕ, zero, suc, ◌<◌, ◌≤◌, ◌+◌, refl, sym, ap, ◌∙◌, Bool, true, false, List, Option, Some, None, length, set, arith, eqb-true}
use Rattle.std.specs.Prelude.{not, ◌&&◌, ◌==◌, slice_index}
use Rattle.std.proofs.lemmas.List.{get_or-set_same, get_or-set_other}
use Rattle.oss_words.specs.declared.entry.EntryState.{EntryState}
use Rattle.oss_words.specs.Sums.{below, num}
use Rattle.oss_words.proofs.BoundLemmas.{below_le}
use Rattle.oss_roles.specs.Counting.{stands}
use Rattle.oss_filing.specs.declared.row.Row.{Row}
use Rattle.oss_filing.specs.Counted.{HasRow, adds_to}
use Rattle.oss_filing.specs.Filed.{state_in}
use Rattle.oss_filing.specs.Planned.{waits}
use Rattle.oss_filing.specs.Rows.{row_of}
use Rattle.oss_filing.proofs.Basics.{compared, same_or, some_is}
use Rattle.oss_filing.proofs.FollowLemmas.{read_row, row_read, row_within}

-- One of the first n rows is of the task.
pub record RowBefore (rows : List Row) (n t : ℕ) : Type 0 where
  pub entry : ℕ
  pub row : Row
  pub within : entry ≤ n
  pub is : row_of rows entry ≡ Some row
  pub task : row.info.task ≡ t

-- what a row adds is 1 at most
small : (b : Bool) → num b ≤ 1
small true = omega arith
small false = omega arith

adds_small : (t : ℕ) (o : Option Row) (c : EntryState) → adds_to t o c ≤ 1
adds_small t None c = omega arith
adds_small t (Some r) c = small ((r.info.task == t) && (waits r && not (stands r.info.mode c)))

abbrev pub summed : List Row → List ℕ → ℕ → ℕ → ℕ
summed rows ws t n = below (λ e. adds_to t (row_of rows e) (state_in ws e)) n

pub summed_small : (rows : List Row) (ws : List ℕ) (t n : ℕ) → summed rows ws t n ≤ n
summed_small rows ws t n = let l = below_le (λ e. adds_to t (row_of rows e) (state_in ws e)) n 1 (λ e. adds_small t (row_of rows e) (state_in ws e)) in omega (arith, l)

-- one row more
pub summed_more : (rows : List Row) (ws : List ℕ) (t at : ℕ) (r : Row) → row_of rows (at + 1) ≡ Some r → summed rows ws t (1 + (at + 1)) ≡ adds_to t (Some r) (state_in ws (at + 1)) + summed rows ws t (1 + at)
summed_more rows ws t at r is =
    let d : 1 + at ≡ suc at = omega arith in
    let e : at + 1 ≡ suc at = omega arith in
    let f : 1 + (at + 1) ≡ suc (suc at) = omega arith in
    let g : adds_to t (row_of rows (suc at)) (state_in ws (suc at)) ≡ adds_to t (Some r) (state_in ws (at + 1)) = ap (λ (x : ℕ). adds_to t (row_of rows x) (state_in ws x)) (sym e) ∙ ap (λ (o : Option Row). adds_to t o (state_in ws (at + 1))) is in
    ap (summed rows ws t) f ∙ (ap (λ (x : ℕ). x + summed rows ws t (suc at)) g ∙ ap (λ (x : ℕ). adds_to t (Some r) (state_in ws (at + 1)) + summed rows ws t x) (sym d))

-- no row is of another task
pub adds_none : (rows : List Row) (t e : ℕ) (r : Row) (c : EntryState) → row_of rows e ≡ Some r → (HasRow rows t → ⊥) → adds_to t (Some r) c ≡ 0
adds_none rows t e r c is none = go (r.info.task == t) refl
  where
    go : (b : Bool) → (r.info.task == t) ≡ b → num (b && (waits r && not (stands r.info.mode c))) ≡ 0
    go true h = absurd (none (record { entry = e; row = r; is = is; task = eqb-true r.info.task t h }))
    go false h = refl

-- a count that is set to 0
pub cleared : (counts : List ℕ) (i t : ℕ) → i < length counts → slice_index counts t ≡ 0 → slice_index (set counts i 0) t ≡ 0
cleared counts i t inside h = elim (same_or t i) [
  | inl z ↦ ap (λ (x : ℕ). slice_index (set counts i 0) x) z ∙ get_or-set_same counts i 0 0 inside
  | inr ne ↦ get_or-set_other counts i t 0 0 ne ∙ h
]

pub cleared_here : (counts : List ℕ) (i t : ℕ) → i < length counts → t ≡ i → slice_index (set counts i 0) t ≡ 0
cleared_here counts i t inside z = ap (λ (x : ℕ). slice_index (set counts i 0) x) z ∙ get_or-set_same counts i 0 0 inside

pub cleared_else : (counts : List ℕ) (i t : ℕ) → t ≢ i → slice_index (set counts i 0) t ≡ slice_index counts t
cleared_else counts i t ne = get_or-set_other counts i t 0 0 ne

-- the rows before the next one
pub before_next : (rows : List Row) (at t : ℕ) → at < length rows → RowBefore rows (at + 1) t → (RowBefore rows at t) ⊎ ((read_row rows at).info.task ≡ t)
before_next rows at t l b = elim (compared b.entry (at + 1)) [
  | inl z ↦ inl (record { entry = b.entry; row = b.row; within = omega (arith, z); is = b.is; task = b.task })
  | inr k ↦ elim k [
    | inl z ↦ inr (
        let same : read_row rows at ≡ b.row = some_is (sym (row_read rows at l) ∙ (ap (row_of rows) (sym z) ∙ b.is)) in
        ap (λ (r : Row). r.info.task) same ∙ b.task
        )
    | inr z ↦ absurd (let w = b.within in omega (arith, w, z))
  ]
]

pub has_before : (rows : List Row) (n t : ℕ) → length rows ≤ n → HasRow rows t → RowBefore rows n t
has_before rows n t l h = record { entry = h.entry; row = h.row; within = (let w = (row_within rows h.entry h.row h.is).1 in omega (arith, w, l)); is = h.is; task = h.task }

-- above the rows nothing is added
row_beyond : (rows : List Row) (e : ℕ) → length rows < e → row_of rows e ≡ None
row_beyond rows e l = go (row_of rows e) refl
  where
    go : (o : Option Row) → row_of rows e ≡ o → row_of rows e ≡ None
    go None is = is
    go (Some r) is = absurd (let w = (row_within rows e r is).1 in omega (arith, w, l))

pub summed_on : (rows : List Row) (ws : List ℕ) (t n : ℕ) → length rows < n → summed rows ws t (1 + length rows) ≡ summed rows ws t n
summed_on rows ws t zero l = absurd (omega (arith, l))
summed_on rows ws t (suc n) l = elim (compared (length rows) n) [
  | inl less ↦
      let a : adds_to t (row_of rows n) (state_in ws n) ≡ 0 = ap (λ (o : Option Row). adds_to t o (state_in ws n)) (row_beyond rows n less) in
      let b = summed_on rows ws t n less in
      let d : summed rows ws t (suc n) ≡ adds_to t (row_of rows n) (state_in ws n) + summed rows ws t n = refl in
      omega (arith, a, b, d)
  | inr k ↦ elim k [
    | inl same ↦ (let e : 1 + length rows ≡ suc n = omega (arith, same) in ap (summed rows ws t) e)
    | inr more ↦ absurd (omega (arith, more, l))
  ]
]
