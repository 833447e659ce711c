-- Loops by runs: the cells of a run are alike, so a test fails at each of them or at none. Where it passes, it passes at the
-- first.
use Rattle.std.proofs.Common.{◌≡◌, ℕ, zero, suc, ◌+◌, ◌-◌, ◌<◌, ◌≤◌, sym, ap, ◌∙◌, List, arith, Bool, false, Option}
use Rattle.oss_ranges.specs.Cells.{value_at}
use Rattle.oss_ranges.specs.declared.piece.Piece.{Piece}
use Rattle.oss_model.specs.Rights as rights
use Rattle.oss_model.specs.Rights.{any_from}
use Rattle.oss_judge.specs.Seen.{right_at, right_seen, right_told}
use Rattle.oss_judge.specs.declared.right.Right.{Right}
use Rattle.oss_judge.proofs.TestLemmas.{any_from-later}

fails_on : (test : ℕ → Bool) (n i hi : ℕ) → i + n ≤ hi → ((c : ℕ) → i ≤ c → c < i + n → test c ≡ false)
    → any_from test (i + n) (hi - (i + n)) ≡ any_from test i (hi - i)
fails_on test zero i hi l fails = ap (λ k. any_from test k (hi - k)) (omega arith)
fails_on test (suc n) i hi l fails =
    ap (λ k. any_from test k (hi - k)) (let e : i + suc n ≡ (i + 1) + n = omega arith in e)
    ∙ fails_on test n (i + 1) hi (omega arith) (λ c low high. fails c (omega arith) (omega arith))
    ∙ any_from-later test i hi (omega arith) (fails i (omega arith) (omega arith))

-- each cell of a run fails
pub run-fails : (test : ℕ → Bool) (i end_cell hi : ℕ) → i ≤ end_cell → end_cell ≤ hi → ((c : ℕ) → i ≤ c → c < end_cell → test c ≡ false)
    → any_from test end_cell (hi - end_cell) ≡ any_from test i (hi - i)
run-fails test i end_cell hi low high fails =
    let same : i + (end_cell - i) ≡ end_cell = omega arith in
    sym (ap (λ k. any_from test k (hi - k)) same) ∙ fails_on test (end_cell - i) i hi (omega arith) (λ c l k. fails c l (omega arith))

-- one map: what was told of a run is so of each of its cells
module _ (test : rights.Right → Bool) (pieces : List (Piece Right)) (run : Option Right) (right : Right) (told : right_seen right ≡ right_told run) where
  pub right-fails : (i end_cell hi : ℕ) → i < end_cell → end_cell ≤ hi → ((c : ℕ) → i ≤ c → c < end_cell → value_at pieces c ≡ run) → test (right_seen right) ≡ false
      → any_from (λ c. test (right_at pieces c)) end_cell (hi - end_cell) ≡ any_from (λ c. test (right_at pieces c)) i (hi - i)
  right-fails i end_cell hi low high alike fails =
      run-fails (λ c. test (right_at pieces c)) i end_cell hi (omega arith) high
      (λ c l k. ap (λ v. test (right_told v)) (alike c l k) ∙ sym (ap test told) ∙ fails)

-- two maps: the run of the second one lies within that of the first
module _ (test : rights.Right → rights.Right → Bool) (pieces others : List (Piece Right)) (run other : Option Right) (right wanted : Right)
    (told : right_seen right ≡ right_told run) (also : right_seen wanted ≡ right_told other) where
  abbrev both : ℕ → Bool
  both c = test (right_at pieces c) (right_at others c)

  fails-at : (c : ℕ) → value_at pieces c ≡ run → value_at others c ≡ other → test (right_seen right) (right_seen wanted) ≡ false → both c ≡ false
  fails-at c here there is =
      ap (λ v. test (right_told v) (right_at others c)) here ∙ ap (λ v. test (right_told run) (right_told v)) there
      ∙ sym (ap (λ r. test r (right_told other)) told) ∙ sym (ap (test (right_seen right)) also) ∙ is

  pub both-fail : (i mid end_cell hi : ℕ) → i < end_cell → end_cell ≤ mid → mid ≤ hi
      → ((c : ℕ) → i ≤ c → c < mid → value_at pieces c ≡ run) → ((c : ℕ) → i ≤ c → c < end_cell → value_at others c ≡ other)
      → test (right_seen right) (right_seen wanted) ≡ false
      → any_from both end_cell (hi - end_cell) ≡ any_from both i (hi - i)
  both-fail i mid end_cell hi low inner high alike like fails =
      run-fails both i end_cell hi (omega arith) (omega arith) (λ c l k. fails-at c (alike c l (omega arith)) (like c l k) fails)
