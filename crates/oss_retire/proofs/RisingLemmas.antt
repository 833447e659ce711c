-- Numbers that rise along a table rise along what is left of it.
use Rattle.std.proofs.Common.{◌≡◌, ℕ, ◌<◌, sym, ap, ◌∙◌, List, ◌⊎◌, inl, inr, Some, arith}
use Rattle.std.proofs.lemmas.Option.{slice_get_within}
use Rattle.std.specs.Prelude.{slice_get}
use Rattle.oss_deps.proofs.Basics.{compared, some_is, value_within}
use Rattle.oss_access_lists.specs.declared.hang.Hang.{Hang}
use Rattle.oss_access_lists.specs.declared.marks.Marks.{Marks}
use Rattle.oss_access_lists.proofs.StepLemmas.{same_or}
use Rattle.oss_retire.specs.Copies.{AreCopied, IsKept, at_}
use Rattle.oss_retire.specs.Remainder.{AreRising}

module _ (hangs : List Hang) (stand : List Marks) (numbers : List ℕ) (upto : ℕ) (less : List Hang) (fewer places owners : List ℕ) (copied : AreCopied hangs stand numbers upto less fewer places owners) (rising : AreRising numbers) where
  record Origin (j s : ℕ) : Type 0 where
    pub row : ℕ
    pub kept : IsKept stand upto row
    pub place : at_ places row ≡ j
    pub number : slice_get numbers row ≡ Some s

  origin : (j s : ℕ) → slice_get fewer j ≡ Some s → (j ≡ 0 → ⊥) → Origin j s
  origin j s e n =
      let l = slice_get_within fewer j s e in
      let size = copied.size in
      let o = copied.only j (omega (arith, l, size)) n in
      record { row = o.0; kept = o.1; place = o.2; number = sym (copied.kept o.0 o.1).number ∙ (ap (slice_get fewer) o.2 ∙ e) }

  pub rising_copied : AreRising fewer
  rising_copied j k s t e f l = go (same_or j 0)
    where
      last : Origin k t
      last = origin k t f (λ z. omega (arith, z, l))

      go : (j ≡ 0) ⊎ (j ≡ 0 → ⊥) → s < t
      go (inl z) =
          let within = slice_get_within numbers last.row t last.number in
          let main = last.kept.not_main in
          let first = value_within numbers 0 (omega (arith, within)) in
          let zero : s ≡ 0 = some_is (sym e ∙ (ap (slice_get fewer) z ∙ copied.main)) in
          let above = rising 0 last.row first.0 t first.1 last.number (positive last.row main) in
          omega (arith, zero, above)
        where
          positive : (v : ℕ) → (v ≡ 0 → ⊥) → 0 < v
          positive v n = pick (compared 0 v)
            where
              pick : (0 < v) ⊎ ((0 ≡ v) ⊎ (v < 0)) → 0 < v
              pick (inl h) = h
              pick (inr (inl h)) = absurd (n (sym h))
              pick (inr (inr h)) = absurd (omega (arith, h))
      go (inr n) = order (compared first.row last.row)
        where
          first : Origin j s
          first = origin j s e n

          order : (first.row < last.row) ⊎ ((first.row ≡ last.row) ⊎ (last.row < first.row)) → s < t
          order (inl h) = rising first.row last.row s t first.number last.number h
          order (inr (inl h)) = let q : j ≡ k = sym first.place ∙ (ap (at_ places) h ∙ last.place) in absurd (omega (arith, q, l))
          order (inr (inr h)) = let q = copied.rising last.row first.row h last.kept first.kept in let a = first.place in let b = last.place in absurd (omega (arith, q, a, b, l))
