-- The pieces of a map on a range.
use Rattle.std.specs.Prelude.{◌≡◌, ◌≤◌, ◌<◌, ℕ, Bool, true, false, nat_lt, max, min, if◌then◌else◌, List, [], ◌∷◌, Some, None, refl}
use Rattle.std.proofs.Common.{sym, ◌∙◌, ap, subst, arith}
use Rattle.std.proofs.lemmas.Bool.Decides.{nat_tests}
use Rattle.oss_ranges.proofs.CutLemmas.{next_within}
use Rattle.oss_ranges.proofs.MapLemmas.{none_before}
use Rattle.oss_ranges.specs.Cells.{clipped, is_within, next_of, Rises, value_at}
use Rattle.oss_ranges.specs.declared.piece.Piece.{Piece}

module _ {T : Type 0} where
  abbrev pub clip : ℕ → ℕ → Piece T → Piece T
  clip from to p = record { lo = max p.lo from; hi = min p.hi to; value = p.value }

  clip_here : (from to : ℕ) (p : Piece T) (rest : List (Piece T)) → max p.lo from < min p.hi to → clipped from to (p ∷ rest) ≡ clip from to p ∷ clipped from to rest
  clip_here from to p rest e = grind (arith, nat_tests)

  clip_away : (from to : ℕ) (p : Piece T) (rest : List (Piece T)) → min p.hi to ≤ max p.lo from → clipped from to (p ∷ rest) ≡ clipped from to rest
  clip_away from to p rest e = grind (arith, nat_tests)

  -- pieces behind the range, and where nothing is left of it
  pub clip_behind : (a b from to : ℕ) (xs : List (Piece T)) → Rises a xs b → to ≤ max a from → clipped from to xs ≡ []
  clip_behind a b from to [] h e = refl
  clip_behind a b from to (p ∷ rest) h e =
      let low = h.0 in let own = h.1 in
      clip_away from to p rest (omega arith) ∙ clip_behind p.hi b from to rest h.2 (omega arith)

  -- where the range begins does not matter to pieces behind it
  pub clip_later : (a b from other to : ℕ) (xs : List (Piece T)) → Rises a xs b → from ≤ a → other ≤ a → clipped from to xs ≡ clipped other to xs
  clip_later a b from other to [] h e f = refl
  clip_later a b from other to (p ∷ rest) h e f =
      let low = h.0 in let own = h.1 in
      let more = clip_later p.hi b from other to rest h.2 (omega arith) (omega arith) in
      let same : max p.lo from ≡ max p.lo other = omega arith in
      grind (arith, nat_tests, more, same)

  pub clip_none : (from to : ℕ) (xs : List (Piece T)) → next_of from xs ≡ None → clipped from to xs ≡ []
  clip_none from to [] e = refl
  clip_none from to (p ∷ rest) e = by (nat_lt from p.hi) refl e (λ k. clip_none from to rest k) where
    by : (t : Bool) → nat_lt from p.hi ≡ t → (if t then Some p else next_of from rest) ≡ None → (next_of from rest ≡ None → clipped from to rest ≡ []) → clipped from to (p ∷ rest) ≡ []
    by true w k more = cc
    by false w k more = clip_away from to p rest (grind (arith, nat_tests)) ∙ more k

  -- the first piece behind the front of the range has nothing of it
  pub clip_stop : (a b from to : ℕ) (p : Piece T) (xs : List (Piece T)) → Rises a xs b → next_of from xs ≡ Some p → min p.hi to ≤ max p.lo from → clipped from to xs ≡ []
  clip_stop a b from to p [] h e low = refl
  clip_stop a b from to p (q ∷ rest) h e low = by (nat_lt from q.hi) refl e (λ k. clip_stop q.hi b from to p rest h.2 k low) where
    by : (t : Bool) → nat_lt from q.hi ≡ t → (if t then Some q else next_of from rest) ≡ Some p → (next_of from rest ≡ Some p → clipped from to rest ≡ []) → clipped from to (q ∷ rest) ≡ []
    by true w k more =
        let same : q ≡ p = cc in
        let lower : min q.hi to ≤ max q.lo from = rw same low in
        let own = h.1 in
        let high : from < q.hi = grind (arith, nat_tests) in
        clip_away from to q rest lower ∙ clip_behind q.hi b from to rest h.2 (omega arith)
    by false w k more = clip_away from to q rest (grind (arith, nat_tests)) ∙ more k

  -- it has the first part
  pub clip_first : (a b from to : ℕ) (p : Piece T) (xs : List (Piece T)) → Rises a xs b → next_of from xs ≡ Some p → max p.lo from < min p.hi to → clipped from to xs ≡ clip from to p ∷ clipped (min p.hi to) to xs
  clip_first a b from to p [] h e low = cc
  clip_first a b from to p (q ∷ rest) h e low =
      by (nat_lt from q.hi) refl e (λ k. clip_first q.hi b from to p rest h.2 k low) (λ k. (next_within q.hi b from p rest h.2 k).0) where
        by : (t : Bool) → nat_lt from q.hi ≡ t → (if t then Some q else next_of from rest) ≡ Some p
            → (next_of from rest ≡ Some p → clipped from to rest ≡ clip from to p ∷ clipped (min p.hi to) to rest) → (next_of from rest ≡ Some p → q.hi ≤ p.lo)
            → clipped from to (q ∷ rest) ≡ clip from to p ∷ clipped (min p.hi to) to (q ∷ rest)
        by true w k more past =
            let same : q ≡ p = cc in
            let own = h.1 in
            let lower : max q.lo from < min q.hi to = rw same low in
            let gone = clip_away (min q.hi to) to q rest (omega arith) in
            let high : from < q.hi = grind (arith, nat_tests) in
            let later = clip_later q.hi b from (min q.hi to) to rest h.2 (omega arith) (omega arith) in
            subst (λ z. clipped from to (q ∷ rest) ≡ clip from to z ∷ clipped (min z.hi to) to (q ∷ rest)) same (clip_here from to q rest lower ∙ ap (λ x. clip from to q ∷ x) (later ∙ sym gone))
        by false w k more past =
            let behind = past k in let own = h.1 in
            let away = clip_away from to q rest (grind (arith, nat_tests)) in
            let gone = clip_away (min p.hi to) to q rest (omega arith) in
            away ∙ more k ∙ ap (λ x. clip from to p ∷ x) (sym gone)

  -- the parts lie one behind the other within the range
  pub clip_rises : (a b from to m : ℕ) (xs : List (Piece T)) → Rises a xs b → m ≤ to → m ≤ max a from → Rises m (clipped from to xs) to
  clip_rises a b from to m [] h e f = e
  clip_rises a b from to m (p ∷ rest) h e f =
      by (nat_lt (max p.lo from) (min p.hi to)) refl
      (clip_rises p.hi b from to (min p.hi to) rest h.2 (omega arith) (omega arith))
      (clip_rises p.hi b from to m rest h.2 e (let low = h.0 in let own = h.1 in omega arith)) where
        by : (t : Bool) → nat_lt (max p.lo from) (min p.hi to) ≡ t → Rises (min p.hi to) (clipped from to rest) to → Rises m (clipped from to rest) to
            → Rises m (if t then clip from to p ∷ clipped from to rest else clipped from to rest) to
        by true w here away = ((let low = h.0 in omega arith), grind (arith, nat_tests), here)
        by false w here away = away

  pub clip_map : (a b from to cell : ℕ) (xs : List (Piece T)) → Rises a xs b → value_at (clipped from to xs) cell ≡ (if is_within from to cell then value_at xs cell else None)
  clip_map a b from to cell [] h = grind (arith, nat_tests)
  clip_map a b from to cell (p ∷ rest) h = grind (arith, nat_tests, clip_map p.hi b from to cell rest h.2, none_before p.hi b cell rest h.2)
