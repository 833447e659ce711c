-- What is given up in the old table is given up in the copy.
use Rattle.std.proofs.Common.{◌≡◌, ℕ, ◌<◌, ◌+◌, sym, ap, ◌∙◌, ◌⊎◌, inl, inr, true, false, List, length, arith}
use Rattle.std.proofs.lemmas.List.{length-set}
use Rattle.oss_deps.proofs.Basics.{bools, compared}
use Rattle.oss_access_lists.specs.declared.hang.Hang.{Hang}
use Rattle.oss_access_lists.specs.declared.marks.Marks.{Marks}
use Rattle.oss_access_lists.specs.Steps.{IsGift}
use Rattle.oss_access_lists.specs.Tables.{gave_in, given_up, hang_at, marks_at, wires_of}
use Rattle.oss_access_lists.specs.Wires.{IsBelow, Place, head, tail}
use Rattle.oss_access_lists.proofs.StepLemmas.{same_or}
use Rattle.oss_retire.specs.Copies.{AreCopied, AreGivenUp, AreHolding, IsCopied, IsKept, at_}
use Rattle.oss_retire.specs.Remainder.{is_spent}
use Rattle.oss_retire.proofs.CopyLemmas.{less_or}

-- lists whose places are the same
below_same : (f g : ℕ → Place) → ((v : ℕ) → g v ≡ f v) → (p v : ℕ) → IsBelow f p v → IsBelow g p v
below_same f g same p v (head h) = head (same v ∙ h)
below_same f g same p v (tail {u = u} h b) = tail (same v ∙ h) (below_same f g same p u b)

module _ (hangs : List Hang) (stand : List Marks) (numbers : List ℕ) (less : List Hang) (fewer places owners : List ℕ) (copied : AreCopied hangs stand numbers (length hangs) less fewer places owners) where
  -- a row with a place was kept
  pub kept_of : (at : ℕ) → 0 < at → at < length hangs → (at_ places at ≡ 0 → ⊥) → IsKept stand (length hangs) at
  kept_of at low within n = record { within = within; not_main = λ z. omega (arith, z, low); not_spent = go (bools (is_spent (marks_at stand at))) }
    where
      go : (is_spent (marks_at stand at) ≡ true) ⊎ (is_spent (marks_at stand at) ≡ false) → is_spent (marks_at stand at) ≡ false
      go (inl e) = absurd (n (copied.none at within e))
      go (inr e) = e

  pub none_given : AreHolding less → AreGivenUp hangs stand (length hangs) 1 less places
  none_given holding = record {
    done = λ v k l. absurd (k.not_main (omega (arith, l)));
    rest = λ v k n. holding (at_ places v);
  }

  not_less : (v at : ℕ) → (v < at + 1 → ⊥) → v < at → ⊥
  not_less v at n l = n (omega (arith, l))

  -- a row that is not given up is passed
  pub given_past : (at : ℕ) → (hang_at hangs at).gave ≡ false → AreGivenUp hangs stand (length hangs) at less places → AreGivenUp hangs stand (length hangs) (at + 1) less places
  given_past at held given = record {
    done = λ v k l. go v k l (same_or v at);
    rest = λ v k n. given.rest v k (not_less v at n);
  }
    where
      go : (v : ℕ) → IsKept stand (length hangs) v → v < at + 1 → (v ≡ at) ⊎ (v ≡ at → ⊥) → (hang_at less (at_ places v)).gave ≡ (hang_at hangs v).gave
      go v k l (inl e) = given.rest v k (λ m. omega (arith, m, e)) ∙ sym held ∙ ap (λ (x : ℕ). (hang_at hangs x).gave) (sym e)
      go v k l (inr n) = given.done v k (less_or v at l n)

  -- a row that was left out is passed
  pub given_out : (at : ℕ) → at < length hangs → at_ places at ≡ 0 → AreGivenUp hangs stand (length hangs) at less places → AreGivenUp hangs stand (length hangs) (at + 1) less places
  given_out at within z given = record {
    done = λ v k l. go v k l (same_or v at);
    rest = λ v k n. given.rest v k (not_less v at n);
  }
    where
      go : (v : ℕ) → IsKept stand (length hangs) v → v < at + 1 → (v ≡ at) ⊎ (v ≡ at → ⊥) → (hang_at less (at_ places v)).gave ≡ (hang_at hangs v).gave
      go v k l (inl e) = absurd ((copied.kept v k).not_main (ap (at_ places) e ∙ z))
      go v k l (inr n) = given.done v k (less_or v at l n)

  -- a gift in the copy
  module _ (place : ℕ) (later : List Hang) (later_is : later ≡ gave_in less place) (gift : IsGift (wires_of less) (wires_of later) place) where
    long : length later ≡ length less
    long = ap (λ (x : List Hang). length x) later_is ∙ length-set less place (given_up (hang_at less place))

    pub still_copied : AreCopied hangs stand numbers (length hangs) later fewer places owners
    still_copied = record {
      placed = copied.placed;
      owned = copied.owned;
      size = copied.size ∙ sym long;
      main = copied.main;
      main_place = copied.main_place;
      owner = copied.owner;
      kept = λ v k. moved v (copied.kept v k);
      none = copied.none;
      only = λ j l n. copied.only j (let m = long in omega (arith, l, m)) n;
      rising = copied.rising;
    }
      where
        moved : (v : ℕ) → IsCopied hangs numbers less fewer places owners v → IsCopied hangs numbers later fewer places owners v
        moved v k = record {
          not_main = k.not_main;
          within = (let m = long in let w = k.within in omega (arith, m, w));
          number = k.number;
          below = below_same (wires_of less).place (wires_of later).place gift.places (at_ places (at_ owners v)) (at_ places v) k.below;
          mode = gift.modes (at_ places v) ∙ k.mode;
        }

    pub given_here : (at : ℕ) → 0 < at → at < length hangs → at_ places at ≡ place → (hang_at hangs at).gave ≡ true → AreGivenUp hangs stand (length hangs) at less places → AreGivenUp hangs stand (length hangs) (at + 1) later places
    given_here at low within is gave given = record {
      done = λ v k l. go v k l (same_or v at);
      rest = λ v k n. gift.others (at_ places v) (other v k (λ e. n (omega (arith, e)))) ∙ given.rest v k (not_less v at n);
    }
      where
        kept_at : IsKept stand (length hangs) at
        kept_at = kept_of at low within (λ z. gift.not_main (sym is ∙ z))

        other : (v : ℕ) → IsKept stand (length hangs) v → (v ≡ at → ⊥) → at_ places v ≡ place → ⊥
        other v k n e = go (compared v at)
          where
            go : (v < at) ⊎ ((v ≡ at) ⊎ (at < v)) → ⊥
            go (inl l) = let r = copied.rising v at l k kept_at in absurd (omega (arith, r, e, is))
            go (inr (inl s)) = n s
            go (inr (inr l)) = let r = copied.rising at v l kept_at k in absurd (omega (arith, r, e, is))

        go : (v : ℕ) → IsKept stand (length hangs) v → v < at + 1 → (v ≡ at) ⊎ (v ≡ at → ⊥) → (hang_at later (at_ places v)).gave ≡ (hang_at hangs v).gave
        go v k l (inl e) = ap (λ (x : ℕ). (hang_at later x).gave) (ap (at_ places) e ∙ is) ∙ gift.given ∙ sym gave ∙ ap (λ (x : ℕ). (hang_at hangs x).gave) (sym e)
        go v k l (inr n) = gift.others (at_ places v) (other v k n) ∙ given.done v k (less_or v at l n)
