-- The state words of a closed table, copied in order of the entries.
use Rattle.std.proofs.Common.{◌≡◌, inl, inr, sym, subst, refl, ◌∙◌, ap, ℕ, zero, suc, ◌<◌, ◌+◌, ◌*◌, arith, List, [], ◌∷◌, ◌++◌, length, get_or}
use Rattle.std.specs.Prelude.{slice_index}
use mathlib.Core.Option as maybe
use lib.ListN.{get_elem?}
use Rattle.atomic_table.specs.Table.{State, Final, Seen}
use Rattle.oss_words.proofs.SumLemmas.{same_number}
use Rattle.oss_words.specs.Bits.{state_at}
use Rattle.oss_word_net.specs.declared.sight.Sight.{Sight}
use Rattle.oss_word_net.specs.Known.{Rests}
use Rattle.oss_word_net.specs.Table.{Stands}
use Rattle.oss_word_net.proofs.ReadLemmas.{rests}

index_is : (ws : List ℕ) (i w : ℕ) → get_elem? ws i ≡ maybe.some w → get_or ws i 0 ≡ w
index_is [] i w q = absurd (maybe.some-ne-none w (sym q))
index_is (x ∷ ws) zero w q = maybe.some-injective x w q
index_is (x ∷ ws) (suc i) w q = index_is ws i w q

before_last : (xs : List ℕ) (w e : ℕ) → e < length xs → get_or (xs ++ w ∷ []) e 0 ≡ get_or xs e 0
before_last [] w e h = absurd (omega (arith, h))
before_last (x ∷ xs) w zero h = refl
before_last (x ∷ xs) w (suc e) h = before_last xs w e (omega (arith, h))

at_last : (xs : List ℕ) (w : ℕ) → get_or (xs ++ w ∷ []) (length xs) 0 ≡ w
at_last [] w = refl
at_last (x ∷ xs) w = at_last xs w

pub one_longer : (xs ys : List ℕ) (w n : ℕ) → length xs ≡ n → ys ≡ xs ++ w ∷ [] → length ys ≡ n + 1
one_longer xs ys w n size q = ap length q ∙ go xs n size
  where
    go : (xs : List ℕ) (n : ℕ) → length xs ≡ n → length (xs ++ w ∷ []) ≡ n + 1
    go [] n s = omega (arith, s)
    go (x ∷ xs) n s = let r = go xs (length xs) refl in omega (arith, r, s)

-- one word more was copied
pub one_more : (xs ws ys : List ℕ) (w n : ℕ) → length xs ≡ n → ((e : ℕ) → e < n → slice_index xs e ≡ slice_index ws (1 + 2 * e)) → get_elem? ws (1 + 2 * n) ≡ maybe.some w → ys ≡ xs ++ w ∷ []
    → (e : ℕ) → e < n + 1 → slice_index ys e ≡ slice_index ws (1 + 2 * e)
one_more xs ws ys w n size old is q e inside = ap (λ (z : List ℕ). slice_index z e) q ∙ elim (same_number e n) [
  | inl s ↦ ap (λ (k : ℕ). get_or (xs ++ w ∷ []) k 0) (s ∙ sym size) ∙ at_last xs w ∙ sym (index_is ws (1 + 2 * n) w is) ∙ ap (λ (k : ℕ). slice_index ws (1 + 2 * k)) (sym s)
  | inr ne ↦ let less : e < n = grind (arith, inside, ne) in before_last xs w e (omega (arith, less, size)) ∙ old e less
]

-- the words of a table that was closed with a seat which has all parts
pub closed_rests : (n id : ℕ) (s : Sight) (ws xs : List ℕ) → Final (Seen (λ (t : State ℕ Sight). Stands n t.words t.views) id s) ws xs → s.known.view.parts ≡ 65537 → s.known.view.held ≡ [] → s.known.view.half ≡ [] → (e : ℕ) → Rests s.known e (state_at (slice_index ws (1 + 2 * e)))
closed_rests n id s ws xs final all empty whole e =
    let t : State ℕ Sight = final.0 in
    subst (λ (w : List ℕ). Rests s.known e (state_at (slice_index w (1 + 2 * e)))) final.2 (rests n t.words t.views final.1.0 id s final.1.1 all empty whole e)
