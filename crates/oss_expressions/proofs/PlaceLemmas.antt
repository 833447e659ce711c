-- What is told of a place in a list of tokens is the answer of the grammar there, if the reader is exact.
use Rattle.std.proofs.Common.{arith, ◌≡◌, ◌≤◌, ◌+◌, ◌-◌, ℕ, Bool, List, [], ◌∷◌, ◌++◌, length, refl, sym, ap, ◌∙◌, subst, append_assoc, Result, Ok, Err}
use Rattle.std.specs.Prelude.{take, drop}
use Rattle.std.proofs.lemmas.List.{length-append, length-drop, take-append-drop}
use Rattle.std.proofs.Math.Seq.{drop-append_seam, take-append_seam}
use Rattle.oss_syntax.specs.declared.token.Token.{Token}
use Rattle.oss_syntax.specs.declared.refusal.Refusal.{Refusal}
use Rattle.oss_syntax.specs.declared.refusal.Refusal.TheVariants.{Refused, Memory}
use Rattle.oss_syntax.specs.declared.refusal.Refused.{Refused as RefusedData}
use Rattle.oss_syntax.specs.declared.refusal.RefusedKind.TheVariants as kind
use Rattle.oss_grammar.specs.Reading.{Stop}
use Rattle.oss_grammar.specs.Reading.Stop.{Syntax, Deep}
use Rattle.oss_grammar.specs.Refusals.{Language, IsRead, Refuses, IsAnswer, kind_of, is_in_pragma}
use Rattle.oss_grammar.proofs.AnswerLemmas.{ok_answer, token_answer, end_answer, deep_answer}
use Rattle.oss_grammar.proofs.Parts.{Exact, taken, stopped, sunk}
use Rattle.oss_expressions.specs.ToldAt.{IsToldAt, placed_in, refused_at, count_before, tokens_before}

-- tokens that are cut in three
record Cut (ts : List Token) (at : ℕ) (front rest : List Token) : Type 0 where
  whole : ts ≡ (take at ts ++ front) ++ rest
  count : count_before ts rest ≡ length (take at ts ++ front)
  behind : drop (count_before ts rest) ts ≡ rest
  before : tokens_before ts rest ≡ take at ts ++ front

take_drop : (ts : List Token) (at : ℕ) → ts ≡ take at ts ++ drop at ts
take_drop ts at = sym (take-append-drop at ts)

cut : (ts : List Token) (at : ℕ) (front rest : List Token) → drop at ts ≡ front ++ rest → Cut ts at front rest
cut ts at front rest e = record { whole = whole; count = count; behind = ap (λ n. drop n ts) count ∙ (ap (drop (length start)) whole ∙ drop-append_seam start rest); before = ap (λ n. take n ts) count ∙ (ap (take (length start)) whole ∙ take-append_seam start rest) } where
  start : List Token
  start = take at ts ++ front

  whole : ts ≡ (take at ts ++ front) ++ rest
  whole = take_drop ts at ∙ (ap (λ ys. take at ts ++ ys) e ∙ sym (append_assoc (take at ts) front rest))

  count : count_before ts rest ≡ length (take at ts ++ front)
  count = let size : length ts ≡ length (take at ts ++ front) + length rest = ap length whole ∙ length-append (take at ts ++ front) rest in omega arith

take_length : (ts : List Token) (at : ℕ) → at ≤ length ts → length (take at ts) ≡ at
take_length ts at within =
    let size : length ts ≡ length (take at ts) + length (drop at ts) = ap length (take_drop ts at) ∙ length-append (take at ts) (drop at ts) in
    let dropped : length (drop at ts) ≡ length ts - at = length-drop at ts in omega arith

module _ {A : Type 0} (L : Language A) {read : List Token → Result (A × List Token) Stop} {goes : Token → Bool} (part : Exact read L.Has L.Exceeds goes) where
  ok_at : (ts : List Token) (at : ℕ) → at ≤ length ts → (p : A × List Token) → read (drop at ts) ≡ Ok p → (found : A × ℕ) → (p.0, count_before ts p.1) ≡ found → IsAnswer L ts at (Ok found)
  ok_at ts at within p told found same =
      let w = taken part (drop at ts) p.0 p.1 told in
      let c = cut ts at w.front p.1 w.split in
      let size : length (take at ts ++ w.front) ≡ length (take at ts) + length w.front = length-append (take at ts) w.front in
      let all : length ts ≡ length (take at ts ++ w.front) + length p.1 = ap length c.whole ∙ length-append (take at ts ++ w.front) p.1 in
      let start : length (take at ts) ≡ at = take_length ts at within in
      let number : count_before ts p.1 ≡ length (take at ts ++ w.front) = c.count in
      let place : found.1 ≡ count_before ts p.1 = ap (λ (q : A × ℕ). q.1) (sym same) in
      let answer : IsRead L (drop at ts) p.0 (drop (count_before ts p.1) ts) = subst (λ ys. IsRead L (drop at ts) p.0 ys) (sym c.behind) (ok_answer L part (drop at ts) p.0 p.1 told) in
      (omega arith, omega arith, subst (λ (q : A × ℕ). IsRead L (drop at ts) q.0 (drop q.1 ts)) same answer)

  token_at : (ts : List Token) (at : ℕ) → at ≤ length ts → (t : Token) (more : List Token) → read (drop at ts) ≡ Err (Syntax (t ∷ more)) → IsAnswer L ts at (Err (Refused (refused_at ts (Syntax (t ∷ more)))))
  token_at ts at within t more told =
      let w = stopped part (drop at ts) (t ∷ more) told in
      let c = cut ts at w.front (t ∷ more) w.split in
      let number : length (take at ts) + length w.front ≡ count_before ts (t ∷ more) = sym (c.count ∙ length-append (take at ts) w.front) in
      subst (λ n. Refuses L (take at ts) (drop at ts) (kind_of (is_in_pragma (tokens_before ts (t ∷ more)) t.what) t.what) t.line n) number
      (subst (λ ys. Refuses L (take at ts) (drop at ts) (kind_of (is_in_pragma ys t.what) t.what) t.line (length (take at ts) + length w.front)) (sym c.before)
      (token_answer L part (take at ts) (drop at ts) w.front t more w.split told))

  end_at : (ts : List Token) (at : ℕ) → read (drop at ts) ≡ Err (Syntax []) → IsAnswer L ts at (Err (Refused (refused_at ts (Syntax []))))
  end_at ts at told =
      let size : length ts ≡ length (take at ts) + length (drop at ts) = ap length (take_drop ts at) ∙ length-append (take at ts) (drop at ts) in
      let number : length (take at ts) + length (drop at ts) ≡ count_before ts [] = omega arith in
      subst (λ n. Refuses L (take at ts) (drop at ts) kind.Syntax 0 n) number (end_answer L part (take at ts) (drop at ts) told)

  stop_at : (ts : List Token) (at : ℕ) → at ≤ length ts → (stop : Stop) → read (drop at ts) ≡ Err stop → IsAnswer L ts at (Err (Refused (refused_at ts stop)))
  stop_at ts at within (Syntax []) told = end_at ts at told
  stop_at ts at within (Syntax (t ∷ more)) told = token_at ts at within t more told
  stop_at ts at within (Deep []) told = let w = sunk part (drop at ts) [] told in absurd (no_token w.at) where
    no_token : {t : Token} {ts : List Token} → [] ≡ t ∷ ts → ⊥
    no_token e = absurd (cc)
  stop_at ts at within (Deep (t ∷ more)) told = deep_answer L part (take at ts) (drop at ts) t more told

  ok_same : (r : Result (A × ℕ) RefusedData) (p q : A × ℕ) → r ≡ Ok p → r ≡ Ok q → p ≡ q
  ok_same r p q e e' = cc

  pub answer_at : (ts : List Token) (at : ℕ) → at ≤ length ts → (r : Result (A × ℕ) Refusal) → IsToldAt read ts at r → IsAnswer L ts at r
  answer_at ts at within (Err (Memory error)) told = told
  answer_at ts at within (Ok found) told = on (read (drop at ts)) refl told where
    on : (r : Result (A × List Token) Stop) → read (drop at ts) ≡ r → placed_in ts r ≡ Ok found → IsAnswer L ts at (Ok found)
    on (Ok p) e told = ok_at ts at within p e found (ok_same (placed_in ts (Ok p)) (p.0, count_before ts p.1) found refl told)
    on (Err stop) e told = absurd (cc)
  answer_at ts at within (Err (Refused refused)) told = on (read (drop at ts)) refl told where
    on : (r : Result (A × List Token) Stop) → read (drop at ts) ≡ r → placed_in ts r ≡ Err refused → IsAnswer L ts at (Err (Refused refused))
    on (Ok p) e told = absurd (cc)
    on (Err stop) e told = let same : refused_at ts stop ≡ refused = cc in subst (λ x. IsAnswer L ts at (Err (Refused x))) same (stop_at ts at within stop e)
