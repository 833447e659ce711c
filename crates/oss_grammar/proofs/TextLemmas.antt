-- The tokens of a text have one answer at most.
use Rattle.std.proofs.Common.{arith, ◌≡◌, ℕ, List, [], ◌∷◌, length, refl, sym, ap, ◌∙◌, subst, append_assoc}
use Rattle.oss_syntax.specs.declared.token.Token.{Token}
use Rattle.oss_syntax.specs.declared.refusal.RefusedKind.{RefusedKind}
use Rattle.oss_grammar.specs.Parsing.{RefusesText}
use Rattle.oss_grammar.specs.Parsing.RefusesText.{text_too_large, at_token_of_text, at_end_of_text}
use Rattle.oss_grammar.specs.Refusals.{Language, IsWithin, kind_of, is_in_pragma}
use Rattle.oss_grammar.proofs.RefusalLemmas.{first_is, reaches_once, no_excess, excess_once}

-- a whole text is not refused
pub no_refusal : {A : Type 0} (L : Language A) (end : ℕ) (ts : List Token) (value : A) (kind : RefusedKind) (line token : ℕ) → L.Has ts value → IsWithin L ts → RefusesText L end ts kind line token → ⊥
no_refusal L end ts value kind line token w within (text_too_large front t more split x inside) = within front t more split x
no_refusal L end ts value kind line token w within (at_token_of_text front t more reaches inside) =
    reaches.ends t more refl (record { more = more; value = value; member = subst (λ ys. L.Has ys value) (reaches.split ∙ sym (append_assoc front (t ∷ []) more)) w })
no_refusal L end ts value kind line token w within (at_end_of_text reaches none inside) = none value w

-- a text is refused once
pub text_refused_once : {A : Type 0} (L : Language A) (end : ℕ) (ts : List Token) (kind other : RefusedKind) (line at token number : ℕ)
    → RefusesText L end ts kind line token → RefusesText L end ts other at number → (kind ≡ other) × (line ≡ at) × (token ≡ number)
text_refused_once L end ts kind other line at token number (text_too_large f t m split x within) (text_too_large g u n split' y within') =
    let e : t ≡ u = excess_once L ts f t m g u n split x within split' y within' in (refl, ap (λ (v : Token). v.line) e, refl)
text_refused_once L end ts kind other line at token number (text_too_large f t m split x within) (at_token_of_text g u n reaches within') = absurd (no_excess L ts f t m g (u ∷ n) split x reaches within')
text_refused_once L end ts kind other line at token number (text_too_large f t m split x within) (at_end_of_text reaches none within') = absurd (no_excess L ts f t m ts [] split x reaches within')
text_refused_once L end ts kind other line at token number (at_token_of_text g u n reaches within') (text_too_large f t m split x within) = absurd (no_excess L ts f t m g (u ∷ n) split x reaches within')
text_refused_once L end ts kind other line at token number (at_end_of_text reaches none within') (text_too_large f t m split x within) = absurd (no_excess L ts f t m ts [] split x reaches within')
text_refused_once L end ts kind other line at token number (at_token_of_text f t m a within) (at_token_of_text g u n b within') =
    let e = reaches_once L.Has ts f (t ∷ m) g (u ∷ n) a b in
    let same_front : f ≡ g = e.0 in
    let same_token : t ≡ u = first_is t u m n e.1 in (
      ap (λ (v : Token). kind_of (is_in_pragma f v.what) v.what) same_token ∙ ap (λ xs. kind_of (is_in_pragma xs u.what) u.what) same_front,
      ap (λ (v : Token). v.line) same_token,
      ap (λ (xs : List Token). length xs) same_front,
    )
text_refused_once L end ts kind other line at token number (at_token_of_text f t m a within) (at_end_of_text b none within') = let e = reaches_once L.Has ts f (t ∷ m) ts [] a b in absurd (grind arith)
text_refused_once L end ts kind other line at token number (at_end_of_text b none within') (at_token_of_text f t m a within) = let e = reaches_once L.Has ts f (t ∷ m) ts [] a b in absurd (grind arith)
text_refused_once L end ts kind other line at token number (at_end_of_text a none within) (at_end_of_text b none' within') = (refl, refl, refl)
