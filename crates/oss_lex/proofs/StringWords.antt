-- The string behind an opening quote.
use Rattle.std.proofs.Common.{◌≡◌, ℕ, Bool, true, false, List, [], ◌∷◌, ◌++◌, refl, ap, sym, ◌∙◌, inl, inr, arith, append_assoc, append-nil}
use Rattle.std.proofs.lemmas.Bool.{cases_Bool, eqb-true}
use Rattle.std.proofs.lemmas.Bool.Decides.{nat_tests}
use Rattle.std.specs.Prelude.{◌==◌, Ok, Err}
use Rattle.oss_syntax.specs.declared.token.TokenKind.TheVariants.{Text}
use Rattle.oss_syntax.specs.declared.refusal.RefusedKind.TheVariants.{Lexical}
use Rattle.oss_grammar.specs.Words.{is_plain, is_escape, escaped, Spells}
use Rattle.oss_grammar.specs.Words.Spells.{nothing, plain, escape}
use Rattle.oss_lex.specs.Reading.{Answer, string_at}

-- how the bytes go on, behind a backslash or not
abbrev pub Behind : Bool → List ℕ → List ℕ → Type 0
Behind true word bytes = Spells (92 ∷ word) bytes
Behind false word bytes = Spells word bytes

-- the string that is answered is spelled up to a quote
abbrev pub StringFits : Bool → List ℕ → List ℕ → Answer → Type 0
StringFits back bytes text (Ok taken) = (word more : List ℕ) × (text ≡ word ++ (34 ∷ taken.1)) × Behind back word more × (taken.0 ≡ Text (bytes ++ more))
StringFits back bytes text (Err Lexical) = Unit {0}
StringFits back bytes text (Err _) = ⊥

behind_slash : (b : ℕ) (bytes text : List ℕ) (answer : Answer) → b ≡ 92 → StringFits true bytes text answer → StringFits false bytes (b ∷ text) answer
behind_slash b bytes text (Ok taken) is fits = (92 ∷ fits.0, fits.1, slashed, fits.3, fits.4)
  where
    slashed : b ∷ text ≡ 92 ∷ (fits.0 ++ (34 ∷ taken.1))
    slashed = rw (is, fits.2) refl
behind_slash b bytes text (Err Lexical) is fits = tt
behind_slash b bytes text (Err _) is fits = fits

behind_plain : (b : ℕ) (bytes text : List ℕ) (answer : Answer) → is_plain b ≡ true → StringFits false (bytes ++ b ∷ []) text answer → StringFits false bytes (b ∷ text) answer
behind_plain b bytes text (Ok taken) is fits =
    (b ∷ fits.0, b ∷ fits.1, ap (λ t. b ∷ t) fits.2, plain b is fits.3, fits.4 ∙ ap Text (append_assoc bytes (b ∷ []) fits.1))
behind_plain b bytes text (Err Lexical) is fits = tt
behind_plain b bytes text (Err _) is fits = fits

behind_escape : (b : ℕ) (bytes text : List ℕ) (answer : Answer) → is_escape b ≡ true → StringFits false (bytes ++ escaped b ∷ []) text answer → StringFits true bytes (b ∷ text) answer
behind_escape b bytes text (Ok taken) is fits =
    (b ∷ fits.0, escaped b ∷ fits.1, ap (λ t. b ∷ t) fits.2, escape b is fits.3, fits.4 ∙ ap Text (append_assoc bytes (escaped b ∷ []) fits.1))
behind_escape b bytes text (Err Lexical) is fits = tt
behind_escape b bytes text (Err _) is fits = fits

pub string_fits : (text : List ℕ) (back : Bool) (bytes : List ℕ) → StringFits back bytes text (string_at back bytes text)
unfolding string_at
string_fits [] back bytes = tt
string_fits (b ∷ text) true bytes =
    let more : StringFits false (bytes ++ escaped b ∷ []) text (string_at false (bytes ++ escaped b ∷ []) text) = string_fits text false (bytes ++ escaped b ∷ []) in
    elim (cases_Bool (is_escape b)) [
      | inl is ↦ rw is (behind_escape b bytes text (string_at false (bytes ++ escaped b ∷ []) text) is more)
      | inr isnt ↦ rw isnt tt
    ]
string_fits (b ∷ text) false bytes =
    let slash : StringFits true bytes text (string_at true bytes text) = string_fits text true bytes in
    let more : StringFits false (bytes ++ b ∷ []) text (string_at false (bytes ++ b ∷ []) text) = string_fits text false (bytes ++ b ∷ []) in
    elim (cases_Bool (b == 34)) [
      | inl quote ↦ rw quote ([], [], ap (λ x. x ∷ text) (eqb-true b 34 quote), nothing, ap Text (sym (append-nil bytes)))
      | inr no_quote ↦ rw no_quote (elim (cases_Bool (b == 92)) [
        | inl back ↦ rw back (behind_slash b bytes text (string_at true bytes text) (eqb-true b 92 back) slash)
        | inr no_back ↦ rw no_back (elim (cases_Bool (is_plain b)) [
          | inl is ↦ rw is (behind_plain b bytes text (string_at false (bytes ++ b ∷ []) text) is more)
          | inr isnt ↦ rw isnt tt
        ])
      ])
    ]

plain_apart : (b : ℕ) → is_plain b ≡ true → ((b == 34) ≡ false) × ((b == 92) ≡ false)
unfolding is_plain
plain_apart b is = (grind (arith, nat_tests), grind (arith, nat_tests))

pub string_again : {word more : List ℕ} → Spells word more → (bytes rest : List ℕ) → string_at false bytes (word ++ (34 ∷ rest)) ≡ Ok (Text (bytes ++ more), rest)
unfolding string_at
string_again nothing bytes rest = rw append-nil refl
string_again (plain b {bytes = more} is spelled) bytes rest =
    let apart : ((b == 34) ≡ false) × ((b == 92) ≡ false) = plain_apart b is in
    rw (apart.0, apart.1, is) (string_again spelled (bytes ++ b ∷ []) rest ∙ ap (λ t. Ok (Text t, rest)) (append_assoc bytes (b ∷ []) more))
string_again (escape b {bytes = more} is spelled) bytes rest =
    rw is (string_again spelled (bytes ++ escaped b ∷ []) rest ∙ ap (λ t. Ok (Text t, rest)) (append_assoc bytes (escaped b ∷ []) more))
