-- The words of a pragma, and its first and last tokens.
use Rattle.std.proofs.Common.{◌≡◌, ℕ, Bool, true, false, not, if◌then◌else◌, List, refl, sym, ap, subst, Some, None, is_some}
use Rattle.oss_syntax.specs.declared.token.Token.{Token}
use Rattle.oss_syntax.specs.declared.token.TokenKind.{TokenKind}
use Rattle.oss_syntax.specs.declared.token.TokenKind.TheVariants as kinds
use Rattle.oss_grammar.specs.OneToken.{is_word, IsWord}
use Rattle.oss_grammar.specs.Reading.{has}
use Rattle.oss_expressions.specs.TokenValues.{word_at, start_in, start_at, end_in, end_at}

-- a word tells its line
line_of : (b : Bool) (line n : ℕ) → (if b then Some line else None) ≡ Some n → b ≡ true
line_of true line n e = refl
line_of false line n e = absurd (cc)

pub word_told : (w : List ℕ) (t : Token) (n : ℕ) → word_at w t ≡ Some n → IsWord w t
word_told w t n e = line_of (is_word w t.what) t.line n e

pub tells_word : (w : List ℕ) (t : Token) → IsWord w t → word_at w t ≡ Some t.line
tells_word w t e = rw e refl

pub start_what : (k : TokenKind) (line n : ℕ) → start_in k line ≡ Some n → k ≡ kinds.PragmaOss
start_what kinds.PragmaOss line n e = refl
start_what kinds.PragmaEnd line n e = absurd (cc)
start_what kinds.Directive line n e = absurd (cc)
start_what (kinds.Name w) line n e = absurd (cc)
start_what (kinds.Symbol w) line n e = absurd (cc)
start_what (kinds.Keyword w) line n e = absurd (cc)
start_what (kinds.Number v u) line n e = absurd (cc)
start_what (kinds.Text w) line n e = absurd (cc)

pub start_line : (k : TokenKind) (line n : ℕ) → start_in k line ≡ Some n → line ≡ n
start_line kinds.PragmaOss line n e = cc
start_line kinds.PragmaEnd line n e = absurd (cc)
start_line kinds.Directive line n e = absurd (cc)
start_line (kinds.Name w) line n e = absurd (cc)
start_line (kinds.Symbol w) line n e = absurd (cc)
start_line (kinds.Keyword w) line n e = absurd (cc)
start_line (kinds.Number v u) line n e = absurd (cc)
start_line (kinds.Text w) line n e = absurd (cc)

pub tells_start : (t : Token) → t.what ≡ kinds.PragmaOss → start_at t ≡ Some t.line
tells_start t e = ap (λ k. start_in k t.line) e

end_what : (k : TokenKind) (line : ℕ) → is_some (end_in k line) ≡ true → k ≡ kinds.PragmaEnd
end_what kinds.PragmaEnd line e = refl
end_what kinds.PragmaOss line e = absurd (cc)
end_what kinds.Directive line e = absurd (cc)
end_what (kinds.Name w) line e = absurd (cc)
end_what (kinds.Symbol w) line e = absurd (cc)
end_what (kinds.Keyword w) line e = absurd (cc)
end_what (kinds.Number v u) line e = absurd (cc)
end_what (kinds.Text w) line e = absurd (cc)

pub end_told : (t : Token) (n : ℕ) → end_at t ≡ Some n → t.what ≡ kinds.PragmaEnd
end_told t n e = end_what t.what t.line (ap is_some e)

pub tells_end : (t : Token) → t.what ≡ kinds.PragmaEnd → end_at t ≡ Some t.line
tells_end t e = ap (λ k. end_in k t.line) e

-- each token but the end of a pragma
abbrev pub not_end : Token → Bool
not_end t = not (has end_at t)

pub ends : (t : Token) → has end_at t ≡ true → not_end t ≡ false
ends t e = ap not e

not_false : (b : Bool) → not b ≡ false → b ≡ true
not_false true e = refl
not_false false e = absurd (cc)

-- a test is computed on the end of a pragma
pub on_end : (test : Token → Bool) → ((line : ℕ) → test (record { what = kinds.PragmaEnd; line = line }) ≡ false) → (t : Token) → not_end t ≡ false → test t ≡ false
on_end test told t e = subst (λ k. test (record { what = k; line = t.line }) ≡ false) (sym (end_what t.what t.line (not_false (has end_at t) e))) (told t.line)
