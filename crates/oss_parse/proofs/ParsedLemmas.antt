-- What is told of a text is its parse.
use Rattle.std.proofs.Common.{arith, ◌≡◌, ◌+◌, ℕ, inl, inr, List, [], ◌∷◌, length, refl, sym, ap, ◌∙◌, subst, Result, Ok, Err}
use Rattle.std.specs.Prelude.{take}
use Rattle.std.proofs.lemmas.List.{length-append}
use Rattle.std.proofs.Math.Seq.{take-append_seam}
use Rattle.oss_syntax.specs.declared.token.Token.{Token}
use Rattle.oss_syntax.specs.declared.tree.program.Program.{Program}
use Rattle.oss_syntax.specs.declared.refusal.Refusal.{Refusal}
use Rattle.oss_syntax.specs.declared.refusal.Refusal.TheVariants.{Refused, Memory}
use Rattle.oss_syntax.specs.declared.refusal.Refused.{Refused as RefusedData}
use Rattle.oss_syntax.specs.declared.refusal.RefusedKind.TheVariants as kind
use Rattle.oss_grammar.specs.Parsing.{programs, end_line, RefusesText, IsProgramText, IsTextRefusal, IsParse}
use Rattle.oss_grammar.specs.Parsing.IsTextRefusal.{by_tokens, by_grammar}
use Rattle.oss_grammar.specs.Programs.{IsProgram}
use Rattle.oss_grammar.specs.Reading.{Stop}
use Rattle.oss_grammar.specs.Reading.Stop.{Syntax, Deep}
use Rattle.oss_grammar.specs.Refusals.{kind_of, is_in_pragma}
use Rattle.oss_expressions.specs.ToldAt.{count_before, tokens_before}
use Rattle.oss_parse.specs.Parsed.{IsParsed, TokensTell, told_of, refused_at}
use Rattle.oss_parse.specs.ProgramReading.{read_text}
use Rattle.oss_parse.proofs.ExactTexts.{WholeText, whole_text, token_refused, end_refused, deep_refused, no_deep_end, stop_front}

ok_is : (r : Result Program RefusedData) (p q : Program) → r ≡ Ok p → r ≡ Ok q → p ≡ q
ok_is r p q e e' = cc

refused_is : (r : Result Program RefusedData) (p q : RefusedData) → r ≡ Err p → r ≡ Err q → p ≡ q
refused_is r p q e e' = cc

is_program : (ts : List Token) (found : Program) → WholeText ts found → IsProgram ts found
unfolding programs
is_program ts found w = w.is

-- the refusal of the tokens that is told
stop_refused : (text : List ℕ) (ts : List Token) (stop : Stop) → read_text ts ≡ Err stop
    → RefusesText programs (end_line text) ts (refused_at text ts stop).kind (refused_at text ts stop).line (refused_at text ts stop).token
stop_refused text ts (Syntax []) e =
    let number : length ts ≡ count_before ts [] = omega arith in
    subst (λ n. RefusesText programs (end_line text) ts kind.Syntax (end_line text) n) number (end_refused (end_line text) ts e)
stop_refused text ts (Syntax (t ∷ more)) e =
    let w = stop_front ts (t ∷ more) e in
    let size : length ts ≡ length w.front + length (t ∷ more) = ap length w.split ∙ length-append w.front (t ∷ more) in
    let number : length w.front ≡ count_before ts (t ∷ more) = omega arith in
    let before : w.front ≡ tokens_before ts (t ∷ more) = sym (take-append_seam w.front (t ∷ more)) ∙ (ap (take (length w.front)) (sym w.split) ∙ ap (λ n. take n ts) number) in
    subst (λ n. RefusesText programs (end_line text) ts (kind_of (is_in_pragma (tokens_before ts (t ∷ more)) t.what) t.what) t.line n) number
    (subst (λ xs. RefusesText programs (end_line text) ts (kind_of (is_in_pragma xs t.what) t.what) t.line (length w.front)) before (token_refused (end_line text) ts w.front t more w.split e))
stop_refused text ts (Deep []) e = absurd (no_deep_end ts e)
stop_refused text ts (Deep (t ∷ more)) e = deep_refused (end_line text) ts t more e

-- a text that is read
told_program : (text : List ℕ) (found : Program) → TokensTell text (Ok found) → IsProgramText text found
told_program text found w = on (read_text w.tokens) refl w.is_told where
  on : (r : Result (Program × List Token) Stop) → read_text w.tokens ≡ r → told_of text w.tokens r ≡ Ok found → IsProgramText text found
  on (Ok p) e told =
      let same : p.0 ≡ found = ok_is (told_of text w.tokens (Ok p)) p.0 found refl told in
      let whole = whole_text w.tokens p e in
      record { tokens = w.tokens; are_tokens = w.are_tokens; is_program = subst (λ q. IsProgram w.tokens q) same (is_program w.tokens p.0 whole); within = whole.within }
  on (Err stop) e told = absurd (cc)

told_refusal : (text : List ℕ) (refused : RefusedData) → TokensTell text (Err refused) → IsTextRefusal text refused
told_refusal text refused w = on (read_text w.tokens) refl w.is_told where
  on : (r : Result (Program × List Token) Stop) → read_text w.tokens ≡ r → told_of text w.tokens r ≡ Err refused → IsTextRefusal text refused
  on (Ok p) e told = absurd (cc)
  on (Err stop) e told =
      let same : refused_at text w.tokens stop ≡ refused = refused_is (told_of text w.tokens (Err stop)) (refused_at text w.tokens stop) refused refl told in
      by_grammar w.tokens w.are_tokens (subst (λ (x : RefusedData). RefusesText programs (end_line text) w.tokens x.kind x.line x.token) same (stop_refused text w.tokens stop e))

-- what is told of a text is its parse
pub parsed : (text : List ℕ) (r : Result Program Refusal) → IsParsed text r → IsParse text r
parsed text (Ok found) w = told_program text found w
parsed text (Err (Refused refused)) (inl w) = by_tokens w.0 w.1
parsed text (Err (Refused refused)) (inr w) = told_refusal text refused w
parsed text (Err (Memory error)) w = w
