-- Programs and whole texts are read exactly, and tokens are one program at most.
use Rattle.std.proofs.Common.{◌≡◌, ℕ, List, [], ◌∷◌, ◌++◌, length, refl, sym, ap, ◌∙◌, subst, Result, Ok, Err}
use Rattle.std.proofs.lemmas.List.{append-nil, append_cancel_right}
use Rattle.oss_syntax.specs.declared.token.Token.{Token}
use Rattle.oss_syntax.specs.declared.tree.program.Program.{Program}
use Rattle.oss_syntax.specs.declared.refusal.RefusedKind.TheVariants as kind
use Rattle.oss_grammar.specs.Parsing.{programs, RefusesText}
use Rattle.oss_grammar.specs.Parsing.RefusesText.{text_too_large, at_token_of_text, at_end_of_text}
use Rattle.oss_grammar.specs.Programs.{IsProgram}
use Rattle.oss_grammar.specs.Reading.{Stop}
use Rattle.oss_grammar.specs.Reading.Stop.{Syntax, Deep}
use Rattle.oss_grammar.specs.Refusals.{Reaches, IsWithin, kind_of, is_in_pragma}
use Rattle.oss_grammar.specs.StatementLimits.{IsProgramExcess}
use Rattle.oss_grammar.proofs.AnswerLemmas.{ok_answer, reaches_stop, within_stopped, within_deep, stop_none}
use Rattle.oss_grammar.proofs.Parts.{Exact, taken, stopped, sunk}
use Rattle.oss_expressions.proofs.ExactExpressions.{exact_expression, begun_expression}
use Rattle.oss_pragma.proofs.ExactPragmas.{exact_pragma, begun_pragma}
use Rattle.oss_parse.specs.ProgramReading.{read_program, read_text, whole_told, begins_program_item}
use Rattle.oss_parse.proofs.ExactPrograms.{exact_limited_program}
use Rattle.oss_parse.proofs.ExactStatements.{exact_items, items_end}

-- programs are read exactly
pub exact_program_text : Exact read_program IsProgram IsProgramExcess begins_program_item
unfolding read_program
exact_program_text = exact_limited_program (exact_items exact_expression begun_expression (exact_pragma exact_expression begun_expression) (begun_pragma exact_expression begun_expression) 64) items_end

exact_programs : Exact read_program programs.Has programs.Exceeds begins_program_item
unfolding programs
exact_programs = exact_program_text

-- what is told of a whole text
text_told : (ts : List Token) → read_text ts ≡ whole_told (read_program ts)
unfolding read_text
text_told ts = refl

pub record WholeText (ts : List Token) (found : Program) : Type 0 where
  pub is : programs.Has ts found
  pub within : IsWithin programs ts

pair_is : (r : Result (Program × List Token) Stop) (p q : Program × List Token) → r ≡ Ok p → r ≡ Ok q → p ≡ q
pair_is r p q e e' = cc

ok_first : (r : Result (Program × List Token) Stop) (q : Program × List Token) → whole_told r ≡ Ok q → (r ≡ Ok (q.0, [])) × (q.1 ≡ [])
ok_first (Ok (p, [])) q e =
    let one : Program × List Token = (p, []) in
    let same : one ≡ q = pair_is (whole_told (Ok (p, []))) one q refl e in (ap (λ (x : Program × List Token). Ok (x.0, [])) same, ap (λ (x : Program × List Token). x.1) (sym same))
ok_first (Ok (p, t ∷ left)) q e = absurd (cc)
ok_first (Err stop) q e = absurd (cc)

-- a whole text is a program
pub whole_text : (ts : List Token) (q : Program × List Token) → read_text ts ≡ Ok q → WholeText ts q.0
whole_text ts q e =
    let told = ok_first (read_program ts) q (sym (text_told ts) ∙ e) in
    let w = ok_answer programs exact_programs ts q.0 [] told.0 in
    let all : w.front ≡ ts = sym (w.reaches.split ∙ append-nil w.front) in
    record { is = subst (λ xs. programs.Has xs q.0) all w.member; within = subst (λ xs. IsWithin programs xs) all w.within }

-- where reading stops for syntax
data StopsAt (ts place : List Token) : Type 0 where
  left_over : (found : Program) (t : Token) (more : List Token) → place ≡ t ∷ more → read_program ts ≡ Ok (found, t ∷ more) → StopsAt ts place
  stopped_at : read_program ts ≡ Err (Syntax place) → StopsAt ts place

stop_is : (r : Stop) (place other : List Token) → r ≡ Syntax place → r ≡ Syntax other → place ≡ other
stop_is r place other e e' = cc

stop_first : (ts place : List Token) (r : Result (Program × List Token) Stop) → read_program ts ≡ r → whole_told r ≡ Err (Syntax place) → StopsAt ts place
stop_first ts place (Ok (p, [])) e told = absurd (cc)
stop_first ts place (Ok (p, t ∷ left)) e told = left_over p t left (place_is place (t ∷ left) told) e where
  place_is : (place other : List Token) → whole_told (Ok (p, t ∷ left)) ≡ Err (Syntax place) → place ≡ t ∷ left
  place_is place other e = cc
stop_first ts place (Err stop) e told = stopped_at (e ∙ told)

record SyntaxAt (ts front place : List Token) : Type 0 where
  reaches : Reaches programs.Has ts front place
  within : IsWithin programs front

syntax_at : (ts place front : List Token) → ts ≡ front ++ place → StopsAt ts place → SyntaxAt ts front place
syntax_at ts place front split (left_over found t more at e) =
    let w = ok_answer programs exact_programs ts found (t ∷ more) e in
    let same : w.front ≡ front = append_cancel_right w.front front place (ap (λ ys. w.front ++ ys) at ∙ (sym w.reaches.split ∙ split)) in
    record { reaches = subst (λ xs. Reaches programs.Has ts xs place) same (subst (λ ys. Reaches programs.Has ts w.front ys) (sym at) w.reaches); within = subst (λ xs. IsWithin programs xs) same w.within }
syntax_at ts place front split (stopped_at e) =
    let w = stopped exact_programs ts place e in
    let same : w.front ≡ front = append_cancel_right w.front front place (sym w.split ∙ split) in
    record {
      reaches = subst (λ xs. Reaches programs.Has ts xs place) same (reaches_stop programs exact_programs ts place w);
      within = subst (λ xs. IsWithin programs xs) same (within_stopped programs exact_programs ts w.front place place w.split e);
    }

-- a token is refused that fits nowhere
pub token_refused : (end : ℕ) (ts front : List Token) (t : Token) (more : List Token) → ts ≡ front ++ (t ∷ more) → read_text ts ≡ Err (Syntax (t ∷ more)) → RefusesText programs end ts (kind_of (is_in_pragma front t.what) t.what) t.line (length front)
token_refused end ts front t more split e =
    let w = syntax_at ts (t ∷ more) front split (stop_first ts (t ∷ more) (read_program ts) refl (sym (text_told ts) ∙ e)) in at_token_of_text front t more w.reaches w.within

-- the end of the tokens is
pub end_refused : (end : ℕ) (ts : List Token) → read_text ts ≡ Err (Syntax []) → RefusesText programs end ts kind.Syntax end (length ts)
end_refused end ts e = on (stop_first ts [] (read_program ts) refl (sym (text_told ts) ∙ e)) where
  on : StopsAt ts [] → RefusesText programs end ts kind.Syntax end (length ts)
  on (left_over found t more at told) = absurd (cc)
  on (stopped_at told) = let w = syntax_at ts [] ts (sym (append-nil ts)) (stopped_at told) in at_end_of_text w.reaches (stop_none programs exact_programs ts told) w.within

-- a limit is passed
deep_first : (ts place : List Token) (r : Result (Program × List Token) Stop) → read_program ts ≡ r → whole_told r ≡ Err (Deep place) → read_program ts ≡ Err (Deep place)
deep_first ts place (Ok (p, [])) e told = absurd (cc)
deep_first ts place (Ok (p, t ∷ left)) e told = absurd (cc)
deep_first ts place (Err stop) e told = e ∙ told

pub deep_refused : (end : ℕ) (ts : List Token) (t : Token) (more : List Token) → read_text ts ≡ Err (Deep (t ∷ more)) → RefusesText programs end ts kind.TooLarge t.line 0
deep_refused end ts t more e =
    let told = deep_first ts (t ∷ more) (read_program ts) refl (sym (text_told ts) ∙ e) in
    let w = sunk exact_programs ts (t ∷ more) told in
    let same : w.token ≡ t = cc in
    let deep : programs.Exceeds w.front t = subst (λ u. programs.Exceeds w.front u) same w.deep in
    text_too_large w.front t more w.split (record { begun = exact_programs.begun w.front t deep; exceeds = deep }) (within_deep programs exact_programs ts w.front (t ∷ more) w.split told)

pub no_deep_end : (ts : List Token) → read_text ts ≡ Err (Deep []) → ⊥
no_deep_end ts e = let w = sunk exact_programs ts [] (deep_first ts [] (read_program ts) refl (sym (text_told ts) ∙ e)) in no_token w.token w.behind w.at where
  no_token : (t : Token) (xs : List Token) → [] ≡ t ∷ xs → ⊥
  no_token t xs e = absurd (cc)

-- the tokens before those at which reading stops
pub record StopFront (ts place : List Token) : Type 0 where
  pub front : List Token
  pub split : ts ≡ front ++ place

pub stop_front : (ts place : List Token) → read_text ts ≡ Err (Syntax place) → StopFront ts place
stop_front ts place e = on (stop_first ts place (read_program ts) refl (sym (text_told ts) ∙ e)) where
  on : StopsAt ts place → StopFront ts place
  on (left_over found t more at told) = let w = taken exact_programs ts found (t ∷ more) told in record { front = w.front; split = w.split ∙ ap (λ ys. w.front ++ ys) (sym at) }
  on (stopped_at told) = let w = stopped exact_programs ts place told in record { front = w.front; split = w.split }
