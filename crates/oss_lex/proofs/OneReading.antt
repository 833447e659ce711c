-- A text has one reading.
use Rattle.std.proofs.Common.{◌≡◌, ◌≢◌, ℕ, ◌+◌, List, [], ◌∷◌, ◌++◌, refl, ap, sym, ◌∙◌, subst}
use Rattle.std.specs.Prelude.{Ok, Err, codes}
use Rattle.oss_syntax.specs.declared.token.Token.{Token}
use Rattle.oss_grammar.specs.declared.line_part.LinePart.{LinePart}
use Rattle.oss_syntax.specs.declared.refusal.RefusedKind.{RefusedKind}
use Rattle.oss_syntax.specs.declared.refusal.RefusedKind.TheVariants.{Lexical}
use Rattle.oss_grammar.specs.Tokens.{Front, IsFront, IsFaulty, Tokens, Stops, found_before, IsReadOnce}
use Rattle.oss_grammar.specs.Tokens.IsFaulty.{bad, long, unclosed}
use Rattle.oss_grammar.specs.Tokens.Tokens.{done, step}
use Rattle.oss_grammar.specs.Tokens.Stops.{here, past}
use Rattle.oss_grammar.specs.Words.{IsIdentifier}
use Rattle.oss_lex.specs.Reading.{at_front, front_at}
use Rattle.oss_lex.proofs.Fronts.{fault_kind, fault_lines, front_again, faulty_again}

-- a text has one front, and none where it is empty or refused
one_front : (part : LinePart) (text : List ℕ) (front other : Front) → IsFront part text front → IsFront part text other → front ≡ other
one_front part text front other is also =
    let read = sym (front_again part text front is) ∙ front_again part text other also in cc

no_front : (part : LinePart) (front : Front) → IsFront part [] front → ⊥
unfolding front_at
no_front part front is = let read : Err (at_front Lexical) ≡ Ok front = front_again part [] front is in cc

no_identifier : (word rest : List ℕ) → IsIdentifier word → [] ≡ word ++ rest → ⊥
no_identifier [] rest is e = is
no_identifier (b ∷ word) rest is e = cc

no_fault : (part : LinePart) (text : List ℕ) (kind : RefusedKind) (lines : ℕ) → IsFaulty part text kind lines → text ≢ []
no_fault part text kind lines (bad more no_front_there not_long closed) over = more over
no_fault part text kind lines (long is) over = no_identifier is.word is.rest is.is_word (sym over ∙ is.split)
no_fault part text kind lines (unclosed gaps is) over = let none : [] ≡ 35 ∷ (codes "pragma" ++ (gaps ++ is.next)) = sym over ∙ is.has_word.split in cc

one_list : {part : LinePart} {line : ℕ} {text : List ℕ} {tokens : List Token} → Tokens part line text tokens → (others : List Token) → Tokens part line text others → tokens ≡ others
one_list (done over) others (done also) = refl
one_list {part = part} (done over) others (step front more is_front rest found) = absurd (no_front part front (rw over at is_front))
one_list {part = part} (step front more is_front rest found) others (done over) = absurd (no_front part front (rw over at is_front))
one_list {part = part} {line = line} {text = text} (step front more is_front rest found) others (step other other_more is_other other_rest other_found) =
    let same : front ≡ other = one_front part text front other is_front is_other in
    let rest_there : Tokens front.part (line + front.lines) front.rest other_more = subst (λ f. Tokens f.part (line + f.lines) f.rest other_more) (sym same) other_rest in
    let same_more : more ≡ other_more = one_list rest other_more rest_there in
    found ∙ ap (λ f. found_before f.what line more) same ∙ ap (λ t. found_before other.what line t) same_more ∙ sym other_found

front_no_fault : (part : LinePart) (text : List ℕ) (front : Front) (kind : RefusedKind) (lines : ℕ) → IsFront part text front → IsFaulty part text kind lines → ⊥
front_no_fault part text front kind lines is faulty =
    let fault = faulty_again part text kind lines faulty in
    let read : Ok front ≡ Err fault.0 = sym (front_again part text front is) ∙ fault.1 in cc

one_fault : (part : LinePart) (text : List ℕ) (kind other_kind : RefusedKind) (lines other_lines : ℕ) → IsFaulty part text kind lines → IsFaulty part text other_kind other_lines → (kind ≡ other_kind) × (lines ≡ other_lines)
one_fault part text kind other_kind lines other_lines is also =
    let fault = faulty_again part text kind lines is in
    let other = faulty_again part text other_kind other_lines also in
    let read : Err fault.0 ≡ Err other.0 = sym fault.1 ∙ other.1 in
    let same : fault.0 ≡ other.0 = cc in
    (fault.2 ∙ ap fault_kind same ∙ sym other.2, fault.3 ∙ ap fault_lines same ∙ sym other.3)

no_both : {part : LinePart} {line at : ℕ} {text : List ℕ} {tokens : List Token} {kind : RefusedKind} → Tokens part line text tokens → Stops part line text kind at → ⊥
no_both {part = part} {text = text} {kind = kind} (done over) (here lines is) = no_fault part text kind lines is over
no_both {part = part} (done over) (past front is_front rest) = no_front part front (rw over at is_front)
no_both {part = part} {text = text} {kind = kind} (step front more is_front rest found) (here lines is) = front_no_fault part text front kind lines is_front is
no_both {part = part} {line = line} {at = at} {text = text} {kind = kind} (step front more is_front rest found) (past other is_other other_rest) =
    let same : front ≡ other = one_front part text front other is_front is_other in
    no_both rest (subst (λ f. Stops f.part (line + f.lines) f.rest kind at) (sym same) other_rest)

one_refusal : {part : LinePart} {line at other_at : ℕ} {text : List ℕ} {kind other_kind : RefusedKind} → Stops part line text kind at → Stops part line text other_kind other_at → (kind ≡ other_kind) × (at ≡ other_at)
one_refusal {part = part} {line = line} {text = text} {kind = kind} {other_kind = other_kind} (here lines is) (here other_lines also) =
    let same = one_fault part text kind other_kind lines other_lines is also in (same.0, ap (λ n. line + n) same.1)
one_refusal {part = part} {text = text} {kind = kind} (here lines is) (past front is_front rest) = absurd (front_no_fault part text front kind lines is_front is)
one_refusal {part = part} {text = text} {other_kind = other_kind} (past front is_front rest) (here lines is) = absurd (front_no_fault part text front other_kind lines is_front is)
one_refusal {part = part} {line = line} {other_at = other_at} {text = text} {other_kind = other_kind} (past front is_front rest) (past other is_other other_rest) =
    let same : front ≡ other = one_front part text front other is_front is_other in
    one_refusal rest (subst (λ f. Stops f.part (line + f.lines) f.rest other_kind other_at) (sym same) other_rest)

pub read_once : (text : List ℕ) → IsReadOnce text
read_once text = record {
  one_list = λ tokens others is also. one_list is others also;
  no_both = λ tokens kind at is also. no_both is also;
  one_refusal = λ kind other at other_at is also. one_refusal is also;
}
