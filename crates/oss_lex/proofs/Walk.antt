-- The walk over a text: what is found so far, and what is left of it.
use Rattle.std.proofs.Common.{◌≡◌, ◌≢◌, ℕ, ◌+◌, ◌≤◌, ◌<◌, true, false, List, [], ◌∷◌, ◌++◌, length, refl, ap, ◌∙◌, arith, suc, append_assoc, append-nil, length-append, add-zero}
use Rattle.std.proofs.lemmas.Bool.{eqb-true, eqb-false}
use Rattle.std.proofs.lemmas.List.Sums.{count_by-le-length}
use Rattle.std.specs.Prelude.{◌==◌, Option, Some, None, Result, Ok, Err, codes}
use Rattle.oss_syntax.specs.declared.token.TokenKind.{TokenKind}
use Rattle.oss_syntax.specs.declared.token.Token.{Token}
use Rattle.oss_grammar.specs.declared.line_part.LinePart.{LinePart}
use Rattle.oss_grammar.specs.declared.line_part.LinePart.TheVariants.{Beginning}
use Rattle.oss_syntax.specs.declared.refusal.RefusedKind.{RefusedKind}
use Rattle.oss_syntax.specs.declared.refusal.Refused.{Refused as RefusedAt}
use Rattle.oss_syntax.specs.declared.refusal.Refusal.{Refusal}
use Rattle.oss_syntax.specs.declared.refusal.Refusal.TheVariants.{Refused, Memory}
use Rattle.oss_grammar.specs.Tokens.{newlines, Front, IsFront, Tokens, Stops, IsReading, found_before}
use Rattle.oss_grammar.specs.Tokens.IsFront.{newline, pragma_end, gap, token, include, pragma_oss, other_pragma, directive}
use Rattle.oss_grammar.specs.Tokens.Tokens.{done, step}
use Rattle.oss_grammar.specs.Tokens.Stops.{here, past}
use Rattle.oss_lex.specs.Reading.{Fault, at_front, in_head, front, front_at, RefusesAs, StepsAs}
use Rattle.oss_lex.proofs.Fronts.{front_fits, faulty}
use Rattle.oss_lex.proofs.Gaps.{gap_first}
use Rattle.oss_lex.proofs.TokenWords.{word_some}

-- The tokens found so far are those of the text up to the rest, which begins at this place of this line.
pub record IsLeft (text : List ℕ) (found : List Token) (part : LinePart) (line : ℕ) (rest : List ℕ) : Type 0 where
  pub goes_on : (tokens : List Token) → Tokens part line rest tokens → Tokens Beginning 1 text (found ++ tokens)
  pub stops : (kind : RefusedKind) (at : ℕ) → Stops part line rest kind at → Stops Beginning 1 text kind at
  pub room : line + length rest ≤ 1 + length text

pub left_start : (text : List ℕ) → IsLeft text [] Beginning 1 text
left_start text = record { goes_on = λ tokens is. is; stops = λ kind at is. is; room = omega arith }

-- The lines of a front are among its bytes, of which there is at least one.
front_room : (part : LinePart) (text : List ℕ) (told : Front) → IsFront part text told → (told.lines + length told.rest ≤ length text) × (length told.rest < length text)
front_room part text told (newline rest other e) = let size : length text ≡ suc (length rest) = ap length e in (omega arith, omega arith)
front_room part text told (pragma_end rest e) = let size : length text ≡ suc (length rest) = ap length e in (omega arith, omega arith)
front_room part text told (gap word rest split is) =
    let (b, more, whole, no_newline, no_hash) = gap_first word rest is in
    let some : length word ≡ suc (length more) = ap length whole in
    let few : newlines word ≤ length word = count_by-le-length (λ b. b == 10) word in
    let size : length text ≡ length word + length rest = ap length split ∙ length-append word rest in
    (omega (arith, few, size), omega (arith, some, size))
front_room part text told (token what rest begins) =
    let some : 0 < length begins.word = word_some what begins.word begins.is_word in
    let size : length text ≡ length begins.word + length rest = ap length begins.split ∙ length-append begins.word rest in
    (omega (arith, size), omega (arith, some, size))
front_room part text told (include line rest has is) =
    let size : length text ≡ length (codes "#include" ++ (line ++ rest)) = ap length has.split in
    let behind : length (line ++ rest) ≡ length line + length rest = length-append line rest in
    (omega (arith, size, behind), omega (arith, size, behind))
front_room part text told (pragma_oss gaps next rest has are oss) =
    let size : length text ≡ length (codes "#pragma" ++ (gaps ++ next)) = ap length has.split in
    let few : newlines gaps ≤ length gaps = count_by-le-length (λ b. b == 10) gaps in
    let behind : length (gaps ++ next) ≡ length gaps + length next = length-append gaps next in
    let word : length next ≡ length (codes "oss" ++ rest) = ap length oss.split in
    (omega (arith, size, few, behind, word), omega (arith, size, behind, word))
front_room part text told (other_pragma gaps line rest has are no_comment none is) =
    let size : length text ≡ length (codes "#pragma" ++ (gaps ++ (line ++ rest))) = ap length has.split in
    let few : newlines gaps ≤ length gaps = count_by-le-length (λ b. b == 10) gaps in
    let behind : length (gaps ++ (line ++ rest)) ≡ length gaps + length (line ++ rest) = length-append gaps (line ++ rest) in
    let word : length (line ++ rest) ≡ length line + length rest = length-append line rest in
    (omega (arith, size, few, behind, word), omega (arith, size, behind, word))
front_room part text told (directive line rest split no_include no_pragma is) =
    let size : length text ≡ suc (length (line ++ rest)) = ap length split in
    let behind : length (line ++ rest) ≡ length line + length rest = length-append line rest in
    (omega (arith, size, behind), omega (arith, size, behind))

is_front : (part : LinePart) (text : List ℕ) (told : Front) → front_at part text ≡ Ok told → IsFront part text told
is_front part text told read = rw read at (front_fits part text)

pub step_room : (part : LinePart) (text : List ℕ) (what : Option TokenKind) (next : LinePart) (lines : ℕ) (rest : List ℕ) → front_at part text ≡ Ok (front what next lines rest) → lines + length rest ≤ length text
step_room part text what next lines rest read = (front_room part text (front what next lines rest) (is_front part text (front what next lines rest) read)).0

pub step_shorter : (part : LinePart) (text : List ℕ) (what : Option TokenKind) (next : LinePart) (lines : ℕ) (rest : List ℕ) → front_at part text ≡ Ok (front what next lines rest) → length rest < length text
step_shorter part text what next lines rest read = (front_room part text (front what next lines rest) (is_front part text (front what next lines rest) read)).1

found_then : (what : Option TokenKind) (line : ℕ) (found tokens : List Token) → (found ++ found_before what line []) ++ tokens ≡ found ++ found_before what line tokens
found_then None line found tokens = ap (λ f. f ++ tokens) (append-nil found)
found_then (Some what) line found tokens = append_assoc found (record { what = what; line = line } ∷ []) tokens

-- A front is passed.
pub left_step : (text : List ℕ) (found : List Token) (part : LinePart) (line : ℕ) (rest : List ℕ) (what : Option TokenKind) (next : LinePart) (lines : ℕ) (after : List ℕ) → IsLeft text found part line rest → front_at part rest ≡ Ok (front what next lines after) → IsLeft text (found ++ found_before what line []) next (line + lines) after
left_step text found part line rest what next lines after left read =
    let told : Front = front what next lines after in
    let is : IsFront part rest told = is_front part rest told read in
    record {
      goes_on = λ tokens more. (rw found_then (left.goes_on (found_before what line tokens) (step told tokens is more refl)));
      stops = λ kind at more. left.stops kind at (past told is more);
      room = omega (arith, left.room, step_room part rest what next lines after read);
    }

empty_from_length : (list : List ℕ) → (length list == 0) ≡ true → list ≡ []
empty_from_length [] is = refl
empty_from_length (b ∷ list) is = let none : suc (length list) ≡ 0 = eqb-true (suc (length list)) 0 is in absurd (omega arith)

some_from_length : (list : List ℕ) → (length list == 0) ≡ false → list ≢ []
some_from_length list isnt e = eqb-false (length list) 0 isnt (ap length e)

-- The text is at its end.
pub left_end : (text : List ℕ) (found : List Token) (part : LinePart) (line : ℕ) (rest : List ℕ) → IsLeft text found part line rest → (length rest == 0) ≡ true → Tokens Beginning 1 text found
left_end text found part line rest left over = rw append-nil at (left.goes_on [] (done (empty_from_length rest over)))

-- what a refusal says of the text at which it is answered
refused_at : (part : LinePart) (text : List ℕ) (line : ℕ) (refused : RefusedAt) (answer : Result Front Fault) → text ≢ [] → front_at part text ≡ answer → RefusesAs answer line refused → Stops part line text refused.kind refused.line × (refused.token ≡ 0)
refused_at part text line refused (Ok told) more read refuses = absurd refuses
refused_at part text line refused (Err (at_front kind)) more read refuses =
    let is : Stops part line text kind (line + 0) = here 0 (faulty part text (at_front kind) more read) in
    (rw (refuses.0, refuses.1) (rw add-zero at is), refuses.2)
refused_at part text line refused (Err (in_head lines)) more read refuses =
    (rw (refuses.0, refuses.1) (here lines (faulty part text (in_head lines) more read)), refuses.2)

-- The text is refused here.
pub left_fault : (text : List ℕ) (found : List Token) (part : LinePart) (line : ℕ) (rest : List ℕ) (refusal : Refusal) → IsLeft text found part line rest → (length rest == 0) ≡ false → StepsAs (front_at part rest) line (Err refusal) → IsReading text (Err refusal)
left_fault text found part line rest (Refused refused) left more gives =
    let refused_there = refused_at part rest line refused (front_at part rest) (some_from_length rest more) refl gives in
    (left.stops refused.kind refused.line refused_there.0, refused_there.1)
left_fault text found part line rest (Memory error) left more gives = tt
