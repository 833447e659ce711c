-- What is answered for the front of a text.
use Rattle.std.proofs.Common.{◌≡◌, ◌≢◌, ℕ, true, false, ◌&&◌, List, [], ◌∷◌, ◌++◌, length, take, drop, refl, ap, sym, ◌∙◌, subst, inl, inr, arith, zero, suc}
use Rattle.std.proofs.lemmas.List.{take-append-drop}
use Rattle.std.proofs.lemmas.Bool.{cases_Bool, cases_eq, eqb-true, and_parts, ne_eqb}
use Rattle.std.specs.Prelude.{◌==◌, Result, Ok, Err, Some, None, codes}
use Rattle.oss_syntax.specs.declared.token.TokenKind.{TokenKind}
use Rattle.oss_grammar.specs.declared.line_part.LinePart.{LinePart}
use Rattle.oss_grammar.specs.declared.line_part.LinePart.TheVariants.{Beginning, Later, Pragma}
use Rattle.oss_syntax.specs.declared.refusal.RefusedKind.{RefusedKind}
use Rattle.oss_syntax.specs.declared.refusal.RefusedKind.TheVariants.{Lexical, TooLarge}
use Rattle.oss_grammar.specs.Tokens.{newlines, IsGap, IsUnclosed, Begins, Front, IsFront, IsLong, IsFaulty, part_behind}
use Rattle.oss_grammar.specs.Tokens.IsFront.{newline, pragma_end, gap, token, include, pragma_oss, other_pragma, directive}
use Rattle.oss_grammar.specs.Tokens.IsFaulty.{bad, long, unclosed}
use Rattle.oss_lex.specs.Reading.{Answer, Fault, at_front, in_head, token_at, gap_len, front, newline_at, is_beginning, token_told, front_behind, front_at, hash_at}
use Rattle.oss_lex.proofs.Answers.{Fits}
use Rattle.oss_lex.proofs.Gaps.{gap_taken, gap_again, gap_first, gap_no_token, no_token}
use Rattle.oss_lex.proofs.HashLines.{HashFits, hash_fits, unclosed_again, include_again, pragma_oss_again, other_pragma_again, directive_again}
use Rattle.oss_lex.proofs.Runs.{take_word, drop_word}
use Rattle.oss_lex.proofs.TokenWords.{token_fits, token_again, long_name}

-- Each front is answered.
newline_other : (part : LinePart) (rest : List ℕ) → part ≢ Pragma → newline_at part rest ≡ front None Beginning 1 rest
unfolding newline_at
newline_other Beginning rest other = refl
newline_other Later rest other = refl
newline_other Pragma rest other = absurd (other refl)

-- a text that begins with no newline and no `#`
plain_front : (part : LinePart) (b : ℕ) (more : List ℕ) → (b == 10) ≡ false → (b == 35) ≡ false → front_at part (b ∷ more) ≡ front_behind part (gap_len (b ∷ more)) (b ∷ more)
unfolding front_at
plain_front part b more no_newline no_hash = rw (no_newline, no_hash) refl

gap_behind : (part : LinePart) (word rest : List ℕ) (n : ℕ) → IsGap word rest → length word ≡ suc n → front_behind part (gap_len (word ++ rest)) (word ++ rest) ≡ Ok (front None part (newlines word) rest)
unfolding front_behind
gap_behind part word rest n is size =
    let len : gap_len (word ++ rest) ≡ suc n = gap_again word rest is ∙ size in
    let taken : take (suc n) (word ++ rest) ≡ word = ap (λ k. take k (word ++ rest)) (sym size) ∙ take_word word rest in
    let left : drop (suc n) (word ++ rest) ≡ rest = ap (λ k. drop k (word ++ rest)) (sym size) ∙ drop_word word rest in
    rw (len, taken, left) refl

gap_front : (part : LinePart) (text word rest : List ℕ) → text ≡ word ++ rest → IsGap word rest → front_at part text ≡ Ok (front None part (newlines word) rest)
gap_front part text word rest split is =
    let (b, more, whole, no_newline, no_hash) = gap_first word rest is in
    let here : front_at part (word ++ rest) ≡ front_behind part (gap_len (word ++ rest)) (word ++ rest) = subst (λ w. front_at part (w ++ rest) ≡ front_behind part (gap_len (w ++ rest)) (w ++ rest)) (sym whole) (plain_front part b (more ++ rest) no_newline no_hash) in
    ap (front_at part) split ∙ here ∙ gap_behind part word rest (length more) is (ap length whole)

empty_answer : token_at [] ≡ Err Lexical
unfolding token_at
empty_answer = refl

-- an answer that is no `Lexical` stands behind no blank, newline or `#`
answer_front : (part : LinePart) (text : List ℕ) (answer : Answer) → token_at text ≡ answer → (answer ≡ Err Lexical → ⊥) → front_at part text ≡ token_told part answer
unfolding front_behind
answer_front part [] answer read other = absurd (other (sym read ∙ empty_answer))
answer_front part (b ∷ more) answer read other =
    let no_gap_there : gap_len (b ∷ more) ≡ 0 = elim (cases_eq (gap_len (b ∷ more)) 0) [ inl none ↦ none | inr some ↦ absurd (other (sym read ∙ gap_no_token (b ∷ more) some)) ] in
    let no_newline : (b == 10) ≡ false = ne_eqb b 10 (λ e. other (sym read ∙ no_token b more (inr (inr (inl e))))) in
    let no_hash : (b == 35) ≡ false = ne_eqb b 35 (λ e. other (sym read ∙ no_token b more (inr (inr (inr e))))) in
    plain_front part b more no_newline no_hash ∙ rw (no_gap_there, read) refl

token_front : (part : LinePart) (text : List ℕ) (what : TokenKind) (rest : List ℕ) → Begins text what rest → front_at part text ≡ Ok (front (Some what) (part_behind part) 0 rest)
unfolding token_told
token_front part text what rest begins = answer_front part text (Ok (what, rest)) (token_again text what rest begins) (λ e. cc)

pub long_front : (part : LinePart) (text : List ℕ) → IsLong text → front_at part text ≡ Err (at_front TooLarge)
unfolding token_told
long_front part text is = answer_front part text (Err TooLarge) (long_name text is) (λ e. cc)

hash_front : (text rest : List ℕ) → text ≡ 35 ∷ rest → front_at Beginning text ≡ hash_at rest
unfolding front_at
hash_front text rest e = rw e refl

pub front_again : (part : LinePart) (text : List ℕ) (told : Front) → IsFront part text told → front_at part text ≡ Ok told
unfolding front_at newline_at
front_again part text told (newline rest other e) = rw e (ap (λ f. Ok f) (newline_other part rest other))
front_again part text told (pragma_end rest e) = rw e refl
front_again part text told (gap word rest split is) = gap_front part text word rest split is
front_again part text told (token what rest begins) = token_front part text what rest begins
front_again part text told (include line rest has is) =
    hash_front text (codes "include" ++ (line ++ rest)) has.split ∙ include_again (codes "include" ++ (line ++ rest)) line rest (record { split = refl; ends = has.ends }) is
front_again part text told (pragma_oss gaps next rest has are oss) =
    hash_front text (codes "pragma" ++ (gaps ++ next)) has.split ∙ pragma_oss_again (codes "pragma" ++ (gaps ++ next)) gaps next rest (record { split = refl; ends = has.ends }) are oss
front_again part text told (other_pragma gaps line rest has are no_comment none is) =
    hash_front text (codes "pragma" ++ (gaps ++ (line ++ rest))) has.split ∙ other_pragma_again (codes "pragma" ++ (gaps ++ (line ++ rest))) gaps line rest (record { split = refl; ends = has.ends }) are no_comment none is
front_again part text told (directive line rest split no_include no_pragma is) =
    hash_front text (line ++ rest) split ∙ directive_again (line ++ rest) line rest refl (λ more has. no_include more (rw split has)) (λ more has. no_pragma more (rw split has)) is

unclosed_front : (text gaps : List ℕ) → IsUnclosed text gaps → front_at Beginning text ≡ Err (in_head (newlines gaps))
unclosed_front text gaps is =
    hash_front text (codes "pragma" ++ (gaps ++ is.next)) is.has_word.split ∙ unclosed_again (codes "pragma" ++ (gaps ++ is.next)) gaps (record { next = is.next; has_word = record { split = refl; ends = is.has_word.ends }; are_gaps = is.are_gaps; opens = is.opens })

-- What is answered is a front of the text, or a reason to refuse it. Of `Lexical` nothing is said yet.
abbrev pub FrontFits : LinePart → List ℕ → Result Front Fault → Type 0
FrontFits part text (Ok told) = IsFront part text told
FrontFits part text (Err (at_front TooLarge)) = IsLong text
FrontFits part text (Err (at_front Lexical)) = Unit {0}
FrontFits part text (Err (at_front _)) = ⊥
FrontFits part text (Err (in_head lines)) = (part ≡ Beginning) × (gaps : List ℕ) × (lines ≡ newlines gaps) × IsUnclosed text gaps

newline_fits : (part : LinePart) (text rest : List ℕ) → text ≡ 10 ∷ rest → IsFront part text (newline_at part rest)
unfolding newline_at
newline_fits Beginning text rest e = newline rest (λ same. cc) e
newline_fits Later text rest e = newline rest (λ same. cc) e
newline_fits Pragma text rest e = pragma_end rest e

told_fits : (part : LinePart) (text : List ℕ) (answer : Answer) → Fits text answer → FrontFits part text (token_told part answer)
unfolding token_told
told_fits part text (Ok taken) fits = token taken.0 taken.1 fits
told_fits part text (Err TooLarge) fits = fits
told_fits part text (Err Lexical) fits = tt
told_fits part text (Err _) fits = fits

behind_fits : (part : LinePart) (text : List ℕ) (n : ℕ) → gap_len text ≡ n → FrontFits part text (front_behind part n text)
unfolding front_behind
behind_fits part text zero len = told_fits part text (token_at text) (token_fits text)
behind_fits part text (suc n) len =
    let taken : IsGap (take (gap_len text) text) (drop (gap_len text) text) = gap_taken text (λ none. omega (arith, none, len)) in
    let taken_there : IsGap (take (suc n) text) (drop (suc n) text) = rw len at taken in
    gap (take (suc n) text) (drop (suc n) text) (sym (take-append-drop (suc n) text)) taken_there

hash_told_fits : (text : List ℕ) (answer : Result Front Fault) → HashFits text answer → FrontFits Beginning text answer
hash_told_fits text (Ok told) fits = fits
hash_told_fits text (Err (at_front kind)) fits = absurd fits
hash_told_fits text (Err (in_head lines)) fits = (refl, fits.0, fits.1, fits.2)

hash_line_fits : (part : LinePart) (b : ℕ) (more : List ℕ) → (b == 35 && is_beginning part) ≡ true → FrontFits part (b ∷ more) (hash_at more)
hash_line_fits Beginning b more is = rw (eqb-true b 35 (and_parts (b == 35) true is).0) (hash_told_fits (35 ∷ more) (hash_at more) (hash_fits more))
hash_line_fits Later b more is = let no : false ≡ true = (and_parts (b == 35) false is).1 in absurd (cc)
hash_line_fits Pragma b more is = let no : false ≡ true = (and_parts (b == 35) false is).1 in absurd (cc)

pub front_fits : (part : LinePart) (text : List ℕ) → FrontFits part text (front_at part text)
unfolding front_at
front_fits part [] = tt
front_fits part (b ∷ more) =
    elim (cases_Bool (b == 10)) [
      | inl is ↦ rw is (newline_fits part (b ∷ more) more (ap (λ c. c ∷ more) (eqb-true b 10 is)))
      | inr isnt ↦ rw isnt (elim (cases_Bool (b == 35 && is_beginning part)) [
        | inl hash ↦ rw hash (hash_line_fits part b more hash)
        | inr no_hash ↦ rw no_hash (behind_fits part (b ∷ more) (gap_len (b ∷ more)) refl)
      ])
    ]

-- the kind of a fault, and how many lines on it is
abbrev pub fault_kind : Fault → RefusedKind
fault_kind (at_front kind) = kind
fault_kind (in_head lines) = Lexical

abbrev pub fault_lines : Fault → ℕ
fault_lines (at_front kind) = 0
fault_lines (in_head lines) = lines

-- An answer that is no front is a refusal of the text.
by_fault : (part : LinePart) (text : List ℕ) (fault : Fault) → text ≢ [] → front_at part text ≡ Err fault → FrontFits part text (Err fault) → IsFaulty part text (fault_kind fault) (fault_lines fault)
by_fault part text (at_front Lexical) more read fits =
    bad more (λ told is. (let other = front_again part text told is in cc)) (λ is. (let other = long_front part text is in cc))
    (λ begins gaps is. (let other = unclosed_front text gaps is in let here : front_at Beginning text ≡ Err (at_front Lexical) = rw begins at read in cc))
by_fault part text (at_front TooLarge) more read fits = long fits
by_fault part text (at_front _) more read fits = absurd fits
by_fault part text (in_head lines) more read fits = rw (fits.0, fits.2) (unclosed fits.1 fits.3)

pub faulty : (part : LinePart) (text : List ℕ) (fault : Fault) → text ≢ [] → front_at part text ≡ Err fault → IsFaulty part text (fault_kind fault) (fault_lines fault)
faulty part text fault more read = by_fault part text fault more read (rw read at (front_fits part text))

bad_answer : (part : LinePart) (text : List ℕ) (answer : Result Front Fault) → ((told : Front) → IsFront part text told → ⊥) → (IsLong text → ⊥) → (part ≡ Beginning → (gaps : List ℕ) → IsUnclosed text gaps → ⊥) → FrontFits part text answer → answer ≡ Err (at_front Lexical)
bad_answer part text (Ok told) no_front not_long closed fits = absurd (no_front told fits)
bad_answer part text (Err (at_front TooLarge)) no_front not_long closed fits = absurd (not_long fits)
bad_answer part text (Err (at_front Lexical)) no_front not_long closed fits = refl
bad_answer part text (Err (at_front _)) no_front not_long closed fits = absurd fits
bad_answer part text (Err (in_head lines)) no_front not_long closed fits = absurd (closed fits.0 fits.1 fits.3)

-- Each refusal is answered.
pub faulty_again : (part : LinePart) (text : List ℕ) (kind : RefusedKind) (lines : ℕ) → IsFaulty part text kind lines → (fault : Fault) × (front_at part text ≡ Err fault) × (kind ≡ fault_kind fault) × (lines ≡ fault_lines fault)
faulty_again part text kind lines (bad more no_front not_long closed) = (at_front Lexical, bad_answer part text (front_at part text) no_front not_long closed (front_fits part text), refl, refl)
faulty_again part text kind lines (long is) = (at_front TooLarge, long_front part text is, refl, refl)
faulty_again part text kind lines (unclosed gaps is) = (in_head (newlines gaps), unclosed_front text gaps is, refl, refl)
