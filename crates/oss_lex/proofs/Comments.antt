-- The lengths of comments.
use Rattle.std.proofs.Common.{◌≡◌, ℕ, ◌+◌, Bool, true, false, ◌&&◌, List, [], ◌∷◌, ◌++◌, length, take, drop, refl, ◌∙◌, zero, suc, inl, inr, arith, one-add}
use Rattle.std.proofs.lemmas.Bool.{cases_Bool, cases_eq, eqb-true, ne_eqb, and_parts, not-false}
use Rattle.std.specs.Prelude.{◌==◌, if◌then◌else◌, slice_index, not}
use Rattle.oss_grammar.specs.Words.{NotFirst}
use Rattle.oss_grammar.specs.Tokens.{ends_line, Closes, Remarks}
use Rattle.oss_grammar.specs.Tokens.Closes.{close, inside}
use Rattle.oss_grammar.specs.Tokens.Remarks.{over, goes_on}
use Rattle.oss_lex.specs.Reading.{lengthened, close_len, remark_len}

pub lengthened-none : (more : ℕ) → lengthened more 0 ≡ 0
unfolding lengthened
lengthened-none more = refl

pub lengthened-some : (more n : ℕ) → (n ≡ 0 → ⊥) → lengthened more n ≡ more + n
unfolding lengthened
lengthened-some more n some = rw (ne_eqb n 0 some) refl

pub lengthened-zero : (n : ℕ) → lengthened 0 n ≡ n
lengthened-zero n =
    elim (cases_eq n 0) [ inl none ↦ rw (none, lengthened-none) refl | inr some ↦ rw (lengthened-some 0 n some) (omega arith) ]

pub lengthened-lengthened : (more n : ℕ) → lengthened more (lengthened 1 n) ≡ lengthened (more + 1) n
lengthened-lengthened more n =
    elim (cases_eq n 0) [
      | inl none ↦ rw (none, lengthened-none, lengthened-none, lengthened-none) refl
      | inr some ↦
          let apart : 1 + n ≡ 0 → ⊥ = λ e. omega arith in
          rw (lengthened-some 1 n some, lengthened-some more (1 + n) apart, lengthened-some (more + 1) n some) (omega arith)
    ]

pub close_len_step : (b : ℕ) (more : List ℕ) → close_len (b ∷ more) ≡ (if b == 42 && slice_index more 0 == 47 then 2 else lengthened 1 (close_len more))
unfolding close_len
close_len_step b more = refl

first_taken : (n : ℕ) (list : List ℕ) → (n ≡ 0 → ⊥) → slice_index (take n list) 0 ≡ slice_index list 0
first_taken zero list some = absurd (some refl)
first_taken (suc n) [] some = refl
first_taken (suc n) (b ∷ list) some = refl

close_pair : (b : ℕ) (more : List ℕ) → (b == 42 && slice_index more 0 == 47) ≡ true → Closes (take 2 (b ∷ more))
close_pair b [] is = let parts : ((b == 42) ≡ true) × (false ≡ true) = and_parts (b == 42) false is in cc
close_pair b (c ∷ more) is =
    let parts = and_parts (b == 42) (c == 47) is in
    rw (eqb-true b 42 parts.0, eqb-true c 47 parts.1) close

none_in_none : close_len [] ≡ 0
unfolding close_len
none_in_none = refl

close_later : (b : ℕ) (more : List ℕ) → (b == 42 && slice_index more 0 == 47) ≡ false → (close_len (b ∷ more) ≡ 0 → ⊥) → ((close_len more ≡ 0 → ⊥) → Closes (take (close_len more) more)) → Closes (take (close_len (b ∷ more)) (b ∷ more))
close_later b more isnt some is_closed =
    let whole : close_len (b ∷ more) ≡ lengthened 1 (close_len more) = rw (close_len_step, isnt) refl in
    let some_more : close_len more ≡ 0 → ⊥ = λ none. some (whole ∙ rw none (lengthened-none 1)) in
    let len : close_len (b ∷ more) ≡ suc (close_len more) = whole ∙ lengthened-some 1 (close_len more) some_more ∙ one-add (close_len more) in
    let apart : (b == 42 && slice_index (take (close_len more) more) 0 == 47) ≡ false = rw (first_taken (close_len more) more some_more) isnt in
    rw len (inside b (take (close_len more) more) apart (is_closed some_more))

-- What is taken closes a comment.
pub close_fits : (text : List ℕ) → (close_len text ≡ 0 → ⊥) → Closes (take (close_len text) text)
close_fits [] some = absurd (some none_in_none)
close_fits (b ∷ more) some =
    elim (cases_Bool (b == 42 && slice_index more 0 == 47)) [
      | inl is ↦ rw (close_len_step, is) (close_pair b more is)
      | inr isnt ↦ close_later b more isnt some (close_fits more)
    ]

closes_first : {word : List ℕ} → Closes word → (rest : List ℕ) → slice_index (word ++ rest) 0 ≡ slice_index word 0
closes_first close rest = refl
closes_first (inside b more apart is_closed) rest = refl

pub closes_some : {word : List ℕ} → Closes word → length word ≡ 0 → ⊥
closes_some close none = omega arith
closes_some (inside b more apart is_closed) none = omega arith

-- Each end of a comment is found.
pub close_again : {word : List ℕ} → Closes word → (rest : List ℕ) → close_len (word ++ rest) ≡ length word
close_again close rest = rw close_len_step refl
close_again (inside b more apart is_closed) rest =
    let apart_there : (b == 42 && slice_index (more ++ rest) 0 == 47) ≡ false = rw (closes_first is_closed rest) apart in
    rw (close_len_step, apart_there, close_again is_closed rest, lengthened-some 1 (length more) (closes_some is_closed), one-add) refl

-- What is taken is all that a line comment holds.
pub remark_fits : (backslash : Bool) (text : List ℕ) → Remarks backslash (take (remark_len backslash text) text) (drop (remark_len backslash text) text)
unfolding remark_len
remark_fits backslash [] = over {backslash = backslash} {rest = []} tt
remark_fits backslash (b ∷ more) =
    elim (cases_Bool (ends_line backslash b)) [
      | inl ends ↦ rw ends (over {backslash = backslash} {rest = b ∷ more} (rw ends refl))
      | inr isnt ↦ rw isnt (goes_on b (take (remark_len (b == 92) more) more) isnt (remark_fits (b == 92) more))
    ]

remark_over : (backslash : Bool) (rest : List ℕ) → NotFirst (λ b. not (ends_line backslash b)) rest → remark_len backslash rest ≡ 0
unfolding remark_len
remark_over backslash [] stops = refl
remark_over backslash (b ∷ rest) stops = rw (not-false (ends_line backslash b) stops) refl

pub remark_again : {backslash : Bool} {word rest : List ℕ} → Remarks backslash word rest → remark_len backslash (word ++ rest) ≡ length word
unfolding remark_len
remark_again (over {backslash = backslash} {rest = rest} stops) = remark_over backslash rest stops
remark_again (goes_on b more isnt remarks) = rw (isnt, remark_again remarks) refl
