-- Lines that begin with `#`.
use Rattle.std.proofs.Common.{◌≡◌, ℕ, true, false, List, ◌∷◌, ◌++◌, length, take, drop, refl, ap, sym, ◌∙◌, subst, inl, inr}
use Rattle.std.proofs.lemmas.List.{take-append-drop}
use Rattle.std.proofs.lemmas.Bool.{cases_Bool}
use Rattle.std.proofs.lemmas.Slice.Eq.{bytes_eq-Decides}
use Rattle.std.specs.Prelude.{◌==◌, not, codes, Some, None, Result, Ok, Err}
use Rattle.std.specs.List.{prefix_len, list_all}
use Rattle.std.specs.Str.{bytes_eq}
use Rattle.oss_syntax.specs.declared.token.TokenKind.TheVariants.{PragmaOss, Directive}
use Rattle.oss_grammar.specs.declared.line_part.LinePart.TheVariants.{Beginning, Later, Pragma}
use Rattle.oss_grammar.specs.Words.{is_letter, is_digit, is_name_byte, opens_comment}
use Rattle.oss_grammar.specs.Tokens.{newlines, IsUnclosed, IsGaps, HasWord, IsLine, Front, IsFront}
use Rattle.oss_grammar.specs.Tokens.IsFront.{include, pragma_oss, other_pragma, directive}
use Rattle.oss_lex.specs.Reading.{Fault, at_front, in_head, front, line_len, gaps_len, pragma_behind, pragma_at, hash_behind, hash_at}
use Rattle.oss_lex.proofs.GapRuns.{gaps_taken, gaps_len_again}
use Rattle.oss_lex.proofs.Runs.{prefix_len_word, front_passes, rest_stops, take_word, drop_word}

-- how many letters, digits and `_` are first
name_len : List ℕ → ℕ
name_len text = prefix_len is_name_byte text

-- a word that begins a text is what is taken
word_again : (word text rest : List ℕ) → list_all is_name_byte word ≡ true → HasWord word text rest → (take (name_len text) text ≡ word) × (drop (name_len text) text ≡ rest)
unfolding name_len
word_again word text rest all has =
    let len : prefix_len is_name_byte (word ++ rest) ≡ length word = prefix_len_word is_name_byte word rest all has.ends in
    (rw (has.split, len) (take_word word rest), rw (has.split, len) (drop_word word rest))

word_taken : (word text : List ℕ) → bytes_eq (take (name_len text) text) word ≡ true → HasWord word text (drop (name_len text) text)
unfolding name_len
word_taken word text is =
    let same : take (prefix_len is_name_byte text) text ≡ word = (bytes_eq-Decides (take (prefix_len is_name_byte text) text) word).0 is in
    record { split = sym (take-append-drop (prefix_len is_name_byte text) text) ∙ ap (λ t. t ++ drop (prefix_len is_name_byte text) text) same; ends = rest_stops is_name_byte text }

no_word : (word text : List ℕ) → list_all is_name_byte word ≡ true → bytes_eq (take (name_len text) text) word ≡ false → (more : List ℕ) → HasWord word text more → ⊥
no_word word text all isnt more has =
    let is : bytes_eq (take (name_len text) text) word ≡ true = (bytes_eq-Decides (take (name_len text) text) word).1 (word_again word text more all has).0 in
    cc

word_test : (word text : List ℕ) → ((more : List ℕ) → HasWord word text more → ⊥) → bytes_eq (take (name_len text) text) word ≡ false
word_test word text none =
    elim (cases_Bool (bytes_eq (take (name_len text) text) word)) [
      | inl is ↦ absurd (none (drop (name_len text) text) (word_taken word text is))
      | inr isnt ↦ isnt
    ]

-- behind the `#` the word is the same
behind_hash : (word text more : List ℕ) → HasWord (35 ∷ word) (35 ∷ text) more → HasWord word text more
behind_hash word text more has = record { split = let whole : 35 ∷ text ≡ 35 ∷ (word ++ more) = has.split in cc; ends = has.ends }

with_hash : (word text more : List ℕ) → HasWord word text more → HasWord (35 ∷ word) (35 ∷ text) more
with_hash word text more has = record { split = ap (λ t. 35 ∷ t) has.split; ends = has.ends }

-- a line up to its newline
line_fits : (text : List ℕ) → IsLine (take (line_len text) text) (drop (line_len text) text)
line_fits text = record { no_newline = front_passes (λ b. not (b == 10)) text; ends = rest_stops (λ b. not (b == 10)) text }

line_again : (line rest : List ℕ) → IsLine line rest → drop (line_len (line ++ rest)) (line ++ rest) ≡ rest
line_again line rest is =
    let len : line_len (line ++ rest) ≡ length line = prefix_len_word (λ b. not (b == 10)) line rest is.no_newline is.ends in
    rw len (drop_word line rest)

-- the letters of the three words
include_letters : list_all is_name_byte (codes "include") ≡ true
unfolding is_name_byte is_letter is_digit
include_letters = refl

pragma_letters : list_all is_name_byte (codes "pragma") ≡ true
unfolding is_name_byte is_letter is_digit
pragma_letters = refl

oss_letters : list_all is_name_byte (codes "oss") ≡ true
unfolding is_name_byte is_letter is_digit
oss_letters = refl

-- What is answered for a line is the front of its text, or the comment for which it is refused.
abbrev pub HashFits : List ℕ → Result Front Fault → Type 0
HashFits text (Ok told) = IsFront Beginning text told
HashFits text (Err (at_front kind)) = ⊥
HashFits text (Err (in_head lines)) = (gaps : List ℕ) × (lines ≡ newlines gaps) × IsUnclosed text gaps

pragma_behind_fits : (text gaps next : List ℕ) → HasWord (codes "#pragma") text (gaps ++ next) → IsGaps gaps next → HashFits text (pragma_behind (newlines gaps) next)
unfolding pragma_behind name_len
pragma_behind_fits text gaps next has are =
    elim (cases_Bool (opens_comment next)) [
      | inl opens ↦ rw opens (gaps, refl, record { next = next; has_word = has; are_gaps = are; opens = opens })
      | inr no_comment ↦ rw no_comment (elim (cases_Bool (bytes_eq (take (prefix_len is_name_byte next) next) (codes "oss"))) [
        | inl is ↦ rw is (pragma_oss gaps next (drop (prefix_len is_name_byte next) next) has are (word_taken (codes "oss") next is))
        | inr isnt ↦ rw isnt (
            let whole : next ≡ take (line_len next) next ++ drop (line_len next) next = sym (take-append-drop (line_len next) next) in
            let has_there : HasWord (codes "#pragma") text (gaps ++ (take (line_len next) next ++ drop (line_len next) next)) = subst (λ t. HasWord (codes "#pragma") text (gaps ++ t)) whole has in
            let are_there : IsGaps gaps (take (line_len next) next ++ drop (line_len next) next) = subst (λ t. IsGaps gaps t) whole are in
            let no_comment_there : opens_comment (take (line_len next) next ++ drop (line_len next) next) ≡ false = subst (λ t. opens_comment t ≡ false) whole no_comment in
            let none : (more : List ℕ) → HasWord (codes "oss") next more → ⊥ = no_word (codes "oss") next oss_letters isnt in
            let none_there : (more : List ℕ) → HasWord (codes "oss") (take (line_len next) next ++ drop (line_len next) next) more → ⊥ = subst (λ t. (more : List ℕ) → HasWord (codes "oss") t more → ⊥) whole none in
            other_pragma gaps (take (line_len next) next) (drop (line_len next) next) has_there are_there no_comment_there none_there (line_fits next))
      ])
    ]

pragma_fits : (text behind : List ℕ) → HasWord (codes "#pragma") text behind → HashFits text (pragma_at behind)
unfolding pragma_at
pragma_fits text behind has =
    let n : ℕ = gaps_len 0 behind in
    let has_there : HasWord (codes "#pragma") text (take n behind ++ drop n behind) = subst (λ t. HasWord (codes "#pragma") text t) (sym (take-append-drop n behind)) has in
    pragma_behind_fits text (take n behind) (drop n behind) has_there (gaps_taken behind)

pub hash_fits : (text : List ℕ) → HashFits (35 ∷ text) (hash_at text)
unfolding hash_at hash_behind name_len
hash_fits text =
    let n : ℕ = prefix_len is_name_byte text in
    let behind : List ℕ = drop n text in
    elim (cases_Bool (bytes_eq (take n text) (codes "include"))) [
      | inl is ↦ rw is (
          let has : HasWord (codes "#include") (35 ∷ text) behind = with_hash (codes "include") text behind (word_taken (codes "include") text is) in
          let has_there : HasWord (codes "#include") (35 ∷ text) (take (line_len behind) behind ++ drop (line_len behind) behind) = subst (λ t. HasWord (codes "#include") (35 ∷ text) t) (sym (take-append-drop (line_len behind) behind)) has in
          include (take (line_len behind) behind) (drop (line_len behind) behind) has_there (line_fits behind))
      | inr no_include ↦ rw no_include (elim (cases_Bool (bytes_eq (take n text) (codes "pragma"))) [
        | inl is ↦ rw is (pragma_fits (35 ∷ text) behind (with_hash (codes "pragma") text behind (word_taken (codes "pragma") text is)))
        | inr no_pragma ↦ rw no_pragma (directive (take (line_len text) text) (drop (line_len text) text) (ap (λ t. 35 ∷ t) (sym (take-append-drop (line_len text) text)))
            (λ more has. no_word (codes "include") text include_letters no_include more (behind_hash (codes "include") text more has))
            (λ more has. no_word (codes "pragma") text pragma_letters no_pragma more (behind_hash (codes "pragma") text more has))
            (line_fits text))
      ])
    ]

-- Each such front is answered.
hash_at_word : (word text behind : List ℕ) → list_all is_name_byte word ≡ true → HasWord word text behind → hash_at text ≡ hash_behind word behind text
unfolding hash_at name_len
hash_at_word word text behind all has =
    let parts : (take (prefix_len is_name_byte text) text ≡ word) × (drop (prefix_len is_name_byte text) text ≡ behind) = word_again word text behind all has in
    rw (parts.0, parts.1) refl

pub include_again : (text line rest : List ℕ) → HasWord (codes "#include") (35 ∷ text) (line ++ rest) → IsLine line rest → hash_at text ≡ Ok (front None Later 0 rest)
unfolding hash_behind
include_again text line rest has is =
    hash_at_word (codes "include") text (line ++ rest) include_letters (behind_hash (codes "include") text (line ++ rest) has) ∙ rw (line_again line rest is) refl

pragma_at_gaps : (gaps next : List ℕ) → IsGaps gaps next → pragma_at (gaps ++ next) ≡ pragma_behind (newlines gaps) next
unfolding pragma_at
pragma_at_gaps gaps next are = rw (gaps_len_again gaps next are, take_word gaps next, drop_word gaps next) refl

hash_at_pragma : (text behind : List ℕ) → HasWord (codes "#pragma") (35 ∷ text) behind → hash_at text ≡ pragma_at behind
unfolding hash_behind
hash_at_pragma text behind has = hash_at_word (codes "pragma") text behind pragma_letters (behind_hash (codes "pragma") text behind has)

word_no_comment : (next rest : List ℕ) → HasWord (codes "oss") next rest → opens_comment next ≡ false
unfolding opens_comment
word_no_comment next rest oss = rw oss.split refl

pub unclosed_again : (text gaps : List ℕ) → IsUnclosed (35 ∷ text) gaps → hash_at text ≡ Err (in_head (newlines gaps))
unfolding pragma_behind
unclosed_again text gaps is =
    hash_at_pragma text (gaps ++ is.next) is.has_word ∙ pragma_at_gaps gaps is.next is.are_gaps ∙ rw is.opens refl

pub pragma_oss_again : (text gaps next rest : List ℕ) → HasWord (codes "#pragma") (35 ∷ text) (gaps ++ next) → IsGaps gaps next → HasWord (codes "oss") next rest → hash_at text ≡ Ok (front (Some PragmaOss) Pragma (newlines gaps) rest)
unfolding pragma_behind name_len
pragma_oss_again text gaps next rest has are oss =
    let parts : (take (prefix_len is_name_byte next) next ≡ codes "oss") × (drop (prefix_len is_name_byte next) next ≡ rest) = word_again (codes "oss") next rest oss_letters oss in
    hash_at_pragma text (gaps ++ next) has ∙ pragma_at_gaps gaps next are ∙ rw (word_no_comment next rest oss, parts.0, parts.1) refl

pub other_pragma_again : (text gaps line rest : List ℕ) → HasWord (codes "#pragma") (35 ∷ text) (gaps ++ (line ++ rest)) → IsGaps gaps (line ++ rest) → opens_comment (line ++ rest) ≡ false → ((more : List ℕ) → HasWord (codes "oss") (line ++ rest) more → ⊥) → IsLine line rest → hash_at text ≡ Ok (front None Later (newlines gaps) rest)
unfolding pragma_behind name_len
other_pragma_again text gaps line rest has are no_comment none is =
    let isnt : bytes_eq (take (prefix_len is_name_byte (line ++ rest)) (line ++ rest)) (codes "oss") ≡ false = word_test (codes "oss") (line ++ rest) none in
    hash_at_pragma text (gaps ++ (line ++ rest)) has ∙ pragma_at_gaps gaps (line ++ rest) are ∙ rw (no_comment, isnt, line_again line rest is) refl

pub directive_again : (text line rest : List ℕ) → text ≡ line ++ rest → ((more : List ℕ) → HasWord (codes "#include") (35 ∷ text) more → ⊥) → ((more : List ℕ) → HasWord (codes "#pragma") (35 ∷ text) more → ⊥) → IsLine line rest → hash_at text ≡ Ok (front (Some Directive) Later 0 rest)
unfolding hash_at hash_behind name_len
directive_again text line rest split no_include no_pragma is =
    let isnt_include : bytes_eq (take (prefix_len is_name_byte text) text) (codes "include") ≡ false = word_test (codes "include") text (λ more has. no_include more (with_hash (codes "include") text more has)) in
    let isnt_pragma : bytes_eq (take (prefix_len is_name_byte text) text) (codes "pragma") ≡ false = word_test (codes "pragma") text (λ more has. no_pragma more (with_hash (codes "pragma") text more has)) in
    let end : drop (line_len text) text ≡ rest = rw split (line_again line rest is) in
    rw (isnt_include, isnt_pragma, end) refl
