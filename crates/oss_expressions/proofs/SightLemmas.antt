-- What is shown of the tokens, and what stands behind it.
use Rattle.std.proofs.Common.{◌≡◌, ℕ, zero, suc, ◌+◌, ◌-◌, ◌<◌, ◌==◌, Bool, true, false, cond, if◌then◌else◌, List, [], ◌∷◌, ◌++◌, length, length-append, refl, sym, ap, ◌∙◌, arith, Result, Ok, Err}
use Rattle.std.proofs.lemmas.Bool.Decides.{nat_tests}
use Rattle.std.proofs.lemmas.List.Sums.{sum_by-cons}
use Rattle.std.specs.List.{count_by}
use Rattle.oss_syntax.specs.declared.token.Token.{Token}
use Rattle.oss_grammar.specs.Reading.{Reader, Stop, begins, shown, unshown, from_count, passed, counted_told, read_counted}
use Rattle.oss_grammar.specs.Reading.Stop.{Syntax, Deep}
use Rattle.oss_expressions.proofs.StepLoops.{Takes, told, halted, ok_rest}

pub shown_none : (counts : Token → Bool) (ts : List Token) → shown counts 0 ts ≡ []
shown_none counts [] = refl
shown_none counts (t ∷ ts) = refl

pub all_shown : (counts : Token → Bool) (n : ℕ) (ts : List Token) → ts ≡ shown counts n ts ++ unshown counts n ts
all_shown counts n [] = refl
all_shown counts zero (t ∷ ts) = refl
all_shown counts (suc n) (t ∷ ts) = ap (λ xs. t ∷ xs) (all_shown counts (if counts t then n else suc n) ts)

-- the first token is shown, and the others as far as what it leaves
pub shown_first : (counts : Token → Bool) (n m : ℕ) (t : Token) (ts : List Token) → 0 < n → m ≡ (if counts t then n - 1 else n) → shown counts n (t ∷ ts) ≡ t ∷ shown counts m ts
shown_first counts zero m t ts some e = absurd (omega arith)
shown_first counts (suc n) m t ts some e = let less : suc n - 1 ≡ n = omega arith in rw (e, less) refl

pub unshown_first : (counts : Token → Bool) (n m : ℕ) (t : Token) (ts : List Token) → 0 < n → m ≡ (if counts t then n - 1 else n) → unshown counts n (t ∷ ts) ≡ unshown counts m ts
unshown_first counts zero m t ts some e = absurd (omega arith)
unshown_first counts (suc n) m t ts some e = let less : suc n - 1 ≡ n = omega arith in rw (e, less) refl

counted_yes : (counts : Token → Bool) (t : Token) (xs : List Token) → counts t ≡ true → count_by counts (t ∷ xs) ≡ suc (count_by counts xs)
counted_yes counts t xs e = sum_by-cons (λ x. cond {A = ℕ} (counts x) 1 0) t xs ∙ rw e (omega arith)

counted_no : (counts : Token → Bool) (t : Token) (xs : List Token) → counts t ≡ false → count_by counts (t ∷ xs) ≡ count_by counts xs
counted_no counts t xs e = sum_by-cons (λ x. cond {A = ℕ} (counts x) 1 0) t xs ∙ rw e (omega arith)

shown_yes : (counts : Token → Bool) (n : ℕ) (t : Token) (ts : List Token) → counts t ≡ true → count_by counts (shown counts (suc n) (t ∷ ts)) ≡ suc (count_by counts (shown counts n ts))
shown_yes counts n t ts e = let s : shown counts (suc n) (t ∷ ts) ≡ t ∷ shown counts n ts = rw e refl in ap (count_by counts) s ∙ counted_yes counts t (shown counts n ts) e

shown_no : (counts : Token → Bool) (n : ℕ) (t : Token) (ts : List Token) → counts t ≡ false → count_by counts (shown counts (suc n) (t ∷ ts)) ≡ count_by counts (shown counts (suc n) ts)
shown_no counts n t ts e = let s : shown counts (suc n) (t ∷ ts) ≡ t ∷ shown counts (suc n) ts = rw e refl in ap (count_by counts) s ∙ counted_no counts t (shown counts (suc n) ts) e

-- Where no token is one too many, fewer are shown that count, and else one more than may.
few_shown : (counts : Token → Bool) (most : ℕ) (ts : List Token) (b : Bool) → begins counts ts ≡ b → from_count counts most ts ≡ [] → count_by counts (shown counts (suc most) ts) < suc most
few_shown counts most [] b is e = omega arith
few_shown counts zero (t ∷ ts) true is e = absurd (let none : t ∷ ts ≡ [] = rw is at e in cc)
few_shown counts zero (t ∷ ts) false is e = let h = few_shown counts zero ts (begins counts ts) refl (rw is at e) in rw (shown_no counts 0 t ts is) h
few_shown counts (suc most) (t ∷ ts) true is e =
    let h : count_by counts (shown counts (suc most) ts) < suc most = few_shown counts most ts (begins counts ts) refl (rw is at e) in
    let s = shown_yes counts (suc most) t ts is in
    omega arith
few_shown counts (suc most) (t ∷ ts) false is e = let h = few_shown counts (suc most) ts (begins counts ts) refl (rw is at e) in let s = shown_no counts (suc most) t ts is in omega arith

more_shown : (counts : Token → Bool) (most : ℕ) (ts : List Token) (b : Bool) (u : Token) (rest : List Token) → begins counts ts ≡ b → from_count counts most ts ≡ u ∷ rest → count_by counts (shown counts (suc most) ts) ≡ suc most
more_shown counts most [] b u rest is e = absurd (cc)
more_shown counts zero (t ∷ ts) true u rest is e = shown_yes counts 0 t ts is ∙ ap (λ xs. suc (count_by counts xs)) (shown_none counts ts)
more_shown counts zero (t ∷ ts) false u rest is e = shown_no counts 0 t ts is ∙ more_shown counts zero ts (begins counts ts) u rest refl (rw is at e)
more_shown counts (suc most) (t ∷ ts) true u rest is e = shown_yes counts (suc most) t ts is ∙ ap suc (more_shown counts most ts (begins counts ts) u rest refl (rw is at e))
more_shown counts (suc most) (t ∷ ts) false u rest is e = shown_no counts (suc most) t ts is ∙ more_shown counts (suc most) ts (begins counts ts) u rest refl (rw is at e)

-- One too many is found from the start where all tokens are passed that are shown, and the last was one too many.
none_over : (counts : Token → Bool) (most : ℕ) (ts : List Token) → from_count counts most ts ≡ [] → passed counts most ts [] ≡ false
none_over counts most ts e = let h = few_shown counts most ts (begins counts ts) refl e in grind (arith, nat_tests)

one_over : (counts : Token → Bool) (most : ℕ) (ts : List Token) (t : Token) (rest : List Token) → from_count counts most ts ≡ t ∷ rest → passed counts most ts [] ≡ true
one_over counts most ts t rest e = let h = more_shown counts most ts (begins counts ts) t rest refl e in grind (arith, nat_tests)

-- how the search for one too many goes on
pub from_other : (counts : Token → Bool) (n : ℕ) (t : Token) (ts : List Token) → counts t ≡ false → from_count counts n (t ∷ ts) ≡ from_count counts n ts
from_other counts zero t ts e = rw e refl
from_other counts (suc n) t ts e = rw e refl

pub from_next : (counts : Token → Bool) (n : ℕ) (t : Token) (ts : List Token) → counts t ≡ true → 0 < n → from_count counts n (t ∷ ts) ≡ from_count counts (n - 1) ts
from_next counts zero t ts e some = absurd (omega arith)
from_next counts (suc n) t ts e some = let less : suc n - 1 ≡ n = omega arith in rw (e, less) refl

pub from_here : (counts : Token → Bool) (t : Token) (ts : List Token) → counts t ≡ true → from_count counts 0 (t ∷ ts) ≡ t ∷ ts
from_here counts t ts e = rw e refl

-- what is told of the tokens that are shown, told of all
module _ {A : Type 0} (counts : Token → Bool) (most : ℕ) (f : Reader A) (ts : List Token) (n : ℕ) (size : n ≡ most + 1) where
  same_shown : shown counts n ts ≡ shown counts (suc most) ts
  same_shown = let e : n ≡ suc most = omega arith in ap (λ k. shown counts k ts) e

  same_unshown : unshown counts n ts ≡ unshown counts (suc most) ts
  same_unshown = let e : n ≡ suc most = omega arith in ap (λ k. unshown counts k ts) e

  told_again : (r : Result (A × List Token) Stop) → f (shown counts n ts) ≡ r → read_counted counts most f ts ≡ counted_told counts most ts r
  told_again r e = ap (λ xs. counted_told counts most ts (f xs)) (sym same_shown) ∙ ap (counted_told counts most ts) e

  pub counted_ok : (value : A) (seen left : List Token) → f (shown counts n ts) ≡ Ok (value, seen) → passed counts most ts seen ≡ false → left ≡ seen ++ unshown counts n ts
      → read_counted counts most f ts ≡ Ok (value, left)
  counted_ok value seen left e within split = told_again (Ok (value, seen)) e ∙ rw within (ap (λ xs. told value (seen ++ xs)) (sym same_unshown) ∙ ap (told value) (sym split))

  pub counted_over : (value : A) (seen : List Token) → f (shown counts n ts) ≡ Ok (value, seen) → passed counts most ts seen ≡ true → read_counted counts most f ts ≡ Err (Deep (from_count counts most ts))
  counted_over value seen e over = told_again (Ok (value, seen)) e ∙ rw over refl

  pub counted_syntax : (seen left : List Token) → f (shown counts n ts) ≡ Err (Syntax seen) → passed counts most ts seen ≡ false → left ≡ seen ++ unshown counts n ts
      → read_counted counts most f ts ≡ Err (Syntax left)
  counted_syntax seen left e within split =
      told_again (Err (Syntax seen)) e ∙ rw within (ap (λ xs. halted A (Syntax (seen ++ xs))) (sym same_unshown) ∙ ap (λ xs. halted A (Syntax xs)) (sym split))

  pub counted_syntax_over : (seen : List Token) → f (shown counts n ts) ≡ Err (Syntax seen) → passed counts most ts seen ≡ true → read_counted counts most f ts ≡ Err (Deep (from_count counts most ts))
  counted_syntax_over seen e over = told_again (Err (Syntax seen)) e ∙ rw over refl

  pub counted_deep : (seen left : List Token) → f (shown counts n ts) ≡ Err (Deep seen) → left ≡ seen ++ unshown counts n ts → read_counted counts most f ts ≡ Err (Deep left)
  counted_deep seen left e split =
      told_again (Err (Deep seen)) e ∙ ap (λ xs. halted A (Deep (seen ++ xs))) (sym same_unshown) ∙ ap (λ xs. halted A (Deep xs)) (sym split)

-- a reader that takes a token of those that are shown takes one of all
ok_less : {A : Type 0} (counts : Token → Bool) (most : ℕ) (ts : List Token) (value : A) (place : List Token) (b : Bool) → passed counts most ts place ≡ b → length place < length (shown counts (suc most) ts)
    → (other : A) (rest : List Token) → counted_told counts most ts (Ok (value, place)) ≡ told other rest → length rest < length ts
ok_less {A} counts most ts value place true is h other rest e = absurd (let none : halted A (Deep (from_count counts most ts)) ≡ told other rest = rw is at e in cc)
ok_less {A} counts most ts value place false is h other rest e =
    let read : told value (place ++ unshown counts (suc most) ts) ≡ told other rest = rw is at e in
    let same : place ++ unshown counts (suc most) ts ≡ rest = ok_rest value other (place ++ unshown counts (suc most) ts) rest read in
    let all : length ts ≡ length (shown counts (suc most) ts) + length (unshown counts (suc most) ts) = ap length (all_shown counts (suc most) ts) ∙ length-append (shown counts (suc most) ts) (unshown counts (suc most) ts) in
    let size : length rest ≡ length place + length (unshown counts (suc most) ts) = ap length (sym same) ∙ length-append place (unshown counts (suc most) ts) in
    omega arith

syntax_none : {A : Type 0} (counts : Token → Bool) (most : ℕ) (ts place : List Token) (b : Bool) → passed counts most ts place ≡ b
    → (value : A) (rest : List Token) → counted_told counts most ts (Err (Syntax place)) ≡ told value rest → ⊥
syntax_none {A} counts most ts place true is value rest e = let none : halted A (Deep (from_count counts most ts)) ≡ told value rest = rw is at e in cc
syntax_none {A} counts most ts place false is value rest e = let none : halted A (Syntax (place ++ unshown counts (suc most) ts)) ≡ told value rest = rw is at e in cc

told_less : {A : Type 0} (counts : Token → Bool) (most : ℕ) (ts : List Token) (r : Result (A × List Token) Stop)
    → ((value : A) (rest : List Token) → r ≡ told value rest → length rest < length (shown counts (suc most) ts))
    → (value : A) (rest : List Token) → counted_told counts most ts r ≡ told value rest → length rest < length ts
told_less {A} counts most ts (Err (Deep place)) less value rest e = absurd (let none : halted A (Deep (place ++ unshown counts (suc most) ts)) ≡ told value rest = e in cc)
told_less counts most ts (Err (Syntax place)) less value rest e = absurd (syntax_none counts most ts place (passed counts most ts place) refl value rest e)
told_less counts most ts (Ok p) less value rest e = ok_less counts most ts p.0 p.1 (passed counts most ts p.1) refl (less p.0 p.1 refl) value rest e

pub takes_counted : {A : Type 0} {f : Reader A} (counts : Token → Bool) (most : ℕ) → Takes f → Takes (read_counted counts most f)
takes_counted {f = f} counts most part = record { less = λ ts value rest e. told_less counts most ts (f (shown counts (suc most) ts)) (λ a left r. part.less (shown counts (suc most) ts) a left r) value rest e }

-- the same of a test whether none are found
pub over_none : (counts : Token → Bool) (most : ℕ) (ts xs : List Token) → from_count counts most ts ≡ xs → (length xs == 0) ≡ true → passed counts most ts [] ≡ false
over_none counts most ts [] e some = none_over counts most ts e
over_none counts most ts (t ∷ rest) e some = let not_zero : (length (t ∷ rest) == 0) ≡ false = grind (arith, nat_tests) in absurd (cc)

pub over_some : (counts : Token → Bool) (most : ℕ) (ts xs : List Token) → from_count counts most ts ≡ xs → (length xs == 0) ≡ false → passed counts most ts [] ≡ true
over_some counts most ts [] e some = absurd (cc)
over_some counts most ts (t ∷ rest) e some = one_over counts most ts t rest e
