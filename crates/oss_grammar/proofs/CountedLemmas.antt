-- A reader that sees no token behind the first that is one too many is exact, if the reader of all tokens is: it passes a limit at
-- that token too.
use Rattle.std.proofs.Common.{arith, ◌≡◌, ◌+◌, ◌==◌, ℕ, zero, suc, Bool, true, false, if◌then◌else◌, List, [], ◌∷◌, ◌++◌, refl, sym, ap, ◌∙◌, subst, append_assoc, ◌⊎◌, inl, inr, Result, Ok, Err}
use Rattle.std.specs.List.{count_by}
use Rattle.std.proofs.Math.Bool.{cond}
use Rattle.std.proofs.lemmas.Bool.Decides.{nat_tests}
use Rattle.std.proofs.lemmas.List.{append-nil, append_cancel_right}
use Rattle.std.proofs.lemmas.List.Recursion.{is_count_by}
use Rattle.oss_syntax.specs.declared.token.Token.{Token}
use Rattle.oss_grammar.specs.Fronts.{Viable}
use Rattle.oss_grammar.specs.Reading.{Stop, begins, shown, unshown, from_count, passed, counted_told, read_counted}
use Rattle.oss_grammar.specs.Reading.Stop.{Syntax, Deep}
use Rattle.oss_grammar.proofs.Parts.{AtSame, Taken, Stopped, Sunk, IsRead, Sinks, Exact, Begun, ok_is}

module _ (counts : Token → Bool) where
  abbrev tally : List Token → ℕ
  tally [] = 0
  tally (t ∷ ts) = cond (counts t) (1 + tally ts) (tally ts)

  tally_is : (ts : List Token) → tally ts ≡ count_by counts ts
  tally_is = is_count_by tally counts refl (λ t ts. refl)

  -- one more, or none
  count_yes : (t : Token) (ts : List Token) → counts t ≡ true → count_by counts (t ∷ ts) ≡ suc (count_by counts ts)
  count_yes t ts e =
      let one : tally (t ∷ ts) ≡ 1 + tally ts = rw e refl in
      let all : tally (t ∷ ts) ≡ count_by counts (t ∷ ts) = tally_is (t ∷ ts) in let rest : tally ts ≡ count_by counts ts = tally_is ts in omega arith

  count_no : (t : Token) (ts : List Token) → counts t ≡ false → count_by counts (t ∷ ts) ≡ count_by counts ts
  count_no t ts e = let none : tally (t ∷ ts) ≡ tally ts = rw e refl in sym (tally_is (t ∷ ts)) ∙ (none ∙ tally_is ts)

  none_more : (n : ℕ) → n ≡ count_by counts [] + n
  none_more n = let z : count_by counts [] ≡ 0 = refl in omega arith

  count_append : (xs ys : List Token) → count_by counts (xs ++ ys) ≡ count_by counts xs + count_by counts ys
  count_append [] ys = none_more (count_by counts ys)
  count_append (x ∷ xs) ys = on (counts x) refl (count_append xs ys) where
    on : (b : Bool) → counts x ≡ b → count_by counts (xs ++ ys) ≡ count_by counts xs + count_by counts ys → count_by counts ((x ∷ xs) ++ ys) ≡ count_by counts (x ∷ xs) + count_by counts ys
    on true e more =
        let all : count_by counts (x ∷ (xs ++ ys)) ≡ suc (count_by counts (xs ++ ys)) = count_yes x (xs ++ ys) e in
        let one : count_by counts (x ∷ xs) ≡ suc (count_by counts xs) = count_yes x xs e in omega arith
    on false e more =
        let all : count_by counts (x ∷ (xs ++ ys)) ≡ count_by counts (xs ++ ys) = count_no x (xs ++ ys) e in
        let one : count_by counts (x ∷ xs) ≡ count_by counts xs = count_no x xs e in omega arith

  shown_yes : (n : ℕ) (t : Token) (ts : List Token) → counts t ≡ true → shown counts (suc n) (t ∷ ts) ≡ t ∷ shown counts n ts
  shown_yes n t ts e = rw e refl

  shown_no : (n : ℕ) (t : Token) (ts : List Token) → counts t ≡ false → shown counts (suc n) (t ∷ ts) ≡ t ∷ shown counts (suc n) ts
  shown_no n t ts e = rw e refl

  unshown_yes : (n : ℕ) (t : Token) (ts : List Token) → counts t ≡ true → unshown counts (suc n) (t ∷ ts) ≡ unshown counts n ts
  unshown_yes n t ts e = rw e refl

  unshown_no : (n : ℕ) (t : Token) (ts : List Token) → counts t ≡ false → unshown counts (suc n) (t ∷ ts) ≡ unshown counts (suc n) ts
  unshown_no n t ts e = rw e refl

  shown_none : (ts : List Token) → shown counts 0 ts ≡ []
  shown_none [] = refl
  shown_none (t ∷ ts) = refl

  unshown_all : (ts : List Token) → unshown counts 0 ts ≡ ts
  unshown_all [] = refl
  unshown_all (t ∷ ts) = refl

  -- what is shown and what is not are all
  shown_all : (n : ℕ) (ts : List Token) → ts ≡ shown counts n ts ++ unshown counts n ts
  shown_all n [] = refl
  shown_all zero (t ∷ ts) = refl
  shown_all (suc n) (t ∷ ts) = on (counts t) refl (shown_all n ts) (shown_all (suc n) ts) where
    on : (b : Bool) → counts t ≡ b → ts ≡ shown counts n ts ++ unshown counts n ts → ts ≡ shown counts (suc n) ts ++ unshown counts (suc n) ts
        → t ∷ ts ≡ shown counts (suc n) (t ∷ ts) ++ unshown counts (suc n) (t ∷ ts)
    on true e fewer same = ap (λ ys. t ∷ ys) fewer ∙ (ap (λ ys. ys ++ unshown counts n ts) (sym (shown_yes n t ts e)) ∙ ap (λ ys. shown counts (suc n) (t ∷ ts) ++ ys) (sym (unshown_yes n t ts e)))
    on false e fewer same = ap (λ ys. t ∷ ys) same ∙ (ap (λ ys. ys ++ unshown counts (suc n) ts) (sym (shown_no n t ts e)) ∙ ap (λ ys. shown counts (suc n) (t ∷ ts) ++ ys) (sym (unshown_no n t ts e)))

  at_first : (n m : ℕ) → n ≡ count_by counts [] + suc m → n ≡ suc m
  at_first n m e = e ∙ sym (none_more (suc m))

  -- a front with fewer that count is shown whole
  shown_over : (xs rest : List Token) (n m : ℕ) → n ≡ count_by counts xs + suc m → shown counts n (xs ++ rest) ≡ xs ++ shown counts (suc m) rest
  shown_over [] rest n m e = ap (λ k. shown counts k rest) (at_first n m e)
  shown_over (x ∷ xs) rest zero m e = absurd (omega arith)
  shown_over (x ∷ xs) rest (suc n) m e = on (counts x) refl (shown_over xs rest n m) (shown_over xs rest (suc n) m) where
    on : (b : Bool) → counts x ≡ b → (n ≡ count_by counts xs + suc m → shown counts n (xs ++ rest) ≡ xs ++ shown counts (suc m) rest)
        → (suc n ≡ count_by counts xs + suc m → shown counts (suc n) (xs ++ rest) ≡ xs ++ shown counts (suc m) rest) → shown counts (suc n) (x ∷ (xs ++ rest)) ≡ x ∷ (xs ++ shown counts (suc m) rest)
    on true c fewer same = let size : count_by counts (x ∷ xs) ≡ suc (count_by counts xs) = count_yes x xs c in shown_yes n x (xs ++ rest) c ∙ ap (λ ys. x ∷ ys) (fewer (omega arith))
    on false c fewer same = let size : count_by counts (x ∷ xs) ≡ count_by counts xs = count_no x xs c in shown_no n x (xs ++ rest) c ∙ ap (λ ys. x ∷ ys) (same (omega arith))

  unshown_over : (xs rest : List Token) (n m : ℕ) → n ≡ count_by counts xs + suc m → unshown counts n (xs ++ rest) ≡ unshown counts (suc m) rest
  unshown_over [] rest n m e = ap (λ k. unshown counts k rest) (at_first n m e)
  unshown_over (x ∷ xs) rest zero m e = absurd (omega arith)
  unshown_over (x ∷ xs) rest (suc n) m e = on (counts x) refl (unshown_over xs rest n m) (unshown_over xs rest (suc n) m) where
    on : (b : Bool) → counts x ≡ b → (n ≡ count_by counts xs + suc m → unshown counts n (xs ++ rest) ≡ unshown counts (suc m) rest)
        → (suc n ≡ count_by counts xs + suc m → unshown counts (suc n) (xs ++ rest) ≡ unshown counts (suc m) rest) → unshown counts (suc n) (x ∷ (xs ++ rest)) ≡ unshown counts (suc m) rest
    on true c fewer same = let size : count_by counts (x ∷ xs) ≡ suc (count_by counts xs) = count_yes x xs c in unshown_yes n x (xs ++ rest) c ∙ fewer (omega arith)
    on false c fewer same = let size : count_by counts (x ∷ xs) ≡ count_by counts xs = count_no x xs c in unshown_no n x (xs ++ rest) c ∙ same (omega arith)

  -- so many more count than in the front
  pub record Spare (n : ℕ) (xs : List Token) : Type 0 where
    pub spare : ℕ
    pub size : n ≡ count_by counts xs + suc spare

  -- behind a front that is shown with a token, at least one more is spare
  shown_before : (n : ℕ) (ts front : List Token) (t : Token) (left : List Token) → shown counts n ts ≡ front ++ (t ∷ left) → Spare n front
  shown_before n [] [] t left e = absurd (cc)
  shown_before n [] (x ∷ front) t left e = absurd (cc)
  shown_before zero (u ∷ ts) [] t left e = absurd (cc)
  shown_before zero (u ∷ ts) (x ∷ front) t left e = absurd (cc)
  shown_before (suc n) (u ∷ ts) [] t left e = record { spare = n; size = none_more (suc n) }
  shown_before (suc n) (u ∷ ts) (x ∷ front) t left e = on (counts u) refl (shown_before n ts front t left) (shown_before (suc n) ts front t left) where
    on : (b : Bool) → counts u ≡ b → (shown counts n ts ≡ front ++ (t ∷ left) → Spare n front) → (shown counts (suc n) ts ≡ front ++ (t ∷ left) → Spare (suc n) front) → Spare (suc n) (x ∷ front)
    on true c fewer same =
        let all : u ∷ shown counts n ts ≡ x ∷ (front ++ (t ∷ left)) = sym (shown_yes n u ts c) ∙ e in
        let head : u ≡ x = cc in let s : Spare n front = fewer (cc) in
        let size : count_by counts (x ∷ front) ≡ suc (count_by counts front) = count_yes x front (ap counts (sym head) ∙ c) in
        let small : n ≡ count_by counts front + suc s.spare = s.size in record { spare = s.spare; size = omega arith }
    on false c fewer same =
        let all : u ∷ shown counts (suc n) ts ≡ x ∷ (front ++ (t ∷ left)) = sym (shown_no n u ts c) ∙ e in
        let head : u ≡ x = cc in let s : Spare (suc n) front = same (cc) in
        let size : count_by counts (x ∷ front) ≡ count_by counts front = count_no x front (ap counts (sym head) ∙ c) in
        let small : suc n ≡ count_by counts front + suc s.spare = s.size in record { spare = s.spare; size = omega arith }

  -- where the last that is shown is one too many
  pub record Last (most : ℕ) (ts : List Token) : Type 0 where
    pub front : List Token
    pub token : Token
    pub is : shown counts (suc most) ts ≡ front ++ (token ∷ [])
    pub counted : counts token ≡ true
    pub before : count_by counts front ≡ most
    pub from : from_count counts most ts ≡ token ∷ unshown counts (suc most) ts

  from_yes : (t : Token) (ts : List Token) → counts t ≡ true → from_count counts 0 (t ∷ ts) ≡ t ∷ ts
  from_yes t ts e = rw e refl

  from_one_more : (n : ℕ) (t : Token) (ts : List Token) → counts t ≡ true → from_count counts (suc n) (t ∷ ts) ≡ from_count counts n ts
  from_one_more n t ts e = rw e refl

  from_no : (n : ℕ) (t : Token) (ts : List Token) → counts t ≡ false → from_count counts n (t ∷ ts) ≡ from_count counts n ts
  from_no zero t ts e = rw e refl
  from_no (suc n) t ts e = rw e refl

  last_shown : (most : ℕ) (ts : List Token) → count_by counts (shown counts (suc most) ts) ≡ suc most → Last most ts
  last_shown most [] e = absurd (omega arith)
  last_shown zero (t ∷ ts) e = on (counts t) refl (last_shown zero ts) where
    on : (b : Bool) → counts t ≡ b → (count_by counts (shown counts 1 ts) ≡ 1 → Last 0 ts) → Last 0 (t ∷ ts)
    on true c same = record {
      front = [];
      token = t;
      counted = c;
      before = refl;
      is = shown_yes 0 t ts c ∙ ap (λ ys. t ∷ ys) (shown_none ts);
      from = from_yes t ts c ∙ ap (λ ys. t ∷ ys) (sym (unshown_yes 0 t ts c ∙ unshown_all ts));
    }
    on false c same =
        let w = same (sym (count_no t (shown counts 1 ts) c) ∙ (ap (count_by counts) (sym (shown_no 0 t ts c)) ∙ e)) in record {
          front = t ∷ w.front;
          token = w.token;
          counted = w.counted;
          before = count_no t w.front c ∙ w.before;
          is = shown_no 0 t ts c ∙ ap (λ ys. t ∷ ys) w.is;
          from = from_no 0 t ts c ∙ (w.from ∙ ap (λ ys. w.token ∷ ys) (sym (unshown_no 0 t ts c)));
        }
  last_shown (suc most) (t ∷ ts) e = on (counts t) refl (last_shown most ts) (last_shown (suc most) ts) where
    on : (b : Bool) → counts t ≡ b → (count_by counts (shown counts (suc most) ts) ≡ suc most → Last most ts)
        → (count_by counts (shown counts (suc (suc most)) ts) ≡ suc (suc most) → Last (suc most) ts) → Last (suc most) (t ∷ ts)
    on true c fewer same =
        let size : suc (count_by counts (shown counts (suc most) ts)) ≡ suc (suc most) = sym (count_yes t (shown counts (suc most) ts) c) ∙ (ap (count_by counts) (sym (shown_yes (suc most) t ts c)) ∙ e) in
        let w = fewer (omega arith) in record {
          front = t ∷ w.front;
          token = w.token;
          counted = w.counted;
          before = count_yes t w.front c ∙ ap suc w.before;
          is = shown_yes (suc most) t ts c ∙ ap (λ ys. t ∷ ys) w.is;
          from = from_one_more most t ts c ∙ (w.from ∙ ap (λ ys. w.token ∷ ys) (sym (unshown_yes (suc most) t ts c)));
        }
    on false c fewer same =
        let w = same (sym (count_no t (shown counts (suc (suc most)) ts) c) ∙ (ap (count_by counts) (sym (shown_no (suc most) t ts c)) ∙ e)) in record {
          front = t ∷ w.front;
          token = w.token;
          counted = w.counted;
          before = count_no t w.front c ∙ w.before;
          is = shown_no (suc most) t ts c ∙ ap (λ ys. t ∷ ys) w.is;
          from = from_no (suc most) t ts c ∙ (w.from ∙ ap (λ ys. w.token ∷ ys) (sym (unshown_no (suc most) t ts c)));
        }

  -- where fewer are shown that count, all is shown
  shown_whole : (n : ℕ) (ts : List Token) → ((count_by counts (shown counts n ts) ≡ n) → ⊥) → Spare n ts
  shown_whole zero [] e = absurd (e refl)
  shown_whole (suc n) [] e = record { spare = n; size = none_more (suc n) }
  shown_whole zero (t ∷ ts) e = absurd (e refl)
  shown_whole (suc n) (t ∷ ts) e = on (counts t) refl (shown_whole n ts) (shown_whole (suc n) ts) where
    on : (b : Bool) → counts t ≡ b → (((count_by counts (shown counts n ts) ≡ n) → ⊥) → Spare n ts) → (((count_by counts (shown counts (suc n) ts) ≡ suc n) → ⊥) → Spare (suc n) ts) → Spare (suc n) (t ∷ ts)
    on true c fewer same =
        let s = fewer (λ full. e (ap (count_by counts) (shown_yes n t ts c) ∙ (count_yes t (shown counts n ts) c ∙ ap suc full))) in
        let size : count_by counts (t ∷ ts) ≡ suc (count_by counts ts) = count_yes t ts c in
        let small : n ≡ count_by counts ts + suc s.spare = s.size in record { spare = s.spare; size = omega arith }
    on false c fewer same =
        let s = same (λ full. e (ap (count_by counts) (shown_no n t ts c) ∙ (count_no t (shown counts (suc n) ts) c ∙ full))) in
        let size : count_by counts (t ∷ ts) ≡ count_by counts ts = count_no t ts c in
        let small : suc n ≡ count_by counts ts + suc s.spare = s.size in record { spare = s.spare; size = omega arith }

  -- the first that is one too many, in a list that has so many
  pub record TooMany (most : ℕ) (xs : List Token) : Type 0 where
    pub front : List Token
    pub token : Token
    pub more : List Token
    pub split : xs ≡ front ++ (token ∷ more)
    pub counted : counts token ≡ true
    pub before : count_by counts front ≡ most

  pub many_or_spare : (most : ℕ) (xs : List Token) → Spare (suc most) xs ⊎ TooMany most xs
  many_or_spare most [] = inl (record { spare = most; size = none_more (suc most) })
  many_or_spare zero (x ∷ xs) = on (counts x) refl (many_or_spare zero xs) where
    on : (b : Bool) → counts x ≡ b → Spare 1 xs ⊎ TooMany 0 xs → Spare 1 (x ∷ xs) ⊎ TooMany 0 (x ∷ xs)
    on true c w = inr (record { front = []; token = x; more = xs; split = refl; counted = c; before = refl })
    on false c (inl s) = inl (record { spare = s.spare; size = s.size ∙ ap (λ n. n + suc s.spare) (sym (count_no x xs c)) })
    on false c (inr w) = inr (record { front = x ∷ w.front; token = w.token; more = w.more; split = ap (λ ys. x ∷ ys) w.split; counted = w.counted; before = count_no x w.front c ∙ w.before })
  many_or_spare (suc most) (x ∷ xs) = on (counts x) refl (many_or_spare most xs) (many_or_spare (suc most) xs) where
    on : (b : Bool) → counts x ≡ b → Spare (suc most) xs ⊎ TooMany most xs → Spare (suc (suc most)) xs ⊎ TooMany (suc most) xs → Spare (suc (suc most)) (x ∷ xs) ⊎ TooMany (suc most) (x ∷ xs)
    on true c (inl s) w = let all : count_by counts (x ∷ xs) ≡ suc (count_by counts xs) = count_yes x xs c in let size : suc most ≡ count_by counts xs + suc s.spare = s.size in inl (record { spare = s.spare; size = omega arith })
    on true c (inr u) w = inr (record { front = x ∷ u.front; token = u.token; more = u.more; split = ap (λ ys. x ∷ ys) u.split; counted = u.counted; before = count_yes x u.front c ∙ ap suc u.before })
    on false c u (inl s) = inl (record { spare = s.spare; size = s.size ∙ ap (λ n. n + suc s.spare) (sym (count_no x xs c)) })
    on false c u (inr w) = inr (record { front = x ∷ w.front; token = w.token; more = w.more; split = ap (λ ys. x ∷ ys) w.split; counted = w.counted; before = count_no x w.front c ∙ w.before })

  -- up to the one that is one too many, all is shown
  shown_up_to : (most : ℕ) (front : List Token) (t : Token) (other : List Token) → counts t ≡ true → count_by counts front ≡ most → shown counts (suc most) (front ++ (t ∷ other)) ≡ front ++ (t ∷ [])
  shown_up_to most front t other c e =
      shown_over front (t ∷ other) (suc most) 0 (omega arith) ∙ ap (λ ys. front ++ ys) (shown_yes 0 t other c ∙ ap (λ ys. t ∷ ys) (shown_none other))

  from_over : (most : ℕ) (front : List Token) (t : Token) (other : List Token) → counts t ≡ true → count_by counts front ≡ most → from_count counts most (front ++ (t ∷ other)) ≡ t ∷ other
  from_over most [] t other c e = ap (λ n. from_count counts n (t ∷ other)) (sym e) ∙ from_yes t other c
  from_over most (x ∷ front) t other c e = on (counts x) refl most e (λ n. from_over n front t other c) where
    on : (b : Bool) → counts x ≡ b → (n : ℕ) → count_by counts (x ∷ front) ≡ n → ((m : ℕ) → count_by counts front ≡ m → from_count counts m (front ++ (t ∷ other)) ≡ t ∷ other)
        → from_count counts n (x ∷ (front ++ (t ∷ other))) ≡ t ∷ other
    on true d zero full more = let size : count_by counts (x ∷ front) ≡ suc (count_by counts front) = count_yes x front d in absurd (omega arith)
    on true d (suc n) full more = let size : count_by counts (x ∷ front) ≡ suc (count_by counts front) = count_yes x front d in from_one_more n x (front ++ (t ∷ other)) d ∙ more n (omega arith)
    on false d zero full more = from_no 0 x (front ++ (t ∷ other)) d ∙ more 0 (sym (count_no x front d) ∙ full)
    on false d (suc n) full more = from_no (suc n) x (front ++ (t ∷ other)) d ∙ more (suc n) (sym (count_no x front d) ∙ full)

all_but_last : Token → List Token → List Token
all_but_last t [] = []
all_but_last t (u ∷ more) = t ∷ all_but_last u more

last_off : (front : List Token) (o : Token) (xs : List Token) (t : Token) (more : List Token) → front ++ (o ∷ []) ≡ xs ++ (t ∷ more) → front ≡ xs ++ all_but_last t more
unfolding all_but_last
last_off [] o [] t [] e = refl
last_off [] o [] t (u ∷ more) e = absurd (cc)
last_off [] o (x ∷ []) t more e = absurd (cc)
last_off [] o (x ∷ y ∷ xs) t more e = absurd (cc)
last_off (f ∷ front) o [] t [] e = absurd (too_short front o (cc)) where
  too_short : (ys : List Token) (o : Token) → ys ++ (o ∷ []) ≡ [] → ⊥
  too_short [] o e = absurd (cc)
  too_short (y ∷ ys) o e = absurd (cc)
last_off (f ∷ front) o [] t (u ∷ more) e = let head : f ≡ t = cc in let rest : front ≡ all_but_last u more = last_off front o [] u more (cc) in cc
last_off (f ∷ front) o (x ∷ xs) t more e = let head : f ≡ x = cc in let rest : front ≡ xs ++ all_but_last t more = last_off front o xs t more (cc) in cc

-- a limit is passed in a part, or at the token that is one too many
pub data CountedDeep {A : Type 0} (counts : Token → Bool) (most : ℕ) (U : List Token → A → Type 0) (B : List Token → Token → Type 0) (xs : List Token) (t : Token) : Type 0 where
  in_part : B xs t → CountedDeep counts most U B xs t
  one_more : count_by counts xs ≡ most → counts t ≡ true → Viable U (xs ++ (t ∷ [])) → CountedDeep counts most U B xs t

module _ {A : Type 0} (counts : Token → Bool) (most : ℕ) {f : List Token → Result (A × List Token) Stop} {U : List Token → A → Type 0} {B : List Token → Token → Type 0} {goes : Token → Bool} (part : Exact f U B goes) where
  abbrev read : List Token → Result (A × List Token) Stop
  read = read_counted counts most f

  abbrev Deeper : List Token → Token → Type 0
  Deeper = CountedDeep counts most U B

  rest_shown : (m : ℕ) (t : Token) (other : List Token) → t ∷ (shown counts (if counts t then m else suc m) other ++ unshown counts (if counts t then m else suc m) other) ≡ t ∷ other
  rest_shown m t other = ap (λ ys. t ∷ ys) (sym (shown_all counts (if counts t then m else suc m) other))

  -- what is told behind a front with a token is told of all
  over_told : (front : List Token) (t : Token) (other : List Token) (s : Spare counts (suc most) front)
      → read (front ++ (t ∷ other)) ≡ counted_told counts most (front ++ (t ∷ other)) (f (front ++ (t ∷ shown counts (if counts t then s.spare else suc s.spare) other)))
  over_told front t other s = ap (λ ys. counted_told counts most (front ++ (t ∷ other)) (f ys)) (shown_over counts front (t ∷ other) (suc most) s.spare s.size)

  over_unshown : (front : List Token) (t : Token) (other : List Token) (s : Spare counts (suc most) front) → unshown counts (suc most) (front ++ (t ∷ other)) ≡ unshown counts (if counts t then s.spare else suc s.spare) other
  over_unshown front t other s = unshown_over counts front (t ∷ other) (suc most) s.spare s.size

  over_ok : (front : List Token) (t : Token) (value : A) → Spare counts (suc most) front → ((other : List Token) → f (front ++ (t ∷ other)) ≡ Ok (value, t ∷ other))
      → (other : List Token) → read (front ++ (t ∷ other)) ≡ Ok (value, t ∷ other)
  over_ok front t value s told other =
      let m : ℕ = if counts t then s.spare else suc s.spare in
      over_told front t other s
      ∙ (ap (counted_told counts most (front ++ (t ∷ other))) (told (shown counts m other))
      ∙ (ap (λ ys. Ok (value, t ∷ (shown counts m other ++ ys))) (over_unshown front t other s) ∙ ap (λ ys. Ok (value, ys)) (rest_shown s.spare t other)))

  over_syntax : (front : List Token) (t : Token) → Spare counts (suc most) front → ((other : List Token) → f (front ++ (t ∷ other)) ≡ Err (Syntax (t ∷ other)))
      → (other : List Token) → read (front ++ (t ∷ other)) ≡ Err (Syntax (t ∷ other))
  over_syntax front t s told other =
      let m : ℕ = if counts t then s.spare else suc s.spare in
      over_told front t other s
      ∙ (ap (counted_told counts most (front ++ (t ∷ other))) (told (shown counts m other))
      ∙ (ap (λ ys. Err (Syntax (t ∷ (shown counts m other ++ ys)))) (over_unshown front t other s) ∙ ap (λ ys. Err (Syntax ys)) (rest_shown s.spare t other)))

  over_deep : (front : List Token) (t : Token) → Spare counts (suc most) front → ((other : List Token) → f (front ++ (t ∷ other)) ≡ Err (Deep (t ∷ other)))
      → (other : List Token) → read (front ++ (t ∷ other)) ≡ Err (Deep (t ∷ other))
  over_deep front t s told other =
      let m : ℕ = if counts t then s.spare else suc s.spare in
      over_told front t other s
      ∙ (ap (counted_told counts most (front ++ (t ∷ other))) (told (shown counts m other))
      ∙ (ap (λ ys. Err (Deep (t ∷ (shown counts m other ++ ys)))) (over_unshown front t other s) ∙ ap (λ ys. Err (Deep ys)) (rest_shown s.spare t other)))

  -- at the end of the tokens
  not_full : (front : List Token) → Spare counts (suc most) front → passed counts most front [] ≡ false
  not_full front s =
      let all : shown counts (suc most) front ≡ front = ap (shown counts (suc most)) (sym (append-nil front)) ∙ (shown_over counts front [] (suc most) s.spare s.size ∙ append-nil front) in
      let size : suc most ≡ count_by counts front + suc s.spare = s.size in
      let less : (count_by counts front == suc most) ≡ false = grind (arith, nat_tests) in
      ap (λ ys. count_by counts ys == suc most) all ∙ less

  none_unshown : (front : List Token) → Spare counts (suc most) front → unshown counts (suc most) front ≡ []
  none_unshown front s = ap (unshown counts (suc most)) (sym (append-nil front)) ∙ unshown_over counts front [] (suc most) s.spare s.size

  all_shown : (front : List Token) → Spare counts (suc most) front → shown counts (suc most) front ≡ front
  all_shown front s = ap (shown counts (suc most)) (sym (append-nil front)) ∙ (shown_over counts front [] (suc most) s.spare s.size ∙ append-nil front)

  ok_at_end : (ts : List Token) (value : A) → passed counts most ts [] ≡ false → unshown counts (suc most) ts ≡ [] → counted_told counts most ts (Ok (value, [])) ≡ Ok (value, [])
  ok_at_end ts value e none = rw e (rw none refl)

  syntax_at_end : (ts : List Token) → passed counts most ts [] ≡ false → unshown counts (suc most) ts ≡ [] → counted_told {A = A} counts most ts (Err (Syntax [])) ≡ Err (Syntax [])
  syntax_at_end ts e none = rw e (rw none refl)

  end_ok : (front : List Token) (value : A) → Spare counts (suc most) front → f front ≡ Ok (value, []) → read front ≡ Ok (value, [])
  end_ok front value s told =
      ap (λ ys. counted_told counts most front (f ys)) (all_shown front s)
      ∙ (ap (counted_told counts most front) told ∙ ok_at_end front value (not_full front s) (none_unshown front s))

  end_syntax : (front : List Token) → Spare counts (suc most) front → f front ≡ Err (Syntax []) → read front ≡ Err (Syntax [])
  end_syntax front s told =
      ap (λ ys. counted_told counts most front (f ys)) (all_shown front s)
      ∙ (ap (counted_told counts most front) told ∙ syntax_at_end front (not_full front s) (none_unshown front s))

  -- fewer count in a front
  spare_front : (xs ys : List Token) → Spare counts (suc most) (xs ++ ys) → Spare counts (suc most) xs
  spare_front xs ys s =
      let all : count_by counts (xs ++ ys) ≡ count_by counts xs + count_by counts ys = count_append counts xs ys in
      let size : suc most ≡ count_by counts (xs ++ ys) + suc s.spare = s.size in record { spare = count_by counts ys + s.spare; size = omega arith }

  spare_of : (front : List Token) (t : Token) (more xs : List Token) → xs ≡ front ++ (t ∷ more) → Spare counts (suc most) xs → Spare counts (suc most) front
  spare_of front t more xs e s = spare_front front (t ∷ more) (subst (Spare counts (suc most)) e s)

  -- a front before the last token is a front of what stands before it
  before_last : (front : List Token) (o : Token) (xs : List Token) (t : Token) (more : List Token) → front ++ (o ∷ []) ≡ xs ++ (t ∷ more) → Spare counts (suc most) front → Spare counts (suc most) xs
  before_last front o xs t more e s = spare_front xs (all_but_last t more) (subst (Spare counts (suc most)) (last_off front o xs t more e) s)

  counted_sinks : (xs : List Token) → (s : Sinks f B xs) → Spare counts (suc most) s.front → Sinks read Deeper xs
  counted_sinks xs s small = record { front = s.front; token = s.token; more = s.more; split = s.split; deep = in_part s.deep; steady = over_deep s.front s.token small s.steady }

  sinks_more : (xs more : List Token) → Sinks read Deeper xs → Sinks read Deeper (xs ++ more)
  sinks_more xs more s = record {
    front = s.front;
    token = s.token;
    more = s.more ++ more;
    deep = s.deep;
    steady = s.steady;
    split = ap (λ ys. ys ++ more) s.split ∙ append_assoc s.front (s.token ∷ s.more) more;
  }

  exactly : (front : List Token) → count_by counts front ≡ most → Spare counts (suc most) front
  exactly front e = record { spare = 0; size = omega arith }

  -- where reading took all up to the token that is one too many, the limit is passed there
  full : (front : List Token) (o : Token) (other : List Token) → counts o ≡ true → count_by counts front ≡ most → passed counts most (front ++ (o ∷ other)) [] ≡ true
  full front o other c e =
      let one : count_by counts (front ++ (o ∷ [])) ≡ count_by counts front + count_by counts (o ∷ []) = count_append counts front (o ∷ []) in
      let two : count_by counts (o ∷ []) ≡ suc (count_by counts []) = count_yes counts o [] c in
      let three : count_by counts [] ≡ 0 = refl in
      let size : count_by counts (front ++ (o ∷ [])) ≡ suc most = omega arith in
      ap (λ ys. count_by counts ys == suc most) (shown_up_to counts most front o other c e) ∙ (ap (λ n. n == suc most) size ∙ same_number (suc most)) where
        same_number : (n : ℕ) → (n == n) ≡ true
        same_number n = grind (arith, nat_tests)

  ends_ok : (ts : List Token) (value : A) (place : List Token) → passed counts most ts [] ≡ true → from_count counts most ts ≡ place → counted_told counts most ts (Ok (value, [])) ≡ Err (Deep place)
  ends_ok ts value place e at = rw e (rw at refl)

  ends_syntax : (ts place : List Token) → passed counts most ts [] ≡ true → from_count counts most ts ≡ place → counted_told {A = A} counts most ts (Err (Syntax [])) ≡ Err (Deep place)
  ends_syntax ts place e at = rw e (rw at refl)

  up_to : (front : List Token) (o : Token) → counts o ≡ true → count_by counts front ≡ most → (other : List Token) → read (front ++ (o ∷ other)) ≡ counted_told counts most (front ++ (o ∷ other)) (f (front ++ (o ∷ [])))
  up_to front o c e other = ap (λ ys. counted_told counts most (front ++ (o ∷ other)) (f ys)) (shown_up_to counts most front o other c e)

  whole_told : (xs : List Token) (value : A) → U xs value → (f xs ≡ Ok (value, [])) ⊎ Sinks f B xs
  whole_told xs value w = from (part.again xs value w) where
    from : ((rest : List Token) → begins goes rest ≡ false → f (xs ++ rest) ≡ Ok (value, rest)) ⊎ Sinks f B xs → (f xs ≡ Ok (value, [])) ⊎ Sinks f B xs
    from (inl told) = inl (ap f (sym (append-nil xs)) ∙ told [] refl)
    from (inr s) = inr s

  not_stopped : (xs : List Token) (value : A) → U xs value → (t : Token) (left : List Token) → f xs ≡ Err (Syntax (t ∷ left)) → ⊥
  not_stopped xs value w t left told = from (whole_told xs value w) where
    from : (f xs ≡ Ok (value, [])) ⊎ Sinks f B xs → ⊥
    from (inl e) = absurd (cc)
    from (inr s) = let deep : f xs ≡ Err (Deep (s.token ∷ s.more)) = ap f s.split ∙ s.steady s.more in absurd (cc)

  not_left : (xs : List Token) (value other : A) → U xs value → (t : Token) (left : List Token) → f xs ≡ Ok (other, t ∷ left) → ⊥
  not_left xs value other w t left told = from (whole_told xs value w) where
    from : (f xs ≡ Ok (value, [])) ⊎ Sinks f B xs → ⊥
    from (inl e) =
        let p : A × List Token = (value, []) in let q : A × List Token = (other, t ∷ left) in
        let same : p ≡ q = ok_is (f xs) p q e told in let none : [] ≡ t ∷ left = ap (λ (r : A × List Token). r.1) same in absurd (cc)
    from (inr s) = let deep : f xs ≡ Err (Deep (s.token ∷ s.more)) = ap f s.split ∙ s.steady s.more in absurd (cc)

  behind_all : (front : List Token) (o : Token) (more xs : List Token) (t : Token) (left : List Token) → front ++ (o ∷ []) ≡ xs ++ (t ∷ left) → front ++ (o ∷ more) ≡ xs ++ (t ∷ (left ++ more))
  behind_all front o more xs t left e = sym (append_assoc front (o ∷ []) more) ∙ (ap (λ ys. ys ++ more) e ∙ append_assoc xs (t ∷ left) more)

  -- a text with one too many passes the limit there, or before
  over_limit : (front : List Token) (o : Token) (more : List Token) (value : A) → U (front ++ (o ∷ more)) value → counts o ≡ true → count_by counts front ≡ most → Sinks read Deeper (front ++ (o ∷ []))
  over_limit front o more value w c e = on (f (front ++ (o ∷ []))) refl (part.reads (front ++ (o ∷ []))) where
    begun : Viable U (front ++ (o ∷ []))
    begun = record { more = more; value = value; member = subst (λ ys. U ys value) (sym (append_assoc front (o ∷ []) more)) w }

    here : ((other : List Token) → read (front ++ (o ∷ other)) ≡ Err (Deep (o ∷ other))) → Sinks read Deeper (front ++ (o ∷ []))
    here steady = record { front = front; token = o; more = []; split = refl; deep = one_more e c begun; steady = steady }

    on : (r : Result (A × List Token) Stop) → f (front ++ (o ∷ [])) ≡ r → IsRead f U B (front ++ (o ∷ [])) r → Sinks read Deeper (front ++ (o ∷ []))
    on (Ok (v, [])) told u = here (λ other. up_to front o c e other ∙ (ap (counted_told counts most (front ++ (o ∷ other))) told ∙ ends_ok (front ++ (o ∷ other)) v (o ∷ other) (full front o other c e) (from_over counts most front o other c e)))
    on (Ok (v, t ∷ left)) told u =
        absurd (not_left (front ++ (o ∷ more)) value v w t (left ++ more) (ap f (behind_all front o more u.front t left u.split) ∙ u.steady (t ∷ (left ++ more)) refl))
    on (Err (Syntax [])) told u = here (λ other. up_to front o c e other ∙ (ap (counted_told counts most (front ++ (o ∷ other))) told ∙ ends_syntax (front ++ (o ∷ other)) (o ∷ other) (full front o other c e) (from_over counts most front o other c e)))
    on (Err (Syntax (t ∷ left))) told u =
        absurd (not_stopped (front ++ (o ∷ more)) value w t (left ++ more) (ap f (behind_all front o more u.front t left u.split) ∙ u.steady (t ∷ (left ++ more)) refl))
    on (Err (Deep place)) told u =
        let s = part.sinks u.front u.token u.deep in
        let all : front ++ (o ∷ []) ≡ s.front ++ (s.token ∷ (s.more ++ u.behind))
        = u.split ∙ (ap (λ ys. u.front ++ ys) u.at ∙ (sym (append_assoc u.front (u.token ∷ []) u.behind) ∙ (ap (λ ys. ys ++ u.behind) s.split ∙ append_assoc s.front (s.token ∷ s.more) u.behind))) in
        let here : Sinks f B (front ++ (o ∷ [])) = record { front = s.front; token = s.token; more = s.more ++ u.behind; split = all; deep = s.deep; steady = s.steady } in
        counted_sinks (front ++ (o ∷ [])) here (before_last front o s.front s.token (s.more ++ u.behind) all (exactly front e))

  not_full_whole : (ts : List Token) → passed counts most ts [] ≡ false → Spare counts (suc most) ts
  not_full_whole ts e = shown_whole counts (suc most) ts (λ full. let no_way : passed counts most ts [] ≡ true = ap (λ n. n == suc most) full ∙ same_number (suc most) in absurd (cc)) where
    same_number : (n : ℕ) → (n == n) ≡ true
    same_number n = grind (arith, nat_tests)

  full_last : (ts : List Token) → passed counts most ts [] ≡ true → Last counts most ts
  full_last ts e = last_shown counts most ts (number (count_by counts (shown counts (suc most) ts)) e) where
    number : (n : ℕ) → (n == suc most) ≡ true → n ≡ suc most
    number n e = grind (arith, nat_tests)

  -- what was read to the token that is one too many
  sunk_at_last : (ts : List Token) → Viable U (shown counts (suc most) ts) → passed counts most ts [] ≡ true → Sunk Deeper ts (from_count counts most ts)
  sunk_at_last ts viable e = let w = full_last ts e in record {
    front = w.front;
    token = w.token;
    behind = unshown counts (suc most) ts;
    at = w.from;
    split = shown_all counts (suc most) ts ∙ (ap (λ ys. ys ++ unshown counts (suc most) ts) w.is ∙ (append_assoc w.front (w.token ∷ []) (unshown counts (suc most) ts) ∙ ap (λ ys. w.front ++ ys) (sym w.from)));
    deep = one_more w.before w.counted (subst (λ ys. Viable U ys) w.is viable);
  }

  all_split : (ts front place : List Token) → shown counts (suc most) ts ≡ front ++ place → ts ≡ front ++ (place ++ unshown counts (suc most) ts)
  all_split ts front place e = shown_all counts (suc most) ts ∙ (ap (λ ys. ys ++ unshown counts (suc most) ts) e ∙ append_assoc front place (unshown counts (suc most) ts))

  steady_ok : (front : List Token) (value : A) (t : Token) (left behind : List Token) → Spare counts (suc most) front → ((other : List Token) → AtSame (t ∷ left) other → f (front ++ other) ≡ Ok (value, other))
      → (other : List Token) → AtSame (t ∷ behind) other → read (front ++ other) ≡ Ok (value, other)
  steady_ok front value t left behind s told [] same = ap read (append-nil front) ∙ end_ok front value s (ap f (sym (append-nil front)) ∙ told [] same)
  steady_ok front value t left behind s told (u ∷ other) same =
      over_ok front u value s (λ ys. told (u ∷ ys) same) other

  steady_syntax : (front : List Token) (t : Token) (left behind : List Token) → Spare counts (suc most) front → ((other : List Token) → AtSame (t ∷ left) other → f (front ++ other) ≡ Err (Syntax other))
      → (other : List Token) → AtSame (t ∷ behind) other → read (front ++ other) ≡ Err (Syntax other)
  steady_syntax front t left behind s told [] same = ap read (append-nil front) ∙ end_syntax front s (ap f (sym (append-nil front)) ∙ told [] same)
  steady_syntax front t left behind s told (u ∷ other) same = over_syntax front u s (λ ys. told (u ∷ ys) same) other

  ok_told : (ts : List Token) (value : A) (left : List Token) → Taken f U (shown counts (suc most) ts) value left → IsRead read U Deeper ts (counted_told counts most ts (Ok (value, left)))
  ok_told ts value (t ∷ left) w = let s = shown_before counts (suc most) ts w.front t left w.split in record {
    front = w.front;
    split = all_split ts w.front (t ∷ left) w.split;
    whole = w.whole;
    steady = steady_ok w.front value t left (left ++ unshown counts (suc most) ts) s w.steady;
  }
  ok_told ts value [] w = on (passed counts most ts []) refl where
    all : shown counts (suc most) ts ≡ w.front
    all = w.split ∙ append-nil w.front

    at_end : Spare counts (suc most) ts → Taken read U ts value []
    at_end s =
        let same : ts ≡ w.front = sym (all_shown ts s) ∙ all in
        let small : Spare counts (suc most) w.front = subst (Spare counts (suc most)) same s in record {
          front = w.front;
          split = same ∙ sym (append-nil w.front);
          whole = w.whole;
          steady = ends small;
        } where
          ends : Spare counts (suc most) w.front → (other : List Token) → AtSame [] other → read (w.front ++ other) ≡ Ok (value, other)
          ends small [] same = ap read (append-nil w.front) ∙ end_ok w.front value small (ap f (sym (append-nil w.front)) ∙ w.steady [] (record {}))
          ends small (u ∷ other) same = absurd same

    on : (b : Bool) → passed counts most ts [] ≡ b → IsRead read U Deeper ts (counted_told counts most ts (Ok (value, [])))
    on true e = subst (λ r. IsRead read U Deeper ts r) (sym (ends_ok ts value (from_count counts most ts) e refl))
        (sunk_at_last ts (record { more = []; value = value; member = subst (λ ys. U ys value) (sym (append-nil (shown counts (suc most) ts) ∙ all)) w.whole }) e)
    on false e = let s = not_full_whole ts e in subst (λ r. IsRead read U Deeper ts r) (sym (ok_at_end ts value e (none_unshown ts s))) (at_end s)

  syntax_told : (ts place : List Token) → Stopped f U (shown counts (suc most) ts) place → IsRead read U Deeper ts (counted_told counts most ts (Err (Syntax place)))
  syntax_told ts (t ∷ left) w = let s = shown_before counts (suc most) ts w.front t left w.split in record {
    front = w.front;
    split = all_split ts w.front (t ∷ left) w.split;
    viable = w.viable;
    steady = steady_syntax w.front t left (left ++ unshown counts (suc most) ts) s w.steady;
  }
  syntax_told ts [] w = on (passed counts most ts []) refl where
    all : shown counts (suc most) ts ≡ w.front
    all = w.split ∙ append-nil w.front

    at_end : Spare counts (suc most) ts → Stopped read U ts []
    at_end s =
        let same : ts ≡ w.front = sym (all_shown ts s) ∙ all in
        let small : Spare counts (suc most) w.front = subst (Spare counts (suc most)) same s in record {
          front = w.front;
          split = same ∙ sym (append-nil w.front);
          viable = w.viable;
          steady = ends small;
        } where
          ends : Spare counts (suc most) w.front → (other : List Token) → AtSame [] other → read (w.front ++ other) ≡ Err (Syntax other)
          ends small [] same = ap read (append-nil w.front) ∙ end_syntax w.front small (ap f (sym (append-nil w.front)) ∙ w.steady [] (record {}))
          ends small (u ∷ other) same = absurd same

    on : (b : Bool) → passed counts most ts [] ≡ b → IsRead read U Deeper ts (counted_told counts most ts (Err (Syntax [])))
    on true e = subst (λ r. IsRead read U Deeper ts r) (sym (ends_syntax ts (from_count counts most ts) e refl)) (sunk_at_last ts (subst (λ ys. Viable U ys) (sym all) w.viable) e)
    on false e = let s = not_full_whole ts e in subst (λ r. IsRead read U Deeper ts r) (sym (syntax_at_end ts e (none_unshown ts s))) (at_end s)

  counted_read : (ts : List Token) (r : Result (A × List Token) Stop) → IsRead f U B (shown counts (suc most) ts) r → IsRead read U Deeper ts (counted_told counts most ts r)
  counted_read ts (Ok p) w = ok_told ts p.0 p.1 w
  counted_read ts (Err (Syntax place)) w = syntax_told ts place w
  counted_read ts (Err (Deep place)) w = record {
    front = w.front;
    token = w.token;
    behind = w.behind ++ unshown counts (suc most) ts;
    at = ap (λ ys. ys ++ unshown counts (suc most) ts) w.at;
    split = all_split ts w.front place w.split;
    deep = in_part w.deep;
  }

  counted_again : (xs : List Token) (value : A) → U xs value → ((rest : List Token) → begins goes rest ≡ false → read (xs ++ rest) ≡ Ok (value, rest)) ⊎ Sinks read Deeper xs
  counted_again xs value w = on (many_or_spare counts most xs) (part.again xs value w) where
    on : Spare counts (suc most) xs ⊎ TooMany counts most xs → ((rest : List Token) → begins goes rest ≡ false → f (xs ++ rest) ≡ Ok (value, rest)) ⊎ Sinks f B xs
        → ((rest : List Token) → begins goes rest ≡ false → read (xs ++ rest) ≡ Ok (value, rest)) ⊎ Sinks read Deeper xs
    on (inl s) (inl told) = inl go where
      go : (rest : List Token) → begins goes rest ≡ false → read (xs ++ rest) ≡ Ok (value, rest)
      go [] free = ap read (append-nil xs) ∙ end_ok xs value s (ap f (sym (append-nil xs)) ∙ told [] refl)
      go (t ∷ rest) free = over_ok xs t value s (λ other. told (t ∷ other) free) rest
    on (inl s) (inr u) = inr (counted_sinks xs u (spare_of u.front u.token u.more xs u.split s))
    on (inr m) told = inr (subst (λ ys. Sinks read Deeper ys) (sym (m.split ∙ sym (append_assoc m.front (m.token ∷ []) m.more)))
        (sinks_more (m.front ++ (m.token ∷ [])) m.more (over_limit m.front m.token m.more value (subst (λ ys. U ys value) m.split w) m.counted m.before)))

  counted_sinks_at : (xs : List Token) (t : Token) → Deeper xs t → Sinks read Deeper (xs ++ (t ∷ []))
  counted_sinks_at xs t (one_more e c v) = over_limit xs t v.more v.value (subst (λ ys. U ys v.value) (append_assoc xs (t ∷ []) v.more) v.member) c e
  counted_sinks_at xs t (in_part w) = on (part.sinks xs t w) (part.begun xs t w) where
    behind : (s : Sinks f B (xs ++ (t ∷ []))) → Viable U (xs ++ (t ∷ [])) → Spare counts (suc most) s.front ⊎ TooMany counts most s.front → Sinks read Deeper (xs ++ (t ∷ []))
    behind s v (inl small) = counted_sinks (xs ++ (t ∷ [])) s small
    behind s v (inr m) =
        let rest : List Token = m.more ++ (s.token ∷ s.more) in
        let all : xs ++ (t ∷ []) ≡ (m.front ++ (m.token ∷ [])) ++ rest
        = s.split ∙ (ap (λ ys. ys ++ (s.token ∷ s.more)) m.split ∙ (append_assoc m.front (m.token ∷ m.more) (s.token ∷ s.more) ∙ sym (append_assoc m.front (m.token ∷ []) rest))) in
        let member : U (m.front ++ (m.token ∷ (rest ++ v.more))) v.value
        = subst (λ ys. U ys v.value) (ap (λ ys. ys ++ v.more) all ∙ (append_assoc (m.front ++ (m.token ∷ [])) rest v.more ∙ append_assoc m.front (m.token ∷ []) (rest ++ v.more))) v.member in
        subst (λ ys. Sinks read Deeper ys) (sym all) (sinks_more (m.front ++ (m.token ∷ [])) rest (over_limit m.front m.token (rest ++ v.more) v.value member m.counted m.before))

    on : (s : Sinks f B (xs ++ (t ∷ []))) → Viable U (xs ++ (t ∷ [])) → Sinks read Deeper (xs ++ (t ∷ []))
    on s v = behind s v (many_or_spare counts most s.front)

  counted_begun : (xs : List Token) (t : Token) → Deeper xs t → Viable U (xs ++ (t ∷ []))
  counted_begun xs t (one_more e c v) = v
  counted_begun xs t (in_part w) = part.begun xs t w

  pub exact_counted : Exact (read_counted counts most f) U (CountedDeep counts most U B) goes
  exact_counted = record { reads = λ ts. counted_read ts (f (shown counts (suc most) ts)) (part.reads (shown counts (suc most) ts)); again = counted_again; sinks = counted_sinks_at; begun = counted_begun }

-- what begins a part begins it also where its tokens are counted
pub begun_counted : {A : Type 0} (counts : Token → Bool) (most : ℕ) {f : List Token → Result (A × List Token) Stop} {starts : Token → Bool} → Begun f starts → Begun (read_counted counts most f) starts
begun_counted {A} counts most {f} {starts} first = record { accepts = λ t rest s told. accepted t rest s (f (shown counts (suc most) (t ∷ rest))) refl told; refuses = refused } where
  shown_first : (t : Token) (rest : List Token) → shown counts (suc most) (t ∷ rest) ≡ t ∷ shown counts (if counts t then most else suc most) rest
  shown_first t rest = refl

  syntax_is : (r : Result (A × List Token) Stop) (place other : List Token) → r ≡ Err (Syntax place) → r ≡ Err (Syntax other) → place ≡ other
  syntax_is r place other e e' = cc

  from_place : (t : Token) (rest place : List Token) → starts t ≡ true → f (shown counts (suc most) (t ∷ rest)) ≡ Err (Syntax place) → place ++ unshown counts (suc most) (t ∷ rest) ≡ t ∷ rest → ⊥
  from_place t rest place s e same =
      let all : place ≡ shown counts (suc most) (t ∷ rest) = append_cancel_right place (shown counts (suc most) (t ∷ rest)) (unshown counts (suc most) (t ∷ rest)) (same ∙ shown_all counts (suc most) (t ∷ rest)) in
      first.accepts t (shown counts (if counts t then most else suc most) rest) s (e ∙ ap (λ ys. Err (Syntax ys)) all)

  not_deep : (t : Token) (rest place : List Token) (b : Bool) → passed counts most (t ∷ rest) place ≡ b → starts t ≡ true → f (shown counts (suc most) (t ∷ rest)) ≡ Err (Syntax place)
      → counted_told {A = A} counts most (t ∷ rest) (Err (Syntax place)) ≡ Err (Syntax (t ∷ rest)) → ⊥
  not_deep t rest place true p s e told =
      let deep : counted_told {A = A} counts most (t ∷ rest) (Err (Syntax place)) ≡ Err (Deep (from_count counts most (t ∷ rest))) = rw p refl in absurd (cc)
  not_deep t rest place false p s e told =
      let same : counted_told {A = A} counts most (t ∷ rest) (Err (Syntax place)) ≡ Err (Syntax (place ++ unshown counts (suc most) (t ∷ rest))) = rw p refl in
      from_place t rest place s e (syntax_is (counted_told counts most (t ∷ rest) (Err (Syntax place))) (place ++ unshown counts (suc most) (t ∷ rest)) (t ∷ rest) same told)

  not_read : (t : Token) (rest : List Token) (p : A × List Token) (b : Bool) → passed counts most (t ∷ rest) p.1 ≡ b → counted_told counts most (t ∷ rest) (Ok p) ≡ Err (Syntax (t ∷ rest)) → ⊥
  not_read t rest p true e told = let deep : counted_told counts most (t ∷ rest) (Ok p) ≡ Err (Deep (from_count counts most (t ∷ rest))) = rw e refl in absurd (cc)
  not_read t rest p false e told = let same : counted_told counts most (t ∷ rest) (Ok p) ≡ Ok (p.0, p.1 ++ unshown counts (suc most) (t ∷ rest)) = rw e refl in absurd (cc)

  accepted : (t : Token) (rest : List Token) → starts t ≡ true → (r : Result (A × List Token) Stop) → f (shown counts (suc most) (t ∷ rest)) ≡ r → counted_told counts most (t ∷ rest) r ≡ Err (Syntax (t ∷ rest)) → ⊥
  accepted t rest s (Ok p) e told = not_read t rest p (passed counts most (t ∷ rest) p.1) refl told
  accepted t rest s (Err (Syntax place)) e told = not_deep t rest place (passed counts most (t ∷ rest) place) refl s e told
  accepted t rest s (Err (Deep place)) e told = absurd (cc)

  at_none : (b : Bool) (deep stop : Result (A × List Token) Stop) → b ≡ false → (if b then deep else stop) ≡ stop
  at_none b deep stop e = rw e refl

  refused : (ts : List Token) → begins starts ts ≡ false → read_counted counts most f ts ≡ Err (Syntax ts)
  refused [] s = ap (counted_told counts most []) (first.refuses [] refl) ∙ at_none (0 == suc most) (Err (Deep [])) (Err (Syntax [])) (grind (arith, nat_tests))
  refused (t ∷ rest) s =
      ap (counted_told counts most (t ∷ rest)) (first.refuses (t ∷ shown counts (if counts t then most else suc most) rest) s)
      ∙ ap (λ ys. Err (Syntax ys)) (sym (shown_all counts (suc most) (t ∷ rest)))
