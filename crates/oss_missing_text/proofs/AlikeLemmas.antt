-- A table of lines, task by task, and what it says of a line.
use Rattle.std.proofs.Common.{◌≡◌, ◌∙◌, refl, sym, ap, subst, ℕ, zero, suc, ◌+◌, ◌-◌, ◌<◌, nat_lt, ◌==◌, ◌||◌, Bool, true, false, cond, if◌then◌else◌, List, [], ◌∷◌, ◌++◌, length, take, drop, get_or, Option, Some, None, arith}
use Rattle.std.specs.Prelude.{count_by, min}
use Rattle.std.specs.List.{list_any}
use Rattle.std.specs.Str.{bytes_eq}
use Rattle.std.proofs.lemmas.Bool.Decides.{nat_tests}
use Rattle.std.proofs.lemmas.List.{drop_more}
use Rattle.std.proofs.lemmas.List.Sums.{sum_by-append}
use Rattle.std.proofs.lemmas.Slice.Eq.{bytes_eq-Decides}
use Rattle.oss_missing_text.specs.declared.alike.Alike.{Alike}
use Rattle.oss_missing_text.specs.Counting.{has_line, later_alike}
use Rattle.oss_missing_text.specs.Tables.{Found, IsKept, behind_of, found, moved, noted_at, noted_if}

-- a number is itself
same : (n : ℕ) → (n == n) ≡ true
same n = grind (arith, nat_tests)

apart : (m n : ℕ) → m < n → (m == n) ≡ false
apart m n l = grind (arith, nat_tests)

-- a task is noted once
chosen : (a b : Alike) (t : Bool) → t ≡ true → (if t then a else b) ≡ a
chosen a b true e = refl
chosen a b false e = absurd cc

last_if : (a : Alike) (place count : ℕ) (t : Bool) → (a.last == place) ≡ t → (if t then a else record { first = a.first; last = place; count = count }).last ≡ place
last_if a place count true e = grind (arith, nat_tests)
last_if a place count false e = refl

last_noted : (place : ℕ) (old : Option Alike) → (noted_at place old).last ≡ place
last_noted place None = refl
last_noted place (Some a) = last_if a place (min (a.count + 1) 18446744073709551615) (a.last == place) refl

twice : (place : ℕ) (old : Option Alike) → noted_at place (Some (noted_at place old)) ≡ noted_at place old
twice place old = chosen (noted_at place old) _ ((noted_at place old).last == place) (ap (λ n. n == place) (last_noted place old) ∙ same place)

-- one line, and those behind it
one_more : (place : ℕ) (old : Option Alike) (here rest : Bool) → noted_if place (noted_if place old here) rest ≡ noted_if place old (here || rest)
one_more place old true true = ap Some (twice place old)
one_more place old true false = refl
one_more place old false rest = refl

-- a line of a task is noted, and those behind it are left
pub line_step : (place : ℕ) (old new : Option Alike) (lines : List (List ℕ)) (i : ℕ) (line other : List ℕ) → i < length lines → line ≡ get_or lines i line → new ≡ noted_if place old (bytes_eq line other)
    → noted_if place new (has_line other (drop (i + 1) lines)) ≡ noted_if place old (has_line other (drop i lines))
line_step place old new lines i line other within at is =
    ap (λ o. noted_if place o (has_line other (drop (i + 1) lines))) is
    ∙ one_more place old (bytes_eq line other) (has_line other (drop (i + 1) lines))
    ∙ ap (λ x. noted_if place old (has_line other (x ∷ drop (i + 1) lines))) at
    ∙ ap (λ xs. noted_if place old (has_line other xs)) (sym (drop_more lines i line within))

-- what a table has of each line once one was put in
pub put : (place : ℕ) (kept : List ℕ → Option Alike) (line other : List ℕ) (new : Alike) (b : Bool) → bytes_eq line other ≡ b → new ≡ noted_at place (kept line) → cond b (Some new) (kept other) ≡ noted_if place (kept other) b
put place kept line other new false is e = refl
put place kept line other new true is e = ap Some (e ∙ ap (λ x. noted_at place (kept x)) ((bytes_eq-Decides line other).0 is))

-- what is found with one task more
abbrev noted_found : ℕ → Option Found → Bool → Option Found
noted_found size old false = old
noted_found size None true = Some (record { first = size; count = 1 })
noted_found size (Some f) true = Some (record { first = f.first; count = f.count + 1 })

in_front : (here more : Bool) (c d size : ℕ) (r : Option Found) → d ≡ c + cond more 1 0
    → (if here then Some (record { first = 0; count = suc d }) else moved (noted_found size r more)) ≡ noted_found (suc size) (if here then Some (record { first = 0; count = suc c }) else moved r) more
in_front true true c d size r e = let same_count : suc d ≡ suc c + 1 = omega (arith, e) in ap (λ n. Some (record { first = 0; count = n })) same_count
in_front true false c d size r e = let same_count : suc d ≡ suc c = omega (arith, e) in ap (λ n. Some (record { first = 0; count = n })) same_count
in_front false true c d size None e = refl
in_front false true c d size (Some f) e = refl
in_front false false c d size r e = refl

first_found : (more : Bool) → (if more then Some (record { first = 0; count = 1 }) else None) ≡ noted_found 0 None more
first_found true = refl
first_found false = refl

count_push : (lines : List (List ℕ)) (told : List (List (List ℕ))) (line : List ℕ) → count_by (has_line line) (told ++ lines ∷ []) ≡ count_by (has_line line) told + cond (has_line line lines) 1 0
count_push lines told line = let e : count_by (has_line line) (told ++ lines ∷ []) ≡ count_by (has_line line) told + (0 + cond (has_line line lines) 1 0) = sum_by-append (λ x. cond (has_line line x) 1 0) told (lines ∷ []) in omega (arith, e)

found_push : (told : List (List (List ℕ))) (lines : List (List ℕ)) (line : List ℕ) → found (told ++ lines ∷ []) line ≡ noted_found (length told) (found told line) (has_line line lines)
found_push [] lines line = first_found (has_line line lines)
found_push (front ∷ rest) lines line =
    ap (λ x. if has_line line front then Some (record { first = 0; count = suc (count_by (has_line line) (rest ++ lines ∷ [])) }) else moved x) (found_push rest lines line)
    ∙ in_front (has_line line front) (has_line line lines) (count_by (has_line line) rest) (count_by (has_line line) (rest ++ lines ∷ [])) (length rest) (found rest line) (count_push lines rest line)

-- a table that has the lines of some tasks has those of one more
kept_more : (old : Option Alike) (r : Option Found) (size : ℕ) (b : Bool) → size < 18446744073709551615 → IsKept old r size → IsKept (noted_if size old b) (noted_found size r b) (size + 1)
kept_more None None size true small h = (refl, refl, omega arith, omega arith)
kept_more None None size false small h = tt
kept_more None (Some f) size b small h = absurd h
kept_more (Some a) None size b small h = absurd h
kept_more (Some a) (Some f) size false small h = (h.0, h.1, omega (arith, h.2), omega (arith, h.3))
kept_more (Some a) (Some f) size true small h =
    subst (λ t. IsKept (Some (if t then a else record { first = a.first; last = size; count = min (a.count + 1) 18446744073709551615 })) (Some (record { first = f.first; count = f.count + 1 })) (size + 1)) (sym (apart a.last size h.2))
    (h.0, omega (arith, h.1, h.3), omega arith, omega (arith, h.3))

pub task_step : (told : List (List (List ℕ))) (lines : List (List ℕ)) (line : List ℕ) (old new : Option Alike) (size : ℕ) → length told ≡ size → size < 18446744073709551615 → new ≡ noted_if size old (has_line line lines)
    → IsKept old (found told line) size → IsKept new (found (told ++ lines ∷ []) line) (size + 1)
task_step told lines line old new size long small is h =
    let more : IsKept (noted_if size old (has_line line lines)) (noted_found size (found told line) (has_line line lines)) (size + 1) = kept_more old (found told line) size (has_line line lines) small h in
    let at : noted_found size (found told line) (has_line line lines) ≡ found (told ++ lines ∷ []) line = ap (λ n. noted_found n (found told line) (has_line line lines)) (sym long) ∙ sym (found_push told lines line) in
    subst (λ o. IsKept o (found (told ++ lines ∷ []) line) (size + 1)) (sym is) (subst (λ r. IsKept (noted_if size old (has_line line lines)) r (size + 1)) at more)

-- what is told of a line is read off what is found of it
abbrev behind_found : ℕ → Option Found → Option ℕ
behind_found place None = Some 0
behind_found place (Some f) = if nat_lt f.first place then None else (if f.first == place then Some (f.count - 1) else Some f.count)

kept_behind : (place size : ℕ) (o : Option Alike) (r : Option Found) → IsKept o r size → behind_of place o ≡ behind_found place r
kept_behind place size None None h = refl
kept_behind place size None (Some f) h = absurd h
kept_behind place size (Some a) None h = absurd h
kept_behind place size (Some a) (Some f) h =
    ap (λ n. if nat_lt n place then None else (if n == place then Some (a.count - 1) else Some a.count)) h.0
    ∙ ap (λ n. if nat_lt f.first place then None else (if f.first == place then Some (n - 1) else Some n)) h.1

abbrev count_in : Option Found → ℕ
count_in None = 0
count_in (Some f) = f.count

count_moved : (r : Option Found) → count_in (moved r) ≡ count_in r
count_moved None = refl
count_moved (Some f) = refl

counted : (here : Bool) (c : ℕ) (r : Option Found) → c ≡ count_in r → (0 + cond here 1 0) + c ≡ count_in (if here then Some (record { first = 0; count = suc c }) else moved r)
counted true c r e = let plain : (0 + 1) + c ≡ suc c = omega arith in plain
counted false c r e = let plain : (0 + 0) + c ≡ c = omega arith in plain ∙ e ∙ sym (count_moved r)

count_found : (told : List (List (List ℕ))) (line : List ℕ) → count_by (has_line line) told ≡ count_in (found told line)
count_found [] line = refl
count_found (lines ∷ rest) line = sum_by-append (λ x. cond (has_line line x) 1 0) (lines ∷ []) rest ∙ counted (has_line line lines) (count_by (has_line line) rest) (found rest line) (count_found rest line)

not_before : (n : ℕ) → nat_lt (suc n) 0 ≡ false
not_before n = grind (arith, nat_tests)

not_first : (n : ℕ) → (suc n == 0) ≡ false
not_first n = grind (arith, nat_tests)

before_all : (n : ℕ) → nat_lt 0 (suc n) ≡ true
before_all n = grind (arith, nat_tests)

less_more : (m n : ℕ) → nat_lt (suc m) (suc n) ≡ nat_lt m n
less_more m n = grind (arith, nat_tests)

same_more : (m n : ℕ) → (suc m == suc n) ≡ (m == n)
same_more m n = grind (arith, nat_tests)

-- where no task is passed
at_first : (here : Bool) (c : ℕ) (r : Option Found) → c ≡ count_in r → behind_found 0 (if here then Some (record { first = 0; count = suc c }) else moved r) ≡ Some c
at_first true c r e = let plain : suc c - 1 ≡ c = omega arith in ap Some plain
at_first false c None e = ap Some (sym e)
at_first false c (Some f) e =
    ap (λ b. if b then None else (if suc f.first == 0 then Some (f.count - 1) else Some f.count)) (not_before f.first)
    ∙ ap (λ b. if b then Some (f.count - 1) else Some f.count) (not_first f.first)
    ∙ ap Some (sym e)

behind_moved : (place : ℕ) (r : Option Found) → behind_found (suc place) (moved r) ≡ behind_found place r
behind_moved place None = refl
behind_moved place (Some f) =
    ap (λ b. if b then None else (if suc f.first == suc place then Some (f.count - 1) else Some f.count)) (less_more f.first place)
    ∙ ap (λ b. if nat_lt f.first place then None else (if b then Some (f.count - 1) else Some f.count)) (same_more f.first place)

-- where one task is passed
past_one : (here : Bool) (place c : ℕ) (r : Option Found) (before : Bool) (n : ℕ) → behind_found place r ≡ (if before then None else Some n)
    → behind_found (suc place) (if here then Some (record { first = 0; count = suc c }) else moved r) ≡ (if here || before then None else Some n)
past_one true place c r before n e = ap (λ b. if b then None else (if 0 == suc place then Some (suc c - 1) else Some (suc c))) (before_all place)
past_one false place c r before n e = behind_moved place r ∙ e

passed : (told : List (List (List ℕ))) (place : ℕ) (line : List ℕ) → behind_found place (found told line) ≡ (if list_any (has_line line) (take place told) then None else Some (count_by (has_line line) (drop (suc place) told)))
passed [] zero line = refl
passed [] (suc place) line = refl
passed (lines ∷ rest) zero line = at_first (has_line line lines) (count_by (has_line line) rest) (found rest line) (count_found rest line)
passed (lines ∷ rest) (suc place) line =
    past_one (has_line line lines) place (count_by (has_line line) rest) (found rest line) (list_any (has_line line) (take place rest)) (count_by (has_line line) (drop (suc place) rest)) (passed rest place line)

pub told_later : (told : List (List (List ℕ))) (place : ℕ) (line : List ℕ) (o : Option Alike) → IsKept o (found told line) (length told) → behind_of place o ≡ later_alike told place line
told_later told place line o h =
    let next : suc place ≡ place + 1 = omega arith in
    kept_behind place (length told) o (found told line) h ∙ passed told place line
    ∙ ap (λ k. if list_any (has_line line) (take place told) then None else Some (count_by (has_line line) (drop k told))) next
