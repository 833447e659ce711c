-- The first place of a name, with one more name at the end.
use Rattle.std.proofs.Common.{◌≡◌, ℕ, ◌<◌, if◌then◌else◌, Bool, true, false, cond, IfSome, List, [], ◌∷◌, ◌++◌, length, refl, sym, ap, ◌∙◌, arith, ◌≤◌, nat_lt, not, subst, true≢false, Option, Some, None, is_some, position, length-append}
use Rattle.std.specs.List.{position_or_len}
use Rattle.std.proofs.lemmas.Slice.Eq.{bytes_eq-Decides}
use Rattle.std.proofs.lemmas.List.Sums.{prefix_len-le-length}
use Rattle.std.proofs.lemmas.Bool.Decides.{nat_tests}
use Rattle.std.proofs.lemmas.List.Folds.{position_or_len_push}
use Rattle.std.specs.Borrow.{Bor}
use Rattle.std.specs.Str.{bytes_eq}
use Rattle.std.proofs.lemmas.Map.Text.{hash_map_updates_str}
use Rattle.std.specs.Map.{lookup}
use Rattle.indexmap.specs.IndexMap.{IndexMap, get_by, IsUnchanged, UpdatesBy}
use Rattle.oss_types.specs.Tables.{HasFirstPlaces, place_among}

-- the first element of a list and one more that passes
position-push : {X : Type 0} (p : X → Bool) (xs : List X) (y : X) (n m : ℕ) (b : Bool) → position_or_len p xs ≡ n → length xs ≡ m → p y ≡ b → n ≤ m
    → position p (xs ++ y ∷ []) ≡ (if nat_lt n m then Some n else (if b then Some m else None))
position-push p xs y n m true at len e le =
    let more = position_or_len_push p xs y in grind (arith, nat_tests, more, length-append xs (y ∷ []))
position-push p xs y n m false at len e le =
    let more = position_or_len_push p xs y in grind (arith, nat_tests, more, length-append xs (y ∷ []))

-- the place of a name among names and one more
abbrev pub with_place : Option ℕ → Bool → ℕ → Option ℕ
with_place old is_it place = if is_some old then old else (if is_it then Some place else None)

found-first : (b : Bool) (n m : ℕ) (is_it : Bool) → (if b then Some n else (if is_it then Some m else None)) ≡ with_place (cond b (Some n) None) is_it m
found-first true n m is_it = refl
found-first false n m is_it = refl

pub place-push : (names : List (List ℕ)) (more name : List ℕ) → place_among (names ++ more ∷ []) name ≡ with_place (place_among names name) (bytes_eq more name) (length names)
place-push names more name =
    let passes : List ℕ → Bool = λ other. bytes_eq other name in
    let before = position_or_len passes names in
    position-push passes names more before (length names) (bytes_eq more name) refl refl refl (prefix_len-le-length (λ x. not (passes x)) names)
    ∙ found-first (nat_lt before (length names)) before (length names) (bytes_eq more name)

old-place : (old : Option ℕ) (is_it : Bool) (place : ℕ) → (is_it ≡ true → is_some old ≡ true) → old ≡ with_place old is_it place
old-place (Some x) is_it place h = refl
old-place None true place h = absurd (true≢false (sym (h refl)))
old-place None false place h = refl

new-place : (old : Option ℕ) (is_it : Bool) (place : ℕ) → (is_it ≡ true → is_some old ≡ false) → cond is_it (Some place) old ≡ with_place old is_it place
new-place (Some x) true place h = absurd (true≢false (h refl))
new-place (Some x) false place h = refl
new-place None true place h = refl
new-place None false place h = refl

-- a name that is noted has its place already
pub stays : {S : Type 0} (m : IndexMap (Bor (List ℕ)) ℕ S) (names : List (List ℕ)) (more : List ℕ) → is_some (get_by (λ key. bytes_eq more key.now) m) ≡ true → HasFirstPlaces m names → HasFirstPlaces m (names ++ more ∷ [])
stays m names more known told name =
    let Known : List ℕ → Type 0 = λ q. is_some (place_among names q) ≡ true in
    let here : Known more = sym (ap is_some (told more)) ∙ known in
    told name ∙ old-place (place_among names name) (bytes_eq more name) (length names) (λ e. subst Known ((bytes_eq-Decides more name).0 e) here) ∙ sym (place-push names more name)

-- a new name takes the next place
pub noted : {S : Type 0} (m n : IndexMap (Bor (List ℕ)) ℕ S) (more : List ℕ) (names : List (List ℕ)) (place : ℕ) → is_some (get_by (λ key. bytes_eq more key.now) m) ≡ false
    → UpdatesBy (λ x y. bytes_eq x.now y.now) (λ key. bytes_eq more key.now) m n (Some place) → length names ≡ place → HasFirstPlaces m names → HasFirstPlaces n (names ++ more ∷ [])
noted m n more names place fresh updates size told name =
    let New : List ℕ → Type 0 = λ q. is_some (place_among names q) ≡ false in
    let here : New more = sym (ap is_some (told more)) ∙ fresh in
    hash_map_updates_str more m n (Some place) updates name ∙ ap (λ o. cond (bytes_eq more name) (Some place) o) (told name)
    ∙ new-place (place_among names name) (bytes_eq more name) place (λ e. subst New ((bytes_eq-Decides more name).0 e) here)
    ∙ ap (λ k. with_place (place_among names name) (bytes_eq more name) k) (sym size) ∙ sym (place-push names more name)

-- a table that keeps its entries keeps its places
pub kept : {S : Type 0} (m n : IndexMap (Bor (List ℕ)) ℕ S) (names : List (List ℕ)) → IsUnchanged m n → HasFirstPlaces m names → HasFirstPlaces n names
kept m n names same told name = ap (λ es. lookup (λ key. bytes_eq name key.now) es) same ∙ told name

-- a place is one of the list
within : (n m : ℕ) (b : Bool) → nat_lt n m ≡ b → IfSome (cond b (Some n) None) (λ i. i < m)
within n m true e = grind (arith, nat_tests)
within n m false e = tt

pub place-within : (names : List (List ℕ)) (name : List ℕ) → IfSome (place_among names name) (λ i. i < length names)
place-within names name =
    let passes : List ℕ → Bool = λ other. bytes_eq other name in
    within (position_or_len passes names) (length names) (nat_lt (position_or_len passes names) (length names)) refl
