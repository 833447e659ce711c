-- What a name stands for, by the place of the first item of the name.
use Rattle.std.proofs.Common.{◌≡◌, ℕ, suc, ◌+◌, Bool, true, false, nat_lt, if◌then◌else◌, cond, List, [], ◌∷◌, length, map, Option, Some, None, option_map, position, refl, sym, ap, ◌∙◌, arith}
use Rattle.std.specs.List.{position_or_len}
use Rattle.std.specs.Str.{bytes_eq}
use Rattle.std.proofs.lemmas.Bool.Decides.{nat_tests}
use Rattle.oss_syntax.specs.declared.tree.program.Item.{Item}
use Rattle.oss_syntax.specs.declared.tree.program.Item.TheVariants as items
use Rattle.oss_grammar.specs.Scopes.{item_name}
use Rattle.oss_types.specs.Tables.{place_among}
use Rattle.oss_meaning.specs.declared.names.Found.{Found}
use Rattle.oss_meaning.specs.declared.names.Found.TheVariants as names
use Rattle.oss_meaning.specs.Names.{global_found, item_found, item_from}
use Rattle.oss_lower_expressions.specs.Tables.{found_at, founds_from}

less-first : (m : ℕ) → nat_lt 0 (suc m) ≡ true
less-first m = grind (arith, nat_tests)

less-more : (n m : ℕ) → nat_lt (1 + n) (suc m) ≡ nat_lt n m
less-more n m = grind (arith, nat_tests)

one-on : (b : Bool) (n : ℕ) → cond b (Some (1 + n)) None ≡ option_map (λ k. suc k) (cond b (Some n) None)
one-on true n = ap Some (omega arith)
one-on false n = refl

place-here : {X : Type 0} (p : X → Bool) (x : X) (xs : List X) → p x ≡ true → position p (x ∷ xs) ≡ Some 0
place-here p x xs e = rw e (ap (λ b. cond b (Some 0) None) (less-first (length xs)))

place-behind : {X : Type 0} (p : X → Bool) (x : X) (xs : List X) → p x ≡ false → position p (x ∷ xs) ≡ option_map (λ k. suc k) (position p xs)
place-behind p x xs e =
    rw e (ap (λ b. cond b (Some (1 + position_or_len p xs)) None) (less-more (position_or_len p xs) (length xs)) ∙ one-on (nat_lt (position_or_len p xs) (length xs)) (position_or_len p xs))

found-behind : (f : Found) (fs : List Found) (o : Option ℕ) → found_at (f ∷ fs) (option_map (λ k. suc k) o) ≡ found_at fs o
found-behind f fs None = refl
found-behind f fs (Some k) = refl

first-found : (names : List (List ℕ)) (fs : List Found) (one name : List ℕ) (f rest : Found) (b : Bool) → bytes_eq one name ≡ b → rest ≡ found_at fs (place_among names name)
    → (if b then f else rest) ≡ found_at (f ∷ fs) (place_among (one ∷ names) name)
first-found names fs one name f rest true e h = ap (found_at (f ∷ fs)) (sym (place-here (λ other. bytes_eq other name) one names e))
first-found names fs one name f rest false e h =
    h ∙ sym (found-behind f fs (place_among names name)) ∙ ap (found_at (f ∷ fs)) (sym (place-behind (λ other. bytes_eq other name) one names e))

from-table : (g f : ℕ) (all : List Item) (name : List ℕ) → item_from g f all name ≡ found_at (founds_from g f all) (place_among (map item_name all) name)
from-table g f [] name = refl
from-table g f (items.Global d ∷ rest) name =
    first-found (map item_name rest) (founds_from (g + 1) f rest) d.name name (global_found d.cells d.columns g d.kind) (item_from (g + 1) f rest name) (bytes_eq d.name name) refl (from-table (g + 1) f rest name)
from-table g f (items.Function d ∷ rest) name =
    first-found (map item_name rest) (founds_from g (f + 1) rest) d.name name (names.Function f) (item_from g (f + 1) rest name) (bytes_eq d.name name) refl (from-table g (f + 1) rest name)

pub by-table : (all : List Item) (name : List ℕ) → item_found all name ≡ found_at (founds_from 0 0 all) (place_among (map item_name all) name)
by-table all name = from-table 0 0 all name

pub ruleset founds = (by-table)
