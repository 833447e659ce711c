-- Names and values of locals where the newest local is a variable: its own name means it, and all others mean what they mean without it.
use Rattle.std.proofs.Common.{◌≡◌, ◌∙◌, ℕ, zero, suc, ◌+◌, ◌<◌, Bool, true, false, List, [], ◌∷◌, ◌++◌, length, get_or, Option, Some, None, refl, ap, arith}
use Rattle.std.specs.Prelude.{if◌then◌else◌}
use Rattle.std.specs.Str.{bytes_eq}
use Rattle.oss_syntax.specs.declared.tree.program.Item.{Item}
use Rattle.oss_syntax.specs.declared.tree.program.Item.TheVariants as items
use Rattle.oss_syntax.specs.declared.tree.program.Local.{Local}
use Rattle.oss_syntax.specs.declared.tree.program.NumKind.{NumKind}
use Rattle.oss_meaning.specs.declared.names.Found.{Found}
use Rattle.oss_meaning.specs.declared.names.Found.TheVariants as names
use Rattle.oss_meaning.specs.Names.{found, global_found, item_from, item_found, local_from, or_found}

-- a local that is found is one of so many
abbrev pub IsWithin : ℕ → Found → Type 0
IsWithin n (names.Variable slot k) = slot < n
IsWithin n _ = Unit {0}

or_within : (n : ℕ) (a b : Found) → IsWithin n a → IsWithin n b → IsWithin n (or_found a b)
or_within n names.Unknown b h k = k
or_within n (names.Variable slot t) b h k = h
or_within n (names.Scalar g t) b h k = h
or_within n (names.Array g t) b h k = h
or_within n (names.Grid g t) b h k = h
or_within n (names.Function f) b h k = h

one_within : (n i : ℕ) (l : Local) (b : Bool) → i < n → IsWithin n (if b then names.Variable i l.kind else names.Unknown)
one_within n i l true h = h
one_within n i l false h = tt

local_within : (n i : ℕ) (scope : List Local) (text : List ℕ) → i + length scope ≡ n → IsWithin n (local_from i scope text)
local_within n i [] text e = tt
local_within n i (l ∷ rest) text e =
    or_within n (local_from (i + 1) rest text) (if bytes_eq l.name text then names.Variable i l.kind else names.Unknown)
    (local_within n (i + 1) rest text (omega (arith, e))) (one_within n i l (bytes_eq l.name text) (omega (arith, e)))

global_within : (n : ℕ) (a b : Option ℕ) (g : ℕ) (t : NumKind) → IsWithin n (global_found a b g t)
global_within n None b g t = tt
global_within n (Some m) None g t = tt
global_within n (Some m) (Some c) g t = tt

if_within : (n : ℕ) (b : Bool) (x y : Found) → IsWithin n x → IsWithin n y → IsWithin n (if b then x else y)
if_within n true x y h k = h
if_within n false x y h k = k

item_within : (n g f : ℕ) (all : List Item) (text : List ℕ) → IsWithin n (item_from g f all text)
item_within n g f [] text = tt
item_within n g f (items.Global d ∷ rest) text =
    if_within n (bytes_eq d.name text) (global_found d.cells d.columns g d.kind) (item_from (g + 1) f rest text) (global_within n d.cells d.columns g d.kind) (item_within n (g + 1) f rest text)
item_within n g f (items.Function d ∷ rest) text =
    if_within n (bytes_eq d.name text) (names.Function f) (item_from g (f + 1) rest text) tt (item_within n g (f + 1) rest text)

pub found_within : (all : List Item) (scope : List Local) (text : List ℕ) → IsWithin (length scope) (found all scope text)
found_within all scope text = or_within (length scope) (local_from 0 scope text) (item_found all text) (local_within (length scope) 0 scope text (omega arith)) (item_within (length scope) 0 0 all text)

-- the newest local by its own name
own_from : (i : ℕ) (scope : List Local) (v : Local) (text : List ℕ) → bytes_eq v.name text ≡ true → local_from i (scope ++ v ∷ []) text ≡ names.Variable (i + length scope) v.kind
own_from i [] v text e = ap (λ (b : Bool). if b then names.Variable i v.kind else names.Unknown) e ∙ ap (λ n. names.Variable n v.kind) (omega arith)
own_from i (l ∷ rest) v text e =
    ap (λ f. or_found f (if bytes_eq l.name text then names.Variable i l.kind else names.Unknown)) (own_from (i + 1) rest v text e)
    ∙ ap (λ n. names.Variable n v.kind) (omega arith)

pub own_found : (all : List Item) (scope : List Local) (v : Local) (text : List ℕ) → bytes_eq v.name text ≡ true → found all (scope ++ v ∷ []) text ≡ names.Variable (length scope) v.kind
own_found all scope v text e = ap (λ f. or_found f (item_found all text)) (own_from 0 scope v text e) ∙ ap (λ n. names.Variable n v.kind) (omega arith)

-- any other name
other_from : (i : ℕ) (scope : List Local) (v : Local) (text : List ℕ) → bytes_eq v.name text ≡ false → local_from i (scope ++ v ∷ []) text ≡ local_from i scope text
other_from i [] v text e = ap (λ (b : Bool). if b then names.Variable i v.kind else names.Unknown) e
other_from i (l ∷ rest) v text e = ap (λ f. or_found f (if bytes_eq l.name text then names.Variable i l.kind else names.Unknown)) (other_from (i + 1) rest v text e)

pub other_found : (all : List Item) (scope : List Local) (v : Local) (text : List ℕ) → bytes_eq v.name text ≡ false → found all (scope ++ v ∷ []) text ≡ found all scope text
other_found all scope v text e = ap (λ f. or_found f (item_found all text)) (other_from 0 scope v text e)

-- a value in front of the newest, and the newest
pub front_value : {A : Type 0} (xs : List A) (x d : A) (i : ℕ) → i < length xs → get_or (xs ++ x ∷ []) i d ≡ get_or xs i d
front_value [] x d i h = absurd (omega arith)
front_value (y ∷ ys) x d zero h = refl
front_value (y ∷ ys) x d (suc i) h = front_value ys x d i (omega (arith, h))

pub newest_value : {A : Type 0} (xs : List A) (x d : A) (n : ℕ) → length xs ≡ n → get_or (xs ++ x ∷ []) n d ≡ x
newest_value [] x d zero e = refl
newest_value [] x d (suc n) e = absurd (omega (arith, e))
newest_value (y ∷ ys) x d zero e = absurd (omega (arith, e))
newest_value (y ∷ ys) x d (suc n) e = newest_value ys x d n (omega (arith, e))
