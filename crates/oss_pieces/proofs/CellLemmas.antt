-- The name of a cell is that of its place in the last global that begins at it or before it.
use Rattle.std.proofs.Common.{◌≡◌, ◌≤◌, ◌<◌, ℕ, zero, suc, ◌-◌, if◌then◌else◌, List, [], ◌∷◌, length, get_or, map, refl, ◌∙◌, ap, arith}
use Rattle.std.specs.Prelude.{nat_lt, slice_index, slice_index_or, ◌++◌}
use Rattle.std.specs.List.Sorted.{IsNonDecreasing}
use Rattle.std.proofs.lemmas.Bool.Decides.{nat_tests}
use Rattle.oss_syntax.specs.declared.tree.program.GlobalDef.{GlobalDef}
use Rattle.oss_syntax.specs.declared.tree.program.Item.{Item}
use Rattle.oss_syntax.specs.declared.tree.program.Item.TheVariants as items
use Rattle.oss_grammar.specs.Layout.{cells_of}
use Rattle.oss_pieces.specs.Begins.{begins_from, name_in, next_begin}
use Rattle.oss_pieces.specs.Names.{cell_name, place_text}
use Rattle.oss_pieces.specs.Numbered.{globals_of}
use Rattle.oss_pieces.specs.Rows.{width_of}

-- the name of a cell, counted from the first one of these globals
abbrev pub name_among : List GlobalDef → ℕ → List ℕ
name_among [] c = []
name_among (g ∷ rest) c = if nat_lt c (cells_of g.cells) then g.name ++ place_text g.cells g.columns (width_of g) c else name_among rest (c - cells_of g.cells)

-- functions have no cells
pub among_globals : (all : List Item) (c : ℕ) → cell_name all c ≡ name_among (globals_of all) c
among_globals [] c = refl
among_globals (items.Function f ∷ rest) c = among_globals rest c
among_globals (items.Global g ∷ rest) c =
    ap (λ other. if nat_lt c (cells_of g.cells) then g.name ++ place_text g.cells g.columns (width_of g) c else other) (among_globals rest (c - cells_of g.cells))

-- no global begins before the first one
first_least : (gs : List GlobalDef) (n j d : ℕ) → n ≤ 18446744073709551615 → j < length (begins_from n gs) → n ≤ slice_index_or (begins_from n gs) j d
first_least [] n j d small there = absurd (omega (arith, there))
first_least (g ∷ rest) n zero d small there = omega arith
first_least (g ∷ rest) n (suc j) d small there =
    let later : next_begin n g ≤ slice_index_or (begins_from (next_begin n g) rest) j d = first_least rest (next_begin n g) j d (omega arith) (omega arith) in
    omega arith

-- globals begin one behind the other
pub rising : (gs : List GlobalDef) (n : ℕ) → n ≤ 18446744073709551615 → IsNonDecreasing (begins_from n gs)
rising [] n small i j d le there = absurd (omega (arith, there))
rising (g ∷ rest) n small zero j d le there = first_least (g ∷ rest) n j d small there
rising (g ∷ rest) n small (suc i) zero d le there = absurd (omega (arith, le))
rising (g ∷ rest) n small (suc i) (suc j) d le there = rising rest (next_begin n g) (omega arith) i j d (omega arith) (omega arith)

-- each has its beginning
pub as_many : (gs : List GlobalDef) (n : ℕ) → length (begins_from n gs) ≡ length gs
as_many [] n = refl
as_many (g ∷ rest) n = ap suc (as_many rest (next_begin n g))

skipped : (g : GlobalDef) (here rest : List ℕ) (c : ℕ) → cells_of g.cells ≤ c → (if nat_lt c (cells_of g.cells) then here else rest) ≡ rest
skipped g here rest c h = grind (arith, nat_tests, h)

inside : (g : GlobalDef) (here rest other : List ℕ) (c : ℕ) → c < cells_of g.cells → (if nat_lt c (cells_of g.cells) then here else rest) ≡ (if nat_lt c (cells_of g.cells) then here else other)
inside g here rest other c h = grind (arith, nat_tests, h)

-- If the global with this number is the last one that begins at the cell or before it, then the cell is one of it, or of none.
pub last_begun : (gs : List GlobalDef) (n c k : ℕ) (d : GlobalDef) → n ≤ c → c < 4294967296 → k < length gs
    → ((j : ℕ) → j ≤ k → slice_index (begins_from n gs) j ≤ c)
    → ((j : ℕ) → k < j → j < length (begins_from n gs) → c < slice_index (begins_from n gs) j)
    → name_among gs (c - n) ≡ name_in (get_or gs k d) (c - slice_index (begins_from n gs) k)
last_begun [] n c k d low small there before behind = absurd (omega (arith, there))
last_begun (f ∷ []) n c zero d low small there before behind = refl
last_begun (f ∷ h ∷ rest) n c zero d low small there before behind =
    let next : c < next_begin n f = behind 1 (omega arith) (omega arith) in
    inside f (f.name ++ place_text f.cells f.columns (width_of f) (c - n)) (name_among (h ∷ rest) (c - n - cells_of f.cells)) [] (c - n) (omega arith)
last_begun (f ∷ []) n c (suc k) d low small there before behind = absurd (omega (arith, there))
last_begun (f ∷ h ∷ rest) n c (suc k) d low small there before behind =
    let rise : next_begin n f ≤ slice_index (begins_from (next_begin n f) (h ∷ rest)) k = first_least (h ∷ rest) (next_begin n f) k 0 (omega arith) (omega (arith, as_many (h ∷ rest) (next_begin n f), there)) in
    let upto : slice_index (begins_from (next_begin n f) (h ∷ rest)) k ≤ c = before (suc k) (omega arith) in
    let same : c - n - cells_of f.cells ≡ c - next_begin n f = omega arith in
    skipped f (f.name ++ place_text f.cells f.columns (width_of f) (c - n)) (name_among (h ∷ rest) (c - n - cells_of f.cells)) (c - n) (omega arith)
    ∙ ap (name_among (h ∷ rest)) same
    ∙ last_begun (h ∷ rest) (next_begin n f) c k d (omega arith) small (omega arith) (λ j le. before (suc j) (omega arith)) (λ j lt lt'. behind (suc j) (omega arith) (omega arith))

-- if none begins at the cell or before it, then there is none
pub none_begun : (gs : List GlobalDef) (c : ℕ) → ((j : ℕ) → 0 ≤ j → j < length (begins_from 0 gs) → c < slice_index (begins_from 0 gs) j) → [] ≡ name_among gs c
none_begun [] c behind = refl
none_begun (g ∷ rest) c behind = absurd (omega (arith, behind 0 (omega arith) (omega arith)))

-- Lists

pub as_long : {A B : Type 0} (f : A → B) (xs : List A) → length (map f xs) ≡ length xs
as_long f [] = refl
as_long f (x ∷ xs) = ap suc (as_long f xs)

pub item_of_map : {A B : Type 0} (f : A → B) (xs : List A) (k : ℕ) (d : A) → f (get_or xs k d) ≡ get_or (map f xs) k (f d)
item_of_map f [] k d = refl
item_of_map f (x ∷ xs) zero d = refl
item_of_map f (x ∷ xs) (suc k) d = item_of_map f xs k d

-- what would stand behind the end does not matter within
pub whatever_behind : {A : Type 0} (xs : List A) (k : ℕ) (d e : A) → k < length xs → get_or xs k d ≡ get_or xs k e
whatever_behind [] k d e there = absurd (omega (arith, there))
whatever_behind (x ∷ xs) zero d e there = refl
whatever_behind (x ∷ xs) (suc k) d e there = whatever_behind xs k d e (omega (arith, there))
