-- A program is lowered to one code.
use Rattle.std.proofs.Common.{◌≡◌, ◌∙◌, ℕ, ◌<◌, ◌≤◌, ◌-◌, List, [], ◌∷◌, Option, refl, sym, ap, subst, arith}
use Rattle.std.proofs.Props.{props}
use Rattle.std.specs.Option.{ForSome}
use Rattle.oss_syntax.specs.declared.access.Range.{Range}
use Rattle.oss_syntax.specs.declared.tree.program.Item.{Item}
use Rattle.oss_meaning.specs.Pointers.{Extent}
use Rattle.oss_code.specs.declared.code.CodeParts.{CodeParts}
use Rattle.oss_code.specs.declared.global.GlobalPlace.{GlobalPlace}
use Rattle.oss_code.specs.Globals.{extent_of, extents_in}
use Rattle.oss_lower_laws.specs.Lowered.{IsLowered}

-- Ranges and places with the same numbers are one.

abbrev range_at : (lo hi : ℕ) → lo < hi → hi ≤ 1048576 → Range
range_at lo hi o w = record { lo = lo; hi = hi; ordered = o; within = w }

same_ends : (lo hi : ℕ) (o p : lo < hi) (w x : hi ≤ 1048576) → range_at lo hi o w ≡ range_at lo hi p x
same_ends lo hi o p w x =
    let one : IsProp (lo < hi) = hlevel props in
    let other : IsProp (hi ≤ 1048576) = hlevel props in
    ap (λ (q : lo < hi). range_at lo hi q w) (one o p) ∙ ap (λ (y : hi ≤ 1048576). range_at lo hi p y) (other w x)

same_at : (lo hi : ℕ) (s : Range) (e : lo ≡ s.lo) (f : hi ≡ s.hi) (o : lo < hi) (w : hi ≤ 1048576) → range_at lo hi o w ≡ s
same_at lo hi s e f =
    let P : ℕ → Type 0 = λ a. (o : a < hi) (w : hi ≤ 1048576) → range_at a hi o w ≡ s in
    let Q : ℕ → Type 0 = λ b. (o : s.lo < b) (w : b ≤ 1048576) → range_at s.lo b o w ≡ s in
    subst P (sym e) (subst Q (sym f) (λ o w. same_ends s.lo s.hi o s.ordered w s.within))

abbrev place_at : Range → (columns : Option ℕ) → ForSome columns (λ m. 0 < m) → GlobalPlace
place_at r columns wide = record { range = r; columns = columns; wide = wide }

-- that a row has a cell is shown in one way
some_once : (m : ℕ) (x y : 0 < m) → x ≡ y
some_once m x y = let one : IsProp (0 < m) = hlevel props in one x y

wide_once : (columns : Option ℕ) (x y : ForSome columns (λ m. 0 < m)) → x ≡ y
wide_once columns x y = λ i m e. some_once m (x m e) (y m e) i

same_columns : (r : Range) (columns : Option ℕ) (h : GlobalPlace) → r ≡ h.range → columns ≡ h.columns → (wide : ForSome columns (λ m. 0 < m)) → place_at r columns wide ≡ h
same_columns r columns h e f =
    let P : Option ℕ → Type 0 = λ c. (wide : ForSome c (λ m. 0 < m)) → place_at r c wide ≡ h in
    subst P (sym f) (λ wide. ap (λ (x : Range). place_at x h.columns wide) e ∙ ap (λ (w : ForSome h.columns (λ m. 0 < m)). place_at h.range h.columns w) (wide_once h.columns wide h.wide))

-- where one range ends that begins with another and has as many cells
ends_same : (lo hi from to : ℕ) → lo < hi → from < to → lo ≡ from → hi - lo ≡ to - from → hi ≡ to
ends_same lo hi from to o p e f = grind arith

same_place : (g h : GlobalPlace) → extent_of g ≡ extent_of h → g ≡ h
same_place g h e =
    let lo : g.range.lo ≡ h.range.lo = ap (λ (x : Extent). x.start) e in
    let hi : g.range.hi ≡ h.range.hi = ends_same g.range.lo g.range.hi h.range.lo h.range.hi g.range.ordered h.range.ordered lo (ap (λ (x : Extent). x.count) e) in
    same_columns g.range g.columns h (same_at g.range.lo g.range.hi h.range lo hi g.range.ordered g.range.within) (ap (λ (x : Extent). x.columns) e) g.wide

same_head : (e f : Extent) (es fs : List Extent) → ◌≡◌ {A = List Extent} (e ∷ es) (f ∷ fs) → e ≡ f
same_head e f es fs h = cc

same_tail : (e f : Extent) (es fs : List Extent) → ◌≡◌ {A = List Extent} (e ∷ es) (f ∷ fs) → es ≡ fs
same_tail e f es fs h = cc

same_places : (gs hs : List GlobalPlace) → extents_in gs ≡ extents_in hs → gs ≡ hs
same_places [] [] e = refl
same_places [] (h ∷ hs) e = absurd cc
same_places (g ∷ gs) [] e = absurd cc
same_places (g ∷ gs) (h ∷ hs) e =
    let x : g ≡ h = same_place g h (same_head (extent_of g) (extent_of h) (extents_in gs) (extents_in hs) e) in
    let y : gs ≡ hs = same_places gs hs (same_tail (extent_of g) (extent_of h) (extents_in gs) (extents_in hs) e) in
    λ i. x i ∷ y i

-- a program is lowered to one code
pub lowered_once : (all : List Item) (a b : CodeParts) → IsLowered all a → IsLowered all b → a ≡ b
lowered_once all a b h k =
    let instrs = h.instrs ∙ sym k.instrs in
    let lines = h.lines ∙ sym k.lines in
    let depths = h.depths ∙ sym k.depths in
    let first = h.first ∙ sym k.first in
    let globals : a.globals ≡ b.globals = same_places a.globals b.globals (h.globals ∙ sym k.globals) in
    let functions = h.functions ∙ sym k.functions in
    λ i. record { instrs = instrs i; lines = lines i; depths = depths i; first = first i; globals = globals i; functions = functions i }
