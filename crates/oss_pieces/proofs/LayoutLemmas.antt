-- The pieces in globals that lie in a table: globals without a cell of the set are passed over.
use Rattle.std.proofs.Common.{◌≡◌, ◌≤◌, ◌<◌, ℕ, zero, suc, ◌+◌, ◌-◌, Bool, false, List, [], ◌∷◌, ◌++◌, length, drop, get_or, Result, Ok, Err, refl, sym, ◌∙◌, ap, subst, arith}
use Rattle.std.specs.Prelude.{IfOk, IfSome, Some, slice_get}
use Rattle.std.proofs.lemmas.List.{append-nil, append_assoc}
use Rattle.std.proofs.lemmas.Option.{slice_get-get_or}
use Rattle.std.proofs.Math.Seq.{drop-cons, drop-nil}
use Rattle.oss_syntax.specs.declared.tree.program.Function.{Function}
use Rattle.oss_syntax.specs.declared.tree.program.GlobalDef.{GlobalDef}
use Rattle.oss_syntax.specs.declared.tree.program.Item.{Item}
use Rattle.oss_syntax.specs.declared.tree.program.Item.TheVariants as items
use Rattle.oss_grammar.specs.Layout.{cells_of}
use Rattle.oss_pieces.specs.declared.piece.Piece.{Piece}
use Rattle.oss_pieces.specs.declared.shape.Shape.{Shape}
use Rattle.oss_pieces.specs.Layouts.{AreLaid, ArePiecesIn, grids, grids_from, none, one_more}
use Rattle.oss_pieces.specs.Pieces.{ArePieces, ArePiecesTo}
use Rattle.oss_pieces.specs.Pieces.ArePieces.{none as no_items, of_function, of_global}
use Rattle.oss_pieces.specs.Rows.{Grid, grid, grid_of}
use Rattle.oss_pieces.proofs.StepLemmas.{no_pieces, without_more}

-- Lists

-- The first items of a list, and the others.
record Parted {A : Type 0} (xs : List A) (n : ℕ) : Type 0 where
  pub front : List A
  pub whole : xs ≡ front ++ drop n xs
  pub size : length front ≡ n

parted : {A : Type 0} (xs : List A) (n : ℕ) → n ≤ length xs → Parted xs n
parted [] zero h = record { front = []; whole = refl; size = refl }
parted (x ∷ xs) zero h = record { front = []; whole = refl; size = refl }
parted [] (suc n) h = absurd (omega (arith, h))
parted (x ∷ xs) (suc n) h =
    let p = parted xs n (omega (arith, h)) in
    record { front = x ∷ p.front; whole = ap (λ ys. x ∷ ys) p.whole; size = ap suc p.size }

drop_to : {A : Type 0} (n m d : ℕ) → n + d ≡ m → (xs : List A) → drop d (drop n xs) ≡ drop m xs
drop_to zero m d e [] = drop-nil d ∙ sym (drop-nil m)
drop_to zero m d e (x ∷ xs) = let same : d ≡ m = omega (arith, e) in ap (λ k. drop k (x ∷ xs)) same
drop_to (suc n) m d e [] = drop-nil d ∙ sym (drop-nil m)
drop_to (suc n) zero d e (x ∷ xs) = absurd (omega (arith, e))
drop_to (suc n) (suc m) d e (x ∷ xs) = drop_to n m d (omega (arith, e)) xs

-- what is left, with its first item
pub first_of : {A : Type 0} (xs : List A) (n : ℕ) (x : A) → n < length xs → x ≡ get_or xs n x → drop n xs ≡ x ∷ drop (n + 1) xs
first_of xs n x h e =
    let more : suc n ≡ n + 1 = omega arith in
    drop-cons xs n x h ∙ ap (λ y. y ∷ drop (suc n) xs) (sym e) ∙ ap (λ k. x ∷ drop k xs) more

size_left : {A : Type 0} (n d : ℕ) (xs : List A) → n + d ≤ length xs → d ≤ length (drop n xs)
size_left zero d [] h = omega (arith, h)
size_left zero d (x ∷ xs) h = omega (arith, h)
size_left (suc n) d [] h = absurd (omega (arith, h))
size_left (suc n) d (x ∷ xs) h = size_left n d xs (omega (arith, h))

-- Globals one behind the other

pub laid_from : (all : List Item) (start : ℕ) → AreLaid start (grids_from all start)
laid_from [] start = tt
laid_from (items.Global g ∷ rest) start = (refl, laid_from rest (start + cells_of g.cells))
laid_from (items.Function f ∷ rest) start = laid_from rest start

pub grids_push : (xs : List Shape) (x : Shape) → grids (xs ++ x ∷ []) ≡ grids xs ++ grid x ∷ []
grids_push [] x = refl
grids_push (y ∷ xs) x = ap (λ gs. grid y ∷ gs) (grids_push xs x)

ends_by : (e : ℕ) (xs : List Shape) (y : Shape) (rest : List Shape) → AreLaid e (grids (xs ++ y ∷ rest)) → e ≤ y.start
ends_by e [] y rest h = let s = h.0 in omega (arith, s)
ends_by e (x ∷ xs) y rest h = let s = h.0 in let r = ends_by (x.start + x.cells) xs y rest h.1 in omega (arith, s, r)

laid_after : (e : ℕ) (xs : List Shape) (y : Shape) (rest : List Shape) → AreLaid e (grids (xs ++ y ∷ rest)) → AreLaid (y.start + y.cells) (grids rest)
laid_after e [] y rest h = h.1
laid_after e (x ∷ xs) y rest h = laid_after (x.start + x.cells) xs y rest h.1

-- Globals without a cell of the set

empty : (s : Grid) (number : ℕ) (test : ℕ → Bool) → ((c : ℕ) → s.start ≤ c → c < s.start + s.cells → test c ≡ false) → ArePiecesTo s number test (s.start + s.cells) []
empty s number test gap = without_more s number test s.start (s.start + s.cells) [] (no_pieces s number test) (omega arith) gap

past_empty : (test : ℕ → Bool) (s : Grid) (rest : List Grid) (number : ℕ) (others : List Piece) → ((c : ℕ) → s.start ≤ c → c < s.start + s.cells → test c ≡ false)
    → ArePiecesIn test rest (number + 1) others → ArePiecesIn test (s ∷ rest) number others
past_empty test s rest number others gap more = one_more (empty s number test gap) more

skip_to : (test : ℕ → Bool) (lo begin : ℕ) (xs : List Shape) (y : Shape) (rest : List Shape) (number : ℕ) (others : List Piece) → AreLaid lo (grids (xs ++ y ∷ rest))
    → ((c : ℕ) → lo ≤ c → c < begin → test c ≡ false) → y.start ≤ begin → ArePiecesIn test (grids (y ∷ rest)) (number + length xs) others
    → ArePiecesIn test (grids (xs ++ y ∷ rest)) number others
skip_to test lo begin [] y rest number others laid gap up h =
    let e : number + 0 ≡ number = omega arith in
    subst (λ n. ArePiecesIn test (grids (y ∷ rest)) n others) e h
skip_to test lo begin (x ∷ xs) y rest number others laid gap up h =
    let s : x.start ≡ lo = laid.0 in
    let last : x.start + x.cells ≤ y.start = ends_by (x.start + x.cells) xs y rest laid.1 in
    let e : number + suc (length xs) ≡ number + 1 + length xs = omega arith in
    past_empty test (grid x) (grids (xs ++ y ∷ rest)) number others (λ c a b. gap c (omega (arith, s, a)) (omega (arith, b, last, up)))
    (skip_to test (x.start + x.cells) begin xs y rest (number + 1) others laid.1 (λ c a b. gap c (omega (arith, s, a)) b) up (subst (λ n. ArePiecesIn test (grids (y ∷ rest)) n others) e h))

pub skip_all : (test : ℕ → Bool) (lo : ℕ) (xs : List Shape) (number : ℕ) → AreLaid lo (grids xs) → ((c : ℕ) → lo ≤ c → c < 1048576 → test c ≡ false) → ArePiecesIn test (grids xs) number []
skip_all test lo [] number laid gap = none
skip_all test lo (x ∷ xs) number laid gap =
    let s : x.start ≡ lo = laid.0 in
    let w = x.within in
    past_empty test (grid x) (grids xs) number [] (λ c a b. gap c (omega (arith, s, a)) (omega (arith, b, w)))
    (skip_all test (x.start + x.cells) xs (number + 1) laid.1 (λ c a b. gap c (omega (arith, s, a)) b))

-- One global more

-- what is found so far, with the pieces of those globals that are left
abbrev pub GoesOn : (ℕ → Bool) → List Shape → ℕ → List Piece → Type 0
GoesOn test shapes number found = (others : List Piece) → ArePiecesIn test (grids (drop number shapes)) number others → ArePiecesIn test (grids shapes) 0 (found ++ others)

-- those that are left lie one behind the other
pub record AreLaidFrom (shapes : List Shape) (number : ℕ) : Type 0 where
  pub start : ℕ
  pub laid : AreLaid start (grids (drop number shapes))

module _ (test : ℕ → Bool) (shapes : List Shape) (n p : ℕ) (first shape : Shape) (begin : ℕ) (up : n ≤ p) (there : p < length shapes) (first_is : first ≡ get_or shapes n first) (shape_is : shape ≡ get_or shapes p shape)
    (laid : AreLaidFrom shapes n) (gap : (c : ℕ) → first.start ≤ c → c < begin → test c ≡ false) (begins : shape.start ≤ begin) where
  abbrev left : List Shape
  left = drop n shapes

  abbrev d : ℕ
  d = p - n

  sum : n + d ≡ p
  sum = omega (arith, up)

  abbrev part : Parted left d
  part = parted left d (size_left n d shapes (omega (arith, up, there)))

  abbrev rest : List Shape
  rest = drop (p + 1) shapes

  whole : left ≡ part.front ++ shape ∷ rest
  whole = part.whole ∙ ap (λ xs. part.front ++ xs) (drop_to n p d sum shapes ∙ first_of shapes p shape there shape_is)

  starts : laid.start ≡ first.start
  starts = sym (subst (λ xs. AreLaid laid.start (grids xs)) (first_of shapes n first (omega (arith, up, there)) first_is) laid.laid).0

  laid_now : AreLaid first.start (grids (part.front ++ shape ∷ rest))
  laid_now = subst (λ xs. AreLaid first.start (grids xs)) whole (subst (λ k. AreLaid k (grids left)) starts laid.laid)

  pub laid_next : AreLaidFrom shapes (p + 1)
  laid_next = record { start = shape.start + shape.cells; laid = laid_after first.start part.front shape rest laid_now }

  pub goes_next : (found own new : List Piece) → ArePiecesTo (grid shape) p test (shape.start + shape.cells) own → new ≡ found ++ own → GoesOn test shapes n found → GoesOn test shapes (p + 1) new
  goes_next found own new are is_new goes others more =
      let here : ArePiecesIn test (grids (shape ∷ rest)) p (own ++ others) = one_more are more in
      let size : p ≡ n + length part.front = let s = part.size in omega (arith, s, sum) in
      let all : ArePiecesIn test (grids (part.front ++ shape ∷ rest)) n (own ++ others) =
      skip_to test first.start begin part.front shape rest n (own ++ others) laid_now gap begins (subst (λ k. ArePiecesIn test (grids (shape ∷ rest)) k (own ++ others)) size here) in
      subst (λ xs. ArePiecesIn test (grids shapes) 0 xs) (sym (append_assoc found own others) ∙ ap (λ xs. xs ++ others) (sym is_new))
      (goes (own ++ others) (subst (λ xs. ArePiecesIn test (grids xs) n (own ++ others)) (sym whole) all))

-- The end

pub goes_end : (test : ℕ → Bool) (shapes : List Shape) (number : ℕ) (found : List Piece) → ArePiecesIn test (grids (drop number shapes)) number [] → GoesOn test shapes number found
    → ArePiecesIn test (grids shapes) 0 found
goes_end test shapes number found h goes = subst (λ xs. ArePiecesIn test (grids shapes) 0 xs) (append-nil found) (goes [] h)

pub none_left : (test : ℕ → Bool) (shapes : List Shape) (number : ℕ) → drop number shapes ≡ [] → ArePiecesIn test (grids (drop number shapes)) number []
none_left test shapes number e = subst (λ xs. ArePiecesIn test (grids xs) number []) (sym e) none

pub no_more : (test : ℕ → Bool) (shapes : List Shape) (number : ℕ) (first : Shape) → number < length shapes → first ≡ get_or shapes number first → AreLaidFrom shapes number
    → ((c : ℕ) → first.start ≤ c → c < 1048576 → test c ≡ false) → ArePiecesIn test (grids (drop number shapes)) number []
no_more test shapes number first there is laid gap =
    let e : first.start ≡ laid.start = (subst (λ xs. AreLaid laid.start (grids xs)) (first_of shapes number first there is) laid.laid).0 in
    skip_all test laid.start (drop number shapes) number laid.laid (λ c a b. gap c (omega (arith, e, a)) b)

-- the pieces of the globals of a program
pub as_pieces : (test : ℕ → Bool) (all : List Item) (start number : ℕ) (found : List Piece) → ArePiecesIn test (grids_from all start) number found → ArePieces test all number start found
as_pieces test [] start number _ none = no_items
as_pieces test (items.Function f ∷ rest) start number found h = of_function (as_pieces test rest start number found h)
as_pieces test (items.Global g ∷ rest) start number _ (one_more {others = others} a more) = of_global a (as_pieces test rest (start + cells_of g.cells) (number + 1) others more)

-- what is told of the item at a place
pub begins_at : (shapes : List Shape) (p : ℕ) (shape : Shape) (cell : ℕ) → p < length shapes → shape ≡ get_or shapes p shape → IfSome (slice_get shapes p) (λ s. s.start ≤ cell) → shape.start ≤ cell
begins_at shapes p shape cell l e h = (subst (λ o. IfSome o (λ s. s.start ≤ cell)) (slice_get-get_or shapes p shape l ∙ ap Some (sym e)) h)

-- what follows where a call did not want memory
pub if_ok : {A E : Type 0} {F G : A → Type 0} (r : Result A E) → ((x : A) → F x → G x) → IfOk r F → IfOk r G
if_ok (Ok x) h p = h x p
if_ok (Err e) h p = tt

-- one item more in the table

pub past_global : (shapes more : List Shape) (shape : Shape) (g : GlobalDef) (start next : ℕ) (rest left all : List Item) → left ≡ items.Global g ∷ rest → grid shape ≡ grid_of g start → next ≡ start + cells_of g.cells
    → more ≡ shapes ++ shape ∷ [] → grids shapes ++ grids_from left start ≡ grids_from all 0 → grids more ++ grids_from rest next ≡ grids_from all 0
past_global shapes more shape g start next rest left all e is_grid is_next is_more h =
    ap (λ xs. grids xs ++ grids_from rest next) is_more ∙ ap (λ gs. gs ++ grids_from rest next) (grids_push shapes shape) ∙ append_assoc (grids shapes) (grid shape ∷ []) (grids_from rest next)
    ∙ ap (λ s. grids shapes ++ s ∷ grids_from rest next) is_grid ∙ ap (λ n. grids shapes ++ grid_of g start ∷ grids_from rest n) is_next
    ∙ ap (λ xs. grids shapes ++ grids_from xs start) (sym e) ∙ h

pub past_function : (shapes : List Shape) (f : Function) (start : ℕ) (rest left all : List Item) → left ≡ items.Function f ∷ rest → grids shapes ++ grids_from left start ≡ grids_from all 0
    → grids shapes ++ grids_from rest start ≡ grids_from all 0
past_function shapes f start rest left all e h = ap (λ xs. grids shapes ++ grids_from xs start) (sym e) ∙ h

pub all_past : (shapes : List Shape) (start : ℕ) (left all : List Item) → left ≡ [] → grids shapes ++ grids_from left start ≡ grids_from all 0 → grids shapes ≡ grids_from all 0
all_past shapes start left all e h = sym (append-nil (grids shapes)) ∙ ap (λ xs. grids shapes ++ grids_from xs start) (sym e) ∙ h
