-- Nodes with their pieces.
use Rattle.std.specs.Prelude.{◌≡◌, ◌≤◌, ◌<◌, ℕ, Bool, true, false, nat_lt, List, [], ◌∷◌, ◌++◌, Option, Some, None, refl, length, is_some}
use Rattle.std.proofs.Common.{sym, ◌∙◌, ap, subst, arith, append_assoc, length-append}
use Rattle.std.proofs.lemmas.Bool.Decides.{nat_tests}
use Rattle.oss_ranges.proofs.PieceLemmas.{inserted_between, inserted_left, inserted_right, next_first, next_later, next_left, next_none, next_right, removed_here, removed_left, removed_none, removed_past, removed_right, removed_rises, rises_apart, rises_back, rises_front, rises_order, rises_own, rises_wider}
use Rattle.oss_ranges.specs.Cells.{Begins, inserted, next_of, removed, Rises}
use Rattle.oss_ranges.specs.Trees.{HasPiece, or_found, own}
use Rattle.oss_ranges.specs.declared.piece.Piece.{Piece}
use Rattle.oss_ranges.specs.declared.tree.Node.{Node}

some_of : {A : Type 0} (o : Option A) → is_some o ≡ true → (a : A) × (o ≡ Some a)
some_of None e = cc
some_of (Some a) e = (a, refl)

none_of : {A : Type 0} (o : Option A) → is_some o ≡ false → o ≡ None
none_of None e = refl
none_of (Some a) e = cc

module _ {T : Type 0} where
  -- the search of a node whose piece ends behind the cell
  pub next_here : (cell : ℕ) (xs ys : List (Piece T)) (p : Piece T) → cell < p.hi → or_found (next_of cell xs) (Some p) ≡ next_of cell (xs ++ p ∷ ys)
  next_here cell xs ys p h = by (next_of cell xs) refl where
    by : (o : Option (Piece T)) → next_of cell xs ≡ o → or_found o (Some p) ≡ next_of cell (xs ++ p ∷ ys)
    by None e = grind (arith, nat_tests, next_right cell xs (p ∷ ys) e)
    by (Some q) e = sym (next_left cell xs (p ∷ ys) q e)

  -- and of one whose piece ends before it
  pub next_past : (a b cell : ℕ) (xs ys : List (Piece T)) (p : Piece T) → Rises a (xs ++ p ∷ ys) b → p.hi ≤ cell → next_of cell ys ≡ next_of cell (xs ++ p ∷ ys)
  next_past a b cell xs ys p h e =
      let own = rises_own a b xs p ys h in
      grind (arith, nat_tests, next_right cell xs (p ∷ ys) (next_none a p.lo cell xs (rises_front a b xs p ys h) (omega arith)))

  pub node_next_here : (cell : ℕ) (n : Node T) (p : Piece T) → n.piece ≡ Some p → cell < p.hi → or_found (next_of cell n.left) (Some p) ≡ next_of cell (n.left ++ (own n.piece ++ n.right))
  node_next_here cell n p e h = rw e (next_here cell n.left n.right p h)

  pub node_next_past : (cell : ℕ) (n : Node T) (p : Piece T) → n.piece ≡ Some p → Rises 0 (n.left ++ (own n.piece ++ n.right)) 1048576 → p.hi ≤ cell → next_of cell n.right ≡ next_of cell (n.left ++ (own n.piece ++ n.right))
  node_next_past cell n p e r h = rw e (next_past 0 1048576 cell n.left n.right p (rw e at r) h)

  -- what is found in a tree or else before it, where the search goes on in the left side of its node, or in the right one
  pub search_left : (cell : ℕ) (n : Node T) (p : Piece T) (found : Option (Piece T)) → n.piece ≡ Some p → cell < p.hi
      → or_found (next_of cell n.left) (Some p) ≡ or_found (next_of cell (n.left ++ (own n.piece ++ n.right))) found
  search_left cell n p found e h = by (next_of cell n.left) (node_next_here cell n p e h) where
    by : (o : Option (Piece T)) → or_found o (Some p) ≡ next_of cell (n.left ++ (own n.piece ++ n.right)) → or_found o (Some p) ≡ or_found (next_of cell (n.left ++ (own n.piece ++ n.right))) found
    by None f = rw (← f) refl
    by (Some q) f = rw (← f) refl

  pub search_right : (cell : ℕ) (n : Node T) (p : Piece T) (found : Option (Piece T)) → n.piece ≡ Some p → Rises 0 (n.left ++ (own n.piece ++ n.right)) 1048576 → p.hi ≤ cell
      → or_found (next_of cell n.right) found ≡ or_found (next_of cell (n.left ++ (own n.piece ++ n.right))) found
  search_right cell n p found e r h = ap (λ o. or_found o found) (node_next_past cell n p e r h)

  -- the parts of two pieces between three sides
  pub between_right : (a b d : List (Piece T)) (p q : Option (Piece T)) → HasPiece p → Rises 0 ((a ++ (own p ++ b)) ++ (own q ++ d)) 1048576 → Rises 0 (b ++ (own q ++ d)) 1048576
  between_right a b d None q has whole = absurd has
  between_right a b d (Some p) q has whole =
      let all : Rises 0 (a ++ (p ∷ (b ++ (own q ++ d)))) 1048576 = rw append_assoc at whole in
      rises_wider p.hi 1048576 0 1048576 (b ++ (own q ++ d)) (omega arith) (omega arith) (rises_back 0 1048576 a p (b ++ (own q ++ d)) all)

  pub between_left : (a b d : List (Piece T)) (p q : Option (Piece T)) → HasPiece q → Rises 0 (a ++ (own p ++ (b ++ (own q ++ d)))) 1048576 → Rises 0 (a ++ (own p ++ b)) 1048576
  between_left a b d p None has whole = absurd has
  between_left a b d p (Some q) has whole =
      let all : Rises 0 ((a ++ (own p ++ b)) ++ (q ∷ d)) 1048576 = rw (append_assoc a (own p ++ b) (q ∷ d), append_assoc (own p) b (q ∷ d)) whole in
      rises_wider 0 q.lo 0 1048576 (a ++ (own p ++ b)) (omega arith) (let h = rises_order q.hi 1048576 d (rises_back 0 1048576 (a ++ (own p ++ b)) q d all) in let k = rises_own 0 1048576 (a ++ (own p ++ b)) q d all in omega arith) (rises_front 0 1048576 (a ++ (own p ++ b)) q d all)

  -- one more piece in a node: in its left side
  pub with_left : (all l r : List (Piece T)) (o : Option (Piece T)) (p q : Piece T) → l ++ (own o ++ r) ≡ all → o ≡ Some q → p.lo < q.lo → Rises 0 (inserted p all) 1048576
      → Rises 0 (inserted p l) 1048576 × (inserted p l ++ (own o ++ r) ≡ inserted p all)
  with_left all l r o p q e is low h =
      let whole : l ++ (q ∷ r) ≡ all = (rw is at e) in
      let same : inserted p l ++ (q ∷ r) ≡ inserted p all = sym (inserted_left p q l r low) ∙ ap (inserted p) whole in
      let h2 : Rises 0 (inserted p l ++ (q ∷ r)) 1048576 = rw same h in
      let own_hi = rises_own 0 1048576 (inserted p l) q r h2 in
      let end = rises_order q.hi 1048576 r (rises_back 0 1048576 (inserted p l) q r h2) in
      (rises_wider 0 q.lo 0 1048576 (inserted p l) (omega arith) (omega arith) (rises_front 0 1048576 (inserted p l) q r h2), rw is same)

  -- and in its right side
  pub with_right : (all l r : List (Piece T)) (o : Option (Piece T)) (p q : Piece T) → l ++ (own o ++ r) ≡ all → o ≡ Some q → q.lo ≤ p.lo → Rises 0 all 1048576 → Rises 0 (inserted p all) 1048576
      → Rises 0 (inserted p r) 1048576 × (l ++ (own o ++ inserted p r) ≡ inserted p all)
  with_right all l r o p q e is low before h =
      let whole : l ++ (q ∷ r) ≡ all = (rw is at e) in
      let b : Rises 0 (l ++ (q ∷ r)) 1048576 = rw whole before in
      let same : l ++ (q ∷ inserted p r) ≡ inserted p all = sym (inserted_right 0 p q l r (rises_front 0 1048576 l q r b) low) ∙ ap (inserted p) whole in
      let h2 : Rises 0 (l ++ (q ∷ inserted p r)) 1048576 = rw same h in
      (rises_wider q.hi 1048576 0 1048576 (inserted p r) (omega arith) (omega arith) (rises_back 0 1048576 l q (inserted p r) h2), rw is same)

  -- sides without the piece between them
  pub sides_join : (all l r : List (Piece T)) (o : Option (Piece T)) → l ++ (own o ++ r) ≡ all → Rises 0 all 1048576 → HasPiece o → Rises 0 (l ++ r) 1048576
  sides_join all l r None e h has = absurd has
  sides_join all l r (Some q) e h has = rises_apart 0 1048576 l q r (rw e h)

  -- both sides of a node have fewer pieces
  pub sides_short : (all l r : List (Piece T)) (o : Option (Piece T)) (q : Piece T) → l ++ (own o ++ r) ≡ all → o ≡ Some q → (length l < length all) × (length r < length all)
  sides_short all l r o q e is =
      let whole : l ++ (q ∷ r) ≡ all = (rw is at e) in
      let long = ap length whole in
      (grind (arith, length-append, long), grind (arith, length-append, long))

  -- a node without the first piece that ends behind a cell: it stands in the left side
  pub without_left : (cell : ℕ) (all l r : List (Piece T)) (o : Option (Piece T)) → l ++ (own o ++ r) ≡ all → Rises 0 all 1048576 → is_some (next_of cell l) ≡ true
      → (removed cell l ++ (own o ++ r) ≡ removed cell all) × (true ≡ is_some (next_of cell all)) × Rises 0 (removed cell l ++ (own o ++ r)) 1048576
  without_left cell all l r o e h there =
      let first = some_of (next_of cell l) there in
      let same : removed cell l ++ (own o ++ r) ≡ removed cell all = sym (removed_left cell l (own o ++ r) first.0 first.1) ∙ ap (removed cell) e in
      let found : next_of cell all ≡ Some first.0 = rw (← e) (next_left cell l (own o ++ r) first.0 first.1) in
      (same, rw found refl, rw same (removed_rises 0 1048576 cell all h))

  -- it is the node's own one
  pub without_own : (cell : ℕ) (all l r : List (Piece T)) (o : Option (Piece T)) (q : Piece T) → l ++ (own o ++ r) ≡ all → o ≡ Some q → Rises 0 all 1048576 → cell < q.hi → is_some (next_of cell l) ≡ false
      → (removed cell l ++ r ≡ removed cell all) × (true ≡ is_some (next_of cell all)) × Rises 0 (removed cell l ++ r) 1048576
  without_own cell all l r o q e is h low there =
      let none = none_of (next_of cell l) there in
      let whole : l ++ (q ∷ r) ≡ all = (rw is at e) in
      let here = removed_here cell q r low in
      let same : removed cell l ++ r ≡ removed cell all = rw (removed_none cell l none) (sym (removed_right cell l (q ∷ r) none ∙ ap (λ x. l ++ x) here) ∙ ap (removed cell) whole) in
      let at = next_first cell q r low in
      let found : next_of cell all ≡ Some q = rw (← whole) (next_right cell l (q ∷ r) none ∙ at) in
      (same, rw found refl, rw same (removed_rises 0 1048576 cell all h))

  -- it stands in the right side, or nowhere
  pub without_right : (cell : ℕ) (all l r : List (Piece T)) (o : Option (Piece T)) (q : Piece T) → l ++ (own o ++ r) ≡ all → o ≡ Some q → Rises 0 all 1048576 → q.hi ≤ cell
      → (l ++ (own o ++ removed cell r) ≡ removed cell all) × (is_some (next_of cell r) ≡ is_some (next_of cell all)) × Rises 0 (l ++ (own o ++ removed cell r)) 1048576
  without_right cell all l r o q e is h low =
      let whole : l ++ (q ∷ r) ≡ all = (rw is at e) in
      let b : Rises 0 (l ++ (q ∷ r)) 1048576 = rw whole h in
      let own_hi = rises_own 0 1048576 l q r b in
      let none = next_none 0 q.lo cell l (rises_front 0 1048576 l q r b) (omega arith) in
      let here = removed_past cell q r low in
      let behind : l ++ (q ∷ removed cell r) ≡ removed cell all = sym (removed_right cell l (q ∷ r) none ∙ ap (λ x. l ++ x) here) ∙ ap (removed cell) whole in
      let same : l ++ (own o ++ removed cell r) ≡ removed cell all = rw is behind in
      let past = next_later cell q r low in
      let found : next_of cell all ≡ next_of cell r = rw (← whole) (next_right cell l (q ∷ r) none ∙ past) in
      (same, rw found refl, rw same (removed_rises 0 1048576 cell all h))

  -- a node whose left side has lost its first piece
  pub parted_left : (first o : Option (Piece T)) (rest r : List (Piece T)) → HasPiece first → Rises 0 ((own first ++ rest) ++ (own o ++ r)) 1048576 → Rises 0 (rest ++ (own o ++ r)) 1048576
  parted_left first o rest r has h = between_right [] rest r first o has h

  -- one piece in place of the one that begins where it does: that stands in the left side
  pub replaced_left : (all l r : List (Piece T)) (o : Option (Piece T)) (p q : Piece T) → l ++ (own o ++ r) ≡ all → o ≡ Some q → Rises 0 all 1048576 → Begins p.lo (next_of p.lo all)
      → Rises 0 (inserted p (removed p.lo all)) 1048576 → p.lo < q.lo
      → Begins p.lo (next_of p.lo l) × Rises 0 (inserted p (removed p.lo l)) 1048576 × (inserted p (removed p.lo l) ++ (own o ++ r) ≡ inserted p (removed p.lo all))
  replaced_left all l r o p q e is h found fits low = by (next_of p.lo l) refl where
    whole : l ++ (q ∷ r) ≡ all
    whole = (rw is at e)

    by : (n : Option (Piece T)) → next_of p.lo l ≡ n
        → Begins p.lo n × Rises 0 (inserted p (removed p.lo l)) 1048576 × (inserted p (removed p.lo l) ++ (own o ++ r) ≡ inserted p (removed p.lo all))
    by None f =
        let all_rise : Rises 0 (l ++ (q ∷ r)) 1048576 = rw whole h in
        let own_hi = rises_own 0 1048576 l q r all_rise in
        let here : next_of p.lo all ≡ Some q = ap (next_of p.lo) (sym whole) ∙ next_right p.lo l (q ∷ r) f ∙ next_first p.lo q r (omega arith) in
        let same : q.lo ≡ p.lo = subst (λ (n : Option (Piece T)). Begins p.lo n) here found in
        absurd (omega arith)
    by (Some x) f =
        let here : next_of p.lo all ≡ Some x = ap (next_of p.lo) (sym whole) ∙ next_left p.lo l (q ∷ r) x f in
        let begins : x.lo ≡ p.lo = subst (λ (n : Option (Piece T)). Begins p.lo n) here found in
        let same : inserted p (removed p.lo l) ++ (q ∷ r) ≡ inserted p (removed p.lo all) =
        sym (inserted_left p q (removed p.lo l) r low) ∙ ap (inserted p) (sym (removed_left p.lo l (q ∷ r) x f) ∙ ap (removed p.lo) whole) in
        let rise : Rises 0 (inserted p (removed p.lo l) ++ (q ∷ r)) 1048576 = rw same fits in
        let own_hi = rises_own 0 1048576 (inserted p (removed p.lo l)) q r rise in
        let end = rises_order q.hi 1048576 r (rises_back 0 1048576 (inserted p (removed p.lo l)) q r rise) in
        (begins, rises_wider 0 q.lo 0 1048576 (inserted p (removed p.lo l)) (omega arith) (omega arith) (rises_front 0 1048576 (inserted p (removed p.lo l)) q r rise), rw is same)

  -- it stands in the right side
  pub replaced_right : (all l r : List (Piece T)) (o : Option (Piece T)) (p q : Piece T) → l ++ (own o ++ r) ≡ all → o ≡ Some q → Rises 0 all 1048576 → Begins p.lo (next_of p.lo all)
      → Rises 0 (inserted p (removed p.lo all)) 1048576 → q.lo < p.lo
      → Begins p.lo (next_of p.lo r) × Rises 0 (inserted p (removed p.lo r)) 1048576 × (l ++ (own o ++ inserted p (removed p.lo r)) ≡ inserted p (removed p.lo all))
  replaced_right all l r o p q e is h found fits low = by (nat_lt p.lo q.hi) refl where
    whole : l ++ (q ∷ r) ≡ all
    whole = (rw is at e)

    all_rise : Rises 0 (l ++ (q ∷ r)) 1048576
    all_rise = rw whole h

    front : Rises 0 l q.lo
    front = rises_front 0 1048576 l q r all_rise

    none : next_of p.lo l ≡ None
    none = next_none 0 q.lo p.lo l front (omega arith)

    by : (t : Bool) → nat_lt p.lo q.hi ≡ t
        → Begins p.lo (next_of p.lo r) × Rises 0 (inserted p (removed p.lo r)) 1048576 × (l ++ (own o ++ inserted p (removed p.lo r)) ≡ inserted p (removed p.lo all))
    by true f =
        let inside : p.lo < q.hi = grind (arith, nat_tests) in
        let here : next_of p.lo all ≡ Some q = ap (next_of p.lo) (sym whole) ∙ next_right p.lo l (q ∷ r) none ∙ next_first p.lo q r inside in
        let same : q.lo ≡ p.lo = subst (λ (n : Option (Piece T)). Begins p.lo n) here found in
        absurd (omega arith)
    by false f =
        let past : q.hi ≤ p.lo = grind (arith, nat_tests) in
        let here : next_of p.lo all ≡ next_of p.lo r = ap (next_of p.lo) (sym whole) ∙ next_right p.lo l (q ∷ r) none ∙ next_later p.lo q r past in
        let begins = subst (λ (n : Option (Piece T)). Begins p.lo n) here found in
        let left : removed p.lo all ≡ l ++ (q ∷ removed p.lo r) = ap (removed p.lo) (sym whole) ∙ removed_right p.lo l (q ∷ r) none ∙ ap (λ ys. l ++ ys) (removed_past p.lo q r past) in
        let same : l ++ (q ∷ inserted p (removed p.lo r)) ≡ inserted p (removed p.lo all) = sym (ap (inserted p) left ∙ inserted_right 0 p q l (removed p.lo r) front (omega arith)) in
        let rise : Rises 0 (l ++ (q ∷ inserted p (removed p.lo r))) 1048576 = rw same fits in
        (begins, rises_wider q.hi 1048576 0 1048576 (inserted p (removed p.lo r)) (omega arith) (omega arith) (rises_back 0 1048576 l q (inserted p (removed p.lo r)) rise), rw is same)

  -- it is the node's own one
  pub replaced_own : (all l r : List (Piece T)) (o : Option (Piece T)) (p q : Piece T) → l ++ (own o ++ r) ≡ all → o ≡ Some q → Rises 0 all 1048576 → q.lo ≤ p.lo → p.lo ≤ q.lo
      → l ++ (p ∷ r) ≡ inserted p (removed p.lo all)
  replaced_own all l r o p q e is h low high =
      let whole : l ++ (q ∷ r) ≡ all = (rw is at e) in
      let all_rise : Rises 0 (l ++ (q ∷ r)) 1048576 = rw whole h in
      let own_hi = rises_own 0 1048576 l q r all_rise in
      let front = rises_front 0 1048576 l q r all_rise in
      let none = next_none 0 q.lo p.lo l front (omega arith) in
      let left : removed p.lo all ≡ l ++ r = ap (removed p.lo) (sym whole) ∙ removed_right p.lo l (q ∷ r) none ∙ ap (λ ys. l ++ ys) (removed_here p.lo q r (omega arith)) in
      let before = rises_wider 0 q.lo 0 p.lo l (omega arith) (omega arith) front in
      sym (ap (inserted p) left ∙ inserted_between 0 q.hi 1048576 p l r before (rises_back 0 1048576 l q r all_rise) (omega arith))
