-- In point order the nodes that stand below a task follow it directly.
use Rattle.std.proofs.Common.{◌≡◌, ◌∙◌, refl, sym, ap, subst, ℕ, suc, ◌+◌, ◌<◌, Bool, true, false, List, [], ◌∷◌, ◌++◌, length, take, drop, ◌⊎◌, inl, inr, arith}
use Rattle.std.specs.Prelude.{nat_lt, ◌&&◌, if◌then◌else◌}
use Rattle.std.specs.Cmp.Lexicographic.{bytes_decides}
use Rattle.std.proofs.lemmas.Bool.{ltb-true, lt-ltb}
use Rattle.std.proofs.lemmas.List.{length-append, take-append-drop}
use Rattle.std.proofs.Math.Seq.{take-append_seam}
use Rattle.oss_model.specs.Order.{IsBefore, IsIn}
use Rattle.oss_model.specs.Order.IsBefore.{less, same, shorter}
use Rattle.oss_model.specs.Order.IsIn.{here, there}
use Rattle.oss_model.proofs.OrderLemmas.{before_trans}
use Rattle.oss_task_graph.specs.Graphs.{AreInOrder}
use Rattle.oss_task_graph.specs.declared.graph.Node.{Node}
use Rattle.oss_graph_text.specs.Boxes.{count_below, nodes_below}
use Rattle.oss_graph_text.specs.Points.{same_point, stands_below}

-- The second point goes on from the first.
record GoesOn (p q : List ℕ) : Type 0 where
  number : ℕ
  more : List ℕ
  is : q ≡ p ++ number ∷ more

and_parts : (a b : Bool) → (a && b) ≡ true → (a ≡ true) × (b ≡ true)
and_parts true b h = (refl, h)
and_parts false b h = absurd cc

and_both : {a b : Bool} → a ≡ true → b ≡ true → (a && b) ≡ true
and_both {a = a} {b = b} e f = ap (λ (x : Bool). x && b) e ∙ f

-- from the test to the point
going : (p q : List ℕ) → stands_below p q ≡ true → GoesOn p q
going p q h = go (drop (length p) q) refl
  where
    parts : (nat_lt (length p) (length q) ≡ true) × (same_point p (take (length p) q) ≡ true)
    parts = and_parts _ _ h

    front : q ≡ p ++ drop (length p) q
    front = sym (take-append-drop (length p) q) ∙ ap (λ (x : List ℕ). x ++ drop (length p) q) (sym ((bytes_decides p (take (length p) q)).0 parts.1))

    go : (rest : List ℕ) → drop (length p) q ≡ rest → GoesOn p q
    go [] e =
        let f : q ≡ p ++ [] = front ∙ ap (λ (x : List ℕ). p ++ x) e in
        let g : length q ≡ length p + 0 = ap (λ (x : List ℕ). length x) f ∙ length-append p [] in
        let l : length p < length q = ltb-true (length p) (length q) parts.0 in
        absurd (omega (arith, g, l))
    go (i ∷ rest) e = record { number = i; more = rest; is = front ∙ ap (λ (x : List ℕ). p ++ x) e }

-- and back
below : (p q : List ℕ) → GoesOn p q → stands_below p q ≡ true
below p q g =
    let long : length q ≡ length p + suc (length g.more) = ap (λ (x : List ℕ). length x) g.is ∙ length-append p (g.number ∷ g.more) in
    let front : take (length p) q ≡ p = ap (λ (x : List ℕ). take (length p) x) g.is ∙ take-append_seam p (g.number ∷ g.more) in
    and_both (lt-ltb (length p) (length q) (omega (arith, long))) ((bytes_decides p (take (length p) q)).1 (sym front))

-- where one point is before another, by its first number or behind that
heads : (x y : ℕ) (xs ys : List ℕ) → IsBefore (x ∷ xs) (y ∷ ys) → (x < y) ⊎ ((x ≡ y) × IsBefore xs ys)
heads x y xs ys (less l) = inl l
heads x _ xs ys (same a) = inr (refl, a)

-- what lies between a point and one that goes on from it goes on from it too
between : (p q : List ℕ) (k : ℕ) (ks : List ℕ) → IsBefore p q → IsBefore q (p ++ k ∷ ks) → GoesOn p q
between [] _ k ks (shorter {y = y} {ys = ys}) b = record { number = y; more = ys; is = refl }
between (x ∷ xs) [] k ks a b = elim a [ ]
between (x ∷ xs) (y ∷ ys) k ks a b = go (heads x y xs ys a) (heads y x ys (xs ++ k ∷ ks) b) (λ c d. between xs ys k ks c d)
  where
    go : (x < y) ⊎ ((x ≡ y) × IsBefore xs ys) → (y < x) ⊎ ((y ≡ x) × IsBefore ys (xs ++ k ∷ ks)) → (IsBefore xs ys → IsBefore ys (xs ++ k ∷ ks) → GoesOn xs ys) → GoesOn (x ∷ xs) (y ∷ ys)
    go (inl l) (inl m) rest = absurd (omega (arith, l, m))
    go (inl l) (inr m) rest = let e = m.0 in absurd (omega (arith, l, e))
    go (inr l) (inl m) rest = let e = l.0 in absurd (omega (arith, m, e))
    go (inr l) (inr m) rest = let g = rest l.1 m.1 in record { number = g.number; more = g.more; is = λ i. sym l.0 i ∷ g.is i }

pub below_between : (p q r : List ℕ) → IsBefore p q → IsBefore q r → stands_below p r ≡ true → stands_below p q ≡ true
below_between p q r a b h = let g = going p r h in below p q (between p q g.number g.more a (subst (λ (x : List ℕ). IsBefore q x) g.is b))

-- the nodes from one on are in order
behind : (front : List Node) (n : Node) (rest : List Node) → AreInOrder (front ++ n ∷ rest) → AreInOrder (n ∷ rest)
behind [] n rest o = o
behind (x ∷ []) n rest o = o.1
behind (x ∷ y ∷ more) n rest o = behind (y ∷ more) n rest o.1

-- each node comes before those behind it
before_all : (n : Node) (rest : List Node) (m : Node) → AreInOrder (n ∷ rest) → IsIn m rest → IsBefore n.task m.task
before_all n [] m o i = elim i [ ]
before_all n (x ∷ more) m o here = o.0
before_all n (x ∷ more) m o (there i) = before_trans o.0 (before_all x more m o.1 i)

-- the order without the second one
without : (n x : Node) (more : List Node) → AreInOrder (n ∷ x ∷ more) → AreInOrder (n ∷ more)
without n x [] o = tt
without n x (y ∷ more) o = (before_trans o.0 o.1.0, o.1.1)

-- a node that stands below is the first of those that do
first_below : (n x : Node) (more : List Node) → stands_below n.task x.task ≡ true → nodes_below n (x ∷ more) ≡ x ∷ nodes_below n more
first_below n x more e = ap (λ (b : Bool). take (if b then suc (count_below n more) else 0) (x ∷ more)) e

all_below : (n : Node) (rest : List Node) (m : Node) → AreInOrder (n ∷ rest) → IsIn m rest → stands_below n.task m.task ≡ true → IsIn m (nodes_below n rest)
all_below n [] m o i e = elim i [ ]
all_below n (x ∷ more) m o here e = subst (λ (ns : List Node). IsIn x ns) (sym (first_below n x more e)) here
all_below n (x ∷ more) m o (there i) e =
    let f = below_between n.task x.task m.task o.0 (before_all x more m o.1 i) e in
    subst (λ (ns : List Node). IsIn m ns) (sym (first_below n x more f)) (there (all_below n more m (without n x more o) i e))

pub boxes_hold : (front rest : List Node) (n m : Node) → AreInOrder (front ++ n ∷ rest) → IsIn m rest → stands_below n.task m.task ≡ true → IsIn m (nodes_below n rest)
boxes_hold front rest n m o i e = all_below n rest m (behind front n rest o) i e
