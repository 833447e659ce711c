-- How the children are told that hinder a touch.
use Rattle.std.proofs.Common.{◌≡◌, ℕ, ◌⊎◌, inl, inr, refl, sym, subst, ap, ◌∙◌, List, [], ◌∷◌, ◌++◌, length, map, arith, Bool, true, false, Bor, None, if◌then◌else◌}
use Rattle.oss_model.specs.Order.{IsIn, here, written}
use Rattle.oss_model.specs.Rights.{Folds, Holds, Mark, NoRight, Reads, Released, Right, Touch, Writes, mark_from, right_from}
use Rattle.oss_audit.proofs.ListLemmas.{in_either, in_one}
use Rattle.oss_audit.proofs.PathLemmas.{child_point}
use Rattle.oss_explanation.specs.declared.explained.Later.{Later}
use Rattle.oss_explanation.specs.declared.explained.Later.TheVariants as later
use Rattle.oss_explanation.specs.Held.{word_of}
use Rattle.oss_explanation.specs.Lives.{hinders, last_of, told_later}
use Rattle.oss_explain.specs.declared.begun.Child.{Child}
use Rattle.oss_explain.specs.declared.begun.Noted.{Noted}
use Rattle.oss_explain.specs.declared.begun.Noted.TheVariants as notes
use Rattle.oss_explain.specs.Noting.{hindering, hindering_after, hindering_from, in_ranges, may_hinder}
use Rattle.oss_explain.specs.Owned.{own_of}
use Rattle.oss_explain.specs.Reasons.{number_of}

-- A child that hinders a touch of a cell has it by a word.

word_there : (touch : Touch) (r : Right) (m : Mark) → hinders touch r ≡ true → word_of r m ≡ None → ⊥
word_there touch (Holds mode strong) m h e = cc
word_there Reads NoRight m h e = cc
word_there Reads Released m h e = cc
word_there Writes NoRight m h e = cc
word_there Writes Released m h e = cc
word_there (Folds op) NoRight m h e = cc
word_there (Folds op) Released m h e = cc

-- each of these children hinders the touch
abbrev All : ℕ → Touch → List Child → Type 0
All c touch ks = (k : Child) → IsIn k ks → may_hinder touch c k ≡ true

all_after : (c : ℕ) (touch : Touch) (ks : List Child) (n : Noted) → All c touch ks → All c touch (hindering_after c touch ks n)
all_after c touch ks (notes.Lent j) h = go (may_hinder touch c j) refl
  where
    go : (b : Bool) → may_hinder touch c j ≡ b → All c touch (if b then ks ++ j ∷ [] else ks)
    go true e k i = split (in_either ks i)
      where
        split : IsIn k ks ⊎ IsIn k (j ∷ []) → may_hinder touch c k ≡ true
        split (inl m) = h k m
        split (inr m) = ap (λ (x : Child). may_hinder touch c x) (in_one m) ∙ e
    go false e k i = h k i
all_after c touch ks (notes.WaitedOn ranges) h = go (in_ranges ranges c)
  where
    none : (k : Child) → IsIn k [] → may_hinder touch c k ≡ true
    none k i = absurd (elim i [ ])

    go : (b : Bool) → All c touch (if b then [] else ks)
    go true k i = none k i
    go false k i = h k i

all_from : (c : ℕ) (touch : Touch) (ks : List Child) (ns : List Noted) → All c touch ks → All c touch (hindering_from c touch ks ns)
all_from c touch ks [] h = h
all_from c touch ks (n ∷ ns) h = all_from c touch (hindering_after c touch ks n) ns (all_after c touch ks n h)

all_hinder : (c : ℕ) (touch : Touch) (ns : List Noted) → All c touch (hindering c touch ns)
all_hinder c touch ns = all_from c touch [] ns (λ k i. absurd (elim i [ ]))

-- the children of a vector
abbrev pub children : List (Bor Child) → List Child
children xs = map (λ (k : Bor Child). k.now) xs

abbrev pub numbers : List (Bor Child) → List ℕ
numbers xs = map number_of (children xs)

pub children_split : (xs : List (Bor Child)) (x : Bor Child) (rest : List (Bor Child)) (ks : List Child) → children xs ≡ ks → xs ≡ x ∷ rest → ks ≡ x.now ∷ children rest
children_split xs x rest ks e split = sym e ∙ ap children split

pub numbers_length : (xs : List (Bor Child)) → length (numbers xs) ≡ length xs
numbers_length [] = refl
numbers_length (x ∷ xs) = let e = numbers_length xs in omega (arith, e)

pub first_word : (c : ℕ) (touch : Touch) (ns : List Noted) (x : Bor Child) (rest : List (Bor Child)) → hindering c touch ns ≡ x.now ∷ children rest → own_of x.now.accesses c ≡ None → ⊥
first_word c touch ns x rest e none =
    word_there touch (right_from false x.now.accesses c) (mark_from false x.now.accesses c)
    (all_hinder c touch ns x.now (subst (λ (ks : List Child). IsIn x.now ks) (sym e) here)) none

-- The later children

last_told : (j : Bor Child) (rest : List (Bor Child)) (z : Bor Child) → last_of j.now.number (numbers (rest ++ z ∷ [])) ≡ z.now.number
last_told j [] z = refl
last_told j (i ∷ rest) z = last_told i rest z

several_told : (q : List ℕ) (k : Bor Child) (rest : List (Bor Child)) (z : Bor Child)
    → told_later q (numbers (k ∷ (rest ++ z ∷ []))) ≡ later.Several (length (numbers (k ∷ (rest ++ z ∷ [])))) (written (k.now.number ∷ q)) (written (z.now.number ∷ q))
several_told q k [] z = refl
several_told q k (j ∷ rest) z =
    ap (λ (n : ℕ). later.Several (length (numbers (k ∷ (j ∷ rest ++ z ∷ [])))) (written (k.now.number ∷ q)) (written (n ∷ q))) (last_told j rest z)

point_is : (p q : List ℕ) (n : ℕ) → p ≡ written q → p ++ n ∷ [] ≡ written (n ∷ q)
point_is p q n e = ap (λ (x : List ℕ). x ++ n ∷ []) e ∙ child_point q n

pub several_later : (p : List ℕ) (xs : List (Bor Child)) (x : Bor Child) (more rest : List (Bor Child)) (z : Bor Child) (n : ℕ) (is : Later) → xs ≡ x ∷ more → more ≡ rest ++ z ∷ [] → n ≡ length xs
    → is ≡ later.Several n (p ++ x.now.number ∷ []) (p ++ z.now.number ∷ []) → (q : List ℕ) → p ≡ written q → is ≡ told_later q (numbers xs)
several_later p xs x more rest z n is split end count told q e =
    let all : xs ≡ x ∷ (rest ++ z ∷ []) = split ∙ ap (λ (ys : List (Bor Child)). x ∷ ys) end in
    let many : n ≡ length (numbers (x ∷ (rest ++ z ∷ []))) = count ∙ sym (numbers_length xs) ∙ ap (λ (ys : List (Bor Child)). length (numbers ys)) all in
    told ∙ ap (λ (m : ℕ). later.Several m (p ++ x.now.number ∷ []) (p ++ z.now.number ∷ [])) many
    ∙ ap (λ (a : List ℕ). later.Several (length (numbers (x ∷ (rest ++ z ∷ [])))) a (p ++ z.now.number ∷ [])) (point_is p q x.now.number e)
    ∙ ap (λ (a : List ℕ). later.Several (length (numbers (x ∷ (rest ++ z ∷ [])))) (written (x.now.number ∷ q)) a) (point_is p q z.now.number e)
    ∙ sym (several_told q x rest z) ∙ ap (λ (ys : List (Bor Child)). told_later q (numbers ys)) (sym all)
