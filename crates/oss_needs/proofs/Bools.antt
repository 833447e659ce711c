-- What holds of any truth values.
use Rattle.std.proofs.Common.{◌≡◌, refl, sym, ap, ◌∙◌, Bool, true, false}
use Rattle.std.specs.Prelude.{◌&&◌, ◌||◌, not}

pub not_not : (a : Bool) → not (not a) ≡ a
not_not true = refl
not_not false = refl

pub or_false : (a : Bool) → (a || false) ≡ a
or_false true = refl
or_false false = refl

pub and_false : (a : Bool) → (a && false) ≡ false
and_false true = refl
and_false false = refl

pub none_of : (u b x y : Bool) → (not (b || u) && not (y || x)) ≡ not ((b || y) || (u || x))
none_of u true x y = refl
none_of true false x true = refl
none_of false false x true = refl
none_of true false x false = refl
none_of false false x false = refl

pub or_and : (x y w : Bool) → ((x || y) && w) ≡ ((x && w) || (y && w))
or_and true true true = refl
or_and true true false = refl
or_and true false true = refl
or_and true false false = refl
or_and false y w = refl

-- the parts of four are those of two and two
pub or_apart : (a b c d : Bool) → ((a || b) || (c || d)) ≡ ((a || c) || (b || d))
or_apart true b c d = refl
or_apart false true true d = refl
or_apart false true false d = refl
or_apart false false c d = refl

pub left_false : (a b : Bool) → (a || b) ≡ false → a ≡ false
left_false false b h = refl
left_false true b h = h

pub right_false : (a b : Bool) → (a || b) ≡ false → b ≡ false
right_false false b h = h
right_false true true h = h
right_false true false h = refl

pub both_false : (a b : Bool) → a ≡ false → b ≡ false → (a || b) ≡ false
both_false a b f g = ap (λ (x : Bool). x || b) f ∙ g

pub or_true : (a : Bool) → (a || true) ≡ true
or_true true = refl
or_true false = refl

pub never : {A : Type 0} → true ≡ false → A
never h = cc

pub and_not : (a : Bool) → (a && not a) ≡ false
and_not true = refl
and_not false = refl

pub and_still : (t a b : Bool) → (a ≡ false → b ≡ false) → (t && a) ≡ false → (t && b) ≡ false
and_still true a b f e = f e
and_still false a b f e = refl

pub inside : (t r : Bool) → ((t || r) && r) ≡ false → r ≡ false
inside t false e = refl
inside true true e = e
inside false true e = e

pub one_of : (a b : Bool) → (a || b) ≡ true → (a ≡ false → b ≡ true)
one_of true b e f = never f
one_of false b e f = e

pub both_true : (a b : Bool) → (a && b) ≡ true → b ≡ true
both_true true b e = e
both_true false b e = never (sym e)

pub first_true : (a b : Bool) → (a && b) ≡ true → a ≡ true
first_true true b e = refl
first_true false b e = never (sym e)

pub is_not : (a : Bool) → not a ≡ true → a ≡ false
is_not false e = refl
is_not true e = sym e
