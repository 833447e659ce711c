-- Folds commute and associate.
use Rattle.std.proofs.Common.{◌≡◌, ℕ, zero, suc, ◌+◌, ◌-◌, ◌%◌, ◌^◌, ◌<◌, ◌≤◌, max, sym, ap, ◌∙◌, arith}
use Rattle.oss_syntax.specs.declared.access.Op.{Op}
use Rattle.oss_syntax.specs.declared.access.Op.TheVariants.{Add, And, Or, Xor}
use Rattle.std.specs.Prelude.{bit_and, bit_or, bit_xor}
use Rattle.std.proofs.lemmas.Nat.{and_comm, or_comm, xor_comm, and_assoc, and_mask, or_lt}
use Rattle.std.proofs.lemmas.Nat.Bits.{bit_at_or, same_from_bits_below}
use Rattle.std.specs.Int.{bit_at}
use Rattle.std.specs.Int.Bits.{xor_assoc}
use Rattle.std.proofs.Math.Pow.{pow_mono}
use Rattle.std.proofs.Math.Nat.{two-pow-succ}
use Rattle.oss_model.specs.Moves.{combine, neutral_value}

add_fold : (w s x : ℕ) → ((w + s) % 2 ^ 64 + x) % 2 ^ 64 ≡ (w + (s + x) % 2 ^ 64) % 2 ^ 64
add_fold w s x = omega arith

add_swap : (w a b : ℕ) → ((w + a) % 2 ^ 64 + b) % 2 ^ 64 ≡ ((w + b) % 2 ^ 64 + a) % 2 ^ 64
add_swap w a b = omega arith

add_none : (w : ℕ) → w < 2 ^ 64 → (w + 0) % 2 ^ 64 ≡ w
add_none w h = omega arith

and_fold : (w s x : ℕ) → bit_and (bit_and w s) x ≡ bit_and w (bit_and s x)
and_fold w s x = and_assoc x w s

and_swap : (w a b : ℕ) → bit_and (bit_and w a) b ≡ bit_and (bit_and w b) a
and_swap w a b = and_assoc b w a ∙ (ap (λ (z : ℕ). bit_and w z) (and_comm a b) ∙ sym (and_assoc a w b))

xor_swap : (w a b : ℕ) → bit_xor (bit_xor w a) b ≡ bit_xor (bit_xor w b) a
xor_swap w a b = xor_assoc w a b ∙ (ap (λ (z : ℕ). bit_xor w z) (xor_comm a b) ∙ sym (xor_assoc w b a))

xor_none : (w : ℕ) → bit_xor w 0 ≡ w
xor_none w = xor_comm w 0

and_none : (w : ℕ) → w < 2 ^ 64 → bit_and w (2 ^ 64 - 1) ≡ w
and_none w h = and_mask w 64 ∙ (omega arith)

or_none : (w : ℕ) → bit_or w 0 ≡ w
or_none w = or_comm w 0

max_three : (a b c : ℕ) → max (max a b) c ≡ max a (max b c)
max_three a b c = omega arith

or_bits : (w s x i : ℕ) → bit_at (bit_or (bit_or w s) x) i ≡ bit_at (bit_or w (bit_or s x)) i
or_bits w s x i =
    rw (bit_at_or (bit_or w s) x i, bit_at_or w s i, bit_at_or w (bit_or s x) i, bit_at_or s x i) (max_three (bit_at w i) (bit_at s i) (bit_at x i))

less_pow : (n : ℕ) → n < 2 ^ n
less_pow zero = omega arith
less_pow (suc n) = let a = less_pow n in let b = two-pow-succ n in omega arith

or_assoc : (w s x : ℕ) → bit_or (bit_or w s) x ≡ bit_or w (bit_or s x)
or_assoc w s x =
    let k = w + s + x in
    let a : w < 2 ^ k = below w k (omega arith) in
    let b : s < 2 ^ k = below s k (omega arith) in
    let c : x < 2 ^ k = below x k (omega arith) in
    same_from_bits_below k (bit_or (bit_or w s) x) (bit_or w (bit_or s x)) (or_lt k (bit_or w s) x (or_lt k w s a b) c) (or_lt k w (bit_or s x) a (or_lt k s x b c)) (λ i l. or_bits w s x i)
  where
    below : (n k : ℕ) → n ≤ k → n < 2 ^ k
    below n k l = let a = less_pow n in let b : 2 ^ n ≤ 2 ^ k = pow_mono l in omega arith

pub fold_assoc : (op : Op) (w s x : ℕ) → combine op (combine op w s) x ≡ combine op w (combine op s x)
fold_assoc Add w s x = add_fold w s x
fold_assoc And w s x = and_fold w s x
fold_assoc Or w s x = or_assoc w s x
fold_assoc Xor w s x = xor_assoc w s x

pub fold_swap : (op : Op) (w a b : ℕ) → combine op (combine op w a) b ≡ combine op (combine op w b) a
fold_swap Add w a b = add_swap w a b
fold_swap And w a b = and_swap w a b
fold_swap Or w a b = or_assoc w a b ∙ (ap (λ (z : ℕ). bit_or w z) (or_comm a b) ∙ sym (or_assoc w b a))
fold_swap Xor w a b = xor_swap w a b

pub fold_none : (op : Op) (w : ℕ) → w < 2 ^ 64 → combine op w (neutral_value op) ≡ w
fold_none Add w h = add_none w h
fold_none And w h = and_none w h
fold_none Or w h = or_none w
fold_none Xor w h = xor_none w
