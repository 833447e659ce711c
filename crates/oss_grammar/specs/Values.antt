-- Values: the numbers of the language have 64 bits, and its operators are functions on them (C11 6.2.5p9, 6.5.3.3, 6.5.5 to 6.5.14).
-- Read against: 2147483648 kept by an `int` is -2147483648; 0 - 1 printed by %lu is 18446744073709551615; -7 / 2 is -3.
use Rattle.std.specs.Prelude.{ℕ, ◌+◌, ◌-◌, ◌*◌, ◌/◌, ◌%◌, ◌^◌, nat_lt, nat_le, ◌==◌, Bool, true, false, ◌||◌, not, if◌then◌else◌, bit_and, bit_or, bit_xor, Result, Ok, Err}
use Rattle.oss_syntax.specs.declared.tree.expr.BinOp.{BinOp}
use Rattle.oss_syntax.specs.declared.tree.expr.BinOp.TheVariants as op
use Rattle.oss_syntax.specs.declared.tree.program.NumKind.{NumKind}
use Rattle.oss_syntax.specs.declared.tree.program.NumKind.TheVariants as num
use Rattle.oss_syntax.specs.declared.fault.FaultKind.{FaultKind}
use Rattle.oss_syntax.specs.declared.fault.FaultKind.TheVariants as fault

-- a number modulo 2^64
abbrev pub wrapped : ℕ → ℕ
wrapped n = n % 2 ^ 64

-- read as signed, a number is negative from 2^63 on
abbrev pub is_negative : ℕ → Bool
is_negative v = nat_le (2 ^ 63) v

-- the number that a sum with v makes 0
abbrev pub negated : ℕ → ℕ
negated v = wrapped (2 ^ 64 - v)

-- how far a number, read as signed, is from 0
abbrev pub magnitude : ℕ → ℕ
magnitude v = if is_negative v then 2 ^ 64 - v else v

-- a sum modulo 2^64: 2^64 - 1 and 1 make 0
abbrev pub sum_of : ℕ → ℕ → ℕ
sum_of a b = wrapped (a + b)

-- a difference modulo 2^64: 0 less 1 is 2^64 - 1
abbrev pub difference_of : ℕ → ℕ → ℕ
difference_of a b = wrapped (a + (2 ^ 64 - b))

-- a number of 32 bits, read as signed, as one of 64 bits
abbrev pub widened : ℕ → ℕ
widened w = if nat_lt w (2 ^ 31) then w else w + (2 ^ 64 - 2 ^ 32)

-- what a variable keeps of a number that is stored: an `int` the low 32 bits, read as signed, and the others all
abbrev pub kept : NumKind → ℕ → ℕ
kept num.Int v = widened (v % 2 ^ 32)
kept num.Long v = v
kept num.Ulong v = v

-- a number, and whether it is unsigned
pub record Number : Type 0 where
  pub value : ℕ
  pub unsigned : Bool

-- an operator is unsigned where an operand is
abbrev pub is_unsigned : Number → Number → Bool
is_unsigned a b = a.unsigned || b.unsigned

-- a number that is signed
abbrev pub signed_number : ℕ → Number
signed_number v = record { value = v; unsigned = false }

-- 1 for what holds, and 0
abbrev pub truth : Bool → Number
truth b = signed_number (if b then 1 else 0)

-- the order of numbers, read as signed or as unsigned
abbrev pub is_less : Bool → ℕ → ℕ → Bool
is_less true a b = nat_lt a b
is_less false a b = nat_lt (wrapped (a + 2 ^ 63)) (wrapped (b + 2 ^ 63))

-- a quotient of magnitudes with its sign: negative where one operand alone is
abbrev pub with_sign : Bool → ℕ → ℕ
with_sign negative m = if negative then negated m else wrapped m

-- whether one of the two holds alone
abbrev pub differ : Bool → Bool → Bool
differ true b = not b
differ false b = b

-- division truncates toward zero, and the remainder has the sign of the left operand (C11 6.5.5p6); the divisor is not 0
abbrev pub quotient : Bool → ℕ → ℕ → ℕ
quotient true a b = a / b
quotient false a b = with_sign (differ (is_negative a) (is_negative b)) (magnitude a / magnitude b)

-- the remainder of a signed number: of -7 by 2 it is -1
abbrev pub remainder : Bool → ℕ → ℕ → ℕ
remainder true a b = a % b
remainder false a b = with_sign (is_negative a) (magnitude a % magnitude b)

-- a shift to the right keeps the sign of a signed number (C11 6.5.7p5)
abbrev pub shifted_right : Bool → ℕ → ℕ → ℕ
shifted_right true a n = a / 2 ^ n
shifted_right false a n = if is_negative a then 2 ^ 64 - 1 - (2 ^ 64 - 1 - a) / 2 ^ n else a / 2 ^ n

-- a divisor of 0 is a fault
abbrev pub divided : ℕ → Number → Result Number FaultKind
divided b answer = if b == 0 then Err fault.DivideByZero else Ok answer

-- a shift count of 64 or more, read as unsigned, is a fault
abbrev pub shifted : ℕ → Number → Result Number FaultKind
shifted n answer = if nat_le 64 n then Err fault.ShiftRange else Ok answer

-- a binary operator on two numbers that were both evaluated; shifts take the kind of the left operand
abbrev pub applied : BinOp → Number → Number → Result Number FaultKind
applied op.OrElse a b = Ok (truth (not (a.value == 0) || not (b.value == 0)))
applied op.AndAlso a b = Ok (truth (not ((a.value == 0) || (b.value == 0))))
applied op.Or a b = Ok (record { value = bit_or a.value b.value; unsigned = is_unsigned a b })
applied op.Xor a b = Ok (record { value = bit_xor a.value b.value; unsigned = is_unsigned a b })
applied op.And a b = Ok (record { value = bit_and a.value b.value; unsigned = is_unsigned a b })
applied op.Equal a b = Ok (truth (a.value == b.value))
applied op.Differ a b = Ok (truth (not (a.value == b.value)))
applied op.Less a b = Ok (truth (is_less (is_unsigned a b) a.value b.value))
applied op.LessEqual a b = Ok (truth (not (is_less (is_unsigned a b) b.value a.value)))
applied op.More a b = Ok (truth (is_less (is_unsigned a b) b.value a.value))
applied op.MoreEqual a b = Ok (truth (not (is_less (is_unsigned a b) a.value b.value)))
applied op.Left a b = shifted b.value (record { value = wrapped (a.value * 2 ^ b.value); unsigned = a.unsigned })
applied op.Right a b = shifted b.value (record { value = shifted_right a.unsigned a.value b.value; unsigned = a.unsigned })
applied op.Add a b = Ok (record { value = sum_of a.value b.value; unsigned = is_unsigned a b })
applied op.Sub a b = Ok (record { value = difference_of a.value b.value; unsigned = is_unsigned a b })
applied op.Mul a b = Ok (record { value = wrapped (a.value * b.value); unsigned = is_unsigned a b })
applied op.Div a b = divided b.value (record { value = quotient (is_unsigned a b) a.value b.value; unsigned = is_unsigned a b })
applied op.Rem a b = divided b.value (record { value = remainder (is_unsigned a b) a.value b.value; unsigned = is_unsigned a b })
