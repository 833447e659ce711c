-- State words to which a flag or a link is added.
use Rattle.std.proofs.Common.{◌≡◌, refl, ◌∙◌, ap, ℕ, zero, suc, ◌<◌, ◌≤◌, ◌+◌, ◌%◌, ◌^◌, arith, Bool, true, false}
use Rattle.std.specs.Prelude.{◌==◌, if◌then◌else◌}
use Rattle.std.proofs.Math.Nat.{mod-eq_of_lt}
use Rattle.oss_words.specs.declared.entry.EntryState.{EntryState}
use Rattle.oss_words.specs.Bits.{state_at, state_word, FitsWord, weight}
use Rattle.oss_words.specs.Causes.{Sets, sets_done, sets_folds, sets_reads, sets_writes, sets_clear, Unset}
use Rattle.oss_words.specs.Sums.{num}
use Rattle.oss_words.proofs.BitLemmas.{states_are_read}
use Rattle.oss_field.specs.Marked.{StaysLeft}
use Rattle.oss_field.specs.Table.{Neat}

num_small : (b : Bool) → num b ≤ 1
num_small true = omega arith
num_small false = omega arith

pub num_off : (b : Bool) → b ≡ false → num b ≡ 0
num_off true e = absurd (cc)
num_off false e = refl

-- what is taken apart of a word fits into a word
pub parts_fit : (w : ℕ) → FitsWord (state_at w)
parts_fit w = record { next = omega arith; child = omega arith }

-- a state that fits makes a word of 64 bits
word_small : (c : EntryState) → FitsWord c → state_word c < 2 ^ 64
word_small c f =
    let a = f.next in let b = f.child in
    omega (arith, a, b, num_small c.reads, num_small c.folds, num_small c.writes, num_small c.given, num_small c.done, num_small c.clear, num_small c.linked, num_small c.headed, num_small c.left, num_small c.next_folds, num_small c.next_same, num_small c.child_folds, num_small c.child_same)

-- the word of a state to which something is added that makes it the word of another
pub added : (a c : EntryState) (x k : ℕ) → x ≡ state_word a → state_word a + k ≡ state_word c → FitsWord c → ((x + k) % 2 ^ 64 ≡ state_word c) × (state_at (x + k) ≡ c) × (x + k < 18446744073709551616)
added a c x k is sum fits =
    let y : x + k ≡ state_word c = ap (λ z. z + k) is ∙ sum in
    (ap (λ z. z % 2 ^ 64) y ∙ mod-eq_of_lt (word_small c fits), ap state_at y ∙ states_are_read c fits, (let z = word_small c fits in omega (arith, y, z)))

-- the state with the flag of this number
abbrev pub with_flag : EntryState → ℕ → EntryState
with_flag a f = if f == 1 then record a { done = true } else (if f == 2 then record a { folds = true } else (if f == 3 then record a { reads = true } else (if f == 4 then record a { writes = true } else record a { clear = true })))

pub flag_sets : (a : EntryState) (f : ℕ) → 1 ≤ f → f ≤ 5 → Unset a f → Sets a (with_flag a f) f
flag_sets a zero l h u = absurd (omega (arith, l))
flag_sets a (suc zero) l h u = sets_done (u.0 refl) refl
flag_sets a (suc (suc zero)) l h u = sets_folds (u.1 refl) refl
flag_sets a (suc (suc (suc zero))) l h u = sets_reads (u.2 refl) refl
flag_sets a (suc (suc (suc (suc zero)))) l h u = sets_writes (u.3 refl) refl
flag_sets a (suc (suc (suc (suc (suc zero))))) l h u = sets_clear (u.4 refl) refl
flag_sets a (suc (suc (suc (suc (suc (suc f)))))) l h u = absurd (omega (arith, h))

pub flag_adds : (a : EntryState) (f : ℕ) → 1 ≤ f → f ≤ 5 → Unset a f → state_word a + weight f ≡ state_word (with_flag a f)
flag_adds a zero l h u = absurd (omega (arith, l))
flag_adds a (suc zero) l h u = let z = num_off a.done (u.0 refl) in omega (arith, z)
flag_adds a (suc (suc zero)) l h u = let z = num_off a.folds (u.1 refl) in omega (arith, z)
flag_adds a (suc (suc (suc zero))) l h u = let z = num_off a.reads (u.2 refl) in omega (arith, z)
flag_adds a (suc (suc (suc (suc zero)))) l h u = let z = num_off a.writes (u.3 refl) in omega (arith, z)
flag_adds a (suc (suc (suc (suc (suc zero))))) l h u = let z = num_off a.clear (u.4 refl) in omega (arith, z)
flag_adds a (suc (suc (suc (suc (suc (suc f)))))) l h u = absurd (omega (arith, h))

-- a flag changes no link
pub flag_fits : (a : EntryState) (f : ℕ) → 1 ≤ f → f ≤ 5 → FitsWord a → FitsWord (with_flag a f)
flag_fits a zero l h u = absurd (omega (arith, l))
flag_fits a (suc zero) l h u = record { next = u.next; child = u.child }
flag_fits a (suc (suc zero)) l h u = record { next = u.next; child = u.child }
flag_fits a (suc (suc (suc zero))) l h u = record { next = u.next; child = u.child }
flag_fits a (suc (suc (suc (suc zero)))) l h u = record { next = u.next; child = u.child }
flag_fits a (suc (suc (suc (suc (suc zero))))) l h u = record { next = u.next; child = u.child }
flag_fits a (suc (suc (suc (suc (suc (suc f)))))) l h u = absurd (omega (arith, h))

pub flag_neat : (a : EntryState) (f : ℕ) → 1 ≤ f → f ≤ 5 → Neat a → Neat (with_flag a f)
flag_neat a zero l h u = absurd (omega (arith, l))
flag_neat a (suc zero) l h u = record { next = u.next; child = u.child }
flag_neat a (suc (suc zero)) l h u = record { next = u.next; child = u.child }
flag_neat a (suc (suc (suc zero))) l h u = record { next = u.next; child = u.child }
flag_neat a (suc (suc (suc (suc zero)))) l h u = record { next = u.next; child = u.child }
flag_neat a (suc (suc (suc (suc (suc zero))))) l h u = record { next = u.next; child = u.child }
flag_neat a (suc (suc (suc (suc (suc (suc f)))))) l h u = absurd (omega (arith, h))

pub flag_stays : (a : EntryState) (f : ℕ) → 1 ≤ f → f ≤ 5 → StaysLeft a (with_flag a f)
flag_stays a zero l h = absurd (omega (arith, l))
flag_stays a (suc zero) l h = record { left = λ q. q; none = λ q z. z }
flag_stays a (suc (suc zero)) l h = record { left = λ q. q; none = λ q z. z }
flag_stays a (suc (suc (suc zero))) l h = record { left = λ q. q; none = λ q z. z }
flag_stays a (suc (suc (suc (suc zero)))) l h = record { left = λ q. q; none = λ q z. z }
flag_stays a (suc (suc (suc (suc (suc zero))))) l h = record { left = λ q. q; none = λ q z. z }
flag_stays a (suc (suc (suc (suc (suc (suc f)))))) l h = absurd (omega (arith, h))
