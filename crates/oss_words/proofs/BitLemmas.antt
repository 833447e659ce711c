-- State words and info words, taken apart and put together.
use Rattle.std.proofs.Common.{◌≡◌, ◌≢◌, ◌⊎◌, inl, inr, sym, refl, ◌∙◌, ap, ℕ, zero, suc, ◌<◌, ◌≤◌, ◌+◌, ◌*◌, ◌/◌, ◌%◌, ◌^◌, ◌==◌, arith, Bool, true, false, if◌then◌else◌}
use Rattle.std.proofs.lemmas.Bool.Decides.{eqb_tells}
use Rattle.std.proofs.lemmas.Nat.{or_disjoint}
use Rattle.std.proofs.lemmas.Nat.Bits.{and_pow}
use Rattle.std.specs.Int.Bits.{bit_or}
use Rattle.oss_syntax.specs.declared.access.Mode.{Mode}
use Rattle.oss_syntax.specs.declared.access.Op.{Op}
use Rattle.oss_syntax.specs.declared.access.Op.TheVariants.{Add, And, Or, Xor}
use Rattle.oss_syntax.specs.declared.access.Mode.TheVariants.{Read, Write, Fold}
use Rattle.oss_words.specs.declared.entry.EntryState.{EntryState}
use Rattle.oss_words.specs.declared.entry.EntryInfo.{EntryInfo}
use Rattle.oss_words.specs.Causes.{Sets, sets_done, sets_folds, sets_reads, sets_writes, sets_clear}
use Rattle.oss_words.specs.Sums.{num}
use Rattle.oss_words.specs.Bits.{is_bit, state_at, low_bits, state_word, FitsWord, IsStateWord, op_at, mode_at, info_at, op_number, mode_number, info_word, FitsInfo, IsInfoWord, weight}

num_small : (b : Bool) → num b ≤ 1
num_small true = omega arith
num_small false = omega arith

-- a bit that is read back
bit_back : (b : Bool) (k : ℕ) → k ≡ num b → (k == 1) ≡ b
bit_back true k e = ap (λ z. z == 1) e
bit_back false k e = ap (λ z. z == 1) e

bit_number : (k : ℕ) → k < 2 → num (k == 1) ≡ k
bit_number k l = go (k == 1) (eqb_tells k 1)
  where
    go : (b : Bool) → ((b ≡ true) × (k ≡ 1)) ⊎ ((b ≡ false) × (k ≢ 1)) → num b ≡ k
    go true (inl p) = sym p.1
    go true (inr p) = absurd (let z = p.0 in cc)
    go false (inl p) = absurd (let z = p.0 in cc)
    go false (inr p) = let n = p.1 in grind (arith, n, l)

-- the bits and links of a sum, one by one
place_0 : (b0 b1 b2 b3 b4 b5 b6 b7 b8 b9 b10 b11 b12 n c : ℕ) → b0 ≤ 1 → b1 ≤ 1 → b2 ≤ 1 → b3 ≤ 1 → b4 ≤ 1 → b5 ≤ 1 → b6 ≤ 1 → b7 ≤ 1 → b8 ≤ 1 → b9 ≤ 1 → b10 ≤ 1 → b11 ≤ 1 → b12 ≤ 1 → (b0 + 2 * b1 + 4 * b2 + 8 * b3 + 16 * b4 + 32 * b5 + 64 * b6 + 128 * b7 + 256 * b8 + 512 * b9 + 1024 * b10 + 2048 * b11 + 4096 * b12 + 65536 * n + 1099511627776 * c) / 1 % 2 ≡ b0
place_0 b0 b1 b2 b3 b4 b5 b6 b7 b8 b9 b10 b11 b12 n c h0 h1 h2 h3 h4 h5 h6 h7 h8 h9 h10 h11 h12 = omega (arith, h0, h1, h2, h3, h4, h5, h6, h7, h8, h9, h10, h11, h12)

place_1 : (b0 b1 b2 b3 b4 b5 b6 b7 b8 b9 b10 b11 b12 n c : ℕ) → b0 ≤ 1 → b1 ≤ 1 → b2 ≤ 1 → b3 ≤ 1 → b4 ≤ 1 → b5 ≤ 1 → b6 ≤ 1 → b7 ≤ 1 → b8 ≤ 1 → b9 ≤ 1 → b10 ≤ 1 → b11 ≤ 1 → b12 ≤ 1 → (b0 + 2 * b1 + 4 * b2 + 8 * b3 + 16 * b4 + 32 * b5 + 64 * b6 + 128 * b7 + 256 * b8 + 512 * b9 + 1024 * b10 + 2048 * b11 + 4096 * b12 + 65536 * n + 1099511627776 * c) / 2 % 2 ≡ b1
place_1 b0 b1 b2 b3 b4 b5 b6 b7 b8 b9 b10 b11 b12 n c h0 h1 h2 h3 h4 h5 h6 h7 h8 h9 h10 h11 h12 = omega (arith, h0, h1, h2, h3, h4, h5, h6, h7, h8, h9, h10, h11, h12)

place_2 : (b0 b1 b2 b3 b4 b5 b6 b7 b8 b9 b10 b11 b12 n c : ℕ) → b0 ≤ 1 → b1 ≤ 1 → b2 ≤ 1 → b3 ≤ 1 → b4 ≤ 1 → b5 ≤ 1 → b6 ≤ 1 → b7 ≤ 1 → b8 ≤ 1 → b9 ≤ 1 → b10 ≤ 1 → b11 ≤ 1 → b12 ≤ 1 → (b0 + 2 * b1 + 4 * b2 + 8 * b3 + 16 * b4 + 32 * b5 + 64 * b6 + 128 * b7 + 256 * b8 + 512 * b9 + 1024 * b10 + 2048 * b11 + 4096 * b12 + 65536 * n + 1099511627776 * c) / 4 % 2 ≡ b2
place_2 b0 b1 b2 b3 b4 b5 b6 b7 b8 b9 b10 b11 b12 n c h0 h1 h2 h3 h4 h5 h6 h7 h8 h9 h10 h11 h12 = omega (arith, h0, h1, h2, h3, h4, h5, h6, h7, h8, h9, h10, h11, h12)

place_3 : (b0 b1 b2 b3 b4 b5 b6 b7 b8 b9 b10 b11 b12 n c : ℕ) → b0 ≤ 1 → b1 ≤ 1 → b2 ≤ 1 → b3 ≤ 1 → b4 ≤ 1 → b5 ≤ 1 → b6 ≤ 1 → b7 ≤ 1 → b8 ≤ 1 → b9 ≤ 1 → b10 ≤ 1 → b11 ≤ 1 → b12 ≤ 1 → (b0 + 2 * b1 + 4 * b2 + 8 * b3 + 16 * b4 + 32 * b5 + 64 * b6 + 128 * b7 + 256 * b8 + 512 * b9 + 1024 * b10 + 2048 * b11 + 4096 * b12 + 65536 * n + 1099511627776 * c) / 8 % 2 ≡ b3
place_3 b0 b1 b2 b3 b4 b5 b6 b7 b8 b9 b10 b11 b12 n c h0 h1 h2 h3 h4 h5 h6 h7 h8 h9 h10 h11 h12 = omega (arith, h0, h1, h2, h3, h4, h5, h6, h7, h8, h9, h10, h11, h12)

place_4 : (b0 b1 b2 b3 b4 b5 b6 b7 b8 b9 b10 b11 b12 n c : ℕ) → b0 ≤ 1 → b1 ≤ 1 → b2 ≤ 1 → b3 ≤ 1 → b4 ≤ 1 → b5 ≤ 1 → b6 ≤ 1 → b7 ≤ 1 → b8 ≤ 1 → b9 ≤ 1 → b10 ≤ 1 → b11 ≤ 1 → b12 ≤ 1 → (b0 + 2 * b1 + 4 * b2 + 8 * b3 + 16 * b4 + 32 * b5 + 64 * b6 + 128 * b7 + 256 * b8 + 512 * b9 + 1024 * b10 + 2048 * b11 + 4096 * b12 + 65536 * n + 1099511627776 * c) / 16 % 2 ≡ b4
place_4 b0 b1 b2 b3 b4 b5 b6 b7 b8 b9 b10 b11 b12 n c h0 h1 h2 h3 h4 h5 h6 h7 h8 h9 h10 h11 h12 = omega (arith, h0, h1, h2, h3, h4, h5, h6, h7, h8, h9, h10, h11, h12)

place_5 : (b0 b1 b2 b3 b4 b5 b6 b7 b8 b9 b10 b11 b12 n c : ℕ) → b0 ≤ 1 → b1 ≤ 1 → b2 ≤ 1 → b3 ≤ 1 → b4 ≤ 1 → b5 ≤ 1 → b6 ≤ 1 → b7 ≤ 1 → b8 ≤ 1 → b9 ≤ 1 → b10 ≤ 1 → b11 ≤ 1 → b12 ≤ 1 → (b0 + 2 * b1 + 4 * b2 + 8 * b3 + 16 * b4 + 32 * b5 + 64 * b6 + 128 * b7 + 256 * b8 + 512 * b9 + 1024 * b10 + 2048 * b11 + 4096 * b12 + 65536 * n + 1099511627776 * c) / 32 % 2 ≡ b5
place_5 b0 b1 b2 b3 b4 b5 b6 b7 b8 b9 b10 b11 b12 n c h0 h1 h2 h3 h4 h5 h6 h7 h8 h9 h10 h11 h12 = omega (arith, h0, h1, h2, h3, h4, h5, h6, h7, h8, h9, h10, h11, h12)

place_6 : (b0 b1 b2 b3 b4 b5 b6 b7 b8 b9 b10 b11 b12 n c : ℕ) → b0 ≤ 1 → b1 ≤ 1 → b2 ≤ 1 → b3 ≤ 1 → b4 ≤ 1 → b5 ≤ 1 → b6 ≤ 1 → b7 ≤ 1 → b8 ≤ 1 → b9 ≤ 1 → b10 ≤ 1 → b11 ≤ 1 → b12 ≤ 1 → (b0 + 2 * b1 + 4 * b2 + 8 * b3 + 16 * b4 + 32 * b5 + 64 * b6 + 128 * b7 + 256 * b8 + 512 * b9 + 1024 * b10 + 2048 * b11 + 4096 * b12 + 65536 * n + 1099511627776 * c) / 64 % 2 ≡ b6
place_6 b0 b1 b2 b3 b4 b5 b6 b7 b8 b9 b10 b11 b12 n c h0 h1 h2 h3 h4 h5 h6 h7 h8 h9 h10 h11 h12 = omega (arith, h0, h1, h2, h3, h4, h5, h6, h7, h8, h9, h10, h11, h12)

place_7 : (b0 b1 b2 b3 b4 b5 b6 b7 b8 b9 b10 b11 b12 n c : ℕ) → b0 ≤ 1 → b1 ≤ 1 → b2 ≤ 1 → b3 ≤ 1 → b4 ≤ 1 → b5 ≤ 1 → b6 ≤ 1 → b7 ≤ 1 → b8 ≤ 1 → b9 ≤ 1 → b10 ≤ 1 → b11 ≤ 1 → b12 ≤ 1 → (b0 + 2 * b1 + 4 * b2 + 8 * b3 + 16 * b4 + 32 * b5 + 64 * b6 + 128 * b7 + 256 * b8 + 512 * b9 + 1024 * b10 + 2048 * b11 + 4096 * b12 + 65536 * n + 1099511627776 * c) / 128 % 2 ≡ b7
place_7 b0 b1 b2 b3 b4 b5 b6 b7 b8 b9 b10 b11 b12 n c h0 h1 h2 h3 h4 h5 h6 h7 h8 h9 h10 h11 h12 = omega (arith, h0, h1, h2, h3, h4, h5, h6, h7, h8, h9, h10, h11, h12)

place_8 : (b0 b1 b2 b3 b4 b5 b6 b7 b8 b9 b10 b11 b12 n c : ℕ) → b0 ≤ 1 → b1 ≤ 1 → b2 ≤ 1 → b3 ≤ 1 → b4 ≤ 1 → b5 ≤ 1 → b6 ≤ 1 → b7 ≤ 1 → b8 ≤ 1 → b9 ≤ 1 → b10 ≤ 1 → b11 ≤ 1 → b12 ≤ 1 → (b0 + 2 * b1 + 4 * b2 + 8 * b3 + 16 * b4 + 32 * b5 + 64 * b6 + 128 * b7 + 256 * b8 + 512 * b9 + 1024 * b10 + 2048 * b11 + 4096 * b12 + 65536 * n + 1099511627776 * c) / 256 % 2 ≡ b8
place_8 b0 b1 b2 b3 b4 b5 b6 b7 b8 b9 b10 b11 b12 n c h0 h1 h2 h3 h4 h5 h6 h7 h8 h9 h10 h11 h12 = omega (arith, h0, h1, h2, h3, h4, h5, h6, h7, h8, h9, h10, h11, h12)

place_9 : (b0 b1 b2 b3 b4 b5 b6 b7 b8 b9 b10 b11 b12 n c : ℕ) → b0 ≤ 1 → b1 ≤ 1 → b2 ≤ 1 → b3 ≤ 1 → b4 ≤ 1 → b5 ≤ 1 → b6 ≤ 1 → b7 ≤ 1 → b8 ≤ 1 → b9 ≤ 1 → b10 ≤ 1 → b11 ≤ 1 → b12 ≤ 1 → (b0 + 2 * b1 + 4 * b2 + 8 * b3 + 16 * b4 + 32 * b5 + 64 * b6 + 128 * b7 + 256 * b8 + 512 * b9 + 1024 * b10 + 2048 * b11 + 4096 * b12 + 65536 * n + 1099511627776 * c) / 512 % 2 ≡ b9
place_9 b0 b1 b2 b3 b4 b5 b6 b7 b8 b9 b10 b11 b12 n c h0 h1 h2 h3 h4 h5 h6 h7 h8 h9 h10 h11 h12 = omega (arith, h0, h1, h2, h3, h4, h5, h6, h7, h8, h9, h10, h11, h12)

place_10 : (b0 b1 b2 b3 b4 b5 b6 b7 b8 b9 b10 b11 b12 n c : ℕ) → b0 ≤ 1 → b1 ≤ 1 → b2 ≤ 1 → b3 ≤ 1 → b4 ≤ 1 → b5 ≤ 1 → b6 ≤ 1 → b7 ≤ 1 → b8 ≤ 1 → b9 ≤ 1 → b10 ≤ 1 → b11 ≤ 1 → b12 ≤ 1 → (b0 + 2 * b1 + 4 * b2 + 8 * b3 + 16 * b4 + 32 * b5 + 64 * b6 + 128 * b7 + 256 * b8 + 512 * b9 + 1024 * b10 + 2048 * b11 + 4096 * b12 + 65536 * n + 1099511627776 * c) / 1024 % 2 ≡ b10
place_10 b0 b1 b2 b3 b4 b5 b6 b7 b8 b9 b10 b11 b12 n c h0 h1 h2 h3 h4 h5 h6 h7 h8 h9 h10 h11 h12 = omega (arith, h0, h1, h2, h3, h4, h5, h6, h7, h8, h9, h10, h11, h12)

place_11 : (b0 b1 b2 b3 b4 b5 b6 b7 b8 b9 b10 b11 b12 n c : ℕ) → b0 ≤ 1 → b1 ≤ 1 → b2 ≤ 1 → b3 ≤ 1 → b4 ≤ 1 → b5 ≤ 1 → b6 ≤ 1 → b7 ≤ 1 → b8 ≤ 1 → b9 ≤ 1 → b10 ≤ 1 → b11 ≤ 1 → b12 ≤ 1 → (b0 + 2 * b1 + 4 * b2 + 8 * b3 + 16 * b4 + 32 * b5 + 64 * b6 + 128 * b7 + 256 * b8 + 512 * b9 + 1024 * b10 + 2048 * b11 + 4096 * b12 + 65536 * n + 1099511627776 * c) / 2048 % 2 ≡ b11
place_11 b0 b1 b2 b3 b4 b5 b6 b7 b8 b9 b10 b11 b12 n c h0 h1 h2 h3 h4 h5 h6 h7 h8 h9 h10 h11 h12 = omega (arith, h0, h1, h2, h3, h4, h5, h6, h7, h8, h9, h10, h11, h12)

place_12 : (b0 b1 b2 b3 b4 b5 b6 b7 b8 b9 b10 b11 b12 n c : ℕ) → b0 ≤ 1 → b1 ≤ 1 → b2 ≤ 1 → b3 ≤ 1 → b4 ≤ 1 → b5 ≤ 1 → b6 ≤ 1 → b7 ≤ 1 → b8 ≤ 1 → b9 ≤ 1 → b10 ≤ 1 → b11 ≤ 1 → b12 ≤ 1 → (b0 + 2 * b1 + 4 * b2 + 8 * b3 + 16 * b4 + 32 * b5 + 64 * b6 + 128 * b7 + 256 * b8 + 512 * b9 + 1024 * b10 + 2048 * b11 + 4096 * b12 + 65536 * n + 1099511627776 * c) / 4096 % 2 ≡ b12
place_12 b0 b1 b2 b3 b4 b5 b6 b7 b8 b9 b10 b11 b12 n c h0 h1 h2 h3 h4 h5 h6 h7 h8 h9 h10 h11 h12 = omega (arith, h0, h1, h2, h3, h4, h5, h6, h7, h8, h9, h10, h11, h12)

place_next : (b0 b1 b2 b3 b4 b5 b6 b7 b8 b9 b10 b11 b12 n c : ℕ) → b0 ≤ 1 → b1 ≤ 1 → b2 ≤ 1 → b3 ≤ 1 → b4 ≤ 1 → b5 ≤ 1 → b6 ≤ 1 → b7 ≤ 1 → b8 ≤ 1 → b9 ≤ 1 → b10 ≤ 1 → b11 ≤ 1 → b12 ≤ 1 → n < 16777216 → (b0 + 2 * b1 + 4 * b2 + 8 * b3 + 16 * b4 + 32 * b5 + 64 * b6 + 128 * b7 + 256 * b8 + 512 * b9 + 1024 * b10 + 2048 * b11 + 4096 * b12 + 65536 * n + 1099511627776 * c) / 65536 % 16777216 ≡ n
place_next b0 b1 b2 b3 b4 b5 b6 b7 b8 b9 b10 b11 b12 n c h0 h1 h2 h3 h4 h5 h6 h7 h8 h9 h10 h11 h12 l = omega (arith, h0, h1, h2, h3, h4, h5, h6, h7, h8, h9, h10, h11, h12, l)

place_child : (b0 b1 b2 b3 b4 b5 b6 b7 b8 b9 b10 b11 b12 n c : ℕ) → b0 ≤ 1 → b1 ≤ 1 → b2 ≤ 1 → b3 ≤ 1 → b4 ≤ 1 → b5 ≤ 1 → b6 ≤ 1 → b7 ≤ 1 → b8 ≤ 1 → b9 ≤ 1 → b10 ≤ 1 → b11 ≤ 1 → b12 ≤ 1 → n < 16777216 → c < 16777216 → (b0 + 2 * b1 + 4 * b2 + 8 * b3 + 16 * b4 + 32 * b5 + 64 * b6 + 128 * b7 + 256 * b8 + 512 * b9 + 1024 * b10 + 2048 * b11 + 4096 * b12 + 65536 * n + 1099511627776 * c) / 1099511627776 % 16777216 ≡ c
place_child b0 b1 b2 b3 b4 b5 b6 b7 b8 b9 b10 b11 b12 n c h0 h1 h2 h3 h4 h5 h6 h7 h8 h9 h10 h11 h12 l m = omega (arith, h0, h1, h2, h3, h4, h5, h6, h7, h8, h9, h10, h11, h12, l, m)

pub states_are_read : (c : EntryState) → FitsWord c → state_at (state_word c) ≡ c
states_are_read c f =
    let p0 : is_bit (state_word c) 1 ≡ c.reads = bit_back c.reads (state_word c / 1 % 2) (place_0 (num c.reads) (num c.folds) (num c.writes) (num c.given) (num c.done) (num c.clear) (num c.linked) (num c.headed) (num c.left) (num c.next_folds) (num c.next_same) (num c.child_folds) (num c.child_same) c.next c.child (num_small c.reads) (num_small c.folds) (num_small c.writes) (num_small c.given) (num_small c.done) (num_small c.clear) (num_small c.linked) (num_small c.headed) (num_small c.left) (num_small c.next_folds) (num_small c.next_same) (num_small c.child_folds) (num_small c.child_same)) in
    let p1 : is_bit (state_word c) 2 ≡ c.folds = bit_back c.folds (state_word c / 2 % 2) (place_1 (num c.reads) (num c.folds) (num c.writes) (num c.given) (num c.done) (num c.clear) (num c.linked) (num c.headed) (num c.left) (num c.next_folds) (num c.next_same) (num c.child_folds) (num c.child_same) c.next c.child (num_small c.reads) (num_small c.folds) (num_small c.writes) (num_small c.given) (num_small c.done) (num_small c.clear) (num_small c.linked) (num_small c.headed) (num_small c.left) (num_small c.next_folds) (num_small c.next_same) (num_small c.child_folds) (num_small c.child_same)) in
    let p2 : is_bit (state_word c) 4 ≡ c.writes = bit_back c.writes (state_word c / 4 % 2) (place_2 (num c.reads) (num c.folds) (num c.writes) (num c.given) (num c.done) (num c.clear) (num c.linked) (num c.headed) (num c.left) (num c.next_folds) (num c.next_same) (num c.child_folds) (num c.child_same) c.next c.child (num_small c.reads) (num_small c.folds) (num_small c.writes) (num_small c.given) (num_small c.done) (num_small c.clear) (num_small c.linked) (num_small c.headed) (num_small c.left) (num_small c.next_folds) (num_small c.next_same) (num_small c.child_folds) (num_small c.child_same)) in
    let p3 : is_bit (state_word c) 8 ≡ c.given = bit_back c.given (state_word c / 8 % 2) (place_3 (num c.reads) (num c.folds) (num c.writes) (num c.given) (num c.done) (num c.clear) (num c.linked) (num c.headed) (num c.left) (num c.next_folds) (num c.next_same) (num c.child_folds) (num c.child_same) c.next c.child (num_small c.reads) (num_small c.folds) (num_small c.writes) (num_small c.given) (num_small c.done) (num_small c.clear) (num_small c.linked) (num_small c.headed) (num_small c.left) (num_small c.next_folds) (num_small c.next_same) (num_small c.child_folds) (num_small c.child_same)) in
    let p4 : is_bit (state_word c) 16 ≡ c.done = bit_back c.done (state_word c / 16 % 2) (place_4 (num c.reads) (num c.folds) (num c.writes) (num c.given) (num c.done) (num c.clear) (num c.linked) (num c.headed) (num c.left) (num c.next_folds) (num c.next_same) (num c.child_folds) (num c.child_same) c.next c.child (num_small c.reads) (num_small c.folds) (num_small c.writes) (num_small c.given) (num_small c.done) (num_small c.clear) (num_small c.linked) (num_small c.headed) (num_small c.left) (num_small c.next_folds) (num_small c.next_same) (num_small c.child_folds) (num_small c.child_same)) in
    let p5 : is_bit (state_word c) 32 ≡ c.clear = bit_back c.clear (state_word c / 32 % 2) (place_5 (num c.reads) (num c.folds) (num c.writes) (num c.given) (num c.done) (num c.clear) (num c.linked) (num c.headed) (num c.left) (num c.next_folds) (num c.next_same) (num c.child_folds) (num c.child_same) c.next c.child (num_small c.reads) (num_small c.folds) (num_small c.writes) (num_small c.given) (num_small c.done) (num_small c.clear) (num_small c.linked) (num_small c.headed) (num_small c.left) (num_small c.next_folds) (num_small c.next_same) (num_small c.child_folds) (num_small c.child_same)) in
    let p6 : is_bit (state_word c) 64 ≡ c.linked = bit_back c.linked (state_word c / 64 % 2) (place_6 (num c.reads) (num c.folds) (num c.writes) (num c.given) (num c.done) (num c.clear) (num c.linked) (num c.headed) (num c.left) (num c.next_folds) (num c.next_same) (num c.child_folds) (num c.child_same) c.next c.child (num_small c.reads) (num_small c.folds) (num_small c.writes) (num_small c.given) (num_small c.done) (num_small c.clear) (num_small c.linked) (num_small c.headed) (num_small c.left) (num_small c.next_folds) (num_small c.next_same) (num_small c.child_folds) (num_small c.child_same)) in
    let p7 : is_bit (state_word c) 128 ≡ c.headed = bit_back c.headed (state_word c / 128 % 2) (place_7 (num c.reads) (num c.folds) (num c.writes) (num c.given) (num c.done) (num c.clear) (num c.linked) (num c.headed) (num c.left) (num c.next_folds) (num c.next_same) (num c.child_folds) (num c.child_same) c.next c.child (num_small c.reads) (num_small c.folds) (num_small c.writes) (num_small c.given) (num_small c.done) (num_small c.clear) (num_small c.linked) (num_small c.headed) (num_small c.left) (num_small c.next_folds) (num_small c.next_same) (num_small c.child_folds) (num_small c.child_same)) in
    let p8 : is_bit (state_word c) 256 ≡ c.left = bit_back c.left (state_word c / 256 % 2) (place_8 (num c.reads) (num c.folds) (num c.writes) (num c.given) (num c.done) (num c.clear) (num c.linked) (num c.headed) (num c.left) (num c.next_folds) (num c.next_same) (num c.child_folds) (num c.child_same) c.next c.child (num_small c.reads) (num_small c.folds) (num_small c.writes) (num_small c.given) (num_small c.done) (num_small c.clear) (num_small c.linked) (num_small c.headed) (num_small c.left) (num_small c.next_folds) (num_small c.next_same) (num_small c.child_folds) (num_small c.child_same)) in
    let p9 : is_bit (state_word c) 512 ≡ c.next_folds = bit_back c.next_folds (state_word c / 512 % 2) (place_9 (num c.reads) (num c.folds) (num c.writes) (num c.given) (num c.done) (num c.clear) (num c.linked) (num c.headed) (num c.left) (num c.next_folds) (num c.next_same) (num c.child_folds) (num c.child_same) c.next c.child (num_small c.reads) (num_small c.folds) (num_small c.writes) (num_small c.given) (num_small c.done) (num_small c.clear) (num_small c.linked) (num_small c.headed) (num_small c.left) (num_small c.next_folds) (num_small c.next_same) (num_small c.child_folds) (num_small c.child_same)) in
    let p10 : is_bit (state_word c) 1024 ≡ c.next_same = bit_back c.next_same (state_word c / 1024 % 2) (place_10 (num c.reads) (num c.folds) (num c.writes) (num c.given) (num c.done) (num c.clear) (num c.linked) (num c.headed) (num c.left) (num c.next_folds) (num c.next_same) (num c.child_folds) (num c.child_same) c.next c.child (num_small c.reads) (num_small c.folds) (num_small c.writes) (num_small c.given) (num_small c.done) (num_small c.clear) (num_small c.linked) (num_small c.headed) (num_small c.left) (num_small c.next_folds) (num_small c.next_same) (num_small c.child_folds) (num_small c.child_same)) in
    let p11 : is_bit (state_word c) 2048 ≡ c.child_folds = bit_back c.child_folds (state_word c / 2048 % 2) (place_11 (num c.reads) (num c.folds) (num c.writes) (num c.given) (num c.done) (num c.clear) (num c.linked) (num c.headed) (num c.left) (num c.next_folds) (num c.next_same) (num c.child_folds) (num c.child_same) c.next c.child (num_small c.reads) (num_small c.folds) (num_small c.writes) (num_small c.given) (num_small c.done) (num_small c.clear) (num_small c.linked) (num_small c.headed) (num_small c.left) (num_small c.next_folds) (num_small c.next_same) (num_small c.child_folds) (num_small c.child_same)) in
    let p12 : is_bit (state_word c) 4096 ≡ c.child_same = bit_back c.child_same (state_word c / 4096 % 2) (place_12 (num c.reads) (num c.folds) (num c.writes) (num c.given) (num c.done) (num c.clear) (num c.linked) (num c.headed) (num c.left) (num c.next_folds) (num c.next_same) (num c.child_folds) (num c.child_same) c.next c.child (num_small c.reads) (num_small c.folds) (num_small c.writes) (num_small c.given) (num_small c.done) (num_small c.clear) (num_small c.linked) (num_small c.headed) (num_small c.left) (num_small c.next_folds) (num_small c.next_same) (num_small c.child_folds) (num_small c.child_same)) in
    let q : state_word c / 65536 % 16777216 ≡ c.next = place_next (num c.reads) (num c.folds) (num c.writes) (num c.given) (num c.done) (num c.clear) (num c.linked) (num c.headed) (num c.left) (num c.next_folds) (num c.next_same) (num c.child_folds) (num c.child_same) c.next c.child (num_small c.reads) (num_small c.folds) (num_small c.writes) (num_small c.given) (num_small c.done) (num_small c.clear) (num_small c.linked) (num_small c.headed) (num_small c.left) (num_small c.next_folds) (num_small c.next_same) (num_small c.child_folds) (num_small c.child_same) f.next in
    let r : state_word c / 1099511627776 % 16777216 ≡ c.child = place_child (num c.reads) (num c.folds) (num c.writes) (num c.given) (num c.done) (num c.clear) (num c.linked) (num c.headed) (num c.left) (num c.next_folds) (num c.next_same) (num c.child_folds) (num c.child_same) c.next c.child (num_small c.reads) (num_small c.folds) (num_small c.writes) (num_small c.given) (num_small c.done) (num_small c.clear) (num_small c.linked) (num_small c.headed) (num_small c.left) (num_small c.next_folds) (num_small c.next_same) (num_small c.child_folds) (num_small c.child_same) f.next f.child in
    λ j. record { reads = p0 j; folds = p1 j; writes = p2 j; given = p3 j; done = p4 j; clear = p5 j; linked = p6 j; headed = p7 j; left = p8 j; next_folds = p9 j; next_same = p10 j; child_folds = p11 j; child_same = p12 j; next = q j; child = r j }

halves : (r0 r1 r2 r3 r4 r5 r6 r7 r8 r9 r10 r11 r12 x0 x1 x2 x3 x4 x5 x6 x7 x8 x9 x10 x11 x12 x13 : ℕ) → x0 ≡ r0 + 2 * x1 → x1 ≡ r1 + 2 * x2 → x2 ≡ r2 + 2 * x3 → x3 ≡ r3 + 2 * x4 → x4 ≡ r4 + 2 * x5 → x5 ≡ r5 + 2 * x6 → x6 ≡ r6 + 2 * x7 → x7 ≡ r7 + 2 * x8 → x8 ≡ r8 + 2 * x9 → x9 ≡ r9 + 2 * x10 → x10 ≡ r10 + 2 * x11 → x11 ≡ r11 + 2 * x12 → x12 ≡ r12 + 2 * x13 → x0 ≡ r0 + 2 * r1 + 4 * r2 + 8 * r3 + 16 * r4 + 32 * r5 + 64 * r6 + 128 * r7 + 256 * r8 + 512 * r9 + 1024 * r10 + 2048 * r11 + 4096 * r12 + 8192 * x13
halves r0 r1 r2 r3 r4 r5 r6 r7 r8 r9 r10 r11 r12 x0 x1 x2 x3 x4 x5 x6 x7 x8 x9 x10 x11 x12 x13 h0 h1 h2 h3 h4 h5 h6 h7 h8 h9 h10 h11 h12 = omega (arith, h0, h1, h2, h3, h4, h5, h6, h7, h8, h9, h10, h11, h12)

half_0 : (w : ℕ) → w / 1 ≡ w / 1 % 2 + 2 * (w / 2)
half_0 w = omega arith

half_1 : (w : ℕ) → w / 2 ≡ w / 2 % 2 + 2 * (w / 4)
half_1 w = omega arith

half_2 : (w : ℕ) → w / 4 ≡ w / 4 % 2 + 2 * (w / 8)
half_2 w = omega arith

half_3 : (w : ℕ) → w / 8 ≡ w / 8 % 2 + 2 * (w / 16)
half_3 w = omega arith

half_4 : (w : ℕ) → w / 16 ≡ w / 16 % 2 + 2 * (w / 32)
half_4 w = omega arith

half_5 : (w : ℕ) → w / 32 ≡ w / 32 % 2 + 2 * (w / 64)
half_5 w = omega arith

half_6 : (w : ℕ) → w / 64 ≡ w / 64 % 2 + 2 * (w / 128)
half_6 w = omega arith

half_7 : (w : ℕ) → w / 128 ≡ w / 128 % 2 + 2 * (w / 256)
half_7 w = omega arith

half_8 : (w : ℕ) → w / 256 ≡ w / 256 % 2 + 2 * (w / 512)
half_8 w = omega arith

half_9 : (w : ℕ) → w / 512 ≡ w / 512 % 2 + 2 * (w / 1024)
half_9 w = omega arith

half_10 : (w : ℕ) → w / 1024 ≡ w / 1024 % 2 + 2 * (w / 2048)
half_10 w = omega arith

half_11 : (w : ℕ) → w / 2048 ≡ w / 2048 % 2 + 2 * (w / 4096)
half_11 w = omega arith

half_12 : (w : ℕ) → w / 4096 ≡ w / 4096 % 2 + 2 * (w / 8192)
half_12 w = omega arith

pub state_words_are_read : (w : ℕ) → IsStateWord w → state_word (state_at w) ≡ w
state_words_are_read w f =
    let n0 : num (is_bit w 1) ≡ w / 1 % 2 = bit_number (w / 1 % 2) (omega arith) in
    let n1 : num (is_bit w 2) ≡ w / 2 % 2 = bit_number (w / 2 % 2) (omega arith) in
    let n2 : num (is_bit w 4) ≡ w / 4 % 2 = bit_number (w / 4 % 2) (omega arith) in
    let n3 : num (is_bit w 8) ≡ w / 8 % 2 = bit_number (w / 8 % 2) (omega arith) in
    let n4 : num (is_bit w 16) ≡ w / 16 % 2 = bit_number (w / 16 % 2) (omega arith) in
    let n5 : num (is_bit w 32) ≡ w / 32 % 2 = bit_number (w / 32 % 2) (omega arith) in
    let n6 : num (is_bit w 64) ≡ w / 64 % 2 = bit_number (w / 64 % 2) (omega arith) in
    let n7 : num (is_bit w 128) ≡ w / 128 % 2 = bit_number (w / 128 % 2) (omega arith) in
    let n8 : num (is_bit w 256) ≡ w / 256 % 2 = bit_number (w / 256 % 2) (omega arith) in
    let n9 : num (is_bit w 512) ≡ w / 512 % 2 = bit_number (w / 512 % 2) (omega arith) in
    let n10 : num (is_bit w 1024) ≡ w / 1024 % 2 = bit_number (w / 1024 % 2) (omega arith) in
    let n11 : num (is_bit w 2048) ≡ w / 2048 % 2 = bit_number (w / 2048 % 2) (omega arith) in
    let n12 : num (is_bit w 4096) ≡ w / 4096 % 2 = bit_number (w / 4096 % 2) (omega arith) in
    let s = halves (w / 1 % 2) (w / 2 % 2) (w / 4 % 2) (w / 8 % 2) (w / 16 % 2) (w / 32 % 2) (w / 64 % 2) (w / 128 % 2) (w / 256 % 2) (w / 512 % 2) (w / 1024 % 2) (w / 2048 % 2) (w / 4096 % 2) (w / 1) (w / 2) (w / 4) (w / 8) (w / 16) (w / 32) (w / 64) (w / 128) (w / 256) (w / 512) (w / 1024) (w / 2048) (w / 4096) (w / 8192) (half_0 w) (half_1 w) (half_2 w) (half_3 w) (half_4 w) (half_5 w) (half_6 w) (half_7 w) (half_8 w) (half_9 w) (half_10 w) (half_11 w) (half_12 w) in
    let top : w / 8192 ≡ 8 * (w / 65536) = (let u = f.unused in omega (arith, u)) in
    let up : w / 65536 ≡ w / 65536 % 16777216 + 16777216 * (w / 1099511627776) = omega arith in
    let high : w / 1099511627776 % 16777216 ≡ w / 1099511627776 = (let u = f.fits in omega (arith, u)) in
    sums (num (is_bit w 1)) (num (is_bit w 2)) (num (is_bit w 4)) (num (is_bit w 8)) (num (is_bit w 16)) (num (is_bit w 32)) (num (is_bit w 64)) (num (is_bit w 128)) (num (is_bit w 256)) (num (is_bit w 512)) (num (is_bit w 1024)) (num (is_bit w 2048)) (num (is_bit w 4096)) (w / 1 % 2) (w / 2 % 2) (w / 4 % 2) (w / 8 % 2) (w / 16 % 2) (w / 32 % 2) (w / 64 % 2) (w / 128 % 2) (w / 256 % 2) (w / 512 % 2) (w / 1024 % 2) (w / 2048 % 2) (w / 4096 % 2) w (w / 1) (w / 8192) (w / 65536) (w / 65536 % 16777216) (w / 1099511627776) (w / 1099511627776 % 16777216) n0 n1 n2 n3 n4 n5 n6 n7 n8 n9 n10 n11 n12 (omega arith) s top up high
  where
    sums : (m0 m1 m2 m3 m4 m5 m6 m7 m8 m9 m10 m11 m12 r0 r1 r2 r3 r4 r5 r6 r7 r8 r9 r10 r11 r12 w v a b n t c : ℕ) → m0 ≡ r0 → m1 ≡ r1 → m2 ≡ r2 → m3 ≡ r3 → m4 ≡ r4 → m5 ≡ r5 → m6 ≡ r6 → m7 ≡ r7 → m8 ≡ r8 → m9 ≡ r9 → m10 ≡ r10 → m11 ≡ r11 → m12 ≡ r12 → v ≡ w → v ≡ r0 + 2 * r1 + 4 * r2 + 8 * r3 + 16 * r4 + 32 * r5 + 64 * r6 + 128 * r7 + 256 * r8 + 512 * r9 + 1024 * r10 + 2048 * r11 + 4096 * r12 + 8192 * a → a ≡ 8 * b → b ≡ n + 16777216 * t → c ≡ t → (m0 + 2 * m1 + 4 * m2 + 8 * m3 + 16 * m4 + 32 * m5 + 64 * m6 + 128 * m7 + 256 * m8 + 512 * m9 + 1024 * m10 + 2048 * m11 + 4096 * m12) + 65536 * n + 1099511627776 * c ≡ w
    sums m0 m1 m2 m3 m4 m5 m6 m7 m8 m9 m10 m11 m12 r0 r1 r2 r3 r4 r5 r6 r7 r8 r9 r10 r11 r12 w v a b n t c h0 h1 h2 h3 h4 h5 h6 h7 h8 h9 h10 h11 h12 h13 h14 h15 h16 h17 = omega (arith, h0, h1, h2, h3, h4, h5, h6, h7, h8, h9, h10, h11, h12, h13, h14, h15, h16, h17)

op_small : (op : Op) → op_number op < 4
op_small Add = omega arith
op_small And = omega arith
op_small Or = omega arith
op_small Xor = omega arith

op_back : (op : Op) → op_at (op_number op) ≡ op
op_back Add = refl
op_back And = refl
op_back Or = refl
op_back Xor = refl

mode_small : (m : Mode) → mode_number m < 16
mode_small Read = omega arith
mode_small Write = omega arith
mode_small (Fold op) = let a = op_small op in omega (arith, a)

mode_back : (m : Mode) (k o : ℕ) → k ≡ mode_number m % 4 → o ≡ mode_number m / 4 % 4 → mode_at k o ≡ m
mode_back Read k o p q = ap (λ z. mode_at z o) p
mode_back Write k o p q = ap (λ z. mode_at z o) p
mode_back (Fold op) k o p q =
    let s = op_small op in
    let a : k ≡ 2 = p ∙ omega (arith, s) in
    let b : o ≡ op_number op = q ∙ omega (arith, s) in
    ap (λ z. mode_at z o) a ∙ ap (λ z. Fold (op_at z)) b ∙ ap (λ z. Fold z) (op_back op)

pub infos_are_read : (i : EntryInfo) → FitsInfo i → info_at (info_word i) ≡ i
infos_are_read i f =
    let s = mode_small i.mode in
    let b = num_small i.strong in
    let d = f.depth in
    let p = f.parent in
    let t = f.task in
    let m : mode_at (info_word i % 4) (info_word i / 4 % 4) ≡ i.mode = mode_back i.mode (info_word i % 4) (info_word i / 4 % 4) (low_mode (mode_number i.mode) (num i.strong) i.depth i.parent i.task) (low_op (mode_number i.mode) (num i.strong) i.depth i.parent i.task) in
    let g : is_bit (info_word i) 16 ≡ i.strong = bit_back i.strong (info_word i / 16 % 2) (at_strong (mode_number i.mode) (num i.strong) i.depth i.parent i.task s b) in
    let x : info_word i / 256 % 128 ≡ i.depth = at_depth (mode_number i.mode) (num i.strong) i.depth i.parent i.task s b d in
    let y : info_word i / 65536 % 16777216 ≡ i.parent = at_parent (mode_number i.mode) (num i.strong) i.depth i.parent i.task s b d p in
    let z : info_word i / 1099511627776 % 16777216 ≡ i.task = at_task (mode_number i.mode) (num i.strong) i.depth i.parent i.task s b d p t in
    λ j. record { mode = m j; strong = g j; depth = x j; parent = y j; task = z j }
  where
    low_mode : (m b d p t : ℕ) → (m + 16 * b + 256 * d + 65536 * p + 1099511627776 * t) % 4 ≡ m % 4
    low_mode m b d p t = omega arith

    low_op : (m b d p t : ℕ) → (m + 16 * b + 256 * d + 65536 * p + 1099511627776 * t) / 4 % 4 ≡ m / 4 % 4
    low_op m b d p t = omega arith

    at_strong : (m b d p t : ℕ) → m < 16 → b ≤ 1 → (m + 16 * b + 256 * d + 65536 * p + 1099511627776 * t) / 16 % 2 ≡ b
    at_strong m b d p t h k = omega (arith, h, k)

    at_depth : (m b d p t : ℕ) → m < 16 → b ≤ 1 → d < 128 → (m + 16 * b + 256 * d + 65536 * p + 1099511627776 * t) / 256 % 128 ≡ d
    at_depth m b d p t h k l = omega (arith, h, k, l)

    at_parent : (m b d p t : ℕ) → m < 16 → b ≤ 1 → d < 128 → p < 16777216 → (m + 16 * b + 256 * d + 65536 * p + 1099511627776 * t) / 65536 % 16777216 ≡ p
    at_parent m b d p t h k l q = omega (arith, h, k, l, q)

    at_task : (m b d p t : ℕ) → m < 16 → b ≤ 1 → d < 128 → p < 16777216 → t < 16777216 → (m + 16 * b + 256 * d + 65536 * p + 1099511627776 * t) / 1099511627776 % 16777216 ≡ t
    at_task m b d p t h k l q r = omega (arith, h, k, l, q, r)

op_forth : (o : ℕ) → o < 4 → op_number (op_at o) ≡ o
op_forth zero l = refl
op_forth (suc zero) l = refl
op_forth (suc (suc zero)) l = refl
op_forth (suc (suc (suc zero))) l = refl
op_forth (suc (suc (suc (suc o)))) l = absurd (omega (arith, l))

mode_forth : (k o : ℕ) → o < 4 → (k ≡ 2) ⊎ ((k < 2) × (o ≡ 0)) → mode_number (mode_at k o) ≡ k + 4 * o
mode_forth zero o l (inl e) = absurd (omega (arith, e))
mode_forth zero o l (inr e) = let z = e.1 in omega (arith, z)
mode_forth (suc zero) o l (inl e) = absurd (omega (arith, e))
mode_forth (suc zero) o l (inr e) = let z = e.1 in omega (arith, z)
mode_forth (suc (suc zero)) o l e = let z = op_forth o l in omega (arith, z)
mode_forth (suc (suc (suc k))) o l (inl e) = absurd (omega (arith, e))
mode_forth (suc (suc (suc k))) o l (inr e) = let z = e.0 in absurd (omega (arith, z))

pub info_words_are_read : (w : ℕ) → IsInfoWord w → info_word (info_at w) ≡ w
info_words_are_read w f =
    let m = mode_forth (w % 4) (w / 4 % 4) (omega arith) f.mode in
    let b : num (is_bit w 16) ≡ w / 16 % 2 = bit_number (w / 16 % 2) (omega arith) in
    let u = f.unused.0 in
    let v = f.unused.1 in
    let a0 : w ≡ w % 4 + 4 * (w / 4) = omega arith in
    let a1 : w / 4 ≡ w / 4 % 4 + 4 * (w / 16) = omega arith in
    let a2 : w / 16 ≡ w / 16 % 2 + 2 * (w / 32) = omega arith in
    let a3 : w / 32 ≡ 8 * (w / 256) = omega (arith, u) in
    let a4 : w / 256 ≡ w / 256 % 128 + 128 * (w / 32768) = omega arith in
    let a5 : w / 32768 ≡ 2 * (w / 65536) = omega (arith, v) in
    let a6 : w / 65536 ≡ w / 65536 % 16777216 + 16777216 * (w / 1099511627776) = omega arith in
    let a7 : w / 1099511627776 % 16777216 ≡ w / 1099511627776 = (let l = f.fits in omega (arith, l)) in
    sums (mode_number (mode_at (w % 4) (w / 4 % 4))) (num (is_bit w 16)) w (w % 4) (w / 4) (w / 4 % 4) (w / 16) (w / 16 % 2) (w / 32) (w / 256) (w / 256 % 128) (w / 32768) (w / 65536) (w / 65536 % 16777216) (w / 1099511627776) (w / 1099511627776 % 16777216) m b a0 a1 a2 a3 a4 a5 a6 a7
  where
    sums : (m b w k x o y s z d e g p q t c : ℕ) → m ≡ k + 4 * o → b ≡ s → w ≡ k + 4 * x → x ≡ o + 4 * y → y ≡ s + 2 * z → z ≡ 8 * d → d ≡ e + 128 * g → g ≡ 2 * p → p ≡ q + 16777216 * t → c ≡ t → m + 16 * b + 256 * e + 65536 * q + 1099511627776 * c ≡ w
    sums m b w k x o y s z d e g p q t c h0 h1 h2 h3 h4 h5 h6 h7 h8 h9 = omega (arith, h0, h1, h2, h3, h4, h5, h6, h7, h8, h9)

off_number : (b : Bool) → b ≡ false → num b ≡ 0
off_number true e = absurd (cc)
off_number false e = refl

zero_times : (n : ℕ) → 0 * n ≡ 0
zero_times n = omega arith

-- a bit that is not set is added
or_unset : (s k : ℕ) → s / 2 ^ k % 2 ≡ 0 → bit_or s (2 ^ k) ≡ s + 2 ^ k
or_unset s k e = or_disjoint s (2 ^ k) (and_pow s k ∙ ap (λ z. z * 2 ^ k) e ∙ zero_times (2 ^ k))

pub flags_are_bits : (a c : EntryState) (f : ℕ) → FitsWord a → Sets a c f → bit_or (state_word a) (weight f) ≡ state_word c
flags_are_bits a c f w (sets_done o q) =
    let z = off_number a.done o in
    let p = or_unset (state_word a) 4 (place_4 (num a.reads) (num a.folds) (num a.writes) (num a.given) (num a.done) (num a.clear) (num a.linked) (num a.headed) (num a.left) (num a.next_folds) (num a.next_same) (num a.child_folds) (num a.child_same) a.next a.child (num_small a.reads) (num_small a.folds) (num_small a.writes) (num_small a.given) (num_small a.done) (num_small a.clear) (num_small a.linked) (num_small a.headed) (num_small a.left) (num_small a.next_folds) (num_small a.next_same) (num_small a.child_folds) (num_small a.child_same) ∙ z) in
    (p ∙ omega (arith, z)) ∙ ap state_word (sym q)
flags_are_bits a c f w (sets_folds o q) =
    let z = off_number a.folds o in
    let p = or_unset (state_word a) 1 (place_1 (num a.reads) (num a.folds) (num a.writes) (num a.given) (num a.done) (num a.clear) (num a.linked) (num a.headed) (num a.left) (num a.next_folds) (num a.next_same) (num a.child_folds) (num a.child_same) a.next a.child (num_small a.reads) (num_small a.folds) (num_small a.writes) (num_small a.given) (num_small a.done) (num_small a.clear) (num_small a.linked) (num_small a.headed) (num_small a.left) (num_small a.next_folds) (num_small a.next_same) (num_small a.child_folds) (num_small a.child_same) ∙ z) in
    (p ∙ omega (arith, z)) ∙ ap state_word (sym q)
flags_are_bits a c f w (sets_reads o q) =
    let z = off_number a.reads o in
    let p = or_unset (state_word a) 0 (place_0 (num a.reads) (num a.folds) (num a.writes) (num a.given) (num a.done) (num a.clear) (num a.linked) (num a.headed) (num a.left) (num a.next_folds) (num a.next_same) (num a.child_folds) (num a.child_same) a.next a.child (num_small a.reads) (num_small a.folds) (num_small a.writes) (num_small a.given) (num_small a.done) (num_small a.clear) (num_small a.linked) (num_small a.headed) (num_small a.left) (num_small a.next_folds) (num_small a.next_same) (num_small a.child_folds) (num_small a.child_same) ∙ z) in
    (p ∙ omega (arith, z)) ∙ ap state_word (sym q)
flags_are_bits a c f w (sets_writes o q) =
    let z = off_number a.writes o in
    let p = or_unset (state_word a) 2 (place_2 (num a.reads) (num a.folds) (num a.writes) (num a.given) (num a.done) (num a.clear) (num a.linked) (num a.headed) (num a.left) (num a.next_folds) (num a.next_same) (num a.child_folds) (num a.child_same) a.next a.child (num_small a.reads) (num_small a.folds) (num_small a.writes) (num_small a.given) (num_small a.done) (num_small a.clear) (num_small a.linked) (num_small a.headed) (num_small a.left) (num_small a.next_folds) (num_small a.next_same) (num_small a.child_folds) (num_small a.child_same) ∙ z) in
    (p ∙ omega (arith, z)) ∙ ap state_word (sym q)
flags_are_bits a c f w (sets_clear o q) =
    let z = off_number a.clear o in
    let p = or_unset (state_word a) 5 (place_5 (num a.reads) (num a.folds) (num a.writes) (num a.given) (num a.done) (num a.clear) (num a.linked) (num a.headed) (num a.left) (num a.next_folds) (num a.next_same) (num a.child_folds) (num a.child_same) a.next a.child (num_small a.reads) (num_small a.folds) (num_small a.writes) (num_small a.given) (num_small a.done) (num_small a.clear) (num_small a.linked) (num_small a.headed) (num_small a.left) (num_small a.next_folds) (num_small a.next_same) (num_small a.child_folds) (num_small a.child_same) ∙ z) in
    (p ∙ omega (arith, z)) ∙ ap state_word (sym q)
