-- Places in arrays of two dimensions lie among the cells of the array.
use Rattle.std.proofs.Common.{ℕ, ◌+◌, ◌*◌, ◌≤◌, arith}
use Rattle.std.proofs.Math.Nat.{mul-le-mul_right}

-- the cells of so many rows from one on, and of so many columns in each
pub grid_fits : (start rows columns row down column across : ℕ) → start + rows * columns ≤ 1048576 → row + down ≤ rows → column + across ≤ columns → start + (row * columns + column) + down * columns + across ≤ 1048576 + columns
grid_fits start rows columns row down column across fits low left = omega (arith, mul-le-mul_right columns low)
