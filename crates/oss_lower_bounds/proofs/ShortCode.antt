-- Lists of instructions: how many they are, and behind how many values they stand.
use Rattle.std.proofs.Common.{ℕ, ◌+◌, ◌≤◌, List, [], ◌∷◌, ◌++◌, length, arith, length-append}
use Rattle.oss_code.specs.declared.instr.Instr.{Instr}
use Rattle.oss_lower_laws.specs.declared.lined.Lined.{Lined}
use Rattle.oss_lower_laws.specs.ExpressionCode.{Pushes, one, then_one, then_two}

-- no instruction here stands behind more values than this
abbrev pub AreShallow : ℕ → List Lined → Type 0
AreShallow most [] = Unit {0}
AreShallow most (l ∷ rest) = (l.depth ≤ most) × AreShallow most rest

-- So many instructions at most, none of which stands behind more values than this.
pub record IsShortList (count most : ℕ) (ls : List Lined) : Type 0 where
  pub few : length ls ≤ count
  pub shallow : AreShallow most ls

shallow_append : (most : ℕ) (xs ys : List Lined) → AreShallow most xs → AreShallow most ys → AreShallow most (xs ++ ys)
shallow_append most [] ys h k = k
shallow_append most (x ∷ xs) ys h k = (h.0, shallow_append most xs ys h.1 k)

pub shallow_more : (most more : ℕ) (xs : List Lined) → most ≤ more → AreShallow most xs → AreShallow more xs
shallow_more most more [] le h = tt
shallow_more most more (x ∷ xs) le h = (omega (arith, le, h.0), shallow_more most more xs le h.1)

pub short_none : (most : ℕ) → IsShortList 0 most []
short_none most = record { few = omega arith; shallow = tt }

pub short_one : (line depth most : ℕ) (what : Instr) → depth ≤ most → IsShortList 1 most (one line depth what)
short_one line depth most what le = record { few = omega arith; shallow = (le, tt) }

pub short_then : {a b most : ℕ} {xs ys : List Lined} → IsShortList a most xs → IsShortList b most ys → IsShortList (a + b) most (xs ++ ys)
short_then {most = most} {xs = xs} {ys = ys} h k =
    record { few = omega (arith, length-append xs ys, h.few, k.few); shallow = shallow_append most xs ys h.shallow k.shallow }

-- more instructions, and more values
pub short_as : (a b most more : ℕ) {xs : List Lined} → IsShortList a most xs → a ≤ b → most ≤ more → IsShortList b more xs
short_as a b most more {xs = xs} h few deep = record { few = omega (arith, h.few, few); shallow = shallow_more most more xs deep h.shallow }

pub deeper : (a most more : ℕ) {xs : List Lined} → IsShortList a most xs → most ≤ more → IsShortList a more xs
deeper a most more h deep = short_as a a most more h (omega arith) deep

-- The same of instructions wherever they stand: none of them stands behind more values than so many more.
abbrev pub ArePushes : ℕ → ℕ → Pushes → Type 0
ArePushes count more p = (line depth : ℕ) → IsShortList count (depth + more) (p line depth)

pub pushes_as : (p : Pushes) (a b more most : ℕ) → ArePushes a more p → a ≤ b → more ≤ most → ArePushes b most p
pushes_as p a b more most h few deep line depth = short_as a b (depth + more) (depth + most) (h line depth) few (omega (arith, deep))

-- one instruction
pub pushed : (what : Instr) → ArePushes 1 0 (λ line depth. one line depth what)
pushed what line depth = short_one line depth (depth + 0) what (omega arith)

-- a part, and one instruction on its value
pub one_more : (p : Pushes) (what : Instr) (a n : ℕ) → ArePushes a n p → 1 ≤ n → ArePushes (a + 1) n (then_one p what)
one_more p what a n h some line depth = short_then (h line depth) (short_one line (depth + 1) (depth + n) what (omega (arith, some)))

-- two parts, and one instruction on their values
pub two_more : (p q : Pushes) (what : Instr) (a b m n : ℕ) → ArePushes a m p → ArePushes b n q → 1 ≤ m → 1 ≤ n → ArePushes (a + (b + 1)) (1 + (m + n)) (then_two p q what)
two_more p q what a b m n h k left right line depth =
    short_then (deeper a (depth + m) (depth + (1 + (m + n))) (h line depth) (omega arith))
    (short_then (deeper b (depth + 1 + n) (depth + (1 + (m + n))) (k line (depth + 1)) (omega arith)) (short_one line (depth + 2) (depth + (1 + (m + n))) what (omega (arith, left, right))))
