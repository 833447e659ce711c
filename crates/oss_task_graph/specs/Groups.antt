-- The groups of an access list, and which access stands on which. The accesses of the children of one task to one cell form a list in order of creation. It falls into groups: a write is one of its own,
-- and else neighbours are of one group that all read, or that all fold by one operator. An access stands on those of the group directly before its own.
-- A list is given by the right of each child to the cell, by the child's number; a child without the cell, and one that runs in its creator's body, has none.
-- Read against the worked pictures. `out(x)`, `in(x)`, `in(x)`, `inout(x)` are the groups 0 | 1 2 | 3: 1 and 2 stand on 0, and 3 on 1 and 2, not on 0. Four reductions by `+` and a read are the groups 0 1 2 3 | 4: 4 stands
-- on each of the four, and none of these on another. On s, two reductions by `+`, two by `|` and one by `+` are 0 1 | 2 3 | 4: 2 and 3 each stand on 0 and 1, and 4 on 2 and 3. `weakinout(a)`, then
-- `in(a[2;2])`: on a[2] and a[3] the groups are 0 | 1, and on a[0] and a[1] the list has child 0 alone. A task with `final` and its creator's next child: what it includes has no place in a list.
use Rattle.std.specs.Prelude.{◌≡◌, ◌<◌, ℕ, Bool, true, false}
use Rattle.oss_syntax.specs.declared.access.Mode.TheVariants.{Fold, Read}
use Rattle.oss_model.specs.Rights.{Holds, Right, op_eq}

-- the child has an access to the cell
abbrev pub is_held : Right → Bool
is_held (Holds mode strong) = true
is_held _ = false

-- Neighbours with these rights are of one group: both read, or both fold by one operator.
abbrev pub go_together : Right → Right → Bool
go_together (Holds Read strong) (Holds Read other) = true
go_together (Holds (Fold a) strong) (Holds (Fold b) other) = op_eq a b
go_together _ _ = false

-- The second child has the next access of the list after that of the first.
pub record AreNeighbours (rights : ℕ → Right) (j k : ℕ) : Type 0 where
  pub rises : j < k
  pub first : is_held (rights j) ≡ true
  pub second : is_held (rights k) ≡ true
  pub between : (i : ℕ) → j < i → i < k → is_held (rights i) ≡ true → ⊥

-- From the first child's access to the second's all neighbours are of one group.
pub data AreOneGroup (rights : ℕ → Right) (i : ℕ) : ℕ → Type 0 where
  same : AreOneGroup rights i i
  next : {j k : ℕ} → AreOneGroup rights i j → AreNeighbours rights j k → go_together (rights j) (rights k) ≡ true → AreOneGroup rights i k

-- The group of the first child's access stands directly before that of the second's: it ends with one neighbour, and the other begins the next.
pub record StandsOn (rights : ℕ → Right) (j k : ℕ) : Type 0 where
  pub last : ℕ
  pub first : ℕ
  pub before : AreOneGroup rights j last
  pub neighbours : AreNeighbours rights last first
  pub apart : go_together (rights last) (rights first) ≡ false
  pub behind : AreOneGroup rights first k

-- both have a strong access
abbrev pub are_strong : Right → Right → Bool
are_strong (Holds mode true) (Holds other true) = true
are_strong _ _ = false
