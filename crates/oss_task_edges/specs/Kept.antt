-- What is kept of the access lists of a task's children is right: of each cell its last group, and the one before it.
-- Read against: behind `out(x)`, `in(x)`, `in(x)` by the children 0, 1 and 2 of the cell of x are kept: the group 2, 1 with the newest member 2, and before it the group 0. Behind a further `inout(x)`: the group 3 alone, since
-- nothing more comes into it. Of a cell without an access nothing is kept.
use Rattle.std.specs.Prelude.{◌≡◌, ◌≤◌, ◌<◌, ℕ, ◌+◌, ◌||◌, Bool, true, false, List, if◌then◌else◌, slice_get, Option, Some, None}
use Rattle.oss_syntax.specs.declared.access.Access.{Access}
use Rattle.oss_syntax.specs.declared.access.Mode.{Mode}
use Rattle.oss_syntax.specs.declared.access.Mode.TheVariants.{Write}
use Rattle.oss_judge.specs.Joined.{held_right}
use Rattle.oss_model.specs.Context.{in_clauses}
use Rattle.oss_model.specs.Order.{IsIn}
use Rattle.oss_model.specs.Rights.{Holds, Right, right_from}
use Rattle.oss_ranges.specs.Cells.{is_within, value_at}
use Rattle.oss_task_graph.specs.Edges.{Accesses, StandsAt}
use Rattle.oss_task_graph.specs.Groups.{AreOneGroup, StandsOn, is_held}
use Rattle.oss_task_edges.specs.declared.groups.Groups.{Groups}
use Rattle.oss_task_edges.specs.declared.members.Member.{Member}
use Rattle.oss_task_edges.specs.declared.part.Part.{Part}
use Rattle.oss_task_edges.specs.declared.siblings.Siblings.{Siblings}
use Rattle.oss_task_edges.specs.Members.{IsChain}
use Rattle.oss_task_edges.specs.Parts.{HasPart, IsPart}

-- the access is strong
abbrev pub is_strong : Right → Bool
is_strong (Holds mode strong) = strong
is_strong _ = false

-- Of the children those that are in a relation, each with whether its access is strong.
pub record AreMembers (rights : ℕ → Right) (R : ℕ → Type 0) (ms : List Member) : Type 0 where
  pub only : (m : Member) → IsIn m ms → R m.child × (m.strong ≡ is_strong (rights m.child))
  pub every : (j : ℕ) → R j → (m : Member) × (IsIn m ms × (m.child ≡ j))

-- The group of which the newest member stands here has these children.
pub record HasGroup (rights : ℕ → Right) (members : List Member) (newest : Option ℕ) (R : ℕ → Type 0) : Type 0 where
  pub group : List Member
  pub chain : IsChain members newest group
  pub are : AreMembers rights R group

-- The child is the last one with the cell of those before this number.
pub record IsLast (rights : ℕ → Right) (n k : ℕ) : Type 0 where
  pub below : k < n
  pub held : is_held (rights k) ≡ true
  pub none : (i : ℕ) → k < i → i < n → is_held (rights i) ≡ true → ⊥

-- The groups of one cell are kept, of the accesses of the children before this number: the last group by its newest member, and the one before it unless that newest member writes.
pub record AreGroups (rights : ℕ → Right) (n : ℕ) (members : List Member) (g : Groups) : Type 0 where
  pub last : ℕ
  pub is_last : IsLast rights n last
  pub newest : Member
  pub there : slice_get members g.now ≡ Some newest
  pub right : rights last ≡ Holds newest.mode newest.strong
  pub now : HasGroup rights members (Some g.now) (λ j. AreOneGroup rights j last)
  pub before : (newest.mode ≡ Write → ⊥) → HasGroup rights members g.before (λ j. StandsOn rights j last)

-- What is kept of a cell is right: nothing if no child before this number has it.
abbrev pub KeptAt : (ℕ → Right) → ℕ → List Member → Option Groups → Type 0
KeptAt rights n members None = (i : ℕ) → i < n → is_held (rights i) ≡ true → ⊥
KeptAt rights n members (Some g) = AreGroups rights n members g

-- What is kept is right, of the accesses of the children before this number.
abbrev pub Keeps : Accesses → ℕ → Siblings → Type 0
Keeps accesses n s = (c : ℕ) → KeptAt (λ i. accesses i c) n s.members (value_at s.cells.pieces c)

-- These are the accesses of the child with this number.
abbrev pub HasAccesses : Accesses → ℕ → List Access → Type 0
HasAccesses accesses n clauses = (c : ℕ) → right_from false clauses c ≡ held_right (accesses n c)

-- The child with this number is entered at some cells, and these are the parts of its edges there.
pub record IsEntered (accesses : Accesses) (n : ℕ) (done : ℕ → Bool) (s : Siblings) (parts : List Part) : Type 0 where
  pub kept : (c : ℕ) → KeptAt (λ i. accesses i c) (if done c then n + 1 else n) s.members (value_at s.cells.pieces c)
  pub only : (p : Part) → IsIn p parts → IsPart accesses n p
  pub every : (j c : ℕ) → done c ≡ true → StandsAt accesses j n c → HasPart parts j c

-- The child with this number is entered at the cells of a range, which it has by this access.
abbrev pub Enters : ℕ → Mode → Bool → ℕ → ℕ → Siblings → Siblings → List Part → List Part → Type 0
Enters n mode strong from to old new was now =
    (accesses : Accesses) (done : ℕ → Bool) → ((c : ℕ) → from ≤ c → c < to → done c ≡ false) → ((c : ℕ) → from ≤ c → c < to → accesses n c ≡ Holds mode strong)
    → IsEntered accesses n done old was → IsEntered accesses n (λ c. done c || is_within from to c) new now

-- The child with this number is entered with all of these accesses, and these are the parts of its edges.
abbrev pub AreEntered : ℕ → List Access → Siblings → Siblings → List Part → Type 0
AreEntered n clauses old new parts = (accesses : Accesses) → Keeps accesses n old → HasAccesses accesses n clauses → IsEntered accesses n (λ c. in_clauses clauses c) new parts
