-- The accesses to one cell as a forest: the access of a task, and below it those of its children; and when an
-- access is done, and satisfied.
-- After Perez, Beltran, Labarta and Ayguadé (IPDPS 2017): an access holds back later siblings until it and all
-- below it are done, and what nothing earlier holds back on any level may begin; weak accesses pass that on to
-- the children. The runtime of Álvarez, Sala, Maroñas, Roca and Beltran (PPoPP 2021) moves the same facts by
-- messages between neighbours; here they are said outright.
-- Read against: weakinout(a) over two children with out(a[0;2]) and out(a[2;2]), and a later task in(a[0]),
-- which waits for the end of the weak task's body and for the first child, and not for the second.
use Rattle.std.specs.Prelude.{◌≡◌, ◌⊎◌}
use Rattle.oss_syntax.specs.declared.access.Mode.{Mode}
use Rattle.oss_syntax.specs.declared.access.Op.{Op}
use Rattle.oss_syntax.specs.declared.access.Mode.TheVariants.{Read, Write, Fold}

-- A forest of accesses to one cell.
pub record Forest (K : Type 0) : Type 1 where
  -- it is an access of a child of main
  pub Top : K → Type 0
  -- the second is an access of a child of the first one's task
  pub Child : K → K → Type 0
  -- the first is an access of an earlier sibling
  pub Earlier : K → K → Type 0
  pub mode : K → Mode
  -- the task has given up the cell
  pub Given : K → Type 0

-- The task has given up the cell, and each access of its children to the cell is done.
pub data IsDone {K : Type 0} (F : Forest K) : K → Type 0 where
  done : {u : K} → F.Given u → ((v : K) → F.Child u v → IsDone F v) → IsDone F u

-- Nothing earlier stands in the way of a write: nothing does on the level above, and each earlier sibling's
-- access is done.
pub data IsWriteSatisfied {K : Type 0} (F : Forest K) : K → Type 0 where
  write_top : {v : K} → F.Top v → ((u : K) → F.Earlier u v → IsDone F u) → IsWriteSatisfied F v
  write_child : {p v : K} → F.Child p v → IsWriteSatisfied F p → ((u : K) → F.Earlier u v → IsDone F u) → IsWriteSatisfied F v

-- The mode is Read.
abbrev pub IsRead : Mode → Type 0
IsRead Read = Unit {0}
IsRead Write = ⊥
IsRead (Fold op) = ⊥

-- Nothing earlier stands in the way of a read: on no level an access of another mode that is not done.
pub data IsReadSatisfied {K : Type 0} (F : Forest K) : K → Type 0 where
  read_top : {v : K} → F.Top v → ((u : K) → F.Earlier u v → (IsRead (F.mode u) → ⊥) → IsDone F u) → IsReadSatisfied F v
  read_child : {p v : K} → F.Child p v → IsReadSatisfied F p → ((u : K) → F.Earlier u v → (IsRead (F.mode u) → ⊥) → IsDone F u) → IsReadSatisfied F v

-- The accesses from u up to v are all folds of this operator.
pub record InRun {K : Type 0} (F : Forest K) (op : Op) (u v : K) : Type 0 where
  pub first : F.mode u ≡ Fold op
  pub between : (w : K) → F.Earlier u w → F.Earlier w v → F.mode w ≡ Fold op

-- Nothing earlier stands in the way of the join of a fold into the cell: each earlier sibling's access is done,
-- but for the unbroken run of the same fold up to this one, and the same holds above, where a write is
-- satisfied if the access above is one.
pub data IsJoinSatisfied {K : Type 0} (F : Forest K) (op : Op) : K → Type 0 where
  join_top : {v : K} → F.Top v → ((u : K) → F.Earlier u v → InRun F op u v ⊎ IsDone F u) → IsJoinSatisfied F op v
  join_below_fold : {p v : K} → F.Child p v → F.mode p ≡ Fold op → IsJoinSatisfied F op p → ((u : K) → F.Earlier u v → InRun F op u v ⊎ IsDone F u) → IsJoinSatisfied F op v
  join_below_write : {p v : K} → F.Child p v → F.mode p ≡ Write → IsWriteSatisfied F p → ((u : K) → F.Earlier u v → InRun F op u v ⊎ IsDone F u) → IsJoinSatisfied F op v
