-- The flags of an access, what each one means, and how they move along the lists.
-- After Álvarez, Sala, Maroñas, Roca and Beltran (PPoPP 2021): a flag is set once, and moves to the next sibling, to the first child,
-- and from the last child up.
-- Read against: the accesses 1 to 5 of `Wires`, at rest, each told by the number of its flags. Before anything is given up: 37, 37, 0, 0,
-- 0, so 1 and its child 2 may read and write, and nothing stands before them. Once 1 is given up: 45, 37, 0, 0, 0, so 1 is given and not
-- done, since 2 is not. Once 2 is too: 61, 61, 39, 2, 0, so both are done, 3 may do all and 4 may be joined, and the read waits. Once 4 is:
-- 61, 61, 39, 26, 0, so 4 is done, and the read waits for 3. Once 3 is: 61, 61, 63, 63, 37.
use Rattle.std.specs.Prelude.{◌≡◌, ℕ, ◌+◌, ◌⊎◌, ◌&&◌, ◌||◌, if◌then◌else◌, Bool, true, false}
use Rattle.oss_syntax.specs.declared.access.Mode.{Mode}
use Rattle.oss_syntax.specs.declared.access.Op.{Op}
use Rattle.oss_syntax.specs.declared.access.Mode.TheVariants.{Read, Write, Fold}
use Rattle.oss_model.specs.Rights.{op_eq}
use Rattle.oss_model.specs.Forest.{IsDone, IsWriteSatisfied, IsReadSatisfied, IsJoinSatisfied}
use Rattle.oss_access_lists.specs.declared.marks.Marks.{Marks}
use Rattle.oss_access_lists.specs.Wires.{Wires, wired, AreWired, first, after, IsBelow, IsBefore}

-- The six flags.
pub data Flag : Type 0 where
  MayRead : Flag
  MayJoin : Flag
  MayWrite : Flag
  Given : Flag
  Done : Flag
  Clear : Flag

-- The flag is among these.
abbrev pub has : Flag → Marks → Bool
has MayRead x = x.reads
has MayJoin x = x.joins
has MayWrite x = x.writes
has Given x = x.given
has Done x = x.done
has Clear x = x.clear

-- What a flag counts in a number of flags.
abbrev pub bit : Bool → ℕ → ℕ
bit true weight = weight
bit false weight = 0

-- The flags as a number: may read counts 1, may join 2, may write 4, given 8, done 16, and clear 32.
abbrev pub bits_of : Marks → ℕ
bits_of x = bit x.reads 1 + bit x.joins 2 + bit x.writes 4 + bit x.given 8 + bit x.done 16 + bit x.clear 32

-- What a flag of an access says: nothing earlier stands in the way of a read, of the join of the reduction that it is, or of a write; the
-- task has given up the cell; that, and the accesses of its children are done; all earlier siblings' accesses are done.
abbrev pub Means : Wires → Flag → ℕ → Type 0
Means w MayRead v = IsReadSatisfied (wired w) v
Means w MayJoin v = (op : Op) × (w.mode v ≡ Fold op) × IsJoinSatisfied (wired w) op v
Means w MayWrite v = IsWriteSatisfied (wired w) v
Means w Given v = w.gave v ≡ true
Means w Done v = IsDone (wired w) v
Means w Clear v = (u : ℕ) → IsBefore w.place u v → IsDone (wired w) u

-- It reads.
abbrev pub is_read : Mode → Bool
is_read Read = true
is_read Write = false
is_read (Fold op) = false

-- It is a reduction.
abbrev pub is_fold : Mode → Bool
is_fold (Fold op) = true
is_fold Read = false
is_fold Write = false

-- Both are reductions by one operator.
abbrev pub same_fold : Mode → Mode → Bool
same_fold (Fold a) (Fold b) = op_eq a b
same_fold (Fold a) Read = false
same_fold (Fold a) Write = false
same_fold Read n = false
same_fold Write n = false

-- It is given and done.
abbrev pub is_over : Marks → Bool
is_over x = x.given && x.done

-- What goes from an access with these flags to the next sibling, by the modes of both. That the next may read: where this one may, if it
-- is a read or is over. That the next may be joined, if it is a reduction: where this one may, if it is the same reduction, and else
-- where this one may write and is over. That the next may write, and that all before it is done: where this is so of this one, and it is
-- over.
abbrev pub to_next : Mode → Mode → Marks → Marks
to_next m n x = record {
  reads = x.reads && (is_read m || is_over x);
  joins = is_fold n && (if same_fold m n then x.joins else (x.writes && is_over x));
  writes = x.writes && is_over x;
  given = false;
  done = false;
  clear = x.clear && is_over x;
}

-- What goes to the first child, by the modes of both: that it may read and write where its creator may; that it may be joined, if it is a
-- reduction, where its creator may, if that is the same reduction, and else where its creator may write; and that nothing stands before it.
abbrev pub to_child : Mode → Mode → Marks → Marks
to_child m n x = record {
  reads = x.reads;
  joins = is_fold n && (if same_fold m n then x.joins else x.writes);
  writes = x.writes;
  given = false;
  done = false;
  clear = true;
}

-- The access and all before it in its list are done: what goes up from the last child, once the access above is given up.
abbrev pub is_whole : Marks → Bool
is_whole x = x.clear && is_over x

-- A flag is due at an access by the flags F that stand: the one before sends it, the one above does, or the last child, which is whole;
-- the task has given up the cell; or it has, and no child has an access to the cell.
pub data IsDue (w : Wires) (F : ℕ → Marks) : Flag → ℕ → Type 0 where
  from_before : {f : Flag} (v : ℕ) {t : ℕ} → w.place t ≡ after v → has f (to_next (w.mode v) (w.mode t) (F v)) ≡ true → IsDue w F f t
  from_above : {f : Flag} (v : ℕ) {t : ℕ} → w.place t ≡ first v → has f (to_child (w.mode v) (w.mode t) (F v)) ≡ true → IsDue w F f t
  from_last : (v : ℕ) {t : ℕ} → w.gave t ≡ true → w.last t ≡ v → (v ≡ 0 → ⊥) → is_whole (F v) ≡ true → IsDue w F Done t
  given : {t : ℕ} → w.gave t ≡ true → IsDue w F Given t
  bare : {t : ℕ} → w.gave t ≡ true → w.last t ≡ 0 → IsDue w F Done t

-- All flags of all accesses but main's are so.
abbrev pub AreSo : Wires → (ℕ → Marks) → Type 0
AreSo w F = (f : Flag) (v : ℕ) → (v ≡ 0 → ⊥) → has f (F v) ≡ true → Means w f v

-- The flag stands at the access, or waits there: F are the flags that stand, and P those that wait.
abbrev pub IsTold : (ℕ → Marks) → (ℕ → Marks) → Flag → ℕ → Type 0
IsTold F P f v = (has f (F v) ≡ true) ⊎ (has f (P v) ≡ true)

-- All that is due stands or waits; and what stands or waits is so. Main may read and write from the start.
pub record Stands (w : Wires) (F P : ℕ → Marks) : Type 0 where
  pub wired : AreWired w
  pub sound : AreSo w F
  pub posted : AreSo w P
  pub told : (f : Flag) (v : ℕ) → IsDue w F f v → IsTold F P f v
  pub main_reads : (F 0).reads ≡ true
  pub main_writes : (F 0).writes ≡ true

-- All that is due stands, and what stands is so.
pub record AreAtRest (w : Wires) (F : ℕ → Marks) : Type 0 where
  pub wired : AreWired w
  pub sound : AreSo w F
  pub due : (f : Flag) (v : ℕ) → IsDue w F f v → has f (F v) ≡ true
  pub main_reads : (F 0).reads ≡ true
  pub main_writes : (F 0).writes ≡ true

-- The access hangs in a list.
abbrev pub IsListed : Wires → ℕ → Type 0
IsListed w v = (p : ℕ) × IsBelow w.place p v

-- The flag stands exactly where what it says is so.
pub record IsExact (w : Wires) (F : ℕ → Marks) (f : Flag) (v : ℕ) : Type 0 where
  pub sound : has f (F v) ≡ true → Means w f v
  pub complete : Means w f v → has f (F v) ≡ true

-- All accesses in the list of p are done.
abbrev pub AreBelowDone : Wires → ℕ → Type 0
AreBelowDone w p = (u : ℕ) → IsBelow w.place p u → IsDone (wired w) u

-- The flags of the access v tell exactly whether all accesses in the list of p are done.
pub record TellsOfAll (w : Wires) (F : ℕ → Marks) (p v : ℕ) : Type 0 where
  pub sound : is_whole (F v) ≡ true → AreBelowDone w p
  pub complete : AreBelowDone w p → is_whole (F v) ≡ true
