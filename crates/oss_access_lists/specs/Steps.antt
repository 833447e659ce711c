-- How the lists and the flags change: an access is hung behind the last of a list; a task gives up the cell; an access gets the flags
-- that wait for it.
-- Read against: in `Wires`, 4 is hung in the list of 0, whose last was 3, and stands after 3 then; 1 is given up, which posts that it is
-- given, and not that it is done, since the list of 1 has 2; when 2 is given up, that it is given and done is posted to 2, is delivered
-- there, and posts to 1 that it is done.
use Rattle.std.specs.Prelude.{◌≡◌, ℕ, ◌<◌, ◌⊎◌, true, false}
use Rattle.oss_syntax.specs.declared.access.Mode.TheVariants.{Write}
use Rattle.oss_model.specs.Rights.{covers}
use Rattle.oss_access_lists.specs.declared.marks.Marks.{Marks}
use Rattle.oss_access_lists.specs.Wires.{Wires, loose, first, after}
use Rattle.oss_access_lists.specs.Flags.{Flag, Given, Done, has, to_next, to_child, is_whole, IsDue, IsTold}

-- At the beginning nothing hangs and nothing is given up; main may read and write, no other access has a flag, and none waits.
pub record IsBeginning (w : Wires) (F P : ℕ → Marks) : Type 0 where
  pub loose_all : (v : ℕ) → w.place v ≡ loose
  pub no_last : (v : ℕ) → w.last v ≡ 0
  pub held : (v : ℕ) → w.gave v ≡ false
  pub main_mode : w.mode 0 ≡ Write
  pub main_reads : (F 0).reads ≡ true
  pub main_writes : (F 0).writes ≡ true
  pub bare : (f : Flag) (v : ℕ) → (v ≡ 0 → ⊥) → has f (F v) ≡ false
  pub quiet : (f : Flag) (v : ℕ) → has f (P v) ≡ false

-- The access e is hung at the end of the list of p: it hung nowhere before, its own list is empty, the task of p holds the cell, the mode
-- of p covers that of e, and all else is as before.
pub record IsHung (w n : Wires) (p e : ℕ) : Type 0 where
  pub above : p < e
  pub behind : w.last p < e
  pub loose_before : w.place e ≡ loose
  pub last_of_none : (v : ℕ) → w.place v ≡ after e → ⊥
  pub empty : (v : ℕ) → w.place v ≡ first e → ⊥
  pub bare : w.last e ≡ 0
  pub kept : w.gave e ≡ false
  pub held : w.gave p ≡ false
  pub as_first : w.last p ≡ 0 → n.place e ≡ first p
  pub as_next : (w.last p ≡ 0 → ⊥) → n.place e ≡ after (w.last p)
  pub places : (v : ℕ) → (v ≡ e → ⊥) → n.place v ≡ w.place v
  pub modes : (v : ℕ) → (v ≡ e → ⊥) → n.mode v ≡ w.mode v
  pub gave : (v : ℕ) → n.gave v ≡ w.gave v
  pub last : n.last p ≡ e
  pub lasts : (q : ℕ) → (q ≡ p → ⊥) → n.last q ≡ w.last q
  pub covered : covers (n.mode p) (n.mode e) ≡ true

-- The task of g gives up the cell, and all else is as before.
pub record IsGift (w n : Wires) (g : ℕ) : Type 0 where
  pub not_main : g ≡ 0 → ⊥
  pub places : (v : ℕ) → n.place v ≡ w.place v
  pub modes : (v : ℕ) → n.mode v ≡ w.mode v
  pub lasts : (v : ℕ) → n.last v ≡ w.last v
  pub given : n.gave g ≡ true
  pub others : (v : ℕ) → (v ≡ g → ⊥) → n.gave v ≡ w.gave v

-- What an opening posts: the new access e has no flag yet, exactly what is due there waits, and what waits elsewhere is as before.
pub record AreFirstPosted (n : Wires) (F P Q : ℕ → Marks) (e : ℕ) : Type 0 where
  pub bare : (f : Flag) → has f (F e) ≡ false
  pub others : (v : ℕ) → (v ≡ e → ⊥) → Q v ≡ P v
  pub due : (f : Flag) → has f (Q e) ≡ true → IsDue n F f e
  pub told : (f : Flag) → IsDue n F f e → has f (Q e) ≡ true

-- What a gift posts: what waited still waits, nothing waits besides but what is due, and what is due at the giver g by the gift stands
-- or waits. It is Done where its list is empty, or where the flags of the last in its list tell that all are done.
pub record AreGiftPosted (w n : Wires) (F P Q : ℕ → Marks) (g : ℕ) : Type 0 where
  pub kept : (f : Flag) (v : ℕ) → has f (P v) ≡ true → has f (Q v) ≡ true
  pub due : (f : Flag) (v : ℕ) → has f (Q v) ≡ true → (has f (P v) ≡ true) ⊎ IsDue n F f v
  pub given : IsTold F Q Given g
  pub bare : w.last g ≡ 0 → IsTold F Q Done g
  pub last : (w.last g ≡ 0 → ⊥) → is_whole (F (w.last g)) ≡ true → IsTold F Q Done g

-- A delivery at t: of the flags that wait there some stand then, no other access has other flags, nothing is lost, nothing waits besides
-- but what is due, and what is due by the flags of t at the next sibling, at the first child and at the access above stands or waits.
pub record IsDelivered (w : Wires) (F P G Q : ℕ → Marks) (t : ℕ) : Type 0 where
  pub not_main : t ≡ 0 → ⊥
  pub news : (f : Flag) (v : ℕ) → has f (G v) ≡ true → IsTold F P f v
  pub others : (v : ℕ) → (v ≡ t → ⊥) → G v ≡ F v
  pub kept : (f : Flag) (v : ℕ) → IsTold F P f v → IsTold G Q f v
  pub due : (f : Flag) (v : ℕ) → has f (Q v) ≡ true → (has f (P v) ≡ true) ⊎ IsDue w G f v
  pub next : (v : ℕ) (f : Flag) → w.place v ≡ after t → has f (to_next (w.mode t) (w.mode v) (G t)) ≡ true → IsTold G Q f v
  pub child : (v : ℕ) (f : Flag) → w.place v ≡ first t → has f (to_child (w.mode t) (w.mode v) (G t)) ≡ true → IsTold G Q f v
  pub up : (p : ℕ) → w.gave p ≡ true → w.last p ≡ t → is_whole (G t) ≡ true → IsTold G Q Done p
