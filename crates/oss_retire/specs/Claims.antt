-- What is left at a cell tells all that the whole lists do.
-- Read against: the tasks of `Retired`, with 1 and 2 retired. That 3 may write is told by the lists of 3 and 4 alone; of 1 and 2 all flags stand.
use Rattle.std.specs.Prelude.{◌≡◌, ◌↔◌, ℕ, Bool, false, true, List, [], ◌∷◌, ◌++◌}
use Rattle.oss_model.specs.Forest.{IsDone, IsWriteSatisfied}
use Rattle.oss_deps.specs.declared.opened.Open.{Open}
use Rattle.oss_deps.specs.Opens.{AreChildrenDone, AreCovered, AreOrdered, HasOpened, opened_forest}
use Rattle.oss_deps.specs.Seen.{CanOpen, Seen}
use Rattle.oss_access_lists.specs.declared.marks.Marks.{Marks}
use Rattle.oss_links.specs.Readings.{TellOfTask}
use Rattle.oss_retire.specs.Retired.{AreRetired, either, left_of}

-- All flags stand.
abbrev pub all_marks : Marks
all_marks = record { reads = true; joins = true; writes = true; given = true; done = true; clear = true }

-- What is left goes from creators to their children.
abbrev pub LeftAreOrdered : Type 0
LeftAreOrdered = (opens : List Open) (retired : ℕ → Bool) → AreOrdered opens → AreOrdered (left_of retired opens)

-- Flags that tell of a task's access by what is left tell of it by all.
abbrev pub LeftTell : Type 0
LeftTell = (opens : List Open) (given : ℕ → ℕ → Bool) (c : ℕ) (retired : ℕ → Bool) (t : ℕ) (marks : Marks) → AreRetired opens given c retired → retired t ≡ false
    → TellOfTask (left_of retired opens) given c t marks → TellOfTask opens given c t marks

-- Of a retired access all flags stand.
abbrev pub RetiredTell : Type 0
RetiredTell = (opens : List Open) (given : ℕ → ℕ → Bool) (c : ℕ) (retired : ℕ → Bool) (t : ℕ) → AreOrdered opens → AreCovered opens → AreRetired opens given c retired → retired t ≡ true → HasOpened opens c t
    → TellOfTask opens given c t all_marks

-- An access that is left is done exactly where it is by what is left.
abbrev pub DoneByLeft : Type 0
DoneByLeft = (opens : List Open) (given : ℕ → ℕ → Bool) (c : ℕ) (retired : ℕ → Bool) (t : ℕ) → AreRetired opens given c retired → retired t ≡ false
    → IsDone (opened_forest (left_of retired opens) given c) t ↔ IsDone (opened_forest opens given c) t

-- All children's accesses are done exactly where those that are left are.
abbrev pub ChildrenByLeft : Type 0
ChildrenByLeft = (opens : List Open) (given : ℕ → ℕ → Bool) (c : ℕ) (retired : ℕ → Bool) (t : ℕ) → AreRetired opens given c retired
    → AreChildrenDone (left_of retired opens) given t c ↔ AreChildrenDone opens given t c

-- All accesses that are done and may write may be retired at once.
abbrev pub DoneMayRetire : Type 0
DoneMayRetire = (opens : List Open) (given : ℕ → ℕ → Bool) (c : ℕ) (retired : ℕ → Bool) → AreOrdered opens
    → ((t : ℕ) → HasOpened opens c t → retired t ≡ true ↔ (IsDone (opened_forest opens given c) t × IsWriteSatisfied (opened_forest opens given c) t))
    → AreRetired opens given c retired

-- Nothing need be retired.
abbrev pub NoneAreRetired : Type 0
NoneAreRetired = (opens : List Open) (given : ℕ → ℕ → Bool) (c : ℕ) → AreRetired opens given c (λ t. false)

-- What is retired stays so where more is given up.
abbrev pub GiftsKeepRetired : Type 0
GiftsKeepRetired = (opens : List Open) (given later : ℕ → ℕ → Bool) (c : ℕ) (retired : ℕ → Bool) → AreRetired opens given c retired → ((t : ℕ) → given t c ≡ true → later t c ≡ true)
    → AreRetired opens later c retired

-- And where a task is opened.
abbrev pub OpeningsKeepRetired : Type 0
OpeningsKeepRetired = (s : Seen) (c : ℕ) (retired : ℕ → Bool) (o : Open) → AreOrdered s.opens → AreRetired s.opens s.given c retired → CanOpen s o → retired o.task ≡ false
    → AreRetired (s.opens ++ o ∷ []) s.given c retired

-- Of what is left more may be retired: what is left then is the same as where all were retired at once.
abbrev pub MoreAreRetired : Type 0
MoreAreRetired = (opens : List Open) (given : ℕ → ℕ → Bool) (c : ℕ) (retired more : ℕ → Bool) → AreRetired opens given c retired → AreRetired (left_of retired opens) given c more
    → AreRetired opens given c (either retired more) × (left_of more (left_of retired opens) ≡ left_of (either retired more) opens)
