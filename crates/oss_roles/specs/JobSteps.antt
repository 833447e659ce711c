-- What a step does that is given a job. Since the seat's last step with it the job may have gone on by itself; the machine does those acts
-- first, and then what the step is for, all in the one step of the table.
-- Read against: task 7 of `Roles` has a right to read cell 4, which is 5, and its body is before a tick, a print and the load. The load is one
-- step: the body goes on over the tick and the print, and has three answers more, of which the last is 5. Then the body ends. The give of 8 is
-- the next step: the end of the body allows it, and the machine lets the cell go. When 9 is given up too, and the seat has seen both, it may
-- give up 7.
use Rattle.std.specs.Prelude.{◌≡◌, ◌≢◌, ◌⊎◌, ℕ, Bool, true, false, List, [], slice_index, slice_set, Some}
use Rattle.oss_syntax.specs.declared.access.Mode.{Mode}
use Rattle.oss_syntax.specs.declared.access.Mode.TheVariants.{Fold}
use Rattle.oss_syntax.specs.declared.access.Op.{Op}
use Rattle.oss_model.specs.Bodies.{Program, Start, Body, stack_from}
use Rattle.oss_model.specs.Bodies.Act.{Load, Store, Folded}
use Rattle.oss_model.specs.Context.{right_of}
use Rattle.oss_model.specs.Moves.{combine, slot_of, act_now, is_ended}
use Rattle.oss_model.specs.Rights.{Holds, Released}
use Rattle.oss_words.specs.declared.entry.EntryState.{EntryState}
use Rattle.oss_words.specs.Net.{apart}
use Rattle.oss_words.specs.Steps.{Gives, Begins, Leaves, GivesUp}
use Rattle.oss_words.specs.Views.{Seen, Among}
use Rattle.oss_roles.specs.Alone.{with_answer}
use Rattle.oss_roles.specs.Field.{Field, Parts, Sits}
use Rattle.oss_roles.specs.Passing.{AllDone, MayGo}
use Rattle.oss_roles.specs.Roles.{Role, itself, on}
use Rattle.oss_roles.specs.Sights.{Bearing, Noted, Fixed, Sight, Telling}
use Rattle.oss_roles.specs.Steps.{JobGoes, SameReads, OthersLoaded}

-- The cells after an act that writes one: a store, or a fold into the cell.
pub data Writes {S : Type 0} (P : Program S) (cells : List ℕ) (x : Body S) (cells' : List ℕ) : Type 0 where
  stores : (cell value : ℕ) → act_now P x ≡ Store cell value → cells' ≡ slice_set cells cell value → Writes P cells x cells'
  folds : (cell : ℕ) (op : Op) (operand : ℕ) → act_now P x ≡ Folded cell op operand false
      → cells' ≡ slice_set cells cell (combine op (slice_index cells cell) operand) → Writes P cells x cells'

-- The clause wait of the job's task asks for nothing, or is met by what the seat has seen of the last child.
abbrev pub MayEnd : {S : Type 0} → Sight S → Bearing S → Body S → Type 0
MayEnd v b x = x.start.order.wait ≡ true → AllDone v b itself

-- Why the task of the job may give up the cell: it has released the cell itself, or it has ended and the clause wait is met.
pub data MayGive {S : Type 0} (P : Program S) (v : Sight S) (b : Bearing S) (x : Body S) (cell : ℕ) : Type 0 where
  released : right_of (stack_from P x.start x.found).base.context cell ≡ Released → MayGive P v b x cell
  ended : is_ended P x ≡ true → MayEnd v b x → MayGive P v b x cell

-- A load that was made for a fold: kept for another job, or for this one, which stands before the fold, and the cell is what was found.
pub data StaysLoaded {S : Type 0} (P : Program S) (cells : List ℕ) (v : Sight S) (b : Bearing S) (x : Body S) (y : Noted) : Type 0 where
  of_other : Among y v.loaded → y.name ≢ b.number → StaysLoaded P cells v b x y
  of_this : y.name ≡ b.number → (cell : ℕ) (op : Op) (operand : ℕ) → act_now P x ≡ Folded cell op operand false
      → slice_index cells cell ≡ y.value → StaysLoaded P cells v b x y

module _ {S J : Type 0} {P : Program S} {main : Start S} {first : List ℕ} {is_job : Telling S J} {n : ℕ} {k : Parts J}
    {sights : List (Sight S)} (f : Field P main first is_job n k sights) (id : ℕ) (v w : Sight S) where
  -- The seat's view was v and is w. It holds the job of b at this place, which has gone on to the body x by itself; it bears c from now on.
  pub record IsGivenJob (i : ℕ) (b c : Bearing S) (x : Body S) : Type 0 where
    pub sits : Sits sights id v
    pub job : JobGoes v w i b c
    pub alone : MayGo P v b x

  -- The load of a cell.
  pub record Loads (i : ℕ) (b c : Bearing S) (x : Body S) (cell : ℕ) : Type 0 where
    pub with_job : IsGivenJob i b c x
    pub same : SameReads v w
    pub loaded : OthersLoaded v w b.number
    pub act : act_now P x ≡ Load cell
    pub body : c.body ≡ with_answer (slice_index k.cells cell) x

  -- The store of a cell, or the second half of a fold into it.
  pub record Stores (i : ℕ) (b c : Bearing S) (x : Body S) (cells' : List ℕ) : Type 0 where
    pub with_job : IsGivenJob i b c x
    pub same : SameReads v w
    pub loaded : OthersLoaded v w b.number
    pub writes : Writes P k.cells x cells'
    pub body : c.body ≡ with_answer 0 x

  -- Own acts alone: of a job before it is put back, and the first half of a fold into a cell, which loads what the cell is.
  pub record GoesOn (i : ℕ) (b c : Bearing S) (x : Body S) : Type 0 where
    pub with_job : IsGivenJob i b c x
    pub same : SameReads v w
    pub loaded : (y : Noted) → Among y w.loaded → StaysLoaded P k.cells v b x y
    pub body : c.body ≡ x

  -- What is so of each step with an entry of the job's task, whatever the entry is for.
  pub record IsGivenEntry (i : ℕ) (b c : Bearing S) (x : Body S) (e : ℕ) (r : Role) : Type 0 where
    pub with_job : IsGivenJob i b c x
    pub loaded : (y : Noted) → Among y w.loaded → StaysLoaded P k.cells v b x y
    pub body : c.body ≡ x
    pub is : f.role e ≡ Some r
    pub path : r.path ≡ b.path
    pub owes : w.owes ≡ v.owes
    pub none : v.joined ≡ []
    pub seen : w.seen ≡ v.seen

  -- How the word of an entry is given up: in one step, or in the first of two if the entry has children.
  pub data GivesWord (e : ℕ) (states' : ℕ → EntryState) : Type 0 where
    at_once : Gives k.states states' k.infos e v.words w.words → GivesWord e states'
    begins : (k.states e).headed ≡ true → Begins k.states states' e v.words w.words → GivesWord e states'

  -- An entry of the job's task is given up.
  pub record GivesEntry (i : ℕ) (b c : Bearing S) (x : Body S) (e : ℕ) (r : Role) (states' : ℕ → EntryState) (gave' : ℕ → Bool)
      : Type 0 where
    pub entry : IsGivenEntry i b c x e r
    pub hangs : f.net.place e ≢ apart
    pub ungiven : (k.states e).given ≡ false
    pub gives : GivesUp f.gave gave' e
    pub word : GivesWord e states'
    pub still : (y : Fixed) → Among y w.still → Among y v.still × (y.entry ≢ e)

  -- The entry of a cell is given up: the task may give up the cell, which is not one of a strong reduction.
  pub record GivesCell (i : ℕ) (b c : Bearing S) (x : Body S) (e : ℕ) (r : Role) (states' : ℕ → EntryState) (gave' : ℕ → Bool)
      (cell : ℕ) (mode : Mode) (strong : Bool) : Type 0 where
    pub up : GivesEntry i b c x e r states' gave'
    pub site : r.site ≡ on cell
    pub right : right_of b.body.start.context cell ≡ Holds mode strong
    pub no_fold : (op : Op) → right_of b.body.start.context cell ≢ Holds (Fold op) true
    pub may : MayGive P v b x cell

  -- The seat has seen that the entry of the job's task for this cell is given up.
  pub record HasSeenGiven (b : Bearing S) (cell : ℕ) : Type 0 where
    pub it : Seen
    pub among : Among it v.seen
    pub given : it.state.given ≡ true
    pub role : Role
    pub is : f.role it.entry ≡ Some role
    pub hangs : f.net.place it.entry ≢ apart
    pub path : role.path ≡ b.path
    pub site : role.site ≡ on cell

  -- The task's own entry is given up: the body has ended, and each cell of the task was seen to be given up.
  pub record GivesOwn (i : ℕ) (b c : Bearing S) (x : Body S) (e : ℕ) (r : Role) (states' : ℕ → EntryState) (gave' : ℕ → Bool)
      : Type 0 where
    pub up : GivesEntry i b c x e r states' gave'
    pub site : r.site ≡ itself
    pub ended : is_ended P x ≡ true
    pub cells : (d : ℕ) (mode : Mode) (strong : Bool) → right_of b.body.start.context d ≡ Holds mode strong → HasSeenGiven b d

  -- A value is written beside the word of an entry, before it is left for a join.
  pub record WritesValue (i : ℕ) (b c : Bearing S) (x : Body S) (e : ℕ) (r : Role) (value : ℕ) (values' : ℕ → ℕ) : Type 0 where
    pub entry : IsGivenEntry i b c x e r
    pub words : w.words ≡ v.words
    pub unleft : (k.states e).left ≡ false
    pub value_is : values' e ≡ value
    pub others : (j : ℕ) → j ≢ e → values' j ≡ k.values j
    pub still : (y : Fixed) → Among y w.still
        → (Among y v.still × (y.entry ≢ e))
        ⊎ ((old : Fixed) × Among old v.still × (old.entry ≡ e) × (y ≡ record { entry = e; state = old.state; value = Some value }))

  -- The value of a strong reduction is left for a join: the body has ended, the clause wait is met, and the value is that of the task's slot.
  pub record LeavesValue (i : ℕ) (b c : Bearing S) (x : Body S) (e : ℕ) (r : Role) (states' : ℕ → EntryState) (cell : ℕ) (op : Op)
      : Type 0 where
    pub entry : IsGivenEntry i b c x e r
    pub hangs : f.net.place e ≢ apart
    pub word : Leaves k.states states' k.infos e v.words w.words
    pub site : r.site ≡ on cell
    pub right : right_of b.body.start.context cell ≡ Holds (Fold op) true
    pub ended : is_ended P x ≡ true
    pub wait : MayEnd v b x
    pub value : k.values e ≡ slot_of P x.start cell op x.found
    pub still : (y : Fixed) → Among y w.still → Among y v.still × (y.entry ≢ e)
