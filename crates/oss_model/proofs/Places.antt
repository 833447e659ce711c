-- The order in which the proofs work: by the number of tasks that the body's own task has created.
use Rattle.std.specs.Prelude.{◌≡◌, ℕ, ◌<◌, List, [], ◌∷◌, length, reverse, ◌⊎◌, slice_index}
use Rattle.oss_model.specs.Order.{IsIn, IsBefore}
use Rattle.oss_model.specs.Bodies.{Program, stage_created}
use Rattle.oss_model.specs.Machine.{Task, State, At}
use Rattle.oss_model.specs.Moves.{created_now, IsClosed}
use Rattle.oss_model.specs.Memory.{Event, DoneChange, replay}

-- where the act stands, if all acts of an included task stood behind its creation
abbrev pub place : {S : Type 0} → Program S → Event S → List ℕ
place P e = stage_created P e.start e.past ∷ e.start.path

-- the first event is before the second, by its place and then in its body
abbrev pub IsEarlierPlace : {S : Type 0} → Program S → Event S → Event S → Type 0
IsEarlierPlace P e g = IsBefore (reverse (place P e)) (reverse (place P g)) ⊎ ((place P e ≡ place P g) × (length e.past < length g.past))

abbrev pub IsPlaced : {S : Type 0} → Program S → List (Event S) → Type 0
IsPlaced P [] = Unit {0}
IsPlaced P (e ∷ es) = ((g : Event _) → IsIn g es → IsEarlierPlace P e g) × IsPlaced P es

-- a cell has the value that the done changes of it give, in the order of their places
pub record PlacedValue {S : Type 0} (P : Program S) (s : State S) (first : List ℕ) (c : ℕ) : Type 0 where
  pub list : List (Event S)
  pub sorted : IsPlaced P list
  pub only : (e : Event S) → IsIn e list → DoneChange P s c e
  pub all : (e : Event S) → DoneChange P s c e → IsIn e list
  pub value : slice_index s.cells c ≡ replay P list (slice_index first c)

-- every task whose place is before that of this one is closed
abbrev pub IsLeastPlace : {S : Type 0} → Program S → State S → List ℕ → Task S → Type 0
IsLeastPlace P s p t = (q : List ℕ) (u : Task _) → At s q u → IsBefore (reverse (created_now P u.body ∷ q)) (reverse (created_now P t.body ∷ p)) → IsClosed P q u
