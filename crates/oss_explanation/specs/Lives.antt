-- What happened to the tasks of a run: their creations, what they released, and which children hold a cell that their creator may not touch.
-- Read against: with x and y, of `task out(x, y) .. taskwait on(x) task inout(x) ..` main has two children; after them child 1 is the holder of x, since the wait came before it, and child 0
-- is that of y. A child of a false `if`, and one that is included, hold nothing. A child with `in` hinders a write and no read.
use Rattle.std.specs.Prelude.{◌≡◌, ◌<◌, ℕ, Bool, true, false, List, [], ◌∷◌, length, Option, None}
use Rattle.oss_model.specs.Bodies.{Act, Frame, Order, Program, ask_of, stage_act}
use Rattle.oss_model.specs.Bodies.Act.{Created, Releases, Waited, WaitedOn}
use Rattle.oss_model.specs.Context.{Context, child_context, in_clauses, right_of}
use Rattle.oss_model.specs.Machine.{State}
use Rattle.oss_model.specs.Memory.{Event, Happened}
use Rattle.oss_model.specs.Order.{IsIn, written}
use Rattle.oss_model.specs.Rights.{Holds, Reads, Right, Touch}
use Rattle.oss_syntax.specs.declared.access.Access.{Access}
use Rattle.oss_syntax.specs.declared.access.Mode.TheVariants.{Read}
use Rattle.oss_body.specs.Acting.{acting}
use Rattle.oss_explanation.specs.declared.explained.Later.{Later}
use Rattle.oss_explanation.specs.declared.explained.Later.TheVariants as later
use Rattle.oss_explanation.specs.declared.explained.Link.{Link}
use Rattle.oss_explanation.specs.declared.explained.Word.{Word}
use Rattle.oss_explanation.specs.Held.{word_in}

-- The task that acts at an event, as it stands before it.
abbrev pub actor : {S : Type 0} → Program S → Event S → Frame S
actor P e = acting P e.start e.past

-- The act of an event.
abbrev pub act_at : {S : Type 0} → Program S → Event S → Act S
act_at P e = stage_act P e.start e.past

-- The line of what the task asks at an event.
abbrev pub line_at : {S : Type 0} → Program S → Event S → ℕ
line_at P e = (ask_of P (actor P e)).line

-- The event has happened, and is an act of the task at this path, which may be one that is included in another's body.
pub record IsEventOf {S : Type 0} (P : Program S) (s : State S) (q : List ℕ) (e : Event S) : Type 0 where
  pub happened : Happened s e
  pub path : (actor P e).path ≡ q

-- The context with which the task starts that an event creates by this order.
abbrev pub born_with : {S : Type 0} → Program S → Event S → Order S → Context
born_with P e o = child_context (actor P e).context o.clauses o.last

-- The task at this path was created, on this line, included or not, and started with this context.
pub record IsCreated {S : Type 0} (P : Program S) (s : State S) (q : List ℕ) (included : Bool) (line : ℕ) (x : Context) : Type 0 where
  pub event : Event S
  pub happened : Happened s event
  pub order : Order S
  pub creates : act_at P event ≡ Created order included
  pub path : q ≡ (actor P event).context.created ∷ (actor P event).path
  pub on_line : line ≡ line_at P event
  pub context : x ≡ born_with P event order

-- By which words the task at this path has its cells from its creation on. Main has all cells, by no clause.
pub data HasWords {S : Type 0} (P : Program S) (s : State S) : List ℕ → (ℕ → Option Word) → Type 0 where
  of_main : HasWords P s [] (λ c. None)
  of_child : {k : ℕ} {q : List ℕ} {included : Bool} {line : ℕ} {x : Context} → IsCreated P s (k ∷ q) included line x → HasWords P s (k ∷ q) (word_in x)

-- These tell how the task at this path came to be, and each one above it but main, the innermost first. Bodies begin at these spots.
pub data IsChain {S : Type 0} (P : Program S) (spot : S → ℕ) (s : State S) : List ℕ → List Link → Type 0 where
  at_main : IsChain P spot s [] []
  at_child : {k : ℕ} {q : List ℕ} {x : Context} {links : List Link} (l : Link) → l.task ≡ written (k ∷ q) → (created : IsCreated P s (k ∷ q) l.included l.line x)
      → l.entry ≡ spot created.order.script → IsChain P spot s q links → IsChain P spot s (k ∷ q) (l ∷ links)

-- The task at this path has released the cell, on this line.
pub record IsReleased {S : Type 0} (P : Program S) (s : State S) (q : List ℕ) (c line : ℕ) : Type 0 where
  pub event : Event S
  pub own : IsEventOf P s q event
  pub clauses : List Access
  pub included : Bool
  pub releases : act_at P event ≡ Releases clauses included
  pub named : in_clauses clauses c ≡ true
  pub on_line : line ≡ line_at P event

-- A child with this right hinders such a touch by its creator.
abbrev pub hinders : Touch → Right → Bool
hinders Reads (Holds Read strong) = false
hinders touch (Holds m strong) = true
hinders touch _ = false

-- The act is a wait after which no earlier child has the cell.
abbrev pub waits_for : {S : Type 0} → Act S → ℕ → Bool
waits_for Waited c = true
waits_for (WaitedOn named) c = in_clauses named c
waits_for _ c = false

-- The child with this number of the task at this path, created on this line with this context, hinders the task's touch of the cell: it is neither included nor of a false `if`, and the
-- task has not waited for the cell since.
pub record IsHolder {S : Type 0} (P : Program S) (s : State S) (q : List ℕ) (c : ℕ) (touch : Touch) (k line : ℕ) (x : Context) : Type 0 where
  pub event : Event S
  pub own : IsEventOf P s q event
  pub order : Order S
  pub creates : act_at P event ≡ Created order false
  pub lends : order.when ≡ true
  pub number : k ≡ (actor P event).context.created
  pub on_line : line ≡ line_at P event
  pub context : x ≡ born_with P event order
  pub hindering : hinders touch (right_of x c) ≡ true
  pub since : (e : Event S) → IsEventOf P s q e → length event.past < length e.past → waits_for (act_at P e) c ≡ true → ⊥

-- numbers that rise
abbrev pub RisesFrom : ℕ → List ℕ → Type 0
RisesFrom k [] = Unit {0}
RisesFrom k (j ∷ more) = (k < j) × RisesFrom j more

-- The holders of the cell: the first one, created on this line with this context, and the numbers of the later ones.
pub record AreHolders {S : Type 0} (P : Program S) (s : State S) (q : List ℕ) (c : ℕ) (touch : Touch) (k line : ℕ) (x : Context) (ks : List ℕ) : Type 0 where
  pub first : IsHolder P s q c touch k line x
  pub rise : RisesFrom k ks
  pub only : (j : ℕ) → IsIn j ks → (n : ℕ) × ((y : Context) × IsHolder P s q c touch j n y)
  pub all : (j n : ℕ) (y : Context) → IsHolder P s q c touch j n y → IsIn j (k ∷ ks)

-- the last of these numbers
abbrev pub last_of : ℕ → List ℕ → ℕ
last_of k [] = k
last_of k (j ∷ more) = last_of j more

-- How the later holders are told, which are the children with these numbers of the task at this path.
abbrev pub told_later : List ℕ → List ℕ → Later
told_later q [] = later.None
told_later q (k ∷ []) = later.One (written (k ∷ q))
told_later q (k ∷ j ∷ more) = later.Several (length (k ∷ j ∷ more)) (written (k ∷ q)) (written (last_of j more ∷ q))
