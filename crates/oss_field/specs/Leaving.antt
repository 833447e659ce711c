-- A leave: the value of a reduction is left for its join, by the job of its task.
-- Read against: task 7 has a strong reduction of cell 4 by +, and its entry there is 8. Its body has ended, and has folded 2 and 3 into its slot. The seat, which holds its job, has read that 8
-- is neither left nor given up. It leaves 8: it writes 5 beside the state word of 8, and adds 256 to that word. If the word was 34, 8 may be joined, and the seat holds (8, 0). If it was 32,
-- the seat holds nothing: whoever delivers (8, 2) later holds (8, 0) then.
use Rattle.std.specs.Prelude.{◌≡◌, ◌≢◌, ◌<◌, ◌+◌, ◌==◌, cond, ℕ, true, false, List, [], ◌∷◌, length, set, Some}
use mathlib.Core.Option as maybe
use lib.ListN.{get_elem?}
use Rattle.oss_code.specs.declared.code.CodeParts.{CodeParts}
use Rattle.oss_jobs.specs.declared.job.Job.{Job}
use Rattle.oss_machine.specs.Frames.{CodeScript}
use Rattle.oss_machine.specs.Machines.{asks}
use Rattle.oss_model.specs.Bodies.{Body}
use Rattle.oss_model.specs.Context.{right_of}
use Rattle.oss_model.specs.Moves.{is_ended, slot_of}
use Rattle.oss_model.specs.Rights.{Holds}
use Rattle.oss_syntax.specs.declared.access.Mode.TheVariants.{Fold}
use Rattle.oss_syntax.specs.declared.access.Op.{Op}
use Rattle.oss_words.specs.declared.entry.EntryState.{EntryState}
use Rattle.oss_words.specs.Bits.{info_at, state_at}
use Rattle.oss_words.specs.Causes.{part}
use Rattle.oss_words.specs.Views.{Among}
use Rattle.oss_roles.specs.JobSteps.{MayEnd}
use Rattle.oss_roles.specs.Sights.{Fixed, Noted}
use Rattle.oss_field.specs.Asks.{IsGiven}
use Rattle.oss_field.specs.Giving.{gone_on, still_beside}
use Rattle.oss_field.specs.Known.{Holding, Known, bearing_of, sight_of}
use Rattle.oss_field.specs.Layout.{state_word_of, value_word_of}
use Rattle.oss_field.specs.Messages.{Bounded}
use Rattle.oss_field.specs.Moves.{loaded_beside, touched, with_body}
use Rattle.oss_field.specs.Owning.{entry_of}

-- The seat has read of the entry that its value is not left, and that it is not given up, and it stays so.
pub record IsStillUnleft (k : Known) (e : ℕ) : Type 0 where
  pub it : Fixed
  pub among : Among it k.still
  pub entry : it.entry ≡ e
  pub unleft : it.state.left ≡ false
  pub open_yet : it.state.given ≡ false

-- The seat may leave this value for the join of the cell: the task whose job it is given has a strong reduction there, and has ended, the clause wait is met, and the value is what its slot is.
-- The seat holds no message, and has read that the entry is neither left nor given up.
pub record StandsToLeave (code : CodeParts) (job : Job) (k : Known) (cell value : ℕ) : Type 0 where
  pub place : ℕ
  pub holding : Holding
  pub body : Body CodeScript
  pub given : IsGiven code job k place holding body
  pub below_main : holding.number ≢ 0
  pub op : Op
  pub right : right_of holding.body.start.context cell ≡ Holds (Fold op) true
  pub ended : is_ended (asks code) body ≡ true
  pub wait : MayEnd (sight_of k) (bearing_of holding) body
  pub value_is : value ≡ slot_of (asks code) body.start cell op body.found
  pub still : IsStillUnleft k (entry_of holding (Some cell))
  pub empty : k.words.held ≡ []

-- What was read of entries, once this value was written beside the state word of one.
abbrev pub still_with : ℕ → ℕ → List Fixed → List Fixed
still_with e value [] = []
still_with e value (y ∷ ys) = record y { value = cond (y.entry == e) (Some value) y.value } ∷ still_with e value ys

-- The job h at the place i went on by itself to the body x, and the value was written beside the state word of the entry e of its task, in a field of m cells.
abbrev pub wrote : ℕ → ℕ → ℕ → ℕ → Holding → Body CodeScript → Known → Known
wrote m e value i h x k =
    touched (value_word_of m e) value (record k { bears = set k.bears i (with_body x h); loaded = loaded_beside h.number k.loaded; still = still_with e value k.still })

-- The flag was set in the state word, which was n: the join of the entry is held, if the entry may be joined.
abbrev pub flagged : ℕ → ℕ → ℕ → Known → Known
flagged m e n k = touched (state_word_of m e) n (record k { words = record k.words { held = part (state_at n).folds e 0 }; still = still_beside e k.still })

-- The entry of a leave.
pub record MayLeaveHere (code : CodeParts) (job : Job) (n : ℕ) (k : Known) (cell value e : ℕ) : Type 0 where
  pub may : StandsToLeave code job k cell value
  pub entry : entry_of may.holding (Some cell) ≡ e
  pub inside : e < n

-- To write the value beside its state word.
pub record MayWrite (code : CodeParts) (job : Job) (n : ℕ) (k : Known) (cell value e : ℕ) : Type 0 where
  pub may : StandsToLeave code job k cell value
  pub entry : entry_of may.holding (Some cell) ≡ e
  pub inside : e < n
  pub unjoined : k.joined ≡ []

-- What that step tells.
pub record WroteValue (code : CodeParts) (job : Job) (m cell value e : ℕ) (k l : Known) : Type 0 where
  pub may : StandsToLeave code job k cell value
  pub entry : entry_of may.holding (Some cell) ≡ e
  pub known : l ≡ wrote m e value may.place may.holding may.body k

-- To set the flag: the value is written, and the rest is as it was.
pub record IsWritten (code : CodeParts) (k : Known) (cell value e : ℕ) : Type 0 where
  pub place : ℕ
  pub holding : Holding
  pub holds : get_elem? k.bears place ≡ maybe.some holding
  pub below_main : holding.number ≢ 0
  pub op : Op
  pub right : right_of holding.body.start.context cell ≡ Holds (Fold op) true
  pub ended : is_ended (asks code) holding.body ≡ true
  pub wait : MayEnd (sight_of k) (bearing_of holding) holding.body
  pub value_is : value ≡ slot_of (asks code) holding.body.start cell op holding.body.found
  pub entry : entry_of holding (Some cell) ≡ e
  pub state : EntryState
  pub still : Among (record { entry = e; state = state; value = Some value }) k.still
  pub unleft : state.left ≡ false
  pub open_yet : state.given ≡ false
  pub loaded : (y : Noted) → Among y k.loaded → y.name ≢ holding.number
  pub empty : k.words.held ≡ []
  pub whole : k.words.half ≡ []
  pub unjoined : k.joined ≡ []

-- What that step tells, which found this state word, in a field of n entries and m cells.
pub record SetsLeft (n m e found : ℕ) (k l : Known) : Type 0 where
  pub known : l ≡ flagged m e found k
  pub bounded : Bounded n l
  pub fits : found + 256 < 18446744073709551616
  pub unleft : (state_at found).left ≡ false
  pub sets : state_at (found + 256) ≡ record (state_at found) { left = true }

-- What a seat knows that was told the info word w of the entry e, and set the flag in its state word, which was n, if it knew k else.
abbrev pub left_as : ℕ → ℕ → ℕ → ℕ → Known → Known
left_as m e w n k =
    touched (state_word_of m e) n (record k { words = record k.words { held = part (state_at n).folds e 0 }; told = record { entry = e; info = info_at w } ∷ k.told })

-- After a leave: the job has gone on to its body, what its seat loaded for a fold of it is forgotten, and of the entry nothing is kept. The seat was told of the entry. Its last step set the flag
-- in the state word, which was this: if the entry may be joined, the seat holds its join, and else nothing.
pub record HasLeft (code : CodeParts) (job : Job) (cell value : ℕ) (a b : Known) : Type 0 where
  pub may : StandsToLeave code job a cell value
  pub info : ℕ
  pub found : ℕ
  pub unleft : (state_at found).left ≡ false
  pub known : b ≡ left_as (length code.first) (entry_of may.holding (Some cell)) info found (gone_on may.place may.holding may.body (entry_of may.holding (Some cell)) a)
