-- A give: a job that a seat holds gives up one of its entries.
-- Read against: task 7 has a right to write cell 4, and its entries are 7 and 8. Its body has ended, and nothing keeps it from giving up the cell. The seat, which holds its job, has read
-- that 8 is not given up. It gives up 8: no child of the task has cell 4, so 24 is added to the state word of 8, and what that completes is held. When that is delivered, the seat reads 8
-- and 7, and gives up 7: its last child is 12, so 8 is added to the state word of 7, and then 64 and 65536 * 7 to that of 12, by which 12 leads to 7.
use Rattle.std.specs.Prelude.{◌≡◌, ◌≢◌, ◌<◌, ◌+◌, ◌*◌, ◌==◌, cond, ℕ, Bool, true, false, List, [], ◌∷◌, ◌++◌, set, Option, Some, None}
use mathlib.Core.Option as maybe
use lib.ListN.{get_elem?}
use Rattle.oss_code.specs.declared.code.CodeParts.{CodeParts}
use Rattle.oss_jobs.specs.declared.job.Job.{Job}
use Rattle.oss_machine.specs.Frames.{CodeScript}
use Rattle.oss_machine.specs.Machines.{asks}
use Rattle.oss_model.specs.Bodies.{Body}
use Rattle.oss_model.specs.Context.{right_of}
use Rattle.oss_model.specs.Moves.{is_ended}
use Rattle.oss_model.specs.Rights.{Holds}
use Rattle.oss_syntax.specs.declared.access.Mode.{Mode}
use Rattle.oss_syntax.specs.declared.access.Mode.TheVariants.{Fold}
use Rattle.oss_syntax.specs.declared.access.Op.{Op}
use Rattle.oss_words.specs.declared.message.Message.{Message}
use Rattle.oss_words.specs.Bits.{info_at, state_at}
use Rattle.oss_words.specs.Causes.{sent}
use Rattle.oss_words.specs.Views.{Among, Seen}
use Rattle.oss_roles.specs.JobSteps.{MayGive}
use Rattle.oss_roles.specs.Sights.{Fixed, Making}
use Rattle.oss_field.specs.Asks.{IsGiven}
use Rattle.oss_field.specs.Heard.{Told}
use Rattle.oss_field.specs.Known.{Holding, Known, bearing_of, last_of, sight_of}
use Rattle.oss_field.specs.Layout.{state_word_of}
use Rattle.oss_field.specs.Messages.{Bounded}
use Rattle.oss_field.specs.Moves.{loaded_beside, touched, with_body}
use Rattle.oss_field.specs.Owning.{HasEntry, entry_of, site_of}

-- The seat has read of the entry that it is not given up, and it stays so.
pub record IsStillOpen (k : Known) (e : ℕ) : Type 0 where
  pub it : Fixed
  pub among : Among it k.still
  pub entry : it.entry ≡ e
  pub open_yet : it.state.given ≡ false

-- The seat has seen that the entry is given up.
pub record IsSeenGiven (k : Known) (e : ℕ) : Type 0 where
  pub it : Seen
  pub among : Among it k.seen
  pub entry : it.entry ≡ e
  pub given : it.state.given ≡ true

-- Why the task may give up its entry there: it may give up the cell, on which it has no strong reduction; or, of its own entry, its body has ended, and all its cells were seen to be given up.
pub data MayGiveUp (code : CodeParts) (k : Known) (h : Holding) (x : Body CodeScript) : Option ℕ → Type 0 where
  gives_cell : (c : ℕ) (mode : Mode) (strong : Bool) → right_of h.body.start.context c ≡ Holds mode strong
      → ((op : Op) → right_of h.body.start.context c ≢ Holds (Fold op) true)
      → MayGive (asks code) (sight_of k) (bearing_of h) x c → MayGiveUp code k h x (Some c)
  gives_own : is_ended (asks code) x ≡ true
      → ((d : ℕ) (mode : Mode) (strong : Bool) → right_of h.body.start.context d ≡ Holds mode strong → IsSeenGiven k (entry_of h (Some d)))
      → MayGiveUp code k h x None

-- The seat may give up this entry of the task whose job it is given: it holds no message, it makes no task by the job, and it has read that the entry is not given up.
pub record StandsToGive (code : CodeParts) (job : Job) (k : Known) (cell : Option ℕ) : Type 0 where
  pub place : ℕ
  pub holding : Holding
  pub body : Body CodeScript
  pub given : IsGiven code job k place holding body
  pub below_main : holding.number ≢ 0
  pub makes : (a : Making) → Among a k.makes → a.by ≢ holding.number
  pub still : IsStillOpen k (entry_of holding cell)
  pub may : MayGiveUp code k holding body cell
  pub empty : k.words.held ≡ []

-- What was read of other entries.
abbrev pub still_beside : ℕ → List Fixed → List Fixed
still_beside e [] = []
still_beside e (y ∷ ys) = cond (y.entry == e) (still_beside e ys) (y ∷ still_beside e ys)

-- The job h at the place i went on by itself to the body x, and this entry of its task is not what it was any more.
abbrev pub gone_on : ℕ → Holding → Body CodeScript → ℕ → Known → Known
gone_on i h x e k = record k { bears = set k.bears i (with_body x h); loaded = loaded_beside h.number k.loaded; still = still_beside e k.still }

-- The entry e with the info word w was given up at once, in a state word that was n, in a field of m cells.
abbrev pub gave_whole : ℕ → ℕ → ℕ → ℕ → Known → Known
gave_whole m e w n k = touched (state_word_of m e) n (record k { words = record k.words { held = sent e (state_at n) (state_at (n + 24)) (info_at w) } })

-- The first of two steps: it was given up, and its last child does not lead to it yet.
abbrev pub gave_half : ℕ → ℕ → ℕ → Known → Known
gave_half m e n k = touched (state_word_of m e) n (record k { words = record k.words { held = []; half = e ∷ [] } })

-- The second: its last child l, with the info word w, leads to it.
abbrev pub gave_rest : ℕ → ℕ → ℕ → ℕ → ℕ → Known → Known
gave_rest m e l w n k =
    touched (state_word_of m l) n (record k { words = record k.words { half = []; held = k.words.held ++ sent l (state_at n) (state_at (n + (64 + 65536 * e))) (info_at w) } })

-- What the steps of a give tell, which found these state words, in a field of n entries and m cells.
pub record GivesWhole (n m e w i : ℕ) (h : Holding) (x : Body CodeScript) (found : ℕ) (k l : Known) : Type 0 where
  pub known : l ≡ gave_whole m e w found (gone_on i h x e k)
  pub bounded : Bounded n l
  pub fits : found + 24 < 18446744073709551616

pub record GivesHalf (m e i : ℕ) (h : Holding) (x : Body CodeScript) (found : ℕ) (k l : Known) : Type 0 where
  pub known : l ≡ gave_half m e found (gone_on i h x e k)

pub record GivesRest (n m e last w found : ℕ) (k l : Known) : Type 0 where
  pub known : l ≡ gave_rest m e last w found k
  pub bounded : Bounded n l
  pub fits : found + (64 + 65536 * e) < 18446744073709551616

-- The seat has given up this entry of a task, in the first of two steps; its last child, which has this info word, does not lead to it yet.
pub record IsHalfGiven (k : Known) (cell : Option ℕ) (e last w : ℕ) : Type 0 where
  pub place : ℕ
  pub holding : Holding
  pub holds : get_elem? k.bears place ≡ maybe.some holding
  pub below_main : holding.number ≢ 0
  pub makes : (a : Making) → Among a k.makes → a.by ≢ holding.number
  pub has : HasEntry holding cell
  pub entry : entry_of holding cell ≡ e
  pub half : k.words.half ≡ entry_of holding cell ∷ []
  pub last_is : last_of holding (site_of cell) ≡ Some last
  pub told : Among (record { entry = last; info = info_at w }) k.told
  pub unjoined : k.joined ≡ []

-- The entry of a give, and the last child there.
pub record MayGiveHere (code : CodeParts) (job : Job) (n : ℕ) (k : Known) (cell : Option ℕ) (e : ℕ) (last : Option ℕ) : Type 0 where
  pub may : StandsToGive code job k cell
  pub entry : entry_of may.holding cell ≡ e
  pub last_is : last_of may.holding (site_of cell) ≡ last
  pub inside : e < n

-- To give up this entry at once: the job has no child there.
pub record MayGiveWhole (code : CodeParts) (job : Job) (n : ℕ) (k : Known) (cell : Option ℕ) (e w : ℕ) : Type 0 where
  pub may : StandsToGive code job k cell
  pub entry : entry_of may.holding cell ≡ e
  pub none : last_of may.holding (site_of cell) ≡ None
  pub told : Among (record { entry = e; info = info_at w }) k.told
  pub inside : e < n
  pub whole : k.words.half ≡ []
  pub unjoined : k.joined ≡ []

-- And for the first of two steps: it has one.
pub record MayGiveHalf (code : CodeParts) (job : Job) (n : ℕ) (k : Known) (cell : Option ℕ) (e last : ℕ) : Type 0 where
  pub may : StandsToGive code job k cell
  pub entry : entry_of may.holding cell ≡ e
  pub last_is : last_of may.holding (site_of cell) ≡ Some last
  pub inside : e < n
  pub whole : k.words.half ≡ []
  pub unjoined : k.joined ≡ []

-- What these steps tell, whatever else the seat holds.
pub record HasGivenWhole (code : CodeParts) (job : Job) (n m : ℕ) (cell : Option ℕ) (e w found : ℕ) (k l : Known) : Type 0 where
  pub may : StandsToGive code job k cell
  pub entry : entry_of may.holding cell ≡ e
  pub none : last_of may.holding (site_of cell) ≡ None
  pub told : Among (record { entry = e; info = info_at w }) k.told
  pub step : GivesWhole n m e w may.place may.holding may.body found k l

pub record HasGivenHalf (code : CodeParts) (job : Job) (m : ℕ) (cell : Option ℕ) (e last found : ℕ) (k l : Known) : Type 0 where
  pub may : StandsToGive code job k cell
  pub entry : entry_of may.holding cell ≡ e
  pub last_is : last_of may.holding (site_of cell) ≡ Some last
  pub step : GivesHalf m e may.place may.holding may.body found k l

-- What a give leaves held: with no child, what its step completed, which found this state word; and else what the link of the last child completed.
pub data GiveSends (k : Known) (h : Holding) (cell : Option ℕ) (held : List Message) : Type 0 where
  with_none : (w found : ℕ) → last_of h (site_of cell) ≡ None → Among (record { entry = entry_of h cell; info = info_at w }) k.told
      → held ≡ sent (entry_of h cell) (state_at found) (state_at (found + 24)) (info_at w) → GiveSends k h cell held
  with_last : (l w found : ℕ) → last_of h (site_of cell) ≡ Some l → Among (record { entry = l; info = info_at w }) k.told
      → held ≡ sent l (state_at found) (state_at (found + (64 + 65536 * entry_of h cell))) (info_at w) → GiveSends k h cell held

-- After a give: the job has gone on to its body, what its seat loaded for a fold of it is forgotten, and of the entry nothing is kept; what the give completed is held.
pub record Gave (code : CodeParts) (job : Job) (cell : Option ℕ) (a b : Known) : Type 0 where
  pub may : StandsToGive code job a cell
  pub held : List Message
  pub sends : GiveSends b may.holding cell held
  pub known : b ≡ record (gone_on may.place may.holding may.body (entry_of may.holding cell) a) { words = record a.words { held = held }; told = b.told; word = b.word; found = b.found }
  pub kept : (t : Told) → Among t a.told → Among t b.told
