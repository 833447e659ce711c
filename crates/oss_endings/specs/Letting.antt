-- What a seat does while it lets go of the cells of a job that it works with.
-- Read against: a seat holds nothing and works with the job of task 7. It reads 8, gives it up, and holds (12, 3), by which the count of 11 becomes 0 when it is delivered. Then it reads 8 again. Told is 11.
use Rattle.std.specs.Prelude.{◌≡◌, ℕ, List, [], ◌++◌, Option}
use Rattle.oss_code.specs.declared.code.CodeParts.{CodeParts}
use Rattle.oss_jobs.specs.declared.job.Job.{Job}
use Rattle.oss_words.specs.Views.{Among, Seen}
use Rattle.oss_roles.specs.Sights.{Fixed}
use Rattle.oss_field.specs.Giving.{Gave}
use Rattle.oss_field.specs.Known.{Known}
use Rattle.oss_field.specs.Leaving.{HasLeft}
use Rattle.oss_acts.specs.News.{Delivers}
use Rattle.oss_acts.specs.Working.{SameWork}

-- The seat has read flags of entries, and knows nothing else that is new: all that it had seen it has seen still.
pub record Looks (k l : Known) : Type 0 where
  pub same : l ≡ record k { seen = l.seen; still = l.still; word = l.word; found = l.found }
  pub seen : (y : Seen) → Among y k.seen → Among y l.seen
  pub still : (y : Fixed) → Among y k.still → Among y l.still

-- A seat that knew k has read flags, given up entries of the job, left values, and delivered messages, and knows l since; these tasks are told, in the order of the deliveries.
pub data Lets (code : CodeParts) (job : Job) (k : Known) : Known → List ℕ → Type 0 where
  nothing_yet : {l : Known} {told : List ℕ} → l ≡ k → told ≡ [] → Lets code job k l told
  looked_more : {l m : Known} {told : List ℕ} → Lets code job k m told → Looks m l → Lets code job k l told
  gave_more : {l m : Known} {told : List ℕ} (cell : Option ℕ) → Lets code job k m told → Gave code job cell m l → Lets code job k l told
  left_more : {l m : Known} {told : List ℕ} (cell value : ℕ) → Lets code job k m told → HasLeft code job cell value m l → Lets code job k l told
  delivered_more : {l m : Known} {told before after : List ℕ} → Lets code job k m before → Delivers m l after → SameWork m l → told ≡ before ++ after → Lets code job k l told
