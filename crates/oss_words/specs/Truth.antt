-- What the flags of a word say of its entry, over the lists that the links make.
-- Read against: the writes 1 and 2 behind it, both of main. 1 is given up and has no child, so it is done; 2 may have reads, writes and
-- clear from then on, and before that none of them.
use Rattle.std.specs.Prelude.{◌≡◌, ◌≢◌, ◌<◌, ℕ, Bool, true}
use Rattle.oss_syntax.specs.declared.access.Op.{Op}
use Rattle.oss_syntax.specs.declared.access.Mode.TheVariants.{Fold}
use Rattle.oss_model.specs.Forest.{IsDone, IsWriteSatisfied, IsReadSatisfied, IsJoinSatisfied}
use Rattle.oss_words.specs.declared.entry.EntryState.{EntryState}
use Rattle.oss_words.specs.Net.{Net, apart, Earlier, forest}

-- Each flag that stands is true, and given stands exactly where the entry was given up.
pub record Holds (net : Net) (gave : ℕ → Bool) (e : ℕ) (c : EntryState) : Type 0 where
  pub reads : c.reads ≡ true → IsReadSatisfied (forest net gave) e
  pub writes : c.writes ≡ true → IsWriteSatisfied (forest net gave) e
  pub folds : c.folds ≡ true → (op : Op) → net.mode e ≡ Fold op → IsJoinSatisfied (forest net gave) op e
  pub clear : c.clear ≡ true → (u : ℕ) → Earlier net.place u e → IsDone (forest net gave) u
  pub done : c.done ≡ true → IsDone (forest net gave) e
  pub given : c.given ≡ gave e

abbrev pub Truth : ℕ → Net → (ℕ → Bool) → (ℕ → EntryState) → Type 0
Truth n net gave states = (e : ℕ) → e < n → net.place e ≢ apart → Holds net gave e (states e)
