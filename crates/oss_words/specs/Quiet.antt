-- Words at rest: no seat holds a message, and none is between a give and the link of the last child.
-- Read against: the first view of `Views` is at rest before the give of 1, and again after three deliveries.
use Rattle.std.specs.Prelude.{◌≡◌, ◌≢◌, ℕ, Bool, true, List, []}
use Rattle.oss_syntax.specs.declared.access.Op.{Op}
use Rattle.oss_syntax.specs.declared.access.Mode.TheVariants.{Fold}
use Rattle.oss_model.specs.Forest.{Forest, IsDone, IsWriteSatisfied, IsReadSatisfied, IsJoinSatisfied}
use Rattle.oss_words.specs.declared.entry.EntryState.{EntryState}
use Rattle.oss_words.specs.declared.entry.EntryInfo.{EntryInfo}
use Rattle.oss_words.specs.Net.{Place, apart, Top, Child, Earlier}
use Rattle.oss_words.specs.Views.{View, At, Named, Released}

-- No seat holds a message or is between two steps of a give.
pub record Quiet (views : List View) : Type 0 where
  pub empty : (id : ℕ) (v : View) → At views id v → v.held ≡ []
  pub whole : (id : ℕ) (v : View) → At views id v → v.half ≡ []

-- The forest of accesses that places and gives make, with modes as the info words tell them.
abbrev pub forest_told : (ℕ → Place) → (ℕ → Bool) → (ℕ → EntryInfo) → Forest ℕ
forest_told place gave infos = record {
  Top = Top place;
  Child = Child place;
  Earlier = Earlier place;
  mode = λ e. (infos e).mode;
  Given = λ e. gave e ≡ true;
}

-- Places and gives are those that the views name.
pub record Tell (views : List View) (place : ℕ → Place) (gave : ℕ → Bool) : Type 0 where
  pub links : (e : ℕ) → place e ≢ apart → Named views e (place e)
  pub linked : (e : ℕ) (p : Place) → Named views e p → (place e ≡ p) × (p ≢ apart)
  pub gives : (e : ℕ) → gave e ≡ true → Released views e
  pub given : (e : ℕ) → Released views e → gave e ≡ true

-- Each flag stands exactly where its condition holds.
pub record Exact (F : Forest ℕ) (e : ℕ) (c : EntryState) : Type 0 where
  pub reads : (c.reads ≡ true → IsReadSatisfied F e) × (IsReadSatisfied F e → c.reads ≡ true)
  pub writes : (c.writes ≡ true → IsWriteSatisfied F e) × (IsWriteSatisfied F e → c.writes ≡ true)
  pub folds : (op : Op) → F.mode e ≡ Fold op → (c.folds ≡ true → IsJoinSatisfied F op e) × (IsJoinSatisfied F op e → c.folds ≡ true)
  pub given : (c.given ≡ true → F.Given e) × (F.Given e → c.given ≡ true)
  pub done : (c.done ≡ true → IsDone F e) × (IsDone F e → c.done ≡ true)
  pub clear : (c.clear ≡ true → (u : ℕ) → F.Earlier u e → IsDone F u) × (((u : ℕ) → F.Earlier u e → IsDone F u) → c.clear ≡ true)
