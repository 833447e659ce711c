-- What is kept of the tasks on the way is right behind these acts of a run.
-- Read against: behind the creation of a task by main, before any act of it, two tasks are on the way. Of the new one nothing below it is closed, and nothing at or below its first child
-- is declared or touched. Of main the children before the new one are closed: all that they left unused is told in main's list, and nothing else.
use Rattle.std.specs.Prelude.{◌≡◌, ◌≤◌, ◌<◌, ◌⊎◌, ℕ, ◌+◌, ◌||◌, Bool, true, false, List, [], ◌∷◌, reverse}
use Rattle.oss_model.specs.Bodies.{Act}
use Rattle.oss_model.specs.Order.{IsIn, IsSuffix, written}
use Rattle.oss_audit.specs.declared.begun.Begun.{Begun}
use Rattle.oss_audit.specs.declared.unused.Unused.{Unused}
use Rattle.oss_audit.specs.declared.watch.Watch.{Watch}
use Rattle.oss_pieces.specs.CellSets.{has}
use Rattle.oss_audit.specs.Trails.{Declared, Touched, place_of}
use Rattle.oss_audit.specs.Unused.{IsTold, Rises}

-- The item is of a task at or below one of the first so many children of the task at this path.
pub record IsBelow (q : List ℕ) (closed : ℕ) (u : Unused) : Type 0 where
  pub number : ℕ
  pub path : List ℕ
  pub few : number < closed
  pub below : IsSuffix (number ∷ q) path
  pub point : u.point ≡ written path

-- What is kept of a task on the way is right: so many of its children are closed, and what they and those below them left unused is told.
pub record IsOnWay {S : Type 0} (trail : List (Act S)) (b : Begun) (q : List ℕ) (closed : ℕ) : Type 0 where
  pub point : b.point ≡ written q
  pub declared : (c : ℕ) → has b.declared c ≡ true → Declared trail q c
  pub all_declared : (c : ℕ) → Declared trail q c → has b.declared c ≡ true
  pub fresh : (j : ℕ) (r : List ℕ) (c : ℕ) → b.created ≤ j → IsSuffix (j ∷ q) r → Declared trail r c ⊎ Touched trail r c → ⊥
  pub rises : Rises b.told.items
  pub below : (u : Unused) → IsIn u b.told.items → IsBelow q closed u
  pub only : (j : ℕ) (r : List ℕ) (c : ℕ) → j < closed → IsSuffix (j ∷ q) r → IsTold b.told.items r c → Declared trail r c × (Touched trail r c → ⊥)
  pub all : (j : ℕ) (r : List ℕ) (c : ℕ) → j < closed → IsSuffix (j ∷ q) r → Declared trail r c → (Touched trail r c → ⊥) → IsTold b.told.items r c

-- The test tells what the task at the path, and those below it, have touched.
pub record TellsTouched {S : Type 0} (trail : List (Act S)) (q : List ℕ) (test : ℕ → Bool) : Type 0 where
  pub so : (c : ℕ) → c < 1048576 → test c ≡ true → Touched trail q c
  pub all : (c : ℕ) → c < 1048576 → Touched trail q c → test c ≡ true

-- The tasks on the way to this path, the innermost first: what each has touched together with those further in is all that it and those below it have. Of each but the innermost all
-- children are closed but the last.
pub data AreOnWay {S : Type 0} (trail : List (Act S)) : (ℕ → Bool) → List ℕ → ℕ → List Begun → Type 0 where
  at_main : {within : ℕ → Bool} {closed : ℕ} {b : Begun} → IsOnWay trail b [] closed → TellsTouched trail [] (λ c. has b.touched c || within c) → AreOnWay trail within [] closed (b ∷ [])
  at_child : {within : ℕ → Bool} {k : ℕ} {q : List ℕ} {closed : ℕ} {b a : Begun} {rest : List Begun} → IsOnWay trail b (k ∷ q) closed
      → TellsTouched trail (k ∷ q) (λ c. has b.touched c || within c) → a.created ≡ k + 1 → AreOnWay trail (λ c. has b.touched c || within c) q k (a ∷ rest) → AreOnWay trail within (k ∷ q) closed (b ∷ a ∷ rest)

-- What is kept is right behind these acts.
pub record IsFollowing {S : Type 0} (trail : List (Act S)) (w : Watch) : Type 0 where
  pub created : w.top.created ≡ (place_of trail).created
  pub way : AreOnWay trail (λ c. false) (place_of trail).path (place_of trail).created (w.top ∷ reverse w.above)
