-- Three runs of one body, each of which may make more calls and turns than the one before it: the second is looked at with one answer more, and the third with two.
-- They are calm if no three silent asks come in a row, and if the first releases plainly.
use Rattle.std.proofs.Common.{ℕ, Bool, true, false, List, [], ◌∷◌, ◌++◌, Option, Some, None}
use Rattle.std.specs.Prelude.{if◌then◌else◌, Result, Ok, Err}
use Rattle.oss_syntax.specs.declared.access.Access.{Access}
use Rattle.oss_syntax.specs.declared.fault.FaultKind.{FaultKind}
use Rattle.oss_syntax.specs.declared.fault.FaultKind.TheVariants as fault
use Rattle.oss_model.specs.Bodies.{Ask}
use Rattle.oss_model.specs.Bodies.Ask.{Await, Begin, Create, End, Fails, Fold, Print, Read, Release, Tick, Wait, WaitOn, Write}
use Rattle.oss_meaning.specs.declared.value.Value.{Value}
use Rattle.oss_meaning.specs.declared.value.Value.TheVariants as value
use Rattle.oss_meaning.specs.Expressions.{TreeRun, TreeScript, at_cell, loaded, unless_fault}
use Rattle.oss_meaning.specs.Pointers.{Extent, cell_of}
use Rattle.oss_meaning.specs.Runs.{asking, ending}
use Rattle.oss_missing_laws.specs.Programs.{AllUnfolded, IsSilent}

-- an ask that is neither silent nor a release
abbrev pub IsOrdinary : Ask TreeScript → Type 0
IsOrdinary Begin = ⊥
IsOrdinary Await = ⊥
IsOrdinary (Release clauses) = ⊥
IsOrdinary _ = Unit {0}

-- a release by no clause of a reduction, or any other ask
abbrev pub IsPlain : Ask TreeScript → Type 0
IsPlain (Release clauses) = AllUnfolded clauses
IsPlain _ = Unit {0}

pub not_silent : (a : Ask TreeScript) → IsOrdinary a → IsSilent a → ⊥
not_silent Begin o s = o
not_silent Await o s = o
not_silent Tick o s = s
not_silent (Read cell) o s = s
not_silent (Write cell v) o s = s
not_silent (Fold cell op v) o s = s
not_silent (Create order) o s = s
not_silent Wait o s = s
not_silent (WaitOn named) o s = s
not_silent (Release clauses) o s = s
not_silent (Print text) o s = s
not_silent End o s = s
not_silent (Fails kind) o s = s

ordinary_plain : (a : Ask TreeScript) → IsOrdinary a → IsPlain a
ordinary_plain Begin o = tt
ordinary_plain Await o = tt
ordinary_plain Tick o = tt
ordinary_plain (Read cell) o = tt
ordinary_plain (Write cell v) o = tt
ordinary_plain (Fold cell op v) o = tt
ordinary_plain (Create order) o = tt
ordinary_plain Wait o = tt
ordinary_plain (WaitOn named) o = tt
ordinary_plain (Release clauses) o = absurd o
ordinary_plain (Print text) o = tt
ordinary_plain End o = tt
ordinary_plain (Fails kind) o = tt

-- Where a run stands: outside of creations, among the clauses of a task statement, or among those of a task function.
pub data Level : Type 0 where
  outside : Level
  in_statement : Level
  in_function : Level

-- What is known of the first asks there: outside of creations nothing; among the clauses of a task statement, which may call task functions, no two silent asks come; and among those of a
-- task function none does.
abbrev pub AtFront : Level → TreeRun → TreeRun → Type 0
AtFront outside q t = Unit {0}
AtFront in_statement q t = IsSilent (q []).ask → IsSilent (t (0 ∷ [])).ask → ⊥
AtFront in_function q t = (IsSilent (q []).ask → ⊥) × (IsSilent (t []).ask → ⊥)

-- no silent ask comes first
pub loud_front : (l : Level) (q t : TreeRun) → (IsSilent (q []).ask → ⊥) → (IsSilent (t []).ask → ⊥) → AtFront l q t
loud_front outside q t one other = tt
loud_front in_statement q t one other = λ s z. one s
loud_front in_function q t one other = (one, other)

module _ (W : Type 0) where
  -- Under W the releases are plain.
  pub record Calm (l : Level) (r q t : TreeRun) : Type 0 where
    pub settles : (vs : List ℕ) → IsSilent (r vs).ask → IsSilent (q (vs ++ 0 ∷ [])).ask → IsSilent (t (vs ++ 0 ∷ 0 ∷ [])).ask → ⊥
    pub plain : (vs : List ℕ) → W → IsPlain (r vs).ask
    pub front : AtFront l q t

  -- calm among clauses is calm outside
  pub weakened : (l : Level) (r q t : TreeRun) → Calm l r q t → Calm outside r q t
  weakened l r q t c = record { settles = c.settles; plain = c.plain; front = tt }

  pub asking_calm : (l : Level) (a : Ask TreeScript) (line : ℕ) (go on more : ℕ → TreeRun) → IsOrdinary a → ((v : ℕ) → Calm outside (go v) (on v) (more v)) → Calm l (asking a line go) (asking a line on) (asking a line more)
  asking_calm l a line go on more ordinary rest = record {
    settles = settled;
    plain = plainly;
    front = loud_front l (asking a line on) (asking a line more) (not_silent a ordinary) (not_silent a ordinary);
  }
    where
      settled : (vs : List ℕ) → IsSilent (asking a line go vs).ask → IsSilent (asking a line on (vs ++ 0 ∷ [])).ask → IsSilent (asking a line more (vs ++ 0 ∷ 0 ∷ [])).ask → ⊥
      settled [] s p z = not_silent a ordinary s
      settled (v ∷ vs) s p z = (rest v).settles vs s p z

      plainly : (vs : List ℕ) → W → IsPlain (asking a line go vs).ask
      plainly [] w = ordinary_plain a ordinary
      plainly (v ∷ vs) w = (rest v).plain vs w

  pub ending_calm : (l : Level) (a : Ask TreeScript) (line : ℕ) → IsOrdinary a → Calm l (ending a line) (ending a line) (ending a line)
  ending_calm l a line ordinary = record {
    settles = λ vs s p z. not_silent a ordinary s;
    plain = λ vs w. ordinary_plain a ordinary;
    front = loud_front l (ending a line) (ending a line) (not_silent a ordinary) (not_silent a ordinary);
  }

  -- where the first run may make no more calls or turns, it is not looked at any further
  pub over_calm : (line : ℕ) (q t : TreeRun) → Calm outside (ending Tick line) q t
  over_calm line q t = record { settles = λ vs s p z. s; plain = λ vs w. tt; front = tt }

  pub release_calm : (line : ℕ) (clauses : List Access) (go on more : ℕ → TreeRun) → (W → AllUnfolded clauses) → ((v : ℕ) → Calm outside (go v) (on v) (more v))
      → Calm outside (asking (Release clauses) line go) (asking (Release clauses) line on) (asking (Release clauses) line more)
  release_calm line clauses go on more unfolded rest = record { settles = settled; plain = plainly; front = tt }
    where
      settled : (vs : List ℕ) → IsSilent (asking (Release clauses) line go vs).ask → IsSilent (asking (Release clauses) line on (vs ++ 0 ∷ [])).ask
          → IsSilent (asking (Release clauses) line more (vs ++ 0 ∷ 0 ∷ [])).ask → ⊥
      settled [] s p z = s
      settled (v ∷ vs) s p z = (rest v).settles vs s p z

      plainly : (vs : List ℕ) → W → IsPlain (asking (Release clauses) line go vs).ask
      plainly [] w = unfolded w
      plainly (v ∷ vs) w = (rest v).plain vs w

  module _ (line : ℕ) (go on more : ℕ → TreeRun) where
    -- the creation of a task function: its clauses have no silent ask in front
    pub function_begins : ((v : ℕ) → Calm in_function (go v) (on v) (more v)) → Calm in_statement (asking Begin line go) (asking Begin line on) (asking Begin line more)
    function_begins rest = record { settles = settled; plain = plainly; front = λ s z. (rest 0).front.1 z }
      where
        settled : (vs : List ℕ) → IsSilent (asking Begin line go vs).ask → IsSilent (asking Begin line on (vs ++ 0 ∷ [])).ask → IsSilent (asking Begin line more (vs ++ 0 ∷ 0 ∷ [])).ask → ⊥
        settled [] s p z = (rest 0).front.0 p
        settled (v ∷ vs) s p z = (rest v).settles vs s p z

        plainly : (vs : List ℕ) → W → IsPlain (asking Begin line go vs).ask
        plainly [] w = tt
        plainly (v ∷ vs) w = (rest v).plain vs w

    -- the creation of a task statement: its clauses have no two of them in front
    pub statement_begins : ((v : ℕ) → Calm in_statement (go v) (on v) (more v)) → Calm outside (asking Begin line go) (asking Begin line on) (asking Begin line more)
    statement_begins rest = record { settles = settled; plain = plainly; front = tt }
      where
        settled : (vs : List ℕ) → IsSilent (asking Begin line go vs).ask → IsSilent (asking Begin line on (vs ++ 0 ∷ [])).ask → IsSilent (asking Begin line more (vs ++ 0 ∷ 0 ∷ [])).ask → ⊥
        settled [] s p z = (rest 0).front p z
        settled (v ∷ vs) s p z = (rest v).settles vs s p z

        plainly : (vs : List ℕ) → W → IsPlain (asking Begin line go vs).ask
        plainly [] w = tt
        plainly (v ∷ vs) w = (rest v).plain vs w

  -- Loads, and values that fail

  pub if_calm : (l : Level) (b : Bool) (r q t u v w : TreeRun) → Calm l r q t → Calm l u v w → Calm l (if b then r else u) (if b then q else v) (if b then t else w)
  if_calm l true r q t u v w one other = one
  if_calm l false r q t u v w one other = other

  pub cell_calm : (l : Level) (o : Option ℕ) (line : ℕ) (go on more : ℕ → TreeRun) → ((c : ℕ) → Calm l (go c) (on c) (more c)) → Calm l (at_cell o line go) (at_cell o line on) (at_cell o line more)
  cell_calm l None line go on more ok = ending_calm l (Fails fault.OutOfRange) line tt
  cell_calm l (Some c) line go on more ok = ok c

  pub loaded_calm : (l : Level) (globals : List Extent) (line : ℕ) (p : Value) (go on more : Value → TreeRun) → ((v : Value) → Calm l (go v) (on v) (more v))
      → Calm l (loaded globals line p go) (loaded globals line p on) (loaded globals line p more)
  loaded_calm l globals line p go on more ok =
      cell_calm l (cell_of globals p) line (λ c. asking (Read c) line (λ v. go (value.Num v))) (λ c. asking (Read c) line (λ v. on (value.Num v))) (λ c. asking (Read c) line (λ v. more (value.Num v)))
      (λ c. asking_calm l (Read c) line (λ v. go (value.Num v)) (λ v. on (value.Num v)) (λ v. more (value.Num v)) tt (λ v. weakened l _ _ _ (ok (value.Num v))))

  pub unless_calm : (l : Level) {A : Type 0} (r : Result A FaultKind) (line : ℕ) (go on more : A → TreeRun) → ((v : A) → Calm l (go v) (on v) (more v))
      → Calm l (unless_fault r line go) (unless_fault r line on) (unless_fault r line more)
  unless_calm l (Ok v) line go on more ok = ok v
  unless_calm l (Err kind) line go on more ok = ending_calm l (Fails kind) line tt
