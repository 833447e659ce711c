-- Jobs in groups of neighbours, and what was made of them.
-- Read against: the jobs 1 to 10, of each of which its double is made. Of three workers each gets at most 4, so the groups are 1 2 3 4, 5 6 7 8 and 9 10, of the
-- workers 0, 1 and 2. What is made of them is 2 4 6 8, 10 12 14 16 and 18 20, and joined it is 2 4 6 8 10 12 14 16 18 20. Of 64 workers each gets at most one job,
-- so there are ten groups. Of no jobs there is one group, which is empty.
use Rattle.std.specs.Prelude.{◌≡◌, ℕ, ◌+◌, List, [], ◌∷◌, ◌++◌, Result, Ok, Err, Vec}
use Rattle.std.specs.declared.alloc.AllocError.{AllocError}
use Rattle.std.specs.declared.alloc.Global.{Global}
use Rattle.oss_thread_groups.specs.declared.group.Group.{Group}

-- Of each job its answer was made, place by place, and there are as many answers as jobs: 2 4 6 of 1 2 3, where of a job its double is made.
abbrev pub AreGiven : {J X : Type 0} → (J → X → Type 0) → List J → List X → Type 0
AreGiven gives [] [] = Unit {0}
AreGiven gives (job ∷ jobs) (answer ∷ answers) = gives job answer × AreGiven gives jobs answers
AreGiven gives [] (answer ∷ answers) = ⊥
AreGiven gives (job ∷ jobs) [] = ⊥

-- The jobs of all groups, in their order: 1 to 10 of the groups 1 2 3 4, 5 6 7 8 and 9 10.
abbrev pub jobs_of : {J : Type 0} → List (Group J) → List J
jobs_of [] = []
jobs_of (group ∷ more) = group.jobs.items ++ jobs_of more

-- The workers of the groups are counted from this number on: from 0 on, those of three groups are 0, 1 and 2.
abbrev pub AreNumbered : {J : Type 0} → ℕ → List (Group J) → Type 0
AreNumbered first [] = Unit {0}
AreNumbered first (group ∷ more) = (group.worker ≡ first) × AreNumbered (first + 1) more

-- The answers of all groups are there, and these are they, one list behind the other: 2 4 6 8 10 of 2 4 6 8 and 10. Where a group wanted memory there are none.
abbrev pub IsJoined : {X : Type 0} → List (Result (Vec X Global) AllocError) → List X → Type 0
IsJoined [] all = all ≡ []
IsJoined (Ok done ∷ more) all = (behind : List _) × (all ≡ done.items ++ behind) × IsJoined more behind
IsJoined (Err error ∷ more) all = ⊥
