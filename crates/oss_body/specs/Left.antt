-- What is left to do for a body, told of what is kept of it: a number that falls with each of its acts, so a loop over bodies may have it as its measure.
-- Read against: a body that has ended has nothing left. One whose task stands before a tick, with fuel for it, has more left before the tick than behind
-- it; and one that creates a task more before the creation than it and the new task together behind it.
use Rattle.std.specs.Prelude.{ℕ, suc, ◌+◌, ◌*◌, Bool, true, false, List, [], ◌∷◌}
use Rattle.oss_model.specs.Potential.{share_of}
use Rattle.oss_code.specs.declared.code.CodeParts.{CodeParts}
use Rattle.oss_machine.specs.Machines.{most_left, room}
use Rattle.oss_body.specs.declared.body.Body.{Body}
use Rattle.oss_body.specs.Places.{Framed as Frame}

-- No function of the code makes more steps before an ask.
abbrev pub most_room : CodeParts → ℕ
most_room code = most_left code * suc (suc (most_left code))

-- No body of the code asks for more things between two ticks, with 513 functions open at most.
abbrev pub most_asks : CodeParts → ℕ
most_asks code = 513 * suc (most_room code) + most_room code

-- What a task counts for, as it is kept: by its fuel and its depth, by the room of its machine, and by whether it awaits a new task.
abbrev pub kept_share : CodeParts → Frame → ℕ
kept_share code f = share_of (most_asks code) (room code f.machine.config) f.place.context f.awaits

-- What tasks count for together.
abbrev pub kept_shares : CodeParts → List Frame → ℕ
kept_shares code [] = 0
kept_shares code (f ∷ fs) = kept_share code f + kept_shares code fs

-- What the tasks of a body count for, the one that acts and those below it: nothing where the body has ended.
abbrev pub tasks_left : CodeParts → Bool → Frame → List Frame → ℕ
tasks_left code true top below = 0
tasks_left code false top below = kept_share code top + kept_shares code below

-- What is left to do for a body: 0 behind its end.
abbrev pub body_left : CodeParts → Body → ℕ
body_left code b = tasks_left code b.tasks.ended b.tasks.top b.tasks.below
