-- What each kind of step makes of what its seat knows.
-- Read against: a seat that bears the job of task 7, whose body stands before the load of cell 4. The load finds 5: of the job the seat knows one
-- answer more, 5, and of its last step the word 5 and what it found, 5. Before a fold into cell 4 the load of 5 leaves the body, and is kept beside
-- it, until the store; a load of another job leaves it there, and a put of the job does not.
use Rattle.std.specs.Prelude.{ℕ, zero, suc, ◌==◌, cond, List, [], ◌∷◌, set}
use Rattle.oss_machine.specs.Frames.{CodeScript}
use Rattle.oss_model.specs.Bodies.{Body}
use Rattle.oss_roles.specs.Alone.{with_answer}
use Rattle.oss_roles.specs.Sights.{Noted}
use Rattle.oss_field.specs.Known.{Holding, Known}

-- Its last step was at this word, and found this there.
abbrev pub touched : ℕ → ℕ → Known → Known
touched word found k = record k { word = word; found = found }

-- What loads of folds have found, for other tasks than this one.
abbrev pub loaded_beside : ℕ → List Noted → List Noted
loaded_beside t [] = []
loaded_beside t (y ∷ ys) = cond (y.name == t) (loaded_beside t ys) (y ∷ loaded_beside t ys)

-- The job with a body that has gone on.
abbrev pub with_body : Body CodeScript → Holding → Holding
with_body x h = record h { body = x }

-- The job h at the place i went on by itself to the body x, and then did its act, with this answer.
abbrev pub answered : ℕ → Holding → Body CodeScript → ℕ → Known → Known
answered i h x answer k = record k { bears = set k.bears i (with_body (with_answer answer x) h); loaded = loaded_beside h.number k.loaded }

-- It went on to x, which stands before a fold into a cell, and found there what the cell is.
abbrev pub noted : ℕ → Holding → Body CodeScript → ℕ → Known → Known
noted i h x value k = record k { bears = set k.bears i (with_body x h); loaded = record { name = h.number; value = value } ∷ loaded_beside h.number k.loaded }

-- The count of task t was read: it is known to be ready if the count was 0.
abbrev pub counted : ℕ → ℕ → Known → Known
counted t zero k = record k { ready = t ∷ k.ready }
counted t (suc n) k = k

-- The job of a task was taken.
abbrev pub took : Holding → Known → Known
took h k = record k { bears = h ∷ k.bears }

-- The job of the task t, which was taken last, was put; these are the others. What was loaded for a fold of it is forgotten, and what was read to stay.
abbrev pub put_back : ℕ → List Holding → Known → Known
put_back t others k = record k { bears = others; loaded = loaded_beside t k.loaded; still = [] }
