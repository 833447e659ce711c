-- What is noted of a wave and of a pass are the lines of its trace.
use Rattle.std.proofs.Common.{◌≡◌, ℕ, zero, suc, ◌-◌, ◌<◌, ◌≤◌, refl, sym, ap, ◌∙◌, subst, arith, List, [], ◌∷◌, ◌++◌, length, Bool, true, false, Some}
use Rattle.std.specs.Prelude.{slice_get, map}
use Rattle.std.proofs.lemmas.Option.{slice_get_within}
use Rattle.oss_model.specs.Order.{written}
use Rattle.oss_wave_laws.specs.Rounds.{Line, Span, line_from, span_line, step_line, turn_line}
use Rattle.oss_wave_laws.specs.Waves as waves
use Rattle.oss_thread_groups.specs.Groups.{AreGiven}
use Rattle.oss_tree.specs.declared.task.Task.{Task}
use Rattle.oss_tree.specs.Tasks.{HasPoint}
use Rattle.oss_core.specs.declared.passing.Passed.{Passed}
use Rattle.oss_core.specs.declared.turns.Turn.{Turn}
use Rattle.oss_core.specs.Passing.{HaveGiven, Tells, TellsOf}
use Rattle.oss_core.specs.Turns.{AreTold, IsTold, KeepsTasks}
use Rattle.oss_core.proofs.KeepLemmas.{some_is}
use Rattle.oss_core.proofs.RunsLemmas.{point_after}
use Rattle.oss_sched.specs.declared.moves.TextMove.{TextMove}
use Rattle.oss_waves.specs.Noting.{IsGivenOf, IsStepOf, Notes, given_by}
use Rattle.oss_waves.specs.WaveRuns.{line_of, lines_of}
use Rattle.oss_waves.proofs.ListLemmas.{map_both}

-- a task has one point
one_point : (tasks : List Task) (v : ℕ) (p q : List ℕ) → HasPoint tasks v p → HasPoint tasks v q → p ≡ q
one_point tasks v p q h g = sym h.point ∙ ap (λ (t : Task). t.point) (some_is (sym h.at_ ∙ g.at_)) ∙ g.point

-- the line of a turn
step_same : (old new : List Task) → KeepsTasks old new → (one : Turn) (turn : waves.Turn) (what : TextMove) → IsTold old one turn → IsStepOf new one what → line_of what ≡ turn_line turn
step_same old new keeps one turn what told is =
    let p = one_point new one.task.0 is.0 (written turn.path) is.1 (keeps.points one.task.0 (written turn.path) told.point) in
    ap line_of is.2 ∙ (ap (λ (q : List ℕ). step_line q one.acts) p ∙ ap (λ (n : ℕ). step_line (written turn.path) n) told.acts)

both_alike : {A : Type 0} {x y : A} {xs ys : List A} → x ≡ y → xs ≡ ys → x ∷ xs ≡ y ∷ ys
both_alike e f = cc

-- those of all turns
steps_same : (old new : List Task) → KeepsTasks old new → (told : List Turn) (turns : List waves.Turn) (added : List TextMove) → AreTold old told turns → AreGiven (IsStepOf new) told added → lines_of added ≡ map turn_line turns
steps_same old new keeps [] [] [] t g = refl
steps_same old new keeps [] [] (what ∷ more) t g = absurd g
steps_same old new keeps [] (turn ∷ rest) added t g = absurd t
steps_same old new keeps (one ∷ told) [] added t g = absurd t
steps_same old new keeps (one ∷ told) (turn ∷ rest) [] t g = absurd g
steps_same old new keeps (one ∷ told) (turn ∷ rest) (what ∷ more) t g = both_alike (step_same old new keeps one turn what t.0 g.0) (steps_same old new keeps told rest more t.1 g.1)

-- the line of cells that were given up
line_same : (b : Bool) (p : List ℕ) (first count : ℕ) → line_of (given_by b p first count) ≡ line_from b p first count
line_same true p first count = refl
line_same false p first count = refl

given_same : (old new : List Task) → HaveGiven old new → (one : Passed) (span : Span) (what : TextMove) → Tells old one span → IsGivenOf new one what → line_of what ≡ span_line span
given_same old new given one span what told is =
    let p = one_point new one.task.0 is.0 (written span.path) is.1 (point_after given one.task.0 (written span.path) told.point) in
    let f = told.first in
    let l = told.last in
    let n : one.range.hi - one.range.lo ≡ span.count = omega (arith, f, l) in
    ap line_of is.2 ∙ (line_same one.joined is.0 one.range.lo (one.range.hi - one.range.lo)
    ∙ (ap (λ (b : Bool). line_from b is.0 one.range.lo (one.range.hi - one.range.lo)) told.joined
    ∙ (ap (λ (q : List ℕ). line_from span.joined q one.range.lo (one.range.hi - one.range.lo)) p
    ∙ (ap (λ (k : ℕ). line_from span.joined (written span.path) k (one.range.hi - one.range.lo)) f ∙ ap (λ (k : ℕ). line_from span.joined (written span.path) span.first k) n))))

-- those of all
all_same : (old new : List Task) → HaveGiven old new → (told : List Passed) (spans : List Span) (added : List TextMove) → TellsOf old told spans → AreGiven (IsGivenOf new) told added → lines_of added ≡ map span_line spans
all_same old new given [] [] [] t g = refl
all_same old new given [] [] (what ∷ more) t g = absurd g
all_same old new given [] (span ∷ rest) added t g = absurd t
all_same old new given (one ∷ told) [] added t g = absurd t
all_same old new given (one ∷ told) (span ∷ rest) [] t g = absurd g
all_same old new given (one ∷ told) (span ∷ rest) (what ∷ more) t g = both_alike (given_same old new given one span what t.0 g.0) (all_same old new given told rest more t.1 g.1)

-- behind what was noted before
pub turns_noted : (old new : List Task) → KeepsTasks old new → (told : List Turn) (turns : List waves.Turn) (before after : List TextMove) → AreTold old told turns → Notes (IsStepOf new) told before after → lines_of after ≡ lines_of before ++ map turn_line turns
turns_noted old new keeps told turns before after t n =
    ap lines_of n.1 ∙ (map_both line_of before n.0 ∙ ap (λ (xs : List Line). lines_of before ++ xs) (steps_same old new keeps told turns n.0 t n.2))

pub passed_noted : (old new : List Task) → HaveGiven old new → (told : List Passed) (spans : List Span) (before after : List TextMove) → TellsOf old told spans → Notes (IsGivenOf new) told before after → lines_of after ≡ lines_of before ++ map span_line spans
passed_noted old new given told spans before after t n =
    ap lines_of n.1 ∙ (map_both line_of before n.0 ∙ ap (λ (xs : List Line). lines_of before ++ xs) (all_same old new given told spans n.0 t n.2))

-- each of them names a task of the tree
pub turn_there : (old new : List Task) → KeepsTasks old new → (told : List Turn) (turns : List waves.Turn) → AreTold old told turns → (at : ℕ) (one : Turn) → slice_get told at ≡ Some one → one.task.0 < length new
turn_there old new keeps [] turns t at one e = absurd cc
turn_there old new keeps (x ∷ told) [] t at one e = absurd t
turn_there old new keeps (x ∷ told) (turn ∷ rest) t zero one e =
    let k : x ≡ one = some_is e in
    let h = keeps.points x.task.0 (written turn.path) t.0.point in
    subst (λ (y : Turn). y.task.0 < length new) k (slice_get_within new x.task.0 h.task h.at_)
turn_there old new keeps (x ∷ told) (turn ∷ rest) t (suc at) one e = turn_there old new keeps told rest t.1 at one e

pub passed_there : (old new : List Task) → HaveGiven old new → (told : List Passed) (spans : List Span) → TellsOf old told spans → (at : ℕ) (one : Passed) → slice_get told at ≡ Some one → (one.task.0 < length new) × (one.range.lo ≤ one.range.hi)
passed_there old new given [] spans t at one e = absurd cc
passed_there old new given (x ∷ told) [] t at one e = absurd t
passed_there old new given (x ∷ told) (span ∷ rest) t zero one e =
    let k : x ≡ one = some_is e in
    let h = point_after given x.task.0 (written span.path) t.0.point in
    let f = t.0.first in
    let l = t.0.last in
    subst (λ (y : Passed). (y.task.0 < length new) × (y.range.lo ≤ y.range.hi)) k (slice_get_within new x.task.0 h.task h.at_, omega (arith, f, l))
passed_there old new given (x ∷ told) (span ∷ rest) t (suc at) one e = passed_there old new given told rest t.1 at one e
