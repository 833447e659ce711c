-- What the trials of waves and of moves need of the crates below: a core stands for some state behind a wave and behind a pass, and it is right who is awake; and the parts of bodies
-- that are made one after the other are the parts of them all.
use Rattle.std.proofs.Common.{◌≡◌, ◌∙◌, ℕ, zero, suc, ◌+◌, ◌<◌, refl, sym, subst, ap, arith, List, [], ◌∷◌, ◌++◌, length, Bool, true, false, Result, Ok, Err, Some}
use Rattle.std.specs.Prelude.{◌==◌, IfOk, OnOk, slice_get}
use Rattle.std.proofs.lemmas.Bool.Decides.{nat_tests}
use Rattle.std.proofs.lemmas.Option.{slice_get_within}
use Rattle.oss_model.specs.Machine.{State}
use Rattle.oss_model.specs.Moves.{CanLet}
use Rattle.oss_model.specs.Order.{IsIn, here, there}
use Rattle.oss_wave_laws.specs.Passes.{GivenUp, IsPass}
use Rattle.oss_wave_laws.specs.Rounds.{Span, spans}
use Rattle.oss_code.specs.declared.code.CodeParts.{CodeParts}
use Rattle.oss_machine.specs.Frames.{CodeScript}
use Rattle.oss_machine.specs.Machines.{asks}
use Rattle.oss_body.specs.declared.body.Body.{Body}
use Rattle.oss_segment.specs.declared.segment.Segment.{Segment}
use Rattle.oss_segment.specs.Segments.{IsKnown}
use Rattle.oss_tree.specs.declared.task.Task.{Task}
use Rattle.oss_core.specs.declared.passing.Passed.{Passed}
use Rattle.oss_core.specs.declared.turns.Turn.{Turn}
use Rattle.oss_core.specs.Kept.{IsRunning, Kept}
use Rattle.oss_core.specs.Leaving.{HaveGivenUp, WasWave}
use Rattle.oss_core.specs.Passing.{HasPassed, HaveGiven, TellsOf}
use Rattle.oss_core.specs.Turns.{ArePartsOf, HasWaved, IsPartOf, KeepsTasks}
use Rattle.oss_core.proofs.ExactLemmas.{let_told}
use Rattle.oss_core.proofs.PassLemmas.{idle_pass, none_told}
use Rattle.oss_core.proofs.TreeFacts.{kept_within, sizes}
use Rattle.oss_wakeups.specs.declared.watch.Watch.{Watch}
use Rattle.oss_wakeups.specs.Watches.{HasNoLet, IsBehindPass, IsBehindWave, IsWatch}

-- behind a wave the core stands for some state
pub wave_running : (code : CodeParts) (old new : Kept) (turns : List Turn) → IsRunning code old → HasWaved code old new turns → IsRunning code new
wave_running code old new turns running waved =
    let w = waved running.main running.first running.state running.core in
    record { main = running.main; first = running.first; state = w.0; core = w.4 }

-- and behind a pass
pub pass_running : (code : CodeParts) (old new : Kept) (passed : List Passed) → IsRunning code old → HasPassed code old new passed → IsRunning code new
pass_running code old new passed running made =
    let p = made running.main running.first running.state running.core in
    record { main = running.main; first = running.first; state = p.0; core = p.4 }

-- what follows where a call did not want memory
pub on_ok : {A E : Type 0} {F : A → Type 0} {T : Type 0} (r : Result A E) → ((x : A) → F x → T) → IfOk r F → OnOk r T
on_ok (Ok x) h p = h x p
on_ok (Err e) h p = tt

-- one more body with its part
parts_both : (code : CodeParts) (memory : List ℕ) (bodies : List Body) (parts : List Segment) (b : Body) (s : Segment) → ArePartsOf code memory bodies parts → IsPartOf code memory b s → ArePartsOf code memory (bodies ++ b ∷ []) (parts ++ s ∷ [])
parts_both code memory [] [] b s h k = (k, tt)
parts_both code memory [] (x ∷ parts) b s h k = absurd h
parts_both code memory (y ∷ bodies) [] b s h k = absurd h
parts_both code memory (y ∷ bodies) (x ∷ parts) b s h k = (h.0, parts_both code memory bodies parts b s h.1 k)

pub parts_more : (code : CodeParts) (memory : List ℕ) (bodies : List Body) (parts new : List Segment) (b : Body) (s : Segment) → new ≡ parts ++ s ∷ [] → ArePartsOf code memory bodies parts → IsPartOf code memory b s → ArePartsOf code memory (bodies ++ b ∷ []) new
parts_more code memory bodies parts new b s e h k = subst (λ (all : List Segment). ArePartsOf code memory (bodies ++ b ∷ []) all) (sym e) (parts_both code memory bodies parts b s h k)

-- what is so of all bodies that are left is so of the first
pub first_known : (code : CodeParts) (all : List Body) (b : Body) (rest : List Body) → all ≡ b ∷ rest → ((x : Body) → IsIn x all → IsKnown code x) → IsKnown code b
first_known code all b rest e h = h b (subst (λ (xs : List Body). IsIn b xs) (sym e) here)

-- and of those behind it
pub rest_known : (code : CodeParts) (all : List Body) (b : Body) (rest : List Body) → all ≡ b ∷ rest → ((x : Body) → IsIn x all → IsKnown code x) → (x : Body) → IsIn x rest → IsKnown code x
rest_known code all b rest e h x i = h x (subst (λ (xs : List Body). IsIn x xs) (sym e) (there i))

-- of which there is one less
pub one_less : (all : List Body) (b : Body) (rest : List Body) (m n : ℕ) → all ≡ b ∷ rest → n + 1 ≡ m → m ≡ length all → n ≡ length rest
one_less all b rest m n e f g = let k : length all ≡ length (b ∷ rest) = ap (λ (xs : List Body). length xs) e in let j : length (b ∷ rest) ≡ length rest + 1 = omega arith in omega (arith, f, g, k, j)

-- it was right before a wave who is awake
pub behind_wave : (code : CodeParts) (old new : Kept) (told : List Turn) (w : Watch) → IsRunning code old → IsWatch old w → WasWave told old new → KeepsTasks old.tree.tasks new.tree.tasks → IsBehindWave told new w
behind_wave code old new told w running watch wave tasks = record { code = code; before = old; ran = running; watch = watch; wave = record { wave = wave; tasks = tasks } }

pub behind_pass : (code : CodeParts) (old new : Kept) (told : List Passed) (w : Watch) → IsRunning code old → IsWatch old w → HaveGivenUp told old new → HaveGiven old.tree.tasks new.tree.tasks → IsBehindPass told new w
behind_pass code old new told w running watch given tasks = record { code = code; before = old; ran = running; watch = watch; pass = record { given_up = given; tasks = tasks } }

-- a member of a list, by its place
in_place : {A : Type 0} (xs : List A) (at : ℕ) (x : A) → slice_get xs at ≡ Some x → IsIn x xs
in_place [] at x e = absurd cc
in_place {A = A} (y ∷ xs) zero x e = let f : y ≡ x = cc in subst (λ (z : A). IsIn x (z ∷ xs)) (sym f) here
in_place (y ∷ xs) (suc at) x e = there (in_place xs at x e)

-- turns are those of tasks of the tree
pub turns_there : (code : CodeParts) (old new : Kept) (told : List Turn) → IsRunning code old → WasWave told old new → KeepsTasks old.tree.tasks new.tree.tasks → (at : ℕ) (one : Turn) → slice_get told at ≡ Some one → one.task.0 < length new.tree.tasks
turns_there code old new told running wave tasks at one e =
    let may = wave.may one.task.0 (record { one = one; listed = in_place told at one e; task = refl }) in
    let l = kept_within running.core one.task.0 may.held may.is in
    let s = sizes running.core in
    let m = tasks.more in
    omega (arith, l, s, m)

-- and so is what was passed
tells_there : (tasks : List Task) (told : List Passed) (list : List Span) → TellsOf tasks told list → (at : ℕ) (one : Passed) → slice_get told at ≡ Some one → one.task.0 < length tasks
tells_there tasks [] [] t at one e = absurd cc
tells_there tasks [] (x ∷ list) t at one e = absurd t
tells_there tasks (y ∷ told) [] t at one e = absurd t
tells_there tasks (y ∷ told) (x ∷ list) t zero one e = let f : y ≡ one = cc in subst (λ (z : Passed). z.task.0 < length tasks) f (slice_get_within tasks y.task.0 t.0.point.task t.0.point.at_)
tells_there tasks (y ∷ told) (x ∷ list) t (suc at) one e = tells_there tasks told list t.1 at one e

pub passed_there : (code : CodeParts) (old new : Kept) (told : List Passed) → IsRunning code old → HasPassed code old new told → HaveGiven old.tree.tasks new.tree.tasks → (at : ℕ) (one : Passed) → slice_get told at ≡ Some one → one.task.0 < length new.tree.tasks
passed_there code old new told running passed tasks at one e =
    let p = passed running.main running.first running.state running.core in
    subst (λ (n : ℕ). one.task.0 < n) (sym tasks.size) (tells_there old.tree.tasks told (spans p.1) p.3 at one e)

-- where a pass gave nothing up no cell may be given up by a let
pub passed_quiet : (code : CodeParts) (old new : Kept) (told : List Passed) → IsRunning code old → HasPassed code old new told → told ≡ [] → HasNoLet new
passed_quiet code old new told running passed e v c may =
    let p = passed running.main running.first running.state running.core in
    let none : p.1 ≡ [] = none_told old.tree.tasks p.1 (subst (λ (xs : List Passed). TellsOf old.tree.tasks xs (spans p.1)) e p.3) in
    let idle = idle_pass running.core p.0 (subst (λ (list : List GivenUp). IsPass (asks code) running.state list p.0) none p.2) in
    let l = let_told p.4 v c may in
    idle.no_let l.0 c l.1 (subst (λ (s : State CodeScript). CanLet (asks code) s l.0 c l.1) idle.same_state l.3)

-- a list without a length is empty
pub nothing_in : {A : Type 0} (xs : List A) (empty : Bool) → empty ≡ (length xs == 0) → empty ≡ true → xs ≡ []
nothing_in [] empty e f = refl
nothing_in (x ∷ xs) empty e f = absurd (clash (sym f ∙ (e ∙ more)))
  where
    more : (length (x ∷ xs) == 0) ≡ false
    more = grind (arith, nat_tests)

    clash : true ≡ false → ⊥
    clash g = cc
