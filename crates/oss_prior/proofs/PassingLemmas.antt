-- Passes, one after the other.
use Rattle.std.proofs.Common.{◌≡◌, ℕ, zero, suc, ◌<◌, ◌↔◌, ◌⊎◌, inl, inr, refl, sym, ap, ◌∙◌, subst, arith, List, [], ◌∷◌, ◌++◌, length, Bool, true, false, Some, append_assoc}
use Rattle.std.specs.Prelude.{◌==◌, not, slice_get}
use Rattle.std.proofs.lemmas.Bool.Decides.{nat_tests}
use Rattle.std.proofs.lemmas.List.{append-nil}
use Rattle.std.proofs.lemmas.Option.{slice_get_within}
use Rattle.oss_model.specs.Machine.{State}
use Rattle.oss_wave_laws.specs.Passes.{GivenUp, IsPass, Passes, idles, passes}
use Rattle.oss_wave_laws.specs.Rounds.{Span, spans}
use Rattle.oss_code.specs.declared.code.CodeParts.{CodeParts}
use Rattle.oss_machine.specs.Frames.{CodeScript}
use Rattle.oss_machine.specs.Machines.{asks}
use Rattle.oss_tree.specs.declared.task.Task.{Task}
use Rattle.oss_tree.specs.Tasks.{HasPoint, given_task}
use Rattle.oss_core.specs.declared.passing.Passed.{Passed}
use Rattle.oss_core.specs.CoreLeft.{core_left}
use Rattle.oss_core.specs.Kept.{IsRunning, Kept}
use Rattle.oss_core.specs.Leaving.{HaveGivenUp}
use Rattle.oss_core.specs.Passing.{HasPassed, HaveGiven, TellsOf}
use Rattle.oss_core.specs.Turns.{KeepsTasks}
use Rattle.oss_core.proofs.ExactLemmas.{let_told}
use Rattle.oss_core.proofs.FallLemmas.{core_passes_fall}
use Rattle.oss_core.proofs.PassLemmas.{idle_pass, none_told}
use Rattle.oss_kept_tasks.specs.declared.held.Held.{Held}
use Rattle.oss_wakeups.specs.Watches.{HasNoLet, IsPassOf}
use Rattle.oss_prior.specs.Choosing.{KeepsBodies, KeepsOthers}
use Rattle.oss_prior.specs.Turning.{HasMadePass, HasMadePasses, HavePassesGone, IsAtRest}

-- where nothing is told nothing was given up
none_given : (tasks : List Task) (told : List Passed) (list : List GivenUp) → TellsOf tasks told (spans list) → (told ≡ [] ↔ list ≡ [])
none_given tasks told list t = (λ e. none_told tasks list (subst (λ (xs : List Passed). TellsOf tasks xs (spans list)) e t), λ e. back told (subst (λ (xs : List GivenUp). TellsOf tasks told (spans xs)) e t))
  where
    back : (xs : List Passed) → TellsOf tasks xs [] → xs ≡ []
    back [] h = refl
    back (x ∷ xs) h = absurd h

-- a list is empty where its length is 0
pub none_in : (told : List Passed) (empty : Bool) → empty ≡ (length told == 0) → (not empty ≡ false ↔ told ≡ [])
none_in [] empty e = (λ h. refl, λ h. ap not e)
none_in (x ∷ told) empty e = (λ h. absurd (never (ap not e) h), λ h. absurd cc)
  where
    more : (length (x ∷ told) == 0) ≡ false
    more = grind (arith, nat_tests)

    never : not empty ≡ not (length (x ∷ told) == 0) → not empty ≡ false → ⊥
    never f h = let k : not (length (x ∷ told) == 0) ≡ true = ap not more in cc

-- a pass
pub pass_made : (code : CodeParts) (old new : Kept) (told : List Passed) (some : Bool) → HasPassed code old new told → (some ≡ false ↔ told ≡ []) → HasMadePass code old new some
pass_made code old new told some passed none main first s core =
    let p = passed main first s core in
    let e = none_given old.tree.tasks told p.1 p.3 in
    record {
      state = p.0;
      list = p.1;
      pass = p.2;
      core = p.4;
      some_is = (λ h. e.0 (none.0 h), λ h. none.1 (e.1 h));
    }

-- what is told of it names tasks of the tree
told_there : (old : List Task) (told : List Passed) (list : List Span) → TellsOf old told list → (at : ℕ) (one : Passed) → slice_get told at ≡ Some one → one.task.0 < length old
told_there old [] list t at one e = absurd cc
told_there old (x ∷ told) [] t at one e = absurd t
told_there old (x ∷ told) (span ∷ rest) t zero one e =
    let f : x ≡ one = cc in
    subst (λ (y : Passed). y.task.0 < length old) f (slice_get_within old x.task.0 t.0.point.task t.0.point.at_)
told_there old (x ∷ told) (span ∷ rest) t (suc at) one e = told_there old told rest t.1 at one e

pub made_there : (code : CodeParts) (old new : Kept) (told : List Passed) → IsRunning code old → HasPassed code old new told → HaveGiven old.tree.tasks new.tree.tasks → (at : ℕ) (one : Passed) → slice_get told at ≡ Some one → one.task.0 < length new.tree.tasks
made_there code old new told running passed given at one e =
    let p = passed running.main running.first running.state running.core in
    subst (λ (n : ℕ). one.task.0 < n) (sym given.size) (told_there old.tree.tasks told (spans p.1) p.3 at one e)

-- each task keeps its point
pub given_keeps : (old new : List Task) → HaveGiven old new → KeepsTasks old new
given_keeps old new given = record { points = λ v q h. go v q h (given.each v h.task h.at_); more = let e = given.size in omega (arith, e) }
  where
    go : (v : ℕ) (q : List ℕ) (h : HasPoint old v q) → (slice_get new v ≡ Some h.task) ⊎ (slice_get new v ≡ Some (given_task h.task)) → HasPoint new v q
    go v q h (inl e) = record { task = h.task; at_ = e; point = h.point }
    go v q h (inr e) = record { task = given_task h.task; at_ = e; point = h.point }

pub keeps_itself : (tasks : List Task) → KeepsTasks tasks tasks
keeps_itself tasks = record { points = λ v q h. h; more = omega arith }

pub keeps_then : (old mid new : List Task) → KeepsTasks old mid → KeepsTasks mid new → KeepsTasks old new
keeps_then old mid new a b = record { points = λ v q h. b.points v q (a.points v q h); more = let x = a.more in let y = b.more in omega (arith, x, y) }

-- the core stands still for a state of the machine
pub goes_running : (code : CodeParts) (old now : Kept) → IsRunning code old → HavePassesGone code old now → IsRunning code now
goes_running code old now running gone =
    let p = gone running.main running.first running.state running.core in
    record { main = running.main; first = running.first; state = p.state; core = p.core }

-- no pass as yet
pub no_passes : (code : CodeParts) (k : Kept) → HavePassesGone code k k
no_passes code k main first s core = record { state = s; lists = []; leads = λ rest n h. h; core = core }

-- a list that is not empty
record IsMore (list : List GivenUp) : Type 0 where
  pub front : GivenUp
  pub more : List GivenUp
  pub is : list ≡ front ∷ more

more_of : (list : List GivenUp) (some : Bool) → some ≡ true → (some ≡ false ↔ list ≡ []) → IsMore list
more_of [] some e f = let g : some ≡ false = f.1 refl in absurd cc
more_of (x ∷ xs) some e f = record { front = x; more = xs; is = refl }

-- one more pass, which gives something up
pub one_more : (code : CodeParts) (old mid new : Kept) (some : Bool) → some ≡ true → HavePassesGone code old mid → HasMadePass code mid new some → HavePassesGone code old new
one_more code old mid new some e gone made main first s core =
    let p = gone main first s core in
    let q = made main first p.state p.core in
    let x = more_of q.list some e q.some_is in
    record {
      state = q.state;
      lists = p.lists ++ q.list ∷ [];
      leads = λ rest n h.
          subst (λ (lists : List (List GivenUp)). Passes (asks code) s lists n) (sym (append_assoc p.lists (q.list ∷ []) rest))
          (p.leads (q.list ∷ rest) n
          (subst (λ (list : List GivenUp). Passes (asks code) p.state (list ∷ rest) n) (sym x.is) (passes (subst (λ (list : List GivenUp). IsPass (asks code) p.state list q.state) x.is q.pass) h)));
      core = q.core;
    }

-- less is left to do behind it
pub pass_falls : (code : CodeParts) (old mid new : Kept) (some : Bool) → some ≡ true → IsRunning code old → HavePassesGone code old mid → HasMadePass code mid new some → core_left code new < core_left code mid
pass_falls code old mid new some e running gone made =
    let p = gone running.main running.first running.state running.core in
    let q = made running.main running.first p.state p.core in
    let x = more_of q.list some e q.some_is in
    core_passes_fall code running.main running.first mid new p.state q.state x.front x.more p.core q.core (subst (λ (list : List GivenUp). IsPass (asks code) p.state list q.state) x.is q.pass)

-- the last pass gives nothing up
pub last_pass : (code : CodeParts) (old mid new : Kept) (some : Bool) → some ≡ false → HavePassesGone code old mid → HasMadePass code mid new some → HasMadePasses code old new
last_pass code old mid new some e gone made main first s core =
    let p = gone main first s core in
    let q = made main first p.state p.core in
    let none : q.list ≡ [] = q.some_is.0 e in
    let pass = subst (λ (list : List GivenUp). IsPass (asks code) p.state list q.state) none q.pass in
    let idle = idle_pass p.core q.state pass in
    record {
      state = q.state;
      lists = p.lists;
      passes = subst (λ (lists : List (List GivenUp)). Passes (asks code) s lists q.state) (append-nil p.lists) (p.leads [] q.state (idles pass));
      core = q.core;
      rest = subst (λ (n : State CodeScript). IsAtRest (asks code) n) (sym idle.same_state) (record { no_let = idle.no_let; no_join = idle.no_join });
    }

-- behind a pass the core still stands for a state of the machine
pub passed_running : (code : CodeParts) (old new : Kept) (told : List Passed) → IsRunning code old → HasPassed code old new told → IsRunning code new
passed_running code old new told running passed =
    let p = passed running.main running.first running.state running.core in
    record { main = running.main; first = running.first; state = p.0; core = p.4 }

-- a pass leaves each body as it is
pub pass_of : (old new : Kept) (told : List Passed) → HaveGivenUp told old new → HaveGiven old.tree.tasks new.tree.tasks → IsPassOf told old new
pass_of old new told given tasks = record { given_up = given; tasks = tasks }

pub given_bodies : (old new : Kept) (told : List Passed) → HaveGivenUp told old new → KeepsBodies old new
given_bodies old new told given v held e = let g = given.held v held e in (g.0, g.1, g.2.body)

pub bodies_stay : (k : Kept) → KeepsBodies k k
bodies_stay k v held e = (held, e, refl)

pub bodies_then : (old mid new : Kept) → KeepsBodies old mid → KeepsBodies mid new → KeepsBodies old new
bodies_then old mid new a b v held e =
    let x = a v held e in
    let y = b v x.0 x.1 in
    (y.0, y.1, y.2 ∙ x.2)

pub others_then : (task : ℕ) (old mid new : Kept) → KeepsOthers task old mid → KeepsBodies mid new → KeepsOthers task old new
others_then task old mid new a b = record { body = λ v held n e. go v held (a.body v held n e) }
  where
    go : (v : ℕ) (held : Held) → (x : Held) × (slice_get mid.tasks v ≡ Some x) × (x.body ≡ held.body) → (after : Held) × (slice_get new.tasks v ≡ Some after) × (after.body ≡ held.body)
    go v held (x, e, f) = let y = b v x e in (y.0, y.1, y.2 ∙ f)

-- at rest no cell may be given up by a let
pub rest_quiet : (code : CodeParts) (old new : Kept) → IsRunning code old → HasMadePasses code old new → HasNoLet new
rest_quiet code old new running made v c may =
    let p = made running.main running.first running.state running.core in
    let l = let_told p.core v c may in
    p.rest.no_let l.0 c l.1 l.3

pub passes_running : (code : CodeParts) (old new : Kept) → IsRunning code old → HasMadePasses code old new → IsRunning code new
passes_running code old new running made =
    let p = made running.main running.first running.state running.core in
    record { main = running.main; first = running.first; state = p.state; core = p.core }
