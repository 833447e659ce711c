-- Passes: what is told of them, one after the other.
use Rattle.std.proofs.Common.{◌≡◌, ℕ, ◌<◌, ◌≤◌, ◌↔◌, refl, sym, ap, ◌∙◌, subst, arith, List, [], ◌∷◌, ◌++◌, length, Bool, true, false, Some, append_assoc}
use Rattle.std.specs.Prelude.{◌==◌, not, slice_get}
use Rattle.std.proofs.lemmas.Bool.Decides.{nat_tests}
use Rattle.std.specs.List.{flat_map}
use Rattle.std.proofs.lemmas.List.{append-nil}
use Rattle.oss_model.specs.Machine.{State}
use Rattle.oss_wave_laws.specs.Passes.{GivenUp, IsPass, Passes, idles, passes}
use Rattle.oss_wave_laws.specs.Rounds.{Line, pass_lines, spans}
use Rattle.oss_code.specs.declared.code.CodeParts.{CodeParts}
use Rattle.oss_machine.specs.Frames.{CodeScript}
use Rattle.oss_machine.specs.Machines.{asks}
use Rattle.oss_tree.specs.declared.task.Task.{Task}
use Rattle.oss_core.specs.declared.passing.Passed.{Passed}
use Rattle.oss_core.specs.CoreLeft.{core_left}
use Rattle.oss_core.specs.Kept.{IsRunning, Kept}
use Rattle.oss_core.specs.Passing.{HasPassed, HaveGiven, TellsOf}
use Rattle.oss_core.specs.Leaving.{HaveGivenUp}
use Rattle.oss_core.proofs.ExactLemmas.{let_told}
use Rattle.oss_wakeups.specs.declared.watch.Watch.{Watch}
use Rattle.oss_wakeups.specs.Watches.{HasNoLet, IsBehindPass, IsWatch}
use Rattle.oss_core.proofs.FallLemmas.{core_passes_fall}
use Rattle.oss_core.proofs.PassLemmas.{idle_pass, none_told}
use Rattle.oss_sched.specs.declared.moves.TextMove.{TextMove}
use Rattle.oss_waves.specs.Noting.{IsGivenOf, Notes}
use Rattle.oss_waves.specs.Rounding.{HasMadePass, HasMadePasses, HavePassesGone, IsAtRest}
use Rattle.oss_waves.specs.WaveRuns.{lines_of}
use Rattle.oss_waves.proofs.NotingLemmas.{passed_noted, passed_there}

-- where nothing is told nothing was given up
none_given : (tasks : List Task) (told : List Passed) (list : List GivenUp) → TellsOf tasks told (spans list) → (told ≡ [] ↔ list ≡ [])
none_given tasks told list t = (λ e. none_told tasks list (subst (λ (xs : List Passed). TellsOf tasks xs (spans list)) e t), λ e. back told (subst (λ (xs : List GivenUp). TellsOf tasks told (spans xs)) e t))
  where
    back : (xs : List Passed) → TellsOf tasks xs [] → xs ≡ []
    back [] h = refl
    back (x ∷ xs) h = absurd h

-- a list is empty where its length is 0
pub none_in : (told : List Passed) (empty : Bool) → empty ≡ (length told == 0) → (not empty ≡ false ↔ told ≡ [])
none_in [] empty e = (λ h. refl, λ h. ap not e)
none_in (x ∷ told) empty e = (λ h. absurd (never (ap not e) h), λ h. absurd cc)
  where
    more : (length (x ∷ told) == 0) ≡ false
    more = grind (arith, nat_tests)

    never : not empty ≡ not (length (x ∷ told) == 0) → not empty ≡ false → ⊥
    never f h = let k : not (length (x ∷ told) == 0) ≡ true = ap not more in cc

-- a pass that is noted
pub pass_made : (code : CodeParts) (old new : Kept) (told : List Passed) (before after : List TextMove) (some : Bool) → HasPassed code old new told → HaveGiven old.tree.tasks new.tree.tasks → Notes (IsGivenOf new.tree.tasks) told before after
    → (some ≡ false ↔ told ≡ []) → HasMadePass code old new before after some
pass_made code old new told before after some passed given notes none main first s core =
    let p = passed main first s core in
    let e = none_given old.tree.tasks told p.1 p.3 in
    record {
      state = p.0;
      list = p.1;
      pass = p.2;
      core = p.4;
      lines = passed_noted old.tree.tasks new.tree.tasks given told (spans p.1) before after p.3 notes;
      some_is = (λ h. e.0 (none.0 h), λ h. none.1 (e.1 h));
    }

-- what is told of it names tasks of the tree
pub made_there : (code : CodeParts) (old new : Kept) (told : List Passed) → IsRunning code old → HasPassed code old new told → HaveGiven old.tree.tasks new.tree.tasks
    → (at : ℕ) (one : Passed) → slice_get told at ≡ Some one → (one.task.0 < length new.tree.tasks) × (one.range.lo ≤ one.range.hi)
made_there code old new told running passed given =
    let p = passed running.main running.first running.state running.core in
    passed_there old.tree.tasks new.tree.tasks given told (spans p.1) p.3

-- the core stands still for a state of the machine
pub goes_running : (code : CodeParts) (old now : Kept) (before after : List TextMove) → IsRunning code old → HavePassesGone code old now before after → IsRunning code now
goes_running code old now before after running gone =
    let p = gone running.main running.first running.state running.core in
    record { main = running.main; first = running.first; state = p.state; core = p.core }

-- no pass as yet
pub no_passes : (code : CodeParts) (k : Kept) (lines : List TextMove) → HavePassesGone code k k lines lines
no_passes code k lines main first s core = record { state = s; lists = []; leads = λ rest n h. h; core = core; lines = sym (append-nil (lines_of lines)) }

lists_both : (xs ys : List (List GivenUp)) → flat_map pass_lines (xs ++ ys) ≡ flat_map pass_lines xs ++ flat_map pass_lines ys
lists_both [] ys = refl
lists_both (x ∷ xs) ys = ap (λ (zs : List Line). pass_lines x ++ zs) (lists_both xs ys) ∙ sym (append_assoc (pass_lines x) (flat_map pass_lines xs) (flat_map pass_lines ys))

one_list : (x : List GivenUp) → flat_map pass_lines (x ∷ []) ≡ pass_lines x
one_list x = append-nil (pass_lines x)

-- a list that is not empty
record IsMore (list : List GivenUp) : Type 0 where
  pub front : GivenUp
  pub more : List GivenUp
  pub is : list ≡ front ∷ more

more_of : (list : List GivenUp) (some : Bool) → some ≡ true → (some ≡ false ↔ list ≡ []) → IsMore list
more_of [] some e f = let g : some ≡ false = f.1 refl in absurd cc
more_of (x ∷ xs) some e f = record { front = x; more = xs; is = refl }

-- one more pass, which gives something up
pub one_more : (code : CodeParts) (old mid new : Kept) (before between after : List TextMove) (some : Bool) → some ≡ true → HavePassesGone code old mid before between → HasMadePass code mid new between after some → HavePassesGone code old new before after
one_more code old mid new before between after some e gone made main first s core =
    let p = gone main first s core in
    let q = made main first p.state p.core in
    let x = more_of q.list some e q.some_is in
    record {
      state = q.state;
      lists = p.lists ++ q.list ∷ [];
      leads = λ rest n h.
          subst (λ (lists : List (List GivenUp)). Passes (asks code) s lists n) (sym (append_assoc p.lists (q.list ∷ []) rest))
          (p.leads (q.list ∷ rest) n
          (subst (λ (list : List GivenUp). Passes (asks code) p.state (list ∷ rest) n) (sym x.is) (passes (subst (λ (list : List GivenUp). IsPass (asks code) p.state list q.state) x.is q.pass) h)));
      core = q.core;
      lines = q.lines
          ∙ (ap (λ (xs : List Line). xs ++ pass_lines q.list) p.lines
          ∙ (append_assoc (lines_of before) (flat_map pass_lines p.lists) (pass_lines q.list)
          ∙ ap (λ (xs : List Line). lines_of before ++ xs) (ap (λ (xs : List Line). flat_map pass_lines p.lists ++ xs) (sym (one_list q.list)) ∙ sym (lists_both p.lists (q.list ∷ [])))));
    }

-- less is left to do behind it
pub pass_falls : (code : CodeParts) (old mid new : Kept) (before between after : List TextMove) (some : Bool) → some ≡ true → IsRunning code old → HavePassesGone code old mid before between → HasMadePass code mid new between after some → core_left code new < core_left code mid
pass_falls code old mid new before between after some e running gone made =
    let p = gone running.main running.first running.state running.core in
    let q = made running.main running.first p.state p.core in
    let x = more_of q.list some e q.some_is in
    core_passes_fall code running.main running.first mid new p.state q.state x.front x.more p.core q.core (subst (λ (list : List GivenUp). IsPass (asks code) p.state list q.state) x.is q.pass)

-- the last pass gives nothing up
pub last_pass : (code : CodeParts) (old mid new : Kept) (before between after : List TextMove) (some : Bool) → some ≡ false → HavePassesGone code old mid before between → HasMadePass code mid new between after some → HasMadePasses code old new before after
last_pass code old mid new before between after some e gone made main first s core =
    let p = gone main first s core in
    let q = made main first p.state p.core in
    let none : q.list ≡ [] = q.some_is.0 e in
    let pass = subst (λ (list : List GivenUp). IsPass (asks code) p.state list q.state) none q.pass in
    let idle = idle_pass p.core q.state pass in
    record {
      state = q.state;
      lists = p.lists;
      passes = subst (λ (lists : List (List GivenUp)). Passes (asks code) s lists q.state) (append-nil p.lists) (p.leads [] q.state (idles pass));
      core = q.core;
      lines = q.lines ∙ (ap (λ (list : List GivenUp). lines_of between ++ pass_lines list) none ∙ (append-nil (lines_of between) ∙ p.lines));
      rest = subst (λ (n : State CodeScript). IsAtRest (asks code) n) (sym idle.same_state) (record { no_let = idle.no_let; no_join = idle.no_join });
    }

-- behind a pass the core still stands for a state of the machine
pub passed_running : (code : CodeParts) (old new : Kept) (told : List Passed) → IsRunning code old → HasPassed code old new told → IsRunning code new
passed_running code old new told running passed =
    let p = passed running.main running.first running.state running.core in
    record { main = running.main; first = running.first; state = p.0; core = p.4 }

-- and it was right before who is awake
pub behind_pass : (code : CodeParts) (old new : Kept) (told : List Passed) (w : Watch) → IsRunning code old → IsWatch old w → HaveGivenUp told old new → HaveGiven old.tree.tasks new.tree.tasks → IsBehindPass told new w
behind_pass code old new told w running watch given tasks = record { code = code; before = old; ran = running; watch = watch; pass = record { given_up = given; tasks = tasks } }

-- at rest no cell may be given up by a let
pub rest_quiet : (code : CodeParts) (old new : Kept) (before after : List TextMove) → IsRunning code old → HasMadePasses code old new before after → HasNoLet new
rest_quiet code old new before after running made v c may =
    let p = made running.main running.first running.state running.core in
    let l = let_told p.core v c may in
    p.rest.no_let l.0 c l.1 l.3

pub passes_running : (code : CodeParts) (old new : Kept) (before after : List TextMove) → IsRunning code old → HasMadePasses code old new before after → IsRunning code new
passes_running code old new before after running made =
    let p = made running.main running.first running.state running.core in
    record { main = running.main; first = running.first; state = p.state; core = p.core }
