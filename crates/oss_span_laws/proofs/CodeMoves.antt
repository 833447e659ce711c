-- The bodies of a program and those of its code do the same acts, so a schedule does the same with both.
use Rattle.std.proofs.Common.{◌≡◌, ◌∙◌, ℕ, true, false, List, [], ◌∷◌, map, refl, sym, ap, subst}
use Rattle.oss_syntax.specs.declared.tree.program.Item.{Item}
use Rattle.oss_model.specs.Answers.{IsResult}
use Rattle.oss_model.specs.Answers.IsResult.{ends as result_ends, fails as result_fails}
use Rattle.oss_model.specs.Bodies.{Act, Frame, Program as Asks, Stack, Start, key_of, stack_from, stage_act, stage_key, top_frame}
use Rattle.oss_model.specs.Bodies.Act.{Awaited, Created, Ended, Fault, Folded, Load, Over, Printed, Releases, Store, Ticked, Waited, WaitedOn}
use Rattle.oss_model.specs.Moves.{opening}
use Rattle.oss_model.specs.declared.answer.Answer.{Answer}
use Rattle.oss_same_acts_laws.specs.Alike.{AreActsAlike, AreBodiesAlike, AreStartsAlike, IsAlike, IsBisimulation}
use Rattle.oss_same_acts_laws.specs.Alike.AreActsAlike.{both_await, both_create, both_end, both_fault, both_fold, both_include, both_load, both_over, both_print, both_release, both_store, both_tick, both_wait, both_wait_on}
use Rattle.oss_same_acts_laws.proofs.AlikeTheorem.{opening_alike}
use Rattle.oss_meaning.specs.Expressions.{TreeScript}
use Rattle.oss_meaning.specs.Meaning.{asks_of}
use Rattle.oss_meaning.specs.Results.{IsOutcome, Outcome, first_cells, main_of}
use Rattle.oss_meaning.specs.Results.IsOutcome.{ends, fails}
use Rattle.oss_code.specs.declared.code.CodeParts.{CodeParts}
use Rattle.oss_machine.specs.Frames.{CodeScript}
use Rattle.oss_machine.specs.Machines.{asks}
use Rattle.oss_body.specs.Mains.{code_main}
use Rattle.oss_lower_laws.specs.Programs.{IsCodeOf, moved_start}
use Rattle.oss_lower_laws.proofs.MovedBodies.{acts_alike, moved_act, moved_frame, stands_alike}
use Rattle.oss_lower_laws.proofs.MovedRuns.{child_is}
use Rattle.oss_lower_laws.proofs.OutcomeLaws.{start_is}

module _ (all : List Item) (code : CodeParts) (of : IsCodeOf all code) where
  abbrev P : Asks TreeScript
  P = asks_of all

  abbrev Q : Asks CodeScript
  Q = asks code

  -- a body of the code begins as this one of the program
  abbrev pub is_moved : Start TreeScript → Start CodeScript → Type 0
  is_moved b c = moved_start of.places b ≡ c

  key_is : (base : Frame TreeScript) (inner : List (Frame TreeScript)) → key_of (top_frame (moved_frame of.places base) (map (moved_frame of.places) inner)) ≡ key_of (top_frame base inner)
  key_is base [] = refl
  key_is base (f ∷ fs) = refl

  moved_alike : (f : Frame TreeScript) (a : Act TreeScript) → AreActsAlike is_moved f (moved_frame of.places f) a (moved_act of.places a)
  moved_alike f Ticked = both_tick
  moved_alike f (Load cell) = both_load
  moved_alike f (Store cell v) = both_store
  moved_alike f (Folded cell o v slot) = both_fold
  moved_alike f (Created o true) = both_include
  moved_alike f (Created o false) = both_create (sym (child_is of.places f o))
  moved_alike f Awaited = both_await
  moved_alike f Waited = both_wait
  moved_alike f (WaitedOn named) = both_wait_on
  moved_alike f (Releases clauses included) = both_release
  moved_alike f (Printed key text) = both_print
  moved_alike f Ended = both_end
  moved_alike f (Fault kind line key) = both_fault
  moved_alike f Over = both_over

  keys_alike : (b : Start TreeScript) (found : List ℕ) → stage_key P b found ≡ stage_key Q (moved_start of.places b) found
  unfolding stage_key
  keys_alike b found =
      sym (ap (λ (s : Stack CodeScript). key_of (top_frame s.base s.inner)) (stands_alike all code of b found) ∙ key_is (stack_from P b found).base (stack_from P b found).inner)

  bodies_alike : (b : Start TreeScript) (found : List ℕ) → AreBodiesAlike P Q is_moved (record { start = b; found = found }) (record { start = moved_start of.places b; found = found })
  bodies_alike b found =
      let stands = stands_alike all code of b found in
      record {
        ended = sym (ap (λ (s : Stack CodeScript). s.ended) stands);
        context = sym (ap (λ (s : Stack CodeScript). s.base.context) stands);
        key = keys_alike b found;
        acts =
            subst (λ (g : Frame CodeScript). AreActsAlike is_moved (stack_from P b found).base g (stage_act P b found) (stage_act Q (moved_start of.places b) found)) (sym (ap (λ (s : Stack CodeScript). s.base) stands))
            (subst (λ (a : Act CodeScript). AreActsAlike is_moved (stack_from P b found).base (moved_frame of.places (stack_from P b found).base) (stage_act P b found) a) (sym (acts_alike all code of b found))
            (moved_alike (stack_from P b found).base (stage_act P b found)));
      }

  starts_alike : (b : Start TreeScript) → AreStartsAlike P Q is_moved b (moved_start of.places b)
  starts_alike b = record { path = refl; context = refl; wait = refl; each = bodies_alike b }

  pub codes_do_the_same : IsBisimulation P Q is_moved
  codes_do_the_same b c r = subst (λ (d : Start CodeScript). AreStartsAlike P Q is_moved b d) r (starts_alike b)

  -- the code begins as the program does
  pub codes_open_alike : (fuel : ℕ) → IsAlike is_moved (opening (main_of all fuel) (first_cells all)) (opening (code_main code fuel) code.first)
  codes_open_alike fuel =
      subst (λ (cells : List ℕ). IsAlike is_moved (opening (main_of all fuel) (first_cells all)) (opening (code_main code fuel) cells)) (sym of.first)
      (opening_alike P Q is_moved codes_do_the_same (main_of all fuel) (code_main code fuel) (first_cells all) (start_is all code of fuel))

-- the result of a run is the answer of an outcome
pub outcome_of : {S : Type 0} (P : Asks S) (main : Start S) (cells : List ℕ) (a : Answer) → IsResult P main cells a → (o : Outcome) × IsOutcome P main cells o × (o.answer ≡ a)
outcome_of P main cells a (result_ends run end over) = (_, ends run end over, refl)
outcome_of P main cells a (result_fails run end fault) = (_, fails run end fault, refl)
