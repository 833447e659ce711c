-- A core that has just begun stands for the opening state.
use Rattle.std.proofs.Common.{◌≡◌, ℕ, zero, suc, inl, refl, sym, subst, ap, ◌∙◌, arith, List, [], ◌∷◌, true, false, Some, None, ◌↔◌}
use Rattle.std.specs.Prelude.{slice_get}
use Rattle.oss_model.specs.Order.{IsIn, IsSuffix}
use Rattle.oss_model.specs.Bodies.{Body, Start, stack_from}
use Rattle.oss_model.specs.Machine.{Task, At, find}
use Rattle.oss_model.specs.Memory.{Event, Happened}
use Rattle.oss_model.specs.Moves as moves
use Rattle.oss_model.specs.Moves.{opens}
use Rattle.oss_model.specs.Agreement.{Setting}
use Rattle.oss_model.proofs.OrderLemmas.{suffix_length}
use Rattle.oss_model.proofs.StageLemmas.{start_goes_on}
use Rattle.oss_model.proofs.TreeLemmas.{at_same}
use Rattle.oss_ranges.specs.Cells.{value_at}
use Rattle.oss_code.specs.declared.code.CodeParts.{CodeParts}
use Rattle.oss_machine.specs.Frames.{CodeScript}
use Rattle.oss_machine.specs.Machines.{asks}
use Rattle.oss_body.specs.Mains.{code_main}
use Rattle.oss_body.specs.Relation.{IsBody}
use Rattle.oss_tree.specs.declared.task.Task.{Task as TreeTask}
use Rattle.oss_tree.specs.Tasks as tree
use Rattle.oss_tree.specs.Tasks.{main_task}
use Rattle.oss_tree.proofs.GrowLemmas.{main_tree}
use Rattle.oss_deps.specs.declared.opened.Open.{Open}
use Rattle.oss_deps.specs.Opens.{none}
use Rattle.oss_kept_tasks.specs.declared.held.Held.{Held}
use Rattle.oss_core.specs.Kept.{AreHeld, AreKnown, IsCore, IsHeld, IsKnown, Kept, own}
use Rattle.oss_core.specs.Moving.{AreSound}
use Rattle.oss_core.specs.Standing.{AreTasks, StandsFor}
use Rattle.oss_core.proofs.EntryLemmas.{in_none}
use Rattle.oss_core.proofs.KeepLemmas.{some_is}

-- what stands in a list of one
only_one : {A : Type 0} (x y : A) (v : ℕ) → slice_get (x ∷ []) v ≡ Some y → (v ≡ 0) × (x ≡ y)
only_one x y zero e = (refl, some_is e)
only_one x y (suc v) e = absurd cc

-- in the opening state main stands at its path
main_at : (main : Start CodeScript) (first : List ℕ) → main.path ≡ [] → At (moves.opening main first) [] (record { body = record { start = main; found = [] }; given = [] })
unfolding find
main_at main first e = rw e refl

-- and no other task
main_only : (main : Start CodeScript) (first p : List ℕ) (t : Task CodeScript) → main.path ≡ [] → At (moves.opening main first) p t → p ≡ []
unfolding find
main_only main first [] t e a = refl
main_only main first (j ∷ p) t e a = let b = rw e at a in absurd cc

module _ (code : CodeParts) (fuel : ℕ) where
  -- the body of main
  abbrev body : Body CodeScript
  body = record { start = code_main code fuel; found = [] }

  -- main has not ended
  not_ended : (stack_from (asks code) (code_main code fuel) []).ended ≡ false
  not_ended = start_goes_on (asks code) (code_main code fuel)

  -- nothing was opened
  first_tasks : AreTasks own (body ∷ []) []
  first_tasks = record {
    opens_are = record { ordered = none; covered = λ c o i n. absurd (in_none i); rooted = λ o i. absurd (in_none i); once = λ o i. absurd (in_none i) };
    main = record { one = body; is = refl; path = refl };
    linked = λ o i. absurd (in_none i);
    opened = λ v b h. inl (only_one body b v h).0;
    one_number = λ v w a b h k e. (only_one body a v h).0 ∙ sym (only_one body b w k).0;
    in_order = λ o q l k p e. elim p [ ];
  }

  -- nothing was done
  none_happened : (first : List ℕ) (e : Event CodeScript) → Happened (moves.opening (code_main code fuel) first) e → ⊥
  none_happened first e h =
      let root : e.start.path ≡ [] = main_only (code_main code fuel) first e.start.path h.task refl h.at_ in
      let same : h.task ≡ record { body = body; given = [] } = at_same (moves.opening (code_main code fuel) first) [] h.task (record { body = body; given = [] }) (subst (λ (p : List ℕ). At (moves.opening (code_main code fuel) first) p h.task) root h.at_) (main_at (code_main code fuel) first refl) in
      let l = suffix_length (subst (λ (t : Task CodeScript). IsSuffix (e.answer ∷ e.past) t.body.found) same h.found) in
      absurd (omega (arith, l))

  module _ (k : Kept) (held : Held) (given : (t c : ℕ) → k.seen.given t c ≡ false) where
    -- no task has given up a cell
    never : {A : Type 0} (t c : ℕ) → k.seen.given t c ≡ true → A
    never t c e = let f = sym (given t c) ∙ e in absurd cc

    -- the bodies are sound with no entry
    first_sound : AreSound (asks code) own (λ b. Unit {0}) (body ∷ []) [] k.seen.given
    first_sound = record { tasks = first_tasks; of_code = λ v b h. tt; below = λ o i l. absurd (in_none i); within = λ w c e. never w c e }

    -- main stands for the only task of the state
    first_stands : k.cells ≡ code.first → StandsFor own (body ∷ []) k.seen.given k.cells (moves.opening (code_main code fuel) code.first)
    first_stands cells = record {
      cells_are = sym cells;
      there = λ v b h. there v b (only_one body b v h).1;
      back = λ p t a. (0, record { one = body; is = refl; path = sym (main_only (code_main code fuel) code.first p t refl a) });
    }
      where
        there : (v : ℕ) (b : Body CodeScript) → body ≡ b → (t : Task CodeScript) × At (moves.opening (code_main code fuel) code.first) b.start.path t × (t.body ≡ b) × ((c : ℕ) → (IsIn c t.given ↔ k.seen.given v c ≡ true))
        there v b e = (
          record { body = body; given = [] },
          subst (λ (x : Body CodeScript). At (moves.opening (code_main code fuel) code.first) x.start.path (record { body = body; given = [] })) e (main_at (code_main code fuel) code.first refl),
          e,
          λ c. ((λ i. absurd (in_none i)), (λ f. never v c f)),
        )

    -- what is kept is kept of main
    first_held : IsBody code (code_main code fuel) [] held.body → ((c : ℕ) → value_at held.owed.pieces c ≡ None) → AreHeld code k.seen.given (body ∷ []) (held ∷ [])
    first_held is owes = record { size = refl; each = λ v b h e f. each v b h (only_one body b v e).1 (only_one held h v f).1 }
      where
        each : (v : ℕ) (b : Body CodeScript) (h : Held) → body ≡ b → held ≡ h → IsHeld code (k.seen.given v) b h
        each v b h e f = subst (λ (x : Body CodeScript). IsHeld code (k.seen.given v) x h) e (subst (λ (x : Held). IsHeld code (k.seen.given v) body x) f (record { body_is = is; owed_is = owes }))

    -- what the tree knows is known of main
    first_known : AreKnown (asks code) k.seen.given (body ∷ []) (main_task ∷ [])
    first_known = record { tree_is = main_tree; size = refl; each = λ v b one e f. each v b one (only_one body b v e).1 (only_one main_task one v f).1 }
      where
        known : (v : ℕ) → IsKnown (asks code) (k.seen.given v) body main_task
        known v = record { point = refl; ended = sym not_ended; gave_all = ((λ e c o. absurd o), (λ f. refl)) }

        each : (v : ℕ) (b : Body CodeScript) (one : TreeTask) → body ≡ b → main_task ≡ one → IsKnown (asks code) (k.seen.given v) b one
        each v b one e f = subst (λ (x : Body CodeScript). IsKnown (asks code) (k.seen.given v) x one) e (subst (λ (x : TreeTask). IsKnown (asks code) (k.seen.given v) body x) f (known v))

-- a core that has begun with main alone stands for the opening state
pub begins : (code : CodeParts) (fuel : ℕ) (k : Kept) → Setting (code_main code fuel) code.first → (held : Held) → k.tasks ≡ held ∷ [] → IsBody code (code_main code fuel) [] held.body → ((c : ℕ) → value_at held.owed.pieces c ≡ None)
    → k.tree ≡ tree.opening → k.seen.opens ≡ [] → ((t c : ℕ) → k.seen.given t c ≡ false) → k.cells ≡ code.first → IsCore code (code_main code fuel) code.first k (moves.opening (code_main code fuel) code.first)
begins code fuel k set_ held tasks is owes tree_is opens_is given cells = record {
  setting = set_;
  depth = refl;
  reached = opens;
  bodies = body code fuel ∷ [];
  sound = subst (λ (os : List Open). AreSound (asks code) own (λ b. Unit {0}) (body code fuel ∷ []) os k.seen.given) (sym opens_is) (first_sound code fuel k held given);
  stands = first_stands code fuel k held given cells;
  held = subst (λ (hs : List Held). AreHeld code k.seen.given (body code fuel ∷ []) hs) (sym tasks) (first_held code fuel k held given is owes);
  known = subst (λ (x : tree.Kept). AreKnown (asks code) k.seen.given (body code fuel ∷ []) x.tasks) (sym tree_is) (first_known code fuel k held given);
  done = [];
  are_prints = record { time = tt; only = λ e i. absurd (in_none i); all = λ e d. absurd (none_happened code fuel code.first e d.happened) };
  prints_are = ap (λ (x : tree.Kept). x.prints) tree_is;
}
