-- An act that creates no task: behind it the core stands for the state after the act.
use Rattle.std.proofs.Common.{◌≡◌, ◌≢◌, ℕ, refl, sym, subst, ap, ◌∙◌, List, [], ◌∷◌, ◌++◌, ◌⊎◌, inl, inr, Bool, true, false, length-set, map}
use Rattle.std.specs.Prelude.{slice_set}
use Rattle.oss_model.specs.Order.{written}
use Rattle.oss_model.specs.Context.{right_of}
use Rattle.oss_model.specs.Bodies.{Order, Start, Act, Body, stage_act}
use Rattle.oss_model.specs.Bodies.Act.{Created, Printed}
use Rattle.oss_model.specs.Machine.{Task, State}
use Rattle.oss_model.specs.Memory.{Event, key_at}
use Rattle.oss_model.specs.Moves.{act_now, is_ended, cells_after, CanStep, Stepped, moves, steps}
use Rattle.oss_model.specs.Answers.{text_of}
use Rattle.oss_model.proofs.OutputLemmas.{print_key}
use Rattle.oss_ranges.specs.Cells.{value_at}
use Rattle.oss_code.specs.declared.code.CodeParts.{CodeParts}
use Rattle.oss_machine.specs.Frames.{CodeScript}
use Rattle.oss_machine.specs.Machines.{asks}
use Rattle.oss_body.specs.declared.act.Act.{Act as KeptAct}
use Rattle.oss_body.specs.declared.act.Act.TheVariants as acts
use Rattle.oss_body.specs.Acts.{act_seen}
use Rattle.oss_body.specs.Places.{unwritten}
use Rattle.oss_body.specs.Relation.{is_over}
use Rattle.oss_tree.specs.declared.output.Print.{Print}
use Rattle.oss_tree.specs.declared.task.Task.{Task as TreeTask}
use Rattle.oss_tree.specs.Runs.{print_of}
use Rattle.oss_tree.specs.Tasks.{HasPoint, changed_to, ended_task}
use Rattle.oss_tree.proofs.ListLemmas.{get_set_other, get_set_same}
use Rattle.oss_tree.proofs.ChangeLemmas.{tree_after}
use Rattle.oss_deps.specs.declared.opened.Open.{Open}
use Rattle.oss_core.specs.Kept.{IsCore, IsHeld, IsKnown, AreHeld, AreKnown, Kept, own, owed_of}
use Rattle.oss_core.specs.Changes.{Steps, found_in, noted, prints_after}
use Rattle.oss_core.specs.Moving.{AreSound}
use Rattle.oss_core.specs.Printing.{ArePrints}
use Rattle.oss_core.specs.Standing.{StandsFor}
use Rattle.oss_core.proofs.CoreLemmas.{held_same, known_same, sides_change, made, held_at, known_at, own_task}
use Rattle.oss_core.proofs.ActLemmas.{created_is, running, found, next, bodies, bodies_changed, advanced, act_is, body_goes}
use Rattle.oss_core.proofs.KeepLemmas.{step_keeps}
use Rattle.oss_core.proofs.MadeLemmas.{core_step, given_same}
use Rattle.oss_core.proofs.PrintLemmas.{prints_more, prints_same}

-- an act is a print, or prints nothing
pub print_or : (act : KeptAct) (prints : List Print) → ((key : List ℕ) × (text : List ℕ) × (act ≡ acts.Print key text)) ⊎ (((key text : List ℕ) → act_seen act ≢ Printed key text) × (prints_after act prints ≡ prints))
print_or (acts.Print key text) prints = inl (key, text, refl)
print_or _ prints = inr ((λ k u e. cc), refl)

-- the images of a list and one more
map_more : {A B : Type 0} (f : A → B) (xs : List A) (x : A) → map f (xs ++ x ∷ []) ≡ map f xs ++ f x ∷ []
map_more f [] x = refl
map_more f (y ∷ xs) x = ap (λ (ys : List _). f y ∷ ys) (map_more f xs x)

module _ (code : CodeParts) (main : Start CodeScript) (first : List ℕ) (old new : Kept) (s : State CodeScript) (core : IsCore code main first old s) (v : ℕ) (p : List ℕ) (t : Task CodeScript) (point : HasPoint old.tree.tasks v (written p))
    (can : CanStep (asks code) s p t) where
  -- the body behind the act
  abbrev now : Body CodeScript
  now = next code main first old s core v p t point can

  -- all bodies behind the act
  abbrev list : List (Body CodeScript)
  list = bodies code main first old s core v p t point can

  -- what the tree knows of the tasks, where the end of this one is noted
  pub known_after : (given : ℕ → ℕ → Bool) → ((w c : ℕ) → given w c ≡ old.seen.given w c) → (over : Bool) → is_ended (asks code) now ≡ over → AreKnown (asks code) given list (noted v over old.tree.tasks)
  known_after given same true e =
      subst (λ (tasks : List TreeTask). AreKnown (asks code) given list tasks) (sym (ap (λ o. changed_to old.tree.tasks v ended_task o) point.at_)) (record {
        tree_is = tree_after old.tree.tasks v point.task (ended_task point.task) point.at_ (record { point = refl; parent = refl; children = refl }) core.known.tree_is;
        size = length-set old.tree.tasks v (ended_task point.task) ∙ core.known.size ∙ sym (length-set core.bodies v now);
        each = sides_change (λ w x y. IsKnown (asks code) (old.seen.given w) x y) (λ w x y. IsKnown (asks code) (given w) x y) core.bodies list old.tree.tasks (slice_set old.tree.tasks v (ended_task point.task)) v now (ended_task point.task)
            (bodies_changed code main first old s core v p t point can)
            (record { now = get_set_same old.tree.tasks v point.task (ended_task point.task) point.at_; others = λ w n. get_set_other old.tree.tasks v w (ended_task point.task) n })
            core.known.each (λ w x y n h. known_same code (old.seen.given w) (given w) x y (same w) h)
            (let k = known_same code (old.seen.given v) (given v) t.body point.task (same v) (known_at code main first old s core v p t point can.at_) in record { point = k.point; ended = sym e; gave_all = k.gave_all });
      })
  known_after given same false e =
      record {
        tree_is = core.known.tree_is;
        size = core.known.size ∙ sym (length-set core.bodies v now);
        each = sides_change (λ w x y. IsKnown (asks code) (old.seen.given w) x y) (λ w x y. IsKnown (asks code) (given w) x y) core.bodies list old.tree.tasks old.tree.tasks v now point.task
            (bodies_changed code main first old s core v p t point can)
            (record { now = point.at_; others = λ w n. refl })
            core.known.each (λ w x y n h. known_same code (old.seen.given w) (given w) x y (same w) h)
            (let k = known_same code (old.seen.given v) (given v) t.body point.task (same v) (known_at code main first old s core v p t point can.at_) in record { point = k.point; ended = k.ended ∙ running code main first old s core v p t point can ∙ sym e; gave_all = k.gave_all });
      }

  module _ (act : KeptAct) (st : Steps code v act old new) where
    -- the act of the body is that of the core
    kept_act : act_seen act ≡ act_now (asks code) t.body
    kept_act = act_is code main first old s core v p t point can act st.before st.after st.changed_is.was (found_in act old.cells) st.goes

    -- the act creates no task
    alone : (o : Order CodeScript) → act_now (asks code) t.body ≢ Created o false
    alone o e = let c = created_is act o (kept_act ∙ e) in let n = st.none in cc

    -- what is kept of the tasks
    held_after : AreHeld code new.seen.given list new.tasks
    held_after =
        let h = held_at code main first old s core v p t point can.at_ st.before st.changed_is.was in
        record {
          size = st.changed_is.size ∙ core.held.size ∙ sym (length-set core.bodies v now);
          each = sides_change (λ w x y. IsHeld code (old.seen.given w) x y) (λ w x y. IsHeld code (new.seen.given w) x y) core.bodies list old.tasks new.tasks v now st.after
              (bodies_changed code main first old s core v p t point can)
              (record { now = st.changed_is.is; others = st.changed_is.others })
              core.held.each (λ w x y n k. held_same code (old.seen.given w) (new.seen.given w) x y (st.seen.given w) k)
              (record {
                body_is = body_goes code main first old s core v p t point can act st.before st.after st.changed_is.was (found_in act old.cells) st.goes refl;
                owed_is = λ c. ap (λ ps. value_at ps c) st.goes.owed ∙ h.owed_is c ∙ ap (λ (g : Bool). owed_of t.body.start.path g (right_of t.body.start.context c)) (sym (st.seen.given v c));
              });
        }

    -- what is known of the tasks
    known_new : AreKnown (asks code) new.seen.given list new.tree.tasks
    known_new =
        let h = body_goes code main first old s core v p t point can act st.before st.after st.changed_is.was (found_in act old.cells) st.goes refl in
        subst (λ (tasks : List TreeTask). AreKnown (asks code) new.seen.given list tasks) (sym st.tasks) (known_after new.seen.given st.seen.given (is_over st.after.body) (sym h.ended))

    -- the prints behind the act
    record PrintsAfter (n : State CodeScript) : Type 0 where
      done : List (Event CodeScript)
      are : ArePrints (asks code) n done
      is : new.tree.prints ≡ map (print_of (asks code)) done

    -- they are those of the state
    prints_now : (n : State CodeScript) → Stepped (asks code) s p t n → PrintsAfter n
    prints_now n step = go (print_or act old.tree.prints)
      where
        event : Event CodeScript
        event = record { start = t.body.start; past = t.body.found; answer = found code main first old s core v p t point can }

        go : ((key : List ℕ) × (text : List ℕ) × (act ≡ acts.Print key text)) ⊎ (((key text : List ℕ) → act_seen act ≢ Printed key text) × (prints_after act old.tree.prints ≡ old.tree.prints)) → PrintsAfter n
        go (inl (key, text, e)) =
            let a : act_now (asks code) t.body ≡ Printed (unwritten key) text = sym kept_act ∙ ap act_seen e in
            let at_is : key ≡ written (key_at (asks code) event) = sym (st.key_is key text e) ∙ ap written (print_key (asks code) t.body.start t.body.found (unwritten key) text a) in
            let text_is : text ≡ text_of (stage_act (asks code) t.body.start t.body.found) = sym (ap text_of a) in
            let print_is : record { at = key; text = text } ≡ print_of (asks code) event = λ i. record { at = at_is i; text = text_is i } in
            record {
              done = core.done ++ event ∷ [];
              are = prints_more (asks code) main s (made code main first old s core) core.done core.are_prints n p t can step (unwritten key) text a;
              is = st.prints ∙ ap (λ (x : KeptAct). prints_after x old.tree.prints) e ∙ ap (λ (ps : List Print). ps ++ record { at = key; text = text } ∷ []) core.prints_are
                  ∙ ap (λ (x : Print). map (print_of (asks code)) core.done ++ x ∷ []) print_is ∙ sym (map_more (print_of (asks code)) core.done event);
            }
        go (inr (none, same)) = record {
          done = core.done;
          are = prints_same (asks code) main s (made code main first old s core) core.done core.are_prints n p t can step (λ k u e. none k u (kept_act ∙ e));
          is = st.prints ∙ same ∙ core.prints_are;
        }

    -- the core stands for the state behind the act
    pub state_now : (n : State CodeScript) × Stepped (asks code) s p t n × IsCore code main first new n
    state_now =
        let k = step_keeps (asks code) own core.bodies list old.seen.opens old.seen.given old.cells s core.sound.tasks core.stands v p t (own_task code main first old s core v p t point can.at_) now can.goes alone
        (bodies_changed code main first old s core v p t point can) refl in
        let n : State CodeScript = k.0 in
        let prints = prints_now n k.1.stepped in (
          n,
          k.1.stepped,
          record {
            setting = core.setting;
            depth = core.depth;
            reached = moves core.reached (steps can k.1.stepped);
            bodies = list;
            sound = subst (λ (os : List Open). AreSound (asks code) own (λ b. Unit {0}) list os new.seen.given) (sym st.seen.opens)
                (core_step (asks code) own (λ b. Unit {0}) core.bodies list old.seen.opens old.seen.given new.seen.given v (found code main first old s core v p t point can) core.sound (advanced code main first old s core v p t point can) st.seen.given);
            stands = given_same own list old.seen.given new.seen.given new.cells n st.seen.given (subst (λ (cs : List ℕ). StandsFor own list old.seen.given cs n) cells_is k.1.stand_for);
            held = held_after;
            known = known_new;
            done = prints.done;
            are_prints = prints.are;
            prints_are = prints.is;
          },
        )
      where
        cells_is : cells_after (act_now (asks code) t.body) old.cells ≡ new.cells
        cells_is = ap (λ (a : Act CodeScript). cells_after a old.cells) (sym kept_act) ∙ sym st.cells

-- an act that creates no task
pub steps_made : (code : CodeParts) (main : Start CodeScript) (first : List ℕ) (old new : Kept) (s : State CodeScript) → IsCore code main first old s → (v : ℕ) (p : List ℕ) (t : Task CodeScript)
    → HasPoint old.tree.tasks v (written p) → CanStep (asks code) s p t → (act : KeptAct) → Steps code v act old new → (n : State CodeScript) × Stepped (asks code) s p t n × IsCore code main first new n
steps_made code main first old new s core v p t point can act st = state_now code main first old new s core v p t point can act st
