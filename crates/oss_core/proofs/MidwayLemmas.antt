-- A wave that a core makes, one part after the other.
use Rattle.std.proofs.Common.{◌≡◌, ◌≢◌, ℕ, ◌<◌, ◌⊎◌, inl, inr, refl, sym, subst, ap, ◌∙◌, arith, List, [], ◌∷◌, ◌++◌, length, map, Bool, true, false, Some}
use Rattle.std.specs.Prelude.{slice_get, slice_index, slice_set}
use Rattle.std.proofs.lemmas.List.{ext_get_or, set-set}
use Rattle.std.proofs.lemmas.Option.{slice_get_within}
use Rattle.oss_model.specs.Order.{IsIn, here, there, written}
use Rattle.oss_model.specs.Agreement.{Agrees, Setting}
use Rattle.oss_model.specs.Bodies.{Program, Start}
use Rattle.oss_model.specs.Machine.{At, State, Task}
use Rattle.oss_model.specs.Moves.{CanStep, opening}
use Rattle.oss_model.specs.Sequence.{Running}
use Rattle.oss_model.specs.Sequence.Sequential.{opens}
use Rattle.oss_model.specs.declared.task_no.TaskNo.{TaskNo}
use Rattle.oss_model.proofs.AgreementTheorem.{every_state_agrees}
use Rattle.oss_model.proofs.OrderLemmas.{before_not}
use Rattle.oss_wave_laws.specs.Alone.{with_part}
use Rattle.oss_wave_laws.specs.AtOnce.{IsTaken, is_changed}
use Rattle.oss_wave_laws.specs.Parts.{IsPart}
use Rattle.oss_wave_laws.specs.Waves as waves
use Rattle.oss_wave_laws.specs.Waves.{AreInOrder, IsTurn, IsWave, TakeTurns, Takes, first_stage, no_turns, turn_first, wave_ticks}
use Rattle.oss_wave_laws.proofs.WaveLemmas.{Taken, taken}
use Rattle.oss_wave_laws.proofs.WaveTheorem.{part_other}
use Rattle.oss_code.specs.declared.code.CodeParts.{CodeParts}
use Rattle.oss_machine.specs.Frames.{CodeScript}
use Rattle.oss_machine.specs.Machines.{asks}
use Rattle.oss_body.specs.declared.body.Body.{Body}
use Rattle.oss_body.specs.Relation.{IsBody, has_wait, is_over}
use Rattle.oss_tree.specs.declared.task.Task.{Task as TreeTask}
use Rattle.oss_tree.specs.Tasks.{HasPoint, grown}
use Rattle.oss_tree.proofs.ListLemmas.{get_set_same}
use Rattle.oss_segment.specs.declared.segment.Segment.{Segment}
use Rattle.oss_segment.specs.Segments.{IsSegment}
use Rattle.oss_kept_tasks.specs.declared.held.Held.{Held}
use Rattle.oss_core.specs.declared.creating.Newborn.{Newborn}
use Rattle.oss_core.specs.declared.turns.Turn.{Turn}
use Rattle.oss_core.specs.Kept.{IsCore, Kept}
use Rattle.oss_core.specs.PointOrder.{AreInPointOrder}
use Rattle.oss_core.specs.Putting.{AreNewborns, HasBody, IsPut, IsWritten, MayAdd, OpensAll, held_of, with_newborn, with_newborns, with_tasks}
use Rattle.oss_core.specs.Turns.{ArePartsOf, AreTold, IsFilled, IsPartOf, IsTold, KeepsPoints, Midway, with_held}
use Rattle.oss_core.proofs.ActLemmas.{running}
use Rattle.oss_core.proofs.CoreLemmas.{held_at}
use Rattle.oss_core.proofs.ExactLemmas.{step_told}
use Rattle.oss_core.proofs.FillLemmas.{filled_more, filled_other, filled_size}
use Rattle.oss_core.proofs.KeepLemmas.{some_is}
use Rattle.oss_core.proofs.LeavingLemmas.{turn_leaves}
use Rattle.oss_core.proofs.PutFacts.{point_grown, point_new, point_noted}
use Rattle.oss_core.proofs.PutLemmas.{may_add, put_made}
use Rattle.oss_core.proofs.TreeFacts.{sizes}

-- an element of the second of two lists is one of both together
in_back : {A : Type 0} {x : A} (xs ys : List A) → IsIn x ys → IsIn x (xs ++ ys)
in_back [] ys h = h
in_back (y ∷ xs) ys h = there (in_back xs ys h)

in_either : {A : Type 0} {x : A} (xs ys : List A) → IsIn x (xs ++ ys) → IsIn x xs ⊎ IsIn x ys
in_either [] ys h = inr h
in_either (y ∷ xs) ys here = inl here
in_either {A = A} {x = x} (y ∷ xs) ys (there h) = go (in_either xs ys h)
  where
    go : IsIn x xs ⊎ IsIn x ys → IsIn x (y ∷ xs) ⊎ IsIn x ys
    go (inl i) = inl (there i)
    go (inr i) = inr i

in_one : {A : Type 0} {x y : A} → IsIn x (y ∷ []) → x ≡ y
in_one here = refl
in_one (there h) = elim h [ ]

-- the end of a list in point order is in point order
order_end : (tasks : List TreeTask) (xs ys : List TaskNo) → AreInPointOrder tasks (xs ++ ys) → AreInPointOrder tasks ys
order_end tasks [] ys h = h
order_end tasks (x ∷ xs) ys h = order_end tasks xs ys h.1

-- one more task has had its turn
turns_more : {S : Type 0} (P : Program S) {s n m : State S} (turns : List waves.Turn) (turn : waves.Turn) → TakeTurns P s turns n → Takes P turn.path n turn.acts m → TakeTurns P s (turns ++ turn ∷ []) m
turns_more P [] turn no_turns r = turn_first r no_turns
turns_more P (x ∷ turns) turn (turn_first a rest) r = turn_first a (turns_more P turns turn rest r)

told_more : (tasks : List TreeTask) (told : List Turn) (turns : List waves.Turn) (one : Turn) (turn : waves.Turn) → AreTold tasks told turns → IsTold tasks one turn → AreTold tasks (told ++ one ∷ []) (turns ++ turn ∷ [])
told_more tasks [] [] one turn h g = (g, tt)
told_more tasks [] (x ∷ turns) one turn h g = absurd h
told_more tasks (y ∷ told) [] one turn h g = absurd h
told_more tasks (y ∷ told) (x ∷ turns) one turn h g = (h.0, told_more tasks told turns one turn h.1 g)

map_more : (told : List Turn) (one : Turn) (rest : List TaskNo) → map (λ (t : Turn). t.task) (told ++ one ∷ []) ++ rest ≡ map (λ (t : Turn). t.task) told ++ one.task ∷ rest
map_more [] one rest = refl
map_more (x ∷ told) one rest = ap (λ (ts : List TaskNo). x.task ∷ ts) (map_more told one rest)

-- new tasks leave each point
newborns_keep : (v : ℕ) (xs : List Newborn) (tasks : List TreeTask) → KeepsPoints tasks (with_newborns v xs tasks)
newborns_keep v [] tasks w q h = h
newborns_keep v (x ∷ xs) tasks w q h = newborns_keep v xs (with_newborn v x tasks) w q (point_new (grown tasks v (has_wait x.held.body)) (length tasks) w q x.accesses (point_grown tasks v w q (has_wait x.held.body) h))

-- what is so of the next part
module _ (code : CodeParts) (main : Start CodeScript) (first : List ℕ) (s : State CodeScript) (before : Kept) (all : List TaskNo) (v : TaskNo) (vs : List TaskNo) (part : Segment) (parts : List Segment) (told : List Turn) (k : Kept)
    (h : Midway code main first s before all (v ∷ vs) (part ∷ parts) told k) (b : Body) (bs : List Body) (is_part : IsPartOf code before.cells b part) (rest_are : ArePartsOf code before.cells bs parts) (mid : List Held)
    (mid_is : IsFilled vs bs k.tasks mid) (back : HasBody v.0 b mid h.filled) where
  abbrev P : Program CodeScript
  P = asks code

  abbrev z : Running CodeScript
  z = record { state = opening main first; active = []; printed = [] }

  set_ : Setting main first
  set_ = h.begun.setting

  s_agrees : Agrees P main first z s
  s_agrees = every_state_agrees CodeScript P main first z s h.begun.setting opens h.begun.reached

  listed : IsIn v all
  listed = subst (λ (ts : List TaskNo). IsIn v ts) h.split (in_back (map (λ (t : Turn). t.task) told) (v ∷ vs) here)

  -- its task, which may act
  record Stepper : Type 0 where
    path : List ℕ
    task : Task CodeScript
    point : HasPoint before.tree.tasks v.0 (written path)
    can : CanStep P s path task

  stepper : Stepper
  stepper = let r = step_told h.begun v.0 (h.steppers.may v listed) in record { path = r.0; task = r.1; point = r.2; can = r.3 }

  abbrev p : List ℕ
  p = stepper.path

  abbrev t : Task CodeScript
  t = stepper.task

  can : CanStep P s p t
  can = stepper.can

  free : h.alone p ≡ s
  free = h.ahead v here p stepper.point

  point_now : HasPoint k.tree.tasks v.0 (written p)
  point_now = h.points v.0 (written p) stepper.point

  at_now : At h.state p t
  at_now = h.wave.same p t t can.at_ (subst (λ (x : State CodeScript). At x p t) (sym free) can.at_)

  -- what is kept of it, with its body in its place
  was_filled : slice_get h.filled v.0 ≡ Some back.after
  was_filled = ap (λ (ts : List Held). slice_get ts v.0) back.tasks ∙ get_set_same mid v.0 back.before back.after back.was

  is_body : IsBody code t.body.start t.body.found b
  is_body = subst (λ (x : Body). IsBody code t.body.start t.body.found x) back.body_is (held_at code main first (with_held h.filled k) h.state h.core v.0 p t point_now at_now back.after was_filled).body_is

  segment : IsSegment code t.body.start t.body.found s.cells 4096 b part
  segment = subst (λ (cs : List ℕ). IsSegment code t.body.start t.body.found cs 4096 b part) (sym h.begun.stands.cells_are) (is_part t.body.start t.body.found is_body)

  abbrev acts : ℕ
  acts = segment.acts

  is : IsPart P t.body.start (first_stage s t) wave_ticks acts
  unfolding wave_ticks
  is = segment.part

  running_b : is_over b ≡ false
  running_b = is_body.ended ∙ running code main first before s h.begun v.0 p t stepper.point can

  size : length h.filled ≡ length k.tasks
  size = filled_size (v ∷ vs) (b ∷ bs) k.tasks h.filled (mid, mid_is, back)

  -- the new tasks may be added
  pub part_may : (xs : List Newborn) → AreNewborns xs part.children.items → MayAdd v.0 (length k.tasks) xs k.tree.tasks k.seen
  part_may xs news =
      subst (λ (n : ℕ). MayAdd v.0 n xs k.tree.tasks k.seen) size
      (may_add code main first set_ s s_agrees h.alone h.state h.wave p t can free acts is v.0 part.body b part.children.items part.prints.items segment.way (with_held h.filled k) h.core back.after was_filled back.body_is point_now xs news)

  -- as many tasks are in the tree as are kept
  pub part_sizes : length k.tree.tasks ≡ length k.tasks
  part_sizes = sizes h.core ∙ size

  -- the task is there
  pub part_there : v.0 < length k.tasks
  part_there = let l = slice_get_within h.filled v.0 back.after was_filled in let e = size in omega (arith, l, e)

  -- all that stand behind it are other tasks, behind it in point order
  ordered : AreInPointOrder before.tree.tasks (v ∷ vs)
  ordered = order_end before.tree.tasks (map (λ (x : Turn). x.task) told) (v ∷ vs) (subst (λ (ts : List TaskNo). AreInPointOrder before.tree.tasks ts) (sym h.split) h.steppers.ordered)

  other_number : (u : TaskNo) → IsIn u vs → v.0 ≡ u.0 → ⊥
  other_number u i e = before_not (ordered.0 u i (written p) (written p) stepper.point (subst (λ (n : ℕ). HasPoint before.tree.tasks n (written p)) e stepper.point)) refl

  other_path : (u : TaskNo) → IsIn u vs → (q : List ℕ) → HasPoint before.tree.tasks u.0 (written q) → q ≢ p
  other_path u i q g e = before_not (ordered.0 u i (written p) (written q) stepper.point g) (ap written (sym e))

  module _ (new : Kept) (xs : List Newborn) (news : AreNewborns xs part.children.items) (put : IsPut v.0 xs part.body part.prints.items k new) (wrote : IsWritten part.writes.pieces k.cells new.cells) where
    -- the tasks, with the bodies that are still out in their places
    abbrev filled : List Held
    filled = with_tasks v.0 put.after xs h.filled

    out_before : slice_get mid v.0 ≡ slice_get k.tasks v.0
    out_before = filled_other vs bs k.tasks mid v.0 other_number mid_is

    filled_is : IsFilled vs bs new.tasks filled
    filled_is =
        subst (λ (ts : List Held). IsFilled vs bs ts filled) (sym put.tasks)
        (subst (λ (ts : List Held). IsFilled vs bs (with_tasks v.0 put.after xs k.tasks) (ts ++ held_of xs)) (sym (set-set mid v.0 back.after put.after) ∙ ap (λ (ts : List Held). slice_set ts v.0 put.after) (sym back.tasks))
        (filled_more vs bs k.tasks mid v.0 put.after (held_of xs) part_there other_number mid_is))

    -- with all bodies in their places the part is put in
    put_filled : IsPut v.0 xs part.body part.prints.items (with_held h.filled k) (with_held filled new)
    put_filled = record {
      before = back.after;
      was = was_filled;
      after = put.after;
      body_is = put.body_is;
      owed = put.owed ∙ ap (λ (x : Held). x.owed.pieces) (some_is (sym put.was ∙ sym out_before ∙ back.was)) ∙ sym back.owed;
      tasks = refl;
      tree = put.tree;
      prints_are = put.prints_are;
      seen = subst (λ (n : ℕ). OpensAll v.0 n xs k.seen new.seen) (sym size) put.seen;
    }

    -- memory is that behind the part
    cells_are : (m : State CodeScript) → IsTaken P s h.state p t acts m → m.cells ≡ new.cells
    cells_are m taken_ = ext_get_or 0 m.cells new.cells sizes_are (λ c l. cell c (within c l) (is_changed P t.body.start (first_stage s t) acts c) refl)
      where
        here_cells : h.state.cells ≡ k.cells
        here_cells = h.core.stands.cells_are

        sizes_are : length m.cells ≡ length new.cells
        sizes_are = taken_.size ∙ ap length here_cells ∙ sym wrote.size

        within : (c : ℕ) → c < length m.cells → c < length h.state.cells
        within c l = let e = taken_.size in omega (arith, l, e)

        in_memory : (c : ℕ) → c < length h.state.cells → c < length s.cells
        in_memory c l =
            let a = (every_state_agrees CodeScript P main first z h.state h.begun.setting opens h.core.reached).size in
            let e = s_agrees.size in
            omega (arith, l, a, e)

        cell : (c : ℕ) → c < length h.state.cells → (o : Bool) → is_changed P t.body.start (first_stage s t) acts c ≡ o → slice_index m.cells c ≡ slice_index new.cells c
        cell c l true e =
            taken_.changed c l e ∙ sym (wrote.cells c (subst (λ (n : ℕ). c < n) (ap length here_cells) l) ∙ rw (segment.writes c (in_memory c l), e) refl)
        cell c l false e =
            taken_.kept c l e ∙ ap (λ (cs : List ℕ). slice_index cs c) here_cells ∙ sym (wrote.cells c (subst (λ (n : ℕ). c < n) (ap length here_cells) l) ∙ rw (segment.writes c (in_memory c l), e) refl)

    made : (m : State CodeScript) × Takes P p h.state acts m × IsCore code main first (with_held filled new) m
    made =
        put_made code main first set_ s s_agrees h.alone h.state h.wave p t can free acts is v.0 part.body b part.children.items part.prints.items segment.way (with_held h.filled k) h.core back.after was_filled back.body_is point_now xs news running_b
        (with_held filled new) put_filled cells_are

    now : Taken P main first z set_ opens s s_agrees h.alone p t acts made.0
    now = taken P main first z set_ opens s s_agrees h.alone h.state h.wave p t can free acts is acts (omega arith) made.1

    abbrev turn : waves.Turn
    turn = record { path = p; acts = acts }

    -- the wave has gone on by the part
    pub part_put : (one : Turn) → one.task ≡ v → one.acts ≡ part.count → Midway code main first s before all vs parts (told ++ one ∷ []) new
    part_put one task_is acts_are = record {
      begun = h.begun;
      steppers = h.steppers;
      split = map_more told one vs ∙ ap (λ (u : TaskNo). map (λ (x : Turn). x.task) told ++ u ∷ vs) task_is ∙ h.split;
      bodies = bs;
      parts_are = rest_are;
      filled = filled;
      filled_is = filled_is;
      state = made.0;
      core = made.2;
      alone = with_part p now.a h.alone;
      wave = now.wave;
      ahead = λ u i q g. part_other p now.a h.alone q (other_path u i q g) ∙ h.ahead u (there i) q g;
      points = λ w q g. subst (λ (ts : List TreeTask). HasPoint ts w q) (sym put.tree) (point_noted (with_newborns v.0 xs k.tree.tasks) v.0 w q (is_over part.body) (newborns_keep v.0 xs k.tree.tasks w q (h.points w q g)));
      turns = h.turns ++ turn ∷ [];
      taken = turns_more P h.turns turn h.taken made.1;
      turns_are = λ x i. on_turn x (in_either h.turns (turn ∷ []) i);
      told_are = told_more before.tree.tasks told h.turns one turn h.told_are (record { point = subst (λ (u : TaskNo). HasPoint before.tree.tasks u.0 (written p)) (sym task_is) stepper.point; acts = acts_are ∙ segment.count });
      leaves = turn_leaves told one v.0 (ap (λ (u : TaskNo). u.0) task_is) xs part.body part.prints.items before (with_held h.filled k) (with_held filled new) h.leaves put_filled;
    }
      where
        on_turn : (x : waves.Turn) → IsIn x h.turns ⊎ IsIn x (turn ∷ []) → IsTurn P s x
        on_turn x (inl i) = h.turns_are x i
        on_turn x (inr i) = subst (λ (y : waves.Turn). IsTurn P s y) (sym (in_one i)) (record { task = t; can = can; part = is })
