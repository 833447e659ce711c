-- A body that rushes.
use Rattle.std.proofs.Common.{◌≡◌, ℕ, ◌+◌, ◌<◌, refl, sym, ap, ◌∙◌, subst, List, [], ◌∷◌, length, arith, Bool, true, false, Option, Some, None}
use Rattle.std.specs.Prelude.{Vec, not}
use Rattle.std.specs.declared.alloc.Global.{Global}
use Rattle.oss_syntax.specs.declared.fault.FaultKind.{FaultKind}
use Rattle.oss_syntax.specs.declared.access.Op.{Op}
use Rattle.oss_model.specs.Bodies.{Act as MeantAct, Ask, Frame as Meant, Program, Stack, Start, act_of, act_of_ask, frame_act, frame_after, judged_act, settled_frame, settled_stack, stack_act, stack_after, stack_from, stage_act, top_frame, word_of}
use Rattle.oss_model.specs.Bodies.Act.{Awaited, Created, Ended, Fault, Folded, Load, Over, Printed, Releases, Store, Ticked, Waited, WaitedOn}
use Rattle.oss_model.specs.Bodies.Ask.{Await, Begin, Create, End, Fails, Fold, Print, Read, Release, Tick, Wait, WaitOn, Write}
use Rattle.oss_model.specs.Context.{Context, lent_of, mark_of, right_of, tick_fault, wrote}
use Rattle.oss_model.specs.Moves.{found_by, slot_more, slot_of}
use Rattle.oss_model.specs.Rights.{Reads, Right, Writes, touch_fault}
use Rattle.oss_model.specs.Sequence.{direct_cells}
use Rattle.oss_code.specs.declared.code.CodeParts.{CodeParts}
use Rattle.oss_machine.specs.Frames.{CodeScript}
use Rattle.oss_machine.specs.Hastes.{is_quick_ask}
use Rattle.oss_machine.specs.Machines.{Standing, asks, machine_after, machine_at}
use Rattle.oss_machine.specs.Rushes.{Rushes}
use Rattle.oss_machine.specs.Rushes.Rushes.{stays, goes}
use Rattle.oss_slots.specs.Slots.{slot_at}
use Rattle.oss_body.specs.declared.body.Body.{Body}
use Rattle.oss_body.specs.declared.own.Own.{Own}
use Rattle.oss_body.specs.declared.tasks.Tasks.{Tasks}
use Rattle.oss_body.specs.Acts.{HasContext, act_seen}
use Rattle.oss_body.specs.Kept.{kept}
use Rattle.oss_body.specs.Places.{Framed, IsKey, Placed, key_at, place_of}
use Rattle.oss_body.specs.Relation.{IsBody, is_some}
use Rattle.oss_body.specs.Rushed.{HasRushed, IsTouch, Passes}
use Rattle.oss_body.specs.Rushed.Passes.{begins, passes}
use Rattle.oss_body.specs.Stacks.{kept_stack, own_place, rest_of, stays_on}
use Rattle.oss_body.specs.Touches.{IsMade, MayTouch, touched_cells, touched_place}
use Rattle.oss_body.proofs.FollowLemmas.{is_alone, stack_on, with_top}
use Rattle.oss_body.proofs.FrameLemmas.{at_once_kept}
use Rattle.oss_body.proofs.StackLemmas.{own_place_is, tasks_of}

-- The key of a task stays

place_key : (ask : Ask CodeScript) (p : Placed) → key_at (touched_place ask p) ≡ key_at p
place_key Tick p = refl
place_key Begin p = refl
place_key (Read c) p = refl
place_key (Write c v) p = refl
place_key (Fold c op v) p = refl
place_key (Create o) p = refl
place_key Await p = refl
place_key Wait p = refl
place_key (WaitOn named) p = refl
place_key (Release clauses) p = refl
place_key (Print text) p = refl
place_key End p = refl
place_key (Fails kind) p = refl

pub rushed_key : {code : CodeParts} {m : Standing} {p : Placed} {u : Vec ℕ Global} {c : ℕ} {n : Standing} {q : Placed} {w : Vec ℕ Global} → Rushes IsMade code m p u c n q w → key_at q ≡ key_at p
rushed_key stays = refl
rushed_key (goes {t = mid} {k = at_} r h) = ap key_at h.done.place ∙ place_key mid.asked.ask at_ ∙ rushed_key r

-- a key that is kept
pub some_key : (key : Option (List ℕ)) (p : Placed) → IsKey key p → (key ≡ None → ⊥) → key ≡ Some (key_at p)
some_key None p is some = absurd (some refl)
some_key (Some k) p is some = ap Some (is k refl)

-- What a touch that may happen tells of the act that stands next

record IsTold (code : CodeParts) (slots : ℕ → Right) (included : Bool) (f : Meant CodeScript) (before : List ℕ) (ask : Ask CodeScript) (line v : ℕ) (q : Placed) (after : List ℕ) : Type 0 where
  act : MeantAct CodeScript
  is : act_of_ask slots included f ask line ≡ act
  touch : IsTouch act
  answer : v ≡ found_by act before
  memory : after ≡ direct_cells act before
  place : q ≡ place_of (frame_after act v f)
  machine : machine_after code v (machine_at code f.script f.answers) ≡ machine_at code (frame_after act v f).script (frame_after act v f).answers
  awaits : (frame_after act v f).awaits ≡ f.awaits
  stays_there : (alone : Bool) → stays_on act alone ≡ true

module _ (code : CodeParts) (slots : ℕ → Right) (included : Bool) (f : Meant CodeScript) (before : List ℕ) (line v : ℕ) (p q : Placed) (after : List ℕ) (e : p ≡ place_of f) where
  told : (ask : Ask CodeScript) → MayTouch p before ask v → q ≡ touched_place ask p → after ≡ touched_cells ask before → IsTold code slots included f before ask line v q after
  told Tick may h k = record {
    act = Ticked;
    is = ap (λ (o : Option FaultKind). judged_act f line o Ticked) (ap (λ (y : Placed). tick_fault y.context) (sym e) ∙ may.0);
    touch = tt;
    answer = may.1;
    memory = k;
    place = h ∙ ap (touched_place Tick) e;
    machine = refl;
    awaits = refl;
    stays_there = λ alone. refl;
  }
  told (Read c) may h k = record {
    act = Load c;
    is = ap (λ (o : Option FaultKind). judged_act f line o (Load c)) (ap (λ (y : Placed). touch_fault (right_of y.context c) (lent_of y.context c) (mark_of y.context c) Reads) (sym e) ∙ may.0);
    touch = tt;
    answer = may.1;
    memory = k;
    place = h ∙ e;
    machine = refl;
    awaits = refl;
    stays_there = λ alone. refl;
  }
  told (Write c x) may h k = record {
    act = Store c (word_of x);
    is = ap (λ (o : Option FaultKind). judged_act f line o (Store c (word_of x))) (ap (λ (y : Placed). touch_fault (right_of y.context c) (lent_of y.context c) (mark_of y.context c) Writes) (sym e) ∙ may.0);
    touch = tt;
    answer = may.2;
    memory = k;
    place = h ∙ (λ i. record { context = sym may.1 i; path = p.path }) ∙ ap (λ (y : Placed). record { context = wrote c y.context; path = y.path }) e;
    machine = refl;
    awaits = refl;
    stays_there = λ alone. refl;
  }
  told Begin may h k = absurd may
  told (Fold c op x) may h k = absurd may
  told (Create o) may h k = absurd may
  told Await may h k = absurd may
  told Wait may h k = absurd may
  told (WaitOn named) may h k = absurd may
  told (Release clauses) may h k = absurd may
  told (Print text) may h k = absurd may
  told End may h k = absurd may
  told (Fails kind) may h k = absurd may

-- a touch leaves what is in the slots
touch_slot : (a : MeantAct CodeScript) (c : ℕ) (op : Op) (held : ℕ) → IsTouch a → slot_more a c op held ≡ held
touch_slot Ticked c op held t = refl
touch_slot (Load d) c op held t = refl
touch_slot (Store d x) c op held t = refl
touch_slot (Folded d o x slot) c op held t = absurd t
touch_slot (Created o included) c op held t = absurd t
touch_slot Awaited c op held t = absurd t
touch_slot Waited c op held t = absurd t
touch_slot (WaitedOn named) c op held t = absurd t
touch_slot (Releases clauses included) c op held t = absurd t
touch_slot (Printed key text) c op held t = absurd t
touch_slot Ended c op held t = absurd t
touch_slot (Fault kind line key) c op held t = absurd t
touch_slot Over c op held t = absurd t

-- One touch more

module _ (code : CodeParts) (start : Start CodeScript) (below : List Framed) where
  abbrev P : Program CodeScript
  P = asks code

  -- the body after these answers is kept with a task that acts so, which awaits nothing
  abbrev pub IsThere : List ℕ → Standing → Placed → Type 0
  IsThere found m p = tasks_of (record { machine = m; place = p; awaits = false }) below false ≡ kept_stack code (stack_from P start found)

  top_act : (slots : ℕ → Right) (base : Meant CodeScript) (inner : List (Meant CodeScript)) → stack_act P slots base inner false ≡ frame_act P slots (not (is_alone inner)) (top_frame base inner) (top_frame base inner).awaits
  top_act slots base [] = refl
  top_act slots base (f ∷ fs) = refl

  -- the act that stands next
  stage_is : (found : List ℕ) (m : Standing) (p : Placed) → IsThere found m p
      → stage_act P start found ≡ frame_act P (right_of start.context) (not (is_alone (stack_from P start found).inner)) (top_frame (stack_from P start found).base (stack_from P start found).inner) (top_frame (stack_from P start found).base (stack_from P start found).inner).awaits
  unfolding stage_act act_of
  stage_is found m p e =
      let s = stack_from P start found in
      ap (λ (b : Bool). stack_act P (right_of start.context) s.base s.inner b) (sym (ap (λ (t : Tasks). t.ended) e)) ∙ top_act (right_of start.context) s.base s.inner

  -- how the body stands behind it
  next_is : (found : List ℕ) (a : MeantAct CodeScript) (v : ℕ) → stage_act P start found ≡ a → stack_from P start (v ∷ found) ≡ settled_stack P (stack_after a v (stack_from P start found).base (stack_from P start found).inner)
  unfolding stack_from stage_act act_of
  next_is found a v e = ap (λ (x : MeantAct CodeScript). settled_stack P (stack_after x v (stack_from P start found).base (stack_from P start found).inner)) e

  settled_top : (g base : Meant CodeScript) (inner : List (Meant CodeScript)) → kept_stack code (settled_stack P (with_top g base inner)) ≡ tasks_of (kept code (settled_frame P g)) (rest_of code base inner) false
  settled_top g base [] = refl
  settled_top g base (f ∷ fs) = refl

  record Stepped (found before : List ℕ) (v : ℕ) (next : Standing) (q : Placed) (after : List ℕ) : Type 0 where
    touch : IsTouch (stage_act P start found)
    answer : v ≡ found_by (stage_act P start found) before
    memory : after ≡ direct_cells (stage_act P start found) before
    there : IsThere (v ∷ found) next q

  step : (found before : List ℕ) (m next : Standing) (p q : Placed) (after : List ℕ) (v : ℕ) → IsThere found m p → MayTouch p before m.asked.ask v → q ≡ touched_place m.asked.ask p → after ≡ touched_cells m.asked.ask before
      → next ≡ machine_after code v m → is_quick_ask next.asked.ask ≡ true → Stepped found before v next q after
  step found before m next p q after v e may place memory same quick =
      let s = stack_from P start found in
      let f = top_frame s.base s.inner in
      let slots = right_of start.context in
      let included = not (is_alone s.inner) in
      let top : ◌≡◌ {A = Framed} (record { machine = m; place = p; awaits = false }) (kept code f) = ap (λ (t : Tasks). t.top) e in
      let machine : m ≡ machine_at code f.script f.answers = ap (λ (y : Framed). y.machine) top in
      let awaits : false ≡ f.awaits = ap (λ (y : Framed). y.awaits) top in
      let k = told code slots included f before m.asked.line v p q after (ap (λ (y : Framed). y.place) top) m.asked.ask may place memory in
      let act : stage_act P start found ≡ k.act =
      stage_is found m p e ∙ ap (λ (b : Bool). frame_act P slots included f b) (sym awaits) ∙ ap (λ (x : Standing). act_of_ask slots included f x.asked.ask x.asked.line) (sym machine) ∙ k.is in
      let g = frame_after k.act v f in
      let there = at_once_kept code g next q false (same ∙ ap (machine_after code v) machine ∙ k.machine) k.place (awaits ∙ sym k.awaits) quick in
      record {
        touch = subst IsTouch (sym act) k.touch;
        answer = k.answer ∙ ap (λ (x : MeantAct CodeScript). found_by x before) (sym act);
        memory = k.memory ∙ ap (λ (x : MeantAct CodeScript). direct_cells x before) (sym act);
        there =
            (λ i. tasks_of (there i) (ap (λ (t : Tasks). t.below) e i) false)
            ∙ sym (settled_top g s.base s.inner)
            ∙ ap (λ (x : Stack CodeScript). kept_stack code (settled_stack P x)) (sym (stack_on k.act v s.base s.inner (k.stays_there (is_alone s.inner))))
            ∙ ap (kept_stack code) (sym (next_is found k.act v act));
      }

  slot_next : (found : List ℕ) (v c : ℕ) (op : Op) → IsTouch (stage_act P start found) → slot_of P start c op (v ∷ found) ≡ slot_of P start c op found
  unfolding slot_of
  slot_next found v c op t = touch_slot (stage_act P start found) c op (slot_of P start c op found) t

  -- All of them

  pub record Rushing (found before : List ℕ) (count : ℕ) (m : Standing) (p : Placed) (after : List ℕ) : Type 0 where
    pub past : List ℕ
    pub acts : length past ≡ count + length found
    pub passed : Passes P start found before past after
    pub there : IsThere past m p
    pub slots : (c : ℕ) (op : Op) → slot_of P start c op past ≡ slot_of P start c op found

  pub rushed : (found : List ℕ) {m : Standing} {p : Placed} {u : Vec ℕ Global} {count : ℕ} {n : Standing} {q : Placed} {w : Vec ℕ Global} → Rushes IsMade code m p u count n q w → IsThere found m p → Rushing found u.items count n q w.items
  rushed found stays e = record { past = found; acts = omega arith; passed = begins; there = e; slots = λ c op. refl }
  rushed found {u = u} (goes {t = mid} {u = next} {k = at_} {l = to} {n = now} {o = after} r h) e =
      let k = rushed found r e in
      let s = step k.past now.items mid next at_ to after.items h.found k.there h.done.may h.done.place h.done.memory h.after h.quick in
      let so_far = k.acts in
      record {
        past = h.found ∷ k.past;
        acts = omega (arith, so_far);
        passed = passes k.passed s.touch s.answer s.memory;
        there = s.there;
        slots = λ c op. slot_next k.past h.found c op s.touch ∙ k.slots c op;
      }

  longer : (xs : List ℕ) (n : ℕ) → 0 < n → length xs ≡ n → is_some xs ≡ true
  longer [] n some e = absurd (omega (arith, some, e))
  longer (x ∷ xs) n some e = refl

  -- the kept body
  pub rushed_body : (found before after : List ℕ) (count : ℕ) (old new : Body) (m : Standing) (p : Placed) → IsBody code start found old → Rushing found before count m p after → 0 < count → new.own ≡ old.own → new.begun ≡ true
      → new.tasks ≡ tasks_of (record { machine = m; place = p; awaits = false }) below false
      → ((slots : ℕ → Right) (included : Bool) (f : Meant CodeScript) → p ≡ place_of f → act_seen new.act ≡ act_of_ask slots included f m.asked.ask m.asked.line)
      → HasContext p.context new.act → HasRushed code start found before count new after
  rushed_body found before after count old new m p is r some own begun tasks acts child =
      let s = stack_from P start r.past in
      let f = top_frame s.base s.inner in
      let slots = right_of start.context in
      let included = not (is_alone s.inner) in
      let all : new.tasks ≡ kept_stack code s = tasks ∙ r.there in
      let top : ◌≡◌ {A = Framed} (record { machine = m; place = p; awaits = false }) (kept code f) = ap (λ (t : Tasks). t.top) r.there in
      let machine : m ≡ machine_at code f.script f.answers = ap (λ (y : Framed). y.machine) top in
      let awaits : false ≡ f.awaits = ap (λ (y : Framed). y.awaits) top in
      let told = acts slots included f (ap (λ (y : Framed). y.place) top) in
      let many = r.acts in
      record {
        past = r.past;
        acts = r.acts;
        passed = r.passed;
        is = record {
          context = ap (λ (o : Own). o.context) own ∙ is.context;
          wait = ap (λ (o : Own). o.wait) own ∙ is.wait;
          priority = ap (λ (o : Own). o.priority) own ∙ is.priority;
          slots = λ c op h. ap (λ (o : Own). slot_at o.slots c) own ∙ is.slots c op h ∙ ap (λ (n : ℕ). Some (record { op = op; value = n })) (sym (r.slots c op));
          begun = begun ∙ sym (longer r.past (length r.past) (omega (arith, some, many)) refl);
          place = ap own_place all ∙ own_place_is code s;
          ended = ap (λ (t : Tasks). t.ended) all;
          tasks = λ x. all;
          act = λ x.
              told ∙ ap (λ (y : Standing). act_of_ask slots included f y.asked.ask y.asked.line) machine ∙ ap (λ (b : Bool). frame_act P slots included f b) awaits ∙ sym (stage_is r.past m p r.there);
          child = λ x. subst (λ (y : Context). HasContext y new.act) (ap (λ (y : Framed). y.place.context) top) child;
        };
      }

  -- where nothing has happened
  pub not_rushed : (found before after : List ℕ) (new : Body) → IsBody code start found new → after ≡ before → HasRushed code start found before 0 new after
  not_rushed found before after new is e = record { past = found; acts = omega arith; passed = subst (λ (xs : List ℕ). Passes P start found before found xs) (sym e) begins; is = is }
