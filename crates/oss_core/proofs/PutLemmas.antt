-- A whole part of a task, put into a core: its acts are made one after the other by the lemmas of single acts, over what a core would keep in between.
use Rattle.std.proofs.Common.{◌≡◌, ℕ, zero, suc, ◌<◌, ◌≤◌, ◌⊎◌, inl, inr, refl, sym, subst, ap, ◌∙◌, arith, List, [], ◌∷◌, ◌++◌, append_assoc, length, length-set, map, Bool, true, false, Some}
use Rattle.std.specs.Prelude.{◌&&◌, not, slice_get, slice_set}
use Rattle.std.proofs.lemmas.List.{append-nil, set-set, set-append_left}
use Rattle.std.proofs.lemmas.Option.{slice_get_within}
use Rattle.oss_judge.specs.Joined.{held_right}
use Rattle.oss_model.specs.Order.{written}
use Rattle.oss_model.specs.Rights.{right_from}
use Rattle.oss_model.specs.Context.{right_of}
use Rattle.oss_model.specs.Agreement.{Agrees, Setting}
use Rattle.oss_model.specs.Bodies.{Act, Order, Program, Start, child_start, stack_from, stage_act}
use Rattle.oss_model.specs.Bodies.Act.{Created}
use Rattle.oss_model.specs.Machine.{State, Task}
use Rattle.oss_model.specs.Moves.{CanStep, Stepped, cells_after, found_by, opening}
use Rattle.oss_model.specs.Sequence.{Running}
use Rattle.oss_model.specs.Sequence.Sequential.{opens}
use Rattle.oss_model.proofs.StageLemmas.{created_goes_on}
use Rattle.oss_wave_laws.specs.Alone.{IsAlonePart, IsInWave, with_found, with_part}
use Rattle.oss_wave_laws.specs.AtOnce.{IsTaken}
use Rattle.oss_wave_laws.specs.Parts.{IsPart, Stage, act_after, stage_after, ticks_after}
use Rattle.oss_wave_laws.specs.Waves.{Takes, first_stage, takes_more, takes_none, wave_ticks}
use Rattle.oss_wave_laws.proofs.AtOnceLemmas.{leaves}
use Rattle.oss_wave_laws.proofs.PartLemmas.{goes_from}
use Rattle.oss_wave_laws.proofs.PartTheorem.{goes_on as part_goes}
use Rattle.oss_wave_laws.proofs.WaveLemmas.{taken}
use Rattle.oss_wave_laws.proofs.WaveTheorem.{part_own}
use Rattle.oss_code.specs.declared.code.CodeParts.{CodeParts}
use Rattle.oss_machine.specs.Frames.{CodeScript}
use Rattle.oss_machine.specs.Machines.{asks}
use Rattle.oss_body.specs.declared.act.Act.{Act as KeptAct}
use Rattle.oss_body.specs.declared.act.Act.TheVariants as acts
use Rattle.oss_body.specs.declared.body.Body.{Body}
use Rattle.oss_body.specs.Acts.{act_seen, answer_to, creates, goes_on}
use Rattle.oss_body.specs.Relation.{IsBody, has_wait, is_over, pending_of}
use Rattle.oss_tree.specs.declared.output.Print.{Print}
use Rattle.oss_tree.specs.Tasks.{HasPoint, MayCreate, grown}
use Rattle.oss_tree.proofs.ListLemmas.{get_set_other, get_set_same, longer_by}
use Rattle.oss_deps.specs.Seen.{CanOpen, Opens, Seen}
use Rattle.oss_segment.specs.Segments.{IsKeyed, Went, with_print, went_none, went_on, went_new}
use Rattle.oss_kept_tasks.specs.declared.held.Held.{Held}
use Rattle.oss_enabled_moves.proofs.CallLemmas.{seen_is}
use Rattle.oss_core.specs.declared.creating.Newborn.{Newborn}
use Rattle.oss_core.specs.Changes.{Creates, Steps, found_in, noted, prints_after}
use Rattle.oss_core.specs.Moving.{Grown}
use Rattle.oss_core.specs.Kept.{IsCore, Kept}
use Rattle.oss_core.specs.Putting.{AreNewborns, IsNewborn, IsPut, MayAdd, OpensAll, entry_of, with_newborn, with_newborns, with_tasks}
use Rattle.oss_core.proofs.CreatesLemmas.{creates_made}
use Rattle.oss_core.proofs.ActLemmas.{created_order}
use Rattle.oss_core.proofs.CoreLemmas.{held_at}
use Rattle.oss_core.proofs.KeepLemmas.{some_is, which}
use Rattle.oss_core.proofs.PushLemmas.{grown_list}
use Rattle.oss_core.proofs.PutFacts.{core_like, none_new, point_grown, point_new, point_noted, tree_on, with_not}
use Rattle.oss_core.proofs.NeedLemmas.{may_create, may_open}
use Rattle.oss_core.proofs.StepsLemmas.{steps_made}

-- the print that an act makes, if it makes one
abbrev pub print_by : KeptAct → List Print
print_by (acts.Print key text) = record { at = key; text = text } ∷ []
print_by _ = []

with_print_is : (a : KeptAct) (prints : List Print) → with_print a prints ≡ prints ++ print_by a
with_print_is (acts.Print key text) prints = refl
with_print_is _ prints = sym (append-nil prints)

prints_after_is : (a : KeptAct) (prints : List Print) → prints_after a prints ≡ prints ++ print_by a
prints_after_is (acts.Print key text) prints = refl
prints_after_is _ prints = sym (append-nil prints)

-- the answer to an act that finds the same is the same
same_answer : (a : KeptAct) (cells : List ℕ) (n : ℕ) → found_by (act_seen a) cells ≡ n → answer_to (act_seen a) (found_in a cells) ≡ answer_to (act_seen a) n
same_answer (acts.Load c) cells n e = e
same_answer _ cells n e = refl

-- What is left of a part behind so many of its acts.
module _ (code : CodeParts) (start : Start CodeScript) (first : Stage) (count : ℕ) (last : Body) where
  pub data Rest : ℕ → Body → List Body → List Print → Type 0 where
    rest_none : Rest count last [] []
    rest_on : {k : ℕ} {b : Body} {children : List Body} {prints : List Print} (next : Body) → is_over b ≡ false → goes_on (pending_of b) ≡ true → creates (pending_of b) ≡ false → IsKeyed (pending_of b)
        → ((s : Start CodeScript) (f : List ℕ) → IsBody code s f b → IsBody code s (answer_to (act_seen (pending_of b)) (found_by (act_after (asks code) start first k) (stage_after (asks code) start first k).cells) ∷ f) next)
        → Rest (suc k) next children prints → Rest k b children (print_by (pending_of b) ++ prints)
    rest_new : {k : ℕ} {b : Body} {children : List Body} {prints : List Print} (next child : Body) → is_over b ≡ false → goes_on (pending_of b) ≡ true → creates (pending_of b) ≡ true
        → ((s : Start CodeScript) (f : List ℕ) (order : Order CodeScript) → IsBody code s f b → stage_act (asks code) s f ≡ Created order false → IsBody code (child_start (stack_from (asks code) s f).base order) [] child)
        → ((s : Start CodeScript) (f : List ℕ) → IsBody code s f b → IsBody code s (answer_to (act_seen (pending_of b)) 0 ∷ f) next)
        → Rest (suc k) next children prints → Rest k b (child ∷ children) prints

  -- there is no more than that
  pub rest_within : {k : ℕ} {b : Body} {children : List Body} {prints : List Print} → Rest k b children prints → k ≤ count
  rest_within rest_none = omega arith
  rest_within (rest_on next r g n y f rest) = let l = rest_within rest in omega (arith, l)
  rest_within (rest_new next child r g c y f rest) = let l = rest_within rest in omega (arith, l)

  -- behind the end of a body nothing is left
  pub over_ends : {k : ℕ} {b : Body} {children : List Body} {prints : List Print} → Rest k b children prints → is_over b ≡ true → (children ≡ []) × (b ≡ last)
  over_ends rest_none e = (refl, refl)
  over_ends (rest_on next r g n y f rest) e = absurd (cc (e, r))
  over_ends (rest_new next child r g c y f rest) e = absurd (cc (e, r))

  module _ (body0 : Body) where
    -- the way from the beginning to here, and what is left from here on, are the whole
    pub from_start : {k : ℕ} {b : Body} {children more : List Body} {prints others : List Print} → Went code start first body0 k b children prints → Rest k b more others → Rest zero body0 (children ++ more) (prints ++ others)
    from_start went_none rest = rest
    from_start {more = more} {others = others} (went_on {b = b} {children = children} {prints = prints} next way r g n y f) rest =
        subst (λ (ps : List Print). Rest zero body0 (children ++ more) ps) (sym (append_assoc prints (print_by (pending_of b)) others) ∙ ap (λ (ps : List Print). ps ++ others) (sym (with_print_is (pending_of b) prints)))
        (from_start way (rest_on next r g n y f rest))
    from_start {more = more} {others = others} (went_new {children = children} {prints = prints} next child way r g c y f) rest =
        subst (λ (bs : List Body). Rest zero body0 bs (prints ++ others)) (sym (append_assoc children (child ∷ []) more)) (from_start way (rest_new next child r g c y f rest))

    pub whole_rest : {children : List Body} {prints : List Print} → Went code start first body0 count last children prints → Rest zero body0 children prints
    whole_rest {children = children} {prints = prints} way =
        subst (λ (ps : List Print). Rest zero body0 children ps) (append-nil prints) (subst (λ (bs : List Body). Rest zero body0 bs (prints ++ [])) (append-nil children) (from_start way rest_none))

module _ (code : CodeParts) (main : Start CodeScript) (first : List ℕ) (set_ : Setting main first) (s : State CodeScript) (s_agrees : Agrees (asks code) main first (record { state = opening main first; active = []; printed = [] }) s)
    (alone : List ℕ → State CodeScript) (n0 : State CodeScript) (wave : IsInWave (asks code) s alone n0) (p : List ℕ) (t : Task CodeScript) (can : CanStep (asks code) s p t) (free : alone p ≡ s)
    (count : ℕ) (is : IsPart (asks code) t.body.start (first_stage s t) wave_ticks count) (v : ℕ) (last : Body) where
  abbrev P : Program CodeScript
  P = asks code

  abbrev z : Running CodeScript
  z = record { state = opening main first; active = []; printed = [] }

  abbrev stage : ℕ → Stage
  stage k = stage_after P t.body.start (first_stage s t) k

  -- the task behind so many acts of its part
  abbrev now : ℕ → Task CodeScript
  now k = with_found (stage k).found t

  abbrev Left : ℕ → Body → List Body → List Print → Type 0
  Left k b children prints = Rest code t.body.start (first_stage s t) count last k b children prints

  at_start : (k : ℕ) → k ≡ zero → (stage k).found ≡ t.body.found
  unfolding stage_after
  at_start k e = rw e refl

  -- the next act of the part may be made, and finds what it finds alone
  record NextAct (k : ℕ) (n : State CodeScript) : Type 0 where
    step : CanStep P n p (now k)
    finds : found_by (act_after P t.body.start (first_stage s t) k) n.cells ≡ found_by (act_after P t.body.start (first_stage s t) k) (stage k).cells

  next_act : (k : ℕ) {n : State CodeScript} → k < count → Takes P p n0 k n → NextAct k n
  next_act k {n = n} l r =
      let d = taken P main first z set_ opens s s_agrees alone n0 wave p t can free count is k (omega (arith, l)) r in
      let h = goes_from (act_after P t.body.start (first_stage s t) k) k (ticks_after P t.body.start (first_stage s t) k) wave_ticks (is.goes k l) in
      let g = part_goes P main first z set_ opens s s_agrees p t can (with_part p d.a alone) n d.wave (stage k).cells (stage k).found
      (subst (λ (x : State CodeScript). IsAlonePart p t (stage k).cells (stage k).found x) (sym (part_own p d.a alone)) d.part) h.halt (λ w. at_start k (h.first w)) in
      record { step = g.can; finds = g.found }

  -- what a core keeps behind the rest of the part
  pub record PutFrom (b : Body) (xs : List Newborn) (prints : List Print) (old new : Kept) : Type 0 where
    pub before : Held
    pub was : slice_get old.tasks v ≡ Some before
    pub after : Held
    pub body_is : after.body ≡ last
    pub owed : after.owed.pieces ≡ before.owed.pieces
    pub tasks : new.tasks ≡ with_tasks v after xs old.tasks
    pub tree : new.tree.tasks ≡ noted v (is_over last && not (is_over b)) (with_newborns v xs old.tree.tasks)
    pub prints_are : new.tree.prints ≡ old.tree.prints ++ prints
    pub seen : OpensAll v (length old.tasks) xs old.seen new.seen
    pub cells : (m : State CodeScript) → IsTaken P s n0 p t count m → m.cells ≡ new.cells

  -- a core before the rest of the part: the task stands at its number
  record Before (k : ℕ) (b : Body) (old : Kept) (n : State CodeScript) : Type 0 where
    core : IsCore code main first old n
    takes : Takes P p n0 k n
    held : Held
    was : slice_get old.tasks v ≡ Some held
    body_is : held.body ≡ b
    point : HasPoint old.tree.tasks v (written p)

  -- what holds of the rest of the part: the new tasks may be added, and where they are, the part is done
  record Goal (b : Body) (xs : List Newborn) (prints : List Print) (old : Kept) : Type 0 where
    pub add : MayAdd v (length old.tasks) xs old.tree.tasks old.seen
    pub made : (new : Kept) → PutFrom b xs prints old new → (m : State CodeScript) × Takes P p n0 count m × IsCore code main first new m

  -- nothing is left
  at_end : (old : Kept) (n : State CodeScript) → Before count last old n → Goal last [] [] old
  at_end old n h = record { add = tt; made = λ new q. (n, h.takes, made new q) }
    where
      made : (new : Kept) → PutFrom last [] [] old new → IsCore code main first new n
      made new q = core_like old new h.core size alike tree_is (seen_is old.seen new.seen q.seen) (sym (q.cells n (leaves P main first z set_ opens s s_agrees alone n0 wave p t can free count is h.takes)) ∙ h.core.stands.cells_are)
        where
          one : q.before ≡ h.held
          one = some_is (sym q.was ∙ h.was)

          list : new.tasks ≡ slice_set old.tasks v q.after
          list = q.tasks ∙ append-nil (slice_set old.tasks v q.after)

          size : length new.tasks ≡ length old.tasks
          size = ap length list ∙ length-set old.tasks v q.after

          alike : (w : ℕ) (x : Held) → slice_get new.tasks w ≡ Some x → (g : Held) × (slice_get old.tasks w ≡ Some g) × (x.body ≡ g.body) × (x.owed.pieces ≡ g.owed.pieces)
          alike w x e = go (which w v)
            where
              go : (w ≡ v) ⊎ (w ≡ v → ⊥) → (g : Held) × (slice_get old.tasks w ≡ Some g) × (x.body ≡ g.body) × (x.owed.pieces ≡ g.owed.pieces)
              go (inl same) =
                  let is_after : x ≡ q.after = some_is (sym e ∙ ap (λ (ts : List Held). slice_get ts w) list ∙ ap (λ (i : ℕ). slice_get (slice_set old.tasks v q.after) i) same ∙ get_set_same old.tasks v q.before q.after q.was) in (
                    h.held,
                    ap (λ (i : ℕ). slice_get old.tasks i) same ∙ h.was,
                    ap (λ (y : Held). y.body) is_after ∙ q.body_is ∙ sym h.body_is,
                    ap (λ (y : Held). y.owed.pieces) is_after ∙ q.owed ∙ ap (λ (y : Held). y.owed.pieces) one,
                  )
              go (inr other) = (x, sym (get_set_other old.tasks v w q.after other) ∙ sym (ap (λ (ts : List Held). slice_get ts w) list) ∙ e, refl, refl)

          tasks_are : new.tree.tasks ≡ old.tree.tasks
          tasks_are = q.tree ∙ ap (λ (o : Bool). noted v o old.tree.tasks) (neither (is_over last))
            where
              neither : (o : Bool) → (o && not o) ≡ false
              neither true = refl
              neither false = refl

          tree_is : new.tree ≡ old.tree
          tree_is = λ i. record { tasks = tasks_are i; prints = (q.prints_are ∙ append-nil old.tree.prints) i }

  -- an act that creates no task, and the rest
  on_step : (k : ℕ) (b next : Body) (children : List Body) (prints : List Print) → Left (suc k) next children prints → is_over b ≡ false → goes_on (pending_of b) ≡ true → creates (pending_of b) ≡ false → IsKeyed (pending_of b)
      → ((a : Start CodeScript) (f : List ℕ) → IsBody code a f b → IsBody code a (answer_to (act_seen (pending_of b)) (found_by (act_after P t.body.start (first_stage s t) k) (stage k).cells) ∷ f) next)
      → (old : Kept) (n : State CodeScript) → Before k b old n → (xs : List Newborn) → AreNewborns xs children → ((mid : Kept) (m : State CodeScript) → Before (suc k) next mid m → Goal next xs prints mid) → Goal b xs (print_by (pending_of b) ++ prints) old
  on_step k b next children prints rest running goes none keyed on old n h xs news more = record { add = add; made = λ new q. ih.made new (back new q) }
    where
      l : k < count
      l = rest_within code t.body.start (first_stage s t) count last rest

      act : KeptAct
      act = pending_of b

      now_can : CanStep P n p (now k)
      now_can = (next_act k l h.takes).step

      -- what is kept of the task is its body
      is_b : IsBody code t.body.start (stage k).found b
      is_b = subst (λ (x : Body). IsBody code t.body.start (stage k).found x) h.body_is (held_at code main first old n h.core v p (now k) h.point now_can.at_ h.held h.was).body_is

      same_act : act_seen (pending_of b) ≡ act_after P t.body.start (first_stage s t) k
      same_act = is_b.act running

      finds : found_by (act_seen (pending_of b)) old.cells ≡ found_by (act_after P t.body.start (first_stage s t) k) (stage k).cells
      finds = ap (λ (a : Act CodeScript). found_by a old.cells) same_act ∙ ap (λ (cs : List ℕ). found_by (act_after P t.body.start (first_stage s t) k) cs) (sym h.core.stands.cells_are) ∙ (next_act k l h.takes).finds

      after : Held
      after = record { body = next; owed = h.held.owed }

      mid : Kept
      mid = record {
        tasks = slice_set old.tasks v after;
        tree = record { tasks = noted v (is_over next) old.tree.tasks; prints = prints_after (pending_of b) old.tree.prints };
        seen = old.seen;
        cells = cells_after (act_seen (pending_of b)) old.cells;
      }

      steps_are : Steps code v (pending_of b) old mid
      steps_are = record {
        none = none;
        before = h.held;
        after = after;
        changed_is = record {
          was = h.was;
          is = get_set_same old.tasks v h.held after h.was;
          others = λ w ne. get_set_other old.tasks v w after ne;
          size = length-set old.tasks v after;
        };
        goes = record {
          act_is = ap pending_of h.body_is;
          body = λ a f x. subst (λ (y : ℕ). IsBody code a (y ∷ f) next) (sym (same_answer (pending_of b) old.cells _ finds)) (on a f (subst (λ (y : Body). IsBody code a f y) h.body_is x));
          owed = refl;
        };
        cells = refl;
        tasks = refl;
        prints = refl;
        key_is = keyed;
        seen = record { opens = refl; given = λ a c. refl; cuts = λ i. refl; reserved = refl };
      }

      made : (m : State CodeScript) × Stepped P n p (now k) m × IsCore code main first mid m
      made = steps_made code main first old mid n h.core v p (now k) h.point now_can (pending_of b) steps_are

      ih : Goal next xs prints mid
      ih = more mid made.0 (record {
        core = made.2;
        takes = takes_more h.takes now_can made.1;
        held = after;
        was = get_set_same old.tasks v h.held after h.was;
        body_is = refl;
        point = point_noted old.tree.tasks v v (written p) (is_over next) h.point;
      })

      ends : is_over next ≡ true → (xs ≡ []) × (is_over last ≡ true)
      ends e = let o = over_ends code t.body.start (first_stage s t) count last rest e in (none_new xs children o.0 news, ap is_over (sym o.1) ∙ e)

      add : MayAdd v (length old.tasks) xs old.tree.tasks old.seen
      add = go (is_over next) refl
        where
          go : (o : Bool) → is_over next ≡ o → MayAdd v (length old.tasks) xs old.tree.tasks old.seen
          go true e = subst (λ (ys : List Newborn). MayAdd v (length old.tasks) ys old.tree.tasks old.seen) (sym (ends e).0) tt
          go false e = subst (λ (size : ℕ). MayAdd v size xs old.tree.tasks old.seen) (length-set old.tasks v after) (subst (λ (o : Bool). MayAdd v (length mid.tasks) xs (noted v o old.tree.tasks) old.seen) e ih.add)

      back : (new : Kept) → PutFrom b xs (print_by (pending_of b) ++ prints) old new → PutFrom next xs prints mid new
      back new q = record {
        before = after;
        was = get_set_same old.tasks v h.held after h.was;
        after = q.after;
        body_is = q.body_is;
        owed = q.owed ∙ ap (λ (y : Held). y.owed.pieces) (some_is (sym q.was ∙ h.was));
        tasks = q.tasks ∙ ap (λ (ts : List Held). ts ++ map (λ x. x.held) xs) (sym (set-set old.tasks v after q.after));
        tree = q.tree ∙ tree_on v (is_over last) (is_over b) (is_over next) xs old.tree.tasks running ends;
        prints_are = q.prints_are ∙ sym (append_assoc old.tree.prints (print_by (pending_of b)) prints) ∙ ap (λ (ps : List Print). ps ++ prints) (sym (prints_after_is (pending_of b) old.tree.prints));
        seen = subst (λ (size : ℕ). OpensAll v size xs old.seen new.seen) (sym (length-set old.tasks v after)) q.seen;
        cells = q.cells;
      }

  -- an act that creates a task, and the rest
  on_new : (k : ℕ) (b next child : Body) (children : List Body) (prints : List Print) → Left (suc k) next children prints → is_over b ≡ false → goes_on (pending_of b) ≡ true → creates (pending_of b) ≡ true
      → ((a : Start CodeScript) (f : List ℕ) (order : Order CodeScript) → IsBody code a f b → stage_act P a f ≡ Created order false → IsBody code (child_start (stack_from P a f).base order) [] child)
      → ((a : Start CodeScript) (f : List ℕ) → IsBody code a f b → IsBody code a (answer_to (act_seen (pending_of b)) 0 ∷ f) next)
      → (old : Kept) (n : State CodeScript) → Before k b old n → (x : Newborn) (xs : List Newborn) → IsNewborn x child → AreNewborns xs children → ((mid : Kept) (m : State CodeScript) → Before (suc k) next mid m → Goal next xs prints mid) → Goal b (x ∷ xs) prints old
  on_new k b next child children prints rest running goes creating begins on old n h x xs new news more = record { add = (room, opening_may, λ seen op. later seen op); made = λ kept q. made kept q }
    where
      l : k < count
      l = rest_within code t.body.start (first_stage s t) count last rest

      now_can : CanStep P n p (now k)
      now_can = (next_act k l h.takes).step

      -- what is kept of the task is its body
      held_b : (a : Start CodeScript) (f : List ℕ) → IsBody code a f h.held.body → IsBody code a f b
      held_b a f y = subst (λ (w : Body). IsBody code a f w) h.body_is y

      is_b : IsBody code t.body.start (stage k).found b
      is_b = held_b t.body.start (stage k).found (held_at code main first old n h.core v p (now k) h.point now_can.at_ h.held h.was).body_is

      running_h : is_over h.held.body ≡ false
      running_h = ap is_over h.body_is ∙ running

      creating_h : creates (pending_of h.held.body) ≡ true
      creating_h = ap (λ (w : Body). creates (pending_of w)) h.body_is ∙ creating

      -- the body of the new task
      child_begins : (a : Start CodeScript) (f : List ℕ) (order : Order CodeScript) → IsBody code a f h.held.body → stage_act P a f ≡ Created order false → IsBody code (child_start (stack_from P a f).base order) [] x.held.body
      child_begins a f order y e = subst (λ (w : Body). IsBody code (child_start (stack_from P a f).base order) [] w) (sym new.body) (begins a f order (held_b a f y) e)

      child_rights : (a : Start CodeScript) (f : List ℕ) → IsBody code a f x.held.body → (c : ℕ) → right_from false x.accesses c ≡ held_right (right_of a.context c)
      child_rights a f y = new.rights code a f (subst (λ (w : Body). IsBody code a f w) new.body y)

      -- a body that has created a task goes on
      next_running : is_over next ≡ false
      next_running =
          let o = created_order (pending_of b) creating in
          (on t.body.start (stage k).found is_b).ended ∙ created_goes_on P t.body.start (answer_to (act_seen (pending_of b)) 0) (stage k).found o.0 (sym (is_b.act running) ∙ o.1)

      after : Held
      after = record { body = next; owed = h.held.owed }

      mid : Seen → Kept
      mid seen = record {
        tasks = slice_set old.tasks v after ++ x.held ∷ [];
        tree = record { tasks = with_newborn v x old.tree.tasks; prints = old.tree.prints };
        seen = seen;
        cells = old.cells;
      }

      size_mid : length (slice_set old.tasks v after ++ x.held ∷ []) ≡ suc (length old.tasks)
      size_mid = let a = longer_by (slice_set old.tasks v after) x.held in let c = length-set old.tasks v after in omega (arith, a, c)

      grown_tasks : Grown old.tasks (slice_set old.tasks v after ++ x.held ∷ []) v after (length old.tasks) x.held
      grown_tasks = grown_list old.tasks v (length old.tasks) h.held after x.held h.was refl

      creates_are : (seen : Seen) → Opens (entry_of (length old.tasks) v x) old.seen seen → Creates code v (pending_of b) old (mid seen)
      creates_are seen op = record {
        creates_is = creating;
        before = h.held;
        after = after;
        child = x.held;
        accesses = x.accesses;
        grown_is = record { was = h.was; is = grown_tasks.now; added = grown_tasks.new; others = grown_tasks.others; size = size_mid };
        goes = record { act_is = ap pending_of h.body_is; body = λ a f y. on a f (held_b a f y); owed = refl };
        created = record { body = child_begins; rights = child_rights; rising = new.rising; owed = new.owed };
        cells = refl;
        tasks = refl;
        prints = refl;
        seen = op;
      }

      room : MayCreate old.tree.tasks v
      room = may_create h.core v h.held h.was running_h creating_h

      opening_may : CanOpen old.seen (entry_of (length old.tasks) v x)
      opening_may = may_open h.core v h.held x.held x.accesses h.was running_h creating_h child_begins child_rights new.rising

      done_at : (seen : Seen) → Opens (entry_of (length old.tasks) v x) old.seen seen → (m : State CodeScript) × Stepped P n p (now k) m × IsCore code main first (mid seen) m
      done_at seen op = creates_made code main first old (mid seen) n h.core v p (now k) h.point now_can (pending_of b) (creates_are seen op)

      ih : (seen : Seen) → Opens (entry_of (length old.tasks) v x) old.seen seen → Goal next xs prints (mid seen)
      ih seen op =
          let d = done_at seen op in
          more (mid seen) d.0 (record {
            core = d.2;
            takes = takes_more h.takes now_can d.1;
            held = after;
            was = grown_tasks.now;
            body_is = refl;
            point = point_new (grown old.tree.tasks v (has_wait x.held.body)) (length old.tree.tasks) v (written p) x.accesses (point_grown old.tree.tasks v v (written p) (has_wait x.held.body) h.point);
          })

      later : (seen : Seen) → Opens (entry_of (length old.tasks) v x) old.seen seen → MayAdd v (suc (length old.tasks)) xs (with_newborn v x old.tree.tasks) seen
      later seen op = subst (λ (size : ℕ). MayAdd v size xs (with_newborn v x old.tree.tasks) seen) size_mid (ih seen op).add

      within : v < length (slice_set old.tasks v after)
      within = let a = slice_get_within old.tasks v h.held h.was in let c = length-set old.tasks v after in omega (arith, a, c)

      made : (kept : Kept) → PutFrom b (x ∷ xs) prints old kept → (m : State CodeScript) × Takes P p n0 count m × IsCore code main first kept m
      made kept q =
          let seen = q.seen.0 in
          (ih seen q.seen.1).made kept (record {
            before = after;
            was = grown_tasks.now;
            after = q.after;
            body_is = q.body_is;
            owed = q.owed ∙ ap (λ (y : Held). y.owed.pieces) (some_is (sym q.was ∙ h.was));
            tasks = q.tasks ∙ tasks_are q.after;
            tree = q.tree ∙ flags;
            prints_are = q.prints_are;
            seen = subst (λ (size : ℕ). OpensAll v size xs seen kept.seen) (sym size_mid) q.seen.2;
            cells = q.cells;
          })
        where
          tasks_are : (last_held : Held) → with_tasks v last_held (x ∷ xs) old.tasks ≡ with_tasks v last_held xs (slice_set old.tasks v after ++ x.held ∷ [])
          tasks_are last_held =
              sym (append_assoc (slice_set old.tasks v last_held) (x.held ∷ []) (map (λ y. y.held) xs))
              ∙ ap (λ (ts : List Held). (ts ++ x.held ∷ []) ++ map (λ y. y.held) xs) (sym (set-set old.tasks v after last_held))
              ∙ ap (λ (ts : List Held). ts ++ map (λ y. y.held) xs) (sym (set-append_left (slice_set old.tasks v after) (x.held ∷ []) v last_held within))

          flags : noted v (is_over last && not (is_over b)) (with_newborns v (x ∷ xs) old.tree.tasks) ≡ noted v (is_over last && not (is_over next)) (with_newborns v xs (with_newborn v x old.tree.tasks))
          flags = ap (λ (o : Bool). noted v (is_over last && not o) (with_newborns v xs (with_newborn v x old.tree.tasks))) (running ∙ sym next_running)

  -- all that is left
  all : {k : ℕ} {b : Body} {children : List Body} {prints : List Print} → Left k b children prints → (old : Kept) (n : State CodeScript) → Before k b old n → (xs : List Newborn) → AreNewborns xs children → Goal b xs prints old
  all rest_none old n h [] news = at_end old n h
  all rest_none old n h (x ∷ xs) news = absurd news
  all (rest_on {k = k} {b = b} {children = children} {prints = prints} next r g c y f rest) old n h xs news = on_step k b next children prints rest r g c y f old n h xs news (λ mid m i. all rest mid m i xs news)
  all (rest_new {k = k} {b = b} {children = children} {prints = prints} next child r g c y f rest) old n h [] news = absurd news
  all (rest_new {k = k} {b = b} {children = children} {prints = prints} next child r g c y f rest) old n h (x ∷ xs) news =
      on_new k b next child children prints rest r g c y f old n h x xs news.0 news.1 (λ mid m i. all rest mid m i xs news.1)

  -- A whole part, from a core that stands for the state in which its turn comes.
  module _ (body0 : Body) (children : List Body) (prints : List Print) (way : Went code t.body.start (first_stage s t) body0 count last children prints) (old : Kept) (core : IsCore code main first old n0) (held : Held) (was : slice_get old.tasks v ≡ Some held)
      (body_is : held.body ≡ body0) (point : HasPoint old.tree.tasks v (written p)) (xs : List Newborn) (news : AreNewborns xs children) where
    goal : Goal body0 xs prints old
    goal = all (whole_rest code t.body.start (first_stage s t) count last body0 way) old n0 (record { core = core; takes = takes_none; held = held; was = was; body_is = body_is; point = point }) xs news

    -- the new tasks may be added
    pub may_add : MayAdd v (length old.tasks) xs old.tree.tasks old.seen
    may_add = goal.add

    -- and where all is put, the core stands for the state behind the part
    pub put_made : is_over body0 ≡ false → (new : Kept) → IsPut v xs last prints old new → ((m : State CodeScript) → IsTaken P s n0 p t count m → m.cells ≡ new.cells) → (m : State CodeScript) × Takes P p n0 count m × IsCore code main first new m
    put_made running new q cells = goal.made new (record {
      before = q.before;
      was = q.was;
      after = q.after;
      body_is = q.body_is;
      owed = q.owed;
      tasks = q.tasks;
      tree = q.tree ∙ ap (λ (o : Bool). noted v o (with_newborns v xs old.tree.tasks)) (sym (with_not (is_over last) (is_over body0) running));
      prints_are = q.prints_are;
      seen = q.seen;
      cells = cells;
    })
