-- Each turn of the loop is an act of the sequential run.
use Rattle.std.proofs.Common.{◌≡◌, ◌≢◌, ℕ, ◌+◌, ◌-◌, ◌<◌, ◌^◌, refl, sym, subst, ap, ◌∙◌, List, [], ◌∷◌, ◌++◌, arith, Bool, true, false, Option, Some, None}
use Rattle.std.specs.Prelude.{min, reverse}
use Rattle.std.proofs.lemmas.List.{reverse-append}
use Rattle.oss_syntax.specs.declared.fault.FaultKind.{FaultKind}
use Rattle.oss_model.specs.declared.answer.Answer.TheVariants as answers
use Rattle.oss_model.specs.Order.{IsSuffix, whole, longer}
use Rattle.oss_model.specs.Bodies.{Order, Program, Act, Frame, Stack, Start, Body, stack_from, base_after, settled_stack, frame_act, IsHalt}
use Rattle.oss_model.specs.Bodies.Act.{Created, Fault, Over}
use Rattle.oss_model.specs.Context.{right_of}
use Rattle.oss_model.specs.Machine.{Task, At, find, same_path}
use Rattle.oss_model.specs.Moves.{act_now, created_now, is_ended, found_by, after_answer, new_task, opening}
use Rattle.oss_model.specs.Potential.{potential}
use Rattle.oss_model.specs.Sequence.{Running, direct_cells, printed_after, path_above, active_after, Sequential, opens, runs_on, RunsOn, IsAtEnd}
use Rattle.oss_model.specs.Agreement.{Setting}
use Rattle.oss_model.specs.Termination.{IsLively}
use Rattle.oss_model.proofs.StageLemmas.{creating}
use Rattle.oss_model.proofs.TreeLemmas.{at_same, over_stops, path_found}
use Rattle.oss_model.proofs.MoveLemmas.{fresh_child}
use Rattle.oss_model.proofs.SequenceLemmas.{opening_main, stands}
use Rattle.oss_model.proofs.RunLemmas.{Next, next, AboveSame, above_next, no_creation_path, other_path, not_child}
use Rattle.oss_model.proofs.TerminationTheorem.{act_at, next_at, start_at, active_stay, active_up, active_down}
use Rattle.oss_model.proofs.PotentialLemmas.{body_falls, creation_falls}
use Rattle.oss_meaning.specs.Results.{IsOutcome, Outcome, ends, entries_in, fails, tasks_in, weighed}
use Rattle.oss_serial.specs.Turns.{AreWaiting, Begins, Ends, Goes, Stands, answered, whole_task}
use Rattle.oss_serial.proofs.CountLemmas.{goes_counted, grows_counted}

shorter : {x : ℕ} {xs ys : List ℕ} → IsSuffix (x ∷ xs) ys → IsSuffix xs ys
shorter whole = longer whole
shorter (longer s) = longer (shorter s)

-- the count of tasks, which stays at its greatest value
abbrev pub more_tasks : ℕ → ℕ
more_tasks n = min (n + 1) (2 ^ 64 - 1)

capped_more : (n : ℕ) → min (1 + n) (2 ^ 64 - 1) ≡ more_tasks (min n (2 ^ 64 - 1))
capped_more n = grind arith

module _ {S : Type 0} (P : Program S) (main : Start S) (first : List ℕ) where
  -- those that wait go on waiting
  waits_stay : (z y : Running S) → AboveSame z y → (bodies : List (Body S)) (p : List ℕ) → IsSuffix p z.active → AreWaiting P z.state bodies p → AreWaiting P y.state bodies p
  waits_stay z y same [] p s w = w
  waits_stay z y same (b ∷ older) p s (k, e, at_, a, w) =
      let f : IsSuffix (k ∷ b.start.path) z.active = subst (λ (q : List ℕ). IsSuffix q z.active) e s in
      (k, e, same b.start.path k (whole_task b) f at_, a, waits_stay z y same older b.start.path (shorter f) w)

  -- a body that has just created a task has not ended
  created_alive : (t : Task S) (v : ℕ) (o : Order S) → act_now P t.body ≡ Created o false → is_ended P (after_answer v t).body ≡ false
  created_alive t v o a = go (stack_from P t.body.start t.body.found).base (stack_from P t.body.start t.body.found).inner (stack_from P t.body.start t.body.found).ended refl
    where
      go : (base : Frame S) (inner : List (Frame S)) (ended : Bool) → stack_from P t.body.start t.body.found ≡ record { base = base; inner = inner; ended = ended } → is_ended P (after_answer v t).body ≡ false
      go base inner true e = let h : Created o false ≡ Over = sym a ∙ over_stops P t.body.start t.body.found (ap (λ (s : Stack S). s.ended) e) in absurd cc
      go base [] false e =
          let f : frame_act P (right_of t.body.start.context) false base base.awaits ≡ Created o false = sym (act_at P t.body.start t.body.found base [] e) ∙ a in
          ap (λ (s : Stack S). s.ended) (next_at P t.body.start t.body.found v base [] e ∙ ap (λ (x : Act S). settled_stack P (base_after x v base)) f)
      go base (f ∷ fs) false e = let h : f ∷ fs ≡ [] = ap (λ (s : Stack S). s.inner) (sym e) ∙ (creating P t.body.start t.body.found o a).alone in absurd cc

  begun_alive : (b : Start S) → is_ended P (record { start = b; found = [] }) ≡ false
  begun_alive b = ap (λ (s : Stack S). s.ended) (start_at P b)

  -- the run begins
  pub begins : Setting main first → Begins P main first (record { start = main; found = [] }) [] first [] 1
  begins s =
      record {
        stands = record {
          stage = record { state = opening main first; active = []; printed = [] };
          run = opens;
          cells_are = refl;
          output_is = refl;
          tasks_are = refl;
          path = sym s.starts.path;
          at_ = opening_main main first s.starts.path;
          alive = begun_alive main;
          waiting = refl;
        };
        opens = refl;
      }

  -- what a turn gives: the next stage, and the task there
  record Turned (before : Running S) (current : Body S) (above : List (Body S)) (cells output : List ℕ) (tasks : ℕ) : Type 0 where
    stage : Running S
    runs : RunsOn P before stage
    run_before : Sequential P main first before
    run : Sequential P main first stage
    cells_are : stage.state.cells ≡ direct_cells (act_now P current) cells
    output_is : stage.printed ≡ printed_after (act_now P current) output
    at_before : At before.state before.active (whole_task current)
    own : At stage.state before.active (whole_task (answered (found_by (act_now P current) cells) current))
    path : before.active ≡ current.start.path
    same : AboveSame before stage
    waiting : AreWaiting P before.state (reverse above) before.active
    active : stage.active ≡ active_after P (whole_task current) before.active (found_by (act_now P current) cells) (act_now P current)
    made : (o : Order S) → act_now P current ≡ Created o false → At stage.state (created_now P current ∷ before.active) (new_task P current o)
    plain_tasks : ((o : Order S) → act_now P current ≢ Created o false) → tasks_in stage.state ≡ tasks
    grown_tasks : (o : Order S) → act_now P current ≡ Created o false → Setting main first → tasks_in stage.state ≡ more_tasks tasks

  module _ (current : Body S) (above : List (Body S)) (cells output : List ℕ) (tasks : ℕ) (s : Stands P main first current above cells output tasks) (g : IsHalt (act_now P current) → ⊥) where
    went : Next P s.stage (whole_task current)
    went = next P s.stage (whole_task current) s.at_ g

    answers_same : found_by (act_now P current) s.stage.state.cells ≡ found_by (act_now P current) cells
    answers_same = ap (λ (x : List ℕ). found_by (act_now P current) x) s.cells_are

    one_task : went.runs.task ≡ whole_task current
    one_task = at_same s.stage.state s.stage.active went.runs.task (whole_task current) went.runs.at_ s.at_

    cells_after_turn : went.stage.state.cells ≡ direct_cells (act_now P current) cells
    cells_after_turn = went.runs.cells ∙ ap (λ (x : Task S). direct_cells (act_now P x.body) s.stage.state.cells) one_task ∙ ap (λ (x : List ℕ). direct_cells (act_now P current) x) s.cells_are

    output_after_turn : went.stage.printed ≡ printed_after (act_now P current) output
    output_after_turn = went.runs.printed ∙ ap (λ (x : Task S). printed_after (act_now P x.body) s.stage.printed) one_task ∙ ap (λ (x : List ℕ). printed_after (act_now P current) x) s.output_is

    found_at_path : find s.stage.state.tasks current.start.path ≡ Some (whole_task current)
    found_at_path = subst (λ (q : List ℕ). find s.stage.state.tasks q ≡ Some (whole_task current)) s.path s.at_

    plain_count : ((o : Order S) → act_now P current ≢ Created o false) → tasks_in went.stage.state ≡ tasks
    plain_count n =
        let e = went.plain_tasks n in
        let k = goes_counted s.stage.state.tasks (whole_task current) (after_answer (found_by (act_now P current) s.stage.state.cells) (whole_task current)) refl found_at_path in
        ap (λ (ts : List (Task S)). min (weighed (λ t. 1) [] ts) (2 ^ 64 - 1)) e ∙ ap (λ (m : ℕ). min m (2 ^ 64 - 1)) k ∙ s.tasks_are

    new_path : (o : Order S) → (new_task P current o).body.start.path ≡ created_now P current ∷ current.start.path
    new_path o = no_creation_path P current.start current.found o

    nobody_there : Setting main first → (o : Order S) → find s.stage.state.tasks (new_task P current o).body.start.path ≡ None
    nobody_there setting o = go (find s.stage.state.tasks (created_now P current ∷ s.stage.active)) refl
      where
        there : (new_task P current o).body.start.path ≡ created_now P current ∷ s.stage.active
        there = new_path o ∙ ap (λ (q : List ℕ). created_now P current ∷ q) (sym s.path)

        go : (x : Option (Task S)) → find s.stage.state.tasks (created_now P current ∷ s.stage.active) ≡ x → find s.stage.state.tasks (new_task P current o).body.start.path ≡ None
        go None e = ap (λ (q : List ℕ). find s.stage.state.tasks q) there ∙ e
        go (Some u) e = absurd (fresh_child P main s.stage.state s.stage.active (whole_task current) u (stands P main first setting.starts s.stage s.run).made s.at_ e)

    grown_count : (o : Order S) → act_now P current ≡ Created o false → Setting main first → tasks_in went.stage.state ≡ more_tasks tasks
    grown_count o a setting =
        let e = went.grown_tasks o a in
        let n = new_task P current o in
        let d : same_path current.start.path n.body.start.path ≡ false =
        ap (λ (q : List ℕ). same_path current.start.path q) (new_path o) ∙ other_path current.start.path (created_now P current ∷ current.start.path) (not_child (created_now P current) current.start.path) in
        let k = grows_counted s.stage.state.tasks (whole_task current) (after_answer (found_by (act_now P current) s.stage.state.cells) (whole_task current)) n refl found_at_path (nobody_there setting o) d in
        ap (λ (ts : List (Task S)). min (weighed (λ t. 1) [] ts) (2 ^ 64 - 1)) e ∙ ap (λ (m : ℕ). min m (2 ^ 64 - 1)) k ∙ capped_more (weighed (λ t. 1) [] s.stage.state.tasks) ∙ ap more_tasks s.tasks_are

    turned : Turned s.stage current above cells output tasks
    turned =
        record {
          stage = went.stage;
          runs = went.runs;
          run_before = s.run;
          run = runs_on s.run went.runs;
          cells_are = cells_after_turn;
          output_is = output_after_turn;
          at_before = s.at_;
          own = went.own ∙ ap (λ (v : ℕ). Some (after_answer v (whole_task current))) answers_same;
          path = s.path;
          same = above_next P s.stage went.stage went.runs;
          waiting = s.waiting;
          active = went.active ∙ ap (λ (v : ℕ). active_after P (whole_task current) s.stage.active v (act_now P current)) answers_same;
          made = went.made;
          plain_tasks = plain_count;
          grown_tasks = grown_count;
        }

  reversed : (rest : List (Body S)) (b : Body S) → reverse (rest ++ b ∷ []) ≡ b ∷ reverse rest
  reversed rest b = reverse-append rest (b ∷ [])

  module _ (current : Body S) (above : List (Body S)) (cells output : List ℕ) (tasks : ℕ) (s : Stands P main first current above cells output tasks) (g : IsHalt (act_now P current) → ⊥) where
    after : Body S
    after = answered (found_by (act_now P current) cells) current

    -- The body goes on.
    pub goes_on : ((o : Order S) → act_now P current ≢ Created o false) → is_ended P (answered (found_by (act_now P current) cells) current) ≡ false
        → Goes P main first s.stage (answered (found_by (act_now P current) cells) current) above (direct_cells (act_now P current) cells) (printed_after (act_now P current) output) tasks
    goes_on n alive =
        let r = turned current above cells output tasks s g in
        let e : r.stage.active ≡ s.stage.active = r.active ∙ active_stay P (whole_task current) s.stage.active (found_by (act_now P current) cells) n alive in
        let next : Stands P main first (answered (found_by (act_now P current) cells) current) above (direct_cells (act_now P current) cells) (printed_after (act_now P current) output) tasks = record {
          stage = r.stage;
          run = r.run;
          cells_are = r.cells_are;
          output_is = r.output_is;
          tasks_are = r.plain_tasks n;
          path = e ∙ r.path;
          at_ = subst (λ (q : List ℕ). At r.stage.state q (whole_task (answered (found_by (act_now P current) cells) current))) (sym e) r.own;
          alive = alive;
          waiting = subst (λ (q : List ℕ). AreWaiting P r.stage.state (reverse above) q) (sym e) (waits_stay s.stage r.stage r.same (reverse above) s.stage.active whole r.waiting);
        } in
        record { stands = next; runs = r.runs }

    -- The body has ended, and its creator goes on.
    pub goes_up : (creator : Body S) (rest : List (Body S)) → ((o : Order S) → act_now P current ≢ Created o false) → is_ended P (answered (found_by (act_now P current) cells) current) ≡ true → above ≡ rest ++ creator ∷ []
        → Goes P main first s.stage creator rest (direct_cells (act_now P current) cells) (printed_after (act_now P current) output) tasks
    goes_up creator rest n ended e = go (turned current above cells output tasks s g)
      where
        go : Turned s.stage current above cells output tasks → Goes P main first s.stage creator rest (direct_cells (act_now P current) cells) (printed_after (act_now P current) output) tasks
        go r = up (subst (λ (bs : List (Body S)). AreWaiting P s.stage.state bs s.stage.active) (ap (λ (bs : List (Body S)). reverse bs) e ∙ reversed rest creator) r.waiting)
          where
            up : AreWaiting P s.stage.state (creator ∷ reverse rest) s.stage.active → Goes P main first s.stage creator rest (direct_cells (act_now P current) cells) (printed_after (act_now P current) output) tasks
            up (k, p, at_, alive, w) =
                let a : r.stage.active ≡ creator.start.path = r.active ∙ active_up P (whole_task current) s.stage.active (found_by (act_now P current) cells) n ended ∙ ap path_above p in
                let t : IsSuffix (k ∷ creator.start.path) s.stage.active = subst (λ (q : List ℕ). IsSuffix q s.stage.active) p whole in
                let next : Stands P main first creator rest (direct_cells (act_now P current) cells) (printed_after (act_now P current) output) tasks = record {
                  stage = r.stage;
                  run = r.run;
                  cells_are = r.cells_are;
                  output_is = r.output_is;
                  tasks_are = r.plain_tasks n;
                  path = a;
                  at_ = subst (λ (q : List ℕ). At r.stage.state q (whole_task creator)) (sym a) (r.same creator.start.path k (whole_task creator) t at_);
                  alive = alive;
                  waiting = subst (λ (q : List ℕ). AreWaiting P r.stage.state (reverse rest) q) (sym a) (waits_stay s.stage r.stage r.same (reverse rest) creator.start.path (shorter t) w);
                } in
                record { stands = next; runs = r.runs }

    -- Main has ended.
    pub ends_all : ((o : Order S) → act_now P current ≢ Created o false) → is_ended P (answered (found_by (act_now P current) cells) current) ≡ true → above ≡ []
        → Ends P main first s.stage (direct_cells (act_now P current) cells) (printed_after (act_now P current) output) tasks
    ends_all n ended e =
        let r = turned current above cells output tasks s g in
        let m : s.stage.active ≡ [] = subst (λ (bs : List (Body S)). AreWaiting P s.stage.state bs s.stage.active) (ap (λ (bs : List (Body S)). reverse bs) e) r.waiting in
        let a : r.stage.active ≡ [] = r.active ∙ active_up P (whole_task current) s.stage.active (found_by (act_now P current) cells) n ended ∙ ap path_above m in
        let over : act_now P (answered (found_by (act_now P current) cells) current) ≡ Over = over_stops P current.start (found_by (act_now P current) cells ∷ current.found) ended in
        let end : IsAtEnd P r.stage = record {
          task = whole_task (answered (found_by (act_now P current) cells) current);
          at_ = subst (λ (q : List ℕ). At r.stage.state q (whole_task (answered (found_by (act_now P current) cells) current))) (m ∙ sym a) r.own;
          stops = subst IsHalt (sym over) tt;
        } in
        record { stage = r.stage; run = r.run; runs = r.runs; at_main = a; end = end; over = over; cells_are = r.cells_are; output_is = r.output_is; tasks_are = r.plain_tasks n }

    -- The body creates a task, which runs.
    pub goes_down : Setting main first → (o : Order S) → act_now P current ≡ Created o false
        → Goes P main first s.stage (new_task P current o).body (above ++ answered (found_by (act_now P current) cells) current ∷ []) (direct_cells (act_now P current) cells) (printed_after (act_now P current) output) (more_tasks tasks)
    goes_down setting o a =
        let r = turned current above cells output tasks s g in
        let b = answered (found_by (act_now P current) cells) current in
        let d : r.stage.active ≡ created_now P current ∷ s.stage.active = r.active ∙ active_down P (whole_task current) s.stage.active (found_by (act_now P current) cells) o a in
        let at_ : At r.stage.state r.stage.active (new_task P current o) = subst (λ (q : List ℕ). At r.stage.state q (new_task P current o)) (sym d) (r.made o a) in
        let alive : is_ended P b ≡ false = created_alive (whole_task current) (found_by (act_now P current) cells) o a in
        let w : AreWaiting P r.stage.state (reverse above) b.start.path = subst (λ (q : List ℕ). AreWaiting P r.stage.state (reverse above) q) r.path (waits_stay s.stage r.stage r.same (reverse above) s.stage.active whole r.waiting) in
        let own : At r.stage.state b.start.path (whole_task b) = subst (λ (q : List ℕ). At r.stage.state q (whole_task b)) r.path r.own in
        let wait : AreWaiting P r.stage.state (b ∷ reverse above) r.stage.active = (created_now P current, d ∙ ap (λ (q : List ℕ). created_now P current ∷ q) r.path, own, alive, w) in
        let below : Stands P main first (new_task P current o).body (above ++ answered (found_by (act_now P current) cells) current ∷ []) (direct_cells (act_now P current) cells) (printed_after (act_now P current) output) (more_tasks tasks) = record {
          stage = r.stage;
          run = r.run;
          cells_are = r.cells_are;
          output_is = r.output_is;
          tasks_are = r.grown_tasks o a setting;
          path = sym (path_found r.stage.state.tasks r.stage.active (new_task P current o) at_);
          at_ = at_;
          alive = begun_alive (new_task P current o).body.start;
          waiting = subst (λ (bs : List (Body S)). AreWaiting P r.stage.state bs r.stage.active) (sym (reversed above b)) wait;
        } in
        record { stands = below; runs = r.runs }

  -- What the run gives at its end.
  pub ended_outcome : (z : Running S) (cells output : List ℕ) (tasks : ℕ) → Ends P main first z cells output tasks
      → (entries : ℕ) × IsOutcome P main first (record { answer = answers.Done output cells; tasks = tasks; entries = entries })
  ended_outcome z cells output tasks e =
      (entries_in e.stage.state, subst (λ (x : Outcome). IsOutcome P main first x) (λ i. record { answer = answers.Done (e.output_is i) (e.cells_are i); tasks = e.tasks_are i; entries = entries_in e.stage.state }) (ends e.run e.end e.over))

  -- The body stands before a fault.
  pub stops : (current : Body S) (above : List (Body S)) (cells output : List ℕ) (tasks : ℕ) (kind : FaultKind) (line : ℕ) (key : List ℕ) → Stands P main first current above cells output tasks → act_now P current ≡ Fault kind line key
      → (entries : ℕ) × IsOutcome P main first (record { answer = answers.Fault kind line output; tasks = tasks; entries = entries })
  stops current above cells output tasks kind line key s a =
      let end : IsAtEnd P s.stage = record { task = whole_task current; at_ = s.at_; stops = subst IsHalt (sym a) tt } in
      (entries_in s.stage.state, subst (λ (x : Outcome). IsOutcome P main first x) (λ i. record { answer = answers.Fault kind line (s.output_is i); tasks = s.tasks_are i; entries = entries_in s.stage.state }) (fails s.run end a))

-- What is left to do for the body that runs and for those that wait falls with each turn.
module _ {S : Type 0} {P : Program S} (lively : IsLively P) where
  pub goes_less : (current : Body S) (v : ℕ) → (IsHalt (act_now P current) → ⊥) → ((o : Order S) → act_now P current ≢ Created o false) → potential lively (answered v current) < potential lively current
  goes_less current v g n = body_falls P lively (whole_task current) v g n

  pub creates_less : (current : Body S) (v : ℕ) (o : Order S) → act_now P current ≡ Created o false → potential lively (answered v current) + potential lively (new_task P current o).body < potential lively current
  creates_less current v o a = creation_falls P lively (whole_task current) v o a
