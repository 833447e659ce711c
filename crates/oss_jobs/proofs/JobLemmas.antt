-- A job at its start, after an act, and after a new child.
use Rattle.std.proofs.Common.{◌≡◌, ◌≤◌, ◌<◌, ℕ, ◌+◌, arith, refl, sym, subst, ap, ◌∙◌, false, List, [], ◌∷◌, ◌++◌, Option, Some, None}
use Rattle.oss_syntax.specs.declared.access.Access.{Access}
use Rattle.oss_model.specs.Bodies.{Act as MeantAct, Body as Meant, Start, stage_act}
use Rattle.oss_model.specs.Context.{right_of}
use Rattle.oss_model.specs.Rights.{right_from}
use Rattle.oss_judge.specs.Joined.{IsRising, held_right}
use Rattle.oss_code.specs.declared.code.CodeParts.{CodeParts}
use Rattle.oss_machine.specs.Frames.{CodeScript}
use Rattle.oss_machine.specs.Machines.{asks}
use Rattle.oss_body.specs.declared.body.Body.{Body}
use Rattle.oss_body.specs.Acts.{act_seen}
use Rattle.oss_body.specs.Relation.{IsBody, is_over, pending_of}
use Rattle.oss_tree.specs.declared.output.Print.{Print}
use Rattle.oss_segment.specs.Made.{printed_by}
use Rattle.oss_segment.specs.Segments.{IsKeyed, with_print}
use Rattle.oss_segment.proofs.MadeLemmas.{prints_more}
use Rattle.oss_ranges.specs.Cells.{value_at}
use Rattle.oss_roles.specs.Alone.{with_answer}
use Rattle.oss_roles.specs.Roles.{Site, on}
use Rattle.oss_jobs.specs.declared.job.Job.{Job}
use Rattle.oss_jobs.specs.Entries.{cells_in, entered, entry_told, moved}
use Rattle.oss_jobs.specs.Jobs.{HasCells, IsJob, SameBeside, SameLasts, body_of, cells_of, entry_at, last_child_of, noted, prints_of, printed_since, task_of}
use Rattle.oss_jobs.proofs.EntryLemmas.{cells_are, entries_are, entries_move, lasts_are}

-- A job that has just been made: this is what the functions tell of it.
pub record Began (body : Body) (xs : List Access) (j : Job) : Type 0 where
  pub rising : IsRising xs
  pub few : cells_in xs ≤ 1048576
  pub body_is : body_of j ≡ body
  pub task_is : task_of j ≡ 0
  pub cells : cells_of j ≡ cells_in xs
  pub prints : prints_of j ≡ []
  pub entries : (c : ℕ) → value_at j.entries.pieces c ≡ entered 1 xs c None
  pub lasts : (c : ℕ) → value_at j.lasts.pieces c ≡ None
  pub last_child : last_child_of j ≡ None

pub begun : (body : Body) (xs : List Access) (j : Job) → Began body xs j → (code : CodeParts) (start : Start CodeScript) (found : List ℕ) → IsBody code start found body
    → ((c : ℕ) → right_from false xs c ≡ held_right (right_of start.context c)) → IsJob code found j 0 (record { start = start; found = found }) (λ y. None)
begun body xs j b code start found is same = record {
  task = b.task_is;
  body = subst (λ (x : Body). IsBody code start found x) (sym b.body_is) is;
  since = [];
  found = refl;
  prints = b.prints;
  cells = subst (λ (n : ℕ). HasCells n (right_of start.context)) (sym b.cells) (cells_are xs (right_of start.context) b.rising same);
  numbers = let few = b.few in let e = b.cells in omega (arith, few, e);
  entries = λ c.
      ap (λ (t : ℕ). moved t (entry_told (value_at j.entries.pieces c) c)) b.task_is
      ∙ (ap (λ (v : Option ℕ). moved 0 (entry_told v c)) (b.entries c)
      ∙ entries_are xs (right_of start.context) c b.rising (let few = b.few in omega (arith, few)) same);
  lasts = λ c. ap (λ (v : Option ℕ). entry_told v c) (b.lasts c);
  last_child = b.last_child;
}

-- A job with another number: this is what the function tells of it.
pub record Renumbered (t : ℕ) (old new : Job) : Type 0 where
  pub few : t + cells_of old < 16777216
  pub task : task_of new ≡ t
  pub cells : cells_of new ≡ cells_of old
  pub body : body_of new ≡ body_of old
  pub prints : prints_of new ≡ prints_of old
  pub entries : (c : ℕ) → value_at new.entries.pieces c ≡ value_at old.entries.pieces c
  pub last : SameLasts old new

pub numbered : (u : ℕ) (old new : Job) → Renumbered u old new → (code : CodeParts) (before : List ℕ) (t : ℕ) (b : Meant CodeScript) (last : Site → Option ℕ)
    → IsJob code before old t b last → IsJob code before new u b last
numbered u old new n code before t b last is = record {
  task = n.task;
  body = subst (λ (x : Body). IsBody code b.start b.found x) (sym n.body) is.body;
  since = is.since;
  found = is.found;
  prints = n.prints ∙ is.prints;
  cells = subst (λ (m : ℕ). HasCells m (right_of b.start.context)) (sym n.cells) is.cells;
  numbers = let few = n.few in let e = n.cells in omega (arith, few, e);
  entries = λ c.
      ap (λ (m : ℕ). moved m (entry_told (value_at new.entries.pieces c) c)) n.task
      ∙ (ap (λ (v : Option ℕ). moved u (entry_told v c)) (n.entries c)
      ∙ entries_move (right_of b.start.context) t u (cells_of old) c (entry_told (value_at old.entries.pieces c) c) (is.cells.few c) is.numbers n.few
      (ap (λ (m : ℕ). moved m (entry_told (value_at old.entries.pieces c) c)) (sym is.task) ∙ is.entries c));
  lasts = λ c. n.last.lasts c ∙ is.lasts c;
  last_child = n.last.last_child ∙ is.last_child;
}

-- the job after an act that is told so
pub went_on : (code : CodeParts) (old new : Job) (v : ℕ) → is_over (body_of old) ≡ false
    → ((start : Start CodeScript) (found : List ℕ) → IsBody code start found (body_of old) → IsBody code start (v ∷ found) (body_of new))
    → prints_of new ≡ with_print (pending_of (body_of old)) (prints_of old) → IsKeyed (pending_of (body_of old)) → SameBeside old new
    → (before : List ℕ) (t : ℕ) (b : Meant CodeScript) (last : Site → Option ℕ) → IsJob code before old t b last → IsJob code before new t (with_answer v b) last
went_on code old new v running next prints keyed same before t b last is = record {
  task = same.task ∙ is.task;
  body = next b.start b.found is.body;
  since = v ∷ is.since;
  found = ap (λ (l : List ℕ). v ∷ l) is.found;
  prints =
      prints
      ∙ (prints_more (pending_of (body_of old)) (prints_of old) keyed
      ∙ (ap (λ (l : List Print). l ++ printed_by (act_seen (pending_of (body_of old)))) is.prints
      ∙ ap (λ (a : MeantAct CodeScript). printed_since (asks code) b.start before is.since ++ printed_by a) (is.body.act running ∙ ap (λ (l : List ℕ). stage_act (asks code) b.start l) is.found)));
  cells = subst (λ (m : ℕ). HasCells m (right_of b.start.context)) (sym same.cells) is.cells;
  numbers = subst (λ (m : ℕ). t + m < 16777216) (sym same.cells) is.numbers;
  entries = λ c. same.entries c ∙ is.entries c;
  lasts = λ c. same.last.lasts c ∙ is.lasts c;
  last_child = same.last.last_child ∙ is.last_child;
}

-- A job in which a new child was noted: this is what the functions tell of it.
pub record Notes (xs : List Access) (child : ℕ) (old new : Job) : Type 0 where
  pub rising : IsRising xs
  pub few : child + cells_in xs < 16777216
  pub task : task_of new ≡ task_of old
  pub cells : cells_of new ≡ cells_of old
  pub body : body_of new ≡ body_of old
  pub prints : prints_of new ≡ prints_of old
  pub entries : (c : ℕ) → entry_at new c ≡ entry_at old c
  pub lasts : (c : ℕ) → value_at new.lasts.pieces c ≡ entered (child + 1) xs c (value_at old.lasts.pieces c)
  pub last_child : last_child_of new ≡ Some child

pub noted_is : (xs : List Access) (child : ℕ) (old new : Job) → Notes xs child old new
    → (code : CodeParts) (before : List ℕ) (t : ℕ) (b : Meant CodeScript) (last : Site → Option ℕ) → IsJob code before old t b last
    → IsJob code before new t b (noted child (right_from false xs) last)
noted_is xs child old new n code before t b last is = record {
  task = n.task ∙ is.task;
  body = subst (λ (x : Body). IsBody code b.start b.found x) (sym n.body) is.body;
  since = is.since;
  found = is.found;
  prints = n.prints ∙ is.prints;
  cells = subst (λ (m : ℕ). HasCells m (right_of b.start.context)) (sym n.cells) is.cells;
  numbers = subst (λ (m : ℕ). t + m < 16777216) (sym n.cells) is.numbers;
  entries = λ c. n.entries c ∙ is.entries c;
  lasts = λ c.
      ap (λ (v : Option ℕ). entry_told v c) (n.lasts c)
      ∙ (lasts_are xs child c (value_at old.lasts.pieces c) n.rising n.few
      ∙ ap (λ (x : Option ℕ). noted child (right_from false xs) (λ y. x) (on c)) (is.lasts c));
  last_child = n.last_child;
}
