-- What the loads of the sequential run found.
use Rattle.oss_model.specs.Context.{right_of}
use Rattle.oss_syntax.specs.declared.access.Mode.{Mode}
use Rattle.oss_syntax.specs.declared.access.Op.{Op}
use Rattle.oss_model.specs.Agreement.{MainStarts, InMemory}
use Rattle.std.proofs.Common.{◌≡◌, ◌≢◌, ℕ, ◌<◌, ◌⊎◌, inl, inr, refl, sym, subst, ap, ◌∙◌, List, [], ◌∷◌, ◌++◌, length, arith, Bool, true, false, get_or, get_or-set_same, get_or-set_other, length-set}
use Rattle.std.specs.Prelude.{slice_index}
use Rattle.oss_model.specs.Order.{IsSuffix, whole, longer, IsIn}
use Rattle.oss_model.specs.Rights.{Holds, Touch, Reads}
use Rattle.oss_model.specs.Bodies.{Program, Act, Start, stage_act, Touches}
use Rattle.oss_model.specs.Bodies.Act.{Load, Store, Folded}
use Rattle.oss_model.specs.Machine.{Task, State, At}
use Rattle.oss_model.specs.History.{IsMade}
use Rattle.oss_model.specs.Moves.{act_now, after_answer, found_by, combine}
use Rattle.oss_model.specs.Memory.{Event, Happened, Changes, store, folded, value_after, replay}
use Rattle.oss_model.specs.Sequence.{Running, direct_cells, RunsOn, Sequential, opens, runs_on}
use Rattle.oss_model.proofs.Places.{IsEarlierPlace, IsPlaced}
use Rattle.oss_model.proofs.StageLemmas.{stage_touch}
use Rattle.oss_model.proofs.OrderLemmas.{suffix_trans}
use Rattle.oss_model.proofs.TreeLemmas.{at_same, starts_well, path_found, AccessOf, access_chain}
use Rattle.oss_model.proofs.GrowLemmas.{Grown}
use Rattle.oss_model.proofs.MoveLemmas.{step_grown}
use Rattle.oss_model.proofs.SortLemmas.{event_not, in_append, in_left, in_last, sorted_append, replay-append}
use Rattle.oss_model.proofs.MemoryLemmas.{changing}
use Rattle.oss_model.proofs.SequenceLemmas.{Stands, stands, stage_of, event_back, old_ahead, opening_at}

-- a change that the run has made
pub record RunChange {S : Type 0} (P : Program S) (z : Running S) (c : ℕ) (e : Event S) : Type 0 where
  pub slot : Bool
  pub changes : Changes (stage_act P e.start e.past) c slot
  pub happened : Happened z.state e

pub record RunValue {S : Type 0} (P : Program S) (z : Running S) (cells : List ℕ) (c : ℕ) : Type 0 where
  pub list : List (Event S)
  pub sorted : IsPlaced P list
  pub only : (e : Event S) → IsIn e list → RunChange P z c e
  pub all : (e : Event S) → RunChange P z c e → IsIn e list
  pub value : slice_index z.state.cells c ≡ replay P list (slice_index cells c)

-- what a load found is the value of the changes before it
pub record LoadFound {S : Type 0} (P : Program S) (z : Running S) (cells : List ℕ) (c : ℕ) (e : Event S) : Type 0 where
  pub list : List (Event S)
  pub sorted : IsPlaced P list
  pub only : (g : Event S) → IsIn g list → RunChange P z c g × IsEarlierPlace P g e
  pub all : (g : Event S) → RunChange P z c g → IsEarlierPlace P g e → IsIn g list
  pub value : e.answer ≡ replay P list (slice_index cells c)

pub record Recalls {S : Type 0} (P : Program S) (cells : List ℕ) (z : Running S) : Type 0 where
  pub size : length z.state.cells ≡ length cells
  pub value : (c : ℕ) → c < length cells → RunValue P z cells c
  pub loads : (e : Event S) (c : ℕ) → Happened z.state e → stage_act P e.start e.past ≡ Load c → LoadFound P z cells c e
  pub plain : (e : Event S) → Happened z.state e → ((c : ℕ) → stage_act P e.start e.past ≢ Load c) → e.answer ≡ 0

pub suffix_nil : (p : List ℕ) → IsSuffix [] p
suffix_nil [] = whole
suffix_nil (k ∷ p) = longer (suffix_nil p)

-- a right to a cell is to a cell that is there
pub right_in_memory : {S : Type 0} (P : Program S) (main : Start S) (s : State S) (cells : List ℕ) (c : ℕ) (p : List ℕ) (m : Mode) → IsMade P main s → InMemory main cells → AccessOf s c p m → c < length cells
right_in_memory {S = S} P main s cells c p m made mem a =
    let k = access_chain P main s c [] m made (suffix_nil p) a in
    let e = at_same s [] k.access.task made.main_task k.access.at_ made.main_at in
    mem c k.mode k.access.strong (subst (λ (x : Start S). (right_of x.context) c ≡ Holds k.mode k.access.strong) made.main_start (subst (λ (x : Task S). (right_of x.body.start.context) c ≡ Holds k.mode k.access.strong) e k.access.right))

pub touch_in_memory : {S : Type 0} (P : Program S) (main : Start S) (s : State S) (cells : List ℕ) (ms : MainStarts main) (p : List ℕ) (t : Task S) (past : List ℕ) (c : ℕ) (u : Touch) (slot : Bool) → IsMade P main s → InMemory main cells → At s p t → Touches (stage_act P t.body.start past) c u slot → c < length cells
touch_in_memory P main s cells ms p t past c u slot made mem h k =
    let w = (starts_well P main s ms made p t h).0 in
    let r = stage_touch P t.body.start past c u slot w k in
    right_in_memory P main s cells c p r.mode made mem (record { task = t; at_ = h; strong = true; right = r.holds })

-- the effect of an act of the run on a cell
pub RunEffect : {S : Type 0} → Act S → ℕ → List ℕ → Type 0
RunEffect a c cells = ((slot : Bool) × (Changes a c slot) × (slice_index (direct_cells a cells) c ≡ value_after a (slice_index cells c))) ⊎ (((slot : Bool) → Changes a c slot → ⊥) × (slice_index (direct_cells a cells) c ≡ slice_index cells c))

which_cell : (x y : ℕ) → (x ≡ y) ⊎ (x ≢ y)
which_cell x y = grind arith

run_stored : (S : Type 0) (d v c : ℕ) (cells : List ℕ) → c < length cells → (d ≡ c) ⊎ (d ≢ c) → RunEffect {S = S} (Store d v) c cells
unfolding RunEffect
run_stored S d v c cells l (inl e) = inl (false, subst (λ (z : ℕ). Changes {S = S} (Store d v) z false) e store, rw e (get_or-set_same cells c v 0 l))
run_stored S d v c cells l (inr ne) = inr ((λ b h. ne (changing h).0), get_or-set_other cells d c v 0 (λ e. ne (sym e)))

run_folded : (S : Type 0) (d : ℕ) (op : Op) (v : ℕ) (b : Bool) (c : ℕ) (cells : List ℕ) → c < length cells → (d ≡ c) ⊎ (d ≢ c) → RunEffect {S = S} (Folded d op v b) c cells
unfolding RunEffect
run_folded S d op v b c cells l (inl e) = inl (b, subst (λ (z : ℕ). Changes {S = S} (Folded d op v b) z b) e folded, rw e (get_or-set_same cells c (combine op (get_or cells c 0) v) 0 l))
run_folded S d op v b c cells l (inr ne) = inr ((λ b' h. ne (changing h).0), get_or-set_other cells d c (combine op (get_or cells d 0) v) 0 (λ e. ne (sym e)))

run_effect : {S : Type 0} (a : Act S) (c : ℕ) (cells : List ℕ) → c < length cells → RunEffect a c cells
unfolding RunEffect
run_effect {S = S} (Store d v) c cells l = run_stored S d v c cells l (which_cell d c)
run_effect {S = S} (Folded d op v b) c cells l = run_folded S d op v b c cells l (which_cell d c)
run_effect _ c cells l = inr ((λ b h. changing h), refl)

direct_length : {S : Type 0} (a : Act S) (cells : List ℕ) → length (direct_cells a cells) ≡ length cells
direct_length (Store d v) cells = length-set cells d v
direct_length (Folded d op v b) cells = length-set cells d (combine op (get_or cells d 0) v)
direct_length _ cells = refl

pub no_load : {S : Type 0} (a : Act S) (cells : List ℕ) → ((c : ℕ) → a ≢ Load c) → found_by a cells ≡ 0
no_load (Load c) cells h = absurd (h c refl)
no_load _ cells h = refl

module _ {S : Type 0} (P : Program S) (main : Start S) (cells : List ℕ) (z y : Running S) (ms : MainStarts main) (mem : InMemory main cells) (st : Stands P main z) (r : RunsOn P z y) (re : Recalls P cells z) where
  abbrev pub ev : Event S
  ev = record { start = r.task.body.start; past = r.task.body.found; answer = found_by (act_now P r.task.body) z.state.cells }

  run_grown : Grown P z.state y.state
  run_grown = step_grown P main z.state y.state z.active r.task (found_by (act_now P r.task.body) z.state.cells) st.made r.at_ r.goes r.tasks

  pub happened_forth : (e : Event S) → Happened z.state e → Happened y.state e
  happened_forth e h =
      let g = run_grown.keeps e.start.path h.task h.at_ in
      record { task = g.0; at_ = g.1; start = g.2.start ∙ h.start; found = suffix_trans h.found g.2.found }

  pub happened_new : Happened y.state ev
  happened_new =
      let q = path_found z.state.tasks z.active r.task r.at_ in
      record { task = after_answer (found_by (act_now P r.task.body) z.state.cells) r.task; at_ = subst (λ (x : List ℕ). At y.state x (after_answer (found_by (act_now P r.task.body) z.state.cells) r.task)) (sym q) r.tasks.own; start = refl; found = whole }

  change_forth : (c : ℕ) (e : Event S) → RunChange P z c e → RunChange P y c e
  change_forth c e k = record { slot = k.slot; changes = k.changes; happened = happened_forth e k.happened }

  change_new : (c : ℕ) (slot : Bool) → Changes (act_now P r.task.body) c slot → RunChange P y c ev
  change_new c slot k = record { slot = slot; changes = k; happened = happened_new }

  change_back : (c : ℕ) (e : Event S) → RunChange P y c e → RunChange P z c e ⊎ (e ≡ ev)
  change_back c e k = go (event_back P main z y ms st r e k.happened)
    where
      go : Happened z.state e ⊎ (e ≡ ev) → RunChange P z c e ⊎ (e ≡ ev)
      go (inl h) = inl (record { slot = k.slot; changes = k.changes; happened = h })
      go (inr q) = inr q

  changes_at : (c : ℕ) (e : Event S) → RunChange P y c e → e ≡ ev → (slot : Bool) × Changes (act_now P r.task.body) c slot
  changes_at c e k q = (k.slot, subst (λ (x : Event S). Changes (stage_act P x.start x.past) c k.slot) q k.changes)

  pub before_new : (e : Event S) → Happened z.state e → IsEarlierPlace P e ev
  before_new e h = go (old_ahead P main z y ms st r e h)
    where
      go : IsEarlierPlace P e (stage_of r.task.body) → IsEarlierPlace P e ev
      go (inl k) = inl k
      go (inr k) = inr k

  recalls_value : (c : ℕ) → c < length cells → RunValue P y cells c
  unfolding RunEffect
  recalls_value c l = go (re.value c l) (run_effect (act_now P r.task.body) c z.state.cells (let k = re.size in omega arith))
    where
      here_value : slice_index y.state.cells c ≡ slice_index (direct_cells (act_now P r.task.body) z.state.cells) c
      here_value = ap (λ (x : List ℕ). slice_index x c) r.cells

      go : RunValue P z cells c → RunEffect (act_now P r.task.body) c z.state.cells → RunValue P y cells c
      go v (inl k) =
          record {
            list = v.list ++ ev ∷ [];
            sorted = sorted_append P ev v.list v.sorted (λ g i. before_new g (v.only g i).happened);
            only = λ e i. only e (in_append v.list i);
            all = λ e d. all e (change_back c e d);
            value = here_value ∙ (k.2 ∙ (ap (λ (x : ℕ). value_after (act_now P r.task.body) x) v.value ∙ sym (replay-append P ev v.list (slice_index cells c))));
          }
        where
          only : (e : Event S) → IsIn e v.list ⊎ (e ≡ ev) → RunChange P y c e
          only e (inl i) = change_forth c e (v.only e i)
          only e (inr q) = subst (λ (x : Event S). RunChange P y c x) (sym q) (change_new c k.0 k.1)

          all : (e : Event S) → RunChange P z c e ⊎ (e ≡ ev) → IsIn e (v.list ++ ev ∷ [])
          all e (inl d) = in_left ev v.list (v.all e d)
          all e (inr q) = subst (λ (x : Event S). IsIn x (v.list ++ ev ∷ [])) (sym q) (in_last v.list)
      go v (inr k) =
          record {
            list = v.list;
            sorted = v.sorted;
            only = λ e i. change_forth c e (v.only e i);
            all = λ e d. all e d (change_back c e d);
            value = here_value ∙ (k.1 ∙ v.value);
          }
        where
          all : (e : Event S) → RunChange P y c e → RunChange P z c e ⊎ (e ≡ ev) → IsIn e v.list
          all e d (inl x) = v.all e x
          all e d (inr q) = let w = changes_at c e d q in absurd (k.0 w.0 w.1)

  load_old : (e : Event S) (c : ℕ) → Happened z.state e → LoadFound P z cells c e → LoadFound P y cells c e
  load_old e c h f =
      record {
        list = f.list;
        sorted = f.sorted;
        only = λ g i. let k = f.only g i in (change_forth c g k.0, k.1);
        all = λ g d l. all g l (change_back c g d);
        value = f.value;
      }
    where
      all : (g : Event S) → IsEarlierPlace P g e → RunChange P z c g ⊎ (g ≡ ev) → IsIn g f.list
      all g l (inl d) = f.all g d l
      all g l (inr q) = absurd (event_not P e ev (before_new e h) (subst (λ (x : Event S). IsEarlierPlace P x e) q l))

  load_new : (c : ℕ) → act_now P r.task.body ≡ Load c → LoadFound P y cells c ev
  load_new c a = go (re.value c (touch_in_memory P main z.state cells ms z.active r.task r.task.body.found c Reads false st.made mem r.at_ (subst (λ (x : Act S). Touches x c Reads false) (sym a) Touches.load)))
    where
      go : RunValue P z cells c → LoadFound P y cells c ev
      go v =
          record {
            list = v.list;
            sorted = v.sorted;
            only = λ g i. (change_forth c g (v.only g i), before_new g (v.only g i).happened);
            all = λ g d l. all g l (change_back c g d);
            value = ap (λ (x : Act S). found_by x z.state.cells) a ∙ v.value;
          }
        where
          all : (g : Event S) → IsEarlierPlace P g ev → RunChange P z c g ⊎ (g ≡ ev) → IsIn g v.list
          all g l (inl d) = v.all g d
          all g l (inr q) = let l' = subst (λ (x : Event S). IsEarlierPlace P x ev) q l in absurd (event_not P ev ev l' l')

  pub recalls_on : Recalls P cells y
  recalls_on =
      record {
        size = ap (λ (x : List ℕ). length x) r.cells ∙ (direct_length (act_now P r.task.body) z.state.cells ∙ re.size);
        value = λ c l. recalls_value c l;
        loads = λ e c h a. load e c a (event_back P main z y ms st r e h);
        plain = λ e h n. plain e n (event_back P main z y ms st r e h);
      }
    where
      load : (e : Event S) (c : ℕ) → stage_act P e.start e.past ≡ Load c → Happened z.state e ⊎ (e ≡ ev) → LoadFound P y cells c e
      load e c a (inl h) = load_old e c h (re.loads e c h a)
      load e c a (inr q) = subst (λ (x : Event S). LoadFound P y cells c x) (sym q) (load_new c (subst (λ (x : Event S). stage_act P x.start x.past ≡ Load c) q a))

      plain : (e : Event S) → ((c : ℕ) → stage_act P e.start e.past ≢ Load c) → Happened z.state e ⊎ (e ≡ ev) → e.answer ≡ 0
      plain e n (inl h) = re.plain e h n
      plain e n (inr q) = ap (λ (x : Event S). x.answer) q ∙ no_load (act_now P r.task.body) z.state.cells (λ c a. n c (subst (λ (x : Event S). stage_act P x.start x.past ≡ Load c) (sym q) a))

-- the sequential run recalls
pub recalls : {S : Type 0} (P : Program S) (main : Start S) (cells : List ℕ) → MainStarts main → InMemory main cells → (z : Running S) → Sequential P main cells z → Recalls P cells z
recalls {S = S} P main cells ms mem z opens =
    record {
      size = refl;
      value = λ c l. record { list = []; sorted = tt; only = λ e i. elim i [ ]; all = λ e d. absurd (nothing e d.happened); value = refl };
      loads = λ e c h a. absurd (nothing e h);
      plain = λ e h n. absurd (nothing e h);
    }
  where
    nothing : (e : Event S) → Happened (record { cells = cells; tasks = record { body = record { start = main; found = [] }; given = [] } ∷ [] }) e → ⊥
    nothing e g = none (subst (λ (x : Task S). IsSuffix (e.answer ∷ e.past) x.body.found) (opening_at main cells e.start.path g.task ms.path g.at_).1 g.found)
      where
        none : IsSuffix (e.answer ∷ e.past) [] → ⊥
        none h = elim h [ ]
recalls P main cells ms mem z (runs_on {z = w} run step) = recalls_on P main cells w z ms mem (stands P main cells ms w run) step (recalls P main cells ms mem w run)
