-- What the table of a cell tells of the opened tasks.
use Rattle.std.proofs.Common.{◌≡◌, ℕ, suc, ◌<◌, ◌≤◌, sym, ap, ◌∙◌, inl, inr, Bool, true, List, Some, ◌↔◌, add-one, length, arith, refl}
use Rattle.std.specs.Prelude.{option_and_then, slice_get}
use Rattle.oss_syntax.specs.declared.access.Mode.{Mode}
use Rattle.oss_syntax.specs.declared.access.Mode.TheVariants.{Read, Write, Fold}
use Rattle.oss_syntax.specs.declared.access.Op.{Op}
use Rattle.oss_model.specs.Forest.{IsJoinSatisfied}
use Rattle.oss_deps.specs.declared.opened.Open.{Open}
use Rattle.oss_deps.specs.Opens.{AreChildrenDone, AreCovered, AreOrdered, Asks, HasOpened, mode_in, opened_forest}
use Rattle.oss_deps.specs.Columns.{IsNumber, IsNumberOf}
use Rattle.oss_deps.specs.Hindrances.{HasUndoneChild, Hinders}
use Rattle.oss_deps.proofs.Basics.{some_is}
use Rattle.oss_deps.proofs.OpenLemmas.{get_in, not_main}
use Rattle.oss_access_lists.specs.declared.hang.Hang.{Hang}
use Rattle.oss_access_lists.specs.declared.marks.Marks.{Marks}
use Rattle.oss_access_lists.specs.Flags.{AreAtRest}
use Rattle.oss_access_lists.specs.Tables.{marks_at, wires_of}
use Rattle.oss_links.specs.Held.{IsAccessOf, IsAccessOrMain}
use Rattle.oss_links.specs.Numbers.{task_by, task_in, task_numbered}
use Rattle.oss_links.specs.Readings.{TellOfTask, is_let, is_list_done}
use Rattle.oss_links.proofs.NumberLemmas.{entry_of_task, number_of_task, task_of_entry}
use Rattle.oss_retire.specs.Claims.{all_marks}
use Rattle.oss_retire.specs.Tables.{IsCellLeft, given_left}
use Rattle.oss_retire.proofs.CallLemmas.{left_opened_within}
use Rattle.oss_retire.proofs.ToldLemmas.{gone_tells, left_childless, left_children, left_hinders, left_hung, left_tells, left_undone, left_way}
use Rattle.oss_regions.specs.Asked.{IsNumberInTheWay, IsNumberUndone, IsSatisfied}

-- The task of an open, by its number.
pub numbered_task : (opens : List Open) (n : ℕ) (o : Open) → IsNumber opens n o → task_numbered opens n ≡ Some o.task
numbered_task opens n o (i, k, at) = ap (task_numbered opens) (k ∙ add-one i) ∙ ap task_in at

-- Where all flags stand, what is waited for has come.
pub all_satisfied : (opens : List Open) (given : ℕ → ℕ → Bool) (c t : ℕ) (mode : Mode) → TellOfTask opens given c t all_marks → IsSatisfied (opened_forest opens given c) mode t
all_satisfied opens given c t Read tell = tell.reads.0 refl
all_satisfied opens given c t Write tell = tell.writes.0 refl
all_satisfied opens given c t (Fold op) tell = tt

module _ (opens : List Open) (ord : AreOrdered opens) (given : ℕ → ℕ → Bool) (c : ℕ) (hangs : List Hang) (numbers : List ℕ) (is : IsCellLeft opens c hangs numbers) (told : (t : ℕ) → given t c ≡ given_left opens c hangs numbers t) where
  task_at : (v n : ℕ) (o : Open) → IsNumber opens n o → slice_get numbers v ≡ Some n → task_by opens numbers v ≡ Some o.task
  task_at v n o (i, k, at) e = task_of_entry opens numbers v i o at (e ∙ ap (λ (x : ℕ). Some x) (k ∙ add-one i))

  number_at : (v n : ℕ) (o : Open) → IsNumber opens n o → task_by opens numbers v ≡ Some o.task → slice_get numbers v ≡ Some n
  number_at v n o (i, k, at) e = entry_of_task opens numbers v i o ord at e ∙ ap (λ (x : ℕ). Some x) (sym (k ∙ add-one i))

  -- a task that was opened with the cell and has no access in the table: all flags of its access stand
  pub gone_here : AreCovered opens → (n : ℕ) (o : Open) → IsNumber opens n o → HasOpened opens c o.task → ((v : ℕ) → slice_get numbers v ≡ Some n → ⊥) → TellOfTask opens given c o.task all_marks
  gone_here covered n o number opened none = gone_tells opens ord given c hangs numbers is told covered o.task opened (λ v e. none v (number_at v n o number e))

  -- the children of a task without an access there
  pub childless_here : AreCovered opens → (t n : ℕ) → IsNumberOf opens n t → ((p : ℕ) → slice_get numbers p ≡ Some n → ⊥) → AreChildrenDone opens given t c
  childless_here covered t n (inl z) none = absurd (none 0 (is.held.main ∙ ap (λ (x : ℕ). Some x) (sym z.0)))
  childless_here covered t n (inr (o, number, h)) none =
      left_childless opens ord given c hangs numbers is told covered t (λ z. not_main ord o (get_in opens number.0 o number.2) (h ∙ z)) (λ v e. none v (number_at v n o number (e ∙ ap (λ (x : ℕ). Some x) (sym h))))

  -- the open of an access that is a task's
  named : (place m t : ℕ) → slice_get numbers place ≡ Some m → task_by opens numbers place ≡ Some t → m ≡ 0 → ⊥
  named place m t e r z =
      let k = number_of_task opens numbers place t r in
      let h : m ≡ suc k.0 = some_is (sym e ∙ k.1) in
      absurd (omega (arith, h, z))

  creator_at : (t n p : ℕ) → IsNumberOf opens n t → slice_get numbers p ≡ Some n → IsAccessOrMain (IsAccessOf (task_by opens numbers)) t p
  creator_at t n p (inl z) e = inl (z.1, is.held.main_alone p (e ∙ ap (λ (x : ℕ). Some x) z.0))
  creator_at t n p (inr (o, number, h)) e = inr (task_at p n o number e ∙ ap (λ (x : ℕ). Some x) h)

  module _ (stand : List Marks) (rest : AreAtRest (wires_of hangs) (marks_at stand)) where
    tells : (v n : ℕ) (o : Open) → IsNumber opens n o → slice_get numbers v ≡ Some n → TellOfTask opens given c o.task (marks_at stand v)
    tells v n o number e = left_tells opens ord given c hangs numbers is told stand rest v o.task (task_at v n o number e)

    -- the flag stands
    pub satisfied_here : (mode : Mode) (v n : ℕ) (o : Open) → IsNumber opens n o → slice_get numbers v ≡ Some n → is_let mode (marks_at stand v) ≡ true → IsSatisfied (opened_forest opens given c) mode o.task
    satisfied_here Read v n o number e h = (tells v n o number e).reads.0 h
    satisfied_here Write v n o number e h = (tells v n o number e).writes.0 h
    satisfied_here (Fold op) v n o number e h = tt

    -- and only then
    pub let_here : (mode : Mode) (v n : ℕ) (o : Open) → IsNumber opens n o → slice_get numbers v ≡ Some n → IsSatisfied (opened_forest opens given c) mode o.task → is_let mode (marks_at stand v) ≡ true
    let_here Read v n o number e h = (tells v n o number e).reads.1 h
    let_here Write v n o number e h = (tells v n o number e).writes.1 h
    let_here (Fold op) v n o number e h = refl

    -- or another access stands in the way
    pub hinders_here : (mode : Mode) (v n : ℕ) (o : Open) → IsNumber opens n o → slice_get numbers v ≡ Some n → Asks opens o.task c mode → (m s : ℕ) → IsNumberInTheWay hangs stand numbers mode v m → task_numbered opens m ≡ Some s → Hinders opens given o.task s
    hinders_here mode v n o number e asks m s way task =
        left_hinders opens ord given c hangs numbers is told stand rest mode o.task s v way.place (task_at v n o number e) (ap (option_and_then (task_numbered opens)) way.is ∙ task) asks way.way

    -- a reduction may be joined where its flag stands
    pub joins_here : (op : Op) (v n : ℕ) (o : Open) → IsNumber opens n o → slice_get numbers v ≡ Some n → mode_in opens c o.task ≡ Fold op → ((marks_at stand v).joins ≡ true ↔ IsJoinSatisfied (opened_forest opens given c) op o.task)
    joins_here op v n o number e m = (tells v n o number e).joins op m

    -- the children of a task, by the list of its access
    pub children_here : (t n p : ℕ) → IsNumberOf opens n t → slice_get numbers p ≡ Some n → is_list_done (wires_of hangs) (marks_at stand) p ≡ true ↔ AreChildrenDone opens given t c
    children_here t n p number e = left_children opens ord given c hangs numbers is told stand rest t p (creator_at t n p number e)

    pub undone_here : (t n p : ℕ) → IsNumberOf opens n t → slice_get numbers p ≡ Some n → (m s lo hi : ℕ) → IsNumberUndone hangs stand numbers p m → task_numbered opens m ≡ Some s → lo ≤ c → c < hi → HasUndoneChild opens given t lo hi s
    undone_here t n p number e m s lo hi undone task from before =
        left_undone opens ord given c hangs numbers is told stand rest t s p undone.place lo hi (creator_at t n p number e) (ap (option_and_then (task_numbered opens)) undone.is ∙ task) undone.undone.comes undone.undone.undone from before

    pub way_named : (mode : Mode) (v n : ℕ) (o : Open) → IsNumber opens n o → slice_get numbers v ≡ Some n → (m : ℕ) → IsNumberInTheWay hangs stand numbers mode v m → (m ≡ 0 → ⊥) × (m ≤ length opens)
    way_named mode v n o number e m way =
        let t = left_way opens ord given c hangs numbers is told stand rest mode o.task v way.place (task_at v n o number e) way.way in
        (named way.place m t.0 way.is t.1, left_opened_within opens c hangs numbers is way.place m way.is)

    pub undone_named : (p m : ℕ) → IsNumberUndone hangs stand numbers p m → (m ≡ 0 → ⊥) × (m ≤ length opens)
    undone_named p m undone =
        let t = left_hung opens ord given c hangs numbers is told p undone.place undone.undone.comes.below in
        (named undone.place m t.0 undone.is t.1, left_opened_within opens c hangs numbers is undone.place m undone.is)
