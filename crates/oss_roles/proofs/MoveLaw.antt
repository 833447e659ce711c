-- The moves of the machine that the steps of a field are.
use Rattle.std.proofs.Common.{◌≡◌, ◌≢◌, ◌⊎◌, inl, inr, sym, subst, refl, ◌∙◌, ap, ℕ, true, false, List, [], ◌∷◌, get_or-set_other}
use Rattle.std.specs.Prelude.{slice_index, slice_set, ◌==◌}
use Rattle.std.proofs.lemmas.Bool.Decides.{eqb_tells}
use Rattle.std.proofs.lemmas.List.{set-get_or}
use Rattle.oss_syntax.specs.declared.access.Mode.{Mode}
use Rattle.oss_syntax.specs.declared.access.Mode.TheVariants.{Fold}
use Rattle.oss_syntax.specs.declared.access.Op.{Op}
use Rattle.oss_model.specs.Agreement.{Setting, Agrees}
use Rattle.oss_model.specs.Bodies.{Program, Act, Start, stage_act, Touches, store, folded}
use Rattle.oss_model.specs.Bodies.Act.{Load, Store, Folded, Created, Awaited, Waited, WaitedOn, Ticked, Releases, Printed, Ended, Fault, Over}
use Rattle.oss_model.specs.Context.{right_of}
use Rattle.oss_model.specs.Machine.{Task, State}
use Rattle.oss_model.specs.Moves.{act_now, cells_after, combine, neutral_value, slot_of, after_giving, CanStep, CanLet, LetGo, CanJoin, Joined, joined_cells, Reached, moves, lets, joins}
use Rattle.oss_model.specs.Order.{IsSuffix, whole, longer, there}
use Rattle.oss_model.specs.Rights.{Holds, Touch, Writes, Folds, Conflicts}
use Rattle.oss_model.specs.Sequence.{Running, opens}
use Rattle.oss_model.proofs.AgreementTheorem.{reached_agrees}
use Rattle.oss_model.proofs.Algebra.{fold_none}
use Rattle.oss_model.proofs.Exclusive.{steps_exclude, join_excludes}
use Rattle.oss_model.proofs.MemoryLemmas.{fold_mode}
use Rattle.oss_model.proofs.StageLemmas.{stage_touch, StartsWell}
use Rattle.oss_model.proofs.TreeLemmas.{starts_well}
use Rattle.oss_roles.proofs.Going.{with_task, Went}
use Rattle.oss_roles.proofs.StateLemmas.{turned_by, continues_turned}

module _ {S : Type 0} (P : Program S) (main : Start S) (first : List ℕ) where
  -- a cell is given up
  pub let_once : (s : State S) (p : List ℕ) (c : ℕ) (t : Task S) → Reached P main first s → CanLet P s p c t → Went P main first s p (with_task (after_giving c t) s.cells s) (after_giving c t)
  let_once s p c t r can =
      let turned = turned_by s p t (after_giving c t) s.cells can.at_ refl in
      let n = with_task (after_giving c t) s.cells s in
      let go : LetGo s p c t n = record { cells = refl; tasks = record { own = turned.own; others = turned.others } } in
      record {
        reached = moves r (lets can go);
        continues = continues_turned P s n p t (after_giving c t) can.at_ turned (record { start = refl; found = whole; given = λ d i. there i }) (λ k. k);
        turned = turned;
      }

  -- a slot is joined
  pub join_once : (s : State S) (p : List ℕ) (c : ℕ) (op : Op) (t : Task S) → Reached P main first s → CanJoin P s p c op t
      → Went P main first s p (with_task (after_giving c t) (joined_cells P c op t s.cells) s) (after_giving c t)
  join_once s p c op t r can =
      let cells = joined_cells P c op t s.cells in
      let turned = turned_by s p t (after_giving c t) cells can.at_ refl in
      let n = with_task (after_giving c t) cells s in
      let go : Joined P s p c op t n = record { cells = refl; tasks = record { own = turned.own; others = turned.others } } in
      record {
        reached = moves r (joins can go);
        continues = continues_turned P s n p t (after_giving c t) can.at_ turned (record { start = refl; found = whole; given = λ d i. there i }) (λ k. k);
        turned = turned;
      }

  -- a state that was reached agrees with the beginning of the sequential run
  abbrev pub beginning : Running S
  beginning = record { state = record { cells = first; tasks = record { body = record { start = main; found = [] }; given = [] } ∷ [] }; active = []; printed = [] }

  pub agrees : (s : State S) → Setting main first → Reached P main first s → Agrees P main first beginning s
  agrees s set_ r = reached_agrees P main first beginning set_ opens s r

  -- while a fold into a cell stands next, no act of another task changes the cell
  pub fold_is_alone : (s : State S) (p q : List ℕ) (t u : Task S) (c v : ℕ) (op : Op) → Setting main first → Reached P main first s → p ≢ q → CanStep P s p t → act_now P t.body ≡ Folded c op v false → CanStep P s q u
      → slice_index (cells_after (act_now P u.body) s.cells) c ≡ slice_index s.cells c
  fold_is_alone s p q t u c v op set_ r ne ct act cu = go (act_now P u.body) refl
    where
      touches : Touches (act_now P t.body) c (Folds op) false
      touches = subst (λ (a : Act S). Touches a c (Folds op) false) (sym act) folded

      clash : (b : Touch) → Touches (act_now P u.body) c b false → Conflicts (Folds op) false b false → ⊥
      clash b h k = steps_exclude S P main first beginning s p q t u c (Folds op) b set_ (agrees s set_ r) ne ct cu touches h k

      other : (d w : ℕ) → (((d == c) ≡ true) × (d ≡ c)) ⊎ (((d == c) ≡ false) × (d ≢ c)) → (d ≡ c → ⊥) → slice_index (slice_set s.cells d w) c ≡ slice_index s.cells c
      other d w k apart = get_or-set_other s.cells d c w 0 (λ e. apart (sym e))

      go : (a : Act S) → act_now P u.body ≡ a → slice_index (cells_after a s.cells) c ≡ slice_index s.cells c
      go (Store d w) e = other d w (eqb_tells d c) (λ k. clash Writes (subst (λ (a : Act S). Touches a c Writes false) (sym e) (subst (λ (x : ℕ). Touches {S = S} (Store d w) x Writes false) k store)) tt)
      go (Folded d f w false) e = other d (combine f (slice_index s.cells d) w) (eqb_tells d c) (λ k. clash (Folds f) (subst (λ (a : Act S). Touches a c (Folds f) false) (sym e) (subst (λ (x : ℕ). Touches {S = S} (Folded d f w false) x (Folds f) false) k folded)) tt)
      go (Folded d f w true) e = refl
      go Ticked e = refl
      go (Load d) e = refl
      go (Created o z) e = refl
      go Awaited e = refl
      go Waited e = refl
      go (WaitedOn named) e = refl
      go (Releases cl z) e = refl
      go (Printed key text) e = refl
      go Ended e = refl
      go (Fault kind line key) e = refl
      go Over e = refl

  -- a slot into which a fold went, or one that is as it started
  data SlotView (b : Start S) (c : ℕ) (op : Op) (found : List ℕ) : Type 0 where
    untouched : slot_of P b c op found ≡ neutral_value op → SlotView b c op found
    touched : (past : List ℕ) (answer value : ℕ) → IsSuffix (answer ∷ past) found → stage_act P b past ≡ Folded c op value true → SlotView b c op found

  slot_view : (b : Start S) (c : ℕ) (op : Op) → right_of b.context c ≡ Holds (Fold op) true → StartsWell b.context → (found : List ℕ) → SlotView b c op found
  unfolding slot_of
  slot_view b c op right well [] = untouched refl
  slot_view b c op right well (v ∷ vs) = go (slot_view b c op right well vs) (stage_act P b vs) refl
    where
      go : SlotView b c op vs → (a : Act S) → stage_act P b vs ≡ a → SlotView b c op (v ∷ vs)
      go (touched past answer value h act) a e = touched past answer value (longer h) act
      go (untouched k) (Folded d f w true) e = elim (eqb_tells d c) [
        | inl same ↦
            let act : stage_act P b vs ≡ Folded c f w true = subst (λ (x : ℕ). stage_act P b vs ≡ Folded x f w true) same.1 e in
            let t = stage_touch P b vs c (Folds f) true well (subst (λ (x : Act S). Touches x c (Folds f) true) (sym act) folded) in
            let m = fold_mode t.mode (Folds f) true f t.permits refl refl in
            let f_is : f ≡ op = let z : Holds (Fold f) true ≡ Holds (Fold op) true = sym (t.holds ∙ ap (λ (x : Mode). Holds x true) m) ∙ right in cc in
            touched vs v w whole (subst (λ (x : Op). stage_act P b vs ≡ Folded c x w true) f_is act)
        | inr other ↦ untouched (rw e (rw other.0 k))
      ]
      go (untouched k) (Folded d f w false) e = untouched (rw e k)
      go (untouched k) (Store d w) e = untouched (rw e k)
      go (untouched k) Ticked e = untouched (rw e k)
      go (untouched k) (Load d) e = untouched (rw e k)
      go (untouched k) (Created o z) e = untouched (rw e k)
      go (untouched k) Awaited e = untouched (rw e k)
      go (untouched k) Waited e = untouched (rw e k)
      go (untouched k) (WaitedOn named) e = untouched (rw e k)
      go (untouched k) (Releases cl z) e = untouched (rw e k)
      go (untouched k) (Printed key text) e = untouched (rw e k)
      go (untouched k) Ended e = untouched (rw e k)
      go (untouched k) (Fault kind line key) e = untouched (rw e k)
      go (untouched k) Over e = untouched (rw e k)

  -- nor does a join
  pub join_is_alone : (s : State S) (p q : List ℕ) (t u : Task S) (c d v : ℕ) (op f : Op) → Setting main first → Reached P main first s → p ≢ q → CanStep P s p t → act_now P t.body ≡ Folded c op v false → CanJoin P s q d f u
      → slice_index (joined_cells P d f u s.cells) c ≡ slice_index s.cells c
  join_is_alone s p q t u c d v op f set_ r ne ct act cj = elim (eqb_tells d c) [
    | inl same ↦ at_one same.1 (slot_view u.body.start d f cj.right (starts_well P main s set_.starts (agrees s set_ r).made q u cj.at_).0 u.body.found)
    | inr other ↦ get_or-set_other s.cells d c (combine f (slice_index s.cells d) (slot_of P u.body.start d f u.body.found)) 0 (λ e. other.1 (sym e))
  ]
    where
      touches : Touches (act_now P t.body) c (Folds op) false
      touches = subst (λ (a : Act S). Touches a c (Folds op) false) (sym act) folded

      same_cell : d ≡ c → combine f (slice_index s.cells d) (slot_of P u.body.start d f u.body.found) ≡ slice_index s.cells d → slice_index (joined_cells P d f u s.cells) c ≡ slice_index s.cells c
      same_cell e k = ap (λ (x : ℕ). slice_index (slice_set s.cells d x) c) k ∙ ap (λ (l : List ℕ). slice_index l c) (set-get_or s.cells d 0)

      at_one : d ≡ c → SlotView u.body.start d f u.body.found → slice_index (joined_cells P d f u s.cells) c ≡ slice_index s.cells c
      at_one e (untouched k) = same_cell e (ap (λ (x : ℕ). combine f (slice_index s.cells d) x) k ∙ fold_none f (slice_index s.cells d) ((agrees s set_ r).words d))
      at_one e (touched past answer value h fold) =
          absurd (join_excludes S P main first beginning s p q t u c (Folds op) f past answer value set_ (agrees s set_ r) ne ct touches (subst (λ (x : ℕ). CanJoin P s q x f u) e cj) h (subst (λ (x : ℕ). stage_act P u.body.start past ≡ Folded x f value true) e fold))
