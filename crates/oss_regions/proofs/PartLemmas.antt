-- What a fragment of the cells tells of the opened tasks.
use Rattle.std.proofs.Common.{◌≡◌, ℕ, ◌<◌, ◌≤◌, refl, sym, subst, ap, ◌∙◌, ◌⊎◌, inl, inr, Bool, true, Some, ◌↔◌, arith, length}
use Rattle.std.specs.Prelude.{IsTrue, slice_get}
use Rattle.oss_syntax.specs.declared.access.Mode.{Mode}
use Rattle.oss_syntax.specs.declared.access.Mode.TheVariants.{Fold}
use Rattle.oss_syntax.specs.declared.access.Op.{Op}
use Rattle.oss_model.specs.Forest.{IsJoinSatisfied}
use Rattle.oss_deps.specs.declared.opened.Open.{Open}
use Rattle.oss_deps.specs.Columns.{IsNumber, IsNumberOf}
use Rattle.oss_deps.specs.Opens.{AreChildrenDone, Asks, HasOpened, mode_in, opened_forest}
use Rattle.oss_deps.specs.Hindrances.{HasUndoneChild, Hinders}
use Rattle.oss_deps.proofs.Basics.{compared}
use Rattle.oss_access_lists.specs.Flags.{AreAtRest}
use Rattle.oss_access_lists.specs.Tables.{marks_at, wires_of}
use Rattle.oss_fragments.specs.declared.fragment.Fragment.{Fragment}
use Rattle.oss_fragments.specs.Here.{Here, bare}
use Rattle.oss_fragments.specs.Kept.{here_at}
use Rattle.oss_fragments.specs.Visits.{IsPartOf}
use Rattle.oss_links.specs.Numbers.{task_numbered}
use Rattle.oss_links.specs.Readings.{TellOfTask, is_let, is_list_done}
use Rattle.oss_retire.specs.Claims.{all_marks}
use Rattle.oss_retire.specs.Tables.{IsCellLeft, given_left}
use Rattle.oss_regions.specs.Asked.{IsNumberInTheWay, IsNumberUndone, IsSatisfied}
use Rattle.oss_regions.specs.Kept.{AreRight, AreSatisfiedTo, Kept, given_at}
use Rattle.oss_regions.proofs.AskLemmas.{all_satisfied, childless_here, children_here, gone_here, hinders_here, joins_here, let_here, satisfied_here, undone_here, undone_named, way_named}

-- what is so of what is kept inside
pub right_of : {view seen : Kept} {capacity : ℕ} → view ≡ seen → AreRight view.opens capacity view.cells view.reserved → AreRight seen.opens capacity seen.cells seen.reserved
right_of {capacity = capacity} e right = subst (λ (k : Kept). AreRight k.opens capacity k.cells k.reserved) e right

pub part_of : {view seen : Kept} {cell : ℕ} {part : Fragment} → view ≡ seen → IsPartOf view.cells cell part → IsPartOf seen.cells cell part
part_of {cell = cell} {part = part} e is = subst (λ (k : Kept). IsPartOf k.cells cell part) e is

pub none_of : {view seen : Kept} → view ≡ seen → ((c : ℕ) → here_at view.cells c ≡ bare) → (c : ℕ) → here_at seen.cells c ≡ bare
none_of e none c = sym (ap (λ (k : Kept). here_at k.cells c) e) ∙ none c

module _ (kept : Kept) {capacity : ℕ} (right : AreRight kept.opens capacity kept.cells kept.reserved) (cell : ℕ) (part : Fragment) (is : IsPartOf kept.cells cell part) where
  table : (c : ℕ) → part.lo ≤ c → c < part.hi → IsCellLeft kept.opens c part.line.hangs part.tasks.items
  table c l h = subst (λ (y : Here). IsCellLeft kept.opens c y.hangs y.tasks) (is.alike c l h) (right.held c)

  told : (c : ℕ) → part.lo ≤ c → c < part.hi → (t : ℕ) → given_at kept.opens kept.cells t c ≡ given_left kept.opens c part.line.hangs part.tasks.items t
  told c l h t = ap (λ (y : Here). given_left kept.opens c y.hangs y.tasks t) (is.alike c l h)

  -- a task that was opened with a cell of the fragment and has no access there
  gone_at : (n : ℕ) (o : Open) → IsNumber kept.opens n o → ((v : ℕ) → slice_get part.tasks.items v ≡ Some n → ⊥) → (c : ℕ) → part.lo ≤ c → c < part.hi → HasOpened kept.opens c o.task → TellOfTask kept.opens (given_at kept.opens kept.cells) c o.task all_marks
  gone_at n o number none c l k opened =
      gone_here kept.opens right.opens_are.ordered (given_at kept.opens kept.cells) c part.line.hangs part.tasks.items (table c l k) (told c l k) right.opens_are.covered n o number opened none

  -- waits for nothing more
  pub gone_goes : (n : ℕ) (o : Open) → IsNumber kept.opens n o → ((v : ℕ) → slice_get part.tasks.items v ≡ Some n → ⊥) → (mode : Mode) (lo hi : ℕ) → ((c : ℕ) → lo ≤ c → c < hi → HasOpened kept.opens c o.task)
      → AreSatisfiedTo kept mode o lo hi cell → AreSatisfiedTo kept mode o lo hi part.hi
  gone_goes n o number none mode lo hi opened f c l k m = go (compared c cell)
    where
      go : (c < cell) ⊎ ((c ≡ cell) ⊎ (cell < c)) → IsSatisfied (opened_forest kept.opens (given_at kept.opens kept.cells) c) mode o.task
      go (inl x) = f c l k x
      go (inr (inl x)) = let b = is.begins in all_satisfied kept.opens (given_at kept.opens kept.cells) c o.task mode (gone_at n o number none c (omega (arith, b, x)) m (opened c l k))
      go (inr (inr x)) = let b = is.begins in all_satisfied kept.opens (given_at kept.opens kept.cells) c o.task mode (gone_at n o number none c (omega (arith, b, x)) m (opened c l k))

  -- and is joined at once
  pub gone_joins : (n : ℕ) (o : Open) → IsNumber kept.opens n o → ((v : ℕ) → slice_get part.tasks.items v ≡ Some n → ⊥) → HasOpened kept.opens cell o.task → (result : Bool) → result ≡ true → (op : Op) → mode_in kept.opens cell o.task ≡ Fold op
      → (IsTrue result ↔ IsJoinSatisfied (opened_forest kept.opens (given_at kept.opens kept.cells) cell) op o.task)
  gone_joins n o number none opened result e op m = (λ h. ((gone_at n o number none cell is.begins is.ends opened).joins op m).0 refl, λ s. e)

  module _ (rest : AreAtRest (wires_of part.line.hangs) (marks_at part.line.stand)) (n v : ℕ) (at : slice_get part.tasks.items v ≡ Some n) where
    module _ (o : Open) (number : IsNumber kept.opens n o) where
      -- the open that stands in the way is one of the list
      pub bar_named : (mode : Mode) (bar : ℕ) → IsNumberInTheWay part.line.hangs part.line.stand part.tasks.items mode v bar → (bar ≡ 0 → ⊥) × (bar ≤ length kept.opens)
      bar_named mode bar way =
          way_named kept.opens right.opens_are.ordered (given_at kept.opens kept.cells) cell part.line.hangs part.tasks.items (table cell is.begins is.ends) (told cell is.begins is.ends) part.line.stand rest mode v n o number at bar way

      -- and hinders the task
      pub bar_hinders : (mode : Mode) (bar s : ℕ) → Asks kept.opens o.task cell mode → IsNumberInTheWay part.line.hangs part.line.stand part.tasks.items mode v bar → task_numbered kept.opens bar ≡ Some s
          → Hinders kept.opens (given_at kept.opens kept.cells) o.task s
      bar_hinders mode bar s asks way task =
          hinders_here kept.opens right.opens_are.ordered (given_at kept.opens kept.cells) cell part.line.hangs part.tasks.items (table cell is.begins is.ends) (told cell is.begins is.ends) part.line.stand rest mode v n o number at asks bar s way task

      satisfied_at : (mode : Mode) → is_let mode (marks_at part.line.stand v) ≡ true → (c : ℕ) → part.lo ≤ c → c < part.hi → IsSatisfied (opened_forest kept.opens (given_at kept.opens kept.cells) c) mode o.task
      satisfied_at mode h c l k =
          satisfied_here kept.opens right.opens_are.ordered (given_at kept.opens kept.cells) c part.line.hangs part.tasks.items (table c l k) (told c l k) part.line.stand rest mode v n o number at h

      pub let_at : (mode : Mode) → IsSatisfied (opened_forest kept.opens (given_at kept.opens kept.cells) cell) mode o.task → is_let mode (marks_at part.line.stand v) ≡ true
      let_at mode h =
          let_here kept.opens right.opens_are.ordered (given_at kept.opens kept.cells) cell part.line.hangs part.tasks.items (table cell is.begins is.ends) (told cell is.begins is.ends) part.line.stand rest mode v n o number at h

      -- the flags tell of each cell of the fragment
      pub bar_goes : (mode : Mode) (lo hi : ℕ) → is_let mode (marks_at part.line.stand v) ≡ true → AreSatisfiedTo kept mode o lo hi cell → AreSatisfiedTo kept mode o lo hi part.hi
      bar_goes mode lo hi h f c l k m = go (compared c cell)
        where
          go : (c < cell) ⊎ ((c ≡ cell) ⊎ (cell < c)) → IsSatisfied (opened_forest kept.opens (given_at kept.opens kept.cells) c) mode o.task
          go (inl x) = f c l k x
          go (inr (inl x)) = let b = is.begins in satisfied_at mode h c (omega (arith, b, x)) m
          go (inr (inr x)) = let b = is.begins in satisfied_at mode h c (omega (arith, b, x)) m

      pub joins_exact : (result : Bool) (op : Op) → result ≡ (marks_at part.line.stand v).joins → mode_in kept.opens cell o.task ≡ Fold op → (IsTrue result ↔ IsJoinSatisfied (opened_forest kept.opens (given_at kept.opens kept.cells) cell) op o.task)
      joins_exact result op e m =
          let j = joins_here kept.opens right.opens_are.ordered (given_at kept.opens kept.cells) cell part.line.hangs part.tasks.items (table cell is.begins is.ends) (told cell is.begins is.ends) part.line.stand rest op v n o number at m in
          (λ h. j.0 (sym e ∙ h), λ s. e ∙ j.1 s)

    module _ (t : ℕ) (number : IsNumberOf kept.opens n t) where
      pub child_named : (m : ℕ) → IsNumberUndone part.line.hangs part.line.stand part.tasks.items v m → (m ≡ 0 → ⊥) × (m ≤ length kept.opens)
      child_named m undone =
          undone_named kept.opens right.opens_are.ordered (given_at kept.opens kept.cells) cell part.line.hangs part.tasks.items (table cell is.begins is.ends) (told cell is.begins is.ends) part.line.stand rest v m undone

      pub child_undone : (m s lo hi : ℕ) → IsNumberUndone part.line.hangs part.line.stand part.tasks.items v m → task_numbered kept.opens m ≡ Some s → lo ≤ cell → cell < hi → HasUndoneChild kept.opens (given_at kept.opens kept.cells) t lo hi s
      child_undone m s lo hi undone task from before =
          undone_here kept.opens right.opens_are.ordered (given_at kept.opens kept.cells) cell part.line.hangs part.tasks.items (table cell is.begins is.ends) (told cell is.begins is.ends) part.line.stand rest t n v number at m s lo hi undone task from before

      pub children_at : is_list_done (wires_of part.line.hangs) (marks_at part.line.stand) v ≡ true → (c : ℕ) → part.lo ≤ c → c < part.hi → AreChildrenDone kept.opens (given_at kept.opens kept.cells) t c
      children_at h c l k =
          (children_here kept.opens right.opens_are.ordered (given_at kept.opens kept.cells) c part.line.hangs part.tasks.items (table c l k) (told c l k) part.line.stand rest t n v number at).0 h

  -- of a task without an access there
  pub childless_at : (n t : ℕ) → IsNumberOf kept.opens n t → ((v : ℕ) → slice_get part.tasks.items v ≡ Some n → ⊥) → (c : ℕ) → part.lo ≤ c → c < part.hi → AreChildrenDone kept.opens (given_at kept.opens kept.cells) t c
  childless_at n t number none c l k =
      childless_here kept.opens right.opens_are.ordered (given_at kept.opens kept.cells) c part.line.hangs part.tasks.items (table c l k) (told c l k) right.opens_are.covered t n number none
