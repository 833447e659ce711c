-- The stretch of a cell stands for what was opened and given up there.
use Rattle.std.proofs.Common.{◌≡◌, ℕ, ◌+◌, ◌<◌, ◌≤◌, refl, sym, ap, subst, ◌∙◌, List, ◌⊎◌, inl, inr, Bool, true, Option, Some, None, arith, ◌↔◌}
use Rattle.std.proofs.lemmas.Option.{slice_get_within}
use Rattle.std.specs.Prelude.{slice_get, option_and_then}
use Rattle.oss_model.specs.Order.{IsIn}
use Rattle.oss_model.specs.Forest.{IsDone}
use Rattle.oss_ranges.specs.declared.piece.Piece.{Piece}
use Rattle.oss_deps.specs.declared.opened.Open.{Open}
use Rattle.oss_deps.specs.declared.frame.Frame.{Frame}
use Rattle.oss_deps.specs.declared.frame.Mark.{Mark}
use Rattle.oss_deps.specs.declared.column.Column.{Column}
use Rattle.oss_deps.specs.declared.want.Want.{Want}
use Rattle.oss_deps.specs.Opens.{names, mode_at, AreChildrenDone, opened_forest, AreOpens}
use Rattle.oss_deps.specs.Kept.{given_by, given_in, column_at, given_at}
use Rattle.oss_deps.specs.Places.{first_at, first_mark, mode_at_place, mode_of_frame, IsBelow, IsFirst, place_forest, AreLinked, AreModesCovered}
use Rattle.oss_deps.specs.Wants.{IsSatisfied}
use Rattle.oss_deps.specs.Columns.{IsNumber, IsNumberOf, IsPlaceOf, IsTaskAt, IsShown, AreShown, IsColumn, AreColumns}
use Rattle.oss_deps.proofs.Basics.{some_none, same_at, options, value_within, compared}
use Rattle.oss_deps.proofs.DoneLemmas.{closed_done, done_closed, below_within}
use Rattle.oss_deps.proofs.OpenLemmas.{get_in, in_get}
use Rattle.oss_deps.proofs.MatchLemmas.{IsNode, modes_covered, satisfied_same, flags, one_task, one_up}

-- one number is one entry
pub one_number : (opens : List Open) (n : ℕ) (o q : Open) → IsNumber opens n o → IsNumber opens n q → o ≡ q
one_number opens n o q a b = let e : a.0 ≡ b.0 = omega (arith, a.1, b.1) in same_at (subst (λ (j : ℕ). slice_get opens j ≡ Some o) e a.2) b.2

-- a place has a number
place_some : (opens : List Open) (c : ℕ) (frames : List Frame) → AreLinked frames → (n : ℕ) (o : Open) → IsNumber opens n o → (k : ℕ) → IsPlaceOf frames n k → k ≡ 0 → ⊥
place_some opens c frames linked n o is k p z =
    let e = ap (λ (f : Frame). f.number) (same_at (subst (λ (j : ℕ). slice_get frames j ≡ Some p.0) z p.1) linked.main.1) in
    absurd (omega (arith, e, linked.main.2, p.2, is.1))

pub node_of : (opens : List Open) (c : ℕ) (frames : List Frame) → AreLinked frames → AreShown opens c frames → (n : ℕ) (o : Open) → IsNumber opens n o → (k : ℕ) → IsPlaceOf frames n k → IsNode frames k o.task
node_of opens c frames linked shown n o is k p =
    let some = place_some opens c frames linked n o is k p in
    let f = shown.frame k p.0 p.1 some in
    let same = one_number opens n f.entry o (subst (λ (j : ℕ). IsNumber opens j f.entry) p.2 f.is) is in
    record { not_main = some; frame = p.0; is = p.1; task = sym f.task ∙ ap (λ (x : Open). x.task) same }

module _ (opens : List Open) (pieces : List (Piece ℕ)) (columns : List Column) (are : AreOpens opens) (cols : AreColumns opens pieces columns) where
  abbrev pub given : ℕ → ℕ → Bool
  given = given_at pieces columns

  pub column_is : (i : ℕ) (column : Column) (c : ℕ) → slice_get columns i ≡ Some column → column.lo ≤ c → c < column.hi → column_at pieces columns c ≡ Some column
  column_is i column c is lo hi = ap (λ (o : Option ℕ). option_and_then (slice_get columns) o) (cols.stretches.there i column c is lo hi) ∙ is

  pub agrees : (i : ℕ) (column : Column) (c : ℕ) → slice_get columns i ≡ Some column → column.lo ≤ c → c < column.hi → (t : ℕ) → given t c ≡ given_by column.frames.items column.marks.items t
  agrees i column c is lo hi t = ap (λ (o : Option Column). given_in o t) (column_is i column c is lo hi)

  module _ (i : ℕ) (column : Column) (is : slice_get columns i ≡ Some column) where
    abbrev pub frames : List Frame
    frames = column.frames.items

    abbrev pub marks : List Mark
    marks = column.marks.items

    pub right_at : (c : ℕ) → column.lo ≤ c → c < column.hi → IsColumn opens c column
    right_at c lo hi = cols.right i column c is lo hi

    pub first_cell : IsColumn opens column.lo column
    first_cell = right_at column.lo (omega arith) (cols.stretches.some i column is).0

    pub covered_here : AreModesCovered frames
    covered_here = modes_covered opens column.lo frames are first_cell.linked first_cell.shown

    pub exact : (c : ℕ) → column.lo ≤ c → c < column.hi → (n : ℕ) (o : Open) → IsNumber opens n o → (k : ℕ) → IsPlaceOf frames n k → (want : Want)
        → IsSatisfied (place_forest frames marks) want k ↔ IsSatisfied (opened_forest opens given c) want o.task
    exact c lo hi n o number k p want =
        let r = right_at c lo hi in
        satisfied_same opens c frames are r.linked r.shown given marks r.marked (agrees i column c is lo hi) want k o.task (node_of opens c frames r.linked r.shown n o number k p)

    pub shown_here : (c : ℕ) → column.lo ≤ c → c < column.hi → (n : ℕ) (o : Open) → IsNumber opens n o → names c o ≡ true → IsShown frames n
    shown_here c lo hi n o number named = (right_at c lo hi).shown.all o n number named

    -- the mode of an access
    pub mode_here : (c : ℕ) → column.lo ≤ c → c < column.hi → (n : ℕ) (o : Open) → IsNumber opens n o → (k : ℕ) → IsPlaceOf frames n k → mode_at_place frames k ≡ mode_at c o
    mode_here c lo hi n o number k p =
        let r = right_at c lo hi in
        let f = r.shown.frame k p.0 p.1 (place_some opens c frames r.linked n o number k p) in
        let same = one_number opens n f.entry o (subst (λ (j : ℕ). IsNumber opens j f.entry) p.2 f.is) number in
        ap mode_of_frame p.1 ∙ sym f.mode ∙ ap (λ (x : Open). mode_at c x) same

    -- the task whose access stands at a place
    pub task_at : (c : ℕ) → column.lo ≤ c → c < column.hi → (n t : ℕ) → IsNumberOf opens n t → (k : ℕ) → IsPlaceOf frames n k → IsTaskAt frames k t
    task_at c lo hi n t number k p = go number
      where
        r : IsColumn opens c column
        r = right_at c lo hi

        go : IsNumberOf opens n t → IsTaskAt frames k t
        go (inl (z, e)) = (λ h. e, λ some. absurd (omega (arith, (r.linked.rising 0 k r.linked.main.0 p.0 r.linked.main.1 p.1 (positive some)), p.2, z)))
          where
            positive : (k ≡ 0 → ⊥) → 0 < k
            positive some = in_three (compared 0 k)
              where
                in_three : (0 < k) ⊎ ((0 ≡ k) ⊎ (k < 0)) → 0 < k
                in_three (inl l) = l
                in_three (inr (inl e)) = absurd (some (sym e))
                in_three (inr (inr l)) = absurd (omega (arith, l))
        go (inr (o, is_, e)) =
            let node = node_of opens c frames r.linked r.shown n o is_ k p in
            (λ z. absurd (node.not_main z), λ some. (node.frame, node.is, node.task ∙ e))

    -- the children's accesses are done where no first one is left
    pub children_exact : (c : ℕ) → column.lo ≤ c → c < column.hi → (n t : ℕ) → IsNumberOf opens n t → (k : ℕ) → IsPlaceOf frames n k → (first_at marks k ≡ None) ↔ AreChildrenDone opens given t c
    children_exact c lo hi n t number k p = (forth, back)
      where
        r : IsColumn opens c column
        r = right_at c lo hi

        at_ : IsTaskAt frames k t
        at_ = task_at c lo hi n t number k p

        mark : (m : Mark) × (slice_get marks k ≡ Some m)
        mark = value_within marks k (omega (arith, slice_get_within frames k p.0 p.1, r.marked.same))

        -- the place of a child
        child_place : (o : Open) → IsIn o opens → o.parent ≡ t → names c o ≡ true → (l : ℕ) × IsNode frames l o.task × IsBelow frames k l
        child_place o i_ parent named =
            let q = in_get opens i_ in
            let s = r.shown.all o (q.0 + 1) (q.0, refl, q.1) named in
            let f = r.shown.frame s.place s.frame s.is s.not_main in
            let same = one_number opens (q.0 + 1) f.entry o (subst (λ (j : ℕ). IsNumber opens j f.entry) s.number f.is) (q.0, refl, q.1) in
            let up : s.frame.up ≡ k = same_up s.frame.up (subst (λ (x : ℕ). IsTaskAt frames s.frame.up x) (ap (λ (x : Open). x.parent) same ∙ parent) f.parent) in (
              s.place,
              record { not_main = s.not_main; frame = s.frame; is = s.is; task = sym f.task ∙ ap (λ (x : Open). x.task) same },
              record { frame = s.frame; is = s.is; not_main = s.not_main; up_is = up },
            )
          where
            same_up : (j : ℕ) → IsTaskAt frames j t → j ≡ k
            same_up j a = one_up opens c frames are r.linked r.shown j k t a at_

        done_same : (l v : ℕ) → IsNode frames l v → IsDone (place_forest frames marks) l ↔ IsDone (opened_forest opens given c) v
        done_same l v node = (flags opens c frames are r.linked r.shown given marks r.marked (agrees i column c is lo hi) l v node).done

        forth : first_at marks k ≡ None → AreChildrenDone opens given t c
        forth e o i_ parent named =
            let l = child_place o i_ parent named in
            let first : IsFirst frames marks None k None = subst (λ (x : Option ℕ). IsFirst frames marks None k x) (sym (ap first_mark mark.1) ∙ e) (r.marked.first k mark.0 mark.1) in
            (done_same l.0 o.task l.1).0 (closed_done frames marks r.linked r.marked l.0 (first l.0 l.2))

        back : AreChildrenDone opens given t c → first_at marks k ≡ None
        back f = go (options mark.0.first)
          where
            go : (mark.0.first ≡ None) ⊎ ((l : ℕ) × (mark.0.first ≡ Some l)) → first_at marks k ≡ None
            go (inl e) = ap first_mark mark.1 ∙ e
            go (inr (l, e)) =
                let first : IsFirst frames marks None k (Some l) = subst (λ (x : Option ℕ). IsFirst frames marks None k x) e (r.marked.first k mark.0 mark.1) in
                let b = first.0 in
                let child = r.shown.frame l b.frame b.is b.not_main in
                let node : IsNode frames l child.entry.task = record { not_main = b.not_main; frame = b.frame; is = b.is; task = sym child.task } in
                let parent : child.entry.parent ≡ t = one_task opens c frames are r.linked r.shown k child.entry.parent t (subst (λ (j : ℕ). IsTaskAt frames j child.entry.parent) b.up_is child.parent) at_ in
                let listed : IsIn child.entry opens = get_in opens child.is.0 child.entry child.is.2 in
                let done = (done_same l child.entry.task node).1 (f child.entry listed parent child.named) in
                absurd (some_none (sym (first.1 (done_closed frames marks r.linked r.marked l (below_within frames k l b) done))))
