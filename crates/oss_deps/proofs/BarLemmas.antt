-- What stands in the way by the places of a list does so by what was opened; and so does the first child that is not done.
use Rattle.std.proofs.Common.{◌≡◌, ℕ, ◌<◌, ◌≤◌, refl, sym, ap, subst, ◌∙◌, List, ◌⊎◌, inl, inr, Bool, true, false, Option, Some, None, arith}
use Rattle.std.proofs.lemmas.Option.{slice_get_within}
use Rattle.std.specs.Prelude.{slice_get}
use Rattle.oss_syntax.specs.declared.access.Mode.{Mode}
use Rattle.oss_model.specs.Forest.{IsDone}
use Rattle.oss_model.specs.Matching.{Matches, above}
use Rattle.oss_ranges.specs.declared.piece.Piece.{Piece}
use Rattle.oss_deps.specs.declared.opened.Open.{Open}
use Rattle.oss_deps.specs.declared.frame.Frame.{Frame}
use Rattle.oss_deps.specs.declared.frame.Mark.{Mark}
use Rattle.oss_deps.specs.declared.column.Column.{Column}
use Rattle.oss_deps.specs.declared.want.Want.{Want}
use Rattle.oss_deps.specs.declared.want.Want.TheVariants.{ToRead, ToWrite, ToJoin}
use Rattle.oss_deps.specs.Opens.{AreOpens, IsEarlier, mode_at, mode_in, opened_forest}
use Rattle.oss_deps.specs.Kept.{given_at, given_by}
use Rattle.oss_deps.specs.Places.{closed_at, first_mark, mode_at_place, place_forest, AreLinked, AreMarked, IsFirst, IsFirstOf}
use Rattle.oss_deps.specs.Wants.{IsBar, IsBarOf, bars_above, bars_here, may_pass, want_above}
use Rattle.oss_deps.specs.Columns.{AreColumns, AreShown, IsColumn, IsFrameOf, IsNumber, IsNumberOf, IsPlaceOf, IsPlain, IsTaskAt}
use Rattle.oss_deps.specs.Met.{IsBarred, IsBefore, stands_above, stands_here}
use Rattle.oss_deps.specs.Hindrances.{HasUndoneChild}
use Rattle.oss_deps.proofs.Basics.{bools, clash, same_at, some_none, value_within}
use Rattle.oss_deps.proofs.DoneLemmas.{below_within, done_closed}
use Rattle.oss_deps.proofs.OpenLemmas.{get_in, mode_is, precedes_in}
use Rattle.oss_deps.proofs.MatchLemmas.{IsNode, flags, matching, mode_same, one_task, opened}
use Rattle.oss_deps.proofs.StretchLemmas.{agrees, node_of, right_at, task_at}

-- what stands in the way of a read or a write is not done, and is of a mode that may not be passed
plain_stops : (want : Want) → IsPlain want → (m : Mode) (closed : Bool) → may_pass want m closed ≡ false → (closed ≡ false) × (may_pass want m false ≡ false)
plain_stops ToWrite plain m closed h = (h, refl)
plain_stops ToRead plain m true h = absurd cc
plain_stops ToRead plain m false h = (refl, h)
plain_stops (ToJoin op) plain m closed h = absurd plain

plain_above : (want : Want) → IsPlain want → (m : Mode) → want_above want m ≡ want
plain_above ToWrite plain m = refl
plain_above ToRead plain m = refl
plain_above (ToJoin op) plain m = absurd plain

module _ (opens : List Open) (c : ℕ) (frames : List Frame) (are : AreOpens opens) (linked : AreLinked frames) (shown : AreShown opens c frames) (given : ℕ → ℕ → Bool) (marks : List Mark) (marked : AreMarked frames marks None)
    (tells : (t : ℕ) → given t c ≡ given_by frames marks t) where
  abbrev pairs : Matches (place_forest frames marks) (opened_forest opens given c) (IsNode frames)
  pairs = matching opens c frames are linked shown given marks marked tells

  stops_same : (want : Want) → IsPlain want → (u t w : ℕ) → IsNode frames u t → (e : IsEarlier opens c t w) → may_pass want (mode_at_place frames u) (closed_at marks u) ≡ false → may_pass want (mode_at c e.before) false ≡ false
  stops_same want plain u t w r e stops =
      let m : mode_at_place frames u ≡ mode_at c e.before = mode_same opens c frames are linked shown u t r ∙ ap (λ (x : ℕ). mode_in opens c x) (sym e.number) ∙ mode_is c are.ordered e.before (precedes_in e.order) in
      subst (λ (x : Mode). may_pass want x false ≡ false) m (plain_stops want plain (mode_at_place frames u) (closed_at marks u) stops).1

  stands_before : {u v : ℕ} {want : Want} → IsBar frames marks u want v → IsPlain want → (t w : ℕ) → IsNode frames u t → IsNode frames v w → IsBefore opens c want t w
  stands_before {u = u} (bars_here {want = want} {v = v} b) plain t w r s =
      let e = (pairs.earlier u v t w r s).0 b.ahead.sibling in
      stands_here e (stops_same want plain u t w r e b.stops)
  stands_before {u = u} (bars_above {want = want} {p = p} {v = v} below n bar) plain t w r s =
      let q = pairs.forth v p w s (above (n, below)) in
      let same = plain_above want plain (mode_at_place frames p) in
      stands_above ((pairs.child p v q.0 w q.1 s).0 (n, below)) (subst (λ (x : Want). IsBefore opens c x t q.0) same (stands_before bar (subst IsPlain (sym same) plain) t q.0 r q.1))

  bar_node : {u v : ℕ} {want : Want} → IsBar frames marks u want v → IsPlain want → (u ≡ 0 → ⊥) × (closed_at marks u ≡ false)
  bar_node {u = u} (bars_here {want = want} b) plain = (b.ahead.sibling.before.not_main, (plain_stops want plain (mode_at_place frames u) (closed_at marks u) b.stops).0)
  bar_node (bars_above {want = want} {p = p} below n bar) plain = bar_node bar (subst IsPlain (sym (plain_above want plain (mode_at_place frames p))) plain)

  -- an access that is not closed is not done
  not_done : (u t : ℕ) → IsNode frames u t → closed_at marks u ≡ false → IsDone (opened_forest opens given c) t → ⊥
  not_done u t r e d =
      let within = below_within frames r.frame.up u (record { frame = r.frame; is = r.is; not_main = r.not_main; up_is = refl }) in
      clash (closed_at marks u) (done_closed frames marks linked marked u within ((flags opens c frames are linked shown given marks marked tells u t r).done.1 d)) e

  barred_by : (want : Want) → IsPlain want → (v w : ℕ) → IsNode frames v w → (t : ℕ) → IsBarOf frames marks want v t → IsBarred opens given c want t w
  barred_by want plain v w s t b =
      let k = bar_node b.bar plain in
      let r : IsNode frames b.place t = record { not_main = k.0; frame = b.frame; is = b.is; task = b.task } in
      record { opened = opened opens c frames are linked shown b.place t r; undone = not_done b.place t r k.1; before = stands_before b.bar plain t w r s }

module _ (opens : List Open) (pieces : List (Piece ℕ)) (columns : List Column) (are : AreOpens opens) (cols : AreColumns opens pieces columns) (i : ℕ) (column : Column) (is : slice_get columns i ≡ Some column) (c : ℕ) (lo : column.lo ≤ c) (hi : c < column.hi) where
  right : IsColumn opens c column
  right = right_at opens pieces columns are cols i column is c lo hi

  tells_here : (t : ℕ) → given_at pieces columns t c ≡ given_by column.frames.items column.marks.items t
  tells_here t = agrees opens pieces columns are cols i column c is lo hi t

  pub barred_here : (n : ℕ) (o : Open) → IsNumber opens n o → (k : ℕ) → IsPlaceOf column.frames.items n k → (want : Want) → IsPlain want → (t : ℕ) → IsBarOf column.frames.items column.marks.items want k t → IsBarred opens (given_at pieces columns) c want t o.task
  barred_here n o number k p want plain t b =
      barred_by opens c column.frames.items are right.linked right.shown (given_at pieces columns) column.marks.items right.marked tells_here want plain k o.task
      (node_of opens c column.frames.items right.linked right.shown n o number k p) t b

  pub child_here : (n t : ℕ) → IsNumberOf opens n t → (k : ℕ) → IsPlaceOf column.frames.items n k → (u : ℕ) → IsFirstOf column.frames.items column.marks.items k u → (from before : ℕ) → from ≤ c → c < before → HasUndoneChild opens (given_at pieces columns) t from before u
  child_here n t number k p u f from before l h =
      record {
        cell = c;
        from = l;
        before = h;
        entry = child.entry;
        listed = get_in opens child.is.0 child.entry child.is.2;
        number = child.task ∙ node.task;
        parent = one_task opens c column.frames.items are right.linked right.shown k child.entry.parent t (subst (λ (j : ℕ). IsTaskAt column.frames.items j child.entry.parent) up child.parent) (task_at opens pieces columns are cols i column is c lo hi n t number k p);
        named = child.named;
        undone = not_done opens c column.frames.items are right.linked right.shown (given_at pieces columns) column.marks.items right.marked tells_here f.place u node (open_still (bools (closed_at column.marks.items f.place)));
      }
    where
      mark : (m : Mark) × (slice_get column.marks.items k ≡ Some m)
      mark = value_within column.marks.items k (omega (arith, slice_get_within column.frames.items k p.0 p.1, right.marked.same))

      first : IsFirst column.frames.items column.marks.items None k (Some f.place)
      first = subst (λ (x : Option ℕ). IsFirst column.frames.items column.marks.items None k x) (sym (ap first_mark mark.1) ∙ f.first_is) (right.marked.first k mark.0 mark.1)

      node : IsNode column.frames.items f.place u
      node = record { not_main = first.0.not_main; frame = f.frame; is = f.is; task = f.task }

      child : IsFrameOf opens c column.frames.items f.frame
      child = right.shown.frame f.place f.frame f.is first.0.not_main

      up : f.frame.up ≡ k
      up = ap (λ (x : Frame). x.up) (same_at f.is first.0.is) ∙ first.0.up_is

      open_still : (closed_at column.marks.items f.place ≡ true) ⊎ (closed_at column.marks.items f.place ≡ false) → closed_at column.marks.items f.place ≡ false
      open_still (inl e) = absurd (some_none (sym (first.1 e)))
      open_still (inr e) = e
