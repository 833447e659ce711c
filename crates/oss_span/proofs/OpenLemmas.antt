-- What is kept of a new task is right, and of its creator still.
use Rattle.std.proofs.Common.{◌≡◌, ◌≢◌, ◌≤◌, ◌<◌, ◌⊎◌, inl, inr, refl, sym, subst, ap, ◌∙◌, ℕ, zero, suc, ◌+◌, ◌-◌, ◌^◌, Bool, true, false, List, [], ◌∷◌, ◌++◌, length, map, Option, Some, None, arith}
use Rattle.std.specs.Prelude.{if◌then◌else◌, ◌||◌, ◌&&◌, not, nat_lt, min, slice_get}
use Rattle.std.proofs.lemmas.Bool.Decides.{nat_tests}
use Rattle.oss_syntax.specs.declared.access.Access.{Access}
use Rattle.oss_syntax.specs.declared.access.Range.{Range}
use Rattle.oss_syntax.specs.declared.access.Op.{Op}
use Rattle.oss_syntax.specs.declared.access.Mode.{Mode}
use Rattle.oss_syntax.specs.declared.access.Mode.TheVariants.{Read, Write, Fold}
use Rattle.oss_ranges.specs.declared.piece.Piece.{Piece}
use Rattle.oss_ranges.specs.Cells.{is_within, value_at}
use Rattle.oss_meaning.specs.Clauses.{waited_for}
use Rattle.oss_meaning.specs.Sections.{declared_on}
use Rattle.oss_judge.specs.Joined.{held_right}
use Rattle.oss_machine.specs.Frames.{CodeScript}
use Rattle.oss_model.specs.Bodies.{Act, Order, Program, Start}
use Rattle.oss_model.specs.Bodies.Act.{Awaited, Created, Releases, Waited, WaitedOn}
use Rattle.oss_model.specs.Context.{in_clauses, right_of}
use Rattle.oss_model.specs.History.{IsMade}
use Rattle.oss_model.specs.Machine.{At, HasAccess, State, Task}
use Rattle.oss_model.specs.Order.{written}
use Rattle.oss_model.specs.Rights.{Right, NoRight, Released, Holds}
use Rattle.oss_model.proofs.TreeLemmas.{at_same}
use Rattle.oss_body.specs.declared.act.Act.{Act as CodeAct}
use Rattle.oss_body.specs.declared.act.Act.TheVariants as acts
use Rattle.oss_body.specs.Acts.{act_seen}
use Rattle.oss_chain_laws.specs.Chains.{Best as Longest, better as better_chain, capped, no_chain, one_more}
use Rattle.oss_chain_laws.specs.Happenings.{Happening, Acting, Giving, Does, Frees, StartsWith, WaitsFor, tick_of}
use Rattle.oss_chain_laws.specs.Pass.{Kept, IsKept, acted}
use Rattle.oss_chain_laws.specs.Runs.{ticks_at}
use Rattle.oss_chain_laws.specs.Tables.{GivenBelow, given_below, GivenWith, given_with, InActWay, InReadWay, InTurnWay, turn_way, read_way, write_way, InWriteWay, JustBefore, LeftBelow, LeftWith}
use Rattle.oss_chain_laws.proofs.ChainLemmas.{most_step}
use Rattle.oss_chain_laws.proofs.LongestLemmas.{has_ticks}
use Rattle.oss_chain_laws.proofs.PassLemmas.{Most, same, either_most, no_most, acted_kept, not_nil}
use Rattle.oss_chain_laws.proofs.PassTheorem.{above_access}
use Rattle.oss_chain_laws.proofs.TableLemmas.{act_back, act_forth}
use Rattle.oss_chain_laws.proofs.ValueLemmas.{is_strong_fold as is_fold_right, other_keeps, released_frees, released_keeps, releases_of}
use Rattle.oss_span.specs.declared.best.Best.{Best}
use Rattle.oss_span.specs.declared.best.Mark.{Mark}
use Rattle.oss_span.specs.declared.frame.Frame.{Frame}
use Rattle.oss_span.specs.declared.marks.Marks.{Marks}
use Rattle.oss_span.specs.declared.marks.Way.{Way}
use Rattle.oss_span.specs.declared.marks.Way.TheVariants as ways
use Rattle.oss_span.specs.declared.node.Node.{Node}
use Rattle.oss_span.specs.declared.node.Node.TheVariants.{Acts}
use Rattle.oss_span.specs.declared.run.Run.{Run}
use Rattle.oss_span.specs.Acts.{IsSealed, after_act, ticked}
use Rattle.oss_span.specs.Bests.{better, better_mark, no_best, no_mark}
use Rattle.oss_span.specs.Changes.{before_of, freed, is_strong_fold, picked}
use Rattle.oss_span.specs.Frames.{Grows, IsActed, IsDoneBy, IsOther, IsReleased, IsStartOf, IsWaitOf, is_tick}
use Rattle.oss_span.specs.Shown.{IsBelow, Shows, shows_acts, acts_back}
use Rattle.oss_span.specs.Tables.{IsGreatest, IsGreatestOf, in_ranges, released}
use Rattle.oss_span.proofs.ToldLemmas.{bools, get_last, grows_one, grows_same, most_small, ShowsBest, ShowsMark, ShowsRun, shows_below, shows_on, Tells, tells_better, tells_none, tells_same, better_best_shown, none_shown, weight}
use Rattle.oss_judge.specs.Joined.{IsRising, Follows}
use Rattle.oss_model.specs.Machine.{find, mode_in}
use Rattle.oss_model.specs.Rights.{in_access, joined_right, right_from}
use Rattle.oss_model.proofs.JudgeLemmas.{op_eq_is}
use Rattle.oss_model.proofs.TreeLemmas.{mode_is}
use Rattle.oss_chain_laws.specs.Pass.{opened as opened_kept, is_fold_of as fold_of_mode}
use Rattle.oss_chain_laws.proofs.PassTheorem.{opened_below, opened_top}
use Rattle.oss_span.specs.Changes.{changed_at, is_fold_mode, join_of, opened, opened_by, unused}
use Rattle.oss_span.specs.Frames.{IsOpened}
use Rattle.oss_span.specs.Tables.{painted}
use Rattle.oss_span.proofs.FrameLemmas.{FrameFits, FrameTells, IsTop, ShowsCell, held_same, told_right, told_some}
use Rattle.oss_span.proofs.ActLemmas.{right_is, kept_is, access_kept}
use Rattle.oss_span.proofs.TableLemmas.{some_is}
use Rattle.oss_span.proofs.ToldLemmas.{better_shown}
use Rattle.oss_span.proofs.SealLemmas.{cell_on, mark_on, tells_on, run_on, frame_on, seal_best, seal_grows, seal_run}
use Rattle.std.specs.Prelude.{nat_le}

-- Accesses that rise name a cell once

past_access : (a : Access) (c : ℕ) → c < a.range.lo → in_access a c ≡ false
past_access a c h = grind (arith, nat_tests)

below_high : (a : Access) (c : ℕ) → in_access a c ≡ true → c < a.range.hi
below_high a c h = grind (arith, nat_tests)

past_high : (a : Access) (c : ℕ) → a.range.hi ≤ c → in_access a c ≡ false
past_high a c h = grind (arith, nat_tests)

abbrev IsPast : ℕ → List Access → Type 0
IsPast hi [] = Unit {0}
IsPast hi (a ∷ rest) = hi ≤ a.range.lo

next_past : (a : Access) (rest : List Access) → IsRising (a ∷ rest) → IsPast a.range.hi rest
next_past a [] h = tt
next_past a (b ∷ rest) h = h.0.behind

rest_rising : (a : Access) (rest : List Access) → IsRising (a ∷ rest) → IsRising rest
rest_rising a [] h = tt
rest_rising a (b ∷ rest) h = h.1

past_all : (old x : Option Marks) (rest : List Access) (hi c : ℕ) → IsRising rest → IsPast hi rest → c < hi → (right_from false rest c ≡ NoRight) × (painted old rest c x ≡ x)
past_all old x [] hi c h p l = (refl, refl)
past_all old x (b ∷ rest) hi c h p l =
    let e = past_access b c (omega (arith, p, l)) in
    let o = b.range.ordered in
    let r = past_all old x rest b.range.hi c (rest_rising b rest h) (next_past b rest h) (omega (arith, p, l, o)) in
    (rw e r.0, rw e r.1)

-- what a new task keeps by its right
abbrev pub opened_right : Option Marks → Right → Option Marks
opened_right old (Holds md strong) = Some (opened old md strong)
opened_right old _ = None

pub painted_is : (old : Option Marks) (accesses : List Access) (c : ℕ) → IsRising accesses → painted old accesses c None ≡ opened_right old (right_from false accesses c)
painted_is old [] c h = refl
painted_is old (a ∷ rest) c h = go (in_access a c) refl (painted_is old rest c (rest_rising a rest h)) (past_all old (Some (opened old a.mode a.strong)) rest a.range.hi c (rest_rising a rest h) (next_past a rest h))
  where
    go : (b : Bool) → in_access a c ≡ b → painted old rest c None ≡ opened_right old (right_from false rest c) → (c < a.range.hi → (right_from false rest c ≡ NoRight) × (painted old rest c (Some (opened old a.mode a.strong)) ≡ Some (opened old a.mode a.strong)))
        → painted old rest c (if b then Some (opened old a.mode a.strong) else None) ≡ opened_right old (if b then joined_right a.mode (false || a.strong) (right_from false rest c) else right_from false rest c)
    go true e again past = let r = past (below_high a c e) in r.1 ∙ sym (ap (λ (x : Right). opened_right old (joined_right a.mode a.strong x)) r.0)
    go false e again past = again

-- no access is past the last cell
pub painted_few : (old : Option Marks) (accesses : List Access) (c : ℕ) → 1048576 ≤ c → painted old accesses c None ≡ None
painted_few old [] c h = refl
painted_few old (a ∷ rest) c h =
    let w = a.range.within in
    let e = past_high a c (omega (arith, w, h)) in
    rw e (painted_few old rest c h)

pub told_opened : (old : Option Marks) (r : Right) → told_right (opened_right old r) ≡ held_right r
told_opened old NoRight = refl
told_opened old Released = refl
told_opened None (Holds md strong) = refl
told_opened (Some y) (Holds md strong) = refl

fold_true : (op : Op) (md : Mode) → fold_of_mode op md ≡ true → md ≡ Fold op
fold_true op Read h = absurd (cc)
fold_true op Write h = absurd (cc)
fold_true op (Fold other) h = ap (λ (z : Op). Fold z) (sym (op_eq_is op other h))

better_unmarked : (a : Mark) → better_mark a no_mark ≡ a
better_unmarked a = let e : nat_lt a.ticks 0 ≡ false = grind (arith, nat_tests) in ap (λ (t : Bool). if t then no_mark else a) e

module _ (P : Program CodeScript) (main : Start CodeScript) (s : State CodeScript) (made : IsMade P main s) (nodes more : List Node) (points others : List (List ℕ)) where
  module _ (p : List ℕ) (n k : ℕ) (f g child : Frame) (u w : Task CodeScript) (o : Order CodeScript) (at_ : At s p u) (at_child : At s (k ∷ p) w) (fits : FrameFits points u.body.start p (suc n) f) (told : FrameTells P s nodes points p (suc n) k f) (tops : p ≡ [] → (c : ℕ) (x : Marks) → value_at f.table.pieces c ≡ Some x → IsTop x)
      (d : Does P s p n k (Created o false)) (task : ℕ) (wait : Bool) (accesses : List Access) (opens : IsOpened task wait accesses f g child nodes more) (rights : (c : ℕ) → right_from false accesses c ≡ held_right (right_of w.body.start.context c)) (rising : IsRising accesses) (added : Grows points others) where
    grows : Grows nodes more
    grows = seal_grows P s nodes more points f.task p f.run g.run opens.best told.kept.last opens.sealed fits.task told.last

    points_same : Grows points points
    points_same = λ i q h. h

    more_same : Grows more more
    more_same = λ i q h. h

    shown_cell : (c : ℕ) (x : Marks) → value_at f.table.pieces c ≡ Some x → ShowsCell P s more others told.kept c x
    shown_cell c x e = cell_on P s nodes more points others grows added told.kept c x (told.cells c x e)

    -- the creator goes on
    pub creator_tells : FrameTells P s more others p (suc n) k g
    creator_tells = record {
      kept = told.kept;
      is_kept = told.is_kept;
      last = run_on P s more more points others more_same added p g.run told.kept.last (seal_run P s nodes more points f.task p f.run g.run opens.best told.kept.last opens.sealed fits.task told.last);
      left = subst (λ (b : Best). ShowsBest P s more others b told.kept.left) (sym opens.same.2) (mark_on P s nodes more points others grows added f.left.mark f.left.cell told.kept.left told.left);
      newest = subst (λ (b : Best). Tells P s more others (InActWay P s p k Awaited) b) (sym opens.same.3) (tells_on P s nodes more points others grows added (InActWay P s p k Awaited) f.newest told.newest);
      cells = λ c x e. shown_cell c x (ap (λ (t : _). value_at t.pieces c) (sym opens.same.4) ∙ e);
    }

    best_shown : ShowsBest P s more others opens.best told.kept.last
    best_shown = mark_on P s more more points others more_same added opens.best.mark opens.best.cell told.kept.last (seal_best P s nodes more points f.task p f.run g.run opens.best told.kept.last opens.sealed fits.task told.last)

    child_cell_is : (c : ℕ) → value_at child.table.pieces c ≡ opened_right (value_at f.table.pieces c) (right_from false accesses c)
    child_cell_is c = opens.cells c ∙ painted_is (value_at f.table.pieces c) accesses c rising

    -- a cell of the child is one of its creator
    record FromCreator (c : ℕ) (x : Marks) : Type 0 where
      mode : Mode
      strong : Bool
      right : right_of w.body.start.context c ≡ Holds mode strong
      above : Marks
      is_above : value_at f.table.pieces c ≡ Some above
      x_is : x ≡ opened_by above mode strong

    from_creator : (c : ℕ) (x : Marks) → value_at child.table.pieces c ≡ Some x → FromCreator c x
    from_creator c x e = go (right_from false accesses c) refl
      where
        go : (r : Right) → right_from false accesses c ≡ r → FromCreator c x
        go NoRight q = let h : None ≡ Some x = sym (child_cell_is c ∙ ap (λ (z : Right). opened_right (value_at f.table.pieces c) z) q) ∙ e in absurd (cc)
        go Released q = let h : None ≡ Some x = sym (child_cell_is c ∙ ap (λ (z : Right). opened_right (value_at f.table.pieces c) z) q) ∙ e in absurd (cc)
        go (Holds md strong) q =
            let r : right_of w.body.start.context c ≡ Holds md strong = held_same (right_of w.body.start.context c) md strong (sym (rights c) ∙ q) in
            let a : HasAccess s c (k ∷ p) = record { task = w; at_ = at_child; mode = md; strong = strong; right = r } in
            let y = access_kept P main s made nodes points p (suc n) k f u at_ fits told tops c (above_access P main s made (weight P s) c k p a) in
            let h : Some (opened (value_at f.table.pieces c) md strong) ≡ Some x = sym (child_cell_is c ∙ ap (λ (z : Right). opened_right (value_at f.table.pieces c) z) q) ∙ e in
            let i : opened (value_at f.table.pieces c) md strong ≡ x = some_is _ _ h in
            record { mode = md; strong = strong; right = r; above = y.0; is_above = y.1; x_is = sym i ∙ ap (λ (z : Option Marks). opened z md strong) y.1 }

    -- the mode of the creator
    mode_above : (c : ℕ) (y : Marks) → value_at f.table.pieces c ≡ Some y → mode_in (find s.tasks p) c ≡ y.mode
    mode_above c y e = mode_is s c p y.mode (record { task = u; at_ = at_; strong = y.strong; right = right_is P main s made nodes points p (suc n) k f u at_ fits told tops c y e })

    -- what the child keeps of a cell
    module _ (by_main : Bool) (main_is : by_main ≡ true → p ≡ []) where
      abbrev new_kept : Kept
      new_kept = opened_kept by_main (λ c. mode_in (find s.tasks p) c) told.kept

      none_here : (c : ℕ) → ShowsMark P s more others no_mark c no_chain
      none_here c = none_shown P s more others c

      -- in main's own way nothing stands
      way_shown : (b : Bool) → (b ≡ true → p ≡ []) → (c : ℕ) (y a : Mark) (x z : Longest Happening) → (p ≡ [] → a ≡ no_mark) → ShowsMark P s more others y c x → ShowsMark P s more others a c z → ShowsMark P s more others (better_mark y a) c (if b then x else better_chain x z)
      way_shown true h c y a x z none shown more_shown = subst (λ (m : Mark). ShowsMark P s more others m c x) (sym (ap (λ (m : Mark). better_mark y m) (none (h refl)) ∙ better_unmarked y)) shown
      way_shown false h c y a x z none shown more_shown = better_shown P s more others y a c x z shown more_shown

      join_shown : (c : ℕ) (y : Marks) (op : Op) → value_at f.table.pieces c ≡ Some y → (b : Bool) → (b ≡ true → p ≡ []) → (t : Bool) → fold_of_mode op y.mode ≡ t
          → ShowsMark P s more others (better_mark (before_of op y) (if t then y.join_way else y.write_way)) c (if b then told.kept.before op c else better_chain (told.kept.before op c) (if t then told.kept.join_way op c else told.kept.write_way c))
      join_shown c y op e b h true q =
          way_shown b h c (before_of op y) y.join_way (told.kept.before op c) (told.kept.join_way op c) (λ z. (tops z c y e).join_way) ((shown_cell c y e).before op) ((shown_cell c y e).join_way op (fold_true op y.mode q))
      join_shown c y op e b h false q =
          way_shown b h c (before_of op y) y.write_way (told.kept.before op c) (told.kept.write_way c) (λ z. (tops z c y e).write_way) ((shown_cell c y e).before op) (shown_cell c y e).write_way

      child_shows : (c : ℕ) (x : Marks) → value_at child.table.pieces c ≡ Some x → ShowsCell P s more others new_kept c x
      child_shows c x e =
          let r = from_creator c x e in
          subst (λ (z : Marks). ShowsCell P s more others new_kept c z) (sym r.x_is) (shows r.above r.mode r.strong r.is_above)
        where
          shows : (y : Marks) (md : Mode) (strong : Bool) → value_at f.table.pieces c ≡ Some y → ShowsCell P s more others new_kept c (opened_by y md strong)
          shows y md strong h = record {
            given = none_here c;
            changed = none_here c;
            before = λ op. none_here c;
            is_freed = refl;
            freed = none_here c;
            write_way = way_shown by_main main_is c y.given y.write_way (told.kept.given c) (told.kept.write_way c) (λ z. (tops z c y h).write_way) (shown_cell c y h).given (shown_cell c y h).write_way;
            read_way = way_shown by_main main_is c y.changed y.read_way (told.kept.changed c) (told.kept.read_way c) (λ z. (tops z c y h).read_way) (shown_cell c y h).changed (shown_cell c y h).read_way;
            join_way = λ op q. joined op q;
          }
            where
              joined : (op : Op) → md ≡ Fold op → ShowsMark P s more others (join_of md y) c (new_kept.join_way op c)
              joined op q =
                  let a : fold_of_mode op (mode_in (find s.tasks p) c) ≡ fold_of_mode op y.mode = ap (λ (z : Mode). fold_of_mode op z) (mode_above c y h) in
                  subst (λ (z : Mode). ShowsMark P s more others (join_of z y) c (new_kept.join_way op c)) (sym q)
                  (subst (λ (t : Bool). ShowsMark P s more others (join_of (Fold op) y) c (if by_main then told.kept.before op c else better_chain (told.kept.before op c) (if t then told.kept.join_way op c else told.kept.write_way c))) (sym a)
                  (join_shown c y op h by_main main_is (fold_of_mode op y.mode) refl))

      pub new_tells : IsKept P s (weight P s) (k ∷ p) 0 0 new_kept → FrameTells P s more others (k ∷ p) 0 0 child
      new_tells is = record {
        kept = new_kept;
        is_kept = is;
        last = subst (λ (r : Run). ShowsRun P s more others (k ∷ p) r told.kept.last) (sym opens.run) (record { ticks = best_shown.ticks; few = omega arith; rest = told.kept.last.chain; shows = best_shown.shows; chain = refl });
        left = subst (λ (b : Best). ShowsBest P s more others b no_chain) (sym opens.rest.2) (none_here 0);
        newest = subst (λ (b : Best). Tells P s more others (InActWay P s (k ∷ p) 0 Awaited) b) (sym opens.rest.3) (tells_none P s more others (InActWay P s (k ∷ p) 0 Awaited) none);
        cells = child_shows;
      }
        where
          none : (h : Happening) → InActWay P s (k ∷ p) 0 Awaited h → ⊥
          none h (i, e, q) = omega (arith, e)
