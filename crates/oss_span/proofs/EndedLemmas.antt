-- What is kept of a creator is right when a child of it has ended.
use Rattle.std.proofs.Common.{◌≡◌, ◌≢◌, ◌≤◌, ◌<◌, ◌⊎◌, inl, inr, refl, sym, subst, ap, ◌∙◌, ℕ, zero, suc, ◌+◌, ◌-◌, ◌^◌, Bool, true, false, List, [], ◌∷◌, ◌++◌, length, map, Option, Some, None, arith}
use Rattle.std.specs.Prelude.{if◌then◌else◌, ◌||◌, ◌&&◌, not, nat_lt, min, slice_get}
use Rattle.std.proofs.lemmas.Bool.Decides.{nat_tests}
use Rattle.oss_syntax.specs.declared.access.Access.{Access}
use Rattle.oss_syntax.specs.declared.access.Range.{Range}
use Rattle.oss_syntax.specs.declared.access.Op.{Op}
use Rattle.oss_syntax.specs.declared.access.Mode.{Mode}
use Rattle.oss_syntax.specs.declared.access.Mode.TheVariants.{Read, Write, Fold}
use Rattle.oss_ranges.specs.declared.piece.Piece.{Piece}
use Rattle.oss_ranges.specs.Cells.{is_within, value_at}
use Rattle.oss_meaning.specs.Clauses.{waited_for}
use Rattle.oss_meaning.specs.Sections.{declared_on}
use Rattle.oss_judge.specs.Joined.{held_right}
use Rattle.oss_machine.specs.Frames.{CodeScript}
use Rattle.oss_model.specs.Bodies.{Act, Order, Program, Start}
use Rattle.oss_model.specs.Bodies.Act.{Awaited, Created, Releases, Waited, WaitedOn}
use Rattle.oss_model.specs.Context.{in_clauses, right_of}
use Rattle.oss_model.specs.History.{IsMade}
use Rattle.oss_model.specs.Machine.{At, HasAccess, State, Task}
use Rattle.oss_model.specs.Order.{written}
use Rattle.oss_model.specs.Rights.{Right, NoRight, Released, Holds}
use Rattle.oss_model.proofs.TreeLemmas.{at_same}
use Rattle.oss_body.specs.declared.act.Act.{Act as CodeAct}
use Rattle.oss_body.specs.declared.act.Act.TheVariants as acts
use Rattle.oss_body.specs.Acts.{act_seen}
use Rattle.oss_chain_laws.specs.Chains.{Best as Longest, better as better_chain, capped, no_chain, one_more}
use Rattle.oss_chain_laws.specs.Happenings.{Happening, Acting, Giving, Does, Frees, StartsWith, WaitsFor, tick_of}
use Rattle.oss_chain_laws.specs.Pass.{Kept, IsKept, acted}
use Rattle.oss_chain_laws.specs.Runs.{ticks_at}
use Rattle.oss_chain_laws.specs.Tables.{GivenBelow, given_below, GivenWith, given_with, InActWay, InReadWay, InTurnWay, turn_way, read_way, write_way, InWriteWay, JustBefore, LeftBelow, LeftWith}
use Rattle.oss_chain_laws.proofs.ChainLemmas.{most_step}
use Rattle.oss_chain_laws.proofs.LongestLemmas.{has_ticks}
use Rattle.oss_chain_laws.proofs.PassLemmas.{Most, same, either_most, no_most, acted_kept, not_nil}
use Rattle.oss_chain_laws.proofs.PassTheorem.{above_access}
use Rattle.oss_chain_laws.proofs.TableLemmas.{act_back, act_forth}
use Rattle.oss_chain_laws.proofs.ValueLemmas.{is_strong_fold as is_fold_right, other_keeps, released_frees, released_keeps, releases_of}
use Rattle.oss_span.specs.declared.best.Best.{Best}
use Rattle.oss_span.specs.declared.best.Mark.{Mark}
use Rattle.oss_span.specs.declared.frame.Frame.{Frame}
use Rattle.oss_span.specs.declared.marks.Marks.{Marks}
use Rattle.oss_span.specs.declared.marks.Way.{Way}
use Rattle.oss_span.specs.declared.marks.Way.TheVariants as ways
use Rattle.oss_span.specs.declared.node.Node.{Node}
use Rattle.oss_span.specs.declared.node.Node.TheVariants.{Acts}
use Rattle.oss_span.specs.declared.run.Run.{Run}
use Rattle.oss_span.specs.Acts.{IsSealed, after_act, ticked}
use Rattle.oss_span.specs.Bests.{better, better_mark, no_best, no_mark}
use Rattle.oss_span.specs.Changes.{before_of, freed, is_strong_fold, picked}
use Rattle.oss_span.specs.Frames.{Grows, IsActed, IsDoneBy, IsOther, IsReleased, IsStartOf, IsWaitOf, is_tick}
use Rattle.oss_span.specs.Shown.{IsBelow, Shows, shows_acts, acts_back}
use Rattle.oss_span.specs.Tables.{IsGreatest, IsGreatestOf, in_ranges, released}
use Rattle.oss_span.proofs.ToldLemmas.{bools, get_last, grows_one, grows_same, most_small, ShowsBest, ShowsMark, ShowsRun, shows_below, shows_on, Tells, tells_better, tells_none, tells_same, better_best_shown, none_shown, weight}
use Rattle.std.specs.Prelude.{unwrap_or}
use Rattle.oss_model.specs.Machine.{find, mode_in}
use Rattle.oss_model.specs.Moves.{created_now}
use Rattle.oss_model.proofs.TreeLemmas.{mode_is}
use Rattle.oss_chain_laws.specs.Happenings.{EndsWith}
use Rattle.oss_chain_laws.specs.Pass.{closed as closed_kept_of, is_fold_of as fold_of_mode, is_read}
use Rattle.oss_chain_laws.specs.Tables.{FreedBefore, InEndWay}
use Rattle.oss_chain_laws.proofs.EndTheorem.{all_left, end_most, freed_most, gave_most, kept_most, InOwnJoinWay}
use Rattle.oss_chain_laws.proofs.PassTheorem.{closed_kept}
use Rattle.oss_chain_laws.proofs.RunTheorem.{own_most, own_of}
use Rattle.oss_span.specs.declared.close.Before.{Before}
use Rattle.oss_span.specs.declared.node.Verb.{Verb}
use Rattle.oss_span.specs.declared.node.Verb.TheVariants as verbs
use Rattle.oss_span.specs.declared.node.Node.TheVariants.{Gives}
use Rattle.oss_span.specs.declared.marks.Change.TheVariants.{Close}
use Rattle.oss_span.specs.Changes.{changed_at, closed, is_fold_mode}
use Rattle.oss_span.specs.Frames.{AreClosed, IsClosed, IsClosedCell, IsValue, before_giving, kept_of, verb_of}
use Rattle.oss_span.specs.Links.{IsJoined}
use Rattle.oss_span.specs.Shown.{IsVerb, shows_gives}
use Rattle.oss_span.proofs.FrameLemmas.{FrameFits, FrameTells, IsTop, ShowsCell, held_same, told_right, told_some}
use Rattle.oss_span.proofs.ActLemmas.{better_front, better_last}
use Rattle.oss_span.proofs.TableLemmas.{some_is}
use Rattle.oss_span.proofs.ToldLemmas.{better_shown}
use Rattle.oss_span.proofs.SealLemmas.{cell_on, mark_on, tells_on, run_on, frame_on, seal_best, seal_grows, seal_run}

module _ (P : Program CodeScript) (s : State CodeScript) (nodes : List Node) (points : List (List ℕ)) where
  -- what stands before a giving stands for this chain
  record ShowsBefore (b : Before) (c : ℕ) (v : Longest Happening) : Type 0 where
    ticks : v.ticks ≡ b.ticks
    shows : Shows P s nodes points b.end (unwrap_or b.cell c) v.chain

  better_unless : (k : Longest Happening) → better_chain k no_chain ≡ k
  better_unless k = let e : nat_lt k.ticks 0 ≡ false = grind (arith, nat_tests) in ap (λ (t : Bool). if t then no_chain else k) e

  before_shown : (x : Marks) (kk : Best) (c : ℕ) (k own fr : Longest Happening) → ShowsBest P s nodes points kk k → ShowsMark P s nodes points x.freed c fr → (is_strong_fold x ≡ true → ShowsMark P s nodes points x.join_way c own) → (is_strong_fold x ≡ false → own ≡ no_chain)
      → ShowsBefore (before_giving x kk) c (if x.is_freed then fr else better_chain k own)
  before_shown x kk c k own fr shown released joins none = go x.is_freed (is_strong_fold x) (nat_lt kk.mark.ticks x.join_way.ticks) refl refl refl
    where
      go : (fb sb lb : Bool) → x.is_freed ≡ fb → is_strong_fold x ≡ sb → nat_lt kk.mark.ticks x.join_way.ticks ≡ lb → ShowsBefore (before_giving x kk) c (if x.is_freed then fr else better_chain k own)
      go true sb lb e f l = rw e (record { ticks = released.ticks; shows = released.shows })
      go false false lb e f l = rw (e, f, none f) (rw (better_unless k) (record { ticks = shown.ticks; shows = shown.shows }))
      go false true true e f l = rw (e, f, l) (rw (better_last k own kk.mark.ticks x.join_way.ticks shown.ticks (joins f).ticks l) (record { ticks = (joins f).ticks; shows = (joins f).shows }))
      go false true false e f l = rw (e, f, l) (rw (better_front k own kk.mark.ticks x.join_way.ticks shown.ticks (joins f).ticks l) (record { ticks = shown.ticks; shows = shown.shows }))

small_better : (a b : Longest Happening) (n : ℕ) → a.ticks ≤ n → b.ticks ≤ n → (better_chain a b).ticks ≤ n
small_better a b n h k = go (nat_lt a.ticks b.ticks) refl
  where
    go : (t : Bool) → nat_lt a.ticks b.ticks ≡ t → (better_chain a b).ticks ≤ n
    go true e = rw e k
    go false e = rw e h

no_weight : (t : ℕ) → t ≤ 2 ^ 64 - 1 → capped (0 + t) ≡ t
no_weight t h = grind arith

not_past' : (c : ℕ) → (1048576 ≤ c → ⊥) → c < 1048576
not_past' c h = grind arith

abbrev is_there : Option Marks → Bool
is_there None = false
is_there (Some x) = true

strong_fold_of : (x : Marks) → is_strong_fold x ≡ true → (op : Op) × (x.mode ≡ Fold op) × (x.strong ≡ true)
strong_fold_of x h = go x.mode x.strong refl refl
  where
    go : (md : Mode) (b : Bool) → x.mode ≡ md → x.strong ≡ b → (op : Op) × (x.mode ≡ Fold op) × (x.strong ≡ true)
    go (Fold op) true e f = (op, e, f)
    go (Fold op) false e f = let k : false ≡ true = sym (ap (λ (b : Bool). is_fold_mode x.mode && b) f ∙ ap (λ (md : Mode). is_fold_mode md && false) e) ∙ h in absurd (cc)
    go Read b e f = let k : false ≡ true = sym (ap (λ (md : Mode). is_fold_mode md && x.strong) e) ∙ h in absurd (cc)
    go Write b e f = let k : false ≡ true = sym (ap (λ (md : Mode). is_fold_mode md && x.strong) e) ∙ h in absurd (cc)

module _ (P : Program CodeScript) (main : Start CodeScript) (s : State CodeScript) (made : IsMade P main s) (nodes more : List Node) (points : List (List ℕ)) where
  module _ (p : List ℕ) (n j e : ℕ) (old new ch : Frame) (w : Task CodeScript) (at_ : At s (j ∷ p) w) (last : EndsWith P s (j ∷ p) e) (fits : FrameFits points w.body.start (j ∷ p) (suc e) ch)
      (told : FrameTells P s nodes points (j ∷ p) (suc e) (created_now P w.body) ch) (above : FrameTells P s nodes points p n j old) (close : IsClosed old new ch nodes more) where
    abbrev t : Kept
    t = told.kept

    abbrev kk : Best
    kk = kept_of ch.wait close.last ch.left

    points_same : Grows points points
    points_same = λ i q h. h

    sealed_grows : Grows nodes close.sealed_nodes
    sealed_grows = seal_grows P s nodes close.sealed_nodes points ch.task (j ∷ p) ch.run close.sealed_run close.last t.last close.sealed fits.task told.last

    all_grows : Grows nodes more
    all_grows = λ i q h. close.grows i q (sealed_grows i q h)

    last_shown : ShowsBest P s close.sealed_nodes points close.last t.last
    last_shown = seal_best P s nodes close.sealed_nodes points ch.task (j ∷ p) ch.run close.sealed_run close.last t.last close.sealed fits.task told.last

    left_shown : ShowsBest P s close.sealed_nodes points ch.left t.left
    left_shown = mark_on P s nodes close.sealed_nodes points points sealed_grows points_same ch.left.mark ch.left.cell t.left told.left

    abbrev k_of : Bool → Longest Happening
    k_of wait = if wait then better_chain t.last t.left else t.last

    abbrev k : Longest Happening
    k = k_of ch.wait

    kk_shown : ShowsBest P s close.sealed_nodes points kk k
    kk_shown = go ch.wait
      where
        go : (b : Bool) → ShowsBest P s close.sealed_nodes points (kept_of b close.last ch.left) (k_of b)
        go true = better_best_shown P s close.sealed_nodes points close.last ch.left t.last t.left last_shown left_shown
        go false = last_shown

    abbrev Ended : Bool → Happening → Type 0
    Ended wait f = InEndWay P s (j ∷ p) f ⊎ ((wait ≡ true) × LeftBelow P s (j ∷ p) (created_now P w.body) f)

    ends : Most P s (weight P s) (InEndWay P s (j ∷ p)) t.last
    ends = end_most P main s made (weight P s) j p e w t at_ last told.is_kept

    k_most : Most P s (weight P s) (Ended w.body.start.order.wait) k
    k_most = subst (λ (b : Bool). Most P s (weight P s) (Ended b) k) fits.wait (go ch.wait)
      where
        go : (b : Bool) → Most P s (weight P s) (Ended b) (k_of b)
        go true = either_most P s (weight P s) (InEndWay P s (j ∷ p)) (λ f. (true ≡ true) × LeftBelow P s (j ∷ p) (created_now P w.body) f) t.last t.left ends
            (same P s (weight P s) (LeftBelow P s (j ∷ p) (created_now P w.body)) (λ f. (true ≡ true) × LeftBelow P s (j ∷ p) (created_now P w.body) f) t.left (λ f h. (refl, h)) (λ f h. h.1) told.is_kept.left)
        go false = same P s (weight P s) (InEndWay P s (j ∷ p)) (Ended false) t.last (λ f h. inl h) back ends
          where
            back : (f : Happening) → Ended false f → InEndWay P s (j ∷ p) f
            back f (inl h) = h
            back f (inr h) = let z = h.0 in absurd (cc)

    abbrev own : Marks → ℕ → Longest Happening
    own x c = own_of P main s made (weight P s) j p e w t at_ last told.is_kept (Holds x.mode x.strong) c

    right_here : (c : ℕ) (x : Marks) → value_at ch.table.pieces c ≡ Some x → right_of w.body.start.context c ≡ Holds x.mode x.strong
    right_here c x h = held_same (right_of w.body.start.context c) x.mode x.strong (sym (fits.rights c) ∙ ap told_right h)

    access_here : (c : ℕ) (x : Marks) → value_at ch.table.pieces c ≡ Some x → HasAccess s c (j ∷ p)
    access_here c x h = record { task = w; at_ = at_; mode = x.mode; strong = x.strong; right = right_here c x h }

    kept_here : (c : ℕ) → HasAccess s c (j ∷ p) → (x : Marks) × (value_at ch.table.pieces c ≡ Some x)
    kept_here c a =
        let r : right_of w.body.start.context c ≡ Holds a.mode a.strong = subst (λ (z : Task CodeScript). right_of z.body.start.context c ≡ Holds a.mode a.strong) (at_same s (j ∷ p) a.task w a.at_ at_) a.right in
        let x = told_some (value_at ch.table.pieces c) a.mode a.strong (fits.rights c ∙ ap held_right r) in
        (x.0, x.1)

    own_is_most : (c : ℕ) (x : Marks) → value_at ch.table.pieces c ≡ Some x → Most P s (weight P s) (InOwnJoinWay P main s made (weight P s) j p e w t at_ last told.is_kept c) (own x c)
    own_is_most c x h = own_most P main s made (weight P s) j p e w t at_ last told.is_kept c (Holds x.mode x.strong) (right_here c x h)

    abbrev before : Marks → ℕ → Longest Happening
    before x c = if x.is_freed then t.freed c else better_chain k (own x c)

    abbrev value_of : Marks → ℕ → Longest Happening
    value_of x c = one_more (weight P s) (Giving (j ∷ p) c) (before x c)

    value_most : (c : ℕ) (x : Marks) → value_at ch.table.pieces c ≡ Some x → Most P s (weight P s) (λ f. f ≡ Giving (j ∷ p) c) (value_of x c)
    value_most c x h = go x.is_freed refl
      where
        go : (b : Bool) → x.is_freed ≡ b → Most P s (weight P s) (λ f. f ≡ Giving (j ∷ p) c) (one_more (weight P s) (Giving (j ∷ p) c) (if x.is_freed then t.freed c else better_chain k (own x c)))
        go true q = subst (λ (b : Bool). Most P s (weight P s) (λ f. f ≡ Giving (j ∷ p) c) (one_more (weight P s) (Giving (j ∷ p) c) (if b then t.freed c else better_chain k (own x c)))) (sym q)
            (freed_most P main s made (weight P s) j p e w t at_ last told.is_kept c (access_here c x h) ((told.cells c x h).is_freed ∙ q))
        go false q = subst (λ (b : Bool). Most P s (weight P s) (λ f. f ≡ Giving (j ∷ p) c) (one_more (weight P s) (Giving (j ∷ p) c) (if b then t.freed c else better_chain k (own x c)))) (sym q)
            (kept_most P main s made (weight P s) j p e w t at_ last told.is_kept c k (own x c) (access_here c x h) ((told.cells c x h).is_freed ∙ q) k_most (own_is_most c x h))

    before_small : (c : ℕ) (x : Marks) → value_at ch.table.pieces c ≡ Some x → (before x c).ticks ≤ 2 ^ 64 - 1
    before_small c x h = go x.is_freed
      where
        go : (b : Bool) → (if b then t.freed c else better_chain k (own x c)).ticks ≤ 2 ^ 64 - 1
        go true = most_small P s (FreedBefore P s (j ∷ p) c (suc e)) (t.freed c) (told.is_kept.freed c)
        go false = small_better k (own x c) (2 ^ 64 - 1) (most_small P s (Ended w.body.start.order.wait) k k_most) (most_small P s (InOwnJoinWay P main s made (weight P s) j p e w t at_ last told.is_kept c) (own x c) (own_is_most c x h))

    before_is_shown : (c : ℕ) (x : Marks) → value_at ch.table.pieces c ≡ Some x → ShowsBefore P s close.sealed_nodes points (before_giving x kk) c (before x c)
    before_is_shown c x h =
        before_shown P s close.sealed_nodes points x kk c k (own x c) (t.freed c) kk_shown cell.freed joins none
      where
        cell : ShowsCell P s close.sealed_nodes points t c x
        cell = cell_on P s nodes close.sealed_nodes points points sealed_grows points_same t c x (told.cells c x h)

        joins : is_strong_fold x ≡ true → ShowsMark P s close.sealed_nodes points x.join_way c (own x c)
        joins f = let o = strong_fold_of x f in subst (λ (b : Longest Happening). ShowsMark P s close.sealed_nodes points x.join_way c b) (sym (λ i. own_of P main s made (weight P s) j p e w t at_ last told.is_kept (Holds (o.1 i) (o.2 i)) c)) (cell.join_way o.0 o.1)

        none : is_strong_fold x ≡ false → own x c ≡ no_chain
        none f = go x.mode x.strong f
          where
            go : (md : Mode) (b : Bool) → (is_fold_mode md && b) ≡ false → own_of P main s made (weight P s) j p e w t at_ last told.is_kept (Holds md b) c ≡ no_chain
            go Read b q = refl
            go Write b q = refl
            go (Fold op) true q = absurd (cc)
            go (Fold op) false q = refl

    verb_is : (c : ℕ) (x : Marks) → value_at ch.table.pieces c ≡ Some x → IsVerb s (j ∷ p) c (verb_of x)
    verb_is c x h = go (is_strong_fold x) refl
      where
        go : (b : Bool) → is_strong_fold x ≡ b → IsVerb s (j ∷ p) c (if is_strong_fold x then verbs.Join else verbs.Let)
        go true f = let o = strong_fold_of x f in rw f (o.0, record { task = w; at_ = at_; right_is = right_here c x h ∙ (λ i. Holds (o.1 i) (o.2 i)) })
        go false f = rw f (λ (op, r).
            let z : right_of w.body.start.context c ≡ Holds (Fold op) true = subst (λ (v : Task CodeScript). right_of v.body.start.context c ≡ Holds (Fold op) true) (at_same s (j ∷ p) r.task w r.at_ at_) r.right_is in
            let y : Holds x.mode x.strong ≡ Holds (Fold op) true = sym (right_here c x h) ∙ z in
            let a : x.mode ≡ Fold op = cc in
            let b : x.strong ≡ true = cc in
            let g : (is_fold_mode (Fold op) && true) ≡ false = subst (λ (md : Mode). (is_fold_mode md && true) ≡ false) a (subst (λ (v : Bool). (is_fold_mode x.mode && v) ≡ false) b f) in
            absurd (cc))

    -- a value that is kept of a cell
    value_shown : (c : ℕ) (x : Marks) (v : Mark) → value_at ch.table.pieces c ≡ Some x → IsValue (length close.sealed_nodes) more ch.task x kk v → ShowsMark P s more points v c (value_of x c)
    value_shown c x v h i = record {
      ticks = no_weight (before x c).ticks (before_small c x h) ∙ (b.ticks ∙ sym i.ticks);
      shows = subst (λ (end : Option ℕ). Shows P s more points end c (Giving (j ∷ p) c ∷ (before x c).chain)) (sym i.end_is) (shows_gives i.node fits.task (verb_is c x h) low (shows_on P s close.sealed_nodes more points points close.grows points_same b.shows));
    }
      where
        b : ShowsBefore P s close.sealed_nodes points (before_giving x kk) c (before x c)
        b = before_is_shown c x h

        further : (end : Option ℕ) → IsBelow end (length close.sealed_nodes) → IsBelow end i.at_
        further None l = tt
        further (Some q) l = let k = i.base_is in omega (arith, l, k)

        low : IsBelow (before_giving x kk).end i.at_
        low = further (before_giving x kk).end (shows_below P s close.sealed_nodes points (before_giving x kk).end b.shows)

    -- the longest chain to one of the cells
    lets_tell : Tells P s more points (λ f. (c : ℕ) × HasAccess s c (j ∷ p) × (f ≡ Giving (j ∷ p) c)) close.lets
    lets_tell = go close.cells.one
      where
        most_of : (f : Happening) → (c : ℕ) × HasAccess s c (j ∷ p) × (f ≡ Giving (j ∷ p) c) → (es : List Happening) → Rattle.oss_chain_laws.specs.Chains.IsTrail (WaitsFor P s) (f ∷ es) → Rattle.oss_chain_laws.specs.Chains.ticks_in (weight P s) (f ∷ es) ≤ close.lets.mark.ticks
        most_of f (c, a, q) es tr =
            let x = kept_here c a in
            let small = not_past' c (λ l. let z = fits.few c l in let y = x.1 in absurd (cc)) in
            let cell = close.cells.cell c x.0 small x.1 in
            let m = (value_most c x.0 x.1).most f q es tr in
            let v = (value_shown c x.0 cell.value x.1 cell.is_value).ticks in
            let l = cell.most in
            omega (arith, m, v, l)

        go : (close.lets ≡ no_best) ⊎ ((c : ℕ) × (x : Marks) × (v : Mark) × (value_at ch.table.pieces c ≡ Some x) × IsValue (length close.sealed_nodes) more ch.task x kk v × (close.lets ≡ record { mark = v; cell = c }))
            → Tells P s more points (λ f. (c : ℕ) × HasAccess s c (j ∷ p) × (f ≡ Giving (j ∷ p) c)) close.lets
        go (inl q) =
            let z : close.lets.mark.ticks ≡ 0 = ap (λ (b : Best). b.mark.ticks) q in
            subst (λ (b : Best). Tells P s more points (λ f. (c : ℕ) × HasAccess s c (j ∷ p) × (f ≡ Giving (j ∷ p) c)) b) (sym q)
            (record { best = no_chain; most = record { most = λ f h es tr. let l = most_of f h es tr in omega (arith, l, z); reached = inl (refl, refl) }; shows = none_shown P s more points 0 })
        go (inr (c, x, v, h, i, q)) =
            let z : close.lets.mark.ticks ≡ v.ticks = ap (λ (b : Best). b.mark.ticks) q in
            let sh = value_shown c x v h i in
            let y = sh.ticks in
            subst (λ (b : Best). Tells P s more points (λ f. (c : ℕ) × HasAccess s c (j ∷ p) × (f ≡ Giving (j ∷ p) c)) b) (sym q)
            (record { best = value_of x c; most = record { most = λ f g es tr. let l = most_of f g es tr in omega (arith, l, z, y); reached = into (value_most c x h).reached }; shows = sh })
          where
            into : (((value_of x c).ticks ≡ 0) × ((value_of x c).chain ≡ [])) ⊎ ((f : Happening) × (f ≡ Giving (j ∷ p) c) × (es : List Happening) × ((value_of x c).chain ≡ f ∷ es) × Rattle.oss_chain_laws.specs.Chains.IsTrail (WaitsFor P s) (f ∷ es) × (Rattle.oss_chain_laws.specs.Chains.ticks_in (weight P s) (f ∷ es) ≡ (value_of x c).ticks))
                → (((value_of x c).ticks ≡ 0) × ((value_of x c).chain ≡ [])) ⊎ ((f : Happening) × ((c : ℕ) × HasAccess s c (j ∷ p) × (f ≡ Giving (j ∷ p) c)) × (es : List Happening) × ((value_of x c).chain ≡ f ∷ es) × Rattle.oss_chain_laws.specs.Chains.IsTrail (WaitsFor P s) (f ∷ es) × (Rattle.oss_chain_laws.specs.Chains.ticks_in (weight P s) (f ∷ es) ≡ (value_of x c).ticks))
            into (inl k) = inl k
            into (inr (f, g, es, a, tr, b)) = inr (f, (c, access_here c x h, g), es, a, tr, b)

    -- all that is left
    leaving : Tells P s more points (LeftWith P s (j ∷ p)) new.newest
    leaving =
        let last_on = mark_on P s close.sealed_nodes more points points close.grows points_same close.last.mark close.last.cell t.last last_shown in
        let left_on = mark_on P s close.sealed_nodes more points points close.grows points_same ch.left.mark ch.left.cell t.left left_shown in
        subst (λ (b : Best). Tells P s more points (LeftWith P s (j ∷ p)) b) (sym close.newest)
        (record {
          best = better_chain (better_chain t.last lets_tell.best) t.left;
          most = all_left P main s made (weight P s) j p e w t at_ last told.is_kept lets_tell.best lets_tell.most;
          shows = better_best_shown P s more points (better close.last close.lets) ch.left (better_chain t.last lets_tell.best) t.left (better_best_shown P s more points close.last close.lets t.last lets_tell.best last_on lets_tell.shows) left_on;
        })

    -- What the creator keeps

    abbrev has : ℕ → Bool
    has c = is_there (value_at ch.table.pieces c)

    abbrev mode : ℕ → Mode
    mode c = mode_in (find s.tasks (j ∷ p)) c

    gave_by : ℕ → Option Marks → Longest Happening
    gave_by c None = no_chain
    gave_by c (Some x) = better_chain (value_of x c) (t.given c)

    abbrev gave : ℕ → Longest Happening
    gave c = gave_by c (value_at ch.table.pieces c)

    gave_is : (c : ℕ) (x : Marks) → value_at ch.table.pieces c ≡ Some x → gave c ≡ better_chain (value_of x c) (t.given c)
    unfolding gave_by
    gave_is c x h = ap (λ (o : Option Marks). gave_by c o) h

    has_is : (c : ℕ) → has c ≡ true → (x : Marks) × (value_at ch.table.pieces c ≡ Some x)
    has_is c h = go (value_at ch.table.pieces c) refl
      where
        go : (o : Option Marks) → value_at ch.table.pieces c ≡ o → (x : Marks) × (value_at ch.table.pieces c ≡ Some x)
        go None q = let k : false ≡ true = sym (ap is_there q) ∙ h in absurd (cc)
        go (Some x) q = (x, q)

    mode_here : (c : ℕ) (x : Marks) → value_at ch.table.pieces c ≡ Some x → mode c ≡ x.mode
    mode_here c x h = mode_is s c (j ∷ p) x.mode (record { task = w; at_ = at_; strong = x.strong; right = right_here c x h })

    abbrev now : Kept
    now = closed_kept_of has mode gave leaving.best above.kept

    now_kept : IsKept P s (weight P s) p n (suc j) now
    now_kept =
        closed_kept P main s made (weight P s) p n j above.kept has mode gave leaving.best above.is_kept (λ c h. let x = has_is c h in access_here c x.0 x.1) not_there (λ c. refl) gives leaving.most
      where
        not_there : (c : ℕ) → has c ≡ false → HasAccess s c (j ∷ p) → ⊥
        not_there c h a = let x = kept_here c a in let k : true ≡ false = sym (ap is_there x.1) ∙ h in cc

        gives : (c : ℕ) → has c ≡ true → Most P s (weight P s) (GivenWith s c (j ∷ p)) (gave c)
        gives c h =
            let x = has_is c h in
            subst (λ (b : Longest Happening). Most P s (weight P s) (GivenWith s c (j ∷ p)) b) (sym (gave_is c x.0 x.1))
            (gave_most P main s made (weight P s) j p e w t at_ last told.is_kept c (value_of x.0 c) (access_here c x.0 x.1) (value_most c x.0 x.1))

    above_cell : (c : ℕ) (y : Marks) → value_at old.table.pieces c ≡ Some y → ShowsCell P s more points above.kept c y
    above_cell c y h = cell_on P s nodes more points points all_grows points_same above.kept c y (above.cells c y h)

    -- a cell that the child did not declare
    past_cell : (c : ℕ) (y : Marks) → has c ≡ false → ShowsCell P s more points above.kept c y → ShowsCell P s more points now c y
    past_cell c y h k = record {
      given = subst (λ (b : Bool). ShowsMark P s more points y.given c (if b then better_chain (above.kept.given c) (gave c) else above.kept.given c)) (sym h) k.given;
      changed = subst (λ (b : Bool). ShowsMark P s more points y.changed c (if b then (if is_read (mode c) then above.kept.changed c else better_chain (above.kept.changed c) (gave c)) else above.kept.changed c)) (sym h) k.changed;
      before = λ op. subst (λ (b : Bool). ShowsMark P s more points (before_of op y) c (if b then (if fold_of_mode op (mode c) then above.kept.before op c else better_chain (above.kept.given c) (gave c)) else above.kept.before op c)) (sym h) (k.before op);
      is_freed = k.is_freed;
      freed = k.freed;
      write_way = k.write_way;
      read_way = k.read_way;
      join_way = k.join_way;
    }

    -- one that it did
    here_cell : (c : ℕ) (y : Marks) (g : Mark) (md : Mode) → has c ≡ true → mode c ≡ md → ShowsMark P s more points g c (gave c) → ShowsCell P s more points above.kept c y → ShowsCell P s more points now c (closed g md y)
    here_cell c y g md h q shown k = go md q
      where
        both : ShowsMark P s more points (better_mark y.given g) c (better_chain (above.kept.given c) (gave c))
        both = better_shown P s more points y.given g c (above.kept.given c) (gave c) k.given shown

        given_now : ShowsMark P s more points (better_mark y.given g) c (now.given c)
        given_now = subst (λ (b : Bool). ShowsMark P s more points (better_mark y.given g) c (if b then better_chain (above.kept.given c) (gave c) else above.kept.given c)) (sym h) both

        changed_now : (m : Mark) (r : Bool) → is_read (mode c) ≡ r → ShowsMark P s more points m c (if r then above.kept.changed c else better_chain (above.kept.changed c) (gave c)) → ShowsMark P s more points m c (now.changed c)
        changed_now m r e a = rw (h, e) a

        before_now : (op : Op) (m : Mark) (r : Bool) → fold_of_mode op (mode c) ≡ r → ShowsMark P s more points m c (if r then above.kept.before op c else better_chain (above.kept.given c) (gave c)) → ShowsMark P s more points m c (now.before op c)
        before_now op m r e a = rw (h, e) a

        changed_both : ShowsMark P s more points (better_mark y.changed g) c (better_chain (above.kept.changed c) (gave c))
        changed_both = better_shown P s more points y.changed g c (above.kept.changed c) (gave c) k.changed shown

        go : (md : Mode) → mode c ≡ md → ShowsCell P s more points now c (closed g md y)
        go Read q = record {
          given = given_now;
          changed = changed_now y.changed true (ap is_read q) k.changed;
          before = λ op. before_now op (better_mark y.given g) false (ap (λ (m : Mode). fold_of_mode op m) q) both;
          is_freed = k.is_freed;
          freed = k.freed;
          write_way = k.write_way;
          read_way = k.read_way;
          join_way = k.join_way;
        }
        go Write q = record {
          given = given_now;
          changed = changed_now (better_mark y.changed g) false (ap is_read q) changed_both;
          before = λ op. before_now op (better_mark y.given g) false (ap (λ (m : Mode). fold_of_mode op m) q) both;
          is_freed = k.is_freed;
          freed = k.freed;
          write_way = k.write_way;
          read_way = k.read_way;
          join_way = k.join_way;
        }
        go (Fold other) q = record {
          given = given_now;
          changed = changed_now (better_mark y.changed g) false (ap is_read q) changed_both;
          before = λ op. run_cell op (Rattle.oss_model.specs.Rights.op_eq op other) refl;
          is_freed = k.is_freed;
          freed = k.freed;
          write_way = k.write_way;
          read_way = k.read_way;
          join_way = k.join_way;
        }
          where
            run_cell : (op : Op) (r : Bool) → Rattle.oss_model.specs.Rights.op_eq op other ≡ r → ShowsMark P s more points (if Rattle.oss_model.specs.Rights.op_eq op other then before_of other y else better_mark y.given g) c (now.before op c)
            run_cell op true e =
                let o : op ≡ other = Rattle.oss_model.proofs.JudgeLemmas.op_eq_is op other e in
                rw e (before_now op (before_of other y) true (ap (λ (m : Mode). fold_of_mode op m) q ∙ e) (subst (λ (z : Op). ShowsMark P s more points (before_of z y) c (above.kept.before op c)) o (k.before op)))
            run_cell op false e = rw e (before_now op (better_mark y.given g) false (ap (λ (m : Mode). fold_of_mode op m) q ∙ e) both)

    cell_now : (c : ℕ) (z : Marks) → value_at new.table.pieces c ≡ Some z → ShowsCell P s more points now c z
    cell_now c z h = go (value_at ch.table.pieces c) refl
      where
        go : (o : Option Marks) → value_at ch.table.pieces c ≡ o → ShowsCell P s more points now c z
        go None q = past_cell c z (ap is_there q) (above_cell c z (sym (close.cells.others c q) ∙ h))
        go (Some x) q = there (value_at old.table.pieces c) refl
          where
            small : c < 1048576
            small = not_past' c (λ l. let y = fits.few c l in absurd (cc))

            cell : IsClosedCell (length close.sealed_nodes) more ch.task x kk (value_at old.table.pieces c) (value_at new.table.pieces c) close.lets
            cell = close.cells.cell c x small q

            shown : ShowsMark P s more points (better_mark cell.value x.given) c (gave c)
            shown =
                subst (λ (b : Longest Happening). ShowsMark P s more points (better_mark cell.value x.given) c b) (sym (gave_is c x q))
                (better_shown P s more points cell.value x.given c (value_of x c) (t.given c) (value_shown c x cell.value q cell.is_value) (mark_on P s nodes more points points all_grows points_same x.given c (t.given c) (told.cells c x q).given))

            there : (o : Option Marks) → value_at old.table.pieces c ≡ o → ShowsCell P s more points now c z
            there None r = let k : None ≡ Some z = sym (cell.new_is ∙ ap (λ (v : Option Marks). changed_at (Close (better_mark cell.value x.given) x.mode) v) r) ∙ h in absurd (cc)
            there (Some y) r =
                let k : closed (better_mark cell.value x.given) x.mode y ≡ z = some_is _ _ (sym (cell.new_is ∙ ap (λ (v : Option Marks). changed_at (Close (better_mark cell.value x.given) x.mode) v) r) ∙ h) in
                subst (λ (m : Marks). ShowsCell P s more points now c m) k (here_cell c y (better_mark cell.value x.given) x.mode (ap is_there q) (mode_here c x q) shown (above_cell c y r))

    pub closed_tells : FrameTells P s more points p n (suc j) new
    closed_tells = record {
      kept = now;
      is_kept = now_kept;
      last = subst (λ (r : Run). ShowsRun P s more points p r above.kept.last) (sym close.rest.2) (run_on P s nodes more points points all_grows points_same p old.run above.kept.last above.last);
      left = subst (λ (b : Best). ShowsBest P s more points b (better_chain above.kept.left leaving.best)) (sym close.left)
          (better_best_shown P s more points old.left new.newest above.kept.left leaving.best (mark_on P s nodes more points points all_grows points_same old.left.mark old.left.cell above.kept.left above.left) leaving.shows);
      newest = tells_same P s more points (LeftWith P s (j ∷ p)) (InActWay P s p (suc j) Awaited) new.newest (λ f h. (j, refl, h)) back leaving;
      cells = cell_now;
    }
      where
        back : (f : Happening) → InActWay P s p (suc j) Awaited f → LeftWith P s (j ∷ p) f
        back f (i, q, h) = let k : i ≡ j = omega (arith, q) in subst (λ (z : ℕ). LeftWith P s (z ∷ p) f) k h
