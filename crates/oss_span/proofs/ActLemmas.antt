-- An act of a task: what is kept is right behind it.
use Rattle.std.proofs.Common.{◌≡◌, ◌≢◌, ◌≤◌, ◌<◌, ◌⊎◌, inl, inr, refl, sym, subst, ap, ◌∙◌, ℕ, zero, suc, ◌+◌, ◌-◌, ◌^◌, Bool, true, false, List, [], ◌∷◌, ◌++◌, length, map, Option, Some, None, arith}
use Rattle.std.specs.Prelude.{if◌then◌else◌, ◌||◌, ◌&&◌, not, nat_lt, min, slice_get}
use Rattle.std.proofs.lemmas.Bool.Decides.{nat_tests}
use Rattle.oss_syntax.specs.declared.access.Access.{Access}
use Rattle.oss_syntax.specs.declared.access.Range.{Range}
use Rattle.oss_syntax.specs.declared.access.Op.{Op}
use Rattle.oss_syntax.specs.declared.access.Mode.{Mode}
use Rattle.oss_syntax.specs.declared.access.Mode.TheVariants.{Read, Write, Fold}
use Rattle.oss_ranges.specs.declared.piece.Piece.{Piece}
use Rattle.oss_ranges.specs.Cells.{is_within, value_at}
use Rattle.oss_meaning.specs.Clauses.{waited_for}
use Rattle.oss_meaning.specs.Sections.{declared_on}
use Rattle.oss_judge.specs.Joined.{held_right}
use Rattle.oss_machine.specs.Frames.{CodeScript}
use Rattle.oss_model.specs.Bodies.{Act, Order, Program, Start}
use Rattle.oss_model.specs.Bodies.Act.{Awaited, Created, Releases, Waited, WaitedOn}
use Rattle.oss_model.specs.Context.{in_clauses, right_of}
use Rattle.oss_model.specs.History.{IsMade}
use Rattle.oss_model.specs.Machine.{At, HasAccess, State, Task}
use Rattle.oss_model.specs.Order.{written}
use Rattle.oss_model.specs.Rights.{Right, NoRight, Released, Holds}
use Rattle.oss_model.proofs.TreeLemmas.{at_same}
use Rattle.oss_body.specs.declared.act.Act.{Act as CodeAct}
use Rattle.oss_body.specs.declared.act.Act.TheVariants as acts
use Rattle.oss_body.specs.Acts.{act_seen}
use Rattle.oss_chain_laws.specs.Chains.{Best as Longest, better as better_chain, capped, no_chain, one_more}
use Rattle.oss_chain_laws.specs.Happenings.{Happening, Acting, Giving, Does, Frees, StartsWith, WaitsFor, tick_of}
use Rattle.oss_chain_laws.specs.Pass.{Kept, IsKept, acted}
use Rattle.oss_chain_laws.specs.Runs.{ticks_at}
use Rattle.oss_chain_laws.specs.Tables.{GivenBelow, given_below, GivenWith, given_with, InActWay, InReadWay, InTurnWay, turn_way, read_way, write_way, InWriteWay, JustBefore, LeftBelow, LeftWith}
use Rattle.oss_chain_laws.proofs.ChainLemmas.{most_step}
use Rattle.oss_chain_laws.proofs.LongestLemmas.{has_ticks}
use Rattle.oss_chain_laws.proofs.PassLemmas.{Most, same, either_most, no_most, acted_kept, not_nil}
use Rattle.oss_chain_laws.proofs.PassTheorem.{above_access}
use Rattle.oss_chain_laws.proofs.TableLemmas.{act_back, act_forth}
use Rattle.oss_chain_laws.proofs.ValueLemmas.{is_strong_fold as is_fold_right, other_keeps, released_frees, released_keeps, releases_of}
use Rattle.oss_span.specs.declared.best.Best.{Best}
use Rattle.oss_span.specs.declared.best.Mark.{Mark}
use Rattle.oss_span.specs.declared.frame.Frame.{Frame}
use Rattle.oss_span.specs.declared.marks.Marks.{Marks}
use Rattle.oss_span.specs.declared.marks.Way.{Way}
use Rattle.oss_span.specs.declared.marks.Way.TheVariants as ways
use Rattle.oss_span.specs.declared.node.Node.{Node}
use Rattle.oss_span.specs.declared.node.Node.TheVariants.{Acts}
use Rattle.oss_span.specs.declared.run.Run.{Run}
use Rattle.oss_span.specs.Acts.{IsSealed, after_act, ticked}
use Rattle.oss_span.specs.Bests.{better, better_mark, no_best, no_mark}
use Rattle.oss_span.specs.Changes.{before_of, freed, is_strong_fold, picked}
use Rattle.oss_span.specs.Frames.{Grows, IsActed, IsDoneBy, IsOther, IsReleased, IsStartOf, IsWaitOf, is_tick}
use Rattle.oss_span.specs.Shown.{IsBelow, Shows, shows_acts, acts_back}
use Rattle.oss_span.specs.Tables.{IsGreatest, IsGreatestOf, in_ranges, released}
use Rattle.oss_span.proofs.ToldLemmas.{bools, get_last, grows_one, grows_same, most_small, ShowsBest, ShowsMark, ShowsRun, shows_below, shows_on, Tells, tells_better, tells_none, tells_same, better_best_shown, none_shown, weight}
use Rattle.oss_span.proofs.FrameLemmas.{FrameFits, FrameTells, IsTop, InFirstWay, ShowsCell, held_same, tells_cells, told_right, told_some}

ranges_same : (ranges : List Range) (c : ℕ) → in_ranges ranges c ≡ in_clauses (declared_on waited_for ranges) c
ranges_same [] c = refl
ranges_same (r ∷ rest) c = ap (λ (b : Bool). is_within r.lo r.hi c || b) (ranges_same rest c)

within_all : (c : ℕ) → c < 1048576 → is_within 0 1048576 c ≡ true
within_all c h = grind (arith, nat_tests)

not_past : (c : ℕ) → (1048576 ≤ c → ⊥) → c < 1048576
not_past c h = grind arith

-- the ticks of an act
tick_is : (ca : CodeAct) (t : ℕ) → t ≤ 2 ^ 64 - 1 → capped (tick_of (act_seen ca) + t) ≡ ticked (is_tick ca) t
tick_is acts.Tick t h = one t
  where
    one : (t : ℕ) → capped (1 + t) ≡ min (t + 1) (2 ^ 64 - 1)
    one t = grind arith
tick_is (acts.Load c) t h = grind arith
tick_is (acts.Store c v) t h = grind arith
tick_is (acts.Fold c op v slot) t h = grind arith
tick_is (acts.Create creation included) t h = grind arith
tick_is acts.Await t h = grind arith
tick_is acts.Wait t h = grind arith
tick_is (acts.WaitOn ranges) t h = grind arith
tick_is (acts.Release clauses included) t h = grind arith
tick_is (acts.Print key text) t h = grind arith
tick_is acts.End t h = grind arith
tick_is (acts.Fault kind line key) t h = grind arith

one_more_act : (n : ℕ) → n + 1 ≡ suc n
one_more_act n = omega arith

picked_read : (x : Marks) → x.mode ≡ Read → x.strong ≡ true → picked ways.Start x ≡ x.read_way
picked_read x a b = rw (b, a) refl

picked_write : (x : Marks) → x.mode ≡ Write → x.strong ≡ true → picked ways.Start x ≡ x.write_way
picked_write x a b = rw (b, a) refl

picked_fold : (x : Marks) (op : Op) → x.mode ≡ Fold op → x.strong ≡ true → picked ways.Start x ≡ no_mark
picked_fold x op a b = rw (b, a) refl

picked_weak : (x : Marks) → x.strong ≡ false → picked ways.Start x ≡ no_mark
picked_weak x b = rw b refl

same_strong : (a b : Mode) (x y : Bool) → Holds a x ≡ Holds b y → (a ≡ b) × (x ≡ y)
same_strong a b x y e = (cc, cc)

module _ (P : Program CodeScript) (s : State CodeScript) where
  first_access : (p : List ℕ) (n c : ℕ) (g : Happening) → InFirstWay s p n c g → HasAccess s c p
  first_access [] n c g q = absurd q
  first_access (k ∷ p) (suc n) c g q = absurd q
  first_access (k ∷ p) zero c g (inl (r, q)) = record { task = r.task; at_ = r.at_; mode = Read; strong = true; right = r.right_is }
  first_access (k ∷ p) zero c g (inr (r, q)) = record { task = r.task; at_ = r.at_; mode = Write; strong = true; right = r.right_is }

  first_later : (p : List ℕ) (i c : ℕ) (g : Happening) → InFirstWay s p (suc i) c g → ⊥
  first_later [] i c g q = q
  first_later (k ∷ p) i c g q = q

  module _ (nodes : List Node) (points : List (List ℕ)) where
    nothing_first : (p : List ℕ) (n c : ℕ) (x : Marks) → ((g : Happening) → InFirstWay s p n c g → ⊥) → picked ways.Start x ≡ no_mark → (b : Longest Happening) × ShowsMark P s nodes points (picked ways.Start x) c b × Most P s (weight P s) (InFirstWay s p n c) b
    nothing_first p n c x h k = (no_chain, subst (λ (y : Mark). ShowsMark P s nodes points y c no_chain) (sym k) (none_shown P s nodes points c), no_most P s (weight P s) (InFirstWay s p n c) h)

    top_picked : (x : Marks) → IsTop x → picked ways.Start x ≡ no_mark
    top_picked x t = go x.strong refl
      where
        go : (b : Bool) → x.strong ≡ b → picked ways.Start x ≡ no_mark
        go true e = picked_write x t.mode e ∙ t.write_way
        go false e = picked_weak x e

    start_value : (p : List ℕ) (n m : ℕ) (t : Kept) (c : ℕ) (x : Marks) {r : Right} → r ≡ Holds x.mode x.strong → ShowsCell P s nodes points t c x → IsKept P s (weight P s) p n m t → n ≡ 0 → StartsWith s p c (Holds x.mode x.strong)
        → (StartsWith s p c (Holds Read true) → r ≡ Holds Read true) → (StartsWith s p c (Holds Write true) → r ≡ Holds Write true) → (p ≡ [] → IsTop x)
        → (b : Longest Happening) × ShowsMark P s nodes points (picked ways.Start x) c b × Most P s (weight P s) (InFirstWay s p n c) b
    start_value [] n m t c x right cell kept zeroth start reads writes top = nothing_first [] n c x (λ g q. q) (top_picked x (top refl))
    start_value (k ∷ p) (suc n) m t c x right cell kept zeroth start reads writes top = absurd (omega (arith, zeroth))
    start_value (k ∷ p) zero m t c x {r = r} right cell kept zeroth start reads writes top = go x.mode x.strong refl refl
      where
        read_only : x.mode ≢ Read ⊎ (x.strong ≡ false) → (StartsWith s (k ∷ p) c (Holds Read true)) → ⊥
        read_only h q = which h (same_strong x.mode Read x.strong true (sym right ∙ reads q))
          where
            which : x.mode ≢ Read ⊎ (x.strong ≡ false) → (x.mode ≡ Read) × (x.strong ≡ true) → ⊥
            which (inl ne) y = ne y.0
            which (inr f) y = let z = y.1 in cc

        write_only : x.mode ≢ Write ⊎ (x.strong ≡ false) → (StartsWith s (k ∷ p) c (Holds Write true)) → ⊥
        write_only h q = which h (same_strong x.mode Write x.strong true (sym right ∙ writes q))
          where
            which : x.mode ≢ Write ⊎ (x.strong ≡ false) → (x.mode ≡ Write) × (x.strong ≡ true) → ⊥
            which (inl ne) y = ne y.0
            which (inr f) y = let z = y.1 in cc

        neither : x.mode ≢ Read ⊎ (x.strong ≡ false) → x.mode ≢ Write ⊎ (x.strong ≡ false) → (g : Happening) → InFirstWay s (k ∷ p) 0 c g → ⊥
        neither a b g (inl q) = read_only a q.0
        neither a b g (inr q) = write_only b q.0

        access : HasAccess s c (k ∷ p)
        access = record { task = start.task; at_ = start.at_; mode = x.mode; strong = x.strong; right = start.right_is }

        go : (md : Mode) (strong : Bool) → x.mode ≡ md → x.strong ≡ strong → (b : Longest Happening) × ShowsMark P s nodes points (picked ways.Start x) c b × Most P s (weight P s) (InFirstWay s (k ∷ p) 0 c) b
        go md false a b = nothing_first (k ∷ p) 0 c x (neither (inr b) (inr b)) (picked_weak x b)
        go (Fold op) true a b = nothing_first (k ∷ p) 0 c x (neither (inl (λ e. let z = sym a ∙ e in cc)) (inl (λ e. let z = sym a ∙ e in cc))) (picked_fold x op a b)
        go Read true a b = (
          t.read_way c,
          subst (λ (y : Mark). ShowsMark P s nodes points y c (t.read_way c)) (sym (picked_read x a b)) cell.read_way,
          same P s (weight P s) (InReadWay s c (k ∷ p)) (InFirstWay s (k ∷ p) 0 c) (t.read_way c) (λ g q. inl (begins, q)) back (kept.read_way c not_nil access),
        )
          where
            begins : StartsWith s (k ∷ p) c (Holds Read true)
            begins = record { task = start.task; at_ = start.at_; right_is = start.right_is ∙ (λ i. Holds (a i) (b i)) }

            back : (g : Happening) → InFirstWay s (k ∷ p) 0 c g → InReadWay s c (k ∷ p) g
            back g (inl q) = q.1
            back g (inr q) = absurd (write_only (inl (λ e. let z = sym a ∙ e in cc)) q.0)
        go Write true a b = (
          t.write_way c,
          subst (λ (y : Mark). ShowsMark P s nodes points y c (t.write_way c)) (sym (picked_write x a b)) cell.write_way,
          same P s (weight P s) (InWriteWay s c (k ∷ p)) (InFirstWay s (k ∷ p) 0 c) (t.write_way c) (λ g q. inr (begins, q)) back (kept.write_way c not_nil access),
        )
          where
            begins : StartsWith s (k ∷ p) c (Holds Write true)
            begins = record { task = start.task; at_ = start.at_; right_is = start.right_is ∙ (λ i. Holds (a i) (b i)) }

            back : (g : Happening) → InFirstWay s (k ∷ p) 0 c g → InWriteWay s c (k ∷ p) g
            back g (inr q) = q.1
            back g (inl q) = absurd (read_only (inl (λ e. let z = sym a ∙ e in cc)) q.0)

-- which of two chains is the better
pub better_last : (a b : Longest Happening) (x y : ℕ) → a.ticks ≡ x → b.ticks ≡ y → nat_lt x y ≡ true → better_chain a b ≡ b
better_last a b x y e h l = let k : nat_lt a.ticks b.ticks ≡ true = rw (e, h) l in ap (λ (t : Bool). if t then b else a) k

pub better_front : (a b : Longest Happening) (x y : ℕ) → a.ticks ≡ x → b.ticks ≡ y → nat_lt x y ≡ false → better_chain a b ≡ a
better_front a b x y e h l = let k : nat_lt a.ticks b.ticks ≡ false = rw (e, h) l in ap (λ (t : Bool). if t then b else a) k

after_other : (other : Best) (tick : Bool) (r : Run) → nat_lt r.ticks other.mark.ticks ≡ true → after_act other tick r ≡ record { acts = r.acts + 1; ticks = ticked tick other.mark.ticks; count = 1; before = other }
after_other other tick r l = rw l refl

after_own : (other : Best) (tick : Bool) (r : Run) → nat_lt r.ticks other.mark.ticks ≡ false → after_act other tick r ≡ record { acts = r.acts + 1; ticks = ticked tick r.ticks; count = r.count + 1; before = r.before }
after_own other tick r l = rw l refl

module _ (P : Program CodeScript) (main : Start CodeScript) (s : State CodeScript) (made : IsMade P main s) (nodes : List Node) (points : List (List ℕ)) where
  module _ (p : List ℕ) (n m : ℕ) (f : Frame) (u : Task CodeScript) (at_ : At s p u) (fits : FrameFits points u.body.start p n f) (told : FrameTells P s nodes points p n m f) (tops : p ≡ [] → (c : ℕ) (x : Marks) → value_at f.table.pieces c ≡ Some x → IsTop x) where
    -- the right to a cell of which something is kept, and the other way round
    pub right_is : (c : ℕ) (x : Marks) → value_at f.table.pieces c ≡ Some x → right_of u.body.start.context c ≡ Holds x.mode x.strong
    right_is c x e = held_same (right_of u.body.start.context c) x.mode x.strong (sym (fits.rights c) ∙ ap told_right e)

    pub kept_is : (c : ℕ) (md : Mode) (strong : Bool) → right_of u.body.start.context c ≡ Holds md strong → (x : Marks) × (value_at f.table.pieces c ≡ Some x) × (x.mode ≡ md) × (x.strong ≡ strong)
    kept_is c md strong h = told_some (value_at f.table.pieces c) md strong (fits.rights c ∙ ap held_right h)

    pub access_kept : (c : ℕ) → HasAccess s c p → (x : Marks) × (value_at f.table.pieces c ≡ Some x)
    access_kept c a =
        let e : right_of u.body.start.context c ≡ Holds a.mode a.strong = subst (λ (t : Task CodeScript). right_of t.body.start.context c ≡ Holds a.mode a.strong) (at_same s p a.task u a.at_ at_) a.right in
        let k = kept_is c a.mode a.strong e in
        (k.0, k.1)

    start_right : (c : ℕ) (md : Mode) → StartsWith s p c (Holds md true) → right_of u.body.start.context c ≡ Holds md true
    start_right c md r = subst (λ (t : Task CodeScript). right_of t.body.start.context c ≡ Holds md true) (at_same s p r.task u r.at_ at_) r.right_is

    starts : (c : ℕ) (x : Marks) → value_at f.table.pieces c ≡ Some x → StartsWith s p c (Holds x.mode x.strong)
    starts c x e = record { task = u; at_ = at_; right_is = right_is c x e }

    -- what stands in the way of the first act
    start_shown : n ≡ 0 → (c : ℕ) (x : Marks) → value_at f.table.pieces c ≡ Some x → (b : Longest Happening) × ShowsMark P s nodes points (picked ways.Start x) c b × Most P s (weight P s) (InFirstWay s p n c) b
    start_shown zeroth c x e =
        start_value P s nodes points p n m told.kept c x (right_is c x e) (told.cells c x e) told.is_kept zeroth (starts c x e) (λ r. start_right c Read r) (λ r. start_right c Write r) (λ q. tops q c x e)

    start_all : (c : ℕ) (g : Happening) → InFirstWay s p n c g → (x : Marks) × (is_within 0 1048576 c ≡ true) × (value_at f.table.pieces c ≡ Some x)
    start_all c g q =
        let h = first_access P s p n c g q in
        let k = access_kept c h in
        (k.0, within_all c (not_past c (λ l. let z = fits.few c l in let y = k.1 in absurd (cc))), k.1)

    first_empty : (i : ℕ) → n ≡ suc i → (g : Happening) → (c : ℕ) × InFirstWay s p n c g → ⊥
    first_empty i e g (c, q) = first_later P s p i c g (subst (λ (k : ℕ). InFirstWay s p k c g) e q)

    pub start_tells : (best : Best) → IsStartOf f best → Tells P s nodes points (λ g. (c : ℕ) × InFirstWay s p n c g) best
    start_tells best is = go n refl
      where
        go : (i : ℕ) → n ≡ i → Tells P s nodes points (λ g. (c : ℕ) × InFirstWay s p n c g) best
        go zero e =
            let g = is.first (fits.acts ∙ e) in
            tells_cells P s nodes points ways.Start f.table.pieces (λ c. is_within 0 1048576 c) (λ c h. InFirstWay s p n c h) best g.most g.one (λ c x i v. start_shown e c x v) start_all
        go (suc i) e = subst (λ (k : Best). Tells P s nodes points (λ g. (c : ℕ) × InFirstWay s p n c g) k) (sym (is.later i (fits.acts ∙ e))) (tells_none P s nodes points (λ g. (c : ℕ) × InFirstWay s p n c g) (first_empty i e))

    -- what a wait waits for
    wait_shown : (named : List Access) (c : ℕ) (x : Marks) → in_clauses named c ≡ true → value_at f.table.pieces c ≡ Some x → (b : Longest Happening) × ShowsMark P s nodes points (picked ways.Given x) c b × Most P s (weight P s) (λ g. (in_clauses named c ≡ true) × GivenBelow s c p m g) b
    wait_shown named c x i e = (
      told.kept.given c,
      (told.cells c x e).given,
      same P s (weight P s) (GivenBelow s c p m) (λ g. (in_clauses named c ≡ true) × GivenBelow s c p m g) (told.kept.given c) (λ g q. (i, q)) (λ g q. q.1) (told.is_kept.given c),
    )

    given_access : (c : ℕ) (g : Happening) → GivenBelow s c p m g → HasAccess s c p
    given_access c g (given_below i l (given_with a b)) = above_access P main s made (weight P s) c i p a

    wait_all : (named : List Access) (c : ℕ) (g : Happening) → (in_clauses named c ≡ true) × GivenBelow s c p m g → (x : Marks) × (in_clauses named c ≡ true) × (value_at f.table.pieces c ≡ Some x)
    wait_all named c g q = let k = access_kept c (given_access c g q.1) in (k.0, q.0, k.1)

    ranged : (ranges : List Range) (best : Best) → IsGreatestOf ways.Given f.table.pieces ranges best → Tells P s nodes points (InActWay P s p m (act_seen (acts.WaitOn ranges))) best
    ranged ranges best g =
        tells_same P s nodes points (λ h. (c : ℕ) × ((in_clauses (declared_on waited_for ranges) c ≡ true) × GivenBelow s c p m h)) (InActWay P s p m (act_seen (acts.WaitOn ranges))) best (λ h q. (q.0, q.1.0, q.1.1)) (λ h q. (q.0, (q.1, q.2)))
        (tells_cells P s nodes points ways.Given f.table.pieces (λ c. in_clauses (declared_on waited_for ranges) c) (λ c h. (in_clauses (declared_on waited_for ranges) c ≡ true) × GivenBelow s c p m h) best
        (λ c x i e. g.most c x (ranges_same ranges c ∙ i) e) (one g.one) (λ c x i e. wait_shown (declared_on waited_for ranges) c x i e) (wait_all (declared_on waited_for ranges)))
      where
        one : (best ≡ no_best) ⊎ ((c : ℕ) × (x : Marks) × (in_ranges ranges c ≡ true) × (value_at f.table.pieces c ≡ Some x) × (best ≡ record { mark = picked ways.Given x; cell = c }))
            → (best ≡ no_best) ⊎ ((c : ℕ) × (x : Marks) × (in_clauses (declared_on waited_for ranges) c ≡ true) × (value_at f.table.pieces c ≡ Some x) × (best ≡ record { mark = picked ways.Given x; cell = c }))
        one (inl e) = inl e
        one (inr (c, x, i, v, e)) = inr (c, x, sym (ranges_same ranges c) ∙ i, v, e)

    nothing_waited : (a : Act CodeScript) (best : Best) → ((g : Happening) → InActWay P s p m a g → ⊥) → best ≡ no_best → Tells P s nodes points (InActWay P s p m a) best
    nothing_waited a best h e = subst (λ (k : Best). Tells P s nodes points (InActWay P s p m a) k) (sym e) (tells_none P s nodes points (InActWay P s p m a) h)

    pub wait_tells : (ca : CodeAct) (best : Best) → IsWaitOf f ca best → Tells P s nodes points (InActWay P s p m (act_seen ca)) best
    wait_tells acts.Wait best e = subst (λ (k : Best). Tells P s nodes points (LeftBelow P s p m) k) (sym e) (record { best = told.kept.left; most = told.is_kept.left; shows = told.left })
    wait_tells acts.Await best e = subst (λ (k : Best). Tells P s nodes points (InActWay P s p m Awaited) k) (sym e) told.newest
    wait_tells (acts.WaitOn ranges) best g = ranged ranges best g
    wait_tells acts.Tick best e = nothing_waited (act_seen acts.Tick) best (λ g h. h) e
    wait_tells (acts.Load c) best e = nothing_waited (act_seen (acts.Load c)) best (λ g h. h) e
    wait_tells (acts.Store c v) best e = nothing_waited (act_seen (acts.Store c v)) best (λ g h. h) e
    wait_tells (acts.Fold c op v slot) best e = nothing_waited (act_seen (acts.Fold c op v slot)) best (λ g h. h) e
    wait_tells (acts.Create creation included) best e = nothing_waited (act_seen (acts.Create creation included)) best (λ g h. h) e
    wait_tells (acts.Release clauses included) best e = nothing_waited (act_seen (acts.Release clauses included)) best (λ g h. h) e
    wait_tells (acts.Print key text) best e = nothing_waited (act_seen (acts.Print key text)) best (λ g h. h) e
    wait_tells acts.End best e = nothing_waited (act_seen acts.End) best (λ g h. h) e
    wait_tells (acts.Fault kind line key) best e = nothing_waited (act_seen (acts.Fault kind line key)) best (λ g h. h) e

    -- what the act waits for, by its number
    turn_forth : (i : ℕ) (q : List ℕ) (g : Happening) → JustBefore P s q i g ⊎ ((c : ℕ) × InFirstWay s q i c g) → InTurnWay P s q i g
    turn_forth i q g (inl h) = turn_way h
    turn_forth i [] g (inr (c, h)) = absurd h
    turn_forth (suc i) (k ∷ q) g (inr (c, h)) = absurd h
    turn_forth zero (k ∷ q) g (inr (c, inl h)) = read_way c h.0 h.1
    turn_forth zero (k ∷ q) g (inr (c, inr h)) = write_way c h.0 h.1

    turn_back : (i : ℕ) (q : List ℕ) (g : Happening) → InTurnWay P s q i g → JustBefore P s q i g ⊎ ((c : ℕ) × InFirstWay s q i c g)
    turn_back i q g (turn_way h) = inl h
    turn_back i q g (read_way c r h) = inr (c, inl (r, h))
    turn_back i q g (write_way c r h) = inr (c, inr (r, h))

    module _ (ca : CodeAct) (other : Best) (d : Does P s p n m (act_seen ca)) (is_other : IsOther f ca other) where
      abbrev Others : Happening → Type 0
      Others g = ((c : ℕ) × InFirstWay s p n c g) ⊎ InActWay P s p m (act_seen ca) g

      others : Tells P s nodes points Others other
      others =
          subst (λ (k : Best). Tells P s nodes points Others k) (sym is_other.best_is)
          (tells_better P s nodes points (λ g. (c : ℕ) × InFirstWay s p n c g) (InActWay P s p m (act_seen ca)) is_other.start is_other.wait (start_tells is_other.start is_other.is_start) (wait_tells ca is_other.wait is_other.is_wait))

      pub value : Longest Happening
      value = one_more (weight P s) (Acting p n) (better_chain told.kept.last others.best)

      into : (g : Happening) → JustBefore P s p n g ⊎ Others g → WaitsFor P s (Acting p n) g
      into g (inl h) = act_back P s p n m (act_seen ca) g d (inl (turn_way h))
      into g (inr (inl h)) = act_back P s p n m (act_seen ca) g d (inl (turn_forth n p g (inr h)))
      into g (inr (inr h)) = act_back P s p n m (act_seen ca) g d (inr h)

      from : (g : Happening) → WaitsFor P s (Acting p n) g → JustBefore P s p n g ⊎ Others g
      from g w = go (act_forth P s p n m (act_seen ca) g d w)
        where
          turn : JustBefore P s p n g ⊎ ((c : ℕ) × InFirstWay s p n c g) → JustBefore P s p n g ⊎ Others g
          turn (inl h) = inl h
          turn (inr h) = inr (inl h)

          go : InTurnWay P s p n g ⊎ InActWay P s p m (act_seen ca) g → JustBefore P s p n g ⊎ Others g
          go (inl h) = turn (turn_back n p g h)
          go (inr h) = inr (inr h)

      all_most : Most P s (weight P s) (WaitsFor P s (Acting p n)) (better_chain told.kept.last others.best)
      all_most =
          same P s (weight P s) (λ g. JustBefore P s p n g ⊎ Others g) (WaitsFor P s (Acting p n)) (better_chain told.kept.last others.best) into from
          (either_most P s (weight P s) (JustBefore P s p n) Others told.kept.last others.best told.is_kept.last others.most)

      pub value_most : Most P s (weight P s) (λ g. g ≡ Acting p n) value
      unfolding value
      value_most = most_step (WaitsFor P s) (weight P s) (Acting p n) (better_chain told.kept.last others.best) all_most

      -- what is kept of the act shows it
      module _ (run : Run) (run_is : run ≡ after_act other (is_tick ca) f.run) where
        acts_are : f.run.acts ≡ n
        acts_are = fits.acts

        back_one : (a k : ℕ) (rest : List Happening) → a ≡ n → acts_back p (a + 1) (k + 1) rest ≡ Acting p n ∷ acts_back p a k rest
        back_one a k rest e = (λ i. acts_back p (one_more_act a i) (one_more_act k i) rest) ∙ ap (λ (z : ℕ). Acting p z ∷ acts_back p a k rest) e

        weighs : (t : ℕ) → t ≤ 2 ^ 64 - 1 → capped (weight P s (Acting p n) + t) ≡ ticked (is_tick ca) t
        weighs t l = ap (λ (w : ℕ). capped (w + t)) ((has_ticks P s).acting d) ∙ tick_is ca t l

        small : (b : Longest Happening) (Q : Happening → Type 0) → Most P s (weight P s) Q b → b.ticks ≤ 2 ^ 64 - 1
        small b Q h = most_small P s Q b h

        go : (b : Bool) → nat_lt f.run.ticks other.mark.ticks ≡ b → ShowsRun P s nodes points p run value
        unfolding value
        go true e =
            let r : run ≡ record { acts = f.run.acts + 1; ticks = ticked (is_tick ca) other.mark.ticks; count = 1; before = other } = run_is ∙ after_other other (is_tick ca) f.run e in
            let c : better_chain told.kept.last others.best ≡ others.best = better_last told.kept.last others.best f.run.ticks other.mark.ticks told.last.ticks others.shows.ticks e in
            rw (r, c) (record {
              ticks = weighs others.best.ticks (small others.best Others others.most) ∙ ap (λ (z : ℕ). ticked (is_tick ca) z) others.shows.ticks;
              few = omega arith;
              rest = others.best.chain;
              shows = others.shows.shows;
              chain = sym (back_one f.run.acts 0 others.best.chain acts_are);
            })
        go false e =
            let r : run ≡ record { acts = f.run.acts + 1; ticks = ticked (is_tick ca) f.run.ticks; count = f.run.count + 1; before = f.run.before } = run_is ∙ after_own other (is_tick ca) f.run e in
            let c : better_chain told.kept.last others.best ≡ told.kept.last = better_front told.kept.last others.best f.run.ticks other.mark.ticks told.last.ticks others.shows.ticks e in
            rw (r, c) (record {
              ticks = weighs told.kept.last.ticks (small told.kept.last (JustBefore P s p n) told.is_kept.last) ∙ ap (λ (z : ℕ). ticked (is_tick ca) z) told.last.ticks;
              few = (let l = told.last.few in omega (arith, l));
              rest = told.last.rest;
              shows = told.last.shows;
              chain = ap (λ (es : List Happening). Acting p n ∷ es) told.last.chain ∙ sym (back_one f.run.acts f.run.count told.last.rest acts_are);
            })

        pub run_shown : ShowsRun P s nodes points p run value
        run_shown = go (nat_lt f.run.ticks other.mark.ticks) refl

        pub run_acts : run.acts ≡ suc n
        run_acts = count (nat_lt f.run.ticks other.mark.ticks) refl
          where
            count : (b : Bool) → nat_lt f.run.ticks other.mark.ticks ≡ b → run.acts ≡ suc n
            count true e = ap (λ (r : Run). r.acts) (run_is ∙ after_other other (is_tick ca) f.run e) ∙ (ap (λ (z : ℕ). z + 1) acts_are ∙ one_more_act n)
            count false e = ap (λ (r : Run). r.acts) (run_is ∙ after_own other (is_tick ca) f.run e) ∙ (ap (λ (z : ℕ). z + 1) acts_are ∙ one_more_act n)

        pub run_some : (k : ℕ) × (run.count ≡ suc k)
        run_some = count (nat_lt f.run.ticks other.mark.ticks) refl
          where
            count : (b : Bool) → nat_lt f.run.ticks other.mark.ticks ≡ b → (k : ℕ) × (run.count ≡ suc k)
            count true e = (0, ap (λ (r : Run). r.count) (run_is ∙ after_other other (is_tick ca) f.run e))
            count false e = (f.run.count, ap (λ (r : Run). r.count) (run_is ∙ after_own other (is_tick ca) f.run e) ∙ one_more_act f.run.count)
