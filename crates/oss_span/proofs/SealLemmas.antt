-- The last acts of a task as a node.
use Rattle.std.proofs.Common.{◌≡◌, ◌≢◌, ◌≤◌, ◌<◌, ◌⊎◌, inl, inr, refl, sym, subst, ap, ◌∙◌, ℕ, zero, suc, ◌+◌, ◌-◌, ◌^◌, Bool, true, false, List, [], ◌∷◌, ◌++◌, length, map, Option, Some, None, arith}
use Rattle.std.specs.Prelude.{if◌then◌else◌, ◌||◌, ◌&&◌, not, nat_lt, min, slice_get}
use Rattle.std.proofs.lemmas.Bool.Decides.{nat_tests}
use Rattle.oss_syntax.specs.declared.access.Access.{Access}
use Rattle.oss_syntax.specs.declared.access.Range.{Range}
use Rattle.oss_syntax.specs.declared.access.Op.{Op}
use Rattle.oss_syntax.specs.declared.access.Mode.{Mode}
use Rattle.oss_syntax.specs.declared.access.Mode.TheVariants.{Read, Write, Fold}
use Rattle.oss_ranges.specs.declared.piece.Piece.{Piece}
use Rattle.oss_ranges.specs.Cells.{is_within, value_at}
use Rattle.oss_meaning.specs.Clauses.{waited_for}
use Rattle.oss_meaning.specs.Sections.{declared_on}
use Rattle.oss_judge.specs.Joined.{held_right}
use Rattle.oss_machine.specs.Frames.{CodeScript}
use Rattle.oss_model.specs.Bodies.{Act, Order, Program, Start}
use Rattle.oss_model.specs.Bodies.Act.{Awaited, Created, Releases, Waited, WaitedOn}
use Rattle.oss_model.specs.Context.{in_clauses, right_of}
use Rattle.oss_model.specs.History.{IsMade}
use Rattle.oss_model.specs.Machine.{At, HasAccess, State, Task}
use Rattle.oss_model.specs.Order.{written}
use Rattle.oss_model.specs.Rights.{Right, NoRight, Released, Holds}
use Rattle.oss_model.proofs.TreeLemmas.{at_same}
use Rattle.oss_body.specs.declared.act.Act.{Act as CodeAct}
use Rattle.oss_body.specs.declared.act.Act.TheVariants as acts
use Rattle.oss_body.specs.Acts.{act_seen}
use Rattle.oss_chain_laws.specs.Chains.{Best as Longest, better as better_chain, capped, no_chain, one_more}
use Rattle.oss_chain_laws.specs.Happenings.{Happening, Acting, Giving, Does, Frees, StartsWith, WaitsFor, tick_of}
use Rattle.oss_chain_laws.specs.Pass.{Kept, IsKept, acted}
use Rattle.oss_chain_laws.specs.Runs.{ticks_at}
use Rattle.oss_chain_laws.specs.Tables.{GivenBelow, given_below, GivenWith, given_with, InActWay, InReadWay, InTurnWay, turn_way, read_way, write_way, InWriteWay, JustBefore, LeftBelow, LeftWith}
use Rattle.oss_chain_laws.proofs.ChainLemmas.{most_step}
use Rattle.oss_chain_laws.proofs.LongestLemmas.{has_ticks}
use Rattle.oss_chain_laws.proofs.PassLemmas.{Most, same, either_most, no_most, acted_kept, not_nil}
use Rattle.oss_chain_laws.proofs.PassTheorem.{above_access}
use Rattle.oss_chain_laws.proofs.TableLemmas.{act_back, act_forth}
use Rattle.oss_chain_laws.proofs.ValueLemmas.{is_strong_fold as is_fold_right, other_keeps, released_frees, released_keeps, releases_of}
use Rattle.oss_span.specs.declared.best.Best.{Best}
use Rattle.oss_span.specs.declared.best.Mark.{Mark}
use Rattle.oss_span.specs.declared.frame.Frame.{Frame}
use Rattle.oss_span.specs.declared.marks.Marks.{Marks}
use Rattle.oss_span.specs.declared.marks.Way.{Way}
use Rattle.oss_span.specs.declared.marks.Way.TheVariants as ways
use Rattle.oss_span.specs.declared.node.Node.{Node}
use Rattle.oss_span.specs.declared.node.Node.TheVariants.{Acts}
use Rattle.oss_span.specs.declared.run.Run.{Run}
use Rattle.oss_span.specs.Acts.{IsSealed, after_act, ticked}
use Rattle.oss_span.specs.Bests.{better, better_mark, no_best, no_mark}
use Rattle.oss_span.specs.Changes.{before_of, freed, is_strong_fold, picked}
use Rattle.oss_span.specs.Frames.{Grows, IsActed, IsDoneBy, IsOther, IsReleased, IsStartOf, IsWaitOf, is_tick}
use Rattle.oss_span.specs.Shown.{IsBelow, Shows, shows_acts, acts_back}
use Rattle.oss_span.specs.Tables.{IsGreatest, IsGreatestOf, in_ranges, released}
use Rattle.oss_span.proofs.ToldLemmas.{bools, get_last, grows_one, grows_same, most_small, ShowsBest, ShowsMark, ShowsRun, shows_below, shows_on, Tells, tells_better, tells_none, tells_same, better_best_shown, none_shown, weight}
use Rattle.oss_span.proofs.FrameLemmas.{FrameFits, FrameTells, IsTop, ShowsCell}

pub some_more : (n : ℕ) → 0 < n → (k : ℕ) × (n ≡ suc k)
some_more zero h = absurd (omega (arith, h))
some_more (suc k) h = (k, refl)

module _ (P : Program CodeScript) (s : State CodeScript) (nodes more : List Node) (points : List (List ℕ)) where
  -- what is shown is still
  pub mark_on : (others : List (List ℕ)) → Grows nodes more → Grows points others → (m : Mark) (c : ℕ) (b : Longest Happening) → ShowsMark P s nodes points m c b → ShowsMark P s more others m c b
  mark_on others g h m c b t = record { ticks = t.ticks; shows = shows_on P s nodes more points others g h t.shows }

  pub run_on : (others : List (List ℕ)) → Grows nodes more → Grows points others → (p : List ℕ) (r : Run) (b : Longest Happening) → ShowsRun P s nodes points p r b → ShowsRun P s more others p r b
  run_on others g h p r b t = record { ticks = t.ticks; few = t.few; rest = t.rest; shows = shows_on P s nodes more points others g h t.shows; chain = t.chain }

  pub tells_on : (others : List (List ℕ)) → Grows nodes more → Grows points others → (Q : Happening → Type 0) (k : Best) → Tells P s nodes points Q k → Tells P s more others Q k
  tells_on others g h Q k t = record { best = t.best; most = t.most; shows = mark_on others g h k.mark k.cell t.best t.shows }

  pub cell_on : (others : List (List ℕ)) → Grows nodes more → Grows points others → (t : Kept) (c : ℕ) (m : Marks) → ShowsCell P s nodes points t c m → ShowsCell P s more others t c m
  cell_on others g h t c m k = record {
    given = mark_on others g h m.given c (t.given c) k.given;
    changed = mark_on others g h m.changed c (t.changed c) k.changed;
    before = λ op. mark_on others g h (before_of op m) c (t.before op c) (k.before op);
    is_freed = k.is_freed;
    freed = mark_on others g h m.freed c (t.freed c) k.freed;
    write_way = mark_on others g h m.write_way c (t.write_way c) k.write_way;
    read_way = mark_on others g h m.read_way c (t.read_way c) k.read_way;
    join_way = λ op e. mark_on others g h m.join_way c (t.join_way op c) (k.join_way op e);
  }

  pub frame_on : (others : List (List ℕ)) → Grows nodes more → Grows points others → (p : List ℕ) (n m : ℕ) (f : Frame) → FrameTells P s nodes points p n m f → FrameTells P s more others p n m f
  frame_on others g h p n m f t = record {
    kept = t.kept;
    is_kept = t.is_kept;
    last = run_on others g h p f.run t.kept.last t.last;
    left = mark_on others g h f.left.mark f.left.cell t.kept.left t.left;
    newest = tells_on others g h (InActWay P s p m Awaited) f.newest t.newest;
    cells = λ c x e. cell_on others g h t.kept c x (t.cells c x e);
  }

  -- a run of acts as a node
  module _ (task : ℕ) (p : List ℕ) (old new : Run) (best : Best) (v : Longest Happening) (sealed : IsSealed task old new nodes more best) (point : slice_get points task ≡ Some (written p)) (shown : ShowsRun P s nodes points p old v) where
    pub seal_grows : Grows nodes more
    seal_grows = go sealed.node
      where
        go : ((old.count ≡ 0) × (new ≡ old) × (more ≡ nodes) × (best.mark.end ≡ old.before.mark.end) × (best.cell ≡ old.before.cell)) ⊎ ((0 < old.count) × (more ≡ nodes ++ Acts task old.acts old.count old.before ∷ []) × (best.mark.end ≡ Some (length nodes)) × (new.before ≡ best)) → Grows nodes more
        go (inl h) = grows_same nodes more h.2
        go (inr h) = subst (λ (ns : List Node). Grows nodes ns) (sym h.1) (grows_one nodes (Acts task old.acts old.count old.before))

    points_same : Grows points points
    points_same = λ i q h. h

    -- at every cell, where it is a node of its own
    pub seal_anywhere : 0 < old.count → (more ≡ nodes ++ Acts task old.acts old.count old.before ∷ []) → (best.mark.end ≡ Some (length nodes)) → (c : ℕ) → ShowsMark P s more points best.mark c v
    seal_anywhere few h e c = record { ticks = shown.ticks ∙ sym sealed.ticks; shows = rw (e, shown.chain, k.1) (shows_acts p shown.rest node point low below (shows_on P s nodes more points points seal_grows points_same shown.shows)) }
      where
        k : (k : ℕ) × (old.count ≡ suc k)
        k = some_more old.count few

        node : slice_get more (length nodes) ≡ Some (Acts task old.acts (suc k.0) old.before)
        node = ap (λ (ns : List Node). slice_get ns (length nodes)) h ∙ (get_last nodes (Acts task old.acts old.count old.before) ∙ ap (λ (z : ℕ). Some (Acts task old.acts z old.before)) k.1)

        low : suc k.0 ≤ old.acts
        low = let l = shown.few in let e = k.1 in omega (arith, l, e)

        below : IsBelow old.before.mark.end (length nodes)
        below = shows_below P s nodes points old.before.mark.end shown.shows

    chain_none : old.count ≡ 0 → v.chain ≡ shown.rest
    chain_none e = shown.chain ∙ ap (λ (z : ℕ). acts_back p old.acts z shown.rest) e

    pub seal_best : ShowsBest P s more points best v
    seal_best = go sealed.node
      where
        go : ((old.count ≡ 0) × (new ≡ old) × (more ≡ nodes) × (best.mark.end ≡ old.before.mark.end) × (best.cell ≡ old.before.cell)) ⊎ ((0 < old.count) × (more ≡ nodes ++ Acts task old.acts old.count old.before ∷ []) × (best.mark.end ≡ Some (length nodes)) × (new.before ≡ best)) → ShowsBest P s more points best v
        go (inl h) = record { ticks = shown.ticks ∙ sym sealed.ticks; shows = rw (h.3, h.4, chain_none h.0) (shows_on P s nodes more points points seal_grows points_same shown.shows) }
        go (inr h) = seal_anywhere h.0 h.1 h.2 best.cell

    pub seal_run : ShowsRun P s more points p new v
    seal_run = go sealed.node
      where
        go : ((old.count ≡ 0) × (new ≡ old) × (more ≡ nodes) × (best.mark.end ≡ old.before.mark.end) × (best.cell ≡ old.before.cell)) ⊎ ((0 < old.count) × (more ≡ nodes ++ Acts task old.acts old.count old.before ∷ []) × (best.mark.end ≡ Some (length nodes)) × (new.before ≡ best)) → ShowsRun P s more points p new v
        go (inl h) = subst (λ (r : Run). ShowsRun P s more points p r v) (sym h.1) (run_on points seal_grows points_same p old v shown)
        go (inr h) = record {
          ticks = shown.ticks ∙ sym sealed.same.1;
          few = (let e = sealed.same.2 in omega (arith, e));
          rest = v.chain;
          shows = subst (λ (b : Best). Shows P s more points b.mark.end b.cell v.chain) (sym h.3) (seal_anywhere h.0 h.1 h.2 best.cell).shows;
          chain = sym (ap (λ (z : ℕ). acts_back p new.acts z v.chain) sealed.same.2);
        }

    pub seal_all : 0 < old.count → (c : ℕ) → ShowsMark P s more points best.mark c v
    seal_all few c = go sealed.node
      where
        go : ((old.count ≡ 0) × (new ≡ old) × (more ≡ nodes) × (best.mark.end ≡ old.before.mark.end) × (best.cell ≡ old.before.cell)) ⊎ ((0 < old.count) × (more ≡ nodes ++ Acts task old.acts old.count old.before ∷ []) × (best.mark.end ≡ Some (length nodes)) × (new.before ≡ best)) → ShowsMark P s more points best.mark c v
        go (inl h) = let e = h.0 in absurd (omega (arith, e, few))
        go (inr h) = seal_anywhere h.0 h.1 h.2 c
