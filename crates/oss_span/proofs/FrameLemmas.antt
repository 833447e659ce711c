-- What is kept of a task, against the tables of the pass; and its acts.
use Rattle.std.proofs.Common.{◌≡◌, ◌≢◌, ◌≤◌, ◌<◌, ◌⊎◌, inl, inr, refl, sym, subst, ap, ◌∙◌, ℕ, zero, suc, ◌+◌, ◌-◌, ◌^◌, Bool, true, false, List, [], ◌∷◌, ◌++◌, length, map, Option, Some, None, arith}
use Rattle.std.specs.Prelude.{if◌then◌else◌, ◌||◌, ◌&&◌, not, nat_lt, min, slice_get}
use Rattle.std.proofs.lemmas.Bool.Decides.{nat_tests}
use Rattle.oss_syntax.specs.declared.access.Access.{Access}
use Rattle.oss_syntax.specs.declared.access.Range.{Range}
use Rattle.oss_syntax.specs.declared.access.Op.{Op}
use Rattle.oss_syntax.specs.declared.access.Mode.{Mode}
use Rattle.oss_syntax.specs.declared.access.Mode.TheVariants.{Read, Write, Fold}
use Rattle.oss_ranges.specs.declared.piece.Piece.{Piece}
use Rattle.oss_ranges.specs.Cells.{is_within, value_at}
use Rattle.oss_meaning.specs.Clauses.{waited_for}
use Rattle.oss_meaning.specs.Sections.{declared_on}
use Rattle.oss_judge.specs.Joined.{held_right}
use Rattle.oss_machine.specs.Frames.{CodeScript}
use Rattle.oss_model.specs.Bodies.{Act, Order, Program, Start}
use Rattle.oss_model.specs.Bodies.Act.{Awaited, Created, Releases, Waited, WaitedOn}
use Rattle.oss_model.specs.Context.{in_clauses, right_of}
use Rattle.oss_model.specs.History.{IsMade}
use Rattle.oss_model.specs.Machine.{At, HasAccess, State, Task}
use Rattle.oss_model.specs.Order.{written}
use Rattle.oss_model.specs.Rights.{Right, NoRight, Released, Holds}
use Rattle.oss_model.proofs.TreeLemmas.{at_same}
use Rattle.oss_body.specs.declared.act.Act.{Act as CodeAct}
use Rattle.oss_body.specs.declared.act.Act.TheVariants as acts
use Rattle.oss_body.specs.Acts.{act_seen}
use Rattle.oss_chain_laws.specs.Chains.{Best as Longest, better as better_chain, capped, no_chain, one_more}
use Rattle.oss_chain_laws.specs.Happenings.{Happening, Acting, Giving, Does, Frees, StartsWith, WaitsFor, tick_of}
use Rattle.oss_chain_laws.specs.Pass.{Kept, IsKept, acted}
use Rattle.oss_chain_laws.specs.Runs.{ticks_at}
use Rattle.oss_chain_laws.specs.Tables.{GivenBelow, given_below, GivenWith, given_with, InActWay, InReadWay, InTurnWay, turn_way, read_way, write_way, InWriteWay, JustBefore, LeftBelow, LeftWith}
use Rattle.oss_chain_laws.proofs.ChainLemmas.{most_step}
use Rattle.oss_chain_laws.proofs.LongestLemmas.{has_ticks}
use Rattle.oss_chain_laws.proofs.PassLemmas.{Most, same, either_most, no_most, acted_kept, not_nil}
use Rattle.oss_chain_laws.proofs.PassTheorem.{above_access}
use Rattle.oss_chain_laws.proofs.TableLemmas.{act_back, act_forth}
use Rattle.oss_chain_laws.proofs.ValueLemmas.{is_strong_fold as is_fold_right, other_keeps, released_frees, released_keeps, releases_of}
use Rattle.oss_span.specs.declared.best.Best.{Best}
use Rattle.oss_span.specs.declared.best.Mark.{Mark}
use Rattle.oss_span.specs.declared.frame.Frame.{Frame}
use Rattle.oss_span.specs.declared.marks.Marks.{Marks}
use Rattle.oss_span.specs.declared.marks.Way.{Way}
use Rattle.oss_span.specs.declared.marks.Way.TheVariants as ways
use Rattle.oss_span.specs.declared.node.Node.{Node}
use Rattle.oss_span.specs.declared.node.Node.TheVariants.{Acts}
use Rattle.oss_span.specs.declared.run.Run.{Run}
use Rattle.oss_span.specs.Acts.{IsSealed, after_act, ticked}
use Rattle.oss_span.specs.Bests.{better, better_mark, no_best, no_mark}
use Rattle.oss_span.specs.Changes.{before_of, freed, is_strong_fold, picked}
use Rattle.oss_span.specs.Frames.{Grows, IsActed, IsDoneBy, IsOther, IsReleased, IsStartOf, IsWaitOf, is_tick}
use Rattle.oss_span.specs.Shown.{IsBelow, Shows, shows_acts, acts_back}
use Rattle.oss_span.specs.Tables.{IsGreatest, IsGreatestOf, in_ranges, released}
use Rattle.oss_span.proofs.ToldLemmas.{bools, get_last, grows_one, grows_same, most_small, ShowsBest, ShowsMark, ShowsRun, shows_below, shows_on, Tells, tells_better, tells_none, tells_same, better_best_shown, none_shown, weight}

-- the right that is kept of a cell
abbrev pub told_right : Option Marks → Right
told_right None = NoRight
told_right (Some m) = Holds m.mode m.strong

pub held_same : (r : Right) (m : Mode) (strong : Bool) → held_right r ≡ Holds m strong → r ≡ Holds m strong
held_same (Holds n b) m strong h = h
held_same NoRight m strong h = absurd cc
held_same Released m strong h = absurd cc

-- a cell of which a right is kept
pub told_some : (x : Option Marks) (m : Mode) (strong : Bool) → told_right x ≡ Holds m strong → (k : Marks) × (x ≡ Some k) × (k.mode ≡ m) × (k.strong ≡ strong)
told_some None m strong h = absurd cc
told_some (Some k) m strong h = (k, refl, mode_same h, strong_same h)
  where
    mode_same : Holds k.mode k.strong ≡ Holds m strong → k.mode ≡ m
    mode_same e = cc

    strong_same : Holds k.mode k.strong ≡ Holds m strong → k.strong ≡ strong
    strong_same e = cc

-- the frame is one of a task with this start at this path, which has done so many acts
pub record FrameFits (points : List (List ℕ)) (start : Start CodeScript) (p : List ℕ) (n : ℕ) (f : Frame) : Type 0 where
  pub task : slice_get points f.task ≡ Some (written p)
  pub wait : f.wait ≡ start.order.wait
  pub acts : f.run.acts ≡ n
  pub rights : (c : ℕ) → told_right (value_at f.table.pieces c) ≡ held_right (right_of start.context c)
  pub few : (c : ℕ) → 1048576 ≤ c → value_at f.table.pieces c ≡ None

-- of main nothing stands in the way
pub record IsTop (m : Marks) : Type 0 where
  pub mode : m.mode ≡ Write
  pub write_way : m.write_way ≡ no_mark
  pub read_way : m.read_way ≡ no_mark
  pub join_way : m.join_way ≡ no_mark

module _ (P : Program CodeScript) (s : State CodeScript) (nodes : List Node) (points : List (List ℕ)) where
  -- what is kept of a cell stands for what the pass keeps of it
  pub record ShowsCell (t : Kept) (c : ℕ) (m : Marks) : Type 0 where
    pub given : ShowsMark P s nodes points m.given c (t.given c)
    pub changed : ShowsMark P s nodes points m.changed c (t.changed c)
    pub before : (op : Op) → ShowsMark P s nodes points (before_of op m) c (t.before op c)
    pub is_freed : t.is_freed c ≡ m.is_freed
    pub freed : ShowsMark P s nodes points m.freed c (t.freed c)
    pub write_way : ShowsMark P s nodes points m.write_way c (t.write_way c)
    pub read_way : ShowsMark P s nodes points m.read_way c (t.read_way c)
    pub join_way : (op : Op) → m.mode ≡ Fold op → ShowsMark P s nodes points m.join_way c (t.join_way op c)

  -- what is kept of a task that has done n acts, of whose children the first m have ended
  pub record FrameTells (p : List ℕ) (n m : ℕ) (f : Frame) : Type 0 where
    pub kept : Kept
    pub is_kept : IsKept P s (weight P s) p n m kept
    pub last : ShowsRun P s nodes points p f.run kept.last
    pub left : ShowsBest P s nodes points f.left kept.left
    pub newest : Tells P s nodes points (InActWay P s p m Awaited) f.newest
    pub cells : (c : ℕ) (x : Marks) → value_at f.table.pieces c ≡ Some x → ShowsCell kept c x

  -- the longest of the chains of cells
  pub tells_cells : (way : Way) (pieces : List (Piece Marks)) (test : ℕ → Bool) (Q : ℕ → Happening → Type 0) (best : Best)
      → ((c : ℕ) (x : Marks) → test c ≡ true → value_at pieces c ≡ Some x → (picked way x).ticks ≤ best.mark.ticks)
      → ((best ≡ no_best) ⊎ ((c : ℕ) × (x : Marks) × (test c ≡ true) × (value_at pieces c ≡ Some x) × (best ≡ record { mark = picked way x; cell = c })))
      → ((c : ℕ) (x : Marks) → test c ≡ true → value_at pieces c ≡ Some x → (b : Longest Happening) × ShowsMark P s nodes points (picked way x) c b × Most P s (weight P s) (Q c) b)
      → ((c : ℕ) (f : Happening) → Q c f → (x : Marks) × (test c ≡ true) × (value_at pieces c ≡ Some x))
      → Tells P s nodes points (λ f. (c : ℕ) × Q c f) best
  tells_cells way pieces test Q best most one shown all = go one
    where
      most_of : (f : Happening) → (c : ℕ) × Q c f → (es : List Happening) → Rattle.oss_chain_laws.specs.Chains.IsTrail (WaitsFor P s) (f ∷ es) → Rattle.oss_chain_laws.specs.Chains.ticks_in (weight P s) (f ∷ es) ≤ best.mark.ticks
      most_of f (c, q) es t =
          let a = all c f q in
          let b = shown c a.0 a.1 a.2 in
          let l = b.2.most f q es t in
          let m = most c a.0 a.1 a.2 in
          let e = b.1.ticks in
          omega (arith, l, m, e)

      go : ((best ≡ no_best) ⊎ ((c : ℕ) × (x : Marks) × (test c ≡ true) × (value_at pieces c ≡ Some x) × (best ≡ record { mark = picked way x; cell = c }))) → Tells P s nodes points (λ f. (c : ℕ) × Q c f) best
      go (inl e) =
          let z : best.mark.ticks ≡ 0 = ap (λ (k : Best). k.mark.ticks) e in
          subst (λ (k : Best). Tells P s nodes points (λ f. (c : ℕ) × Q c f) k) (sym e)
          (record { best = no_chain; most = record { most = λ f q es t. let l = most_of f q es t in omega (arith, l, z); reached = inl (refl, refl) }; shows = none_shown P s nodes points 0 })
      go (inr (c, x, i, v, e)) =
          let b = shown c x i v in
          let z : best.mark.ticks ≡ (picked way x).ticks = ap (λ (k : Best). k.mark.ticks) e in
          let y = b.1.ticks in
          subst (λ (k : Best). Tells P s nodes points (λ f. (c : ℕ) × Q c f) k) (sym e)
          (record { best = b.0; most = record { most = λ f q es t. let l = most_of f q es t in omega (arith, l, z, y); reached = into c b.0 b.2.reached }; shows = b.1 })
        where
          into : (c : ℕ) (b : Longest Happening)
              → ((b.ticks ≡ 0) × (b.chain ≡ [])) ⊎ ((f : Happening) × Q c f × (es : List Happening) × (b.chain ≡ f ∷ es) × Rattle.oss_chain_laws.specs.Chains.IsTrail (WaitsFor P s) (f ∷ es) × (Rattle.oss_chain_laws.specs.Chains.ticks_in (weight P s) (f ∷ es) ≡ b.ticks))
              → ((b.ticks ≡ 0) × (b.chain ≡ [])) ⊎ ((f : Happening) × ((c : ℕ) × Q c f) × (es : List Happening) × (b.chain ≡ f ∷ es) × Rattle.oss_chain_laws.specs.Chains.IsTrail (WaitsFor P s) (f ∷ es) × (Rattle.oss_chain_laws.specs.Chains.ticks_in (weight P s) (f ∷ es) ≡ b.ticks))
          into c b (inl k) = inl k
          into c b (inr (f, q, es, h, t, k)) = inr (f, (c, q), es, h, t, k)

-- what stands in the way of the first act, of its reads and of its writes
abbrev pub InFirstWay : State CodeScript → List ℕ → ℕ → ℕ → Happening → Type 0
InFirstWay s [] n c f = ⊥
InFirstWay s (k ∷ p) zero c f = (StartsWith s (k ∷ p) c (Holds Read true) × InReadWay s c (k ∷ p) f) ⊎ (StartsWith s (k ∷ p) c (Holds Write true) × InWriteWay s c (k ∷ p) f)
InFirstWay s (k ∷ p) (suc n) c f = ⊥
