-- The next act of the free run is what the counts of the task that acts tell.
use Rattle.std.proofs.Common.{◌≡◌, ℕ, ◌<◌, ◌≤◌, refl, sym, subst, ap, ◌∙◌, List, [], ◌∷◌, ◌++◌, length, arith, Bool, true, false, Option, Some, None}
use Rattle.std.specs.Prelude.{◌||◌, if◌then◌else◌, nat_le, nat_lt, slice_index, slice_index_or}
use Rattle.std.proofs.lemmas.Bool.Decides.{nat_tests}
use Rattle.std.proofs.lemmas.List.{get_or_past}
use Rattle.oss_syntax.specs.declared.access.Mode.TheVariants.{Write}
use Rattle.oss_syntax.specs.declared.fault.FaultKind.{FaultKind}
use Rattle.oss_syntax.specs.declared.fault.FaultKind.TheVariants as fault
use Rattle.oss_model.specs.Order.{here}
use Rattle.oss_model.specs.Rights.{Right, Holds, Free, Written, Touch, Reads, Writes, Folds, touch_fault, is_fold}
use Rattle.oss_model.specs.Context.{Entry, clause_fault, lent_of, mark_of, no_entry, or_else, right_of}
use Rattle.oss_model.specs.Bodies.{Act, Ask, Body, Frame, Program, Stack, act_of_ask, ask_of, frame_act, judged_act, key_of, stack_from, word_of}
use Rattle.oss_model.specs.Bodies.Act.{Ticked, Load, Store, Folded, Created, Fault}
use Rattle.oss_model.specs.Moves.{act_now}
use Rattle.oss_model.proofs.TerminationTheorem.{act_at}
use Rattle.oss_freed.specs.Freed.{all_cells, freed, freed_ask, freed_order}
use Rattle.oss_freed.proofs.FreedBodies.{AreWhole, stage_whole}
use Rattle.oss_freed.proofs.FreedRuns.{run_starts}
use Rattle.oss_freed.proofs.WholeContexts.{IsWhole, no_clause_fault}
use Rattle.oss_free_tasks.specs.declared.deed.Deed.{Deed}
use Rattle.oss_free_tasks.specs.declared.deed.Deed.TheVariants as deeds
use Rattle.oss_free_tasks.specs.Claims.{FreeDeedsAreActs}
use Rattle.oss_free_tasks.specs.Deeds.{IsAnswered, IsDeed, IsFinding, asked_deed, free_deed, within}

module _ {S : Type 0} (n : ℕ) (f : Frame S) (q : Ask S) (cells : List ℕ) (line : ℕ) where
  -- the limits of a creation
  limits : (a b : Bool) (act : Act S) (passed : Deed) → IsDeed n f act q cells passed
      → IsDeed n f (judged_act f line (if a then Some fault.TooDeep else if b then Some fault.TooManyTasks else None) act) q cells
      (if a then deeds.Stops fault.TooDeep line else if b then deeds.Stops fault.TooManyTasks line else passed)
  limits true b act passed h = (key_of f, refl)
  limits false true act passed h = (key_of f, refl)
  limits false false act passed h = h

  -- the same where the judge finds nothing in the clauses
  clauses_pass : (a b : Bool) (other : Option FaultKind) (act : Act S) (passed : Deed) → other ≡ None → IsDeed n f act q cells passed
      → IsDeed n f (judged_act f line (or_else (if a then Some fault.TooDeep else if b then Some fault.TooManyTasks else None) other) act) q cells
      (if a then deeds.Stops fault.TooDeep line else if b then deeds.Stops fault.TooManyTasks line else passed)
  clauses_pass true b other act passed e h = (key_of f, refl)
  clauses_pass false true other act passed e h = (key_of f, refl)
  clauses_pass false false other act passed e h = subst (λ (r : Option FaultKind). IsDeed n f (judged_act f line r act) q cells passed) (sym e) h

  ticks : (b : Bool) → IsDeed n f (judged_act f line (if b then None else Some fault.OutOfFuel) Ticked) q cells (if b then deeds.Ticks else deeds.Stops fault.OutOfFuel line)
  ticks true = refl
  ticks false = (key_of f, refl)

  touch_none : (t : Touch) → touch_fault (Holds Write true) Free Written t ≡ None
  touch_none Reads = refl
  touch_none Writes = refl
  touch_none (Folds op) = refl

  -- a touch of a cell that is there, and of one that is not
  touches : (c : ℕ) (t : Touch) (act : Act S) (passed : Deed) → IsWhole n f.context → IsDeed n f act q cells passed
      → IsDeed n f (judged_act f line (touch_fault (right_of f.context c) (lent_of f.context c) (mark_of f.context c) t) act) q cells (within n c line passed)
  touches c t act passed w h = go (nat_lt c n) refl
    where
      go : (b : Bool) → nat_lt c n ≡ b → IsDeed n f (judged_act f line (touch_fault (right_of f.context c) (lent_of f.context c) (mark_of f.context c) t) act) q cells (if nat_lt c n then passed else deeds.Stops fault.NoRight line)
      go true e =
          let l : c < n = grind (arith, nat_tests, e) in
          let r : touch_fault (right_of f.context c) (lent_of f.context c) (mark_of f.context c) t ≡ None = ap (λ (y : Entry). touch_fault y.right y.lent y.mark t) (w.entry_at c l) ∙ touch_none t in
          rw (r, e) h
      go false e =
          let l : n ≤ c = grind (arith, nat_tests, e) in
          let past : slice_index_or f.context.entries c no_entry ≡ no_entry = get_or_past f.context.entries c no_entry (subst (λ (k : ℕ). k ≤ c) (sym w.size) l) in
          let r : touch_fault (right_of f.context c) (lent_of f.context c) (mark_of f.context c) t ≡ Some fault.NoRight = ap (λ (y : Entry). touch_fault y.right y.lent y.mark t) past in
          rw (r, e) (key_of f, refl)

  -- acts that leave the task the one that acts
  same : (v : ℕ) → IsAnswered v f (record f { answers = v ∷ f.answers })
  same v = record { script = refl; answers = refl; ticks = refl; created = refl; final = refl; awaits = refl }

module _ {S : Type 0} (n : ℕ) (slots : ℕ → Right) (inc : Bool) (f : Frame S) (cells : List ℕ) (line : ℕ) where
  load : (c : ℕ) → IsFinding f (Load c) (Ask.Read c) cells (slice_index cells c)
  load c = record { goes = λ h. h; found = refl; memory = refl; stays = λ e. cc; alone = λ o i e. cc; after = same n f (Ask.Read c) cells line (slice_index cells c) }

  store : (c v : ℕ) → IsFinding f (Store c (word_of v)) (Ask.Write c v) cells 0
  store c v = record { goes = λ h. h; found = refl; memory = refl; stays = λ e. cc; alone = λ o i e. cc; after = record { script = refl; answers = refl; ticks = refl; created = refl; final = refl; awaits = refl } }

  asked : (q : Ask S) → n ≤ 1048576 → IsWhole n f.context → f.awaits ≡ false
      → IsDeed n f (act_of_ask slots inc f (freed_ask n q) line) q cells (asked_deed n f.context.fuel f.context.depth f.context.ticks f.context.created cells q line)
  asked Ask.Begin h w e = limits n f Ask.Begin cells line (nat_le 64 f.context.depth) (nat_le 65535 f.context.created) (Fault fault.TooManyTasks line (key_of f)) (deeds.Stops fault.TooManyTasks line) (key_of f, refl)
  asked Ask.Tick h w e = ticks n f Ask.Tick cells line (nat_lt f.context.ticks f.context.fuel)
  asked (Ask.Read c) h w e = touches n f (Ask.Read c) cells line c Reads (Load c) (deeds.Finds (slice_index cells c)) w (load c)
  asked (Ask.Write c v) h w e = touches n f (Ask.Write c v) cells line c Writes (Store c (word_of v)) (deeds.Finds 0) w (store c v)
  asked (Ask.Fold c op v) h w e =
      touches n f (Ask.Fold c op v) cells line c (Folds op) (Folded c op (word_of v) (is_fold (slots c))) (deeds.Finds 0) w
      (record { goes = λ k. k; found = refl; memory = refl; stays = λ k. cc; alone = λ o i k. cc; after = record { script = refl; answers = refl; ticks = refl; created = refl; final = refl; awaits = refl } })
  asked (Ask.Create o) h w e =
      clauses_pass n f (Ask.Create o) cells line (nat_le 64 f.context.depth) (nat_le 65535 f.context.created) (clause_fault f.context (all_cells n) (f.context.final || o.last)) (Created (freed_order n o) f.context.final) deeds.Creates
      (no_clause_fault n f.context (f.context.final || o.last) h w) (o, refl, refl, e)
  asked Ask.Await h w e = (key_of f, refl)
  asked Ask.Wait h w e = record { goes = λ k. k; found = refl; memory = refl; stays = λ k. cc; alone = λ o i k. cc; after = record { script = refl; answers = refl; ticks = refl; created = refl; final = refl; awaits = refl } }
  asked (Ask.WaitOn named) h w e = record { goes = λ k. k; found = refl; memory = refl; stays = λ k. cc; alone = λ o i k. cc; after = record { script = refl; answers = refl; ticks = refl; created = refl; final = refl; awaits = refl } }
  asked (Ask.Release clauses) h w e = record { goes = λ k. k; found = refl; memory = refl; stays = λ k. cc; alone = λ o i k. cc; after = record { script = refl; answers = refl; ticks = refl; created = refl; final = refl; awaits = refl } }
  asked (Ask.Print text) h w e = record { goes = λ k. k; found = refl; memory = refl; stays = λ k. cc; alone = λ o i k. cc; after = record { script = refl; answers = refl; ticks = refl; created = refl; final = refl; awaits = refl } }
  asked Ask.End h w e = refl
  asked (Ask.Fails kind) h w e = (key_of f, refl)

module _ {S : Type 0} (P : Program S) (n : ℕ) where
  frame_deed : (slots : ℕ → Right) (inc : Bool) (f : Frame S) (cells : List ℕ) → n ≤ 1048576 → IsWhole n f.context → (b : Bool) → f.awaits ≡ b
      → IsDeed n f (frame_act (freed n P) slots inc f b) (ask_of P f).ask cells (free_deed n f.context.fuel f.context.depth f.context.ticks f.context.created b cells (ask_of P f).ask (ask_of P f).line)
  frame_deed slots inc f cells h w true e = refl
  frame_deed slots inc f cells h w false e = asked n slots inc f cells (ask_of P f).line (ask_of P f).ask h w e

-- the first open task is the one that acts, and may write each cell
record Acts {S : Type 0} (P : Program S) (n : ℕ) (b : Body S) (f : Frame S) : Type 0 where
  slots : ℕ → Right
  inc : Bool
  whole : IsWhole n f.context
  act : act_now (freed n P) b ≡ frame_act (freed n P) slots inc f f.awaits

acts_first : {S : Type 0} (P : Program S) (n : ℕ) (b : Body S) (base : Frame S) (inner older : List (Frame S)) (f : Frame S) (rest : List (Frame S)) → stack_from (freed n P) b.start b.found ≡ record { base = base; inner = inner; ended = false }
    → f ∷ rest ≡ inner ++ (base ∷ older) → AreWhole n base inner → Acts P n b f
acts_first P n b base [] older f rest s e w =
    let k : f ≡ base = cc in
    subst (λ (x : Frame _). Acts P n b x) (sym k) (record { slots = right_of b.start.context; inc = false; whole = w.first; act = act_at (freed n P) b.start b.found base [] s })
acts_first P n b base (g ∷ gs) older f rest s e w =
    let k : f ≡ g = cc in
    subst (λ (x : Frame _). Acts P n b x) (sym k) (record { slots = right_of b.start.context; inc = true; whole = w.inner g here; act = act_at (freed n P) b.start b.found base (g ∷ gs) s })

pub free_deeds_are_acts : (S : Type 0) → FreeDeedsAreActs S
free_deeds_are_acts S P order first fuel f older cells h s =
    let n = length first in
    let F = freed (length first) P in
    let t : IsWhole (length first) s.body.start.context = run_starts P order first fuel s.stage h s.run s.stage.active (record { body = s.body; given = [] }) s.at_ in
    let all = stage_whole P (length first) s.body.start s.body.found h t in
    let w : AreWhole (length first) s.base s.inner = subst (λ (x : Stack S). AreWhole (length first) x.base x.inner) s.stack all in
    let a = acts_first P (length first) s.body s.base s.inner s.older f older s.stack s.parts w in
    subst (λ (x : Act S). IsDeed (length first) f x (ask_of P f).ask cells (free_deed (length first) f.context.fuel f.context.depth f.context.ticks f.context.created f.awaits cells (ask_of P f).ask (ask_of P f).line)) (sym a.act)
    (frame_deed P (length first) a.slots a.inc f cells h a.whole f.awaits refl)
