-- Of a cell past the last one no clause of a task says anything, and no task asks anything of it.
use Rattle.std.proofs.Common.{◌≡◌, ◌∙◌, ℕ, zero, suc, ◌+◌, ◌<◌, ◌≤◌, Bool, true, false, List, [], ◌∷◌, ◌++◌, map, Option, Some, None, refl, ap, subst, arith}
use Rattle.std.specs.Prelude.{◌&&◌, ◌||◌, if◌then◌else◌, get_or, nat_le, nat_lt, set}
use Rattle.std.proofs.lemmas.Bool.{and_left, and_right, false_from_ne_true, or_from, or_parts}
use Rattle.std.proofs.lemmas.Bool.Decides.{nat_tests}
use Rattle.oss_syntax.specs.declared.access.Access.{Access}
use Rattle.oss_model.specs.Bodies.{Ask, Frame, Program, Start, ask_of}
use Rattle.oss_model.specs.Context.{in_clauses}
use Rattle.oss_model.specs.Marks.{AsksFor}
use Rattle.oss_model.specs.Rights.{NoRight, Right, in_access, is_fresh, is_mixed, is_unjoinable, joined_right, right_from}
use Rattle.oss_model.specs.Sequence.{Running}
use Rattle.oss_ranges.specs.Cells.{is_within}
use Rattle.oss_freed.specs.Freed.{TouchesItsCells}
use Rattle.oss_needs.specs.declared.clause.Clause.{Clause}
use Rattle.oss_needs.specs.declared.clause.Given.{Given}
use Rattle.oss_needs.specs.declared.clause.Given.TheVariants as given
use Rattle.oss_needs.specs.declared.demand.Demand.{Demand}
use Rattle.oss_needs.specs.declared.demand.Demand.TheVariants.{Fold, Load, Release, Store, Wait}
use Rattle.oss_needs.specs.declared.lack.Lack.TheVariants as lack
use Rattle.oss_needs.specs.Givens.{given_of, said_by}
use Rattle.oss_needs.specs.Lacks.{lack_of, mended}
use Rattle.oss_task_needs.specs.Asking.{Asked, asks, creates}
use Rattle.oss_open_needs.specs.Opening.{releases, waits}
use Rattle.oss_lacks.specs.Asking.{Asking, asked_by, asking, behind_ask, created_by, main as main_asking, mended_clauses, range_of, tell_creator}
use Rattle.oss_lacks.specs.Nests.{Nest, Numbered, all_closed, all_closed_to, closed_to, with_acting}
use Rattle.oss_lacks.specs.Walks.{Walks, behind}
use Rattle.oss_lacks.specs.Walks.Walks.{opens, runs_on}
use Rattle.oss_missing_laws.specs.Programs.{AreWithin, IsNaming, NamesItsCells}

-- Clauses that do not name a cell say nothing of it.
unnamed_mixed : (final : Bool) (clauses : List Access) (c : ℕ) → in_clauses clauses c ≡ false → is_mixed final clauses c ≡ false
unnamed_mixed final [] c e = refl
unnamed_mixed final (a ∷ rest) c e =
    let p = or_parts (in_access a c) (in_clauses rest c) e in
    or_from (is_mixed final rest c) (in_access a c && is_unjoinable a.mode (right_from final rest c)) (unnamed_mixed final rest c p.1) (and_left (in_access a c) (is_unjoinable a.mode (right_from final rest c)) p.0)

unnamed_right : (final : Bool) (clauses : List Access) (c : ℕ) → in_clauses clauses c ≡ false → right_from final clauses c ≡ NoRight
unnamed_right final [] c e = refl
unnamed_right final (a ∷ rest) c e =
    let p = or_parts (in_access a c) (in_clauses rest c) e in
    ap (λ (b : Bool). if b then joined_right a.mode (final || a.strong) (right_from final rest c) else right_from final rest c) p.0 ∙ unnamed_right final rest c p.1

unnamed_given : (final : Bool) (clauses : List Access) (c : ℕ) → in_clauses clauses c ≡ false → given_of final clauses c ≡ given.Nothing
unnamed_given final clauses c e =
    ap (λ (b : Bool). if b then given.Mixed else said_by (right_from final clauses c) (is_fresh clauses c)) (unnamed_mixed final clauses c e)
    ∙ ap (λ (r : Right). said_by r (is_fresh clauses c)) (unnamed_right final clauses c e)

-- What is asked of other cells leaves it.
asks_past : (d : Demand) (lo hi : ℕ) (asked : Asked) (c : ℕ) → is_within lo hi c ≡ false → asks d lo hi asked c ≡ asked c
asks_past d lo hi asked c e = ap (λ (b : Bool). if b then d ∷ asked c else asked c) e

waits_past : (named : List Access) (asked : Asked) (c : ℕ) → in_clauses named c ≡ false → waits (map range_of named) asked c ≡ asked c
waits_past [] asked c e = refl
waits_past (a ∷ rest) asked c e =
    let p = or_parts (in_access a c) (in_clauses rest c) e in
    waits_past rest (asks Wait a.range.lo a.range.hi asked) c p.1 ∙ asks_past Wait a.range.lo a.range.hi asked c p.0

releases_past : (clauses : List Access) (asked : Asked) (c : ℕ) → in_clauses clauses c ≡ false → releases clauses asked c ≡ asked c
releases_past [] asked c e = refl
releases_past (a ∷ rest) asked c e =
    let p = or_parts (in_access a c) (in_clauses rest c) e in
    releases_past rest (asks (Release a.mode) a.range.lo a.range.hi asked) c p.1 ∙ asks_past (Release a.mode) a.range.lo a.range.hi asked c p.0

pub if_none : {A : Type 0} (b : Bool) → ◌≡◌ {A = Option A} (if b then None else None) None
if_none true = refl
if_none false = refl

module _ (n : ℕ) where
  -- Of each cell from this one on the clauses say nothing, and nothing is asked of it.
  abbrev pub IsFew : Asking → Type 0
  IsFew t = (c : ℕ) → n ≤ c → (given_of t.final t.clauses c ≡ given.Nothing) × (t.asked c ≡ [])

  abbrev AllFew : List (Option Asking) → Type 0
  AllFew [] = Unit {0}
  AllFew (None ∷ ts) = AllFew ts
  AllFew (Some t ∷ ts) = IsFew t × AllFew ts

  abbrev OpenFew : Numbered Asking → List (Numbered Asking) → Type 0
  OpenFew k [] = IsFew k.task
  OpenFew k (creator ∷ above) = IsFew k.task × OpenFew creator above

  -- So it is with all tasks.
  pub record AreFew (m : Nest Asking) : Type 0 where
    pub open_ : OpenFew m.acting m.above
    pub ended : AllFew m.ended

  pub lacks_past : (t : Asking) (c : ℕ) → IsFew t → n ≤ c → lack_of (given_of t.final t.clauses c) (t.asked c) ≡ lack.Nothing
  lacks_past t c h l =
      ap (λ (g : Given). lack_of g (t.asked c)) (h c l).0 ∙ ap (λ (ds : List Demand). lack_of given.Nothing ds) (h c l).1

  mended_past : (t : Asking) (c : ℕ) → IsFew t → n ≤ c → mended_clauses t c ≡ None
  mended_past t c h l =
      ap (λ (g : Given). if is_within 0 1048576 c then mended g (t.asked c) else None) (h c l).0
      ∙ ap (λ (ds : List Demand). if is_within 0 1048576 c then mended given.Nothing ds else None) (h c l).1
      ∙ if_none (is_within 0 1048576 c)

  told_few : (child creator : Asking) → IsFew child → IsFew creator → IsFew (tell_creator child creator)
  told_few child creator h k c l = ((k c l).0, ap (λ (x : Option Clause). creates x (creator.asked c)) (mended_past child c h l) ∙ (k c l).1)

  unnamed : (clauses : List Access) (c : ℕ) → AreWithin n clauses → n ≤ c → in_clauses clauses c ≡ false
  unnamed clauses c w l = false_from_ne_true (in_clauses clauses c) (λ e. let k : c < n = w c e in absurd (omega (arith, k, l)))

  past_one : (d c : ℕ) → d < n → n ≤ c → is_within d (d + 1) c ≡ false
  past_one d c h l = let b : nat_lt c (d + 1) ≡ false = grind (arith, nat_tests, h, l) in and_right (nat_le d c) (nat_lt c (d + 1)) b

  asked_past : {S : Type 0} (q : Ask S) (asked : Asked) (c : ℕ) → IsNaming n q → ((d : ℕ) → AsksFor q d → d < n) → n ≤ c → asked_by q asked c ≡ asked c
  asked_past Ask.Begin asked c h t l = refl
  asked_past Ask.Tick asked c h t l = refl
  asked_past (Ask.Read d) asked c h t l = asks_past Load d (d + 1) asked c (past_one d c (t d refl) l)
  asked_past (Ask.Write d v) asked c h t l = asks_past Store d (d + 1) asked c (past_one d c (t d refl) l)
  asked_past (Ask.Fold d op v) asked c h t l = asks_past (Fold op) d (d + 1) asked c (past_one d c (t d refl) l)
  asked_past (Ask.Create o) asked c h t l = refl
  asked_past Ask.Await asked c h t l = refl
  asked_past Ask.Wait asked c h t l = refl
  asked_past (Ask.WaitOn named) asked c h t l = waits_past named asked c (unnamed named c h l)
  asked_past (Ask.Release clauses) asked c h t l = releases_past clauses asked c (unnamed clauses c h l)
  asked_past (Ask.Print text) asked c h t l = refl
  asked_past Ask.End asked c h t l = refl
  asked_past (Ask.Fails kind) asked c h t l = refl

  head_few : (k : Numbered Asking) (above : List (Numbered Asking)) → OpenFew k above → IsFew k.task
  head_few k [] h = h
  head_few k (creator ∷ above) h = h.0

  refew : (k j : Numbered Asking) (above : List (Numbered Asking)) → IsFew j.task → OpenFew k above → OpenFew j above
  refew k j [] f h = f
  refew k j (creator ∷ above) f h = (f, h.1)

  acting_few : {S : Type 0} (q : Ask S) (m : Nest Asking) → IsNaming n q → ((d : ℕ) → AsksFor q d → d < n) → AreFew m → AreFew (with_acting (asking (asked_by q) m.acting.task) m)
  acting_few q m h t f =
      let k : IsFew m.acting.task = head_few m.acting m.above f.open_ in
      record {
        open_ = refew m.acting (record { number = m.acting.number; task = asking (asked_by q) m.acting.task }) m.above (λ c l. ((k c l).0, asked_past q m.acting.task.asked c h t l ∙ (k c l).1)) f.open_;
        ended = f.ended;
      }

  more_few : (ended : List (Option Asking)) → AllFew ended → AllFew (ended ++ None ∷ [])
  more_few [] h = tt
  more_few (None ∷ ts) h = more_few ts h
  more_few (Some t ∷ ts) h = (h.0, more_few ts h.1)

  set_few : (ended : List (Option Asking)) (k : ℕ) (t : Asking) → IsFew t → AllFew ended → AllFew (set ended k (Some t))
  set_few [] k t f h = tt
  set_few (None ∷ ts) zero t f h = (f, h)
  set_few (Some u ∷ ts) zero t f h = (f, h.1)
  set_few (None ∷ ts) (suc k) t f h = set_few ts k t f h
  set_few (Some u ∷ ts) (suc k) t f h = (h.0, set_few ts k t f h.1)

  closed_few : (ended : List (Option Asking)) (k : Numbered Asking) (above : List (Numbered Asking)) → OpenFew k above → AllFew ended → AreFew (closed_to tell_creator k above ended)
  closed_few ended k [] h e = record { open_ = h; ended = e }
  closed_few ended k (creator ∷ above) h e = record {
    open_ = refew creator (record { number = creator.number; task = tell_creator k.task creator.task }) above (told_few k.task creator.task h.0 (head_few creator above h.1)) h.1;
    ended = set_few ended k.number k.task h.0 e;
  }

  all_few : (ended : List (Option Asking)) (k : Numbered Asking) (above : List (Numbered Asking)) → OpenFew k above → AllFew ended → AllFew (all_closed_to tell_creator k above ended).ended
  all_few ended k [] h e = e
  all_few ended k (creator ∷ above) h e =
      all_few (set ended k.number (Some k.task)) (record { number = creator.number; task = tell_creator k.task creator.task }) above
      (refew creator (record { number = creator.number; task = tell_creator k.task creator.task }) above (told_few k.task creator.task h.0 (head_few creator above h.1)) h.1)
      (set_few ended k.number k.task h.0 e)

  ask_few : {S : Type 0} (f : Frame S) (q : Ask S) (line : ℕ) (m : Nest Asking) → IsNaming n q → ((d : ℕ) → AsksFor q d → d < n) → AreFew m → AreFew (behind_ask f q line m)
  ask_few {S} f Ask.Begin line m h t few = acting_few {S = S} Ask.Begin m h t few
  ask_few {S} f Ask.Tick line m h t few = acting_few {S = S} Ask.Tick m h t few
  ask_few {S} f (Ask.Read d) line m h t few = acting_few {S = S} (Ask.Read d) m h t few
  ask_few {S} f (Ask.Write d v) line m h t few = acting_few {S = S} (Ask.Write d v) m h t few
  ask_few {S} f (Ask.Fold d op v) line m h t few = acting_few {S = S} (Ask.Fold d op v) m h t few
  ask_few f (Ask.Create o) line m h t few = record {
    open_ = (λ c l. (unnamed_given (created_by f o line).final o.clauses c (unnamed o.clauses c h l), refl), few.open_);
    ended = more_few m.ended few.ended;
  }
  ask_few {S} f Ask.Await line m h t few = acting_few {S = S} Ask.Await m h t few
  ask_few {S} f Ask.Wait line m h t few = acting_few {S = S} Ask.Wait m h t few
  ask_few {S} f (Ask.WaitOn named) line m h t few = acting_few {S = S} (Ask.WaitOn named) m h t few
  ask_few {S} f (Ask.Release clauses) line m h t few = acting_few {S = S} (Ask.Release clauses) m h t few
  ask_few {S} f (Ask.Print text) line m h t few = acting_few {S = S} (Ask.Print text) m h t few
  ask_few f Ask.End line m h t few = closed_few m.ended m.acting m.above few.open_ few.ended
  ask_few {S} f (Ask.Fails kind) line m h t few = acting_few {S = S} (Ask.Fails kind) m h t few

  main_few : IsFew main_asking
  main_few c l = (refl, refl)

  module _ {S : Type 0} (P : Program S) (named : NamesItsCells n P) (touches : TouchesItsCells n P) (main : Start S) (first : List ℕ) where
    behind_few : (f : Frame S) (m : Nest Asking) → AreFew m → AreFew (behind P f m)
    behind_few f m few = go f.awaits
      where
        go : (b : Bool) → AreFew (if b then m else behind_ask f (ask_of P f).ask (ask_of P f).line m)
        go true = few
        go false = ask_few f (ask_of P f).ask (ask_of P f).line m (named f.script f.answers) (touches f.script f.answers) few

    walk_few : {z : Running S} {m : Nest Asking} → Walks P main first z m → AreFew m
    walk_few opens = record { open_ = main_few; ended = tt }
    walk_few (runs_on {f = f} {n = m} h a r) = behind_few f m (walk_few h)

    few_at : (ended : List (Option Asking)) → AllFew ended → (i : ℕ) (t : Asking) → get_or ended i None ≡ Some t → IsFew t
    few_at [] h zero t e = absurd cc
    few_at [] h (suc i) t e = absurd cc
    few_at (None ∷ ts) h zero t e = absurd cc
    few_at (None ∷ ts) h (suc i) t e = few_at ts h i t e
    few_at (Some u ∷ ts) h zero t e = let k : u ≡ t = cc in subst IsFew k h.0
    few_at (Some u ∷ ts) h (suc i) t e = few_at ts h.1 i t e

    -- So it is with each task at the end of the walk.
    pub few_at_stop : {z : Running S} {m : Nest Asking} → Walks P main first z m → (i : ℕ) (t : Asking) → get_or (all_closed tell_creator m).ended i None ≡ Some t → IsFew t
    few_at_stop {m = m} h i t e =
        let few = walk_few h in
        few_at (all_closed tell_creator m).ended (all_few m.ended m.acting m.above few.open_ few.ended) i t e
