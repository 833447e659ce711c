-- Where the program's own run stands before no fault of annotations, nothing is lacking behind its act, and nothing told.
use Rattle.std.proofs.Common.{◌≡◌, refl, sym, subst, ap, ◌∙◌, ℕ, ◌+◌, ◌<◌, ◌≤◌, ◌⊎◌, inl, inr, Bool, true, false, List, [], ◌∷◌, length, arith, Option, Some, None}
use Rattle.std.specs.Prelude.{◌&&◌, ◌||◌, ◌==◌, not, if◌then◌else◌, map, nat_le, nat_lt, slice_index, is_some}
use Rattle.std.proofs.lemmas.Bool.Decides.{nat_tests}
use Rattle.oss_syntax.specs.declared.access.Access.{Access}
use Rattle.oss_syntax.specs.declared.access.Mode.TheVariants.{Read, Write, Fold as Folding}
use Rattle.oss_syntax.specs.declared.fault.FaultKind.{FaultKind}
use Rattle.oss_syntax.specs.declared.fault.FaultKind.TheVariants as fault
use Rattle.oss_ranges.specs.Cells.{is_within}
use Rattle.oss_model.specs.Context.{clause_fault, create_fault, creation_fault, in_clauses, lacks_right, lent_of, mark_of, or_else, release_fault, right_of, wait_on_fault}
use Rattle.oss_model.specs.Rights.{Folds, Free, Holds, Lending, Mark, NoRight, Reading, Reads, Released, Right, Touch, Unwritten, Writes, Writing, Written, any_cell, holds_uncovered, in_access, is_fold, is_mixed, is_released, mark_fault, op_eq, right_from, touch_fault}
use Rattle.oss_model.specs.Bodies.{Act, Ask, Frame, Order, Program, act_of_ask, judged_act, key_of, word_of}
use Rattle.oss_model.specs.Bodies.Act.{Created, Folded, Load, Releases, Store, WaitedOn}
use Rattle.oss_model.specs.Moves.{act_now}
use Rattle.oss_model.specs.Sequence.{Running, RunsOn}
use Rattle.oss_model.proofs.BodyLemmas.{judged_goes}
use Rattle.oss_needs.specs.declared.clause.Clause.{Clause}
use Rattle.oss_needs.specs.declared.demand.Demand.{Demand}
use Rattle.oss_needs.specs.declared.demand.Demand.TheVariants.{Release, Wait}
use Rattle.oss_needs.specs.Claims.{all_right}
use Rattle.oss_needs.specs.Givens.{given_of}
use Rattle.oss_needs.specs.Lacks.{mended}
use Rattle.oss_needs.specs.Meeting.{is_met, mark_behind, mark_by, right_by}
use Rattle.oss_needs.proofs.Bools.{never}
use Rattle.oss_task_needs.specs.Asking.{Asked, asks, creates}
use Rattle.oss_open_needs.specs.Opening.{releases as asks_released, waits}
use Rattle.oss_lent_cells.specs.declared.holder.Holder.{Holder}
use Rattle.oss_lent_cells.specs.Lent.{counted_if, nothing_lent}
use Rattle.oss_freed.specs.Freed.{IsOfAnnotations, all_cells, freed_ask, freed_order}
use Rattle.oss_free_tasks.specs.declared.deed.Deed.TheVariants as deeds
use Rattle.oss_free_tasks.specs.Deeds.{IsDeed, asked_deed}
use Rattle.oss_lacks.specs.Asking.{Asking, asking, behind_ask, created_by, main as main_asking, range_of, tell_creator}
use Rattle.oss_lacks.specs.Nests.{Nest, all_closed, closed, opened, with_acting}
use Rattle.oss_missing_waits.specs.Holding.{Holding, IsUse, Told, has_use, hinderer, lent_when as held_when, main as main_holding, new_task as new_holding, releases, touched, waits_before, waits_on, with_lent}
use Rattle.oss_missing_waits.specs.Holding.IsUse.{known, none, told}
use Rattle.oss_missing_waits.specs.Waits.{IsBehindAsk, IsDirective, IsTouched, has_by, mended_in, tell_nothing}
use Rattle.oss_missing_laws.specs.Entries.{demand_by}
use Rattle.oss_missing_laws.specs.Programs.{AllUnfolded, AreWithin, IsNaming, IsNotWrong, LacksNothing}
use Rattle.oss_missing_laws.proofs.AlikeLemmas.{IsAlike, create_alike}
use Rattle.oss_missing_laws.proofs.BackLemmas.{IsCreating, clauses_back, release_back, touch_back, wait_back}
use Rattle.oss_missing_laws.proofs.ClearLemmas.{lent_told}
use Rattle.oss_missing_laws.proofs.FateLemmas.{HasFate, IsNumbered, ended_at, fate_of_new, fated_at_stop, opened_numbered}
use Rattle.oss_missing_laws.proofs.FineLemmas.{EndedClean, IsFine, IsQuiet, IsRight, IsUnmixed, fine_at_stop, fine_closed_to, fine_opened, given_eq, head_quiet, head_right, quiet_acting, quiet_closed, quiet_opened, reright}
use Rattle.oss_missing_laws.proofs.GrowLemmas.{IsMoreAsked, asked_later, asked_still, asked_told}
use Rattle.oss_missing_laws.proofs.LevelLemmas.{AskedFated, Clean, IsTogether, Twin, asked_nest, askeds, given_at, given_by, given_same, has_said, head_of, held_nest, helds, mended_at, nothing_pending}
use Rattle.oss_missing_laws.proofs.PassLemmas.{unnamed_said, unnamed_unmixed}
use Rattle.oss_missing_laws.proofs.RunLevels.{Level, free_run}
use Rattle.oss_missing_laws.proofs.StepLemmas.{alive, in_cells}

-- faults of clauses are of annotations
abbrev AllMild : Option FaultKind → Type 0
AllMild None = Unit {0}
AllMild (Some kind) = IsOfAnnotations kind

mark_mild : (m : Mark) (t : Touch) → AllMild (mark_fault m t)
mark_mild Unwritten Reads = tt
mark_mild Unwritten Writes = tt
mark_mild Unwritten (Folds op) = tt
mark_mild Written Reads = tt
mark_mild Written Writes = tt
mark_mild Written (Folds op) = tt

touch_mild : (r : Right) (l : Lending) (m : Mark) (t : Touch) → AllMild (touch_fault r l m t)
touch_mild Released l m t = tt
touch_mild NoRight l m t = tt
touch_mild (Holds k false) l m t = tt
touch_mild (Holds Read true) Free m Reads = tt
touch_mild (Holds Read true) Reading m Reads = tt
touch_mild (Holds Read true) Writing m Reads = tt
touch_mild (Holds Read true) Free m Writes = tt
touch_mild (Holds Read true) Reading m Writes = tt
touch_mild (Holds Read true) Writing m Writes = tt
touch_mild (Holds Read true) Free m (Folds op) = tt
touch_mild (Holds Read true) Reading m (Folds op) = tt
touch_mild (Holds Read true) Writing m (Folds op) = tt
touch_mild (Holds Write true) Free m t = mark_mild m t
touch_mild (Holds Write true) Reading m Reads = mark_mild m Reads
touch_mild (Holds Write true) Reading m Writes = tt
touch_mild (Holds Write true) Reading m (Folds op) = tt
touch_mild (Holds Write true) Writing m t = tt
touch_mild (Holds (Folding a) true) l m Reads = tt
touch_mild (Holds (Folding a) true) l m Writes = tt
touch_mild (Holds (Folding a) true) l m (Folds b) = go (op_eq a b)
  where
    go : (x : Bool) → AllMild (if x then None else Some fault.BadReduction)
    go true = tt
    go false = tt

two_mild : (a b : Bool) → AllMild (if a then Some fault.Released else if b then Some fault.NotCovered else None)
two_mild true b = tt
two_mild false true = tt
two_mild false false = tt

three_mild : (a b c : Bool) → AllMild (if a then Some fault.MixedAccess else if b then Some fault.Released else if c then Some fault.NotCovered else None)
three_mild true b c = tt
three_mild false b c = two_mild b c

no_fault : {S : Type 0} (f : Frame S) (line : ℕ) (o : Option FaultKind) (a b : Act S) → AllMild o → b ≡ judged_act f line o a → IsNotWrong b → o ≡ None
no_fault f line None a b m e n = refl
no_fault f line (Some kind) a b m e n = absurd (n kind line (key_of f) e m)

or_first : (a b : Option FaultKind) → or_else a b ≡ None → a ≡ None
or_first None b h = refl
or_first (Some kind) b h = h

same_cell : (c d : ℕ) → (c == d) ≡ true → d ≡ c
same_cell c d e = grind (arith, nat_tests, e)

within_parts : (a b : Bool) → (a && b) ≡ true → (a ≡ true) × (b ≡ true)
within_parts true b e = (refl, e)
within_parts false b e = never (sym e)

within_here : (c d : ℕ) → is_within c (c + 1) d ≡ true → d ≡ c
within_here c d e =
    let p = within_parts (nat_le c d) (nat_lt d (c + 1)) e in
    let a : c ≤ d = grind (arith, nat_tests, p.0) in
    let b : d < c + 1 = grind (arith, nat_tests, p.1) in
    omega (arith, a, b)

-- demands that are met beside those before
more_right : (r : Right) (m : Mark) (d : Demand) (ds : List Demand) (b : Bool) → (b ≡ true → is_met r (mark_behind m ds) d ≡ true) → all_right r m ds ≡ true → all_right r m (if b then d ∷ ds else ds) ≡ true
more_right r m d ds true e h = ap (λ (x : Bool). x && is_met r (mark_behind m ds) d) h ∙ e refl
more_right r m d ds false e h = h

-- what is asked of a cell that is not named
not_either : (a b : Bool) → (a || b) ≡ false → (a ≡ false) × (b ≡ false)
not_either false b e = (refl, e)
not_either true b e = never e

released_unnamed : (clauses : List Access) (asked : Asked) (c : ℕ) → in_clauses clauses c ≡ false → asks_released clauses asked c ≡ asked c
released_unnamed [] asked c e = refl
released_unnamed (a ∷ rest) asked c e =
    let p = not_either (in_access a c) (in_clauses rest c) e in
    released_unnamed rest (asks (Release a.mode) a.range.lo a.range.hi asked) c p.1 ∙ ap (λ (b : Bool). if b then Release a.mode ∷ asked c else asked c) p.0

waited_unnamed : (named : List Access) (asked : Asked) (c : ℕ) → in_clauses named c ≡ false → waits (map range_of named) asked c ≡ asked c
waited_unnamed [] asked c e = refl
waited_unnamed (a ∷ rest) asked c e =
    let p = not_either (in_access a c) (in_clauses rest c) e in
    waited_unnamed rest (asks Wait a.range.lo a.range.hi asked) c p.1 ∙ ap (λ (b : Bool). if b then Wait ∷ asked c else asked c) p.0

-- Nothing is told at all.
no_task : {A : Type 0} (i : ℕ) (t : A) → ended_at [] i ≡ Some t → ⊥
no_task i t e = let x : None ≡ Some t = e in absurd cc

pub nothing_told : Clean
nothing_told = record {
  asked = [];
  asked_main = main_asking;
  held = [];
  held_main = main_holding;
  lacks = λ i t e. absurd (no_task i t e);
  untold = λ i t e. absurd (no_task i t e);
  untold_main = refl;
}

module _ {S : Type 0} (P : Program S) (order : Order S) (first : List ℕ) (fuel : ℕ) (few : length first ≤ 1048576) (z y : Running S) (t : Twin S) (rest : List (Twin S)) (l : Level P order first fuel z t rest) (r : RunsOn (free_run P order first fuel) z y)
    (ca : List (Option Asking)) (ch : List (Option Holding)) (counts : length ch ≡ length ca) (al : IsAlike t.own t.free)
    (fine : IsFine (asked_nest t rest ca)) (quiet : IsQuiet (held_nest t rest ch)) (num : IsNumbered (asked_nest t rest ca)) (held_num : IsNumbered (held_nest t rest ch)) (right : IsNotWrong (act_now P l.owned.body)) where
  -- What is known behind an ask: nothing is lacking so far, and nothing told.
  pub record IsForward (q : Ask S) (line : ℕ) : Type 0 where
    pub nest : Nest Holding
    pub walk : IsBehindAsk (mended_in (all_closed tell_creator (behind_ask t.free q line (asked_nest t rest ca))).ended) t.free q line (held_nest t rest ch) nest
    pub still : IsQuiet nest
    pub clean : IsFine (behind_ask t.free q line (asked_nest t rest ca))

  below : (c : ℕ) → c < length first → c < 1048576
  below c i = omega (arith, few, i)

  old : IsTogether P (length first) (given_at rest t.asked.task) nothing_pending t
  old = head_of P (length first) nothing_pending t rest l.together

  own_right : IsRight (given_at rest t.asked.task) nothing_pending t.asked.task.asked
  own_right = subst (λ (g : ℕ → Option Clause). IsRight g nothing_pending t.asked.task.asked) (given_eq rest t.asked.task) (head_right nothing_pending t.asked (askeds rest) fine.right)

  fine_asked : (up : Asked → Asked) → IsRight (given_at rest t.asked.task) nothing_pending (up t.asked.task.asked) → IsFine (with_acting (asking up t.asked.task) (asked_nest t rest ca))
  fine_asked up h = record {
    right = reright nothing_pending nothing_pending t.asked.number t.asked up (askeds rest) fine.right (subst (λ (g : ℕ → Option Clause). IsRight g nothing_pending (up t.asked.task.asked)) (sym (given_eq rest t.asked.task)) h);
    ended = fine.ended;
  }

  untold : t.held.task.told ≡ []
  untold = head_quiet t.held (helds rest) quiet.open_

  -- a touch
  record IsTouching (tch : Touch) (c line : ℕ) : Type 0 where
    nest : Nest Holding
    walk : IsTouched tch c line (held_nest t rest ch) nest
    still : IsQuiet nest
    clean : IsFine (with_acting (asking (asks (demand_by tch) c (c + 1)) t.asked.task) (asked_nest t rest ca))

  touching : (tch : Touch) (c line : ℕ) → c < length first → touch_fault (right_of t.own.context c) (lent_of t.own.context c) (mark_of t.own.context c) tch ≡ None → IsTouching tch c line
  touching tch c line i n =
      let p = touch_back (length first) (given_at rest t.asked.task) t.asked.task.asked t.held.task.released t.held.task.lent t.own.context old.known c tch i n in
      let free : hinderer (t.held.task.has c) tch (t.held.task.lent c) ≡ None = ap (λ (g : Option Clause). hinderer g tch (t.held.task.lent c)) (old.has c (below c i)) ∙ p.free in
      let same : touched tch c line t.held.task ≡ t.held.task = ap (λ (o : Option Holder). waits_before tch c line o t.held.task) free in
      let u : IsUse (λ d. c == d) line t.held.task t.held.task = none (λ d e g. let x : true ≡ false = sym g ∙ ap (λ (k : ℕ). t.held.task.released k) (same_cell c d e) ∙ p.kept in never x) in
      let w : IsTouched tch c line (held_nest t rest ch) (with_acting (touched tch c line t.held.task) (held_nest t rest ch)) = record { used = t.held.task; use_is = u; new_is = refl } in
      record {
        nest = with_acting (touched tch c line t.held.task) (held_nest t rest ch);
        walk = w;
        still = quiet_acting (touched tch c line t.held.task) (held_nest t rest ch) (ap (λ (h : Holding). h.told) same ∙ untold) quiet;
        clean = fine_asked (asks (demand_by tch) c (c + 1)) (λ d j.
            more_right (right_by (given_at rest t.asked.task d)) (mark_by (given_at rest t.asked.task d)) (demand_by tch) (t.asked.task.asked d) (is_within c (c + 1) d)
            (λ e. subst (λ (k : ℕ). is_met (right_by (given_at rest t.asked.task k)) (mark_behind (mark_by (given_at rest t.asked.task k)) (t.asked.task.asked k)) (demand_by tch) ≡ true) (sym (within_here c d e)) p.met)
            (own_right d j));
      }

  -- a directive that names cells, of which none is released
  directed_use : (clauses : List Access) (line : ℕ) → ((c : ℕ) → in_clauses clauses c ≡ true → t.held.task.released c ≡ false) → IsUse (in_clauses clauses) line t.held.task t.held.task
  directed_use clauses line kept = none (λ d e g. let x : true ≡ false = sym g ∙ kept d e in never x)

  -- cells that are named or not
  by_name : {A : Type 0} (clauses : List Access) (c : ℕ) → (in_clauses clauses c ≡ true → A) → (in_clauses clauses c ≡ false → A) → A
  by_name {A = A} clauses c f g = go (in_clauses clauses c) refl
    where
      go : (b : Bool) → in_clauses clauses c ≡ b → A
      go true e = f e
      go false e = g e

  -- an ask that tells nothing
  nothing_new : (q : Ask S) (line : ℕ) → ((w : ℕ → ℕ → Option Clause) → IsBehindAsk w t.free q line (held_nest t rest ch) (held_nest t rest ch)) → IsFine (behind_ask t.free q line (asked_nest t rest ca)) → IsForward q line
  nothing_new q line w f = record { nest = held_nest t rest ch; walk = w (mended_in (all_closed tell_creator (behind_ask t.free q line (asked_nest t rest ca))).ended); still = quiet; clean = f }

  by_wait_on : (named : List Access) (line : ℕ) → AreWithin (length first) named → wait_on_fault t.own.context named ≡ None → IsForward (Ask.WaitOn named) line
  by_wait_on named line inside n =
      let back = λ (c : ℕ) (e : in_clauses named c ≡ true). wait_back (length first) (given_at rest t.asked.task) t.asked.task.asked t.held.task.released t.held.task.lent t.own.context old.known named c (inside c e) e n in
      record {
        nest = with_acting (waits_on named t.held.task) (held_nest t rest ch);
        walk = record { used = t.held.task; use_is = directed_use named line (λ c e. (back c e).kept); new_is = refl };
        still = quiet_acting (waits_on named t.held.task) (held_nest t rest ch) untold quiet;
        clean = fine_asked (waits (map range_of named)) (λ c j. by_name named c
            (λ e. (back c e).right (own_right c j))
            (λ e. ap (λ (ds : List Demand). all_right (right_by (given_at rest t.asked.task c)) (mark_by (given_at rest t.asked.task c)) ds) (waited_unnamed named t.asked.task.asked c e) ∙ own_right c j));
      }

  by_release : (clauses : List Access) (line : ℕ) → AreWithin (length first) clauses → AllUnfolded clauses → release_fault t.own.context clauses ≡ None → IsForward (Ask.Release clauses) line
  by_release clauses line inside plain n =
      let back = λ (c : ℕ) (e : in_clauses clauses c ≡ true). release_back (length first) (given_at rest t.asked.task) t.asked.task.asked t.held.task.released t.held.task.lent t.own.context old.known clauses c plain (inside c e) e n in
      record {
        nest = with_acting (releases clauses t.held.task) (held_nest t rest ch);
        walk = record { used = t.held.task; use_is = directed_use clauses line (λ c e. (back c e).kept); new_is = refl };
        still = quiet_acting (releases clauses t.held.task) (held_nest t rest ch) untold quiet;
        clean = fine_asked (asks_released clauses) (λ c j. by_name clauses c
            (λ e. (back c e).right (own_right c j))
            (λ e. ap (λ (ds : List Demand). all_right (right_by (given_at rest t.asked.task c)) (mark_by (given_at rest t.asked.task c)) ds) (released_unnamed clauses t.asked.task.asked c e) ∙ own_right c j));
      }

  -- a creation
  module _ (o : Order S) (line : ℕ) (inside : AreWithin (length first) o.clauses) (passed : clause_fault t.own.context o.clauses (t.own.context.final || o.last) ≡ None) where
    clauses_pass : clause_fault t.own.context o.clauses (t.free.context.final || o.last) ≡ None
    clauses_pass = ap (λ (b : Bool). clause_fault t.own.context o.clauses (b || o.last)) (sym al.final) ∙ passed

    back : (c : ℕ) → in_clauses o.clauses c ≡ true → IsCreating (length first) (given_at rest t.asked.task) t.asked.task.asked t.held.task.released t.held.task.lent t.own.context old.known (t.free.context.final || o.last) o.clauses c
    back c e = clauses_back (length first) (given_at rest t.asked.task) t.asked.task.asked t.held.task.released t.held.task.lent t.own.context old.known o.clauses (t.free.context.final || o.last) c (inside c e) e clauses_pass

    unmixed : IsUnmixed (created_by t.free o line)
    unmixed c j = by_name o.clauses c (λ e. (back c e).unmixed) (λ e. unnamed_unmixed (t.free.context.final || o.last) o.clauses c e)

    creator_right : IsRight (given_at rest t.asked.task) (given_by (created_by t.free o line)) t.asked.task.asked
    creator_right c j = by_name o.clauses c
        (λ e. (back c e).right (own_right c j))
        (λ e. ap (λ (g : Option Clause). all_right (right_by (given_at rest t.asked.task c)) (mark_by (given_at rest t.asked.task c)) (creates g (t.asked.task.asked c))) (unnamed_said (t.free.context.final || o.last) o.clauses c e) ∙ own_right c j)

    fine_behind : IsFine (opened (created_by t.free o line) (asked_nest t rest ca))
    fine_behind = fine_opened (created_by t.free o line) (asked_nest t rest ca) refl unmixed
        (subst (λ (g : ℕ → Option Clause). IsRight g (given_by (created_by t.free o line)) t.asked.task.asked) (sym (given_eq rest t.asked.task)) creator_right) fine

    num_behind : IsNumbered (opened (created_by t.free o line) (asked_nest t rest ca))
    num_behind = opened_numbered (created_by t.free o line) (asked_nest t rest ca) num

    abbrev All : List (Option Asking)
    All = (all_closed tell_creator (opened (created_by t.free o line) (asked_nest t rest ca))).ended

    clean_all : EndedClean All
    clean_all = fine_at_stop (opened (created_by t.free o line) (asked_nest t rest ca)) num_behind fine_behind

    fate : HasFate IsMoreAsked asked_still asked_later tell_creator asked_told All (record { number = length ca; task = created_by t.free o line })
    fate =
        fate_of_new IsMoreAsked asked_still asked_later tell_creator asked_told All (all_closed tell_creator (opened (created_by t.free o line) (asked_nest t rest ca))).acting.task (created_by t.free o line) (asked_nest t rest ca)
        (fated_at_stop IsMoreAsked asked_still asked_later tell_creator asked_told (opened (created_by t.free o line) (asked_nest t rest ca)) num_behind)

    less_or : (i n : ℕ) → (i < n) ⊎ (n ≤ i)
    less_or i n = grind arith

    -- by what the new task has its cells, as it is known at an end
    module _ (all : List (Option Asking)) (new : HasFate IsMoreAsked asked_still asked_later tell_creator asked_told all (record { number = length ca; task = created_by t.free o line })) (whole : LacksNothing new.last) where
      mended_is : (c : ℕ) → mended_in all (length ch) c ≡ has_by new.last c
      mended_is c = ap (λ (k : ℕ). mended_in all k c) counts ∙ mended_at all (length ca) new.last new.at_ c

      said_is : (c : ℕ) → c < 1048576 → mended_in all (length ch) c ≡ given_by (created_by t.free o line) c
      said_is c j = mended_is c ∙ has_said new.last c j whole ∙ given_same (created_by t.free o line) new.last new.more.final new.more.clauses c

      -- past the last cell nothing is said
      past : (c : ℕ) → 1048576 ≤ c → mended_in all (length ch) c ≡ None
      past c j =
          let b : nat_lt c 1048576 ≡ false = grind (arith, nat_tests, j) in
          let a : nat_le 0 c ≡ true = grind (arith, nat_tests) in
          let w : is_within 0 1048576 c ≡ false = ap (λ (x : Bool). x && nat_lt c 1048576) a ∙ b in
          mended_is c ∙ ap (λ (x : Bool). counted_if new.last.final (if x then mended (given_of new.last.final new.last.clauses c) (new.last.asked c) else None)) w

      kept : (c : ℕ) → is_some (mended_in all (length ch) c) ≡ true → t.held.task.released c ≡ false
      kept c i = go (less_or c 1048576)
        where
          go : (c < 1048576) ⊎ (1048576 ≤ c) → t.held.task.released c ≡ false
          go (inr j) = never (sym (sym (ap is_some (past c j)) ∙ i))
          go (inl j) = by_name o.clauses c (λ e. (back c e).kept)
              (λ e. never (sym (sym (ap is_some (said_is c j ∙ unnamed_said (t.free.context.final || o.last) o.clauses c e)) ∙ i)))

    by_create : IsForward (Ask.Create o) line
    by_create =
        let lends = o.when && not t.free.context.final in
        let new : Holding = new_holding (t.free.context.created ∷ t.free.path) line (mended_in All (length ch)) in
        let h : Holding = held_when lends t.free.context.created line (mended_in All (length ch)) t.held.task in
        let u : IsUse (λ d. is_some (mended_in All (length ch) d)) line t.held.task t.held.task = none (λ d e g. let x : true ≡ false = sym g ∙ kept All fate (clean_all (length ca) fate.last fate.at_) d e in never x) in
        record {
          nest = opened new (with_acting h (held_nest t rest ch));
          walk = record { used = t.held.task; use_is = u; new_is = refl };
          still = quiet_opened new (with_acting h (held_nest t rest ch)) refl (quiet_acting h (held_nest t rest ch) (lent_told lends t.free.context.created line (mended_in All (length ch)) t.held.task ∙ untold) quiet);
          clean = fine_behind;
        }

  -- no clause of a creation is at fault
  created_passes : (o : Order S) (line : ℕ) (sp sf : ℕ → Right) (ip jf : Bool) → act_now P l.owned.body ≡ act_of_ask sp ip t.own (Ask.Create o) line
      → act_now (free_run P order first fuel) l.freely.body ≡ act_of_ask sf jf t.free (freed_ask (length first) (Ask.Create o)) line → clause_fault t.own.context o.clauses (t.own.context.final || o.last) ≡ None
  created_passes o line sp sf ip jf hp hf =
      let final = t.own.context.final || o.last in
      let g = judged_goes t.free line (creation_fault t.free.context (all_cells (length first)) (t.free.context.final || o.last)) (Created (freed_order (length first) o) t.free.context.final)
      (act_now (free_run P order first fuel) l.freely.body) (sym hf) (alive P order first fuel few nothing_told z y t rest l r ca ch counts al) in
      let n : create_fault t.own.context ≡ None = create_alike al ∙ or_first (create_fault t.free.context) (clause_fault t.free.context (all_cells (length first)) (t.free.context.final || o.last)) g.0 in
      let h : act_now P l.owned.body ≡ judged_act t.own line (clause_fault t.own.context o.clauses final) (Created o t.own.context.final) =
      hp ∙ ap (λ (x : Option FaultKind). judged_act t.own line (or_else x (clause_fault t.own.context o.clauses final)) (Created o t.own.context.final)) n in
      no_fault t.own line (clause_fault t.own.context o.clauses final) (Created o t.own.context.final) (act_now P l.owned.body)
      (three_mild (any_cell (is_mixed final o.clauses) o.clauses) (any_cell (λ c. is_released (right_of t.own.context c)) o.clauses) (any_cell (λ c. holds_uncovered (right_of t.own.context c) (right_from final o.clauses c)) o.clauses)) h right

  -- an ask of tasks that stand side by side
  pub by_ask : (q : Ask S) (line : ℕ) (sp sf : ℕ → Right) (ip jf : Bool) → act_now P l.owned.body ≡ act_of_ask sp ip t.own q line
      → act_now (free_run P order first fuel) l.freely.body ≡ act_of_ask sf jf t.free (freed_ask (length first) q) line
      → IsDeed (length first) t.free (act_now (free_run P order first fuel) l.freely.body) q l.cells (asked_deed (length first) t.free.context.fuel t.free.context.depth t.free.context.ticks t.free.context.created l.cells q line)
      → IsNaming (length first) q → ((clauses : List Access) → q ≡ Ask.Release clauses → AllUnfolded clauses) → IsForward q line
  by_ask Ask.Begin line sp sf ip jf hp hf d nm pl = nothing_new Ask.Begin line (λ w. refl) fine
  by_ask Ask.Tick line sp sf ip jf hp hf d nm pl = nothing_new Ask.Tick line (λ w. refl) fine
  by_ask Ask.Await line sp sf ip jf hp hf d nm pl = nothing_new Ask.Await line (λ w. refl) fine
  by_ask (Ask.Print text) line sp sf ip jf hp hf d nm pl = nothing_new (Ask.Print text) line (λ w. refl) fine
  by_ask (Ask.Fails kind) line sp sf ip jf hp hf d nm pl = nothing_new (Ask.Fails kind) line (λ w. refl) fine
  by_ask Ask.Wait line sp sf ip jf hp hf d nm pl = record {
    nest = with_acting (with_lent nothing_lent t.held.task) (held_nest t rest ch);
    walk = refl;
    still = quiet_acting (with_lent nothing_lent t.held.task) (held_nest t rest ch) untold quiet;
    clean = fine;
  }
  by_ask (Ask.Read c) line sp sf ip jf hp hf d nm pl =
      let o : Option FaultKind = touch_fault (right_of t.own.context c) (lent_of t.own.context c) (mark_of t.own.context c) Reads in
      let i = in_cells P order first fuel few nothing_told z y t rest l r ca ch counts al c line (deeds.Finds (slice_index l.cells c)) (Ask.Read c) d in
      let x = touching Reads c line i (no_fault t.own line o (Load c) (act_now P l.owned.body) (touch_mild (right_of t.own.context c) (lent_of t.own.context c) (mark_of t.own.context c) Reads) hp right) in
      record { nest = x.nest; walk = x.walk; still = x.still; clean = x.clean }
  by_ask (Ask.Write c v) line sp sf ip jf hp hf d nm pl =
      let o : Option FaultKind = touch_fault (right_of t.own.context c) (lent_of t.own.context c) (mark_of t.own.context c) Writes in
      let i = in_cells P order first fuel few nothing_told z y t rest l r ca ch counts al c line (deeds.Finds 0) (Ask.Write c v) d in
      let x = touching Writes c line i (no_fault t.own line o (Store c (word_of v)) (act_now P l.owned.body) (touch_mild (right_of t.own.context c) (lent_of t.own.context c) (mark_of t.own.context c) Writes) hp right) in
      record { nest = x.nest; walk = x.walk; still = x.still; clean = x.clean }
  by_ask (Ask.Fold c op v) line sp sf ip jf hp hf d nm pl =
      let o : Option FaultKind = touch_fault (right_of t.own.context c) (lent_of t.own.context c) (mark_of t.own.context c) (Folds op) in
      let i = in_cells P order first fuel few nothing_told z y t rest l r ca ch counts al c line (deeds.Finds 0) (Ask.Fold c op v) d in
      let x = touching (Folds op) c line i (no_fault t.own line o (Folded c op (word_of v) (is_fold (sp c))) (act_now P l.owned.body) (touch_mild (right_of t.own.context c) (lent_of t.own.context c) (mark_of t.own.context c) (Folds op)) hp right) in
      record { nest = x.nest; walk = x.walk; still = x.still; clean = x.clean }
  by_ask (Ask.WaitOn named) line sp sf ip jf hp hf d nm pl =
      by_wait_on named line nm
      (no_fault t.own line (wait_on_fault t.own.context named) (WaitedOn named) (act_now P l.owned.body)
      (two_mild (any_cell (λ c. is_released (right_of t.own.context c)) named) (any_cell (λ c. lacks_right (right_of t.own.context c)) named)) hp right)
  by_ask (Ask.Release clauses) line sp sf ip jf hp hf d nm pl =
      by_release clauses line nm (pl clauses refl)
      (no_fault t.own line (release_fault t.own.context clauses) (Releases clauses ip) (act_now P l.owned.body)
      (two_mild (any_cell (λ c. is_released (right_of t.own.context c)) clauses) (any_cell (λ c. holds_uncovered (right_of t.own.context c) (right_from false clauses c)) clauses)) hp right)
  by_ask (Ask.Create o) line sp sf ip jf hp hf d nm pl = by_create o line nm (created_passes o line sp sf ip jf hp hf)
  by_ask Ask.End line sp sf ip jf hp hf d nm pl = record {
    nest = closed tell_nothing (held_nest t rest ch);
    walk = refl;
    still = quiet_closed (held_nest t rest ch) held_num quiet;
    clean = fine_closed_to ca t.asked (askeds rest) num fine.right fine.ended;
  }

  -- where an ask is walked, nothing is told of it
  used_is : (cells : ℕ → Bool) (line : ℕ) (used : Holding) → ((c : ℕ) → cells c ≡ true → t.held.task.released c ≡ false) → IsUse cells line t.held.task used → used ≡ t.held.task
  used_is cells line used k (none n) = refl
  used_is cells line used k (known u) = let x : false ≡ true = sym (ap (λ (ts : List Told). has_use ts line) untold) ∙ u in never (sym x)
  used_is cells line used k (told c i g u) = let x : true ≡ false = sym g ∙ k c i in never x

  hush_touch : (tch : Touch) (c line : ℕ) (m : Nest Holding) → c < length first → touch_fault (right_of t.own.context c) (lent_of t.own.context c) (mark_of t.own.context c) tch ≡ None → IsTouched tch c line (held_nest t rest ch) m → IsQuiet m
  hush_touch tch c line m i n b =
      let p = touch_back (length first) (given_at rest t.asked.task) t.asked.task.asked t.held.task.released t.held.task.lent t.own.context old.known c tch i n in
      let free : hinderer (t.held.task.has c) tch (t.held.task.lent c) ≡ None = ap (λ (g : Option Clause). hinderer g tch (t.held.task.lent c)) (old.has c (below c i)) ∙ p.free in
      let same : touched tch c line t.held.task ≡ t.held.task = ap (λ (o : Option Holder). waits_before tch c line o t.held.task) free in
      let u : b.used ≡ t.held.task = used_is (λ d. c == d) line b.used (λ d e. ap (λ (k : ℕ). t.held.task.released k) (same_cell c d e) ∙ p.kept) b.use_is in
      subst IsQuiet (sym b.new_is) (quiet_acting (touched tch c line b.used) (held_nest t rest ch) (ap (λ (h : Holding). (touched tch c line h).told) u ∙ ap (λ (h : Holding). h.told) same ∙ untold) quiet)

  hush_directed : (clauses : List Access) (line : ℕ) (after : Holding → Holding) (m : Nest Holding) → ((h : Holding) → (after h).told ≡ h.told) → ((c : ℕ) → in_clauses clauses c ≡ true → t.held.task.released c ≡ false)
      → IsDirective (in_clauses clauses) line after (held_nest t rest ch) m → IsQuiet m
  hush_directed clauses line after m same k b =
      let u : b.used ≡ t.held.task = used_is (in_clauses clauses) line b.used k b.use_is in
      subst IsQuiet (sym b.new_is) (quiet_acting (after b.used) (held_nest t rest ch) (same b.used ∙ ap (λ (h : Holding). h.told) u ∙ untold) quiet)

  pub hush_ask : (e : Clean) (q : Ask S) (line : ℕ) (m : Nest Holding) (sp sf : ℕ → Right) (ip jf : Bool) → act_now P l.owned.body ≡ act_of_ask sp ip t.own q line
      → act_now (free_run P order first fuel) l.freely.body ≡ act_of_ask sf jf t.free (freed_ask (length first) q) line
      → IsDeed (length first) t.free (act_now (free_run P order first fuel) l.freely.body) q l.cells (asked_deed (length first) t.free.context.fuel t.free.context.depth t.free.context.ticks t.free.context.created l.cells q line)
      → IsNaming (length first) q → ((clauses : List Access) → q ≡ Ask.Release clauses → AllUnfolded clauses)
      → IsBehindAsk (mended_in e.asked) t.free q line (held_nest t rest ch) m → AskedFated e (behind_ask t.free q line (asked_nest t rest ca)) → IsQuiet m
  hush_ask e Ask.Begin line m sp sf ip jf hp hf d nm pl b fa = subst IsQuiet (sym b) quiet
  hush_ask e Ask.Tick line m sp sf ip jf hp hf d nm pl b fa = subst IsQuiet (sym b) quiet
  hush_ask e Ask.Await line m sp sf ip jf hp hf d nm pl b fa = subst IsQuiet (sym b) quiet
  hush_ask e (Ask.Print text) line m sp sf ip jf hp hf d nm pl b fa = subst IsQuiet (sym b) quiet
  hush_ask e (Ask.Fails kind) line m sp sf ip jf hp hf d nm pl b fa = subst IsQuiet (sym b) quiet
  hush_ask e Ask.Wait line m sp sf ip jf hp hf d nm pl b fa = subst IsQuiet (sym b) (quiet_acting (with_lent nothing_lent t.held.task) (held_nest t rest ch) untold quiet)
  hush_ask e Ask.End line m sp sf ip jf hp hf d nm pl b fa = subst IsQuiet (sym b) (quiet_closed (held_nest t rest ch) held_num quiet)
  hush_ask e (Ask.Read c) line m sp sf ip jf hp hf d nm pl b fa =
      let o : Option FaultKind = touch_fault (right_of t.own.context c) (lent_of t.own.context c) (mark_of t.own.context c) Reads in
      let i = in_cells P order first fuel few nothing_told z y t rest l r ca ch counts al c line (deeds.Finds (slice_index l.cells c)) (Ask.Read c) d in
      hush_touch Reads c line m i (no_fault t.own line o (Load c) (act_now P l.owned.body) (touch_mild (right_of t.own.context c) (lent_of t.own.context c) (mark_of t.own.context c) Reads) hp right) b
  hush_ask e (Ask.Write c v) line m sp sf ip jf hp hf d nm pl b fa =
      let o : Option FaultKind = touch_fault (right_of t.own.context c) (lent_of t.own.context c) (mark_of t.own.context c) Writes in
      let i = in_cells P order first fuel few nothing_told z y t rest l r ca ch counts al c line (deeds.Finds 0) (Ask.Write c v) d in
      hush_touch Writes c line m i (no_fault t.own line o (Store c (word_of v)) (act_now P l.owned.body) (touch_mild (right_of t.own.context c) (lent_of t.own.context c) (mark_of t.own.context c) Writes) hp right) b
  hush_ask e (Ask.Fold c op v) line m sp sf ip jf hp hf d nm pl b fa =
      let o : Option FaultKind = touch_fault (right_of t.own.context c) (lent_of t.own.context c) (mark_of t.own.context c) (Folds op) in
      let i = in_cells P order first fuel few nothing_told z y t rest l r ca ch counts al c line (deeds.Finds 0) (Ask.Fold c op v) d in
      hush_touch (Folds op) c line m i (no_fault t.own line o (Folded c op (word_of v) (is_fold (sp c))) (act_now P l.owned.body) (touch_mild (right_of t.own.context c) (lent_of t.own.context c) (mark_of t.own.context c) (Folds op)) hp right) b
  hush_ask e (Ask.WaitOn named) line m sp sf ip jf hp hf d nm pl b fa =
      let n : wait_on_fault t.own.context named ≡ None = no_fault t.own line (wait_on_fault t.own.context named) (WaitedOn named) (act_now P l.owned.body)
      (two_mild (any_cell (λ c. is_released (right_of t.own.context c)) named) (any_cell (λ c. lacks_right (right_of t.own.context c)) named)) hp right in
      hush_directed named line (waits_on named) m (λ h. refl)
      (λ c i. (wait_back (length first) (given_at rest t.asked.task) t.asked.task.asked t.held.task.released t.held.task.lent t.own.context old.known named c (nm c i) i n).kept) b
  hush_ask e (Ask.Release clauses) line m sp sf ip jf hp hf d nm pl b fa =
      let n : release_fault t.own.context clauses ≡ None = no_fault t.own line (release_fault t.own.context clauses) (Releases clauses ip) (act_now P l.owned.body)
      (two_mild (any_cell (λ c. is_released (right_of t.own.context c)) clauses) (any_cell (λ c. holds_uncovered (right_of t.own.context c) (right_from false clauses c)) clauses)) hp right in
      hush_directed clauses line (releases clauses) m (λ h. refl)
      (λ c i. (release_back (length first) (given_at rest t.asked.task) t.asked.task.asked t.held.task.released t.held.task.lent t.own.context old.known clauses c (pl clauses refl) (nm c i) i n).kept) b
  hush_ask e (Ask.Create o) line m sp sf ip jf hp hf d nm pl b fa =
      let lends = o.when && not t.free.context.final in
      let new : Holding = new_holding (t.free.context.created ∷ t.free.path) line (mended_in e.asked (length ch)) in
      let h : Holding = held_when lends t.free.context.created line (mended_in e.asked (length ch)) b.used in
      let f = fate_of_new IsMoreAsked asked_still asked_later tell_creator asked_told e.asked e.asked_main (created_by t.free o line) (asked_nest t rest ca) fa in
      let u : b.used ≡ t.held.task = used_is (λ k. is_some (mended_in e.asked (length ch) k)) line b.used (λ c i. kept o line nm (created_passes o line sp sf ip jf hp hf) e.asked f (e.lacks (length ca) f.last f.at_) c i) b.use_is in
      subst IsQuiet (sym b.new_is)
      (quiet_opened new (with_acting h (held_nest t rest ch)) refl
      (quiet_acting h (held_nest t rest ch) (lent_told lends t.free.context.created line (mended_in e.asked (length ch)) b.used ∙ ap (λ (x : Holding). x.told) u ∙ untold) quiet))
