-- What is told of the tasks of a list is nothing exactly if their clauses lack nothing and no line was told of them.
use Rattle.std.proofs.Common.{◌≡◌, ℕ, zero, suc, ◌≤◌, List, [], ◌∷◌, length, Option, Some, None, refl, ap, subst, arith}
use Rattle.std.specs.Prelude.{get_or}
use Rattle.oss_syntax.specs.declared.tree.program.Item.{Item}
use Rattle.oss_explanation.specs.declared.explained.Held.{Held}
use Rattle.oss_missing_lines.specs.declared.missing.Late.{Late}
use Rattle.oss_missing_lines.specs.declared.missing.TaskMissing.{TaskMissing}
use Rattle.oss_missing_lines.specs.declared.missing.Wanting.{Wanting}
use Rattle.oss_lacks.specs.Asking.{Asking}
use Rattle.oss_lacks.specs.Nests.{Nest}
use Rattle.oss_lack_words.specs.Told.{AreLacking, AreWanting}
use Rattle.oss_missing_waits.specs.Holding.{Holding, Told}
use Rattle.oss_missing_waits.specs.Lines.{AreLines}
use Rattle.oss_missing.specs.Making.{others}
use Rattle.oss_missing.specs.Missing.{AreAllMissing, AreLinesOf, AreTasksMissing, first_known, lacks_of}
use Rattle.oss_missing_laws.specs.Numbers.{AreOneByOne}
use Rattle.oss_missing_laws.specs.Programs.{LacksNothing, NothingTold}
use Rattle.oss_missing_program_laws.specs.Exact.{AreToldNothing, IsTaskToldNothing}
use Rattle.oss_missing_program_laws.proofs.EmptyPieces.{cells_from}
use Rattle.oss_missing_program_laws.proofs.EmptyWords.{lacks_empty, lacks_none, lacks_nothing, wants_empty}
use Rattle.oss_missing_program_laws.proofs.FewCells.{IsFew}

-- Of these tasks, by their numbers, each that has ended has the property.
abbrev pub Each : {A : Type 0} → (A → Type 0) → List (Option A) → Type 0
Each {A} Has ts = (i : ℕ) (t : A) → get_or ts i None ≡ Some t → Has t

abbrev IsUntold : Holding → Type 0
IsUntold h = h.told ≡ []

nobody : {A : Type 0} (Has : A → Type 0) → Each Has []
nobody Has zero t e = absurd cc
nobody Has (suc i) t e = absurd cc

rest_each : {A : Type 0} (Has : A → Type 0) (hs : List (Option A)) → Each Has hs → Each Has (others hs)
rest_each Has [] h = nobody Has
rest_each Has (x ∷ hs) h = λ i t e. h (suc i) t e

first_each : {A : Type 0} (Has : A → Type 0) (hs : List (Option A)) → Each Has hs → (t : A) → first_known hs ≡ Some t → Has t
first_each Has [] h t e = absurd cc
first_each Has (x ∷ hs) h t e = h 0 t e

-- Lists that go together one by one are as long.
pub as_long : (ts : List (Option Asking)) (hs : List (Option Holding)) → AreOneByOne ts hs → length ts ≡ length hs
as_long [] [] h = refl
as_long [] (x ∷ hs) h = absurd h
as_long (None ∷ ts) [] h = absurd h
as_long (Some t ∷ ts) [] h = absurd h
as_long (None ∷ ts) (None ∷ hs) h = ap suc (as_long ts hs h)
as_long (None ∷ ts) (Some x ∷ hs) h = absurd h
as_long (Some t ∷ ts) (None ∷ hs) h = absurd h
as_long (Some t ∷ ts) (Some x ∷ hs) h = ap suc (as_long ts hs h.1)

module _ (all : List Item) where
  lines_none : (told : List Told) → AreLines all told [] → told ≡ []
  lines_none [] h = refl
  lines_none (t ∷ ts) h = absurd h

  none_lines : (told : List Told) (ls : List Late) → told ≡ [] → AreLines all told ls → ls ≡ []
  none_lines [] [] e h = refl
  none_lines [] (l ∷ ls) e h = absurd h
  none_lines (t ∷ ts) ls e h = absurd cc

  untold_of : (x : Option Holding) (ls : List Late) → AreLinesOf all x ls → ls ≡ [] → (h : Holding) → x ≡ Some h → h.told ≡ []
  untold_of None ls a e h k = absurd cc
  untold_of (Some g) ls a e h k =
      let i : g ≡ h = cc in
      subst IsUntold i (lines_none g.told (subst (λ (xs : List Late). AreLines all g.told xs) e a))

  no_lines_of : (x : Option Holding) (ls : List Late) → AreLinesOf all x ls → ((h : Holding) → x ≡ Some h → h.told ≡ []) → ls ≡ []
  no_lines_of None ls a f = a
  no_lines_of (Some g) ls a f = none_lines g.told ls (f g refl) a

  -- Nothing is told, so nothing is lacking,
  pub tasks_lack : (n : ℕ) → n ≤ 1048576 → n ≤ cells_from all → (ts : List (Option Asking)) (hs : List (Option Holding)) (ks : List TaskMissing) → AreTasksMissing all ts hs ks → AreToldNothing ks → Each (IsFew n) ts
      → (i : ℕ) (t : Asking) → get_or ts i None ≡ Some t → LacksNothing t
  tasks_lack n few cells [] hs ks a b small i t e = nobody LacksNothing i t e
  tasks_lack n few cells (None ∷ ts) hs ks a b small i t e = absurd a
  tasks_lack n few cells (Some u ∷ ts) hs [] a b small i t e = absurd a
  tasks_lack n few cells (Some u ∷ ts) hs (k ∷ ks) a b small zero t e =
      let own : LacksNothing u = lacks_nothing all n few cells u (small 0 u refl) (subst (λ (xs : List Held). AreLacking all (lacks_of u) xs) b.0.lacks a.0.lacks)
      (subst (λ (xs : List Wanting). AreWanting all (lacks_of u) u.final u.clauses xs) b.0.wants a.0.wants) in
      let same : u ≡ t = cc in
      subst LacksNothing same own
  tasks_lack n few cells (Some u ∷ ts) hs (k ∷ ks) a b small (suc i) t e = tasks_lack n few cells ts (others hs) ks a.1 b.1 (λ j v g. small (suc j) v g) i t e

  -- and no line was told.
  pub tasks_told : (ts : List (Option Asking)) (hs : List (Option Holding)) (ks : List TaskMissing) → AreTasksMissing all ts hs ks → AreToldNothing ks → length hs ≤ length ts
      → (i : ℕ) (h : Holding) → get_or hs i None ≡ Some h → h.told ≡ []
  tasks_told ts [] ks a b l i h e = nobody IsUntold i h e
  tasks_told [] (x ∷ hs) ks a b l i h e = absurd (omega (arith, l))
  tasks_told (None ∷ ts) (x ∷ hs) ks a b l i h e = absurd a
  tasks_told (Some u ∷ ts) (x ∷ hs) [] a b l i h e = absurd a
  tasks_told (Some u ∷ ts) (x ∷ hs) (k ∷ ks) a b l zero h e = untold_of x k.late a.0.lines b.0.late h e
  tasks_told (Some u ∷ ts) (x ∷ hs) (k ∷ ks) a b l (suc i) h e = tasks_told ts hs ks a.1 b.1 (omega (arith, l)) i h e

  -- The other way round.
  tasks_nothing : (ts : List (Option Asking)) (hs : List (Option Holding)) (ks : List TaskMissing) → AreTasksMissing all ts hs ks → Each LacksNothing ts → Each IsUntold hs → AreToldNothing ks
  tasks_nothing [] hs [] a l u = tt
  tasks_nothing [] hs (k ∷ ks) a l u = absurd a
  tasks_nothing (None ∷ ts) hs ks a l u = absurd a
  tasks_nothing (Some t ∷ ts) hs [] a l u = absurd a
  tasks_nothing (Some t ∷ ts) hs (k ∷ ks) a l u =
      let own : (c : ℕ) → lacks_of t c ≡ None = lacks_none t (l 0 t refl) in
      let here : IsTaskToldNothing k = record {
        lacks = lacks_empty all (lacks_of t) own a.0.lacks;
        wants = wants_empty all (lacks_of t) t.final t.clauses own a.0.wants;
        late = no_lines_of (first_known hs) k.late a.0.lines (first_each IsUntold hs u);
      } in
      (here, tasks_nothing ts (others hs) ks a.1 (λ i v g. l (suc i) v g) (rest_each IsUntold hs u))

  -- Main, and all tasks

  pub all_lack : (n : ℕ) → n ≤ 1048576 → n ≤ cells_from all → (ts : List (Option Asking)) (held : Nest Holding) (ks : List TaskMissing) → AreAllMissing all ts held ks → AreToldNothing ks → Each (IsFew n) ts → Each LacksNothing ts
  all_lack n few cells ts held [] a b small = absurd a
  all_lack n few cells ts held (k ∷ ks) a b small = tasks_lack n few cells ts held.ended ks a.1 b.1 small

  pub all_told : (ts : List (Option Asking)) (held : Nest Holding) (ks : List TaskMissing) → AreAllMissing all ts held ks → AreToldNothing ks → length held.ended ≤ length ts → NothingTold held
  all_told ts held [] a b l = absurd a
  all_told ts held (k ∷ ks) a b l = record {
    main = lines_none held.acting.task.told (subst (λ (xs : List Late). AreLines all held.acting.task.told xs) b.0.late a.0.lines);
    tasks = tasks_told ts held.ended ks a.1 b.1 l;
  }

  pub all_nothing : (ts : List (Option Asking)) (held : Nest Holding) (ks : List TaskMissing) → AreAllMissing all ts held ks → Each LacksNothing ts → NothingTold held → AreToldNothing ks
  all_nothing ts held [] a l u = absurd a
  all_nothing ts held (k ∷ ks) a l u =
      let here : IsTaskToldNothing k = record { lacks = a.0.lacks; wants = a.0.wants; late = none_lines held.acting.task.told k.late u.main a.0.lines } in
      (here, tasks_nothing ts held.ended ks a.1 l u.tasks)
