-- Both runs side by side: their open tasks, and what the walks know of each.
use Rattle.std.proofs.Common.{◌≡◌, refl, sym, subst, ap, ◌∙◌, ℕ, zero, suc, ◌+◌, ◌-◌, ◌<◌, Bool, true, false, List, [], ◌∷◌, arith, Option, Some, None}
use Rattle.std.specs.Prelude.{◌&&◌, ◌==◌, if◌then◌else◌, nat_le, nat_lt}
use Rattle.std.proofs.lemmas.Bool.Decides.{nat_tests}
use Rattle.oss_syntax.specs.declared.access.Access.{Access}
use Rattle.oss_syntax.specs.declared.access.Mode.{Mode}
use Rattle.oss_syntax.specs.declared.access.Mode.TheVariants.{Write}
use Rattle.oss_ranges.specs.Cells.{is_within}
use Rattle.oss_model.specs.Rights.{Holds, Mark, NoRight, Released, Right, Written, in_access, is_fresh, is_mixed, joined_mode, joined_right, right_from, right_held}
use Rattle.oss_model.specs.Bodies.{Frame, Program}
use Rattle.oss_needs.specs.declared.clause.Clause.{Clause}
use Rattle.oss_needs.specs.declared.clause.Given.{Given}
use Rattle.oss_needs.specs.declared.clause.Given.TheVariants as given
use Rattle.oss_needs.specs.declared.demand.Demand.{Demand}
use Rattle.oss_needs.specs.declared.demand.Demand.TheVariants.{Create, Fold, Load, Release, Store, Wait}
use Rattle.oss_needs.specs.declared.lack.Lack.{Lack}
use Rattle.oss_needs.specs.declared.lack.Lack.TheVariants as lack
use Rattle.oss_needs.specs.Claims.{all_right, is_nothing, said}
use Rattle.oss_needs.specs.Demands.{has_value}
use Rattle.oss_needs.specs.Givens.{given_of, said_by}
use Rattle.oss_needs.specs.Lacks.{lack_of, mended, mended_by}
use Rattle.oss_needs.specs.Meeting.{is_met, mark_behind, mark_by, right_by}
use Rattle.oss_needs.proofs.Bools.{both_true}
use Rattle.oss_needs.proofs.GivenLemmas.{given_is, lacks_faults}
use Rattle.oss_lent_cells.specs.Lent.{counted_if}
use Rattle.oss_task_needs.specs.Asking.{Asked, asks, asks_for}
use Rattle.oss_lacks.specs.Nests.{Nest, Numbered}
use Rattle.oss_lacks.specs.Asking.{Asking, mended_clauses, tell_creator}
use Rattle.oss_missing_waits.specs.Holding.{Holding}
use Rattle.oss_missing_waits.specs.Waits.{has_by, mended_in, tell_nothing}
use Rattle.oss_missing_laws.specs.Programs.{LacksNothing}
use Rattle.oss_missing_laws.proofs.AlikeLemmas.{IsBeside}
use Rattle.oss_missing_laws.proofs.EntryLemmas.{unmixed}
use Rattle.oss_missing_laws.proofs.FateLemmas.{HaveFates, IsFated, ended_at}
use Rattle.oss_missing_laws.proofs.GrowLemmas.{IsMoreAsked, IsMoreTold, asked_later, asked_still, asked_told, right_suffix, told_later, told_still}
use Rattle.oss_missing_laws.proofs.KnownLemmas.{IsKnown, whole_clause}

-- An open task of both runs, and what the walks know of it.
pub record Twin (S : Type 0) : Type 0 where
  pub own : Frame S
  pub free : Frame S
  pub asked : Numbered Asking
  pub held : Numbered Holding

abbrev pub owns : {S : Type 0} → List (Twin S) → List (Frame S)
owns [] = []
owns (t ∷ ts) = t.own ∷ owns ts

abbrev pub frees : {S : Type 0} → List (Twin S) → List (Frame S)
frees [] = []
frees (t ∷ ts) = t.free ∷ frees ts

abbrev pub askeds : {S : Type 0} → List (Twin S) → List (Numbered Asking)
askeds [] = []
askeds (t ∷ ts) = t.asked ∷ askeds ts

abbrev pub helds : {S : Type 0} → List (Twin S) → List (Numbered Holding)
helds [] = []
helds (t ∷ ts) = t.held ∷ helds ts

abbrev pub asked_nest : {S : Type 0} → Twin S → List (Twin S) → List (Option Asking) → Nest Asking
asked_nest t rest ended = record { acting = t.asked; above = askeds rest; ended = ended }

abbrev pub held_nest : {S : Type 0} → Twin S → List (Twin S) → List (Option Holding) → Nest Holding
held_nest t rest ended = record { acting = t.held; above = helds rest; ended = ended }

-- What clauses say of each cell: of main, that it may do everything.
abbrev pub given_by : Asking → ℕ → Option Clause
given_by a c = said (given_of a.final a.clauses c)

abbrev pub given_at : {S : Type 0} → List (Twin S) → Asking → ℕ → Option Clause
given_at [] a = λ c. whole_clause
given_at (t ∷ ts) a = given_by a

abbrev pub nothing_pending : ℕ → Option Clause
nothing_pending c = None

-- The runs stand side by side at this task, and the judge holds what the walks tell. A task that it has created counts already as asked for.
pub record IsTogether {S : Type 0} (P : Program S) (n : ℕ) (given pending : ℕ → Option Clause) (t : Twin S) : Type 0 where
  pub beside : IsBeside P t.own t.free
  pub known : IsKnown n given (asks_for pending t.asked.task.asked) t.held.task.released t.held.task.lent t.own.context
  pub has : (c : ℕ) → c < 1048576 → t.held.task.has c ≡ given c

abbrev pub AreTogether : {S : Type 0} → Program S → ℕ → (ℕ → Option Clause) → Twin S → List (Twin S) → Type 0
AreTogether P n pending t [] = IsTogether P n (λ c. whole_clause) pending t
AreTogether P n pending t (u ∷ rest) = IsTogether P n (given_by t.asked.task) pending t × AreTogether P n (given_by t.asked.task) u rest

module _ {S : Type 0} (P : Program S) (n : ℕ) where
  pub head_of : (pending : ℕ → Option Clause) (t : Twin S) (rest : List (Twin S)) → AreTogether P n pending t rest → IsTogether P n (given_at rest t.asked.task) pending t
  head_of pending t [] h = h
  head_of pending t (u ∷ rest) h = h.0

  pub rehead : (before pending : ℕ → Option Clause) (t u : Twin S) (rest : List (Twin S)) → AreTogether P n before t rest → given_by u.asked.task ≡ given_by t.asked.task → IsTogether P n (given_at rest t.asked.task) pending u → AreTogether P n pending u rest
  rehead before pending t u [] h e k = k
  rehead before pending t u (w ∷ rest) h e k =
      (subst (λ (g : ℕ → Option Clause). IsTogether P n g pending u) (sym e) k, subst (λ (g : ℕ → Option Clause). AreTogether P n g w rest) (sym e) h.1)

-- what clauses say, by what they are
pub given_same : (a b : Asking) → b.final ≡ a.final → b.clauses ≡ a.clauses → (c : ℕ) → given_by b c ≡ given_by a c
given_same a b f e c = ap (λ (x : Bool). said (given_of x b.clauses c)) f ∙ ap (λ (xs : List Access). said (given_of a.final xs c)) e

pub given_at_same : {S : Type 0} (rest : List (Twin S)) (a b : Asking) → b.final ≡ a.final → b.clauses ≡ a.clauses → (c : ℕ) → given_at rest b c ≡ given_at rest a c
given_at_same [] a b f e c = refl
given_at_same (t ∷ rest) a b f e c = given_same a b f e c

-- main may do everything
main_right : (ds : List Demand) → all_right (Holds Write true) Written ds ≡ true
main_right [] = refl
main_right (d ∷ ds) = ap (λ (b : Bool). b && is_met (Holds Write true) (mark_behind Written ds) d) (main_right ds) ∙ go (has_value ds) d
  where
    go : (b : Bool) (d : Demand) → is_met (Holds Write true) (if b then Written else Written) d ≡ true
    go true Load = refl
    go true Store = refl
    go true (Fold op) = refl
    go true (Release m) = refl
    go true Wait = refl
    go true (Create c) = refl
    go false Load = refl
    go false Store = refl
    go false (Fold op) = refl
    go false (Release m) = refl
    go false Wait = refl
    go false (Create c) = refl

-- what a demand in front asks is met
pub met_in_front : (r : Right) (m : Mark) (d : Demand) (ds : List Demand) → all_right r m (d ∷ ds) ≡ true → is_met r (mark_behind m ds) d ≡ true
met_in_front r m d ds e = both_true (all_right r m ds) (is_met r (mark_behind m ds) d) e

pub here_is : (c : ℕ) → is_within c (c + 1) c ≡ true
here_is c = let a : nat_le c c ≡ true = grind (arith, nat_tests) in let b : nat_lt c (c + 1) ≡ true = grind (arith, nat_tests) in ap (λ (x : Bool). x && nat_lt c (c + 1)) a ∙ b

pub asks_here : (d : Demand) (c : ℕ) (asked : Asked) → asks d c (c + 1) asked c ≡ d ∷ asked c
asks_here d c asked = ap (λ (b : Bool). if b then d ∷ asked c else asked c) (here_is c)

-- What is told of tasks at the end: nothing is lacking of them, and nothing was told.
pub record Clean : Type 0 where
  pub asked : List (Option Asking)
  pub asked_main : Asking
  pub held : List (Option Holding)
  pub held_main : Holding
  pub lacks : (i : ℕ) (t : Asking) → ended_at asked i ≡ Some t → LacksNothing t
  pub untold : (i : ℕ) (t : Holding) → ended_at held i ≡ Some t → t.told ≡ []
  pub untold_main : held_main.told ≡ []

pub held_told : (t u : Holding) → IsMoreTold u (tell_nothing t u)
held_told t u = told_still u

abbrev pub AskedFates : Clean → Numbered Asking → List (Numbered Asking) → Type 0
AskedFates e k above = HaveFates IsMoreAsked asked_still asked_later tell_creator asked_told e.asked e.asked_main k above

abbrev pub AskedFated : Clean → Nest Asking → Type 0
AskedFated e n = IsFated IsMoreAsked asked_still asked_later tell_creator asked_told e.asked e.asked_main n

abbrev pub HeldFates : Clean → Numbered Holding → List (Numbered Holding) → Type 0
HeldFates e k above = HaveFates IsMoreTold told_still told_later tell_nothing held_told e.held e.held_main k above

abbrev pub HeldFated : Clean → Nest Holding → Type 0
HeldFated e n = IsFated IsMoreTold told_still told_later tell_nothing held_told e.held e.held_main n

-- what lacks nothing is right
pub lacking_right : (a : Asking) (c : ℕ) → c < 1048576 → LacksNothing a → all_right (right_by (given_by a c)) (mark_by (given_by a c)) (a.asked c) ≡ true
lacking_right a c l h =
    let e : is_nothing (lack_of (given_of a.final a.clauses c) (a.asked c)) ≡ true = ap is_nothing (h c l) in
    let m = unmixed a.final a.clauses c (a.asked c) e in
    let g = given_is a.final a.clauses c in
    ap (λ (r : Right). all_right r (mark_by (given_by a c)) (a.asked c)) (g.right m)
    ∙ ap (λ (k : Mark). all_right (right_from a.final a.clauses c) k (a.asked c)) (g.mark m)
    ∙ sym (lacks_faults a.final a.clauses c (a.asked c) m) ∙ e

pub lacking_unmixed : (a : Asking) (c : ℕ) → c < 1048576 → LacksNothing a → is_mixed a.final a.clauses c ≡ false
lacking_unmixed a c l h = unmixed a.final a.clauses c (a.asked c) (ap is_nothing (h c l))

-- what clauses say that lack nothing, once they are mended
mended_nothing : (g : Given) → mended_by g lack.Nothing ≡ said g
mended_nothing given.Nothing = refl
mended_nothing given.Mixed = refl
mended_nothing (given.Says d) = refl

pub mended_said : (a : Asking) (c : ℕ) → c < 1048576 → LacksNothing a → mended_clauses a c ≡ given_by a c
mended_said a c l h =
    let x : nat_le 0 c ≡ true = grind (arith, nat_tests) in
    let y : nat_lt c 1048576 ≡ true = grind (arith, nat_tests, l) in
    let w : is_within 0 1048576 c ≡ true = ap (λ (b : Bool). b && nat_lt c 1048576) x ∙ y in
    ap (λ (b : Bool). if b then mended (given_of a.final a.clauses c) (a.asked c) else None) w
    ∙ ap (λ (k : Lack). mended_by (given_of a.final a.clauses c) k) (h c l)
    ∙ mended_nothing (given_of a.final a.clauses c)

-- Each clause of a final task is strong.
abbrev IsStrong : Right → Type 0
IsStrong (Holds m strong) = strong ≡ true
IsStrong _ = Unit {0}

held_strong : (o : Option Mode) → IsStrong (right_held o true)
held_strong None = tt
held_strong (Some m) = refl

joined_strong : (m : Mode) (r : Right) → IsStrong (joined_right m true r)
joined_strong m NoRight = refl
joined_strong m (Holds n other) = held_strong (joined_mode m n)
joined_strong m Released = refl

joined_if : (b : Bool) (m : Mode) (r : Right) → IsStrong r → IsStrong (if b then joined_right m true r else r)
joined_if true m r h = joined_strong m r
joined_if false m r h = h

right_strong : (clauses : List Access) (c : ℕ) → IsStrong (right_from true clauses c)
right_strong [] c = tt
right_strong (a ∷ rest) c = joined_if (in_access a c) a.mode (right_from true rest c) (right_strong rest c)

-- So what its clauses say counts as it is.
counted_right : (final : Bool) (r : Right) (fresh : Bool) → (final ≡ true → IsStrong r) → counted_if final (said (said_by r fresh)) ≡ said (said_by r fresh)
counted_right final NoRight fresh h = refl
counted_right true (Holds m strong) fresh h = ap (λ (s : Bool). Some (let k : Clause = record { mode = m; strong = s; fresh = fresh } in k)) (sym (h refl))
counted_right false (Holds m strong) fresh h = refl
counted_right final Released fresh h = refl

as_it_is : (b final : Bool) (r : Right) (fresh : Bool) → (final ≡ true → IsStrong r) → counted_if final (said (if b then given.Mixed else said_by r fresh)) ≡ said (if b then given.Mixed else said_by r fresh)
as_it_is true final r fresh h = refl
as_it_is false final r fresh h = counted_right final r fresh h

counted_said : (a : Asking) (c : ℕ) → counted_if a.final (given_by a c) ≡ given_by a c
counted_said a c =
    as_it_is (is_mixed a.final a.clauses c) a.final (right_from a.final a.clauses c) (is_fresh a.clauses c) (λ e. subst (λ (b : Bool). IsStrong (right_from b a.clauses c)) (sym e) (right_strong a.clauses c))

-- By what a task has a cell of which nothing is lacking.
pub has_said : (a : Asking) (c : ℕ) → c < 1048576 → LacksNothing a → has_by a c ≡ given_by a c
has_said a c l h = ap (λ (k : Option Clause). counted_if a.final k) (mended_said a c l h) ∙ counted_said a c

-- by a task's number
pub mended_at : (ended : List (Option Asking)) (i : ℕ) (last : Asking) → ended_at ended i ≡ Some last → (c : ℕ) → mended_in ended i c ≡ has_by last c
mended_at [] i last e c = let x : None ≡ Some last = e in cc
mended_at (Some t ∷ rest) zero last e c = let k : t ≡ last = cc in ap (λ (a : Asking). has_by a c) k
mended_at (None ∷ rest) zero last e c = let x : None ≡ Some last = e in cc
mended_at (Some t ∷ rest) (suc i) last e c =
    let a : (suc i == 0) ≡ false = grind (arith, nat_tests) in
    let b : suc i - 1 ≡ i = omega arith in
    ap (λ (x : Bool). if x then has_by t c else mended_in rest (suc i - 1) c) a ∙ ap (λ (j : ℕ). mended_in rest j c) b ∙ mended_at rest i last e c
mended_at (None ∷ rest) (suc i) last e c =
    let a : (suc i == 0) ≡ false = grind (arith, nat_tests) in
    let b : suc i - 1 ≡ i = omega arith in
    ap (λ (x : Bool). if x then None else mended_in rest (suc i - 1) c) a ∙ ap (λ (j : ℕ). mended_in rest j c) b ∙ mended_at rest i last e c

module _ {S : Type 0} (e : Clean) where
  -- what a task has asked so far is right, since nothing is lacking at its end
  pub right_now_asked : (k : Numbered Asking) (rest : List (Twin S)) → AskedFates e k (askeds rest) → (c : ℕ) → c < 1048576 → all_right (right_by (given_at rest k.task c)) (mark_by (given_at rest k.task c)) (k.task.asked c) ≡ true
  right_now_asked k [] h c l = main_right (k.task.asked c)
  right_now_asked k (t ∷ rest) h c l =
      let f = h.0 in
      let r = lacking_right f.last c l (e.lacks k.number f.last f.at_) in
      let s = right_suffix (right_by (given_by f.last c)) (mark_by (given_by f.last c)) (f.more.asked c) r in
      ap (λ (g : Option Clause). all_right (right_by g) (mark_by g) (k.task.asked c)) (sym (given_same k.task f.last f.more.final f.more.clauses c)) ∙ s

  pub untold_now : (k : Numbered Holding) (rest : List (Twin S)) → HeldFates e k (helds rest) → k.task.told ≡ []
  untold_now k [] h = h.untold e.untold_main
  untold_now k (t ∷ rest) h = h.0.more.untold (e.untold k.number h.0.last h.0.at_)
