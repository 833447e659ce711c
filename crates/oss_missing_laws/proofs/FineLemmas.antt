-- Open tasks of which nothing is lacking so far, and what follows where they all end there.
use Rattle.std.proofs.Common.{◌≡◌, refl, sym, subst, ap, ◌∙◌, ℕ, zero, suc, ◌<◌, ◌⊎◌, inl, inr, true, false, List, [], ◌∷◌, ◌++◌, length, arith, Option, Some, None}
use Rattle.std.specs.Prelude.{◌≢◌, set}
use Rattle.std.proofs.lemmas.List.{get_or-set_other, get_or-set_same}
use Rattle.oss_model.specs.Rights.{Mark, Right, is_mixed, mark_from}
use Rattle.oss_needs.specs.declared.clause.Clause.{Clause}
use Rattle.oss_needs.specs.declared.lack.Lack.{Lack}
use Rattle.oss_needs.specs.declared.lack.Lack.TheVariants as lack
use Rattle.oss_needs.specs.Claims.{all_right, is_nothing}
use Rattle.oss_needs.specs.Givens.{given_of}
use Rattle.oss_needs.specs.Lacks.{lack_of}
use Rattle.oss_needs.specs.Meeting.{mark_by, right_by}
use Rattle.oss_needs.proofs.Bools.{never}
use Rattle.oss_needs.proofs.GivenLemmas.{given_is, lacks_faults}
use Rattle.oss_task_needs.specs.Asking.{Asked, asks_for, creates}
use Rattle.oss_lacks.specs.Asking.{Asking, asking, mended_clauses, tell_creator}
use Rattle.oss_lacks.specs.Nests.{Nest, Numbered, all_closed, all_closed_to, closed, closed_to, opened, with_acting}
use Rattle.oss_missing_waits.specs.Holding.{Holding}
use Rattle.oss_missing_waits.specs.Waits.{tell_nothing}
use Rattle.oss_missing_laws.specs.Programs.{LacksNothing, NothingTold}
use Rattle.oss_missing_laws.proofs.FateLemmas.{AreNumbered, IsNumbered, closed_numbered, ended_at}
use Rattle.oss_missing_laws.proofs.KnownLemmas.{whole_clause}
use Rattle.oss_missing_laws.proofs.LevelLemmas.{Twin, askeds, given_at, given_by, mended_said, nothing_pending}

-- The judge finds no fault of what a task has asked so far, a task that it has created counting as asked for.
abbrev pub IsRight : (ℕ → Option Clause) → (ℕ → Option Clause) → Asked → Type 0
IsRight given pending asked = (c : ℕ) → c < 1048576 → all_right (right_by (given c)) (mark_by (given c)) (asks_for pending asked c) ≡ true

abbrev pub IsUnmixed : Asking → Type 0
IsUnmixed a = (c : ℕ) → c < 1048576 → is_mixed a.final a.clauses c ≡ false

abbrev pub AreRight : (ℕ → Option Clause) → Numbered Asking → List (Numbered Asking) → Type 0
AreRight pending k [] = IsRight (λ c. whole_clause) pending k.task.asked
AreRight pending k (c ∷ above) = IsRight (given_by k.task) pending k.task.asked × IsUnmixed k.task × AreRight (given_by k.task) c above

abbrev pub EndedClean : List (Option Asking) → Type 0
EndedClean ended = (i : ℕ) (t : Asking) → ended_at ended i ≡ Some t → LacksNothing t

pub record IsFine (n : Nest Asking) : Type 0 where
  pub right : AreRight nothing_pending n.acting n.above
  pub ended : EndedClean n.ended

abbrev pub given_for : List (Numbered Asking) → Asking → ℕ → Option Clause
given_for [] a = λ c. whole_clause
given_for (c ∷ above) a = given_by a

pub given_eq : {S : Type 0} (rest : List (Twin S)) (a : Asking) → given_for (askeds rest) a ≡ given_at rest a
given_eq [] a = refl
given_eq (t ∷ rest) a = refl

pub head_right : (pending : ℕ → Option Clause) (k : Numbered Asking) (above : List (Numbered Asking)) → AreRight pending k above → IsRight (given_for above k.task) pending k.task.asked
head_right pending k [] h = h
head_right pending k (c ∷ above) h = h.0

-- the task that acts asks more
pub reright : (before pending : ℕ → Option Clause) (number : ℕ) (k : Numbered Asking) (up : Asked → Asked) (above : List (Numbered Asking)) → AreRight before k above → IsRight (given_for above k.task) pending (up k.task.asked)
    → AreRight pending (record { number = number; task = asking up k.task }) above
reright before pending number k up [] h r = r
reright before pending number k up (c ∷ above) h r = (r, h.1, h.2)

is_no_lack : (l : Lack) → is_nothing l ≡ true → l ≡ lack.Nothing
is_no_lack lack.Nothing e = refl
is_no_lack (lack.Adds c) e = never (sym e)
is_no_lack (lack.Replaces c) e = never (sym e)

pub lacks_nothing : (a : Asking) → IsUnmixed a → IsRight (given_by a) nothing_pending a.asked → LacksNothing a
lacks_nothing a u r c l =
    let g = given_is a.final a.clauses c in
    is_no_lack (lack_of (given_of a.final a.clauses c) (a.asked c))
    (lacks_faults a.final a.clauses c (a.asked c) (u c l)
    ∙ ap (λ (x : Right). all_right x (mark_from a.final a.clauses c) (a.asked c)) (sym (g.right (u c l)))
    ∙ ap (λ (m : Mark). all_right (right_by (given_by a c)) m (a.asked c)) (sym (g.mark (u c l)))
    ∙ r c l)

-- what has ended
same_or : (i n : ℕ) → (i ≡ n) ⊎ (i ≢ n)
same_or i n = go (which i n)
  where
    which : (i n : ℕ) → (i ≡ n) ⊎ (i < n) ⊎ (n < i)
    which i n = grind arith

    go : (i ≡ n) ⊎ (i < n) ⊎ (n < i) → (i ≡ n) ⊎ (i ≢ n)
    go (inl e) = inl e
    go (inr (inl l)) = inr (λ e. absurd (omega (arith, e)))
    go (inr (inr l)) = inr (λ e. absurd (omega (arith, e)))

pub ended_set : (ended : List (Option Asking)) (k : ℕ) (a : Asking) → k < length ended → LacksNothing a → EndedClean ended → EndedClean (set ended k (Some a))
ended_set ended k a l h c i t e = go (same_or i k)
  where
    go : (i ≡ k) ⊎ (i ≢ k) → LacksNothing t
    go (inl s) =
        let x : Some a ≡ Some t = sym (get_or-set_same ended k (Some a) None l) ∙ ap (λ (j : ℕ). ended_at (set ended k (Some a)) j) (sym s) ∙ e in
        let y : a ≡ t = cc in
        subst LacksNothing y h
    go (inr ne) = c i t (sym (get_or-set_other ended k i (Some a) None ne) ∙ e)

before_more : {A : Type 0} (ended : List (Option A)) (i : ℕ) (t : A) → ended_at (ended ++ None ∷ []) i ≡ Some t → ended_at ended i ≡ Some t
before_more [] zero t e = e
before_more [] (suc i) t e = e
before_more (x ∷ ended) zero t e = e
before_more (x ∷ ended) (suc i) t e = before_more ended i t e

-- it creates a task
pub fine_opened : (child : Asking) (n : Nest Asking) → child.asked ≡ (λ c. []) → IsUnmixed child → IsRight (given_for n.above n.acting.task) (given_by child) n.acting.task.asked → IsFine n → IsFine (opened child n)
fine_opened child n e u r h =
    let none : IsRight (given_by child) nothing_pending child.asked = λ c l. ap (λ (asked : Asked). all_right (right_by (given_by child c)) (mark_by (given_by child c)) (asked c)) e in
    record {
      right = (none, u, reright nothing_pending (given_by child) n.acting.number n.acting (λ asked. asked) n.above h.right r);
      ended = λ i t k. h.ended i t (before_more n.ended i t k);
    }

-- it ends
told_right : (k : Asking) (given : ℕ → Option Clause) (asked : Asked) → LacksNothing k → IsRight given (given_by k) asked → IsRight given nothing_pending (asks_for (mended_clauses k) asked)
told_right k given asked clean r c l = ap (λ (x : Option Clause). all_right (right_by (given c)) (mark_by (given c)) (creates x (asked c))) (mended_said k c l clean) ∙ r c l

closed_right : (k : Asking) (c : Numbered Asking) (above : List (Numbered Asking)) → LacksNothing k → AreRight (given_by k) c above → AreRight nothing_pending (record { number = c.number; task = tell_creator k c.task }) above
closed_right k c above clean h = reright (given_by k) nothing_pending c.number c (asks_for (mended_clauses k)) above h (told_right k (given_for above c.task) c.task.asked clean (head_right (given_by k) c above h))

pub acting_clean : (k c : Numbered Asking) (above : List (Numbered Asking)) → AreRight nothing_pending k (c ∷ above) → LacksNothing k.task
acting_clean k c above h = lacks_nothing k.task h.1 h.0

pub fine_closed_to : (ended : List (Option Asking)) (k : Numbered Asking) (above : List (Numbered Asking)) → AreNumbered ended (length ended) k above → AreRight nothing_pending k above → EndedClean ended → IsFine (closed_to tell_creator k above ended)
fine_closed_to ended k [] num r h = record { right = r; ended = h }
fine_closed_to ended k (c ∷ above) num r h =
    let clean = acting_clean k c above r in
    record { right = closed_right k.task c above clean r.2; ended = ended_set ended k.number k.task num.0 clean h }

pub fine_all : (ended : List (Option Asking)) (k : Numbered Asking) (above : List (Numbered Asking)) → AreNumbered ended (length ended) k above → AreRight nothing_pending k above → EndedClean ended → EndedClean (all_closed_to tell_creator k above ended).ended
fine_all ended k [] num r h = h
fine_all ended k (c ∷ above) num r h =
    let n : Nest Asking = record { acting = k; above = c ∷ above; ended = ended } in
    let f = fine_closed_to ended k (c ∷ above) num r h in
    fine_all (set ended k.number (Some k.task)) (record { number = c.number; task = tell_creator k.task c.task }) above (closed_numbered tell_creator n num) f.right f.ended

-- nothing is lacking where all that is open ends
pub fine_at_stop : (n : Nest Asking) → IsNumbered n → IsFine n → EndedClean (all_closed tell_creator n).ended
fine_at_stop n num f = fine_all n.ended n.acting n.above num f.right f.ended

-- Nothing is told of open tasks and of those that have ended.
abbrev pub AreQuiet : Numbered Holding → List (Numbered Holding) → Type 0
AreQuiet k [] = k.task.told ≡ []
AreQuiet k (c ∷ above) = (k.task.told ≡ []) × AreQuiet c above

abbrev pub EndedQuiet : List (Option Holding) → Type 0
EndedQuiet ended = (i : ℕ) (t : Holding) → ended_at ended i ≡ Some t → t.told ≡ []

pub record IsQuiet (m : Nest Holding) : Type 0 where
  pub open_ : AreQuiet m.acting m.above
  pub ended : EndedQuiet m.ended

pub head_quiet : (k : Numbered Holding) (above : List (Numbered Holding)) → AreQuiet k above → k.task.told ≡ []
head_quiet k [] h = h
head_quiet k (c ∷ above) h = h.0

pub requiet : (k : Numbered Holding) (above : List (Numbered Holding)) (t : Holding) → t.told ≡ [] → AreQuiet k above → AreQuiet (record { number = k.number; task = t }) above
requiet k [] t e h = e
requiet k (c ∷ above) t e h = (e, h.1)

pub quiet_acting : (t : Holding) (m : Nest Holding) → t.told ≡ [] → IsQuiet m → IsQuiet (with_acting t m)
quiet_acting t m e h = record { open_ = requiet m.acting m.above t e h.open_; ended = h.ended }

pub quiet_opened : (child : Holding) (m : Nest Holding) → child.told ≡ [] → IsQuiet m → IsQuiet (opened child m)
quiet_opened child m e h = record { open_ = (e, h.open_); ended = λ i t k. h.ended i t (before_more m.ended i t k) }

quiet_set : (ended : List (Option Holding)) (k : ℕ) (a : Holding) → k < length ended → a.told ≡ [] → EndedQuiet ended → EndedQuiet (set ended k (Some a))
quiet_set ended k a l h c i t e = go (same_or i k)
  where
    go : (i ≡ k) ⊎ (i ≢ k) → t.told ≡ []
    go (inl s) =
        let x : Some a ≡ Some t = sym (get_or-set_same ended k (Some a) None l) ∙ ap (λ (j : ℕ). ended_at (set ended k (Some a)) j) (sym s) ∙ e in
        let y : a ≡ t = cc in
        ap (λ (q : Holding). q.told) (sym y) ∙ h
    go (inr ne) = c i t (sym (get_or-set_other ended k i (Some a) None ne) ∙ e)

quiet_closed_to : (ended : List (Option Holding)) (k : Numbered Holding) (above : List (Numbered Holding)) → AreNumbered ended (length ended) k above → AreQuiet k above → EndedQuiet ended → IsQuiet (closed_to tell_nothing k above ended)
quiet_closed_to ended k [] num r h = record { open_ = r; ended = h }
quiet_closed_to ended k (c ∷ above) num r h = record { open_ = r.1; ended = quiet_set ended k.number k.task num.0 r.0 h }

pub quiet_closed : (m : Nest Holding) → IsNumbered m → IsQuiet m → IsQuiet (closed tell_nothing m)
quiet_closed m num h = quiet_closed_to m.ended m.acting m.above num h.open_ h.ended

quiet_all : (ended : List (Option Holding)) (k : Numbered Holding) (above : List (Numbered Holding)) → AreNumbered ended (length ended) k above → AreQuiet k above → EndedQuiet ended → NothingTold (all_closed_to tell_nothing k above ended)
quiet_all ended k [] num r h = record { main = r; tasks = h }
quiet_all ended k (c ∷ above) num r h =
    let m : Nest Holding = record { acting = k; above = c ∷ above; ended = ended } in
    let f = quiet_closed_to ended k (c ∷ above) num r h in
    quiet_all (set ended k.number (Some k.task)) (record { number = c.number; task = tell_nothing k.task c.task }) above (closed_numbered tell_nothing m num) f.open_ f.ended

pub quiet_at_stop : (m : Nest Holding) → IsNumbered m → IsQuiet m → NothingTold (all_closed tell_nothing m)
quiet_at_stop m num h = quiet_all m.ended m.acting m.above num h.open_ h.ended
