-- What a run counts depends on the task at each path alone, and not on the order in which tasks are listed. So a sequential run has one outcome.
use Rattle.std.proofs.Common.{◌≡◌, ◌∙◌, ℕ, ◌+◌, Bool, true, false, List, [], ◌∷◌, length, Option, Some, None, refl, sym, ap, subst, arith}
use Rattle.std.specs.Prelude.{◌-◌, ◌^◌, ◌||◌, if◌then◌else◌, min}
use Rattle.oss_model.specs.Agreement.{Setting}
use Rattle.oss_model.specs.Answers.{IsResult}
use Rattle.oss_model.specs.Answers.IsResult.{ends as result_ends, fails as result_fails}
use Rattle.oss_model.specs.Bodies.{Program, Start}
use Rattle.oss_model.specs.Machine.{Task, find, same_path}
use Rattle.oss_model.specs.Sequence.{IsAtEnd, Running, Sequential}
use Rattle.oss_model.specs.Termination.{IsLively}
use Rattle.oss_model.specs.declared.answer.Answer.{Answer}
use Rattle.oss_model.specs.declared.answer.Answer.TheVariants as answers
use Rattle.oss_model.proofs.Exclusive.{same_self}
use Rattle.oss_model.proofs.TerminationTheorem.{run_has_result}
use Rattle.oss_model.proofs.TreeLemmas.{same_path_is}
use Rattle.oss_meaning.specs.Results.{IsOutcome, Outcome, entries_in, entries_of, is_among, tasks_in, weighed}
use Rattle.oss_meaning.specs.Results.IsOutcome.{ends, fails}
use Rattle.oss_lower_laws.specs.Programs.{OneOutcome}
use Rattle.oss_lower_laws.proofs.OneResult.{IsSomething, IsYes, Same, one_end, one_result, value_or}

-- Paths

neither : (a b : Bool) → (a || b) ≡ false → (a ≡ false) × (b ≡ false)
neither true b h = absurd (subst IsYes h tt)
neither false b h = (refl, h)

either_first : (a b c : Bool) → (a || (b || c)) ≡ (b || (a || c))
either_first true true c = refl
either_first true false c = refl
either_first false true c = refl
either_first false false c = refl

never : (b : Bool) → b ≡ true → b ≡ false → ⊥
never b h k = subst IsYes (sym h ∙ k) tt

other_way : (q p : List ℕ) → same_path q p ≡ false → same_path p q ≡ false
other_way q p h = by_path (same_path p q) refl
  where
    by_path : (b : Bool) → same_path p q ≡ b → same_path p q ≡ false
    by_path true e = absurd (never (same_path q p) (ap (λ r. same_path q r) (same_path_is p q e) ∙ same_self q) h)
    by_path false e = e

front_first : (a b c : ℕ) → a + (b + c) ≡ b + (a + c)
front_first a b c = omega arith

module _ {S : Type 0} where
  find_first : (t : Task S) (ts : List (Task S)) (q : List ℕ) → find (t ∷ ts) q ≡ (if same_path t.body.start.path q then Some t else find ts q)
  unfolding find
  find_first t ts q = refl

  find_nothing : (q : List ℕ) → ◌≡◌ {A = Option (Task S)} (find [] q) None
  unfolding find
  find_nothing q = refl

module _ {S : Type 0} (weight : Task S → ℕ) where
  -- which of them is counted at a path that was seen, and at one that was not
  if_seen : (seen : List (List ℕ)) (t : Task S) (ts : List (Task S)) → is_among seen t.body.start.path ≡ true → weighed weight seen (t ∷ ts) ≡ weighed weight seen ts
  if_seen seen t ts h = ap (λ c. if c then weighed weight seen ts else weight t + weighed weight (t.body.start.path ∷ seen) ts) h

  if_new : (seen : List (List ℕ)) (t : Task S) (ts : List (Task S)) → is_among seen t.body.start.path ≡ false
      → weighed weight seen (t ∷ ts) ≡ weight t + weighed weight (t.body.start.path ∷ seen) ts
  if_new seen t ts h = ap (λ c. if c then weighed weight seen ts else weight t + weighed weight (t.body.start.path ∷ seen) ts) h

  -- the order in which paths were seen does not count
  seen_alike : (a b : List (List ℕ)) → ((q : List ℕ) → is_among a q ≡ is_among b q) → (ts : List (Task S)) → weighed weight a ts ≡ weighed weight b ts
  seen_alike a b same [] = refl
  seen_alike a b same (t ∷ ts) =
      let p = t.body.start.path in
      ap (λ c. if c then weighed weight a ts else weight t + weighed weight (p ∷ a) ts) (same p)
      ∙ ap (λ n. if is_among b p then n else weight t + weighed weight (p ∷ a) ts) (seen_alike a b same ts)
      ∙ ap (λ n. if is_among b p then weighed weight b ts else weight t + n) (seen_alike (p ∷ a) (p ∷ b) (λ q. ap (λ c. same_path p q || c) (same q)) ts)

  -- the task at a path that was not seen may be counted first
  abbrev Takes : List (Task S) → List ℕ → Task S → Type 0
  Takes us p t = (seen : List (List ℕ)) → is_among seen p ≡ false → find us p ≡ Some t → weighed weight seen us ≡ weight t + weighed weight (p ∷ seen) us

  taken : (us : List (Task S)) (p : List ℕ) (t : Task S) → Takes us p t
  taken [] p t seen new at_ = absurd (subst IsSomething (sym at_ ∙ find_nothing p) tt)
  taken (u ∷ us) p t seen new at_ = by_path (same_path q p) refl (sym (find_first u us p) ∙ at_) (λ s n h. taken us p t s n h)
    where
      q : List ℕ
      q = u.body.start.path

      by_path : (here : Bool) → same_path q p ≡ here → (if here then Some u else find us p) ≡ Some t → Takes us p t → weighed weight seen (u ∷ us) ≡ weight t + weighed weight (p ∷ seen) (u ∷ us)
      by_path true e is rest =
          let same : q ≡ p = same_path_is q p e in
          let both : is_among (p ∷ seen) q ≡ true = ap (λ c. c || is_among seen q) (ap (λ r. same_path p r) same ∙ same_self p) in
          if_new seen u us (ap (λ r. is_among seen r) same ∙ new)
          ∙ ap (λ x. weight x + weighed weight (q ∷ seen) us) (ap (λ o. value_or o u) is)
          ∙ ap (λ r. weight t + weighed weight (r ∷ seen) us) same
          ∙ sym (ap (λ n. weight t + n) (if_seen (p ∷ seen) u us both))
      by_path false e is rest = by_seen (is_among seen q) refl
        where
          apart_too : is_among (p ∷ seen) q ≡ is_among seen q
          apart_too = ap (λ c. c || is_among seen q) (other_way q p e)

          by_seen : (b : Bool) → is_among seen q ≡ b → weighed weight seen (u ∷ us) ≡ weight t + weighed weight (p ∷ seen) (u ∷ us)
          by_seen true s = if_seen seen u us s ∙ rest seen new is ∙ sym (ap (λ n. weight t + n) (if_seen (p ∷ seen) u us (apart_too ∙ s)))
          by_seen false s =
              if_new seen u us s
              ∙ ap (λ n. weight u + n) (rest (q ∷ seen) (ap (λ c. c || is_among seen p) e ∙ new) is
              ∙ ap (λ n. weight t + n) (seen_alike (p ∷ q ∷ seen) (q ∷ p ∷ seen) (λ r. either_first (same_path p r) (same_path q r) (is_among seen r)) us))
              ∙ front_first (weight u) (weight t) (weighed weight (q ∷ p ∷ seen) us)
              ∙ sym (ap (λ n. weight t + n) (if_new (p ∷ seen) u us (apart_too ∙ s)))

  -- where no path that was not seen has a task, nothing is counted
  abbrev IsEmpty : List (Task S) → List (List ℕ) → Type 0
  IsEmpty us seen = (q : List ℕ) → is_among seen q ≡ false → find us q ≡ None

  nothing : (us : List (Task S)) (seen : List (List ℕ)) → IsEmpty us seen → weighed weight seen us ≡ 0
  nothing [] seen none = refl
  nothing (u ∷ us) seen none = by_seen (is_among seen p) refl (λ h. nothing us seen h)
    where
      p : List ℕ
      p = u.body.start.path

      here : find (u ∷ us) p ≡ Some u
      here = find_first u us p ∙ ap (λ c. if c then Some u else find us p) (same_self p)

      passed : is_among seen p ≡ true → (q : List ℕ) → is_among seen q ≡ false → (b : Bool) → same_path p q ≡ b → find us q ≡ None
      passed s q new true e = absurd (never (is_among seen p) s (ap (λ r. is_among seen r) (same_path_is p q e) ∙ new))
      passed s q new false e = sym (find_first u us q ∙ ap (λ c. if c then Some u else find us q) e) ∙ none q new

      by_seen : (b : Bool) → is_among seen p ≡ b → (IsEmpty us seen → weighed weight seen us ≡ 0) → weighed weight seen (u ∷ us) ≡ 0
      by_seen true s rest = if_seen seen u us s ∙ rest (λ q new. passed s q new (same_path p q) refl)
      by_seen false s rest = absurd (subst IsSomething (sym here ∙ none p s) tt)

  -- The same task at each path makes the same sum.
  abbrev AreAlike : List (Task S) → List (Task S) → List (List ℕ) → Type 0
  AreAlike ts us seen = (q : List ℕ) → is_among seen q ≡ false → find ts q ≡ find us q

  pub weighed_alike : (ts us : List (Task S)) (seen : List (List ℕ)) → AreAlike ts us seen → weighed weight seen ts ≡ weighed weight seen us
  weighed_alike [] us seen same = sym (nothing us seen (λ q new. sym (same q new) ∙ find_nothing q))
  weighed_alike (t ∷ ts) us seen same = by_seen (is_among seen p) refl (λ s h. weighed_alike ts us s h)
    where
      p : List ℕ
      p = t.body.start.path

      here : find (t ∷ ts) p ≡ Some t
      here = find_first t ts p ∙ ap (λ c. if c then Some t else find ts p) (same_self p)

      later : (q : List ℕ) → is_among seen q ≡ false → same_path p q ≡ false → find ts q ≡ find us q
      later q new e = sym (find_first t ts q ∙ ap (λ c. if c then Some t else find ts q) e) ∙ same q new

      passed : is_among seen p ≡ true → (q : List ℕ) → is_among seen q ≡ false → (b : Bool) → same_path p q ≡ b → find ts q ≡ find us q
      passed s q new true e = absurd (never (is_among seen p) s (ap (λ r. is_among seen r) (same_path_is p q e) ∙ new))
      passed s q new false e = later q new e

      by_seen : (b : Bool) → is_among seen p ≡ b → ((s : List (List ℕ)) → AreAlike ts us s → weighed weight s ts ≡ weighed weight s us) → weighed weight seen (t ∷ ts) ≡ weighed weight seen us
      by_seen true s rest = if_seen seen t ts s ∙ rest seen (λ q new. passed s q new (same_path p q) refl)
      by_seen false s rest =
          if_new seen t ts s
          ∙ ap (λ n. weight t + n) (rest (p ∷ seen) (λ q new. let both = neither (same_path p q) (is_among seen q) new in later q both.1 both.0))
          ∙ sym (taken us p t seen s (sym (same p s) ∙ here))

outcome_is : (a b : Outcome) → a.answer ≡ b.answer → a.tasks ≡ b.tasks → a.entries ≡ b.entries → a ≡ b
outcome_is a b e f g = λ i. record { answer = e i; tasks = f i; entries = g i }

module _ {S : Type 0} (P : Program S) where
  tasks_same : (z y : Running S) → Same P z y → tasks_in z.state ≡ tasks_in y.state
  tasks_same z y same = ap (λ n. min n (2 ^ 64 - 1)) (weighed_alike (λ t. 1) z.state.tasks y.state.tasks [] (λ q new. same.found q))

  entries_same : (z y : Running S) → Same P z y → entries_in z.state ≡ entries_in y.state
  entries_same z y same =
      ap (λ cells. weighed (λ t. entries_of (length cells) t t.body.start.path) [] z.state.tasks) same.cells
      ∙ weighed_alike (λ t. entries_of (length y.state.cells) t t.body.start.path) z.state.tasks y.state.tasks [] (λ q new. same.found q)

  -- the stage at which an outcome was counted
  record Counted (main : Start S) (cells : List ℕ) (o : Outcome) : Type 0 where
    stage : Running S
    run : Sequential P main cells stage
    end : IsAtEnd P stage
    tasks : o.tasks ≡ tasks_in stage.state
    entries : o.entries ≡ entries_in stage.state

  counted : {main : Start S} {cells : List ℕ} (o : Outcome) → IsOutcome P main cells o → Counted main cells o
  counted o (ends {z} run end over) = record { stage = z; run = run; end = end; tasks = refl; entries = refl }
  counted o (fails {z} run end fault) = record { stage = z; run = run; end = end; tasks = refl; entries = refl }

  result_of : {main : Start S} {cells : List ℕ} (o : Outcome) → IsOutcome P main cells o → IsResult P main cells o.answer
  result_of o (ends run end over) = result_ends run end over
  result_of o (fails run end fault) = result_fails run end fault

  -- A run has at most one outcome,
  pub one_outcome : {main : Start S} {cells : List ℕ} (a b : Outcome) → IsOutcome P main cells a → IsOutcome P main cells b → a ≡ b
  one_outcome a b left right =
      let l = counted a left in
      let r = counted b right in
      let same = one_end P l.run l.end r.run r.end in
      outcome_is a b
      (one_result P a.answer b.answer (result_of a left) (result_of b right))
      (l.tasks ∙ tasks_same l.stage r.stage same ∙ sym r.tasks)
      (l.entries ∙ entries_same l.stage r.stage same ∙ sym r.entries)

  has_outcome : {main : Start S} {cells : List ℕ} (b : Answer) → IsResult P main cells b → (o : Outcome) × IsOutcome P main cells o
  has_outcome b (result_ends {z} run end over) = (record { answer = answers.Done z.printed z.state.cells; tasks = tasks_in z.state; entries = entries_in z.state }, ends run end over)
  has_outcome b (result_fails {z} {kind} {line} run end fault) =
      (record { answer = answers.Fault kind line z.printed; tasks = tasks_in z.state; entries = entries_in z.state }, fails run end fault)

  -- and where the program is lively, it has one.
  pub run_has_one : (main : Start S) (cells : List ℕ) → Setting main cells → IsLively P → OneOutcome P main cells
  run_has_one main cells setting lively =
      let result = run_has_result S P main cells setting lively in
      record { some = has_outcome result.0 result.1; one = λ a b left right. one_outcome a b left right }
