-- Each free run can be walked, first for what is lacking and then for what hinders.
use Rattle.std.proofs.Common.{◌≡◌, refl, sym, ap, ◌∙◌, ℕ, zero, suc, ◌-◌, ◌<◌, ◌≤◌, ◌⊎◌, inl, inr, Bool, true, false, List, [], ◌∷◌, length, arith, Option, Some, None}
use Rattle.std.specs.Prelude.{◌&&◌, ◌||◌, ◌==◌, is_some, not, if◌then◌else◌, nat_le, nat_lt}
use Rattle.std.proofs.lemmas.Bool.Decides.{nat_tests}
use Rattle.oss_syntax.specs.declared.access.Access.{Access}
use Rattle.oss_model.specs.Context.{in_clauses}
use Rattle.oss_model.specs.Rights.{Folds, Reads, Writes, in_access}
use Rattle.oss_model.specs.Bodies.{Ask, Frame, Program, Start, ask_of, stack_from, top_frame}
use Rattle.oss_model.specs.Sequence.{Running, RunsOn, Sequential}
use Rattle.oss_model.specs.Sequence.Sequential.{opens, runs_on}
use Rattle.oss_needs.specs.declared.clause.Clause.{Clause}
use Rattle.oss_needs.specs.Givens.{given_of}
use Rattle.oss_needs.specs.Lacks.{mended}
use Rattle.oss_needs.proofs.Bools.{both_true, first_true, never}
use Rattle.oss_lent_cells.specs.Lent.{counted_if, nothing_lent}
use Rattle.oss_freed.specs.Freed.{freed}
use Rattle.oss_lacks.specs.Asking.{Asking, main as main_asking}
use Rattle.oss_lacks.specs.Nests.{Nest, alone, closed, opened, with_acting}
use Rattle.oss_lacks.specs.Walks.{IsActing, Walks, behind}
use Rattle.oss_lacks.specs.Walks.Walks.{opens as walks_open, runs_on as walks_on}
use Rattle.oss_missing_waits.specs.Holding.{Holding, IsUse, Uses, has_use, lent_when, main as main_holding, new_task, releases, touched, waits_on, with_lent, with_told}
use Rattle.oss_missing_waits.specs.Holding.IsUse.{known, none, told}
use Rattle.oss_missing_waits.specs.Waits.{IsBehindAsk, IsBehindIf, Mended, Waits, has_by, mended_in, tell_nothing}
use Rattle.oss_missing_waits.specs.Waits.Waits.{opens as waits_open, runs_on as waits_on_run}

-- a number below n that passes the test, or none does
data Finds (test : ℕ → Bool) (n : ℕ) : Type 0 where
  nowhere : ((c : ℕ) → c < n → test c ≡ false) → Finds test n
  somewhere : (c : ℕ) → test c ≡ true → Finds test n

searched : (test : ℕ → Bool) (n : ℕ) → Finds test n
searched test zero = nowhere (λ c l. absurd (omega (arith, l)))
searched test (suc n) = go (searched test n)
  where
    last : (c : ℕ) → c < suc n → (c < n) ⊎ (c ≡ n)
    last c l = grind (arith, l)

    here : (b : Bool) → test n ≡ b → ((c : ℕ) → c < n → test c ≡ false) → Finds test (suc n)
    here true e h = somewhere n e
    here false e h = nowhere (λ c l. by c (last c l))
      where
        by : (c : ℕ) → (c < n) ⊎ (c ≡ n) → test c ≡ false
        by c (inl k) = h c k
        by c (inr k) = ap test k ∙ e

    go : Finds test n → Finds test (suc n)
    go (somewhere c e) = somewhere c e
    go (nowhere h) = here (test n) refl h

-- what is known of a use
record IsUsed (cells : ℕ → Bool) (line : ℕ) (h : Holding) : Type 0 where
  used : Holding
  is : IsUse cells line h used

both_of : (a b : Bool) → a ≡ true → b ≡ true → (a && b) ≡ true
both_of a b e f = rw e (rw f refl)

-- of so many cells
uses : (n : ℕ) (cells : ℕ → Bool) (line : ℕ) (h : Holding) → ((c : ℕ) → n ≤ c → cells c ≡ false) → IsUsed cells line h
uses n cells line h bound = go (has_use h.told line) refl (searched (λ c. cells c && h.released c) n)
  where
    less_or : (c : ℕ) → (c < n) ⊎ (n ≤ c)
    less_or c = grind arith

    no_use : ((c : ℕ) → c < n → (cells c && h.released c) ≡ false) → (c : ℕ) → cells c ≡ true → h.released c ≡ true → ⊥
    no_use k c e r = by (less_or c)
      where
        by : (c < n) ⊎ (n ≤ c) → ⊥
        by (inl l) = never (sym (both_of (cells c) (h.released c) e r) ∙ k c l)
        by (inr l) = never (sym e ∙ bound c l)

    go : (b : Bool) → has_use h.told line ≡ b → Finds (λ c. cells c && h.released c) n → IsUsed cells line h
    go true e f = record { used = h; is = known e }
    go false e (nowhere k) = record { used = h; is = none (no_use k) }
    go false e (somewhere c k) = record { used = with_told (Uses (λ d. cells d && h.released d) line) h; is = told c (first_true (cells c) (h.released c) k) (both_true (cells c) (h.released c) k) e }

-- of one cell
uses_one : (c line : ℕ) (h : Holding) → IsUsed (λ d. c == d) line h
uses_one c line h = go (has_use h.told line) (h.released c) refl refl
  where
    own : (c == c) ≡ true
    own = grind (arith, nat_tests)

    same : (d : ℕ) → (c == d) ≡ true → d ≡ c
    same d e = grind (arith, nat_tests, e)

    go : (b r : Bool) → has_use h.told line ≡ b → h.released c ≡ r → IsUsed (λ d. c == d) line h
    go true r e f = record { used = h; is = known e }
    go false false e f = record { used = h; is = none (λ d k g. never (sym g ∙ ap h.released (same d k) ∙ f)) }
    go false true e f = record { used = with_told (Uses (λ d. (c == d) && h.released d) line) h; is = told c own f e }

-- what clauses name is a cell that a program may have
past_or : (a b : Bool) → a ≡ false → b ≡ false → (a || b) ≡ false
past_or a b e f = rw e (rw f refl)

no_more : (a b : Bool) → b ≡ false → (a && b) ≡ false
no_more true b e = e
no_more false b e = refl

past_access : (a : Access) (c : ℕ) → 1048576 ≤ c → in_access a c ≡ false
past_access a c l =
    let w : a.range.hi ≤ 1048576 = a.range.within in
    let k : a.range.hi ≤ c = omega (arith, w, l) in
    let b : nat_lt c a.range.hi ≡ false = grind (arith, nat_tests, k) in
    no_more (nat_le a.range.lo c) (nat_lt c a.range.hi) b

past_clauses : (clauses : List Access) (c : ℕ) → 1048576 ≤ c → in_clauses clauses c ≡ false
past_clauses [] c l = refl
past_clauses (a ∷ rest) c l = past_or (in_access a c) (in_clauses rest c) (past_access a c l) (past_clauses rest c l)

-- nor do clauses that are mended
past_mended : (t : Asking) (c : ℕ) → 1048576 ≤ c → has_by t c ≡ None
past_mended t c l =
    let b : nat_lt c 1048576 ≡ false = grind (arith, nat_tests, l) in
    ap (λ (x : Bool). counted_if t.final (if x then mended (given_of t.final t.clauses c) (t.asked c) else None)) (no_more (nat_le 0 c) (nat_lt c 1048576) b)

past_if : (b : Bool) (o p : Option Clause) → o ≡ None → p ≡ None → (if b then o else p) ≡ None
past_if true o p e f = e
past_if false o p e f = f

past_all : (ended : List (Option Asking)) (k c : ℕ) → 1048576 ≤ c → mended_in ended k c ≡ None
past_all [] k c l = refl
past_all (Some t ∷ rest) k c l = past_if (k == 0) (has_by t c) (mended_in rest (k - 1) c) (past_mended t c l) (past_all rest (k - 1) c l)
past_all (None ∷ rest) k c l = past_if (k == 0) None (mended_in rest (k - 1) c) refl (past_all rest (k - 1) c l)

module _ {S : Type 0} (f : Frame S) (line : ℕ) (w : Mended) (few : (k c : ℕ) → 1048576 ≤ c → w k c ≡ None) where
  -- what is known behind an ask
  record IsStepped (q : Ask S) (n : Nest Holding) : Type 0 where
    next : Nest Holding
    is : IsBehindAsk w f q line n next

  stepped : (q : Ask S) (n : Nest Holding) → IsStepped q n
  stepped Ask.Begin n = record { next = n; is = refl }
  stepped Ask.Tick n = record { next = n; is = refl }
  stepped (Ask.Read c) n = let u = uses_one c line n.acting.task in record { next = with_acting (touched Reads c line u.used) n; is = record { used = u.used; use_is = u.is; new_is = refl } }
  stepped (Ask.Write c v) n = let u = uses_one c line n.acting.task in record { next = with_acting (touched Writes c line u.used) n; is = record { used = u.used; use_is = u.is; new_is = refl } }
  stepped (Ask.Fold c op v) n = let u = uses_one c line n.acting.task in record { next = with_acting (touched (Folds op) c line u.used) n; is = record { used = u.used; use_is = u.is; new_is = refl } }
  stepped (Ask.Create o) n =
      let u = uses 1048576 (λ d. is_some (w (length n.ended) d)) line n.acting.task (λ c l. ap is_some (few (length n.ended) c l)) in
      record {
        next = opened (new_task (f.context.created ∷ f.path) line (w (length n.ended))) (with_acting (lent_when (o.when && not f.context.final) f.context.created line (w (length n.ended)) u.used) n);
        is = record { used = u.used; use_is = u.is; new_is = refl };
      }
  stepped Ask.Await n = record { next = n; is = refl }
  stepped Ask.Wait n = record { next = with_acting (with_lent nothing_lent n.acting.task) n; is = refl }
  stepped (Ask.WaitOn named) n =
      let u = uses 1048576 (in_clauses named) line n.acting.task (λ c l. past_clauses named c l) in
      record { next = with_acting (waits_on named u.used) n; is = record { used = u.used; use_is = u.is; new_is = refl } }
  stepped (Ask.Release clauses) n =
      let u = uses 1048576 (in_clauses clauses) line n.acting.task (λ c l. past_clauses clauses c l) in
      record { next = with_acting (releases clauses u.used) n; is = record { used = u.used; use_is = u.is; new_is = refl } }
  stepped (Ask.Print text) n = record { next = n; is = refl }
  stepped Ask.End n = record { next = closed tell_nothing n; is = refl }
  stepped (Ask.Fails kind) n = record { next = n; is = refl }

  record IsTurned (b : Bool) (q : Ask S) (n : Nest Holding) : Type 0 where
    next : Nest Holding
    is : IsBehindIf b w f q line n next

  turned : (b : Bool) (q : Ask S) (n : Nest Holding) → IsTurned b q n
  turned true q n = record { next = n; is = refl }
  turned false q n = let s = stepped q n in record { next = s.next; is = s.is }

module _ {S : Type 0} (P : Program S) (main : Start S) (first : List ℕ) where
  acts : (z y : Running S) (r : RunsOn (freed (length first) P) z y) → IsActing (freed (length first) P) z (top_frame (stack_from (freed (length first) P) r.task.body.start r.task.body.found).base (stack_from (freed (length first) P) r.task.body.start r.task.body.found).inner)
  acts z y r = record { task = r.task; at_ = r.at_; acts = refl }

  -- The first walk of a run.
  pub record IsWalkedTo (z : Running S) : Type 0 where
    pub nest : Nest Asking
    pub walks : Walks P main first z nest

  pub walked : {z : Running S} → Sequential (freed (length first) P) main first z → IsWalkedTo z
  walked opens = record { nest = alone main_asking; walks = walks_open }
  walked (runs_on {z = z} {y = y} h r) = let i = walked h in record { nest = behind P (top_frame (stack_from (freed (length first) P) r.task.body.start r.task.body.found).base (stack_from (freed (length first) P) r.task.body.start r.task.body.found).inner) i.nest; walks = walks_on i.walks (acts z y r) r }

  -- The second.
  pub record IsWaitedTo (ended : List (Option Asking)) (z : Running S) : Type 0 where
    pub nest : Nest Holding
    pub waits : Waits (mended_in ended) P main first z nest

  pub waited : (ended : List (Option Asking)) {z : Running S} → Sequential (freed (length first) P) main first z → IsWaitedTo ended z
  waited ended opens = record { nest = alone main_holding; waits = waits_open }
  waited ended (runs_on {z = z} {y = y} h r) =
      let i = waited ended h in
      let f : Frame S = top_frame (stack_from (freed (length first) P) r.task.body.start r.task.body.found).base (stack_from (freed (length first) P) r.task.body.start r.task.body.found).inner in
      let s = turned f (ask_of P f).line (mended_in ended) (past_all ended) f.awaits (ask_of P f).ask i.nest in
      record { nest = s.next; waits = waits_on_run i.waits (acts z y r) r s.is }
