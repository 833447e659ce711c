-- What is known of a task at a stage of a walk stands, with more, in what is known of it at the end.
use Rattle.std.proofs.Common.{◌≡◌, refl, sym, subst, ap, ◌∙◌, ℕ, suc, ◌<◌, ◌≤◌, ◌⊎◌, inl, inr, List, [], ◌∷◌, ◌++◌, length, arith, Option, Some, None}
use Rattle.std.specs.Prelude.{◌≢◌, get_or, set}
use Rattle.std.proofs.lemmas.List.{get_or-set_other, get_or-set_same, get_or_append_left, get_or_past, length-set}
use Rattle.oss_lacks.specs.Nests.{Nest, Numbered, all_closed, all_closed_to, alone, closed, closed_to, opened, with_acting}

-- what is known of the ended task with this number
abbrev pub ended_at : {A : Type 0} → List (Option A) → ℕ → Option A
ended_at ended i = get_or ended i None

-- The numbers of the open tasks but main fall from the newest on, from below a bound, and none of these has ended.
abbrev pub AreNumbered : {A : Type 0} → List (Option A) → ℕ → Numbered A → List (Numbered A) → Type 0
AreNumbered ended bound k [] = Unit {0}
AreNumbered ended bound k (c ∷ above) = (k.number < bound) × (ended_at ended k.number ≡ None) × AreNumbered ended k.number c above

abbrev pub IsNumbered : {A : Type 0} → Nest A → Type 0
IsNumbered n = AreNumbered n.ended (length n.ended) n.acting n.above

module _ {A : Type 0} where
  numbered_set : (ended : List (Option A)) (bound j : ℕ) (v : Option A) (k : Numbered A) (above : List (Numbered A)) → bound ≤ j → AreNumbered ended bound k above → AreNumbered (set ended j v) bound k above
  numbered_set ended bound j v k [] l h = tt
  numbered_set ended bound j v k (c ∷ above) l h =
      let a : k.number < bound = h.0 in
      (h.0, get_or-set_other ended j k.number v None (λ e. absurd (omega (arith, e))) ∙ h.1, numbered_set ended k.number j v c above (omega arith) h.2)

  numbered_more : (ended : List (Option A)) (v : Option A) (bound : ℕ) (k : Numbered A) (above : List (Numbered A)) → bound ≤ length ended → AreNumbered ended bound k above → AreNumbered (ended ++ v ∷ []) bound k above
  numbered_more ended v bound k [] l h = tt
  numbered_more ended v bound k (c ∷ above) l h =
      let a : k.number < bound = h.0 in
      (h.0, get_or_append_left ended (v ∷ []) None k.number (omega arith) ∙ h.1, numbered_more ended v k.number c above (omega arith) h.2)

  numbered_from : (ended : List (Option A)) (low high : ℕ) (k : Numbered A) (above : List (Numbered A)) → low ≤ high → AreNumbered ended low k above → AreNumbered ended high k above
  numbered_from ended low high k [] l h = tt
  numbered_from ended low high k (c ∷ above) l h = let a : k.number < low = h.0 in (omega arith, h.1, h.2)

  renumbered : (ended : List (Option A)) (bound : ℕ) (k j : Numbered A) (above : List (Numbered A)) → j.number ≡ k.number → AreNumbered ended bound k above → AreNumbered ended bound j above
  renumbered ended bound k j [] e h = tt
  renumbered ended bound k j (c ∷ above) e h =
      (subst (λ (x : ℕ). x < bound) (sym e) h.0, ap (λ (x : ℕ). ended_at ended x) e ∙ h.1, subst (λ (x : ℕ). AreNumbered ended x c above) (sym e) h.2)

  new_length : (ended : List (Option A)) (v : Option A) → length (ended ++ v ∷ []) ≡ suc (length ended)
  new_length [] v = refl
  new_length (x ∷ ended) v = ap suc (new_length ended v)

  new_last : (ended : List (Option A)) → ended_at (ended ++ None ∷ []) (length ended) ≡ None
  new_last [] = refl
  new_last (x ∷ ended) = new_last ended

  pub alone_numbered : (main : A) → IsNumbered (alone main)
  alone_numbered main = tt

  pub acting_numbered : (t : A) (n : Nest A) → IsNumbered n → IsNumbered (with_acting t n)
  acting_numbered t n h = renumbered n.ended (length n.ended) n.acting (record { number = n.acting.number; task = t }) n.above refl h

  pub opened_numbered : (child : A) (n : Nest A) → IsNumbered n → IsNumbered (opened child n)
  opened_numbered child n h =
      let l : length (n.ended ++ None ∷ []) ≡ suc (length n.ended) = new_length n.ended None in
      (omega (arith, l), new_last n.ended, numbered_more n.ended None (length n.ended) n.acting n.above (omega arith) h)

  closed_to_numbered : (tell : A → A → A) (ended : List (Option A)) (k : Numbered A) (above : List (Numbered A)) → AreNumbered ended (length ended) k above → IsNumbered (closed_to tell k above ended)
  closed_to_numbered tell ended k [] h = tt
  closed_to_numbered tell ended k (c ∷ above) h =
      let a : k.number < length ended = h.0 in
      let l : length (set ended k.number (Some k.task)) ≡ length ended = length-set ended k.number (Some k.task) in
      renumbered (set ended k.number (Some k.task)) (length (set ended k.number (Some k.task))) c (record { number = c.number; task = tell k.task c.task }) above refl
      (numbered_from (set ended k.number (Some k.task)) k.number (length (set ended k.number (Some k.task))) c above (omega (arith, l))
      (numbered_set ended k.number k.number (Some k.task) c above (omega arith) h.2))

  pub closed_numbered : (tell : A → A → A) (n : Nest A) → IsNumbered n → IsNumbered (closed tell n)
  closed_numbered tell n h = closed_to_numbered tell n.ended n.acting n.above h

-- What becomes of a task: of it is known, at the end, all that is known now.
module _ {A : Type 0} (Later : A → A → Type 0) (still : (t : A) → Later t t) (later : (t u v : A) → Later t u → Later u v → Later t v) (tell : A → A → A) (told : (t u : A) → Later u (tell t u)) where
  -- at the end this is known of the task with this number
  pub record HasFate (all : List (Option A)) (k : Numbered A) : Type 0 where
    pub last : A
    pub at_ : ended_at all k.number ≡ Some last
    pub more : Later k.task last

  -- A task that waits goes on where the one before it has ended, with what is known of that one at the end.
  abbrev pub HaveFates : List (Option A) → A → Numbered A → List (Numbered A) → Type 0
  HaveFates all main k [] = Later k.task main
  HaveFates all main k (c ∷ above) = (h : HasFate all k) × HaveFates all main (record { number = c.number; task = tell h.last c.task }) above

  pub record IsFated (all : List (Option A)) (main : A) (n : Nest A) : Type 0 where
    pub ended : (i : ℕ) (t : A) → ended_at n.ended i ≡ Some t → ended_at all i ≡ Some t
    pub open_ : HaveFates all main n.acting n.above

  earlier : (all : List (Option A)) (main : A) (k j : Numbered A) (above : List (Numbered A)) → j.number ≡ k.number → Later j.task k.task → HaveFates all main k above → HaveFates all main j above
  earlier all main k j [] e l h = later j.task k.task main l h
  earlier all main k j (c ∷ above) e l h =
      let f : HasFate all j = record { last = h.0.last; at_ = ap (λ (x : ℕ). ended_at all x) e ∙ h.0.at_; more = later j.task k.task h.0.last l h.0.more } in
      (f, h.1)

  -- before the task that acts asked more
  pub fated_acting : (all : List (Option A)) (main t : A) (n : Nest A) → Later n.acting.task t → IsFated all main (with_acting t n) → IsFated all main n
  fated_acting all main t n l h = record { ended = h.ended; open_ = earlier all main (record { number = n.acting.number; task = t }) n.acting n.above refl l h.open_ }

  less_or : (i n : ℕ) → (i < n) ⊎ (n ≤ i)
  less_or i n = grind arith

  kept : (ended : List (Option A)) (i : ℕ) (t : A) → ended_at ended i ≡ Some t → ended_at (ended ++ None ∷ []) i ≡ Some t
  kept ended i t e = go (less_or i (length ended))
    where
      go : (i < length ended) ⊎ (length ended ≤ i) → ended_at (ended ++ None ∷ []) i ≡ Some t
      go (inl l) = get_or_append_left ended (None ∷ []) None i l ∙ e
      go (inr l) = let x : ended_at ended i ≡ None = get_or_past ended i None l in let y : None ≡ Some t = sym x ∙ e in cc

  -- what is known at the end of a new task, and of its creator behind it
  pub fate_of_new : (all : List (Option A)) (main child : A) (n : Nest A) → IsFated all main (opened child n) → HasFate all (record { number = length n.ended; task = child })
  fate_of_new all main child n h = h.open_.0

  pub fate_behind : (all : List (Option A)) (main child : A) (n : Nest A) (h : IsFated all main (opened child n))
      → HaveFates all main (record { number = n.acting.number; task = tell (fate_of_new all main child n h).last n.acting.task }) n.above
  unfolding fate_of_new
  fate_behind all main child n h = h.open_.1

  -- before it created one
  pub fated_opened : (all : List (Option A)) (main child : A) (n : Nest A) → IsFated all main (opened child n) → IsFated all main n
  fated_opened all main child n h = record {
    ended = λ i t e. h.ended i t (kept n.ended i t e);
    open_ = earlier all main (record { number = n.acting.number; task = tell h.open_.0.last n.acting.task }) n.acting n.above refl (told h.open_.0.last n.acting.task) h.open_.1;
  }

  same_or : (i n : ℕ) → (i ≡ n) ⊎ (i ≢ n)
  same_or i n = go (less_or i n) (less_or n i)
    where
      go : (i < n) ⊎ (n ≤ i) → (n < i) ⊎ (i ≤ n) → (i ≡ n) ⊎ (i ≢ n)
      go (inl l) k = inr (λ e. absurd (omega (arith, e)))
      go (inr l) (inl m) = inr (λ e. absurd (omega (arith, e)))
      go (inr l) (inr m) = inl (omega arith)

  -- before it ended
  fated_closed_to : (all : List (Option A)) (main : A) (ended : List (Option A)) (k : Numbered A) (above : List (Numbered A)) → AreNumbered ended (length ended) k above
      → IsFated all main (closed_to tell k above ended) → IsFated all main (record { acting = k; above = above; ended = ended })
  fated_closed_to all main ended k [] num h = h
  fated_closed_to all main ended k (c ∷ above) num h =
      record {
        ended = λ i t e. by i t e (same_or i k.number);
        open_ = (fate, h.open_);
      }
    where
      fate : HasFate all k
      fate = record { last = k.task; at_ = h.ended k.number k.task (get_or-set_same ended k.number (Some k.task) None num.0); more = still k.task }

      by : (i : ℕ) (t : A) → ended_at ended i ≡ Some t → (i ≡ k.number) ⊎ (i ≢ k.number) → ended_at all i ≡ Some t
      by i t e (inl s) = let x : None ≡ Some t = sym num.1 ∙ ap (λ (j : ℕ). ended_at ended j) (sym s) ∙ e in cc
      by i t e (inr ne) = h.ended i t (get_or-set_other ended k.number i (Some k.task) None ne ∙ e)

  pub fated_closed : (all : List (Option A)) (main : A) (n : Nest A) → IsNumbered n → IsFated all main (closed tell n) → IsFated all main n
  fated_closed all main n num h = fated_closed_to all main n.ended n.acting n.above num h

  -- at the end all that is open ends
  fated_all : (ended : List (Option A)) (k : Numbered A) (above : List (Numbered A)) → AreNumbered ended (length ended) k above
      → IsFated (all_closed_to tell k above ended).ended (all_closed_to tell k above ended).acting.task (record { acting = k; above = above; ended = ended })
  fated_all ended k [] num = record { ended = λ i t e. e; open_ = still k.task }
  fated_all ended k (c ∷ above) num =
      let up : Numbered A = record { number = c.number; task = tell k.task c.task } in
      let last : Nest A = all_closed_to tell up above (set ended k.number (Some k.task)) in
      fated_closed_to last.ended last.acting.task ended k (c ∷ above) num
      (fated_all (set ended k.number (Some k.task)) up above (closed_to_numbered tell ended k (c ∷ above) num))

  pub fated_at_stop : (n : Nest A) → IsNumbered n → IsFated (all_closed tell n).ended (all_closed tell n).acting.task n
  fated_at_stop n num = fated_all n.ended n.acting n.above num
