-- The table of a cell from which retired accesses were left out, at the calls of a system.
use Rattle.std.proofs.Common.{◌≡◌, ℕ, zero, suc, ◌+◌, ◌<◌, refl, sym, subst, ap, ◌∙◌, List, [], ◌∷◌, ◌⊎◌, inl, inr, Bool, true, false, Some, arith, length, eq-eqb, eqb-true}
use Rattle.std.specs.Prelude.{◌==◌, ◌&&◌, not, slice_get, if◌then◌else◌}
use Rattle.oss_syntax.specs.declared.access.Access.{Access}
use Rattle.oss_deps.specs.declared.opened.Open.{Open}
use Rattle.oss_deps.specs.Opens.{AreOrdered, HasOpened, names}
use Rattle.oss_deps.proofs.Basics.{bools, both, both_of, clash, or_cases, or_left, or_right, some_is}
use Rattle.oss_deps.proofs.OpenLemmas.{get_in, in_get}
use Rattle.oss_access_lists.specs.declared.hang.Hang.{Hang}
use Rattle.oss_access_lists.specs.declared.marks.Marks.{Marks}
use Rattle.oss_access_lists.specs.Tables.{hang_at, marks_at, no_hang}
use Rattle.oss_links.specs.Numbers.{IsCellHeld, any_below, given_by, is_task, task_by}
use Rattle.oss_links.proofs.CellLemmas.{bare_cell}
use Rattle.oss_links.proofs.NumberLemmas.{any_found, entry_of_task, same_bools, task_of_entry}
use Rattle.oss_retire.specs.Remainder.{IsRemainder, IsRemainderFor, is_spent, spent_by}
use Rattle.oss_retire.specs.Retired.{AreRetired, either, left, left_of}
use Rattle.oss_retire.specs.Tables.{IsCellLeft, TellsTheSame, given_left, is_left_out, is_listed, retired_by}
use Rattle.oss_retire.proofs.KeepLemmas.{gifts_keep, none_are_retired}
use Rattle.oss_retire.proofs.LeftLemmas.{left_opened, left_ordered, opened_left}
use Rattle.oss_retire.proofs.MoreLemmas.{all_twice, more_are_retired}
use Rattle.oss_retire.proofs.RemainderLemmas.{task_is, task_left}
use Rattle.oss_retire.proofs.TellLemmas.{given_of}

-- a number that is listed has a row
listed_is : (numbers : List ℕ) (n : ℕ) → is_listed numbers n ≡ true → (v : ℕ) × (slice_get numbers v ≡ Some n)
listed_is [] n h = absurd cc
listed_is (m ∷ rest) n h = go (or_cases (m == n) (is_listed rest n) h) (listed_is rest n)
  where
    go : ((m == n) ≡ true) ⊎ (is_listed rest n ≡ true) → (is_listed rest n ≡ true → (v : ℕ) × (slice_get rest v ≡ Some n)) → (v : ℕ) × (slice_get (m ∷ rest) v ≡ Some n)
    go (inl e) again = (zero, ap (λ (x : ℕ). Some x) (eqb-true m n e))
    go (inr e) again = let k = again e in (suc k.0, k.1)

listed_at : (numbers : List ℕ) (v n : ℕ) → slice_get numbers v ≡ Some n → is_listed numbers n ≡ true
listed_at [] v n h = absurd cc
listed_at (m ∷ rest) zero n h = or_left (m == n) (is_listed rest n) (eq-eqb m n (some_is h))
listed_at (m ∷ rest) (suc v) n h = or_right (m == n) (is_listed rest n) (listed_at rest v n h)

not_true : (b : Bool) → not b ≡ true → b ≡ false
not_true true h = absurd cc
not_true false h = refl

not_of : (b : Bool) → b ≡ false → not b ≡ true
not_of true h = absurd cc
not_of false h = refl

-- an open without a row
record IsUnlisted (opens : List Open) (n : ℕ) (numbers : List ℕ) (c t : ℕ) : Type 0 where
  pub place : ℕ
  pub entry : Open
  pub at_ : slice_get opens place ≡ Some entry
  pub number : entry.task ≡ t
  pub named : names c entry ≡ true
  pub none : is_listed numbers (suc (n + place)) ≡ false

out_found : (opens : List Open) (n : ℕ) (numbers : List ℕ) (c t : ℕ) → is_left_out opens n numbers c t ≡ true → IsUnlisted opens n numbers c t
out_found [] n numbers c t h = absurd cc
out_found (o ∷ rest) n numbers c t h = go (or_cases ((o.task == t) && (names c o && not (is_listed numbers (suc n)))) (is_left_out rest (suc n) numbers c t) h) (out_found rest (suc n) numbers c t)
  where
    go : (((o.task == t) && (names c o && not (is_listed numbers (suc n)))) ≡ true) ⊎ (is_left_out rest (suc n) numbers c t ≡ true) → (is_left_out rest (suc n) numbers c t ≡ true → IsUnlisted rest (suc n) numbers c t) → IsUnlisted (o ∷ rest) n numbers c t
    go (inl e) again =
        let b = both (o.task == t) (names c o && not (is_listed numbers (suc n))) e in
        let d = both (names c o) (not (is_listed numbers (suc n))) b.1 in
        record {
          place = zero;
          entry = o;
          at_ = refl;
          number = eqb-true o.task t b.0;
          named = d.0;
          none = subst (λ (x : ℕ). is_listed numbers x ≡ false) (omega arith) (not_true (is_listed numbers (suc n)) d.1);
        }
    go (inr e) again =
        let r = again e in
        record { place = suc r.place; entry = r.entry; at_ = r.at_; number = r.number; named = r.named; none = subst (λ (x : ℕ). is_listed numbers x ≡ false) (omega arith) r.none }

out_told : (opens : List Open) (n : ℕ) (numbers : List ℕ) (c t : ℕ) → IsUnlisted opens n numbers c t → is_left_out opens n numbers c t ≡ true
out_told [] n numbers c t is = absurd (let h = is.at_ in cc)
out_told (o ∷ rest) n numbers c t is = go is.place is.at_ is.none (out_told rest (suc n) numbers c t)
  where
    go : (i : ℕ) → slice_get (o ∷ rest) i ≡ Some is.entry → is_listed numbers (suc (n + i)) ≡ false → (IsUnlisted rest (suc n) numbers c t → is_left_out rest (suc n) numbers c t ≡ true) → is_left_out (o ∷ rest) n numbers c t ≡ true
    go zero e f again =
        let same : o ≡ is.entry = some_is e in
        or_left ((o.task == t) && (names c o && not (is_listed numbers (suc n)))) (is_left_out rest (suc n) numbers c t)
        (both_of (o.task == t) (names c o && not (is_listed numbers (suc n))) (eq-eqb o.task t (ap (λ (x : Open). x.task) same ∙ is.number))
        (both_of (names c o) (not (is_listed numbers (suc n))) (ap (names c) same ∙ is.named) (not_of (is_listed numbers (suc n)) (subst (λ (x : ℕ). is_listed numbers x ≡ false) (omega arith) f))))
    go (suc i) e f again =
        or_right ((o.task == t) && (names c o && not (is_listed numbers (suc n)))) (is_left_out rest (suc n) numbers c t)
        (again (record { place = i; entry = is.entry; at_ = e; number = is.number; named = is.named; none = subst (λ (x : ℕ). is_listed numbers x ≡ false) (omega arith) f }))

-- the tasks by their numbers, and who has given up, are the same in what is left
pub task_kept : (r : ℕ → Bool) (opens : List Open) (numbers : List ℕ) (v : ℕ) → task_by (left_of r opens) numbers v ≡ task_by opens numbers v
task_kept r opens numbers v = task_left r opens (slice_get numbers v)

pub given_kept : (r : ℕ → Bool) (opens : List Open) (hangs : List Hang) (numbers : List ℕ) (t : ℕ) → given_by (left_of r opens) hangs numbers t ≡ given_by opens hangs numbers t
given_kept r opens hangs numbers t = (λ i. any_below (length hangs) (λ v. is_task t (task_kept r opens numbers v i) && (hang_at hangs v).gave))

-- which tasks are retired is told by the numbers
module _ (opens : List Open) (c : ℕ) (hangs : List Hang) (numbers : List ℕ) (ord : AreOrdered opens) (r : ℕ → Bool) (opened : (t : ℕ) → r t ≡ true → HasOpened opens c t) (held : IsCellHeld (left_of r opens) c hangs numbers) where
  -- the access of a task that is left
  pub entry_left : (t : ℕ) → r t ≡ false → HasOpened opens c t → (v : ℕ) × (task_by opens numbers v ≡ Some t)
  entry_left t e h = let k = held.held.held t (opened_left r opens c t e h) in (k.0, sym (task_kept r opens numbers k.0) ∙ k.1)

  -- a task with an access is left
  pub left_entry : (t v : ℕ) → task_by opens numbers v ≡ Some t → HasOpened opens c t × (r t ≡ false)
  left_entry t v e = left_opened r opens c t (held.held.opened t v (task_kept r opens numbers v ∙ e))

  unlisted_is : (t : ℕ) → IsUnlisted opens zero numbers c t → r t ≡ true
  unlisted_is t is = go (bools (r t))
    where
      go : (r t ≡ true) ⊎ (r t ≡ false) → r t ≡ true
      go (inl e) = e
      go (inr e) =
          let k = entry_left t e (record { entry = is.entry; listed = get_in opens is.place is.entry is.at_; number = is.number; named = is.named }) in
          let n = entry_of_task opens numbers k.0 is.place is.entry ord is.at_ (k.1 ∙ ap (λ (x : ℕ). Some x) (sym is.number)) in
          clash (is_listed numbers (suc is.place)) (listed_at numbers k.0 (suc is.place) n) (subst (λ (x : ℕ). is_listed numbers x ≡ false) (omega arith) is.none)

  is_unlisted : (t : ℕ) → r t ≡ true → IsUnlisted opens zero numbers c t
  is_unlisted t e = record { place = i.0; entry = h.entry; at_ = i.1; number = h.number; named = h.named; none = subst (λ (x : ℕ). is_listed numbers x ≡ false) (omega arith) (go (bools (is_listed numbers (suc i.0)))) }
    where
      h : HasOpened opens c t
      h = opened t e

      i : (j : ℕ) × (slice_get opens j ≡ Some h.entry)
      i = in_get opens h.listed

      go : (is_listed numbers (suc i.0) ≡ true) ⊎ (is_listed numbers (suc i.0) ≡ false) → is_listed numbers (suc i.0) ≡ false
      go (inr f) = f
      go (inl f) =
          let v = listed_is numbers (suc i.0) f in
          let k = left_entry t v.0 (task_of_entry opens numbers v.0 i.0 h.entry i.1 v.1 ∙ ap (λ (x : ℕ). Some x) h.number) in
          clash (r t) e k.1

  pub retired_is : (t : ℕ) → retired_by opens numbers c t ≡ r t
  retired_is t = same_bools (retired_by opens numbers c t) (r t) (λ h. unlisted_is t (out_found opens zero numbers c t h)) (λ h. out_told opens zero numbers c t (is_unlisted t h))

-- nothing is retired in a new table
pub bare_left : (c : ℕ) → IsCellLeft [] c (no_hang ∷ []) (0 ∷ [])
bare_left c = record {
  retired = λ t. false;
  opened = λ t e. absurd cc;
  held = bare_cell c;
  are = none_are_retired [] (λ t k. given_left [] c (no_hang ∷ []) (0 ∷ []) t) c;
}

-- a table tells what it tells, and what another tells that tells the same as a third
pub same_tells : (hangs : List Hang) (numbers : List ℕ) → TellsTheSame hangs numbers hangs numbers
same_tells hangs numbers opens c ord is = (is, λ t. refl)

pub tells_both : (hangs : List Hang) (numbers : List ℕ) (hangs2 : List Hang) (numbers2 : List ℕ) (hangs3 : List Hang) (numbers3 : List ℕ) → TellsTheSame hangs numbers hangs2 numbers2 → TellsTheSame hangs2 numbers2 hangs3 numbers3 → TellsTheSame hangs numbers hangs3 numbers3
tells_both hangs numbers hangs2 numbers2 hangs3 numbers3 f g opens c ord is =
    let a = f opens c ord is in
    let b = g opens c ord a.0 in (b.0, λ t. b.1 t ∙ a.1 t)

-- what is left of an open that is not retired is the open
pub left_same : (r : ℕ → Bool) (o : Open) → r o.task ≡ false → left r o ≡ o
left_same r o e = ap (λ (x : List Access). record o { accesses = x }) (go (r o.task) e)
  where
    go : (b : Bool) → b ≡ false → (if b then [] else o.accesses) ≡ o.accesses
    go true e = absurd cc
    go false e = refl

left_all : (r : ℕ → Bool) (opens : List Open) → ((t : ℕ) → r t ≡ false) → left_of r opens ≡ opens
left_all r [] none = refl
left_all r (o ∷ opens) none = (λ i. left_same r o (none o.task) i ∷ left_all r opens none i)

-- a table of which nothing is spent is its own remainder
pub whole_remainder : (hangs : List Hang) (stand : List Marks) (numbers : List ℕ) → ((v : ℕ) → (v ≡ 0 → ⊥) → v < length numbers → is_spent (marks_at stand v) ≡ false) → IsRemainder hangs stand numbers hangs numbers
whole_remainder hangs stand numbers kept opens c ord is = record {
  retired = record { done = λ t e h. not_spent t e; free = λ t e h. not_spent t e; front = λ u v e h k. not_spent v e; below = λ u v e h. not_spent u e };
  held = subst (λ (xs : List Open). IsCellHeld xs c hangs numbers) (sym (left_all (spent_by opens stand numbers) opens none)) is;
  given = λ t e. given_kept (spent_by opens stand numbers) opens hangs numbers t;
}
  where
    none : (t : ℕ) → spent_by opens stand numbers t ≡ false
    none t = go (bools (spent_by opens stand numbers t))
      where
        go : (spent_by opens stand numbers t ≡ true) ⊎ (spent_by opens stand numbers t ≡ false) → spent_by opens stand numbers t ≡ false
        go (inr e) = e
        go (inl e) =
            let k = any_found (length numbers) (λ v. is_task t (task_by opens numbers v) && is_spent (marks_at stand v)) e in
            let b = both (is_task t (task_by opens numbers k.0)) (is_spent (marks_at stand k.0)) k.2 in
            clash (is_spent (marks_at stand k.0)) b.1 (kept k.0 (is.held.not_main t k.0 (task_is t (task_by opens numbers k.0) b.0)).1 k.1)

    not_spent : {A : Type 0} (t : ℕ) → spent_by opens stand numbers t ≡ true → A
    not_spent t e = clash (spent_by opens stand numbers t) e (none t)

-- A table without its spent accesses tells the same.
module _ (hangs : List Hang) (stand : List Marks) (numbers : List ℕ) (less : List Hang) (fewer : List ℕ) (rest : IsRemainder hangs stand numbers less fewer) (opens : List Open) (c : ℕ) (ord : AreOrdered opens) (is : IsCellLeft opens c hangs numbers) where
  abbrev kept : List Open
  kept = left_of is.retired opens

  abbrev spent : ℕ → Bool
  spent = spent_by kept stand numbers

  abbrev all : ℕ → Bool
  all = either is.retired spent

  left_rest : IsRemainderFor kept c hangs stand numbers less fewer
  left_rest = rest kept c (left_ordered is.retired ord) is.held

  spent_opened : (t : ℕ) → spent t ≡ true → HasOpened kept c t
  spent_opened t e = is.held.held.opened t k.0 (task_is t (task_by kept numbers k.0) (both (is_task t (task_by kept numbers k.0)) (is_spent (marks_at stand k.0)) k.2).0)
    where
      k : (v : ℕ) × (v < length numbers) × ((is_task t (task_by kept numbers v) && is_spent (marks_at stand v)) ≡ true)
      k = any_found (length numbers) (λ v. is_task t (task_by kept numbers v) && is_spent (marks_at stand v)) e

  all_opened : (t : ℕ) → all t ≡ true → HasOpened opens c t
  all_opened t e = go (or_cases (is.retired t) (spent t) e)
    where
      go : (is.retired t ≡ true) ⊎ (spent t ≡ true) → HasOpened opens c t
      go (inl h) = is.opened t h
      go (inr h) = (left_opened is.retired opens c t (spent_opened t h)).0

  all_held : IsCellHeld (left_of all opens) c less fewer
  all_held = subst (λ (xs : List Open). IsCellHeld xs c less fewer) (all_twice is.retired spent opens) left_rest.held

  -- what is given up by the whole table, and by the one that is left
  abbrev whole : ℕ → ℕ → Bool
  whole = λ t k. given_left opens c hangs numbers t

  by_kept : (t : ℕ) → given_by kept hangs numbers t ≡ true → whole t c ≡ true
  by_kept t h = or_left (given_by opens hangs numbers t) (retired_by opens numbers c t) (sym (given_kept is.retired opens hangs numbers t) ∙ h)

  spent_are : AreRetired kept whole c spent
  spent_are = gifts_keep kept (λ t k. given_by kept hangs numbers t) whole c by_kept spent left_rest.retired

  all_are : AreRetired opens whole c all
  all_are = more_are_retired opens whole c is.retired spent is.are spent_are

  same_given : (t : ℕ) → given_left opens c less fewer t ≡ given_left opens c hangs numbers t
  same_given t = go (bools (is.retired t)) (bools (spent t))
    where
      now : retired_by opens fewer c t ≡ all t
      now = retired_is opens c less fewer ord all all_opened all_held t

      before : retired_by opens numbers c t ≡ is.retired t
      before = retired_is opens c hangs numbers ord is.retired is.opened is.held t

      gone : all t ≡ true → given_left opens c less fewer t ≡ true
      gone e = or_right (given_by opens less fewer t) (retired_by opens fewer c t) (now ∙ e)

      go : (is.retired t ≡ true) ⊎ (is.retired t ≡ false) → (spent t ≡ true) ⊎ (spent t ≡ false) → given_left opens c less fewer t ≡ given_left opens c hangs numbers t
      go (inl e) y = gone (or_left (is.retired t) (spent t) e) ∙ sym (or_right (given_by opens hangs numbers t) (retired_by opens numbers c t) (before ∙ e))
      go (inr e) (inl f) = gone (or_right (is.retired t) (spent t) f) ∙ sym (by_kept t (given_of kept (λ s k. given_by kept hangs numbers s) c t (left_rest.retired.done t f (spent_opened t f))))
      go (inr e) (inr f) =
          let same : given_by opens less fewer t ≡ given_by opens hangs numbers t =
          sym (given_kept spent kept less fewer t ∙ given_kept is.retired opens less fewer t) ∙ (left_rest.given t f ∙ given_kept is.retired opens hangs numbers t) in
          rw (same, now, before, e, f) refl

  remainder_left : IsCellLeft opens c less fewer
  remainder_left = record {
    retired = all;
    opened = all_opened;
    held = all_held;
    are = gifts_keep opens whole (λ t k. given_left opens c less fewer t) c (λ t h. same_given t ∙ h) all all_are;
  }

  pub remainder_tells : IsCellLeft opens c less fewer × ((t : ℕ) → given_left opens c less fewer t ≡ given_left opens c hangs numbers t)
  remainder_tells = (remainder_left, same_given)
