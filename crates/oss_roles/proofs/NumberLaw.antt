-- The numbers of a task's entries: those of a job that a seat holds, and what the count of a new task says by them.
use Rattle.std.proofs.Common.{◌≡◌, ◌≢◌, ◌⊎◌, inl, inr, sym, subst, refl, ◌∙◌, ap, ℕ, zero, suc, ◌<◌, ◌≤◌, ◌+◌, ◌-◌, arith, Bool, true, false, List, ◌∷◌, Option, Some, None}
use Rattle.std.specs.Prelude.{◌==◌, ◌&&◌, not}
use Rattle.std.proofs.lemmas.Bool.Decides.{eqb_tells}
use Rattle.oss_model.specs.Bodies.{Body}
use Rattle.oss_model.specs.Context.{right_of}
use Rattle.oss_model.specs.Machine.{At, HasAccess}
use Rattle.oss_model.specs.Rights.{Right, Holds}
use Rattle.oss_words.specs.declared.entry.EntryState.{EntryState}
use Rattle.oss_words.specs.Sums.{below, num}
use Rattle.oss_words.proofs.SumLemmas.{below_none}
use Rattle.oss_roles.specs.Claims.{EntriesFollow}
use Rattle.oss_roles.specs.Counting.{AreNumbered, CountsAreOfCells, stands, weight}
use Rattle.oss_roles.specs.Field.{of_entry}
use Rattle.oss_roles.specs.Numbers.{cells_below, entry_number, has_cell}
use Rattle.oss_roles.specs.Roles.{Role, Filed, on}
use Rattle.oss_roles.specs.Sights.{Telling}
use Rattle.oss_roles.proofs.HoldLemmas.{number_one}

pub entries_follow : (S J : Type 0) (is_job : Telling S J) → EntriesFollow S J is_job
entries_follow S J is_job P main first n k sights f id i v b j c p mode strong at has path right =
    let mine = f.borne id v at i b has in
    let held : HasAccess f.state c (j ∷ p) = record {
      task = mine.task;
      at_ = subst (λ (z : List ℕ). At f.state z mine.task) path mine.at_;
      mode = mode;
      strong = strong;
      right = subst (λ (z : Body S). right_of z.start.context c ≡ Holds mode strong) (sym mine.body) right;
    } in
    let x = f.filed.access j c p held in
    let number = f.roles.number x.0.entry x.0.it x.0.is in
    let same : x.0.it.task ≡ b.number = number_one f.net k.infos f.role f.roles x.0.it.task b.number (j ∷ p) b.path (of_entry number.0 number.1 number.3 (number.2 ∙ x.0.path)) mine.number (sym path) in
    subst (λ (z : List ℕ). (y : Filed f.net f.role z (on c)) × (y.it.mode ≡ mode) × (y.it.strong ≡ strong) × (y.entry ≡ entry_number b.number (right_of b.body.start.context) c)) (sym path) (
      x.0,
      x.1,
      x.2,
      x.3
          ∙ (ap (λ (z : ℕ). entry_number z (right_of mine.task.body.start.context) c) same
          ∙ ap (λ (z : Body S). entry_number b.number (right_of z.start.context) c) mine.body),
    )

-- the cells below one that a task has are fewer than those below a later one
fewer : (own : ℕ → Right) (cells c : ℕ) → c < cells → has_cell (own c) ≡ true → cells_below own c < cells_below own cells
fewer own zero c l h = absurd (omega (arith, l))
fewer own (suc d) c l h = go (same_or c d (omega (arith, l))) (λ m. fewer own d c m h)
  where
    same_or : (c d : ℕ) → c ≤ d → (c ≡ d) ⊎ (c < d)
    same_or c d l = grind arith

    one : num (has_cell (own c)) ≡ 1
    one = ap num h

    go : (c ≡ d) ⊎ (c < d) → (c < d → cells_below own c < cells_below own d) → cells_below own c < cells_below own (suc d)
    go (inl e) again =
        let here = ap (λ (z : ℕ). num (has_cell (own z))) e in
        let there = ap (λ (z : ℕ). cells_below own z) e in
        omega (arith, one, here, there)
    go (inr m) again = let less = again m in omega (arith, less)

module _ (role : ℕ → Option Role) (states : ℕ → EntryState) (t cells : ℕ) (own : ℕ → Right) (waits : ℕ → Bool) (a : AreNumbered role states t cells own waits) where
  abbrev weigh : ℕ → ℕ
  weigh e = weight t (role e) (states e)

  abbrev wanted : ℕ → ℕ
  wanted c = num (has_cell (own c) && waits c)

  -- what is no entry of the task on a cell weighs nothing
  nothing : (e : ℕ) → ((c : ℕ) → c < cells → has_cell (own c) ≡ true → e ≢ entry_number t own c) → weigh e ≡ 0
  nothing e none = go (role e) refl
    where
      of_task : (r : Role) → role e ≡ Some r → r.task ≡ t → r.counts ≡ false
      of_task r is task = elim (a.no_more e r is task) [
        | inl q ↦ let o = a.own_role in let z : Some o.0 ≡ Some r = sym o.1 ∙ ap role (sym q) ∙ is in let y : o.0 ≡ r = cc in sym (ap (λ (x : Role). x.counts) y) ∙ o.2
        | inr q ↦ absurd (none q.0 q.1 q.2 q.3)
      ]

      go : (o : Option Role) → role e ≡ o → weight t o (states e) ≡ 0
      go None is = refl
      go (Some r) is = elim (eqb_tells r.task t) [
        | inl h ↦ ap (λ (z : Bool). num ((r.task == t) && (z && not (stands r.mode (states e))))) (of_task r is h.1) ∙ rw h.0 refl
        | inr h ↦ rw h.0 refl
      ]

  same_task : (r : Role) → r.task ≡ t → (r.task == t) ≡ true
  same_task r task = elim (eqb_tells r.task t) [ inl h ↦ h.0 | inr h ↦ absurd (h.1 task) ]

  -- an entry of the task on a cell weighs 1 if the count waits for it
  one_cell : (c : ℕ) → c < cells → has_cell (own c) ≡ true → weigh (entry_number t own c) ≡ num (waits c)
  one_cell c l h =
      let r = a.each c l h in
      ap (λ (o : Option Role). weight t o (states (entry_number t own c))) r.1 ∙ go r.0 r.1 r.2 r.3 (waits c) refl
    where
      go : (r : Role) → role (entry_number t own c) ≡ Some r → r.task ≡ t → r.counts ≡ waits c → (w : Bool) → waits c ≡ w → weight t (Some r) (states (entry_number t own c)) ≡ num (waits c)
      go r is task counts true e =
          let flag = a.waited (entry_number t own c) r is task (counts ∙ e) in
          ap (λ (z : Bool). num (z && (r.counts && not (stands r.mode (states (entry_number t own c)))))) (same_task r task)
          ∙ (ap (λ (z : Bool). num (z && not (stands r.mode (states (entry_number t own c))))) (counts ∙ e) ∙ (ap (λ (z : Bool). num (not z)) flag ∙ sym (ap num e)))
      go r is task counts false e =
          ap (λ (z : Bool). num (z && (r.counts && not (stands r.mode (states (entry_number t own c)))))) (same_task r task)
          ∙ (ap (λ (z : Bool). num (z && not (stands r.mode (states (entry_number t own c))))) (counts ∙ e) ∙ sym (ap num e))

  -- the entries up to that on a cell are those on the cells below it
  up_to : (c : ℕ) → c ≤ cells → below weigh (t + 1 + cells_below own c) ≡ below wanted c
  up_to zero l = below_none weigh (t + 1 + 0) (λ e low. nothing e (λ c m h q. let z : e ≡ t + 1 + cells_below own c = q in omega (arith, z, low)))
  up_to (suc c) l = go (has_cell (own c)) refl (up_to c (omega (arith, l)))
    where
      go : (b : Bool) → has_cell (own c) ≡ b → below weigh (t + 1 + cells_below own c) ≡ below wanted c → below weigh (t + 1 + cells_below own (suc c)) ≡ below wanted (suc c)
      go false h again =
          let n = ap num h in
          let w : wanted c ≡ 0 = ap (λ (z : Bool). num (z && waits c)) h in
          let same : t + 1 + cells_below own (suc c) ≡ t + 1 + cells_below own c = omega (arith, n) in
          let sum : below wanted c ≡ below wanted (suc c) = omega (arith, w) in
          ap (λ (z : ℕ). below weigh z) same ∙ (again ∙ sum)
      go true h again =
          let n = ap num h in
          let w : wanted c ≡ num (waits c) = ap (λ (z : Bool). num (z && waits c)) h in
          let one = one_cell c (omega (arith, l)) h in
          let same : t + 1 + cells_below own (suc c) ≡ suc (t + 1 + cells_below own c) = omega (arith, n) in
          let sum : below weigh (suc (t + 1 + cells_below own c)) ≡ below wanted (suc c) = omega (arith, one, w, again) in
          ap (λ (z : ℕ). below weigh z) same ∙ sum

  -- and behind the last of them nothing weighs
  abbrev past : ℕ
  past = t + 1 + cells_below own cells

  up_from : (d : ℕ) → below weigh (past + d) ≡ below weigh past
  up_from zero = let same : past + 0 ≡ past = omega arith in ap (λ (z : ℕ). below weigh z) same
  up_from (suc d) =
      let again = up_from d in
      let none = nothing (past + d) (λ c m h q. let z : past + d ≡ t + 1 + cells_below own c = q in let f = fewer own cells c m h in omega (arith, z, f)) in
      let same : past + suc d ≡ suc (past + d) = omega arith in
      let sum : below weigh (suc (past + d)) ≡ below weigh past = omega (arith, again, none) in
      ap (λ (z : ℕ). below weigh z) same ∙ sum

  all_cells : (n : ℕ) → past ≤ n → below weigh n ≡ below wanted cells
  all_cells n few =
      let same : n ≡ past + (n - past) = omega (arith, few) in
      ap (λ (z : ℕ). below weigh z) same ∙ (up_from (n - past) ∙ up_to cells (omega arith))

pub counts_are_of_cells : CountsAreOfCells
counts_are_of_cells role states t n cells own waits a few = all_cells role states t cells own waits a n few
