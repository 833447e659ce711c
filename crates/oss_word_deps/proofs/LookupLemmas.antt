-- The halves of a search among the entries of a task.
use Rattle.std.proofs.Common.{◌≡◌, ℕ, zero, suc, ◌<◌, ◌≤◌, ◌+◌, ◌-◌, ◌⊎◌, inl, inr, refl, sym, ap, subst, ◌∙◌, List, [], ◌∷◌, Some, length, arith}
use Rattle.std.specs.Prelude.{slice_get}
use Rattle.std.proofs.Math.ListN.{get_or}
use Rattle.oss_deps.proofs.Basics.{compared, some_is}
use Rattle.oss_word_deps.specs.declared.entry.Entry.{Entry}
use Rattle.oss_word_deps.specs.declared.entry.Job.{Job}
use Rattle.oss_word_deps.specs.Asked.{IsRowOf}
use Rattle.oss_word_deps.specs.Booked.{IsJob}
use Rattle.oss_word_deps.specs.Ledger.{entry_of}

pub get_is : {A : Type 0} (xs : List A) (i : ℕ) (d : A) → i < length xs → slice_get xs i ≡ Some (get_or xs i d)
get_is [] i d h = absurd (omega (arith, h))
get_is (x ∷ xs) zero d h = refl
get_is (x ∷ xs) (suc i) d h = get_is xs i d (omega (arith, h))

pub entry_is : (entries : List Entry) (v : ℕ) (d : Entry) → 0 < v → v ≤ length entries → entry_of entries v ≡ Some (get_or entries (v - 1) d)
entry_is entries zero d h k = absurd (omega (arith, h))
entry_is entries (suc n) d h k = let e : suc n - 1 ≡ n = omega arith in rw e (get_is entries n d (omega (arith, k)))

-- what is read at a place of the entries of a job
pub of_job : (entries : List Entry) (job : Job) → IsJob entries job → (v : ℕ) (d : Entry) → job.first ≤ v → v < job.end → entry_of entries v ≡ Some (get_or entries (v - 1) d)
of_job entries job is v d from upto = entry_is entries v d (omega (arith, is.from, from)) (omega (arith, is.within, upto))

-- what lies before a lesser cell is lesser
pub lesser_before : (entries : List Entry) (job : Job) → IsJob entries job → (m cell : ℕ) (d : Entry) → job.first ≤ m → m < job.end → (get_or entries (m - 1) d).cell < cell
    → (v : ℕ) (e : Entry) → job.first ≤ v → v < m + 1 → entry_of entries v ≡ Some e → e.cell < cell
lesser_before entries job is m cell d from upto less v e start below at = go (compared v m)
  where
    here : entry_of entries m ≡ Some (get_or entries (m - 1) d)
    here = of_job entries job is m d from upto

    go : (v < m) ⊎ ((v ≡ m) ⊎ (m < v)) → e.cell < cell
    go (inl h) = let r = is.rising v m e (get_or entries (m - 1) d) start h upto at here in omega (arith, r, less)
    go (inr (inl h)) = subst (λ (x : Entry). x.cell < cell) (some_is (sym here ∙ (ap (entry_of entries) (sym h) ∙ at))) less
    go (inr (inr h)) = absurd (omega (arith, h, below))

-- what lies behind one that is not lesser is not
pub greater_behind : (entries : List Entry) (job : Job) → IsJob entries job → (m cell : ℕ) (d : Entry) → job.first ≤ m → m < job.end → cell ≤ (get_or entries (m - 1) d).cell
    → (v : ℕ) (e : Entry) → m ≤ v → v < job.end → entry_of entries v ≡ Some e → cell ≤ e.cell
greater_behind entries job is m cell d from upto less v e start below at = go (compared v m)
  where
    here : entry_of entries m ≡ Some (get_or entries (m - 1) d)
    here = of_job entries job is m d from upto

    go : (v < m) ⊎ ((v ≡ m) ⊎ (m < v)) → cell ≤ e.cell
    go (inl h) = absurd (omega (arith, h, start))
    go (inr (inl h)) = subst (λ (x : Entry). cell ≤ x.cell) (some_is (sym here ∙ (ap (entry_of entries) (sym h) ∙ at))) less
    go (inr (inr h)) = let r = is.rising m v (get_or entries (m - 1) d) e from h below here at in omega (arith, r, less)

-- the one that is found
pub found_row : (entries : List Entry) (job : Job) → IsJob entries job → (v cell : ℕ) (d : Entry) → job.first ≤ v → v < job.end → (get_or entries (v - 1) d).cell ≡ cell → IsRowOf entries cell job.task v
found_row entries job is v cell d from upto h =
    let here = of_job entries job is v d from upto in
    record { entry = get_or entries (v - 1) d; is = here; task = (is.of_task v (get_or entries (v - 1) d) from upto here).0; cell = h }

-- or there is none
pub no_row : (entries : List Entry) (job : Job) → IsJob entries job → (m cell : ℕ) → ((v : ℕ) (e : Entry) → job.first ≤ v → v < m → entry_of entries v ≡ Some e → e.cell < cell)
    → ((v : ℕ) (e : Entry) → m ≤ v → v < job.end → entry_of entries v ≡ Some e → cell < e.cell) → (v : ℕ) → IsRowOf entries cell job.task v → ⊥
no_row entries job is m cell before behind v r = go (compared v m)
  where
    at : (job.first ≤ v) × (v < job.end)
    at = is.all v r.entry r.is r.task

    go : (v < m) ⊎ ((v ≡ m) ⊎ (m < v)) → ⊥
    go (inl h) = let k = before v r.entry at.0 h r.is in omega (arith, k, r.cell)
    go (inr (inl h)) = let k = behind v r.entry (omega (arith, h)) at.1 r.is in omega (arith, k, r.cell)
    go (inr (inr h)) = let k = behind v r.entry (omega (arith, h)) at.1 r.is in omega (arith, k, r.cell)
