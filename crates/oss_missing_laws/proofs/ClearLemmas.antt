-- Where nothing is told of a task behind an ask, nothing was told before, and neither a release nor a child hindered it.
use Rattle.std.proofs.Common.{◌≡◌, refl, sym, ap, ◌∙◌, ℕ, Bool, true, false, List, [], ◌∷◌, ◌++◌, Option, Some, None}
use Rattle.std.specs.Prelude.{if◌then◌else◌}
use Rattle.oss_model.specs.Rights.{Touch}
use Rattle.oss_needs.specs.declared.clause.Clause.{Clause}
use Rattle.oss_lent_cells.specs.declared.holder.Holder.{Holder}
use Rattle.oss_missing_waits.specs.Holding.{Holding, IsUse, Told, has_use, has_wait, hinderer, lent_when, told_wait, touched, waits_before, with_told}
use Rattle.oss_missing_waits.specs.Holding.IsUse.{known, none, told}

no_end : (ts : List Told) (t : Told) → ts ++ t ∷ [] ≡ [] → ⊥
no_end [] t e = cc
no_end (x ∷ ts) t e = cc

-- no cell that is used was released
pub record IsClearUse (cells : ℕ → Bool) (h used : Holding) : Type 0 where
  pub same : used ≡ h
  pub kept : (c : ℕ) → cells c ≡ true → h.released c ≡ false

pub use_told : (cells : ℕ → Bool) (line : ℕ) (h used : Holding) → IsUse cells line h used → used.told ≡ [] → h.told ≡ []
use_told cells line h used (none n) e = e
use_told cells line h used (known k) e = e
use_told cells line h used (told c k r n) e = absurd (no_end h.told _ e)

pub clear_use : (cells : ℕ → Bool) (line : ℕ) (h used : Holding) → IsUse cells line h used → used.told ≡ [] → IsClearUse cells h used
clear_use cells line h used (none n) e = record { same = refl; kept = λ c i. go (h.released c) refl (n c i) }
  where
    go : {c : ℕ} (b : Bool) → h.released c ≡ b → (h.released c ≡ true → ⊥) → h.released c ≡ false
    go true k f = absurd (f k)
    go false k f = k
clear_use cells line h used (known k) e = let x : false ≡ true = sym (ap (λ (ts : List Told). has_use ts line) e) ∙ k in absurd cc
clear_use cells line h used (told c k r n) e = absurd (no_end h.told _ e)

-- no child hinders a touch
pub wait_told : (t : Touch) (c line : ℕ) (o : Option Holder) (h : Holding) → (waits_before t c line o h).told ≡ [] → h.told ≡ []
wait_told t c line None h e = e
wait_told t c line (Some child) h e = go (has_wait h.told line) e
  where
    go : (b : Bool) → (if b then h else with_told (Rattle.oss_missing_waits.specs.Holding.Waits t c line child) h).told ≡ [] → h.told ≡ []
    go true k = k
    go false k = absurd (no_end h.told _ k)

unhindered : (t : Touch) (c line : ℕ) (o : Option Holder) (h : Holding) → (waits_before t c line o h).told ≡ [] → o ≡ None
unhindered t c line None h e = refl
unhindered t c line (Some child) h e = go (has_wait h.told line) refl e
  where
    go : (b : Bool) → has_wait h.told line ≡ b → (if b then h else with_told (Rattle.oss_missing_waits.specs.Holding.Waits t c line child) h).told ≡ [] → Some child ≡ None
    go true k f = let x : false ≡ true = sym (ap (λ (ts : List Told). has_wait ts line) f) ∙ k in absurd cc
    go false k f = absurd (no_end h.told _ f)

pub record IsClearTouch (t : Touch) (c line : ℕ) (h used : Holding) : Type 0 where
  pub same : touched t c line used ≡ h
  pub kept : h.released c ≡ false
  pub free : hinderer (h.has c) t (h.lent c) ≡ None

pub clear_touch : (cells : ℕ → Bool) (t : Touch) (c line : ℕ) (h used : Holding) → cells c ≡ true → IsUse cells line h used → (touched t c line used).told ≡ [] → IsClearTouch t c line h used
clear_touch cells t c line h used i u e =
    let o = hinderer (used.has c) t (used.lent c) in
    let w : used.told ≡ [] = wait_told t c line o used e in
    let n : o ≡ None = unhindered t c line o used e in
    let k = clear_use cells line h used u w in
    record {
      same = ap (λ (x : Option Holder). waits_before t c line x used) n ∙ k.same;
      kept = k.kept c i;
      free = ap (λ (x : Holding). hinderer (x.has c) t (x.lent c)) (sym k.same) ∙ n;
    }

pub lent_told : (b : Bool) (number line : ℕ) (clauses : ℕ → Option Clause) (h : Holding) → (lent_when b number line clauses h).told ≡ h.told
lent_told true number line clauses h = refl
lent_told false number line clauses h = refl
