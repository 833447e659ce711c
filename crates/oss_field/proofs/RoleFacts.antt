-- What the role of an entry says that is to be linked: the site, the mode and whether it is strong, as its info tells them, and whether the count of its task waits for it.
use Rattle.std.proofs.Common.{◌≡◌, ◌≢◌, ◌⊎◌, inl, inr, sym, refl, ◌∙◌, ap, ℕ, ◌<◌, ◌+◌, arith, Bool, true, false, Option, Some, None}
use Rattle.std.specs.Prelude.{not, ◌&&◌, ◌==◌}
use Rattle.std.proofs.lemmas.Bool.Decides.{eqb_tells}
use Rattle.oss_code.specs.declared.code.CodeParts.{CodeParts}
use Rattle.oss_machine.specs.Frames.{CodeScript}
use Rattle.oss_model.specs.Bodies.{Order}
use Rattle.oss_model.specs.Rights.{Holds}
use Rattle.oss_syntax.specs.declared.access.Mode.{Mode}
use Rattle.oss_syntax.specs.declared.access.Mode.TheVariants.{Read, Write, Fold}
use Rattle.oss_words.specs.declared.entry.EntryInfo.{EntryInfo}
use Rattle.oss_words.specs.declared.entry.EntryState.{EntryState}
use Rattle.oss_words.proofs.CauseLemmas.{clash}
use Rattle.oss_roles.specs.Counting.{stands as has_flag}
use Rattle.oss_roles.specs.Numbers.{cells_below}
use Rattle.oss_roles.specs.Roles.{Role, on}
use Rattle.oss_field.specs.Known.{Holding, Plan, last_of}
use Rattle.oss_field.specs.Linking.{IsEntryFor, cell_entry, own_entry}
use Rattle.oss_field.specs.Owning.{site_of}
use Rattle.oss_field.specs.Plans.{IsRoleOf, is_cell, is_own, begins_list, is_missing, needs_flag, new_rights, waits_for}
use Rattle.oss_field.proofs.PlanLemmas.{fewer, has_held, site_cell}

-- whether the count waits
abbrev pub CountsAs : Holding → EntryInfo → Option ℕ → Bool → Type 0
CountsAs h i None b = b ≡ false
CountsAs h i (Some c) b = b ≡ waits_for (Holds i.mode i.strong) (begins_list h c)

pub record RoleFacts (h : Holding) (i : EntryInfo) (cell : Option ℕ) (r : Role) : Type 0 where
  pub site : r.site ≡ site_of cell
  pub mode : r.mode ≡ i.mode
  pub strong : r.strong ≡ i.strong
  pub counts : CountsAs h i cell r.counts

holds_mode : (m k : Mode) (s t : Bool) → Holds m s ≡ Holds k t → m ≡ k
holds_mode m k s t q = cc

holds_strong : (m k : Mode) (s t : Bool) → Holds m s ≡ Holds k t → s ≡ t
holds_strong m k s t q = cc

same_or_far : (c d : ℕ) → (c ≡ d) ⊎ ((c < d) ⊎ (d < c))
same_or_far c d = grind arith

module _ (code : CodeParts) (plan : Plan) (e : ℕ) (i : EntryInfo) (task : plan.task ≡ i.task) (r : Role) where
  pub role_facts : (cell : Option ℕ) → IsEntryFor code plan.holding plan.order e i cell → IsRoleOf code plan e r → RoleFacts plan.holding i cell r
  role_facts None (own_entry own mode strong) (is_own q site m s counts) = record { site = site; mode = m ∙ sym mode; strong = s ∙ sym strong; counts = counts }
  role_facts None (own_entry own mode strong) (is_cell c m s right number site rm rs counts) =
      absurd (let z : e ≡ plan.task + 1 + cells_below (new_rights code plan.holding.body plan.order) c = number in omega (arith, z, own, task))
  role_facts (Some _) (cell_entry c right number) (is_own q site m s counts) =
      absurd (let z : e ≡ i.task + 1 + cells_below (new_rights code plan.holding.body plan.order) c = number in omega (arith, z, q, task))
  role_facts (Some _) (cell_entry c right number) (is_cell d m s right' number' site rm rs counts) =
      let own = new_rights code plan.holding.body plan.order in
      let a : e ≡ i.task + 1 + cells_below (new_rights code plan.holding.body plan.order) c = number in
      let b : e ≡ plan.task + 1 + cells_below (new_rights code plan.holding.body plan.order) d = number' in
      let same : d ≡ c = elim (same_or_far d c) [
        | inl q ↦ q
        | inr g ↦ elim g [
          | inl low ↦ absurd (let f = fewer own c d low (has_held (own d) m s right') in omega (arith, a, b, f, task))
          | inr low ↦ absurd (let f = fewer own d c low (has_held (own c) i.mode i.strong right) in omega (arith, a, b, f, task))
        ]
      ] in
      let held : Holds m s ≡ Holds i.mode i.strong = sym right' ∙ (ap (λ (z : ℕ). own z) same ∙ right) in
      record {
        site = site ∙ ap on same;
        mode = rm ∙ holds_mode m i.mode s i.strong held;
        strong = rs ∙ holds_strong m i.mode s i.strong held;
        counts = counts ∙ (λ j. waits_for (held j) (begins_list plan.holding (same j)));
      }

-- the cell of a site
pub cell_is : (cell : Option ℕ) (c : ℕ) → site_of cell ≡ on c → cell ≡ Some c
cell_is None c q = absurd (let bad : ⊥ = cc in bad)
cell_is (Some d) c q = ap (λ (z : ℕ). Some z) (site_cell d c q)

-- the count of a task does not wait for an entry that begins a list of main
waits_no : (mode : Mode) (strong : Bool) → waits_for (Holds mode strong) true ≡ false
waits_no mode strong = go strong (needs_flag mode)
  where
    go : (a b : Bool) → (a && (b && not true)) ≡ false
    go true true = refl
    go true false = refl
    go false b = refl

pub counts_off : (h : Holding) (i : EntryInfo) (cell : Option ℕ) (b : Bool) → h.number ≡ 0 → last_of h (site_of cell) ≡ None → CountsAs h i cell b → b ≡ false
counts_off h i None b main none counts = counts
counts_off h i (Some c) b main none counts =
    counts ∙ (ap (λ (z : Bool). waits_for (Holds i.mode i.strong) z) (ap (λ (z : ℕ). (z == 0) && is_missing (last_of h (on c))) main ∙ ap (λ (z : Option ℕ). (0 == 0) && is_missing z) none) ∙ waits_no i.mode i.strong)

-- any other waits for a flag, if it is strong and needs one
pub begins_none : (h : Holding) (cell : Option ℕ) → (h.number ≢ 0) ⊎ ((o : ℕ) × (last_of h (site_of cell) ≡ Some o)) → (c : ℕ) → cell ≡ Some c → begins_list h c ≡ false
begins_none h None other c q = absurd (let bad : ⊥ = cc in bad)
begins_none h (Some d) (inl ne) c q = not_zero h.number ne (is_missing (last_of h (on c)))
  where
    not_zero : (n : ℕ) → n ≢ 0 → (b : Bool) → ((n == 0) && b) ≡ false
    not_zero n ne b = elim (eqb_tells n 0) [ inl q ↦ absurd (ne q.1) | inr q ↦ ap (λ (z : Bool). z && b) q.0 ]
begins_none h (Some d) (inr last) c q =
    let same : d ≡ c = (let z : Some d ≡ Some c = q in cc) in
    ap (λ (z : ℕ). (h.number == 0) && is_missing (last_of h (on z))) (sym same) ∙ (ap (λ (z : Option ℕ). (h.number == 0) && is_missing z) last.1 ∙ and_off (h.number == 0))
  where
    and_off : (b : Bool) → (b && false) ≡ false
    and_off true = refl
    and_off false = refl

needs_none : (mode : Mode) (x : EntryState) → (needs_flag mode && true) ≡ false → has_flag mode x ≡ true
needs_none Read x z = absurd (clash refl z)
needs_none Write x z = absurd (clash refl z)
needs_none (Fold op) x z = refl

pub starts_with : (code : CodeParts) (h : Holding) (order : Order CodeScript) (e : ℕ) (i : EntryInfo) (cell : Option ℕ) (b : Bool) (x : EntryState) → IsEntryFor code h order e i cell → ((c : ℕ) → cell ≡ Some c → begins_list h c ≡ false) → CountsAs h i cell b
    → b ≡ false → i.strong ≡ true → has_flag i.mode x ≡ true
starts_with code h order e i None b x (own_entry own mode strong) begins counts off on_ = absurd (clash on_ strong)
starts_with code h order e i (Some _) b x (cell_entry c right number) begins counts off on_ =
    needs_none i.mode x ((λ j. sym on_ j && (needs_flag i.mode && not (sym (begins c refl) j))) ∙ (sym counts ∙ off))
