-- What seats keep of entries that are not linked, after a step that writes a word of one, and after one that links it.
use Rattle.std.proofs.Common.{◌≡◌, ◌≢◌, ◌⊎◌, inl, inr, sym, subst, refl, ◌∙◌, ap, ℕ, Bool, true, false, ◌==◌, List, [], ◌∷◌, set, Option, Some, None}
use Rattle.std.specs.Prelude.{cond}
use mathlib.Core.Option as maybe
use lib.ListN.{get_elem?}
use Rattle.std.proofs.lemmas.Bool.Decides.{eqb_tells}
use Rattle.atomic_table.proofs.Lists.{at_set}
use Rattle.oss_code.specs.declared.code.CodeParts.{CodeParts}
use Rattle.oss_words.specs.declared.entry.EntryInfo.{EntryInfo}
use Rattle.oss_words.specs.declared.entry.EntryState.{EntryState}
use Rattle.oss_words.specs.Net.{Net, apart}
use Rattle.oss_words.specs.Views.{Among, among_first, among_later}
use Rattle.oss_words.proofs.SeatLemmas.{among_none}
use Rattle.oss_roles.specs.Roles.{Role}
use Rattle.oss_field.specs.Known.{Plan, Unlinked}
use Rattle.oss_field.specs.Linking.{refill, unlinked_beside}
use Rattle.oss_field.specs.Plans.{ArePlanned, IsLoose, IsUnlinked, Planned}

-- a member of the changed list was one before, or is the changed one
pub refill_is : (up : Unlinked → Unlinked) (e : ℕ) (l : List Unlinked) (z : Unlinked) → Among z (refill up e l) → (Among z l × (z.entry ≢ e)) ⊎ ((y : Unlinked) × Among y l × (y.entry ≡ e) × (up y ≡ z))
refill_is up e [] z a = among_none z a
refill_is up e (x ∷ l) z a = go (x.entry == e) (eqb_tells x.entry e) (λ b. refill_is up e l z b) a
  where
    wider : (Among z l × (z.entry ≢ e)) ⊎ ((y : Unlinked) × Among y l × (y.entry ≡ e) × (up y ≡ z)) → (Among z (x ∷ l) × (z.entry ≢ e)) ⊎ ((y : Unlinked) × Among y (x ∷ l) × (y.entry ≡ e) × (up y ≡ z))
    wider (inl r) = inl (among_later r.0, r.1)
    wider (inr r) = inr (r.0, among_later r.1, r.2, r.3)

    go : (b : Bool) → ((b ≡ true) × (x.entry ≡ e)) ⊎ ((b ≡ false) × (x.entry ≢ e)) → (Among z (refill up e l) → (Among z l × (z.entry ≢ e)) ⊎ ((y : Unlinked) × Among y l × (y.entry ≡ e) × (up y ≡ z)))
        → Among z (cond b (up x) x ∷ refill up e l) → (Among z (x ∷ l) × (z.entry ≢ e)) ⊎ ((y : Unlinked) × Among y (x ∷ l) × (y.entry ≡ e) × (up y ≡ z))
    go true (inl q) again a = elim a [ among_first p ↦ inr (x, among_first refl, q.1, p) | among_later b ↦ wider (again b) ]
    go true (inr q) again a = absurd (let y : true ≡ false = q.0 in let bad : ⊥ = cc in bad)
    go false (inl q) again a = absurd (let y : false ≡ true = q.0 in let bad : ⊥ = cc in bad)
    go false (inr q) again a = elim a [ among_first p ↦ inl (among_first p, subst (λ (u : Unlinked). u.entry ≢ e) p q.1) | among_later b ↦ wider (again b) ]

-- a member of the list is in the changed one, changed or not
pub refill_kept : (up : Unlinked → Unlinked) (e : ℕ) (l : List Unlinked) (z : Unlinked) → Among z l → (Among z (refill up e l) × (z.entry ≢ e)) ⊎ (Among (up z) (refill up e l) × (z.entry ≡ e))
refill_kept up e [] z a = among_none z a
refill_kept up e (x ∷ l) z a = go (x.entry == e) (eqb_tells x.entry e) (λ b. refill_kept up e l z b) a
  where
    wider : (b : Bool) → (Among z (refill up e l) × (z.entry ≢ e)) ⊎ (Among (up z) (refill up e l) × (z.entry ≡ e)) → (Among z (cond b (up x) x ∷ refill up e l) × (z.entry ≢ e)) ⊎ (Among (up z) (cond b (up x) x ∷ refill up e l) × (z.entry ≡ e))
    wider b (inl r) = inl (among_later r.0, r.1)
    wider b (inr r) = inr (among_later r.0, r.1)

    go : (b : Bool) → ((b ≡ true) × (x.entry ≡ e)) ⊎ ((b ≡ false) × (x.entry ≢ e)) → (Among z l → (Among z (refill up e l) × (z.entry ≢ e)) ⊎ (Among (up z) (refill up e l) × (z.entry ≡ e)))
        → Among z (x ∷ l) → (Among z (cond b (up x) x ∷ refill up e l) × (z.entry ≢ e)) ⊎ (Among (up z) (cond b (up x) x ∷ refill up e l) × (z.entry ≡ e))
    go true (inl q) again a = elim a [ among_first p ↦ inr (among_first (ap up p), ap (λ (u : Unlinked). u.entry) (sym p) ∙ q.1) | among_later b ↦ wider true (again b) ]
    go true (inr q) again a = absurd (let y : true ≡ false = q.0 in let bad : ⊥ = cc in bad)
    go false (inl q) again a = absurd (let y : false ≡ true = q.0 in let bad : ⊥ = cc in bad)
    go false (inr q) again a = elim a [ among_first p ↦ inl (among_first p, subst (λ (u : Unlinked). u.entry ≢ e) p q.1) | among_later b ↦ wider false (again b) ]

-- without the entry
pub beside_is : (e : ℕ) (l : List Unlinked) (z : Unlinked) → Among z (unlinked_beside e l) → Among z l × (z.entry ≢ e)
beside_is e [] z a = among_none z a
beside_is e (x ∷ l) z a = go (x.entry == e) (eqb_tells x.entry e) (λ b. beside_is e l z b) a
  where
    go : (b : Bool) → ((b ≡ true) × (x.entry ≡ e)) ⊎ ((b ≡ false) × (x.entry ≢ e)) → (Among z (unlinked_beside e l) → Among z l × (z.entry ≢ e)) → Among z (cond b (unlinked_beside e l) (x ∷ unlinked_beside e l)) → Among z (x ∷ l) × (z.entry ≢ e)
    go true q again a = let r = again a in (among_later r.0, r.1)
    go false (inl q) again a = absurd (let y : false ≡ true = q.0 in let bad : ⊥ = cc in bad)
    go false (inr q) again a = elim a [ among_first p ↦ (among_first p, subst (λ (u : Unlinked). u.entry ≢ e) p q.1) | among_later b ↦ let r = again b in (among_later r.0, r.1) ]

pub beside_kept : (e : ℕ) (l : List Unlinked) (z : Unlinked) → Among z l → z.entry ≢ e → Among z (unlinked_beside e l)
beside_kept e [] z a ne = among_none z a
beside_kept e (x ∷ l) z a ne = go (x.entry == e) (eqb_tells x.entry e) (λ b. beside_kept e l z b ne) a
  where
    go : (b : Bool) → ((b ≡ true) × (x.entry ≡ e)) ⊎ ((b ≡ false) × (x.entry ≢ e)) → (Among z l → Among z (unlinked_beside e l)) → Among z (x ∷ l) → Among z (cond b (unlinked_beside e l) (x ∷ unlinked_beside e l))
    go true (inl q) again a = elim a [ among_first p ↦ absurd (ne (ap (λ (u : Unlinked). u.entry) (sym p) ∙ q.1)) | among_later b ↦ again b ]
    go true (inr q) again a = absurd (let y : true ≡ false = q.0 in let bad : ⊥ = cc in bad)
    go false q again a = elim a [ among_first p ↦ among_first p | among_later b ↦ among_later (again b) ]

-- a change before it makes no difference
pub beside_refill : (up : Unlinked → Unlinked) (e : ℕ) → ((z : Unlinked) → (up z).entry ≡ z.entry) → (l : List Unlinked) → unlinked_beside e (refill up e l) ≡ unlinked_beside e l
beside_refill up e same [] = refl
beside_refill up e same (x ∷ l) = go (x.entry == e) refl (beside_refill up e same l)
  where
    go : (b : Bool) → (x.entry == e) ≡ b → unlinked_beside e (refill up e l) ≡ unlinked_beside e l → unlinked_beside e (cond b (up x) x ∷ refill up e l) ≡ cond b (unlinked_beside e l) (x ∷ unlinked_beside e l)
    go true q again = ap (λ (n : ℕ). cond (n == e) (unlinked_beside e (refill up e l)) (up x ∷ unlinked_beside e (refill up e l))) (same x) ∙ (ap (λ (b : Bool). cond b (unlinked_beside e (refill up e l)) (up x ∷ unlinked_beside e (refill up e l))) q ∙ again)
    go false q again = ap (λ (b : Bool). cond b (unlinked_beside e (refill up e l)) (x ∷ unlinked_beside e (refill up e l))) q ∙ ap (λ (m : List Unlinked). x ∷ m) again

module _ (code : CodeParts) (n : ℕ) (net : Net) (role : ℕ → Option Role) (states : ℕ → EntryState) (infos : ℕ → EntryInfo) (cell_of : ℕ → ℕ) (seats : List Planned) (a : ArePlanned code n net role states infos cell_of seats)
    (id : ℕ) (s : Planned) (at : get_elem? seats id ≡ maybe.some s) (y : Unlinked) (among : Among y s.unlinked) where
  abbrev own : IsLoose net role states infos cell_of s.plans y
  own = a.loose id s at y among

  -- no other seat keeps the entry
  pub elsewhere : (j : ℕ) (u : Planned) → get_elem? seats j ≡ maybe.some u → j ≢ id → (z : Unlinked) → Among z u.unlinked → z.entry ≢ y.entry
  elsewhere j u sits ne z b q =
      let w = a.loose j u sits z b in
      let same : Some w.it ≡ Some own.it = sym w.is ∙ (ap role q ∙ own.is) in
      let one : w.it ≡ own.it = role_same w.it own.it same in
      ne (a.one j id u s sits at w.plan own.plan w.among own.among (w.task ∙ (sym w.of_task ∙ (ap (λ (r : Role). r.task) one ∙ (own.of_task ∙ sym own.task)))))
    where
      role_same : (p q : Role) → Some p ≡ Some q → p ≡ q
      role_same p q h = cc

  -- a word of the entry was written
  module _ (states' : ℕ → EntryState) (infos' : ℕ → EntryInfo) (cell_of' : ℕ → ℕ) (up : Unlinked → Unlinked) (other_states : (j : ℕ) → j ≢ y.entry → states' j ≡ states j) (other_infos : (j : ℕ) → j ≢ y.entry → infos' j ≡ infos j) (other_cells : (j : ℕ) → j ≢ y.entry → cell_of' j ≡ cell_of j)
      (same_entry : (z : Unlinked) → (up z).entry ≡ z.entry) (now : (z : Unlinked) → z.entry ≡ y.entry → IsLoose net role states infos cell_of s.plans z → IsLoose net role states' infos' cell_of' s.plans (up z)) where
    abbrev pub after : Planned
    after = record { plans = s.plans; unlinked = refill up y.entry s.unlinked }

    still : (plans : List Plan) (z : Unlinked) → z.entry ≢ y.entry → IsLoose net role states infos cell_of plans z → IsLoose net role states' infos' cell_of' plans z
    still plans z ne l = record {
      plan = l.plan;
      among = l.among;
      task = l.task;
      it = l.it;
      is = l.is;
      of_task = l.of_task;
      loose = l.loose;
      state = other_states z.entry ne ∙ l.state;
      info = λ i q. other_infos z.entry ne ∙ l.info i q;
      cell = λ c q. other_cells z.entry ne ∙ l.cell c q;
    }

    before : (j : ℕ) (u : Planned) → get_elem? (set seats id (record { plans = s.plans; unlinked = refill up y.entry s.unlinked })) j ≡ maybe.some u
        → (w : Planned) × (get_elem? seats j ≡ maybe.some w) × (u.plans ≡ w.plans) × ((e : ℕ) → IsUnlinked e w.unlinked → IsUnlinked e u.unlinked)
    before j u sits = elim (at_set seats id j after u sits) [
      | inl h ↦ (
        s,
        ap (λ (z : ℕ). get_elem? seats z) h.0 ∙ at,
        ap (λ (z : Planned). z.plans) (sym h.1),
        (λ e k. subst (λ (z : Planned). IsUnlinked e z.unlinked) h.1 (elim (refill_kept up y.entry s.unlinked k.it k.among) [
          | inl r ↦ record { it = k.it; among = r.0; entry = k.entry }
          | inr r ↦ record { it = up k.it; among = r.0; entry = same_entry k.it ∙ k.entry }
        ])),
      )
      | inr h ↦ (u, h.1, refl, (λ e k. k))
    ]

    pub planned_filled : ArePlanned code n net role states' infos' cell_of' (set seats id (record { plans = s.plans; unlinked = refill up y.entry s.unlinked }))
    planned_filled = record {
      inside = a.inside;
      blank = λ e none. other_states e (λ q. let z : None ≡ Some own.it = sym none ∙ (ap role q ∙ own.is) in let bad : ⊥ = cc in bad) ∙ a.blank e none;
      own = λ j u sits p b. let w = before j u sits in a.own j w.0 w.1 p (subst (λ (l : List Plan). Among p l) w.2 b);
      roles = λ j u sits p b. let w = before j u sits in a.roles j w.0 w.1 p (subst (λ (l : List Plan). Among p l) w.2 b);
      rest = λ j u sits p b e r is task. let w = before j u sits in elim (a.rest j w.0 w.1 p (subst (λ (l : List Plan). Among p l) w.2 b) e r is task) [ inl ne ↦ inl ne | inr k ↦ inr (w.3 e k) ];
      one = λ i j u x su sx p z b d same.
          let w = before i u su in
          let o = before j x sx in
          a.one i j w.0 o.0 w.1 o.1 p z (subst (λ (l : List Plan). Among p l) w.2 b) (subst (λ (l : List Plan). Among z l) o.2 d) same;
      loose = λ j u sits z b. elim (at_set seats id j after u sits) [
        | inl h ↦ subst (λ (x : Planned). IsLoose net role states' infos' cell_of' x.plans z) h.1 (elim (refill_is up y.entry s.unlinked z (subst (λ (x : Planned). Among z x.unlinked) (sym h.1) b)) [
          | inl r ↦ still s.plans z r.1 (a.loose id s at z r.0)
          | inr r ↦ subst (λ (x : Unlinked). IsLoose net role states' infos' cell_of' s.plans x) r.3 (now r.0 r.2 (a.loose id s at r.0 r.1))
        ])
        | inr h ↦ still u.plans z (elsewhere j u h.1 h.0 z b) (a.loose j u h.1 z b)
      ];
    }

  -- the entry was linked
  module _ (net' : Net) (states' : ℕ → EntryState) (other_places : (j : ℕ) → j ≢ y.entry → net'.place j ≡ net.place j) (hangs : net'.place y.entry ≢ apart) (loose_states : (j : ℕ) → net.place j ≡ apart → j ≢ y.entry → states' j ≡ states j)
      (hung : (j : ℕ) → role j ≡ None → net.place j ≡ apart) where
    abbrev pub left : Planned
    left = record { plans = s.plans; unlinked = unlinked_beside y.entry s.unlinked }

    keeps_loose : (plans : List Plan) (z : Unlinked) → z.entry ≢ y.entry → IsLoose net role states infos cell_of plans z → IsLoose net' role states' infos cell_of plans z
    keeps_loose plans z ne l = record {
      plan = l.plan;
      among = l.among;
      task = l.task;
      it = l.it;
      is = l.is;
      of_task = l.of_task;
      loose = other_places z.entry ne ∙ l.loose;
      state = loose_states z.entry l.loose ne ∙ l.state;
      info = l.info;
      cell = l.cell;
    }

    same_place : (e : ℕ) → (net'.place e ≢ apart) ⊎ (e ≢ y.entry)
    same_place e = elim (eqb_tells e y.entry) [ inl h ↦ inl (subst (λ (z : ℕ). net'.place z ≢ apart) (sym h.1) hangs) | inr h ↦ inr h.1 ]

    prior : (j : ℕ) (u : Planned) → get_elem? (set seats id (record { plans = s.plans; unlinked = unlinked_beside y.entry s.unlinked })) j ≡ maybe.some u
        → (w : Planned) × (get_elem? seats j ≡ maybe.some w) × (u.plans ≡ w.plans) × ((e : ℕ) → e ≢ y.entry → IsUnlinked e w.unlinked → IsUnlinked e u.unlinked)
    prior j u sits = elim (at_set seats id j left u sits) [
      | inl h ↦ (
        s,
        ap (λ (z : ℕ). get_elem? seats z) h.0 ∙ at,
        ap (λ (z : Planned). z.plans) (sym h.1),
        (λ e ne k. subst (λ (z : Planned). IsUnlinked e z.unlinked) h.1
            (record { it = k.it; among = beside_kept y.entry s.unlinked k.it k.among (λ q. ne (sym k.entry ∙ q)); entry = k.entry })),
      )
      | inr h ↦ (u, h.1, refl, (λ e ne k. k))
    ]

    pub planned_linked : ArePlanned code n net' role states' infos cell_of (set seats id (record { plans = s.plans; unlinked = unlinked_beside y.entry s.unlinked }))
    planned_linked = record {
      inside = a.inside;
      blank = λ e none. loose_states e (hung e none) (λ q. let z : None ≡ Some own.it = sym none ∙ (ap role q ∙ own.is) in let bad : ⊥ = cc in bad) ∙ a.blank e none;
      own = λ j u sits p b. let w = prior j u sits in a.own j w.0 w.1 p (subst (λ (l : List Plan). Among p l) w.2 b);
      roles = λ j u sits p b. let w = prior j u sits in a.roles j w.0 w.1 p (subst (λ (l : List Plan). Among p l) w.2 b);
      rest = λ j u sits p b e r is task.
          let w = prior j u sits in
          elim (same_place e) [
            | inl ne ↦ inl ne
            | inr ne ↦ elim (a.rest j w.0 w.1 p (subst (λ (l : List Plan). Among p l) w.2 b) e r is task) [
              | inl h ↦ inl (λ q. h (sym (other_places e ne) ∙ q))
              | inr k ↦ inr (w.3 e ne k)
            ]
          ];
      one = λ i j u x su sx p z b d same.
          let w = prior i u su in
          let o = prior j x sx in
          a.one i j w.0 o.0 w.1 o.1 p z (subst (λ (l : List Plan). Among p l) w.2 b) (subst (λ (l : List Plan). Among z l) o.2 d) same;
      loose = λ j u sits z b. elim (at_set seats id j left u sits) [
        | inl h ↦
            let r = beside_is y.entry s.unlinked z (subst (λ (x : Planned). Among z x.unlinked) (sym h.1) b) in
            subst (λ (x : Planned). IsLoose net' role states' infos cell_of x.plans z) h.1 (keeps_loose s.plans z r.1 (a.loose id s at z r.0))
        | inr h ↦ keeps_loose u.plans z (elsewhere j u h.1 h.0 z b) (a.loose j u h.1 z b)
      ];
    }
