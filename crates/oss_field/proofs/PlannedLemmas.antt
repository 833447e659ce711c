-- What seats keep of the tasks that they are making, after a step: the plan of a task.
use Rattle.std.proofs.Common.{◌≡◌, ◌≢◌, ◌⊎◌, inl, inr, sym, subst, refl, ◌∙◌, ap, ℕ, suc, ◌<◌, ◌≤◌, ◌+◌, arith, List, ◌∷◌, ◌++◌, length, set, Option, Some, None}
use mathlib.Core.Option as maybe
use lib.ListN.{get_elem?}
use Rattle.atomic_table.proofs.Lists.{at_set}
use Rattle.oss_code.specs.declared.code.CodeParts.{CodeParts}
use Rattle.oss_machine.specs.Frames.{CodeScript}
use Rattle.oss_model.specs.Bodies.{Order}
use Rattle.oss_model.specs.Rights.{Right}
use Rattle.oss_words.specs.declared.entry.EntryInfo.{EntryInfo}
use Rattle.oss_words.specs.declared.entry.EntryState.{EntryState}
use Rattle.oss_words.specs.Net.{Net, apart}
use Rattle.oss_words.specs.Steps.{no_flags}
use Rattle.oss_words.specs.Views.{Among, among_first, among_later}
use Rattle.oss_words.proofs.SeatLemmas.{among_append, among_left, among_right}
use Rattle.oss_roles.specs.Roles.{Role}
use Rattle.oss_field.specs.Known.{Holding, Plan, Unlinked}
use Rattle.oss_field.specs.Making.{new_cells, unlinked_from}
use Rattle.oss_field.specs.Plans.{ArePlanned, IsLoose, IsRoleOf, is_cell, is_own, IsUnlinked, Planned, begins_list, new_rights}
use Rattle.oss_field.proofs.PlanLemmas.{Source, of_task, of_cell, of_old, at_cell, at_own, each_role, in_block, is_apart, own_role, right_held, source, unlinked_is, unlinked_of, with_roles}
use Rattle.oss_field.proofs.ReadLemmas.{cell_of_number}

module _ (code : CodeParts) (n : ℕ) (net : Net) (role : ℕ → Option Role) (states : ℕ → EntryState) (infos : ℕ → EntryInfo) (cell_of : ℕ → ℕ) (seats : List Planned) (a : ArePlanned code n net role states infos cell_of seats)
    (id : ℕ) (s : Planned) (at : get_elem? seats id ≡ maybe.some s) (p : List ℕ) (t : ℕ) (h : Holding) (order : Order CodeScript)
    (hung : (e : ℕ) → net.place e ≢ apart → (r : Role) × (role e ≡ Some r)) (drawn : (e : ℕ) → t ≤ e → e < t + 1 + new_cells code h.body order → role e ≡ None)
    (old_task : (e : ℕ) (r : Role) → role e ≡ Some r → r.task ≢ t) (inside : t + new_cells code h.body order < n) where
  abbrev own : ℕ → Right
  own = new_rights code h.body order

  abbrev m : ℕ
  m = length code.first

  abbrev plan : Plan
  plan = record { task = t; holding = h; order = order }

  abbrev after : Planned
  after = record { plans = plan ∷ s.plans; unlinked = unlinked_from t t (suc (new_cells code h.body order)) ++ s.unlinked }

  abbrev role' : ℕ → Option Role
  role' = with_roles p t (new_rights code h.body order) (begins_list h) (length code.first) role

  unused : role t ≡ None
  unused = drawn t (omega arith) (omega arith)

  -- what had a role has it still
  pub keeps_role : (e : ℕ) (r : Role) → role e ≡ Some r → role' e ≡ Some r
  keeps_role e r is = elim (each_role p t own (begins_list h) m role e) [
    | inl eq ↦ absurd (let z : None ≡ Some r = sym (ap role eq.0 ∙ unused) ∙ is in let bad : ⊥ = cc in bad)
    | inr g ↦ elim g [
      | inl eq ↦ absurd (let b = in_block p t own (begins_list h) m role e eq.0 eq.1 in let z : None ≡ Some r = sym (drawn e b.0 b.1) ∙ is in let bad : ⊥ = cc in bad)
      | inr eq ↦ eq ∙ is
    ]
  ]

  -- a plan that was there is that of another task
  other_task : (j : ℕ) (u : Planned) → get_elem? seats j ≡ maybe.some u → (y : Plan) → Among y u.plans → y.task ≢ t
  other_task j u sits y among q = let o = a.own j u sits y among in let z : None ≡ Some o.0 = sym unused ∙ ap role (sym q) ∙ o.1 in let bad : ⊥ = cc in bad

  -- the roles of another task are old ones
  old_role : (e : ℕ) (r : Role) → r.task ≢ t → Source p t own (begins_list h) m role e r → role e ≡ Some r
  old_role e r ne (of_old old same) = old
  old_role e r ne (of_task q it) = absurd (ne (ap (λ (z : Role). z.task) it))
  old_role e r ne (of_cell f) = absurd (ne (ap (λ (z : Role). z.task) f.it))

  pub role_inside : (e : ℕ) (r : Role) → Source p t own (begins_list h) m role e r → e < n
  role_inside e r (of_old old same) = a.inside e r old
  role_inside e r (of_task q it) = omega (arith, q, inside)
  role_inside e r (of_cell f) = let b = (in_block p t own (begins_list h) m role e r f).1 in omega (arith, b, inside)

  still_blank : (e : ℕ) → role' e ≡ None → role e ≡ None
  still_blank e none = elim (each_role p t own (begins_list h) m role e) [
    | inl eq ↦ absurd (let z : None ≡ Some (own_role p t) = sym none ∙ eq.1 in let bad : ⊥ = cc in bad)
    | inr g ↦ elim g [
      | inl eq ↦ absurd (let z : None ≡ Some eq.0 = sym none ∙ eq.2 in let bad : ⊥ = cc in bad)
      | inr eq ↦ sym eq ∙ none
    ]
  ]

  -- of the new task
  own_roles : (e : ℕ) (r : Role) → r.task ≡ t → Source p t own (begins_list h) m role e r → IsRoleOf code plan e r
  own_roles e r task (of_old old same) = absurd (old_task e r old task)
  own_roles e r task (of_task q it) = is_own q (ap (λ (y : Role). y.site) it) (ap (λ (y : Role). y.mode) it) (ap (λ (y : Role). y.strong) it) (ap (λ (y : Role). y.counts) it)
  own_roles e r task (of_cell f) = is_cell f.cell f.mode f.strong f.right f.number (ap (λ (y : Role). y.site) f.it) (ap (λ (y : Role). y.mode) f.it) (ap (λ (y : Role). y.strong) f.it) (ap (λ (y : Role). y.counts) f.it)

  among_block : (e : ℕ) → t ≤ e → e < t + 1 + new_cells code h.body order → IsUnlinked e after.unlinked
  among_block e low high = record {
    it = record { task = t; entry = e; state = no_flags; info = None; cell = None };
    among = among_left (record { task = t; entry = e; state = no_flags; info = None; cell = None }) (unlinked_from t t (suc (new_cells code h.body order))) s.unlinked
        (unlinked_is t t (suc (new_cells code h.body order)) e low (omega (arith, high)));
    entry = refl;
  }

  own_rest : (e : ℕ) (r : Role) → r.task ≡ t → Source p t own (begins_list h) m role e r → IsUnlinked e after.unlinked
  own_rest e r task (of_old old same) = absurd (old_task e r old task)
  own_rest e r task (of_task q it) = among_block e (omega (arith, q)) (omega (arith, q))
  own_rest e r task (of_cell f) = let b = in_block p t own (begins_list h) m role e r f in among_block e b.0 b.1

  -- each entry of the block has a role of the task
  block_role : (e : ℕ) → t ≤ e → e < t + 1 + new_cells code h.body order → (r : Role) × (role' e ≡ Some r) × (r.task ≡ t)
  block_role e low high = elim (same_or t e low) [
    | inl q ↦ (own_role p t, ap role' (sym q) ∙ at_own p t own (begins_list h) m role, refl)
    | inr l ↦
        let c = cell_of_number t own m e l (omega (arith, high)) in
        let right = right_held (own c.cell) c.has in
        let r = at_cell p t own (begins_list h) m role c.cell c.low right.0 right.1 right.2 in
        (_, ap role' c.number ∙ r, refl)
  ]
    where
      same_or : (c d : ℕ) → c ≤ d → (c ≡ d) ⊎ (c < d)
      same_or c d l = grind arith

  still_loose : (plans : List Plan) → ((y : Plan) → Among y s.plans → Among y plans) → (z : Unlinked) → IsLoose net role states infos cell_of s.plans z → IsLoose net role' states infos cell_of plans z
  still_loose plans more z l = record { plan = l.plan; among = more l.plan l.among; task = l.task; it = l.it; is = keeps_role z.entry l.it l.is; of_task = l.of_task; loose = l.loose; state = l.state; info = l.info; cell = l.cell }

  other_loose : (u : Planned) (z : Unlinked) → IsLoose net role states infos cell_of u.plans z → IsLoose net role' states infos cell_of u.plans z
  other_loose u z l = record { plan = l.plan; among = l.among; task = l.task; it = l.it; is = keeps_role z.entry l.it l.is; of_task = l.of_task; loose = l.loose; state = l.state; info = l.info; cell = l.cell }

  new_loose : (z : Unlinked) → Among z (unlinked_from t t (suc (new_cells code h.body order))) → IsLoose net role' states infos cell_of after.plans z
  new_loose z among =
      let u = unlinked_of t t (suc (new_cells code h.body order)) z among in
      let high = u.2 in
      let r = block_role z.entry u.1 (omega (arith, high)) in
      let none = drawn z.entry u.1 (omega (arith, high)) in
      record {
        plan = plan;
        among = among_first refl;
        task = sym u.0;
        it = r.0;
        is = r.1;
        of_task = r.2 ∙ sym u.0;
        loose = is_apart (net.place z.entry) (λ ne. let there = hung z.entry ne in let y : None ≡ Some there.0 = sym none ∙ there.1 in cc);
        state = a.blank z.entry none ∙ sym u.3;
        info = λ i q. absurd (let y : None ≡ Some i = sym u.4 ∙ q in let bad : ⊥ = cc in bad);
        cell = λ c q. absurd (let y : None ≡ Some c = sym u.5 ∙ q in let bad : ⊥ = cc in bad);
      }

  -- the plan of one seat, and those of all
  own_at : (u : Planned) → after ≡ u → (y : Plan) → Among y u.plans → Among y after.plans
  own_at u q y among = subst (λ (z : Planned). Among y z.plans) (sym q) among

  pub planned_now : ArePlanned code n net role' states infos cell_of (set seats id after)
  planned_now = record {
    inside = λ e r is. role_inside e r (source p t own (begins_list h) m role e r is);
    blank = λ e none. a.blank e (still_blank e none);
    own = λ j u sits y among. elim (at_set seats id j after u sits) [
      | inl eq ↦ elim (own_at u eq.1 y among) [
        | among_first q ↦ (own_role p t, ap (λ (z : Plan). role' z.task) (sym q) ∙ at_own p t own (begins_list h) m role)
        | among_later b ↦ let o = a.own id s at y b in (o.0, keeps_role y.task o.0 o.1)
      ]
      | inr eq ↦ let o = a.own j u eq.1 y among in (o.0, keeps_role y.task o.0 o.1)
    ];
    roles = λ j u sits y among e r is task. elim (at_set seats id j after u sits) [
      | inl eq ↦ elim (own_at u eq.1 y among) [
        | among_first q ↦ subst (λ (z : Plan). IsRoleOf code z e r) q (own_roles e r (task ∙ ap (λ (z : Plan). z.task) (sym q)) (source p t own (begins_list h) m role e r is))
        | among_later b ↦ a.roles id s at y b e r (old_role e r (λ q. other_task id s at y b (sym task ∙ q)) (source p t own (begins_list h) m role e r is)) task
      ]
      | inr eq ↦ a.roles j u eq.1 y among e r (old_role e r (λ q. other_task j u eq.1 y among (sym task ∙ q)) (source p t own (begins_list h) m role e r is)) task
    ];
    rest = λ j u sits y among e r is task. elim (at_set seats id j after u sits) [
      | inl eq ↦ subst (λ (z : Planned). (net.place e ≢ apart) ⊎ IsUnlinked e z.unlinked) eq.1 (elim (own_at u eq.1 y among) [
        | among_first q ↦ inr (own_rest e r (task ∙ ap (λ (z : Plan). z.task) (sym q)) (source p t own (begins_list h) m role e r is))
        | among_later b ↦ elim (a.rest id s at y b e r (old_role e r (λ q. other_task id s at y b (sym task ∙ q)) (source p t own (begins_list h) m role e r is)) task) [
          | inl ne ↦ inl ne
          | inr k ↦ inr (record { it = k.it; among = among_right k.it (unlinked_from t t (suc (new_cells code h.body order))) s.unlinked k.among; entry = k.entry })
        ]
      ])
      | inr eq ↦ a.rest j u eq.1 y among e r (old_role e r (λ q. other_task j u eq.1 y among (sym task ∙ q)) (source p t own (begins_list h) m role e r is)) task
    ];
    one = λ i j u w sits seats' y z y_in z_in same. elim (at_set seats id i after u sits) [
      | inl eq ↦ elim (at_set seats id j after w seats') [
        | inl g ↦ eq.0 ∙ sym g.0
        | inr g ↦ eq.0 ∙ (elim (own_at u eq.1 y y_in) [
          | among_first q ↦ absurd (other_task j w g.1 z z_in (sym same ∙ ap (λ (k : Plan). k.task) (sym q)))
          | among_later b ↦ a.one id j s w at g.1 y z b z_in same
        ])
      ]
      | inr eq ↦ elim (at_set seats id j after w seats') [
        | inl g ↦ (elim (own_at w g.1 z z_in) [
          | among_first q ↦ absurd (other_task i u eq.1 y y_in (same ∙ ap (λ (k : Plan). k.task) (sym q)))
          | among_later b ↦ a.one i id u s eq.1 at y z y_in b same
        ]) ∙ sym g.0
        | inr g ↦ a.one i j u w eq.1 g.1 y z y_in z_in same
      ]
    ];
    loose = λ j u sits z among. elim (at_set seats id j after u sits) [
      | inl eq ↦ subst (λ (k : Planned). IsLoose net role' states infos cell_of k.plans z) eq.1
          (elim (among_append z (unlinked_from t t (suc (new_cells code h.body order))) s.unlinked (subst (λ (k : Planned). Among z k.unlinked) (sym eq.1) among)) [
            | inl new ↦ new_loose z new
            | inr old ↦ still_loose after.plans (λ y b. among_later b) z (a.loose id s at z old)
          ])
      | inr eq ↦ other_loose u z (a.loose j u eq.1 z among)
    ];
  }
