-- The join of a slot that was left, by whoever holds its join: the machine's join.
use Rattle.std.proofs.Common.{◌≡◌, ◌≢◌, ◌⊎◌, inl, inr, sym, subst, refl, ◌∙◌, ap, ℕ, ◌<◌, arith, true, false, ◌&&◌, List, ◌∷◌, set, Some}
use Rattle.std.specs.Prelude.{slice_index, slice_set, not}
use mathlib.Core.Option as maybe
use lib.ListN.{get_elem?}
use Rattle.atomic_table.proofs.Lists.{at_set, at_map, set_else}
use Rattle.oss_syntax.specs.declared.access.Mode.TheVariants.{Fold}
use Rattle.oss_syntax.specs.declared.access.Op.{Op}
use Rattle.oss_model.specs.Bodies.{Program, Act, Start, Body, IsHalt}
use Rattle.oss_model.specs.Bodies.Act.{Folded, Over}
use Rattle.oss_model.specs.Context.{right_of}
use Rattle.oss_model.specs.History.{IsMade}
use Rattle.oss_model.specs.Machine.{Task, State, At, HasAccess, HasGiven, IsReady, IsWaitMet}
use Rattle.oss_model.specs.Moves.{act_now, created_now, is_ended, combine, after_giving, joined_cells, CanStep, CanJoin}
use Rattle.oss_model.specs.Order.{IsIn, here}
use Rattle.oss_model.specs.Rights.{Holds}
use Rattle.oss_model.proofs.MoveLemmas.{which_path, in_cons}
use Rattle.oss_model.proofs.TreeLemmas.{at_same, over_stops}
use Rattle.oss_words.specs.Causes.{Due, due_reads, due_writes, due_folds, due_clear, due_done, due_first_reads, due_first_writes, due_first_folds, due_join, got, part, starts_open, starts_clear}
use Rattle.oss_words.specs.declared.entry.EntryState.{EntryState}
use Rattle.oss_words.specs.declared.entry.EntryInfo.{EntryInfo}
use Rattle.oss_words.specs.declared.message.Message.{Message}
use Rattle.oss_words.specs.Members.{Has, head, only}
use Rattle.oss_words.specs.Net.{Place, apart}
use Rattle.oss_words.specs.Rule.{Kept}
use Rattle.oss_words.specs.Sums.{total}
use Rattle.oss_words.specs.Views.{View, Among, among_first, among_later}
use Rattle.oss_words.proofs.CauseLemmas.{and_true, has_right, has_total}
use Rattle.oss_words.proofs.CountLemmas.{held_due, held_new, due_one}
use Rattle.oss_words.proofs.DeliverLemmas.{target_hangs}
use Rattle.oss_words.proofs.KeptLaw.{at_here}
use Rattle.oss_words.proofs.StillLemmas.{grown_same}
use Rattle.oss_words.proofs.SumLemmas.{same_number}
use Rattle.oss_roles.specs.Field.{Field, FieldAt, Parts, Sits, Bears, words_of, owed_by_all, IsJoined, is_joined, IsLeft, IsTaken}
use Rattle.oss_roles.proofs.Going.{Went, with_task}
use Rattle.oss_roles.specs.Roles.{Role, on, AreGiven}
use Rattle.oss_roles.specs.Sights.{Bearing, Sight, Telling}
use Rattle.oss_roles.proofs.CarryLemmas.{join_carries}
use Rattle.oss_roles.proofs.HoldLemmas.{total_two}
use Rattle.oss_roles.proofs.JobLaw.{counts_on, counts_owed, owed_same, words_same}
use Rattle.oss_roles.proofs.MoveLaw.{join_once, join_is_alone}
use Rattle.oss_roles.proofs.OtherLaw.{SameBodies, other_field, still_on, taken_on}
use Rattle.oss_roles.proofs.StateLemmas.{given_on}

-- a join that is due is that of an entry with its value left and X
join_due : (e : ℕ) (c : EntryState) (i : EntryInfo) (t : ℕ) → Due e c i (record { entry = t; flag = 0 }) → (e ≡ t) × (c.folds ≡ true) × (c.left ≡ true)
join_due e c i t (due_reads b y f) = absurd (omega (arith, f))
join_due e c i t (due_writes b y f) = absurd (omega (arith, f))
join_due e c i t (due_folds b y f) = absurd (omega (arith, f))
join_due e c i t (due_clear b y f) = absurd (omega (arith, f))
join_due e c i t (due_done b y f) = absurd (omega (arith, f))
join_due e c i t (due_first_reads b y f) = absurd (omega (arith, f))
join_due e c i t (due_first_writes b y f) = absurd (omega (arith, f))
join_due e c i t (due_first_folds b y f) = absurd (omega (arith, f))
join_due e c i t (due_join b y f) = let k = and_true c.folds c.left b in (y, k.0, k.1)

-- a join that was done has come
join_came : (p : Place) (e : ℕ) (c : EntryState) → c.given ≡ true → c.left ≡ true → Has (record { entry = e; flag = 0 }) (got p e c)
join_came p e c g l =
    let last : Has (record { entry = e; flag = 0 }) (part (c.given && c.left) e 0) = rw (g, l) (head refl refl) in
    let m : Message = record { entry = e; flag = 0 } in
    has_right m (part (c.done && c.headed) e 1) _ (has_right m (part (c.folds && not (starts_open p)) e 2) _ (has_right m (part (c.reads && not (starts_open p)) e 3) _
    (has_right m (part (c.writes && not (starts_open p)) e 4) _ (has_right m (part (c.clear && not (starts_clear p)) e 5) _ last))))

module _ {S J : Type 0} (P : Program S) (main : Start S) (first : List ℕ) (is_job : Telling S J) (n : ℕ) (k : Parts J) (sights : List (Sight S)) (f : Field P main first is_job n k sights)
    (id : ℕ) (v : Sight S) (at : Sits sights id v) (e : ℕ) (held : Has (record { entry = e; flag = 0 }) v.words.held) where
  abbrev message : Message
  message = record { entry = e; flag = 0 }

  at_words : get_elem? (words_of sights) id ≡ maybe.some v.words
  at_words = at_map (λ (x : Sight S). x.words) sights id v at

  pub cause : (e < n) × (f.net.place e ≢ apart) × ((k.states e).folds ≡ true) × ((k.states e).left ≡ true)
  cause =
      let d = held_due n f.net k.states k.infos (words_of sights) f.words.flow.words id v.words at_words message held in
      let j = join_due d.0 (k.states d.0) (k.infos d.0) e d.2 in
      let h = target_hangs n f.net k.states k.infos (words_of sights) f.words.flow.words d.0 d.1 message d.2 in
      (subst (λ (z : ℕ). z < n) j.0 d.1, h, subst (λ (z : ℕ). (k.states z).folds ≡ true) j.0 j.1, subst (λ (z : ℕ). (k.states z).left ≡ true) j.0 j.2)

  -- no other seat holds this join
  sole : (j : ℕ) (x : Sight S) → Sits sights j x → Has message x.words.held → j ≡ id
  sole j x sits has = elim (same_number j id) [
    | inl q ↦ q
    | inr ne ↦
        let count = f.words.flow.words.count (only message) in
        let most = due_one n f.net k.states k.infos (words_of sights) f.words.flow.words message in
        let both = total_two (λ (y : View). total (only message) y.held) (words_of sights) j id x.words v.words ne (at_map (λ (y : Sight S). y.words) sights j x sits) at_words in
        let a = has_total message x.words.held has in
        let b = has_total message v.words.held held in
        absurd (omega (arith, count, most, both, a, b))
  ]

  pub not_given : (k.states e).given ≡ true → ⊥
  not_given g = held_new n f.net k.states k.infos (words_of sights) f.words.flow.words id v.words at_words message held e cause.0 (join_came (f.net.place e) e (k.states e) g cause.3)

  abbrev role_is : (r : Role) × (f.role e ≡ Some r)
  role_is = f.roles.hung e cause.1

  abbrev it : Role
  it = role_is.0

  abbrev left : IsLeft P f.state k.values e it
  left = f.left e it role_is.1 cause.3

  access : HasAccess f.state left.cell it.path
  access = record { task = left.task; at_ = left.at_; mode = Fold left.op; strong = true; right = left.right }

  -- the entry is that of the access
  mode_is : f.net.mode e ≡ Fold left.op
  mode_is =
      let m = f.roles.below_main e it role_is.1 in
      let a : HasAccess f.state left.cell (m.0 ∷ m.1) = record { task = left.task; at_ = subst (λ (z : List ℕ). At f.state z left.task) m.2 left.at_; mode = Fold left.op; strong = true; right = left.right } in
      let x = f.filed.access m.0 left.cell m.1 a in
      let same : x.0.entry ≡ e = f.roles.one x.0.entry e x.0.it it x.0.is role_is.1 (x.0.path ∙ sym m.2) (x.0.site ∙ sym left.site) in
      let told = f.roles.told x.0.entry x.0.it x.0.is x.0.hangs in
      ap (λ (z : ℕ). f.net.mode z) (sym same) ∙ told.0 ∙ x.1

  -- what is joined was left
  pub join_left : (r : Role) → f.role e ≡ Some r → (cell : ℕ) × (r.site ≡ on cell) × (op : Op) × (t : Task S) × At f.state r.path t × (right_of t.body.start.context cell ≡ Holds (Fold op) true)
  join_left r is = let l = f.left e r is cause.3 in (l.cell, l.site, l.op, l.task, l.at_, l.right)

  -- its mode is that of a strong reduction
  pub joined_mode : (r : Role) → f.role e ≡ Some r → (op : Op) × (r.mode ≡ Fold op) × (r.strong ≡ true)
  joined_mode r is =
      let m = f.roles.below_main e it role_is.1 in
      let a : HasAccess f.state left.cell (m.0 ∷ m.1) = record { task = left.task; at_ = subst (λ (z : List ℕ). At f.state z left.task) m.2 left.at_; mode = Fold left.op; strong = true; right = left.right } in
      let x = f.filed.access m.0 left.cell m.1 a in
      let same : x.0.entry ≡ e = f.roles.one x.0.entry e x.0.it it x.0.is role_is.1 (x.0.path ∙ sym m.2) (x.0.site ∙ sym left.site) in
      let one : x.0.it ≡ r = let z : Some x.0.it ≡ Some r = sym x.0.is ∙ ap (λ (y : ℕ). f.role y) same ∙ is in cc in
      (left.op, ap (λ (y : Role). y.mode) (sym one) ∙ x.1, ap (λ (y : Role). y.strong) (sym one) ∙ x.2)

  module _ (made : IsMade P main f.state) (free : (z : ℕ) → Among z v.joined → z ≢ e) where
    not_yet : IsIn left.cell left.task.given → ⊥
    not_yet is = elim (f.given.back e left.cell it role_is.1 left.site (record { task = left.task; at_ = left.at_; given = is })) [
      | inl g ↦ not_given (f.words.given e cause.0 ∙ g)
      | inr j ↦ elim j [
        | is_joined i x sits among ↦
            let same = sole i x sits (f.joined i x sits e among) in
            let one : x ≡ v = maybe.some-injective x v (sym sits ∙ ap (λ (z : ℕ). get_elem? sights z) same ∙ at) in
            free e (subst (λ (z : Sight S). Among e z.joined) one among) refl
      ]
    ]

    pub can_join : CanJoin P f.state it.path left.cell left.op left.task
    can_join =
        record {
          at_ = left.at_;
          right = left.right;
          kept = not_yet;
          ended = left.ended;
          wait = left.wait;
          satisfied = join_carries P main f.state made f.net f.gave k.infos f.role (IsJoined sights) f.roles f.filed f.given it.path left.op left.cell e it role_is.1 cause.1 left.site refl access
              ((f.words.truth e cause.0 cause.1).folds cause.2 left.op mode_is);
        }

    abbrev joined_state : State S
    joined_state = with_task (after_giving left.cell left.task) (joined_cells P left.cell left.op left.task f.state.cells) f.state

    went : Went P main first f.state it.path joined_state (after_giving left.cell left.task)
    went = join_once P main first f.state it.path left.cell left.op left.task f.reached can_join

    bodies : SameBodies P f.state joined_state
    bodies =
        record {
          continues = went.continues;
          forth = λ p u h. forth p u h (which_path p it.path);
          back = λ p u h. back p u h (which_path p it.path);
        }
      where
        forth : (p : List ℕ) (u : Task S) → At f.state p u → (p ≡ it.path) ⊎ (p ≢ it.path) → (y : Task S) × At joined_state p y × (y.body ≡ u.body)
        forth p u h (inl q) =
            let same = at_same f.state it.path left.task u left.at_ (subst (λ (z : List ℕ). At f.state z u) q h) in
            (after_giving left.cell left.task, subst (λ (z : List ℕ). At joined_state z (after_giving left.cell left.task)) (sym q) went.turned.own, ap (λ (z : Task S). z.body) same)
        forth p u h (inr ne) = (u, went.turned.others p ne ∙ h, refl)

        back : (p : List ℕ) (u : Task S) → At joined_state p u → (p ≡ it.path) ⊎ (p ≢ it.path) → (y : Task S) × At f.state p y × (y.body ≡ u.body)
        back p u h (inl q) =
            let same = at_same joined_state it.path (after_giving left.cell left.task) u went.turned.own (subst (λ (z : List ℕ). At joined_state z u) q h) in
            (left.task, subst (λ (z : List ℕ). At f.state z left.task) (sym q) left.at_, ap (λ (z : Task S). z.body) same)
        back p u h (inr ne) = (u, sym (went.turned.others p ne) ∙ h, refl)

    abbrev cells' : List ℕ
    cells' = slice_set k.cells left.cell (combine left.op (slice_index k.cells left.cell) (k.values e))

    cells_are : joined_cells P left.cell left.op left.task f.state.cells ≡ cells'
    cells_are =
        ap (λ (z : ℕ). slice_set f.state.cells left.cell (combine left.op (slice_index f.state.cells left.cell) z)) (sym left.value) ∙ ap (λ (z : List ℕ). slice_set z left.cell (combine left.op (slice_index z left.cell) (k.values e))) f.cells

    -- the fold of the cell, for the held join
    module _ (w : Sight S) (bears : w.bears ≡ v.bears) (makes : w.makes ≡ v.makes) (words : w.words ≡ v.words) (owes : w.owes ≡ v.owes) (joined : w.joined ≡ e ∷ v.joined)
        (ready : w.ready ≡ v.ready) (loaded : w.loaded ≡ v.loaded) (seen : w.seen ≡ v.seen) (still : w.still ≡ v.still) where
      abbrev sights' : List (Sight S)
      sights' = set sights id w

      joined_now : IsJoined sights' e
      joined_now = is_joined id w (at_here sights id v w at) (subst (λ (z : List ℕ). Among e z) (sym joined) (among_first refl))

      joined_on : (z : ℕ) → IsJoined sights z → IsJoined sights' z
      joined_on z (is_joined i x sits among) = elim (same_number i id) [
        | inl q ↦
            let one : x ≡ v = maybe.some-injective x v (sym sits ∙ ap (λ (y : ℕ). get_elem? sights y) q ∙ at) in
            is_joined id w (at_here sights id v w at) (subst (λ (l : List ℕ). Among z l) (sym joined) (among_later (subst (λ (y : Sight S). Among z y.joined) one among)))
        | inr ne ↦ is_joined i x (set_else sights id i w ne ∙ sits) among
      ]

      -- a cell that is given up after the join was given up before, or is this one
      given_back : (p : List ℕ) (d : ℕ) → HasGiven joined_state d p → HasGiven f.state d p ⊎ ((p ≡ it.path) × (d ≡ left.cell))
      given_back p d h = elim (which_path p it.path) [
        | inl q ↦
            let one : h.task ≡ after_giving left.cell left.task = at_same joined_state it.path h.task (after_giving left.cell left.task) (subst (λ (z : List ℕ). At joined_state z h.task) q h.at_) went.turned.own in
            elim (in_cons (subst (λ (z : Task S). IsIn d z.given) one h.given)) [
              | inl same ↦ inr (q, same)
              | inr old ↦ inl (record { task = left.task; at_ = subst (λ (z : List ℕ). At f.state z left.task) (sym q) left.at_; given = old })
            ]
        | inr ne ↦ inl (record { task = h.task; at_ = sym (went.turned.others p ne) ∙ h.at_; given = h.given })
      ]

      given_now : AreGiven P joined_state f.net f.role f.gave (IsJoined sights')
      given_now =
          given_on P f.state joined_state went.continues f.net f.role f.gave f.gave (IsJoined sights) (IsJoined sights') f.given
          (λ z r is g. inl g)
          (λ z d r is site h. elim (given_back r.path d h) [
            | inl old ↦ inl old
            | inr new ↦
                let same : z ≡ e = f.roles.one z e r it is role_is.1 new.0 (site ∙ ap (λ (y : ℕ). on y) new.1 ∙ sym left.site) in
                inr (inr (subst (λ (y : ℕ). IsJoined sights' y) (sym same) joined_now))
          ])
          (λ z g. g)
          (λ z g. inr (joined_on z g))

      pending_alone : (j : ℕ) (y : Sight S) → Sits sights j y → (b : Bearing S) (i : ℕ) → Bears y i b → (cell : ℕ) (op : Op) (z : ℕ) → act_now P b.body ≡ Folded cell op z false → slice_index cells' cell ≡ slice_index k.cells cell
      pending_alone j y sits b i has cell op z act =
          let borne = f.borne j y sits i b has in
          let pending : act_now P borne.task.body ≡ Folded cell op z false = subst (λ (u : Body S). act_now P u ≡ Folded cell op z false) (sym borne.body) act in
          let can : CanStep P f.state b.path borne.task = record {
            at_ = borne.at_;
            goes = λ h. subst IsHalt pending h;
            ready = λ q. subst (λ (u : Body S). IsReady f.state b.path u.start.context) (sym borne.body) borne.ready;
            waits = subst (λ (a : Act S). IsWaitMet P f.state b.path (created_now P borne.task.body) a) (sym pending) tt;
          } in
          let ne : b.path ≢ it.path = λ q.
          let one = at_same f.state it.path left.task borne.task left.at_ (subst (λ (u : List ℕ). At f.state u borne.task) q borne.at_) in
          let over : act_now P borne.task.body ≡ Over = over_stops P borne.task.body.start borne.task.body.found (subst (λ (u : Task S). is_ended P u.body ≡ true) one left.ended) in
          let bad : Folded cell op z false ≡ Over = sym pending ∙ over in cc in
          ap (λ (l : List ℕ). slice_index l cell) (sym cells_are) ∙ join_is_alone P main first f.state b.path it.path borne.task left.task cell left.cell z op left.op f.setting f.reached ne can pending can_join ∙ ap (λ (l : List ℕ). slice_index l cell) f.cells

      pub fold_field : FieldAt P main first is_job n f.net f.gave f.role (record k { states = k.states; counts = k.counts; cells = cells' }) sights'
      fold_field =
          other_field P main first is_job n k sights f id v w at bears makes k.states k.counts cells' joined_state bodies f.gave (record {
            words = subst (λ (z : List View). Kept n f.net f.gave k.states k.infos z) (sym (words_same sights id v w at words)) f.words;
            gave_hangs = f.gave_hangs;
            given = given_now;
            counts = counts_owed joined_state n f.net f.role k.states f.opened (owed_by_all sights) (owed_by_all sights') k.counts (owed_same sights id v w at owes)
                (counts_on P f.state joined_state went.continues n f.net f.role k.states f.opened (owed_by_all sights) k.counts f.counts);
            cells = cells_are;
            reached = went.reached;
            left = λ z. refl;
            grown = λ z. grown_same (k.states z) (k.states z) refl;
            alone = pending_alone;
            loaded = λ a among. subst (λ z. Among a z) loaded among;
            ready = λ t among. f.ready id v at t (subst (λ z. Among t z) ready among);
            seen = λ a among. f.seen id v at a (subst (λ z. Among a z) seen among);
            still = still_on P main first is_job n k sights f id v w at bears makes k.states k.counts cells' joined_state bodies still (λ z. refl) (λ z. refl);
            joined = λ j y sits z among. elim (at_set sights id j w y sits) [
              | inl h ↦ subst (λ (u : Sight S). Has (record { entry = z; flag = 0 }) u.words.held) h.1 (subst (λ (u : View). Has (record { entry = z; flag = 0 }) u.held) (sym words) (mine z (subst (λ (l : List ℕ). Among z l) joined (subst (λ (u : Sight S). Among z u.joined) (sym h.1) among))))
              | inr h ↦ f.joined j y h.1 z among
            ];
            joined_given = λ z among. taken z (subst (λ (l : List ℕ). Among z l) joined among);
          })
        where
          mine : (z : ℕ) → Among z (e ∷ v.joined) → Has (record { entry = z; flag = 0 }) v.words.held
          mine z (among_first q) = subst (λ (u : ℕ). Has (record { entry = u; flag = 0 }) v.words.held) q held
          mine z (among_later a) = f.joined id v at z a

          taken : (z : ℕ) → Among z (e ∷ v.joined) → IsTaken joined_state f.role z
          taken z (among_first q) = subst (λ (u : ℕ). IsTaken joined_state f.role u) q (record { it = it; is = role_is.1; cell = left.cell; site = left.site; given = record { task = after_giving left.cell left.task; at_ = went.turned.own; given = here } })
          taken z (among_later a) = taken_on P main first is_job n k sights f id v w at bears makes k.states k.counts cells' joined_state bodies z (f.joined_given id v at z a)

      -- the same, if the cell and the operator are told by the words of the entry
      pub fold_as : (cell : ℕ) (op : Op) → k.cell_of e ≡ cell → (k.infos e).mode ≡ Fold op → FieldAt P main first is_job n f.net f.gave f.role (record k { cells = slice_set k.cells cell (combine op (slice_index k.cells cell) (k.values e)) }) sights'
      fold_as cell op number mode =
          let same_cell : left.cell ≡ cell = sym (f.numbered e left.cell it role_is.1 cause.1 left.site) ∙ number in
          let same_op : left.op ≡ op = fold_same left.op op (sym mode_is ∙ sym (f.words.modes.mode e cause.1) ∙ mode) in
          subst (λ (z : Op). FieldAt P main first is_job n f.net f.gave f.role (record k { cells = slice_set k.cells cell (combine z (slice_index k.cells cell) (k.values e)) }) sights') same_op
          (subst (λ (z : ℕ). FieldAt P main first is_job n f.net f.gave f.role (record k { cells = slice_set k.cells z (combine left.op (slice_index k.cells z) (k.values e)) }) sights') same_cell fold_field)
        where
          fold_same : (a b : Op) → Fold a ≡ Fold b → a ≡ b
          fold_same a b h = cc
