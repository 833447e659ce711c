-- What the calls of a core need of what it keeps.
use Rattle.std.proofs.Common.{◌≡◌, ℕ, suc, ◌<◌, ◌≤◌, ◌⊎◌, inl, inr, refl, sym, ap, ◌∙◌, arith, List, [], ◌∷◌, length, reverse, Bool, true, false, Option, Some, None}
use Rattle.std.specs.Prelude.{slice_get, nat_le}
use Rattle.std.proofs.lemmas.Bool.Decides.{nat_tests}
use Rattle.std.proofs.lemmas.List.{length-reverse}
use Rattle.std.proofs.lemmas.Option.{slice_get_past}
use Rattle.oss_syntax.specs.declared.access.Access.{Access}
use Rattle.oss_syntax.specs.declared.access.Mode.{Mode}
use Rattle.oss_syntax.specs.declared.access.Mode.TheVariants.{Fold}
use Rattle.oss_syntax.specs.declared.access.Op.{Op}
use Rattle.oss_syntax.specs.declared.fault.FaultKind.TheVariants as fault
use Rattle.oss_judge.specs.Joined as joined
use Rattle.oss_judge.specs.Joined.{held_right}
use Rattle.oss_model.specs.Order.{IsIn, here, there, written}
use Rattle.oss_model.specs.Rights.{Right, NoRight, Released, Holds, in_access, right_from}
use Rattle.oss_model.specs.Context.{Context, create_fault, right_of}
use Rattle.oss_model.specs.Bodies.{Body as Meant, Order, Start, child_start, stack_from, stage_act, stage_created, act_of}
use Rattle.oss_model.specs.Bodies.Act.{Created}
use Rattle.oss_model.specs.Machine.{State}
use Rattle.oss_model.specs.Moves.{act_now, created_now, new_task}
use Rattle.oss_model.proofs.StageLemmas.{creating}
use Rattle.oss_ranges.specs.Cells.{value_at}
use Rattle.oss_code.specs.declared.code.CodeParts.{CodeParts}
use Rattle.oss_machine.specs.Asks.{meant_order}
use Rattle.oss_machine.specs.Frames.{CodeScript}
use Rattle.oss_machine.specs.Machines.{asks}
use Rattle.oss_body.specs.declared.act.Act.{Act}
use Rattle.oss_body.specs.declared.act.Act.TheVariants as acts
use Rattle.oss_body.specs.declared.body.Body.{Body}
use Rattle.oss_body.specs.Acts.{act_seen, creates}
use Rattle.oss_body.specs.Relation.{IsBody, is_over, pending_of}
use Rattle.oss_tree.specs.Tasks.{MayCreate}
use Rattle.oss_deps.specs.declared.opened.Open.{Open}
use Rattle.oss_deps.specs.Opens.{access_at, mode_in, mode_of_access, HasOpened, IsFolding, IsKnown, IsRising}
use Rattle.oss_deps.specs.Seen.{CanOpen}
use Rattle.oss_kept_tasks.specs.declared.held.Held.{Held}
use Rattle.oss_kept_tasks.specs.declared.held.Owed.{Owed}
use Rattle.oss_kept_tasks.specs.declared.held.Owed.TheVariants as owed
use Rattle.oss_core.specs.Standing.{AreRightsOf}
use Rattle.oss_core.specs.Kept.{Kept, IsCore, own}
use Rattle.oss_core.proofs.EntryLemmas.{bools, bounds, mode_is, named_at, rising_behind, rising_rest}
use Rattle.oss_core.proofs.FullOpenLemmas.{can_open, path_depth, shallow, stack_passed, stage_depth}
use Rattle.oss_core.proofs.KeepLemmas.{some_is}
use Rattle.oss_core.proofs.TreeFacts.{at_number, core_made, core_started, kept_within}
use Rattle.oss_core.proofs.ChildFacts.{children_few}
use Rattle.oss_core.proofs.BodyFacts.{join_right, owed_holds, owing}
use Rattle.oss_core.proofs.ExactLemmas.{access_of, body_of}

-- the right that an access gives
abbrev right_by : Option Access → Right
right_by None = NoRight
right_by (Some a) = Holds a.mode a.strong

-- a cell that no access names
none_right : (c : ℕ) (rest : List Access) → ((b : Access) → IsIn b rest → in_access b c ≡ true → ⊥) → right_from false rest c ≡ NoRight
none_right c [] f = refl
none_right c (b ∷ rest) f = go (bools (in_access b c)) (none_right c rest (λ x i. f x (there i)))
  where
    go : (in_access b c ≡ true) ⊎ (in_access b c ≡ false) → right_from false rest c ≡ NoRight → right_from false (b ∷ rest) c ≡ NoRight
    go (inl t) h = absurd (f b here t)
    go (inr t) h = rw t h

-- accesses that rise give the right of the one that names the cell
rights_from : (accesses : List Access) → IsRising accesses → (c : ℕ) → right_from false accesses c ≡ right_by (access_at accesses c)
rights_from [] r c = refl
rights_from (a ∷ rest) r c = go (bools (in_access a c)) (rights_from rest (rising_rest a rest r) c)
  where
    none : in_access a c ≡ true → right_from false rest c ≡ NoRight
    none t = none_right c rest (λ b i u. let l = rising_behind a rest r b i in let m = bounds a c t in let n = bounds b c u in absurd (omega (arith, l, m.1, n.0)))

    go : (in_access a c ≡ true) ⊎ (in_access a c ≡ false) → right_from false rest c ≡ right_by (access_at rest c) → right_from false (a ∷ rest) c ≡ right_by (access_at (a ∷ rest) c)
    go (inl t) h = rw (t, none t) refl
    go (inr t) h = rw t h

-- accesses that follow one another rise
pub opens_rising : (accesses : List Access) → joined.IsRising accesses → IsRising accesses
opens_rising [] h = tt
opens_rising (a ∷ []) h = tt
opens_rising (a ∷ b ∷ rest) h = (h.0.behind, opens_rising (b ∷ rest) h.1)

-- a right that is still held
held_is : (r : Right) (m : Mode) (strong : Bool) → held_right r ≡ Holds m strong → r ≡ Holds m strong
held_is NoRight m strong e = cc
held_is Released m strong e = cc
held_is (Holds n other) m strong e = e

-- accesses that give just the rights of a context are those of its rights
pub are_rights : (accesses : List Access) (x : Context) → IsRising accesses → ((c : ℕ) → right_from false accesses c ≡ held_right (right_of x c)) → AreRightsOf accesses x
are_rights accesses x r f = record { given = given; held = λ c a e. held_is (right_of x c) a.mode a.strong (sym (f c) ∙ rights_from accesses r c ∙ ap right_by e) }
  where
    of_some : (o : Option Access) (c : ℕ) (m : Mode) (strong : Bool) → access_at accesses c ≡ o → right_by o ≡ Holds m strong → (a : Access) × (access_at accesses c ≡ Some a) × (a.mode ≡ m) × (a.strong ≡ strong)
    of_some None c m strong e g = cc
    of_some (Some a) c m strong e g = (a, e, cc (g), cc (g))

    given : (c : ℕ) (m : Mode) (strong : Bool) → right_of x c ≡ Holds m strong → (a : Access) × (access_at accesses c ≡ Some a) × (a.mode ≡ m) × (a.strong ≡ strong)
    given c m strong e = of_some (access_at accesses c) c m strong refl (sym (rights_from accesses r c) ∙ f c ∙ ap held_right e)

-- an act that creates a task is that of the definitions
pub creating_act : (a : Act) → creates a ≡ true → (o : Order CodeScript) × (act_seen a ≡ Created o false)
creating_act (acts.Create creation false) e = (meant_order creation.order, refl)
creating_act (acts.Create creation true) e = cc
creating_act _ e = cc

-- a creation that passes is not one too many
few_created : (x : Context) → create_fault x ≡ None → x.created < 65535
few_created x h = go (nat_le 64 x.depth) (nat_le 65535 x.created) refl refl
  where
    go : (a b : Bool) → nat_le 64 x.depth ≡ a → nat_le 65535 x.created ≡ b → x.created < 65535
    go true b d e = let g : Some fault.TooDeep ≡ None = rw d at h in cc
    go false true d e = let g : Some fault.TooManyTasks ≡ None = rw (d, e) at h in cc
    go false false d e = grind (arith, nat_tests, e)

module _ {code : CodeParts} {main : Start CodeScript} {first : List ℕ} {k : Kept} {s : State CodeScript} (core : IsCore code main first k s) where
  -- the dependency system knows each task that is kept
  pub is_known : (v : ℕ) → v < length k.tasks → IsKnown k.seen.opens v
  is_known v l = let x = at_number core v l in go (core.sound.tasks.opened v x.body x.body_at)
    where
      go : (v ≡ 0) ⊎ ((o : Open) × IsIn o k.seen.opens × (o.task ≡ v)) → IsKnown k.seen.opens v
      go (inl z) = inl z
      go (inr (o, i, e)) = inr (record { entry = o; listed = i; number = e })

  -- a cell that a task owes is one of its accesses, and not given up
  pub is_opened : (v c : ℕ) (held : Held) (x : Owed) → slice_get k.tasks v ≡ Some held → value_at held.owed.pieces c ≡ Some x → HasOpened k.seen.opens c v × (k.seen.given v c ≡ false)
  is_opened v c held x e h =
      let b = body_of core v held e in
      let r = right_of b.body.start.context c in
      let o = owing b.body.start.path (k.seen.given v c) r x (sym (b.is_held.owed_is c) ∙ h) in
      let m = owed_holds x r o.by in
      let a = access_of core v c o.number o.above b.body b.at_ o.path m.0 m.1 m.2 in
      (record { entry = a.has.entry; listed = a.has.listed; number = a.has.number; named = named_at a.has.entry c a.access a.has.at_ }, o.kept)

  -- a cell that a task owes by a join is one of its reductions
  pub is_folding : (v c : ℕ) (held : Held) (op : Op) → slice_get k.tasks v ≡ Some held → value_at held.owed.pieces c ≡ Some (owed.Join op) → IsFolding k.seen.opens v c × (mode_in k.seen.opens c v ≡ Fold op)
  is_folding v c held op e h =
      let b = body_of core v held e in
      let r = right_of b.body.start.context c in
      let o = owing b.body.start.path (k.seen.given v c) r (owed.Join op) (sym (b.is_held.owed_is c) ∙ h) in
      let a = access_of core v c o.number o.above b.body b.at_ o.path (Fold op) true (join_right r op o.by) in
      let mode : mode_in k.seen.opens c v ≡ Fold op
      = ap (λ (w : ℕ). mode_in k.seen.opens c w) (sym a.has.number) ∙ mode_is c core.sound.tasks.opens_are.ordered a.has.entry a.has.listed ∙ ap mode_of_access a.has.at_ ∙ a.mode in (
        record {
          opened = record { entry = a.has.entry; listed = a.has.listed; number = a.has.number; named = named_at a.has.entry c a.access a.has.at_ };
          op = op;
          mode_is = mode;
        },
        mode,
      )

  -- a task that creates one more
  pub record Creator (v : ℕ) (held : Held) : Type 0 where
    pub body : Meant CodeScript
    pub at_ : slice_get core.bodies v ≡ Some body
    pub is_body : IsBody code body.start body.found held.body
    pub order : Order CodeScript
    pub act : act_now (asks code) body ≡ Created order false

  -- where a creation stands next there is one
  pub creator_of : (v : ℕ) (held : Held) → slice_get k.tasks v ≡ Some held → is_over held.body ≡ false → creates (pending_of held.body) ≡ true → Creator v held
  creator_of v held e r c =
      let b = body_of core v held e in
      let a = creating_act held.body.act c in
      record { body = b.body; at_ = b.at_; is_body = b.is_held.body_is; order = a.0; act = sym (b.is_held.body_is.act r) ∙ a.1 }

  -- what a creation that passed tells of its creator: it is nested less than 64 deep, and has created fewer than 65,535 tasks
  creator_limits : (v : ℕ) (held : Held) (x : Creator v held) → (length x.body.start.path < 64) × (created_now (asks code) x.body < 65535)
  unfolding stage_act act_of stage_created
  creator_limits v held x =
      let y = stack_from (asks code) x.body.start x.body.found in
      let alone = (creating (asks code) x.body.start x.body.found x.order x.act).alone in
      let none = stack_passed (asks code) (right_of x.body.start.context) y.base y.inner y.ended x.order alone x.act in
      let r = core.stands.there v x.body x.at_ in
      let a : y.base.context.depth < 64 = shallow y.base.context none in
      let b : y.base.context.depth ≡ x.body.start.context.depth = stage_depth (asks code) x.body.start x.body.found in
      let c : r.0.body.start.context.depth ≡ length x.body.start.path = path_depth (asks code) main s (core_made core) core.depth x.body.start.path r.0 r.1 in
      let d : r.0.body.start.context.depth ≡ x.body.start.context.depth = ap (λ (z : Meant CodeScript). z.start.context.depth) r.2 in
      (omega (arith, a, b, c, d), few_created y.base.context none)

  -- the tree takes the task that a task creates next
  pub may_create : (v : ℕ) (held : Held) → slice_get k.tasks v ≡ Some held → is_over held.body ≡ false → creates (pending_of held.body) ≡ true → MayCreate k.tree.tasks v
  may_create v held e r c =
      let x = creator_of v held e r c in
      let y = at_number core v (kept_within core v held e) in
      let l = creator_limits v held x in
      let point : length y.task.point ≡ length (written x.body.start.path) = ap length y.is_known.point ∙ ap (λ (b : Meant CodeScript). length (written b.start.path)) (some_is (sym y.body_at ∙ x.at_)) in
      let long = length-reverse x.body.start.path in
      record {
        creator = y.task;
        at_ = y.task_at;
        few = few (length y.task.children) refl (λ j m. children_few core v x.body y.task x.at_ y.task_at j m) l.1;
        shallow = deep (length y.task.point) (length (reverse x.body.start.path)) (length x.body.start.path) point long l.0;
      }
    where
      few : (n : ℕ) {m created : ℕ} → n ≡ m → ((j : ℕ) → j < n → j < created) → created < 65535 → m < 65535
      few n {m = m} {created = created} q f l = go (cases n 65535)
        where
          cases : (n b : ℕ) → (n < b) ⊎ (b ≤ n)
          cases n b = grind arith

          go : (n < 65535) ⊎ (65535 ≤ n) → m < 65535
          go (inl h) = omega (arith, h, q)
          go (inr h) = let g = f 65534 (omega (arith, h)) in absurd (omega (arith, g, l))

      deep : (n m d : ℕ) → n ≡ suc m → m ≡ d → d < 64 → n ≤ 64
      deep n m d a b l = omega arith

  -- the dependency system takes the task that a task creates next
  pub may_open_body : (v : ℕ) (before : Held) (child : Body) (accesses : List Access) → slice_get k.tasks v ≡ Some before → is_over before.body ≡ false → creates (pending_of before.body) ≡ true
      → ((start : Start CodeScript) (found : List ℕ) (order : Order CodeScript) → IsBody code start found before.body → stage_act (asks code) start found ≡ Created order false → IsBody code (child_start (stack_from (asks code) start found).base order) [] child)
      → ((start : Start CodeScript) (found : List ℕ) → IsBody code start found child → (c : ℕ) → right_from false accesses c ≡ held_right (right_of start.context c))
      → joined.IsRising accesses → CanOpen k.seen (record { task = length k.tasks; parent = v; accesses = accesses })
  may_open_body v before child accesses e r c body rights rising =
      let x = creator_of v before e r c in
      let up = opens_rising accesses rising in
      let new = (new_task (asks code) x.body x.order).body in
      let is_new = body x.body.start x.body.found x.order x.is_body x.act in
      let size = core.held.size in
      can_open (asks code) main own core.bodies k.seen k.cells s core.sound.tasks core.stands (core_made core) (core_started core) core.depth v x.body x.at_ x.order x.act new refl
      (record { task = length k.tasks; parent = v; accesses = accesses })
      (slice_get_past core.bodies (length k.tasks) (omega (arith, size)))
      refl
      (are_rights accesses new.start.context up (rights new.start [] is_new))
      up

  -- the same, where the new task is kept with its cells
  pub may_open : (v : ℕ) (before child : Held) (accesses : List Access) → slice_get k.tasks v ≡ Some before → is_over before.body ≡ false → creates (pending_of before.body) ≡ true
      → ((start : Start CodeScript) (found : List ℕ) (order : Order CodeScript) → IsBody code start found before.body → stage_act (asks code) start found ≡ Created order false → IsBody code (child_start (stack_from (asks code) start found).base order) [] child.body)
      → ((start : Start CodeScript) (found : List ℕ) → IsBody code start found child.body → (c : ℕ) → right_from false accesses c ≡ held_right (right_of start.context c))
      → joined.IsRising accesses → CanOpen k.seen (record { task = length k.tasks; parent = v; accesses = accesses })
  may_open v before child accesses e r c body rights rising = may_open_body v before child.body accesses e r c body rights rising
