-- What is noted stays right from stage to stage of the sequential run.
use Rattle.std.proofs.Common.{◌≡◌, ℕ, ◌+◌, ◌<◌, ◌≤◌, ◌⊎◌, inl, inr, refl, sym, subst, ap, ◌∙◌, List, [], ◌∷◌, ◌++◌, length, arith, Bool, true, false}
use Rattle.oss_syntax.specs.declared.access.Access.{Access}
use Rattle.oss_model.specs.Agreement.{MainStarts}
use Rattle.oss_model.specs.Bodies.{Act, Frame, Order, Program, Start, ask_of}
use Rattle.oss_model.specs.Bodies.Act.{Created, Releases}
use Rattle.oss_model.specs.Context.{Context, child_context, in_clauses, right_of}
use Rattle.oss_model.specs.Machine.{At, Task}
use Rattle.oss_model.specs.Memory.{Event, Happened}
use Rattle.oss_model.specs.Moves.{act_now}
use Rattle.oss_model.specs.Order.{IsIn, IsSuffix}
use Rattle.oss_model.specs.Rights.{Touch}
use Rattle.oss_model.specs.Sequence.{Running, RunsOn}
use Rattle.oss_model.proofs.OrderLemmas.{suffix_drop, suffix_length}
use Rattle.oss_model.proofs.SequenceLemmas.{Stands, event_back, not_itself, seq_event, seq_made}
use Rattle.oss_model.proofs.TreeLemmas.{at_same, path_found}
use Rattle.oss_audit.proofs.FollowLemmas.{ev_happened, stays_happened}
use Rattle.oss_audit.proofs.ListLemmas.{in_either, in_left, in_one, in_right}
use Rattle.oss_audit.proofs.PathLemmas.{one_way}
use Rattle.oss_machine.specs.Frames.{CodeScript}
use Rattle.oss_body.specs.Acting.{acting}
use Rattle.oss_explain.specs.declared.begun.Begun.{Begun}
use Rattle.oss_explain.specs.declared.begun.Child.{Child}
use Rattle.oss_explain.specs.declared.begun.ReleasedAt.{ReleasedAt}
use Rattle.oss_explain.specs.Ledgers.{AreAccesses}
use Rattle.oss_explanation.specs.Lives.{IsCreated, IsEventOf, IsHolder, IsReleased, actor, act_at, born_with, hinders, line_at, waits_for}
use Rattle.oss_explain.specs.Noting.{AreHeldBy, AreOnWay, IsBorn, IsHeldBy, IsRight, RiseTo, at_child, at_main, hindering}
use Rattle.oss_explain.specs.Ways.{entry_of}
use Rattle.oss_explain.proofs.EventLemmas.{one_body}

never : (b : Bool) → b ≡ true → b ≡ false → ⊥
never b h k = let e : true ≡ false = sym h ∙ k in cc

module _ (P : Program CodeScript) (main : Start CodeScript) (ms : MainStarts main) (z y : Running CodeScript) (st : Stands P main z) (r : RunsOn P z y) where
  abbrev pub ev : Event CodeScript
  ev = seq_event P main z y ms st r

  abbrev pub now : Act CodeScript
  now = act_now P r.task.body

  abbrev pub f : Frame CodeScript
  f = acting P r.task.body.start r.task.body.found

  -- Events

  forth : (q : List ℕ) (e : Event CodeScript) → IsEventOf P z.state q e → IsEventOf P y.state q e
  forth q e h = record { happened = stays_happened P main ms z y st r e h.happened; path = h.path }

  pub back : (q : List ℕ) (e : Event CodeScript) → IsEventOf P y.state q e → IsEventOf P z.state q e ⊎ ((e ≡ ev) × (q ≡ f.path))
  back q e h = go (event_back P main z y ms st r e h.happened)
    where
      go : Happened z.state e ⊎ (e ≡ ev) → IsEventOf P z.state q e ⊎ ((e ≡ ev) × (q ≡ f.path))
      go (inl k) = inl (record { happened = k; path = h.path })
      go (inr k) = inr (k, sym h.path ∙ ap (λ (x : Event CodeScript). (actor P x).path) k)

  own : IsEventOf P y.state f.path ev
  own = record { happened = ev_happened P main ms z y st r; path = refl }

  -- the other acts of the task were made before
  earlier : (e : Event CodeScript) → IsEventOf P z.state f.path e → length e.past < length ev.past
  earlier e h =
      let b : e.start ≡ r.task.body.start = one_body P main y.state (seq_made P main z y ms st r) f.path e ev (forth f.path e h) own in
      let p : r.task.body.start.path ≡ z.active = path_found z.state.tasks z.active r.task r.at_ in
      let a : At z.state z.active h.happened.task = subst (λ (x : List ℕ). At z.state x h.happened.task) (ap (λ (x : Start CodeScript). x.path) b ∙ p) h.happened.at_ in
      let t : h.happened.task ≡ r.task = at_same z.state z.active h.happened.task r.task a r.at_ in
      let l = suffix_length (subst (λ (x : Task CodeScript). IsSuffix (e.answer ∷ e.past) x.body.found) t h.happened.found) in
      omega (arith, l)

  -- Creations and releases

  pub created_forth : (q : List ℕ) (included : Bool) (line : ℕ) (x : Context) → IsCreated P z.state q included line x → IsCreated P y.state q included line x
  created_forth q included line x h =
      record { event = h.event; happened = stays_happened P main ms z y st r h.event h.happened; order = h.order; creates = h.creates; path = h.path; on_line = h.on_line; context = h.context }

  pub born_forth : (q : List ℕ) (b : Begun) → IsBorn P z.state q b → IsBorn P y.state q b
  unfolding created_forth
  born_forth q b h = record { context = h.context; created = created_forth q b.included b.line h.context h.created; accesses = h.accesses; entry = h.entry }

  -- the task that is created
  pub born_here : (o : Order CodeScript) (included : Bool) (b : Begun) → now ≡ Created o included → b.included ≡ included → b.line ≡ (ask_of P f).line → b.entry ≡ entry_of o.script
      → AreAccesses b.accesses (child_context f.context o.clauses o.last) → IsBorn P y.state (f.context.created ∷ f.path) b
  born_here o included b e i line entry accesses =
      record {
        context = child_context f.context o.clauses o.last;
        created = record { event = ev; happened = ev_happened P main ms z y st r; order = o; creates = e ∙ ap (λ (x : Bool). Created o x) (sym i); path = refl; on_line = line; context = refl };
        accesses = accesses;
        entry = entry;
      }

  released_forth : (q : List ℕ) (c line : ℕ) → IsReleased P z.state q c line → IsReleased P y.state q c line
  released_forth q c line h = record { event = h.event; own = forth q h.event h.own; clauses = h.clauses; included = h.included; releases = h.releases; named = h.named; on_line = h.on_line }

  -- what the act releases
  pub record ReleasesNow (q : List ℕ) (c line : ℕ) : Type 0 where
    pub path : q ≡ f.path
    pub clauses : List Access
    pub included : Bool
    pub releases : now ≡ Releases clauses included
    pub named : in_clauses clauses c ≡ true
    pub on_line : line ≡ (ask_of P f).line

  released_back : (q : List ℕ) (c line : ℕ) → IsReleased P y.state q c line → IsReleased P z.state q c line ⊎ ReleasesNow q c line
  released_back q c line h = go (back q h.event h.own)
    where
      go : IsEventOf P z.state q h.event ⊎ ((h.event ≡ ev) × (q ≡ f.path)) → IsReleased P z.state q c line ⊎ ReleasesNow q c line
      go (inl k) = inl (record { event = h.event; own = k; clauses = h.clauses; included = h.included; releases = h.releases; named = h.named; on_line = h.on_line })
      go (inr (k, p)) = inr (record {
        path = p;
        clauses = h.clauses;
        included = h.included;
        releases = subst (λ (x : Event CodeScript). act_at P x ≡ Releases h.clauses h.included) k h.releases;
        named = h.named;
        on_line = h.on_line ∙ ap (λ (x : Event CodeScript). line_at P x) k;
      })

  released_here : (c : ℕ) (clauses : List Access) (included : Bool) → now ≡ Releases clauses included → in_clauses clauses c ≡ true → IsReleased P y.state f.path c (ask_of P f).line
  released_here c clauses included e named = record { event = ev; own = own; clauses = clauses; included = included; releases = e; named = named; on_line = refl }

  -- Holders

  -- The act lends the cell to a child so that it hinders the touch.
  abbrev pub LendsNow : ℕ → Touch → Type 0
  LendsNow c touch = (o : Order CodeScript) × ((now ≡ Created o false) × (o.when ≡ true) × (hinders touch (right_of (child_context f.context o.clauses o.last) c) ≡ true))

  holder_forth : (q : List ℕ) (c : ℕ) (touch : Touch) (j n : ℕ) (x : Context) → (q ≡ f.path → waits_for now c ≡ false) → IsHolder P z.state q c touch j n x → IsHolder P y.state q c touch j n x
  holder_forth q c touch j n x still h =
      record {
        event = h.event;
        own = forth q h.event h.own;
        order = h.order;
        creates = h.creates;
        lends = h.lends;
        number = h.number;
        on_line = h.on_line;
        context = h.context;
        hindering = h.hindering;
        since = λ e i l w. go e l w (back q e i);
      }
    where
      go : (e : Event CodeScript) → length h.event.past < length e.past → waits_for (act_at P e) c ≡ true → IsEventOf P z.state q e ⊎ ((e ≡ ev) × (q ≡ f.path)) → ⊥
      go e l w (inl k) = h.since e k l w
      go e l w (inr (k, p)) = never (waits_for now c) (subst (λ (g : Event CodeScript). waits_for (act_at P g) c ≡ true) k w) (still p)

  holder_back : (q : List ℕ) (c : ℕ) (touch : Touch) (j n : ℕ) (x : Context) → IsHolder P y.state q c touch j n x
      → IsHolder P z.state q c touch j n x ⊎ ((q ≡ f.path) × (j ≡ f.context.created) × LendsNow c touch)
  holder_back q c touch j n x h = go (back q h.event h.own)
    where
      go : IsEventOf P z.state q h.event ⊎ ((h.event ≡ ev) × (q ≡ f.path)) → IsHolder P z.state q c touch j n x ⊎ ((q ≡ f.path) × (j ≡ f.context.created) × LendsNow c touch)
      go (inl k) = inl (record {
        event = h.event;
        own = k;
        order = h.order;
        creates = h.creates;
        lends = h.lends;
        number = h.number;
        on_line = h.on_line;
        context = h.context;
        hindering = h.hindering;
        since = λ e i l w. h.since e (forth q e i) l w;
      })
      go (inr (k, p)) = inr (
        p,
        h.number ∙ ap (λ (g : Event CodeScript). (actor P g).context.created) k,
        (
          h.order,
          (
            subst (λ (g : Event CodeScript). act_at P g ≡ Created h.order false) k h.creates,
            h.lends,
            subst (λ (g : Event CodeScript). hinders touch (right_of (born_with P g h.order) c) ≡ true) k (subst (λ (g : Context). hinders touch (right_of g c) ≡ true) h.context h.hindering),
          ),
        ),
      )

  held_forth : (q : List ℕ) (c : ℕ) (touch : Touch) (k : Child) → (q ≡ f.path → waits_for now c ≡ false) → IsHeldBy P z.state q c touch k → IsHeldBy P y.state q c touch k
  unfolding holder_forth
  held_forth q c touch k still g = record { context = g.context; holder = holder_forth q c touch k.number k.line g.context still g.holder; accesses = g.accesses; entry = g.entry }

  -- no child more, and none less
  pub held_still : (q : List ℕ) (c : ℕ) (touch : Touch) (ks : List Child) → (q ≡ f.path → waits_for now c ≡ false) → (q ≡ f.path → LendsNow c touch → ⊥) → AreHeldBy P z.state q c touch ks
      → AreHeldBy P y.state q c touch ks
  held_still q c touch ks still lends h =
      record {
        only = λ k i. held_forth q c touch k still (h.only k i);
        all = λ j n x g. go j n x (holder_back q c touch j n x g);
      }
    where
      go : (j n : ℕ) (x : Context) → IsHolder P z.state q c touch j n x ⊎ ((q ≡ f.path) × (j ≡ f.context.created) × LendsNow c touch) → (k : Child) × (IsIn k ks × (k.number ≡ j))
      go j n x (inl g) = h.all j n x g
      go j n x (inr (p, e, l)) = absurd (lends p l)

  -- a wait
  pub held_cleared : (c : ℕ) (touch : Touch) → waits_for now c ≡ true → AreHeldBy P y.state f.path c touch []
  held_cleared c touch waits = record { only = λ k i. absurd (elim i [ ]); all = λ j n x h. absurd (none j n x h) }
    where
      created_none : (a : Act CodeScript) (o : Order CodeScript) → waits_for a c ≡ true → a ≡ Created o false → ⊥
      created_none a o w e = let k : waits_for (Created o false) c ≡ true = subst (λ (b : Act CodeScript). waits_for b c ≡ true) e w in cc

      none : (j n : ℕ) (x : Context) → IsHolder P y.state f.path c touch j n x → ⊥
      none j n x h = go (back f.path h.event h.own)
        where
          go : IsEventOf P z.state f.path h.event ⊎ ((h.event ≡ ev) × (f.path ≡ f.path)) → ⊥
          go (inl k) = h.since ev own (earlier h.event k) waits
          go (inr (k, p)) = created_none now h.order waits (subst (λ (g : Event CodeScript). act_at P g ≡ Created h.order false) k h.creates)

  -- one child more
  pub held_more : (c : ℕ) (touch : Touch) (ks : List Child) (k : Child) (o : Order CodeScript) → now ≡ Created o false → o.when ≡ true → waits_for now c ≡ false
      → k.number ≡ f.context.created → k.line ≡ (ask_of P f).line → k.entry ≡ entry_of o.script → AreAccesses k.accesses (child_context f.context o.clauses o.last)
      → hinders touch (right_of (child_context f.context o.clauses o.last) c) ≡ true → AreHeldBy P z.state f.path c touch ks → AreHeldBy P y.state f.path c touch (ks ++ k ∷ [])
  held_more c touch ks k o e when still number line entry accesses hinder h =
      record { only = λ i m. only i (in_either ks m); all = λ j n x g. all j n x (holder_back f.path c touch j n x g) }
    where
      since : (g : Event CodeScript) → IsEventOf P z.state f.path g ⊎ ((g ≡ ev) × (f.path ≡ f.path)) → length ev.past < length g.past → ⊥
      since g (inl m) l = let b = earlier g m in omega (arith, l, b)
      since g (inr (m, p)) l = let b : length g.past ≡ length ev.past = ap (λ (x : Event CodeScript). length x.past) m in omega (arith, l, b)

      here : IsHeldBy P y.state f.path c touch k
      here = record {
        context = child_context f.context o.clauses o.last;
        holder = record {
          event = ev;
          own = own;
          order = o;
          creates = e;
          lends = when;
          number = number;
          on_line = line;
          context = refl;
          hindering = hinder;
          since = λ g i l w. since g (back f.path g i) l;
        };
        accesses = accesses;
        entry = entry;
      }

      only : (i : Child) → IsIn i ks ⊎ IsIn i (k ∷ []) → IsHeldBy P y.state f.path c touch i
      only i (inl m) = held_forth f.path c touch i (λ p. still) (h.only i m)
      only i (inr m) = subst (λ (x : Child). IsHeldBy P y.state f.path c touch x) (sym (in_one m)) here

      all : (j n : ℕ) (x : Context) → IsHolder P z.state f.path c touch j n x ⊎ ((f.path ≡ f.path) × (j ≡ f.context.created) × LendsNow c touch) → (i : Child) × (IsIn i (ks ++ k ∷ []) × (i.number ≡ j))
      all j n x (inl g) = let i = h.all j n x g in (i.0, (in_left (k ∷ []) i.1.0, i.1.1))
      all j n x (inr (p, number_is, l)) = (k, (in_right ks IsIn.here, number ∙ sym number_is))

  -- One task on the way

  -- What is released behind the act.
  pub record ReleasedNext (q : List ℕ) (old new : List ReleasedAt) : Type 0 where
    pub only : (r : ReleasedAt) → IsIn r new → IsIn r old ⊎ ((c : ℕ) → in_clauses r.clauses c ≡ true → IsReleased P y.state q c r.line)
    pub all : (r : ReleasedAt) → IsIn r old → IsIn r new
    pub here : (c line : ℕ) → ReleasesNow q c line → (r : ReleasedAt) × (IsIn r new × (in_clauses r.clauses c ≡ true))

  pub right_next : (q : List ℕ) (count more : ℕ) (b n : Begun) → n.point ≡ b.point → ReleasedNext q b.released n.released
      → ((c : ℕ) (touch : Touch) → AreHeldBy P y.state q c touch (hindering c touch n.noted)) → ((c : ℕ) (touch : Touch) → RiseTo more (hindering c touch n.noted))
      → count ≤ more → ((j : ℕ) → more ≤ j → IsSuffix (j ∷ q) f.path → ⊥) → IsRight P z.state q count b → IsRight P y.state q more n
  right_next q count more b n point released held rise up lane h =
      record {
        point = point ∙ h.point;
        released = λ x i c m. only x c m (released.only x i);
        all_released = λ c line x. all c line (released_back q c line x);
        held = held;
        rise = rise;
        fresh = λ j p e l s i. fresh j p e l s (back p e i);
      }
    where
      only : (x : ReleasedAt) (c : ℕ) → in_clauses x.clauses c ≡ true → IsIn x b.released ⊎ ((c : ℕ) → in_clauses x.clauses c ≡ true → IsReleased P y.state q c x.line) → IsReleased P y.state q c x.line
      only x c m (inl i) = released_forth q c x.line (h.released x i c m)
      only x c m (inr i) = i c m

      all : (c line : ℕ) → IsReleased P z.state q c line ⊎ ReleasesNow q c line → (x : ReleasedAt) × (IsIn x n.released × (in_clauses x.clauses c ≡ true))
      all c line (inl x) = let k = h.all_released c line x in (k.0, (released.all k.0 k.1.0, k.1.1))
      all c line (inr x) = released.here c line x

      fresh : (j : ℕ) (p : List ℕ) (e : Event CodeScript) → more ≤ j → IsSuffix (j ∷ q) p → IsEventOf P z.state p e ⊎ ((e ≡ ev) × (p ≡ f.path)) → ⊥
      fresh j p e l s (inl i) = h.fresh j p e (omega (arith, up, l)) s i
      fresh j p e l s (inr (k, i)) = lane j l (subst (λ (x : List ℕ). IsSuffix (j ∷ q) x) i s)

  -- nothing is released
  pub none_released : (q : List ℕ) (rs : List ReleasedAt) → (q ≡ f.path → (clauses : List Access) (included : Bool) → now ≡ Releases clauses included → ⊥) → ReleasedNext q rs rs
  none_released q rs none = record { only = λ x i. inl i; all = λ x i. i; here = λ c line x. absurd (none x.path x.clauses x.included x.releases) }

  -- a release
  pub one_released : (rs : List ReleasedAt) (clauses : List Access) (included : Bool) → now ≡ Releases clauses included
      → ReleasedNext f.path rs (rs ++ record { line = (ask_of P f).line; clauses = clauses } ∷ [])
  one_released rs clauses included e =
      record { only = λ x i. only x (in_either rs i); all = λ x i. in_left (new ∷ []) i; here = λ c line x. (new, (in_right rs IsIn.here, same c x)) }
    where
      new : ReleasedAt
      new = record { line = (ask_of P f).line; clauses = clauses }

      only : (x : ReleasedAt) → IsIn x rs ⊎ IsIn x (new ∷ []) → IsIn x rs ⊎ ((c : ℕ) → in_clauses x.clauses c ≡ true → IsReleased P y.state f.path c x.line)
      only x (inl i) = inl i
      only x (inr i) = inr (λ c m. subst (λ (w : ReleasedAt). IsReleased P y.state f.path c w.line) (sym (in_one i)) (released_here c clauses included e (subst (λ (w : ReleasedAt). in_clauses w.clauses c ≡ true) (in_one i) m)))

      clauses_same : (a b : List Access) (i j : Bool) → ◌≡◌ {A = Act CodeScript} (Releases a i) (Releases b j) → a ≡ b
      clauses_same a b i j k = cc

      same : (c : ℕ) {line : ℕ} → ReleasesNow f.path c line → in_clauses clauses c ≡ true
      same c x = subst (λ (w : List Access). in_clauses w c ≡ true) (clauses_same x.clauses clauses x.included included (sym x.releases ∙ e)) x.named

  -- The act leaves what is noted of the task as it is.
  pub record IsQuiet : Type 0 where
    pub waits : (c : ℕ) → waits_for now c ≡ false
    pub lends : (c : ℕ) (touch : Touch) → LendsNow c touch → ⊥
    pub releases : (clauses : List Access) (included : Bool) → now ≡ Releases clauses included → ⊥

  pub right_still : (q : List ℕ) (count more : ℕ) (b : Begun) → (q ≡ f.path → IsQuiet) → count ≤ more → ((j : ℕ) → more ≤ j → IsSuffix (j ∷ q) f.path → ⊥)
      → ((c : ℕ) (touch : Touch) → RiseTo more (hindering c touch b.noted)) → IsRight P z.state q count b → IsRight P y.state q more b
  right_still q count more b quiet up lane rise h =
      right_next q count more b b refl (none_released q b.released (λ p. (quiet p).releases))
      (λ c touch. held_still q c touch (hindering c touch b.noted) (λ p. (quiet p).waits c) (λ p. (quiet p).lends c touch) (h.held c touch))
      rise up lane h

  -- The tasks above

  above_lane : (k : ℕ) (q : List ℕ) → IsSuffix (k ∷ q) f.path → (j : ℕ) → k + 1 ≤ j → IsSuffix (j ∷ q) f.path → ⊥
  above_lane k q s j l i = let e : j ≡ k = one_way j k i s in omega (arith, e, l)

  above_right : (k : ℕ) (q : List ℕ) (b : Begun) → IsSuffix (k ∷ q) f.path → IsRight P z.state q (k + 1) b → IsRight P y.state q (k + 1) b
  above_right k q b s h = right_still q (k + 1) (k + 1) b (λ p. absurd (not_itself s p)) (omega arith) (above_lane k q s) h.rise h

  pub above_still : {rest : List Begun} (k : ℕ) (q : List ℕ) → IsSuffix (k ∷ q) f.path → AreOnWay P z.state q (k + 1) rest → AreOnWay P y.state q (k + 1) rest
  above_still k [] s (at_main {b = b} h e) = at_main (above_right k [] b s h) e
  above_still k (j ∷ q) s (at_child {b = b} h born rest) = at_child (above_right k (j ∷ q) b s h) (born_forth (j ∷ q) b born) (above_still j q (suffix_drop s) rest)
