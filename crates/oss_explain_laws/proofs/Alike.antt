-- States of two programs in which the same happened, but for what the tasks run: what is told of one is told of the other.
use Rattle.std.proofs.Common.{◌≡◌, ◌<◌, ◌∙◌, ℕ, Bool, true, false, List, [], ◌∷◌, length, Option, Some, refl, sym, ap, subst}
use Rattle.std.specs.Prelude.{◌&&◌, ◌||◌}
use Rattle.oss_syntax.specs.declared.access.Access.{Access}
use Rattle.oss_syntax.specs.declared.access.Op.{Op}
use Rattle.oss_syntax.specs.declared.fault.FaultKind.{FaultKind}
use Rattle.oss_syntax.specs.declared.tree.program.Item.{Item}
use Rattle.oss_model.specs.Bodies.{Act, Ask, Frame, Order, Program, ask_of}
use Rattle.oss_model.specs.Bodies.Ask.{Await, Begin, Create, End, Fails, Fold, Print, Read, Release, Tick, Wait, WaitOn, Write}
use Rattle.oss_model.specs.Bodies.Act.{Awaited, Created, Ended, Fault, Folded, Load, Over, Printed, Releases, Store, Ticked, Waited, WaitedOn}
use Rattle.oss_model.specs.Context.{Context, child_context, in_clauses, right_of}
use Rattle.oss_model.specs.Machine.{State, find}
use Rattle.oss_model.specs.Memory.{Event, Happened}
use Rattle.oss_model.specs.Order.{written}
use Rattle.oss_model.specs.Rights.{Touch, holds_uncovered, is_mixed, is_released, mark_from, right_from}
use Rattle.oss_explanation.specs.declared.explained.Deed.{Deed}
use Rattle.oss_explanation.specs.declared.explained.Explained.{Explained}
use Rattle.oss_explanation.specs.declared.explained.Link.{Link}
use Rattle.oss_syntax.specs.declared.fault.FaultKind.TheVariants as faults
use Rattle.oss_explanation.specs.declared.explained.Failing.{Failing}
use Rattle.oss_explanation.specs.declared.explained.Reason.{Reason}
use Rattle.oss_explanation.specs.declared.explained.Reason.TheVariants as reason
use Rattle.oss_explanation.specs.declared.explained.Word.{Word}
use Rattle.oss_explanation.specs.Explanations.{AsksTouch, Explains, IsDeed, IsReason, names, wanted}
use Rattle.oss_explanation.specs.Lives.{AreHolders, HasWords, IsChain, IsCreated, IsEventOf, IsHolder, IsReleased, act_at, actor, at_child, at_main, born_with, hinders, line_at, of_child, of_main, waits_for}
use Rattle.oss_explanation.specs.Held.{AreFailing, AreHeld, all_words, clause_words, once, word_in, word_of}

-- The orders say the same of a task, whose body stands at one spot.
pub record OrdersAlike {S T : Type 0} (spot : S → ℕ) (seat : T → ℕ) (o : Order S) (u : Order T) : Type 0 where
  pub clauses : o.clauses ≡ u.clauses
  pub when : o.when ≡ u.when
  pub last : o.last ≡ u.last
  pub named : spot o.script ≡ seat u.script

-- The acts are alike.
pub data ActsAlike {S T : Type 0} (spot : S → ℕ) (seat : T → ℕ) : Act S → Act T → Type 0 where
  ticked : ActsAlike spot seat Ticked Ticked
  load : {c : ℕ} → ActsAlike spot seat (Load c) (Load c)
  store : {c v : ℕ} → ActsAlike spot seat (Store c v) (Store c v)
  folded : {c : ℕ} {op : Op} {v : ℕ} {slot : Bool} → ActsAlike spot seat (Folded c op v slot) (Folded c op v slot)
  created : {o : Order S} {u : Order T} {included : Bool} → OrdersAlike spot seat o u → ActsAlike spot seat (Created o included) (Created u included)
  awaited : ActsAlike spot seat Awaited Awaited
  waited : ActsAlike spot seat Waited Waited
  waited_on : {named : List Access} → ActsAlike spot seat (WaitedOn named) (WaitedOn named)
  releases : {clauses : List Access} {included : Bool} → ActsAlike spot seat (Releases clauses included) (Releases clauses included)
  printed : {key text : List ℕ} → ActsAlike spot seat (Printed key text) (Printed key text)
  ended : ActsAlike spot seat Ended Ended
  fault : {kind : FaultKind} {line : ℕ} {key : List ℕ} → ActsAlike spot seat (Fault kind line key) (Fault kind line key)
  over : ActsAlike spot seat Over Over

-- The asks are alike.
pub data AsksAlike {S T : Type 0} (spot : S → ℕ) (seat : T → ℕ) : Ask S → Ask T → Type 0 where
  begin : AsksAlike spot seat Begin Begin
  tick : AsksAlike spot seat Tick Tick
  read : {c : ℕ} → AsksAlike spot seat (Read c) (Read c)
  write : {c v : ℕ} → AsksAlike spot seat (Write c v) (Write c v)
  fold : {c : ℕ} {op : Op} {v : ℕ} → AsksAlike spot seat (Fold c op v) (Fold c op v)
  create : {o : Order S} {u : Order T} → OrdersAlike spot seat o u → AsksAlike spot seat (Create o) (Create u)
  await : AsksAlike spot seat Await Await
  wait : AsksAlike spot seat Wait Wait
  wait_on : {named : List Access} → AsksAlike spot seat (WaitOn named) (WaitOn named)
  release : {clauses : List Access} → AsksAlike spot seat (Release clauses) (Release clauses)
  print : {text : List ℕ} → AsksAlike spot seat (Print text) (Print text)
  end : AsksAlike spot seat End End
  fails : {kind : FaultKind} → AsksAlike spot seat (Fails kind) (Fails kind)

-- The events are alike: the same task does the same.
pub record EventsAlike {S T : Type 0} (spot : S → ℕ) (seat : T → ℕ) (P : Program S) (Q : Program T) (e : Event S) (g : Event T) : Type 0 where
  pub past : e.past ≡ g.past
  pub context : (actor P e).context ≡ (actor Q g).context
  pub path : (actor P e).path ≡ (actor Q g).path
  pub on_line : line_at P e ≡ line_at Q g
  pub act : ActsAlike spot seat (act_at P e) (act_at Q g)

-- an event of another state that is alike
pub record Matched {S T : Type 0} (spot : S → ℕ) (seat : T → ℕ) (P : Program S) (Q : Program T) (n : State T) (e : Event S) : Type 0 where
  pub event : Event T
  pub happened : Happened n event
  pub alike : EventsAlike spot seat P Q e event

-- The same happened in both states.
pub record StatesAlike {S T : Type 0} (spot : S → ℕ) (seat : T → ℕ) (P : Program S) (Q : Program T) (s : State S) (n : State T) : Type 0 where
  pub there : (e : Event S) → Happened s e → Matched spot seat P Q n e
  pub back : (g : Event T) → Happened n g → Matched seat spot Q P s g

pub turned : {S T : Type 0} {spot : S → ℕ} {seat : T → ℕ} {P : Program S} {Q : Program T} {s : State S} {n : State T} → StatesAlike spot seat P Q s n → StatesAlike seat spot Q P n s
turned h = record { there = h.back; back = h.there }

-- Acts

-- what is like a creation is one
record Creates {S T : Type 0} (spot : S → ℕ) (seat : T → ℕ) (o : Order S) (included : Bool) (a : Act T) : Type 0 where
  order : Order T
  creates : a ≡ Created order included
  alike : OrdersAlike spot seat o order

creates_too : {S T : Type 0} {spot : S → ℕ} {seat : T → ℕ} (o : Order S) (included : Bool) (a : Act T) → ActsAlike spot seat (Created o included) a → Creates spot seat o included a
creates_too o included _ (created {u = u} k) = record { order = u; creates = refl; alike = k }

creates_by : {S T : Type 0} {spot : S → ℕ} {seat : T → ℕ} (a : Act S) (b : Act T) (o : Order S) (included : Bool) → ActsAlike spot seat a b → a ≡ Created o included → Creates spot seat o included b
creates_by {S} {T} {spot} {seat} a b o included k e = creates_too o included b (subst (λ (x : Act S). ActsAlike spot seat x b) e k)

-- what is like a release is one
releases_too : {S T : Type 0} {spot : S → ℕ} {seat : T → ℕ} (clauses : List Access) (included : Bool) (a : Act T) → ActsAlike spot seat (Releases clauses included) a → a ≡ Releases clauses included
releases_too clauses included _ releases = refl

-- and what is like a wait is one
waits_too : {S T : Type 0} {spot : S → ℕ} {seat : T → ℕ} (a : Act S) (b : Act T) (c : ℕ) → ActsAlike spot seat a b → waits_for a c ≡ waits_for b c
waits_too _ _ c ticked = refl
waits_too _ _ c load = refl
waits_too _ _ c store = refl
waits_too _ _ c folded = refl
waits_too _ _ c (created k) = refl
waits_too _ _ c awaited = refl
waits_too _ _ c waited = refl
waits_too _ _ c waited_on = refl
waits_too _ _ c releases = refl
waits_too _ _ c printed = refl
waits_too _ _ c ended = refl
waits_too _ _ c fault = refl
waits_too _ _ c over = refl

born_alike : {S T : Type 0} {spot : S → ℕ} {seat : T → ℕ} (o : Order S) (u : Order T) (x y : Context) → OrdersAlike spot seat o u → x ≡ y → child_context x o.clauses o.last ≡ child_context y u.clauses u.last
born_alike o u x y k e i = child_context (e i) (k.clauses i) (k.last i)

-- Tasks

module _ {S T : Type 0} {spot : S → ℕ} {seat : T → ℕ} (P : Program S) (Q : Program T) (s : State S) (n : State T) (same : StatesAlike spot seat P Q s n) where
  pub created_there : (q : List ℕ) (included : Bool) (line : ℕ) (x : Context) → IsCreated P s q included line x → IsCreated Q n q included line x
  created_there q included line x h =
      let m = same.there h.event h.happened in
      let c = creates_by (act_at P h.event) (act_at Q m.event) h.order included m.alike.act h.creates in
      record {
        event = m.event;
        happened = m.happened;
        order = c.order;
        creates = c.creates;
        path = h.path ∙ (λ i. (m.alike.context i).created ∷ m.alike.path i);
        on_line = h.on_line ∙ m.alike.on_line;
        context = h.context ∙ born_alike h.order c.order (actor P h.event).context (actor Q m.event).context c.alike m.alike.context;
      }

  -- the task's body stands at the same spot
  created_named : (q : List ℕ) (included : Bool) (line : ℕ) (x : Context) (h : IsCreated P s q included line x) → spot h.order.script ≡ seat (created_there q included line x h).order.script
  unfolding created_there
  created_named q included line x h =
      let m = same.there h.event h.happened in
      (creates_by (act_at P h.event) (act_at Q m.event) h.order included m.alike.act h.creates).alike.named

  pub words_there : (q : List ℕ) (own : ℕ → Option Word) → HasWords P s q own → HasWords Q n q own
  words_there _ _ of_main = of_main
  words_there _ _ (of_child {k} {q} {included} {line} {x} h) = of_child (created_there (k ∷ q) included line x h)

  pub chain_there : (q : List ℕ) (links : List Link) → IsChain P spot s q links → IsChain Q seat n q links
  chain_there _ _ at_main = at_main
  chain_there _ _ (at_child {k} {q} {x} {links} l e h named rest) =
      at_child l e (created_there (k ∷ q) l.included l.line x h) (named ∙ created_named (k ∷ q) l.included l.line x h) (chain_there q links rest)

  own_there : (q : List ℕ) (e : Event S) → IsEventOf P s q e → (m : Matched spot seat P Q n e) → IsEventOf Q n q m.event
  own_there q e own m = record { happened = m.happened; path = sym m.alike.path ∙ own.path }

  pub released_there : (q : List ℕ) (c line : ℕ) → IsReleased P s q c line → IsReleased Q n q c line
  released_there q c line h =
      let m = same.there h.event h.own.happened in
      record {
        event = m.event;
        own = own_there q h.event h.own m;
        clauses = h.clauses;
        included = h.included;
        releases = releases_too {S = S} {T = T} {spot = spot} {seat = seat} h.clauses h.included (act_at Q m.event) (subst (λ (x : Act S). ActsAlike spot seat x (act_at Q m.event)) h.releases m.alike.act);
        named = h.named;
        on_line = h.on_line ∙ m.alike.on_line;
      }

module _ {S T : Type 0} {spot : S → ℕ} {seat : T → ℕ} (P : Program S) (Q : Program T) (s : State S) (n : State T) (same : StatesAlike spot seat P Q s n) where
  pub holder_there : (q : List ℕ) (c : ℕ) (touch : Touch) (k line : ℕ) (x : Context) → IsHolder P s q c touch k line x → IsHolder Q n q c touch k line x
  holder_there q c touch k line x h =
      let m = same.there h.event h.own.happened in
      let o = creates_by (act_at P h.event) (act_at Q m.event) h.order false m.alike.act h.creates in
      record {
        event = m.event;
        own = own_there P Q s n same q h.event h.own m;
        order = o.order;
        creates = o.creates;
        lends = sym o.alike.when ∙ h.lends;
        number = h.number ∙ ap (λ (y : Context). y.created) m.alike.context;
        on_line = h.on_line ∙ m.alike.on_line;
        context = h.context ∙ born_alike h.order o.order (actor P h.event).context (actor Q m.event).context o.alike m.alike.context;
        hindering = h.hindering;
        since = λ g own after waits.
            let b = same.back g own.happened in
            h.since b.event (own_there Q P n s (turned same) q g own b)
            (subst (λ (xs : List ℕ). length xs < length b.event.past) (sym m.alike.past) (subst (λ (xs : List ℕ). length m.event.past < length xs) b.alike.past after))
            (sym (waits_too (act_at Q g) (act_at P b.event) c b.alike.act) ∙ waits);
      }

  holder_named : (q : List ℕ) (c : ℕ) (touch : Touch) (k line : ℕ) (x : Context) (h : IsHolder P s q c touch k line x) → spot h.order.script ≡ seat (holder_there q c touch k line x h).order.script
  unfolding holder_there
  holder_named q c touch k line x h =
      let m = same.there h.event h.own.happened in
      (creates_by (act_at P h.event) (act_at Q m.event) h.order false m.alike.act h.creates).alike.named

module _ {S T : Type 0} {spot : S → ℕ} {seat : T → ℕ} (P : Program S) (Q : Program T) (s : State S) (n : State T) (same : StatesAlike spot seat P Q s n) where
  pub holders_there : (q : List ℕ) (c : ℕ) (touch : Touch) (k line : ℕ) (x : Context) (ks : List ℕ) → AreHolders P s q c touch k line x ks → AreHolders Q n q c touch k line x ks
  holders_there q c touch k line x ks h = record {
    first = holder_there P Q s n same q c touch k line x h.first;
    rise = h.rise;
    only = λ j i. let (m, (y, a)) = h.only j i in (m, (y, holder_there P Q s n same q c touch j m y a));
    all = λ j m y a. h.all j m y (holder_there Q P n s (turned same) q c touch j m y a);
  }

  holders_named : (q : List ℕ) (c : ℕ) (touch : Touch) (k line : ℕ) (x : Context) (ks : List ℕ) (h : AreHolders P s q c touch k line x ks)
      → spot h.first.order.script ≡ seat (holders_there q c touch k line x ks h).first.order.script
  unfolding holders_there
  holders_named q c touch k line x ks h = holder_named P Q s n same q c touch k line x h.first

  -- Asks

  deed_there : (all : List Item) (a : Ask S) (b : Ask T) (d : Deed) → AsksAlike spot seat a b → IsDeed all a d → IsDeed all b d
  deed_there all _ _ _ tick IsDeed.ticks = IsDeed.ticks
  deed_there all _ _ _ read IsDeed.reads = IsDeed.reads
  deed_there all _ _ _ write IsDeed.writes = IsDeed.writes
  deed_there all _ _ _ fold IsDeed.folds = IsDeed.folds
  deed_there all _ _ _ begin IsDeed.begins = IsDeed.begins
  deed_there all _ _ _ (create k) IsDeed.creates = IsDeed.creates
  deed_there all _ _ _ release (IsDeed.releases ps) = IsDeed.releases ps
  deed_there all _ _ _ wait_on (IsDeed.waits_on ps) = IsDeed.waits_on ps
  deed_there all _ _ _ fails IsDeed.calls = IsDeed.calls
  deed_there all _ _ _ fails IsDeed.divides = IsDeed.divides
  deed_there all _ _ _ fails IsDeed.shifts = IsDeed.shifts
  deed_there all _ _ _ fails (IsDeed.misses m) = IsDeed.misses m
  deed_there all _ _ _ await IsDeed.awaits = IsDeed.awaits
  deed_there all _ _ d wait x = elim x [ ]
  deed_there all _ _ d print x = elim x [ ]
  deed_there all _ _ d end x = elim x [ ]

  touch_there : (a : Ask S) (b : Ask T) (c : ℕ) (touch : Touch) → AsksAlike spot seat a b → AsksTouch a c touch → AsksTouch b c touch
  touch_there _ _ c touch read AsksTouch.reads = AsksTouch.reads
  touch_there _ _ c touch write AsksTouch.writes = AsksTouch.writes
  touch_there _ _ c touch fold AsksTouch.folds = AsksTouch.folds
  touch_there _ _ c touch begin x = elim x [ ]
  touch_there _ _ c touch tick x = elim x [ ]
  touch_there _ _ c touch (create k) x = elim x [ ]
  touch_there _ _ c touch await x = elim x [ ]
  touch_there _ _ c touch wait x = elim x [ ]
  touch_there _ _ c touch wait_on x = elim x [ ]
  touch_there _ _ c touch release x = elim x [ ]
  touch_there _ _ c touch print x = elim x [ ]
  touch_there _ _ c touch end x = elim x [ ]
  touch_there _ _ c touch fails x = elim x [ ]

  names_too : (a : Ask S) (b : Ask T) → AsksAlike spot seat a b → names a ≡ names b
  names_too _ _ begin = refl
  names_too _ _ tick = refl
  names_too _ _ read = refl
  names_too _ _ write = refl
  names_too _ _ fold = refl
  names_too _ _ (create k) = ap (λ (xs : List Access). λ (c : ℕ). in_clauses xs c) k.clauses
  names_too _ _ await = refl
  names_too _ _ wait = refl
  names_too _ _ wait_on = refl
  names_too _ _ release = refl
  names_too _ _ print = refl
  names_too _ _ end = refl
  names_too _ _ fails = refl

-- what holds of one order's clauses holds of those of one that is alike
of_order : {S T : Type 0} {spot : S → ℕ} {seat : T → ℕ} (F : List Access → Bool → Type 0) (o : Order S) (u : Order T) → OrdersAlike spot seat o u → F o.clauses o.last → F u.clauses u.last
of_order F o u k a = subst (λ (l : Bool). F u.clauses l) k.last (subst (λ (xs : List Access). F xs o.last) k.clauses a)

to_order : {S T : Type 0} {spot : S → ℕ} {seat : T → ℕ} (F : List Access → Bool → Type 0) (o : Order S) (u : Order T) → OrdersAlike spot seat o u → F u.clauses u.last → F o.clauses o.last
to_order F o u k a = subst (λ (l : Bool). F o.clauses l) (sym k.last) (subst (λ (xs : List Access). F xs u.last) (sym k.clauses) a)

wanted_too : {S T : Type 0} {spot : S → ℕ} {seat : T → ℕ} (kind : FaultKind) (a : Ask S) (b : Ask T) (x : Context) → AsksAlike spot seat a b → wanted kind a x ≡ wanted kind b x
wanted_too faults.Released _ _ x (create {o} {u} k) = ap (λ (y : Context). λ (c : ℕ). word_in y c) (born_alike o u x x k refl)
wanted_too faults.Released _ _ x begin = refl
wanted_too faults.Released _ _ x tick = refl
wanted_too faults.Released _ _ x read = refl
wanted_too faults.Released _ _ x write = refl
wanted_too faults.Released _ _ x fold = refl
wanted_too faults.Released _ _ x await = refl
wanted_too faults.Released _ _ x wait = refl
wanted_too faults.Released _ _ x wait_on = refl
wanted_too faults.Released _ _ x release = refl
wanted_too faults.Released _ _ x print = refl
wanted_too faults.Released _ _ x end = refl
wanted_too faults.Released _ _ x fails = refl
wanted_too faults.NotCovered _ _ x (create {o} {u} k) = ap (λ (y : Context). λ (c : ℕ). word_in y c) (born_alike o u x x k refl)
wanted_too faults.NotCovered _ _ x begin = refl
wanted_too faults.NotCovered _ _ x tick = refl
wanted_too faults.NotCovered _ _ x read = refl
wanted_too faults.NotCovered _ _ x write = refl
wanted_too faults.NotCovered _ _ x fold = refl
wanted_too faults.NotCovered _ _ x await = refl
wanted_too faults.NotCovered _ _ x wait = refl
wanted_too faults.NotCovered _ _ x wait_on = refl
wanted_too faults.NotCovered _ _ x release = refl
wanted_too faults.NotCovered _ _ x print = refl
wanted_too faults.NotCovered _ _ x end = refl
wanted_too faults.NotCovered _ _ x fails = refl
wanted_too _ a b x k = refl

module _ {S T : Type 0} {spot : S → ℕ} {seat : T → ℕ} (P : Program S) (Q : Program T) (s : State S) (n : State T) (same : StatesAlike spot seat P Q s n) (all : List Item) (f : Frame S) (h : Frame T) where
  -- a task of the second program that knows what this one does
  meant : Frame T
  meant = record { script = h.script; context = f.context; path = f.path; answers = h.answers; awaits = h.awaits }

  reason_meant : (own : ℕ → Option Word) (kind : FaultKind) (a : Ask S) (b : Ask T) (r : Reason) → AsksAlike spot seat a b → IsReason P spot s all f own kind a r → IsReason Q seat n all meant own kind b r
  unfolding meant
  reason_meant own _ _ _ _ tick IsReason.fuel = IsReason.fuel
  reason_meant own _ _ _ _ fails IsReason.frames = IsReason.frames
  reason_meant own _ _ _ _ begin IsReason.deep_before = IsReason.deep_before
  reason_meant own _ _ _ _ (create k) IsReason.deep_after = IsReason.deep_after
  reason_meant own _ _ _ _ begin IsReason.many_before = IsReason.many_before
  reason_meant own _ _ _ _ (create k) IsReason.many_after = IsReason.many_after
  reason_meant own _ _ _ _ fails IsReason.division = IsReason.division
  reason_meant own _ _ _ _ fails (IsReason.place m) = IsReason.place m
  reason_meant own _ _ _ _ await IsReason.many_awaited = IsReason.many_awaited
  reason_meant own _ _ _ _ fails IsReason.shift = IsReason.shift
  reason_meant own _ _ _ _ (create {o} {u} k) (IsReason.mixed {cells = cells} a) =
      to_order
      (λ xs l. IsReason Q seat n all (record { script = h.script; context = f.context; path = f.path; answers = h.answers; awaits = h.awaits }) own faults.MixedAccess (Create u)
      (reason.MixedAccess (once [] (clause_words (f.context.final || l) xs cells.first)) cells))
      o u k (IsReason.mixed (of_order (λ xs l. AreFailing all (is_mixed (f.context.final || l) xs) cells) o u k a))
  reason_meant own _ _ b _ k (IsReason.released {ask = a} {line} {cells} fails_at at) =
      IsReason.released (subst (λ (g : ℕ → Bool). AreFailing all (λ c. g c && is_released (right_of f.context c)) cells) (names_too P Q s n same a b k) fails_at)
      (released_there P Q s n same f.path cells.first line at)
  reason_meant own _ _ b _ k (IsReason.no_right {ask = a} {c} {touch} t) = IsReason.no_right (touch_there P Q s n same a b c touch k t)
  reason_meant own _ _ _ _ (create {o} {u} k) (IsReason.creation {w = w} {cells = cells} a e) =
      IsReason.creation (of_order (λ xs l. AreFailing all (λ c. holds_uncovered (right_of f.context c) (right_from (f.context.final || l) xs c)) cells) o u k a)
      (of_order (λ xs l. word_of (right_from (f.context.final || l) xs cells.first) (mark_from (f.context.final || l) xs cells.first) ≡ Some w) o u k e)
  reason_meant own _ _ _ _ release (IsReason.release a e) = IsReason.release a e
  reason_meant own _ _ _ _ wait_on (IsReason.wait a) = IsReason.wait a
  reason_meant own _ _ b _ k (IsReason.reduction {ask = a} {c} {touch} t e) = IsReason.reduction (touch_there P Q s n same a b c touch k t) e
  reason_meant own _ _ b _ k (IsReason.lent {ask = a} {c = c} {touch = touch} {k = number} {line = line} {x = x} {ks = ks} t hs named e) =
      IsReason.lent (touch_there P Q s n same a b c touch k t) (holders_there P Q s n same f.path c touch number line x ks hs) (named ∙ holders_named P Q s n same f.path c touch number line x ks hs) e
  reason_meant own _ _ b _ k (IsReason.unwritten {ask = a} {c} {touch} t) = IsReason.unwritten (touch_there P Q s n same a b c touch k t)

  pub explains_there : (kind : FaultKind) (line : ℕ) (e : Explained) → f.context ≡ h.context → f.path ≡ h.path → AsksAlike spot seat (ask_of P f).ask (ask_of Q h).ask
      → Explains P spot s all f kind line e → Explains Q seat n all h kind line e
  unfolding meant
  explains_there kind line e x p k is =
      let is_meant : record { script = h.script; context = f.context; path = f.path; answers = h.answers; awaits = h.awaits } ≡ h = λ i. record { script = h.script; context = x i; path = p i; answers = h.answers; awaits = h.awaits } in
      record {
        task = is.task ∙ ap written p;
        next = is.next ∙ (λ i. written ((x i).created ∷ p i));
        on_line = is.on_line;
        deed_is = deed_there P Q s n same all (ask_of P f).ask (ask_of Q h).ask e.deed k is.deed_is;
        own = is.own;
        words = subst (λ (q : List ℕ). HasWords Q n q is.own) p (words_there P Q s n same f.path is.own is.words);
        reason_is = subst (λ (g : Frame T). IsReason Q seat n all g is.own kind (ask_of Q h).ask e.reason) is_meant (reason_meant is.own kind (ask_of P f).ask (ask_of Q h).ask e.reason k is.reason_is);
        chain = subst (λ (q : List ℕ). IsChain Q seat n q e.chain) p (chain_there P Q s n same f.path e.chain is.chain);
        holds = is.holds;
        wants = subst (λ (g : ℕ → Option Word). AreHeld all g all_words e.wants) (wanted_too kind (ask_of P f).ask (ask_of Q h).ask f.context k ∙ ap (λ (y : Context). wanted kind (ask_of Q h).ask y) x) is.wants;
      }

-- The same act and the same ask

order_self : {S : Type 0} (spot : S → ℕ) (o : Order S) → OrdersAlike spot spot o o
order_self spot o = record { clauses = refl; when = refl; last = refl; named = refl }

pub act_self : {S : Type 0} (spot : S → ℕ) (a : Act S) → ActsAlike spot spot a a
act_self spot Ticked = ticked
act_self spot (Load c) = load
act_self spot (Store c v) = store
act_self spot (Folded c op v slot) = folded
act_self spot (Created o included) = created (order_self spot o)
act_self spot Awaited = awaited
act_self spot Waited = waited
act_self spot (WaitedOn named) = waited_on
act_self spot (Releases clauses included) = releases
act_self spot (Printed key text) = printed
act_self spot Ended = ended
act_self spot (Fault kind line key) = fault
act_self spot Over = over

pub ask_self : {S : Type 0} (spot : S → ℕ) (a : Ask S) → AsksAlike spot spot a a
ask_self spot Begin = begin
ask_self spot Tick = tick
ask_self spot (Read c) = read
ask_self spot (Write c v) = write
ask_self spot (Fold c op v) = fold
ask_self spot (Create o) = create (order_self spot o)
ask_self spot Await = await
ask_self spot Wait = wait
ask_self spot (WaitOn named) = wait_on
ask_self spot (Release clauses) = release
ask_self spot (Print text) = print
ask_self spot End = end
ask_self spot (Fails kind) = fails

happened_too : {S : Type 0} (s n : State S) → ((p : List ℕ) → find s.tasks p ≡ find n.tasks p) → (e : Event S) → Happened s e → Happened n e
happened_too s n same e h = record { task = h.task; at_ = sym (same e.start.path) ∙ h.at_; start = h.start; found = h.found }

event_self : {S : Type 0} (spot : S → ℕ) (P : Program S) (e : Event S) → EventsAlike spot spot P P e e
event_self spot P e = record { past = refl; context = refl; path = refl; on_line = refl; act = act_self spot (act_at P e) }

-- the order in which a state lists its tasks means nothing
pub listed_alike : {S : Type 0} (spot : S → ℕ) (P : Program S) (s n : State S) → ((p : List ℕ) → find s.tasks p ≡ find n.tasks p) → StatesAlike spot spot P P s n
listed_alike spot P s n same = record {
  there = λ e h. record { event = e; happened = happened_too s n same e h; alike = event_self spot P e };
  back = λ e h. record { event = e; happened = happened_too n s (λ p. sym (same p)) e h; alike = event_self spot P e };
}
