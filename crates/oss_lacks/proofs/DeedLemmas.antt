-- What an act of the free run is, by what the program asks there.
use Rattle.std.proofs.Common.{◌≡◌, ◌≢◌, ℕ, ◌<◌, refl, sym, subst, ap, ◌∙◌, List, ◌∷◌, length, arith, Bool, true, false}
use Rattle.std.specs.Prelude.{if◌then◌else◌, nat_le, nat_lt, slice_index}
use Rattle.std.proofs.lemmas.Bool.Decides.{nat_tests}
use Rattle.oss_syntax.specs.declared.fault.FaultKind.{FaultKind}
use Rattle.oss_syntax.specs.declared.fault.FaultKind.TheVariants as fault
use Rattle.oss_model.specs.Bodies.{Act, Ask, Frame, IsHalt, Order}
use Rattle.oss_model.specs.Bodies.Act.{Awaited, Created, Ended, Fault, Ticked}
use Rattle.oss_model.specs.Marks.{AsksFor}
use Rattle.oss_freed.specs.Freed.{freed_order}
use Rattle.oss_free_tasks.specs.declared.deed.Deed.{Deed}
use Rattle.oss_free_tasks.specs.declared.deed.Deed.TheVariants as deeds
use Rattle.oss_free_tasks.specs.Deeds.{IsDeed, IsFinding, free_deed}
use Rattle.oss_lacks.specs.Asking.{Asking, asked_by, asking, behind_ask}
use Rattle.oss_lacks.specs.Beside.{goes_on}
use Rattle.oss_lacks.specs.Nests.{Nest, with_acting}

-- The ask makes no task and ends none.
abbrev pub IsPlain : {S : Type 0} → Ask S → Type 0
IsPlain (Ask.Create o) = ⊥
IsPlain Ask.End = ⊥
IsPlain _ = Unit {0}

-- What the act of a task is that awaits one or not: it waits no more; it is a fault; the task goes on; it creates one; or it ends. The limits hold there.
pub data Told {S : Type 0} (n depth created : ℕ) (final : Bool) (a : Act S) (q : Ask S) : Bool → Type 0 where
  waits : a ≡ Awaited → Told n depth created final a q true
  stops : {b : Bool} → IsHalt a → Told n depth created final a q b
  on : IsPlain q → ((c : ℕ) → AsksFor q c → c < n) → (IsHalt a → ⊥) → a ≢ Ended → ((o : Order S) (i : Bool) → a ≢ Created o i) → a ≢ Awaited → Told n depth created final a q false
  creates : (o : Order S) → q ≡ Ask.Create o → a ≡ Created (freed_order n o) final → depth < 64 → created < 65535 → Told n depth created final a q false
  ends : q ≡ Ask.End → a ≡ Ended → Told n depth created final a q false

module _ {S : Type 0} (n : ℕ) (f : Frame S) (a : Act S) (cells : List ℕ) where
  halted : (q : Ask S) {kind : FaultKind} {line : ℕ} → IsDeed n f a q cells (deeds.Stops kind line) → IsHalt a
  halted q (key, e) = subst IsHalt (sym e) tt

  never_awaited : (q : Ask S) (v : ℕ) → IsFinding f a q cells v → a ≢ Awaited
  never_awaited q v d e =
      let x : (Rattle.oss_model.specs.Bodies.frame_after a v f).answers ≡ v ∷ f.answers = d.after.answers in
      let y : f.answers ≡ v ∷ f.answers = subst (λ (b : Act S). (Rattle.oss_model.specs.Bodies.frame_after b v f).answers ≡ v ∷ f.answers) e x in
      let z = ap (λ (xs : List ℕ). length xs) y in
      absurd (omega (arith, z))

  module _ (depth created : ℕ) (line : ℕ) where
    found : (q : Ask S) (v : ℕ) → IsPlain q → ((c : ℕ) → AsksFor q c → c < n) → IsFinding f a q cells v → Told n depth created f.context.final a q false
    found q v p inside d = on p inside d.goes d.stays d.alone (never_awaited q v d)

    touched : (q : Ask S) (c v : ℕ) → IsPlain q → ((x : ℕ) → AsksFor q x → c ≡ x) → (b : Bool) → nat_lt c n ≡ b → IsDeed n f a q cells (if b then deeds.Finds v else deeds.Stops fault.NoRight line) → Told n depth created f.context.final a q false
    touched q c v p one true e d = let l : c < n = grind (arith, nat_tests, e) in found q v p (λ x h. subst (λ (k : ℕ). k < n) (one x h) l) d
    touched q c v p one false e d = stops (halted q d)

    begins : (q : Ask S) (x y : Bool) → IsDeed n f a q cells (if x then deeds.Stops fault.TooDeep line else if y then deeds.Stops fault.TooManyTasks line else deeds.Stops fault.TooManyTasks line) → IsHalt a
    begins q true y d = halted q d
    begins q false true d = halted q d
    begins q false false d = halted q d

    created_one : (q : Ask S) (x y : Bool) → nat_le 64 depth ≡ x → nat_le 65535 created ≡ y
        → IsDeed n f a q cells (if x then deeds.Stops fault.TooDeep line else if y then deeds.Stops fault.TooManyTasks line else deeds.Creates) → Told n depth created f.context.final a q false
    created_one q true y e k d = stops (halted q d)
    created_one q false true e k d = stops (halted q d)
    created_one q false false e k (o, is, act, calm) = creates o is act (grind (arith, nat_tests, e)) (grind (arith, nat_tests, k))

    ticked : (b : Bool) → IsDeed n f a Ask.Tick cells (if b then deeds.Ticks else deeds.Stops fault.OutOfFuel line) → Told n depth created f.context.final a Ask.Tick false
    ticked true d = on tt (λ c h. absurd h) (λ h. subst IsHalt d h) (λ e. let x : Ticked ≡ Ended = sym d ∙ e in cc) (λ o i e. let x : Ticked ≡ Created o i = sym d ∙ e in cc) (λ e. let x : Ticked ≡ Awaited = sym d ∙ e in cc)
    ticked false d = stops (halted Ask.Tick d)

    pub told : (fuel ticks : ℕ) (q : Ask S) (b : Bool) → IsDeed n f a q cells (free_deed n fuel depth ticks created b cells q line) → Told n depth created f.context.final a q b
    told fuel ticks q true d = waits d
    told fuel ticks Ask.Begin false d = stops (begins Ask.Begin (nat_le 64 depth) (nat_le 65535 created) d)
    told fuel ticks Ask.Tick false d = ticked (nat_lt ticks fuel) d
    told fuel ticks (Ask.Read c) false d = touched (Ask.Read c) c (slice_index cells c) tt (λ x h. h) (nat_lt c n) refl d
    told fuel ticks (Ask.Write c v) false d = touched (Ask.Write c v) c 0 tt (λ x h. h) (nat_lt c n) refl d
    told fuel ticks (Ask.Fold c op v) false d = touched (Ask.Fold c op v) c 0 tt (λ x h. h) (nat_lt c n) refl d
    told fuel ticks (Ask.Create o) false d = created_one (Ask.Create o) (nat_le 64 depth) (nat_le 65535 created) refl refl d
    told fuel ticks Ask.Await false d = stops (halted Ask.Await d)
    told fuel ticks Ask.Wait false d = found Ask.Wait 0 tt (λ c h. absurd h) d
    told fuel ticks (Ask.WaitOn named) false d = found (Ask.WaitOn named) 0 tt (λ c h. absurd h) d
    told fuel ticks (Ask.Release clauses) false d = found (Ask.Release clauses) 0 tt (λ c h. absurd h) d
    told fuel ticks (Ask.Print text) false d = found (Ask.Print text) 0 tt (λ c h. absurd h) d
    told fuel ticks Ask.End false d = ends refl d
    told fuel ticks (Ask.Fails kind) false d = stops (halted (Ask.Fails kind) d)

  -- the deed tells whether the task does what it asks
  goes_of : (q : Ask S) (d : Deed) → goes_on d ≡ true → IsDeed n f a q cells d → (IsHalt a → ⊥) × (a ≢ Awaited)
  goes_of q deeds.Ticks e h = (λ x. subst IsHalt h x, λ x. let y : Ticked ≡ Awaited = sym h ∙ x in cc)
  goes_of q deeds.Awaits e h = let x : false ≡ true = e in absurd cc
  goes_of q (deeds.Finds v) e h = (h.goes, never_awaited q v h)
  goes_of q deeds.Creates e (o, is, act, calm) = (λ x. subst IsHalt act x, λ x. let y : Created (freed_order n o) f.context.final ≡ Awaited = sym act ∙ x in cc)
  goes_of q deeds.Ends e h = (λ x. subst IsHalt h x, λ x. let y : Ended ≡ Awaited = sym h ∙ x in cc)
  goes_of q (deeds.Stops kind line) e h = let x : false ≡ true = e in absurd cc

  pub acts_on : (depth created : ℕ) (q : Ask S) (b : Bool) (d : Deed) → Told n depth created f.context.final a q b → goes_on d ≡ true → IsDeed n f a q cells d → (IsHalt a → ⊥) × (b ≡ false)
  acts_on depth created q _ d (waits e) g h = absurd ((goes_of q d g h).1 e)
  acts_on depth created q b d (stops x) g h = absurd ((goes_of q d g h).0 x)
  acts_on depth created q _ d (on p i go k l m) g h = (go, refl)
  acts_on depth created q _ d (creates o is act x y) g h = ((goes_of q d g h).0, refl)
  acts_on depth created q _ d (ends is act) g h = ((goes_of q d g h).0, refl)

  pub stays_still : (depth created : ℕ) (q : Ask S) (b : Bool) (d : Deed) → Told n depth created f.context.final a q b → goes_on d ≡ false → IsDeed n f a q cells d → (IsHalt a → ⊥) → b ≡ true
  stays_still depth created q b deeds.Ticks t g h go = let x : true ≡ false = g in absurd cc
  stays_still depth created q b (deeds.Finds v) t g h go = let x : true ≡ false = g in absurd cc
  stays_still depth created q b deeds.Creates t g h go = let x : true ≡ false = g in absurd cc
  stays_still depth created q b deeds.Ends t g h go = let x : true ≡ false = g in absurd cc
  stays_still depth created q b (deeds.Stops kind line) t g h go = absurd (go (halted q h))
  stays_still depth created q b deeds.Awaits t g h go = awaited b t h go
    where
      awaited : (b : Bool) → Told n depth created f.context.final a q b → a ≡ Awaited → (IsHalt a → ⊥) → b ≡ true
      awaited _ (waits e) w go = refl
      awaited b (stops x) w go = absurd (go x)
      awaited _ (on p i x k l m) w go = absurd (m w)
      awaited _ (creates o is act x y) w go = let z : Created (freed_order n o) f.context.final ≡ Awaited = sym act ∙ w in absurd cc
      awaited _ (ends is act) w go = let z : Ended ≡ Awaited = sym act ∙ w in absurd cc

-- An ask that makes no task and ends none changes what is known of the task that acts alone.
pub plain_behind : {S : Type 0} (f : Frame S) (q : Ask S) (line : ℕ) (n : Nest Asking) → IsPlain q → behind_ask f q line n ≡ with_acting (asking (asked_by q) n.acting.task) n
plain_behind f Ask.Begin line n p = refl
plain_behind f Ask.Tick line n p = refl
plain_behind f (Ask.Read c) line n p = refl
plain_behind f (Ask.Write c v) line n p = refl
plain_behind f (Ask.Fold c op v) line n p = refl
plain_behind f (Ask.Create o) line n p = absurd p
plain_behind f Ask.Await line n p = refl
plain_behind f Ask.Wait line n p = refl
plain_behind f (Ask.WaitOn named) line n p = refl
plain_behind f (Ask.Release clauses) line n p = refl
plain_behind f (Ask.Print text) line n p = refl
plain_behind f Ask.End line n p = absurd p
plain_behind f (Ask.Fails kind) line n p = refl
