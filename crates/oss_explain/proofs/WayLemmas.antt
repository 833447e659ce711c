-- What is noted by an act is right at the stage behind it.
use Rattle.std.proofs.Common.{◌≡◌, ℕ, ◌+◌, ◌≤◌, ◌⊎◌, inl, inr, refl, sym, subst, ap, ◌∙◌, List, [], ◌∷◌, ◌++◌, reverse, arith, Bool, true, false}
use Rattle.std.specs.Prelude.{◌&&◌, if◌then◌else◌, not}
use Rattle.std.proofs.lemmas.List.{reverse-append}
use Rattle.oss_syntax.specs.declared.access.Access.{Access}
use Rattle.oss_syntax.specs.declared.access.Range.{Range}
use Rattle.oss_model.specs.Agreement.{MainStarts}
use Rattle.oss_model.specs.Bodies.{Act, Frame, Order, Program, Start, ask_of}
use Rattle.oss_model.specs.Bodies.Act.{Created, Ended, Releases, Waited}
use Rattle.oss_model.specs.Context.{Context, child_context, right_of}
use Rattle.oss_model.specs.Memory.{Event}
use Rattle.oss_model.specs.Order.{IsIn, IsSuffix, whole}
use Rattle.oss_model.specs.Rights.{Touch}
use Rattle.oss_model.specs.Sequence.{Running, RunsOn}
use Rattle.oss_model.proofs.OrderLemmas.{suffix_drop}
use Rattle.oss_model.proofs.SequenceLemmas.{Stands, not_itself}
use Rattle.oss_audit.proofs.PathLemmas.{child_point}
use Rattle.oss_audit.specs.Auditing.{place_in}
use Rattle.oss_audit.specs.Trails.{Place, above, place_next}
use Rattle.oss_machine.specs.Asks.{meant_order}
use Rattle.oss_machine.specs.Frames.{CodeScript}
use Rattle.oss_body.specs.declared.act.Act.{Act as CodeAct}
use Rattle.oss_body.specs.declared.act.Act.TheVariants as acts
use Rattle.oss_body.specs.declared.act.Creation.{Creation}
use Rattle.oss_body.specs.Acts.{HasContext, act_seen, context_of}
use Rattle.oss_explain.specs.declared.begun.Begun.{Begun}
use Rattle.oss_explain.specs.declared.begun.Child.{Child}
use Rattle.oss_explain.specs.declared.begun.Noted.{Noted}
use Rattle.oss_explain.specs.declared.begun.Noted.TheVariants as notes
use Rattle.oss_explain.specs.declared.begun.ReleasedAt.{ReleasedAt}
use Rattle.oss_explain.specs.declared.ledger.Ledger.{Ledger}
use Rattle.oss_explain.specs.Ledgers.{AreAccesses, IsBegun, IsEnded, IsLentWhen, IsNoted, lends}
use Rattle.oss_explanation.specs.Lives.{IsEventOf, hinders, waits_for}
use Rattle.oss_explain.specs.Noting.{AreHeldBy, AreOnWay, IsBorn, IsRight, RiseTo, at_child, at_main, hindering, in_ranges, may_hinder}
use Rattle.oss_explain.specs.Ways.{entry_of}
use Rattle.oss_explain.proofs.HinderingLemmas.{hindering_more, hinders_held, rise_more, rise_up}
use Rattle.oss_explain.proofs.NotingLemmas as notings
use Rattle.oss_explain.proofs.NotingLemmas.{IsQuiet, LendsNow, above_still, back, born_forth, born_here, held_cleared, held_more, held_still, none_released, one_released, right_next, right_still}

never : (b : Bool) → b ≡ true → b ≡ false → ⊥
never b h k = let e : true ≡ false = sym h ∙ k in cc

order_same : {S : Type 0} (o p : Order S) (i j : Bool) → ◌≡◌ {A = Act S} (Created o i) (Created p j) → o ≡ p
order_same o p i j e = cc

included_same : {S : Type 0} (o p : Order S) (i j : Bool) → ◌≡◌ {A = Act S} (Created o i) (Created p j) → i ≡ j
included_same o p i j e = cc

module _ (P : Program CodeScript) (main : Start CodeScript) (ms : MainStarts main) (z y : Running CodeScript) (st : Stands P main z) (r : RunsOn P z y) where
  abbrev f : Frame CodeScript
  f = notings.f P main ms z y st r

  abbrev now : Act CodeScript
  now = notings.now P main ms z y st r

  abbrev line_now : ℕ
  line_now = (ask_of P f).line

  top_right : (q : List ℕ) (count : ℕ) (b : Begun) (rest : List Begun) → AreOnWay P z.state q count (b ∷ rest) → IsRight P z.state q count b
  top_right q count b rest (at_main h e) = h
  top_right q count b rest (at_child h born more) = h

  lane : (q : List ℕ) (count : ℕ) → q ≡ f.path → (j : ℕ) → count ≤ j → IsSuffix (j ∷ q) f.path → ⊥
  lane q count p j l s = not_itself s p

  -- the task that acts, with other notes
  top_next : (q : List ℕ) (count more : ℕ) (b : Begun) (rs : List ReleasedAt) (ns : List Noted) (rest : List Begun) → q ≡ f.path → IsRight P y.state q more (record b { released = rs; noted = ns }) → AreOnWay P z.state q count (b ∷ rest)
      → AreOnWay P y.state q more (record b { released = rs; noted = ns } ∷ rest)
  top_next [] count more b rs ns rest p g (at_main h e) = at_main g e
  top_next (k ∷ q) count more b rs ns rest p g (at_child h born above) =
      let n = born_forth P main ms z y st r (k ∷ q) b born in
      at_child g (record { context = n.context; created = n.created; accesses = n.accesses; entry = n.entry }) (above_still P main ms z y st r k q (subst (λ (x : List ℕ). IsSuffix (k ∷ q) x) p whole) above)

  -- an act of which nothing is noted
  way_still : (q : List ℕ) (count : ℕ) (b : Begun) (rest : List Begun) → q ≡ f.path → IsQuiet P main ms z y st r → AreOnWay P z.state q count (b ∷ rest) → AreOnWay P y.state q count (b ∷ rest)
  way_still [] count b rest p quiet (at_main h e) = at_main (right_still P main ms z y st r [] count count b (λ x. quiet) (omega arith) (lane [] count p) h.rise h) e
  way_still (k ∷ q) count b rest p quiet (at_child h born above) =
      at_child (right_still P main ms z y st r (k ∷ q) count count b (λ x. quiet) (omega arith) (lane (k ∷ q) count p) h.rise h)
      (born_forth P main ms z y st r (k ∷ q) b born) (above_still P main ms z y st r k q (subst (λ (x : List ℕ). IsSuffix (k ∷ q) x) p whole) above)

  -- A release

  way_released : (clauses : List Access) (included : Bool) (b : Begun) (rest : List Begun) → now ≡ Releases clauses included → AreOnWay P z.state f.path f.context.created (b ∷ rest)
      → AreOnWay P y.state f.path f.context.created (record b { released = b.released ++ record { line = line_now; clauses = clauses } ∷ [] } ∷ rest)
  way_released clauses included b rest e h =
      top_next f.path f.context.created f.context.created b (b.released ++ record { line = line_now; clauses = clauses } ∷ []) b.noted rest refl right h
    where
      old : IsRight P z.state f.path f.context.created b
      old = top_right f.path f.context.created b rest h

      waits : (a : Act CodeScript) → a ≡ Releases clauses included → (c : ℕ) → waits_for a c ≡ false
      waits a k c = rw k refl

      lending : (c : ℕ) (touch : Touch) → LendsNow P main ms z y st r c touch → ⊥
      lending c touch l = let k : ◌≡◌ {A = Act CodeScript} (Releases clauses included) (Created l.0 false) = sym e ∙ l.1.0 in cc

      right : IsRight P y.state f.path f.context.created (record b { released = b.released ++ record { line = line_now; clauses = clauses } ∷ []; noted = b.noted })
      right =
          right_next P main ms z y st r f.path f.context.created f.context.created b (record b { released = b.released ++ record { line = line_now; clauses = clauses } ∷ []; noted = b.noted }) refl
          (one_released P main ms z y st r b.released clauses included e)
          (λ c touch. held_still P main ms z y st r f.path c touch (hindering c touch b.noted) (λ p. waits now e c) (λ p. lending c touch) (old.held c touch))
          old.rise (omega arith) (lane f.path f.context.created refl) old

  -- A wait

  way_waited : (b : Begun) (rest : List Begun) → now ≡ Waited → AreOnWay P z.state f.path f.context.created (b ∷ rest) → AreOnWay P y.state f.path f.context.created (record b { noted = [] } ∷ rest)
  way_waited b rest e h = top_next f.path f.context.created f.context.created b b.released [] rest refl right h
    where
      old : IsRight P z.state f.path f.context.created b
      old = top_right f.path f.context.created b rest h

      waits : (a : Act CodeScript) → a ≡ Waited → (c : ℕ) → waits_for a c ≡ true
      waits a k c = rw k refl

      releasing : (clauses : List Access) (included : Bool) → now ≡ Releases clauses included → ⊥
      releasing clauses included x = let k : ◌≡◌ {A = Act CodeScript} Waited (Releases clauses included) = sym e ∙ x in cc

      right : IsRight P y.state f.path f.context.created (record b { released = b.released; noted = [] })
      right =
          right_next P main ms z y st r f.path f.context.created f.context.created b (record b { released = b.released; noted = [] }) refl
          (none_released P main ms z y st r f.path b.released (λ p. releasing))
          (λ c touch. held_cleared P main ms z y st r c touch (waits now e c)) (λ c touch. tt) (omega arith) (lane f.path f.context.created refl) old

  way_waited_on : (ranges : List Range) (b : Begun) (rest : List Begun) → now ≡ act_seen (acts.WaitOn ranges) → AreOnWay P z.state f.path f.context.created (b ∷ rest)
      → AreOnWay P y.state f.path f.context.created (record b { noted = b.noted ++ notes.WaitedOn ranges ∷ [] } ∷ rest)
  way_waited_on ranges b rest e h = top_next f.path f.context.created f.context.created b b.released (b.noted ++ notes.WaitedOn ranges ∷ []) rest refl right h
    where
      old : IsRight P z.state f.path f.context.created b
      old = top_right f.path f.context.created b rest h

      waits : (a : Act CodeScript) → a ≡ act_seen (acts.WaitOn ranges) → (c : ℕ) → waits_for a c ≡ in_ranges ranges c
      waits a k c = rw k refl

      lending : (c : ℕ) (touch : Touch) → LendsNow P main ms z y st r c touch → ⊥
      lending c touch l = let k : ◌≡◌ {A = Act CodeScript} (act_seen (acts.WaitOn ranges)) (Created l.0 false) = sym e ∙ l.1.0 in cc

      releasing : (clauses : List Access) (included : Bool) → now ≡ Releases clauses included → ⊥
      releasing clauses included x = let k : ◌≡◌ {A = Act CodeScript} (act_seen (acts.WaitOn ranges)) (Releases clauses included) = sym e ∙ x in cc

      held : (c : ℕ) (touch : Touch) → (w : Bool) → in_ranges ranges c ≡ w → AreHeldBy P y.state f.path c touch (if w then [] else hindering c touch b.noted)
      held c touch true k = held_cleared P main ms z y st r c touch (waits now e c ∙ k)
      held c touch false k = held_still P main ms z y st r f.path c touch (hindering c touch b.noted) (λ p. waits now e c ∙ k) (λ p. lending c touch) (old.held c touch)

      rise : (c : ℕ) (touch : Touch) → (w : Bool) → RiseTo f.context.created (if w then [] else hindering c touch b.noted)
      rise c touch true = tt
      rise c touch false = old.rise c touch

      right : IsRight P y.state f.path f.context.created (record b { released = b.released; noted = b.noted ++ notes.WaitedOn ranges ∷ [] })
      right =
          right_next P main ms z y st r f.path f.context.created f.context.created b (record b { released = b.released; noted = b.noted ++ notes.WaitedOn ranges ∷ [] }) refl
          (none_released P main ms z y st r f.path b.released (λ p. releasing))
          (λ c touch. subst (λ (ks : List Child). AreHeldBy P y.state f.path c touch ks) (sym (hindering_more c touch [] b.noted (notes.WaitedOn ranges))) (held c touch (in_ranges ranges c) refl))
          (λ c touch. subst (λ (ks : List Child). RiseTo f.context.created ks) (sym (hindering_more c touch [] b.noted (notes.WaitedOn ranges))) (rise c touch (in_ranges ranges c)))
          (omega arith) (lane f.path f.context.created refl) old

  -- A creation

  module _ (o : Order CodeScript) (included : Bool) (e : now ≡ Created o included) where
    abbrev count : ℕ
    count = f.context.created

    abbrev born : Context
    born = child_context f.context o.clauses o.last

    waits_none : (a : Act CodeScript) → a ≡ Created o included → (c : ℕ) → waits_for a c ≡ false
    waits_none a k c = rw k refl

    releases_none : (clauses : List Access) (i : Bool) → now ≡ Releases clauses i → ⊥
    releases_none clauses i x = let k : ◌≡◌ {A = Act CodeScript} (Created o included) (Releases clauses i) = sym e ∙ x in cc

    waits_now : (c : ℕ) → waits_for now c ≡ false
    waits_now c = waits_none now e c

    -- of a cell that the child has no right to that hinders the touch nothing is lent
    lends_not : (c : ℕ) (touch : Touch) → hinders touch (right_of born c) ≡ false → LendsNow P main ms z y st r c touch → ⊥
    lends_not c touch none l =
        let k : l.0 ≡ o = order_same l.0 o false included (sym l.1.0 ∙ e) in
        never (hinders touch (right_of born c)) (subst (λ (x : Order CodeScript). hinders touch (right_of (child_context f.context x.clauses x.last) c) ≡ true) k l.1.2) none

    -- The creator

    module _ (b : Begun) (h : IsRight P z.state f.path count b) where
      plain_creator : (lends_it : Bool) → lends_it ≡ false → (included ≡ false → o.when ≡ true → lends_it ≡ true) → IsRight P y.state f.path (count + 1) b
      plain_creator lends_it none lends_so =
          right_still P main ms z y st r f.path count (count + 1) b (λ p. record { waits = waits_now; lends = λ c touch l. lending c touch l; releases = releases_none }) (omega arith) (lane f.path (count + 1) refl)
          (λ c touch. rise_up count (count + 1) (hindering c touch b.noted) (omega arith) (h.rise c touch)) h
        where
          lending : (c : ℕ) (touch : Touch) → LendsNow P main ms z y st r c touch → ⊥
          lending c touch l =
              let k : l.0 ≡ o = order_same l.0 o false included (sym l.1.0 ∙ e) in
              let i : false ≡ included = included_same l.0 o false included (sym l.1.0 ∙ e) in
              never lends_it (lends_so (sym i) (ap (λ (x : Order CodeScript). x.when) (sym k) ∙ l.1.1)) none

      lending_creator : (k : Child) → included ≡ false → o.when ≡ true → k.number ≡ count → k.line ≡ line_now → k.entry ≡ entry_of o.script → AreAccesses k.accesses born
          → IsRight P y.state f.path (count + 1) (record b { released = b.released; noted = b.noted ++ notes.Lent k ∷ [] })
      lending_creator k i when number line entry accesses =
          right_next P main ms z y st r f.path count (count + 1) b (record b { released = b.released; noted = b.noted ++ notes.Lent k ∷ [] }) refl
          (none_released P main ms z y st r f.path b.released (λ p. releases_none))
          (λ c touch. subst (λ (ks : List Child). AreHeldBy P y.state f.path c touch ks) (sym (hindering_more c touch [] b.noted (notes.Lent k))) (held c touch (may_hinder touch c k) refl))
          (λ c touch. subst (λ (ks : List Child). RiseTo (count + 1) ks) (sym (hindering_more c touch [] b.noted (notes.Lent k))) (rise c touch (may_hinder touch c k)))
          (omega arith) (lane f.path (count + 1) refl) h
        where
          outside : now ≡ Created o false
          outside = e ∙ ap (λ (x : Bool). Created o x) i

          same : (c : ℕ) (touch : Touch) → may_hinder touch c k ≡ hinders touch (right_of born c)
          same c touch = ap (hinders touch) (accesses.rights c) ∙ hinders_held touch (right_of born c)

          held : (c : ℕ) (touch : Touch) (w : Bool) → may_hinder touch c k ≡ w → AreHeldBy P y.state f.path c touch (if w then hindering c touch b.noted ++ k ∷ [] else hindering c touch b.noted)
          held c touch true m =
              held_more P main ms z y st r c touch (hindering c touch b.noted) k o outside when (waits_now c) number line entry accesses (sym (same c touch) ∙ m) (h.held c touch)
          held c touch false m =
              held_still P main ms z y st r f.path c touch (hindering c touch b.noted) (λ p. waits_now c) (λ p. lends_not c touch (sym (same c touch) ∙ m)) (h.held c touch)

          rise : (c : ℕ) (touch : Touch) (w : Bool) → RiseTo (count + 1) (if w then hindering c touch b.noted ++ k ∷ [] else hindering c touch b.noted)
          rise c touch true = rise_more count (count + 1) (hindering c touch b.noted) k (h.rise c touch) (omega (arith, number)) (omega (arith, number))
          rise c touch false = rise_up count (count + 1) (hindering c touch b.noted) (omega arith) (h.rise c touch)

      -- The new task

      nothing_yet : (p : List ℕ) (g : Event CodeScript) → IsSuffix (count ∷ f.path) p → IsEventOf P y.state p g → ⊥
      nothing_yet p g s i = go (back P main ms z y st r p g i)
        where
          go : IsEventOf P z.state p g ⊎ ((g ≡ notings.ev P main ms z y st r) × (p ≡ f.path)) → ⊥
          go (inl k) = h.fresh count p g (omega arith) s k
          go (inr (k, x)) = not_itself s (sym x)

      none_held : (c : ℕ) (touch : Touch) → AreHeldBy P y.state (count ∷ f.path) c touch []
      none_held c touch = record { only = λ k i. absurd (elim i [ ]); all = λ j n x g. absurd (nothing_yet (count ∷ f.path) g.event whole g.own) }

      new_right : (k : Begun) → k.point ≡ b.point ++ count ∷ [] → k.released ≡ [] → k.noted ≡ [] → IsRight P y.state (count ∷ f.path) 0 k
      new_right k point released noted =
          record {
            point = point ∙ ap (λ (x : List ℕ). x ++ count ∷ []) h.point ∙ child_point f.path count;
            released = λ x i c m. absurd (nothing x (subst (λ (xs : List ReleasedAt). IsIn x xs) released i));
            all_released = λ c line x. absurd (nothing_yet (count ∷ f.path) x.event whole x.own);
            held = λ c touch. subst (λ (ns : List Noted). AreHeldBy P y.state (count ∷ f.path) c touch (hindering c touch ns)) (sym noted) (none_held c touch);
            rise = λ c touch. subst (λ (ns : List Noted). RiseTo 0 (hindering c touch ns)) (sym noted) tt;
            fresh = λ j p g l s i. nothing_yet p g (suffix_drop s) i;
          }
        where
          nothing : (x : ReleasedAt) → IsIn x [] → ⊥
          nothing x i = elim i [ ]

    new_born : (k : Begun) → k.included ≡ included → k.line ≡ line_now → k.entry ≡ entry_of o.script → AreAccesses k.accesses born → IsBorn P y.state (count ∷ f.path) k
    new_born k i line entry accesses = born_here P main ms z y st r o included k e i line entry accesses

    way_created : (b c k : Begun) (rest : List Begun) → (rs : List ReleasedAt) (ns : List Noted) → c ≡ record b { released = rs; noted = ns } → IsRight P y.state f.path (count + 1) (record b { released = rs; noted = ns })
        → IsRight P y.state (count ∷ f.path) 0 k → IsBorn P y.state (count ∷ f.path) k → AreOnWay P z.state f.path count (b ∷ rest) → AreOnWay P y.state (count ∷ f.path) 0 (k ∷ c ∷ rest)
    way_created b c k rest rs ns same creator child is_born h =
        at_child child is_born (subst (λ (x : Begun). AreOnWay P y.state f.path (count + 1) (x ∷ rest)) (sym same) (top_next f.path count (count + 1) b rs ns rest refl creator h))

  -- An end

  way_ended : (q : List ℕ) (count : ℕ) (b : Begun) (rest : List Begun) (a : Begun) → q ≡ f.path → AreOnWay P z.state q count (b ∷ a ∷ rest)
      → AreOnWay P y.state (above q count).path (above q count).created (a ∷ rest)
  way_ended [] count b rest a p x = elim x [ ]
  way_ended (k ∷ q) count b rest a p (at_child h born more) = above_still P main ms z y st r k q (subst (λ (x : List ℕ). IsSuffix (k ∷ q) x) p whole) more

  main_path : (q : List ℕ) (count : ℕ) (b : Begun) → AreOnWay P z.state q count (b ∷ []) → q ≡ []
  main_path q count b (at_main h e) = refl
  main_path q count b (at_child h born more) = elim more [ ]

  -- All acts

  -- what is noted of the tasks on the way to where the run stands
  abbrev AreOnWayTo : Place → Ledger → Type 0
  AreOnWayTo at l = AreOnWay P y.state at.path at.created (l.top ∷ reverse l.above)

  abbrev WasOnWay : Ledger → Type 0
  WasOnWay l = AreOnWay P z.state f.path f.context.created (l.top ∷ reverse l.above)

  quiet_now : (a : Act CodeScript) → a ≡ now → ((c : ℕ) → waits_for a c ≡ false) → ((o : Order CodeScript) (i : Bool) → a ≡ Created o i → ⊥) → ((clauses : List Access) (i : Bool) → a ≡ Releases clauses i → ⊥) → IsQuiet P main ms z y st r
  quiet_now a e waits creates releases =
      record {
        waits = λ c. subst (λ (x : Act CodeScript). waits_for x c ≡ false) e (waits c);
        lends = λ c touch l. creates l.0 false (e ∙ l.1.0);
        releases = λ clauses i k. releases clauses i (e ∙ k);
      }

  note_silent : (a : Act CodeScript) (l m : Ledger) → a ≡ now → ((c : ℕ) → waits_for a c ≡ false) → ((o : Order CodeScript) (i : Bool) → a ≡ Created o i → ⊥) → ((clauses : List Access) (i : Bool) → a ≡ Releases clauses i → ⊥)
      → m ≡ l → WasOnWay l → AreOnWayTo (place_in f) m
  note_silent a l m e waits creates releases same h =
      subst (λ (x : Ledger). AreOnWayTo (place_in f) x) (sym same) (way_still f.path f.context.created l.top (reverse l.above) refl (quiet_now a e waits creates releases) h)

  note_ended : (l m : Ledger) → now ≡ Ended → IsEnded l m → WasOnWay l → AreOnWayTo (above f.path f.context.created) m
  note_ended l m e (inl up) h =
      way_ended f.path f.context.created l.top (reverse m.above) m.top refl
      (subst (λ (xs : List Begun). AreOnWay P z.state f.path f.context.created (l.top ∷ xs)) (ap (λ (xs : List Begun). reverse xs) up ∙ reverse-append m.above (m.top ∷ [])) h)
  note_ended l m e (inr (none, same)) h =
      subst (λ (x : Ledger). AreOnWayTo (above f.path f.context.created) x) (sym same) (stays f.path f.context.created root (way_still f.path f.context.created l.top (reverse l.above) refl quiet h))
    where
      root : f.path ≡ []
      root = main_path f.path f.context.created l.top (subst (λ (xs : List Begun). AreOnWay P z.state f.path f.context.created (l.top ∷ reverse xs)) none h)

      quiet : IsQuiet P main ms z y st r
      quiet = quiet_now Ended (sym e) (λ c. refl) (λ o i k. cc) (λ clauses i k. cc)

      stays : (q : List ℕ) (count : ℕ) → q ≡ [] → AreOnWay P y.state q count (l.top ∷ reverse l.above) → AreOnWay P y.state (above q count).path (above q count).created (l.top ∷ reverse l.above)
      stays [] count k g = g
      stays (x ∷ q) count k g = absurd cc

  note_begun : (creation : Creation) (included : Bool) (l m : Ledger) → act_seen (acts.Create creation included) ≡ now → HasContext f.context (acts.Create creation included)
      → IsBegun creation included line_now f.context.created l m → WasOnWay l → AreOnWayTo (record { path = f.context.created ∷ f.path; created = 0 }) m
  note_begun creation included l m e context g h = go (lends creation included) refl g.lent
    where
      o : Order CodeScript
      o = meant_order creation.order

      old : IsRight P z.state f.path f.context.created l.top
      old = top_right f.path f.context.created l.top (reverse l.above) h

      list : reverse m.above ≡ g.between.top ∷ reverse g.between.above
      list = ap (λ (xs : List Begun). reverse xs) g.above ∙ reverse-append g.between.above (g.between.top ∷ [])

      born_as : (xs : List Access) → AreAccesses xs (context_of creation) → AreAccesses xs (child_context f.context creation.order.accesses creation.order.last)
      born_as xs a = subst (λ (x : Context). AreAccesses xs x) context a

      -- both tasks are put together
      made : (rs : List ReleasedAt) (ns : List Noted) → g.between.top ≡ record l.top { released = rs; noted = ns } → g.between.above ≡ l.above
          → IsRight P y.state f.path (f.context.created + 1) (record l.top { released = rs; noted = ns }) → AreOnWayTo (record { path = f.context.created ∷ f.path; created = 0 }) m
      made rs ns top above creator =
          let point : m.top.point ≡ l.top.point ++ f.context.created ∷ [] = g.child.point ∙ ap (λ (x : Begun). x.point ++ f.context.created ∷ []) top in
          subst (λ (xs : List Begun). AreOnWay P y.state (f.context.created ∷ f.path) 0 (m.top ∷ xs)) (sym (list ∙ ap (λ (xs : List Begun). g.between.top ∷ reverse xs) above))
          (way_created (meant_order creation.order) included (sym e) l.top g.between.top m.top (reverse l.above) rs ns top creator
          (new_right (meant_order creation.order) included (sym e) l.top (top_right f.path f.context.created l.top (reverse l.above) h) m.top point g.child.released g.child.noted)
          (new_born (meant_order creation.order) included (sym e) m.top g.child.is_included g.child.on_line g.child.entry (born_as m.top.accesses g.child.accesses)) h)

      told : (i w : Bool) → (not i && w) ≡ true → (i ≡ false) × (w ≡ true)
      told true w k = absurd cc
      told false w k = (refl, k)

      untold : (i w lends_it : Bool) → (not i && w) ≡ lends_it → i ≡ false → w ≡ true → lends_it ≡ true
      untold true w lends_it k x u = absurd cc
      untold false w lends_it k x u = sym k ∙ u

      go : (lends_it : Bool) → lends creation included ≡ lends_it → IsLentWhen lends_it creation line_now f.context.created l g.between → AreOnWayTo (record { path = f.context.created ∷ f.path; created = 0 }) m
      go true k lent =
          let t = told included creation.order.when k in
          made l.top.released (l.top.noted ++ notes.Lent lent.child ∷ []) (ap (λ (x : Ledger). x.top) lent.added) (ap (λ (x : Ledger). x.above) lent.added)
          (lending_creator (meant_order creation.order) included (sym e) l.top (top_right f.path f.context.created l.top (reverse l.above) h) lent.child t.0 t.1 lent.is.number_is lent.is.on_line lent.is.entry (born_as lent.child.accesses lent.is.accesses))
      go false k same =
          made l.top.released l.top.noted (ap (λ (x : Ledger). x.top) same) (ap (λ (x : Ledger). x.above) same)
          (plain_creator (meant_order creation.order) included (sym e) l.top (top_right f.path f.context.created l.top (reverse l.above) h) false refl (untold included creation.order.when false k))

  -- what is noted by an act is right behind it
  pub note_next : (a : CodeAct) (l m : Ledger) → act_seen a ≡ now → HasContext f.context a → IsNoted a line_now f.context.created l m → WasOnWay l → AreOnWayTo (place_next (act_seen a) (place_in f)) m
  note_next (acts.Create creation included) l m e context g h = note_begun creation included l m e context g h
  note_next acts.End l m e context g h = note_ended l m (sym e) g h
  note_next acts.Wait l m e context g h = subst (λ (x : Ledger). AreOnWayTo (place_in f) x) (sym g) (way_waited l.top (reverse l.above) (sym e) h)
  note_next (acts.WaitOn ranges) l m e context g h = subst (λ (x : Ledger). AreOnWayTo (place_in f) x) (sym g) (way_waited_on ranges l.top (reverse l.above) (sym e) h)
  note_next (acts.Release clauses included) l m e context g h = subst (λ (x : Ledger). AreOnWayTo (place_in f) x) (sym g) (way_released clauses included l.top (reverse l.above) (sym e) h)
  note_next acts.Tick l m e context g h = note_silent (act_seen acts.Tick) l m e (λ c. refl) (λ o i k. cc) (λ clauses i k. cc) g h
  note_next (acts.Load c) l m e context g h = note_silent (act_seen (acts.Load c)) l m e (λ c. refl) (λ o i k. cc) (λ clauses i k. cc) g h
  note_next (acts.Store c v) l m e context g h = note_silent (act_seen (acts.Store c v)) l m e (λ c. refl) (λ o i k. cc) (λ clauses i k. cc) g h
  note_next (acts.Fold c op v slot) l m e context g h = note_silent (act_seen (acts.Fold c op v slot)) l m e (λ c. refl) (λ o i k. cc) (λ clauses i k. cc) g h
  note_next acts.Await l m e context g h = note_silent (act_seen acts.Await) l m e (λ c. refl) (λ o i k. cc) (λ clauses i k. cc) g h
  note_next (acts.Print key text) l m e context g h = note_silent (act_seen (acts.Print key text)) l m e (λ c. refl) (λ o i k. cc) (λ clauses i k. cc) g h
  note_next (acts.Fault kind line key) l m e context g h = note_silent (act_seen (acts.Fault kind line key)) l m e (λ c. refl) (λ o i k. cc) (λ clauses i k. cc) g h
