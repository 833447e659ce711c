-- What is known of a run that stands before a fault, of which what is noted is right.
use Rattle.std.proofs.Common.{◌≡◌, ℕ, ◌<◌, ◌≤◌, ◌⊎◌, inl, inr, refl, sym, subst, ap, ◌∙◌, List, [], ◌∷◌, length, reverse, arith, Bool, true, false, Option, None, Some}
use Rattle.oss_syntax.specs.declared.access.Mode.TheVariants.{Fold as Folding, Read as Reading, Write as Writing}
use Rattle.oss_syntax.specs.declared.fault.FaultKind.{FaultKind}
use Rattle.oss_syntax.specs.declared.fault.FaultKind.TheVariants as fault
use Rattle.oss_model.specs.Bodies.{Act, Ask, Frame, Program, Start, act_of, act_of_ask, ask_of, frame_act, judged_act, key_of, stack_act, stack_from, stage_act, top_frame}
use Rattle.oss_model.specs.Bodies.Act.{Fault, Load, Ticked}
use Rattle.oss_model.specs.Context.{Entry, create_fault, creation_fault, lent_of, main_context, mark_of, no_entry, release_fault, right_of, tick_fault, wait_on_fault}
use Rattle.oss_model.specs.History.{IsMade}
use Rattle.oss_model.specs.Machine.{State}
use Rattle.oss_model.specs.Order.{IsIn}
use Rattle.oss_model.specs.Rights.{Folds, Free, Holds, Mark, NoRight, Reads, Released, Right, Touch, Writes, Written, is_released, touch_fault}
use Rattle.oss_model.proofs.ContextLemmas.{tabled_at, tabled_past}
use Rattle.oss_model.proofs.SequenceLemmas.{stands}
use Rattle.oss_judge.specs.Joined.{held_mark, held_right}
use Rattle.oss_code.specs.declared.code.CodeParts.{CodeParts}
use Rattle.oss_machine.specs.Frames.{CodeScript}
use Rattle.oss_machine.specs.Machines.{asks}
use Rattle.oss_body.specs.Acting.{acting}
use Rattle.oss_body.specs.Mains.{code_main}
use Rattle.oss_body.specs.declared.body.Body.{Body as Kept}
use Rattle.oss_serial.specs.Turns.{whole_task}
use Rattle.oss_explain.specs.declared.begun.Begun.{Begun}
use Rattle.oss_explain.specs.declared.begun.Child.{Child}
use Rattle.oss_explanation.specs.declared.explained.Word.{Word}
use Rattle.oss_explain.specs.declared.ledger.Ledger.{Ledger}
use Rattle.oss_explanation.specs.Held.{word_in, word_of}
use Rattle.oss_explanation.specs.Lives.{HasWords, IsChain}
use Rattle.oss_explanation.specs.Lives.HasWords.{of_child, of_main}
use Rattle.oss_explanation.specs.Lives.IsChain.{at_child as chain_goes, at_main as chain_ends}
use Rattle.oss_explain.specs.Noting.{AreOnWay, IsRight, StandsBefore, at_child, at_main, hindering}
use Rattle.oss_explain.specs.Owned.{own_of}
use Rattle.oss_explain.specs.Reasons.{IsAccounted, IsFaultOf, IsNotedReleased}
use Rattle.oss_explain.specs.Ways.{entry_of, link_of, links_to}
use Rattle.oss_explain.proofs.BoundLemmas.{bounded_before}
use Rattle.oss_explain.proofs.HolderLemmas.{HasHolder, lent_is_held}
use Rattle.oss_explain.proofs.HoldingLemmas.{ext}
use Rattle.oss_explain.proofs.LendingLemmas.{lent_is_hindered, main_lends_nothing}
use Rattle.oss_explain.proofs.ReleasedLemmas.{HasAll, released_by}

-- The way

module _ (P : Program CodeScript) (s : State CodeScript) where
  pub top_right : (q : List ℕ) (count : ℕ) (b : Begun) (rest : List Begun) → AreOnWay P s q count (b ∷ rest) → IsRight P s q count b
  top_right q count b rest (at_main h e) = h
  top_right q count b rest (at_child h born more) = h

  -- how the tasks on the way came to be
  pub way_chain : {q : List ℕ} {count : ℕ} {bs : List Begun} → AreOnWay P s q count bs → IsChain P entry_of s q (links_to bs)
  way_chain (at_main h e) = chain_ends
  way_chain (at_child {b = b} h born (at_main g e)) = chain_goes (link_of b) h.point born.created born.entry chain_ends
  way_chain (at_child {b = b} h born (at_child g c more)) = chain_goes (link_of b) h.point born.created born.entry (way_chain (at_child g c more))

  -- The words of a task, and its accesses, say the same.
  pub record HasOwn (q : List ℕ) (b : Begun) : Type 0 where
    pub own : ℕ → Option Word
    pub words : HasWords P s q own
    pub same : own_of b.accesses ≡ own

  pub held_same : (r : Right) (m : Mark) → word_of (held_right r) (held_mark r m) ≡ word_of r m
  held_same NoRight m = refl
  held_same Released m = refl
  held_same (Holds Reading strong) m = refl
  held_same (Holds Writing strong) m = refl
  held_same (Holds (Folding o) strong) m = refl

  pub way_words : (q : List ℕ) (count : ℕ) (b : Begun) (rest : List Begun) → AreOnWay P s q count (b ∷ rest) → HasOwn q b
  way_words q count b rest (at_main h e) = record { own = λ c. None; words = of_main; same = ap own_of e }
  way_words q count b rest (at_child h born more) =
      record {
        own = word_in born.context;
        words = of_child born.created;
        same = ext (λ c. (λ i. word_of (born.accesses.rights c i) (born.accesses.marks c i)) ∙ held_same (right_of born.context c) (mark_of born.context c));
      }

-- A fault

module _ {S : Type 0} (f : Frame S) (kind : FaultKind) (n : ℕ) (key : List ℕ) where
  kind_same : (k : FaultKind) (m : ℕ) (i : List ℕ) → ◌≡◌ {A = Act S} (Fault k m i) (Fault kind n key) → (k ≡ kind) × (m ≡ n)
  kind_same k m i e = (cc, cc)

  judged : (line : ℕ) (o : Option FaultKind) (a : Act S) → (a ≡ Fault kind n key → ⊥) → judged_act f line o a ≡ Fault kind n key → (o ≡ Some kind) × (line ≡ n)
  judged line None a none e = absurd (none e)
  judged line (Some k) a none e = let s = kind_same k line (key_of f) e in (ap (λ (x : FaultKind). Some x) s.0, s.1)

  ask_fault : (slots : ℕ → Right) (included : Bool) (a : Ask S) (line : ℕ) → act_of_ask slots included f a line ≡ Fault kind n key → IsFaultOf f.context a kind × (line ≡ n)
  ask_fault slots included Ask.Begin line e = go (create_fault f.context) refl e
    where
      go : (o : Option FaultKind) → create_fault f.context ≡ o → judged_act f line o (Fault fault.TooManyTasks line (key_of f)) ≡ Fault kind n key → ((create_fault f.context ≡ Some kind) ⊎ (kind ≡ fault.TooManyTasks)) × (line ≡ n)
      go None h k = let s = kind_same fault.TooManyTasks line (key_of f) k in (inr (sym s.0), s.1)
      go (Some x) h k = let s = kind_same x line (key_of f) k in (inl (h ∙ ap (λ (y : FaultKind). Some y) s.0), s.1)
  ask_fault slots included Ask.Tick line e = judged line (tick_fault f.context) Ticked (λ k. cc) e
  ask_fault slots included (Ask.Read c) line e = judged line (touch_fault (right_of f.context c) (lent_of f.context c) (mark_of f.context c) Reads) (Load c) (λ k. cc) e
  ask_fault slots included (Ask.Write c v) line e = judged line (touch_fault (right_of f.context c) (lent_of f.context c) (mark_of f.context c) Writes) _ (λ k. cc) e
  ask_fault slots included (Ask.Fold c o v) line e = judged line (touch_fault (right_of f.context c) (lent_of f.context c) (mark_of f.context c) (Folds o)) _ (λ k. cc) e
  ask_fault slots included (Ask.Create o) line e = judged line (creation_fault f.context o.clauses _) _ (λ k. cc) e
  ask_fault slots included Ask.Await line e = let s = kind_same fault.TooManyTasks line (key_of f) e in (sym s.0, s.1)
  ask_fault slots included Ask.Wait line e = absurd cc
  ask_fault slots included (Ask.WaitOn named) line e = judged line (wait_on_fault f.context named) _ (λ k. cc) e
  ask_fault slots included (Ask.Release clauses) line e = judged line (release_fault f.context clauses) _ (λ k. cc) e
  ask_fault slots included (Ask.Print text) line e = absurd cc
  ask_fault slots included Ask.End line e = absurd cc
  ask_fault slots included (Ask.Fails k) line e = kind_same k line (key_of f) e

  frame_fault : (P : Program S) (slots : ℕ → Right) (included w : Bool) → frame_act P slots included f w ≡ Fault kind n key → IsFaultOf f.context (ask_of P f).ask kind × ((ask_of P f).line ≡ n)
  frame_fault P slots included true e = absurd cc
  frame_fault P slots included false e = ask_fault slots included (ask_of P f).ask (ask_of P f).line e

module _ {S : Type 0} (P : Program S) (kind : FaultKind) (n : ℕ) (key : List ℕ) where
  stack_fault : (slots : ℕ → Right) (base : Frame S) (inner : List (Frame S)) (over : Bool) → stack_act P slots base inner over ≡ Fault kind n key
      → IsFaultOf (top_frame base inner).context (ask_of P (top_frame base inner)).ask kind × ((ask_of P (top_frame base inner)).line ≡ n)
  stack_fault slots base inner true e = absurd cc
  stack_fault slots base [] false e = frame_fault base kind n key P slots false base.awaits e
  stack_fault slots base (f ∷ fs) false e = frame_fault f kind n key P slots true f.awaits e

  pub acting_fault : (b : Start S) (past : List ℕ) → stage_act P b past ≡ Fault kind n key → IsFaultOf (acting P b past).context (ask_of P (acting P b past)).ask kind × ((ask_of P (acting P b past)).line ≡ n)
  unfolding stage_act act_of
  acting_fault b past e = let s = stack_from P b past in stack_fault (right_of b.context) s.base s.inner s.ended e

-- Main has released nothing.
main_has_all : (cells fuel : ℕ) → HasAll (main_context cells fuel)
main_has_all cells fuel c h = go (less c cells)
  where
    full : Entry
    full = record { right = Holds Writing true; lent = Free; mark = Written }

    less : (m n : ℕ) → (m < n) ⊎ (n ≤ m)
    less m n = grind arith

    go : (c < cells) ⊎ (cells ≤ c) → ⊥
    go (inl l) = let k : Holds Writing true ≡ Released = sym (ap (λ (e : Entry). e.right) (tabled_at (λ (d : ℕ). full) cells c no_entry l)) ∙ h in cc
    go (inr l) = let k : NoRight ≡ Released = sym (ap (λ (e : Entry). e.right) (tabled_past (λ (d : ℕ). full) cells c no_entry l)) ∙ h in cc

module _ (code : CodeParts) (fuel : ℕ) (kept : Kept) (l : Ledger) (kind : FaultKind) (line : ℕ) (st : StandsBefore code fuel kept l kind line) where
  abbrev P : Program CodeScript
  P = asks code

  abbrev f : Frame CodeScript
  f = acting P st.body.start st.body.found

  made : IsMade P (code_main code fuel) st.stage.state
  made = (stands P (code_main code fuel) code.first st.setting.starts st.stage st.run).made

  pub right_here : IsRight P st.stage.state f.path f.context.created l.top
  right_here = top_right P st.stage.state f.path f.context.created l.top (reverse l.above) st.way

  pub fault_here : IsFaultOf f.context (ask_of P f).ask kind × ((ask_of P f).line ≡ line)
  fault_here = acting_fault P kind line st.key st.body.start st.body.found st.fault

  pub chain_here : IsChain P entry_of st.stage.state f.path (links_to (l.top ∷ reverse l.above))
  chain_here = way_chain P st.stage.state st.way

  pub words_here : HasOwn P st.stage.state f.path l.top
  words_here = way_words P st.stage.state f.path f.context.created l.top (reverse l.above) st.way

  released_is : (r : Right) → is_released r ≡ true → r ≡ Released
  released_is Released h = refl
  released_is NoRight h = absurd cc
  released_is (Holds m strong) h = absurd cc

  pub accounted_here : IsAccounted f.context l.top
  accounted_here =
      let bounds = bounded_before code fuel kept l kind line st right_here in
      record {
        released = λ c h. released c (released_is (right_of f.context c) h);
        lent = λ c touch h e. lent c touch e (holder c touch h);
        few = bounds.few;
        short = bounds.short;
      }
    where
      released : (c : ℕ) → right_of f.context c ≡ Released → IsNotedReleased l.top.released c
      released c h =
          let r = released_by P (code_main code fuel) (main_has_all (length code.first) fuel) st.stage.state made st.stage.active (whole_task st.body) st.at_ c h in
          right_here.all_released c r.0 r.1

      holder : (c : ℕ) (touch : Touch) → touch_fault (right_of f.context c) (lent_of f.context c) (mark_of f.context c) touch ≡ Some fault.Lent → HasHolder P st.stage.state f.path c touch
      holder c touch h =
          (lent_is_held P (code_main code fuel) (main_lends_nothing (length code.first) fuel) st.stage.state made st.stage.active (whole_task st.body) st.at_ c touch).0
          (lent_is_hindered (right_of f.context c) (lent_of f.context c) (mark_of f.context c) touch h)

      none : (k : Child) → IsIn k [] → ⊥
      none k i = elim i [ ]

      lent : (c : ℕ) (touch : Touch) → hindering c touch l.top.noted ≡ [] → HasHolder P st.stage.state f.path c touch → ⊥
      lent c touch e (j, (n, (x, g))) =
          let k = (right_here.held c touch).all j n x g in
          none k.0 (subst (λ (ks : List Child). IsIn k.0 ks) e k.1.0)
