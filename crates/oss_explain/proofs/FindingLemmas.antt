-- What is found at a fault is the reason of it.
use Rattle.std.proofs.Common.{◌≡◌, ℕ, ◌⊎◌, inl, inr, refl, sym, subst, ap, ◌∙◌, List, [], ◌∷◌, ◌++◌, map, Bool, true, false, Option, Some}
use Rattle.std.specs.Prelude.{◌&&◌, ◌==◌}
use Rattle.oss_syntax.specs.declared.access.Mode.TheVariants.{Fold as Folding}
use Rattle.oss_syntax.specs.declared.access.Op.{Op}
use Rattle.oss_syntax.specs.declared.fault.FaultKind.{FaultKind}
use Rattle.oss_syntax.specs.declared.fault.FaultKind.TheVariants as fault
use Rattle.oss_syntax.specs.declared.tree.program.Item.{Item}
use Rattle.oss_model.specs.Bodies.{Ask, Fails, Frame, Program, Tick}
use Rattle.oss_model.specs.Context.{Context, mark_of, right_of, tick_fault}
use Rattle.oss_model.specs.Machine.{State}
use Rattle.oss_model.specs.Order.{IsIn, here, there, written}
use Rattle.oss_model.specs.Rights.{Holds, Touch, is_released}
use Rattle.oss_machine.specs.Asks.{meant_ask}
use Rattle.oss_machine.specs.declared.ask.Ask.{Ask as CodeAsk}
use Rattle.oss_machine.specs.Frames.{CodeScript}
use Rattle.oss_audit.proofs.PathLemmas.{child_point}
use Rattle.oss_explanation.specs.declared.explained.Later.{Later}
use Rattle.oss_explanation.specs.declared.explained.Reason.{Reason}
use Rattle.oss_explanation.specs.declared.explained.Reason.TheVariants as reasons
use Rattle.oss_explanation.specs.declared.explained.Touching.{Touching}
use Rattle.oss_explanation.specs.declared.explained.Touching.TheVariants as touching
use Rattle.oss_explanation.specs.declared.explained.Word.{Word}
use Rattle.oss_explanation.specs.Explanations.{AsksTouch, IsReason, names, touch_told}
use Rattle.oss_explanation.specs.Explanations.IsReason.{division, fuel, lent, no_right, place, reduction, released, unwritten}
use Rattle.oss_explanation.specs.Held.{AreFailing, word_in, word_of}
use Rattle.oss_explanation.specs.Lives.{AreHolders, IsHolder, IsReleased, RisesFrom, told_later}
use Rattle.oss_explain.specs.declared.begun.Begun.{Begun}
use Rattle.oss_explain.specs.declared.begun.Child.{Child}
use Rattle.oss_explain.specs.Noting.{AreHeldBy, IsRight, RiseTo, hindering}
use Rattle.oss_explain.specs.Owned.{own_of}
use Rattle.oss_explain.specs.Ways.{entry_of}
use Rattle.oss_explain.specs.Reasons.{IsFaultOf, IsLentTo, IsReasonOf, IsReleasedOf, number_of, touch_seen}
use Rattle.oss_explain.proofs.EndLemmas.{held_same}
use Rattle.oss_explain.proofs.HoldingLemmas.{ext}
use Rattle.oss_explain.proofs.TouchLemmas.{cell_same, tick_kind}

-- An ask that is known

pub fault_at : (x : Context) (kind : FaultKind) (a k : CodeAsk) → a ≡ k → IsFaultOf x (meant_ask a) kind → IsFaultOf x (meant_ask k) kind
fault_at x kind a k e h = subst (λ (y : CodeAsk). IsFaultOf x (meant_ask y) kind) e h

pub reason_at : (all : List Item) (x : Context) (b : Begun) (kind : FaultKind) (reason : Reason) (a k : CodeAsk) → a ≡ k → IsReasonOf all x b kind (meant_ask k) reason → IsReasonOf all x b kind (meant_ask a) reason
reason_at all x b kind reason a k e h = subst (λ (y : CodeAsk). IsReasonOf all x b kind (meant_ask y) reason) (sym e) h

pub kind_at : (all : List Item) (x : Context) (b : Begun) (ask : Ask CodeScript) (reason : Reason) (kind k : FaultKind) → kind ≡ k → IsReasonOf all x b k ask reason → IsReasonOf all x b kind ask reason
kind_at all x b ask reason kind k e h = subst (λ (y : FaultKind). IsReasonOf all x b y ask reason) (sym e) h

-- Asks that are no touch

pub tick_reason : (all : List Item) (x : Context) (b : Begun) (kind : FaultKind) (n : ℕ) → tick_fault x ≡ Some kind → n ≡ x.fuel → IsReasonOf all x b kind Tick (reasons.OutOfFuel n)
tick_reason all x b kind n h e =
    kind_at all x b Tick (reasons.OutOfFuel n) kind fault.OutOfFuel (tick_kind x kind h)
    (λ P s f count c r. subst (λ (m : ℕ). IsReason P entry_of s all f (own_of b.accesses) fault.OutOfFuel Tick (reasons.OutOfFuel m)) (ap (λ (y : Context). y.fuel) c ∙ sym e) fuel)

pub plain_reason : (all : List Item) (x : Context) (b : Begun) (kind : FaultKind) → (kind ≡ fault.TooDeep → ⊥) → (kind ≡ fault.ShiftRange → ⊥) → IsReasonOf all x b kind (Fails kind) reasons.Plain
plain_reason all x b fault.TooDeep deep shifts = absurd (deep refl)
plain_reason all x b fault.ShiftRange deep shifts = absurd (shifts refl)
plain_reason all x b fault.DivideByZero deep shifts = λ P s f count c r. division
plain_reason all x b _ deep shifts = λ P s f count c r. place tt

-- Cells that are released

pub released_is : (all : List Item) (x : Context) (b : Begun) (ask : Ask CodeScript) (reason : Reason) (test : ℕ → Bool) → ((c : ℕ) → test c ≡ (names ask c && is_released (right_of x c))) → IsReleasedOf all test b.released reason
    → IsReasonOf all x b fault.Released ask reason
released_is all x b ask reason test same h P s f count e r =
    let on = h.on_line in
    let gone : IsReleased P s f.path h.cells.first h.line = subst (λ (n : ℕ). IsReleased P s f.path h.cells.first n) on.1.2 (r.released on.0 on.1.0 h.cells.first on.1.1) in
    let one : test ≡ (λ (c : ℕ). names ask c && is_released (right_of f.context c)) = ext (λ c. same c ∙ ap (λ (y : Context). names ask c && is_released (right_of y c)) (sym e)) in
    let cells : AreFailing all (λ (c : ℕ). names ask c && is_released (right_of f.context c)) h.cells = subst (λ (t : ℕ → Bool). AreFailing all t h.cells) one h.failing in
    subst (λ (y : Reason). IsReason P entry_of s all f (own_of b.accesses) fault.Released ask y) (sym h.is) (released cells gone)

-- the cell of a touch is the one that is named
names_one : (ask : Ask CodeScript) (cell : ℕ) (touch : Touch) → AsksTouch ask cell touch → (c : ℕ) → names ask c ≡ (cell == c)
names_one _ _ _ AsksTouch.reads c = refl
names_one _ _ _ AsksTouch.writes c = refl
names_one _ _ _ AsksTouch.folds c = refl

one_named : (x : Context) (cell : ℕ) → is_released (right_of x cell) ≡ true → (c : ℕ) → (cell == c) ≡ ((cell == c) && is_released (right_of x c))
one_named x cell h c = go (cell == c) refl
  where
    go : (b : Bool) → (cell == c) ≡ b → b ≡ (b && is_released (right_of x c))
    go false e = refl
    go true e = sym (ap (λ (d : ℕ). is_released (right_of x d)) (sym (cell_same cell c e)) ∙ h)

pub touched_released : (all : List Item) (x : Context) (b : Begun) (cell : ℕ) (touch : Touch) (kind : FaultKind) (reason : Reason) → kind ≡ fault.Released → is_released (right_of x cell) ≡ true
    → IsReleasedOf all (λ c. cell == c) b.released reason → (ask : Ask CodeScript) → AsksTouch ask cell touch → IsReasonOf all x b kind ask reason
touched_released all x b cell touch kind reason k gone h ask a =
    kind_at all x b ask reason kind fault.Released k
    (released_is all x b ask reason (λ c. cell == c)
    (λ c. one_named x cell gone c ∙ ap (λ (w : Bool). w && is_released (right_of x c)) (sym (names_one ask cell touch a c))) h)

-- Touches

told_seen : (t : Touching) → touch_told (touch_seen t) ≡ t
told_seen touching.Reading = refl
told_seen touching.Writing = refl
told_seen (touching.Folding o) = refl

pub touched_without : (all : List Item) (x : Context) (b : Begun) (cell : ℕ) (touch : Touching) (kind : FaultKind) (w : Option Word) → kind ≡ fault.NoRight → w ≡ own_of b.accesses cell
    → (ask : Ask CodeScript) → AsksTouch ask cell (touch_seen touch) → IsReasonOf all x b kind ask (reasons.NoRight cell touch w)
touched_without all x b cell touch kind w k e ask a =
    kind_at all x b ask (reasons.NoRight cell touch w) kind fault.NoRight k
    (λ P s f count c r. subst (λ (t : Touching). IsReason P entry_of s all f (own_of b.accesses) fault.NoRight ask (reasons.NoRight cell t w)) (told_seen touch)
    (subst (λ (v : Option Word). IsReason P entry_of s all f (own_of b.accesses) fault.NoRight ask (reasons.NoRight cell (touch_told (touch_seen touch)) v)) (sym e) (no_right a)))

pub touched_reduction : (all : List Item) (x : Context) (b : Begun) (cell : ℕ) (touch : Touch) (kind : FaultKind) (o : Op) (reason : Reason) → kind ≡ fault.BadReduction → right_of x cell ≡ Holds (Folding o) true
    → reason ≡ reasons.BadReduction cell o → (ask : Ask CodeScript) → AsksTouch ask cell touch → IsReasonOf all x b kind ask reason
touched_reduction all x b cell touch kind o reason k e is ask a =
    kind_at all x b ask reason kind fault.BadReduction k
    (λ P s f count c r. subst (λ (y : Reason). IsReason P entry_of s all f (own_of b.accesses) fault.BadReduction ask y) (sym is) (reduction a (ap (λ (y : Context). right_of y cell) c ∙ e)))

pub touched_unwritten : (all : List Item) (x : Context) (b : Begun) (cell : ℕ) (touch : Touch) (kind : FaultKind) → kind ≡ fault.Unwritten
    → (ask : Ask CodeScript) → AsksTouch ask cell touch → IsReasonOf all x b kind ask (reasons.Unwritten cell)
touched_unwritten all x b cell touch kind k ask a = kind_at all x b ask (reasons.Unwritten cell) kind fault.Unwritten k (λ P s f count c r. unwritten a)

-- Cells that are lent

rises : (n : ℕ) (k : Child) (ks : List Child) → RiseTo n (k ∷ ks) → RisesFrom k.number (map number_of ks)
rises n k [] h = tt
rises n k (j ∷ more) h = (h.0, rises n j more h.1)

in_first : {A : Type 0} {x y : A} {xs : List A} → IsIn x (y ∷ xs) → (x ≡ y) ⊎ IsIn x xs
in_first here = inl refl
in_first (there h) = inr h

of_number : (ks : List Child) (j : ℕ) → IsIn j (map number_of ks) → (k : Child) × (IsIn k ks × (k.number ≡ j))
of_number [] j i = absurd (elim i [ ])
of_number (k ∷ ks) j i = go (of_number ks j) (in_first i)
  where
    go : (IsIn j (map number_of ks) → (m : Child) × (IsIn m ks × (m.number ≡ j))) → (j ≡ k.number) ⊎ IsIn j (map number_of ks) → (m : Child) × (IsIn m (k ∷ ks) × (m.number ≡ j))
    go more (inl e) = (k, (here, sym e))
    go more (inr n) = let r = more n in (r.0, (there r.1.0, r.1.1))

in_numbers : {k : Child} {ks : List Child} → IsIn k ks → IsIn k.number (map number_of ks)
in_numbers here = here
in_numbers (there h) = there (in_numbers h)

module _ (P : Program CodeScript) (s : State CodeScript) (q : List ℕ) (c : ℕ) (touch : Touch) (k : Child) (ks : List Child) (held : AreHeldBy P s q c touch (k ∷ ks)) where
  -- the context with which the first child started
  abbrev born : Context
  born = (held.only k here).context

  only_later : (j : ℕ) → IsIn j (map number_of ks) → (n : ℕ) × ((y : Context) × IsHolder P s q c touch j n y)
  only_later j i =
      let m = of_number ks j i in
      let g = held.only m.0 (there m.1.0) in
      (m.0.line, (g.context, subst (λ (n : ℕ). IsHolder P s q c touch n m.0.line g.context) m.1.1 g.holder))

  all_told : (j n : ℕ) (y : Context) → IsHolder P s q c touch j n y → IsIn j (map number_of (k ∷ ks))
  all_told j n y h =
      let m = held.all j n y h in
      subst (λ (i : ℕ). IsIn i (map number_of (k ∷ ks))) m.1.1 (in_numbers m.1.0)

  are_holders : (n : ℕ) → RiseTo n (k ∷ ks) → AreHolders P s q c touch k.number k.line born (map number_of ks)
  are_holders n rise = record { first = (held.only k here).holder; rise = rises n k ks rise; only = only_later; all = all_told }

  entry_first : (n : ℕ) (rise : RiseTo n (k ∷ ks)) → k.entry ≡ entry_of (are_holders n rise).first.order.script
  unfolding are_holders
  entry_first n rise = (held.only k here).entry

  word_first : own_of k.accesses c ≡ word_in born c
  word_first =
      let a = (held.only k here).accesses in
      (λ i. word_of (a.rights c i) (a.marks c i)) ∙ held_same P s (right_of born c) (mark_of born c)

pub touched_lent : (all : List Item) (x : Context) (b : Begun) (cell : ℕ) (touch : Touch) (kind : FaultKind) (reason : Reason) → kind ≡ fault.Lent
    → IsLentTo cell b.point (hindering cell touch b.noted) reason → (ask : Ask CodeScript) → AsksTouch ask cell touch → IsReasonOf all x b kind ask reason
touched_lent all x b cell touch kind reason k h ask a = kind_at all x b ask reason kind fault.Lent k found
  where
    found : (P : Program CodeScript) (s : State CodeScript) (f : Frame CodeScript) (count : ℕ) → f.context ≡ x → IsRight P s f.path count b → IsReason P entry_of s all f (own_of b.accesses) fault.Lent ask reason
    found P s f count c r =
        let ks : List Child = h.first ∷ h.others in
        let held : AreHeldBy P s f.path cell touch ks = subst (λ (js : List Child). AreHeldBy P s f.path cell touch js) h.are (r.held cell touch) in
        let rise : RiseTo count ks = subst (λ (js : List Child). RiseTo count js) h.are (r.rise cell touch) in
        let holders = are_holders P s f.path cell touch h.first h.others held count rise in
        let entry = entry_first P s f.path cell touch h.first h.others held count rise in
        let word : word_in (held.only h.first here).context cell ≡ Some h.word = sym (word_first P s f.path cell touch h.first h.others held) ∙ h.word_is in
        let point : b.point ++ h.first.number ∷ [] ≡ written (h.first.number ∷ f.path) = ap (λ (p : List ℕ). p ++ h.first.number ∷ []) r.point ∙ child_point f.path h.first.number in
        let told : reason ≡ reasons.Lent cell (written (h.first.number ∷ f.path)) h.first.line h.first.entry h.word (told_later f.path (map number_of h.others)) =
        h.is ∙ ap (λ (p : List ℕ). reasons.Lent cell p h.first.line h.first.entry h.word h.later) point
        ∙ ap (λ (l : Later). reasons.Lent cell (written (h.first.number ∷ f.path)) h.first.line h.first.entry h.word l) (h.later_is f.path r.point) in
        subst (λ (y : Reason). IsReason P entry_of s all f (own_of b.accesses) fault.Lent ask y) (sym told) (lent a holders entry word)
