-- What is told of the tasks of a state is one: by which words they have their cells, how they came to be, which children hold a cell, and why an ask is refused.
use Rattle.std.proofs.Common.{◌≡◌, ℕ, ◌<◌, ◌≤◌, ◌⊎◌, inl, inr, refl, sym, subst, ap, ◌∙◌, List, [], ◌∷◌, arith, Bool, true, false, Option, Some, None}
use Rattle.std.specs.Prelude.{◌&&◌, ◌||◌}
use Rattle.oss_syntax.specs.declared.access.Access.{Access}
use Rattle.oss_syntax.specs.declared.access.Mode.TheVariants.{Fold as Folding}
use Rattle.oss_syntax.specs.declared.access.Op.{Op}
use Rattle.oss_syntax.specs.declared.fault.FaultKind.{FaultKind}
use Rattle.oss_syntax.specs.declared.fault.FaultKind.TheVariants as fault
use Rattle.oss_syntax.specs.declared.tree.program.Item.{Item}
use Rattle.oss_model.specs.Bodies.{Ask, Fails, Frame, Order, Program, Start}
use Rattle.oss_model.specs.Context.{Context, child_context, in_clauses, lacks_right, right_of}
use Rattle.oss_model.specs.History.{IsMade}
use Rattle.oss_model.specs.Machine.{At, State, Task}
use Rattle.oss_model.specs.Order.{IsIn, here, there, written}
use Rattle.oss_model.specs.Rights.{Holds, NoRight, Released, Right, Touch, holds_uncovered, is_mixed, is_released, mark_from, right_from}
use Rattle.oss_body.specs.Acting.{acting}
use Rattle.oss_explanation.specs.declared.explained.Failing.{Failing}
use Rattle.oss_explanation.specs.declared.explained.Link.{Link}
use Rattle.oss_explanation.specs.declared.explained.Reason.{Reason}
use Rattle.oss_explanation.specs.declared.explained.Reason.TheVariants as reason
use Rattle.oss_explanation.specs.declared.explained.Word.{Word}
use Rattle.oss_explanation.specs.Explanations.{AsksTouch, IsMiss, IsReason, names, touch_told}
use Rattle.oss_explanation.specs.Held.{AreFailing, clause_words, once, word_in, word_of}
use Rattle.oss_explanation.specs.Lives.{AreHolders, HasWords, IsChain, IsHolder, IsReleased, RisesFrom, at_child, at_main, of_child, of_main, told_later}
use Rattle.oss_explanation.proofs.OneLemmas.{one_failing}
use Rattle.oss_explain_laws.proofs.OneEvent.{one_created, one_held_order, one_holder, one_order}
use Rattle.oss_explain_laws.proofs.OneRelease.{one_released}

-- Rising numbers

in_first : {A : Type 0} {x y : A} {xs : List A} → IsIn x (y ∷ xs) → (x ≡ y) ⊎ IsIn x xs
in_first here = inl refl
in_first (there h) = inr h

above : (k : ℕ) (ks : List ℕ) → RisesFrom k ks → (j : ℕ) → IsIn j ks → k < j
above k [] r j i = elim i [ ]
above k (m ∷ more) (l, r) j i = go (above m more r j) (in_first i)
  where
    go : (IsIn j more → m < j) → (j ≡ m) ⊎ IsIn j more → k < j
    go after (inl e) = omega (arith, e, l)
    go after (inr n) = let d = after n in omega (arith, d, l)

-- the first numbers of two rising lists with the same members
first_one : (i j : ℕ) (ks js : List ℕ) → RisesFrom i ks → RisesFrom j js → IsIn i (j ∷ js) → IsIn j (i ∷ ks) → i ≡ j
first_one i j ks js r s a b = go (in_first a) (in_first b)
  where
    go : (i ≡ j) ⊎ IsIn i js → (j ≡ i) ⊎ IsIn j ks → i ≡ j
    go (inl e) x = e
    go (inr m) (inl e) = sym e
    go (inr m) (inr n) = let l = above j js s i m in let k = above i ks r j n in absurd (omega (arith, l, k))

rising_one : (k : ℕ) (ks js : List ℕ) → RisesFrom k ks → RisesFrom k js → ((m : ℕ) → IsIn m ks → IsIn m js) → ((m : ℕ) → IsIn m js → IsIn m ks) → ks ≡ js
rising_one k [] [] r s f g = refl
rising_one k [] (j ∷ js) r s f g = elim (g j here) [ ]
rising_one k (i ∷ ks) [] r s f g = elim (f i here) [ ]
rising_one k (i ∷ ks) (j ∷ js) (l, r) (n, s) f g =
    let e = first_one i j ks js r s (f i here) (g j here) in
    let s' = subst (λ (x : ℕ). RisesFrom x js) (sym e) s in
    let rest = rising_one i ks js r s' (λ m a. forth m a (in_first (f m (there a)))) (λ m a. back m a (in_first (g m (there a)))) in
    λ x. e x ∷ rest x
  where
    forth : (m : ℕ) → IsIn m ks → (m ≡ j) ⊎ IsIn m js → IsIn m js
    forth m a (inl e) =
        let d = above i ks r m a in
        let o = first_one i j ks js r s (f i here) (g j here) in
        absurd (omega (arith, d, e, o))
    forth m a (inr b) = b

    back : (m : ℕ) → IsIn m js → (m ≡ i) ⊎ IsIn m ks → IsIn m ks
    back m a (inl e) =
        let d = above j js s m a in
        let o = first_one i j ks js r s (f i here) (g j here) in
        absurd (omega (arith, d, e, o))
    back m a (inr b) = b

-- Words

one_some : {A : Type 0} (o : Option A) (v w : A) → o ≡ Some v → o ≡ Some w → v ≡ w
one_some o v w e g = cc

-- what an ask touches is one
one_touch : {S : Type 0} (a : Ask S) (c d : ℕ) (t u : Touch) → AsksTouch a c t → AsksTouch a d u → (c ≡ d) × (t ≡ u)
one_touch _ _ _ _ _ AsksTouch.reads AsksTouch.reads = (refl, refl)
one_touch _ _ _ _ _ AsksTouch.writes AsksTouch.writes = (refl, refl)
one_touch _ _ _ _ _ AsksTouch.folds AsksTouch.folds = (refl, refl)

link_is : (l m : Link) → l.task ≡ m.task → l.line ≡ m.line → l.entry ≡ m.entry → l.included ≡ m.included → l ≡ m
link_is l m a b c d i = record { task = a i; line = b i; entry = c i; included = d i }

one_fold : (r : Right) (o p : Op) → r ≡ Holds (Folding o) true → r ≡ Holds (Folding p) true → o ≡ p
one_fold r o p e g = cc

is_gone : (r : Right) → is_released r ≡ true → r ≡ Released
is_gone Released h = refl
is_gone NoRight h = absurd cc
is_gone (Holds m strong) h = absurd cc

-- what is told of a failure of this kind
told_failure : FaultKind → Reason
told_failure fault.TooDeep = reason.TooManyFrames
told_failure fault.ShiftRange = reason.ShiftRange
told_failure _ = reason.Plain

plain_is : (kind : FaultKind) → IsMiss kind → reason.Plain ≡ told_failure kind
unfolding told_failure
plain_is fault.TooDeep m = absurd m
plain_is fault.ShiftRange m = absurd m
plain_is _ m = refl

never : false ≡ true → ⊥
never e = cc

both_true : (a b : Bool) → (a && b) ≡ true → b ≡ true
both_true true b h = h
both_true false b h = absurd cc

module _ {S : Type 0} (P : Program S) (spot : S → ℕ) (main : Start S) (s : State S) (made : IsMade P main s) where
  pub one_words : (q : List ℕ) (own other : ℕ → Option Word) → HasWords P s q own → HasWords P s q other → own ≡ other
  one_words _ _ _ of_main of_main = refl
  one_words _ _ _ (of_child {k} {q} {included} {line} {x} h) (of_child {included = i} {line = l} {x = y} g) =
      ap (λ (z : Context). word_in z) (one_created P main s made (k ∷ q) included i line l x y h g).2

  pub one_chain : (q : List ℕ) (ls ms : List Link) → IsChain P spot s q ls → IsChain P spot s q ms → ls ≡ ms
  one_chain _ _ _ at_main at_main = refl
  one_chain _ _ _ (at_child {k} {q} {x} {links} l e h named rest) (at_child {x = y} {links = others} m g i told more) =
      let same = one_created P main s made (k ∷ q) l.included m.included l.line m.line x y h i in
      let entry : l.entry ≡ m.entry = named ∙ ap (λ (o : Order S). spot o.script) (one_order P main s made (k ∷ q) l.included m.included l.line m.line x y h i) ∙ sym told in
      let link = link_is l m (e ∙ sym g) same.1 entry same.0 in
      let tail = one_chain q links others rest more in
      λ n. link n ∷ tail n

  -- the holders of a cell
  pub record Same (k j line other : ℕ) (x y : Context) (ks js : List ℕ) : Type 0 where
    pub number : k ≡ j
    pub on_line : line ≡ other
    pub context : x ≡ y
    pub later : ks ≡ js

  pub one_holders : (q : List ℕ) (c : ℕ) (touch : Touch) (k j line other : ℕ) (x y : Context) (ks js : List ℕ) → AreHolders P s q c touch k line x ks → AreHolders P s q c touch j other y js → Same k j line other x y ks js
  one_holders q c touch k j line other x y ks js h g =
      let e = first_one k j ks js h.rise g.rise (g.all k line x h.first) (h.all j other y g.first) in
      let held = one_holder P main s made q c touch k line other x y h.first (subst (λ (n : ℕ). IsHolder P s q c touch n other y) (sym e) g.first) in
      record {
        number = e;
        on_line = held.0;
        context = held.1;
        later = rising_one k ks js h.rise (subst (λ (n : ℕ). RisesFrom n js) (sym e) g.rise)
            (λ m i. let (n, (z, w)) = h.only m i in not_first m (above k ks h.rise m i) e (in_first (g.all m n z w)))
            (λ m i. let (n, (z, w)) = g.only m i in not_own m (above j js g.rise m i) e (in_first (h.all m n z w)));
      }
    where
      not_first : (m : ℕ) → k < m → k ≡ j → (m ≡ j) ⊎ IsIn m js → IsIn m js
      not_first m l e (inl d) = absurd (omega (arith, l, e, d))
      not_first m l e (inr i) = i

      not_own : (m : ℕ) → j < m → k ≡ j → (m ≡ k) ⊎ IsIn m ks → IsIn m ks
      not_own m l e (inl d) = absurd (omega (arith, l, e, d))
      not_own m l e (inr i) = i

  module _ (t : Task S) (at : At s t.body.start.path t) (all : List Item) where
    abbrev f : Frame S
    f = acting P t.body.start t.body.found

    -- of a failure of the program's own meaning its kind tells the reason
    failure_is : (own : ℕ → Option Word) (kind j : FaultKind) (u : Reason) → IsReason P spot s all f own kind (Fails j) u → u ≡ told_failure kind
    unfolding told_failure
    failure_is own kind _ _ (IsReason.place m) = plain_is kind m
    failure_is own _ _ _ IsReason.frames = refl
    failure_is own _ _ _ IsReason.division = refl
    failure_is own _ _ _ IsReason.shift = refl
    failure_is own _ _ _ (IsReason.released {cells = cells} a h) = absurd (never a.fails)
    failure_is own _ _ _ (IsReason.no_right a) = elim a [ ]
    failure_is own _ _ _ (IsReason.reduction a h) = elim a [ ]
    failure_is own _ _ _ (IsReason.lent a h n e) = elim a [ ]
    failure_is own _ _ _ (IsReason.unwritten a) = elim a [ ]

    pub one_reason : (own : ℕ → Option Word) (kind : FaultKind) (ask : Ask S) (r u : Reason) → IsReason P spot s all f own kind ask r → IsReason P spot s all f own kind ask u → r ≡ u
    unfolding told_failure
    one_reason own _ _ _ _ IsReason.fuel IsReason.fuel = refl
    one_reason own kind _ _ u (IsReason.place m) d = plain_is kind m ∙ sym (failure_is own kind kind u d)
    one_reason own _ _ _ u IsReason.frames d = sym (failure_is own fault.TooDeep fault.TooDeep u d)
    one_reason own _ _ _ u IsReason.division d = sym (failure_is own fault.DivideByZero fault.DivideByZero u d)
    one_reason own _ _ _ u IsReason.shift d = sym (failure_is own fault.ShiftRange fault.ShiftRange u d)
    one_reason own _ _ _ _ IsReason.deep_before IsReason.deep_before = refl
    one_reason own _ _ _ _ IsReason.deep_after IsReason.deep_after = refl
    one_reason own _ _ _ _ IsReason.many_before IsReason.many_before = refl
    one_reason own _ _ _ _ IsReason.many_after IsReason.many_after = refl
    one_reason own _ _ _ _ IsReason.many_awaited IsReason.many_awaited = refl
    one_reason own _ _ _ _ (IsReason.released {cells = cells} a h) (IsReason.place m) = absurd (never a.fails)
    one_reason own _ _ _ _ (IsReason.no_right a) (IsReason.place m) = elim a [ ]
    one_reason own _ _ _ _ (IsReason.reduction a h) (IsReason.place m) = elim a [ ]
    one_reason own _ _ _ _ (IsReason.lent a h n e) (IsReason.place m) = elim a [ ]
    one_reason own _ _ _ _ (IsReason.unwritten a) (IsReason.place m) = elim a [ ]
    one_reason own _ _ _ _ (IsReason.mixed {o} {cells} a) (IsReason.mixed {cells = others} b) =
        ap (λ (x : Failing). reason.MixedAccess (once [] (clause_words (f.context.final || o.last) o.clauses x.first)) x) (one_failing all (is_mixed (f.context.final || o.last) o.clauses) cells others a b)
    one_reason own _ _ _ _ (IsReason.released {ask} {line} {cells} a h) (IsReason.released {line = other} {cells = others} b g) =
        let e = one_failing all (λ c. names ask c && is_released (right_of f.context c)) cells others a b in
        let lost = is_gone (right_of f.context cells.first) (both_true (names ask cells.first) (is_released (right_of f.context cells.first)) a.fails) in
        let l = one_released P main s made t at cells.first lost line other h (subst (λ (x : Failing). IsReleased P s f.path x.first other) (sym e) g) in
        λ i. reason.Released (l i) (e i)
    one_reason own _ _ _ _ (IsReason.no_right {ask} {c} {touch} a) (IsReason.no_right {c = d} {touch = other} b) =
        let e = one_touch ask c d touch other a b in
        λ i. reason.NoRight (e.0 i) (touch_told (e.1 i)) (own (e.0 i))
    one_reason own _ _ _ _ (IsReason.creation {o} {w} {cells} a h) (IsReason.creation {w = v} {cells = others} b g) =
        let e = one_failing all (λ c. holds_uncovered (right_of f.context c) (right_from (f.context.final || o.last) o.clauses c)) cells others a b in
        let final = f.context.final || o.last in
        let l = one_some (word_of (right_from final o.clauses cells.first) (mark_from final o.clauses cells.first)) w v h
        (subst (λ (x : Failing). word_of (right_from final o.clauses x.first) (mark_from final o.clauses x.first) ≡ Some v) (sym e) g) in
        λ i. reason.CreationNotCovered (l i) (own (e i).first) (e i)
    one_reason own _ _ _ _ (IsReason.release {clauses} {w} {cells} a h) (IsReason.release {w = v} {cells = others} b g) =
        let e = one_failing all (λ c. holds_uncovered (right_of f.context c) (right_from false clauses c)) cells others a b in
        let l = one_some (word_of (right_from false clauses cells.first) (mark_from false clauses cells.first)) w v h
        (subst (λ (x : Failing). word_of (right_from false clauses x.first) (mark_from false clauses x.first) ≡ Some v) (sym e) g) in
        λ i. reason.ReleaseNotCovered (l i) (own (e i).first) (e i)
    one_reason own _ _ _ _ (IsReason.wait {named} {cells} a) (IsReason.wait {cells = others} b) =
        ap (λ (x : Failing). reason.WaitNotCovered x) (one_failing all (λ c. in_clauses named c && lacks_right (right_of f.context c)) cells others a b)
    one_reason own _ _ _ _ (IsReason.reduction {ask} {c} {touch} {o = op} a h) (IsReason.reduction {c = d} {touch = other} {o = op'} b g) =
        let e = one_touch ask c d touch other a b in
        let l = one_fold (right_of f.context c) op op' h (subst (λ (x : ℕ). right_of f.context x ≡ Holds (Folding op') true) (sym e.0) g) in
        λ i. reason.BadReduction (e.0 i) (l i)
    one_reason own _ _ _ _ (IsReason.lent {ask} {c} {touch} {k} {line} {entry} {x} {w} {ks} a h named e) (IsReason.lent {c = d} {touch = other} {k = j} {line = m} {entry = entry'} {x = y} {w = v} {ks = js} b g told p) =
        let same = one_touch ask c d touch other a b in
        let g' = subst (λ (z : ℕ). AreHolders P s f.path z touch j m y js) (sym same.0) (subst (λ (z : Touch). AreHolders P s f.path d z j m y js) (sym same.1) g) in
        let held = one_holders f.path c touch k j line m x y ks js h g' in
        let l = one_some (word_in x c) w v e ((λ i. word_in (held.context i) (same.0 i)) ∙ p) in
        let n : entry ≡ entry' = named ∙ ap (λ (o : Order S). spot o.script) (one_held_order P main s made f.path c d touch other k j line m x y held.number h.first g.first) ∙ sym told in
        λ i. reason.Lent (same.0 i) (written (held.number i ∷ f.path)) (held.on_line i) (n i) (l i) (told_later f.path (held.later i))
    one_reason own _ _ _ _ (IsReason.unwritten {ask} {c} {touch} a) (IsReason.unwritten {c = d} {touch = other} b) =
        ap (λ (x : ℕ). reason.Unwritten x) (one_touch ask c d touch other a b).0
