-- An opening keeps all that is said of the tables.
use Rattle.std.proofs.Common.{◌≡◌, ℕ, ◌<◌, ◌+◌, refl, sym, subst, ap, ◌∙◌, ◌⊎◌, inl, inr, true, false, List, [], ◌∷◌, ◌++◌, length, arith, eq-eqb}
use Rattle.std.specs.Prelude.{zero, suc, ◌==◌, if◌then◌else◌}
use Rattle.std.proofs.Math.Path.{fun_ext}
use Rattle.std.proofs.Math.ListN.{get_or, get_or-eq_default}
use Rattle.std.proofs.lemmas.List.{get_or-set_same, get_or-set_other, length-set}
use Rattle.oss_syntax.specs.declared.access.Mode.{Mode}
use Rattle.oss_model.specs.Rights.{covers}
use Rattle.oss_model.specs.Order.{IsIn, here, there}
use Rattle.oss_access_lists.specs.declared.marks.Marks.{Marks}
use Rattle.oss_access_lists.specs.declared.hang.Hang.{Hang}
use Rattle.oss_access_lists.specs.Wires.{first, after, IsBelow, IsBefore, head, tail, Wires, AreWired}
use Rattle.oss_access_lists.specs.Steps.{IsHung}
use Rattle.oss_access_lists.specs.Flags.{Flag, has, to_next, to_child, IsDue, from_before, from_above, from_last, given, bare, Stands, IsListed}
use Rattle.oss_access_lists.specs.Tables.{no_hang, no_marks, is_none, marks_at, hang_at, number_at, new_hang, first_flags, with_last, with_next, last_in, next_link, opened_in, wires_of, place_of, AreWithin, AreLinked, AreTables, IsQueue, IsChain, step}
use Rattle.oss_access_lists.proofs.SoundLemmas.{bools, is_zero, same_after, same_first, rises}
use Rattle.oss_access_lists.proofs.StepLemmas.{same_or}
use Rattle.oss_access_lists.proofs.GrowLemmas.{below_forth, hung_stands}
use Rattle.oss_access_lists.proofs.QueueLemmas.{chain_kept}
use Rattle.oss_access_lists.proofs.SendLemmas.{has_none, zero_test, test_zero}
use Rattle.oss_access_lists.proofs.DeliverLemmas.{true_is_not_false}

-- a list that goes on by one
pub at_front : {A : Type 0} (xs : List A) (y d : A) (v : ℕ) → (v ≡ length xs → ⊥) → get_or (xs ++ y ∷ []) v d ≡ get_or xs v d
at_front [] y d zero n = absurd (n refl)
at_front [] y d (suc v) n = get_or-eq_default [] d {n = v} (omega arith)
at_front (x ∷ xs) y d zero n = refl
at_front (x ∷ xs) y d (suc v) n = at_front xs y d v (λ e. n (ap suc e))

pub at_end : {A : Type 0} (xs : List A) (y d : A) → get_or (xs ++ y ∷ []) (length xs) d ≡ y
at_end [] y d = refl
at_end (x ∷ xs) y d = at_end xs y d

pub longer : {A : Type 0} (xs : List A) (y : A) → length (xs ++ y ∷ []) ≡ length xs + 1
longer [] y = refl
longer (x ∷ xs) y = let k = longer xs y in omega (arith, k)

-- who hangs in a list has a greater number
pub below_rises : (w : Wires) → AreWired w → (p v : ℕ) → IsBelow w.place p v → p < v
below_rises w ok p v (head e) = ok.below p v e
below_rises w ok p v (tail {u = u} e b) = let h = below_rises w ok p u b in let k = ok.behind u v e in omega (arith, h, k)

module _ (hangs : List Hang) (stand posted : List Marks) (behind : List ℕ) (from above : ℕ) (mode : Mode) (tables : AreTables hangs stand posted behind from)
    (l : above < length hangs) (held : (hang_at hangs above).gave ≡ false) (covered : covers (hang_at hangs above).mode mode ≡ true) where
  abbrev pub H : List Hang
  H = opened_in hangs above mode

  ok : AreWired (wires_of hangs)
  ok = tables.stands.wired

  last_within : (hang_at hangs above).last < length hangs
  last_within = subst (λ y. (hang_at hangs above).last < y) (sym tables.in_all) (tables.within.last above)

  above_last : ((hang_at hangs above).last ≡ 0 → ⊥) → above < (hang_at hangs above).last
  above_last n = below_rises (wires_of hangs) ok above (hang_at hangs above).last (ok.listed above (hang_at hangs above).last refl n)

  h1 : (v : ℕ) → (v ≡ length hangs → ⊥) → hang_at (hangs ++ new_hang hangs above mode ∷ []) v ≡ hang_at hangs v
  h1 = at_front hangs (new_hang hangs above mode) no_hang

  not_end : (v : ℕ) → v < length hangs → v ≡ length hangs → ⊥
  not_end v k e = absurd (omega (arith, k, e))

  h1_above : hang_at (hangs ++ new_hang hangs above mode ∷ []) above ≡ hang_at hangs above
  h1_above = h1 above (not_end above l)

  h2_else : (v : ℕ) → (v ≡ above → ⊥) → hang_at (last_in (hangs ++ new_hang hangs above mode ∷ []) above (length hangs)) v ≡ hang_at (hangs ++ new_hang hangs above mode ∷ []) v
  h2_else v n = get_or-set_other (hangs ++ new_hang hangs above mode ∷ []) above v (with_last (hang_at (hangs ++ new_hang hangs above mode ∷ []) above) (length hangs)) no_hang n

  h2_above : hang_at (last_in (hangs ++ new_hang hangs above mode ∷ []) above (length hangs)) above ≡ with_last (hang_at hangs above) (length hangs)
  h2_above =
      get_or-set_same (hangs ++ new_hang hangs above mode ∷ []) above (with_last (hang_at (hangs ++ new_hang hangs above mode ∷ []) above) (length hangs)) no_hang (let k = longer hangs (new_hang hangs above mode) in omega (arith, l, k))
      ∙ ap (λ y. with_last y (length hangs)) h1_above

  h2_long : length (last_in (hangs ++ new_hang hangs above mode ∷ []) above (length hangs)) ≡ length hangs + 1
  h2_long = length-set (hangs ++ new_hang hangs above mode ∷ []) above (with_last (hang_at (hangs ++ new_hang hangs above mode ∷ []) above) (length hangs)) ∙ longer hangs (new_hang hangs above mode)

  -- the last step, where there was a last one
  linked_else : (G : List Hang) (b v : ℕ) → ((v ≡ b → ⊥) ⊎ (b ≡ 0)) → hang_at (next_link G b (length hangs)) v ≡ hang_at G v
  linked_else G b v n = go (bools (b == 0)) n
    where
      go : ((b == 0) ≡ true) ⊎ ((b == 0) ≡ false) → ((v ≡ b → ⊥) ⊎ (b ≡ 0)) → hang_at (next_link G b (length hangs)) v ≡ hang_at G v
      go (inl h) n = rw h refl
      go (inr h) (inl n) = rw h (get_or-set_other G b v (with_next (hang_at G b) (length hangs)) no_hang n)
      go (inr h) (inr z) = absurd (zero_test b h z)

  linked_there : (G : List Hang) (b : ℕ) → (b ≡ 0 → ⊥) → b < length G → hang_at (next_link G b (length hangs)) b ≡ with_next (hang_at G b) (length hangs)
  linked_there G b n k = rw (test_zero b n) (get_or-set_same G b (with_next (hang_at G b) (length hangs)) no_hang k)

  linked_long : (G : List Hang) (b : ℕ) → length (next_link G b (length hangs)) ≡ length G
  linked_long G b = go (bools (b == 0))
    where
      go : ((b == 0) ≡ true) ⊎ ((b == 0) ≡ false) → length (next_link G b (length hangs)) ≡ length G
      go (inl h) = rw h refl
      go (inr h) = rw h (length-set G b (with_next (hang_at G b) (length hangs)))

  pub h_long : length (opened_in hangs above mode) ≡ length hangs + 1
  h_long = linked_long (last_in (hangs ++ new_hang hangs above mode ∷ []) above (length hangs)) (hang_at hangs above).last ∙ h2_long

  -- What each entry is now.
  pub data Now (v : ℕ) : Type 0 where
    is_new : v ≡ length hangs → hang_at (opened_in hangs above mode) v ≡ new_hang hangs above mode → Now v
    is_above : v ≡ above → hang_at (opened_in hangs above mode) v ≡ with_last (hang_at hangs above) (length hangs) → Now v
    is_before : v ≡ (hang_at hangs above).last → ((hang_at hangs above).last ≡ 0 → ⊥) → hang_at (opened_in hangs above mode) v ≡ with_next (hang_at hangs (hang_at hangs above).last) (length hangs) → Now v
    is_old : (v ≡ length hangs → ⊥) → (v ≡ above → ⊥) → ((v ≡ (hang_at hangs above).last → ⊥) ⊎ ((hang_at hangs above).last ≡ 0)) → hang_at (opened_in hangs above mode) v ≡ hang_at hangs v → Now v

  pub now : (v : ℕ) → Now v
  now v = go (same_or v (length hangs)) (same_or v above) (same_or v (hang_at hangs above).last) (is_zero (hang_at hangs above).last)
    where
      G : List Hang
      G = last_in (hangs ++ new_hang hangs above mode ∷ []) above (length hangs)

      b : ℕ
      b = (hang_at hangs above).last

      else_ : (v ≡ above → ⊥) → ((v ≡ (hang_at hangs above).last → ⊥) ⊎ ((hang_at hangs above).last ≡ 0)) → hang_at (opened_in hangs above mode) v ≡ hang_at (hangs ++ new_hang hangs above mode ∷ []) v
      else_ n k = linked_else (last_in (hangs ++ new_hang hangs above mode ∷ []) above (length hangs)) (hang_at hangs above).last v k ∙ h2_else v n

      go : (v ≡ length hangs) ⊎ (v ≡ length hangs → ⊥) → (v ≡ above) ⊎ (v ≡ above → ⊥) → (v ≡ (hang_at hangs above).last) ⊎ (v ≡ (hang_at hangs above).last → ⊥) → ((hang_at hangs above).last ≡ 0) ⊎ ((hang_at hangs above).last ≡ 0 → ⊥) → Now v
      go (inl e) x y z =
          is_new e (else_ (λ k. absurd (omega (arith, e, k, l))) (inl (λ k. let j = last_within in absurd (omega (arith, e, k, j))))
          ∙ (ap (hang_at (hangs ++ new_hang hangs above mode ∷ [])) e ∙ at_end hangs (new_hang hangs above mode) no_hang))
      go (inr n) (inl e) y z =
          is_above e (linked_else (last_in (hangs ++ new_hang hangs above mode ∷ []) above (length hangs)) (hang_at hangs above).last v (apart z)
          ∙ (ap (hang_at (last_in (hangs ++ new_hang hangs above mode ∷ []) above (length hangs))) e ∙ h2_above))
        where
          apart : ((hang_at hangs above).last ≡ 0) ⊎ ((hang_at hangs above).last ≡ 0 → ⊥) → (v ≡ (hang_at hangs above).last → ⊥) ⊎ ((hang_at hangs above).last ≡ 0)
          apart (inl k) = inr k
          apart (inr k) = inl (λ q. let j = above_last k in absurd (omega (arith, e, q, j)))
      go (inr n) (inr m) (inl e) (inl z) = is_old n m (inr z) (else_ m (inr z) ∙ h1 v n)
      go (inr n) (inr m) (inl e) (inr z) =
          is_before e z (ap (hang_at (opened_in hangs above mode)) e
          ∙ (linked_there (last_in (hangs ++ new_hang hangs above mode ∷ []) above (length hangs)) (hang_at hangs above).last z (let j = last_within in let k = h2_long in omega (arith, j, k))
          ∙ ap (λ y. with_next y (length hangs)) (h2_else (hang_at hangs above).last (λ k. let j = above_last z in absurd (omega (arith, k, j))) ∙ h1 (hang_at hangs above).last (not_end (hang_at hangs above).last last_within))))
      go (inr n) (inr m) (inr k) z = is_old n m (inl k) (else_ m (inl k) ∙ h1 v n)

  pub new_is : hang_at (opened_in hangs above mode) (length hangs) ≡ new_hang hangs above mode
  new_is = go (now (length hangs))
    where
      go : Now (length hangs) → hang_at (opened_in hangs above mode) (length hangs) ≡ new_hang hangs above mode
      go (is_new e h) = h
      go (is_above e h) = absurd (omega (arith, e, l))
      go (is_before e z h) = absurd (let j = last_within in omega (arith, e, j))
      go (is_old n m k h) = absurd (n refl)

  -- what does not look at the links is as before
  pub same_else : {A : Type 0} (g : Hang → A) → ((h : Hang) (x : ℕ) → g (with_last h x) ≡ g h) → ((h : Hang) (x : ℕ) → g (with_next h x) ≡ g h) → (v : ℕ) → (v ≡ length hangs → ⊥) → g (hang_at (opened_in hangs above mode) v) ≡ g (hang_at hangs v)
  same_else {A} g s t v n = go (now v)
    where
      go : Now v → g (hang_at (opened_in hangs above mode) v) ≡ g (hang_at hangs v)
      go (is_new e h) = absurd (n e)
      go (is_above e h) = ap g h ∙ (s (hang_at hangs above) (length hangs) ∙ ap (λ y. g (hang_at hangs y)) (sym e))
      go (is_before e z h) = ap g h ∙ (t (hang_at hangs (hang_at hangs above).last) (length hangs) ∙ ap (λ y. g (hang_at hangs y)) (sym e))
      go (is_old m k j h) = ap g h

  place_same : (v : ℕ) → (v ≡ length hangs → ⊥) → place_of (hang_at (opened_in hangs above mode) v) ≡ place_of (hang_at hangs v)
  place_same = same_else place_of (λ h x. refl) (λ h x. refl)

  last_same : (v : ℕ) → (v ≡ length hangs → ⊥) → (v ≡ above → ⊥) → (hang_at (opened_in hangs above mode) v).last ≡ (hang_at hangs v).last
  last_same v n m = go (now v)
    where
      go : Now v → (hang_at (opened_in hangs above mode) v).last ≡ (hang_at hangs v).last
      go (is_new e h) = absurd (n e)
      go (is_above e h) = absurd (m e)
      go (is_before e z h) = ap (λ (y : Hang). y.last) h ∙ ap (λ y. (hang_at hangs y).last) (sym e)
      go (is_old i k j h) = ap (λ (y : Hang). y.last) h

  above_is : hang_at (opened_in hangs above mode) above ≡ with_last (hang_at hangs above) (length hangs)
  above_is = go (now above)
    where
      go : Now above → hang_at (opened_in hangs above mode) above ≡ with_last (hang_at hangs above) (length hangs)
      go (is_new e h) = absurd (omega (arith, e, l))
      go (is_above e h) = h
      go (is_before e z h) = absurd (let j = above_last z in omega (arith, e, j))
      go (is_old i k j h) = absurd (k refl)

  next_same : (v : ℕ) → (v ≡ length hangs → ⊥) → ((v ≡ (hang_at hangs above).last → ⊥) ⊎ ((hang_at hangs above).last ≡ 0)) → (hang_at (opened_in hangs above mode) v).next ≡ (hang_at hangs v).next
  next_same v n m = go (now v) m
    where
      go : Now v → ((v ≡ (hang_at hangs above).last → ⊥) ⊎ ((hang_at hangs above).last ≡ 0)) → (hang_at (opened_in hangs above mode) v).next ≡ (hang_at hangs v).next
      go (is_new e h) m = absurd (n e)
      go (is_above e h) m = ap (λ (y : Hang). y.next) h ∙ ap (λ y. (hang_at hangs y).next) (sym e)
      go (is_before e z h) (inl m) = absurd (m e)
      go (is_before e z h) (inr m) = absurd (z m)
      go (is_old i k j h) m = ap (λ (y : Hang). y.next) h

  next_there : ((hang_at hangs above).last ≡ 0 → ⊥) → (hang_at (opened_in hangs above mode) (hang_at hangs above).last).next ≡ length hangs
  next_there z = go (now (hang_at hangs above).last)
    where
      go : Now (hang_at hangs above).last → (hang_at (opened_in hangs above mode) (hang_at hangs above).last).next ≡ length hangs
      go (is_new e h) = absurd (let j = last_within in omega (arith, e, j))
      go (is_above e h) = absurd (let j = above_last z in omega (arith, e, j))
      go (is_before e y h) = ap (λ (y : Hang). y.next) h
      go (is_old i k (inl j) h) = absurd (j refl)
      go (is_old i k (inr j) h) = absurd (z j)

  child_same : (v : ℕ) → (v ≡ length hangs → ⊥) → ((v ≡ above → ⊥) ⊎ ((hang_at hangs above).last ≡ 0 → ⊥)) → (hang_at (opened_in hangs above mode) v).child ≡ (hang_at hangs v).child
  child_same v n m = go (now v) m
    where
      go : Now v → ((v ≡ above → ⊥) ⊎ ((hang_at hangs above).last ≡ 0 → ⊥)) → (hang_at (opened_in hangs above mode) v).child ≡ (hang_at hangs v).child
      go (is_new e h) m = absurd (n e)
      go (is_above e h) (inl m) = absurd (m e)
      go (is_above e h) (inr m) =
          ap (λ (y : Hang). y.child) h ∙ (ap (λ z. if z then length hangs else (hang_at hangs above).child) (test_zero (hang_at hangs above).last m) ∙ ap (λ y. (hang_at hangs y).child) (sym e))
      go (is_before e z h) m = ap (λ (y : Hang). y.child) h ∙ ap (λ y. (hang_at hangs y).child) (sym e)
      go (is_old i k j h) m = ap (λ (y : Hang). y.child) h

  child_there : (hang_at hangs above).last ≡ 0 → (hang_at (opened_in hangs above mode) above).child ≡ length hangs
  child_there z = ap (λ (y : Hang). y.child) above_is ∙ ap (λ y. if y then length hangs else (hang_at hangs above).child) (eq-eqb (hang_at hangs above).last 0 z)

  new_place_first : (hang_at hangs above).last ≡ 0 → place_of (hang_at (opened_in hangs above mode) (length hangs)) ≡ first above
  new_place_first z = ap place_of new_is ∙ ap (λ y. if y then first above else after (hang_at hangs above).last) (eq-eqb (hang_at hangs above).last 0 z)

  new_place_next : ((hang_at hangs above).last ≡ 0 → ⊥) → place_of (hang_at (opened_in hangs above mode) (length hangs)) ≡ after (hang_at hangs above).last
  new_place_next z = ap place_of new_is ∙ ap (λ y. if y then first above else after (hang_at hangs above).last) (test_zero (hang_at hangs above).last z)

  past : hang_at hangs (length hangs) ≡ no_hang
  past = get_or-eq_default hangs no_hang {n = length hangs} (omega arith)

  none_after : (v : ℕ) → place_of (hang_at hangs v) ≡ after (length hangs) → ⊥
  none_after v e =
      let a = tables.linked.next_forth (length hangs) v e in
      let b : (hang_at hangs (length hangs)).next ≡ 0 = ap (λ (y : Hang). y.next) past in
      let c = ok.behind (length hangs) v e in
      absurd (omega (arith, a, b, c))

  none_first : (v : ℕ) → place_of (hang_at hangs v) ≡ first (length hangs) → ⊥
  none_first v e =
      let a = tables.linked.child_forth (length hangs) v e in
      let b : (hang_at hangs (length hangs)).child ≡ 0 = ap (λ (y : Hang). y.child) past in
      let c = ok.below (length hangs) v e in
      absurd (omega (arith, a, b, c))

  pub hung : IsHung (wires_of hangs) (wires_of (opened_in hangs above mode)) above (length hangs)
  hung = record {
    above = l;
    behind = last_within;
    loose_before = ap place_of past;
    last_of_none = none_after;
    empty = none_first;
    bare = ap (λ (y : Hang). y.last) past;
    kept = ap (λ (y : Hang). y.gave) past;
    held = held;
    as_first = new_place_first;
    as_next = new_place_next;
    places = place_same;
    modes = same_else (λ h. h.mode) (λ h x. refl) (λ h x. refl);
    gave = λ v. gave_of v (same_or v (length hangs));
    last = ap (λ (y : Hang). y.last) above_is;
    lasts = λ q n. lasts_of q n (same_or q (length hangs));
    covered = subst (λ y. covers y (hang_at (opened_in hangs above mode) (length hangs)).mode ≡ true) (sym (ap (λ (y : Hang). y.mode) above_is))
        (subst (λ y. covers (hang_at hangs above).mode y ≡ true) (sym (ap (λ (y : Hang). y.mode) new_is)) covered);
  }
    where
      gave_of : (v : ℕ) → (v ≡ length hangs) ⊎ (v ≡ length hangs → ⊥) → (hang_at (opened_in hangs above mode) v).gave ≡ (hang_at hangs v).gave
      gave_of v (inl e) = ap (λ y. (hang_at (opened_in hangs above mode) y).gave) e ∙ (ap (λ (y : Hang). y.gave) new_is ∙ (sym (ap (λ (y : Hang). y.gave) past) ∙ ap (λ y. (hang_at hangs y).gave) (sym e)))
      gave_of v (inr n) = same_else (λ h. h.gave) (λ h x. refl) (λ h x. refl) v n

      lasts_of : (q : ℕ) → (q ≡ above → ⊥) → (q ≡ length hangs) ⊎ (q ≡ length hangs → ⊥) → (hang_at (opened_in hangs above mode) q).last ≡ (hang_at hangs q).last
      lasts_of q n (inl e) = ap (λ y. (hang_at (opened_in hangs above mode) y).last) e ∙ (ap (λ (y : Hang). y.last) new_is ∙ (sym (ap (λ (y : Hang). y.last) past) ∙ ap (λ y. (hang_at hangs y).last) (sym e)))
      lasts_of q n (inr m) = last_same q m n

  pub linked : AreLinked (opened_in hangs above mode)
  linked = record {
    next_forth = λ v n e. next_forth_of v n e (same_or n (length hangs));
    next_back = λ v n e z. next_back_of v n e z (same_or v (length hangs)) (same_or v (hang_at hangs above).last) (is_zero (hang_at hangs above).last);
    child_forth = λ v n e. child_forth_of v n e (same_or n (length hangs));
    child_back = λ v n e z. child_back_of v n e z (same_or v (length hangs)) (same_or v above) (is_zero (hang_at hangs above).last);
    last_above = λ p v e z. last_above_of p v e z (same_or p (length hangs)) (same_or p above);
  }
    where
      inside : (v x : ℕ) → x < length posted → x ≡ length hangs → ⊥
      inside v x k e = let a = tables.in_all in absurd (omega (arith, k, e, a))

      next_forth_of : (v n : ℕ) → place_of (hang_at (opened_in hangs above mode) n) ≡ after v → (n ≡ length hangs) ⊎ (n ≡ length hangs → ⊥) → (hang_at (opened_in hangs above mode) v).next ≡ n
      next_forth_of v n e (inl k) = go (is_zero (hang_at hangs above).last)
        where
          there : place_of (hang_at (opened_in hangs above mode) (length hangs)) ≡ after v
          there = subst (λ y. place_of (hang_at (opened_in hangs above mode) y) ≡ after v) k e

          go : ((hang_at hangs above).last ≡ 0) ⊎ ((hang_at hangs above).last ≡ 0 → ⊥) → (hang_at (opened_in hangs above mode) v).next ≡ n
          go (inl z) = absurd (let h = sym (new_place_first z) ∙ there in cc)
          go (inr z) = ap (λ y. (hang_at (opened_in hangs above mode) y).next) (same_after (sym there ∙ new_place_next z)) ∙ (next_there z ∙ sym k)
      next_forth_of v n e (inr k) =
          next_same v (λ q. let a = subst (λ y. place_of (hang_at hangs n) ≡ after y) q old in none_after n a) (apart (same_or v (hang_at hangs above).last) (is_zero (hang_at hangs above).last))
          ∙ tables.linked.next_forth v n old
        where
          old : place_of (hang_at hangs n) ≡ after v
          old = sym (place_same n k) ∙ e

          -- nothing stood behind the last one
          nothing_behind : v ≡ (hang_at hangs above).last → ((hang_at hangs above).last ≡ 0 → ⊥) → ⊥
          nothing_behind q z = end (ok.all_before above n (hang_at hangs above).last refl (tail old (subst (λ y. IsBelow (λ x. place_of (hang_at hangs x)) above y) (sym q) (ok.listed above (hang_at hangs above).last refl z))))
            where
              end : (n ≡ (hang_at hangs above).last) ⊎ IsBefore (λ x. place_of (hang_at hangs x)) n (hang_at hangs above).last → ⊥
              end (inl h) = let a = ok.behind v n old in absurd (omega (arith, a, q, h))
              end (inr b) = let a = ok.behind v n old in let d = rises (wires_of hangs) ok n (hang_at hangs above).last b in absurd (omega (arith, a, q, d))

          apart : (v ≡ (hang_at hangs above).last) ⊎ (v ≡ (hang_at hangs above).last → ⊥) → ((hang_at hangs above).last ≡ 0) ⊎ ((hang_at hangs above).last ≡ 0 → ⊥) → (v ≡ (hang_at hangs above).last → ⊥) ⊎ ((hang_at hangs above).last ≡ 0)
          apart x (inl z) = inr z
          apart (inl q) (inr z) = absurd (nothing_behind q z)
          apart (inr q) z = inl q

      next_back_of : (v n : ℕ) → (hang_at (opened_in hangs above mode) v).next ≡ n → (n ≡ 0 → ⊥) → (v ≡ length hangs) ⊎ (v ≡ length hangs → ⊥) → (v ≡ (hang_at hangs above).last) ⊎ (v ≡ (hang_at hangs above).last → ⊥) → ((hang_at hangs above).last ≡ 0) ⊎ ((hang_at hangs above).last ≡ 0 → ⊥) → place_of (hang_at (opened_in hangs above mode) n) ≡ after v
      next_back_of v n e z (inl k) x y =
          absurd (z (sym (subst (λ q. (hang_at (opened_in hangs above mode) q).next ≡ n) k e) ∙ ap (λ (y : Hang). y.next) new_is))
      next_back_of v n e z (inr k) (inl q) (inr w) =
          let a : length hangs ≡ n = sym (next_there w) ∙ (ap (λ y. (hang_at (opened_in hangs above mode) y).next) (sym q) ∙ e) in
          subst (λ y. place_of (hang_at (opened_in hangs above mode) y) ≡ after v) a (new_place_next w ∙ ap after (sym q))
      next_back_of v n e z (inr k) (inl q) (inl w) =
          let a : (hang_at hangs v).next ≡ n = sym (next_same v k (inr w)) ∙ e in
          place_same n (inside v n (subst (λ y. y < length posted) a (tables.within.next v))) ∙ tables.linked.next_back v n a z
      next_back_of v n e z (inr k) (inr q) w =
          let a : (hang_at hangs v).next ≡ n = sym (next_same v k (inl q)) ∙ e in
          place_same n (inside v n (subst (λ y. y < length posted) a (tables.within.next v))) ∙ tables.linked.next_back v n a z

      child_forth_of : (v n : ℕ) → place_of (hang_at (opened_in hangs above mode) n) ≡ first v → (n ≡ length hangs) ⊎ (n ≡ length hangs → ⊥) → (hang_at (opened_in hangs above mode) v).child ≡ n
      child_forth_of v n e (inl k) = go (is_zero (hang_at hangs above).last)
        where
          there : place_of (hang_at (opened_in hangs above mode) (length hangs)) ≡ first v
          there = subst (λ y. place_of (hang_at (opened_in hangs above mode) y) ≡ first v) k e

          go : ((hang_at hangs above).last ≡ 0) ⊎ ((hang_at hangs above).last ≡ 0 → ⊥) → (hang_at (opened_in hangs above mode) v).child ≡ n
          go (inl z) = ap (λ y. (hang_at (opened_in hangs above mode) y).child) (same_first (sym there ∙ new_place_first z)) ∙ (child_there z ∙ sym k)
          go (inr z) = absurd (let h = sym there ∙ new_place_next z in cc)
      child_forth_of v n e (inr k) =
          child_same v (λ q. none_first n (subst (λ y. place_of (hang_at hangs n) ≡ first y) q old)) (apart (same_or v above) (is_zero (hang_at hangs above).last)) ∙ tables.linked.child_forth v n old
        where
          old : place_of (hang_at hangs n) ≡ first v
          old = sym (place_same n k) ∙ e

          apart : (v ≡ above) ⊎ (v ≡ above → ⊥) → ((hang_at hangs above).last ≡ 0) ⊎ ((hang_at hangs above).last ≡ 0 → ⊥) → (v ≡ above → ⊥) ⊎ ((hang_at hangs above).last ≡ 0 → ⊥)
          apart x (inr z) = inr z
          apart (inl q) (inl z) = absurd (ok.empty above n z (head (subst (λ y. place_of (hang_at hangs n) ≡ first y) q old)))
          apart (inr q) z = inl q

      child_back_of : (v n : ℕ) → (hang_at (opened_in hangs above mode) v).child ≡ n → (n ≡ 0 → ⊥) → (v ≡ length hangs) ⊎ (v ≡ length hangs → ⊥) → (v ≡ above) ⊎ (v ≡ above → ⊥) → ((hang_at hangs above).last ≡ 0) ⊎ ((hang_at hangs above).last ≡ 0 → ⊥) → place_of (hang_at (opened_in hangs above mode) n) ≡ first v
      child_back_of v n e z (inl k) x y =
          absurd (z (sym (subst (λ q. (hang_at (opened_in hangs above mode) q).child ≡ n) k e) ∙ ap (λ (y : Hang). y.child) new_is))
      child_back_of v n e z (inr k) (inl q) (inl w) =
          let a : length hangs ≡ n = sym (child_there w) ∙ (ap (λ y. (hang_at (opened_in hangs above mode) y).child) (sym q) ∙ e) in
          subst (λ y. place_of (hang_at (opened_in hangs above mode) y) ≡ first v) a (new_place_first w ∙ ap first (sym q))
      child_back_of v n e z (inr k) (inl q) (inr w) =
          let a : (hang_at hangs v).child ≡ n = sym (child_same v k (inr w)) ∙ e in
          place_same n (inside v n (subst (λ y. y < length posted) a (tables.within.child v))) ∙ tables.linked.child_back v n a z
      child_back_of v n e z (inr k) (inr q) w =
          let a : (hang_at hangs v).child ≡ n = sym (child_same v k (inl q)) ∙ e in
          place_same n (inside v n (subst (λ y. y < length posted) a (tables.within.child v))) ∙ tables.linked.child_back v n a z

      above_same : (v : ℕ) → (v ≡ length hangs → ⊥) → (hang_at (opened_in hangs above mode) v).above ≡ (hang_at hangs v).above
      above_same = same_else (λ h. h.above) (λ h x. refl) (λ h x. refl)

      last_above_of : (p v : ℕ) → (hang_at (opened_in hangs above mode) p).last ≡ v → (v ≡ 0 → ⊥) → (p ≡ length hangs) ⊎ (p ≡ length hangs → ⊥) → (p ≡ above) ⊎ (p ≡ above → ⊥) → (hang_at (opened_in hangs above mode) v).above ≡ p
      last_above_of p v e z (inl k) x =
          absurd (z (sym (subst (λ q. (hang_at (opened_in hangs above mode) q).last ≡ v) k e) ∙ ap (λ (y : Hang). y.last) new_is))
      last_above_of p v e z (inr k) (inl q) =
          let a : length hangs ≡ v = sym (ap (λ (y : Hang). y.last) above_is) ∙ (ap (λ y. (hang_at (opened_in hangs above mode) y).last) (sym q) ∙ e) in
          ap (λ y. (hang_at (opened_in hangs above mode) y).above) (sym a) ∙ (ap (λ (y : Hang). y.above) new_is ∙ sym q)
      last_above_of p v e z (inr k) (inr q) =
          let a : (hang_at hangs p).last ≡ v = sym (last_same p k q) ∙ e in
          above_same v (inside p v (subst (λ y. y < length posted) a (tables.within.last p))) ∙ tables.linked.last_above p v a z

  pub within : (n : ℕ) → n ≡ length hangs + 1 → AreWithin (opened_in hangs above mode) n
  within n e = record {
    next = λ v. next_of v (now v);
    child = λ v. child_of v (now v);
    above = λ v. above_of v (now v);
    last = λ v. last_of v (now v);
  }
    where
      next_of : (v : ℕ) → Now v → (hang_at (opened_in hangs above mode) v).next < n
      next_of v (is_new k h) = let a = ap (λ (y : Hang). y.next) h in omega (arith, a, e)
      next_of v (is_above k h) = let a = ap (λ (y : Hang). y.next) h in let b = tables.within.next above in let c = tables.in_all in omega (arith, a, b, c, e)
      next_of v (is_before k z h) = let a = ap (λ (y : Hang). y.next) h in omega (arith, a, e)
      next_of v (is_old i j k h) = let a = ap (λ (y : Hang). y.next) h in let b = tables.within.next v in let c = tables.in_all in omega (arith, a, b, c, e)

      child_of : (v : ℕ) → Now v → (hang_at (opened_in hangs above mode) v).child < n
      child_of v (is_new k h) = let a = ap (λ (y : Hang). y.child) h in omega (arith, a, e)
      child_of v (is_above k h) = pick (is_zero (hang_at hangs above).last)
        where
          pick : ((hang_at hangs above).last ≡ 0) ⊎ ((hang_at hangs above).last ≡ 0 → ⊥) → (hang_at (opened_in hangs above mode) v).child < n
          pick (inl z) = let a = ap (λ y. (hang_at (opened_in hangs above mode) y).child) k ∙ child_there z in omega (arith, a, e)
          pick (inr z) =
              let a = ap (λ y. (hang_at (opened_in hangs above mode) y).child) k ∙ child_same above (not_end above l) (inr z) in
              let b = tables.within.child above in let c = tables.in_all in omega (arith, a, b, c, e)
      child_of v (is_before k z h) = let a = ap (λ (y : Hang). y.child) h in let b = tables.within.child (hang_at hangs above).last in let c = tables.in_all in omega (arith, a, b, c, e)
      child_of v (is_old i j k h) = let a = ap (λ (y : Hang). y.child) h in let b = tables.within.child v in let c = tables.in_all in omega (arith, a, b, c, e)

      above_of : (v : ℕ) → Now v → (hang_at (opened_in hangs above mode) v).above < n
      above_of v (is_new k h) = let a = ap (λ (y : Hang). y.above) h in omega (arith, a, e, l)
      above_of v (is_above k h) = let a = ap (λ (y : Hang). y.above) h in let b = tables.within.above above in let c = tables.in_all in omega (arith, a, b, c, e)
      above_of v (is_before k z h) = let a = ap (λ (y : Hang). y.above) h in let b = tables.within.above (hang_at hangs above).last in let c = tables.in_all in omega (arith, a, b, c, e)
      above_of v (is_old i j k h) = let a = ap (λ (y : Hang). y.above) h in let b = tables.within.above v in let c = tables.in_all in omega (arith, a, b, c, e)

      last_of : (v : ℕ) → Now v → (hang_at (opened_in hangs above mode) v).last < n
      last_of v (is_new k h) = let a = ap (λ (y : Hang). y.last) h in omega (arith, a, e)
      last_of v (is_above k h) = let a = ap (λ (y : Hang). y.last) h in omega (arith, a, e)
      last_of v (is_before k z h) = let a = ap (λ (y : Hang). y.last) h in let b = tables.within.last (hang_at hangs above).last in let c = tables.in_all in omega (arith, a, b, c, e)
      last_of v (is_old i j k h) = let a = ap (λ (y : Hang). y.last) h in let b = tables.within.last v in let c = tables.in_all in omega (arith, a, b, c, e)

  stand_same : marks_at (stand ++ no_marks ∷ []) ≡ marks_at stand
  stand_same = fun_ext (λ v. go v (same_or v (length stand)))
    where
      go : (v : ℕ) → (v ≡ length stand) ⊎ (v ≡ length stand → ⊥) → marks_at (stand ++ no_marks ∷ []) v ≡ marks_at stand v
      go v (inl e) = ap (marks_at (stand ++ no_marks ∷ [])) e ∙ (at_end stand no_marks no_marks ∙ sym (get_or-eq_default stand no_marks {n = v} (omega (arith, e))))
      go v (inr n) = at_front stand no_marks no_marks v n

  posted_else : (v : ℕ) → (v ≡ length hangs → ⊥) → marks_at (posted ++ first_flags hangs stand above mode ∷ []) v ≡ marks_at posted v
  posted_else v n = at_front posted (first_flags hangs stand above mode) no_marks v (λ e. n (e ∙ sym tables.in_all))

  posted_new : marks_at (posted ++ first_flags hangs stand above mode ∷ []) (length hangs) ≡ first_flags hangs stand above mode
  posted_new = ap (marks_at (posted ++ first_flags hangs stand above mode ∷ [])) tables.in_all ∙ at_end posted (first_flags hangs stand above mode) no_marks

  no_flags_yet : (f : Flag) → has f (marks_at stand (length hangs)) ≡ false
  no_flags_yet f = ap (has f) (get_or-eq_default stand no_marks {n = length hangs} (let a = tables.in_all in let b = tables.as_long in omega (arith, a, b))) ∙ has_none f

  mode_new : (hang_at (opened_in hangs above mode) (length hangs)).mode ≡ mode
  mode_new = ap (λ (y : Hang). y.mode) new_is

  mode_old : (v : ℕ) → v < length hangs → (hang_at (opened_in hangs above mode) v).mode ≡ (hang_at hangs v).mode
  mode_old v k = hung.modes v (not_end v k)

  flags_first : (hang_at hangs above).last ≡ 0 → first_flags hangs stand above mode ≡ to_child (hang_at hangs above).mode mode (marks_at stand above)
  flags_first z = rw (eq-eqb (hang_at hangs above).last 0 z) refl

  flags_next : ((hang_at hangs above).last ≡ 0 → ⊥) → first_flags hangs stand above mode ≡ to_next (hang_at hangs (hang_at hangs above).last).mode mode (marks_at stand (hang_at hangs above).last)
  flags_next z = rw (test_zero (hang_at hangs above).last z) refl

  posts_due : (f : Flag) → has f (first_flags hangs stand above mode) ≡ true → IsDue (wires_of (opened_in hangs above mode)) (marks_at stand) f (length hangs)
  posts_due f h = go (is_zero (hang_at hangs above).last)
    where
      go : ((hang_at hangs above).last ≡ 0) ⊎ ((hang_at hangs above).last ≡ 0 → ⊥) → IsDue (wires_of (opened_in hangs above mode)) (marks_at stand) f (length hangs)
      go (inl z) =
          from_above above (new_place_first z)
          (subst (λ y. has f (to_child y (hang_at (opened_in hangs above mode) (length hangs)).mode (marks_at stand above)) ≡ true) (sym (mode_old above l))
          (subst (λ y. has f (to_child (hang_at hangs above).mode y (marks_at stand above)) ≡ true) (sym mode_new) (sym (ap (has f) (flags_first z)) ∙ h)))
      go (inr z) =
          from_before (hang_at hangs above).last (new_place_next z)
          (subst (λ y. has f (to_next y (hang_at (opened_in hangs above mode) (length hangs)).mode (marks_at stand (hang_at hangs above).last)) ≡ true) (sym (mode_old (hang_at hangs above).last last_within))
          (subst (λ y. has f (to_next (hang_at hangs (hang_at hangs above).last).mode y (marks_at stand (hang_at hangs above).last)) ≡ true) (sym mode_new) (sym (ap (has f) (flags_next z)) ∙ h)))

  not_given : (hang_at (opened_in hangs above mode) (length hangs)).gave ≡ true → ⊥
  not_given h = let k = sym h ∙ ap (λ (y : Hang). y.gave) new_is in cc

  due_posted : (f : Flag) → IsDue (wires_of (opened_in hangs above mode)) (marks_at stand) f (length hangs) → has f (first_flags hangs stand above mode) ≡ true
  due_posted f (from_before v e h) = go (is_zero (hang_at hangs above).last)
    where
      go : ((hang_at hangs above).last ≡ 0) ⊎ ((hang_at hangs above).last ≡ 0 → ⊥) → has f (first_flags hangs stand above mode) ≡ true
      go (inl z) = absurd (let k = sym (new_place_first z) ∙ e in cc)
      go (inr z) =
          let k : v ≡ (hang_at hangs above).last = same_after (sym e ∙ new_place_next z) in
          let j = subst (λ y. has f (to_next (hang_at (opened_in hangs above mode) y).mode (hang_at (opened_in hangs above mode) (length hangs)).mode (marks_at stand y)) ≡ true) k h in
          ap (has f) (flags_next z)
          ∙ subst (λ y. has f (to_next (hang_at hangs (hang_at hangs above).last).mode y (marks_at stand (hang_at hangs above).last)) ≡ true) mode_new
          (subst (λ y. has f (to_next y (hang_at (opened_in hangs above mode) (length hangs)).mode (marks_at stand (hang_at hangs above).last)) ≡ true) (mode_old (hang_at hangs above).last last_within) j)
  due_posted f (from_above v e h) = go (is_zero (hang_at hangs above).last)
    where
      go : ((hang_at hangs above).last ≡ 0) ⊎ ((hang_at hangs above).last ≡ 0 → ⊥) → has f (first_flags hangs stand above mode) ≡ true
      go (inl z) =
          let k : v ≡ above = same_first (sym e ∙ new_place_first z) in
          let j = subst (λ y. has f (to_child (hang_at (opened_in hangs above mode) y).mode (hang_at (opened_in hangs above mode) (length hangs)).mode (marks_at stand y)) ≡ true) k h in
          ap (has f) (flags_first z)
          ∙ subst (λ y. has f (to_child (hang_at hangs above).mode y (marks_at stand above)) ≡ true) mode_new
          (subst (λ y. has f (to_child y (hang_at (opened_in hangs above mode) (length hangs)).mode (marks_at stand above)) ≡ true) (mode_old above l) j)
      go (inr z) = absurd (let k = sym e ∙ new_place_next z in cc)
  due_posted f (from_last v g e z h) = absurd (not_given g)
  due_posted f (given g) = absurd (not_given g)
  due_posted f (bare g e) = absurd (not_given g)

  pub opened_stands : Stands (wires_of (opened_in hangs above mode)) (marks_at (stand ++ no_marks ∷ [])) (marks_at (posted ++ first_flags hangs stand above mode ∷ []))
  opened_stands =
      subst (λ y. Stands (wires_of (opened_in hangs above mode)) y (marks_at (posted ++ first_flags hangs stand above mode ∷ []))) (sym stand_same)
      (hung_stands (wires_of hangs) (wires_of (opened_in hangs above mode)) above (length hangs) ok hung (marks_at stand) (marks_at posted) (marks_at (posted ++ first_flags hangs stand above mode ∷ [])) tables.stands no_flags_yet posted_else
      (λ f h. posts_due f (sym (ap (has f) posted_new) ∙ h)) (λ f d. ap (has f) posted_new ∙ due_posted f d))

  -- the new access goes in front of those that wait, if something waits there
  pub opened_queue : IsQueue (posted ++ first_flags hangs stand above mode ∷ []) (behind ++ from ∷ []) (if is_none (first_flags hangs stand above mode) then from else length hangs)
  opened_queue = go (bools (is_none (first_flags hangs stand above mode)))
    where
      q : IsQueue posted behind from
      q = tables.queue

      none_yet : is_none (marks_at posted (length hangs)) ≡ true
      none_yet = ap is_none (get_or-eq_default posted no_marks {n = length hangs} (let a = tables.in_all in omega (arith, a)))

      out : IsIn (length hangs) q.list → ⊥
      out i = true_is_not_false none_yet (q.waits (length hangs) i)

      behind_else : (v : ℕ) → (v ≡ length hangs → ⊥) → number_at (behind ++ from ∷ []) v ≡ number_at behind v
      behind_else v n = at_front behind from 0 v (λ e. n (e ∙ (tables.as_many ∙ sym tables.in_all)))

      behind_new : number_at (behind ++ from ∷ []) (length hangs) ≡ from
      behind_new = ap (number_at (behind ++ from ∷ [])) (tables.in_all ∙ sym tables.as_many) ∙ at_end behind from 0

      old_chain : IsChain (number_at (behind ++ from ∷ [])) from q.list
      old_chain = chain_kept (number_at behind) (number_at (behind ++ from ∷ [])) from q.list (length hangs) behind_else out q.chain

      old_waits : (v : ℕ) → IsIn v q.list → is_none (marks_at (posted ++ first_flags hangs stand above mode ∷ []) v) ≡ false
      old_waits v i = ap is_none (posted_else v (λ e. out (subst (λ y. IsIn y q.list) e i))) ∙ q.waits v i

      go : (is_none (first_flags hangs stand above mode) ≡ true) ⊎ (is_none (first_flags hangs stand above mode) ≡ false) → IsQueue (posted ++ first_flags hangs stand above mode ∷ []) (behind ++ from ∷ []) (if is_none (first_flags hangs stand above mode) then from else length hangs)
      go (inl h) = subst (λ y. IsQueue (posted ++ first_flags hangs stand above mode ∷ []) (behind ++ from ∷ []) y) (rw h refl) (record {
        list = q.list;
        chain = old_chain;
        waits = old_waits;
        all = λ v k. all_of v k (same_or v (length hangs));
      })
        where
          all_of : (v : ℕ) → is_none (marks_at (posted ++ first_flags hangs stand above mode ∷ []) v) ≡ false → (v ≡ length hangs) ⊎ (v ≡ length hangs → ⊥) → IsIn v q.list
          all_of v k (inl e) = absurd (true_is_not_false (ap (λ y. is_none (marks_at (posted ++ first_flags hangs stand above mode ∷ []) y)) e ∙ (ap is_none posted_new ∙ h)) k)
          all_of v k (inr n) = q.all v (sym (ap is_none (posted_else v n)) ∙ k)
      go (inr h) = subst (λ y. IsQueue (posted ++ first_flags hangs stand above mode ∷ []) (behind ++ from ∷ []) y) (rw h refl) (record {
        list = length hangs ∷ q.list;
        chain = step (λ z. absurd (omega (arith, z, l))) out (subst (λ y. IsChain (number_at (behind ++ from ∷ [])) y q.list) (sym behind_new) old_chain);
        waits = waits_of;
        all = λ v k. all_of v k (same_or v (length hangs));
      })
        where
          waits_of : (v : ℕ) → IsIn v (length hangs ∷ q.list) → is_none (marks_at (posted ++ first_flags hangs stand above mode ∷ []) v) ≡ false
          waits_of v here = ap is_none posted_new ∙ h
          waits_of v (there i) = old_waits v i

          all_of : (v : ℕ) → is_none (marks_at (posted ++ first_flags hangs stand above mode ∷ []) v) ≡ false → (v ≡ length hangs) ⊎ (v ≡ length hangs → ⊥) → IsIn v (length hangs ∷ q.list)
          all_of v k (inl e) = subst (λ y. IsIn y (length hangs ∷ q.list)) (sym e) here
          all_of v k (inr n) = there (q.all v (sym (ap is_none (posted_else v n)) ∙ k))

  pub tables_opened : AreTables (opened_in hangs above mode) (stand ++ no_marks ∷ []) (posted ++ first_flags hangs stand above mode ∷ []) (behind ++ from ∷ []) (if is_none (first_flags hangs stand above mode) then from else length hangs)
  tables_opened = record {
    linked = linked;
    listed = λ v n k. listed_of v n (subst (λ y. v < y) h_long k) (same_or v (length hangs));
    within = within (length (posted ++ first_flags hangs stand above mode ∷ [])) (longer posted (first_flags hangs stand above mode) ∙ ap (λ y. y + 1) (sym tables.in_all));
    in_all = h_long ∙ (ap (λ y. y + 1) tables.in_all ∙ sym (longer posted (first_flags hangs stand above mode)));
    stands = opened_stands;
    queue = opened_queue;
    news = λ f v h. news_of f v h (same_or v (length hangs));
    as_long = longer stand no_marks ∙ (ap (λ y. y + 1) tables.as_long ∙ sym (longer posted (first_flags hangs stand above mode)));
    as_many = longer behind from ∙ (ap (λ y. y + 1) tables.as_many ∙ sym (longer posted (first_flags hangs stand above mode)));
  }
    where
      listed_of : (v : ℕ) → (v ≡ 0 → ⊥) → v < length hangs + 1 → (v ≡ length hangs) ⊎ (v ≡ length hangs → ⊥) → IsListed (wires_of (opened_in hangs above mode)) v
      listed_of v n k (inl e) = subst (λ y. IsListed (wires_of (opened_in hangs above mode)) y) (sym e) (above, opened_stands.wired.listed above (length hangs) hung.last (λ z. n (e ∙ z)))
      listed_of v n k (inr d) =
          let i = tables.listed v n (omega (arith, k, d)) in (i.0, below_forth (wires_of hangs) (wires_of (opened_in hangs above mode)) above (length hangs) ok hung i.0 v i.1)

      news_of : (f : Flag) (v : ℕ) → has f (marks_at (posted ++ first_flags hangs stand above mode ∷ []) v) ≡ true → (v ≡ length hangs) ⊎ (v ≡ length hangs → ⊥) → has f (marks_at (stand ++ no_marks ∷ []) v) ≡ false
      news_of f v h (inl e) = ap (λ (g : ℕ → Marks). has f (g v)) stand_same ∙ (ap (λ y. has f (marks_at stand y)) e ∙ no_flags_yet f)
      news_of f v h (inr n) = ap (λ (g : ℕ → Marks). has f (g v)) stand_same ∙ tables.news f v (sym (ap (has f) (posted_else v n)) ∙ h)

  -- the same, of values that are equal to these
  pub tables_made : (G : List Hang) (S P : List Marks) (B : List ℕ) (told : Marks) (to : ℕ) → G ≡ opened_in hangs above mode → S ≡ stand ++ no_marks ∷ [] → P ≡ posted ++ told ∷ [] → B ≡ behind ++ from ∷ []
      → told ≡ first_flags hangs stand above mode → to ≡ (if is_none told then from else length hangs) → AreTables G S P B to
  tables_made G S P B told to g s p b f t =
      subst (λ y. AreTables y S P B to) (sym g) (subst (λ y. AreTables (opened_in hangs above mode) y P B to) (sym s)
      (subst (λ y. AreTables (opened_in hangs above mode) (stand ++ no_marks ∷ []) y B to) (sym (p ∙ ap (λ y. posted ++ y ∷ []) f))
      (subst (λ y. AreTables (opened_in hangs above mode) (stand ++ no_marks ∷ []) (posted ++ first_flags hangs stand above mode ∷ []) y to) (sym b)
      (subst (λ y. AreTables (opened_in hangs above mode) (stand ++ no_marks ∷ []) (posted ++ first_flags hangs stand above mode ∷ []) (behind ++ from ∷ []) y) (sym (t ∙ ap (λ y. if is_none y then from else length hangs) f)) tables_opened))))
