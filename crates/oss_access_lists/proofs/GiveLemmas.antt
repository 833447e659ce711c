-- A gift keeps all that is said of the tables.
use Rattle.std.proofs.Common.{◌≡◌, ℕ, ◌<◌, refl, sym, subst, ap, ◌∙◌, ◌⊎◌, inl, inr, Bool, true, false, List, length, eqb-true, eq-eqb}
use Rattle.std.specs.Prelude.{◌||◌, ◌==◌}
use Rattle.std.proofs.lemmas.List.{get_or-set_same, get_or-set_other, length-set}
use Rattle.oss_access_lists.specs.declared.marks.Marks.{Marks}
use Rattle.oss_access_lists.specs.declared.hang.Hang.{Hang}
use Rattle.oss_access_lists.specs.Wires.{Place, IsBelow, head, tail}
use Rattle.oss_access_lists.specs.Steps.{IsGift}
use Rattle.oss_access_lists.specs.Flags.{Flag, MayRead, MayJoin, MayWrite, Given, Done, Clear, has, is_whole, IsDue, from_last, given, bare, IsListed}
use Rattle.oss_access_lists.specs.Tables.{no_hang, marks_at, hang_at, post_in, gift_flags, given_up, gave_in, wires_of, place_of, AreWithin, AreLinked, AreTables, IsQueue}
use Rattle.oss_access_lists.proofs.SoundLemmas.{one_of, is_zero}
use Rattle.oss_access_lists.proofs.StepLemmas.{same_or}
use Rattle.oss_access_lists.proofs.GiftLemmas.{gift_stands}
use Rattle.oss_access_lists.proofs.SendLemmas.{Posts, posts}

left_or : (a b : Bool) → a ≡ true → (a || b) ≡ true
left_or a b h = rw h refl

right_or : (a b : Bool) → b ≡ true → (a || b) ≡ true
right_or true b h = refl
right_or false b h = h

-- lists stay where each access hangs as before
same_below : (old new : ℕ → Place) → ((v : ℕ) → new v ≡ old v) → (p v : ℕ) → IsBelow old p v → IsBelow new p v
same_below old new same p v (head e) = head (same v ∙ e)
same_below old new same p v (tail {u = u} e b) = tail (same v ∙ e) (same_below old new same p u b)

module _ (hangs : List Hang) (stand posted : List Marks) (behind : List ℕ) (from at : ℕ) (tables : AreTables hangs stand posted behind from) (z : at ≡ 0 → ⊥) (l : at < length hangs) where
  pub later_at : hang_at (gave_in hangs at) at ≡ given_up (hang_at hangs at)
  later_at = get_or-set_same hangs at (given_up (hang_at hangs at)) no_hang l

  pub later_else : (v : ℕ) → (v ≡ at → ⊥) → hang_at (gave_in hangs at) v ≡ hang_at hangs v
  later_else v n = get_or-set_other hangs at v (given_up (hang_at hangs at)) no_hang n

  -- what does not look at the gifts is as before
  pub as_before : {A : Type 0} (g : Hang → A) → ((h : Hang) → g (given_up h) ≡ g h) → (v : ℕ) → g (hang_at (gave_in hangs at) v) ≡ g (hang_at hangs v)
  as_before g same v = go (same_or v at)
    where
      go : (v ≡ at) ⊎ (v ≡ at → ⊥) → g (hang_at (gave_in hangs at) v) ≡ g (hang_at hangs v)
      go (inl e) = subst (λ y. g (hang_at (gave_in hangs at) y) ≡ g (hang_at hangs y)) (sym e) (ap g later_at ∙ same (hang_at hangs at))
      go (inr n) = ap g (later_else v n)

  pub gift : IsGift (wires_of hangs) (wires_of (gave_in hangs at)) at
  gift = record {
    not_main = z;
    places = as_before place_of (λ h. refl);
    modes = as_before (λ h. h.mode) (λ h. refl);
    lasts = as_before (λ h. h.last) (λ h. refl);
    given = ap (λ (h : Hang). h.gave) later_at;
    others = λ v n. ap (λ (h : Hang). h.gave) (later_else v n);
  }

  next_same : (v : ℕ) → (hang_at (gave_in hangs at) v).next ≡ (hang_at hangs v).next
  next_same = as_before (λ h. h.next) (λ h. refl)

  child_same : (v : ℕ) → (hang_at (gave_in hangs at) v).child ≡ (hang_at hangs v).child
  child_same = as_before (λ h. h.child) (λ h. refl)

  above_same : (v : ℕ) → (hang_at (gave_in hangs at) v).above ≡ (hang_at hangs v).above
  above_same = as_before (λ h. h.above) (λ h. refl)

  last_same : (v : ℕ) → (hang_at (gave_in hangs at) v).last ≡ (hang_at hangs v).last
  last_same = as_before (λ h. h.last) (λ h. refl)

  place_same : (v : ℕ) → place_of (hang_at (gave_in hangs at) v) ≡ place_of (hang_at hangs v)
  place_same = as_before place_of (λ h. refl)

  linked : AreLinked (gave_in hangs at)
  linked = record {
    next_forth = λ v n e. next_same v ∙ tables.linked.next_forth v n (sym (place_same n) ∙ e);
    next_back = λ v n e k. place_same n ∙ tables.linked.next_back v n (sym (next_same v) ∙ e) k;
    child_forth = λ v n e. child_same v ∙ tables.linked.child_forth v n (sym (place_same n) ∙ e);
    child_back = λ v n e k. place_same n ∙ tables.linked.child_back v n (sym (child_same v) ∙ e) k;
    last_above = λ p v e k. above_same v ∙ tables.linked.last_above p v (sym (last_same p) ∙ e) k;
  }

  within : (n : ℕ) → n ≡ length posted → AreWithin (gave_in hangs at) n
  within n e = record {
    next = λ v. subst (λ y. y < n) (sym (next_same v)) (subst (λ y. (hang_at hangs v).next < y) (sym e) (tables.within.next v));
    child = λ v. subst (λ y. y < n) (sym (child_same v)) (subst (λ y. (hang_at hangs v).child < y) (sym e) (tables.within.child v));
    above = λ v. subst (λ y. y < n) (sym (above_same v)) (subst (λ y. (hang_at hangs v).above < y) (sym e) (tables.within.above v));
    last = λ v. subst (λ y. y < n) (sym (last_same v)) (subst (λ y. (hang_at hangs v).last < y) (sym e) (tables.within.last v));
  }

  flags : Marks
  flags = gift_flags hangs stand at

  pub in_posted : at < length posted
  in_posted = subst (λ y. at < y) tables.in_all l

  p : Posts stand posted (post_in stand posted at (gift_flags hangs stand at)) at (gift_flags hangs stand at)
  p = posts stand posted at (gift_flags hangs stand at) in_posted

  due_there : (f : Flag) → has f (gift_flags hangs stand at) ≡ true → IsDue (wires_of (gave_in hangs at)) (marks_at stand) f at
  due_there MayRead h = absurd cc
  due_there MayJoin h = absurd cc
  due_there MayWrite h = absurd cc
  due_there Given h = given gift.given
  due_there Done h = go (one_of ((hang_at hangs at).last == 0) (is_whole (marks_at stand (hang_at hangs at).last)) h) (is_zero (hang_at hangs at).last)
    where
      go : (((hang_at hangs at).last == 0) ≡ true) ⊎ (is_whole (marks_at stand (hang_at hangs at).last) ≡ true) → ((hang_at hangs at).last ≡ 0) ⊎ ((hang_at hangs at).last ≡ 0 → ⊥) → IsDue (wires_of (gave_in hangs at)) (marks_at stand) Done at
      go x (inl e) = bare gift.given (last_same at ∙ e)
      go (inl k) (inr n) = absurd (n (eqb-true (hang_at hangs at).last 0 k))
      go (inr k) (inr n) = from_last (hang_at hangs at).last gift.given (last_same at) n k
  due_there Clear h = absurd cc

  still_listed : (v : ℕ) → IsListed (wires_of hangs) v → IsListed (wires_of (gave_in hangs at)) v
  still_listed v i = (i.0, same_below (λ x. place_of (hang_at hangs x)) (λ x. place_of (hang_at (gave_in hangs at) x)) place_same i.0 v i.1)

  pub tables_given : (next : List ℕ) (to : ℕ) → length next ≡ length behind → IsQueue (post_in stand posted at (gift_flags hangs stand at)) next to
      → AreTables (gave_in hangs at) stand (post_in stand posted at (gift_flags hangs stand at)) next to
  tables_given next to as_many q = record {
    linked = linked;
    listed = λ v n k. still_listed v (tables.listed v n (subst (λ y. v < y) (length-set hangs at (given_up (hang_at hangs at))) k));
    within = within (length (post_in stand posted at (gift_flags hangs stand at))) p.as_long;
    in_all = length-set hangs at (given_up (hang_at hangs at)) ∙ (tables.in_all ∙ sym p.as_long);
    stands = gift_stands (wires_of hangs) (wires_of (gave_in hangs at)) at gift (marks_at stand) (marks_at posted) (marks_at (post_in stand posted at (gift_flags hangs stand at))) tables.stands p.kept
        (λ f v h. posts_of f v (p.news f v h)) (p.told Given refl)
        (λ e. p.told Done (left_or ((hang_at hangs at).last == 0) (is_whole (marks_at stand (hang_at hangs at).last)) (eq-eqb (hang_at hangs at).last 0 e)))
        (λ n h. p.told Done (right_or ((hang_at hangs at).last == 0) (is_whole (marks_at stand (hang_at hangs at).last)) h));
    queue = q;
    news = λ f v h. news_of f v (p.news f v h);
    as_long = tables.as_long ∙ sym p.as_long;
    as_many = as_many ∙ (tables.as_many ∙ sym p.as_long);
  }
    where
      posts_of : (f : Flag) (v : ℕ) → (has f (marks_at posted v) ≡ true) ⊎ ((v ≡ at) × (has f (gift_flags hangs stand at) ≡ true) × (has f (marks_at stand v) ≡ false)) → (has f (marks_at posted v) ≡ true) ⊎ IsDue (wires_of (gave_in hangs at)) (marks_at stand) f v
      posts_of f v (inl h) = inl h
      posts_of f v (inr k) = inr (subst (λ y. IsDue (wires_of (gave_in hangs at)) (marks_at stand) f y) (sym k.0) (due_there f k.1))

      news_of : (f : Flag) (v : ℕ) → (has f (marks_at posted v) ≡ true) ⊎ ((v ≡ at) × (has f (gift_flags hangs stand at) ≡ true) × (has f (marks_at stand v) ≡ false)) → has f (marks_at stand v) ≡ false
      news_of f v (inl h) = tables.news f v h
      news_of f v (inr k) = k.2
