-- A delivery keeps all that is said of the tables, and fewer flags are left.
use Rattle.std.proofs.Common.{◌≡◌, ℕ, ◌<◌, ◌≤◌, refl, sym, subst, ap, ◌∙◌, ◌⊎◌, inl, inr, Bool, true, false, List, [], ◌∷◌, length, arith, eq-eqb}
use Rattle.std.specs.Prelude.{zero, suc, not, ◌||◌, ◌&&◌, ◌==◌}
use Rattle.std.proofs.Math.ListN.{set}
use Rattle.std.proofs.lemmas.List.{get_or-set_same, get_or-set_other, length-set}
use Rattle.oss_access_lists.specs.declared.marks.Marks.{Marks}
use Rattle.oss_access_lists.specs.declared.hang.Hang.{Hang}
use Rattle.oss_access_lists.specs.Wires.{first, after, Wires}
use Rattle.oss_access_lists.specs.Flags.{Flag, MayRead, MayJoin, MayWrite, Given, Done, Clear, has, to_next, to_child, is_whole, IsDue, from_before, from_above, from_last, Stands, IsTold, IsExact, AreAtRest}
use Rattle.oss_access_lists.specs.Tables.{no_marks, is_none, plus, marks_at, hang_at, next_in, child_in, stand_after, posted_after, wires_of, place_of, AreWithin, AreNew, left_of, left_in, one_left, AreTables, IsQueue}
use Rattle.oss_access_lists.proofs.SoundLemmas.{both_of, one_of}
use Rattle.oss_access_lists.proofs.StepLemmas.{same_or, delivered, told_from, rest_exact, quiet_rests}
use Rattle.oss_access_lists.proofs.QueueLemmas.{front_waits, none_waits, waits_within}
use Rattle.oss_access_lists.proofs.SendLemmas.{Sends, sends_next, sends_child, sends_up, ToNext, ToChild, ToAbove, has_plus, has_none, zero_test, test_zero, up_parts}

either_is : (a b : Bool) → (a ≡ true) ⊎ (b ≡ true) → (a || b) ≡ true
either_is true b h = refl
either_is false true h = refl
either_is false false (inl h) = h
either_is false false (inr h) = h

pub true_is_not_false : {b : Bool} → b ≡ true → b ≡ false → ⊥
true_is_not_false h k = let e = sym h ∙ k in absurd cc

pub some_flag : (a : Marks) → is_none a ≡ false → (f : Flag) × (has f a ≡ true)
some_flag a h = go a.reads a.joins a.writes a.given a.done a.clear refl refl refl refl refl refl h
  where
    go : (p q r s t u : Bool) → a.reads ≡ p → a.joins ≡ q → a.writes ≡ r → a.given ≡ s → a.done ≡ t → a.clear ≡ u → not (p || q || r || s || t || u) ≡ false → (f : Flag) × (has f a ≡ true)
    go true q r s t u a1 a2 a3 a4 a5 a6 k = (MayRead, a1)
    go false true r s t u a1 a2 a3 a4 a5 a6 k = (MayJoin, a2)
    go false false true s t u a1 a2 a3 a4 a5 a6 k = (MayWrite, a3)
    go false false false true t u a1 a2 a3 a4 a5 a6 k = (Given, a4)
    go false false false false true u a1 a2 a3 a4 a5 a6 k = (Done, a5)
    go false false false false false true a1 a2 a3 a4 a5 a6 k = (Clear, a6)
    go false false false false false false a1 a2 a3 a4 a5 a6 k = absurd cc

not_more : (a b : Bool) → one_left (a || b) ≤ one_left a
not_more true b = omega arith
not_more false true = omega arith
not_more false false = omega arith

one_less : (a b : Bool) → b ≡ true → a ≡ false → one_left (a || b) < one_left a
one_less true b h k = absurd cc
one_less false true h k = omega arith
one_less false false h k = absurd cc

pub fewer : (a b : Marks) (f : Flag) → has f b ≡ true → has f a ≡ false → left_of (plus a b) < left_of a
fewer a b f h k =
    let r = not_more a.reads b.reads in
    let j = not_more a.joins b.joins in
    let w = not_more a.writes b.writes in
    let g = not_more a.given b.given in
    let d = not_more a.done b.done in
    let c = not_more a.clear b.clear in
    go f h k r j w g d c
  where
    go : (f : Flag) → has f b ≡ true → has f a ≡ false → one_left (a.reads || b.reads) ≤ one_left a.reads → one_left (a.joins || b.joins) ≤ one_left a.joins → one_left (a.writes || b.writes) ≤ one_left a.writes → one_left (a.given || b.given) ≤ one_left a.given → one_left (a.done || b.done) ≤ one_left a.done → one_left (a.clear || b.clear) ≤ one_left a.clear → left_of (plus a b) < left_of a
    go MayRead h k r j w g d c = let s = one_less a.reads b.reads h k in omega (arith, s, j, w, g, d, c)
    go MayJoin h k r j w g d c = let s = one_less a.joins b.joins h k in omega (arith, s, r, w, g, d, c)
    go MayWrite h k r j w g d c = let s = one_less a.writes b.writes h k in omega (arith, s, r, j, g, d, c)
    go Given h k r j w g d c = let s = one_less a.given b.given h k in omega (arith, s, r, j, w, d, c)
    go Done h k r j w g d c = let s = one_less a.done b.done h k in omega (arith, s, r, j, w, g, c)
    go Clear h k r j w g d c = let s = one_less a.clear b.clear h k in omega (arith, s, r, j, w, g, d)

pub left_less : (all : List Marks) (v : ℕ) (now : Marks) → v < length all → left_of now < left_of (marks_at all v) → left_in (set all v now) < left_in all
left_less [] v now l h = absurd (omega (arith, l))
left_less (a ∷ rest) zero now l h = omega (arith, h)
left_less (a ∷ rest) (suc v) now l h = let k = left_less rest v now (omega (arith, l)) h in omega (arith, k)

module _ (hangs : List Hang) (stand posted : List Marks) (behind : List ℕ) (from : ℕ) (tables : AreTables hangs stand posted behind from) (z : from ≡ 0 → ⊥) where
  pub front : is_none (marks_at posted from) ≡ false
  front = front_waits posted behind from z tables.queue

  pub front_within : from < length posted
  front_within = waits_within posted from front

  pub front_stands : from < length stand
  front_stands = let l = front_within in let e = tables.as_long in omega (arith, l, e)

  abbrev pub S : List Marks
  S = stand_after stand posted from

  abbrev pub P0 : List Marks
  P0 = set posted from no_marks

  abbrev pub P1 : List Marks
  P1 = next_in hangs (stand_after stand posted from) (set posted from no_marks) from

  abbrev pub P2 : List Marks
  P2 = child_in hangs (stand_after stand posted from) (next_in hangs (stand_after stand posted from) (set posted from no_marks) from) from

  abbrev pub P3 : List Marks
  P3 = posted_after hangs (stand_after stand posted from) posted from

  n : ℕ
  n = length posted

  long0 : length (set posted from no_marks) ≡ length posted
  long0 = length-set posted from no_marks

  s1 : Sends hangs (stand_after stand posted from) (set posted from no_marks) (next_in hangs (stand_after stand posted from) (set posted from no_marks) from) (ToNext hangs (stand_after stand posted from) from (length posted) tables.linked tables.within)
  s1 = sends_next hangs (stand_after stand posted from) from (length posted) tables.linked tables.within (set posted from no_marks) long0

  s2 : Sends hangs (stand_after stand posted from) P1 P2 (ToChild hangs (stand_after stand posted from) from (length posted) tables.linked tables.within)
  s2 = sends_child hangs (stand_after stand posted from) from (length posted) tables.linked tables.within P1 (s1.as_long ∙ long0)

  s3 : Sends hangs (stand_after stand posted from) P2 P3 (ToAbove hangs (stand_after stand posted from) from (length posted) tables.linked tables.within)
  s3 = sends_up hangs (stand_after stand posted from) from (length posted) tables.linked tables.within P2 (s2.as_long ∙ (s1.as_long ∙ long0))

  pub long3 : length P3 ≡ length posted
  long3 = s3.as_long ∙ (s2.as_long ∙ (s1.as_long ∙ long0))

  stand_there : marks_at (stand_after stand posted from) from ≡ plus (marks_at stand from) (marks_at posted from)
  stand_there = get_or-set_same stand from (plus (marks_at stand from) (marks_at posted from)) no_marks front_stands

  stand_else : (v : ℕ) → (v ≡ from → ⊥) → marks_at (stand_after stand posted from) v ≡ marks_at stand v
  stand_else v k = get_or-set_other stand from v (plus (marks_at stand from) (marks_at posted from)) no_marks k

  -- what is left of what waited
  waited : (f : Flag) (v : ℕ) → has f (marks_at (set posted from no_marks) v) ≡ true → (v ≡ from → ⊥) × (has f (marks_at posted v) ≡ true)
  waited f v h = go (same_or v from)
    where
      go : (v ≡ from) ⊎ (v ≡ from → ⊥) → (v ≡ from → ⊥) × (has f (marks_at posted v) ≡ true)
      go (inl e) =
          absurd (true_is_not_false (sym (ap (has f) (get_or-set_same posted from no_marks no_marks front_within)) ∙ subst (λ y. has f (marks_at (set posted from no_marks) y) ≡ true) e h) (has_none f))
      go (inr k) = (k, sym (ap (has f) (get_or-set_other posted from v no_marks no_marks k)) ∙ h)

  data Sent (f : Flag) (v : ℕ) : Type 0 where
    old : has f (marks_at (set posted from no_marks) v) ≡ true → Sent f v
    on : ToNext hangs (stand_after stand posted from) from (length posted) tables.linked tables.within f v → has f (marks_at (stand_after stand posted from) v) ≡ false → Sent f v
    down : ToChild hangs (stand_after stand posted from) from (length posted) tables.linked tables.within f v → has f (marks_at (stand_after stand posted from) v) ≡ false → Sent f v
    up : ToAbove hangs (stand_after stand posted from) from (length posted) tables.linked tables.within f v → has f (marks_at (stand_after stand posted from) v) ≡ false → Sent f v

  sent : (f : Flag) (v : ℕ) → has f (marks_at P3 v) ≡ true → Sent f v
  sent f v h = third (s3.news f v h)
    where
      first_ : (has f (marks_at P0 v) ≡ true) ⊎ (ToNext hangs (stand_after stand posted from) from (length posted) tables.linked tables.within f v × (has f (marks_at (stand_after stand posted from) v) ≡ false)) → Sent f v
      first_ (inl k) = old k
      first_ (inr k) = on k.0 k.1

      second : (has f (marks_at P1 v) ≡ true) ⊎ (ToChild hangs (stand_after stand posted from) from (length posted) tables.linked tables.within f v × (has f (marks_at (stand_after stand posted from) v) ≡ false)) → Sent f v
      second (inl k) = first_ (s1.news f v k)
      second (inr k) = down k.0 k.1

      third : (has f (marks_at P2 v) ≡ true) ⊎ (ToAbove hangs (stand_after stand posted from) from (length posted) tables.linked tables.within f v × (has f (marks_at (stand_after stand posted from) v) ≡ false)) → Sent f v
      third (inl k) = second (s2.news f v k)
      third (inr k) = up k.0 k.1

  grown : (f : Flag) (v : ℕ) → has f (marks_at (stand_after stand posted from) v) ≡ true → IsTold (marks_at stand) (marks_at posted) f v
  grown f v h = go (same_or v from)
    where
      spread : (has f (marks_at stand from) ≡ true) ⊎ (has f (marks_at posted from) ≡ true) → IsTold (marks_at stand) (marks_at posted) f from
      spread (inl k) = inl k
      spread (inr k) = inr k

      go : (v ≡ from) ⊎ (v ≡ from → ⊥) → IsTold (marks_at stand) (marks_at posted) f v
      go (inl e) =
          subst (λ y. IsTold (marks_at stand) (marks_at posted) f y) (sym e)
          (spread (one_of (has f (marks_at stand from)) (has f (marks_at posted from)) (sym (has_plus f (marks_at stand from) (marks_at posted from)) ∙ (sym (ap (has f) stand_there) ∙ subst (λ y. has f (marks_at (stand_after stand posted from) y) ≡ true) e h))))
      go (inr k) = inl (sym (ap (has f) (stand_else v k)) ∙ h)

  kept : (f : Flag) (v : ℕ) → IsTold (marks_at stand) (marks_at posted) f v → IsTold (marks_at (stand_after stand posted from)) (marks_at P3) f v
  kept f v h = go (same_or v from) h
    where
      go : (v ≡ from) ⊎ (v ≡ from → ⊥) → IsTold (marks_at stand) (marks_at posted) f v → IsTold (marks_at (stand_after stand posted from)) (marks_at P3) f v
      go (inl e) k =
          inl (subst (λ y. has f (marks_at (stand_after stand posted from) y) ≡ true) (sym e)
          (ap (has f) stand_there ∙ (has_plus f (marks_at stand from) (marks_at posted from) ∙ either_is (has f (marks_at stand from)) (has f (marks_at posted from)) (subst (λ y. IsTold (marks_at stand) (marks_at posted) f y) e k))))
      go (inr n) (inl k) = inl (ap (has f) (stand_else v n) ∙ k)
      go (inr n) (inr k) = inr (s3.kept f v (s2.kept f v (s1.kept f v (ap (has f) (get_or-set_other posted from v no_marks no_marks n) ∙ k))))

  w : Wires
  w = wires_of hangs

  due : (f : Flag) (v : ℕ) → Sent f v → (has f (marks_at posted v) ≡ true) ⊎ IsDue (wires_of hangs) (marks_at (stand_after stand posted from)) f v
  due f v (old h) = inl (waited f v h).1
  due f v (on k e) =
      inr (from_before from (tables.linked.next_back from v (sym k.1) (λ x. zero_test (hang_at hangs from).next k.0 (sym k.1 ∙ x)))
      (subst (λ y. has f (to_next (hang_at hangs from).mode (hang_at hangs y).mode (marks_at (stand_after stand posted from) from)) ≡ true) (sym k.1) k.2))
  due f v (down k e) =
      inr (from_above from (tables.linked.child_back from v (sym k.1) (λ x. zero_test (hang_at hangs from).child k.0 (sym k.1 ∙ x)))
      (subst (λ y. has f (to_child (hang_at hangs from).mode (hang_at hangs y).mode (marks_at (stand_after stand posted from) from)) ≡ true) (sym k.1) k.2))
  due f v (up k e) =
      let p = up_parts hangs (stand_after stand posted from) from k.0 in
      inr (subst (λ y. IsDue (wires_of hangs) (marks_at (stand_after stand posted from)) y v) (sym k.2)
      (from_last from (subst (λ y. (hang_at hangs y).gave ≡ true) (sym k.1) p.0) (subst (λ y. (hang_at hangs y).last ≡ from) (sym k.1) p.1) z p.2))

  to_n : (x : ℕ) (f : Flag) → place_of (hang_at hangs x) ≡ after from → has f (to_next (hang_at hangs from).mode (hang_at hangs x).mode (marks_at (stand_after stand posted from) from)) ≡ true → IsTold (marks_at (stand_after stand posted from)) (marks_at P3) f x
  to_n x f e h =
      let a = tables.linked.next_forth from x e in
      let l = tables.stands.wired.behind from x e in
      go (s1.told f x (test_zero (hang_at hangs from).next (λ y. absurd (omega (arith, a, l, y))), sym a, subst (λ y. has f (to_next (hang_at hangs from).mode (hang_at hangs y).mode (marks_at (stand_after stand posted from) from)) ≡ true) (sym a) h))
    where
      go : (has f (marks_at (stand_after stand posted from) x) ≡ true) ⊎ (has f (marks_at P1 x) ≡ true) → IsTold (marks_at (stand_after stand posted from)) (marks_at P3) f x
      go (inl k) = inl k
      go (inr k) = inr (s3.kept f x (s2.kept f x k))

  to_c : (x : ℕ) (f : Flag) → place_of (hang_at hangs x) ≡ first from → has f (to_child (hang_at hangs from).mode (hang_at hangs x).mode (marks_at (stand_after stand posted from) from)) ≡ true → IsTold (marks_at (stand_after stand posted from)) (marks_at P3) f x
  to_c x f e h =
      let a = tables.linked.child_forth from x e in
      let l = tables.stands.wired.below from x e in
      go (s2.told f x (test_zero (hang_at hangs from).child (λ y. absurd (omega (arith, a, l, y))), sym a, subst (λ y. has f (to_child (hang_at hangs from).mode (hang_at hangs y).mode (marks_at (stand_after stand posted from) from)) ≡ true) (sym a) h))
    where
      go : (has f (marks_at (stand_after stand posted from) x) ≡ true) ⊎ (has f (marks_at P2 x) ≡ true) → IsTold (marks_at (stand_after stand posted from)) (marks_at P3) f x
      go (inl k) = inl k
      go (inr k) = inr (s3.kept f x k)

  to_p : (p : ℕ) → (hang_at hangs p).gave ≡ true → (hang_at hangs p).last ≡ from → is_whole (marks_at (stand_after stand posted from) from) ≡ true → IsTold (marks_at (stand_after stand posted from)) (marks_at P3) Done p
  to_p p g l h =
      let a = tables.linked.last_above p from l z in
      let g' = subst (λ y. (hang_at hangs y).gave ≡ true) (sym a) g in
      let l' = subst (λ y. (hang_at hangs y).last ≡ from) (sym a) l in
      s3.told Done p (
        both_of ((hang_at hangs (hang_at hangs from).above).gave && ((hang_at hangs (hang_at hangs from).above).last == from)) (is_whole (marks_at (stand_after stand posted from) from))
            (both_of (hang_at hangs (hang_at hangs from).above).gave ((hang_at hangs (hang_at hangs from).above).last == from) g' (eq-eqb (hang_at hangs (hang_at hangs from).above).last from l')) h,
        sym a,
        refl,
      )

  pub new_stands : Stands (wires_of hangs) (marks_at (stand_after stand posted from)) (marks_at P3)
  new_stands =
      delivered (wires_of hangs) (marks_at stand) (marks_at posted) (marks_at (stand_after stand posted from)) (marks_at P3) tables.stands grown
      (λ f v h. due f v (sent f v h))
      (told_from (wires_of hangs) (marks_at stand) (marks_at posted) (marks_at (stand_after stand posted from)) (marks_at P3) from tables.stands stand_else kept to_n to_c to_p)
      (ap (λ (y : Marks). y.reads) (stand_else 0 (λ e. z (sym e))) ∙ tables.stands.main_reads) (ap (λ (y : Marks). y.writes) (stand_else 0 (λ e. z (sym e))) ∙ tables.stands.main_writes)

  new_news : AreNew (stand_after stand posted from) P3
  new_news f v h = go (sent f v h)
    where
      go : Sent f v → has f (marks_at (stand_after stand posted from) v) ≡ false
      go (old k) = let j = waited f v k in ap (has f) (stand_else v j.0) ∙ tables.news f v j.1
      go (on k e) = e
      go (down k e) = e
      go (up k e) = e

  -- the tables after the delivery
  pub tables_after : (next : List ℕ) (to : ℕ) → length next ≡ length posted → IsQueue P3 next to → AreTables hangs (stand_after stand posted from) P3 next to
  tables_after next to l q = record {
    linked = tables.linked;
    listed = tables.listed;
    within = subst (λ y. AreWithin hangs y) (sym long3) tables.within;
    in_all = tables.in_all ∙ sym long3;
    stands = new_stands;
    queue = q;
    news = new_news;
    as_long = length-set stand from (plus (marks_at stand from) (marks_at posted from)) ∙ (tables.as_long ∙ sym long3);
    as_many = l ∙ sym long3;
  }

  pub less : left_in (stand_after stand posted from) < left_in stand
  less =
      let f = some_flag (marks_at posted from) front in
      left_less stand from (plus (marks_at stand from) (marks_at posted from)) front_stands (fewer (marks_at stand from) (marks_at posted from) f.0 f.1 (tables.news f.0 from f.1))

-- where nothing waits, all that is due stands
pub tables_rest : (hangs : List Hang) (stand posted : List Marks) (behind : List ℕ) → AreTables hangs stand posted behind 0 → AreAtRest (wires_of hangs) (marks_at stand)
tables_rest hangs stand posted behind tables = quiet_rests (wires_of hangs) (marks_at stand) (marks_at posted) tables.stands quiet
  where
    no_flag : (f : Flag) (a : Marks) → is_none a ≡ true → has f a ≡ true → ⊥
    no_flag f a h k = go f a.reads a.joins a.writes a.given a.done a.clear h k
      where
        go : (f : Flag) (p q r s t u : Bool) → not (p || q || r || s || t || u) ≡ true → has f (record { reads = p; joins = q; writes = r; given = s; done = t; clear = u }) ≡ true → ⊥
        go MayRead true q r s t u h k = absurd cc
        go MayRead false q r s t u h k = absurd cc
        go MayJoin false true r s t u h k = absurd cc
        go MayJoin true true r s t u h k = absurd cc
        go MayJoin p false r s t u h k = absurd cc
        go MayWrite p q false s t u h k = absurd cc
        go MayWrite true q true s t u h k = absurd cc
        go MayWrite false true true s t u h k = absurd cc
        go MayWrite false false true s t u h k = absurd cc
        go Given p q r false t u h k = absurd cc
        go Given true q r true t u h k = absurd cc
        go Given false true r true t u h k = absurd cc
        go Given false false true true t u h k = absurd cc
        go Given false false false true t u h k = absurd cc
        go Done p q r s false u h k = absurd cc
        go Done true q r s true u h k = absurd cc
        go Done false true r s true u h k = absurd cc
        go Done false false true s true u h k = absurd cc
        go Done false false false true true u h k = absurd cc
        go Done false false false false true u h k = absurd cc
        go Clear p q r s t false h k = absurd cc
        go Clear true q r s t true h k = absurd cc
        go Clear false true r s t true h k = absurd cc
        go Clear false false true s t true h k = absurd cc
        go Clear false false false true t true h k = absurd cc
        go Clear false false false false true true h k = absurd cc
        go Clear false false false false false true h k = absurd cc

    quiet : (f : Flag) (v : ℕ) → has f (marks_at posted v) ≡ true → ⊥
    quiet f v h = no_flag f (marks_at posted v) (none_waits posted behind 0 refl tables.queue v) h

-- so each flag stands exactly where what it says is so
pub rest_told : (hangs : List Hang) (stand posted : List Marks) (behind : List ℕ) (from : ℕ) → AreTables hangs stand posted behind from → from ≡ 0 → (f : Flag) (v : ℕ) → (v ≡ 0 → ⊥) → v < length hangs
    → IsExact (wires_of hangs) (marks_at stand) f v
rest_told hangs stand posted behind from tables e f v n l =
    rest_exact (wires_of hangs) (marks_at stand) (tables_rest hangs stand posted behind (subst (λ y. AreTables hangs stand posted behind y) e tables)) f v (tables.listed v n l)
