-- A table that is copied row by row.
use Rattle.std.proofs.Common.{◌≡◌, ℕ, zero, suc, ◌<◌, ◌≤◌, ◌+◌, refl, sym, ap, subst, ◌∙◌, ◌⊎◌, inl, inr, Bool, true, false, List, [], ◌∷◌, ◌++◌, length, Some, arith, eq-eqb, eqb-true, length-append}
use Rattle.std.proofs.lemmas.List.{get_or_append_left, get_or_push}
use Rattle.std.proofs.lemmas.Option.{slice_get_within}
use Rattle.std.specs.Prelude.{◌==◌, slice_get}
use Rattle.oss_syntax.specs.declared.access.Mode.{Mode}
use Rattle.oss_model.specs.Rights.{covers}
use Rattle.oss_model.specs.Forest.{IsDone, IsWriteSatisfied, done, write_child}
use Rattle.oss_access_lists.specs.declared.hang.Hang.{Hang}
use Rattle.oss_access_lists.specs.declared.marks.Marks.{Marks}
use Rattle.oss_access_lists.specs.Flags.{AreAtRest, Done, IsListed, MayWrite}
use Rattle.oss_access_lists.specs.Steps.{IsHung}
use Rattle.oss_access_lists.specs.Tables.{hang_at, marks_at, no_hang, opened_in, place_of, wires_of}
use Rattle.oss_access_lists.specs.Wires.{AreWired, IsBelow, Place, Wires, after, first, head, loose, tail, wired}
use Rattle.oss_access_lists.proofs.CompleteLemmas.{listed_before}
use Rattle.oss_access_lists.proofs.GrowLemmas as grow
use Rattle.oss_access_lists.proofs.StepLemmas.{rest_exact, same_or}
use Rattle.oss_deps.proofs.Basics.{bools, both, both_of, compared}
use Rattle.oss_links.proofs.CellLemmas.{new_mode, opened_long}
use Rattle.oss_retire.specs.Copies.{AreCopied, AreHolding, IsCopied, IsKept, at_}
use Rattle.oss_retire.specs.Remainder.{is_spent}

differ : (a b : ℕ) → (a ≡ b → ⊥) → (a == b) ≡ false
differ a b n = go (a == b) refl
  where
    go : (t : Bool) → (a == b) ≡ t → t ≡ false
    go true e = absurd (n (eqb-true a b e))
    go false e = refl

pub less_or : (v at : ℕ) → v < at + 1 → (v ≡ at → ⊥) → v < at
less_or v at l n = go (compared v at)
  where
    go : (v < at) ⊎ ((v ≡ at) ⊎ (at < v)) → v < at
    go (inl k) = k
    go (inr (inl e)) = absurd (n e)
    go (inr (inr k)) = absurd (omega (arith, k, l))

slice_front : {A : Type 0} (xs ys : List A) (j : ℕ) → j < length xs → slice_get (xs ++ ys) j ≡ slice_get xs j
slice_front [] ys j l = absurd (omega (arith, l))
slice_front (x ∷ xs) ys zero l = refl
slice_front (x ∷ xs) ys (suc j) l = slice_front xs ys j (omega (arith, l))

slice_last : {A : Type 0} (xs : List A) (y : A) → slice_get (xs ++ y ∷ []) (length xs) ≡ Some y
slice_last [] y = refl
slice_last (x ∷ xs) y = slice_last xs y

-- where a row hangs
hung_place : (place : ℕ → Place) (p v : ℕ) → IsBelow place p v → place v ≡ loose → ⊥
hung_place place p v (head h) e = let k = sym h ∙ e in cc
hung_place place p v (tail h b) e = let k = sym h ∙ e in cc

first_place : (h : Hang) → h.before ≡ 0 → (place_of h ≡ loose → ⊥) → place_of h ≡ first h.above
first_place h z n = go h.hung refl
  where
    go : (b : Bool) → h.hung ≡ b → place_of h ≡ first h.above
    go true e = rw (e, eq-eqb h.before 0 z) refl
    go false e = absurd (n (rw e refl))

next_place : (h : Hang) → (h.before ≡ 0 → ⊥) → (place_of h ≡ loose → ⊥) → place_of h ≡ after h.before
next_place h z n = go h.hung refl
  where
    go : (b : Bool) → h.hung ≡ b → place_of h ≡ after h.before
    go true e = rw (e, differ h.before 0 z) refl
    go false e = absurd (n (rw e refl))

pub below_rises : (w : Wires) → AreWired w → (p v : ℕ) → IsBelow w.place p v → p < v
below_rises w ok p v (head h) = ok.below p v h
below_rises w ok p v (tail {u = u} h b) = let k = ok.behind u v h in let j = below_rises w ok p u b in omega (arith, k, j)

pub owner_first : (hangs : List Hang) (v : ℕ) → IsListed (wires_of hangs) v → (hang_at hangs v).before ≡ 0 → IsBelow (wires_of hangs).place (hang_at hangs v).above v
owner_first hangs v listed z = head (first_place (hang_at hangs v) z (hung_place (wires_of hangs).place listed.0 v listed.1))

pub before_less : (hangs : List Hang) (v : ℕ) → AreWired (wires_of hangs) → IsListed (wires_of hangs) v → ((hang_at hangs v).before ≡ 0 → ⊥) → (hang_at hangs v).before < v
before_less hangs v ok listed z = ok.behind (hang_at hangs v).before v (next_place (hang_at hangs v) z (hung_place (wires_of hangs).place listed.0 v listed.1))

pub owner_next : (hangs : List Hang) (v p : ℕ) → IsListed (wires_of hangs) v → ((hang_at hangs v).before ≡ 0 → ⊥) → IsBelow (wires_of hangs).place p (hang_at hangs v).before → IsBelow (wires_of hangs).place p v
owner_next hangs v p listed z b = tail (next_place (hang_at hangs v) z (hung_place (wires_of hangs).place listed.0 v listed.1)) b

-- below a spent access all are spent
spent_child : (w : Wires) (F : ℕ → Marks) → AreAtRest w F → (p v : ℕ) → (p ≡ 0 → ⊥) → IsListed w p → IsBelow w.place p v → is_spent (F p) ≡ true → is_spent (F v) ≡ true
spent_child w F rest p v main listed below h =
    let k = both (F p).done (F p).writes h in
    both_of (F v).done (F v).writes ((rest_exact w F rest Done v (p, below)).complete (child_done ((rest_exact w F rest Done p listed).sound k.0))) ((rest_exact w F rest MayWrite v (p, below)).complete (child_free ((rest_exact w F rest Done p listed).sound k.0) ((rest_exact w F rest MayWrite p listed).sound k.1)))
  where
    child_done : IsDone (wired w) p → IsDone (wired w) v
    child_done (done g f) = f v (main, below)

    child_free : IsDone (wired w) p → IsWriteSatisfied (wired w) p → IsWriteSatisfied (wired w) v
    child_free (done g f) s = write_child (main, below) s (λ u b. f u (main, listed_before w.place p u v below b))

module _ (hangs : List Hang) (stand : List Marks) (numbers : List ℕ) (less : List Hang) (fewer places owners : List ℕ) (at : ℕ) (copied : AreCopied hangs stand numbers at less fewer places owners) where
  some_row : 0 < length less
  some_row = let s = copied.size in let l = slice_get_within fewer 0 0 copied.main in omega (arith, s, l)

  -- the place of an owner
  module _ (rest : AreAtRest (wires_of hangs) (marks_at stand)) (listed : (v : ℕ) → (v ≡ 0 → ⊥) → v < length hangs → IsListed (wires_of hangs) v) (within : at < length hangs) (p : ℕ) (below : IsBelow (wires_of hangs).place p at) (not_spent : is_spent (marks_at stand at) ≡ false) where
    less_than : p < at
    less_than = below_rises (wires_of hangs) rest.wired p at below

    owner_kept : (p ≡ 0 → ⊥) → IsKept stand at p
    owner_kept n = record { within = less_than; not_main = n; not_spent = go (bools (is_spent (marks_at stand p))) }
      where
        go : (is_spent (marks_at stand p) ≡ true) ⊎ (is_spent (marks_at stand p) ≡ false) → is_spent (marks_at stand p) ≡ false
        go (inr e) = e
        go (inl e) =
            let l = less_than in
            let k = spent_child (wires_of hangs) (marks_at stand) rest p at n (listed p n (omega (arith, l, within))) below e in
            absurd (let x : true ≡ false = sym k ∙ not_spent in cc)

    pub place_within : at_ places p < length less
    place_within = go (same_or p 0)
      where
        go : (p ≡ 0) ⊎ (p ≡ 0 → ⊥) → at_ places p < length less
        go (inl z) = let e : at_ places p ≡ 0 = ap (at_ places) z ∙ copied.main_place in let s = some_row in omega (arith, e, s)
        go (inr n) = (copied.kept p (owner_kept n)).within

    pub place_covers : AreWired (wires_of less) → covers (hang_at less (at_ places p)).mode (hang_at hangs at).mode ≡ true
    place_covers ok = subst (λ (m : Mode). covers m (hang_at hangs at).mode ≡ true) (sym same) (rest.wired.covered p at below)
      where
        same : (hang_at less (at_ places p)).mode ≡ (hang_at hangs p).mode
        same = go (same_or p 0)
          where
            go : (p ≡ 0) ⊎ (p ≡ 0 → ⊥) → (hang_at less (at_ places p)).mode ≡ (hang_at hangs p).mode
            go (inl z) = ap (λ (v : ℕ). (hang_at less v).mode) (ap (at_ places) z ∙ copied.main_place) ∙ ok.main_writes ∙ sym rest.wired.main_writes ∙ ap (λ (v : ℕ). (hang_at hangs v).mode) (sym z)
            go (inr n) = (copied.kept p (owner_kept n)).mode

  -- the rows are longer by one
  kept_cases : (v : ℕ) → IsKept stand (at + 1) v → (v ≡ at) ⊎ IsKept stand at v
  kept_cases v k = go (same_or v at)
    where
      go : (v ≡ at) ⊎ (v ≡ at → ⊥) → (v ≡ at) ⊎ IsKept stand at v
      go (inl e) = inl e
      go (inr n) = inr (record { within = less_or v at k.within n; not_main = k.not_main; not_spent = k.not_spent })

  module _ (place owner : ℕ) (within : 0 < at) (below : IsBelow (wires_of hangs).place owner at) (ok : AreWired (wires_of hangs)) where
    abbrev more_places : List ℕ
    more_places = places ++ place ∷ []

    abbrev more_owners : List ℕ
    more_owners = owners ++ owner ∷ []

    place_old : (v : ℕ) → v < at → at_ more_places v ≡ at_ places v
    place_old v l = let s = copied.placed in get_or_append_left places (place ∷ []) 0 v (omega (arith, l, s))

    place_new : at_ more_places at ≡ place
    place_new = get_or_push places place 0 at copied.placed

    owner_old : (v : ℕ) → v < at → at_ more_owners v ≡ at_ owners v
    owner_old v l = let s = copied.owned in get_or_append_left owners (owner ∷ []) 0 v (omega (arith, l, s))

    owner_new : at_ more_owners at ≡ owner
    owner_new = get_or_push owners owner 0 at copied.owned

    placed_more : length more_places ≡ at + 1
    placed_more = length-append places (place ∷ []) ∙ ap (λ (n : ℕ). n + 1) copied.placed

    owned_more : length more_owners ≡ at + 1
    owned_more = length-append owners (owner ∷ []) ∙ ap (λ (n : ℕ). n + 1) copied.owned

    owner_more : (v : ℕ) → v < at + 1 → (v ≡ 0 → ⊥) → IsBelow (wires_of hangs).place (at_ more_owners v) v
    owner_more v l n = go (same_or v at)
      where
        go : (v ≡ at) ⊎ (v ≡ at → ⊥) → IsBelow (wires_of hangs).place (at_ more_owners v) v
        go (inl e) = subst (λ (x : ℕ). IsBelow (wires_of hangs).place (at_ more_owners x) x) (sym e) (subst (λ (x : ℕ). IsBelow (wires_of hangs).place x at) (sym owner_new) below)
        go (inr m) = let k = less_or v at l m in subst (λ (x : ℕ). IsBelow (wires_of hangs).place x v) (sym (owner_old v k)) (copied.owner v k n)

    -- a row that was copied before
    owner_less : (v : ℕ) → IsKept stand at v → at_ owners v < at
    owner_less v k = let l = below_rises (wires_of hangs) ok (at_ owners v) v (copied.owner v k.within k.not_main) in let m = k.within in omega (arith, l, m)

    -- the rows that were copied before, in a table that goes on
    module _ (more : List Hang) (more_numbers : List ℕ) (long : length less ≤ length more) (same_number : (j : ℕ) → j < length less → slice_get more_numbers j ≡ slice_get fewer j) (hangs_on : (q j : ℕ) → IsBelow (wires_of less).place q j → IsBelow (wires_of more).place q j) (same_mode : (j : ℕ) → j < length less → (hang_at more j).mode ≡ (hang_at less j).mode) where
      moved : (v : ℕ) → IsKept stand at v → IsCopied hangs numbers more more_numbers more_places more_owners v
      moved v h =
          let c = copied.kept v h in
          let p = place_old v h.within in
          let o = owner_old v h.within in
          let q = place_old (at_ owners v) (owner_less v h) in
          let w = c.within in
          record {
            not_main = λ e. c.not_main (sym p ∙ e);
            within = subst (λ (x : ℕ). x < length more) (sym p) (omega (arith, w, long));
            number = subst (λ (x : ℕ). slice_get more_numbers x ≡ slice_get numbers v) (sym p) (same_number (at_ places v) c.within ∙ c.number);
            below = subst (λ (x : ℕ). IsBelow (wires_of more).place (at_ more_places (at_ more_owners v)) x) (sym p) (subst (λ (x : ℕ). IsBelow (wires_of more).place x (at_ places v)) (sym (ap (at_ more_places) o ∙ q)) (hangs_on (at_ places (at_ owners v)) (at_ places v) c.below));
            mode = subst (λ (x : ℕ). (hang_at more x).mode ≡ (hang_at hangs v).mode) (sym p) (same_mode (at_ places v) c.within ∙ c.mode);
          }

    longer : (v : ℕ) → IsKept stand at v → IsKept stand (at + 1) v
    longer v k = let w = k.within in record { within = omega (arith, w); not_main = k.not_main; not_spent = k.not_spent }

    -- it is left out
    pub left_out : is_spent (marks_at stand at) ≡ true → place ≡ 0 → AreCopied hangs stand numbers (at + 1) less fewer more_places more_owners
    left_out spent z = record {
      placed = placed_more;
      owned = owned_more;
      size = copied.size;
      main = copied.main;
      main_place = place_old 0 within ∙ copied.main_place;
      owner = owner_more;
      kept = λ v k. moved less fewer (omega arith) (λ j l. refl) (λ q j b. b) (λ j l. refl) v (old_of v k);
      none = none_of;
      only = only_of;
      rising = rising_of;
    }
      where
        old_of : (v : ℕ) → IsKept stand (at + 1) v → IsKept stand at v
        old_of v k = go (kept_cases v k)
          where
            go : (v ≡ at) ⊎ IsKept stand at v → IsKept stand at v
            go (inl e) = absurd (let x : true ≡ false = sym spent ∙ (ap (λ (y : ℕ). is_spent (marks_at stand y)) (sym e) ∙ k.not_spent) in cc)
            go (inr h) = h

        none_of : (v : ℕ) → v < at + 1 → is_spent (marks_at stand v) ≡ true → at_ more_places v ≡ 0
        none_of v l s = go (same_or v at)
          where
            go : (v ≡ at) ⊎ (v ≡ at → ⊥) → at_ more_places v ≡ 0
            go (inl e) = ap (at_ more_places) e ∙ place_new ∙ z
            go (inr n) = let k = less_or v at l n in place_old v k ∙ copied.none v k s

        only_of : (j : ℕ) → j < length less → (j ≡ 0 → ⊥) → (v : ℕ) × IsKept stand (at + 1) v × (at_ more_places v ≡ j)
        only_of j l n = let r = copied.only j l n in (r.0, longer r.0 r.1, place_old r.0 r.1.within ∙ r.2)

        rising_of : (u v : ℕ) → u < v → IsKept stand (at + 1) u → IsKept stand (at + 1) v → at_ more_places u < at_ more_places v
        rising_of u v l k m =
            let a = old_of u k in
            let b = old_of v m in
            let r = copied.rising u v l a b in
            let p = place_old u a.within in
            let q = place_old v b.within in
            omega (arith, r, p, q)

    -- it is hung in the list of its owner's place
    module _ (less_ok : AreWired (wires_of less)) (hung : IsHung (wires_of less) (wires_of (opened_in less (at_ places owner) (hang_at hangs at).mode)) (at_ places owner) (length less)) (is : place ≡ length less) (number : ℕ) (number_is : slice_get numbers at ≡ Some number) (not_spent : is_spent (marks_at stand at) ≡ false) where
      abbrev above : ℕ
      above = at_ places owner

      abbrev more_hangs : List Hang
      more_hangs = opened_in less above (hang_at hangs at).mode

      abbrev more_fewer : List ℕ
      more_fewer = fewer ++ number ∷ []

      long_hangs : length more_hangs ≡ length less + 1
      long_hangs = opened_long less above (hang_at hangs at).mode

      long_fewer : length more_fewer ≡ length less + 1
      long_fewer = length-append fewer (number ∷ []) ∙ ap (λ (n : ℕ). n + 1) copied.size

      number_old : (j : ℕ) → j < length less → slice_get more_fewer j ≡ slice_get fewer j
      number_old j l = let s = copied.size in slice_front fewer (number ∷ []) j (omega (arith, l, s))

      number_new : slice_get more_fewer (length less) ≡ Some number
      number_new = ap (slice_get more_fewer) (sym copied.size) ∙ slice_last fewer number

      mode_old : (j : ℕ) → j < length less → (hang_at more_hangs j).mode ≡ (hang_at less j).mode
      mode_old j l = hung.modes j (λ e. omega (arith, e, l))

      new_below : IsBelow (wires_of more_hangs).place above (length less)
      new_below = (grow.hung_wired (wires_of less) (wires_of more_hangs) above (length less) less_ok hung).listed above (length less) hung.last (λ e. let s = some_row in omega (arith, s, e))

      owner_place : at_ more_places (at_ more_owners at) ≡ above
      owner_place = ap (at_ more_places) owner_new ∙ place_old owner (below_rises (wires_of hangs) ok owner at below)

      new_copied : IsCopied hangs numbers more_hangs more_fewer more_places more_owners at
      new_copied =
          let p = place_new ∙ is in
          let s = some_row in
          let l = long_hangs in
          record {
            not_main = λ e. omega (arith, p, s, e);
            within = omega (arith, p, l);
            number = ap (slice_get more_fewer) p ∙ number_new ∙ sym number_is;
            below = subst (λ (x : ℕ). IsBelow (wires_of more_hangs).place (at_ more_places (at_ more_owners at)) x) (sym p) (subst (λ (x : ℕ). IsBelow (wires_of more_hangs).place x (length less)) (sym owner_place) new_below);
            mode = subst (λ (x : ℕ). (hang_at more_hangs x).mode ≡ (hang_at hangs at).mode) (sym p) (new_mode less above (hang_at hangs at).mode hung.above hung.behind);
          }

      pub grown : AreCopied hangs stand numbers (at + 1) more_hangs more_fewer more_places more_owners
      grown = record {
        placed = placed_more;
        owned = owned_more;
        size = long_fewer ∙ sym long_hangs;
        main = number_old 0 some_row ∙ copied.main;
        main_place = place_old 0 within ∙ copied.main_place;
        owner = owner_more;
        kept = λ v k. kept_of v (kept_cases v k);
        none = none_of;
        only = λ j l n. only_of j n (same_or j (length less)) l;
        rising = λ u v l k m. rising_of u v l (kept_cases u k) (kept_cases v m);
      }
        where
          old_moved : (v : ℕ) → IsKept stand at v → IsCopied hangs numbers more_hangs more_fewer more_places more_owners v
          old_moved = moved more_hangs more_fewer (let l = long_hangs in omega (arith, l)) number_old (λ q j b. grow.below_forth (wires_of less) (wires_of more_hangs) above (length less) less_ok hung q j b) mode_old

          kept_of : (v : ℕ) → (v ≡ at) ⊎ IsKept stand at v → IsCopied hangs numbers more_hangs more_fewer more_places more_owners v
          kept_of v (inl e) = subst (λ (x : ℕ). IsCopied hangs numbers more_hangs more_fewer more_places more_owners x) (sym e) new_copied
          kept_of v (inr h) = old_moved v h

          none_of : (v : ℕ) → v < at + 1 → is_spent (marks_at stand v) ≡ true → at_ more_places v ≡ 0
          none_of v l s = go (same_or v at)
            where
              go : (v ≡ at) ⊎ (v ≡ at → ⊥) → at_ more_places v ≡ 0
              go (inl e) = absurd (let x : true ≡ false = sym s ∙ (ap (λ (y : ℕ). is_spent (marks_at stand y)) e ∙ not_spent) in cc)
              go (inr n) = let k = less_or v at l n in place_old v k ∙ copied.none v k s

          only_of : (j : ℕ) → (j ≡ 0 → ⊥) → (j ≡ length less) ⊎ (j ≡ length less → ⊥) → j < length more_hangs → (v : ℕ) × IsKept stand (at + 1) v × (at_ more_places v ≡ j)
          only_of j n (inl e) l = (at, record { within = omega arith; not_main = λ z. omega (arith, z, within); not_spent = not_spent }, place_new ∙ is ∙ sym e)
          only_of j n (inr m) l =
              let long = long_hangs in
              let r = copied.only j (less_or j (length less) (omega (arith, l, long)) m) n in (r.0, longer r.0 r.1, place_old r.0 r.1.within ∙ r.2)

          rising_of : (u v : ℕ) → u < v → (u ≡ at) ⊎ IsKept stand at u → (v ≡ at) ⊎ IsKept stand at v → at_ more_places u < at_ more_places v
          rising_of u v l (inl a) (inl b) = absurd (omega (arith, l, a, b))
          rising_of u v l (inl a) (inr b) = let w = b.within in absurd (omega (arith, l, a, w))
          rising_of u v l (inr a) (inl b) =
              let c = (copied.kept u a).within in
              let p = place_old u a.within in
              let q : at_ more_places v ≡ length less = ap (at_ more_places) b ∙ place_new ∙ is in
              omega (arith, c, p, q)
          rising_of u v l (inr a) (inr b) =
              let r = copied.rising u v l a b in
              let p = place_old u a.within in
              let q = place_old v b.within in
              omega (arith, r, p, q)

-- the same of a table that a call has made
module _ (hangs : List Hang) (stand : List Marks) (numbers : List ℕ) (less : List Hang) (fewer places owners : List ℕ) (at : ℕ) (copied : AreCopied hangs stand numbers at less fewer places owners) (place owner : ℕ) (within : 0 < at) (below : IsBelow (wires_of hangs).place owner at) (ok : AreWired (wires_of hangs)) (less_ok : AreWired (wires_of less)) (above : ℕ) (above_is : above ≡ at_ places owner) (mode : Mode) (mode_is : mode ≡ (hang_at hangs at).mode)
    (more : List Hang) (more_is : more ≡ opened_in less above mode) (hung : IsHung (wires_of less) (wires_of more) above (length less)) (is : place ≡ length less) (number : ℕ) (number_is : slice_get numbers at ≡ Some number) (not_spent : is_spent (marks_at stand at) ≡ false) where
  abbrev right_hangs : List Hang
  right_hangs = opened_in less (at_ places owner) (hang_at hangs at).mode

  same_hangs : more ≡ right_hangs
  same_hangs = more_is ∙ ap (λ (a : ℕ). opened_in less a mode) above_is ∙ ap (λ (m : Mode). opened_in less (at_ places owner) m) mode_is

  right_hung : IsHung (wires_of less) (wires_of right_hangs) (at_ places owner) (length less)
  right_hung = subst (λ (a : ℕ). IsHung (wires_of less) (wires_of right_hangs) a (length less)) above_is (subst (λ (x : List Hang). IsHung (wires_of less) (wires_of x) above (length less)) same_hangs hung)

  pub kept_on : (more_fewer more_places more_owners : List ℕ) → more_fewer ≡ fewer ++ number ∷ [] → more_places ≡ places → more_owners ≡ owners → AreCopied hangs stand numbers (at + 1) more more_fewer (more_places ++ place ∷ []) (more_owners ++ owner ∷ [])
  kept_on more_fewer more_places more_owners f p o =
      subst (λ (x : List Hang). AreCopied hangs stand numbers (at + 1) x more_fewer (more_places ++ place ∷ []) (more_owners ++ owner ∷ [])) (sym same_hangs)
      (subst (λ (x : List ℕ). AreCopied hangs stand numbers (at + 1) right_hangs x (more_places ++ place ∷ []) (more_owners ++ owner ∷ [])) (sym f)
      (subst (λ (x : List ℕ). AreCopied hangs stand numbers (at + 1) right_hangs (fewer ++ number ∷ []) (x ++ place ∷ []) (more_owners ++ owner ∷ [])) (sym p)
      (subst (λ (x : List ℕ). AreCopied hangs stand numbers (at + 1) right_hangs (fewer ++ number ∷ []) (places ++ place ∷ []) (x ++ owner ∷ [])) (sym o)
      (grown hangs stand numbers less fewer places owners at copied place owner within below ok less_ok right_hung is number number_is not_spent))))

  pub holds_on : AreHolding less → AreHolding more
  holds_on holding j = hung.gave j ∙ holding j

-- main alone
pub main_copied : (hangs : List Hang) (stand : List Marks) (numbers : List ℕ) → AreCopied hangs stand numbers 1 (no_hang ∷ []) (0 ∷ []) (0 ∷ []) (0 ∷ [])
main_copied hangs stand numbers = record {
  placed = refl;
  owned = refl;
  size = refl;
  main = refl;
  main_place = refl;
  owner = λ v l n. absurd (n (omega (arith, l)));
  kept = λ v k. absurd (none v k);
  none = λ v l s. alone v l;
  only = λ j l n. absurd (n (omega (arith, l)));
  rising = λ u v l k m. absurd (none u k);
}
  where
    none : (v : ℕ) → IsKept stand 1 v → ⊥
    none v k = let l = k.within in k.not_main (omega (arith, l))

    alone : (v : ℕ) → v < 1 → at_ (0 ∷ []) v ≡ 0
    alone zero l = refl
    alone (suc v) l = absurd (omega (arith, l))

pub main_holding : AreHolding (no_hang ∷ [])
main_holding zero = refl
main_holding (suc j) = refl
