-- A task has ended: what it left unused is told by its creator, with what its own children left.
use Rattle.std.proofs.Common.{◌≡◌, ℕ, ◌+◌, ◌<◌, ◌≤◌, ◌⊎◌, inl, inr, refl, sym, subst, ap, ◌∙◌, List, [], ◌∷◌, ◌++◌, arith, Bool, true, false}
use Rattle.std.specs.Prelude.{◌||◌, ◌&&◌, not}
use Rattle.std.proofs.lemmas.Bool.Decides.{nat_tests}
use Rattle.oss_syntax.specs.declared.access.Access.{Access}
use Rattle.oss_model.specs.Bodies.{Act}
use Rattle.oss_model.specs.Bodies.Act.{Created, Awaited, Waited, WaitedOn, Over, Ticked, Load, Store, Folded, Releases, Printed, Ended, Fault}
use Rattle.oss_model.specs.Context.{in_clauses}
use Rattle.oss_model.specs.Order.{IsBefore, IsIn, IsSuffix, whole, written}
use Rattle.oss_model.specs.Rights.{in_access}
use Rattle.oss_model.proofs.OrderLemmas.{suffix_drop}
use Rattle.oss_audit.specs.declared.begun.Begun.{Begun}
use Rattle.oss_audit.specs.declared.unused.Unused.{Unused}
use Rattle.oss_pieces.specs.CellSets.{has}
use Rattle.oss_audit.specs.Following.{IsBelow, IsOnWay, TellsTouched}
use Rattle.oss_audit.specs.Runs.{Covers}
use Rattle.oss_audit.specs.Trails.{Declared, Declares, Place, Touched, place_of}
use Rattle.oss_audit.specs.Unused.{IsAhead, IsTold, Rises}
use Rattle.oss_audit.specs.Watches.{IsTaken}
use Rattle.oss_audit.proofs.ListLemmas.{in_either, in_left, in_right, rises_both}
use Rattle.oss_audit.proofs.PathLemmas.{before_below, before_sibling, path_same, suffix_split}
use Rattle.oss_audit.proofs.WayLemmas.{either}

-- Cells that are declared are cells of a program

access_within : (a : Access) (c : ℕ) → in_access a c ≡ true → c < 1048576
access_within a c h = let w = a.range.within in grind (arith, nat_tests)

clauses_within : (clauses : List Access) (c : ℕ) → in_clauses clauses c ≡ true → c < 1048576
clauses_within [] c h = absurd (let e : false ≡ true = h in cc)
clauses_within (a ∷ rest) c h = go (clauses_within rest c) (either (in_access a c) (in_clauses rest c) h)
  where
    go : (in_clauses rest c ≡ true → c < 1048576) → (in_access a c ≡ true) ⊎ (in_clauses rest c ≡ true) → c < 1048576
    go again (inl i) = access_within a c i
    go again (inr i) = again i

declares_within : {S : Type 0} (a : Act S) (at : Place) (q : List ℕ) (c : ℕ) → Declares a at q c → c < 1048576
declares_within (Created o b) at q c h = clauses_within o.clauses c h.1
declares_within (Load d) at q c h = absurd h
declares_within (Store d v) at q c h = absurd h
declares_within (Folded d op v b) at q c h = absurd h
declares_within Ticked at q c h = absurd h
declares_within Awaited at q c h = absurd h
declares_within Waited at q c h = absurd h
declares_within (WaitedOn named) at q c h = absurd h
declares_within (Releases clauses b) at q c h = absurd h
declares_within (Printed key text) at q c h = absurd h
declares_within Ended at q c h = absurd h
declares_within (Fault kind line key) at q c h = absurd h
declares_within Over at q c h = absurd h

declared_within : {S : Type 0} (trail : List (Act S)) (q : List ℕ) (c : ℕ) → Declared trail q c → c < 1048576
declared_within [] q c h = absurd h
declared_within (a ∷ trail) q c (inl h) = declares_within a (place_of trail) q c h
declared_within (a ∷ trail) q c (inr h) = declared_within trail q c h

-- Tests

bools : (b : Bool) → (b ≡ true) ⊎ (b ≡ false)
bools true = inl refl
bools false = inr refl

both : (a b : Bool) → a ≡ true → b ≡ false → (a && not b) ≡ true
both true b h k = rw k refl
both false b h k = cc

left_first : (a b : Bool) → (a && not b) ≡ true → a ≡ true
left_first true b h = refl
left_first false b h = cc

left_second : (a b : Bool) → (a && not b) ≡ true → b ≡ false
left_second true true h = cc
left_second true false h = refl
left_second false b h = cc

or_false : (a : Bool) → (a || false) ≡ a
or_false true = refl
or_false false = refl

never : (b : Bool) → b ≡ true → b ≡ false → ⊥
never b h k = let e : true ≡ false = sym h ∙ k in cc

at_most : (j k : ℕ) → j < k + 1 → (j < k) ⊎ (j ≡ k)
at_most j k l = grind arith

below_or : (m n : ℕ) → (m < n) ⊎ (n ≤ m)
below_or m n = grind arith

module _ {S : Type 0} (trail : List (Act S)) (k : ℕ) (q : List ℕ) (closed : ℕ) (b a n : Begun) (counts : b.created ≡ closed) (number : a.created ≡ k + 1) (hb : IsOnWay trail b (k ∷ q) closed)
    (tb : TellsTouched trail (k ∷ q) (λ c. has b.touched c || false)) (ha : IsOnWay trail a q k) (taken : IsTaken a b n) where
  -- what the task itself left
  own_only : (c : ℕ) → Covers taken.own c → Declared trail (k ∷ q) c × (Touched trail (k ∷ q) c → ⊥)
  own_only c v =
      let l = taken.runs.only c v in
      let w = v.item.range.within in
      let t = v.to in
      let small : c < 1048576 = omega (arith, t, w) in (
        hb.declared c (left_first (has b.declared c) (has b.touched c) l),
        λ m. never (has b.touched c) (sym (or_false (has b.touched c)) ∙ tb.all c small m) (left_second (has b.declared c) (has b.touched c) l),
      )

  own_all : (c : ℕ) → Declared trail (k ∷ q) c → (Touched trail (k ∷ q) c → ⊥) → Covers taken.own c
  own_all c d m = taken.runs.all c small (both (has b.declared c) (has b.touched c) (hb.all_declared c d) (go (bools (has b.touched c))))
    where
      small : c < 1048576
      small = declared_within trail (k ∷ q) c d

      go : (has b.touched c ≡ true) ⊎ (has b.touched c ≡ false) → has b.touched c ≡ false
      go (inl h) = absurd (m (tb.so c small (or_false (has b.touched c) ∙ h)))
      go (inr h) = h

  -- the three parts of what is told
  data Part (u : Unused) : Type 0 where
    earlier : IsIn u a.told.items → Part u
    itself : IsIn u taken.own → Part u
    deeper : IsIn u b.told.items → Part u

  part_of : (u : Unused) → IsIn u n.told.items → Part u
  part_of u i = outer (in_either (a.told.items ++ taken.own) (subst (λ (xs : List Unused). IsIn u xs) taken.told i))
    where
      outer : IsIn u (a.told.items ++ taken.own) ⊎ IsIn u b.told.items → Part u
      outer (inl j) = inner (in_either a.told.items j)
        where
          inner : IsIn u a.told.items ⊎ IsIn u taken.own → Part u
          inner (inl m) = earlier m
          inner (inr m) = itself m
      outer (inr j) = deeper j

  in_told : (u : Unused) → Part u → IsIn u n.told.items
  in_told u p = subst (λ (xs : List Unused). IsIn u xs) (sym taken.told) (go p)
    where
      go : Part u → IsIn u (a.told.items ++ taken.own ++ b.told.items)
      go (earlier i) = in_left b.told.items (in_left taken.own i)
      go (itself i) = in_left b.told.items (in_right a.told.items i)
      go (deeper i) = in_right (a.told.items ++ taken.own) i

  own_point : (u : Unused) → IsIn u taken.own → u.point ≡ written (k ∷ q)
  own_point u i = taken.runs.points u i ∙ hb.point

  taken_below : (u : Unused) → Part u → IsBelow q (k + 1) u
  taken_below u (earlier i) = let h = ha.below u i in let f = h.few in record { number = h.number; path = h.path; few = omega (arith, f); below = h.below; point = h.point }
  taken_below u (itself i) = record { number = k; path = k ∷ q; few = omega arith; below = whole; point = own_point u i }
  taken_below u (deeper i) = let h = hb.below u i in record { number = k; path = h.path; few = omega arith; below = suffix_drop h.below; point = h.point }

  -- Order

  before_as : (u v : Unused) (p r : List ℕ) → u.point ≡ written p → v.point ≡ written r → IsBefore (written p) (written r) → IsAhead u v
  before_as u v p r e f h = inl (subst (λ (x : List ℕ). IsBefore x v.point) (sym e) (subst (λ (x : List ℕ). IsBefore (written p) x) (sym f) h))

  earlier_own : (u v : Unused) → IsIn u a.told.items → IsIn v taken.own → IsAhead u v
  earlier_own u v i j = let h = ha.below u i in before_as u v h.path (k ∷ q) h.point (own_point v j) (before_sibling q h.number k h.few h.below whole)

  earlier_deeper : (u v : Unused) → IsIn u a.told.items → IsIn v b.told.items → IsAhead u v
  earlier_deeper u v i j = let h = ha.below u i in let g = hb.below v j in before_as u v h.path g.path h.point g.point (before_sibling q h.number k h.few h.below (suffix_drop g.below))

  own_deeper : (u v : Unused) → IsIn u taken.own → IsIn v b.told.items → IsAhead u v
  own_deeper u v i j = let g = hb.below v j in before_as u v (k ∷ q) g.path (own_point u i) g.point (before_below g.number (k ∷ q) g.below)

  front_deeper : (u v : Unused) → IsIn u (a.told.items ++ taken.own) → IsIn v b.told.items → IsAhead u v
  front_deeper u v i j = go (in_either a.told.items i)
    where
      go : IsIn u a.told.items ⊎ IsIn u taken.own → IsAhead u v
      go (inl m) = earlier_deeper u v m j
      go (inr m) = own_deeper u v m j

  taken_rises : Rises n.told.items
  taken_rises =
      subst Rises (sym taken.told)
      (rises_both (a.told.items ++ taken.own) b.told.items (rises_both a.told.items taken.own ha.rises taken.runs.rises earlier_own) hb.rises front_deeper)

  -- What is told

  told_only : (j : ℕ) (r : List ℕ) (c : ℕ) → IsSuffix (j ∷ q) r → (t : IsTold n.told.items r c) → Part t.item → Declared trail r c × (Touched trail r c → ⊥)
  told_only j r c s t (earlier i) =
      let h = ha.below t.item i in
      let e : h.path ≡ r = path_same h.path r (sym h.point ∙ t.tells.point) in
      ha.only h.number r c h.few (subst (λ (x : List ℕ). IsSuffix (h.number ∷ q) x) e h.below) (record { item = t.item; listed = i; tells = t.tells })
  told_only j r c s t (itself i) =
      let e : k ∷ q ≡ r = path_same (k ∷ q) r (sym (own_point t.item i) ∙ t.tells.point) in
      subst (λ (x : List ℕ). Declared trail x c × (Touched trail x c → ⊥)) e (own_only c (record { item = t.item; listed = i; from = t.tells.from; to = t.tells.to }))
  told_only j r c s t (deeper i) =
      let h = hb.below t.item i in
      let e : h.path ≡ r = path_same h.path r (sym h.point ∙ t.tells.point) in
      hb.only h.number r c h.few (subst (λ (x : List ℕ). IsSuffix (h.number ∷ k ∷ q) x) e h.below) (record { item = t.item; listed = i; tells = t.tells })

  -- of the task itself, or of one below it
  closed_all : (r : List ℕ) (c : ℕ) → Declared trail r c → (Touched trail r c → ⊥) → (k ∷ q ≡ r) ⊎ ((j : ℕ) × IsSuffix (j ∷ k ∷ q) r) → IsTold n.told.items r c
  closed_all r c d m (inl e) =
      let v = own_all c (subst (λ (x : List ℕ). Declared trail x c) (sym e) d) (λ i. m (subst (λ (x : List ℕ). Touched trail x c) e i)) in
      record { item = v.item; listed = in_told v.item (itself v.listed); tells = record { point = own_point v.item v.listed ∙ ap (λ (x : List ℕ). written x) e; from = v.from; to = v.to } }
  closed_all r c d m (inr (j, s)) = go (below_or j closed)
    where
      go : (j < closed) ⊎ (closed ≤ j) → IsTold n.told.items r c
      go (inl l) = let t = hb.all j r c l s d m in record { item = t.item; listed = in_told t.item (deeper t.listed); tells = t.tells }
      go (inr l) = absurd (hb.fresh j r c (omega (arith, l, counts)) s (inl d))

  told_all : (j : ℕ) (r : List ℕ) (c : ℕ) → IsSuffix (j ∷ q) r → Declared trail r c → (Touched trail r c → ⊥) → (j < k) ⊎ (j ≡ k) → IsTold n.told.items r c
  told_all j r c s d m (inl l) = let t = ha.all j r c l s d m in record { item = t.item; listed = in_told t.item (earlier t.listed); tells = t.tells }
  told_all j r c s d m (inr e) = closed_all r c d m (suffix_split (subst (λ (x : ℕ). IsSuffix (x ∷ q) r) e s))

  -- the creator is right behind the end of the task
  pub taken_on_way : IsOnWay trail n q (k + 1)
  taken_on_way =
      record {
        point = taken.point ∙ ha.point;
        declared = λ c h. ha.declared c (subst (λ x. has x c ≡ true) taken.declared h);
        all_declared = λ c h. subst (λ x. has x c ≡ true) (sym taken.declared) (ha.all_declared c h);
        fresh = λ j r c l s. let e = taken.created in ha.fresh j r c (omega (arith, l, e)) s;
        rises = taken_rises;
        below = λ u i. taken_below u (part_of u i);
        only = λ j r c l s t. told_only j r c s t (part_of t.item t.listed);
        all = λ j r c l s d m. told_all j r c s d m (at_most j k l);
      }
