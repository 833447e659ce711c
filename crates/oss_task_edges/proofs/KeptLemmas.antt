-- What is kept of one cell, behind an access more.
use Rattle.std.proofs.Common.{◌≡◌, ℕ, ◌+◌, ◌<◌, ◌⊎◌, inl, inr, refl, sym, subst, ap, ◌∙◌, arith, Bool, true, false, List, [], ◌∷◌, ◌++◌, Option, None, Some}
use Rattle.std.specs.Prelude.{◌&&◌, if◌then◌else◌, slice_get}
use Rattle.oss_syntax.specs.declared.access.Mode.{Mode}
use Rattle.oss_syntax.specs.declared.access.Mode.TheVariants.{Fold, Read, Write}
use Rattle.oss_model.specs.Order.{IsIn, here, there}
use Rattle.oss_model.specs.Rights.{Holds, NoRight, Released, Right}
use Rattle.oss_model.proofs.SortLemmas.{in_cases}
use Rattle.oss_task_graph.specs.Groups.{AreNeighbours, AreOneGroup, StandsOn, are_strong, go_together, is_held, same}
use Rattle.oss_task_edges.specs.declared.groups.Groups.{Groups}
use Rattle.oss_task_edges.specs.declared.groups.Spot.{Spot}
use Rattle.oss_task_edges.specs.declared.members.Member.{Member}
use Rattle.oss_task_edges.specs.Kept.{AreGroups, HasGroup, KeptAt, is_strong}
use Rattle.oss_task_edges.specs.Members.{kept_before, modes_together, none, some, spot_behind, spot_in}
use Rattle.oss_task_edges.proofs.ChainLemmas.{chain_stays, still_there}
use Rattle.oss_task_edges.proofs.GroupLemmas.{begins_alone, begins_on, begins_only, first_alone, first_stands, group_up, joined_only, joins, stands_joined, stands_joined_only}

pub together_is : (m n : Mode) (s t : Bool) → go_together (Holds m s) (Holds n t) ≡ modes_together m n
together_is Read Read s t = refl
together_is Read Write s t = refl
together_is Read (Fold o) s t = refl
together_is Write Read s t = refl
together_is Write Write s t = refl
together_is Write (Fold o) s t = refl
together_is (Fold a) Read s t = refl
together_is (Fold a) Write s t = refl
together_is (Fold a) (Fold b) s t = refl

-- a write is of one group with nothing
pub write_alone : (n : Mode) → modes_together Write n ≡ false
write_alone n = refl

pub strong_both : (x : Right) (m : Mode) (s : Bool) → is_held x ≡ true → are_strong x (Holds m s) ≡ (is_strong x && s)
strong_both (Holds mode true) m true h = refl
strong_both (Holds mode true) m false h = refl
strong_both (Holds mode false) m s h = refl
strong_both NoRight m s h = absurd cc
strong_both Released m s h = absurd cc

-- The members of a group

no_group : (rights : ℕ → Right) (members : List Member) (R : ℕ → Type 0) → ((j : ℕ) → R j → ⊥) → HasGroup rights members None R
no_group rights members R not_one = record { group = []; chain = none; are = record { only = λ m i. absurd (elim i [ ]); every = λ j h. absurd (not_one j h) } }

group_as : (rights : ℕ → Right) (members : List Member) (newest : Option ℕ) (R Q : ℕ → Type 0) → ((j : ℕ) → R j → Q j) → ((j : ℕ) → Q j → R j) → HasGroup rights members newest R → HasGroup rights members newest Q
group_as rights members newest R Q f g h =
    record {
      group = h.group;
      chain = h.chain;
      are = record { only = λ m i. let k = h.are.only m i in (f m.child k.0, k.1); every = λ j q. h.are.every j (g j q) };
    }

group_stays : (rights : ℕ → Right) (members more : List Member) (newest : Option ℕ) (R : ℕ → Type 0) → HasGroup rights members newest R → HasGroup rights (members ++ more) newest R
group_stays rights members more newest R h = record { group = h.group; chain = chain_stays members more newest h.group h.chain; are = h.are }

-- What a new access finds: the group on which it stands, and the others of its own.
pub record IsSpot (rights : ℕ → Right) (n : ℕ) (members : List Member) (spot : Spot) : Type 0 where
  pub before : HasGroup rights members spot.before (λ j. StandsOn rights j n)
  pub own : HasGroup rights members spot.own (λ j. (j < n) × AreOneGroup rights j n)

module _ (rights : ℕ → Right) (n : ℕ) (members : List Member) (mode : Mode) (strong : Bool) (right : rights n ≡ Holds mode strong) where
  held : is_held (rights n) ≡ true
  held = ap is_held right

  -- nothing is kept
  spot_first : KeptAt rights n members None → IsSpot rights n members (spot_in members None mode)
  spot_first empty = record {
    before = no_group rights members (λ j. StandsOn rights j n) (λ j s. first_stands rights n empty j s);
    own = no_group rights members (λ j. (j < n) × AreOneGroup rights j n) (λ j h. first_alone rights n empty j h.0 h.1);
  }

  module _ (g : Groups) (h : AreGroups rights n members g) where
    neighbours : AreNeighbours rights h.last n
    neighbours = record { rises = h.is_last.below; first = h.is_last.held; second = held; between = h.is_last.none }

    together : go_together (rights h.last) (rights n) ≡ modes_together h.newest.mode mode
    together =
        ap (λ x. go_together x (rights n)) h.right ∙ ap (λ x. go_together (Holds h.newest.mode h.newest.strong) x) right
        ∙ together_is h.newest.mode mode h.newest.strong strong

    group_up_to : (j : ℕ) → AreOneGroup rights j h.last → j < n
    group_up_to j k = let a = group_up rights j h.last k in let b = h.is_last.below in omega (arith, a, b)

    -- the access comes into the last group
    spot_joins : modes_together h.newest.mode mode ≡ true → IsSpot rights n members (record { before = g.before; own = Some g.now })
    spot_joins t =
        let tt_ : go_together (rights h.last) (rights n) ≡ true = together ∙ t in
        record {
          before = group_as rights members g.before (λ j. StandsOn rights j h.last) (λ j. StandsOn rights j n) (stands_joined rights n h.last neighbours tt_) (stands_joined_only rights n h.last neighbours tt_)
              (h.before (not_write h.newest.mode t));
          own = group_as rights members (Some g.now) (λ j. AreOneGroup rights j h.last) (λ j. (j < n) × AreOneGroup rights j n)
              (λ j k. (group_up_to j k, joins rights n h.last neighbours tt_ j k)) (λ j k. joined_only rights n h.last neighbours tt_ j k.0 k.1) h.now;
        }
      where
        not_write : (m : Mode) → modes_together m mode ≡ true → m ≡ Write → ⊥
        not_write m u e = let k : modes_together Write mode ≡ true = subst (λ x. modes_together x mode ≡ true) e u in cc

    -- it begins a group
    spot_begins : modes_together h.newest.mode mode ≡ false → IsSpot rights n members (record { before = Some g.now; own = None })
    spot_begins t =
        let ff : go_together (rights h.last) (rights n) ≡ false = together ∙ t in
        record {
          before = group_as rights members (Some g.now) (λ j. AreOneGroup rights j h.last) (λ j. StandsOn rights j n) (begins_on rights n h.last neighbours ff) (begins_only rights n h.last neighbours ff) h.now;
          own = no_group rights members (λ j. (j < n) × AreOneGroup rights j n) (λ j k. begins_alone rights n h.last neighbours ff j k.0 k.1);
        }

    spot_some : IsSpot rights n members (spot_in members (Some g) mode)
    spot_some = subst (λ o. IsSpot rights n members (spot_behind g o mode)) (sym h.there) (go (modes_together h.newest.mode mode) refl)
      where
        go : (b : Bool) → modes_together h.newest.mode mode ≡ b → IsSpot rights n members (if b then record { before = g.before; own = Some g.now } else record { before = Some g.now; own = None })
        go true t = spot_joins t
        go false t = spot_begins t

  pub spot_is : (o : Option Groups) → KeptAt rights n members o → IsSpot rights n members (spot_in members o mode)
  spot_is None h = spot_first h
  spot_is (Some g) h = spot_some g h

  -- What is kept behind the access, of which the member stands here.
  pub kept_next : (spot : Spot) (more : List Member) (at : ℕ) (m : Member) → IsSpot rights n members spot → slice_get (members ++ more) at ≡ Some m → m ≡ record { child = n; mode = mode; strong = strong; older = spot.own }
      → KeptAt rights (n + 1) (members ++ more) (Some (record { now = at; before = kept_before mode spot.before }))
  kept_next spot more at m is stands m_is =
      record {
        last = n;
        is_last = record { below = omega arith; held = held; none = λ i a b. absurd (omega (arith, a, b)) };
        newest = new;
        there = stands ∙ ap Some m_is;
        right = right;
        now = record { group = new ∷ own.group; chain = some (stands ∙ ap Some m_is) own.chain; are = record { only = only; every = every } };
        before = before mode;
      }
    where
      new : Member
      new = record { child = n; mode = mode; strong = strong; older = spot.own }

      own : HasGroup rights (members ++ more) spot.own (λ j. (j < n) × AreOneGroup rights j n)
      own = group_stays rights members more spot.own (λ j. (j < n) × AreOneGroup rights j n) is.own

      only : (x : Member) → IsIn x (new ∷ own.group) → AreOneGroup rights x.child n × (x.strong ≡ is_strong (rights x.child))
      only x i = go (in_cases i)
        where
          go : (x ≡ new) ⊎ IsIn x own.group → AreOneGroup rights x.child n × (x.strong ≡ is_strong (rights x.child))
          go (inl e) = subst (λ (y : Member). AreOneGroup rights y.child n × (y.strong ≡ is_strong (rights y.child))) (sym e) (same, sym (ap is_strong right))
          go (inr k) = let h = own.are.only x k in (h.0.1, h.1)

      every : (j : ℕ) → AreOneGroup rights j n → (x : Member) × (IsIn x (new ∷ own.group) × (x.child ≡ j))
      every j h = go (up j h)
        where
          up : (j : ℕ) → AreOneGroup rights j n → (j ≡ n) ⊎ (j < n)
          up j h = let a = group_up rights j n h in grind (arith, a)

          go : (j ≡ n) ⊎ (j < n) → (x : Member) × (IsIn x (new ∷ own.group) × (x.child ≡ j))
          go (inl e) = (new, (here, sym e))
          go (inr l) = let r = own.are.every j (l, h) in (r.0, (there r.1.0, r.1.1))

      before : (m : Mode) → (m ≡ Write → ⊥) → HasGroup rights (members ++ more) (kept_before m spot.before) (λ j. StandsOn rights j n)
      before Write no_write = absurd (no_write refl)
      before Read no_write = group_stays rights members more spot.before (λ j. StandsOn rights j n) is.before
      before (Fold o) no_write = group_stays rights members more spot.before (λ j. StandsOn rights j n) is.before

-- more members behind those that are kept
pub kept_stays : (rights : ℕ → Right) (n : ℕ) (members more : List Member) (o : Option Groups) → KeptAt rights n members o → KeptAt rights n (members ++ more) o
kept_stays rights n members more None h = h
kept_stays rights n members more (Some g) h =
    record {
      last = h.last;
      is_last = h.is_last;
      newest = h.newest;
      there = still_there members more g.now h.newest h.there;
      right = h.right;
      now = group_stays rights members more (Some g.now) (λ j. AreOneGroup rights j h.last) h.now;
      before = λ w. group_stays rights members more g.before (λ j. StandsOn rights j h.last) (h.before w);
    }

-- a child without the cell changes nothing
pub kept_past : (rights : ℕ → Right) (n : ℕ) (members : List Member) (o : Option Groups) → (is_held (rights n) ≡ true → ⊥) → KeptAt rights n members o → KeptAt rights (n + 1) members o
kept_past rights n members None not_held h = λ i l k. go i k (up i l)
  where
    up : (i : ℕ) → i < n + 1 → (i ≡ n) ⊎ (i < n)
    up i l = grind (arith, l)

    go : (i : ℕ) → is_held (rights i) ≡ true → (i ≡ n) ⊎ (i < n) → ⊥
    go i k (inl e) = not_held (subst (λ (x : ℕ). is_held (rights x) ≡ true) e k)
    go i k (inr l) = h i l k
kept_past rights n members (Some g) not_held h =
    record {
      last = h.last;
      is_last = record { below = (let b = h.is_last.below in omega (arith, b)); held = h.is_last.held; none = λ i a b k. go i a k (up i b) };
      newest = h.newest;
      there = h.there;
      right = h.right;
      now = h.now;
      before = h.before;
    }
  where
    up : (i : ℕ) → i < n + 1 → (i ≡ n) ⊎ (i < n)
    up i l = grind (arith, l)

    go : (i : ℕ) → h.last < i → is_held (rights i) ≡ true → (i ≡ n) ⊎ (i < n) → ⊥
    go i a k (inl e) = not_held (subst (λ (x : ℕ). is_held (rights x) ≡ true) e k)
    go i a k (inr l) = h.is_last.none i a l k
