-- Edges lead from the nearest accesses in conflict: from a whole group, behind which nothing lies that conflicts with both ends.
use Rattle.std.proofs.Common.{◌≡◌, ℕ, ◌≤◌, ◌<◌, ◌⊎◌, inl, inr, refl, sym, subst, ◌∙◌, arith, Bool, true, false}
use Rattle.std.proofs.lemmas.Bool.{cases_lt, cases_order}
use Rattle.oss_syntax.specs.declared.access.Mode.TheVariants.{Fold, Read, Write}
use Rattle.oss_model.specs.Machine.{mode_of}
use Rattle.oss_model.specs.Rights.{Right, NoRight, Released, Holds}
use Rattle.oss_task_graph.specs.Groups.{AreNeighbours, AreOneGroup, StandsOn, go_together, is_held, next, same}
use Rattle.oss_graph_edges_laws.specs.Claims.{DoConflict, EdgesAreNearest, GroupsAreWhole, IsWay, NoEdgeLeadsPast, edge, further}
use Rattle.oss_graph_edges_laws.proofs.GroupLemmas.{group_held, group_up, not_both_read, not_one_fold, stands_first, stands_held, stands_up, together_mode}
use Rattle.oss_graph_edges_laws.proofs.WayLemmas.{group_goes}

never : (b : Bool) → b ≡ true → b ≡ false → ⊥
never b h k = let e : true ≡ false = sym h ∙ k in cc

two_ways : (b : Bool) → (b ≡ true) ⊎ (b ≡ false)
two_ways true = inl refl
two_ways false = inr refl

module _ (rights : ℕ → Right) where
  -- Groups

  -- an access on the way from one member of a group to another is one of the group
  pub record IsMember (a i b : ℕ) : Type 0 where
    pub from : AreOneGroup rights a i
    pub to : AreOneGroup rights i b

  member_step : (a i j b : ℕ) → AreNeighbours rights j b → go_together (rights j) (rights b) ≡ true → AreOneGroup rights a j → is_held (rights i) ≡ true → (i ≤ j → IsMember a i j)
      → (i ≡ b) ⊎ ((i < b) ⊎ (b < i)) → i ≤ b → IsMember a i b
  member_step a i j b nb t g held lower (inl e) up =
      record {
        from = subst (λ (n : ℕ). AreOneGroup rights a n) (sym e) (next g nb t);
        to = subst (λ (n : ℕ). AreOneGroup rights i n) e same;
      }
  member_step a i j b nb t g held lower (inr (inr l)) up = absurd (omega (arith, l, up))
  member_step a i j b nb t g held lower (inr (inl l)) up = elim (cases_lt j i) [
    | inl m ↦ absurd (nb.between i m l held)
    | inr m ↦ (let r = lower m in record { from = r.from; to = next r.to nb t })
  ]

  pub member : (a i b : ℕ) → AreOneGroup rights a b → a ≤ i → i ≤ b → is_held (rights i) ≡ true → IsMember a i b
  member a i _ same l m held =
      let e : a ≡ i = omega (arith, l, m) in
      record { from = subst (λ (n : ℕ). AreOneGroup rights a n) e same; to = subst (λ (n : ℕ). AreOneGroup rights n a) e same }
  member a i b (next {j = j} g nb t) l m held = member_step a i j b nb t g held (λ u. member a i j g l u held) (cases_order i b) m

  joined : (a i b : ℕ) → AreOneGroup rights a i → AreOneGroup rights i b → AreOneGroup rights a b
  joined a i _ g same = g
  joined a i b g (next {j = j} h nb t) = next (joined a i j g h) nb t

  -- One access stands on another

  module _ (j k : ℕ) (s : StandsOn rights j k) where
    up_to_last : j ≤ s.last
    up_to_last = group_up rights j s.last s.before

    from_first : s.first ≤ k
    from_first = group_up rights s.first k s.behind

    -- they are not of one group
    pub not_one_group : AreOneGroup rights j k → ⊥
    not_one_group g =
        let n = s.neighbours in
        let rises = n.rises in
        let a = member j s.last k g up_to_last (omega (arith, rises, from_first)) n.first in
        let b = member s.last s.first k a.to (omega (arith, rises)) from_first n.second in
        never (go_together (rights s.last) (rights s.first)) (group_goes rights s.last s.first rises b.from n.first n.second) s.apart

    -- an access between them is of the group of the one or of the other
    pub beside : (i : ℕ) → j ≤ i → i ≤ k → is_held (rights i) ≡ true → AreOneGroup rights j i ⊎ AreOneGroup rights i k
    beside i l m held = elim (cases_lt s.last i) [
      | inr u ↦ inl (member j i s.last s.before l u held).from
      | inl u ↦ elim (cases_lt i s.first) [
        | inl v ↦ absurd (s.neighbours.between i u v held)
        | inr v ↦ inr (member s.first i k s.behind v m held).to
      ]
    ]

  -- one that conflicts with both ends does not lie between them

  no_between : (j k : ℕ) → StandsOn rights j k → (i : ℕ) → j < i → i < k → DoConflict rights j i → DoConflict rights i k → ⊥
  no_between j k s i l m c d = elim (beside j k s i (omega (arith, l)) (omega (arith, m)) c.second) [
    | inl g ↦ never (go_together (rights j) (rights i)) (group_goes rights j i l g c.first c.second) c.apart
    | inr g ↦ never (go_together (rights i) (rights k)) (group_goes rights i k m g d.first d.second) d.apart
  ]

  -- Ways

  way_up : (j i : ℕ) → IsWay rights j i → j < i
  way_up j i (edge s) = stands_up rights j i s
  way_up j i (further {i = m} w s) = let a = way_up j m w in let b = stands_up rights m i s in omega (arith, a, b)

  way_held : (j i : ℕ) → IsWay rights j i → is_held (rights i) ≡ true
  way_held j i (edge s) = stands_held rights j i s
  way_held j i (further {i = m} w s) = stands_held rights m i s

  -- a way leaves a group
  way_leaves : (j i : ℕ) → IsWay rights j i → AreOneGroup rights j i → ⊥
  way_leaves j i (edge s) g = not_one_group j i s g
  way_leaves j i (further {i = m} w s) g =
      let a = way_up j m w in
      let b = stands_up rights m i s in
      not_one_group m i s (member j m i g (omega (arith, a)) (omega (arith, b)) (stands_first rights m i s)).to

  past : (j i k : ℕ) → StandsOn rights j k → IsWay rights j i → IsWay rights i k → ⊥
  past j i k s v w =
      let a = way_up j i v in
      let b = way_up i k w in
      elim (beside j k s i (omega (arith, a)) (omega (arith, b)) (way_held j i v)) [
        | inl g ↦ way_leaves j i v g
        | inr g ↦ way_leaves i k w g
      ]

  -- Whole groups

  module _ (j k : ℕ) (s : StandsOn rights j k) where
    held_j : is_held (rights j) ≡ true
    held_j = stands_first rights j k s

    -- what is of the earlier one's group does not lie behind that group's last access
    within_last : (i : ℕ) → AreOneGroup rights j i → i ≤ s.last
    within_last i g = elim (cases_lt s.last i) [
      | inr h ↦ h
      | inl h ↦ (let held : is_held (rights i) ≡ true = group_held rights j i g held_j in
          let n = s.neighbours in
          let rises = n.rises in
          elim (cases_lt i s.first) [
            | inl v ↦ absurd (n.between i h v held)
            | inr v ↦ (let a = member j s.last i g (up_to_last j k s) (omega (arith, h)) n.first in
                let b = member s.last s.first i a.to (omega (arith, rises)) v n.second in
                absurd (never (go_together (rights s.last) (rights s.first)) (group_goes rights s.last s.first rises b.from n.first n.second) s.apart))
          ])
    ]

    -- it is stood on by the same access
    from_group : (i : ℕ) → AreOneGroup rights i s.last → StandsOn rights i k
    from_group i g = record { last = s.last; first = s.first; before = g; neighbours = s.neighbours; apart = s.apart; behind = s.behind }

    of_group : (i : ℕ) → AreOneGroup rights i j ⊎ AreOneGroup rights j i → StandsOn rights i k
    of_group i (inl g) = from_group i (joined i j s.last g s.before)
    of_group i (inr g) = from_group i (member j i s.last s.before (group_up rights j i g) (within_last i g) (group_held rights j i g held_j)).to

    -- an earlier one on which it stands too
    earlier : (i : ℕ) → i ≤ j → StandsOn rights i k → AreOneGroup rights i j
    earlier i l t =
        let up = stands_up rights j k s in
        elim (beside i k t j l (omega (arith, up)) held_j) [
          | inl g ↦ g
          | inr g ↦ absurd (not_one_group j k s g)
        ]

  whole : (i j k : ℕ) → StandsOn rights j k → StandsOn rights i k → (i ≡ j) ⊎ ((i < j) ⊎ (j < i)) → AreOneGroup rights i j ⊎ AreOneGroup rights j i
  whole i j k s t (inl e) = inl (earlier j k s i (omega (arith, e)) t)
  whole i j k s t (inr (inl l)) = inl (earlier j k s i (omega (arith, l)) t)
  whole i j k s t (inr (inr l)) = inr (earlier i k t j (omega (arith, l)) s)

-- The two accesses of an edge conflict.

no_write : (b : Right) (strong : Bool) → go_together (Holds Write strong) b ≡ true → ⊥
no_write b strong e = cc

goes_apart : (rights : ℕ → Right) (j k : ℕ) → StandsOn rights j k → go_together (rights j) (rights k) ≡ true → ⊥
goes_apart rights j k s e = by_right (rights j) refl
  where
    same_mode : mode_of (rights j) ≡ mode_of (rights k)
    same_mode = together_mode (rights j) (rights k) e

    by_right : (r : Right) → rights j ≡ r → ⊥
    by_right (Holds Read t) f = let m : mode_of (rights j) ≡ Read = λ x. mode_of (f x) in not_both_read rights j k s m (sym same_mode ∙ m)
    by_right (Holds (Fold op) t) f = let m : mode_of (rights j) ≡ Fold op = λ x. mode_of (f x) in not_one_fold rights j k s op m (sym same_mode ∙ m)
    by_right (Holds Write t) f = no_write (rights k) t (subst (λ (x : Right). go_together x (rights k) ≡ true) f e)
    by_right NoRight f = let x : go_together NoRight (rights k) ≡ true = subst (λ (x : Right). go_together x (rights k) ≡ true) f e in cc
    by_right Released f = let x : go_together Released (rights k) ≡ true = subst (λ (x : Right). go_together x (rights k) ≡ true) f e in cc

conflict : (rights : ℕ → Right) (j k : ℕ) → StandsOn rights j k → (go_together (rights j) (rights k) ≡ true) ⊎ (go_together (rights j) (rights k) ≡ false) → DoConflict rights j k
conflict rights j k s (inl e) = absurd (goes_apart rights j k s e)
conflict rights j k s (inr e) = record { first = stands_first rights j k s; second = stands_held rights j k s; apart = e }

pub edges_are_nearest : EdgesAreNearest
edges_are_nearest rights j k s = record {
  rises = stands_up rights j k s;
  conflict = conflict rights j k s (two_ways (go_together (rights j) (rights k)));
  between = no_between rights j k s;
}

pub no_edge_leads_past : NoEdgeLeadsPast
no_edge_leads_past rights j i k s v w = past rights j i k s v w

pub groups_are_whole : GroupsAreWhole
groups_are_whole rights i j k s = (λ t. whole rights i j k s t (cases_order i j), λ g. of_group rights j k s i g)
