-- What is said of an access up to a child rests on the children up to that one alone: so it stays where later children come.
use Rattle.std.proofs.Common.{◌≡◌, ℕ, ◌≤◌, ◌<◌, ◌⊎◌, inl, inr, sym, ap, ◌∙◌, arith, Bool, true, false, List, Option, None, Some}
use Rattle.oss_syntax.specs.declared.tree.program.Item.{Item}
use Rattle.oss_model.specs.Rights.{Right}
use Rattle.oss_ranges.specs.Cells.{value_at}
use Rattle.oss_task_graph.specs.declared.graph.Edge.{Edge}
use Rattle.oss_task_graph.specs.Edges.{Accesses, AreEdges, IsEdge, IsStrongAt, StandsAt}
use Rattle.oss_task_graph.specs.Groups.{AreNeighbours, AreOneGroup, StandsOn, are_strong, go_together, is_held, next, same}
use Rattle.oss_task_edges.specs.declared.groups.Groups.{Groups}
use Rattle.oss_task_edges.specs.declared.members.Member.{Member}
use Rattle.oss_task_edges.specs.declared.siblings.Siblings.{Siblings}
use Rattle.oss_task_edges.specs.Kept.{HasGroup, Keeps, KeptAt, is_strong}
use Rattle.oss_task_edges.proofs.GroupLemmas.{group_up, stands_up}

-- One cell

-- the rights agree up to this child
abbrev pub Agree : (ℕ → Right) → (ℕ → Right) → ℕ → Type 0
Agree r s k = (i : ℕ) → i ≤ k → r i ≡ s i

pub agree_back : (r s : ℕ → Right) (k : ℕ) → Agree r s k → Agree s r k
agree_back r s k a = λ i l. sym (a i l)

agree_less : (r s : ℕ → Right) (j k : ℕ) → j ≤ k → Agree r s k → Agree r s j
agree_less r s j k l a = λ i m. a i (omega (arith, l, m))

neighbours_as : (r s : ℕ → Right) (j k : ℕ) → Agree r s k → AreNeighbours r j k → AreNeighbours s j k
neighbours_as r s j k a h =
    let l = h.rises in
    record {
      rises = h.rises;
      first = ap is_held (sym (a j (omega (arith, l)))) ∙ h.first;
      second = ap is_held (sym (a k (omega arith))) ∙ h.second;
      between = λ i x y e. h.between i x y (ap is_held (a i (omega (arith, y))) ∙ e);
    }

together_as : (r s : ℕ → Right) (j k : ℕ) (b : Bool) → r j ≡ s j → r k ≡ s k → go_together (r j) (r k) ≡ b → go_together (s j) (s k) ≡ b
together_as r s j k b e f h = ap (λ x. go_together x (s k)) (sym e) ∙ ap (λ x. go_together (r j) x) (sym f) ∙ h

group_agrees : (r s : ℕ → Right) (i k : ℕ) → Agree r s k → AreOneGroup r i k → AreOneGroup s i k
group_agrees r s i _ a same = same
group_agrees r s i k a (next {j = j} g n t) =
    let l = n.rises in
    next (group_agrees r s i j (agree_less r s j k (omega (arith, l)) a) g) (neighbours_as r s j k a n) (together_as r s j k true (a j (omega (arith, l))) (a k (omega arith)) t)

pub stands_agrees : (r s : ℕ → Right) (j k : ℕ) → Agree r s k → StandsOn r j k → StandsOn s j k
stands_agrees r s j k a h =
    let up = group_up r h.first k h.behind in
    let l = h.neighbours.rises in
    record {
      last = h.last;
      first = h.first;
      before = group_agrees r s j h.last (agree_less r s h.last k (omega (arith, up, l)) a) h.before;
      neighbours = neighbours_as r s h.last h.first (agree_less r s h.first k up a) h.neighbours;
      apart = together_as r s h.last h.first false (a h.last (omega (arith, up, l))) (a h.first up) h.apart;
      behind = group_agrees r s h.first k a h.behind;
    }

-- Edges

-- the accesses agree up to this child
abbrev pub AgreeTo : Accesses → Accesses → ℕ → Type 0
AgreeTo a b k = (i c : ℕ) → i ≤ k → a i c ≡ b i c

module _ (items : List Item) (a b : Accesses) (k : ℕ) (agree : AgreeTo a b k) where
  stands_to : (j c : ℕ) → StandsAt a j k c → StandsAt b j k c
  stands_to j c s = stands_agrees (λ i. a i c) (λ i. b i c) j k (λ i l. agree i c l) s

  stands_back : (j c : ℕ) → StandsAt b j k c → StandsAt a j k c
  stands_back j c s = stands_agrees (λ i. b i c) (λ i. a i c) j k (λ i l. sym (agree i c l)) s

  strong_is : (j c : ℕ) → j < k → are_strong (a j c) (a k c) ≡ are_strong (b j c) (b k c)
  strong_is j c l = ap (λ x. are_strong x (a k c)) (agree j c (omega (arith, l))) ∙ ap (λ x. are_strong (b j c) x) (agree k c (omega arith))

  strong_to : (j c : ℕ) → IsStrongAt a j k c → IsStrongAt b j k c
  strong_to j c h = record { stands = stands_to j c h.stands; strong = sym (strong_is j c (stands_up (λ i. a i c) j k h.stands)) ∙ h.strong }

  strong_back : (j c : ℕ) → IsStrongAt b j k c → IsStrongAt a j k c
  strong_back j c h = record { stands = stands_back j c h.stands; strong = strong_is j c (stands_up (λ i. b i c) j k h.stands) ∙ h.strong }

  edge_agrees : (e : Edge) → IsEdge items a k e → IsEdge items b k e
  edge_agrees e h =
      record {
        test = h.test;
        pieces = h.pieces;
        only = λ c t. stands_to e.from c (h.only c t);
        every = λ c s. h.every c (stands_back e.from c s);
        some = h.some;
        weak = λ w c s. h.weak w c (strong_back e.from c s);
        strong = λ w. let r = h.strong w in (r.0, strong_to e.from r.0 r.1);
      }

  pub edges_agree : (es : List Edge) → AreEdges items a k es → AreEdges items b k es
  edges_agree es h = record { rise = h.rise; each = λ e i. edge_agrees e (h.each e i); every = λ j c s. h.every j c (stands_back j c s) }

-- What is kept

module _ (r s : ℕ → Right) (k : ℕ) (a : Agree r s k) (members : List Member) where
  group_kept : (newest : Option ℕ) → HasGroup r members newest (λ j. AreOneGroup r j k) → HasGroup s members newest (λ j. AreOneGroup s j k)
  group_kept newest h =
      record {
        group = h.group;
        chain = h.chain;
        are = record {
          only = λ m i. let g = h.are.only m i in (group_agrees r s m.child k a g.0, g.1 ∙ ap is_strong (a m.child (group_up r m.child k g.0)));
          every = λ j g. h.are.every j (group_agrees s r j k (agree_back r s k a) g);
        };
      }

  stands_kept : (newest : Option ℕ) → HasGroup r members newest (λ j. StandsOn r j k) → HasGroup s members newest (λ j. StandsOn s j k)
  stands_kept newest h =
      record {
        group = h.group;
        chain = h.chain;
        are = record {
          only = λ m i. let g = h.are.only m i in (stands_agrees r s m.child k a g.0, g.1 ∙ ap is_strong (a m.child (let l = stands_up r m.child k g.0 in omega (arith, l))));
          every = λ j g. h.are.every j (stands_agrees s r j k (agree_back r s k a) g);
        };
      }

kept_agrees : (r s : ℕ → Right) (n : ℕ) (members : List Member) (o : Option Groups) → ((i : ℕ) → i < n → r i ≡ s i) → KeptAt r n members o → KeptAt s n members o
kept_agrees r s n members None a h = λ i l e. h i l (ap is_held (a i l) ∙ e)
kept_agrees r s n members (Some g) a h =
    let below = h.is_last.below in
    let to : Agree r s h.last = λ i l. a i (omega (arith, l, below)) in
    record {
      last = h.last;
      is_last = record { below = below; held = ap is_held (sym (a h.last below)) ∙ h.is_last.held; none = λ i x y e. h.is_last.none i x y (ap is_held (a i y) ∙ e) };
      newest = h.newest;
      there = h.there;
      right = sym (a h.last below) ∙ h.right;
      now = group_kept r s h.last to members (Some g.now) h.now;
      before = λ w. stands_kept r s h.last to members g.before (h.before w);
    }

-- the children before this one have the same accesses
pub keeps_agree : (a b : Accesses) (n : ℕ) (s : Siblings) → ((i c : ℕ) → i < n → a i c ≡ b i c) → Keeps a n s → Keeps b n s
keeps_agree a b n s e h = λ c. kept_agrees (λ i. a i c) (λ i. b i c) n s.members (value_at s.cells.pieces c) (λ i l. e i c l) (h c)

-- Of no child from either number on anything is kept.
kept_either : (r : ℕ → Right) (n m : ℕ) (members : List Member) (o : Option Groups) → ((i : ℕ) → n ≤ i → is_held (r i) ≡ true → ⊥) → ((i : ℕ) → m ≤ i → is_held (r i) ≡ true → ⊥) → KeptAt r n members o → KeptAt r m members o
kept_either r n m members None a b h = λ i l e. go i e (order i n)
  where
    order : (x y : ℕ) → (x < y) ⊎ (y ≤ x)
    order x y = grind arith

    go : (i : ℕ) → is_held (r i) ≡ true → (i < n) ⊎ (n ≤ i) → ⊥
    go i e (inl l) = h i l e
    go i e (inr l) = a i l e
kept_either r n m members (Some g) a b h =
    record {
      last = h.last;
      is_last = record { below = below (order h.last m); held = h.is_last.held; none = λ i x y e. between i x e (order i n) };
      newest = h.newest;
      there = h.there;
      right = h.right;
      now = h.now;
      before = h.before;
    }
  where
    order : (x y : ℕ) → (x < y) ⊎ (y ≤ x)
    order x y = grind arith

    below : (h.last < m) ⊎ (m ≤ h.last) → h.last < m
    below (inl l) = l
    below (inr l) = absurd (b h.last l h.is_last.held)

    between : (i : ℕ) → h.last < i → is_held (r i) ≡ true → (i < n) ⊎ (n ≤ i) → ⊥
    between i x e (inl l) = h.is_last.none i x l e
    between i x e (inr l) = a i l e

pub keeps_either : (a : Accesses) (n m : ℕ) (s : Siblings) → ((i c : ℕ) → n ≤ i → is_held (a i c) ≡ true → ⊥) → ((i c : ℕ) → m ≤ i → is_held (a i c) ≡ true → ⊥) → Keeps a n s → Keeps a m s
keeps_either a n m s x y h = λ c. kept_either (λ i. a i c) n m s.members (value_at s.cells.pieces c) (λ i l. x i c l) (λ i l. y i c l) (h c)
