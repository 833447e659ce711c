-- What is kept of a longest chain, against what it stands for in the state at the end of a run.
use Rattle.std.proofs.Common.{◌≡◌, ◌≤◌, ◌<◌, ◌⊎◌, inl, inr, refl, sym, subst, ap, ◌∙◌, ℕ, zero, suc, ◌+◌, ◌-◌, ◌^◌, Bool, true, false, List, [], ◌∷◌, ◌++◌, length, Option, Some, None, arith}
use Rattle.std.specs.Prelude.{if◌then◌else◌, nat_lt, min, slice_get, unwrap_or}
use Rattle.std.proofs.lemmas.Bool.Decides.{nat_tests}
use Rattle.oss_model.specs.Bodies.{Program}
use Rattle.oss_model.specs.Machine.{State}
use Rattle.oss_model.specs.Order.{written}
use Rattle.oss_chain_laws.specs.Chains.{Best as Longest, IsMost, better as better_chain, capped, no_chain, one_more, ticks_in}
use Rattle.oss_chain_laws.specs.Happenings.{Happening, Acting, Giving, WaitsFor}
use Rattle.oss_chain_laws.specs.Runs.{ticks_at}
use Rattle.oss_chain_laws.proofs.PassLemmas.{Most, same, either_most, no_most}
use Rattle.oss_span.specs.declared.best.Best.{Best}
use Rattle.oss_span.specs.declared.best.Mark.{Mark}
use Rattle.oss_span.specs.declared.node.Node.{Node}
use Rattle.oss_span.specs.declared.node.Node.TheVariants.{Acts, Gives}
use Rattle.oss_span.specs.declared.run.Run.{Run}
use Rattle.oss_span.specs.Acts.{IsSealed, after_act, ticked}
use Rattle.oss_span.specs.Bests.{better, better_mark, no_best, no_mark}
use Rattle.oss_span.specs.Frames.{Grows}
use Rattle.oss_span.specs.Shown.{IsBelow, IsVerb, Shows, shows_none, shows_acts, shows_gives, acts_back}

pub bools : (b : Bool) → (b ≡ true) ⊎ (b ≡ false)
bools true = inl refl
bools false = inr refl

-- items of lists that grow
pub get_before : {A : Type 0} (xs : List A) (y : A) (i : ℕ) (x : A) → slice_get xs i ≡ Some x → slice_get (xs ++ y ∷ []) i ≡ Some x
get_before [] y i x h = absurd cc
get_before (z ∷ zs) y zero x h = h
get_before (z ∷ zs) y (suc i) x h = get_before zs y i x h

pub get_last : {A : Type 0} (xs : List A) (y : A) → slice_get (xs ++ y ∷ []) (length xs) ≡ Some y
get_last [] y = refl
get_last (z ∷ zs) y = get_last zs y

pub get_within : {A : Type 0} (xs : List A) (i : ℕ) (x : A) → slice_get xs i ≡ Some x → i < length xs
get_within [] i x h = absurd cc
get_within (z ∷ zs) zero x h = omega arith
get_within (z ∷ zs) (suc i) x h = let l = get_within zs i x h in omega (arith, l)

pub grows_one : {A : Type 0} (xs : List A) (y : A) → Grows xs (xs ++ y ∷ [])
grows_one xs y = λ i n h. get_before xs y i n h

pub grows_same : {A : Type 0} (xs ys : List A) → ys ≡ xs → Grows xs ys
grows_same {A = A} xs ys e = λ i n h. subst (λ (zs : List A). slice_get zs i ≡ Some n) (sym e) h

module _ {S : Type 0} (P : Program S) (s : State S) where
  abbrev pub weight : Happening → ℕ
  weight e = ticks_at P s e

  -- chains that are shown are still when nodes and points are added
  pub shows_on : (nodes more : List Node) (points others : List (List ℕ)) → Grows nodes more → Grows points others → {end : Option ℕ} {c : ℕ} {es : List Happening} → Shows P s nodes points end c es → Shows P s more others end c es
  shows_on nodes more points others g h shows_none = shows_none
  shows_on nodes more points others g h (shows_acts {i = i} {task = task} p es node point few low t) = shows_acts p es (g i _ node) (h task _ point) few low (shows_on nodes more points others g h t)
  shows_on nodes more points others g h (shows_gives {i = i} {task = task} node point is low t) = shows_gives (g i _ node) (h task _ point) is low (shows_on nodes more points others g h t)

  -- the end of a chain that is shown is a node that is there
  pub shows_below : (nodes : List Node) (points : List (List ℕ)) (end : Option ℕ) {c : ℕ} {es : List Happening} → Shows P s nodes points end c es → IsBelow end (length nodes)
  shows_below nodes points None h = tt
  shows_below nodes points (Some i) (shows_acts {task = task} p es node point few low t) = get_within nodes i _ node
  shows_below nodes points (Some i) (shows_gives node point is low t) = get_within nodes i _ node

  module _ (nodes : List Node) (points : List (List ℕ)) where
    -- the mark stands, at this cell, for this chain
    pub record ShowsMark (m : Mark) (c : ℕ) (b : Longest Happening) : Type 0 where
      pub ticks : b.ticks ≡ m.ticks
      pub shows : Shows P s nodes points m.end c b.chain

    abbrev pub ShowsBest : Best → Longest Happening → Type 0
    ShowsBest k b = ShowsMark k.mark k.cell b

    -- what is kept of the last act of a task stands for this chain
    pub record ShowsRun (p : List ℕ) (r : Run) (b : Longest Happening) : Type 0 where
      pub ticks : b.ticks ≡ r.ticks
      pub few : r.count ≤ r.acts
      pub rest : List Happening
      pub shows : Shows P s nodes points r.before.mark.end r.before.cell rest
      pub chain : b.chain ≡ acts_back p r.acts r.count rest

    pub none_shown : (c : ℕ) → ShowsMark no_mark c no_chain
    none_shown c = record { ticks = refl; shows = shows_none }

    pub better_shown : (m n : Mark) (c : ℕ) (a b : Longest Happening) → ShowsMark m c a → ShowsMark n c b → ShowsMark (better_mark m n) c (better_chain a b)
    better_shown m n c a b h k = go (bools (nat_lt m.ticks n.ticks))
      where
        test : nat_lt a.ticks b.ticks ≡ nat_lt m.ticks n.ticks
        test = rw (h.ticks, k.ticks) refl

        go : (nat_lt m.ticks n.ticks ≡ true) ⊎ (nat_lt m.ticks n.ticks ≡ false) → ShowsMark (better_mark m n) c (better_chain a b)
        go (inl e) = rw (test, e) k
        go (inr e) = rw (test, e) h

    pub better_best_shown : (m n : Best) (a b : Longest Happening) → ShowsBest m a → ShowsBest n b → ShowsBest (better m n) (better_chain a b)
    better_best_shown m n a b h k = go (bools (nat_lt m.mark.ticks n.mark.ticks))
      where
        test : nat_lt a.ticks b.ticks ≡ nat_lt m.mark.ticks n.mark.ticks
        test = rw (h.ticks, k.ticks) refl

        go : (nat_lt m.mark.ticks n.mark.ticks ≡ true) ⊎ (nat_lt m.mark.ticks n.mark.ticks ≡ false) → ShowsBest (better m n) (better_chain a b)
        go (inl e) = rw (test, e) k
        go (inr e) = rw (test, e) h

    -- What is kept is right for a property of events: it stands for a chain that is a longest one to such an event.
    pub record Tells (Q : Happening → Type 0) (k : Best) : Type 0 where
      pub best : Longest Happening
      pub most : Most P s weight Q best
      pub shows : ShowsBest k best

    pub tells_same : (Q R : Happening → Type 0) (k : Best) → ((f : Happening) → Q f → R f) → ((f : Happening) → R f → Q f) → Tells Q k → Tells R k
    tells_same Q R k forth back t = record { best = t.best; most = same P s weight Q R t.best forth back t.most; shows = t.shows }

    pub tells_better : (Q R : Happening → Type 0) (m n : Best) → Tells Q m → Tells R n → Tells (λ f. Q f ⊎ R f) (better m n)
    tells_better Q R m n t u = record { best = better_chain t.best u.best; most = either_most P s weight Q R t.best u.best t.most u.most; shows = better_best_shown m n t.best u.best t.shows u.shows }

    pub tells_none : (Q : Happening → Type 0) → ((f : Happening) → Q f → ⊥) → Tells Q no_best
    tells_none Q h = record { best = no_chain; most = no_most P s weight Q h; shows = none_shown 0 }

  -- a longest chain has no more ticks than the greatest number
  pub most_small : (Q : Happening → Type 0) (b : Longest Happening) → Most P s weight Q b → b.ticks ≤ 2 ^ 64 - 1
  unfolding ticks_in
  most_small Q b m = go m.reached
    where
      cap : (n : ℕ) → capped n ≤ 2 ^ 64 - 1
      cap n = grind arith

      go : ((b.ticks ≡ 0) × (b.chain ≡ [])) ⊎ ((f : Happening) × Q f × (es : List Happening) × (b.chain ≡ f ∷ es) × Rattle.oss_chain_laws.specs.Chains.IsTrail (WaitsFor P s) (f ∷ es) × (ticks_in weight (f ∷ es) ≡ b.ticks)) → b.ticks ≤ 2 ^ 64 - 1
      go (inl z) = let e = z.0 in omega (arith, e)
      go (inr (f, q, es, c, t, e)) = let l = cap (weight f + ticks_in weight es) in omega (arith, e, l)
