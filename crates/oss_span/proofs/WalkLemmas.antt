-- A chain is read off the nodes link by link, the last one first.
use Rattle.std.proofs.Common.{◌≡◌, ◌≤◌, ◌<◌, refl, sym, subst, ap, ◌∙◌, ℕ, zero, suc, ◌+◌, ◌-◌, Bool, true, false, List, [], ◌∷◌, ◌++◌, Option, Some, None, arith, append_assoc}
use Rattle.std.specs.Prelude.{if◌then◌else◌, nat_lt, reverse, slice_get}
use Rattle.std.proofs.lemmas.Bool.Decides.{nat_tests}
use Rattle.std.proofs.lemmas.List.{reverse-append}
use Rattle.oss_model.specs.Bodies.{Program}
use Rattle.oss_model.specs.Machine.{State}
use Rattle.oss_model.specs.Order.{written}
use Rattle.oss_chain_laws.specs.Happenings.{Happening, Acting, Giving}
use Rattle.oss_span.specs.declared.link.Link.{Link}
use Rattle.oss_span.specs.declared.link.Link.TheVariants as links
use Rattle.oss_span.specs.declared.node.Node.{Node}
use Rattle.oss_span.specs.declared.node.Node.TheVariants.{Acts, Gives}
use Rattle.oss_span.specs.declared.node.Verb.{Verb}
use Rattle.oss_span.specs.declared.node.Verb.TheVariants as verbs
use Rattle.oss_span.specs.declared.walk.Step.{Step}
use Rattle.oss_span.specs.Links.{Unfolds, nothing, acts, let_, join, acts_from}
use Rattle.oss_span.specs.Shown.{IsBelow, IsStep, IsStepOf, IsVerb, Shows, shows_none, shows_acts, shows_gives, acts_back, below, given_link}

nil_right : {A : Type 0} (xs : List A) → xs ≡ xs ++ []
nil_right [] = refl
nil_right (x ∷ xs) = ap (λ (ys : List _). x ∷ ys) (nil_right xs)

-- how far down the walk may still go
abbrev pub rank : Option ℕ → ℕ
rank None = 0
rank (Some i) = i + 1

pub rank_falls : (i : Option ℕ) (at_ : ℕ) → rank (below i at_) < at_ + 1
rank_falls None at_ = omega arith
rank_falls (Some i) at_ = go (nat_lt i at_) refl
  where
    go : (b : Bool) → nat_lt i at_ ≡ b → rank (if b then Some i else None) < at_ + 1
    go true e = let l : i < at_ = grind (arith, nat_tests) in omega (arith, l)
    go false e = omega arith

pub below_is : (i : Option ℕ) (at_ : ℕ) → IsBelow i at_ → below i at_ ≡ i
below_is None at_ h = refl
below_is (Some i) at_ h = let e : nat_lt i at_ ≡ true = grind (arith, nat_tests) in ap (λ (b : Bool). if b then Some i else None) e

acts_behind : (p : List ℕ) (first count : ℕ) (es : List Happening) → acts_from p first count [] ++ es ≡ acts_from p first count es
acts_behind p first zero es = refl
acts_behind p first (suc k) es = ap (λ (xs : List Happening). Acting p first ∷ xs) (acts_behind p (suc first) k es)

reversed : (e : Happening) (es : List Happening) → reverse (e ∷ es) ≡ reverse es ++ e ∷ []
reversed e es = reverse-append (e ∷ []) es

acts_more : (p : List ℕ) (first count : ℕ) → acts_from p first count [] ++ Acting p (first + count) ∷ [] ≡ acts_from p first (suc count) []
acts_more p first zero = ap (λ (n : ℕ). Acting p n ∷ []) (zero_more first)
  where
    zero_more : (n : ℕ) → n + 0 ≡ n
    zero_more n = omega arith
acts_more p first (suc k) = ap (λ (xs : List Happening). Acting p first ∷ xs) (ap (λ (n : ℕ). acts_from p (suc first) k [] ++ Acting p n ∷ []) (shift first k) ∙ acts_more p (suc first) k)
  where
    shift : (a b : ℕ) → a + suc b ≡ suc a + b
    shift a b = omega arith

pub acts_reversed : (p : List ℕ) (end count : ℕ) (es : List Happening) → count ≤ end → reverse (acts_back p end count es) ≡ reverse es ++ acts_from p (end - count) count []
acts_reversed p end zero es h = nil_right (reverse es)
acts_reversed p zero (suc k) es h = absurd (omega (arith, h))
acts_reversed p (suc n) (suc k) es h =
    reversed (Acting p n) (acts_back p n k es) ∙ (ap (λ (xs : List Happening). xs ++ Acting p n ∷ []) (acts_reversed p n k es (omega (arith, h))) ∙ (append_assoc (reverse es) (acts_from p (n - k) k []) (Acting p n ∷ [])
    ∙ ap (λ (xs : List Happening). reverse es ++ xs) (ap (λ (m : ℕ). acts_from p (n - k) k [] ++ Acting p m ∷ []) (back n k h) ∙ (acts_more p (n - k) k ∙ ap (λ (m : ℕ). acts_from p m (suc k) []) (same n k)))))
  where
    back : (n k : ℕ) → suc k ≤ suc n → n ≡ (n - k) + k
    back n k h = omega arith

    same : (n k : ℕ) → n - k ≡ suc n - suc k
    same n k = omega arith

module _ {S : Type 0} (P : Program S) (s : State S) where
  pub unfolds_behind : {xs ys : List Link} {hs bs : List Happening} → Unfolds P s xs hs → Unfolds P s ys bs → Unfolds P s (xs ++ ys) (hs ++ bs)
  unfolds_behind nothing u = u
  unfolds_behind {ys = ys} {bs = bs} (acts {point = point} {p = p} {first = first} {count = count} {rest = rest} {es = es} q t) u =
      subst (λ (hs : List Happening). Unfolds P s (links.Acts point first (suc count) ∷ rest ++ ys) hs) (sym (ap (λ (hs : List Happening). hs ++ bs) (sym (acts_behind p first (suc count) es)) ∙ (append_assoc (acts_from p first (suc count) []) es bs ∙ acts_behind p first (suc count) (es ++ bs)))) (acts q (unfolds_behind t u))
  unfolds_behind (let_ q n t) u = let_ q n (unfolds_behind t u)
  unfolds_behind (join q n t) u = join q n (unfolds_behind t u)

  module _ (nodes : List Node) (points : List (List ℕ)) where
    -- of a chain this is left, and the links so far stand for the rest
    pub record Walked (end : Option ℕ) (cell : ℕ) (found : List Link) (es : List Happening) : Type 0 where
      pub left : List Happening
      pub shows : Shows P s nodes points end cell left
      pub behind : (older : List Link) → Unfolds P s older (reverse left) → Unfolds P s (older ++ reverse found) (reverse es)

    pub walked_start : (end : Option ℕ) (cell : ℕ) (es : List Happening) → Shows P s nodes points end cell es → Walked end cell [] es
    walked_start end cell es h = record { left = es; shows = h; behind = λ older u. subst (λ (xs : List Link). Unfolds P s xs (reverse es)) (nil_right older) u }

    nothing_left : {cell : ℕ} {es : List Happening} → Shows P s nodes points None cell es → es ≡ []
    nothing_left shows_none = refl

    pub walked_end : (cell : ℕ) (found : List Link) (es : List Happening) → Walked None cell found es → Unfolds P s (reverse found) (reverse es)
    walked_end cell found es w = w.behind [] (subst (λ (hs : List Happening). Unfolds P s [] (reverse hs)) (sym (nothing_left w.shows)) nothing)

    point_is : (task : ℕ) {q p : List ℕ} → slice_get points task ≡ Some q → slice_get points task ≡ Some p → q ≡ p
    point_is task a b = let e = sym a ∙ b in cc

    one_more : (found : List Link) (link : Link) (older : List Link) → (older ++ link ∷ []) ++ reverse found ≡ older ++ reverse (found ++ link ∷ [])
    one_more found link older = append_assoc older (link ∷ []) (reverse found) ∙ ap (λ (xs : List Link). older ++ xs) (sym (reverse-append found (link ∷ [])))

    pub walked_on : (at_ cell : ℕ) (found : List Link) (es : List Happening) (step : Step) → IsStep nodes points at_ cell (Some step) → Walked (Some at_) cell found es → Walked (below step.end at_) step.cell (found ++ step.link ∷ []) es
    walked_on at_ cell found es step told w = go w.left refl w.shows
      where
        go : (left : List Happening) → w.left ≡ left → Shows P s nodes points (Some at_) cell left → Walked (below step.end at_) step.cell (found ++ step.link ∷ []) es
        go _ q (shows_acts {task = task} {end = end} {count = count} {before = before} p rest node point few low t) =
            let d : IsStepOf points cell (Some (Acts task end (suc count) before)) (Some step) = subst (λ (n : Option Node). IsStepOf points cell n (Some step)) node told in
            let pt : d.0 ≡ written p = point_is task d.1 point in
            record {
              left = rest;
              shows = rw (ap (λ (i : Option ℕ). below i at_) d.3 ∙ below_is before.mark.end at_ low, d.4) t;
              behind = λ older u.
                  let a : Unfolds P s (step.link ∷ []) (acts_from p (end - suc count) (suc count) []) = subst (λ (l : Link). Unfolds P s (l ∷ []) (acts_from p (end - suc count) (suc count) [])) (sym d.2) (acts pt nothing) in
                  let b : Unfolds P s (older ++ step.link ∷ []) (reverse w.left) = subst (λ (hs : List Happening). Unfolds P s (older ++ step.link ∷ []) hs) (sym (ap (λ (hs : List Happening). reverse hs) q ∙ acts_reversed p end (suc count) rest few)) (unfolds_behind u a) in
                  subst (λ (xs : List Link). Unfolds P s xs (reverse es)) (one_more found step.link older) (w.behind (older ++ step.link ∷ []) b);
            }
        go _ q (shows_gives {task = task} {verb = verb} {before = before} {cell = other} {p = p} {es = rest} node point is low t) =
            let d : IsStepOf points cell (Some (Gives task verb before other)) (Some step) = subst (λ (n : Option Node). IsStepOf points cell n (Some step)) node told in
            let pt : d.0 ≡ written p = point_is task d.1 point in
            record {
              left = rest;
              shows = rw (ap (λ (i : Option ℕ). below i at_) d.3 ∙ below_is before at_ low, d.4) t;
              behind = λ older u.
                  let a : Unfolds P s (step.link ∷ []) (Giving p cell ∷ []) = subst (λ (l : Link). Unfolds P s (l ∷ []) (Giving p cell ∷ [])) (sym d.2) (given verb d.0 p pt is) in
                  let b : Unfolds P s (older ++ step.link ∷ []) (reverse w.left) = subst (λ (hs : List Happening). Unfolds P s (older ++ step.link ∷ []) hs) (sym (ap (λ (hs : List Happening). reverse hs) q ∙ reversed (Giving p cell) rest)) (unfolds_behind u a) in
                  subst (λ (xs : List Link). Unfolds P s xs (reverse es)) (one_more found step.link older) (w.behind (older ++ step.link ∷ []) b);
            }
          where
            given : (v : Verb) (point p : List ℕ) → point ≡ written p → IsVerb s p cell v → Unfolds P s (given_link v point cell ∷ []) (Giving p cell ∷ [])
            given verbs.Let point p e h = let_ e h nothing
            given verbs.Join point p e h = join e h nothing

    -- each node of a chain tells something
    pub walked_told : (at_ cell : ℕ) (found : List Link) (es : List Happening) → IsStep nodes points at_ cell None → Walked (Some at_) cell found es → ⊥
    walked_told at_ cell found es told w = go w.shows
      where
        go : {left : List Happening} → Shows P s nodes points (Some at_) cell left → ⊥
        go (shows_acts {task = task} {end = end} {count = count} {before = before} p rest node point few low t) =
            let d : IsStepOf points cell (Some (Acts task end (suc count) before)) None = subst (λ (n : Option Node). IsStepOf points cell n None) node told in
            let e = sym d ∙ point in
            cc
        go (shows_gives {task = task} {verb = verb} {before = before} {cell = other} node point is low t) =
            let d : IsStepOf points cell (Some (Gives task verb before other)) None = subst (λ (n : Option Node). IsStepOf points cell n None) node told in
            let e = sym d ∙ point in
            cc
