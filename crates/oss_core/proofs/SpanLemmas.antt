-- Spans of what was given up, from behind: what is given up last goes to the last span, or is one more.
use Rattle.std.proofs.Common.{◌≡◌, ℕ, zero, suc, ◌+◌, refl, ap, ◌∙◌, arith, List, [], ◌∷◌, ◌++◌, Bool, true, false}
use Rattle.std.specs.Prelude.{◌==◌, ◌&&◌, if◌then◌else◌}
use Rattle.std.proofs.lemmas.Bool.Decides.{nat_tests}
use Rattle.oss_model.specs.Machine.{same_path}
use Rattle.oss_model.proofs.Exclusive.{same_self}
use Rattle.oss_model.proofs.TreeLemmas.{same_path_is}
use Rattle.oss_wave_laws.specs.Passes.{GivenUp}
use Rattle.oss_wave_laws.specs.Rounds.{Span, alike, goes_on_from, in_front, spans}

-- so many cells of a task from one on, given up in one way
abbrev pub cells_of : List ℕ → ℕ → ℕ → Bool → List GivenUp
cells_of p lo zero joined = []
cells_of p lo (suc n) joined = record { path = p; cell = lo; joined = joined } ∷ cells_of p (suc lo) n joined

-- the second span goes on where the first ends, in the same way
abbrev pub continues : Span → Span → Bool
continues y x = same_path y.path x.path && alike y.joined x.joined && (y.first + y.count == x.first)

-- one span in place of two
abbrev pub one_span : Span → Span → Span
one_span y x = record { path = y.path; first = y.first; count = x.count + y.count; joined = y.joined }

-- spans with one more behind them
abbrev pub at_back : List Span → Span → List Span
at_back [] x = x ∷ []
at_back (y ∷ []) x = if continues y x then one_span y x ∷ [] else y ∷ x ∷ []
at_back (y ∷ z ∷ rest) x = y ∷ at_back (z ∷ rest) x

pub both_true : (a b : Bool) → (a && b) ≡ true → (a ≡ true) × (b ≡ true)
both_true true b h = (refl, h)
both_true false b h = absurd cc

pub way_is : (a b : Bool) → alike a b ≡ true → a ≡ b
way_is true true h = refl
way_is true false h = absurd cc
way_is false true h = absurd cc
way_is false false h = refl

pub alike_self : (a : Bool) → alike a a ≡ true
alike_self true = refl
alike_self false = refl

-- a cell in front of a span
abbrev longer : GivenUp → Span → Span
longer g y = record { path = g.path; first = g.cell; count = y.count + 1; joined = g.joined }

-- goes on as the span did
longer_goes : (g : GivenUp) (y x : Span) → goes_on_from g y ≡ true → continues (longer g y) x ≡ continues y x
longer_goes g y x h =
    let k = both_true (same_path g.path y.path && alike g.joined y.joined) (g.cell + 1 == y.first) h in
    let j = both_true (same_path g.path y.path) (alike g.joined y.joined) k.0 in
    let p = same_path_is g.path y.path j.0 in
    let w = way_is g.joined y.joined j.1 in
    let c = k.1 in
    let e : g.cell + (y.count + 1) ≡ y.first + y.count = let f : g.cell + 1 ≡ y.first = grind (arith, nat_tests, c) in omega (arith, f) in
    λ i. same_path (p i) x.path && alike (w i) x.joined && (e i == x.first)

counts : (a b : ℕ) → (a + b) + 1 ≡ a + (b + 1)
counts a b = omega arith

front_one : (g : GivenUp) (y x : Span) (b : Bool) → continues y x ≡ b → (d : Bool) → goes_on_from g y ≡ d → in_front g (at_back (y ∷ []) x) ≡ at_back (in_front g (y ∷ [])) x
front_one g y x true e true f = let k : continues (longer g y) x ≡ true = longer_goes g y x f ∙ e in rw (e, f, k) (ap (λ (c : ℕ). record { path = g.path; first = g.cell; count = c; joined = g.joined } ∷ []) (counts x.count y.count))
front_one g y x true e false f = rw (e, f, e) refl
front_one g y x false e true f = let k : continues (longer g y) x ≡ false = longer_goes g y x f ∙ e in rw (e, f, k) refl
front_one g y x false e false f = rw (e, f, e) refl

front_more : (g : GivenUp) (y z : Span) (rest : List Span) (x : Span) (d : Bool) → goes_on_from g y ≡ d → in_front g (at_back (y ∷ z ∷ rest) x) ≡ at_back (in_front g (y ∷ z ∷ rest)) x
front_more g y z rest x true f = rw f refl
front_more g y z rest x false f = rw f refl

-- one more in front and one more behind
pub front_back : (g : GivenUp) (list : List Span) (x : Span) → in_front g (at_back list x) ≡ at_back (in_front g list) x
front_back g [] x = refl
front_back g (y ∷ []) x = front_one g y x (continues y x) refl (goes_on_from g y) refl
front_back g (y ∷ z ∷ rest) x = front_more g y z rest x (goes_on_from g y) refl

-- cells that are one span go to the last span, or are one more
pub spans_behind : (told more : List GivenUp) (x : Span) → spans more ≡ x ∷ [] → spans (told ++ more) ≡ at_back (spans told) x
spans_behind [] more x e = e
spans_behind (g ∷ told) more x e = ap (in_front g) (spans_behind told more x e) ∙ front_back g (spans told) x

-- cells of one task from one on are one span
pub spans_of : (p : List ℕ) (n lo : ℕ) (joined : Bool) → spans (cells_of p lo (suc n) joined) ≡ record { path = p; first = lo; count = suc n; joined = joined } ∷ []
spans_of p zero lo joined = refl
spans_of p (suc n) lo joined =
    let g : GivenUp = record { path = p; cell = lo; joined = joined } in
    let behind : Span = record { path = p; first = suc lo; count = suc n; joined = joined } in
    let a = same_self p in
    let b = alike_self joined in
    let c : (lo + 1 == suc lo) ≡ true = grind (arith, nat_tests) in
    let on : goes_on_from g behind ≡ true = rw (a, b, c) refl in
    let e : in_front g (behind ∷ []) ≡ record { path = p; first = lo; count = suc n + 1; joined = joined } ∷ [] = rw on refl in
    let f : suc n + 1 ≡ suc (suc n) = omega arith in
    ap (in_front g) (spans_of p n (suc lo) joined) ∙ e ∙ ap (λ (c : ℕ). record { path = p; first = lo; count = c; joined = joined } ∷ []) f
