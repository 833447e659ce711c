-- How many tasks the list of a state tells: one for each path.
use Rattle.std.proofs.Common.{◌≡◌, ℕ, ◌+◌, refl, sym, subst, ap, ◌∙◌, List, [], ◌∷◌, Bool, true, false, Some, None}
use Rattle.std.specs.Prelude.{◌||◌, if◌then◌else◌}
use Rattle.oss_model.specs.Machine.{Task, find, same_path}
use Rattle.oss_model.proofs.TreeLemmas.{same_path_is}
use Rattle.oss_model.proofs.Exclusive.{same_self}
use Rattle.oss_meaning.specs.Results.{is_among, weighed}

-- each task once
abbrev each : {S : Type 0} → List (List ℕ) → List (Task S) → ℕ
each seen ts = weighed (λ t. 1) seen ts

-- what was seen counts alone, in whatever order it stands
alike : {S : Type 0} (ts : List (Task S)) (seen other : List (List ℕ)) → ((q : List ℕ) → is_among seen q ≡ is_among other q) → each seen ts ≡ each other ts
alike [] seen other h = refl
alike (u ∷ rest) seen other h = go (is_among other u.body.start.path) (h u.body.start.path) (alike rest seen other h) (alike rest (u.body.start.path ∷ seen) (u.body.start.path ∷ other) (λ q. ap (λ (b : Bool). same_path u.body.start.path q || b) (h q)))
  where
    go : (b : Bool) → is_among seen u.body.start.path ≡ b → each seen rest ≡ each other rest → each (u.body.start.path ∷ seen) rest ≡ each (u.body.start.path ∷ other) rest
        → (if is_among seen u.body.start.path then each seen rest else 1 + each (u.body.start.path ∷ seen) rest) ≡ (if b then each other rest else 1 + each (u.body.start.path ∷ other) rest)
    go true e k l = rw e k
    go false e k l = rw e (ap (λ (n : ℕ). 1 + n) l)

either_way : (a b c : Bool) → a || (b || c) ≡ b || (a || c)
either_way true true c = refl
either_way true false c = refl
either_way false true c = refl
either_way false false c = refl

swapped : {S : Type 0} (ts : List (Task S)) (p q : List ℕ) (seen : List (List ℕ)) → each (p ∷ q ∷ seen) ts ≡ each (q ∷ p ∷ seen) ts
swapped ts p q seen = alike ts (p ∷ q ∷ seen) (q ∷ p ∷ seen) (λ r. either_way (same_path p r) (same_path q r) (is_among seen r))

-- the paths are one, or they are not, seen from either side
same_back : (p q : List ℕ) (b : Bool) → same_path q p ≡ b → same_path p q ≡ b
same_back p q true e = let k = same_path_is q p e in subst (λ (r : List ℕ). same_path p r ≡ true) (sym k) (same_self p)
same_back p q false e = go (same_path p q) refl
  where
    go : (b : Bool) → same_path p q ≡ b → same_path p q ≡ false
    go true k = let r = same_path_is p q k in let s : same_path q p ≡ true = subst (λ (x : List ℕ). same_path q x ≡ true) (sym r) (same_self q) in let t : false ≡ true = sym e ∙ s in cc
    go false k = k

-- the first of a list, or one behind it
find_first : {S : Type 0} (u : Task S) (rest : List (Task S)) (p : List ℕ) → same_path u.body.start.path p ≡ false → find (u ∷ rest) p ≡ find rest p
unfolding find
find_first u rest p e = rw e refl

find_found : {S : Type 0} (u : Task S) (rest : List (Task S)) (p : List ℕ) → same_path u.body.start.path p ≡ true → find (u ∷ rest) p ≡ Some u
unfolding find
find_found u rest p e = rw e refl

nobody : {S : Type 0} (p : List ℕ) (t : Task S) → find [] p ≡ Some t → ⊥
unfolding find
nobody p t h = cc

-- a task that is there counts for one
pub known : {S : Type 0} (ts : List (Task S)) (p : List ℕ) (t : Task S) (seen : List (List ℕ)) → find ts p ≡ Some t → is_among seen p ≡ false → each seen ts ≡ 1 + each (p ∷ seen) ts
known [] p t seen h n = absurd (nobody p t h)
known (u ∷ rest) p t seen h n = at_first (λ more k m. known rest p t more k m) (same_path u.body.start.path p) refl
  where
    Again : Type 0
    Again = (more : List (List ℕ)) → find rest p ≡ Some t → is_among more p ≡ false → each more rest ≡ 1 + each (p ∷ more) rest

    here : same_path u.body.start.path p ≡ true → each seen (u ∷ rest) ≡ 1 + each (p ∷ seen) (u ∷ rest)
    here e =
        let k : u.body.start.path ≡ p = same_path_is u.body.start.path p e in
        let m : is_among seen u.body.start.path ≡ false = subst (λ (r : List ℕ). is_among seen r ≡ false) (sym k) n in
        let s = same_back p u.body.start.path true e in
        rw (m, s) (subst (λ (r : List ℕ). 1 + each (u.body.start.path ∷ seen) rest ≡ 1 + each (r ∷ seen) rest) k refl)

    there : Again → same_path u.body.start.path p ≡ false → (b : Bool) → is_among seen u.body.start.path ≡ b → each seen (u ∷ rest) ≡ 1 + each (p ∷ seen) (u ∷ rest)
    there again e true m =
        let s = same_back p u.body.start.path false e in
        rw (m, s) (again seen (sym (find_first u rest p e) ∙ h) n)
    there again e false m =
        let s = same_back p u.body.start.path false e in
        let r = again (u.body.start.path ∷ seen) (sym (find_first u rest p e) ∙ h) (rw e n) in
        let w = swapped rest p u.body.start.path seen in
        rw (m, s) (ap (λ (k : ℕ). 1 + k) (r ∙ ap (λ (k : ℕ). 1 + k) w))

    at_first : Again → (b : Bool) → same_path u.body.start.path p ≡ b → each seen (u ∷ rest) ≡ 1 + each (p ∷ seen) (u ∷ rest)
    at_first again true e = here e
    at_first again false e = there again e (is_among seen u.body.start.path) refl

-- a path at which no task is changes nothing
pub unknown : {S : Type 0} (ts : List (Task S)) (p : List ℕ) (seen : List (List ℕ)) → find ts p ≡ None → each (p ∷ seen) ts ≡ each seen ts
unknown [] p seen h = refl
unknown (u ∷ rest) p seen h = at_first (λ more k. unknown rest p more k) (same_path u.body.start.path p) refl
  where
    Again : Type 0
    Again = (more : List (List ℕ)) → find rest p ≡ None → each (p ∷ more) rest ≡ each more rest

    there : Again → same_path u.body.start.path p ≡ false → (b : Bool) → is_among seen u.body.start.path ≡ b → each (p ∷ seen) (u ∷ rest) ≡ each seen (u ∷ rest)
    there again e true m =
        let s = same_back p u.body.start.path false e in
        rw (s, m) (again seen (sym (find_first u rest p e) ∙ h))
    there again e false m =
        let s = same_back p u.body.start.path false e in
        rw (s, m) (ap (λ (k : ℕ). 1 + k) (swapped rest u.body.start.path p seen ∙ again (u.body.start.path ∷ seen) (sym (find_first u rest p e) ∙ h)))

    at_first : Again → (b : Bool) → same_path u.body.start.path p ≡ b → each (p ∷ seen) (u ∷ rest) ≡ each seen (u ∷ rest)
    at_first again true e = let k : None ≡ Some u = sym h ∙ find_found u rest p e in absurd cc
    at_first again false e = there again e (is_among seen u.body.start.path) refl

-- a task that goes on counts as before
pub goes_counted : {S : Type 0} (ts : List (Task S)) (t u : Task S) → u.body.start.path ≡ t.body.start.path → find ts t.body.start.path ≡ Some t → each [] (u ∷ ts) ≡ each [] ts
goes_counted ts t u e h = subst (λ (q : List ℕ). 1 + each (q ∷ []) ts ≡ each [] ts) (sym e) (sym (known ts t.body.start.path t [] h refl))

-- and with a new task there is one more
pub grows_counted : {S : Type 0} (ts : List (Task S)) (t u n : Task S) → u.body.start.path ≡ t.body.start.path → find ts t.body.start.path ≡ Some t → find ts n.body.start.path ≡ None
    → same_path t.body.start.path n.body.start.path ≡ false → each [] (u ∷ n ∷ ts) ≡ 1 + each [] ts
grows_counted ts t u n e h k d =
    subst (λ (q : List ℕ). 1 + each (q ∷ []) (n ∷ ts) ≡ 1 + each [] ts) (sym e)
    (rw d (ap (λ (x : ℕ). 1 + x) (ap (λ (x : ℕ). 1 + x) (unknown ts n.body.start.path (t.body.start.path ∷ []) k) ∙ sym (known ts t.body.start.path t [] h refl))))
