-- What is kept follows the acts of a run, one by one.
use Rattle.std.proofs.Common.{◌≡◌, ℕ, ◌+◌, ◌<◌, ◌≤◌, ◌⊎◌, inl, inr, refl, sym, subst, ap, ◌∙◌, List, [], ◌∷◌, ◌++◌, reverse, arith, Bool, true, false}
use Rattle.std.specs.Prelude.{◌||◌}
use Rattle.std.proofs.lemmas.List.{reverse-append}
use Rattle.oss_model.specs.Bodies.{Act, Order}
use Rattle.oss_model.specs.Bodies.Act.{Created, Ended}
use Rattle.oss_model.specs.Order.{IsIn, IsSuffix, whole, longer}
use Rattle.oss_machine.specs.Frames.{CodeScript}
use Rattle.oss_body.specs.declared.act.Act.{Act as CodeAct}
use Rattle.oss_body.specs.declared.act.Act.TheVariants as acts
use Rattle.oss_body.specs.Acts.{act_seen}
use Rattle.oss_audit.specs.declared.begun.Begun.{Begun}
use Rattle.oss_audit.specs.declared.unused.Unused.{Unused}
use Rattle.oss_audit.specs.declared.watch.Watch.{Watch}
use Rattle.oss_pieces.specs.CellSets.{has}
use Rattle.oss_audit.specs.Following.{AreOnWay, IsFollowing, IsOnWay, TellsTouched, at_child, at_main}
use Rattle.oss_audit.specs.Trails.{Declared, Declares, Place, Touched, above, place_of, touches}
use Rattle.oss_audit.specs.Unused.{Rises}
use Rattle.oss_audit.specs.Watches.{IsBegun, IsChild, IsEnded, IsFirst, IsNoted, IsTaken}
use Rattle.oss_audit.proofs.PathLemmas.{child_point, not_below, one_way}
use Rattle.oss_audit.proofs.TakenLemmas.{taken_on_way}
use Rattle.oss_audit.proofs.WayLemmas.{above_more, on_way_more, tells_as, tells_below, way_as}

never : {A : Type 0} → false ≡ true → A
never e = cc

nothing : {A : Type 0} {u : Unused} → IsIn u [] → A
nothing h = absurd (elim h [ ])

three : (a b : Bool) → (a || (b || false)) ≡ ((a || b) || false)
three true b = refl
three false b = refl

two : (a b : Bool) → (a || (b || false)) ≡ ((a || b) || false)
two true b = refl
two false b = refl

none_or : (a : Bool) → a ≡ false → false ≡ (a || false)
none_or a e = rw e refl

is_none : (a : Bool) → a ≡ false → (a || false) ≡ true → ⊥
is_none true e h = never (sym e)
is_none false e h = never h

above_main : (q : List ℕ) (n : ℕ) → q ≡ [] → above q n ≡ record { path = q; created = n }
above_main [] n e = refl
above_main (k ∷ q) n e = absurd cc

module _ {S : Type 0} where
  -- At the beginning

  first_on_way : (b : Begun) → IsFirst b → IsOnWay {S = S} [] b [] 0
  first_on_way b f =
      record {
        point = f.point;
        declared = λ c h. never (sym (f.declared c) ∙ h);
        all_declared = λ c h. absurd h;
        fresh = λ j r c l s h. none r c h;
        rises = subst Rises (sym f.told) tt;
        below = λ u i. nothing (subst (λ (xs : List Unused). IsIn u xs) f.told i);
        only = λ j r c l s t. absurd (omega (arith, l));
        all = λ j r c l s d m. absurd d;
      }
    where
      none : (r : List ℕ) (c : ℕ) → Declared {S = S} [] r c ⊎ Touched {S = S} [] r c → ⊥
      none r c (inl h) = absurd h
      none r c (inr h) = absurd h

  first_way : (b : Begun) → IsFirst b → AreOnWay {S = S} [] (λ c. false) [] 0 (b ∷ [])
  first_way b f = at_main (first_on_way b f) (record { so = λ c l h. absurd (is_none (has b.touched c) (f.touched c) h); all = λ c l h. absurd h })

  pub first_follows : (w : Watch) → IsFirst w.top → w.above ≡ [] → IsFollowing {S = S} [] w
  first_follows w f e = record { created = f.created; way = subst (λ (xs : List Begun). AreOnWay {S = S} [] (λ c. false) [] 0 (w.top ∷ reverse xs)) (sym e) (first_way w.top f) }

  -- An act that leaves the task the one that acts

  module _ (trail : List (Act S)) (a : Act S) (declares : (r : List ℕ) (c : ℕ) → Declares a (place_of trail) r c → ⊥) where
    stays : IsSuffix (place_of trail).path (place_of trail).path
    stays = whole

    retold : (b n : Begun) (q : List ℕ) (closed : ℕ) → n ≡ record b { touched = n.touched } → IsOnWay (a ∷ trail) b q closed → IsOnWay (a ∷ trail) n q closed
    retold b n q closed e h =
        subst (λ (x : Begun). IsOnWay (a ∷ trail) x q closed) (sym e)
        (record { point = h.point; declared = h.declared; all_declared = h.all_declared; fresh = h.fresh; rises = h.rises; below = h.below; only = h.only; all = h.all })

    top_on_way : (b n : Begun) (closed : ℕ) → n ≡ record b { touched = n.touched } → IsOnWay trail b (place_of trail).path closed → IsOnWay (a ∷ trail) n (place_of trail).path closed
    top_on_way b n closed e h =
        retold b n (place_of trail).path closed e
        (on_way_more trail a (place_of trail).path stays (λ r c k. absurd (declares r c k)) b (place_of trail).path closed b.created (omega arith) (λ j s. absurd (not_below s)) (λ c k. declares (place_of trail).path c k) h)

    top_tells : (b n : Begun) → ((c : ℕ) → c < 1048576 → has n.touched c ≡ (touches a c || has b.touched c)) → TellsTouched trail (place_of trail).path (λ c. has b.touched c || false)
        → TellsTouched (a ∷ trail) (place_of trail).path (λ c. has n.touched c || false)
    top_tells b n t h =
        tells_as (a ∷ trail) (place_of trail).path (λ c. has b.touched c || (touches a c || false)) (λ c. has n.touched c || false) (λ c l. swap (touches a c) (has b.touched c) ∙ ap (λ (x : Bool). x || false) (sym (t c l)))
        (tells_below trail a (place_of trail).path stays (λ r c k. absurd (declares r c k)) b (place_of trail).path (λ c. false) whole h)
      where
        swap : (x y : Bool) → (y || (x || false)) ≡ ((x || y) || false)
        swap true true = refl
        swap true false = refl
        swap false true = refl
        swap false false = refl

    plain_way : {p : List ℕ} {closed : ℕ} {rest : List Begun} (b n : Begun) → (place_of trail).path ≡ p → n ≡ record b { touched = n.touched } → ((c : ℕ) → c < 1048576 → has n.touched c ≡ (touches a c || has b.touched c))
        → AreOnWay trail (λ c. false) p closed (b ∷ rest) → AreOnWay (a ∷ trail) (λ c. false) p closed (n ∷ rest)
    plain_way b n e same t (at_main {closed = closed} h k) =
        at_main
        (subst (λ (x : List ℕ). IsOnWay (a ∷ trail) n x closed) e (top_on_way b n closed same (subst (λ (x : List ℕ). IsOnWay trail b x closed) (sym e) h)))
        (subst (λ (x : List ℕ). TellsTouched (a ∷ trail) x (λ c. has n.touched c || false)) e (top_tells b n t (subst (λ (x : List ℕ). TellsTouched trail x (λ c. has b.touched c || false)) (sym e) k)))
    plain_way b n e same t (at_child {k = k} {q = q} {closed = closed} h v m rest) =
        let s : IsSuffix (k ∷ q) (place_of trail).path = subst (λ (x : List ℕ). IsSuffix (k ∷ q) x) (sym e) whole in
        let g : IsSuffix q (place_of trail).path = subst (λ (x : List ℕ). IsSuffix q x) (sym e) (longer whole) in
        at_child
        (subst (λ (x : List ℕ). IsOnWay (a ∷ trail) n x closed) e (top_on_way b n closed same (subst (λ (x : List ℕ). IsOnWay trail b x closed) (sym e) h)))
        (subst (λ (x : List ℕ). TellsTouched (a ∷ trail) x (λ c. has n.touched c || false)) e (top_tells b n t (subst (λ (x : List ℕ). TellsTouched trail x (λ c. has b.touched c || false)) (sym e) v)))
        m
        (way_as (a ∷ trail) (λ c l. two (touches a c) (has b.touched c) ∙ ap (λ (x : Bool). x || false) (sym (t c l)))
        (above_more trail a (place_of trail).path stays (λ r c x. absurd (declares r c x)) k m s g rest))

    pub plain_follows : (w n : Watch) → place_of (a ∷ trail) ≡ place_of trail → ((c : ℕ) → c < 1048576 → has n.top.touched c ≡ (touches a c || has w.top.touched c))
        → n ≡ record w { top = record w.top { touched = n.top.touched } } → IsFollowing trail w → IsFollowing (a ∷ trail) n
    plain_follows w n e t same f =
        let top : n.top ≡ record w.top { touched = n.top.touched } = ap (λ (x : Watch). x.top) same in
        let rest : n.above ≡ w.above = ap (λ (x : Watch). x.above) same in
        let way : AreOnWay (a ∷ trail) (λ c. false) (place_of trail).path (place_of trail).created (n.top ∷ reverse w.above) = plain_way w.top n.top refl top t f.way in
        record {
          created = ap (λ (x : Begun). x.created) top ∙ f.created ∙ ap (λ (x : Place). x.created) (sym e);
          way = subst (λ (x : Place). AreOnWay (a ∷ trail) (λ c. false) x.path x.created (n.top ∷ reverse n.above)) (sym e)
              (subst (λ (xs : List Begun). AreOnWay (a ∷ trail) (λ c. false) (place_of trail).path (place_of trail).created (n.top ∷ reverse xs)) (sym rest) way);
        }

    -- an act of which nothing is kept
    pub silent_follows : (w n : Watch) → place_of (a ∷ trail) ≡ place_of trail → ((c : ℕ) → touches a c ≡ false) → n ≡ w → IsFollowing trail w → IsFollowing (a ∷ trail) n
    silent_follows w n e t same f =
        subst (λ (x : Watch). IsFollowing (a ∷ trail) x) (sym same) (plain_follows w w e (λ c l. ap (λ (x : Bool). x || has w.top.touched c) (sym (t c))) refl f)

  -- A creation

  module _ (trail : List (Act S)) (o : Order S) (included : Bool) where
    abbrev p : List ℕ
    p = (place_of trail).path

    abbrev count : ℕ
    count = (place_of trail).created

    further : IsSuffix p (count ∷ p)
    further = longer whole

    declares_new : (r : List ℕ) (c : ℕ) → Declares (Created o included) (place_of trail) r c → r ≡ count ∷ p
    declares_new r c h = h.0

    creator_on_way : (b : Begun) → b.created ≡ count → IsOnWay trail b p count → IsOnWay (Created o included ∷ trail) (record b { created = count + 1 }) p count
    creator_on_way b e h =
        on_way_more trail (Created o included) (count ∷ p) further declares_new b p count (count + 1) (omega (arith, e)) lane (λ c k. not_self k.0) h
      where
        lane : (j : ℕ) → IsSuffix (j ∷ p) (count ∷ p) → (count ≤ j) × (j < count + 1)
        lane j s = let g : j ≡ count = one_way j count s whole in (omega (arith, g), omega (arith, g))

        not_self : p ≡ count ∷ p → ⊥
        not_self k = not_below (subst (λ (x : List ℕ). IsSuffix (count ∷ p) x) (sym k) whole)

    child_on_way : (b child : Begun) → b.created ≡ count → IsOnWay trail b p count → IsChild b o.clauses child → IsOnWay (Created o included ∷ trail) child (count ∷ p) 0
    child_on_way b child e h k =
        record {
          point = k.point ∙ (λ i. h.point i ++ e i ∷ []) ∙ child_point p count;
          declared = λ c m. inl (refl, sym (k.declared c) ∙ m);
          all_declared = λ c m. all c m;
          fresh = λ j r c l s m. none j r c s m;
          rises = subst Rises (sym k.told) tt;
          below = λ u i. nothing (subst (λ (xs : List Unused). IsIn u xs) k.told i);
          only = λ j r c l s t. absurd (omega (arith, l));
          all = λ j r c l s d m. absurd (omega (arith, l));
        }
      where
        old : (r : List ℕ) (c : ℕ) → IsSuffix (count ∷ p) r → Declared trail r c ⊎ Touched trail r c → ⊥
        old r c s m = h.fresh count r c (omega (arith, e)) s m

        all : (c : ℕ) → Declared (Created o included ∷ trail) (count ∷ p) c → has child.declared c ≡ true
        all c (inl m) = k.declared c ∙ m.1
        all c (inr m) = absurd (old (count ∷ p) c whole (inl m))

        up : {j : ℕ} {r : List ℕ} → IsSuffix (j ∷ count ∷ p) r → IsSuffix (count ∷ p) r
        up whole = longer whole
        up (longer s) = longer (up s)

        none : (j : ℕ) (r : List ℕ) (c : ℕ) → IsSuffix (j ∷ count ∷ p) r → Declared (Created o included ∷ trail) r c ⊎ Touched (Created o included ∷ trail) r c → ⊥
        none j r c s (inl (inl m)) = not_below (subst (λ (x : List ℕ). IsSuffix (j ∷ count ∷ p) x) m.0 s)
        none j r c s (inl (inr m)) = old r c (up s) (inl m)
        none j r c s (inr (inl m)) = never m.0
        none j r c s (inr (inr m)) = old r c (up s) (inr m)

    child_tells : (b child : Begun) → b.created ≡ count → IsOnWay trail b p count → IsChild b o.clauses child → TellsTouched (Created o included ∷ trail) (count ∷ p) (λ c. has child.touched c || false)
    child_tells b child e h k = record { so = λ c l m. absurd (is_none (has child.touched c) (k.touched c) m); all = λ c l m. none c m }
      where
        none : (c : ℕ) → Touched (Created o included ∷ trail) (count ∷ p) c → (has child.touched c || false) ≡ true
        none c (inl m) = never m.0
        none c (inr m) = absurd (h.fresh count (count ∷ p) c (omega (arith, e)) whole (inr m))

    creator_tells : (b : Begun) (q : List ℕ) → p ≡ q → TellsTouched trail q (λ c. has b.touched c || false) → TellsTouched (Created o included ∷ trail) q (λ c. has b.touched c || false)
    creator_tells b q e t =
        tells_below trail (Created o included) (count ∷ p) further declares_new b q (λ c. false) (subst (λ (x : List ℕ). IsSuffix q x) (sym e) whole) t

    created_way : {q : List ℕ} {closed : ℕ} {rest : List Begun} (b : Begun) → p ≡ q → count ≡ closed → b.created ≡ count → AreOnWay trail (λ c. false) q closed (b ∷ rest)
        → AreOnWay (Created o included ∷ trail) (λ c. false) q closed (record b { created = count + 1 } ∷ rest)
    created_way b e n m (at_main {closed = closed} h t) =
        at_main
        (subst (λ (x : List ℕ). IsOnWay (Created o included ∷ trail) (record b { created = count + 1 }) x closed) e
        (subst (λ (x : ℕ). IsOnWay (Created o included ∷ trail) (record b { created = count + 1 }) p x) n
        (creator_on_way b m (subst (λ (x : ℕ). IsOnWay trail b p x) (sym n) (subst (λ (x : List ℕ). IsOnWay trail b x closed) (sym e) h)))))
        (creator_tells b [] e t)
    created_way b e n m (at_child {k = k} {q = q} {closed = closed} h t d rest) =
        let s : IsSuffix (k ∷ q) (count ∷ p) = subst (λ (x : List ℕ). IsSuffix (k ∷ q) (count ∷ x)) (sym e) (longer whole) in
        let g : IsSuffix q p = subst (λ (x : List ℕ). IsSuffix q x) (sym e) (longer whole) in
        at_child
        (subst (λ (x : List ℕ). IsOnWay (Created o included ∷ trail) (record b { created = count + 1 }) x closed) e
        (subst (λ (x : ℕ). IsOnWay (Created o included ∷ trail) (record b { created = count + 1 }) p x) n
        (creator_on_way b m (subst (λ (x : ℕ). IsOnWay trail b p x) (sym n) (subst (λ (x : List ℕ). IsOnWay trail b x closed) (sym e) h)))))
        (creator_tells b (k ∷ q) e t) d
        (above_more trail (Created o included) (count ∷ p) further declares_new k d s g rest)

    own_of : {q : List ℕ} {closed : ℕ} {rest : List Begun} (b : Begun) → AreOnWay trail (λ c. false) q closed (b ∷ rest) → IsOnWay trail b q closed
    own_of b (at_main h t) = h
    own_of b (at_child h t d rest) = h

    pub created_follows : (w n : Watch) → IsBegun o.clauses w n → IsFollowing trail w → IsFollowing (Created o included ∷ trail) n
    created_follows w n g f =
        let h : IsOnWay trail w.top p count = own_of w.top f.way in
        let creator : Begun = record w.top { created = count + 1 } in
        let up : record w.top { created = w.top.created + 1 } ≡ creator = ap (λ (x : ℕ). record w.top { created = x + 1 }) f.created in
        let list : reverse n.above ≡ creator ∷ reverse w.above =
        ap (λ (xs : List Begun). reverse xs) g.above ∙ reverse-append w.above (record w.top { created = w.top.created + 1 } ∷ []) ∙ ap (λ (x : Begun). x ∷ reverse w.above) up in
        let rest : AreOnWay (Created o included ∷ trail) (λ c. has n.top.touched c || false) p count (creator ∷ reverse w.above) =
        way_as (Created o included ∷ trail) (λ c l. none_or (has n.top.touched c) (g.child.touched c)) (created_way w.top refl refl f.created f.way) in
        let way : AreOnWay (Created o included ∷ trail) (λ c. false) (count ∷ p) 0 (n.top ∷ creator ∷ reverse w.above) =
        at_child (child_on_way w.top n.top f.created h g.child) (child_tells w.top n.top f.created h g.child) refl rest in
        record { created = g.child.created; way = subst (λ (xs : List Begun). AreOnWay (Created o included ∷ trail) (λ c. false) (count ∷ p) 0 (n.top ∷ xs)) (sym list) way }

  -- An end

  main_path : (trail : List (Act S)) {f : ℕ → Bool} {p : List ℕ} {closed : ℕ} (b : Begun) → AreOnWay trail f p closed (b ∷ []) → p ≡ []
  main_path trail b (at_main h t) = refl

  module _ (trail : List (Act S)) where
    abbrev ending : Act S
    ending = Ended

    no_declare : (r : List ℕ) (c : ℕ) → Declares ending (place_of trail) r c → ⊥
    no_declare r c h = h

    -- what an end leads to
    record Up (n : Begun) (p : List ℕ) (rest : List Begun) : Type 0 where
      number : ℕ
      path : List ℕ
      whole_path : p ≡ number ∷ path
      count : n.created ≡ number + 1
      way : AreOnWay (ending ∷ trail) (λ c. false) path (number + 1) (n ∷ rest)

    -- the creator goes on
    up_way : {p : List ℕ} {closed : ℕ} {rest : List Begun} (b a n : Begun) → b.created ≡ closed → IsTaken a b n → AreOnWay (ending ∷ trail) (λ c. false) p closed (b ∷ a ∷ rest) → Up n p rest
    up_way b a n e t (at_child {k = k} {q = []} {closed = closed} h v d (at_main ha ta)) =
        record {
          number = k;
          path = [];
          whole_path = refl;
          count = t.created ∙ d;
          way =
              at_main (taken_on_way (ending ∷ trail) k [] closed b a n e d h v ha t)
              (tells_as (ending ∷ trail) [] (λ c. has a.touched c || (has b.touched c || false)) (λ c. has n.touched c || false) (λ c l. three (has a.touched c) (has b.touched c) ∙ ap (λ (x : Bool). x || false) (sym (t.touched c l))) ta);
        }
    up_way b a n e t (at_child {k = k} {q = j ∷ q} {closed = closed} h v d (at_child ha ta m more)) =
        record {
          number = k;
          path = j ∷ q;
          whole_path = refl;
          count = t.created ∙ d;
          way =
              at_child (taken_on_way (ending ∷ trail) k (j ∷ q) closed b a n e d h v ha t)
              (tells_as (ending ∷ trail) (j ∷ q) (λ c. has a.touched c || (has b.touched c || false)) (λ c. has n.touched c || false) (λ c l. three (has a.touched c) (has b.touched c) ∙ ap (λ (x : Bool). x || false) (sym (t.touched c l))) ta) m
              (way_as (ending ∷ trail) (λ c l. three (has a.touched c) (has b.touched c) ∙ ap (λ (x : Bool). x || false) (sym (t.touched c l))) more);
        }

    up_follows : (w n : Watch) → Up n.top (place_of trail).path (reverse n.above) → IsFollowing (ending ∷ trail) n
    up_follows w n u =
        let e : place_of (ending ∷ trail) ≡ record { path = u.path; created = u.number + 1 } = ap (λ (x : List ℕ). above x (place_of trail).created) u.whole_path in
        record {
          created = u.count ∙ ap (λ (x : Place). x.created) (sym e);
          way = subst (λ (x : Place). AreOnWay (ending ∷ trail) (λ c. false) x.path x.created (n.top ∷ reverse n.above)) (sym e) u.way;
        }

    pub ended_follows : (w n : Watch) → IsEnded w n → IsFollowing trail w → IsFollowing (ending ∷ trail) n
    ended_follows w n (inl (creator, e, t)) f =
        let list : reverse w.above ≡ creator ∷ reverse n.above = ap (λ (xs : List Begun). reverse xs) e ∙ reverse-append n.above (creator ∷ []) in
        let old : AreOnWay trail (λ c. false) (place_of trail).path (place_of trail).created (w.top ∷ creator ∷ reverse n.above) =
        subst (λ (xs : List Begun). AreOnWay trail (λ c. false) (place_of trail).path (place_of trail).created (w.top ∷ xs)) list f.way in
        up_follows w n (up_way w.top creator n.top f.created t (plain_way trail ending no_declare w.top w.top refl refl (λ c l. refl) old))
    ended_follows w n (inr (e, same)) f =
        let old : AreOnWay trail (λ c. false) (place_of trail).path (place_of trail).created (w.top ∷ []) =
        subst (λ (xs : List Begun). AreOnWay trail (λ c. false) (place_of trail).path (place_of trail).created (w.top ∷ reverse xs)) e f.way in
        silent_follows trail ending no_declare w n (above_main (place_of trail).path (place_of trail).created (main_path trail w.top old)) (λ c. refl) same f

-- What is kept follows an act of the code.
pub note_follows : (a : CodeAct) (w n : Watch) → IsNoted a w n → (trail : List (Act CodeScript)) → IsFollowing trail w → IsFollowing (act_seen a ∷ trail) n
note_follows (acts.Load c) w n h trail f = plain_follows trail (act_seen (acts.Load c)) (λ r d k. k) w n refl h.touched h.rest f
note_follows (acts.Store c v) w n h trail f = plain_follows trail (act_seen (acts.Store c v)) (λ r d k. k) w n refl h.touched h.rest f
note_follows (acts.Fold c op v slot) w n h trail f = plain_follows trail (act_seen (acts.Fold c op v slot)) (λ r d k. k) w n refl h.touched h.rest f
note_follows (acts.Create creation included) w n h trail f = created_follows trail _ included w n h f
note_follows acts.End w n h trail f = ended_follows trail w n h f
note_follows acts.Tick w n h trail f = silent_follows trail (act_seen acts.Tick) (λ r d k. k) w n refl (λ c. refl) h f
note_follows acts.Await w n h trail f = silent_follows trail (act_seen acts.Await) (λ r d k. k) w n refl (λ c. refl) h f
note_follows acts.Wait w n h trail f = silent_follows trail (act_seen acts.Wait) (λ r d k. k) w n refl (λ c. refl) h f
note_follows (acts.WaitOn ranges) w n h trail f = silent_follows trail (act_seen (acts.WaitOn ranges)) (λ r d k. k) w n refl (λ c. refl) h f
note_follows (acts.Release clauses included) w n h trail f = silent_follows trail (act_seen (acts.Release clauses included)) (λ r d k. k) w n refl (λ c. refl) h f
note_follows (acts.Print key text) w n h trail f = silent_follows trail (act_seen (acts.Print key text)) (λ r d k. k) w n refl (λ c. refl) h f
note_follows (acts.Fault kind line key) w n h trail f = silent_follows trail (act_seen (acts.Fault kind line key)) (λ r d k. k) w n refl (λ c. refl) h f
