-- Open tasks stay nested: each act leaves each of them as deep as there are open tasks behind it.
use Rattle.std.proofs.Common.{◌≡◌, ℕ, ◌+◌, ◌-◌, refl, sym, ap, ◌∙◌, List, [], ◌∷◌, arith, Bool, true, false}
use Rattle.std.specs.Prelude.{if◌then◌else◌}
use Rattle.oss_model.specs.Context.{Context, child_context, right_of}
use Rattle.oss_model.specs.Rights.{Right}
use Rattle.oss_model.specs.Bodies.{Act, Frame, Order, Program, Start, after_creation, child_frame, frame_after, including_frame, lent_when, one_more_created, settled_frame, start_frame}
use Rattle.oss_model.specs.Bodies.Act.{Created, Ended}
use Rattle.oss_model.proofs.BodyLemmas.{settle_same}
use Rattle.oss_free_tasks.specs.OpenTasks.{AreNested, IsNested, behind, behind_act, behind_end}

module _ {S : Type 0} (P : Program S) (fuel : ℕ) where
  settled_nested : (f : Frame S) (older : List (Frame S)) → IsNested fuel f older → IsNested fuel (settled_frame P f) older
  settled_nested f older h =
      let k = settle_same P f in
      record { fuel_is = ap (λ (x : Context). x.fuel) k.context ∙ h.fuel_is; depth = ap (λ (x : Context). x.depth) k.context ∙ h.depth; path = k.path ∙ h.path }

  lent_fuel : (b : Bool) (given : ℕ → Right) (x : Context) → (lent_when b given x).fuel ≡ x.fuel
  lent_fuel true given x = refl
  lent_fuel false given x = refl

  lent_depth : (b : Bool) (given : ℕ → Right) (x : Context) → (lent_when b given x).depth ≡ x.depth
  lent_depth true given x = refl
  lent_depth false given x = refl

  lent_created : (b : Bool) (given : ℕ → Right) (x : Context) → (lent_when b given x).created ≡ x.created
  lent_created true given x = refl
  lent_created false given x = refl

  creator_nested : (o : Order S) (f : Frame S) (older : List (Frame S)) → IsNested fuel f older → IsNested fuel (after_creation o f) older
  creator_nested o f older h =
      let given = right_of (child_context f.context o.clauses o.last) in
      record {
        fuel_is = lent_fuel o.when given (one_more_created f.context) ∙ h.fuel_is;
        depth = lent_depth o.when given (one_more_created f.context) ∙ h.depth;
        path = h.path;
      }

  after_nested : (a : Act S) (v : ℕ) (f : Frame S) (older : List (Frame S)) → IsNested fuel f older → IsNested fuel (frame_after a v f) older
  after_nested (Created o i) v f older h = creator_nested o f older h
  after_nested _ v f older h = record { fuel_is = h.fuel_is; depth = h.depth; path = h.path }

  child_nested : (o : Order S) (f g : Frame S) (older : List (Frame S)) → IsNested fuel f older → g.context.created ≡ f.context.created + 1 → g.path ≡ f.path → IsNested fuel (child_frame f o) (g ∷ older)
  child_nested o f g older h c p =
      let d = h.depth in
      let e : f.context.created ≡ g.context.created - 1 = omega (arith, c) in
      record {
        fuel_is = h.fuel_is;
        depth = omega (arith, d);
        path = ap (λ (k : ℕ). k ∷ f.path) e ∙ ap (λ (q : List ℕ). (g.context.created - 1) ∷ q) (sym p);
      }

  chosen_nested : (b : Bool) (g : Frame S) (older : List (Frame S)) → IsNested fuel g older → IsNested fuel (if b then settled_frame P g else g) older
  chosen_nested true g older h = settled_nested g older h
  chosen_nested false g older h = h

  end_nested : (rest : List (Frame S)) → AreNested fuel rest → AreNested fuel (behind_end P rest)
  end_nested [] h = tt
  end_nested (g ∷ older) h = (chosen_nested g.context.final g older h.0, h.1)

  first_nested : (a : Act S) (v : ℕ) (f : Frame S) (rest : List (Frame S)) → IsNested fuel f rest → AreNested fuel rest → AreNested fuel (behind_act P a v f rest)
  first_nested Ended v f rest h hs = end_nested rest hs
  first_nested (Created o true) v f rest h hs =
      let g = including_frame o f in
      (settled_nested (child_frame f o) (g ∷ rest) (child_nested o f g rest h refl refl), (record { fuel_is = h.fuel_is; depth = h.depth; path = h.path }, hs))
  first_nested (Created o false) v f rest h hs =
      let given = right_of (child_context f.context o.clauses o.last) in
      let g = settled_frame P (after_creation o f) in
      let k = settle_same P (after_creation o f) in (
        settled_nested (child_frame f o) (g ∷ rest) (child_nested o f g rest h (ap (λ (x : Context). x.created) k.context ∙ lent_created o.when given (one_more_created f.context)) k.path),
        (settled_nested (after_creation o f) rest (creator_nested o f rest h), hs),
      )
  first_nested a v f rest h hs = (settled_nested (frame_after a v f) rest (after_nested a v f rest h), hs)

  pub behind_nested : (a : Act S) (v : ℕ) (tasks : List (Frame S)) → AreNested fuel tasks → AreNested fuel (behind P a v tasks)
  behind_nested a v [] h = tt
  behind_nested a v (f ∷ rest) h = first_nested a v f rest h.0 h.1

  pub start_nested : (main : Start S) → main.context.fuel ≡ fuel → main.context.depth ≡ 0 → main.path ≡ [] → AreNested fuel (settled_frame P (start_frame P main) ∷ [])
  start_nested main f d p = (settled_nested (start_frame P main) [] (record { fuel_is = f; depth = d; path = p }), tt)
