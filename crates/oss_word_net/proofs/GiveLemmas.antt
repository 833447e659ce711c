-- A give of an entry with no child, and the two steps of one with children.
use Rattle.std.proofs.Common.{◌≡◌, ◌≢◌, ◌⊎◌, inl, inr, sym, subst, refl, ◌∙◌, ap, ℕ, ◌<◌, ◌+◌, ◌*◌, ◌%◌, ◌^◌, arith, Bool, true, false, ◌==◌, cond, List, [], ◌∷◌, ◌++◌, set}
use Rattle.std.specs.Prelude.{slice_index}
use Rattle.std.proofs.lemmas.Bool.Decides.{eqb_tells}
use Rattle.atomic_table.specs.Table.{step}
use mathlib.Core.Option as maybe
use Rattle.oss_words.specs.declared.entry.EntryState.{EntryState}
use Rattle.oss_words.specs.declared.entry.EntryInfo.{EntryInfo}
use Rattle.oss_words.specs.Bits.{state_word, FitsWord}
use Rattle.oss_words.specs.Causes.{sent}
use Rattle.oss_words.specs.Net.{Place, apart, first, after, Child, Earlier, next, back}
use Rattle.oss_words.specs.SeatSteps.{NotesGive, NotesNothing}
use Rattle.oss_words.specs.Steps as steps
use Rattle.oss_words.specs.Views.{Among}
use Rattle.oss_words.proofs.CauseLemmas.{clash}
use Rattle.oss_words.proofs.KnowLemmas.{no_child_hangs, not_given, childless_unheaded, ungiven_undone}
use Rattle.oss_words.proofs.NetLemmas.{child_parent, child_hangs}
use Rattle.oss_words.proofs.RuleLaw.{rule_give, rule_begin, rule_rise}
use Rattle.oss_word_net.specs.declared.sight.Sight.{Sight}
use Rattle.oss_word_net.specs.Asks.{MayGive}
use Rattle.oss_word_net.specs.Known.{Kin}
use Rattle.oss_word_net.specs.Moves.{gave_up, half_gave, rose}
use Rattle.oss_word_net.specs.Plays.{Gives, Begins, Rises}
use Rattle.oss_word_net.specs.Table.{states_of, infos_of, views_of, Sits, Neat, Stands}
use Rattle.oss_word_net.proofs.DeliverLemmas.{bounded}
use Rattle.oss_word_net.proofs.ReadLemmas.{named, child_of, own_child, clashes, after_hangs}
use Rattle.oss_word_net.proofs.TableLemmas.{view_at, at_here, Steps}
use Rattle.oss_word_net.proofs.WordLemmas.{num_off, parts_fit, added, after as behind, here, apart_from, hung_stands, knows_on}

-- the gives with one more
abbrev more : (ℕ → Bool) → ℕ → ℕ → Bool
more gave e j = cond (j == e) true (gave j)

more_up : (gave : ℕ → Bool) (e : ℕ) → steps.GivesUp gave (more gave e) e
more_up gave e = record { now = here_is (e == e) (eqb_tells e e); same = λ j ne. else_is j ne (j == e) (eqb_tells j e) }
  where
    here_is : (b : Bool) → ((b ≡ true) × (e ≡ e)) ⊎ ((b ≡ false) × (e ≢ e)) → cond b true (gave e) ≡ true
    here_is true t = refl
    here_is false (inl t) = absurd (clash t.0 refl)
    here_is false (inr t) = absurd (t.1 refl)

    else_is : (j : ℕ) → j ≢ e → (b : Bool) → ((b ≡ true) × (j ≡ e)) ⊎ ((b ≡ false) × (j ≢ e)) → cond b true (gave j) ≡ gave j
    else_is j ne true (inl t) = absurd (ne t.1)
    else_is j ne true (inr t) = absurd (clash refl t.0)
    else_is j ne false t = refl

module _ (n id : ℕ) (s : Sight) (e : ℕ) (may : MayGive n s.known e) where
  module _ (ws : List ℕ) (sights : List Sight) (stands : Stands n ws sights) (at : Sits sights id s) where
    abbrev a : EntryState
    a = states_of ws e

    inside : e < n
    inside = (stands.rule.seats.owned_drawn id s.known.view (view_at sights id s at) e may.own).1

    hung : stands.net.place e ≢ apart
    hung = let q = stands.rule.seats.named_link id s.known.view (view_at sights id s at) (record { entry = e; place = may.place }) may.linked in clashes (stands.net.place e) may.place q.0 q.1

    open_yet : a.given ≡ false
    open_yet = not_given n (slice_index ws 0) stands.net stands.gave (states_of ws) (infos_of ws) (views_of sights) stands.rule id s.known.view e (view_at sights id s at) may.own may.ungiven

    undone : a.done ≡ false
    undone = ungiven_undone n (slice_index ws 0) stands.net stands.gave (states_of ws) (infos_of ws) (views_of sights) stands.rule e inside open_yet

  pub gives : (i : EntryInfo) → Among (record { entry = e; info = i }) s.known.told → ((j : ℕ) → Among (record { entry = j; place = first e }) s.known.view.links → ⊥)
      → Steps n id s (1 + 2 * e) (λ x. (x + 24) % 2 ^ 64) (Gives (step 0 (1 + 2 * e) 24 0 maybe.none) (s, []))
  gives i told none ws sights stands at =
      let x : ℕ = slice_index ws (1 + 2 * e) in
      let l = inside ws sights stands at in
      let u = open_yet ws sights stands at in
      let d = undone ws sights stands at in
      let old : EntryState = states_of ws e in
      let c : EntryState = record old { given = true; done = true } in
      let fits : FitsWord c = record { next = (parts_fit x).next; child = (parts_fit x).child } in
      let neat : Neat c = record { next = (stands.neat e).next; child = (stands.neat e).child; left = (stands.neat e).left } in
      let sum = added old c x 24 (stands.whole e) (let p = num_off old.given u in let q = num_off old.done d in omega (arith, p, q)) fits in
      let s' : Sight = record { known = gave_up e i x s.known } in
      let is = (stands.knows id s at).told (record { entry = e; info = i }) told in
      let now = here n ws sights stands id s s' at e l c fits neat in
      let childless = childless_unheaded n (slice_index ws 0) stands.net stands.gave (states_of ws) (infos_of ws) (views_of sights) stands.rule e l
      (no_child_hangs n (slice_index ws 0) stands.net stands.gave (states_of ws) (infos_of ws) (views_of sights) stands.rule id s.known.view e (view_at sights id s at) may.own none) in
      let step_is : steps.Gives (states_of ws) (states_of (behind n ws sights stands id s s' at e l c fits neat)) (infos_of ws) e s.known.view s'.known.view = record {
        empty = may.empty;
        full = may.whole;
        childless = childless;
        stays = (stands.neat e).left;
        sets = now;
        others = apart_from n ws sights stands id s s' at e l c fits neat;
        sends = λ k. sent e old ((sum.1 ∙ sym now) k) (sym is.1 k);
        whole = may.whole;
      } in
      let notes : NotesGive e s.known.view s'.known.view = record { own = may.own; owned = refl; links = refl; gives = refl; seen = refl; delivered = refl; parts = refl; splits = refl; failed = refl } in
      let rule = rule_give n stands.net stands.gave (states_of ws) (states_of (behind n ws sights stands id s s' at e l c fits neat)) (infos_of ws) (slice_index ws 0) (views_of sights) id s.known.view s'.known.view stands.rule (view_at sights id s at) (more stands.gave e) e l (more_up stands.gave e) notes (hung ws sights stands at) step_is in
      let knows = knows_on n ws sights stands id s s' at e l c fits neat (hung ws sights stands at) refl refl refl refl refl (λ z. absurd (may.live z)) in
      let new = hung_stands n ws sights stands id s s' at e l c fits neat (more stands.gave e) rule (hung ws sights stands at) knows refl refl refl in (
        s',
        subst (λ (y : ℕ). Stands n (set ws (1 + 2 * e) y) (set sights id s')) (sym sum.0) new,
        (
          refl,
          bounded n (set ws (1 + 2 * e) (state_word c)) (set sights id s') new id s' (at_here sights id s s' at) may.size,
          (sum.2, ap (λ (z : EntryState). z.left) sum.1 ∙ neat.left),
          (λ f j p t.
              let q : e ≡ f = omega (arith, p) in
              let info : i ≡ j = sym is.1 ∙ ap (λ (z : ℕ). infos_of ws z) q ∙ ((stands.knows id s at).told (record { entry = f; info = j }) t).1 in
              λ k. gave_up (q k) (info k) x s.known),
        ),
      )

  pub begins : (c : ℕ) → Among (record { entry = c; place = first e }) s.known.view.links
      → Steps n id s (1 + 2 * e) (λ x. (x + 8) % 2 ^ 64) (Begins (step 0 (1 + 2 * e) 8 0 maybe.none) (s, []))
  begins child told ws sights stands at =
      let x : ℕ = slice_index ws (1 + 2 * e) in
      let l = inside ws sights stands at in
      let u = open_yet ws sights stands at in
      let old : EntryState = states_of ws e in
      let c : EntryState = record old { given = true } in
      let fits : FitsWord c = record { next = (parts_fit x).next; child = (parts_fit x).child } in
      let neat : Neat c = record { next = (stands.neat e).next; child = (stands.neat e).child; left = (stands.neat e).left } in
      let sum = added old c x 8 (stands.whole e) (let p = num_off old.given u in omega (arith, p)) fits in
      let s' : Sight = record { known = half_gave e x s.known } in
      let now = here n ws sights stands id s s' at e l c fits neat in
      let headed = (stands.rule.kept.flow.words.hung_first e child (named n ws sights stands id s at (record { entry = child; place = first e }) told)).1 in
      let step_is : steps.Begins (states_of ws) (states_of (behind n ws sights stands id s s' at e l c fits neat)) e s.known.view s'.known.view = record {
        empty = may.empty;
        full = may.whole;
        stays = (stands.neat e).left;
        sets = now;
        others = apart_from n ws sights stands id s s' at e l c fits neat;
        sends = may.empty;
        whole = refl;
      } in
      let notes : NotesGive e s.known.view s'.known.view = record { own = may.own; owned = refl; links = refl; gives = refl; seen = refl; delivered = refl; parts = refl; splits = refl; failed = refl } in
      let rule = rule_begin n stands.net stands.gave (states_of ws) (states_of (behind n ws sights stands id s s' at e l c fits neat)) (infos_of ws) (slice_index ws 0) (views_of sights) id s.known.view s'.known.view stands.rule (view_at sights id s at) (more stands.gave e) e l (more_up stands.gave e) notes (hung ws sights stands at) headed u step_is in
      let knows = knows_on n ws sights stands id s s' at e l c fits neat (hung ws sights stands at) refl refl refl refl refl (λ z. absurd (may.live z)) in
      let new = hung_stands n ws sights stands id s s' at e l c fits neat (more stands.gave e) rule (hung ws sights stands at) knows refl refl refl in (
        s',
        subst (λ (y : ℕ). Stands n (set ws (1 + 2 * e) y) (set sights id s')) (sym sum.0) new,
        (refl, λ f p. let q : e ≡ f = omega (arith, p) in ap (λ (z : ℕ). half_gave z x s.known) q),
      )

-- behind an earlier sibling something hangs
pub some_behind : (place : ℕ → Place) (s e : ℕ) → Earlier place s e → (j : ℕ) × (place j ≡ after s)
some_behind place s e (next p) = (e, p)
some_behind place s e (back {t} p r) = some_behind place s t r

module _ (n id : ℕ) (s : Sight) (e l : ℕ) (i : EntryInfo) (full : s.known.view.half ≡ e ∷ []) (own : Among e s.known.view.owned) (kin : Kin s.known.view.links e l)
    (none : (j : ℕ) → Among (record { entry = j; place = after l }) s.known.view.links → ⊥) (told : Among (record { entry = l; info = i }) s.known.told) (live : s.known.view.parts ≢ 0) (size : s.known.entries ≡ n) where
  module _ (ws : List ℕ) (sights : List Sight) (stands : Stands n ws sights) (at : Sits sights id s) where
    child : Child stands.net.place e l
    child = child_of n ws sights stands id s at e l kin

    last_is : stands.net.last e ≡ l
    last_is = elim (stands.rule.kept.flow.words.shaped.youngest e l child) [
      | inl q ↦ sym q
      | inr r ↦
          let j = some_behind stands.net.place l (stands.net.last e) r in
          let shaped = stands.rule.kept.flow.words.shaped in
          let up = (shaped.level j.0 l (shaped.behind l j.0 j.1)).1 ∙ child_parent stands.net shaped e l child in
          absurd (none j.0 (subst (λ (z : Place). Among (record { entry = j.0; place = z }) s.known.view.links) j.1 (own_child n ws sights stands id s at e j.0 own (clashes (stands.net.place j.0) (after l) j.1 (after_hangs l)) up)))
    ]

  pub rises : Steps n id s (1 + 2 * l) (λ x. (x + (64 + 65536 * e)) % 2 ^ 64) (Rises (step 0 (1 + 2 * l) (64 + 65536 * e) 0 maybe.none) (s, []))
  rises ws sights stands at =
      let x : ℕ = slice_index ws (1 + 2 * l) in
      let last = last_is ws sights stands at in
      let half = stands.rule.kept.flow.words.halves id s.known.view (view_at sights id s at) e [] full in
      let old : EntryState = states_of ws l in
      let unlinked : old.linked ≡ false = subst (λ (z : ℕ). (states_of ws z).linked ≡ false) last half.unlinked in
      let inside : l < n = subst (λ (z : ℕ). z < n) last half.inside_last in
      let hung : stands.net.place l ≢ apart = child_hangs stands.net e l (child ws sights stands at) in
      let c : EntryState = record old { linked = true; next = e } in
      let fits : FitsWord c = record { next = (let p = half.inside in let q = stands.rule.seats.size in omega (arith, p, q)); child = (parts_fit x).child } in
      let neat : Neat c = record { next = λ z. absurd (clash refl z); child = (stands.neat l).child; left = (stands.neat l).left } in
      let sum = added old c x (64 + 65536 * e) (stands.whole l) (let p = num_off old.linked unlinked in let q = ((stands.neat l).next unlinked).0 in omega (arith, p, q)) fits in
      let s' : Sight = record { known = rose e l i x s.known } in
      let is = (stands.knows id s at).told (record { entry = l; info = i }) told in
      let now = here n ws sights stands id s s' at l inside c fits neat in
      let after_is : ℕ → EntryState = states_of (behind n ws sights stands id s s' at l inside c fits neat) in
      let step_is : steps.Rises stands.net (states_of ws) after_is (infos_of ws) e s.known.view s'.known.view = subst (λ (z : ℕ). (after_is z ≡ record (states_of ws z) { linked = true; next = e }) → ((j : ℕ) → j ≢ z → after_is j ≡ states_of ws j) → (s'.known.view.held ≡ s.known.view.held ++ sent z (states_of ws z) (after_is z) (infos_of ws z)) → steps.Rises stands.net (states_of ws) after_is (infos_of ws) e s.known.view s'.known.view) last
      (λ sets others sends. record { full = full; sets = sets; others = others; sends = sends; whole = refl }) now (apart_from n ws sights stands id s s' at l inside c fits neat) (ap (λ z. s.known.view.held ++ z) (λ k. sent l old ((sum.1 ∙ sym now) k) (sym is.1 k))) in
      let notes : NotesNothing s.known.view s'.known.view = record { owned = refl; links = refl; gives = refl; seen = refl; delivered = refl; parts = refl; splits = refl; failed = refl } in
      let rule = rule_rise n stands.net stands.gave (states_of ws) after_is (infos_of ws) (slice_index ws 0) (views_of sights) id s.known.view s'.known.view stands.rule (view_at sights id s at) e step_is notes in
      let knows = knows_on n ws sights stands id s s' at l inside c fits neat hung refl refl refl refl refl (λ z. absurd (live z)) in
      let new = hung_stands n ws sights stands id s s' at l inside c fits neat stands.gave rule hung knows refl refl refl in (
        s',
        subst (λ (y : ℕ). Stands n (set ws (1 + 2 * l) y) (set sights id s')) (sym sum.0) new,
        (
          refl,
          bounded n (set ws (1 + 2 * l) (state_word c)) (set sights id s') new id s' (at_here sights id s s' at) size,
          (sum.2, ap (λ (z : EntryState). z.left) sum.1 ∙ neat.left),
          (λ f m j p r t.
              let q : l ≡ m = omega (arith, p) in
              let g : e ≡ f = omega (arith, r) in
              let info : i ≡ j = sym is.1 ∙ ap (λ (z : ℕ). infos_of ws z) q ∙ ((stands.knows id s at).told (record { entry = m; info = j }) t).1 in
              λ k. rose (g k) (q k) (info k) x s.known),
        ),
      )
