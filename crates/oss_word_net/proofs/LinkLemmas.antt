-- A link of a new entry behind a sibling, and as the first child of its parent.
use Rattle.std.proofs.Common.{◌≡◌, ◌≢◌, ◌⊎◌, inl, inr, sym, subst, refl, ◌∙◌, ap, ℕ, ◌<◌, ◌+◌, ◌*◌, ◌%◌, ◌^◌, arith, Bool, true, false, ◌&&◌, ◌==◌, List, [], ◌∷◌, set}
use Rattle.std.specs.Prelude.{slice_index}
use Rattle.std.proofs.lemmas.Bool.Decides.{eqb_tells}
use Rattle.atomic_table.specs.Table.{step}
use mathlib.Core.Option as maybe
use Rattle.oss_syntax.specs.declared.access.Mode.{Mode}
use Rattle.oss_syntax.specs.declared.access.Mode.TheVariants.{Read, Write, Fold}
use Rattle.oss_syntax.specs.declared.access.Op.{Op}
use Rattle.oss_words.specs.declared.entry.EntryState.{EntryState}
use Rattle.oss_words.specs.declared.entry.EntryInfo.{EntryInfo}
use Rattle.oss_words.specs.Bits.{state_word, FitsWord, mode_number, op_number, op_at}
use Rattle.oss_words.specs.Causes.{sent, is_fold}
use Rattle.oss_words.specs.Net.{Net, Place, apart, first, after, Adds, behind_last, below_parent}
use Rattle.oss_words.specs.SeatSteps.{NotesLink}
use Rattle.oss_words.specs.Steps.{no_flags, Blank, Links, to_sibling, to_child, Compares}
use Rattle.oss_words.specs.Views.{Among}
use Rattle.oss_syntax.specs.declared.access.Op.TheVariants.{Add, And, Or, Xor}
use Rattle.oss_words.proofs.CauseLemmas.{clash, and_true}
use Rattle.oss_words.proofs.KnowLemmas.{no_sibling_hangs, no_child_hangs, not_given, last_unlinked, childless_unheaded, ungiven_undone}
use Rattle.oss_words.proofs.RuleLaw.{rule_link}
use Rattle.oss_word_net.specs.declared.sight.Sight.{Sight}
use Rattle.oss_word_net.specs.Asks.{MayLink, MayFollow, MayHead}
use Rattle.oss_word_net.specs.Known.{Filling}
use Rattle.oss_word_net.specs.Moves.{clear_alone, linked_at, same_fold, next_mask, child_mask}
use Rattle.oss_word_net.specs.Plays.{Follows, Heads}
use Rattle.oss_word_net.specs.Table.{states_of, infos_of, views_of, Sits, Neat, Stands}
use Rattle.oss_word_net.proofs.DeliverLemmas.{bounded}
use Rattle.oss_word_net.proofs.FillLemmas.{one_filling}
use Rattle.oss_word_net.proofs.GiveLemmas.{some_behind}
use Rattle.oss_word_net.proofs.PlaceLemmas.{put_here, put_else, net', placed_stands}
use Rattle.oss_word_net.proofs.ReadLemmas.{child_of}
use Rattle.oss_word_net.proofs.TableLemmas.{view_at, at_here, Steps}
use Rattle.oss_word_net.proofs.WordLemmas.{num_off, parts_fit, added, after as behind, here, apart_from}

op_back : (op : Op) → op_at (op_number op) ≡ op
op_back Add = refl
op_back And = refl
op_back Or = refl
op_back Xor = refl

-- modes of one number are one
mode_of : (a b : Mode) → mode_number a ≡ mode_number b → a ≡ b
mode_of Read Read q = refl
mode_of Read Write q = absurd (omega (arith, q))
mode_of Read (Fold op) q = absurd (omega (arith, q))
mode_of Write Read q = absurd (omega (arith, q))
mode_of Write Write q = refl
mode_of Write (Fold op) q = absurd (omega (arith, q))
mode_of (Fold op) Read q = absurd (omega (arith, q))
mode_of (Fold op) Write q = absurd (omega (arith, q))
mode_of (Fold a) (Fold b) q = let p : op_number a ≡ op_number b = omega (arith, q) in ap (λ z. Fold z) (sym (op_back a) ∙ ap op_at p ∙ op_back b)

pub compares : (a b : Mode) → Compares a b (is_fold b) (same_fold a b)
compares a b = record {
  folds = refl;
  alike = λ y. sym (mode_of a b (is_equal (mode_number a == mode_number b) (eqb_tells (mode_number a) (mode_number b)) (and_true (is_fold b) (mode_number a == mode_number b) y).1));
  unlike = λ y op f same. differ y op f same (mode_number a == mode_number b) (eqb_tells (mode_number a) (mode_number b)) refl;
}
  where
    is_equal : (t : Bool) → ((t ≡ true) × (mode_number a ≡ mode_number b)) ⊎ ((t ≡ false) × (mode_number a ≢ mode_number b)) → t ≡ true → mode_number a ≡ mode_number b
    is_equal t (inl e) q = e.1
    is_equal t (inr e) q = absurd (clash q e.0)

    differ : same_fold a b ≡ false → (op : Op) → b ≡ Fold op → b ≡ a → (t : Bool) → ((t ≡ true) × (mode_number a ≡ mode_number b)) ⊎ ((t ≡ false) × (mode_number a ≢ mode_number b)) → (mode_number a == mode_number b) ≡ t → ⊥
    differ y op f same t (inr e) q = e.1 (ap mode_number (sym same))
    differ y op f same t (inl e) q = clash (ap (λ (z : Mode). is_fold z && (mode_number a == mode_number b)) f ∙ q ∙ e.0) y

after_blank : (o : ℕ) → Blank (after o) no_flags
after_blank o = record { linked = refl; headed = refl; left = refl; folds = refl; reads = refl; writes = refl; clear = refl }

first_blank : (o : ℕ) → Blank (first o) clear_alone
first_blank o = record { linked = refl; headed = refl; left = refl; folds = refl; reads = refl; writes = refl; clear = refl }

module _ (n id : ℕ) (s : Sight) (e : ℕ) (c : EntryState) (i : EntryInfo) (may : MayLink n s.known e c i) where
  module _ (ws : List ℕ) (sights : List Sight) (stands : Stands n ws sights) (at : Sits sights id s) where
    is_so : (stands.net.place e ≡ apart) × Among e s.known.view.owned × (states_of ws e ≡ c) × (infos_of ws e ≡ i)
    is_so = (stands.knows id s at).filling (record { entry = e; state = c; info = i }) [] may.filling

    within : e < n
    within = (stands.rule.seats.owned_drawn id s.known.view (view_at sights id s at) e is_so.1).1

    small : e < 16777216
    small = let a = within in let b = stands.rule.seats.size in omega (arith, a, b)

    mine : (f : Filling) (fs : List Filling) → s.known.filling ≡ f ∷ fs → f.entry ≡ e
    mine f fs q = sym (ap (λ (z : Filling). z.entry) (one_filling (record { entry = e; state = c; info = i }) f [] fs (sym may.filling ∙ q)))

    parent_open : (states_of ws i.parent).given ≡ false
    parent_open = not_given n (slice_index ws 0) stands.net stands.gave (states_of ws) (infos_of ws) (views_of sights) stands.rule id s.known.view i.parent (view_at sights id s at) may.own_parent may.ungiven

    -- an entry of which the seat was told
    known : (o : ℕ) (j : EntryInfo) → Among (record { entry = o; info = j }) s.known.told → (stands.net.place o ≢ apart) × (infos_of ws o ≡ j)
    known o j t = (stands.knows id s at).told (record { entry = o; info = j }) t

    covered : i.parent ≢ 0 → (stands.net.mode i.parent ≡ Write) ⊎ (stands.net.mode i.parent ≡ i.mode)
    covered ne =
        let k = may.covers ne in
        let t = known i.parent k.0 k.1 in
        let mode_is : k.0.mode ≡ stands.net.mode i.parent = sym (ap (λ (z : EntryInfo). z.mode) t.1) ∙ stands.rule.kept.modes.mode i.parent t.0 in
        elim k.2 [ inl q ↦ inl (sym mode_is ∙ q) | inr q ↦ inr (sym mode_is ∙ q) ]

  module _ (o : ℕ) (j : EntryInfo) (how : MayFollow s.known e i o j) (plain : c ≡ no_flags) where
    pub follows : Steps n id s (1 + 2 * o) (λ x. (x + next_mask e j.mode i.mode) % 2 ^ 64) (Follows (step 0 (1 + 2 * o) (next_mask e j.mode i.mode) 0 maybe.none) (s, []))
    follows ws sights stands at =
        let x : ℕ = slice_index ws (1 + 2 * o) in
        let so = is_so ws sights stands at in
        let t = known ws sights stands at o j how.told in
        let words = stands.rule.kept.flow.words in
        let inside : o < n = words.inside o t.0 in
        let parent_is : stands.net.parent o ≡ i.parent = sym (words.told o t.0) ∙ ap (λ (z : EntryInfo). z.parent) t.1 ∙ how.parent in
        let depth_is : stands.net.depth o ≡ i.depth = sym (stands.rule.kept.modes.depth o t.0) ∙ ap (λ (z : EntryInfo). z.depth) t.1 ∙ how.depth in
        let mode_is : stands.net.mode o ≡ j.mode = sym (stands.rule.kept.modes.mode o t.0) ∙ ap (λ (z : EntryInfo). z.mode) t.1 in
        let none = no_sibling_hangs n (slice_index ws 0) stands.net stands.gave (states_of ws) (infos_of ws) (views_of sights) stands.rule id s.known.view o (view_at sights id s at) (subst (λ (z : ℕ). Among z s.known.view.owned) (sym parent_is) may.own_parent) how.last in
        let unlinked : (states_of ws o).linked ≡ false = last_unlinked n (slice_index ws 0) stands.net stands.gave (states_of ws) (infos_of ws) (views_of sights) stands.rule o t.0 none (ap (λ (z : ℕ). (states_of ws z).given) parent_is ∙ parent_open ws sights stands at) in
        let old : EntryState = states_of ws o in
        let f : Bool = is_fold i.mode in
        let g : Bool = same_fold j.mode i.mode in
        let new : EntryState = record old { linked = true; next = e; next_folds = f; next_same = g } in
        let fits : FitsWord new = record { next = small ws sights stands at; child = (parts_fit x).child } in
        let neat : Neat new = record { next = λ z. absurd (clash refl z); child = (stands.neat o).child; left = (stands.neat o).left } in
        let zeros = (stands.neat o).next unlinked in
        let sum = added old new x (next_mask e j.mode i.mode) (stands.whole o) (let p = num_off old.linked unlinked in let q = zeros.0 in let u = num_off old.next_folds zeros.1 in let v = num_off old.next_same zeros.2 in omega (arith, p, q, u, v)) fits in
        let s' : Sight = record { known = linked_at e i (after o) o j (next_mask e j.mode i.mode) x s.known } in
        let now = here n ws sights stands id s s' at o inside new fits neat in
        let others = apart_from n ws sights stands id s s' at o inside new fits neat in
        let states' : ℕ → EntryState = states_of (behind n ws sights stands id s s' at o inside new fits neat) in
        let net2 : Net = net' n ws sights stands id s s' at o inside new fits neat e (after o) i.parent (stands.net.lead o) i.depth i.mode i (λ q. absurd (cc)) so.1 (inl t.0) in
        let ne : o ≢ e = λ q. let b = how.before in omega (arith, q, b) in
        let pe : i.parent ≢ e = λ q. let b = may.above in omega (arith, q, b) in
        let place_is : net2.place e ≡ after o = put_here stands.net.place e (after o) in
        let up_is : net2.parent e ≡ i.parent = put_here stands.net.parent e i.parent in
        let deep_is : net2.depth e ≡ i.depth = put_here stands.net.depth e i.depth in
        let shape_is : net2.mode e ≡ i.mode = put_here stands.net.mode e i.mode in
        let last_is : stands.net.parent o ≢ 0 → stands.net.last (stands.net.parent o) ≡ o = λ np.
        let kin = how.kin (λ z. np (parent_is ∙ z)) in
        let child = child_of n ws sights stands id s at i.parent o kin in
        elim (words.shaped.youngest i.parent o child) [
          | inl q ↦ ap (λ (z : ℕ). stands.net.last z) parent_is ∙ sym q
          | inr r ↦ let b = some_behind stands.net.place o (stands.net.last i.parent) r in absurd (none b.0 b.1)
        ] in
        let adds : Adds stands.net net2 e = record {
          fresh = so.0;
          not_main = λ q. let b = may.above in omega (arith, q, b);
          place = put_else stands.net.place e (after o);
          parent = put_else stands.net.parent e i.parent;
          lead = put_else stands.net.lead e (stands.net.lead o);
          depth = put_else stands.net.depth e i.depth;
          mode = put_else stands.net.mode e i.mode;
          last = λ q nq. put_else stands.net.last i.parent e q (λ z. nq (z ∙ sym up_is));
          newest = ap (λ (z : ℕ). net2.last z) up_is ∙ put_here stands.net.last i.parent e;
          how = behind_last o place_is (up_is ∙ sym parent_is) (put_here stands.net.lead e (stands.net.lead o)) (deep_is ∙ sym depth_is) how.before t.0 none last_is;
        } in
        let blank_is : Blank (net2.place e) (states_of ws e) = subst (λ (z : Place). Blank z (states_of ws e)) (sym place_is) (subst (λ (z : EntryState). Blank (after o) z) (sym (so.2 ∙ plain)) (after_blank o)) in
        let links : Links n stands.net net2 (states_of ws) states' (infos_of ws) o e s.known.view s'.known.view = record {
          adds = adds;
          inside = inside;
          inside_new = within ws sights stands at;
          empty = may.empty;
          full = may.whole;
          links = to_sibling place_is unlinked f g now;
          others = others;
          blank = blank_is;
          info = ap (λ (z : EntryInfo). z.parent) so.3 ∙ sym up_is;
          open_yet = ap (λ (z : ℕ). (states_of ws z).given) up_is ∙ parent_open ws sights stands at;
          tells = record { mode = ap (λ (z : EntryInfo). z.mode) so.3 ∙ sym shape_is; depth = ap (λ (z : EntryInfo). z.depth) so.3 ∙ sym deep_is; shallow = (let b = may.shallow in omega (arith, deep_is, b)) };
          ungiven = ap (λ (z : EntryState). z.given) (so.2 ∙ plain);
          undone = ap (λ (z : EntryState). z.done) (so.2 ∙ plain);
          clears = λ q. let z : after o ≡ first o = sym place_is ∙ q in absurd (cc);
          above = λ q. let z : after o ≡ first o = sym place_is ∙ q in absurd (cc);
          covers = λ np. elim (covered ws sights stands at (λ z. np (up_is ∙ z))) [
            | inl q ↦ inl (ap (λ (z : ℕ). net2.mode z) up_is ∙ put_else stands.net.mode e i.mode i.parent pe ∙ q)
            | inr q ↦ inr (ap (λ (z : ℕ). net2.mode z) up_is ∙ put_else stands.net.mode e i.mode i.parent pe ∙ q ∙ sym shape_is)
          ];
          sibling_bits = λ q. subst (λ (z : Mode). Compares z (net2.mode e) (states' o).next_folds (states' o).next_same) (sym (put_else stands.net.mode e i.mode o ne ∙ mode_is))
              (subst (λ (z : Mode). Compares j.mode z (states' o).next_folds (states' o).next_same) (sym shape_is) (subst (λ (z : EntryState). Compares j.mode i.mode z.next_folds z.next_same) (sym now) (compares j.mode i.mode)));
          child_bits = λ q. let z : after o ≡ first o = sym place_is ∙ q in absurd (cc);
          sends = λ k. sent o old ((sum.1 ∙ sym now) k) (sym t.1 k);
          whole = may.whole;
        } in
        let notes : NotesLink net2 e s.known.view s'.known.view = record {
          own = so.1;
          own_parent = subst (λ (z : ℕ). Among z s.known.view.owned) (sym up_is) may.own_parent;
          owned = refl;
          links = λ k. record { entry = e; place = sym place_is k } ∷ s.known.view.links;
          gives = refl;
          seen = refl;
          delivered = refl;
          parts = refl;
          splits = refl;
          failed = refl;
        } in
        let rule = rule_link n stands.net net2 stands.gave (states_of ws) states' (infos_of ws) (slice_index ws 0) (views_of sights) id s.known.view s'.known.view o e stands.rule (view_at sights id s at) links notes in
        let after_step = placed_stands n ws sights stands id s s' at o inside new fits neat e (after o) i.parent (stands.net.lead o) i.depth i.mode i (λ q. absurd (cc)) so.1 (inl t.0) rule so.3 refl refl refl refl refl may.live (mine ws sights stands at) in (
          s',
          subst (λ (y : ℕ). Stands n (set ws (1 + 2 * o) y) (set sights id s')) (sym sum.0) after_step,
          (
            refl,
            bounded n (set ws (1 + 2 * o) (state_word new)) (set sights id s') after_step id s' (at_here sights id s s' at) may.size,
            (sum.2, ap (λ (z : EntryState). z.left) sum.1 ∙ neat.left),
            (λ a b h l d p q u.
                let is = one_filling (record { entry = e; state = c; info = i }) (record { entry = a; state = d; info = h }) [] [] (sym may.filling ∙ q) in
                let same : o ≡ b = omega (arith, p) in
                let info : j ≡ l = sym t.1 ∙ ap (λ (z : ℕ). infos_of ws z) same ∙ (known ws sights stands at b l u).1 in
                λ k. linked_at (is k).entry (is k).info (after (same k)) (same k) (info k) (next_mask e j.mode i.mode) x s.known),
          ),
        )

  module _ (j : EntryInfo) (how : MayHead s.known i j) (plain : c ≡ clear_alone) where
    abbrev o : ℕ
    o = i.parent

    pub heads : Steps n id s (1 + 2 * o) (λ x. (x + child_mask e j.mode i.mode) % 2 ^ 64) (Heads (step 0 (1 + 2 * o) (child_mask e j.mode i.mode) 0 maybe.none) (s, []))
    heads ws sights stands at =
        let x : ℕ = slice_index ws (1 + 2 * o) in
        let so = is_so ws sights stands at in
        let t = known ws sights stands at o j how.told in
        let words = stands.rule.kept.flow.words in
        let inside : o < n = words.inside o t.0 in
        let depth_is : j.depth ≡ stands.net.depth o = sym (ap (λ (z : EntryInfo). z.depth) t.1) ∙ stands.rule.kept.modes.depth o t.0 in
        let mode_is : stands.net.mode o ≡ j.mode = sym (stands.rule.kept.modes.mode o t.0) ∙ ap (λ (z : EntryInfo). z.mode) t.1 in
        let none = no_child_hangs n (slice_index ws 0) stands.net stands.gave (states_of ws) (infos_of ws) (views_of sights) stands.rule id s.known.view o (view_at sights id s at) may.own_parent how.childless in
        let unheaded : (states_of ws o).headed ≡ false = childless_unheaded n (slice_index ws 0) stands.net stands.gave (states_of ws) (infos_of ws) (views_of sights) stands.rule o inside none in
        let undone : (states_of ws o).done ≡ false = ungiven_undone n (slice_index ws 0) stands.net stands.gave (states_of ws) (infos_of ws) (views_of sights) stands.rule o inside (parent_open ws sights stands at) in
        let old : EntryState = states_of ws o in
        let f : Bool = is_fold i.mode in
        let g : Bool = same_fold j.mode i.mode in
        let new : EntryState = record old { headed = true; child = e; child_folds = f; child_same = g } in
        let fits : FitsWord new = record { next = (parts_fit x).next; child = small ws sights stands at } in
        let neat : Neat new = record { next = (stands.neat o).next; child = λ z. absurd (clash refl z); left = (stands.neat o).left } in
        let zeros = (stands.neat o).child unheaded in
        let sum = added old new x (child_mask e j.mode i.mode) (stands.whole o) (let p = num_off old.headed unheaded in let q = zeros.0 in let u = num_off old.child_folds zeros.1 in let v = num_off old.child_same zeros.2 in omega (arith, p, q, u, v)) fits in
        let s' : Sight = record { known = linked_at e i (first o) o j (child_mask e j.mode i.mode) x s.known } in
        let now = here n ws sights stands id s s' at o inside new fits neat in
        let others = apart_from n ws sights stands id s s' at o inside new fits neat in
        let states' : ℕ → EntryState = states_of (behind n ws sights stands id s s' at o inside new fits neat) in
        let net2 : Net = net' n ws sights stands id s s' at o inside new fits neat e (first o) o e i.depth i.mode i (λ q. absurd (cc)) so.1 (inl t.0) in
        let ne : o ≢ e = λ q. let b = may.above in omega (arith, q, b) in
        let place_is : net2.place e ≡ first o = put_here stands.net.place e (first o) in
        let up_is : net2.parent e ≡ o = put_here stands.net.parent e o in
        let deep_is : net2.depth e ≡ i.depth = put_here stands.net.depth e i.depth in
        let shape_is : net2.mode e ≡ i.mode = put_here stands.net.mode e i.mode in
        let deeper = how.depth in
        let adds : Adds stands.net net2 e = record {
          fresh = so.0;
          not_main = λ q. let b = may.above in omega (arith, q, b);
          place = put_else stands.net.place e (first o);
          parent = put_else stands.net.parent e o;
          lead = put_else stands.net.lead e e;
          depth = put_else stands.net.depth e i.depth;
          mode = put_else stands.net.mode e i.mode;
          last = λ q nq. put_else stands.net.last o e q (λ z. nq (z ∙ sym up_is));
          newest = ap (λ (z : ℕ). net2.last z) up_is ∙ put_here stands.net.last o e;
          how = below_parent o place_is up_is (put_here stands.net.lead e e) (omega (arith, deep_is, deeper, depth_is)) ne t.0 none;
        } in
        let blank_is : Blank (net2.place e) (states_of ws e) = subst (λ (z : Place). Blank z (states_of ws e)) (sym place_is) (subst (λ (z : EntryState). Blank (first o) z) (sym (so.2 ∙ plain)) (first_blank o)) in
        let links : Links n stands.net net2 (states_of ws) states' (infos_of ws) o e s.known.view s'.known.view = record {
          adds = adds;
          inside = inside;
          inside_new = within ws sights stands at;
          empty = may.empty;
          full = may.whole;
          links = to_child place_is unheaded undone f g now;
          others = others;
          blank = blank_is;
          info = ap (λ (z : EntryInfo). z.parent) so.3 ∙ sym up_is;
          open_yet = ap (λ (z : ℕ). (states_of ws z).given) up_is ∙ parent_open ws sights stands at;
          tells = record { mode = ap (λ (z : EntryInfo). z.mode) so.3 ∙ sym shape_is; depth = ap (λ (z : EntryInfo). z.depth) so.3 ∙ sym deep_is; shallow = (let b = may.shallow in omega (arith, deep_is, b)) };
          ungiven = ap (λ (z : EntryState). z.given) (so.2 ∙ plain);
          undone = ap (λ (z : EntryState). z.done) (so.2 ∙ plain);
          clears = λ q. ap (λ (z : EntryState). z.clear) (so.2 ∙ plain);
          above = λ q. may.above;
          covers = λ np. elim (covered ws sights stands at (λ z. np (up_is ∙ z))) [
            | inl q ↦ inl (ap (λ (z : ℕ). net2.mode z) up_is ∙ put_else stands.net.mode e i.mode o ne ∙ q)
            | inr q ↦ inr (ap (λ (z : ℕ). net2.mode z) up_is ∙ put_else stands.net.mode e i.mode o ne ∙ q ∙ sym shape_is)
          ];
          sibling_bits = λ q. let z : first o ≡ after o = sym place_is ∙ q in absurd (cc);
          child_bits = λ q. subst (λ (z : Mode). Compares z (net2.mode e) (states' o).child_folds (states' o).child_same) (sym (put_else stands.net.mode e i.mode o ne ∙ mode_is))
              (subst (λ (z : Mode). Compares j.mode z (states' o).child_folds (states' o).child_same) (sym shape_is) (subst (λ (z : EntryState). Compares j.mode i.mode z.child_folds z.child_same) (sym now) (compares j.mode i.mode)));
          sends = λ k. sent o old ((sum.1 ∙ sym now) k) (sym t.1 k);
          whole = may.whole;
        } in
        let notes : NotesLink net2 e s.known.view s'.known.view = record {
          own = so.1;
          own_parent = subst (λ (z : ℕ). Among z s.known.view.owned) (sym up_is) may.own_parent;
          owned = refl;
          links = λ k. record { entry = e; place = sym place_is k } ∷ s.known.view.links;
          gives = refl;
          seen = refl;
          delivered = refl;
          parts = refl;
          splits = refl;
          failed = refl;
        } in
        let rule = rule_link n stands.net net2 stands.gave (states_of ws) states' (infos_of ws) (slice_index ws 0) (views_of sights) id s.known.view s'.known.view o e stands.rule (view_at sights id s at) links notes in
        let after_step = placed_stands n ws sights stands id s s' at o inside new fits neat e (first o) o e i.depth i.mode i (λ q. absurd (cc)) so.1 (inl t.0) rule so.3 refl refl refl refl refl may.live (mine ws sights stands at) in (
          s',
          subst (λ (y : ℕ). Stands n (set ws (1 + 2 * o) y) (set sights id s')) (sym sum.0) after_step,
          (
            refl,
            bounded n (set ws (1 + 2 * o) (state_word new)) (set sights id s') after_step id s' (at_here sights id s s' at) may.size,
            (sum.2, ap (λ (z : EntryState). z.left) sum.1 ∙ neat.left),
            (λ a b h l d p q u.
                let is = one_filling (record { entry = e; state = c; info = i }) (record { entry = a; state = d; info = h }) [] [] (sym may.filling ∙ q) in
                let same : o ≡ b = omega (arith, p) in
                let info : j ≡ l = sym t.1 ∙ ap (λ (z : ℕ). infos_of ws z) same ∙ (known ws sights stands at b l u).1 in
                λ k. linked_at (is k).entry (is k).info (first (same k)) (same k) (info k) (child_mask e j.mode i.mode) x s.known),
          ),
        )
