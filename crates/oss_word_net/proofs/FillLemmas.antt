-- A fill of the info word and of the state word of a new entry, and the fill by which one begins a list of main.
use Rattle.std.proofs.Common.{◌≡◌, ◌≢◌, inl, inr, sym, subst, refl, ◌∙◌, ap, ℕ, ◌<◌, ◌+◌, ◌*◌, arith, false, List, [], ◌∷◌, length, set}
use Rattle.std.specs.Prelude.{slice_index}
use Rattle.std.proofs.lemmas.List.{get_or-set_same, get_or-set_other, length-set}
use Rattle.atomic_table.specs.Table.{step}
use Rattle.atomic_table.proofs.Lists.{set_again}
use mathlib.Core.Option as maybe
use Rattle.oss_words.specs.declared.entry.EntryState.{EntryState}
use Rattle.oss_words.specs.declared.entry.EntryInfo.{EntryInfo}
use Rattle.oss_words.specs.Bits.{state_at, state_word, info_at, FitsWord}
use Rattle.oss_words.specs.Net.{Net, Place, apart, top, Adds, first_of_main}
use Rattle.oss_words.specs.Rule.{Rule}
use Rattle.oss_words.specs.SeatSteps.{NotesLink}
use Rattle.oss_words.specs.Steps.{no_flags, Blank, Fills, Begun}
use Rattle.oss_words.specs.Views.{View, Among}
use Rattle.oss_words.proofs.KnowLemmas.{not_given}
use Rattle.oss_words.proofs.RuleLaw.{rule_fill, rule_first}
use Rattle.oss_words.proofs.SumLemmas.{same_number}
use Rattle.oss_word_net.specs.declared.sight.Sight.{Sight}
use Rattle.oss_word_net.specs.Asks.{MayFill, MayStart}
use Rattle.oss_word_net.specs.Known.{Filling}
use Rattle.oss_word_net.specs.Moves.{clear_alone, all_open, filled_info, filled_state, began}
use Rattle.oss_word_net.specs.Plays.{FillsInfo, FillsState, Opens}
use Rattle.oss_word_net.specs.Table.{states_of, infos_of, views_of, Sits, Neat, Knows, filled, Stands}
use Rattle.oss_word_net.proofs.PlaceLemmas.{put_here, put_else, own_apart, own_blank, net', placed_stands}
use Rattle.oss_word_net.proofs.TableLemmas.{view_at, at_here, views_set, others_know, still_filled, first_stays, Steps}
use Rattle.oss_word_net.proofs.WordLemmas.{after as behind, here, apart_from, word_stands}

blank_of : (c : EntryState) → c ≡ no_flags → Blank apart c
blank_of c q = subst (λ (z : EntryState). Blank apart z) (sym q) (record { linked = refl; headed = refl; left = refl; folds = refl; reads = refl; writes = refl; clear = refl })

module _ (n id : ℕ) (s : Sight) (e w : ℕ) (may : MayFill s.known e) where
  module _ (ws : List ℕ) (sights : List Sight) (stands : Stands n ws sights) (at : Sits sights id s) where
    inside : e < n
    inside = (stands.rule.seats.owned_drawn id s.known.view (view_at sights id s at) e may.own).1

    loose : stands.net.place e ≡ apart
    loose = own_apart n ws sights stands id s at e may.own may.unlinked

    blank : states_of ws e ≡ no_flags
    blank = own_blank n ws sights stands id s at e may.own loose may.idle

    abbrev past : List ℕ
    past = set ws (2 + 2 * e) w

    in_table : 2 + 2 * e < length ws
    in_table = let q = stands.size in let l = inside in omega (arith, q, l)

    states_stay : states_of past ≡ states_of ws
    states_stay = λ i j. state_at (get_or-set_other ws (2 + 2 * e) (1 + 2 * j) w 0 (λ q. absurd (omega (arith, q))) i)

    info_here : infos_of past e ≡ info_at w
    info_here = ap info_at (get_or-set_same ws (2 + 2 * e) w 0 in_table)

    info_else : (j : ℕ) → j ≢ e → infos_of past j ≡ infos_of ws j
    info_else j ne = ap info_at (get_or-set_other ws (2 + 2 * e) (2 + 2 * j) w 0 (λ q. ne (omega (arith, q))))

    draw_stays : slice_index past 0 ≡ slice_index ws 0
    draw_stays = get_or-set_other ws (2 + 2 * e) 0 w 0 (λ q. absurd (omega (arith, q)))

    abbrev s' : Sight
    s' = record { known = filled_info e w s.known }

    fills : Fills n stands.net (states_of ws) (states_of ws) (infos_of ws) (infos_of past) e
    fills = record {
      inside = inside;
      loose = loose;
      blank_before = blank_of (states_of ws e) blank;
      blank_now = blank_of (states_of ws e) blank;
      undone = ap (λ (z : EntryState). z.done) blank;
      ungiven_before = ap (λ (z : EntryState). z.given) blank;
      ungiven = ap (λ (z : EntryState). z.given) blank;
      once = inl refl;
      others = λ j ne. refl;
      other_infos = info_else;
    }

    rule : Rule n stands.net stands.gave (states_of ws) (infos_of past) (slice_index ws 0) (set (views_of sights) id s.known.view)
    rule = subst (λ (z : List View). Rule n stands.net stands.gave (states_of ws) (infos_of past) (slice_index ws 0) z) (sym (set_again (views_of sights) id s.known.view (view_at sights id s at)))
        (rule_fill n stands.net stands.gave (states_of ws) (states_of ws) (infos_of ws) (infos_of past) (slice_index ws 0) (views_of sights) e stands.rule fills)

    knows : Knows n stands.net (states_of ws) (infos_of past) (filled_info e w s.known)
    knows = let old = stands.knows id s at in record {
      told = λ t m. let k = old.told t m in (k.0, info_else t.entry (λ q. k.0 (ap (λ (j : ℕ). stands.net.place j) q ∙ loose)) ∙ k.1);
      filling = λ f fs q.
          let is : record { entry = e; state = no_flags; info = info_at w } ≡ f = head_is (record { entry = e; state = no_flags; info = info_at w }) f [] fs q in
          subst (λ (z : Filling). (stands.net.place z.entry ≡ apart) × Among z.entry s.known.view.owned × (states_of ws z.entry ≡ z.state) × (infos_of past z.entry ≡ z.info)) is (loose, may.own, blank, info_here);
      entries = old.entries;
      spent = λ z. absurd (may.live z);
    }
      where
        head_is : (a b : Filling) (xs ys : List Filling) → a ∷ xs ≡ b ∷ ys → a ≡ b
        head_is a b xs ys q = cc

    filled_stands : Stands n past (set sights id s')
    filled_stands = record {
      net = stands.net;
      gave = stands.gave;
      first = first_stays n ws sights stands id s s' at refl refl;
      size = length-set ws (2 + 2 * e) w ∙ stands.size;
      rule = subst (λ (z : List View). Rule n stands.net stands.gave (states_of past) (infos_of past) (slice_index past 0) z) (sym (views_set sights id s'))
          (subst (λ (z : ℕ). Rule n stands.net stands.gave (states_of past) (infos_of past) z (set (views_of sights) id s.known.view)) (sym draw_stays)
          (subst (λ (f : ℕ → EntryState). Rule n stands.net stands.gave f (infos_of past) (slice_index ws 0) (set (views_of sights) id s.known.view)) (sym states_stay) rule));
      whole = λ j. get_or-set_other ws (2 + 2 * e) (1 + 2 * j) w 0 (λ q. absurd (omega (arith, q))) ∙ stands.whole j ∙ ap (λ (f : ℕ → EntryState). state_word (f j)) (sym states_stay);
      neat = λ j. subst (λ (f : ℕ → EntryState). Neat (f j)) (sym states_stay) (stands.neat j);
      knows = λ j t sits. subst (λ (f : ℕ → EntryState). Knows n stands.net f (infos_of past) t.known) (sym states_stay)
          (others_know n stands.net stands.net stands.gave (states_of ws) (states_of ws) (infos_of ws) (infos_of past) (slice_index ws 0) sights id s s' stands.rule at stands.knows
          (λ k h. (h, info_else k (λ q. h (ap (λ (z : ℕ). stands.net.place z) q ∙ loose))))
          (λ k a m. (a, refl, info_else k (λ q. m (subst (λ (z : ℕ). Among z s.known.view.owned) (sym q) may.own)))) knows j t sits);
      blank = λ j a. elim (stands.blank j a) [
        | inl q ↦ inl (ap (λ (f : ℕ → EntryState). f j) states_stay ∙ q)
        | inr f ↦ inr (still_filled sights id s s' j at f (λ g gs q is. let z : g ∷ gs ≡ [] = sym q ∙ may.idle in absurd (cc)))
      ];
    }

  pub fills_info : Steps n id s (2 + 2 * e) (λ x. w) (λ x. FillsInfo (step 0 (2 + 2 * e) w 0 maybe.none) (s, []) w)
  fills_info ws sights stands at = (record { known = filled_info e w s.known }, filled_stands ws sights stands at, (refl, λ f q. let z : e ≡ f = omega (arith, q) in ap (λ (j : ℕ). filled_info j w s.known) z))

pub one_filling : (a b : Filling) (xs ys : List Filling) → a ∷ xs ≡ b ∷ ys → a ≡ b
one_filling a b xs ys q = cc

clear_blank : Blank apart clear_alone
clear_blank = record { linked = refl; headed = refl; left = refl; folds = refl; reads = refl; writes = refl; clear = refl }

open_blank : Blank apart all_open
open_blank = record { linked = refl; headed = refl; left = refl; folds = refl; reads = refl; writes = refl; clear = refl }

top_blank : Blank top all_open
top_blank = record { linked = refl; headed = refl; left = refl; folds = refl; reads = refl; writes = refl; clear = refl }

module _ (n id : ℕ) (s : Sight) (e : ℕ) (i : EntryInfo) (may : MayStart s.known e i) where
  module _ (ws : List ℕ) (sights : List Sight) (stands : Stands n ws sights) (at : Sits sights id s) where
    is_so : (stands.net.place e ≡ apart) × Among e s.known.view.owned × (states_of ws e ≡ no_flags) × (infos_of ws e ≡ i)
    is_so = (stands.knows id s at).filling (record { entry = e; state = no_flags; info = i }) [] may.filling

    within : e < n
    within = (stands.rule.seats.owned_drawn id s.known.view (view_at sights id s at) e is_so.1).1

    -- the fill of a state word of an entry that hangs nowhere
    fills_word : (c : EntryState) (states' : ℕ → EntryState) → states' e ≡ c → ((j : ℕ) → j ≢ e → states' j ≡ states_of ws j) → Blank apart c → c.done ≡ false → c.given ≡ false → Fills n stands.net (states_of ws) states' (infos_of ws) (infos_of ws) e
    fills_word c states' here_is else_is blank_is undone_is ungiven_is = record {
      inside = within;
      loose = is_so.0;
      blank_before = blank_of (states_of ws e) is_so.2;
      blank_now = subst (λ (z : EntryState). Blank apart z) (sym here_is) blank_is;
      undone = ap (λ (z : EntryState). z.done) here_is ∙ undone_is;
      ungiven_before = ap (λ (z : EntryState). z.given) is_so.2;
      ungiven = ap (λ (z : EntryState). z.given) here_is ∙ ungiven_is;
      once = inr is_so.2;
      others = else_is;
      other_infos = λ j ne. refl;
    }

    mine : (f : Filling) (fs : List Filling) → s.known.filling ≡ f ∷ fs → f.entry ≡ e
    mine f fs q = sym (ap (λ (z : Filling). z.entry) (one_filling (record { entry = e; state = no_flags; info = i }) f [] fs (sym may.filling ∙ q)))

  pub fills_state : Steps n id s (1 + 2 * e) (λ x. 32) (λ x. FillsState (step 0 (1 + 2 * e) 32 0 maybe.none) (s, []) 32)
  fills_state ws sights stands at =
      let so = is_so ws sights stands at in
      let inside_is = within ws sights stands at in
      let fits : FitsWord clear_alone = record { next = omega arith; child = omega arith } in
      let neat : Neat clear_alone = record { next = λ z. (refl, refl, refl); child = λ z. (refl, refl, refl); left = refl } in
      let s' : Sight = record { known = filled_state e 32 i s.known } in
      let now = here n ws sights stands id s s' at e inside_is clear_alone fits neat in
      let else_is = apart_from n ws sights stands id s s' at e inside_is clear_alone fits neat in
      let states' : ℕ → EntryState = states_of (behind n ws sights stands id s s' at e inside_is clear_alone fits neat) in
      let rule = subst (λ (z : List View). Rule n stands.net stands.gave states' (infos_of ws) (slice_index ws 0) z) (sym (set_again (views_of sights) id s.known.view (view_at sights id s at)))
      (rule_fill n stands.net stands.gave (states_of ws) states' (infos_of ws) (infos_of ws) (slice_index ws 0) (views_of sights) e stands.rule (fills_word ws sights stands at clear_alone states' now else_is clear_blank refl refl)) in
      let old = stands.knows id s at in
      let knows : Knows n stands.net states' (infos_of ws) s'.known = record {
        told = old.told;
        filling = λ f fs q. subst (λ (z : Filling). (stands.net.place z.entry ≡ apart) × Among z.entry s.known.view.owned × (states' z.entry ≡ z.state) × (infos_of ws z.entry ≡ z.info)) (one_filling (record { entry = e; state = state_at 32; info = i }) f [] fs q) (so.0, so.1, now, so.3);
        entries = old.entries;
        spent = λ z. absurd (may.live z);
      } in (
        s',
        word_stands n ws sights stands id s s' at e inside_is clear_alone fits neat stands.net stands.gave rule (λ j h. h) (λ j a m. (a, λ q. m (subst (λ (k : ℕ). Among k s.known.view.owned) (sym q) so.1))) knows refl refl
            (λ j a. elim (same_number j e) [
              | inl q ↦ inr (filled id s' (at_here sights id s s' at) (record { entry = e; state = state_at 32; info = i }) [] refl (sym q))
              | inr ne ↦ elim (stands.blank j a) [
                | inl q ↦ inl (else_is j ne ∙ q)
                | inr f ↦ inr (still_filled sights id s s' j at f (λ g gs q is. absurd (ne (sym is ∙ mine ws sights stands at g gs q))))
              ]
            ]),
        (
          refl,
          λ f j c p q.
              let is = one_filling (record { entry = e; state = no_flags; info = i }) (record { entry = f; state = c; info = j }) [] [] (sym may.filling ∙ q) in
              λ k. filled_state (is k).entry 32 (is k).info s.known,
        ),
      )

  pub opens : i.parent ≡ 0 → i.depth ≡ 1 → Among 0 s.known.view.owned → (Among 0 s.known.view.gives → ⊥) → e ≢ 0 → Steps n id s (1 + 2 * e) (λ x. 39) (λ x. Opens (step 0 (1 + 2 * e) 39 0 maybe.none) (s, []) 39)
  opens parent depth main ungiven_main above ws sights stands at =
      let so = is_so ws sights stands at in
      let inside_is = within ws sights stands at in
      let fits : FitsWord all_open = record { next = omega arith; child = omega arith } in
      let neat : Neat all_open = record { next = λ z. (refl, refl, refl); child = λ z. (refl, refl, refl); left = refl } in
      let s' : Sight = record { known = began e 39 i s.known } in
      let now = here n ws sights stands id s s' at e inside_is all_open fits neat in
      let else_is = apart_from n ws sights stands id s s' at e inside_is all_open fits neat in
      let states' : ℕ → EntryState = states_of (behind n ws sights stands id s s' at e inside_is all_open fits neat) in
      let net2 : Net = net' n ws sights stands id s s' at e inside_is all_open fits neat e top 0 e 1 i.mode i (λ q. absurd (cc)) so.1 (inr refl) in
      let place_is : net2.place e ≡ top = put_here stands.net.place e top in
      let parent_is : net2.parent e ≡ 0 = put_here stands.net.parent e 0 in
      let depth_is : net2.depth e ≡ 1 = put_here stands.net.depth e 1 in
      let adds : Adds stands.net net2 e = record {
        fresh = so.0;
        not_main = above;
        place = put_else stands.net.place e top;
        parent = put_else stands.net.parent e 0;
        lead = put_else stands.net.lead e e;
        depth = put_else stands.net.depth e 1;
        mode = put_else stands.net.mode e i.mode;
        last = λ q ne. put_else stands.net.last 0 e q (λ z. ne (z ∙ sym parent_is));
        newest = ap (λ (z : ℕ). net2.last z) parent_is ∙ put_here stands.net.last 0 e;
        how = first_of_main place_is parent_is (put_here stands.net.lead e e) depth_is;
      } in
      let main_open : (states' 0).given ≡ false = ap (λ (z : EntryState). z.given) (else_is 0 (λ q. above (sym q))) ∙ not_given n (slice_index ws 0) stands.net stands.gave (states_of ws) (infos_of ws) (views_of sights) stands.rule id s.known.view 0 (view_at sights id s at) main ungiven_main in
      let begun : Begun n stands.net net2 states' (infos_of ws) e = record {
        adds = adds;
        begins = place_is;
        inside = inside_is;
        blank = subst (λ (z : Place). Blank z (states' e)) (sym place_is) (subst (λ (z : EntryState). Blank top z) (sym now) top_blank);
        info = ap (λ (z : EntryInfo). z.parent) so.3 ∙ parent ∙ sym parent_is;
        open_yet = ap (λ (z : ℕ). (states' z).given) parent_is ∙ main_open;
        tells = record {
          mode = ap (λ (z : EntryInfo). z.mode) so.3 ∙ sym (put_here stands.net.mode e i.mode);
          depth = ap (λ (z : EntryInfo). z.depth) so.3 ∙ depth ∙ sym depth_is;
          shallow = omega (arith, depth_is);
        };
        ungiven = ap (λ (z : EntryState). z.given) now;
        undone = ap (λ (z : EntryState). z.done) now;
        reads = ap (λ (z : EntryState). z.reads) now;
        writes = ap (λ (z : EntryState). z.writes) now;
        folds = ap (λ (z : EntryState). z.folds) now;
        clear = ap (λ (z : EntryState). z.clear) now;
      } in
      let notes : NotesLink net2 e s.known.view s'.known.view = record {
        own = so.1;
        own_parent = subst (λ (z : ℕ). Among z s.known.view.owned) (sym parent_is) main;
        owned = refl;
        links = λ k. record { entry = e; place = sym place_is k } ∷ s.known.view.links;
        gives = refl;
        seen = refl;
        delivered = refl;
        parts = refl;
        splits = refl;
        failed = refl;
      } in
      let filled_rule = rule_fill n stands.net stands.gave (states_of ws) states' (infos_of ws) (infos_of ws) (slice_index ws 0) (views_of sights) e stands.rule (fills_word ws sights stands at all_open states' now else_is open_blank refl refl) in
      let rule = rule_first n stands.net net2 stands.gave states' (infos_of ws) (slice_index ws 0) (views_of sights) id s.known.view s'.known.view e filled_rule (view_at sights id s at) begun refl refl notes in (
        s',
        placed_stands n ws sights stands id s s' at e inside_is all_open fits neat e top 0 e 1 i.mode i (λ q. absurd (cc)) so.1 (inr refl) rule so.3 refl refl refl refl refl may.live (mine ws sights stands at),
        (
          refl,
          λ f j c p q.
              let is = one_filling (record { entry = e; state = no_flags; info = i }) (record { entry = f; state = c; info = j }) [] [] (sym may.filling ∙ q) in
              λ k. began (is k).entry 39 (is k).info s.known,
        ),
      )
