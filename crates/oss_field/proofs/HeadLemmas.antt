-- An entry of a new task is made the first child of its creator's entry there.
use Rattle.std.proofs.Common.{◌≡◌, ◌≢◌, inl, inr, sym, subst, refl, ◌∙◌, ap, ℕ, ◌<◌, ◌≤◌, ◌+◌, ◌%◌, ◌^◌, arith, true, false, List, length, set, Option, Some}
use Rattle.std.specs.Prelude.{slice_index}
use Rattle.std.specs.Global.{Box}
use mathlib.Core.Option as maybe
use lib.ListN.{get_elem?}
use Rattle.oss_body.specs.Mains.{code_main}
use Rattle.oss_code.specs.declared.code.CodeParts.{CodeParts}
use Rattle.oss_jobs.specs.declared.job.Job.{Job}
use Rattle.oss_machine.specs.Frames.{CodeScript}
use Rattle.oss_machine.specs.Machines.{asks}
use Rattle.oss_syntax.specs.declared.access.Mode.{Mode}
use Rattle.oss_words.specs.declared.entry.EntryInfo.{EntryInfo}
use Rattle.oss_words.specs.declared.entry.EntryState.{EntryState}
use Rattle.oss_words.specs.declared.message.Message.{Message}
use Rattle.oss_words.specs.Bits.{info_at, state_at, state_word, FitsWord}
use Rattle.oss_words.specs.Causes.{got, is_fold, sent}
use Rattle.oss_words.specs.Net.{Net, Place, Adds, apart, first as first_place, after, below_parent}
use Rattle.oss_words.specs.Steps.{Blank, Compares, Links, to_child}
use Rattle.oss_words.specs.Sums.{total}
use Rattle.oss_words.proofs.CauseLemmas.{clash}
use Rattle.oss_words.proofs.KeptLaw.{at_here}
use Rattle.oss_words.proofs.StillLemmas.{child_grown}
use Rattle.oss_roles.specs.Counting.{stands as has_flag}
use Rattle.oss_roles.specs.Field.{Field, FieldAt, Parts, words_of}
use Rattle.oss_roles.specs.MakeSteps.{below_creator}
use Rattle.oss_roles.specs.Roles.{Filed, Site}
use Rattle.oss_roles.proofs.MakeClaims.{links_keep}
use Rattle.oss_field.specs.declared.view.SeatView.{SeatView}
use Rattle.oss_field.specs.Hanging.{LinksAt, MayHead, linked_at}
use Rattle.oss_field.specs.Known.{Known, bearing_of, last_of, sight_of}
use Rattle.oss_field.specs.Layout.{parts_of, state_word_of}
use Rattle.oss_field.specs.Linking.{clear_alone}
use Rattle.oss_field.specs.Masks.{child_mask, same_fold}
use Rattle.oss_field.specs.Plans.{IsLoose}
use Rattle.oss_field.specs.Steps.{Steps}
use Rattle.oss_field.specs.Table.{Neat, Slot, is_job_of, sights_of, Stands}
use Rattle.oss_field.proofs.BeginLemmas.{put, put_else, put_here}
use Rattle.oss_field.proofs.DepthLemmas.{creates_shallow}
use Rattle.oss_field.proofs.ElderLemmas.{undone, unheaded}
use Rattle.oss_field.proofs.FlagLemmas.{added, num_off, parts_fit}
use Rattle.oss_field.proofs.HangLemmas.{above, at, covered, depth_is, facts, has, is_role, lies, low, making, none_below, not_main, parent_below, parent_depth, parent_open, not_parent, parent_unleft}
use Rattle.oss_field.proofs.HearLemmas.{bounded, told_hangs}
use Rattle.oss_field.proofs.HungTable.{hung_stands}
use Rattle.oss_field.proofs.MaskLemmas.{compares}
use Rattle.oss_field.proofs.RoleFacts.{RoleFacts, begins_none, cell_is, starts_with}
use Rattle.oss_field.proofs.WordTable.{state_else, state_here}

first_blank : (o : ℕ) → Blank (first_place o) clear_alone
first_blank o = record { linked = refl; headed = refl; left = refl; folds = refl; reads = refl; writes = refl; clear = refl }

module _ (code : CodeParts) (fuel n id : ℕ) (v : SeatView) (e w : ℕ) (i : EntryInfo) (cell : Option ℕ) (may : MayHead code e w i cell v.known) (few : n ≤ 16777216) where
  module _ (ws : List ℕ) (homes : List (maybe.Option Slot)) (views : List SeatView) (stands : Stands code fuel n ws homes views) (sits : get_elem? views id ≡ maybe.some v) where
    abbrev k : Parts (Box Job)
    k = parts_of (length code.first) ws homes stands.cells

    abbrev f : Field (asks code) (code_main code fuel) code.first (is_job_of code stands.before) n k (sights_of views)
    f = stands.rule.field

    loosely : IsLoose stands.net stands.role k.states k.infos k.cell_of v.known.plans (record { task = i.task; entry = e; state = clear_alone; info = Some i; cell = cell })
    loosely = lies code fuel n id v e i cell may.may clear_alone may.loose ws homes views stands sits

    role_is : RoleFacts may.may.holding i cell loosely.it
    unfolding loosely
    role_is = facts code fuel n id v e i cell may.may clear_alone may.loose ws homes views stands sits

    below_n : e < n
    below_n = low code fuel n id v e i cell may.may clear_alone may.loose ws homes views stands sits

    state_is : k.states e ≡ clear_alone
    state_is = loosely.state

    info_is : k.infos e ≡ i
    info_is = loosely.info i refl

    loose_now : f.net.place e ≡ apart
    loose_now = ap (λ (z : Net). z.place e) stands.rule.same_net ∙ loosely.loose

    -- of the entry to which it is linked the seat was told
    told : (f.net.place i.parent ≢ apart) × (k.infos i.parent ≡ info_at w)
    told = told_hangs code fuel n ws homes views stands id v sits i.parent (info_at w) may.told

    inside : i.parent < n
    inside = f.words.flow.words.inside i.parent told.0

    mode_is : f.net.mode i.parent ≡ (info_at w).mode
    mode_is = sym (f.words.modes.mode i.parent told.0) ∙ ap (λ (z : EntryInfo). z.mode) told.1

    bare : (k.states i.parent).headed ≡ false
    bare = unheaded n f.net k.states k.infos (words_of (sights_of views)) f.words.flow.words i.parent inside (none_below code fuel n id v e i cell may.may clear_alone may.loose ws homes views stands sits may.below_main may.none)

    not_done : (k.states i.parent).done ≡ false
    not_done = undone n f.net k.states k.infos (words_of (sights_of views)) f.words.flow.words i.parent inside (parent_open code fuel n id v e i cell may.may clear_alone may.loose ws homes views stands sits)

    abbrev old : EntryState
    old = state_at (slice_index ws (state_word_of (length code.first) i.parent))

    abbrev c : EntryState
    c = record (state_at (slice_index ws (state_word_of (length code.first) i.parent))) { headed = true; child = e; child_folds = is_fold i.mode; child_same = same_fold (info_at w).mode i.mode }

    fits : FitsWord c
    fits = record { child = (let p = below_n in omega (arith, p, few)); next = (parts_fit (slice_index ws (state_word_of (length code.first) i.parent))).next }

    neat : Neat c
    neat = record { child = λ z. absurd (clash refl z); next = (stands.neat i.parent).next }

    sum : ((slice_index ws (state_word_of (length code.first) i.parent) + child_mask e (info_at w).mode i.mode) % 2 ^ 64 ≡ state_word c) × (state_at (slice_index ws (state_word_of (length code.first) i.parent) + child_mask e (info_at w).mode i.mode) ≡ c) × (slice_index ws (state_word_of (length code.first) i.parent) + child_mask e (info_at w).mode i.mode < 18446744073709551616)
    sum =
        let zeros = (stands.neat i.parent).child bare in
        added old c (slice_index ws (state_word_of (length code.first) i.parent)) (child_mask e (info_at w).mode i.mode) (stands.whole i.parent)
        (let p = num_off old.headed bare in let q = zeros.0 in let u = num_off old.child_folds zeros.1 in let t = num_off old.child_same zeros.2 in omega (arith, p, q, u, t)) fits

    abbrev states' : ℕ → EntryState
    states' = λ j. state_at (slice_index (set ws (state_word_of (length code.first) i.parent) (state_word (record (state_at (slice_index ws (state_word_of (length code.first) i.parent))) { headed = true; child = e; child_folds = is_fold i.mode; child_same = same_fold (info_at w).mode i.mode }))) (state_word_of (length code.first) j))

    now : states' i.parent ≡ c
    now = state_here code fuel n ws homes views stands i.parent inside c fits neat

    others : (j : ℕ) → j ≢ i.parent → states' j ≡ k.states j
    others = state_else code fuel n ws homes views stands i.parent inside c fits neat

    abbrev l : Known
    l = linked_at (length code.first) e i.parent w (child_mask e (info_at w).mode i.mode) (slice_index ws (state_word_of (length code.first) i.parent)) v.known

    -- the net in which it hangs there
    abbrev net' : Net
    net' = record {
      place = put f.net.place e (first_place i.parent);
      parent = put f.net.parent e i.parent;
      lead = put f.net.lead e e;
      depth = put f.net.depth e i.depth;
      mode = put f.net.mode e i.mode;
      last = put f.net.last i.parent e;
    }

    place_is : net'.place e ≡ first_place i.parent
    place_is = put_here f.net.place e (first_place i.parent)

    up_is : net'.parent e ≡ i.parent
    up_is = put_here f.net.parent e i.parent

    deep_is : net'.depth e ≡ i.depth
    deep_is = put_here f.net.depth e i.depth

    shape_is : net'.mode e ≡ i.mode
    shape_is = put_here f.net.mode e i.mode

    apart_from : i.parent ≢ e
    apart_from q = let b = parent_below code fuel n id v e i cell may.may clear_alone may.loose ws homes views stands sits may.below_main may.none in omega (arith, q, b)

    adds : Adds f.net net' e
    adds = record {
      fresh = loose_now;
      not_main = not_main code fuel n id v e i cell may.may clear_alone may.loose ws homes views stands sits;
      place = put_else f.net.place e (first_place i.parent);
      parent = put_else f.net.parent e i.parent;
      lead = put_else f.net.lead e e;
      depth = put_else f.net.depth e i.depth;
      mode = put_else f.net.mode e i.mode;
      last = λ q nq. put_else f.net.last i.parent e q (λ z. nq (z ∙ sym up_is));
      newest = ap (λ (z : ℕ). net'.last z) up_is ∙ put_here f.net.last i.parent e;
      how = below_parent i.parent place_is up_is (put_here f.net.lead e e) (let a = deep_is in let b = depth_is code fuel n id v e i cell may.may clear_alone may.loose ws homes views stands sits in let d = parent_depth code fuel n id v e i cell may.may clear_alone may.loose ws homes views stands sits may.below_main may.none in omega (arith, a, b, d)) apart_from told.0 (none_below code fuel n id v e i cell may.may clear_alone may.loose ws homes views stands sits may.below_main may.none);
    }

    links : Links n f.net net' k.states states' k.infos i.parent e v.known.words l.words
    links = record {
      adds = adds;
      inside = inside;
      inside_new = below_n;
      empty = may.empty;
      full = may.whole;
      links = to_child place_is bare not_done (is_fold i.mode) (same_fold (info_at w).mode i.mode) now;
      others = others;
      blank = subst (λ (z : Place). Blank z (k.states e)) (sym place_is) (subst (λ (z : EntryState). Blank (first_place i.parent) z) (sym state_is) (first_blank i.parent));
      info = ap (λ (z : EntryInfo). z.parent) info_is ∙ sym up_is;
      open_yet = ap (λ (z : ℕ). (k.states z).given) up_is ∙ parent_open code fuel n id v e i cell may.may clear_alone may.loose ws homes views stands sits;
      tells = record { mode = ap (λ (z : EntryInfo). z.mode) info_is ∙ sym shape_is; depth = ap (λ (z : EntryInfo). z.depth) info_is ∙ sym deep_is; shallow = (let a = deep_is in let b = may.may.depth in let s = creates_shallow (asks code) may.may.holding.body may.may.order may.may.act in omega (arith, a, b, s)) };
      ungiven = ap (λ (z : EntryState). z.given) state_is;
      undone = ap (λ (z : EntryState). z.done) state_is;
      clears = λ q. ap (λ (z : EntryState). z.clear) state_is;
      above = λ q. parent_below code fuel n id v e i cell may.may clear_alone may.loose ws homes views stands sits may.below_main may.none;
      covers = λ np. elim (covered code fuel n id v e i cell may.may clear_alone may.loose ws homes views stands sits (λ z. np (up_is ∙ z))) [
        | inl q ↦ inl (ap (λ (z : ℕ). net'.mode z) up_is ∙ (put_else f.net.mode e i.mode i.parent apart_from ∙ q))
        | inr q ↦ inr (ap (λ (z : ℕ). net'.mode z) up_is ∙ (put_else f.net.mode e i.mode i.parent apart_from ∙ (q ∙ sym shape_is)))
      ];
      sibling_bits = λ q. let z : first_place i.parent ≡ after i.parent = sym place_is ∙ q in absurd (let bad : ⊥ = cc in bad);
      child_bits = λ q. subst (λ (z : Mode). Compares z (net'.mode e) (states' i.parent).child_folds (states' i.parent).child_same) (sym (put_else f.net.mode e i.mode i.parent apart_from ∙ mode_is))
          (subst (λ (z : Mode). Compares (info_at w).mode z (states' i.parent).child_folds (states' i.parent).child_same) (sym shape_is) (subst (λ (z : EntryState). Compares (info_at w).mode i.mode z.child_folds z.child_same) (sym now) (compares (info_at w).mode i.mode)));
      sends = λ j. sent i.parent old ((sum.1 ∙ sym now) j) (sym told.1 j);
      whole = may.whole;
    }

    up : Filed f.net f.role may.may.holding.path loosely.it.site
    up =
        let a = above code fuel n id v e i cell may.may clear_alone may.loose ws homes views stands sits may.below_main in
        record { entry = i.parent; it = a.up.it; is = ap f.role (sym a.entry) ∙ a.up.is; hangs = told.0; path = a.up.path; site = a.up.site ∙ sym role_is.site }

    rule : FieldAt (asks code) (code_main code fuel) code.first (is_job_of code stands.before) n net' stands.gave stands.role (record k { states = states' }) (set (sights_of views) id (sight_of l))
    unfolding loosely up
    rule =
        let g = links_keep CodeScript (Box Job) (is_job_of code stands.before) (asks code) (code_main code fuel) code.first n k (sights_of views) f id (sight_of v.known) (sight_of l) may.may.place (bearing_of may.may.holding)
        (making code fuel n id v e i cell may.may clear_alone may.loose) e loosely.it net' states' (record {
          sits = at code fuel n id v e i cell may.may clear_alone may.loose ws homes views stands sits;
          has = has code fuel n id v e i cell may.may clear_alone may.loose ws homes views stands sits;
          by = refl;
          among = may.may.among;
          is = is_role code fuel n id v e i cell may.may clear_alone may.loose ws homes views stands sits;
          task = loosely.of_task;
          linked = below_creator up (ap (λ (z : Site). last_of may.may.holding z) role_is.site ∙ may.none) place_is links;
          told = (
            shape_is ∙ sym role_is.mode,
            ap (λ (z : EntryInfo). z.strong) info_is ∙ sym role_is.strong,
            ap (λ (z : EntryInfo). z.task) info_is ∙ sym loosely.of_task,
          );
          starts = λ off strong. ap (λ (z : Mode). has_flag z (states' e)) role_is.mode
              ∙ starts_with code may.may.holding may.may.order e i cell loosely.it.counts (states' e) may.may.entry (begins_none may.may.holding cell (inl may.below_main)) role_is.counts off (sym role_is.strong ∙ strong);
          cell = λ d on_d. loosely.cell d (cell_is cell d (sym role_is.site ∙ on_d));
          same = record { bears = refl; makes = refl; ready = refl; loaded = refl; joined = refl; seen = refl; still = refl };
          owes = refl;
        }) in
        record { field = g.field; same_net = g.same_net; same_gave = g.same_gave ∙ stands.rule.same_gave; same_role = g.same_role ∙ stands.rule.same_role }

    linked_stands : Stands code fuel n (set ws (state_word_of (length code.first) i.parent) (state_word c)) homes (set views id (record { known = l }))
    linked_stands =
        hung_stands code fuel n ws homes views stands id v sits (record { task = i.task; entry = e; state = clear_alone; info = Some i; cell = cell }) may.loose loosely i.parent inside c fits neat
        (subst (λ (z : Net). z.place i.parent ≢ apart) stands.rule.same_net told.0) (child_grown e (is_fold i.mode) (same_fold (info_at w).mode i.mode) old bare) net'
        (λ j ne. put_else f.net.place e (first_place i.parent) j ne ∙ ap (λ (z : Net). z.place j) stands.rule.same_net) (λ q. let z : first_place i.parent ≡ apart = sym place_is ∙ q in cc)
        (ap (λ (z : Place). total (λ (m : Message). 1) (got z e clear_alone)) place_is)
        (λ j there is_left. put_else f.net.last i.parent e j (not_parent code fuel n id v e i cell may.may clear_alone may.loose ws homes views stands sits j (subst (λ (z : Net). z.place j ≢ apart) (sym stands.rule.same_net) there) is_left) ∙ ap (λ (z : Net). z.last j) stands.rule.same_net)
        (record { left = λ q. q; none = λ q h. absurd (clash q (parent_unleft code fuel n id v e i cell may.may clear_alone may.loose ws homes views stands sits may.below_main)) }) l refl refl refl refl refl refl refl refl refl rule

  pub heads : Steps code fuel n id v (state_word_of (length code.first) i.parent) (λ z. (z + child_mask e (info_at w).mode i.mode) % 2 ^ 64) (λ z l. LinksAt n (length code.first) e i.parent w (child_mask e (info_at w).mode i.mode) z v.known l)
  heads ws homes views stands sits bits =
      let x : ℕ = slice_index ws (state_word_of (length code.first) i.parent) in
      let z : Known = linked_at (length code.first) e i.parent w (child_mask e (info_at w).mode i.mode) x v.known in
      let t = sum ws homes views stands sits in
      let new = linked_stands ws homes views stands sits in
      let ws' = set ws (state_word_of (length code.first) i.parent) (state_word (record (state_at x) { headed = true; child = e; child_folds = is_fold i.mode; child_same = same_fold (info_at w).mode i.mode })) in (
        z,
        subst (λ (u : ℕ). Stands code fuel n (set ws (state_word_of (length code.first) i.parent) u) homes (set views id (record { known = z }))) (sym t.0) new,
        record { known = refl; bounded = bounded code fuel n ws' homes (set views id (record { known = z })) new id (record { known = z }) (at_here views id v (record { known = z }) sits); fits = t.2 },
      )
