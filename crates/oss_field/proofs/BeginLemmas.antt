-- An entry of a new task begins a list of main.
use Rattle.std.proofs.Common.{◌≡◌, ◌≢◌, inl, inr, sym, subst, refl, ◌∙◌, ap, ℕ, suc, ◌<◌, ◌≤◌, arith, Bool, true, false, ◌==◌, List, [], length, set, Option, Some, None}
use Rattle.std.specs.Prelude.{slice_index, cond}
use Rattle.std.specs.Global.{Box}
use mathlib.Core.Option as maybe
use lib.ListN.{get_elem?}
use Rattle.std.proofs.lemmas.Bool.Decides.{eqb_tells}
use Rattle.std.proofs.lemmas.List.{get_or-set_same, get_or-set_other, length-set}
use Rattle.std.proofs.Math.Seq.{map-set}
use Rattle.atomic_table.proofs.Lists.{at_map, at_set}
use Rattle.oss_body.specs.Mains.{code_main}
use Rattle.oss_code.specs.declared.code.CodeParts.{CodeParts}
use Rattle.oss_jobs.specs.declared.job.Job.{Job}
use Rattle.oss_machine.specs.Frames.{CodeScript}
use Rattle.oss_machine.specs.Machines.{asks}
use Rattle.oss_model.specs.Bodies.{Body}
use Rattle.oss_syntax.specs.declared.access.Mode.{Mode}
use Rattle.oss_syntax.specs.declared.access.Mode.TheVariants.{Read, Write, Fold}
use Rattle.oss_words.specs.declared.entry.EntryInfo.{EntryInfo}
use Rattle.oss_words.specs.declared.entry.EntryState.{EntryState}
use Rattle.oss_words.specs.declared.message.Message.{Message}
use Rattle.oss_words.specs.Bits.{info_at, state_at, state_word}
use Rattle.oss_words.specs.Causes.{got}
use Rattle.oss_words.specs.Net.{Net, Place, Adds, apart, top, first_of_main}
use Rattle.oss_words.specs.Seats.{came}
use Rattle.oss_words.specs.Steps.{Begun, Blank, no_flags}
use Rattle.oss_words.specs.Sums.{below, total}
use Rattle.oss_words.specs.Views.{View, Among}
use Rattle.oss_roles.specs.Counting.{stands as has_flag}
use Rattle.oss_roles.specs.Drawing.{AreDrawn, IsFree}
use Rattle.oss_roles.specs.Field.{Bears, Field, FieldAt, IsNumberOf, of_main, of_entry, Parts, Sits, words_of}
use Rattle.oss_roles.specs.MakeSteps.{begins_list as begins}
use Rattle.oss_roles.specs.Roles.{Role, Site}
use Rattle.oss_roles.specs.Sights.{Making, Sight}
use Rattle.oss_roles.proofs.DrawLaw.{draws_keep}
use Rattle.oss_roles.proofs.MakeClaims.{fills_keep, links_keep}
use Rattle.oss_roles.proofs.MoveLaw.{agrees}
use Rattle.oss_field.specs.declared.view.SeatView.{SeatView}
use Rattle.oss_field.specs.Known.{Holding, Known, Plan, Unlinked, bearing_of, last_of, sight_of}
use Rattle.oss_field.specs.Layout.{job_in, cell_word, state_word_of, info_word_of, value_word_of, number_word_of, count_word_of, body_word_of, parts_of}
use Rattle.oss_field.specs.Linking.{MayBeginList, all_open, began_list}
use Rattle.oss_field.specs.Messages.{AreHeard}
use Rattle.oss_field.specs.Plans.{ArePlanned, IsLoose, Planned, planned_of}
use Rattle.oss_field.specs.Steps.{Steps}
use Rattle.oss_field.specs.Table.{AreSeats, Neat, Slot, Stands, is_job_of, planned_by, sights_of}
use Rattle.oss_field.proofs.DepthLemmas.{path_depth}
use Rattle.oss_field.proofs.FillLemmas.{apart_now, blank_of, inside, loose, none, planned_at}
use Rattle.oss_field.proofs.HeardLemmas.{heard_same}
use Rattle.oss_field.proofs.MarkLemmas.{marked_on, stays_same}
use Rattle.oss_field.proofs.LooseLemmas.{planned_linked}
use Rattle.oss_field.proofs.MakingLemmas.{words_stay}
use Rattle.oss_field.proofs.PlanLemmas.{is_apart}
use Rattle.oss_field.proofs.RoleFacts.{RoleFacts, cell_is, counts_off, role_facts}
use Rattle.oss_field.proofs.TableLemmas.{free_stays, sights_set, sits_at}

-- a function with one value changed
abbrev pub put : {A : Type 0} → (ℕ → A) → ℕ → A → ℕ → A
put f e x j = cond (j == e) x (f j)

pub put_here : {A : Type 0} (f : ℕ → A) (e : ℕ) (x : A) → put f e x e ≡ x
put_here f e x = elim (eqb_tells e e) [ inl h ↦ ap (λ (b : Bool). cond b x (f e)) h.0 | inr h ↦ absurd (h.1 refl) ]

pub put_else : {A : Type 0} (f : ℕ → A) (e : ℕ) (x : A) (j : ℕ) → j ≢ e → put f e x j ≡ f j
put_else f e x j ne = elim (eqb_tells j e) [ inl h ↦ absurd (ne h.1) | inr h ↦ ap (λ (b : Bool). cond b x (f j)) h.0 ]

some_is : {A : Type 0} (x y : A) → Some x ≡ Some y → x ≡ y
some_is x y q = cc

open_flag : (mode : Mode) → has_flag mode all_open ≡ true
open_flag Read = refl
open_flag Write = refl
open_flag (Fold op) = refl

-- The table after the step

module _ (code : CodeParts) (fuel n id : ℕ) (v : SeatView) (e : ℕ) (i : EntryInfo) (cell : Option ℕ) (may : MayBeginList code e i cell v.known) where
  abbrev y : Unlinked
  y = record { task = i.task; entry = e; state = no_flags; info = Some i; cell = cell }

  abbrev h : Holding
  h = may.may.holding

  abbrev plan : Plan
  plan = record { task = i.task; holding = may.may.holding; order = may.may.order }

  abbrev making : Making
  making = record { by = may.may.holding.number; task = i.task; stage = may.may.stage }

  abbrev l : Known
  l = began_list (length code.first) e v.known

  module _ (ws : List ℕ) (homes : List (maybe.Option Slot)) (views : List SeatView) (stands : Stands code fuel n ws homes views) (sits : get_elem? views id ≡ maybe.some v) where
    abbrev k : Parts (Box Job)
    k = parts_of (length code.first) ws homes stands.cells

    abbrev f : Field (asks code) (code_main code fuel) code.first (is_job_of code stands.before) n k (sights_of views)
    f = stands.rule.field

    abbrev ws' : List ℕ
    ws' = set ws (state_word_of (length code.first) e) 39

    abbrev states' : ℕ → EntryState
    states' = λ j. state_at (slice_index (set ws (state_word_of (length code.first) e) 39) (state_word_of (length code.first) j))

    lies : IsLoose stands.net stands.role k.states k.infos k.cell_of v.known.plans y
    lies = loose code fuel n id v y may.loose refl 39 ws homes views stands sits

    low : e < n
    low = inside code fuel n id v y may.loose refl 39 ws homes views stands sits

    unset : k.states e ≡ no_flags
    unset = none code fuel n id v y may.loose refl 39 ws homes views stands sits

    word_here : slice_index ws' (state_word_of (length code.first) e) ≡ 39
    word_here = get_or-set_same ws (state_word_of (length code.first) e) 39 0 (let s = stands.size in let j = low in omega (arith, s, j))

    word_else : (j : ℕ) → j ≢ e → slice_index ws' (state_word_of (length code.first) j) ≡ slice_index ws (state_word_of (length code.first) j)
    word_else j ne = get_or-set_other ws (state_word_of (length code.first) e) (state_word_of (length code.first) j) 39 0 (λ q. ne (omega (arith, q)))

    here : states' e ≡ all_open
    here = ap state_at word_here

    else_is : (j : ℕ) → j ≢ e → states' j ≡ k.states j
    else_is j ne = ap state_at (word_else j ne)

    infos_same : (j : ℕ) → slice_index ws' (info_word_of (length code.first) j) ≡ slice_index ws (info_word_of (length code.first) j)
    infos_same j = get_or-set_other ws (state_word_of (length code.first) e) (info_word_of (length code.first) j) 39 0 (λ q. absurd (omega (arith, q)))

    values_same : (j : ℕ) → slice_index ws' (value_word_of (length code.first) j) ≡ slice_index ws (value_word_of (length code.first) j)
    values_same j = get_or-set_other ws (state_word_of (length code.first) e) (value_word_of (length code.first) j) 39 0 (λ q. absurd (omega (arith, q)))

    numbers_same : (j : ℕ) → slice_index ws' (number_word_of (length code.first) j) ≡ slice_index ws (number_word_of (length code.first) j)
    numbers_same j = get_or-set_other ws (state_word_of (length code.first) e) (number_word_of (length code.first) j) 39 0 (λ q. absurd (omega (arith, q)))

    counts_same : (j : ℕ) → slice_index ws' (count_word_of (length code.first) j) ≡ slice_index ws (count_word_of (length code.first) j)
    counts_same j = get_or-set_other ws (state_word_of (length code.first) e) (count_word_of (length code.first) j) 39 0 (λ q. absurd (omega (arith, q)))

    bodies_same : (j : ℕ) → slice_index ws' (body_word_of (length code.first) j) ≡ slice_index ws (body_word_of (length code.first) j)
    bodies_same j = get_or-set_other ws (state_word_of (length code.first) e) (body_word_of (length code.first) j) 39 0 (λ q. absurd (omega (arith, q)))

    draw_same : slice_index ws' 0 ≡ slice_index ws 0
    draw_same = get_or-set_other ws (state_word_of (length code.first) e) 0 39 0 (λ q. absurd (omega (arith, q)))

    parts_now : ◌≡◌ {A = Parts (Box Job)} (record k { states = states' }) (parts_of (length code.first) ws' homes stands.cells)
    parts_now = λ t. record {
      states = states';
      infos = λ j. info_at (sym (infos_same j) t);
      values = λ j. sym (values_same j) t;
      cell_of = λ j. sym (numbers_same j) t;
      counts = λ j. sym (counts_same j) t;
      bodies = λ j. sym (bodies_same j) t;
      jobs = λ j. job_in (get_elem? homes j);
      cells = stands.cells;
    }

    at : Sits (sights_of views) id (sight_of v.known)
    at = sits_at views id v sits

    has : Bears (sight_of v.known) may.may.place (bearing_of may.may.holding)
    has = at_map bearing_of v.known.bears may.may.place may.may.holding may.may.holds

    -- main's path
    at_main : (t : ℕ) (p : List ℕ) → IsNumberOf f.role t p → t ≡ 0 → p ≡ []
    at_main t p of_main zero_is = refl
    at_main t p (of_entry r is site path) zero_is = absurd (let z : None ≡ Some r = sym f.roles.main ∙ (ap f.role (sym zero_is) ∙ is) in let bad : ⊥ = cc in bad)

    told : RoleFacts may.may.holding i cell lies.it
    told = role_facts code plan e i refl lies.it cell may.may.entry
        (stands.planned.roles id (planned_of v.known) (planned_at code fuel n id v y may.loose refl 39 ws homes views stands sits) plan may.may.plan e lies.it lies.is lies.of_task)

    -- main's path, and how deep the entry lies
    main_path : may.may.holding.path ≡ []
    main_path = at_main may.may.holding.number may.may.holding.path (f.borne id (sight_of v.known) at may.may.place (bearing_of may.may.holding) has).number may.main

    depth_one : i.depth ≡ 1
    depth_one =
        let b = f.borne id (sight_of v.known) at may.may.place (bearing_of may.may.holding) has in
        let d = path_depth (asks code) (code_main code fuel) f.state (agrees (asks code) (code_main code fuel) code.first f.state f.setting f.reached).made refl may.may.holding.path b.task b.at_ in
        may.may.depth ∙ ap (λ (z : ℕ). suc z) (ap (λ (z : Body CodeScript). z.start.context.depth) (sym b.body) ∙ (d ∙ ap (λ (z : List ℕ). length z) main_path))

    not_main : e ≢ 0
    not_main q = let z : None ≡ Some lies.it = sym f.roles.main ∙ (ap f.role (sym q) ∙ (ap (λ (z : ℕ → Option Role). z e) stands.rule.same_role ∙ lies.is)) in cc

    -- the net in which it is the first of a list of main
    abbrev net' : Net
    net' = record {
      place = put stands.net.place e top;
      parent = put stands.net.parent e 0;
      lead = put stands.net.lead e e;
      depth = put stands.net.depth e 1;
      mode = put stands.net.mode e i.mode;
      last = put stands.net.last 0 e;
    }

    adds : Adds stands.net net' e
    adds = record {
      fresh = lies.loose;
      not_main = not_main;
      place = put_else stands.net.place e top;
      parent = put_else stands.net.parent e 0;
      lead = put_else stands.net.lead e e;
      depth = put_else stands.net.depth e 1;
      mode = put_else stands.net.mode e i.mode;
      last = λ q ne. put_else stands.net.last 0 e q (λ z. ne (z ∙ sym (put_here stands.net.parent e 0)));
      newest = ap (λ (z : ℕ). put stands.net.last 0 e z) (put_here stands.net.parent e 0) ∙ put_here stands.net.last 0 e;
      how = first_of_main (put_here stands.net.place e top) (put_here stands.net.parent e 0) (put_here stands.net.lead e e) (put_here stands.net.depth e 1);
    }

    main_open : (k.states 0).given ≡ false
    main_open = f.words.given 0 (let j = low in omega (arith, j)) ∙ ungiven (f.gave 0) refl
      where
        ungiven : (b : Bool) → f.gave 0 ≡ b → f.gave 0 ≡ false
        ungiven true q = absurd (f.gave_hangs 0 q f.words.flow.words.shaped.main.0)
        ungiven false q = q

    begun : Begun n stands.net net' states' k.infos e
    begun = record {
      adds = adds;
      begins = put_here stands.net.place e top;
      inside = low;
      blank = subst (λ (z : Place). Blank z (states' e)) (sym (put_here stands.net.place e top)) (subst (λ (z : EntryState). Blank top z) (sym here) (record { linked = refl; headed = refl; left = refl; folds = refl; reads = refl; writes = refl; clear = refl }));
      info = ap (λ (z : EntryInfo). z.parent) (lies.info i refl) ∙ (may.may.of_main may.main ∙ sym (put_here stands.net.parent e 0));
      open_yet = ap (λ (z : ℕ). (states' z).given) (put_here stands.net.parent e 0) ∙ (ap (λ (z : EntryState). z.given) (else_is 0 (λ q. not_main (sym q))) ∙ main_open);
      tells = record {
        mode = ap (λ (z : EntryInfo). z.mode) (lies.info i refl) ∙ sym (put_here stands.net.mode e i.mode);
        depth = ap (λ (z : EntryInfo). z.depth) (lies.info i refl) ∙ (depth_one ∙ sym (put_here stands.net.depth e 1));
        shallow = let d = put_here stands.net.depth e 1 in omega (arith, d);
      };
      ungiven = ap (λ (z : EntryState). z.given) here;
      undone = ap (λ (z : EntryState). z.done) here;
      reads = ap (λ (z : EntryState). z.reads) here;
      writes = ap (λ (z : EntryState). z.writes) here;
      folds = ap (λ (z : EntryState). z.folds) here;
      clear = ap (λ (z : EntryState). z.clear) here;
    }

    open_blank : Blank apart all_open
    open_blank = record { linked = refl; headed = refl; left = refl; folds = refl; reads = refl; writes = refl; clear = refl }

    is_role : f.role e ≡ Some lies.it
    is_role = ap (λ (z : ℕ → Option Role). z e) stands.rule.same_role ∙ lies.is

    written : FieldAt (asks code) (code_main code fuel) code.first (is_job_of code stands.before) n f.net f.gave f.role (record k { states = states' }) (sights_of views)
    written = fills_keep CodeScript (Box Job) (is_job_of code stands.before) (asks code) (code_main code fuel) code.first n k (sights_of views) f e states' k.infos k.cell_of (record {
      fills = record {
        inside = low;
        loose = apart_now code fuel n id v y may.loose refl 39 ws homes views stands sits;
        blank_before = blank_of (k.states e) unset;
        blank_now = subst (λ (z : EntryState). Blank apart z) (sym here) open_blank;
        undone = ap (λ (z : EntryState). z.done) here;
        ungiven_before = ap (λ (z : EntryState). z.given) unset;
        ungiven = ap (λ (z : EntryState). z.given) here;
        once = inr unset;
        others = else_is;
        other_infos = λ j ne. refl;
      };
      cells = λ j ne. refl;
      flags = inr (λ r is. ap (λ (z : Role). z.counts) (some_is r lies.it (sym is ∙ is_role)) ∙ counts_off may.may.holding i cell lies.it.counts may.main may.none told.counts);
    })

    linked : FieldAt (asks code) (code_main code fuel) code.first (is_job_of code stands.before) n net' stands.gave stands.role (record k { states = states' }) (set (sights_of views) id (sight_of l))
    linked =
        let net_is : written.field.net ≡ stands.net = written.same_net ∙ stands.rule.same_net in
        let g = links_keep CodeScript (Box Job) (is_job_of code stands.before) (asks code) (code_main code fuel) code.first n (record k { states = states' }) (sights_of views) written.field
        id (sight_of v.known) (sight_of l) may.may.place (bearing_of may.may.holding) making e lies.it net' states' (record {
          sits = at;
          has = has;
          by = refl;
          among = may.may.among;
          is = ap (λ (z : ℕ → Option Role). z e) written.same_role ∙ is_role;
          task = lies.of_task;
          linked = begins main_path (ap (λ (z : Site). last_of may.may.holding z) told.site ∙ may.none)
              (subst (λ (z : Net). Begun n z net' states' k.infos e) (sym net_is) begun) refl refl refl;
          told = (
            put_here stands.net.mode e i.mode ∙ sym told.mode,
            ap (λ (z : EntryInfo). z.strong) (lies.info i refl) ∙ sym told.strong,
            ap (λ (z : EntryInfo). z.task) (lies.info i refl) ∙ sym lies.of_task,
          );
          starts = λ c s. ap (λ (z : EntryState). has_flag lies.it.mode z) here ∙ open_flag lies.it.mode;
          cell = λ c on_c. lies.cell c (cell_is cell c (sym told.site ∙ on_c));
          same = record { bears = refl; makes = refl; ready = refl; loaded = refl; joined = refl; seen = refl; still = refl };
          owes = refl;
        }) in
        record { field = g.field; same_net = g.same_net; same_gave = g.same_gave ∙ (written.same_gave ∙ stands.rule.same_gave); same_role = g.same_role ∙ (written.same_role ∙ stands.rule.same_role) }

    -- no message has come to it
    came_same : came n net'.place states' ≡ came n stands.net.place k.states
    came_same = ap (λ (z : ℕ → ℕ). below z n) (λ t j. same j t)
      where
        of_entry_now : total (λ (m : Message). 1) (got (net'.place e) e (states' e)) ≡ total (λ (m : Message). 1) (got (stands.net.place e) e (k.states e))
        of_entry_now =
            ap (λ (z : Place). total (λ (m : Message). 1) (got z e (states' e))) (put_here stands.net.place e top)
            ∙ (ap (λ (z : EntryState). total (λ (m : Message). 1) (got top e z)) here
            ∙ sym (ap (λ (z : Place). total (λ (m : Message). 1) (got z e (k.states e))) lies.loose ∙ ap (λ (z : EntryState). total (λ (m : Message). 1) (got apart e z)) unset))

        same : (j : ℕ) → total (λ (m : Message). 1) (got (net'.place j) j (states' j)) ≡ total (λ (m : Message). 1) (got (stands.net.place j) j (k.states j))
        same j = elim (eqb_tells j e) [
          | inl q ↦ subst (λ (z : ℕ). total (λ (m : Message). 1) (got (net'.place z) z (states' z)) ≡ total (λ (m : Message). 1) (got (stands.net.place z) z (k.states z))) (sym q.1) of_entry_now
          | inr q ↦ ap (λ (z : Place). total (λ (m : Message). 1) (got z j (states' j))) (put_else stands.net.place e top j q.1) ∙ ap (λ (z : EntryState). total (λ (m : Message). 1) (got (stands.net.place j) j z)) (else_is j q.1)
        ]

    hung : (j : ℕ) → stands.role j ≡ None → stands.net.place j ≡ apart
    hung j none_there = is_apart (stands.net.place j) (λ ne.
        let r = f.roles.hung j (subst (λ (z : Net). z.place j ≢ apart) (sym stands.rule.same_net) ne) in
        let z : None ≡ Some r.0 = sym none_there ∙ (ap (λ (z : ℕ → Option Role). z j) (sym stands.rule.same_role) ∙ r.1) in cc)

    planned_now : ArePlanned code n net' stands.role states' k.infos k.cell_of (set (planned_by views) id (planned_of l))
    planned_now = planned_linked code n stands.net stands.role k.states k.infos k.cell_of (planned_by views) stands.planned id (planned_of v.known) (planned_at code fuel n id v y may.loose refl 39 ws homes views stands sits) y may.loose
        net' states' (put_else stands.net.place e top) (λ q. let z : top ≡ apart = sym (put_here stands.net.place e top) ∙ q in cc) (λ j a ne. else_is j ne) hung

    -- what hangs goes on to hang
    still_hangs : (j : ℕ) → stands.net.place j ≢ apart → net'.place j ≢ apart
    still_hangs j hangs q = elim (eqb_tells j e) [
      | inl s ↦ hangs (ap (λ (z : ℕ). stands.net.place z) s.1 ∙ lies.loose)
      | inr s ↦ hangs (sym (put_else stands.net.place e top j s.1) ∙ q)
    ]

    not_it : (j : ℕ) → stands.net.place j ≢ apart → j ≢ e
    not_it j hangs q = hangs (ap (λ (z : ℕ). stands.net.place z) q ∙ lies.loose)

    main_apart : stands.net.place 0 ≡ apart
    main_apart = ap (λ (z : Net). z.place 0) (sym stands.rule.same_net) ∙ f.words.flow.words.shaped.main.0

    heard_yet : AreHeard stands.net (λ j. info_at (slice_index ws' (info_word_of (length code.first) j))) (set views id (record { known = l }))
    heard_yet = heard_same stands.net k.infos (λ j. info_at (slice_index ws' (info_word_of (length code.first) j))) views id v l sits refl (λ j. ap info_at (infos_same j)) stands.heard

    began_stands : Stands code fuel n (set ws (state_word_of (length code.first) e) 39) homes (set views id (record { known = began_list (length code.first) e v.known }))
    began_stands = record {
      net = net';
      gave = stands.gave;
      role = stands.role;
      before = stands.before;
      fresh = stands.fresh;
      cells = stands.cells;
      size = length-set ws (state_word_of (length code.first) e) 39 ∙ stands.size;
      slots = stands.slots;
      sized = stands.sized;
      cell_words = λ c small. get_or-set_other ws (state_word_of (length code.first) e) (cell_word c) 39 0 (λ q. absurd (omega (arith, q, small))) ∙ stands.cell_words c small;
      empty = λ j small z. stands.empty j small (sym (bodies_same j) ∙ z);
      whole = λ j. elim (eqb_tells j e) [
        | inl q ↦ subst (λ (z : ℕ). slice_index ws' (state_word_of (length code.first) z) ≡ state_word (state_at (slice_index ws' (state_word_of (length code.first) z)))) (sym q.1) (word_here ∙ sym (ap (λ (z : ℕ). state_word (state_at z)) word_here))
        | inr q ↦ subst (λ (z : ℕ). z ≡ state_word (state_at z)) (sym (word_else j q.1)) (stands.whole j)
      ];
      neat = λ j. elim (eqb_tells j e) [
        | inl q ↦ subst (λ (z : ℕ). Neat (states' z)) (sym q.1) (subst (λ (z : EntryState). Neat z) (sym here) (record { next = λ z. (refl, refl, refl); child = λ z. (refl, refl, refl) }))
        | inr q ↦ subst (λ (z : ℕ). Neat (state_at z)) (sym (word_else j q.1)) (stands.neat j)
      ];
      rule = subst (λ (z : List (Sight CodeScript)). FieldAt (asks code) (code_main code fuel) code.first (is_job_of code stands.before) n net' stands.gave stands.role (parts_of (length code.first) ws' homes stands.cells) z) (sym (sights_set views id l))
          (subst (λ (z : Parts (Box Job)). FieldAt (asks code) (code_main code fuel) code.first (is_job_of code stands.before) n net' stands.gave stands.role z (set (sights_of views) id (sight_of l))) parts_now linked);
      told = λ j x sx u among. elim (at_set views id j (record { known = l }) x sx) [
        | inl q ↦ stands.told id v sits u (subst (λ (z : SeatView). Among u z.known.bears) (sym q.1) among)
        | inr q ↦ stands.told j x q.1 u among
      ];
      drawn = subst (λ (z : List (Sight CodeScript)). AreDrawn stands.role z) (sym (sights_set views id l))
          (draws_keep CodeScript stands.role (sights_of views) id (sight_of v.known) (sight_of l) at (λ j a. inl a) stands.drawn);
      undrawn = λ j high. subst (λ (z : List (Sight CodeScript)). IsFree stands.role z j) (sym (sights_set views id l))
          (free_stays stands.role (sights_of views) id (sight_of v.known) (sight_of l) at refl j (stands.undrawn j (subst (λ (z : ℕ). z ≤ j) draw_same high)));
      selves = stands.selves;
      heard = record { told = λ j x sx u among. let r = heard_yet.told j x sx u among in (still_hangs u.entry r.0, r.1) };
      marked = marked_on stands.net net' stands.role stands.role k.states states' k.values (λ j. slice_index ws' (value_word_of (length code.first) j))
          (record {
            place = λ j hangs. put_else stands.net.place e top j (not_it j hangs);
            last = λ j hangs left. put_else stands.net.last 0 e j (λ q. hangs (ap (λ (z : ℕ). stands.net.place z) q ∙ main_apart));
            role_is = λ j r is. is;
            stays = λ j hangs. stays_same (k.states j) (states' j) (else_is j (not_it j hangs));
            value = λ j hangs left. values_same j;
          }) views id v l sits refl stands.marked;
      seats = subst (λ (z : List View). AreSeats n net' states' (slice_index ws' 0) z) (sym (words_stay views id v l sits refl))
          (subst (λ (z : ℕ). AreSeats n net' states' z (words_of (sights_of views))) (sym draw_same)
          (let s = stands.seats in record {
            main_drawn = s.main_drawn;
            drawn = s.drawn;
            failed = s.failed;
            split = s.split;
            few = s.few;
            parts = s.parts;
            work = subst (λ (z : ℕ). total (λ (w : View). w.delivered) (words_of (sights_of views)) ≤ z) (sym came_same) s.work;
          }));
      planned = subst (λ (z : List Planned). ArePlanned code n net' stands.role states' (λ j. info_at (slice_index ws' (info_word_of (length code.first) j))) (λ j. slice_index ws' (number_word_of (length code.first) j)) z) (sym (map-set (λ (z : SeatView). planned_of z.known) views id (record { known = l })))
          (subst (λ (z : ℕ → ℕ). ArePlanned code n net' stands.role states' (λ j. info_at (slice_index ws' (info_word_of (length code.first) j))) z (set (planned_by views) id (planned_of l))) (λ t j. sym (numbers_same j) t)
          (subst (λ (z : ℕ → EntryInfo). ArePlanned code n net' stands.role states' z k.cell_of (set (planned_by views) id (planned_of l))) (λ t j. info_at (sym (infos_same j) t)) planned_now));
    }

  pub begins_list_stands : Steps code fuel n id v (state_word_of (length code.first) e) (λ z. 39) (λ z k. k ≡ began_list (length code.first) e v.known)
  begins_list_stands ws homes views stands sits bits = (began_list (length code.first) e v.known, began_stands ws homes views stands sits, refl)
