-- An entry whose value was joined is given up: at once, or in the first of two steps if it has children; and its last child is linked to it.
use Rattle.std.proofs.Common.{◌≡◌, ◌≢◌, ◌⊎◌, inl, inr, sym, subst, refl, ◌∙◌, ap, ℕ, ◌<◌, ◌≤◌, ◌+◌, ◌*◌, ◌%◌, ◌^◌, arith, Bool, true, false, not, ◌&&◌, List, [], ◌∷◌, ◌++◌, length, map, set}
use Rattle.std.specs.Prelude.{slice_index}
use Rattle.std.specs.Global.{Box}
use mathlib.Core.Option as maybe
use lib.ListN.{get_elem?}
use Rattle.oss_body.specs.Mains.{code_main}
use Rattle.oss_code.specs.declared.code.CodeParts.{CodeParts}
use Rattle.oss_jobs.specs.declared.job.Job.{Job}
use Rattle.oss_machine.specs.Frames.{CodeScript}
use Rattle.oss_machine.specs.Machines.{asks}
use Rattle.oss_words.specs.declared.entry.EntryState.{EntryState}
use Rattle.oss_words.specs.declared.message.Message.{Message}
use Rattle.oss_words.specs.Bits.{info_at, state_at, state_word, FitsWord}
use Rattle.oss_words.specs.Causes.{got, part, sent, starts_clear, starts_open}
use Rattle.oss_words.specs.Members.{Has}
use Rattle.oss_words.specs.Net.{Net, Place, Child, apart, first, eldest, younger}
use Rattle.oss_words.specs.Room.{Behind}
use Rattle.oss_words.specs.Seats.{came}
use Rattle.oss_words.specs.Sums.{total}
use Rattle.oss_words.specs.Views.{Among}
use Rattle.oss_words.proofs.CauseLemmas.{bools, clash}
use Rattle.oss_words.proofs.FirstLemmas.{strictly}
use Rattle.oss_words.proofs.KeptLaw.{at_here}
use Rattle.oss_words.proofs.NetLemmas.{child_hangs}
use Rattle.oss_words.proofs.SumLemmas.{below_change, total_append}
use Rattle.oss_roles.specs.Field.{Field, Parts, words_of}
use Rattle.oss_roles.specs.WordSteps.{JoinsWord, joins_at_once, joins_begin}
use Rattle.oss_roles.proofs.WordClaims.{joined_gives_keep}
use Rattle.oss_field.specs.declared.view.SeatView.{SeatView}
use Rattle.oss_field.specs.Folding.{IsCombined, JoinsHalf, JoinsWhole, join_to, joined_half, joined_whole}
use Rattle.oss_field.specs.Giving.{GivesRest}
use Rattle.oss_field.specs.Known.{Holding, Known, bearing_of, sight_of}
use Rattle.oss_field.specs.Layout.{info_word_of, parts_of, state_word_of}
use Rattle.oss_field.specs.Marks.{has_last, has_none}
use Rattle.oss_field.specs.Messages.{Later, later, without}
use Rattle.oss_field.specs.Plans.{hearing_of, planned_of}
use Rattle.oss_field.specs.Steps.{Steps}
use Rattle.oss_field.specs.Table.{Neat, Slot, is_job_of, sights_of, Stands}
use Rattle.oss_field.proofs.FlagLemmas.{added, num_off, parts_fit}
use Rattle.oss_field.proofs.FoldReadLemmas.{due_now, ungiven}
use Rattle.oss_field.proofs.GiveLemmas.{more, more_up}
use Rattle.oss_field.proofs.HearLemmas.{bounded, told_depth, told_hangs, view_at, work_bounded}
use Rattle.oss_field.proofs.MessageLemmas.{without_has, without_one}
use Rattle.oss_field.proofs.RiseLemmas.{rises_to}
use Rattle.oss_field.proofs.TableLemmas.{sits_at}
use Rattle.oss_field.proofs.WordTable.{state_else, state_here, state_stands}

-- one message more has come to an entry whose value is left, once it is given up
given_comes : (p : Place) (e : ℕ) (a : EntryState) (d : Bool) → a.given ≡ false → a.done ≡ false → a.left ≡ true
    → total (λ (m : Message). 1) (got p e a) + 1 ≤ total (λ (m : Message). 1) (got p e (record a { given = true; done = d }))
given_comes p e a d open_yet undone left =
    let folds = part (a.folds && not (starts_open p)) e 2 in
    let reads = part (a.reads && not (starts_open p)) e 3 in
    let writes = part (a.writes && not (starts_open p)) e 4 in
    let clear = part (a.clear && not (starts_clear p)) e 5 in
    let a0 = total_append (λ (m : Message). 1) (part (a.done && a.headed) e 1) (folds ++ (reads ++ (writes ++ (clear ++ part (a.given && a.left) e 0)))) in
    let a1 = total_append (λ (m : Message). 1) folds (reads ++ (writes ++ (clear ++ part (a.given && a.left) e 0))) in
    let a2 = total_append (λ (m : Message). 1) reads (writes ++ (clear ++ part (a.given && a.left) e 0)) in
    let a3 = total_append (λ (m : Message). 1) writes (clear ++ part (a.given && a.left) e 0) in
    let a4 = total_append (λ (m : Message). 1) clear (part (a.given && a.left) e 0) in
    let b0 = total_append (λ (m : Message). 1) (part (d && a.headed) e 1) (folds ++ (reads ++ (writes ++ (clear ++ part (true && a.left) e 0)))) in
    let b1 = total_append (λ (m : Message). 1) folds (reads ++ (writes ++ (clear ++ part (true && a.left) e 0))) in
    let b2 = total_append (λ (m : Message). 1) reads (writes ++ (clear ++ part (true && a.left) e 0)) in
    let b3 = total_append (λ (m : Message). 1) writes (clear ++ part (true && a.left) e 0) in
    let b4 = total_append (λ (m : Message). 1) clear (part (true && a.left) e 0) in
    let x0 : total (λ (m : Message). 1) (part (a.done && a.headed) e 1) ≡ 0 = ap (λ (z : Bool). total (λ (m : Message). 1) (part (z && a.headed) e 1)) undone in
    let x5 : total (λ (m : Message). 1) (part (a.given && a.left) e 0) ≡ 0 = ap (λ (z : Bool). total (λ (m : Message). 1) (part (z && a.left) e 0)) open_yet in
    let y5 : total (λ (m : Message). 1) (part (true && a.left) e 0) ≡ 1 = ap (λ (z : Bool). total (λ (m : Message). 1) (part z e 0)) left in
    omega (arith, a0, a1, a2, a3, a4, b0, b1, b2, b3, b4, x0, x5, y5)

-- an entry with a child has a first one
first_below : {place : ℕ → Place} {p x : ℕ} → Child place p x → (j : ℕ) × (place j ≡ first p)
first_below {x = x} (eldest t) = (x, t)
first_below (younger t rest) = first_below rest

module _ (code : CodeParts) (fuel n id : ℕ) (v : SeatView) (e w : ℕ) (s : IsCombined n v.known e w) where
  module _ (ws : List ℕ) (homes : List (maybe.Option Slot)) (views : List SeatView) (stands : Stands code fuel n ws homes views) (sits : get_elem? views id ≡ maybe.some v) where
    abbrev k : Parts (Box Job)
    k = parts_of (length code.first) ws homes stands.cells

    abbrev f : Field (asks code) (code_main code fuel) code.first (is_job_of code stands.before) n k (sights_of views)
    f = stands.rule.field

    abbrev x : ℕ
    x = slice_index ws (state_word_of (length code.first) e)

    due : (e < n) × (f.net.place e ≢ apart) × ((k.states e).folds ≡ true) × ((k.states e).left ≡ true)
    due = due_now code fuel n id v e s.held ws homes views stands sits

    off : (k.states e).given ≡ false
    off = ungiven code fuel n id v e s.held ws homes views stands sits

    undone : (k.states e).done ≡ false
    undone = elim (bools (k.states e).done) [
      | inr z ↦ z
      | inl up ↦ absurd (clash (f.words.flow.words.finished e due.0 up) off)
    ]

    behind : (b : Message) → Has b (without (join_to e) v.known.words.held) → Behind f.net e 0 b
    behind = strictly n f.net k.states k.infos (words_of (sights_of views)) f.words.flow id v.known.words (view_at code fuel n ws homes views stands id v sits) (join_to e) (without (join_to e) v.known.words.held) (without_one (join_to e) v.known.words.held s.held)
        (λ b h. order b (s.later b (without_has (join_to e) v.known.words.held s.held b h)))
      where
        order : (b : Message) → Later v.known (join_to e) (info_at w) b → (f.net.depth b.entry < f.net.depth e) ⊎ ((f.net.depth b.entry ≡ f.net.depth e) × (0 ≤ b.flag))
        order b (later j told rest) =
            let p = told_depth code fuel n ws homes views stands id v sits b.entry j told in
            let q = told_depth code fuel n ws homes views stands id v sits e (info_at w) s.told in
            elim rest [
              | inl less ↦ inl (omega (arith, p, q, less))
              | inr r ↦ let same = r.0 in inr (omega (arith, p, q, same), r.1)
            ]

    info_is : info_at (slice_index ws (info_word_of (length code.first) e)) ≡ info_at w
    info_is = (told_hangs code fuel n ws homes views stands id v sits e (info_at w) s.told).1

    -- what is so of both steps, if the state becomes this
    module _ (d : Bool) (fits : FitsWord (record (state_at (slice_index ws (state_word_of (length code.first) e))) { given = true; done = d })) (neat : Neat (record (state_at (slice_index ws (state_word_of (length code.first) e))) { given = true; done = d })) where
      abbrev c : EntryState
      c = record (state_at (slice_index ws (state_word_of (length code.first) e))) { given = true; done = d }

      abbrev states' : ℕ → EntryState
      states' j = state_at (slice_index (set ws (state_word_of (length code.first) e) (state_word (record (state_at (slice_index ws (state_word_of (length code.first) e))) { given = true; done = d }))) (state_word_of (length code.first) j))

      now : states' e ≡ c
      now = state_here code fuel n ws homes views stands e s.inside c fits neat

      others : (j : ℕ) → j ≢ e → states' j ≡ k.states j
      others = state_else code fuel n ws homes views stands e s.inside c fits neat

      -- one message more has come
      comes : came n stands.net.place k.states + 1 ≤ came n stands.net.place states'
      comes =
          let one = below_change (λ j. total (λ (m : Message). 1) (got (stands.net.place j) j (states' j))) (λ j. total (λ (m : Message). 1) (got (stands.net.place j) j (k.states j))) n e s.inside
          (λ j ne. ap (λ (z : EntryState). total (λ (m : Message). 1) (got (stands.net.place j) j z)) (others j ne)) in
          let here : total (λ (m : Message). 1) (got (stands.net.place e) e (states' e)) ≡ total (λ (m : Message). 1) (got (stands.net.place e) e c) = ap (λ (z : EntryState). total (λ (m : Message). 1) (got (stands.net.place e) e z)) now in
          let more_here = given_comes (stands.net.place e) e (k.states e) d off undone due.3 in
          omega (arith, one, here, more_here)

      -- the table after it
      given_stands : (l : Known) → l.bears ≡ v.known.bears → l.makes ≡ v.known.makes → l.ready ≡ v.known.ready → l.loaded ≡ v.known.loaded → l.joined ≡ [] → l.owes ≡ v.known.owes → l.seen ≡ v.known.seen → l.still ≡ v.known.still
          → l.drawn ≡ v.known.drawn → hearing_of l ≡ hearing_of v.known → planned_of l ≡ planned_of v.known → l.words.parts ≡ v.known.words.parts → l.words.splits ≡ v.known.words.splits → l.words.failed ≡ v.known.words.failed → l.words.delivered ≡ 1 + v.known.words.delivered
          → JoinsWord f id (sight_of v.known) (sight_of l) e states'
          → Stands code fuel n (set ws (state_word_of (length code.first) e) (state_word c)) homes (set views id (record { known = l }))
      given_stands l bears makes ready loaded joined owes seen still drawn heard planned parts splits failed delivered word =
          let rule = joined_gives_keep CodeScript (Box Job) (is_job_of code stands.before) (asks code) (code_main code fuel) code.first n k (sights_of views) f id (sight_of v.known) (sight_of l) e states' (more f.gave e) (record {
            sits = sits_at views id v sits;
            joined = s.joined;
            none = joined;
            gives = more_up f.gave e;
            word = word;
            owes = owes;
            same = record { bears = bears_seen; makes = makes; ready = ready; loaded = loaded; joined = refl; seen = seen; still = still };
          }) in
          state_stands code fuel n ws homes views stands e s.inside c fits neat id v l sits drawn heard planned (subst (λ (z : Net). z.place e ≢ apart) stands.rule.same_net due.1) (record { left = λ q. q; none = λ q h. h })
          (λ h a. stands.told id v sits h (subst (λ (z : List Holding). Among h z) bears a)) parts splits failed (omega (arith, comes, delivered)) (more f.gave e)
          (record { field = rule.field; same_net = rule.same_net ∙ stands.rule.same_net; same_gave = rule.same_gave; same_role = rule.same_role ∙ stands.rule.same_role })
        where
          bears_seen : (sight_of l).bears ≡ (sight_of v.known).bears
          bears_seen = ap (λ (z : List Holding). map bearing_of z) bears

  -- an entry with no child, in one step
  pub joins_whole : Among (record { entry = e; fact = has_none }) v.known.marks → Steps code fuel n id v (state_word_of (length code.first) e) (λ y. (y + 24) % 2 ^ 64) (λ y z. JoinsWhole n (length code.first) e w y v.known z)
  joins_whole mark ws homes views stands sits bits =
      let y : ℕ = slice_index ws (state_word_of (length code.first) e) in
      let old : EntryState = state_at y in
      let c' : EntryState = record old { given = true; done = true } in
      let open_yet = off ws homes views stands sits in
      let not_done = undone ws homes views stands sits in
      let fits : FitsWord c' = record { next = (parts_fit y).next; child = (parts_fit y).child } in
      let neat : Neat c' = record { next = (stands.neat e).next; child = (stands.neat e).child } in
      let sum = added old c' y 24 (stands.whole e) (let p = num_off old.given open_yet in let q = num_off old.done not_done in omega (arith, p, q)) fits in
      let z : Known = joined_whole (length code.first) e w y v.known in
      let now_is = now ws homes views stands sits true fits neat in
      let new = given_stands ws homes views stands sits true fits neat z refl refl refl refl refl refl refl refl refl refl refl refl refl refl refl
      (joins_at_once (without (join_to e) v.known.words.held) (record {
        took = without_one (join_to e) v.known.words.held s.held;
        first = behind ws homes views stands sits;
        full = s.whole;
        childless = (stands.marked.each id v sits (record { entry = e; fact = has_none }) mark).fact;
        sets = now_is;
        others = others ws homes views stands sits true fits neat;
        sends = ap (λ u. without (join_to e) v.known.words.held ++ u) (λ j. sent e old ((sum.1 ∙ sym now_is) j) (sym (info_is ws homes views stands sits) j));
        whole = s.whole;
      })) in
      let at : get_elem? (set views id (record { known = z })) id ≡ maybe.some (record { known = z }) = at_here views id v (record { known = z }) sits in
      let ws' = set ws (state_word_of (length code.first) e) (state_word c') in
      let views' : List SeatView = set views id (record { known = z }) in (
        z,
        subst (λ (u : ℕ). Stands code fuel n (set ws (state_word_of (length code.first) e) u) homes (set views id (record { known = z }))) (sym sum.0) new,
        record { known = refl; bounded = bounded code fuel n ws' homes views' new id (record { known = z }) at; fits = sum.2; work = work_bounded code fuel n ws' homes views' new id (record { known = z }) at },
      )

  -- one with children: the first of two steps
  pub joins_half : (o : ℕ) → Among (record { entry = e; fact = has_last o }) v.known.marks → Steps code fuel n id v (state_word_of (length code.first) e) (λ y. (y + 8) % 2 ^ 64) (λ y z. JoinsHalf n (length code.first) e w y v.known z)
  joins_half o mark ws homes views stands sits bits =
      let y : ℕ = slice_index ws (state_word_of (length code.first) e) in
      let old : EntryState = state_at y in
      let c' : EntryState = record old { given = true } in
      let open_yet = off ws homes views stands sits in
      let fits : FitsWord c' = record { next = (parts_fit y).next; child = (parts_fit y).child } in
      let neat : Neat c' = record { next = (stands.neat e).next; child = (stands.neat e).child } in
      let sum = added old c' y 8 (stands.whole e) (let p = num_off old.given open_yet in omega (arith, p)) fits in
      let z : Known = joined_half (length code.first) e w y v.known in
      let child = (stands.marked.each id v sits (record { entry = e; fact = has_last o }) mark).fact.0 in
      let eld = first_below (subst (λ (u : Net). Child u.place e o) (sym stands.rule.same_net) child) in
      let new = given_stands ws homes views stands sits old.done fits neat z refl refl refl refl refl refl refl refl refl refl refl refl refl refl refl
      (joins_begin (without (join_to e) v.known.words.held) (stands.rule.field.words.flow.words.hung_first e eld.0 eld.1).1 (record {
        took = without_one (join_to e) v.known.words.held s.held;
        first = behind ws homes views stands sits;
        full = s.whole;
        sets = now ws homes views stands sits old.done fits neat;
        others = others ws homes views stands sits old.done fits neat;
        sends = refl;
        whole = refl;
      })) in
      let at : get_elem? (set views id (record { known = z })) id ≡ maybe.some (record { known = z }) = at_here views id v (record { known = z }) sits in
      let ws' = set ws (state_word_of (length code.first) e) (state_word c') in
      let views' : List SeatView = set views id (record { known = z }) in (
        z,
        subst (λ (u : ℕ). Stands code fuel n (set ws (state_word_of (length code.first) e) u) homes (set views id (record { known = z }))) (sym sum.0) new,
        record { known = refl; fits = sum.2; work = work_bounded code fuel n ws' homes views' new id (record { known = z }) at },
      )

-- the second: the last child leads to the entry
pub joins_rest : (code : CodeParts) (fuel n id : ℕ) (v : SeatView) (e o w : ℕ) → v.known.words.half ≡ e ∷ [] → Among (record { entry = o; info = info_at w }) v.known.told → v.known.joined ≡ [] → n ≤ 16777216 → Among (record { entry = e; fact = has_last o }) v.known.marks
    → Steps code fuel n id v (state_word_of (length code.first) o) (λ y. (y + (64 + 65536 * e)) % 2 ^ 64) (λ y z. GivesRest n (length code.first) e o w y v.known z)
joins_rest code fuel n id v e o w half told unjoined few mark =
    rises_to code fuel n id v e o w half told unjoined few (λ ws homes views stands sits.
    let m = (stands.marked.each id v sits (record { entry = e; fact = has_last o }) mark).fact in (
      subst (λ (z : Net). z.last e ≡ o) (sym stands.rule.same_net) m.1,
      subst (λ (z : Net). z.place o ≢ apart) (sym stands.rule.same_net) (child_hangs stands.net e o m.0),
    ))
