-- The second step of a give, or of the join of an entry with children: the last child leads to the entry that was given up.
use Rattle.std.proofs.Common.{◌≡◌, ◌≢◌, sym, subst, refl, ◌∙◌, ap, ℕ, ◌<◌, ◌≤◌, ◌+◌, ◌*◌, ◌%◌, ◌^◌, arith, true, false, List, [], ◌∷◌, ◌++◌, length, set, Option, Some, None}
use Rattle.std.specs.Prelude.{slice_index}
use Rattle.std.specs.Global.{Box}
use mathlib.Core.Option as maybe
use lib.ListN.{get_elem?}
use Rattle.oss_body.specs.Mains.{code_main}
use Rattle.oss_code.specs.declared.code.CodeParts.{CodeParts}
use Rattle.oss_jobs.specs.declared.job.Job.{Job}
use Rattle.oss_machine.specs.Frames.{CodeScript}
use Rattle.oss_machine.specs.Machines.{asks}
use Rattle.oss_words.specs.declared.entry.EntryState.{EntryState}
use Rattle.oss_words.specs.Bits.{info_at, state_at, state_word, FitsWord}
use Rattle.oss_words.specs.Causes.{sent}
use Rattle.oss_words.specs.Flow.{Half}
use Rattle.oss_words.specs.Grown.{Grown}
use Rattle.oss_words.specs.Net.{Net, apart}
use Rattle.oss_words.specs.Steps.{Rises}
use Rattle.oss_words.specs.Views.{Among}
use Rattle.oss_words.proofs.CauseLemmas.{clash}
use Rattle.oss_words.proofs.KeptLaw.{at_here}
use Rattle.oss_words.proofs.SeatLemmas.{came_more}
use Rattle.oss_words.proofs.StillLemmas.{all_of, grown_same, risen_grown_word}
use Rattle.oss_roles.specs.Field.{Field, Parts, Sits}
use Rattle.oss_roles.specs.Roles.{Site, Filed}
use Rattle.oss_roles.proofs.WordClaims.{last_links_keep}
use Rattle.oss_field.specs.declared.view.SeatView.{SeatView}
use Rattle.oss_field.specs.Giving.{GivesRest, IsHalfGiven, gave_rest}
use Rattle.oss_field.specs.Known.{Holding, Known, last_of, sight_of}
use Rattle.oss_field.specs.Layout.{parts_of, state_word_of}
use Rattle.oss_field.specs.Owning.{HasEntry, entry_of, site_of}
use Rattle.oss_field.specs.Steps.{Steps}
use Rattle.oss_field.specs.Table.{Neat, Slot, is_job_of, sights_of, Stands}
use Rattle.oss_field.proofs.FlagLemmas.{added, num_off, parts_fit}
use Rattle.oss_field.proofs.HearLemmas.{bounded, told_hangs, view_at}
use Rattle.oss_field.proofs.OwnLemmas.{cell_filed, last_child, own_filed}
use Rattle.oss_field.proofs.TableLemmas.{chained, sits_at}
use Rattle.oss_field.proofs.WordTable.{state_else, state_here, state_stands}

module _ (code : CodeParts) (fuel n id : ℕ) (v : SeatView) (e last w : ℕ) (halved : v.known.words.half ≡ e ∷ []) (told : Among (record { entry = last; info = info_at w }) v.known.told) (unjoined : v.known.joined ≡ []) (few : n ≤ 16777216) where
  -- in each table the last child of the entry is this one
  abbrev pub IsLastOf : Type 0
  IsLastOf = (ws : List ℕ) (homes : List (maybe.Option Slot)) (views : List SeatView) (stands : Stands code fuel n ws homes views) → get_elem? views id ≡ maybe.some v → (stands.rule.field.net.last e ≡ last) × (stands.rule.field.net.place last ≢ apart)

  module _ (ws : List ℕ) (homes : List (maybe.Option Slot)) (views : List SeatView) (stands : Stands code fuel n ws homes views) (sits : get_elem? views id ≡ maybe.some v) (last_is : stands.rule.field.net.last e ≡ last) (hangs : stands.rule.field.net.place last ≢ apart) where
    abbrev k : Parts (Box Job)
    k = parts_of (length code.first) ws homes stands.cells

    abbrev f : Field (asks code) (code_main code fuel) code.first (is_job_of code stands.before) n k (sights_of views)
    f = stands.rule.field

    seated : Sits (sights_of views) id (sight_of v.known)
    seated = sits_at views id v sits

    half : Half n f.net k.states k.infos e v.known.words
    half = f.words.flow.words.halves id v.known.words (view_at code fuel n ws homes views stands id v sits) e [] halved

    unlinked : (k.states last).linked ≡ false
    unlinked = subst (λ (z : ℕ). (k.states z).linked ≡ false) last_is half.unlinked

    inside : last < n
    inside = subst (λ (z : ℕ). z < n) last_is half.inside_last

    abbrev x : ℕ
    x = slice_index ws (state_word_of (length code.first) last)

    abbrev c : EntryState
    c = record (state_at (slice_index ws (state_word_of (length code.first) last))) { linked = true; next = e }

    abbrev l : Known
    l = gave_rest (length code.first) e last w (slice_index ws (state_word_of (length code.first) last)) v.known

    fits : FitsWord c
    fits = record { next = (let p = half.inside in omega (arith, p, few)); child = (parts_fit x).child }

    neat : Neat c
    neat = record { next = λ z. absurd (clash refl z); child = (stands.neat last).child }

    sum : ((x + (64 + 65536 * e)) % 2 ^ 64 ≡ state_word c) × (state_at (x + (64 + 65536 * e)) ≡ c) × (x + (64 + 65536 * e) < 18446744073709551616)
    sum = added (state_at x) c x (64 + 65536 * e) (stands.whole last) (let p = num_off (state_at x).linked unlinked in let q = ((stands.neat last).next unlinked).0 in omega (arith, p, q)) fits

    abbrev states' : ℕ → EntryState
    states' j = state_at (slice_index (set ws (state_word_of (length code.first) last) (state_word c)) (state_word_of (length code.first) j))

    now : states' last ≡ c
    now = state_here code fuel n ws homes views stands last inside c fits neat

    others : (j : ℕ) → j ≢ last → states' j ≡ k.states j
    others = state_else code fuel n ws homes views stands last inside c fits neat

    word : Rises f.net k.states states' k.infos e v.known.words l.words
    word = subst (λ (z : ℕ). (states' z ≡ record (k.states z) { linked = true; next = e }) → ((j : ℕ) → j ≢ z → states' j ≡ k.states j) → (l.words.held ≡ v.known.words.held ++ sent z (k.states z) (states' z) (k.infos z)) → Rises f.net k.states states' k.infos e v.known.words l.words) last_is
        (λ sets rest sends. record { full = halved; sets = sets; others = rest; sends = sends; whole = refl }) now others
        (ap (λ z. v.known.words.held ++ z) (λ j. sent last (state_at x) ((sum.1 ∙ sym now) j) (sym (told_hangs code fuel n ws homes views stands id v sits last (info_at w) told).1 j)))

    rise_stands : Stands code fuel n (set ws (state_word_of (length code.first) last) (state_word c)) homes (set views id (record { known = l }))
    rise_stands =
        let rule = last_links_keep CodeScript (Box Job) (is_job_of code stands.before) (asks code) (code_main code fuel) code.first n k (sights_of views) f id (sight_of v.known) (sight_of l) e states' (record {
          sits = seated;
          word = word;
          unlinked = half.unlinked;
          none = unjoined;
          owes = refl;
          same = record { bears = refl; makes = refl; ready = refl; loaded = refl; joined = refl; seen = refl; still = refl };
        }) in
        let each : (j : ℕ) → Grown (k.states j) (states' j) = all_of Grown grown_same k.states states' last others (subst (λ (z : EntryState). Grown (k.states last) z) (sym now) (risen_grown_word e (k.states last) unlinked)) in
        let come = came_more n stands.net.place k.states states' each in
        state_stands code fuel n ws homes views stands last inside c fits neat id v l sits refl refl refl (subst (λ (z : Net). z.place last ≢ apart) stands.rule.same_net hangs) (record { left = λ q. q; none = λ q h. h }) (stands.told id v sits) refl refl refl (omega (arith, come)) stands.gave (chained stands rule)

  pub rises_to : IsLastOf → Steps code fuel n id v (state_word_of (length code.first) last) (λ y. (y + (64 + 65536 * e)) % 2 ^ 64) (λ y z. GivesRest n (length code.first) e last w y v.known z)
  rises_to is ws homes views stands sits bits =
      let y : ℕ = slice_index ws (state_word_of (length code.first) last) in
      let z : Known = gave_rest (length code.first) e last w y v.known in
      let child = is ws homes views stands sits in
      let total = sum ws homes views stands sits child.0 child.1 in
      let new = rise_stands ws homes views stands sits child.0 child.1 in
      let ws' = set ws (state_word_of (length code.first) last) (state_word (record (state_at y) { linked = true; next = e })) in (
        z,
        subst (λ (u : ℕ). Stands code fuel n (set ws (state_word_of (length code.first) last) u) homes (set views id (record { known = z }))) (sym total.0) new,
        record { known = refl; bounded = bounded code fuel n ws' homes (set views id (record { known = z })) new id (record { known = z }) (at_here views id v (record { known = z }) sits); fits = total.2 },
      )

-- the last child that a job tells
module _ (code : CodeParts) (fuel n id : ℕ) (v : SeatView) (cell : Option ℕ) (entry last w : ℕ) (s : IsHalfGiven v.known cell entry last w) (few : n ≤ 16777216) where
  abbrev h : Holding
  h = s.holding

  module _ (ws : List ℕ) (homes : List (maybe.Option Slot)) (views : List SeatView) (stands : Stands code fuel n ws homes views) (sits : get_elem? views id ≡ maybe.some v) where
    abbrev parts : Parts (Box Job)
    parts = parts_of (length code.first) ws homes stands.cells

    abbrev field : Field (asks code) (code_main code fuel) code.first (is_job_of code stands.before) n parts (sights_of views)
    field = stands.rule.field

    filed : (o : Option ℕ) → HasEntry h o → (x : Filed field.net field.role h.path (site_of o)) × (x.entry ≡ entry_of h o)
    filed None has = own_filed code n parts (sights_of views) field id v.known (sits_at views id v sits) s.place h s.holds s.below_main
    filed (Some c) has = let x = cell_filed code n parts (sights_of views) field id v.known (sits_at views id v sits) s.place h s.holds s.below_main c has.0 has.1 has.2 in (x.0, x.3)

    told_last : (field.net.last (entry_of s.holding cell) ≡ last) × (field.net.place last ≢ apart)
    told_last =
        let x = filed cell s.has in
        let r = subst (λ (z : ℕ). (field.net.last z ≡ last) × ((parts.states z).headed ≡ true) × (field.net.place last ≢ apart)) x.1
        (last_child code n parts (sights_of views) field id v.known (sits_at views id v sits) s.place h s.holds s.makes x.0.entry x.0.it x.0.is x.0.hangs x.0.path last (ap (λ (z : Site). last_of h z) x.0.site ∙ s.last_is)) in
        (r.0, r.2)

  pub rises : Steps code fuel n id v (state_word_of (length code.first) last) (λ y. (y + (64 + 65536 * entry_of s.holding cell)) % 2 ^ 64) (λ y z. GivesRest n (length code.first) (entry_of s.holding cell) last w y v.known z)
  rises = rises_to code fuel n id v (entry_of s.holding cell) last w s.half s.told s.unjoined few (λ ws homes views stands sits. told_last ws homes views stands sits)
