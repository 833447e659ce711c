-- What a seat holds and is told of, in any table that meets the rule; and the read of an info word.
use Rattle.std.proofs.Common.{◌≡◌, ◌≢◌, inl, inr, sym, subst, refl, ◌∙◌, ap, ℕ, ◌<◌, ◌≤◌, ◌*◌, arith, List, length, set, Option, Some, None}
use Rattle.std.specs.Prelude.{slice_index}
use Rattle.std.specs.Global.{Box}
use mathlib.Core.Option as maybe
use lib.ListN.{get_elem?}
use Rattle.atomic_table.proofs.Lists.{at_map}
use Rattle.oss_body.specs.Mains.{code_main}
use Rattle.oss_code.specs.declared.code.CodeParts.{CodeParts}
use Rattle.oss_jobs.specs.declared.job.Job.{Job}
use Rattle.oss_machine.specs.Frames.{CodeScript}
use Rattle.oss_machine.specs.Machines.{asks}
use Rattle.oss_words.specs.declared.entry.EntryInfo.{EntryInfo}
use Rattle.oss_words.specs.declared.entry.EntryState.{EntryState}
use Rattle.oss_words.specs.declared.message.Message.{Message}
use Rattle.oss_words.specs.Bits.{info_at, state_at}
use Rattle.oss_words.specs.Causes.{Due}
use Rattle.oss_words.specs.Members.{Has}
use Rattle.oss_words.specs.Net.{Net, apart}
use Rattle.oss_words.specs.Views.{View, Among, At, among_first, among_later}
use Rattle.oss_words.proofs.BoundLemmas.{room_bound}
use Rattle.oss_words.proofs.CountLemmas.{held_due}
use Rattle.oss_words.proofs.DeliverLemmas.{small, target_hangs, target_in}
use Rattle.oss_words.proofs.NetLemmas.{child_hangs}
use Rattle.oss_words.proofs.SumLemmas.{total_at}
use Rattle.oss_words.proofs.WorkLemmas.{work_bound}
use Rattle.oss_roles.specs.Field.{words_of}
use Rattle.oss_roles.specs.Sights.{Sight}
use Rattle.oss_roles.proofs.WordClaims.{quiet_steps_keep}
use Rattle.oss_field.specs.declared.view.SeatView.{SeatView}
use Rattle.oss_field.specs.Heard.{Told}
use Rattle.oss_field.specs.Known.{Holding, Known, sight_of}
use Rattle.oss_field.specs.Layout.{parts_of, info_word_of, state_word_of, value_word_of}
use Rattle.oss_field.specs.Marks.{has_last}
use Rattle.oss_field.specs.Messages.{Bounded, Hangs, by_entry, by_last, by_mark, by_message, by_told, Informs, informed}
use Rattle.oss_field.specs.Owning.{HasEntry, entry_of}
use Rattle.oss_field.specs.Steps.{Steps}
use Rattle.oss_field.specs.Table.{Slot, is_job_of, planned_by, sights_of, Stands}
use Rattle.oss_field.proofs.HeardLemmas.{heard_on}
use Rattle.oss_field.proofs.MarkLemmas.{marked_on, same_keeps, stays_same}
use Rattle.oss_field.proofs.OwnLemmas.{borne, cell_filed, own_filed}
use Rattle.oss_field.proofs.TableLemmas.{chained, plans_same, plans_stand, read_stands, sits_at}
use Rattle.oss_field.proofs.WordTable.{entry_stands, seats_on}

module _ (code : CodeParts) (fuel n : ℕ) (ws : List ℕ) (homes : List (maybe.Option Slot)) (views : List SeatView) (stands : Stands code fuel n ws homes views) (id : ℕ) (v : SeatView) (sits : get_elem? views id ≡ maybe.some v) where
  abbrev states_now : ℕ → EntryState
  states_now e = state_at (slice_index ws (state_word_of (length code.first) e))

  abbrev infos_now : ℕ → EntryInfo
  infos_now e = info_at (slice_index ws (info_word_of (length code.first) e))

  pub view_at : At (words_of (sights_of views)) id v.known.words
  view_at = at_map (λ (z : Sight CodeScript). z.words) (sights_of views) id (sight_of v.known) (sits_at views id v sits)

  -- the cause of a message that is held
  pub cause : (m : Message) → Has m v.known.words.held → (e : ℕ) × (e < n) × Due e (state_at (slice_index ws (state_word_of (length code.first) e))) (info_at (slice_index ws (info_word_of (length code.first) e))) m
  cause m h = held_due n stands.rule.field.net states_now infos_now (words_of (sights_of views)) stands.rule.field.words.flow.words id v.known.words view_at m h

  pub held_names : (m : Message) → Has m v.known.words.held → (m.entry < n) × (m.flag ≤ 5)
  held_names m h =
      let c = cause m h in (
        target_in n stands.rule.field.net states_now infos_now (words_of (sights_of views)) stands.rule.field.words.flow.words c.0 c.1 m c.2,
        small c.0 (states_now c.0) (infos_now c.0) m c.2,
      )

  pub held_hangs : (m : Message) → Has m v.known.words.held → stands.rule.field.net.place m.entry ≢ apart
  held_hangs m h = let c = cause m h in target_hangs n stands.rule.field.net states_now infos_now (words_of (sights_of views)) stands.rule.field.words.flow.words c.0 c.1 m c.2

  pub bounded : Bounded n v.known
  bounded = record {
    room = room_bound n stands.rule.field.net states_now infos_now (words_of (sights_of views)) stands.rule.field.words.flow id v.known.words view_at stands.rule.field.words.modes.shallow;
    names = held_names;
  }

  -- an entry of which the seat was told
  pub told_hangs : (e : ℕ) (i : EntryInfo) → Among (record { entry = e; info = i }) v.known.told → (stands.rule.field.net.place e ≢ apart) × (info_at (slice_index ws (info_word_of (length code.first) e)) ≡ i)
  told_hangs e i a = let h = stands.heard.told id v sits (record { entry = e; info = i }) a in (subst (λ (z : Net). z.place e ≢ apart) (sym stands.rule.same_net) h.0, h.1)

  pub told_depth : (e : ℕ) (i : EntryInfo) → Among (record { entry = e; info = i }) v.known.told → i.depth ≡ stands.rule.field.net.depth e
  told_depth e i a = let h = told_hangs e i a in sym (ap (λ (z : EntryInfo). z.depth) h.1) ∙ stands.rule.field.words.modes.depth e h.0

  -- all seats together deliver at most six messages for each entry
  pub work_bounded : v.known.words.delivered ≤ 6 * n
  work_bounded =
      let a = stands.seats.work in
      let b = work_bound n stands.net.place states_now in
      let c = total_at (λ (z : View). z.delivered) (words_of (sights_of views)) id v.known.words view_at in
      omega (arith, a, b, c)

  entry_hangs : (i : ℕ) (h : Holding) → get_elem? v.known.bears i ≡ maybe.some h → h.number ≢ 0 → (cell : Option ℕ) → HasEntry h cell → stands.rule.field.net.place (entry_of h cell) ≢ apart
  entry_hangs i h holds number None has =
      let x = own_filed code n (parts_of (length code.first) ws homes stands.cells) (sights_of views) stands.rule.field id v.known (sits_at views id v sits) i h holds number in
      subst (λ (z : ℕ). stands.rule.field.net.place z ≢ apart) x.1 x.0.hangs
  entry_hangs i h holds number (Some c) has =
      let x = cell_filed code n (parts_of (length code.first) ws homes stands.cells) (sights_of views) stands.rule.field id v.known (sits_at views id v sits) i h holds number c has.0 has.1 has.2 in
      subst (λ (z : ℕ). stands.rule.field.net.place z ≢ apart) x.3 x.0.hangs

  -- what hangs, so far as the seat knows
  pub hangs_is : (e : ℕ) → Hangs v.known e → stands.rule.field.net.place e ≢ apart
  hangs_is e (by_told i a) = (told_hangs e i a).0
  hangs_is e (by_message m h q) = subst (λ (z : ℕ). stands.rule.field.net.place z ≢ apart) q (held_hangs m h)
  hangs_is e (by_entry i h holds number cell has q) = subst (λ (z : ℕ). stands.rule.field.net.place z ≢ apart) q (entry_hangs i h holds number cell has)
  hangs_is e (by_last i h holds y last) = ((borne code n (parts_of (length code.first) ws homes stands.cells) (sights_of views) stands.rule.field id v.known (sits_at views id v sits) i h holds).last.some y e last).3
  hangs_is e (by_mark f a) =
      let m = stands.marked.each id v sits (record { entry = f; fact = has_last e }) a in
      subst (λ (z : Net). z.place e ≢ apart) (sym stands.rule.same_net) (child_hangs stands.net f e m.fact.0)

  pub informed_stands : (e : ℕ) → Hangs v.known e → Stands code fuel n ws homes (set views id (record { known = informed (length code.first) e (slice_index ws (info_word_of (length code.first) e)) v.known }))
  informed_stands e hangs =
      let x : ℕ = slice_index ws (info_word_of (length code.first) e) in
      let l : Known = informed (length code.first) e x v.known in
      let rule = chained stands
      (quiet_steps_keep CodeScript (Box Job) (is_job_of code stands.before) (asks code) (code_main code fuel) code.first n (parts_of (length code.first) ws homes stands.cells) (sights_of views) stands.rule.field
      id (sight_of v.known) (sight_of l) (sits_at views id v sits) (record {
        held = refl;
        half = refl;
        bears = refl;
        makes = refl;
        joined = refl;
        owes = refl;
        ready = λ u a. a;
        loaded = λ y a. a;
        seen = λ y a. a;
        still = λ y a. a;
      })) in
      entry_stands code fuel n ws homes views stands id v l sits refl (stands.told id v sits) stands.gave ws refl (λ c low. refl) (λ j. refl) refl stands.whole stands.neat
      (heard_on stands.net infos_now infos_now views id v l sits (λ t a. elim a [
        | among_first q ↦ inr (fresh t q)
        | among_later b ↦ inl b
      ]) (λ j h. refl) stands.heard)
      (marked_on stands.net stands.net stands.role stands.role states_now states_now (λ j. slice_index ws (value_word_of (length code.first) j)) (λ j. slice_index ws (value_word_of (length code.first) j))
      (same_keeps stands.net stands.role states_now states_now (λ j. slice_index ws (value_word_of (length code.first) j)) (λ j. slice_index ws (value_word_of (length code.first) j)) (λ j. stays_same (states_now j) (states_now j) refl) (λ j left. refl)) views id v l sits refl stands.marked)
      (plans_stand code n stands.net stands.role ws ws (planned_by views) (planned_by (set views id (record { known = l }))) (λ j. refl) (λ j. refl) (λ j. refl) (plans_same views id v l sits refl) stands.planned)
      (seats_on code fuel n ws homes views stands id v sits states_now l.words refl refl refl (omega arith))
      rule
    where
      fresh : (t : Told) → ◌≡◌ {A = Told} (record { entry = e; info = info_at (slice_index ws (info_word_of (length code.first) e)) }) t → (stands.net.place t.entry ≢ apart) × (info_at (slice_index ws (info_word_of (length code.first) t.entry)) ≡ t.info)
      fresh t q = subst (λ (z : Told). (stands.net.place z.entry ≢ apart) × (info_at (slice_index ws (info_word_of (length code.first) z.entry)) ≡ z.info)) q
          (subst (λ (z : Net). z.place e ≢ apart) stands.rule.same_net (hangs_is e hangs), refl)

-- an info word is read
pub informs : (code : CodeParts) (fuel n id : ℕ) (v : SeatView) (e : ℕ) → Hangs v.known e → Steps code fuel n id v (info_word_of (length code.first) e) (λ x. x) (λ x l. Informs (length code.first) e x v.known l)
informs code fuel n id v e hangs ws homes views stands sits bits =
    let i = info_word_of (length code.first) e in
    let l : Known = informed (length code.first) e (slice_index ws i) v.known in (
      l,
      read_stands code fuel n i ws homes (set views id (record { known = l })) (informed_stands code fuel n ws homes views stands id v sits e hangs),
      record { known = refl; again = λ j a. (told_hangs code fuel n ws homes views stands id v sits e j a).1 },
    )
