-- The flag of a message is set, by the law of deliveries.
use Rattle.std.proofs.Common.{◌≡◌, ◌≢◌, ◌⊎◌, inl, inr, sym, subst, refl, ◌∙◌, ap, ℕ, zero, suc, ◌<◌, ◌≤◌, ◌+◌, ◌%◌, ◌^◌, arith, Bool, true, false, List, [], ◌∷◌, ◌++◌, length, set, lt_of_not-le, Option, Some}
use Rattle.std.specs.Prelude.{slice_index, ◌==◌, ◌&&◌, if◌then◌else◌}
use Rattle.std.specs.Global.{Box}
use Rattle.std.proofs.lemmas.Bool.Decides.{eqb_tells}
use mathlib.Core.Option as maybe
use mathlib.Core.Logic.{dite}
use native.Mathlib.Decide.{dec_le}
use lib.ListN.{get_elem?}
use Rattle.oss_body.specs.Mains.{code_main}
use Rattle.oss_code.specs.declared.code.CodeParts.{CodeParts}
use Rattle.oss_jobs.specs.declared.job.Job.{Job}
use Rattle.oss_machine.specs.Frames.{CodeScript}
use Rattle.oss_machine.specs.Machines.{asks}
use Rattle.oss_words.specs.declared.entry.EntryInfo.{EntryInfo}
use Rattle.oss_words.specs.declared.entry.EntryState.{EntryState}
use Rattle.oss_words.specs.declared.message.Message.{Message}
use Rattle.oss_words.specs.Bits.{info_at, state_at, state_word, weight, FitsWord}
use Rattle.oss_words.specs.Causes.{sent, Sets, Unset}
use Rattle.oss_words.specs.Members.{Has}
use Rattle.oss_words.specs.Net.{Net, apart}
use Rattle.oss_words.specs.Room.{Behind}
use Rattle.oss_words.specs.Seats.{came}
use Rattle.oss_words.specs.Steps.{Delivers}
use Rattle.oss_words.specs.Sums.{num}
use Rattle.oss_words.proofs.DeliverLaw.{came_one}
use Rattle.oss_words.proofs.FirstLemmas.{held_unset, strictly}
use Rattle.oss_words.proofs.SumLemmas.{total_at}
use Rattle.oss_roles.specs.Counting.{owing}
use Rattle.oss_roles.specs.Field.{Field, FieldAt, Parts, words_of, times}
use Rattle.oss_roles.specs.Roles.{Role}
use Rattle.oss_roles.specs.Sights.{Sight}
use Rattle.oss_roles.proofs.WordClaims.{deliveries_keep}
use Rattle.oss_field.specs.declared.view.SeatView.{SeatView}
use Rattle.oss_field.specs.Known.{Known, sight_of}
use Rattle.oss_field.specs.Layout.{count_word_of, info_word_of, parts_of, state_word_of}
use Rattle.oss_field.specs.Messages.{Later, later, MayDeliver, Passes, is_due, owes_after, passed, without}
use Rattle.oss_field.specs.Steps.{Steps}
use Rattle.oss_field.specs.Table.{Slot, is_job_of, sights_of, Neat, Stands}
use Rattle.oss_field.proofs.FlagLemmas.{added, flag_adds, flag_fits, flag_neat, flag_sets, flag_stays, parts_fit, with_flag}
use Rattle.oss_field.proofs.HearLemmas.{bounded, held_names, told_depth, told_hangs, view_at, work_bounded}
use Rattle.oss_field.proofs.MessageLemmas.{without_has, without_one}
use Rattle.oss_field.proofs.TableLemmas.{chained, sits_at}
use Rattle.oss_field.proofs.WordTable.{state_else, state_here, state_stands}
use Rattle.oss_words.proofs.KeptLaw.{at_here}

-- what a seat owes to the counts of each task
pub owes_more : (t : ℕ) (i : EntryInfo) (f : ℕ) (owes : List ℕ) → times t (owes_after i f owes) ≡ times t owes + owing t i f
owes_more t i f owes = go (is_due i f)
  where
    same : (b : Bool) → num (b && true) ≡ num b
    same true = refl
    same false = refl

    none : (b : Bool) → num (b && false) ≡ 0
    none true = refl
    none false = refl

    go : (b : Bool) → times t (if b then i.task ∷ owes else owes) ≡ times t owes + num ((i.task == t) && b)
    go true = let a = same (i.task == t) in omega (arith, a)
    go false = let a = none (i.task == t) in omega (arith, a)

-- no word stands past the end of a table
pub past_end : (xs : List ℕ) (j : ℕ) → length xs ≤ j → slice_index xs j ≡ 0
past_end [] j h = refl
past_end (x ∷ xs) zero h = absurd (omega (arith, h))
past_end (x ∷ xs) (suc j) h = past_end xs j (omega (arith, h))

module _ (code : CodeParts) (fuel n id : ℕ) (v : SeatView) (m : Message) (i : ℕ) (may : MayDeliver n v.known m i) where
  module _ (ws : List ℕ) (homes : List (maybe.Option Slot)) (views : List SeatView) (stands : Stands code fuel n ws homes views) (sits : get_elem? views id ≡ maybe.some v) where
    abbrev x : ℕ
    x = slice_index ws (state_word_of (length code.first) m.entry)

    abbrev k : Parts (Box Job)
    k = parts_of (length code.first) ws homes stands.cells

    abbrev f : Field (asks code) (code_main code fuel) code.first (is_job_of code stands.before) n k (sights_of views)
    f = stands.rule.field

    abbrev l : Known
    l = passed (length code.first) m i (slice_index ws (state_word_of (length code.first) m.entry)) v.known

    names : (m.entry < n) × (m.flag ≤ 5)
    names = held_names code fuel n ws homes views stands id v sits m may.held

    unset : Unset (state_at x) m.flag
    unset = held_unset n f.net k.states k.infos (words_of (sights_of views)) f.words.flow id v.known.words (view_at code fuel n ws homes views stands id v sits) m may.held

    abbrev c : EntryState
    c = with_flag (state_at (slice_index ws (state_word_of (length code.first) m.entry))) m.flag

    fits : FitsWord c
    fits = flag_fits (state_at x) m.flag may.flag names.1 (parts_fit x)

    neat : Neat c
    neat = flag_neat (state_at x) m.flag may.flag names.1 (stands.neat m.entry)

    sum : ((x + weight m.flag) % 2 ^ 64 ≡ state_word c) × (state_at (x + weight m.flag) ≡ c) × (x + weight m.flag < 18446744073709551616)
    sum = added (state_at x) c x (weight m.flag) (stands.whole m.entry) (flag_adds (state_at x) m.flag may.flag names.1 unset) fits

    behind : (b : Message) → Has b (without m v.known.words.held) → Behind f.net m.entry m.flag b
    behind = strictly n f.net k.states k.infos (words_of (sights_of views)) f.words.flow id v.known.words (view_at code fuel n ws homes views stands id v sits) m (without m v.known.words.held) (without_one m v.known.words.held may.held)
        (λ b h. order b (may.later b (without_has m v.known.words.held may.held b h)))
      where
        order : (b : Message) → Later v.known m (info_at i) b → (f.net.depth b.entry < f.net.depth m.entry) ⊎ ((f.net.depth b.entry ≡ f.net.depth m.entry) × (m.flag ≤ b.flag))
        order b (later j told rest) =
            let p = told_depth code fuel n ws homes views stands id v sits b.entry j told in
            let q = told_depth code fuel n ws homes views stands id v sits m.entry (info_at i) may.told in
            elim rest [
              | inl less ↦ inl (omega (arith, p, q, less))
              | inr r ↦ let same = r.0 in inr (omega (arith, p, q, same), r.1)
            ]

    abbrev states' : ℕ → EntryState
    states' e = state_at (slice_index (set ws (state_word_of (length code.first) m.entry) (state_word c)) (state_word_of (length code.first) e))

    now : states' m.entry ≡ c
    now = state_here code fuel n ws homes views stands m.entry may.inside c fits neat

    info_is : info_at (slice_index ws (info_word_of (length code.first) m.entry)) ≡ info_at i
    info_is = (told_hangs code fuel n ws homes views stands id v sits m.entry (info_at i) may.told).1

    word : Delivers f.net k.states states' k.infos m (without m v.known.words.held) v.known.words l.words
    word = record {
      took = without_one m v.known.words.held may.held;
      first = behind;
      full = may.whole;
      sets = subst (λ (z : EntryState). Sets (state_at x) z m.flag) (sym now) (flag_sets (state_at x) m.flag may.flag names.1 unset);
      others = state_else code fuel n ws homes views stands m.entry may.inside c fits neat;
      sends = ap (λ z. without m v.known.words.held ++ z) (λ j. sent m.entry (state_at x) ((sum.1 ∙ sym now) j) (sym info_is j));
      whole = may.whole;
    }

    rule : FieldAt (asks code) (code_main code fuel) code.first (is_job_of code stands.before) n f.net f.gave f.role (record k { states = states' }) (set (sights_of views) id (sight_of l))
    rule = deliveries_keep CodeScript (Box Job) (is_job_of code stands.before) (asks code) (code_main code fuel) code.first n k (sights_of views) f id (sight_of v.known) (sight_of l) m (without m v.known.words.held) states' (record {
      sits = sits_at views id v sits;
      word = word;
      none = may.unjoined;
      owes = λ t. owes_more t (info_at i) m.flag v.known.owes ∙ ap (λ (z : EntryInfo). times t v.known.owes + owing t z m.flag) (sym info_is);
      same = record { bears = refl; makes = refl; ready = refl; loaded = refl; joined = refl; seen = refl; still = refl };
    })

    more : l.words.delivered + came n stands.net.place k.states ≤ v.known.words.delivered + came n stands.net.place states'
    more = subst (λ (z : Net). l.words.delivered + came n z.place k.states ≤ v.known.words.delivered + came n z.place states') stands.rule.same_net
        (let a = came_one n f.net k.states states' k.infos (words_of (sights_of views)) m (without m v.known.words.held) id v.known.words l.words f.words.flow (view_at code fuel n ws homes views stands id v sits) word (λ y. 1) in omega (arith, a))

    passed_stands : Stands code fuel n (set ws (state_word_of (length code.first) m.entry) (state_word c)) homes (set views id (record { known = l }))
    passed_stands = state_stands code fuel n ws homes views stands m.entry may.inside c fits neat id v l sits refl refl refl
        (subst (λ (z : Net). z.place m.entry ≢ apart) stands.rule.same_net (told_hangs code fuel n ws homes views stands id v sits m.entry (info_at i) may.told).0)
        (flag_stays (state_at x) m.flag may.flag names.1) (stands.told id v sits) refl refl refl more stands.gave (chained stands rule)

    -- the task to whose count a count down is owed is one of the table
    task_inside : is_due (info_at i) m.flag ≡ true → (info_at i).task < n
    task_inside due = dite (dec_le n (info_at i).task) (λ le. absurd (past le)) (λ gt. lt_of_not-le gt)
      where
        past : n ≤ (info_at i).task → ⊥
        past le =
            let t : ℕ = (info_at i).task in
            let told = told_hangs code fuel n ws homes views stands id v sits m.entry (info_at i) may.told in
            let r = f.roles.hung m.entry told.0 in
            let tells = f.roles.told m.entry r.0 r.1 told.0 in
            let own = f.roles.number m.entry r.0 r.1 in
            let task : r.0.task ≡ t = sym tells.2 ∙ ap (λ (z : EntryInfo). z.task) info_is in
            let role : rule.field.role t ≡ Some own.0 = ap (λ (g : ℕ → Option Role). g t) rule.same_role ∙ (ap f.role (sym task) ∙ own.1) in
            let count = rule.field.counts.sum t own.0 role own.3 in
            let at : get_elem? (set (sights_of views) id (sight_of l)) id ≡ maybe.some (sight_of l) = at_here (sights_of views) id (sight_of v.known) (sight_of l) (sits_at views id v sits) in
            let owed = total_at (λ (z : Sight CodeScript). times t z.owes) (set (sights_of views) id (sight_of l)) id (sight_of l) at in
            let mine : times t (owes_after (info_at i) m.flag v.known.owes) ≡ times t v.known.owes + owing t (info_at i) m.flag = owes_more t (info_at i) m.flag v.known.owes in
            let one : owing t (info_at i) m.flag ≡ 1 = ap (λ (b : Bool). num ((t == t) && b)) due ∙ same t in
            let size = stands.size in
            let none : slice_index ws (count_word_of (length code.first) t) ≡ 0 = past_end ws (count_word_of (length code.first) t) (omega (arith, size, le)) in
            omega (arith, count, owed, mine, one, none)
          where
            same : (z : ℕ) → num ((z == z) && true) ≡ 1
            same z = elim (eqb_tells z z) [ inl q ↦ ap (λ (b : Bool). num (b && true)) q.0 | inr q ↦ absurd (q.1 refl) ]

  pub passes : Steps code fuel n id v (state_word_of (length code.first) m.entry) (λ y. (y + weight m.flag) % 2 ^ 64) (λ y z. Passes n (length code.first) m i y v.known z)
  passes ws homes views stands sits bits =
      let y : ℕ = slice_index ws (state_word_of (length code.first) m.entry) in
      let z : Known = passed (length code.first) m i y v.known in
      let total = sum ws homes views stands sits in
      let new = passed_stands ws homes views stands sits in
      let at : get_elem? (set views id (record { known = z })) id ≡ maybe.some (record { known = z }) = at_here views id v (record { known = z }) sits in
      let ws' = set ws (state_word_of (length code.first) m.entry) (state_word (with_flag (state_at y) m.flag)) in
      let views' : List SeatView = set views id (record { known = z }) in (
        z,
        subst (λ (u : ℕ). Stands code fuel n (set ws (state_word_of (length code.first) m.entry) u) homes (set views id (record { known = z }))) (sym total.0) new,
        record {
          known = refl;
          bounded = bounded code fuel n ws' homes views' new id (record { known = z }) at;
          fits = total.2;
          task = task_inside ws homes views stands sits;
          work = work_bounded code fuel n ws' homes views' new id (record { known = z }) at;
        },
      )
