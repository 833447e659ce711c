-- What a seat reads of an entry whose join it holds, and keeps.
use Rattle.std.proofs.Common.{◌≡◌, ◌≢◌, ◌⊎◌, inl, inr, sym, subst, refl, ◌∙◌, ap, ℕ, ◌<◌, arith, Bool, true, false, not, ◌==◌, List, ◌∷◌, length, set, Option, Some}
use Rattle.std.specs.Prelude.{slice_index, if◌then◌else◌}
use Rattle.std.specs.Global.{Box}
use mathlib.Core.Option as maybe
use lib.ListN.{get_elem?}
use Rattle.oss_body.specs.Mains.{code_main}
use Rattle.oss_code.specs.declared.code.CodeParts.{CodeParts}
use Rattle.oss_jobs.specs.declared.job.Job.{Job}
use Rattle.oss_machine.specs.Frames.{CodeScript}
use Rattle.oss_machine.specs.Machines.{asks}
use Rattle.oss_model.proofs.RecallLemmas.{right_in_memory}
use Rattle.oss_syntax.specs.declared.access.Mode.TheVariants.{Fold}
use Rattle.oss_syntax.specs.declared.access.Op.{Op}
use Rattle.oss_words.specs.declared.entry.EntryInfo.{EntryInfo}
use Rattle.oss_words.specs.Bits.{state_at}
use Rattle.oss_words.specs.Members.{Has}
use Rattle.oss_words.specs.Net.{Net, Place, Child, Earlier, apart, after, eldest, younger, next, back}
use Rattle.oss_words.specs.Views.{Among, among_first, among_later}
use Rattle.oss_words.proofs.CauseLemmas.{bools, clash}
use Rattle.oss_words.proofs.DeliverLemmas.{and_and}
use Rattle.oss_words.proofs.NetLemmas.{child_hangs, child_parent}
use Rattle.oss_roles.specs.Field.{Field, Parts, Sits}
use Rattle.oss_roles.specs.Roles.{Role, on}
use Rattle.oss_roles.proofs.FoldLaw.{cause, join_left, joined_mode, not_given}
use Rattle.oss_roles.proofs.MoveLaw.{agrees}
use Rattle.oss_roles.proofs.WordClaims.{quiet_steps_keep}
use Rattle.oss_field.specs.declared.view.SeatView.{SeatView}
use Rattle.oss_field.specs.Folding.{ReadsBelow, ReadsChild, ReadsNumber, behind_it, below_it, join_to, marking, read_value}
use Rattle.oss_field.specs.Known.{Known, sight_of}
use Rattle.oss_field.specs.Layout.{number_word_of, parts_of, state_word_of, value_word_of}
use Rattle.oss_field.specs.Marked.{IsFact, IsMarked}
use Rattle.oss_field.specs.Marks.{Fact, Mark, value_is, cell_is, has_none, has_child, has_last}
use Rattle.oss_field.specs.Moves.{touched}
use Rattle.oss_field.specs.Steps.{Steps}
use Rattle.oss_field.specs.Table.{Slot, is_job_of, planned_by, sights_of, Stands}
use Rattle.oss_field.proofs.HearLemmas.{told_hangs}
use Rattle.oss_field.proofs.HeardLemmas.{heard_same}
use Rattle.oss_field.proofs.MarkLemmas.{marked_more, same_keeps, stays_same}
use Rattle.oss_field.proofs.TableLemmas.{chained, plans_same, plans_stand, read_stands, sits_at}
use Rattle.oss_field.proofs.WordTable.{entry_stands, seats_on}

-- something hangs right behind an earlier sibling
right_behind : {place : ℕ → Place} {s x : ℕ} → Earlier place s x → (j : ℕ) × (place j ≡ after s)
right_behind {x = x} (next at) = (x, at)
right_behind (back at rest) = right_behind rest

module _ (code : CodeParts) (fuel n id : ℕ) (v : SeatView) (e : ℕ) (held : Has (join_to e) v.known.words.held) where
  module _ (ws : List ℕ) (homes : List (maybe.Option Slot)) (views : List SeatView) (stands : Stands code fuel n ws homes views) (sits : get_elem? views id ≡ maybe.some v) where
    abbrev k : Parts (Box Job)
    k = parts_of (length code.first) ws homes stands.cells

    abbrev f : Field (asks code) (code_main code fuel) code.first (is_job_of code stands.before) n k (sights_of views)
    f = stands.rule.field

    seated : Sits (sights_of views) id (sight_of v.known)
    seated = sits_at views id v sits

    pub due_now : (e < n) × (stands.rule.field.net.place e ≢ apart) × (((parts_of (length code.first) ws homes stands.cells).states e).folds ≡ true) × (((parts_of (length code.first) ws homes stands.cells).states e).left ≡ true)
    due_now = cause (asks code) (code_main code fuel) code.first (is_job_of code stands.before) n k (sights_of views) f id (sight_of v.known) seated e held

    pub ungiven : ((parts_of (length code.first) ws homes stands.cells).states e).given ≡ false
    ungiven = elim (bools (k.states e).given) [
      | inr off ↦ off
      | inl up ↦ absurd (not_given (asks code) (code_main code fuel) code.first (is_job_of code stands.before) n k (sights_of views) f id (sight_of v.known) seated e held up)
    ]

    pub hangs_here : stands.net.place e ≢ apart
    hangs_here = subst (λ (z : Net). z.place e ≢ apart) stands.rule.same_net due_now.1

    abbrev role_now : (r : Role) × (f.role e ≡ Some r)
    role_now = f.roles.hung e due_now.1

    -- the table, with something more that is kept of the entry
    marking_stands : (word x : ℕ) (t : Fact) → IsFact stands.net stands.role k.states k.values e t → Stands code fuel n ws homes (set views id (record { known = touched word x (marking e t v.known) }))
    marking_stands word x t is =
        let l : Known = touched word x (marking e t v.known) in
        let rule = chained stands
        (quiet_steps_keep CodeScript (Box Job) (is_job_of code stands.before) (asks code) (code_main code fuel) code.first n k (sights_of views) f
        id (sight_of v.known) (sight_of l) seated (record {
          held = refl;
          half = refl;
          bears = refl;
          makes = refl;
          joined = refl;
          owes = refl;
          ready = λ u a. a;
          loaded = λ y a. a;
          seen = λ y a. a;
          still = λ y a. a;
        })) in
        entry_stands code fuel n ws homes views stands id v l sits refl (stands.told id v sits) stands.gave ws refl (λ c low. refl) (λ j. refl) refl stands.whole stands.neat
        (heard_same stands.net k.infos k.infos views id v l sits refl (λ j. refl) stands.heard)
        (marked_more stands.net stands.net stands.role stands.role k.states k.states k.values k.values (same_keeps stands.net stands.role k.states k.states k.values k.values (λ j. stays_same (k.states j) (k.states j) refl) (λ j left. refl)) views id v l sits fresh stands.marked)
        (plans_stand code n stands.net stands.role ws ws (planned_by views) (planned_by (set views id (record { known = l }))) (λ j. refl) (λ j. refl) (λ j. refl) (plans_same views id v l sits refl) stands.planned)
        (seats_on code fuel n ws homes views stands id v sits k.states l.words refl refl refl (omega arith))
        rule
      where
        fresh : (a : Mark) → Among a (record { entry = e; fact = t } ∷ v.known.marks) → Among a v.known.marks ⊎ IsMarked stands.net stands.role k.states k.values a
        fresh a (among_first q) = inr (subst (λ (z : Mark). IsMarked stands.net stands.role k.states k.values z) q (record { hangs = hangs_here; left = due_now.3; fact = is }))
        fresh a (among_later b) = inl b

    -- the cell
    abbrev number : ℕ
    number = slice_index ws (number_word_of (length code.first) e)

    number_fact : IsFact stands.net stands.role k.states k.values e (cell_is (slice_index ws (number_word_of (length code.first) e)))
    number_fact =
        let r = role_now in
        let l = join_left (asks code) (code_main code fuel) code.first (is_job_of code stands.before) n k (sights_of views) f id (sight_of v.known) seated e held r.0 r.1 in
        (r.0, ap (λ (z : ℕ → Option Role). z e) (sym stands.rule.same_role) ∙ r.1, l.1 ∙ ap (λ (z : ℕ). on z) (sym (f.numbered e l.0 r.0 r.1 due_now.1 l.1)))

    number_inside : number < length code.first
    number_inside =
        let r = role_now in
        let l = join_left (asks code) (code_main code fuel) code.first (is_job_of code stands.before) n k (sights_of views) f id (sight_of v.known) seated e held r.0 r.1 in
        let made = (agrees (asks code) (code_main code fuel) code.first f.state f.setting f.reached).made in
        let low : l.0 < length code.first = right_in_memory (asks code) (code_main code fuel) f.state code.first l.0 r.0.path (Fold l.2) made f.setting.memory (record { task = l.3; at_ = l.4; strong = true; right = l.5 }) in
        subst (λ (z : ℕ). z < length code.first) (sym (f.numbered e l.0 r.0 r.1 due_now.1 l.1)) low

    reduces : (i : EntryInfo) → Among (record { entry = e; info = i }) v.known.told → (op : Op) × (i.mode ≡ Fold op)
    reduces i told =
        let r = role_now in
        let m = joined_mode (asks code) (code_main code fuel) code.first (is_job_of code stands.before) n k (sights_of views) f id (sight_of v.known) seated e held r.0 r.1 in
        let h = told_hangs code fuel n ws homes views stands id v sits e i told in
        (m.0, ap (λ (z : EntryInfo). z.mode) (sym h.1) ∙ (f.words.modes.mode e due_now.1 ∙ ((f.roles.told e r.0 r.1 due_now.1).0 ∙ m.1)))

    -- whether it has children
    below_fact : (b : Bool) → (k.states e).headed ≡ b → IsFact stands.net stands.role k.states k.values e (if b then has_child (k.states e).child else has_none)
    below_fact true q = subst (λ (z : Net). Child z.place e (k.states e).child) stands.rule.same_net (eldest ((f.words.flow.words.wired e due_now.0).child q))
    below_fact false q = q

    -- one of its children
    module _ (c : ℕ) (mark : Among (record { entry = e; fact = has_child c }) v.known.marks) where
      child : Child f.net.place e c
      child = subst (λ (z : Net). Child z.place e c) (sym stands.rule.same_net) (stands.marked.each id v sits (record { entry = e; fact = has_child c }) mark).fact

      hung : f.net.place c ≢ apart
      hung = child_hangs f.net e c child

      inside_child : c < n
      inside_child = f.words.flow.words.inside c hung

      behind : (k.states c).linked ≡ true → (f.net.place (k.states c).next ≡ after c) × ((k.states c).next < n)
      behind l = go ((k.states c).next == (k.infos c).parent) refl
        where
          up : (k.infos c).parent ≡ e
          up = f.words.flow.words.told c hung ∙ child_parent f.net f.words.flow.words.shaped e c child

          go : (b : Bool) → ((k.states c).next == (k.infos c).parent) ≡ b → (f.net.place (k.states c).next ≡ after c) × ((k.states c).next < n)
          go true q = absurd (clash
              (subst (λ (z : ℕ). (k.states z).given ≡ true) up (f.words.flow.words.parents c inside_child (and_and (k.states c).linked ((k.states c).next == (k.infos c).parent) l q)).2)
              ungiven)
          go false q =
              let sibling = and_and (k.states c).linked (not ((k.states c).next == (k.infos c).parent)) l (ap (λ (z : Bool). not z) q) in
              ((f.words.flow.words.wired c inside_child).sibling sibling, f.words.flow.words.nexts c inside_child sibling)

      rising : (k.states c).linked ≡ true → (c < (k.states c).next) × ((k.states c).next < n)
      rising l = let b = behind l in (f.words.flow.words.shaped.rises c (k.states c).next b.0, b.1)

      behind_fact : (b : Bool) → (k.states c).linked ≡ b → IsFact stands.net stands.role k.states k.values e (if b then has_child (k.states c).next else has_last c)
      behind_fact true q = subst (λ (z : Net). Child z.place e (k.states c).next) stands.rule.same_net (younger (behind q).0 child)
      behind_fact false q = elim (f.words.flow.words.shaped.youngest e c child) [
        | inl same ↦ subst (λ (z : Net). Child z.place e c × (z.last e ≡ c)) stands.rule.same_net (child, sym same)
        | inr earlier ↦ let j = right_behind earlier in absurd (clash (f.words.flow.words.hung_next c j.0 j.1).1 q)
      ]

  pub reads_number : Steps code fuel n id v (number_word_of (length code.first) e) (λ x. x) (λ x l. ReadsNumber (length code.first) e x v.known l)
  reads_number ws homes views stands sits bits =
      let i = number_word_of (length code.first) e in
      let x = slice_index ws i in
      let l : Known = touched i x (marking e (cell_is x) v.known) in (
        l,
        read_stands code fuel n i ws homes (set views id (record { known = l })) (marking_stands ws homes views stands sits i x (cell_is x) (number_fact ws homes views stands sits)),
        record { known = refl; inside = number_inside ws homes views stands sits; reduces = reduces ws homes views stands sits },
      )

  pub reads_value : Steps code fuel n id v (value_word_of (length code.first) e) (λ x. x) (λ x l. l ≡ read_value (length code.first) e x v.known)
  reads_value ws homes views stands sits bits =
      let i = value_word_of (length code.first) e in
      let x = slice_index ws i in
      let l : Known = touched i x (marking e (value_is x) v.known) in (
        l,
        read_stands code fuel n i ws homes (set views id (record { known = l })) (marking_stands ws homes views stands sits i x (value_is x) refl),
        refl,
      )

  pub reads_below : Steps code fuel n id v (state_word_of (length code.first) e) (λ x. x) (λ x l. ReadsBelow n (length code.first) e x v.known l)
  reads_below ws homes views stands sits bits =
      let i = state_word_of (length code.first) e in
      let x = slice_index ws i in
      let l : Known = touched i x (marking e (below_it (state_at x)) v.known) in (
        l,
        read_stands code fuel n i ws homes (set views id (record { known = l })) (marking_stands ws homes views stands sits i x (below_it (state_at x)) (below_fact ws homes views stands sits (state_at x).headed refl)),
        record { known = refl; inside = λ h. stands.rule.field.words.flow.words.firsts e (due_now ws homes views stands sits).0 h },
      )

  pub reads_child : (c : ℕ) → Among (record { entry = e; fact = has_child c }) v.known.marks → Steps code fuel n id v (state_word_of (length code.first) c) (λ x. x) (λ x l. ReadsChild n (length code.first) e c x v.known l)
  reads_child c mark ws homes views stands sits bits =
      let i = state_word_of (length code.first) c in
      let x = slice_index ws i in
      let l : Known = touched i x (marking e (behind_it c (state_at x)) v.known) in (
        l,
        read_stands code fuel n i ws homes (set views id (record { known = l })) (marking_stands ws homes views stands sits i x (behind_it c (state_at x)) (behind_fact ws homes views stands sits c mark (state_at x).linked refl)),
        record { known = refl; behind = λ h. rising ws homes views stands sits c mark h },
      )
