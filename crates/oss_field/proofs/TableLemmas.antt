-- The table after a step of one seat: what a law of `oss_roles` gives for the words as functions is so of the words where they lie.
use Rattle.std.proofs.Common.{◌≡◌, ◌≢◌, ◌⊎◌, inl, inr, sym, subst, refl, ◌∙◌, ap, ℕ, zero, suc, ◌<◌, ◌≤◌, Bool, true, List, [], ◌∷◌, length, set}
use Rattle.std.specs.Prelude.{slice_index, Option, None}
use mathlib.Core.Option as maybe
use lib.ListN.{get_elem?}
use Rattle.std.proofs.lemmas.List.{set-get_or}
use Rattle.std.proofs.Math.Seq.{map-set}
use Rattle.atomic_table.proofs.Lists.{at_set, at_map, set_again}
use Rattle.oss_body.specs.Mains.{code_main}
use Rattle.oss_code.specs.declared.code.CodeParts.{CodeParts}
use Rattle.oss_machine.specs.Frames.{CodeScript}
use Rattle.oss_machine.specs.Machines.{asks}
use Rattle.oss_words.specs.declared.entry.EntryState.{EntryState}
use Rattle.oss_model.specs.Bodies.{Start}
use Rattle.oss_words.specs.declared.entry.EntryInfo.{EntryInfo}
use Rattle.oss_words.specs.Bits.{info_at, state_at, state_word}
use Rattle.oss_words.specs.Net.{Net, apart}
use Rattle.oss_words.specs.Views.{View, Among, among_first, among_later}
use Rattle.oss_roles.specs.Drawing.{AreDrawn, IsFree}
use Rattle.oss_roles.specs.Field.{FieldAt, Parts, Sits, words_of}
use Rattle.oss_roles.specs.Roles.{Role}
use Rattle.oss_roles.specs.Sights.{Sight, Telling}
use Rattle.oss_roles.proofs.DrawLaw.{draws_keep}
use Rattle.oss_roles.proofs.OtherLaw.{words_set}
use Rattle.std.specs.Global.{Box}
use Rattle.oss_jobs.specs.declared.job.Job.{Job}
use Rattle.oss_field.specs.declared.view.SeatView.{SeatView}
use Rattle.oss_field.specs.Heard.{Told}
use Rattle.oss_field.specs.Known.{Holding, Known, sight_of}
use Rattle.oss_field.specs.Layout.{words_in, cell_word, state_word_of, info_word_of, value_word_of, number_word_of, body_word_of, parts_of}
use Rattle.oss_field.specs.Plans.{ArePlanned, Hearing, Planned, Prepared, hearing_of, planned_of, prepared_of}
use Rattle.oss_field.specs.Table.{Slot, is_job_of, planned_by, sights_of, Neat, AreSeats, Stands}
use Rattle.oss_field.proofs.HeardLemmas.{heard_on}
use Rattle.oss_field.proofs.MarkLemmas.{marked_on, same_keeps, stays_same}

-- what is in a list, and in one of which a member was changed
pub among_at : {A : Type 0} (l : List A) (i : ℕ) (a : A) → get_elem? l i ≡ maybe.some a → Among a l
among_at [] i a h = absurd (maybe.some-ne-none a (sym h))
among_at (x ∷ l) zero a h = among_first (maybe.some-injective x a h)
among_at (x ∷ l) (suc i) a h = among_later (among_at l i a h)

pub among_set : {A : Type 0} (l : List A) (i : ℕ) (a z : A) → Among z (set l i a) → (a ≡ z) ⊎ Among z l
among_set [] i a z h = inr h
among_set (x ∷ l) zero a z h = elim h [ among_first p ↦ inl p | among_later r ↦ inr (among_later r) ]
among_set (x ∷ l) (suc i) a z h = elim h [
  | among_first p ↦ inr (among_first p)
  | among_later r ↦ elim (among_set l i a z r) [ inl e ↦ inl e | inr q ↦ inr (among_later q) ]
]

-- a seat of the table, as the rule of the laws has it
pub sits_at : (views : List SeatView) (id : ℕ) (v : SeatView) → get_elem? views id ≡ maybe.some v → Sits (sights_of views) id (sight_of v.known)
sits_at views id v at = at_map (λ (z : SeatView). sight_of z.known) views id v at

-- the views after a step of one seat
pub sights_set : (views : List SeatView) (id : ℕ) (l : Known) → sights_of (set views id (record { known = l })) ≡ set (sights_of views) id (sight_of l)
sights_set views id l = map-set (λ (z : SeatView). sight_of z.known) views id (record { known = l })

-- what is free stays free, if the seat that steps draws nothing
pub free_stays : (role : ℕ → Option Role) (sights : List (Sight CodeScript)) (id : ℕ) (v w : Sight CodeScript) → Sits sights id v → w.drawn ≡ v.drawn → (e : ℕ) → IsFree role sights e → IsFree role (set sights id w) e
free_stays role sights id v w at drawn e free = record {
  none = free.none;
  undrawn = λ j x sits a. elim (at_set sights id j w x sits) [
    | inl h ↦ free.undrawn id v at (subst (λ (l : List ℕ). Among e l) drawn (subst (λ (z : Sight CodeScript). Among e z.drawn) (sym h.1) a))
    | inr h ↦ free.undrawn j x h.1 a
  ];
}

-- a law's rule after another's
pub then_at : (code : CodeParts) {main : Start CodeScript} {first : List ℕ} {is_job : Telling CodeScript (Box Job)} {n : ℕ} {net : Net} {gave : ℕ → Bool} {role : ℕ → Option Role} {k k' : Parts (Box Job)} {sights sights' : List (Sight CodeScript)}
    (g : FieldAt (asks code) main first is_job n net gave role k sights) → FieldAt (asks code) main first is_job n g.field.net g.field.gave g.field.role k' sights' → FieldAt (asks code) main first is_job n net gave role k' sights'
then_at code g h = record { field = h.field; same_net = h.same_net ∙ g.same_net; same_gave = h.same_gave ∙ g.same_gave; same_role = h.same_role ∙ g.same_role }

-- a law's rule, named as the table's own
pub chained : {code : CodeParts} {fuel n : ℕ} {ws : List ℕ} {homes : List (maybe.Option Slot)} {views : List SeatView} (stands : Stands code fuel n ws homes views)
    {k : Parts (Box Job)} {sights : List (Sight CodeScript)}
    → FieldAt (asks code) (code_main code fuel) code.first (is_job_of code stands.before) n stands.rule.field.net stands.rule.field.gave stands.rule.field.role k sights
    → FieldAt (asks code) (code_main code fuel) code.first (is_job_of code stands.before) n stands.net stands.gave stands.role k sights
chained stands g = record { field = g.field; same_net = g.same_net ∙ stands.rule.same_net; same_gave = g.same_gave ∙ stands.rule.same_gave; same_role = g.same_role ∙ stands.rule.same_role }

-- what is kept of the tasks that are being made, after a step of a seat that keeps it
pub plans_same : (views : List SeatView) (id : ℕ) (v : SeatView) (l : Known) → get_elem? views id ≡ maybe.some v → planned_of l ≡ planned_of v.known → planned_by (set views id (record { known = l })) ≡ planned_by views
plans_same views id v l at same =
    map-set (λ (z : SeatView). planned_of z.known) views id (record { known = l })
    ∙ (ap (λ (z : Planned). set (planned_by views) id z) same
    ∙ set_again (planned_by views) id (planned_of v.known) (at_map (λ (z : SeatView). planned_of z.known) views id v at))

-- the same of the words of a table, if those that it speaks of are as they were
pub plans_stand : (code : CodeParts) (n : ℕ) (net : Net) (role : ℕ → Option Role) (ws ws' : List ℕ) (seats seats' : List Planned)
    → ((e : ℕ) → slice_index ws' (state_word_of (length code.first) e) ≡ slice_index ws (state_word_of (length code.first) e))
    → ((e : ℕ) → slice_index ws' (info_word_of (length code.first) e) ≡ slice_index ws (info_word_of (length code.first) e))
    → ((e : ℕ) → slice_index ws' (number_word_of (length code.first) e) ≡ slice_index ws (number_word_of (length code.first) e))
    → seats' ≡ seats
    → ArePlanned code n net role (λ e. state_at (slice_index ws (state_word_of (length code.first) e))) (λ e. info_at (slice_index ws (info_word_of (length code.first) e))) (λ e. slice_index ws (number_word_of (length code.first) e)) seats
    → ArePlanned code n net role (λ e. state_at (slice_index ws' (state_word_of (length code.first) e))) (λ e. info_at (slice_index ws' (info_word_of (length code.first) e))) (λ e. slice_index ws' (number_word_of (length code.first) e)) seats'
plans_stand code n net role ws ws' seats seats' states infos numbers same p =
    let states' : ℕ → EntryState = λ e. state_at (slice_index ws' (state_word_of (length code.first) e)) in
    let infos' : ℕ → EntryInfo = λ e. info_at (slice_index ws' (info_word_of (length code.first) e)) in
    subst (λ (z : List Planned). ArePlanned code n net role states' infos' (λ e. slice_index ws' (number_word_of (length code.first) e)) z) (sym same)
    (subst (λ (z : ℕ → ℕ). ArePlanned code n net role states' infos' z seats) (λ i e. sym (numbers e) i)
    (subst (λ (z : ℕ → EntryInfo). ArePlanned code n net role states' z (λ e. slice_index ws (number_word_of (length code.first) e)) seats) (λ i e. info_at (sym (infos e) i))
    (subst (λ (z : ℕ → EntryState). ArePlanned code n net role z (λ e. info_at (slice_index ws (info_word_of (length code.first) e))) (λ e. slice_index ws (number_word_of (length code.first) e)) seats) (λ i e. state_at (sym (states e) i)) p)))

-- the table after a step that leaves the state words, the draw word, the roles and what the seat has drawn
module _ (code : CodeParts) (fuel n : ℕ) (ws : List ℕ) (homes : List (maybe.Option Slot)) (views : List SeatView) (stands : Stands code fuel n ws homes views)
    (id : ℕ) (v : SeatView) (l : Known) (at : get_elem? views id ≡ maybe.some v) (words : l.words ≡ v.known.words) (drawn : l.drawn ≡ v.known.drawn) (heard : hearing_of l ≡ hearing_of v.known)
    (told : (h : Holding) → Among h l.bears → stands.before h.number ≡ h.before) where
  abbrev m : ℕ
  m = length code.first

  abbrev views' : List SeatView
  views' = set views id (record { known = l })

  views_stay : words_of (sights_of views') ≡ words_of (sights_of views)
  views_stay =
      ap (λ (z : List (Sight CodeScript)). words_of z) (sights_set views id l)
      ∙ (words_set (sights_of views) id (sight_of l)
      ∙ (ap (λ (z : View). set (words_of (sights_of views)) id z) words
      ∙ set_again (words_of (sights_of views)) id v.known.words (at_map (λ (z : Sight CodeScript). z.words) (sights_of views) id (sight_of v.known) (sits_at views id v at))))

  pub next_stands : (ws' : List ℕ) (homes' : List (maybe.Option Slot)) (cells' : List ℕ) → length ws' ≡ words_in (length code.first) n → length homes' ≡ n → length cells' ≡ length code.first
      → ((c : ℕ) → c < length code.first → slice_index ws' (cell_word c) ≡ slice_index cells' c)
      → ((e : ℕ) → e < n → slice_index ws' (body_word_of (length code.first) e) ≡ 0 → get_elem? homes' e ≡ maybe.some (maybe.some None))
      → ((e : ℕ) → slice_index ws' (state_word_of (length code.first) e) ≡ slice_index ws (state_word_of (length code.first) e))
      → ((e : ℕ) → stands.net.place e ≢ apart → slice_index ws' (info_word_of (length code.first) e) ≡ slice_index ws (info_word_of (length code.first) e))
      → ((e : ℕ) → (state_at (slice_index ws (state_word_of (length code.first) e))).left ≡ true → slice_index ws' (value_word_of (length code.first) e) ≡ slice_index ws (value_word_of (length code.first) e))
      → slice_index ws' 0 ≡ slice_index ws 0
      → ArePlanned code n stands.net stands.role (λ e. state_at (slice_index ws' (state_word_of (length code.first) e))) (λ e. info_at (slice_index ws' (info_word_of (length code.first) e))) (λ e. slice_index ws' (number_word_of (length code.first) e)) (planned_by (set views id (record { known = l })))
      → FieldAt (asks code) (code_main code fuel) code.first (is_job_of code stands.before) n stands.net stands.gave stands.role (parts_of (length code.first) ws' homes' cells') (set (sights_of views) id (sight_of l))
      → Stands code fuel n ws' homes' (set views id (record { known = l }))
  next_stands ws' homes' cells' size slots sized cell_words empty same infos values draw planned rule = record {
    net = stands.net;
    gave = stands.gave;
    role = stands.role;
    before = stands.before;
    fresh = stands.fresh;
    cells = cells';
    size = size;
    slots = slots;
    sized = sized;
    cell_words = cell_words;
    empty = empty;
    whole = λ e. subst (λ (z : ℕ). z ≡ state_word (state_at z)) (sym (same e)) (stands.whole e);
    neat = λ e. subst (λ (z : ℕ). Neat (state_at z)) (sym (same e)) (stands.neat e);
    rule = subst (λ (z : List (Sight CodeScript)). FieldAt (asks code) (code_main code fuel) code.first (is_job_of code stands.before) n stands.net stands.gave stands.role (parts_of m ws' homes' cells') z) (sym (sights_set views id l)) rule;
    told = λ j x sits h among. elim (at_set views id j (record { known = l }) x sits) [
      | inl e ↦ told h (subst (λ (z : SeatView). Among h z.known.bears) (sym e.1) among)
      | inr e ↦ stands.told j x e.1 h among
    ];
    drawn = subst (λ (z : List (Sight CodeScript)). AreDrawn stands.role z) (sym (sights_set views id l))
        (draws_keep CodeScript stands.role (sights_of views) id (sight_of v.known) (sight_of l) (sits_at views id v at) (λ e a. inl (subst (λ (z : List ℕ). Among e z) drawn a)) stands.drawn);
    undrawn = λ e high. subst (λ (z : List (Sight CodeScript)). IsFree stands.role z e) (sym (sights_set views id l))
        (free_stays stands.role (sights_of views) id (sight_of v.known) (sight_of l) (sits_at views id v at) drawn e (stands.undrawn e (subst (λ (z : ℕ). z ≤ e) draw high)));
    selves = stands.selves;
    heard = heard_on stands.net (λ e. info_at (slice_index ws (info_word_of m e))) (λ e. info_at (slice_index ws' (info_word_of m e))) views id v l at
        (λ t a. inl (subst (λ (z : List Told). Among t z) (ap (λ (z : Hearing). z.told) heard) a)) (λ e hangs. ap info_at (infos e hangs)) stands.heard;
    marked = marked_on stands.net stands.net stands.role stands.role (λ e. state_at (slice_index ws (state_word_of m e))) (λ e. state_at (slice_index ws' (state_word_of m e))) (λ e. slice_index ws (value_word_of m e)) (λ e. slice_index ws' (value_word_of m e))
        (same_keeps stands.net stands.role (λ e. state_at (slice_index ws (state_word_of m e))) (λ e. state_at (slice_index ws' (state_word_of m e))) (λ e. slice_index ws (value_word_of m e)) (λ e. slice_index ws' (value_word_of m e))
        (λ e. stays_same (state_at (slice_index ws (state_word_of m e))) (state_at (slice_index ws' (state_word_of m e))) (ap state_at (same e))) values) views id v l at (ap (λ (z : Hearing). z.marks) heard) stands.marked;
    seats = subst (λ (z : List View). AreSeats n stands.net (λ e. state_at (slice_index ws' (state_word_of m e))) (slice_index ws' 0) z) (sym views_stay)
        (subst (λ (z : ℕ). AreSeats n stands.net (λ e. state_at (slice_index ws' (state_word_of m e))) z (words_of (sights_of views))) (sym draw)
        (subst (λ (g : ℕ → EntryState). AreSeats n stands.net g (slice_index ws 0) (words_of (sights_of views))) (λ i e. state_at (sym (same e) i)) stands.seats));
    planned = planned;
  }

-- the same, if no word and no slot changes
pub quiet_stands : (code : CodeParts) (fuel n : ℕ) (ws : List ℕ) (homes : List (maybe.Option Slot)) (views : List SeatView) (stands : Stands code fuel n ws homes views) (id : ℕ) (v : SeatView) (l : Known)
    → get_elem? views id ≡ maybe.some v → l.words ≡ v.known.words → prepared_of l ≡ prepared_of v.known → ((h : Holding) → Among h l.bears → stands.before h.number ≡ h.before)
    → FieldAt (asks code) (code_main code fuel) code.first (is_job_of code stands.before) n stands.net stands.gave stands.role (parts_of (length code.first) ws homes stands.cells) (set (sights_of views) id (sight_of l))
    → Stands code fuel n ws homes (set views id (record { known = l }))
quiet_stands code fuel n ws homes views stands id v l at words same told rule =
    next_stands code fuel n ws homes views stands id v l at words (ap (λ (z : Prepared). z.drawn) same) (ap (λ (z : Prepared). z.heard) same) told ws homes stands.cells stands.size stands.slots stands.sized stands.cell_words stands.empty (λ e. refl) (λ e hangs. refl) (λ e left. refl) refl
    (plans_stand code n stands.net stands.role ws ws (planned_by views) (planned_by (set views id (record { known = l }))) (λ e. refl) (λ e. refl) (λ e. refl) (plans_same views id v l at (ap (λ (z : Prepared). z.planned) same)) stands.planned) rule

-- a word that was read is as it was
pub read_stands : (code : CodeParts) (fuel n i : ℕ) (ws : List ℕ) (homes : List (maybe.Option Slot)) (views : List SeatView) → Stands code fuel n ws homes views → Stands code fuel n (set ws i (slice_index ws i)) homes views
read_stands code fuel n i ws homes views stands = subst (λ (z : List ℕ). Stands code fuel n z homes views) (sym (set-get_or ws i 0)) stands
