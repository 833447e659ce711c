-- The first seat is split.
use Rattle.std.proofs.Common.{◌≡◌, inl, inr, sym, subst, refl, ◌∙◌, ap, ℕ, ◌<◌, ◌≤◌, ◌+◌, arith, List, [], ◌∷◌, ◌++◌, length, set, Option}
use Rattle.std.specs.Prelude.{slice_index}
use Rattle.std.specs.Global.{Box}
use mathlib.Core.Option as maybe
use lib.ListN.{get_elem?}
use Rattle.atomic_table.specs.Table.{State, Splits}
use Rattle.atomic_table.proofs.Lists.{at_map, at_set, at_snoc, at_longer}
use Rattle.oss_body.specs.Mains.{code_main}
use Rattle.oss_code.specs.declared.code.CodeParts.{CodeParts}
use Rattle.oss_jobs.specs.declared.job.Job.{Job}
use Rattle.oss_machine.specs.Frames.{CodeScript}
use Rattle.oss_machine.specs.Machines.{asks}
use Rattle.oss_words.specs.declared.entry.EntryInfo.{EntryInfo}
use Rattle.oss_words.specs.declared.entry.EntryState.{EntryState}
use Rattle.oss_words.specs.Bits.{state_at}
use Rattle.oss_words.specs.Net.{Net}
use Rattle.oss_words.specs.Sums.{total}
use Rattle.oss_words.specs.Views.{View, Among, At}
use Rattle.oss_words.proofs.KeptLaw.{at_here}
use Rattle.oss_words.proofs.SeatLemmas.{length_set}
use Rattle.oss_words.proofs.SumLemmas.{total_set}
use Rattle.oss_roles.specs.Drawing.{AreDrawn, IsFree}
use Rattle.oss_roles.specs.Field.{FieldAt, Parts, words_of}
use Rattle.oss_roles.specs.Roles.{Role}
use Rattle.oss_roles.specs.Sights.{Sight}
use Rattle.oss_roles.proofs.DrawLaw.{draws_keep, new_seats_draw}
use Rattle.oss_roles.proofs.OtherLaw.{words_set}
use Rattle.oss_roles.proofs.WordClaims.{new_seats_keep, quiet_steps_keep}
use Rattle.oss_field.specs.declared.view.SeatView.{SeatView}
use Rattle.oss_field.specs.Heard.{Told}
use Rattle.oss_field.specs.Known.{Holding, Plan, Unlinked, sight_of}
use Rattle.oss_field.specs.Layout.{parts_of, state_word_of}
use Rattle.oss_field.specs.Marks.{Mark}
use Rattle.oss_field.specs.Plans.{ArePlanned, Planned, planned_of}
use Rattle.oss_field.specs.Seats.{new_known, parted}
use Rattle.oss_field.specs.Table.{AreSeats, Slot, Stands, is_job_of, planned_by, sights_of}
use Rattle.oss_field.proofs.TableLemmas.{chained, plans_same, sights_set, sits_at, then_at}

-- lists with one more at the end
sights_snoc : (views : List SeatView) (x : SeatView) → sights_of (views ++ x ∷ []) ≡ sights_of views ++ sight_of x.known ∷ []
sights_snoc [] x = refl
sights_snoc (y ∷ views) x = ap (λ (z : List (Sight CodeScript)). sight_of y.known ∷ z) (sights_snoc views x)

words_snoc : (sights : List (Sight CodeScript)) (x : Sight CodeScript) → words_of (sights ++ x ∷ []) ≡ words_of sights ++ x.words ∷ []
words_snoc [] x = refl
words_snoc (y ∷ sights) x = ap (λ (z : List View). y.words ∷ z) (words_snoc sights x)

plans_snoc : (views : List SeatView) (x : SeatView) → planned_by (views ++ x ∷ []) ≡ planned_by views ++ planned_of x.known ∷ []
plans_snoc [] x = refl
plans_snoc (y ∷ views) x = ap (λ (z : List Planned). planned_of y.known ∷ z) (plans_snoc views x)

total_snoc : (h : View → ℕ) (l : List View) (x : View) → total h (l ++ x ∷ []) ≡ total h l + h x
total_snoc h [] x = omega arith
total_snoc h (y ∷ l) x = let r = total_snoc h l x in omega (arith, r)

length_snoc : {A : Type 0} (l : List A) (x : A) → length (l ++ x ∷ []) ≡ 1 + length l
length_snoc [] x = omega arith
length_snoc (y ∷ l) x = let r = length_snoc l x in omega (arith, r)

pub no_holding : (h : Holding) → Among h [] → ⊥
no_holding h a = elim a [ ]

pub no_number : (e : ℕ) → Among e [] → ⊥
no_number e a = elim a [ ]

pub none_told : (t : Told) → Among t [] → ⊥
none_told t a = elim a [ ]

pub none_marked : (t : Mark) → Among t [] → ⊥
none_marked t a = elim a [ ]

no_plan : (y : Plan) → Among y [] → ⊥
no_plan y a = elim a [ ]

no_loose : (z : Unlinked) → Among z [] → ⊥
no_loose z a = elim a [ ]

-- The first seat is split

module _ (code : CodeParts) (n : ℕ) (net : Net) (role : ℕ → Option Role) (states : ℕ → EntryState) (infos : ℕ → EntryInfo) (cell_of : ℕ → ℕ) (seats : List Planned) (a : ArePlanned code n net role states infos cell_of seats) where
  -- a seat more, which makes nothing
  planned_more : ArePlanned code n net role states infos cell_of (seats ++ record { plans = []; unlinked = [] } ∷ [])
  planned_more = record {
    inside = a.inside;
    blank = a.blank;
    own = λ j s at y b. elim (at_snoc seats (record { plans = []; unlinked = [] }) s j at) [
      | inl old ↦ a.own j s old y b
      | inr new ↦ absurd (no_plan y (subst (λ (z : Planned). Among y z.plans) (sym new) b))
    ];
    roles = λ j s at y b. elim (at_snoc seats (record { plans = []; unlinked = [] }) s j at) [
      | inl old ↦ a.roles j s old y b
      | inr new ↦ absurd (no_plan y (subst (λ (z : Planned). Among y z.plans) (sym new) b))
    ];
    rest = λ j s at y b. elim (at_snoc seats (record { plans = []; unlinked = [] }) s j at) [
      | inl old ↦ a.rest j s old y b
      | inr new ↦ absurd (no_plan y (subst (λ (z : Planned). Among y z.plans) (sym new) b))
    ];
    one = λ i j s u si sj y z b c same. elim (at_snoc seats (record { plans = []; unlinked = [] }) s i si) [
      | inl old ↦ elim (at_snoc seats (record { plans = []; unlinked = [] }) u j sj) [
        | inl older ↦ a.one i j s u old older y z b c same
        | inr new ↦ absurd (no_plan z (subst (λ (w : Planned). Among z w.plans) (sym new) c))
      ]
      | inr new ↦ absurd (no_plan y (subst (λ (w : Planned). Among y w.plans) (sym new) b))
    ];
    loose = λ j s at z b. elim (at_snoc seats (record { plans = []; unlinked = [] }) s j at) [
      | inl old ↦ a.loose j s old z b
      | inr new ↦ absurd (no_loose z (subst (λ (w : Planned). Among z w.unlinked) (sym new) b))
    ];
  }

module _ (code : CodeParts) (fuel n : ℕ) (v : SeatView) (more : 1 < v.known.words.parts) (few : v.known.words.splits < 65536) where
  abbrev l : SeatView
  l = record { known = parted v.known }

  abbrev r : SeatView
  r = record { known = new_known }

  module _ (z : State Slot SeatView) (stands : Stands code fuel n z.words z.homes z.views) (sits : get_elem? z.views 0 ≡ maybe.some v) where
    abbrev sights : List (Sight CodeScript)
    sights = sights_of z.views

    abbrev k : Parts (Box Job)
    k = parts_of (length code.first) z.words z.homes stands.cells

    abbrev views' : List SeatView
    views' = set z.views 0 (record { known = parted v.known }) ++ record { known = new_known } ∷ []

    sights_are : sights_of views' ≡ set (sights_of z.views) 0 (sight_of (parted v.known)) ++ sight_of new_known ∷ []
    sights_are = sights_snoc (set z.views 0 l) r ∙ ap (λ (y : List (Sight CodeScript)). y ++ sight_of new_known ∷ []) (sights_set z.views 0 (parted v.known))

    words_are : words_of (sights_of views') ≡ set (words_of (sights_of z.views)) 0 (parted v.known).words ++ new_known.words ∷ []
    words_are = ap (λ (y : List (Sight CodeScript)). words_of y) sights_are
        ∙ (words_snoc (set (sights_of z.views) 0 (sight_of (parted v.known))) (sight_of new_known)
        ∙ ap (λ (y : List View). y ++ new_known.words ∷ []) (words_set (sights_of z.views) 0 (sight_of (parted v.known))))

    plans_are : planned_by views' ≡ planned_by z.views ++ record { plans = []; unlinked = [] } ∷ []
    plans_are = plans_snoc (set z.views 0 l) r ∙ ap (λ (y : List Planned). y ++ record { plans = []; unlinked = [] } ∷ []) (plans_same z.views 0 v (parted v.known) sits refl)

    rule_now : FieldAt (asks code) (code_main code fuel) code.first (is_job_of code stands.before) n stands.net stands.gave stands.role k (set (sights_of z.views) 0 (sight_of (parted v.known)) ++ sight_of new_known ∷ [])
    rule_now =
        let g = quiet_steps_keep CodeScript (Box Job) (is_job_of code stands.before) (asks code) (code_main code fuel) code.first n k (sights_of z.views) stands.rule.field
        0 (sight_of v.known) (sight_of (parted v.known)) (sits_at z.views 0 v sits) (record { held = refl; half = refl; bears = refl; makes = refl; joined = refl; owes = refl; ready = λ t a. a; loaded = λ y a. a; seen = λ y a. a; still = λ y a. a }) in
        chained stands (then_at code g (new_seats_keep CodeScript (Box Job) (is_job_of code stands.before) (asks code) (code_main code fuel) code.first n k (set (sights_of z.views) 0 (sight_of (parted v.known))) g.field (sight_of new_known)
        (record { held = refl; half = refl; bears = refl; makes = refl; joined = refl; owes = refl; ready = refl; loaded = refl; seen = refl; still = refl })))

    still_free : (e : ℕ) → IsFree stands.role (sights_of z.views) e → IsFree stands.role (set (sights_of z.views) 0 (sight_of (parted v.known)) ++ sight_of new_known ∷ []) e
    still_free e free = record {
      none = free.none;
      undrawn = λ j y at a. elim (at_snoc (set (sights_of z.views) 0 (sight_of (parted v.known))) (sight_of new_known) y j at) [
        | inl old ↦ elim (at_set (sights_of z.views) 0 j (sight_of (parted v.known)) y old) [
          | inl h ↦ free.undrawn 0 (sight_of v.known) (sits_at z.views 0 v sits) (subst (λ (x : Sight CodeScript). Among e x.drawn) (sym h.1) a)
          | inr h ↦ free.undrawn j y h.1 a
        ]
        | inr new ↦ no_number e (subst (λ (x : Sight CodeScript). Among e x.drawn) (sym new) a)
      ];
    }

    seats_now : AreSeats n stands.net (λ e. state_at (slice_index z.words (state_word_of (length code.first) e))) (slice_index z.words 0) (set (words_of (sights_of z.views)) 0 (parted v.known).words ++ new_known.words ∷ [])
    seats_now =
        let s = stands.seats in
        let ws = words_of (sights_of z.views) in
        let w : View = (parted v.known).words in
        let at : At (words_of (sights_of z.views)) 0 v.known.words = at_map (λ (y : Sight CodeScript). y.words) (sights_of z.views) 0 (sight_of v.known) (sits_at z.views 0 v sits) in
        let g = total_set (λ (y : View). y.failed) ws 0 v.known.words w at in
        let p = total_set (λ (y : View). y.parts) ws 0 v.known.words w at in
        let d = total_set (λ (y : View). y.delivered) ws 0 v.known.words w at in
        let g2 = total_snoc (λ (y : View). y.failed) (set ws 0 w) new_known.words in
        let p2 = total_snoc (λ (y : View). y.parts) (set ws 0 w) new_known.words in
        let d2 = total_snoc (λ (y : View). y.delivered) (set ws 0 w) new_known.words in
        let long = length_snoc (set ws 0 w) new_known.words in
        let same = length_set ws 0 w in
        let first = s.split v.known.words at in
        record {
          main_drawn = s.main_drawn;
          drawn = let a = s.drawn in omega (arith, a, g, g2);
          failed = λ j y sy. elim (at_snoc (set ws 0 w) new_known.words y j sy) [
            | inl old ↦ elim (at_set ws 0 j w y old) [
              | inl h ↦ subst (λ (x : View). x.failed ≤ 1) h.1 (s.failed 0 v.known.words at)
              | inr h ↦ s.failed j y h.1
            ]
            | inr new ↦ subst (λ (x : View). x.failed ≤ 1) new (omega arith)
          ];
          split = λ y sy. elim (at_snoc (set ws 0 w) new_known.words y 0 sy) [
            | inl old ↦ elim (at_set ws 0 0 w y old) [
              | inl h ↦ let q = ap (λ (x : View). x.splits) (sym h.1) in omega (arith, long, same, first, q)
              | inr h ↦ absurd (h.0 refl)
            ]
            | inr new ↦
                let here = at_longer (set ws 0 w) (new_known.words ∷ []) 0 w (at_here ws 0 v.known.words w at) in
                let one : w ≡ y = maybe.some-injective w y (sym here ∙ sy) in
                let q = ap (λ (x : View). x.splits) (sym one) in
                omega (arith, long, same, first, q)
          ];
          few = omega (arith, long, same, first, few);
          parts = let a = s.parts in omega (arith, a, p, p2, more);
          work = let a = s.work in omega (arith, a, d, d2);
        }

    split_stands : Stands code fuel n z.words z.homes (set z.views 0 (record { known = parted v.known }) ++ record { known = new_known } ∷ [])
    split_stands = record {
      net = stands.net;
      gave = stands.gave;
      role = stands.role;
      before = stands.before;
      fresh = stands.fresh;
      cells = stands.cells;
      size = stands.size;
      slots = stands.slots;
      sized = stands.sized;
      cell_words = stands.cell_words;
      empty = stands.empty;
      whole = stands.whole;
      neat = stands.neat;
      rule = subst (λ (y : List (Sight CodeScript)). FieldAt (asks code) (code_main code fuel) code.first (is_job_of code stands.before) n stands.net stands.gave stands.role k y) (sym sights_are) rule_now;
      told = λ j y at h a. elim (at_snoc (set z.views 0 l) r y j at) [
        | inl old ↦ elim (at_set z.views 0 j l y old) [
          | inl e ↦ stands.told 0 v sits h (subst (λ (x : SeatView). Among h x.known.bears) (sym e.1) a)
          | inr e ↦ stands.told j y e.1 h a
        ]
        | inr new ↦ absurd (no_holding h (subst (λ (x : SeatView). Among h x.known.bears) (sym new) a))
      ];
      drawn = subst (λ (y : List (Sight CodeScript)). AreDrawn stands.role y) (sym sights_are)
          (new_seats_draw CodeScript stands.role (set (sights_of z.views) 0 (sight_of (parted v.known))) (sight_of new_known) refl
          (draws_keep CodeScript stands.role (sights_of z.views) 0 (sight_of v.known) (sight_of (parted v.known)) (sits_at z.views 0 v sits) (λ e a. inl a) stands.drawn));
      undrawn = λ e high. subst (λ (y : List (Sight CodeScript)). IsFree stands.role y e) (sym sights_are) (still_free e (stands.undrawn e high));
      selves = stands.selves;
      heard = record {
        told = λ j y at t a. elim (at_snoc (set z.views 0 l) r y j at) [
          | inl old ↦ elim (at_set z.views 0 j l y old) [
            | inl e ↦ stands.heard.told 0 v sits t (subst (λ (x : SeatView). Among t x.known.told) (sym e.1) a)
            | inr e ↦ stands.heard.told j y e.1 t a
          ]
          | inr new ↦ absurd (none_told t (subst (λ (x : SeatView). Among t x.known.told) (sym new) a))
        ];
      };
      marked = record {
        each = λ j y at t a. elim (at_snoc (set z.views 0 l) r y j at) [
          | inl old ↦ elim (at_set z.views 0 j l y old) [
            | inl e ↦ stands.marked.each 0 v sits t (subst (λ (x : SeatView). Among t x.known.marks) (sym e.1) a)
            | inr e ↦ stands.marked.each j y e.1 t a
          ]
          | inr new ↦ absurd (none_marked t (subst (λ (x : SeatView). Among t x.known.marks) (sym new) a))
        ];
      };
      seats = subst (λ (y : List View). AreSeats n stands.net (λ e. state_at (slice_index z.words (state_word_of (length code.first) e))) (slice_index z.words 0) y) (sym words_are) seats_now;
      planned = subst (λ (y : List Planned). ArePlanned code n stands.net stands.role k.states k.infos k.cell_of y) (sym plans_are)
          (planned_more code n stands.net stands.role k.states k.infos k.cell_of (planned_by z.views) stands.planned);
    }

  pub splits : Splits (λ (z : State Slot SeatView). Stands code fuel n z.words z.homes z.views) 0 v (record { known = parted v.known }) (record { known = new_known })
  splits z stands sits = split_stands z stands sits
