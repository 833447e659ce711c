-- A seat is joined to another.
use Rattle.std.proofs.Common.{◌≡◌, inl, inr, sym, subst, refl, ◌∙◌, ap, ℕ, zero, suc, ◌≤◌, arith, List, [], ◌∷◌, length, set, map}
use Rattle.std.specs.Prelude.{slice_index}
use Rattle.std.specs.Global.{Box}
use mathlib.Core.Option as maybe
use lib.ListN.{get_elem?}
use Rattle.atomic_table.specs.Table.{State, Joins}
use Rattle.atomic_table.proofs.Lists.{at_map, at_set, set_else}
use Rattle.oss_body.specs.Mains.{code_main}
use Rattle.oss_code.specs.declared.code.CodeParts.{CodeParts}
use Rattle.oss_jobs.specs.declared.job.Job.{Job}
use Rattle.oss_machine.specs.Frames.{CodeScript}
use Rattle.oss_machine.specs.Machines.{asks}
use Rattle.oss_words.specs.Bits.{state_at}
use Rattle.oss_words.specs.Views.{View, Among, At}
use Rattle.oss_words.proofs.SeatLemmas.{among_append, length_set}
use Rattle.oss_words.proofs.SumLemmas.{total_set}
use Rattle.oss_roles.specs.Drawing.{AreDrawn, IsFree}
use Rattle.oss_roles.specs.Field.{FieldAt, Parts, words_of}
use Rattle.oss_roles.specs.Sights.{Sight}
use Rattle.oss_roles.proofs.DrawLaw.{draws_keep}
use Rattle.oss_roles.proofs.OtherLaw.{words_set}
use Rattle.oss_roles.proofs.WordClaims.{quiet_steps_keep}
use Rattle.oss_field.specs.declared.view.SeatView.{SeatView}
use Rattle.oss_field.specs.Known.{Holding, Known, bearing_of, sight_of}
use Rattle.oss_field.specs.Layout.{parts_of, state_word_of}
use Rattle.oss_field.specs.Plans.{ArePlanned, Planned, planned_of}
use Rattle.oss_field.specs.Seats.{IsIdle, merged, spent}
use Rattle.oss_field.specs.Table.{AreSeats, Slot, Stands, is_job_of, planned_by, sights_of}
use Rattle.oss_field.proofs.SeatLemmas.{no_holding, no_number, none_marked, none_told}
use Rattle.oss_field.proofs.TableLemmas.{chained, plans_same, sights_set, sits_at, then_at}

-- the rule of a seat that holds nothing is that of what is left of it
module _ (code : CodeParts) (fuel n id : ℕ) (v : SeatView) (other : ℕ) (x : SeatView) (idle : IsIdle x.known) where
  abbrev b : Known
  b = merged v.known x.known

  module _ (z : State Slot SeatView) (stands : Stands code fuel n z.words z.homes z.views) (sits : get_elem? z.views id ≡ maybe.some v) (differ : other ≡ id → ⊥) (there : get_elem? (set z.views id (record { known = merged v.known x.known })) other ≡ maybe.some x) where
    abbrev sights : List (Sight CodeScript)
    sights = sights_of z.views

    abbrev k : Parts (Box Job)
    k = parts_of (length code.first) z.words z.homes stands.cells

    abbrev views' : List SeatView
    views' = set (set z.views id (record { known = merged v.known x.known })) other (record { known = spent })

    abbrev gone : List (Sight CodeScript)
    gone = set (sights_of z.views) other (sight_of spent)

    was : get_elem? z.views other ≡ maybe.some x
    was = sym (set_else z.views id other (record { known = merged v.known x.known }) differ) ∙ there

    -- the steps of the two seats may be told in either order
    set_apart : {A : Type 0} (l : List A) (i j : ℕ) (p q : A) → (j ≡ i → ⊥) → set (set l i p) j q ≡ set (set l j q) i p
    set_apart [] i j p q ne = refl
    set_apart (y ∷ l) zero zero p q ne = absurd (ne refl)
    set_apart (y ∷ l) zero (suc j) p q ne = refl
    set_apart (y ∷ l) (suc i) zero p q ne = refl
    set_apart (y ∷ l) (suc i) (suc j) p q ne = ap (λ (r : List _). y ∷ r) (set_apart l i j p q (λ e. ne (ap suc e)))

    sights_are : sights_of views' ≡ set (set (sights_of z.views) other (sight_of spent)) id (sight_of (merged v.known x.known))
    sights_are =
        sights_set (set z.views id (record { known = merged v.known x.known })) other spent
        ∙ (ap (λ (y : List (Sight CodeScript)). set y other (sight_of spent)) (sights_set z.views id (merged v.known x.known))
        ∙ set_apart (sights_of z.views) id other (sight_of (merged v.known x.known)) (sight_of spent) differ)

    words_are : words_of (sights_of views') ≡ set (set (words_of (sights_of z.views)) other spent.words) id (merged v.known x.known).words
    words_are = ap (λ (y : List (Sight CodeScript)). words_of y) sights_are
        ∙ (words_set (set (sights_of z.views) other (sight_of spent)) id (sight_of (merged v.known x.known))
        ∙ ap (λ (y : List View). set y id (merged v.known x.known).words) (words_set (sights_of z.views) other (sight_of spent)))

    made_none : planned_of spent ≡ planned_of x.known
    made_none = λ i. record { plans = sym idle.plans i; unlinked = sym idle.unlinked i }

    plans_are : planned_by views' ≡ planned_by z.views
    plans_are = plans_same (set z.views id (record { known = merged v.known x.known })) other x spent there made_none ∙ plans_same z.views id v (merged v.known x.known) sits refl

    here : get_elem? (set (sights_of z.views) other (sight_of spent)) id ≡ maybe.some (sight_of v.known)
    here = set_else (sights_of z.views) other id (sight_of spent) (λ q. differ (sym q)) ∙ sits_at z.views id v sits

    rule_now : FieldAt (asks code) (code_main code fuel) code.first (is_job_of code stands.before) n stands.net stands.gave stands.role k (set (set (sights_of z.views) other (sight_of spent)) id (sight_of (merged v.known x.known)))
    rule_now =
        let g = quiet_steps_keep CodeScript (Box Job) (is_job_of code stands.before) (asks code) (code_main code fuel) code.first n k (sights_of z.views) stands.rule.field
        other (sight_of x.known) (sight_of spent) (sits_at z.views other x was) (record {
          held = sym idle.held;
          half = sym idle.half;
          bears = ap (λ (y : List Holding). map bearing_of y) (sym idle.bears);
          makes = sym idle.makes;
          joined = sym idle.joined;
          owes = sym idle.owes;
          ready = λ t a. absurd (no_number t a);
          loaded = λ y a. elim a [ ];
          seen = λ y a. elim a [ ];
          still = λ y a. elim a [ ];
        }) in
        chained stands (then_at code g (quiet_steps_keep CodeScript (Box Job) (is_job_of code stands.before) (asks code) (code_main code fuel) code.first n k (set (sights_of z.views) other (sight_of spent)) g.field
        id (sight_of v.known) (sight_of (merged v.known x.known)) here (record { held = refl; half = refl; bears = refl; makes = refl; joined = refl; owes = refl; ready = λ t a. a; loaded = λ y a. a; seen = λ y a. a; still = λ y a. a })))

    -- what the joined seat had drawn is free once it is spent
    freed : (e : ℕ) → Among e x.known.drawn → IsFree stands.role (set (sights_of z.views) other (sight_of spent)) e
    freed e a = record {
      none = stands.drawn.none other (sight_of x.known) (sits_at z.views other x was) e a;
      undrawn = λ j y at b. elim (at_set (sights_of z.views) other j (sight_of spent) y at) [
        | inl h ↦ no_number e (subst (λ (w : Sight CodeScript). Among e w.drawn) (sym h.1) b)
        | inr h ↦ h.0 (stands.drawn.one j other y (sight_of x.known) h.1 (sits_at z.views other x was) e b a)
      ];
    }

    drawn_now : AreDrawn stands.role (set (set (sights_of z.views) other (sight_of spent)) id (sight_of (merged v.known x.known)))
    drawn_now =
        draws_keep CodeScript stands.role (set (sights_of z.views) other (sight_of spent)) id (sight_of v.known) (sight_of (merged v.known x.known)) here
        (λ e a. elim (among_append e x.known.drawn v.known.drawn a) [ inl new ↦ inr (freed e new) | inr old ↦ inl old ])
        (draws_keep CodeScript stands.role (sights_of z.views) other (sight_of x.known) (sight_of spent) (sits_at z.views other x was) (λ e a. absurd (no_number e a)) stands.drawn)

    still_free : (e : ℕ) → IsFree stands.role (sights_of z.views) e → IsFree stands.role (set (set (sights_of z.views) other (sight_of spent)) id (sight_of (merged v.known x.known))) e
    still_free e free = record {
      none = free.none;
      undrawn = λ j y at a. elim (at_set (set (sights_of z.views) other (sight_of spent)) id j (sight_of (merged v.known x.known)) y at) [
        | inl h ↦ elim (among_append e x.known.drawn v.known.drawn (subst (λ (w : Sight CodeScript). Among e w.drawn) (sym h.1) a)) [
          | inl new ↦ free.undrawn other (sight_of x.known) (sits_at z.views other x was) new
          | inr old ↦ free.undrawn id (sight_of v.known) (sits_at z.views id v sits) old
        ]
        | inr h ↦ elim (at_set (sights_of z.views) other j (sight_of spent) y h.1) [
          | inl g ↦ no_number e (subst (λ (w : Sight CodeScript). Among e w.drawn) (sym g.1) a)
          | inr g ↦ free.undrawn j y g.1 a
        ]
      ];
    }

    seats_now : AreSeats n stands.net (λ e. state_at (slice_index z.words (state_word_of (length code.first) e))) (slice_index z.words 0) (set (set (words_of (sights_of z.views)) other spent.words) id (merged v.known x.known).words)
    seats_now =
        let s = stands.seats in
        let ws = words_of (sights_of z.views) in
        let one : List View = set ws other spent.words in
        let w : View = (merged v.known x.known).words in
        let at : At (words_of (sights_of z.views)) id v.known.words = at_map (λ (y : Sight CodeScript). y.words) (sights_of z.views) id (sight_of v.known) (sits_at z.views id v sits) in
        let xt : At (words_of (sights_of z.views)) other x.known.words = at_map (λ (y : Sight CodeScript). y.words) (sights_of z.views) other (sight_of x.known) (sits_at z.views other x was) in
        let mid : At (set (words_of (sights_of z.views)) other spent.words) id v.known.words = set_else ws other id spent.words (λ q. differ (sym q)) ∙ at in
        let g1 = total_set (λ (y : View). y.failed) ws other x.known.words spent.words xt in
        let p1 = total_set (λ (y : View). y.parts) ws other x.known.words spent.words xt in
        let d1 = total_set (λ (y : View). y.delivered) ws other x.known.words spent.words xt in
        let g = total_set (λ (y : View). y.failed) one id v.known.words w mid in
        let p = total_set (λ (y : View). y.parts) one id v.known.words w mid in
        let d = total_set (λ (y : View). y.delivered) one id v.known.words w mid in
        let low = s.failed other x.known.words xt in
        let same = length_set one id w in
        let same1 = length_set ws other spent.words in
        record {
          main_drawn = s.main_drawn;
          drawn = let a = s.drawn in omega (arith, a, g, g1, low);
          failed = λ j y sy. elim (at_set one id j w y sy) [
            | inl h ↦ subst (λ (u : View). u.failed ≤ 1) h.1 (s.failed id v.known.words at)
            | inr h ↦ elim (at_set ws other j spent.words y h.1) [
              | inl f ↦ subst (λ (u : View). u.failed ≤ 1) f.1 (omega arith)
              | inr f ↦ s.failed j y f.1
            ]
          ];
          split = λ y sy. elim (at_set one id 0 w y sy) [
            | inl h ↦
                let first = s.split v.known.words (subst (λ (j : ℕ). At (words_of (sights_of z.views)) j v.known.words) (sym h.0) at) in
                let q = ap (λ (u : View). u.splits) (sym h.1) in
                omega (arith, same, same1, first, q)
            | inr h ↦ elim (at_set ws other 0 spent.words y h.1) [
              | inl f ↦
                  let first = s.split x.known.words (subst (λ (j : ℕ). At (words_of (sights_of z.views)) j x.known.words) (sym f.0) xt) in
                  let none = idle.unsplit in
                  let q = ap (λ (u : View). u.splits) (sym f.1) in
                  omega (arith, same, same1, first, none, q)
              | inr f ↦ let first = s.split y f.1 in omega (arith, same, same1, first)
            ]
          ];
          few = let a = s.few in omega (arith, a, same, same1);
          parts = let a = s.parts in omega (arith, a, p, p1);
          work = let a = s.work in omega (arith, a, d, d1);
        }

    join_stands : Stands code fuel n z.words z.homes (set (set z.views id (record { known = merged v.known x.known })) other (record { known = spent }))
    join_stands = record {
      net = stands.net;
      gave = stands.gave;
      role = stands.role;
      before = stands.before;
      fresh = stands.fresh;
      cells = stands.cells;
      size = stands.size;
      slots = stands.slots;
      sized = stands.sized;
      cell_words = stands.cell_words;
      empty = stands.empty;
      whole = stands.whole;
      neat = stands.neat;
      rule = subst (λ (y : List (Sight CodeScript)). FieldAt (asks code) (code_main code fuel) code.first (is_job_of code stands.before) n stands.net stands.gave stands.role k y) (sym sights_are) rule_now;
      told = λ j y at h a. elim (at_set (set z.views id (record { known = merged v.known x.known })) other j (record { known = spent }) y at) [
        | inl e ↦ absurd (no_holding h (subst (λ (u : SeatView). Among h u.known.bears) (sym e.1) a))
        | inr e ↦ elim (at_set z.views id j (record { known = merged v.known x.known }) y e.1) [
          | inl f ↦ stands.told id v sits h (subst (λ (u : SeatView). Among h u.known.bears) (sym f.1) a)
          | inr f ↦ stands.told j y f.1 h a
        ]
      ];
      drawn = subst (λ (y : List (Sight CodeScript)). AreDrawn stands.role y) (sym sights_are) drawn_now;
      undrawn = λ e high. subst (λ (y : List (Sight CodeScript)). IsFree stands.role y e) (sym sights_are) (still_free e (stands.undrawn e high));
      selves = stands.selves;
      heard = record {
        told = λ j y at t a. elim (at_set (set z.views id (record { known = merged v.known x.known })) other j (record { known = spent }) y at) [
          | inl e ↦ absurd (none_told t (subst (λ (u : SeatView). Among t u.known.told) (sym e.1) a))
          | inr e ↦ elim (at_set z.views id j (record { known = merged v.known x.known }) y e.1) [
            | inl f ↦ stands.heard.told id v sits t (subst (λ (u : SeatView). Among t u.known.told) (sym f.1) a)
            | inr f ↦ stands.heard.told j y f.1 t a
          ]
        ];
      };
      marked = record {
        each = λ j y at t a. elim (at_set (set z.views id (record { known = merged v.known x.known })) other j (record { known = spent }) y at) [
          | inl e ↦ absurd (none_marked t (subst (λ (u : SeatView). Among t u.known.marks) (sym e.1) a))
          | inr e ↦ elim (at_set z.views id j (record { known = merged v.known x.known }) y e.1) [
            | inl f ↦ stands.marked.each id v sits t (subst (λ (u : SeatView). Among t u.known.marks) (sym f.1) a)
            | inr f ↦ stands.marked.each j y f.1 t a
          ]
        ];
      };
      seats = subst (λ (y : List View). AreSeats n stands.net (λ e. state_at (slice_index z.words (state_word_of (length code.first) e))) (slice_index z.words 0) y) (sym words_are) seats_now;
      planned = subst (λ (y : List Planned). ArePlanned code n stands.net stands.role k.states k.infos k.cell_of y) (sym plans_are) stands.planned;
    }

  pub joins : Joins (λ (z : State Slot SeatView). Stands code fuel n z.words z.homes z.views) id v other x (record { known = merged v.known x.known }) (record { known = spent })
  joins z stands sits differ there = join_stands z stands sits differ there
