-- The words over the rows of a state stand for it, and so do their counts.
use Rattle.std.proofs.Common.{◌≡◌, ◌≢◌, ◌⊎◌, inl, inr, ℕ, zero, suc, ◌<◌, ◌+◌, refl, sym, ap, ◌∙◌, Bool, true, false, List, length, Option, Some, None, arith}
use Rattle.std.specs.Prelude.{not, ◌&&◌, ◌==◌, slice_index}
use Rattle.oss_syntax.specs.declared.access.Mode.{Mode}
use Rattle.oss_syntax.specs.declared.access.Mode.TheVariants.{Read, Write, Fold}
use Rattle.oss_model.specs.Bodies.{Program}
use Rattle.oss_model.specs.Machine.{State}
use Rattle.oss_words.specs.declared.entry.After.{After}
use Rattle.oss_words.specs.declared.entry.After.TheVariants.{FirstOf, FirstOfMain, Sibling}
use Rattle.oss_words.specs.declared.entry.EntryState.{EntryState}
use Rattle.oss_words.specs.Net.{apart, top}
use Rattle.oss_words.specs.Sums.{below, num}
use Rattle.oss_words.specs.Views.{first_view}
use Rattle.oss_word_net.specs.Calls.{place_of}
use Rattle.oss_roles.specs.Counting.{stands, weight}
use Rattle.oss_roles.specs.Roles.{Role, itself}
use Rattle.oss_filing.specs.declared.row.Row.{Row}
use Rattle.oss_filing.specs.Counted.{AreCounted, HasRow, adds_to}
use Rattle.oss_filing.specs.Filed.{IsFiled, info_in, place_in, state_in}
use Rattle.oss_filing.specs.OfState.{AreOfState, CountsStand, StandFor}
use Rattle.oss_filing.specs.Planned.{is_fold, is_top, waits}
use Rattle.oss_filing.specs.Rows.{given_in, row_of}
use Rattle.oss_filing.proofs.Basics.{clash, none_some, some_is}
use Rattle.oss_filing.proofs.FollowLemmas.{row_within}
use Rattle.oss_filing.proofs.RolesLaw.{are_roles, role_hangs}

bool_case : (b : Bool) → (b ≡ true) ⊎ (b ≡ false)
bool_case true = inl refl
bool_case false = inr refl

-- what a reduction needs stands, and so does all that is needed where a list of main begins
fold_stands : (m : Mode) (c : EntryState) → is_fold m ≡ true → stands m c ≡ true
fold_stands Read c h = absurd (let z : false ≡ true = h in let bad : ⊥ = cc in bad)
fold_stands Write c h = absurd (let z : false ≡ true = h in let bad : ⊥ = cc in bad)
fold_stands (Fold op) c h = refl

top_is : (a : After) → is_top a ≡ true → place_of a ≡ top
top_is FirstOfMain h = refl
top_is (FirstOf p) h = absurd (let z : false ≡ true = h in let bad : ⊥ = cc in bad)
top_is (Sibling o) h = absurd (let z : false ≡ true = h in let bad : ⊥ = cc in bad)

both_stand : (m : Mode) (c : EntryState) → c.reads ≡ true → c.writes ≡ true → stands m c ≡ true
both_stand Read c r w = r
both_stand Write c r w = w
both_stand (Fold op) c r w = refl

not_waiting : (s f t : Bool) → (s && (not f && not t)) ≡ false → s ≡ true → (f ≡ true) ⊎ (t ≡ true)
not_waiting true true t h k = inl refl
not_waiting true false true h k = inr refl
not_waiting true false false h k = absurd (let z : true ≡ false = h in let bad : ⊥ = cc in bad)
not_waiting false f t h k = absurd (let z : false ≡ true = k in let bad : ⊥ = cc in bad)

waiting_strong : (s b : Bool) → (s && b) ≡ true → s ≡ true
waiting_strong true b h = refl
waiting_strong false b h = h

module _ {S : Type 0} (P : Program S) (s : State S) (rows : List Row) (role : ℕ → Option Role) (of : AreOfState P s rows role) (n : ℕ) (ws : List ℕ) (filed : IsFiled n rows ws) where
  hangs : (e : ℕ) (r : Role) → role e ≡ Some r → filed.net.place e ≢ apart
  hangs = role_hangs rows role of.planned n ws filed

  gave_row : (e : ℕ) → filed.gave e ≡ true → (r : Role) × (role e ≡ Some r)
  gave_row e g = go (row_of rows e) refl
    where
      go : (o : Option Row) → row_of rows e ≡ o → (r : Role) × (role e ≡ Some r)
      go None is = clash (filed.gave e) g (filed.given e ∙ ap given_in is)
      go (Some w) is = of.planned.role_of e w is

  opens : (e : ℕ) (r : Role) → role e ≡ Some r → r.counts ≡ false → r.strong ≡ true → stands r.mode (state_in ws e) ≡ true
  opens e r is uncounted strong =
      let w = of.planned.row e r is in
      let row = w.0 in
      elim (not_waiting row.info.strong (is_fold row.info.mode) (is_top row.after) (sym w.2.counts ∙ uncounted) (w.2.strong ∙ strong)) [
        | inl f ↦ fold_stands r.mode (state_in ws e) (sym (ap is_fold w.2.mode) ∙ f)
        | inr t ↦
            let kept = filed.kept first_view refl refl in
            let at = filed.place e ∙ (ap place_in w.1 ∙ top_is row.after t) in
            both_stand r.mode (state_in ws e) (kept.starts.top_reads e at) (kept.starts.top_writes e at)
      ]

  pub stand_for : StandFor P s n filed.net filed.gave role (state_in ws) (info_in ws)
  stand_for = record {
    words = filed.kept;
    gave_hangs = λ e g. let r = gave_row e g in hangs e r.0 r.1;
    roles = are_roles rows role of.planned n ws filed;
    filed = record {
      access = λ k c p a.
          let x = of.access k c p a in
          (record { entry = x.0; it = x.1; is = x.2; hangs = hangs x.0 x.1 x.2; path = x.3; site = x.4 }, x.5, x.6, x.7);
      task = λ k p t at.
          let x = of.task k p t at in
          record { entry = x.0; it = x.1; is = x.2; hangs = hangs x.0 x.1 x.2; path = x.3; site = x.4 };
    };
    given = record {
      cell = λ e c r is site g. (of.given e c r is site).0 (sym (filed.given e) ∙ g);
      own = λ e r is site g. of.closed e r is site (sym (filed.given e) ∙ g);
      back = λ e c r is site h. inl (filed.given e ∙ (of.given e c r is site).1 h);
    };
    there = of.there;
    open_start = λ e r is h uncounted strong. opens e r is uncounted strong;
    strong = λ e r is counts. let w = of.planned.row e r is in sym w.2.strong ∙ waiting_strong w.0.info.strong (not (is_fold w.0.info.mode) && not (is_top w.0.after)) (sym w.2.counts ∙ counts);
    left = λ e. (filed.neat e).left;
  }

  -- what a row adds to a count is what its role weighs
  weighs : (t e : ℕ) (o : Option Role) → role e ≡ o → (w : Option Row) → row_of rows e ≡ w → weight t o (state_in ws e) ≡ adds_to t w (state_in ws e)
  weighs t e None is None at = refl
  weighs t e None is (Some row) at = let r = of.planned.role_of e row at in none_some (sym is ∙ r.1)
  weighs t e (Some r) is w at =
      let x = of.planned.row e r is in
      let same : w ≡ Some x.0 = sym at ∙ x.1 in
      let c = state_in ws e in
      ap (λ (z : ℕ). num ((z == t) && (r.counts && not (stands r.mode c)))) (sym x.2.task)
      ∙ (ap (λ (b : Bool). num ((x.0.info.task == t) && (b && not (stands r.mode c)))) x.2.counts
      ∙ (ap (λ (m : Mode). num ((x.0.info.task == t) && (waits x.0 && not (stands m c)))) (sym x.2.mode)
      ∙ ap (λ (y : Option Row). adds_to t y c) (sym same)))

  sums : (t m : ℕ) → below (λ e. adds_to t (row_of rows e) (state_in ws e)) m ≡ below (λ e. weight t (role e) (state_in ws e)) m
  sums t zero = refl
  sums t (suc m) =
      let a = sums t m in
      let b = weighs t m (role m) refl (row_of rows m) refl in
      ap (λ (x : ℕ). x + below (λ e. adds_to t (row_of rows e) (state_in ws e)) m) (sym b) ∙ ap (λ (x : ℕ). weight t (role m) (state_in ws m) + x) a

  module _ (room : length rows < n) (counts : List ℕ) (counted : AreCounted n rows ws counts) where
    own_row : (t : ℕ) (q : Role) → role t ≡ Some q → q.site ≡ itself → HasRow rows t
    own_row t q is site =
        let x = of.planned.row t q is in
        let o = of.planned.number t q is in
        let same : q.task ≡ t = of.planned.one q.task t o.0 q o.1 is o.2 (o.3 ∙ sym site) in
        record { entry = t; row = x.0; is = x.1; task = x.2.task ∙ same }

    no_row : (t : ℕ) → ((q : Role) → role t ≡ Some q → q.site ≡ itself → ⊥) → HasRow rows t → ⊥
    no_row t none has =
        let r = of.planned.role_of has.entry has.row has.is in
        let x = of.planned.row has.entry r.0 r.1 in
        let same : x.0 ≡ has.row = some_is (sym x.1 ∙ has.is) in
        let task : r.0.task ≡ t = sym x.2.task ∙ (ap (λ (z : Row). z.info.task) same ∙ has.task) in
        let o = of.planned.number has.entry r.0 r.1 in
        none o.0 (ap role (sym task) ∙ o.1) o.3

    pub counts_stand : CountsStand n role (state_in ws) (slice_index counts)
    counts_stand = record {
      counted = λ t q is site.
          let h = own_row t q is site in
          let x = of.planned.row t q is in
          let l = (row_within rows t x.0 x.1).1 in
          counted.of_task t (omega (arith, l, room)) h ∙ sums t n;
      uncounted = λ t ne l none. counted.unfilled t ne l (no_row t none);
      main = counted.main;
    }
