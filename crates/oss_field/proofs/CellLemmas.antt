-- Loads and stores of cells, each by its law.
use Rattle.std.proofs.Common.{◌≡◌, ◌≢◌, ◌⊎◌, inl, inr, sym, subst, refl, ◌∙◌, ap, ℕ, ◌<◌, Bool, true, false, List, [], ◌∷◌, length, set}
use Rattle.std.specs.Prelude.{slice_index, ◌==◌, cond, map}
use Rattle.std.specs.Global.{Box}
use mathlib.Core.Option as maybe
use lib.ListN.{get_elem?}
use Rattle.std.proofs.lemmas.Bool.Decides.{eqb_tells}
use Rattle.std.proofs.Math.Seq.{map-set}
use Rattle.atomic_table.proofs.Lists.{at_map}
use Rattle.oss_body.specs.Mains.{code_main}
use Rattle.oss_code.specs.declared.code.CodeParts.{CodeParts}
use Rattle.oss_jobs.specs.declared.job.Job.{Job}
use Rattle.oss_machine.specs.Frames.{CodeScript}
use Rattle.oss_machine.specs.Machines.{asks}
use Rattle.oss_model.specs.Bodies.{Program, Act, Body, Start}
use Rattle.oss_model.specs.Bodies.Act.{Load, Store, Folded}
use Rattle.oss_model.specs.Moves.{act_now, combine}
use Rattle.oss_syntax.specs.declared.access.Op.{Op}
use Rattle.oss_words.specs.Views.{Among, among_first, among_later}
use Rattle.oss_roles.specs.Alone.{IsOwnAct, with_answer}
use Rattle.oss_roles.specs.Field.{Field, Parts, Bears, Sits, IsNumberOf, IsPending}
use Rattle.oss_roles.specs.JobSteps.{of_other, of_this, stores, folds}
use Rattle.oss_roles.specs.Passing.{MayGo, still_there, went_on}
use Rattle.oss_roles.specs.Sights.{Bearing, Noted, Sight, Telling}
use Rattle.oss_roles.specs.Steps.{JobGoes}
use Rattle.oss_roles.proofs.GoesLaw.{one_holder}
use Rattle.oss_roles.proofs.JobClaims.{loads_keep, stores_keep, own_acts_keep}
use Rattle.oss_roles.proofs.TakeLaw.{path_one}
use Rattle.oss_field.specs.declared.view.SeatView.{SeatView}
use Rattle.oss_field.specs.Asks.{HoldsOnce, IsGiven, IsLoaded, IsStored, MayLoad, MayStore, StandsBefore, StandsBeforeFold, Loaded, LoadedForFold, Stored, StoredFold, to_load, to_fold, to_store, to_store_fold, has_loaded, has_noted, has_stored, has_folded}
use Rattle.oss_field.specs.Known.{Holding, Known, bearing_of, sight_of}
use Rattle.oss_field.specs.Layout.{cell_word, parts_of}
use Rattle.oss_field.specs.Moves.{answered, noted, touched, loaded_beside, with_body}
use Rattle.oss_field.specs.Steps.{Steps}
use Rattle.oss_field.specs.Table.{is_job_of, sights_of}
use Rattle.oss_field.proofs.CellTable.{cell_stands}
use Rattle.oss_field.proofs.TableLemmas.{among_at, among_set, sits_at, chained, quiet_stands, read_stands}

-- what a job does by itself leaves its start
pub may_start : {S : Type 0} (P : Program S) (v : Sight S) (b : Bearing S) (x : Body S) → MayGo P v b x → x.start ≡ b.body.start
may_start P v b x still_there = refl
may_start P v b x (went_on {x = y} m own pass) = may_start P v b y m

-- a job that has gone on stood before an act of its own
pub may_own : {S : Type 0} (P : Program S) (v : Sight S) (b : Bearing S) (x : Body S) → MayGo P v b x → (x ≡ b.body) ⊎ IsOwnAct (act_now P b.body)
may_own P v b x still_there = inl refl
may_own P v b x (went_on {x = y} m own pass) = elim (may_own P v b y m) [
  | inl e ↦ inr (subst (λ (z : Body _). IsOwnAct (act_now P z)) e own)
  | inr o ↦ inr o
]

-- what was loaded for other tasks
pub beside_is : (t : ℕ) (l : List Noted) (y : Noted) → Among y (loaded_beside t l) → Among y l × (y.name ≢ t)
beside_is t [] y a = elim a [ ]
beside_is t (z ∷ l) y a = go (z.name == t) (eqb_tells z.name t) (beside_is t l y) a
  where
    go : (b : Bool) → ((b ≡ true) × (z.name ≡ t)) ⊎ ((b ≡ false) × (z.name ≢ t)) → (Among y (loaded_beside t l) → Among y l × (y.name ≢ t)) → Among y (cond b (loaded_beside t l) (z ∷ loaded_beside t l)) → Among y (z ∷ l) × (y.name ≢ t)
    go true q f a = let r = f a in (among_later r.0, r.1)
    go false (inl q) f a = absurd (let e : false ≡ true = q.0 in let bad : ⊥ = cc in bad)
    go false (inr q) f a = elim a [
      | among_first p ↦ (among_first p, subst (λ (u : Noted). u.name ≢ t) p q.1)
      | among_later k ↦ let r = f k in (among_later r.0, r.1)
    ]

-- the job that the seat was given has gone on, and has this body now
module _ (code : CodeParts) (job : Job) (k : Known) (i : ℕ) (h : Holding) (x : Body CodeScript) (given : IsGiven code job k i h x) (y : Body CodeScript) (same : y.start ≡ x.start) where
  abbrev going : List Holding
  going = set k.bears i (with_body y h)

  pub held_at : Bears (sight_of k) i (bearing_of h)
  held_at = at_map bearing_of k.bears i h given.holds

  pub job_goes : (l : Known) → l.bears ≡ set k.bears i (with_body y h) → l.makes ≡ k.makes → l.ready ≡ k.ready → l.joined ≡ k.joined → JobGoes (sight_of k) (sight_of l) i (bearing_of h) (bearing_of (with_body y h))
  job_goes l bears makes ready joined = record {
    has = held_at;
    bears = ap (λ (z : List Holding). map bearing_of z) bears ∙ map-set bearing_of k.bears i (with_body y h);
    number = refl;
    path = refl;
    last = refl;
    start = same ∙ may_start (asks code) (sight_of k) (bearing_of h) x given.may;
    makes = makes;
    ready = ready;
    joined = joined;
  }

-- a fold into a cell is no act that a body does by itself
fold_not_own : {S : Type 0} (a : Act S) (cell : ℕ) (op : Op) (operand : ℕ) → a ≡ Folded cell op operand false → IsOwnAct a → ⊥
fold_not_own a cell op operand e own = subst (λ (z : Act _). IsOwnAct z) e own

fold_cell : {S : Type 0} (cell other : ℕ) (op oq : Op) (operand operand' : ℕ) → ◌≡◌ {A = Act S} (Folded cell op operand false) (Folded other oq operand' false) → other ≡ cell
fold_cell cell other op oq operand operand' e = cc

-- a seat holds the job of a task once
pub held_once : (code : CodeParts) (main : Start CodeScript) (first : List ℕ) (is_job : Telling CodeScript (Box Job)) (n : ℕ) (k : Parts (Box Job)) (sights : List (Sight CodeScript)) (f : Field (asks code) main first is_job n k sights)
    (id : ℕ) (v : Known) → Sits sights id (sight_of v) → (i : ℕ) (h : Holding) → get_elem? v.bears i ≡ maybe.some h → HoldsOnce v h.number i
held_once code main first is_job n k sights f id v sits i h at j g there same =
    let has = at_map bearing_of v.bears i h at in
    let holds = at_map bearing_of v.bears j g there in
    let mine = f.borne id (sight_of v) sits i (bearing_of h) has in
    let other = f.borne id (sight_of v) sits j (bearing_of g) holds in
    let path = path_one (asks code) main first is_job n k sights f g.number g.path h.path other.number (subst (λ (z : ℕ). IsNumberOf f.role z h.path) (sym same) mine.number) in
    (one_holder (asks code) main first is_job n k sights f id id j i (sight_of v) (sight_of v) (bearing_of g) (bearing_of h) sits holds sits has path).1

-- what the first half of a fold found is what the cell is still
module _ (code : CodeParts) (main : Start CodeScript) (first : List ℕ) (is_job : Telling CodeScript (Box Job)) (n : ℕ) (k : Parts (Box Job)) (sights : List (Sight CodeScript)) (f : Field (asks code) main first is_job n k sights) where
  pub fold_found : (id : ℕ) (v : Known) (job : Job) (cell : ℕ) (op : Op) (operand found : ℕ) (at : StandsBefore code job v (Folded cell op operand false)) → Sits sights id (sight_of v)
      → IsPending (asks code) k.cells (sight_of v) (record { name = at.holding.number; value = found }) → slice_index k.cells cell ≡ found
  fold_found id v job cell op operand found at sits p =
      let b = bearing_of at.holding in
      let has = held_at code job v at.place at.holding at.body at.given at.body refl in
      let mine = f.borne id (sight_of v) sits at.place b has in
      let other = f.borne id (sight_of v) sits p.place p.bearing p.held in
      let path : b.path ≡ p.bearing.path = path_one (asks code) main first is_job n k sights f b.number b.path p.bearing.path mine.number (subst (λ (z : ℕ). IsNumberOf f.role z p.bearing.path) p.number other.number) in
      let place : at.place ≡ p.place = (one_holder (asks code) main first is_job n k sights f id id at.place p.place (sight_of v) (sight_of v) b p.bearing sits has sits p.held path).1 in
      let same : p.bearing ≡ b = maybe.some-injective p.bearing b (sym p.held ∙ ap (λ (z : ℕ). get_elem? (sight_of v).bears z) (sym place) ∙ has) in
      let act : act_now (asks code) b.body ≡ Folded p.cell p.op p.operand false = subst (λ (z : Bearing CodeScript). act_now (asks code) z.body ≡ Folded p.cell p.op p.operand false) same p.act in
      elim (may_own (asks code) (sight_of v) b at.body at.given.may) [
        | inl e ↦
            let cell_is : p.cell ≡ cell = fold_cell cell p.cell op p.op operand p.operand (sym at.act ∙ (ap (λ (z : Body CodeScript). act_now (asks code) z) e ∙ act)) in
            ap (λ (z : ℕ). slice_index k.cells z) (sym cell_is) ∙ p.value
        | inr own ↦ absurd (fold_not_own (act_now (asks code) b.body) p.cell p.op p.operand act own)
      ]

-- of the jobs that are held the seat knows when they were made, also after one of them has gone on
pub told_on : (before : ℕ → List ℕ) (held : List Holding) (i : ℕ) (h : Holding) (y : Body CodeScript) → get_elem? held i ≡ maybe.some h → ((z : Holding) → Among z held → before z.number ≡ z.before) → (z : Holding) → Among z (set held i (with_body y h)) → before z.number ≡ z.before
told_on before held i h y at told z among = elim (among_set held i (with_body y h) z among) [
  | inl e ↦ subst (λ (x : Holding). before x.number ≡ x.before) e (told h (among_at held i h at))
  | inr a ↦ told z a
]

module _ (code : CodeParts) (fuel n id : ℕ) (v : SeatView) (job : Job) (cell : ℕ) (small : cell < length code.first) where
  -- a load
  pub loads : StandsBefore code job v.known (Load cell) → Steps code fuel n id v (cell_word cell) (λ x. x) (λ x l. Loaded code job cell x v.known l)
  loads at ws homes views stands sits bits =
      let value = slice_index ws (cell_word cell) in
      let k = v.known in
      let y = with_answer value at.body in
      let l : Known = touched (cell_word cell) value (answered at.place at.holding at.body value k) in
      let rule = loads_keep CodeScript (Box Job) (is_job_of code stands.before) (asks code) (code_main code fuel) code.first n (parts_of (length code.first) ws homes stands.cells) (sights_of views) stands.rule.field
      id (sight_of k) (sight_of l) at.place (bearing_of at.holding) (bearing_of (with_body y at.holding)) at.body cell (record {
        with_job = record {
          sits = sits_at views id v sits;
          job = job_goes code job k at.place at.holding at.body at.given y refl l refl refl refl refl;
          alone = at.given.may;
        };
        same = record { words = refl; owes = refl; seen = refl; still = refl };
        loaded = λ z a. beside_is at.holding.number k.loaded z a;
        act = at.act;
        body = ap (λ (z : ℕ). with_answer z at.body) (stands.cell_words cell small);
      }) in (
        l,
        read_stands code fuel n (cell_word cell) ws homes (set views id (record { known = l })) (quiet_stands code fuel n ws homes views stands id v l sits refl refl (told_on stands.before k.bears at.place at.holding y at.given.holds (stands.told id v sits)) (chained stands rule)),
        record { at_load = at; once = held_once code (code_main code fuel) code.first (is_job_of code stands.before) n (parts_of (length code.first) ws homes stands.cells) (sights_of views) stands.rule.field id k (sits_at views id v sits) at.place at.holding at.given.holds; known = refl },
      )

  -- a load before a fold into the cell
  pub loads_for_fold : (op : Op) (operand : ℕ) → StandsBefore code job v.known (Folded cell op operand false) → Steps code fuel n id v (cell_word cell) (λ x. x) (λ x l. LoadedForFold code job cell op operand x v.known l)
  loads_for_fold op operand at ws homes views stands sits bits =
      let value = slice_index ws (cell_word cell) in
      let k = v.known in
      let l : Known = touched (cell_word cell) value (noted at.place at.holding at.body value k) in
      let rule = own_acts_keep CodeScript (Box Job) (is_job_of code stands.before) (asks code) (code_main code fuel) code.first n (parts_of (length code.first) ws homes stands.cells) (sights_of views) stands.rule.field
      id (sight_of k) (sight_of l) at.place (bearing_of at.holding) (bearing_of (with_body at.body at.holding)) at.body (record {
        with_job = record {
          sits = sits_at views id v sits;
          job = job_goes code job k at.place at.holding at.body at.given at.body refl l refl refl refl refl;
          alone = at.given.may;
        };
        same = record { words = refl; owes = refl; seen = refl; still = refl };
        loaded = λ z a. elim a [
          | among_first p ↦ of_this (sym (ap (λ (u : Noted). u.name) p)) cell op operand at.act (sym (stands.cell_words cell small) ∙ ap (λ (u : Noted). u.value) p)
          | among_later b ↦ let r = beside_is at.holding.number k.loaded z b in of_other r.0 r.1
        ];
        body = refl;
      }) in (
        l,
        read_stands code fuel n (cell_word cell) ws homes (set views id (record { known = l })) (quiet_stands code fuel n ws homes views stands id v l sits refl refl (told_on stands.before k.bears at.place at.holding at.body at.given.holds (stands.told id v sits)) (chained stands rule)),
        record { at_fold = at; once = held_once code (code_main code fuel) code.first (is_job_of code stands.before) n (parts_of (length code.first) ws homes stands.cells) (sights_of views) stands.rule.field id k (sits_at views id v sits) at.place at.holding at.given.holds; known = refl },
      )

  -- a store
  pub stores_cell : (value : ℕ) → StandsBefore code job v.known (Store cell value) → Steps code fuel n id v (cell_word cell) (λ x. value) (λ x l. Stored code job cell value v.known l)
  stores_cell value at ws homes views stands sits bits =
      let k = v.known in
      let y = with_answer 0 at.body in
      let l : Known = touched (cell_word cell) value (answered at.place at.holding at.body 0 k) in
      let rule = stores_keep CodeScript (Box Job) (is_job_of code stands.before) (asks code) (code_main code fuel) code.first n (parts_of (length code.first) ws homes stands.cells) (sights_of views) stands.rule.field
      id (sight_of k) (sight_of l) at.place (bearing_of at.holding) (bearing_of (with_body y at.holding)) at.body (set stands.cells cell value) (record {
        with_job = record {
          sits = sits_at views id v sits;
          job = job_goes code job k at.place at.holding at.body at.given y refl l refl refl refl refl;
          alone = at.given.may;
        };
        same = record { words = refl; owes = refl; seen = refl; still = refl };
        loaded = λ z a. beside_is at.holding.number k.loaded z a;
        writes = stores cell value at.act refl;
        body = refl;
      }) in (
        l,
        cell_stands code fuel n id v cell small ws homes views stands value l sits refl refl (told_on stands.before k.bears at.place at.holding y at.given.holds (stands.told id v sits)) (chained stands rule),
        record { at_store = at; once = held_once code (code_main code fuel) code.first (is_job_of code stands.before) n (parts_of (length code.first) ws homes stands.cells) (sights_of views) stands.rule.field id k (sits_at views id v sits) at.place at.holding at.given.holds; known = refl },
      )

  -- the second half of a fold into the cell
  pub stores_fold : (op : Op) (operand value : ℕ) → StandsBeforeFold code job cell op operand value v.known → Steps code fuel n id v (cell_word cell) (λ x. value) (λ x l. StoredFold code job cell op operand value v.known l)
  stores_fold op operand value before ws homes views stands sits bits =
      let at = before.at_fold in
      let k = v.known in
      let y = with_answer 0 at.body in
      let l : Known = touched (cell_word cell) value (answered at.place at.holding at.body 0 k) in
      let f = stands.rule.field in
      let pending = f.loaded id (sight_of k) (sits_at views id v sits) (record { name = at.holding.number; value = before.found }) before.loaded in
      let there : slice_index stands.cells cell ≡ before.found = fold_found code (code_main code fuel) code.first (is_job_of code stands.before) n (parts_of (length code.first) ws homes stands.cells) (sights_of views) f id k job cell op operand before.found at (sits_at views id v sits) pending in
      let same : value ≡ combine op (slice_index stands.cells cell) operand = before.value_is ∙ ap (λ (z : ℕ). combine op z operand) (sym there) in
      let rule = stores_keep CodeScript (Box Job) (is_job_of code stands.before) (asks code) (code_main code fuel) code.first n (parts_of (length code.first) ws homes stands.cells) (sights_of views) stands.rule.field
      id (sight_of k) (sight_of l) at.place (bearing_of at.holding) (bearing_of (with_body y at.holding)) at.body (set stands.cells cell value) (record {
        with_job = record {
          sits = sits_at views id v sits;
          job = job_goes code job k at.place at.holding at.body at.given y refl l refl refl refl refl;
          alone = at.given.may;
        };
        same = record { words = refl; owes = refl; seen = refl; still = refl };
        loaded = λ z a. beside_is at.holding.number k.loaded z a;
        writes = folds cell op operand at.act (ap (λ (z : ℕ). set stands.cells cell z) same);
        body = refl;
      }) in (
        l,
        cell_stands code fuel n id v cell small ws homes views stands value l sits refl refl (told_on stands.before k.bears at.place at.holding y at.given.holds (stands.told id v sits)) (chained stands rule),
        record { before = before; once = held_once code (code_main code fuel) code.first (is_job_of code stands.before) n (parts_of (length code.first) ws homes stands.cells) (sights_of views) stands.rule.field id k (sits_at views id v sits) at.place at.holding at.given.holds; known = refl },
      )

  -- the two kinds of each
  pub may_load : MayLoad code job cell v.known → Steps code fuel n id v (cell_word cell) (λ x. x) (λ x l. IsLoaded code job cell x v.known l)
  may_load (to_load at) ws homes views stands sits bits = let r = loads at ws homes views stands sits bits in (r.0, r.1, has_loaded r.2)
  may_load (to_fold op operand at) ws homes views stands sits bits = let r = loads_for_fold op operand at ws homes views stands sits bits in (r.0, r.1, has_noted op operand r.2)

  pub may_store : (value : ℕ) → MayStore code job cell value v.known → Steps code fuel n id v (cell_word cell) (λ x. value) (λ x l. IsStored code job cell value v.known l)
  may_store value (to_store at) ws homes views stands sits bits = let r = stores_cell value at ws homes views stands sits bits in (r.0, r.1, has_stored r.2)
  may_store value (to_store_fold op operand b) ws homes views stands sits bits = let r = stores_fold op operand value b ws homes views stands sits bits in (r.0, r.1, has_folded op operand r.2)
