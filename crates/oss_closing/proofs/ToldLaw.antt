-- What the laws of tables at rest say of parts is so of the words and slots that a field leaves.
use Rattle.std.proofs.Common.{◌≡◌, ◌≢◌, ◌⊎◌, inl, inr, sym, subst, refl, ◌∙◌, ap, ℕ, zero, suc, ◌<◌, ◌↔◌, arith, Bool, true, List, [], ◌∷◌, length, map, Some, Option}
use Rattle.std.specs.Prelude.{slice_get, slice_index, box_value}
use Rattle.std.specs.Global.{Box}
use mathlib.Core.Option as maybe
use lib.ListN.{get_elem?}
use Rattle.oss_body.specs.Mains.{code_main}
use Rattle.oss_close_laws.specs.Tabled.{AreTabled, IsTask, job_of}
use Rattle.oss_close_laws.proofs.TabledLaw.{closed_tables_list}
use Rattle.oss_close_laws.proofs.PrintedLaw.{listed_bodies_print}
use Rattle.oss_closing.specs.Told.{FieldsApartTell, HasJob, IsFilled, Tells, is_given}
use Rattle.oss_code.specs.declared.code.CodeParts.{CodeParts}
use Rattle.oss_field.specs.declared.view.SeatView.{SeatView}
use Rattle.oss_field.specs.Known.{Holding, bearing_of, sight_of}
use Rattle.oss_field.specs.Layout.{Home, job_in, parts_of}
use Rattle.oss_field.specs.Spent.{AreWithoutWork, IsApart}
use Rattle.oss_field.specs.Table.{Slot, is_job_of, sights_of}
use Rattle.oss_jobs.specs.declared.job.Job.{Job}
use Rattle.oss_jobs.specs.Jobs.{IsJob}
use Rattle.oss_machine.specs.Frames.{CodeScript}
use Rattle.oss_machine.specs.Machines.{asks}
use Rattle.oss_model.specs.Bodies.{Body}
use Rattle.oss_model.specs.Context.{right_of}
use Rattle.oss_model.specs.Machine.{Task, State, At}
use Rattle.oss_model.specs.Order.{IsIn}
use Rattle.oss_model.specs.Rights.{Holds}
use Rattle.oss_model.proofs.TreeLemmas.{at_same, path_found}
use Rattle.oss_rest_laws.specs.Idle.{AreIdle, IsIdle}
use Rattle.oss_rest_laws.specs.Rested.{IsNumber, Rested}
use Rattle.oss_rest_laws.proofs.RestedLaw.{idle_fields_tell}
use Rattle.oss_roles.specs.Field.{Parts}
use Rattle.oss_roles.specs.Numbers.{entry_number}
use Rattle.oss_roles.specs.Sights.{Sight}
use Rattle.oss_syntax.specs.declared.access.Mode.{Mode}

-- a member of a list to which something was done
was_mapped : {A B : Type 0} (f : A → B) (l : List A) (i : ℕ) (b : B) → get_elem? (map f l) i ≡ maybe.some b → (a : A) × (get_elem? l i ≡ maybe.some a) × (f a ≡ b)
was_mapped f [] i b at = absurd (maybe.some-ne-none b (sym at))
was_mapped f (x ∷ l) zero b at = (x, refl, maybe.some-injective (f x) b at)
was_mapped f (x ∷ l) (suc i) b at = was_mapped f l i b at

-- seats without work are idle
idle : (views : List SeatView) → AreWithoutWork views → AreIdle (sights_of views)
idle views without id v sits =
    let y = was_mapped (λ (z : SeatView). sight_of z.known) views id v sits in
    let w = without id y.0 y.1 in
    subst (λ (z : Sight CodeScript). IsIdle z) y.2 (record { bears = ap (λ (z : List Holding). map bearing_of z) w.bears; makes = w.makes; joined = w.joined; owes = w.owes })

-- a job that stands in a slot at home
stands_home : (h : Home (Box Job)) (j : Box Job) → job_in h ≡ Some j → h ≡ maybe.some (maybe.some (Some j))
stands_home (maybe.some (maybe.some x)) j is = ap (λ (z : Option (Box Job)). maybe.some (maybe.some z)) is
stands_home (maybe.some maybe.none) j is = absurd (let bad : ⊥ = cc in bad)
stands_home maybe.none j is = absurd (let bad : ⊥ = cc in bad)

module _ (code : CodeParts) (fuel n : ℕ) (ws : List ℕ) (slots : List Slot) (a : IsApart code fuel n ws slots) where
  abbrev k : Parts (Box Job)
  k = parts_of (length code.first) ws a.homes a.stands.cells

  abbrev s : State CodeScript
  s = a.stands.rule.field.state

  told : (path : ℕ → List ℕ) × Rested (asks code) (code_main code fuel) code.first (is_job_of code a.stands.before) n (parts_of (length code.first) ws a.homes a.stands.cells) a.stands.rule.field.state path
  told = idle_fields_tell CodeScript (Box Job) (is_job_of code a.stands.before) (asks code) (code_main code fuel) code.first n (parts_of (length code.first) ws a.homes a.stands.cells) (sights_of a.views) a.stands.rule.field (idle a.views a.without) a.few

  module _ (path : ℕ → List ℕ) (r : Rested (asks code) (code_main code fuel) code.first (is_job_of code a.stands.before) n (parts_of (length code.first) ws a.homes a.stands.cells) a.stands.rule.field.state path)
      (numbers : List ℕ) (bodies : List (Body CodeScript)) (t : AreTabled (job_of code a.stands.before) n (parts_of (length code.first) ws a.homes a.stands.cells) a.stands.rule.field.state path numbers bodies) where
    as_filled : (u : ℕ) → IsTask n (parts_of (length code.first) ws a.homes a.stands.cells) u → (u ≡ 0) ⊎ IsFilled code ws u
    as_filled u (inl e) = inl e
    as_filled u (inr x) = inr x.filled

    inside : (u : ℕ) → IsTask n (parts_of (length code.first) ws a.homes a.stands.cells) u → u < n
    inside u (inl e) = let some = a.some in omega (arith, e, some)
    inside u (inr x) = x.inside

    same_number : (u : ℕ) → (u ≡ 0) ⊎ (u ≢ 0)
    same_number u = grind arith

    as_task : (u : ℕ) → u < n → (u ≡ 0) ⊎ IsFilled code ws u → IsTask n (parts_of (length code.first) ws a.homes a.stands.cells) u
    as_task u l (inl e) = inl e
    as_task u l (inr f) = elim (same_number u) [ inl e ↦ inl e | inr ne ↦ inr (record { inside = l; other = ne; filled = f }) ]

    job : (v u : ℕ) (b : Body CodeScript) → slice_get numbers v ≡ Some u → slice_get bodies v ≡ Some b → HasJob code slots u b
    job v u b g h =
        let x = t.stands v u b g h in
        record {
          job = x.0.job;
          last = x.0.last;
          lies = a.home u (Some x.0.job) (stands_home (get_elem? a.homes u) x.0.job x.0.stands);
          is = subst (λ (z : List ℕ). IsJob code z (box_value x.0.job) u b x.0.last) (a.stands.fresh u)
              (subst (λ (z : Body CodeScript). IsJob code (a.stands.before u) (box_value x.0.job) u z x.0.last) x.1 x.0.tells);
        }

    other : (u : ℕ) → u ≢ 0 → IsTask n (parts_of (length code.first) ws a.homes a.stands.cells) u → IsNumber n (parts_of (length code.first) ws a.homes a.stands.cells) u
    other u ne (inl e) = absurd (ne e)
    other u ne (inr x) = x

    given : (v u c : ℕ) (b : Body CodeScript) (y : Task CodeScript) (mode : Mode) (strong : Bool) → slice_get numbers v ≡ Some u → slice_get bodies v ≡ Some b → u ≢ 0
        → At a.stands.rule.field.state b.start.path y → right_of b.start.context c ≡ Holds mode strong
        → (entry_number u (right_of b.start.context) c < n) × ((is_given code ws (entry_number u (right_of b.start.context) c) ≡ true) ↔ IsIn c y.given)
    given v u c b y mode strong g h ne at right =
        let x = t.stands v u b g h in
        let p : b.start.path ≡ path u = ap (λ (z : Body CodeScript). z.start.path) (sym x.1) ∙ path_found a.stands.rule.field.state.tasks (path u) x.0.task x.0.at_ in
        let same : x.0.task ≡ y = at_same a.stands.rule.field.state (path u) x.0.task y x.0.at_ (subst (λ (z : List ℕ). At a.stands.rule.field.state z y) p at) in
        let body : y.body ≡ b = ap (λ (z : Task CodeScript). z.body) (sym same) ∙ x.1 in
        let q = r.given u c y mode strong (other u ne (t.task v u g)) (subst (λ (z : List ℕ). At a.stands.rule.field.state z y) p at) (subst (λ (z : Body CodeScript). right_of z.start.context c ≡ Holds mode strong) (sym body) right) in
        subst (λ (z : Body CodeScript). (entry_number u (right_of z.start.context) c < n) × ((is_given code ws (entry_number u (right_of z.start.context) c) ≡ true) ↔ IsIn c y.given)) body q

    tells : Tells code fuel n ws slots a.stands.rule.field.state numbers bodies
    tells =
        let prints = listed_bodies_print code (code_main code fuel) code.first a.stands.rule.field.state bodies r.setting r.reached t.listed in
        record {
          setting = r.setting;
          reached = r.reached;
          sized = ap (λ (z : List ℕ). length z) r.cells ∙ a.stands.sized;
          cells = λ c l. a.stands.cell_words c l ∙ ap (λ (z : List ℕ). slice_index z c) (sym r.cells);
          size = t.size;
          rising = t.rising;
          inside = λ v u g. inside u (t.task v u g);
          filled = λ v u g. as_filled u (t.task v u g);
          all = λ u l f. t.all u (as_task u l f);
          jobs = job;
          listed = t.listed;
          given = given;
          done = prints.0;
          are_prints = prints.1;
          printed = prints.2;
        }

pub fields_apart_tell : FieldsApartTell
fields_apart_tell code fuel n ws slots a =
    let x = told code fuel n ws slots a in
    let y = closed_tables_list code (code_main code fuel) code.first a.stands.before n (parts_of (length code.first) ws a.homes a.stands.cells) a.stands.rule.field.state x.0 x.1 a.some in
    (a.stands.rule.field.state, y.0, y.1, tells code fuel n ws slots a x.0 x.1 y.0 y.1 y.2)
