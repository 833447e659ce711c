-- The entries of a task whose job a seat holds, and what hangs below them.
use Rattle.std.proofs.Common.{◌≡◌, ◌≢◌, inl, inr, sym, subst, refl, ◌∙◌, ap, ℕ, ◌<◌, Bool, true, false, List, [], ◌∷◌, Option, Some, None}
use Rattle.std.specs.Global.{Box}
use mathlib.Core.Option as maybe
use lib.ListN.{get_elem?}
use Rattle.atomic_table.proofs.Lists.{at_map}
use Rattle.oss_code.specs.declared.code.CodeParts.{CodeParts}
use Rattle.oss_jobs.specs.declared.job.Job.{Job}
use Rattle.oss_machine.specs.Frames.{CodeScript}
use Rattle.oss_machine.specs.Machines.{asks}
use Rattle.oss_model.specs.Bodies.{Start}
use Rattle.oss_model.specs.Context.{right_of}
use Rattle.oss_model.specs.Machine.{At}
use Rattle.oss_model.specs.Rights.{Holds}
use Rattle.oss_syntax.specs.declared.access.Mode.{Mode}
use Rattle.oss_words.specs.Views.{Among}
use Rattle.oss_words.specs.Net.{apart, top, first as first_place, after, Child, eldest, younger, Top, top_first, top_after}
use Rattle.oss_words.proofs.CauseLemmas.{bools}
use Rattle.oss_roles.specs.Field.{Field, Parts, Sits, Bears, IsBorne, IsNumberOf, of_entry, of_main}
use Rattle.oss_roles.specs.Numbers.{entry_number}
use Rattle.oss_roles.specs.Roles.{Role, itself, on, Filed}
use Rattle.oss_roles.specs.Sights.{Making, Sight, Telling}
use Rattle.oss_roles.proofs.CallLemmas.{free_idle}
use Rattle.oss_roles.proofs.NumberLaw.{entries_follow}
use Rattle.oss_roles.proofs.WordClaims.{last_children_are_last}
use Rattle.oss_field.specs.Known.{Holding, Known, bearing_of, last_of, sight_of}

module _ (code : CodeParts) {main : Start CodeScript} {first : List ℕ} {is_job : Telling CodeScript (Box Job)} (n : ℕ) (k : Parts (Box Job)) (sights : List (Sight CodeScript)) (f : Field (asks code) main first is_job n k sights)
    (id : ℕ) (v : Known) (sits : Sits sights id (sight_of v)) (place : ℕ) (h : Holding) (holds : get_elem? v.bears place ≡ maybe.some h) where
  pub bears : Bears (sight_of v) place (bearing_of h)
  bears = at_map bearing_of v.bears place h holds

  pub borne : IsBorne f.state sights f.net f.role (bearing_of h)
  borne = f.borne id (sight_of v) sits place (bearing_of h) bears

  -- the task stands below main, and its own entry has the task's number
  pub record IsBelow : Type 0 where
    pub it : Role
    pub is : f.role h.number ≡ Some it
    pub site : it.site ≡ itself
    pub path : it.path ≡ h.path
    pub child : ℕ
    pub above : List ℕ
    pub path_is : h.path ≡ child ∷ above

  pub below : h.number ≢ 0 → IsBelow
  below number = from h.number h.path borne.number refl refl
    where
      from : (u : ℕ) (p : List ℕ) → IsNumberOf f.role u p → u ≡ h.number → p ≡ h.path → IsBelow
      from u p of_main q same = absurd (number (sym q))
      from u p (of_entry r is site path) q same =
          let b = f.roles.below_main u r is in record { it = r; is = ap f.role (sym q) ∙ is; site = site; path = path ∙ same; child = b.0; above = b.1; path_is = sym same ∙ (sym path ∙ b.2) }

  -- it hangs
  pub own_filed : h.number ≢ 0 → (x : Filed f.net f.role h.path itself) × (x.entry ≡ h.number)
  own_filed number =
      let b = below number in
      let t = f.filed.task b.child b.above borne.task (subst (λ (z : List ℕ). At f.state z borne.task) b.path_is borne.at_) in (
        record { entry = t.entry; it = t.it; is = t.is; hangs = t.hangs; path = t.path ∙ sym b.path_is; site = t.site },
        f.roles.one t.entry h.number t.it b.it t.is b.is (t.path ∙ (sym b.path_is ∙ sym b.path)) (t.site ∙ sym b.site),
      )

  -- and so does that on each cell that it has
  pub cell_filed : h.number ≢ 0 → (c : ℕ) (mode : Mode) (strong : Bool) → right_of h.body.start.context c ≡ Holds mode strong
      → (x : Filed f.net f.role h.path (on c)) × (x.it.mode ≡ mode) × (x.it.strong ≡ strong) × (x.entry ≡ entry_number h.number (right_of h.body.start.context) c)
  cell_filed number c mode strong right =
      let b = below number in
      entries_follow CodeScript (Box Job) is_job (asks code) main first n k sights f id place (sight_of v) (bearing_of h) b.child c b.above mode strong sits bears b.path_is right

  one_role : (r q : Role) (x : Option Role) → x ≡ Some r → x ≡ Some q → r ≡ q
  one_role r q x a b = let z : Some r ≡ Some q = sym a ∙ b in cc

  -- what hangs first below an entry is that of a child on its site
  pub child_path : (e c : ℕ) (r q : Role) → f.role e ≡ Some r → f.role c ≡ Some q → f.net.place c ≡ first_place e → (j : ℕ) × (q.path ≡ j ∷ r.path) × (q.site ≡ r.site)
  child_path e c r q is_e is_c at =
      let b = f.roles.below_main c q is_c in
      under b.0 b.1 b.2
    where
      hangs : f.net.place c ≢ apart
      hangs z = let bad : first_place e ≡ apart = sym at ∙ z in cc

      no_top : Top f.net.place c → ⊥
      no_top (top_first t) = let bad : top ≡ first_place e = sym t ∙ at in cc
      no_top (top_after {s = s} t rest) = let bad : after s ≡ first_place e = sym t ∙ at in cc

      eldest_is : (u x : ℕ) → Child f.net.place u x → f.net.place x ≡ first_place e → e ≡ u
      eldest_is u x (eldest t) p = let same : first_place e ≡ first_place u = sym p ∙ t in cc
      eldest_is u x (younger {s = s} t rest) p = absurd (let bad : after s ≡ first_place e = sym t ∙ p in let never : ⊥ = cc in never)

      under : (j : ℕ) (p : List ℕ) → q.path ≡ j ∷ p → (j : ℕ) × (q.path ≡ j ∷ r.path) × (q.site ≡ r.site)
      under j [] path = absurd (no_top (f.roles.topmost c q j is_c hangs path))
      under j (i ∷ p) path =
          let up = f.roles.parent c q j i p is_c hangs path in
          let child = f.roles.below up.entry c up.it q j up.is is_c up.hangs hangs (path ∙ ap (λ (z : List ℕ). j ∷ z) (sym up.path)) (sym up.site) in
          let same = eldest_is up.entry c child at in
          let one = one_role up.it r (f.role up.entry) up.is (ap f.role (sym same) ∙ is_e) in
          (j, path ∙ ap (λ (z : List ℕ). j ∷ z) (sym up.path ∙ ap (λ (z : Role). z.path) one), sym up.site ∙ ap (λ (z : Role). z.site) one)

  module _ (idle : (a : Making) → Among a v.makes → a.by ≢ h.number) (e : ℕ) (r : Role) (is : f.role e ≡ Some r) (hangs : f.net.place e ≢ apart) (path : r.path ≡ h.path) where
    inside : e < n
    inside = f.words.flow.words.inside e hangs

    -- an entry of the task has no child, if the job has none on its site
    pub childless : last_of h r.site ≡ None → (k.states e).headed ≡ false
    childless none = elim (bools (k.states e).headed) [
      | inr off ↦ off
      | inl head ↦
          let c : ℕ = (k.states e).child in
          let at : f.net.place c ≡ first_place e = (f.words.flow.words.wired e inside).child head in
          let there : f.net.place c ≢ apart = λ z. (let bad : first_place e ≡ apart = sym at ∙ z in cc) in
          let q = f.roles.hung c there in
          let below_it = child_path e c r q.0 is q.1 at in
          let its : q.0.path ≡ below_it.0 ∷ h.path = below_it.1 ∙ ap (λ (z : List ℕ). below_it.0 ∷ z) path in
          let making = borne.last.none r.site none c q.0 below_it.0 q.1 there its below_it.2 in
          absurd (free_idle (asks code) main first is_job n k sights f id place (sight_of v) (bearing_of h) sits bears idle q.0.task making c q.0 below_it.0 q.1 its refl)
    ]

    -- and else the last is the one that the job tells
    pub last_child : (o : ℕ) → last_of h r.site ≡ Some o → (f.net.last e ≡ o) × ((k.states e).headed ≡ true) × (f.net.place o ≢ apart)
    last_child o last =
        let a = borne.last.some r.site o last in
        let child = f.roles.below e o r a.0 a.1 is a.2 hangs a.3 (a.4 ∙ ap (λ (z : List ℕ). a.1 ∷ z) (sym path)) a.5 in
        let eld = first_of child in (
          last_children_are_last CodeScript (Box Job) is_job (asks code) main first n k sights f id place (sight_of v) (bearing_of h) r.site o sits bears idle last
              (record { entry = e; it = r; is = is; hangs = hangs; path = path; site = refl }),
          (f.words.flow.words.hung_first e eld.0 eld.1).1,
          a.3,
        )
      where
        first_of : {x : ℕ} → Child f.net.place e x → (j : ℕ) × (f.net.place j ≡ first_place e)
        first_of {x} (eldest t) = (x, t)
        first_of {x} (younger t rest) = first_of rest
