-- If nothing is under way, the words and slots tell the state.
use Rattle.std.proofs.Common.{◌≡◌, ◌≢◌, inl, inr, sym, subst, refl, ◌∙◌, ap, ℕ, ◌<◌, ◌≤◌, ◌↔◌, arith, Bool, true, List, [], ◌∷◌, Option, Some, None}
use Rattle.std.specs.Prelude.{not}
use Rattle.oss_syntax.specs.declared.access.Mode.{Mode}
use Rattle.oss_model.specs.Agreement.{Agrees}
use Rattle.oss_model.specs.Bodies.{Program, Start}
use Rattle.oss_model.specs.Context.{right_of}
use Rattle.oss_model.specs.Machine.{Task, At}
use Rattle.oss_model.specs.Moves.{opening}
use Rattle.oss_model.specs.Order.{IsIn}
use Rattle.oss_model.specs.Rights.{Holds}
use Rattle.oss_model.specs.Sequence.{Sequential}
use Rattle.oss_model.proofs.AgreementTheorem.{reached_agrees}
use Rattle.oss_model.proofs.TreeLemmas.{at_same}
use Rattle.oss_words.specs.Net.{apart}
use Rattle.oss_words.specs.Sums.{num}
use Rattle.oss_roles.specs.Field.{Field, Parts, IsSomewhere, at_home, is_out, of_main, of_entry}
use Rattle.oss_roles.specs.Numbers.{entry_number}
use Rattle.oss_roles.specs.Roles.{Role, Site, itself, on, Filed}
use Rattle.oss_roles.specs.Sights.{Sight, Telling}
use Rattle.oss_rest_laws.specs.Idle.{AreIdle}
use Rattle.oss_rest_laws.specs.Rested.{IdleFieldsTell, IsNumber, NumberBelow, Rested, StandsIn}
use Rattle.oss_rest_laws.proofs.IdleLemmas.{none_held, none_owed, none_made, none_joined, weights_few, child_above, earlier_below, elder}

-- the path of an entry's task
abbrev path_by : Option Role → List ℕ
path_by None = []
path_by (Some r) = r.path

module _ {S J : Type 0} (P : Program S) (main : Start S) (first : List ℕ) (is_job : Telling S J) (n : ℕ) (k : Parts J) (sights : List (Sight S))
    (f : Field P main first is_job n k sights) (idle : AreIdle sights) (few : n ≤ 16777216) where
  abbrev path : ℕ → List ℕ
  path t = path_by (f.role t)

  agrees : Agrees P main first (record { state = opening main first; active = []; printed = [] }) f.state
  agrees = reached_agrees P main first (record { state = opening main first; active = []; printed = [] }) f.setting Sequential.opens f.state f.reached

  -- each role is that of a task which is there
  there : (e : ℕ) (r : Role) → f.role e ≡ Some r → (u : Task S) × At f.state r.path u
  there e r is = elim (f.planned e r is) [ inl u ↦ u | inr m ↦ absurd (none_made sights idle r.task m) ]

  -- a task's own entry
  record Own (t : ℕ) : Type 0 where
    it : Role
    is : f.role t ≡ Some it
    site : it.site ≡ itself

  -- the number of a task is that of its own entry
  own_of : (t : ℕ) → IsNumber n k t → Own t
  own_of t number = go (f.role t) refl
    where
      none : ((q : Role) → f.role t ≡ Some q → q.site ≡ itself → ⊥) → Own t
      none h = absurd (number.filled (f.counts.blank t number.other number.inside h).0)

      by_site : (r : Role) → f.role t ≡ Some r → (y : Site) → r.site ≡ y → Own t
      by_site r is itself site = record { it = r; is = is; site = site }
      by_site r is (on c) site = none (λ q at own. let same : r ≡ q = let z : Some r ≡ Some q = sym is ∙ at in cc in let z : on c ≡ itself = sym site ∙ (ap (λ (x : Role). x.site) same ∙ own) in cc)

      go : (o : Option Role) → f.role t ≡ o → Own t
      go None is = none (λ q at own. let z : None ≡ Some q = sym is ∙ at in cc)
      go (Some r) is = by_site r is r.site refl

  path_is : (t : ℕ) (r : Role) → f.role t ≡ Some r → path t ≡ r.path
  path_is t r is = ap path_by is

  -- entries of one task for one site are one
  one_entry : (e d : ℕ) (r q : Role) → f.role e ≡ Some r → f.role d ≡ Some q → r.path ≡ q.path → r.site ≡ q.site → e ≡ d
  one_entry = f.roles.one

  -- it hangs
  own_hangs : (t : ℕ) (o : Own t) → f.net.place t ≢ apart
  own_hangs t o =
      let m = f.roles.below_main t o.it o.is in
      let u = there t o.it o.is in
      let x = f.filed.task m.0 m.1 u.0 (subst (λ (p : List ℕ). At f.state p u.0) m.2 u.1) in
      let same : x.entry ≡ t = one_entry x.entry t x.it o.it x.is o.is (x.path ∙ sym m.2) (x.site ∙ sym o.site) in
      subst (λ (e : ℕ). f.net.place e ≢ apart) same x.hangs

  not_main : (t : ℕ) (r : Role) → f.role t ≡ Some r → t ≢ 0
  not_main t r is e = let z : None ≡ Some r = sym f.roles.main ∙ (ap f.role (sym e) ∙ is) in cc

  -- its count was filled
  own_filled : (t : ℕ) (q : Role) → f.role t ≡ Some q → q.site ≡ itself → k.counts t ≢ 18446744073709551615
  own_filled t q is site e =
      let o : f.opened t ≡ true = (f.counts.opened_is t q is site).1 (there t q is) in
      let a = f.counts.sum t q is site in
      let b : num (not (f.opened t)) ≡ 0 = ap (λ (z : Bool). num (not z)) o in
      let c = none_owed sights idle t in
      let l = weights_few t n f.role k.states in
      omega (arith, a, b, c, l, e, few)

  number_of : (t : ℕ) (q : Role) → f.role t ≡ Some q → q.site ≡ itself → f.net.place t ≢ apart → IsNumber n k t
  number_of t q is site hangs = record { inside = f.words.flow.words.inside t hangs; other = not_main t q is; filled = own_filled t q is site }

  -- what stands in the slot of a task
  stands_in : (t : ℕ) (p : List ℕ) (u : Task S) → At f.state p u → IsSomewhere is_job k sights f.net f.role t p u.body → StandsIn is_job k f.state t p
  stands_in t p u at_ (at_home j last one is job l none) = record { task = u; at_ = at_; job = j; last = last; home = one; stands = is; tells = job }
  stands_in t p u at_ (is_out two is one) = let none = none_held sights idle t in absurd (omega (arith, none, one))

  stands : (t : ℕ) → IsNumber n k t → StandsIn is_job k f.state t (path t)
  stands t number =
      let o = own_of t number in
      let u = there t o.it o.is in
      subst (λ (p : List ℕ). StandsIn is_job k f.state t p) (sym (path_is t o.it o.is)) (stands_in t o.it.path u.0 u.1 (f.somewhere t o.it.path u.0 (of_entry o.it o.is o.site refl) u.1))

  main_in : StandsIn is_job k f.state 0 []
  main_in = let m = agrees.made in stands_in 0 [] m.main_task m.main_at (f.somewhere 0 [] m.main_task of_main m.main_at)

  child : (t : ℕ) → IsNumber n k t → (i : ℕ) × (p : List ℕ) × (path t ≡ i ∷ p)
  child t number =
      let o = own_of t number in
      let m = f.roles.below_main t o.it o.is in
      (m.0, m.1, path_is t o.it o.is ∙ m.2)

  -- the number of a task of the state
  filed_number : (p : List ℕ) (y : Site) → y ≡ itself → (x : Filed f.net f.role p y) → IsNumber n k x.entry × (path x.entry ≡ p)
  filed_number p y e x = (number_of x.entry x.it x.is (x.site ∙ e) x.hangs, path_is x.entry x.it x.is ∙ x.path)

  number : (i : ℕ) (p : List ℕ) (u : Task S) → At f.state (i ∷ p) u → (t : ℕ) × IsNumber n k t × (path t ≡ i ∷ p)
  number i p u at_ = let x = f.filed.task i p u at_ in let m = filed_number (i ∷ p) itself refl x in (x.entry, m.0, m.1)

  one : (t v : ℕ) → IsNumber n k t → IsNumber n k v → path t ≡ path v → t ≡ v
  one t v nt nv e =
      let a = own_of t nt in
      let b = own_of v nv in
      one_entry t v a.it b.it a.is b.is (sym (path_is t a.it a.is) ∙ (e ∙ path_is v b.it b.is)) (a.site ∙ sym b.site)

  creator : (c i j : ℕ) (p : List ℕ) → IsNumber n k c → path c ≡ j ∷ i ∷ p → NumberBelow n k path (i ∷ p) c
  creator c i j p nc e =
      let o = own_of c nc in
      let hangs = own_hangs c o in
      let r_path : o.it.path ≡ j ∷ i ∷ p = sym (path_is c o.it o.is) ∙ e in
      let x = f.roles.parent c o.it j i p o.is hangs r_path in
      let m = filed_number (i ∷ p) o.it.site o.site x in
      let below = f.roles.below x.entry c x.it o.it j x.is o.is x.hangs hangs (r_path ∙ ap (λ (q : List ℕ). j ∷ q) (sym x.path)) (sym x.site) in
      record { number = x.entry; is = m.0; path_is = m.1; below = child_above f.net.place f.words.starts.above f.words.flow.words.shaped.rises x.entry c below }

  sibling : (c i j : ℕ) (p : List ℕ) → IsNumber n k c → path c ≡ j ∷ p → i < j → NumberBelow n k path (i ∷ p) c
  sibling c i j p nc e l =
      let o = own_of c nc in
      let hangs = own_hangs c o in
      let r_path : o.it.path ≡ j ∷ p = sym (path_is c o.it o.is) ∙ e in
      let u = there c o.it o.is in
      let w = elder P main f.state f.setting.starts agrees.made i j p u.0 l (subst (λ (q : List ℕ). At f.state q u.0) r_path u.1) in
      let x = f.filed.task i p w.0 w.1 in
      let m = filed_number (i ∷ p) itself refl x in
      let before = f.roles.order x.entry c x.it o.it i j p x.is o.is x.hangs hangs x.path r_path (x.site ∙ sym o.site) l in
      record { number = x.entry; is = m.0; path_is = m.1; below = earlier_below f.net.place f.words.flow.words.shaped.rises x.entry c before }

  -- a cell is given up if the word of the entry says so
  given_by : (e c : ℕ) (r : Role) (u : Task S) → f.role e ≡ Some r → f.net.place e ≢ apart → r.site ≡ on c → At f.state r.path u → ((k.states e).given ≡ true) ↔ IsIn c u.given
  given_by e c r u is hangs site at_ = (forth, back)
    where
      word : (k.states e).given ≡ f.gave e
      word = f.words.given e (f.words.flow.words.inside e hangs)

      forth : (k.states e).given ≡ true → IsIn c u.given
      forth h =
          let g = f.given.cell e c r is site (sym word ∙ h) in
          subst (λ (x : Task S). IsIn c x.given) (at_same f.state r.path g.task u g.at_ at_) g.given

      back : IsIn c u.given → (k.states e).given ≡ true
      back h = elim (f.given.back e c r is site (record { task = u; at_ = at_; given = h })) [ inl g ↦ word ∙ g | inr j ↦ absurd (none_joined sights idle e j) ]

  given : (t c : ℕ) (u : Task S) (mode : Mode) (strong : Bool) → IsNumber n k t → At f.state (path t) u → right_of u.body.start.context c ≡ Holds mode strong
      → (entry_number t (right_of u.body.start.context) c < n) × (((k.states (entry_number t (right_of u.body.start.context) c)).given ≡ true) ↔ IsIn c u.given)
  given t c u mode strong nt at_ right =
      let o = own_of t nt in
      let m = child t nt in
      let h : At f.state (m.0 ∷ m.1) u = subst (λ (p : List ℕ). At f.state p u) m.2 at_ in
      let a = f.filed.access m.0 c m.1 (record { task = u; at_ = h; mode = mode; strong = strong; right = right }) in
      let x = a.0 in
      let num = f.roles.number x.entry x.it x.is in
      let same : x.it.task ≡ t = one_entry x.it.task t num.0 o.it num.1 o.is (num.2 ∙ (x.path ∙ (sym m.2 ∙ path_is t o.it o.is))) (num.3 ∙ sym o.site) in
      let entry : x.entry ≡ entry_number t (right_of u.body.start.context) c = a.3 ∙ ap (λ (z : ℕ). entry_number z (right_of u.body.start.context) c) same in
      subst (λ (e : ℕ). (e < n) × (((k.states e).given ≡ true) ↔ IsIn c u.given)) entry
      (f.words.flow.words.inside x.entry x.hangs, given_by x.entry c x.it u x.is x.hangs x.site (subst (λ (p : List ℕ). At f.state p u) (sym x.path) h))

  pub rested : Rested P main first is_job n k f.state path
  rested = record {
    setting = f.setting;
    reached = f.reached;
    cells = f.cells;
    main_path = ap path_by f.roles.main;
    main_in = main_in;
    stands = stands;
    child = child;
    number = number;
    one = one;
    creator = creator;
    sibling = sibling;
    given = given;
  }

pub idle_fields_tell : (S J : Type 0) (is_job : Telling S J) → IdleFieldsTell S J is_job
idle_fields_tell S J is_job P main first n k sights f idle few = (path P main first is_job n k sights f idle few, rested P main first is_job n k sights f idle few)
