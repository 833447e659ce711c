-- What a seat that makes a task stands to link, and what it has linked.
use Rattle.std.proofs.Common.{◌≡◌, ◌≢◌, ◌≤◌, ◌<◌, ◌⊎◌, inl, inr, ℕ, zero, suc, ◌+◌, ◌-◌, ◌==◌, refl, sym, subst, ap, ◌∙◌, arith, Bool, true, false, List, [], ◌∷◌, if◌then◌else◌, Option, Some, None}
use Rattle.std.specs.Prelude.{cond}
use Rattle.std.proofs.lemmas.Bool.Decides.{eqb_tells}
use lib.ListN.{get_elem?}
use Rattle.oss_code.specs.declared.code.CodeParts.{CodeParts}
use Rattle.oss_jobs.specs.declared.job.Job.{Job}
use Rattle.oss_jobs.specs.Entries.{or_zero}
use Rattle.oss_jobs.specs.Jobs.{entry_at, task_of}
use Rattle.oss_machine.specs.Frames.{CodeScript}
use Rattle.oss_machine.specs.Machines.{asks}
use Rattle.oss_model.specs.Bodies.{Order}
use Rattle.oss_model.specs.Context.{right_of}
use Rattle.oss_model.specs.Rights.{Right, Holds}
use Rattle.oss_syntax.specs.declared.access.Mode.{Mode}
use Rattle.oss_words.specs.declared.entry.After.{After}
use Rattle.oss_words.specs.declared.entry.After.TheVariants.{FirstOf, FirstOfMain}
use Rattle.oss_words.specs.declared.entry.EntryInfo.{EntryInfo}
use Rattle.oss_words.specs.Bits.{FitsInfo}
use Rattle.oss_words.specs.Steps.{no_flags}
use Rattle.oss_words.specs.Sums.{num}
use Rattle.oss_words.specs.Views.{Among, among_first}
use Rattle.oss_roles.specs.Numbers.{entry_number, has_cell}
use Rattle.oss_roles.specs.Sights.{Making}
use Rattle.oss_field.specs.Hanging.{NamesLast, StandsToLink}
use Rattle.oss_field.specs.Known.{Holding, Known, Plan, Unlinked, last_of}
use Rattle.oss_field.specs.Linking.{IsEntryFor, cell_entry, own_entry, unlinked_beside}
use Rattle.oss_field.specs.Making.{unlinked_from}
use Rattle.oss_field.specs.Owning.{entry_of, site_of}
use Rattle.oss_field.specs.Plans.{new_rights}
use Rattle.oss_field.proofs.DepthLemmas.{creates_shallow, creator_right}
use Rattle.oss_field.specs.Hanging.{Linked}
use Rattle.oss_creations.specs.Accesses.{IsEntryOf, IsRunOf, after_behind, last_told, parent_told}
use Rattle.oss_creations.specs.Creating.{HasLinked, HasLinkedOne, IsInfo, IsMaking, OfNew}
use Rattle.oss_acts.specs.Working.{SameWork}
use Rattle.oss_creations.proofs.AccessLemmas.{run_number}

bad_bool : {A : Type 0} → true ≡ false → A
bad_bool e = absurd (let bad : ⊥ = cc in bad)

-- what is left of the entries that are not linked

module _ (t e n : ℕ) (rest : List Unlinked) where
  beside_step : (b : Bool) → ((b ≡ true) × (n ≡ e)) ⊎ ((b ≡ false) × (n ≢ e)) → n ≢ e → unlinked_beside e rest ≡ rest
      → cond b (unlinked_beside e rest) (record { task = t; entry = n; state = no_flags; info = None; cell = None } ∷ unlinked_beside e rest) ≡ record { task = t; entry = n; state = no_flags; info = None; cell = None } ∷ rest
  beside_step true (inl q) other again = absurd (other q.1)
  beside_step true (inr q) other again = bad_bool q.0
  beside_step false q other again = ap (λ (z : List Unlinked). record { task = t; entry = n; state = no_flags; info = None; cell = None } ∷ z) again

  beside_here : (b : Bool) → ((b ≡ true) × (n ≡ e)) ⊎ ((b ≡ false) × (n ≢ e)) → n ≡ e → unlinked_beside e rest ≡ rest
      → cond b (unlinked_beside e rest) (record { task = t; entry = n; state = no_flags; info = None; cell = None } ∷ unlinked_beside e rest) ≡ rest
  beside_here true q same again = again
  beside_here false (inl q) same again = bad_bool (sym q.0)
  beside_here false (inr q) same again = absurd (q.1 same)

beside_later : (t e n r : ℕ) → e < n → unlinked_beside e (unlinked_from t n r) ≡ unlinked_from t n r
beside_later t e n zero l = refl
beside_later t e n (suc r) l =
    beside_step t e n (unlinked_from t (suc n) r) (n == e) (eqb_tells n e) (λ same. let bad : ⊥ = omega (arith, same, l) in bad) (beside_later t e (suc n) r (omega (arith, l)))

beside_first : (t e r : ℕ) → unlinked_beside e (unlinked_from t e (suc r)) ≡ unlinked_from t (suc e) r
beside_first t e r = beside_here t e e (unlinked_from t (suc e) r) (e == e) (eqb_tells e e) refl (beside_later t e (suc e) r (omega arith))

left_here : (t e stop : ℕ) → e < stop → unlinked_from t e (stop - e) ≡ unlinked_from t e (suc (stop - (e + 1)))
left_here t e stop l = let n : stop - e ≡ suc (stop - (e + 1)) = omega (arith, l) in ap (unlinked_from t e) n

next_is : (e : ℕ) → suc e ≡ e + 1
next_is e = omega arith

pub linked_next : (t e : ℕ) (k l : Known) → HasLinkedOne e k l → HasLinked t e (e + 1) k l
linked_next t e k l h = record {
  bears = h.bears;
  makes = h.makes;
  plans = h.plans;
  unlinked = λ stop low was.
      h.unlinked
      ∙ (ap (unlinked_beside e) (was ∙ left_here t e stop (omega (arith, low)))
      ∙ (beside_first t e (stop - (e + 1)) ∙ ap (λ (z : ℕ). unlinked_from t z (stop - (e + 1))) (next_is e)));
  failed = h.failed;
  held = h.held;
}

pub linked_more : (t a b c : ℕ) (k l m : Known) → b ≤ c → HasLinked t a b k l → HasLinked t b c l m → HasLinked t a c k m
linked_more t a b c k l m low x y = record {
  bears = y.bears ∙ x.bears;
  makes = y.makes ∙ x.makes;
  plans = y.plans ∙ x.plans;
  unlinked = λ stop high was. y.unlinked stop high (x.unlinked stop (omega (arith, low, high)) was);
  failed = y.failed ∙ x.failed;
  held = y.held;
}

pub linked_none : (t a : ℕ) (k : Known) → k.words.held ≡ [] → HasLinked t a a k k
linked_none t a k held = record { bears = refl; makes = refl; plans = refl; unlinked = λ stop high was. was; failed = refl; held = held }

-- the same up to a number that is told otherwise
pub linked_to : (t a b c : ℕ) (k l : Known) → b ≡ c → HasLinked t a b k l → HasLinked t a c k l
linked_to t a b c k l e h = subst (λ (z : ℕ). HasLinked t a z k l) e h

pub still_making : (code : CodeParts) (n : ℕ) (job : Job) (t stage a b stop : ℕ) (k l : Known) → b ≤ stop → HasLinked t a b k l → (m : IsMaking code n job t stage a stop k) → (x : IsMaking code n job t stage b stop l) × (x.holding ≡ m.holding)
still_making code n job t stage a b stop k l low h m = (
  record {
    holding = m.holding;
    order = m.order;
    bears = h.bears ∙ m.bears;
    makes = h.makes ∙ m.makes;
    plans = h.plans ∙ m.plans;
    unlinked = h.unlinked stop low m.unlinked;
    inside = m.inside;
    number = m.number;
    held = h.held;
    act = m.act;
    above = m.above;
    is = m.is;
    of_program = m.of_program;
  },
  refl,
)

-- after a link, and the deliveries that follow
pub linked_one : (e : ℕ) (i : EntryInfo) (after : After) (k l m : Known) → Linked e i after k l → SameWork l m → m.words.held ≡ [] → HasLinkedOne e k m
linked_one e i after k l m x s held = record {
  bears = s.bears ∙ ap (λ (z : Known). z.bears) x.known;
  makes = s.makes ∙ ap (λ (z : Known). z.makes) x.known;
  plans = s.plans ∙ ap (λ (z : Known). z.plans) x.known;
  unlinked = s.unlinked ∙ ap (λ (z : Known). z.unlinked) x.known;
  failed = s.failed ∙ ap (λ (z : Known). z.words.failed) x.known;
  held = held;
}

-- an entry of the new task stands to be linked

holds_is : (m n : Mode) (a b : Bool) → m ≡ n → a ≡ b → Holds n b ≡ Holds m a
holds_is m n a b e f = ap (λ (z : Mode). Holds z b) (sym e) ∙ ap (λ (z : Bool). Holds m z) (sym f)

entry_is : (own : ℕ → Right) (t e : ℕ) (mode : Mode) (strong : Bool) (cell : Option ℕ) (i : EntryInfo) (code : CodeParts) (h : Holding) (order : Order CodeScript) → (own ≡ new_rights code h.body order)
    → i.task ≡ t → i.mode ≡ mode → i.strong ≡ strong → IsEntryOf own t e mode strong cell → IsEntryFor code h order e i cell
entry_is own t e mode strong None i code h order same task m s x = own_entry (x.0 ∙ sym task) (m ∙ x.1) (s ∙ x.2)
entry_is own t e mode strong (Some c) i code h order same task m s x =
    cell_entry c
    (ap (λ (z : ℕ → Right). z c) (sym same) ∙ (x.0 ∙ holds_is i.mode mode i.strong strong m s))
    (x.1 ∙ (ap (λ (z : ℕ). entry_number z own c) (sym task) ∙ ap (λ (z : ℕ → Right). entry_number i.task z c) same))

if_true : (b : Bool) (x y : ℕ) → b ≡ true → (if b then x else y) ≡ x
if_true b x y e = ap (λ (z : Bool). if z then x else y) e

if_false : (b : Bool) (x y : ℕ) → b ≡ false → (if b then x else y) ≡ y
if_false b x y e = ap (λ (z : Bool). if z then x else y) e

is_zero : (t : ℕ) → t ≡ 0 → (t == 0) ≡ true
is_zero t e = elim (eqb_tells t 0) [ inl q ↦ q.0 | inr q ↦ absurd (q.1 e) ]

not_zero : (t : ℕ) → t ≢ 0 → (t == 0) ≡ false
not_zero t ne = elim (eqb_tells t 0) [ inl q ↦ absurd (ne q.1) | inr q ↦ q.0 ]

module _ (code : CodeParts) (n : ℕ) (job : Job) (t stage e stop : ℕ) (k : Known) (m : IsMaking code n job t stage e stop k) where
  parent_main : (cell : Option ℕ) → m.holding.number ≡ 0 → parent_told job cell ≡ 0
  parent_main None z = m.is.task ∙ z
  parent_main (Some c) z = if_true (task_of job == 0) 0 (or_zero (entry_at job c)) (is_zero (task_of job) (m.is.task ∙ z))

  -- the creator has the cells of the new task
  creator_has : (own : ℕ → Right) (c : ℕ) (mode : Mode) (strong : Bool) → (own ≡ new_rights code m.holding.body m.order) → own c ≡ Holds mode strong → has_cell (right_of m.holding.body.start.context c) ≡ true
  creator_has own c mode strong same h =
      let x = creator_right (asks code) m.holding.body m.order m.act c mode strong (ap (λ (z : ℕ → Right). z c) (sym same) ∙ h) in
      ap has_cell x.holds

  entry_there : (c : ℕ) → has_cell (right_of m.holding.body.start.context c) ≡ true → or_zero (entry_at job c) ≡ entry_number m.holding.number (right_of m.holding.body.start.context) c
  entry_there c has =
      ap or_zero (m.is.entries c)
      ∙ ap (λ (b : Bool). or_zero (if b then Some (entry_number m.holding.number (right_of m.holding.body.start.context) c) else None)) has

  parent_task : (own : ℕ → Right) (mode : Mode) (strong : Bool) (cell : Option ℕ) → (own ≡ new_rights code m.holding.body m.order) → IsEntryOf own t e mode strong cell → m.holding.number ≢ 0 → parent_told job cell ≡ entry_of m.holding cell
  parent_task own mode strong None same x ne = m.is.task
  parent_task own mode strong (Some c) same x ne =
      if_false (task_of job == 0) 0 (or_zero (entry_at job c)) (not_zero (task_of job) (λ z. ne (sym m.is.task ∙ z)))
      ∙ entry_there c (creator_has own c mode strong same x.0)

  entry_low : (c : ℕ) → has_cell (right_of m.holding.body.start.context c) ≡ true → entry_number m.holding.number (right_of m.holding.body.start.context) c < 16777216
  entry_low c has =
      let few = m.is.cells.few (suc c) in
      let one : num (has_cell (right_of m.holding.body.start.context c)) ≡ 1 = ap num has in
      let low = m.is.numbers in
      omega (arith, few, one, low)

  parent_low : (own : ℕ → Right) (mode : Mode) (strong : Bool) (cell : Option ℕ) → (own ≡ new_rights code m.holding.body m.order) → IsEntryOf own t e mode strong cell → parent_told job cell < 16777216
  parent_low own mode strong None same x = let low = m.is.numbers in let e = m.is.task in omega (arith, low, e)
  parent_low own mode strong (Some c) same x =
      elim (eqb_tells (task_of job) 0) [
        | inl q ↦ let z = if_true (task_of job == 0) 0 (or_zero (entry_at job c)) q.0 in omega (arith, z)
        | inr q ↦
            let has = creator_has own c mode strong same x.0 in
            let z = if_false (task_of job == 0) 0 (or_zero (entry_at job c)) q.0 in
            let y = entry_there c has in
            let low = entry_low c has in
            omega (arith, z, y, low)
      ]

  last_there : (cell : Option ℕ) → last_of m.holding (site_of cell) ≡ last_told job cell
  last_there None = sym m.is.last_child
  last_there (Some c) = sym (m.is.lasts c)

  names_there : (cell : Option ℕ) (p : ℕ) (x : Option ℕ) → last_of m.holding (site_of cell) ≡ x → NamesLast m.holding cell p (after_behind x (task_of job) p)
  names_there cell p (Some o) is = is
  names_there cell p None is = go (task_of job == 0) (eqb_tells (task_of job) 0)
    where
      go : (b : Bool) → ((b ≡ true) × (task_of job ≡ 0)) ⊎ ((b ≡ false) × (task_of job ≢ 0)) → NamesLast m.holding cell p (if b then FirstOfMain else FirstOf p)
      go true (inl q) = (sym m.is.task ∙ q.1, is)
      go true (inr q) = bad_bool q.0
      go false (inl q) = bad_bool (sym q.0)
      go false (inr q) = ((λ z. q.1 (m.is.task ∙ z)), is, refl)

  depth_is : (mode : Mode) (strong : Bool) (cell : Option ℕ) (i : EntryInfo) → IsInfo job mode strong t cell i → i.depth ≡ suc m.holding.body.start.context.depth
  depth_is mode strong cell i info =
      let d = info.depth code m.holding.body.start m.holding.body.found m.is.body in
      let p = m.of_program.depth in
      let low = creates_shallow (asks code) m.holding.body m.order m.act in
      omega (arith, d, p, low)

  abbrev Entry : Mode → Bool → Option ℕ → Type 0
  Entry mode strong cell = OfNew code job (λ own. IsEntryOf own t e mode strong cell)

  here : (mode : Mode) (strong : Bool) (cell : Option ℕ) → Entry mode strong cell → IsEntryOf (new_rights code m.holding.body m.order) t e mode strong cell
  here mode strong cell new = new m.holding.body.start m.holding.body.found m.order m.is.body m.act

  pub info_fits : (mode : Mode) (strong : Bool) (cell : Option ℕ) (i : EntryInfo) → n ≤ 16777216 → Entry mode strong cell → IsInfo job mode strong t cell i → FitsInfo i
  info_fits mode strong cell i most new info = record {
    depth = let d = depth_is mode strong cell i info in let low = creates_shallow (asks code) m.holding.body m.order m.act in omega (arith, d, low);
    parent = let p = info.parent in let low = parent_low (new_rights code m.holding.body m.order) mode strong cell refl (here mode strong cell new) in omega (arith, p, low);
    task = let q = info.task in let low = m.number in omega (arith, q, low, most);
  }

  pub stands : (mode : Mode) (strong : Bool) (cell : Option ℕ) (i : EntryInfo) (after : After) → stage ≡ 0 → e < stop → Entry mode strong cell → IsInfo job mode strong t cell i
      → after ≡ after_behind (last_told job cell) (task_of job) i.parent → StandsToLink code job e i cell after k
  stands mode strong cell i after none some new info named = record {
    may = record {
      place = 0;
      holding = m.holding;
      order = m.order;
      stage = stage;
      holds = ap (λ (z : List Holding). get_elem? z 0) m.bears;
      act = m.act;
      among = subst (λ (z : List Making). Among (record { by = m.holding.number; task = i.task; stage = stage }) z) (sym m.makes) (among_first (ap (λ (z : ℕ). record { by = m.holding.number; task = z; stage = stage }) (sym info.task)));
      plan = subst (λ (z : List Plan). Among (record { task = i.task; holding = m.holding; order = m.order }) z) (sym m.plans) (among_first (ap (λ (z : ℕ). record { task = z; holding = m.holding; order = m.order }) (sym info.task)));
      entry = entry_is (new_rights code m.holding.body m.order) t e mode strong cell i code m.holding m.order refl info.task info.mode_is info.strong_is (here mode strong cell new);
      depth = depth_is mode strong cell i info;
      of_main = λ z. info.parent ∙ parent_main cell z;
      of_task = λ ne. info.parent ∙ parent_task (new_rights code m.holding.body m.order) mode strong cell refl (here mode strong cell new) ne;
      above = record {
        number = subst (λ (z : ℕ). m.holding.number < z) (sym info.task) m.above.number;
        lasts = λ y o q. subst (λ (z : ℕ). o < z) (sym info.task) (m.above.lasts y o q);
      };
    };
    fresh = subst (λ (z : List Unlinked). Among (record { task = i.task; entry = e; state = no_flags; info = None; cell = None }) z) (sym (m.unlinked ∙ left_here t e stop some))
        (among_first (ap (λ (z : ℕ). record { task = z; entry = e; state = no_flags; info = None; cell = None }) (sym info.task)));
    names = subst (λ (z : After). NamesLast m.holding cell i.parent z) (sym named) (names_there cell i.parent (last_told job cell) (last_there cell));
    empty = m.held;
    last = last_of m.holding;
    is = m.is;
  }

  pub inside_table : e < stop → e < n
  inside_table some = let i = m.inside in omega (arith, some, i)

-- the next entry of a run of cells
pub run_entry : (own : ℕ → Right) (t first lo hi c : ℕ) (mode : Mode) (strong : Bool) → lo ≤ c → c < hi → IsRunOf own t first lo hi mode strong → IsEntryOf own t (first + (c - lo)) mode strong (Some c)
run_entry own t first lo hi c mode strong low high r =
    let f = r.0 in
    let z = run_number own lo c mode strong low (λ d l h. r.1 d l (omega (arith, h, high))) in
    (r.1 c low high, omega (arith, f, z, low))
