-- Links hold by the notes of a run just where they stand for a chain of its events.
use Rattle.std.proofs.Common.{◌≡◌, ◌≤◌, ◌<◌, ◌⊎◌, inl, inr, refl, sym, subst, ap, ◌∙◌, ℕ, zero, suc, ◌+◌, ◌-◌, ◌^◌, Bool, true, false, List, [], ◌∷◌, Option, Some, None, arith}
use Rattle.std.specs.Prelude.{nat_le, not, ◌&&◌, if◌then◌else◌}
use Rattle.std.proofs.lemmas.Bool.Decides.{nat_tests}
use Rattle.oss_syntax.specs.declared.access.Access.{Access}
use Rattle.oss_model.specs.Agreement.{MainStarts}
use Rattle.oss_model.specs.Bodies.{Act, Program, Start}
use Rattle.oss_model.specs.History.{IsMade}
use Rattle.oss_model.specs.Machine.{At, State, Task}
use Rattle.oss_model.specs.Order.{written}
use Rattle.oss_chain_laws.specs.Chains.{none}
use Rattle.oss_chain_laws.specs.Happenings.{Happening, Acting, Giving, Does, EndsWith, IsEvent, IsHappening, WaitsFor, follows}
use Rattle.oss_chain_laws.specs.Runs.{IsEventChain}
use Rattle.oss_chain_laws.proofs.WaitLemmas.{ended_at, one_before}
use Rattle.oss_span.specs.declared.link.Link.{Link}
use Rattle.oss_span.specs.declared.link.Link.TheVariants as links
use Rattle.oss_span.specs.Links.{IsJoined, Unfolds, nothing, acts, let_, join, acts_from}
use Rattle.oss_span_check.specs.declared.links.Last.{Last}
use Rattle.oss_span_check.specs.declared.links.Last.TheVariants as lasts
use Rattle.oss_span_check.specs.declared.note.Made.{Made}
use Rattle.oss_span_check.specs.declared.record.Record.{Record}
use Rattle.oss_span_check.specs.declared.sought.Sought.TheVariants as sought
use Rattle.oss_span_check.specs.Holding.{act_waits, are_numbered, cell_waits, goes_on, holds, last_act, last_of, link_waits, point_of}
use Rattle.oss_span_check.specs.Points.{same_point}
use Rattle.oss_span_check.specs.Queries.{access_in, access_of, has_access, has_done, is_of, is_sought, made_of}
use Rattle.oss_span_check.specs.Records.{IsRecord}
use Rattle.oss_span_check.specs.Waiting.{is_join}
use Rattle.oss_span_check.proofs.CellLemmas.{act_cell_back, act_cell_forth}
use Rattle.oss_span_check.proofs.GivingLemmas.{cell_act_back, cell_act_forth, cell_cell_back, cell_cell_forth, join_back, join_forth}
use Rattle.oss_span_check.proofs.ListLemmas.{and_both, and_parts, any_in, bools, found_in, given, not_true, true_not}
use Rattle.oss_span_check.proofs.MadeLemmas.{access_back, access_child, access_forth}
use Rattle.oss_span_check.proofs.NoteLemmas.{done_back, done_forth}
use Rattle.oss_span_check.proofs.OrderLemmas.{Each, Goes, chain_goes, each_in, goes_chain, in_each}
use Rattle.oss_span_check.proofs.PointLemmas.{same_is}
use Rattle.oss_span_check.proofs.WaitingLemmas.{act_act_back, act_act_forth}

if_some : {A : Type 0} (b : Bool) (x y : A) → (if b then Some x else None) ≡ Some y → (b ≡ true) × (x ≡ y)
if_some {A = A} true x y h = (refl, some_same h)
  where
    some_same : Some x ≡ Some y → x ≡ y
    some_same e = cc
if_some false x y h = absurd cc

some_if : {A : Type 0} (b : Bool) (x : A) → b ≡ true → (if b then Some x else None) ≡ Some x
some_if {A = A} b x e = ap (λ (t : Bool). if t then Some x else None) e

at_most : (a b : ℕ) → nat_le a b ≡ true → a ≤ b
at_most a b h = grind (arith, nat_tests)

at_most_back : (a b : ℕ) → a ≤ b → nat_le a b ≡ true
at_most_back a b h = grind (arith, nat_tests)

-- the event of the task
abbrev pub event_of : List ℕ → Last → Happening
event_of p (lasts.Act n) = Acting p n
event_of p (lasts.Cell c) = Giving p c

module _ {S : Type 0} (P : Program S) (main : Start S) (s : State S) (ms : MainStarts main) (made : IsMade P main s) (ended : (p : List ℕ) (u : Task S) → At s p u → (n : ℕ) × EndsWith P s p n) (r : Record) (so : IsRecord P s r) where
  abbrev W : Happening → Happening → Type 0
  W = WaitsFor P s

  -- what is noted is of tasks at paths
  done_path : (point : List ℕ) (n : ℕ) → has_done r.notes point n ≡ true → (p : List ℕ) × (point ≡ written p)
  done_path point n h =
      let x = any_in (λ x. is_of sought.End point x && nat_le n (suc x.number)) r.notes h in
      let g = and_parts (is_of sought.End point x.0) (nat_le n (suc x.0.number)) x.2 in
      let k = and_parts (is_sought sought.End x.0.what) (same_point x.0.point point) g.0 in
      let t = so.notes_so x.0 x.1 in
      (t.path, sym (same_is {p = x.0.point} {q = point} k.1) ∙ t.point)

  access_path : (point : List ℕ) (c : ℕ) → has_access r.made point c ≡ true → (k : ℕ) × (p : List ℕ) × (point ≡ written (k ∷ p))
  access_path point c h =
      let a = given (access_of r.made point c) (λ a. true) h in
      go (Rattle.oss_span_check.proofs.MadeLemmas.options (made_of r.made point)) a
    where
      go : (made_of r.made point ≡ None) ⊎ ((m : Made) × (made_of r.made point ≡ Some m)) → (a : Access) × (access_of r.made point c ≡ Some a) × (true ≡ true) → (k : ℕ) × (p : List ℕ) × (point ≡ written (k ∷ p))
      go (inl n) a = let q : None ≡ Some a.0 = sym (ap (λ (o : Option Made). elim o as (λ x. Option Access) [ None ↦ None | Some m ↦ access_in m.accesses c ]) n) ∙ a.1 in absurd cc
      go (inr (m, f)) a =
          let x = found_in (λ (y : Made). same_point y.point point) r.made m f in
          let t = so.made_so m x.0 in
          (t.number, t.path, sym (same_is {p = m.point} {q = point} x.1) ∙ t.point)

  -- acts one behind the other

  earlier : (p : List ℕ) (d n : ℕ) {k : ℕ} {a : Act S} → Does P s p (n + d) k a → IsHappening P s (Acting p n)
  earlier p zero n {k = k} {a = a} h = (k, a, subst (λ (m : ℕ). Does P s p m k a) (omega arith) h)
  earlier p (suc d) n {k = k} {a = a} h = let x = one_before P s (subst (λ (m : ℕ). Does P s p m k a) (omega arith) h) in earlier p d n x.2

  acts_go : (p : List ℕ) (k n : ℕ) (es : List Happening) → ((m : ℕ) → m ≤ n + k → IsHappening P s (Acting p m)) → Goes W (Acting p (n + k)) es → Goes W (Acting p n) (acts_from p (suc n) k es)
  acts_go p zero n es h g = subst (λ (m : ℕ). Goes W (Acting p m) es) (omega arith) g
  acts_go p (suc k) n es h g =
      let x = h (suc n) (omega arith) in
      (follows x.2, acts_go p k (suc n) es (λ m l. h m (omega (arith, l))) (subst (λ (m : ℕ). Goes W (Acting p m) es) (omega arith) g))

  go_acts : (p : List ℕ) (k n : ℕ) (es : List Happening) → Goes W (Acting p n) (acts_from p (suc n) k es) → Goes W (Acting p (n + k)) es
  go_acts p zero n es g = subst (λ (m : ℕ). Goes W (Acting p m) es) (omega arith) g
  go_acts p (suc k) n es g = subst (λ (m : ℕ). Goes W (Acting p m) es) (omega arith) (go_acts p k (suc n) es g.1)

  each_acts : (p : List ℕ) (k n : ℕ) (es : List Happening) → ((m : ℕ) → m < n + k → IsEvent P s (Acting p m)) → Each (IsEvent P s) es → Each (IsEvent P s) (acts_from p n k es)
  each_acts p zero n es h g = g
  each_acts p (suc k) n es h g = (h n (omega arith), each_acts p k (suc n) es (λ m l. h m (omega (arith, l))) g)

  acts_each : (p : List ℕ) (k n : ℕ) (es : List Happening) → Each (IsEvent P s) (acts_from p n (suc k) es) → IsEvent P s (Acting p (n + k)) × Each (IsEvent P s) es
  acts_each p zero n es g = (subst (λ (m : ℕ). IsEvent P s (Acting p m)) (omega arith) g.0, g.1)
  acts_each p (suc k) n es g = let x = acts_each p k (suc n) es g.1 in (subst (λ (m : ℕ). IsEvent P s (Acting p m)) (omega arith) x.0, x.1)

  all_before : (p : List ℕ) (n : ℕ) → IsHappening P s (Acting p n) → (m : ℕ) → m ≤ n → IsHappening P s (Acting p m)
  all_before p n h m l = earlier p (n - m) m (subst (λ (x : ℕ). Does P s p x h.0 h.1) (omega (arith, l)) h.2)

  -- the last event of a link

  act_of_last : (p : List ℕ) (first k : ℕ) → has_done r.notes (written p) (first + suc k) ≡ true → IsHappening P s (Acting p (first + k))
  act_of_last p first k h =
      let x = done_forth P main s made ended r so p (first + suc k) h in
      let e = ended_at P s x.2 in
      let l = x.1 in
      all_before p x.0 e (first + k) (omega (arith, l))

  last_of_act : (p : List ℕ) (first k : ℕ) → IsHappening P s (Acting p (first + k)) → has_done r.notes (written p) (first + suc k) ≡ true
  last_of_act p first k h =
      let d = h.2 in
      let e = ended p d.task d.at_ in
      let l = Rattle.oss_span_check.proofs.NoteLemmas.done_within P main s made ended r so e.1 d in
      done_back P main s made ended r so p (first + suc k) e.0 (omega (arith, l)) e.1

  -- a link waits just where its first event does

  act_forth : (p : List ℕ) (n : ℕ) (q : List ℕ) (e : Last) → IsHappening P s (Acting p n) → act_waits r (written p) n (written q) e ≡ true → W (Acting p n) (event_of q e)
  act_forth p n q (lasts.Act m) d h = act_act_forth P main s ms made ended r so p n q m d.0 d.1 d.2 h
  act_forth p n q (lasts.Cell c) d h = act_cell_forth P main s ms made ended r so p n q c d.0 d.1 d.2 h

  act_back : (p : List ℕ) (n : ℕ) (q : List ℕ) (e : Last) → W (Acting p n) (event_of q e) → act_waits r (written p) n (written q) e ≡ true
  act_back p n q (lasts.Act m) h = act_act_back P main s ms made ended r so p n q m h
  act_back p n q (lasts.Cell c) h = act_cell_back P main s ms made ended r so p n q c h

  cell_forth : (p : List ℕ) (c : ℕ) (q : List ℕ) (e : Last) → cell_waits r (written p) c (written q) e ≡ true → W (Giving p c) (event_of q e)
  cell_forth p c q (lasts.Act m) h = cell_act_forth P main s ms made ended r so p c q m h
  cell_forth p c q (lasts.Cell d) h = cell_cell_forth P main s ms made ended r so p c q d h

  cell_back : (p : List ℕ) (c : ℕ) (q : List ℕ) (e : Last) → W (Giving p c) (event_of q e) → cell_waits r (written p) c (written q) e ≡ true
  cell_back p c q (lasts.Act m) h = cell_act_back P main s ms made ended r so p c q m h
  cell_back p c q (lasts.Cell d) h = cell_cell_back P main s ms made ended r so p c q d h

  -- cells

  -- an access whose cell is not joined, and one whose cell is
  not_joined : (k : ℕ) (p : List ℕ) (c : ℕ) → not (is_join r (written (k ∷ p)) c) ≡ true → IsJoined s (k ∷ p) c → ⊥
  not_joined k p c h x = not_true (is_join r (written (k ∷ p)) c) h (join_back P main s ms made ended r so k p c x.0 x.1)

  no_join : (p : List ℕ) (c : ℕ) → (IsJoined s p c → ⊥) → not (is_join r (written p) c) ≡ true
  no_join p c h = true_not (is_join r (written p) c) (λ e. h (join_forth P main s ms made ended r so p c e))

  access_happens : (p : List ℕ) (c : ℕ) → IsHappening P s (Giving p c) → has_access r.made (written p) c ≡ true
  access_happens [] c h = absurd h
  access_happens (k ∷ p) c h = access_back P main s ms made r so k p c h

  is_joined : (p : List ℕ) (c : ℕ) → IsHappening P s (Giving p c) → IsJoined s p c → is_join r (written p) c ≡ true
  is_joined [] c h x = absurd h
  is_joined (k ∷ p) c h x = join_back P main s ms made ended r so k p c x.0 x.1

  -- what links stand for, from an event on
  pub record Told (ls : List Link) (e : Happening) : Type 0 where
    pub events : List Happening
    pub unfolds : Unfolds P s ls events
    pub goes : Goes W e events
    pub happen : Each (IsEvent P s) events

  -- a link, and what stands behind its last event
  record LinkTold (l : Link) (ls : List Link) (e : Last) : Type 0 where
    path : List ℕ
    point : point_of l ≡ written path
    tells : Told ls (event_of path e) → (first : Happening) × (events : List Happening) × Unfolds P s (l ∷ ls) (first ∷ events) × Goes W first events × Each (IsEvent P s) (first ∷ events) × ((q : List ℕ) (last : Last) → link_waits r l (written q) last ≡ true → W first (event_of q last))

  acts_told : (point : List ℕ) (first count : ℕ) (ls : List Link) (e : Last) → last_act r point first count ≡ Some e → LinkTold (links.Acts point first count) ls e
  acts_told point first zero ls e h =
      absurd (none_of (and_parts (nat_le 1 0) (are_numbered first 0 && has_done r.notes point (first + 0)) (if_some (nat_le 1 0 && (are_numbered first 0 && has_done r.notes point (first + 0))) (lasts.Act (first + (0 - 1))) e h).0).0)
    where
      none_of : nat_le 1 0 ≡ true → ⊥
      none_of h = grind (arith, nat_tests)
  acts_told point first (suc k) ls e h =
      record { path = p.0; point = p.1; tells = λ t. (Acting p.0 first, acts_from p.0 (suc first) k t.events, acts p.1 t.unfolds, acts_go p.0 k first t.events (λ m l. all_before p.0 (first + k) last m l) (subst (λ (x : Last). Goes W (event_of p.0 x) t.events) (sym same) t.goes), (each first (omega arith), each_acts p.0 k (suc first) t.events (λ m l. each m (omega (arith, l))) t.happen), λ q x w. act_forth p.0 first q x (all_before p.0 (first + k) last first (omega arith)) (ap (λ (y : List ℕ). act_waits r y first (written q) x) (sym p.1) ∙ w)) }
    where
      g : ((nat_le 1 (suc k) && (are_numbered first (suc k) && has_done r.notes point (first + suc k))) ≡ true) × (lasts.Act (first + (suc k - 1)) ≡ e)
      g = if_some (nat_le 1 (suc k) && (are_numbered first (suc k) && has_done r.notes point (first + suc k))) (lasts.Act (first + (suc k - 1))) e h

      f : (are_numbered first (suc k) ≡ true) × (has_done r.notes point (first + suc k) ≡ true)
      f = and_parts (are_numbered first (suc k)) (has_done r.notes point (first + suc k)) (and_parts (nat_le 1 (suc k)) (are_numbered first (suc k) && has_done r.notes point (first + suc k)) g.0).1

      few : first + suc k ≤ 2 ^ 64 - 1
      few = at_most (first + suc k) (2 ^ 64 - 1) f.0

      d : has_done r.notes point (first + suc k) ≡ true
      d = f.1

      p : (q : List ℕ) × (point ≡ written q)
      p = done_path point (first + suc k) d

      last : IsHappening P s (Acting p.0 (first + k))
      last = act_of_last p.0 first k (ap (λ (x : List ℕ). has_done r.notes x (first + suc k)) (sym p.1) ∙ d)

      each : (m : ℕ) → m ≤ first + k → IsEvent P s (Acting p.0 m)
      each m l = record { happens = all_before p.0 (first + k) last m l; numbered = omega (arith, l, few) }

      same : lasts.Act (first + k) ≡ e
      same = ap (λ (n : ℕ). lasts.Act n) (omega arith) ∙ g.1

  cell_told : (point : List ℕ) (c : ℕ) (l : Link) (ls : List Link) (e : Last) → point_of l ≡ point → ((q : List ℕ) (last : Last) → link_waits r l (written q) last ≡ cell_waits r point c (written q) last) → has_access r.made point c ≡ true → lasts.Cell c ≡ e
      → ((k : ℕ) (p : List ℕ) (events : List Happening) → point ≡ written (k ∷ p) → Unfolds P s ls events → Unfolds P s (l ∷ ls) (Giving (k ∷ p) c ∷ events)) → LinkTold l ls e
  cell_told point c l ls e q w h same make = record {
    path = x.0 ∷ x.1;
    point = q ∙ x.2;
    tells = λ t. (Giving (x.0 ∷ x.1) c, t.events, make x.0 x.1 t.events x.2 t.unfolds, subst (λ (y : Last). Goes W (event_of (x.0 ∷ x.1) y) t.events) (sym same) t.goes, (record { happens = access_forth P main s ms made r so (x.0 ∷ x.1) c (ap (λ (y : List ℕ). has_access r.made y c) (sym x.2) ∙ h); numbered = tt }, t.happen), λ o last v. cell_forth (x.0 ∷ x.1) c o last (ap (λ (y : List ℕ). cell_waits r y c (written o) last) (sym x.2) ∙ (sym (w o last) ∙ v)));
  }
    where
      x : (k : ℕ) × (p : List ℕ) × (point ≡ written (k ∷ p))
      x = access_path point c h

  link_told : (l : Link) (ls : List Link) (e : Last) → last_of r l ≡ Some e → LinkTold l ls e
  link_told (links.Acts point first count) ls e h = acts_told point first count ls e h
  link_told (links.Let point c) ls e h =
      let g = if_some (has_access r.made point c && not (is_join r point c)) (lasts.Cell c) e h in
      let f = and_parts (has_access r.made point c) (not (is_join r point c)) g.0 in
      cell_told point c (links.Let point c) ls e refl (λ q last. refl) f.0 g.1 (λ k p events i u. let_ i (not_joined k p c (ap (λ (y : List ℕ). not (is_join r y c)) (sym i) ∙ f.1)) u)
  link_told (links.Join point c) ls e h =
      let g = if_some (has_access r.made point c && is_join r point c) (lasts.Cell c) e h in
      let f = and_parts (has_access r.made point c) (is_join r point c) g.0 in
      cell_told point c (links.Join point c) ls e refl (λ q last. refl) f.0 g.1 (λ k p events i u. join i (join_forth P main s ms made ended r so (k ∷ p) c (ap (λ (y : List ℕ). is_join r y c) (sym i) ∙ f.1)) u)

  goes_forth : (q : List ℕ) (last : Last) (ls : List Link) → goes_on r (written q) last ls ≡ true → Told ls (event_of q last)
  goes_forth q last [] h = record { events = []; unfolds = nothing; goes = tt; happen = tt }
  goes_forth q last (l ∷ ls) h =
      let g = and_parts (link_waits r l (written q) last) (elim (last_of r l) as (λ x. Bool) [ None ↦ false | Some e ↦ goes_on r (point_of l) e ls ]) h in
      let f = given (last_of r l) (λ e. goes_on r (point_of l) e ls) g.1 in
      let t = link_told l ls f.0 f.1 in
      let x = t.tells (goes_forth t.path f.0 ls (ap (λ (y : List ℕ). goes_on r y f.0 ls) (sym t.point) ∙ f.2)) in
      record { events = x.0 ∷ x.1; unfolds = x.2; goes = (x.5 q last g.0, x.3); happen = x.4 }

  -- links that hold stand for a chain of events
  pub holds_forth : (ls : List Link) → holds r ls ≡ true → (events : List Happening) × Unfolds P s ls events × IsEventChain P s events
  holds_forth [] h = ([], nothing, record { happen = λ e i. elim i [ ]; waits = none })
  holds_forth (l ∷ ls) h =
      let f = given (last_of r l) (λ e. goes_on r (point_of l) e ls) h in
      let t = link_told l ls f.0 f.1 in
      let x = t.tells (goes_forth t.path f.0 ls (ap (λ (y : List ℕ). goes_on r y f.0 ls) (sym t.point) ∙ f.2)) in
      (x.0 ∷ x.1, x.2, record { happen = λ e i. each_in (IsEvent P s) (x.0 ∷ x.1) x.4 e i; waits = goes_chain W x.0 x.1 x.3 })

  -- and the other way

  event_is : (l : Link) (p : List ℕ) (e : Last) (ls : List Link) (q : List ℕ) (last : Last) → point_of l ≡ written p → last_of r l ≡ Some e → link_waits r l (written q) last ≡ true → goes_on r (written p) e ls ≡ true → goes_on r (written q) last (l ∷ ls) ≡ true
  event_is l p e ls q last i f w g = and_both w (Rattle.oss_span_check.proofs.ListLemmas.give (last_of r l) (λ x. goes_on r (point_of l) x ls) e f (ap (λ (y : List ℕ). goes_on r y e ls) i ∙ g))

  acts_last : (p point : List ℕ) (first k : ℕ) → point ≡ written p → IsEvent P s (Acting p (first + k)) → last_of r (links.Acts point first (suc k)) ≡ Some (lasts.Act (first + k))
  acts_last p point first k i h =
      some_if (nat_le 1 (suc k) && (are_numbered first (suc k) && has_done r.notes point (first + suc k))) (lasts.Act (first + (suc k - 1)))
      (and_both positive (and_both few (ap (λ (y : List ℕ). has_done r.notes y (first + suc k)) i ∙ last_of_act p first k h.happens)))
      ∙ ap (λ (n : ℕ). Some (lasts.Act n)) (omega arith)
    where
      positive : nat_le 1 (suc k) ≡ true
      positive = grind (arith, nat_tests)

      few : are_numbered first (suc k) ≡ true
      few = at_most_back (first + suc k) (2 ^ 64 - 1) (let l : first + k < 2 ^ 64 - 1 = h.numbered in omega (arith, l))

  let_last : (p point : List ℕ) (c : ℕ) → point ≡ written p → (IsJoined s p c → ⊥) → IsHappening P s (Giving p c) → last_of r (links.Let point c) ≡ Some (lasts.Cell c)
  let_last p point c i j h =
      some_if (has_access r.made point c && not (is_join r point c)) (lasts.Cell c)
      (and_both (ap (λ (y : List ℕ). has_access r.made y c) i ∙ access_happens p c h) (ap (λ (y : List ℕ). not (is_join r y c)) i ∙ no_join p c j))

  join_last : (p point : List ℕ) (c : ℕ) → point ≡ written p → IsJoined s p c → IsHappening P s (Giving p c) → last_of r (links.Join point c) ≡ Some (lasts.Cell c)
  join_last p point c i j h =
      some_if (has_access r.made point c && is_join r point c) (lasts.Cell c)
      (and_both (ap (λ (y : List ℕ). has_access r.made y c) i ∙ access_happens p c h) (ap (λ (y : List ℕ). is_join r y c) i ∙ is_joined p c h j))

  goes_back : (q : List ℕ) (last : Last) {ls : List Link} {events : List Happening} → Unfolds P s ls events → Goes W (event_of q last) events → Each (IsEvent P s) events → goes_on r (written q) last ls ≡ true
  goes_back q last nothing g h = refl
  goes_back q last (acts {point = point} {p = p} {first = first} {count = k} {rest = ls} {es = es} i u) g h =
      let x = acts_each p k first es h in
      event_is (links.Acts point first (suc k)) p (lasts.Act (first + k)) ls q last i (acts_last p point first k i x.0)
      (ap (λ (y : List ℕ). act_waits r y first (written q) last) i ∙ act_back p first q last g.0)
      (goes_back p (lasts.Act (first + k)) u (go_acts p k first es g.1) x.1)
  goes_back q last (let_ {point = point} {p = p} {c = c} {rest = ls} i j u) g h =
      event_is (links.Let point c) p (lasts.Cell c) ls q last i (let_last p point c i j h.0.happens)
      (ap (λ (y : List ℕ). cell_waits r y c (written q) last) i ∙ cell_back p c q last g.0) (goes_back p (lasts.Cell c) u g.1 h.1)
  goes_back q last (join {point = point} {p = p} {c = c} {rest = ls} i j u) g h =
      event_is (links.Join point c) p (lasts.Cell c) ls q last i (join_last p point c i j h.0.happens)
      (ap (λ (y : List ℕ). cell_waits r y c (written q) last) i ∙ cell_back p c q last g.0) (goes_back p (lasts.Cell c) u g.1 h.1)

  first_is : (l : Link) (p : List ℕ) (e : Last) (ls : List Link) → point_of l ≡ written p → last_of r l ≡ Some e → goes_on r (written p) e ls ≡ true → holds r (l ∷ ls) ≡ true
  first_is l p e ls i f g = Rattle.oss_span_check.proofs.ListLemmas.give (last_of r l) (λ x. goes_on r (point_of l) x ls) e f (ap (λ (y : List ℕ). goes_on r y e ls) i ∙ g)

  -- links that stand for a chain of events hold
  pub holds_back : {ls : List Link} {events : List Happening} → Unfolds P s ls events → IsEventChain P s events → holds r ls ≡ true
  holds_back nothing c = refl
  holds_back (acts {point = point} {p = p} {first = first} {count = k} {rest = ls} {es = es} i u) c =
      let x = acts_each p k first es (in_each (IsEvent P s) (acts_from p first (suc k) es) c.happen) in
      let g = chain_goes W (Acting p first) (acts_from p (suc first) k es) c.waits in
      first_is (links.Acts point first (suc k)) p (lasts.Act (first + k)) ls i (acts_last p point first k i x.0) (goes_back p (lasts.Act (first + k)) u (go_acts p k first es g) x.1)
  holds_back (let_ {point = point} {p = p} {c = c} {rest = ls} {es = es} i j u) c' =
      let h = in_each (IsEvent P s) (Giving p c ∷ es) c'.happen in
      first_is (links.Let point c) p (lasts.Cell c) ls i (let_last p point c i j h.0.happens) (goes_back p (lasts.Cell c) u (chain_goes W (Giving p c) es c'.waits) h.1)
  holds_back (join {point = point} {p = p} {c = c} {rest = ls} {es = es} i j u) c' =
      let h = in_each (IsEvent P s) (Giving p c ∷ es) c'.happen in
      first_is (links.Join point c) p (lasts.Cell c) ls i (join_last p point c i j h.0.happens) (goes_back p (lasts.Cell c) u (chain_goes W (Giving p c) es c'.waits) h.1)
