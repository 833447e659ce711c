-- The accesses of a stretch by their places, and those of the list of opens to a cell of it, match.
use Rattle.std.proofs.Common.{◌≡◌, ℕ, ◌<◌, ◌+◌, zero, suc, refl, sym, ap, subst, ◌∙◌, List, [], ◌∷◌, ◌⊎◌, inl, inr, Bool, true, false, Option, Some, None, arith, length, ◌↔◌, eq-eqb, eqb-true}
use Rattle.std.proofs.lemmas.Option.{slice_get_within}
use Rattle.std.specs.Prelude.{◌==◌, ◌&&◌, slice_get}
use Rattle.oss_syntax.specs.declared.access.Mode.{Mode}
use Rattle.oss_model.specs.Order.{IsIn}
use Rattle.oss_model.specs.Rights.{covers}
use Rattle.oss_model.specs.Matching.{IsNear, above, below, before, Matches, HaveSameFlags}
use Rattle.oss_model.proofs.MatchingLemmas.{same_flags}
use Rattle.oss_deps.specs.declared.opened.Open.{Open}
use Rattle.oss_deps.specs.declared.frame.Frame.{Frame}
use Rattle.oss_deps.specs.declared.frame.Mark.{Mark}
use Rattle.oss_deps.specs.declared.want.Want.{Want}
use Rattle.oss_deps.specs.declared.want.Want.TheVariants.{ToWrite, ToRead, ToJoin}
use Rattle.oss_deps.specs.Opens.{mode_at, mode_in, Precedes, HasOpened, HasCover, IsTop, IsChild, IsEarlier, opened_forest, AreOpens}
use Rattle.oss_deps.specs.Kept.{given_by}
use Rattle.oss_deps.specs.Places.{given_mark, mode_at_place, mode_of_frame, IsBelow, IsSibling, place_forest, AreLinked, AreMarked, AreModesCovered}
use Rattle.oss_deps.specs.Wants.{IsSatisfied}
use Rattle.oss_deps.specs.Columns.{IsTaskAt, IsFrameOf, AreShown}
use Rattle.oss_deps.proofs.Basics.{both, both_of, or_cases, or_left, or_right, some_is, same_at, value_within, compared}
use Rattle.oss_deps.proofs.OpenLemmas.{precedes_in, precedes_in_last, one_entry, apart, asym, not_main, get_in, in_get, in_order, mode_is}
use Rattle.oss_deps.proofs.LevelLemmas.{zero_or}

-- An access of a task in the list that is given up.
pub record IsGivenAt (frames : List Frame) (marks : List Mark) (t : ℕ) : Type 0 where
  pub place : ℕ
  pub frame : Frame
  pub mark : Mark
  pub frame_is : slice_get frames place ≡ Some frame
  pub mark_is : slice_get marks place ≡ Some mark
  pub task : frame.task ≡ t
  pub given : mark.given ≡ true

pub given_found : (frames : List Frame) (marks : List Mark) (t : ℕ) → given_by frames marks t ≡ true → IsGivenAt frames marks t
given_found [] marks t h = absurd cc
given_found (f ∷ frames) [] t h = absurd cc
given_found (f ∷ frames) (m ∷ marks) t h = go (or_cases ((f.task == t) && m.given) (given_by frames marks t) h) (given_found frames marks t)
  where
    go : (((f.task == t) && m.given) ≡ true) ⊎ (given_by frames marks t ≡ true) → (given_by frames marks t ≡ true → IsGivenAt frames marks t) → IsGivenAt (f ∷ frames) (m ∷ marks) t
    go (inl e) again = let k = both (f.task == t) m.given e in record { place = 0; frame = f; mark = m; frame_is = refl; mark_is = refl; task = eqb-true f.task t k.0; given = k.1 }
    go (inr e) again = let k = again e in record { place = suc k.place; frame = k.frame; mark = k.mark; frame_is = k.frame_is; mark_is = k.mark_is; task = k.task; given = k.given }

pub given_told : (frames : List Frame) (marks : List Mark) (t k : ℕ) (f : Frame) (m : Mark) → slice_get frames k ≡ Some f → slice_get marks k ≡ Some m → f.task ≡ t → m.given ≡ true → given_by frames marks t ≡ true
given_told [] marks t k f m e g h i = absurd cc
given_told (x ∷ frames) [] t k f m e g h i = absurd cc
given_told (x ∷ frames) (y ∷ marks) t zero f m e g h i =
    let a = some_is e in let b = some_is g in
    or_left ((x.task == t) && y.given) (given_by frames marks t) (both_of (x.task == t) y.given (eq-eqb x.task t (ap (λ (z : Frame). z.task) a ∙ h)) (ap (λ (z : Mark). z.given) b ∙ i))
given_told (x ∷ frames) (y ∷ marks) t (suc k) f m e g h i = or_right ((x.task == t) && y.given) (given_by frames marks t) (given_told frames marks t k f m e g h i)

given_some : (o : Option Mark) → given_mark o ≡ true → (m : Mark) × (o ≡ Some m) × (m.given ≡ true)
given_some None e = absurd cc
given_some (Some m) e = (m, refl, e)

-- The access at the place is that of the task.
pub record IsNode (frames : List Frame) (k v : ℕ) : Type 0 where
  pub not_main : k ≡ 0 → ⊥
  pub frame : Frame
  pub is : slice_get frames k ≡ Some frame
  pub task : frame.task ≡ v

module _ (opens : List Open) (c : ℕ) (frames : List Frame) (are : AreOpens opens) (linked : AreLinked frames) (shown : AreShown opens c frames) where
  abbrev pub R : ℕ → ℕ → Type 0
  R = IsNode frames

  abbrev pub frame_of : (k v : ℕ) (r : R k v) → IsFrameOf opens c frames r.frame
  frame_of k v r = shown.frame k r.frame r.is r.not_main

  pub listed : (k v : ℕ) (r : R k v) → IsIn (frame_of k v r).entry opens
  listed k v r = let n = (frame_of k v r).is in get_in opens n.0 (frame_of k v r).entry n.2

  abbrev pub opened : (k v : ℕ) → R k v → HasOpened opens c v
  opened k v r = let f = frame_of k v r in record { entry = f.entry; listed = listed k v r; number = f.task ∙ r.task; named = f.named }

  entry_same : (k v : ℕ) (r : R k v) (o : Open) → IsIn o opens → o.task ≡ v → o ≡ (frame_of k v r).entry
  entry_same k v r o i e = one_entry are.ordered o (frame_of k v r).entry i (listed k v r) (e ∙ sym r.task ∙ sym (frame_of k v r).task)

  task_some : (k v : ℕ) → R k v → v ≡ 0 → ⊥
  task_some k v r e = not_main are.ordered (frame_of k v r).entry (listed k v r) ((frame_of k v r).task ∙ r.task ∙ e)

  -- an entry that names the cell stands at a place
  pub placed : (v : ℕ) → HasOpened opens c v → (k : ℕ) × R k v
  placed v h =
      let i = in_get opens h.listed in
      let s = shown.all h.entry (i.0 + 1) (i.0, refl, i.1) h.named in
      let f = shown.frame s.place s.frame s.is s.not_main in
      let same : f.is.0 ≡ i.0 = omega (arith, f.is.1, s.number) in
      let entry : f.entry ≡ h.entry = same_at f.is.2 (subst (λ (j : ℕ). slice_get opens j ≡ Some h.entry) (sym same) i.1) in
      (s.place, record { not_main = s.not_main; frame = s.frame; is = s.is; task = sym f.task ∙ ap (λ (o : Open). o.task) entry ∙ h.number })

  number_order : (k l v w : ℕ) (r : R k v) (s : R l w) → k < l → Precedes (frame_of k v r).entry (frame_of l w s).entry opens
  number_order k l v w r s h =
      let a = (frame_of k v r).is in let b = (frame_of l w s).is in
      in_order opens a.0 b.0 (frame_of k v r).entry (frame_of l w s).entry a.2 b.2 (omega (arith, linked.rising k l r.frame s.frame r.is s.is h, a.1, b.1))

  pub one_node : (k l v : ℕ) → R k v → R l v → k ≡ l
  one_node k l v r s = go (compared k l)
    where
      go : (k < l) ⊎ ((k ≡ l) ⊎ (l < k)) → k ≡ l
      go (inl h) = absurd (apart are.ordered (frame_of k v r).entry (frame_of l v s).entry (number_order k l v v r s h) ((frame_of k v r).task ∙ r.task ∙ sym s.task ∙ sym (frame_of l v s).task))
      go (inr (inl h)) = h
      go (inr (inr h)) = absurd (apart are.ordered (frame_of l v s).entry (frame_of k v r).entry (number_order l k v v s r h) ((frame_of l v s).task ∙ s.task ∙ sym r.task ∙ sym (frame_of k v r).task))

  pub task_node : (k t : ℕ) → IsTaskAt frames k t → (k ≡ 0 → ⊥) → R k t
  task_node k t a n = let f = a.1 n in record { not_main = n; frame = f.0; is = f.1; task = f.2 }

  pub one_task : (k s t : ℕ) → IsTaskAt frames k s → IsTaskAt frames k t → s ≡ t
  one_task k s t a b = go (zero_or k)
    where
      go : (k ≡ 0) ⊎ (k ≡ 0 → ⊥) → s ≡ t
      go (inl z) = a.0 z ∙ sym (b.0 z)
      go (inr n) = let x = a.1 n in let y = b.1 n in sym x.2 ∙ ap (λ (f : Frame). f.task) (same_at x.1 y.1) ∙ y.2

  pub one_up : (k l t : ℕ) → IsTaskAt frames k t → IsTaskAt frames l t → k ≡ l
  one_up k l t a b = go (zero_or k) (zero_or l)
    where
      go : (k ≡ 0) ⊎ (k ≡ 0 → ⊥) → (l ≡ 0) ⊎ (l ≡ 0 → ⊥) → k ≡ l
      go (inl z) (inl y) = z ∙ sym y
      go (inl z) (inr n) = absurd (task_some l t (task_node l t b n) (a.0 z))
      go (inr n) (inl y) = absurd (task_some k t (task_node k t a n) (b.0 y))
      go (inr n) (inr m) = one_node k l t (task_node k t a n) (task_node l t b m)

  frame_up : (k l v : ℕ) (r : R l v) → IsBelow frames k l → r.frame.up ≡ k
  frame_up k l v r b = ap (λ (f : Frame). f.up) (same_at r.is b.is) ∙ b.up_is

  at_parent : (k l v : ℕ) (r : R l v) → IsBelow frames k l → IsTaskAt frames k (frame_of l v r).entry.parent
  at_parent k l v r b = subst (λ (j : ℕ). IsTaskAt frames j (frame_of l v r).entry.parent) (frame_up k l v r b) (frame_of l v r).parent

  below_of : (l v : ℕ) (r : R l v) → IsBelow frames r.frame.up l
  below_of l v r = record { frame = r.frame; is = r.is; not_main = r.not_main; up_is = refl }

  top_forth : (k v : ℕ) → R k v → IsBelow frames 0 k → IsTop opens c v
  top_forth k v r b = record { opened = opened k v r; parent = (at_parent 0 k v r b).0 refl }

  top_back : (k v : ℕ) → R k v → IsTop opens c v → IsBelow frames 0 k
  top_back k v r t =
      let same = entry_same k v r t.opened.entry t.opened.listed t.opened.number in
      let parent : (frame_of k v r).entry.parent ≡ 0 = ap (λ (o : Open). o.parent) (sym same) ∙ t.parent in
      let up : r.frame.up ≡ 0 = one_up r.frame.up 0 0 (subst (λ (p : ℕ). IsTaskAt frames r.frame.up p) parent (frame_of k v r).parent) (λ e. refl, λ n. absurd (n refl)) in
      subst (λ (j : ℕ). IsBelow frames j k) up (below_of k v r)

  child_forth : (k l v w : ℕ) → R k v → R l w → (k ≡ 0 → ⊥) × IsBelow frames k l → IsChild opens c v w
  child_forth k l v w r s b =
      let f = (at_parent k l w s b.1).1 b.0 in
      record { above = opened k v r; opened = opened l w s; parent = sym f.2 ∙ ap (λ (x : Frame). x.task) (same_at f.1 r.is) ∙ r.task }

  child_back : (k l v w : ℕ) → R k v → R l w → IsChild opens c v w → (k ≡ 0 → ⊥) × IsBelow frames k l
  child_back k l v w r s t =
      let same = entry_same l w s t.opened.entry t.opened.listed t.opened.number in
      let parent : (frame_of l w s).entry.parent ≡ v = ap (λ (o : Open). o.parent) (sym same) ∙ t.parent in
      let at_ : IsTaskAt frames s.frame.up v = subst (λ (p : ℕ). IsTaskAt frames s.frame.up p) parent (frame_of l w s).parent in
      let up : s.frame.up ≡ k = one_up s.frame.up k v at_ (λ z. absurd (r.not_main z), λ n. (r.frame, r.is, r.task)) in
      (r.not_main, subst (λ (j : ℕ). IsBelow frames j l) up (below_of l w s))

  earlier_forth : (k l v w : ℕ) → R k v → R l w → IsSibling frames k l → IsEarlier opens c v w
  earlier_forth k l v w r s b = record {
    before = (frame_of k v r).entry;
    after = (frame_of l w s).entry;
    order = number_order k l v w r s b.order;
    number = (frame_of k v r).task ∙ r.task;
    after_number = (frame_of l w s).task ∙ s.task;
    siblings = one_task b.creator (frame_of k v r).entry.parent (frame_of l w s).entry.parent (at_parent b.creator k v r b.before) (at_parent b.creator l w s b.after);
    named = (frame_of k v r).named;
  }

  earlier_back : (k l v w : ℕ) → R k v → R l w → IsEarlier opens c v w → IsSibling frames k l
  earlier_back k l v w r s t =
      record {
        creator = s.frame.up;
        before = subst (λ (j : ℕ). IsBelow frames j k) up (below_of k v r);
        after = below_of l w s;
        order = go (compared k l);
      }
    where
      one : t.before ≡ (frame_of k v r).entry
      one = entry_same k v r t.before (precedes_in t.order) t.number

      two : t.after ≡ (frame_of l w s).entry
      two = entry_same l w s t.after (precedes_in_last t.order) t.after_number

      parents : (frame_of k v r).entry.parent ≡ (frame_of l w s).entry.parent
      parents = ap (λ (o : Open). o.parent) (sym one) ∙ t.siblings ∙ ap (λ (o : Open). o.parent) two

      up : r.frame.up ≡ s.frame.up
      up = one_up r.frame.up s.frame.up (frame_of l w s).entry.parent (subst (λ (p : ℕ). IsTaskAt frames r.frame.up p) parents (frame_of k v r).parent) (frame_of l w s).parent

      order : Precedes (frame_of k v r).entry (frame_of l w s).entry opens
      order = subst (λ (o : Open). Precedes o (frame_of l w s).entry opens) one (subst (λ (o : Open). Precedes t.before o opens) two t.order)

      go : (k < l) ⊎ ((k ≡ l) ⊎ (l < k)) → k < l
      go (inl h) = h
      go (inr (inl h)) =
          let tasks : v ≡ w = sym r.task ∙ ap (λ (f : Frame). f.task) (same_at r.is (subst (λ (j : ℕ). slice_get frames j ≡ Some s.frame) (sym h) s.is)) ∙ s.task in
          absurd (apart are.ordered (frame_of k v r).entry (frame_of l w s).entry order ((frame_of k v r).task ∙ r.task ∙ tasks ∙ sym s.task ∙ sym (frame_of l w s).task))
      go (inr (inr h)) = absurd (asym are.ordered order (number_order l k w v s r h))

  pub mode_same : (k v : ℕ) → R k v → mode_at_place frames k ≡ mode_in opens c v
  mode_same k v r =
      let f = frame_of k v r in
      ap mode_of_frame r.is ∙ sym f.mode ∙ sym (mode_is c are.ordered f.entry (listed k v r)) ∙ ap (λ (t : ℕ). mode_in opens c t) (f.task ∙ r.task)

  -- the modes of the list are covered
  pub modes_covered : AreModesCovered frames
  modes_covered k f g is n up above_is =
      let e = shown.frame k f is n in
      let i = e.is in
      go e (are.covered c e.entry (get_in opens i.0 e.entry i.2) e.named)
    where
      go : (e : IsFrameOf opens c frames f) → (e.entry.parent ≡ 0) ⊎ HasCover opens c e.entry → covers g.mode f.mode ≡ true
      go e (inl z) = absurd (task_some f.up e.entry.parent (task_node f.up e.entry.parent e.parent up) z)
      go e (inr h) =
          let r = task_node f.up e.entry.parent e.parent up in
          let same = entry_same f.up e.entry.parent r h.above.entry h.above.listed h.above.number in
          let m : mode_at c h.above.entry ≡ g.mode = ap (λ (o : Open). mode_at c o) same ∙ (frame_of f.up e.entry.parent r).mode ∙ ap (λ (x : Frame). x.mode) (same_at r.is above_is) in
          ap (λ (x : Mode). covers x f.mode) (sym m) ∙ ap (λ (x : Mode). covers (mode_at c h.above.entry) x) (sym e.mode) ∙ h.covered

  module _ (given : ℕ → ℕ → Bool) (marks : List Mark) (marked : AreMarked frames marks None) (agrees : (t : ℕ) → given t c ≡ given_by frames marks t) where
    given_forth : (k v : ℕ) → R k v → given_mark (slice_get marks k) ≡ true → given v c ≡ true
    given_forth k v r e = let m = given_some (slice_get marks k) e in agrees v ∙ given_told frames marks v k r.frame m.0 r.is m.1 r.task m.2

    given_back : (k v : ℕ) → R k v → given v c ≡ true → given_mark (slice_get marks k) ≡ true
    given_back k v r e =
        let g = given_found frames marks v (sym (agrees v) ∙ e) in
        let not_first : g.place ≡ 0 → ⊥ = λ z. let h : true ≡ false = sym g.given ∙ marked.main g.mark (subst (λ (j : ℕ). slice_get marks j ≡ Some g.mark) z g.mark_is) in absurd cc in
        let same = one_node g.place k v (record { not_main = not_first; frame = g.frame; is = g.frame_is; task = g.task }) r in
        ap given_mark (subst (λ (j : ℕ). slice_get marks j ≡ Some g.mark) same g.mark_is) ∙ g.given

    forth : (k x v : ℕ) → R k v → IsNear (place_forest frames marks) k x → (y : ℕ) × R x y
    forth k x v r (above (n, b)) =
        let l : x < length frames = omega (arith, linked.above k b.frame b.is b.not_main, b.up_is, slice_get_within frames k b.frame b.is) in
        let f = value_within frames x l in
        (f.0.task, record { not_main = n; frame = f.0; is = f.1; task = refl })
    forth k x v r (below (n, b)) = (b.frame.task, record { not_main = b.not_main; frame = b.frame; is = b.is; task = refl })
    forth k x v r (before s) = (s.before.frame.task, record { not_main = s.before.not_main; frame = s.before.frame; is = s.before.is; task = refl })

    back : (k v y : ℕ) → R k v → IsNear (opened_forest opens given c) v y → (x : ℕ) × R x y
    back k v y r (above t) = placed y t.above
    back k v y r (below t) = placed y t.opened
    back k v y r (before t) = placed y (record { entry = t.before; listed = precedes_in t.order; number = t.number; named = t.named })

    pub matching : Matches (place_forest frames marks) (opened_forest opens given c) R
    matching = record {
      top = λ k v r. (top_forth k v r, top_back k v r);
      child = λ k l v w r s. (child_forth k l v w r s, child_back k l v w r s);
      earlier = λ k l v w r s. (earlier_forth k l v w r s, earlier_back k l v w r s);
      mode = λ k v r. mode_same k v r;
      given = λ k v r. (given_forth k v r, given_back k v r);
      forth = λ k x v r n. forth k x v r n;
      back = λ k v y r n. back k v y r n;
    }

    pub flags : (k v : ℕ) → R k v → HaveSameFlags (place_forest frames marks) (opened_forest opens given c) k v
    flags k v r = same_flags (place_forest frames marks) (opened_forest opens given c) R matching k v r

    pub satisfied_same : (want : Want) (k v : ℕ) → R k v → IsSatisfied (place_forest frames marks) want k ↔ IsSatisfied (opened_forest opens given c) want v
    satisfied_same ToWrite k v r = (flags k v r).write
    satisfied_same ToRead k v r = (flags k v r).read
    satisfied_same (ToJoin op) k v r = (flags k v r).join op
