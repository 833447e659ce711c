-- A delivery keeps the flow.
use Rattle.std.proofs.Common.{◌≡◌, ◌≢◌, ◌⊎◌, inl, inr, sym, subst, refl, ◌∙◌, ap, ℕ, ◌<◌, ◌+◌, arith, true, ◌&&◌, List, [], ◌∷◌, ◌++◌, set}
use mathlib.Core.Option as maybe
use lib.ListN.{get_elem?}
use Rattle.oss_words.specs.declared.message.Message.{Message}
use Rattle.oss_words.specs.declared.entry.EntryState.{EntryState}
use Rattle.oss_words.specs.declared.entry.EntryInfo.{EntryInfo}
use Rattle.oss_words.specs.Sums.{total, below}
use Rattle.oss_words.specs.Net.{Net}
use Rattle.oss_words.specs.Causes.{due, sent, got, has_sibling, is_last, Due, due_reads, due_writes, due_folds, due_clear, due_done, due_first_reads, due_first_writes, due_first_folds, due_join, Sets, sets_done, sets_folds, sets_reads, sets_writes, sets_clear}
use Rattle.oss_words.specs.Members.{Has, head, tail, only}
use Rattle.atomic_table.proofs.Lists.{at_set}
use Rattle.oss_words.specs.Room.{Fits, Room, Left, Sends}
use Rattle.oss_words.specs.Views.{View}
use Rattle.oss_words.specs.Flow.{Counted, Wired, Words, Half, Holding, message, pending, Flow}
use Rattle.oss_words.specs.Steps.{Delivers}
use Rattle.oss_words.proofs.SumLemmas.{total_append, total_set, below_change, same_number}
use Rattle.oss_words.proofs.CauseLemmas.{and_true, has_append, has_left, has_right, total_has, has_total, sent_is, only_is}
use Rattle.oss_words.proofs.CountLemmas.{held_due, held_once}
use Rattle.oss_words.proofs.StepLemmas.{sent_law, sets_grows, sets_sends, got_law}
use Rattle.oss_words.proofs.RoomLemmas.{room_after}
use Rattle.oss_words.proofs.DeliverLemmas.{target_in, target_hangs, may_come, alone, opened}

-- what a delivery leaves in a word
pub record SameLinks (a c : EntryState) : Type 0 where
  pub linked : c.linked ≡ a.linked
  pub next : c.next ≡ a.next
  pub headed : c.headed ≡ a.headed
  pub child : c.child ≡ a.child
  pub left : c.left ≡ a.left
  pub given : c.given ≡ a.given

sets_same : (f : ℕ) (a c : EntryState) → Sets a c f → SameLinks a c
sets_same f a c (sets_done o q) = record { linked = ap (λ (z : EntryState). z.linked) q; next = ap (λ (z : EntryState). z.next) q; headed = ap (λ (z : EntryState). z.headed) q; child = ap (λ (z : EntryState). z.child) q; left = ap (λ (z : EntryState). z.left) q; given = ap (λ (z : EntryState). z.given) q }
sets_same f a c (sets_folds o q) = record { linked = ap (λ (z : EntryState). z.linked) q; next = ap (λ (z : EntryState). z.next) q; headed = ap (λ (z : EntryState). z.headed) q; child = ap (λ (z : EntryState). z.child) q; left = ap (λ (z : EntryState). z.left) q; given = ap (λ (z : EntryState). z.given) q }
sets_same f a c (sets_reads o q) = record { linked = ap (λ (z : EntryState). z.linked) q; next = ap (λ (z : EntryState). z.next) q; headed = ap (λ (z : EntryState). z.headed) q; child = ap (λ (z : EntryState). z.child) q; left = ap (λ (z : EntryState). z.left) q; given = ap (λ (z : EntryState). z.given) q }
sets_same f a c (sets_writes o q) = record { linked = ap (λ (z : EntryState). z.linked) q; next = ap (λ (z : EntryState). z.next) q; headed = ap (λ (z : EntryState). z.headed) q; child = ap (λ (z : EntryState). z.child) q; left = ap (λ (z : EntryState). z.left) q; given = ap (λ (z : EntryState). z.given) q }
sets_same f a c (sets_clear o q) = record { linked = ap (λ (z : EntryState). z.linked) q; next = ap (λ (z : EntryState). z.next) q; headed = ap (λ (z : EntryState). z.headed) q; child = ap (λ (z : EntryState). z.child) q; left = ap (λ (z : EntryState). z.left) q; given = ap (λ (z : EntryState). z.given) q }

sibling_same : (a c : EntryState) (i : EntryInfo) → SameLinks a c → has_sibling c i ≡ has_sibling a i
sibling_same a c i s = let l = s.linked in let x = s.next in cc

last_same : (a c : EntryState) (i : EntryInfo) → SameLinks a c → is_last c i ≡ is_last a i
last_same a c i s = let l = s.linked in let x = s.next in cc

pub wired_same : (net : Net) (e : ℕ) (a c : EntryState) (i : EntryInfo) → SameLinks a c → Wired net e a i → Wired net e c i
wired_same net e a c i s w = record {
  sibling = λ b. ap (λ x. net.place x) s.next ∙ w.sibling (sym (sibling_same a c i s) ∙ b);
  rising = λ b. w.rising (sym (last_same a c i s) ∙ b);
  child = λ b. ap (λ x. net.place x) s.child ∙ w.child (sym s.headed ∙ b);
  leaving = λ b. w.leaving (sym s.left ∙ b);
}

pub has_same : (a b : Message) (xs : List Message) → a.entry ≡ b.entry → a.flag ≡ b.flag → Has b xs → Has a xs
has_same a b [] e f h = elim h [ ]
has_same a b (x ∷ xs) e f (head p q) = head (p ∙ sym e) (q ∙ sym f)
has_same a b (x ∷ xs) e f (tail h) = tail (has_same a b xs e f h)

pub half_same : (n : ℕ) (net : Net) (states states' : ℕ → EntryState) (infos : ℕ → EntryInfo) (x : ℕ) (y : View) → (states' x).given ≡ (states x).given → (states' x).headed ≡ (states x).headed → (states' (net.last x)).linked ≡ (states (net.last x)).linked → Half n net states infos x y → Half n net states' infos x y
half_same n net states states' infos x y g k l h = record {
  inside = h.inside;
  inside_last = h.inside_last;
  given = g ∙ h.given;
  headed = k ∙ h.headed;
  unlinked = l ∙ h.unlinked;
  child = h.child;
  told = h.told;
  hangs = h.hangs;
  hangs_last = h.hangs_last;
  late = h.late;
}

-- after a step of a seat that holds no half of what another one holds
pub sole_step : (n : ℕ) (net : Net) (states : ℕ → EntryState) (infos : ℕ → EntryInfo) (views : List View) → Words n net states infos views → (id : ℕ) (w : View)
    → ((x : ℕ) (xs : List ℕ) → w.half ≡ x ∷ xs → (j : ℕ) (y : View) → j ≢ id → get_elem? views j ≡ maybe.some y → (ys : List ℕ) → y.half ≡ x ∷ ys → ⊥)
    → (i j : ℕ) (y z : View) → get_elem? (set views id w) i ≡ maybe.some y → get_elem? (set views id w) j ≡ maybe.some z → (x : ℕ) (xs zs : List ℕ) → y.half ≡ x ∷ xs → z.half ≡ x ∷ zs → i ≡ j
sole_step n net states infos views r id w other i j y z a b x xs zs hy hz =
    elim (at_set views id i w y a) [
      | inl p ↦ elim (at_set views id j w z b) [
        | inl q ↦ p.0 ∙ sym q.0
        | inr q ↦ absurd (other x xs (ap (λ (k : View). k.half) p.1 ∙ hy) j z q.0 q.1 zs hz)
      ]
      | inr p ↦ elim (at_set views id j w z b) [
        | inl q ↦ absurd (other x zs (ap (λ (k : View). k.half) q.1 ∙ hz) i y p.0 p.1 xs hy)
        | inr q ↦ r.sole i j y z p.1 q.1 x xs zs hy hz
      ]
    ]

-- what the seat holds after a step fits together
module _ (n : ℕ) (net : Net) (states : ℕ → EntryState) (infos : ℕ → EntryInfo) (views : List View) (words : Words n net states infos views) (id : ℕ) (w : View) (here : get_elem? views id ≡ maybe.some w)
    (rest fresh : List Message) (held : w.held ≡ rest ++ fresh) (whole : w.half ≡ []) (t c : ℕ) (low : 0 < net.depth t) where
  now : (a : Message) → Has a rest ⊎ Has a fresh → Has a w.held
  now a h = subst (λ (z : List Message). Has a z) (sym held) (elim h [ inl k ↦ has_left a rest fresh k | inr k ↦ has_right a rest fresh k ])

  apart_from : (a b : Message) → Has a fresh → Has b rest → a.entry ≡ b.entry → a.flag ≡ b.flag → ⊥
  apart_from a b ha hb e f =
      let o = held_once n net states infos views words id w here a in
      let x = has_total a fresh ha in
      let y = has_total a rest (has_same a b rest e f hb) in
      let p : total (only a) w.held ≡ total (only a) rest + total (only a) fresh = ap (λ z. total (only a) z) held ∙ total_append (only a) rest fresh in
      omega (arith, o, x, y, p)

  split : (a : Message) → Holding w a → Has a rest ⊎ Has a fresh
  split a (message h) = has_append a rest fresh (subst (λ (z : List Message). Has a z) held h)
  split a (pending xs h k) = let z : [] ≡ a.entry ∷ xs = sym whole ∙ h in absurd (cc)

  pub room_step : ((a b : Message) → Has a rest → Has b rest → Fits net a b) → ((b : Message) → Has b rest → Left net t c b) → ((a : Message) → Has a fresh → Sends net t c a) → Room net (Holding w)
  room_step room left sends a b ha hb =
      room_after net words.shaped t c low (λ x. Has x rest) (λ x. Has x fresh) room left sends
      (λ x y hx hy. record {
        alone = λ big f l. apart_from x y hx hy (alone n net states infos views words id w here x y (now x (inr hx)) (now y (inl hy)) big f l) f;
        opened = λ f g e. opened n net states infos views words id w here x y (now x (inr hx)) (message (now y (inl hy))) f g e;
      })
      a b (split a ha) (split b hb)

-- the flow, from the words and the room of the seat
pub flow_step : (n : ℕ) (net : Net) (states states' : ℕ → EntryState) (infos : ℕ → EntryInfo) (views : List View) (id : ℕ) (w : View) → Flow n net states infos views → Words n net states' infos (set views id w)
    → (get_elem? (set views id w) id ≡ maybe.some w → Room net (Holding w)) → Flow n net states' infos (set views id w)
flow_step n net states states' infos views id w flow words room = record {
  words = words;
  room = λ j y a. elim (at_set views id j w y a) [
    | inl q ↦ subst (λ (z : View). Room net (Holding z)) q.1 (room (subst (λ (i : ℕ). get_elem? (set views id w) i ≡ maybe.some w) q.0 (a ∙ ap (λ (z : View). maybe.some z) (sym q.1))))
    | inr q ↦ flow.room j y q.1
  ];
}

module _ (n : ℕ) (net : Net) (states states' : ℕ → EntryState) (infos : ℕ → EntryInfo) (views : List View) (m : Message) (rest : List Message) (id : ℕ) (v w : View)
    (flow : Flow n net states infos views) (at : get_elem? views id ≡ maybe.some v) (d : Delivers net states states' infos m rest v w) where
  r : Words n net states infos views
  r = flow.words

  abbrev fresh : List Message
  fresh = sent m.entry (states m.entry) (states' m.entry) (infos m.entry)

  pub taken : Has m v.held
  taken = let t = d.took (only m) in let o = only_is m m refl refl in total_has m v.held (omega (arith, t, o))

  kept : (b : Message) → Has b rest → Has b v.held
  kept b h = let t = d.took (only b) in let o = has_total b rest h in total_has b v.held (omega (arith, t, o))

  cause : (e : ℕ) × (e < n) × Due e (states e) (infos e) m
  cause = held_due n net states infos views r id v at m taken

  inside : m.entry < n
  inside = target_in n net states infos views r cause.0 cause.1 m cause.2

  links : (e : ℕ) → SameLinks (states e) (states' e)
  links e = elim (same_number e m.entry) [
    | inl q ↦ subst (λ (x : ℕ). SameLinks (states x) (states' x)) (sym q) (sets_same m.flag (states m.entry) (states' m.entry) d.sets)
    | inr ne ↦ let q = d.others e ne in record { linked = ap (λ (z : EntryState). z.linked) q; next = ap (λ (z : EntryState). z.next) q; headed = ap (λ (z : EntryState). z.headed) q; child = ap (λ (z : EntryState). z.child) q; left = ap (λ (z : EntryState). z.left) q; given = ap (λ (z : EntryState). z.given) q }
  ]

  -- done comes only to an entry that is given up
  finished_here : Sets (states m.entry) (states' m.entry) m.flag → Due cause.0 (states cause.0) (infos cause.0) m → (states' m.entry).done ≡ true → (states m.entry).given ≡ true
  finished_here k u b = go (states m.entry) (states' m.entry) m.flag refl k (r.finished m.entry inside) b (from u)
    where
      from : Due cause.0 (states cause.0) (infos cause.0) m → m.flag ≡ 1 → (states m.entry).given ≡ true
      from (due_done b y f) z = subst (λ (x : ℕ). (states x).given ≡ true) y (r.parents cause.0 cause.1 (and_true (is_last (states cause.0) (infos cause.0)) ((states cause.0).clear && ((states cause.0).given && (states cause.0).done)) b).0).2
      from (due_reads b y f) z = absurd (omega (arith, f, z))
      from (due_writes b y f) z = absurd (omega (arith, f, z))
      from (due_folds b y f) z = absurd (omega (arith, f, z))
      from (due_clear b y f) z = absurd (omega (arith, f, z))
      from (due_first_reads b y f) z = absurd (omega (arith, f, z))
      from (due_first_writes b y f) z = absurd (omega (arith, f, z))
      from (due_first_folds b y f) z = absurd (omega (arith, f, z))
      from (due_join b y f) z = absurd (omega (arith, f, z))

      go : (a c : EntryState) (f : ℕ) → m.flag ≡ f → Sets a c f → (a.done ≡ true → a.given ≡ true) → c.done ≡ true → (m.flag ≡ 1 → a.given ≡ true) → a.given ≡ true
      go a c f e (sets_done o q) old b from = from e
      go a c f e (sets_folds o q) old b from = old (ap (λ (z : EntryState). z.done) (sym q) ∙ b)
      go a c f e (sets_reads o q) old b from = old (ap (λ (z : EntryState). z.done) (sym q) ∙ b)
      go a c f e (sets_writes o q) old b from = old (ap (λ (z : EntryState). z.done) (sym q) ∙ b)
      go a c f e (sets_clear o q) old b from = old (ap (λ (z : EntryState). z.done) (sym q) ∙ b)

  counted : Counted n net.place states' infos (set views id w)
  counted h =
      let c = r.count h in
      let g = below_change (λ e. total h (got (net.place e) e (states' e))) (λ e. total h (got (net.place e) e (states e))) n m.entry inside (λ j ne. ap (λ (z : EntryState). total h (got (net.place j) j z)) (d.others j ne)) in
      let u = below_change (λ e. total h (due e (states' e) (infos e))) (λ e. total h (due e (states e) (infos e))) n m.entry inside (λ j ne. ap (λ (z : EntryState). total h (due j z (infos j))) (d.others j ne)) in
      let x = total_set (λ (y : View). total h y.held) views id v w at in
      let l = got_law h (net.place m.entry) m.entry m.flag (states m.entry) (states' m.entry) d.sets (may_come n net states infos views r cause.0 cause.1 m cause.2) in
      let s = sent_law h m.entry (states m.entry) (states' m.entry) (infos m.entry) (sets_grows m.entry m.flag (states m.entry) (states' m.entry) (infos m.entry) d.sets) in
      let k = d.took h in
      let p : total h w.held ≡ total h rest + total h fresh = ap (λ z. total h z) d.sends ∙ total_append h rest fresh in
      omega (arith, c, g, u, x, l, s, k, p)

  words : Words n net states' infos (set views id w)
  words = record {
    shaped = r.shaped;
    wired = λ e l. wired_same net e (states e) (states' e) (infos e) (links e) (r.wired e l);
    parents = λ e l b. let p = r.parents e l (sym (last_same (states e) (states' e) (infos e) (links e)) ∙ b) in (p.0, (links (infos e).parent).headed ∙ p.1, (links (infos e).parent).given ∙ p.2);
    nexts = λ e l b. let p = r.nexts e l (sym (sibling_same (states e) (states' e) (infos e) (links e)) ∙ b) in let q = (links e).next in omega (arith, p, q);
    firsts = λ e l b. let p = r.firsts e l (sym (links e).headed ∙ b) in let q = (links e).child in omega (arith, p, q);
    hung_next = λ x j p. let k = r.hung_next x j p in (k.0, (links x).linked ∙ k.1);
    hung_first = λ x j p. let k = r.hung_first x j p in (k.0, (links x).headed ∙ k.1);
    told = r.told;
    inside = r.inside;
    finished = λ e l b. elim (same_number e m.entry) [
      | inl q ↦ (links e).given ∙ subst (λ (x : ℕ). (states x).given ≡ true) (sym q) (finished_here d.sets cause.2 (subst (λ (x : ℕ). (states' x).done ≡ true) q b))
      | inr ne ↦ (links e).given ∙ r.finished e l (ap (λ (z : EntryState). z.done) (sym (d.others e ne)) ∙ b)
    ];
    count = counted;
    halves = λ j y a x xs h. elim (at_set views id j w y a) [
      | inl q ↦ let z : [] ≡ x ∷ xs = sym d.whole ∙ ap (λ (k : View). k.half) q.1 ∙ h in absurd (cc)
      | inr q ↦ half_same n net states states' infos x y (links x).given (links x).headed (links (net.last x)).linked (r.halves j y q.1 x xs h)
    ];
    sole = sole_step n net states infos views r id w (λ x xs h. let z : [] ≡ x ∷ xs = sym d.whole ∙ h in absurd (cc));
  }

  hangs : 0 < net.depth m.entry
  hangs = r.shaped.hangs m.entry (target_hangs n net states infos views r cause.0 cause.1 m cause.2)

  -- what came grows by the message that was delivered
  pub came_one : (h : Message → ℕ) → below (λ e. total h (got (net.place e) e (states' e))) n ≡ below (λ e. total h (got (net.place e) e (states e))) n + h m
  came_one h =
      let g = below_change (λ e. total h (got (net.place e) e (states' e))) (λ e. total h (got (net.place e) e (states e))) n m.entry inside (λ j ne. ap (λ (z : EntryState). total h (got (net.place j) j z)) (d.others j ne)) in
      let l = got_law h (net.place m.entry) m.entry m.flag (states m.entry) (states' m.entry) d.sets (may_come n net states infos views r cause.0 cause.1 m cause.2) in
      omega (arith, g, l)

  -- The law of deliver: the flow is kept
  pub delivered : Flow n net states' infos (set views id w)
  delivered = flow_step n net states states' infos views id w flow words (λ here.
      room_step n net states' infos (set views id w) words id w here rest fresh d.sends d.whole m.entry m.flag hangs
      (λ x y hx hy. flow.room id v at x y (message (kept x hx)) (message (kept y hy)))
      (λ x hx. record { from = flow.room id v at m x (message taken) (message (kept x hx)); to = flow.room id v at x m (message (kept x hx)) (message taken); late = d.first x hx })
      (λ x hx. sets_sends net m.entry m.flag (states m.entry) (states' m.entry) (infos m.entry) x (r.wired m.entry inside) d.sets (sent_is m.entry (states m.entry) (states' m.entry) (infos m.entry) x hx)))
