-- What the tests keep of a seat: links of a row, deliveries, gives one after the other, and seats that are split off and come back.
use Rattle.std.proofs.Common.{◌≡◌, ◌⊎◌, inl, inr, sym, subst, refl, ◌∙◌, ap, ℕ, zero, suc, ◌<◌, ◌≤◌, ◌+◌, arith, Bool, true, false, cond, List, [], ◌∷◌, ◌++◌}
use Rattle.oss_words.specs.declared.entry.EntryInfo.{EntryInfo}
use Rattle.oss_words.specs.declared.entry.After.{After}
use Rattle.oss_words.specs.declared.entry.After.TheVariants.{FirstOf, FirstOfMain, Sibling}
use Rattle.oss_words.specs.Net.{Place, top, first, after}
use Rattle.oss_words.specs.SeatSteps.{numbers}
use Rattle.oss_words.specs.Views.{Hung, Among, among_first, among_later}
use Rattle.oss_words.proofs.SeatLemmas.{among_none, among_left, among_right}
use Rattle.oss_word_net.specs.Calls.{Carries, MayHang, MayStand, MayRelease, place_of, Hung as Linked, Released, Delivered}
use Rattle.oss_word_net.specs.Known.{Known, Kin, eldest, younger, first_known}
use Rattle.oss_word_net.specs.Moves.{drew, looked, keeping, handed, left_over, is_in}
use Rattle.oss_word_net.specs.Rows.{spot, chain, info_above, info_below, Row, Keeps, ToGive, Spans, Parted}
use Rattle.oss_word_net.specs.Standing.{Standing}
use Rattle.atomic_table.specs.Seated.{TableId}
use Rattle.oss_word_net.proofs.SeatLemmas.{in_among}
use Rattle.oss_words.proofs.SeatLemmas.{among_append}

-- deliveries
pub keeps_none : (a : Known) → Keeps a a
keeps_none a = record { carries = record { entries = refl; owned = refl; parts = refl; splits = refl; failed = refl; told = λ t h. h; seen = λ s h. h }; links = refl; gives = refl }

pub carries_both : (a b c : Known) → Carries a b → Carries b c → Carries a c
carries_both a b c x y = record {
  entries = y.entries ∙ x.entries;
  owned = y.owned ∙ x.owned;
  parts = y.parts ∙ x.parts;
  splits = y.splits ∙ x.splits;
  failed = y.failed ∙ x.failed;
  told = λ t h. y.told t (x.told t h);
  seen = λ s h. y.seen s (x.seen s h);
}

pub keeps_more : (a b c : Known) → Keeps a b → Delivered b c → Keeps a c
keeps_more a b c x d = record { carries = carries_both a b c x.carries d.carries; links = d.links ∙ x.links; gives = d.gives ∙ x.gives }

-- the links of a row
chain_inside : (t n e : ℕ) (p : Place) → Among (record { entry = e; place = p }) (chain t n) → (t ≤ e) × (e ≤ t + n)
chain_inside t zero e p m = elim m [
  | among_first q ↦ let r = ap (λ (h : Hung). h.entry) q in (omega (arith, r), omega (arith, r))
  | among_later k ↦ among_none (record { entry = e; place = p }) k
]
chain_inside t (suc n) e p m = elim m [
  | among_first q ↦ let r = ap (λ (h : Hung). h.entry) q in (omega (arith, r), omega (arith, r))
  | among_later k ↦ let r = chain_inside t n e p k in (r.0, (let l = r.1 in omega (arith, l)))
]

after_is : (t n x : ℕ) → spot t n ≡ after x → x ≡ t + n
after_is t zero x q = absurd (cc)
after_is t (suc n) x q = cc

chain_after : (t n d x : ℕ) → Among (record { entry = d; place = after x }) (chain t n) → x < d
chain_after t zero d x m = elim m [
  | among_first q ↦ let r : top ≡ after x = ap (λ (h : Hung). h.place) q in absurd (cc)
  | among_later k ↦ among_none (record { entry = d; place = after x }) k
]
chain_after t (suc n) d x m = elim m [
  | among_first q ↦ let r = ap (λ (h : Hung). h.entry) q in let s = after_is t n x (ap (λ (h : Hung). h.place) q) in omega (arith, r, s)
  | among_later k ↦ chain_after t n d x k
]

chain_top : (t : ℕ) (d x : ℕ) → Among (record { entry = d; place = first x }) (chain t 0) → ⊥
chain_top t d x m = elim m [
  | among_first q ↦ let r : top ≡ first x = ap (λ (h : Hung). h.place) q in absurd (cc)
  | among_later k ↦ among_none (record { entry = d; place = first x }) k
]

kin_later : (t : ℕ) (h : Hung) (links : List Hung) (e : ℕ) → Kin links t e → Kin (h ∷ links) t e
kin_later t h links e (eldest m) = eldest (among_later m)
kin_later t h links e (younger j m) = younger (kin_later t h links _ j) (among_later m)

chain_kin : (t n : ℕ) → Kin (chain t (suc n)) t (t + suc n)
chain_kin t zero = eldest (among_first refl)
chain_kin t (suc n) = younger (kin_later t _ (chain t (suc n)) (t + suc n) (chain_kin t n)) (among_first refl)

pub chain_has : (t n k : ℕ) → k ≤ n → (p : Place) × Among (record { entry = t + k; place = p }) (chain t n)
chain_has t zero k h = (top, among_first (let q : 0 ≡ k = omega (arith, h) in ap (λ (z : ℕ). record { entry = t + z; place = top }) q))
chain_has t (suc n) k h = elim (last_or k n h) [
  | inl q ↦ (spot t n, among_first (ap (λ (z : ℕ). record { entry = t + z; place = spot t n }) (sym q)))
  | inr l ↦ let r = chain_has t n k l in (r.0, among_later r.1)
]
  where
    last_or : (k n : ℕ) → k ≤ suc n → (k ≡ suc n) ⊎ (k ≤ n)
    last_or k n h = grind (arith, h)

number_among : (a k e : ℕ) → a ≤ e → e < a + k → Among e (numbers a k)
number_among a zero e l h = absurd (omega (arith, l, h))
number_among a (suc k) e l h = elim (first_or a e l) [
  | inl q ↦ among_first q
  | inr m ↦ among_later (number_among (suc a) k e (omega (arith, m)) (omega (arith, h)))
]
  where
    first_or : (a e : ℕ) → a ≤ e → (a ≡ e) ⊎ (a < e)
    first_or a e l = grind (arith, l)

-- the access above
module _ (k : Known) (t m n : ℕ) (main : 0 < t) (drawn : k ≡ drew (1 + m) t (first_known n)) where
  owned_is : k.view.owned ≡ numbers t (1 + m) ++ 0 ∷ []
  owned_is = ap (λ (z : Known). z.view.owned) drawn

  links_none : (e : ℕ) (p : Place) → Among (record { entry = e; place = p }) k.view.links → ⊥
  links_none e p h = among_none (record { entry = e; place = p }) (subst (λ (z : List Hung). Among (record { entry = e; place = p }) z) (ap (λ (z : Known). z.view.links) drawn) h)

  own_these : (e : ℕ) → t ≤ e → e ≤ t + m → Among e k.view.owned
  own_these e l h = subst (λ (z : List ℕ). Among e z) (sym owned_is) (among_left e (numbers t (1 + m)) (0 ∷ []) (number_among t (1 + m) e l (omega (arith, h))))

  gives_none : k.view.gives ≡ []
  gives_none = ap (λ (z : Known). z.view.gives) drawn

  own_main : Among 0 k.view.owned
  own_main = subst (λ (z : List ℕ). Among 0 z) (sym owned_is) (among_right 0 (numbers t (1 + m)) (0 ∷ []) (among_first refl))

  pub may_hang_first : (i : EntryInfo) → i.parent ≡ 0 → i.depth ≡ 1 → i.task < 16777216 → MayHang k t i FirstOfMain
  may_hang_first i parent depth task = record {
    empty = ap (λ (z : Known). z.view.held) drawn;
    own = own_these t (omega arith) (omega arith);
    unlinked = λ p h. links_none t p h;
    own_parent = subst (λ (z : ℕ). Among z k.view.owned) (sym parent) own_main;
    ungiven = λ h. among_none i.parent (subst (λ (z : List ℕ). Among i.parent z) gives_none h);
    above = omega (arith, parent, main);
    shallow = omega (arith, depth);
    task = task;
    covers = λ ne. absurd (ne parent);
    stands = (parent, depth);
  }

  pub may_begin : MayHang k t info_above FirstOfMain
  may_begin = may_hang_first info_above refl refl (omega arith)

  -- an entry that goes behind it in a list of main
  pub may_hang_second : (b : Known) (i j : EntryInfo) → i.parent ≡ 0 → i.depth ≡ 1 → j.parent ≡ 0 → j.depth ≡ 1 → j.task < 16777216 → 1 ≤ m → Linked k b t i FirstOfMain → MayHang b (t + 1) j (Sibling t)
  may_hang_second b i j over deep parent depth task some h = record {
    empty = h.sends;
    own = subst (λ (z : List ℕ). Among (t + 1) z) (sym h.carries.owned) (own_these (t + 1) (omega arith) (omega (arith, some)));
    unlinked = λ p x. elim (subst (λ (z : List Hung). Among (record { entry = t + 1; place = p }) z) h.links x) [
      | among_first q ↦ let r = ap (λ (z : Hung). z.entry) q in absurd (omega (arith, r))
      | among_later l ↦ links_none (t + 1) p l
    ];
    own_parent = subst (λ (z : ℕ). Among z b.view.owned) (sym parent) (subst (λ (z : List ℕ). Among 0 z) (sym h.carries.owned) own_main);
    ungiven = λ x. among_none j.parent (subst (λ (z : List ℕ). Among j.parent z) (h.gives ∙ gives_none) x);
    above = omega (arith, parent);
    shallow = omega (arith, depth);
    task = task;
    covers = λ ne. absurd (ne parent);
    stands = (
      i,
      h.told,
      over ∙ sym parent,
      deep ∙ sym depth,
      omega arith,
      (λ d x. elim (subst (λ (z : List Hung). Among (record { entry = d; place = after t }) z) h.links x) [
        | among_first q ↦ let r : top ≡ after t = ap (λ (z : Hung). z.place) q in absurd (cc)
        | among_later l ↦ links_none d (after t) l
      ]),
      (λ ne. absurd (ne parent)),
    );
  }

  pub may_give_first : (b c d : Known) (i j : EntryInfo) (e : ℕ) (a : After) → Linked k b t i FirstOfMain → Linked b c e j a → Keeps c d → d.view.held ≡ [] → MayRelease d t
  may_give_first b c d i j e a h l keeps empty = record {
    empty = empty;
    own = subst (λ (z : List ℕ). Among t z) (sym (keeps.carries.owned ∙ l.carries.owned ∙ h.carries.owned)) (own_these t (omega arith) (omega arith));
    linked = (top, subst (λ (z : List Hung). Among (record { entry = t; place = top }) z) (sym (keeps.links ∙ l.links)) (among_later (subst (λ (z : List Hung). Among (record { entry = t; place = top }) z) (sym h.links) (among_first refl))));
    ungiven = λ x. among_none t (subst (λ (z : List ℕ). Among t z) (keeps.gives ∙ l.gives ∙ h.gives ∙ gives_none) x);
  }

  pub begun : (b : Known) → Linked k b t info_above FirstOfMain → Row b t 0 m
  begun b h = record {
    empty = h.sends;
    main = main;
    own = λ e l u. subst (λ (z : List ℕ). Among e z) (sym h.carries.owned) (own_these e l u);
    links = h.links ∙ (λ i. record { entry = same i; place = top } ∷ none i);
    gives = h.gives ∙ gives_none;
    told = h.told;
    last = subst (λ (z : ℕ). Among (record { entry = z; info = info_above }) b.told) same h.told;
    parts = h.carries.parts ∙ ap (λ (z : Known). z.view.parts) drawn;
    splits = h.carries.splits ∙ ap (λ (z : Known). z.view.splits) drawn;
  }
    where
      same : t ≡ t + 0
      same = omega arith

      none : k.view.links ≡ []
      none = ap (λ (z : Known). z.view.links) drawn

-- a read of a state word leaves what may be given up
pub may_give_looked : (a b : Known) (e u x : ℕ) → MayRelease a e → b ≡ looked u x a → MayRelease b e
may_give_looked a b e u x may q = subst (λ (z : Known). MayRelease z e) (sym q) record { empty = may.empty; own = may.own; linked = may.linked; ungiven = may.ungiven }

-- a sibling behind n others
module _ (k : Known) (t n m e : ℕ) (row : Row k t n m) (more : n < m) (is : e ≡ t + suc n) where
  own_of : (d : ℕ) → t ≤ d → d ≤ t + m → Among d k.view.owned
  own_of = row.own

  not_linked : (p : Place) → Among (record { entry = e; place = p }) k.view.links → ⊥
  not_linked p h = let r = (chain_inside t n e p (subst (λ (z : List Hung). Among (record { entry = e; place = p }) z) row.links h)).1 in absurd (omega (arith, r, is))

  not_given : (d : ℕ) → Among d k.view.gives → ⊥
  not_given d h = among_none d (subst (λ (z : List ℕ). Among d z) row.gives h)

  may_stand : (a : After) → MayStand k e (info_below t) a → MayHang k e (info_below t) a
  may_stand a stands = record {
    empty = row.empty;
    own = own_of e (omega (arith, is)) (omega (arith, is, more));
    unlinked = not_linked;
    own_parent = own_of t (omega arith) (omega arith);
    ungiven = not_given t;
    above = omega (arith, is);
    shallow = omega arith;
    task = omega arith;
    covers = λ ne. (info_above, row.told, inl refl);
    stands = stands;
  }

  -- deliveries follow
  pub grown : (b c : Known) (a : After) → Linked k b e (info_below t) a → place_of a ≡ spot t n → Keeps b c → c.view.held ≡ [] → Row c t (suc n) m
  grown b c a h at keeps empty = record {
    empty = empty;
    main = row.main;
    own = λ d l u. subst (λ (z : List ℕ). Among d z) (sym (keeps.carries.owned ∙ h.carries.owned)) (row.own d l u);
    links = keeps.links ∙ h.links ∙ (λ i. record { entry = is i; place = at i } ∷ row.links i);
    gives = keeps.gives ∙ h.gives ∙ row.gives;
    told = keeps.carries.told (record { entry = t; info = info_above }) (h.carries.told (record { entry = t; info = info_above }) row.told);
    last = subst (λ (z : ℕ). Among (record { entry = z; info = info_below t }) c.told) is (keeps.carries.told (record { entry = e; info = info_below t }) h.told);
    parts = keeps.carries.parts ∙ h.carries.parts ∙ row.parts;
    splits = keeps.carries.splits ∙ h.carries.splits ∙ row.splits;
  }

pub may_head : (k : Known) (t m e : ℕ) → Row k t 0 m → 0 < m → e ≡ t + 1 → MayHang k e (info_below t) (FirstOf t)
may_head k t m e row some is = may_stand k t 0 m e row some is (FirstOf t)
    (refl, info_above, row.told, refl, (λ d h. chain_top t d t (subst (λ (z : List Hung). Among (record { entry = d; place = first t }) z) row.links h)))

pub may_follow : (k : Known) (t n m e o : ℕ) → Row k t n m → 0 < n → n < m → e ≡ t + n + 1 → o ≡ t + n → MayHang k e (info_below t) (Sibling o)
may_follow k t zero m e o row some more is before = absurd (omega (arith, some))
may_follow k t (suc n) m e o row some more is before = may_stand k t (suc n) m e row more (omega (arith, is)) (Sibling o) (
  info_below t,
  subst (λ (z : ℕ). Among (record { entry = z; info = info_below t }) k.told) (sym before) row.last,
  refl,
  refl,
  omega (arith, is, before),
  (λ d h.
      let here = subst (λ (z : List Hung). Among (record { entry = d; place = after o }) z) row.links h in
      let low = chain_after t (suc n) d o here in
      let high = (chain_inside t (suc n) d (after o) here).1 in absurd (omega (arith, low, high, before))),
  (λ ne. subst (λ (z : ℕ). Kin k.view.links t z) (sym before) (subst (λ (z : List Hung). Kin z t (t + suc n)) (sym row.links) (chain_kin t n))),
)

pub grown_next : (a b c : Known) (t n m e : ℕ) (x : After) → Row a t n m → n < m → e ≡ t + n + 1 → Linked a b e (info_below t) x → place_of x ≡ spot t n → Keeps b c → c.view.held ≡ [] → Row c t (n + 1) m
grown_next a b c t n m e x row more is h at keeps empty =
    let next : suc n ≡ n + 1 = omega arith in
    subst (λ (z : ℕ). Row c t z m) next (grown a t n m e row more (omega (arith, is)) b c x h at keeps empty)

pub spot_next : (t n o : ℕ) → 0 < n → o ≡ t + n → place_of (Sibling o) ≡ spot t n
spot_next t zero o some q = absurd (omega (arith, some))
spot_next t (suc n) o some q = ap after q

-- the access above is given up
pub may_give_above : (k : Known) (t m : ℕ) → Row k t m m → MayRelease k t
may_give_above k t m row = record {
  empty = row.empty;
  own = row.own t (omega arith) (omega arith);
  linked =
      let r = chain_has t m 0 (omega arith) in (r.0, subst (λ (z : List Hung). Among (record { entry = t; place = r.0 }) z) (sym row.links) (subst (λ (z : ℕ). Among (record { entry = z; place = r.0 }) (chain t m)) (omega arith) r.1));
  ungiven = λ h. among_none t (subst (λ (z : List ℕ). Among t z) row.gives h);
}

pub gave_above : (a b c : Known) (t m : ℕ) → Row a t m m → Released a b t → Keeps b c → c.view.held ≡ [] → ToGive c (t + 1) (t + 1 + m)
gave_above a b c t m row r keeps empty = record {
  empty = empty;
  own = λ e l u. subst (λ (z : List ℕ). Among e z) (sym (keeps.carries.owned ∙ r.carries.owned)) (row.own e (omega (arith, l)) (omega (arith, u)));
  linked = λ e l u.
      let o = offset t e (omega (arith, l)) in
      let q = o.1 in
      let h = chain_has t m o.0 (omega (arith, u, q)) in
      (h.0, subst (λ (z : List Hung). Among (record { entry = e; place = h.0 }) z) (sym (keeps.links ∙ r.links ∙ row.links)) (subst (λ (z : ℕ). Among (record { entry = z; place = h.0 }) (chain t m)) (sym q) h.1));
  ungiven = λ e h. elim (subst (λ (z : List ℕ). Among e z) (keeps.gives ∙ r.gives ∙ ap (λ (z : List ℕ). t ∷ z) row.gives) h) [
    | among_first q ↦ omega (arith, q)
    | among_later l ↦ among_none e l
  ];
}
  where
    offset : (t e : ℕ) → t ≤ e → (k : ℕ) × (e ≡ t + k)
    offset zero e h = (e, omega arith)
    offset (suc t) zero h = absurd (omega (arith, h))
    offset (suc t) (suc e) h = let r = offset t e (omega (arith, h)) in let q = r.1 in (r.0, omega (arith, q))

-- entries that are given up one after the other
pub may_give_next : (k : Known) (start end : ℕ) → ToGive k start end → start < end → MayRelease k start
may_give_next k start end g less = record {
  empty = g.empty;
  own = g.own start (omega arith) less;
  linked = g.linked start (omega arith) less;
  ungiven = λ h. let r = g.ungiven start h in absurd (omega (arith, r));
}

pub gave_next : (a b c : Known) (start end : ℕ) → ToGive a start end → Released a b start → Keeps b c → c.view.held ≡ [] → ToGive c (start + 1) end
gave_next a b c start end g r keeps empty = record {
  empty = empty;
  own = λ e l u. subst (λ (z : List ℕ). Among e z) (sym (keeps.carries.owned ∙ r.carries.owned)) (g.own e (omega (arith, l)) u);
  linked = λ e l u. let h = g.linked e (omega (arith, l)) u in (h.0, subst (λ (z : List Hung). Among (record { entry = e; place = h.0 }) z) (sym (keeps.links ∙ r.links)) h.1);
  ungiven = λ e h. elim (subst (λ (z : List ℕ). Among e z) (keeps.gives ∙ r.gives) h) [
    | among_first q ↦ omega (arith, q)
    | among_later l ↦ let s = g.ungiven e l in omega (arith, s)
  ];
}

-- the entries of a hand
pub no_span : (start : ℕ) → Spans [] start start
no_span start = record { inside = λ e h. among_none e h; all = λ e l u. absurd (omega (arith, l, u)) }

pub span_more : (xs ys : List ℕ) (start n : ℕ) → Spans xs start n → start ≤ n → ys ≡ xs ++ n ∷ [] → Spans ys start (n + 1)
span_more xs ys start n s low q = subst (λ (z : List ℕ). Spans z start (n + 1)) (sym q) record {
  inside = λ e h. elim (among_append e xs (n ∷ []) h) [
    | inl m ↦ let r = s.inside e m in (r.0, (let u = r.1 in omega (arith, u)))
    | inr m ↦ elim m [ among_first p ↦ (omega (arith, p, low), omega (arith, p)) | among_later k ↦ among_none e k ]
  ];
  all = λ e l u. elim (last_or e n u) [
    | inl p ↦ among_right e xs (n ∷ []) (among_first (sym p))
    | inr less ↦ among_left e xs (n ∷ []) (s.all e l less)
  ];
}
  where
    last_or : (e n : ℕ) → e < n + 1 → (e ≡ n) ⊎ (e < n)
    last_or e n h = grind (arith, h)

-- what is not handed over is left
left_here : (hand xs : List ℕ) (e : ℕ) → (Among e hand → ⊥) → Among e xs → Among e (left_over hand xs)
left_here hand [] e none m = among_none e m
left_here hand (x ∷ xs) e none m = go (is_in x hand) refl (λ k. left_here hand xs e none k) m
  where
    go : (b : Bool) → is_in x hand ≡ b → (Among e xs → Among e (left_over hand xs)) → Among e (x ∷ xs) → Among e (cond b (left_over hand xs) (x ∷ left_over hand xs))
    go true q f m = elim m [
      | among_first p ↦ absurd (none (subst (λ (z : ℕ). Among z hand) p (in_among x hand q)))
      | among_later k ↦ f k
    ]
    go false q f m = elim m [
      | among_first p ↦ among_first p
      | among_later k ↦ among_later (f k)
    ]

module _ (k : Known) (hand : List ℕ) (start middle end : ℕ) (g : ToGive k start end) (low : start ≤ middle) (high : middle ≤ end) (s : Spans hand start middle) where
  pub owns_hand : (e : ℕ) → Among e hand → Among e k.view.owned
  owns_hand e m = let r = s.inside e m in let u = r.1 in g.own e r.0 (omega (arith, u, high))

  pub left_to_give : (b : Known) → b ≡ keeping hand k → ToGive b middle end
  left_to_give b q = subst (λ (z : Known). ToGive z middle end) (sym q) record {
    empty = g.empty;
    own = λ e l u. left_here hand k.view.owned e (λ m. let r = (s.inside e m).1 in absurd (omega (arith, r, l))) (g.own e (omega (arith, l, low)) u);
    linked = λ e l u. g.linked e (omega (arith, l, low)) u;
    ungiven = λ e m. let r = g.ungiven e m in omega (arith, r, low);
  }

  pub is_parted : (d : TableId) (t : Standing) → t.net ≡ d → t.known ≡ handed hand k → Parted d t start middle
  is_parted d t net q = record {
    net = net;
    may = subst (λ (z : Known). ToGive z start middle) (sym q) record {
      empty = refl;
      own = λ e l u. s.all e l u;
      linked = λ e l u. g.linked e l (omega (arith, u, high));
      ungiven = g.ungiven;
    };
    parts = ap (λ (z : Known). z.view.parts) q;
    splits = ap (λ (z : Known). z.view.splits) q;
  }
