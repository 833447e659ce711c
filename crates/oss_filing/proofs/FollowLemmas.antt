-- Rows are linked into a net, and given up there.
use Rattle.std.proofs.Common.{◌≡◌, ◌≢◌, ℕ, zero, suc, ◌<◌, ◌≤◌, ◌+◌, ◌⊎◌, inl, inr, refl, sym, ap, subst, ◌∙◌, true, false, List, [], ◌∷◌, Some, length, arith}
use Rattle.std.proofs.Math.ListN.{get_or}
use Rattle.oss_syntax.specs.declared.access.Mode.TheVariants.{Read, Write}
use Rattle.oss_filing.proofs.Basics.{clash, compared, get_is, get_there, get_within, none_some, same_or, some_is}
use Rattle.oss_words.specs.declared.entry.After.{After}
use Rattle.oss_words.specs.declared.entry.After.TheVariants.{FirstOf, FirstOfMain, Sibling}
use Rattle.oss_words.specs.declared.entry.EntryInfo.{EntryInfo}
use Rattle.oss_words.specs.Net.{Place, after, first}
use Rattle.oss_words.specs.Views.{Among, Hung, among_first, among_later}
use Rattle.oss_word_net.specs.Calls.{MayHang, MayRelease, MayStand, place_of}
use Rattle.oss_word_net.specs.Known.{Kin, Known, eldest, younger}
use Rattle.oss_filing.specs.declared.row.Row.{Row}
use Rattle.oss_filing.specs.Owned.{Adds, Frees, HasGiven, HasLinked, IsAlone, IsLinkOf, Keeps}
use Rattle.oss_filing.specs.Rows.{given_in, row_of}
use Rattle.oss_filing.specs.Rows.{Fits, IsBehind, IsPlaced, Under}
use Rattle.oss_filing.specs.Rows as sound_of

-- which numbers have a row
pub row_within : (rows : List Row) (v : ℕ) (x : Row) → row_of rows v ≡ Some x → (0 < v) × (v ≤ length rows)
row_within rows zero x h = none_some h
row_within rows (suc n) x h = let l = get_within rows n x h in (omega arith, omega (arith, l))

pub row_there : (rows : List Row) (v : ℕ) → 0 < v → v ≤ length rows → (x : Row) × (row_of rows v ≡ Some x)
row_there rows zero some l = absurd (omega (arith, some))
row_there rows (suc n) some l = get_there rows n (omega (arith, l))

-- the place tells where
at_first : (a : After) (p : ℕ) → first p ≡ place_of a → a ≡ FirstOf p
at_first FirstOfMain p h = absurd cc
at_first (FirstOf q) p h = ap FirstOf (let e : p ≡ q = cc in sym e)
at_first (Sibling o) p h = absurd cc

at_after : (a : After) (o : ℕ) → after o ≡ place_of a → a ≡ Sibling o
at_after FirstOfMain o h = absurd cc
at_after (FirstOf q) o h = absurd cc
at_after (Sibling u) o h = ap Sibling (let e : o ≡ u = cc in sym e)

-- what is kept, and that the seat has the whole net
pub alone_kept : (a b : Known) (size : ℕ) → Keeps a b → IsAlone a size → IsAlone b size
alone_kept a b size k is = record {
  size_is = k.entries ∙ is.size_is;
  owned = λ v h. subst (λ (xs : List ℕ). Among v xs) (sym k.owned) (is.owned v h);
  splits = k.splits ∙ is.splits;
}

module _ (rows : List Row) (fits : (v : ℕ) (e : Row) → row_of rows v ≡ Some e → Fits rows v e) (k : Known) (n : ℕ) (linked : HasLinked k rows n) where
  -- who hangs below an entry is its kin
  kin_of : (p v : ℕ) → Under rows p v → v ≤ n → Kin k.view.links p v
  kin_of p v (sound_of.eldest e h s) within = eldest (subst (λ (a : After). Among (record { entry = v; place = place_of a }) k.view.links) s (linked.linked v e within h))
  kin_of p v (sound_of.younger {u = u} e h s b) within =
      let less = (subst (λ (a : After). IsPlaced rows v e a) s (fits v e h).placed).before in
      younger (kin_of p u b (omega (arith, less, within))) (subst (λ (a : After). Among (record { entry = v; place = place_of a }) k.view.links) s (linked.linked v e within h))

  -- siblings are of one depth
  depth_same : (v o : ℕ) (e : Row) → row_of rows v ≡ Some e → (b : IsBehind rows v e o) → b.sibling.info.depth ≡ e.info.depth
  depth_same v o e h b = go (same_or e.info.parent 0)
    where
      f : Fits rows v e
      f = fits v e h

      g : Fits rows o b.sibling
      g = fits o b.sibling b.is

      go : (e.info.parent ≡ 0) ⊎ (e.info.parent ≡ 0 → ⊥) → b.sibling.info.depth ≡ e.info.depth
      go (inl z) = g.top (b.parent ∙ z) ∙ sym (f.top z)
      go (inr m) =
          let x = g.below (λ z. m (sym b.parent ∙ z)) in
          let y = f.below m in
          let one : x.above ≡ y.above = some_is (sym x.is ∙ (ap (row_of rows) b.parent ∙ y.is)) in
          x.depth ∙ (ap (λ (z : Row). 1 + z.info.depth) one ∙ sym y.depth)

  pub may_hang : (size v : ℕ) (e : Row) → IsAlone k size → k.view.held ≡ [] → v ≡ n + 1 → row_of rows v ≡ Some e → (Among e.info.parent k.view.gives → ⊥) → length rows < size → MayHang k v e.info e.after
  may_hang size v e alone empty next is free within = record {
    empty = empty;
    own = alone.owned v (omega (arith, at.1, within));
    unlinked = λ p h. let l = linked.links v p h in absurd (omega (arith, l.within, next));
    own_parent = alone.owned e.info.parent (omega (arith, f.above, at.1, within));
    ungiven = free;
    above = f.above;
    shallow = f.shallow;
    task = f.task;
    covers = covered;
    stands = stands e.after refl;
  }
    where
      f : Fits rows v e
      f = fits v e is

      at : (0 < v) × (v ≤ length rows)
      at = row_within rows v e is

      covered : e.info.parent ≢ 0 → (j : EntryInfo) × Among (record { entry = e.info.parent; info = j }) k.told × ((j.mode ≡ Write) ⊎ (j.mode ≡ e.info.mode))
      covered m = let b = f.below m in (b.above.info, linked.told e.info.parent b.above (omega (arith, f.above, next)) b.is, b.covered)

      no_first : (p : ℕ) → e.after ≡ FirstOf p → (d : ℕ) → Among (record { entry = d; place = first p }) k.view.links → ⊥
      no_first p s d h = let l = linked.links d (first p) h in f.first p s d l.row (omega (arith, l.within, next)) l.is (at_first l.row.after p l.place)

      no_next : (o : ℕ) → e.after ≡ Sibling o → (d : ℕ) → Among (record { entry = d; place = after o }) k.view.links → ⊥
      no_next o s d h = let l = linked.links d (after o) h in f.next o s d l.row (omega (arith, l.within, next)) l.is (at_after l.row.after o l.place)

      placed : (a : After) → e.after ≡ a → IsPlaced rows v e a
      placed a s = subst (λ (b : After). IsPlaced rows v e b) s f.placed

      stands : (a : After) → e.after ≡ a → MayStand k v e.info a
      stands FirstOfMain s = (placed FirstOfMain s, f.top (placed FirstOfMain s))
      stands (FirstOf p) s =
          let q = placed (FirstOf p) s in
          let b = f.below (λ z. q.1 (sym q.0 ∙ z)) in
          (q.0, b.above.info, subst (λ (x : ℕ). Among (record { entry = x; info = b.above.info }) k.told) q.0 (linked.told e.info.parent b.above (omega (arith, f.above, next)) b.is), b.depth, no_first p s)
      stands (Sibling o) s =
          let b = placed (Sibling o) s in
          (b.sibling.info, linked.told o b.sibling (omega (arith, b.before, next)) b.is, b.parent, depth_same v o e is b, b.before, no_next o s, λ m. kin_of e.info.parent o (b.under m) (omega (arith, b.before, next)))

-- behind a link
pub linked_on : (rows : List Row) (a b : Known) (n v : ℕ) (e : Row) → HasLinked a rows n → v ≡ n + 1 → row_of rows v ≡ Some e → Adds v e a b → HasLinked b rows (n + 1)
linked_on rows a b n v e h next is adds = record { linked = linked; links = links; told = told }
  where
    split : (w : ℕ) → w ≤ n + 1 → (w ≤ n) ⊎ (w ≡ v)
    split w l = go (compared w v)
      where
        go : (w < v) ⊎ ((w ≡ v) ⊎ (v < w)) → (w ≤ n) ⊎ (w ≡ v)
        go (inl x) = inl (omega (arith, x, next))
        go (inr (inl x)) = inr x
        go (inr (inr x)) = absurd (omega (arith, x, next, l))

    same : (w : ℕ) (x : Row) → w ≡ v → row_of rows w ≡ Some x → e ≡ x
    same w x z k = some_is (sym is ∙ (ap (row_of rows) (sym z) ∙ k))

    linked : (w : ℕ) (x : Row) → w ≤ n + 1 → row_of rows w ≡ Some x → Among (record { entry = w; place = place_of x.after }) b.view.links
    linked w x l k = subst (λ (ls : List Hung). Among (record { entry = w; place = place_of x.after }) ls) (sym adds.links) (go (split w l))
      where
        go : (w ≤ n) ⊎ (w ≡ v) → Among (record { entry = w; place = place_of x.after }) (record { entry = v; place = place_of e.after } ∷ a.view.links)
        go (inl m) = among_later (h.linked w x m k)
        go (inr z) = among_first (λ i. record { entry = sym z i; place = place_of (same w x z k i).after })

    told : (w : ℕ) (x : Row) → w ≤ n + 1 → row_of rows w ≡ Some x → Among (record { entry = w; info = x.info }) b.told
    told w x l k = go (split w l)
      where
        go : (w ≤ n) ⊎ (w ≡ v) → Among (record { entry = w; info = x.info }) b.told
        go (inl m) = adds.keeps.told (record { entry = w; info = x.info }) (h.told w x m k)
        go (inr z) = subst (λ (y : Row). Among (record { entry = w; info = y.info }) b.told) (same w x z k) (subst (λ (u : ℕ). Among (record { entry = u; info = e.info }) b.told) (sym z) adds.told)

    links : (w : ℕ) (p : Place) → Among (record { entry = w; place = p }) b.view.links → IsLinkOf rows (n + 1) w p
    links w p k = go (subst (λ (ls : List Hung). Among (record { entry = w; place = p }) ls) adds.links k)
      where
        go : Among (record { entry = w; place = p }) (record { entry = v; place = place_of e.after } ∷ a.view.links) → IsLinkOf rows (n + 1) w p
        go (among_first z) = record {
          row = e;
          is = ap (λ (x : Hung). row_of rows x.entry) (sym z) ∙ is;
          within = (let q = ap (λ (x : Hung). x.entry) z in omega (arith, q, next));
          place = ap (λ (x : Hung). x.place) (sym z);
        }
        go (among_later m) = let l = h.links w p m in record { row = l.row; is = l.is; within = omega (arith, l.within); place = l.place }

-- a give
pub may_release : (rows : List Row) (k : Known) (size n v : ℕ) (e : Row) → IsAlone k size → k.view.held ≡ [] → HasLinked k rows n → v ≤ n → v < size → row_of rows v ≡ Some e → (Among v k.view.gives → ⊥) → MayRelease k v
may_release rows k size n v e alone empty h within less is free = record { empty = empty; own = alone.owned v less; linked = (place_of e.after, h.linked v e within is); ungiven = free }

pub linked_frees : (rows : List Row) (a b : Known) (n v : ℕ) → HasLinked a rows n → Frees v a b → HasLinked b rows n
linked_frees rows a b n v h f = record {
  linked = λ w x l k. subst (λ (ls : List Hung). Among (record { entry = w; place = place_of x.after }) ls) (sym f.links) (h.linked w x l k);
  links = λ w p k. h.links w p (subst (λ (ls : List Hung). Among (record { entry = w; place = p }) ls) f.links k);
  told = λ w x l k. f.keeps.told (record { entry = w; info = x.info }) (h.told w x l k);
}

-- behind a look at a row
pub given_on : (rows : List Row) (a b : Known) (n : ℕ) → HasGiven a rows n → given_in (row_of rows (n + 1)) ≡ true → Frees (n + 1) a b → HasGiven b rows (n + 1)
given_on rows a b n h is f = record { gives = gives; given = given }
  where
    gives : (v : ℕ) → Among v b.view.gives → (given_in (row_of rows v) ≡ true) × (v ≤ n + 1)
    gives v k = go (subst (λ (xs : List ℕ). Among v xs) f.gives k)
      where
        go : Among v ((n + 1) ∷ a.view.gives) → (given_in (row_of rows v) ≡ true) × (v ≤ n + 1)
        go (among_first z) = (ap (λ (w : ℕ). given_in (row_of rows w)) (sym z) ∙ is, omega (arith, z))
        go (among_later m) = let r = h.gives v m in (r.0, (let q = r.1 in omega (arith, q)))

    given : (v : ℕ) → v ≤ n + 1 → given_in (row_of rows v) ≡ true → Among v b.view.gives
    given v l k = subst (λ (xs : List ℕ). Among v xs) (sym f.gives) (go (compared v (n + 1)))
      where
        go : (v < n + 1) ⊎ ((v ≡ n + 1) ⊎ (n + 1 < v)) → Among v ((n + 1) ∷ a.view.gives)
        go (inl m) = among_later (h.given v (omega (arith, m)) k)
        go (inr (inl z)) = among_first (sym z)
        go (inr (inr m)) = absurd (omega (arith, m, l))

pub given_past : (rows : List Row) (a : Known) (n : ℕ) → HasGiven a rows n → given_in (row_of rows (n + 1)) ≡ false → HasGiven a rows (n + 1)
given_past rows a n h is = record { gives = λ v k. let r = h.gives v k in (r.0, (let q = r.1 in omega (arith, q))); given = given }
  where
    given : (v : ℕ) → v ≤ n + 1 → given_in (row_of rows v) ≡ true → Among v a.view.gives
    given v l k = go (compared v (n + 1))
      where
        go : (v < n + 1) ⊎ ((v ≡ n + 1) ⊎ (n + 1 < v)) → Among v a.view.gives
        go (inl m) = h.given v (omega (arith, m)) k
        go (inr (inl z)) = clash (given_in (row_of rows v)) k (ap (λ (w : ℕ). given_in (row_of rows w)) z ∙ is)
        go (inr (inr m)) = absurd (omega (arith, m, l))

pub nothing_among : {A : Type 0} (x : A) → Among x [] → ⊥
nothing_among x h = elim h [ ]

pub none_given : (rows : List Row) (a : Known) → a.view.gives ≡ [] → HasGiven a rows 0
none_given rows a is = record { gives = λ v k. absurd (nothing_among v (subst (λ (xs : List ℕ). Among v xs) is k)); given = given }
  where
    given : (v : ℕ) → v ≤ 0 → given_in (row_of rows v) ≡ true → Among v a.view.gives
    given zero l k = absurd cc
    given (suc v) l k = absurd (omega (arith, l))

pub none_linked : (rows : List Row) (a : Known) → a.view.links ≡ [] → HasLinked a rows 0
none_linked rows a is = record {
  linked = λ w x l k. let r = row_within rows w x k in absurd (omega (arith, r.0, l));
  links = λ w p k. absurd (nothing_among (record { entry = w; place = p }) (subst (λ (ls : List Hung). Among (record { entry = w; place = p }) ls) is k));
  told = λ w x l k. let r = row_within rows w x k in absurd (omega (arith, r.0, l));
}

-- what stands behind the first n is not given up by them
pub not_given : (rows : List Row) (k : Known) (n v : ℕ) → HasGiven k rows n → n < v → Among v k.view.gives → ⊥
not_given rows k n v h less m = let r = (h.gives v m).1 in omega (arith, r, less)

-- what is read at a place where there is no row
abbrev pub no_row : Row
no_row = record { info = record { mode = Read; strong = false; depth = 0; parent = 0; task = 0 }; after = FirstOf 0; given = false }

abbrev pub read_row : List Row → ℕ → Row
read_row rows i = get_or rows i no_row

pub row_read : (rows : List Row) (i : ℕ) → i < length rows → row_of rows (i + 1) ≡ Some (read_row rows i)
row_read rows i h = let e : i + 1 ≡ suc i = omega arith in ap (row_of rows) e ∙ get_is rows i no_row h
