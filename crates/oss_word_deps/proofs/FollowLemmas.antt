-- Entries of a book are linked into a net, and given up there.
use Rattle.std.proofs.Common.{◌≡◌, ◌≢◌, ℕ, zero, suc, ◌<◌, ◌≤◌, ◌+◌, ◌⊎◌, inl, inr, refl, sym, ap, subst, ◌∙◌, true, false, List, [], ◌∷◌, Some, length, arith}
use Rattle.std.proofs.Math.ListN.{get_or}
use Rattle.oss_syntax.specs.declared.access.Mode.{Mode}
use Rattle.oss_syntax.specs.declared.access.Op.{Op}
use Rattle.oss_syntax.specs.declared.access.Op.TheVariants.{Add, And, Or, Xor}
use Rattle.oss_syntax.specs.declared.access.Mode.TheVariants.{Read, Write, Fold}
use Rattle.oss_model.specs.Rights.{covers, op_eq}
use Rattle.oss_deps.proofs.Basics.{clash, compared, some_is}
use Rattle.oss_words.specs.declared.entry.After.{After}
use Rattle.oss_words.specs.declared.entry.After.TheVariants.{FirstOf, FirstOfMain, Sibling}
use Rattle.oss_words.specs.declared.entry.EntryInfo.{EntryInfo}
use Rattle.oss_words.specs.Net.{Place, after, first}
use Rattle.oss_words.specs.Views.{Among, Hung, among_first, among_later}
use Rattle.oss_word_net.specs.Calls.{MayHang, MayRelease, MayStand, place_of}
use Rattle.oss_word_net.specs.Known.{Kin, Known, eldest, younger}
use Rattle.oss_word_deps.specs.declared.entry.Entry.{Entry}
use Rattle.oss_word_deps.specs.declared.entry.Mark.{Mark}
use Rattle.oss_word_deps.specs.Known.{Adds, Frees, HasGiven, HasLinked, IsAlone, IsLinkOf, Keeps}
use Rattle.oss_word_deps.specs.Ledger.{entry_of, mark_of, or_none}
use Rattle.oss_word_deps.specs.Sound.{Fits, IsBehind, IsPlaced, Under}
use Rattle.oss_word_deps.specs.Sound as sound_of
use Rattle.oss_word_deps.proofs.LedgerLemmas.{entry_within}
use Rattle.oss_word_deps.proofs.LookupLemmas.{get_is}

same_op : (a b : Op) → op_eq a b ≡ true → a ≡ b
same_op Add Add h = refl
same_op Add And h = cc
same_op Add Or h = cc
same_op Add Xor h = cc
same_op And Add h = cc
same_op And And h = refl
same_op And Or h = cc
same_op And Xor h = cc
same_op Or Add h = cc
same_op Or And h = cc
same_op Or Or h = refl
same_op Or Xor h = cc
same_op Xor Add h = cc
same_op Xor And h = cc
same_op Xor Or h = cc
same_op Xor Xor h = refl

cover_cases : (a b : Mode) → covers a b ≡ true → (a ≡ Write) ⊎ (a ≡ b)
cover_cases Write b h = inl refl
cover_cases Read Read h = inr refl
cover_cases Read Write h = absurd cc
cover_cases Read (Fold y) h = absurd cc
cover_cases (Fold x) (Fold y) h = inr (ap Fold (same_op x y h))
cover_cases (Fold x) Read h = absurd cc
cover_cases (Fold x) Write h = absurd cc

-- the place tells where
at_first : (a : After) (p : ℕ) → first p ≡ place_of a → a ≡ FirstOf p
at_first FirstOfMain p h = absurd cc
at_first (FirstOf q) p h = ap FirstOf (let e : p ≡ q = cc in sym e)
at_first (Sibling o) p h = absurd cc

at_after : (a : After) (o : ℕ) → after o ≡ place_of a → a ≡ Sibling o
at_after FirstOfMain o h = absurd cc
at_after (FirstOf q) o h = absurd cc
at_after (Sibling u) o h = ap Sibling (let e : o ≡ u = cc in sym e)

-- what is kept, and that the seat has the whole net
pub alone_kept : (a b : Known) (size : ℕ) → Keeps a b → IsAlone a size → IsAlone b size
alone_kept a b size k is = record {
  size_is = k.entries ∙ is.size_is;
  owned = λ v h. subst (λ (xs : List ℕ). Among v xs) (sym k.owned) (is.owned v h);
  parts = k.parts ∙ is.parts;
}

module _ (entries : List Entry) (fits : (v : ℕ) (e : Entry) → entry_of entries v ≡ Some e → Fits entries v e) (k : Known) (n : ℕ) (linked : HasLinked k entries n) where
  -- who hangs below an entry is its kin
  kin_of : (p v : ℕ) → Under entries p v → v ≤ n → Kin k.view.links p v
  kin_of p v (sound_of.eldest e h s) within = eldest (subst (λ (a : After). Among (record { entry = v; place = place_of a }) k.view.links) s (linked.linked v e within h))
  kin_of p v (sound_of.younger {u = u} e h s b) within =
      let less = (subst (λ (a : After). IsPlaced entries v e a) s (fits v e h).placed).before in
      younger (kin_of p u b (omega (arith, less, within))) (subst (λ (a : After). Among (record { entry = v; place = place_of a }) k.view.links) s (linked.linked v e within h))

  -- siblings are of one depth
  depth_same : (v o : ℕ) (e : Entry) → entry_of entries v ≡ Some e → (b : IsBehind entries v e o) → b.sibling.info.depth ≡ e.info.depth
  depth_same v o e h b = go (Rattle.oss_access_lists.proofs.StepLemmas.same_or e.info.parent 0)
    where
      f : Fits entries v e
      f = fits v e h

      g : Fits entries o b.sibling
      g = fits o b.sibling b.is

      go : (e.info.parent ≡ 0) ⊎ (e.info.parent ≡ 0 → ⊥) → b.sibling.info.depth ≡ e.info.depth
      go (inl z) = g.top (b.parent ∙ z) ∙ sym (f.top z)
      go (inr m) =
          let x = g.below (λ z. m (sym b.parent ∙ z)) in
          let y = f.below m in
          let one : x.above ≡ y.above = some_is (sym x.is ∙ (ap (entry_of entries) b.parent ∙ y.is)) in
          x.depth ∙ (ap (λ (z : Entry). 1 + z.info.depth) one ∙ sym y.depth)

  pub may_hang : (size v : ℕ) (e : Entry) → IsAlone k size → k.view.held ≡ [] → v ≡ n + 1 → entry_of entries v ≡ Some e → (Among e.info.parent k.view.gives → ⊥) → length entries < size → MayHang k v e.info e.after
  may_hang size v e alone empty next is free within = record {
    empty = empty;
    own = alone.owned v (omega (arith, at.1, within));
    unlinked = λ p h. let l = linked.links v p h in absurd (omega (arith, l.within, next));
    own_parent = alone.owned e.info.parent (omega (arith, f.above, at.1, within));
    ungiven = free;
    above = f.above;
    shallow = f.shallow;
    task = f.task;
    covers = covered;
    stands = stands e.after refl;
  }
    where
      f : Fits entries v e
      f = fits v e is

      at : (0 < v) × (v ≤ length entries)
      at = entry_within entries v e is

      covered : e.info.parent ≢ 0 → (j : EntryInfo) × Among (record { entry = e.info.parent; info = j }) k.told × ((j.mode ≡ Write) ⊎ (j.mode ≡ e.info.mode))
      covered m = let b = f.below m in (b.above.info, linked.told e.info.parent b.above (omega (arith, f.above, next)) b.is, cover_cases b.above.info.mode e.info.mode b.covered)

      no_first : (p : ℕ) → e.after ≡ FirstOf p → (d : ℕ) → Among (record { entry = d; place = first p }) k.view.links → ⊥
      no_first p s d h = let l = linked.links d (first p) h in f.first p s d l.entry (omega (arith, l.within, next)) l.is (at_first l.entry.after p l.place)

      no_next : (o : ℕ) → e.after ≡ Sibling o → (d : ℕ) → Among (record { entry = d; place = after o }) k.view.links → ⊥
      no_next o s d h = let l = linked.links d (after o) h in f.next o s d l.entry (omega (arith, l.within, next)) l.is (at_after l.entry.after o l.place)

      placed : (a : After) → e.after ≡ a → IsPlaced entries v e a
      placed a s = subst (λ (b : After). IsPlaced entries v e b) s f.placed

      stands : (a : After) → e.after ≡ a → MayStand k v e.info a
      stands FirstOfMain s = (placed FirstOfMain s, f.top (placed FirstOfMain s))
      stands (FirstOf p) s =
          let q = placed (FirstOf p) s in
          let b = f.below (λ z. q.1 (sym q.0 ∙ z)) in
          (q.0, b.above.info, subst (λ (x : ℕ). Among (record { entry = x; info = b.above.info }) k.told) q.0 (linked.told e.info.parent b.above (omega (arith, f.above, next)) b.is), b.depth, no_first p s)
      stands (Sibling o) s =
          let b = placed (Sibling o) s in
          (b.sibling.info, linked.told o b.sibling (omega (arith, b.before, next)) b.is, b.parent, depth_same v o e is b, b.before, no_next o s, λ m. kin_of e.info.parent o (b.under m) (omega (arith, b.before, next)))

-- behind a link
pub linked_on : (entries : List Entry) (a b : Known) (n v : ℕ) (e : Entry) → HasLinked a entries n → v ≡ n + 1 → entry_of entries v ≡ Some e → Adds v e a b → HasLinked b entries (n + 1)
linked_on entries a b n v e h next is adds = record { linked = linked; links = links; told = told }
  where
    split : (w : ℕ) → w ≤ n + 1 → (w ≤ n) ⊎ (w ≡ v)
    split w l = go (compared w v)
      where
        go : (w < v) ⊎ ((w ≡ v) ⊎ (v < w)) → (w ≤ n) ⊎ (w ≡ v)
        go (inl x) = inl (omega (arith, x, next))
        go (inr (inl x)) = inr x
        go (inr (inr x)) = absurd (omega (arith, x, next, l))

    same : (w : ℕ) (x : Entry) → w ≡ v → entry_of entries w ≡ Some x → e ≡ x
    same w x z k = some_is (sym is ∙ (ap (entry_of entries) (sym z) ∙ k))

    linked : (w : ℕ) (x : Entry) → w ≤ n + 1 → entry_of entries w ≡ Some x → Among (record { entry = w; place = place_of x.after }) b.view.links
    linked w x l k = subst (λ (ls : List Hung). Among (record { entry = w; place = place_of x.after }) ls) (sym adds.links) (go (split w l))
      where
        go : (w ≤ n) ⊎ (w ≡ v) → Among (record { entry = w; place = place_of x.after }) (record { entry = v; place = place_of e.after } ∷ a.view.links)
        go (inl m) = among_later (h.linked w x m k)
        go (inr z) = among_first (λ i. record { entry = sym z i; place = place_of (same w x z k i).after })

    told : (w : ℕ) (x : Entry) → w ≤ n + 1 → entry_of entries w ≡ Some x → Among (record { entry = w; info = x.info }) b.told
    told w x l k = go (split w l)
      where
        go : (w ≤ n) ⊎ (w ≡ v) → Among (record { entry = w; info = x.info }) b.told
        go (inl m) = adds.keeps.told (record { entry = w; info = x.info }) (h.told w x m k)
        go (inr z) = subst (λ (y : Entry). Among (record { entry = w; info = y.info }) b.told) (same w x z k) (subst (λ (u : ℕ). Among (record { entry = u; info = e.info }) b.told) (sym z) adds.told)

    links : (w : ℕ) (p : Place) → Among (record { entry = w; place = p }) b.view.links → IsLinkOf entries (n + 1) w p
    links w p k = go (subst (λ (ls : List Hung). Among (record { entry = w; place = p }) ls) adds.links k)
      where
        go : Among (record { entry = w; place = p }) (record { entry = v; place = place_of e.after } ∷ a.view.links) → IsLinkOf entries (n + 1) w p
        go (among_first z) = record {
          entry = e;
          is = ap (λ (x : Hung). entry_of entries x.entry) (sym z) ∙ is;
          within = (let q = ap (λ (x : Hung). x.entry) z in omega (arith, q, next));
          place = ap (λ (x : Hung). x.place) (sym z);
        }
        go (among_later m) = let l = h.links w p m in record { entry = l.entry; is = l.is; within = omega (arith, l.within); place = l.place }

-- a give
pub may_release : (entries : List Entry) (k : Known) (size n v : ℕ) (e : Entry) → IsAlone k size → k.view.held ≡ [] → HasLinked k entries n → v ≤ n → v < size → entry_of entries v ≡ Some e → (Among v k.view.gives → ⊥) → MayRelease k v
may_release entries k size n v e alone empty h within less is free = record { empty = empty; own = alone.owned v less; linked = (place_of e.after, h.linked v e within is); ungiven = free }

pub linked_frees : (entries : List Entry) (a b : Known) (n v : ℕ) → HasLinked a entries n → Frees v a b → HasLinked b entries n
linked_frees entries a b n v h f = record {
  linked = λ w x l k. subst (λ (ls : List Hung). Among (record { entry = w; place = place_of x.after }) ls) (sym f.links) (h.linked w x l k);
  links = λ w p k. h.links w p (subst (λ (ls : List Hung). Among (record { entry = w; place = p }) ls) f.links k);
  told = λ w x l k. f.keeps.told (record { entry = w; info = x.info }) (h.told w x l k);
}

pub mark_at : (marks : List Mark) (i : ℕ) (d : Mark) → i < length marks → mark_of marks (i + 1) ≡ get_or marks i d
mark_at marks i d h = let e : i + 1 ≡ suc i = omega arith in ap (mark_of marks) e ∙ ap or_none (get_is marks i d h)

-- behind a look at a mark
pub given_on : (marks : List Mark) (a b : Known) (n : ℕ) → HasGiven a marks n → (mark_of marks (n + 1)).given ≡ true → Frees (n + 1) a b → HasGiven b marks (n + 1)
given_on marks a b n h is f = record { gives = gives; given = given }
  where
    gives : (v : ℕ) → Among v b.view.gives → ((mark_of marks v).given ≡ true) × (v ≤ n + 1)
    gives v k = go (subst (λ (xs : List ℕ). Among v xs) f.gives k)
      where
        go : Among v ((n + 1) ∷ a.view.gives) → ((mark_of marks v).given ≡ true) × (v ≤ n + 1)
        go (among_first z) = (ap (λ (w : ℕ). (mark_of marks w).given) (sym z) ∙ is, omega (arith, z))
        go (among_later m) = let r = h.gives v m in (r.0, (let q = r.1 in omega (arith, q)))

    given : (v : ℕ) → v ≤ n + 1 → (mark_of marks v).given ≡ true → Among v b.view.gives
    given v l k = subst (λ (xs : List ℕ). Among v xs) (sym f.gives) (go (compared v (n + 1)))
      where
        go : (v < n + 1) ⊎ ((v ≡ n + 1) ⊎ (n + 1 < v)) → Among v ((n + 1) ∷ a.view.gives)
        go (inl m) = among_later (h.given v (omega (arith, m)) k)
        go (inr (inl z)) = among_first (sym z)
        go (inr (inr m)) = absurd (omega (arith, m, l))

pub given_past : (marks : List Mark) (a : Known) (n : ℕ) → HasGiven a marks n → (mark_of marks (n + 1)).given ≡ false → HasGiven a marks (n + 1)
given_past marks a n h is = record { gives = λ v k. let r = h.gives v k in (r.0, (let q = r.1 in omega (arith, q))); given = given }
  where
    given : (v : ℕ) → v ≤ n + 1 → (mark_of marks v).given ≡ true → Among v a.view.gives
    given v l k = go (compared v (n + 1))
      where
        go : (v < n + 1) ⊎ ((v ≡ n + 1) ⊎ (n + 1 < v)) → Among v a.view.gives
        go (inl m) = h.given v (omega (arith, m)) k
        go (inr (inl z)) = clash (mark_of marks v).given k (ap (λ (w : ℕ). (mark_of marks w).given) z ∙ is)
        go (inr (inr m)) = absurd (omega (arith, m, l))

nothing_among : {A : Type 0} (x : A) → Among x [] → ⊥
nothing_among x h = elim h [ ]

pub none_given : (marks : List Mark) (a : Known) → a.view.gives ≡ [] → HasGiven a marks 0
none_given marks a is = record { gives = λ v k. absurd (nothing_among v (subst (λ (xs : List ℕ). Among v xs) is k)); given = given }
  where
    given : (v : ℕ) → v ≤ 0 → (mark_of marks v).given ≡ true → Among v a.view.gives
    given zero l k = absurd cc
    given (suc v) l k = absurd (omega (arith, l))

pub none_linked : (entries : List Entry) (a : Known) → a.view.links ≡ [] → HasLinked a entries 0
none_linked entries a is = record {
  linked = λ w x l k. let r = entry_within entries w x k in absurd (omega (arith, r.0, l));
  links = λ w p k. absurd (nothing_among (record { entry = w; place = p }) (subst (λ (ls : List Hung). Among (record { entry = w; place = p }) ls) is k));
  told = λ w x l k. let r = entry_within entries w x k in absurd (omega (arith, r.0, l));
}

-- the entry and the mark that are read at a place
pub item_entry : (entries : List Entry) (i : ℕ) (item : Entry) → i < length entries → item ≡ get_or entries i item → entry_of entries (i + 1) ≡ Some item
item_entry entries i item h is = let e : i + 1 ≡ suc i = omega arith in ap (entry_of entries) e ∙ (get_is entries i item h ∙ ap (λ (x : Entry). Some x) (sym is))

pub item_mark : (marks : List Mark) (i : ℕ) (item : Mark) → i < length marks → item ≡ get_or marks i item → mark_of marks (i + 1) ≡ item
item_mark marks i item h is = mark_at marks i item h ∙ sym is

-- what is marked so is not given up by the first n
pub not_given : (marks : List Mark) (k : Known) (n v : ℕ) → HasGiven k marks n → n < v → Among v k.view.gives → ⊥
not_given marks k n v h less m = let r = (h.gives v m).1 in omega (arith, r, less)
