-- The lists of a cell match the forest of the opened tasks.
use Rattle.std.proofs.Common.{◌≡◌, ℕ, ◌<◌, refl, sym, subst, ◌∙◌, ◌⊎◌, inl, inr, Bool, true, List, ◌∷◌, arith}
use Rattle.oss_model.specs.Order.{IsIn, here, there}
use Rattle.oss_model.specs.Matching.{Matches, IsNear, above, below, before}
use Rattle.oss_deps.specs.declared.opened.Open.{Open}
use Rattle.oss_deps.specs.Opens.{names, mode_at, mode_in, HasOpened, Precedes, first as first_of, later as later_of, AreOrdered, opened_forest}
use Rattle.oss_deps.specs.Opens as opens_of
use Rattle.oss_deps.proofs.OpenLemmas.{one_entry, precedes_in_last, precedes_in}
use Rattle.oss_access_lists.specs.Wires.{Wires, IsBelow, IsBefore, wired}
use Rattle.oss_access_lists.proofs.GrowLemmas.{one_list}
use Rattle.oss_access_lists.proofs.SoundLemmas.{rises}
use Rattle.oss_access_lists.proofs.CompleteLemmas.{listed_before}
use Rattle.oss_links.specs.Held.{IsUnder, under_main, under_task, AreHeld}

-- of two members one stands before the other
pub in_order : {A : Type 0} {x y : A} {xs : List A} → IsIn x xs → IsIn y xs → (x ≡ y) ⊎ (Precedes x y xs ⊎ Precedes y x xs)
in_order here here = inl refl
in_order here (there j) = inr (inl (first_of j))
in_order (there i) here = inr (inr (first_of i))
in_order {A = A} {x = x} {y = y} (there i) (there j) = go (in_order i j)
  where
    go : {z : A} {xs : List A} → (x ≡ y) ⊎ (Precedes x y xs ⊎ Precedes y x xs) → (x ≡ y) ⊎ (Precedes x y (z ∷ xs) ⊎ Precedes y x (z ∷ xs))
    go (inl e) = inl e
    go (inr (inl p)) = inr (inl (later_of p))
    go (inr (inr p)) = inr (inr (later_of p))

module _ (opens : List Open) (given : ℕ → ℕ → Bool) (c : ℕ) (w : Wires) (entry : ℕ → ℕ → Type 0) (ord : AreOrdered opens) (are : AreHeld opens given c w entry) where
  -- an entry of the list is the one of its number
  named_of : (o : Open) (t v : ℕ) → IsIn o opens → o.task ≡ t → entry t v → names c o ≡ true
  named_of o t v i e r =
      let h = are.opened t v r in
      subst (λ y. names c y ≡ true) (sym (one_entry ord o h.entry i h.listed (e ∙ sym h.number))) h.named

  under_of : (t v : ℕ) → entry t v → (h : HasOpened opens c t) → IsUnder entry w h.entry.parent v
  under_of t v r h = are.under h.entry v h.listed h.named (subst (λ y. entry y v) (sym h.number) r)

  top_forth : (t v : ℕ) → entry t v → opens_of.IsTop opens c t → IsBelow w.place 0 v
  top_forth t v r h = go (under_of t v r h.opened)
    where
      go : IsUnder entry w h.opened.entry.parent v → IsBelow w.place 0 v
      go (under_main e b) = b
      go (under_task p q b) = absurd ((are.not_main h.opened.entry.parent p q).0 h.parent)

  top_back : (t v : ℕ) → entry t v → IsBelow w.place 0 v → opens_of.IsTop opens c t
  top_back t v r b = go (under_of t v r (are.opened t v r))
    where
      go : IsUnder entry w (are.opened t v r).entry.parent v → opens_of.IsTop opens c t
      go (under_main e b') = record { opened = are.opened t v r; parent = e }
      go (under_task p q b') = absurd ((are.not_main (are.opened t v r).entry.parent p q).1 (sym (one_list w.place 0 p v b b')))

  child_forth : (t x v y : ℕ) → entry t v → entry x y → opens_of.IsChild opens c t x → (v ≡ 0 → ⊥) × IsBelow w.place v y
  child_forth t x v y r q h = ((are.not_main t v r).1, go (under_of x y q h.opened))
    where
      go : IsUnder entry w h.opened.entry.parent y → IsBelow w.place v y
      go (under_main e b) = absurd ((are.not_main t v r).0 (sym h.parent ∙ e))
      go (under_task p k b) = subst (λ z. IsBelow w.place z y) (are.one_number t p v (subst (λ z. entry z p) h.parent k) r) b

  -- who hangs in the list of an access is of a child of its task
  child_back : (t x v y : ℕ) → entry t v → entry x y → IsBelow w.place v y → opens_of.IsChild opens c t x
  child_back t x v y r q b = go (under_of x y q (are.opened x y q))
    where
      go : IsUnder entry w (are.opened x y q).entry.parent y → opens_of.IsChild opens c t x
      go (under_main e b') = absurd ((are.not_main t v r).1 (one_list w.place v 0 y b b'))
      go (under_task p k b') = record {
        above = are.opened t v r;
        opened = are.opened x y q;
        parent = are.one_task (are.opened x y q).entry.parent t v (subst (λ z. entry (are.opened x y q).entry.parent z) (one_list w.place p v y b' b) k) r;
      }

  earlier_forth : (t x v y : ℕ) → entry t v → entry x y → opens_of.IsEarlier opens c t x → IsBefore w.place v y
  earlier_forth t x v y r q h =
      are.order h.before h.after v y h.order h.siblings h.named (named_of h.after x y (precedes_in_last h.order) h.after_number q)
      (subst (λ z. entry z v) (sym h.number) r) (subst (λ z. entry z y) (sym h.after_number) q)

  -- the lists in which two accesses hang show whether they are of siblings
  same_creator : (q : ℕ) (a b : Open) (u v : ℕ) → IsIn a opens → IsIn b opens → names c a ≡ true → names c b ≡ true → entry a.task u → entry b.task v → IsBelow w.place q u → IsBelow w.place q v → a.parent ≡ b.parent
  same_creator q a b u v i j n m r s x y = go (are.under a u i n r) (are.under b v j m s)
    where
      go : IsUnder entry w a.parent u → IsUnder entry w b.parent v → a.parent ≡ b.parent
      go (under_main e k) (under_main g l) = e ∙ sym g
      go (under_main e k) (under_task p f l) = absurd ((are.not_main b.parent p f).1 (one_list w.place p q v l y ∙ one_list w.place q 0 u x k))
      go (under_task p f l) (under_main e k) = absurd ((are.not_main a.parent p f).1 (one_list w.place p q u l x ∙ one_list w.place q 0 v y k))
      go (under_task p f l) (under_task p' f' l') =
          are.one_task a.parent b.parent p f (subst (λ z. entry b.parent z) (one_list w.place p' q v l' y ∙ one_list w.place q p u x l) f')

  pub list_of : (t v : ℕ) → entry t v → (q : ℕ) × IsBelow w.place q v
  list_of t v r = go (under_of t v r (are.opened t v r))
    where
      go : IsUnder entry w (are.opened t v r).entry.parent v → (q : ℕ) × IsBelow w.place q v
      go (under_main e b) = (0, b)
      go (under_task p k b) = (p, b)

  earlier_back : (t x v y : ℕ) → entry t v → entry x y → IsBefore w.place v y → opens_of.IsEarlier opens c t x
  earlier_back t x v y r q b = go (in_order h.listed k.listed)
    where
      h : HasOpened opens c t
      h = are.opened t v r

      k : HasOpened opens c x
      k = are.opened x y q

      r' : entry h.entry.task v
      r' = subst (λ z. entry z v) (sym h.number) r

      q' : entry k.entry.task y
      q' = subst (λ z. entry z y) (sym k.number) q

      l : (z : ℕ) × IsBelow w.place z y
      l = list_of x y q

      same : h.entry.parent ≡ k.entry.parent
      same = same_creator l.0 h.entry k.entry v y h.listed k.listed h.named k.named r' q' (listed_before w.place l.0 v y l.1 b) l.1

      below_itself : v < y
      below_itself = rises w are.wired v y b

      go : (h.entry ≡ k.entry) ⊎ (Precedes h.entry k.entry opens ⊎ Precedes k.entry h.entry opens) → opens_of.IsEarlier opens c t x
      go (inl e) = absurd (let g = are.one_number k.entry.task v y (subst (λ (z : Open). entry z.task v) e r') q' in let j = below_itself in omega (arith, g, j))
      go (inr (inl p)) = record { before = h.entry; after = k.entry; order = p; number = h.number; after_number = k.number; siblings = same; named = h.named }
      go (inr (inr p)) = absurd (let g = rises w are.wired y v (are.order k.entry h.entry y v p (sym same) k.named h.named q' r') in let j = below_itself in omega (arith, g, j))

  pub held_matches : Matches (opened_forest opens given c) (wired w) entry
  held_matches = record {
    top = λ t v r. (top_forth t v r, top_back t v r);
    child = λ t x v y r q. (child_forth t x v y r q, λ k. child_back t x v y r q k.1);
    earlier = λ t x v y r q. (earlier_forth t x v y r q, earlier_back t x v y r q);
    mode = λ t v r. are.mode t v r;
    given = λ t v r. (λ h. sym (are.gave t v r) ∙ h, λ h. are.gave t v r ∙ h);
    forth = λ t x v r k. forth_of t x v r k;
    back = λ t v y r k. back_of t v y r k;
  }
    where
      forth_of : (t x v : ℕ) → entry t v → IsNear (opened_forest opens given c) t x → (y : ℕ) × entry x y
      forth_of t x v r (above k) = are.held x k.above
      forth_of t x v r (below k) = are.held x k.opened
      forth_of t x v r (before k) = are.held x (record { entry = k.before; listed = precedes_in k.order; number = k.number; named = k.named })

      up_of : (t v y : ℕ) → entry t v → (y ≡ 0 → ⊥) → IsBelow w.place y v → (x : ℕ) × entry x y
      up_of t v y r n b = go (under_of t v r (are.opened t v r))
        where
          go : IsUnder entry w (are.opened t v r).entry.parent v → (x : ℕ) × entry x y
          go (under_main e k) = absurd (n (one_list w.place y 0 v b k))
          go (under_task p q k) = ((are.opened t v r).entry.parent, subst (λ z. entry (are.opened t v r).entry.parent z) (one_list w.place p y v k b) q)

      back_of : (t v y : ℕ) → entry t v → IsNear (wired w) v y → (x : ℕ) × entry x y
      back_of t v y r (above k) = up_of t v y r k.0 k.1
      back_of t v y r (below k) = are.hung v y k.1
      back_of t v y r (before k) = let l = list_of t v r in are.hung l.0 y (listed_before w.place l.0 y v l.1 k)
