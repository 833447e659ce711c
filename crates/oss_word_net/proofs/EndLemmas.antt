-- All words of a closed table, and what they tell if it had one seat.
use Rattle.std.proofs.Common.{◌≡◌, inl, inr, sym, subst, refl, ◌∙◌, ap, ℕ, zero, suc, ◌<◌, ◌+◌, ◌*◌, arith, List, [], ◌∷◌, ◌++◌, length, get_or}
use Rattle.std.specs.Prelude.{slice_index}
use mathlib.Core.Option as maybe
use lib.ListN.{get_elem?}
use Rattle.atomic_table.specs.Table.{State, Final, Seen}
use Rattle.oss_words.proofs.SumLemmas.{same_number}
use Rattle.oss_words.specs.Net.{Place}
use Rattle.oss_words.specs.Views.{View, Among, Named, named, Released, released}
use Rattle.oss_word_net.specs.declared.sight.Sight.{Sight}
use Rattle.oss_word_net.specs.Ended.{Ended}
use Rattle.oss_word_net.proofs.TableLemmas.{view_at}
use Rattle.oss_word_net.specs.Table.{Filled, filled, Sits, Stands, views_of}

-- lists of one length with the same items
pub lists_same : (xs ys : List ℕ) → length xs ≡ length ys → ((i : ℕ) → i < length xs → slice_index xs i ≡ slice_index ys i) → xs ≡ ys
lists_same [] [] size same = refl
lists_same [] (y ∷ ys) size same = absurd (omega (arith, size))
lists_same (x ∷ xs) [] size same = absurd (omega (arith, size))
lists_same (x ∷ xs) (y ∷ ys) size same =
    let head : x ≡ y = same 0 (omega arith) in
    let tail = lists_same xs ys (omega (arith, size)) (λ i l. same (suc i) (omega (arith, l))) in
    (λ k. head k ∷ tail k)

before_end : (xs : List ℕ) (w e : ℕ) → e < length xs → get_or (xs ++ w ∷ []) e 0 ≡ get_or xs e 0
before_end [] w e h = absurd (omega (arith, h))
before_end (x ∷ xs) w zero h = refl
before_end (x ∷ xs) w (suc e) h = before_end xs w e (omega (arith, h))

at_end : (xs : List ℕ) (w : ℕ) → get_or (xs ++ w ∷ []) (length xs) 0 ≡ w
at_end [] w = refl
at_end (x ∷ xs) w = at_end xs w

index_is : (ws : List ℕ) (i w : ℕ) → get_elem? ws i ≡ maybe.some w → get_or ws i 0 ≡ w
index_is [] i w q = absurd (maybe.some-ne-none w (sym q))
index_is (x ∷ ws) zero w q = maybe.some-injective x w q
index_is (x ∷ ws) (suc i) w q = index_is ws i w q

-- one word more was copied
pub copied : (xs ws ys : List ℕ) (w n : ℕ) → length xs ≡ n → ((e : ℕ) → e < n → slice_index xs e ≡ slice_index ws e) → get_elem? ws n ≡ maybe.some w → ys ≡ xs ++ w ∷ []
    → (e : ℕ) → e < n + 1 → slice_index ys e ≡ slice_index ws e
copied xs ws ys w n size old is q e inside = ap (λ (z : List ℕ). slice_index z e) q ∙ elim (same_number e n) [
  | inl s ↦ ap (λ (k : ℕ). get_or (xs ++ w ∷ []) k 0) (s ∙ sym size) ∙ at_end xs w ∙ sym (index_is ws n w is) ∙ ap (λ (k : ℕ). slice_index ws k) (sym s)
  | inr ne ↦ let less : e < n = grind (arith, inside, ne) in before_end xs w e (omega (arith, less, size)) ∙ old e less
]

-- the one seat
only_sight : (sights : List Sight) (s : Sight) → Sits sights 0 s → length (views_of sights) ≡ 1 → sights ≡ s ∷ []
only_sight [] s at size = absurd (maybe.some-ne-none s (sym at))
only_sight (x ∷ []) s at size = ap (λ (z : Sight). z ∷ []) (maybe.some-injective x s at)
only_sight (x ∷ y ∷ r) s at size = absurd (omega (arith, size))

module _ (n : ℕ) (ws : List ℕ) (s : Sight) (stands : Stands n ws (s ∷ [])) where
  here : (id : ℕ) (v : View) → get_elem? (s.known.view ∷ []) id ≡ maybe.some v → s.known.view ≡ v
  here zero v at = maybe.some-injective s.known.view v at
  here (suc id) v at = absurd (maybe.some-ne-none v (sym at))

  sits : (id : ℕ) (t : Sight) → Sits (s ∷ []) id t → s ≡ t
  sits zero t at = maybe.some-injective s t at
  sits (suc id) t at = absurd (maybe.some-ne-none t (sym at))

  link_is : (e : ℕ) (p : Place) → Named (s.known.view ∷ []) e p → Among (record { entry = e; place = p }) s.known.view.links
  link_is e p (named id v at a) = subst (λ (z : View). Among (record { entry = e; place = p }) z.links) (sym (here id v at)) a

  give_is : (e : ℕ) → Released (s.known.view ∷ []) e → Among e s.known.view.gives
  give_is e (released id v at a) = subst (λ (z : View). Among e z.gives) (sym (here id v at)) a

  not_filled : s.known.filling ≡ [] → (e : ℕ) → Filled (s ∷ []) e → ⊥
  not_filled none e (filled id t at f fs q is) = let c : f ∷ fs ≡ [] = sym q ∙ ap (λ (z : Sight). z.known.filling) (sym (sits id t at)) ∙ none in absurd (let bad : ⊥ = cc in bad)

  ends : s.known.view.held ≡ [] → s.known.view.half ≡ [] → s.known.filling ≡ [] → Ended n ws s.known
  ends held half none = record {
    held = held;
    half = half;
    net = stands.net;
    gave = stands.gave;
    size = stands.size;
    kept = stands.rule.kept;
    links = λ e h. link_is e (stands.net.place e) (stands.rule.seats.link_named e h);
    linked = λ e p a. stands.rule.seats.named_link 0 s.known.view refl (record { entry = e; place = p }) a;
    gives = λ e g. give_is e (stands.rule.seats.give_named e g);
    given = λ e a. stands.rule.seats.named_give 0 s.known.view refl e a;
    told = λ t a. ((stands.knows 0 s refl).told t a).1;
    whole = stands.whole;
    neat = stands.neat;
    blank = λ e h. elim (stands.blank e h) [ inl q ↦ q | inr f ↦ absurd (not_filled none e f) ];
  }

-- the words of a table that was closed with its one seat, if they were copied
pub table_ends : (n : ℕ) (s : Sight) (ws xs vs : List ℕ) → Final (Seen (λ (t : State ℕ Sight). Stands n t.words t.views) 0 s) ws xs → s.known.view.splits ≡ 0 → s.known.view.held ≡ [] → s.known.view.half ≡ [] → s.known.filling ≡ []
    → length vs ≡ 1 + 2 * n → ((i : ℕ) → i < 1 + 2 * n → slice_index vs i ≡ slice_index ws i) → Ended n vs s.known
table_ends n s ws xs vs final whole held half none long same =
    let t : State ℕ Sight = final.0 in
    let stands = final.1.0 in
    let size = stands.rule.seats.seats s.known.view (view_at t.views 0 s final.1.1) in
    let one = only_sight t.views s final.1.1 (omega (arith, size, whole)) in
    let words : vs ≡ t.words = lists_same vs t.words (long ∙ sym stands.size) (λ i l. same i (omega (arith, l, long)) ∙ ap (λ (w : List ℕ). slice_index w i) (sym final.2)) in
    subst (λ (w : List ℕ). Ended n w s.known) (sym words) (ends n t.words s (subst (λ (z : List Sight). Stands n t.words z) one stands) held half none)
