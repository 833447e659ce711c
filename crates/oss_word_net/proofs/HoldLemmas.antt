-- The messages that a seat has ready, and those that its view tells of.
use Rattle.std.proofs.Common.{◌≡◌, inl, inr, subst, refl, ◌∙◌, ap, ℕ, zero, suc, ◌<◌, ◌≤◌, ◌+◌, arith, List, [], ◌∷◌, ◌++◌, map, drop, length, get_or}
use Rattle.oss_words.specs.declared.message.Message.{Message}
use Rattle.oss_words.specs.Bits.{info_at}
use Rattle.oss_words.specs.Members.{Has, only}
use Rattle.oss_words.specs.Sums.{total}
use Rattle.oss_words.specs.Views.{among_first, among_later}
use Rattle.oss_words.proofs.CauseLemmas.{total_has, only_is}
use Rattle.oss_words.proofs.SeatLemmas.{among_append}
use Rattle.oss_word_net.specs.declared.held.Held.{Held}
use Rattle.oss_word_net.specs.Known.{Known}
use Rattle.oss_word_net.specs.Moves.{informed}
use Rattle.oss_word_net.specs.Plays.{Bounded}
use Rattle.oss_word_net.specs.Standing.{message_of, Ready, Learns}

pub ones : {A : Type 0} (xs : List A) → total (λ (x : A). 1) xs ≡ length xs
ones [] = refl
ones (x ∷ xs) = let a = ones xs in omega (arith, a)

length_map : (xs : List Held) → length (map message_of xs) ≡ length xs
length_map [] = refl
length_map (x ∷ xs) = ap suc (length_map xs)

-- at most 390 are ready
pub few : (held : List Held) (rest : List Message) (k : Known) → Ready held rest k → Bounded k → length held ≤ 390
few held rest k ready bound =
    let a = ready.same (λ m. 1) in let b = ones (map message_of held) in let c = length_map held in let d = ones k.view.held in let e = bound.room in
    omega (arith, a, b, c, d, e)

drop_is : {A : Type 0} (xs : List A) (i : ℕ) (d : A) → i < length xs → drop i xs ≡ get_or xs i d ∷ drop (i + 1) xs
drop_is [] i d h = absurd (omega (arith, h))
drop_is (x ∷ xs) zero d h = refl
drop_is (x ∷ xs) (suc i) d h = let q : suc (i + 1) ≡ suc i + 1 = omega arith in drop_is xs i d (omega (arith, h)) ∙ ap (λ (k : ℕ). get_or xs i d ∷ drop k (x ∷ xs)) q

-- a message that is not ready yet is held
pub waits : (held : List Held) (messages : List Message) (at : ℕ) (d : Message) (k : Known) → at < length messages → Ready held (drop at messages) k → Has (get_or messages at d) k.view.held
waits held messages at d k inside ready =
    let m : Message = get_or messages at d in
    let a = ready.same (only m) in
    let b : total (only m) (drop at messages) ≡ only m m + total (only m) (drop (at + 1) messages) = ap (λ xs. total (only m) xs) (drop_is messages at d inside) in
    let c = only_is m m refl refl in
    total_has m k.view.held (omega (arith, a, b, c))

-- one more is ready
pub one_more : (held : List Held) (messages : List Message) (at : ℕ) (d : Message) (k : Known) (w : ℕ) → at < length messages → Ready held (drop at messages) k
    → Ready (held ++ record { entry = (get_or messages at d).entry; flag = (get_or messages at d).flag; info = w } ∷ []) (drop (at + 1) messages) (informed (get_or messages at d).entry w k)
one_more held messages at d k w inside ready =
    let m : Message = get_or messages at d in
    let one : Held = record { entry = m.entry; flag = m.flag; info = w } in record {
      same = λ h.
          let a = ready.same h in
          let b : total h (drop at messages) ≡ h m + total h (drop (at + 1) messages) = ap (λ xs. total h xs) (drop_is messages at d inside) in
          let c = sums h held one in
          omega (arith, a, b, c);
      told = λ x a. elim (among_append x held (one ∷ []) a) [
        | inl k ↦ among_later (ready.told x k)
        | inr k ↦ elim k [
          | among_first q ↦ among_first (λ i. record { entry = (q i).entry; info = info_at ((q i).info) })
          | among_later l ↦ elim l [ ]
        ]
      ];
    }
  where
    sums : (h : Message → ℕ) (xs : List Held) (x : Held) → total h (map message_of (xs ++ x ∷ [])) ≡ total h (map message_of xs) + h (message_of x)
    sums h [] x = omega arith
    sums h (y ∷ xs) x = let a = sums h xs x in omega (arith, a)

pub learns_one : (k : Known) (e w : ℕ) → Learns k (informed e w k)
learns_one k e w = record { added = refl; view = refl; entries = refl; filling = refl; told = λ t a. among_later a }

pub learns_none : (k : Known) → Learns k k
learns_none k = record { added = refl; view = refl; entries = refl; filling = refl; told = λ t a. a }

pub learns_more : (a b c : Known) → Learns a b → Learns b c → Learns a c
learns_more a b c f g = record { added = g.added ∙ f.added; view = g.view ∙ f.view; entries = g.entries ∙ f.entries; filling = g.filling ∙ f.filling; told = λ t m. g.told t (f.told t m) }

-- what is bounded stays so
pub still_bounded : (a b : Known) → Learns a b → Bounded a → Bounded b
still_bounded a b f bound = record {
  room = (let x = bound.room in let y = ap (λ v. length v.held) f.view in omega (arith, x, y));
  names = λ m h. let k = bound.names m (subst (λ v. Has m v.held) f.view h) in ((let x = k.0 in let y = f.entries in omega (arith, x, y)), k.1, k.2);
}
