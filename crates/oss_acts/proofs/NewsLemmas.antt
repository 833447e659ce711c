-- Deliveries, one after the other.
use Rattle.std.proofs.Common.{◌≡◌, refl, sym, subst, ap, ◌∙◌, ℕ, List, [], ◌∷◌, ◌++◌, Option}
use Rattle.oss_field.specs.Folding.{Folded}
use Rattle.oss_field.specs.Known.{Known}
use Rattle.oss_field.specs.Messages.{Delivered}
use Rattle.oss_acts.specs.News.{Delivers, delivered_more, joined_more, nothing_yet, told_by}
use Rattle.oss_acts.specs.Working.{SameWork}

append_none : (xs : List ℕ) → xs ++ [] ≡ xs
append_none [] = refl
append_none (x ∷ xs) = ap (λ (z : List ℕ). x ∷ z) (append_none xs)

append_again : (xs ys zs : List ℕ) → (xs ++ ys) ++ zs ≡ xs ++ (ys ++ zs)
append_again [] ys zs = refl
append_again (x ∷ xs) ys zs = ap (λ (z : List ℕ). x ∷ z) (append_again xs ys zs)

-- What deliveries tell, in addition to what was told.
abbrev pub Tells : Known → Known → List ℕ → List ℕ → Type 0
Tells k l xs ys = (told : List ℕ) × Delivers k l told × (ys ≡ xs ++ told)

pub tells_none : (k : Known) (xs : List ℕ) → Tells k k xs xs
tells_none k xs = ([], nothing_yet refl refl, sym (append_none xs))

pub tells_join : (k l : Known) (entry : ℕ) (xs : List ℕ) → Folded entry k l → Tells k l xs xs
tells_join k l entry xs f = ([], joined_more entry (nothing_yet refl refl) f, sym (append_none xs))

pub tells_one : (k l : Known) (freed : Option ℕ) (xs ys : List ℕ) → Delivered k l freed → ys ≡ xs ++ told_by freed → Tells k l xs ys
tells_one k l freed xs ys d e = (told_by freed, delivered_more freed (nothing_yet {told = []} refl refl) d refl, e)

delivers_on : (k l m : Known) (a b : List ℕ) → Delivers k l a → Delivers l m b → Delivers k m (a ++ b)
delivers_on k l m a b d (nothing_yet same none) =
    subst (λ (z : Known). Delivers k z (a ++ b)) (sym same) (subst (λ (z : List ℕ). Delivers k l z) (sym (ap (λ (z : List ℕ). a ++ z) none ∙ append_none a)) d)
delivers_on k l m a b d (delivered_more {m = n} {before = c} freed e x told) =
    delivered_more freed (delivers_on k l n a c d e) x (ap (λ (z : List ℕ). a ++ z) told ∙ sym (append_again a c (told_by freed)))
delivers_on k l m a b d (joined_more {m = n} entry e x) = joined_more entry (delivers_on k l n a b d e) x

pub tells_more : (k l m : Known) (xs ys zs : List ℕ) → Tells k l xs ys → Tells l m ys zs → Tells k m xs zs
tells_more k l m xs ys zs t u =
    (t.0 ++ u.0, delivers_on k l m t.0 u.0 t.1 u.1, u.2 ∙ (ap (λ (z : List ℕ). z ++ u.0) t.2 ∙ append_again xs t.0 u.0))

pub same_none : (k : Known) → SameWork k k
same_none k = record { bears = refl; makes = refl; plans = refl; unlinked = refl; drawn = refl; seen = refl; still = refl; loaded = refl; ready = refl; failed = refl }

pub same_more : (k l m : Known) → SameWork k l → SameWork l m → SameWork k m
same_more k l m a b = record {
  bears = b.bears ∙ a.bears;
  makes = b.makes ∙ a.makes;
  plans = b.plans ∙ a.plans;
  unlinked = b.unlinked ∙ a.unlinked;
  drawn = b.drawn ∙ a.drawn;
  seen = b.seen ∙ a.seen;
  still = b.still ∙ a.still;
  loaded = b.loaded ∙ a.loaded;
  ready = b.ready ∙ a.ready;
  failed = b.failed ∙ a.failed;
}
