-- The bits beside a link say what they are to say of the two modes.
use Rattle.std.proofs.Common.{◌≡◌, ◌≢◌, ◌⊎◌, inl, inr, sym, refl, ◌∙◌, ap, arith, Bool, true, false, ◌&&◌, ◌==◌}
use Rattle.std.proofs.lemmas.Bool.Decides.{eqb_tells}
use Rattle.oss_syntax.specs.declared.access.Mode.{Mode}
use Rattle.oss_syntax.specs.declared.access.Mode.TheVariants.{Read, Write, Fold}
use Rattle.oss_syntax.specs.declared.access.Op.{Op}
use Rattle.oss_syntax.specs.declared.access.Op.TheVariants.{Add, And, Or, Xor}
use Rattle.oss_words.specs.Bits.{mode_number, op_number, op_at}
use Rattle.oss_words.specs.Causes.{is_fold}
use Rattle.oss_words.specs.Steps.{Compares}
use Rattle.oss_words.proofs.CauseLemmas.{and_true, clash}
use Rattle.oss_field.specs.Masks.{same_fold}

op_back : (op : Op) → op_at (op_number op) ≡ op
op_back Add = refl
op_back And = refl
op_back Or = refl
op_back Xor = refl

-- modes of one number are one
mode_of : (a b : Mode) → mode_number a ≡ mode_number b → a ≡ b
mode_of Read Read q = refl
mode_of Read Write q = absurd (omega (arith, q))
mode_of Read (Fold op) q = absurd (omega (arith, q))
mode_of Write Read q = absurd (omega (arith, q))
mode_of Write Write q = refl
mode_of Write (Fold op) q = absurd (omega (arith, q))
mode_of (Fold op) Read q = absurd (omega (arith, q))
mode_of (Fold op) Write q = absurd (omega (arith, q))
mode_of (Fold a) (Fold b) q = let p : op_number a ≡ op_number b = omega (arith, q) in ap (λ z. Fold z) (sym (op_back a) ∙ ap op_at p ∙ op_back b)

pub compares : (a b : Mode) → Compares a b (is_fold b) (same_fold a b)
compares a b = record {
  folds = refl;
  alike = λ y. sym (mode_of a b (is_equal (mode_number a == mode_number b) (eqb_tells (mode_number a) (mode_number b)) (and_true (is_fold b) (mode_number a == mode_number b) y).1));
  unlike = λ y op f same. differ y op f same (mode_number a == mode_number b) (eqb_tells (mode_number a) (mode_number b)) refl;
}
  where
    is_equal : (t : Bool) → ((t ≡ true) × (mode_number a ≡ mode_number b)) ⊎ ((t ≡ false) × (mode_number a ≢ mode_number b)) → t ≡ true → mode_number a ≡ mode_number b
    is_equal t (inl e) q = e.1
    is_equal t (inr e) q = absurd (clash q e.0)

    differ : same_fold a b ≡ false → (op : Op) → b ≡ Fold op → b ≡ a → (t : Bool) → ((t ≡ true) × (mode_number a ≡ mode_number b)) ⊎ ((t ≡ false) × (mode_number a ≢ mode_number b)) → (mode_number a == mode_number b) ≡ t → ⊥
    differ y op f same t (inr e) q = e.1 (ap mode_number (sym same))
    differ y op f same t (inl e) q = clash (ap (λ (z : Mode). is_fold z && (mode_number a == mode_number b)) f ∙ q ∙ e.0) y
