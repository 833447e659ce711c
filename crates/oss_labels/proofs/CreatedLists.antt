-- Where creations lead that stand among instructions.
use Rattle.std.proofs.Common.{◌≡◌, ◌∙◌, ℕ, ◌+◌, List, [], ◌∷◌, ◌++◌, length, map, refl, sym, ap, arith, append_assoc}
use Rattle.std.proofs.lemmas.List.{append-nil}
use Rattle.oss_code.specs.declared.instr.Instr.{Instr}
use Rattle.oss_lower_laws.specs.declared.lined.Lined.{Lined}
use Rattle.oss_lower_laws.specs.ExpressionCode.{one}
use Rattle.oss_labels.specs.Creations.{created_at, creations}

-- where those lead that stand in a listing, the first instruction of which stands here
abbrev pub made : ℕ → List Lined → List ℕ
made at ls = creations at (map (λ l. l.what) ls)

pub made_append : (at mid : ℕ) (xs ys : List Lined) → mid ≡ at + length xs → made at (xs ++ ys) ≡ made at xs ++ made mid ys
made_append at mid [] ys e = ap (λ n. made n ys) (omega (arith, e))
made_append at mid (x ∷ xs) ys e =
    ap (λ l. created_at at x.what ++ l) (made_append (at + 1) mid xs ys (omega (arith, e))) ∙ sym (append_assoc (created_at at x.what) (made (at + 1) xs) (made mid ys))

-- An instruction that creates nothing.
abbrev pub IsQuiet : Instr → Type 0
IsQuiet what = (at : ℕ) → created_at at what ≡ []

-- No instruction here creates a task, wherever they stand.
pub record IsPlain (ls : List Lined) : Type 0 where
  pub none : (at : ℕ) → made at ls ≡ []

pub plain_none : IsPlain []
plain_none = record { none = λ at. refl }

pub plain_one : (line depth : ℕ) (what : Instr) → IsQuiet what → IsPlain (one line depth what)
plain_one line depth what quiet = record { none = λ at. ap (λ l. l ++ []) (quiet at) }

pub plain_then : {xs ys : List Lined} → IsPlain xs → IsPlain ys → IsPlain (xs ++ ys)
plain_then {xs = xs} {ys = ys} h k = record { none = λ at. made_append at (at + length xs) xs ys refl ∙ ap (λ l. l ++ made (at + length xs) ys) (h.none at) ∙ k.none (at + length xs) }

-- behind instructions that create nothing, and before them
pub made_behind : (at mid : ℕ) (xs ys : List Lined) → mid ≡ at + length xs → IsPlain xs → made at (xs ++ ys) ≡ made mid ys
made_behind at mid xs ys e plain = made_append at mid xs ys e ∙ ap (λ l. l ++ made mid ys) (plain.none at)

pub made_before : (at : ℕ) (xs ys : List Lined) → IsPlain ys → made at (xs ++ ys) ≡ made at xs
made_before at xs ys plain = made_append at (at + length xs) xs ys refl ∙ ap (λ l. made at xs ++ l) (plain.none (at + length xs)) ∙ append-nil (made at xs)
