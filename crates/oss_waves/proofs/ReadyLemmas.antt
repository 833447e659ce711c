-- The parts of bodies that stand before them are the parts of these bodies.
use Rattle.std.proofs.Common.{◌≡◌, ℕ, ◌+◌, List, [], ◌∷◌, ◌++◌, length, Result, Ok, Err, ap, sym, subst, arith}
use Rattle.std.specs.Prelude.{Vec, IfOk}
use Rattle.std.specs.declared.alloc.AllocError.{AllocError}
use Rattle.std.specs.declared.alloc.Global.{Global}
use Rattle.oss_code.specs.declared.code.CodeParts.{CodeParts}
use Rattle.oss_body.specs.declared.body.Body.{Body}
use Rattle.oss_thread_groups.specs.Groups.{AreGiven}
use Rattle.oss_model.specs.Order.{IsIn, here, there}
use Rattle.oss_segment.specs.Segments.{IsKnown}
use Rattle.oss_segment.specs.declared.ready.Ready.{Ready}
use Rattle.oss_segment.specs.declared.segment.Segment.{Segment}
use Rattle.oss_core.specs.Turns.{ArePartsOf, IsPartOf}
use Rattle.oss_waves.specs.Readies.{IsReady}

-- one by one
each_part : (code : CodeParts) (memory : List ℕ) (bodies : List Body) (readies : List Ready) (parts : List Segment) → AreGiven (IsReady code) bodies readies → AreGiven (λ (one : Ready) (part : Segment). IsPartOf one.code.now memory one.body part) readies parts
    → ArePartsOf code memory bodies parts
each_part code memory [] [] [] r p = tt
each_part code memory [] [] (s ∷ ss) r p = absurd p
each_part code memory [] (x ∷ xs) parts r p = absurd r
each_part code memory (b ∷ bs) [] parts r p = absurd r
each_part code memory (b ∷ bs) (x ∷ xs) [] r p = absurd p
each_part code memory (b ∷ bs) (x ∷ xs) (s ∷ ss) r p = (
  subst (λ (k : CodeParts). IsPartOf k memory b s) r.0.code_is (subst (λ (y : Body). IsPartOf x.code.now memory y s) r.0.body_is p.0),
  each_part code memory bs xs ss r.1 p.1,
)

pub parts_are : (code : CodeParts) (memory : List ℕ) (bodies : List Body) (readies : List Ready) (result : Result (Vec Segment Global) AllocError) → AreGiven (IsReady code) bodies readies
    → IfOk result (λ done. AreGiven (λ (one : Ready) (part : Segment). IsPartOf one.code.now memory one.body part) readies done.items) → IfOk result (λ parts. ArePartsOf code memory bodies parts.items)
parts_are code memory bodies readies (Ok done) r p = each_part code memory bodies readies done.items r p
parts_are code memory bodies readies (Err error) r p = tt

-- one part more, of one body more
pub parts_more : (code : CodeParts) (memory : List ℕ) (bodies : List Body) (parts now : List Segment) (b : Body) (s : Segment) → now ≡ parts ++ (s ∷ []) → ArePartsOf code memory bodies parts → IsPartOf code memory b s → ArePartsOf code memory (bodies ++ (b ∷ [])) now
parts_more code memory bodies parts now b s e are is = subst (λ (all : List Segment). ArePartsOf code memory (bodies ++ (b ∷ [])) all) (sym e) (go bodies parts are)
  where
    go : (xs : List Body) (ys : List Segment) → ArePartsOf code memory xs ys → ArePartsOf code memory (xs ++ (b ∷ [])) (ys ++ (s ∷ []))
    go [] [] p = (is, tt)
    go [] (y ∷ ys) p = absurd p
    go (x ∷ xs) [] p = absurd p
    go (x ∷ xs) (y ∷ ys) p = (p.0, go xs ys p.1)

-- what is so of all bodies that are left is so of the first
pub first_known : (code : CodeParts) (all : List Body) (b : Body) (rest : List Body) → all ≡ b ∷ rest → ((x : Body) → IsIn x all → IsKnown code x) → IsKnown code b
first_known code all b rest e h = h b (subst (λ (xs : List Body). IsIn b xs) (sym e) here)

-- and of those behind it
pub rest_known : (code : CodeParts) (all : List Body) (b : Body) (rest : List Body) → all ≡ b ∷ rest → ((x : Body) → IsIn x all → IsKnown code x) → (x : Body) → IsIn x rest → IsKnown code x
rest_known code all b rest e h x i = h x (subst (λ (xs : List Body). IsIn x xs) (sym e) (there i))

-- of which there is one less
pub one_less : (all : List Body) (b : Body) (rest : List Body) (m n : ℕ) → all ≡ b ∷ rest → n + 1 ≡ m → m ≡ length all → n ≡ length rest
one_less all b rest m n e f g = let k : length all ≡ length (b ∷ rest) = ap (λ (xs : List Body). length xs) e in let j : length (b ∷ rest) ≡ length rest + 1 = omega arith in omega (arith, f, g, k, j)
