-- Lists in which an item is changed, and lists that end.
use Rattle.std.proofs.Common.{◌≡◌, ◌≤◌, ℕ, zero, suc, ◌+◌, ◌-◌, List, [], ◌∷◌, ◌++◌, length, drop, get_or, refl, ap, arith, ◌∙◌, length-append}
use Rattle.std.proofs.lemmas.List.{take-map}
use Rattle.std.specs.Prelude.{slice_set}
use Rattle.oss_code.specs.declared.instr.Instr.{Instr}
use Rattle.oss_lower_laws.specs.declared.lined.Lined.{Lined}
use Rattle.oss_lower_expressions.specs.declared.listing.Jump.{Jump}
use Rattle.oss_lower_laws.specs.ExpressionCode.{one}
use Rattle.oss_lower_expressions.specs.Jumps.{jump_by}

pub put-at : {X : Type 0} (before after : List X) (l m : X) → slice_set (before ++ (l ∷ after)) (length before) m ≡ before ++ (m ∷ after)
put-at [] after l m = refl
put-at (x ∷ before) after l m = ap (λ xs. x ∷ xs) (put-at before after l m)

pub left-behind : {X : Type 0} (before after : List X) (l : X) → length (before ++ (l ∷ after)) - (length before + 1) ≡ length after
left-behind before after l = let e = length-append before (l ∷ after) in omega arith

pub ruleset put = (put-at, left-behind)

got-at : {X : Type 0} (before after : List X) (l d : X) → get_or (before ++ (l ∷ after)) (length before) d ≡ l
got-at [] after l d = refl
got-at (x ∷ before) after l d = got-at before after l d

-- a jump that is filled in
pub refilled : (xs before after : List Lined) (l r : Lined) (at passed more : ℕ) (j : Jump) (what : Instr) → xs ≡ before ++ (l ∷ after) → at ≡ length before → r ≡ get_or xs at r
    → what ≡ jump_by j passed → passed ≡ length xs - (at + 1) + more
    → slice_set xs at (record { what = what; line = r.line; depth = r.depth }) ≡ before ++ (one l.line l.depth (jump_by j (length after + more)) ++ after)
refilled xs before after l r at passed more j what is at_is read told count =
    let whole = before ++ (l ∷ after) in
    let here : r ≡ l = read ∙ ap (λ ys. get_or ys at r) is ∙ ap (λ k. get_or whole k r) at_is ∙ got-at before after l r in
    let size : passed ≡ length after + more =
    count ∙ ap (λ ys. length ys - (at + 1) + more) is ∙ ap (λ k. length whole - (k + 1) + more) at_is ∙ ap (λ n. n + more) (left-behind before after l) in
    let put : Lined = record { what = what; line = r.line; depth = r.depth } in
    ap (λ ys. slice_set ys at put) is ∙ ap (λ k. slice_set whole k put) at_is ∙ put-at before after l put
    ∙ ap (λ w. before ++ (record { what = w; line = r.line; depth = r.depth } ∷ after)) (told ∙ ap (jump_by j) size)
    ∙ ap (λ x. before ++ (record { what = jump_by j (length after + more); line = x.line; depth = x.depth } ∷ after)) here

pub ruleset shorter = (take-map)

pub drop-end : {X : Type 0} (xs : List X) (i : ℕ) → length xs ≤ i → drop i xs ≡ []
drop-end [] zero h = refl
drop-end [] (suc i) h = refl
drop-end (x ∷ xs) zero h = absurd (omega arith)
drop-end (x ∷ xs) (suc i) h = drop-end xs i (omega arith)

pub ruleset none_left = (drop-end)
