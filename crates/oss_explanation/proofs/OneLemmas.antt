-- What is told of an ask, of cells that fail and of what a task has is one.
use Rattle.std.proofs.Common.{◌≡◌, ◌≤◌, ℕ, Bool, List, [], ◌∷◌, Option, refl, sym, ◌∙◌, ap, arith}
use Rattle.oss_syntax.specs.declared.tree.program.Item.{Item}
use Rattle.oss_model.specs.Bodies.{Ask}
use Rattle.oss_model.specs.Context.{in_clauses}
use Rattle.oss_pieces.specs.declared.piece.Piece.{Piece}
use Rattle.oss_pieces.proofs.OneListLemmas.{one_list}
use Rattle.oss_explanation.specs.declared.explained.Deed.{Deed}
use Rattle.oss_explanation.specs.declared.explained.Deed.TheVariants as deed
use Rattle.oss_explanation.specs.declared.explained.Failing.{Failing}
use Rattle.oss_explanation.specs.declared.explained.Held.{Held}
use Rattle.oss_explanation.specs.declared.explained.Word.{Word}
use Rattle.oss_explanation.specs.Explanations.{IsDeed}
use Rattle.oss_explanation.specs.Explanations.IsDeed.{awaits, begins, calls, creates, divides, folds, misses, reads, releases, shifts, ticks, waits_on, writes}
use Rattle.oss_explanation.specs.Held.{AreFailing, AreHeld, is_word}
use Rattle.oss_explanation.specs.Held.AreHeld.{no_cell, none, some}

-- an ask
pub one_deed : {S : Type 0} (all : List Item) (ask : Ask S) (d e : Deed) → IsDeed all ask d → IsDeed all ask e → d ≡ e
one_deed all _ _ _ ticks ticks = refl
one_deed all _ _ _ reads reads = refl
one_deed all _ _ _ writes writes = refl
one_deed all _ _ _ folds folds = refl
one_deed all _ _ _ begins begins = refl
one_deed all _ _ _ creates creates = refl
one_deed all _ _ _ (releases {clauses = clauses} {ps = ps} a) (releases {ps = qs} b) = ap deed.Releases (one_list (in_clauses clauses) all 0 0 ps qs a b)
one_deed all _ _ _ (waits_on {named = named} {ps = ps} a) (waits_on {ps = qs} b) = ap deed.WaitsOn (one_list (in_clauses named) all 0 0 ps qs a b)
one_deed all _ _ _ calls calls = refl
one_deed all _ _ _ divides divides = refl
one_deed all _ _ _ shifts shifts = refl
one_deed all _ _ _ (misses m) (misses n) = refl
one_deed all _ _ _ awaits awaits = refl
one_deed all _ _ _ calls (misses m) = absurd m
one_deed all _ _ _ (misses m) calls = absurd m
one_deed all _ _ _ divides (misses m) = absurd m
one_deed all _ _ _ (misses m) divides = absurd m
one_deed all _ _ _ shifts (misses m) = absurd m
one_deed all _ _ _ (misses m) shifts = absurd m

-- two numbers, neither of which is below the other
level : (m n : ℕ) → m ≤ n → n ≤ m → m ≡ n
level m n a b = omega arith

-- cells that fail, by their parts
failing_is : (f g : Failing) → f.first ≡ g.first → f.all ≡ g.all → f ≡ g
failing_is f g p q =
    let made : ℕ → List Piece → Failing = λ n ps. record { first = n; all = ps } in
    ap (λ n. made n f.all) p ∙ ap (λ ps. made g.first ps) q

-- cells that fail
pub one_failing : (all : List Item) (test : ℕ → Bool) (f g : Failing) → AreFailing all test f → AreFailing all test g → f ≡ g
one_failing all test f g a b =
    failing_is f g (level f.first g.first (a.least g.first b.fails) (b.least f.first a.fails)) (one_list test all 0 0 f.all g.all a.pieces b.pieces)

-- what a task has by one word, by its parts
held_is : (f g : Held) → f.word ≡ g.word → f.cells ≡ g.cells → f ≡ g
held_is f g p q =
    let made : Word → List Piece → Held = λ w ps. record { word = w; cells = ps } in
    ap (λ w. made w f.cells) p ∙ ap (λ ps. made g.word ps) q

-- what a task has
pub one_held : (all : List Item) (words : ℕ → Option Word) (ws : List Word) (hs gs : List Held) → AreHeld all words ws hs → AreHeld all words ws gs → hs ≡ gs
one_held all words _ _ _ none none = refl
one_held all words _ _ _ (some {w} {ws} {hs} h p a n rest) (some {hs = gs} g q b m more) =
    ap (λ (x : Held). x ∷ hs) (held_is h g (p ∙ sym q) (one_list (λ c. is_word (words c) w) all 0 0 h.cells g.cells a b)) ∙ ap (λ (xs : List Held). g ∷ xs) (one_held all words ws hs gs rest more)
one_held all words _ _ _ (some {w} h p a n rest) (no_cell b more) = absurd (n (one_list (λ c. is_word (words c) w) all 0 0 h.cells [] a b))
one_held all words _ _ _ (no_cell {w} a rest) (some h p b n more) = absurd (n (one_list (λ c. is_word (words c) w) all 0 0 h.cells [] b a))
one_held all words _ _ _ (no_cell {w} {ws} {hs} a rest) (no_cell {hs = gs} b more) = one_held all words ws hs gs rest more
