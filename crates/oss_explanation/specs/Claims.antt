-- What is promised of explanations beside what the calls say: what is told of an ask, of the cells that fail and of the words of a task is one. (That the whole explanation of a run is one is
-- a law of `oss_explain_laws`.)
-- Read against: of a release of `a[1:3]` over `long a[10];` no other deed is told than that with the one piece `a[1:3]`; and with the cells of `a[1:3]` failing no other first cell than that of `a[1]`.
use Rattle.std.specs.Prelude.{◌≡◌, ℕ, Bool, List, Option}
use Rattle.oss_syntax.specs.declared.tree.program.Item.{Item}
use Rattle.oss_model.specs.Bodies.{Ask}
use Rattle.oss_explanation.specs.declared.explained.Deed.{Deed}
use Rattle.oss_explanation.specs.declared.explained.Failing.{Failing}
use Rattle.oss_explanation.specs.declared.explained.Held.{Held}
use Rattle.oss_explanation.specs.declared.explained.Word.{Word}
use Rattle.oss_explanation.specs.Explanations.{IsDeed}
use Rattle.oss_explanation.specs.Held.{AreFailing, AreHeld}

-- An ask is told in one way.
abbrev pub OneDeed : Type 0 → Type 0
OneDeed S = (all : List Item) (ask : Ask S) (d e : Deed) → IsDeed all ask d → IsDeed all ask e → d ≡ e

-- The cells that fail are told in one way.
abbrev pub OneFailing : Type 0
OneFailing = (all : List Item) (test : ℕ → Bool) (f g : Failing) → AreFailing all test f → AreFailing all test g → f ≡ g

-- What a task has by its clauses is told in one way.
abbrev pub OneHeld : Type 0
OneHeld = (all : List Item) (words : ℕ → Option Word) (ws : List Word) (hs gs : List Held) → AreHeld all words ws hs → AreHeld all words ws gs → hs ≡ gs
