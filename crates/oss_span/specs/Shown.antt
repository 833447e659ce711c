-- Which chain the nodes show that ends at one of them.
-- Read against: the node of main's acts 2 and 3 behind nothing shows these two acts, the later one first; the node of a giving by the task 0.1 behind that one shows, at
-- cell 4, the giving of cell 4 and then these two.
use Rattle.std.specs.Prelude.{◌≡◌, ◌≤◌, ◌<◌, ℕ, zero, suc, ◌-◌, nat_lt, if◌then◌else◌, List, [], ◌∷◌, Option, Some, None, reverse, slice_get, unwrap_or}
use Rattle.oss_machine.specs.Frames.{CodeScript}
use Rattle.oss_model.specs.Bodies.{Program}
use Rattle.oss_model.specs.Machine.{State}
use Rattle.oss_model.specs.Order.{written}
use Rattle.oss_chain_laws.specs.Happenings.{Happening, Acting, Giving}
use Rattle.oss_span.specs.declared.best.Best.{Best}
use Rattle.oss_span.specs.declared.link.Link.{Link}
use Rattle.oss_span.specs.declared.link.Link.TheVariants as links
use Rattle.oss_span.specs.declared.node.Node.{Node}
use Rattle.oss_span.specs.declared.node.Node.TheVariants.{Acts, Gives}
use Rattle.oss_span.specs.declared.node.Verb.{Verb}
use Rattle.oss_span.specs.declared.node.Verb.TheVariants as verbs
use Rattle.oss_span.specs.declared.walk.Step.{Step}
use Rattle.oss_span.specs.Links.{IsJoined, Unfolds}

-- So many acts of a task, from the one before `end` on down, in front of these events.
abbrev pub acts_back : List ℕ → ℕ → ℕ → List Happening → List Happening
acts_back p end zero es = es
acts_back p zero (suc k) es = es
acts_back p (suc n) (suc k) es = Acting p n ∷ acts_back p n k es

-- What is done to the cell is what the word says.
abbrev pub IsVerb : {S : Type 0} → State S → List ℕ → ℕ → Verb → Type 0
IsVerb s p c verbs.Let = IsJoined s p c → ⊥
IsVerb s p c verbs.Join = IsJoined s p c

-- A node stands before another.
abbrev pub IsBelow : Option ℕ → ℕ → Type 0
IsBelow None at_ = Unit {0}
IsBelow (Some i) at_ = i < at_

-- The node, where it stands before another one.
abbrev pub below : Option ℕ → ℕ → Option ℕ
below None at_ = None
below (Some i) at_ = if nat_lt i at_ then Some i else None

-- The chain that ends at a node, and at a cell, its last event first.
pub data Shows {S : Type 0} (P : Program S) (s : State S) (nodes : List Node) (points : List (List ℕ)) : Option ℕ → ℕ → List Happening → Type 0 where
  shows_none : {c : ℕ} → Shows P s nodes points None c []
  shows_acts : {i task end count c : ℕ} {before : Best} (p : List ℕ) (es : List Happening) → slice_get nodes i ≡ Some (Acts task end (suc count) before) → slice_get points task ≡ Some (written p) → suc count ≤ end → IsBelow before.mark.end i
      → Shows P s nodes points before.mark.end before.cell es → Shows P s nodes points (Some i) c (acts_back p end (suc count) es)
  shows_gives : {i task c : ℕ} {verb : Verb} {before cell : Option ℕ} {p : List ℕ} {es : List Happening} → slice_get nodes i ≡ Some (Gives task verb before cell) → slice_get points task ≡ Some (written p) → IsVerb s p c verb → IsBelow before i
      → Shows P s nodes points before (unwrap_or cell c) es → Shows P s nodes points (Some i) c (Giving p c ∷ es)

-- The link of a cell that is given up.
abbrev pub given_link : Verb → List ℕ → ℕ → Link
given_link verbs.Let point c = links.Let point c
given_link verbs.Join point c = links.Join point c

-- What a node tells at a cell.
abbrev pub IsStepOf : List (List ℕ) → ℕ → Option Node → Option Step → Type 0
IsStepOf points c (Some (Acts task end count before)) (Some step) = (point : List ℕ) × (slice_get points task ≡ Some point) × (step.link ≡ links.Acts point (end - count) count) × (step.end ≡ before.mark.end) × (step.cell ≡ before.cell)
IsStepOf points c (Some (Acts task end count before)) None = slice_get points task ≡ None
IsStepOf points c (Some (Gives task verb before cell)) (Some step) = (point : List ℕ) × (slice_get points task ≡ Some point) × (step.link ≡ given_link verb point c) × (step.end ≡ before) × (step.cell ≡ unwrap_or cell c)
IsStepOf points c (Some (Gives task verb before cell)) None = slice_get points task ≡ None
IsStepOf points c None step = step ≡ None

abbrev pub IsStep : List Node → List (List ℕ) → ℕ → ℕ → Option Step → Type 0
IsStep nodes points at_ c step = IsStepOf points c (slice_get nodes at_) step

-- Whichever chain the nodes show in this end, in whichever state, the links stand for it, its first event first.
abbrev pub AreLinksOf : List Node → List (List ℕ) → Best → List Link → Type 0
AreLinksOf nodes points best links = (P : Program CodeScript) (s : State CodeScript) (es : List Happening) → Shows P s nodes points best.mark.end best.cell es → Unfolds P s links (reverse es)
