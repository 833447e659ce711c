-- What is kept of the tasks of a body.
use Rattle.std.proofs.Common.{◌≡◌, refl, ap, List, [], ◌∷◌, ◌++◌, length, arith, Bool, true, false}
use Rattle.std.proofs.lemmas.List.{length-append}
use Rattle.oss_code.specs.declared.code.CodeParts.{CodeParts}
use Rattle.oss_machine.specs.Frames.{CodeScript}
use Rattle.oss_model.specs.Bodies.{Order, Created, Frame as Meant, Stack, stack_after, top_frame}
use Rattle.oss_body.specs.Places.{Framed as Frame}
use Rattle.oss_body.specs.declared.tasks.Tasks.{Tasks}
use Rattle.oss_body.specs.Kept.{kept}
use Rattle.oss_body.specs.Places.{place_of}
use Rattle.oss_body.specs.Stacks.{all_of, rest_of, kept_stack, including, including_parts, first_place, own_place}

-- a body has a task
pub some_task : (code : CodeParts) (base : Meant CodeScript) (fs : List (Meant CodeScript)) → all_of code base fs ≡ [] → ⊥
some_task code base [] e = cc
some_task code base (f ∷ fs) e = let n : length (all_of code base fs ++ (kept code f ∷ [])) ≡ 0 = ap length e in let m = length-append (all_of code base fs) (kept code f ∷ []) in omega arith

-- the first of all tasks is the body's own
all_first : (code : CodeParts) (base : Meant CodeScript) (fs : List (Meant CodeScript)) → (rest : List Frame) × (all_of code base fs ≡ kept code base ∷ rest)
all_first code base [] = ([], refl)
all_first code base (f ∷ fs) = let more = all_first code base fs in (more.0 ++ (kept code f ∷ []), ap (λ (l : List Frame). l ++ (kept code f ∷ [])) more.1)

-- where the body's own task stands
pub own_place_is : (code : CodeParts) (s : Stack CodeScript) → own_place (kept_stack code s) ≡ place_of s.base
own_place_is code s = by_inner s.inner
  where
    by_inner : (inner : List (Meant CodeScript)) → first_place (kept code (top_frame s.base inner)) (rest_of code s.base inner) ≡ place_of s.base
    by_inner [] = refl
    by_inner (f ∷ fs) = ap (first_place (kept code f)) (all_first code s.base fs).1

abbrev pub tasks_of : Frame → List Frame → Bool → Tasks
tasks_of top below ended = record { top = top; below = below; ended = ended }

-- a creation that is not one of the body's own task alone
pub includes : (o : Order CodeScript) (included : Bool) (s : Stack CodeScript) → (included ≡ false → s.inner ≡ [] → ⊥) → stack_after (Created o included) 0 s.base s.inner ≡ including o s
includes o included s never = go s.inner included never
  where
    go : (inner : List (Meant CodeScript)) (b : Bool) → (b ≡ false → inner ≡ [] → ⊥) → stack_after (Created o b) 0 s.base inner ≡ including_parts o s.base inner
    go [] true k = refl
    go [] false k = absurd (k refl refl)
    go (f ∷ fs) b k = refl
