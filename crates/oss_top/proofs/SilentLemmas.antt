-- The text of what is missing has a line exactly if something is told of a task, and each line begins with the name of one.
use Rattle.std.proofs.Common.{◌≡◌, ◌∙◌, ℕ, ◌+◌, ◌==◌, Bool, true, false, if◌then◌else◌, ◌||◌, List, [], ◌∷◌, ◌++◌, map, length, drop, Option, Some, None, codes, refl, sym, ap, subst, append_assoc}
use Rattle.std.specs.Prelude.{◌↔◌, count_by}
use Rattle.std.specs.List.{flat_map, list_any}
use Rattle.std.proofs.Math.Seq.{take-append_seam}
use Rattle.std.proofs.lemmas.List.{length-append}
use Rattle.oss_syntax.specs.declared.tree.program.Item.{Item}
use Rattle.oss_model.specs.Points.{text_of}
use Rattle.oss_explanation.specs.Words.{is_child, who_text}
use Rattle.oss_missing_lines.specs.declared.missing.Late.{Late}
use Rattle.oss_missing_lines.specs.declared.missing.Missing.{Missing}
use Rattle.oss_missing_lines.specs.declared.missing.RunFault.{RunFault}
use Rattle.oss_missing_lines.specs.declared.missing.TaskMissing.{TaskMissing}
use Rattle.oss_missing_text.specs.Counting.{has_line, later_alike}
use Rattle.oss_missing_text.specs.Lines.{born_text, lack_text, late_line, late_text, told_of, want_text}
use Rattle.oss_missing_text.specs.Text.{alike_text, lines_from, lines_text, missing_text, or_nothing, task_lines, told_at, told_line}
use Rattle.oss_missing_program_laws.specs.Exact.{AreToldNothing, IsTaskToldNothing, IsToldNothing}

-- Texts

-- The text begins, and not as that which tells that nothing is missing.
abbrev pub IsBegun : List ℕ → Type 0
IsBegun [] = ⊥
IsBegun (b ∷ more) = (b == 110) ≡ false

-- The text is empty, or it begins so.
abbrev pub IsOther : List ℕ → Type 0
IsOther [] = Unit {0}
IsOther (b ∷ more) = (b == 110) ≡ false

begun_other : (t : List ℕ) → IsBegun t → IsOther t
begun_other [] h = absurd h
begun_other (b ∷ more) h = h

begun_more : (t more : List ℕ) → IsBegun t → IsBegun (t ++ more)
begun_more [] more h = absurd h
begun_more (b ∷ t) more h = h

other_more : (t more : List ℕ) → IsOther t → IsOther more → IsOther (t ++ more)
other_more [] more h k = k
other_more (b ∷ t) more h k = h

not_empty : (t : List ℕ) → IsBegun t → t ≡ [] → ⊥
not_empty [] h e = h
not_empty (b ∷ t) h e = absurd cc

-- both parts of an empty text are empty
first_empty : (t more : List ℕ) → t ++ more ≡ [] → t ≡ []
first_empty [] more e = refl
first_empty (b ∷ t) more e = absurd cc

second_empty : (t more : List ℕ) → t ++ more ≡ [] → more ≡ []
second_empty [] more e = e
second_empty (b ∷ t) more e = absurd cc

flat_other : {X : Type 0} (f : X → List ℕ) → ((x : X) → IsOther (f x)) → (xs : List X) → IsOther (flat_map f xs)
flat_other f each [] = tt
flat_other f each (x ∷ xs) = other_more (f x) (flat_map f xs) (each x) (flat_other f each xs)

-- Lines

who_is : (child : Bool) (p : List ℕ) → IsBegun (if child then codes "Task " ++ text_of p else codes "Main")
who_is true p = refl
who_is false p = refl

who_begun : (p : List ℕ) → IsBegun (who_text p)
who_begun p = who_is (is_child p) p

told_begun : (t : TaskMissing) (n : ℕ) (words : List ℕ) → IsBegun (told_line t (Some n) words)
told_begun t n words = begun_more (who_text t.task ++ words) (alike_text t.line n) (begun_more (who_text t.task) words (who_begun t.task))

late_begun : (all : List Item) (t : TaskMissing) (x : Late) → IsBegun (late_line all t x)
late_begun all t x = begun_more (who_text t.task ++ born_text t) (late_text all t x) (begun_more (who_text t.task) (born_text t) (who_begun t.task))

told_other : (t : TaskMissing) (behind : Option ℕ) (words : List ℕ) → IsOther (told_line t behind words)
told_other t None words = tt
told_other t (Some n) words = begun_other (told_line t (Some n) words) (told_begun t n words)

task_other : (all : List Item) (told : List (List (List ℕ))) (place : ℕ) (t : TaskMissing) → IsOther (task_lines all told place t)
task_other all told place t =
    other_more (flat_map (told_at told place t) (told_of all t)) (flat_map (late_line all t) t.late)
    (flat_other (told_at told place t) (λ words. told_other t (later_alike told place words) words) (told_of all t))
    (flat_other (late_line all t) (λ x. begun_other (late_line all t x) (late_begun all t x)) t.late)

lines_other : (all : List Item) (told : List (List (List ℕ))) (place : ℕ) (ts : List TaskMissing) → IsOther (lines_from all told place ts)
lines_other all told place [] = tt
lines_other all told place (t ∷ rest) = other_more (task_lines all told place t) (lines_from all told (place + 1) rest) (task_other all told place t) (lines_other all told (place + 1) rest)

-- Nothing is told: there is no line

no_lines : (all : List Item) (told : List (List (List ℕ))) (place : ℕ) (t : TaskMissing) → IsTaskToldNothing t → task_lines all told place t ≡ []
no_lines all told place t k =
    ap (λ xs. flat_map (told_at told place t) (map (lack_text all t) xs ++ map (want_text all t) t.wants) ++ flat_map (late_line all t) t.late) k.lacks
    ∙ ap (λ xs. flat_map (told_at told place t) (map (want_text all t) xs) ++ flat_map (late_line all t) t.late) k.wants
    ∙ ap (λ xs. flat_map (late_line all t) xs) k.late

nothing_from : (all : List Item) (told : List (List (List ℕ))) (place : ℕ) (ts : List TaskMissing) → AreToldNothing ts → lines_from all told place ts ≡ []
nothing_from all told place [] h = refl
nothing_from all told place (t ∷ rest) (k, h) = ap (λ (x : List ℕ). x ++ lines_from all told (place + 1) rest) (no_lines all told place t k) ∙ nothing_from all told (place + 1) rest h

-- There is no line: nothing is told

-- Of these tasks none has a line.
abbrev AreEmpty : List (List (List ℕ)) → Type 0
AreEmpty [] = Unit {0}
AreEmpty (lines ∷ rest) = (lines ≡ []) × AreEmpty rest

empty_more : (front : List (List (List ℕ))) (lines : List (List ℕ)) → AreEmpty front → lines ≡ [] → AreEmpty (front ++ lines ∷ [])
empty_more [] lines h e = (e, tt)
empty_more (first ∷ front) lines (is, h) e = (is, empty_more front lines h e)

none_has : (line : List ℕ) (front : List (List (List ℕ))) → AreEmpty front → list_any (has_line line) front ≡ false
none_has line [] h = refl
none_has line (lines ∷ rest) (e, h) = ap (λ ls. has_line line ls || list_any (has_line line) rest) e ∙ none_has line rest h

-- behind tasks without a line each line is told
told_here : (front told : List (List (List ℕ))) (line : List ℕ) → AreEmpty front → later_alike (front ++ told) (length front) line ≡ Some (count_by (has_line line) (drop (length front + 1) (front ++ told)))
told_here front told line h = ap (λ b. if b then None else Some (count_by (has_line line) (drop (length front + 1) (front ++ told)))) (ap (list_any (has_line line)) (take-append_seam front told) ∙ none_has line front h)

here_begun : (t : TaskMissing) (front told : List (List (List ℕ))) (line : List ℕ) → AreEmpty front → IsBegun (told_at (front ++ told) (length front) t line)
here_begun t front told line h = subst (λ behind. IsBegun (told_line t behind line)) (sym (told_here front told line h)) (told_begun t (count_by (has_line line) (drop (length front + 1) (front ++ told))) line)

no_told : (t : TaskMissing) (front told : List (List (List ℕ))) (lines : List (List ℕ)) → AreEmpty front → flat_map (told_at (front ++ told) (length front) t) lines ≡ [] → lines ≡ []
no_told t front told [] h e = refl
no_told t front told (line ∷ more) h e =
    absurd (not_empty (told_at (front ++ told) (length front) t line) (here_begun t front told line h)
    (first_empty (told_at (front ++ told) (length front) t line) (flat_map (told_at (front ++ told) (length front) t) more) e))

no_late : (all : List Item) (t : TaskMissing) (xs : List Late) → flat_map (late_line all t) xs ≡ [] → xs ≡ []
no_late all t [] e = refl
no_late all t (x ∷ xs) e = absurd (not_empty (late_line all t x) (late_begun all t x) (first_empty (late_line all t x) (flat_map (late_line all t) xs) e))

no_map : {X : Type 0} (f : X → List ℕ) (xs : List X) → map f xs ≡ [] → xs ≡ []
no_map f [] e = refl
no_map f (x ∷ xs) e = absurd cc

first_none : {X : Type 0} (xs ys : List X) → xs ++ ys ≡ [] → xs ≡ []
first_none [] ys e = refl
first_none (x ∷ xs) ys e = absurd cc

second_none : {X : Type 0} (xs ys : List X) → xs ++ ys ≡ [] → ys ≡ []
second_none [] ys e = e
second_none (x ∷ xs) ys e = absurd cc

untold_is : (all : List Item) (t : TaskMissing) → told_of all t ≡ [] → t.late ≡ [] → IsTaskToldNothing t
untold_is all t told late = record {
  lacks = no_map (lack_text all t) t.lacks (first_none (map (lack_text all t) t.lacks) (map (want_text all t) t.wants) told);
  wants = no_map (want_text all t) t.wants (second_none (map (lack_text all t) t.lacks) (map (want_text all t) t.wants) told);
  late = late;
}

-- the first of such tasks has no words, where the text of all is empty
no_words : (all : List Item) (front : List (List (List ℕ))) (t : TaskMissing) (rest : List TaskMissing) → AreEmpty front
    → lines_from all (front ++ map (told_of all) (t ∷ rest)) (length front) (t ∷ rest) ≡ [] → told_of all t ≡ []
no_words all front t rest h e =
    no_told t front (map (told_of all) (t ∷ rest)) (told_of all t) h
    (first_empty (flat_map (told_at (front ++ map (told_of all) (t ∷ rest)) (length front) t) (told_of all t)) (flat_map (late_line all t) t.late)
    (first_empty (task_lines all (front ++ map (told_of all) (t ∷ rest)) (length front) t) (lines_from all (front ++ map (told_of all) (t ∷ rest)) (length front + 1) rest) e))

no_lateness : (all : List Item) (front : List (List (List ℕ))) (t : TaskMissing) (rest : List TaskMissing)
    → lines_from all (front ++ map (told_of all) (t ∷ rest)) (length front) (t ∷ rest) ≡ [] → t.late ≡ []
no_lateness all front t rest e =
    no_late all t t.late
    (second_empty (flat_map (told_at (front ++ map (told_of all) (t ∷ rest)) (length front) t) (told_of all t)) (flat_map (late_line all t) t.late)
    (first_empty (task_lines all (front ++ map (told_of all) (t ∷ rest)) (length front) t) (lines_from all (front ++ map (told_of all) (t ∷ rest)) (length front + 1) rest) e))

-- the same of the tasks behind it
next_lines : (all : List Item) (front : List (List (List ℕ))) (t : TaskMissing) (rest : List TaskMissing)
    → lines_from all (front ++ map (told_of all) (t ∷ rest)) (length front) (t ∷ rest) ≡ []
    → lines_from all ((front ++ told_of all t ∷ []) ++ map (told_of all) rest) (length (front ++ told_of all t ∷ [])) rest ≡ []
next_lines all front t rest e =
    ap (λ (told : List (List (List ℕ))). lines_from all told (length (front ++ told_of all t ∷ [])) rest) (append_assoc front (told_of all t ∷ []) (map (told_of all) rest))
    ∙ ap (λ (place : ℕ). lines_from all (front ++ map (told_of all) (t ∷ rest)) place rest) (length-append front (told_of all t ∷ []))
    ∙ second_empty (task_lines all (front ++ map (told_of all) (t ∷ rest)) (length front) t) (lines_from all (front ++ map (told_of all) (t ∷ rest)) (length front + 1) rest) e

from_nothing : (all : List Item) (front : List (List (List ℕ))) (ts : List TaskMissing) → AreEmpty front → lines_from all (front ++ map (told_of all) ts) (length front) ts ≡ [] → AreToldNothing ts
from_nothing all front [] h e = tt
from_nothing all front (t ∷ rest) h e =
    let none : told_of all t ≡ [] = no_words all front t rest h e in
    (untold_is all t none (no_lateness all front t rest e), from_nothing all (front ++ told_of all t ∷ []) rest (empty_more front (told_of all t) h none) (next_lines all front t rest e))

-- The text

pub no_text : (all : List Item) (ts : List TaskMissing) → lines_text all ts ≡ [] ↔ AreToldNothing ts
no_text all ts = (from_nothing all [] ts tt, nothing_from all (map (told_of all) ts) 0 ts)

-- where main has ended, only no line makes the text that nothing is missing
only_nothing : (t : List ℕ) → IsOther t → or_nothing None t ≡ codes "nothing is missing\n" → t ≡ []
only_nothing [] h e = refl
only_nothing (b ∷ more) h e = absurd (other_byte b more h e)
  where
    other_byte : (b : ℕ) (more : List ℕ) → (b == 110) ≡ false → b ∷ more ≡ codes "nothing is missing\n" → ⊥
    other_byte b more h e = absurd cc

pub silent_end : (all : List Item) (m : Missing) → m.fault ≡ None → missing_text all m ≡ codes "nothing is missing\n" ↔ IsToldNothing m
silent_end all m ended = (forth, back)
  where
    is : missing_text all m ≡ or_nothing None (lines_text all m.tasks)
    is = ap (λ (f : Option RunFault). or_nothing f (lines_text all m.tasks)) ended

    forth : missing_text all m ≡ codes "nothing is missing\n" → IsToldNothing m
    forth e = (no_text all m.tasks).0 (only_nothing (lines_text all m.tasks) (lines_other all (map (told_of all) m.tasks) 0 m.tasks) (sym is ∙ e))

    back : IsToldNothing m → missing_text all m ≡ codes "nothing is missing\n"
    back told = is ∙ ap (or_nothing None) ((no_text all m.tasks).1 told)

pub silent_fault : (all : List Item) (m : Missing) (f : RunFault) → m.fault ≡ Some f → missing_text all m ≡ [] ↔ IsToldNothing m
silent_fault all m f fails = (forth, back)
  where
    is : missing_text all m ≡ lines_text all m.tasks
    is = ap (λ (o : Option RunFault). or_nothing o (lines_text all m.tasks)) fails

    forth : missing_text all m ≡ [] → IsToldNothing m
    forth e = (no_text all m.tasks).0 (sym is ∙ e)

    back : IsToldNothing m → missing_text all m ≡ []
    back told = is ∙ (no_text all m.tasks).1 told
