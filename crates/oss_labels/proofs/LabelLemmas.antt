-- The labels of a program, and the places of its bodies.
use Rattle.std.proofs.Common.{◌≡◌, ◌∙◌, ◌⊎◌, inl, inr, ℕ, zero, suc, ◌<◌, ◌≤◌, List, [], ◌∷◌, length, Some, None, refl, sym, ap, subst, arith}
use Rattle.std.specs.Prelude.{slice_get, slice_index_or}
use Rattle.oss_syntax.specs.declared.tree.program.Function.{Function}
use Rattle.oss_syntax.specs.declared.tree.program.Item.{Item}
use Rattle.oss_code.specs.declared.code.CodeParts.{CodeParts}
use Rattle.oss_meaning.specs.Expressions.{TaskBody}
use Rattle.oss_meaning.specs.Meaning.{bodies_in}
use Rattle.oss_meaning.specs.Names.{functions_of}
use Rattle.oss_lower_laws.specs.Lowered.{IsLowered, bodies_from, end_entry, first_entry, function_codes, place_of, statements_from}
use Rattle.oss_lower_laws.proofs.ProgramLemmas.{asks_alike}
use Rattle.oss_labels.specs.Claims.{BodiesBeginApart, CodesStandAtPlaces, IsBody, LabelsAreTold}
use Rattle.oss_labels.specs.Creations.{creations, joined, labels_in_code}
use Rattle.oss_labels.specs.Labels.{AreLabelsOf, IsLabelled, function_label, label_of, statement_labels}
use Rattle.oss_labels.specs.Lists.{HasLabel, label_at}
use Rattle.oss_labels.specs.declared.labels.Labelled.{Labelled}
use Rattle.oss_labels.proofs.BodyCounts.{bodies_many}
use Rattle.oss_labels.proofs.CreatedLists.{made}
use Rattle.oss_labels.proofs.EntryLists.{Label, Paired, apart_bounds, apart_one, not_at}
use Rattle.oss_labels.proofs.ListLemmas.{joined_each, joined_only, joined_rises, label_found, label_missing, rise_within}
use Rattle.oss_labels.proofs.ProgramEntries.{AllAgree, Marks, all_agree, bodies_apart, bodies_long, marks_of, never_both, numbered_of}

-- a label at a place of its list stands beside the entry there
paired_at : (es : List ℕ) (ls : List Label) (k d : ℕ) (text : List ℕ) → length es ≡ length ls → slice_index_or ls k None ≡ Some text → Paired es ls (slice_index_or es k d) (Some text)
paired_at [] [] k d text long e = absurd (cc)
paired_at [] (l ∷ ls) k d text long e = absurd (omega (arith, long))
paired_at (x ∷ es) [] k d text long e = absurd (omega (arith, long))
paired_at (x ∷ es) (l ∷ ls) zero d text long e = inl (refl, e)
paired_at (x ∷ es) (l ∷ ls) (suc k) d text long e = inr (paired_at es ls k d text (omega (arith, long)) e)

-- and the other way round
record IsPlaced (es : List ℕ) (ls : List Label) (e : ℕ) (l : Label) : Type 0 where
  number : ℕ
  entry_is : (d : ℕ) → slice_index_or es number d ≡ e
  label_is : slice_index_or ls number None ≡ l

placed_at : (es : List ℕ) (ls : List Label) (e : ℕ) (l : Label) → Paired es ls e l → IsPlaced es ls e l
placed_at [] ls e l h = absurd h
placed_at (x ∷ es) [] e l h = absurd h
placed_at (x ∷ es) (k ∷ ls) e l (inl here) = record { number = 0; entry_is = λ d. here.0; label_is = here.1 }
placed_at (x ∷ es) (k ∷ ls) e l (inr more) =
    let there = placed_at es ls e l more in record { number = suc there.number; entry_is = there.entry_is; label_is = there.label_is }

-- what has a label is there
labelled_within : (ls : List Label) (k : ℕ) (text : List ℕ) → slice_index_or ls k None ≡ Some text → k < length ls
labelled_within [] k text e = absurd (cc)
labelled_within (l ∷ ls) zero text e = omega arith
labelled_within (l ∷ ls) (suc k) text e = omega (arith, labelled_within ls k text e)

function_within : (fs : List Function) (n : ℕ) (text : List ℕ) → function_label (slice_get fs n) ≡ Some text → n < length fs
function_within [] n text e = absurd (cc)
function_within (f ∷ fs) zero text e = omega arith
function_within (f ∷ fs) (suc n) text e = omega (arith, function_within fs n text e)

-- a number is below another, or not
below : (a b : ℕ) → (a < b) ⊎ (b ≤ a)
below a zero = inr (omega arith)
below zero (suc b) = inl (omega arith)
below (suc a) (suc b) = further (below a b)
  where
    further : (a < b) ⊎ (b ≤ a) → (suc a < suc b) ⊎ (suc b ≤ suc a)
    further (inl h) = inl (omega (arith, h))
    further (inr h) = inr (omega (arith, h))

past : (xs : List ℕ) (k d : ℕ) → length xs ≤ k → slice_index_or xs k d ≡ d
past [] k d le = refl
past (x ∷ xs) zero d le = absurd (omega (arith, le))
past (x ∷ xs) (suc k) d le = past xs k d (omega (arith, le))

module _ (all : List Item) where
  abbrev fs : List Function
  fs = functions_of all

  abbrev bodies : List ℕ
  bodies = bodies_from all first_entry fs

  abbrev statements : List ℕ
  statements = statements_from all first_entry fs

  abbrev codes : List ℕ
  codes = made first_entry (function_codes all fs)

  agree : AllAgree all first_entry fs
  agree = all_agree all fs first_entry

  -- The list

  each : (body : TaskBody) (text : List ℕ) → label_of all body ≡ Some text → HasLabel (joined codes (labels_in_code fs)) (place_of all body) text
  each TaskBody.main text e = absurd (cc)
  each (TaskBody.function number) text e =
      joined_each codes (labels_in_code fs) (slice_index_or bodies number end_entry) text
      (agree.marks (slice_index_or bodies number end_entry) (Some text) (marks_of all fs first_entry number end_entry text e))
  each (TaskBody.statement number) text e =
      joined_each codes (labels_in_code fs) (slice_index_or statements number end_entry) text
      (agree.statements (slice_index_or statements number end_entry) (Some text) (paired_at statements (statement_labels fs) number end_entry text agree.numbered e))

  only : (entry : ℕ) (text : List ℕ) → HasLabel (joined codes (labels_in_code fs)) entry text → IsLabelled all entry text
  only entry text h = of_body (agree.forth entry (Some text) (joined_only codes (labels_in_code fs) entry text h))
    where
      of_body : Marks all first_entry fs entry (Some text) ⊎ Paired statements (statement_labels fs) entry (Some text) → IsLabelled all entry text
      of_body (inl marks) =
          let n = numbered_of all fs first_entry entry (Some text) marks in record { body = TaskBody.function n.number; label_is = n.label_is; entry_is = sym (n.entry_is end_entry) }
      of_body (inr p) =
          let n = placed_at statements (statement_labels fs) entry (Some text) p in record { body = TaskBody.statement n.number; label_is = n.label_is; entry_is = sym (n.entry_is end_entry) }

  list_is : AreLabelsOf all (joined codes (labels_in_code fs))
  list_is = record {
    rise = rise_within first_entry 0 (joined codes (labels_in_code fs)) (omega arith) (joined_rises first_entry _ codes (labels_in_code fs) agree.rising);
    each = each;
    only = only;
  }

  creations_are : (code : CodeParts) → IsLowered all code → creations 0 code.instrs ≡ codes
  creations_are code low = ap (creations 0) low.instrs

  -- The labels joined with the creations of the code are those of the program.
  pub labels_are : (code : CodeParts) → IsLowered all code → AreLabelsOf all (joined (creations 0 code.instrs) (labels_in_code fs))
  labels_are code low = subst (λ es. AreLabelsOf all (joined es (labels_in_code fs))) (sym (creations_are code low)) list_is

  -- Where bodies begin

  function_in : (number : ℕ) → number < length fs → number < length bodies
  function_in number less = omega (arith, less, bodies_long all fs first_entry)

  statement_in : (number : ℕ) → number < length (bodies_in all) → number < length statements
  statement_in number less = omega (arith, less, bodies_many all fs 0 first_entry)

  function_behind : (number : ℕ) → number < length fs → first_entry ≤ place_of all (TaskBody.function number)
  function_behind number less = (apart_bounds first_entry _ end_entry bodies number (bodies_apart all fs first_entry) (function_in number less)).0

  statement_behind : (number : ℕ) → number < length (bodies_in all) → first_entry ≤ place_of all (TaskBody.statement number)
  statement_behind number less = (apart_bounds first_entry _ end_entry statements number agree.apart (statement_in number less)).0

  function_and_statement : (n k : ℕ) → n < length fs → k < length (bodies_in all) → place_of all (TaskBody.function n) ≡ place_of all (TaskBody.statement k) → ⊥
  function_and_statement n k less few same =
      not_at (place_of all (TaskBody.function n)) end_entry statements k (never_both all fs first_entry n end_entry (function_in n less)) (statement_in k few) (sym same)

  apart : (a b : TaskBody) → IsBody all a → IsBody all b → place_of all a ≡ place_of all b → a ≡ b
  apart TaskBody.main TaskBody.main here there same = refl
  apart TaskBody.main (TaskBody.function n) here there same = absurd (omega (arith, same, function_behind n there))
  apart TaskBody.main (TaskBody.statement k) here there same = absurd (omega (arith, same, statement_behind k there))
  apart (TaskBody.function n) TaskBody.main here there same = absurd (omega (arith, same, function_behind n here))
  apart (TaskBody.function n) (TaskBody.function m) here there same =
      ap {B = TaskBody} (λ k. TaskBody.function k) (apart_one first_entry _ end_entry end_entry bodies n m (bodies_apart all fs first_entry) (function_in n here) (function_in m there) same)
  apart (TaskBody.function n) (TaskBody.statement k) here there same = absurd (function_and_statement n k here there same)
  apart (TaskBody.statement k) TaskBody.main here there same = absurd (omega (arith, same, statement_behind k here))
  apart (TaskBody.statement k) (TaskBody.function n) here there same = absurd (function_and_statement n k there here (sym same))
  apart (TaskBody.statement k) (TaskBody.statement j) here there same =
      ap {B = TaskBody} (λ n. TaskBody.statement n) (apart_one first_entry _ end_entry end_entry statements k j agree.apart (statement_in k here) (statement_in j there) same)

  -- What is told

  -- a body with a label is one of the program, and begins behind the first instructions
  labelled_there : (body : TaskBody) (text : List ℕ) → label_of all body ≡ Some text → IsBody all body × (first_entry ≤ place_of all body)
  labelled_there TaskBody.main text e = absurd (cc)
  labelled_there (TaskBody.function n) text e = let less = function_within fs n text e in (less, function_behind n less)
  labelled_there (TaskBody.statement k) text e =
      let less : k < length (bodies_in all) = omega (arith, labelled_within (statement_labels fs) k text e, agree.numbered, bodies_many all fs 0 first_entry) in (less, statement_behind k less)

  -- a body that is not there is the end
  there_or_end : (body : TaskBody) → IsBody all body ⊎ (place_of all body ≡ end_entry)
  there_or_end TaskBody.main = inl tt
  there_or_end (TaskBody.function n) = by (below n (length fs))
    where
      by : (n < length fs) ⊎ (length fs ≤ n) → IsBody all (TaskBody.function n) ⊎ (place_of all (TaskBody.function n) ≡ end_entry)
      by (inl less) = inl less
      by (inr le) = inr (past bodies n end_entry (omega (arith, le, bodies_long all fs first_entry)))
  there_or_end (TaskBody.statement k) = by (below k (length (bodies_in all)))
    where
      by : (k < length (bodies_in all)) ⊎ (length (bodies_in all) ≤ k) → IsBody all (TaskBody.statement k) ⊎ (place_of all (TaskBody.statement k) ≡ end_entry)
      by (inl less) = inl less
      by (inr le) = inr (past statements k end_entry (omega (arith, le, bodies_many all fs 0 first_entry)))

  -- so no label stands at the place of a body that has none
  none_there : (ls : List Labelled) → AreLabelsOf all ls → (body : TaskBody) → label_of all body ≡ None → (text : List ℕ) → HasLabel ls (place_of all body) text → ⊥
  none_there ls are body e text h = by (there_or_end body)
    where
      other : IsLabelled all (place_of all body) text
      other = are.only (place_of all body) text h

      there : IsBody all other.body × (first_entry ≤ place_of all other.body)
      there = labelled_there other.body text other.label_is

      by : IsBody all body ⊎ (place_of all body ≡ end_entry) → ⊥
      by (inl here) =
          let same : body ≡ other.body = apart body other.body here there.0 other.entry_is in
          let none : label_of all other.body ≡ None = ap (label_of all) (sym same) ∙ e in
          let both : ◌≡◌ {A = Label} None (Some text) = sym none ∙ other.label_is in
          absurd (cc)
      by (inr end) = omega (arith, end, there.1, other.entry_is)

  told : (ls : List Labelled) → AreLabelsOf all ls → (body : TaskBody) (l : Label) → label_of all body ≡ l → label_at ls (place_of all body) ≡ l
  told ls are body (Some text) e = label_found 0 ls (place_of all body) text are.rise (are.each body text e)
  told ls are body None e = label_missing ls (place_of all body) (none_there ls are body e)

pub bodies_begin_apart : BodiesBeginApart
bodies_begin_apart all a b here there same = apart all a b here there same

pub codes_stand_at_places : CodesStandAtPlaces
codes_stand_at_places all code low = record { of = record { places = place_of all; main_first = refl; alike = asks_alike all code low; first = low.first }; places_are = refl }

pub labels_are_told : LabelsAreTold
labels_are_told all ls are body = told all ls are body (label_of all body) refl
