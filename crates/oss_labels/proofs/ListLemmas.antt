-- Labels in lists of labels: where they are found, and what a list joined of entries and labels has.
use Rattle.std.proofs.Common.{◌≡◌, ◌∙◌, ◌⊎◌, inl, inr, ℕ, zero, suc, ◌+◌, ◌<◌, ◌≤◌, List, [], ◌∷◌, ◌++◌, Some, None, Bool, true, false, refl, sym, ap, arith}
use Rattle.std.specs.Prelude.{◌==◌, if◌then◌else◌, slice_get}
use Rattle.oss_labels.specs.Creations.{joined, joined_one}
use Rattle.oss_labels.specs.Lists.{HasLabel, IsCut, Rise, label_at}
use Rattle.oss_labels.specs.declared.labels.Labelled.{Labelled}
use Rattle.oss_labels.proofs.EntryLists.{Label, Paired, Rising}

pub rise_within : (from least : ℕ) (ls : List Labelled) → least ≤ from → Rise from ls → Rise least ls
rise_within from least [] le h = tt
rise_within from least (l ∷ ls) le h = (omega (arith, le, h.0), h.1)

-- Lists joined of entries and labels

pub joined_rises : (from to : ℕ) (es : List ℕ) (ls : List Label) → Rising from to es → Rise from (joined es ls)
joined_rises from to [] ls h = tt
joined_rises from to (e ∷ es) [] h = tt
joined_rises from to (e ∷ es) (None ∷ ls) h = rise_within (e + 1) from (joined es ls) (omega (arith, h.0)) (joined_rises (e + 1) to es ls h.2)
joined_rises from to (e ∷ es) (Some text ∷ ls) h = (h.0, joined_rises (e + 1) to es ls h.2)

some_is : {a b : List ℕ} → ◌≡◌ {A = Label} (Some a) (Some b) → a ≡ b
some_is same = cc

joined_here : (f e : ℕ) (k : Label) (text : List ℕ) (ls : List Labelled) → f ≡ e → k ≡ Some text → HasLabel (joined_one f k ++ ls) e text
joined_here f e None text ls same is = absurd (cc)
joined_here f e (Some other) text ls same is = inl (same, some_is is)

joined_later : (f e : ℕ) (k : Label) (text : List ℕ) (ls : List Labelled) → HasLabel ls e text → HasLabel (joined_one f k ++ ls) e text
joined_later f e None text ls h = h
joined_later f e (Some other) text ls h = inr h

-- what stands at one place is in the list
pub joined_each : (es : List ℕ) (ls : List Label) (e : ℕ) (text : List ℕ) → Paired es ls e (Some text) → HasLabel (joined es ls) e text
joined_each [] ls e text h = absurd h
joined_each (f ∷ es) [] e text h = absurd h
joined_each (f ∷ es) (k ∷ ls) e text (inl here) = joined_here f e k text (joined es ls) here.0 here.1
joined_each (f ∷ es) (k ∷ ls) e text (inr more) = joined_later f e k text (joined es ls) (joined_each es ls e text more)

-- nothing else is
pub joined_only : (es : List ℕ) (ls : List Label) (e : ℕ) (text : List ℕ) → HasLabel (joined es ls) e text → Paired es ls e (Some text)
joined_only [] ls e text h = absurd h
joined_only (f ∷ es) [] e text h = absurd h
joined_only (f ∷ es) (None ∷ ls) e text h = inr (joined_only es ls e text h)
joined_only (f ∷ es) (Some other ∷ ls) e text (inl here) = inl (here.0, ap {B = Label} (λ t. Some t) here.1)
joined_only (f ∷ es) (Some other ∷ ls) e text (inr more) = inr (joined_only es ls e text more)

-- The label at an entry

-- a label in a list whose entries rise is not before them
has_from : (from : ℕ) (ls : List Labelled) (e : ℕ) (text : List ℕ) → Rise from ls → HasLabel ls e text → from ≤ e
has_from from [] e text rise h = absurd h
has_from from (l ∷ ls) e text rise (inl here) = omega (arith, rise.0, here.0)
has_from from (l ∷ ls) e text rise (inr more) = omega (arith, rise.0, has_from (l.entry + 1) ls e text rise.1 more)

eq_yes : (a b : ℕ) → a ≡ b → (a == b) ≡ true
eq_yes a b e = grind arith

eq_no : (a b : ℕ) → (a ≡ b → ⊥) → (a == b) ≡ false
eq_no a b e = grind arith

at_first : (l : Labelled) (ls : List Labelled) (e : ℕ) → l.entry ≡ e → label_at (l ∷ ls) e ≡ Some l.label
at_first l ls e same = ap (λ (t : Bool). if t then Some l.label else label_at ls e) (eq_yes l.entry e same)

at_later : (l : Labelled) (ls : List Labelled) (e : ℕ) → (l.entry ≡ e → ⊥) → label_at (l ∷ ls) e ≡ label_at ls e
at_later l ls e other = ap (λ (t : Bool). if t then Some l.label else label_at ls e) (eq_no l.entry e other)

-- it is the one that the list has there
pub label_found : (from : ℕ) (ls : List Labelled) (e : ℕ) (text : List ℕ) → Rise from ls → HasLabel ls e text → label_at ls e ≡ Some text
label_found from [] e text rise h = absurd h
label_found from (l ∷ ls) e text rise (inl here) = at_first l ls e here.0 ∙ ap {B = Label} (λ t. Some t) here.1
label_found from (l ∷ ls) e text rise (inr more) =
    at_later l ls e (λ same. omega (arith, same, has_from (l.entry + 1) ls e text rise.1 more)) ∙ label_found (l.entry + 1) ls e text rise.1 more

-- the two cases of a test
tested : (b : Bool) → (b ≡ true) ⊎ (b ≡ false)
tested true = inl refl
tested false = inr refl

eq_true : (a b : ℕ) → (a == b) ≡ true → a ≡ b
eq_true a b e = grind arith

eq_false : (a b : ℕ) → (a == b) ≡ false → a ≡ b → ⊥
eq_false a b e same = grind arith

-- and there is none where the list has none
pub label_missing : (ls : List Labelled) (e : ℕ) → ((text : List ℕ) → HasLabel ls e text → ⊥) → label_at ls e ≡ None
label_missing [] e none = refl
label_missing (l ∷ ls) e none = by (label_missing ls e (λ text h. none text (inr h))) (tested (l.entry == e))
  where
    by : label_at ls e ≡ None → ((l.entry == e) ≡ true) ⊎ ((l.entry == e) ≡ false) → label_at (l ∷ ls) e ≡ None
    by more (inl here) = absurd (none l.label (inl (eq_true l.entry e here, refl)))
    by more (inr other) = at_later l ls e (eq_false l.entry e other) ∙ more

-- The search

-- labels behind one are behind the next
one_on : (l : Labelled) (ls : List Labelled) (e k : ℕ) → IsCut (l ∷ ls) e (suc k) → IsCut ls e k
one_on l ls e k cut = record {
  within = omega (arith, cut.within);
  before = λ j m is less. cut.before (suc j) m is (omega (arith, less));
  behind = λ j m is le. cut.behind (suc j) m is (omega (arith, le));
}

-- where no entry is before this one, the first may be this one, and no other
all_behind : (from : ℕ) (ls : List Labelled) (e : ℕ) → Rise from ls → e < from → label_at ls e ≡ None
all_behind from [] e rise less = refl
all_behind from (l ∷ ls) e rise less = at_later l ls e (λ same. omega (arith, same, rise.0, less)) ∙ all_behind (l.entry + 1) ls e rise.1 (omega (arith, rise.0, less))

-- The label that stands behind those before an entry is the one at it, if it is at it.
pub cut_label : (from : ℕ) (ls : List Labelled) (e k : ℕ) (l : Labelled) → Rise from ls → IsCut ls e k → slice_get ls k ≡ Some l → label_at ls e ≡ label_at (l ∷ []) e
cut_label from [] e k l rise cut is = absurd (cc)
cut_label from (m ∷ ls) e zero l rise cut is = by (tested (m.entry == e))
  where
    same : m ≡ l
    same = cc

    by : ((m.entry == e) ≡ true) ⊎ ((m.entry == e) ≡ false) → label_at (m ∷ ls) e ≡ label_at (l ∷ []) e
    by (inl here) = at_first m ls e (eq_true m.entry e here) ∙ sym (at_first m [] e (eq_true m.entry e here)) ∙ ap (λ (n : Labelled). label_at (n ∷ []) e) same
    by (inr other) =
        at_later m ls e (eq_false m.entry e other)
        ∙ all_behind (m.entry + 1) ls e rise.1 (omega (arith, cut.behind 0 m refl (omega arith), eq_false m.entry e other))
        ∙ sym (at_later m [] e (eq_false m.entry e other)) ∙ ap (λ (n : Labelled). label_at (n ∷ []) e) same
cut_label from (m ∷ ls) e (suc k) l rise cut is =
    at_later m ls e (λ same. omega (arith, same, cut.before 0 m refl (omega arith))) ∙ cut_label (m.entry + 1) ls e k l rise.1 (one_on m ls e k cut) is

-- behind all of them there is none
pub cut_none : (ls : List Labelled) (e k : ℕ) → IsCut ls e k → slice_get ls k ≡ None → label_at ls e ≡ None
cut_none [] e k cut is = refl
cut_none (m ∷ ls) e zero cut is = absurd (cc)
cut_none (m ∷ ls) e (suc k) cut is = at_later m ls e (λ same. omega (arith, same, cut.before 0 m refl (omega arith))) ∙ cut_none ls e k (one_on m ls e k cut) is
