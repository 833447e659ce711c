-- A field at its start: its words and slots meet the rule, with main alone and one seat.
use Rattle.std.proofs.Common.{◌≡◌, ◌≢◌, ◌⊎◌, inl, inr, sym, subst, refl, ◌∙◌, ap, ℕ, zero, suc, ◌<◌, ◌≤◌, ◌+◌, ◌*◌, ◌-◌, arith, false, List, [], ◌∷◌, ◌++◌, length, map, replicate}
use Rattle.std.specs.Prelude.{slice_index, Some, None, box_value}
use Rattle.std.specs.Global.{Box}
use mathlib.Core.Option as maybe
use lib.ListN.{get_elem?}
use Rattle.std.proofs.lemmas.List.{length-append, length-replicate}
use Rattle.oss_body.specs.Mains.{code_main}
use Rattle.oss_code.specs.declared.code.CodeParts.{CodeParts}
use Rattle.oss_jobs.specs.declared.job.Job.{Job}
use Rattle.oss_jobs.specs.Jobs.{IsJob}
use Rattle.oss_machine.specs.Frames.{CodeScript}
use Rattle.oss_machine.specs.Machines.{asks}
use Rattle.oss_model.specs.Agreement.{Setting}
use Rattle.oss_words.specs.declared.entry.EntryState.{EntryState}
use Rattle.oss_words.specs.Bits.{state_at, state_word}
use Rattle.oss_words.specs.Net.{bare}
use Rattle.oss_words.specs.Steps.{no_flags}
use Rattle.oss_words.specs.Views.{View, Among}
use Rattle.oss_roles.specs.Field.{Sits}
use Rattle.oss_roles.specs.Sights.{Sight}
use Rattle.oss_roles.proofs.DrawLaw.{nothing_is_drawn}
use Rattle.oss_roles.proofs.WordClaims.{starts_keep}
use Rattle.oss_field.specs.declared.view.SeatView.{SeatView}
use Rattle.oss_field.specs.Heard.{Told}
use Rattle.oss_field.specs.Known.{Holding, Plan, Unlinked, first_known, sight_of}
use Rattle.oss_field.specs.Layout.{Home, job_in, state_word_of, count_word_of, body_word_of, parts_of}
use Rattle.oss_field.specs.Marks.{Mark}
use Rattle.oss_field.specs.Plans.{Planned, planned_of}
use Rattle.oss_field.specs.Standing.{blanks, first_entry, blank_entry, words_at_start, slots_at_start, at_home}
use Rattle.oss_field.specs.Table.{Slot, is_job_of, Neat, Stands}

-- words behind and before others
past : (xs rest : List ℕ) (q j : ℕ) → j ≡ length xs + q → slice_index (xs ++ rest) j ≡ slice_index rest q
past [] rest q j e = let f : j ≡ q = omega (arith, e) in ap (λ (z : ℕ). slice_index rest z) f
past (x ∷ xs) rest q j e = let g : j ≡ suc (length xs) + q = e in let f : j ≡ suc (length xs + q) = omega (arith, g) in ap (λ (z : ℕ). slice_index (x ∷ (xs ++ rest)) z) f ∙ past xs rest q (length xs + q) refl

before : (xs rest : List ℕ) (c : ℕ) → c < length xs → slice_index (xs ++ rest) c ≡ slice_index xs c
before [] rest c l = absurd (omega (arith, l))
before (x ∷ xs) rest zero l = refl
before (x ∷ xs) rest (suc c) l = before xs rest c (let k : suc c < suc (length xs) = l in omega (arith, k))

less_or : (a b : ℕ) → (a < b) ⊎ (b ≤ a)
less_or a zero = inr (omega arith)
less_or zero (suc b) = inl (omega arith)
less_or (suc a) (suc b) = elim (less_or a b) [ inl l ↦ inl (omega (arith, l)) | inr l ↦ inr (omega (arith, l)) ]

-- the words of an entry that was never used, and of a number above the entries
abbrev six : ℕ → ℕ
six k = suc (suc (suc (suc (suc (suc k)))))

blank_word : (n e p j : ℕ) → j ≡ 6 * e + p → p < 6 → e < n → slice_index (blanks n) j ≡ slice_index blank_entry p
blank_word zero e p j is small low = absurd (omega (arith, low))
blank_word (suc n) zero p j is small low = let f : j ≡ p = omega (arith, is) in ap (λ (z : ℕ). slice_index (blanks (suc n)) z) f ∙ within p small
  where
    within : (p : ℕ) → p < 6 → slice_index (blanks (suc n)) p ≡ slice_index blank_entry p
    within zero l = refl
    within (suc zero) l = refl
    within (suc (suc zero)) l = refl
    within (suc (suc (suc zero))) l = refl
    within (suc (suc (suc (suc zero)))) l = refl
    within (suc (suc (suc (suc (suc zero))))) l = refl
    within (suc (suc (suc (suc (suc (suc p)))))) l = absurd (omega (arith, l))
blank_word (suc n) (suc e) p j is small low =
    let f : j ≡ six (6 * e + p) = omega (arith, is) in
    ap (λ (z : ℕ). slice_index (blanks (suc n)) z) f ∙ blank_word n e p (6 * e + p) refl small (omega (arith, low))

blank_above : (n e p j : ℕ) → j ≡ 6 * e + p → n ≤ e → slice_index (blanks n) j ≡ 0
blank_above zero e p j is high = refl
blank_above (suc n) zero p j is high = absurd (omega (arith, high))
blank_above (suc n) (suc e) p j is high =
    let f : j ≡ six (6 * e + p) = omega (arith, is) in
    ap (λ (z : ℕ). slice_index (blanks (suc n)) z) f ∙ blank_above n e p (6 * e + p) refl (omega (arith, high))

blanks_long : (n : ℕ) → length (blanks n) ≡ 6 * n
blanks_long zero = refl
blanks_long (suc n) = let h = blanks_long n in let g : length (blanks (suc n)) ≡ six (length (blanks n)) = refl in omega (arith, g, h)

-- one more such entry
pub blanks_more : (n : ℕ) → blanks n ++ blank_entry ≡ blanks (suc n)
blanks_more zero = refl
blanks_more (suc n) = ap (λ (z : List ℕ). 0 ∷ 0 ∷ 0 ∷ 0 ∷ 18446744073709551615 ∷ 0 ∷ z) (blanks_more n)

-- the slots at the start
abbrev empty : Slot
empty = None

no_job : (n t : ℕ) → t < n → ◌≡◌ {A = Home (Box Job)} (get_elem? (map maybe.some (replicate n empty)) t) (maybe.some (maybe.some None))
no_job zero t l = absurd (omega (arith, l))
no_job (suc n) zero l = refl
no_job (suc n) (suc t) l = no_job n t (omega (arith, l))

no_slot : (n t : ℕ) → n ≤ t → ◌≡◌ {A = Home (Box Job)} (get_elem? (map maybe.some (replicate n empty)) t) maybe.none
no_slot zero t l = refl
no_slot (suc n) zero l = absurd (omega (arith, l))
no_slot (suc n) (suc t) l = no_slot n t (omega (arith, l))

slots_long : (n : ℕ) → length (map maybe.some (replicate n empty)) ≡ n
slots_long zero = refl
slots_long (suc n) = let h = slots_long n in let g : length (map maybe.some (replicate (suc n) empty)) ≡ suc (length (map maybe.some (replicate n empty))) = refl in omega (arith, g, h)

module _ (code : CodeParts) (fuel n : ℕ) (low : 0 < n) (high : n ≤ 16777216) (job : Box Job) where
  abbrev cells : List ℕ
  cells = code.first

  abbrev ws : List ℕ
  ws = words_at_start cells n

  abbrev homes : List (maybe.Option Slot)
  homes = at_home (slots_at_start job n)

  -- the words of main's entry, of each other, and above
  main_word : (p j : ℕ) → j ≡ 1 + length cells + 6 * 0 + p → p < 6 → slice_index ws j ≡ slice_index first_entry p
  main_word p j is small =
      let f : j ≡ suc (length cells + p) = omega (arith, is) in
      ap (λ (z : ℕ). slice_index ws z) f ∙ (past cells (first_entry ++ blanks (n - 1)) p (length cells + p) refl ∙ before first_entry (blanks (n - 1)) p small)

  other_word : (e p j : ℕ) → j ≡ 1 + length cells + 6 * suc e + p → slice_index ws j ≡ slice_index (blanks (n - 1)) (6 * e + p)
  other_word e p j is =
      let f : j ≡ suc (length cells + six (6 * e + p)) = omega (arith, is) in
      ap (λ (z : ℕ). slice_index ws z) f ∙ (past cells (first_entry ++ blanks (n - 1)) (six (6 * e + p)) (length cells + six (6 * e + p)) refl ∙ refl)

  zero_word : (e p j : ℕ) → j ≡ 1 + length cells + 6 * suc e + p → p < 6 → slice_index blank_entry p ≡ 0 → slice_index ws j ≡ 0
  zero_word e p j is small none = elim (less_or e (n - 1)) [
    | inl l ↦ other_word e p j is ∙ (blank_word (n - 1) e p (6 * e + p) refl small l ∙ none)
    | inr l ↦ other_word e p j is ∙ blank_above (n - 1) e p (6 * e + p) refl l
  ]

  states_zero : (e : ℕ) → slice_index ws (state_word_of (length cells) e) ≡ 0
  states_zero zero = main_word 0 (state_word_of (length cells) 0) (omega arith) (omega arith)
  states_zero (suc e) = zero_word e 0 (state_word_of (length cells) (suc e)) (omega arith) (omega arith) refl

  bodies_zero : (e : ℕ) → e ≢ 0 → slice_index ws (body_word_of (length cells) e) ≡ 0
  bodies_zero zero ne = absurd (ne refl)
  bodies_zero (suc e) ne = zero_word e 5 (body_word_of (length cells) (suc e)) refl (omega arith) refl

  body_one : slice_index ws (body_word_of (length cells) 0) ≡ 1
  body_one = main_word 5 (body_word_of (length cells) 0) refl (omega arith)

  unfilled : (t : ℕ) → t ≢ 0 → t < n → slice_index ws (count_word_of (length cells) t) ≡ 18446744073709551615
  unfilled zero ne l = absurd (ne refl)
  unfilled (suc t) ne l = other_word t 4 (count_word_of (length cells) (suc t)) refl ∙ blank_word (n - 1) t 4 (6 * t + 4) refl (omega arith) (omega (arith, l))

  homes_empty : (e : ℕ) → e ≢ 0 → e < n → get_elem? homes e ≡ maybe.some (maybe.some None)
  homes_empty zero ne l = absurd (ne refl)
  homes_empty (suc e) ne l = no_job (n - 1) e (omega (arith, l))

  jobs_none : (e : ℕ) → e ≢ 0 → job_in (get_elem? homes e) ≡ None
  jobs_none zero ne = absurd (ne refl)
  jobs_none (suc e) ne = elim (less_or e (n - 1)) [
    | inl l ↦ ap (λ (z : Home (Box Job)). job_in z) (no_job (n - 1) e l)
    | inr l ↦ ap (λ (z : Home (Box Job)). job_in z) (no_slot (n - 1) e l)
  ]

  no_flag : (e : ℕ) → state_at (slice_index ws (state_word_of (length cells) e)) ≡ no_flags
  no_flag e = ap state_at (states_zero e)

  only : (j : ℕ) (v : Sight CodeScript) → Sits (sight_of first_known ∷ []) j v → sight_of first_known ≡ v
  only zero v h = maybe.some-injective (sight_of first_known) v h
  only (suc j) v h = absurd (maybe.some-ne-none v (sym h))

  only_view : (j : ℕ) (v : SeatView) → get_elem? (record { known = first_known } ∷ []) j ≡ maybe.some v → record { known = first_known } ≡ v
  only_view zero v h = maybe.some-injective (record { known = first_known }) v h
  only_view (suc j) v h = absurd (maybe.some-ne-none v (sym h))

  only_words : (j : ℕ) (v : View) → get_elem? (first_known.words ∷ []) j ≡ maybe.some v → first_known.words ≡ v
  only_words zero v h = maybe.some-injective first_known.words v h
  only_words (suc j) v h = absurd (maybe.some-ne-none v (sym h))

  no_holding : (h : Holding) → Among h [] → ⊥
  no_holding h a = elim a [ ]

  none_told : (t : Told) → Among t [] → ⊥
  none_told t a = elim a [ ]

  none_marked : (t : Mark) → Among t [] → ⊥
  none_marked t a = elim a [ ]

  nothing : (e : ℕ) → Among e [] → ⊥
  nothing e a = elim a [ ]

  only_plans : (j : ℕ) (s : Planned) → get_elem? (planned_of first_known ∷ []) j ≡ maybe.some s → planned_of first_known ≡ s
  only_plans zero s h = maybe.some-injective (planned_of first_known) s h
  only_plans (suc j) s h = absurd (maybe.some-ne-none s (sym h))

  no_plan : (y : Plan) → Among y [] → ⊥
  no_plan y a = elim a [ ]

  no_loose : (z : Unlinked) → Among z [] → ⊥
  no_loose z a = elim a [ ]

  pub begins : Setting (code_main code fuel) code.first → IsJob code [] (box_value job) 0 (record { start = code_main code fuel; found = [] }) (λ y. None)
      → Stands code fuel n (words_at_start code.first n) (at_home (slots_at_start job n)) (record { known = first_known } ∷ [])
  begins setting is = record {
    net = bare;
    gave = λ e. false;
    role = λ e. None;
    before = λ t. [];
    fresh = λ t. refl;
    cells = code.first;
    size =
        (let a : length (cells ++ (first_entry ++ blanks (n - 1))) ≡ length cells + length (first_entry ++ blanks (n - 1)) = length-append cells (first_entry ++ blanks (n - 1)) in
        let b = blanks_long (n - 1) in
        let d : length (first_entry ++ blanks (n - 1)) ≡ six (length (blanks (n - 1))) = refl in
        let g : length ws ≡ suc (length (cells ++ (first_entry ++ blanks (n - 1)))) = refl in
        omega (arith, a, b, d, g, low));
    slots = (let a = slots_long (n - 1) in let g : length homes ≡ suc (length (map maybe.some (replicate (n - 1) empty))) = refl in omega (arith, a, g, low));
    sized = refl;
    cell_words = λ c l. let f : 1 + c ≡ suc c = omega arith in ap (λ (z : ℕ). slice_index ws z) f ∙ before cells (first_entry ++ blanks (n - 1)) c l;
    empty = λ e l z. none_there e l z;
    whole = λ e. states_zero e ∙ sym (ap (λ (z : ℕ). state_word (state_at z)) (states_zero e));
    neat = λ e. subst (λ (z : EntryState). Neat z) (sym (no_flag e)) (record { next = λ q. (refl, refl, refl); child = λ q. (refl, refl, refl) });
    rule = starts_keep CodeScript (Box Job) (is_job_of code (λ t. [])) (asks code) (code_main code fuel) code.first n (parts_of (length cells) ws homes cells) job setting low high is (record {
      states = no_flag;
      spent = main_word 4 (count_word_of (length cells) 0) refl (omega arith);
      counts = unfilled;
      body = body_one;
      bodies = bodies_zero;
      job = refl;
      jobs = jobs_none;
      cells = refl;
    });
    told = λ j x sits h a. absurd (no_holding h (subst (λ (z : SeatView). Among h z.known.bears) (sym (only_view j x sits)) a));
    drawn = nothing_is_drawn CodeScript (λ e. None) (sight_of first_known) refl;
    undrawn = λ e l. record {
      none = refl;
      undrawn = λ j x sits a. nothing e (subst (λ (z : Sight CodeScript). Among e z.drawn) (sym (only j x sits)) a);
    };
    selves = λ t q is. absurd (let z : None ≡ Some q = is in let bad : ⊥ = cc in bad);
    marked = record { each = λ j x sits t a. absurd (none_marked t (subst (λ (z : SeatView). Among t z.known.marks) (sym (only_view j x sits)) a)) };
    heard = record { told = λ j x sits t a. absurd (none_told t (subst (λ (z : SeatView). Among t z.known.told) (sym (only_view j x sits)) a)) };
    seats = record {
      main_drawn = omega arith;
      drawn = omega arith;
      failed = λ j v at. subst (λ (z : View). z.failed ≤ 1) (only_words j v at) (omega arith);
      split = λ v at. subst (λ (z : View). 1 ≡ 1 + z.splits) (only_words 0 v at) refl;
      few = omega arith;
      parts = refl;
      work = omega arith;
    };
    planned = record {
      inside = λ e r is. absurd (let z : None ≡ Some r = is in let bad : ⊥ = cc in bad);
      blank = λ e none. no_flag e;
      own = λ j s at y a. absurd (no_plan y (subst (λ (z : Planned). Among y z.plans) (sym (only_plans j s at)) a));
      roles = λ j s at y a e r is task. absurd (no_plan y (subst (λ (z : Planned). Among y z.plans) (sym (only_plans j s at)) a));
      rest = λ j s at y a e r is task. absurd (no_plan y (subst (λ (z : Planned). Among y z.plans) (sym (only_plans j s at)) a));
      one = λ i j s u at sits y z a b same. absurd (no_plan y (subst (λ (x : Planned). Among y x.plans) (sym (only_plans i s at)) a));
      loose = λ j s at z a. absurd (no_loose z (subst (λ (x : Planned). Among z x.unlinked) (sym (only_plans j s at)) a));
    };
  }
    where
      none_there : (e : ℕ) → e < n → slice_index ws (body_word_of (length cells) e) ≡ 0 → get_elem? homes e ≡ maybe.some (maybe.some None)
      none_there zero l z = absurd (let one = body_one in omega (arith, one, z))
      none_there (suc e) l z = homes_empty (suc e) (λ q. absurd (omega (arith, q))) l

-- the words and slots of one entry more
append_assoc : {A : Type 0} (xs ys zs : List A) → (xs ++ ys) ++ zs ≡ xs ++ (ys ++ zs)
append_assoc [] ys zs = refl
append_assoc (x ∷ xs) ys zs = ap (λ (z : List _). x ∷ z) (append_assoc xs ys zs)

pub more_words : (cells : List ℕ) (n : ℕ) → 1 ≤ n → words_at_start cells n ++ blank_entry ≡ words_at_start cells (n + 1)
more_words cells zero low = absurd (omega (arith, low))
more_words cells (suc n) low =
    let e : suc n - 1 ≡ n = omega arith in
    let f : suc n + 1 - 1 ≡ suc n = omega arith in
    ap (λ (z : List ℕ). 1 ∷ z) (append_assoc cells (first_entry ++ blanks (suc n - 1)) blank_entry)
    ∙ (ap (λ (z : List ℕ). 1 ∷ (cells ++ (first_entry ++ z))) (ap (λ (k : ℕ). blanks k ++ blank_entry) e ∙ blanks_more n)
    ∙ ap (λ (k : ℕ). 1 ∷ (cells ++ (first_entry ++ blanks k))) (sym f))

more_none : (n : ℕ) → replicate n empty ++ (empty ∷ []) ≡ replicate (suc n) empty
more_none zero = refl
more_none (suc n) = ap (λ (z : List Slot). empty ∷ z) (more_none n)

pub more_slots : (job : Box Job) (n : ℕ) → 1 ≤ n → slots_at_start job n ++ (empty ∷ []) ≡ slots_at_start job (n + 1)
more_slots job zero low = absurd (omega (arith, low))
more_slots job (suc n) low =
    let e : suc n - 1 ≡ n = omega arith in
    let f : suc n + 1 - 1 ≡ suc n = omega arith in
    ap (λ (z : List Slot). Some job ∷ z) (ap (λ (k : ℕ). replicate k empty ++ (empty ∷ [])) e ∙ (more_none n ∙ ap (λ (k : ℕ). replicate k empty) (sym f)))

pub slots_length : (job : Box Job) (n : ℕ) → 0 < n → length (slots_at_start job n) ≡ n
slots_length job zero low = absurd (omega (arith, low))
slots_length job (suc n) low =
    let e : suc n - 1 ≡ n = omega arith in
    let h : length (replicate n empty) ≡ n = length-replicate n empty in
    let g : length (slots_at_start job (suc n)) ≡ suc (length (replicate (suc n - 1) empty)) = refl in
    g ∙ ap (λ (k : ℕ). suc (length (replicate k empty))) e ∙ ap suc h
