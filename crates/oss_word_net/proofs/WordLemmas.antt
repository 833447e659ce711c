-- State words to which a flag or a link is added, and a table behind such a step.
use Rattle.std.proofs.Common.{◌≡◌, ◌≢◌, ◌⊎◌, inl, inr, sym, subst, refl, ◌∙◌, ap, ℕ, zero, suc, ◌<◌, ◌≤◌, ◌+◌, ◌*◌, ◌%◌, ◌^◌, arith, Bool, true, false, List, [], length, set}
use Rattle.std.specs.Prelude.{slice_index, ◌==◌, if◌then◌else◌}
use Rattle.std.proofs.Math.Nat.{mod-eq_of_lt}
use Rattle.oss_words.specs.declared.entry.EntryState.{EntryState}
use Rattle.oss_words.specs.declared.entry.EntryInfo.{EntryInfo}
use Rattle.oss_words.specs.Bits.{state_at, state_word, FitsWord, weight}
use Rattle.oss_words.specs.Causes.{Sets, sets_done, sets_folds, sets_reads, sets_writes, sets_clear, Unset}
use Rattle.oss_words.specs.Net.{Net, apart}
use Rattle.oss_words.specs.Rule.{Rule}
use Rattle.oss_words.specs.Steps.{no_flags}
use Rattle.oss_words.specs.Sums.{num}
use Rattle.oss_words.specs.Views.{View, Among}
use Rattle.std.proofs.lemmas.List.{get_or-set_same, get_or-set_other}
use Rattle.oss_words.proofs.SumLemmas.{same_number}
use Rattle.oss_words.proofs.BitLemmas.{states_are_read}
use Rattle.oss_word_net.specs.declared.sight.Sight.{Sight}
use Rattle.oss_word_net.specs.Table.{states_of, infos_of, views_of, Sits, Neat, Knows, Filled, Stands}
use Rattle.oss_word_net.proofs.TableLemmas.{views_set, state_here, state_else, infos_stay, draw_stays, length_stays, others_know, still_filled, first_stays}

pub num_small : (b : Bool) → num b ≤ 1
num_small true = omega arith
num_small false = omega arith

pub num_off : (b : Bool) → b ≡ false → num b ≡ 0
num_off true e = absurd (cc)
num_off false e = refl

-- what is taken apart of a word fits into a word
pub parts_fit : (w : ℕ) → FitsWord (state_at w)
parts_fit w = record { next = omega arith; child = omega arith }

-- a state that fits makes a word of 64 bits
pub word_small : (c : EntryState) → FitsWord c → state_word c < 2 ^ 64
word_small c f =
    let a = f.next in let b = f.child in
    omega (arith, a, b, num_small c.reads, num_small c.folds, num_small c.writes, num_small c.given, num_small c.done, num_small c.clear, num_small c.linked, num_small c.headed, num_small c.left, num_small c.next_folds, num_small c.next_same, num_small c.child_folds, num_small c.child_same)

-- the word of a state to which something is added that makes it the word of another
pub added : (a c : EntryState) (x k : ℕ) → x ≡ state_word a → state_word a + k ≡ state_word c → FitsWord c → ((x + k) % 2 ^ 64 ≡ state_word c) × (state_at (x + k) ≡ c) × (x + k < 18446744073709551616)
added a c x k is sum fits =
    let y : x + k ≡ state_word c = ap (λ z. z + k) is ∙ sum in
    (ap (λ z. z % 2 ^ 64) y ∙ mod-eq_of_lt (word_small c fits), ap state_at y ∙ states_are_read c fits, (let z = word_small c fits in omega (arith, y, z)))

-- the state with the flag of this number
abbrev pub with_flag : EntryState → ℕ → EntryState
with_flag a f = if f == 1 then record a { done = true } else (if f == 2 then record a { folds = true } else (if f == 3 then record a { reads = true } else (if f == 4 then record a { writes = true } else record a { clear = true })))

pub flag_sets : (a : EntryState) (f : ℕ) → 1 ≤ f → f ≤ 5 → Unset a f → Sets a (with_flag a f) f
flag_sets a zero l h u = absurd (omega (arith, l))
flag_sets a (suc zero) l h u = sets_done (u.0 refl) refl
flag_sets a (suc (suc zero)) l h u = sets_folds (u.1 refl) refl
flag_sets a (suc (suc (suc zero))) l h u = sets_reads (u.2 refl) refl
flag_sets a (suc (suc (suc (suc zero)))) l h u = sets_writes (u.3 refl) refl
flag_sets a (suc (suc (suc (suc (suc zero))))) l h u = sets_clear (u.4 refl) refl
flag_sets a (suc (suc (suc (suc (suc (suc f)))))) l h u = absurd (omega (arith, h))

pub flag_adds : (a : EntryState) (f : ℕ) → 1 ≤ f → f ≤ 5 → Unset a f → state_word a + weight f ≡ state_word (with_flag a f)
flag_adds a zero l h u = absurd (omega (arith, l))
flag_adds a (suc zero) l h u = let z = num_off a.done (u.0 refl) in omega (arith, z)
flag_adds a (suc (suc zero)) l h u = let z = num_off a.folds (u.1 refl) in omega (arith, z)
flag_adds a (suc (suc (suc zero))) l h u = let z = num_off a.reads (u.2 refl) in omega (arith, z)
flag_adds a (suc (suc (suc (suc zero)))) l h u = let z = num_off a.writes (u.3 refl) in omega (arith, z)
flag_adds a (suc (suc (suc (suc (suc zero))))) l h u = let z = num_off a.clear (u.4 refl) in omega (arith, z)
flag_adds a (suc (suc (suc (suc (suc (suc f)))))) l h u = absurd (omega (arith, h))

-- a flag changes no link
pub flag_fits : (a : EntryState) (f : ℕ) → 1 ≤ f → f ≤ 5 → FitsWord a → FitsWord (with_flag a f)
flag_fits a zero l h u = absurd (omega (arith, l))
flag_fits a (suc zero) l h u = record { next = u.next; child = u.child }
flag_fits a (suc (suc zero)) l h u = record { next = u.next; child = u.child }
flag_fits a (suc (suc (suc zero))) l h u = record { next = u.next; child = u.child }
flag_fits a (suc (suc (suc (suc zero)))) l h u = record { next = u.next; child = u.child }
flag_fits a (suc (suc (suc (suc (suc zero))))) l h u = record { next = u.next; child = u.child }
flag_fits a (suc (suc (suc (suc (suc (suc f)))))) l h u = absurd (omega (arith, h))

pub flag_neat : (a : EntryState) (f : ℕ) → 1 ≤ f → f ≤ 5 → Neat a → Neat (with_flag a f)
flag_neat a zero l h u = absurd (omega (arith, l))
flag_neat a (suc zero) l h u = record { next = u.next; child = u.child; left = u.left }
flag_neat a (suc (suc zero)) l h u = record { next = u.next; child = u.child; left = u.left }
flag_neat a (suc (suc (suc zero))) l h u = record { next = u.next; child = u.child; left = u.left }
flag_neat a (suc (suc (suc (suc zero)))) l h u = record { next = u.next; child = u.child; left = u.left }
flag_neat a (suc (suc (suc (suc (suc zero))))) l h u = record { next = u.next; child = u.child; left = u.left }
flag_neat a (suc (suc (suc (suc (suc (suc f)))))) l h u = absurd (omega (arith, h))

-- what a flag weighs tells its number
abbrev flag_at : ℕ → ℕ
flag_at x = if x == 16 then 1 else (if x == 2 then 2 else (if x == 1 then 3 else (if x == 4 then 4 else 5)))

flag_back : (f : ℕ) → 1 ≤ f → f ≤ 5 → flag_at (weight f) ≡ f
flag_back zero l h = absurd (omega (arith, l))
flag_back (suc zero) l h = refl
flag_back (suc (suc zero)) l h = refl
flag_back (suc (suc (suc zero))) l h = refl
flag_back (suc (suc (suc (suc zero)))) l h = refl
flag_back (suc (suc (suc (suc (suc zero))))) l h = refl
flag_back (suc (suc (suc (suc (suc (suc f)))))) l h = absurd (omega (arith, h))

pub one_weight : (f g : ℕ) → 1 ≤ f → f ≤ 5 → 1 ≤ g → g ≤ 5 → weight f ≡ weight g → f ≡ g
one_weight f g a b c d e = sym (flag_back f a b) ∙ ap flag_at e ∙ flag_back g c d

-- a table behind a step that makes c the state of the entry o
module _ (n : ℕ) (ws : List ℕ) (sights : List Sight) (stands : Stands n ws sights) (id : ℕ) (s s' : Sight) (at : Sits sights id s) (o : ℕ) (inside : o < n) (c : EntryState) (fits : FitsWord c) (neat : Neat c) where
  abbrev pub after : List ℕ
  after = set ws (1 + 2 * o) (state_word c)

  in_table : 1 + 2 * o < length ws
  in_table = let q = stands.size in omega (arith, q, inside)

  pub here : states_of after o ≡ c
  here = state_here ws o (state_word c) in_table c (states_are_read c fits)

  pub apart_from : (j : ℕ) → j ≢ o → states_of after j ≡ states_of ws j
  apart_from j ne = state_else ws o (state_word c) in_table j ne

  pub word_stands : (net' : Net) (gave' : ℕ → Bool) → Rule n net' gave' (states_of after) (infos_of ws) (slice_index ws 0) (set (views_of sights) id s'.known.view)
      → ((e : ℕ) → stands.net.place e ≢ apart → net'.place e ≢ apart) → ((e : ℕ) → stands.net.place e ≡ apart → (Among e s.known.view.owned → ⊥) → (net'.place e ≡ apart) × (e ≢ o))
      → Knows n net' (states_of after) (infos_of ws) s'.known → s'.known.view.parts ≡ s.known.view.parts → s'.known.view.splits ≡ s.known.view.splits
      → ((e : ℕ) → net'.place e ≡ apart → (states_of after e ≡ no_flags) ⊎ Filled (set sights id s') e) → Stands n after (set sights id s')
  word_stands net' gave' rule hung loose knows parts splits blank = record {
    net = net';
    gave = gave';
    first = first_stays n ws sights stands id s s' at parts splits;
    size = length_stays ws o (state_word c) in_table n stands.size;
    rule = subst (λ (z : List View). Rule n net' gave' (states_of after) (infos_of after) (slice_index after 0) z) (sym (views_set sights id s'))
        (subst (λ (z : ℕ). Rule n net' gave' (states_of after) (infos_of after) z (set (views_of sights) id s'.known.view)) (sym (draw_stays ws o (state_word c) in_table))
        (subst (λ (g : ℕ → EntryInfo). Rule n net' gave' (states_of after) g (slice_index ws 0) (set (views_of sights) id s'.known.view)) (sym (infos_stay ws o (state_word c) in_table)) rule));
    whole = λ e. elim (same_number e o) [
      | inl q ↦ ap (λ (j : ℕ). slice_index after (1 + 2 * j)) q ∙ get_or-set_same ws (1 + 2 * o) (state_word c) 0 in_table ∙ ap state_word (sym here ∙ ap (λ (j : ℕ). states_of after j) (sym q))
      | inr ne ↦ get_or-set_other ws (1 + 2 * o) (1 + 2 * e) (state_word c) 0 (λ q. ne (omega (arith, q))) ∙ stands.whole e ∙ ap state_word (sym (apart_from e ne))
    ];
    neat = λ e. elim (same_number e o) [
      | inl q ↦ subst Neat (sym here ∙ ap (λ (j : ℕ). states_of after j) (sym q)) neat
      | inr ne ↦ subst Neat (sym (apart_from e ne)) (stands.neat e)
    ];
    knows = λ j t sits. subst (λ (g : ℕ → EntryInfo). Knows n net' (states_of after) g t.known) (sym (infos_stay ws o (state_word c) in_table))
        (others_know n stands.net net' stands.gave (states_of ws) (states_of after) (infos_of ws) (infos_of ws) (slice_index ws 0) sights id s s' stands.rule at stands.knows (λ e h. (hung e h, refl)) (λ e a m. let k = loose e a m in (k.0, apart_from e k.1, refl)) knows j t sits);
    blank = blank;
  }

  -- the same, where no place changes and the entry hangs
  pub hung_stands : (gave' : ℕ → Bool) → Rule n stands.net gave' (states_of after) (infos_of ws) (slice_index ws 0) (set (views_of sights) id s'.known.view) → stands.net.place o ≢ apart
      → Knows n stands.net (states_of after) (infos_of ws) s'.known → s'.known.filling ≡ s.known.filling → s'.known.view.parts ≡ s.known.view.parts → s'.known.view.splits ≡ s.known.view.splits → Stands n after (set sights id s')
  hung_stands gave' rule hung knows same parts splits = word_stands stands.net gave' rule (λ e h. h) (λ e a m. (a, λ q. hung (ap (λ (j : ℕ). stands.net.place j) (sym q) ∙ a))) knows parts splits
      (λ e a. elim (stands.blank e a) [
        | inl q ↦ inl (apart_from e (λ z. hung (ap (λ (j : ℕ). stands.net.place j) (sym z) ∙ a)) ∙ q)
        | inr f ↦ inr (still_filled sights id s s' e at f (λ g gs q is. (g, gs, same ∙ q, is)))
      ])

  -- what a seat knows of its entry's words stays, where another entry's word changes
  pub knows_on : stands.net.place o ≢ apart → s'.known.told ≡ s.known.told → s'.known.filling ≡ s.known.filling → s'.known.view.owned ≡ s.known.view.owned → s'.known.entries ≡ s.known.entries → s'.known.view.parts ≡ s.known.view.parts
      → (s'.known.view.parts ≡ 0 → (s'.known.view.links ≡ []) × (s'.known.view.gives ≡ [])) → Knows n stands.net (states_of after) (infos_of ws) s'.known
  knows_on hung told filling owned entries parts spent = let old = stands.knows id s at in record {
    told = λ t m. old.told t (subst (λ z. Among t z) told m);
    filling = λ f fs q.
        let k = old.filling f fs (sym filling ∙ q) in
        (k.0, subst (λ z. Among f.entry z) (sym owned) k.1, apart_from f.entry (λ z. hung (ap (λ (j : ℕ). stands.net.place j) (sym z) ∙ k.0)) ∙ k.2, k.3);
    entries = λ ne. entries ∙ old.entries (λ z. ne (parts ∙ z));
    spent = λ z. let k = spent z in (k.0, k.1, filling ∙ (old.spent (sym parts ∙ z)).2);
  }
