-- What the notes tell of acts.
use Rattle.std.proofs.Common.{◌≡◌, ◌≤◌, ◌<◌, ◌⊎◌, inl, inr, refl, sym, subst, ap, ◌∙◌, ℕ, suc, Bool, true, false, List, [], ◌∷◌, length, arith}
use Rattle.std.specs.Prelude.{nat_eq, nat_le, nat_lt, not, ◌||◌, ◌&&◌}
use Rattle.std.proofs.lemmas.Bool.Decides.{nat_tests}
use Rattle.oss_syntax.specs.declared.access.Access.{Access}
use Rattle.oss_syntax.specs.declared.access.Range.{Range}
use Rattle.oss_meaning.specs.Clauses.{waited_for}
use Rattle.oss_meaning.specs.Sections.{declared_on}
use Rattle.oss_model.specs.Bodies.{Act, Program, Start}
use Rattle.oss_model.specs.Bodies.Act.{Ticked, Awaited, Waited, WaitedOn, Releases, Ended}
use Rattle.oss_model.specs.Context.{in_clauses}
use Rattle.oss_model.specs.History.{IsMade}
use Rattle.oss_model.specs.Machine.{At, State, Task}
use Rattle.oss_model.specs.Order.{IsIn, written}
use Rattle.oss_model.specs.Rights.{in_access}
use Rattle.oss_model.proofs.OrderLemmas.{suffix_length}
use Rattle.oss_model.proofs.TreeLemmas.{at_same}
use Rattle.oss_chain_laws.specs.Happenings.{Does, EndsWith}
use Rattle.oss_chain_laws.proofs.WaitLemmas.{does_same}
use Rattle.oss_span_check.specs.declared.note.Note.{Note}
use Rattle.oss_span_check.specs.declared.note.What.{What}
use Rattle.oss_span_check.specs.declared.note.What.TheVariants as what
use Rattle.oss_span_check.specs.declared.record.Record.{Record}
use Rattle.oss_span_check.specs.declared.sought.Sought.{Sought}
use Rattle.oss_span_check.specs.declared.sought.Sought.TheVariants as sought
use Rattle.oss_span_check.specs.Points.{same_point}
use Rattle.oss_span_check.specs.Queries.{has_at, has_behind, has_done, has_some, in_ranges, is_last, is_named, is_of, is_sought}
use Rattle.oss_span_check.specs.Records.{IsNoted, IsRecord, IsSeen}
use Rattle.oss_span_check.proofs.EndLemmas.{end_act}
use Rattle.oss_span_check.proofs.ListLemmas.{and_both, and_parts, any_in, in_any, not_true, true_not}
use Rattle.oss_span_check.proofs.PointLemmas.{same_is, same_self, written_same}

-- The act is of a kind.
abbrev pub Sense : {S : Type 0} → Sought → Act S → Type 0
Sense sought.Tick a = a ≡ Ticked
Sense sought.Wait a = a ≡ Waited
Sense sought.Await a = a ≡ Awaited
Sense sought.End a = a ≡ Ended
Sense (sought.Names c) a = (named : List Access) × (a ≡ WaitedOn named) × (in_clauses named c ≡ true)
Sense (sought.Frees c) a = (clauses : List Access) × (a ≡ Releases clauses false) × (in_clauses clauses c ≡ true)

pub named_same : (clauses : List Access) (c : ℕ) → is_named clauses c ≡ in_clauses clauses c
named_same [] c = refl
named_same (a ∷ rest) c = ap (λ (b : Bool). in_access a c || b) (named_same rest c)

pub ranges_same : (ranges : List Range) (c : ℕ) → in_ranges ranges c ≡ in_clauses (declared_on waited_for ranges) c
ranges_same [] c = refl
ranges_same (r ∷ rest) c = ap (λ (b : Bool). (nat_le r.lo c && nat_lt c r.hi) || b) (ranges_same rest c)

note_sense : {S : Type 0} (kind : Sought) (w : What) (a : Act S) → is_sought kind w ≡ true → IsSeen w a → Sense kind a
note_sense sought.Tick what.Tick a h e = e
note_sense sought.Wait what.Wait a h e = e
note_sense sought.Await what.Await a h e = e
note_sense sought.End what.End a h e = e
note_sense (sought.Names c) (what.WaitOn ranges) a h e = (declared_on waited_for ranges, e, sym (ranges_same ranges c) ∙ h)
note_sense (sought.Frees c) (what.Release clauses) a h e = (clauses, e, sym (named_same clauses c) ∙ h)
note_sense kind w a h e = cc

sense_noted : {S : Type 0} (kind : Sought) (a : Act S) → Sense kind a → IsNoted a
sense_noted sought.Tick a h = subst IsNoted (sym h) tt
sense_noted sought.Wait a h = subst IsNoted (sym h) tt
sense_noted sought.Await a h = subst IsNoted (sym h) tt
sense_noted sought.End a h = subst IsNoted (sym h) tt
sense_noted (sought.Names c) a h = subst IsNoted (sym h.1) tt
sense_noted (sought.Frees c) a h = subst IsNoted (sym h.1) tt

module _ (S : Type 0) where
  abbrev naming : List Access → Act S
  naming named = WaitedOn named

  abbrev freeing : List Access → Act S
  freeing clauses = Releases clauses false

  abbrev ticked : Act S
  ticked = Ticked

  abbrev waited : Act S
  waited = Waited

  abbrev awaited : Act S
  awaited = Awaited

  abbrev ending : Act S
  ending = Ended

  on_names : (c : ℕ) (w : What) (named : List Access) → IsSeen w (naming named) → in_clauses named c ≡ true → is_sought (sought.Names c) w ≡ true
  on_names c (what.WaitOn ranges) named e h =
      let q : named ≡ declared_on waited_for ranges = same e in
      ranges_same ranges c ∙ (ap (λ (x : List Access). in_clauses x c) (sym q) ∙ h)
    where
      same : {xs ys : List Access} → naming xs ≡ naming ys → xs ≡ ys
      same e = cc
  on_names c what.Tick named e h = absurd cc
  on_names c what.Wait named e h = absurd cc
  on_names c what.Await named e h = absurd cc
  on_names c (what.Release clauses) named e h = absurd cc
  on_names c what.End named e h = absurd cc

  on_frees : (c : ℕ) (w : What) (clauses : List Access) → IsSeen w (freeing clauses) → in_clauses clauses c ≡ true → is_sought (sought.Frees c) w ≡ true
  on_frees c (what.Release all) clauses e h =
      let q : clauses ≡ all = same e in
      named_same all c ∙ (ap (λ (x : List Access). in_clauses x c) (sym q) ∙ h)
    where
      same : {xs ys : List Access} → freeing xs ≡ freeing ys → xs ≡ ys
      same e = cc
  on_frees c what.Tick clauses e h = absurd cc
  on_frees c what.Wait clauses e h = absurd cc
  on_frees c what.Await clauses e h = absurd cc
  on_frees c (what.WaitOn ranges) clauses e h = absurd cc
  on_frees c what.End clauses e h = absurd cc

  plain_tick : (w : What) → IsSeen w ticked → is_sought sought.Tick w ≡ true
  plain_tick what.Tick e = refl
  plain_tick what.Wait e = absurd cc
  plain_tick what.Await e = absurd cc
  plain_tick (what.WaitOn ranges) e = absurd cc
  plain_tick (what.Release clauses) e = absurd cc
  plain_tick what.End e = absurd cc

  plain_wait : (w : What) → IsSeen w waited → is_sought sought.Wait w ≡ true
  plain_wait what.Wait e = refl
  plain_wait what.Tick e = absurd cc
  plain_wait what.Await e = absurd cc
  plain_wait (what.WaitOn ranges) e = absurd cc
  plain_wait (what.Release clauses) e = absurd cc
  plain_wait what.End e = absurd cc

  plain_await : (w : What) → IsSeen w awaited → is_sought sought.Await w ≡ true
  plain_await what.Await e = refl
  plain_await what.Tick e = absurd cc
  plain_await what.Wait e = absurd cc
  plain_await (what.WaitOn ranges) e = absurd cc
  plain_await (what.Release clauses) e = absurd cc
  plain_await what.End e = absurd cc

  plain_end : (w : What) → IsSeen w ending → is_sought sought.End w ≡ true
  plain_end what.End e = refl
  plain_end what.Tick e = absurd cc
  plain_end what.Wait e = absurd cc
  plain_end what.Await e = absurd cc
  plain_end (what.WaitOn ranges) e = absurd cc
  plain_end (what.Release clauses) e = absurd cc

sense_note : {S : Type 0} (kind : Sought) (w : What) (a : Act S) → IsSeen w a → Sense kind a → is_sought kind w ≡ true
sense_note {S = S} sought.Tick w a e h = plain_tick S w (subst (λ (x : Act S). IsSeen w x) h e)
sense_note {S = S} sought.Wait w a e h = plain_wait S w (subst (λ (x : Act S). IsSeen w x) h e)
sense_note {S = S} sought.Await w a e h = plain_await S w (subst (λ (x : Act S). IsSeen w x) h e)
sense_note {S = S} sought.End w a e h = plain_end S w (subst (λ (x : Act S). IsSeen w x) h e)
sense_note {S = S} (sought.Names c) w a e h = on_names S c w h.0 (subst (λ (x : Act S). IsSeen w x) h.1 e) h.2
sense_note {S = S} (sought.Frees c) w a e h = on_frees S c w h.0 (subst (λ (x : Act S). IsSeen w x) h.1 e) h.2

is_same : (x y : ℕ) → nat_eq x y ≡ true → x ≡ y
is_same x y e = grind (arith, nat_tests)

same_eq : (x y : ℕ) → x ≡ y → nat_eq x y ≡ true
same_eq x y e = grind (arith, nat_tests)

module _ {S : Type 0} (P : Program S) (main : Start S) (s : State S) (made : IsMade P main s) (ended : (p : List ℕ) (u : Task S) → At s p u → (n : ℕ) × EndsWith P s p n) (r : Record) (so : IsRecord P s r) where
  -- an act of this kind
  pub record Found (kind : Sought) (p : List ℕ) (n : ℕ) : Type 0 where
    pub created : ℕ
    pub act : Act S
    pub does : Does P s p n created act
    pub sense : Sense kind act

  of_note : (kind : Sought) (p : List ℕ) (x : Note) → IsIn x r.notes → is_of kind (written p) x ≡ true → Found kind p x.number
  of_note kind p x i e =
      let t = so.notes_so x i in
      let h = and_parts (is_sought kind x.what) (same_point x.point (written p)) e in
      let q : t.path ≡ p = written_same t.path p (sym t.point ∙ same_is {p = x.point} {q = written p} h.1) in
      record { created = t.created; act = t.act; does = subst (λ (y : List ℕ). Does P s y x.number t.created t.act) q t.does; sense = note_sense kind x.what t.act h.0 t.seen }

  -- a note of it
  record Noted (kind : Sought) (p : List ℕ) (n : ℕ) : Type 0 where
    note : Note
    listed : IsIn note r.notes
    is_of_it : is_of kind (written p) note ≡ true
    number : note.number ≡ n

  to_note : (kind : Sought) (p : List ℕ) (n : ℕ) → Found kind p n → Noted kind p n
  to_note kind p n f =
      let h = so.noted p n f.created f.act f.does (sense_noted kind f.act f.sense) in
      let t = so.notes_so h.note h.listed in
      let q : t.path ≡ p = written_same t.path p (sym t.point ∙ h.point) in
      let d : Does P s p n t.created t.act = subst (λ (m : ℕ). Does P s p m t.created t.act) h.number (subst (λ (y : List ℕ). Does P s y h.note.number t.created t.act) q t.does) in
      let e : t.act ≡ f.act = (does_same P s d f.does).1 in
      record {
        note = h.note;
        listed = h.listed;
        is_of_it = and_both (sense_note kind h.note.what t.act t.seen (subst (λ (a : Act S). Sense kind a) (sym e) f.sense)) (ap (λ (y : List ℕ). same_point y (written p)) h.point ∙ same_self (written p));
        number = h.number;
      }

  pub at_found : (kind : Sought) (p : List ℕ) (n : ℕ) → has_at r.notes kind (written p) n ≡ true → Found kind p n
  at_found kind p n e =
      let x = any_in (λ x. is_of kind (written p) x && nat_eq x.number n) r.notes e in
      let h = and_parts (is_of kind (written p) x.0) (nat_eq x.0.number n) x.2 in
      subst (λ (m : ℕ). Found kind p m) (is_same x.0.number n h.1) (of_note kind p x.0 x.1 h.0)

  pub found_at : (kind : Sought) (p : List ℕ) (n : ℕ) → Found kind p n → has_at r.notes kind (written p) n ≡ true
  found_at kind p n f = let x = to_note kind p n f in in_any (λ x. is_of kind (written p) x && nat_eq x.number n) r.notes x.note x.listed (and_both x.is_of_it (same_eq x.note.number n x.number))

  pub some_found : (kind : Sought) (p : List ℕ) → has_some r.notes kind (written p) ≡ true → (n : ℕ) × Found kind p n
  some_found kind p e = let x = any_in (λ x. is_of kind (written p) x) r.notes e in (x.0.number, of_note kind p x.0 x.1 x.2)

  pub found_some : (kind : Sought) (p : List ℕ) (n : ℕ) → Found kind p n → has_some r.notes kind (written p) ≡ true
  found_some kind p n f = let x = to_note kind p n f in in_any (λ x. is_of kind (written p) x) r.notes x.note x.listed x.is_of_it

  -- last acts
  pub done_within : {p : List ℕ} {n m k : ℕ} {a : Act S} → EndsWith P s p n → Does P s p m k a → m ≤ n
  done_within {p = p} e d =
      let l = suffix_length d.done_ in
      let q : length d.task.body.found ≡ length e.task.body.found = ap (λ (t : Task S). length t.body.found) (at_same s p d.task e.task d.at_ e.at_) in
      let i = e.number_is in
      let j = d.number_is in
      omega (arith, l, q, i, j)

  pub end_found : {p : List ℕ} {n : ℕ} → EndsWith P s p n → Found sought.End p n
  end_found e = let x = end_act P s e in record { created = x.0; act = Ended; does = x.1; sense = refl }

  pub is_last_back : (p : List ℕ) (n : ℕ) → EndsWith P s p n → is_last r.notes (written p) n ≡ true
  is_last_back p n e = and_both (found_at sought.End p n (end_found e)) (true_not (has_behind r.notes sought.End (written p) n) none)
    where
      none : has_behind r.notes sought.End (written p) n ≡ true → ⊥
      none h =
          let x = any_in (λ x. is_of sought.End (written p) x && nat_lt n x.number) r.notes h in
          let g = and_parts (is_of sought.End (written p) x.0) (nat_lt n x.0.number) x.2 in
          let f = of_note sought.End p x.0 x.1 g.0 in
          let l = done_within e f.does in
          let k : n < x.0.number = less n x.0.number g.1 in
          omega (arith, l, k)
        where
          less : (a b : ℕ) → nat_lt a b ≡ true → a < b
          less a b h = grind (arith, nat_tests)

  pub is_last_forth : (p : List ℕ) (n : ℕ) → is_last r.notes (written p) n ≡ true → EndsWith P s p n
  is_last_forth p n h = subst (λ (m : ℕ). EndsWith P s p m) (go (which e.0 n)) e.1
    where
      parts : (has_at r.notes sought.End (written p) n ≡ true) × (not (has_behind r.notes sought.End (written p) n) ≡ true)
      parts = and_parts _ _ h

      f : Found sought.End p n
      f = at_found sought.End p n parts.0

      e : (m : ℕ) × EndsWith P s p m
      e = ended p f.does.task f.does.at_

      which : (a b : ℕ) → (a ≤ b) ⊎ (b < a)
      which a b = grind arith

      less : (a b : ℕ) → a < b → nat_lt a b ≡ true
      less a b l = grind (arith, nat_tests)

      go : (e.0 ≤ n) ⊎ (n < e.0) → e.0 ≡ n
      go (inl l) = let k = done_within e.1 f.does in omega (arith, l, k)
      go (inr l) =
          let x = to_note sought.End p e.0 (end_found e.1) in
          absurd (not_true (has_behind r.notes sought.End (written p) n) parts.1 (in_any (λ x. is_of sought.End (written p) x && nat_lt n x.number) r.notes x.note x.listed
          (and_both x.is_of_it (less n x.note.number (let q = x.number in omega (arith, l, q))))))

  -- how many acts a task has done
  pub done_forth : (p : List ℕ) (n : ℕ) → has_done r.notes (written p) n ≡ true → (m : ℕ) × (n ≤ suc m) × EndsWith P s p m
  done_forth p n h =
      let x = any_in (λ x. is_of sought.End (written p) x && nat_le n (suc x.number)) r.notes h in
      let g = and_parts (is_of sought.End (written p) x.0) (nat_le n (suc x.0.number)) x.2 in
      let f = of_note sought.End p x.0 x.1 g.0 in
      let e = ended p f.does.task f.does.at_ in
      let l = done_within e.1 f.does in
      let k : n ≤ suc x.0.number = small n x.0.number g.1 in
      (e.0, omega (arith, l, k), e.1)
    where
      small : (a b : ℕ) → nat_le a (suc b) ≡ true → a ≤ suc b
      small a b h = grind (arith, nat_tests)

  pub done_back : (p : List ℕ) (n m : ℕ) → n ≤ suc m → EndsWith P s p m → has_done r.notes (written p) n ≡ true
  done_back p n m l e =
      let x = to_note sought.End p m (end_found e) in
      in_any (λ x. is_of sought.End (written p) x && nat_le n (suc x.number)) r.notes x.note x.listed (and_both x.is_of_it (small n x.note.number (let q = x.number in omega (arith, l, q))))
    where
      small : (a b : ℕ) → a ≤ suc b → nat_le a (suc b) ≡ true
      small a b h = grind (arith, nat_tests)
