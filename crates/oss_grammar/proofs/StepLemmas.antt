-- Readers that take any number of steps are exact, if each step is.
use Rattle.std.proofs.Common.{arith, ◌≡◌, ◌<◌, ◌≤◌, ◌+◌, ℕ, zero, suc, Bool, true, false, List, [], ◌∷◌, ◌++◌, length, refl, sym, ap, ◌∙◌, subst, append_assoc, ◌⊎◌, inl, inr, Result, Ok, Err}
use Rattle.std.proofs.lemmas.List.{append-nil, length-append}
use Rattle.oss_syntax.specs.declared.token.Token.{Token}
use Rattle.oss_grammar.specs.Fronts.{Viable}
use Rattle.oss_grammar.specs.Reading.{Stop, begins, go_on, read_steps, read_steps_within}
use Rattle.oss_grammar.specs.Reading.Stop.{Syntax, Deep}
use Rattle.oss_grammar.proofs.Parts.{Taken, Stopped, IsRead, Sinks, Exact, Begun, same_behind, still_begins, still_fails, member_begins, deep_begins, taken, takes_some}

-- any number of steps, one after the other
pub data Steps {S : Type 0} (G : S → List Token → S → Type 0) : S → List Token → S → Type 0 where
  over : {s : S} {xs : List Token} → xs ≡ [] → Steps G s xs s
  once_more : {s next end : S} {xs : List Token} (front back : List Token) → xs ≡ front ++ back → G s front next → Steps G next back end → Steps G s xs end

-- a limit is passed in one of them
pub data StepsDeep {S : Type 0} (G : S → List Token → S → Type 0) (D : S → List Token → Token → Type 0) : S → List Token → Token → Type 0 where
  in_this : {s : S} {xs : List Token} {t : Token} → D s xs t → StepsDeep G D s xs t
  in_later : {s next : S} {xs : List Token} {t : Token} (front back : List Token) → xs ≡ front ++ back → G s front next → StepsDeep G D next back t → StepsDeep G D s xs t

-- where a token that begins is one with which nothing goes on
pub none_goes : (starts goes : Token → Bool) → ((t : Token) → starts t ≡ true → goes t ≡ false) → (ts : List Token) → begins starts ts ≡ true → begins goes ts ≡ false
none_goes starts goes apart [] e = refl
none_goes starts goes apart (t ∷ ts) e = apart t e

-- where no token follows with which the whole goes on, none does with which a part of it goes on
pub fewer_go : (goes less : Token → Bool) → ((t : Token) → goes t ≡ false → less t ≡ false) → (ts : List Token) → begins goes ts ≡ false → begins less ts ≡ false
fewer_go goes less fewer [] e = refl
fewer_go goes less fewer (t ∷ ts) e = fewer t e

module _ {S : Type 0} {starts : S → Token → Bool} {step : S → List Token → Result (S × List Token) Stop} {G : S → List Token → S → Type 0} {D : S → List Token → Token → Type 0} {part_goes goes : Token → Bool}
    (part : (s : S) → Exact (step s) (G s) (D s) part_goes) (first : (s : S) → Begun (step s) (starts s))
    (apart : (s : S) (t : Token) → starts s t ≡ true → part_goes t ≡ false) (covers : (s : S) (t : Token) → goes t ≡ false → starts s t ≡ false) (includes : (t : Token) → goes t ≡ false → part_goes t ≡ false) where
  less_left : (ts xs rest : List Token) → ts ≡ xs ++ rest → (xs ≡ [] → ⊥) → length rest < length ts
  less_left ts [] rest e some = absurd (some refl)
  less_left ts (x ∷ xs) rest e some = let size : length ts ≡ length (x ∷ xs) + length rest = ap length e ∙ length-append (x ∷ xs) rest in omega arith

  -- a step takes a token
  pub steps_less : (s : S) (ts : List Token) (next : S) (rest : List Token) → step s ts ≡ Ok (next, rest) → length rest < length ts
  steps_less s ts next rest e =
      let w : Taken (step s) (G s) ts next rest = taken (part s) ts next rest e in
      less_left ts w.front rest w.split (takes_some (part s) (first s) ts next rest e w)

  within_go : (n : ℕ) (s : S) (ts : List Token) → begins (starts s) ts ≡ true → read_steps_within starts step (suc n) s ts ≡ go_on (step s ts) (λ next rest. read_steps_within starts step n next rest)
  within_go n s ts e = rw e refl

  within_stop : (n : ℕ) (s : S) (ts : List Token) → begins (starts s) ts ≡ false → read_steps_within starts step n s ts ≡ Ok (s, ts)
  within_stop zero s ts e = rw e refl
  within_stop (suc n) s ts e = rw e refl

  on_same : (s : S) (ts : List Token) (go gone : S → List Token → Result (S × List Token) Stop) → ((p : S × List Token) → step s ts ≡ Ok p → go p.0 p.1 ≡ gone p.0 p.1)
      → (o : Result (S × List Token) Stop) → step s ts ≡ o → go_on o go ≡ go_on o gone
  on_same s ts go gone same (Err stop) told = refl
  on_same s ts go gone same (Ok p) told = same p told

  -- any count that is large enough will do
  within_same : (n m : ℕ) (s : S) (ts : List Token) (b : Bool) → begins (starts s) ts ≡ b → length ts ≤ n → length ts ≤ m → read_steps_within starts step n s ts ≡ read_steps_within starts step m s ts
  within_same n m s ts false e small fits = within_stop n s ts e ∙ sym (within_stop m s ts e)
  within_same n m s [] true e small fits = absurd (cc)
  within_same zero m s (t ∷ ts) true e small fits = absurd (omega arith)
  within_same (suc n) zero s (t ∷ ts) true e small fits = absurd (omega arith)
  within_same (suc n) (suc m) s (t ∷ ts) true e small fits =
      within_go n s (t ∷ ts) e
      ∙ (on_same s (t ∷ ts) (read_steps_within starts step n) (read_steps_within starts step m)
      (λ p told. let less : length p.1 < length (t ∷ ts) = steps_less s (t ∷ ts) p.0 p.1 told in within_same n m p.0 p.1 (begins (starts p.0) p.1) refl (omega arith) (omega arith))
      (step s (t ∷ ts)) refl
      ∙ sym (within_go m s (t ∷ ts) e))

  pub steps_stop : (s : S) (ts : List Token) → begins (starts s) ts ≡ false → read_steps starts step s ts ≡ Ok (s, ts)
  unfolding read_steps
  steps_stop s ts e = within_stop (length ts) s ts e

  pub steps_go : (s : S) (ts : List Token) → begins (starts s) ts ≡ true → read_steps starts step s ts ≡ go_on (step s ts) (λ next rest. read_steps starts step next rest)
  unfolding read_steps
  steps_go s [] e = absurd (cc)
  steps_go s (t ∷ ts) e =
      within_go (length ts) s (t ∷ ts) e
      ∙ on_same s (t ∷ ts) (read_steps_within starts step (length ts)) (λ next rest. read_steps_within starts step (length rest) next rest)
      (λ p told. let less : length p.1 < length (t ∷ ts) = steps_less s (t ∷ ts) p.0 p.1 told in within_same (length ts) (length p.1) p.0 p.1 (begins (starts p.0) p.1) refl (omega arith) (omega arith))
      (step s (t ∷ ts)) refl

  pub steps_fail : (s : S) (ts : List Token) (stop : Stop) → begins (starts s) ts ≡ true → step s ts ≡ Err stop → read_steps starts step s ts ≡ Err stop
  steps_fail s ts stop e told = steps_go s ts e ∙ ap (λ o. go_on o (λ next rest. read_steps starts step next rest)) told

  pub steps_next : (s : S) (ts : List Token) (next : S) (rest : List Token) → begins (starts s) ts ≡ true → step s ts ≡ Ok (next, rest) → read_steps starts step s ts ≡ read_steps starts step next rest
  steps_next s ts next rest e told = steps_go s ts e ∙ ap (λ o. go_on o (λ next rest. read_steps starts step next rest)) told

  -- one step, and what is read behind it
  then_more : (s : S) (xs : List Token) (next : S) (other : List Token) → G s xs next → step s (xs ++ other) ≡ Ok (next, other) → read_steps starts step s (xs ++ other) ≡ read_steps starts step next other
  then_more s xs next other w told = steps_next s (xs ++ other) next other (member_begins (part s) (first s) xs next other w) told

  more_viable : (s : S) (xs : List Token) → Viable (G s) xs → Viable (Steps G s) xs
  more_viable s xs v = record { more = v.more; value = v.value; member = once_more (xs ++ v.more) [] (sym (append-nil (xs ++ v.more))) v.member (over refl) }

  steps_behind : (s : S) (ts : List Token) (next : S) (mid : List Token) → Taken (step s) (G s) ts next mid → (r : Result (S × List Token) Stop)
      → IsRead (read_steps starts step next) (Steps G next) (StepsDeep G D next) mid r → IsRead (read_steps starts step s) (Steps G s) (StepsDeep G D s) ts r
  steps_behind s ts next mid t (Ok q) u = record {
    front = t.front ++ u.front;
    split = t.split ∙ (ap (λ xs. t.front ++ xs) u.split ∙ sym (append_assoc t.front u.front q.1));
    whole = once_more t.front u.front refl t.whole u.whole;
    steady = λ other same.
        ap (read_steps starts step s) (append_assoc t.front u.front other)
        ∙ (then_more s t.front next (u.front ++ other) t.whole (t.steady (u.front ++ other) (same_behind u.front mid q.1 other u.split same)) ∙ u.steady other same);
  }
  steps_behind s ts next mid t (Err (Syntax place)) u = record {
    front = t.front ++ u.front;
    split = t.split ∙ (ap (λ xs. t.front ++ xs) u.split ∙ sym (append_assoc t.front u.front place));
    viable = record { more = u.viable.more; value = u.viable.value; member = once_more t.front (u.front ++ u.viable.more) (append_assoc t.front u.front u.viable.more) t.whole u.viable.member };
    steady = λ other same.
        ap (read_steps starts step s) (append_assoc t.front u.front other)
        ∙ (then_more s t.front next (u.front ++ other) t.whole (t.steady (u.front ++ other) (same_behind u.front mid place other u.split same)) ∙ u.steady other same);
  }
  steps_behind s ts next mid t (Err (Deep place)) u = record {
    front = t.front ++ u.front;
    token = u.token;
    behind = u.behind;
    at = u.at;
    split = t.split ∙ (ap (λ xs. t.front ++ xs) u.split ∙ sym (append_assoc t.front u.front place));
    deep = in_later t.front u.front refl t.whole u.deep;
  }

  step_stopped : (s : S) (ts place : List Token) → begins (starts s) ts ≡ true → step s ts ≡ Err (Syntax place) → (w : Stopped (step s) (G s) ts place) → (xs : List Token) → w.front ≡ xs
      → Stopped (read_steps starts step s) (Steps G s) ts place
  step_stopped s [] place e told w xs some = absurd (cc)
  step_stopped s (t ∷ ts) place e told w [] none =
      let all : t ∷ ts ≡ place = w.split ∙ ap (λ ys. ys ++ place) none in absurd ((first s).accepts t ts e (told ∙ ap (λ ys. Err (Syntax ys)) (sym all)))
  step_stopped s (t ∷ ts) place e told w (x ∷ xs) some = record {
    front = w.front;
    split = w.split;
    viable = more_viable s w.front w.viable;
    steady = λ other same.
        let begun : begins (starts s) (w.front ++ other) ≡ true
        = ap (λ ys. begins (starts s) (ys ++ other)) some ∙ still_begins (starts s) x xs (t ∷ ts) place other true e (w.split ∙ ap (λ ys. ys ++ place) some) in
        steps_fail s (w.front ++ other) (Syntax other) begun (w.steady other same);
  }

  on_told : (s : S) (ts : List Token) → begins (starts s) ts ≡ true
      → ((p : S × List Token) → step s ts ≡ Ok p → IsRead (read_steps starts step p.0) (Steps G p.0) (StepsDeep G D p.0) p.1 (read_steps starts step p.0 p.1))
      → (o : Result (S × List Token) Stop) → step s ts ≡ o → IsRead (step s) (G s) (D s) ts o
      → IsRead (read_steps starts step s) (Steps G s) (StepsDeep G D s) ts (go_on o (λ next rest. read_steps starts step next rest))
  on_told s ts e behind (Ok p) told w = steps_behind s ts p.0 p.1 w (read_steps starts step p.0 p.1) (behind p told)
  on_told s ts e behind (Err (Syntax place)) told w = step_stopped s ts place e told w w.front refl
  on_told s ts e behind (Err (Deep place)) told w = record { front = w.front; token = w.token; behind = w.behind; at = w.at; split = w.split; deep = in_this w.deep }

  steps_told : (n : ℕ) (s : S) (ts : List Token) (b : Bool) → begins (starts s) ts ≡ b → length ts ≤ n
      → IsRead (read_steps starts step s) (Steps G s) (StepsDeep G D s) ts (read_steps starts step s ts)
  steps_told n s ts false e small =
      let none : IsRead (read_steps starts step s) (Steps G s) (StepsDeep G D s) ts (Ok (s, ts)) = record {
        front = [];
        split = refl;
        whole = over refl;
        steady = λ other same. steps_stop s other (still_fails (starts s) [] ts ts other e refl same);
      } in
      subst (λ r. IsRead (read_steps starts step s) (Steps G s) (StepsDeep G D s) ts r) (sym (steps_stop s ts e)) none
  steps_told n s [] true e small = absurd (cc)
  steps_told zero s (t ∷ ts) true e small = absurd (omega arith)
  steps_told (suc n) s (t ∷ ts) true e small =
      subst (λ r. IsRead (read_steps starts step s) (Steps G s) (StepsDeep G D s) (t ∷ ts) r) (sym (steps_go s (t ∷ ts) e))
      (on_told s (t ∷ ts) e
      (λ p told. let less : length p.1 < length (t ∷ ts) = steps_less s (t ∷ ts) p.0 p.1 told in steps_told n p.0 p.1 (begins (starts p.0) p.1) refl (omega arith))
      (step s (t ∷ ts)) refl ((part s).reads (t ∷ ts)))

  follows : (s : S) (xs : List Token) (end : S) (rest : List Token) → Steps G s xs end → begins goes rest ≡ false → begins part_goes (xs ++ rest) ≡ false
  follows s xs end rest (over e) free = ap (λ ys. begins part_goes (ys ++ rest)) e ∙ fewer_go goes part_goes includes rest free
  follows s xs end rest (once_more front back e w more) free =
      let all : xs ++ rest ≡ front ++ (back ++ rest) = ap (λ ys. ys ++ rest) e ∙ append_assoc front back rest in
      ap (begins part_goes) all ∙ none_goes (starts s) part_goes (apart s) (front ++ (back ++ rest)) (member_begins (part s) (first s) front _ (back ++ rest) w)

  follows_deep : (s : S) (xs : List Token) (t : Token) (rest : List Token) → StepsDeep G D s xs t → begins part_goes (xs ++ (t ∷ rest)) ≡ false
  follows_deep s xs t rest (in_this w) = none_goes (starts s) part_goes (apart s) (xs ++ (t ∷ rest)) (deep_begins (part s) (first s) xs t rest w)
  follows_deep s xs t rest (in_later front back e w more) =
      let all : xs ++ (t ∷ rest) ≡ front ++ (back ++ (t ∷ rest)) = ap (λ ys. ys ++ (t ∷ rest)) e ∙ append_assoc front back (t ∷ rest) in
      ap (begins part_goes) all ∙ none_goes (starts s) part_goes (apart s) (front ++ (back ++ (t ∷ rest))) (member_begins (part s) (first s) front _ (back ++ (t ∷ rest)) w)

  sinks_this : (s : S) (xs more : List Token) → Sinks (step s) (D s) xs → Sinks (read_steps starts step s) (StepsDeep G D s) (xs ++ more)
  sinks_this s xs more w = record {
    front = w.front;
    token = w.token;
    more = w.more ++ more;
    split = ap (λ ys. ys ++ more) w.split ∙ append_assoc w.front (w.token ∷ w.more) more;
    deep = in_this w.deep;
    steady = λ other. steps_fail s (w.front ++ (w.token ∷ other)) (Deep (w.token ∷ other)) (deep_begins (part s) (first s) w.front w.token other w.deep) (w.steady other);
  }

  sinks_later : (s : S) (xs ys : List Token) (next : S) → G s xs next → ((other : List Token) → begins part_goes other ≡ false → step s (xs ++ other) ≡ Ok (next, other))
      → Sinks (read_steps starts step next) (StepsDeep G D next) ys → Sinks (read_steps starts step s) (StepsDeep G D s) (xs ++ ys)
  sinks_later s xs ys next w one u = record {
    front = xs ++ u.front;
    token = u.token;
    more = u.more;
    split = ap (λ zs. xs ++ zs) u.split ∙ sym (append_assoc xs u.front (u.token ∷ u.more));
    deep = in_later xs u.front refl w u.deep;
    steady = λ other.
        ap (read_steps starts step s) (append_assoc xs u.front (u.token ∷ other))
        ∙ (then_more s xs next (u.front ++ (u.token ∷ other)) w (one (u.front ++ (u.token ∷ other)) (follows_deep next u.front u.token other u.deep)) ∙ u.steady other);
  }

  abbrev Again : S → List Token → S → Type 0
  Again s xs end = ((rest : List Token) → begins goes rest ≡ false → read_steps starts step s (xs ++ rest) ≡ Ok (end, rest)) ⊎ Sinks (read_steps starts step s) (StepsDeep G D s) xs

  again_more : (s : S) (front back : List Token) (next end : S) → G s front next → Steps G next back end
      → ((rest : List Token) → begins part_goes rest ≡ false → step s (front ++ rest) ≡ Ok (next, rest)) ⊎ Sinks (step s) (D s) front → Again next back end → Again s (front ++ back) end
  again_more s front back next end w more (inl one) (inl two) = inl (λ rest free.
      ap (read_steps starts step s) (append_assoc front back rest)
      ∙ (then_more s front next (back ++ rest) w (one (back ++ rest) (follows next back end rest more free)) ∙ two rest free))
  again_more s front back next end w more (inl one) (inr u) = inr (sinks_later s front back next w one u)
  again_more s front back next end w more (inr u) two = inr (sinks_this s front back u)

  steps_again : (s : S) (xs : List Token) (end : S) → Steps G s xs end → Again s xs end
  steps_again s xs end (over e) = inl (λ rest free. ap (λ ys. read_steps starts step s (ys ++ rest)) e ∙ steps_stop s rest (fewer_go goes (starts s) (covers s) rest free))
  steps_again s xs end (once_more {next = next} front back e w more) =
      subst (λ ys. Again s ys end) (sym e) (again_more s front back next end w more ((part s).again front next w) (steps_again next back end more))

  sinks_behind : (s : S) (front back : List Token) (next : S) → G s front next → ((rest : List Token) → begins part_goes rest ≡ false → step s (front ++ rest) ≡ Ok (next, rest)) ⊎ Sinks (step s) (D s) front
      → Sinks (read_steps starts step next) (StepsDeep G D next) back → Sinks (read_steps starts step s) (StepsDeep G D s) (front ++ back)
  sinks_behind s front back next w (inl one) u = sinks_later s front back next w one u
  sinks_behind s front back next w (inr v) u = sinks_this s front back v

  steps_sinks : (s : S) (xs : List Token) (t : Token) → StepsDeep G D s xs t → Sinks (read_steps starts step s) (StepsDeep G D s) (xs ++ (t ∷ []))
  steps_sinks s xs t (in_this w) = subst (λ ys. Sinks (read_steps starts step s) (StepsDeep G D s) ys) (append-nil (xs ++ (t ∷ []))) (sinks_this s (xs ++ (t ∷ [])) [] ((part s).sinks xs t w))
  steps_sinks s xs t (in_later {next = next} front back e w more) =
      subst (λ ys. Sinks (read_steps starts step s) (StepsDeep G D s) ys) (sym (ap (λ ys. ys ++ (t ∷ [])) e ∙ append_assoc front back (t ∷ [])))
      (sinks_behind s front (back ++ (t ∷ [])) next w ((part s).again front next w) (steps_sinks next back t more))

  steps_begun : (s : S) (xs : List Token) (t : Token) → StepsDeep G D s xs t → Viable (Steps G s) (xs ++ (t ∷ []))
  steps_begun s xs t (in_this w) = more_viable s (xs ++ (t ∷ [])) ((part s).begun xs t w)
  steps_begun s xs t (in_later {next = next} front back e w more) = let v = steps_begun next back t more in record {
    more = v.more;
    value = v.value;
    member = once_more front ((back ++ (t ∷ [])) ++ v.more) (ap (λ ys. ys ++ v.more) (ap (λ ys. ys ++ (t ∷ [])) e ∙ append_assoc front back (t ∷ [])) ∙ append_assoc front (back ++ (t ∷ [])) v.more) w v.member;
  }

  pub exact_steps : (s : S) → Exact (read_steps starts step s) (Steps G s) (StepsDeep G D s) goes
  exact_steps s = record { reads = λ ts. steps_told (length ts) s ts (begins (starts s) ts) refl (omega arith); again = steps_again s; sinks = steps_sinks s; begun = steps_begun s }

  -- what follows steps begins none
  pub steps_apart : (other : Token → Bool) → ((s : S) (t : Token) → starts s t ≡ true → other t ≡ false) → ((t : Token) → goes t ≡ false → other t ≡ false)
      → (s : S) (xs : List Token) (end : S) (rest : List Token) → Steps G s xs end → begins goes rest ≡ false → begins other (xs ++ rest) ≡ false
  steps_apart other begun free s xs end rest (over e) none = ap (λ ys. begins other (ys ++ rest)) e ∙ fewer_go goes other free rest none
  steps_apart other begun free s xs end rest (once_more front back e w more) none =
      let all : xs ++ rest ≡ front ++ (back ++ rest) = ap (λ ys. ys ++ rest) e ∙ append_assoc front back rest in
      ap (begins other) all ∙ none_goes (starts s) other (begun s) (front ++ (back ++ rest)) (member_begins (part s) (first s) front _ (back ++ rest) w)

  pub steps_apart_deep : (other : Token → Bool) → ((s : S) (t : Token) → starts s t ≡ true → other t ≡ false)
      → (s : S) (xs : List Token) (t : Token) (rest : List Token) → StepsDeep G D s xs t → begins other (xs ++ (t ∷ rest)) ≡ false
  steps_apart_deep other begun s xs t rest (in_this w) = none_goes (starts s) other (begun s) (xs ++ (t ∷ rest)) (deep_begins (part s) (first s) xs t rest w)
  steps_apart_deep other begun s xs t rest (in_later front back e w more) =
      let all : xs ++ (t ∷ rest) ≡ front ++ (back ++ (t ∷ rest)) = ap (λ ys. ys ++ (t ∷ rest)) e ∙ append_assoc front back (t ∷ rest) in
      ap (begins other) all ∙ none_goes (starts s) other (begun s) (front ++ (back ++ (t ∷ rest))) (member_begins (part s) (first s) front _ (back ++ (t ∷ rest)) w)
