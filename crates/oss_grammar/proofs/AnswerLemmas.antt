-- What a reader tells that reads a grammar exactly is the answer of the grammar: the longest text of it, or its refusal.
use Rattle.std.proofs.Common.{arith, ◌≡◌, ◌+◌, suc, Bool, false, List, [], ◌∷◌, ◌++◌, length, refl, sym, ap, ◌∙◌, subst, append_assoc, ◌⊎◌, inl, inr, Result, Ok, Err}
use Rattle.std.proofs.lemmas.List.{append-nil, length-append}
use Rattle.oss_syntax.specs.declared.token.Token.{Token}
use Rattle.oss_syntax.specs.declared.refusal.RefusedKind.TheVariants.{Syntax as SyntaxKind, TooLarge}
use Rattle.oss_grammar.specs.Fronts.{Viable}
use Rattle.oss_grammar.specs.Reading.{Stop, begins}
use Rattle.oss_grammar.specs.Reading.Stop.{Syntax, Deep}
use Rattle.oss_grammar.specs.Refusals.{Language, Reaches, IsWithin, IsRead as IsReadOf, IsNone, Refuses, kind_of, is_in_pragma}
use Rattle.oss_grammar.specs.Refusals.Refuses.{too_large, at_token, at_end}
use Rattle.oss_grammar.proofs.Parts.{AtSame, Stopped, Sinks, Exact, ok_is, sinks_read, taken, stopped, sunk, viable_whole}

-- two fronts of one list before the same rest
pub same_front : (xs ys rest : List Token) → xs ++ rest ≡ ys ++ rest → xs ≡ ys
same_front [] [] rest e = refl
same_front [] (y ∷ ys) rest e = let size : length rest ≡ length (y ∷ ys) + length rest = ap length e ∙ length-append (y ∷ ys) rest in absurd (omega arith)
same_front (x ∷ xs) [] rest e = let size : length (x ∷ xs) + length rest ≡ length rest = sym (length-append (x ∷ xs) rest) ∙ ap length e in absurd (omega arith)
same_front (x ∷ xs) (y ∷ ys) rest e =
    let heads : x ≡ y = cc in let tails : xs ++ rest ≡ ys ++ rest = cc in let more : xs ≡ ys = same_front xs ys rest tails in cc

module _ {A : Type 0} (L : Language A) {f : List Token → Result (A × List Token) Stop} {goes : Token → Bool} (part : Exact f L.Has L.Exceeds goes) where
  -- whole texts are read, or a limit is passed in them
  whole_read : (xs : List Token) (value : A) → L.Has xs value → (f xs ≡ Ok (value, [])) ⊎ Sinks f L.Exceeds xs
  whole_read xs value w = from (part.again xs value w) where
    from : ((rest : List Token) → begins goes rest ≡ false → f (xs ++ rest) ≡ Ok (value, rest)) ⊎ Sinks f L.Exceeds xs → (f xs ≡ Ok (value, [])) ⊎ Sinks f L.Exceeds xs
    from (inl read) = inl (ap f (sym (append-nil xs)) ∙ read [] refl)
    from (inr s) = inr s

  sunk_read : (xs : List Token) (s : Sinks f L.Exceeds xs) → f xs ≡ Err (Deep (s.token ∷ s.more))
  sunk_read xs s = ap f s.split ∙ s.steady s.more

  -- where a limit is passed within the front, reading of the whole stops there
  excess_read : (front : List Token) (t : Token) (more : List Token) → L.Exceeds front t → (s : Sinks f L.Exceeds (front ++ (t ∷ []))) → f (front ++ (t ∷ more)) ≡ Err (Deep (s.token ∷ (s.more ++ more)))
  excess_read front t more w s = ap f (sym (append_assoc front (t ∷ []) more)) ∙ sinks_read (front ++ (t ∷ [])) s more

  within_read : (ts front rest : List Token) (value : A) (left : List Token) → ts ≡ front ++ rest → f ts ≡ Ok (value, left) → IsWithin L front
  within_read ts front rest value left split told before t more e x =
      let s = part.sinks before t x.exceeds in
      let all : ts ≡ before ++ (t ∷ (more ++ rest)) = split ∙ (ap (λ ys. ys ++ rest) e ∙ append_assoc before (t ∷ more) rest) in
      let deep : f ts ≡ Err (Deep (s.token ∷ (s.more ++ (more ++ rest)))) = ap f all ∙ excess_read before t (more ++ rest) x.exceeds s in absurd (cc)

  pub within_stopped : (ts front rest place : List Token) → ts ≡ front ++ rest → f ts ≡ Err (Syntax place) → IsWithin L front
  within_stopped ts front rest place split told before t more e x =
      let s = part.sinks before t x.exceeds in
      let all : ts ≡ before ++ (t ∷ (more ++ rest)) = split ∙ (ap (λ ys. ys ++ rest) e ∙ append_assoc before (t ∷ more) rest) in
      let deep : f ts ≡ Err (Deep (s.token ∷ (s.more ++ (more ++ rest)))) = ap f all ∙ excess_read before t (more ++ rest) x.exceeds s in absurd (cc)

  pub within_deep : (ts front place : List Token) → ts ≡ front ++ place → f ts ≡ Err (Deep place) → IsWithin L front
  within_deep ts front place split told before t more e x =
      let s = part.sinks before t x.exceeds in
      let all : ts ≡ before ++ (t ∷ (more ++ place)) = split ∙ (ap (λ ys. ys ++ place) e ∙ append_assoc before (t ∷ more) place) in
      let deep : f ts ≡ Err (Deep (s.token ∷ (s.more ++ (more ++ place)))) = ap f all ∙ excess_read before t (more ++ place) x.exceeds s in
      let same : place ≡ s.token ∷ (s.more ++ (more ++ place)) = cc in
      let size : length place ≡ suc (length s.more + (length more + length place)) = ap length same ∙ ap suc (length-append s.more (more ++ place) ∙ ap (λ n. length s.more + n) (length-append more place)) in
      absurd (omega arith)

  -- no text goes on with the token behind what was read
  read_ends : (front : List Token) (value : A) (t : Token) → ((other : List Token) → f (front ++ (t ∷ other)) ≡ Ok (value, t ∷ other)) → Viable L.Has (front ++ (t ∷ [])) → ⊥
  read_ends front value t steady v = from (whole_read (front ++ (t ∷ v.more)) v.value member) where
    member : L.Has (front ++ (t ∷ v.more)) v.value
    member = subst (λ ys. L.Has ys v.value) (append_assoc front (t ∷ []) v.more) v.member

    from : (f (front ++ (t ∷ v.more)) ≡ Ok (v.value, [])) ⊎ Sinks f L.Exceeds (front ++ (t ∷ v.more)) → ⊥
    from (inl e) =
        let p : A × List Token = (value, t ∷ v.more) in let q : A × List Token = (v.value, []) in
        let same : p ≡ q = ok_is (f (front ++ (t ∷ v.more))) p q (steady v.more) e in
        let none : t ∷ v.more ≡ [] = ap (λ (r : A × List Token). r.1) same in absurd (cc)
    from (inr s) =
        let deep : f (front ++ (t ∷ v.more)) ≡ Err (Deep (s.token ∷ s.more)) = sunk_read (front ++ (t ∷ v.more)) s in
        let told : f (front ++ (t ∷ v.more)) ≡ Ok (value, t ∷ v.more) = steady v.more in absurd (cc)

  stop_ends : (front : List Token) (t : Token) → ((other : List Token) → f (front ++ (t ∷ other)) ≡ Err (Syntax (t ∷ other))) → Viable L.Has (front ++ (t ∷ [])) → ⊥
  stop_ends front t steady v = from (whole_read (front ++ (t ∷ v.more)) v.value member) where
    member : L.Has (front ++ (t ∷ v.more)) v.value
    member = subst (λ ys. L.Has ys v.value) (append_assoc front (t ∷ []) v.more) v.member

    from : (f (front ++ (t ∷ v.more)) ≡ Ok (v.value, [])) ⊎ Sinks f L.Exceeds (front ++ (t ∷ v.more)) → ⊥
    from (inl e) = let told : f (front ++ (t ∷ v.more)) ≡ Err (Syntax (t ∷ v.more)) = steady v.more in absurd (cc)
    from (inr s) =
        let deep : f (front ++ (t ∷ v.more)) ≡ Err (Deep (s.token ∷ s.more)) = sunk_read (front ++ (t ∷ v.more)) s in
        let told : f (front ++ (t ∷ v.more)) ≡ Err (Syntax (t ∷ v.more)) = steady v.more in absurd (cc)

  -- what stops for syntax is no text by itself
  pub stop_none : (front : List Token) → f front ≡ Err (Syntax []) → IsNone L.Has front
  stop_none front told value w = from (whole_read front value w) where
    from : (f front ≡ Ok (value, [])) ⊎ Sinks f L.Exceeds front → ⊥
    from (inl e) = absurd (cc)
    from (inr s) = let deep : f front ≡ Err (Deep (s.token ∷ s.more)) = sunk_read front s in absurd (cc)

  -- the longest text is read
  pub ok_answer : (ts : List Token) (value : A) (rest : List Token) → f ts ≡ Ok (value, rest) → IsReadOf L ts value rest
  ok_answer ts value rest told = let w = taken part ts value rest told in record {
    front = w.front;
    reaches = record {
      split = w.split;
      begins = viable_whole L.Has w.front value w.whole;
      ends = λ t more e v. read_ends w.front value t (λ other. w.steady (t ∷ other) (subst (λ ys. AtSame ys (t ∷ other)) (sym e) refl)) v;
    };
    member = w.whole;
    within = within_read ts w.front rest value rest w.split told;
  }

  pub reaches_stop : (ts place : List Token) → (w : Stopped f L.Has ts place) → Reaches L.Has ts w.front place
  reaches_stop ts place w = record {
    split = w.split;
    begins = w.viable;
    ends = λ t more e v. stop_ends w.front t (λ other. w.steady (t ∷ other) (subst (λ ys. AtSame ys (t ∷ other)) (sym e) refl)) v;
  }

  -- a token is refused that fits nowhere, and so is the end
  pub token_answer : (before ts front : List Token) (t : Token) (more : List Token) → ts ≡ front ++ (t ∷ more) → f ts ≡ Err (Syntax (t ∷ more))
      → Refuses L before ts (kind_of (is_in_pragma (before ++ front) t.what) t.what) t.line (length before + length front)
  token_answer before ts front t more split told =
      let w = stopped part ts (t ∷ more) told in
      let same : w.front ≡ front = same_front w.front front (t ∷ more) (sym w.split ∙ split) in
      subst (λ xs. Refuses L before ts (kind_of (is_in_pragma (before ++ xs) t.what) t.what) t.line (length before + length xs)) same
      (at_token w.front t more (reaches_stop ts (t ∷ more) w) (stop_none w.front (ap f (sym (append-nil w.front)) ∙ w.steady [] (record {})))
      (within_stopped ts w.front (t ∷ more) (t ∷ more) w.split told))

  pub end_answer : (before ts : List Token) → f ts ≡ Err (Syntax []) → Refuses L before ts SyntaxKind 0 (length before + length ts)
  end_answer before ts told =
      let w = stopped part ts [] told in
      let all : w.front ≡ ts = sym (w.split ∙ append-nil w.front) in
      at_end (subst (λ xs. Reaches L.Has ts xs []) all (reaches_stop ts [] w)) (stop_none ts told) (subst (λ xs. IsWithin L xs) all (within_stopped ts w.front [] [] w.split told))

  -- a limit is passed
  pub deep_answer : (before ts : List Token) (t : Token) (more : List Token) → f ts ≡ Err (Deep (t ∷ more)) → Refuses L before ts TooLarge t.line 0
  deep_answer before ts t more told =
      let w = sunk part ts (t ∷ more) told in
      let same : w.token ≡ t = cc in
      let split : ts ≡ w.front ++ (t ∷ more) = w.split in
      let deep : L.Exceeds w.front t = subst (λ u. L.Exceeds w.front u) same w.deep in
      too_large w.front t more split (record { begun = part.begun w.front t deep; exceeds = deep }) (within_deep ts w.front (t ∷ more) split told)

-- a list has one value where it is read with a limit that it does not pass
pub one_value : {A : Type 0} {f : List Token → Result (A × List Token) Stop} {U : List Token → A → Type 0} {B : List Token → Token → Type 0} {goes : Token → Bool} → Exact f U B goes
    → (xs : List Token) → ((front : List Token) (t : Token) (more : List Token) → xs ≡ front ++ (t ∷ more) → B front t → ⊥) → (value other : A) → U xs value → U xs other → value ≡ other
one_value {A} {f} {U} {B} {goes} part xs within value other v w = from (part.again xs value v) (part.again xs other w) where
  from : ((rest : List Token) → begins goes rest ≡ false → f (xs ++ rest) ≡ Ok (value, rest)) ⊎ Sinks f B xs
      → ((rest : List Token) → begins goes rest ≡ false → f (xs ++ rest) ≡ Ok (other, rest)) ⊎ Sinks f B xs → value ≡ other
  from (inl one) (inl two) =
      let p : A × List Token = (value, []) in let q : A × List Token = (other, []) in
      let same : p ≡ q = ok_is (f (xs ++ [])) p q (one [] refl) (two [] refl) in ap (λ (r : A × List Token). r.0) same
  from (inr s) two = absurd (within s.front s.token s.more s.split s.deep)
  from (inl one) (inr s) = absurd (within s.front s.token s.more s.split s.deep)
