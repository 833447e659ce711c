-- A list of parts with a comma between each two is read exactly, if the parts are, and none goes on with a comma.
use Rattle.std.proofs.Common.{◌≡◌, Bool, true, false, ◌||◌, List, [], ◌∷◌, ◌++◌, refl, sym, ap, ◌∙◌, subst, append_assoc, Result}
use Rattle.std.specs.Prelude.{codes}
use Rattle.std.proofs.lemmas.List.{append-nil}
use Rattle.oss_syntax.specs.declared.token.Token.{Token}
use Rattle.oss_syntax.specs.declared.token.TokenKind.TheVariants as kinds
use Rattle.oss_grammar.specs.Grammar.{One, Both, Mapped}
use Rattle.oss_grammar.specs.Fronts.{Viable}
use Rattle.oss_grammar.specs.OneToken.{IsComma}
use Rattle.oss_grammar.specs.Reading.{Stop, begins, has, never, one_of, read_one, read_mapped}
use Rattle.oss_grammar.proofs.Parts.{Exact, Begun, exact_as}
use Rattle.oss_grammar.proofs.PartLemmas.{Nowhere, nowhere, exact_one, begun_one, exact_mapped, begun_mapped, exact_then, begun_then, Then, ThenDeep}
use Rattle.oss_grammar.proofs.PartLemmas.ThenDeep.{in_first, in_second}
use Rattle.oss_grammar.proofs.PairLemmas.{exact_both, begun_both}
use Rattle.oss_grammar.proofs.StepLemmas.{Steps, StepsDeep, exact_steps, steps_apart, steps_apart_deep}
use Rattle.oss_grammar.proofs.StepLemmas.Steps.{over, once_more}
use Rattle.oss_grammar.proofs.StepLemmas.StepsDeep.{in_this, in_later}
use Rattle.oss_expressions.specs.ExpressionReading.{latter, and_then, read_next, read_more, read_list}
use Rattle.oss_expressions.specs.TokenValues.{symbol_at}
use Rattle.oss_expressions.proofs.TokenLemmas.{symbol_value, symbol_token}

abbrev pub comma : Token → Bool
comma = has (symbol_at (codes ","))

-- parts with a comma between each two, one at least
pub data Listed {A : Type 0} (U : List Token → A → Type 0) : List Token → List A → Type 0 where
  last_part : {xs : List Token} {a : A} → U xs a → Listed U xs (a ∷ [])
  next_part : {xs : List Token} {a : A} {more : List A} (front : List Token) (mark : Token) (back : List Token) → xs ≡ front ++ (mark ∷ back) → IsComma mark → U front a → Listed U back more → Listed U xs (a ∷ more)

pub data ListedDeep {A : Type 0} (U : List Token → A → Type 0) (B : List Token → Token → Type 0) : List Token → Token → Type 0 where
  deep_first : {xs : List Token} {t : Token} → B xs t → ListedDeep U B xs t
  deep_later : {xs : List Token} {t : Token} (a : A) (front : List Token) (mark : Token) (back : List Token) → xs ≡ front ++ (mark ∷ back) → U front a → IsComma mark → ListedDeep U B back t → ListedDeep U B xs t

-- parts, each behind a comma
pub data Follow {A : Type 0} (U : List Token → A → Type 0) : List Token → List A → Type 0 where
  none : {xs : List Token} → xs ≡ [] → Follow U xs []
  some : {xs : List Token} {a : A} {more : List A} (mark : Token) (front back : List Token) → xs ≡ mark ∷ (front ++ back) → IsComma mark → U front a → Follow U back more → Follow U xs (a ∷ more)

pub data FollowDeep {A : Type 0} (U : List Token → A → Type 0) (B : List Token → Token → Type 0) : List Token → Token → Type 0 where
  here : {xs : List Token} {t : Token} (mark : Token) (front : List Token) → xs ≡ mark ∷ front → IsComma mark → B front t → FollowDeep U B xs t
  there : {xs : List Token} {t : Token} (a : A) (mark : Token) (front back : List Token) → xs ≡ mark ∷ (front ++ back) → IsComma mark → U front a → FollowDeep U B back t → FollowDeep U B xs t

record Followed {A : Type 0} (U : List Token → A → Type 0) (found : List A) (xs : List Token) (end : List A) : Type 0 where
  more : List A
  all : end ≡ found ++ more
  follow : Follow U xs more

module _ {A : Type 0} {f : List Token → Result (A × List Token) Stop} {U : List Token → A → Type 0} {B : List Token → Token → Type 0} {goes starts : Token → Bool} (part : Exact f U B goes) (first : Begun f starts)
    (no_comma : (t : Token) → comma t ≡ true → goes t ≡ false) where
  abbrev Step : List A → List Token → List A → Type 0
  Step found = Mapped (and_then found) (Mapped latter (Both (One (symbol_at (codes ","))) U))

  abbrev StepDeep : List A → List Token → Token → Type 0
  StepDeep found = ThenDeep Nowhere (One (symbol_at (codes ","))) (λ mark. B)

  exact_comma : Exact (read_one (symbol_at (codes ","))) (One (symbol_at (codes ","))) Nowhere never
  exact_comma = exact_one (symbol_at (codes ",")) (record { what = kinds.Symbol (codes ","); line = 1 }) 1 refl never

  exact_step : (found : List A) → Exact (read_mapped (and_then found) (read_next f)) (Step found) (StepDeep found) goes
  exact_step found = exact_mapped (and_then found) (exact_mapped latter (exact_both exact_comma part first (λ t e. refl)))

  begun_step : (found : List A) → Begun (read_mapped (and_then found) (read_next f)) comma
  begun_step found = begun_mapped (and_then found) (begun_mapped latter (begun_both exact_comma part first (λ t e. refl) (begun_one (symbol_at (codes ",")))))

  former_false : (b c : Bool) → (b || c) ≡ false → b ≡ false
  former_false false c e = refl
  former_false true c e = absurd (cc)

  latter_false : (b c : Bool) → (b || c) ≡ false → c ≡ false
  latter_false false c e = e
  latter_false true c e = absurd (cc)

  exact_more : (found : List A) → Exact (read_more f found) (Steps Step found) (StepsDeep Step StepDeep found) (one_of comma goes)
  unfolding read_more
  exact_more found = exact_steps exact_step begun_step (λ found. no_comma) (λ found t e. former_false (comma t) (goes t) e) (λ t e. latter_false (comma t) (goes t) e) found

  begins_later : (found : List A) (xs : List Token) (end : List A) (rest : List Token) → Steps Step found xs end → begins (one_of comma goes) rest ≡ false → begins goes (xs ++ rest) ≡ false
  begins_later found xs end rest w free = steps_apart exact_step begun_step (λ found. no_comma) (λ found t e. former_false (comma t) (goes t) e) (λ t e. latter_false (comma t) (goes t) e)
      goes (λ found. no_comma) (λ t e. latter_false (comma t) (goes t) e) found xs end rest w free

  begins_later_deep : (found : List A) (xs : List Token) (t : Token) (rest : List Token) → StepsDeep Step StepDeep found xs t → begins goes (xs ++ (t ∷ rest)) ≡ false
  begins_later_deep found xs t rest w = steps_apart_deep exact_step begun_step (λ found. no_comma) (λ found t e. former_false (comma t) (goes t) e) (λ t e. latter_false (comma t) (goes t) e)
      goes (λ found. no_comma) found xs t rest w

  -- the steps are parts, each behind a comma
  followed : (found : List A) (xs : List Token) (end : List A) → Steps Step found xs end → Followed U found xs end
  followed found xs end (over e) = record { more = []; all = sym (append-nil found); follow = none e }
  followed found xs end (once_more {next = next} front back e w more) = from (followed next back end more) where
    both : Both (One (symbol_at (codes ","))) U front w.whole.part
    both = w.whole.whole

    from : Followed U next back end → Followed U found xs end
    from v = record {
      more = w.part ∷ v.more;
      all = v.all ∙ (ap (λ ys. ys ++ v.more) (sym w.made) ∙ append_assoc found (w.part ∷ []) v.more);
      follow = some both.before.token both.back back (e ∙ ap (λ ys. ys ++ back) (both.split ∙ ap (λ ys. ys ++ both.back) both.before.only))
          (symbol_token (codes ",") both.before.token w.whole.part.0 both.before.passes) (subst (λ a. U both.back a) w.whole.made both.behind) v.follow;
    }

  steps_of : (found : List A) (xs : List Token) (more : List A) → Follow U xs more → Steps Step found xs (found ++ more)
  steps_of found xs [] (none e) = subst (λ ys. Steps Step found xs ys) (sym (append-nil found)) (over e)
  steps_of found xs (a ∷ more) (some mark front back e c w v) =
      subst (λ ys. Steps Step found xs ys) (append_assoc found (a ∷ []) more)
      (once_more (mark ∷ front) back e (record {
        part = a;
        made = refl;
        whole = record { part = (mark.line, a); made = refl; whole = record { front = mark ∷ []; back = front; split = refl; before = record { token = mark; only = refl; passes = symbol_value (codes ",") mark c }; behind = w } };
      }) (steps_of (found ++ a ∷ []) back more v))

  followed_deep : (found : List A) (xs : List Token) (t : Token) → StepsDeep Step StepDeep found xs t → FollowDeep U B xs t
  followed_deep found xs t (in_this (in_first w)) = nowhere xs t w
  followed_deep found xs t (in_this (in_second front back line e w d)) = here w.token back (e ∙ ap (λ ys. ys ++ back) w.only) (symbol_token (codes ",") w.token line w.passes) d
  followed_deep found xs t (in_later {next = following} front back e w more) = from (followed_deep following back t more) where
    both : Both (One (symbol_at (codes ","))) U front w.whole.part
    both = w.whole.whole

    from : FollowDeep U B back t → FollowDeep U B xs t
    from v = there w.part both.before.token both.back back (e ∙ ap (λ ys. ys ++ back) (both.split ∙ ap (λ ys. ys ++ both.back) both.before.only))
        (symbol_token (codes ",") both.before.token w.whole.part.0 both.before.passes) (subst (λ a. U both.back a) w.whole.made both.behind) v

  steps_deep_of : (found : List A) (xs : List Token) (t : Token) → FollowDeep U B xs t → StepsDeep Step StepDeep found xs t
  steps_deep_of found xs t (here mark front e c d) = in_this (in_second (mark ∷ []) front mark.line e (record { token = mark; only = refl; passes = symbol_value (codes ",") mark c }) d)
  steps_deep_of found xs t (there a mark front back e c w v) = in_later {next = found ++ a ∷ []} (mark ∷ front) back e (record {
    part = a;
    made = refl;
    whole = record { part = (mark.line, a); made = refl; whole = record { front = mark ∷ []; back = front; split = refl; before = record { token = mark; only = refl; passes = symbol_value (codes ",") mark c }; behind = w } };
  }) (steps_deep_of (found ++ a ∷ []) back t v)

  into_follow : (xs : List Token) (end : List A) → Steps Step [] xs end → Follow U xs end
  into_follow xs end w = let v = followed [] xs end w in subst (λ ys. Follow U xs ys) (sym v.all) v.follow

  pub exact_follow : Exact (read_more f []) (Follow U) (FollowDeep U B) (one_of comma goes)
  exact_follow = exact_as into_follow (λ xs more w. steps_of [] xs more w) (followed_deep []) (steps_deep_of []) (exact_more [])

  -- a first part and those that follow are the list
  list_of : (xs front back : List Token) (a : A) (more : List A) → xs ≡ front ++ back → U front a → Follow U back more → Listed U xs (a ∷ more)
  list_of xs front back a [] e w (none z) = last_part (subst (λ ys. U ys a) (sym (e ∙ (ap (λ ys. front ++ ys) z ∙ append-nil front))) w)
  list_of xs front back a (b ∷ more) e w (some mark middle rest z c v u) = next_part front mark (middle ++ rest) (e ∙ ap (λ ys. front ++ ys) z) c w (list_of (middle ++ rest) middle rest b more refl v u)

  record Split (xs : List Token) (values : List A) : Type 0 where
    front : List Token
    back : List Token
    value : A
    more : List A
    split : xs ≡ front ++ back
    all : (value ∷ more) ≡ values
    before : U front value
    behind : Follow U back more

  split_of : (xs : List Token) (values : List A) → Listed U xs values → Split xs values
  split_of xs [] w = elim w [ ]
  split_of xs (a ∷ []) (last_part w) = record { front = xs; back = []; value = a; more = []; split = sym (append-nil xs); all = refl; before = w; behind = none refl }
  split_of xs (a ∷ more) (next_part front mark back e c w v) = from (split_of back more v) where
    from : Split back more → Split xs (a ∷ more)
    from u = record {
      front = front;
      back = mark ∷ back;
      value = a;
      more = more;
      split = e;
      all = refl;
      before = w;
      behind = subst (λ ys. Follow U (mark ∷ back) ys) u.all (some mark u.front u.back (ap (λ ys. mark ∷ ys) u.split) c u.before u.behind);
    }

  into_list : (xs : List Token) (values : List A) → Then U (λ a. Steps Step (a ∷ [])) xs values → Listed U xs values
  into_list xs values w = let v = followed (w.value ∷ []) w.back values w.behind in
      subst (λ ys. Listed U xs ys) (sym v.all) (list_of xs w.front w.back w.value v.more w.split w.before v.follow)

  out_of_list : (xs : List Token) (values : List A) → Listed U xs values → Then U (λ a. Steps Step (a ∷ [])) xs values
  out_of_list xs values w = let v = split_of xs values w in
      record { front = v.front; back = v.back; value = v.value; split = v.split; before = v.before; behind = subst (λ ys. Steps Step (v.value ∷ []) v.back ys) v.all (steps_of (v.value ∷ []) v.back v.more v.behind) }

  deep_behind : (xs front back : List Token) (a : A) (t : Token) → xs ≡ front ++ back → U front a → FollowDeep U B back t → ListedDeep U B xs t
  deep_behind xs front back a t e w (here mark middle z c d) = deep_later a front mark middle (e ∙ ap (λ ys. front ++ ys) z) w c (deep_first d)
  deep_behind xs front back a t e w (there b mark middle rest z c v u) =
      deep_later a front mark (middle ++ rest) (e ∙ ap (λ ys. front ++ ys) z) w c (deep_behind (middle ++ rest) middle rest b t refl v u)

  into_list_deep : (xs : List Token) (t : Token) → ThenDeep B U (λ a. StepsDeep Step StepDeep (a ∷ [])) xs t → ListedDeep U B xs t
  into_list_deep xs t (in_first d) = deep_first d
  into_list_deep xs t (in_second front back a e w d) = deep_behind xs front back a t e w (followed_deep (a ∷ []) back t d)

  follow_deep : (a : A) (front : List Token) (mark : Token) (back : List Token) (t : Token) → IsComma mark → ListedDeep U B back t → FollowDeep U B (mark ∷ back) t
  follow_deep a front mark back t c (deep_first d) = here mark back refl c d
  follow_deep a front mark back t c (deep_later b middle other rest e w z v) = there b mark middle (other ∷ rest) (ap (λ ys. mark ∷ ys) e) c w (follow_deep b middle other rest t z v)

  out_of_list_deep : (xs : List Token) (t : Token) → ListedDeep U B xs t → ThenDeep B U (λ a. StepsDeep Step StepDeep (a ∷ [])) xs t
  out_of_list_deep xs t (deep_first d) = in_first d
  out_of_list_deep xs t (deep_later a front mark back e w c v) = in_second front (mark ∷ back) a e w (steps_deep_of (a ∷ []) (mark ∷ back) t (follow_deep a front mark back t c v))

  none_more : (a : A) → Viable (Steps Step (a ∷ [])) []
  none_more a = record { more = []; value = a ∷ []; member = over refl }

  pub exact_list : Exact (read_list f) (Listed U) (ListedDeep U B) (one_of comma goes)
  exact_list = exact_as into_list out_of_list into_list_deep out_of_list_deep
      (exact_then part (λ a. exact_more (a ∷ [])) (λ a ys values rest w free. begins_later (a ∷ []) ys values rest w free) (λ a ys t rest w. begins_later_deep (a ∷ []) ys t rest w) none_more)

  pub begun_list : Begun (read_list f) starts
  begun_list = begun_then part (λ a. exact_more (a ∷ [])) (λ a ys values rest w free. begins_later (a ∷ []) ys values rest w free) (λ a ys t rest w. begins_later_deep (a ∷ []) ys t rest w) none_more first
