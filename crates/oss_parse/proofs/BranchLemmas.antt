-- A statement, and behind it an `else` with another where one can go on: the branches of an `if` are read exactly.
use Rattle.std.proofs.Common.{◌≡◌, ℕ, Bool, true, false, if◌then◌else◌, List, [], ◌∷◌, ◌++◌, refl, sym, ap, ◌∙◌, subst, append_assoc, ◌⊎◌, inl, inr, Some, None, is_some, Result, Ok, Err}
use Rattle.std.specs.Prelude.{codes}
use Rattle.std.proofs.lemmas.List.{append-nil, append_cancel_right}
use Rattle.oss_syntax.specs.declared.token.Token.{Token}
use Rattle.oss_syntax.specs.declared.tree.expr.Expr.{Expr}
use Rattle.oss_syntax.specs.declared.tree.stmt.Stmt.{Stmt}
use Rattle.oss_grammar.specs.Fronts.{Viable}
use Rattle.oss_grammar.specs.OneToken.{is_keyword}
use Rattle.oss_grammar.specs.Reading.{Stop, Reader, begins, has, go_on, read_one, read_then, read_nothing, read_mapped, read_both, read_either}
use Rattle.oss_grammar.specs.Reading.Stop.{Syntax, Deep}
use Rattle.oss_grammar.proofs.Parts.{Taken, Stopped, Sunk, IsRead, Sinks, ok_is, taken, still_fails}
use Rattle.oss_expressions.specs.ExpressionReading.{latter}
use Rattle.oss_expressions.specs.TokenValues.{keyword_at}
use Rattle.oss_parse.specs.StatementReading.{if_of, if_else_of, read_branches}
use Rattle.oss_parse.proofs.EndingLemmas.{Ending}

-- the word before the second branch
abbrev pub otherwise : Token → Bool
otherwise = has (keyword_at (codes "else"))

-- one branch, or two, of which the first goes on with no `else`
pub data Branches (U C : List Token → Stmt → Type 0) (head : ℕ × Expr) (xs : List Token) (e : Stmt) : Type 0 where
  one_branch : (s : Stmt) → if_of head s ≡ e → U xs s → Branches U C head xs e
  two_branches : (s other : Stmt) (front : List Token) (mark : Token) (back : List Token) → if_else_of head s other ≡ e → xs ≡ front ++ (mark ∷ back) → otherwise mark ≡ true → C front s → U back other → Branches U C head xs e

-- two branches that go on with no `else`
pub record ClosedBranches (C : List Token → Stmt → Type 0) (head : ℕ × Expr) (xs : List Token) (e : Stmt) : Type 0 where
  pub first : Stmt
  pub other : Stmt
  pub front : List Token
  pub mark : Token
  pub back : List Token
  pub made : if_else_of head first other ≡ e
  pub split : xs ≡ front ++ (mark ∷ back)
  pub marks : otherwise mark ≡ true
  pub before : C front first
  pub behind : C back other

pub data BranchesDeep (C : List Token → Stmt → Type 0) (B : List Token → Token → Type 0) (xs : List Token) (t : Token) : Type 0 where
  in_one : B xs t → BranchesDeep C B xs t
  in_other : (s : Stmt) (front : List Token) (mark : Token) (back : List Token) → xs ≡ front ++ (mark ∷ back) → C front s → otherwise mark ≡ true → B back t → BranchesDeep C B xs t

module _ {sub : Reader Stmt} {U C : List Token → Stmt → Type 0} {B : List Token → Token → Type 0} (part : Ending otherwise sub U C B) (inside : (xs : List Token) (s : Stmt) → C xs s → U xs s)
    (some : Viable U []) (head : ℕ × Expr) where
  abbrev branches : Reader Stmt
  branches = read_branches sub head

  -- behind the first branch
  tail : Stmt → Reader Stmt
  tail s = read_either otherwise (read_mapped (if_else_of head s) (read_mapped latter (read_both (read_one (keyword_at (codes "else"))) sub))) (read_nothing (if_of head s))

  is_tail : branches ≡ read_then sub tail
  unfolding read_branches tail
  is_tail = refl

  tail_one : (s : Stmt) (rest : List Token) → begins otherwise rest ≡ false → tail s rest ≡ Ok (if_of head s, rest)
  unfolding tail
  tail_one s rest e = rw e refl

  is_word : (b : Bool) (line : ℕ) → is_some (if b then Some line else None) ≡ true → (if b then Some line else None) ≡ Some line
  is_word true line e = refl
  is_word false line e = absurd (cc)

  one_told : (t : Token) → otherwise t ≡ true → keyword_at (codes "else") t ≡ Some t.line
  one_told t e = is_word (is_keyword (codes "else") t.what) t.line e

  with_line : ℕ → Stmt → List Token → Result ((ℕ × Stmt) × List Token) Stop
  with_line line b left = Ok ((line, b), left)

  second_told : (line : ℕ) (s : Stmt) (o : Result (Stmt × List Token) Stop)
      → go_on {B = Stmt} (go_on {B = Stmt} (go_on {B = ℕ × Stmt} o (λ b left. Ok ((line, b), left))) (λ p rest. Ok (latter p, rest))) (λ other rest. Ok (if_else_of head s other, rest))
      ≡ go_on o (λ other left. Ok (if_else_of head s other, left))
  second_told line s (Ok p) = refl
  second_told line s (Err stop) = refl

  tail_two : (s : Stmt) (t : Token) (rest : List Token) → otherwise t ≡ true → tail s (t ∷ rest) ≡ go_on (sub rest) (λ other left. Ok (if_else_of head s other, left))
  unfolding tail
  tail_two s t rest e = rw e (rw (one_told t e) (second_told t.line s (sub rest)))

  -- what the branches tell
  told_one : (ts : List Token) (s : Stmt) (mid : List Token) → sub ts ≡ Ok (s, mid) → begins otherwise mid ≡ false → branches ts ≡ Ok (if_of head s, mid)
  told_one ts s mid e free = ap (λ f. f ts) is_tail ∙ (ap (λ o. go_on o tail) e ∙ tail_one s mid free)

  told_two : (ts : List Token) (s : Stmt) (t : Token) (rest : List Token) → sub ts ≡ Ok (s, t ∷ rest) → otherwise t ≡ true → branches ts ≡ go_on (sub rest) (λ other left. Ok (if_else_of head s other, left))
  told_two ts s t rest e begun = ap (λ f. f ts) is_tail ∙ (ap (λ o. go_on o tail) e ∙ tail_two s t rest begun)

  told_stop : (ts : List Token) (stop : Stop) → sub ts ≡ Err stop → branches ts ≡ Err stop
  told_stop ts stop e = ap (λ f. f ts) is_tail ∙ ap (λ o. go_on o tail) e

  abbrev after : Stmt → Result (Stmt × List Token) Stop → Result (Stmt × List Token) Stop
  after s o = go_on o (λ other left. Ok (if_else_of head s other, left))

  one_viable : (xs : List Token) → Viable U xs → Viable (Branches U C head) xs
  one_viable xs v = record { more = v.more; value = if_of head v.value; member = one_branch v.value refl v.member }

  two_read : (ts : List Token) (s : Stmt) (front : List Token) (t : Token) (rest : List Token) → ts ≡ front ++ (t ∷ rest) → C front s → otherwise t ≡ true
      → ((other : List Token) → sub (front ++ (t ∷ other)) ≡ Ok (s, t ∷ other)) → (r : Result (Stmt × List Token) Stop) → IsRead sub U B rest r
      → IsRead branches (Branches U C head) (BranchesDeep C B) ts (after s r)
  two_read ts s front t rest split w begun steady (Ok q) u = record {
    front = front ++ (t ∷ u.front);
    split = split ∙ (ap (λ ys. front ++ (t ∷ ys)) u.split ∙ sym (append_assoc front (t ∷ u.front) q.1));
    whole = two_branches s q.0 front t u.front refl refl begun w u.whole;
    steady = λ other same.
        ap branches (append_assoc front (t ∷ u.front) other)
        ∙ (told_two (front ++ (t ∷ (u.front ++ other))) s t (u.front ++ other) (steady (u.front ++ other)) begun ∙ ap (after s) (u.steady other same));
  }
  two_read ts s front t rest split w begun steady (Err (Syntax place)) u = record {
    front = front ++ (t ∷ u.front);
    split = split ∙ (ap (λ ys. front ++ (t ∷ ys)) u.split ∙ sym (append_assoc front (t ∷ u.front) place));
    viable = record { more = u.viable.more; value = if_else_of head s u.viable.value; member = two_branches s u.viable.value front t (u.front ++ u.viable.more) refl (append_assoc front (t ∷ u.front) u.viable.more) begun w u.viable.member };
    steady = λ other same.
        ap branches (append_assoc front (t ∷ u.front) other)
        ∙ (told_two (front ++ (t ∷ (u.front ++ other))) s t (u.front ++ other) (steady (u.front ++ other)) begun ∙ ap (after s) (u.steady other same));
  }
  two_read ts s front t rest split w begun steady (Err (Deep place)) u = record {
    front = front ++ (t ∷ u.front);
    token = u.token;
    behind = u.behind;
    at = u.at;
    split = split ∙ (ap (λ ys. front ++ (t ∷ ys)) u.split ∙ sym (append_assoc front (t ∷ u.front) place));
    deep = in_other s front t u.front refl w begun u.deep;
  }

  one_read : (ts : List Token) (s : Stmt) (mid : List Token) → begins otherwise mid ≡ false → Taken sub U ts s mid → Taken branches (Branches U C head) ts (if_of head s) mid
  one_read ts s mid free w = record {
    front = w.front;
    split = w.split;
    whole = one_branch s refl w.whole;
    steady = λ other same. told_one (w.front ++ other) s other (w.steady other same) (still_fails otherwise [] mid mid other free refl same);
  }

  read_behind : (ts : List Token) (s : Stmt) (mid : List Token) (b : Bool) → begins otherwise mid ≡ b → sub ts ≡ Ok (s, mid) → Taken sub U ts s mid → IsRead branches (Branches U C head) (BranchesDeep C B) ts (branches ts)
  read_behind ts s mid false free e w = subst (λ r. IsRead branches (Branches U C head) (BranchesDeep C B) ts r) (sym (told_one ts s mid e free)) (one_read ts s mid free w)
  read_behind ts s [] true begun e w = absurd (cc)
  read_behind ts s (t ∷ rest) true begun e w = subst (λ r. IsRead branches (Branches U C head) (BranchesDeep C B) ts r) (sym (told_two ts s t rest e begun))
      (two_read ts s w.front t rest w.split (part.ends ts s (t ∷ rest) e begun w.front w.split) begun (λ other. w.steady (t ∷ other) refl) (sub rest) (part.whole.reads rest))

  branches_read : (ts : List Token) (r : Result (Stmt × List Token) Stop) → sub ts ≡ r → IsRead sub U B ts r → IsRead branches (Branches U C head) (BranchesDeep C B) ts (branches ts)
  branches_read ts (Ok p) e w = read_behind ts p.0 p.1 (begins otherwise p.1) refl e w
  branches_read ts (Err (Syntax place)) e w =
      let stop : Stopped branches (Branches U C head) ts place = record { front = w.front; split = w.split; viable = one_viable w.front w.viable; steady = λ other same. told_stop (w.front ++ other) (Syntax other) (w.steady other same) } in
      subst (λ r. IsRead branches (Branches U C head) (BranchesDeep C B) ts r) (sym (told_stop ts (Syntax place) e)) stop
  branches_read ts (Err (Deep place)) e w =
      let sunk : Sunk (BranchesDeep C B) ts place = record { front = w.front; token = w.token; behind = w.behind; at = w.at; split = w.split; deep = in_one w.deep } in
      subst (λ r. IsRead branches (Branches U C head) (BranchesDeep C B) ts r) (sym (told_stop ts (Deep place) e)) sunk

  sinks_one : (xs more : List Token) → Sinks sub B xs → Sinks branches (BranchesDeep C B) (xs ++ more)
  sinks_one xs more s = record {
    front = s.front;
    token = s.token;
    more = s.more ++ more;
    deep = in_one s.deep;
    split = ap (λ ys. ys ++ more) s.split ∙ append_assoc s.front (s.token ∷ s.more) more;
    steady = λ other. told_stop (s.front ++ (s.token ∷ other)) (Deep (s.token ∷ other)) (s.steady other);
  }

  sinks_other : (s : Stmt) (front : List Token) (t : Token) (back : List Token) → C front s → otherwise t ≡ true → ((rest : List Token) → sub (front ++ rest) ≡ Ok (s, rest)) → Sinks sub B back
      → Sinks branches (BranchesDeep C B) (front ++ (t ∷ back))
  sinks_other s front t back w begun read u = record {
    front = front ++ (t ∷ u.front);
    token = u.token;
    more = u.more;
    deep = in_other s front t u.front refl w begun u.deep;
    split = ap (λ ys. front ++ (t ∷ ys)) u.split ∙ sym (append_assoc front (t ∷ u.front) (u.token ∷ u.more));
    steady = λ other.
        ap branches (append_assoc front (t ∷ u.front) (u.token ∷ other))
        ∙ (told_two (front ++ (t ∷ (u.front ++ (u.token ∷ other)))) s t (u.front ++ (u.token ∷ other)) (read (t ∷ (u.front ++ (u.token ∷ other)))) begun ∙ ap (after s) (u.steady other));
  }

  -- two branches that are read
  two_again : (s other : Stmt) (front : List Token) (t : Token) (back rest : List Token) → otherwise t ≡ true → ((rest : List Token) → sub (front ++ rest) ≡ Ok (s, rest)) → sub (back ++ rest) ≡ Ok (other, rest)
      → branches ((front ++ (t ∷ back)) ++ rest) ≡ Ok (if_else_of head s other, rest)
  two_again s other front t back rest begun one two =
      ap branches (append_assoc front (t ∷ back) rest) ∙ (told_two (front ++ (t ∷ (back ++ rest))) s t (back ++ rest) (one (t ∷ (back ++ rest))) begun ∙ ap (after s) two)

  abbrev Again : List Token → Stmt → Type 0
  Again xs e = ((rest : List Token) → begins otherwise rest ≡ false → branches (xs ++ rest) ≡ Ok (e, rest)) ⊎ Sinks branches (BranchesDeep C B) xs

  again_one : (xs : List Token) (s : Stmt) → ((rest : List Token) → begins otherwise rest ≡ false → sub (xs ++ rest) ≡ Ok (s, rest)) ⊎ Sinks sub B xs → Again xs (if_of head s)
  again_one xs s (inl read) = inl (λ rest free. told_one (xs ++ rest) s rest (read rest free) free)
  again_one xs s (inr u) = inr (subst (λ ys. Sinks branches (BranchesDeep C B) ys) (append-nil xs) (sinks_one xs [] u))

  again_two : (s other : Stmt) (front : List Token) (t : Token) (back : List Token) → C front s → otherwise t ≡ true → ((rest : List Token) → sub (front ++ rest) ≡ Ok (s, rest)) ⊎ Sinks sub B front
      → ((rest : List Token) → begins otherwise rest ≡ false → sub (back ++ rest) ≡ Ok (other, rest)) ⊎ Sinks sub B back → Again (front ++ (t ∷ back)) (if_else_of head s other)
  again_two s other front t back w begun (inl one) (inl two) = inl (λ rest free. two_again s other front t back rest begun one (two rest free))
  again_two s other front t back w begun (inl one) (inr u) = inr (sinks_other s front t back w begun one u)
  again_two s other front t back w begun (inr u) two = inr (sinks_one front (t ∷ back) u)

  branches_again : (xs : List Token) (e : Stmt) → Branches U C head xs e → Again xs e
  branches_again xs e (one_branch s made w) = subst (λ x. Again xs x) made (again_one xs s (part.whole.again xs s w))
  branches_again xs e (two_branches s other front mark back made split begun w v) =
      subst (λ x. Again xs x) made (subst (λ ys. Again ys (if_else_of head s other)) (sym split) (again_two s other front mark back w begun (part.closed front s w) (part.whole.again back other v)))

  abbrev Always : List Token → Stmt → Type 0
  Always xs e = ((rest : List Token) → branches (xs ++ rest) ≡ Ok (e, rest)) ⊎ Sinks branches (BranchesDeep C B) xs

  always_two : (s other : Stmt) (front : List Token) (t : Token) (back : List Token) → C front s → otherwise t ≡ true → ((rest : List Token) → sub (front ++ rest) ≡ Ok (s, rest)) ⊎ Sinks sub B front
      → ((rest : List Token) → sub (back ++ rest) ≡ Ok (other, rest)) ⊎ Sinks sub B back → Always (front ++ (t ∷ back)) (if_else_of head s other)
  always_two s other front t back w begun (inl one) (inl two) = inl (λ rest. two_again s other front t back rest begun one (two rest))
  always_two s other front t back w begun (inl one) (inr u) = inr (sinks_other s front t back w begun one u)
  always_two s other front t back w begun (inr u) two = inr (sinks_one front (t ∷ back) u)

  branches_closed : (xs : List Token) (e : Stmt) → ClosedBranches C head xs e → Always xs e
  branches_closed xs e w =
      subst (λ x. Always xs x) w.made (subst (λ ys. Always ys (if_else_of head w.first w.other)) (sym w.split)
      (always_two w.first w.other w.front w.mark w.back w.before w.marks (part.closed w.front w.first w.before) (part.closed w.back w.other w.behind)))

  branches_sinks : (xs : List Token) (t : Token) → BranchesDeep C B xs t → Sinks branches (BranchesDeep C B) (xs ++ (t ∷ []))
  branches_sinks xs t (in_one w) = subst (λ ys. Sinks branches (BranchesDeep C B) ys) (append-nil (xs ++ (t ∷ []))) (sinks_one (xs ++ (t ∷ [])) [] (part.whole.sinks xs t w))
  branches_sinks xs t (in_other s front mark back split w begun d) = subst (λ ys. Sinks branches (BranchesDeep C B) ys) (sym all) (from (part.closed front s w)) where
    all : xs ++ (t ∷ []) ≡ front ++ (mark ∷ (back ++ (t ∷ [])))
    all = ap (λ ys. ys ++ (t ∷ [])) split ∙ append_assoc front (mark ∷ back) (t ∷ [])

    from : ((rest : List Token) → sub (front ++ rest) ≡ Ok (s, rest)) ⊎ Sinks sub B front → Sinks branches (BranchesDeep C B) (front ++ (mark ∷ (back ++ (t ∷ []))))
    from (inl one) = sinks_other s front mark (back ++ (t ∷ [])) w begun one (part.whole.sinks back t d)
    from (inr u) = sinks_one front (mark ∷ (back ++ (t ∷ []))) u

  branches_begun : (xs : List Token) (t : Token) → BranchesDeep C B xs t → Viable (Branches U C head) (xs ++ (t ∷ []))
  branches_begun xs t (in_one w) = one_viable (xs ++ (t ∷ [])) (part.whole.begun xs t w)
  branches_begun xs t (in_other s front mark back split w begun d) = let v = part.whole.begun back t d in record {
    more = v.more;
    value = if_else_of head s v.value;
    member = two_branches s v.value front mark ((back ++ (t ∷ [])) ++ v.more) refl (ap (λ ys. ys ++ v.more) (ap (λ ys. ys ++ (t ∷ [])) split ∙ append_assoc front (mark ∷ back) (t ∷ [])) ∙ append_assoc front (mark ∷ (back ++ (t ∷ []))) v.more) begun w v.member;
  }

  no_begin : (b : Bool) → b ≡ false → b ≡ true → ⊥
  no_begin b e e' = absurd (cc)

  ends_behind : (ts : List Token) (s : Stmt) (mid : List Token) (e : Stmt) (rest : List Token) (b : Bool) → begins otherwise mid ≡ b → sub ts ≡ Ok (s, mid) → branches ts ≡ Ok (e, rest) → begins otherwise rest ≡ true
      → (front : List Token) → ts ≡ front ++ rest → ClosedBranches C head front e
  ends_behind ts s mid e rest false free read told begun front split =
      let p : Stmt × List Token = (if_of head s, mid) in let q : Stmt × List Token = (e, rest) in
      let same : p ≡ q = ok_is (branches ts) p q (told_one ts s mid read free) told in
      absurd (no_begin (begins otherwise rest) (ap (begins otherwise) (ap (λ (x : Stmt × List Token). x.1) (sym same)) ∙ free) begun)
  ends_behind ts s [] e rest true marks read told begun front split = absurd (cc)
  ends_behind ts s (t ∷ mid) e rest true marks read told begun front split = on (sub mid) refl where
    w : Taken sub U ts s (t ∷ mid)
    w = taken part.whole ts s (t ∷ mid) read

    all : after s (sub mid) ≡ Ok (e, rest)
    all = sym (told_two ts s t mid read marks) ∙ told

    on : (r : Result (Stmt × List Token) Stop) → sub mid ≡ r → ClosedBranches C head front e
    on (Err stop) e' = let none : branches ts ≡ Err stop = told_two ts s t mid read marks ∙ ap (after s) e' in absurd (cc)
    on (Ok q) e' =
        let p : Stmt × List Token = (if_else_of head s q.0, q.1) in let r : Stmt × List Token = (e, rest) in
        let same : p ≡ r = ok_is (after s (sub mid)) p r (ap (after s) e') all in
        let left : q.1 ≡ rest = ap (λ (x : Stmt × List Token). x.1) same in
        let read' : sub mid ≡ Ok (q.0, rest) = e' ∙ ap (λ ys. Ok (q.0, ys)) left in
        let u : Taken sub U mid q.0 rest = taken part.whole mid q.0 rest read' in
        let whole : front ≡ w.front ++ (t ∷ u.front)
        = append_cancel_right front (w.front ++ (t ∷ u.front)) rest (sym split ∙ (w.split ∙ (ap (λ ys. w.front ++ (t ∷ ys)) u.split ∙ sym (append_assoc w.front (t ∷ u.front) rest)))) in
        record {
          first = s;
          other = q.0;
          front = w.front;
          mark = t;
          back = u.front;
          made = ap (λ (x : Stmt × List Token). x.0) same;
          split = whole;
          marks = marks;
          before = part.ends ts s (t ∷ mid) read marks w.front w.split;
          behind = part.ends mid q.0 rest read' begun u.front u.split;
        }

  branches_ends : (ts : List Token) (e : Stmt) (rest : List Token) (r : Result (Stmt × List Token) Stop) → sub ts ≡ r → branches ts ≡ Ok (e, rest) → begins otherwise rest ≡ true
      → (front : List Token) → ts ≡ front ++ rest → ClosedBranches C head front e
  branches_ends ts e rest (Err stop) read told begun front split = let none : branches ts ≡ Err stop = told_stop ts stop read in absurd (cc)
  branches_ends ts e rest (Ok p) read told begun front split = ends_behind ts p.0 p.1 e rest (begins otherwise p.1) refl read told begun front split

  pub ending_branches : Ending otherwise branches (Branches U C head) (ClosedBranches C head) (BranchesDeep C B)
  ending_branches = record {
    whole = record { reads = λ ts. branches_read ts (sub ts) refl (part.whole.reads ts); again = branches_again; sinks = branches_sinks; begun = branches_begun };
    closed = branches_closed;
    ends = λ ts e rest told begun front split. branches_ends ts e rest (sub ts) refl told begun front split;
  }
