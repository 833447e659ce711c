-- The types of numbers are read exactly, and so are names with a `*` before them or without.
use Rattle.std.proofs.Common.{◌≡◌, ℕ, Bool, true, false, if◌then◌else◌, List, [], ◌∷◌, refl, sym, ap, ◌∙◌, subst, Some, None, is_some}
use Rattle.std.specs.Prelude.{codes}
use Rattle.oss_syntax.specs.declared.token.Token.{Token}
use Rattle.oss_syntax.specs.declared.token.TokenKind.TheVariants as kinds
use Rattle.oss_syntax.specs.declared.tree.program.Kind.{Kind}
use Rattle.oss_syntax.specs.declared.tree.program.Kind.TheVariants as kind
use Rattle.oss_syntax.specs.declared.tree.program.NumKind.{NumKind}
use Rattle.oss_syntax.specs.declared.tree.program.NumKind.TheVariants as num
use Rattle.oss_grammar.specs.Grammar.{One, Mapped, Either}
use Rattle.oss_grammar.specs.Grammar.Either.{one_way, other_way}
use Rattle.oss_grammar.specs.OneToken.{is_keyword, IsKeyword}
use Rattle.oss_grammar.specs.Reading.{has, one_of, never, read_one, read_both}
use Rattle.oss_grammar.specs.SimpleStatements.{IsNumKind, IsDeclared, first_line}
use Rattle.oss_grammar.specs.SimpleStatements.IsNumKind.{int_kind, long_kind, unsigned_kind}
use Rattle.oss_grammar.specs.SimpleStatements.IsDeclared.{number_declared, pointer_declared}
use Rattle.oss_grammar.proofs.Parts.{Exact, Begun, exact_as}
use Rattle.oss_grammar.proofs.PartLemmas.{Nowhere, nowhere, exact_one, begun_one, exact_mapped, begun_mapped, EitherDeep, begun_either}
use Rattle.oss_grammar.proofs.PartLemmas.EitherDeep.{one_deep, other_deep}
use Rattle.oss_grammar.proofs.PairLemmas.{some_text}
use Rattle.oss_expressions.specs.TokenValues.{symbol_at, keyword_at, name_at}
use Rattle.oss_expressions.specs.declared.cursor.Named.{Named}
use Rattle.oss_expressions.proofs.ExactPairs.{Headed, HeadedDeep, exact_headed, begun_headed, exact_or}
use Rattle.oss_expressions.proofs.PrimaryLemmas.{name_is, name_value}
use Rattle.oss_expressions.proofs.TokenLemmas.{on_keyword, not_symbol, symbol_token, symbol_value}
use Rattle.oss_parse.specs.SimpleReading.{star, single_kind_at, ulong_of, read_num_kind, begins_kind, pointer_to, number_of, read_declared}

-- the line of a keyword is had of that keyword
keyword_of : (b : Bool) (line n : ℕ) → (if b then Some line else None) ≡ Some n → b ≡ true
keyword_of true line n e = refl
keyword_of false line n e = absurd (cc)

keyword_same : (b : Bool) (line n : ℕ) → (if b then Some line else None) ≡ Some n → line ≡ n
keyword_same true line n e = cc
keyword_same false line n e = absurd (cc)

pub keyword_told : (k : List ℕ) (t : Token) (n : ℕ) → keyword_at k t ≡ Some n → IsKeyword k t
keyword_told k t n e = keyword_of (is_keyword k t.what) t.line n e

pub keyword_line : (k : List ℕ) (t : Token) (n : ℕ) → keyword_at k t ≡ Some n → t.line ≡ n
keyword_line k t n e = keyword_same (is_keyword k t.what) t.line n e

pub keyword_value : (k : List ℕ) (t : Token) → IsKeyword k t → keyword_at k t ≡ Some t.line
keyword_value k t e = rw e refl

keyword_chosen : (b : Bool) (line : ℕ) → is_some (if b then Some line else None) ≡ true → b ≡ true
keyword_chosen true line e = refl
keyword_chosen false line e = absurd (cc)

pub has_keyword : (k : List ℕ) (t : Token) → has (keyword_at k) t ≡ true → IsKeyword k t
has_keyword k t e = keyword_chosen (is_keyword k t.what) t.line e

-- the type of numbers, with the line of its first token
pub record NumKinded (xs : List Token) (k : NumKind × ℕ) : Type 0 where
  pub typed : IsNumKind xs k.0
  pub at : first_line xs ≡ k.1

some_same : {A : Type 0} (a b : A) → Some a ≡ Some b → a ≡ b
some_same a b e = cc

single_is : (t : Token) (k : NumKind × ℕ) (b c : Bool) → is_keyword (codes "int") t.what ≡ b → is_keyword (codes "long") t.what ≡ c
    → (if b then Some (num.Int, t.line) else (if c then Some (num.Long, t.line) else None)) ≡ Some k → NumKinded (t ∷ []) k
single_is t k true c i l e = subst (λ k. NumKinded (t ∷ []) k) (some_same (num.Int, t.line) k e) (record { typed = int_kind t refl i; at = refl })
single_is t k false true i l e = subst (λ k. NumKinded (t ∷ []) k) (some_same (num.Long, t.line) k e) (record { typed = long_kind t refl l; at = refl })
single_is t k false false i l e = absurd (cc)

abbrev Kinded : List Token → NumKind × ℕ → Type 0
Kinded = Either (One single_kind_at) (Mapped ulong_of (Headed (keyword_at (codes "unsigned")) (One (keyword_at (codes "long")))))

kind_into : (xs : List Token) (k : NumKind × ℕ) → Kinded xs k → NumKinded xs k
kind_into xs k (one_way w) =
    subst (λ ys. NumKinded ys k) (sym w.only) (single_is w.token k (is_keyword (codes "int") w.token.what) (is_keyword (codes "long") w.token.what) refl refl w.passes)
kind_into xs k (other_way w) = let h = w.whole in let all : xs ≡ h.token ∷ h.behind.token ∷ [] = h.split ∙ ap (λ ys. h.token ∷ ys) h.behind.only in
    subst (λ k. NumKinded xs k) (ap (λ line. (num.Ulong, line)) (keyword_line (codes "unsigned") h.token w.part.0 h.passes) ∙ w.made)
    (record { typed = unsigned_kind h.token h.behind.token all (keyword_told (codes "unsigned") h.token w.part.0 h.passes) (keyword_told (codes "long") h.behind.token w.part.1 h.behind.passes); at = ap first_line all })

long_no_int : (t : Token) → IsKeyword (codes "long") t → is_keyword (codes "int") t.what ≡ false
long_no_int t l = on_keyword (λ t. is_keyword (codes "int") t.what) (codes "long") false (λ line. refl) t l

int_told : (t : Token) → IsKeyword (codes "int") t → single_kind_at t ≡ Some (num.Int, t.line)
int_told t i = rw i refl

long_told : (t : Token) → IsKeyword (codes "long") t → single_kind_at t ≡ Some (num.Long, t.line)
long_told t l = rw (long_no_int t l) (rw l refl)

kind_back_by : (xs : List Token) (numbers : NumKind) (line : ℕ) → first_line xs ≡ line → IsNumKind xs numbers → Kinded xs (numbers, line)
kind_back_by xs numbers line at (int_kind t e i) = one_way (record { token = t; only = e; passes = int_told t i ∙ ap (λ n. Some (num.Int, n)) (ap first_line (sym e) ∙ at) })
kind_back_by xs numbers line at (long_kind t e l) = one_way (record { token = t; only = e; passes = long_told t l ∙ ap (λ n. Some (num.Long, n)) (ap first_line (sym e) ∙ at) })
kind_back_by xs numbers line at (unsigned_kind t u e a b) = other_way (record {
  part = (t.line, u.line);
  made = ap (λ n. (num.Ulong, n)) (ap first_line (sym e) ∙ at);
  whole = record { token = t; back = u ∷ []; split = e; passes = keyword_value (codes "unsigned") t a; behind = record { token = u; only = refl; passes = keyword_value (codes "long") u b } };
})

kind_back : (xs : List Token) (k : NumKind × ℕ) → NumKinded xs k → Kinded xs k
kind_back xs k w = kind_back_by xs k.0 k.1 w.at w.typed

kind_deeper : (xs : List Token) (t : Token) → EitherDeep Nowhere (HeadedDeep (keyword_at (codes "unsigned")) Nowhere) xs t → Nowhere xs t
kind_deeper xs t (one_deep d) = d
kind_deeper xs t (other_deep d) = nowhere d.back t d.deep

exact_long : Exact (read_one (keyword_at (codes "long"))) (One (keyword_at (codes "long"))) Nowhere never
exact_long = exact_one (keyword_at (codes "long")) (record { what = kinds.Keyword (codes "long"); line = 0 }) 0 refl never

exact_unsigned : Exact {A = ℕ × ℕ} (read_both (read_one (keyword_at (codes "unsigned"))) (read_one (keyword_at (codes "long"))))
    (Headed (keyword_at (codes "unsigned")) (One (keyword_at (codes "long")))) (HeadedDeep (keyword_at (codes "unsigned")) Nowhere) never
exact_unsigned = exact_headed (keyword_at (codes "unsigned")) exact_long (record { what = kinds.Keyword (codes "unsigned"); line = 0 }) 0 refl (some_text exact_long (begun_one (keyword_at (codes "long"))))

begun_unsigned : Begun {A = ℕ × ℕ} (read_both (read_one (keyword_at (codes "unsigned"))) (read_one (keyword_at (codes "long")))) (has (keyword_at (codes "unsigned")))
begun_unsigned = begun_headed (keyword_at (codes "unsigned")) exact_long

unsigned_no_single : (t : Token) → has (keyword_at (codes "unsigned")) t ≡ true → has single_kind_at t ≡ false
unsigned_no_single t e = on_keyword (has single_kind_at) (codes "unsigned") false (λ line. refl) t (has_keyword (codes "unsigned") t e)

-- the type of numbers is read, with the line of its first token
pub exact_num_kind : Exact read_num_kind NumKinded Nowhere never
unfolding read_num_kind
exact_num_kind = exact_as kind_into kind_back kind_deeper (λ xs t d. one_deep d)
    (exact_or (has single_kind_at) (has (keyword_at (codes "unsigned"))) (exact_one single_kind_at (record { what = kinds.Keyword (codes "int"); line = 0 }) (num.Int, 0) refl never) (begun_one single_kind_at)
    (exact_mapped ulong_of exact_unsigned) (begun_mapped ulong_of begun_unsigned) unsigned_no_single)

pub begun_num_kind : Begun read_num_kind begins_kind
unfolding read_num_kind
begun_num_kind = begun_either (has single_kind_at) (begun_one single_kind_at) (begun_mapped ulong_of begun_unsigned)

-- a name, with its token
pub record NameToken (xs : List Token) (name : Named) : Type 0 where
  pub token : Token
  pub only : xs ≡ token ∷ []
  pub what : token.what ≡ kinds.Name name.name
  pub at : token.line ≡ name.line

name_into : (xs : List Token) (name : Named) → One name_at xs name → NameToken xs name
name_into xs name w = let is = name_is w.token.what w.token.line name w.passes in record { token = w.token; only = w.only; what = is.what; at = sym is.at }

name_back : (xs : List Token) (name : Named) → NameToken xs name → One name_at xs name
name_back xs name w = record { token = w.token; only = w.only; passes = name_value w.token name.name w.what ∙ ap (λ line. Some (record { name = name.name; line = line })) w.at }

pub exact_name : Exact (read_one name_at) NameToken Nowhere never
exact_name = exact_as name_into name_back (λ xs t d. d) (λ xs t d. d) (exact_one name_at (record { what = kinds.Name []; line = 0 }) (record { name = []; line = 0 }) refl never)

pub begun_name : Begun (read_one name_at) (has name_at)
begun_name = begun_one name_at

-- a name with a `*` before it or without
pub record Declared (numbers : NumKind) (xs : List Token) (d : Kind × Named) : Type 0 where
  pub declares : IsDeclared numbers xs d.0 d.1.name d.1.line

abbrev Starred : NumKind → List Token → Kind × Named → Type 0
Starred numbers = Either (Mapped (pointer_to numbers) (Headed (symbol_at (codes "*")) NameToken)) (Mapped (number_of numbers) NameToken)

declared_into : (numbers : NumKind) (xs : List Token) (d : Kind × Named) → Starred numbers xs d → Declared numbers xs d
declared_into numbers xs d (one_way w) = let h = w.whole in let n = h.behind in
    subst (λ d. Declared numbers xs d) w.made
    (record {
      declares = subst (λ line. IsDeclared numbers xs (kind.Pointer numbers) w.part.1.name line) n.at
          (pointer_declared h.token n.token w.part.1.name (h.split ∙ ap (λ ys. h.token ∷ ys) n.only) (symbol_token (codes "*") h.token w.part.0 h.passes) n.what);
    })
declared_into numbers xs d (other_way w) = let n = w.whole in
    subst (λ d. Declared numbers xs d) w.made (record { declares = subst (λ line. IsDeclared numbers xs (kind.Num numbers) w.part.name line) n.at (number_declared n.token w.part.name n.only n.what) })

declared_back_by : (numbers : NumKind) (xs : List Token) (k : Kind) (word : List ℕ) (line : ℕ) → IsDeclared numbers xs k word line → Starred numbers xs (k, record { name = word; line = line })
declared_back_by numbers xs k word line (number_declared t w e n) = other_way (record { part = record { name = w; line = t.line }; made = refl; whole = record { token = t; only = e; what = n; at = refl } })
declared_back_by numbers xs k word line (pointer_declared mark t w e s n) = one_way (record {
  part = (mark.line, record { name = w; line = t.line });
  made = refl;
  whole = record { token = mark; back = t ∷ []; split = e; passes = symbol_value (codes "*") mark s; behind = record { token = t; only = refl; what = n; at = refl } };
})

declared_back : (numbers : NumKind) (xs : List Token) (d : Kind × Named) → Declared numbers xs d → Starred numbers xs d
declared_back numbers xs d w = declared_back_by numbers xs d.0 d.1.name d.1.line w.declares

declared_deeper : (xs : List Token) (t : Token) → EitherDeep (HeadedDeep (symbol_at (codes "*")) Nowhere) Nowhere xs t → Nowhere xs t
declared_deeper xs t (one_deep d) = nowhere d.back t d.deep
declared_deeper xs t (other_deep d) = d

name_no_star : (t : Token) → has name_at t ≡ true → star t ≡ false
name_no_star t e = not_symbol (has name_at) (codes "*") (λ line. refl) t e

exact_star : Exact {A = ℕ × Named} (read_both (read_one (symbol_at (codes "*"))) (read_one name_at)) (Headed (symbol_at (codes "*")) NameToken) (HeadedDeep (symbol_at (codes "*")) Nowhere) never
exact_star = exact_headed (symbol_at (codes "*")) exact_name (record { what = kinds.Symbol (codes "*"); line = 0 }) 0 refl (some_text exact_name begun_name)

begun_star : Begun {A = ℕ × Named} (read_both (read_one (symbol_at (codes "*"))) (read_one name_at)) star
begun_star = begun_headed (symbol_at (codes "*")) exact_name

-- a name is read, with a `*` before it or without
pub exact_declared : (numbers : NumKind) → Exact (read_declared numbers) (Declared numbers) Nowhere never
unfolding read_declared
exact_declared numbers = exact_as (declared_into numbers) (declared_back numbers) declared_deeper (λ xs t d. other_deep d)
    (exact_or star (has name_at) (exact_mapped (pointer_to numbers) exact_star) (begun_mapped (pointer_to numbers) begun_star)
    (exact_mapped (number_of numbers) exact_name) (begun_mapped (number_of numbers) begun_name) name_no_star)

pub begun_declared : (numbers : NumKind) → Begun (read_declared numbers) (one_of star (has name_at))
unfolding read_declared
begun_declared numbers = begun_either star (begun_mapped (pointer_to numbers) begun_star) (begun_mapped (number_of numbers) begun_name)
