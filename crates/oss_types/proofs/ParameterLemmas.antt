-- The parameters of a function, as they are in scope in its pragma, and the table of their names.
use Rattle.std.proofs.Common.{◌≡◌, ℕ, zero, suc, Bool, true, false, ◌+◌, ◌<◌, nat_lt, ◌||◌, cond, if◌then◌else◌, List, [], ◌∷◌, ◌++◌, length, map, drop, get_or, position, Option, Some, None, is_some, IfSome, refl, sym, ap, ◌∙◌, subst, true≢false, arith}
use Rattle.std.specs.List.{list_any, position_or_len}
use Rattle.std.specs.Str.{bytes_eq}
use Rattle.std.proofs.lemmas.Bool.Decides.{nat_tests}
use Rattle.std.proofs.lemmas.List.{drop_more}
use Rattle.std.proofs.lemmas.Slice.Eq.{bytes_eq-Decides}
use Rattle.oss_syntax.specs.declared.tree.program.Item.{Item}
use Rattle.oss_syntax.specs.declared.tree.program.Kind.{Kind}
use Rattle.oss_syntax.specs.declared.tree.program.Local.{Local}
use Rattle.oss_grammar.specs.Scopes.{is_local_again, local_kind, or_else}
use Rattle.oss_grammar.specs.StaticRules.{declare_all, declare_one, then_judge, with_local}
use Rattle.oss_types.specs.Tables.{TellsKinds, kind_at, place_among}
use Rattle.oss_types.proofs.PlaceLemmas.{place-push, place-within, with_place}

-- the locals from one on
pub declared-left : (all : List Item) (start : ℕ) (locals : List Local) (ds : List Local) (i : ℕ) (d : Local) → i < length ds → d ≡ get_or ds i d
    → declare_all all start (drop i ds) locals ≡ then_judge (declare_one all start d locals) (λ more. declare_all all start (drop (i + 1) ds) more)
declared-left all start locals ds i d within at =
    ap (λ xs. declare_all all start xs locals) (drop_more ds i d within)
    ∙ ap (λ x. declare_all all start (x ∷ drop (i + 1) ds) locals) (sym at)

-- whether a local of the name is among those so far is told by the table of their names
found : (b : Bool) (n : ℕ) → is_some (cond b (Some n) None) ≡ b
found true n = refl
found false n = refl

place-found : {X : Type 0} (p : X → Bool) (xs : List X) → is_some (position p xs) ≡ nat_lt (position_or_len p xs) (length xs)
place-found p xs = found (nat_lt (position_or_len p xs) (length xs)) (position_or_len p xs)

less-first : (m : ℕ) → nat_lt 0 (suc m) ≡ true
less-first m = grind (arith, nat_tests)

less-more : (n m : ℕ) → nat_lt (1 + n) (suc m) ≡ nat_lt n m
less-more n m = grind (arith, nat_tests)

one-more : {X : Type 0} (p : X → Bool) (x : X) (xs : List X) (b : Bool) → p x ≡ b → nat_lt (position_or_len p xs) (length xs) ≡ list_any p xs
    → nat_lt (position_or_len p (x ∷ xs)) (length (x ∷ xs)) ≡ list_any p (x ∷ xs)
one-more p x xs true e h = rw e (less-first (length xs))
one-more p x xs false e h = rw e (less-more (position_or_len p xs) (length xs) ∙ h)

within-any : {X : Type 0} (p : X → Bool) (xs : List X) → nat_lt (position_or_len p xs) (length xs) ≡ list_any p xs
within-any p [] = refl
within-any p (x ∷ xs) = one-more p x xs (p x) refl (within-any p xs)

some-place : {X : Type 0} (p : X → Bool) (xs : List X) → is_some (position p xs) ≡ list_any p xs
some-place p xs = place-found p xs ∙ within-any p xs

any-name : (name : List ℕ) (ls : List Local) → list_any (λ other. bytes_eq other name) (map (λ l. l.name) ls) ≡ list_any (λ l. bytes_eq l.name name) ls
any-name name [] = refl
any-name name (l ∷ ls) = ap (λ b. bytes_eq l.name name || b) (any-name name ls)

abbrev pub names_in : List Local → List (List ℕ)
names_in ls = map (λ l. l.name) ls

pub again-by-table : (ls : List Local) (name : List ℕ) → is_some (place_among (names_in ls) name) ≡ is_local_again 0 ls name
again-by-table ls name = some-place (λ other. bytes_eq other name) (names_in ls) ∙ any-name name ls

pub declared-next : (all : List Item) (ls : List Local) (ds : List Local) (i : ℕ) (d : Local) → i < length ds → d ≡ get_or ds i d → (b : Bool) → is_local_again 0 ls d.name ≡ b
    → (declare_all all 0 (drop i ds) ls).locals ≡ (declare_all all 0 (drop (i + 1) ds) (with_local b d ls)).locals
declared-next all ls ds i d within at b is =
    ap (λ j. j.locals) (declared-left all 0 ls ds i d within at) ∙ ap (λ x. (declare_all all 0 (drop (i + 1) ds) (with_local x d ls)).locals) is

pub names-more : (ls : List Local) (d : Local) → names_in (ls ++ d ∷ []) ≡ names_in ls ++ d.name ∷ []
names-more [] d = refl
names-more (l ∷ ls) d = ap (λ names. l.name ∷ names) (names-more ls d)

-- the type of the last local of a name, with one more local
or-none : (o : Option Kind) → o ≡ or_else o None
or-none (Some x) = refl
or-none None = refl

or-assoc : (a b c : Option Kind) → or_else (or_else a b) c ≡ or_else a (or_else b c)
or-assoc (Some x) b c = refl
or-assoc None b c = refl

abbrev kind_if : Local → List ℕ → Option Kind
kind_if d name = if bytes_eq d.name name then Some d.kind else None

pub kind-push : (ls : List Local) (d : Local) (name : List ℕ) → local_kind (ls ++ d ∷ []) name ≡ or_else (kind_if d name) (local_kind ls name)
kind-push [] d name = or-none (kind_if d name)
kind-push (l ∷ ls) d name = ap (λ o. or_else o (kind_if l name)) (kind-push ls d name) ∙ or-assoc (kind_if d name) (local_kind ls name) (kind_if l name)

pub ruleset pushes = (kind-push)

-- the type of the local at a place, with one more local
at-new : (ls : List Local) (d : Local) → kind_at (ls ++ d ∷ []) (Some (length ls)) ≡ Some d.kind
at-new [] d = refl
at-new (l ∷ ls) d = at-new ls d

at-old : (ls : List Local) (d : Local) (i : ℕ) → i < length ls → kind_at (ls ++ d ∷ []) (Some i) ≡ kind_at ls (Some i)
at-old [] d i h = absurd (omega arith)
at-old (l ∷ ls) d zero h = refl
at-old (l ∷ ls) d (suc i) h = at-old ls d i (omega arith)

at-place : (ls : List Local) (d : Local) (place : Option ℕ) → IfSome place (λ i. i < length ls) → kind_at (ls ++ d ∷ []) place ≡ kind_at ls place
at-place ls d None h = refl
at-place ls d (Some i) h = at-old ls d i h

-- a table of names tells the types of locals, with one more that is new
stays : (old : Option ℕ) (place : ℕ) → with_place old false place ≡ old
stays (Some i) place = refl
stays None place = refl

takes : (old : Option ℕ) (place : ℕ) → is_some old ≡ false → with_place old true place ≡ Some place
takes (Some i) place h = absurd (true≢false h)
takes None place h = refl

module _ (names : List (List ℕ)) (ls : List Local) (d : Local) (size : length names ≡ length ls) (fresh : is_some (place_among names d.name) ≡ false) (told : TellsKinds names ls) where
  one-name : (name : List ℕ) (b : Bool) → bytes_eq d.name name ≡ b → or_else (if b then Some d.kind else None) (local_kind ls name) ≡ kind_at (ls ++ d ∷ []) (with_place (place_among names name) b (length names))
  one-name name true is =
      let New : List ℕ → Type 0 = λ q. is_some (place_among names q) ≡ false in
      let new : New name = subst New ((bytes_eq-Decides d.name name).0 is) fresh in
      sym (ap (kind_at (ls ++ d ∷ [])) (takes (place_among names name) (length names) new) ∙ ap (λ n. kind_at (ls ++ d ∷ []) (Some n)) size ∙ at-new ls d)
  one-name name false is =
      let inside : IfSome (place_among names name) (λ i. i < length ls) = subst (λ n. IfSome (place_among names name) (λ i. i < n)) size (place-within names name) in
      told name ∙ sym (ap (kind_at (ls ++ d ∷ [])) (stays (place_among names name) (length names)) ∙ at-place ls d (place_among names name) inside)

  pub kinds-more : TellsKinds (names ++ d.name ∷ []) (ls ++ d ∷ [])
  kinds-more name =
      kind-push ls d name ∙ one-name name (bytes_eq d.name name) refl ∙ ap (kind_at (ls ++ d ∷ [])) (sym (place-push names d.name name))

pub names-many : (ls : List Local) → length (names_in ls) ≡ length ls
names-many [] = refl
names-many (l ∷ ls) = ap suc (names-many ls)
