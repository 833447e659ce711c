-- What it is that the instructions of a statement do what it means, and statements without others in them.
use Rattle.std.proofs.Common.{◌≡◌, ◌∙◌, ℕ, ◌+◌, ◌-◌, ◌<◌, ◌≤◌, List, [], ◌∷◌, ◌++◌, length, map, Option, Some, None, refl, sym, ap, subst, arith, length-append, drop, reverse}
use Rattle.std.specs.Prelude.{slice_set}
use Rattle.oss_syntax.specs.declared.access.Op.{Op}
use Rattle.oss_syntax.specs.declared.access.Range.{Range}
use Rattle.oss_syntax.specs.declared.tree.expr.BinOp.{BinOp}
use Rattle.oss_syntax.specs.declared.tree.expr.Expr.{Expr}
use Rattle.oss_syntax.specs.declared.tree.pragma.Clause.{Clause}
use Rattle.oss_syntax.specs.declared.tree.pragma.Section.{Section}
use Rattle.oss_syntax.specs.declared.tree.program.Item.{Item}
use Rattle.oss_syntax.specs.declared.tree.program.Kind.{Kind}
use Rattle.oss_syntax.specs.declared.tree.program.Kind.TheVariants as kind
use Rattle.oss_syntax.specs.declared.tree.program.Local.{Local}
use Rattle.oss_syntax.specs.declared.tree.program.NumKind.{NumKind}
use Rattle.oss_grammar.specs.Formats.{pieces_of, printed, printed_pieces, written_pieces}
use Rattle.oss_grammar.specs.Values.{kept as kept_number}
use Rattle.oss_grammar.specs.declared.format.Piece.{Piece}
use Rattle.oss_model.specs.Bodies.Ask.{Fold, Print, Read, Release, Tick, Wait, WaitOn, Write}
use Rattle.oss_meaning.specs.declared.clauses.Declared.{Declared}
use Rattle.oss_meaning.specs.declared.names.Target.{Target}
use Rattle.oss_meaning.specs.declared.names.Target.TheVariants as target
use Rattle.oss_meaning.specs.declared.value.Value.{Value}
use Rattle.oss_meaning.specs.declared.value.Value.TheVariants as value
use Rattle.oss_meaning.specs.Clauses.{nothing_made, waited_for}
use Rattle.oss_meaning.specs.Expressions.{Sense, TaskBody, TreeRun, at_cell, call_value, sense_of, unless_fault, value_at}
use Rattle.oss_meaning.specs.Names.{item_found}
use Rattle.oss_meaning.specs.Operators.{is_pointer, is_unsigned_kind, kept_value, operated_by}
use Rattle.oss_meaning.specs.Pointers.{cell_of, extents_of, number_in}
use Rattle.oss_meaning.specs.Runs.{asking}
use Rattle.oss_meaning.specs.Sections.{declared_on}
use Rattle.oss_meaning.specs.Statements.{Around, Body, Does, Meaning, Ways, assigned, assignment, call_done, cell_assigned, cell_changed, declared, first_of, folded_by, local_assigned, nothing_done, print_done, release_done, returned, simple, stored, ticked, wait_done}
use Rattle.oss_code.specs.declared.instr.Instr.TheVariants as i
use Rattle.oss_machine.specs.Steps.{Asks, Effect, effect}
use Rattle.oss_lower_laws.specs.declared.lined.Lined.{Lined}
use Rattle.oss_lower_laws.specs.ExpressionCode.{ExprCode, arguments_code, call_code, expr_code, one, operator_by}
use Rattle.oss_lower_laws.specs.SectionCode.{clauses_code, sections_code}
use Rattle.oss_lower_laws.specs.StatementCode.{Codes, Entries, Spot, StmtCode, assigned_code, assignment_code, behind, call_done_code, cell_assigned_code, cell_changed_code, declared_code, first_code, given_code, local_assigned_code, no_code, no_entries, pieces_in, print_code, release_code, returned_code, simple_code, ticked_code, ticked_entries, wait_code}
use Rattle.oss_lower_laws.proofs.StepLemmas.{Follows, fewer_follow, follow_waits}
use Rattle.oss_lower_laws.proofs.CodeLemmas.{Comes, HasAt, IsAt, Standing, body_at, comes_asking, comes_at, comes_on, comes_touching, fewer, framed, has_back, has_front, kept, plain, step_by}
use Rattle.oss_lower_laws.proofs.ExpressionLemmas.{Agrees, call_ok, expressions_agree, left_is, operator_ok, taken_is}
use Rattle.oss_lower_laws.proofs.SectionLemmas.{clauses_ok, codes_are, pairs, sections_ok, senses_are, values_ok, with_accesses}

-- What stands at the ways out of a statement: behind it; once a tick has gone by, at the pieces to which `break` and `continue` lead; and where
-- a value is given.
pub record Leaves (all : List Item) (n : ℕ) (S : Standing all n None) (stop_at again_at to : ℕ) (result : Kind) (ways : Ways) : Type 0 where
  pub next : (us : List Value) → Comes S to [] (plain us) (ways.next us)
  pub stop : (m : ℕ) → m < n → (us : List Value) → Follows S.code S.places m (body_at S stop_at [] (plain us)) (ways.stop us)
  pub again : (m : ℕ) → m < n → (us : List Value) → Follows S.code S.places m (body_at S again_at [] (plain us)) (ways.again us)
  pub give : (at line : ℕ) (v : Value) (us : List Value) → HasAt S.code at (given_code line result) → Comes S at (v ∷ []) (plain us) (ways.give line v)

-- The bodies of task statements begin here, from this number on.
abbrev pub NumberedAt : (TaskBody → ℕ) → ℕ → List ℕ → Type 0
NumberedAt places tasks [] = Unit {0}
NumberedAt places tasks (e ∷ es) = (places (TaskBody.statement tasks) ≡ e) × NumberedAt places (tasks + 1) es

pub numbered_front : (places : TaskBody → ℕ) (tasks : ℕ) (a b : List ℕ) → NumberedAt places tasks (a ++ b) → NumberedAt places tasks a
numbered_front places tasks [] b h = tt
numbered_front places tasks (e ∷ a) b h = (h.0, numbered_front places (tasks + 1) a b h.1)

pub numbered_back : (places : TaskBody → ℕ) (tasks count : ℕ) (a b : List ℕ) → length a ≡ count → NumberedAt places tasks (a ++ b) → NumberedAt places (tasks + count) b
numbered_back places tasks count [] b long h = let e : tasks ≡ tasks + count = omega (arith, long) in subst (λ t. NumberedAt places t b) e h
numbered_back places tasks count (x ∷ a) b long h =
    let e : tasks + 1 + length a ≡ tasks + count = omega (arith, long) in
    subst (λ t. NumberedAt places t b) e (numbered_back places (tasks + 1) (length a) a b refl h.1)

-- the place in the tree of what stands at a spot
abbrev pub placed : Spot → ℕ → Around
placed spot tasks = record { scope = spot.scope; tasks = tasks }

-- The instructions come to the ways out as the meaning does.
abbrev pub Executes : List Item → Does → Codes → Entries → Type 0
Executes all does code entries = (n : ℕ) (S : Standing all n None) (spot : Spot) (tasks : ℕ) (ways : Ways) (pc to : ℕ) (locals : List Value)
    → HasAt S.code pc (code spot) → to ≡ pc + length (code spot) → NumberedAt S.places tasks (entries spot pc)
    → Leaves all n S (pc - spot.pads.stop) (pc - spot.pads.again) to spot.result ways
    → Comes S pc [] (plain locals) (does (placed spot tasks) S.here ways locals)

-- Bodies of tasks, each of which is done where it begins.
abbrev pub Bodied : (all : List Item) (n : ℕ) → Standing all n None → List Body → List ℕ → Type 0
Bodied all n S [] [] = Unit {0}
Bodied all n S [] (e ∷ es) = ⊥
Bodied all n S (b ∷ bs) [] = ⊥
Bodied all n S (b ∷ bs) (e ∷ es) = ((copies : List Value) → Comes S e [] (plain copies) (b S.here copies)) × Bodied all n S bs es

pub bodied_append : (all : List Item) (n : ℕ) (S : Standing all n None) (bs cs : List Body) (es fs : List ℕ) → Bodied all n S bs es → Bodied all n S cs fs → Bodied all n S (bs ++ cs) (es ++ fs)
bodied_append all n S [] cs [] fs h k = k
bodied_append all n S [] cs (e ∷ es) fs h k = absurd h
bodied_append all n S (b ∷ bs) cs [] fs h k = absurd h
bodied_append all n S (b ∷ bs) cs (e ∷ es) fs h k = (h.0, bodied_append all n S bs cs es fs h.1 k)

-- Where no function waits, the bodies of the task statements in it are done where they begin.
abbrev pub BodiesDo : List Item → (Around → List Body) → Codes → Entries → Type 0
BodiesDo all bodies code entries = (n : ℕ) (S : Standing all n None) (spot : Spot) (tasks pc : ℕ)
    → S.callers ≡ [] → HasAt S.code pc (code spot) → NumberedAt S.places tasks (entries spot pc) → Bodied all n S (bodies (placed spot tasks)) (entries spot pc)

-- A statement's meaning and its instructions.
pub record StmtAgrees (all : List Item) (s : Meaning) (c : StmtCode) : Type 0 where
  pub behind : (around : Around) → s.behind around ≡ record { scope = c.scope around.scope; tasks = around.tasks + c.tasks }
  pub long : (spot : Spot) (at : ℕ) → length (c.entries spot at) ≡ c.tasks
  pub runs : Executes all s.does c.code c.entries
  pub bodies : BodiesDo all s.bodies c.code c.entries

-- no task statement more
pub none_more : (around : Around) (scope : List Local) → ◌≡◌ {A = Around} (record { scope = scope; tasks = around.tasks }) (record { scope = scope; tasks = around.tasks + 0 })
none_more around scope = ap {B = Around} (λ k. record { scope = scope; tasks = k }) (omega arith)

-- the ranges of what is declared of ranges
ranges_are : (d : Declared) (ranges : List Range) → map (λ a. a.range) (declared_on d ranges) ≡ ranges
ranges_are d [] = refl
ranges_are d (r ∷ rest) = ap (λ l. r ∷ l) (ranges_are d rest)

written_is : (o : Option (List Piece)) (vs : List ℕ) → written_pieces (pieces_in o) vs ≡ printed_pieces o vs
written_is None vs = refl
written_is (Some pieces) vs = refl

module _ (all : List Item) where
  -- the ways out for fewer answers, and from further on
  pub later : (m n : ℕ) (le : m ≤ n) (S : Standing all n None) (stop again to : ℕ) (result : Kind) (ways : Ways) → Leaves all n S stop again to result ways → Leaves all m (fewer S m le) stop again to result ways
  later m n le S stop again to result ways l = record {
    next = λ us. fewer_follow S.code S.places m n (body_at S to [] (plain us)) (ways.next us) le (l.next us);
    stop = λ k h. l.stop k (omega (arith, h, le));
    again = λ k h. l.again k (omega (arith, h, le));
    give = λ at line v us has. fewer_follow S.code S.places m n (body_at S at (v ∷ []) (plain us)) (ways.give line v) le (l.give at line v us has);
  }

  pub from_there : (n : ℕ) (S : Standing all n None) (a b c d to : ℕ) (result : Kind) (ways : Ways) → a ≡ c → b ≡ d → Leaves all n S a b to result ways → Leaves all n S c d to result ways
  from_there n S a b c d to result ways e f l = subst (λ x. Leaves all n S x d to result ways) e (subst (λ x. Leaves all n S a x to result ways) f l)

  -- Simple statements

  pub ticked_ok : (line : ℕ) (does : Does) (code : Codes) (entries : Entries) → Executes all does code entries → Executes all (ticked line does) (ticked_code line code) (ticked_entries entries)
  ticked_ok line does code entries ok n S spot tasks ways pc to locals has t num l =
      comes_asking S pc (pc + 1) [] (λ v. []) (plain locals) (plain locals) _ Tick (λ u. does (placed spot tasks) S.here ways locals) has.0 refl refl
      (λ u. ok n S (behind 1 spot) tasks ways (pc + 1) to locals has.1 (omega (arith, t)) num
      (from_there n S (pc - spot.pads.stop) (pc - spot.pads.again) _ _ to spot.result ways (omega arith) (omega arith) l))

  pub ticked_bodies : (line : ℕ) (bodies : Around → List Body) (code : Codes) (entries : Entries) → BodiesDo all bodies code entries → BodiesDo all bodies (ticked_code line code) (ticked_entries entries)
  ticked_bodies line bodies code entries ok n S spot tasks pc none has num = ok n S (behind 1 spot) tasks (pc + 1) none has.1 num

  pub simple_ok : (line : ℕ) (does : Does) (code : Codes) → Executes all does code no_entries → StmtAgrees all (simple line does) (simple_code line code)
  simple_ok line does code ok = record {
    behind = λ around. none_more around around.scope;
    long = λ spot at. refl;
    runs = ticked_ok line does code no_entries ok;
    bodies = λ n S spot tasks pc none has num. tt;
  }

  pub nothing_ok : Executes all nothing_done no_code no_entries
  nothing_ok n S spot tasks ways pc to locals has t num l = comes_at S pc to [] (plain locals) (ways.next locals) (omega (arith, t)) (l.next locals)

  -- Declarations

  first_ok : (scope : List Local) (k : Kind) (o : Option Expr) (n : ℕ) (S : Standing all n None) (pc to line : ℕ) (locals : List Value) (go : Value → TreeRun)
      → HasAt S.code pc (first_code all scope k o line) → to ≡ pc + length (first_code all scope k o line)
      → ((v : Value) → Comes S to (v ∷ []) (plain locals) (go v)) → Comes S pc [] (plain locals) (first_of all scope k o line S.here locals go)
  first_ok scope (kind.Pointer m) None n S pc to line locals go has t comes = comes_on S pc 0 to [] (value.Nowhere ∷ []) (plain locals) (plain locals) _ (go value.Nowhere) has.0 refl (omega (arith, t)) (comes value.Nowhere)
  first_ok scope (kind.Num m) None n S pc to line locals go has t comes = comes_on S pc 0 to [] (value.Num 0 ∷ []) (plain locals) (plain locals) _ (go (value.Num 0)) has.0 refl (omega (arith, t)) (comes (value.Num 0))
  first_ok scope kind.Nothing None n S pc to line locals go has t comes = comes_on S pc 0 to [] (value.Num 0 ∷ []) (plain locals) (plain locals) _ (go (value.Num 0)) has.0 refl (omega (arith, t)) (comes (value.Num 0))
  first_ok scope k (Some e) n S pc to line locals go has t comes = (expressions_agree all scope e).value n None S pc to line 0 [] (plain locals) go has t comes

  declared_ok : (line : ℕ) (ls scope : List Local) (n : ℕ) (S : Standing all n None) (pc to : ℕ) (locals : List Value) (go : List Value → TreeRun)
      → HasAt S.code pc (declared_code all line ls scope) → to ≡ pc + length (declared_code all line ls scope)
      → ((us : List Value) → Comes S to [] (plain us) (go us)) → Comes S pc [] (plain locals) (declared all line ls scope S.here locals go)
  declared_ok line [] scope n S pc to locals go has t comes = comes_at S pc to [] (plain locals) (go locals) (omega (arith, t)) (comes locals)
  declared_ok line (d ∷ ds) scope n S pc to locals go has t comes =
      first_ok scope d.kind d.first n S pc p1 line locals _ (has_front S.code pc first rest has) refl
      (λ v. comes_on S p1 0 (p1 + 1) (v ∷ []) [] (plain locals) (plain (locals ++ kept_value d.kind v ∷ [])) _ _ back.0 refl (omega arith)
      (declared_ok line ds (scope ++ d ∷ []) n S (p1 + 1) to (locals ++ kept_value d.kind v ∷ []) go back.1 (omega (arith, t, length-append first rest)) comes))
    where
      first : List Lined
      first = first_code all scope d.kind d.first line

      rest : List Lined
      rest = one line 1 (i.Bind d.kind) ++ declared_code all line ds (scope ++ d ∷ [])

      p1 : ℕ
      p1 = pc + length first

      back : HasAt S.code p1 rest
      back = has_back S.code pc first rest has

  pub declare_ok : (line : ℕ) (ls : List Local) → Executes all (λ around here ways locals. declared all line ls around.scope here locals ways.next) (λ spot. declared_code all line ls spot.scope) no_entries
  declare_ok line ls n S spot tasks ways pc to locals has t num l = declared_ok line ls spot.scope n S pc to locals ways.next has t l.next

  -- Assignments

  -- a store
  store_ok : (n : ℕ) (S : Standing all n None) (pc to line : ℕ) (k : NumKind) (p v : Value) (locals : List Value) (go : TreeRun)
      → IsAt S.code pc (record { what = i.Store k; line = line; depth = 2 }) → to ≡ pc + 1
      → Comes S to [] (plain locals) go → Comes S pc (v ∷ p ∷ []) (plain locals) (stored (extents_of all) line k p v go)
  store_ok n S pc to line k p v locals go e t comes =
      comes_touching S pc to p (v ∷ p ∷ []) (λ u. []) (plain locals) _ (λ c. Write c (kept_number k (number_in v))) (λ u. go) e refl t (λ u. comes)

  -- a fold
  fold_ok : (n : ℕ) (S : Standing all n None) (pc to line : ℕ) (o : Op) (p v : Value) (locals : List Value) (go : TreeRun)
      → IsAt S.code pc (record { what = i.Fold o; line = line; depth = 2 }) → to ≡ pc + 1
      → Comes S to [] (plain locals) go → Comes S pc (v ∷ p ∷ []) (plain locals) (at_cell (cell_of (extents_of all) p) line (λ c. asking (Fold c o (number_in v)) line (λ u. go)))
  fold_ok n S pc to line o p v locals go e t comes =
      comes_touching S pc to p (v ∷ p ∷ []) (λ u. []) (plain locals) _ (λ c. Fold c o (number_in v)) (λ u. go) e refl t (λ u. comes)

  module _ (line : ℕ) (t e : Sense) (ct ce : ExprCode) (okt : Agrees all t ct) (oke : Agrees all e ce) where
    -- an operator of two expressions
    by_ok : (o : BinOp) (n : ℕ) (S : Standing all n None) (pc to depth : ℕ) (v w : Value) (stack locals : List Value) (go : Value → TreeRun)
        → IsAt S.code pc (record { what = operator_by o ct.typed.kind ce.typed.kind; line = line; depth = depth }) → to ≡ pc + 1
        → ((x : Value) → Comes S to (x ∷ stack) (plain locals) (go x)) → Comes S pc (w ∷ v ∷ stack) (plain locals) (unless_fault (operated_by o t.typed.kind e.typed.kind v w) line go)
    by_ok o n S pc to depth v w stack locals go h to_is comes =
        rw (okt.typed, oke.typed)
        (operator_ok all (is_pointer ct.typed.kind) (is_unsigned_kind ct.typed.kind) (is_unsigned_kind ce.typed.kind) o n None S pc to line depth v w stack (plain locals) go h to_is comes)

    local_ok : (o : Option BinOp) (slot : ℕ) (k : Kind) (n : ℕ) (S : Standing all n None) (pc to : ℕ) (locals : List Value) (go : List Value → TreeRun)
        → HasAt S.code pc (local_assigned_code line ct o ce slot k) → to ≡ pc + length (local_assigned_code line ct o ce slot k)
        → ((us : List Value) → Comes S to [] (plain us) (go us)) → Comes S pc [] (plain locals) (local_assigned line t o e slot k S.here locals go)
    local_ok None slot k n S pc to locals go has to_is comes =
        let code = ce.value line 0 in
        let last = one line 1 (i.SetLocal slot k) in
        oke.value n None S pc (pc + length code) line 0 [] (plain locals) _ (has_front S.code pc code last has) refl
        (λ v. comes_on S (pc + length code) 0 to (v ∷ []) [] (plain locals) (plain (slice_set locals slot (kept_value k v))) _ _ (has_back S.code pc code last has).0 refl
        (omega (arith, to_is, length-append code last)) (comes (slice_set locals slot (kept_value k v))))
    local_ok (Some o) slot k n S pc to locals go has to_is comes =
        comes_on S pc 0 (pc + 1) [] (value_at locals slot ∷ []) (plain locals) (plain locals) _ _ has.0 refl (omega arith)
        (oke.value n None S (pc + 1) p2 line 1 (value_at locals slot ∷ []) (plain locals) _ (has_front S.code (pc + 1) code last has.1) refl
        (λ w. by_ok o n S p2 (p2 + 1) 2 (value_at locals slot) w [] locals _ back.0 refl
        (λ v. comes_on S (p2 + 1) 0 to (v ∷ []) [] (plain locals) (plain (slice_set locals slot (kept_value k v))) _ _ back.1.0 refl long (comes (slice_set locals slot (kept_value k v))))))
      where
        code : List Lined
        code = ce.value line 1

        last : List Lined
        last = one line 2 (operator_by o ct.typed.kind ce.typed.kind) ++ one line 1 (i.SetLocal slot k)

        p2 : ℕ
        p2 = pc + 1 + length code

        back : HasAt S.code p2 last
        back = has_back S.code (pc + 1) code last has.1

        long : to ≡ p2 + 1 + 1 + 0
        long = omega (arith, to_is, length-append code last)

    changed_ok : (f : Option Op) (o : BinOp) (k : NumKind) (n : ℕ) (S : Standing all n None) (pc to : ℕ) (p v : Value) (locals : List Value) (go : TreeRun)
        → HasAt S.code pc (cell_changed_code line f ct o ce k) → to ≡ pc + length (cell_changed_code line f ct o ce k)
        → Comes S to [] (plain locals) go → Comes S pc (v ∷ p ∷ []) (plain locals) (cell_changed (extents_of all) line f t.typed o e.typed k p v go)
    changed_ok (Some f) o k n S pc to p v locals go has to_is comes = fold_ok n S pc to line f p v locals go has.0 (omega (arith, to_is)) comes
    changed_ok None o k n S pc to p v locals go has to_is comes =
        comes_on S pc 0 (pc + 1) (v ∷ p ∷ []) (p ∷ v ∷ p ∷ []) (plain locals) (plain locals) _ _ has.0 refl (omega arith)
        (comes_touching S (pc + 1) (pc + 1 + 1) p (p ∷ v ∷ p ∷ []) (λ w. value.Num w ∷ v ∷ p ∷ []) (plain locals) _ (λ c. Read c) _ has.1.0 refl refl
        (λ w. comes_on S (pc + 1 + 1) 0 (pc + 1 + 1 + 1) (value.Num w ∷ v ∷ p ∷ []) (v ∷ value.Num w ∷ p ∷ []) (plain locals) (plain locals) _ _ has.1.1.0 refl (omega arith)
        (by_ok o n S (pc + 1 + 1 + 1) (pc + 1 + 1 + 1 + 1) 3 (value.Num w) v (p ∷ []) locals _ has.1.1.1.0 refl
        (λ x. store_ok n S (pc + 1 + 1 + 1 + 1) to line k p x locals go has.1.1.1.1.0 (omega (arith, to_is)) comes))))

    cell_ok : (o : Option BinOp) (k : NumKind) (n : ℕ) (S : Standing all n None) (pc to : ℕ) (locals : List Value) (go : TreeRun)
        → HasAt S.code pc (cell_assigned_code line ct o ce k) → to ≡ pc + length (cell_assigned_code line ct o ce k)
        → Comes S to [] (plain locals) go → Comes S pc [] (plain locals) (cell_assigned (extents_of all) line t o e k S.here locals go)
    cell_ok o k n S pc to locals go has to_is comes = parts o has to_is
      where
        place : List Lined
        place = ct.place line 0

        code : List Lined
        code = ce.value line 1

        p1 : ℕ
        p1 = pc + length place

        p2 : ℕ
        p2 = p1 + length code

        parts : (o : Option BinOp) → HasAt S.code pc (cell_assigned_code line ct o ce k) → to ≡ pc + length (cell_assigned_code line ct o ce k)
            → Comes S pc [] (plain locals) (cell_assigned (extents_of all) line t o e k S.here locals go)
        parts None has to_is =
            let last = one line 2 (i.Store k) in
            let back = has_back S.code pc place (code ++ last) has in
            okt.place n None S pc p1 line 0 [] (plain locals) _ (has_front S.code pc place (code ++ last) has) refl
            (λ p. oke.value n None S p1 p2 line 1 (p ∷ []) (plain locals) _ (has_front S.code p1 code last back) refl
            (λ v. store_ok n S p2 to line k p v locals go (has_back S.code p1 code last back).0 (omega (arith, to_is, length-append place (code ++ last), length-append code last)) comes))
        parts (Some o) has to_is =
            let change = cell_changed_code line (folded_by k o) ct o ce k in
            let back = has_back S.code pc place (code ++ change) has in
            okt.place n None S pc p1 line 0 [] (plain locals) _ (has_front S.code pc place (code ++ change) has) refl
            (λ p. oke.value n None S p1 p2 line 1 (p ∷ []) (plain locals) _ (has_front S.code p1 code change back) refl
            (λ v. changed_ok (folded_by k o) o k n S p2 to p v locals go (has_back S.code p1 code change back) (omega (arith, to_is, length-append place (code ++ change), length-append code change)) comes))

    assigned_ok : (g : Target) (o : Option BinOp) (n : ℕ) (S : Standing all n None) (pc to : ℕ) (locals : List Value) (go : List Value → TreeRun)
        → HasAt S.code pc (assigned_code line g ct o ce) → to ≡ pc + length (assigned_code line g ct o ce)
        → ((us : List Value) → Comes S to [] (plain us) (go us)) → Comes S pc [] (plain locals) (assigned (extents_of all) line g t o e S.here locals go)
    assigned_ok (target.Local slot k) o n S pc to locals go has to_is comes = local_ok o slot k n S pc to locals go has to_is comes
    assigned_ok (target.Cell k) o n S pc to locals go has to_is comes = cell_ok o k n S pc to locals (go locals) has to_is (comes locals)
    assigned_ok target.Nothing o n S pc to locals go has to_is comes = comes_at S pc to [] (plain locals) (go locals) (omega (arith, to_is)) (comes locals)
    assigned_ok (target.Grid g k) o n S pc to locals go has to_is comes = comes_at S pc to [] (plain locals) (go locals) (omega (arith, to_is)) (comes locals)
    assigned_ok (target.Row g k) o n S pc to locals go has to_is comes = comes_at S pc to [] (plain locals) (go locals) (omega (arith, to_is)) (comes locals)

  pub assignment_ok : (line : ℕ) (t : Expr) (o : Option BinOp) (e : Expr) → Executes all (assignment all line t o e) (assignment_code all line t o e) no_entries
  assignment_ok line t o e n S spot tasks ways pc to locals has to_is num l =
      let okt = expressions_agree all spot.scope t in
      subst (λ g. Comes S pc [] (plain locals) (assigned (extents_of all) line g (sense_of all spot.scope t) o (sense_of all spot.scope e) S.here locals ways.next)) (ap (λ x. x.target) (sym okt.typed))
      (assigned_ok line (sense_of all spot.scope t) (sense_of all spot.scope e) (expr_code all spot.scope t) (expr_code all spot.scope e) okt (expressions_agree all spot.scope e)
      (expr_code all spot.scope t).typed.target o n S pc to locals ways.next has to_is l.next)

  -- Calls, prints and returns

  pub call_done_ok : (line : ℕ) (name : List ℕ) (es : List Expr) → Executes all (call_done all line name es) (call_done_code all line name es) no_entries
  call_done_ok line name es n S spot tasks ways pc to locals has t num l =
      subst (λ ss. Comes S pc [] (plain locals) (call_value all (item_found all name) ss line S.here locals (λ v. ways.next locals))) (senses_are all spot.scope es)
      (call_ok all (item_found all name) (pairs all spot.scope es) n None S pc (pc + length calls) line 0 [] (plain locals) _ (has_front S.code pc calls last here_is) refl
      (λ v. comes_on S (pc + length calls) 0 to (v ∷ []) [] (plain locals) (plain locals) _ _ (has_back S.code pc calls last here_is).0 refl (omega (arith, long, length-append calls last)) (l.next locals)))
    where
      calls : List Lined
      calls = call_code all (item_found all name) (map (λ p. p.right) (pairs all spot.scope es)) line 0

      last : List Lined
      last = one line 1 i.Drop

      here_is : HasAt S.code pc (calls ++ last)
      here_is = subst (λ c. HasAt S.code pc (call_code all (item_found all name) c line 0 ++ last)) (sym (codes_are all spot.scope es)) has

      long : to ≡ pc + length (calls ++ last)
      long = t ∙ ap (λ c. pc + length (call_code all (item_found all name) c line 0 ++ last)) (sym (codes_are all spot.scope es))

  pub print_ok : (line : ℕ) (format : List ℕ) (es : List Expr) → Executes all (print_done all line format es) (print_code all line format es) no_entries
  print_ok line format es n S spot tasks ways pc to locals has t num l =
      values_ok all spot.scope es n None S pc p1 line (plain locals) _ (has_front S.code pc args last has) refl
      (λ vs h. comes_asking S p1 to (vs ++ []) (λ u. []) (plain locals) (plain locals) _ (Print (printed format (map number_in (reverse vs)))) (λ u. ways.next locals)
      (has_back S.code pc args last has).0 (effect_is vs h) (omega (arith, t, length-append args last)) (λ u. l.next locals))
    where
      args : List Lined
      args = arguments_code (map (expr_code all spot.scope) es) line 0

      last : List Lined
      last = one line (length es) (i.Print (pieces_in (pieces_of format)) (length es))

      p1 : ℕ
      p1 = pc + length args

      prints : List Value → List ℕ → Effect
      prints rest text = Asks (Print text) (λ u. framed None (p1 + 1 + 0) rest (plain locals))

      effect_is : (vs : List Value) → length vs ≡ length es
          → effect S.code (framed None p1 (vs ++ []) (plain locals)) (i.Print (pieces_in (pieces_of format)) (length es)) ≡ prints [] (printed format (map number_in (reverse vs)))
      effect_is vs h =
          ap (λ x. prints (drop (length es) (vs ++ [])) (written_pieces (pieces_in (pieces_of format)) (map number_in (reverse x)))) (taken_is all vs [] (length es) h)
          ∙ ap (λ x. prints x (written_pieces (pieces_in (pieces_of format)) (map number_in (reverse vs)))) (left_is all vs [] (length es) h)
          ∙ ap (λ x. prints [] x) (written_is (pieces_of format) (map number_in (reverse vs)))

  pub returned_ok : (line : ℕ) (o : Option Expr) → Executes all (returned all line o) (returned_code all line o) no_entries
  returned_ok line None n S spot tasks ways pc to locals has t num l =
      comes_on S pc 0 (pc + 1) [] (value.Num 0 ∷ []) (plain locals) (plain locals) _ _ has.0 refl (omega arith) (l.give (pc + 1) line (value.Num 0) locals has.1)
  returned_ok line (Some e) n S spot tasks ways pc to locals has t num l =
      let code = (expr_code all spot.scope e).value line 0 in
      let last = given_code line spot.result in
      (expressions_agree all spot.scope e).value n None S pc (pc + length code) line 0 [] (plain locals) _ (has_front S.code pc code last has) refl
      (λ v. l.give (pc + length code) line v locals (has_back S.code pc code last has))

  -- Directives without a body

  pub wait_ok : (line : ℕ) (o : Option (List Section)) → Executes all (wait_done all line o) (wait_code all line o) no_entries
  wait_ok line None n S spot tasks ways pc to locals has t num l =
      comes_asking S pc to [] (λ u. []) (plain locals) (plain locals) _ Wait (λ u. ways.next locals) has.0 refl (omega (arith, t)) (λ u. l.next locals)
  wait_ok line (Some sections) n S spot tasks ways pc to locals has t num l =
      let code = sections_code all spot.scope waited_for sections line in
      let last = one line 0 i.WaitOn in
      sections_ok all spot.scope waited_for sections n None S pc (pc + length code) line locals nothing_made _ (has_front S.code pc code last has) refl
      (λ ranges. comes_asking S (pc + length code) to [] (λ u. []) (kept locals (with_accesses all (declared_on waited_for ranges) nothing_made)) (plain locals) _ (WaitOn (declared_on waited_for ranges)) (λ u. ways.next locals)
      (has_back S.code pc code last has).0 (ap (λ r. Asks (WaitOn (declared_on waited_for r)) (λ u. framed None (pc + length code + 1 + 0) [] (plain locals))) (ranges_are waited_for ranges))
      (omega (arith, t, length-append code last)) (λ u. l.next locals))

  pub release_ok : (line : ℕ) (cs : List Clause) → Executes all (release_done all line cs) (release_code all line cs) no_entries
  release_ok line cs n S spot tasks ways pc to locals has t num l =
      let code = clauses_code all spot.scope cs line in
      let last = one line 0 i.Release in
      clauses_ok all spot.scope cs n None S pc (pc + length code) line locals nothing_made _ (has_front S.code pc code last has) refl
      (λ m. comes_asking S (pc + length code) to [] (λ u. []) (kept locals m) (plain locals) _ (Release m.accesses) (λ u. ways.next locals)
      (has_back S.code pc code last has).0 refl (omega (arith, t, length-append code last)) (λ u. l.next locals))

  -- Jumps

  -- a tick that leads back to the piece before the body of a loop
  pub break_ok : (line : ℕ) → Executes all (ticked line (λ around here ways locals. ways.stop locals)) (λ spot. one line 0 (i.Again spot.pads.stop)) no_entries
  break_ok line n S spot tasks ways pc to locals has t num l =
      follow_waits S.code S.places n (body_at S pc [] (plain locals)) Tick line (λ u. ways.stop locals) (λ u. body_at S (pc - spot.pads.stop) [] (plain locals))
      (step_by S pc [] (plain locals) _ _ has.0 refl) (λ m v h. l.stop m h locals)

  pub continue_ok : (line : ℕ) → Executes all (ticked line (λ around here ways locals. ways.again locals)) (λ spot. one line 0 (i.Again spot.pads.again)) no_entries
  continue_ok line n S spot tasks ways pc to locals has t num l =
      follow_waits S.code S.places n (body_at S pc [] (plain locals)) Tick line (λ u. ways.again locals) (λ u. body_at S (pc - spot.pads.again) [] (plain locals))
      (step_by S pc [] (plain locals) _ _ has.0 refl) (λ m v h. l.again m h locals)
