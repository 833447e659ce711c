-- Statements without others in them go on calmly; a release does if its clauses are dependencies.
use Rattle.std.proofs.Common.{◌≡◌, ℕ, true, List, [], ◌∷◌, ◌++◌, map, reverse, Option, Some, None}
use Rattle.std.specs.Prelude.{slice_set}
use Rattle.oss_syntax.specs.declared.access.Op.{Op}
use Rattle.oss_syntax.specs.declared.tree.expr.BinOp.{BinOp}
use Rattle.oss_syntax.specs.declared.tree.expr.Expr.{Expr}
use Rattle.oss_syntax.specs.declared.tree.pragma.Clause.{Clause}
use Rattle.oss_syntax.specs.declared.tree.pragma.Section.{Section}
use Rattle.oss_syntax.specs.declared.tree.program.Item.{Item}
use Rattle.oss_syntax.specs.declared.tree.program.Kind.{Kind}
use Rattle.oss_syntax.specs.declared.tree.program.Local.{Local}
use Rattle.oss_syntax.specs.declared.tree.program.NumKind.{NumKind}
use Rattle.oss_grammar.specs.Formats.{printed}
use Rattle.oss_grammar.specs.Values.{kept}
use Rattle.oss_model.specs.Bodies.Ask.{Fold, Print, Tick, Wait, WaitOn, Write}
use Rattle.oss_meaning.specs.declared.names.Target.{Target}
use Rattle.oss_meaning.specs.declared.names.Target.TheVariants as target
use Rattle.oss_meaning.specs.declared.names.Typed.{Typed}
use Rattle.oss_meaning.specs.declared.value.Value.{Value}
use Rattle.oss_meaning.specs.declared.value.Value.TheVariants as value
use Rattle.oss_meaning.specs.Clauses.{nothing_made, waited_for}
use Rattle.oss_meaning.specs.Expressions.{Here, Sense, TreeRun, sense_of, value_at}
use Rattle.oss_meaning.specs.Names.{item_found}
use Rattle.oss_meaning.specs.Operators.{first_value, kept_value, operated_by}
use Rattle.oss_meaning.specs.Pointers.{Extent, cell_of, extents_of, number_in}
use Rattle.oss_meaning.specs.Statements.{assigned, assignment, call_done, cell_assigned, cell_changed, declare, declared, first_of, folded_by, local_assigned, print_done, release_done, returned, stored, wait_done}
use Rattle.oss_missing_program_laws.specs.Asks.{are_dependencies}
use Rattle.oss_missing_program_laws.proofs.CalmRuns.{Calm, asking_calm, cell_calm, loaded_calm, release_calm, unless_calm}
use Rattle.oss_missing_program_laws.proofs.CalmRuns.Level.{outside}
use Rattle.oss_missing_program_laws.proofs.CalmExpressions.{HereCalm, SteadySense, all_steady, arguments_calm, call_steady, steady_sense}
use Rattle.oss_missing_program_laws.proofs.CalmClauses.{clauses_calm, sections_calm, value_calm}
use Rattle.oss_missing_program_laws.proofs.CalmMeanings.{DoCalm, Onward, Steady}

module _ (W : Type 0) where
  -- Assignments

  stored_calm : (globals : List Extent) (line : ℕ) (n : NumKind) (p v : Value) (go on more : TreeRun) → Calm W outside go on more
      → Calm W outside (stored globals line n p v go) (stored globals line n p v on) (stored globals line n p v more)
  stored_calm globals line n p v go on more ok =
      cell_calm W outside (cell_of globals p) line _ _ _ (λ c. asking_calm W outside (Write c (kept n (number_in v))) line _ _ _ tt (λ t. ok))

  changed_calm : (globals : List Extent) (line : ℕ) (f : Option Op) (t : Typed) (o : BinOp) (e : Typed) (n : NumKind) (p v : Value) (go on more : TreeRun) → Calm W outside go on more
      → Calm W outside (cell_changed globals line f t o e n p v go) (cell_changed globals line f t o e n p v on) (cell_changed globals line f t o e n p v more)
  changed_calm globals line (Some f) t o e n p v go on more ok =
      cell_calm W outside (cell_of globals p) line _ _ _ (λ c. asking_calm W outside (Fold c f (number_in v)) line _ _ _ tt (λ u. ok))
  changed_calm globals line None t o e n p v go on more ok =
      loaded_calm W outside globals line p _ _ _ (λ w. unless_calm W outside (operated_by o t.kind e.kind w v) line _ _ _ (λ u. stored_calm globals line n p u go on more ok))

  module _ (globals : List Extent) (line : ℕ) (t e : Sense) (left : SteadySense W outside t) (right : SteadySense W outside e) (x y z : Here) (h : HereCalm W outside x y z) (locals : List Value) where
    cell_set_calm : (o : Option BinOp) (n : NumKind) (go on more : TreeRun) → Calm W outside go on more
        → Calm W outside (cell_assigned globals line t o e n x locals go) (cell_assigned globals line t o e n y locals on) (cell_assigned globals line t o e n z locals more)
    cell_set_calm None n go on more ok = left.place line x y z h locals _ _ _ (λ p. right.value line x y z h locals _ _ _ (λ v. stored_calm globals line n p v go on more ok))
    cell_set_calm (Some o) n go on more ok =
        left.place line x y z h locals _ _ _ (λ p. right.value line x y z h locals _ _ _ (λ v. changed_calm globals line (folded_by n o) t.typed o e.typed n p v go on more ok))

    local_set_calm : (o : Option BinOp) (slot : ℕ) (k : Kind) (go on more : List Value → TreeRun) → Onward W go on more
        → Calm W outside (local_assigned line t o e slot k x locals go) (local_assigned line t o e slot k y locals on) (local_assigned line t o e slot k z locals more)
    local_set_calm None slot k go on more ok = right.value line x y z h locals _ _ _ (λ v. ok (slice_set locals slot (kept_value k v)))
    local_set_calm (Some o) slot k go on more ok = right.value line x y z h locals _ _ _ (λ w.
        unless_calm W outside (operated_by o t.typed.kind e.typed.kind (value_at locals slot) w) line _ _ _ (λ v. ok (slice_set locals slot (kept_value k v))))

    assigned_calm : (o : Option BinOp) (what : Target) (go on more : List Value → TreeRun) → Onward W go on more
        → Calm W outside (assigned globals line what t o e x locals go) (assigned globals line what t o e y locals on) (assigned globals line what t o e z locals more)
    assigned_calm o (target.Local slot k) go on more ok = local_set_calm o slot k go on more ok
    assigned_calm o (target.Cell n) go on more ok = cell_set_calm o n (go locals) (on locals) (more locals) (ok locals)
    assigned_calm o target.Nothing go on more ok = ok locals
    assigned_calm o (target.Grid g n) go on more ok = ok locals
    assigned_calm o (target.Row g n) go on more ok = ok locals

  module _ (all : List Item) (line : ℕ) where
    pub assignment_calm : (t : Expr) (o : Option BinOp) (e : Expr) → DoCalm W (assignment all line t o e)
    assignment_calm t o e around x y z h a b c ways locals =
        assigned_calm (extents_of all) line (sense_of all around.scope t) (sense_of all around.scope e) (steady_sense W outside all around.scope t) (steady_sense W outside all around.scope e) x y z h.outer locals o
        (sense_of all around.scope t).typed.target a.next b.next c.next ways.next

    -- Calls, prints and returns

    pub call_calm : (name : List ℕ) (es : List Expr) → DoCalm W (call_done all line name es)
    call_calm name es around x y z h a b c ways locals =
        call_steady W outside all (item_found all name) (map (sense_of all around.scope) es) (all_steady W outside all around.scope es) line x y z h.outer locals _ _ _ (λ v. ways.next locals)

    pub print_calm : (format : List ℕ) (es : List Expr) → DoCalm W (print_done all line format es)
    print_calm format es around x y z h a b c ways locals =
        arguments_calm W outside (map (sense_of all around.scope) es) (all_steady W outside all around.scope es) line x y z h.outer locals [] _ _ _
        (λ made. asking_calm W outside (Print (printed format (map number_in (reverse made)))) line _ _ _ tt (λ t. ways.next locals))

    pub return_calm : (e : Option Expr) → DoCalm W (returned all line e)
    return_calm None around x y z h a b c ways locals = ways.give line (value.Num 0)
    return_calm (Some e) around x y z h a b c ways locals = value_calm W outside all around.scope e line x y z h.outer locals _ _ _ (λ v. ways.give line v)

    -- Waits and releases

    pub wait_calm : (sections : Option (List Section)) → DoCalm W (wait_done all line sections)
    wait_calm None around x y z h a b c ways locals = asking_calm W outside Wait line _ _ _ tt (λ t. ways.next locals)
    wait_calm (Some sections) around x y z h a b c ways locals =
        sections_calm W outside all line x y z h.outer around.scope locals waited_for sections [] _ _ _ (λ named grows. asking_calm W outside (WaitOn named) line _ _ _ tt (λ t. ways.next locals))

    pub releases_calm : (clauses : List Clause) → (W → are_dependencies clauses ≡ true) → DoCalm W (release_done all line clauses)
    releases_calm clauses fine around x y z h a b c ways locals =
        clauses_calm W outside all line x y z h.outer around.scope locals clauses nothing_made _ _ _ (λ made grows. release_calm W line made.accesses _ _ _ (λ w. grows (fine w) tt) (λ t. ways.next locals))

    -- Declarations

    first_calm : (scope : List Local) (k : Kind) (o : Option Expr) (x y z : Here) → HereCalm W outside x y z → (locals : List Value) (go on more : Value → TreeRun)
        → ((v : Value) → Calm W outside (go v) (on v) (more v))
        → Calm W outside (first_of all scope k o line x locals go) (first_of all scope k o line y locals on) (first_of all scope k o line z locals more)
    first_calm scope k None x y z h locals go on more ok = ok (first_value k)
    first_calm scope k (Some e) x y z h locals go on more ok = value_calm W outside all scope e line x y z h locals go on more ok

    declared_calm : (ls scope : List Local) (x y z : Here) → HereCalm W outside x y z → (locals : List Value) (go on more : List Value → TreeRun) → Onward W go on more
        → Calm W outside (declared all line ls scope x locals go) (declared all line ls scope y locals on) (declared all line ls scope z locals more)
    declared_calm [] scope x y z h locals go on more ok = ok locals
    declared_calm (l ∷ rest) scope x y z h locals go on more ok =
        first_calm scope l.kind l.first x y z h locals _ _ _ (λ v. declared_calm rest (scope ++ l ∷ []) x y z h (locals ++ kept_value l.kind v ∷ []) go on more ok)

    pub declare_steady : (ls : List Local) → Steady W (declare all line ls)
    declare_steady ls = record {
      does = λ around x y z h a b c ways locals. asking_calm W outside Tick line _ _ _ tt (λ t. declared_calm ls around.scope x y z h.outer locals a.next b.next c.next ways.next);
      bodies = λ around. tt;
    }
