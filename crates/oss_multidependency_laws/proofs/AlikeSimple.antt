-- Statements without others in them do alike, with the multidependencies of waits and releases unrolled.
use Rattle.std.proofs.Common.{◌≡◌, ◌∙◌, ℕ, ◌+◌, Bool, true, false, List, [], ◌∷◌, ◌++◌, length, map, reverse, Option, Some, None, option_map, refl, sym, ap, subst, arith, length-append}
use Rattle.std.specs.Prelude.{◌&&◌, slice_set}
use Rattle.std.proofs.lemmas.List.{length-map, length-set}
use Rattle.oss_syntax.specs.declared.access.Op.{Op}
use Rattle.oss_syntax.specs.declared.tree.expr.BinOp.{BinOp}
use Rattle.oss_syntax.specs.declared.tree.expr.Expr.{Expr}
use Rattle.oss_syntax.specs.declared.tree.pragma.Clause.{Clause}
use Rattle.oss_syntax.specs.declared.tree.pragma.Section.{Section}
use Rattle.oss_syntax.specs.declared.tree.program.Item.{Item}
use Rattle.oss_syntax.specs.declared.tree.program.Kind.{Kind}
use Rattle.oss_syntax.specs.declared.tree.program.Local.{Local}
use Rattle.oss_syntax.specs.declared.tree.program.NumKind.{NumKind}
use Rattle.oss_grammar.specs.Formats.{printed}
use Rattle.oss_grammar.specs.Values.{kept}
use Rattle.oss_model.specs.Bodies.{Ask}
use Rattle.oss_model.specs.Bodies.Ask.{Fold, Print, Release, Tick, Wait, WaitOn, Write}
use Rattle.oss_meaning.specs.declared.names.Target.{Target}
use Rattle.oss_meaning.specs.declared.names.Target.TheVariants as target
use Rattle.oss_meaning.specs.declared.names.Typed.{Typed}
use Rattle.oss_meaning.specs.declared.value.Value.{Value}
use Rattle.oss_meaning.specs.declared.value.Value.TheVariants as value
use Rattle.oss_meaning.specs.Clauses.{nothing_made, waited_for}
use Rattle.oss_meaning.specs.Expressions.{Evaluation, Here, Sense, TreeRun, TreeScript, call_value, sense_of, unless_fault, value_at}
use Rattle.oss_meaning.specs.Names.{item_found}
use Rattle.oss_meaning.specs.Operators.{first_value, kept_value, operated_by}
use Rattle.oss_meaning.specs.Pointers.{Extent, cell_of, extents_of, number_in}
use Rattle.oss_meaning.specs.Statements.{Around, assigned, assignment, call_done, cell_assigned, cell_changed, declare, declared, first_of, folded_by, local_assigned, print_done, release_done, returned, stored, wait_done}
use Rattle.oss_meaning.specs.Runs.{asking}
use Rattle.oss_multidependency_laws.specs.Fitting.{all_fit, clauses_fit, fits, locals_fit, optional_fits, takes, waits_fit}
use Rattle.oss_multidependency_laws.specs.Unrolling.{items_unrolled, unrolled_clauses, unrolled_sections}
use Rattle.oss_multidependency_laws.proofs.AlikeRuns.{asking_like, cell_like, loaded_like, unless_like}
use Rattle.oss_multidependency_laws.proofs.AlikeExpressions.{EvenSense, all_even, and_left, and_right, call_even, even_sense}
use Rattle.oss_multidependency_laws.proofs.AlikeClauses.{arguments_like, clauses_like, sections_like, value_like}
use Rattle.oss_multidependency_laws.proofs.AlikeMeanings.{Alike, DoLike, IsScript, Places, Runs}
use Rattle.oss_multidependency_laws.proofs.SameNames.{called_same, extents_same, item_same, sense_same}

module _ (chosen : Section → Bool) (all : List Item) where
  abbrev flat : List Item
  flat = items_unrolled chosen all

  module _ (total : List ℕ) where
    abbrev Good : TreeScript → Type 0
    Good = IsScript all total

    -- Assignments

    stored_like : (globals : List Extent) (line : ℕ) (n : NumKind) (p v : Value) (go on : TreeRun) → Runs all total go on → Runs all total (stored globals line n p v go) (stored globals line n p v on)
    stored_like globals line n p v go on ok =
        cell_like Good (cell_of globals p) line (λ c. asking (Write c (kept n (number_in v))) line (λ t. go)) (λ c. asking (Write c (kept n (number_in v))) line (λ t. on))
        (λ c. asking_like Good (Write c (kept n (number_in v))) (Write c (kept n (number_in v))) line (λ t. go) (λ t. on) refl tt (λ t. ok))

    changed_like : (globals : List Extent) (line : ℕ) (f : Option Op) (t : Typed) (o : BinOp) (e : Typed) (n : NumKind) (p v : Value) (go on : TreeRun) → Runs all total go on
        → Runs all total (cell_changed globals line f t o e n p v go) (cell_changed globals line f t o e n p v on)
    changed_like globals line (Some f) t o e n p v go on ok =
        cell_like Good (cell_of globals p) line (λ c. asking (Fold c f (number_in v)) line (λ u. go)) (λ c. asking (Fold c f (number_in v)) line (λ u. on))
        (λ c. asking_like Good (Fold c f (number_in v)) (Fold c f (number_in v)) line (λ u. go) (λ u. on) refl tt (λ u. ok))
    changed_like globals line None t o e n p v go on ok =
        loaded_like Good globals line p (λ w. unless_fault (operated_by o t.kind e.kind w v) line (λ z. stored globals line n p z go)) (λ w. unless_fault (operated_by o t.kind e.kind w v) line (λ z. stored globals line n p z on))
        (λ w. unless_like Good (operated_by o t.kind e.kind w v) line (λ z. stored globals line n p z go) (λ z. stored globals line n p z on) (λ z. stored_like globals line n p z go on ok))

    module _ (globals : List Extent) (line : ℕ) (t e : Sense) (left : EvenSense all Good t) (right : EvenSense all Good e) (x y : Here) (h : Places all total x y) (locals : List Value) where
      cell_set_like : (o : Option BinOp) (n : NumKind) (go on : TreeRun) → Runs all total go on → Runs all total (cell_assigned globals line t o e n x locals go) (cell_assigned globals line t o e n y locals on)
      cell_set_like None n go on ok = left.place line x y h locals _ _ (λ p. right.value line x y h locals _ _ (λ v. stored_like globals line n p v go on ok))
      cell_set_like (Some o) n go on ok =
          left.place line x y h locals _ _ (λ p. right.value line x y h locals _ _ (λ v. changed_like globals line (folded_by n o) t.typed o e.typed n p v go on ok))

      local_set_like : (o : Option BinOp) (slot : ℕ) (k : Kind) (go on : List Value → TreeRun) → ((us : List Value) → length us ≡ length locals → Runs all total (go us) (on us))
          → Runs all total (local_assigned line t o e slot k x locals go) (local_assigned line t o e slot k y locals on)
      local_set_like None slot k go on ok = right.value line x y h locals _ _ (λ v. ok (slice_set locals slot (kept_value k v)) (length-set locals slot (kept_value k v)))
      local_set_like (Some o) slot k go on ok = right.value line x y h locals _ _ (λ w.
          unless_like Good (operated_by o t.typed.kind e.typed.kind (value_at locals slot) w) line (λ v. go (slice_set locals slot (kept_value k v))) (λ v. on (slice_set locals slot (kept_value k v)))
          (λ v. ok (slice_set locals slot (kept_value k v)) (length-set locals slot (kept_value k v))))

      assigned_like : (o : Option BinOp) (what : Target) (go on : List Value → TreeRun) → ((us : List Value) → length us ≡ length locals → Runs all total (go us) (on us))
          → Runs all total (assigned globals line what t o e x locals go) (assigned globals line what t o e y locals on)
      assigned_like o (target.Local slot k) go on ok = local_set_like o slot k go on ok
      assigned_like o (target.Cell n) go on ok = cell_set_like o n (go locals) (on locals) (ok locals refl)
      assigned_like o target.Nothing go on ok = ok locals refl
      assigned_like o (target.Grid g n) go on ok = ok locals refl
      assigned_like o (target.Row g n) go on ok = ok locals refl

    pub assignment_like : (line : ℕ) (t : Expr) (o : Option BinOp) (e : Expr) → fits all t ≡ true → fits all e ≡ true → (around : Around)
        → DoLike all total around (length around.scope) (assignment all line t o e) (assignment flat line t o e)
    assignment_like line t o e one other around x y h low few a b ways locals size =
        subst (λ (r : TreeRun). Runs all total (assignment all line t o e around x a locals) r)
        (sym (λ i. assigned (extents_same chosen all i) line (sense_same chosen all around.scope i t).typed.target (sense_same chosen all around.scope i t) o (sense_same chosen all around.scope i e) y locals b.next))
        (assigned_like (extents_of all) line (sense_of all around.scope t) (sense_of all around.scope e) (even_sense all Good around.scope t one) (even_sense all Good around.scope e other) x y h locals o
        (sense_of all around.scope t).typed.target a.next b.next (λ us e. ways.next us (e ∙ size)))

    -- Calls, prints and returns

    pub call_like : (line : ℕ) (name : List ℕ) (es : List Expr) → (all_fit all es && takes all (item_found all name) (length es)) ≡ true → (around : Around)
        → DoLike all total around (length around.scope) (call_done all line name es) (call_done flat line name es)
    call_like line name es fit around x y h low few a b ways locals size =
        let same : call_value flat (item_found flat name) (map (sense_of flat around.scope) es) ≡ call_value all (item_found all name) (map (sense_of all around.scope) es) =
        ap (λ f. call_value flat f (map (sense_of flat around.scope) es)) (item_same chosen all name)
        ∙ called_same chosen all (item_found all name) (map (sense_of flat around.scope) es)
        ∙ (λ i. call_value all (item_found all name) (map (sense_same chosen all around.scope i) es)) in
        subst (λ (v : Evaluation). Runs all total (call_done all line name es around x a locals) (v line y locals (λ u. b.next locals))) (sym same)
        (call_even all Good (item_found all name) (map (sense_of all around.scope) es) (all_even all Good around.scope es (and_left (all_fit all es) _ fit))
        (subst (λ n. takes all (item_found all name) n ≡ true) (sym (length-map es (sense_of all around.scope))) (and_right (all_fit all es) _ fit))
        line x y h locals (λ v. a.next locals) (λ v. b.next locals) (λ v. ways.next locals size))

    pub print_like : (line : ℕ) (format : List ℕ) (es : List Expr) → all_fit all es ≡ true → (around : Around) → DoLike all total around (length around.scope) (print_done all line format es) (print_done flat line format es)
    print_like line format es fit around x y h low few a b ways locals size =
        arguments_like chosen all Good around.scope es fit line x y h locals
        (λ made. asking (Print (printed format (map number_in (reverse made)))) line (λ t. a.next locals)) (λ made. asking (Print (printed format (map number_in (reverse made)))) line (λ t. b.next locals))
        (λ made. asking_like Good (Print (printed format (map number_in (reverse made)))) (Print (printed format (map number_in (reverse made)))) line (λ t. a.next locals) (λ t. b.next locals) refl tt (λ t. ways.next locals size))

    pub return_like : (line : ℕ) (e : Option Expr) → optional_fits all e ≡ true → (around : Around) → DoLike all total around (length around.scope) (returned all line e) (returned flat line e)
    return_like line None fit around x y h low few a b ways locals size = ways.give line (value.Num 0)
    return_like line (Some e) fit around x y h low few a b ways locals size =
        value_like chosen all Good around.scope e fit line x y h locals (λ v. a.give line v) (λ v. b.give line v) (λ v. ways.give line v)

    -- Waits and releases

    pub wait_like : (line : ℕ) (sections : Option (List Section)) → waits_fit all sections ≡ true → (around : Around)
        → DoLike all total around (length around.scope) (wait_done all line sections) (wait_done flat line (option_map (unrolled_sections chosen) sections))
    wait_like line None fit around x y h low few a b ways locals size = asking_like Good Wait Wait line (λ t. a.next locals) (λ t. b.next locals) refl tt (λ t. ways.next locals size)
    wait_like line (Some sections) fit around x y h low few a b ways locals size =
        sections_like chosen all Good line x y h around.scope locals size waited_for sections fit
        (λ named. asking (WaitOn named) line (λ t. a.next locals)) (λ named. asking (WaitOn named) line (λ t. b.next locals))
        (λ c d same. asking_like Good (WaitOn c) (WaitOn d) line (λ t. a.next locals) (λ t. b.next locals) (ap {B = Ask TreeScript} (λ z. WaitOn z) same) tt (λ t. ways.next locals size)) [] [] refl

    pub release_like : (line : ℕ) (clauses : List Clause) → clauses_fit all clauses ≡ true → (around : Around)
        → DoLike all total around (length around.scope) (release_done all line clauses) (release_done flat line (unrolled_clauses chosen clauses))
    release_like line clauses fit around x y h low few a b ways locals size =
        clauses_like chosen all Good line x y h around.scope locals size clauses fit nothing_made
        (λ made. asking (Release made.accesses) line (λ t. a.next locals)) (λ made. asking (Release made.accesses) line (λ t. b.next locals))
        (λ m c d same. asking_like Good (Release c) (Release d) line (λ t. a.next locals) (λ t. b.next locals) (ap {B = Ask TreeScript} (λ z. Release z) same) tt (λ t. ways.next locals size)) [] [] refl

    -- Declarations

    first_like : (line : ℕ) (scope : List Local) (k : Kind) (o : Option Expr) → optional_fits all o ≡ true → (x y : Here) → Places all total x y → (locals : List Value) (go on : Value → TreeRun)
        → ((v : Value) → Runs all total (go v) (on v)) → Runs all total (first_of all scope k o line x locals go) (first_of flat scope k o line y locals on)
    first_like line scope k None fit x y h locals go on ok = ok (first_value k)
    first_like line scope k (Some e) fit x y h locals go on ok = value_like chosen all Good scope e fit line x y h locals go on ok

    declared_like : (line : ℕ) (ls : List Local) → locals_fit all ls ≡ true → (scope : List Local) (x y : Here) → Places all total x y → (locals : List Value) → length locals ≡ length scope → (go on : List Value → TreeRun)
        → ((us : List Value) → length us ≡ length scope + length ls → Runs all total (go us) (on us)) → Runs all total (declared all line ls scope x locals go) (declared flat line ls scope y locals on)
    declared_like line [] fit scope x y h locals size go on ok = ok locals (omega (arith, size))
    declared_like line (l ∷ rest) fit scope x y h locals size go on ok =
        first_like line scope l.kind l.first (and_left (optional_fits all l.first) (locals_fit all rest) fit) x y h locals _ _ (λ v.
        declared_like line rest (and_right (optional_fits all l.first) (locals_fit all rest) fit) (scope ++ l ∷ []) x y h (locals ++ kept_value l.kind v ∷ [])
        (omega (arith, size, length-append locals (kept_value l.kind v ∷ []), length-append scope (l ∷ []))) go on
        (λ us e. ok us (omega (arith, e, length-append scope (l ∷ [])))))

  pub declare_alike : (line : ℕ) (ls : List Local) → locals_fit all ls ≡ true → Alike all true (declare all line ls) (declare flat line ls)
  declare_alike line ls fit = record {
    behind = refl;
    grows = λ around. omega (arith, length-append around.scope ls);
    keeps = λ e around. absurd (subst IsYes e tt);
    sizes = λ around. [];
    counted = λ around. omega arith;
    does = λ total around has x y h low few a b ways locals size. asking_like (IsScript all total) Tick Tick line _ _ refl tt (λ t.
        declared_like total line ls fit around.scope x y h locals size a.next b.next (λ us e. ways.next us (e ∙ sym (length-append around.scope ls))));
    bodies = λ total around has. tt;
  }
    where
      IsYes : Bool → Type 0
      IsYes true = Unit {0}
      IsYes false = ⊥
