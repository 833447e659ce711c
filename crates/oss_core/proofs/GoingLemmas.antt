-- What the calls that make a step leave, put together.
use Rattle.std.proofs.Common.{◌≡◌, ℕ, refl, sym, ap, subst, ◌∙◌, arith, true, false, List, [], ◌∷◌, ◌++◌, length, get_or, Some}
use Rattle.std.specs.Prelude.{slice_get, slice_set}
use Rattle.std.proofs.lemmas.List.{length-set}
use Rattle.std.proofs.lemmas.Option.{slice_get_read, slice_get_within}
use Rattle.oss_syntax.specs.declared.access.Access.{Access}
use Rattle.oss_model.specs.Bodies.{Start}
use Rattle.oss_model.specs.Moves.{cells_after}
use Rattle.oss_code.specs.declared.code.CodeParts.{CodeParts}
use Rattle.oss_machine.specs.Frames.{CodeScript}
use Rattle.oss_body.specs.declared.act.Act.{Act as CodeAct}
use Rattle.oss_body.specs.declared.body.Body.{Body}
use Rattle.oss_body.specs.Acts.{act_seen, answer_to, creates}
use Rattle.oss_body.specs.Relation.{IsBody, has_wait, is_over, pending_of}
use Rattle.oss_tree.specs.Tasks as tree
use Rattle.oss_tree.proofs.ListLemmas.{get_set_other, get_set_same, longer_by}
use Rattle.oss_deps.specs.Seen.{IsSame, Opens}
use Rattle.oss_kept_tasks.specs.declared.held.Held.{Held}
use Rattle.oss_core.specs.Changes.{GoesOn, IsChanged, IsCreated, found_in, noted, noted_new, prints_after}
use Rattle.oss_core.specs.Going.{HasCreated, HasGoneOn, HasStepped, IsKeyed}
use Rattle.oss_core.specs.Kept.{Kept}
use Rattle.oss_core.proofs.KeepLemmas.{some_is}
use Rattle.oss_core.proofs.PushLemmas.{get_front, get_last, get_others}

-- what was read at a place stands there
pub read_is : {A : Type 0} (xs : List A) (v : ℕ) (x y : A) → slice_get xs v ≡ Some y → x ≡ get_or xs v x → slice_get xs v ≡ Some x
read_is xs v x y h e = slice_get_read xs (length xs) v x refl (slice_get_within xs v y h) e

-- a list after a write
pub written_is : (tasks : List Held) (v : ℕ) (before after : Held) → slice_get tasks v ≡ Some before → IsChanged tasks (slice_set tasks v after) v before after
written_is tasks v before after was = record { was = was; is = get_set_same tasks v before after was; others = λ w n. get_set_other tasks v w after n; size = length-set tasks v after }

-- a body goes on
pub gone_on : (code : CodeParts) (tasks : List Held) (v loaded : ℕ) (before : Held) (after : Body) → slice_get tasks v ≡ Some before
    → ((start : Start CodeScript) (found : List ℕ) → IsBody code start found before.body → IsBody code start (answer_to (act_seen (pending_of before.body)) loaded ∷ found) after)
    → HasGoneOn code v loaded tasks (slice_set tasks v (record { body = after; owed = before.owed }))
gone_on code tasks v loaded before after was goes = record {
  before = before;
  after = record { body = after; owed = before.owed };
  changed_is = written_is tasks v before (record { body = after; owed = before.owed }) was;
  goes = record { act_is = refl; body = goes; owed = refl };
}

-- the act that stood next is made, its parts put together
pub stepped : (code : CodeParts) (v : ℕ) (old new : Kept) (held : Held) → slice_get old.tasks v ≡ Some held → creates (pending_of held.body) ≡ false
    → HasGoneOn code v (found_in (pending_of held.body) old.cells) old.tasks new.tasks → new.cells ≡ cells_after (act_seen (pending_of held.body)) old.cells
    → (after : Held) → slice_get new.tasks v ≡ Some after → new.tree.tasks ≡ noted v (is_over after.body) old.tree.tasks → new.tree.prints ≡ prints_after (pending_of held.body) old.tree.prints
    → IsKeyed (pending_of held.body) → IsSame old.seen new.seen → HasStepped code v old new
stepped code v old new held was none gone cells after after_is tasks prints keyed seen =
    let b : gone.before ≡ held = some_is (sym gone.changed_is.was ∙ was) in
    let a : gone.after ≡ after = some_is (sym gone.changed_is.is ∙ after_is) in (
      pending_of held.body,
      record {
        none = none;
        before = gone.before;
        after = gone.after;
        changed_is = gone.changed_is;
        goes = subst (λ (x : CodeAct). GoesOn code x (found_in (pending_of held.body) old.cells) gone.before gone.after) (ap (λ (x : Held). pending_of x.body) b) gone.goes;
        cells = cells;
        tasks = tasks ∙ ap (λ (x : Held). noted v (is_over x.body) old.tree.tasks) (sym a);
        prints = prints;
        key_is = keyed;
        seen = seen;
      },
    )

-- the creation that stood next is made, its parts put together
pub created : (code : CodeParts) (v : ℕ) (old new : Kept) (held child : Held) (accesses : List Access) → slice_get old.tasks v ≡ Some held → creates (pending_of held.body) ≡ true → IsCreated code held child accesses
    → HasGoneOn code v 0 (old.tasks ++ child ∷ []) new.tasks → new.cells ≡ old.cells → new.tree.tasks ≡ noted_new accesses (length old.tree.tasks) (tree.grown old.tree.tasks v (has_wait child.body)) → new.tree.prints ≡ old.tree.prints
    → Opens (record { task = length old.tasks; parent = v; accesses = accesses }) old.seen new.seen → HasCreated code v old new
created code v old new held child accesses was creates_is made gone cells tasks prints seen =
    let here : slice_get (old.tasks ++ child ∷ []) v ≡ Some held = get_front old.tasks child v held was in
    let b : gone.before ≡ held = some_is (sym gone.changed_is.was ∙ here) in (
      pending_of held.body,
      record {
        creates_is = creates_is;
        before = gone.before;
        after = gone.after;
        child = child;
        accesses = accesses;
        grown_is = record {
          was = was ∙ ap (λ (x : Held). Some x) (sym b);
          is = gone.changed_is.is;
          added = gone.changed_is.others (length old.tasks) (λ e. let w = slice_get_within old.tasks v held was in absurd (omega (arith, e, w))) ∙ get_last old.tasks child;
          others = λ w n l. gone.changed_is.others w n ∙ get_others old.tasks child w l;
          size = let l = longer_by old.tasks child in let z = gone.changed_is.size in omega (arith, l, z);
        };
        goes = subst (λ (x : CodeAct). GoesOn code x 0 gone.before gone.after) (ap (λ (x : Held). pending_of x.body) b) gone.goes;
        created = subst (λ (x : Held). IsCreated code x child accesses) (sym b) made;
        cells = cells;
        tasks = tasks;
        prints = prints;
        seen = seen;
      },
    )
