-- Drafts of acts, and keys.
use Rattle.std.proofs.Common.{◌≡◌, ℕ, ◌+◌, refl, sym, ap, ◌∙◌, subst, List, [], ◌∷◌, ◌++◌, reverse, Bool, true, None}
use Rattle.std.specs.Prelude.{◌||◌}
use Rattle.std.proofs.lemmas.List.{reverse-reverse}
use Rattle.oss_judge.specs.Given.{IsGiven}
use Rattle.oss_model.proofs.OrderLemmas.{reverse_cons}
use Rattle.oss_model.specs.Bodies.{Frame as Meant, key_of}
use Rattle.oss_model.specs.Context.{Context, child_context, table_from}
use Rattle.oss_model.specs.Rights.{Free, mark_from, right_from}
use Rattle.oss_syntax.specs.declared.access.Access.{Access}
use Rattle.oss_machine.specs.Frames.{CodeScript}
use Rattle.oss_body.specs.declared.act.Act.{Act}
use Rattle.oss_body.specs.declared.act.Act.TheVariants as acts
use Rattle.oss_body.specs.declared.draft.Draft.{Draft}
use Rattle.oss_body.specs.declared.draft.Draft.TheVariants as drafts
use Rattle.oss_body.specs.Acts.{HasContext, passed}
use Rattle.oss_body.specs.Drafts.{Alike, IsDraft, is_plain, plain_fault}
use Rattle.oss_body.specs.Places.{key_at, place_of, unwritten}

-- a key with its last number
pub key_with : (path : List ℕ) (created : ℕ) → unwritten ((0 ∷ reverse path) ++ created ∷ []) ≡ created ∷ path
key_with path created = ap reverse (sym (reverse_cons created path)) ∙ reverse-reverse (created ∷ path)

-- the key at which a task acts
pub key_seen : (f : Meant CodeScript) → unwritten (key_at (place_of f)) ≡ key_of f
key_seen f = key_with f.path f.context.created

-- an act that is neither a creation nor a release has no context beside it
pub plain_has_none : (x : Context) (a : Act) → is_plain a ≡ true → HasContext x a
plain_has_none x (acts.Create creation included) h = cc
plain_has_none x acts.Tick h = tt
plain_has_none x (acts.Load c) h = tt
plain_has_none x (acts.Store c v) h = tt
plain_has_none x (acts.Fold c op v slot) h = tt
plain_has_none x acts.Await h = tt
plain_has_none x acts.Wait h = tt
plain_has_none x (acts.WaitOn ranges) h = tt
plain_has_none x (acts.Release clauses included) h = tt
plain_has_none x (acts.Print key text) h = tt
plain_has_none x acts.End h = tt
plain_has_none x (acts.Fault kind line key) h = tt

-- and where nothing is found in its place it passes
pub plain_passes : (x : Context) (a : Act) → is_plain a ≡ true → plain_fault x a ≡ None → passed a x ≡ true
plain_passes x (acts.Create creation included) h n = cc
plain_passes x acts.Tick h n = rw n refl
plain_passes x (acts.Load c) h n = refl
plain_passes x (acts.Store c v) h n = refl
plain_passes x (acts.Fold c op v slot) h n = refl
plain_passes x acts.Await h n = refl
plain_passes x acts.Wait h n = refl
plain_passes x (acts.WaitOn ranges) h n = refl
plain_passes x (acts.Release clauses included) h n = refl
plain_passes x (acts.Print key text) h n = refl
plain_passes x acts.End h n = refl
plain_passes x (acts.Fault kind line key) h n = refl

-- contexts that are alike give a new task the same start
pub child_alike : (x y : Context) → Alike x y → (clauses : List Access) (last : Bool) → child_context x clauses last ≡ child_context y clauses last
child_alike x y k clauses last = λ i. record {
  entries = table_from (λ c. record { right = right_from (k.final i || last) clauses c; lent = Free; mark = mark_from (k.final i || last) clauses c }) 0 (k.cells i);
  ticks = 0;
  fuel = k.fuel i;
  created = 0;
  depth = k.depth i + 1;
  final = k.final i || last;
}

-- what a draft has beside its act is right for both
pub draft_alike : (x y : Context) (d : Draft) → Alike x y → IsDraft x d → IsDraft y d
draft_alike x y (drafts.Plain act) k is = is
draft_alike x y (drafts.Creation given creation included) k is = (subst (λ (b : Bool). IsGiven (b || creation.order.last) creation.order.accesses given) k.final is.0, is.1 ∙ child_alike x y k creation.order.accesses creation.order.last)
draft_alike x y (drafts.Release given clauses included) k is = is
draft_alike x y drafts.Begun k is = is
draft_alike x y (drafts.Faulty kind) k is = is
