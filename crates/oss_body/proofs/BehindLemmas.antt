-- A task behind an act that leaves it the one that acts.
use Rattle.std.proofs.Common.{◌≡◌, ℕ, refl, sym, ap, ◌∙◌, subst, length, Bool, true, false}
use Rattle.oss_code.specs.declared.code.CodeParts.{CodeParts}
use Rattle.oss_machine.specs.Frames.{CodeScript}
use Rattle.oss_machine.specs.Machines.{Standing, machine_after, machine_at}
use Rattle.oss_model.proofs.ContextLemmas.{length-table_from}
use Rattle.oss_model.specs.Bodies.{Frame as Meant, frame_after, lent_when, one_more_created}
use Rattle.oss_model.specs.Context.{Context, Entry, made, right_of, with_entries}
use Rattle.oss_model.specs.Moves.{slot_more}
use Rattle.oss_model.specs.Order.{written}
use Rattle.oss_model.specs.Rights.{Right}
use Rattle.oss_body.specs.declared.act.Act.{Act}
use Rattle.oss_body.specs.declared.act.Act.TheVariants as acts
use Rattle.oss_body.specs.declared.draft.Draft.{Draft}
use Rattle.oss_body.specs.Acts.{HasContext, act_seen, answer_to}
use Rattle.oss_body.specs.Behind.{IsAhead, IsLight, answered_standing, awaits_by, context_behind, created_by}
use Rattle.oss_body.specs.Drafts.{Alike, IsDraft}
use Rattle.oss_body.specs.Kept.{kept}
use Rattle.oss_body.specs.Places.{Framed, Placed, place_of}
use Rattle.oss_body.specs.Stacks.{stays_on}
use Rattle.oss_syntax.specs.declared.access.Op.{Op}
use Rattle.oss_body.proofs.DraftLemmas.{draft_alike}

alike_same : (x : Context) → Alike x x
alike_same x = record { cells = refl; fuel = refl; depth = refl; final = refl }

-- other entries leave the number of cells
alike_with : (f : ℕ → Entry) (x y : Context) → Alike x y → Alike x (with_entries f y)
alike_with f x y k = record { cells = k.cells ∙ sym (length-table_from f 0 (length y.entries)); fuel = k.fuel; depth = k.depth; final = k.final }

alike_lent : (when : Bool) (given : ℕ → Right) (x y : Context) → Alike x y → Alike x (lent_when when given y)
alike_lent true given x y k = alike_with _ x y k
alike_lent false given x y k = k

-- an act leaves a context alike
pub behind_alike : (a : Act) (x : Context) → Alike x (context_behind a x)
behind_alike acts.Tick x = record { cells = refl; fuel = refl; depth = refl; final = refl }
behind_alike (acts.Load c) x = alike_same x
behind_alike (acts.Store c v) x = alike_with _ x x (alike_same x)
behind_alike (acts.Fold c op v slot) x = alike_with _ x x (alike_same x)
behind_alike (acts.Create creation included) x =
    alike_with _ x _ (alike_lent creation.order.when (right_of creation.context) x (one_more_created x) (record { cells = refl; fuel = refl; depth = refl; final = refl }))
behind_alike acts.Await x = alike_same x
behind_alike acts.Wait x = alike_with _ x x (alike_same x)
behind_alike (acts.WaitOn ranges) x = alike_with _ x x (alike_same x)
behind_alike (acts.Release clauses included) x = alike_with _ x x (alike_same x)
behind_alike (acts.Print key text) x = alike_same x
behind_alike acts.End x = alike_same x
behind_alike (acts.Fault kind line key) x = alike_same x

lent_created : (when : Bool) (given : ℕ → Right) (x : Context) → (lent_when when given x).created ≡ x.created
lent_created true given x = refl
lent_created false given x = refl

-- and so many tasks created
pub behind_created : (a : Act) (x : Context) → (context_behind a x).created ≡ created_by a x.created
behind_created acts.Tick x = refl
behind_created (acts.Load c) x = refl
behind_created (acts.Store c v) x = refl
behind_created (acts.Fold c op v slot) x = refl
behind_created (acts.Create creation included) x = lent_created creation.order.when (right_of creation.context) (one_more_created x)
behind_created acts.Await x = refl
behind_created acts.Wait x = refl
behind_created (acts.WaitOn ranges) x = refl
behind_created (acts.Release clauses included) x = refl
behind_created (acts.Print key text) x = refl
behind_created acts.End x = refl
behind_created (acts.Fault kind line key) x = refl

-- what a draft has beside its act is right behind the act too
pub draft_behind : (a : Act) (x : Context) (d : Draft) → IsDraft x d → IsDraft (context_behind a x) d
draft_behind a x d = draft_alike x (context_behind a x) d (behind_alike a x)

-- the context of the task of the definitions
context_after : (a : Act) (v : ℕ) (f : Meant CodeScript) → HasContext f.context a → (frame_after (act_seen a) v f).context ≡ context_behind a f.context
context_after acts.Tick v f h = refl
context_after (acts.Load c) v f h = refl
context_after (acts.Store c x) v f h = refl
context_after (acts.Fold c op x slot) v f h = refl
context_after (acts.Create creation included) v f h = ap (λ (x : Context). made (right_of x) (lent_when creation.order.when (right_of x) (one_more_created f.context))) (sym h)
context_after acts.Await v f h = refl
context_after acts.Wait v f h = refl
context_after (acts.WaitOn ranges) v f h = refl
context_after (acts.Release clauses included) v f h = refl
context_after (acts.Print key text) v f h = refl
context_after acts.End v f h = refl
context_after (acts.Fault kind line key) v f h = refl

path_after : (a : Act) (v : ℕ) (f : Meant CodeScript) → (frame_after (act_seen a) v f).path ≡ f.path
path_after acts.Tick v f = refl
path_after (acts.Load c) v f = refl
path_after (acts.Store c x) v f = refl
path_after (acts.Fold c op x slot) v f = refl
path_after (acts.Create creation included) v f = refl
path_after acts.Await v f = refl
path_after acts.Wait v f = refl
path_after (acts.WaitOn ranges) v f = refl
path_after (acts.Release clauses included) v f = refl
path_after (acts.Print key text) v f = refl
path_after acts.End v f = refl
path_after (acts.Fault kind line key) v f = refl

pub awaits_after : (a : Act) (v : ℕ) (f : Meant CodeScript) → (frame_after (act_seen a) v f).awaits ≡ awaits_by a f.awaits
awaits_after acts.Tick v f = refl
awaits_after (acts.Load c) v f = refl
awaits_after (acts.Store c x) v f = refl
awaits_after (acts.Fold c op x slot) v f = refl
awaits_after (acts.Create creation included) v f = refl
awaits_after acts.Await v f = refl
awaits_after acts.Wait v f = refl
awaits_after (acts.WaitOn ranges) v f = refl
awaits_after (acts.Release clauses included) v f = refl
awaits_after (acts.Print key text) v f = refl
awaits_after acts.End v f = refl
awaits_after (acts.Fault kind line key) v f = refl

pub machine_behind : (code : CodeParts) (a : Act) (loaded : ℕ) (f : Meant CodeScript)
    → answered_standing code (act_seen a) (answer_to (act_seen a) loaded) (machine_at code f.script f.answers)
    ≡ machine_at code (frame_after (act_seen a) (answer_to (act_seen a) loaded) f).script (frame_after (act_seen a) (answer_to (act_seen a) loaded) f).answers
machine_behind code acts.Tick loaded f = refl
machine_behind code (acts.Load c) loaded f = refl
machine_behind code (acts.Store c x) loaded f = refl
machine_behind code (acts.Fold c op x slot) loaded f = refl
machine_behind code (acts.Create creation included) loaded f = refl
machine_behind code acts.Await loaded f = refl
machine_behind code acts.Wait loaded f = refl
machine_behind code (acts.WaitOn ranges) loaded f = refl
machine_behind code (acts.Release clauses included) loaded f = refl
machine_behind code (acts.Print key text) loaded f = refl
machine_behind code acts.End loaded f = refl
machine_behind code (acts.Fault kind line key) loaded f = refl

-- where the task stands
pub place_behind : (a : Act) (v : ℕ) (f : Meant CodeScript) (p : Placed) → p ≡ place_of f → HasContext f.context a → ◌≡◌ {A = Placed} record { context = context_behind a p.context; path = p.path } (place_of (frame_after (act_seen a) v f))
place_behind a v f p e h =
    ap (λ (q : Placed). record { context = context_behind a q.context; path = q.path }) e
    ∙ (let c = context_after a v f h in let q = path_after a v f in λ i. record { context = sym c i; path = written (sym q i) })

-- what is known of it ahead
pub behind_ahead : (code : CodeParts) (a : Act) (loaded : ℕ) (f : Meant CodeScript) (m : Standing) (p : Placed) (waits : Bool) (ahead : Standing) (count : ℕ) (awaits : Bool) → ahead ≡ m → ◌≡◌ {A = Framed} record { machine = m; place = p; awaits = waits } (kept code f)
    → HasContext f.context a → count ≡ created_by a p.context.created → awaits ≡ awaits_by a waits
    → IsAhead code (frame_after (act_seen a) (answer_to (act_seen a) loaded) f) (answered_standing code (act_seen a) (answer_to (act_seen a) loaded) ahead) p count awaits
behind_ahead code a loaded f m p waits ahead count awaits same e h counted awaited =
    let v = answer_to (act_seen a) loaded in
    let c = context_after a v f h in
    record {
      machine = ap (answered_standing code (act_seen a) v) (same ∙ ap (λ (y : Framed). y.machine) e) ∙ machine_behind code a loaded f;
      alike = subst (λ (y : Context). Alike y (frame_after (act_seen a) v f).context) (ap (λ (y : Framed). y.place.context) (sym e)) (subst (Alike f.context) (sym c) (behind_alike a f.context));
      path = ap (λ (y : Framed). y.place.path) e ∙ ap written (sym (path_after a v f));
      created = ap (λ (y : Context). y.created) c ∙ behind_created a f.context ∙ ap (λ (y : Framed). created_by a y.place.context.created) (sym e) ∙ sym counted;
      awaits = awaits_after a v f ∙ ap (λ (y : Framed). awaits_by a y.awaits) (sym e) ∙ sym awaited;
    }

-- and of one that goes on behind no act
pub same_ahead : (code : CodeParts) (f : Meant CodeScript) (m : Standing) (p : Placed) (waits : Bool) (ahead : Standing) (count : ℕ) → ahead ≡ m → ◌≡◌ {A = Framed} record { machine = m; place = p; awaits = waits } (kept code f) → count ≡ p.context.created
    → IsAhead code f ahead p count waits
same_ahead code f m p waits ahead count same e counted = record {
  machine = same ∙ ap (λ (y : Framed). y.machine) e;
  alike = subst (λ (y : Context). Alike y f.context) (ap (λ (y : Framed). y.place.context) (sym e)) (alike_same f.context);
  path = ap (λ (y : Framed). y.place.path) e;
  created = ap (λ (y : Framed). y.place.context.created) (sym e) ∙ sym counted;
  awaits = ap (λ (y : Framed). y.awaits) (sym e);
}

-- behind a tick or a light touch the machine has one answer more, and nothing is awaited that was not
pub light_answered : (code : CodeParts) (a : Act) (x : Context) (v : ℕ) (m : Standing) → IsLight a x → machine_after code v m ≡ answered_standing code (act_seen a) v m
light_answered code acts.Tick x v m h = refl
light_answered code (acts.Load c) x v m h = refl
light_answered code (acts.Store c w) x v m h = refl
light_answered code (acts.Fold c op w slot) x v m h = absurd h
light_answered code (acts.Create creation included) x v m h = absurd h
light_answered code acts.Await x v m h = absurd h
light_answered code acts.Wait x v m h = absurd h
light_answered code (acts.WaitOn ranges) x v m h = absurd h
light_answered code (acts.Release clauses included) x v m h = absurd h
light_answered code (acts.Print key text) x v m h = absurd h
light_answered code acts.End x v m h = absurd h
light_answered code (acts.Fault kind line key) x v m h = absurd h

pub light_awaits : (a : Act) (x : Context) (w : Bool) → IsLight a x → w ≡ awaits_by a w
light_awaits acts.Tick x w h = refl
light_awaits (acts.Load c) x w h = refl
light_awaits (acts.Store c u) x w h = refl
light_awaits (acts.Fold c op u slot) x w h = absurd h
light_awaits (acts.Create creation included) x w h = absurd h
light_awaits acts.Await x w h = absurd h
light_awaits acts.Wait x w h = absurd h
light_awaits (acts.WaitOn ranges) x w h = absurd h
light_awaits (acts.Release clauses included) x w h = absurd h
light_awaits (acts.Print key text) x w h = absurd h
light_awaits acts.End x w h = absurd h
light_awaits (acts.Fault kind line key) x w h = absurd h

-- after a tick or a light touch the task that acts is the one that did, and what is in the slots stays
pub light_on : (a : Act) (x : Context) (alone : Bool) → IsLight a x → stays_on (act_seen a) alone ≡ true
light_on acts.Tick x alone h = refl
light_on (acts.Load c) x alone h = refl
light_on (acts.Store c u) x alone h = refl
light_on (acts.Fold c op u slot) x alone h = absurd h
light_on (acts.Create creation included) x alone h = absurd h
light_on acts.Await x alone h = absurd h
light_on acts.Wait x alone h = absurd h
light_on (acts.WaitOn ranges) x alone h = absurd h
light_on (acts.Release clauses included) x alone h = absurd h
light_on (acts.Print key text) x alone h = absurd h
light_on acts.End x alone h = absurd h
light_on (acts.Fault kind line key) x alone h = absurd h

pub light_slot : (a : Act) (x : Context) (cell : ℕ) (own : Op) (held : ℕ) → IsLight a x → held ≡ slot_more (act_seen a) cell own held
light_slot acts.Tick x cell own held h = refl
light_slot (acts.Load c) x cell own held h = refl
light_slot (acts.Store c u) x cell own held h = refl
light_slot (acts.Fold c op u slot) x cell own held h = absurd h
light_slot (acts.Create creation included) x cell own held h = absurd h
light_slot acts.Await x cell own held h = absurd h
light_slot acts.Wait x cell own held h = absurd h
light_slot (acts.WaitOn ranges) x cell own held h = absurd h
light_slot (acts.Release clauses included) x cell own held h = absurd h
light_slot (acts.Print key text) x cell own held h = absurd h
light_slot acts.End x cell own held h = absurd h
light_slot (acts.Fault kind line key) x cell own held h = absurd h
