-- Bodies that are out, thought back into their places.
use Rattle.std.proofs.Common.{◌≡◌, ℕ, zero, suc, ◌<◌, append_assoc, refl, sym, subst, ap, ◌∙◌, arith, List, [], ◌∷◌, ◌++◌, length, length-set, Some}
use Rattle.std.specs.Prelude.{slice_get, slice_set}
use Rattle.std.proofs.lemmas.List.{append-nil, set-append_left, set-set, set_comm}
use Rattle.std.proofs.lemmas.Option.{slice_get_within}
use Rattle.oss_model.specs.Order.{IsIn, here, there}
use Rattle.oss_model.specs.declared.task_no.TaskNo.{TaskNo}
use Rattle.oss_body.specs.declared.body.Body.{Body}
use Rattle.oss_tree.proofs.ListLemmas.{get_front, get_set_other, get_set_same}
use Rattle.oss_kept_tasks.specs.declared.held.Held.{Held}
use Rattle.oss_core.specs.Putting.{HasBody}
use Rattle.oss_core.specs.Turns.{IsFilled}
use Rattle.oss_core.proofs.KeepLemmas.{some_is}

-- an element of a list is one of a longer list
pub get_within : {A : Type 0} (xs ys : List A) (i : ℕ) (x : A) → slice_get xs i ≡ Some x → slice_get (xs ++ ys) i ≡ Some x
get_within xs [] i x e = ap (λ zs. slice_get zs i) (append-nil xs) ∙ e
get_within xs (y ∷ ys) i x e = ap (λ zs. slice_get zs i) (sym (append_assoc xs (y ∷ []) ys)) ∙ get_within (xs ++ y ∷ []) ys i x (get_front xs y i x e)

-- a list with an element written over itself is as it was
pub set_same : {A : Type 0} (xs : List A) (i : ℕ) (x : A) → slice_get xs i ≡ Some x → slice_set xs i x ≡ xs
set_same [] i x e = refl
set_same (y ∷ xs) zero x e = let same : x ≡ y = some_is (sym e) in ap (λ z. z ∷ xs) same
set_same (y ∷ xs) (suc i) x e = ap (λ zs. y ∷ zs) (set_same xs i x e)

-- as many tasks are there with the bodies as without
pub filled_size : (vs : List TaskNo) (bs : List Body) (tasks filled : List Held) → IsFilled vs bs tasks filled → length filled ≡ length tasks
filled_size [] [] tasks filled h = ap length h
filled_size [] (b ∷ bs) tasks filled h = absurd h
filled_size (v ∷ vs) [] tasks filled h = absurd h
filled_size (v ∷ vs) (b ∷ bs) tasks filled (mid, f, h) = ap length h.tasks ∙ length-set mid v.0 h.after ∙ filled_size vs bs tasks mid f

-- a task whose body is not out is as it is
pub filled_other : (vs : List TaskNo) (bs : List Body) (tasks filled : List Held) (w : ℕ) → ((u : TaskNo) → IsIn u vs → w ≡ u.0 → ⊥) → IsFilled vs bs tasks filled → slice_get filled w ≡ slice_get tasks w
filled_other [] [] tasks filled w out h = ap (λ (ts : List Held). slice_get ts w) h
filled_other [] (b ∷ bs) tasks filled w out h = absurd h
filled_other (v ∷ vs) [] tasks filled w out h = absurd h
filled_other (v ∷ vs) (b ∷ bs) tasks filled w out (mid, f, h) =
    ap (λ (ts : List Held). slice_get ts w) h.tasks ∙ get_set_other mid v.0 w h.after (out v here) ∙ filled_other vs bs tasks mid w (λ u i e. out u (there i) e) f

-- a task whose body is not out changes, and new ones are added
pub filled_more : (vs : List TaskNo) (bs : List Body) (tasks filled : List Held) (v : ℕ) (x : Held) (more : List Held) → v < length tasks → ((u : TaskNo) → IsIn u vs → v ≡ u.0 → ⊥)
    → IsFilled vs bs tasks filled → IsFilled vs bs (slice_set tasks v x ++ more) (slice_set filled v x ++ more)
filled_more [] [] tasks filled v x more l out h = ap (λ (ts : List Held). slice_set ts v x ++ more) h
filled_more [] (b ∷ bs) tasks filled v x more l out h = absurd h
filled_more (u ∷ us) [] tasks filled v x more l out h = absurd h
filled_more (u ∷ us) (b ∷ bs) tasks filled v x more l out (mid, f, h) = (
  slice_set mid v x ++ more,
  filled_more us bs tasks mid v x more l (λ w i e. out w (there i) e) f,
  record {
    before = h.before;
    was = before_is;
    after = h.after;
    body_is = h.body_is;
    owed = h.owed;
    tasks = ap (λ (ts : List Held). slice_set ts v x ++ more) h.tasks
        ∙ ap (λ (ts : List Held). ts ++ more) (set_comm mid u.0 v h.after x (λ e. out u here (sym e)))
        ∙ sym (set-append_left (slice_set mid v x) more u.0 h.after inside);
  },
)
  where
    inside : u.0 < length (slice_set mid v x)
    inside = let a = slice_get_within mid u.0 h.before h.was in let c = length-set mid v x in omega (arith, a, c)

    before_is : slice_get (slice_set mid v x ++ more) u.0 ≡ Some h.before
    before_is = get_within (slice_set mid v x) more u.0 h.before (get_set_other mid v u.0 x (λ e. out u here (sym e)) ∙ h.was)

-- one body more is out, behind the others
pub filled_behind : (vs : List TaskNo) (bs : List Body) (tasks old filled : List Held) (v : TaskNo) (b : Body) → IsFilled vs bs old filled → HasBody v.0 b tasks old → IsFilled (vs ++ v ∷ []) (bs ++ b ∷ []) tasks filled
filled_behind [] [] tasks old filled v b h g = (tasks, refl, subst (λ (ts : List Held). HasBody v.0 b tasks ts) (sym h) g)
filled_behind [] (c ∷ bs) tasks old filled v b h g = absurd h
filled_behind (u ∷ us) [] tasks old filled v b h g = absurd h
filled_behind (u ∷ us) (c ∷ bs) tasks old filled v b (mid, f, h) g = (mid, filled_behind us bs tasks old mid v b f g, h)

-- where a body was taken out, it is the one that would be put back
pub body_back : (v : ℕ) (spare : Body) (body : Body) (old new : List Held) (h : Held) → slice_get old v ≡ Some h → h.body ≡ body → HasBody v spare old new → HasBody v body new old
body_back v spare body old new h is e g = record {
  before = g.after;
  was = ap (λ (ts : List Held). slice_get ts v) g.tasks ∙ get_set_same old v g.before g.after g.was;
  after = h;
  body_is = e;
  owed = ap (λ (x : Held). x.owed.pieces) (some_is (sym is ∙ g.was)) ∙ sym g.owed;
  tasks = sym (set_same old v h is) ∙ sym (set-set old v g.after h) ∙ ap (λ (ts : List Held). slice_set ts v h) (sym g.tasks);
}
