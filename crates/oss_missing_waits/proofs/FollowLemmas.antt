-- What is kept of the open tasks, event by event.
use Rattle.std.proofs.Common.{◌≡◌, ◌<◌, ◌≤◌, refl, sym, subst, ap, ◌∙◌, ℕ, Bool, true, false, List, [], ◌∷◌, ◌++◌, length, get_or, Option, Some, None, arith}
use Rattle.std.specs.Prelude.{◌==◌, ◌↔◌, IsTrue, ◌||◌, ◌&&◌, not, if◌then◌else◌, is_some, reverse, slice_set}
use Rattle.std.proofs.lemmas.List.{length-append, reverse-append, reverse-reverse}
use Rattle.std.proofs.lemmas.Option.{slice_get-get_or, slice_get_past}
use Rattle.std.proofs.Math.Path.{fun_ext}
use Rattle.oss_syntax.specs.declared.access.Access.{Access}
use Rattle.oss_syntax.specs.declared.access.Range.{Range}
use Rattle.oss_syntax.specs.declared.tree.program.Item.{Item}
use Rattle.oss_model.specs.Bodies.{Ask, Frame, Order}
use Rattle.oss_model.specs.Context.{in_clauses}
use Rattle.oss_model.specs.Rights.{Folds, Reads, Touch, Writes}
use Rattle.oss_meaning.specs.Clauses.{waited_for as waiting}
use Rattle.oss_meaning.specs.Sections.{declared_on}
use Rattle.oss_machine.specs.Asks.{meant_ask, meant_order}
use Rattle.oss_machine.specs.declared.ask.Ask.TheVariants as asked
use Rattle.oss_code.specs.declared.order.TaskOrder.{TaskOrder}
use Rattle.oss_syntax.specs.declared.access.Op.{Op}
use Rattle.oss_machine.specs.declared.ask.Ask.{Ask as CodeAsk}
use Rattle.oss_machine.specs.Frames.{CodeScript}
use Rattle.oss_ranges.specs.Cells.{is_within, value_at}
use Rattle.oss_pieces.specs.Rows.{Grid}
use Rattle.oss_needs.specs.declared.clause.Clause.{Clause}
use Rattle.oss_lent_cells.specs.Kept.{in_ranges}
use Rattle.oss_lent_cells.specs.Lent.{all_counted, nothing_lent, waited_for}
use Rattle.oss_lent_cells.specs.declared.holder.Holder.{Holder}
use Rattle.oss_missing_lines.specs.declared.missing.Late.{Late}
use Rattle.oss_lacks.specs.declared.lacks.TaskLacks.{TaskLacks}
use Rattle.oss_lacks.specs.Nests.{Nest, Numbered, alone, closed, closed_to, opened, with_acting}
use Rattle.oss_missing_waits.specs.declared.following.Following.{Following}
use Rattle.oss_missing_waits.specs.declared.following.OpenTask.{OpenTask}
use Rattle.oss_missing_waits.specs.declared.holding.HoldingTask.{HoldingTask}
use Rattle.oss_missing_waits.specs.Following.{AreMended, AreSaid, AreTasks, AreTold, Follows, HaveEnded, IsClosed, IsFollowing, IsNoted, IsOneMore, IsOpened, IsReturned, IsTask, Steps, may_write, said_by, said_in}
use Rattle.oss_missing_waits.specs.Holding.{Holding, IsUse, Waits, has_wait, hinderer, known, lent_when, main as main_holding, new_task, none, releases, told, touched, waits_before, with_lent, with_told}
use Rattle.oss_missing_waits.specs.Kept.{IsHolding, IsUseThen, Leads, LeadsTo, touched_under, waits_for}
use Rattle.oss_missing_waits.specs.Lines.{AreLines, AreTaskLines}
use Rattle.oss_missing_waits.specs.Waits.{IsBehindAsk, IsDirective, IsTouched, Mended, at_stop, tell_nothing}
use Rattle.oss_lacks.proofs.NestLemmas.{ends_opened}
use Rattle.oss_missing_waits.proofs.EndLemmas.{all_told, told_length, told_more, told_set}

-- What no event changes

pub use_path : (cells : ℕ → Bool) (line : ℕ) (h g : Holding) → IsUse cells line h g → g.path ≡ h.path
use_path cells line h _ (none n) = refl
use_path cells line h _ (known e) = refl
use_path cells line h _ (told c x y z) = refl

use_has : (cells : ℕ → Bool) (line : ℕ) (h g : Holding) → IsUse cells line h g → g.has ≡ h.has
use_has cells line h _ (none n) = refl
use_has cells line h _ (known e) = refl
use_has cells line h _ (told c x y z) = refl

wait_has : (touch : Touch) (c line : ℕ) (child : Holder) (h : Holding) (b : Bool) → (if b then h else with_told (Waits touch c line child) h).has ≡ h.has
wait_has touch c line child h true = refl
wait_has touch c line child h false = refl

before_has : (touch : Touch) (c line : ℕ) (o : Option Holder) (h : Holding) → (waits_before touch c line o h).has ≡ h.has
before_has touch c line None h = refl
before_has touch c line (Some child) h = wait_has touch c line child h (has_wait h.told line)

wait_path : (touch : Touch) (c line : ℕ) (child : Holder) (h : Holding) (b : Bool) → (if b then h else with_told (Waits touch c line child) h).path ≡ h.path
wait_path touch c line child h true = refl
wait_path touch c line child h false = refl

pub before_path : (touch : Touch) (c line : ℕ) (o : Option Holder) (h : Holding) → (waits_before touch c line o h).path ≡ h.path
before_path touch c line None h = refl
before_path touch c line (Some child) h = wait_path touch c line child h (has_wait h.told line)

lent_has : (lends : Bool) (number line : ℕ) (clauses : ℕ → Option Clause) (h : Holding) → (lent_when lends number line clauses h).has ≡ h.has
lent_has true number line clauses h = refl
lent_has false number line clauses h = refl

pub lent_path : (lends : Bool) (number line : ℕ) (clauses : ℕ → Option Clause) (h : Holding) → (lent_when lends number line clauses h).path ≡ h.path
lent_path true number line clauses h = refl
lent_path false number line clauses h = refl

-- The task that acts is known otherwise.

mended_now : (w : Mended) (k : Numbered Holding) (above : List (Numbered Holding)) (g : Holding) → g.has ≡ k.task.has → AreMended w k above → AreMended w (record { number = k.number; task = g }) above
mended_now w k [] g e h = λ c. ap (λ (f : ℕ → Option Clause). f c) e ∙ h c
mended_now w k (j ∷ above) g e h = (λ c. ap (λ (f : ℕ → Option Clause). f c) e ∙ h.0 c, h.1)

-- What else is kept stays.
pub record IsElse (old new : Following) : Type 0 where
  pub number : new.current.number ≡ old.current.number
  pub above : new.above ≡ old.above
  pub told : new.told ≡ old.told

acting_now : (all : List Item) (w : Mended) (n : Nest Holding) (g : Holding) (old new : Following) → g.has ≡ n.acting.task.has → IsFollowing all w n old → IsHolding all g new.current.task → IsElse old new → IsFollowing all w (with_acting g n) new
acting_now all w n g old new e s holds same = record {
  current = record { number = same.number ∙ s.current.number; holds = holds };
  older = subst (λ (ks : List OpenTask). AreTasks all n.above ks) (ap reverse (sym same.above)) s.older;
  mended = mended_now w n.acting n.above g e s.mended;
  told = subst (λ (v : _). AreTold all n.ended v.items) (sym same.told) s.told;
  ends = s.ends;
}

-- An event that uses cells, and then makes something of the task.
pub directive_more : (layout : List Grid) (ks : List TaskLacks) (cells : ℕ → Bool) (line : ℕ) (up : Holding → Holding) (old new : Following) → ((h : Holding) → (up h).has ≡ h.has)
    → Leads layout (IsUseThen cells line up) old.current.task new.current.task → IsElse old new → Steps layout ks (λ w n m. IsDirective cells line up n m) old new
directive_more layout ks cells line up old new keeps goes same all w n laid said s =
    let k = goes all n.acting.task laid s.current.holds in
    let e : k.0.has ≡ n.acting.task.has = ap (λ (h : Holding). h.has) k.1.0.new_is ∙ keeps k.1.0.used ∙ use_has cells line n.acting.task k.1.0.used k.1.0.use_is in
    (with_acting k.0 n, (record { used = k.1.0.used; use_is = k.1.0.use_is; new_is = ap (λ (h : Holding). with_acting h n) k.1.0.new_is }, acting_now all w n k.0 old new e s k.1.1 same))

-- A touch.
pub touch_more : (layout : List Grid) (ks : List TaskLacks) (touch : Touch) (c line : ℕ) (clause : Option Clause) (old new : Following)
    → ((all : List Item) (w : Mended) (n : Nest Holding) → AreSaid w ks → IsFollowing all w n old → clause ≡ n.acting.task.has c)
    → Leads layout (IsUseThen (λ d. c == d) line (touched_under clause touch c line)) old.current.task new.current.task → IsElse old new → Steps layout ks (λ w n m. IsTouched touch c line n m) old new
touch_more layout ks touch c line clause old new is goes same all w n laid said s =
    let k = goes all n.acting.task laid s.current.holds in
    let u = k.1.0.used in
    let has : u.has ≡ n.acting.task.has = use_has (λ d. c == d) line n.acting.task u k.1.0.use_is in
    let clause_is : clause ≡ u.has c = is all w n said s ∙ ap (λ (f : ℕ → Option Clause). f c) (sym has) in
    let now : k.0 ≡ touched touch c line u = k.1.0.new_is ∙ ap (λ (o : Option Clause). waits_before touch c line (hinderer o touch (u.lent c)) u) clause_is in
    let e : k.0.has ≡ n.acting.task.has = ap (λ (h : Holding). h.has) now ∙ before_has touch c line (hinderer (u.has c) touch (u.lent c)) u ∙ has in
    (with_acting k.0 n, (record { used = u; use_is = k.1.0.use_is; new_is = ap (λ (h : Holding). with_acting h n) now }, acting_now all w n k.0 old new e s k.1.1 same))

-- By what the task that acts has a cell.
pub main_has : (old : Following) (c : ℕ) → old.above ≡ [] → (all : List Item) (w : Mended) (n : Nest Holding) → IsFollowing all w n old → may_write ≡ n.acting.task.has c
main_has old c e all w n s = go n.above (subst (λ (ks : List OpenTask). AreTasks all n.above ks) (ap reverse e) s.older) s.mended
  where
    go : (above : List (Numbered Holding)) → AreTasks all above [] → AreMended w n.acting above → may_write ≡ n.acting.task.has c
    go [] a h = sym (h c)
    go (j ∷ above) a h = absurd a

pub none_of : {P : Type 0} (b : Bool) → (IsTrue b ↔ P) → b ≡ true → P
none_of b i e = i.0 e

pub some_of : {P : Type 0} (b : Bool) → (IsTrue b ↔ P) → b ≡ false → P → ⊥
some_of b i e p =
    let x : b ≡ true = i.1 p in
    let y : true ≡ false = sym x ∙ e in
    cc

reverse_some : (ks : List OpenTask) → (ks ≡ [] → ⊥) → reverse ks ≡ [] → ⊥
reverse_some ks h e = h (sym (reverse-reverse ks) ∙ ap reverse e)

pub child_has : (ks : List TaskLacks) (old : Following) (c : ℕ) (clause : Option Clause) → (old.above ≡ [] → ⊥) → clause ≡ said_in ks old.current.number c
    → (all : List Item) (w : Mended) (n : Nest Holding) → AreSaid w ks → IsFollowing all w n old → clause ≡ n.acting.task.has c
child_has ks old c clause some is all w n said s = go n.above (reverse old.above) refl s.older s.mended
  where
    go : (above : List (Numbered Holding)) (rs : List OpenTask) → rs ≡ reverse old.above → AreTasks all above rs → AreMended w n.acting above → clause ≡ n.acting.task.has c
    go [] [] r a h = absurd (reverse_some old.above some (sym r))
    go [] (x ∷ rs) r a h = absurd a
    go (j ∷ above) rs r a h = is ∙ ap (λ (k : ℕ). said_in ks k c) s.current.number ∙ sym (said n.acting.number c) ∙ sym (h.0 c)

-- What clauses say.
pub said_here : (ks : List TaskLacks) (n c : ℕ) (k : TaskLacks) (v : Option Clause) → n < length ks → k ≡ get_or ks n k → v ≡ said_by (Some k) c → v ≡ said_in ks n c
said_here ks n c k v l is e = e ∙ ap (λ (o : Option TaskLacks). said_by o c) (ap (λ (x : TaskLacks). Some x) is ∙ sym (slice_get-get_or ks n k l))

pub said_past : (ks : List TaskLacks) (n c : ℕ) → length ks ≤ n → None ≡ said_in ks n c
said_past ks n c l = ap (λ (o : Option TaskLacks). said_by o c) (sym (slice_get_past ks n l))

-- A creator gives its child what the clauses of that say.
abbrev pub Gives : List Grid → ℕ → ℕ → Bool → (ℕ → Option Clause) → HoldingTask → HoldingTask → Type 0
Gives layout created line lends said old new = Leads layout (IsUseThen (λ c. is_some (said c)) line (lent_when lends created line said)) old new

pub gives_here : (layout : List Grid) (ks : List TaskLacks) (n created line : ℕ) (lends : Bool) (k : TaskLacks) (old new : HoldingTask) → n < length ks → k ≡ get_or ks n k
    → Gives layout created line lends (all_counted k.is_final (value_at k.mending.clauses.pieces)) old new → Gives layout created line lends (said_in ks n) old new
gives_here layout ks n created line lends k old new l is h =
    let each : (c : ℕ) → said_by (Some k) c ≡ said_in ks n c = λ c. said_here ks n c k (said_by (Some k) c) l is refl in
    subst (λ (said : ℕ → Option Clause). Gives layout created line lends said old new) (fun_ext each) h

pub gives_nothing : (layout : List Grid) (ks : List TaskLacks) (n created line : ℕ) (lends : Bool) (t : HoldingTask) → length ks ≤ n → Gives layout created line lends (said_in ks n) t t
gives_nothing layout ks n created line lends t l = subst (λ (said : ℕ → Option Clause). Gives layout created line lends said t t) (fun_ext each) (go lends)
  where
    each : (c : ℕ) → None ≡ said_in ks n c
    each c = said_past ks n c l

    go : (b : Bool) → Gives layout created line b (λ c. None) t t
    go true all h laid s = (h, (record { used = h; use_is = none (λ c x y. let z : false ≡ true = x in absurd cc); new_is = refl }, s))
    go false all h laid s = (h, (record { used = h; use_is = none (λ c x y. let z : false ≡ true = x in absurd cc); new_is = refl }, s))

-- A creation.
reversed : (rest : List OpenTask) (k : OpenTask) → reverse (rest ++ k ∷ []) ≡ k ∷ reverse rest
reversed rest k = reverse-append rest (k ∷ [])

pub opened_more : (layout : List Grid) (ks : List TaskLacks) (created line : ℕ) (lends : Bool) (number : ℕ) (old new : Following) (creator child : HoldingTask)
    → IsOneMore old.told.items new.told.items number → Gives layout created line lends (said_in ks number) old.current.task creator
    → ((all : List Item) (path : List ℕ) (line : ℕ) (clauses : ℕ → Option Clause) → IsHolding all (new_task path line clauses) child)
    → new.current ≡ record { number = number; task = child } → new.above ≡ old.above ++ record { number = old.current.number; task = creator } ∷ []
    → Steps layout ks (IsOpened created line lends) old new
opened_more layout ks created line lends number old new creator child more gives born current above all w n laid said s =
    let number_is : number ≡ length n.ended = more.number_is ∙ sym (told_length all n.ended old.told.items s.told) in
    let each : (c : ℕ) → said_in ks number c ≡ w number c = λ c. sym (said number c) in
    let said_number : said_in ks number ≡ w number = fun_ext each in
    let said_is : said_in ks number ≡ w (length n.ended) = said_number ∙ ap w number_is in
    let gives_w : Gives layout created line lends (w (length n.ended)) old.current.task creator = subst (λ (f : ℕ → Option Clause). Gives layout created line lends f old.current.task creator) said_is gives in
    let k = gives_w all n.acting.task laid s.current.holds in
    let u = k.1.0.used in
    let use_is : IsUse (λ d. is_some (w (length n.ended) d)) line n.acting.task u = k.1.0.use_is in
    let has : k.0.has ≡ n.acting.task.has = ap (λ (h : Holding). h.has) k.1.0.new_is ∙ lent_has lends created line (w (length n.ended)) u ∙ use_has _ line n.acting.task u use_is in
    let t : Holding = new_task (created ∷ n.acting.task.path) line (w (length n.ended)) in
    let first : IsTask all (record { number = length n.ended; task = t }) (record { number = number; task = child }) = record { number = number_is; holds = born all (created ∷ n.acting.task.path) line (w (length n.ended)) } in
    let second : IsTask all (record { number = n.acting.number; task = k.0 }) (record { number = old.current.number; task = creator }) = record { number = s.current.number; holds = k.1.1 } in (
      opened t (with_acting k.0 n),
      (
        record { used = u; use_is = use_is; new_is = ap (λ (h : Holding). opened t (with_acting h n)) k.1.0.new_is },
        record {
          current = subst (λ (x : OpenTask). IsTask all (record { number = length n.ended; task = t }) x) (sym current) first;
          older = subst (λ (xs : List OpenTask). AreTasks all (record { number = n.acting.number; task = k.0 } ∷ n.above) xs) (sym (ap reverse above ∙ reversed old.above (record { number = old.current.number; task = creator }))) (second, s.older);
          mended = (λ c. refl, mended_now w n.acting n.above k.0 has s.mended);
          told = subst (λ (xs : List (List Late)). AreTold all (n.ended ++ None ∷ []) xs) (sym more.more) (told_more all n.ended old.told.items more.slot s.told);
          ends = ends_opened n.acting n.above n.ended s.ends;
        },
      ),
    )

-- The end of a task.
mended_up : (w : Mended) (k : Numbered Holding) (above : List (Numbered Holding)) → AreMended w k above → AreMended w (record { number = k.number; task = k.task }) above
mended_up w k [] h = h
mended_up w k (j ∷ above) h = h

returned : (all : List Item) (w : Mended) (old new : Following) (k : Numbered Holding) (above : List (Numbered Holding)) (ended : List (Option Holding)) → Follows all w k above ended old → IsReturned old new
    → Follows all w (closed_to tell_nothing k above ended).acting (closed_to tell_nothing k above ended).above (closed_to tell_nothing k above ended).ended new
returned all w old new k [] ended s back =
    absurd (subst (λ (ks : List OpenTask). AreTasks all [] ks) (ap reverse back.above ∙ reversed new.above back.creator) s.older)
returned all w old new k (creator ∷ above) ended s back =
    let tasks : AreTasks all (creator ∷ above) (back.creator ∷ reverse new.above) = subst (λ (ks : List OpenTask). AreTasks all (creator ∷ above) ks) (ap reverse back.above ∙ reversed new.above back.creator) s.older in
    let lines : new.told.items ≡ slice_set old.told.items k.number old.current.task.told = back.told ∙ ap (λ (i : ℕ). slice_set old.told.items i old.current.task.told) s.current.number in
    record {
      current = subst (λ (x : OpenTask). IsTask all (record { number = creator.number; task = creator.task }) x) (sym back.current) (record { number = tasks.0.number; holds = tasks.0.holds });
      older = tasks.1;
      mended = mended_up w creator above s.mended.1;
      told = subst (λ (xs : List (List Late)). AreTold all (slice_set ended k.number (Some k.task)) xs) (sym lines) (told_set all ended old.told.items k.number k.task old.current.task.told s.told s.current.holds.told);
      ends = s.ends.1 k.task;
    }

pub closed_some : (old new : Following) → IsReturned old new → IsClosed old new true
closed_some old new back = record {
  ends = λ all w n s. returned all w old new n.acting n.above n.ended s back;
  last = λ e. let x : true ≡ false = e in absurd cc;
  less = λ e. let l = ap (λ (cs : List OpenTask). length cs) back.above in let k = length-append new.above (back.creator ∷ []) in omega (arith, l, k);
}

none_above : (all : List Item) (w : Mended) (k : Numbered Holding) (above : List (Numbered Holding)) (ended : List (Option Holding)) (f : Following) → Follows all w k above ended f → f.above ≡ [] → above ≡ []
none_above all w k [] ended f s e = refl
none_above all w k (c ∷ above) ended f s e = absurd (subst (λ (cs : List OpenTask). AreTasks all (c ∷ above) cs) (ap reverse e) s.older)

stays : (all : List Item) (w : Mended) (k : Numbered Holding) (above : List (Numbered Holding)) (ended : List (Option Holding)) (f : Following) → Follows all w k above ended f → above ≡ []
    → Follows all w (closed_to tell_nothing k above ended).acting (closed_to tell_nothing k above ended).above (closed_to tell_nothing k above ended).ended f
stays all w k [] ended f s e = s
stays all w k (c ∷ above) ended f s e = let x : c ∷ above ≡ [] = e in absurd cc

else_stays : (all : List Item) (w : Mended) (k : Numbered Holding) (above : List (Numbered Holding)) (ended : List (Option Holding)) (old new : Following) → new.current ≡ old.current → new.above ≡ old.above → new.told ≡ old.told
    → Follows all w k above ended old → Follows all w k above ended new
else_stays all w k above ended old new current over lines s = record {
  current = subst (λ (x : OpenTask). IsTask all k x) (sym current) s.current;
  older = subst (λ (ks : List OpenTask). AreTasks all above ks) (ap reverse (sym over)) s.older;
  mended = s.mended;
  told = subst (λ (v : _). AreTold all ended v.items) (sym lines) s.told;
  ends = s.ends;
}

pub closed_none : (old new : Following) → old.above ≡ [] → new.current ≡ old.current → new.above ≡ old.above → new.told ≡ old.told → IsClosed old new false
closed_none old new e current over lines = record {
  ends = λ all w n s. stays all w n.acting n.above n.ended new (else_stays all w n.acting n.above n.ended old new current over lines s) (none_above all w n.acting n.above n.ended old s e);
  last = λ x all w n s. none_above all w n.acting n.above n.ended old s e;
  less = λ e. let x : false ≡ true = e in absurd cc;
}

-- All that are open end

-- What is kept has come from what was kept to this by some ends.
pub record HasClosed (all : List Item) (w : Mended) (old now : Following) (n : Nest Holding) : Type 0 where
  pub nest : Nest Holding
  pub follows : IsFollowing all w nest now
  pub same : at_stop nest ≡ at_stop n

abbrev pub ClosesOn : Following → Following → Type 0
ClosesOn old now = (all : List Item) (w : Mended) (n : Nest Holding) → IsFollowing all w n old → HasClosed all w old now n

pub closes_none : (f : Following) → ClosesOn f f
closes_none f all w n s = record { nest = n; follows = s; same = refl }

stop_same : (k : Numbered Holding) (above : List (Numbered Holding)) (ended : List (Option Holding)) → at_stop (closed_to tell_nothing k above ended) ≡ at_stop (record { acting = k; above = above; ended = ended })
stop_same k [] ended = refl
stop_same k (creator ∷ above) ended = refl

pub closes_more : (old mid new : Following) (more : Bool) → ClosesOn old mid → IsClosed mid new more → ClosesOn old new
closes_more old mid new more on step all w n s =
    let k = on all w n s in
    record { nest = closed tell_nothing k.nest; follows = step.ends all w k.nest k.follows; same = stop_same k.nest.acting k.nest.above k.nest.ended ∙ k.same }

stop_main : (all : List Item) (w : Mended) (k : Numbered Holding) (above : List (Numbered Holding)) (ended : List (Option Holding)) (f : Following) → Follows all w k above ended f → above ≡ []
    → AreLines all (at_stop (record { acting = k; above = above; ended = ended })).acting.task.told f.current.task.told
stop_main all w k [] ended f s e = s.current.holds.told
stop_main all w k (c ∷ above) ended f s e = let x : c ∷ above ≡ [] = e in absurd cc

stop_tasks : (all : List Item) (w : Mended) (k : Numbered Holding) (above : List (Numbered Holding)) (ended : List (Option Holding)) (f : Following) → Follows all w k above ended f → above ≡ []
    → AreTaskLines all (at_stop (record { acting = k; above = above; ended = ended })).ended f.told.items
stop_tasks all w k [] ended f s e = all_told all ended f.told.items s.ends s.told
stop_tasks all w k (c ∷ above) ended f s e = let x : c ∷ above ≡ [] = e in absurd cc

pub closes_last : (old mid new : Following) → ClosesOn old mid → IsClosed mid new false → HaveEnded old new
closes_last old mid new on step = record {
  main = λ all w n s. let k = on all w n s in let j = now all w k.nest k.follows in
      subst (λ (m : Nest Holding). AreLines all m.acting.task.told new.current.task.told) (stop_same k.nest.acting k.nest.above k.nest.ended ∙ k.same)
      (stop_main all w (closed tell_nothing k.nest).acting (closed tell_nothing k.nest).above (closed tell_nothing k.nest).ended new j (still k.nest.acting k.nest.above k.nest.ended (step.last refl all w k.nest k.follows)));
  tasks = λ all w n s. let k = on all w n s in let j = now all w k.nest k.follows in
      subst (λ (m : Nest Holding). AreTaskLines all m.ended new.told.items) (stop_same k.nest.acting k.nest.above k.nest.ended ∙ k.same)
      (stop_tasks all w (closed tell_nothing k.nest).acting (closed tell_nothing k.nest).above (closed tell_nothing k.nest).ended new j (still k.nest.acting k.nest.above k.nest.ended (step.last refl all w k.nest k.follows)));
}
  where
    now : (all : List Item) (w : Mended) (m : Nest Holding) → IsFollowing all w m mid → IsFollowing all w (closed tell_nothing m) new
    now all w m s = step.ends all w m s

    still : (k : Numbered Holding) (above : List (Numbered Holding)) (ended : List (Option Holding)) → above ≡ [] → (closed_to tell_nothing k above ended).above ≡ []
    still k [] ended e = refl
    still k (c ∷ above) ended e = let x : c ∷ above ≡ [] = e in absurd cc

-- Main alone.
pub first_follows : (k : Following) → ((all : List Item) (path : List ℕ) (line : ℕ) (clauses : ℕ → Option Clause) → IsHolding all (new_task path line clauses) k.current.task)
    → k.current.number ≡ 0 → k.above ≡ [] → k.told.items ≡ [] → (all : List Item) (w : Mended) → IsFollowing all w (alone main_holding) k
first_follows k born number above lines all w = record {
  current = record { number = number; holds = born all [] 0 main_holding.has };
  older = subst (λ (ks : List OpenTask). AreTasks all [] ks) (ap reverse (sym above)) tt;
  mended = λ c. refl;
  told = subst (λ (ls : List (List Late)). AreTold all [] ls) (sym lines) tt;
  ends = tt;
}

-- What is noted of one ask.

steps_to : (layout : List Grid) (ks : List TaskLacks) (Goes Comes : Mended → Nest Holding → Nest Holding → Type 0) (old new : Following) → ((w : Mended) (n m : Nest Holding) → Goes w n m → Comes w n m)
    → Steps layout ks Goes old new → Steps layout ks Comes old new
steps_to layout ks Goes Comes old new turn h all w n laid said s = let k = h all w n laid said s in (k.0, (turn w n k.0 k.1.0, k.1.1))

-- Of this ask nothing is noted.
abbrev pub IsSilent : Ask CodeScript → Type 0
IsSilent Ask.Begin = Unit {0}
IsSilent Ask.Tick = Unit {0}
IsSilent Ask.Await = Unit {0}
IsSilent (Ask.Print text) = Unit {0}
IsSilent (Ask.Fails kind) = Unit {0}
IsSilent _ = ⊥

silent : (w : Mended) (f : Frame CodeScript) (q : Ask CodeScript) (line : ℕ) (n m : Nest Holding) → IsSilent q → m ≡ n → IsBehindAsk w f q line n m
silent w f Ask.Begin line n m p e = e
silent w f Ask.Tick line n m p e = e
silent w f (Ask.Read c) line n m p e = absurd p
silent w f (Ask.Write c v) line n m p e = absurd p
silent w f (Ask.Fold c op v) line n m p e = absurd p
silent w f (Ask.Create o) line n m p e = absurd p
silent w f Ask.Await line n m p e = e
silent w f Ask.Wait line n m p e = absurd p
silent w f (Ask.WaitOn named) line n m p e = absurd p
silent w f (Ask.Release clauses) line n m p e = absurd p
silent w f (Ask.Print text) line n m p e = e
silent w f Ask.End line n m p e = absurd p
silent w f (Ask.Fails kind) line n m p e = e

module _ (layout : List Grid) (ks : List TaskLacks) (line created : ℕ) (final : Bool) where
  abbrev pub Notes : Ask CodeScript → Following → Following → Type 0
  Notes q old new = Steps layout ks (IsNoted q line created final) old new

  asked_so : (code q : CodeAsk) (old new : Following) → code ≡ q → Notes (meant_ask q) old new → Notes (meant_ask code) old new
  asked_so code q old new e h = subst (λ (x : CodeAsk). Notes (meant_ask x) old new) (sym e) h

  -- of which holds what holds behind it for each task that asks it
  noted : (Goes : Mended → Nest Holding → Nest Holding → Type 0) (code q : CodeAsk) (old new : Following) → code ≡ q
      → ((w : Mended) (n m : Nest Holding) → Goes w n m → (f : Frame CodeScript) → n.acting.task.path ≡ f.path → created ≡ f.context.created → final ≡ f.context.final → IsBehindAsk w f (meant_ask q) line n m)
      → Steps layout ks Goes old new → Notes (meant_ask code) old new
  noted Goes code q old new e turn h = asked_so code q old new e (steps_to layout ks Goes (IsNoted (meant_ask q) line created final) old new (λ w n m g. record { behind = turn w n m g }) h)

  pub noted_read : (code : CodeAsk) (c : ℕ) (old new : Following) → code ≡ asked.Read c → Steps layout ks (λ w n m. IsTouched Reads c line n m) old new → Notes (meant_ask code) old new
  noted_read code c old new e h = noted (λ w n m. IsTouched Reads c line n m) code (asked.Read c) old new e (λ w n m g f way made last. g) h

  pub noted_write : (code : CodeAsk) (c v : ℕ) (old new : Following) → code ≡ asked.Write c v → Steps layout ks (λ w n m. IsTouched Writes c line n m) old new → Notes (meant_ask code) old new
  noted_write code c v old new e h = noted (λ w n m. IsTouched Writes c line n m) code (asked.Write c v) old new e (λ w n m g f way made last. g) h

  pub noted_fold : (code : CodeAsk) (c : ℕ) (op : Op) (v : ℕ) (old new : Following) → code ≡ asked.Fold c op v → Steps layout ks (λ w n m. IsTouched (Folds op) c line n m) old new → Notes (meant_ask code) old new
  noted_fold code c op v old new e h = noted (λ w n m. IsTouched (Folds op) c line n m) code (asked.Fold c op v) old new e (λ w n m g f way made last. g) h

  pub noted_release : (code : CodeAsk) (clauses xs : List Access) (old new : Following) → code ≡ asked.Release clauses → xs ≡ clauses → Steps layout ks (λ w n m. IsDirective (in_clauses xs) line (releases xs) n m) old new → Notes (meant_ask code) old new
  noted_release code clauses xs old new e x h =
      noted (λ w n m. IsDirective (in_clauses clauses) line (releases clauses) n m) code (asked.Release clauses) old new e (λ w n m g f way made last. g)
      (subst (λ (ys : List Access). Steps layout ks (λ w n m. IsDirective (in_clauses ys) line (releases ys) n m) old new) x h)

  same_cells : (ranges : List Range) (c : ℕ) → in_ranges ranges c ≡ in_clauses (declared_on waiting ranges) c
  same_cells [] c = refl
  same_cells (r ∷ rest) c = ap (λ (b : Bool). is_within r.lo r.hi c || b) (same_cells rest c)

  abbrev WaitsBy : (ℕ → Bool) → Nest Holding → Nest Holding → Type 0
  WaitsBy test n m = IsDirective test line (λ h. with_lent (waited_for test h.lent) h) n m

  pub noted_wait_on : (code : CodeAsk) (ranges xs : List Range) (old new : Following) → code ≡ asked.WaitOn ranges → xs ≡ ranges → Steps layout ks (λ w n m. IsDirective (in_ranges xs) line (waits_for xs) n m) old new → Notes (meant_ask code) old new
  noted_wait_on code ranges xs old new e x h =
      noted (λ w n m. WaitsBy (in_ranges ranges) n m) code (asked.WaitOn ranges) old new e (λ w n m g f way made last. subst (λ (test : ℕ → Bool). WaitsBy test n m) (fun_ext (λ c. same_cells ranges c)) g)
      (subst (λ (ys : List Range). Steps layout ks (λ w n m. WaitsBy (in_ranges ys) n m) old new) x h)

  pub noted_wait : (code : CodeAsk) (old new : Following) → code ≡ asked.Wait → LeadsTo (with_lent nothing_lent) old.current.task new.current.task → IsElse old new → Notes (meant_ask code) old new
  noted_wait code old new e h same =
      noted (λ w n m. m ≡ with_acting (with_lent nothing_lent n.acting.task) n) code asked.Wait old new e (λ w n m g f way made last. g)
      (λ all w n laid said s. (with_acting (with_lent nothing_lent n.acting.task) n, (refl, acting_now all w n (with_lent nothing_lent n.acting.task) old new refl s (h all n.acting.task s.current.holds) same)))

  pub noted_end : (code : CodeAsk) (old new : Following) (more : Bool) → code ≡ asked.End → IsClosed old new more → Notes (meant_ask code) old new
  noted_end code old new more e h =
      noted (λ w n m. m ≡ closed tell_nothing n) code asked.End old new e (λ w n m g f way made last. g) (λ all w n laid said s. (closed tell_nothing n, (refl, h.ends all w n s)))

  -- Of the other asks nothing is.
  pub noted_none : (code q : CodeAsk) (k : Following) → code ≡ q → IsSilent (meant_ask q) → Notes (meant_ask code) k k
  noted_none code q k e p = noted (λ w n m. m ≡ n) code q k k e (λ w n m g f way made last. silent w f (meant_ask q) line n m p g) (λ all w n laid said s. (n, (refl, s)))

  -- A creation.
  opened_by : (w : Mended) (n m : Nest Holding) (o : Order CodeScript) (lends : Bool) → lends ≡ (o.when && not final) → IsOpened created line lends w n m → (f : Frame CodeScript) → n.acting.task.path ≡ f.path → created ≡ f.context.created
      → final ≡ f.context.final → IsBehindAsk w f (Ask.Create o) line n m
  opened_by w n m o lends lent h f way made last = record {
    used = h.used;
    use_is = h.use_is;
    new_is = h.new_is
        ∙ ap (λ (b : Bool). opened (new_task (created ∷ n.acting.task.path) line (w (length n.ended))) (with_acting (lent_when b created line (w (length n.ended)) h.used) n)) (lent ∙ ap (λ (x : Bool). o.when && not x) last)
        ∙ ap (λ (k : ℕ). opened (new_task (k ∷ n.acting.task.path) line (w (length n.ended))) (with_acting (lent_when (o.when && not f.context.final) k line (w (length n.ended)) h.used) n)) made
        ∙ ap (λ (p : List ℕ). opened (new_task (f.context.created ∷ p) line (w (length n.ended))) (with_acting (lent_when (o.when && not f.context.final) f.context.created line (w (length n.ended)) h.used) n)) way;
  }

  pub noted_create : (code : CodeAsk) (o t : TaskOrder) (lends : Bool) (old new : Following) → code ≡ asked.Create o → t ≡ o → lends ≡ (t.when && not final) → Steps layout ks (IsOpened created line lends) old new → Notes (meant_ask code) old new
  noted_create code o t lends old new e got lent h =
      noted (IsOpened created line lends) code (asked.Create o) old new e (λ w n m g f way made last. opened_by w n m (meant_order o) lends (lent ∙ ap (λ (x : TaskOrder). x.when && not final) got) g f way made last) h
