-- The plain lists after each call.
use Rattle.std.proofs.Common.{◌≡◌, ℕ, ◌+◌, ◌<◌, ◌≤◌, refl, sym, ap, subst, ◌∙◌, List, [], ◌∷◌, ◌++◌, ◌⊎◌, inl, inr, Bool, true, false, Option, Some, None, arith, length}
use Rattle.std.specs.Prelude.{◌||◌, slice_get}
use Rattle.oss_syntax.specs.declared.access.Access.{Access}
use Rattle.oss_syntax.specs.declared.access.Range.{Range}
use Rattle.oss_model.specs.Order.{IsIn}
use Rattle.oss_ranges.specs.declared.piece.Piece.{Piece}
use Rattle.oss_deps.specs.declared.opened.Open.{Open}
use Rattle.oss_deps.specs.declared.column.Column.{Column}
use Rattle.oss_deps.specs.Opens.{AreOpens, HasCover, IsKnown, IsNested, IsOpened, names}
use Rattle.oss_deps.specs.Seen.{Seen, CanOpen, HasHeldCover, Opens, Prepares, Reserves, is_access_end, is_end}
use Rattle.oss_deps.specs.Kept.{Kept, given_at, is_asked, is_cut, seen_of}
use Rattle.oss_deps.specs.Columns.{IsNumberOf, AreStretches, AreColumns, AreReady, IsReady, IsFiner, AreRight, AreSameButAsked}
use Rattle.oss_deps.specs.Adding.{AreAddable, AreAllGrown}
use Rattle.oss_deps.proofs.Basics.{some_is}
use Rattle.oss_deps.proofs.DivideLemmas.{finer_ready, cut_divides}
use Rattle.oss_deps.proofs.CutLemmas.{asked_columns, asked_given}
use Rattle.oss_deps.proofs.AddLemmas.{all_edged, edged_asked}
use Rattle.oss_deps.proofs.NewLemmas.{opens_none, opens_added, entry_addable, opened_columns, opened_given}

no_some : (accesses : List Access) → None ≡ Some accesses → ⊥
no_some accesses e = absurd cc

pub right_finer : (opens more : List Open) (capacity more_capacity : ℕ) (pieces : List (Piece ℕ)) (columns : List Column) (new_pieces : List (Piece ℕ)) (new_columns : List Column) (reserved : Option (List Access))
    → AreRight opens capacity pieces columns reserved → IsFiner pieces columns new_pieces new_columns → more ≡ opens → capacity ≤ more_capacity → AreRight more more_capacity new_pieces new_columns reserved
right_finer opens more capacity more_capacity pieces columns new_pieces new_columns reserved r f e l = record {
  opens_are = subst AreOpens (sym e) r.opens_are;
  columns_are = subst (λ (xs : List Open). AreColumns xs new_pieces new_columns) (sym e) (f.columns_are opens r.columns_are);
  ready = finer_ready pieces columns new_pieces new_columns f reserved r.ready;
  room = λ accesses h. omega (arith, r.room accesses h, ap length e, l);
}

pub right_new : (opens : List Open) (capacity : ℕ) (pieces : List (Piece ℕ)) (columns : List Column) → opens ≡ [] → pieces ≡ [] → columns ≡ [] → AreRight opens capacity pieces columns None
right_new opens capacity pieces columns e f g = record {
  opens_are = subst AreOpens (sym e) opens_none;
  columns_are = subst (λ (xs : List Column). AreColumns opens pieces xs) (sym g) (subst (λ (ps : List (Piece ℕ)). AreColumns opens ps []) (sym f) nothing);
  ready = tt;
  room = λ accesses h. absurd (no_some accesses h);
}
  where
    no_value : {i : ℕ} → None ≡ Some i → ⊥
    no_value e = absurd cc

    no_column : {a : Column} → None ≡ Some a → ⊥
    no_column e = absurd cc

    nothing : AreColumns opens [] []
    nothing = record {
      stretches = record { here = λ c i h. absurd (no_value h); there = λ i a c h. absurd (no_column h); some = λ i a h. absurd (no_column h); whole = inl refl };
      right = λ i a c h. absurd (no_column h);
      none = λ z. e;
    }

-- The reserved accesses.
pub right_reserved : (opens more : List Open) (capacity more_capacity : ℕ) (pieces : List (Piece ℕ)) (columns : List Column) (new_pieces : List (Piece ℕ)) (new_columns : List Column) (reserved : Option (List Access)) (accesses copy : List Access)
    → AreRight opens capacity pieces columns reserved → IsFiner pieces columns new_pieces new_columns → more ≡ opens → length more < more_capacity → (new_columns ≡ [] → ⊥) → copy ≡ accesses → ((a : Access) → IsIn a accesses → IsReady new_columns a.range.lo a.range.hi)
    → AreRight more more_capacity new_pieces new_columns (Some copy)
right_reserved opens more capacity more_capacity pieces columns new_pieces new_columns reserved accesses copy r f e l some same ready = record {
  opens_are = subst AreOpens (sym e) r.opens_are;
  columns_are = subst (λ (xs : List Open). AreColumns xs new_pieces new_columns) (sym e) (f.columns_are opens r.columns_are);
  ready = (some, λ a i. ready a (subst (λ (xs : List Access). IsIn a xs) same i));
  room = λ accesses h. l;
}

-- More begins of stretches are cuts, and nothing is reserved.
pub right_asked : (opens : List Open) (capacity : ℕ) (pieces : List (Piece ℕ)) (columns new_columns : List Column) → AreOpens opens → AreColumns opens pieces columns → AreSameButAsked columns new_columns → AreRight opens capacity pieces new_columns None
right_asked opens capacity pieces columns new_columns are k f = record {
  opens_are = are;
  columns_are = asked_columns opens pieces columns new_columns f k;
  ready = tt;
  room = λ accesses h. absurd (no_some accesses h);
}

cut_same : (columns new_columns : List Column) (ended : Bool) (k : ℕ) → is_asked new_columns k ≡ is_asked columns k → is_cut new_columns ended k ≡ is_cut columns ended k
cut_same columns new_columns ended k e = ap (λ (x : Bool). x || (Rattle.std.specs.Prelude.◌&&◌ ended (Rattle.std.specs.Prelude.◌==◌ k 1048576))) e

module _ (view seen : Kept) (is : view ≡ seen) (capacity : ℕ) (right : AreRight view.opens capacity view.pieces view.columns view.reserved) where
  same_opens : view.opens ≡ seen.opens
  same_opens = ap (λ (k : Kept). k.opens) is

  same_given : (t c : ℕ) → given_at view.pieces view.columns t c ≡ given_at seen.pieces seen.columns t c
  same_given t c = ap (λ (k : Kept). given_at k.pieces k.columns t c) is

  same_cut : (k : ℕ) → is_cut view.columns view.ended k ≡ is_cut seen.columns seen.ended k
  same_cut k = ap (λ (x : Kept). is_cut x.columns x.ended k) is

  pub view_divides : (k : ℕ) → (seen_of seen).cut k ≡ true → Rattle.oss_deps.specs.Columns.IsDivided view.columns k
  view_divides k h = cut_divides view.pieces view.columns view.ended k right.columns_are.stretches (same_cut k ∙ h)

  pub reserves : (new : Kept) (accesses : List Access) → new.opens ≡ view.opens → IsFiner view.pieces view.columns new.pieces new.columns → new.ended ≡ view.ended → new.reserved ≡ Some accesses → Reserves accesses (seen_of seen) (seen_of new)
  reserves new accesses e f g h = record {
    opens = e ∙ same_opens;
    given = λ t c. f.given right.columns_are.stretches t c ∙ same_given t c;
    cuts = λ k. ap (λ (x : Bool). is_cut new.columns x k) g ∙ cut_same view.columns new.columns view.ended k (f.asked k) ∙ same_cut k;
    reserved = h;
  }

  pub prepares : (new : Kept) (range : Range) (middle : List Column) → new.opens ≡ view.opens → IsFiner view.pieces view.columns new.pieces middle → AreSameButAsked middle new.columns → ((k : ℕ) → is_cut new.columns new.ended k ≡ (is_cut middle view.ended k || is_end range k)) → new.reserved ≡ None
      → Prepares range (seen_of seen) (seen_of new)
  prepares new range middle e f g cuts h = record {
    opens = e ∙ same_opens;
    given = λ t c. asked_given new.pieces middle new.columns g (f.stretches right.columns_are.stretches) t c ∙ f.given right.columns_are.stretches t c ∙ same_given t c;
    cuts = λ k. cuts k ∙ ap (λ (x : Bool). x || is_end range k) (cut_same view.columns middle view.ended k (f.asked k) ∙ same_cut k);
    reserved = h;
  }

  -- the reserved accesses are the ones that were asked for
  pub kept_is : (kept accesses : List Access) → view.reserved ≡ Some kept → seen.reserved ≡ Some accesses → kept ≡ accesses
  kept_is kept accesses e f = some_is (sym e ∙ ap (λ (k : Kept). k.reserved) is ∙ f)

  pub can_kept : (task parent : ℕ) (kept accesses : List Access) → view.reserved ≡ Some kept → seen.reserved ≡ Some accesses → CanOpen (seen_of seen) (record { task = task; parent = parent; accesses = accesses }) → CanOpen (seen_of seen) (record { task = task; parent = parent; accesses = kept })
  can_kept task parent kept accesses e f can = subst (λ (xs : List Access). CanOpen (seen_of seen) (record { task = task; parent = parent; accesses = xs })) (sym (kept_is kept accesses e f)) can

  -- a task that may be opened, by the lists
  pub can_view : (o : Open) → CanOpen (seen_of seen) o → CanOpen (seen_of view) o
  can_view o can = subst (λ (k : Kept). CanOpen (seen_of k) o) (sym is) can

  held_view : (o : Open) → CanOpen (seen_of seen) o → (c : ℕ) → names c o ≡ true → (o.parent ≡ 0) ⊎ (HasCover view.opens c o × (given_at view.pieces view.columns o.parent c ≡ false))
  held_view o can c named = go ((can_view o can).covered c named)
    where
      go : (o.parent ≡ 0) ⊎ HasHeldCover (seen_of view) c o → (o.parent ≡ 0) ⊎ (HasCover view.opens c o × (given_at view.pieces view.columns o.parent c ≡ false))
      go (inl z) = inl z
      go (inr h) = inr (h.cover, h.held)

  module _ (o : Open) (can : CanOpen (seen_of seen) o) (parent : ℕ) (number : IsNumberOf view.opens parent o.parent) (accesses_are : view.reserved ≡ Some o.accesses) where
    ready : AreReady (Some o.accesses) view.columns
    ready = subst (λ (x : Option (List Access)). AreReady x view.columns) accesses_are right.ready

    pub view_known : IsKnown view.opens o.parent
    view_known = (can_view o can).parent

    pub view_some : view.columns ≡ [] → ⊥
    view_some = ready.0

    pub view_ready : (a : Access) → IsIn a o.accesses → IsReady view.columns a.range.lo a.range.hi
    view_ready = ready.1

    pub view_addable : (a : Access) → IsIn a o.accesses → AreAddable view.pieces view.columns parent a.range.lo a.range.hi
    view_addable = entry_addable view.opens view.pieces view.columns right.opens_are right.columns_are o parent number (held_view o can) view_some can.rising view_ready

    module _ (middle : List Column) (n : ℕ) (number_is : n ≡ length view.opens + 1) (grown : AreAllGrown n o.task parent o.accesses view.columns middle) where
      pub view_columns : AreColumns (view.opens ++ o ∷ []) view.pieces middle
      view_columns = opened_columns view.opens view.pieces view.columns right.opens_are right.columns_are o parent number (held_view o can) middle n number_is can.rising view_ready grown view_some

      pub view_opened : (new_columns : List Column) (more_capacity : ℕ) → AreSameButAsked middle new_columns → AreRight (view.opens ++ o ∷ []) more_capacity view.pieces new_columns None
      view_opened new_columns more_capacity f = right_asked (view.opens ++ o ∷ []) more_capacity view.pieces middle new_columns (opens_added (seen_of view) o right.opens_are (can_view o can)) view_columns f

      pub opens_now : (new : Kept) → new.opens ≡ view.opens ++ o ∷ [] → new.pieces ≡ view.pieces → AreSameButAsked middle new.columns → ((k : ℕ) → is_cut new.columns new.ended k ≡ (is_cut middle view.ended k || is_access_end o.accesses k)) → new.reserved ≡ None
          → Opens o (seen_of seen) (seen_of new)
      opens_now new e p f cuts h = record {
        opens = e ∙ ap (λ (xs : List Open). xs ++ o ∷ []) same_opens;
        given = λ t c. ap (λ (ps : List (Piece ℕ)). given_at ps new.columns t c) p ∙ asked_given view.pieces middle new.columns f view_columns.stretches t c
            ∙ opened_given view.opens view.pieces view.columns right.opens_are right.columns_are o parent number (held_view o can) middle n number_is can.rising view_ready grown t c ∙ same_given t c;
        cuts = λ k. cuts k ∙ ap (λ (x : Bool). x || is_access_end o.accesses k) (cut_same view.columns middle view.ended k (edged_asked view.columns middle (all_edged n o.task parent o.accesses view.columns middle grown) k) ∙ same_cut k);
        reserved = h;
      }

-- A task may be opened as before, when accesses are reserved,
pub can_reserved : (accesses : List Access) (old middle : Seen) (o : Open) → Reserves accesses old middle → CanOpen old o → CanOpen middle o
can_reserved accesses old middle o r can = record {
  not_main = can.not_main;
  fresh = subst (λ (xs : List Open). IsOpened xs o.task → ⊥) (sym r.opens) can.fresh;
  parent = subst (λ (xs : List Open). IsKnown xs o.parent) (sym r.opens) can.parent;
  shallow = (can.shallow.0, subst (λ (xs : List Open). IsNested xs o.parent can.shallow.0) (sym r.opens) can.shallow.1, can.shallow.2);
  rising = can.rising;
  covered = λ c named. go c (can.covered c named);
}
  where
    go : (c : ℕ) → (o.parent ≡ 0) ⊎ HasHeldCover old c o → (o.parent ≡ 0) ⊎ HasHeldCover middle c o
    go c (inl z) = inl z
    go c (inr h) = inr (record { cover = subst (λ (xs : List Open). HasCover xs c o) (sym r.opens) h.cover; held = r.given o.parent c ∙ h.held })

-- and what opening it does is the same.
pub opens_reserved : (accesses : List Access) (old middle new : Seen) (o : Open) → Reserves accesses old middle → Opens o middle new → Opens o old new
opens_reserved accesses old middle new o r f = record {
  opens = f.opens ∙ ap (λ (xs : List Open). xs ++ o ∷ []) r.opens;
  given = λ t c. f.given t c ∙ r.given t c;
  cuts = λ k. f.cuts k ∙ ap (λ (x : Bool). x || is_access_end o.accesses k) (r.cuts k);
  reserved = f.reserved;
}
