-- How a `Boxed` stores its value, so that a type may hold boxes of itself: it is seen as that value alone.
use mathlib.Core.Path.{refl}
use mathlib.Core.Former.{Former, this, const, pair, via}
use base.Stored.{gnil}
use base.Fml.{ftrue}
use denote.RattleType.{RattleType}
use denote.Memory.{part_of}
use denote.RawPtr.{Ptr}
use denote.Sharing.{nothing}
use denote.HoleLaws.{Alike}
use denote.HolePlaces.{Recodes, struct_places, laid, one_value}
use denote.Hole.Fix.{over}
use denote.Param.Weighed.{Weighed}
use denote.Model.Placed.{view_places}
use Rattle.std.specs.declared.boxed.Box.{Box}
use Rattle.std.specs.contracts.boxed.Box as heap_box
use Rattle.std.specs.declared.alloc.Global.{Global}
use Rattle.std.specs.contracts.alloc.Global as global
use Rattle.std.specs.contracts.impls.GlobalAllocator.TheImpl.{ghosts}
use Rattle.oss_syntax.specs.declared.boxed.Boxed.TheInside.{Inside}
use Rattle.oss_syntax.specs.declared.boxed.Boxed.TheView.{view, invariant}
use Rattle.oss_syntax.specs.contracts.boxed.Boxed as whole
use Rattle.oss_syntax.specs.contracts.boxed.Boxed.TheInside as inside

abbrev pub the_former : Former {0} → Former {0}
the_former value = value

abbrev pub the_weighed : {value : Former {0}} → Weighed value → Weighed (the_former value)
the_weighed weight = weight

-- a box: the pointer and the allocator, and beside them the value
abbrev stored : Former {0}
stored = via (pair (const (Ptr × Global)) this) Inside (λ X fields. ((fields.place.ptr, fields.place.alloc), fields.place.value))
    (λ X parts. record { place = record { ptr = parts.0.0; alloc = parts.0.1; value = parts.1 } }) (λ X fields. refl) (λ X parts. refl)

-- the same place with another value
abbrev holding : {X Y : Type 0} → Y → Box X Global → Box Y Global
holding value place = record { ptr = place.ptr; alloc = place.alloc; value = value }

abbrev box_row : RattleType → RattleType
box_row value = heap_box.the_row value global.the_row ghosts

module _ (From To : RattleType) (change : From.Denot → To.Denot) where
  abbrev placed : Box From.Denot Global → Box To.Denot Global
  placed place = holding (change place.value) place

  boxes_alike : Alike From To change → Alike (box_row From) (box_row To) placed
  unfolding part_of
  boxes_alike alike = record {
    mir_same = λ i. (box_row (one_value From (alike.mir_same i) (λ _. ftrue) (λ _ _. nothing) gnil)).mir;
    own_same = λ place i. (box_row (one_value From (alike.mir_same i) (alike.own_same place.value i) (alike.shr_same place.value i) gnil)).own_val (holding tt place);
    shr_same = λ place i. (box_row (one_value From (alike.mir_same i) (alike.own_same place.value i) (alike.shr_same place.value i) gnil)).shr_at (holding tt place);
  }

  pub the_places : Alike From To change → Alike (whole.the_row From) (whole.the_row To) ((the_former this).map From.Denot To.Denot change)
  the_places alike =
      let fields = struct_places (inside.the_type From) (inside.the_type To) (placed, tt) _ (λ old. refl) refl (laid _ _ _ (boxes_alike alike), tt) in
      view_places stored this view (λ X Y f value. refl) (λ X value. refl) From.Denot To.Denot change (whole.the_row From).coded (whole.the_row To).coded
      (invariant From.Denot) (invariant To.Denot) (λ old p q. refl) (λ old p q. refl) (λ old is. tt) (λ old is. tt)
      (over (inside.the_row From)) (over (inside.the_row To)) fields

  pub the_codes_placed : Recodes From To change → Recodes (whole.the_row From) (whole.the_row To) ((the_former this).map From.Denot To.Denot change)
  the_codes_placed recoded value = recoded value
