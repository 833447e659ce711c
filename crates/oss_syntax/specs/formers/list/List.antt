-- How a `List` stores its items, so that a type may hold lists of itself: its shape is that of the list that it is seen as.
use mathlib.Core.Path.{◌≡◌, refl, sym}
use mathlib.Core.List.{List as Items, []}
use mathlib.Core.Former.{Former, this, list as list_former, via, children}
use base.Stored.{code_map}
use denote.RattleType.{RattleType}
use denote.HoleLaws.{Alike}
use denote.HolePlaces.{Recodes, struct_places, laid}
use denote.Hole.Carrier.{listed, list-listed}
use denote.Hole.Fix.{over}
use denote.Param.Weighed.{Weighed, w_list}
use denote.Model.Placed.{view_places}
use Rattle.std.specs.formers.vec.Vec as vector
use Rattle.std.specs.declared.alloc.Global.{Global}
use Rattle.std.specs.contracts.alloc.Global as global
use Rattle.std.specs.contracts.impls.GlobalAllocator.TheImpl.{ghosts}
use Rattle.oss_syntax.specs.declared.list.List.TheInside.{Inside}
use Rattle.oss_syntax.specs.declared.list.List.TheView.{view, invariant}
use Rattle.oss_syntax.specs.contracts.list.List as whole
use Rattle.oss_syntax.specs.contracts.list.List.TheInside as inside

abbrev pub the_former : Former {0} → Former {0}
the_former item = list_former item

abbrev pub the_weighed : {item : Former {0}} → Weighed item → Weighed (the_former item)
the_weighed weight = w_list weight

-- the empty list holds no item
pub the_empty : Items ⊥
the_empty = []

-- the items, in order
abbrev pub the_items : (X : Type 0) → Items X → Items X
the_items X items = items

pub the_items_listed : (X : Type 0) (items : Items X) → listed _ (children (the_former this) X items) ≡ the_items X items
the_items_listed X items = list-listed X items

-- the fields: one vector
abbrev stored : Former {0}
stored = via (vector.the_former this Global) Inside (λ X fields. fields.items) (λ X items. record { items = items }) (λ X fields. refl) (λ X items. refl)

module _ (From To : RattleType) (change : From.Denot → To.Denot) where
  abbrev pub changed : Items From.Denot → Items To.Denot
  changed = (the_former this).map From.Denot To.Denot change

  pub the_places : Alike From To change → Alike (whole.the_row From) (whole.the_row To) changed
  the_places alike =
      let vectors = vector.the_places global.the_row ghosts From To change alike in
      let fields = struct_places (inside.the_type From) (inside.the_type To) (vector.mapped change, tt) _ (λ old. refl) refl (laid _ _ _ vectors, tt) in
      view_places stored (list_former this) view (λ X Y f items. refl) (λ X items. refl) From.Denot To.Denot change (whole.the_row From).coded (whole.the_row To).coded
      (invariant From.Denot) (invariant To.Denot) (λ old p q. refl) (λ old p q. refl) (λ old is. tt) (λ old is. tt)
      (over (inside.the_row From)) (over (inside.the_row To)) fields

  pub the_codes_placed : Recodes From To change → Recodes (whole.the_row From) (whole.the_row To) changed
  the_codes_placed recoded items = sym (code_map From.coded.code To.coded.code change (λ item. sym (recoded item)) items)
