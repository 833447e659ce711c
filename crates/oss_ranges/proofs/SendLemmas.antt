-- A map may go to another thread where its values may: it owns plain data alone, whatever it keeps its pieces in.
use denote.RattleType.{RattleType}
use denote.Param.Send.{IsSend, sendable, view_send, recorded_send, enum_send, struct_send}
use denote.Enum.Declared as enum
use denote.Struct.Declared as struct
use Rattle.std.proofs.alloc.Global.TheSendSync as heap
use Rattle.std.proofs.Crossing.{crosses}
use Rattle.std.specs.declared.cmp.PartialEq.{Ghosts}
use Rattle.oss_ranges.proofs.tree.Tree.TheLaws.TheKnot.{send-Tree, send-Node}
use Rattle.oss_ranges.proofs.piece.Piece.TheSendSync as piece
use Rattle.oss_ranges.specs.contracts.flat_map.FlatMap as flat_map
use Rattle.oss_ranges.specs.contracts.flat_map.FlatMap.TheInside as in_flat
use Rattle.oss_ranges.specs.contracts.tree_map.TreeMap as tree_map
use Rattle.oss_ranges.specs.contracts.tree_map.TreeMap.TheInside as in_tree
use Rattle.oss_ranges.specs.contracts.store.Store as store
use Rattle.oss_ranges.specs.contracts.map.RangeMap as map
use Rattle.oss_ranges.specs.contracts.map.RangeMap.TheInside as in_map

flat_send : (T : RattleType) → IsSend T → IsSend (flat_map.the_row T)
flat_send T s = view_send (in_flat.the_row T) _ _ _ _ (recorded_send _ _ (in_flat.the_type T).to (in_flat.the_type T).to_one (struct_send (struct.shape (in_flat.the_type T)) (search (sendable, crosses, piece.the_send) depth 40, (search sendable, tt))))

tree_send : (T : RattleType) → IsSend T → IsSend (tree_map.the_row T)
tree_send T s = view_send (in_tree.the_row T) _ _ _ _ (recorded_send _ _ (in_tree.the_type T).to (in_tree.the_type T).to_one (struct_send (struct.shape (in_tree.the_type T)) (search (sendable, crosses, send-Tree, piece.the_send) depth 40, (search (sendable, crosses, send-Node, send-Tree, piece.the_send) depth 40, tt))))

store_send : (T : RattleType) → IsSend T → IsSend (store.the_field T).row
store_send T s =
    let list = flat_send T s in
    let tree = tree_send T s in
    enum_send (enum.shape (store.the_type T)) ((list, tt), ((search (sendable, crosses, tree) depth 40, tt), tt))

pub map_send : (T : RattleType) (e : Ghosts T.Denot) → IsSend T → IsSend (map.the_row T e)
map_send T e s = view_send (in_map.the_row T e) _ _ _ _ (recorded_send _ _ (in_map.the_type T e).to (in_map.the_type T e).to_one (struct_send (struct.shape (in_map.the_type T e)) (heap.the_field_send, (store_send T s, tt))))
