use Rattle.std.proofs.Common.{refl, sym, ap, subst, ◌∙◌, ◌+◌, List, [], ◌∷◌, ◌++◌, Option, None, arith}
use Rattle.std.specs.Prelude.{vec_capacity, ◌||◌}
use Rattle.oss_syntax.specs.declared.access.Access.{Access}
use Rattle.oss_model.specs.Order.{IsIn}
use Rattle.oss_deps.specs.declared.opened.Open.{Open}
use Rattle.oss_deps.specs.Seen.{Opens, is_access_end}
use Rattle.oss_deps.specs.Kept.{is_cut, seen_of}
use Rattle.oss_deps.specs.Columns.{AreRight, IsNumberOf}
use Rattle.oss_deps.specs.Adding.{AreAllGrown}
use Rattle.oss_deps.proofs.AddLemmas.{all_edged, edged_divided}
use Rattle.oss_deps.proofs.PlainLemmas.{can_kept, kept_is, view_addable, view_columns, view_opened, view_ready, opens_now}
use Rattle.oss_deps.proofs.plain.PlainDeps.open_reserved.Goals as goal

pub add_all-requires-clause-addable : goal.add_all-requires-clause-addable
add_all-requires-clause-addable c a i = view_addable (record { opens = c.self.inside.opens.items; pieces = c.self.inside.map.pieces; columns = c.self.inside.columns.items; ended = c.self.inside.ended; reserved = c.self.inside.reserved }) c.args.self.now c.self.view_is (vec_capacity c.self.inside.opens) c.self.invariant (record { task = c.args.task; parent = c.args.parent; accesses = c.in-Some-take.kept }) (can_kept (record { opens = c.self.inside.opens.items; pieces = c.self.inside.map.pieces; columns = c.self.inside.columns.items; ended = c.self.inside.ended; reserved = c.self.inside.reserved }) c.args.self.now c.self.view_is (vec_capacity c.self.inside.opens) c.self.invariant c.args.task c.args.parent c.in-Some-take.kept c.requires.0 (sym c.take.ensures.value ∙ c.in-Some-take.is) c.requires.1 c.requires.2) c.in-Some.creator (subst (λ (xs : List Open). IsNumberOf xs c.in-Some.creator c.args.parent) c.as_slice.ensures.value c.in-Some.ensures.found) (sym c.take.ensures.value ∙ c.in-Some-take.is) a (subst (λ (xs : List Access). IsIn a xs) c.as_slice-2.ensures i)

pub ask_all-requires-clause-stretches : goal.ask_all-requires-clause-stretches
ask_all-requires-clause-stretches c = (view_columns (record { opens = c.self.inside.opens.items; pieces = c.self.inside.map.pieces; columns = c.self.inside.columns.items; ended = c.self.inside.ended; reserved = c.self.inside.reserved }) c.args.self.now c.self.view_is (vec_capacity c.self.inside.opens) c.self.invariant (record { task = c.args.task; parent = c.args.parent; accesses = c.in-Some-take.kept }) (can_kept (record { opens = c.self.inside.opens.items; pieces = c.self.inside.map.pieces; columns = c.self.inside.columns.items; ended = c.self.inside.ended; reserved = c.self.inside.reserved }) c.args.self.now c.self.view_is (vec_capacity c.self.inside.opens) c.self.invariant c.args.task c.args.parent c.in-Some-take.kept c.requires.0 (sym c.take.ensures.value ∙ c.in-Some-take.is) c.requires.1 c.requires.2) c.in-Some.creator (subst (λ (xs : List Open). IsNumberOf xs c.in-Some.creator c.args.parent) c.as_slice.ensures.value c.in-Some.ensures.found) (sym c.take.ensures.value ∙ c.in-Some-take.is) c.add_all.new.columns.items (c.len-number.result + 1) (omega (arith, c.len-number.ensures)) (subst (λ (xs : List Access). AreAllGrown (c.len-number.result + 1) c.args.task c.in-Some.creator xs c.self.inside.columns.items c.add_all.new.columns.items) c.as_slice-2.ensures c.add_all.ensures)).stretches

pub ask_all-requires-clause-begins : goal.ask_all-requires-clause-begins
ask_all-requires-clause-begins c a i = edged_divided c.self.inside.columns.items c.add_all.new.columns.items (all_edged (c.len-number.result + 1) c.args.task c.in-Some.creator c.in-Some-take.kept c.self.inside.columns.items c.add_all.new.columns.items (subst (λ (xs : List Access). AreAllGrown (c.len-number.result + 1) c.args.task c.in-Some.creator xs c.self.inside.columns.items c.add_all.new.columns.items) c.as_slice-2.ensures c.add_all.ensures)) a.range.lo (view_ready (record { opens = c.self.inside.opens.items; pieces = c.self.inside.map.pieces; columns = c.self.inside.columns.items; ended = c.self.inside.ended; reserved = c.self.inside.reserved }) c.args.self.now c.self.view_is (vec_capacity c.self.inside.opens) c.self.invariant (record { task = c.args.task; parent = c.args.parent; accesses = c.in-Some-take.kept }) (can_kept (record { opens = c.self.inside.opens.items; pieces = c.self.inside.map.pieces; columns = c.self.inside.columns.items; ended = c.self.inside.ended; reserved = c.self.inside.reserved }) c.args.self.now c.self.view_is (vec_capacity c.self.inside.opens) c.self.invariant c.args.task c.args.parent c.in-Some-take.kept c.requires.0 (sym c.take.ensures.value ∙ c.in-Some-take.is) c.requires.1 c.requires.2) c.in-Some.creator (subst (λ (xs : List Open). IsNumberOf xs c.in-Some.creator c.args.parent) c.as_slice.ensures.value c.in-Some.ensures.found) (sym c.take.ensures.value ∙ c.in-Some-take.is) a (subst (λ (xs : List Access). IsIn a xs) c.as_slice-3.ensures i)).begins

pub ask_all-requires-clause-ends : goal.ask_all-requires-clause-ends
ask_all-requires-clause-ends c a i = edged_divided c.self.inside.columns.items c.add_all.new.columns.items (all_edged (c.len-number.result + 1) c.args.task c.in-Some.creator c.in-Some-take.kept c.self.inside.columns.items c.add_all.new.columns.items (subst (λ (xs : List Access). AreAllGrown (c.len-number.result + 1) c.args.task c.in-Some.creator xs c.self.inside.columns.items c.add_all.new.columns.items) c.as_slice-2.ensures c.add_all.ensures)) a.range.hi (view_ready (record { opens = c.self.inside.opens.items; pieces = c.self.inside.map.pieces; columns = c.self.inside.columns.items; ended = c.self.inside.ended; reserved = c.self.inside.reserved }) c.args.self.now c.self.view_is (vec_capacity c.self.inside.opens) c.self.invariant (record { task = c.args.task; parent = c.args.parent; accesses = c.in-Some-take.kept }) (can_kept (record { opens = c.self.inside.opens.items; pieces = c.self.inside.map.pieces; columns = c.self.inside.columns.items; ended = c.self.inside.ended; reserved = c.self.inside.reserved }) c.args.self.now c.self.view_is (vec_capacity c.self.inside.opens) c.self.invariant c.args.task c.args.parent c.in-Some-take.kept c.requires.0 (sym c.take.ensures.value ∙ c.in-Some-take.is) c.requires.1 c.requires.2) c.in-Some.creator (subst (λ (xs : List Open). IsNumberOf xs c.in-Some.creator c.args.parent) c.as_slice.ensures.value c.in-Some.ensures.found) (sym c.take.ensures.value ∙ c.in-Some-take.is) a (subst (λ (xs : List Access). IsIn a xs) c.as_slice-3.ensures i)).ends

pub invariant_of-self : goal.invariant_of-self
invariant_of-self c = right_now (view_opened (record { opens = c.self.inside.opens.items; pieces = c.self.inside.map.pieces; columns = c.self.inside.columns.items; ended = c.self.inside.ended; reserved = c.self.inside.reserved }) c.args.self.now c.self.view_is (vec_capacity c.self.inside.opens) c.self.invariant (record { task = c.args.task; parent = c.args.parent; accesses = c.in-Some-take.kept }) (can_kept (record { opens = c.self.inside.opens.items; pieces = c.self.inside.map.pieces; columns = c.self.inside.columns.items; ended = c.self.inside.ended; reserved = c.self.inside.reserved }) c.args.self.now c.self.view_is (vec_capacity c.self.inside.opens) c.self.invariant c.args.task c.args.parent c.in-Some-take.kept c.requires.0 (sym c.take.ensures.value ∙ c.in-Some-take.is) c.requires.1 c.requires.2) c.in-Some.creator (subst (λ (xs : List Open). IsNumberOf xs c.in-Some.creator c.args.parent) c.as_slice.ensures.value c.in-Some.ensures.found) (sym c.take.ensures.value ∙ c.in-Some-take.is) c.add_all.new.columns.items (c.len-number.result + 1) (omega (arith, c.len-number.ensures)) (subst (λ (xs : List Access). AreAllGrown (c.len-number.result + 1) c.args.task c.in-Some.creator xs c.self.inside.columns.items c.add_all.new.columns.items) c.as_slice-2.ensures c.add_all.ensures) c.ask_all.new.columns.items (vec_capacity c.push_reserved.new.self) c.ask_all.ensures.same)
  where
    right_now : AreRight (c.self.inside.opens.items ++ (record { task = c.args.task; parent = c.args.parent; accesses = c.in-Some-take.kept }) ∷ []) (vec_capacity c.push_reserved.new.self) c.self.inside.map.pieces c.ask_all.new.columns.items None → AreRight c.push_reserved.new.self.items (vec_capacity c.push_reserved.new.self) c.self.inside.map.pieces c.ask_all.new.columns.items c.take.new.self
    right_now r = subst (λ (x : Option (List Access)). AreRight c.push_reserved.new.self.items (vec_capacity c.push_reserved.new.self) c.self.inside.map.pieces c.ask_all.new.columns.items x) (sym c.take.ensures.after) (subst (λ (xs : List Open). AreRight xs (vec_capacity c.push_reserved.new.self) c.self.inside.map.pieces c.ask_all.new.columns.items None) (sym c.push_reserved.ensures.items) r)

pub returns : goal.returns
returns c accesses e = subst (λ (xs : List Access). Opens (record { task = c.args.task; parent = c.args.parent; accesses = xs }) (seen_of c.args.self.now) (seen_of (record { opens = c.push_reserved.new.self.items; pieces = c.self.inside.map.pieces; columns = c.ask_all.new.columns.items; ended = c.ask_all.new.ended; reserved = c.take.new.self }))) (kept_is (record { opens = c.self.inside.opens.items; pieces = c.self.inside.map.pieces; columns = c.self.inside.columns.items; ended = c.self.inside.ended; reserved = c.self.inside.reserved }) c.args.self.now c.self.view_is (vec_capacity c.self.inside.opens) c.self.invariant c.in-Some-take.kept accesses (sym c.take.ensures.value ∙ c.in-Some-take.is) e) (opens_now (record { opens = c.self.inside.opens.items; pieces = c.self.inside.map.pieces; columns = c.self.inside.columns.items; ended = c.self.inside.ended; reserved = c.self.inside.reserved }) c.args.self.now c.self.view_is (vec_capacity c.self.inside.opens) c.self.invariant (record { task = c.args.task; parent = c.args.parent; accesses = c.in-Some-take.kept }) (can_kept (record { opens = c.self.inside.opens.items; pieces = c.self.inside.map.pieces; columns = c.self.inside.columns.items; ended = c.self.inside.ended; reserved = c.self.inside.reserved }) c.args.self.now c.self.view_is (vec_capacity c.self.inside.opens) c.self.invariant c.args.task c.args.parent c.in-Some-take.kept c.requires.0 (sym c.take.ensures.value ∙ c.in-Some-take.is) c.requires.1 c.requires.2) c.in-Some.creator (subst (λ (xs : List Open). IsNumberOf xs c.in-Some.creator c.args.parent) c.as_slice.ensures.value c.in-Some.ensures.found) (sym c.take.ensures.value ∙ c.in-Some-take.is) c.add_all.new.columns.items (c.len-number.result + 1) (omega (arith, c.len-number.ensures)) (subst (λ (xs : List Access). AreAllGrown (c.len-number.result + 1) c.args.task c.in-Some.creator xs c.self.inside.columns.items c.add_all.new.columns.items) c.as_slice-2.ensures c.add_all.ensures) (record { opens = c.push_reserved.new.self.items; pieces = c.self.inside.map.pieces; columns = c.ask_all.new.columns.items; ended = c.ask_all.new.ended; reserved = c.take.new.self }) c.push_reserved.ensures.items refl c.ask_all.ensures.same (λ k. c.ask_all.ensures.cuts k ∙ ap (λ (xs : List Access). is_cut c.add_all.new.columns.items c.self.inside.ended k || is_access_end xs k) c.as_slice-3.ensures) c.take.ensures.after)
