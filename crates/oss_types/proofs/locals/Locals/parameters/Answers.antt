use Rattle.std.proofs.Common.{◌≡◌, ◌+◌, ◌++◌, ◌∷◌, ◌∙◌, [], true, false, not, is_some, length, ap, drop, subst, sym}
use Rattle.oss_grammar.specs.Scopes.{is_local_again}
use Rattle.oss_grammar.specs.StaticRules.{declare_all}
use Rattle.oss_types.specs.Tables.{TellsKinds, place_among}
use Rattle.oss_types.proofs.ParameterLemmas.{again-by-table, declared-next, kinds-more, names-many, names-more, names_in}
use Rattle.oss_types.proofs.locals.Locals.parameters.Goals as goal
use Rattle.oss_types.proofs.locals.Locals.parameters.Goals.{then-is_none+in_ok-add+in_ok-add-2, else-is_none}

pub loop-param-preserved : goal.loop-param-preserved
loop-param-preserved c =
    let ds = c.args.params.now in
    let i = c.loop-param.param-index in
    let d = c.param-item.result in
    let within = c.loop-param-test.true in
    let at = c.param-item.is in
    let ls = c.loop-param.locals in
    let known : is_some c.place.result ≡ is_local_again 0 ls d.name =
    ap is_some (c.place.ensures.first ∙ ap (place_among c.loop-param.names) c.as_slice.ensures ∙ ap (λ names. place_among names d.name) c.loop-param.invariant.named) ∙ again-by-table ls d.name in
    elim c.if-is_none.branch [
      | then-is_none+in_ok-add+in_ok-add-2 w ↦
          let fresh : is_local_again 0 ls d.name ≡ false = sym known ∙ c.is_none.ensures ∙ ap not w.if-is_none.true in
          let locals : c.if-is_none.locals ≡ ls ++ d ∷ [] = w.locals-is ∙ w.in_ok-add-2.ensures.added in
          let names : c.if-is_none.names ≡ c.loop-param.names ++ d.name ∷ [] = w.names-is ∙ w.in_ok-add.ensures.added ∙ ap (λ name. c.loop-param.names ++ name ∷ []) w.as_slice-then-is_none.ensures in
          let size : length c.loop-param.names ≡ length ls = ap length c.loop-param.invariant.named ∙ names-many ls in
          let new : is_some (place_among c.loop-param.names d.name) ≡ false = ap (λ ns. is_some (place_among ns d.name)) c.loop-param.invariant.named ∙ again-by-table ls d.name ∙ fresh in
          record {
            named = names ∙ ap (λ ns. ns ++ d.name ∷ []) c.loop-param.invariant.named ∙ sym (names-more ls d) ∙ ap names_in (sym locals);
            kinds = subst (λ ns. TellsKinds ns c.if-is_none.locals) (sym names)
                (subst (TellsKinds (c.loop-param.names ++ d.name ∷ [])) (sym locals) (kinds-more c.loop-param.names ls d size new c.loop-param.invariant.kinds));
            after = λ all. ap (λ more. (declare_all all 0 (drop (i + 1) ds) more).locals) locals ∙ sym (declared-next all ls ds i d within at false fresh) ∙ c.loop-param.invariant.after all;
          }
      | else-is_none w ↦
          let again : is_local_again 0 ls d.name ≡ true = sym known ∙ c.is_none.ensures ∙ ap not w.if-is_none.false in
          record {
            named = w.names-is ∙ c.loop-param.invariant.named ∙ ap names_in (sym w.locals-is);
            kinds = subst (λ ns. TellsKinds ns c.if-is_none.locals) (sym w.names-is) (subst (TellsKinds c.loop-param.names) (sym w.locals-is) c.loop-param.invariant.kinds);
            after = λ all. ap (λ more. (declare_all all 0 (drop (i + 1) ds) more).locals) w.locals-is ∙ sym (declared-next all ls ds i d within at true again) ∙ c.loop-param.invariant.after all;
          }
    ]
