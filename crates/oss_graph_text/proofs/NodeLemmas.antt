-- Nodes that are added to a text, one with those below it after the other.
use Rattle.std.proofs.Common.{◌≡◌, ◌∙◌, sym, ap, subst, ℕ, ◌+◌, List, [], ◌∷◌, ◌++◌, length, append_assoc, Option, arith}
use Rattle.std.proofs.lemmas.List.{append-nil}
use Rattle.oss_task_graph.specs.declared.graph.Node.{Node}
use Rattle.oss_task_graph.specs.declared.graph.Stop.{Stop}
use Rattle.oss_graph_text.specs.Adding.{AddsNodes}
use Rattle.oss_graph_text.specs.Boxes.{AreNodesText, box_begin, box_end, nodes_below, nodes_past}
use Rattle.oss_graph_text.specs.Boxes.AreNodesText.{none, one_more}
use Rattle.oss_graph_text.specs.Labels.{LabelsSeen}
use Rattle.oss_graph_text.proofs.TextLemmas.{then}

-- three parts behind a text, and a fourth
four : (t0 t1 t2 t3 a b c d : List ℕ) → t1 ≡ t0 ++ a → t2 ≡ t1 ++ b → t3 ≡ t2 ++ c → t3 ++ d ≡ t0 ++ (a ++ (b ++ (c ++ d)))
four t0 t1 t2 t3 a b c d p q r =
    ap (λ (t : List ℕ). t ++ d) (r ∙ ap (λ (t : List ℕ). t ++ c) (q ∙ ap (λ (t : List ℕ). t ++ b) p))
    ∙ append_assoc ((t0 ++ a) ++ b) c d
    ∙ append_assoc (t0 ++ a) b (c ++ d)
    ∙ append_assoc t0 a (b ++ (c ++ d))

-- five parts behind a text
pub five : (t0 t1 t2 t3 t4 t5 a b c d e : List ℕ) → t1 ≡ t0 ++ a → t2 ≡ t1 ++ b → t3 ≡ t2 ++ c → t4 ≡ t3 ++ d → t5 ≡ t4 ++ e → t5 ≡ t0 ++ (a ++ b ++ c ++ d ++ e)
five t0 t1 t2 t3 t4 t5 a b c d e p q r s t =
    then t0 t4 t5 (a ++ b ++ c ++ d) e (then t0 t3 t4 (a ++ b ++ c) d (then t0 t2 t3 (a ++ b) c (then t0 t1 t2 a b p q) r) s) t

-- What is still to be added makes the whole, on this level.
abbrev pub MakesWhole : LabelsSeen → Option Stop → ℕ → List Node → List ℕ → List Node → List ℕ → Type 0
MakesWhole labels fault level nodes old left text = (behind : List ℕ) → AreNodesText labels fault level left behind → AddsNodes labels fault level nodes old (text ++ behind)

module _ (labels : LabelsSeen) (fault : Option Stop) (level : ℕ) (nodes : List Node) (old : List ℕ) where
  -- a node with those below it was added
  added : (n : Node) (rest : List Node) (t0 t1 t2 t3 : List ℕ) → MakesWhole labels fault level nodes old (n ∷ rest) t0
      → t1 ≡ t0 ++ box_begin labels fault level n (nodes_below n rest) → AddsNodes labels fault (level + 1) (nodes_below n rest) t1 t2 → t3 ≡ t2 ++ box_end level (nodes_below n rest)
      → MakesWhole labels fault level nodes old (nodes_past n rest) t3
  added n rest t0 t1 t2 t3 whole one inner end behind is =
      let begin = box_begin labels fault level n (nodes_below n rest) in
      let last = box_end level (nodes_below n rest) in
      subst (λ (t : List ℕ). AddsNodes labels fault level nodes old t) (sym (four t0 t1 t2 t3 begin inner.part last behind one inner.added end))
      (whole (begin ++ (inner.part ++ (last ++ behind))) (one_more inner.is_part is))

  -- the same, where the parts of the list go by other names
  pub goes_on : (left : List Node) (n : Node) (rest below past : List Node) (t0 t1 t2 t3 : List ℕ) → left ≡ n ∷ rest → below ≡ nodes_below n rest → past ≡ nodes_past n rest
      → MakesWhole labels fault level nodes old left t0 → t1 ≡ t0 ++ box_begin labels fault level n below → AddsNodes labels fault (level + 1) below t1 t2 → t3 ≡ t2 ++ box_end level below
      → MakesWhole labels fault level nodes old past t3
  goes_on left n rest below past t0 t1 t2 t3 first front back whole one inner end =
      subst (λ (ns : List Node). MakesWhole labels fault level nodes old ns t3) (sym back)
      (added n rest t0 t1 t2 t3 (subst (λ (ns : List Node). MakesWhole labels fault level nodes old ns t0) first whole)
      (subst (λ (ns : List Node). t1 ≡ t0 ++ box_begin labels fault level n ns) front one)
      (subst (λ (ns : List Node). AddsNodes labels fault (level + 1) ns t1 t2) front inner)
      (subst (λ (ns : List Node). t3 ≡ t2 ++ box_end level ns) front end))

  -- where nothing is left, the whole is added
  pub finished : (left : List Node) (text : List ℕ) → length left ≡ 0 → MakesWhole labels fault level nodes old left text → AddsNodes labels fault level nodes old text
  finished [] text e whole = subst (λ (t : List ℕ). AddsNodes labels fault level nodes old t) (append-nil text) (whole [] none)
  finished (n ∷ rest) text e whole = absurd (omega (arith, e))
