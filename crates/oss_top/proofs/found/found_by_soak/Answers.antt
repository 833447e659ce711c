use Rattle.std.proofs.Common.{◌≡◌, ◌∙◌, ◌≤◌, List, ℕ, length, rules, subst}
use Rattle.oss_command.specs.Commands.Command.{soak}
use Rattle.oss_gen.specs.Generated.{generated_text}
use Rattle.oss_top.specs.Reply.{IsFileReply, IsTextReply}
use Rattle.oss_top.specs.Reply.IsFileReply.{fits}
use Rattle.oss_top.proofs.FormLemmas.{if_ok}
use Rattle.oss_top.proofs.FoundLemmas.{found_more}
use Rattle.oss_top.proofs.found.found_by_soak.Goals as goal

pub returns : goal.returns
returns c =
    let asked = c.args.asked in
    let text = c.as_slice-2.result.now in
    let few : length text ≤ 1048576 = search rules in
    let same : text ≡ generated_text asked.number asked.size = c.as_slice-2.ensures ∙ c.in_ok-text.ensures in
    let command = soak asked.number asked.size asked.options in
    if_ok c.found_in_text.result
    (λ found is. found_more command (IsTextReply command text) (IsFileReply command (generated_text asked.number asked.size)) (λ reply told. subst (λ (t : List ℕ). IsFileReply (soak asked.number asked.size asked.options) t reply) same (fits few told)) found is) c.found_in_text.ensures
