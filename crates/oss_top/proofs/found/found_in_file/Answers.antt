use Rattle.std.proofs.Common.{◌≡◌, ◌∙◌, ◌≤◌, Err, List, ℕ, ap, length, refl, sym, subst}
use Rattle.std.specs.Prelude.{IfSome}
use Rattle.oss_command.specs.Commands.{meant}
use Rattle.oss_top.specs.Forms.{error_reply, most_bytes}
use Rattle.oss_top.specs.Reply.IsShelfReply.{unread}
use Rattle.oss_top.specs.declared.status.Status.TheVariants as status
use Rattle.oss_top.proofs.FormLemmas.{if_ok, long_replies, read_replies}
use Rattle.oss_top.proofs.FoundLemmas.{found_more, replied_is}
use Rattle.oss_top.specs.Founds.{too_large_reply}
use Rattle.oss_top.proofs.found.found_in_file.Goals as goal

pub returns-in-Ok : goal.returns-in-Ok
returns-in-Ok g c =
    let held = g.S.Shelf.held c.args.shelf.now in
    let text = c.as_slice.result.now in
    let still = (c.in-Ok.ensures.count (λ failed. absurd (cc))).0 in
    let few : length text ≤ most_bytes = subst (λ (xs : List ℕ). length xs ≤ most_bytes) (sym c.as_slice.ensures.value) c.in-Ok.ensures.within in
    let all : IfSome (held c.args.file.now) (λ t. text ≡ t) = subst (λ (xs : List ℕ). IfSome (held c.args.file.now) (λ t. xs ≡ t)) (sym c.as_slice.ensures.value) c.in-Ok.ensures.whole in
    if_ok c.found_by_text.result
    (λ found is. found_more (meant c.args.command) _ _ (λ reply told. read_replies _ _ _ c.in-Ok.ensures.same still (meant c.args.command) c.args.file.now text reply c.requires.named all few told) found is)
    c.found_by_text.ensures

pub returns-in-Err-TooLong : goal.returns-in-Err-TooLong
returns-in-Err-TooLong g c =
    let still = (c.in-Err-TooLong.ensures.count (λ failed. absurd (cc))).0 in
    let long = c.in-Err-TooLong.ensures.too_long (ap Err c.in-Err-TooLong.field-0-is) in
    if_ok c.too_large.result (λ found is. replied_is (meant c.args.command) _ found too_large_reply is (long_replies _ (meant c.args.command) c.args.file.now too_large_reply c.requires.named still long refl)) c.too_large.ensures

pub returns-in-Err-Failed : goal.returns-in-Err-Failed
returns-in-Err-Failed g c =
    let failed = c.in-Err-Failed.ensures.failed (ap Err c.in-Err-Failed.field-0-is) in
    unread c.args.file.now c.requires.named failed.0 failed.1 (c.error.ensures ∙ ap (error_reply status.Unread) c.in_ok-line-in-Err-Failed.ensures)
