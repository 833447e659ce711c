-- The laws as they are claimed.
use Rattle.std.proofs.Common.{sym, ap, ◌∙◌}
use Rattle.oss_access_lists.specs.declared.marks.Marks.{Marks}
use Rattle.oss_access_lists.specs.Claims.{DueIsSo, RestIsExact, LastTellsOfAll, QuietIsAtRest, BeginningsStand, OpeningsKeep, GiftsKeep, DeliveriesKeep, OpeningsStay, GiftsStay}
use Rattle.oss_access_lists.proofs.SoundLemmas.{due_so}
use Rattle.oss_access_lists.proofs.StepLemmas.{delivered, told_from, rest_exact, quiet_rests, last_tells}
use Rattle.oss_access_lists.proofs.StartLemmas.{begin_stands}
use Rattle.oss_access_lists.proofs.GrowLemmas.{hung_means, hung_stands}
use Rattle.oss_access_lists.proofs.GiftLemmas.{gift_stands, gift_stays}

pub due_is_so : DueIsSo
due_is_so w F ok so f v d = due_so w ok F so f v d

pub rest_is_exact : RestIsExact
rest_is_exact = rest_exact

pub last_tells_of_all : LastTellsOfAll
last_tells_of_all = last_tells

pub quiet_is_at_rest : QuietIsAtRest
quiet_is_at_rest = quiet_rests

pub beginnings_stand : BeginningsStand
beginnings_stand = begin_stands

pub openings_keep : OpeningsKeep
openings_keep w n p e F P Q hung posts stands = hung_stands w n p e stands.wired hung F P Q stands posts.bare posts.others posts.due posts.told

pub gifts_keep : GiftsKeep
gifts_keep w n g F P Q gift posts stands = gift_stands w n g gift F P Q stands posts.kept posts.due posts.given posts.bare posts.last

pub deliveries_keep : DeliveriesKeep
deliveries_keep w F P G Q t is stands =
    delivered w F P G Q stands is.news is.due (told_from w F P G Q t stands is.others is.kept is.next is.child is.up)
    (ap (λ (y : Marks). y.reads) (is.others 0 (λ e. is.not_main (sym e))) ∙ stands.main_reads)
    (ap (λ (y : Marks). y.writes) (is.others 0 (λ e. is.not_main (sym e))) ∙ stands.main_writes)

pub openings_stay : OpeningsStay
openings_stay w n p e ok hung f v other m = hung_means w n p e ok hung f v other m

pub gifts_stay : GiftsStay
gifts_stay w n g gift f v m = gift_stays w n g gift f v m
